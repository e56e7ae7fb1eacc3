-- Entries over numbers, with owned terms in place of the numbers.
use Rattle.std.proofs.Common.{◌≡◌, ℕ, ◌<◌, ◌≤◌, ◌+◌, List, [], ◌∷◌, ◌++◌, length, get_or, map, take, Some, Vec, Global, zero, suc, refl, sym, ap, ap₂, ◌∙◌, subst, arith}
use Rattle.std.specs.List.{AllZip}
use Rattle.std.proofs.lemmas.List.{map-append, take_more, take_all}
use Rattle.goal_terms.specs.Erased.{erased, erased_head}
use Rattle.goal_terms.specs.Sorts.{sort_of, sort_of_head, is_term_sort, IsTerm}
use Rattle.goal_interner.specs.TableMeaning.{tree_at}
use Rattle.goal_terms.specs.Tree.{Tree, node, alias, variable, forest, node_of, parts_of}
use Rattle.goal_terms.specs.TreeOf.{tree_of_alias, tree_of_arg, trees_of}
use Rattle.goal_terms.specs.TreeWith.{tree_with}
use Rattle.goal_terms.specs.declared.heads.Head.{Head}
use Rattle.goal_terms.specs.declared.heads.Head.TheVariants.{Ref, FnPtr, Dynamic, Lifetime}
use Rattle.goal_terms.specs.declared.heads.Node.{Node}
use Rattle.goal_terms.specs.declared.heads.Node.TheVariants as nodes
use Rattle.goal_interner.specs.declared.term_nodes.TermId.{TermId}
use Rattle.goal_terms.specs.declared.terms.AliasTerm.{AliasTerm}
use Rattle.goal_terms.specs.declared.terms.AliasTermKind.{AliasTermKind}
use Rattle.goal_terms.specs.declared.terms.GenericArg.{GenericArg}
use Rattle.goal_interner.proofs.InternLemmas.{tree_with-parts}
use Rattle.goal_terms.proofs.TreeLemmas.{tree_of_alias-record}
use Rattle.goal_tables.specs.declared.rows.Tables.{Tables}
use Rattle.goal_lists.specs.Entries.{Entry, ExpectsNone, AsksNoTerm}
use Rattle.goal_lists.specs.Interned.{erased_at, erased_all}
use Rattle.goal_lists.specs.InternedEntries.{entry_at, entries_at}
use Rattle.goal_lists.specs.NamedRows.{IsAlias, IsSorted}
use Rattle.goal_kinds.specs.RebuiltKeys.{KeepsKey}
use Rattle.goal_kinds.specs.RuleLists.{before, names_arguments, entry_of, entries_of}
use Rattle.goal_lists.specs.RowWords.{given}
use Rattle.goal_kinds.specs.RuleWords.{TermIsFor, TermsAreFor}
use Rattle.goal_lists.specs.Words.{Each}
use Rattle.goal_lists.specs.declared.lists.InternedEntry.{InternedEntry}
use Rattle.goal_kinds.specs.declared.rules.RuleEntry.{RuleEntry}
use Rattle.goal_lists.proofs.EachRuleLemmas.{mapped-twice}

-- the sort of a term says nothing of its lifetimes
head_sort-erased : (h : Head) → sort_of_head (erased_head h) ≡ sort_of_head h
head_sort-erased (Ref r m) = refl
head_sort-erased (FnPtr bound inputs fn_traits) = refl
head_sort-erased (Dynamic count r) = refl
head_sort-erased (Lifetime r) = refl
head_sort-erased h = refl

pub sort-of_erased : (t : Tree) → sort_of (node_of (erased t)) ≡ sort_of (node_of t)
unfolding erased
sort-of_erased (node h ts) = head_sort-erased h
sort-of_erased (alias k ts) = refl
sort-of_erased (variable v) = refl

pub term-of_erased : (t : Tree) → IsTerm (erased t) → IsTerm t
term-of_erased t h = sym (ap is_term_sort (sort-of_erased t)) ∙ h

-- a term that is an alias without its lifetimes is one
pub no_other-of_erased : (t : Tree) (n : Node) → n ≡ node_of t → ((k : AliasTermKind) → n ≡ nodes.Alias k → ⊥) → IsAlias (erased t) → ⊥
unfolding erased
no_other-of_erased (node h ts) n e f a = a
no_other-of_erased (alias k ts) n e f a = f k e
no_other-of_erased (variable v) n e f a = a

-- one more argument
pub args-more : (T : List Tree) (ids : List TermId) (i : ℕ) (d : TermId) (args after : List GenericArg) (a : GenericArg) → i < length ids →
    trees_of args ≡ map (tree_at T) (take i ids) → tree_of_arg a ≡ tree_at T (get_or ids i d) → after ≡ args ++ a ∷ [] → trees_of after ≡ map (tree_at T) (take (i + 1) ids)
args-more T ids i d args after a l so_far here e =
    ap trees_of e ∙ map-append tree_of_arg args (a ∷ []) ∙ ap (λ ts. ts ++ tree_of_arg a ∷ []) so_far ∙ ap (λ t. map (tree_at T) (take i ids) ++ t ∷ []) here
    ∙ sym (map-append (tree_at T) (take i ids) (get_or ids i d ∷ [])) ∙ ap (map (tree_at T)) (sym (take_more ids i d l))

pub args-all : (T : List Tree) (ids : List TermId) (i : ℕ) (args : List GenericArg) → length ids ≤ i →
    trees_of args ≡ map (tree_at T) (take i ids) → trees_of args ≡ map (tree_at T) ids
args-all T ids i args l e = e ∙ ap (map (tree_at T)) (take_all i ids l)

-- arguments without lifetimes
pub given-same : (T : List Tree) (ids : List TermId) (args : Vec GenericArg Global) → trees_of args.items ≡ map (tree_at T) ids → given args ≡ erased_all T ids
given-same T ids args e = ap (map erased) e ∙ sym (mapped-twice (tree_at T) erased ids)

-- an alias with the parts of a term as its arguments
pub alias-made : (T : List Tree) (id : TermId) (n : Node) (a : AliasTerm) (ids : List TermId) →
    n ≡ node_of (tree_at T id) → n ≡ nodes.Alias a.kind → map (tree_at T) ids ≡ parts_of (tree_at T id) → trees_of a.args.items ≡ map (tree_at T) ids →
    erased (tree_of_alias a) ≡ erased_at T id
alias-made T id n a ids top is parts made =
    ap erased
    (tree_of_alias-record a ∙ ap (λ ts. alias a.kind (forest ts)) (made ∙ parts)
    ∙ ap (λ m. tree_with m (parts_of (tree_at T id))) (sym is ∙ top) ∙ tree_with-parts (tree_at T id))

-- what is said of a list's entries is said of each
pub sorted-at : (T : List Tree) (es : List InternedEntry) (i : ℕ) (d : InternedEntry) → i < length es → Each IsSorted (entries_at T es) → IsSorted (entry_at T (get_or es i d))
unfolding Each
sorted-at T [] i d l h = absurd (omega arith)
sorted-at T (e ∷ es) zero d l h = h.0
sorted-at T (e ∷ es) (suc i) d l h = sorted-at T es i d (omega arith) h.1

pub asks-at : (T : List Tree) (es : List InternedEntry) (i : ℕ) (d : InternedEntry) → i < length es → AsksNoTerm (entries_at T es) → ExpectsNone (entry_at T (get_or es i d))
unfolding AsksNoTerm
asks-at T [] i d l h = absurd (omega arith)
asks-at T (e ∷ es) zero d l h = h.0
asks-at T (e ∷ es) (suc i) d l h = asks-at T es i d (omega arith) h.1

-- one more entry
pub entries-more : (t : Tables) (T : List Tree) (es : List InternedEntry) (i : ℕ) (d : InternedEntry) (made after : List RuleEntry) (e : RuleEntry) → i < length es →
    map (entry_of t) made ≡ map Some (entries_at T (take i es)) → entry_of t e ≡ Some (entry_at T (get_or es i d)) → after ≡ made ++ e ∷ [] →
    map (entry_of t) after ≡ map Some (entries_at T (take (i + 1) es))
entries-more t T es i d made after e l so_far here is =
    ap (map (entry_of t)) is ∙ map-append (entry_of t) made (e ∷ []) ∙ ap₂ (λ xs x. xs ++ x ∷ []) so_far here
    ∙ sym (map-append Some (entries_at T (take i es)) (entry_at T (get_or es i d) ∷ []))
    ∙ ap (map Some) (sym (map-append (entry_at T) (take i es) (get_or es i d ∷ [])))
    ∙ ap (λ xs. map Some (entries_at T xs)) (sym (take_more es i d l))

pub entries-all : (t : Tables) (T : List Tree) (es : List InternedEntry) (i : ℕ) (made : List RuleEntry) → length es ≤ i →
    map (entry_of t) made ≡ map Some (entries_at T (take i es)) → map (entry_of t) made ≡ map Some (entries_at T es)
entries-all t T es i made l e = e ∙ ap (λ xs. map Some (entries_at T xs)) (take_all i es l)

-- one more entry for an expected term
pub for-more : (P : Tree → Type 0) (made : List RuleEntry) (e : RuleEntry) → TermsAreFor P made → TermIsFor P e → TermsAreFor P (made ++ e ∷ [])
unfolding TermsAreFor
for-more P [] e h k = (k, tt)
for-more P (x ∷ made) e h k = (h.0, for-more P made e h.1 k)

-- two lists in step, with one more of each
pub zip-push : {A B : Type 0} (R : A → B → Type 0) (xs : List A) (ys : List B) (x : A) (y : B) → AllZip R xs ys → R x y → AllZip R (xs ++ x ∷ []) (ys ++ y ∷ [])
zip-push R [] [] x y h r = (r, tt)
zip-push R [] (b ∷ ys) x y h r = absurd h
zip-push R (a ∷ xs) [] x y h r = absurd h
zip-push R (a ∷ xs) (b ∷ ys) x y h r = (h.0, zip-push R xs ys x y h.1 r)

-- one more entry that keeps its key
pub keys-more : (T : List Tree) (es : List InternedEntry) (i : ℕ) (d : InternedEntry) (made after : List RuleEntry) (e : RuleEntry) → i < length es →
    AllZip (KeepsKey T) (take i es) made → KeepsKey T (get_or es i d) e → after ≡ made ++ e ∷ [] → AllZip (KeepsKey T) (take (i + 1) es) after
keys-more T es i d made after e l so_far here is =
    subst (λ xs. AllZip (KeepsKey T) xs after) (sym (take_more es i d l))
    (subst (AllZip (KeepsKey T) (take i es ++ get_or es i d ∷ [])) (sym is) (zip-push (KeepsKey T) (take i es) made (get_or es i d) e so_far here))

pub keys-all : (T : List Tree) (es : List InternedEntry) (i : ℕ) (made : List RuleEntry) → length es ≤ i → AllZip (KeepsKey T) (take i es) made → AllZip (KeepsKey T) es made
keys-all T es i made l h = subst (λ xs. AllZip (KeepsKey T) xs made) (take_all i es l) h

-- entries that are all there are the list
pub entries-named : (t : Tables) (rs : List RuleEntry) (es : List Entry) → map (entry_of t) rs ≡ map Some es → entries_of t rs ≡ es
unfolding entries_of
entries-named t [] [] e = refl
entries-named t [] (x ∷ es) e = absurd (cc)
entries-named t (r ∷ rs) [] e = absurd (cc)
entries-named t (r ∷ rs) (x ∷ es) e =
    let here : entry_of t r ≡ Some x = cc in
    let rest : map (entry_of t) rs ≡ map Some es = cc in
    ap₂ (λ o xs. before (names_arguments r) o xs) here (entries-named t rs es rest)
