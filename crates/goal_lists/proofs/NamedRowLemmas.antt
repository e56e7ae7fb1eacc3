-- Entries name the rows that they borrow from.
use Rattle.std.proofs.Common.{◌≡◌, ◌==◌, ℕ, List, [], ◌∷◌, ◌++◌, Some, refl, sym, ◌∙◌, ap, ap₂, subst}
use Rattle.std.specs.List.{All, find}
use Rattle.std.specs.Option.{option_map}
use Rattle.std.proofs.lemmas.Bool.{eqb-true}
use Rattle.std.proofs.lemmas.List.Elements.{All-cons, All-nil, All-push, All-append}
use Rattle.goal_terms.specs.Tree.{Tree}
use Rattle.goal_terms.specs.TreeOf.{trees_of, tree_of_ty}
use Rattle.goal_terms.specs.declared.answers.GoalSource.{GoalSource}
use Rattle.goal_terms.specs.declared.answers.ParamKind.{ParamKind}
use Rattle.goal_terms.specs.declared.terms.GenericArg.{GenericArg}
use Rattle.goal_tables.specs.Rows.{impl_of, inherent_impl_of}
use Rattle.goal_tables.specs.declared.rows.ImplRow.{ImplRow}
use Rattle.goal_tables.specs.declared.rows.InherentImplRow.{InherentImplRow}
use Rattle.goal_tables.specs.declared.rows.Tables.{Tables}
use Rattle.goal_lists.specs.Entries.{of_header, of_other_header, Entry, premise_entry, premise_entries}
use Rattle.goal_lists.specs.InternedEntries.{entry_at, entries_at}
use Rattle.goal_lists.specs.NamedRows.{NamesItsRows}
use Rattle.goal_lists.specs.Premises.{Premise, predicate, equation}
use Rattle.goal_lists.specs.RowWords.{header_arguments, other_arguments}
use Rattle.goal_lists.specs.declared.lists.InternedEntry.{InternedEntry}
use Rattle.goal_lists.specs.declared.lists.InternedEntry.TheVariants as entries
use Rattle.goal_lists.specs.declared.lists.RuleHeader.TheVariants as header
use Rattle.goal_lists.proofs.AlikeSettings.{found}

-- the header of an impl that the tables have under its id
pub impl-header : (t : Tables) (r : ImplRow) (ps : List ParamKind) (args : List GenericArg) → impl_of t r.id ≡ Some r → ps ≡ r.params.items → args ≡ r.trait_args.items →
    (gs : List Tree) → header_arguments t (header.Impl r.id) gs ≡ Some (of_header ps (trees_of args) gs)
impl-header t r ps args found same_params same_args gs =
    ap (option_map (λ q. of_header q.params.items (trees_of q.trait_args.items) gs)) found
    ∙ ap₂ (λ xs ys. Some (of_header xs (trees_of ys) gs)) (sym same_params) (sym same_args)

-- one and two entries
pub one-named : (t : Tables) (es : List InternedEntry) (a : InternedEntry) → es ≡ a ∷ [] → NamesItsRows t a → All (NamesItsRows t) es
one-named t es a made h = subst (All (NamesItsRows t)) (sym made) (All-cons (NamesItsRows t) a [] h (All-nil (NamesItsRows t)))

pub two-named : (t : Tables) (es : List InternedEntry) (a b : InternedEntry) → es ≡ a ∷ b ∷ [] → NamesItsRows t a → NamesItsRows t b → All (NamesItsRows t) es
two-named t es a b made h k =
    subst (All (NamesItsRows t)) (sym made) (All-cons (NamesItsRows t) a (b ∷ []) h (All-cons (NamesItsRows t) b [] k (All-nil (NamesItsRows t))))

-- three and four
pub three-named : (t : Tables) (es : List InternedEntry) (a b c : InternedEntry) → es ≡ a ∷ b ∷ c ∷ [] → NamesItsRows t a → NamesItsRows t b → NamesItsRows t c →
    All (NamesItsRows t) es
three-named t es a b c made h k l =
    subst (All (NamesItsRows t)) (sym made) (All-cons (NamesItsRows t) a (b ∷ c ∷ []) h (two-named t (b ∷ c ∷ []) b c refl k l))

pub four-named : (t : Tables) (es : List InternedEntry) (a b c d : InternedEntry) → es ≡ a ∷ b ∷ c ∷ d ∷ [] → NamesItsRows t a → NamesItsRows t b → NamesItsRows t c →
    NamesItsRows t d → All (NamesItsRows t) es
four-named t es a b c d made h k l m =
    subst (All (NamesItsRows t)) (sym made) (All-cons (NamesItsRows t) a (b ∷ c ∷ d ∷ []) h (three-named t (b ∷ c ∷ d ∷ []) b c d refl k l m))

-- the header of an inherent impl that the tables have under its id
pub inherent-header : (t : Tables) (q : InherentImplRow) (ps : List ParamKind) → inherent_impl_of t q.id ≡ Some q → ps ≡ q.params.items →
    (gs : List Tree) → header_arguments t (header.InherentImpl q.id) gs ≡ Some (of_header ps (tree_of_ty q.self_ty ∷ []) gs)
inherent-header t q ps found same gs =
    ap (option_map (λ x. of_header x.params.items (tree_of_ty x.self_ty ∷ []) gs)) found ∙ ap (λ xs. Some (of_header xs (tree_of_ty q.self_ty ∷ []) gs)) (sym same)

-- the header of an impl that is matched with that of another one, the tables having both under their ids
pub other-header : (t : Tables) (q r : ImplRow) (n : ℕ) (ps : List ParamKind) (hs gs : List GenericArg) → impl_of t q.id ≡ Some q → impl_of t r.id ≡ Some r →
    ps ≡ q.params.items → hs ≡ q.trait_args.items → gs ≡ r.trait_args.items →
    other_arguments (impl_of t q.id) (impl_of t r.id) n ≡ Some (of_other_header ps (trees_of hs) (trees_of gs) n)
other-header t q r n ps hs gs first second same_params same_header same_args =
    ap₂ (λ x y. other_arguments x y n) first second
    ∙ ap₂ (λ xs ys. Some (of_other_header xs (trees_of ys) (trees_of r.trait_args.items) n)) (sym same_params) (sym same_header)
    ∙ ap (λ zs. Some (of_other_header ps (trees_of hs) (trees_of zs) n)) (sym same_args)

-- a row that is found is found under its own id
pub found-again : {A : Type 0} (key : A → ℕ) (xs : List A) (n : ℕ) (x : A) → find (λ r. key r == n) xs ≡ Some x → find (λ r. key r == key x) xs ≡ Some x
found-again key xs n x e = ap (λ m. find (λ r. key r == m) xs) (eqb-true (key x) n (found (λ r. key r == n) xs x e).1) ∙ e

-- one more entry, and further ones behind a list
pub pushed-named : (t : Tables) (es fs : List InternedEntry) (a : InternedEntry) → es ≡ fs ++ a ∷ [] → All (NamesItsRows t) fs → NamesItsRows t a → All (NamesItsRows t) es
pushed-named t es fs a made h here = subst (All (NamesItsRows t)) (sym made) (All-push (NamesItsRows t) fs a h here)

pub joined-named : (t : Tables) (es fs gs : List InternedEntry) → es ≡ fs ++ gs → All (NamesItsRows t) fs → All (NamesItsRows t) gs → All (NamesItsRows t) es
joined-named t es fs gs made h k = subst (All (NamesItsRows t)) (sym made) (All-append (NamesItsRows t) fs gs h k)

-- an entry that stands for a premise names no row
premise-names : (t : Tables) (T : List Tree) (g : GoalSource) (e : InternedEntry) (p : Premise) → entry_at T e ≡ premise_entry g p → NamesItsRows t e
premise-names t T g (entries.EqualTerms a b) p e = tt
premise-names t T g (entries.Clause h q) p e = tt
premise-names t T g (entries.Arguments a) (predicate p) e = absurd (cc)
premise-names t T g (entries.Arguments a) (equation x y) e = absurd (cc)
premise-names t T g (entries.RowClauses i cs n) (predicate p) e = absurd (cc)
premise-names t T g (entries.RowClauses i cs n) (equation x y) e = absurd (cc)
premise-names t T g (entries.RowConditions c i rs n) (predicate p) e = absurd (cc)
premise-names t T g (entries.RowConditions c i rs n) (equation x y) e = absurd (cc)
premise-names t T g (entries.Expected u) (predicate p) e = absurd (cc)
premise-names t T g (entries.Expected u) (equation x y) e = absurd (cc)
premise-names t T g (entries.Access a) p e = tt
premise-names t T g (entries.DelayedFault f) p e = tt
premise-names t T g entries.Evaluation p e = tt
premise-names t T g entries.Ambiguous p e = tt
premise-names t T g entries.Undecided p e = tt
premise-names t T g entries.Refused p e = tt

first-same : (x y : Entry) (xs ys : List Entry) → x ∷ xs ≡ y ∷ ys → x ≡ y
first-same x y xs ys e = cc

rest-same : (x y : Entry) (xs ys : List Entry) → x ∷ xs ≡ y ∷ ys → xs ≡ ys
rest-same x y xs ys e = cc

pub premises-name : (t : Tables) (T : List Tree) (g : GoalSource) (es : List InternedEntry) (ps : List Premise) → entries_at T es ≡ premise_entries g ps → All (NamesItsRows t) es
premises-name t T g [] ps e = All-nil (NamesItsRows t)
premises-name t T g (x ∷ es) [] e = absurd (cc)
premises-name t T g (x ∷ es) (p ∷ ps) e =
    All-cons (NamesItsRows t) x es (premise-names t T g x p (first-same _ _ _ _ e)) (premises-name t T g es ps (rest-same _ _ (entries_at T es) (premise_entries g ps) e))
