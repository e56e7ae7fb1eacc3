-- Terms of rows under arguments that stand in a table, and the parts of a table's terms.
use Rattle.std.proofs.Common.{◌≡◌, ◌<◌, ◌≤◌, ℕ, zero, suc, ◌+◌, true, Vec, Global, Option, Some, None, List, [], ◌∷◌, ◌++◌, length, map, take, get_or, refl, sym, ap, ap₂, ◌∙◌, subst, arith}
use Rattle.std.specs.Prelude.{Result, Ok, Err, IfOk}
use Rattle.std.specs.List.{All}
use Rattle.std.proofs.lemmas.List.{map-append, take_more, take_all}
use Rattle.std.proofs.lemmas.List.Elements.{All-head, All-tail, All-cons, All-nil, All-push, All-weaker}
use Rattle.std.specs.Option.{option_map}
use Rattle.goal_terms.specs.Erased.{erased, erased_row, erased_head}
use Rattle.goal_terms.specs.Sorts.{sort_of, is_argument_sort, IsArgument, IsSort}
use Rattle.goal_interner.specs.TableMeaning.{tree_at, AreBelow, Keeps}
use Rattle.goal_terms.specs.Tree.{Tree, Trees, node, alias, variable, none, more, node_of, parts_of, list_of}
use Rattle.goal_terms.specs.TreeOf.{tree_of_ty, tree_of_sig}
use Rattle.goal_terms.specs.declared.heads.Head.{Head}
use Rattle.goal_terms.specs.declared.heads.Node.TheVariants as nodes
use Rattle.goal_terms.specs.declared.heads.Variable.{Variable}
use Rattle.goal_terms.specs.declared.sorts.Sort.{Sort}
use Rattle.goal_terms.specs.declared.terms.AliasTermKind.{AliasTermKind}
use Rattle.goal_interner.specs.declared.term_nodes.TermId.{TermId}
use Rattle.goal_interner.specs.declared.term_nodes.OutOfMemory.{OutOfMemory}
use Rattle.goal_terms.specs.declared.terms.FnSig.{FnSig}
use Rattle.goal_terms.specs.declared.terms.Ty.{Ty}
use Rattle.goal_terms.proofs.SortLemmas.{ty_sort}
use Rattle.goal_terms.proofs.TreeLemmas.{tree_of_sig-record}
use Rattle.goal_lists.specs.Candidates.{last_of}
use Rattle.goal_lists.specs.Interned.{erased_at, erased_all, IsIn, AreIn, premise_at}
use Rattle.goal_lists.specs.Premises.{Premise}
use Rattle.goal_lists.specs.declared.candidates.interned.InternedPremise.{InternedPremise}
use Rattle.goal_lists.proofs.InternedLemmas.{are_in-grown, all_same-grown}

-- a type and a signature are arguments
pub type-is_argument : (t : Ty) → IsArgument (tree_of_ty t)
type-is_argument t = ap is_argument_sort (ty_sort t)

pub signature-is_argument : (s : FnSig) → IsArgument (tree_of_sig s)
signature-is_argument s = ap (λ t. is_argument_sort (sort_of (node_of t))) (tree_of_sig-record s)

-- one more term
pub in-more : (T U : List Tree) (ids : List TermId) (id : TermId) → Keeps T U → AreIn T ids → IsIn U id → AreIn U (ids ++ id ∷ [])
in-more T U ids id keeps h here = All-push (IsIn U) ids id (are_in-grown T U keeps ids h) here

pub terms-more : (A : Type 0) (f : A → Tree) (T U : List Tree) (ids : List TermId) (id : TermId) (xs : List A) (i : ℕ) (x : A) → Keeps T U → AreIn T ids →
    i < length xs → erased_all T ids ≡ map f (take i xs) → erased_at U id ≡ f (get_or xs i x) → erased_all U (ids ++ id ∷ []) ≡ map f (take (i + 1) xs)
terms-more A f T U ids id xs i x keeps h within before here =
    map-append (erased_at U) ids (id ∷ [])
    ∙ ap₂ (λ us u. us ++ u ∷ []) (all_same-grown T U keeps ids h ∙ before) here
    ∙ sym (ap (map f) (take_more xs i x within) ∙ map-append f (take i xs) (get_or xs i x ∷ []))

-- numbers of arguments, from their trees
pub numbers-in : (T : List Tree) (ids : List TermId) → AreBelow (length T) ids → All IsArgument (map (tree_at T) ids) → AreIn T ids
numbers-in T [] below h = All-nil (IsIn T)
numbers-in T (id ∷ ids) below h =
    All-cons (IsIn T) id ids (All-head (λ p. p.0 < length T) id ids below, All-head IsArgument (tree_at T id) (map (tree_at T) ids) h)
    (numbers-in T ids (All-tail (λ p. p.0 < length T) id ids below) (All-tail IsArgument (tree_at T id) (map (tree_at T) ids) h))

-- erased parts are the parts of the erased term
pub erased-list : (ts : Trees) → list_of (erased_row ts) ≡ map erased (list_of ts)
unfolding erased_row
erased-list none = refl
erased-list (more t ts) = ap (λ us. erased t ∷ us) (erased-list ts)

pub erased-parts : (t : Tree) → parts_of (erased t) ≡ map erased (parts_of t)
unfolding erased
erased-parts (node h ts) = erased-list ts
erased-parts (alias k ts) = erased-list ts
erased-parts (variable v) = refl

pub erased_all-map : (T : List Tree) (ids : List TermId) → erased_all T ids ≡ map erased (map (tree_at T) ids)
erased_all-map T [] = refl
erased_all-map T (id ∷ ids) = ap (λ ts. erased_at T id ∷ ts) (erased_all-map T ids)

pub parts-erased : (T : List Tree) (id : TermId) (ids : List TermId) → map (tree_at T) ids ≡ parts_of (tree_at T id) → erased_all T ids ≡ parts_of (erased_at T id)
parts-erased T id ids e = erased_all-map T ids ∙ ap (map erased) e ∙ sym (erased-parts (tree_at T id))

-- all parts of a term, copied
pub copied-in : (T : List Tree) (id : TermId) (ids parts : List TermId) (i : ℕ) → IsIn T id → All IsArgument (parts_of (tree_at T id)) →
    map (tree_at T) parts ≡ parts_of (tree_at T id) → AreBelow id.0 parts → length parts ≤ i → ids ≡ take i parts → AreIn T ids
copied-in T id ids parts i h arguments same below l e =
    subst (AreIn T) (sym (e ∙ take_all i parts l))
    (numbers-in T parts (All-weaker (λ p. p.0 < id.0) (λ p. p.0 < length T) (λ p b. omega (arith, h.0)) parts below) (subst (All IsArgument) (sym same) arguments))

pub copied-trees : (T : List Tree) (id : TermId) (ids parts : List TermId) (i : ℕ) →
    map (tree_at T) parts ≡ parts_of (tree_at T id) → length parts ≤ i → ids ≡ take i parts → map (tree_at T) ids ≡ parts_of (tree_at T id)
copied-trees T id ids parts i same l e = ap (map (tree_at T)) (e ∙ take_all i parts l) ∙ same

-- the last part
last-mapped : {A : Type 0} (f : A → Tree) (xs : List A) (k : ℕ) (d : A) → length xs ≡ k + 1 → last_of (map f xs) ≡ Some (f (get_or xs k d))
unfolding last_of
last-mapped f [] k d e = absurd (omega arith)
last-mapped f (x ∷ []) zero d e = refl
last-mapped f (x ∷ []) (suc k) d e = absurd (omega arith)
last-mapped f (x ∷ y ∷ ys) zero d e = absurd (omega arith)
last-mapped f (x ∷ y ∷ ys) (suc k) d e = last-mapped f (y ∷ ys) k d (omega arith)

pub last-none : (T : List Tree) (id : TermId) (parts : List TermId) → map (tree_at T) parts ≡ parts_of (tree_at T id) → length parts ≡ 0 → None ≡ last_of (parts_of (erased_at T id))
unfolding last_of
last-none T id [] same e = ap last_of (parts-erased T id [] same)
last-none T id (p ∷ ps) same e = absurd (omega arith)

pub last-some : (T : List Tree) (id d : TermId) (parts : List TermId) (k : ℕ) → map (tree_at T) parts ≡ parts_of (tree_at T id) → length parts ≡ k + 1 →
    Some (erased_at T (get_or parts k d)) ≡ last_of (parts_of (erased_at T id))
last-some T id d parts k same e = sym (last-mapped (erased_at T) parts k d e) ∙ ap last_of (parts-erased T id parts same)

-- a part among others
pub part-in : (T : List Tree) (id d : TermId) (parts : List TermId) (k : ℕ) → IsIn T id → All IsArgument (parts_of (tree_at T id)) →
    map (tree_at T) parts ≡ parts_of (tree_at T id) → AreBelow id.0 parts → k < length parts → IsIn T (get_or parts k d)
part-in T id d parts k h arguments same below l =
    copied-in T id parts parts (length parts) h arguments same below (omega arith) (sym (take_all (length parts) parts (omega arith))) k d l

-- parts of one sort are arguments
pub sorts-arguments : (s : Sort) (ts : List Tree) → is_argument_sort s ≡ true → All (IsSort s) ts → All IsArgument ts
sorts-arguments s ts e h = All-weaker (IsSort s) IsArgument (λ t same. ap is_argument_sort same ∙ e) ts h

-- what is said of a term without lifetimes, by its top
pub at-head : {A : Type 0} (f : Tree → A) (g : Head → List Tree → A) → ((h : Head) (ts : Trees) → f (node h ts) ≡ g h (list_of ts)) →
    (u : Tree) (h : Head) → nodes.Head h ≡ node_of u → g (erased_head h) (parts_of (erased u)) ≡ f (erased u)
unfolding erased
at-head f g e (node k ts) h s = let same : h ≡ k = cc in ap (λ x. g (erased_head x) (list_of (erased_row ts))) same ∙ sym (e (erased_head k) (erased_row ts))
at-head f g e (alias k ts) h s = absurd (cc)
at-head f g e (variable v) h s = absurd (cc)

pub at-alias : {A : Type 0} (f : Tree → A) (a : A) → ((k : AliasTermKind) (ts : Trees) → f (alias k ts) ≡ a) →
    (u : Tree) (k : AliasTermKind) → nodes.Alias k ≡ node_of u → a ≡ f (erased u)
unfolding erased
at-alias f a e (node h ts) k s = absurd (cc)
at-alias f a e (alias j ts) k s = sym (e j (erased_row ts))
at-alias f a e (variable v) k s = absurd (cc)

pub at-variable : {A : Type 0} (f : Tree → A) (a : A) → ((v : Variable) → f (variable v) ≡ a) →
    (u : Tree) (v : Variable) → nodes.Variable v ≡ node_of u → a ≡ f (erased u)
unfolding erased
at-variable f a e (node h ts) v s = absurd (cc)
at-variable f a e (alias j ts) v s = absurd (cc)
at-variable f a e (variable w) v s = sym (e w)

-- premises that are made
pub premises-are : (T : List Tree) (r : Result (Option (Vec InternedPremise Global)) OutOfMemory) (a b : Option (List Premise)) → a ≡ b →
    IfOk r (λ o. option_map (λ ps. map (premise_at T) ps.items) o ≡ a) → IfOk r (λ o. option_map (λ ps. map (premise_at T) ps.items) o ≡ b)
premises-are T (Ok o) a b e h = h ∙ e
premises-are T (Err x) a b e h = tt

-- types that are made, and a signature
pub types-are : (T : List Tree) (r : Result (Option (Vec TermId Global)) OutOfMemory) (a b : Option (List Tree)) → a ≡ b →
    IfOk r (λ o. option_map (λ ids. erased_all T ids.items) o ≡ a) → IfOk r (λ o. option_map (λ ids. erased_all T ids.items) o ≡ b)
types-are T (Ok o) a b e h = h ∙ e
types-are T (Err x) a b e h = tt

pub term-is : (T : List Tree) (r : Result (Option TermId) OutOfMemory) (a b : Option Tree) → a ≡ b →
    IfOk r (λ o. option_map (erased_at T) o ≡ a) → IfOk r (λ o. option_map (erased_at T) o ≡ b)
term-is T (Ok o) a b e h = h ∙ e
term-is T (Err x) a b e h = tt

-- what is said of every term with a constructor
pub at-top : {A : Type 0} (f : Tree → A) (a : A) (u : Tree) (h : Head) → nodes.Head h ≡ node_of u → ((ts : Trees) → a ≡ f (node (erased_head h) ts)) → a ≡ f (erased u)
unfolding erased
at-top f a (node k ts) h s each = let same : h ≡ k = cc in each (erased_row ts) ∙ ap (λ x. f (node (erased_head x) (erased_row ts))) same
at-top f a (alias k ts) h s each = absurd (cc)
at-top f a (variable v) h s each = absurd (cc)
