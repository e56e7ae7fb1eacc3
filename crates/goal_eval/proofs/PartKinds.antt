-- Terms with one top have parts of one kind: all arguments, or all clauses.
use Rattle.std.proofs.Common.{◌≡◌, ◌<◌, ◌≤◌, ℕ, Bool, true, false, List, [], ◌∷◌, length, map, refl, sym, ap, ◌∙◌, subst, arith}
use Rattle.std.specs.Prelude.{◌||◌, if◌then◌else◌}
use Rattle.std.specs.List.{All}
use Rattle.goal_terms.specs.TreeOf.{is_type_kind}
use Rattle.goal_terms.specs.declared.terms.AliasTermKind.{AliasTermKind}
use Rattle.std.proofs.lemmas.List.Elements.{All-nil, All-cons, All-head, All-tail, All-weaker, All-same}
use Rattle.goal_terms.specs.Erased.{erased, erased_head, compared_node}
use Rattle.goal_terms.specs.SameHead.{top_of}
use Rattle.goal_terms.specs.Sorts.{sort_of, is_argument_sort, IsSort, HeadFits, Fits, tree_in}
use Rattle.goal_interner.specs.TableMeaning.{tree_at, AreBelow}
use Rattle.goal_terms.specs.Tree.{Tree, node, alias, variable, node_of, parts_of}
use Rattle.goal_terms.specs.declared.compare.Regions.TheVariants.{Forgotten}
use Rattle.goal_terms.specs.declared.heads.Head.{Head}
use Rattle.goal_terms.specs.declared.heads.Head.TheVariants as head
use Rattle.goal_terms.specs.declared.heads.Node.{Node}
use Rattle.goal_terms.specs.declared.heads.Node.TheVariants as nodes
use Rattle.goal_terms.specs.declared.sorts.Sort.{Sort}
use Rattle.goal_terms.specs.declared.sorts.Sort.TheVariants as sorts
use Rattle.goal_interner.specs.declared.term_nodes.TermId.{TermId}
use Rattle.goal_eval.specs.Pending.{is_alias, IsOfSort, IsOfKind, AreListsOfOneKind, HavePartsOfOneKind}

-- whether a constructor's parts are arguments; those of a `dyn` type are clauses
abbrev has_arguments : Head → Bool
has_arguments (head.Dynamic n r) = false
has_arguments h = true

abbrev takes_arguments : Node → Bool
takes_arguments (nodes.Head h) = has_arguments h
takes_arguments (nodes.Alias k) = true
takes_arguments (nodes.Variable v) = true

erasing-keeps : (h : Head) → has_arguments (erased_head h) ≡ has_arguments h
erasing-keeps (head.Dynamic n r) = refl
erasing-keeps (head.Ref r m) = refl
erasing-keeps (head.FnPtr b i f) = refl
erasing-keeps (head.Lifetime r) = refl
erasing-keeps h = refl

comparing-keeps : (n : Node) → takes_arguments (compared_node Forgotten n) ≡ takes_arguments n
comparing-keeps (nodes.Head h) = erasing-keeps h
comparing-keeps (nodes.Alias k) = refl
comparing-keeps (nodes.Variable v) = refl

-- parts of one sort
sorted : (s : Sort) (b : Bool) → is_argument_sort s ≡ b → (ts : List Tree) → All (IsSort s) ts → All (IsOfSort b) ts
sorted s b e ts h = All-weaker (IsSort s) (IsOfSort b) (λ t p. ap is_argument_sort p ∙ e) ts h

-- an element type and a length
two-parts : (ts : List Tree) → length ts ≡ 2 → IsSort sorts.Ty (tree_in ts 0) → IsSort sorts.Const (tree_in ts 1) → All (IsOfSort true) ts
two-parts [] e p q = absurd (omega arith)
two-parts (t ∷ []) e p q = absurd (omega arith)
two-parts (t ∷ u ∷ []) e p q =
    All-cons (IsOfSort true) t (u ∷ []) (ap is_argument_sort p) (All-cons (IsOfSort true) u [] (ap is_argument_sort q) (All-nil (IsOfSort true)))
two-parts (t ∷ u ∷ v ∷ ts) e p q = absurd (omega arith)

no-parts : (b : Bool) (ts : List Tree) → ts ≡ [] → All (IsOfSort b) ts
no-parts b ts e = All-same (IsOfSort b) ts [] e (All-nil (IsOfSort b))

head-parts : (h : Head) (ts : List Tree) → HeadFits h ts → All (IsOfSort (has_arguments h)) ts
head-parts (head.Adt i n) ts f = f.1
head-parts head.Array ts f = two-parts ts f.0 f.1 f.2
head-parts head.Slice ts f = sorted sorts.Ty true refl ts f.1
head-parts (head.RawPtr m) ts f = sorted sorts.Ty true refl ts f.1
head-parts (head.Ref r m) ts f = sorted sorts.Ty true refl ts f.1
head-parts (head.FnDef i n) ts f = f.1
head-parts (head.FnPtr bound inputs fn_traits) ts f = sorted sorts.Ty true refl ts f.1
head-parts (head.Closure i n) ts f = f.1
head-parts (head.Dynamic n r) ts f = sorted sorts.Clause false refl ts f.1
head-parts (head.Tuple n) ts f = sorted sorts.Ty true refl ts f.1
head-parts (head.DynTrait i n) ts f = f.1
head-parts (head.DynProjection i n) ts f = f.1
head-parts (head.Misplaced k) ts f = f
head-parts h ts f = no-parts true ts f

-- what a node's parts are
node-parts : (n : Node) (ts : List Tree) → Fits n ts → All (IsOfSort (takes_arguments n)) ts
node-parts (nodes.Head h) ts f = head-parts h ts f
node-parts (nodes.Alias k) ts f = f
node-parts (nodes.Variable v) ts f = no-parts true ts f

-- two terms whose tops are the same
pub parts-of_one_kind : (t u : Tree) (n m : Node) → n ≡ node_of t → m ≡ node_of u → top_of t ≡ top_of u → Fits n (parts_of t) → Fits m (parts_of u) → HavePartsOfOneKind t u
parts-of_one_kind t u n m e f same p q =
    let one : takes_arguments m ≡ takes_arguments n =
    ap takes_arguments f ∙ sym (comparing-keeps (node_of u)) ∙ ap takes_arguments (sym same) ∙ comparing-keeps (node_of t) ∙ ap takes_arguments (sym e) in
    (takes_arguments n, node-parts n (parts_of t) p, subst (λ b. All (IsOfSort b) (parts_of u)) one (node-parts m (parts_of u) q))

-- the numbers of such parts
kinds-at : (T : List Tree) (b : Bool) (count : ℕ) → count ≤ length T → (ids : List TermId) → AreBelow count ids → All (IsOfSort b) (map (tree_at T) ids) → All (IsOfKind T b) ids
kinds-at T b count less [] below h = All-nil (IsOfKind T b)
kinds-at T b count less (id ∷ ids) below h =
    let first : id.0 < count = All-head (λ (i : TermId). i.0 < count) id ids below in
    All-cons (IsOfKind T b) id ids (omega (arith, first, less), All-head (IsOfSort b) (tree_at T id) (map (tree_at T) ids) h)
    (kinds-at T b count less ids (All-tail (λ (i : TermId). i.0 < count) id ids below) (All-tail (IsOfSort b) (tree_at T id) (map (tree_at T) ids) h))

pub lists-of_one_kind : (T : List Tree) (l r : TermId) (ls rs : List TermId) → l.0 < length T → r.0 < length T →
    map (tree_at T) ls ≡ parts_of (tree_at T l) → AreBelow l.0 ls → map (tree_at T) rs ≡ parts_of (tree_at T r) → AreBelow r.0 rs →
    HavePartsOfOneKind (tree_at T l) (tree_at T r) → AreListsOfOneKind T ls rs
lists-of_one_kind T l r ls rs k m e bl f br h = (
  h.0,
  kinds-at T h.0 l.0 (omega arith) ls bl (subst (All (IsOfSort h.0)) (sym e) h.1),
  kinds-at T h.0 r.0 (omega arith) rs br (subst (All (IsOfSort h.0)) (sym f) h.2),
)

-- an alias is an argument, and so is what is of one kind with it
alias-argument : (k : AliasTermKind) → is_argument_sort (sort_of (nodes.Alias k)) ≡ true
alias-argument k = elim (is_type_kind k) as (λ b. is_argument_sort (if b then sorts.Ty else sorts.Const) ≡ true) [ true ↦ refl | false ↦ refl ]

pub alias-sort : (t u : Tree) (b : Bool) → IsOfSort b t → IsOfSort b u → is_alias (node_of (erased t)) || is_alias (node_of (erased u)) ≡ true → b ≡ true
unfolding erased
alias-sort (alias k ts) u b p q a = sym p ∙ alias-argument k
alias-sort (node h ts) (alias k us) b p q a = sym q ∙ alias-argument k
alias-sort (variable v) (alias k us) b p q a = sym q ∙ alias-argument k
alias-sort (node h ts) (node k us) b p q a = absurd (cc)
alias-sort (node h ts) (variable w) b p q a = absurd (cc)
alias-sort (variable v) (node k us) b p q a = absurd (cc)
alias-sort (variable v) (variable w) b p q a = absurd (cc)
