-- Which trees a variable may stand for.
use Rattle.std.proofs.Common.{◌≡◌, ◌⊎◌, true, refl, sym, ap, ◌∙◌, inl, inr}
use Rattle.std.specs.Prelude.{IsTrue}
use Rattle.std.proofs.lemmas.Bool.{false≢true}
use Rattle.goal_terms.specs.NodeTests.{same_var_kind}
use Rattle.goal_terms.specs.Erased.{erased, erased_head}
use Rattle.goal_terms.specs.Sorts.{sort_of, sort_of_head}
use Rattle.goal_terms.specs.declared.heads.Head.{Head}
use Rattle.goal_terms.specs.declared.sorts.Sort.{Sort}
use Rattle.goal_terms.specs.declared.sorts.Sort.TheVariants as sorts
use Rattle.goal_terms.specs.Tree.{Tree, node, alias, variable, node_of}
use Rattle.goal_terms.specs.declared.answers.VarKind.{VarKind}
use Rattle.goal_terms.specs.declared.answers.VarKind.TheVariants as kind
use Rattle.goal_terms.specs.declared.heads.Head.TheVariants as head
use Rattle.goal_terms.specs.declared.heads.Node.{Node}
use Rattle.goal_terms.specs.declared.heads.Node.TheVariants as nodes
use Rattle.goal_terms.specs.declared.heads.Variable.{Variable}
use Rattle.goal_terms.specs.declared.heads.Variable.TheVariants as variables
use Rattle.goal_terms.specs.declared.terms.InferTy.TheVariants as infer
use Rattle.goal_infer.specs.Replacement.{number_of, kind_of_variable, replaced, takes, OfKinds, is_type_sort, is_const_sort, is_integer, is_floating}
use Rattle.goal_infer.proofs.ReplacementLemmas.{single, by_same, single-here, single-elsewhere}

pub integer-type : (n : Node) → IsTrue (is_integer n) → IsTrue (is_type_sort (sort_of n))
integer-type (nodes.Head (head.Int i)) h = refl
integer-type (nodes.Head (head.Uint i)) h = refl
integer-type (nodes.Variable (variables.Ty (infer.IntVar n))) h = refl
integer-type _ h = absurd (false≢true h)

pub floating-type : (n : Node) → IsTrue (is_floating n) → IsTrue (is_type_sort (sort_of n))
floating-type (nodes.Head (head.Float i)) h = refl
floating-type (nodes.Variable (variables.Ty (infer.FloatVar n))) h = refl
floating-type _ h = absurd (false≢true h)

-- what may stand for a variable that may stand for another may stand for that
pub takes-through : (v w : Variable) (n : Node) → IsTrue (takes v (nodes.Variable w)) → IsTrue (takes w n) → IsTrue (takes v n)
unfolding takes
takes-through (variables.Ty (infer.TyVar i)) (variables.Ty (infer.TyVar j)) n g h = h
takes-through (variables.Ty (infer.TyVar i)) (variables.Ty (infer.IntVar j)) n g h = integer-type n h
takes-through (variables.Ty (infer.TyVar i)) (variables.Ty (infer.FloatVar j)) n g h = floating-type n h
takes-through (variables.Ty (infer.TyVar i)) (variables.Const j) n g h = absurd (false≢true g)
takes-through (variables.Ty (infer.IntVar i)) (variables.Ty (infer.TyVar j)) n g h = absurd (false≢true g)
takes-through (variables.Ty (infer.IntVar i)) (variables.Ty (infer.IntVar j)) n g h = h
takes-through (variables.Ty (infer.IntVar i)) (variables.Ty (infer.FloatVar j)) n g h = absurd (false≢true g)
takes-through (variables.Ty (infer.IntVar i)) (variables.Const j) n g h = absurd (false≢true g)
takes-through (variables.Ty (infer.FloatVar i)) (variables.Ty (infer.TyVar j)) n g h = absurd (false≢true g)
takes-through (variables.Ty (infer.FloatVar i)) (variables.Ty (infer.IntVar j)) n g h = absurd (false≢true g)
takes-through (variables.Ty (infer.FloatVar i)) (variables.Ty (infer.FloatVar j)) n g h = h
takes-through (variables.Ty (infer.FloatVar i)) (variables.Const j) n g h = absurd (false≢true g)
takes-through (variables.Const i) (variables.Ty (infer.TyVar j)) n g h = absurd (false≢true g)
takes-through (variables.Const i) (variables.Ty (infer.IntVar j)) n g h = absurd (false≢true g)
takes-through (variables.Const i) (variables.Ty (infer.FloatVar j)) n g h = absurd (false≢true g)
takes-through (variables.Const i) (variables.Const j) n g h = h

pub takes-itself : (v : Variable) → IsTrue (takes v (nodes.Variable v))
unfolding takes
takes-itself (variables.Ty (infer.TyVar i)) = refl
takes-itself (variables.Ty (infer.IntVar i)) = refl
takes-itself (variables.Ty (infer.FloatVar i)) = refl
takes-itself (variables.Const i) = refl

-- a replacement of kinds keeps what a variable may stand for
pub takes-replaced : (v : Variable) (σ : Variable → Tree) (t : Tree) → OfKinds σ → IsTrue (takes v (node_of t)) → IsTrue (takes v (node_of (replaced σ t)))
unfolding replaced OfKinds
takes-replaced v σ (node h ts) kinds e = e
takes-replaced v σ (alias k ts) kinds e = e
takes-replaced v σ (variable w) kinds e = takes-through v w (node_of (σ w)) e (kinds w)

pub kinds-single : (v : Variable) (t : Tree) → IsTrue (takes v (node_of t)) → OfKinds (single v t)
unfolding OfKinds
kinds-single v t e w =
    by_same v w (IsTrue (takes w (node_of (single v t w))))
    (λ p. ap (λ z. takes z (node_of (single v t w))) p ∙ ap (λ z. takes v (node_of z)) (single-here v w t p) ∙ e)
    (λ p. ap (λ z. takes w (node_of z)) (single-elsewhere v w t p) ∙ takes-itself w)

pub kinds-replaced : (σ ρ : Variable → Tree) → OfKinds σ → OfKinds ρ → OfKinds (λ v. replaced σ (ρ v))
unfolding OfKinds
kinds-replaced σ ρ f g v = takes-replaced v σ (ρ v) f (g v)

-- a variable is its number and its kind
pub same_var_kind-true : (k l : VarKind) → same_var_kind k l ≡ true → k ≡ l
same_var_kind-true kind.Ty kind.Ty e = refl
same_var_kind-true kind.Int kind.Int e = refl
same_var_kind-true kind.Float kind.Float e = refl
same_var_kind-true kind.Const kind.Const e = refl
same_var_kind-true kind.Region kind.Region e = refl
same_var_kind-true _ _ e = absurd (false≢true e)

pub variable-is : (v w : Variable) → number_of v ≡ number_of w → kind_of_variable v ≡ kind_of_variable w → v ≡ w
variable-is (variables.Ty (infer.TyVar i)) (variables.Ty (infer.TyVar j)) e h = ap (λ n. variables.Ty (infer.TyVar n)) e
variable-is (variables.Ty (infer.TyVar i)) (variables.Ty (infer.IntVar j)) e h = absurd (cc)
variable-is (variables.Ty (infer.TyVar i)) (variables.Ty (infer.FloatVar j)) e h = absurd (cc)
variable-is (variables.Ty (infer.TyVar i)) (variables.Const j) e h = absurd (cc)
variable-is (variables.Ty (infer.IntVar i)) (variables.Ty (infer.TyVar j)) e h = absurd (cc)
variable-is (variables.Ty (infer.IntVar i)) (variables.Ty (infer.IntVar j)) e h = ap (λ n. variables.Ty (infer.IntVar n)) e
variable-is (variables.Ty (infer.IntVar i)) (variables.Ty (infer.FloatVar j)) e h = absurd (cc)
variable-is (variables.Ty (infer.IntVar i)) (variables.Const j) e h = absurd (cc)
variable-is (variables.Ty (infer.FloatVar i)) (variables.Ty (infer.TyVar j)) e h = absurd (cc)
variable-is (variables.Ty (infer.FloatVar i)) (variables.Ty (infer.IntVar j)) e h = absurd (cc)
variable-is (variables.Ty (infer.FloatVar i)) (variables.Ty (infer.FloatVar j)) e h = ap (λ n. variables.Ty (infer.FloatVar n)) e
variable-is (variables.Ty (infer.FloatVar i)) (variables.Const j) e h = absurd (cc)
variable-is (variables.Const i) (variables.Ty (infer.TyVar j)) e h = absurd (cc)
variable-is (variables.Const i) (variables.Ty (infer.IntVar j)) e h = absurd (cc)
variable-is (variables.Const i) (variables.Ty (infer.FloatVar j)) e h = absurd (cc)
variable-is (variables.Const i) (variables.Const j) e h = ap variables.Const e

pub variable-of_kind : (k : VarKind) (v w : Variable) → number_of v ≡ number_of w → same_var_kind k (kind_of_variable v) ≡ true →
    same_var_kind k (kind_of_variable w) ≡ true → v ≡ w
variable-of_kind k v w e f g = variable-is v w e (sym (same_var_kind-true k (kind_of_variable v) f) ∙ same_var_kind-true k (kind_of_variable w) g)

-- lifetimes say nothing of kinds
pub sort-erased : (h : Head) → sort_of_head (erased_head h) ≡ sort_of_head h
sort-erased (head.Ref r m) = refl
sort-erased (head.FnPtr b i f) = refl
sort-erased (head.Dynamic n r) = refl
sort-erased (head.Lifetime r) = refl
sort-erased h = refl

integer-erased : (h : Head) → is_integer (nodes.Head (erased_head h)) ≡ is_integer (nodes.Head h)
integer-erased (head.Ref r m) = refl
integer-erased (head.FnPtr b i f) = refl
integer-erased (head.Dynamic n r) = refl
integer-erased (head.Lifetime r) = refl
integer-erased h = refl

floating-erased : (h : Head) → is_floating (nodes.Head (erased_head h)) ≡ is_floating (nodes.Head h)
floating-erased (head.Ref r m) = refl
floating-erased (head.FnPtr b i f) = refl
floating-erased (head.Dynamic n r) = refl
floating-erased (head.Lifetime r) = refl
floating-erased h = refl

pub takes-erased_head : (v : Variable) (h : Head) → takes v (nodes.Head (erased_head h)) ≡ takes v (nodes.Head h)
unfolding takes
takes-erased_head (variables.Ty (infer.TyVar i)) h = ap is_type_sort (sort-erased h)
takes-erased_head (variables.Ty (infer.IntVar i)) h = integer-erased h
takes-erased_head (variables.Ty (infer.FloatVar i)) h = floating-erased h
takes-erased_head (variables.Const i) h = ap is_const_sort (sort-erased h)

pub takes-erased : (v : Variable) (t : Tree) → takes v (node_of (erased t)) ≡ takes v (node_of t)
unfolding erased
takes-erased v (node h ts) = takes-erased_head v h
takes-erased v (alias k ts) = refl
takes-erased v (variable w) = refl

-- two variables that may stand for one thing: one may stand for the other
type-or-const : (s : Sort) → IsTrue (is_type_sort s) → IsTrue (is_const_sort s) → ⊥
type-or-const sorts.Ty e f = false≢true f
type-or-const sorts.Const e f = false≢true e
type-or-const sorts.Lifetime e f = false≢true e
type-or-const sorts.Clause e f = false≢true e

integer-or-floating : (n : Node) → IsTrue (is_integer n) → IsTrue (is_floating n) → ⊥
integer-or-floating (nodes.Head (head.Int i)) e f = false≢true f
integer-or-floating (nodes.Head (head.Uint i)) e f = false≢true f
integer-or-floating (nodes.Variable (variables.Ty (infer.IntVar n))) e f = false≢true f
integer-or-floating _ e f = false≢true e

pub one-takes : (v w : Variable) (n : Node) → IsTrue (takes v n) → IsTrue (takes w n) → IsTrue (takes v (nodes.Variable w)) ⊎ IsTrue (takes w (nodes.Variable v))
unfolding takes
one-takes (variables.Ty (infer.TyVar i)) (variables.Ty (infer.TyVar j)) n g h = inl refl
one-takes (variables.Ty (infer.TyVar i)) (variables.Ty (infer.IntVar j)) n g h = inl refl
one-takes (variables.Ty (infer.TyVar i)) (variables.Ty (infer.FloatVar j)) n g h = inl refl
one-takes (variables.Ty (infer.TyVar i)) (variables.Const j) n g h = absurd (type-or-const (sort_of n) g h)
one-takes (variables.Ty (infer.IntVar i)) (variables.Ty (infer.TyVar j)) n g h = inr refl
one-takes (variables.Ty (infer.IntVar i)) (variables.Ty (infer.IntVar j)) n g h = inl refl
one-takes (variables.Ty (infer.IntVar i)) (variables.Ty (infer.FloatVar j)) n g h = absurd (integer-or-floating n g h)
one-takes (variables.Ty (infer.IntVar i)) (variables.Const j) n g h = absurd (type-or-const (sort_of n) (integer-type n g) h)
one-takes (variables.Ty (infer.FloatVar i)) (variables.Ty (infer.TyVar j)) n g h = inr refl
one-takes (variables.Ty (infer.FloatVar i)) (variables.Ty (infer.IntVar j)) n g h = absurd (integer-or-floating n h g)
one-takes (variables.Ty (infer.FloatVar i)) (variables.Ty (infer.FloatVar j)) n g h = inl refl
one-takes (variables.Ty (infer.FloatVar i)) (variables.Const j) n g h = absurd (type-or-const (sort_of n) (floating-type n g) h)
one-takes (variables.Const i) (variables.Ty (infer.TyVar j)) n g h = absurd (type-or-const (sort_of n) h g)
one-takes (variables.Const i) (variables.Ty (infer.IntVar j)) n g h = absurd (type-or-const (sort_of n) (integer-type n h) g)
one-takes (variables.Const i) (variables.Ty (infer.FloatVar j)) n g h = absurd (type-or-const (sort_of n) (floating-type n h) g)
one-takes (variables.Const i) (variables.Const j) n g h = inl refl
