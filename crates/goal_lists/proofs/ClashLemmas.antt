-- A header that fits a given term does not clash with it.
use Rattle.std.proofs.Common.{◌≡◌, ℕ, List, Some, refl, sym, ap, ◌∙◌, subst, inl, inr}
use Rattle.std.specs.Prelude.{slice_get}
use Rattle.goal_terms.specs.Erased.{erased, erased_row, erased_head}
use Rattle.goal_terms.specs.Folding.{depth_below, folded, folded_node, folded_row, instantiating}
use Rattle.goal_terms.specs.Tree.{Tree, Trees, node, alias, variable, none, more, list_of, node_of}
use Rattle.goal_terms.specs.declared.heads.Head.{Head}
use Rattle.goal_terms.specs.declared.heads.Head.TheVariants.{TyParam, ConstParam}
use Rattle.goal_terms.specs.declared.heads.Node.TheVariants as nodes
use Rattle.goal_lists.specs.Equality.{SameForm, EqualByForm, Equal, RowEqual}
use Rattle.goal_lists.specs.Headers.{under, AllAreKnown, InstanceUnequal, StepClashes, Clash, RowClash}
use Rattle.goal_lists.specs.Level.{Level, HasHeadForm}
use Rattle.goal_lists.specs.Words.{Either}
use Rattle.goal_lists.proofs.EqualLemmas.{HasOneTerm, HasNoTermRefuted, HasNoEqualUnequal, no_equal_unequal_above}
use Rattle.goal_lists.proofs.InstanceLemmas.{folded-erased, instantiating_the_same, instance-depth}
use Rattle.goal_lists.proofs.PartLemmas.{HasOnePart}

-- a list has the known terms
abbrev pub HasKnown : (ℕ → Tree → Type 0) → List Tree → Type 0
HasKnown K s = (n : ℕ) (u : Tree) → K n u → slice_get s n ≡ Some u

-- a header whose instance is a constructor does not clash at a level with a term of the same form
abbrev pub HasNoFormClash : Level → Type 1
HasNoFormClash L =
    (K : ℕ → Tree → Type 0) (s : List Tree) → HasKnown K s →
    (t : Tree) (h : Head) (us : Trees) (g : Tree) → under s (erased t) ≡ node h us → SameForm L (node h us) g → L.clash K (erased t) g → ⊥

-- what the terms and headers of a level ask of the level below
pub record SupportsTerms (L : Level) : Type 1 where
  pub one_term : HasOneTerm L
  pub no_term_refuted : HasNoTermRefuted L
  pub no_equal_unequal : HasNoEqualUnequal L
  pub one_part : HasOnePart L
  pub no_form_clash : HasNoFormClash L

-- an instance that is equal to a term is not unequal to it under other known terms
no_instance_unequal : (L : Level) → SupportsTerms L → (K : ℕ → Tree → Type 0) (s : List Tree) → HasKnown K s → (d : ℕ) (t g : Tree) →
    Equal L (erased (folded (instantiating s) d t)) g → InstanceUnequal L K t g → ⊥
unfolding InstanceUnequal AllAreKnown
no_instance_unequal L below K s known d t g x y =
    let same : erased (folded (instantiating s) d t) ≡ under y.0 t =
    folded-erased (instantiating s) (instantiating y.0) d 0 t
    (λ n m. instantiating_the_same s y.0 n (known n (y.1 n m).0 (y.1 n m).2 ∙ sym (y.1 n m).1)) in
    no_equal_unequal_above L below.one_term below.no_term_refuted below.no_equal_unequal (under y.0 t) g (subst (λ u. Equal L u g) same x) y.2

-- what is of the same form as a constructor has its head
head_of_form : (L : Level) (h : Head) (us : Trees) (f : Tree) → SameForm L (node h us) f → node_of f ≡ nodes.Head h
unfolding SameForm
head_of_form L h us f (inl e) = sym (ap node_of e)
head_of_form L h us f (inr x) = sym x.0

-- a given term that is equal to a constructor's instance does not differ from the constructor, nor below it
no_step_clash : (L : Level) → SupportsTerms L → (h k : Head) (us : Trees) (here : Trees → Type 0) (lower : Tree → Type 0) (g : Tree) →
    k ≡ h → ((gs : Trees) → RowEqual L us gs → here gs → ⊥) → ((f : Tree) → SameForm L (node k us) f → lower f → ⊥) →
    Equal L (node k us) g → StepClashes L h here lower g → ⊥
unfolding StepClashes Equal EqualByForm HasHeadForm
no_step_clash L below h k us here lower (node l gs) same none_here none_lower x y =
    elim y [ inl n ↦ n (sym same ∙ x.0) | inr c ↦ none_here gs x.1 c ]
no_step_clash L below h k us here lower (alias l gs) same none_here none_lower x (inl r) = below.no_term_refuted l (list_of gs) x.1 x.3 r
no_step_clash L below h k us here lower (alias l gs) same none_here none_lower x (inr y) =
    let left : x.0 ≡ node k us = x.2 in
    let right : x.1 ≡ y.0 = below.one_term l (list_of gs) x.1 y.0 x.3 y.1 in
    let form : SameForm L (node k us) y.0 = subst (λ f. SameForm L (node k us) f) right (subst (λ f. SameForm L f x.1) left x.4) in
    elim y.2 [ inl n ↦ n (head_of_form L k us y.0 form ∙ ap (λ j. nodes.Head j) same) | inr c ↦ none_lower y.0 form c ]
no_step_clash L below h k us here lower (variable w) same none_here none_lower x y = y

-- a constructor whose instance is equal to a term does not clash with it, if the parts do not
no_constructor_clash : (L : Level) → SupportsTerms L → (K : ℕ → Tree → Type 0) (s : List Tree) → HasKnown K s → (d : ℕ) (h : Head) (ts : Trees) (g : Tree) →
    ((gs : Trees) → RowEqual L (erased_row (folded_row (instantiating s) (depth_below (erased_head h) d) (erased_row ts))) gs → RowClash L K (erased_row ts) gs → ⊥) →
    Equal L (erased (folded (instantiating s) d (erased (node h ts)))) g → Clash L K (erased (node h ts)) g → ⊥
unfolding Clash Either erased folded folded_node
no_constructor_clash L below K s known d (TyParam n) ts g none_here x y =
    no_instance_unequal L below K s known d (erased (node (TyParam n) ts)) g x y
no_constructor_clash L below K s known d (ConstParam n) ts g none_here x y =
    no_instance_unequal L below K s known d (erased (node (ConstParam n) ts)) g x y
no_constructor_clash L below K s known d h ts g none_here x y =
    let us : Trees = erased_row (folded_row (instantiating s) (depth_below (erased_head h) d) (erased_row ts)) in
    no_step_clash L below (erased_head h) (erased_head h) us (λ gs. RowClash L K (erased_row ts) gs) (λ f. L.clash K (erased (node h ts)) f) g
    refl none_here
    (λ f form c. below.no_form_clash K s known (node h ts) (erased_head h) us f (instance-depth s 0 d (erased (node h ts))) form c)
    x y

mutual
  unfolding Clash Equal erased folded

  -- a header whose instance, below a number of binders, is equal to a term does not clash with it
  no_deep_fit_clash : (L : Level) → SupportsTerms L → (K : ℕ → Tree → Type 0) (s : List Tree) → HasKnown K s → (d : ℕ) (t g : Tree) →
      Equal L (erased (folded (instantiating s) d (erased t))) g → Clash L K (erased t) g → ⊥
  no_deep_fit_clash L below K s known d (node h ts) g x y =
      no_constructor_clash L below K s known d h ts g (λ gs. no_row_fit_clash L below K s known (depth_below (erased_head h) d) ts gs) x y
  no_deep_fit_clash L below K s known d (alias k ts) g x y = no_instance_unequal L below K s known d (erased (alias k ts)) g x y
  no_deep_fit_clash L below K s known d (variable v) g x y = y

  -- nor does a row of headers clash with a row of terms to which its instances are equal
  no_row_fit_clash : (L : Level) → SupportsTerms L → (K : ℕ → Tree → Type 0) (s : List Tree) → HasKnown K s → (d : ℕ) (ts gs : Trees) →
      RowEqual L (erased_row (folded_row (instantiating s) d (erased_row ts))) gs → RowClash L K (erased_row ts) gs → ⊥
  no_row_fit_clash L below K s known d none none x y = y
  no_row_fit_clash L below K s known d none (more g gs) x y = x
  no_row_fit_clash L below K s known d (more t ts) none x y = x
  no_row_fit_clash L below K s known d (more t ts) (more g gs) x y =
      elim y [ inl c ↦ no_deep_fit_clash L below K s known d t g x.0 c | inr c ↦ no_row_fit_clash L below K s known d ts gs x.1 c ]

-- a header whose instance is equal to a term does not clash with it
pub no_fit_clash_above : (L : Level) → SupportsTerms L → (K : ℕ → Tree → Type 0) (s : List Tree) → ((n : ℕ) (u : Tree) → K n u → slice_get s n ≡ Some u) →
    (h g : Tree) → Equal L (under s (erased h)) g → Clash L K (erased h) g → ⊥
no_fit_clash_above L below K s known h g x y = no_deep_fit_clash L below K s known 0 h g x y
