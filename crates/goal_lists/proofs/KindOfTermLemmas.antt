-- Kinds of terms stay, whatever is done with the terms.
use Rattle.std.proofs.Common.{◌≡◌, ℕ, Bool, true, false, List, Option, Some, None, refl, sym, ap, ◌∙◌, inl, inr}
use Rattle.std.specs.Prelude.{slice_get, if◌then◌else◌}
use Rattle.std.specs.Option.{option_map, option_and_then, unwrap_or}
use Rattle.std.proofs.lemmas.Bool.{false≢true}
use Rattle.goal_terms.specs.Erased.{erased, erased_head}
use Rattle.goal_terms.specs.Folding.{folded, folded_node, folded_row, depth_below, shifting, shifted, argument_of, instance_of}
use Rattle.goal_terms.specs.Kinds.{same_kind, kind_of, kind_of_head, kind_of_alias}
use Rattle.goal_terms.specs.Tree.{Tree, Trees, node, alias, variable, list_of, node_of}
use Rattle.goal_terms.specs.TreeOf.{leaf}
use Rattle.goal_terms.specs.declared.answers.ParamKind.{ParamKind}
use Rattle.goal_terms.specs.declared.answers.ParamKind.TheVariants as kind
use Rattle.goal_terms.specs.declared.heads.Head.{Head}
use Rattle.goal_terms.specs.declared.heads.Head.TheVariants.{Ref, FnPtr, Dynamic, Lifetime, TyParam, ConstParam}
use Rattle.goal_terms.specs.declared.heads.Variable.{Variable}
use Rattle.goal_terms.specs.declared.terms.AliasTermKind.{AliasTermKind}
use Rattle.goal_lists.specs.Equality.{SameForm, EqualByForm, Equal}
use Rattle.goal_lists.specs.Level.{Level, HasHeadForm}
use Rattle.goal_lists.specs.Replacement.{replaced, AreOfTheirKinds}

-- the kind of a term
abbrev pub kind_of_term : Tree → ParamKind
kind_of_term t = kind_of (node_of t)

-- at a level no alias has a term of another kind
abbrev pub GivesOwnKinds : Level → Type 0
GivesOwnKinds L = (k : AliasTermKind) (ts : List Tree) (t : Tree) → L.gives k ts t → kind_of_term t ≡ kind_of_alias k

-- kinds that pass the test are the same, and pass it
pub same_kind-true : (a b : ParamKind) → same_kind a b ≡ true → a ≡ b
same_kind-true kind.Ty kind.Ty e = refl
same_kind-true kind.Const kind.Const e = refl
same_kind-true kind.Lifetime kind.Lifetime e = refl
same_kind-true _ _ e = absurd (false≢true e)

same_kind-itself : (a : ParamKind) → same_kind a a ≡ true
same_kind-itself kind.Ty = refl
same_kind-itself kind.Const = refl
same_kind-itself kind.Lifetime = refl

pub same_kind-refl : (a b : ParamKind) → a ≡ b → same_kind a b ≡ true
same_kind-refl a b e = ap (λ k. same_kind k b) e ∙ same_kind-itself b

-- a constructor without its lifetimes is of its kind
kind_of_head-erased : (h : Head) → kind_of_head (erased_head h) ≡ kind_of_head h
unfolding kind_of_head
kind_of_head-erased (Ref r m) = refl
kind_of_head-erased (FnPtr bound inputs fn_traits) = refl
kind_of_head-erased (Dynamic count r) = refl
kind_of_head-erased (Lifetime r) = refl
kind_of_head-erased h = refl

-- and so is a term
pub kind-erased : (t : Tree) → kind_of_term (erased t) ≡ kind_of_term t
unfolding erased kind_of
kind-erased (node h ts) = kind_of_head-erased h
kind-erased (alias k ts) = refl
kind-erased (variable v) = refl

-- a term with terms of their kinds in place of its variables
pub kind-replaced : (values : Variable → Tree) → AreOfTheirKinds values → (t : Tree) → kind_of_term (replaced values t) ≡ kind_of_term t
unfolding replaced
kind-replaced values own (node h ts) = refl
kind-replaced values own (alias k ts) = refl
kind-replaced values own (variable v) = own v

-- a constructor with moved lifetimes
kind-shifted_node : (b d : ℕ) (h : Head) (ts : Trees) → kind_of_term (folded_node (shifting b) d h ts) ≡ kind_of_head h
unfolding folded_node kind_of kind_of_head
kind-shifted_node b d (TyParam n) ts = refl
kind-shifted_node b d (ConstParam n) ts = refl
kind-shifted_node b d (Ref r m) ts = refl
kind-shifted_node b d (Dynamic n r) ts = refl
kind-shifted_node b d (Lifetime r) ts = refl
kind-shifted_node b d h ts = refl

-- a term with moved lifetimes
kind-shifted : (b d : ℕ) (t : Tree) → kind_of_term (shifted b d t) ≡ kind_of_term t
unfolding folded kind_of
kind-shifted b d (node h ts) = kind-shifted_node b d h (folded_row (shifting b) (depth_below h d) ts)
kind-shifted b d (alias k ts) = refl
kind-shifted b d (variable v) = refl

-- what stands for a parameter is of the parameter's kind, as its argument is taken only then
kind-tested : (b : Bool) (k : ParamKind) (h : Head) (d : ℕ) (t : Tree) → kind_of_head h ≡ k → (b ≡ true → kind_of_term t ≡ k) →
    kind_of_term (unwrap_or (option_map (shifted d 0) (if b then Some t else None)) (leaf h)) ≡ k
unfolding kind_of
kind-tested true k h d t e f = kind-shifted d 0 t ∙ f refl
kind-tested false k h d t e f = e

kind-argument : (o : Option Tree) (k : ParamKind) (h : Head) (d : ℕ) → kind_of_head h ≡ k →
    kind_of_term (unwrap_or (option_map (shifted d 0) (option_and_then (λ t. if same_kind (kind_of (node_of t)) k then Some t else None) o)) (leaf h)) ≡ k
unfolding kind_of
kind-argument None k h d e = e
kind-argument (Some t) k h d e = kind-tested (same_kind (kind_of_term t) k) k h d t e (same_kind-true (kind_of_term t) k)

pub kind-instance_of : (args : List Tree) (k : ParamKind) (h : Head) (d n : ℕ) → kind_of_head h ≡ k → kind_of_term (instance_of args k h d n) ≡ k
unfolding argument_of
kind-instance_of args k h d n e = kind-argument (slice_get args n) k h d e

-- a head form is of the term's kind
head_form_kind : (L : Level) → GivesOwnKinds L → (t f : Tree) → HasHeadForm L t f → kind_of_term f ≡ kind_of_term t
unfolding HasHeadForm kind_of
head_form_kind L own (node h ts) f x = ap kind_of_term x
head_form_kind L own (alias k ts) f x = own k (list_of ts) f x
head_form_kind L own (variable v) f x = ap kind_of_term x

-- forms that are the same are of one kind
same_form_kind : (L : Level) (f g : Tree) → SameForm L f g → kind_of_term f ≡ kind_of_term g
unfolding SameForm
same_form_kind L f g (inl e) = ap kind_of_term e
same_form_kind L f g (inr x) = ap kind_of x.0

by_form_kind : (L : Level) → GivesOwnKinds L → (t u : Tree) → EqualByForm L t u → kind_of_term t ≡ kind_of_term u
unfolding EqualByForm
by_form_kind L own t u x = sym (head_form_kind L own t x.0 x.2) ∙ same_form_kind L x.0 x.1 x.4 ∙ head_form_kind L own u x.1 x.3

-- equal terms are of one kind
pub equal_kind : (L : Level) → GivesOwnKinds L → (t u : Tree) → Equal L t u → kind_of_term t ≡ kind_of_term u
unfolding Equal kind_of
equal_kind L own (node h ts) (node k us) x = ap kind_of_head x.0
equal_kind L own (node h ts) (alias k us) x = by_form_kind L own (node h ts) (alias k us) x
equal_kind L own (node h ts) (variable w) x = absurd x
equal_kind L own (alias h ts) u (inl e) = ap kind_of_term e
equal_kind L own (alias h ts) u (inr x) = by_form_kind L own (alias h ts) u x
equal_kind L own (variable v) (node k us) x = absurd x
equal_kind L own (variable v) (alias k us) x = by_form_kind L own (variable v) (alias k us) x
equal_kind L own (variable v) (variable w) x = ap (λ z. kind_of_term (variable z)) x
