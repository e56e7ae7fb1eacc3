-- Terms that are aliases.
use Rattle.std.proofs.Common.{◌≡◌, Bool, true, false, refl, sym, ap, ◌∙◌}
use Rattle.std.proofs.lemmas.Bool.{false≢true}
use Rattle.goal_terms.specs.Tree.{Tree, node_of}
use Rattle.goal_terms.specs.TreeOf.{tree_of_ty, tree_of_const}
use Rattle.goal_terms.specs.declared.terms.AliasTerm.{AliasTerm}
use Rattle.goal_terms.specs.declared.terms.Const.{Const, Const-F, roll-Const, out-Const, roll-out-Const}
use Rattle.goal_terms.specs.declared.terms.Const.TheVariants as const_variants
use Rattle.goal_terms.specs.declared.terms.DynClause.{DynClause}
use Rattle.goal_terms.specs.declared.terms.FnSig.{FnSig}
use Rattle.goal_terms.specs.declared.terms.GenericArg.{GenericArg}
use Rattle.goal_terms.specs.declared.terms.Term.{Term}
use Rattle.goal_terms.specs.declared.terms.Ty.{Ty, Ty-F, roll-Ty, out-Ty, roll-out-Ty}
use Rattle.goal_terms.specs.declared.terms.Ty.TheVariants as ty_variants
use Rattle.goal_terms.proofs.TreeLemmas as trees
use Rattle.goal_eval.specs.Pending.{is_alias}

-- whether a tree is an alias
abbrev alias_at : Tree → Bool
alias_at t = is_alias (node_of t)

-- a tree that is none
not_alias : (t u : Tree) → t ≡ u → alias_at u ≡ false → alias_at t ≡ true → ⊥
not_alias t u e f h = false≢true (sym (ap alias_at e ∙ f) ∙ h)

-- a type whose tree is an alias is one
type_layer_alias : (l : Ty-F Const DynClause GenericArg Term Ty AliasTerm FnSig) → alias_at (tree_of_ty (roll-Ty l)) ≡ true →
    ((x : AliasTerm) → roll-Ty l ≡ ty_variants.Alias x → ⊥) → ⊥
type_layer_alias Ty-F.Bool h f = absurd (not_alias _ _ (ap tree_of_ty ty_variants.rolls-Bool ∙ trees.tree_of_ty-Bool) refl h)
type_layer_alias Ty-F.Char h f = absurd (not_alias _ _ (ap tree_of_ty ty_variants.rolls-Char ∙ trees.tree_of_ty-Char) refl h)
type_layer_alias (Ty-F.Int i) h f = absurd (not_alias _ _ (ap tree_of_ty (ty_variants.rolls-Int i) ∙ trees.tree_of_ty-Int i) refl h)
type_layer_alias (Ty-F.Uint i) h f = absurd (not_alias _ _ (ap tree_of_ty (ty_variants.rolls-Uint i) ∙ trees.tree_of_ty-Uint i) refl h)
type_layer_alias (Ty-F.Float i) h f = absurd (not_alias _ _ (ap tree_of_ty (ty_variants.rolls-Float i) ∙ trees.tree_of_ty-Float i) refl h)
type_layer_alias Ty-F.Str h f = absurd (not_alias _ _ (ap tree_of_ty ty_variants.rolls-Str ∙ trees.tree_of_ty-Str) refl h)
type_layer_alias Ty-F.Never h f = absurd (not_alias _ _ (ap tree_of_ty ty_variants.rolls-Never ∙ trees.tree_of_ty-Never) refl h)
type_layer_alias (Ty-F.Adt i args) h f = absurd (not_alias _ _ (ap tree_of_ty (ty_variants.rolls-Adt i args) ∙ trees.tree_of_ty-Adt i args) refl h)
type_layer_alias (Ty-F.Foreign i) h f = absurd (not_alias _ _ (ap tree_of_ty (ty_variants.rolls-Foreign i) ∙ trees.tree_of_ty-Foreign i) refl h)
type_layer_alias (Ty-F.Array t c) h f = absurd (not_alias _ _ (ap tree_of_ty (ty_variants.rolls-Array t c) ∙ trees.tree_of_ty-Array t c) refl h)
type_layer_alias (Ty-F.Slice t) h f = absurd (not_alias _ _ (ap tree_of_ty (ty_variants.rolls-Slice t) ∙ trees.tree_of_ty-Slice t) refl h)
type_layer_alias (Ty-F.RawPtr t m) h f = absurd (not_alias _ _ (ap tree_of_ty (ty_variants.rolls-RawPtr t m) ∙ trees.tree_of_ty-RawPtr t m) refl h)
type_layer_alias (Ty-F.Ref r t m) h f = absurd (not_alias _ _ (ap tree_of_ty (ty_variants.rolls-Ref r t m) ∙ trees.tree_of_ty-Ref r t m) refl h)
type_layer_alias (Ty-F.FnDef i args) h f = absurd (not_alias _ _ (ap tree_of_ty (ty_variants.rolls-FnDef i args) ∙ trees.tree_of_ty-FnDef i args) refl h)
type_layer_alias (Ty-F.FnPtr sig) h f = absurd (not_alias _ _ (ap tree_of_ty (ty_variants.rolls-FnPtr sig) ∙ trees.tree_of_ty-FnPtr sig ∙ trees.tree_of_sig-record sig.value) refl h)
type_layer_alias (Ty-F.Closure i args) h f = absurd (not_alias _ _ (ap tree_of_ty (ty_variants.rolls-Closure i args) ∙ trees.tree_of_ty-Closure i args) refl h)
type_layer_alias (Ty-F.Dynamic clauses r) h f = absurd (not_alias _ _ (ap tree_of_ty (ty_variants.rolls-Dynamic clauses r) ∙ trees.tree_of_ty-Dynamic clauses r) refl h)
type_layer_alias (Ty-F.Tuple elements) h f = absurd (not_alias _ _ (ap tree_of_ty (ty_variants.rolls-Tuple elements) ∙ trees.tree_of_ty-Tuple elements) refl h)
type_layer_alias (Ty-F.Ty::Param n) h f = absurd (not_alias _ _ (ap tree_of_ty (ty_variants.rolls-Param n) ∙ trees.tree_of_ty-Param n) refl h)
type_layer_alias (Ty-F.Ty::Placeholder n) h f = absurd (not_alias _ _ (ap tree_of_ty (ty_variants.rolls-Placeholder n) ∙ trees.tree_of_ty-Placeholder n) refl h)
type_layer_alias (Ty-F.Ty::Alias a) h f = f a (ty_variants.rolls-Alias a)
type_layer_alias (Ty-F.Ty::Infer v) h f = absurd (not_alias _ _ (ap tree_of_ty (ty_variants.rolls-Infer v) ∙ trees.tree_of_ty-Infer v) refl h)
type_layer_alias (Ty-F.Ty::Error n) h f = absurd (not_alias _ _ (ap tree_of_ty (ty_variants.rolls-Error n) ∙ trees.tree_of_ty-Error n) refl h)

pub type-alias : (t : Ty) → is_alias (node_of (tree_of_ty t)) ≡ true → ((x : AliasTerm) → t ≡ ty_variants.Alias x → ⊥) → ⊥
type-alias t h f = type_layer_alias (out-Ty t) (ap (λ u. alias_at (tree_of_ty u)) (roll-out-Ty t) ∙ h) (λ x e. f x (sym (roll-out-Ty t) ∙ e))

-- so is a constant
const_layer_alias : (l : Const-F Const DynClause GenericArg Term Ty AliasTerm FnSig) → alias_at (tree_of_const (roll-Const l)) ≡ true →
    ((x : AliasTerm) → roll-Const l ≡ const_variants.Alias x → ⊥) → ⊥
const_layer_alias (Const-F.Value n) h f = absurd (not_alias _ _ (ap tree_of_const (const_variants.rolls-Value n) ∙ trees.tree_of_const-Value n) refl h)
const_layer_alias (Const-F.Const::Param n) h f = absurd (not_alias _ _ (ap tree_of_const (const_variants.rolls-Param n) ∙ trees.tree_of_const-Param n) refl h)
const_layer_alias (Const-F.Const::Placeholder n) h f = absurd (not_alias _ _ (ap tree_of_const (const_variants.rolls-Placeholder n) ∙ trees.tree_of_const-Placeholder n) refl h)
const_layer_alias (Const-F.Const::Infer n) h f = absurd (not_alias _ _ (ap tree_of_const (const_variants.rolls-Infer n) ∙ trees.tree_of_const-Infer n) refl h)
const_layer_alias (Const-F.Const::Alias a) h f = f a (const_variants.rolls-Alias a)
const_layer_alias (Const-F.Const::Error n) h f = absurd (not_alias _ _ (ap tree_of_const (const_variants.rolls-Error n) ∙ trees.tree_of_const-Error n) refl h)

pub const-alias : (t : Const) → is_alias (node_of (tree_of_const t)) ≡ true → ((x : AliasTerm) → t ≡ const_variants.Alias x → ⊥) → ⊥
const-alias t h f = const_layer_alias (out-Const t) (ap (λ u. alias_at (tree_of_const u)) (roll-out-Const t) ∙ h) (λ x e. f x (sym (roll-out-Const t) ∙ e))
