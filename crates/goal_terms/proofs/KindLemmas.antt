-- The kind of each type, constant and argument.
use Rattle.std.proofs.Common.{◌≡◌, map, refl, sym, ap, ◌∙◌}
use Rattle.goal_terms.specs.Kinds.{kind_of, kind_of_head}
use Rattle.goal_terms.specs.Tree.{Tree, Trees, alias, forest, node_of}
use Rattle.goal_terms.specs.TreeOf.{at_type, at_const, tree_of_ty, tree_of_const, tree_of_arg}
use Rattle.goal_terms.specs.declared.answers.ParamKind.{ParamKind}
use Rattle.goal_terms.specs.declared.answers.ParamKind.TheVariants as kind
use Rattle.goal_terms.specs.declared.terms.AliasTermKind.{AliasTermKind}
use Rattle.goal_terms.specs.declared.terms.AliasTermKind.TheVariants.{ProjectionTy, ProjectionConst, InherentTy, InherentConst, OpaqueTy, FreeTy, FreeConst, UnevaluatedConst}
use Rattle.goal_terms.specs.declared.terms.AliasTerm.{AliasTerm}
use Rattle.goal_terms.specs.declared.terms.Const.{Const, Const-F, roll-Const, out-Const, roll-out-Const}
use Rattle.goal_terms.specs.declared.terms.Const.TheVariants as const_variants
use Rattle.goal_terms.specs.declared.terms.DynClause.{DynClause}
use Rattle.goal_terms.specs.declared.terms.FnSig.{FnSig}
use Rattle.goal_terms.specs.declared.terms.GenericArg.{GenericArg}
use Rattle.goal_terms.specs.declared.terms.Term.{Term}
use Rattle.goal_terms.specs.declared.terms.Ty.{Ty, Ty-F, roll-Ty, out-Ty, roll-out-Ty}
use Rattle.goal_terms.specs.declared.terms.Ty.TheVariants as ty_variants
use Rattle.goal_terms.proofs.TreeLemmas as trees

abbrev kind_of_tree : Tree → ParamKind
kind_of_tree t = kind_of (node_of t)

kind_at_type : (k : AliasTermKind) (ts : Trees) → kind_of_tree (at_type (alias k ts)) ≡ kind.Ty
unfolding kind_of kind_of_head
kind_at_type (ProjectionTy i) ts = refl
kind_at_type (ProjectionConst i) ts = refl
kind_at_type (InherentTy i) ts = refl
kind_at_type (InherentConst i) ts = refl
kind_at_type (OpaqueTy i) ts = refl
kind_at_type (FreeTy i) ts = refl
kind_at_type (FreeConst i) ts = refl
kind_at_type (UnevaluatedConst i) ts = refl

kind_at_const : (k : AliasTermKind) (ts : Trees) → kind_of_tree (at_const (alias k ts)) ≡ kind.Const
unfolding kind_of kind_of_head
kind_at_const (ProjectionTy i) ts = refl
kind_at_const (ProjectionConst i) ts = refl
kind_at_const (InherentTy i) ts = refl
kind_at_const (InherentConst i) ts = refl
kind_at_const (OpaqueTy i) ts = refl
kind_at_const (FreeTy i) ts = refl
kind_at_const (FreeConst i) ts = refl
kind_at_const (UnevaluatedConst i) ts = refl

kind_of-rolled_ty : (x : Ty-F Const DynClause GenericArg Term Ty AliasTerm FnSig) → kind_of_tree (tree_of_ty (roll-Ty x)) ≡ kind.Ty
unfolding kind_of kind_of_head
kind_of-rolled_ty Ty-F.Bool = ap (λ t. kind_of_tree (tree_of_ty t)) ty_variants.rolls-Bool ∙ ap kind_of_tree trees.tree_of_ty-Bool
kind_of-rolled_ty Ty-F.Char = ap (λ t. kind_of_tree (tree_of_ty t)) ty_variants.rolls-Char ∙ ap kind_of_tree trees.tree_of_ty-Char
kind_of-rolled_ty (Ty-F.Int i) = ap (λ t. kind_of_tree (tree_of_ty t)) (ty_variants.rolls-Int i) ∙ ap kind_of_tree (trees.tree_of_ty-Int i)
kind_of-rolled_ty (Ty-F.Uint i) = ap (λ t. kind_of_tree (tree_of_ty t)) (ty_variants.rolls-Uint i) ∙ ap kind_of_tree (trees.tree_of_ty-Uint i)
kind_of-rolled_ty (Ty-F.Float i) = ap (λ t. kind_of_tree (tree_of_ty t)) (ty_variants.rolls-Float i) ∙ ap kind_of_tree (trees.tree_of_ty-Float i)
kind_of-rolled_ty Ty-F.Str = ap (λ t. kind_of_tree (tree_of_ty t)) ty_variants.rolls-Str ∙ ap kind_of_tree trees.tree_of_ty-Str
kind_of-rolled_ty Ty-F.Never = ap (λ t. kind_of_tree (tree_of_ty t)) ty_variants.rolls-Never ∙ ap kind_of_tree trees.tree_of_ty-Never
kind_of-rolled_ty (Ty-F.Adt i a) = ap (λ t. kind_of_tree (tree_of_ty t)) (ty_variants.rolls-Adt i a) ∙ ap kind_of_tree (trees.tree_of_ty-Adt i a)
kind_of-rolled_ty (Ty-F.Foreign i) = ap (λ t. kind_of_tree (tree_of_ty t)) (ty_variants.rolls-Foreign i) ∙ ap kind_of_tree (trees.tree_of_ty-Foreign i)
kind_of-rolled_ty (Ty-F.Array t c) = ap (λ t. kind_of_tree (tree_of_ty t)) (ty_variants.rolls-Array t c) ∙ ap kind_of_tree (trees.tree_of_ty-Array t c)
kind_of-rolled_ty (Ty-F.Slice t) = ap (λ t. kind_of_tree (tree_of_ty t)) (ty_variants.rolls-Slice t) ∙ ap kind_of_tree (trees.tree_of_ty-Slice t)
kind_of-rolled_ty (Ty-F.RawPtr t m) = ap (λ t. kind_of_tree (tree_of_ty t)) (ty_variants.rolls-RawPtr t m) ∙ ap kind_of_tree (trees.tree_of_ty-RawPtr t m)
kind_of-rolled_ty (Ty-F.Ref r t m) = ap (λ t. kind_of_tree (tree_of_ty t)) (ty_variants.rolls-Ref r t m) ∙ ap kind_of_tree (trees.tree_of_ty-Ref r t m)
kind_of-rolled_ty (Ty-F.FnDef i a) = ap (λ t. kind_of_tree (tree_of_ty t)) (ty_variants.rolls-FnDef i a) ∙ ap kind_of_tree (trees.tree_of_ty-FnDef i a)
kind_of-rolled_ty (Ty-F.FnPtr s) = ap (λ t. kind_of_tree (tree_of_ty t)) (ty_variants.rolls-FnPtr s) ∙ ap kind_of_tree (trees.tree_of_ty-FnPtr s) ∙ ap kind_of_tree (trees.tree_of_sig-record s.value)
kind_of-rolled_ty (Ty-F.Closure i a) = ap (λ t. kind_of_tree (tree_of_ty t)) (ty_variants.rolls-Closure i a) ∙ ap kind_of_tree (trees.tree_of_ty-Closure i a)
kind_of-rolled_ty (Ty-F.Dynamic a r) = ap (λ t. kind_of_tree (tree_of_ty t)) (ty_variants.rolls-Dynamic a r) ∙ ap kind_of_tree (trees.tree_of_ty-Dynamic a r)
kind_of-rolled_ty (Ty-F.Tuple a) = ap (λ t. kind_of_tree (tree_of_ty t)) (ty_variants.rolls-Tuple a) ∙ ap kind_of_tree (trees.tree_of_ty-Tuple a)
kind_of-rolled_ty (Ty-F.Ty::Param n) = ap (λ t. kind_of_tree (tree_of_ty t)) (ty_variants.rolls-Param n) ∙ ap kind_of_tree (trees.tree_of_ty-Param n)
kind_of-rolled_ty (Ty-F.Ty::Placeholder n) = ap (λ t. kind_of_tree (tree_of_ty t)) (ty_variants.rolls-Placeholder n) ∙ ap kind_of_tree (trees.tree_of_ty-Placeholder n)
kind_of-rolled_ty (Ty-F.Ty::Alias a) = ap (λ t. kind_of_tree (tree_of_ty t)) (ty_variants.rolls-Alias a) ∙ ap kind_of_tree (trees.tree_of_ty-Alias a) ∙ ap (λ t. kind_of_tree (at_type t)) (trees.tree_of_alias-record a) ∙ kind_at_type a.kind (forest (map tree_of_arg a.args.items))
kind_of-rolled_ty (Ty-F.Ty::Infer v) = ap (λ t. kind_of_tree (tree_of_ty t)) (ty_variants.rolls-Infer v) ∙ ap kind_of_tree (trees.tree_of_ty-Infer v)
kind_of-rolled_ty (Ty-F.Ty::Error n) = ap (λ t. kind_of_tree (tree_of_ty t)) (ty_variants.rolls-Error n) ∙ ap kind_of_tree (trees.tree_of_ty-Error n)

kind_of-rolled_const : (x : Const-F Const DynClause GenericArg Term Ty AliasTerm FnSig) → kind_of_tree (tree_of_const (roll-Const x)) ≡ kind.Const
unfolding kind_of kind_of_head
kind_of-rolled_const (Const-F.Value n) = ap (λ t. kind_of_tree (tree_of_const t)) (const_variants.rolls-Value n) ∙ ap kind_of_tree (trees.tree_of_const-Value n)
kind_of-rolled_const (Const-F.Const::Param n) = ap (λ t. kind_of_tree (tree_of_const t)) (const_variants.rolls-Param n) ∙ ap kind_of_tree (trees.tree_of_const-Param n)
kind_of-rolled_const (Const-F.Const::Placeholder n) = ap (λ t. kind_of_tree (tree_of_const t)) (const_variants.rolls-Placeholder n) ∙ ap kind_of_tree (trees.tree_of_const-Placeholder n)
kind_of-rolled_const (Const-F.Const::Infer n) = ap (λ t. kind_of_tree (tree_of_const t)) (const_variants.rolls-Infer n) ∙ ap kind_of_tree (trees.tree_of_const-Infer n)
kind_of-rolled_const (Const-F.Const::Alias a) = ap (λ t. kind_of_tree (tree_of_const t)) (const_variants.rolls-Alias a) ∙ ap kind_of_tree (trees.tree_of_const-Alias a) ∙ ap (λ t. kind_of_tree (at_const t)) (trees.tree_of_alias-record a) ∙ kind_at_const a.kind (forest (map tree_of_arg a.args.items))
kind_of-rolled_const (Const-F.Const::Error n) = ap (λ t. kind_of_tree (tree_of_const t)) (const_variants.rolls-Error n) ∙ ap kind_of_tree (trees.tree_of_const-Error n)

pub kind_of_ty : (t : Ty) → kind_of (node_of (tree_of_ty t)) ≡ kind.Ty
kind_of_ty t = ap (λ u. kind_of_tree (tree_of_ty u)) (sym (roll-out-Ty t)) ∙ kind_of-rolled_ty (out-Ty t)

pub kind_of_const : (c : Const) → kind_of (node_of (tree_of_const c)) ≡ kind.Const
kind_of_const c = ap (λ u. kind_of_tree (tree_of_const u)) (sym (roll-out-Const c)) ∙ kind_of-rolled_const (out-Const c)

pub ruleset kinds = (kind_of_ty, kind_of_const)
