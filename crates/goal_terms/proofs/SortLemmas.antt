-- The sorts of terms.
use Rattle.std.proofs.Common.{◌≡◌, true, refl, sym, ap, ◌∙◌, subst}
use Rattle.goal_terms.specs.Tree.{Tree, Trees, alias, forest, node_of}
use Rattle.goal_terms.specs.TreeOf.{leaf, at_type, at_const, tree_of_ty, tree_of_const, tree_of_arg, tree_of_term, tree_of_clause}
use Rattle.goal_terms.specs.Sorts.{sort_of, is_argument_sort, is_term_sort, IsSort, IsTerm, IsArgument}
use Rattle.goal_terms.specs.declared.heads.Head.TheVariants as head
use Rattle.goal_terms.specs.declared.sorts.Sort.{Sort}
use Rattle.goal_terms.specs.declared.sorts.Sort.TheVariants as sorts
use Rattle.goal_terms.specs.declared.terms.AliasTermKind.{AliasTermKind}
use Rattle.goal_terms.specs.declared.terms.AliasTermKind.TheVariants.{ProjectionTy, ProjectionConst, InherentTy, InherentConst, OpaqueTy, FreeTy, FreeConst, UnevaluatedConst}
use Rattle.goal_terms.specs.declared.terms.Ty.{Ty, Ty-F, roll-Ty, out-Ty, roll-out-Ty}
use Rattle.goal_terms.specs.declared.terms.Ty.TheVariants as ty_variants
use Rattle.goal_terms.specs.declared.terms.Const.{Const, Const-F, roll-Const, out-Const, roll-out-Const}
use Rattle.goal_terms.specs.declared.terms.Const.TheVariants as const_variants
use Rattle.goal_terms.specs.declared.terms.GenericArg.{GenericArg, GenericArg-F, roll-GenericArg, out-GenericArg, roll-out-GenericArg}
use Rattle.goal_terms.specs.declared.terms.GenericArg.TheVariants as arg_variants
use Rattle.goal_terms.specs.declared.terms.Term.{Term, Term-F, roll-Term, out-Term, roll-out-Term}
use Rattle.goal_terms.specs.declared.terms.Term.TheVariants as term_variants
use Rattle.goal_terms.specs.declared.terms.DynClause.{DynClause, DynClause-F, roll-DynClause, out-DynClause, roll-out-DynClause}
use Rattle.goal_terms.specs.declared.terms.DynClause.TheVariants as clause_variants
use Rattle.goal_terms.specs.declared.terms.AliasTerm.{AliasTerm}
use Rattle.goal_terms.specs.declared.terms.FnSig.{FnSig}
use Rattle.goal_terms.proofs.TreeLemmas.{tree_of_ty-Bool, tree_of_ty-Char, tree_of_ty-Int, tree_of_ty-Uint, tree_of_ty-Float, tree_of_ty-Str, tree_of_ty-Never, tree_of_ty-Adt, tree_of_ty-Foreign, tree_of_ty-Array, tree_of_ty-Slice, tree_of_ty-RawPtr, tree_of_ty-Ref, tree_of_ty-FnDef, tree_of_ty-FnPtr, tree_of_ty-Closure, tree_of_ty-Dynamic, tree_of_ty-Tuple, tree_of_ty-Param, tree_of_ty-Placeholder, tree_of_ty-Alias, tree_of_ty-Infer, tree_of_ty-Error, tree_of_const-Value, tree_of_const-Param, tree_of_const-Placeholder, tree_of_const-Infer, tree_of_const-Alias, tree_of_const-Error, tree_of_arg-Ty, tree_of_arg-Const, tree_of_arg-Lifetime, tree_of_term-Ty, tree_of_term-Const, tree_of_clause-Trait, tree_of_clause-Projection, tree_of_alias-record, tree_of_sig-record}

abbrev sort_at : Tree → Sort
sort_at t = sort_of (node_of t)

type_sort : (k : AliasTermKind) (ts : Trees) → sort_at (at_type (alias k ts)) ≡ sorts.Ty
type_sort (ProjectionTy i) ts = refl
type_sort (ProjectionConst i) ts = refl
type_sort (InherentTy i) ts = refl
type_sort (InherentConst i) ts = refl
type_sort (OpaqueTy i) ts = refl
type_sort (FreeTy i) ts = refl
type_sort (FreeConst i) ts = refl
type_sort (UnevaluatedConst n) ts = refl

const_sort : (k : AliasTermKind) (ts : Trees) → sort_at (at_const (alias k ts)) ≡ sorts.Const
const_sort (ProjectionTy i) ts = refl
const_sort (ProjectionConst i) ts = refl
const_sort (InherentTy i) ts = refl
const_sort (InherentConst i) ts = refl
const_sort (OpaqueTy i) ts = refl
const_sort (FreeTy i) ts = refl
const_sort (FreeConst i) ts = refl
const_sort (UnevaluatedConst n) ts = refl

ty_layer_sort : (l : Ty-F Const DynClause GenericArg Term Ty AliasTerm FnSig) → sort_at (tree_of_ty (roll-Ty l)) ≡ sorts.Ty
ty_layer_sort Ty-F.Bool = ap sort_at (ap tree_of_ty ty_variants.rolls-Bool ∙ tree_of_ty-Bool)
ty_layer_sort Ty-F.Char = ap sort_at (ap tree_of_ty ty_variants.rolls-Char ∙ tree_of_ty-Char)
ty_layer_sort (Ty-F.Int i) = ap sort_at (ap tree_of_ty (ty_variants.rolls-Int i) ∙ tree_of_ty-Int i)
ty_layer_sort (Ty-F.Uint i) = ap sort_at (ap tree_of_ty (ty_variants.rolls-Uint i) ∙ tree_of_ty-Uint i)
ty_layer_sort (Ty-F.Float i) = ap sort_at (ap tree_of_ty (ty_variants.rolls-Float i) ∙ tree_of_ty-Float i)
ty_layer_sort Ty-F.Str = ap sort_at (ap tree_of_ty ty_variants.rolls-Str ∙ tree_of_ty-Str)
ty_layer_sort Ty-F.Never = ap sort_at (ap tree_of_ty ty_variants.rolls-Never ∙ tree_of_ty-Never)
ty_layer_sort (Ty-F.Adt i args) = ap sort_at (ap tree_of_ty (ty_variants.rolls-Adt i args) ∙ tree_of_ty-Adt i args)
ty_layer_sort (Ty-F.Foreign i) = ap sort_at (ap tree_of_ty (ty_variants.rolls-Foreign i) ∙ tree_of_ty-Foreign i)
ty_layer_sort (Ty-F.Array t c) = ap sort_at (ap tree_of_ty (ty_variants.rolls-Array t c) ∙ tree_of_ty-Array t c)
ty_layer_sort (Ty-F.Slice t) = ap sort_at (ap tree_of_ty (ty_variants.rolls-Slice t) ∙ tree_of_ty-Slice t)
ty_layer_sort (Ty-F.RawPtr t m) = ap sort_at (ap tree_of_ty (ty_variants.rolls-RawPtr t m) ∙ tree_of_ty-RawPtr t m)
ty_layer_sort (Ty-F.Ref r t m) = ap sort_at (ap tree_of_ty (ty_variants.rolls-Ref r t m) ∙ tree_of_ty-Ref r t m)
ty_layer_sort (Ty-F.FnDef i args) = ap sort_at (ap tree_of_ty (ty_variants.rolls-FnDef i args) ∙ tree_of_ty-FnDef i args)
ty_layer_sort (Ty-F.FnPtr sig) = ap sort_at (ap tree_of_ty (ty_variants.rolls-FnPtr sig) ∙ tree_of_ty-FnPtr sig ∙ tree_of_sig-record sig.value)
ty_layer_sort (Ty-F.Closure i args) = ap sort_at (ap tree_of_ty (ty_variants.rolls-Closure i args) ∙ tree_of_ty-Closure i args)
ty_layer_sort (Ty-F.Dynamic clauses r) = ap sort_at (ap tree_of_ty (ty_variants.rolls-Dynamic clauses r) ∙ tree_of_ty-Dynamic clauses r)
ty_layer_sort (Ty-F.Tuple elements) = ap sort_at (ap tree_of_ty (ty_variants.rolls-Tuple elements) ∙ tree_of_ty-Tuple elements)
ty_layer_sort (Ty-F.Ty::Param n) = ap sort_at (ap tree_of_ty (ty_variants.rolls-Param n) ∙ tree_of_ty-Param n)
ty_layer_sort (Ty-F.Ty::Placeholder n) = ap sort_at (ap tree_of_ty (ty_variants.rolls-Placeholder n) ∙ tree_of_ty-Placeholder n)
ty_layer_sort (Ty-F.Ty::Alias a) = ap sort_at (ap tree_of_ty (ty_variants.rolls-Alias a) ∙ tree_of_ty-Alias a ∙ ap at_type (tree_of_alias-record a)) ∙ type_sort a.kind (forest _)
ty_layer_sort (Ty-F.Ty::Infer v) = ap sort_at (ap tree_of_ty (ty_variants.rolls-Infer v) ∙ tree_of_ty-Infer v)
ty_layer_sort (Ty-F.Ty::Error n) = ap sort_at (ap tree_of_ty (ty_variants.rolls-Error n) ∙ tree_of_ty-Error n)

pub ty_sort : (t : Ty) → IsSort sorts.Ty (tree_of_ty t)
ty_sort t = ap (λ u. sort_at (tree_of_ty u)) (sym (roll-out-Ty t)) ∙ ty_layer_sort (out-Ty t)

const_layer_sort : (l : Const-F Const DynClause GenericArg Term Ty AliasTerm FnSig) → sort_at (tree_of_const (roll-Const l)) ≡ sorts.Const
const_layer_sort (Const-F.Value n) = ap sort_at (ap tree_of_const (const_variants.rolls-Value n) ∙ tree_of_const-Value n)
const_layer_sort (Const-F.Const::Param n) = ap sort_at (ap tree_of_const (const_variants.rolls-Param n) ∙ tree_of_const-Param n)
const_layer_sort (Const-F.Const::Placeholder n) = ap sort_at (ap tree_of_const (const_variants.rolls-Placeholder n) ∙ tree_of_const-Placeholder n)
const_layer_sort (Const-F.Const::Infer n) = ap sort_at (ap tree_of_const (const_variants.rolls-Infer n) ∙ tree_of_const-Infer n)
const_layer_sort (Const-F.Const::Alias a) = ap sort_at (ap tree_of_const (const_variants.rolls-Alias a) ∙ tree_of_const-Alias a ∙ ap at_const (tree_of_alias-record a)) ∙ const_sort a.kind (forest _)
const_layer_sort (Const-F.Const::Error n) = ap sort_at (ap tree_of_const (const_variants.rolls-Error n) ∙ tree_of_const-Error n)

pub const_sort_of : (c : Const) → IsSort sorts.Const (tree_of_const c)
const_sort_of c = ap (λ u. sort_at (tree_of_const u)) (sym (roll-out-Const c)) ∙ const_layer_sort (out-Const c)

argument_of : (t u : Tree) (s : Sort) → t ≡ u → IsSort s u → is_argument_sort s ≡ true → IsArgument t
argument_of t u s e p q = ap (λ x. is_argument_sort (sort_at x)) e ∙ ap is_argument_sort p ∙ q

term_of : (t u : Tree) (s : Sort) → t ≡ u → IsSort s u → is_term_sort s ≡ true → IsTerm t
term_of t u s e p q = ap (λ x. is_term_sort (sort_at x)) e ∙ ap is_term_sort p ∙ q

arg_layer : (l : GenericArg-F Const DynClause GenericArg Term Ty AliasTerm FnSig) → IsArgument (tree_of_arg (roll-GenericArg l))
arg_layer (GenericArg-F.GenericArg::Ty t) =
    argument_of (tree_of_arg (roll-GenericArg (GenericArg-F.GenericArg::Ty t))) (tree_of_ty t) sorts.Ty
    (ap tree_of_arg (arg_variants.rolls-Ty t) ∙ tree_of_arg-Ty t) (ty_sort t) refl
arg_layer (GenericArg-F.GenericArg::Const c) =
    argument_of (tree_of_arg (roll-GenericArg (GenericArg-F.GenericArg::Const c))) (tree_of_const c) sorts.Const
    (ap tree_of_arg (arg_variants.rolls-Const c) ∙ tree_of_arg-Const c) (const_sort_of c) refl
arg_layer (GenericArg-F.Lifetime r) =
    argument_of (tree_of_arg (roll-GenericArg (GenericArg-F.Lifetime r))) (leaf (head.Lifetime r)) sorts.Lifetime
    (ap tree_of_arg (arg_variants.rolls-Lifetime r) ∙ tree_of_arg-Lifetime r) refl refl

pub arg_sort : (a : GenericArg) → IsArgument (tree_of_arg a)
arg_sort a = subst (λ b. IsArgument (tree_of_arg b)) (roll-out-GenericArg a) (arg_layer (out-GenericArg a))

term_layer : (l : Term-F Const DynClause GenericArg Term Ty AliasTerm FnSig) → IsTerm (tree_of_term (roll-Term l))
term_layer (Term-F.Term::Ty t) =
    term_of (tree_of_term (roll-Term (Term-F.Term::Ty t))) (tree_of_ty t) sorts.Ty
    (ap tree_of_term (term_variants.rolls-Ty t) ∙ tree_of_term-Ty t) (ty_sort t) refl
term_layer (Term-F.Term::Const c) =
    term_of (tree_of_term (roll-Term (Term-F.Term::Const c))) (tree_of_const c) sorts.Const
    (ap tree_of_term (term_variants.rolls-Const c) ∙ tree_of_term-Const c) (const_sort_of c) refl

pub term_sort : (t : Term) → IsTerm (tree_of_term t)
term_sort t = subst (λ u. IsTerm (tree_of_term u)) (roll-out-Term t) (term_layer (out-Term t))

clause_layer : (l : DynClause-F Const DynClause GenericArg Term Ty AliasTerm FnSig) → IsSort sorts.Clause (tree_of_clause (roll-DynClause l))
clause_layer (DynClause-F.Trait i args) = ap sort_at (ap tree_of_clause (clause_variants.rolls-Trait i args) ∙ tree_of_clause-Trait i args)
clause_layer (DynClause-F.Projection i args t) =
    ap sort_at (ap tree_of_clause (clause_variants.rolls-Projection i args t) ∙ tree_of_clause-Projection i args t)

pub clause_sort : (c : DynClause) → IsSort sorts.Clause (tree_of_clause c)
clause_sort c = subst (λ d. IsSort sorts.Clause (tree_of_clause d)) (roll-out-DynClause c) (clause_layer (out-DynClause c))
