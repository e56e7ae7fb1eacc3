-- The tree of each public term. Two terms are identical exactly where their trees are.
use Rattle.std.specs.Prelude.{List, [], ◌∷◌, ◌++◌, length, Bool, true, false, map, if◌then◌else◌}
use Rattle.goal_terms.specs.Tree.{Tree, node, alias, variable, none, more, forest}
use Rattle.goal_terms.specs.declared.heads.Head.TheVariants as head
use Rattle.goal_terms.specs.declared.heads.Head.{Head}
use Rattle.goal_terms.specs.declared.heads.Variable.TheVariants as variables
use Rattle.goal_terms.specs.declared.terms.AliasTermKind.{AliasTermKind}
use Rattle.goal_terms.specs.declared.terms.AliasTermKind.TheVariants.{ProjectionTy, ProjectionConst, InherentTy, InherentConst, OpaqueTy, FreeTy, FreeConst, UnevaluatedConst}
use Rattle.goal_terms.specs.declared.terms.Ty.{Ty, Ty-F, fold-Ty}
use Rattle.goal_terms.specs.declared.terms.Const.{Const, Const-F, fold-Const}
use Rattle.goal_terms.specs.declared.terms.GenericArg.{GenericArg, GenericArg-F, fold-GenericArg}
use Rattle.goal_terms.specs.declared.terms.Term.{Term, Term-F, fold-Term}
use Rattle.goal_terms.specs.declared.terms.FnSig.{FnSig, FnSig-F, fold-FnSig}
use Rattle.goal_terms.specs.declared.terms.DynClause.{DynClause, DynClause-F, fold-DynClause}
use Rattle.goal_terms.specs.declared.terms.AliasTerm.{AliasTerm, AliasTerm-F, fold-AliasTerm}

-- does an alias of this kind stand for a type?
abbrev pub is_type_kind : AliasTermKind → Bool
is_type_kind (ProjectionTy i) = true
is_type_kind (ProjectionConst i) = false
is_type_kind (InherentTy i) = true
is_type_kind (InherentConst i) = false
is_type_kind (OpaqueTy i) = true
is_type_kind (FreeTy i) = true
is_type_kind (FreeConst i) = false
is_type_kind (UnevaluatedConst n) = false

-- an alias where a type is wanted
abbrev pub at_type : Tree → Tree
at_type (node h ts) = node h ts
at_type (alias k ts) = if is_type_kind k then alias k ts else node (head.Misplaced k) ts
at_type (variable v) = variable v

-- an alias where a constant is wanted
abbrev pub at_const : Tree → Tree
at_const (node h ts) = node h ts
at_const (alias k ts) = if is_type_kind k then node (head.Misplaced k) ts else alias k ts
at_const (variable v) = variable v

-- a term without parts
abbrev pub leaf : Head → Tree
leaf h = node h none

-- one layer of each type, with trees in place of what it holds
abbrev pub layer_of_ty : Ty-F Tree Tree Tree Tree Tree Tree Tree → Tree
layer_of_ty Ty-F.Bool = leaf head.Bool
layer_of_ty Ty-F.Char = leaf head.Char
layer_of_ty (Ty-F.Int i) = leaf (head.Int i)
layer_of_ty (Ty-F.Uint i) = leaf (head.Uint i)
layer_of_ty (Ty-F.Float i) = leaf (head.Float i)
layer_of_ty Ty-F.Str = leaf head.Str
layer_of_ty Ty-F.Never = leaf head.Never
layer_of_ty (Ty-F.Adt i args) = node (head.Adt i (length args.items)) (forest args.items)
layer_of_ty (Ty-F.Foreign i) = leaf (head.Foreign i)
layer_of_ty (Ty-F.Array t c) = node head.Array (more t.value (more c.value none))
layer_of_ty (Ty-F.Slice t) = node head.Slice (more t.value none)
layer_of_ty (Ty-F.RawPtr t m) = node (head.RawPtr m) (more t.value none)
layer_of_ty (Ty-F.Ref r t m) = node (head.Ref r m) (more t.value none)
layer_of_ty (Ty-F.FnDef i args) = node (head.FnDef i (length args.items)) (forest args.items)
layer_of_ty (Ty-F.FnPtr sig) = sig.value
layer_of_ty (Ty-F.Closure i args) = node (head.Closure i (length args.items)) (forest args.items)
layer_of_ty (Ty-F.Dynamic clauses r) = node (head.Dynamic (length clauses.items) r) (forest clauses.items)
layer_of_ty (Ty-F.Tuple elements) = node (head.Tuple (length elements.items)) (forest elements.items)
layer_of_ty (Ty-F.Ty::Param n) = leaf (head.TyParam n)
layer_of_ty (Ty-F.Ty::Placeholder n) = leaf (head.TyPlaceholder n)
layer_of_ty (Ty-F.Ty::Alias a) = at_type a
layer_of_ty (Ty-F.Ty::Infer v) = variable (variables.Ty v)
layer_of_ty (Ty-F.Ty::Error n) = leaf (head.TyError n)

abbrev pub layer_of_const : Const-F Tree Tree Tree Tree Tree Tree Tree → Tree
layer_of_const (Const-F.Value n) = leaf (head.Value n)
layer_of_const (Const-F.Const::Param n) = leaf (head.ConstParam n)
layer_of_const (Const-F.Const::Placeholder n) = leaf (head.ConstPlaceholder n)
layer_of_const (Const-F.Const::Infer n) = variable (variables.Const n)
layer_of_const (Const-F.Const::Alias a) = at_const a
layer_of_const (Const-F.Const::Error n) = leaf (head.ConstError n)

abbrev pub layer_of_arg : GenericArg-F Tree Tree Tree Tree Tree Tree Tree → Tree
layer_of_arg (GenericArg-F.GenericArg::Ty t) = t
layer_of_arg (GenericArg-F.GenericArg::Const c) = c
layer_of_arg (GenericArg-F.Lifetime r) = leaf (head.Lifetime r)

abbrev pub layer_of_term : Term-F Tree Tree Tree Tree Tree Tree Tree → Tree
layer_of_term (Term-F.Term::Ty t) = t
layer_of_term (Term-F.Term::Const c) = c

abbrev pub layer_of_clause : DynClause-F Tree Tree Tree Tree Tree Tree Tree → Tree
layer_of_clause (DynClause-F.Trait i args) = node (head.DynTrait i (length args.items)) (forest args.items)
layer_of_clause (DynClause-F.Projection i args t) =
    node (head.DynProjection i (length args.items)) (forest (args.items ++ t ∷ []))

abbrev pub layer_of_alias : AliasTerm-F Tree Tree Tree Tree Tree Tree Tree → Tree
layer_of_alias a = alias a.kind (forest a.args.items)

abbrev pub layer_of_sig : FnSig-F Tree Tree Tree Tree Tree Tree Tree → Tree
layer_of_sig s =
    node (head.FnPtr s.bound_regions (length s.inputs.items) s.fn_traits) (forest (s.inputs.items ++ s.output ∷ []))

-- the tree of a type
unfoldable pub tree_of_ty : Ty → Tree
tree_of_ty = fold-Ty Tree Tree Tree Tree Tree Tree Tree layer_of_const layer_of_clause layer_of_arg layer_of_term layer_of_ty layer_of_alias layer_of_sig

-- the tree of a constant
unfoldable pub tree_of_const : Const → Tree
tree_of_const = fold-Const Tree Tree Tree Tree Tree Tree Tree layer_of_const layer_of_clause layer_of_arg layer_of_term layer_of_ty layer_of_alias layer_of_sig

-- the tree of an argument
unfoldable pub tree_of_arg : GenericArg → Tree
tree_of_arg = fold-GenericArg Tree Tree Tree Tree Tree Tree Tree layer_of_const layer_of_clause layer_of_arg layer_of_term layer_of_ty layer_of_alias layer_of_sig

-- the tree of a term
unfoldable pub tree_of_term : Term → Tree
tree_of_term = fold-Term Tree Tree Tree Tree Tree Tree Tree layer_of_const layer_of_clause layer_of_arg layer_of_term layer_of_ty layer_of_alias layer_of_sig

-- the tree of a clause of a `dyn` type
unfoldable pub tree_of_clause : DynClause → Tree
tree_of_clause = fold-DynClause Tree Tree Tree Tree Tree Tree Tree layer_of_const layer_of_clause layer_of_arg layer_of_term layer_of_ty layer_of_alias layer_of_sig

-- the tree of an alias
unfoldable pub tree_of_alias : AliasTerm → Tree
tree_of_alias = fold-AliasTerm Tree Tree Tree Tree Tree Tree Tree layer_of_const layer_of_clause layer_of_arg layer_of_term layer_of_ty layer_of_alias layer_of_sig

-- the tree of a signature, which is that of a pointer to such a function
unfoldable pub tree_of_sig : FnSig → Tree
tree_of_sig = fold-FnSig Tree Tree Tree Tree Tree Tree Tree layer_of_const layer_of_clause layer_of_arg layer_of_term layer_of_ty layer_of_alias layer_of_sig

-- the trees of a list of arguments
abbrev pub trees_of : List GenericArg → List Tree
trees_of = map tree_of_arg
