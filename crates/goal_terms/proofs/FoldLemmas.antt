-- Rewriting, variant by variant.
use Rattle.std.proofs.Common.{◌≡◌, ℕ, List, [], ◌∷◌, ◌++◌, length, map, Vec, Box, Global, refl, ap, ◌∙◌}
use Rattle.goal_terms.specs.Folding.{Folding, raised, depth_below, folded_node, folded, folded_row}
use Rattle.goal_terms.specs.Tops.{depth_of_parts}
use Rattle.goal_terms.specs.Tree.{Tree, Trees, node, alias, variable, none, more, forest, list_of, node_of, parts_of}
use Rattle.goal_terms.specs.TreeOf.{leaf, at_type, at_const, tree_of_ty, tree_of_const, tree_of_arg, tree_of_term, tree_of_clause, tree_of_alias, tree_of_sig}
use Rattle.goal_terms.specs.declared.heads.Head.TheVariants as head
use Rattle.goal_terms.specs.declared.heads.Node.{Node}
use Rattle.goal_terms.specs.declared.heads.Node.TheVariants as nodes
use Rattle.goal_terms.specs.declared.heads.Variable.TheVariants as variables
use Rattle.goal_terms.specs.declared.ids.AdtId.{AdtId}
use Rattle.goal_terms.specs.declared.ids.ForeignId.{ForeignId}
use Rattle.goal_terms.specs.declared.ids.FnId.{FnId}
use Rattle.goal_terms.specs.declared.ids.ClosureId.{ClosureId}
use Rattle.goal_terms.specs.declared.ids.TraitId.{TraitId}
use Rattle.goal_terms.specs.declared.ids.ItemId.{ItemId}
use Rattle.goal_terms.specs.declared.scalars.IntTy as ints
use Rattle.goal_terms.specs.declared.scalars.UintTy as uints
use Rattle.goal_terms.specs.declared.scalars.FloatTy as floats
use Rattle.goal_terms.specs.declared.scalars.Mutability.{Mutability}
use Rattle.goal_terms.specs.declared.terms.AliasTermKind.{AliasTermKind}
use Rattle.goal_terms.specs.declared.terms.AliasTermKind.TheVariants.{ProjectionTy, ProjectionConst, InherentTy, InherentConst, OpaqueTy, FreeTy, FreeConst, UnevaluatedConst}
use Rattle.goal_terms.specs.declared.terms.AliasTerm.{AliasTerm}
use Rattle.goal_terms.specs.declared.terms.Const as const
use Rattle.goal_terms.specs.declared.terms.Const.{Const}
use Rattle.goal_terms.specs.declared.terms.DynClause as clause
use Rattle.goal_terms.specs.declared.terms.DynClause.{DynClause}
use Rattle.goal_terms.specs.declared.terms.FnSig.{FnSig}
use Rattle.goal_terms.specs.declared.terms.GenericArg as arg
use Rattle.goal_terms.specs.declared.terms.GenericArg.{GenericArg}
use Rattle.goal_terms.specs.declared.terms.InferTy.{InferTy}
use Rattle.goal_terms.specs.declared.terms.Region.{Region}
use Rattle.goal_terms.specs.declared.terms.Term as term
use Rattle.goal_terms.specs.declared.terms.Term.{Term}
use Rattle.goal_terms.specs.declared.terms.Ty as ty
use Rattle.goal_terms.specs.declared.terms.Ty.{Ty}
use Rattle.goal_terms.proofs.TreeLemmas as trees

pub folded_row-forest : (f : Folding) (d : ℕ) (ts : List Tree) → folded_row f d (forest ts) ≡ forest (map (folded f d) ts)
unfolding folded
folded_row-forest f d [] = refl
folded_row-forest f d (t ∷ ts) = ap (λ us. more (folded f d t) us) (folded_row-forest f d ts)

folded_row-list : (f : Folding) (d : ℕ) (ts : Trees) → folded_row f d ts ≡ forest (map (folded f d) (list_of ts))
unfolding folded
folded_row-list f d none = refl
folded_row-list f d (more t ts) = ap (λ us. more (folded f d t) us) (folded_row-list f d ts)

-- what becomes of a node whose parts are rewritten already
abbrev pub rewritten : Folding → ℕ → Node → List Tree → Tree
rewritten f d (nodes.Head h) ts = folded_node f d h (forest ts)
rewritten f d (nodes.Alias k) ts = alias k (forest ts)
rewritten f d (nodes.Variable v) ts = variable v

pub folded-walk : (f : Folding) (d : ℕ) (t : Tree) → folded f d t ≡ rewritten f d (node_of t) (map (folded f (depth_of_parts (node_of t) d)) (parts_of t))
unfolding folded
folded-walk f d (node h ts) = ap (λ us. folded_node f d h us) (folded_row-list f (depth_below h d) ts)
folded-walk f d (alias k ts) = ap (λ us. alias k us) (folded_row-list f d ts)
folded-walk f d (variable v) = refl

-- an alias stays well placed, or misplaced
folded_row-at_type : (f : Folding) (d : ℕ) (k : AliasTermKind) (ts : List Tree) → folded f d (at_type (alias k (forest ts))) ≡ at_type (alias k (forest (map (folded f d) ts)))
unfolding folded folded_node depth_below
folded_row-at_type f d (ProjectionTy i) ts = ap (λ us. alias (ProjectionTy i) us) (folded_row-forest f d ts)
folded_row-at_type f d (ProjectionConst i) ts = ap (λ us. node (head.Misplaced (ProjectionConst i)) us) (folded_row-forest f d ts)
folded_row-at_type f d (InherentTy i) ts = ap (λ us. alias (InherentTy i) us) (folded_row-forest f d ts)
folded_row-at_type f d (InherentConst i) ts = ap (λ us. node (head.Misplaced (InherentConst i)) us) (folded_row-forest f d ts)
folded_row-at_type f d (OpaqueTy i) ts = ap (λ us. alias (OpaqueTy i) us) (folded_row-forest f d ts)
folded_row-at_type f d (FreeTy i) ts = ap (λ us. alias (FreeTy i) us) (folded_row-forest f d ts)
folded_row-at_type f d (FreeConst i) ts = ap (λ us. node (head.Misplaced (FreeConst i)) us) (folded_row-forest f d ts)
folded_row-at_type f d (UnevaluatedConst i) ts = ap (λ us. node (head.Misplaced (UnevaluatedConst i)) us) (folded_row-forest f d ts)

folded_row-at_const : (f : Folding) (d : ℕ) (k : AliasTermKind) (ts : List Tree) → folded f d (at_const (alias k (forest ts))) ≡ at_const (alias k (forest (map (folded f d) ts)))
unfolding folded folded_node depth_below
folded_row-at_const f d (ProjectionTy i) ts = ap (λ us. node (head.Misplaced (ProjectionTy i)) us) (folded_row-forest f d ts)
folded_row-at_const f d (ProjectionConst i) ts = ap (λ us. alias (ProjectionConst i) us) (folded_row-forest f d ts)
folded_row-at_const f d (InherentTy i) ts = ap (λ us. node (head.Misplaced (InherentTy i)) us) (folded_row-forest f d ts)
folded_row-at_const f d (InherentConst i) ts = ap (λ us. alias (InherentConst i) us) (folded_row-forest f d ts)
folded_row-at_const f d (OpaqueTy i) ts = ap (λ us. node (head.Misplaced (OpaqueTy i)) us) (folded_row-forest f d ts)
folded_row-at_const f d (FreeTy i) ts = ap (λ us. node (head.Misplaced (FreeTy i)) us) (folded_row-forest f d ts)
folded_row-at_const f d (FreeConst i) ts = ap (λ us. alias (FreeConst i) us) (folded_row-forest f d ts)
folded_row-at_const f d (UnevaluatedConst i) ts = ap (λ us. alias (UnevaluatedConst i) us) (folded_row-forest f d ts)

map_append_last : (f : Folding) (d : ℕ) (ts : List Tree) (t : Tree) → map (folded f d) (ts ++ t ∷ []) ≡ map (folded f d) ts ++ folded f d t ∷ []
map_append_last f d [] t = refl
map_append_last f d (u ∷ ts) t = ap (λ us. folded f d u ∷ us) (map_append_last f d ts t)

pub folded_ty-Bool : (f : Folding) (d : ℕ) → folded f d (tree_of_ty ty.Bool) ≡ leaf head.Bool
unfolding folded folded_node depth_below
folded_ty-Bool f d =
    ap (folded f d) trees.tree_of_ty-Bool

pub folded_ty-Char : (f : Folding) (d : ℕ) → folded f d (tree_of_ty ty.Char) ≡ leaf head.Char
unfolding folded folded_node depth_below
folded_ty-Char f d =
    ap (folded f d) trees.tree_of_ty-Char

pub folded_ty-Int : (f : Folding) (d : ℕ) (i : ints.IntTy) → folded f d (tree_of_ty (ty.Int i)) ≡ leaf (head.Int i)
unfolding folded folded_node depth_below
folded_ty-Int f d i =
    ap (folded f d) (trees.tree_of_ty-Int i)

pub folded_ty-Uint : (f : Folding) (d : ℕ) (i : uints.UintTy) → folded f d (tree_of_ty (ty.Uint i)) ≡ leaf (head.Uint i)
unfolding folded folded_node depth_below
folded_ty-Uint f d i =
    ap (folded f d) (trees.tree_of_ty-Uint i)

pub folded_ty-Float : (f : Folding) (d : ℕ) (i : floats.FloatTy) → folded f d (tree_of_ty (ty.Float i)) ≡ leaf (head.Float i)
unfolding folded folded_node depth_below
folded_ty-Float f d i =
    ap (folded f d) (trees.tree_of_ty-Float i)

pub folded_ty-Str : (f : Folding) (d : ℕ) → folded f d (tree_of_ty ty.Str) ≡ leaf head.Str
unfolding folded folded_node depth_below
folded_ty-Str f d =
    ap (folded f d) trees.tree_of_ty-Str

pub folded_ty-Never : (f : Folding) (d : ℕ) → folded f d (tree_of_ty ty.Never) ≡ leaf head.Never
unfolding folded folded_node depth_below
folded_ty-Never f d =
    ap (folded f d) trees.tree_of_ty-Never

pub folded_ty-Adt : (f : Folding) (d : ℕ) (i : AdtId) (args : Vec GenericArg Global) → folded f d (tree_of_ty (ty.Adt i args)) ≡ node (head.Adt i (length args.items)) (forest (map (folded f d) (map tree_of_arg args.items)))
unfolding folded folded_node depth_below
folded_ty-Adt f d i args =
    ap (folded f d) (trees.tree_of_ty-Adt i args) ∙ ap (λ us. node (head.Adt i (length args.items)) us) (folded_row-forest f (d) (map tree_of_arg args.items))

pub folded_ty-Foreign : (f : Folding) (d : ℕ) (i : ForeignId) → folded f d (tree_of_ty (ty.Foreign i)) ≡ leaf (head.Foreign i)
unfolding folded folded_node depth_below
folded_ty-Foreign f d i =
    ap (folded f d) (trees.tree_of_ty-Foreign i)

pub folded_ty-Array : (f : Folding) (d : ℕ) (t : Box Ty Global) (c : Box Const Global) → folded f d (tree_of_ty (ty.Array t c)) ≡ node head.Array (more (folded f d (tree_of_ty t.value)) (more (folded f d (tree_of_const c.value)) none))
unfolding folded folded_node depth_below
folded_ty-Array f d t c =
    ap (folded f d) (trees.tree_of_ty-Array t c)

pub folded_ty-Slice : (f : Folding) (d : ℕ) (t : Box Ty Global) → folded f d (tree_of_ty (ty.Slice t)) ≡ node head.Slice (more (folded f d (tree_of_ty t.value)) none)
unfolding folded folded_node depth_below
folded_ty-Slice f d t =
    ap (folded f d) (trees.tree_of_ty-Slice t)

pub folded_ty-RawPtr : (f : Folding) (d : ℕ) (t : Box Ty Global) (m : Mutability) → folded f d (tree_of_ty (ty.RawPtr t m)) ≡ node (head.RawPtr m) (more (folded f d (tree_of_ty t.value)) none)
unfolding folded folded_node depth_below
folded_ty-RawPtr f d t m =
    ap (folded f d) (trees.tree_of_ty-RawPtr t m)

pub folded_ty-Ref : (f : Folding) (d : ℕ) (r : Region) (t : Box Ty Global) (m : Mutability) → folded f d (tree_of_ty (ty.Ref r t m)) ≡ node (head.Ref (f.region d r) m) (more (folded f d (tree_of_ty t.value)) none)
unfolding folded folded_node depth_below
folded_ty-Ref f d r t m =
    ap (folded f d) (trees.tree_of_ty-Ref r t m)

pub folded_ty-FnDef : (f : Folding) (d : ℕ) (i : FnId) (args : Vec GenericArg Global) → folded f d (tree_of_ty (ty.FnDef i args)) ≡ node (head.FnDef i (length args.items)) (forest (map (folded f d) (map tree_of_arg args.items)))
unfolding folded folded_node depth_below
folded_ty-FnDef f d i args =
    ap (folded f d) (trees.tree_of_ty-FnDef i args) ∙ ap (λ us. node (head.FnDef i (length args.items)) us) (folded_row-forest f (d) (map tree_of_arg args.items))

pub folded_ty-FnPtr : (f : Folding) (d : ℕ) (sig : Box FnSig Global) → folded f d (tree_of_ty (ty.FnPtr sig)) ≡ folded f d (tree_of_sig sig.value)
unfolding folded folded_node depth_below
folded_ty-FnPtr f d sig =
    ap (folded f d) (trees.tree_of_ty-FnPtr sig)

pub folded_ty-Closure : (f : Folding) (d : ℕ) (i : ClosureId) (args : Vec GenericArg Global) → folded f d (tree_of_ty (ty.Closure i args)) ≡ node (head.Closure i (length args.items)) (forest (map (folded f d) (map tree_of_arg args.items)))
unfolding folded folded_node depth_below
folded_ty-Closure f d i args =
    ap (folded f d) (trees.tree_of_ty-Closure i args) ∙ ap (λ us. node (head.Closure i (length args.items)) us) (folded_row-forest f (d) (map tree_of_arg args.items))

pub folded_ty-Dynamic : (f : Folding) (d : ℕ) (clauses : Vec DynClause Global) (r : Region) → folded f d (tree_of_ty (ty.Dynamic clauses r)) ≡ node (head.Dynamic (length clauses.items) (f.region d r)) (forest (map (folded f d) (map tree_of_clause clauses.items)))
unfolding folded folded_node depth_below
folded_ty-Dynamic f d clauses r =
    ap (folded f d) (trees.tree_of_ty-Dynamic clauses r) ∙ ap (λ us. node (head.Dynamic (length clauses.items) (f.region d r)) us) (folded_row-forest f d (map tree_of_clause clauses.items))

pub folded_ty-Tuple : (f : Folding) (d : ℕ) (elements : Vec Ty Global) → folded f d (tree_of_ty (ty.Tuple elements)) ≡ node (head.Tuple (length elements.items)) (forest (map (folded f d) (map tree_of_ty elements.items)))
unfolding folded folded_node depth_below
folded_ty-Tuple f d elements =
    ap (folded f d) (trees.tree_of_ty-Tuple elements) ∙ ap (λ us. node (head.Tuple (length elements.items)) us) (folded_row-forest f (d) (map tree_of_ty elements.items))

pub folded_ty-Param : (f : Folding) (d : ℕ) (n : ℕ) → folded f d (tree_of_ty (ty.Param n)) ≡ f.ty_param d n
unfolding folded folded_node depth_below
folded_ty-Param f d n =
    ap (folded f d) (trees.tree_of_ty-Param n)

pub folded_ty-Placeholder : (f : Folding) (d : ℕ) (n : ℕ) → folded f d (tree_of_ty (ty.Placeholder n)) ≡ leaf (head.TyPlaceholder n)
unfolding folded folded_node depth_below
folded_ty-Placeholder f d n =
    ap (folded f d) (trees.tree_of_ty-Placeholder n)

pub folded_ty-Alias : (f : Folding) (d : ℕ) (a : AliasTerm) → folded f d (tree_of_ty (ty.Alias a)) ≡ at_type (alias a.kind (forest (map (folded f d) (map tree_of_arg a.args.items))))
unfolding folded folded_node depth_below
folded_ty-Alias f d a =
    ap (folded f d) (trees.tree_of_ty-Alias a) ∙ ap (λ t. folded f d (at_type t)) (trees.tree_of_alias-record a) ∙ folded_row-at_type f d a.kind (map tree_of_arg a.args.items)

pub folded_const-Alias : (f : Folding) (d : ℕ) (a : AliasTerm) → folded f d (tree_of_const (const.Alias a)) ≡ at_const (alias a.kind (forest (map (folded f d) (map tree_of_arg a.args.items))))
unfolding folded folded_node depth_below
folded_const-Alias f d a =
    ap (folded f d) (trees.tree_of_const-Alias a) ∙ ap (λ t. folded f d (at_const t)) (trees.tree_of_alias-record a) ∙ folded_row-at_const f d a.kind (map tree_of_arg a.args.items)

pub folded_ty-Infer : (f : Folding) (d : ℕ) (v : InferTy) → folded f d (tree_of_ty (ty.Infer v)) ≡ variable (variables.Ty v)
unfolding folded folded_node depth_below
folded_ty-Infer f d v =
    ap (folded f d) (trees.tree_of_ty-Infer v)

pub folded_ty-Error : (f : Folding) (d : ℕ) (n : ℕ) → folded f d (tree_of_ty (ty.Error n)) ≡ leaf (head.TyError n)
unfolding folded folded_node depth_below
folded_ty-Error f d n =
    ap (folded f d) (trees.tree_of_ty-Error n)

pub folded_const-Value : (f : Folding) (d : ℕ) (n : ℕ) → folded f d (tree_of_const (const.Value n)) ≡ leaf (head.Value n)
unfolding folded folded_node depth_below
folded_const-Value f d n =
    ap (folded f d) (trees.tree_of_const-Value n)

pub folded_const-Param : (f : Folding) (d : ℕ) (n : ℕ) → folded f d (tree_of_const (const.Param n)) ≡ f.const_param d n
unfolding folded folded_node depth_below
folded_const-Param f d n =
    ap (folded f d) (trees.tree_of_const-Param n)

pub folded_const-Placeholder : (f : Folding) (d : ℕ) (n : ℕ) → folded f d (tree_of_const (const.Placeholder n)) ≡ leaf (head.ConstPlaceholder n)
unfolding folded folded_node depth_below
folded_const-Placeholder f d n =
    ap (folded f d) (trees.tree_of_const-Placeholder n)

pub folded_const-Infer : (f : Folding) (d : ℕ) (n : ℕ) → folded f d (tree_of_const (const.Infer n)) ≡ variable (variables.Const n)
unfolding folded folded_node depth_below
folded_const-Infer f d n =
    ap (folded f d) (trees.tree_of_const-Infer n)

pub folded_const-Error : (f : Folding) (d : ℕ) (n : ℕ) → folded f d (tree_of_const (const.Error n)) ≡ leaf (head.ConstError n)
unfolding folded folded_node depth_below
folded_const-Error f d n =
    ap (folded f d) (trees.tree_of_const-Error n)

pub folded_arg-Ty : (f : Folding) (d : ℕ) (t : Ty) → folded f d (tree_of_arg (arg.Ty t)) ≡ folded f d (tree_of_ty t)
unfolding folded folded_node depth_below
folded_arg-Ty f d t =
    ap (folded f d) (trees.tree_of_arg-Ty t)

pub folded_arg-Const : (f : Folding) (d : ℕ) (c : Const) → folded f d (tree_of_arg (arg.Const c)) ≡ folded f d (tree_of_const c)
unfolding folded folded_node depth_below
folded_arg-Const f d c =
    ap (folded f d) (trees.tree_of_arg-Const c)

pub folded_arg-Lifetime : (f : Folding) (d : ℕ) (r : Region) → folded f d (tree_of_arg (arg.Lifetime r)) ≡ leaf (head.Lifetime (f.region d r))
unfolding folded folded_node depth_below
folded_arg-Lifetime f d r =
    ap (folded f d) (trees.tree_of_arg-Lifetime r)

pub folded_term-Ty : (f : Folding) (d : ℕ) (t : Ty) → folded f d (tree_of_term (term.Ty t)) ≡ folded f d (tree_of_ty t)
unfolding folded folded_node depth_below
folded_term-Ty f d t =
    ap (folded f d) (trees.tree_of_term-Ty t)

pub folded_term-Const : (f : Folding) (d : ℕ) (c : Const) → folded f d (tree_of_term (term.Const c)) ≡ folded f d (tree_of_const c)
unfolding folded folded_node depth_below
folded_term-Const f d c =
    ap (folded f d) (trees.tree_of_term-Const c)

pub folded_clause-Trait : (f : Folding) (d : ℕ) (i : TraitId) (args : Vec GenericArg Global) → folded f d (tree_of_clause (clause.Trait i args)) ≡ node (head.DynTrait i (length args.items)) (forest (map (folded f (raised d 1)) (map tree_of_arg args.items)))
unfolding folded folded_node depth_below
folded_clause-Trait f d i args =
    ap (folded f d) (trees.tree_of_clause-Trait i args) ∙ ap (λ us. node (head.DynTrait i (length args.items)) us) (folded_row-forest f ((raised d 1)) (map tree_of_arg args.items))

pub folded_clause-Projection : (f : Folding) (d : ℕ) (i : ItemId) (args : Vec GenericArg Global) (t : Term) → folded f d (tree_of_clause (clause.Projection i args t)) ≡ node (head.DynProjection i (length args.items)) (forest (map (folded f (raised d 1)) (map tree_of_arg args.items) ++ folded f (raised d 1) (tree_of_term t) ∷ []))
unfolding folded folded_node depth_below
folded_clause-Projection f d i args t =
    ap (folded f d) (trees.tree_of_clause-Projection i args t) ∙ ap (λ us. node (head.DynProjection i (length args.items)) us) (folded_row-forest f (raised d 1) (map tree_of_arg args.items ++ tree_of_term t ∷ []) ∙ ap forest (map_append_last f (raised d 1) (map tree_of_arg args.items) (tree_of_term t)))

pub folded_alias : (f : Folding) (d : ℕ) (a : AliasTerm) → folded f d (tree_of_alias a) ≡ alias a.kind (forest (map (folded f d) (map tree_of_arg a.args.items)))
unfolding folded folded_node depth_below
folded_alias f d a =
    ap (folded f d) (trees.tree_of_alias-record a) ∙ ap (λ us. alias a.kind us) (folded_row-forest f d (map tree_of_arg a.args.items))

pub folded_sig : (f : Folding) (d : ℕ) (s : FnSig) → folded f d (tree_of_sig s) ≡ node (head.FnPtr s.bound_regions (length s.inputs.items) s.fn_traits) (forest (map (folded f (raised d 1)) (map tree_of_ty s.inputs.items) ++ folded f (raised d 1) (tree_of_ty s.output) ∷ []))
unfolding folded folded_node depth_below
folded_sig f d s =
    ap (folded f d) (trees.tree_of_sig-record s) ∙ ap (λ us. node (head.FnPtr s.bound_regions (length s.inputs.items) s.fn_traits) us) (folded_row-forest f (raised d 1) (map tree_of_ty s.inputs.items ++ tree_of_ty s.output ∷ []) ∙ ap forest (map_append_last f (raised d 1) (map tree_of_ty s.inputs.items) (tree_of_ty s.output)))

-- what becomes of each variant
pub ruleset folding_equations = (trees.tree_equations, folded_ty-Bool, folded_ty-Char, folded_ty-Int, folded_ty-Uint, folded_ty-Float, folded_ty-Str, folded_ty-Never, folded_ty-Adt, folded_ty-Foreign, folded_ty-Array, folded_ty-Slice, folded_ty-RawPtr, folded_ty-Ref, folded_ty-FnDef, folded_ty-FnPtr, folded_ty-Closure, folded_ty-Dynamic, folded_ty-Tuple, folded_ty-Param, folded_ty-Placeholder, folded_ty-Alias, folded_const-Alias, folded_ty-Infer, folded_ty-Error, folded_const-Value, folded_const-Param, folded_const-Placeholder, folded_const-Infer, folded_const-Error, folded_arg-Ty, folded_arg-Const, folded_arg-Lifetime, folded_term-Ty, folded_term-Const, folded_clause-Trait, folded_clause-Projection, folded_alias, folded_sig)
