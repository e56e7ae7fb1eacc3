-- The equations of the trees of terms, one for each variant.
use Rattle.std.proofs.Common.{◌≡◌, ℕ, List, [], ◌∷◌, ◌++◌, length, map, Vec, Box, Global, refl, sym, ap, ◌∙◌}
use Rattle.std.proofs.lemmas.List.{length-map}
use Rattle.goal_terms.specs.Tree.{Tree, node, alias, variable, none, more, forest, list_of, parts_of}
use Rattle.goal_terms.specs.TreeOf.{leaf, at_type, at_const, layer_of_ty, layer_of_const, layer_of_arg, layer_of_term, layer_of_clause, layer_of_alias, layer_of_sig, tree_of_ty, tree_of_const, tree_of_arg, tree_of_term, tree_of_clause, tree_of_alias, tree_of_sig}
use Rattle.goal_terms.specs.declared.terms.AliasTermKind.TheVariants.{ProjectionTy, ProjectionConst, InherentTy, InherentConst, OpaqueTy, FreeTy, FreeConst, UnevaluatedConst}
use Rattle.goal_terms.specs.declared.ids.AdtId.{AdtId}
use Rattle.goal_terms.specs.declared.ids.ForeignId.{ForeignId}
use Rattle.goal_terms.specs.declared.ids.FnId.{FnId}
use Rattle.goal_terms.specs.declared.ids.ClosureId.{ClosureId}
use Rattle.goal_terms.specs.declared.ids.TraitId.{TraitId}
use Rattle.goal_terms.specs.declared.ids.ItemId.{ItemId}
use Rattle.goal_terms.specs.declared.scalars.IntTy as ints
use Rattle.goal_terms.specs.declared.scalars.UintTy as uints
use Rattle.goal_terms.specs.declared.scalars.FloatTy as floats
use Rattle.goal_terms.specs.declared.scalars.Mutability.{Mutability}
use Rattle.goal_terms.specs.declared.heads.Head.TheVariants as head
use Rattle.goal_terms.specs.declared.heads.Variable.TheVariants as variables
use Rattle.goal_terms.specs.declared.terms.Region.{Region}
use Rattle.goal_terms.specs.declared.terms.InferTy.{InferTy}
use Rattle.goal_terms.specs.declared.terms.Ty as ty
use Rattle.goal_terms.specs.declared.terms.Ty.{Ty, Ty-F, fold-roll-Ty}
use Rattle.goal_terms.specs.declared.terms.Ty.TheVariants as ty_variants
use Rattle.goal_terms.specs.declared.terms.Const as const
use Rattle.goal_terms.specs.declared.terms.Const.{Const, Const-F, fold-roll-Const}
use Rattle.goal_terms.specs.declared.terms.Const.TheVariants as const_variants
use Rattle.goal_terms.specs.declared.terms.GenericArg as arg
use Rattle.goal_terms.specs.declared.terms.GenericArg.{GenericArg, GenericArg-F, fold-roll-GenericArg}
use Rattle.goal_terms.specs.declared.terms.GenericArg.TheVariants as arg_variants
use Rattle.goal_terms.specs.declared.terms.Term as term
use Rattle.goal_terms.specs.declared.terms.Term.{Term, Term-F, fold-roll-Term}
use Rattle.goal_terms.specs.declared.terms.Term.TheVariants as term_variants
use Rattle.goal_terms.specs.declared.terms.DynClause as clause
use Rattle.goal_terms.specs.declared.terms.DynClause.{DynClause, DynClause-F, fold-roll-DynClause}
use Rattle.goal_terms.specs.declared.terms.DynClause.TheVariants as clause_variants
use Rattle.goal_terms.specs.declared.terms.AliasTerm.{AliasTerm, fold_out-AliasTerm}
use Rattle.goal_terms.specs.declared.terms.FnSig.{FnSig, fold_out-FnSig}

pub tree_of_ty-Bool : tree_of_ty ty.Bool ≡ leaf head.Bool
unfolding tree_of_ty tree_of_const tree_of_arg tree_of_term tree_of_clause tree_of_alias tree_of_sig
tree_of_ty-Bool =
    ap tree_of_ty (sym ty_variants.rolls-Bool) ∙ fold-roll-Ty Tree Tree Tree Tree Tree Tree Tree layer_of_const layer_of_clause layer_of_arg layer_of_term layer_of_ty layer_of_alias layer_of_sig Ty-F.Bool

pub tree_of_ty-Char : tree_of_ty ty.Char ≡ leaf head.Char
unfolding tree_of_ty tree_of_const tree_of_arg tree_of_term tree_of_clause tree_of_alias tree_of_sig
tree_of_ty-Char =
    ap tree_of_ty (sym ty_variants.rolls-Char) ∙ fold-roll-Ty Tree Tree Tree Tree Tree Tree Tree layer_of_const layer_of_clause layer_of_arg layer_of_term layer_of_ty layer_of_alias layer_of_sig Ty-F.Char

pub tree_of_ty-Int : (i : ints.IntTy) → tree_of_ty (ty.Int i) ≡ leaf (head.Int i)
unfolding tree_of_ty tree_of_const tree_of_arg tree_of_term tree_of_clause tree_of_alias tree_of_sig
tree_of_ty-Int i =
    ap tree_of_ty (sym (ty_variants.rolls-Int i)) ∙ fold-roll-Ty Tree Tree Tree Tree Tree Tree Tree layer_of_const layer_of_clause layer_of_arg layer_of_term layer_of_ty layer_of_alias layer_of_sig (Ty-F.Int i)

pub tree_of_ty-Uint : (i : uints.UintTy) → tree_of_ty (ty.Uint i) ≡ leaf (head.Uint i)
unfolding tree_of_ty tree_of_const tree_of_arg tree_of_term tree_of_clause tree_of_alias tree_of_sig
tree_of_ty-Uint i =
    ap tree_of_ty (sym (ty_variants.rolls-Uint i)) ∙ fold-roll-Ty Tree Tree Tree Tree Tree Tree Tree layer_of_const layer_of_clause layer_of_arg layer_of_term layer_of_ty layer_of_alias layer_of_sig (Ty-F.Uint i)

pub tree_of_ty-Float : (i : floats.FloatTy) → tree_of_ty (ty.Float i) ≡ leaf (head.Float i)
unfolding tree_of_ty tree_of_const tree_of_arg tree_of_term tree_of_clause tree_of_alias tree_of_sig
tree_of_ty-Float i =
    ap tree_of_ty (sym (ty_variants.rolls-Float i)) ∙ fold-roll-Ty Tree Tree Tree Tree Tree Tree Tree layer_of_const layer_of_clause layer_of_arg layer_of_term layer_of_ty layer_of_alias layer_of_sig (Ty-F.Float i)

pub tree_of_ty-Str : tree_of_ty ty.Str ≡ leaf head.Str
unfolding tree_of_ty tree_of_const tree_of_arg tree_of_term tree_of_clause tree_of_alias tree_of_sig
tree_of_ty-Str =
    ap tree_of_ty (sym ty_variants.rolls-Str) ∙ fold-roll-Ty Tree Tree Tree Tree Tree Tree Tree layer_of_const layer_of_clause layer_of_arg layer_of_term layer_of_ty layer_of_alias layer_of_sig Ty-F.Str

pub tree_of_ty-Never : tree_of_ty ty.Never ≡ leaf head.Never
unfolding tree_of_ty tree_of_const tree_of_arg tree_of_term tree_of_clause tree_of_alias tree_of_sig
tree_of_ty-Never =
    ap tree_of_ty (sym ty_variants.rolls-Never) ∙ fold-roll-Ty Tree Tree Tree Tree Tree Tree Tree layer_of_const layer_of_clause layer_of_arg layer_of_term layer_of_ty layer_of_alias layer_of_sig Ty-F.Never

pub tree_of_ty-Adt : (i : AdtId) (args : Vec GenericArg Global) → tree_of_ty (ty.Adt i args) ≡ node (head.Adt i (length args.items)) (forest (map tree_of_arg args.items))
unfolding tree_of_ty tree_of_const tree_of_arg tree_of_term tree_of_clause tree_of_alias tree_of_sig
tree_of_ty-Adt i args =
    ap tree_of_ty (sym (ty_variants.rolls-Adt i args)) ∙ fold-roll-Ty Tree Tree Tree Tree Tree Tree Tree layer_of_const layer_of_clause layer_of_arg layer_of_term layer_of_ty layer_of_alias layer_of_sig (Ty-F.Adt i args) ∙
    ap (λ n. node (head.Adt i n) (forest (map tree_of_arg args.items))) (length-map args.items tree_of_arg)

pub tree_of_ty-Foreign : (i : ForeignId) → tree_of_ty (ty.Foreign i) ≡ leaf (head.Foreign i)
unfolding tree_of_ty tree_of_const tree_of_arg tree_of_term tree_of_clause tree_of_alias tree_of_sig
tree_of_ty-Foreign i =
    ap tree_of_ty (sym (ty_variants.rolls-Foreign i)) ∙ fold-roll-Ty Tree Tree Tree Tree Tree Tree Tree layer_of_const layer_of_clause layer_of_arg layer_of_term layer_of_ty layer_of_alias layer_of_sig (Ty-F.Foreign i)

pub tree_of_ty-Array : (t : Box Ty Global) (c : Box Const Global) → tree_of_ty (ty.Array t c) ≡ node head.Array (more (tree_of_ty t.value) (more (tree_of_const c.value) none))
unfolding tree_of_ty tree_of_const tree_of_arg tree_of_term tree_of_clause tree_of_alias tree_of_sig
tree_of_ty-Array t c =
    ap tree_of_ty (sym (ty_variants.rolls-Array t c)) ∙ fold-roll-Ty Tree Tree Tree Tree Tree Tree Tree layer_of_const layer_of_clause layer_of_arg layer_of_term layer_of_ty layer_of_alias layer_of_sig (Ty-F.Array t c)

pub tree_of_ty-Slice : (t : Box Ty Global) → tree_of_ty (ty.Slice t) ≡ node head.Slice (more (tree_of_ty t.value) none)
unfolding tree_of_ty tree_of_const tree_of_arg tree_of_term tree_of_clause tree_of_alias tree_of_sig
tree_of_ty-Slice t =
    ap tree_of_ty (sym (ty_variants.rolls-Slice t)) ∙ fold-roll-Ty Tree Tree Tree Tree Tree Tree Tree layer_of_const layer_of_clause layer_of_arg layer_of_term layer_of_ty layer_of_alias layer_of_sig (Ty-F.Slice t)

pub tree_of_ty-RawPtr : (t : Box Ty Global) (m : Mutability) → tree_of_ty (ty.RawPtr t m) ≡ node (head.RawPtr m) (more (tree_of_ty t.value) none)
unfolding tree_of_ty tree_of_const tree_of_arg tree_of_term tree_of_clause tree_of_alias tree_of_sig
tree_of_ty-RawPtr t m =
    ap tree_of_ty (sym (ty_variants.rolls-RawPtr t m)) ∙ fold-roll-Ty Tree Tree Tree Tree Tree Tree Tree layer_of_const layer_of_clause layer_of_arg layer_of_term layer_of_ty layer_of_alias layer_of_sig (Ty-F.RawPtr t m)

pub tree_of_ty-Ref : (r : Region) (t : Box Ty Global) (m : Mutability) → tree_of_ty (ty.Ref r t m) ≡ node (head.Ref r m) (more (tree_of_ty t.value) none)
unfolding tree_of_ty tree_of_const tree_of_arg tree_of_term tree_of_clause tree_of_alias tree_of_sig
tree_of_ty-Ref r t m =
    ap tree_of_ty (sym (ty_variants.rolls-Ref r t m)) ∙ fold-roll-Ty Tree Tree Tree Tree Tree Tree Tree layer_of_const layer_of_clause layer_of_arg layer_of_term layer_of_ty layer_of_alias layer_of_sig (Ty-F.Ref r t m)

pub tree_of_ty-FnDef : (i : FnId) (args : Vec GenericArg Global) → tree_of_ty (ty.FnDef i args) ≡ node (head.FnDef i (length args.items)) (forest (map tree_of_arg args.items))
unfolding tree_of_ty tree_of_const tree_of_arg tree_of_term tree_of_clause tree_of_alias tree_of_sig
tree_of_ty-FnDef i args =
    ap tree_of_ty (sym (ty_variants.rolls-FnDef i args)) ∙ fold-roll-Ty Tree Tree Tree Tree Tree Tree Tree layer_of_const layer_of_clause layer_of_arg layer_of_term layer_of_ty layer_of_alias layer_of_sig (Ty-F.FnDef i args) ∙
    ap (λ n. node (head.FnDef i n) (forest (map tree_of_arg args.items))) (length-map args.items tree_of_arg)

pub tree_of_ty-FnPtr : (sig : Box FnSig Global) → tree_of_ty (ty.FnPtr sig) ≡ tree_of_sig sig.value
unfolding tree_of_ty tree_of_const tree_of_arg tree_of_term tree_of_clause tree_of_alias tree_of_sig
tree_of_ty-FnPtr sig =
    ap tree_of_ty (sym (ty_variants.rolls-FnPtr sig)) ∙ fold-roll-Ty Tree Tree Tree Tree Tree Tree Tree layer_of_const layer_of_clause layer_of_arg layer_of_term layer_of_ty layer_of_alias layer_of_sig (Ty-F.FnPtr sig)

pub tree_of_ty-Closure : (i : ClosureId) (args : Vec GenericArg Global) → tree_of_ty (ty.Closure i args) ≡ node (head.Closure i (length args.items)) (forest (map tree_of_arg args.items))
unfolding tree_of_ty tree_of_const tree_of_arg tree_of_term tree_of_clause tree_of_alias tree_of_sig
tree_of_ty-Closure i args =
    ap tree_of_ty (sym (ty_variants.rolls-Closure i args)) ∙ fold-roll-Ty Tree Tree Tree Tree Tree Tree Tree layer_of_const layer_of_clause layer_of_arg layer_of_term layer_of_ty layer_of_alias layer_of_sig (Ty-F.Closure i args) ∙
    ap (λ n. node (head.Closure i n) (forest (map tree_of_arg args.items))) (length-map args.items tree_of_arg)

pub tree_of_ty-Dynamic : (clauses : Vec DynClause Global) (r : Region) → tree_of_ty (ty.Dynamic clauses r) ≡ node (head.Dynamic (length clauses.items) r) (forest (map tree_of_clause clauses.items))
unfolding tree_of_ty tree_of_const tree_of_arg tree_of_term tree_of_clause tree_of_alias tree_of_sig
tree_of_ty-Dynamic clauses r =
    ap tree_of_ty (sym (ty_variants.rolls-Dynamic clauses r)) ∙ fold-roll-Ty Tree Tree Tree Tree Tree Tree Tree layer_of_const layer_of_clause layer_of_arg layer_of_term layer_of_ty layer_of_alias layer_of_sig (Ty-F.Dynamic clauses r) ∙
    ap (λ n. node (head.Dynamic n r) (forest (map tree_of_clause clauses.items))) (length-map clauses.items tree_of_clause)

pub tree_of_ty-Tuple : (elements : Vec Ty Global) → tree_of_ty (ty.Tuple elements) ≡ node (head.Tuple (length elements.items)) (forest (map tree_of_ty elements.items))
unfolding tree_of_ty tree_of_const tree_of_arg tree_of_term tree_of_clause tree_of_alias tree_of_sig
tree_of_ty-Tuple elements =
    ap tree_of_ty (sym (ty_variants.rolls-Tuple elements)) ∙ fold-roll-Ty Tree Tree Tree Tree Tree Tree Tree layer_of_const layer_of_clause layer_of_arg layer_of_term layer_of_ty layer_of_alias layer_of_sig (Ty-F.Tuple elements) ∙
    ap (λ n. node (head.Tuple n) (forest (map tree_of_ty elements.items))) (length-map elements.items tree_of_ty)

pub tree_of_ty-Param : (n : ℕ) → tree_of_ty (ty.Param n) ≡ leaf (head.TyParam n)
unfolding tree_of_ty tree_of_const tree_of_arg tree_of_term tree_of_clause tree_of_alias tree_of_sig
tree_of_ty-Param n =
    ap tree_of_ty (sym (ty_variants.rolls-Param n)) ∙ fold-roll-Ty Tree Tree Tree Tree Tree Tree Tree layer_of_const layer_of_clause layer_of_arg layer_of_term layer_of_ty layer_of_alias layer_of_sig (Ty-F.Ty::Param n)

pub tree_of_ty-Placeholder : (n : ℕ) → tree_of_ty (ty.Placeholder n) ≡ leaf (head.TyPlaceholder n)
unfolding tree_of_ty tree_of_const tree_of_arg tree_of_term tree_of_clause tree_of_alias tree_of_sig
tree_of_ty-Placeholder n =
    ap tree_of_ty (sym (ty_variants.rolls-Placeholder n)) ∙ fold-roll-Ty Tree Tree Tree Tree Tree Tree Tree layer_of_const layer_of_clause layer_of_arg layer_of_term layer_of_ty layer_of_alias layer_of_sig (Ty-F.Ty::Placeholder n)

pub tree_of_ty-Alias : (a : AliasTerm) → tree_of_ty (ty.Alias a) ≡ at_type (tree_of_alias a)
unfolding tree_of_ty tree_of_const tree_of_arg tree_of_term tree_of_clause tree_of_alias tree_of_sig
tree_of_ty-Alias a =
    ap tree_of_ty (sym (ty_variants.rolls-Alias a)) ∙ fold-roll-Ty Tree Tree Tree Tree Tree Tree Tree layer_of_const layer_of_clause layer_of_arg layer_of_term layer_of_ty layer_of_alias layer_of_sig (Ty-F.Ty::Alias a)

pub tree_of_ty-Infer : (v : InferTy) → tree_of_ty (ty.Infer v) ≡ variable (variables.Ty v)
unfolding tree_of_ty tree_of_const tree_of_arg tree_of_term tree_of_clause tree_of_alias tree_of_sig
tree_of_ty-Infer v =
    ap tree_of_ty (sym (ty_variants.rolls-Infer v)) ∙ fold-roll-Ty Tree Tree Tree Tree Tree Tree Tree layer_of_const layer_of_clause layer_of_arg layer_of_term layer_of_ty layer_of_alias layer_of_sig (Ty-F.Ty::Infer v)

pub tree_of_ty-Error : (n : ℕ) → tree_of_ty (ty.Error n) ≡ leaf (head.TyError n)
unfolding tree_of_ty tree_of_const tree_of_arg tree_of_term tree_of_clause tree_of_alias tree_of_sig
tree_of_ty-Error n =
    ap tree_of_ty (sym (ty_variants.rolls-Error n)) ∙ fold-roll-Ty Tree Tree Tree Tree Tree Tree Tree layer_of_const layer_of_clause layer_of_arg layer_of_term layer_of_ty layer_of_alias layer_of_sig (Ty-F.Ty::Error n)

pub tree_of_const-Value : (n : ℕ) → tree_of_const (const.Value n) ≡ leaf (head.Value n)
unfolding tree_of_ty tree_of_const tree_of_arg tree_of_term tree_of_clause tree_of_alias tree_of_sig
tree_of_const-Value n =
    ap tree_of_const (sym (const_variants.rolls-Value n)) ∙ fold-roll-Const Tree Tree Tree Tree Tree Tree Tree layer_of_const layer_of_clause layer_of_arg layer_of_term layer_of_ty layer_of_alias layer_of_sig (Const-F.Value n)

pub tree_of_const-Param : (n : ℕ) → tree_of_const (const.Param n) ≡ leaf (head.ConstParam n)
unfolding tree_of_ty tree_of_const tree_of_arg tree_of_term tree_of_clause tree_of_alias tree_of_sig
tree_of_const-Param n =
    ap tree_of_const (sym (const_variants.rolls-Param n)) ∙ fold-roll-Const Tree Tree Tree Tree Tree Tree Tree layer_of_const layer_of_clause layer_of_arg layer_of_term layer_of_ty layer_of_alias layer_of_sig (Const-F.Const::Param n)

pub tree_of_const-Placeholder : (n : ℕ) → tree_of_const (const.Placeholder n) ≡ leaf (head.ConstPlaceholder n)
unfolding tree_of_ty tree_of_const tree_of_arg tree_of_term tree_of_clause tree_of_alias tree_of_sig
tree_of_const-Placeholder n =
    ap tree_of_const (sym (const_variants.rolls-Placeholder n)) ∙ fold-roll-Const Tree Tree Tree Tree Tree Tree Tree layer_of_const layer_of_clause layer_of_arg layer_of_term layer_of_ty layer_of_alias layer_of_sig (Const-F.Const::Placeholder n)

pub tree_of_const-Infer : (n : ℕ) → tree_of_const (const.Infer n) ≡ variable (variables.Const n)
unfolding tree_of_ty tree_of_const tree_of_arg tree_of_term tree_of_clause tree_of_alias tree_of_sig
tree_of_const-Infer n =
    ap tree_of_const (sym (const_variants.rolls-Infer n)) ∙ fold-roll-Const Tree Tree Tree Tree Tree Tree Tree layer_of_const layer_of_clause layer_of_arg layer_of_term layer_of_ty layer_of_alias layer_of_sig (Const-F.Const::Infer n)

pub tree_of_const-Alias : (a : AliasTerm) → tree_of_const (const.Alias a) ≡ at_const (tree_of_alias a)
unfolding tree_of_ty tree_of_const tree_of_arg tree_of_term tree_of_clause tree_of_alias tree_of_sig
tree_of_const-Alias a =
    ap tree_of_const (sym (const_variants.rolls-Alias a)) ∙ fold-roll-Const Tree Tree Tree Tree Tree Tree Tree layer_of_const layer_of_clause layer_of_arg layer_of_term layer_of_ty layer_of_alias layer_of_sig (Const-F.Const::Alias a)

pub tree_of_const-Error : (n : ℕ) → tree_of_const (const.Error n) ≡ leaf (head.ConstError n)
unfolding tree_of_ty tree_of_const tree_of_arg tree_of_term tree_of_clause tree_of_alias tree_of_sig
tree_of_const-Error n =
    ap tree_of_const (sym (const_variants.rolls-Error n)) ∙ fold-roll-Const Tree Tree Tree Tree Tree Tree Tree layer_of_const layer_of_clause layer_of_arg layer_of_term layer_of_ty layer_of_alias layer_of_sig (Const-F.Const::Error n)

pub tree_of_arg-Ty : (t : Ty) → tree_of_arg (arg.Ty t) ≡ tree_of_ty t
unfolding tree_of_ty tree_of_const tree_of_arg tree_of_term tree_of_clause tree_of_alias tree_of_sig
tree_of_arg-Ty t =
    ap tree_of_arg (sym (arg_variants.rolls-Ty t)) ∙ fold-roll-GenericArg Tree Tree Tree Tree Tree Tree Tree layer_of_const layer_of_clause layer_of_arg layer_of_term layer_of_ty layer_of_alias layer_of_sig (GenericArg-F.GenericArg::Ty t)

pub tree_of_arg-Const : (c : Const) → tree_of_arg (arg.Const c) ≡ tree_of_const c
unfolding tree_of_ty tree_of_const tree_of_arg tree_of_term tree_of_clause tree_of_alias tree_of_sig
tree_of_arg-Const c =
    ap tree_of_arg (sym (arg_variants.rolls-Const c)) ∙ fold-roll-GenericArg Tree Tree Tree Tree Tree Tree Tree layer_of_const layer_of_clause layer_of_arg layer_of_term layer_of_ty layer_of_alias layer_of_sig (GenericArg-F.GenericArg::Const c)

pub tree_of_arg-Lifetime : (r : Region) → tree_of_arg (arg.Lifetime r) ≡ leaf (head.Lifetime r)
unfolding tree_of_ty tree_of_const tree_of_arg tree_of_term tree_of_clause tree_of_alias tree_of_sig
tree_of_arg-Lifetime r =
    ap tree_of_arg (sym (arg_variants.rolls-Lifetime r)) ∙ fold-roll-GenericArg Tree Tree Tree Tree Tree Tree Tree layer_of_const layer_of_clause layer_of_arg layer_of_term layer_of_ty layer_of_alias layer_of_sig (GenericArg-F.Lifetime r)

pub tree_of_term-Ty : (t : Ty) → tree_of_term (term.Ty t) ≡ tree_of_ty t
unfolding tree_of_ty tree_of_const tree_of_arg tree_of_term tree_of_clause tree_of_alias tree_of_sig
tree_of_term-Ty t =
    ap tree_of_term (sym (term_variants.rolls-Ty t)) ∙ fold-roll-Term Tree Tree Tree Tree Tree Tree Tree layer_of_const layer_of_clause layer_of_arg layer_of_term layer_of_ty layer_of_alias layer_of_sig (Term-F.Term::Ty t)

pub tree_of_term-Const : (c : Const) → tree_of_term (term.Const c) ≡ tree_of_const c
unfolding tree_of_ty tree_of_const tree_of_arg tree_of_term tree_of_clause tree_of_alias tree_of_sig
tree_of_term-Const c =
    ap tree_of_term (sym (term_variants.rolls-Const c)) ∙ fold-roll-Term Tree Tree Tree Tree Tree Tree Tree layer_of_const layer_of_clause layer_of_arg layer_of_term layer_of_ty layer_of_alias layer_of_sig (Term-F.Term::Const c)

pub tree_of_clause-Trait : (i : TraitId) (args : Vec GenericArg Global) → tree_of_clause (clause.Trait i args) ≡ node (head.DynTrait i (length args.items)) (forest (map tree_of_arg args.items))
unfolding tree_of_ty tree_of_const tree_of_arg tree_of_term tree_of_clause tree_of_alias tree_of_sig
tree_of_clause-Trait i args =
    ap tree_of_clause (sym (clause_variants.rolls-Trait i args)) ∙ fold-roll-DynClause Tree Tree Tree Tree Tree Tree Tree layer_of_const layer_of_clause layer_of_arg layer_of_term layer_of_ty layer_of_alias layer_of_sig (DynClause-F.Trait i args) ∙
    ap (λ n. node (head.DynTrait i n) (forest (map tree_of_arg args.items))) (length-map args.items tree_of_arg)

pub tree_of_clause-Projection : (i : ItemId) (args : Vec GenericArg Global) (t : Term) → tree_of_clause (clause.Projection i args t) ≡ node (head.DynProjection i (length args.items)) (forest (map tree_of_arg args.items ++ tree_of_term t ∷ []))
unfolding tree_of_ty tree_of_const tree_of_arg tree_of_term tree_of_clause tree_of_alias tree_of_sig
tree_of_clause-Projection i args t =
    ap tree_of_clause (sym (clause_variants.rolls-Projection i args t)) ∙ fold-roll-DynClause Tree Tree Tree Tree Tree Tree Tree layer_of_const layer_of_clause layer_of_arg layer_of_term layer_of_ty layer_of_alias layer_of_sig (DynClause-F.Projection i args t) ∙
    ap (λ n. node (head.DynProjection i n) (forest (map tree_of_arg args.items ++ tree_of_term t ∷ []))) (length-map args.items tree_of_arg)

pub tree_of_alias-record : (a : AliasTerm) → tree_of_alias a ≡ alias a.kind (forest (map tree_of_arg a.args.items))
unfolding tree_of_ty tree_of_const tree_of_arg tree_of_term tree_of_clause tree_of_alias tree_of_sig
tree_of_alias-record a = fold_out-AliasTerm Tree Tree Tree Tree Tree Tree Tree layer_of_const layer_of_clause layer_of_arg layer_of_term layer_of_ty layer_of_alias layer_of_sig a

pub tree_of_sig-record : (s : FnSig) → tree_of_sig s ≡ node (head.FnPtr s.bound_regions (length s.inputs.items) s.fn_traits) (forest (map tree_of_ty s.inputs.items ++ tree_of_ty s.output ∷ []))
unfolding tree_of_ty tree_of_const tree_of_arg tree_of_term tree_of_clause tree_of_alias tree_of_sig
tree_of_sig-record s = fold_out-FnSig Tree Tree Tree Tree Tree Tree Tree layer_of_const layer_of_clause layer_of_arg layer_of_term layer_of_ty layer_of_alias layer_of_sig s ∙
    ap (λ n. node (head.FnPtr s.bound_regions n s.fn_traits) (forest (map tree_of_ty s.inputs.items ++ tree_of_ty s.output ∷ []))) (length-map s.inputs.items tree_of_ty)

-- a list, as a row and back
pub list_of-forest : (ts : List Tree) → list_of (forest ts) ≡ ts
list_of-forest [] = refl
list_of-forest (t ∷ ts) = ap (λ xs. t ∷ xs) (list_of-forest ts)

pub parts_of-at_type : (t : Tree) → parts_of (at_type t) ≡ parts_of t
parts_of-at_type (node h ts) = refl
parts_of-at_type (alias (ProjectionTy i) ts) = refl
parts_of-at_type (alias (ProjectionConst i) ts) = refl
parts_of-at_type (alias (InherentTy i) ts) = refl
parts_of-at_type (alias (InherentConst i) ts) = refl
parts_of-at_type (alias (OpaqueTy i) ts) = refl
parts_of-at_type (alias (FreeTy i) ts) = refl
parts_of-at_type (alias (FreeConst i) ts) = refl
parts_of-at_type (alias (UnevaluatedConst i) ts) = refl
parts_of-at_type (variable v) = refl

pub parts_of-at_const : (t : Tree) → parts_of (at_const t) ≡ parts_of t
parts_of-at_const (node h ts) = refl
parts_of-at_const (alias (ProjectionTy i) ts) = refl
parts_of-at_const (alias (ProjectionConst i) ts) = refl
parts_of-at_const (alias (InherentTy i) ts) = refl
parts_of-at_const (alias (InherentConst i) ts) = refl
parts_of-at_const (alias (OpaqueTy i) ts) = refl
parts_of-at_const (alias (FreeTy i) ts) = refl
parts_of-at_const (alias (FreeConst i) ts) = refl
parts_of-at_const (alias (UnevaluatedConst i) ts) = refl
parts_of-at_const (variable v) = refl

-- the tree of each variant
pub ruleset tree_equations = (list_of-forest, parts_of-at_type, parts_of-at_const, tree_of_ty-Bool, tree_of_ty-Char, tree_of_ty-Int, tree_of_ty-Uint, tree_of_ty-Float, tree_of_ty-Str, tree_of_ty-Never, tree_of_ty-Adt, tree_of_ty-Foreign, tree_of_ty-Array, tree_of_ty-Slice, tree_of_ty-RawPtr, tree_of_ty-Ref, tree_of_ty-FnDef, tree_of_ty-FnPtr, tree_of_ty-Closure, tree_of_ty-Dynamic, tree_of_ty-Tuple, tree_of_ty-Param, tree_of_ty-Placeholder, tree_of_ty-Alias, tree_of_ty-Infer, tree_of_ty-Error, tree_of_const-Value, tree_of_const-Param, tree_of_const-Placeholder, tree_of_const-Infer, tree_of_const-Alias, tree_of_const-Error, tree_of_arg-Ty, tree_of_arg-Const, tree_of_arg-Lifetime, tree_of_term-Ty, tree_of_term-Const, tree_of_clause-Trait, tree_of_clause-Projection, tree_of_alias-record, tree_of_sig-record)
