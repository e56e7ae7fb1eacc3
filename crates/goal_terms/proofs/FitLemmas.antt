-- The parts of a term fit its node.
use Rattle.std.proofs.Common.{◌≡◌, ℕ, ◌+◌, Bool, true, false, List, [], ◌∷◌, ◌++◌, length, map, get_or, refl, sym, ap, ◌∙◌, subst, arith, length-append}
use Rattle.std.specs.Prelude.{IsTrue, if◌then◌else◌}
use Rattle.std.specs.List.{All}
use Rattle.std.proofs.Math.Seq.{get_or-append_seam}
use Rattle.std.proofs.lemmas.List.{length-map}
use Rattle.std.proofs.lemmas.List.Elements.{All-map, All-push, All-cons, All-nil}
use Rattle.goal_terms.specs.Tree.{Tree, node, alias, variable, forest, node_of, parts_of}
use Rattle.goal_terms.specs.TreeOf.{leaf, is_type_kind, at_type, at_const, tree_of_ty, tree_of_const, tree_of_arg, tree_of_term, tree_of_clause, tree_of_alias, tree_of_sig}
use Rattle.goal_terms.specs.View.{tree_of_ref}
use Rattle.goal_terms.specs.Sorts.{sort_of, is_argument_sort, is_term_sort, IsSort, IsTerm, IsArgument, Are, HeadFits, Fits}
use Rattle.goal_terms.specs.declared.heads.Head.{Head}
use Rattle.goal_terms.specs.declared.heads.Head.TheVariants as head
use Rattle.goal_terms.specs.declared.heads.Variable.{Variable}
use Rattle.goal_terms.specs.declared.heads.Variable.TheVariants as variables
use Rattle.goal_terms.specs.declared.sorts.Sort.{Sort}
use Rattle.goal_terms.specs.declared.sorts.Sort.TheVariants as sorts
use Rattle.goal_terms.specs.declared.terms.AliasTermKind.{AliasTermKind}
use Rattle.goal_terms.specs.declared.terms.Ty.{Ty, Ty-F, roll-Ty, out-Ty, roll-out-Ty}
use Rattle.goal_terms.specs.declared.terms.Ty.TheVariants as ty_variants
use Rattle.goal_terms.specs.declared.terms.Const.{Const, Const-F, roll-Const, out-Const, roll-out-Const}
use Rattle.goal_terms.specs.declared.terms.Const.TheVariants as const_variants
use Rattle.goal_terms.specs.declared.terms.GenericArg.{GenericArg}
use Rattle.goal_terms.specs.declared.terms.Term.{Term}
use Rattle.goal_terms.specs.declared.terms.DynClause.{DynClause, DynClause-F, roll-DynClause, out-DynClause, roll-out-DynClause}
use Rattle.goal_terms.specs.declared.terms.DynClause.TheVariants as clause_variants
use Rattle.goal_terms.specs.declared.terms.AliasTerm.{AliasTerm}
use Rattle.goal_terms.specs.declared.terms.FnSig.{FnSig}
use Rattle.goal_terms.specs.declared.view.TermRef.{TermRef}
use Rattle.goal_terms.specs.declared.view.TermRef.TheVariants as view
use Rattle.goal_terms.proofs.SortLemmas.{ty_sort, const_sort_of, arg_sort, term_sort, clause_sort}
use Rattle.goal_terms.proofs.TreeLemmas.{list_of-forest, tree_of_ty-Bool, tree_of_ty-Char, tree_of_ty-Int, tree_of_ty-Uint, tree_of_ty-Float, tree_of_ty-Str, tree_of_ty-Never, tree_of_ty-Adt, tree_of_ty-Foreign, tree_of_ty-Array, tree_of_ty-Slice, tree_of_ty-RawPtr, tree_of_ty-Ref, tree_of_ty-FnDef, tree_of_ty-FnPtr, tree_of_ty-Closure, tree_of_ty-Dynamic, tree_of_ty-Tuple, tree_of_ty-Param, tree_of_ty-Placeholder, tree_of_ty-Alias, tree_of_ty-Infer, tree_of_ty-Error, tree_of_const-Value, tree_of_const-Param, tree_of_const-Placeholder, tree_of_const-Infer, tree_of_const-Alias, tree_of_const-Error, tree_of_clause-Trait, tree_of_clause-Projection, tree_of_alias-record, tree_of_sig-record}

-- the parts of a tree fit its top
unfoldable pub IsFit : Tree → Type 0
IsFit t = Fits (node_of t) (parts_of t)

fit_node : (t : Tree) (h : Head) (ts : List Tree) → t ≡ node h (forest ts) → HeadFits h ts → IsFit t
unfolding IsFit
fit_node t h ts e f = subst (λ u. Fits (node_of u) (parts_of u)) (sym e) (subst (HeadFits h) (sym (list_of-forest ts)) f)

fit_alias : (t : Tree) (k : AliasTermKind) (ts : List Tree) → t ≡ alias k (forest ts) → All IsArgument ts → IsFit t
unfolding IsFit
fit_alias t k ts e f = subst (λ u. Fits (node_of u) (parts_of u)) (sym e) (subst (All IsArgument) (sym (list_of-forest ts)) f)

either_fit : (b : Bool) (t u : Tree) → IsFit t → IsFit u → IsFit (if b then t else u)
either_fit true t u f g = f
either_fit false t u f g = g

fit_type : (k : AliasTermKind) (ts : List Tree) → All IsArgument ts → IsFit (at_type (alias k (forest ts)))
fit_type k ts f = either_fit (is_type_kind k) _ _ (fit_alias (alias k (forest ts)) k ts refl f) (fit_node (node (head.Misplaced k) (forest ts)) (head.Misplaced k) ts refl f)

fit_const : (k : AliasTermKind) (ts : List Tree) → All IsArgument ts → IsFit (at_const (alias k (forest ts)))
fit_const k ts f = either_fit (is_type_kind k) _ _ (fit_node (node (head.Misplaced k) (forest ts)) (head.Misplaced k) ts refl f) (fit_alias (alias k (forest ts)) k ts refl f)

variable_fit : (v : Variable) → IsFit (variable v)
unfolding IsFit
variable_fit v = refl

all_args : (xs : List GenericArg) → All IsArgument (map tree_of_arg xs)
all_args xs = All-map IsArgument tree_of_arg xs (λ k d l. arg_sort (get_or xs k d))

all_tys : (xs : List Ty) → All (IsSort sorts.Ty) (map tree_of_ty xs)
all_tys xs = All-map (IsSort sorts.Ty) tree_of_ty xs (λ k d l. ty_sort (get_or xs k d))

all_clauses : (xs : List DynClause) → All (IsSort sorts.Clause) (map tree_of_clause xs)
all_clauses xs = All-map (IsSort sorts.Clause) tree_of_clause xs (λ k d l. clause_sort (get_or xs k d))

are_args : (xs : List GenericArg) → Are IsArgument (length xs) (map tree_of_arg xs)
are_args xs = (length-map xs tree_of_arg, all_args xs)

one_ty : (t : Ty) → Are (IsSort sorts.Ty) 1 (tree_of_ty t ∷ [])
one_ty t = (refl, All-cons (IsSort sorts.Ty) (tree_of_ty t) [] (ty_sort t) (All-nil (IsSort sorts.Ty)))

pushed : (ts : List Tree) (t : Tree) (n : ℕ) → length ts ≡ n → length (ts ++ t ∷ []) ≡ n + 1
pushed ts t n e = omega (arith, length-append ts (t ∷ []))

sig_fit : (s : FnSig) → IsFit (tree_of_sig s)
sig_fit s =
    fit_node (tree_of_sig s) (head.FnPtr s.bound_regions (length s.inputs.items) s.fn_traits) (map tree_of_ty s.inputs.items ++ tree_of_ty s.output ∷ []) (tree_of_sig-record s) (
      pushed (map tree_of_ty s.inputs.items) (tree_of_ty s.output) (length s.inputs.items) (length-map s.inputs.items tree_of_ty),
      All-push (IsSort sorts.Ty) (map tree_of_ty s.inputs.items) (tree_of_ty s.output) (all_tys s.inputs.items) (ty_sort s.output),
    )

alias_fit : (a : AliasTerm) → IsFit (tree_of_alias a)
alias_fit a = fit_alias (tree_of_alias a) a.kind (map tree_of_arg a.args.items) (tree_of_alias-record a) (all_args a.args.items)

ty_layer_fit : (l : Ty-F Const DynClause GenericArg Term Ty AliasTerm FnSig) → IsFit (tree_of_ty (roll-Ty l))
ty_layer_fit Ty-F.Bool = fit_node (tree_of_ty (roll-Ty Ty-F.Bool)) (head.Bool) ([]) (ap tree_of_ty ty_variants.rolls-Bool ∙ tree_of_ty-Bool) (refl)
ty_layer_fit Ty-F.Char = fit_node (tree_of_ty (roll-Ty Ty-F.Char)) (head.Char) ([]) (ap tree_of_ty ty_variants.rolls-Char ∙ tree_of_ty-Char) (refl)
ty_layer_fit (Ty-F.Int i) = fit_node (tree_of_ty (roll-Ty (Ty-F.Int i))) (head.Int i) ([]) (ap tree_of_ty (ty_variants.rolls-Int i) ∙ tree_of_ty-Int i) (refl)
ty_layer_fit (Ty-F.Uint i) = fit_node (tree_of_ty (roll-Ty (Ty-F.Uint i))) (head.Uint i) ([]) (ap tree_of_ty (ty_variants.rolls-Uint i) ∙ tree_of_ty-Uint i) (refl)
ty_layer_fit (Ty-F.Float i) = fit_node (tree_of_ty (roll-Ty (Ty-F.Float i))) (head.Float i) ([]) (ap tree_of_ty (ty_variants.rolls-Float i) ∙ tree_of_ty-Float i) (refl)
ty_layer_fit Ty-F.Str = fit_node (tree_of_ty (roll-Ty Ty-F.Str)) (head.Str) ([]) (ap tree_of_ty ty_variants.rolls-Str ∙ tree_of_ty-Str) (refl)
ty_layer_fit Ty-F.Never = fit_node (tree_of_ty (roll-Ty Ty-F.Never)) (head.Never) ([]) (ap tree_of_ty ty_variants.rolls-Never ∙ tree_of_ty-Never) (refl)
ty_layer_fit (Ty-F.Adt i args) = fit_node (tree_of_ty (roll-Ty (Ty-F.Adt i args))) (head.Adt i (length args.items)) (map tree_of_arg args.items) (ap tree_of_ty (ty_variants.rolls-Adt i args) ∙ tree_of_ty-Adt i args) (are_args args.items)
ty_layer_fit (Ty-F.Foreign i) = fit_node (tree_of_ty (roll-Ty (Ty-F.Foreign i))) (head.Foreign i) ([]) (ap tree_of_ty (ty_variants.rolls-Foreign i) ∙ tree_of_ty-Foreign i) (refl)
ty_layer_fit (Ty-F.Array t c) = fit_node (tree_of_ty (roll-Ty (Ty-F.Array t c))) (head.Array) (tree_of_ty t.value ∷ tree_of_const c.value ∷ []) (ap tree_of_ty (ty_variants.rolls-Array t c) ∙ tree_of_ty-Array t c) (refl, ty_sort t.value, const_sort_of c.value)
ty_layer_fit (Ty-F.Slice t) = fit_node (tree_of_ty (roll-Ty (Ty-F.Slice t))) (head.Slice) (tree_of_ty t.value ∷ []) (ap tree_of_ty (ty_variants.rolls-Slice t) ∙ tree_of_ty-Slice t) (one_ty t.value)
ty_layer_fit (Ty-F.RawPtr t m) = fit_node (tree_of_ty (roll-Ty (Ty-F.RawPtr t m))) (head.RawPtr m) (tree_of_ty t.value ∷ []) (ap tree_of_ty (ty_variants.rolls-RawPtr t m) ∙ tree_of_ty-RawPtr t m) (one_ty t.value)
ty_layer_fit (Ty-F.Ref r t m) = fit_node (tree_of_ty (roll-Ty (Ty-F.Ref r t m))) (head.Ref r m) (tree_of_ty t.value ∷ []) (ap tree_of_ty (ty_variants.rolls-Ref r t m) ∙ tree_of_ty-Ref r t m) (one_ty t.value)
ty_layer_fit (Ty-F.FnDef i args) = fit_node (tree_of_ty (roll-Ty (Ty-F.FnDef i args))) (head.FnDef i (length args.items)) (map tree_of_arg args.items) (ap tree_of_ty (ty_variants.rolls-FnDef i args) ∙ tree_of_ty-FnDef i args) (are_args args.items)
ty_layer_fit (Ty-F.FnPtr sig) = subst IsFit (sym (ap tree_of_ty (ty_variants.rolls-FnPtr sig) ∙ tree_of_ty-FnPtr sig)) (sig_fit sig.value)
ty_layer_fit (Ty-F.Closure i args) = fit_node (tree_of_ty (roll-Ty (Ty-F.Closure i args))) (head.Closure i (length args.items)) (map tree_of_arg args.items) (ap tree_of_ty (ty_variants.rolls-Closure i args) ∙ tree_of_ty-Closure i args) (are_args args.items)
ty_layer_fit (Ty-F.Dynamic clauses r) = fit_node (tree_of_ty (roll-Ty (Ty-F.Dynamic clauses r))) (head.Dynamic (length clauses.items) r) (map tree_of_clause clauses.items) (ap tree_of_ty (ty_variants.rolls-Dynamic clauses r) ∙ tree_of_ty-Dynamic clauses r) (length-map clauses.items tree_of_clause, all_clauses clauses.items)
ty_layer_fit (Ty-F.Tuple elements) = fit_node (tree_of_ty (roll-Ty (Ty-F.Tuple elements))) (head.Tuple (length elements.items)) (map tree_of_ty elements.items) (ap tree_of_ty (ty_variants.rolls-Tuple elements) ∙ tree_of_ty-Tuple elements) (length-map elements.items tree_of_ty, all_tys elements.items)
ty_layer_fit (Ty-F.Ty::Param n) = fit_node (tree_of_ty (roll-Ty (Ty-F.Ty::Param n))) (head.TyParam n) ([]) (ap tree_of_ty (ty_variants.rolls-Param n) ∙ tree_of_ty-Param n) (refl)
ty_layer_fit (Ty-F.Ty::Placeholder n) = fit_node (tree_of_ty (roll-Ty (Ty-F.Ty::Placeholder n))) (head.TyPlaceholder n) ([]) (ap tree_of_ty (ty_variants.rolls-Placeholder n) ∙ tree_of_ty-Placeholder n) (refl)
ty_layer_fit (Ty-F.Ty::Alias a) = subst IsFit (sym (ap tree_of_ty (ty_variants.rolls-Alias a) ∙ tree_of_ty-Alias a ∙ ap at_type (tree_of_alias-record a))) (fit_type a.kind (map tree_of_arg a.args.items) (all_args a.args.items))
ty_layer_fit (Ty-F.Ty::Infer v) = subst IsFit (sym (ap tree_of_ty (ty_variants.rolls-Infer v) ∙ tree_of_ty-Infer v)) (variable_fit (variables.Ty v))
ty_layer_fit (Ty-F.Ty::Error n) = fit_node (tree_of_ty (roll-Ty (Ty-F.Ty::Error n))) (head.TyError n) ([]) (ap tree_of_ty (ty_variants.rolls-Error n) ∙ tree_of_ty-Error n) (refl)

ty_fit : (t : Ty) → IsFit (tree_of_ty t)
ty_fit t = subst (λ u. IsFit (tree_of_ty u)) (roll-out-Ty t) (ty_layer_fit (out-Ty t))

const_layer_fit : (l : Const-F Const DynClause GenericArg Term Ty AliasTerm FnSig) → IsFit (tree_of_const (roll-Const l))
const_layer_fit (Const-F.Value n) = fit_node (tree_of_const (roll-Const (Const-F.Value n))) (head.Value n) [] (ap tree_of_const (const_variants.rolls-Value n) ∙ tree_of_const-Value n) refl
const_layer_fit (Const-F.Const::Param n) = fit_node (tree_of_const (roll-Const (Const-F.Const::Param n))) (head.ConstParam n) [] (ap tree_of_const (const_variants.rolls-Param n) ∙ tree_of_const-Param n) refl
const_layer_fit (Const-F.Const::Placeholder n) = fit_node (tree_of_const (roll-Const (Const-F.Const::Placeholder n))) (head.ConstPlaceholder n) [] (ap tree_of_const (const_variants.rolls-Placeholder n) ∙ tree_of_const-Placeholder n) refl
const_layer_fit (Const-F.Const::Infer n) = subst IsFit (sym (ap tree_of_const (const_variants.rolls-Infer n) ∙ tree_of_const-Infer n)) (variable_fit (variables.Const n))
const_layer_fit (Const-F.Const::Alias a) = subst IsFit (sym (ap tree_of_const (const_variants.rolls-Alias a) ∙ tree_of_const-Alias a ∙ ap at_const (tree_of_alias-record a))) (fit_const a.kind (map tree_of_arg a.args.items) (all_args a.args.items))
const_layer_fit (Const-F.Const::Error n) = fit_node (tree_of_const (roll-Const (Const-F.Const::Error n))) (head.ConstError n) [] (ap tree_of_const (const_variants.rolls-Error n) ∙ tree_of_const-Error n) refl

const_fit : (c : Const) → IsFit (tree_of_const c)
const_fit c = subst (λ u. IsFit (tree_of_const u)) (roll-out-Const c) (const_layer_fit (out-Const c))

argument_sort : (s : Sort) → IsTrue (is_term_sort s) → IsTrue (is_argument_sort s)
argument_sort sorts.Ty h = h
argument_sort sorts.Const h = h
argument_sort sorts.Lifetime h = absurd (cc)
argument_sort sorts.Clause h = absurd (cc)

clause_layer_fit : (l : DynClause-F Const DynClause GenericArg Term Ty AliasTerm FnSig) → IsFit (tree_of_clause (roll-DynClause l))
clause_layer_fit (DynClause-F.Trait i args) =
    fit_node (tree_of_clause (roll-DynClause (DynClause-F.Trait i args))) (head.DynTrait i (length args.items)) (map tree_of_arg args.items)
    (ap tree_of_clause (clause_variants.rolls-Trait i args) ∙ tree_of_clause-Trait i args) (are_args args.items)
clause_layer_fit (DynClause-F.Projection i args t) =
    let ts : List Tree = map tree_of_arg args.items in
    let u : Tree = tree_of_term t in
    let count : length ts ≡ length args.items = length-map args.items tree_of_arg in
    let last : get_or (ts ++ u ∷ []) (length args.items) (leaf head.Bool) ≡ u =
    ap (λ n. get_or (ts ++ u ∷ []) n (leaf head.Bool)) (sym count) ∙ get_or-append_seam ts u [] (leaf head.Bool) in
    fit_node (tree_of_clause (roll-DynClause (DynClause-F.Projection i args t))) (head.DynProjection i (length args.items)) (ts ++ u ∷ [])
    (ap tree_of_clause (clause_variants.rolls-Projection i args t) ∙ tree_of_clause-Projection i args t) (
      pushed ts u (length args.items) count,
      All-push IsArgument ts u (all_args args.items) (argument_sort (sort_of (node_of u)) (term_sort t)),
      subst IsTerm (sym last) (term_sort t),
    )

clause_fit : (c : DynClause) → IsFit (tree_of_clause c)
clause_fit c = subst (λ d. IsFit (tree_of_clause d)) (roll-out-DynClause c) (clause_layer_fit (out-DynClause c))

-- the parts of any part of a term fit its top
pub ref_fit : (r : TermRef) → IsFit (tree_of_ref r)
ref_fit (view.Ty t) = ty_fit t.now
ref_fit (view.Const c) = const_fit c.now
ref_fit (view.Lifetime r) = fit_node (leaf (head.Lifetime r)) (head.Lifetime r) [] refl refl
ref_fit (view.Clause c) = clause_fit c.now
ref_fit (view.Alias a) = alias_fit a.now
ref_fit (view.Signature s) = sig_fit s.now
