-- The parts of a public term fit it throughout.
use Rattle.std.proofs.Common.{◌≡◌, ℕ, zero, suc, ◌≤◌, Bool, true, false, List, [], ◌∷◌, ◌++◌, length, map, refl, sym, ap, ◌∙◌, subst, arith}
use Rattle.std.specs.Prelude.{if◌then◌else◌}
use Rattle.goal_terms.specs.Tree.{Tree, Trees, node, alias, variable, none, more, forest, list_of, parts_of, tree_size}
use Rattle.goal_terms.specs.TreeOf.{leaf, is_type_kind, at_type, at_const, tree_of_ty, tree_of_const, tree_of_arg, tree_of_term, tree_of_alias, tree_of_clause, tree_of_sig}
use Rattle.goal_terms.specs.View.{tree_of_ref}
use Rattle.goal_terms.specs.declared.heads.Head.{Head}
use Rattle.goal_terms.specs.declared.heads.Head.TheVariants as head
use Rattle.goal_terms.specs.declared.terms.AliasTerm.{AliasTerm}
use Rattle.goal_terms.specs.declared.terms.Const.{Const, Const-F, roll-Const, out-Const, roll-out-Const}
use Rattle.goal_terms.specs.declared.terms.Const.TheVariants as const_variants
use Rattle.goal_terms.specs.declared.terms.DynClause.{DynClause, DynClause-F, roll-DynClause, out-DynClause, roll-out-DynClause}
use Rattle.goal_terms.specs.declared.terms.DynClause.TheVariants as clause_variants
use Rattle.goal_terms.specs.declared.terms.FnSig.{FnSig}
use Rattle.goal_terms.specs.declared.terms.GenericArg.{GenericArg, GenericArg-F, roll-GenericArg, out-GenericArg, roll-out-GenericArg}
use Rattle.goal_terms.specs.declared.terms.GenericArg.TheVariants as arg_variants
use Rattle.goal_terms.specs.declared.terms.Term.{Term, Term-F, roll-Term, out-Term, roll-out-Term}
use Rattle.goal_terms.specs.declared.terms.Term.TheVariants as term_variants
use Rattle.goal_terms.specs.declared.terms.Ty.{Ty, Ty-F, roll-Ty, out-Ty, roll-out-Ty}
use Rattle.goal_terms.specs.declared.terms.Ty.TheVariants as ty_variants
use Rattle.goal_terms.specs.declared.view.TermRef.{TermRef}
use Rattle.goal_terms.specs.declared.view.TermRef.TheVariants as view
use Rattle.goal_terms.proofs.FitLemmas.{IsFit, ref_fit}
use Rattle.goal_terms.proofs.SizeLemmas.{sizes, tree_size-parts}
use Rattle.goal_terms.proofs.TreeLemmas as trees
use Rattle.goal_lists.specs.KindedTerms.{FitsThroughout, RowFitsThroughout}

-- a view of a type, a constant, a clause
abbrev ty_ref : Ty → TermRef
ty_ref t = view.Ty (record { ref_ptr = (0, 0); now = t })

abbrev const_ref : Const → TermRef
const_ref c = view.Const (record { ref_ptr = (0, 0); now = c })

abbrev clause_ref : DynClause → TermRef
clause_ref c = view.Clause (record { ref_ptr = (0, 0); now = c })

-- a tree is that of a view
abbrev IsViewed : Tree → Type 0
IsViewed t = (r : TermRef) × (tree_of_ref r ≡ t)

-- all trees of a list are
abbrev AreViewed : List Tree → Type 0
AreViewed ts = (rs : List TermRef) × (map tree_of_ref rs ≡ ts)

arg_layer_viewed : (l : GenericArg-F Const DynClause GenericArg Term Ty AliasTerm FnSig) → IsViewed (tree_of_arg (roll-GenericArg l))
arg_layer_viewed (GenericArg-F.GenericArg::Ty t) = (ty_ref t, sym (ap tree_of_arg (arg_variants.rolls-Ty t) ∙ trees.tree_of_arg-Ty t))
arg_layer_viewed (GenericArg-F.GenericArg::Const c) = (const_ref c, sym (ap tree_of_arg (arg_variants.rolls-Const c) ∙ trees.tree_of_arg-Const c))
arg_layer_viewed (GenericArg-F.Lifetime r) = (view.Lifetime r, sym (ap tree_of_arg (arg_variants.rolls-Lifetime r) ∙ trees.tree_of_arg-Lifetime r))

arg_viewed : (a : GenericArg) → IsViewed (tree_of_arg a)
arg_viewed a = subst (λ b. IsViewed (tree_of_arg b)) (roll-out-GenericArg a) (arg_layer_viewed (out-GenericArg a))

term_layer_viewed : (l : Term-F Const DynClause GenericArg Term Ty AliasTerm FnSig) → IsViewed (tree_of_term (roll-Term l))
term_layer_viewed (Term-F.Term::Ty t) = (ty_ref t, sym (ap tree_of_term (term_variants.rolls-Ty t) ∙ trees.tree_of_term-Ty t))
term_layer_viewed (Term-F.Term::Const c) = (const_ref c, sym (ap tree_of_term (term_variants.rolls-Const c) ∙ trees.tree_of_term-Const c))

term_viewed : (t : Term) → IsViewed (tree_of_term t)
term_viewed t = subst (λ u. IsViewed (tree_of_term u)) (roll-out-Term t) (term_layer_viewed (out-Term t))

-- lists of such trees
viewed_more : (t : Tree) (ts : List Tree) → IsViewed t → AreViewed ts → AreViewed (t ∷ ts)
viewed_more t ts x y = (x.0 ∷ y.0, ap (λ u. u ∷ map tree_of_ref y.0) x.1 ∙ ap (λ us. t ∷ us) y.1)

viewed_all : {A : Type 0} (f : A → Tree) → ((a : A) → IsViewed (f a)) → (xs : List A) → AreViewed (map f xs)
viewed_all f each [] = ([], refl)
viewed_all f each (x ∷ xs) = viewed_more (f x) (map f xs) (each x) (viewed_all f each xs)

viewed_last : (ts : List Tree) (t : Tree) → ((u : Tree) → u ≡ t → IsViewed u) → AreViewed ts → AreViewed (ts ++ t ∷ [])
viewed_last [] t x y = viewed_more t [] (x t refl) ([], refl)
viewed_last (u ∷ us) t x ([], e) = absurd (cc)
viewed_last (u ∷ us) t x (r ∷ rs, e) =
    let first : tree_of_ref r ≡ u = cc in
    let rest : map tree_of_ref rs ≡ us = cc in
    viewed_more u (us ++ t ∷ []) (r, first) (viewed_last us t x (rs, rest))

-- the parts of a tree are those of views
abbrev HasViews : Tree → Type 0
HasViews t = AreViewed (parts_of t)

-- of a constructor with known parts
node_views : (t : Tree) (h : Head) (ts : List Tree) → t ≡ node h (forest ts) → AreViewed ts → HasViews t
node_views t h ts e x = subst AreViewed (sym (ap parts_of e ∙ trees.list_of-forest ts)) x

args_views : (t : Tree) (h : Head) (xs : List GenericArg) → t ≡ node h (forest (map tree_of_arg xs)) → HasViews t
args_views t h xs e = node_views t h (map tree_of_arg xs) e (viewed_all tree_of_arg arg_viewed xs)

leaf_views : (t : Tree) (h : Head) → t ≡ leaf h → HasViews t
leaf_views t h e = node_views t h [] e ([], refl)

ty_views : (t : Tree) (h : Head) (x : Ty) → t ≡ node h (more (tree_of_ty x) none) → HasViews t
ty_views t h x e = node_views t h (tree_of_ty x ∷ []) e (ty_ref x ∷ [], refl)

-- of an alias, misplaced or not
parts_of-either : (b : Bool) (t u : Tree) (ts : List Tree) → parts_of t ≡ ts → parts_of u ≡ ts → parts_of (if b then t else u) ≡ ts
parts_of-either true t u ts e f = e
parts_of-either false t u ts e f = f

alias_views : (t : Tree) (xs : List GenericArg) → parts_of t ≡ list_of (forest (map tree_of_arg xs)) → HasViews t
alias_views t xs e = subst AreViewed (sym (e ∙ trees.list_of-forest (map tree_of_arg xs))) (viewed_all tree_of_arg arg_viewed xs)

sig_views : (s : FnSig) → HasViews (tree_of_sig s)
sig_views s =
    node_views (tree_of_sig s) (head.FnPtr s.bound_regions (length s.inputs.items) s.fn_traits) (map tree_of_ty s.inputs.items ++ tree_of_ty s.output ∷ []) (trees.tree_of_sig-record s)
    (viewed_last (map tree_of_ty s.inputs.items) (tree_of_ty s.output) (λ u e. (ty_ref s.output, sym e)) (viewed_all tree_of_ty (λ t. (ty_ref t, refl)) s.inputs.items))

ty_layer_views : (l : Ty-F Const DynClause GenericArg Term Ty AliasTerm FnSig) → HasViews (tree_of_ty (roll-Ty l))
ty_layer_views Ty-F.Bool = leaf_views (tree_of_ty (roll-Ty Ty-F.Bool)) head.Bool (ap tree_of_ty ty_variants.rolls-Bool ∙ trees.tree_of_ty-Bool)
ty_layer_views Ty-F.Char = leaf_views (tree_of_ty (roll-Ty Ty-F.Char)) head.Char (ap tree_of_ty ty_variants.rolls-Char ∙ trees.tree_of_ty-Char)
ty_layer_views (Ty-F.Int i) = leaf_views (tree_of_ty (roll-Ty (Ty-F.Int i))) (head.Int i) (ap tree_of_ty (ty_variants.rolls-Int i) ∙ trees.tree_of_ty-Int i)
ty_layer_views (Ty-F.Uint i) = leaf_views (tree_of_ty (roll-Ty (Ty-F.Uint i))) (head.Uint i) (ap tree_of_ty (ty_variants.rolls-Uint i) ∙ trees.tree_of_ty-Uint i)
ty_layer_views (Ty-F.Float i) = leaf_views (tree_of_ty (roll-Ty (Ty-F.Float i))) (head.Float i) (ap tree_of_ty (ty_variants.rolls-Float i) ∙ trees.tree_of_ty-Float i)
ty_layer_views Ty-F.Str = leaf_views (tree_of_ty (roll-Ty Ty-F.Str)) head.Str (ap tree_of_ty ty_variants.rolls-Str ∙ trees.tree_of_ty-Str)
ty_layer_views Ty-F.Never = leaf_views (tree_of_ty (roll-Ty Ty-F.Never)) head.Never (ap tree_of_ty ty_variants.rolls-Never ∙ trees.tree_of_ty-Never)
ty_layer_views (Ty-F.Adt i args) = args_views (tree_of_ty (roll-Ty (Ty-F.Adt i args))) (head.Adt i (length args.items)) args.items (ap tree_of_ty (ty_variants.rolls-Adt i args) ∙ trees.tree_of_ty-Adt i args)
ty_layer_views (Ty-F.Foreign i) = leaf_views (tree_of_ty (roll-Ty (Ty-F.Foreign i))) (head.Foreign i) (ap tree_of_ty (ty_variants.rolls-Foreign i) ∙ trees.tree_of_ty-Foreign i)
ty_layer_views (Ty-F.Array t c) =
    node_views (tree_of_ty (roll-Ty (Ty-F.Array t c))) head.Array (tree_of_ty t.value ∷ tree_of_const c.value ∷ [])
    (ap tree_of_ty (ty_variants.rolls-Array t c) ∙ trees.tree_of_ty-Array t c) (ty_ref t.value ∷ const_ref c.value ∷ [], refl)
ty_layer_views (Ty-F.Slice t) = ty_views (tree_of_ty (roll-Ty (Ty-F.Slice t))) head.Slice t.value (ap tree_of_ty (ty_variants.rolls-Slice t) ∙ trees.tree_of_ty-Slice t)
ty_layer_views (Ty-F.RawPtr t m) = ty_views (tree_of_ty (roll-Ty (Ty-F.RawPtr t m))) (head.RawPtr m) t.value (ap tree_of_ty (ty_variants.rolls-RawPtr t m) ∙ trees.tree_of_ty-RawPtr t m)
ty_layer_views (Ty-F.Ref r t m) = ty_views (tree_of_ty (roll-Ty (Ty-F.Ref r t m))) (head.Ref r m) t.value (ap tree_of_ty (ty_variants.rolls-Ref r t m) ∙ trees.tree_of_ty-Ref r t m)
ty_layer_views (Ty-F.FnDef i args) = args_views (tree_of_ty (roll-Ty (Ty-F.FnDef i args))) (head.FnDef i (length args.items)) args.items (ap tree_of_ty (ty_variants.rolls-FnDef i args) ∙ trees.tree_of_ty-FnDef i args)
ty_layer_views (Ty-F.FnPtr sig) = subst HasViews (sym (ap tree_of_ty (ty_variants.rolls-FnPtr sig) ∙ trees.tree_of_ty-FnPtr sig)) (sig_views sig.value)
ty_layer_views (Ty-F.Closure i args) = args_views (tree_of_ty (roll-Ty (Ty-F.Closure i args))) (head.Closure i (length args.items)) args.items (ap tree_of_ty (ty_variants.rolls-Closure i args) ∙ trees.tree_of_ty-Closure i args)
ty_layer_views (Ty-F.Dynamic clauses r) =
    node_views (tree_of_ty (roll-Ty (Ty-F.Dynamic clauses r))) (head.Dynamic (length clauses.items) r) (map tree_of_clause clauses.items)
    (ap tree_of_ty (ty_variants.rolls-Dynamic clauses r) ∙ trees.tree_of_ty-Dynamic clauses r) (viewed_all tree_of_clause (λ c. (clause_ref c, refl)) clauses.items)
ty_layer_views (Ty-F.Tuple elements) =
    node_views (tree_of_ty (roll-Ty (Ty-F.Tuple elements))) (head.Tuple (length elements.items)) (map tree_of_ty elements.items)
    (ap tree_of_ty (ty_variants.rolls-Tuple elements) ∙ trees.tree_of_ty-Tuple elements) (viewed_all tree_of_ty (λ t. (ty_ref t, refl)) elements.items)
ty_layer_views (Ty-F.Ty::Param n) = leaf_views (tree_of_ty (roll-Ty (Ty-F.Ty::Param n))) (head.TyParam n) (ap tree_of_ty (ty_variants.rolls-Param n) ∙ trees.tree_of_ty-Param n)
ty_layer_views (Ty-F.Ty::Placeholder n) = leaf_views (tree_of_ty (roll-Ty (Ty-F.Ty::Placeholder n))) (head.TyPlaceholder n) (ap tree_of_ty (ty_variants.rolls-Placeholder n) ∙ trees.tree_of_ty-Placeholder n)
ty_layer_views (Ty-F.Ty::Alias a) =
    alias_views (tree_of_ty (roll-Ty (Ty-F.Ty::Alias a))) a.args.items
    (ap parts_of (ap tree_of_ty (ty_variants.rolls-Alias a) ∙ trees.tree_of_ty-Alias a ∙ ap at_type (trees.tree_of_alias-record a))
    ∙ parts_of-either (is_type_kind a.kind) (alias a.kind (forest (map tree_of_arg a.args.items))) (node (head.Misplaced a.kind) (forest (map tree_of_arg a.args.items))) (list_of (forest (map tree_of_arg a.args.items))) refl refl)
ty_layer_views (Ty-F.Ty::Infer v) = ([], sym (ap parts_of (ap tree_of_ty (ty_variants.rolls-Infer v) ∙ trees.tree_of_ty-Infer v)))
ty_layer_views (Ty-F.Ty::Error n) = leaf_views (tree_of_ty (roll-Ty (Ty-F.Ty::Error n))) (head.TyError n) (ap tree_of_ty (ty_variants.rolls-Error n) ∙ trees.tree_of_ty-Error n)

const_layer_views : (l : Const-F Const DynClause GenericArg Term Ty AliasTerm FnSig) → HasViews (tree_of_const (roll-Const l))
const_layer_views (Const-F.Value n) = leaf_views (tree_of_const (roll-Const (Const-F.Value n))) (head.Value n) (ap tree_of_const (const_variants.rolls-Value n) ∙ trees.tree_of_const-Value n)
const_layer_views (Const-F.Const::Param n) = leaf_views (tree_of_const (roll-Const (Const-F.Const::Param n))) (head.ConstParam n) (ap tree_of_const (const_variants.rolls-Param n) ∙ trees.tree_of_const-Param n)
const_layer_views (Const-F.Const::Placeholder n) = leaf_views (tree_of_const (roll-Const (Const-F.Const::Placeholder n))) (head.ConstPlaceholder n) (ap tree_of_const (const_variants.rolls-Placeholder n) ∙ trees.tree_of_const-Placeholder n)
const_layer_views (Const-F.Const::Infer n) = ([], sym (ap parts_of (ap tree_of_const (const_variants.rolls-Infer n) ∙ trees.tree_of_const-Infer n)))
const_layer_views (Const-F.Const::Alias a) =
    alias_views (tree_of_const (roll-Const (Const-F.Const::Alias a))) a.args.items
    (ap parts_of (ap tree_of_const (const_variants.rolls-Alias a) ∙ trees.tree_of_const-Alias a ∙ ap at_const (trees.tree_of_alias-record a))
    ∙ parts_of-either (is_type_kind a.kind) (node (head.Misplaced a.kind) (forest (map tree_of_arg a.args.items))) (alias a.kind (forest (map tree_of_arg a.args.items))) (list_of (forest (map tree_of_arg a.args.items))) refl refl)
const_layer_views (Const-F.Const::Error n) = leaf_views (tree_of_const (roll-Const (Const-F.Const::Error n))) (head.ConstError n) (ap tree_of_const (const_variants.rolls-Error n) ∙ trees.tree_of_const-Error n)

clause_layer_views : (l : DynClause-F Const DynClause GenericArg Term Ty AliasTerm FnSig) → HasViews (tree_of_clause (roll-DynClause l))
clause_layer_views (DynClause-F.Trait i args) =
    args_views (tree_of_clause (roll-DynClause (DynClause-F.Trait i args))) (head.DynTrait i (length args.items)) args.items (ap tree_of_clause (clause_variants.rolls-Trait i args) ∙ trees.tree_of_clause-Trait i args)
clause_layer_views (DynClause-F.Projection i args t) =
    node_views (tree_of_clause (roll-DynClause (DynClause-F.Projection i args t))) (head.DynProjection i (length args.items)) (map tree_of_arg args.items ++ tree_of_term t ∷ [])
    (ap tree_of_clause (clause_variants.rolls-Projection i args t) ∙ trees.tree_of_clause-Projection i args t)
    (viewed_last (map tree_of_arg args.items) (tree_of_term t) (λ u e. subst IsViewed (sym e) (term_viewed t)) (viewed_all tree_of_arg arg_viewed args.items))

-- the parts of what a view shows are shown by views
views : (r : TermRef) → HasViews (tree_of_ref r)
views (view.Ty t) = subst (λ u. HasViews (tree_of_ty u)) (roll-out-Ty t.now) (ty_layer_views (out-Ty t.now))
views (view.Const c) = subst (λ u. HasViews (tree_of_const u)) (roll-out-Const c.now) (const_layer_views (out-Const c.now))
views (view.Lifetime r) = ([], refl)
views (view.Clause c) = subst (λ u. HasViews (tree_of_clause u)) (roll-out-DynClause c.now) (clause_layer_views (out-DynClause c.now))
views (view.Alias a) = alias_views (tree_of_ref (view.Alias a)) a.now.args.items (ap parts_of (trees.tree_of_alias-record a.now))
views (view.Signature s) = sig_views s.now

-- a row is that of its trees
forest_of-list : (ts : Trees) → forest (list_of ts) ≡ ts
forest_of-list none = refl
forest_of-list (more t ts) = ap (λ us. more t us) (forest_of-list ts)

-- a term fits throughout if it fits, and its parts do throughout
through-parts : (t : Tree) → IsFit t → RowFitsThroughout (forest (parts_of t)) → FitsThroughout t
unfolding IsFit FitsThroughout
through-parts (node h ts) fit row = (fit, subst RowFitsThroughout (forest_of-list ts) row)
through-parts (alias k ts) fit row = (fit, subst RowFitsThroughout (forest_of-list ts) row)
through-parts (variable v) fit row = tt

-- what is shown by a view of few nodes fits throughout
abbrev FitsBelow : ℕ → Type 0
FitsBelow n = (r : TermRef) → tree_size (tree_of_ref r) ≤ n → FitsThroughout (tree_of_ref r)

row_through : (n : ℕ) → FitsBelow n → (rs : List TermRef) → sizes (map tree_of_ref rs) ≤ n → RowFitsThroughout (forest (map tree_of_ref rs))
unfolding sizes FitsThroughout
row_through n each [] small = tt
row_through n each (r ∷ rs) small = (each r (omega (arith, small)), row_through n each rs (omega (arith, small)))

through_below : (n : ℕ) → FitsBelow n
through_below zero r small = absurd (omega (arith, small, tree_size-parts (tree_of_ref r)))
through_below (suc n) r small =
    let parts : AreViewed (parts_of (tree_of_ref r)) = views r in
    through-parts (tree_of_ref r) (ref_fit r)
    (subst (λ ts. RowFitsThroughout (forest ts)) parts.1
    (row_through n (through_below n) parts.0 (omega (arith, small, tree_size-parts (tree_of_ref r), ap sizes parts.1))))

-- each argument fits throughout
pub arg_through : (a : GenericArg) → FitsThroughout (tree_of_arg a)
arg_through a =
    let seen : IsViewed (tree_of_arg a) = arg_viewed a in
    subst FitsThroughout seen.1 (through_below (tree_size (tree_of_ref seen.0)) seen.0 (omega arith))

-- and so does each term that is shown by a view
ref_through : (r : TermRef) → FitsThroughout (tree_of_ref r)
ref_through r = through_below (tree_size (tree_of_ref r)) r (omega arith)

pub ty_through : (t : Ty) → FitsThroughout (tree_of_ty t)
ty_through t = ref_through (ty_ref t)

pub sig_through : (s : FnSig) → FitsThroughout (tree_of_sig s)
sig_through s = ref_through (view.Signature (record { ref_ptr = (0, 0); now = s }))

pub alias_through : (a : AliasTerm) → FitsThroughout (tree_of_alias a)
alias_through a = ref_through (view.Alias (record { ref_ptr = (0, 0); now = a }))

pub term_through : (t : Term) → FitsThroughout (tree_of_term t)
term_through t = let seen : IsViewed (tree_of_term t) = term_viewed t in subst FitsThroughout seen.1 (ref_through seen.0)
