-- The terms of rows of accepted tables are of the kinds of their rows and of the sorts of their places.
use Rattle.std.proofs.Common.{◌≡◌, Bool, true, false, ◌&&◌, ◌||◌, List, [], ◌∷◌, ◌++◌, length, map, drop, Option, Some, None, refl, sym, ap, ◌∙◌, arith}
use Rattle.std.specs.Prelude.{is_none, unwrap_or}
use Rattle.std.specs.List.{All, list_any}
use Rattle.std.specs.Option.{option_map, option_and_then}
use Rattle.std.proofs.lemmas.Bool.{false≢true}
use Rattle.std.proofs.lemmas.List.Elements.{All-tail}
use Rattle.goal_terms.specs.Erased.{erased}
use Rattle.goal_terms.specs.Kinds.{same_kind, kind_of}
use Rattle.goal_terms.specs.Sorts.{IsSort, IsArgument, HeadFits, is_argument_sort, is_term_sort}
use Rattle.goal_terms.specs.Tree.{Tree, Trees, node, alias, variable, none, more, list_of, node_of}
use Rattle.goal_terms.specs.TreeOf.{tree_of_arg, tree_of_ty, tree_of_term, tree_of_sig, trees_of}
use Rattle.goal_terms.specs.declared.answers.ParamKind.{ParamKind}
use Rattle.goal_terms.specs.declared.heads.Head.{Head}
use Rattle.goal_terms.specs.declared.heads.Head.TheVariants as head
use Rattle.goal_terms.specs.declared.heads.Node.TheVariants as nodes
use Rattle.goal_terms.specs.declared.ids.AdtId.{AdtId}
use Rattle.goal_terms.specs.declared.ids.ClosureId.{ClosureId}
use Rattle.goal_terms.specs.declared.ids.DefId.{DefId}
use Rattle.goal_terms.specs.declared.ids.FnId.{FnId}
use Rattle.goal_terms.specs.declared.ids.FreeId.{FreeId}
use Rattle.goal_terms.specs.declared.ids.InherentId.{InherentId}
use Rattle.goal_terms.specs.declared.ids.InherentImplId.{InherentImplId}
use Rattle.goal_terms.specs.declared.ids.OpaqueId.{OpaqueId}
use Rattle.goal_terms.specs.declared.sorts.Sort.{Sort}
use Rattle.goal_terms.specs.declared.sorts.Sort.TheVariants as sorts
use Rattle.goal_terms.specs.declared.terms.GenericArg.{GenericArg}
use Rattle.goal_terms.specs.declared.terms.Term.{Term}
use Rattle.goal_terms.specs.declared.terms.Ty.{Ty}
use Rattle.goal_terms.proofs.SortLemmas.{ty_sort, term_sort, arg_sort}
use Rattle.goal_tables.specs.Clauses.{own_fault, const_fault, lies_in_args, lies_in_trait_args, lies_in_clauses, lies_in_const_refs}
use Rattle.goal_tables.specs.Faults.{IsChecked}
use Rattle.goal_tables.specs.Options.{option_holds}
use Rattle.goal_tables.specs.ParamKinds.{differs_in_count, asks_other_kinds}
use Rattle.goal_tables.specs.RowFaults.{if_unknown, if_kind, definition_scope, inherent_scope, lies_in_option, lies_in_value, container_is_unknown, lies_in_definition_value, kind_of_definition_value, value_has_other_kind, value_differs, lies_in_field_info, lies_in_impl, lies_in_definition, lies_in_free, lies_in_inherent_impl, lies_in_inherent, lies_in_function, lies_in_closure}
use Rattle.goal_tables.specs.Rows.{item_of, impl_of, definition_of, free_of, inherent_impl_of, inherent_of, opaque_of, adt_of, function_of, closure_of}
use Rattle.goal_tables.specs.Sites.{kind_of_value, is_of_other_kind, clause_params, projection_params, params_of, is_unknown, is_misplaced, lies_here, lies_in, lies_in_row}
use Rattle.goal_tables.specs.declared.rows.AdtRow.{AdtRow}
use Rattle.goal_tables.specs.declared.rows.ClosureRow.{ClosureRow}
use Rattle.goal_tables.specs.declared.rows.DefRow.{DefRow}
use Rattle.goal_tables.specs.declared.rows.DefValue.{DefValue}
use Rattle.goal_tables.specs.declared.rows.DefValue.TheVariants as value
use Rattle.goal_tables.specs.declared.rows.FieldInfo.{FieldInfo}
use Rattle.goal_tables.specs.declared.rows.FnRow.{FnRow}
use Rattle.goal_tables.specs.declared.rows.FreeRow.{FreeRow}
use Rattle.goal_tables.specs.declared.rows.ImplRow.{ImplRow}
use Rattle.goal_tables.specs.declared.rows.InherentImplRow.{InherentImplRow}
use Rattle.goal_tables.specs.declared.rows.InherentRow.{InherentRow}
use Rattle.goal_tables.specs.declared.rows.ItemRow.{ItemRow}
use Rattle.goal_tables.specs.declared.rows.OpaqueRow.{OpaqueRow}
use Rattle.goal_tables.specs.declared.rows.Tables.{Tables}
use Rattle.goal_tables.specs.declared.faults.TermFault.{TermFault}
use Rattle.goal_tables.specs.declared.faults.TermFault.TheVariants.{UnknownItem, WrongArgumentCount, WrongArgumentKind}
use Rattle.goal_lists.specs.KindedTerms.{kinds_of_terms, FitsThroughout, RowFitsThroughout, NoKindFault}
use Rattle.goal_lists.specs.Aliases.{self_header}
use Rattle.goal_lists.specs.TraitGoals.{header_of}
use Rattle.goal_lists.specs.Words.{Each}
use Rattle.goal_lists.proofs.AcceptedLemmas.{traits_of_items}
use Rattle.goal_kinds.proofs.FaultlessRows.{three_fail, four_fail, free_fails, inherent_fails, inherent_impl_fails, opaque_parts_fail, definition_fails, adt_parts_fail, function_fails, closure_fails}
use Rattle.goal_lists.proofs.KindOfTermLemmas.{kind_of_term, same_kind-true}
use Rattle.goal_kinds.proofs.PlacedTerms.{sort_at, sort_of_value, is_type_sort, is_clause_sort, takes, EndsAs, EndsAsSaid, IsPlaced, RowIsPlaced, IsPlacedAs, ArePlaced, sort_of_kind, sort-by_kind, placed-erased_argument, placed-type}
use Rattle.goal_lists.proofs.PublicTermLemmas.{arg_through, ty_through, term_through, sig_through}
use Rattle.goal_lists.proofs.TableKindLemmas.{both_fail, not_false, kinds_by_row, HasTraitsOfItems, known_clause}

-- each term of a list is of a sort that passes a test
abbrev AllTake : (Sort → Bool) → List Tree → Type 0
AllTake test ts = Each (λ u. test (sort_at u) ≡ true) ts

all-each : (P : Tree → Type 0) (test : Sort → Bool) → ((u : Tree) → P u → test (sort_at u) ≡ true) → (ts : List Tree) → All P ts → AllTake test ts
unfolding Each
all-each P test f [] x = tt
all-each P test f (u ∷ ts) x = (f u (x 0 u (omega arith)), all-each P test f ts (All-tail P u ts x))

arguments-each : (ts : List Tree) → All IsArgument ts → AllTake is_argument_sort ts
arguments-each ts x = all-each IsArgument is_argument_sort (λ u e. e) ts x

types-each : (ts : List Tree) → All (IsSort sorts.Ty) ts → AllTake is_argument_sort ts
types-each ts x = all-each (IsSort sorts.Ty) is_argument_sort (λ u e. ap is_argument_sort e) ts x

array-each : (ts : List Tree) → HeadFits head.Array ts → AllTake is_argument_sort ts
unfolding Each
array-each [] x = tt
array-each (u ∷ []) x = absurd (omega (arith, x.0))
array-each (u ∷ v ∷ []) x = (ap is_argument_sort x.1, (ap is_argument_sort x.2, tt))
array-each (u ∷ v ∷ w ∷ ts) x = absurd (omega (arith, x.0))

nothing-each : (test : Sort → Bool) (ts : List Tree) → ts ≡ [] → AllTake test ts
unfolding Each
nothing-each test [] e = tt
nothing-each test (u ∷ ts) e = absurd (cc)

-- the parts that fit a constructor are of the sorts that it takes
fits-takes : (h : Head) (ts : List Tree) → HeadFits h ts → AllTake (takes h) ts
unfolding takes
fits-takes (head.Adt i n) ts x = arguments-each ts x.1
fits-takes (head.FnDef i n) ts x = arguments-each ts x.1
fits-takes (head.Closure i n) ts x = arguments-each ts x.1
fits-takes (head.DynTrait i n) ts x = arguments-each ts x.1
fits-takes (head.DynProjection i n) ts x = arguments-each ts x.1
fits-takes (head.Misplaced k) ts x = arguments-each ts x
fits-takes head.Array ts x = array-each ts x
fits-takes head.Slice ts x = types-each ts x.1
fits-takes (head.RawPtr m) ts x = types-each ts x.1
fits-takes (head.Ref r m) ts x = types-each ts x.1
fits-takes (head.Tuple n) ts x = types-each ts x.1
fits-takes (head.FnPtr b n q) ts x = all-each (IsSort sorts.Ty) is_type_sort (λ u e. ap is_type_sort e) ts x.1
fits-takes (head.Dynamic n r) ts x = all-each (IsSort sorts.Clause) is_clause_sort (λ u e. ap is_clause_sort e) ts x.1
fits-takes h ts x = nothing-each is_argument_sort ts x

-- the sort of a value by its kind
value_sort : (b : Bool) → sort_of_kind (kind_of_value b) ≡ sort_of_value b
value_sort true = refl
value_sort false = refl

pub sort-by_value : (u : Tree) (b : Bool) → is_argument_sort (sort_at u) ≡ true → kind_of_term u ≡ kind_of_value b → sort_at u ≡ sort_of_value b
sort-by_value u b e f = sort-by_kind u (kind_of_value b) e f ∙ value_sort b

-- the last of some kinds is the last term's
kinds-end : (b : Bool) (ts : Trees) (ks : List ParamKind) → kinds_of_terms (list_of ts) ≡ ks ++ kind_of_value b ∷ [] → AllTake is_argument_sort (list_of ts) →
    EndsAs (sort_of_value b) ts
unfolding EndsAs Each
kinds-end b none ks e all = tt
kinds-end b (more u none) [] e all = let same : kind_of_term u ≡ kind_of_value b = cc in sort-by_value u b all.0 same
kinds-end b (more u none) (k ∷ []) e all = absurd (cc)
kinds-end b (more u none) (k ∷ j ∷ ks) e all = absurd (cc)
kinds-end b (more u (more v vs)) [] e all = absurd (cc)
kinds-end b (more u (more v vs)) (k ∷ ks) e all =
    let rest : kinds_of_terms (list_of (more v vs)) ≡ ks ++ kind_of_value b ∷ [] = cc in
    kinds-end b (more v vs) ks rest all.1

-- the kinds of a clause that names an item end in the item's
said-kinds : (o : Option ItemRow) (p : Option (List ParamKind)) (r : ItemRow) → o ≡ Some r →
    is_none (option_and_then (λ q. option_map (λ ps. drop 1 ps ++ kind_of_value q.is_const ∷ []) p) o) ≡ false →
    (ks : List ParamKind) × (unwrap_or (option_and_then (λ q. option_map (λ ps. drop 1 ps ++ kind_of_value q.is_const ∷ []) p) o) [] ≡ ks ++ kind_of_value r.is_const ∷ [])
said-kinds None p r e f = absurd (false≢true (sym f))
said-kinds (Some q) None r e f = absurd (false≢true (sym f))
said-kinds (Some q) (Some ps) r e f = let same : q ≡ r = cc in (drop 1 ps, ap (λ x. drop 1 ps ++ kind_of_value x.is_const ∷ []) same)

-- a constructor in which no such fault lies ends as the rows say
accepted-ends : (t : Tables) → HasTraitsOfItems t → (h : Head) (ts : Trees) → AllTake (takes h) (list_of ts) → is_unknown t (nodes.Head h) ≡ false →
    differs_in_count (params_of t (nodes.Head h)) (length (list_of ts)) ≡ false → asks_other_kinds (params_of t (nodes.Head h)) (kinds_of_terms (list_of ts)) ≡ false →
    EndsAsSaid t h ts
unfolding EndsAsSaid takes is_unknown params_of
accepted-ends t traits (head.DynProjection i n) ts all known count kinds = λ r found.
    let some : is_none (clause_params t i) ≡ false = known_clause t i traits known in
    let said : (ks : List ParamKind) × (unwrap_or (clause_params t i) [] ≡ ks ++ kind_of_value r.is_const ∷ []) =
    said-kinds (item_of t i) (projection_params t i) r found some in
    kinds-end r.is_const ts said.0 (kinds_by_row (clause_params t i) (list_of ts) some count kinds ∙ said.1) all
accepted-ends t traits h ts all known count kinds = tt

mutual
  unfolding IsPlaced FitsThroughout lies_in lies_here is_misplaced Each

  -- a term in which no such fault lies
  pub placed-accepted : (t : Tables) (ps : List ParamKind) → HasTraitsOfItems t → (u : Tree) → FitsThroughout u → NoKindFault t ps u → IsPlaced t u
  placed-accepted t ps traits (node h ts) fit ok =
      let known : (is_unknown t (nodes.Head h) ≡ false) × (lies_in_row t ps UnknownItem ts ≡ false) = both_fail (is_unknown t (nodes.Head h)) (lies_in_row t ps UnknownItem ts) ok.0 in
      let count : (differs_in_count (params_of t (nodes.Head h)) (length (list_of ts)) ≡ false) × (lies_in_row t ps WrongArgumentCount ts ≡ false) =
      both_fail (differs_in_count (params_of t (nodes.Head h)) (length (list_of ts))) (lies_in_row t ps WrongArgumentCount ts) ok.1 in
      let kinds : (asks_other_kinds (params_of t (nodes.Head h)) (kinds_of_terms (list_of ts)) || is_misplaced t (nodes.Head h) ≡ false) × (lies_in_row t ps WrongArgumentKind ts ≡ false) =
      both_fail (asks_other_kinds (params_of t (nodes.Head h)) (kinds_of_terms (list_of ts)) || is_misplaced t (nodes.Head h)) (lies_in_row t ps WrongArgumentKind ts) ok.2 in
      let all : AllTake (takes h) (list_of ts) = fits-takes h (list_of ts) fit.0 in (
        accepted-ends t traits h ts all known.0 count.0 (both_fail (asks_other_kinds (params_of t (nodes.Head h)) (kinds_of_terms (list_of ts))) (is_misplaced t (nodes.Head h)) kinds.0).0,
        placed-accepted_row t ps traits (takes h) ts all fit.1 known.1 count.1 kinds.1,
      )
  placed-accepted t ps traits (alias k ts) fit ok =
      let known : (is_unknown t (nodes.Alias k) ≡ false) × (lies_in_row t ps UnknownItem ts ≡ false) = both_fail (is_unknown t (nodes.Alias k)) (lies_in_row t ps UnknownItem ts) ok.0 in
      let count : (differs_in_count (params_of t (nodes.Alias k)) (length (list_of ts)) ≡ false) × (lies_in_row t ps WrongArgumentCount ts ≡ false) =
      both_fail (differs_in_count (params_of t (nodes.Alias k)) (length (list_of ts))) (lies_in_row t ps WrongArgumentCount ts) ok.1 in
      let kinds : (asks_other_kinds (params_of t (nodes.Alias k)) (kinds_of_terms (list_of ts)) || is_misplaced t (nodes.Alias k) ≡ false) × (lies_in_row t ps WrongArgumentKind ts ≡ false) =
      both_fail (asks_other_kinds (params_of t (nodes.Alias k)) (kinds_of_terms (list_of ts)) || is_misplaced t (nodes.Alias k)) (lies_in_row t ps WrongArgumentKind ts) ok.2 in (
        (both_fail (asks_other_kinds (params_of t (nodes.Alias k)) (kinds_of_terms (list_of ts))) (is_misplaced t (nodes.Alias k)) kinds.0).1,
        placed-accepted_row t ps traits is_argument_sort ts (arguments-each (list_of ts) fit.0) fit.1 known.1 count.1 kinds.1,
      )
  placed-accepted t ps traits (variable v) fit ok = tt

  placed-accepted_row : (t : Tables) (ps : List ParamKind) → HasTraitsOfItems t → (test : Sort → Bool) (us : Trees) → AllTake test (list_of us) → RowFitsThroughout us →
      lies_in_row t ps UnknownItem us ≡ false → lies_in_row t ps WrongArgumentCount us ≡ false → lies_in_row t ps WrongArgumentKind us ≡ false →
      RowIsPlaced t test us
  placed-accepted_row t ps traits test none all fit a b c = tt
  placed-accepted_row t ps traits test (more u us) all fit a b c =
      let x : (lies_in t ps UnknownItem u ≡ false) × (lies_in_row t ps UnknownItem us ≡ false) = both_fail (lies_in t ps UnknownItem u) (lies_in_row t ps UnknownItem us) a in
      let y : (lies_in t ps WrongArgumentCount u ≡ false) × (lies_in_row t ps WrongArgumentCount us ≡ false) = both_fail (lies_in t ps WrongArgumentCount u) (lies_in_row t ps WrongArgumentCount us) b in
      let z : (lies_in t ps WrongArgumentKind u ≡ false) × (lies_in_row t ps WrongArgumentKind us ≡ false) = both_fail (lies_in t ps WrongArgumentKind u) (lies_in_row t ps WrongArgumentKind us) c in
      ((all.0, placed-accepted t ps traits u fit.0 (x.0, y.0, z.0)), placed-accepted_row t ps traits test us all.1 fit.1 x.1 y.1 z.1)

-- a term in which no fault lies, over accepted tables
pub placed-checked : (t : Tables) → IsChecked t → (ps : List ParamKind) (u : Tree) → FitsThroughout u → ((f : TermFault) → lies_in t ps f u ≡ false) → IsPlaced t u
placed-checked t ok ps u fit each = placed-accepted t ps (traits_of_items t ok) u fit (each UnknownItem, each WrongArgumentCount, each WrongArgumentKind)

pub placed-ty : (t : Tables) → IsChecked t → (ps : List ParamKind) (x : Ty) → ((f : TermFault) → lies_in t ps f (tree_of_ty x) ≡ false) → IsPlacedAs t sorts.Ty (tree_of_ty x)
placed-ty t ok ps x each = (ty_sort x, placed-checked t ok ps (tree_of_ty x) (ty_through x) each)

-- a type or a constant may be an argument
term-argument-sort : (s : Sort) → is_term_sort s ≡ true → is_argument_sort s ≡ true
term-argument-sort sorts.Ty e = refl
term-argument-sort sorts.Const e = refl
term-argument-sort sorts.Lifetime e = refl
term-argument-sort sorts.Clause e = absurd (false≢true e)

pub term-argument : (v : Term) → is_argument_sort (sort_at (tree_of_term v)) ≡ true
term-argument v = term-argument-sort (sort_at (tree_of_term v)) (term_sort v)

-- a value that may be there is of the sort that its row says
abbrev pub HoldsPlacedTerm : Tables → Bool → Option Term → Type 0
HoldsPlacedTerm t b None = Unit {0}
HoldsPlacedTerm t b (Some v) = IsPlacedAs t (sort_of_value b) (tree_of_term v)

placed-value : (t : Tables) → IsChecked t → (ps : List ParamKind) (b : Bool) (o : Option Term) → ((f : TermFault) → lies_in_value t ps f o ≡ false) →
    value_differs b o ≡ false → HoldsPlacedTerm t b o
placed-value t ok ps b None each same = tt
placed-value t ok ps b (Some v) each same = (
  sort-by_value (tree_of_term v) b (term-argument v)
      (same_kind-true (kind_of (node_of (tree_of_term v))) (kind_of_value b) (not_false (same_kind (kind_of (node_of (tree_of_term v))) (kind_of_value b)) same)),
  placed-checked t ok ps (tree_of_term v) (term_through v) each,
)

-- the values of free aliases and inherent items
pub placed-free : (t : Tables) → IsChecked t → (i : FreeId) (r : FreeRow) → free_of t i ≡ Some r → HoldsPlacedTerm t r.is_const r.value
unfolding lies_in_free if_kind
placed-free t ok i r e =
    placed-value t ok r.params.items r.is_const r.value
    (λ f. (three_fail (lies_in_clauses t r.params.items f r.predicates.items) (lies_in_value t r.params.items f r.value)
    (if_kind f (value_differs r.is_const r.value)) (free_fails t ok f i r e)).1)
    (three_fail (lies_in_clauses t r.params.items WrongArgumentKind r.predicates.items) (lies_in_value t r.params.items WrongArgumentKind r.value)
    (value_differs r.is_const r.value) (free_fails t ok WrongArgumentKind i r e)).2

pub placed-inherent : (t : Tables) → IsChecked t → (i : InherentId) (r : InherentRow) → inherent_of t i ≡ Some r → HoldsPlacedTerm t r.is_const r.value
unfolding lies_in_inherent if_kind
placed-inherent t ok i r e =
    placed-value t ok (inherent_scope t r) r.is_const r.value
    (λ f. (four_fail (lies_in_clauses t (inherent_scope t r) f r.predicates.items) (lies_in_value t (inherent_scope t r) f r.value)
    (if_unknown f (is_none (inherent_impl_of t r.impl_id))) (if_kind f (value_differs r.is_const r.value)) (inherent_fails t ok f i r e)).1)
    (four_fail (lies_in_clauses t (inherent_scope t r) WrongArgumentKind r.predicates.items) (lies_in_value t (inherent_scope t r) WrongArgumentKind r.value)
    (if_unknown WrongArgumentKind (is_none (inherent_impl_of t r.impl_id))) (value_differs r.is_const r.value) (inherent_fails t ok WrongArgumentKind i r e)).3

-- the self type of an inherent impl
pub placed-self : (t : Tables) → IsChecked t → (i : InherentImplId) (r : InherentImplRow) → inherent_impl_of t i ≡ Some r → ArePlaced t (self_header r)
unfolding lies_in_inherent_impl Each
placed-self t ok i r e = (
  placed-erased_argument t (tree_of_ty r.self_ty)
      (placed-type t (tree_of_ty r.self_ty) (placed-ty t ok r.params.items r.self_ty (λ f. inherent_impl_fails t ok f i r e))),
  tt,
)

-- the hidden type of an opaque type
pub placed-typeck_hidden : (t : Tables) → IsChecked t → (i : OpaqueId) (r : OpaqueRow) → opaque_of t i ≡ Some r → IsPlacedAs t sorts.Ty (tree_of_ty r.typeck_hidden)
placed-typeck_hidden t ok i r e = placed-ty t ok r.params.items r.typeck_hidden (λ f. (opaque_parts_fail t ok f i r e).1)

pub placed-hidden : (t : Tables) → IsChecked t → (i : OpaqueId) (r : OpaqueRow) → opaque_of t i ≡ Some r → IsPlacedAs t sorts.Ty (tree_of_ty r.hidden)
placed-hidden t ok i r e = placed-ty t ok r.params.items r.hidden (λ f. (opaque_parts_fail t ok f i r e).0)

-- a definition's value, if it is a term, is of its item's sort
abbrev pub IsPlacedValue : Tables → Bool → DefValue → Type 0
IsPlacedValue t b value.Missing = Unit {0}
IsPlacedValue t b (value.Term v) = IsPlacedAs t (sort_of_value b) (tree_of_term v)
IsPlacedValue t b value.Evaluated = Unit {0}

placed-definition_value : (t : Tables) → IsChecked t → (ps : List ParamKind) (b : Bool) (v : DefValue) → ((f : TermFault) → lies_in_definition_value t ps f v ≡ false) →
    is_of_other_kind (kind_of_definition_value v) (kind_of_value b) ≡ false → IsPlacedValue t b v
placed-definition_value t ok ps b value.Missing each same = tt
placed-definition_value t ok ps b (value.Term v) each same = (
  sort-by_value (tree_of_term v) b (term-argument v)
      (same_kind-true (kind_of (node_of (tree_of_term v))) (kind_of_value b) (not_false (same_kind (kind_of (node_of (tree_of_term v))) (kind_of_value b)) same)),
  placed-checked t ok ps (tree_of_term v) (term_through v) each,
)
placed-definition_value t ok ps b value.Evaluated each same = tt

-- what an option holds fails a test that it fails
pub held-fails : {A : Type 0} (test : A → Bool) (o : Option A) (x : A) → o ≡ Some x → option_holds test o ≡ false → test x ≡ false
held-fails test None x e f = absurd (cc)
held-fails test (Some y) x e f = let same : y ≡ x = cc in sym (ap test same) ∙ f

pub placed-definition : (t : Tables) → IsChecked t → (i : DefId) (r : DefRow) → definition_of t i ≡ Some r → (q : ItemRow) → item_of t r.item ≡ Some q →
    IsPlacedValue t q.is_const r.value
unfolding lies_in_definition if_kind
placed-definition t ok i r e q found =
    placed-definition_value t ok (definition_scope t r) q.is_const r.value
    (λ f. (three_fail (lies_in_definition_value t (definition_scope t r) f r.value)
    (if_unknown f (container_is_unknown t r.container || is_none (item_of t r.item))) (if_kind f (value_has_other_kind t r)) (definition_fails t ok f i r e)).0)
    (held-fails (λ x. is_of_other_kind (kind_of_definition_value r.value) (kind_of_value x.is_const)) (item_of t r.item) q found
    (three_fail (lies_in_definition_value t (definition_scope t r) WrongArgumentKind r.value)
    (if_unknown WrongArgumentKind (container_is_unknown t r.container || is_none (item_of t r.item))) (value_has_other_kind t r) (definition_fails t ok WrongArgumentKind i r e)).2)

-- a type that may be there
abbrev pub HoldsPlacedTy : Tables → Option Ty → Type 0
HoldsPlacedTy t None = Unit {0}
HoldsPlacedTy t (Some x) = IsPlacedAs t sorts.Ty (tree_of_ty x)

placed-option : (t : Tables) → IsChecked t → (ps : List ParamKind) (o : Option Ty) → ((f : TermFault) → lies_in_option t ps f o ≡ false) → HoldsPlacedTy t o
placed-option t ok ps None each = tt
placed-option t ok ps (Some x) each = placed-ty t ok ps x each

-- the types that an ADT says of its field
abbrev pub HoldsPlacedField : Tables → Option FieldInfo → Type 0
HoldsPlacedField t None = Unit {0}
HoldsPlacedField t (Some f) = IsPlacedAs t sorts.Ty (tree_of_ty f.base) × IsPlacedAs t sorts.Ty (tree_of_ty f.ty)

placed-field_info : (t : Tables) → IsChecked t → (ps : List ParamKind) (o : Option FieldInfo) → ((f : TermFault) → lies_in_field_info t ps f o ≡ false) → HoldsPlacedField t o
placed-field_info t ok ps None each = tt
placed-field_info t ok ps (Some x) each = (
  placed-ty t ok ps x.base (λ f. (both_fail (lies_in t ps f (tree_of_ty x.base)) (lies_in t ps f (tree_of_ty x.ty)) (each f)).0),
  placed-ty t ok ps x.ty (λ f. (both_fail (lies_in t ps f (tree_of_ty x.base)) (lies_in t ps f (tree_of_ty x.ty)) (each f)).1),
)

-- the types of an ADT
pub placed-tail : (t : Tables) → IsChecked t → (i : AdtId) (r : AdtRow) → adt_of t i ≡ Some r → HoldsPlacedTy t r.tail
placed-tail t ok i r e = placed-option t ok r.params.items r.tail (λ f. (adt_parts_fail t ok f i r e).0)

pub placed-discriminant : (t : Tables) → IsChecked t → (i : AdtId) (r : AdtRow) → adt_of t i ≡ Some r → IsPlacedAs t sorts.Ty (tree_of_ty r.discriminant)
placed-discriminant t ok i r e = placed-ty t ok r.params.items r.discriminant (λ f. (adt_parts_fail t ok f i r e).2)

pub placed-field : (t : Tables) → IsChecked t → (i : AdtId) (r : AdtRow) → adt_of t i ≡ Some r → HoldsPlacedField t r.field_info
placed-field t ok i r e = placed-field_info t ok r.params.items r.field_info (λ f. (adt_parts_fail t ok f i r e).4)

-- the signatures of functions and closures
pub placed-function : (t : Tables) → IsChecked t → (i : FnId) (r : FnRow) → function_of t i ≡ Some r → IsPlaced t (tree_of_sig r.sig)
unfolding lies_in_function
placed-function t ok i r e =
    placed-checked t ok r.params.items (tree_of_sig r.sig) (sig_through r.sig)
    (λ f. (both_fail (lies_in t r.params.items f (tree_of_sig r.sig)) (lies_in_const_refs t r.params.items f r.const_conditions.items) (function_fails t ok f i r e)).0)

pub placed-closure : (t : Tables) → IsChecked t → (i : ClosureId) (r : ClosureRow) → closure_of t i ≡ Some r → IsPlaced t (tree_of_sig r.sig)
unfolding lies_in_closure
placed-closure t ok i r e =
    placed-checked t ok r.params.items (tree_of_sig r.sig) (sig_through r.sig)
    (λ f. (three_fail (lies_in t r.params.items f (tree_of_sig r.sig)) (list_any (λ u. lies_in t r.params.items f (tree_of_ty u)) r.upvars.items)
    (lies_in_const_refs t r.params.items f r.const_conditions.items) (closure_fails t ok f i r e)).0)

-- the arguments of an impl's header
placed-args : (t : Tables) → IsChecked t → (ps : List ParamKind) (args : List GenericArg) → ((f : TermFault) → lies_in_args t ps f args ≡ false) →
    ArePlaced t (map erased (trees_of args))
unfolding Each
placed-args t ok ps [] each = tt
placed-args t ok ps (a ∷ args) each = (
  placed-erased_argument t (tree_of_arg a)
      (arg_sort a, placed-checked t ok ps (tree_of_arg a) (arg_through a) (λ f. (both_fail (lies_in t ps f (tree_of_arg a)) (lies_in_args t ps f args) (each f)).0)),
  placed-args t ok ps args (λ f. (both_fail (lies_in t ps f (tree_of_arg a)) (lies_in_args t ps f args) (each f)).1),
)

pub placed-header : (t : Tables) → IsChecked t → (r : ImplRow) → ((f : TermFault) → lies_in_impl t f r ≡ false) → ArePlaced t (header_of r)
unfolding lies_in_impl
placed-header t ok r each =
    placed-args t ok r.params.items r.trait_args.items
    (λ f. (both_fail (own_fault t f r.trait_id r.trait_args.items) (lies_in_args t r.params.items f r.trait_args.items)
    (four_fail (lies_in_trait_args t r.params.items f r.trait_id r.trait_args.items) (lies_in_clauses t r.params.items f r.predicates.items)
    (lies_in_const_refs t r.params.items f r.const_conditions.items) (r.is_const && const_fault t f r.trait_id)
    (both_fail (lies_in_trait_args t r.params.items f r.trait_id r.trait_args.items || lies_in_clauses t r.params.items f r.predicates.items || lies_in_const_refs t r.params.items f r.const_conditions.items || (r.is_const && const_fault t f r.trait_id))
    (if_unknown f (list_any (λ i. is_none (impl_of t i)) r.more_special.items)) (each f)).0).0).1)
