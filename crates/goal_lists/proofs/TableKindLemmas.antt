-- Accepted terms have parts of the kinds that their constructors take over tables.
use Rattle.std.proofs.Common.{◌≡◌, ℕ, ◌+◌, Bool, true, false, ◌==◌, ◌||◌, not, List, [], ◌∷◌, ◌++◌, length, drop, replicate, Option, Some, None, refl, sym, ap, ◌∙◌, arith}
use Rattle.std.specs.Prelude.{is_none, unwrap_or, if◌then◌else◌}
use Rattle.std.specs.List.{All}
use Rattle.std.specs.Option.{option_map, option_and_then}
use Rattle.std.proofs.lemmas.Bool.{false≢true, eqb-true}
use Rattle.std.proofs.lemmas.List.{length-map}
use Rattle.std.proofs.lemmas.List.Elements.{All-tail}
use Rattle.goal_terms.specs.Erased.{erased_head}
use Rattle.goal_terms.specs.Kinds.{same_kind, kind_of, kind_of_head}
use Rattle.goal_terms.specs.Sorts.{sort_of, sort_of_head, IsSort, Are, HeadFits}
use Rattle.goal_terms.specs.Tree.{Tree, Trees, node, alias, variable, none, more, list_of, node_of}
use Rattle.goal_terms.specs.TreeOf.{is_type_kind}
use Rattle.goal_terms.specs.declared.answers.ParamKind.{ParamKind}
use Rattle.goal_terms.specs.declared.answers.ParamKind.TheVariants as kind
use Rattle.goal_terms.specs.declared.heads.Head.{Head}
use Rattle.goal_terms.specs.declared.heads.Head.TheVariants as head
use Rattle.goal_terms.specs.declared.heads.Node.{Node}
use Rattle.goal_terms.specs.declared.heads.Node.TheVariants as nodes
use Rattle.goal_terms.specs.declared.heads.Variable.TheVariants as variables
use Rattle.goal_terms.specs.declared.ids.ItemId.{ItemId}
use Rattle.goal_terms.specs.declared.sorts.Sort.TheVariants as sorts
use Rattle.goal_tables.specs.ParamKinds.{differs_in_count, differs_in_kind, asks_other_kinds}
use Rattle.goal_tables.specs.Rows.{trait_of, item_of, adt_of, function_of, closure_of}
use Rattle.goal_tables.specs.Sites.{kind_of_value, params_of, is_unknown, is_misplaced, clause_params, projection_params, adt_params, function_params, closure_params, trait_clause_params, lies_here, lies_in, lies_in_row}
use Rattle.goal_tables.specs.declared.rows.ItemRow.{ItemRow}
use Rattle.goal_tables.specs.declared.rows.Tables.{Tables}
use Rattle.goal_tables.specs.declared.faults.TermFault.TheVariants.{UnknownItem, WrongArgumentCount, WrongArgumentKind}
use Rattle.goal_lists.specs.KindedTerms.{kinds_of_terms, IsKinded, RowIsKinded, kinds_over, FitsThroughout, RowFitsThroughout, NoKindFault}
use Rattle.goal_lists.proofs.KindOfTermLemmas.{kind_of_term, same_kind-true}

-- two tests that both fail
pub both_fail : (a b : Bool) → a || b ≡ false → (a ≡ false) × (b ≡ false)
both_fail true b e = absurd (false≢true (sym e))
both_fail false b e = (refl, e)

-- a test whose contrary fails passes
pub not_false : (a : Bool) → not a ≡ false → a ≡ true
not_false true e = refl
not_false false e = absurd (false≢true (sym e))

-- what is a type or a constant by its sort is so by its kind
either_type : (b : Bool) → (if b then sorts.Ty else sorts.Const) ≡ sorts.Ty → (if b then kind.Ty else kind.Const) ≡ kind.Ty
either_type true e = refl
either_type false e = absurd (cc)

other_type : (b : Bool) → (if b then sorts.Const else sorts.Ty) ≡ sorts.Ty → (if b then kind.Const else kind.Ty) ≡ kind.Ty
other_type true e = absurd (cc)
other_type false e = refl

either_const : (b : Bool) → (if b then sorts.Ty else sorts.Const) ≡ sorts.Const → (if b then kind.Ty else kind.Const) ≡ kind.Const
either_const true e = absurd (cc)
either_const false e = refl

other_const : (b : Bool) → (if b then sorts.Const else sorts.Ty) ≡ sorts.Const → (if b then kind.Const else kind.Ty) ≡ kind.Const
other_const true e = refl
other_const false e = absurd (cc)

no_clause : (b : Bool) → (if b then sorts.Ty else sorts.Const) ≡ sorts.Clause → ⊥
no_clause true e = absurd (cc)
no_clause false e = absurd (cc)

no_other_clause : (b : Bool) → (if b then sorts.Const else sorts.Ty) ≡ sorts.Clause → ⊥
no_other_clause true e = absurd (cc)
no_other_clause false e = absurd (cc)

kind_of_head-type : (h : Head) → sort_of_head h ≡ sorts.Ty → kind_of_head h ≡ kind.Ty
unfolding kind_of_head
kind_of_head-type (head.Value n) e = absurd (cc)
kind_of_head-type (head.ConstParam n) e = absurd (cc)
kind_of_head-type (head.ConstPlaceholder n) e = absurd (cc)
kind_of_head-type (head.ConstError n) e = absurd (cc)
kind_of_head-type (head.Lifetime r) e = absurd (cc)
kind_of_head-type (head.Misplaced k) e = other_type (is_type_kind k) e
kind_of_head-type h e = refl

kind_of-type : (n : Node) → sort_of n ≡ sorts.Ty → kind_of n ≡ kind.Ty
unfolding kind_of
kind_of-type (nodes.Head h) e = kind_of_head-type h e
kind_of-type (nodes.Alias k) e = either_type (is_type_kind k) e
kind_of-type (nodes.Variable (variables.Ty v)) e = refl
kind_of-type (nodes.Variable (variables.Const n)) e = absurd (cc)

kind_of_head-const : (h : Head) → sort_of_head h ≡ sorts.Const → kind_of_head h ≡ kind.Const
unfolding kind_of_head
kind_of_head-const (head.Value n) e = refl
kind_of_head-const (head.ConstParam n) e = refl
kind_of_head-const (head.ConstPlaceholder n) e = refl
kind_of_head-const (head.ConstError n) e = refl
kind_of_head-const (head.Misplaced k) e = other_const (is_type_kind k) e
kind_of_head-const h e = absurd (cc)

kind_of-const : (n : Node) → sort_of n ≡ sorts.Const → kind_of n ≡ kind.Const
unfolding kind_of
kind_of-const (nodes.Head h) e = kind_of_head-const h e
kind_of-const (nodes.Alias k) e = either_const (is_type_kind k) e
kind_of-const (nodes.Variable (variables.Ty v)) e = absurd (cc)
kind_of-const (nodes.Variable (variables.Const n)) e = refl

kind_of_head-clause : (h : Head) → sort_of_head h ≡ sorts.Clause → kind_of_head h ≡ kind.Ty
unfolding kind_of_head
kind_of_head-clause (head.DynTrait i n) e = refl
kind_of_head-clause (head.DynProjection i n) e = refl
kind_of_head-clause (head.Misplaced k) e = absurd (no_other_clause (is_type_kind k) e)
kind_of_head-clause h e = absurd (cc)

-- a clause of a `dyn` type counts as a type
kind_of-clause : (n : Node) → sort_of n ≡ sorts.Clause → kind_of n ≡ kind.Ty
unfolding kind_of
kind_of-clause (nodes.Head h) e = kind_of_head-clause h e
kind_of-clause (nodes.Alias k) e = absurd (no_clause (is_type_kind k) e)
kind_of-clause (nodes.Variable (variables.Ty v)) e = absurd (cc)
kind_of-clause (nodes.Variable (variables.Const n)) e = absurd (cc)

-- terms that are all of one kind
kinds_all : (P : Tree → Type 0) (k : ParamKind) → ((t : Tree) → P t → kind_of_term t ≡ k) → (ts : List Tree) → All P ts →
    kinds_of_terms ts ≡ replicate (length ts) k
kinds_all P k each [] x = refl
kinds_all P k each (t ∷ ts) x =
    ap (λ j. j ∷ kinds_of_terms ts) (each t (x 0 t (omega arith))) ∙ ap (λ ks. k ∷ ks) (kinds_all P k each ts (All-tail P t ts x))

kinds_alike : (P : Tree → Type 0) (k : ParamKind) → ((t : Tree) → P t → kind_of_term t ≡ k) → (ts : List Tree) (n : ℕ) → Are P n ts →
    kinds_of_terms ts ≡ replicate n k
kinds_alike P k each ts n x = kinds_all P k each ts x.1 ∙ ap (λ m. replicate m k) x.0

types_alike : (ts : List Tree) (n : ℕ) → Are (IsSort sorts.Ty) n ts → kinds_of_terms ts ≡ replicate n kind.Ty
types_alike ts n x = kinds_alike (IsSort sorts.Ty) kind.Ty (λ t e. kind_of-type (node_of t) e) ts n x

clauses_alike : (ts : List Tree) (n : ℕ) → Are (IsSort sorts.Clause) n ts → kinds_of_terms ts ≡ replicate n kind.Ty
clauses_alike ts n x = kinds_alike (IsSort sorts.Clause) kind.Ty (λ t e. kind_of-clause (node_of t) e) ts n x

-- the kinds of the parts of an array
kinds_of_array : (ts : List Tree) → HeadFits head.Array ts → kinds_of_terms ts ≡ kind.Ty ∷ kind.Const ∷ []
kinds_of_array [] x = absurd (omega (arith, x.0))
kinds_of_array (t ∷ []) x = absurd (omega (arith, x.0))
kinds_of_array (t ∷ u ∷ []) x =
    ap (λ k. k ∷ kind_of_term u ∷ []) (kind_of-type (node_of t) x.1) ∙ ap (λ k. kind.Ty ∷ k ∷ []) (kind_of-const (node_of u) x.2)
kinds_of_array (t ∷ u ∷ w ∷ ts) x = absurd (omega (arith, x.0))

-- lists of kinds of one length that differ nowhere
same_kinds : (ps ks : List ParamKind) → length ps ≡ length ks → differs_in_kind ps ks ≡ false → ks ≡ ps
same_kinds [] [] e f = refl
same_kinds [] (k ∷ ks) e f = absurd (omega (arith, e))
same_kinds (p ∷ ps) [] e f = absurd (omega (arith, e))
same_kinds (p ∷ ps) (k ∷ ks) e f =
    let each : (not (same_kind p k) ≡ false) × (differs_in_kind ps ks ≡ false) = both_fail (not (same_kind p k)) (differs_in_kind ps ks) f in
    ap (λ j. j ∷ ks) (sym (same_kind-true p k (not_false (same_kind p k) each.0))) ∙ ap (λ js. p ∷ js) (same_kinds ps ks (omega (arith, e)) each.1)

-- terms of which a row finds neither the number nor the kinds wrong
pub kinds_by_row : (o : Option (List ParamKind)) (ts : List Tree) → is_none o ≡ false → differs_in_count o (length ts) ≡ false →
    asks_other_kinds o (kinds_of_terms ts) ≡ false → kinds_of_terms ts ≡ unwrap_or o []
kinds_by_row None ts known count kinds = absurd (false≢true (sym known))
kinds_by_row (Some ps) ts known count kinds =
    let same : length ps ≡ length ts = eqb-true (length ps) (length ts) (not_false (length ps == length ts) count) in
    same_kinds ps (kinds_of_terms ts) (same ∙ sym (length-map ts kind_of_term)) kinds

-- a row that is there has what is read from it
pub known_map : {A B : Type 0} (f : A → B) (o : Option A) → is_none o ≡ false → is_none (option_map f o) ≡ false
known_map f None e = e
known_map f (Some x) e = refl

-- each item's trait has a row
abbrev pub HasTraitsOfItems : Tables → Type 0
HasTraitsOfItems t = (i : ItemId) (r : ItemRow) → item_of t i ≡ Some r → is_none (trait_of t r.trait_id) ≡ false

-- so a clause that names an item has parameters
known_then : {A B : Type 0} (f : A → Option B) (o : Option A) → ((x : A) → o ≡ Some x → is_none (f x) ≡ false) → is_none o ≡ false → is_none (option_and_then f o) ≡ false
known_then f None g e = e
known_then f (Some x) g e = g x refl

pub known_clause : (t : Tables) (i : ItemId) → HasTraitsOfItems t → is_none (item_of t i) ≡ false → is_none (clause_params t i) ≡ false
known_clause t i traits e =
    known_then (λ r. option_map (λ ps. drop 1 ps ++ kind_of_value r.is_const ∷ []) (projection_params t i)) (item_of t i)
    (λ r p. known_map (λ ps. drop 1 ps ++ kind_of_value r.is_const ∷ []) (projection_params t i)
    (known_then (λ q. option_map (λ w. w.params.items ++ q.own_params.items) (trait_of t q.trait_id)) (item_of t i)
    (λ q s. known_map (λ w. w.params.items ++ q.own_params.items) (trait_of t q.trait_id) (traits i q s)) e)) e

-- the parts of an accepted constructor are of the kinds that it takes
kinds_of_parts : (t : Tables) → HasTraitsOfItems t → (h : Head) (ts : List Tree) → HeadFits h ts → is_unknown t (nodes.Head h) ≡ false →
    differs_in_count (params_of t (nodes.Head h)) (length ts) ≡ false → asks_other_kinds (params_of t (nodes.Head h)) (kinds_of_terms ts) ≡ false →
    is_misplaced t (nodes.Head h) ≡ false → kinds_of_terms ts ≡ kinds_over t (erased_head h)
unfolding kinds_over params_of is_unknown is_misplaced
kinds_of_parts t traits (head.Adt i n) ts fit known count kinds placed = kinds_by_row (adt_params t i) ts (known_map (λ r. r.params.items) (adt_of t i) known) count kinds
kinds_of_parts t traits (head.FnDef i n) ts fit known count kinds placed = kinds_by_row (function_params t i) ts (known_map (λ r. r.params.items) (function_of t i) known) count kinds
kinds_of_parts t traits (head.Closure i n) ts fit known count kinds placed = kinds_by_row (closure_params t i) ts (known_map (λ r. r.params.items) (closure_of t i) known) count kinds
kinds_of_parts t traits (head.DynTrait i n) ts fit known count kinds placed = kinds_by_row (trait_clause_params t i) ts (known_map (λ r. drop 1 r.params.items) (trait_of t i) known) count kinds
kinds_of_parts t traits (head.DynProjection i n) ts fit known count kinds placed = kinds_by_row (clause_params t i) ts (known_clause t i traits known) count kinds
kinds_of_parts t traits head.Array ts fit known count kinds placed = kinds_of_array ts fit
kinds_of_parts t traits head.Slice ts fit known count kinds placed = types_alike ts 1 fit
kinds_of_parts t traits (head.RawPtr m) ts fit known count kinds placed = types_alike ts 1 fit
kinds_of_parts t traits (head.Ref r m) ts fit known count kinds placed = types_alike ts 1 fit
kinds_of_parts t traits (head.FnPtr bound inputs fn_traits) ts fit known count kinds placed = types_alike ts (inputs + 1) fit
kinds_of_parts t traits (head.Dynamic n r) ts fit known count kinds placed = clauses_alike ts n fit
kinds_of_parts t traits (head.Tuple n) ts fit known count kinds placed = types_alike ts n fit
kinds_of_parts t traits (head.Misplaced k) ts fit known count kinds placed = absurd (false≢true (sym placed))
kinds_of_parts t traits h ts fit known count kinds placed = ap kinds_of_terms fit

mutual
  unfolding IsKinded FitsThroughout lies_in lies_here

  -- an accepted term is of the kinds that the tables say
  pub accepted_kinded : (t : Tables) (ps : List ParamKind) → HasTraitsOfItems t → (u : Tree) → FitsThroughout u → NoKindFault t ps u → IsKinded (kinds_over t) u
  accepted_kinded t ps traits (node h ts) fit ok =
      let known : (is_unknown t (nodes.Head h) ≡ false) × (lies_in_row t ps UnknownItem ts ≡ false) = both_fail (is_unknown t (nodes.Head h)) (lies_in_row t ps UnknownItem ts) ok.0 in
      let count : (differs_in_count (params_of t (nodes.Head h)) (length (list_of ts)) ≡ false) × (lies_in_row t ps WrongArgumentCount ts ≡ false) =
      both_fail (differs_in_count (params_of t (nodes.Head h)) (length (list_of ts))) (lies_in_row t ps WrongArgumentCount ts) ok.1 in
      let kinds : (asks_other_kinds (params_of t (nodes.Head h)) (kinds_of_terms (list_of ts)) || is_misplaced t (nodes.Head h) ≡ false) × (lies_in_row t ps WrongArgumentKind ts ≡ false) =
      both_fail (asks_other_kinds (params_of t (nodes.Head h)) (kinds_of_terms (list_of ts)) || is_misplaced t (nodes.Head h)) (lies_in_row t ps WrongArgumentKind ts) ok.2 in
      let here : (asks_other_kinds (params_of t (nodes.Head h)) (kinds_of_terms (list_of ts)) ≡ false) × (is_misplaced t (nodes.Head h) ≡ false) =
      both_fail (asks_other_kinds (params_of t (nodes.Head h)) (kinds_of_terms (list_of ts))) (is_misplaced t (nodes.Head h)) kinds.0 in
      (kinds_of_parts t traits h (list_of ts) fit.0 known.0 count.0 here.0 here.1, row_accepted_kinded t ps traits ts fit.1 known.1 count.1 kinds.1)
  accepted_kinded t ps traits (alias k ts) fit ok = tt
  accepted_kinded t ps traits (variable v) fit ok = tt

  row_accepted_kinded : (t : Tables) (ps : List ParamKind) → HasTraitsOfItems t → (us : Trees) → RowFitsThroughout us →
      lies_in_row t ps UnknownItem us ≡ false → lies_in_row t ps WrongArgumentCount us ≡ false → lies_in_row t ps WrongArgumentKind us ≡ false →
      RowIsKinded (kinds_over t) us
  row_accepted_kinded t ps traits none fit a b c = tt
  row_accepted_kinded t ps traits (more u us) fit a b c =
      let x : (lies_in t ps UnknownItem u ≡ false) × (lies_in_row t ps UnknownItem us ≡ false) = both_fail (lies_in t ps UnknownItem u) (lies_in_row t ps UnknownItem us) a in
      let y : (lies_in t ps WrongArgumentCount u ≡ false) × (lies_in_row t ps WrongArgumentCount us ≡ false) = both_fail (lies_in t ps WrongArgumentCount u) (lies_in_row t ps WrongArgumentCount us) b in
      let z : (lies_in t ps WrongArgumentKind u ≡ false) × (lies_in_row t ps WrongArgumentKind us ≡ false) = both_fail (lies_in t ps WrongArgumentKind u) (lies_in_row t ps WrongArgumentKind us) c in
      (accepted_kinded t ps traits u fit.0 (x.0, y.0, z.0), row_accepted_kinded t ps traits us fit.1 x.1 y.1 z.1)
