-- Projections that the checks accept: their arguments are rejected only where two heads differ.
use Rattle.std.proofs.Common.{◌≡◌, ◌||◌, false, List, [], ◌∷◌, ◌++◌, length, Option, Some, None, is_none, refl, sym, ◌∙◌, ap, subst}
use Rattle.std.specs.Option.{option_map, option_and_then, unwrap_or}
use Rattle.goal_terms.specs.Tree.{alias, list_of, forest}
use Rattle.goal_terms.specs.TreeOf.{trees_of, tree_of_arg}
use Rattle.goal_terms.specs.declared.answers.ParamKind.{ParamKind}
use Rattle.goal_terms.specs.declared.ids.ItemId.{ItemId}
use Rattle.goal_terms.specs.declared.terms.AliasTermKind.{AliasTermKind}
use Rattle.goal_terms.specs.declared.terms.AliasTermKind.TheVariants.{ProjectionTy, ProjectionConst}
use Rattle.goal_terms.specs.declared.terms.GenericArg.{GenericArg}
use Rattle.goal_terms.specs.declared.heads.Node.TheVariants as nodes
use Rattle.goal_terms.proofs.TreeLemmas.{list_of-forest}
use Rattle.goal_tables.specs.Faults.{IsChecked}
use Rattle.goal_tables.specs.ParamKinds.{differs_in_count, asks_other_kinds}
use Rattle.goal_tables.specs.Rows.{item_of, trait_of}
use Rattle.goal_tables.specs.Sites.{projection_params, params_of, params_of_alias, alias_is_unknown, is_unknown, is_misplaced, lies_here, lies_in, lies_in_row}
use Rattle.goal_tables.specs.declared.rows.Tables.{Tables}
use Rattle.goal_tables.specs.declared.faults.TermFault.TheVariants.{UnknownItem, WrongArgumentCount, WrongArgumentKind}
use Rattle.goal_lists.specs.FastReject.{lists_may_unify, heads_agree}
use Rattle.goal_lists.specs.KindedTerms.{kinds_of_terms, kinds_over, IsKinded, NoKindFault}
use Rattle.goal_lists.specs.Projections.{projected_item}
use Rattle.goal_lists.specs.Words.{Each}
use Rattle.goal_lists.specs.declared.fast_reject.Parameters.{Parameters}
use Rattle.goal_lists.proofs.AcceptedLemmas.{traits_of_items}
use Rattle.goal_lists.proofs.KindedLemmas.{lists-kinded}
use Rattle.goal_lists.proofs.PublicTermLemmas.{arg_through}
use Rattle.goal_lists.proofs.TableKindLemmas.{both_fail, kinds_by_row, known_map, HasTraitsOfItems, accepted_kinded}

-- accepted arguments in a row are of the kinds that the tables say
row_args-kinded : (t : Tables) (ps : List ParamKind) → HasTraitsOfItems t → (args : List GenericArg) →
    lies_in_row t ps UnknownItem (forest (trees_of args)) ≡ false → lies_in_row t ps WrongArgumentCount (forest (trees_of args)) ≡ false →
    lies_in_row t ps WrongArgumentKind (forest (trees_of args)) ≡ false → Each (IsKinded (kinds_over t)) (trees_of args)
unfolding Each lies_in_row
row_args-kinded t ps traits [] a b c = tt
row_args-kinded t ps traits (x ∷ xs) a b c =
    let rest = forest (trees_of xs) in
    let u : (lies_in t ps UnknownItem (tree_of_arg x) ≡ false) × (lies_in_row t ps UnknownItem rest ≡ false) =
    both_fail (lies_in t ps UnknownItem (tree_of_arg x)) (lies_in_row t ps UnknownItem rest) a in
    let v : (lies_in t ps WrongArgumentCount (tree_of_arg x) ≡ false) × (lies_in_row t ps WrongArgumentCount rest ≡ false) =
    both_fail (lies_in t ps WrongArgumentCount (tree_of_arg x)) (lies_in_row t ps WrongArgumentCount rest) b in
    let w : (lies_in t ps WrongArgumentKind (tree_of_arg x) ≡ false) × (lies_in_row t ps WrongArgumentKind rest ≡ false) =
    both_fail (lies_in t ps WrongArgumentKind (tree_of_arg x)) (lies_in_row t ps WrongArgumentKind rest) c in
    (accepted_kinded t ps traits (tree_of_arg x) (arg_through x) (u.0, v.0, w.0), row_args-kinded t ps traits xs u.1 v.1 w.1)

-- what a row that is there leads to is there
known_then : {A B : Type 0} (f : A → Option B) (o : Option A) → ((x : A) → o ≡ Some x → is_none (f x) ≡ false) → is_none o ≡ false → is_none (option_and_then f o) ≡ false
known_then f None g e = e
known_then f (Some x) g e = g x refl

known_projection : (t : Tables) (i : ItemId) → HasTraitsOfItems t → is_none (item_of t i) ≡ false → is_none (projection_params t i) ≡ false
known_projection t i traits e =
    known_then (λ q. option_map (λ w. w.params.items ++ q.own_params.items) (trait_of t q.trait_id)) (item_of t i)
    (λ q s. known_map (λ w. w.params.items ++ q.own_params.items) (trait_of t q.trait_id) (traits i q s)) e

-- the parameters of a projection of an item, and whether it is known
projection-params : (t : Tables) (k : AliasTermKind) (i : ItemId) → projected_item k ≡ Some i → params_of_alias t k ≡ projection_params t i
unfolding params_of_alias
projection-params t (ProjectionTy j) i e = let same : j ≡ i = cc in ap (projection_params t) same
projection-params t (ProjectionConst j) i e = let same : j ≡ i = cc in ap (projection_params t) same
projection-params t k i e = absurd (cc)

projection-unknown : (t : Tables) (k : AliasTermKind) (i : ItemId) → projected_item k ≡ Some i → alias_is_unknown t k ≡ is_none (item_of t i)
unfolding alias_is_unknown
projection-unknown t (ProjectionTy j) i e = let same : j ≡ i = cc in ap (λ x. is_none (item_of t x)) same
projection-unknown t (ProjectionConst j) i e = let same : j ≡ i = cc in ap (λ x. is_none (item_of t x)) same
projection-unknown t k i e = absurd (cc)

-- an accepted projection: its arguments are of the kinds of its item's parameters, and of those that the tables say
pub accepted_projection : (t : Tables) (ps : List ParamKind) (k : AliasTermKind) (i : ItemId) (args : List GenericArg) → projected_item k ≡ Some i → HasTraitsOfItems t →
    NoKindFault t ps (alias k (forest (trees_of args))) →
    (kinds_of_terms (trees_of args) ≡ unwrap_or (projection_params t i) []) × Each (IsKinded (kinds_over t)) (trees_of args)
unfolding lies_in lies_here params_of is_unknown
accepted_projection t ps k i args e traits ok =
    let row = forest (trees_of args) in
    let known : (alias_is_unknown t k ≡ false) × (lies_in_row t ps UnknownItem row ≡ false) = both_fail (alias_is_unknown t k) (lies_in_row t ps UnknownItem row) ok.0 in
    let count : (differs_in_count (params_of_alias t k) (length (list_of row)) ≡ false) × (lies_in_row t ps WrongArgumentCount row ≡ false) =
    both_fail (differs_in_count (params_of_alias t k) (length (list_of row))) (lies_in_row t ps WrongArgumentCount row) ok.1 in
    let kinds : (asks_other_kinds (params_of_alias t k) (kinds_of_terms (list_of row)) || is_misplaced t (nodes.Alias k) ≡ false) × (lies_in_row t ps WrongArgumentKind row ≡ false) =
    both_fail (asks_other_kinds (params_of_alias t k) (kinds_of_terms (list_of row)) || is_misplaced t (nodes.Alias k)) (lies_in_row t ps WrongArgumentKind row) ok.2 in
    let here : (asks_other_kinds (params_of_alias t k) (kinds_of_terms (list_of row)) ≡ false) × (is_misplaced t (nodes.Alias k) ≡ false) =
    both_fail (asks_other_kinds (params_of_alias t k) (kinds_of_terms (list_of row))) (is_misplaced t (nodes.Alias k)) kinds.0 in
    let same : list_of row ≡ trees_of args = list_of-forest (trees_of args) in
    let its : params_of_alias t k ≡ projection_params t i = projection-params t k i e in (
      kinds_by_row (projection_params t i) (trees_of args) (known_projection t i traits (sym (projection-unknown t k i e) ∙ known.0))
          (subst (λ o. differs_in_count o (length (trees_of args)) ≡ false) its (subst (λ xs. differs_in_count (params_of_alias t k) (length xs) ≡ false) same count.0))
          (subst (λ o. asks_other_kinds o (kinds_of_terms (trees_of args)) ≡ false) its (subst (λ xs. asks_other_kinds (params_of_alias t k) (kinds_of_terms xs) ≡ false) same here.0)),
      row_args-kinded t ps traits args known.1 count.1 kinds.1,
    )

-- accepted projections of one item are rejected only where two heads differ
pub accepted_projection-heads : (t : Tables) (i : ItemId) (k j : AliasTermKind) (ps qs : List ParamKind) (p : Parameters) (left right : List GenericArg) →
    projected_item k ≡ Some i → projected_item j ≡ Some i → IsChecked t → NoKindFault t ps (alias k (forest (trees_of left))) →
    NoKindFault t qs (alias j (forest (trees_of right))) → lists_may_unify p (trees_of left) (trees_of right) ≡ heads_agree p (trees_of left) (trees_of right)
accepted_projection-heads t i k j ps qs p left right d e ok x y =
    let first = accepted_projection t ps k i left d (traits_of_items t ok) x in
    let second = accepted_projection t qs j i right e (traits_of_items t ok) y in
    lists-kinded (kinds_over t) p (trees_of left) (trees_of right) first.1 second.1 (first.0 ∙ sym second.0)
