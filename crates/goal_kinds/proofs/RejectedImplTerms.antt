-- An impl whose header is rejected for an accepted projection gives no term.
use Rattle.std.proofs.Common.{◌≡◌, ◌==◌, ℕ, zero, suc, false, List, [], ◌∷◌, ◌++◌, length, map, take, Some, inl, inr, refl, sym, ◌∙◌, ap, subst}
use Rattle.std.proofs.lemmas.List.{take-map}
use Rattle.std.specs.Option.{option_map, option_and_then, unwrap_or}
use Rattle.goal_terms.specs.Erased.{erased}
use Rattle.goal_terms.specs.Kinds.{kind_of}
use Rattle.goal_terms.specs.Tree.{alias, forest, node_of}
use Rattle.goal_terms.specs.TreeOf.{trees_of, tree_of_arg}
use Rattle.goal_terms.specs.declared.ids.ImplId.{ImplId}
use Rattle.goal_terms.specs.declared.ids.ItemId.{ItemId}
use Rattle.goal_terms.specs.declared.terms.AliasTerm.{AliasTerm}
use Rattle.goal_tables.specs.Faults.{IsChecked}
use Rattle.goal_tables.specs.Rows.{impl_of, item_of, trait_of}
use Rattle.goal_tables.specs.Sites.{trait_params, projection_params}
use Rattle.goal_tables.specs.declared.rows.ImplRow.{ImplRow}
use Rattle.goal_tables.specs.declared.rows.ItemRow.{ItemRow}
use Rattle.goal_tables.specs.declared.rows.TraitRow.{TraitRow}
use Rattle.goal_tables.specs.declared.rows.Tables.{Tables}
use Rattle.goal_lists.specs.FastReject.{lists_may_unify}
use Rattle.goal_lists.specs.Headers.{Clashes, Known}
use Rattle.goal_lists.specs.ImplTerms.{Projection, trait_args, ImplTermRefuted}
use Rattle.goal_lists.specs.KindedTerms.{kinds_of_terms, kinds_over, IsKinded, NoKindFault}
use Rattle.goal_lists.specs.Laws.{IsAmong}
use Rattle.goal_lists.specs.Level.{nothing}
use Rattle.goal_lists.specs.Levels.{level}
use Rattle.goal_lists.specs.Projections.{projected_item, asked}
use Rattle.goal_kinds.specs.RuleWords.{projection_in}
use Rattle.goal_lists.specs.RowWords.{given}
use Rattle.goal_lists.specs.Settings.{Setting}
use Rattle.goal_lists.specs.TraitGoals.{ImplRefuted, header_of}
use Rattle.goal_lists.specs.Words.{Each}
use Rattle.goal_lists.specs.declared.fast_reject.Parameters.TheVariants.{Inferred}
use Rattle.goal_kinds.proofs.AcceptedAliases.{accepted_projection}
use Rattle.goal_lists.proofs.AcceptedLemmas.{traits_of_items, kinds_of_accepted, ref_kinded, header_accepted}
use Rattle.goal_lists.proofs.EntryLemmas.{given-take}
use Rattle.goal_lists.proofs.KindedLemmas.{lists-kinded}
use Rattle.goal_lists.proofs.OtherHeadLemmas.{lists_clash}
use Rattle.goal_kinds.proofs.ProjectionKindLaws.{then-found, map-found}
use Rattle.goal_kinds.proofs.TraitCandidateLaws.{found-among}

-- the first of a list
each-take : {A : Type 0} (P : A → Type 0) (n : ℕ) (xs : List A) → Each P xs → Each P (take n xs)
unfolding Each
each-take P zero [] h = tt
each-take P zero (x ∷ xs) h = tt
each-take P (suc n) [] h = tt
each-take P (suc n) (x ∷ xs) h = (h.0, each-take P n xs h.1)

take-front : {A : Type 0} (xs ys : List A) → take (length xs) (xs ++ ys) ≡ xs
take-front [] [] = refl
take-front [] (y ∷ ys) = refl
take-front (x ∷ xs) ys = ap (λ zs. x ∷ zs) (take-front xs ys)

-- the rows of a projection that is asked
pub rows-of : (t : Tables) (a : AliasTerm) (p : Projection) → projection_in t a ≡ Some p →
    (i : ItemId) × (w : TraitRow) × (projected_item a.kind ≡ Some i) × (item_of t i ≡ Some p.item) × (trait_of t p.item.trait_id ≡ Some w)
    × (p.trait_params ≡ length w.params.items) × (p.args ≡ given a.args)
rows-of t a p e =
    let x = then-found (λ i. option_and_then (λ q. option_map (λ r. asked q r (given a.args)) (trait_of t q.trait_id)) (item_of t i)) (projected_item a.kind) p e in
    let y = then-found (λ q. option_map (λ r. asked q r (given a.args)) (trait_of t q.trait_id)) (item_of t x.0) p x.2 in
    let z = map-found (λ r. asked y.0 r (given a.args)) (trait_of t y.0.trait_id) p y.2 in
    (x.0, z.0, x.1, y.1 ∙ ap (λ v. Some v.item) z.2, ap (λ v. trait_of t v.item.trait_id) (sym z.2) ∙ z.1, sym (ap (λ v. v.trait_params) z.2), sym (ap (λ v. v.args) z.2))

-- the kinds of a projection's arguments begin with those of the trait's parameters
kinds-front : (t : Tables) (i : ItemId) (q : ItemRow) (w : TraitRow) → item_of t i ≡ Some q → trait_of t q.trait_id ≡ Some w →
    unwrap_or (projection_params t i) [] ≡ w.params.items ++ q.own_params.items
kinds-front t i q w found its =
    ap (λ o. unwrap_or (option_and_then (λ r. option_map (λ v. v.params.items ++ r.own_params.items) (trait_of t r.trait_id)) o) []) found
    ∙ ap (λ o. unwrap_or (option_map (λ v. v.params.items ++ q.own_params.items) o) []) its

-- the header of an impl that is rejected clashes with the trait's arguments of an accepted projection
rejected-header : (S : Setting) (a : AliasTerm) (p : Projection) (r : ImplRow) (i : ItemId) (w : TraitRow) → IsChecked S.tables →
    NoKindFault S.tables [] (alias a.kind (forest (trees_of a.args.items))) → IsAmong r S.tables.impls.items → r.trait_id ≡ p.item.trait_id →
    projected_item a.kind ≡ Some i → item_of S.tables i ≡ Some p.item → trait_of S.tables p.item.trait_id ≡ Some w →
    lists_may_unify Inferred (trees_of (take (length w.params.items) a.args.items)) (trees_of r.trait_args.items) ≡ false →
    Clashes (level S 0) r.params.items (header_of r) (map erased (trees_of (take (length w.params.items) a.args.items)))
unfolding level Clashes
rejected-header S a p r i w ok x among same d found its rejected =
    let n = length w.params.items in
    let mine = accepted_projection S.tables [] a.kind i a.args.items d (traits_of_items S.tables ok) x in
    let header = header_accepted S.tables r ok among in
    let front : trees_of (take n a.args.items) ≡ take n (trees_of a.args.items) = sym (take-map tree_of_arg n a.args.items) in
    let kinds : kinds_of_terms (trees_of (take n a.args.items)) ≡ w.params.items =
    ap kinds_of_terms front ∙ sym (take-map (λ u. kind_of (node_of u)) n (trees_of a.args.items))
    ∙ ap (take n) (mine.0 ∙ kinds-front S.tables i p.item w found its) ∙ take-front w.params.items p.item.own_params.items in
    let theirs : kinds_of_terms (trees_of r.trait_args.items) ≡ w.params.items =
    kinds_of_accepted S.tables r.params.items r.trait_id r.trait_args.items header
    ∙ ap (λ j. unwrap_or (trait_params S.tables j) []) same ∙ ap (λ o. unwrap_or (option_map (λ v. v.params.items) o) []) its in
    let kinded : Each (IsKinded (kinds_over S.tables)) (trees_of (take n a.args.items)) =
    subst (Each (IsKinded (kinds_over S.tables))) (sym front) (each-take (IsKinded (kinds_over S.tables)) n (trees_of a.args.items) mine.1) in
    lists_clash nothing (Known (level S 0) r.params.items (header_of r) (map erased (trees_of (take n a.args.items)))) (trees_of (take n a.args.items)) (trees_of r.trait_args.items)
    (sym (lists-kinded (kinds_over S.tables) Inferred (trees_of (take n a.args.items)) (trees_of r.trait_args.items) kinded
    (ref_kinded S.tables r.params.items (traits_of_items S.tables ok) r.trait_id r.trait_args.items header) (kinds ∙ sym theirs)) ∙ rejected)

-- so the impl gives no term, with no height
pub rejected-impl_term : (S : Setting) (a : AliasTerm) (p : Projection) (j : ImplId) (r : ImplRow) → IsChecked S.tables →
    NoKindFault S.tables [] (alias a.kind (forest (trees_of a.args.items))) → projection_in S.tables a ≡ Some p → impl_of S.tables j ≡ Some r → r.trait_id ≡ p.item.trait_id →
    lists_may_unify Inferred (trees_of (take p.trait_params a.args.items)) (trees_of r.trait_args.items) ≡ false → ImplTermRefuted S (level S 0) p r
unfolding ImplTermRefuted ImplRefuted
rejected-impl_term S a p j r ok x asked_for found same rejected =
    let rows = rows-of S.tables a p asked_for in
    let n = length rows.1.params.items in
    let clash : Clashes (level S 0) r.params.items (header_of r) (map erased (trees_of (take n a.args.items))) =
    rejected-header S a p r rows.0 rows.1 ok x (found-among (λ q. q.id.0 == j.0) S.tables.impls.items r found) same rows.2 rows.3 rows.4
    (subst (λ k. lists_may_unify Inferred (trees_of (take k a.args.items)) (trees_of r.trait_args.items) ≡ false) rows.5 rejected) in
    let args : map erased (trees_of (take n a.args.items)) ≡ trait_args p =
    given-take n a.args ∙ ap (take n) (sym rows.6) ∙ ap (λ k. take k p.args) (sym rows.5) in
    inl (inr (inl (subst (λ gs. Clashes (level S 0) r.params.items (header_of r) gs) args clash)))
