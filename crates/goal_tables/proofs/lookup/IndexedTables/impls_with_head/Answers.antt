use Rattle.std.proofs.Common.{◌≡◌, ◌∙◌, map, Some, ap, subst}
use Rattle.std.specs.Prelude.{slice_get, IfOk}
use Rattle.std.proofs.lemmas.Result.{IfOk-weaker}
use Rattle.goal_tables.specs.ImplsByHead.{impls_with_head}
use Rattle.goal_tables.proofs.PlacesLemmas.{places_of-elements}
use Rattle.goal_tables.proofs.lookup.IndexedTables.impls_with_head.Goals as goal

pub returns : goal.returns
returns c =
    subst (λ t. IfOk c.places_with_head.result (λ places. map (slice_get t.impls.items) places.items ≡ map Some (impls_with_head t c.args.id c.args.head))) c.self.view_is
    (IfOk-weaker c.places_with_head.result _ _ (λ places e. ap (map (slice_get _)) e ∙ places_of-elements _ _) (c.places_with_head.ensures _ c.self.invariant.holds.of_impls.by_head))
