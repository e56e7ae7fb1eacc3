use Rattle.std.proofs.Common.{◌≡◌, ◌∙◌, map, Some, ap, subst}
use Rattle.std.specs.Prelude.{slice_get}
use Rattle.goal_tables.specs.Rows.{impls_of}
use Rattle.goal_tables.specs.Indexed.{AreImplLists}
use Rattle.goal_tables.proofs.lookup.IndexedTables.impls_of_trait.Goals as goal

pub returns : goal.returns
unfolding AreImplLists
returns c =
    subst (λ t. map (slice_get t.impls.items) c.list_of.result.now ≡ map Some (impls_of t c.args.id)) c.self.view_is
    (ap (map (slice_get _)) c.list_of.ensures ∙ c.self.invariant.holds.of_impls.by_trait c.args.id.0)
