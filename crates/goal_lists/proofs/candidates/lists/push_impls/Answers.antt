use Rattle.std.proofs.Common.{◌≡◌, ◌++◌, ◌∙◌, map, ap, sym, subst}
use Rattle.std.specs.Prelude.{slice_get, IfOk}
use Rattle.goal_tables.specs.ImplsByHead.{impls_with_head}
use Rattle.goal_lists.specs.Candidates.{impls_for}
use Rattle.goal_lists.specs.Fitting.{trees_at}
use Rattle.goal_lists.specs.Interned.{candidate_at}
use Rattle.goal_lists.proofs.NearLemmas.{near-fitting, all-within}
use Rattle.goal_lists.proofs.candidates.lists.push_impls.Goals as goal

pub push_places-requires-clause-places : goal.push_places-requires-clause-places
push_places-requires-clause-places c =
    all-within c.args.rows.now.impls.items c.impls_of_trait.result.now (impls_for c.args.rows.now c.args.trait_id) c.impls_of_trait.ensures

pub push_places-requires-2-clause-places : goal.push_places-requires-2-clause-places
push_places-requires-2-clause-places c =
    all-within c.args.rows.now.impls.items c.as_slice.result.now (impls_with_head c.args.rows.now c.args.trait_id c.in-Some.head)
    (ap (map (slice_get c.args.rows.now.impls.items)) c.as_slice.ensures.value ∙ c.in_ok-places.ensures)

pub returns-in_default-clause-pushed : goal.returns-in_default-clause-pushed
returns-in_default-clause-pushed c T = c.push_places.ensures.pushed T (impls_for c.args.rows.now c.args.trait_id) c.impls_of_trait.ensures

pub returns-clause-pushed : goal.returns-clause-pushed
returns-clause-pushed c T =
    subst (λ xs. IfOk c.push_places-2.result (λ _. map (candidate_at T) c.push_places-2.new.found.items ≡ map (candidate_at T) c.args.found.now.items ++ xs))
    (near-fitting c.args.rows.now c.args.trait_id (trees_at c.args.terms.now c.args.args.now) c.in-Some.head (sym c.in-Some.ensures))
    (c.push_places-2.ensures.pushed T (impls_with_head c.args.rows.now c.args.trait_id c.in-Some.head)
    (ap (map (slice_get c.args.rows.now.impls.items)) c.as_slice.ensures.value ∙ c.in_ok-places.ensures))
