use Rattle.std.proofs.Common.{◌≡◌, ◌∙◌, ◌<◌, inl, length, map, Some, refl, ap, sym, subst}
use Rattle.std.specs.List.{All}
use Rattle.std.specs.Prelude.{slice_get}
use Rattle.goal_terms.specs.TreeOf.{trees_of}
use Rattle.goal_tables.specs.ImplsByHead.{impls_with_head}
use Rattle.goal_lists.specs.Candidates.{impls_for}
use Rattle.goal_kinds.specs.KindWords.{words_for}
use Rattle.goal_lists.proofs.NearLemmas.{all-within, other_head-unfit}
use Rattle.goal_lists.proofs.ResultLemmas.{ok-map}
use Rattle.goal_kinds.specs.Collecting.{Speaks, Lacks, CollectsAt, CollectsImpls}
use Rattle.goal_kinds.proofs.CollectingLemmas.{collects-by_head, of-trait, of-trait_and_head}
use Rattle.goal_kinds.proofs.assembly.collecting.push_impl_rules.Goals as goal

pub push_rules_at-requires-clause-places : goal.push_rules_at-requires-clause-places
push_rules_at-requires-clause-places g c =
    subst (λ t. All (λ p. p < length t.impls.items) c.impls_of_trait.result.now) c.rows-rows.ensures.rows
    (all-within c.rows-rows.result.now.impls.items c.impls_of_trait.result.now (impls_for c.rows-rows.result.now c.args.asked.def_id) c.impls_of_trait.ensures)

pub push_rules_at-requires-2-clause-places : goal.push_rules_at-requires-2-clause-places
push_rules_at-requires-2-clause-places g c =
    subst (λ t. All (λ p. p < length t.impls.items) c.as_slice.result.now) c.rows-rows.ensures.rows
    (all-within c.rows-rows.result.now.impls.items c.as_slice.result.now (impls_with_head c.rows-rows.result.now c.args.asked.def_id c.in-Some.head)
    (ap (map (slice_get c.rows-rows.result.now.impls.items)) c.as_slice.ensures.value ∙ c.in-Ok.ensures))

pub returns-in_default-clause-collected : goal.returns-in_default-clause-collected
returns-in_default-clause-collected g c =
    let W = words_for g.G.GoalKind.words c.args.tables.now c.args.goal.now c.args.mode.now in
    let t = c.args.tables.now in
    let i = c.args.asked.def_id in
    let before = c.args.found.now.items in
    let after = c.push_rules_at.new.found.items in
    ok-map (λ _. CollectsAt W c.impls_of_trait.result.now before after) (λ _. CollectsImpls W i before after) c.push_rules_at.result
    (λ _ h own. h (impls_for t i)
    (subst (λ t. map (slice_get t.impls.items) c.impls_of_trait.result.now ≡ map Some (impls_for t i)) c.rows-rows.ensures.rows c.impls_of_trait.ensures)
    (of-trait t i (λ r. W.is_impl_for r) own))
    c.push_rules_at.ensures.collected

pub returns-clause-collected : goal.returns-clause-collected
returns-clause-collected g c =
    let W = words_for g.G.GoalKind.words c.args.tables.now c.args.goal.now c.args.mode.now in
    let t = c.args.tables.now in
    let i = c.args.asked.def_id in
    let before = c.args.found.now.items in
    let after = c.push_rules_at-2.new.found.items in
    ok-map (λ _. CollectsAt W c.as_slice.result.now before after) (λ _. CollectsImpls W i before after) c.push_rules_at-2.result
    (λ _ h own. collects-by_head (Speaks W) (Lacks W) t i c.in-Some.head before after
    (λ r other. inl (c.other_heads_are_refuted.ensures c.args.goal.now.predicate W.setting _ (trees_of c.args.asked.args.now) r c.requires.asked refl
    (other_head-unfit (trees_of c.args.asked.args.now) c.in-Some.head r (sym c.in-Some.ensures) other)))
    (h (impls_with_head t i c.in-Some.head)
    (subst (λ t. map (slice_get t.impls.items) c.as_slice.result.now ≡ map Some (impls_with_head t i c.in-Some.head)) c.rows-rows.ensures.rows
    (ap (map (slice_get c.rows-rows.result.now.impls.items)) c.as_slice.ensures.value ∙ c.in-Ok.ensures))
    (of-trait_and_head t i c.in-Some.head (λ r. W.is_impl_for r) own)))
    c.push_rules_at-2.ensures.collected
