use Rattle.std.proofs.Common.{◌++◌, ◌∷◌, [], map}
use Rattle.goal_terms.specs.Erased.{erased}
use Rattle.goal_terms.specs.TreeOf.{tree_of_ty}
use Rattle.goal_lists.specs.Candidates.{by_impl, built_in, error, impls_for, object_bounds}
use Rattle.goal_kinds.specs.KindWords.{words_for}
use Rattle.goal_kinds.specs.Collecting.{Speaks, Lacks}
use Rattle.goal_kinds.proofs.CollectingLemmas.{collects-chain, collects-one}
use Rattle.goal_kinds.proofs.assembly.collecting.push_rest_rules.Goals as goal

pub returns-clause-collected : goal.returns-clause-collected
returns-clause-collected g c own =
    collects-chain (Speaks (words_for g.G.GoalKind.words c.args.tables.now c.args.goal.now c.args.mode.now)) (Lacks (words_for g.G.GoalKind.words c.args.tables.now c.args.goal.now c.args.mode.now))
    (map by_impl (impls_for c.args.tables.now c.args.asked.def_id) ++ (built_in ∷ object_bounds (erased (tree_of_ty c.args.self_ty.now)))) (error ∷ [])
    c.args.found.now.items c.push_object_rules.new.found.items c.push_error_rule.new.found.items
    (collects-chain (Speaks (words_for g.G.GoalKind.words c.args.tables.now c.args.goal.now c.args.mode.now)) (Lacks (words_for g.G.GoalKind.words c.args.tables.now c.args.goal.now c.args.mode.now))
    (map by_impl (impls_for c.args.tables.now c.args.asked.def_id)) (built_in ∷ object_bounds (erased (tree_of_ty c.args.self_ty.now)))
    c.args.found.now.items c.push_impl_rules.new.found.items c.push_object_rules.new.found.items
    (c.in_ok-push_impl_rules.ensures.collected own)
    (collects-chain (Speaks (words_for g.G.GoalKind.words c.args.tables.now c.args.goal.now c.args.mode.now)) (Lacks (words_for g.G.GoalKind.words c.args.tables.now c.args.goal.now c.args.mode.now))
    (built_in ∷ []) (object_bounds (erased (tree_of_ty c.args.self_ty.now)))
    c.push_impl_rules.new.found.items c.push_built_in_rule.new.found.items c.push_object_rules.new.found.items
    (collects-one (Speaks (words_for g.G.GoalKind.words c.args.tables.now c.args.goal.now c.args.mode.now)) (Lacks (words_for g.G.GoalKind.words c.args.tables.now c.args.goal.now c.args.mode.now)) c.push_impl_rules.new.found.items c.push_built_in_rule.new.found.items built_in c.in_ok-push_built_in_rule.ensures.adds)
    c.in_ok-push_object_rules.ensures.collected))
    (collects-one (Speaks (words_for g.G.GoalKind.words c.args.tables.now c.args.goal.now c.args.mode.now)) (Lacks (words_for g.G.GoalKind.words c.args.tables.now c.args.goal.now c.args.mode.now)) c.push_object_rules.new.found.items c.push_error_rule.new.found.items error c.in_ok-push_error_rule.ensures.adds)
