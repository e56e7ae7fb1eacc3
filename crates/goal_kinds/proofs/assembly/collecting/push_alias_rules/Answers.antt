use Rattle.std.proofs.Common.{◌∙◌, ap, map, subst}
use Rattle.goal_terms.specs.Erased.{erased}
use Rattle.goal_terms.specs.TreeOf.{trees_of}
use Rattle.goal_lists.specs.Answers.{setting_of}
use Rattle.goal_lists.specs.Candidates.{bounds_under}
use Rattle.goal_kinds.specs.KindWords.{words_for}
use Rattle.goal_kinds.specs.Collecting.{args_and_itself, Speaks, Lacks, Collects}
use Rattle.goal_kinds.proofs.CollectingLemmas.{collects-chain}
use Rattle.goal_kinds.proofs.CollectedTermLemmas.{collects-pairs}
use Rattle.goal_kinds.proofs.assembly.collecting.push_alias_rules.Goals as goal

pub returns-clause-collected : goal.returns-clause-collected
returns-clause-collected g c =
    collects-chain (Speaks (words_for g.G.GoalKind.words c.args.tables.now c.args.goal.now c.args.mode.now)) (Lacks (words_for g.G.GoalKind.words c.args.tables.now c.args.goal.now c.args.mode.now))
    (bounds_under (args_and_itself c.args.alias.now) c.args.clauses.now) (g.G.GoalKind.words.additional c.args.goal.now.predicate (setting_of c.args.tables.now c.args.mode.now c.args.goal.now.param_env.items) c.args.alias.now)
    c.args.found.now.items c.push_declared_rules.new.found.items c.push_rules.new.found.items
    (subst (λ s. Collects (Speaks (words_for g.G.GoalKind.words c.args.tables.now c.args.goal.now c.args.mode.now)) (Lacks (words_for g.G.GoalKind.words c.args.tables.now c.args.goal.now c.args.mode.now)) (bounds_under s c.args.clauses.now) c.args.found.now.items c.push_declared_rules.new.found.items)
    (ap (λ xs. map erased (trees_of xs)) c.deref.ensures.value ∙ c.in_ok-args.ensures) c.in_ok-push_declared_rules.ensures.collected)
    (collects-pairs (words_for g.G.GoalKind.words c.args.tables.now c.args.goal.now c.args.mode.now) c.in_ok-added.added.items (g.G.GoalKind.words.additional c.args.goal.now.predicate (setting_of c.args.tables.now c.args.mode.now c.args.goal.now.param_env.items) c.args.alias.now)
    c.push_declared_rules.new.found.items c.push_rules.new.found.items c.in_ok-push_rules.ensures c.in_ok-added.ensures.list c.in_ok-added.ensures.gives c.in_ok-added.ensures.refuted)
