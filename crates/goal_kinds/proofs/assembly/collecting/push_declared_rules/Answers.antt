use Rattle.std.proofs.Common.{◌≡◌, false, inr, map, refl, subst, arith}
use Rattle.goal_terms.specs.Erased.{erased}
use Rattle.goal_terms.specs.PredicateTrees.{tree_of_kind}
use Rattle.goal_terms.specs.TreeOf.{trees_of}
use Rattle.goal_kinds.specs.CandidateRules.{said_by}
use Rattle.goal_lists.specs.Candidates.{assumption}
use Rattle.goal_lists.specs.Premises.{predicate_under}
use Rattle.goal_kinds.specs.KindWords.{words_for}
use Rattle.goal_kinds.specs.Collecting.{Speaks, Lacks, Adds}
use Rattle.goal_kinds.proofs.CollectingLemmas.{adds-weaker, collects-more, collects-all}
use Rattle.goal_kinds.proofs.assembly.collecting.push_declared_rules.Goals as goal

pub loop-i-preserved : goal.loop-i-preserved
loop-i-preserved g c =
    collects-more (Speaks (words_for g.G.GoalKind.words c.args.tables.now c.args.goal.now c.args.mode.now)) (Lacks (words_for g.G.GoalKind.words c.args.tables.now c.args.goal.now c.args.mode.now))
    (λ x. assumption (predicate_under (map erased (trees_of c.args.args.now)) (tree_of_kind x.kind))) c.args.clauses.now c.loop-i.i c.index-clauses-i.result
    c.args.found.now.items c.loop-i.found.items c.push_clause_rule.new.found.items c.loop-i-test.true c.index-clauses-i.is
    (subst (λ x. Adds (Speaks (words_for g.G.GoalKind.words c.args.tables.now c.args.goal.now c.args.mode.now)) (Lacks (words_for g.G.GoalKind.words c.args.tables.now c.args.goal.now c.args.mode.now)) x c.loop-i.found.items c.push_clause_rule.new.found.items) c.in_ok-clause.ensures
    (adds-weaker (Speaks (words_for g.G.GoalKind.words c.args.tables.now c.args.goal.now c.args.mode.now)) (Speaks (words_for g.G.GoalKind.words c.args.tables.now c.args.goal.now c.args.mode.now))
    (λ x. g.G.GoalKind.words.passes c.args.goal.now.predicate c.in_ok-clause.clause.kind ≡ false) (Lacks (words_for g.G.GoalKind.words c.args.tables.now c.args.goal.now c.args.mode.now)) (said_by c.in_ok-clause.clause.kind) (λ r h. h)
    (λ barred. inr (c.in_ok-clause.clause.kind, refl, barred)) c.loop-i.found.items c.push_clause_rule.new.found.items c.in_ok-push_clause_rule.ensures.adds))
    c.loop-i.invariant

pub returns-clause-collected : goal.returns-clause-collected
returns-clause-collected g c =
    collects-all (Speaks (words_for g.G.GoalKind.words c.args.tables.now c.args.goal.now c.args.mode.now)) (Lacks (words_for g.G.GoalKind.words c.args.tables.now c.args.goal.now c.args.mode.now))
    (λ x. assumption (predicate_under (map erased (trees_of c.args.args.now)) (tree_of_kind x.kind))) c.args.clauses.now c.loop-i.i
    c.args.found.now.items c.loop-i.found.items (omega (arith, c.loop-i-test.false)) c.loop-i.invariant
