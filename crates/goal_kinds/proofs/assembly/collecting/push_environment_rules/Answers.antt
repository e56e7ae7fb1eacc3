use Rattle.std.proofs.Common.{◌≡◌, ◌<◌, false, length, get_or, map, ap, sym, subst, arith, ◌∙◌}
use Rattle.std.proofs.lemmas.Simd.{map-map}
use Rattle.goal_lists.specs.Answers.{setting_of, erased_predicate}
use Rattle.goal_kinds.specs.CandidateRules.{said_by, IsAcceptedClause}
use Rattle.goal_lists.specs.Candidates.{assumption}
use Rattle.goal_terms.specs.PredicateTrees.{tree_of_kind}
use Rattle.goal_kinds.specs.KindWords.{words_for}
use Rattle.goal_kinds.specs.Collecting.{Speaks, Collects}
use Rattle.goal_kinds.proofs.CollectingLemmas.{adds-weaker, collects-more, collects-all}
use Rattle.goal_kinds.proofs.assembly.collecting.push_environment_rules.Goals as goal

pub loop-k-preserved : goal.loop-k-preserved
loop-k-preserved g c = record {
  collected = λ accepted.
      collects-more (Speaks (words_for g.G.GoalKind.words c.args.tables.now c.args.goal.now c.args.mode.now)) (λ x. g.G.GoalKind.words.refuted c.args.goal.now.predicate (setting_of c.args.tables.now c.args.mode.now c.args.goal.now.param_env.items) 0 x)
      (λ x. said_by x.kind) c.as_slice-clauses.result.now c.loop-k.k c.index-clauses-k.result c.args.found.now.items c.loop-k.found.items c.push_clause_rule.new.found.items
      c.loop-k-test.true c.index-clauses-k.is
      (adds-weaker (Speaks (words_for g.G.GoalKind.words c.args.tables.now c.args.goal.now c.args.mode.now)) (Speaks (words_for g.G.GoalKind.words c.args.tables.now c.args.goal.now c.args.mode.now))
      (λ x. g.G.GoalKind.words.passes c.args.goal.now.predicate c.index-clauses-k.result.kind ≡ false) (λ x. g.G.GoalKind.words.refuted c.args.goal.now.predicate (setting_of c.args.tables.now c.args.mode.now c.args.goal.now.param_env.items) 0 x)
      (said_by c.index-clauses-k.result.kind) (λ r h. h)
      (λ barred. c.rejected_clauses_are_refuted.ensures c.args.goal.now.predicate (setting_of c.args.tables.now c.args.mode.now c.args.goal.now.param_env.items)
      c.index-clauses-k.result.kind c.rows.ensures.checked c.requires.accepted
      (subst (λ x. IsAcceptedClause c.args.tables.now x.kind) (sym (c.index-clauses-k.is ∙ ap (λ xs. get_or xs c.loop-k.k c.index-clauses-k.result) c.as_slice-clauses.ensures.value))
      (accepted c.loop-k.k c.index-clauses-k.result (subst (λ xs. c.loop-k.k < length xs) c.as_slice-clauses.ensures.value c.loop-k-test.true)))
      barred) c.loop-k.found.items c.push_clause_rule.new.found.items c.in_ok-push_clause_rule.ensures.adds)
      (c.loop-k.invariant.collected accepted);
  expected = λ h. c.in_ok-push_clause_rule.ensures.expected (c.loop-k.invariant.expected h);
}

pub returns-clause-collected : goal.returns-clause-collected
returns-clause-collected g c accepted =
    subst (λ cs. Collects (Speaks (words_for g.G.GoalKind.words c.args.tables.now c.args.goal.now c.args.mode.now)) (λ x. g.G.GoalKind.words.refuted c.args.goal.now.predicate (setting_of c.args.tables.now c.args.mode.now c.args.goal.now.param_env.items) 0 x) cs c.args.found.now.items c.loop-k.found.items)
    (ap (map (λ x. said_by x.kind)) c.as_slice-clauses.ensures.value ∙ sym (map-map assumption (λ x. erased_predicate (tree_of_kind x.kind)) c.args.goal.now.param_env.items))
    (collects-all (Speaks (words_for g.G.GoalKind.words c.args.tables.now c.args.goal.now c.args.mode.now)) (λ x. g.G.GoalKind.words.refuted c.args.goal.now.predicate (setting_of c.args.tables.now c.args.mode.now c.args.goal.now.param_env.items) 0 x)
    (λ x. said_by x.kind) c.as_slice-clauses.result.now c.loop-k.k c.args.found.now.items c.loop-k.found.items (omega (arith, c.loop-k-test.false))
    (c.loop-k.invariant.collected accepted))
