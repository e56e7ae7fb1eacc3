use Rattle.std.proofs.Common.{◌∙◌, inl, inr, refl, sym}
use Rattle.goal_kinds.proofs.CollectedTermLemmas.{error-stands, error-stands_not}
use Rattle.goal_kinds.proofs.assembly.collecting.push_error_rule.Goals as goal

pub returns-then-not-has_error_in-clause-adds : goal.returns-then-not-has_error_in-clause-adds
returns-then-not-has_error_in-clause-adds g c =
    inr (refl, inr (error-stands_not (g.G.GoalKind.words.asked c.args.goal.now.predicate c.args.tables.now) c.in-Some.asked c.in-Some.ensures (sym c.has_error_in.ensures ∙ c.if-not-has_error_in.true)))

pub consider_error_guaranteed_candidate-requires : goal.consider_error_guaranteed_candidate-requires
consider_error_guaranteed_candidate-requires g c = record {
  stands =
      error-stands (g.G.GoalKind.words.asked c.args.goal.now.predicate c.args.tables.now) c.in-Some.asked c.in-Some.ensures (sym c.has_error_in.ensures ∙ c.if-not-has_error_in.false);
}

pub returns-in_ok-push_rule-in-Ok-clause-adds : goal.returns-in_ok-push_rule-in-Ok-clause-adds
returns-in_ok-push_rule-in-Ok-clause-adds g c = inl (c.in-Ok.rule, c.in_ok-push_rule-in-Ok.ensures, (c.in-Ok.ensures.list, (c.in-Ok.ensures.gives, c.in-Ok.ensures.refuted)))
