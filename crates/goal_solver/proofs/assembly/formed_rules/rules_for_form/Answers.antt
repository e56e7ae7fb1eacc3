use Rattle.std.proofs.Common.{◌≡◌, false, subst}
use Rattle.std.specs.Prelude.{IfSome}
use Rattle.goal_solver.specs.OpenGoals.{TakesSelf}
use Rattle.goal_kinds.specs.Collecting.{has_kind_fault}
use Rattle.goal_solver.proofs.assembly.formed_rules.rules_for_form.Goals as goal

pub returns-in_ok-rules_by-in-Some-clause-rules : goal.returns-in_ok-rules_by-in-Some-clause-rules
returns-in_ok-rules_by-in-Some-clause-rules g c =
    let h = subst (λ o. IfSome o (λ h. TakesSelf g.G.GoalKind.words.is_with_self c.args.goal.now h c.args.found × (has_kind_fault g.G.PredicateTerms.has_fault c.args.tables.now h ≡ false))) c.in-Some.is c.in_ok-considered_for.ensures.takes in
    record {
      considered = c.in-Some.considered;
      takes = h.0;
      accepted = h.1;
      collected = c.in_ok-rules_by-in-Some.ensures.rules;
    }
