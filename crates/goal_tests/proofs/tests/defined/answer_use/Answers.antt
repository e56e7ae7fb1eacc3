use Rattle.std.proofs.Common.{sym, subst}
use Rattle.goal_tests.proofs.FreeVariableLemmas.{IsAccepted}
use Rattle.goal_tests.proofs.tests.defined.answer_use.Goals as goal

pub returns-in-Ok-clause-applies : goal.returns-in-Ok-clause-applies
returns-in-Ok-clause-applies c =
    c.compute_normalizes_to_goal.ensures.applies
    (subst (λ t. IsAccepted t c.args.context.now c.args.goal.now.predicate c.args.goal.now.param_env.items) (sym c.requires.over) c.in-Ok.ensures.accepted)
