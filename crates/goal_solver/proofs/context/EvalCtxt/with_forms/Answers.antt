use Rattle.std.proofs.Common.{subst, length}
use Rattle.goal_solver.specs.Answers.{IsQuiet}
use Rattle.goal_solver.specs.State.{State, kinds_of}
use Rattle.goal_solver.proofs.ApplicableLemmas.{nothing-applies-after}
use Rattle.goal_solver.proofs.GoingBackLemmas.{goes_back-same}
use Rattle.goal_solver.proofs.OpenProjectionLemmas.{applies-through}
use Rattle.goal_solver.proofs.context.EvalCtxt.with_forms.Goals as goal

pub returns-in-Maybe-clause-goes_back : goal.returns-in-Maybe-clause-goes_back
returns-in-Maybe-clause-goes_back c = goes_back-same c.args.self.now

pub returns-then-branch-clause-applies : goal.returns-then-branch-clause-applies
returns-then-branch-clause-applies c =
    applies-through c.args.self.now c.have_forms.new.self c.args.response c.have_forms.ensures.unchanged c.have_forms.ensures.goes_back c.holds_together.ensures.solved c.requires.applies

pub returns-else-branch-clause-applies : goal.returns-else-branch-clause-applies
returns-else-branch-clause-applies c =
    nothing-applies-after c.args.self.now c.have_forms.new.self c.respond.result c.have_forms.ensures.unchanged c.is_well_formed.ensures.storage
    (subst (λ (s : State). IsQuiet (length (kinds_of s)) c.respond.result) c.have_forms.ensures.unchanged c.respond.ensures.quiet) c.respond.ensures.values
