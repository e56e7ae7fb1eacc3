use Rattle.std.proofs.Common.{sym, subst}
use Rattle.goal_solver.specs.GoingBack.{GoesBack}
use Rattle.goal_solver.proofs.GoingBackLemmas.{goes_back-restored}
use Rattle.goal_solver.proofs.context.EvalCtxt.apply_response.Goals as goal

pub returns-in_default-clause-goes_back : goal.returns-in_default-clause-goes_back
returns-in_default-clause-goes_back c =
    subst (GoesBack c.args.self.now) (sym (c.rollback.ensures.undone c.args.self.now c.snapshot-before.ensures c.apply_lists.ensures.goes_back))
    (goes_back-restored c.args.self.now c.apply_lists.new.self c.apply_lists.ensures.goes_back)
