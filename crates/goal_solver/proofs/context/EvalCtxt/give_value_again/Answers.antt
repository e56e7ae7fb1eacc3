use Rattle.goal_solver.proofs.GoingBackLemmas.{goes_back-grown, goes_back-same}
use Rattle.goal_solver.proofs.context.EvalCtxt.give_value_again.Goals as goal

pub returns-in_default-clause-goes_back : goal.returns-in_default-clause-goes_back
returns-in_default-clause-goes_back c = goes_back-same c.args.self.now

pub returns-in_err-variable-clause-goes_back : goal.returns-in_err-variable-clause-goes_back
returns-in_err-variable-clause-goes_back c = goes_back-grown c.args.self.now c.renumbered_pair.new.self c.renumbered_pair.ensures.unchanged c.renumbered_pair.ensures.kept

pub returns-in_default-2-clause-goes_back : goal.returns-in_default-2-clause-goes_back
returns-in_default-2-clause-goes_back c = goes_back-grown c.args.self.now c.renumbered_pair.new.self c.renumbered_pair.ensures.unchanged c.renumbered_pair.ensures.kept
