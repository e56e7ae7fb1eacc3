use Rattle.goal_solver.proofs.GoingBackLemmas.{goes_back-grown, goes_back-same}
use Rattle.goal_solver.proofs.context.EvalCtxt.form_again.Goals as goal

pub returns-in_default-clause-goes_back : goal.returns-in_default-clause-goes_back
returns-in_default-clause-goes_back c = goes_back-same c.args.self.now

pub returns-in_err-id-clause-goes_back : goal.returns-in_err-id-clause-goes_back
returns-in_err-id-clause-goes_back c = goes_back-grown c.args.self.now c.renumbered.new.self c.renumbered.ensures.unchanged c.renumbered.ensures.kept

pub returns-in-Some-2-clause-goes_back : goal.returns-in-Some-2-clause-goes_back
returns-in-Some-2-clause-goes_back c = goes_back-grown c.args.self.now c.renumbered.new.self c.renumbered.ensures.unchanged c.renumbered.ensures.kept

pub returns-in-None-clause-goes_back : goal.returns-in-None-clause-goes_back
returns-in-None-clause-goes_back c = goes_back-grown c.args.self.now c.renumbered.new.self c.renumbered.ensures.unchanged c.renumbered.ensures.kept
