use Rattle.goal_solver.proofs.GoalOutcomeLemmas.{grown-goes_back, grown-then_back}
use Rattle.goal_solver.proofs.context.EvalCtxt.open_outcome.Goals as goal

pub returns-in_err-followed-clause-goes_back : goal.returns-in_err-followed-clause-goes_back
returns-in_err-followed-clause-goes_back c = grown-goes_back c.args.self.now c.followed.new.self
    c.followed.ensures.unchanged c.followed.ensures.kept

pub returns-then-has_open-clause-goes_back : goal.returns-then-has_open-clause-goes_back
returns-then-has_open-clause-goes_back c = grown-then_back c.args.self.now c.followed.new.self c.open_equation-then-has_open.new.self c.followed.ensures.unchanged c.followed.ensures.kept c.open_equation-then-has_open.ensures.goes_back

pub returns-clause-goes_back : goal.returns-clause-goes_back
returns-clause-goes_back c = grown-then_back c.args.self.now c.followed.new.self c.evaluate_predicate.new.self
    c.followed.ensures.unchanged c.followed.ensures.kept c.evaluate_predicate.ensures.goes_back
