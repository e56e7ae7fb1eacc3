use Rattle.goal_solver.proofs.GoalOutcomeLemmas.{grown-goes_back, grown-goes_back_twice, grown-twice_then_back}
use Rattle.goal_solver.proofs.GoingBackLemmas.{goes_back-through}
use Rattle.goal_solver.proofs.context.EvalCtxt.followed_normalization_outcome.Goals as goal

pub returns-in_err-ids-clause-goes_back : goal.returns-in_err-ids-clause-goes_back
returns-in_err-ids-clause-goes_back c = grown-goes_back c.args.self.now c.interned_args.new.self
    c.interned_args.ensures.unchanged c.interned_args.ensures.kept

pub returns-in_err-args-clause-goes_back : goal.returns-in_err-args-clause-goes_back
returns-in_err-args-clause-goes_back c = grown-goes_back_twice c.args.self.now c.interned_args.new.self c.followed_args.new.self
    c.interned_args.ensures.unchanged c.followed_args.ensures.unchanged c.interned_args.ensures.kept c.followed_args.ensures.kept

pub returns-then-some_in_env-clause-goes_back : goal.returns-then-some_in_env-clause-goes_back
returns-then-some_in_env-clause-goes_back c = grown-goes_back_twice c.args.self.now c.interned_args.new.self c.followed_args.new.self
    c.interned_args.ensures.unchanged c.followed_args.ensures.unchanged c.interned_args.ensures.kept c.followed_args.ensures.kept

pub returns-clause-goes_back : goal.returns-clause-goes_back
returns-clause-goes_back c =
    goes_back-through c.args.self.now c.evaluate_alias.new.self c.expect_found.new.self
    (grown-twice_then_back c.args.self.now c.interned_args.new.self c.followed_args.new.self c.evaluate_alias.new.self
    c.interned_args.ensures.unchanged c.followed_args.ensures.unchanged c.interned_args.ensures.kept c.followed_args.ensures.kept c.evaluate_alias.ensures.goes_back)
    c.expect_found.ensures.goes_back
