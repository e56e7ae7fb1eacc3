use Rattle.std.proofs.Common.{sym, ap}
use Rattle.goal_solver.specs.State.{State}
use Rattle.goal_solver.proofs.GoingBackLemmas.{goes_back-same, goes_back-through}
use Rattle.goal_solver.proofs.NormalizingLemmas.{gives-at, gives-entered, keeps-entered}
use Rattle.goal_solver.proofs.context.EvalCtxt.expect_found.Goals as goal

pub returns-in-Refuted-clause-goes_back : goal.returns-in-Refuted-clause-goes_back
returns-in-Refuted-clause-goes_back c = goes_back-same c.args.self.now

pub returns-in-Undecided-clause-goes_back : goal.returns-in-Undecided-clause-goes_back
returns-in-Undecided-clause-goes_back c = goes_back-same c.args.self.now

pub returns-in_ok-enter_regions-in-Is-clause-gives : goal.returns-in_ok-enter_regions-in-Is-clause-gives
returns-in_ok-enter_regions-in-Is-clause-gives c =
    gives-at c.args.expected.now c.args.found c.in-Is.id c.args.self.now c.expect_term.new.self c.expect_term.result c.in-Is.is
    (gives-entered c.args.expected.now _ c.args.self.now c.enter_regions.new.self c.expect_term.new.self c.expect_term.result
    (keeps-entered c.args.self.now c.enter_regions.new.self _ _ c.in_ok-enter_regions-in-Is.ensures.entered)
    (sym (ap (λ (s : State). s.terms) c.in_ok-enter_regions-in-Is.ensures.entered)) c.expect_term.ensures.gives)

pub returns-in_ok-enter_regions-in-Is-clause-goes_back : goal.returns-in_ok-enter_regions-in-Is-clause-goes_back
returns-in_ok-enter_regions-in-Is-clause-goes_back c =
    goes_back-through c.args.self.now c.enter_regions.new.self c.expect_term.new.self c.enter_regions.ensures.goes_back c.expect_term.ensures.goes_back
