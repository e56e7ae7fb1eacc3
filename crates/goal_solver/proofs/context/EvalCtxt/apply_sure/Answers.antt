use Rattle.std.proofs.Common.{sym, subst}
use Rattle.goal_solver.specs.Binding.{AppliesAside}
use Rattle.goal_solver.specs.GoingBack.{GoesBack}
use Rattle.goal_solver.proofs.GoingBackLemmas.{goes_back-same, goes_back-restored}
use Rattle.goal_solver.proofs.OpenFormLemmas.{stays-unsure, sure-applied, when-ok}
use Rattle.goal_solver.proofs.OpenTraitLemmas.{aside-records}
use Rattle.goal_solver.proofs.context.EvalCtxt.apply_sure.Goals as goal

pub returns-in-Maybe-clause-goes_back : goal.returns-in-Maybe-clause-goes_back
returns-in-Maybe-clause-goes_back c = goes_back-same c.args.self.now

pub returns-then-has_unknown-clause-goes_back : goal.returns-then-has_unknown-clause-goes_back
returns-then-has_unknown-clause-goes_back c = goes_back-same c.args.self.now

pub returns-then-has_unknown-clause-left : goal.returns-then-has_unknown-clause-left
returns-then-has_unknown-clause-left c = λ maybe.
    stays-unsure c.args.self.now c.args.response.now c.typing_mode.result.now c.has_unknown.result c.typing_mode.ensures c.has_unknown.ensures c.if-has_unknown.true

pub returns-in_default-apply_aside-clause-goes_back : goal.returns-in_default-apply_aside-clause-goes_back
returns-in_default-apply_aside-clause-goes_back c =
    subst (GoesBack c.args.self.now) (sym (c.rollback.ensures.undone c.args.self.now c.snapshot-before.ensures c.apply_aside.ensures.goes_back))
    (goes_back-restored c.args.self.now c.apply_aside.new.self c.apply_aside.ensures.goes_back)

pub returns-clause-alone : goal.returns-clause-alone
returns-clause-alone c =
    aside-records c.args.self.now c.apply_aside.new.self c.args.response.now
    (when-ok c.apply_aside.result c.in-Ok.field-0 (AppliesAside c.args.self.now c.apply_aside.new.self c.args.response.now) c.in-Ok.is c.apply_aside.ensures.applied)

pub returns-clause-applied : goal.returns-clause-applied
returns-clause-applied c = λ yes.
    sure-applied c.args.self.now c.apply_aside.new.self c.args.response.now c.typing_mode.result.now c.has_unknown.result c.apply_aside.result c.in-Ok.field-0 c.in_default.not-Maybe c.typing_mode.ensures
    c.has_unknown.ensures c.if-has_unknown.false c.in-Ok.is c.apply_aside.ensures.applied
