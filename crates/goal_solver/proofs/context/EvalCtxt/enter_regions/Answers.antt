use Rattle.std.proofs.Common.{sym, subst, ap, ◌∙◌}
use Rattle.goal_solver.specs.GoingBack.{GoesBack}
use Rattle.goal_solver.proofs.GoingBackLemmas.{goes_back-restored}
use Rattle.goal_solver.specs.State.{State}
use Rattle.goal_solver.specs.Accesses.{uncaused}
use Rattle.goal_solver.proofs.context.EvalCtxt.enter_regions.Goals as goal

pub returns-in_default-clause-goes_back : goal.returns-in_default-clause-goes_back
returns-in_default-clause-goes_back c =
    subst (GoesBack c.args.self.now) (sym (c.rollback.ensures.undone c.args.self.now c.snapshot-before.ensures c.add_regions.ensures.goes_back))
    (goes_back-restored c.args.self.now c.add_regions.new.self c.add_regions.ensures.goes_back)

pub returns-in_default-clause-faults : goal.returns-in_default-clause-faults
returns-in_default-clause-faults c =
    ap (λ (s : State). uncaused s.tables s.delayed_faults) (c.rollback.ensures.undone c.args.self.now c.snapshot-before.ensures c.add_regions.ensures.goes_back)
    ∙ ap (uncaused c.args.self.now.tables) c.add_regions.ensures.faults
