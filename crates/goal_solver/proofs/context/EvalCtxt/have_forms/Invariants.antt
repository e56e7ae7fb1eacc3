use Rattle.std.proofs.Common.{◌≡◌, take}
use Rattle.goal_solver.specs.GoingBack.{GoesBack, restored}
use Rattle.goal_solver.specs.OpenProjections.{FormsAll}
use Rattle.goal_solver.proofs.context.EvalCtxt.have_forms.Given as goal

abbrev pub invariant-loop-arg : goal.invariant-loop-arg
invariant-loop-arg l = record {
  forms : FormsAll l.environment (take l.arg-index l.args) l.fn.self l.formed l.self;
  unchanged : l.self ≡ restored l.fn.self l.self;
  back : GoesBack l.fn.self l.self;
}
