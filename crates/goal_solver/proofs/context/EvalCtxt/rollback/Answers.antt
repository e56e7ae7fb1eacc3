use Rattle.std.proofs.Common.{sym, subst}
use Rattle.goal_solver.specs.GoingBack.{GoesBack}
use Rattle.goal_solver.specs.Stored.{IsSameKey}
use Rattle.goal_solver.proofs.GoingBackLemmas.{kinds-rolled_back, cut-shorter, solved-restored, taken-restored}
use Rattle.goal_solver.proofs.StoredLemmas.{apart-taken}
use Rattle.goal_solver.proofs.context.EvalCtxt.rollback.Goals as goal

pub invariant_of-self : goal.invariant_of-self
invariant_of-self c = (
  cut-shorter c.len.result 4294967296 c.self.inside.kinds.items c.truncate.new.self.items c.truncate.ensures.items c.self.invariant.0,
  kinds-rolled_back c.self.inside.inference c.rollback.new.self c.args.snapshot.inference c.len.result c.self.inside.kinds.items c.truncate.new.self.items
      c.rollback.ensures.undone c.len.ensures c.truncate.ensures.items c.self.invariant.1,
  apart-taken (λ e f. IsSameKey e.0 f.0) c.args.snapshot.storage c.self.inside.storage.items c.truncate-4.new.self.items c.truncate-4.ensures.items c.self.invariant.2,
  c.self.invariant.3,
  c.self.invariant.4,
  solved-restored _ c.requires.valid.0 c.args.snapshot c.rollback.new.self c.requires.valid.1 (subst (GoesBack c.requires.valid.0) (sym c.self.view_is) c.requires.valid.2) c.requires.valid.3 c.rollback.ensures.restored,
  taken-restored _ c.requires.valid.0 c.args.snapshot c.truncate-2.new.self.items c.truncate-3.new.self.items c.requires.valid.1 (subst (GoesBack c.requires.valid.0) (sym c.self.view_is) c.requires.valid.2) c.requires.valid.3 c.truncate-2.ensures.items c.truncate-3.ensures.items,
)
