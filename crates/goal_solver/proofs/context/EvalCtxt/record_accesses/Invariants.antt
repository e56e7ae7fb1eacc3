use Rattle.std.proofs.Common.{◌≡◌, ◌⊎◌}
use Rattle.std.specs.List.{Contains}
use Rattle.goal_terms.specs.declared.answers.OpaqueAccess.{OpaqueAccess}
use Rattle.goal_solver.specs.GoingBack.{GoesBack}
use Rattle.goal_solver.proofs.context.EvalCtxt.record_accesses.Given as goal

abbrev pub invariant-loop-access : goal.invariant-loop-access
invariant-loop-access l = record {
  listed : (a : OpaqueAccess) → Contains l.self.accesses a → Contains l.fn.self.accesses a ⊎ Contains l.accesses a;
  unchanged : l.self ≡ record l.fn.self { accesses = l.self.accesses };
  back : GoesBack l.fn.self l.self;
}
