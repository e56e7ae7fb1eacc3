use Rattle.std.proofs.Common.{take, option_map}
use Rattle.goal_terms.specs.TreeOf.{trees_of}
use Rattle.goal_solver.specs.Accesses.{RecordsCausedFaults}
use Rattle.goal_solver.specs.GoingBack.{GoesBack}
use Rattle.goal_solver.specs.HiddenTypes.{NormalizesArgs}
use Rattle.goal_solver.proofs.context.EvalCtxt.normalized_args.Given as goal

abbrev pub invariant-loop-arg : goal.invariant-loop-arg
invariant-loop-arg l = record {
  normalized : NormalizesArgs l.environment (take l.arg-index l.args) l.fn.self (option_map (λ made. trees_of made.items) l.made) l.self;
  faults : RecordsCausedFaults l.fn.self l.self;
  back : GoesBack l.fn.self l.self;
}
