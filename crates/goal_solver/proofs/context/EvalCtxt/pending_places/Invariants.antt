use Rattle.goal_solver.proofs.PlaceLemmas.{AreListed}
use Rattle.goal_solver.proofs.context.EvalCtxt.pending_places.Given as goal

abbrev pub invariant-loop-place : goal.invariant-loop-place
invariant-loop-place l = AreListed l.self.taken l.places.items l.place
