use Rattle.vurloske_names.specs.Growth.{BeginsWith}
use Rattle.vurloske_names.proofs.elaboration.add_implied.Given as goal

abbrev pub invariant-loop-place : goal.invariant-loop-place
invariant-loop-place l = BeginsWith l.clauses.items l.fn.clauses.items
