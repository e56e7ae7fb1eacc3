use Rattle.vurloske_names.specs.Growth.{BeginsWith}
use Rattle.vurloske_names.proofs.elaboration.push_new.Given as goal

abbrev pub invariant-loop-clause : goal.invariant-loop-clause
invariant-loop-clause l = BeginsWith l.clauses.items l.fn.clauses.items
