use Rattle.vurloske_names.specs.Growth.{BeginsWith}
use Rattle.vurloske_names.proofs.elaboration.elaborate.Given as goal

abbrev pub invariant-loop-generation : goal.invariant-loop-generation
invariant-loop-generation l = BeginsWith l.clauses.items l.fn.clauses.items
