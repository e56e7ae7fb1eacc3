use Rattle.std.proofs.Common.{◌≤◌}
use Rattle.vurloske_ast.proofs.ast.Position.behind.Given as goal

abbrev pub invariant-loop-byte : goal.invariant-loop-byte
invariant-loop-byte l = (1 ≤ l.at.line) × (1 ≤ l.at.column)
