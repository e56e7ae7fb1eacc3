use Rattle.std.proofs.Common.{◌+◌, ◌*◌}
use Rattle.vurloske.proofs.session.+statements.Given as goal

-- a run comes before its statements, and a block before the run in it, in which one block less may nest
abbrev pub decreases-run_statements : goal.decreases-run_statements
decreases-run_statements g l = 2 * l.depth + 1

abbrev pub decreases-run_statement : goal.decreases-run_statement
decreases-run_statement g l = 2 * l.depth
