use Rattle.std.proofs.Common.{◌+◌, ◌*◌}
use Rattle.vurloske_syntax.proofs.parser.statements.+statements.Given as goal

abbrev pub decreases-parse_where_block : goal.decreases-parse_where_block
decreases-parse_where_block l = 4 * l.depth + 0

abbrev pub decreases-parse_mode_block : goal.decreases-parse_mode_block
decreases-parse_mode_block l = 4 * l.depth + 0

abbrev pub decreases-parse_statement : goal.decreases-parse_statement
decreases-parse_statement l = 4 * l.depth + 1

abbrev pub decreases-parse_block : goal.decreases-parse_block
decreases-parse_block l = 4 * l.depth + 2
