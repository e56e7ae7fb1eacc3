use Rattle.std.proofs.Common.{◌+◌, ◌*◌}
use Rattle.vurloske_syntax.proofs.parser.+terms.Given as goal

abbrev pub decreases-terms::parse_term : goal.decreases-terms::parse_term
decreases-terms::parse_term l = 20 * l.depth + 0

abbrev pub decreases-terms::parse_output : goal.decreases-terms::parse_output
decreases-terms::parse_output l = 20 * l.depth + 1

abbrev pub decreases-terms::parse_terms : goal.decreases-terms::parse_terms
decreases-terms::parse_terms l = 20 * l.depth + 1

abbrev pub decreases-terms::parse_brackets : goal.decreases-terms::parse_brackets
decreases-terms::parse_brackets l = 20 * l.depth + 1

abbrev pub decreases-terms::parse_raw_pointer : goal.decreases-terms::parse_raw_pointer
decreases-terms::parse_raw_pointer l = 20 * l.depth + 1

abbrev pub decreases-terms::parse_reference : goal.decreases-terms::parse_reference
decreases-terms::parse_reference l = 20 * l.depth + 1

abbrev pub decreases-terms::parse_arg : goal.decreases-terms::parse_arg
decreases-terms::parse_arg l = 20 * l.depth + 1

abbrev pub decreases-terms::parse_angle_args : goal.decreases-terms::parse_angle_args
decreases-terms::parse_angle_args l = 20 * l.depth + 2

abbrev pub decreases-terms::parse_fn_ptr : goal.decreases-terms::parse_fn_ptr
decreases-terms::parse_fn_ptr l = 20 * l.depth + 2

abbrev pub decreases-terms::parse_parens : goal.decreases-terms::parse_parens
decreases-terms::parse_parens l = 20 * l.depth + 2

abbrev pub decreases-terms::parse_args : goal.decreases-terms::parse_args
decreases-terms::parse_args l = 20 * l.depth + 3

abbrev pub decreases-terms::parse_segment : goal.decreases-terms::parse_segment
decreases-terms::parse_segment l = 20 * l.depth + 4

abbrev pub decreases-terms::parse_braces : goal.decreases-terms::parse_braces
decreases-terms::parse_braces l = 20 * l.depth + 4

abbrev pub decreases-bounds::parse_bound : goal.decreases-bounds::parse_bound
decreases-bounds::parse_bound l = 20 * l.depth + 5

abbrev pub decreases-terms::parse_item_of : goal.decreases-terms::parse_item_of
decreases-terms::parse_item_of l = 20 * l.depth + 5

abbrev pub decreases-bounds::parse_dyn : goal.decreases-bounds::parse_dyn
decreases-bounds::parse_dyn l = 20 * l.depth + 6

abbrev pub decreases-terms::parse_qualified : goal.decreases-terms::parse_qualified
decreases-terms::parse_qualified l = 20 * l.depth + 6

abbrev pub decreases-terms::parse_signed : goal.decreases-terms::parse_signed
decreases-terms::parse_signed l = 20 * l.depth + 7

abbrev pub decreases-terms::parse_worded : goal.decreases-terms::parse_worded
decreases-terms::parse_worded l = 20 * l.depth + 7

abbrev pub decreases-terms::parse_kind : goal.decreases-terms::parse_kind
decreases-terms::parse_kind l = 20 * l.depth + 8

abbrev pub decreases-terms::parse_head : goal.decreases-terms::parse_head
decreases-terms::parse_head l = 20 * l.depth + 9
