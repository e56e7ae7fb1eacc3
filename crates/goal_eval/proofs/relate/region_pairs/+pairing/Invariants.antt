use Rattle.std.proofs.Common.{◌+◌, ◌*◌}
use Rattle.goal_eval.proofs.relate.region_pairs.+pairing.Given as goal

abbrev pub decreases-equate_parts_in : goal.decreases-equate_parts_in
decreases-equate_parts_in l = 3 * l.left.0 + 0

abbrev pub decreases-equate_nodes_in : goal.decreases-equate_nodes_in
decreases-equate_nodes_in l = 3 * l.left.0 + 1

abbrev pub decreases-equate_terms_in : goal.decreases-equate_terms_in
decreases-equate_terms_in l = 3 * l.left.0 + 2
