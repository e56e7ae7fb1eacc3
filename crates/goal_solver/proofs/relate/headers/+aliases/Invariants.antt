use Rattle.std.proofs.Common.{◌+◌, ◌*◌, length}
use Rattle.goal_interner.specs.TableMeaning.{AreBelow}
use Rattle.goal_terms.specs.Tree.{tree_size}
use Rattle.goal_terms.specs.View.{tree_of_ref, trees_seen}
use Rattle.goal_terms.proofs.SizeLemmas.{sizes}
use Rattle.goal_solver.proofs.relate.headers.+aliases.Given as goal

abbrev pub decreases-list_against : goal.decreases-list_against
decreases-list_against l = 2 * tree_size (tree_of_ref l.header)

abbrev pub decreases-list_aliases : goal.decreases-list_aliases
decreases-list_aliases l = 2 * sizes (trees_seen l.header) + 1

abbrev pub invariant-list_aliases-loop-i : goal.invariant-list_aliases-loop-i
invariant-list_aliases-loop-i l = record { found : AreBelow (length l.terms) l.found.items }
