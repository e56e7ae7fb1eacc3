use Rattle.std.proofs.Common.{◌+◌, ◌*◌, length}
use Rattle.goal_interner.specs.TableMeaning.{AreBelow, Keeps}
use Rattle.goal_terms.specs.Tree.{tree_size}
use Rattle.goal_terms.specs.View.{tree_of_ref, trees_seen}
use Rattle.goal_terms.proofs.SizeLemmas.{sizes}
use Rattle.goal_solver.proofs.PutLemmas.{IsPutSoFar}
use Rattle.goal_solver.proofs.relate.headers.+put.Given as goal

abbrev pub decreases-put_against : goal.decreases-put_against
decreases-put_against l = 2 * tree_size (tree_of_ref l.header)

abbrev pub decreases-put_form : goal.decreases-put_form
decreases-put_form l = 2 * sizes (trees_seen l.header) + 1

abbrev pub invariant-put_form-loop-i : goal.invariant-put_form-loop-i
invariant-put_form-loop-i l = record {
  kept : Keeps l.fn.terms l.terms;
  within : AreBelow (length l.terms) l.made.items;
  so_far : IsPutSoFar l.fn.terms l.terms l.found (trees_seen l.header) l.given l.made.items l.i;
}
