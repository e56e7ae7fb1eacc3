use Rattle.std.proofs.Common.{◌<◌, arith}
use Rattle.goal_terms.specs.Tree.{tree_size}
use Rattle.goal_terms.specs.View.{tree_of_ref}
use Rattle.goal_terms.proofs.WalkLemmas.{tree_size-part}
use Rattle.goal_text.proofs.text.+text.Goals as goal

pub write_parts-write_term-requires : goal.write_parts-write_term-requires
write_parts-write_term-requires g t c κs h = (let p : tree_size (tree_of_ref c.at-part.result) < tree_size (tree_of_ref c.args.term) = tree_size-part (tree_of_ref c.args.term) c.loop-place.place (tree_of_ref c.at-part.result) (rw (← c.parts-parts.ensures) c.at-part.ensures) in omega (arith, p, c.decreases), h)
