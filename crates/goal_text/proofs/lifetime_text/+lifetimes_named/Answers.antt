use Rattle.std.proofs.Common.{◌<◌, arith}
use Rattle.goal_terms.specs.Tree.{tree_size}
use Rattle.goal_terms.specs.View.{tree_of_ref}
use Rattle.goal_terms.proofs.WalkLemmas.{tree_size-part}
use Rattle.goal_text.proofs.lifetime_text.+lifetimes_named.Goals as goal

pub lifetimes_named-requires : goal.lifetimes_named-requires
lifetimes_named-requires t c = (let p : tree_size (tree_of_ref c.at.result) < tree_size (tree_of_ref c.args.term) = tree_size-part (tree_of_ref c.args.term) c.loop-i.i (tree_of_ref c.at.result) (rw (← c.parts-parts.ensures) c.at.ensures) in omega (arith, p, c.decreases), tt)
