use Rattle.std.proofs.Common.{◌≤◌, ◌+◌, ◌<◌, length, ap, arith}
use Rattle.std.proofs.lemmas.List.Elements.{All-weaker}
use Rattle.goal_terms.specs.Tree.{tree_size}
use Rattle.goal_terms.specs.View.{tree_of_ref, trees_seen}
use Rattle.goal_terms.proofs.SizeLemmas.{sizes, tree_size-parts}
use Rattle.goal_lists.proofs.AgreeLemmas.{size-among}
use Rattle.goal_solver.proofs.relate.headers.+aliases.Goals as goal

pub list_against-list_aliases-requires : goal.list_against-list_aliases-requires
list_against-list_aliases-requires t c =
    let smaller : sizes (trees_seen c.parts.result) + 1 ≤ tree_size (tree_of_ref c.args.header) =
    omega (arith, tree_size-parts (tree_of_ref c.args.header), ap sizes c.parts.ensures) in (
      omega (arith, smaller, c.decreases),
      (
        All-weaker (λ id. id.0 < c.args.given.0) (λ id. id.0 < length c.args.terms.now) (λ id h. omega (arith, c.requires.given)) c.parts-2.result.now c.parts-2.ensures.earlier,
        c.requires.found,
      ),
    )

pub list_aliases-list_against-requires : goal.list_aliases-list_against-requires
list_aliases-list_against-requires t c = (
  omega (arith, c.decreases, size-among (trees_seen c.args.header) c.loop-i.i (tree_of_ref c.at.result) c.at.ensures),
  (c.requires.given c.loop-i.i _ c.loop-i-test.true, c.loop-i.invariant.found),
)
