use Rattle.std.proofs.Common.{◌≡◌, map, take}
use Rattle.goal_interner.specs.TableMeaning.{tree_at}
use Rattle.goal_terms.specs.TreeOf.{trees_of}
use Rattle.goal_solver.proofs.context.rebuilding.rebuilt_args.Given as goal

abbrev pub invariant-loop-id : goal.invariant-loop-id
invariant-loop-id l = trees_of l.args.items ≡ map (tree_at l.terms) (take l.id-index l.ids)
