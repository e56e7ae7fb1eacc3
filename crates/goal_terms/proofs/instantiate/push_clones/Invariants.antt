use Rattle.std.proofs.Common.{◌≡◌, ◌++◌, take}
use Rattle.goal_terms.specs.TreeOf.{trees_of}
use Rattle.goal_terms.proofs.instantiate.push_clones.Given as goal

abbrev pub invariant-loop-arg : goal.invariant-loop-arg
invariant-loop-arg l = trees_of l.all.items ≡ trees_of l.fn.all.items ++ trees_of (take l.arg-index l.args)
