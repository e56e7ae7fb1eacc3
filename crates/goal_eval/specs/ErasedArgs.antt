-- Arguments without their lifetimes.
use Rattle.std.specs.Prelude.{List, map}
use Rattle.goal_terms.specs.Erased.{erased}
use Rattle.goal_terms.specs.Tree.{Tree}
use Rattle.goal_terms.specs.TreeOf.{tree_of_arg}
use Rattle.goal_terms.specs.declared.terms.GenericArg.{GenericArg}

-- the arguments of a goal, lifetimes aside
abbrev pub erased_args : List GenericArg → List Tree
erased_args args = map erased (map tree_of_arg args)
