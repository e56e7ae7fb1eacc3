use Rattle.std.proofs.Common.{◌≡◌, map, take, length}
use Rattle.goal_terms.specs.TreeOf.{tree_of_arg}
use Rattle.goal_solver.specs.State.{kinds_of}
use Rattle.goal_solver.specs.Variables.{with_variables, kind_for, fresh_args}
use Rattle.goal_solver.proofs.context.EvalCtxt.fresh_args.Given as goal

abbrev pub invariant-loop-param : goal.invariant-loop-param
invariant-loop-param l = record {
  made : l.self ≡ with_variables (map kind_for (take l.param-index l.params)) l.fn.self;
  fresh : map tree_of_arg l.args.items ≡ fresh_args (take l.param-index l.params) (length (kinds_of l.fn.self));
}
