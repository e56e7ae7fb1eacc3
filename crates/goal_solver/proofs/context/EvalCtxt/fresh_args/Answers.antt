use Rattle.std.proofs.Common.{rules, ◌≡◌, ◌+◌, take, map, ap, ◌∙◌, ◌++◌, ◌∷◌, []}
use Rattle.std.proofs.lemmas.List.{map-append}
use Rattle.goal_terms.specs.TreeOf.{tree_of_arg}
use Rattle.goal_solver.specs.Variables.{kind_for}
use Rattle.goal_solver.proofs.VariableLemmas.{made-more, fresh-more}
use Rattle.goal_solver.proofs.context.EvalCtxt.fresh_args.Goals as goal

pub returns-then-is_err-clause-partly : goal.returns-then-is_err-clause-partly
returns-then-is_err-clause-partly c = (
  map kind_for (take (c.loop-param.param-index + 1) c.args.params.now),
  made-more c.args.self.now c.loop-param.self c.fresh_arg.new.self c.args.params.now c.loop-param.param-index _ (search rules) c.loop-param.invariant.made c.in_ok-arg.ensures.made,
)

pub loop-param-preserved : goal.loop-param-preserved
loop-param-preserved c = record {
  made = made-more c.args.self.now c.loop-param.self c.fresh_arg.new.self c.args.params.now c.loop-param.param-index _ (search rules) c.loop-param.invariant.made c.in_ok-arg.ensures.made;
  fresh = fresh-more c.args.self.now c.loop-param.self c.args.params.now c.loop-param.param-index _ (map tree_of_arg c.loop-param.args.items) _ (tree_of_arg c.in_ok-arg.arg) (search rules)
      c.loop-param.invariant.made c.loop-param.invariant.fresh c.in_ok-arg.ensures.fresh
      (let pushed : c.push.new.self.items ≡ c.loop-param.args.items ++ c.in_ok-arg.arg ∷ [] = search rules in
      ap (map tree_of_arg) pushed ∙ map-append tree_of_arg c.loop-param.args.items (c.in_ok-arg.arg ∷ []));
}
