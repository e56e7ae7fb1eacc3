use Rattle.std.proofs.Common.{◌∙◌, ◌++◌, ◌∷◌, [], ap}
use Rattle.goal_terms.specs.declared.terms.GenericArg.TheVariants as arg
use Rattle.goal_eval.proofs.RowTermLemmas.{header_of_type-is}
use Rattle.goal_eval.proofs.eval.instances.header_of_type.Goals as goal

pub returns : goal.returns
returns c =
    header_of_type-is c.args.ty.now c.in_ok-copy.copy c.push.new.self.items c.in_ok-copy.ensures.cases
    (c.in_ok-push.ensures.items ∙ ap (λ xs. xs ++ arg.Ty c.in_ok-copy.copy ∷ []) c.in_ok-made.ensures.items)
