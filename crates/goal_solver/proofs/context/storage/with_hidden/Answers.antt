use Rattle.std.proofs.Common.{◌∙◌, ◌++◌, ◌∷◌, [], ap}
use Rattle.std.proofs.lemmas.List.{map-append}
use Rattle.goal_terms.specs.TreeOf.{tree_of_arg, trees_of}
use Rattle.goal_terms.specs.declared.terms.GenericArg.TheVariants as arg
use Rattle.goal_terms.proofs.TreeLemmas.{tree_of_arg-Ty}
use Rattle.goal_solver.proofs.context.storage.with_hidden.Goals as goal

pub returns : goal.returns
returns c =
    ap trees_of c.in_ok-push.ensures.items
    ∙ map-append tree_of_arg c.in_ok-all.all.items (arg.Ty c.in_ok-clone.field-0 ∷ [])
    ∙ ap (λ xs. xs ++ tree_of_arg (arg.Ty c.in_ok-clone.field-0) ∷ []) c.in_ok-all.ensures
    ∙ ap (λ t. trees_of c.args.args.now ++ t ∷ []) (tree_of_arg-Ty c.in_ok-clone.field-0 ∙ c.in_ok-clone.ensures.cases)
