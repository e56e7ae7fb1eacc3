use Rattle.std.proofs.Common.{length, sym, ap, ◌∙◌}
use Rattle.std.proofs.lemmas.List.{length-map}
use Rattle.goal_terms.specs.TreeOf.{tree_of_arg}
use Rattle.goal_solver.proofs.TranslatedLemmas.{fresh-count}
use Rattle.goal_solver.proofs.context.EvalCtxt.unknown_args.Goals as goal

pub returns-clause-count : goal.returns-clause-count
returns-clause-count c =
    sym (length-map c.in_ok-args.args.items tree_of_arg) ∙ ap length c.in_ok-args.ensures.fresh ∙ fresh-count c.deref.result.now _ ∙ ap length c.deref.ensures.value
