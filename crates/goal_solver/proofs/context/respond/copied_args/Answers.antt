use Rattle.std.proofs.Common.{◌≡◌, map}
use Rattle.std.specs.List.{AllZip}
use Rattle.goal_terms.specs.TreeOf.{tree_of_arg}
use Rattle.goal_lists.proofs.ResultLemmas.{ok-map}
use Rattle.goal_solver.proofs.SinceMarkLemmas.{args-cloned}
use Rattle.goal_solver.proofs.context.respond.copied_args.Goals as goal

pub returns : goal.returns
returns c =
    ok-map (λ v. AllZip (λ a b. tree_of_arg b ≡ tree_of_arg a) c.args.args.now v.items) (λ v. map tree_of_arg v.items ≡ map tree_of_arg c.args.args.now) c.to_vec.result
    (λ v z. args-cloned c.args.args.now v.items z) c.to_vec.ensures.ok
