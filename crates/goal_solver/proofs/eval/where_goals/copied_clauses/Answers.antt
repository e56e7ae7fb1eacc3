use Rattle.std.specs.List.{AllZip}
use Rattle.goal_terms.specs.contracts.predicates.ClauseClone.TheImpl.{is_clone-value}
use Rattle.goal_solver.specs.TranslatedArgs.{IsSameEnvironment}
use Rattle.goal_lists.proofs.ResultLemmas.{ok-map}
use Rattle.goal_solver.proofs.WhereGoalLemmas.{clauses-cloned}
use Rattle.goal_solver.proofs.eval.where_goals.copied_clauses.Goals as goal

pub returns : goal.returns
returns c =
    ok-map (λ v. AllZip is_clone-value.it c.args.clauses.now v.items) (λ v. IsSameEnvironment c.args.clauses.now v.items) c.to_vec.result
    (λ v z. clauses-cloned c.args.clauses.now v.items z) c.to_vec.ensures.ok
