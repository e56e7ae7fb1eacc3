use Rattle.std.proofs.Common.{subst}
use Rattle.goal_solver.specs.TranslatedArgs.{Asks}
use Rattle.goal_solver.proofs.CloneLemmas.{kind-clone}
use Rattle.goal_solver.proofs.eval.run_rule.chosen_terms.goal_of_clause.Goals as goal

pub returns : goal.returns
returns c = record {
  environment = c.in_ok-param_env.ensures;
  asks = subst (Asks c.predicate_of-predicate.result) (kind-clone c.args.clause.now c.in_ok-kind.kind c.in_ok-kind.ensures.cases) c.predicate_of-predicate.ensures.asks;
}
