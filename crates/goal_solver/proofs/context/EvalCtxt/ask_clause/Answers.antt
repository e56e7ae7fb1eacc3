use Rattle.std.proofs.Common.{[], ◌∷◌, subst}
use Rattle.std.specs.Result.{OnOk}
use Rattle.goal_terms.specs.PredicateTrees.{PredicateTree}
use Rattle.goal_solver.specs.OpenRuns.{AddsGoals}
use Rattle.goal_solver.proofs.CloneLemmas.{kind-clone}
use Rattle.goal_solver.proofs.GoingBackLemmas.{goes_back-same}
use Rattle.goal_solver.proofs.context.EvalCtxt.ask_clause.Goals as goal

pub returns-in_default-clause-goes_back : goal.returns-in_default-clause-goes_back
returns-in_default-clause-goes_back c = goes_back-same c.args.self.now

pub returns-clause-added : goal.returns-clause-added
returns-clause-added c =
    subst (λ (q : PredicateTree). OnOk c.ask_kind.result (AddsGoals c.args.source c.args.environment.now (q ∷ []) c.args.self.now c.ask_kind.new.self))
    (kind-clone c.args.clause.now c.in-Ok.kind c.in-Ok.ensures.cases) c.ask_kind.ensures.added
