use Rattle.std.proofs.Common.{refl}
use Rattle.goal_solver.proofs.CloneLemmas.{clause-regions, clause-kind}
use Rattle.goal_terms.specs.contracts.predicates.ClauseClone.TheImpl.{is_clone-value}
use Rattle.goal_terms.specs.PredicateTrees.{tree_of_kind}
use Rattle.goal_terms.specs.declared.predicates.Clause.{Clause}
use Rattle.goal_solver.proofs.BindingLemmas.{on_ok-map, zip-map}
use Rattle.goal_solver.proofs.GoingBackLemmas.{goes_back-same}
use Rattle.goal_solver.proofs.context.EvalCtxt.add_normalization.Goals as goal

pub returns-in_default-clause-goes_back : goal.returns-in_default-clause-goes_back
returns-in_default-clause-goes_back c = goes_back-same c.args.self.now

pub returns-in_default-clone-clause-goes_back : goal.returns-in_default-clone-clause-goes_back
returns-in_default-clone-clause-goes_back c = goes_back-same c.args.self.now

pub returns-clause-added : goal.returns-clause-added
returns-clause-added c = on_ok-map c.add_goal.result (λ e. record {
  added = _;
  normalizes = _;
  is = e;
  asks = refl;
  environment = zip-map is_clone-value.it (λ (d : Clause). d.bound_regions) clause-regions _ _ c.in-Ok.ensures.ok;
  clauses = zip-map is_clone-value.it (λ (d : Clause). tree_of_kind d.kind) clause-kind _ _ c.in-Ok.ensures.ok;
  same_alias = refl;
  same_term = c.in-Ok-clone.ensures.cases;
}) c.add_goal.ensures.added
