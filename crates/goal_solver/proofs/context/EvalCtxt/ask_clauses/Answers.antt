use Rattle.std.proofs.Common.{◌∙◌, arith}
use Rattle.goal_terms.specs.Folding.{instantiating}
use Rattle.goal_terms.specs.PredicateTrees.{tree_of_kind, folded_predicate}
use Rattle.goal_terms.specs.TreeOf.{trees_of}
use Rattle.goal_terms.specs.declared.predicates.Clause.{Clause}
use Rattle.goal_solver.proofs.GoingBackLemmas.{goes_back-through}
use Rattle.goal_solver.proofs.OpenStepLemmas.{none-added, more-added, all-added, added-back, added-faults}
use Rattle.goal_solver.proofs.context.EvalCtxt.ask_clauses.Goals as goal

pub loop-clause-init : goal.loop-clause-init
loop-clause-init c = none-added c.args.source c.args.environment.now c.args.self.now

pub loop-clause-preserved : goal.loop-clause-preserved
loop-clause-preserved c =
    more-added (λ (k : Clause). folded_predicate (instantiating (trees_of c.args.args.now)) 0 (tree_of_kind k.kind)) c.args.source c.args.environment.now c.args.clauses.now c.loop-clause.clause-index c.clause-item.result
    (tree_of_kind c.in-Ok.kind) c.args.self.now c.loop-clause.self c.ask_kind.new.self
    (omega arith) c.clause-item.is c.in-Ok.ensures c.loop-clause.invariant c.in_ok-ask_kind.ensures.added

pub returns-in_default-clause-faults : goal.returns-in_default-clause-faults
returns-in_default-clause-faults c = added-faults _ _ _ c.args.self.now c.loop-clause.self c.loop-clause.invariant

pub returns-in_default-clause-goes_back : goal.returns-in_default-clause-goes_back
returns-in_default-clause-goes_back c = added-back _ _ _ c.args.self.now c.loop-clause.self c.loop-clause.invariant

pub returns-in_err-ask_kind-clause-faults : goal.returns-in_err-ask_kind-clause-faults
returns-in_err-ask_kind-clause-faults c = c.ask_kind.ensures.faults ∙ added-faults _ _ _ c.args.self.now c.loop-clause.self c.loop-clause.invariant

pub returns-in_err-ask_kind-clause-goes_back : goal.returns-in_err-ask_kind-clause-goes_back
returns-in_err-ask_kind-clause-goes_back c =
    goes_back-through c.args.self.now c.loop-clause.self c.ask_kind.new.self (added-back _ _ _ c.args.self.now c.loop-clause.self c.loop-clause.invariant) c.ask_kind.ensures.goes_back

pub returns-clause-added : goal.returns-clause-added
returns-clause-added c =
    all-added (λ (k : Clause). folded_predicate (instantiating (trees_of c.args.args.now)) 0 (tree_of_kind k.kind)) c.args.source c.args.environment.now c.args.clauses.now c.loop-clause.clause-index c.args.self.now c.loop-clause.self (omega arith) c.loop-clause.invariant

pub returns-clause-faults : goal.returns-clause-faults
returns-clause-faults c = added-faults _ _ _ c.args.self.now c.loop-clause.self c.loop-clause.invariant

pub returns-clause-goes_back : goal.returns-clause-goes_back
returns-clause-goes_back c = added-back _ _ _ c.args.self.now c.loop-clause.self c.loop-clause.invariant
