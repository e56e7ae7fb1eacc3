use Rattle.std.proofs.Common.{◌∙◌, arith, map}
use Rattle.goal_terms.specs.Folding.{instance}
use Rattle.goal_terms.specs.PredicateTrees.{holds_const}
use Rattle.goal_terms.specs.TreeOf.{trees_of}
use Rattle.goal_terms.specs.declared.answers.GoalSource.TheVariants as source
use Rattle.goal_terms.specs.declared.predicates.TraitRef.{TraitRef}
use Rattle.goal_solver.proofs.GoingBackLemmas.{goes_back-through}
use Rattle.goal_solver.proofs.OpenStepLemmas.{none-added, condition-under, more-added, all-added, added-back, added-faults}
use Rattle.goal_solver.proofs.context.EvalCtxt.ask_conditions.Goals as goal

pub loop-condition-init : goal.loop-condition-init
loop-condition-init c = none-added source.ImplWhereBound c.args.environment.now c.args.self.now

pub loop-condition-preserved : goal.loop-condition-preserved
loop-condition-preserved c =
    more-added (λ (r : TraitRef). holds_const c.args.constness r.def_id (map (instance (trees_of c.args.args.now)) (trees_of r.args.items))) source.ImplWhereBound c.args.environment.now c.args.conditions.now c.loop-condition.condition-index c.condition-item.result
    (holds_const c.args.constness c.in-Ok.trait_ref.def_id (trees_of c.in-Ok.trait_ref.args.items)) c.args.self.now c.loop-condition.self c.ask_kind.new.self
    (omega arith) c.condition-item.is (condition-under c.args.constness (trees_of c.args.args.now) c.condition-item.result c.in-Ok.trait_ref c.in-Ok.ensures) c.loop-condition.invariant c.in_ok-ask_kind.ensures.added

pub returns-in_default-clause-faults : goal.returns-in_default-clause-faults
returns-in_default-clause-faults c = added-faults _ _ _ c.args.self.now c.loop-condition.self c.loop-condition.invariant

pub returns-in_default-clause-goes_back : goal.returns-in_default-clause-goes_back
returns-in_default-clause-goes_back c = added-back _ _ _ c.args.self.now c.loop-condition.self c.loop-condition.invariant

pub returns-in_err-ask_kind-clause-faults : goal.returns-in_err-ask_kind-clause-faults
returns-in_err-ask_kind-clause-faults c = c.ask_kind.ensures.faults ∙ added-faults _ _ _ c.args.self.now c.loop-condition.self c.loop-condition.invariant

pub returns-in_err-ask_kind-clause-goes_back : goal.returns-in_err-ask_kind-clause-goes_back
returns-in_err-ask_kind-clause-goes_back c =
    goes_back-through c.args.self.now c.loop-condition.self c.ask_kind.new.self (added-back _ _ _ c.args.self.now c.loop-condition.self c.loop-condition.invariant) c.ask_kind.ensures.goes_back

pub returns-clause-added : goal.returns-clause-added
returns-clause-added c =
    all-added (λ (r : TraitRef). holds_const c.args.constness r.def_id (map (instance (trees_of c.args.args.now)) (trees_of r.args.items))) source.ImplWhereBound c.args.environment.now c.args.conditions.now c.loop-condition.condition-index c.args.self.now c.loop-condition.self (omega arith) c.loop-condition.invariant

pub returns-clause-faults : goal.returns-clause-faults
returns-clause-faults c = added-faults _ _ _ c.args.self.now c.loop-condition.self c.loop-condition.invariant

pub returns-clause-goes_back : goal.returns-clause-goes_back
returns-clause-goes_back c = added-back _ _ _ c.args.self.now c.loop-condition.self c.loop-condition.invariant
