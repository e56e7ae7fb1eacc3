-- What the outcome of an equation says.
use Rattle.std.specs.Prelude.{IfOk, Result}
use Rattle.goal_terms.specs.PredicateTrees.{equals}
use Rattle.goal_terms.specs.Tree.{Tree}
use Rattle.goal_lists.specs.Level.{Level}
use Rattle.goal_lists.specs.Premises.{predicate, ClauseHolds, ClauseRefuted, PremiseHolds, PremiseRefuted}
use Rattle.goal_eval.specs.Outcomes.{Says}
use Rattle.goal_lists.specs.declared.outcomes.Outcome.{Outcome}
use Rattle.goal_eval.specs.declared.eval.outcomes.Stop.{Stop}

-- the premise of an equation says what the equation does
pub equation-says : (L : Level) (a b : Tree) (r : Result Outcome Stop) →
    IfOk r (Says (PremiseHolds L (predicate (equals a b))) (PremiseRefuted L (predicate (equals a b)))) → IfOk r (Says (L.equation_holds a b) (L.equation_refuted a b))
unfolding PremiseHolds PremiseRefuted ClauseHolds ClauseRefuted
equation-says L a b r h = h
