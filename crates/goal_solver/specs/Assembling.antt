-- What the candidates of a goal make it, by how its kind merges them: a closed goal is answered right, and another one by what its candidates' rules come to.
use Rattle.std.specs.Prelude.{◌≡◌, ℕ, Bool, false, Option, Some, Result}
use Rattle.goal_terms.specs.declared.answers.Response.{Response}
use Rattle.goal_terms.specs.declared.answers.TraitGoalProvenVia.{TraitGoalProvenVia}
use Rattle.goal_terms.specs.declared.heads.Node.{Node}
use Rattle.goal_terms.specs.declared.predicates.Goal.{Goal}
use Rattle.goal_terms.specs.declared.predicates.NormalizesTo.{NormalizesTo}
use Rattle.goal_kinds.specs.KindWords.{KindWords}
use Rattle.goal_kinds.specs.declared.faults.Fault.{Fault}
use Rattle.goal_kinds.specs.declared.goal_kind.MergeRule.TheVariants as merge
use Rattle.goal_solver.specs.Answers.{is_closed_alias, expected_variable}
use Rattle.goal_kinds.specs.Collecting.{Kind}
use Rattle.goal_solver.specs.HostGoals.{AnswersHostGiven, host_through}
use Rattle.goal_solver.specs.OpenAnswers.{MergesGoal, MergesThrough}
use Rattle.goal_solver.specs.OpenGoals.{WhenAnswered}
use Rattle.goal_solver.specs.OpenHostGoals.{MergesConst}
use Rattle.goal_solver.specs.Promises.{AnswersGiven, AnswersTraitAbove, AppliesGiven, IsClosedGoal, Through, asked_through}
use Rattle.goal_solver.specs.State.{State}

-- a call that answers a goal: the context before and after it, and its result
pub record AnswerStep : Type 0 where
  pub old : State
  pub new : State
  pub result : Result Response Fault

abbrev pub step : State → State → Result Response Fault → AnswerStep
step s u r = record { old = s; new = u; result = r }

-- a goal, and the class through which the trait goal behind it is taken to hold, if one is named
pub record GoalVia (P : Type 0) : Type 0 where
  pub goal : Goal P
  pub class : Option TraitGoalProvenVia

abbrev pub goal_via : {P : Type 0} → Goal P → Option TraitGoalProvenVia → GoalVia P
goal_via g c = record { goal = g; class = c }

-- a trait goal: the answer is that of the goal one above the remaining depth
abbrev pub AnswersAsTrait : {P : Type 0} → KindWords P → (P → (Node → Bool) → Bool) → Goal P → AnswerStep → Type 0
AnswersAsTrait K has g s =
    K.merging ≡ merge.TraitGoals → IsClosedGoal has g → AnswersTraitAbove s.old s.new g.param_env.items (K.asked g.predicate s.old.tables) s.result

abbrev pub MergesAsTrait : {P : Type 0} → Kind P → (P → (Node → Bool) → Bool) → Goal P → AnswerStep → Type 0
MergesAsTrait K has g s =
    K.words.merging ≡ merge.TraitGoals → (IsClosedGoal has g → ⊥) → WhenAnswered s.result (MergesGoal K g s.old s.result s.new)

-- a goal that a trait holds as a const trait, whose plain goal is taken to hold through a class
abbrev pub AnswersAsHost : {P : Type 0} → KindWords P → (P → (Node → Bool) → Bool) → GoalVia P → AnswerStep → Type 0
AnswersAsHost K has g s =
    K.merging ≡ merge.HostEffectGoals → IsClosedGoal has g.goal →
    AnswersHostGiven s.old s.new g.goal.param_env.items (host_through g.class (K.constness g.goal.predicate) (K.asked g.goal.predicate s.old.tables)) s.result

abbrev pub MergesAsHost : {P : Type 0} → Kind P → (P → (Node → Bool) → Bool) → GoalVia P → AnswerStep → Type 0
MergesAsHost K has g s =
    (c : TraitGoalProvenVia) → K.words.merging ≡ merge.HostEffectGoals → g.class ≡ Some c → (IsClosedGoal has g.goal → ⊥) →
    WhenAnswered s.result (MergesConst K c g.goal s.old s.result s.new)

-- an alias through a class, by the candidates of a goal
abbrev pub MergesGiven : {P : Type 0} → Kind P → Option Through → Goal P → AnswerStep → Type 0
MergesGiven K o g s =
    (a : Through) (k : ℕ) → o ≡ Some a → is_closed_alias a.asked.alias g.param_env.items ≡ false → expected_variable a.asked.term ≡ Some k →
    WhenAnswered s.result (MergesThrough K a.asked a.class g s.old s.result s.new)

-- a projection, whose trait goal is taken to hold through a class; `alias_of` says which alias a predicate asks for
abbrev pub AnswersAsAlias : {P : Type 0} → KindWords P → (P → Option NormalizesTo) → GoalVia P → AnswerStep → Type 0
AnswersAsAlias K alias_of g s =
    K.merging ≡ merge.Projections → AnswersGiven s.old s.new g.goal.param_env.items (asked_through K.merging g.class (alias_of g.goal.predicate)) s.result

abbrev pub MergesAsAlias : {P : Type 0} → Kind P → (P → Option NormalizesTo) → GoalVia P → AnswerStep → Type 0
MergesAsAlias K alias_of g s = MergesGiven K (asked_through K.words.merging g.class (alias_of g.goal.predicate)) g.goal s

-- the response can be applied: that to a projection where its trait goal does hold through the class, and where other variables stand in it
abbrev pub AppliesAssembled : {P : Type 0} → KindWords P → (P → Option NormalizesTo) → GoalVia P → AnswerStep → Type 0
AppliesAssembled K alias_of g s = AppliesGiven s.old s.new g.goal.param_env.items (asked_through K.merging g.class (alias_of g.goal.predicate)) s.result
