-- Host effect goals whose plain goals are taken to hold through a class, and what their candidates answer.
use Rattle.std.specs.Prelude.{◌<◌, ℕ, Option, Some, None, Result, IfOk, IfSome, List}
use Rattle.goal_terms.specs.PredicateTrees.{PredicateTree, holds_const}
use Rattle.goal_terms.specs.declared.answers.Response.{Response}
use Rattle.goal_terms.specs.declared.answers.TraitGoalProvenVia.{TraitGoalProvenVia}
use Rattle.goal_terms.specs.declared.modes.TypingMode.{TypingMode}
use Rattle.goal_terms.specs.declared.predicates.BoundConstness.{BoundConstness}
use Rattle.goal_terms.specs.declared.predicates.Clause.{Clause}
use Rattle.goal_lists.specs.Answers.{IsAnswer, setting_of, whether}
use Rattle.goal_kinds.specs.CandidateRules.{seen_trait}
use Rattle.goal_lists.specs.Level.{Level}
use Rattle.goal_lists.specs.Levels.{level}
use Rattle.goal_lists.specs.Premises.{TraitTree}
use Rattle.goal_lists.specs.Settings.{Setting}
use Rattle.goal_kinds.specs.declared.faults.Fault.{Fault}
use Rattle.goal_solver.specs.Answers.{IsOwed, level_over}
use Rattle.goal_solver.specs.Assembled.{level_above}
use Rattle.goal_eval.specs.Outcomes.{Says}
use Rattle.goal_solver.specs.Promises.{whether_answered, decided_in, ChangesLifetimes, NamesNoClass, LeavesUndecided}
use Rattle.goal_solver.specs.State.{State}
use Rattle.goal_solver.specs.declared.effect_goals.proven_via.HostEffectThrough.{HostEffectThrough}
use Rattle.goal_lists.specs.declared.outcomes.Outcome.{Outcome}

-- a const goal whose plain goal is taken to hold through a class
pub record HostThrough : Type 0 where
  pub class : TraitGoalProvenVia
  pub constness : BoundConstness
  pub asked : TraitTree

-- as it is asked for
abbrev pub through_at : HostEffectThrough → HostThrough
through_at g = record { class = g.class; constness = g.constness; asked = seen_trait g.asked }

-- what it asks
abbrev pub host_asked : HostThrough → PredicateTree
host_asked a = holds_const a.constness a.asked.def_id a.asked.args

-- the plain goal does hold through the class
abbrev pub HoldsThroughClass : Level → HostThrough → Type 0
HoldsThroughClass L a = L.through a.class a.asked.def_id a.asked.args

-- what an outcome says of it at a depth
abbrev pub SaysHostAt : Setting → ℕ → HostThrough → Outcome → Type 0
SaysHostAt S n a o = Says ((level S n).const_holds a.constness a.asked.def_id a.asked.args) ((level S n).const_refuted a.constness a.asked.def_id a.asked.args) o

-- where the plain goal holds through the class at the remaining depth, the candidates answer the goal as it is answered one above; what is decided lasts, and nothing but lifetimes is changed
pub record AnswersHostThrough (before after : State) (env : List Clause) (a : HostThrough) (r : Result Response Fault) : Type 0 where
  pub exact : (m : TypingMode) → IsOwed after m → HoldsThroughClass (level_over before m env) a → IfSome (whether_answered r) (IsAnswer (level_above before m env) (whether (host_asked a)))
  pub lasts : (m : TypingMode) (n : ℕ) → IsOwed after m → HoldsThroughClass (level_over before m env) a → before.remaining_depth < n →
      IfSome (decided_in (whether_answered r)) (IsAnswer (level (setting_of before.tables m env) n) (whether (host_asked a)))
  pub quiet : IfOk r (ChangesLifetimes before)
  pub no_class : IfOk r NamesNoClass

-- a goal that is asked with a class, a constness and a trait
abbrev pub host_of : TraitGoalProvenVia → BoundConstness → Option TraitTree → Option HostThrough
host_of c b None = None
host_of c b (Some q) = Some (record { class = c; constness = b; asked = q })

abbrev pub host_with : TraitGoalProvenVia → Option BoundConstness → Option TraitTree → Option HostThrough
host_with c None o = None
host_with c (Some b) o = host_of c b o

abbrev pub host_through : Option TraitGoalProvenVia → Option BoundConstness → Option TraitTree → Option HostThrough
host_through None b o = None
host_through (Some c) b o = host_with c b o

-- without one of them the goal is left undecided
abbrev pub AnswersHostGiven : State → State → List Clause → Option HostThrough → Result Response Fault → Type 0
AnswersHostGiven before after env None r = LeavesUndecided before r
AnswersHostGiven before after env (Some a) r = AnswersHostThrough before after env a r
