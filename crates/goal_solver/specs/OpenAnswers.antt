-- How goals with inference variables are answered where a self type is an alias with some: the goal of its term is answered in the same way, at one less of the depth.
use Rattle.std.specs.Prelude.{◌≡◌, true, ℕ, zero, suc, List, Option, Result}
use Rattle.goal_terms.specs.declared.answers.Response.{Response}
use Rattle.goal_terms.specs.declared.answers.TraitGoalProvenVia.{TraitGoalProvenVia}
use Rattle.goal_terms.specs.declared.modes.TypingMode.{TypingMode}
use Rattle.goal_terms.specs.declared.predicates.Clause.{Clause}
use Rattle.goal_terms.specs.declared.predicates.Goal.{Goal}
use Rattle.goal_terms.specs.declared.predicates.NormalizesTo.{NormalizesTo}
use Rattle.goal_terms.specs.declared.predicates.TraitPredicate.{TraitPredicate}
use Rattle.goal_terms.specs.declared.terms.AliasTerm.{AliasTerm}
use Rattle.goal_terms.specs.declared.terms.Term.{Term}
use Rattle.goal_terms.specs.declared.terms.Ty.{Ty}
use Rattle.goal_kinds.specs.declared.faults.Fault.{Fault}
use Rattle.goal_eval.specs.ErasedArgs.{erased_args}
use Rattle.goal_solver.specs.Answers.{IsOwed, level_over, AreClosed, IsTraitAnswer, IsOpen, IsMaybe}
use Rattle.goal_kinds.specs.Collecting.{Kind}
use Rattle.goal_solver.specs.GoingBack.{restored, at_depth}
use Rattle.goal_solver.specs.HeadForms.{bound_term, is_open_form}
use Rattle.goal_solver.specs.OpenForms.{Answering, OpensForm, with_taking}
use Rattle.goal_solver.specs.OpenGoals.{AsksOpenSelf, FormedBy, InTrialWith, MergesGoalWith, MergesOpenedWith, MergesTraitWith, WhenAnswered}
use Rattle.goal_solver.specs.OpenProjections.{MergesProjectionWith, MergesThroughWith}
use Rattle.goal_solver.specs.State.{State}

-- the goal of an alias's term is asked in a context with the fresh variable that takes it, and nothing is bound
abbrev pub answers_by : Answering → Answering
answers_by Merges g s r u = (u ≡ restored (with_taking g.predicate.alias.kind s) u) × Merges g s r u

-- one less, if there is one
abbrev pub less : ℕ → ℕ
less zero = zero
less (suc n) = n

-- what such a goal is answered with so much depth left: nothing is said without any, and else it is answered at one less, where self types are opened with one less, and in the trait goal's with two less
unfoldable pub merges_at : ℕ → Answering
merges_at zero = λ g s r u. Unit {0}
merges_at (suc zero) = λ g s r u.
    MergesProjectionWith (answers_by (merges_at zero)) (answers_by (merges_at zero)) g (at_depth zero (with_taking g.predicate.alias.kind s)) r (at_depth zero u)
merges_at (suc (suc n)) = λ g s r u.
    MergesProjectionWith (answers_by (merges_at (suc n))) (answers_by (merges_at n)) g (at_depth (suc n) (with_taking g.predicate.alias.kind s)) r (at_depth (suc n) u)

-- what it is answered with a depth left, which is a context's own, or one less
abbrev pub answers_at : ℕ → Answering
answers_at n = answers_by (merges_at n)

-- the goal of the term of an alias with inference variables, which a fresh variable takes, is answered as `compute_normalizes_to_goal` does it
abbrev pub answers_term : Answering
answers_term g s r u = answers_at s.remaining_depth g s r u

-- the head form of a term that is an alias with inference variables, or that is asked for in an environment with one: the goal of the alias's term is answered so
abbrev pub OpensTerm : List Clause → Term → State → Result (Option Term) Fault → State → Type 0
OpensTerm env e s r z = is_open_form (bound_term s e) env ≡ true → OpensForm answers_term env (bound_term s e) s r z

-- the goal of a projection's term is answered, and so is one through a class
abbrev pub MergesProjection : Goal NormalizesTo → State → Result Response Fault → State → Type 0
MergesProjection g s r u = MergesProjectionWith (answers_at s.remaining_depth) (answers_at (less s.remaining_depth)) g s r u

abbrev pub MergesThrough : {P : Type 0} → Kind P → NormalizesTo → TraitGoalProvenVia → Goal P → State → Result Response Fault → State → Type 0
MergesThrough K p c g s r u = MergesThroughWith (answers_at s.remaining_depth) K p c g s r u

-- a goal is answered by its candidates, and so is a trait goal
abbrev pub MergesGoal : {P : Type 0} → Kind P → Goal P → State → Result Response Fault → State → Type 0
MergesGoal K g s r u = MergesGoalWith (answers_at s.remaining_depth) K g s r u

abbrev pub MergesTrait : Goal TraitPredicate → State → Result Response Fault → State → Type 0
MergesTrait g s r u = MergesTraitWith (answers_at s.remaining_depth) g s r u

-- a trait goal is answered, as `compute_trait_goal` does it
pub record AnswersTrait (q : Goal TraitPredicate) (old new : State) (r : Result Response Fault) : Type 0 where
  pub sound : (m : TypingMode) → IsOwed new m → AreClosed q.predicate.trait_ref.args.items q.param_env.items →
      IsTraitAnswer (level_over old m q.param_env.items) q.predicate.trait_ref.def_id (erased_args q.predicate.trait_ref.args.items) r
  pub decided : (m : TypingMode) → IsOwed new m → AreClosed q.predicate.trait_ref.args.items q.param_env.items → IsMaybe r →
      IsOpen (level_over old m q.param_env.items) q.predicate.trait_ref.def_id (erased_args q.predicate.trait_ref.args.items)
  pub merges : (n : ℕ) → (AreClosed q.predicate.trait_ref.args.items q.param_env.items → ⊥) → old.remaining_depth ≡ suc n →
      WhenAnswered r (MergesTrait q (at_depth n old) r (at_depth n new))
  pub back : new ≡ restored old new

-- the head form of an alias with inference variables is asked for, and then a goal is answered by it
abbrev pub InTrial : FormedBy → List Clause → AliasTerm → State → Result (Option Response) Fault → State → Type 0
InTrial By env l s r u = InTrialWith (answers_at s.remaining_depth) By env l s r u

-- so it is in a trial, for an alias that is the self type
abbrev pub MergesOpened : {P : Type 0} → (P → Option Ty) → FormedBy → Goal P → State → Result Response Fault → State → Type 0
MergesOpened self_of By g s r u = MergesOpenedWith (answers_at s.remaining_depth) self_of By g s r u

-- it is so where such an alias is the self type, but for terms and records
abbrev pub OpensIfAsked : {P : Type 0} → (P → Option Ty) → FormedBy → Goal P → State → Result Response Fault → State → Type 0
OpensIfAsked self_of By g s r u = AsksOpenSelf self_of g s → (z : State) × (z ≡ restored s z) × WhenAnswered r (MergesOpened self_of By g z r u)
