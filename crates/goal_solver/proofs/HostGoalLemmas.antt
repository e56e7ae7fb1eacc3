-- What the candidates of a host effect goal answer, where its plain goal holds through a class.
use Rattle.std.proofs.Common.{◌≡◌, suc, List, [], Option, Some, None, length, Result, Ok, Err, sym, ◌∙◌, ap, subst, arith}
use Rattle.std.specs.Option.{option_map}
use Rattle.std.specs.Prelude.{IfOk}
use Rattle.goal_terms.specs.declared.answers.Certainty.TheVariants as certainty
use Rattle.goal_terms.specs.declared.answers.Response.{Response}
use Rattle.goal_terms.specs.declared.answers.TraitGoalProvenVia.{TraitGoalProvenVia}
use Rattle.goal_terms.specs.declared.modes.TypingMode.{TypingMode}
use Rattle.goal_terms.specs.declared.predicates.BoundConstness.{BoundConstness}
use Rattle.goal_terms.specs.declared.predicates.Clause.{Clause}
use Rattle.goal_lists.specs.Answers.{setting_of}
use Rattle.goal_kinds.specs.CandidateRules.{seen_trait}
use Rattle.goal_lists.specs.Premises.{TraitTree, ClauseHolds, ClauseRefuted}
use Rattle.goal_kinds.specs.declared.faults.Fault.{Fault}
use Rattle.goal_kinds.specs.declared.faults.Fault.TheVariants as fault
use Rattle.goal_kinds.specs.declared.goal_kind.TraitView.{TraitView}
use Rattle.goal_lists.proofs.WithinLevels.{within-level}
use Rattle.goal_solver.specs.Answers.{IsConclusion, IsOwed, level_over, IsPredicateAnswer, IsUndecided, IsMaybe, AnswersAside}
use Rattle.goal_solver.specs.Assembled.{level_above}
use Rattle.goal_solver.specs.GoingBack.{GoesBack}
use Rattle.goal_solver.specs.HostGoals.{HostThrough, HoldsThroughClass, SaysHostAt, host_asked, AnswersHostThrough, AnswersHostGiven, host_with, host_through}
use Rattle.goal_eval.specs.Outcomes.{Says}
use Rattle.goal_solver.specs.Promises.{LeavesUndecided, NamesNoClass}
use Rattle.goal_solver.specs.State.{State, kinds_of}
use Rattle.goal_lists.specs.declared.outcomes.Outcome.{Outcome}
use Rattle.goal_lists.specs.declared.outcomes.Outcome.TheVariants as outcome
use Rattle.goal_eval.specs.declared.eval.outcomes.Stop.{Stop}
use Rattle.goal_solver.proofs.AnswerLemmas.{owed-before, answered-soundly, concluded-open}
use Rattle.goal_solver.proofs.PromiseLemmas.{whether-right, whether-lasts, changes-lifetimes}

-- an evaluation, and what is concluded from it
module _ (a b z : State) (env : List Clause) (q : HostThrough) (o : Result Outcome Stop) (r : Result Response Fault) (g : GoesBack b z)
    (says : (m : TypingMode) → IsOwed b m → HoldsThroughClass (level_over a m env) q → IfOk o (SaysHostAt (setting_of a.tables m env) (suc a.remaining_depth) q)) where
  said : (m : TypingMode) → IsOwed z m → HoldsThroughClass (level_over a m env) q →
      IfOk o (Says (ClauseHolds (level_above a m env) (host_asked q)) (ClauseRefuted (level_above a m env) (host_asked q)))
  unfolding ClauseHolds ClauseRefuted
  said m owed h = says m (owed-before b z m g owed) h

  pub host-sound : IfOk r (λ x. x.certainty ≡ certainty.Yes → o ≡ Ok outcome.Holds) → (r ≡ Err fault.NoSolution → o ≡ Ok outcome.Refuted) →
      (m : TypingMode) → IsOwed z m → HoldsThroughClass (level_over a m env) q → IsPredicateAnswer (level_above a m env) (host_asked q) r
  host-sound sure never m owed h = answered-soundly (level_above a m env) (host_asked q) o r (said m owed h) sure never

  pub host-decided : IsConclusion o r →
      (m : TypingMode) → IsOwed z m → HoldsThroughClass (level_over a m env) q → IsMaybe r → IsUndecided (level_above a m env) (host_asked q)
  host-decided concluded m owed h = concluded-open (level_above a m env) (host_asked q) o r (said m owed h) concluded

-- so the goal is answered
pub answers-host_through : (before after : State) (env : List Clause) (q : HostThrough) (r : Result Response Fault) →
    ((m : TypingMode) → IsOwed after m → HoldsThroughClass (level_over before m env) q → IsPredicateAnswer (level_above before m env) (host_asked q) r) →
    ((m : TypingMode) → IsOwed after m → HoldsThroughClass (level_over before m env) q → IsMaybe r → IsUndecided (level_above before m env) (host_asked q)) →
    AnswersAside (length (kinds_of before)) r → IfOk r (λ x. x.var_values.items ≡ []) → IfOk r NamesNoClass → AnswersHostThrough before after env q r
answers-host_through before after env q r sound decided quiet values unnamed = record {
  exact = λ m owed h. whether-right (level_above before m env) (host_asked q) r (sound m owed h) (decided m owed h);
  lasts = λ m n owed h le. whether-lasts (within-level (setting_of before.tables m env) (suc before.remaining_depth) n (omega arith)) (host_asked q) r (sound m owed h);
  quiet = changes-lifetimes before r quiet values;
  no_class = unnamed;
}

-- what is asked with a class, by what a goal has
pub asked-with : (before after : State) (env : List Clause) (c : TraitGoalProvenVia) (b : BoundConstness) (v : TraitView) (o : Option BoundConstness) (p : Option TraitView) (q : Option TraitTree)
    (r : Result Response Fault) → o ≡ Some b → p ≡ Some v → option_map seen_trait p ≡ q →
    AnswersHostThrough before after env (record { class = c; constness = b; asked = seen_trait v }) r → AnswersHostGiven before after env (host_with c o q) r
asked-with before after env c b v o p q r e f g h =
    subst (λ x. AnswersHostGiven before after env (host_with c x q) r) (sym e)
    (subst (λ x. AnswersHostGiven before after env (host_with c (Some b) x) r) (ap (option_map seen_trait) (sym f) ∙ g) h)

-- a goal without a constness, or without a trait, is left undecided
pub unasked : (before after : State) (env : List Clause) (c : TraitGoalProvenVia) (o : Option BoundConstness) (q : Option TraitTree) (r : Result Response Fault) → o ≡ None →
    LeavesUndecided before r → AnswersHostGiven before after env (host_with c o q) r
unasked before after env c o q r e h = subst (λ x. AnswersHostGiven before after env (host_with c x q) r) (sym e) h

host-untraited : (before after : State) (env : List Clause) (c : TraitGoalProvenVia) (o : Option BoundConstness) (r : Result Response Fault) → LeavesUndecided before r →
    AnswersHostGiven before after env (host_with c o None) r
host-untraited before after env c None r h = h
host-untraited before after env c (Some b) r h = h

pub untraited : (before after : State) (env : List Clause) (c : TraitGoalProvenVia) (o : Option BoundConstness) (p : Option TraitView) (q : Option TraitTree) (r : Result Response Fault) →
    p ≡ None → option_map seen_trait p ≡ q → LeavesUndecided before r → AnswersHostGiven before after env (host_with c o q) r
untraited before after env c o p q r e f h =
    subst (λ x. AnswersHostGiven before after env (host_with c o x) r) (ap (option_map seen_trait) (sym e) ∙ f) (host-untraited before after env c o r h)

-- a goal is asked for with a class
pub class-given : (before after : State) (env : List Clause) (v : Option TraitGoalProvenVia) (c : TraitGoalProvenVia) (o : Option BoundConstness) (q : Option TraitTree) (r : Result Response Fault) → v ≡ Some c →
    AnswersHostGiven before after env (host_with c o q) r → AnswersHostGiven before after env (host_through v o q) r
class-given before after env v c o q r e h = subst (λ x. AnswersHostGiven before after env (host_through x o q) r) (sym e) h

pub class-missing : (before after : State) (env : List Clause) (v : Option TraitGoalProvenVia) (o : Option BoundConstness) (q : Option TraitTree) (r : Result Response Fault) → v ≡ None →
    LeavesUndecided before r → AnswersHostGiven before after env (host_through v o q) r
class-missing before after env v o q r e h = subst (λ x. AnswersHostGiven before after env (host_through x o q) r) (sym e) h
