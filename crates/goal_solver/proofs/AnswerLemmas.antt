-- What the calls answer at depth 0, and that no two answers disagree.
use Rattle.std.proofs.Common.{◌≡◌, ◌≢◌, inl, inr, ℕ, zero, List, [], ◌∷◌, Result, Ok, Err, refl, subst, sym, ◌∙◌}
use Rattle.std.specs.Prelude.{IfOk}
use Rattle.goal_terms.specs.declared.answers.Certainty.{Certainty}
use Rattle.goal_terms.specs.declared.answers.Certainty.TheVariants as certainty
use Rattle.goal_terms.specs.declared.answers.Response.{Response}
use Rattle.goal_terms.specs.PredicateTrees.{PredicateTree, holds, equals, holds_const}
use Rattle.goal_terms.specs.Tree.{Tree}
use Rattle.goal_terms.specs.declared.ids.TraitId.{TraitId}
use Rattle.goal_terms.specs.declared.modes.TypingMode.{TypingMode}
use Rattle.goal_terms.specs.declared.predicates.Clause.{Clause}
use Rattle.goal_terms.specs.declared.terms.AliasTermKind.{AliasTermKind}
use Rattle.goal_terms.specs.declared.terms.Term.{Term}
use Rattle.goal_lists.specs.Levels.{level}
use Rattle.goal_lists.specs.Premises.{ClauseHolds, ClauseRefuted}
use Rattle.goal_lists.specs.Settings.{Setting}
use Rattle.goal_lists.specs.Level.{Level}
use Rattle.goal_lists.proofs.AnswerLaws.{answers-agree}
use Rattle.goal_solver.specs.Answers.{IsOwed, level_over, IsMaybe, IsOpen, IsUndecided, IsAliasOpen, IsTraitResponse, IsTraitAnswer, IsAliasResponse, IsAliasAnswer, IsHoldingResponse, IsPredicateAnswer, IsConclusion}
use Rattle.goal_solver.specs.Evaluations.{SaysOf}
use Rattle.goal_solver.specs.GoingBack.{BeginsWith, GoesBack}
use Rattle.goal_eval.specs.Outcomes.{Says}
use Rattle.goal_kinds.specs.declared.faults.Fault.{Fault}
use Rattle.goal_kinds.specs.declared.faults.Fault.TheVariants as fault
use Rattle.goal_lists.specs.declared.outcomes.Outcome.{Outcome}
use Rattle.goal_lists.specs.declared.outcomes.Outcome.TheVariants as outcome
use Rattle.goal_eval.specs.declared.eval.outcomes.Stop.{Stop}
use Rattle.goal_solver.specs.State.{State}

-- at depth 0 nothing holds, and nothing is refuted
pub open-ground : (S : Setting) (n : ℕ) → n ≡ zero → (i : TraitId) (ts : List Tree) → IsOpen (level S n) i ts
unfolding level
open-ground S n e i ts = subst (λ (k : ℕ). IsOpen (level S k) i ts) (sym e) ((λ c h. h), (λ h. h))

predicate-ground : (S : Setting) (p : PredicateTree) → IsUndecided (level S zero) p
unfolding level ClauseHolds ClauseRefuted
predicate-ground S (holds i ts) = ((λ h. h.1), (λ h. h))
predicate-ground S (equals a t) = ((λ h. h), (λ h. h))
predicate-ground S (holds_const c i ts) = ((λ h. h), (λ h. h))

pub undecided-ground : (S : Setting) (n : ℕ) → n ≡ zero → (p : PredicateTree) → IsUndecided (level S n) p
undecided-ground S n e p = subst (λ (k : ℕ). IsUndecided (level S k) p) (sym e) (predicate-ground S p)

pub alias_open-ground : (S : Setting) (n : ℕ) → n ≡ zero → (k : AliasTermKind) (ts : List Tree) → IsAliasOpen (level S n) k ts
unfolding level
alias_open-ground S n e k ts = subst (λ (j : ℕ). IsAliasOpen (level S j) k ts) (sym e) ((λ t u h. h), (λ h. h))

-- what is owed after a call was owed before it
begins-empty : {A : Type 0} (xs ys : List A) → BeginsWith ys xs → ys ≡ [] → xs ≡ []
begins-empty [] ys b e = refl
begins-empty (x ∷ xs) [] b e = absurd (cc)
begins-empty (x ∷ xs) (y ∷ ys) b e = absurd (cc)

pub owed-before : (b z : State) (m : TypingMode) → GoesBack b z → IsOwed z m → IsOwed b m
owed-before b z m g (inl h) = inl (sym g.typing_mode ∙ h)
owed-before b z m g (inr h) = inr (sym g.typing_mode ∙ h.0, h.1, begins-empty b.accesses z.accesses g.accesses h.2)

yes_is_not_maybe : certainty.Yes ≡ certainty.Maybe → ⊥
yes_is_not_maybe e = absurd (cc)

-- what is answered yes holds, and what is refused is refuted
yes-holds : (L : Level) (p : PredicateTree) (o : Result Outcome Stop) (x : Certainty) → IfOk o (Says (ClauseHolds L p) (ClauseRefuted L p)) →
    (x ≡ certainty.Yes → o ≡ Ok outcome.Holds) → IsHoldingResponse L p x
yes-holds L p o certainty.Yes h sure = subst (λ q. IfOk q (Says (ClauseHolds L p) (ClauseRefuted L p))) (sure refl) h
yes-holds L p o certainty.Maybe h sure = tt

pub answered-soundly : (L : Level) (p : PredicateTree) (o : Result Outcome Stop) (r : Result Response Fault) → IfOk o (Says (ClauseHolds L p) (ClauseRefuted L p)) →
    IfOk r (λ x. x.certainty ≡ certainty.Yes → o ≡ Ok outcome.Holds) → (r ≡ Err fault.NoSolution → o ≡ Ok outcome.Refuted) → IsPredicateAnswer L p r
answered-soundly L p o (Ok x) h sure never = yes-holds L p o x.certainty h sure
answered-soundly L p o (Err fault.NoSolution) h sure never = subst (λ q. IfOk q (Says (ClauseHolds L p) (ClauseRefuted L p))) (never refl) h
answered-soundly L p o (Err fault.RerunNonErased) h sure never = tt
answered-soundly L p o (Err fault.OutOfMemory) h sure never = tt
answered-soundly L p o (Err fault.NotForThisKind) h sure never = tt

-- an answer that isn't sure is sound, if its refusal is
unsure-trait : (L : Level) (i : TraitId) (ts : List Tree) (x : Certainty) (r : Response) → (x ≡ certainty.Yes → ⊥) → IsTraitResponse L i ts x r
unsure-trait L i ts certainty.Yes r h = absurd (h refl)
unsure-trait L i ts certainty.Maybe r h = tt

pub trait-unsure : (L : Level) (i : TraitId) (ts : List Tree) (r : Result Response Fault) → IfOk r (λ x. x.certainty ≢ certainty.Yes) → (r ≡ Err fault.NoSolution → L.trait_refuted i ts) → IsTraitAnswer L i ts r
trait-unsure L i ts (Ok x) h never = unsure-trait L i ts x.certainty x h
trait-unsure L i ts (Err fault.NoSolution) h never = never refl
trait-unsure L i ts (Err fault.RerunNonErased) h never = tt
trait-unsure L i ts (Err fault.OutOfMemory) h never = tt
trait-unsure L i ts (Err fault.NotForThisKind) h never = tt

unsure-alias : (L : Level) (k : AliasTermKind) (ts : List Tree) (e : Term) (x : Certainty) (r : Response) → (x ≡ certainty.Yes → ⊥) → IsAliasResponse L k ts e x r
unsure-alias L k ts e certainty.Yes r h = absurd (h refl)
unsure-alias L k ts e certainty.Maybe r h = tt

pub alias-unsure : (L : Level) (k : AliasTermKind) (ts : List Tree) (e : Term) (r : Result Response Fault) → IfOk r (λ x. x.certainty ≢ certainty.Yes) → (r ≡ Err fault.NoSolution → L.gives_refuted k ts) → IsAliasAnswer L k ts e r
alias-unsure L k ts e (Ok x) h never = unsure-alias L k ts e x.certainty x h
alias-unsure L k ts e (Err fault.NoSolution) h never = never refl
alias-unsure L k ts e (Err fault.RerunNonErased) h never = tt
alias-unsure L k ts e (Err fault.OutOfMemory) h never = tt
alias-unsure L k ts e (Err fault.NotForThisKind) h never = tt

-- a conclusion is undecided only where the outcome is
pub concluded-open : (L : Level) (p : PredicateTree) (o : Result Outcome Stop) (r : Result Response Fault) → IfOk o (Says (ClauseHolds L p) (ClauseRefuted L p)) →
    IsConclusion o r → IsMaybe r → IsUndecided L p
concluded-open L p (Ok outcome.Holds) (Ok x) h c e = absurd (yes_is_not_maybe (sym c.0 ∙ e))
concluded-open L p (Ok outcome.Holds) (Err f) h c e = absurd e
concluded-open L p (Ok outcome.Refuted) r h c e = absurd (subst IsMaybe c e)
concluded-open L p (Ok outcome.Undecided) r h c e = h
concluded-open L p (Err s) (Ok x) h c e = absurd c
concluded-open L p (Err s) (Err f) h c e = absurd e

-- the call answers soundly where it owes an answer, and leaves undecided only what is so
pub predicate-sound : (a b z : State) (env : List Clause) (p : PredicateTree) (o : Result Outcome Stop) (r : Result Response Fault) → GoesBack b z → SaysOf a b env p o →
    IfOk r (λ x. x.certainty ≡ certainty.Yes → o ≡ Ok outcome.Holds) → (r ≡ Err fault.NoSolution → o ≡ Ok outcome.Refuted) →
    (m : TypingMode) → IsOwed z m → IsPredicateAnswer (level_over a m env) p r
predicate-sound a b z env p o r g says sure never m owed = answered-soundly (level_over a m env) p o r (says m (owed-before b z m g owed)) sure never

pub predicate-decided : (a b z : State) (env : List Clause) (p : PredicateTree) (o : Result Outcome Stop) (r : Result Response Fault) → GoesBack b z →
    SaysOf a b env p o → IsConclusion o r → (m : TypingMode) → IsOwed z m → IsMaybe r → IsUndecided (level_over a m env) p
predicate-decided a b z env p o r g says concluded m owed = concluded-open (level_over a m env) p o r (says m (owed-before b z m g owed)) concluded

-- no two answers disagree
pub ruleset answering = (answers-agree)
