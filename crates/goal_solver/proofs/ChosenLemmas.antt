-- A term that a clause chooses, in a list with inference variables.
use Rattle.std.proofs.Common.{◌≡◌, false, List, [], ◌∷◌, inl, inr, Result, Ok, Err, sym, subst}
use Rattle.std.specs.Prelude.{IfOk}
use Rattle.goal_terms.specs.Tree.{Tree}
use Rattle.goal_terms.specs.TreeOf.{tree_of_term}
use Rattle.goal_terms.specs.declared.answers.Certainty.{Certainty}
use Rattle.goal_terms.specs.declared.answers.Certainty.TheVariants as certainty
use Rattle.goal_terms.specs.declared.predicates.Clause.{Clause}
use Rattle.goal_terms.specs.declared.predicates.ClauseKind.{ClauseKind}
use Rattle.goal_terms.specs.declared.predicates.Goal.{Goal}
use Rattle.goal_terms.specs.declared.predicates.Predicate.{Predicate}
use Rattle.goal_terms.specs.declared.terms.Term.{Term}
use Rattle.goal_kinds.specs.declared.faults.Fault.{Fault}
use Rattle.goal_kinds.specs.declared.faults.Fault.TheVariants as fault
use Rattle.goal_kinds.specs.declared.rules.RuleTerm.{RuleTerm}
use Rattle.goal_kinds.specs.declared.rules.RuleTerm.TheVariants as term
use Rattle.goal_solver.specs.AddedGoals.{AnswersGoal}
use Rattle.goal_solver.specs.GoingBack.{GoesBack, restored}
use Rattle.goal_solver.specs.OpenForms.{is_sure}
use Rattle.goal_solver.specs.OpenRuns.{AnswersAlone, AsksFor, Chooses, Equates, GivesTerm, WhenAsked}
use Rattle.goal_solver.specs.Refusals.{RefusesChoice, RefusesTerm}
use Rattle.goal_solver.specs.Relating.{ChangesRecords}
use Rattle.goal_solver.specs.State.{State}

when-asked : (r : Result Certainty Fault) (A : Type 0) → A → WhenAsked r A
when-asked (Ok c) A a = a
when-asked (Err fault.NoSolution) A a = a
when-asked (Err fault.RerunNonErased) A a = tt
when-asked (Err fault.OutOfMemory) A a = tt
when-asked (Err fault.NotForThisKind) A a = tt

-- a clause is asked as a goal by itself
pub asked-alone : (env : List Clause) (k : ClauseKind) (s u : State) (g : Goal Predicate) (r : Result Certainty Fault) → AsksFor env k g → AnswersGoal s u g r → ChangesRecords s u →
    (is_sure r ≡ false → u ≡ restored s u) → GoesBack s u → WhenAsked r (AnswersAlone env k s u r)
asked-alone env k s u g r asks answer alone undone back =
    when-asked r (AnswersAlone env k s u r) (record { goal = g; asks = asks; answer = answer; alone = alone; undone = undone; back = back })

-- and decided
pub chooses-held : (env : List Clause) (v : Tree) (k : ClauseKind) (held refuted : Tree) (s z u : State) (r : Result Certainty Fault) → AnswersAlone env k s z (Ok certainty.Yes) →
    IfOk r (Equates env (v ∷ []) (held ∷ []) z u) → IfOk r (λ c. Chooses env v k held refuted s c u)
chooses-held env v k held refuted s z u (Ok c) answers equates = inl (z, answers, equates)
chooses-held env v k held refuted s z u (Err f) answers equates = tt

pub chooses-refuted : (env : List Clause) (v : Tree) (k : ClauseKind) (held refuted : Tree) (s z u : State) (r : Result Certainty Fault) → AnswersAlone env k s z (Err fault.NoSolution) →
    IfOk r (Equates env (v ∷ []) (refuted ∷ []) z u) → IfOk r (λ c. Chooses env v k held refuted s c u)
chooses-refuted env v k held refuted s z u (Ok c) answers equates = inr (inl (z, answers, equates))
chooses-refuted env v k held refuted s z u (Err f) answers equates = tt

-- what an entry says whose term a clause chooses
pub chosen-given : (env : List Clause) (named : List (List Tree)) (v : Tree) (t : RuleTerm) (k : ClauseKind) (held refuted : Term) (s u : State) (r : Result Certainty Fault) → t ≡ term.ChosenBy k held refuted →
    IfOk r (λ c. Chooses env v k (tree_of_term held) (tree_of_term refuted) s c u) → IfOk r (λ c. GivesTerm env named v t s c u)
chosen-given env named v t k held refuted s u r is chooses = subst (λ x. IfOk r (λ c. GivesTerm env named v x s c u)) (sym is) chooses

pub chosen-refused : (env : List Clause) (named : List (List Tree)) (v : Tree) (t : RuleTerm) (k : ClauseKind) (held refuted : Term) (s u : State) → t ≡ term.ChosenBy k held refuted →
    RefusesChoice env v k (tree_of_term held) (tree_of_term refuted) s u → RefusesTerm env named v t s u
chosen-refused env named v t k held refuted s u is refuses = subst (λ x. RefusesTerm env named v x s u) (sym is) refuses
