-- What is said of an alias that is a projection, where its trait goal is taken to hold through a class.
use Rattle.std.specs.Prelude.{◌≡◌, ℕ, true, List, Some, Result, IfOk}
use Rattle.goal_terms.specs.Tree.{Tree}
use Rattle.goal_terms.specs.declared.answers.Response.{Response}
use Rattle.goal_terms.specs.declared.answers.TraitGoalProvenVia.{TraitGoalProvenVia}
use Rattle.goal_terms.specs.declared.modes.TypingMode.{TypingMode}
use Rattle.goal_terms.specs.declared.predicates.Clause.{Clause}
use Rattle.goal_terms.specs.declared.predicates.NormalizesTo.{NormalizesTo}
use Rattle.goal_terms.specs.declared.terms.AliasTerm.{AliasTerm}
use Rattle.goal_lists.specs.Answers.{setting_of}
use Rattle.goal_lists.specs.Level.{Level}
use Rattle.goal_lists.specs.Settings.{Setting}
use Rattle.goal_kinds.specs.declared.faults.Fault.{Fault}
use Rattle.goal_eval.specs.ErasedArgs.{erased_args}
use Rattle.goal_eval.specs.Outcomes.{SaysWhich}
use Rattle.goal_eval.specs.declared.eval.outcomes.Found.{Found}
use Rattle.goal_eval.specs.declared.eval.outcomes.Stop.{Stop}
use Rattle.goal_solver.specs.Answers.{IsOwed, level_over, is_closed_alias, IsAliasAnswer, IsAliasOpen, expected_variable, IsMaybe}
use Rattle.goal_solver.specs.Assembled.{HoldsThrough, level_through}
use Rattle.goal_solver.specs.Binding.{IsApplicable}
use Rattle.goal_solver.specs.Goals.{IsAcceptedNormalization}
use Rattle.goal_solver.specs.State.{State}

-- which term it has, one above a level
abbrev pub SaysFoundThrough : Setting → Level → TraitGoalProvenVia → AliasTerm → List Tree → Found → Type 0
SaysFoundThrough S L c a T o =
    SaysWhich ((level_through S L c).gives a.kind (erased_args a.args.items)) ((level_through S L c).gives_refuted a.kind (erased_args a.args.items)) T o

abbrev pub SaysTermThrough : Setting → Level → TraitGoalProvenVia → AliasTerm → List Tree → Result Found Stop → Type 0
SaysTermThrough S L c a T r = IfOk r (SaysFoundThrough S L c a T)

-- in a context, one above the remaining depth
abbrev pub SaysClassTerm : State → State → TypingMode → List Clause → TraitGoalProvenVia → AliasTerm → Result Found Stop → Type 0
SaysClassTerm before after m env c a r = SaysTermThrough (setting_of before.tables m env) (level_over before m env) c a after.terms r

-- an answer to its goal is right
abbrev pub SoundThrough : State → State → TraitGoalProvenVia → NormalizesTo → List Clause → Result Response Fault → Type 0
SoundThrough a z c q env r =
    (m : TypingMode) → IsOwed z m → IsAliasAnswer (level_through (setting_of a.tables m env) (level_over a m env) c) q.alias.kind (erased_args q.alias.args.items) q.term r

-- a closed goal that is left undecided is so
abbrev pub DecidesThrough : State → State → TraitGoalProvenVia → NormalizesTo → List Clause → Result Response Fault → Type 0
DecidesThrough a z c q env r =
    (m : TypingMode) (n : ℕ) → IsOwed z m → is_closed_alias q.alias env ≡ true → expected_variable q.term ≡ Some n → IsMaybe r →
    IsAliasOpen (level_through (setting_of a.tables m env) (level_over a m env) c) q.alias.kind (erased_args q.alias.args.items)

-- the answer to an accepted goal can be applied, where the trait goal does hold through the class
abbrev pub AppliesThrough : State → State → TraitGoalProvenVia → NormalizesTo → List Clause → Result Response Fault → Type 0
AppliesThrough a z c q env r =
    (m : TypingMode) → IsOwed z m → IsAcceptedNormalization a q env →
    HoldsThrough (setting_of a.tables m env) (level_over a m env) c q.alias.kind (erased_args q.alias.args.items) → IfOk r (IsApplicable z)
