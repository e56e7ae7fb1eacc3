-- When an answer to a goal is justified, and what it leaves undecided.
use Rattle.std.specs.Prelude.{◌≡◌, ◌⊎◌, ◌<◌, ℕ, Bool, true, false, not, ◌||◌, ◌&&◌, List, [], ◌∷◌, length, replicate, Option, Some, None, Result, Ok, Err, IfOk, IsOk}
use Rattle.goal_terms.specs.Closed.{is_closed}
use Rattle.goal_terms.specs.Erased.{erased}
use Rattle.goal_terms.specs.NodeTests.{is_any_infer, general_variable_at}
use Rattle.goal_terms.specs.PredicateTrees.{PredicateTree}
use Rattle.goal_terms.specs.Sorts.{IsTerm}
use Rattle.goal_terms.specs.Tree.{Tree, node_of}
use Rattle.goal_terms.specs.TreeOf.{tree_of_term, tree_of_alias}
use Rattle.goal_terms.specs.declared.answers.Certainty.{Certainty}
use Rattle.goal_terms.specs.declared.answers.Certainty.TheVariants as certainty
use Rattle.goal_terms.specs.declared.answers.Response.{Response}
use Rattle.goal_terms.specs.declared.answers.TraitGoalProvenVia.{TraitGoalProvenVia}
use Rattle.goal_terms.specs.declared.answers.VarKind.TheVariants as kind
use Rattle.goal_terms.specs.declared.ids.TraitId.{TraitId}
use Rattle.goal_terms.specs.declared.modes.TypingMode.{TypingMode}
use Rattle.goal_terms.specs.declared.modes.TypingMode.TheVariants as mode
use Rattle.goal_terms.specs.declared.predicates.Clause.{Clause}
use Rattle.goal_terms.specs.declared.terms.AliasTerm.{AliasTerm}
use Rattle.goal_terms.specs.declared.terms.AliasTermKind.{AliasTermKind}
use Rattle.goal_terms.specs.declared.terms.GenericArg.{GenericArg}
use Rattle.goal_terms.specs.declared.terms.Term.{Term}
use Rattle.goal_tables.specs.Predicates.{some_in_args, some_in_equation, some_in_env}
use Rattle.goal_lists.specs.Answers.{setting_of}
use Rattle.goal_lists.specs.Level.{Level}
use Rattle.goal_lists.specs.Levels.{level}
use Rattle.goal_lists.specs.Premises.{ClauseHolds, ClauseRefuted}
use Rattle.goal_lists.specs.Settings.{is_headline, is_coherence}
use Rattle.goal_solver.specs.State.{State}
use Rattle.goal_kinds.specs.declared.faults.Fault.{Fault}
use Rattle.goal_lists.specs.declared.outcomes.Outcome.{Outcome}
use Rattle.goal_lists.specs.declared.outcomes.Outcome.TheVariants as outcome
use Rattle.goal_eval.specs.declared.eval.outcomes.Stop.{Stop}
use Rattle.goal_kinds.specs.declared.faults.Fault.TheVariants as fault

-- a mode for which what is found may be final: that of the run; in the erased one also each of the headline
abbrev pub IsFinalIn : TypingMode → TypingMode → Type 0
IsFinalIn run m = (run ≡ m) ⊎ ((run ≡ mode.ErasedNotCoherence) × (is_headline m ≡ true))

-- the modes whose answers a call owes, by what it leaves: the context's own; in the erased one also each of the headline, as long as nothing was recorded
abbrev pub IsOwed : State → TypingMode → Type 0
IsOwed s m =
    (s.typing_mode ≡ m)
    ⊎ ((s.typing_mode ≡ mode.ErasedNotCoherence) × (is_headline m ≡ true) × (s.accesses ≡ []))

-- those outside of coherence, where a refusal by head forms isn't final for equations
abbrev pub IsOwedBeyond : State → TypingMode → Type 0
IsOwedBeyond s m = (is_coherence m ≡ false) × IsOwed s m

-- what trees no higher than the depth that is left prove over an environment in a mode, by the definitions of `goal_lists`
abbrev pub level_over : State → TypingMode → List Clause → Level
level_over s m clauses = level (setting_of s.tables m clauses) s.remaining_depth

-- a goal of arguments, of an alias, or of an alias and a term holds no inference variable, and neither does its environment
abbrev pub AreClosed : List GenericArg → List Clause → Type 0
AreClosed args env = (some_in_args is_any_infer args || some_in_env is_any_infer env) ≡ false

abbrev pub is_closed_alias : AliasTerm → List Clause → Bool
is_closed_alias a env = is_closed (tree_of_alias a) && not (some_in_env is_any_infer env)

abbrev pub IsClosedEquation : AliasTerm → Term → List Clause → Type 0
IsClosedEquation a e env = (some_in_equation is_any_infer a e || some_in_env is_any_infer env) ≡ false

-- where an evaluation was stopped there is a fault, and no answer
abbrev pub IsStopped : {T : Type 0} → Result T Fault → Type 0
IsStopped (Ok x) = ⊥
IsStopped (Err fault.NoSolution) = ⊥
IsStopped (Err f) = Unit {0}

-- an answer that leaves its goal undecided
abbrev pub IsMaybe : Result Response Fault → Type 0
IsMaybe (Ok r) = r.certainty ≡ certainty.Maybe
IsMaybe (Err f) = ⊥

-- a yes to a trait goal names the class through which it holds, and a refusal is final
abbrev pub IsTraitResponse : Level → TraitId → List Tree → Certainty → Response → Type 0
IsTraitResponse L i ts certainty.Yes r = (c : TraitGoalProvenVia) × (r.proven_via ≡ Some c) × L.through c i ts
IsTraitResponse L i ts certainty.Maybe r = Unit {0}

abbrev pub IsTraitAnswer : Level → TraitId → List Tree → Result Response Fault → Type 0
IsTraitAnswer L i ts (Ok r) = IsTraitResponse L i ts r.certainty r
IsTraitAnswer L i ts (Err fault.NoSolution) = L.trait_refuted i ts
IsTraitAnswer L i ts (Err f) = Unit {0}

-- the trait goal holds through no class, and isn't refuted
abbrev pub IsOpen : Level → TraitId → List Tree → Type 0
IsOpen L i ts = ((c : TraitGoalProvenVia) → L.through c i ts → ⊥) × (L.trait_refuted i ts → ⊥)

-- a yes to another predicate says that it holds, and a refusal is final
abbrev pub IsHoldingResponse : Level → PredicateTree → Certainty → Type 0
IsHoldingResponse L p certainty.Yes = ClauseHolds L p
IsHoldingResponse L p certainty.Maybe = Unit {0}

abbrev pub IsPredicateAnswer : Level → PredicateTree → Result Response Fault → Type 0
IsPredicateAnswer L p (Ok r) = IsHoldingResponse L p r.certainty
IsPredicateAnswer L p (Err fault.NoSolution) = ClauseRefuted L p
IsPredicateAnswer L p (Err f) = Unit {0}

-- the predicate neither holds nor is refuted
abbrev pub IsUndecided : Level → PredicateTree → Type 0
IsUndecided L p = (ClauseHolds L p → ⊥) × (ClauseRefuted L p → ⊥)

-- the variable that takes a goal's answer
abbrev pub expected_variable : Term → Option ℕ
expected_variable e = general_variable_at (node_of (tree_of_term e))

-- the answer lists this term as the value of a variable, lifetimes aside, and no other value
abbrev pub GivesTo : ℕ → Tree → Response → Type 0
GivesTo n t r = (u : Term) × (r.var_values.items ≡ (n, u) ∷ []) × (erased (tree_of_term u) ≡ t)

-- as that of the variable that takes the goal's answer
abbrev pub ListsValue : Term → Tree → Response → Type 0
ListsValue e t r = (n : ℕ) × (expected_variable e ≡ Some n) × GivesTo n t r

-- a yes to a goal that an alias normalizes gives its term to the expected variable, and a refusal is final
abbrev pub IsAliasResponse : Level → AliasTermKind → List Tree → Term → Certainty → Response → Type 0
IsAliasResponse L k ts e certainty.Yes r = (t : Tree) × L.gives k ts t × ListsValue e t r
IsAliasResponse L k ts e certainty.Maybe r = Unit {0}

abbrev pub IsAliasAnswer : Level → AliasTermKind → List Tree → Term → Result Response Fault → Type 0
IsAliasAnswer L k ts e (Ok r) = IsAliasResponse L k ts e r.certainty r
IsAliasAnswer L k ts e (Err fault.NoSolution) = L.gives_refuted k ts
IsAliasAnswer L k ts e (Err f) = Unit {0}

-- no type and no constant is the alias's term, and it isn't refuted that it has one
abbrev pub IsAliasOpen : Level → AliasTermKind → List Tree → Type 0
IsAliasOpen L k ts = ((t : Tree) → IsTerm t → L.gives k ts t → ⊥) × (L.gives_refuted k ts → ⊥)

-- a response that changes nothing, but for values of variables; only a yes names a class
abbrev pub IsQuiet : ℕ → Response → Type 0
IsQuiet base r = (r.base ≡ base) × (r.vars.items ≡ []) × (r.region_equations.items ≡ []) × (r.opaque_entries.items ≡ [])

-- one that changes nothing but values and lifetimes: all variables that it lists stand for lifetimes
abbrev pub IsQuietAside : ℕ → Response → Type 0
IsQuietAside base r = (r.base ≡ base) × (r.vars.items ≡ replicate (length r.vars.items) kind.Region) × (r.opaque_entries.items ≡ [])

abbrev pub AnswersAside : ℕ → Result Response Fault → Type 0
AnswersAside base (Ok r) = IsQuietAside base r
AnswersAside base (Err f) = Unit {0}

abbrev pub AnswersQuietly : ℕ → Result Response Fault → Type 0
AnswersQuietly base (Ok r) = IsQuiet base r
AnswersQuietly base (Err f) = Unit {0}

-- what is undecided lists no value and no class
abbrev pub ListsNothing : Result Response Fault → Type 0
ListsNothing (Ok r) = (r.proven_via ≡ None) × (r.var_values.items ≡ [])
ListsNothing (Err f) = Unit {0}

-- a fault of an evaluation: to be run again only in the erased mode, and with an access recorded; never that the goal is of another kind
abbrev pub IsFaultOf : State → State → Result Response Fault → Type 0
IsFaultOf before after (Ok r) = Unit {0}
IsFaultOf before after (Err fault.RerunNonErased) = (before.typing_mode ≡ mode.ErasedNotCoherence) × (0 < length after.accesses)
IsFaultOf before after (Err fault.NotForThisKind) = ⊥
IsFaultOf before after (Err f) = Unit {0}

-- the answer to a goal that holds or not, by its outcome
abbrev pub IsConclusion : Result Outcome Stop → Result Response Fault → Type 0
IsConclusion (Ok outcome.Holds) r = IfOk r (λ x. x.certainty ≡ certainty.Yes) × IsOk r
IsConclusion (Ok outcome.Refuted) r = r ≡ Err fault.NoSolution
IsConclusion (Ok outcome.Undecided) r = IsMaybe r
IsConclusion (Err s) r = IsStopped r
