-- Closed goals that an alias normalizes to a variable, and what answering them binds.
use Rattle.std.specs.Prelude.{◌≡◌, ◌≢◌, ℕ, Bool, true, None, Some, List, [], slice_get, Result, IfOk}
use Rattle.goal_interner.specs.TableMeaning.{tree_at}
use Rattle.goal_terms.specs.Tree.{node_of, variable}
use Rattle.goal_terms.specs.TreeOf.{tree_of_alias, tree_of_term, is_type_kind}
use Rattle.goal_terms.specs.declared.heads.Variable.{Variable}
use Rattle.goal_terms.specs.declared.modes.TypingMode.{TypingMode}
use Rattle.goal_terms.specs.declared.predicates.Clause.{Clause}
use Rattle.goal_terms.specs.declared.predicates.NormalizesTo.{NormalizesTo}
use Rattle.goal_interner.specs.declared.term_nodes.TermId.{TermId}
use Rattle.goal_terms.specs.declared.terms.AliasTermKind.{AliasTermKind}
use Rattle.goal_terms.specs.declared.terms.Term.{Term}
use Rattle.goal_infer.specs.Binding.{bound_to}
use Rattle.goal_infer.specs.Resolution.{binding_at, binding_of}
use Rattle.goal_infer.specs.declared.undo.InferVariable.{InferVariable}
use Rattle.goal_lists.specs.Level.{Level}
use Rattle.goal_lists.specs.Interned.{IsIn, erased_at}
use Rattle.goal_lists.specs.KindedTerms.{NoKindFault, NoKindFaultInEnv}
use Rattle.goal_lists.specs.declared.outcomes.Outcome.{Outcome}
use Rattle.goal_lists.specs.declared.outcomes.Outcome.TheVariants as outcome
use Rattle.goal_eval.specs.ErasedArgs.{erased_args}
use Rattle.goal_eval.specs.declared.eval.outcomes.Found.{Found}
use Rattle.goal_eval.specs.declared.eval.outcomes.Found.TheVariants as found
use Rattle.goal_eval.specs.declared.eval.outcomes.Stop.{Stop}
use Rattle.goal_solver.specs.Answers.{IsOwed, is_closed_alias, level_over}
use Rattle.goal_solver.specs.OpenForms.{taking, kind_taking}
use Rattle.goal_solver.specs.Recording.{FitsKind}
use Rattle.goal_solver.specs.State.{State}

-- the variable of a number takes a type, or a constant, and is unbound
abbrev pub IsFree : State → Bool → ℕ → Type 0
IsFree s ty n = slice_get s.inference.variables n ≡ Some (record { kind = kind_taking ty; binding = None })

-- a closed alias, in which no fault lies, is to be normalized to a free variable that takes its term
pub record IsNormalizable (s : State) (q : NormalizesTo) (env : List Clause) : Type 0 where
  pub closed : is_closed_alias q.alias env ≡ true
  pub faultless : NoKindFault s.tables [] (tree_of_alias q.alias)
  pub faultless_env : NoKindFaultInEnv s.tables env
  pub number : ℕ
  pub expects : tree_of_term q.term ≡ variable (taking (is_type_kind q.alias.kind) number)
  pub free : IsFree s (is_type_kind q.alias.kind) number

-- each variable is as it was; more may be made
abbrev pub KeepsAll : State → State → Type 0
KeepsAll old new = (m : ℕ) (x : InferVariable) → slice_get old.inference.variables m ≡ Some x → slice_get new.inference.variables m ≡ Some x

-- each but one
abbrev pub KeepsOthers : ℕ → State → State → Type 0
KeepsOthers n old new = (m : ℕ) (x : InferVariable) → m ≢ n → slice_get old.inference.variables m ≡ Some x → slice_get new.inference.variables m ≡ Some x

-- only where a goal holds its variable may be bound
abbrev pub KeepsBut : Outcome → ℕ → State → State → Type 0
KeepsBut outcome.Holds n old new = KeepsOthers n old new
KeepsBut outcome.Refuted n old new = KeepsAll old new
KeepsBut outcome.Undecided n old new = KeepsAll old new

-- what a goal of an alias's term comes to, by what is found for the alias
abbrev pub outcome_of : Found → Outcome
outcome_of (found.Is id) = outcome.Holds
outcome_of found.Refuted = outcome.Refuted
outcome_of found.Undecided = outcome.Undecided

-- the bindings don't lead on from the term of a number
abbrev pub EndsAt : State → TermId → Type 0
EndsAt s id = binding_at s.inference (node_of (tree_at s.terms id)) ≡ None

-- a variable is bound to the term of a number, and no other
abbrev pub IsBoundAt : State → Variable → TermId → State → Type 0
IsBoundAt old v id new = new.inference ≡ bound_to old.inference v id

-- what is found for an alias is what its variable is bound to
abbrev pub IsGivenTo : Found → Variable → State → Type 0
IsGivenTo (found.Is id) v s = binding_of s.inference v ≡ Some id
IsGivenTo found.Refuted v s = Unit {0}
IsGivenTo found.Undecided v s = Unit {0}

-- a term that is found for an alias is given to a free variable, which alone is bound
pub record GivesFree (k : AliasTermKind) (f : Found) (old : State) (o : Outcome) (new : State) (n : ℕ) : Type 0 where
  pub outcome : o ≡ outcome_of f
  pub others : KeepsBut o n old new
  pub given : IsGivenTo f (taking (is_type_kind k) n) new

-- the variable to which an alias is normalized is bound to a term of the alias
pub record TakesTerm (L : Level) (q : NormalizesTo) (s : State) : Type 0 where
  pub number : ℕ
  pub expects : tree_of_term q.term ≡ variable (taking (is_type_kind q.alias.kind) number)
  pub id : TermId
  pub bound : binding_of s.inference (taking (is_type_kind q.alias.kind) number) ≡ Some id
  pub within : IsIn s.terms id
  pub gives : L.gives q.alias.kind (erased_args q.alias.args.items) (erased_at s.terms id)

-- what a goal of an alias's term binds, by what it comes to: where it holds its variable alone, and to its term
pub record BindsOutcome (L : Level) (q : NormalizesTo) (old : State) (o : Outcome) (new : State) : Type 0 where
  pub number : ℕ
  pub expects : tree_of_term q.term ≡ variable (taking (is_type_kind q.alias.kind) number)
  pub others : KeepsBut o number old new
  pub takes : o ≡ outcome.Holds → TakesTerm L q new

-- so it is of a term that fits an alias of some kind
abbrev pub GivesFitting : Term → Found → State → Result Outcome Stop → State → Type 0
GivesFitting e f old r new =
    (k : AliasTermKind) (n : ℕ) → FitsKind k old.terms f → tree_of_term e ≡ variable (taking (is_type_kind k) n) → IsFree old (is_type_kind k) n →
    IfOk r (λ o. GivesFree k f old o new n)

-- a closed alias is normalized to a free variable, at the depth that is left, in each mode that is owed an answer
abbrev pub WhereNormalizable : State → State → NormalizesTo → List Clause → (Level → Type 0) → Type 0
WhereNormalizable old new q env P = (m : TypingMode) → IsOwed new m → IsNormalizable old q env → P (level_over old m env)
