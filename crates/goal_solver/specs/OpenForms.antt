-- What is answered for the head form of an alias that holds an inference variable, or that is asked for in an environment with one: the alias is normalized to a fresh variable, and the answer is applied.
use Rattle.std.specs.Prelude.{◌≡◌, ◌⊎◌, ◌==◌, ℕ, Bool, true, false, not, List, [], ◌∷◌, length, Option, Some, None, Result, Ok, Err}
use Rattle.goal_terms.specs.Erased.{erased}
use Rattle.goal_terms.specs.Tree.{Tree, variable}
use Rattle.goal_terms.specs.TreeOf.{tree_of_alias, tree_of_term, is_type_kind}
use Rattle.goal_terms.specs.declared.answers.Certainty.{Certainty}
use Rattle.goal_terms.specs.declared.answers.Certainty.TheVariants as certainty
use Rattle.goal_terms.specs.declared.answers.OpaqueTypeKey.{OpaqueTypeKey}
use Rattle.goal_terms.specs.declared.answers.Response.{Response}
use Rattle.goal_terms.specs.declared.answers.VarKind.{VarKind}
use Rattle.goal_terms.specs.declared.answers.VarKind.TheVariants as kind
use Rattle.goal_terms.specs.declared.heads.Variable.{Variable}
use Rattle.goal_terms.specs.declared.heads.Variable.TheVariants as variables
use Rattle.goal_terms.specs.declared.modes.TypingMode.{TypingMode}
use Rattle.goal_terms.specs.declared.modes.TypingMode.TheVariants as mode
use Rattle.goal_terms.specs.declared.predicates.Clause.{Clause}
use Rattle.goal_terms.specs.declared.predicates.Goal.{Goal}
use Rattle.goal_terms.specs.declared.predicates.NormalizesTo.{NormalizesTo}
use Rattle.goal_terms.specs.declared.terms.AliasTermKind.{AliasTermKind}
use Rattle.goal_terms.specs.declared.terms.InferTy.TheVariants as infer
use Rattle.goal_terms.specs.declared.terms.Term.{Term}
use Rattle.goal_terms.specs.declared.terms.Ty.{Ty}
use Rattle.goal_kinds.specs.declared.faults.Fault.{Fault}
use Rattle.goal_kinds.specs.declared.faults.Fault.TheVariants as fault
use Rattle.goal_solver.specs.Binding.{AppliesAside}
use Rattle.goal_solver.specs.GoingBack.{restored}
use Rattle.goal_solver.specs.HeadForms.{bound_term}
use Rattle.goal_solver.specs.State.{State, kinds_of}
use Rattle.goal_solver.specs.TranslatedArgs.{IsSameEnvironment}
use Rattle.goal_solver.specs.Variables.{with_variables}

-- the variable of a number that takes a type, or a constant, and its kind
abbrev pub taking : Bool → ℕ → Variable
taking true n = variables.Ty (infer.TyVar n)
taking false n = variables.Const n

abbrev pub kind_taking : Bool → VarKind
kind_taking true = kind.Ty
kind_taking false = kind.Const

-- a context with a fresh one, for the term of an alias
abbrev pub with_taking : AliasTermKind → State → State
with_taking k s = with_variables (kind_taking (is_type_kind k) ∷ []) s

-- a goal asks that an alias normalizes to a fresh variable
pub record AsksTerm (env : List Clause) (t : Tree) (s : State) (g : Goal NormalizesTo) : Type 0 where
  pub same_alias : erased (tree_of_alias g.predicate.alias) ≡ t
  pub fresh : tree_of_term g.predicate.term ≡ variable (taking (is_type_kind g.predicate.alias.kind) (length (kinds_of s)))
  pub environment : IsSameEnvironment env g.param_env.items

-- how such a goal is answered
abbrev pub Answering : Type 1
Answering = Goal NormalizesTo → State → Result Response Fault → State → Type 0

-- whether hidden types are listed that have to be entered to be known: while bodies are borrow checked none has to
abbrev pub has_unknown : TypingMode → List (OpaqueTypeKey × Ty) → Bool
has_unknown (mode.Borrowck ids) es = false
has_unknown _ es = not (length es == 0)

-- a response that is sure is applied but for its hidden types, where none has to be entered
pub record AppliesSure (old new : State) (q : Response) : Type 0 where
  pub sure : q.certainty ≡ certainty.Yes
  pub known : has_unknown old.typing_mode q.opaque_entries.items ≡ false
  pub applies : AppliesAside old new q

-- another isn't
abbrev pub IsUnsure : State → Response → Type 0
IsUnsure s q = (q.certainty ≡ certainty.Maybe) ⊎ (has_unknown s.typing_mode q.opaque_entries.items ≡ true)

-- the head form is what the variable stands for, once the response is applied
pub record TakesForm (Answers : Answering) (env : List Clause) (t : Tree) (old : State) (u : Term) (new : State) : Type 0 where
  pub asked : Goal NormalizesTo
  pub asks : AsksTerm env t old asked
  pub response : Response
  pub answered : State
  pub answers : Answers asked old (Ok response) answered
  pub applied : State
  pub applies : AppliesSure answered applied response
  pub form : erased (tree_of_term u) ≡ bound_term applied asked.predicate.term
  pub left : new ≡ record applied { terms = new.terms; delayed_faults = new.delayed_faults }

-- there is none so far, since the response isn't applied
pub record LeavesForm (Answers : Answering) (env : List Clause) (t : Tree) (old : State) : Type 0 where
  pub asked : Goal NormalizesTo
  pub asks : AsksTerm env t old asked
  pub response : Response
  pub answered : State
  pub answers : Answers asked old (Ok response) answered
  pub unsure : IsUnsure answered response

-- there is none, since the goal is refused
pub record RefusesTerm (Answers : Answering) (env : List Clause) (t : Tree) (old : State) : Type 0 where
  pub asked : Goal NormalizesTo
  pub asks : AsksTerm env t old asked
  pub answered : State
  pub answers : Answers asked old (Err fault.NoSolution) answered

-- what is answered for the head form of such an alias; at depth 0 there is none so far
abbrev pub OpensFrom : Answering → List Clause → Tree → State → Result (Option Term) Fault → State → Type 0
OpensFrom Answers env t s (Ok (Some u)) z = TakesForm Answers env t s u z
OpensFrom Answers env t s (Ok None) z = (s.remaining_depth ≡ 0) ⊎ LeavesForm Answers env t s
OpensFrom Answers env t s (Err fault.NoSolution) z = RefusesTerm Answers env t s
OpensFrom Answers env t s (Err f) z = Unit {0}

-- so it is in a context that may have more terms and records
abbrev pub OpensForm : Answering → List Clause → Tree → State → Result (Option Term) Fault → State → Type 0
OpensForm Answers env t s r z = (b : State) × (b ≡ restored s b) × OpensFrom Answers env t b r z

-- whether there is a head form
abbrev pub gives_form : Result (Option Term) Fault → Bool
gives_form (Ok (Some u)) = true
gives_form (Ok None) = false
gives_form (Err f) = false

-- whether an answer is a yes
abbrev pub is_sure : Result Certainty Fault → Bool
is_sure (Ok certainty.Yes) = true
is_sure (Ok certainty.Maybe) = false
is_sure (Err f) = false
