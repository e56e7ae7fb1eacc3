-- What is answered for the head form of a term in a context.
use Rattle.std.specs.Prelude.{◌≡◌, Bool, false, ◌||◌, ◌&&◌, Option, Some, None, Result, Ok, Err, List, IfOk, true}
use Rattle.goal_terms.specs.Erased.{erased}
use Rattle.goal_terms.specs.NodeTests.{is_any_infer, some_node}
use Rattle.goal_terms.specs.Sorts.{IsTerm}
use Rattle.goal_interner.specs.TableMeaning.{HasTerm}
use Rattle.goal_terms.specs.Tree.{Tree, node_of}
use Rattle.goal_terms.specs.TreeOf.{tree_of_term}
use Rattle.goal_terms.specs.declared.modes.TypingMode.{TypingMode}
use Rattle.goal_terms.specs.declared.predicates.Clause.{Clause}
use Rattle.goal_terms.specs.declared.terms.Term.{Term}
use Rattle.goal_tables.specs.Predicates.{some_in_env}
use Rattle.goal_infer.specs.Replacement.{replaced}
use Rattle.goal_infer.specs.Resolution.{resolution}
use Rattle.goal_infer.specs.Unification.{is_alias}
use Rattle.goal_lists.specs.Interned.{erased_at}
use Rattle.goal_lists.specs.Level.{Level, HasHeadForm, HeadFormRefuted}
use Rattle.goal_kinds.specs.declared.faults.Fault.{Fault}
use Rattle.goal_kinds.specs.declared.faults.Fault.TheVariants as fault
use Rattle.goal_solver.specs.Answers.{level_over}
use Rattle.goal_solver.specs.State.{State}
use Rattle.goal_eval.specs.declared.eval.outcomes.Found.{Found}
use Rattle.goal_eval.specs.declared.eval.outcomes.Found.TheVariants as found
use Rattle.goal_eval.specs.declared.eval.outcomes.Stop.{Stop}
use Rattle.goal_eval.specs.declared.eval.outcomes.Stop.TheVariants as stop
use Rattle.goal_eval.specs.Outcomes.{SaysWhich}

-- a term with the bindings of a context followed, lifetimes aside
abbrev pub bound_term : State → Term → Tree
bound_term s e = replaced (resolution s.terms s.inference) (erased (tree_of_term e))

-- neither a tree nor an environment holds an inference variable
abbrev pub IsClosedForm : Tree → List Clause → Type 0
IsClosedForm t env = (some_node is_any_infer t || some_in_env is_any_infer env) ≡ false

-- the term that is answered is the head form, lifetimes aside, and a refusal is final
abbrev pub IsFormAnswer : Level → Tree → Result (Option Term) Fault → Type 0
IsFormAnswer L t (Ok (Some u)) = HasHeadForm L t (erased (tree_of_term u))
IsFormAnswer L t (Ok None) = Unit {0}
IsFormAnswer L t (Err fault.NoSolution) = HeadFormRefuted L t
IsFormAnswer L t (Err f) = Unit {0}

-- no type and no constant is the head form, and it isn't refuted that there is one
abbrev pub IsFormOpen : Level → Tree → Type 0
IsFormOpen L t = ((u : Tree) → IsTerm u → HasHeadForm L t u → ⊥) × (HeadFormRefuted L t → ⊥)

-- a term is answered, and it is this one, lifetimes aside
abbrev pub IsAnswered : Tree → Option Term → Type 0
IsAnswered t None = ⊥
IsAnswered t (Some u) = erased (tree_of_term u) ≡ t

-- what is found is justified
abbrev pub IsFormFound : Level → Tree → List Tree → Found → Type 0
IsFormFound L t T (found.Is id) = HasHeadForm L t (erased_at T id)
IsFormFound L t T found.Refuted = HeadFormRefuted L t
IsFormFound L t T found.Undecided = Unit {0}

-- where nothing is found there is nothing
abbrev pub IsFormUnfound : Level → Tree → Found → Type 0
IsFormUnfound L t (found.Is id) = Unit {0}
IsFormUnfound L t found.Refuted = Unit {0}
IsFormUnfound L t found.Undecided = ((u : Tree) → HasHeadForm L t u → ⊥) × (HeadFormRefuted L t → ⊥)

-- a term is found, and it is this one, lifetimes aside
abbrev pub IsFoundItself : Tree → List Tree → Found → Type 0
IsFoundItself t T (found.Is id) = HasTerm T id × (erased_at T id ≡ t)
IsFoundItself t T found.Refuted = ⊥
IsFoundItself t T found.Undecided = ⊥

-- whether a tree is an alias that holds an inference variable, or that is asked for in an environment with one
abbrev pub is_open_form : Tree → List Clause → Bool
is_open_form t env = is_alias (node_of t) && (some_node is_any_infer t || some_in_env is_any_infer env)

-- the head form of a term that is no such alias is answered by a derivation or a refutation
abbrev pub AnswersForm : State → TypingMode → List Clause → Term → Result (Option Term) Fault → Type 0
AnswersForm s m env e answer = is_open_form (bound_term s e) env ≡ false → IsFormAnswer (level_over s m env) (bound_term s e) answer

-- nothing is answered, or memory ran out
abbrev pub IsLeftOpen : Result (Option Term) Fault → Type 0
IsLeftOpen (Ok o) = o ≡ None
IsLeftOpen (Err f) = f ≡ fault.OutOfMemory

-- nothing is found, or memory ran out
abbrev pub IsLeftUndecided : Result Found Stop → Type 0
IsLeftUndecided (Ok f) = f ≡ found.Undecided
IsLeftUndecided (Err s) = s ≡ stop.OutOfMemory

-- where the head form of a closed term is left undecided there is none, nor is it refuted
abbrev pub LeavesFormOpen : State → TypingMode → List Clause → Term → Result (Option Term) Fault → Type 0
LeavesFormOpen s m env e answer = IsClosedForm (bound_term s e) env → answer ≡ Ok None → IsFormOpen (level_over s m env) (bound_term s e)

-- such an alias, with the bindings of a context followed
abbrev pub IsOpenForm : State → List Clause → Term → Type 0
IsOpenForm s env e = is_open_form (bound_term s e) env ≡ true

-- where nothing is found for a term, with its bindings followed, there is nothing
abbrev pub IsUnfoundFor : Level → State → Term → Found → Type 0
IsUnfoundFor L s e = IsFormUnfound L (bound_term s e)

-- which head form a tree has
abbrev pub SaysForm : Level → Tree → List Tree → Result Found Stop → Type 0
SaysForm L t T r = IfOk r (SaysWhich (HasHeadForm L t) (HeadFormRefuted L t) T)
