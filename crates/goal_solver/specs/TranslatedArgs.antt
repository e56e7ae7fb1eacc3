-- The arguments that a definition of a goal's item takes.
use Rattle.std.specs.Prelude.{◌≡◌, ◌==◌, ◌||◌, ◌⊎◌, ℕ, false, IfOk, Some, List, ◌++◌, length, map, drop, Result, Ok, Err, Vec, if◌then◌else◌, []}
use Rattle.std.specs.Global.{Global}
use Rattle.std.specs.List.{AllZip, list_any}
use Rattle.goal_terms.specs.Erased.{erased}
use Rattle.goal_terms.specs.Folding.{instance, instantiating}
use Rattle.goal_terms.specs.NodeTests.{is_any_infer, some_node}
use Rattle.goal_terms.specs.PredicateTrees.{PredicateTree, tree_of_trait_predicate, tree_of_projection, tree_of_host_effect, tree_of_whole_clause, folded_clause}
use Rattle.goal_terms.specs.Tree.{Tree}
use Rattle.goal_terms.specs.TreeOf.{trees_of}
use Rattle.goal_terms.specs.declared.answers.Certainty.{Certainty}
use Rattle.goal_terms.specs.declared.answers.Certainty.TheVariants as certainty
use Rattle.goal_terms.specs.declared.answers.GoalSource.{GoalSource}
use Rattle.goal_terms.specs.declared.answers.GoalSource.TheVariants as source
use Rattle.goal_terms.specs.declared.answers.VarKind.{VarKind}
use Rattle.goal_terms.specs.declared.heads.Variable.{Variable}
use Rattle.goal_terms.specs.declared.ids.ImplId.{ImplId}
use Rattle.goal_terms.specs.declared.modes.TypingMode.{TypingMode}
use Rattle.goal_terms.specs.declared.predicates.Clause.{Clause}
use Rattle.goal_terms.specs.declared.predicates.Goal.{Goal}
use Rattle.goal_terms.specs.declared.predicates.NormalizesTo.{NormalizesTo}
use Rattle.goal_terms.specs.declared.predicates.Predicate.{Predicate}
use Rattle.goal_terms.specs.declared.predicates.Predicate.TheVariants as predicate
use Rattle.goal_terms.specs.declared.predicates.TraitRef.{TraitRef}
use Rattle.goal_terms.specs.declared.terms.GenericArg.{GenericArg}
use Rattle.goal_tables.specs.Predicates.{some_in_env}
use Rattle.goal_tables.specs.Rows.{impl_of}
use Rattle.goal_tables.specs.declared.rows.Container.{Container}
use Rattle.goal_tables.specs.declared.rows.Container.TheVariants as container
use Rattle.goal_tables.specs.declared.rows.ImplRow.{ImplRow}
use Rattle.goal_infer.specs.Replacement.{OfKinds}
use Rattle.goal_lists.specs.Headers.{under, AllKnown, Fits, Clashes}
use Rattle.goal_lists.specs.ImplTerms.{Taken, from_projection, from_impl, from_other}
use Rattle.goal_lists.specs.Level.{Level}
use Rattle.goal_lists.specs.TraitGoals.{header_of}
use Rattle.goal_lists.specs.Words.{Pairs}
use Rattle.goal_kinds.specs.declared.faults.Fault.{Fault}
use Rattle.goal_kinds.specs.declared.faults.Fault.TheVariants as fault
use Rattle.goal_solver.specs.Added.{with_goals}
use Rattle.goal_eval.specs.ErasedArgs.{erased_args}
use Rattle.goal_solver.specs.Answers.{IsOwed, IsOwedBeyond, level_over}
use Rattle.goal_solver.specs.Equating.{IsEquated, equation}
use Rattle.goal_solver.specs.Relating.{AgreesWith, Identifies, SaysYes, Refuses, LeavesOpen, all_bound, all_replaced}
use Rattle.goal_solver.specs.State.{State, kinds_of}
use Rattle.goal_eval.specs.declared.eval.outcomes.HeaderMatch.{HeaderMatch}
use Rattle.goal_eval.specs.declared.eval.outcomes.HeaderMatch.TheVariants as match
use Rattle.goal_solver.specs.Variables.{with_variables, kind_for, fresh_args}
use Rattle.goal_eval.specs.Outcomes.{SaysMatch}
use Rattle.goal_eval.specs.declared.eval.outcomes.Stop.{Stop}

-- whose arguments a definition takes that an impl uses, by where it stands
abbrev pub taken_by : State → ImplId → Container → Taken
taken_by s i (container.Trait j) = from_projection
taken_by s i (container.Impl j) = if j.0 == i.0 then from_impl else from_other (impl_of s.tables j)

-- the arguments of a goal's alias that come after its trait's
abbrev pub own_after : TraitRef → Goal NormalizesTo → List Tree
own_after r g = drop (length r.args.items) (trees_of g.predicate.alias.args.items)

-- the arguments of an impl in place of the trait's
abbrev pub rebased : List GenericArg → TraitRef → Goal NormalizesTo → List Tree
rebased args r g = trees_of args ++ own_after r g

-- the arguments of a trait reference with the bindings of a context followed, lifetimes aside
abbrev pub bound_ref : State → TraitRef → List Tree
bound_ref s r = all_bound s (erased_args r.args.items)

-- neither terms nor an environment hold an inference variable
abbrev pub AreClosedIn : List Clause → List Tree → Type 0
AreClosedIn env ts = (list_any (some_node is_any_infer) ts || some_in_env is_any_infer env) ≡ false

-- how certain an answer is
abbrev pub certainty_in : Result (Vec GenericArg Global × Certainty) Fault → Result Certainty Fault
certainty_in (Ok r) = Ok r.1
certainty_in (Err f) = Err f

-- just these arguments are answered, with this certainty; only memory is refused
abbrev pub AnswersJust : List Tree → Certainty → Result (Vec GenericArg Global × Certainty) Fault → Type 0
AnswersJust ts c (Ok r) = (trees_of r.0.items ≡ ts) × (r.1 ≡ c)
AnswersJust ts c (Err f) = f ≡ fault.OutOfMemory

-- just these are answered with `Yes`, and nothing changes
abbrev pub Takes : State → State → List Tree → Result (Vec GenericArg Global × Certainty) Fault → Type 0
Takes old new ts r = AnswersJust ts certainty.Yes r × (new ≡ old)

-- just the item's own are answered, with `Maybe`, and nothing changes
abbrev pub TakesOwn : State → State → TraitRef → Goal NormalizesTo → Result (Vec GenericArg Global × Certainty) Fault → Type 0
TakesOwn old new r g answer = AnswersJust (own_after r g) certainty.Maybe answer × (new ≡ old)

-- the arguments of a goal's alias
abbrev pub args_asked : Goal NormalizesTo → List Tree
args_asked g = trees_of g.predicate.alias.args.items

-- a yes says that an impl's header fits given terms under the answered arguments before the own ones; else these are the terms of the parameters, if all are known
abbrev pub IsTranslatedBy : Level → ImplRow → List Tree → List Tree → List Tree → Certainty → Type 0
IsTranslatedBy L q gs own args certainty.Yes = (s : List Tree) × Fits L q.params.items (header_of q) gs s × (args ≡ s ++ own)
IsTranslatedBy L q gs own args certainty.Maybe = (s : List Tree) → AllKnown L q.params.items (header_of q) gs s → args ≡ s ++ own

-- and a refusal says that it clashes
abbrev pub IsTranslation : Level → ImplRow → List Tree → List Tree → Result (Vec GenericArg Global × Certainty) Fault → Type 0
IsTranslation L q gs own (Ok r) = IsTranslatedBy L q gs own (erased_args r.0.items) r.1
IsTranslation L q gs own (Err fault.NoSolution) = Clashes L q.params.items (header_of q) gs
IsTranslation L q gs own (Err f) = Unit {0}

-- an impl's header neither fits given terms nor clashes with them
abbrev pub IsHeaderOpen : Level → ImplRow → List Tree → Type 0
IsHeaderOpen L q gs = ((s : List Tree) → Fits L q.params.items (header_of q) gs s → ⊥) × (Clashes L q.params.items (header_of q) gs → ⊥)

-- a match whose parameters are known has so many terms
abbrev pub MatchCounts : ℕ → HeaderMatch → Type 0
MatchCounts n (match.Fits s) = length s.items ≡ n
MatchCounts n (match.Known s) = length s.items ≡ n
MatchCounts n match.Clashes = Unit {0}
MatchCounts n match.Unknown = Unit {0}

-- an impl's header under the answered arguments before the own ones is equal to given terms, with trees put for the variables
abbrev pub IsEqualUnder : Level → ImplRow → (Variable → Tree) → List Tree → List Tree → Result (Vec GenericArg Global × Certainty) Fault → Type 0
IsEqualUnder L q ρ gs own (Ok r) = (s : List Tree) × (trees_of r.0.items ≡ s ++ own) × Pairs L.equal (all_replaced ρ gs) (all_replaced ρ (map (under s) (header_of q)))
IsEqualUnder L q ρ gs own (Err f) = Unit {0}

-- fresh variables for an impl's parameters
abbrev pub fresh_for : State → ImplRow → List Tree
fresh_for s q = fresh_args q.params.items (length (kinds_of s))

-- a context in which they were made, and nothing else
abbrev pub with_fresh : ImplRow → State → State
with_fresh q s = with_variables (map kind_for q.params.items) s

-- they were made, no variable was bound, and they are answered before the own arguments
abbrev pub IsFresh : State → State → ImplRow → List Tree → List Tree → Type 0
IsFresh old new q own args = (new.inference ≡ (with_fresh q old).inference) × (args ≡ fresh_for old q ++ own)

-- no variable was bound, and none was made but these
abbrev pub BindsNothing : State → State → ImplRow → List Tree → List Tree → Type 0
BindsNothing old new q own args = (new.inference ≡ old.inference) ⊎ IsFresh old new q own args

-- they are answered before the own arguments, as certainly as the impl's header under them was made equal to given terms
abbrev pub IsMadeEqual : State → State → List Clause → ImplRow → List Tree → List Tree → Result (Vec GenericArg Global × Certainty) Fault → Type 0
IsMadeEqual old new env q ts own (Ok r) =
    (trees_of r.0.items ≡ fresh_for old q ++ own)
    × IsEquated (with_fresh q old) new (equation env ts (map (instance (fresh_for old q)) (trees_of q.trait_args.items))) (Ok r.1)
IsMadeEqual old new env q ts own (Err f) = Unit {0}

-- a predicate asks this
abbrev pub Asks : Predicate → PredicateTree → Type 0
Asks (predicate.Trait q) t = tree_of_trait_predicate q ≡ t
Asks (predicate.Projection q) t = tree_of_projection q ≡ t
Asks (predicate.HostEffect q) t = tree_of_host_effect q ≡ t
Asks (predicate.NormalizesTo q) t = ⊥
Asks predicate.Ambiguous t = ⊥

-- two environments have the same clauses
abbrev pub IsSameEnvironment : List Clause → List Clause → Type 0
IsSameEnvironment env copies = map tree_of_whole_clause copies ≡ map tree_of_whole_clause env

-- a goal asks in an environment what a clause says under arguments, below its binder
abbrev pub AsksUnder : List Clause → List Tree → Clause → Goal Predicate → Type 0
AsksUnder env s c g = IsSameEnvironment env g.param_env.items × Asks g.predicate (folded_clause (instantiating s) 0 (tree_of_whole_clause c)).kind

-- and names no source
abbrev pub IsGoalUnder : List Clause → List Tree → Clause → GoalSource × Goal Predicate → Type 0
IsGoalUnder env s c p = (p.0 ≡ source.Misc) × AsksUnder env s c p.1

-- as many arguments of an impl as it has parameters, with others after them, are answered, and the impl's where clauses under them were added as goals
pub record IsAdded (old new : State) (q : ImplRow) (env : List Clause) (own args : List Tree) : Type 0 where
  pub first : List Tree
  pub count : length first ≡ length q.params.items
  pub all : args ≡ first ++ own
  pub goals : List (GoalSource × Goal Predicate)
  pub added : new.goals ≡ old.goals ++ goals
  pub asks : AllZip (IsGoalUnder env first) q.predicates.items goals

-- a goal for each where clause is added, and nothing else changes
abbrev pub AddsClauses : State → State → List Clause → List Clause → List Tree → Type 0
AddsClauses old new env clauses s = (goals : List (GoalSource × Goal Predicate)) × AllZip (IsGoalUnder env s) clauses goals × (new ≡ with_goals goals old)

-- variables are made, and nothing else changes
abbrev pub MakesVariables : State → State → Type 0
MakesVariables old new = (ks : List VarKind) × (new ≡ with_variables ks old)

-- only terms, inference state, added goals, recorded accesses and delayed faults change
abbrev pub ChangesGoals : State → State → Type 0
ChangesGoals old new = new ≡ record old { terms = new.terms; inference = new.inference; goals = new.goals; accesses = new.accesses; delayed_faults = new.delayed_faults }

-- another impl, in which a definition stands, is asked for its arguments for a trait reference, with own ones behind them
pub record OtherAsked : Type 0 where
  pub row : ImplRow
  pub environment : List Clause
  pub trait_ref : TraitRef
  pub own : List Tree

abbrev pub asked_of : TraitRef → Goal NormalizesTo → ImplRow → OtherAsked
asked_of r g q = record { row = q; environment = g.param_env.items; trait_ref = r; own = own_after r g }

-- its row, over an environment, for a trait reference, without own arguments behind them
abbrev pub asked_for : ImplRow → List Clause → TraitRef → OtherAsked
asked_for q env r = record { row = q; environment = env; trait_ref = r; own = [] }

-- neither the trait reference, bindings followed, nor the environment hold an inference variable
abbrev pub IsClosedFor : State → OtherAsked → Type 0
IsClosedFor s o = AreClosedIn o.environment (bound_ref s o.trait_ref)

-- what is answered where neither hold one: a yes says that the header fits under the arguments, and a refusal that it clashes
abbrev pub ReadsSoundly : State → State → OtherAsked → Result (Vec GenericArg Global × Certainty) Fault → Type 0
ReadsSoundly old new o r = (m : TypingMode) → IsOwedBeyond new m → IsClosedFor old o → IsTranslation (level_over old m o.environment) o.row (bound_ref old o.trait_ref) (map erased o.own) r

-- where it stays open, the header neither fits nor clashes
abbrev pub LeavesHeaderOpen : State → State → OtherAsked → Result (Vec GenericArg Global × Certainty) Fault → Type 0
LeavesHeaderOpen old new o r = (m : TypingMode) → IsOwedBeyond new m → IsClosedFor old o → LeavesOpen (certainty_in r) → IsHeaderOpen (level_over old m o.environment) o.row (bound_ref old o.trait_ref)

-- not all of the header's parameters are known
abbrev pub IsNotKnown : Level → ImplRow → List Tree → Type 0
IsNotKnown L q gs = (s : List Tree) → AllKnown L q.params.items (header_of q) gs s → ⊥

-- fresh variables are answered before the own arguments
abbrev pub AnswersFresh : State → State → ImplRow → List Tree → Result (Vec GenericArg Global × Certainty) Fault → Type 0
AnswersFresh old new q own r = IfOk r (λ x. IsFresh old new q own (trees_of x.0.items))

abbrev pub FreshIfUnknown : Level → State → State → ImplRow → List Tree → Result (Vec GenericArg Global × Certainty) Fault → Type 0
FreshIfUnknown L old new q gs r = IsNotKnown L q gs → AnswersFresh old new q [] r

-- they are where not all are known
abbrev pub MakesFresh : State → State → OtherAsked → Result (Vec GenericArg Global × Certainty) Fault → Type 0
MakesFresh old new o r = (m : TypingMode) → IsOwedBeyond new m → IsClosedFor old o → IsNotKnown (level_over old m o.environment) o.row (bound_ref old o.trait_ref) → AnswersFresh old new o.row o.own r

-- no variable is bound
abbrev pub BindsNone : State → State → OtherAsked → Result (Vec GenericArg Global × Certainty) Fault → Type 0
BindsNone old new o r = IsClosedFor old o → IfOk r (λ x. BindsNothing old new o.row o.own (trees_of x.0.items))

-- where they hold one, the header under fresh variables is made equal to the trait reference
abbrev pub EquatesHeader : State → State → OtherAsked → Result (Vec GenericArg Global × Certainty) Fault → Type 0
EquatesHeader old new o r = (IsClosedFor old o → ⊥) → IsMadeEqual old new o.environment o.row (trees_of o.trait_ref.args.items) o.own r

-- at a yes they are equal with whatever is put for the variables that are left
abbrev pub EqualsWhereYes : Level → State → ImplRow → List Tree → Result (Vec GenericArg Global × Certainty) Fault → Type 0
EqualsWhereYes L new q gs r = SaysYes (certainty_in r) → (ρ : Variable → Tree) → AgreesWith new ρ → IsEqualUnder L q ρ gs [] r

abbrev pub IsHeaderEqual : State → State → OtherAsked → Result (Vec GenericArg Global × Certainty) Fault → Type 0
IsHeaderEqual old new o r =
    (m : TypingMode) → IsOwed new m → (IsClosedFor old o → ⊥) → SaysYes (certainty_in r) → (ρ : Variable → Tree) → AgreesWith new ρ →
    IsEqualUnder (level_over old m o.environment) o.row ρ (erased_args o.trait_ref.args.items) o.own r

-- a refusal says that nothing makes them equal
abbrev pub NeverEquals : State → ImplRow → List Tree → Result (Vec GenericArg Global × Certainty) Fault → Type 0
NeverEquals old q gs r =
    Refuses (certainty_in r) → (ρ : Variable → Tree) → OfKinds ρ → AgreesWith old ρ → Identifies ρ gs (map (under (fresh_args q.params.items (length (kinds_of old)))) (header_of q)) → ⊥

abbrev pub IsNeverEqual : State → OtherAsked → Result (Vec GenericArg Global × Certainty) Fault → Type 0
IsNeverEqual old o r = (IsClosedFor old o → ⊥) → NeverEquals old o.row (erased_args o.trait_ref.args.items) r

-- the impl's where clauses under the arguments are added as goals
abbrev pub AddsItsGoals : State → State → OtherAsked → Result (Vec GenericArg Global × Certainty) Fault → Type 0
AddsItsGoals old new o r = IfOk r (λ x. IsAdded old new o.row o.environment o.own (trees_of x.0.items))

-- what an impl's header comes to for given terms
abbrev pub SaysHeader : Level → ImplRow → List Tree → List Tree → Result HeaderMatch Stop → Type 0
SaysHeader L q gs T r = IfOk r (SaysMatch L q.params.items (header_of q) gs T)

-- and that a match has a term for each parameter
abbrev pub SaysCounted : Level → ImplRow → List Tree → List Tree → HeaderMatch → Type 0
SaysCounted L q gs T o = MatchCounts (length q.params.items) o × SaysMatch L q.params.items (header_of q) gs T o

-- then the arguments are read off where the header's parameters stand, and no variable is bound
pub record ReadsOff (old new : State) (o : OtherAsked) (r : Result (Vec GenericArg Global × Certainty) Fault) : Type 0 where
  pub sound : (m : TypingMode) → IsOwedBeyond new m → IsTranslation (level_over old m o.environment) o.row (bound_ref old o.trait_ref) (map erased o.own) r
  pub decided : (m : TypingMode) → IsOwedBeyond new m → LeavesOpen (certainty_in r) → IsHeaderOpen (level_over old m o.environment) o.row (bound_ref old o.trait_ref)
  pub fresh : (m : TypingMode) → IsOwedBeyond new m →
      ((s : List Tree) → AllKnown (level_over old m o.environment) o.row.params.items (header_of o.row) (bound_ref old o.trait_ref) s → ⊥) →
      IfOk r (λ x. IsFresh old new o.row o.own (trees_of x.0.items))
  pub binds_nothing : IfOk r (λ x. BindsNothing old new o.row o.own (trees_of x.0.items))

-- else the header under fresh variables is made equal to the trait reference, and a refusal says that no replacement does so
pub record MakesEqual (old new : State) (o : OtherAsked) (r : Result (Vec GenericArg Global × Certainty) Fault) : Type 0 where
  pub made_equal : IsMadeEqual old new o.environment o.row (trees_of o.trait_ref.args.items) o.own r
  pub equal : (m : TypingMode) → IsOwed new m → SaysYes (certainty_in r) → (ρ : Variable → Tree) → AgreesWith new ρ →
      IsEqualUnder (level_over old m o.environment) o.row ρ (erased_args o.trait_ref.args.items) o.own r
  pub never : Refuses (certainty_in r) → (ρ : Variable → Tree) → OfKinds ρ → AgreesWith old ρ →
      Identifies ρ (erased_args o.trait_ref.args.items) (map (under (fresh_args o.row.params.items (length (kinds_of old)))) (header_of o.row)) → ⊥

-- either way the impl's where clauses under its arguments are added as goals
pub record Translates (old new : State) (o : OtherAsked) (r : Result (Vec GenericArg Global × Certainty) Fault) : Type 0 where
  pub closed : IsClosedFor old o → ReadsOff old new o r
  pub variables : (IsClosedFor old o → ⊥) → MakesEqual old new o r
  pub added : IfOk r (λ x. IsAdded old new o.row o.environment o.own (trees_of x.0.items))

-- this is said of the other impl whose arguments are taken, if it has a row
abbrev pub IfOther : Taken → (ImplRow → Type 0) → Type 0
IfOther taken P = (q : ImplRow) → taken ≡ from_other (Some q) → P q
