-- How a trait goal with inference variables is answered: by its candidates, class by class.
use Rattle.std.specs.Prelude.{◌≡◌, ◌⊎◌, ℕ, Bool, true, false, List, [], ◌∷◌, Option, Some, None, Result, Ok, Err}
use Rattle.goal_terms.specs.NodeTests.{general_variable_at}
use Rattle.goal_terms.specs.Tree.{Tree, node_of}
use Rattle.goal_terms.specs.Erased.{erased}
use Rattle.goal_terms.specs.TreeOf.{tree_of_alias, tree_of_ty}
use Rattle.goal_terms.specs.declared.answers.Certainty.{Certainty}
use Rattle.goal_terms.specs.declared.answers.Certainty.TheVariants as certainty
use Rattle.goal_terms.specs.declared.answers.Response.{Response}
use Rattle.goal_terms.specs.declared.answers.TraitGoalProvenVia.{TraitGoalProvenVia}
use Rattle.goal_terms.specs.declared.answers.TraitGoalProvenVia.TheVariants as class
use Rattle.goal_terms.specs.declared.modes.TypingMode.{TypingMode}
use Rattle.goal_terms.specs.declared.predicates.Clause.{Clause}
use Rattle.goal_terms.specs.declared.predicates.Goal.{Goal}
use Rattle.goal_terms.specs.declared.predicates.TraitPredicate.{TraitPredicate}
use Rattle.goal_terms.specs.declared.terms.AliasTerm.{AliasTerm}
use Rattle.goal_terms.specs.declared.terms.Term.{Term}
use Rattle.goal_terms.specs.declared.terms.Term.TheVariants as term
use Rattle.goal_terms.specs.declared.terms.Ty.{Ty}
use Rattle.goal_tables.specs.declared.rows.Tables.{Tables}
use Rattle.goal_kinds.specs.declared.faults.Fault.{Fault}
use Rattle.goal_kinds.specs.declared.faults.Fault.TheVariants as fault
use Rattle.goal_kinds.specs.declared.rules.Rule.{Rule}
use Rattle.goal_kinds.specs.Collecting.{has_kind_fault, rules_of_class, Kind, trait_kind, CollectsFor, goal_in}
use Rattle.goal_solver.specs.Answers.{IsMaybe}
use Rattle.goal_solver.specs.Binding.{Applies, bound_term}
use Rattle.goal_solver.specs.GoingBack.{begun, restored}
use Rattle.goal_solver.specs.HeadForms.{is_open_form}
use Rattle.goal_solver.specs.HiddenTypes.{AsksForm}
use Rattle.goal_solver.specs.OpenForms.{Answering, OpensForm, OpensFrom}
use Rattle.goal_solver.specs.Relating.{ChangesRecords}
use Rattle.goal_solver.specs.Responses.{ListsSinceMark}
use Rattle.goal_solver.specs.MergedRules.{MergesRules}
use Rattle.goal_solver.specs.State.{State}
use Rattle.goal_solver.specs.TranslatedArgs.{IsSameEnvironment}
use Rattle.goal_kinds.specs.declared.assembly.class_rules.ClassRules.{ClassRules}
use Rattle.goal_solver.specs.declared.assembly.merged_rules.Merged.{Merged}
use Rattle.goal_solver.specs.declared.assembly.merged_rules.Merged.TheVariants as merged

-- what is answered for a head form is no type, or a general variable
abbrev pub IsNoForm : Option Term → Type 0
IsNoForm None = Unit {0}
IsNoForm (Some (term.Ty t)) = (n : ℕ) × (general_variable_at (node_of (tree_of_ty t)) ≡ Some n)
IsNoForm (Some (term.Const c)) = Unit {0}

-- the type in it, if there is one
abbrev pub IsConsidered : Option Term → Option Ty → Type 0
IsConsidered a None = IsNoForm a
IsConsidered a (Some t) = (a ≡ Some (term.Ty t)) × (general_variable_at (node_of (tree_of_ty t)) ≡ None)

-- a goal whose self type has a head form is considered for that form, in the same environment
pub record Considers {P : Type 0} (self_of : P → Option Ty) (with_self : P → Tree → P → Type 0) (g h : Goal P) (old new : State) : Type 0 where
  pub self : Ty
  pub asked : self_of g.predicate ≡ Some self
  pub form : Ty
  pub found : AsksForm g.param_env.items (tree_of_ty self) old new (Ok (Some (term.Ty form)))
  pub general : general_variable_at (node_of (tree_of_ty form)) ≡ None
  pub replaced : with_self g.predicate (tree_of_ty form) h.predicate
  pub environment : IsSameEnvironment g.param_env.items h.param_env.items

-- there is no such form, or the goal for it isn't one that a check accepts
abbrev pub IsLeft : {P : Type 0} → (P → Option Ty) → (P → Tree → P → Type 0) → (Goal P → Bool) → Goal P → State → State → Type 0
IsLeft {P} self_of with_self lies g old new =
    ((self_of g.predicate ≡ None) × (new ≡ old))
    ⊎ ((self : Ty) × (self_of g.predicate ≡ Some self) × (a : Option Term) × AsksForm g.param_env.items (tree_of_ty self) old new (Ok a) × IsNoForm a)
    ⊎ ((h : Goal P) × Considers self_of with_self g h old new × (lies h ≡ true))

-- it is refuted that the self type has a head form
abbrev pub IsFormless : {P : Type 0} → (P → Option Ty) → Goal P → State → State → Type 0
IsFormless self_of g old new = (self : Ty) × (self_of g.predicate ≡ Some self) × AsksForm g.param_env.items (tree_of_ty self) old new (Err fault.NoSolution)

-- a goal is considered, or left undecided, or refused, by the head form of its self type
abbrev pub FormsGoal : {P : Type 0} → (P → Option Ty) → (P → Tree → P → Type 0) → (Goal P → Bool) → Goal P → State → State → Option (Goal P) → Type 0
FormsGoal self_of with_self lies g old new None = IsLeft self_of with_self lies g old new
FormsGoal self_of with_self lies g old new (Some h) = Considers self_of with_self g h old new × (lies h ≡ false)

-- a response with the class through which it says yes
abbrev pub class_named : TraitGoalProvenVia → Certainty → Option TraitGoalProvenVia
class_named c certainty.Yes = Some c
class_named c certainty.Maybe = None

abbrev pub proven_by : TraitGoalProvenVia → Response → Response
proven_by c r = record r { proven_via = class_named c r.certainty }

-- what a class answers, by what its rules are merged to: nothing where all are refused
abbrev pub IsClassAnswer : TraitGoalProvenVia → Merged → Option Response → Type 0
IsClassAnswer c merged.Refuted a = a ≡ None
IsClassAnswer c (merged.Answered r) a = a ≡ Some (proven_by c r)
IsClassAnswer c merged.Split None = ⊥
IsClassAnswer c merged.Split (Some r) = r.certainty ≡ certainty.Maybe

-- the rules of a class for a goal are run and merged, and the class answers
abbrev pub ClassAnswers : (TypingMode → TraitGoalProvenVia → List Rule → Type 0) → List Clause → TraitGoalProvenVia → State → Option Response → State → Type 0
ClassAnswers Collects env c s a u = (rules : List Rule) × Collects s.typing_mode c rules × (m : Merged) × MergesRules env rules s m u × IsClassAnswer c m a

-- the first of some classes that answers decides, and where none does the goal is refused
unfoldable pub ByClasses : (TypingMode → TraitGoalProvenVia → List Rule → Type 0) → List Clause → List TraitGoalProvenVia → State → Result Response Fault → State → Type 0
ByClasses Collects env [] s r u = (u ≡ s) × (r ≡ Err fault.NoSolution)
ByClasses Collects env (c ∷ cs) s r u =
    ((a : Response) × ClassAnswers Collects env c s (Some a) u × (r ≡ Ok a))
    ⊎ ((z : State) × ClassAnswers Collects env c s None z × ByClasses Collects env cs z r u)

-- the classes of a trait goal, in order
abbrev pub trait_classes : List TraitGoalProvenVia
trait_classes = class.ParamEnv ∷ class.AliasBound ∷ class.Misc ∷ []

-- some rules are those of a class, in a mode
abbrev pub AreOfClass : TypingMode → ClassRules → TypingMode → TraitGoalProvenVia → List Rule → Type 0
AreOfClass mode w m c rs = (m ≡ mode) × (rs ≡ rules_of_class w c)

-- a claim about an answer, where there is one
abbrev pub WhenAnswered : Result Response Fault → Type 0 → Type 0
WhenAnswered (Ok r) A = A
WhenAnswered (Err fault.NoSolution) A = A
WhenAnswered (Err f) A = Unit {0}

-- so it is of one that may be missing
abbrev pub WhenTried : Result (Option Response) Fault → Type 0 → Type 0
WhenTried (Ok r) A = A
WhenTried (Err fault.NoSolution) A = A
WhenTried (Err f) A = Unit {0}

-- the rules of a goal's candidates are collected, class by class, for the goal that is considered in its place
pub record CollectsClasses {P : Type 0} (K : Kind P) (g : Goal P) (s z : State) (w : ClassRules) : Type 0 where
  pub considered : Goal P
  pub considers : Considers K.words.self_type K.words.is_with_self g considered s z
  pub accepted : has_kind_fault K.has_fault s.tables considered ≡ false
  pub environment : w.param_env.items ≡ considered.param_env.items
  pub collected : (c : TraitGoalProvenVia) → CollectsFor K (goal_in s.tables considered s.typing_mode) c (rules_of_class w c)

-- there are none where no goal is considered
abbrev pub ConsidersRules : {P : Type 0} → Kind P → Goal P → State → Option ClassRules → State → Type 0
ConsidersRules K g s None z = IsLeft K.words.self_type K.words.is_with_self (has_kind_fault K.has_fault s.tables) g s z
ConsidersRules K g s (Some w) z = CollectsClasses K g s z w

-- an alias with inference variables, or in an environment with some, is the self type of a goal
pub record AsksOpenSelf {P : Type 0} (self_of : P → Option Ty) (g : Goal P) (s : State) : Type 0 where
  pub self : Ty
  pub asked : self_of g.predicate ≡ Some self
  pub holds_some : is_open_form (bound_term s (tree_of_ty self)) g.param_env.items ≡ true

-- this alias, bindings followed
pub record IsSelfAlias {P : Type 0} (self_of : P → Option Ty) (g : Goal P) (s : State) (a : AliasTerm) : Type 0 where
  pub self : AsksOpenSelf self_of g s
  pub same : erased (tree_of_alias a) ≡ bound_term s (tree_of_ty self.self)

-- in a trial its head form is asked for
pub record OpensSelf {P : Type 0} (Answers : Answering) (self_of : P → Option Ty) (g : Goal P) (s : State) (a : Result (Option Term) Fault) (z : State) : Type 0 where
  pub self : AsksOpenSelf self_of g s
  pub opens : OpensForm Answers g.param_env.items (bound_term s (tree_of_ty self.self)) (begun s) a z
  pub alone : ChangesRecords (begun s) z

-- a goal is considered for a head form of its self type, in the same environment
pub record TakesSelf {P : Type 0} (with_self : P → Tree → P → Type 0) (g h : Goal P) (a : Option Term) : Type 0 where
  pub form : Ty
  pub found : a ≡ Some (term.Ty form)
  pub general : general_variable_at (node_of (tree_of_ty form)) ≡ None
  pub replaced : with_self g.predicate (tree_of_ty form) h.predicate
  pub environment : IsSameEnvironment g.param_env.items h.param_env.items

-- there is no such form, or the goal for it isn't one that a check accepts
abbrev pub PassesSelf : {P : Type 0} → (P → Tree → P → Type 0) → (Goal P → Bool) → Goal P → Option Term → Type 0
PassesSelf {P} with_self lies g a = IsNoForm a ⊎ ((h : Goal P) × TakesSelf with_self g h a × (lies h ≡ true))

-- the rules of its candidates are collected for that goal, class by class
pub record ClassesForSelf {P : Type 0} (K : Kind P) (t : Tables) (m : TypingMode) (g : Goal P) (a : Option Term) (w : ClassRules) : Type 0 where
  pub considered : Goal P
  pub takes : TakesSelf K.words.is_with_self g considered a
  pub accepted : has_kind_fault K.has_fault t considered ≡ false
  pub environment : w.param_env.items ≡ considered.param_env.items
  pub collected : (c : TraitGoalProvenVia) → CollectsFor K (goal_in t considered m) c (rules_of_class w c)

-- beside what came before it in a trial a response is applied, and all that came is listed
pub record IsBeside (s : State) (q r : Response) (u : State) : Type 0 where
  pub applied : State
  pub applies : Applies s applied q
  pub listed : Response
  pub lists : ListsSinceMark applied q.certainty listed
  pub is : r ≡ record listed { proven_via = q.proven_via }
  pub left : u ≡ record applied { terms = u.terms }

-- a response lists what came in a trial
abbrev pub IsListedIn : State → Response → Type 0
IsListedIn s r = (l : Response) × ListsSinceMark s l.certainty l × (r ≡ record l { proven_via = r.proven_via })

-- so what is answered there is
abbrev pub AnswersBeside : State → Result Response Fault → Result (Option Response) Fault → State → Type 0
AnswersBeside s (Ok q) r u = (x : Response) × IsBeside s q x u × (r ≡ Ok (Some x))
AnswersBeside s (Err f) r u = (r ≡ Err f) × (u ≡ s)

-- by its classes, for what is answered for the head form of its self type; a refused form refuses, and without candidates there is no answer
abbrev pub ByFormedClasses : {P : Type 0} → Kind P → Goal P → Result (Option Term) Fault → State → Result (Option Response) Fault → State → Type 0
ByFormedClasses K g (Err f) z r u = (r ≡ Err f) × (u ≡ z)
ByFormedClasses K g (Ok a) z r u =
    (PassesSelf K.words.is_with_self (has_kind_fault K.has_fault z.tables) g a × (r ≡ Ok None) × (u ≡ z))
    ⊎ ((w : ClassRules)
    × (q : Result Response Fault)
    × (y : State)
    × ClassesForSelf K z.tables z.typing_mode g a w
    × ByClasses (AreOfClass z.typing_mode w) w.param_env.items trait_classes z q y
    × AnswersBeside y q r u)

-- what is answered after a trial: without an answer there the goal is undecided
abbrev pub IsAfterTrial : Result (Option Response) Fault → Result Response Fault → Type 0
IsAfterTrial (Ok None) r = IsMaybe r
IsAfterTrial (Ok (Some x)) r = r ≡ Ok x
IsAfterTrial (Err f) r = r ≡ Err f

-- how a goal is answered by the head form of its self type
abbrev pub FormedBy : Type 1
FormedBy = Result (Option Term) Fault → State → Result (Option Response) Fault → State → Type 0

-- such an alias's head form is asked for, and then the goal is answered by it
abbrev pub InTrialWith : Answering → FormedBy → List Clause → AliasTerm → State → Result (Option Response) Fault → State → Type 0
InTrialWith Answers By env l s r u = (a : Result (Option Term) Fault) × (z : State) × OpensFrom Answers env (erased (tree_of_alias l)) s a z × ChangesRecords s z × By a z r u

-- in a trial the head form of such an alias is asked for, the goal answered by it, and then everything goes back but terms and records
pub record MergesOpenedWith {P : Type 0} (Answers : Answering) (self_of : P → Option Ty) (By : FormedBy) (g : Goal P) (s : State) (r : Result Response Fault) (u : State) : Type 0 where
  pub form : Result (Option Term) Fault
  pub formed : State
  pub opens : OpensSelf Answers self_of g s form formed
  pub answer : Result (Option Response) Fault
  pub last : State
  pub by : By form formed answer last
  pub after : IsAfterTrial answer r
  pub back : u ≡ restored s last

-- a goal is answered by its candidates: undecided where it isn't considered, refused where it is refuted that its self type has a head form, and else by its classes
abbrev pub MergesGoalWith : {P : Type 0} → Answering → Kind P → Goal P → State → Result Response Fault → State → Type 0
MergesGoalWith {P} Answers K g s r u =
    ((z : State) × IsLeft K.words.self_type K.words.is_with_self (has_kind_fault K.has_fault s.tables) g s z × (AsksOpenSelf K.words.self_type g z → ⊥) × (u ≡ restored z u) × IsMaybe r)
    ⊎ (IsFormless K.words.self_type g s u × (r ≡ Err fault.NoSolution))
    ⊎ ((h : Goal P)
    × (z : State)
    × Considers K.words.self_type K.words.is_with_self g h s z
    × (has_kind_fault K.has_fault s.tables h ≡ false)
    × ByClasses (λ m. CollectsFor K (goal_in s.tables h m)) h.param_env.items trait_classes z r u)
    ⊎ ((z : State) × (z ≡ restored s z) × MergesOpenedWith Answers K.words.self_type (ByFormedClasses K g) g z r u)

-- so a trait goal is
abbrev pub MergesTraitWith : Answering → Goal TraitPredicate → State → Result Response Fault → State → Type 0
MergesTraitWith Answers g s r u = MergesGoalWith Answers trait_kind g s r u
