-- Which candidates of a goal the rules of a list speak for.
use Rattle.std.specs.Prelude.{◌≡◌, ◌⊎◌, ◌||◌, ℕ, Bool, false, List, [], ◌∷◌, ◌++◌, map, Option, Some, None}
use Rattle.std.specs.List.{All}
use Rattle.goal_terms.specs.Erased.{erased}
use Rattle.goal_terms.specs.Tree.{Tree}
use Rattle.goal_terms.specs.TreeOf.{tree_of_ty, trees_of}
use Rattle.goal_terms.specs.declared.answers.Certainty.{Certainty}
use Rattle.goal_terms.specs.declared.answers.Certainty.TheVariants as certainty
use Rattle.goal_terms.specs.declared.answers.TraitGoalProvenVia.{TraitGoalProvenVia}
use Rattle.goal_terms.specs.declared.answers.TraitGoalProvenVia.TheVariants as class
use Rattle.goal_terms.specs.declared.modes.TypingMode.{TypingMode}
use Rattle.goal_terms.specs.declared.ids.TraitId.{TraitId}
use Rattle.goal_terms.specs.declared.predicates.Clause.{Clause}
use Rattle.goal_terms.specs.declared.predicates.ClauseKind.{ClauseKind}
use Rattle.goal_terms.specs.declared.predicates.Goal.{Goal}
use Rattle.goal_terms.specs.declared.predicates.TraitPredicate.{TraitPredicate}
use Rattle.goal_terms.specs.declared.terms.AliasTerm.{AliasTerm}
use Rattle.goal_terms.specs.declared.terms.AliasTermKind.{AliasTermKind}
use Rattle.goal_terms.specs.declared.terms.AliasTermKind.TheVariants.{ProjectionTy, OpaqueTy}
use Rattle.goal_terms.specs.declared.terms.GenericArg.{GenericArg}
use Rattle.goal_terms.specs.declared.terms.Ty.{Ty}
use Rattle.goal_terms.specs.declared.terms.Ty.TheVariants as types
use Rattle.goal_tables.specs.Clauses.{lies_in_trait_ref}
use Rattle.goal_tables.specs.Rows.{impl_of, item_of, opaque_of}
use Rattle.goal_tables.specs.declared.rows.ImplRow.{ImplRow}
use Rattle.goal_tables.specs.declared.rows.ItemRow.{ItemRow}
use Rattle.goal_tables.specs.declared.rows.OpaqueRow.{OpaqueRow}
use Rattle.goal_tables.specs.declared.rows.Tables.{Tables}
use Rattle.goal_tables.specs.declared.faults.TermFault.{TermFault}
use Rattle.goal_lists.specs.Answers.{setting_of}
use Rattle.goal_kinds.specs.CandidateRules.{RuleSays, HoldsError, IsAcceptedClause, NamedRule, trait_alias, sizedness, copy_clone, fn_ptr_trait, fn_trait, tuple, pointee, discriminant_kind, destruct, field, said_by}
use Rattle.goal_lists.specs.Candidates.{Candidate, assumption, implied_bound, by_impl, built_in, error, bounds_under, object_bounds, impls_for, environment, rest}
use Rattle.goal_lists.specs.CandidateWords.{ForImplsAt}
use Rattle.goal_kinds.specs.KindWords.{KindWords, trait_words, GoalWords, words_for, Gives, Refutes, HasList}
use Rattle.goal_lists.specs.Levels.{level}
use Rattle.goal_lists.specs.Premises.{TraitTree}
use Rattle.goal_kinds.specs.RuleWords.{TermsAreFor}
use Rattle.goal_kinds.specs.Rules.{RuleRefuted}
use Rattle.goal_kinds.specs.declared.rules.Rule.{Rule}
use Rattle.goal_tables.specs.Predicates.{lies_in_env}
use Rattle.goal_tables.specs.declared.faults.TermFault.TheVariants.{UnknownItem, WrongArgumentCount, WrongArgumentKind}
use Rattle.goal_kinds.specs.declared.assembly.class_rules.ClassRules.{ClassRules}

-- a rule says what a candidate does, if it is sure: it gives a term at a height where the candidate does, and is refuted where that is
abbrev pub SaysAs : GoalWords → Certainty → Rule → Candidate → Type 0
SaysAs W k r c = Gives W k c r × Refutes W c r

-- it says exactly what the candidate does
abbrev pub SaysTheSame : GoalWords → Rule → Candidate → Type 0
SaysTheSame W r c = SaysAs W certainty.Yes r c

-- it says no more than the candidate does
abbrev pub SaysNoMore : GoalWords → Rule → Candidate → Type 0
SaysNoMore W r c =
    ((n : ℕ) (t : Tree) → RuleSays W.has_term W.setting n r t → W.gives n c t) × ((n : ℕ) → RuleRefuted W.setting (level W.setting n) r → W.refuted n c)

-- what a rule says of a candidate: that of the built-in one may say less than it
abbrev pub Says : GoalWords → Rule → Candidate → Type 0
Says W r (assumption p) = SaysTheSame W r (assumption p)
Says W r (implied_bound q cs) = SaysTheSame W r (implied_bound q cs)
Says W r (by_impl i) = SaysTheSame W r (by_impl i)
Says W r built_in = SaysNoMore W r built_in
Says W r error = SaysTheSame W r error

-- a rule speaks for a candidate: its list is the candidate's, and says what the candidate does
abbrev pub Speaks : GoalWords → Rule → Candidate → Type 0
Speaks W r c = HasList W certainty.Yes c r × Says W r c

-- a candidate is a clause that the fast rejection doesn't let pass
abbrev pub IsBarred : GoalWords → Candidate → Type 0
IsBarred W c = (k : ClauseKind) × (c ≡ said_by k) × (W.passes k ≡ false)

-- whether one of the later half of the built-in rules is for a goal; and of the trait alias and all of them
abbrev pub is_later_named : (NamedRule → Bool) → Bool
is_later_named is_for = is_for tuple || is_for pointee || is_for discriminant_kind || is_for destruct || is_for field

abbrev pub is_any_named : (NamedRule → Bool) → Bool
is_any_named is_for =
    is_for trait_alias || is_for sizedness || is_for copy_clone || is_for fn_ptr_trait || is_for fn_trait || is_later_named is_for

-- no built-in rule is for a goal
abbrev pub HasNoneBuiltIn : GoalWords → Type 0
HasNoneBuiltIn W = is_any_named W.is_for ≡ false

-- why a candidate has no rule: nothing is there that would show the goal by it
abbrev pub IsMissing : GoalWords → Candidate → Type 0
IsMissing W (assumption p) = IsBarred W (assumption p)
IsMissing W (implied_bound q cs) = ⊥
IsMissing W (by_impl i) = ⊥
IsMissing W built_in = HasNoneBuiltIn W
IsMissing W error = HoldsError W.asked → ⊥

-- or it is refuted with no height
abbrev pub Lacks : GoalWords → Candidate → Type 0
Lacks W c = W.refuted 0 c ⊎ IsMissing W c

-- the rule of a candidate is added behind others, or it lacks one
abbrev pub Adds : (Rule → Candidate → Type 0) → (Candidate → Type 0) → Candidate → List Rule → List Rule → Type 0
Adds Speaking Lacking c before after = ((r : Rule) × (after ≡ before ++ r ∷ []) × Speaking r c) ⊎ ((after ≡ before) × Lacking c)

-- rules are collected from candidates: in order, each candidate has its rule there, or lacks one
unfoldable pub AreCollected : (Rule → Candidate → Type 0) → (Candidate → Type 0) → List Rule → List Candidate → Type 0
AreCollected Speaking Lacking rs [] = rs ≡ []
AreCollected Speaking Lacking rs (c ∷ cs) =
    (Lacking c × AreCollected Speaking Lacking rs cs)
    ⊎ ((r : Rule) × (qs : List Rule) × (rs ≡ r ∷ qs) × Speaking r c × AreCollected Speaking Lacking qs cs)

-- rules that are collected from some candidates are, with those behind them, collected from these and more
abbrev pub Collects : (Rule → Candidate → Type 0) → (Candidate → Type 0) → List Candidate → List Rule → List Rule → Type 0
Collects Speaking Lacking more before after =
    (cs : List Candidate) → AreCollected Speaking Lacking before cs → AreCollected Speaking Lacking after (cs ++ more)

-- for a goal: a candidate's rule is added, or it lacks one
abbrev pub AddsFor : GoalWords → Candidate → List Rule → List Rule → Type 0
AddsFor W c before after = Adds (Speaks W) (Lacks W) c before after

-- a clause's rule is added, or the fast rejection doesn't let the clause pass
abbrev pub AddsClause : GoalWords → ClauseKind → List Rule → List Rule → Type 0
AddsClause W k before after = Adds (Speaks W) (λ _. W.passes k ≡ false) (said_by k) before after

-- the rule of an impl of the goal's trait
abbrev pub AddsImpl : GoalWords → ImplRow → List Rule → List Rule → Type 0
AddsImpl W r before after = impl_of W.setting.tables r.id ≡ Some r → W.is_impl_for r → AddsFor W (by_impl r) before after

-- the rules of candidates are collected
abbrev pub CollectsMore : GoalWords → List Candidate → List Rule → List Rule → Type 0
CollectsMore W cs before after = Collects (Speaks W) (Lacks W) cs before after

-- of an accepted environment: a clause that has no rule is refuted
abbrev pub CollectsClauses : GoalWords → List Clause → List Rule → List Rule → Type 0
CollectsClauses W clauses before after =
    All (λ c. IsAcceptedClause W.setting.tables c.kind) clauses → Collects (Speaks W) (λ c. W.refuted 0 c) (environment W.setting) before after

-- of the impls at some places, if each of them is for the goal
abbrev pub CollectsAt : GoalWords → List ℕ → List Rule → List Rule → Type 0
CollectsAt W places before after =
    ForImplsAt W.setting.tables places (λ impls. All (λ r. W.is_impl_for r) impls → CollectsMore W (map by_impl impls) before after)

-- of a trait's impls, and of the rest, if each impl of the trait is for the goal
abbrev pub CollectsImpls : GoalWords → TraitId → List Rule → List Rule → Type 0
CollectsImpls W i before after =
    ((r : ImplRow) → r.trait_id ≡ i → W.is_impl_for r) → CollectsMore W (map by_impl (impls_for W.setting.tables i)) before after

abbrev pub CollectsOthers : GoalWords → TraitId → Ty → List Rule → List Rule → Type 0
CollectsOthers W i s before after =
    ((r : ImplRow) → r.trait_id ≡ i → W.is_impl_for r) → CollectsMore W (rest W.setting i (erased (tree_of_ty s))) before after

-- of what the clauses of a `dyn` type say
abbrev pub CollectsObjects : GoalWords → Ty → List Rule → List Rule → Type 0
CollectsObjects W s before after = CollectsMore W (object_bounds (erased (tree_of_ty s))) before after

-- of a row's clauses under arguments
abbrev pub CollectsDeclared : GoalWords → List GenericArg → List Clause → List Rule → List Rule → Type 0
CollectsDeclared W args clauses before after = CollectsMore W (bounds_under (map erased (trees_of args)) clauses) before after

-- the rules expect the goal's term, if those before did
abbrev pub KeepTermsFor : (Tree → Type 0) → List Rule → List Rule → Type 0
KeepTermsFor E before after = All (λ r. TermsAreFor E r.entries.items) before → All (λ r. TermsAreFor E r.entries.items) after

-- the arguments of an alias that is a type, and then the alias itself, without lifetimes
abbrev pub args_and_itself : AliasTerm → List Tree
args_and_itself a = map erased (trees_of a.args.items ++ tree_of_ty (types.Alias a) ∷ [])

-- the clauses that a row declares for its alias: none where there is no row
abbrev pub clauses_of_item : Option ItemRow → List Clause
clauses_of_item None = []
clauses_of_item (Some r) = r.bounds.items

abbrev pub clauses_of_opaque : Option OpaqueRow → List Clause
clauses_of_opaque None = []
clauses_of_opaque (Some r) = r.bounds.items

-- what bounds a rigid alias: the clauses of its row under arguments, and then what a kind of goals adds
abbrev pub bounds_of_kind : Tables → AliasTermKind → List Tree → List Candidate → List Candidate
bounds_of_kind t (ProjectionTy i) s added = bounds_under s (clauses_of_item (item_of t i)) ++ added
bounds_of_kind t (OpaqueTy i) s added = bounds_under s (clauses_of_opaque (opaque_of t i)) ++ added
bounds_of_kind t _ s added = []

-- rules are collected from what bounds a self type, if it is an alias; else none is added
abbrev pub CollectsBounds : GoalWords → (AliasTerm → List Candidate) → Ty → List Rule → List Rule → Type 0
CollectsBounds W added s before after =
    ((a : AliasTerm) × (s ≡ types.Alias a) × Collects (Speaks W) (Lacks W) (bounds_of_kind W.setting.tables a.kind (args_and_itself a) (added a)) before after)
    ⊎ (((a : AliasTerm) → s ≡ types.Alias a → ⊥) × (after ≡ before))

-- for an alias, of its row's clauses and of what the kind of goals adds; and for a self type, if it is such an alias
abbrev pub CollectsAlias : GoalWords → AliasTerm → List Clause → List Rule → List Rule → Type 0
CollectsAlias W a clauses before after = CollectsMore W (bounds_under (args_and_itself a) clauses ++ W.additional a) before after

abbrev pub CollectsSelf : GoalWords → Ty → List Rule → List Rule → Type 0
CollectsSelf W s before after = CollectsBounds W W.additional s before after

-- a kind of goals: what it says of its goals and of their candidates, and which faults lie in a predicate
pub record Kind (P : Type 0) : Type 1 where
  pub words : KindWords P
  pub has_fault : P → Tables → TermFault → Bool

abbrev pub kind_of : {P : Type 0} → KindWords P → (P → Tables → TermFault → Bool) → Kind P
kind_of K lies = record { words = K; has_fault = lies }

-- that of trait goals
abbrev pub trait_kind : Kind TraitPredicate
trait_kind = kind_of trait_words (λ p t f. lies_in_trait_ref t [] f p.trait_ref)

-- rules are collected from the clauses of the environment: one that has none is refuted
abbrev pub CollectsEnvironment : GoalWords → List Rule → Type 0
CollectsEnvironment W rs = AreCollected (Speaks W) (λ c. W.refuted 0 c) rs (environment W.setting)

-- from the bounds of the self type
abbrev pub CollectsClassOfBounds : GoalWords → Option Ty → (AliasTerm → List Candidate) → List Rule → Type 0
CollectsClassOfBounds W self added rs = (q : TraitTree) (s : Ty) → W.asked ≡ Some q → self ≡ Some s → CollectsBounds W added s [] rs

-- from the rest, if each impl of the goal's trait is for the goal
abbrev pub CollectsRest : GoalWords → Option Ty → (ImplRow → Type 0) → List Rule → Type 0
CollectsRest W self IsOwn rs =
    (q : TraitTree) (s : Ty) → W.asked ≡ Some q → self ≡ Some s → ((r : ImplRow) → r.trait_id ≡ q.def_id → IsOwn r) →
    AreCollected (Speaks W) (Lacks W) rs (rest W.setting q.def_id (erased (tree_of_ty s)))

-- a goal over tables, in a typing mode
pub record GoalIn (P : Type 0) : Type 0 where
  pub tables : Tables
  pub goal : Goal P
  pub mode : TypingMode

abbrev pub goal_in : {P : Type 0} → Tables → Goal P → TypingMode → GoalIn P
goal_in t g m = record { tables = t; goal = g; mode = m }

-- what a kind of goals says of it, and the candidates that it adds to its bounds
abbrev pub words_of : {P : Type 0} → Kind P → GoalIn P → GoalWords
words_of K q = words_for K.words q.tables q.goal q.mode

abbrev pub additional_of : {P : Type 0} → Kind P → GoalIn P → AliasTerm → List Candidate
additional_of K q = K.words.additional q.goal.predicate (setting_of q.tables q.mode q.goal.param_env.items)

-- the rules of a class are collected for a goal
abbrev pub CollectsFor : {P : Type 0} → Kind P → GoalIn P → TraitGoalProvenVia → List Rule → Type 0
CollectsFor K q class.ParamEnv rs = CollectsEnvironment (words_of K q) rs
CollectsFor K q class.AliasBound rs = CollectsClassOfBounds (words_of K q) (K.words.self_type q.goal.predicate) (additional_of K q) rs
CollectsFor K q class.Misc rs = CollectsRest (words_of K q) (K.words.self_type q.goal.predicate) (K.words.is_impl_for q.goal.predicate q.tables) rs

-- whether an id, a number of arguments or a kind is wrong in a goal
abbrev pub fault_in : {P : Type 0} → (P → Tables → TermFault → Bool) → Tables → Goal P → TermFault → Bool
fault_in lies t g f = lies g.predicate t f || lies_in_env t f g.param_env.items

abbrev pub has_kind_fault : {P : Type 0} → (P → Tables → TermFault → Bool) → Tables → Goal P → Bool
has_kind_fault lies t g = fault_in lies t g UnknownItem || fault_in lies t g WrongArgumentCount || fault_in lies t g WrongArgumentKind

-- the rules of a class
abbrev pub rules_of_class : ClassRules → TraitGoalProvenVia → List Rule
rules_of_class w class.ParamEnv = w.environment.items
rules_of_class w class.AliasBound = w.bounds.items
rules_of_class w class.Misc = w.rest.items

-- the rules of some classes, one after the other
unfoldable pub CollectsAll : (TraitGoalProvenVia → List Rule → Type 0) → List TraitGoalProvenVia → List Rule → Type 0
CollectsAll Collects [] rs = rs ≡ []
CollectsAll Collects (c ∷ cs) rs = (ps : List Rule) × (qs : List Rule) × Collects c ps × CollectsAll Collects cs qs × (rs ≡ ps ++ qs)

-- the classes whose candidates are looked at after the environment, by the class through which the trait goal holds
abbrev pub classes_behind : TraitGoalProvenVia → List TraitGoalProvenVia
classes_behind class.ParamEnv = class.AliasBound ∷ []
classes_behind class.AliasBound = class.AliasBound ∷ []
classes_behind class.Misc = class.AliasBound ∷ class.Misc ∷ []

-- the rules of the first group of a goal's candidates are collected: those of the clauses of its environment
abbrev pub CollectsFirst : {P : Type 0} → Kind P → GoalIn P → List Rule → Type 0
CollectsFirst K q rs = CollectsAll (CollectsFor K q) (class.ParamEnv ∷ []) rs

-- those of the group after it
abbrev pub CollectsLater : {P : Type 0} → Kind P → GoalIn P → TraitGoalProvenVia → List Rule → Type 0
CollectsLater K q c rs = CollectsAll (CollectsFor K q) (classes_behind c) rs
