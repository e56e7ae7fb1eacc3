-- What the calls that answer goals promise of their answers.
use Rattle.std.specs.Prelude.{◌≡◌, ◌≤◌, ◌<◌, ◌||◌, ◌&&◌, nat_lt, is_some, ℕ, suc, Bool, true, false, List, [], ◌∷◌, Option, Some, None, Result, Ok, Err, IfOk, IfSome, length, ◌⊎◌}
use Rattle.goal_terms.specs.Erased.{erased}
use Rattle.goal_terms.specs.NodeTests.{is_any_infer}
use Rattle.goal_terms.specs.PredicateTrees.{PredicateTree, holds, equals, holds_const}
use Rattle.goal_terms.specs.Tree.{Tree}
use Rattle.goal_terms.specs.TreeOf.{tree_of_alias, tree_of_term}
use Rattle.goal_terms.specs.declared.answers.Certainty.{Certainty}
use Rattle.goal_terms.specs.declared.answers.Certainty.TheVariants as certainty
use Rattle.goal_terms.specs.declared.answers.Response.{Response}
use Rattle.goal_terms.specs.declared.answers.TraitGoalProvenVia.{TraitGoalProvenVia}
use Rattle.goal_terms.specs.declared.heads.Node.{Node}
use Rattle.goal_terms.specs.declared.ids.TraitId.{TraitId}
use Rattle.goal_terms.specs.declared.modes.TypingMode.{TypingMode}
use Rattle.goal_terms.specs.declared.predicates.BoundConstness.TheVariants as constness
use Rattle.goal_terms.specs.declared.predicates.Clause.{Clause}
use Rattle.goal_terms.specs.declared.predicates.Goal.{Goal}
use Rattle.goal_terms.specs.declared.predicates.HostEffectPredicate.{HostEffectPredicate}
use Rattle.goal_terms.specs.declared.predicates.NormalizesTo.{NormalizesTo}
use Rattle.goal_terms.specs.declared.predicates.ProjectionPredicate.{ProjectionPredicate}
use Rattle.goal_terms.specs.declared.predicates.TraitPredicate.{TraitPredicate}
use Rattle.goal_terms.specs.declared.terms.Term.{Term}
use Rattle.goal_tables.specs.Predicates.{some_in_env}
use Rattle.goal_tables.specs.declared.rows.Tables.{Tables}
use Rattle.goal_lists.specs.Answers.{Question, whether, which_term, Answer, yes, yes_with, no, maybe, IsAnswer, decides, setting_of}
use Rattle.goal_lists.specs.Level.{Level}
use Rattle.goal_lists.specs.Levels.{level}
use Rattle.goal_lists.specs.Premises.{TraitTree}
use Rattle.goal_kinds.specs.declared.faults.Fault.{Fault}
use Rattle.goal_kinds.specs.declared.faults.Fault.TheVariants as fault
use Rattle.goal_lists.specs.OpaqueUses.{first_use_of}
use Rattle.goal_kinds.specs.RuleWords.{DefinesHidden}
use Rattle.goal_lists.specs.Settings.{is_headline}
use Rattle.goal_kinds.specs.declared.goal_kind.MergeRule.{MergeRule}
use Rattle.goal_kinds.specs.declared.goal_kind.MergeRule.TheVariants as merge
use Rattle.goal_lists.specs.declared.lists.FirstUse.{FirstUse}
use Rattle.goal_kinds.specs.declared.rules.RuleEntry.{RuleEntry}
use Rattle.goal_eval.specs.ErasedArgs.{erased_args}
use Rattle.goal_solver.specs.Answers.{IsOwed, IsOwedBeyond, level_over, AreClosed, is_closed_alias, IsClosedEquation, IsMaybe, IsAliasOpen, IsQuiet, IsQuietAside, expected_variable, IsTraitAnswer, IsAliasAnswer, IsOpen}
use Rattle.goal_solver.specs.Assembled.{level_above, level_through, HoldsThrough}
use Rattle.goal_solver.specs.Binding.{IsApplicable}
use Rattle.goal_solver.specs.Goals.{IsAcceptedNormalization}
use Rattle.goal_solver.specs.OpenAnswers.{MergesProjection, MergesTrait}
use Rattle.goal_solver.specs.OpenGoals.{WhenAnswered}
use Rattle.goal_solver.specs.GoingBack.{at_depth}
use Rattle.goal_solver.specs.OpenHostGoals.{MergesHostEffect}
use Rattle.goal_solver.specs.OpenProjections.{RunsEquation, AnswersRun}
use Rattle.goal_solver.specs.Recording.{is_ambiguous}
use Rattle.goal_solver.specs.State.{State, kinds_of}

-- what a result says of a goal: nothing, where memory ran out, or where it is to be asked again in another mode
abbrev pub said_of_whether : Certainty → Answer
said_of_whether certainty.Yes = yes
said_of_whether certainty.Maybe = maybe

abbrev pub whether_answered : Result Response Fault → Option Answer
whether_answered (Ok r) = Some (said_of_whether r.certainty)
whether_answered (Err fault.NoSolution) = Some no
whether_answered (Err f) = None

-- the same of an alias, whose term is the value that is listed; a yes without a value is right of no alias
abbrev pub listed_term : List (ℕ × Term) → Answer
listed_term [] = yes
listed_term (v ∷ vs) = yes_with (erased (tree_of_term v.1))

abbrev pub said_of_term : Certainty → List (ℕ × Term) → Answer
said_of_term certainty.Yes vs = listed_term vs
said_of_term certainty.Maybe vs = maybe

abbrev pub term_answered : Result Response Fault → Option Answer
term_answered (Ok r) = Some (said_of_term r.certainty r.var_values.items)
term_answered (Err fault.NoSolution) = Some no
term_answered (Err f) = None

-- what is said, if it decides the goal
abbrev pub if_decided : Answer → Option Answer
if_decided yes = Some yes
if_decided (yes_with t) = Some (yes_with t)
if_decided no = Some no
if_decided maybe = None

abbrev pub decided_in : Option Answer → Option Answer
decided_in None = None
decided_in (Some a) = if_decided a

-- a result says yes
abbrev pub IsYes : Result Response Fault → Type 0
IsYes (Ok r) = r.certainty ≡ certainty.Yes
IsYes (Err f) = ⊥

-- so it is at the remaining depth, in each mode that is owed an answer
abbrev pub WhereOwed : State → State → List Clause → (Level → Type 0) → Type 0
WhereOwed before after env P = (m : TypingMode) → IsOwed after m → P (level_over before m env)

-- and in those outside of coherence
abbrev pub WhereOwedBeyond : State → State → List Clause → (Level → Type 0) → Type 0
WhereOwedBeyond before after env P = (m : TypingMode) → IsOwedBeyond after m → P (level_over before m env)

-- so it is at every depth from the remaining one on
abbrev pub FromHereOn : State → State → List Clause → (Level → Type 0) → Type 0
FromHereOn before after env P = (m : TypingMode) (n : ℕ) → IsOwed after m → before.remaining_depth ≤ n → P (level (setting_of before.tables m env) n)

-- so it is at every depth
abbrev pub AtEveryDepth : State → State → List Clause → (Level → Type 0) → Type 0
AtEveryDepth before after env P = (m : TypingMode) (n : ℕ) → IsOwed after m → P (level (setting_of before.tables m env) n)

-- a response changes nothing but lifetimes: it lists no value and no hidden type, and its variables stand for lifetimes
pub record ChangesLifetimes (s : State) (r : Response) : Type 0 where
  pub quiet : IsQuietAside (length (kinds_of s)) r
  pub values : r.var_values.items ≡ []

-- a response changes nothing: it lists no variable, no value, no region equation and no hidden type
pub record ChangesNothing (s : State) (r : Response) : Type 0 where
  pub quiet : IsQuiet (length (kinds_of s)) r
  pub values : r.var_values.items ≡ []

-- a response leaves its goal undecided: it changes nothing, and names no class
pub record IsUndecidedResponse (s : State) (r : Response) : Type 0 where
  pub certainty : r.certainty ≡ certainty.Maybe
  pub no_class : r.proven_via ≡ None
  pub changes : ChangesNothing s r

abbrev pub LeavesUndecided : State → Result Response Fault → Type 0
LeavesUndecided s (Ok r) = IsUndecidedResponse s r
LeavesUndecided s (Err f) = ⊥

-- whether a predicate holds is answered: exactly where an answer is owed; what is decided lasts; and nothing but lifetimes is changed
pub record AnswersPredicate (before after : State) (env : List Clause) (p : PredicateTree) (r : Result Response Fault) : Type 0 where
  pub exact : WhereOwed before after env (λ L. IfSome (whether_answered r) (IsAnswer L (whether p)))
  pub lasts : FromHereOn before after env (λ L. IfSome (decided_in (whether_answered r)) (IsAnswer L (whether p)))
  pub quiet : IfOk r (ChangesLifetimes before)

-- the class that is named: at a yes one through which the trait goal holds, and else none
abbrev pub NamesClass : Level → TraitId → List Tree → Certainty → Option TraitGoalProvenVia → Type 0
NamesClass L i ts certainty.Yes o = (c : TraitGoalProvenVia) × (o ≡ Some c) × L.through c i ts
NamesClass L i ts certainty.Maybe o = o ≡ None

abbrev pub NamesNoClass : Response → Type 0
NamesNoClass r = r.proven_via ≡ None

-- what a goal asks, lifetimes aside
abbrev pub trait_asked : TraitPredicate → TraitTree
trait_asked p = record { def_id = p.trait_ref.def_id; args = erased_args p.trait_ref.args.items }

abbrev pub trait_question : TraitTree → Question
trait_question q = whether (holds q.def_id q.args)

abbrev pub equation_asked : ProjectionPredicate → PredicateTree
equation_asked p = equals (erased (tree_of_alias p.projection_term)) (erased (tree_of_term p.term))

abbrev pub const_asked : HostEffectPredicate → PredicateTree
const_asked p = holds_const p.constness p.trait_ref.def_id (erased_args p.trait_ref.args.items)

abbrev pub conditionally_asked : HostEffectPredicate → PredicateTree
conditionally_asked p = holds_const constness.Maybe p.trait_ref.def_id (erased_args p.trait_ref.args.items)

abbrev pub plain_asked : HostEffectPredicate → PredicateTree
plain_asked p = holds p.trait_ref.def_id (erased_args p.trait_ref.args.items)

abbrev pub term_asked : NormalizesTo → Question
term_asked p = which_term p.alias.kind (erased_args p.alias.args.items)

-- a closed trait goal is answered
pub record AnswersTrait (before after : State) (env : List Clause) (q : TraitTree) (r : Result Response Fault) : Type 0 where
  pub answers : AnswersPredicate before after env (holds q.def_id q.args) r
  pub class : FromHereOn before after env (λ L. IfOk r (λ x. NamesClass L q.def_id q.args x.certainty x.proven_via))

-- whether an alias and a term are equal is answered
pub record AnswersProjection (before after : State) (env : List Clause) (p : ProjectionPredicate) (r : Result Response Fault) : Type 0 where
  pub answers : AnswersPredicate before after env (equation_asked p) r
  pub no_class : IfOk r NamesNoClass

-- a closed goal that a trait holds as a const trait is answered. At a yes the plain goal holds too, and what holds as `const` is refuted as `[const]` nowhere
pub record AnswersHostEffect (before after : State) (env : List Clause) (p : HostEffectPredicate) (r : Result Response Fault) : Type 0 where
  pub answers : AnswersPredicate before after env (const_asked p) r
  pub no_class : IfOk r NamesNoClass
  pub plain : IsYes r → FromHereOn before after env (λ L. IsAnswer L (whether (plain_asked p)) yes)
  pub stronger : IsYes r → p.constness ≡ constness.Const → AtEveryDepth before after env (λ L. IsAnswer L (whether (conditionally_asked p)) no → ⊥)

-- the values that are listed: at a yes that of the variable which takes the term, and else none
abbrev pub ListsTerm : Term → Certainty → List (ℕ × Term) → Type 0
ListsTerm e certainty.Yes vs = (n : ℕ) × (u : Term) × (expected_variable e ≡ Some n) × (vs ≡ (n, u) ∷ [])
ListsTerm e certainty.Maybe vs = vs ≡ []

-- a response changes nothing but lifetimes and the value of the variable which takes the term
pub record GivesTermAlone (s : State) (e : Term) (r : Response) : Type 0 where
  pub quiet : IsQuietAside (length (kinds_of s)) r
  pub values : ListsTerm e r.certainty r.var_values.items

-- a mode is one of the headline, or the goal's alias is no opaque type that the context's mode defines
abbrev pub IsNotDefined : State → NormalizesTo → TypingMode → Type 0
IsNotDefined s p m = (is_headline m ≡ true) ⊎ (first_use_of s.tables s.typing_mode p.alias.kind ≡ None)

-- a closed goal of an alias's term is answered, if it is no opaque type that is being defined: exactly, if `check_goal` accepts it; what is decided lasts; and nothing is changed but lifetimes and the term's variable
pub record AnswersAlias (before after : State) (env : List Clause) (p : NormalizesTo) (r : Result Response Fault) : Type 0 where
  pub exact : IsAcceptedNormalization before p env → (m : TypingMode) → IsOwed after m → IsNotDefined before p m → IfSome (term_answered r) (IsAnswer (level_over before m env) (term_asked p))
  pub lasts : (m : TypingMode) (n : ℕ) → IsOwed after m → IsNotDefined before p m → before.remaining_depth ≤ n →
      IfSome (decided_in (term_answered r)) (IsAnswer (level (setting_of before.tables m env) n) (term_asked p))
  pub quiet : first_use_of before.tables before.typing_mode p.alias.kind ≡ None → IfOk r (GivesTermAlone before p.term)
  pub no_class : IfOk r NamesNoClass

-- no two answers that decide a question disagree, at whatever depths
abbrev pub NoTwoDisagree : Tables → List Clause → Question → Type 0
NoTwoDisagree t env q =
    (m : TypingMode) (n k : ℕ) (a b : Answer) → decides a ≡ true → decides b ≡ true → IsAnswer (level (setting_of t m env) n) q a → IsAnswer (level (setting_of t m env) k) q b → a ≡ b

-- goals without inference variables, but for the one that takes an alias's term
abbrev pub IsClosedTrait : Goal TraitPredicate → Type 0
IsClosedTrait g = AreClosed g.predicate.trait_ref.args.items g.param_env.items

abbrev pub IsClosedHostEffect : Goal HostEffectPredicate → Type 0
IsClosedHostEffect g = AreClosed g.predicate.trait_ref.args.items g.param_env.items

abbrev pub IsClosedProjection : Goal ProjectionPredicate → Type 0
IsClosedProjection g = IsClosedEquation g.predicate.projection_term g.predicate.term g.param_env.items

abbrev pub IsClosedNormalization : Goal NormalizesTo → Type 0
IsClosedNormalization g = is_closed_alias g.predicate.alias g.param_env.items ≡ true

-- a trait goal with inference variables is answered by its candidates, at one less of the depth
abbrev pub MergesOpenTrait : State → State → Goal TraitPredicate → Result Response Fault → Type 0
MergesOpenTrait before after g r = (n : ℕ) → before.remaining_depth ≡ suc n → WhenAnswered r (MergesTrait g (at_depth n before) r (at_depth n after))

-- so is the goal that a trait holds as a const trait
abbrev pub MergesOpenHostEffect : State → State → Goal HostEffectPredicate → Result Response Fault → Type 0
MergesOpenHostEffect before after g r = (n : ℕ) → before.remaining_depth ≡ suc n → WhenAnswered r (MergesHostEffect g (at_depth n before) r (at_depth n after))

-- a goal that an alias and a term are equal: they are made equal
abbrev pub MergesOpenEquation : State → State → Goal ProjectionPredicate → Result Response Fault → Type 0
MergesOpenEquation before after g r = (n : ℕ) → before.remaining_depth ≡ suc n → WhenAnswered r (RunsEquation g (at_depth n before) r (at_depth n after))

-- the goal of an alias's term is answered by its candidates or its list
abbrev pub MergesOpenProjection : State → State → Goal NormalizesTo → Result Response Fault → Type 0
MergesOpenProjection before after g r =
    (n k : ℕ) → expected_variable g.predicate.term ≡ Some k → before.remaining_depth ≡ suc n → WhenAnswered r (MergesProjection g (at_depth n before) r (at_depth n after))

-- in coherence an opaque type's goal is never answered yes
abbrev pub NeverYes : State → Goal NormalizesTo → Result Response Fault → Type 0
NeverYes s g r = is_ambiguous s.typing_mode g.predicate.alias.kind ≡ true → IfOk r (λ x. x.certainty ≡ certainty.Maybe)

-- the list of an opaque type that is being defined is run, and what comes of it is answered
abbrev pub RunsHidden : Goal NormalizesTo → FirstUse → State → Result Response Fault → State → Type 0
RunsHidden g f s r u = (es : List RuleEntry) × DefinesHidden (tree_of_term g.predicate.term) g.predicate.alias f es × AnswersRun g.param_env.items es s r u

-- so an opaque type that the mode defines is answered, at one less of the depth
abbrev pub DefinesAlias : State → State → Goal NormalizesTo → Result Response Fault → Type 0
DefinesAlias before after g r =
    (n k : ℕ) (f : FirstUse) → first_use_of before.tables before.typing_mode g.predicate.alias.kind ≡ Some f → expected_variable g.predicate.term ≡ Some k → before.remaining_depth ≡ suc n →
    WhenAnswered r (RunsHidden g f (at_depth n before) r (at_depth n after))

-- whether a goal is one of such a type, without other variables than the expected one, and there is a depth for it
abbrev pub is_defined : State → Goal NormalizesTo → Bool
is_defined s g =
    nat_lt 0 s.remaining_depth
    && is_some (expected_variable g.predicate.term)
    && is_closed_alias g.predicate.alias g.param_env.items
    && is_some (first_use_of s.tables s.typing_mode g.predicate.alias.kind)

-- a context with one more of the depth left: what the candidates of a goal make it is its answer there
abbrev pub one_deeper : State → State
one_deeper s = record s { remaining_depth = suc s.remaining_depth }

-- no inference variable stands in a goal of any kind, nor in its environment
abbrev pub IsClosedGoal : {P : Type 0} → (P → (Node → Bool) → Bool) → Goal P → Type 0
IsClosedGoal has g = (has g.predicate is_any_infer || some_in_env is_any_infer g.param_env.items) ≡ false

-- the candidates of a closed trait goal answer it, one above the remaining depth; without a trait it is left undecided
abbrev pub AnswersTraitAbove : State → State → List Clause → Option TraitTree → Result Response Fault → Type 0
AnswersTraitAbove before after env None r = LeavesUndecided before r
AnswersTraitAbove before after env (Some q) r = AnswersTrait (one_deeper before) after env q r

-- an alias whose trait goal is taken to hold through a class
pub record Through : Type 0 where
  pub class : TraitGoalProvenVia
  pub asked : NormalizesTo

abbrev pub through_of : TraitGoalProvenVia → NormalizesTo → Through
through_of c p = record { class = c; asked = p }

abbrev pub given_through : Option TraitGoalProvenVia → Option NormalizesTo → Option Through
given_through None p = None
given_through (Some c) None = None
given_through (Some c) (Some p) = Some (record { class = c; asked = p })

-- only a projection is asked for so, with a class
abbrev pub asked_through : MergeRule → Option TraitGoalProvenVia → Option NormalizesTo → Option Through
asked_through merge.TraitGoals c p = None
asked_through merge.HostEffectGoals c p = None
asked_through merge.Projections c p = given_through c p

-- what terms its candidates give
abbrev pub through_level : State → TypingMode → List Clause → Through → Level
through_level s m env a = level_through (setting_of s.tables m env) (level_over s m env) a.class

-- the trait goal does hold through the class
abbrev pub IsProven : State → TypingMode → List Clause → Through → Type 0
IsProven s m env a = HoldsThrough (setting_of s.tables m env) (level_over s m env) a.class a.asked.alias.kind (erased_args a.asked.alias.args.items)

-- the candidates of such an alias answer its goal: by what they give; and where its trait goal does hold through the class, as the goal is answered one above
pub record AnswersThrough (before after : State) (env : List Clause) (a : Through) (r : Result Response Fault) : Type 0 where
  pub sound : (m : TypingMode) → IsOwed after m → IfSome (decided_in (term_answered r)) (IsAnswer (through_level before m env a) (term_asked a.asked))
  pub decided : (m : TypingMode) (n : ℕ) → IsOwed after m → expected_variable a.asked.term ≡ Some n → IsMaybe r →
      IsAliasOpen (through_level before m env a) a.asked.alias.kind (erased_args a.asked.alias.args.items)
  pub exact : (m : TypingMode) → IsOwed after m → IsProven before m env a → IsAcceptedNormalization before a.asked env →
      IfSome (term_answered r) (IsAnswer (level_above before m env) (term_asked a.asked))
  pub lasts : (m : TypingMode) (n : ℕ) → IsOwed after m → IsProven before m env a → before.remaining_depth < n →
      IfSome (decided_in (term_answered r)) (IsAnswer (level (setting_of before.tables m env) n) (term_asked a.asked))
  pub quiet : IfOk r (GivesTermAlone before a.asked.term)
  pub no_class : IfOk r NamesNoClass

-- without a class or an alias the goal is left undecided
abbrev pub AnswersGiven : State → State → List Clause → Option Through → Result Response Fault → Type 0
AnswersGiven before after env None r = LeavesUndecided before r
AnswersGiven before after env (Some a) r = is_closed_alias a.asked.alias env ≡ true → AnswersThrough before after env a r

-- the response to such an alias can be applied, where its trait goal does hold and the goal is accepted, and where other inference variables stand in it
pub record AppliesProven (before after : State) (env : List Clause) (a : Through) (r : Result Response Fault) : Type 0 where
  pub proven : (m : TypingMode) → IsOwed after m → IsProven before m env a → IsAcceptedNormalization before a.asked env → IfOk r (IsApplicable after)
  pub variables : (n : ℕ) → is_closed_alias a.asked.alias env ≡ false → expected_variable a.asked.term ≡ Some n → IfOk r (IsApplicable after)

abbrev pub AppliesGiven : State → State → List Clause → Option Through → Result Response Fault → Type 0
AppliesGiven before after env None r = IfOk r (IsApplicable after)
AppliesGiven before after env (Some a) r = AppliesProven before after env a r

-- what is answered to a goal at a level
abbrev pub IsAnswerToTrait : Level → TraitPredicate → Result Response Fault → Type 0
IsAnswerToTrait L p r = IsTraitAnswer L p.trait_ref.def_id (erased_args p.trait_ref.args.items) r

abbrev pub IsTermAnswer : Level → NormalizesTo → Result Response Fault → Type 0
IsTermAnswer L p r = IsAliasAnswer L p.alias.kind (erased_args p.alias.args.items) p.term r

-- the trait goal holds through no class, and isn't refuted
abbrev pub IsTraitOpen : Level → TraitPredicate → Type 0
IsTraitOpen L p = IsOpen L p.trait_ref.def_id (erased_args p.trait_ref.args.items)

-- the alias of a closed goal that is left undecided has no term, and isn't refuted
abbrev pub LeavesTermOpen : State → State → Goal NormalizesTo → Result Response Fault → Type 0
LeavesTermOpen before after g r =
    (m : TypingMode) (n : ℕ) → IsOwed after m → IsClosedNormalization g → expected_variable g.predicate.term ≡ Some n → IsMaybe r →
    IsAliasOpen (level_over before m g.param_env.items) g.predicate.alias.kind (erased_args g.predicate.alias.args.items)

-- undecided is the right answer to such a goal, if it is accepted
abbrev pub LeavesTermMaybe : State → State → Goal NormalizesTo → Result Response Fault → Type 0
LeavesTermMaybe before after g r =
    (m : TypingMode) (n : ℕ) → IsOwed after m → IsAcceptedNormalization before g.predicate g.param_env.items → IsClosedNormalization g → expected_variable g.predicate.term ≡ Some n → IsMaybe r →
    IsAnswer (level_over before m g.param_env.items) (term_asked g.predicate) maybe

-- one with other inference variables than the expected one is answered by its candidates or its list
abbrev pub MergesWhereOpen : State → State → Goal NormalizesTo → Result Response Fault → Type 0
MergesWhereOpen before after g r =
    (n k : ℕ) → is_closed_alias g.predicate.alias g.param_env.items ≡ false → expected_variable g.predicate.term ≡ Some k → before.remaining_depth ≡ suc n →
    WhenAnswered r (MergesProjection g (at_depth n before) r (at_depth n after))

-- a trait goal is answered by its candidates at a depth
abbrev pub MergesTraitAt : ℕ → State → Goal TraitPredicate → Result Response Fault → State → Type 0
MergesTraitAt n before g r after = WhenAnswered r (MergesTrait g (at_depth n before) r (at_depth n after))

-- how the mode uses the opaque type of a goal that it defines
abbrev pub IsFirstUse : State → Goal NormalizesTo → FirstUse → Type 0
IsFirstUse s g f = first_use_of s.tables s.typing_mode g.predicate.alias.kind ≡ Some f

-- the list of such a type is run at one less of the depth
abbrev pub RunsWhereDefined : State → State → Goal NormalizesTo → Result Response Fault → Type 0
RunsWhereDefined before after g r =
    (n : ℕ) (f : FirstUse) → first_use_of before.tables before.typing_mode g.predicate.alias.kind ≡ Some f → before.remaining_depth ≡ suc n →
    WhenAnswered r (RunsHidden g f (at_depth n before) r (at_depth n after))
