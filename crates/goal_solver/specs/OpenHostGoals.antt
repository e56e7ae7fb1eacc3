-- How the goal of a const trait with inference variables is answered: by its plain goal, and then by its candidates, group by group.
use Rattle.std.specs.Prelude.{◌≡◌, ◌⊎◌, ℕ, suc, List, [], ◌∷◌, Option, Some, None, Result, Ok, Err}
use Rattle.goal_terms.specs.TreeOf.{trees_of}
use Rattle.goal_terms.specs.declared.answers.Response.{Response}
use Rattle.goal_terms.specs.declared.answers.TraitGoalProvenVia.{TraitGoalProvenVia}
use Rattle.goal_terms.specs.declared.predicates.Clause.{Clause}
use Rattle.goal_terms.specs.declared.predicates.Goal.{Goal}
use Rattle.goal_terms.specs.declared.predicates.HostEffectPredicate.{HostEffectPredicate}
use Rattle.goal_terms.specs.declared.predicates.TraitPredicate.{TraitPredicate}
use Rattle.goal_terms.specs.declared.terms.Term.{Term}
use Rattle.goal_tables.specs.Clauses.{lies_in_const_ref}
use Rattle.goal_kinds.specs.declared.faults.Fault.{Fault}
use Rattle.goal_kinds.specs.declared.faults.Fault.TheVariants as fault
use Rattle.goal_kinds.specs.KindWords.{host_words}
use Rattle.goal_kinds.specs.declared.rules.Rule.{Rule}
use Rattle.goal_solver.specs.Answers.{IsMaybe}
use Rattle.goal_kinds.specs.Collecting.{Kind, kind_of, has_kind_fault}
use Rattle.goal_solver.specs.GoingBack.{restored, at_depth}
use Rattle.goal_solver.specs.MergedRules.{MergesRules}
use Rattle.goal_solver.specs.OpenAnswers.{MergesOpened, MergesTrait}
use Rattle.goal_solver.specs.OpenGoals.{AnswersBeside, AsksOpenSelf, IsLeft, IsFormless, PassesSelf, WhenAnswered}
use Rattle.goal_solver.specs.OpenProjections.{CollectsGroups, GroupsForSelf, proven_class}
use Rattle.goal_solver.specs.State.{State}
use Rattle.goal_solver.specs.TranslatedArgs.{IsSameEnvironment}
use Rattle.goal_kinds.specs.declared.assembly.group_rules.GroupRules.{GroupRules}
use Rattle.goal_solver.specs.declared.assembly.merged_rules.Merged.{Merged}
use Rattle.goal_solver.specs.declared.assembly.merged_rules.Merged.TheVariants as merged

-- the rules of the groups, in order
abbrev pub rules_of_groups : GroupRules → List (List Rule)
rules_of_groups w = w.environment.items ∷ w.later.items ∷ []

-- what a group is answered whose rules aren't all refused
abbrev pub IsGroupAnswer : Merged → Response → Type 0
IsGroupAnswer merged.Refuted r = ⊥
IsGroupAnswer (merged.Answered q) r = r ≡ q
IsGroupAnswer merged.Split r = IsMaybe (Ok r)

-- a group answers by its rules, and not where all of them are refused
abbrev pub GroupAnswers : List Clause → List Rule → State → Option Response → State → Type 0
GroupAnswers env rules s None u = MergesRules env rules s merged.Refuted u
GroupAnswers env rules s (Some r) u = (m : Merged) × MergesRules env rules s m u × IsGroupAnswer m r

-- the first of some groups that answers decides, and where none does the goal is refused
unfoldable pub ByRuleGroups : List Clause → List (List Rule) → State → Result Response Fault → State → Type 0
ByRuleGroups env [] s r u = (u ≡ s) × (r ≡ Err fault.NoSolution)
ByRuleGroups env (rules ∷ groups) s r u =
    ((a : Response) × GroupAnswers env rules s (Some a) u × (r ≡ Ok a))
    ⊎ ((z : State) × GroupAnswers env rules s None z × ByRuleGroups env groups z r u)

-- by its groups, for what is answered for the head form of its self type; a refused form refuses, and without candidates there is no answer
abbrev pub ByFormedRuleGroups : {P : Type 0} → Kind P → TraitGoalProvenVia → Goal P → Result (Option Term) Fault → State → Result (Option Response) Fault → State → Type 0
ByFormedRuleGroups K c g (Err f) z r u = (r ≡ Err f) × (u ≡ z)
ByFormedRuleGroups K c g (Ok a) z r u =
    (PassesSelf K.words.is_with_self (has_kind_fault K.has_fault z.tables) g a × (r ≡ Ok None) × (u ≡ z))
    ⊎ ((w : GroupRules)
    × (q : Result Response Fault)
    × (y : State)
    × GroupsForSelf K z.tables z.typing_mode c g a w
    × ByRuleGroups w.param_env.items (rules_of_groups w) z q y
    × AnswersBeside y q r u)

-- a goal whose plain goal holds through a class is answered by its candidates: undecided where it isn't considered, refused where it is refuted that its self type has a head form, and else by its groups
abbrev pub MergesConst : {P : Type 0} → Kind P → TraitGoalProvenVia → Goal P → State → Result Response Fault → State → Type 0
MergesConst {P} K c g s r u =
    ((z : State) × IsLeft K.words.self_type K.words.is_with_self (has_kind_fault K.has_fault s.tables) g s z × (AsksOpenSelf K.words.self_type g z → ⊥) × (u ≡ restored z u) × IsMaybe r)
    ⊎ (IsFormless K.words.self_type g s u × (r ≡ Err fault.NoSolution))
    ⊎ ((w : GroupRules) × (z : State) × CollectsGroups K c g s z w × ByRuleGroups w.param_env.items (rules_of_groups w) z r u)
    ⊎ ((z : State) × (z ≡ restored s z) × MergesOpened K.words.self_type (ByFormedRuleGroups K c g) g z r u)

-- goals of const traits, as a kind of goals
abbrev pub host_kind : Kind HostEffectPredicate
host_kind = kind_of host_words (λ p t f. lies_in_const_ref t [] f p.trait_ref)

-- the plain goal: that the trait holds, in the same environment
pub record IsPlain (g : Goal HostEffectPredicate) (q : Goal TraitPredicate) : Type 0 where
  pub trait : q.predicate.trait_ref.def_id ≡ g.predicate.trait_ref.def_id
  pub args : trees_of q.predicate.trait_ref.args.items ≡ trees_of g.predicate.trait_ref.args.items
  pub environment : IsSameEnvironment g.param_env.items q.param_env.items

-- it is answered by its candidates, at one less of the depth
pub record AnswersPlain (q : Goal TraitPredicate) (s z : State) (r : Result Response Fault) : Type 0 where
  pub merges : (n : ℕ) → s.remaining_depth ≡ suc n → WhenAnswered r (MergesTrait q (at_depth n s) r (at_depth n z))
  pub back : z ≡ restored s z

-- by the class of the plain goal's answer, if it is sure; else the goal is undecided
abbrev pub ByPlainClass : Option TraitGoalProvenVia → Goal HostEffectPredicate → State → Result Response Fault → State → Type 0
ByPlainClass None g s r u = IsMaybe r × (u ≡ s)
ByPlainClass (Some c) g s r u = MergesConst host_kind c g s r u

-- by the plain goal's answer; its refusal is the answer
abbrev pub ByPlain : Result Response Fault → Goal HostEffectPredicate → State → Result Response Fault → State → Type 0
ByPlain (Ok a) g s r u = ByPlainClass (proven_class a) g s r u
ByPlain (Err f) g s r u = (r ≡ Err f) × (u ≡ s)

-- the goal that a trait holds as a const trait is answered: by its plain goal, and then by its candidates; at depth 0 it is undecided
abbrev pub MergesHostEffect : Goal HostEffectPredicate → State → Result Response Fault → State → Type 0
MergesHostEffect g s r u =
    ((s.remaining_depth ≡ 0) × IsMaybe r × (u ≡ s))
    ⊎ ((q : Goal TraitPredicate) × (a : Result Response Fault) × (z : State) × IsPlain g q × AnswersPlain q s z a × ByPlain a g z r u)
