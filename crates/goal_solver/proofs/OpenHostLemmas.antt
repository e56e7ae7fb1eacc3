-- Goals of const traits with inference variables: how their groups answer, and how they are answered by their plain goals.
use Rattle.std.proofs.Common.{◌≡◌, ◌-◌, ℕ, suc, Option, Some, None, Result, Ok, Err, List, [], ◌∷◌, inl, inr, refl, subst}
use Rattle.goal_terms.specs.declared.answers.Certainty.TheVariants as certainty
use Rattle.goal_terms.specs.declared.answers.Response.{Response}
use Rattle.goal_terms.specs.declared.answers.TraitGoalProvenVia.{TraitGoalProvenVia}
use Rattle.goal_terms.specs.declared.predicates.Clause.{Clause}
use Rattle.goal_terms.specs.declared.predicates.Goal.{Goal}
use Rattle.goal_terms.specs.declared.predicates.HostEffectPredicate.{HostEffectPredicate}
use Rattle.goal_terms.specs.declared.predicates.TraitPredicate.{TraitPredicate}
use Rattle.goal_kinds.specs.declared.faults.Fault.{Fault}
use Rattle.goal_kinds.specs.declared.faults.Fault.TheVariants as fault
use Rattle.goal_kinds.specs.declared.rules.Rule.{Rule}
use Rattle.goal_kinds.specs.Collecting.{Kind}
use Rattle.goal_solver.specs.GoingBack.{restored, at_depth}
use Rattle.goal_solver.specs.MergedRules.{MergesRules}
use Rattle.goal_solver.specs.OpenGoals.{WhenAnswered}
use Rattle.goal_solver.specs.OpenHostGoals.{rules_of_groups, GroupAnswers, ByRuleGroups, MergesConst, host_kind, IsPlain, AnswersPlain, ByPlainClass, MergesHostEffect}
use Rattle.goal_solver.specs.OpenProjections.{ConsidersGroups, proven_class}
use Rattle.goal_solver.specs.State.{State}
use Rattle.goal_kinds.specs.declared.assembly.group_rules.GroupRules.{GroupRules}
use Rattle.goal_solver.specs.declared.assembly.merged_rules.Merged.{Merged}
use Rattle.goal_solver.specs.declared.assembly.merged_rules.Merged.TheVariants as merged
use Rattle.goal_solver.proofs.BelowLemmas.{said-below}
use Rattle.goal_solver.proofs.OpenClassLemmas.{answered-map, when-refused}

-- what a group answers, by what its rules are merged to
pub group-refuted : (env : List Clause) (rules : List Rule) (s u : State) (m : Merged) → MergesRules env rules s m u → m ≡ merged.Refuted → GroupAnswers env rules s None u
group-refuted env rules s u m h e = subst (λ x. MergesRules env rules s x u) e h

pub group-answered : (env : List Clause) (rules : List Rule) (s u : State) (m : Merged) (q : Response) → MergesRules env rules s m u → m ≡ merged.Answered q → GroupAnswers env rules s (Some q) u
group-answered env rules s u m q h e = (merged.Answered q, subst (λ x. MergesRules env rules s x u) e h, refl)

pub group-split : (env : List Clause) (rules : List Rule) (s u : State) (m : Merged) (r : Response) → MergesRules env rules s m u → m ≡ merged.Split → r.certainty ≡ certainty.Maybe →
    GroupAnswers env rules s (Some r) u
group-split env rules s u m r h e maybe = (merged.Split, subst (λ x. MergesRules env rules s x u) e h, maybe)

-- what a group answers, by the slices that hold its clauses and its rules
answers-by : (env es : List Clause) (rules qs : List Rule) (s u : State) (o a : Option Response) → es ≡ env → qs ≡ rules → GroupAnswers es qs s o u → o ≡ a → GroupAnswers env rules s a u
answers-by env es rules qs s u o a e f h is =
    subst (λ x. GroupAnswers env rules s x u) is (subst (λ xs. GroupAnswers env xs s o u) f (subst (λ xs. GroupAnswers xs qs s o u) e h))

-- the environment answers, or the later group, or neither
pub group-first : (env es : List Clause) (first qs later : List Rule) (s u : State) (o : Option Response) (a : Response) → es ≡ env → qs ≡ first → GroupAnswers es qs s o u → o ≡ Some a →
    ByRuleGroups env (first ∷ later ∷ []) s (Ok a) u
unfolding ByRuleGroups
group-first env es first qs later s u o a e f h is = inl (a, answers-by env es first qs s u o (Some a) e f h is, refl)

pub group-later : (env es ds : List Clause) (first qs later ls : List Rule) (s z u : State) (o p : Option Response) (a : Response) → es ≡ env → qs ≡ first → ds ≡ env → ls ≡ later →
    GroupAnswers es qs s o z → o ≡ None → GroupAnswers ds ls z p u → p ≡ Some a → ByRuleGroups env (first ∷ later ∷ []) s (Ok a) u
unfolding ByRuleGroups
group-later env es ds first qs later ls s z u o p a e f d l h none k is =
    inr (z, answers-by env es first qs s z o None e f h none, inl (a, answers-by env ds later ls z u p (Some a) d l k is, refl))

pub group-none : (env es ds : List Clause) (first qs later ls : List Rule) (s z u : State) (o p : Option Response) → es ≡ env → qs ≡ first → ds ≡ env → ls ≡ later →
    GroupAnswers es qs s o z → o ≡ None → GroupAnswers ds ls z p u → p ≡ None → ByRuleGroups env (first ∷ later ∷ []) s (Err fault.NoSolution) u
unfolding ByRuleGroups
group-none env es ds first qs later ls s z u o p e f d l h none k other =
    inr (z, answers-by env es first qs s z o None e f h none, inr (u, answers-by env ds later ls z u p None d l k other, (refl, refl)))

-- a goal is answered through a class
pub const-grouped : {P : Type 0} (K : Kind P) (c : TraitGoalProvenVia) (g : Goal P) (s z u : State) (o : Option GroupRules) (w : GroupRules) (r : Result Response Fault) → ConsidersGroups K c g s o z → o ≡ Some w →
    WhenAnswered r (ByRuleGroups w.param_env.items (rules_of_groups w) z r u) → WhenAnswered r (MergesConst K c g s r u)
const-grouped K c g s z u o w r h e by =
    answered-map (ByRuleGroups w.param_env.items (rules_of_groups w) z r u) (MergesConst K c g s r u) r
    (λ b. inr (inr (inl (w, z, subst (λ x. ConsidersGroups K c g s x z) e h, b)))) by

-- a goal is answered by its plain goal
pub const-at_once : (g : Goal HostEffectPredicate) (s : State) (r : Response) → s.remaining_depth ≡ 0 → r.certainty ≡ certainty.Maybe → MergesHostEffect g s (Ok r) s
const-at_once g s r e maybe = inl (e, maybe, refl)

pub const-refused : (g : Goal HostEffectPredicate) (q : Goal TraitPredicate) (s z : State) (f : Fault) → IsPlain g q → (f ≡ fault.NoSolution → AnswersPlain q s z (Err f)) →
    WhenAnswered (Err f) (MergesHostEffect g s (Err f) z)
const-refused g q s z f plain h = when-refused (MergesHostEffect g s (Err f) z) f (λ e. inr (q, Err f, z, plain, h e, (refl, refl)))

pub const-unproven : (g : Goal HostEffectPredicate) (q : Goal TraitPredicate) (s z : State) (a r : Response) → IsPlain g q → AnswersPlain q s z (Ok a) → None ≡ proven_class a →
    r.certainty ≡ certainty.Maybe → MergesHostEffect g s (Ok r) z
const-unproven g q s z a r plain h e maybe = inr (q, Ok a, z, plain, h, subst (λ o. ByPlainClass o g z (Ok r) z) e (maybe, refl))

pub const-through : (g : Goal HostEffectPredicate) (q : Goal TraitPredicate) (c : TraitGoalProvenVia) (s z u : State) (a : Response) (r : Result Response Fault) → IsPlain g q → AnswersPlain q s z (Ok a) →
    Some c ≡ proven_class a → WhenAnswered r (MergesConst host_kind c g z r u) → WhenAnswered r (MergesHostEffect g s r u)
const-through g q c s z u a r plain h e m =
    answered-map (MergesConst host_kind c g z r u) (MergesHostEffect g s r u) r (λ k. inr (q, Ok a, z, plain, h, subst (λ o. ByPlainClass o g z r u) e k)) m

-- at one less of the depth
pub const-below : (x a v w : State) (n : ℕ) (g : Goal HostEffectPredicate) (r : Result Response Fault) → x ≡ a → v ≡ w → w ≡ restored (at_depth (x.remaining_depth - 1) x) w →
    a.remaining_depth ≡ suc n → WhenAnswered r (MergesHostEffect g (at_depth (x.remaining_depth - 1) x) r w) → WhenAnswered r (MergesHostEffect g (at_depth n a) r (at_depth n v))
const-below x a v w n g r e f back depth h = said-below (λ s u. MergesHostEffect g s r u) x a v w n r e f back depth h
