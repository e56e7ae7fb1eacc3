-- What a kind of goals says of its goals and of their candidates, and what the rules of candidates say by it.
use Rattle.std.specs.Prelude.{◌≡◌, ◌⊎◌, ℕ, Bool, true, false, List, [], map, Option, Some, None, Result, IfOk, IfErr}
use Rattle.std.specs.List.{AllZip}
use Rattle.goal_terms.specs.Erased.{erased}
use Rattle.goal_terms.specs.Tree.{Tree}
use Rattle.goal_terms.specs.TreeOf.{tree_of_term}
use Rattle.goal_terms.specs.declared.answers.Certainty.{Certainty}
use Rattle.goal_terms.specs.declared.answers.Certainty.TheVariants as certainty
use Rattle.goal_terms.specs.declared.answers.GoalSource.{GoalSource}
use Rattle.goal_terms.specs.declared.ids.ImplId.{ImplId}
use Rattle.goal_terms.specs.declared.modes.TypingMode.{TypingMode}
use Rattle.goal_terms.specs.declared.predicates.BoundConstness.{BoundConstness}
use Rattle.goal_terms.specs.declared.predicates.ClauseKind.{ClauseKind}
use Rattle.goal_terms.specs.declared.predicates.Goal.{Goal}
use Rattle.goal_terms.specs.declared.predicates.HostEffectPredicate.{HostEffectPredicate}
use Rattle.goal_terms.specs.declared.predicates.NormalizesTo.{NormalizesTo}
use Rattle.goal_terms.specs.declared.predicates.TraitPredicate.{TraitPredicate}
use Rattle.goal_terms.specs.declared.terms.AliasTerm.{AliasTerm}
use Rattle.goal_terms.specs.declared.terms.Ty.{Ty}
use Rattle.goal_tables.specs.Faults.{IsChecked}
use Rattle.goal_tables.specs.Rows.{impl_of}
use Rattle.goal_tables.specs.declared.rows.ImplRow.{ImplRow}
use Rattle.goal_tables.specs.declared.rows.Tables.{Tables}
use Rattle.goal_tables.specs.declared.faults.TermFault.{TermFault}
use Rattle.goal_lists.specs.Answers.{setting_of}
use Rattle.goal_kinds.specs.CandidateRules.{NamedRule, IsNamedAnswer, GivesAs, RefutedAs, IsRefusal, AllHold, OneRefuted, HasNoKindFault, IsAcceptedClause, said_by, asked_trait, first_type, is_rule_for, may_match, IsWithSelf, TraitCandidateHolds, TraitCandidateRefuted}
use Rattle.goal_lists.specs.Candidates.{Candidate, by_impl, built_in, IsNoImpl}
use Rattle.goal_kinds.specs.EffectKind.{asked_effect_list, EffectCandidateHolds, EffectCandidateRefuted, implied_bounds_for, IsEffectWithSelf, is_effect_rule_for, may_match_effect}
use Rattle.goal_lists.specs.Entries.{Entry}
use Rattle.goal_lists.specs.Fitting.{may_fit}
use Rattle.goal_lists.specs.Premises.{TraitTree}
use Rattle.goal_kinds.specs.ProjectionKind.{asked_projection_list, ProjectionCandidateGives, ProjectionCandidateRefuted, projected_trait, IsAliasWithSelf, IsImplForItem, lang_of_alias, is_for_alias, may_match_term}
use Rattle.goal_kinds.specs.RuleLists.{IsToldBy}
use Rattle.goal_lists.specs.RowWords.{given}
use Rattle.goal_lists.specs.Settings.{Setting}
use Rattle.goal_lists.specs.TraitLists.{trait_list}
use Rattle.goal_kinds.specs.declared.faults.Fault.{Fault}
use Rattle.goal_kinds.specs.declared.goal_kind.MergeRule.{MergeRule}
use Rattle.goal_kinds.specs.declared.goal_kind.MergeRule.TheVariants as merge
use Rattle.goal_kinds.specs.declared.rules.Rule.{Rule}

-- what a kind of goals says of its goals, which are about predicates of one type
pub record KindWords (P : Type 0) : Type 1 where
  -- how candidates are merged
  pub merging : MergeRule
  -- whether a term is asked for
  pub has_term : Bool
  -- the trait that a goal is about, with its arguments
  pub asked : P → Tables → Option TraitTree
  -- the self type
  pub self_type : P → Option Ty
  -- with which constness a goal asks for its trait; one that asks for no const trait has none
  pub constness : P → Option BoundConstness
  -- that a predicate is another one with a type in place of the self type
  pub is_with_self : P → Tree → P → Type 0
  -- whether the fast rejection lets a clause pass
  pub passes : P → ClauseKind → Bool
  -- that a term is the one that a goal expects; a goal that asks for none expects none
  pub expected : P → Tree → Type 0
  -- that an impl is one of the trait that a goal is about
  pub is_impl_for : P → Tables → ImplRow → Type 0
  -- that a candidate holds at a height, or gives a term there; that it is refuted there
  pub gives : P → Setting → ℕ → Candidate → Tree → Type 0
  pub refuted : P → Setting → ℕ → Candidate → Type 0
  -- the list of a candidate, by the mode; none in a kind whose rules no lists tell
  pub list : P → Setting → Candidate → Option (Option (List Entry))
  -- whether the trait alias or a built-in rule is for a goal
  pub is_for : P → Tables → NamedRule → Bool
  -- the candidates that an alias has beside its bounds
  pub additional : P → Setting → AliasTerm → List Candidate

-- trait goals
abbrev pub trait_words : KindWords TraitPredicate
trait_words = record {
  merging = merge.TraitGoals;
  has_term = false;
  asked = λ p t. Some (asked_trait p.trait_ref);
  self_type = λ p. first_type p.trait_ref.args.items;
  constness = λ p. None;
  is_with_self = λ p t q. IsWithSelf p.trait_ref t q.trait_ref;
  passes = λ p k. may_match p.trait_ref k;
  expected = λ p t. ⊥;
  is_impl_for = λ p t r. r.trait_id ≡ p.trait_ref.def_id;
  gives = λ p S n c t. TraitCandidateHolds p.trait_ref S n c;
  refuted = λ p S n c. TraitCandidateRefuted p.trait_ref S n c;
  list = λ p S c. Some (trait_list S p.trait_ref.def_id (given p.trait_ref.args) c);
  is_for = λ p t k. is_rule_for t p.trait_ref.def_id k;
  additional = λ p S a. [];
}

-- goals that a trait holds as a const trait
abbrev pub host_words : KindWords HostEffectPredicate
host_words = record {
  merging = merge.HostEffectGoals;
  has_term = false;
  asked = λ p t. Some (asked_trait p.trait_ref);
  self_type = λ p. first_type p.trait_ref.args.items;
  constness = λ p. Some p.constness;
  is_with_self = IsEffectWithSelf;
  passes = may_match_effect;
  expected = λ p t. ⊥;
  is_impl_for = λ p t r. r.trait_id ≡ p.trait_ref.def_id;
  gives = λ p S n c t. EffectCandidateHolds p S n c;
  refuted = EffectCandidateRefuted;
  list = λ p S c. Some (asked_effect_list p S c);
  is_for = λ p t k. is_effect_rule_for t p.trait_ref.def_id k;
  additional = λ p S a. implied_bounds_for S.tables p.trait_ref.def_id a;
}

-- goals that ask which term a projection stands for
abbrev pub alias_words : KindWords NormalizesTo
alias_words = record {
  merging = merge.Projections;
  has_term = true;
  asked = λ p t. projected_trait t p.alias;
  self_type = λ p. first_type p.alias.args.items;
  constness = λ p. None;
  is_with_self = IsAliasWithSelf;
  passes = λ p k. may_match_term p.alias k;
  expected = λ p t. t ≡ tree_of_term p.term;
  is_impl_for = λ p t r. IsImplForItem t p.alias r;
  gives = λ p S n c t. ProjectionCandidateGives p.alias S n c t;
  refuted = λ p S n c. ProjectionCandidateRefuted p.alias S n c;
  list = λ p S c. Some (asked_projection_list p.alias S c);
  is_for = λ p t k. is_for_alias k (lang_of_alias t p.alias.kind);
  additional = λ p S a. [];
}

-- what a kind says of the candidates of one goal, over tables and in a mode
pub record GoalWords : Type 1 where
  pub setting : Setting
  pub has_term : Bool
  -- the trait that the goal is about
  pub asked : Option TraitTree
  pub passes : ClauseKind → Bool
  pub is_impl_for : ImplRow → Type 0
  pub is_for : NamedRule → Bool
  pub gives : ℕ → Candidate → Tree → Type 0
  pub refuted : ℕ → Candidate → Type 0
  pub list : Candidate → Option (Option (List Entry))
  pub additional : AliasTerm → List Candidate

abbrev pub words_for : {P : Type 0} → KindWords P → Tables → Goal P → TypingMode → GoalWords
words_for K t g m = record {
  setting = setting_of t m g.param_env.items;
  has_term = K.has_term;
  asked = K.asked g.predicate t;
  passes = K.passes g.predicate;
  is_impl_for = K.is_impl_for g.predicate t;
  is_for = K.is_for g.predicate t;
  gives = K.gives g.predicate (setting_of t m g.param_env.items);
  refuted = K.refuted g.predicate (setting_of t m g.param_env.items);
  list = K.list g.predicate (setting_of t m g.param_env.items);
  additional = K.additional g.predicate (setting_of t m g.param_env.items);
}

-- a rule gives a term, or holds, just where the candidate does; one that is to stay undecided never does
abbrev pub Gives : GoalWords → Certainty → Candidate → Rule → Type 0
Gives W k c r = GivesAs W.has_term W.setting k (λ n t. W.gives n c t) r

-- a rule is refuted just where the candidate is
abbrev pub Refutes : GoalWords → Candidate → Rule → Type 0
Refutes W c r = RefutedAs W.setting (λ n. W.refuted n c) r

-- a rule's list is the candidate's
abbrev pub HasList : GoalWords → Certainty → Candidate → Rule → Type 0
HasList W k c r = IsToldBy W.setting.tables k (W.list c) r

-- a refusal says that the candidate is refuted with no height
abbrev pub IsRefusalOf : GoalWords → Candidate → Fault → Type 0
IsRefusalOf W c f = IsRefusal (W.refuted 0 c) f

-- with clauses that are asked for beside the candidate: it gives a term where all of them hold too, and is refuted where one of them is, too
abbrev pub GivesBeside : GoalWords → List (GoalSource × ClauseKind) → Candidate → Rule → Type 0
GivesBeside W ks c r = GivesAs W.has_term W.setting certainty.Yes (λ n t. W.gives n c t × AllHold W.setting n ks) r

abbrev pub RefutesBeside : GoalWords → List (GoalSource × ClauseKind) → Candidate → Rule → Type 0
RefutesBeside W ks c r = RefutedAs W.setting (λ n. W.refuted n c ⊎ OneRefuted W.setting n ks) r

-- the answer of the rule of the impl with a number, if it is one of the goal's trait: the rule says what the impl does
abbrev pub GivesAsImpl : GoalWords → Certainty → ImplId → Result Rule Fault → Type 0
GivesAsImpl W k i x = (row : ImplRow) → impl_of W.setting.tables i ≡ Some row → W.is_impl_for row → IfOk x (Gives W k (by_impl row))

abbrev pub RefutesAsImpl : GoalWords → ImplId → Result Rule Fault → Type 0
RefutesAsImpl W i x = (row : ImplRow) → impl_of W.setting.tables i ≡ Some row → W.is_impl_for row → IfOk x (Refutes W (by_impl row))

-- its list is the impl's, and a refusal is final
abbrev pub HasListOfImpl : GoalWords → Certainty → ImplId → Result Rule Fault → Type 0
HasListOfImpl W k i x = (row : ImplRow) → impl_of W.setting.tables i ≡ Some row → IfOk x (HasList W k (by_impl row))

abbrev pub RefusesFinally : GoalWords → ImplId → Result Rule Fault → Type 0
RefusesFinally W i x = (row : ImplRow) → impl_of W.setting.tables i ≡ Some row → W.is_impl_for row → IfErr x (IsRefusalOf W (by_impl row))

-- the same of the candidates that an alias has beside its bounds, each of which has its rule, in order
abbrev pub GiveAdditional : GoalWords → AliasTerm → List Rule → Type 0
GiveAdditional W a rs = AllZip (λ r c. Gives W certainty.Yes c r) rs (W.additional a)

abbrev pub RefuteAdditional : GoalWords → AliasTerm → List Rule → Type 0
RefuteAdditional W a rs = AllZip (λ r c. Refutes W c r) rs (W.additional a)

abbrev pub ListAdditional : GoalWords → AliasTerm → List Rule → Type 0
ListAdditional W a rs = AllZip (λ r c. HasList W certainty.Yes c r) rs (W.additional a)

-- none of these is an impl
abbrev pub AddNoImpl : GoalWords → AliasTerm → List Rule → Type 0
AddNoImpl W a rs = AllZip (λ r c. IsNoImpl c) rs (W.additional a)

-- a function of the built-in candidate answers a goal, which it may be for: not where it isn't; its rule says no more than the candidate does
abbrev pub AnswersWhere : GoalWords → Bool → Result Rule Fault → Type 0
AnswersWhere W is_for r = IsNamedAnswer is_for W.has_term W.setting (λ n t. W.gives n built_in t) (λ n. W.refuted n built_in) r

-- that of the trait alias or of a built-in rule
abbrev pub AnswersBy : GoalWords → NamedRule → Result Rule Fault → Type 0
AnswersBy W k r = AnswersWhere W (W.is_for k) r

-- over accepted tables an accepted clause that the fast rejection doesn't let pass is refuted with no height
abbrev pub RejectionIsFinal : {P : Type 0} → KindWords P → (P → Tables → TermFault → Bool) → Type 0
RejectionIsFinal {P} K has_fault =
    (p : P) (S : Setting) (k : ClauseKind) → IsChecked S.tables → HasNoKindFault (λ f. has_fault p S.tables f) → IsAcceptedClause S.tables k →
    K.passes p k ≡ false → K.refuted p S 0 (said_by k)

-- an impl whose header has another head than the goal's arguments, which are given with their lifetimes, is refuted with no height
abbrev pub OtherHeadsAreRefuted : {P : Type 0} → KindWords P → Type 0
OtherHeadsAreRefuted {P} K =
    (p : P) (S : Setting) (q : TraitTree) (args : List Tree) (r : ImplRow) → K.asked p S.tables ≡ Some q → q.args ≡ map erased args →
    may_fit args (by_impl r) ≡ false → K.refuted p S 0 (by_impl r)
