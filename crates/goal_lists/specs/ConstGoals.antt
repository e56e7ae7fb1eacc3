-- Whether a trait holds as a const trait, one height above a level.
use Rattle.std.specs.Prelude.{◌≡◌, ◌≢◌, ◌⊎◌, Bool, true, false, List, [], ◌∷◌, Option, Some, None}
use Rattle.goal_terms.specs.PredicateTrees.{PredicateTree, holds, equals, holds_const}
use Rattle.goal_terms.specs.Tree.{Tree}
use Rattle.goal_terms.specs.declared.answers.TraitGoalProvenVia.{TraitGoalProvenVia}
use Rattle.goal_terms.specs.declared.ids.TraitId.{TraitId}
use Rattle.goal_terms.specs.declared.modes.TypingMode.{TypingMode}
use Rattle.goal_terms.specs.declared.predicates.BoundConstness.{BoundConstness}
use Rattle.goal_terms.specs.declared.predicates.BoundConstness.TheVariants as constness
use Rattle.goal_tables.specs.declared.rows.ImplRow.{ImplRow}
use Rattle.goal_lists.specs.Candidates.{Candidate, assumption, implied_bound, by_impl, built_in, error, environment, second_group}
use Rattle.goal_lists.specs.ConstRules.{const_rule}
use Rattle.goal_lists.specs.Headers.{AllKnown}
use Rattle.goal_lists.specs.Level.{Level, HasHeadForm}
use Rattle.goal_lists.specs.Premises.{Premise, TraitTree, ConstRule, PremisesHold, PremisesRefuted, conditions_as, traits_under}
use Rattle.goal_lists.specs.Settings.{Setting}
use Rattle.goal_lists.specs.TraitGoals.{ImplHoldsUnder, ImplRefuted, header_of, any_error, PassedOver, Decides}
use Rattle.goal_lists.specs.Words.{Each, Exists, Pairs, SomePair}

-- whether a clause of one constness satisfies a goal of another: `const` both, `[const]` only `[const]`
abbrev pub satisfies : BoundConstness → BoundConstness → Bool
satisfies constness.Const _ = true
satisfies constness.Maybe constness.Const = false
satisfies constness.Maybe constness.Maybe = true

-- a clause says that the trait is const for equal arguments, and satisfies the goal
unfoldable pub ConstAssumptionHolds : Level → BoundConstness → TraitId → List Tree → PredicateTree → Type 0
ConstAssumptionHolds L c i args (holds_const b j bs) = (j ≡ i) × (satisfies b c ≡ true) × Pairs L.equal bs args
ConstAssumptionHolds L c i args (holds j bs) = ⊥
ConstAssumptionHolds L c i args (equals a t) = ⊥

-- a clause says something else, doesn't satisfy the goal, or is of other arguments
unfoldable pub ConstAssumptionRefuted : Level → BoundConstness → TraitId → List Tree → PredicateTree → Type 0
ConstAssumptionRefuted L c i args (holds_const b j bs) = (j ≢ i) ⊎ (satisfies b c ≡ false) ⊎ SomePair L.unequal bs args
ConstAssumptionRefuted L c i args (holds j bs) = Unit {0}
ConstAssumptionRefuted L c i args (equals a t) = Unit {0}

-- an implied const bound is matched, and the alias's const conditions hold as the goal's constness asks
unfoldable pub ImpliedHolds : Level → BoundConstness → TraitId → List Tree → TraitTree → List TraitTree → Type 0
ImpliedHolds L c i args b conditions = (b.def_id ≡ i) × Pairs L.equal b.args args × PremisesHold L (conditions_as c conditions)

unfoldable pub ImpliedRefuted : Level → BoundConstness → TraitId → List Tree → TraitTree → List TraitTree → Type 0
ImpliedRefuted L c i args b conditions =
    (b.def_id ≢ i) ⊎ SomePair L.unequal b.args args ⊎ PremisesRefuted L (conditions_as c conditions)

-- an impl's const conditions under its substitution
abbrev pub impl_conditions : BoundConstness → List Tree → ImplRow → List Premise
impl_conditions c s r = conditions_as c (traits_under s r.const_conditions.items)

-- a const impl: it holds, and so do its const conditions
unfoldable pub ConstImplHolds : Level → BoundConstness → List Tree → ImplRow → Type 0
ConstImplHolds L c args r =
    (s : List Tree) × (r.is_const ≡ true) × ImplHoldsUnder L r args s × PremisesHold L (impl_conditions c s r)

-- an impl isn't const, cannot hold, or has its parameters known and a const condition refuted
unfoldable pub ConstImplRefuted : TypingMode → Level → BoundConstness → List Tree → ImplRow → Type 0
ConstImplRefuted m L c args r =
    (r.is_const ≡ false)
    ⊎ ImplRefuted m L args r
    ⊎ ((s : List Tree) × AllKnown L r.params.items (header_of r) args s × PremisesRefuted L (impl_conditions c s r))

-- a rule's premises and const conditions hold; or there is no rule, or one of these is refuted
unfoldable pub ConstRuleHolds : Level → BoundConstness → Option ConstRule → Type 0
ConstRuleHolds L c None = ⊥
ConstRuleHolds L c (Some r) = PremisesHold L r.premises × PremisesHold L (conditions_as c r.conditions)

unfoldable pub ConstRuleRefuted : Level → BoundConstness → Option ConstRule → Type 0
ConstRuleRefuted L c None = Unit {0}
ConstRuleRefuted L c (Some r) = PremisesRefuted L r.premises ⊎ PremisesRefuted L (conditions_as c r.conditions)

-- a candidate shows that the trait is const for arguments, whose self type is a head form
unfoldable pub ConstCandidateHolds : Setting → Level → BoundConstness → TraitId → List Tree → Candidate → Type 0
ConstCandidateHolds S L c i args (assumption p) = ConstAssumptionHolds L c i args p
ConstCandidateHolds S L c i args (implied_bound b conditions) = ImpliedHolds L c i args b conditions
ConstCandidateHolds S L c i args (by_impl r) = ConstImplHolds L c args r
ConstCandidateHolds S L c i args built_in = ConstRuleHolds L c (const_rule S.tables i args)
ConstCandidateHolds S L c i args error = any_error args ≡ true

-- a candidate cannot show it, now or at any greater height
unfoldable pub ConstCandidateRefuted : Setting → Level → BoundConstness → TraitId → List Tree → Candidate → Type 0
ConstCandidateRefuted S L c i args (assumption p) = ConstAssumptionRefuted L c i args p
ConstCandidateRefuted S L c i args (implied_bound b conditions) = ImpliedRefuted L c i args b conditions
ConstCandidateRefuted S L c i args (by_impl r) = ConstImplRefuted S.mode L c args r
ConstCandidateRefuted S L c i args built_in = ConstRuleRefuted L c (const_rule S.tables i args)
ConstCandidateRefuted S L c i args error = any_error args ≡ false

-- a candidate shows that the trait is const, and decides
abbrev pub ConstCandidateDecides : Setting → Level → BoundConstness → TraitId → List Tree → Candidate → Type 0
ConstCandidateDecides S L c i args d = ConstCandidateHolds S L c i args d × Decides S L args d

-- a candidate is ruled out: it is refuted or passed over
abbrev pub ConstCandidateRuledOut : Setting → Level → BoundConstness → TraitId → List Tree → Candidate → Type 0
ConstCandidateRuledOut S L c i args d = ConstCandidateRefuted S L c i args d ⊎ PassedOver S L args d

-- a trait holds as a const trait: the plain goal holds through a class, and a candidate of the first group that isn't ruled out decides
unfoldable pub ConstHolds : Setting → Level → BoundConstness → TraitId → List Tree → Type 0
ConstHolds S L c i [] = ⊥
ConstHolds S L c i (self ∷ args) =
    (v : TraitGoalProvenVia)
    × (s : Tree)
    × L.through v i (self ∷ args)
    × HasHeadForm L self s
    × (Exists (ConstCandidateDecides S L c i (s ∷ args)) (environment S)
    ⊎ (Each (ConstCandidateRuledOut S L c i (s ∷ args)) (environment S)
    × Exists (ConstCandidateDecides S L c i (s ∷ args)) (second_group S i s v)))

-- it is refuted as one: the plain goal is refuted, or it holds through a class and all candidates of the groups are ruled out
unfoldable pub ConstRefuted : Setting → Level → BoundConstness → TraitId → List Tree → Type 0
ConstRefuted S L c i [] = ⊥
ConstRefuted S L c i (self ∷ args) =
    L.trait_refuted i (self ∷ args)
    ⊎ ((v : TraitGoalProvenVia)
    × (s : Tree)
    × L.through v i (self ∷ args)
    × HasHeadForm L self s
    × Each (ConstCandidateRuledOut S L c i (s ∷ args)) (environment S)
    × Each (ConstCandidateRuledOut S L c i (s ∷ args)) (second_group S i s v))
