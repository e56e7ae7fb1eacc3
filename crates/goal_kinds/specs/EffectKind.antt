-- Host effect goals as a kind of goals: which clauses and which impls may show such a goal, what its candidates say, and what an alias adds to them.
use Rattle.std.specs.Prelude.{◌≡◌, ◌&&◌, ◌||◌, not, ℕ, Bool, true, false, List, filter, Option, Some, None}
use Rattle.std.specs.List.{AllZip}
use Rattle.goal_terms.specs.Erased.{erased}
use Rattle.goal_terms.specs.Tree.{Tree}
use Rattle.goal_terms.specs.TreeOf.{trees_of, tree_of_alias}
use Rattle.goal_terms.specs.declared.ids.TraitId.{TraitId}
use Rattle.goal_terms.specs.declared.modes.TypingMode.{TypingMode}
use Rattle.goal_terms.specs.declared.predicates.ClauseKind.{ClauseKind}
use Rattle.goal_terms.specs.declared.predicates.ClauseKind.TheVariants as clause
use Rattle.goal_terms.specs.declared.predicates.HostEffectPredicate.{HostEffectPredicate}
use Rattle.goal_terms.specs.declared.terms.AliasTerm.{AliasTerm}
use Rattle.goal_tables.specs.declared.rows.ImplRow.{ImplRow}
use Rattle.goal_tables.specs.declared.rows.Tables.{Tables}
use Rattle.goal_kinds.specs.CandidateRules.{NamedRule, trait_alias, sizedness, copy_clone, fn_ptr_trait, fn_trait, tuple, pointee, discriminant_kind, destruct, field, IsWithSelf, is_rule_for, refuses_row}
use Rattle.goal_lists.specs.Candidates.{Candidate, implied_bound, bounds_of}
use Rattle.goal_lists.specs.ConstGoals.{satisfies, ConstCandidateHolds, ConstCandidateRefuted}
use Rattle.goal_lists.specs.EffectLists.{effect_list}
use Rattle.goal_lists.specs.Entries.{Entry}
use Rattle.goal_lists.specs.FastReject.{lists_may_unify}
use Rattle.goal_lists.specs.Levels.{level}
use Rattle.goal_kinds.specs.RuleLists.{IsListed}
use Rattle.goal_lists.specs.RowWords.{given}
use Rattle.goal_lists.specs.Settings.{Setting}
use Rattle.goal_lists.specs.TraitLists.{is_trait}
use Rattle.goal_lists.specs.declared.fast_reject.Parameters.TheVariants.{Rigid}
use Rattle.goal_kinds.specs.declared.rules.Rule.{Rule}

-- whether a clause says that the goal's trait is const, with a constness that satisfies the goal's
abbrev pub is_of_effect : HostEffectPredicate → ClauseKind → Bool
is_of_effect p (clause.HostEffect q) = is_trait q.trait_ref.def_id p.trait_ref.def_id && satisfies q.constness p.constness
is_of_effect p (clause.Trait q) = false
is_of_effect p (clause.Projection q) = false

-- whether it may show the goal: so it says, and no two heads or kinds of the arguments differ
abbrev pub may_match_effect : HostEffectPredicate → ClauseKind → Bool
may_match_effect p (clause.HostEffect q) =
    is_of_effect p (clause.HostEffect q) && lists_may_unify Rigid (trees_of q.trait_ref.args.items) (trees_of p.trait_ref.args.items)
may_match_effect p (clause.Trait q) = false
may_match_effect p (clause.Projection q) = false

-- whether an impl is refused before its list is made: as for the trait goal, or it isn't const
abbrev pub refuses_effect_row : TypingMode → HostEffectPredicate → ImplRow → Bool
refuses_effect_row m p r = refuses_row m p.trait_ref r || not r.is_const

-- and one that has no row
abbrev pub refuses_effect_impl : TypingMode → HostEffectPredicate → Option ImplRow → Bool
refuses_effect_impl m p None = true
refuses_effect_impl m p (Some r) = refuses_effect_row m p r

-- the list of a candidate for a goal
abbrev pub asked_effect_list : HostEffectPredicate → Setting → Candidate → Option (List Entry)
asked_effect_list p S c = effect_list S p.constness p.trait_ref.def_id (given p.trait_ref.args) c

-- a goal's candidates, by its trait reference and its constness
abbrev pub EffectCandidateHolds : HostEffectPredicate → Setting → ℕ → Candidate → Type 0
EffectCandidateHolds p S n c = ConstCandidateHolds S (level S n) p.constness p.trait_ref.def_id (given p.trait_ref.args) c

abbrev pub EffectCandidateRefuted : HostEffectPredicate → Setting → ℕ → Candidate → Type 0
EffectCandidateRefuted p S n c = ConstCandidateRefuted S (level S n) p.constness p.trait_ref.def_id (given p.trait_ref.args) c

-- another goal has a type in place of the self type
abbrev pub IsEffectWithSelf : HostEffectPredicate → Tree → HostEffectPredicate → Type 0
IsEffectWithSelf p t q = IsWithSelf p.trait_ref t q.trait_ref × (q.constness ≡ p.constness)

-- whether the function of a rule is for host effect goals of a trait
unfoldable pub is_effect_rule_for : Tables → TraitId → NamedRule → Bool
is_effect_rule_for t i trait_alias = is_rule_for t i trait_alias
is_effect_rule_for t i copy_clone = is_rule_for t i copy_clone
is_effect_rule_for t i fn_trait = is_rule_for t i fn_trait
is_effect_rule_for t i destruct = is_rule_for t i destruct
is_effect_rule_for t i sizedness = false
is_effect_rule_for t i fn_ptr_trait = false
is_effect_rule_for t i tuple = false
is_effect_rule_for t i pointee = false
is_effect_rule_for t i discriminant_kind = false
is_effect_rule_for t i field = false

-- whether a candidate is an implied const bound of a trait
abbrev pub is_implied_for : TraitId → Candidate → Bool
is_implied_for i (implied_bound b conditions) = is_trait b.def_id i
is_implied_for i _ = false

-- the implied const bounds of an alias that are of a trait, each with the alias's const conditions
abbrev pub implied_bounds_for : Tables → TraitId → AliasTerm → List Candidate
implied_bounds_for t i a = filter (is_implied_for i) (bounds_of t (erased (tree_of_alias a)))

-- rules are those of the implied const bounds of the goal's trait among some candidates, in order
abbrev pub AreImplied : Tables → HostEffectPredicate → Setting → List Candidate → List Rule → Type 0
AreImplied t p S cs rs = AllZip (λ r c. IsListed t r (asked_effect_list p S c)) rs (filter (is_implied_for p.trait_ref.def_id) cs)
