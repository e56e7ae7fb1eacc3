-- The lists of the candidates for host effect goals: that a trait holds as a const trait.
use Rattle.std.specs.Prelude.{List, [], ◌∷◌, ◌++◌, ◌&&◌, Option, Some, None, if◌then◌else◌}
use Rattle.std.specs.Option.{option_map}
use Rattle.goal_terms.specs.PredicateTrees.{PredicateTree, holds, equals, holds_const}
use Rattle.goal_terms.specs.Tree.{Tree}
use Rattle.goal_terms.specs.declared.answers.GoalSource.{GoalSource}
use Rattle.goal_terms.specs.declared.answers.GoalSource.TheVariants as source
use Rattle.goal_terms.specs.declared.ids.TraitId.{TraitId}
use Rattle.goal_terms.specs.declared.modes.TypingMode.{TypingMode}
use Rattle.goal_terms.specs.declared.predicates.BoundConstness.{BoundConstness}
use Rattle.goal_tables.specs.Rows.{trait_of}
use Rattle.goal_terms.specs.declared.lang.LangItem.{LangItem}
use Rattle.goal_terms.specs.declared.lang.LangItem.TheVariants as lang
use Rattle.goal_tables.specs.declared.rows.ImplRow.{ImplRow}
use Rattle.goal_tables.specs.declared.rows.Tables.{Tables}
use Rattle.goal_tables.specs.declared.rows.TraitRow.{TraitRow}
use Rattle.goal_lists.specs.Builtins.{lang_of_trait}
use Rattle.goal_lists.specs.Candidates.{Candidate, assumption, implied_bound, by_impl, built_in, error}
use Rattle.goal_lists.specs.ConstGoals.{satisfies}
use Rattle.goal_lists.specs.ConstRules.{const_rule}
use Rattle.goal_lists.specs.Entries.{Entry, equal_terms, row_conditions, premise_entries}
use Rattle.goal_lists.specs.Premises.{TraitTree, ConstRule, conditions_as}
use Rattle.goal_lists.specs.Settings.{Setting}
use Rattle.goal_lists.specs.TraitLists.{is_trait, impl_match, list_by_polarity, error_list}

-- a clause that the trait is const, with a constness that satisfies the goal's: its arguments are the goal's
unfoldable pub effect_assumption_list : BoundConstness → TraitId → List Tree → PredicateTree → Option (List Entry)
effect_assumption_list c i args (holds_const b j bs) = if is_trait j i && satisfies b c then Some (equal_terms bs args ∷ []) else None
effect_assumption_list c i args (holds j bs) = None
effect_assumption_list c i args (equals a t) = None

-- an implied const bound: its arguments are the goal's, and the alias's const conditions hold with the goal's constness
abbrev pub implied_list : BoundConstness → TraitId → List Tree → TraitTree → List TraitTree → Option (List Entry)
implied_list c i args b conditions =
    if is_trait b.def_id i then Some (equal_terms b.args args ∷ premise_entries source.AliasBoundConstCondition (conditions_as c conditions)) else None

-- a const impl: as for the trait goal, and its const conditions hold with the goal's constness
abbrev pub effect_impl_list : TypingMode → BoundConstness → List Tree → ImplRow → Option (List Entry)
effect_impl_list m c args r =
    if r.is_const then list_by_polarity m r.polarity (impl_match r args (row_conditions c r.const_conditions.items 0 ∷ [])) else None

-- as what the const conditions of a lang trait's rule are asked for
abbrev pub source_of_lang : Option LangItem → GoalSource
source_of_lang (Some lang.Destruct) = source.AliasBoundConstCondition
source_of_lang _ = source.ImplWhereBound

-- and those of any trait's rule
abbrev pub source_of_const_rule : Tables → TraitId → Option TraitRow → GoalSource
source_of_const_rule t i None = source.ImplWhereBound
source_of_const_rule t i (Some r) = if r.is_alias then source.Misc else source_of_lang (lang_of_trait t i)

-- a rule's premises, and its const conditions with the goal's constness
abbrev pub const_rule_entries : GoalSource → BoundConstness → ConstRule → List Entry
const_rule_entries g c r = premise_entries g r.premises ++ premise_entries g (conditions_as c r.conditions)

-- a trait alias, or a built-in rule
abbrev pub effect_rule_list : Tables → BoundConstness → TraitId → List Tree → Option (List Entry)
effect_rule_list t c i args = option_map (const_rule_entries (source_of_const_rule t i (trait_of t i)) c) (const_rule t i args)

-- the list of a candidate for a host effect goal
unfoldable pub effect_list : Setting → BoundConstness → TraitId → List Tree → Candidate → Option (List Entry)
effect_list S c i args (assumption p) = effect_assumption_list c i args p
effect_list S c i args (implied_bound b conditions) = implied_list c i args b conditions
effect_list S c i args (by_impl r) = effect_impl_list S.mode c args r
effect_list S c i args built_in = effect_rule_list S.tables c i args
effect_list S c i args error = error_list args
