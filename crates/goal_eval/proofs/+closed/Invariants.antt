use Rattle.std.proofs.Common.{◌+◌, ◌-◌, ◌*◌, length, ◌≡◌, take, drop}
use Rattle.goal_interner.specs.TableMeaning.{Keeps}
use Rattle.goal_lists.specs.Interned.{premise_at, erased_all, erased_at}
use Rattle.goal_eval.proofs.PremiseOutcomes.{PremisesSay, condition_at}
use Rattle.goal_eval.specs.Effects.{AreSound}
use Rattle.goal_eval.specs.Outcomes.{RunsFor, header_terms, setting_in, level_in, FoundIn}
use Rattle.goal_eval.specs.HeaderWords.{KnownIn, known_trees, KnownOutcome, ClashAt}
use Rattle.goal_terms.specs.declared.modes.TypingMode.{TypingMode}
use Rattle.goal_lists.specs.Words.{Exists}
use Rattle.goal_eval.proofs.MergingLemmas.{AgreeBefore, HeldBefore}
use Rattle.goal_eval.proofs.ProjectionTermLemmas.{GivesOf, NoneOf, DecidesOf, ToldBefore}
use Rattle.goal_lists.specs.Level.{HeadFormRefuted}
use Rattle.goal_eval.specs.ProjectionParts.{IsFormed}
use Rattle.goal_eval.proofs.FormLemmas.{Narrows}
use Rattle.goal_eval.specs.Lists.{RunIn}
use Rattle.goal_eval.proofs.ListAnswerLemmas.{RunsSoFar}
use Rattle.goal_eval.proofs.AskedTraitLemmas.{AskedSoFar}
use Rattle.goal_eval.proofs.SpecialImplLemmas.{ImplsSoFar}
use Rattle.goal_eval.proofs.+closed.Given as goal

abbrev pub decreases-relate::equality::compare_pair : goal.decreases-relate::equality::compare_pair
decreases-relate::equality::compare_pair l = 40 * l.depth + 0

abbrev pub decreases-relate::equality::compare_pending : goal.decreases-relate::equality::compare_pending
decreases-relate::equality::compare_pending l = 40 * l.depth + 1

abbrev pub decreases-relate::equality::compare_terms : goal.decreases-relate::equality::compare_terms
decreases-relate::equality::compare_terms l = 40 * l.depth + 2

abbrev pub decreases-relate::equality::compare_forms : goal.decreases-relate::equality::compare_forms
decreases-relate::equality::compare_forms l = 40 * l.depth + 2

abbrev pub decreases-relate::equality::compare_lists : goal.decreases-relate::equality::compare_lists
decreases-relate::equality::compare_lists l = 40 * l.depth + 2

abbrev pub decreases-relate::headers::instances_fit : goal.decreases-relate::headers::instances_fit
decreases-relate::headers::instances_fit l = 40 * l.depth + 3

abbrev pub decreases-relate::headers::match_incomplete : goal.decreases-relate::headers::match_incomplete
decreases-relate::headers::match_incomplete l = 40 * l.depth + 7

abbrev pub decreases-relate::headers::match_complete : goal.decreases-relate::headers::match_complete
decreases-relate::headers::match_complete l = 40 * l.depth + 7

abbrev pub decreases-relate::headers::match_known : goal.decreases-relate::headers::match_known
decreases-relate::headers::match_known l = 40 * l.depth + 8

abbrev pub decreases-relate::headers::match_header : goal.decreases-relate::headers::match_header
decreases-relate::headers::match_header l = 40 * l.depth + 9

abbrev pub decreases-relate::header_parts::part_behind : goal.decreases-relate::header_parts::part_behind
decreases-relate::header_parts::part_behind l = 40 * l.depth + 0

abbrev pub decreases-relate::header_parts::part_at : goal.decreases-relate::header_parts::part_at
decreases-relate::header_parts::part_at l = 40 * l.depth + 1

abbrev pub decreases-relate::header_parts::known_part : goal.decreases-relate::header_parts::known_part
decreases-relate::header_parts::known_part l = 40 * l.depth + 2

abbrev pub decreases-relate::header_parts::known_arg : goal.decreases-relate::header_parts::known_arg
decreases-relate::header_parts::known_arg l = 40 * l.depth + 3

abbrev pub decreases-relate::header_parts::known_args : goal.decreases-relate::header_parts::known_args
decreases-relate::header_parts::known_args l = 40 * l.depth + 4

abbrev pub decreases-relate::header_clashes::behind_clashes : goal.decreases-relate::header_clashes::behind_clashes
decreases-relate::header_clashes::behind_clashes l = 40 * l.depth + 0

abbrev pub decreases-relate::header_clashes::instance_clashes : goal.decreases-relate::header_clashes::instance_clashes
decreases-relate::header_clashes::instance_clashes l = 40 * l.depth + 3

abbrev pub decreases-relate::header_clashes::question_clashes : goal.decreases-relate::header_clashes::question_clashes
decreases-relate::header_clashes::question_clashes l = 40 * l.depth + 4

abbrev pub decreases-relate::header_clashes::any_clash : goal.decreases-relate::header_clashes::any_clash
decreases-relate::header_clashes::any_clash l = 40 * l.depth + 5

abbrev pub decreases-relate::header_clashes::header_clashes : goal.decreases-relate::header_clashes::header_clashes
decreases-relate::header_clashes::header_clashes l = 40 * l.depth + 6

abbrev pub decreases-relate::header_clashes::form_clashes : goal.decreases-relate::header_clashes::form_clashes
decreases-relate::header_clashes::form_clashes l = 40 * l.depth + 6

abbrev pub decreases-eval::premises::equation_outcome : goal.decreases-eval::premises::equation_outcome
decreases-eval::premises::equation_outcome l = 40 * l.depth + 0

abbrev pub decreases-eval::premises::conditions_outcome : goal.decreases-eval::premises::conditions_outcome
decreases-eval::premises::conditions_outcome l = 40 * l.depth + 1

abbrev pub decreases-eval::premises::predicate_outcome : goal.decreases-eval::premises::predicate_outcome
decreases-eval::premises::predicate_outcome l = 40 * l.depth + 1

abbrev pub decreases-eval::premises::premise_outcome : goal.decreases-eval::premises::premise_outcome
decreases-eval::premises::premise_outcome l = 40 * l.depth + 3

abbrev pub decreases-eval::premises::premises_outcome : goal.decreases-eval::premises::premises_outcome
decreases-eval::premises::premises_outcome l = 40 * l.depth + 4

abbrev pub decreases-eval::premises::clauses_outcome : goal.decreases-eval::premises::clauses_outcome
decreases-eval::premises::clauses_outcome l = 40 * l.depth + 5

abbrev pub decreases-eval::head_forms::head_form : goal.decreases-eval::head_forms::head_form
decreases-eval::head_forms::head_form l = 40 * l.depth + 1

abbrev pub decreases-eval::head_forms::head_form_under : goal.decreases-eval::head_forms::head_form_under
decreases-eval::head_forms::head_form_under l = 40 * l.depth + 2

abbrev pub decreases-normalizes_to::projections::head_forms_outcome : goal.decreases-normalizes_to::projections::head_forms_outcome
decreases-normalizes_to::projections::head_forms_outcome l = 40 * l.depth + 2

abbrev pub decreases-normalizes_to::projections::own_args_normalized : goal.decreases-normalizes_to::projections::own_args_normalized
decreases-normalizes_to::projections::own_args_normalized l = 40 * l.depth + 3

abbrev pub decreases-normalizes_to::projections::group_term : goal.decreases-normalizes_to::projections::group_term
decreases-normalizes_to::projections::group_term l = 40 * l.depth + 20

abbrev pub decreases-normalizes_to::projections::second_term : goal.decreases-normalizes_to::projections::second_term
decreases-normalizes_to::projections::second_term l = 40 * l.depth + 21

abbrev pub decreases-normalizes_to::projections::environment_term : goal.decreases-normalizes_to::projections::environment_term
decreases-normalizes_to::projections::environment_term l = 40 * l.depth + 21

abbrev pub decreases-normalizes_to::projections::later_term : goal.decreases-normalizes_to::projections::later_term
decreases-normalizes_to::projections::later_term l = 40 * l.depth + 22

abbrev pub decreases-normalizes_to::projections::groups_term : goal.decreases-normalizes_to::projections::groups_term
decreases-normalizes_to::projections::groups_term l = 40 * l.depth + 23

abbrev pub decreases-normalizes_to::projections::replaced_term : goal.decreases-normalizes_to::projections::replaced_term
decreases-normalizes_to::projections::replaced_term l = 40 * l.depth + 24

abbrev pub decreases-normalizes_to::projections::term_proven_via : goal.decreases-normalizes_to::projections::term_proven_via
decreases-normalizes_to::projections::term_proven_via l = 40 * l.depth + 25

abbrev pub decreases-normalizes_to::projections::item_term : goal.decreases-normalizes_to::projections::item_term
decreases-normalizes_to::projections::item_term l = 40 * l.depth + 26

abbrev pub decreases-normalizes_to::projections::projection_term : goal.decreases-normalizes_to::projections::projection_term
decreases-normalizes_to::projections::projection_term l = 40 * l.depth + 27

abbrev pub invariant-eval::premises::premises_outcome-loop-premise : goal.invariant-eval::premises::premises_outcome-loop-premise
invariant-eval::premises::premises_outcome-loop-premise l = record {
  kept : Keeps l.fn.terms l.terms;
  effects : AreSound l.setting l.terms l.effects;
  so_far : PremisesSay l.setting l.depth (premise_at l.fn.terms) l.premises l.premise-index l.found;
}

abbrev pub invariant-relate::header_parts::known_args-loop-i : goal.invariant-relate::header_parts::known_args-loop-i
invariant-relate::header_parts::known_args-loop-i l = record {
  kept : Keeps l.initial.terms l.terms;
  effects : AreSound l.setting l.terms l.effects;
  within : KnownIn l.terms l.known.items;
  count : length l.known.items ≡ l.i;
  says : KnownOutcome l.setting l.depth (header_terms l.asked.header.now) (erased_all l.initial.terms l.asked.given.now) (take l.i l.asked.params.now) (known_trees l.terms l.known.items);
}

abbrev pub invariant-relate::header_clashes::any_clash-loop-i : goal.invariant-relate::header_clashes::any_clash-loop-i
invariant-relate::header_clashes::any_clash-loop-i l = record {
  kept : Keeps l.initial.terms l.terms;
  effects : AreSound l.setting l.terms l.effects;
  none : (m : TypingMode) → RunsFor l.setting m →
      Exists (ClashAt (level_in l.setting m l.depth) (known_trees l.initial.terms l.filled.known.now) l.initial.terms) (take l.i l.questions) → ⊥;
}

abbrev pub invariant-normalizes_to::projections::group_term-loop-candidate :
    goal.invariant-normalizes_to::projections::group_term-loop-candidate
invariant-normalizes_to::projections::group_term-loop-candidate l = record {
  kept : Keeps l.fn.terms l.terms;
  effects : AreSound l.setting l.terms l.effects;
  within : FoundIn l.terms l.found;
  says : (m : TypingMode) → RunsFor l.setting m →
      AgreeBefore (GivesOf (setting_in l.setting m) (level_in l.setting m l.depth) l.fn.terms l.projection) (NoneOf (setting_in l.setting m) (level_in l.setting m l.depth) l.fn.terms l.projection)
      l.terms l.found l.candidates l.candidate-index;
  told : (m : TypingMode) → RunsFor l.setting m →
      ToldBefore (DecidesOf (setting_in l.setting m) (level_in l.setting m l.depth) l.fn.terms l.projection) l.decided l.candidates l.candidate-index;
}

abbrev pub invariant-normalizes_to::projections::head_forms_outcome-loop-id :
    goal.invariant-normalizes_to::projections::head_forms_outcome-loop-id
invariant-normalizes_to::projections::head_forms_outcome-loop-id l = record {
  kept : Keeps l.fn.terms l.terms;
  effects : AreSound l.setting l.terms l.effects;
  says : (m : TypingMode) → RunsFor l.setting m →
      HeldBefore (λ id. IsFormed (level_in l.setting m l.depth) (erased_at l.fn.terms id)) (λ id. HeadFormRefuted (level_in l.setting m l.depth) (erased_at l.fn.terms id)) l.outcome l.ids l.id-index;
}

abbrev pub invariant-relate::equality::compare_pending-loop-pair : goal.invariant-relate::equality::compare_pending-loop-pair
invariant-relate::equality::compare_pending-loop-pair l =
    Keeps l.fn.terms l.terms
    × ((m : TypingMode) → RunsFor l.setting m
    → Narrows (level_in l.setting m l.depth) l.fn.terms l.pending.outcome l.pending.pairs.items l.outcome (drop l.pair-index l.pair-items))
    × AreSound l.setting l.terms l.effects

abbrev pub invariant-eval::premises::conditions_outcome-loop-condition : goal.invariant-eval::premises::conditions_outcome-loop-condition
invariant-eval::premises::conditions_outcome-loop-condition l = record {
  kept : Keeps l.fn.terms l.terms;
  effects : AreSound l.setting l.terms l.effects;
  so_far : PremisesSay l.setting l.depth (condition_at l.constness l.fn.terms) l.conditions l.condition-index l.found;
}

abbrev pub decreases-normalizes_to::opaque_types::checked_type : goal.decreases-normalizes_to::opaque_types::checked_type
decreases-normalizes_to::opaque_types::checked_type l = 40 * l.depth + 7

abbrev pub decreases-normalizes_to::opaque_types::bounded_type : goal.decreases-normalizes_to::opaque_types::bounded_type
decreases-normalizes_to::opaque_types::bounded_type l = 40 * l.depth + 6

abbrev pub decreases-eval::lists::entries::term_found : goal.decreases-eval::lists::entries::term_found
decreases-eval::lists::entries::term_found l = 40 * l.depth + 8

abbrev pub decreases-eval::lists::entries::row_outcome : goal.decreases-eval::lists::entries::row_outcome
decreases-eval::lists::entries::row_outcome l = 40 * l.depth + 6

abbrev pub decreases-eval::lists::entries::header_match : goal.decreases-eval::lists::entries::header_match
decreases-eval::lists::entries::header_match l = 40 * l.depth + 10

abbrev pub decreases-eval::lists::entries::arguments_match : goal.decreases-eval::lists::entries::arguments_match
decreases-eval::lists::entries::arguments_match l = 40 * l.depth + 11

abbrev pub decreases-eval::lists::entries::run_entry : goal.decreases-eval::lists::entries::run_entry
decreases-eval::lists::entries::run_entry l = 40 * l.depth + 12

abbrev pub decreases-eval::lists::run_entries : goal.decreases-eval::lists::run_entries
decreases-eval::lists::run_entries l = 40 * l.depth + 13

abbrev pub decreases-eval::lists::run_list : goal.decreases-eval::lists::run_list
decreases-eval::lists::run_list l = 40 * l.depth + 14

abbrev pub decreases-assembly::specialized::impl_outcome : goal.decreases-assembly::specialized::impl_outcome
decreases-assembly::specialized::impl_outcome l = 40 * l.depth + 15

abbrev pub decreases-assembly::specialized::impls_outcome : goal.decreases-assembly::specialized::impls_outcome
decreases-assembly::specialized::impls_outcome l = 40 * l.depth + 16

abbrev pub decreases-assembly::specialized::more_special_outcome : goal.decreases-assembly::specialized::more_special_outcome
decreases-assembly::specialized::more_special_outcome l = 40 * l.depth + 17

abbrev pub decreases-assembly::candidates::listed_outcome : goal.decreases-assembly::candidates::listed_outcome
decreases-assembly::candidates::listed_outcome l = 40 * l.depth + 15

abbrev pub decreases-assembly::candidates::consider_candidate : goal.decreases-assembly::candidates::consider_candidate
decreases-assembly::candidates::consider_candidate l = 40 * l.depth + 18

abbrev pub decreases-assembly::candidates::candidates_outcome : goal.decreases-assembly::candidates::candidates_outcome
decreases-assembly::candidates::candidates_outcome l = 40 * l.depth + 19

abbrev pub decreases-assembly::candidates::class_outcome : goal.decreases-assembly::candidates::class_outcome
decreases-assembly::candidates::class_outcome l = 40 * l.depth + 20

abbrev pub decreases-trait_goals::evaluation::decide_trait : goal.decreases-trait_goals::evaluation::decide_trait
decreases-trait_goals::evaluation::decide_trait l = 40 * l.depth + 21

abbrev pub decreases-effect_goals::evaluation::groups_outcome : goal.decreases-effect_goals::evaluation::groups_outcome
decreases-effect_goals::evaluation::groups_outcome l = 40 * l.depth + 21

abbrev pub decreases-trait_goals::evaluation::evaluate_trait_goal : goal.decreases-trait_goals::evaluation::evaluate_trait_goal
decreases-trait_goals::evaluation::evaluate_trait_goal l = 40 * l.depth + 0

abbrev pub decreases-effect_goals::evaluation::evaluate_host_effect_goal : goal.decreases-effect_goals::evaluation::evaluate_host_effect_goal
decreases-effect_goals::evaluation::evaluate_host_effect_goal l = 40 * l.depth + 0

abbrev pub decreases-normalizes_to::alias_terms::alias_term : goal.decreases-normalizes_to::alias_terms::alias_term
decreases-normalizes_to::alias_terms::alias_term l = 40 * l.depth + 0

abbrev pub decreases-normalizes_to::projection_candidates::candidate_term : goal.decreases-normalizes_to::projection_candidates::candidate_term
decreases-normalizes_to::projection_candidates::candidate_term l = 40 * l.depth + 15

abbrev pub decreases-normalizes_to::projection_candidates::consider_term : goal.decreases-normalizes_to::projection_candidates::consider_term
decreases-normalizes_to::projection_candidates::consider_term l = 40 * l.depth + 19

abbrev pub invariant-eval::lists::run_entries-loop-entry : goal.invariant-eval::lists::run_entries-loop-entry
invariant-eval::lists::run_entries-loop-entry l = record {
  kept : Keeps l.fn.terms l.terms;
  effects : AreSound l.setting l.terms l.effects;
  within : RunIn l.terms l.run;
  so_far : RunsSoFar l.setting l.depth l.fn.terms l.entries l.terms l.run l.entry-index;
}

abbrev pub invariant-assembly::specialized::impls_outcome-loop-i : goal.invariant-assembly::specialized::impls_outcome-loop-i
invariant-assembly::specialized::impls_outcome-loop-i l = record {
  kept : Keeps l.initial.terms l.terms;
  effects : AreSound l.setting l.terms l.effects;
  so_far : ImplsSoFar l.setting l.depth l.initial.terms l.args l.places l.i l.found;
}

abbrev pub invariant-assembly::candidates::candidates_outcome-loop-candidate : goal.invariant-assembly::candidates::candidates_outcome-loop-candidate
invariant-assembly::candidates::candidates_outcome-loop-candidate l = record {
  kept : Keeps l.fn.terms l.terms;
  effects : AreSound l.setting l.terms l.effects;
  so_far : AskedSoFar l.setting l.depth l.fn.terms l.asked l.candidates l.candidate-index l.found;
}

abbrev pub decreases-trait_goals::evaluation::fresh_trait_outcome : goal.decreases-trait_goals::evaluation::fresh_trait_outcome
decreases-trait_goals::evaluation::fresh_trait_outcome l = 40 * l.depth - 1

abbrev pub decreases-effect_goals::evaluation::fresh_host_effect_outcome : goal.decreases-effect_goals::evaluation::fresh_host_effect_outcome
decreases-effect_goals::evaluation::fresh_host_effect_outcome l = 40 * l.depth - 1

abbrev pub decreases-normalizes_to::alias_terms::fresh_alias_term : goal.decreases-normalizes_to::alias_terms::fresh_alias_term
decreases-normalizes_to::alias_terms::fresh_alias_term l = 40 * l.depth - 1
