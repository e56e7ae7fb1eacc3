use Rattle.std.proofs.Common.{◌+◌, ◌*◌, ◌≡◌, ◌≤◌, ◌++◌, length, drop, take}
use Rattle.goal_solver.specs.Accesses.{RecordsCausedFaults}
use Rattle.goal_solver.specs.AddedGoals.{AllTakeAt, AreSplit, AreAnswerableAt, AreClosedAt, IsGoneOver, LeavesUndecided, WhereAnswerableAt}
use Rattle.goal_solver.specs.GoingBack.{BeginsWith, GoesBack, restored}
use Rattle.goal_solver.specs.Relating.{ChangesRecords}
use Rattle.goal_solver.specs.OpenRuns.{RunsThrough, open_progress, open_start}
use Rattle.goal_solver.specs.RunRules.{AreListed, AreRecorded}
use Rattle.goal_solver.specs.Binding.{IsApplicable}
use Rattle.goal_solver.specs.OpenHeaders.{Opens, trees_at}
use Rattle.goal_terms.specs.View.{trees_seen}
use Rattle.goal_lists.specs.Interned.{AreIn}
use Rattle.goal_solver.specs.MergedRules.{MergesRules, IfAnswered}
use Rattle.goal_solver.specs.MoreSpecial.{AsksEach}
use Rattle.goal_terms.specs.declared.answers.Certainty.TheVariants as certainty
use Rattle.goal_solver.proofs.context.EvalCtxt.+open.Given as goal

abbrev pub decreases-merge_below : goal.decreases-merge_below
decreases-merge_below l = 40 * l.self.now.remaining_depth + 0

abbrev pub decreases-project_below : goal.decreases-project_below
decreases-project_below l = 40 * l.self.now.remaining_depth + 0

abbrev pub decreases-hold_const_below : goal.decreases-hold_const_below
decreases-hold_const_below l = 40 * l.self.now.remaining_depth + 0

abbrev pub decreases-trait_goal_response : goal.decreases-trait_goal_response
decreases-trait_goal_response l = 40 * l.self.now.remaining_depth + 1

abbrev pub decreases-answer_below : goal.decreases-answer_below
decreases-answer_below l = 40 * l.self.now.remaining_depth + 1

abbrev pub decreases-apply_below : goal.decreases-apply_below
decreases-apply_below l = 40 * l.self.now.remaining_depth + 2

abbrev pub decreases-found_form : goal.decreases-found_form
decreases-found_form l = 40 * l.self.now.remaining_depth + 1

abbrev pub decreases-evaluate_once : goal.decreases-evaluate_once
decreases-evaluate_once l = 40 * l.self.now.remaining_depth + 3

abbrev pub decreases-evaluate_open : goal.decreases-evaluate_open
decreases-evaluate_open l = 40 * l.self.now.remaining_depth + 4

abbrev pub decreases-form_of_open : goal.decreases-form_of_open
decreases-form_of_open l = 40 * l.self.now.remaining_depth + 2

abbrev pub decreases-form_number : goal.decreases-form_number
decreases-form_number l = 40 * l.self.now.remaining_depth + 3

abbrev pub decreases-form_once : goal.decreases-form_once
decreases-form_once l = 40 * l.self.now.remaining_depth + 4

abbrev pub decreases-expected_form : goal.decreases-expected_form
decreases-expected_form l = 40 * l.self.now.remaining_depth + 5

abbrev pub decreases-evaluate_open_alias : goal.decreases-evaluate_open_alias
decreases-evaluate_open_alias l = 40 * l.self.now.remaining_depth + 6

abbrev pub decreases-evaluate_alias_or_other : goal.decreases-evaluate_alias_or_other
decreases-evaluate_alias_or_other l = 40 * l.self.now.remaining_depth + 7

abbrev pub decreases-evaluate_goal : goal.decreases-evaluate_goal
decreases-evaluate_goal l = 40 * l.self.now.remaining_depth + 8

abbrev pub decreases-evaluate_round : goal.decreases-evaluate_round
decreases-evaluate_round l = 40 * l.self.now.remaining_depth + 9

abbrev pub decreases-evaluate_rounds : goal.decreases-evaluate_rounds
decreases-evaluate_rounds l = 40 * l.self.now.remaining_depth + 10

abbrev pub decreases-evaluate_added_goals : goal.decreases-evaluate_added_goals
decreases-evaluate_added_goals l = 40 * l.self.now.remaining_depth + 11

abbrev pub decreases-try_evaluate_added_goals : goal.decreases-try_evaluate_added_goals
decreases-try_evaluate_added_goals l = 40 * l.self.now.remaining_depth + 12

abbrev pub decreases-evaluate_added_goals_and_make_canonical_response : goal.decreases-evaluate_added_goals_and_make_canonical_response
decreases-evaluate_added_goals_and_make_canonical_response l = 40 * l.self.now.remaining_depth + 13

abbrev pub decreases-evaluate_pending : goal.decreases-evaluate_pending
decreases-evaluate_pending l = 40 * l.self.now.remaining_depth + 14

abbrev pub decreases-step_or_evaluate : goal.decreases-step_or_evaluate
decreases-step_or_evaluate l = 40 * l.self.now.remaining_depth + 15

abbrev pub decreases-ask_goal : goal.decreases-ask_goal
decreases-ask_goal l = 40 * l.self.now.remaining_depth + 9

abbrev pub decreases-ask_alone : goal.decreases-ask_alone
decreases-ask_alone l = 40 * l.self.now.remaining_depth + 10

abbrev pub decreases-give_chosen : goal.decreases-give_chosen
decreases-give_chosen l = 40 * l.self.now.remaining_depth + 11

abbrev pub decreases-give_term : goal.decreases-give_term
decreases-give_term l = 40 * l.self.now.remaining_depth + 12

abbrev pub decreases-run_through : goal.decreases-run_through
decreases-run_through l = 40 * l.self.now.remaining_depth + 16

abbrev pub decreases-answer_open : goal.decreases-answer_open
decreases-answer_open l = 40 * l.self.now.remaining_depth + 17

abbrev pub decreases-run_open : goal.decreases-run_open
decreases-run_open l = 40 * l.self.now.remaining_depth + 18

abbrev pub decreases-run_alone : goal.decreases-run_alone
decreases-run_alone l = 40 * l.self.now.remaining_depth + 19

abbrev pub decreases-impl_outcome : goal.decreases-impl_outcome
decreases-impl_outcome l = 40 * l.self.now.remaining_depth + 20

abbrev pub decreases-more_special_outcome : goal.decreases-more_special_outcome
decreases-more_special_outcome l = 40 * l.self.now.remaining_depth + 21

abbrev pub decreases-run_beside : goal.decreases-run_beside
decreases-run_beside l = 40 * l.self.now.remaining_depth + 22

abbrev pub decreases-rigid : goal.decreases-rigid
decreases-rigid l = 40 * l.self.now.remaining_depth + 19

abbrev pub decreases-run_alias_rule : goal.decreases-run_alias_rule
decreases-run_alias_rule l = 40 * l.self.now.remaining_depth + 19

abbrev pub decreases-merge_next : goal.decreases-merge_next
decreases-merge_next l = 40 * l.self.now.remaining_depth + 23

abbrev pub decreases-merge_rules : goal.decreases-merge_rules
decreases-merge_rules l = 40 * l.self.now.remaining_depth + 24

abbrev pub decreases-class_answer : goal.decreases-class_answer
decreases-class_answer l = 40 * l.self.now.remaining_depth + 25

abbrev pub decreases-group_answer : goal.decreases-group_answer
decreases-group_answer l = 40 * l.self.now.remaining_depth + 25

abbrev pub decreases-merge_classes : goal.decreases-merge_classes
decreases-merge_classes l = 40 * l.self.now.remaining_depth + 26

abbrev pub decreases-merge_const_groups : goal.decreases-merge_const_groups
decreases-merge_const_groups l = 40 * l.self.now.remaining_depth + 26

abbrev pub decreases-merge_trait : goal.decreases-merge_trait
decreases-merge_trait l = 40 * l.self.now.remaining_depth + 32

abbrev pub decreases-merge_const_through : goal.decreases-merge_const_through
decreases-merge_const_through l = 40 * l.self.now.remaining_depth + 32

abbrev pub decreases-hold_const : goal.decreases-hold_const
decreases-hold_const l = 40 * l.self.now.remaining_depth + 33

abbrev pub decreases-merge_bounds : goal.decreases-merge_bounds
decreases-merge_bounds l = 40 * l.self.now.remaining_depth + 25

abbrev pub decreases-merge_rest : goal.decreases-merge_rest
decreases-merge_rest l = 40 * l.self.now.remaining_depth + 25

abbrev pub decreases-merge_later : goal.decreases-merge_later
decreases-merge_later l = 40 * l.self.now.remaining_depth + 26

abbrev pub decreases-merge_groups : goal.decreases-merge_groups
decreases-merge_groups l = 40 * l.self.now.remaining_depth + 27

abbrev pub decreases-merge_alias : goal.decreases-merge_alias
decreases-merge_alias l = 40 * l.self.now.remaining_depth + 32

abbrev pub decreases-project : goal.decreases-project
decreases-project l = 40 * l.self.now.remaining_depth + 33

abbrev pub invariant-evaluate_round-loop-i : goal.invariant-evaluate_round-loop-i
invariant-evaluate_round-loop-i l = record {
  says : WhereAnswerableAt l.fn.self l.self l.goals l.places (λ m. LeavesUndecided l.fn.self m l.goals l.places (drop l.i l.places) l.left.items);
  gives : WhereAnswerableAt l.fn.self l.self l.goals l.places (λ m. AllTakeAt l.fn.self m l.goals l.places (l.left.items ++ drop l.i l.places) l.self);
  waits : WhereAnswerableAt l.fn.self l.self l.goals l.places (λ m. AreAnswerableAt l.self l.goals (l.left.items ++ drop l.i l.places));
  closed : AreClosedAt l.goals l.places → l.self.inference ≡ l.fn.self.inference;
  split : AreSplit (length l.goals) l.taken.items (l.left.items ++ drop l.i l.places);
  taken : BeginsWith l.taken.items l.fn.taken.items;
  alone : ChangesRecords l.fn.self l.self;
  faults : RecordsCausedFaults l.fn.self l.self;
  goes_back : GoesBack l.fn.self l.self;
}

abbrev pub invariant-evaluate_rounds-loop-round : goal.invariant-evaluate_rounds-loop-round
invariant-evaluate_rounds-loop-round l = record {
  first : AreClosedAt l.goals l.fn.places.items → (l.round ≡ 0) × (l.pending.items ≡ l.fn.places.items) × (l.self ≡ l.fn.self);
  over : WhereAnswerableAt l.fn.self l.self l.goals l.fn.places.items (λ m. IsGoneOver l.fn.self m l.goals l.fn.places.items l.pending.items l.round);
  gives : WhereAnswerableAt l.fn.self l.self l.goals l.fn.places.items (λ m. AllTakeAt l.fn.self m l.goals l.fn.places.items l.pending.items l.self);
  waits : WhereAnswerableAt l.fn.self l.self l.goals l.fn.places.items (λ m. AreAnswerableAt l.self l.goals l.pending.items);
  split : AreSplit (length l.goals) l.taken.items l.pending.items;
  taken : BeginsWith l.taken.items l.fn.taken.items;
  alone : ChangesRecords l.fn.self l.self;
  faults : RecordsCausedFaults l.fn.self l.self;
  goes_back : GoesBack l.fn.self l.self;
}

abbrev pub invariant-run_through-loop-entry : goal.invariant-run_through-loop-entry
invariant-run_through-loop-entry l = record {
  through : RunsThrough l.environment (take l.entry-index l.entries) l.fn.self open_start l.self (open_progress l.run);
  recorded : l.run.certainty ≡ certainty.Yes → AreRecorded l.self (take l.entry-index l.entries);
  listed : AreListed l.entries l.fn.self l.self;
  back : GoesBack l.fn.self l.self;
}

abbrev pub invariant-merge_rules-loop-rule : goal.invariant-merge_rules-loop-rule
invariant-merge_rules-loop-rule l = record {
  merges : MergesRules l.environment (take l.rule-index l.rules) l.fn.self l.merged l.self;
  applies : IfAnswered l.merged (IsApplicable l.self);
  unchanged : l.self ≡ restored l.fn.self l.self;
  back : GoesBack l.fn.self l.self;
}

abbrev pub invariant-more_special_outcome-loop-i : goal.invariant-more_special_outcome-loop-i
invariant-more_special_outcome-loop-i l = record {
  asks : AsksEach l.rows l.environment l.matched.args.now (take l.i l.places) l.fn.self l.found l.self;
  unchanged : l.self ≡ restored l.fn.self l.self;
  back : GoesBack l.fn.self l.self;
}

abbrev pub decreases-merge_formed : goal.decreases-merge_formed
decreases-merge_formed l = 40 * l.self.now.remaining_depth + 28

abbrev pub decreases-answer_opened : goal.decreases-answer_opened
decreases-answer_opened l = 40 * l.self.now.remaining_depth + 29

abbrev pub decreases-merge_opened : goal.decreases-merge_opened
decreases-merge_opened l = 40 * l.self.now.remaining_depth + 30

abbrev pub decreases-merge_open : goal.decreases-merge_open
decreases-merge_open l = 40 * l.self.now.remaining_depth + 31

abbrev pub decreases-form_below : goal.decreases-form_below
decreases-form_below l = 40 * l.self.now.remaining_depth + 6

abbrev pub decreases-open_level : goal.decreases-open_level
decreases-open_level l = 40 * l.self.now.remaining_depth + 8

abbrev pub decreases-opened_terms : goal.decreases-opened_terms
decreases-opened_terms l = 40 * l.self.now.remaining_depth + 9

abbrev pub decreases-name_arguments : goal.decreases-name_arguments
decreases-name_arguments l = 40 * l.self.now.remaining_depth + 11

abbrev pub invariant-open_level-loop-i : goal.invariant-open_level-loop-i
invariant-open_level-loop-i l = record {
  opens : Opens l.environment (trees_seen l.terms) (trees_at l.fn.self.terms l.fn.opened.ids.items) l.fn.self (trees_at l.self.terms l.opened.ids.items) l.self;
  within : AreIn l.self.terms l.opened.ids.items;
  faults : RecordsCausedFaults l.fn.self l.self;
  back : GoesBack l.fn.self l.self;
}

abbrev pub invariant-opened_terms-loop-level : goal.invariant-opened_terms-loop-level
invariant-opened_terms-loop-level l = record {
  opens : Opens l.environment (trees_seen l.terms) (trees_at l.fn.self.terms l.fn.given.items) l.fn.self (trees_at l.self.terms l.opened.ids.items) l.self;
  last : l.last ≤ l.fn.self.remaining_depth;
  within : AreIn l.self.terms l.opened.ids.items;
  faults : RecordsCausedFaults l.fn.self l.self;
  back : GoesBack l.fn.self l.self;
}
