use Rattle.std.proofs.Common.{None, Some, Err, ap, refl, sym, subst, ◌∙◌, ⊎_elim}
use Rattle.goal_kinds.specs.declared.faults.Fault.TheVariants as fault
use Rattle.goal_solver.specs.Answers.{level_over}
use Rattle.goal_eval.specs.Lists.{ListTermIn}
use Rattle.goal_solver.specs.RunRules.{setting_over, asked_of, asked_as, AreListed}
use Rattle.goal_eval.specs.declared.eval.lists.ListOutcome.TheVariants as list
use Rattle.goal_solver.proofs.RecordedLemmas.{listed-kept}
use Rattle.goal_solver.proofs.RuleAnswerLemmas.{held-sound, list-holds, rule-found-sound, rule-found-open, unfound-open, undecided-open, refuted-sound, says_list-as}
use Rattle.goal_solver.proofs.RuleEntryLemmas.{asked-nothing, asked-variable, asked-twice}
use Rattle.goal_solver.proofs.context.EvalCtxt.rule_response.Goals as goal

pub returns-then-has_variable-clause-listed : goal.returns-then-has_variable-clause-listed
returns-then-has_variable-clause-listed c = subst (λ es. AreListed es c.args.self.now c.run_open.new.self) c.deref-then-has_variable.ensures.value c.run_open.ensures.listed

pub returns-in-Nothing-default-clause-sound : goal.returns-in-Nothing-default-clause-sound
returns-in-Nothing-default-clause-sound c = λ m owed closed.
    held-sound (setting_over c.args.self.now m c.args.environment.now) (level_over c.args.self.now m c.args.environment.now) c.args.rule.now c.respond.result
    (list-holds (setting_over c.args.self.now m c.args.environment.now) (level_over c.args.self.now m c.args.environment.now) c.args.rule.now c.entries_outcome.new.self.terms c.in-Ok-Holds.found
    (says_list-as c.args.self.now.tables (level_over c.args.self.now m c.args.environment.now) c.deref-2.result.now c.args.rule.now.entries.items c.entries_outcome.new.self.terms c.in-Ok-Holds.field-0 (list.Holds c.in-Ok-Holds.found) c.deref-2.ensures.value c.in-Ok-Holds.field-0-is
    (c.in-Ok-Holds.ensures.says m owed)))
    (asked-nothing (asked_of c.args.rule.now.entries.items) (sym c.in-Nothing-default.is-0 ∙ c.asked_variable.ensures ∙ ap (λ es. asked_as (asked_of es)) c.deref-in-Ok-Holds.ensures.value)) c.respond.ensures.certainty c.respond.ensures.values

pub returns-in-Nothing-default-clause-listed : goal.returns-in-Nothing-default-clause-listed
returns-in-Nothing-default-clause-listed c = subst (λ es. AreListed es c.args.self.now c.entries_outcome.new.self) c.deref-2.ensures.value c.entries_outcome.ensures.listed

pub returns-in-Variable-Some-clause-sound : goal.returns-in-Variable-Some-clause-sound
returns-in-Variable-Some-clause-sound c = λ m owed closed.
    rule-found-sound (setting_over c.args.self.now m c.args.environment.now) (level_over c.args.self.now m c.args.environment.now) c.args.rule.now c.entries_outcome.new.self.terms c.in-Variable-Some.id c.in-Variable-Some.expected
    (subst (ListTermIn c.entries_outcome.new.self.terms) (c.in-Ok-Holds.field-0-is ∙ ap (λ o. list.Holds o) c.in-Variable-Some.is-1) c.in-Ok-Holds.ensures.within).0
    (says_list-as c.args.self.now.tables (level_over c.args.self.now m c.args.environment.now) c.deref-2.result.now c.args.rule.now.entries.items c.entries_outcome.new.self.terms c.in-Ok-Holds.field-0 (list.Holds (Some c.in-Variable-Some.id)) c.deref-2.ensures.value (c.in-Ok-Holds.field-0-is ∙ ap (λ o. list.Holds o) c.in-Variable-Some.is-1)
    (c.in-Ok-Holds.ensures.says m owed))
    (asked-variable (asked_of c.args.rule.now.entries.items) c.in-Variable-Some.expected (sym c.in-Variable-Some.is-0 ∙ c.asked_variable.ensures ∙ ap (λ es. asked_as (asked_of es)) c.deref-in-Ok-Holds.ensures.value)) c.respond_found.result
    (c.respond_found.ensures.yes, c.respond_found.ensures.maybe, c.respond_found.ensures.only_memory)

pub returns-in-Variable-Some-clause-decided : goal.returns-in-Variable-Some-clause-decided
returns-in-Variable-Some-clause-decided c = λ m owed closed once undecided.
    rule-found-open (setting_over c.args.self.now m c.args.environment.now) c.args.self.now.remaining_depth c.args.rule.now c.entries_outcome.new.self.terms c.in-Variable-Some.id c.in-Variable-Some.expected
    (subst (ListTermIn c.entries_outcome.new.self.terms) (c.in-Ok-Holds.field-0-is ∙ ap (λ o. list.Holds o) c.in-Variable-Some.is-1) c.in-Ok-Holds.ensures.within).0
    (says_list-as c.args.self.now.tables (level_over c.args.self.now m c.args.environment.now) c.deref-2.result.now c.args.rule.now.entries.items c.entries_outcome.new.self.terms c.in-Ok-Holds.field-0 (list.Holds (Some c.in-Variable-Some.id)) c.deref-2.ensures.value (c.in-Ok-Holds.field-0-is ∙ ap (λ o. list.Holds o) c.in-Variable-Some.is-1)
    (c.in-Ok-Holds.ensures.says m owed))
    (asked-variable (asked_of c.args.rule.now.entries.items) c.in-Variable-Some.expected (sym c.in-Variable-Some.is-0 ∙ c.asked_variable.ensures ∙ ap (λ es. asked_as (asked_of es)) c.deref-in-Ok-Holds.ensures.value)) c.respond_found.result
    (c.respond_found.ensures.yes, c.respond_found.ensures.maybe, c.respond_found.ensures.only_memory) undecided

pub returns-in-Variable-Some-clause-listed : goal.returns-in-Variable-Some-clause-listed
returns-in-Variable-Some-clause-listed c = subst (λ es. AreListed es c.args.self.now c.entries_outcome.new.self) c.deref-2.ensures.value c.entries_outcome.ensures.listed

pub returns-in_default-clause-decided : goal.returns-in_default-clause-decided
returns-in_default-clause-decided c = λ m owed closed once undecided.
    ⊎_elim
    (λ w. unfound-open (setting_over c.args.self.now m c.args.environment.now) c.args.self.now.remaining_depth c.args.rule.now c.entries_outcome.new.self.terms w.in_default.field-0-0
    (says_list-as c.args.self.now.tables (level_over c.args.self.now m c.args.environment.now) c.deref-2.result.now c.args.rule.now.entries.items c.entries_outcome.new.self.terms c.in-Ok-Holds.field-0 (list.Holds None) c.deref-2.ensures.value (c.in-Ok-Holds.field-0-is ∙ ap (λ o. list.Holds o) w.in_default.is-1)
    (c.in-Ok-Holds.ensures.says m owed))
    (asked-variable (asked_of c.args.rule.now.entries.items) w.in_default.field-0-0 (sym w.in_default.is-0 ∙ c.asked_variable.ensures ∙ ap (λ es. asked_as (asked_of es)) c.deref-in-Ok-Holds.ensures.value)))
    (λ w. absurd (asked-twice (asked_of c.args.rule.now.entries.items) (sym w.in_default.is-0 ∙ c.asked_variable.ensures ∙ ap (λ es. asked_as (asked_of es)) c.deref-in-Ok-Holds.ensures.value) once)) c.in_default.branch-raw

pub returns-in_default-clause-listed : goal.returns-in_default-clause-listed
returns-in_default-clause-listed c = subst (λ es. AreListed es c.args.self.now c.entries_outcome.new.self) c.deref-2.ensures.value c.entries_outcome.ensures.listed

pub returns-in-Ok-Refuted-clause-sound : goal.returns-in-Ok-Refuted-clause-sound
returns-in-Ok-Refuted-clause-sound c = λ m owed closed.
    refuted-sound (setting_over c.args.self.now m c.args.environment.now) (level_over c.args.self.now m c.args.environment.now) c.args.rule.now c.entries_outcome.new.self.terms (Err fault.NoSolution) refl
    (says_list-as c.args.self.now.tables (level_over c.args.self.now m c.args.environment.now) c.deref-2.result.now c.args.rule.now.entries.items c.entries_outcome.new.self.terms c.in-Ok-Refuted.field-0 list.Refuted c.deref-2.ensures.value c.in-Ok-Refuted.field-0-is
    (c.in-Ok-Refuted.ensures.says m owed))

pub returns-in-Ok-Refuted-clause-listed : goal.returns-in-Ok-Refuted-clause-listed
returns-in-Ok-Refuted-clause-listed c = subst (λ es. AreListed es c.args.self.now c.entries_outcome.new.self) c.deref-2.ensures.value c.entries_outcome.ensures.listed

pub returns-in-Ok-Undecided-clause-decided : goal.returns-in-Ok-Undecided-clause-decided
returns-in-Ok-Undecided-clause-decided c = λ m owed closed once undecided.
    undecided-open (setting_over c.args.self.now m c.args.environment.now) (level_over c.args.self.now m c.args.environment.now) c.args.rule.now c.entries_outcome.new.self.terms
    (says_list-as c.args.self.now.tables (level_over c.args.self.now m c.args.environment.now) c.deref-2.result.now c.args.rule.now.entries.items c.entries_outcome.new.self.terms c.in-Ok-Undecided.field-0 list.Undecided c.deref-2.ensures.value c.in-Ok-Undecided.field-0-is
    (c.in-Ok-Undecided.ensures.says m owed))

pub returns-in-Ok-Undecided-clause-listed : goal.returns-in-Ok-Undecided-clause-listed
returns-in-Ok-Undecided-clause-listed c = subst (λ es. AreListed es c.args.self.now c.entries_outcome.new.self) c.deref-2.ensures.value c.entries_outcome.ensures.listed

pub returns-in-Err-clause-listed : goal.returns-in-Err-clause-listed
returns-in-Err-clause-listed c = listed-kept c.args.self.now c.entries_outcome.new.self c.stopped.new.self c.args.rule.now.entries.items c.stopped.ensures.faults
    (subst (λ es. AreListed es c.args.self.now c.entries_outcome.new.self) c.deref-2.ensures.value c.entries_outcome.ensures.listed)
