use Rattle.std.proofs.Common.{refl, sym, ◌∙◌, ap, subst, suc}
use Rattle.goal_terms.specs.NodeTests.{general_variable_at}
use Rattle.goal_terms.specs.Tree.{node_of}
use Rattle.goal_lists.specs.Answers.{setting_of}
use Rattle.goal_lists.specs.Interned.{erased_at}
use Rattle.goal_lists.proofs.ConsistentLemmas.{each_level_is_consistent}
use Rattle.std.specs.Prelude.{Ok, length}
use Rattle.goal_eval.specs.ErasedArgs.{erased_args}
use Rattle.goal_solver.specs.Answers.{AnswersAside, level_over}
use Rattle.goal_solver.specs.State.{State, kinds_of}
use Rattle.goal_solver.proofs.ApplicableLemmas.{nothing-applies, nothing-applies-later, nothing-listed, fitting-applies, given-fits}
use Rattle.goal_solver.specs.Assembled.{level_through}
use Rattle.goal_eval.specs.Outcomes.{FoundIn, SaysWhich}
use Rattle.goal_solver.proofs.AnswerLemmas.{alias-unsure}
use Rattle.goal_solver.proofs.AssembledLemmas.{class-one, class-given, above-same}
use Rattle.goal_solver.proofs.FoundAnswers.{found-sound, found-open_of_one}
use Rattle.goal_solver.proofs.GoingBackLemmas.{goes_back-same}
use Rattle.goal_solver.proofs.PromiseLemmas.{found-lists, unsure-lists, maybe-lists, nothing-named, empty-maybe}
use Rattle.goal_solver.proofs.context.EvalCtxt.answer_through.Goals as goal

pub returns-in_default-clause-goes_back : goal.returns-in_default-clause-goes_back
returns-in_default-clause-goes_back c = goes_back-same c.args.self.now

pub returns-then-not-is_closed_alias-clause-goes_back : goal.returns-then-not-is_closed_alias-clause-goes_back
returns-then-not-is_closed_alias-clause-goes_back c = goes_back-same c.args.self.now

pub returns-in-Ok-Is-clause-goes_back : goal.returns-in-Ok-Is-clause-goes_back
returns-in-Ok-Is-clause-goes_back c = c.class_outcome.ensures.goes_back

pub returns-in-Ok-Refuted-clause-goes_back : goal.returns-in-Ok-Refuted-clause-goes_back
returns-in-Ok-Refuted-clause-goes_back c = c.class_outcome.ensures.goes_back

pub returns-in-Ok-Undecided-clause-goes_back : goal.returns-in-Ok-Undecided-clause-goes_back
returns-in-Ok-Undecided-clause-goes_back c = c.class_outcome.ensures.goes_back

pub returns-in-Ok-Is-clause-sound : goal.returns-in-Ok-Is-clause-sound
returns-in-Ok-Is-clause-sound c = λ m stands.
    found-sound (level_through (setting_of c.args.self.now.tables m c.args.environment.now) (level_over c.args.self.now m c.args.environment.now) c.args.class)
    c.args.asked.now.alias.kind (erased_args c.args.asked.now.alias.args.items) c.args.asked.now.term
    c.class_outcome.new.self.terms c.in-Ok-Is.id c.in-Some.expected
    (sym (c.in-Some.ensures ∙ ap general_variable_at (c.node.ensures ∙ ap node_of c.view.ensures)))
    (subst (FoundIn c.class_outcome.new.self.terms) c.in-Ok-Is.field-0-is c.in-Ok-Is.ensures.within).0
    (subst (SaysWhich ((level_through (setting_of c.args.self.now.tables m c.args.environment.now) (level_over c.args.self.now m c.args.environment.now) c.args.class).gives c.args.asked.now.alias.kind (erased_args c.args.asked.now.alias.args.items)) ((level_through (setting_of c.args.self.now.tables m c.args.environment.now) (level_over c.args.self.now m c.args.environment.now) c.args.class).gives_refuted c.args.asked.now.alias.kind (erased_args c.args.asked.now.alias.args.items)) c.class_outcome.new.self.terms) c.in-Ok-Is.field-0-is
    (c.in-Ok-Is.ensures.says m stands))
    c.respond_found.result (c.respond_found.ensures.yes, c.respond_found.ensures.maybe, c.respond_found.ensures.only_memory)

pub returns-in-Ok-Is-clause-decided : goal.returns-in-Ok-Is-clause-decided
returns-in-Ok-Is-clause-decided c = λ m n owed closed expected undecided.
    found-open_of_one (level_through (setting_of c.args.self.now.tables m c.args.environment.now) (level_over c.args.self.now m c.args.environment.now) c.args.class)
    c.args.asked.now.alias.kind (erased_args c.args.asked.now.alias.args.items)
    (class-one (setting_of c.args.self.now.tables m c.args.environment.now) (level_over c.args.self.now m c.args.environment.now) (each_level_is_consistent (setting_of c.args.self.now.tables m c.args.environment.now) c.args.self.now.remaining_depth) c.args.class c.args.asked.now.alias.kind (erased_args c.args.asked.now.alias.args.items))
    (class-given (setting_of c.args.self.now.tables m c.args.environment.now) (level_over c.args.self.now m c.args.environment.now) (each_level_is_consistent (setting_of c.args.self.now.tables m c.args.environment.now) c.args.self.now.remaining_depth) c.args.class c.args.asked.now.alias.kind (erased_args c.args.asked.now.alias.args.items))
    c.class_outcome.new.self.terms c.in-Ok-Is.id c.in-Some.expected
    (subst (FoundIn c.class_outcome.new.self.terms) c.in-Ok-Is.field-0-is c.in-Ok-Is.ensures.within).0
    (subst (SaysWhich ((level_through (setting_of c.args.self.now.tables m c.args.environment.now) (level_over c.args.self.now m c.args.environment.now) c.args.class).gives c.args.asked.now.alias.kind (erased_args c.args.asked.now.alias.args.items)) ((level_through (setting_of c.args.self.now.tables m c.args.environment.now) (level_over c.args.self.now m c.args.environment.now) c.args.class).gives_refuted c.args.asked.now.alias.kind (erased_args c.args.asked.now.alias.args.items)) c.class_outcome.new.self.terms) c.in-Ok-Is.field-0-is
    (c.in-Ok-Is.ensures.says m owed))
    c.respond_found.result (c.respond_found.ensures.yes, c.respond_found.ensures.maybe, c.respond_found.ensures.only_memory) undecided

pub returns-in_default-clause-applies : goal.returns-in_default-clause-applies
returns-in_default-clause-applies c = λ m s ok holds. nothing-applies c.args.self.now c.respond.result c.is_well_formed.ensures.storage c.respond.ensures.quiet c.respond.ensures.values

pub returns-then-not-is_closed_alias-clause-applies : goal.returns-then-not-is_closed_alias-clause-applies
returns-then-not-is_closed_alias-clause-applies c = λ m s ok holds.
    nothing-applies c.args.self.now c.respond-then-not-is_closed_alias.result c.is_well_formed.ensures.storage c.respond-then-not-is_closed_alias.ensures.quiet c.respond-then-not-is_closed_alias.ensures.values

pub returns-in-Ok-Undecided-clause-applies : goal.returns-in-Ok-Undecided-clause-applies
returns-in-Ok-Undecided-clause-applies c = λ m s ok holds.
    nothing-applies-later c.args.self.now c.class_outcome.new.self c.class_outcome.new.self (Ok c.respond-in-Ok-Undecided.result) c.class_outcome.ensures.unchanged refl
    c.is_well_formed.ensures.storage c.respond-in-Ok-Undecided.ensures.quiet c.respond-in-Ok-Undecided.ensures.values

pub returns-in-Err-clause-applies : goal.returns-in-Err-clause-applies
returns-in-Err-clause-applies c = λ m s ok holds.
    nothing-applies-later c.args.self.now c.class_outcome.new.self c.stopped.new.self c.stopped.result c.class_outcome.ensures.unchanged c.stopped.ensures.unchanged
    c.is_well_formed.ensures.storage c.stopped.ensures.quiet (nothing-listed c.stopped.result c.stopped.ensures.nothing)

pub returns-in-Ok-Is-clause-applies : goal.returns-in-Ok-Is-clause-applies
returns-in-Ok-Is-clause-applies c = λ m s ok holds.
    fitting-applies c.args.self.now c.class_outcome.new.self c.args.asked.now c.args.environment.now c.class_outcome.new.self.terms c.in-Ok-Is.id c.in-Some.expected c.respond_found.result
    c.class_outcome.ensures.unchanged c.is_well_formed.ensures.storage ok
    (subst (λ (s : State). AnswersAside (length (kinds_of s)) c.respond_found.result) c.class_outcome.ensures.unchanged c.respond_found.ensures.quiet)
    (subst (FoundIn c.class_outcome.new.self.terms) c.in-Ok-Is.field-0-is c.in-Ok-Is.ensures.within).0
    (given-fits c.args.self.now m (suc c.args.self.now.remaining_depth) c.args.asked.now c.args.environment.now c.class_outcome.new.self.terms c.in-Ok-Is.id c.is_well_formed.ensures.tables
    (sym c.is_closed_alias.ensures ∙ c.if-not-is_closed_alias.false) ok
    ((above-same (setting_of c.args.self.now.tables m c.args.environment.now) c.args.self.now.remaining_depth c.args.asked.now.alias.kind (erased_args c.args.asked.now.alias.args.items) c.args.class holds).0 (erased_at c.class_outcome.new.self.terms c.in-Ok-Is.id)
    (subst (SaysWhich ((level_through (setting_of c.args.self.now.tables m c.args.environment.now) (level_over c.args.self.now m c.args.environment.now) c.args.class).gives c.args.asked.now.alias.kind (erased_args c.args.asked.now.alias.args.items)) ((level_through (setting_of c.args.self.now.tables m c.args.environment.now) (level_over c.args.self.now m c.args.environment.now) c.args.class).gives_refuted c.args.asked.now.alias.kind (erased_args c.args.asked.now.alias.args.items)) c.class_outcome.new.self.terms) c.in-Ok-Is.field-0-is (c.in-Ok-Is.ensures.says m s))))
    (sym (c.in-Some.ensures ∙ ap general_variable_at (c.node.ensures ∙ ap node_of c.view.ensures)))
    c.respond_found.ensures.yes

pub returns-in-Err-clause-sound : goal.returns-in-Err-clause-sound
returns-in-Err-clause-sound c = λ m stands.
    alias-unsure (level_through (setting_of c.args.self.now.tables m c.args.environment.now) (level_over c.args.self.now m c.args.environment.now) c.args.class) c.args.asked.now.alias.kind (erased_args c.args.asked.now.alias.args.items) c.args.asked.now.term c.stopped.result c.stopped.ensures.unsure (λ e. absurd (c.stopped.ensures.never e))

pub returns-in-Err-clause-lists : goal.returns-in-Err-clause-lists
returns-in-Err-clause-lists c = empty-maybe c.stopped.result (nothing-listed c.stopped.result c.stopped.ensures.nothing)

pub returns-in-Err-clause-no_class : goal.returns-in-Err-clause-no_class
returns-in-Err-clause-no_class c = nothing-named c.stopped.result c.stopped.ensures.nothing

pub returns-in-Ok-Refuted-clause-sound : goal.returns-in-Ok-Refuted-clause-sound
returns-in-Ok-Refuted-clause-sound c = λ m owed.
    subst (SaysWhich ((level_through (setting_of c.args.self.now.tables m c.args.environment.now) (level_over c.args.self.now m c.args.environment.now) c.args.class).gives c.args.asked.now.alias.kind (erased_args c.args.asked.now.alias.args.items)) ((level_through (setting_of c.args.self.now.tables m c.args.environment.now) (level_over c.args.self.now m c.args.environment.now) c.args.class).gives_refuted c.args.asked.now.alias.kind (erased_args c.args.asked.now.alias.args.items)) c.class_outcome.new.self.terms) c.in-Ok-Refuted.field-0-is
    (c.in-Ok-Refuted.ensures.says m owed)

pub returns-in-Ok-Is-clause-gives : goal.returns-in-Ok-Is-clause-gives
returns-in-Ok-Is-clause-gives c =
    found-lists c.args.asked.now.term c.in-Some.expected c.respond_found.result
    (sym (c.in-Some.ensures ∙ ap general_variable_at (c.node.ensures ∙ ap node_of c.view.ensures))) c.respond_found.ensures.gives

pub returns-in-Err-clause-gives : goal.returns-in-Err-clause-gives
returns-in-Err-clause-gives c = unsure-lists c.args.asked.now.term c.stopped.result c.stopped.ensures.unsure

pub returns-in_default-clause-gives : goal.returns-in_default-clause-gives
returns-in_default-clause-gives c = maybe-lists c.args.asked.now.term c.respond.result c.respond.ensures.certainty

pub returns-then-not-is_closed_alias-clause-gives : goal.returns-then-not-is_closed_alias-clause-gives
returns-then-not-is_closed_alias-clause-gives c = maybe-lists c.args.asked.now.term c.respond-then-not-is_closed_alias.result c.respond-then-not-is_closed_alias.ensures.certainty

pub returns-in-Ok-Undecided-clause-gives : goal.returns-in-Ok-Undecided-clause-gives
returns-in-Ok-Undecided-clause-gives c = maybe-lists c.args.asked.now.term c.respond-in-Ok-Undecided.result c.respond-in-Ok-Undecided.ensures.certainty
