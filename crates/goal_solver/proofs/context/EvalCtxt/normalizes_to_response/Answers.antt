use Rattle.std.proofs.Common.{arith, sym, ◌∙◌, ap, subst, true≢false, inl, refl}
use Rattle.goal_terms.specs.NodeTests.{general_variable_at}
use Rattle.goal_terms.specs.Tree.{node_of}
use Rattle.goal_lists.specs.Answers.{setting_of, IsAnswer}
use Rattle.goal_eval.specs.Outcomes.{FoundIn, SaysWhich}
use Rattle.goal_eval.specs.ErasedArgs.{erased_args}
use Rattle.goal_solver.specs.Answers.{level_over, AnswersAside, is_closed_alias, expected_variable}
use Rattle.goal_solver.proofs.RerunLemmas.{ambiguous-answer, ambiguous-open}
use Rattle.goal_solver.proofs.AnswerLemmas.{alias-unsure, alias_open-ground}
use Rattle.goal_solver.proofs.FoundAnswers.{found-sound, found-open}
use Rattle.goal_lists.proofs.ConsistentLemmas.{each_level_is_consistent}
use Rattle.goal_solver.proofs.GoingBackLemmas.{goes_back-same}
use Rattle.std.specs.Prelude.{Ok, length}
use Rattle.goal_solver.specs.State.{State, kinds_of}
use Rattle.goal_solver.proofs.ApplicableLemmas.{nothing-applies, nothing-applies-later, nothing-listed, accepted-open, fitting-applies, given-fits}
use Rattle.goal_solver.proofs.PromiseLemmas.{found-lists, unsure-lists, maybe-lists, leaves-undecided, not-at_once, nothing-named, empty-maybe}
use Rattle.goal_solver.proofs.AmbiguousLemmas.{merged-never}
use Rattle.goal_solver.proofs.AccessLemmas.{none-recorded, recorded-stopped}
use Rattle.goal_solver.proofs.EvaluationLemmas.{says-under}
use Rattle.goal_solver.proofs.context.EvalCtxt.normalizes_to_response.Goals as goal

pub returns-in_default-clause-goes_back : goal.returns-in_default-clause-goes_back
returns-in_default-clause-goes_back c = goes_back-same c.args.self.now

pub returns-then-remaining_depth-eq0-clause-decided : goal.returns-then-remaining_depth-eq0-clause-decided
returns-then-remaining_depth-eq0-clause-decided c = λ m n owed closed expected undecided.
    alias_open-ground (setting_of c.args.self.now.tables m c.args.goal.now.param_env.items) c.args.self.now.remaining_depth (omega (arith, c.remaining_depth.ensures, c.if-remaining_depth-eq0.true))
    c.args.goal.now.predicate.alias.kind (erased_args c.args.goal.now.predicate.alias.args.items)

pub returns-then-remaining_depth-eq0-clause-goes_back : goal.returns-then-remaining_depth-eq0-clause-goes_back
returns-then-remaining_depth-eq0-clause-goes_back c = goes_back-same c.args.self.now

pub returns-then-not-is_closed_alias-clause-goes_back : goal.returns-then-not-is_closed_alias-clause-goes_back
returns-then-not-is_closed_alias-clause-goes_back c = c.project_below.ensures.goes_back

pub returns-in-Ok-Is-clause-goes_back : goal.returns-in-Ok-Is-clause-goes_back
returns-in-Ok-Is-clause-goes_back c = c.alias_outcome.ensures.goes_back

pub returns-in-Ok-Refuted-clause-goes_back : goal.returns-in-Ok-Refuted-clause-goes_back
returns-in-Ok-Refuted-clause-goes_back c = c.alias_outcome.ensures.goes_back

pub returns-in-Ok-Undecided-clause-goes_back : goal.returns-in-Ok-Undecided-clause-goes_back
returns-in-Ok-Undecided-clause-goes_back c = c.alias_outcome.ensures.goes_back

pub returns-in-Ok-Is-clause-sound : goal.returns-in-Ok-Is-clause-sound
returns-in-Ok-Is-clause-sound c = λ m stands closed.
    found-sound (level_over c.args.self.now m c.args.goal.now.param_env.items)
    c.args.goal.now.predicate.alias.kind (erased_args c.args.goal.now.predicate.alias.args.items) c.args.goal.now.predicate.term
    c.alias_outcome.new.self.terms c.in-Ok-Is.id c.in-Some.expected
    (sym (c.in-Some.ensures ∙ ap general_variable_at (c.node.ensures ∙ ap node_of c.view.ensures)))
    (subst (FoundIn c.alias_outcome.new.self.terms) c.in-Ok-Is.field-0-is c.in-Ok-Is.ensures.within).0
    (subst (SaysWhich ((level_over c.args.self.now m c.args.goal.now.param_env.items).gives c.args.goal.now.predicate.alias.kind (erased_args c.args.goal.now.predicate.alias.args.items)) ((level_over c.args.self.now m c.args.goal.now.param_env.items).gives_refuted c.args.goal.now.predicate.alias.kind (erased_args c.args.goal.now.predicate.alias.args.items)) c.alias_outcome.new.self.terms) c.in-Ok-Is.field-0-is
    (says-under c.args.self.now m _ _ _ _ _ _ c.deref-2.ensures.value (c.in-Ok-Is.ensures.says m stands)))
    c.respond_found.result (c.respond_found.ensures.yes, c.respond_found.ensures.maybe, c.respond_found.ensures.only_memory)

pub returns-in-Ok-Is-clause-decided : goal.returns-in-Ok-Is-clause-decided
returns-in-Ok-Is-clause-decided c = λ m n owed closed expected undecided.
    found-open (level_over c.args.self.now m c.args.goal.now.param_env.items)
    (each_level_is_consistent (setting_of c.args.self.now.tables m c.args.goal.now.param_env.items) c.args.self.now.remaining_depth)
    c.args.goal.now.predicate.alias.kind (erased_args c.args.goal.now.predicate.alias.args.items)
    c.alias_outcome.new.self.terms c.in-Ok-Is.id c.in-Some.expected
    (subst (FoundIn c.alias_outcome.new.self.terms) c.in-Ok-Is.field-0-is c.in-Ok-Is.ensures.within).0
    (subst (SaysWhich ((level_over c.args.self.now m c.args.goal.now.param_env.items).gives c.args.goal.now.predicate.alias.kind (erased_args c.args.goal.now.predicate.alias.args.items)) ((level_over c.args.self.now m c.args.goal.now.param_env.items).gives_refuted c.args.goal.now.predicate.alias.kind (erased_args c.args.goal.now.predicate.alias.args.items)) c.alias_outcome.new.self.terms) c.in-Ok-Is.field-0-is
    (says-under c.args.self.now m _ _ _ _ _ _ c.deref-2.ensures.value (c.in-Ok-Is.ensures.says m owed)))
    c.respond_found.result (c.respond_found.ensures.yes, c.respond_found.ensures.maybe, c.respond_found.ensures.only_memory) undecided

pub returns-in_default-clause-applies : goal.returns-in_default-clause-applies
returns-in_default-clause-applies c = λ ok. nothing-applies c.args.self.now c.respond.result c.is_well_formed.ensures.storage c.respond.ensures.quiet c.respond.ensures.values

pub returns-then-remaining_depth-eq0-clause-applies : goal.returns-then-remaining_depth-eq0-clause-applies
returns-then-remaining_depth-eq0-clause-applies c = λ ok.
    nothing-applies c.args.self.now c.respond-then-remaining_depth-eq0.result c.is_well_formed.ensures.storage c.respond-then-remaining_depth-eq0.ensures.quiet c.respond-then-remaining_depth-eq0.ensures.values

pub returns-then-not-is_closed_alias-clause-applies : goal.returns-then-not-is_closed_alias-clause-applies
returns-then-not-is_closed_alias-clause-applies c = λ ok. c.project_below.ensures.applies

pub returns-in-Ok-Undecided-clause-applies : goal.returns-in-Ok-Undecided-clause-applies
returns-in-Ok-Undecided-clause-applies c = λ ok.
    nothing-applies-later c.args.self.now c.alias_outcome.new.self c.alias_outcome.new.self (Ok c.respond-in-Ok-Undecided.result) c.alias_outcome.ensures.unchanged refl
    c.is_well_formed.ensures.storage c.respond-in-Ok-Undecided.ensures.quiet c.respond-in-Ok-Undecided.ensures.values

pub returns-in-Err-clause-applies : goal.returns-in-Err-clause-applies
returns-in-Err-clause-applies c = λ ok.
    nothing-applies-later c.args.self.now c.alias_outcome.new.self c.stopped.new.self c.stopped.result c.alias_outcome.ensures.unchanged c.stopped.ensures.unchanged
    c.is_well_formed.ensures.storage c.stopped.ensures.quiet (nothing-listed c.stopped.result c.stopped.ensures.nothing)

pub returns-then-remaining_depth-eq0-clause-whole : goal.returns-then-remaining_depth-eq0-clause-whole
returns-then-remaining_depth-eq0-clause-whole c = λ m n owed ok closed expected undecided.
    accepted-open c.args.self.now m c.args.self.now.remaining_depth c.args.goal.now.predicate c.args.goal.now.param_env.items c.is_well_formed.ensures.tables ok
    (returns-then-remaining_depth-eq0-clause-decided c m n owed closed expected undecided)

pub returns-in-Ok-Is-clause-whole : goal.returns-in-Ok-Is-clause-whole
returns-in-Ok-Is-clause-whole c = λ m n owed ok closed expected undecided.
    accepted-open c.args.self.now m c.args.self.now.remaining_depth c.args.goal.now.predicate c.args.goal.now.param_env.items c.is_well_formed.ensures.tables ok
    (returns-in-Ok-Is-clause-decided c m n owed closed expected undecided)

pub returns-in-Ok-Undecided-clause-whole : goal.returns-in-Ok-Undecided-clause-whole
unfolding IsAnswer
returns-in-Ok-Undecided-clause-whole c = λ m n owed ok closed expected undecided.
    subst (SaysWhich ((level_over c.args.self.now m c.args.goal.now.param_env.items).gives c.args.goal.now.predicate.alias.kind (erased_args c.args.goal.now.predicate.alias.args.items)) ((level_over c.args.self.now m c.args.goal.now.param_env.items).gives_refuted c.args.goal.now.predicate.alias.kind (erased_args c.args.goal.now.predicate.alias.args.items)) c.alias_outcome.new.self.terms) c.in-Ok-Undecided.field-0-is
    (says-under c.args.self.now m _ _ _ _ _ _ c.deref-2.ensures.value (c.in-Ok-Undecided.ensures.says m owed))

pub returns-in-Ok-Is-clause-applies : goal.returns-in-Ok-Is-clause-applies
returns-in-Ok-Is-clause-applies c = λ ok.
    fitting-applies c.args.self.now c.alias_outcome.new.self c.args.goal.now.predicate c.args.goal.now.param_env.items c.alias_outcome.new.self.terms c.in-Ok-Is.id c.in-Some.expected c.respond_found.result
    c.alias_outcome.ensures.unchanged c.is_well_formed.ensures.storage ok
    (subst (λ (s : State). AnswersAside (length (kinds_of s)) c.respond_found.result) c.alias_outcome.ensures.unchanged c.respond_found.ensures.quiet)
    (subst (FoundIn c.alias_outcome.new.self.terms) c.in-Ok-Is.field-0-is c.in-Ok-Is.ensures.within).0
    (given-fits c.args.self.now c.alias_outcome.new.self.typing_mode c.args.self.now.remaining_depth c.args.goal.now.predicate c.args.goal.now.param_env.items c.alias_outcome.new.self.terms c.in-Ok-Is.id c.is_well_formed.ensures.tables
    (sym (c.is_closed_alias.ensures ∙ ap (is_closed_alias c.args.goal.now.predicate.alias) c.deref.ensures.value) ∙ c.if-not-is_closed_alias.false) ok
    (subst (SaysWhich ((level_over c.args.self.now c.alias_outcome.new.self.typing_mode c.args.goal.now.param_env.items).gives c.args.goal.now.predicate.alias.kind (erased_args c.args.goal.now.predicate.alias.args.items)) ((level_over c.args.self.now c.alias_outcome.new.self.typing_mode c.args.goal.now.param_env.items).gives_refuted c.args.goal.now.predicate.alias.kind (erased_args c.args.goal.now.predicate.alias.args.items)) c.alias_outcome.new.self.terms) c.in-Ok-Is.field-0-is
    (says-under c.args.self.now c.alias_outcome.new.self.typing_mode _ _ _ _ _ _ c.deref-2.ensures.value (c.in-Ok-Is.ensures.says c.alias_outcome.new.self.typing_mode (inl refl)))))
    (sym (c.in-Some.ensures ∙ ap general_variable_at (c.node.ensures ∙ ap node_of c.view.ensures)))
    c.respond_found.ensures.yes

pub returns-in-Err-clause-sound : goal.returns-in-Err-clause-sound
returns-in-Err-clause-sound c = λ m stands closed.
    alias-unsure (level_over c.args.self.now m c.args.goal.now.param_env.items) c.args.goal.now.predicate.alias.kind (erased_args c.args.goal.now.predicate.alias.args.items) c.args.goal.now.predicate.term c.stopped.result c.stopped.ensures.unsure (λ e. absurd (c.stopped.ensures.never e))

pub returns-in_default-clause-at_once : goal.returns-in_default-clause-at_once
returns-in_default-clause-at_once c = λ h.
    leaves-undecided c.args.self.now c.respond.result c.respond.ensures.certainty c.respond.ensures.proven_via c.respond.ensures.values c.respond.ensures.quiet

pub returns-then-remaining_depth-eq0-clause-at_once : goal.returns-then-remaining_depth-eq0-clause-at_once
returns-then-remaining_depth-eq0-clause-at_once c = λ h.
    leaves-undecided c.args.self.now c.respond-then-remaining_depth-eq0.result c.respond-then-remaining_depth-eq0.ensures.certainty c.respond-then-remaining_depth-eq0.ensures.proven_via
    c.respond-then-remaining_depth-eq0.ensures.values c.respond-then-remaining_depth-eq0.ensures.quiet

pub returns-then-not-is_closed_alias-clause-at_once : goal.returns-then-not-is_closed_alias-clause-at_once
returns-then-not-is_closed_alias-clause-at_once c = λ h.
    absurd (not-at_once c.args.self.now.remaining_depth (expected_variable c.args.goal.now.predicate.term) c.in-Some.expected (λ z. omega (arith, c.remaining_depth.ensures, c.if-remaining_depth-eq0.false))
    (sym (c.in-Some.ensures ∙ ap general_variable_at (c.node.ensures ∙ ap node_of c.view.ensures))) h)

pub returns-in-Ok-Is-clause-at_once : goal.returns-in-Ok-Is-clause-at_once
returns-in-Ok-Is-clause-at_once c = λ h.
    absurd (not-at_once c.args.self.now.remaining_depth (expected_variable c.args.goal.now.predicate.term) c.in-Some.expected (λ z. omega (arith, c.remaining_depth.ensures, c.if-remaining_depth-eq0.false))
    (sym (c.in-Some.ensures ∙ ap general_variable_at (c.node.ensures ∙ ap node_of c.view.ensures))) h)

pub returns-in-Ok-Undecided-clause-at_once : goal.returns-in-Ok-Undecided-clause-at_once
returns-in-Ok-Undecided-clause-at_once c = λ h.
    absurd (not-at_once c.args.self.now.remaining_depth (expected_variable c.args.goal.now.predicate.term) c.in-Some.expected (λ z. omega (arith, c.remaining_depth.ensures, c.if-remaining_depth-eq0.false))
    (sym (c.in-Some.ensures ∙ ap general_variable_at (c.node.ensures ∙ ap node_of c.view.ensures))) h)

pub returns-in-Err-clause-at_once : goal.returns-in-Err-clause-at_once
returns-in-Err-clause-at_once c = λ h.
    absurd (not-at_once c.args.self.now.remaining_depth (expected_variable c.args.goal.now.predicate.term) c.in-Some.expected (λ z. omega (arith, c.remaining_depth.ensures, c.if-remaining_depth-eq0.false))
    (sym (c.in-Some.ensures ∙ ap general_variable_at (c.node.ensures ∙ ap node_of c.view.ensures))) h)

pub returns-in-Err-clause-lists : goal.returns-in-Err-clause-lists
returns-in-Err-clause-lists c = λ closed. empty-maybe c.stopped.result (nothing-listed c.stopped.result c.stopped.ensures.nothing)

pub returns-in-Err-clause-no_class : goal.returns-in-Err-clause-no_class
returns-in-Err-clause-no_class c = λ closed. nothing-named c.stopped.result c.stopped.ensures.nothing

pub returns-in-Ok-Refuted-clause-sound : goal.returns-in-Ok-Refuted-clause-sound
returns-in-Ok-Refuted-clause-sound c = λ m owed closed.
    subst (SaysWhich ((level_over c.args.self.now m c.args.goal.now.param_env.items).gives c.args.goal.now.predicate.alias.kind (erased_args c.args.goal.now.predicate.alias.args.items)) ((level_over c.args.self.now m c.args.goal.now.param_env.items).gives_refuted c.args.goal.now.predicate.alias.kind (erased_args c.args.goal.now.predicate.alias.args.items)) c.alias_outcome.new.self.terms) c.in-Ok-Refuted.field-0-is
    (says-under c.args.self.now m _ _ _ _ _ _ c.deref-2.ensures.value (c.in-Ok-Refuted.ensures.says m owed))

pub returns-in-Ok-Refuted-clause-at_once : goal.returns-in-Ok-Refuted-clause-at_once
returns-in-Ok-Refuted-clause-at_once c = λ h.
    absurd (not-at_once c.args.self.now.remaining_depth (expected_variable c.args.goal.now.predicate.term) c.in-Some.expected (λ z. omega (arith, c.remaining_depth.ensures, c.if-remaining_depth-eq0.false))
    (sym (c.in-Some.ensures ∙ ap general_variable_at (c.node.ensures ∙ ap node_of c.view.ensures))) h)

pub returns-in-Ok-Is-clause-gives : goal.returns-in-Ok-Is-clause-gives
returns-in-Ok-Is-clause-gives c = λ closed.
    found-lists c.args.goal.now.predicate.term c.in-Some.expected c.respond_found.result
    (sym (c.in-Some.ensures ∙ ap general_variable_at (c.node.ensures ∙ ap node_of c.view.ensures))) c.respond_found.ensures.gives

pub returns-in-Err-clause-gives : goal.returns-in-Err-clause-gives
returns-in-Err-clause-gives c = λ closed. unsure-lists c.args.goal.now.predicate.term c.stopped.result c.stopped.ensures.unsure

pub returns-in_default-clause-gives : goal.returns-in_default-clause-gives
returns-in_default-clause-gives c = λ closed. maybe-lists c.args.goal.now.predicate.term c.respond.result c.respond.ensures.certainty

pub returns-then-remaining_depth-eq0-clause-gives : goal.returns-then-remaining_depth-eq0-clause-gives
returns-then-remaining_depth-eq0-clause-gives c = λ closed. maybe-lists c.args.goal.now.predicate.term c.respond-then-remaining_depth-eq0.result c.respond-then-remaining_depth-eq0.ensures.certainty

pub returns-in-Ok-Undecided-clause-gives : goal.returns-in-Ok-Undecided-clause-gives
returns-in-Ok-Undecided-clause-gives c = λ closed. maybe-lists c.args.goal.now.predicate.term c.respond-in-Ok-Undecided.result c.respond-in-Ok-Undecided.ensures.certainty

pub returns-then-is_ambiguous-clause-goes_back : goal.returns-then-is_ambiguous-clause-goes_back
returns-then-is_ambiguous-clause-goes_back c = goes_back-same c.args.self.now

pub returns-then-is_ambiguous-clause-decided : goal.returns-then-is_ambiguous-clause-decided
returns-then-is_ambiguous-clause-decided c = λ m n owed closed expected undecided.
    ambiguous-open c.args.self.now c.args.goal.now.predicate.alias.kind m c.args.goal.now.param_env.items (erased_args c.args.goal.now.predicate.alias.args.items)
    (sym c.is_ambiguous.ensures ∙ c.if-is_ambiguous.true) owed

pub returns-then-is_ambiguous-clause-whole : goal.returns-then-is_ambiguous-clause-whole
returns-then-is_ambiguous-clause-whole c = λ m n owed ok closed expected undecided.
    ambiguous-answer c.args.self.now c.args.goal.now.predicate.alias.kind m c.args.goal.now.param_env.items (erased_args c.args.goal.now.predicate.alias.args.items)
    (sym c.is_ambiguous.ensures ∙ c.if-is_ambiguous.true) owed

pub returns-then-is_ambiguous-clause-applies : goal.returns-then-is_ambiguous-clause-applies
returns-then-is_ambiguous-clause-applies c = λ ok.
    nothing-applies c.args.self.now c.respond-then-is_ambiguous.result c.is_well_formed.ensures.storage c.respond-then-is_ambiguous.ensures.quiet c.respond-then-is_ambiguous.ensures.values

pub returns-then-is_ambiguous-clause-at_once : goal.returns-then-is_ambiguous-clause-at_once
returns-then-is_ambiguous-clause-at_once c = λ h.
    leaves-undecided c.args.self.now c.respond-then-is_ambiguous.result c.respond-then-is_ambiguous.ensures.certainty c.respond-then-is_ambiguous.ensures.proven_via
    c.respond-then-is_ambiguous.ensures.values c.respond-then-is_ambiguous.ensures.quiet

pub returns-then-is_ambiguous-clause-gives : goal.returns-then-is_ambiguous-clause-gives
returns-then-is_ambiguous-clause-gives c = λ closed. maybe-lists c.args.goal.now.predicate.term c.respond-then-is_ambiguous.result c.respond-then-is_ambiguous.ensures.certainty

pub returns-then-is_ambiguous-clause-ambiguous : goal.returns-then-is_ambiguous-clause-ambiguous
returns-then-is_ambiguous-clause-ambiguous c = λ closed is.
    leaves-undecided c.args.self.now c.respond-then-is_ambiguous.result c.respond-then-is_ambiguous.ensures.certainty c.respond-then-is_ambiguous.ensures.proven_via
    c.respond-then-is_ambiguous.ensures.values c.respond-then-is_ambiguous.ensures.quiet

pub returns-in_default-clause-ambiguous : goal.returns-in_default-clause-ambiguous
returns-in_default-clause-ambiguous c = λ closed is.
    leaves-undecided c.args.self.now c.respond.result c.respond.ensures.certainty c.respond.ensures.proven_via c.respond.ensures.values c.respond.ensures.quiet

pub returns-then-remaining_depth-eq0-clause-ambiguous : goal.returns-then-remaining_depth-eq0-clause-ambiguous
returns-then-remaining_depth-eq0-clause-ambiguous c = λ closed is.
    leaves-undecided c.args.self.now c.respond-then-remaining_depth-eq0.result c.respond-then-remaining_depth-eq0.ensures.certainty c.respond-then-remaining_depth-eq0.ensures.proven_via
    c.respond-then-remaining_depth-eq0.ensures.values c.respond-then-remaining_depth-eq0.ensures.quiet

pub returns-in-Ok-Is-clause-ambiguous : goal.returns-in-Ok-Is-clause-ambiguous
returns-in-Ok-Is-clause-ambiguous c = λ closed is. absurd (true≢false (sym is ∙ sym c.is_ambiguous.ensures ∙ c.if-is_ambiguous.false))

pub returns-in-Ok-Refuted-clause-ambiguous : goal.returns-in-Ok-Refuted-clause-ambiguous
returns-in-Ok-Refuted-clause-ambiguous c = λ closed is. absurd (true≢false (sym is ∙ sym c.is_ambiguous.ensures ∙ c.if-is_ambiguous.false))

pub returns-in-Ok-Undecided-clause-ambiguous : goal.returns-in-Ok-Undecided-clause-ambiguous
returns-in-Ok-Undecided-clause-ambiguous c = λ closed is. absurd (true≢false (sym is ∙ sym c.is_ambiguous.ensures ∙ c.if-is_ambiguous.false))

pub returns-in-Err-clause-ambiguous : goal.returns-in-Err-clause-ambiguous
returns-in-Err-clause-ambiguous c = λ closed is. absurd (true≢false (sym is ∙ sym c.is_ambiguous.ensures ∙ c.if-is_ambiguous.false))

pub returns-in_default-clause-caused : goal.returns-in_default-clause-caused
returns-in_default-clause-caused c = λ closed. none-recorded c.args.self.now _ refl

pub returns-then-remaining_depth-eq0-clause-caused : goal.returns-then-remaining_depth-eq0-clause-caused
returns-then-remaining_depth-eq0-clause-caused c = λ closed. none-recorded c.args.self.now _ refl

pub returns-then-is_ambiguous-clause-caused : goal.returns-then-is_ambiguous-clause-caused
returns-then-is_ambiguous-clause-caused c = λ closed. none-recorded c.args.self.now _ refl

pub returns-in-Ok-Is-clause-caused : goal.returns-in-Ok-Is-clause-caused
returns-in-Ok-Is-clause-caused c = λ closed. c.alias_outcome.ensures.caused

pub returns-in-Ok-Refuted-clause-caused : goal.returns-in-Ok-Refuted-clause-caused
returns-in-Ok-Refuted-clause-caused c = λ closed. c.alias_outcome.ensures.caused

pub returns-in-Ok-Undecided-clause-caused : goal.returns-in-Ok-Undecided-clause-caused
returns-in-Ok-Undecided-clause-caused c = λ closed. c.alias_outcome.ensures.caused

pub returns-in-Err-clause-caused : goal.returns-in-Err-clause-caused
returns-in-Err-clause-caused c = λ closed.
    recorded-stopped c.args.self.now c.alias_outcome.new.self c.stopped.new.self c.in-Err.stop c.alias_outcome.ensures.goes_back c.alias_outcome.ensures.caused c.in-Err.ensures.ends
    c.stopped.ensures.caused

pub returns-then-not-is_closed_alias-clause-never : goal.returns-then-not-is_closed_alias-clause-never
returns-then-not-is_closed_alias-clause-never c =
    merged-never c.args.self.now c.project_below.new.self c.args.goal.now c.project_below.result c.args.self.now.remaining_depth refl
    (λ none. omega (arith, none, c.remaining_depth.ensures, c.if-remaining_depth-eq0.false)) c.project_below.ensures.merges
