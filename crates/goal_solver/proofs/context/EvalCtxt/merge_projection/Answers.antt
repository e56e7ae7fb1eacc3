use Rattle.std.proofs.Common.{◌≡◌, ◌⊎◌, true, Some, None, sym, ap, ◌∙◌, subst}
use Rattle.std.specs.Prelude.{Ok, option_copied}
use Rattle.goal_solver.specs.Answers.{is_closed_alias, expected_variable}
use Rattle.goal_kinds.specs.Collecting.{kind_of}
use Rattle.goal_solver.specs.Promises.{AnswersGiven, AppliesGiven, given_through}
use Rattle.goal_solver.proofs.AssembledAnswers.{answered-given, applied-given, merged-given_closed, missing-merges_given, opened-applies_given, opened-given, opened-merges_given}
use Rattle.goal_solver.proofs.GoingBackLemmas.{goes_back-same}
use Rattle.goal_solver.proofs.OpenClassLemmas.{none-left}
use Rattle.goal_solver.proofs.context.EvalCtxt.merge_projection.Goals as goal

-- without a projection
pub returns-in_default-clause-goes_back : goal.returns-in_default-clause-goes_back
returns-in_default-clause-goes_back g c = goes_back-same c.args.self.now

pub returns-in_default-clause-given : goal.returns-in_default-clause-given
returns-in_default-clause-given g c =
    subst (λ o. AnswersGiven c.args.self.now c.args.self.now c.args.goal.now.param_env.items (given_through (Some c.args.class) o) (Ok c.undecided.result))
    (ap option_copied (sym (none-left _ c.in_default.not-Some)) ∙ c.normalizes_to.ensures) c.undecided.ensures.nothing

pub returns-in_default-clause-merged_through : goal.returns-in_default-clause-merged_through
returns-in_default-clause-merged_through g c =
    missing-merges_given (kind_of g.G.GoalKind.words g.G.PredicateTerms.has_fault) c.args.goal.now c.args.self.now c.args.self.now c.args.class (g.G.PredicateTerms.normalization c.args.goal.now.predicate) (Ok c.undecided.result)
    (ap option_copied (sym (none-left _ c.in_default.not-Some)) ∙ c.normalizes_to.ensures)

pub returns-in_default-clause-applies : goal.returns-in_default-clause-applies
returns-in_default-clause-applies g c =
    subst (λ o. AppliesGiven c.args.self.now c.args.self.now c.args.goal.now.param_env.items (given_through (Some c.args.class) o) (Ok c.undecided.result))
    (ap option_copied (sym (none-left _ c.in_default.not-Some)) ∙ c.normalizes_to.ensures) c.undecided.ensures.applies

-- with variables
pub returns-then-asks_open-clause-goes_back : goal.returns-then-asks_open-clause-goes_back
returns-then-asks_open-clause-goes_back g c = c.merge_through.ensures.goes_back

pub returns-then-asks_open-clause-given : goal.returns-then-asks_open-clause-given
returns-then-asks_open-clause-given g c =
    opened-given c.args.self.now c.merge_through.new.self c.deref.result.now c.args.goal.now.param_env.items c.args.class c.in-Some.asked.now (g.G.PredicateTerms.normalization c.args.goal.now.predicate) c.merge_through.result
    c.deref.ensures.value c.in-Some.ensures (c.asks_open.ensures.open c.if-asks_open.true)

pub returns-then-asks_open-clause-merged_through : goal.returns-then-asks_open-clause-merged_through
returns-then-asks_open-clause-merged_through g c =
    opened-merges_given (kind_of g.G.GoalKind.words g.G.PredicateTerms.has_fault) c.args.goal.now c.args.self.now c.merge_through.new.self c.args.class c.in-Some.asked.now (g.G.PredicateTerms.normalization c.args.goal.now.predicate) c.merge_through.result
    c.in-Some.ensures c.merge_through.ensures.merges

pub returns-then-asks_open-clause-applies : goal.returns-then-asks_open-clause-applies
returns-then-asks_open-clause-applies g c =
    opened-applies_given c.args.self.now c.merge_through.new.self c.args.goal.now.param_env.items c.args.class c.in-Some.asked.now (g.G.PredicateTerms.normalization c.args.goal.now.predicate) c.merge_through.result
    c.in-Some.ensures c.merge_through.ensures.applies

-- without any
pub returns-clause-given : goal.returns-clause-given
returns-clause-given g c =
    answered-given c.args.self.now c.answer_through.new.self c.deref-2.result.now c.args.goal.now.param_env.items c.args.class c.in-Some.asked.now (g.G.PredicateTerms.normalization c.args.goal.now.predicate) c.answer_through.result
    c.deref-2.ensures.value c.in-Some.ensures c.is_well_formed.ensures.tables c.answer_through.ensures.sound c.answer_through.ensures.decided
    c.answer_through.ensures.quiet c.answer_through.ensures.gives c.answer_through.ensures.lists c.answer_through.ensures.no_class

pub returns-clause-merged_through : goal.returns-clause-merged_through
returns-clause-merged_through g c =
    merged-given_closed (kind_of g.G.GoalKind.words g.G.PredicateTerms.has_fault) c.args.goal.now c.args.self.now c.answer_through.new.self c.deref.result.now c.args.class c.in-Some.asked.now (g.G.PredicateTerms.normalization c.args.goal.now.predicate) c.answer_through.result
    c.deref.ensures.value c.in-Some.ensures (c.asks_open.ensures.other c.if-asks_open.false)

pub returns-clause-applies : goal.returns-clause-applies
returns-clause-applies g c =
    applied-given c.args.self.now c.answer_through.new.self c.deref-2.result.now c.args.goal.now.param_env.items c.args.class c.in-Some.asked.now (g.G.PredicateTerms.normalization c.args.goal.now.predicate) c.answer_through.result
    c.deref-2.ensures.value c.in-Some.ensures c.answer_through.ensures.applies
    (subst (λ es. (is_closed_alias c.in-Some.asked.now.alias es ≡ true) ⊎ (expected_variable c.in-Some.asked.now.term ≡ None)) (c.deref.ensures.value ∙ sym c.deref-2.ensures.value) (c.asks_open.ensures.other c.if-asks_open.false))
