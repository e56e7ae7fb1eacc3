use Rattle.std.proofs.Common.{Ok, sym, ◌∙◌, ap, subst}
use Rattle.goal_kinds.specs.CandidateRules.{seen_trait}
use Rattle.goal_solver.specs.HostGoals.{AnswersHostThrough}
use Rattle.goal_solver.specs.State.{State}
use Rattle.goal_solver.proofs.GoingBackLemmas.{goes_back-same}
use Rattle.goal_solver.proofs.HostGoalLemmas.{answers-host_through, asked-with, unasked, untraited}
use Rattle.goal_solver.proofs.context.EvalCtxt.merge_host_effect.Goals as goal

-- goals with inference variables
pub returns-then-has_variable-clause-host_effects : goal.returns-then-has_variable-clause-host_effects
returns-then-has_variable-clause-host_effects g c = λ closed. absurd (cc)

-- goals that ask for no const trait, or for none that has a row
pub returns-in_default-clause-host_effects : goal.returns-in_default-clause-host_effects
returns-in_default-clause-host_effects g c = λ closed.
    unasked c.args.self.now c.args.self.now c.args.goal.now.param_env.items c.args.class _ (g.G.GoalKind.words.asked c.args.goal.now.predicate c.args.self.now.tables) (Ok c.undecided.result)
    (sym c.constness.ensures ∙ c.in_default.is) c.undecided.ensures.nothing

pub returns-in_default-clause-goes_back : goal.returns-in_default-clause-goes_back
returns-in_default-clause-goes_back g c = goes_back-same c.args.self.now

pub returns-in_default-trait_ref-clause-host_effects : goal.returns-in_default-trait_ref-clause-host_effects
returns-in_default-trait_ref-clause-host_effects g c = λ closed.
    untraited c.args.self.now c.args.self.now c.args.goal.now.param_env.items c.args.class (g.G.GoalKind.words.constness c.args.goal.now.predicate) _ _ (Ok c.undecided-in_default-trait_ref.result)
    c.in_default-trait_ref.is (c.trait_ref.ensures ∙ ap (λ (s : State). g.G.GoalKind.words.asked c.args.goal.now.predicate s.tables) c.self.view_is) c.undecided-in_default-trait_ref.ensures.nothing

pub returns-in_default-trait_ref-clause-goes_back : goal.returns-in_default-trait_ref-clause-goes_back
returns-in_default-trait_ref-clause-goes_back g c = goes_back-same c.args.self.now

-- and others
pub returns-clause-host_effects : goal.returns-clause-host_effects
returns-clause-host_effects g c = λ closed.
    asked-with c.args.self.now c.answer_host_effect_through.new.self c.args.goal.now.param_env.items c.args.class c.in-Some.constness c.in-Some-trait_ref.asked
    (g.G.GoalKind.words.constness c.args.goal.now.predicate) c.trait_ref.result (g.G.GoalKind.words.asked c.args.goal.now.predicate c.args.self.now.tables) c.answer_host_effect_through.result
    (sym c.constness.ensures ∙ c.in-Some.is) c.in-Some-trait_ref.is (c.trait_ref.ensures ∙ ap (λ (s : State). g.G.GoalKind.words.asked c.args.goal.now.predicate s.tables) c.self.view_is)
    (subst
    (λ e. AnswersHostThrough c.args.self.now c.answer_host_effect_through.new.self e (record { class = c.args.class; constness = c.in-Some.constness; asked = seen_trait c.in-Some-trait_ref.asked }) c.answer_host_effect_through.result)
    c.deref.ensures.value
    (answers-host_through c.args.self.now c.answer_host_effect_through.new.self c.deref.result.now (record { class = c.args.class; constness = c.in-Some.constness; asked = seen_trait c.in-Some-trait_ref.asked })
    c.answer_host_effect_through.result c.answer_host_effect_through.ensures.sound c.answer_host_effect_through.ensures.decided c.answer_host_effect_through.ensures.quiet
    c.answer_host_effect_through.ensures.lists c.answer_host_effect_through.ensures.no_class))
