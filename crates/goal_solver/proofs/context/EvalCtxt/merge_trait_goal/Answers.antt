use Rattle.std.proofs.Common.{sym, ◌∙◌, ap, subst}
use Rattle.std.specs.Option.{option_map}
use Rattle.std.specs.Prelude.{Ok}
use Rattle.goal_kinds.specs.CandidateRules.{seen_trait}
use Rattle.goal_solver.specs.Promises.{AnswersTraitAbove}
use Rattle.goal_solver.specs.State.{State}
use Rattle.goal_solver.proofs.AssembledAnswers.{answered-trait}
use Rattle.goal_solver.proofs.GoingBackLemmas.{goes_back-same}
use Rattle.goal_solver.proofs.OpenClassLemmas.{none-left}
use Rattle.goal_solver.proofs.context.EvalCtxt.merge_trait_goal.Goals as goal

pub returns-in_default-clause-goes_back : goal.returns-in_default-clause-goes_back
returns-in_default-clause-goes_back g c = goes_back-same c.args.self.now

pub returns-in_err-above-clause-goes_back : goal.returns-in_err-above-clause-goes_back
returns-in_err-above-clause-goes_back g c = goes_back-same c.args.self.now

pub returns-in_default-clause-answers : goal.returns-in_default-clause-answers
returns-in_default-clause-answers g c closed =
    subst (λ o. AnswersTraitAbove c.args.self.now c.args.self.now c.args.goal.now.param_env.items o (Ok c.undecided.result))
    (ap (option_map seen_trait) (sym (none-left _ c.in_default.not-Some)) ∙ c.trait_ref.ensures ∙ ap (λ (s : State). g.G.GoalKind.words.asked c.args.goal.now.predicate s.tables) c.self.view_is)
    c.undecided.ensures.nothing

pub returns-clause-answers : goal.returns-clause-answers
returns-clause-answers g c closed =
    answered-trait c.args.self.now c.answer_trait.new.self c.deref.result.now c.args.goal.now.param_env.items (seen_trait c.in-Some.asked) (g.G.GoalKind.words.asked c.args.goal.now.predicate c.args.self.now.tables) c.in_ok-above.above c.answer_trait.result
    c.deref.ensures.value
    (ap (option_map seen_trait) (sym c.in-Some.is) ∙ c.trait_ref.ensures ∙ ap (λ (s : State). g.G.GoalKind.words.asked c.args.goal.now.predicate s.tables) c.self.view_is)
    c.in_ok-above.ensures.above c.answer_trait.ensures.sound c.answer_trait.ensures.decided c.answer_trait.ensures.quiet c.answer_trait.ensures.lists c.answer_trait.ensures.class
