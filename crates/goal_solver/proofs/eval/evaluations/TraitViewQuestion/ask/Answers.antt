use Rattle.std.proofs.Common.{ap, ◌∙◌, subst}
use Rattle.goal_lists.specs.Interned.{erased_all}
use Rattle.goal_eval.specs.Outcomes.{level_in}
use Rattle.goal_eval.proofs.CacheLemmas.{sound-grown}
use Rattle.goal_solver.specs.Evaluations.{SaysTraitAt}
use Rattle.goal_solver.proofs.eval.evaluations.TraitViewQuestion.ask.Goals as goal

pub evaluate_trait_goal-requires-clause-effects : goal.evaluate_trait_goal-requires-clause-effects
evaluate_trait_goal-requires-clause-effects c =
    sound-grown c.args.setting.now c.args.terms.now c.intern_args.new.terms c.args.effects.now c.intern_args.ensures.kept c.requires.effects

pub returns-in_err-ids-clause-effects : goal.returns-in_err-ids-clause-effects
returns-in_err-ids-clause-effects c =
    sound-grown c.args.setting.now c.args.terms.now c.intern_args.new.terms c.args.effects.now c.intern_args.ensures.kept c.requires.effects

pub returns-clause-says : goal.returns-clause-says
returns-clause-says c = λ m runs.
    subst (λ ts. SaysTraitAt (level_in c.args.setting.now m c.args.depth) c.args.self.now.def_id ts c.evaluate_trait_goal.result)
    (ap (erased_all c.intern_args.new.terms) c.deref.ensures.value ∙ c.in_ok-ids.ensures.trees) (c.evaluate_trait_goal.ensures.says m runs)

pub returns-in_err-ids-clause-memory : goal.returns-in_err-ids-clause-memory
returns-in_err-ids-clause-memory c = λ never. absurd never

pub returns-clause-memory : goal.returns-clause-memory
returns-clause-memory c = λ never. absurd never
