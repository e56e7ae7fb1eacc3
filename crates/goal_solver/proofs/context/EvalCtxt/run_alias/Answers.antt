use Rattle.std.proofs.Common.{refl, subst}
use Rattle.goal_eval.specs.ErasedArgs.{erased_args}
use Rattle.goal_solver.specs.Answers.{level_over}
use Rattle.goal_eval.specs.Outcomes.{FoundIn, SaysWhich}
use Rattle.goal_solver.specs.declared.comparison.RunAnswer.TheVariants as run
use Rattle.goal_solver.proofs.ComparisonLemmas.{found-right, refuted-right, undecided-right, owed-itself}
use Rattle.goal_solver.proofs.EvaluationLemmas.{says-under}
use Rattle.goal_solver.proofs.context.EvalCtxt.run_alias.Goals as goal

pub returns-in-Ok-Is-clause-right : goal.returns-in-Ok-Is-clause-right
returns-in-Ok-Is-clause-right c = λ headline accepted.
    found-right c.args.self.now c.args.goal.now c.args.asked.now c.alias_outcome.new.self.terms c.in-Ok-Is.id c.found_answer.result c.is_well_formed.ensures.tables accepted c.requires
    (subst (FoundIn c.alias_outcome.new.self.terms) c.in-Ok-Is.field-0-is c.in-Ok-Is.ensures.within).0
    (subst (SaysWhich ((level_over c.args.self.now c.args.self.now.typing_mode c.args.goal.now.param_env.items).gives c.args.asked.now.alias.kind (erased_args c.args.asked.now.alias.args.items)) ((level_over c.args.self.now c.args.self.now.typing_mode c.args.goal.now.param_env.items).gives_refuted c.args.asked.now.alias.kind (erased_args c.args.asked.now.alias.args.items)) c.alias_outcome.new.self.terms) c.in-Ok-Is.field-0-is
    (says-under c.args.self.now c.args.self.now.typing_mode _ _ _ _ _ _ c.deref.ensures.value (c.in-Ok-Is.ensures.says c.args.self.now.typing_mode (owed-itself c.args.self.now c.alias_outcome.new.self c.alias_outcome.ensures.goes_back.typing_mode headline))))
    c.found_answer.ensures.given

pub returns-in-Ok-Refuted-clause-right : goal.returns-in-Ok-Refuted-clause-right
returns-in-Ok-Refuted-clause-right c = λ headline accepted.
    refuted-right c.args.self.now c.args.goal.now c.args.asked.now run.NoSolution c.requires
    (subst (SaysWhich ((level_over c.args.self.now c.args.self.now.typing_mode c.args.goal.now.param_env.items).gives c.args.asked.now.alias.kind (erased_args c.args.asked.now.alias.args.items)) ((level_over c.args.self.now c.args.self.now.typing_mode c.args.goal.now.param_env.items).gives_refuted c.args.asked.now.alias.kind (erased_args c.args.asked.now.alias.args.items)) c.alias_outcome.new.self.terms) c.in-Ok-Refuted.field-0-is
    (says-under c.args.self.now c.args.self.now.typing_mode _ _ _ _ _ _ c.deref.ensures.value (c.in-Ok-Refuted.ensures.says c.args.self.now.typing_mode (owed-itself c.args.self.now c.alias_outcome.new.self c.alias_outcome.ensures.goes_back.typing_mode headline))))
    refl

pub returns-in-Ok-Undecided-clause-right : goal.returns-in-Ok-Undecided-clause-right
returns-in-Ok-Undecided-clause-right c = λ headline accepted.
    undecided-right c.args.self.now c.args.goal.now c.args.asked.now c.requires
    (subst (SaysWhich ((level_over c.args.self.now c.args.self.now.typing_mode c.args.goal.now.param_env.items).gives c.args.asked.now.alias.kind (erased_args c.args.asked.now.alias.args.items)) ((level_over c.args.self.now c.args.self.now.typing_mode c.args.goal.now.param_env.items).gives_refuted c.args.asked.now.alias.kind (erased_args c.args.asked.now.alias.args.items)) c.alias_outcome.new.self.terms) c.in-Ok-Undecided.field-0-is
    (says-under c.args.self.now c.args.self.now.typing_mode _ _ _ _ _ _ c.deref.ensures.value (c.in-Ok-Undecided.ensures.says c.args.self.now.typing_mode (owed-itself c.args.self.now c.alias_outcome.new.self c.alias_outcome.ensures.goes_back.typing_mode headline))))
