use Rattle.std.proofs.Common.{refl, subst}
use Rattle.goal_lists.specs.Answers.{setting_of}
use Rattle.goal_lists.specs.Levels.{level}
use Rattle.goal_eval.specs.ErasedArgs.{erased_args}
use Rattle.goal_eval.specs.Outcomes.{SaysThrough}
use Rattle.goal_solver.proofs.AnswerLemmas.{trait-unsure}
use Rattle.goal_solver.proofs.ApplicableLemmas.{nothing-applies-later, unvalued-applies-later, nothing-listed}
use Rattle.std.specs.Prelude.{Ok, ◌≡◌, None}
use Rattle.goal_solver.proofs.PromiseLemmas.{nothing-named, unnamed-maybe, yes-unsure}
use Rattle.goal_solver.proofs.AccessLemmas.{recorded-stopped}
use Rattle.goal_solver.proofs.context.EvalCtxt.answer_trait.Goals as goal

pub returns-in-Ok-Holds-clause-goes_back : goal.returns-in-Ok-Holds-clause-goes_back
returns-in-Ok-Holds-clause-goes_back c = c.trait_outcome_at.ensures.goes_back

pub returns-in-Ok-Refuted-clause-goes_back : goal.returns-in-Ok-Refuted-clause-goes_back
returns-in-Ok-Refuted-clause-goes_back c = c.trait_outcome_at.ensures.goes_back

pub returns-in-Ok-Undecided-clause-goes_back : goal.returns-in-Ok-Undecided-clause-goes_back
returns-in-Ok-Undecided-clause-goes_back c = c.trait_outcome_at.ensures.goes_back

pub returns-in-Ok-Holds-clause-applies : goal.returns-in-Ok-Holds-clause-applies
returns-in-Ok-Holds-clause-applies c =
    unvalued-applies-later c.args.self.now c.trait_outcome_at.new.self c.trait_outcome_at.new.self (Ok c.respond_yes.result) c.trait_outcome_at.ensures.unchanged refl
    c.is_well_formed.ensures.storage c.respond_yes.ensures.aside c.respond_yes.ensures.values

pub returns-in-Ok-Undecided-clause-applies : goal.returns-in-Ok-Undecided-clause-applies
returns-in-Ok-Undecided-clause-applies c =
    nothing-applies-later c.args.self.now c.trait_outcome_at.new.self c.trait_outcome_at.new.self (Ok c.respond.result) c.trait_outcome_at.ensures.unchanged refl
    c.is_well_formed.ensures.storage c.respond.ensures.quiet c.respond.ensures.values

pub returns-in-Err-clause-applies : goal.returns-in-Err-clause-applies
returns-in-Err-clause-applies c =
    nothing-applies-later c.args.self.now c.trait_outcome_at.new.self c.stopped.new.self c.stopped.result c.trait_outcome_at.ensures.unchanged c.stopped.ensures.unchanged
    c.is_well_formed.ensures.storage c.stopped.ensures.quiet (nothing-listed c.stopped.result c.stopped.ensures.nothing)

pub returns-in-Err-clause-sound : goal.returns-in-Err-clause-sound
returns-in-Err-clause-sound c = λ m stands.
    trait-unsure (level (setting_of c.args.self.now.tables m c.args.environment.now) c.args.depth) c.args.trait_id (erased_args c.args.args.now) c.stopped.result c.stopped.ensures.unsure (λ e. absurd (c.stopped.ensures.never e))

pub returns-in-Ok-Holds-clause-class : goal.returns-in-Ok-Holds-clause-class
returns-in-Ok-Holds-clause-class c = λ e. yes-unsure c.respond_yes.result.certainty (c.respond_yes.result.proven_via ≡ None) c.respond_yes.ensures.certainty e

pub returns-in-Err-clause-lists : goal.returns-in-Err-clause-lists
returns-in-Err-clause-lists c = nothing-listed c.stopped.result c.stopped.ensures.nothing

pub returns-in-Err-clause-class : goal.returns-in-Err-clause-class
returns-in-Err-clause-class c = unnamed-maybe c.stopped.result (nothing-named c.stopped.result c.stopped.ensures.nothing)

pub returns-in-Ok-Refuted-clause-sound : goal.returns-in-Ok-Refuted-clause-sound
returns-in-Ok-Refuted-clause-sound c = λ m owed.
    subst (SaysThrough (λ k. (level (setting_of c.args.self.now.tables m c.args.environment.now) c.args.depth).through k c.args.trait_id (erased_args c.args.args.now)) ((level (setting_of c.args.self.now.tables m c.args.environment.now) c.args.depth).trait_refuted c.args.trait_id (erased_args c.args.args.now))) c.in-Ok-Refuted.field-0-is
    (c.in-Ok-Refuted.ensures.says m owed)

pub returns-in-Ok-Holds-clause-caused : goal.returns-in-Ok-Holds-clause-caused
returns-in-Ok-Holds-clause-caused c = c.trait_outcome_at.ensures.caused

pub returns-in-Ok-Refuted-clause-caused : goal.returns-in-Ok-Refuted-clause-caused
returns-in-Ok-Refuted-clause-caused c = c.trait_outcome_at.ensures.caused

pub returns-in-Ok-Undecided-clause-caused : goal.returns-in-Ok-Undecided-clause-caused
returns-in-Ok-Undecided-clause-caused c = c.trait_outcome_at.ensures.caused

pub returns-in-Err-clause-caused : goal.returns-in-Err-clause-caused
returns-in-Err-clause-caused c =
    recorded-stopped c.args.self.now c.trait_outcome_at.new.self c.stopped.new.self c.in-Err.stop c.trait_outcome_at.ensures.goes_back c.trait_outcome_at.ensures.caused c.in-Err.ensures.ends
    c.stopped.ensures.caused
