use Rattle.std.proofs.Common.{arith, refl}
use Rattle.goal_solver.specs.Evaluations.{predicate_seen}
use Rattle.goal_lists.specs.Answers.{setting_of}
use Rattle.goal_solver.proofs.AnswerLemmas.{undecided-ground, predicate-sound, predicate-decided}
use Rattle.goal_solver.proofs.GoingBackLemmas.{goes_back-same}
use Rattle.goal_solver.proofs.ApplicableLemmas.{nothing-applies, unvalued-applies-later}
use Rattle.goal_solver.proofs.PromiseLemmas.{leaves-undecided}
use Rattle.goal_solver.proofs.AccessLemmas.{none-recorded, recorded-concluded}
use Rattle.goal_solver.proofs.context.EvalCtxt.answer_predicate.Goals as goal

pub returns-then-remaining_depth-eq0-clause-decided : goal.returns-then-remaining_depth-eq0-clause-decided
returns-then-remaining_depth-eq0-clause-decided c = λ m owed undecided.
    undecided-ground (setting_of c.args.self.now.tables m c.args.environment.now) c.args.self.now.remaining_depth (omega (arith, c.remaining_depth.ensures, c.if-remaining_depth-eq0.true))
    (predicate_seen c.args.asked)

pub returns-then-remaining_depth-eq0-clause-goes_back : goal.returns-then-remaining_depth-eq0-clause-goes_back
returns-then-remaining_depth-eq0-clause-goes_back c = goes_back-same c.args.self.now

pub returns-clause-sound : goal.returns-clause-sound
returns-clause-sound c =
    predicate-sound c.args.self.now c.predicate_goal_outcome-outcome.new.self c.conclude.new.self c.args.environment.now
    (predicate_seen c.args.asked)
    c.predicate_goal_outcome-outcome.result c.conclude.result c.conclude.ensures.goes_back
    c.predicate_goal_outcome-outcome.ensures.says
    c.conclude.ensures.yes c.conclude.ensures.no

pub returns-clause-decided : goal.returns-clause-decided
returns-clause-decided c = λ m owed undecided.
    predicate-decided c.args.self.now c.predicate_goal_outcome-outcome.new.self c.conclude.new.self c.args.environment.now
    (predicate_seen c.args.asked)
    c.predicate_goal_outcome-outcome.result c.conclude.result c.conclude.ensures.goes_back
    c.predicate_goal_outcome-outcome.ensures.says c.conclude.ensures.owed m owed undecided

pub returns-then-remaining_depth-eq0-clause-applies : goal.returns-then-remaining_depth-eq0-clause-applies
returns-then-remaining_depth-eq0-clause-applies c = nothing-applies c.args.self.now c.respond.result c.is_well_formed.ensures.storage c.respond.ensures.quiet c.respond.ensures.values

pub returns-clause-applies : goal.returns-clause-applies
returns-clause-applies c =
    unvalued-applies-later c.args.self.now c.predicate_goal_outcome-outcome.new.self c.conclude.new.self c.conclude.result c.predicate_goal_outcome-outcome.ensures.unchanged c.conclude.ensures.unchanged
    c.is_well_formed.ensures.storage c.conclude.ensures.quiet c.conclude.ensures.lists

pub returns-then-remaining_depth-eq0-clause-at_once : goal.returns-then-remaining_depth-eq0-clause-at_once
returns-then-remaining_depth-eq0-clause-at_once c = λ h.
    leaves-undecided c.args.self.now c.respond.result c.respond.ensures.certainty c.respond.ensures.proven_via c.respond.ensures.values c.respond.ensures.quiet

pub returns-then-remaining_depth-eq0-clause-caused : goal.returns-then-remaining_depth-eq0-clause-caused
returns-then-remaining_depth-eq0-clause-caused c = none-recorded c.args.self.now _ refl

pub returns-clause-caused : goal.returns-clause-caused
returns-clause-caused c =
    recorded-concluded c.args.self.now c.predicate_goal_outcome-outcome.new.self c.conclude.new.self c.predicate_goal_outcome-outcome.result c.predicate_goal_outcome-outcome.ensures.goes_back c.predicate_goal_outcome-outcome.ensures.caused
    c.predicate_goal_outcome-outcome.ensures.ends c.conclude.ensures.caused
