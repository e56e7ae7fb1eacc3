use Rattle.std.proofs.Common.{◌∙◌, ap, subst, length, Option, Ok}
use Rattle.goal_terms.specs.declared.terms.AliasTerm.{AliasTerm}
use Rattle.goal_solver.specs.Answers.{IsQuiet}
use Rattle.goal_kinds.specs.Collecting.{kind_of}
use Rattle.goal_solver.specs.AskedGoals.{formed_by, merged_as}
use Rattle.goal_solver.specs.OpenAnswers.{MergesOpened}
use Rattle.goal_solver.specs.OpenGoals.{AsksOpenSelf}
use Rattle.goal_solver.specs.State.{State, kinds_of}
use Rattle.goal_solver.proofs.AddedGoalLemmas.{fault-later}
use Rattle.goal_solver.proofs.GoingBackLemmas.{goes_back-grown, goes_back-through}
use Rattle.goal_solver.proofs.ApplicableLemmas.{nothing-applies-after}
use Rattle.goal_solver.proofs.OpenFormLemmas.{known, restored-grown, restored-twice}
use Rattle.goal_solver.proofs.OpenedSelfLemmas.{opened-unsaid}
use Rattle.goal_solver.proofs.context.EvalCtxt.merge_open_goal.Goals as goal

pub returns-in_err-open_self-clause-opened : goal.returns-in_err-open_self-clause-opened
returns-in_err-open_self-clause-opened g c =
    λ asks. opened-unsaid (MergesOpened g.G.GoalKind.words.self_type (formed_by (merged_as c.args.by) (kind_of g.G.GoalKind.words g.G.PredicateTerms.has_fault) c.args.goal.now) c.args.goal.now) c.args.self.now c.open_self.new.self c.from_residual.result c.in_err-open_self.field-0.0 c.open_self.ensures.unchanged c.from_residual.ensures.1 c.in_err-open_self.ensures.only_memory

pub returns-in_err-open_self-clause-goes_back : goal.returns-in_err-open_self-clause-goes_back
returns-in_err-open_self-clause-goes_back g c =
    goes_back-grown c.args.self.now c.open_self.new.self c.open_self.ensures.unchanged c.open_self.ensures.kept

pub returns-in-None-clause-opened : goal.returns-in-None-clause-opened
returns-in-None-clause-opened g c =
    λ asks. absurd (c.open_self.ensures.none (c.in_ok-open_self.was ∙ ap (λ (o : Option AliasTerm). Ok o) c.in-None.is) asks)

pub returns-in-None-clause-applies : goal.returns-in-None-clause-applies
returns-in-None-clause-applies g c =
    nothing-applies-after c.args.self.now c.open_self.new.self c.respond.result (restored-grown c.args.self.now c.open_self.new.self c.open_self.ensures.unchanged) c.is_well_formed.ensures.storage
    (subst (λ (s : State). IsQuiet (length (kinds_of s)) c.respond.result) c.open_self.ensures.unchanged c.respond.ensures.quiet) c.respond.ensures.values

pub returns-in-None-clause-goes_back : goal.returns-in-None-clause-goes_back
returns-in-None-clause-goes_back g c =
    goes_back-grown c.args.self.now c.open_self.new.self c.open_self.ensures.unchanged c.open_self.ensures.kept

pub returns-in-Some-clause-undecided : goal.returns-in-Some-clause-undecided
returns-in-Some-clause-undecided g c =
    λ other. absurd (other (known c.in_ok-open_self.field-0 c.in-Some.alias (λ a. AsksOpenSelf g.G.GoalKind.words.self_type c.args.goal.now c.args.self.now) c.in-Some.is c.in_ok-open_self.ensures.asks))

pub returns-in-Some-clause-opened : goal.returns-in-Some-clause-opened
returns-in-Some-clause-opened g c =
    λ asks. (c.open_self.new.self, restored-grown c.args.self.now c.open_self.new.self c.open_self.ensures.unchanged, c.merge_opened_goal.ensures.merges)

pub returns-in-Some-clause-unchanged : goal.returns-in-Some-clause-unchanged
returns-in-Some-clause-unchanged g c =
    restored-twice c.args.self.now c.open_self.new.self c.merge_opened_goal.new.self (restored-grown c.args.self.now c.open_self.new.self c.open_self.ensures.unchanged) c.merge_opened_goal.ensures.unchanged

pub returns-in-Some-clause-goes_back : goal.returns-in-Some-clause-goes_back
returns-in-Some-clause-goes_back g c =
    goes_back-through c.args.self.now c.open_self.new.self c.merge_opened_goal.new.self (goes_back-grown c.args.self.now c.open_self.new.self c.open_self.ensures.unchanged c.open_self.ensures.kept) c.merge_opened_goal.ensures.goes_back

pub returns-in-Some-clause-fault : goal.returns-in-Some-clause-fault
returns-in-Some-clause-fault g c =
    fault-later c.args.self.now c.open_self.new.self c.merge_opened_goal.new.self c.merge_opened_goal.result (goes_back-grown c.args.self.now c.open_self.new.self c.open_self.ensures.unchanged c.open_self.ensures.kept) c.merge_opened_goal.ensures.fault
