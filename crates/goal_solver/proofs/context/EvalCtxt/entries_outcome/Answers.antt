use Rattle.goal_eval.specs.Lists.{SaysList}
use Rattle.goal_kinds.specs.RuleLists.{entries_of}
use Rattle.std.proofs.Common.{ap, Some}
use Rattle.goal_solver.specs.State.{State}
use Rattle.goal_solver.proofs.GoingBackLemmas.{goes_back-through}
use Rattle.goal_solver.proofs.RecordedLemmas.{listed-kept, listed-through}
use Rattle.std.specs.Prelude.{IfOk}
use Rattle.goal_solver.proofs.OpenClassLemmas.{none-left}
use Rattle.goal_solver.proofs.RerunLemmas.{rerun-says}
use Rattle.goal_lists.specs.Answers.{setting_of}
use Rattle.goal_lists.specs.Levels.{level}
use Rattle.goal_solver.proofs.context.EvalCtxt.entries_outcome.Goals as goal

pub returns-in_err-found-clause-listed : goal.returns-in_err-found-clause-listed
returns-in_err-found-clause-listed c =
    listed-kept c.args.self.now c.run_entries-first.new.self c.first_answer.new.self c.args.entries.now (ap (λ (s : State). s.delayed_faults) c.first_answer.ensures.unchanged) c.run_entries-first.ensures.listed

pub returns-clause-listed : goal.returns-clause-listed
returns-clause-listed c =
    listed-through c.args.self.now c.first_answer.new.self c.run_entries.new.self c.args.entries.now
    (goes_back-through c.args.self.now c.run_entries-first.new.self c.first_answer.new.self c.run_entries-first.ensures.goes_back c.first_answer.ensures.goes_back)
    (listed-kept c.args.self.now c.run_entries-first.new.self c.first_answer.new.self c.args.entries.now (ap (λ (s : State). s.delayed_faults) c.first_answer.ensures.unchanged) c.run_entries-first.ensures.listed)
    c.run_entries.ensures.listed

pub returns-clause-says : goal.returns-clause-says
returns-clause-says c = λ m owed.
    rerun-says (λ t n. IfOk c.run_entries.result (SaysList (level (setting_of t m c.args.environment.now) n) (Some (entries_of t c.args.entries.now)) c.run_entries.new.self.terms)) c.args.self.now c.run_entries-first.new.self c.first_answer.new.self c.run_entries.new.self m c.run_entries-first.ensures.unchanged
    c.first_answer.ensures.unchanged c.run_entries.ensures.goes_back (c.in_ok-found.ensures.on (none-left c.in_ok-found.field-0 c.in_default.not-Some))
    (λ runs. c.run_entries.ensures.says m runs) owed
