use Rattle.std.proofs.Common.{ap, sym, subst, refl, arith}
use Rattle.std.proofs.lemmas.List.Elements.{All-nil}
use Rattle.goal_eval.specs.Lists.{RunIn}
use Rattle.goal_solver.specs.RunRules.{IsRecorded}
use Rattle.goal_solver.specs.State.{State}
use Rattle.goal_solver.proofs.GoingBackLemmas.{goes_back-same, goes_back-through}
use Rattle.goal_solver.proofs.RecordedLemmas.{recorded-next, recorded-end, none-listed, listed-next, listed-caused}
use Rattle.goal_solver.proofs.OpenProjectionLemmas.{restored-through}
use Rattle.goal_eval.proofs.ListRunLemmas.{end-in, start-in}
use Rattle.goal_solver.proofs.RuleAnswerLemmas.{runs-start, runs-next, runs-refuted, runs-undecided, runs-end, restored-recorded}
use Rattle.goal_solver.proofs.context.EvalCtxt.run_entries.Goals as goal

pub loop-entry-init : goal.loop-entry-init
loop-entry-init c = record {
  within = start-in c.args.self.now.terms c.new-run.result c.new-run.ensures.named c.new-run.ensures.term;
  unchanged = refl;
  back = goes_back-same c.args.self.now;
  recorded = All-nil (IsRecorded c.args.self.now);
  listed = none-listed c.args.self.now c.args.self.now c.args.entries.now refl;
  so_far = runs-start c.args.self.now c.args.on_access c.args.environment.now c.args.entries.now c.args.self.now.terms c.new-run.result c.new-run.ensures.named c.new-run.ensures.holds c.new-run.ensures.term;
}

pub loop-entry-preserved : goal.loop-entry-preserved
loop-entry-preserved c = record {
  within = c.in_ok-reach.ensures.within;
  unchanged = restored-through c.args.self.now c.record_entry.new.self c.reach.new.self (restored-recorded c.args.self.now c.loop-entry.self c.record_entry.new.self c.loop-entry.invariant.unchanged c.record_entry.ensures.unchanged) c.reach.ensures.unchanged;
  back = goes_back-through c.args.self.now c.record_entry.new.self c.reach.new.self (goes_back-through c.args.self.now c.loop-entry.self c.record_entry.new.self c.loop-entry.invariant.back c.record_entry.ensures.goes_back) c.reach.ensures.goes_back;
  recorded = recorded-next c.loop-entry.self c.record_entry.new.self c.reach.new.self c.args.entries.now c.loop-entry.entry-index c.entry-item.result c.record_entry.ensures.goes_back c.reach.ensures.goes_back (omega arith) c.entry-item.is c.loop-entry.invariant.recorded c.in_ok-record_entry.ensures.recorded;
  listed = listed-caused c.args.self.now c.record_entry.new.self c.reach.new.self c.args.entries.now (goes_back-through c.args.self.now c.loop-entry.self c.record_entry.new.self c.loop-entry.invariant.back c.record_entry.ensures.goes_back) c.reach.ensures.goes_back.tables c.reach.ensures.faults (listed-next c.args.self.now c.loop-entry.self c.record_entry.new.self c.args.entries.now c.loop-entry.entry-index c.entry-item.result (omega arith) c.entry-item.is c.loop-entry.invariant.back c.loop-entry.invariant.listed c.record_entry.ensures.listed);
  so_far = runs-next c.args.self.now c.record_entry.new.self c.args.on_access c.args.environment.now c.args.entries.now c.loop-entry.self.terms c.reach.new.self.terms c.loop-entry.run c.reach.new.run c.loop-entry.entry-index c.entry-item.result c.in_ok-reach.field-0 (goes_back-through c.args.self.now c.loop-entry.self c.record_entry.new.self c.loop-entry.invariant.back c.record_entry.ensures.goes_back)
      (ap (λ (s : State). s.terms) c.record_entry.ensures.unchanged) (omega arith) c.entry-item.is c.loop-entry.invariant.so_far c.in_ok-reach.ensures.says c.in-Next.is;
}

pub reach-requires : goal.reach-requires
reach-requires c = subst (λ T. RunIn T c.loop-entry.run) (sym (ap (λ (s : State). s.terms) c.record_entry.ensures.unchanged)) c.loop-entry.invariant.within

pub returns-in-Refuted-clause-says : goal.returns-in-Refuted-clause-says
returns-in-Refuted-clause-says c = λ m s.
    runs-refuted c.args.self.now c.record_entry.new.self c.args.on_access c.args.environment.now c.args.entries.now c.loop-entry.self.terms c.reach.new.self.terms c.loop-entry.run c.reach.new.run c.loop-entry.entry-index c.entry-item.result c.in_ok-reach.field-0 (goes_back-through c.args.self.now c.loop-entry.self c.record_entry.new.self c.loop-entry.invariant.back c.record_entry.ensures.goes_back)
    (ap (λ (s : State). s.terms) c.record_entry.ensures.unchanged) (omega arith) c.entry-item.is c.loop-entry.invariant.so_far c.in_ok-reach.ensures.says c.in-Refuted.is m s c.reach.new.self.terms

pub returns-in-Undecided-clause-says : goal.returns-in-Undecided-clause-says
returns-in-Undecided-clause-says c = λ m s.
    runs-undecided c.args.self.now c.record_entry.new.self c.args.on_access c.args.environment.now c.args.entries.now c.loop-entry.self.terms c.reach.new.self.terms c.loop-entry.run c.reach.new.run c.loop-entry.entry-index c.entry-item.result c.in_ok-reach.field-0 (goes_back-through c.args.self.now c.loop-entry.self c.record_entry.new.self c.loop-entry.invariant.back c.record_entry.ensures.goes_back)
    (ap (λ (s : State). s.terms) c.record_entry.ensures.unchanged) (omega arith) c.entry-item.is c.loop-entry.invariant.so_far c.in_ok-reach.ensures.says c.in-Undecided.is m s c.reach.new.self.terms

pub returns-in-Refuted-clause-unchanged : goal.returns-in-Refuted-clause-unchanged
returns-in-Refuted-clause-unchanged c = restored-through c.args.self.now c.record_entry.new.self c.reach.new.self (restored-recorded c.args.self.now c.loop-entry.self c.record_entry.new.self c.loop-entry.invariant.unchanged c.record_entry.ensures.unchanged) c.reach.ensures.unchanged

pub returns-in-Refuted-clause-goes_back : goal.returns-in-Refuted-clause-goes_back
returns-in-Refuted-clause-goes_back c = goes_back-through c.args.self.now c.record_entry.new.self c.reach.new.self (goes_back-through c.args.self.now c.loop-entry.self c.record_entry.new.self c.loop-entry.invariant.back c.record_entry.ensures.goes_back) c.reach.ensures.goes_back

pub returns-in-Undecided-clause-unchanged : goal.returns-in-Undecided-clause-unchanged
returns-in-Undecided-clause-unchanged c = restored-through c.args.self.now c.record_entry.new.self c.reach.new.self (restored-recorded c.args.self.now c.loop-entry.self c.record_entry.new.self c.loop-entry.invariant.unchanged c.record_entry.ensures.unchanged) c.reach.ensures.unchanged

pub returns-in-Undecided-clause-goes_back : goal.returns-in-Undecided-clause-goes_back
returns-in-Undecided-clause-goes_back c = goes_back-through c.args.self.now c.record_entry.new.self c.reach.new.self (goes_back-through c.args.self.now c.loop-entry.self c.record_entry.new.self c.loop-entry.invariant.back c.record_entry.ensures.goes_back) c.reach.ensures.goes_back

pub returns-in_err-reach-clause-unchanged : goal.returns-in_err-reach-clause-unchanged
returns-in_err-reach-clause-unchanged c = restored-through c.args.self.now c.record_entry.new.self c.reach.new.self (restored-recorded c.args.self.now c.loop-entry.self c.record_entry.new.self c.loop-entry.invariant.unchanged c.record_entry.ensures.unchanged) c.reach.ensures.unchanged

pub returns-in_err-reach-clause-goes_back : goal.returns-in_err-reach-clause-goes_back
returns-in_err-reach-clause-goes_back c = goes_back-through c.args.self.now c.record_entry.new.self c.reach.new.self (goes_back-through c.args.self.now c.loop-entry.self c.record_entry.new.self c.loop-entry.invariant.back c.record_entry.ensures.goes_back) c.reach.ensures.goes_back

pub returns-in_err-record_entry-clause-unchanged : goal.returns-in_err-record_entry-clause-unchanged
returns-in_err-record_entry-clause-unchanged c = restored-recorded c.args.self.now c.loop-entry.self c.record_entry.new.self c.loop-entry.invariant.unchanged c.record_entry.ensures.unchanged

pub returns-in_err-record_entry-clause-goes_back : goal.returns-in_err-record_entry-clause-goes_back
returns-in_err-record_entry-clause-goes_back c = goes_back-through c.args.self.now c.loop-entry.self c.record_entry.new.self c.loop-entry.invariant.back c.record_entry.ensures.goes_back

pub returns-clause-within : goal.returns-clause-within
returns-clause-within c = end-in c.loop-entry.self.terms c.loop-entry.run c.outcome.result c.loop-entry.invariant.within c.outcome.ensures.holds c.outcome.ensures.undecided

pub returns-clause-says : goal.returns-clause-says
returns-clause-says c = runs-end c.args.self.now c.args.on_access c.args.environment.now c.args.entries.now c.loop-entry.self.terms c.loop-entry.run c.loop-entry.entry-index c.outcome.result (omega arith) c.loop-entry.invariant.so_far c.outcome.ensures.holds c.outcome.ensures.undecided

pub returns-in-Refuted-clause-listed : goal.returns-in-Refuted-clause-listed
returns-in-Refuted-clause-listed c = listed-caused c.args.self.now c.record_entry.new.self c.reach.new.self c.args.entries.now (goes_back-through c.args.self.now c.loop-entry.self c.record_entry.new.self c.loop-entry.invariant.back c.record_entry.ensures.goes_back) c.reach.ensures.goes_back.tables c.reach.ensures.faults (listed-next c.args.self.now c.loop-entry.self c.record_entry.new.self c.args.entries.now c.loop-entry.entry-index c.entry-item.result (omega arith) c.entry-item.is c.loop-entry.invariant.back c.loop-entry.invariant.listed c.record_entry.ensures.listed)

pub returns-in-Undecided-clause-listed : goal.returns-in-Undecided-clause-listed
returns-in-Undecided-clause-listed c = listed-caused c.args.self.now c.record_entry.new.self c.reach.new.self c.args.entries.now (goes_back-through c.args.self.now c.loop-entry.self c.record_entry.new.self c.loop-entry.invariant.back c.record_entry.ensures.goes_back) c.reach.ensures.goes_back.tables c.reach.ensures.faults (listed-next c.args.self.now c.loop-entry.self c.record_entry.new.self c.args.entries.now c.loop-entry.entry-index c.entry-item.result (omega arith) c.entry-item.is c.loop-entry.invariant.back c.loop-entry.invariant.listed c.record_entry.ensures.listed)

pub returns-in_err-reach-clause-listed : goal.returns-in_err-reach-clause-listed
returns-in_err-reach-clause-listed c = listed-caused c.args.self.now c.record_entry.new.self c.reach.new.self c.args.entries.now (goes_back-through c.args.self.now c.loop-entry.self c.record_entry.new.self c.loop-entry.invariant.back c.record_entry.ensures.goes_back) c.reach.ensures.goes_back.tables c.reach.ensures.faults (listed-next c.args.self.now c.loop-entry.self c.record_entry.new.self c.args.entries.now c.loop-entry.entry-index c.entry-item.result (omega arith) c.entry-item.is c.loop-entry.invariant.back c.loop-entry.invariant.listed c.record_entry.ensures.listed)

pub returns-in_err-record_entry-clause-listed : goal.returns-in_err-record_entry-clause-listed
returns-in_err-record_entry-clause-listed c = listed-next c.args.self.now c.loop-entry.self c.record_entry.new.self c.args.entries.now c.loop-entry.entry-index c.entry-item.result (omega arith) c.entry-item.is c.loop-entry.invariant.back c.loop-entry.invariant.listed c.record_entry.ensures.listed

pub returns-clause-recorded : goal.returns-clause-recorded
returns-clause-recorded c = λ h. recorded-end c.loop-entry.self c.args.entries.now c.loop-entry.entry-index (omega arith) c.loop-entry.invariant.recorded
