use Rattle.std.proofs.Common.{◌≡◌, take}
use Rattle.goal_solver.specs.GoingBack.{GoesBack, restored}
use Rattle.goal_eval.specs.Lists.{RunIn}
use Rattle.goal_solver.specs.RunRules.{AreRecorded, AreListed}
use Rattle.goal_solver.proofs.RuleAnswerLemmas.{RunsSoFar}
use Rattle.goal_solver.proofs.context.EvalCtxt.run_entries.Given as goal

abbrev pub invariant-loop-entry : goal.invariant-loop-entry
invariant-loop-entry l = record {
  within : RunIn l.self.terms l.run;
  unchanged : l.self ≡ restored l.fn.self l.self;
  back : GoesBack l.fn.self l.self;
  recorded : AreRecorded l.self (take l.entry-index l.entries);
  listed : AreListed l.entries l.fn.self l.self;
  so_far : RunsSoFar l.fn.self l.on_access l.environment l.entries l.self.terms l.run l.entry-index;
}
