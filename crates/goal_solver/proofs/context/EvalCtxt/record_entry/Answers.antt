use Rattle.goal_solver.proofs.RecordedLemmas.{entry-listed}
use Rattle.goal_solver.proofs.context.EvalCtxt.record_entry.Goals as goal

pub returns-clause-listed : goal.returns-clause-listed
returns-clause-listed c =
    entry-listed c.args.self.now c.record_at_most.new.self c.args.entry.now c.to_record.result c.to_record.ensures c.record_at_most.ensures.listed
