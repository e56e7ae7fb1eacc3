use Rattle.std.proofs.Common.{refl, inl, arith}
use Rattle.goal_solver.proofs.GoingBackLemmas.{goes_back-same, goes_back-through}
use Rattle.goal_solver.proofs.AccessLemmas.{listed-next}
use Rattle.goal_solver.proofs.RerunLemmas.{accesses-alone}
use Rattle.goal_solver.proofs.context.EvalCtxt.record_accesses.Goals as goal

pub loop-access-init : goal.loop-access-init
loop-access-init c = record {
  listed = λ a h. inl h;
  unchanged = refl;
  back = goes_back-same c.args.self.now;
}

pub loop-access-preserved : goal.loop-access-preserved
loop-access-preserved c = record {
  listed = listed-next c.args.accesses.now c.args.self.now.accesses c.loop-access.self.accesses c.meet_access.new.self.accesses c.loop-access.access-index _ (omega arith) c.loop-access.invariant.listed c.meet_access.ensures.listed;
  unchanged = accesses-alone c.args.self.now c.loop-access.self c.meet_access.new.self c.loop-access.invariant.unchanged c.meet_access.ensures.unchanged;
  back = goes_back-through c.args.self.now c.loop-access.self c.meet_access.new.self c.loop-access.invariant.back c.meet_access.ensures.goes_back;
}

pub returns-in_err-meet_access-clause-unchanged : goal.returns-in_err-meet_access-clause-unchanged
returns-in_err-meet_access-clause-unchanged c = accesses-alone c.args.self.now c.loop-access.self c.meet_access.new.self c.loop-access.invariant.unchanged c.meet_access.ensures.unchanged

pub returns-in_err-meet_access-clause-goes_back : goal.returns-in_err-meet_access-clause-goes_back
returns-in_err-meet_access-clause-goes_back c = goes_back-through c.args.self.now c.loop-access.self c.meet_access.new.self c.loop-access.invariant.back c.meet_access.ensures.goes_back

pub returns-in_err-meet_access-clause-listed : goal.returns-in_err-meet_access-clause-listed
returns-in_err-meet_access-clause-listed c =
    listed-next c.args.accesses.now c.args.self.now.accesses c.loop-access.self.accesses c.meet_access.new.self.accesses c.loop-access.access-index _ (omega arith)
    c.loop-access.invariant.listed c.meet_access.ensures.listed
