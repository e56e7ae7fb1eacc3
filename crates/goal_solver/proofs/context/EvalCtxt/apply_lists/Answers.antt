use Rattle.std.proofs.Common.{rules}
use Rattle.goal_solver.proofs.BindingLemmas.{on_ok-map}
use Rattle.goal_solver.proofs.GoingBackLemmas.{goes_back-through}
use Rattle.goal_solver.proofs.ResponseLemmas.{aside-storage, applies-all, entries-free}
use Rattle.goal_solver.proofs.context.EvalCtxt.apply_lists.Goals as goal

pub enter_types-requires : goal.enter_types-requires
enter_types-requires c =
    entries-free c.args.self.now c.apply_aside.new.self c.deref.result.now c.args.response.now.opaque_entries.items
    (aside-storage c.args.self.now c.apply_aside.new.self c.args.response.now c.in_ok-apply_aside.ensures.applied)
    (search rules) c.requires.entries

pub returns-clause-applied : goal.returns-clause-applied
returns-clause-applied c =
    on_ok-map c.enter_types.result
    (λ n. applies-all c.args.self.now c.apply_aside.new.self c.enter_types.new.self c.args.response.now c.deref.result.now (search rules) c.in_ok-apply_aside.ensures.applied n)
    c.enter_types.ensures.entered

pub returns-clause-goes_back : goal.returns-clause-goes_back
returns-clause-goes_back c =
    goes_back-through c.args.self.now c.apply_aside.new.self c.enter_types.new.self c.apply_aside.ensures.goes_back c.enter_types.ensures.goes_back
