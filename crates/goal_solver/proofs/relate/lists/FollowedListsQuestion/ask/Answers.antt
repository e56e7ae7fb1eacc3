use Rattle.std.proofs.Common.{true}
use Rattle.goal_lists.specs.Interned.{erased_all}
use Rattle.goal_solver.proofs.RelatedLemmas.{settled-at, memory-alone}
use Rattle.goal_solver.proofs.relate.lists.FollowedListsQuestion.ask.Goals as goal

pub relate_resolved_lists-requires-clause-alike : goal.relate_resolved_lists-requires-clause-alike
relate_resolved_lists-requires-clause-alike c = (true, c.requires.asked.0, c.requires.asked.1)

pub returns-clause-says : goal.returns-clause-says
returns-clause-says c = λ m runs.
    settled-at c.args.setting.now c.args.self.now.opens c.args.depth (erased_all c.args.terms.now c.args.self.now.left.now) (erased_all c.args.terms.now c.args.self.now.right.now) c.relate_resolved_lists.result m runs
    c.relate_resolved_lists.ensures.same c.relate_resolved_lists.ensures.says

pub returns-clause-memory : goal.returns-clause-memory
returns-clause-memory c = memory-alone _ c.relate_resolved_lists.result c.relate_resolved_lists.ensures.same
