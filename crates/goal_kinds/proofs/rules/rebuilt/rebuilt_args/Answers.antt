use Rattle.std.proofs.Common.{arith}
use Rattle.goal_kinds.proofs.RebuiltLemmas.{args-more, args-all, given-same}
use Rattle.goal_kinds.proofs.rules.rebuilt.rebuilt_args.Goals as goal

pub loop-id-preserved : goal.loop-id-preserved
loop-id-preserved c =
    args-more c.args.terms.now c.args.ids.now c.loop-id.id-index _ c.loop-id.args.items c.push.new.self.items c.in_ok-arg.arg c.loop-id-test.true
    c.loop-id.invariant c.in_ok-arg.ensures c.in_ok-push.ensures.items

pub returns-clause-exact : goal.returns-clause-exact
returns-clause-exact c = args-all c.args.terms.now c.args.ids.now c.loop-id.id-index c.loop-id.args.items (omega arith) c.loop-id.invariant

pub returns-clause-trees : goal.returns-clause-trees
returns-clause-trees c =
    given-same c.args.terms.now c.args.ids.now c.loop-id.args
    (args-all c.args.terms.now c.args.ids.now c.loop-id.id-index c.loop-id.args.items (omega arith) c.loop-id.invariant)
