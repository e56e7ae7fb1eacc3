use Rattle.std.proofs.Common.{rules}
use Rattle.goal_infer.proofs.ResolveLemmas.{binding_of-unmade, binding_of-same, binding_of-other}
use Rattle.goal_infer.proofs.resolve.binding.Goals as goal

pub returns-then-place-len : goal.returns-then-place-len
returns-then-place-len c = binding_of-unmade c.args.state.now c.args.variable (search rules)

pub returns-then-same_kind : goal.returns-then-same_kind
returns-then-same_kind c = binding_of-same c.args.state.now c.args.variable c.variable-found.result (search rules) (search rules)

pub returns-else-same_kind : goal.returns-else-same_kind
returns-else-same_kind c = binding_of-other c.args.state.now c.args.variable c.variable-found.result (search rules) (search rules)
