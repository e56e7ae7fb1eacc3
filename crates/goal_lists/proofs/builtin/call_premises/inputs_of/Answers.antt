use Rattle.std.proofs.Common.{arith}
use Rattle.goal_lists.proofs.CallPremiseLemmas.{inputs-fit, inputs-made}
use Rattle.goal_lists.proofs.builtin.call_premises.inputs_of.Goals as goal

pub intern_node-requires-clause-fits : goal.intern_node-requires-clause-fits
intern_node-requires-clause-fits c =
    inputs-fit c.args.terms.now c.in_ok-inputs.inputs.items c.pop.new.self.items _ c.len-count.result c.in_ok-inputs.ensures.types c.pop.ensures.rest (omega arith)

pub returns-clause-inputs : goal.returns-clause-inputs
returns-clause-inputs c =
    inputs-made c.args.terms.now c.intern_node.new.self c.args.sig c.in_ok-inputs.inputs.items c.pop.new.self.items _ c.len-count.result c.requires.pointer
    c.in_ok-inputs.ensures.terms c.pop.ensures.rest (omega arith) (omega arith) c.intern_node.result c.intern_node.ensures.tree
