use Rattle.std.proofs.Common.{◌∙◌}
use Rattle.goal_interner.proofs.TermFlagLemmas.{flags_read}
use Rattle.goal_interner.proofs.term_table.TermTable.flags.Goals as goal

pub returns : goal.returns
returns c =
    c.index.ensures
    ∙ flags_read c.self.inside.nodes.keys c.self.inside.flags.items c.args.self.now c.self.invariant c.self.view_is c.args.id c.index.result.now c.requires
