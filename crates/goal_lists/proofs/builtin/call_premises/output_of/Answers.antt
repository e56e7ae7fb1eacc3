use Rattle.std.proofs.Common.{◌∙◌}
use Rattle.goal_interner.specs.TableMeaning.{tree_at}
use Rattle.goal_lists.specs.Interned.{erased_at}
use Rattle.goal_lists.proofs.CallPremiseLemmas.{pointer-arguments, pointer-output}
use Rattle.goal_lists.proofs.builtin.call_premises.output_of.Goals as goal

pub last_part-requires-clause-arguments : goal.last_part-requires-clause-arguments
last_part-requires-clause-arguments c =
    pointer-arguments (tree_at c.args.terms.now c.args.sig) c.node-top.result c.node-top.ensures.top c.node-top.ensures.fits c.requires.pointer

pub returns-clause-output : goal.returns-clause-output
returns-clause-output c = c.last_part.ensures.term ∙ pointer-output (erased_at c.args.terms.now c.args.sig) c.requires.pointer
