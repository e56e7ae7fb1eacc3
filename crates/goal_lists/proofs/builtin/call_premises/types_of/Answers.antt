use Rattle.goal_interner.specs.TableMeaning.{tree_at}
use Rattle.goal_terms.specs.Tree.{parts_of}
use Rattle.goal_lists.proofs.CallPremiseLemmas.{pointer-types, pointer-arguments, read-types}
use Rattle.goal_lists.proofs.builtin.call_premises.types_of.Goals as goal

pub arguments_of-requires-clause-arguments : goal.arguments_of-requires-clause-arguments
arguments_of-requires-clause-arguments c =
    pointer-arguments (tree_at c.args.terms.now c.args.sig) c.node-top.result c.node-top.ensures.top c.node-top.ensures.fits c.requires.pointer

pub returns-clause-types : goal.returns-clause-types
returns-clause-types c =
    read-types c.args.terms.now (parts_of (tree_at c.args.terms.now c.args.sig)) c.arguments_of.result
    (pointer-types (tree_at c.args.terms.now c.args.sig) c.node-top.result c.node-top.ensures.top c.node-top.ensures.fits c.requires.pointer) c.arguments_of.ensures.trees
