use Rattle.goal_interner.specs.TableMeaning.{tree_at}
use Rattle.goal_lists.proofs.ClauseListLemmas.{alias-args_in}
use Rattle.goal_kinds.proofs.RebuiltLemmas.{no_other-of_erased, alias-made}
use Rattle.goal_kinds.proofs.rules.rebuilt.rebuilt_alias.Goals as goal

pub unreachable-requires : goal.unreachable-requires
unreachable-requires c = no_other-of_erased (tree_at c.args.terms.now c.args.id) c.node.result c.node.ensures.top c.in_default.not-Alias c.requires.alias

pub rebuilt_args-requires : goal.rebuilt_args-requires
rebuilt_args-requires c =
    alias-args_in c.args.terms.now c.args.id c.node.result c.in-Alias.kind c.parts.result.now c.in-Alias.is c.node.ensures.fits c.parts.ensures.trees
    c.parts.ensures.earlier c.requires.within.0

pub returns : goal.returns
returns c =
    alias-made c.args.terms.now c.args.id c.node.result _ c.parts.result.now c.node.ensures.top c.in-Alias.is c.parts.ensures.trees c.in_ok-args.ensures.exact
