use Rattle.std.proofs.Common.{arith}
use Rattle.goal_interner.specs.TableMeaning.{tree_at}
use Rattle.goal_interner.proofs.UnderLemmas.{argument-none, argument-found, argument-other}
use Rattle.goal_interner.proofs.term_table.TermTable.argument_of.Goals as goal

pub returns-then-index-args-clause-tree : goal.returns-then-index-args-clause-tree
returns-then-index-args-clause-tree c = argument-none (tree_at c.args.self.now) c.args.args.now c.args.kind c.args.index (omega arith)

pub returns-then-not-same_kind-clause-tree : goal.returns-then-not-same_kind-clause-tree
returns-then-not-same_kind-clause-tree c =
    argument-other (tree_at c.args.self.now) c.args.args.now c.args.kind c.args.index (record { 0 = 0 }) c.same_kind.result c.kind_of.result c.node.result
    (omega arith) c.same_kind.ensures c.kind_of.ensures c.node.ensures.top c.if-not-same_kind.true

pub returns-clause-tree : goal.returns-clause-tree
returns-clause-tree c =
    argument-found (tree_at c.args.self.now) c.args.args.now c.args.kind c.args.index (record { 0 = 0 }) c.same_kind.result c.kind_of.result c.node.result
    (omega arith) c.same_kind.ensures c.kind_of.ensures c.node.ensures.top c.if-not-same_kind.false
