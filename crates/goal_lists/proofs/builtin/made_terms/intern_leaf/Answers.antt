use Rattle.std.proofs.Common.{◌∙◌, ap, map}
use Rattle.goal_terms.specs.Erased.{erased}
use Rattle.goal_interner.specs.TableMeaning.{tree_at}
use Rattle.goal_terms.specs.Tree.{node, forest}
use Rattle.goal_lists.proofs.MadeLemmas.{leaf-erased}
use Rattle.goal_lists.proofs.builtin.made_terms.intern_leaf.Goals as goal

pub returns-clause-tree : goal.returns-clause-tree
returns-clause-tree c =
    ap erased (c.in_ok-id.ensures.tree ∙ ap (λ ids. node c.args.head (forest (map (tree_at c.args.terms.now) ids))) c.new.ensures.items) ∙ leaf-erased c.args.head
