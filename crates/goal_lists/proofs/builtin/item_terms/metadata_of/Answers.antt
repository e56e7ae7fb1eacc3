use Rattle.goal_lists.proofs.ItemTermLemmas.{metadata-made}
use Rattle.goal_lists.proofs.builtin.item_terms.metadata_of.Goals as goal

pub returns-clause-tree : goal.returns-clause-tree
returns-clause-tree c =
    metadata-made c.args.terms.now c.intern_node.new.self c.args.item c.args.ty c.in-Some.ty c.in_ok-id.id c.push.new.self.items c.in_ok-args.args.items
    c.in-Some.is c.in_ok-args.ensures.items c.in_ok-push.ensures.items c.in_ok-id.ensures.tree
