use Rattle.goal_tables.specs.Rows.{lang_adt_of}
use Rattle.goal_terms.specs.declared.lang.LangItem.TheVariants as lang
use Rattle.goal_lists.proofs.ItemTermLemmas.{dyn_metadata-made}
use Rattle.goal_lists.proofs.builtin.item_terms.dyn_metadata.Goals as goal

pub returns-clause-listed : goal.returns-clause-listed
returns-clause-listed c =
    dyn_metadata-made c.args.terms.now c.intern_node.new.self (lang_adt_of c.args.rows.now lang.DynMetadata) c.args.self_ty c.in_ok-id.id c.in-Some.adt
    c.push.new.self.items c.in_ok-args.args.items c.unconditional.result c.in-Some.ensures c.in_ok-args.ensures.items c.in_ok-push.ensures.items c.in_ok-id.ensures.tree
    (c.unconditional.ensures.listed c.intern_node.new.self)
