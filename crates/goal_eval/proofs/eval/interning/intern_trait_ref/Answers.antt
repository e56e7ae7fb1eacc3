use Rattle.std.proofs.Common.{◌≡◌, ◌∙◌, ap, length, map}
use Rattle.std.proofs.lemmas.List.{length-map}
use Rattle.goal_interner.specs.TableMeaning.{tree_at}
use Rattle.goal_terms.specs.Tree.{node, forest}
use Rattle.goal_terms.specs.declared.heads.Head.TheVariants as head
use Rattle.goal_lists.specs.Interned.{erased_at, erased_all}
use Rattle.goal_lists.proofs.ResultLemmas.{ok-map}
use Rattle.goal_eval.proofs.ProjectionArgLemmas.{args_fit, clause-erased}
use Rattle.goal_eval.proofs.eval.interning.intern_trait_ref.Goals as goal

pub intern_node-requires-clause-fits : goal.intern_node-requires-clause-fits
intern_node-requires-clause-fits c = (
  length-map c.in_ok-parts.parts.items (tree_at c.args.terms.now) ∙ ap length c.in_ok-parts.ensures,
  args_fit c.args.terms.now c.args.args.now c.in_ok-parts.parts.items c.in_ok-parts.ensures c.requires,
)

pub returns-clause-tree : goal.returns-clause-tree
returns-clause-tree c =
    ok-map (λ id. tree_at c.intern_node.new.self id ≡ node (head.DynTrait c.args.trait_id (length c.args.args.now)) (forest (map (tree_at c.args.terms.now) c.in_ok-parts.parts.items)))
    (λ id. erased_at c.intern_node.new.self id ≡ node (head.DynTrait c.args.trait_id (length c.args.args.now)) (forest (erased_all c.args.terms.now c.args.args.now))) c.intern_node.result
    (λ id e. clause-erased c.args.terms.now c.intern_node.new.self id c.args.trait_id (length c.args.args.now) c.args.args.now c.in_ok-parts.parts.items c.in_ok-parts.ensures e)
    c.intern_node.ensures.tree
