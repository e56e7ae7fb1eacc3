use Rattle.goal_interner.specs.TableMeaning.{tree_at}
use Rattle.goal_terms.specs.Tree.{alias, forest}
use Rattle.std.proofs.Common.{◌≡◌, map}
use Rattle.goal_lists.specs.Interned.{erased_at, erased_all}
use Rattle.goal_lists.proofs.ResultLemmas.{ok-map}
use Rattle.goal_eval.proofs.ProjectionArgLemmas.{args_fit, alias-erased}
use Rattle.goal_eval.proofs.normalizes_to.projection_args.intern_alias.Goals as goal

pub intern_node-requires-clause-fits : goal.intern_node-requires-clause-fits
intern_node-requires-clause-fits c = args_fit c.args.terms.now c.args.args.now c.in_ok-parts.parts.items c.in_ok-parts.ensures c.requires

pub returns-clause-tree : goal.returns-clause-tree
returns-clause-tree c =
    ok-map (λ id. tree_at c.intern_node.new.self id ≡ alias c.args.kind (forest (map (tree_at c.args.terms.now) c.in_ok-parts.parts.items)))
    (λ id. erased_at c.intern_node.new.self id ≡ alias c.args.kind (forest (erased_all c.args.terms.now c.args.args.now))) c.intern_node.result
    (λ id e. alias-erased c.args.terms.now c.intern_node.new.self id c.args.kind c.args.args.now c.in_ok-parts.parts.items c.in_ok-parts.ensures e)
    c.intern_node.ensures.tree
