use Rattle.goal_terms.specs.View.{tree_of_ref}
use Rattle.goal_lists.proofs.UnderLemmas.{are_in-arguments}
use Rattle.goal_eval.proofs.HeaderArgLemmas.{ok-with, instance-tree, instance-in}
use Rattle.goal_eval.proofs.relate.header_args.instance_of.Goals as goal

pub intern_under-requires-clause-arguments : goal.intern_under-requires-clause-arguments
intern_under-requires-clause-arguments c = are_in-arguments c.args.terms.now c.args.args.now c.requires.args

pub returns-clause-within : goal.returns-clause-within
returns-clause-within c =
    ok-with c.intern_under.result c.intern_under.ensures.within c.intern_under.ensures.tree
    (λ id l e. instance-in c.args.terms.now c.intern_under.new.self c.args.args.now (tree_of_ref c.args.header) id c.requires.args c.requires.argument l e)

pub returns-clause-tree : goal.returns-clause-tree
returns-clause-tree c =
    ok-with c.intern_under.result c.intern_under.ensures.within c.intern_under.ensures.tree
    (λ id l e. instance-tree c.args.terms.now c.intern_under.new.self c.args.args.now (tree_of_ref c.args.header) id e)
