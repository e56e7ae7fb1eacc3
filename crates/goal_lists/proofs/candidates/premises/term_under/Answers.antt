use Rattle.goal_terms.specs.View.{tree_of_ref}
use Rattle.goal_lists.proofs.PremiseTerms.{instance-in, instance-erased}
use Rattle.goal_lists.proofs.UnderLemmas.{are_in-arguments}
use Rattle.goal_lists.proofs.candidates.premises.term_under.Goals as goal

pub intern_under-requires-clause-arguments : goal.intern_under-requires-clause-arguments
intern_under-requires-clause-arguments c = are_in-arguments c.args.terms.now c.args.args.now c.requires.known

pub returns-clause-within : goal.returns-clause-within
returns-clause-within c =
    instance-in c.args.terms.now c.intern_under.new.self c.args.args.now (tree_of_ref c.args.term) c.requires.known c.requires.argument c.intern_under.result
    c.intern_under.ensures.within c.intern_under.ensures.tree

pub returns-clause-tree : goal.returns-clause-tree
returns-clause-tree c =
    instance-erased c.args.terms.now c.intern_under.new.self c.args.args.now (tree_of_ref c.args.term) c.intern_under.result c.intern_under.ensures.tree
