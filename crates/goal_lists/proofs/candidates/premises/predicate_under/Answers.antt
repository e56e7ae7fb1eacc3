use Rattle.std.proofs.Common.{sym, ap, ◌∙◌, subst}
use Rattle.goal_terms.specs.PredicateTrees.{tree_of_kind}
use Rattle.goal_terms.specs.Sorts.{IsArgument}
use Rattle.goal_terms.specs.TreeOf.{tree_of_alias, tree_of_term}
use Rattle.goal_lists.specs.Interned.{erased_all}
use Rattle.goal_lists.specs.Premises.{predicate_under}
use Rattle.goal_lists.proofs.PremiseTerms.{term-argument, alias-argument, both-under}
use Rattle.goal_lists.proofs.candidates.premises.predicate_under.Goals as goal

pub term_under-requires-clause-argument : goal.term_under-requires-clause-argument
term_under-requires-clause-argument c = alias-argument c.in-Projection.clause.projection_term

pub term_under-requires-in-Projection-clause-argument : goal.term_under-requires-in-Projection-clause-argument
term_under-requires-in-Projection-clause-argument c = subst IsArgument (sym c.view.ensures) (term-argument c.in-Projection.clause.term)

pub returns-in_ok-term-in-Projection-clause-tree : goal.returns-in_ok-term-in-Projection-clause-tree
returns-in_ok-term-in-Projection-clause-tree c =
    both-under c.args.terms.now c.term_under.new.terms c.term_under-in-Projection.new.terms c.args.args.now c.requires
    c.in_ok-alias-in-Projection.ensures.kept c.in_ok-term-in-Projection.ensures.kept c.in_ok-alias-in-Projection.alias c.in_ok-term-in-Projection.term
    (tree_of_alias c.in-Projection.clause.projection_term) _ (tree_of_term c.in-Projection.clause.term) c.in_ok-alias-in-Projection.ensures.within
    c.in_ok-alias-in-Projection.ensures.tree c.view.ensures c.in_ok-term-in-Projection.ensures.tree
    ∙ ap (λ k. predicate_under (erased_all c.args.terms.now c.args.args.now) (tree_of_kind k)) (sym c.in-Projection.is)
