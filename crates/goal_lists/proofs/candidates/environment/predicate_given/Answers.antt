use Rattle.std.proofs.Common.{sym, ◌∙◌, subst}
use Rattle.goal_terms.specs.Sorts.{IsArgument}
use Rattle.goal_lists.proofs.InternedLemmas.{in-grown}
use Rattle.goal_lists.proofs.PremiseTerms.{term-argument, alias-argument}
use Rattle.goal_lists.proofs.candidates.environment.predicate_given.Goals as goal

pub returns-in_ok-term-in-Projection-clause-within : goal.returns-in_ok-term-in-Projection-clause-within
returns-in_ok-term-in-Projection-clause-within c = (
  in-grown c.intern_part.new.self c.intern_part-in-Projection.new.self c.in_ok-term-in-Projection.ensures.kept c.in_ok-alias-in-Projection.alias (
    c.in_ok-alias-in-Projection.ensures.within,
    subst IsArgument (sym c.in_ok-alias-in-Projection.ensures.tree) (alias-argument c.in-Projection.clause.projection_term),
  ),
  (
    c.in_ok-term-in-Projection.ensures.within,
    subst IsArgument (sym (c.in_ok-term-in-Projection.ensures.tree ∙ c.view.ensures)) (term-argument c.in-Projection.clause.term),
  ),
)
