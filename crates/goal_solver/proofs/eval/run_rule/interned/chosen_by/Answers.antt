use Rattle.std.proofs.Common.{ap, ap₂, ◌∙◌, subst, sym}
use Rattle.goal_terms.specs.Erased.{erased}
use Rattle.goal_terms.specs.PredicateTrees.{tree_of_kind}
use Rattle.goal_terms.specs.Sorts.{IsArgument}
use Rattle.goal_interner.proofs.InternLemmas.{keeps-chain}
use Rattle.goal_lists.specs.Answers.{erased_predicate}
use Rattle.goal_lists.specs.Entries.{chosen_by}
use Rattle.goal_lists.specs.Interned.{erased_at}
use Rattle.goal_lists.proofs.InternedLemmas.{in-grown, same-grown, predicate_in-grown, predicate_same-grown}
use Rattle.goal_eval.proofs.RowTermLemmas.{term-argument}
use Rattle.goal_solver.proofs.eval.run_rule.interned.chosen_by.Goals as goal

pub returns-clause-within : goal.returns-clause-within
returns-clause-within c =
    let later = keeps-chain c.interned_clause.new.terms c.intern.new.self c.intern-2.new.self c.in_ok-held.ensures.kept c.in_ok-refuted.ensures.kept in (
      predicate_in-grown c.interned_clause.new.terms c.intern-2.new.self later c.in_ok-asked.asked c.in_ok-asked.ensures.within,
      in-grown c.intern.new.self c.intern-2.new.self c.in_ok-refuted.ensures.kept c.in_ok-held.held
          (c.in_ok-held.ensures.within, subst IsArgument (sym c.in_ok-held.ensures.tree) (term-argument c.args.first.now)),
      (c.in_ok-refuted.ensures.within, subst IsArgument (sym c.in_ok-refuted.ensures.tree) (term-argument c.args.second.now)),
    )

pub returns-clause-term : goal.returns-clause-term
returns-clause-term c =
    let later = keeps-chain c.interned_clause.new.terms c.intern.new.self c.intern-2.new.self c.in_ok-held.ensures.kept c.in_ok-refuted.ensures.kept in
    ap (λ p. chosen_by p (erased_at c.intern-2.new.self c.in_ok-held.held) (erased_at c.intern-2.new.self c.in_ok-refuted.refuted))
    (predicate_same-grown c.interned_clause.new.terms c.intern-2.new.self later c.in_ok-asked.asked c.in_ok-asked.ensures.within ∙ c.in_ok-asked.ensures.tree)
    ∙ ap₂ (λ t u. chosen_by (erased_predicate (tree_of_kind c.args.clause.now)) t u)
    (same-grown c.intern.new.self c.intern-2.new.self c.in_ok-refuted.ensures.kept c.in_ok-held.held
    (c.in_ok-held.ensures.within, subst IsArgument (sym c.in_ok-held.ensures.tree) (term-argument c.args.first.now)) ∙ ap erased c.in_ok-held.ensures.tree)
    (ap erased c.in_ok-refuted.ensures.tree)
