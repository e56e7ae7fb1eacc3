use Rattle.std.proofs.Common.{subst, sym}
use Rattle.goal_terms.specs.Sorts.{IsArgument}
use Rattle.goal_eval.proofs.RowTermLemmas.{term-argument}
use Rattle.goal_solver.proofs.eval.run_rule.interned.interned_term.Goals as goal

pub returns-in_ok-id-in-AsItStands-clause-within : goal.returns-in_ok-id-in-AsItStands-clause-within
returns-in_ok-id-in-AsItStands-clause-within c = (c.in_ok-id-in-AsItStands.ensures.within, subst IsArgument (sym c.in_ok-id-in-AsItStands.ensures.tree) (term-argument c.in-AsItStands.term))

pub returns-in_ok-id-in-Normalized-clause-within : goal.returns-in_ok-id-in-Normalized-clause-within
returns-in_ok-id-in-Normalized-clause-within c = (c.in_ok-id-in-Normalized.ensures.within, subst IsArgument (sym c.in_ok-id-in-Normalized.ensures.tree) (term-argument c.in-Normalized.term))
