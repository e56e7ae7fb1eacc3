use Rattle.goal_terms.specs.View.{tree_of_ref}
use Rattle.goal_solver.proofs.ComparisonLemmas.{same-terms}
use Rattle.goal_solver.proofs.comparison.RunAnswer.is_same.Goals as goal

pub returns-in-YesWith-YesWith : goal.returns-in-YesWith-YesWith
returns-in-YesWith-YesWith c =
    same-terms c.args.self.now c.args.other.now c.in-YesWith-YesWith.term c.in-YesWith-YesWith.given (tree_of_ref c.view.result) (tree_of_ref c.view-in-YesWith-YesWith.result) c.same.result
    c.in-YesWith-YesWith.is-0 c.in-YesWith-YesWith.is-1 c.view.ensures c.view-in-YesWith-YesWith.ensures c.same.ensures
