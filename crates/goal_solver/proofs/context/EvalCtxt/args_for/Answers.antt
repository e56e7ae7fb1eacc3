use Rattle.goal_terms.specs.TreeOf.{trees_of}
use Rattle.goal_eval.specs.ErasedArgs.{erased_args}
use Rattle.goal_solver.specs.TranslatedArgs.{certainty_in}
use Rattle.goal_solver.proofs.GoingBackLemmas.{goes_back-grown}
use Rattle.goal_solver.proofs.TranslatedAnswers.{made_equal-grown, never-grown}
use Rattle.std.proofs.Common.{[]}
use Rattle.goal_solver.proofs.context.EvalCtxt.args_for.Goals as goal

pub returns-in_err-given-clause-goes_back : goal.returns-in_err-given-clause-goes_back
returns-in_err-given-clause-goes_back c = goes_back-grown c.args.self.now c.bound_args.new.self c.bound_args.ensures.unchanged c.bound_args.ensures.kept

pub returns-then-are_open-clause-made_equal : goal.returns-then-are_open-clause-made_equal
returns-then-are_open-clause-made_equal c = λ opened.
    made_equal-grown c.args.self.now c.equated_args.new.self c.args.environment.now c.args.other.now c.holds_together.ensures.solved c.bound_args.new.self (trees_of c.args.trait_ref.now.args.items) [] c.equated_args.result
    c.bound_args.ensures.unchanged c.bound_args.ensures.kept c.equated_args.ensures.made_equal

pub returns-then-are_open-clause-never : goal.returns-then-are_open-clause-never
returns-then-are_open-clause-never c = λ opened.
    never-grown c.args.self.now c.bound_args.new.self c.args.other.now (erased_args c.args.trait_ref.now.args.items) (certainty_in c.equated_args.result) c.holds_together.ensures.solved
    c.bound_args.ensures.unchanged c.bound_args.ensures.kept c.equated_args.ensures.never
