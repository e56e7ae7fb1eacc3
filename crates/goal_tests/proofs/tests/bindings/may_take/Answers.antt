use Rattle.goal_terms.specs.View.{tree_of_ref}
use Rattle.goal_tests.proofs.FreeVariableLemmas.{free-as_found}
use Rattle.goal_tests.proofs.tests.bindings.may_take.Goals as goal

pub returns-in-Ok : goal.returns-in-Ok
returns-in-Ok c h =
    free-as_found c.args.tables.now c.args.context.now c.args.goal.now.predicate c.args.goal.now.param_env.items (tree_of_ref c.view.result) (tree_of_ref c.args.part) c.fits_type.result c.in-Ok.ensures.accepted c.view.ensures c.fits_type.ensures h
