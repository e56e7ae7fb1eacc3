use Rattle.std.proofs.Common.{◌∙◌, ap}
use Rattle.goal_tables.specs.declared.rows.Tables.{Tables}
use Rattle.goal_terms.specs.TreeOf.{trees_of, tree_of_ty}
use Rattle.goal_solver.specs.HiddenTypes.{bounds_in}
use Rattle.goal_solver.proofs.GoingBackLemmas.{goes_back-same}
use Rattle.goal_solver.proofs.HiddenTypeLemmas.{bounds-added}
use Rattle.goal_solver.proofs.context.EvalCtxt.ask_bounds.Goals as goal

pub returns-in_default-clause-goes_back : goal.returns-in_default-clause-goes_back
returns-in_default-clause-goes_back c = goes_back-same c.args.self.now

pub returns-clause-added : goal.returns-clause-added
returns-clause-added c =
    bounds-added c.ask_clauses.result c.args.environment.now c.args.id (trees_of c.args.args.now) _ (tree_of_ty c.args.hidden.now) c.bounds_of-bounds.result.now c.args.self.now c.ask_clauses.new.self
    (ap trees_of c.deref.ensures.value ∙ c.in-Ok.ensures)
    (c.bounds_of-bounds.ensures ∙ ap (λ (t : Tables). bounds_in t c.args.id) (c.rows.ensures.rows ∙ c.tables-tables.ensures)) c.ask_clauses.ensures.added
