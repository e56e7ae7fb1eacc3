use Rattle.std.proofs.Common.{ap, subst, ◌∙◌}
use Rattle.std.specs.Prelude.{slice_get}
use Rattle.goal_terms.specs.TreeOf.{trees_of}
use Rattle.goal_terms.specs.declared.answers.GoalSource.{GoalSource}
use Rattle.goal_tables.specs.declared.rows.Tables.{Tables}
use Rattle.goal_lists.specs.RowWords.{clauses_in}
use Rattle.goal_solver.specs.OpenRuns.{named_trees, clauses_with, source_of, AddsGoals}
use Rattle.goal_solver.proofs.GoingBackLemmas.{goes_back-same}
use Rattle.goal_solver.proofs.OpenStepLemmas.{number-named, number-unnamed, row-unnamed, row-added}
use Rattle.goal_solver.proofs.context.EvalCtxt.ask_row.Goals as goal

pub returns-in_default-clause-goes_back : goal.returns-in_default-clause-goes_back
returns-in_default-clause-goes_back c = goes_back-same c.args.self.now

pub returns-in_default-args_of_number-clause-added : goal.returns-in_default-args_of_number-clause-added
returns-in_default-args_of_number-clause-added c =
    row-unnamed clauses_with (source_of c.args.row) c.args.environment.now (clauses_in c.args.self.now.tables c.args.row) (slice_get (named_trees c.args.named.now) c.args.number) c.args.self.now
    (number-unnamed c.args.named.now c.args.number c.in_default-args_of_number.ensures)

pub returns-in_default-args_of_number-clause-goes_back : goal.returns-in_default-args_of_number-clause-goes_back
returns-in_default-args_of_number-clause-goes_back c = goes_back-same c.args.self.now

pub returns-clause-added : goal.returns-clause-added
returns-clause-added c =
    row-added clauses_with (source_of c.args.row) c.args.environment.now c.in-Some.clauses.now (trees_of c.in-Some-args_of_number.args.now.items) (clauses_in c.args.self.now.tables c.args.row)
    (slice_get (named_trees c.args.named.now) c.args.number) c.args.self.now c.ask_clauses.new.self
    (c.in-Some.ensures ∙ ap (λ (t : Tables). clauses_in t c.args.row) (c.rows.ensures.rows ∙ c.tables-tables.ensures))
    (number-named c.args.named.now c.args.number c.in-Some-args_of_number.args.now c.in-Some-args_of_number.ensures)
    (subst (λ (g : GoalSource). AddsGoals g c.args.environment.now (clauses_with (trees_of c.in-Some-args_of_number.args.now.items) c.in-Some.clauses.now) c.args.self.now c.ask_clauses.new.self)
    c.source_of.ensures
    (subst (λ xs. AddsGoals c.source_of.result c.args.environment.now (clauses_with (trees_of xs) c.in-Some.clauses.now) c.args.self.now c.ask_clauses.new.self) c.deref.ensures.value
    c.in_ok-ask_clauses.ensures.added))
