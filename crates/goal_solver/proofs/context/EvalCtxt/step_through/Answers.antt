use Rattle.std.proofs.Common.{◌∷◌, [], refl, subst}
use Rattle.std.specs.Prelude.{slice_get}
use Rattle.goal_terms.specs.declared.answers.GoalSource.TheVariants as source
use Rattle.goal_lists.specs.RowWords.{clauses_in, conditions_in}
use Rattle.goal_solver.specs.OpenRuns.{open_progress, named_trees, clauses_with, conditions_with, source_of, AddsRow}
use Rattle.goal_solver.proofs.BindingLemmas.{on_ok-map}
use Rattle.goal_solver.proofs.GoingBackLemmas.{goes_back-same}
use Rattle.goal_solver.proofs.OpenStepLemmas.{equation-step, clause-step, row-step, conditions-step, hidden-step, access-step, fault-step, fault-listed, undecided-step}
use Rattle.goal_solver.proofs.RecordedLemmas.{none-listed}
use Rattle.goal_solver.proofs.RefusalLemmas.{memory-only, refused-on, equation-refused, hidden-refused, refusal-refused}
use Rattle.goal_solver.proofs.context.EvalCtxt.step_through.Goals as goal

pub returns-in_ok-certainty-in-Equation-clause-steps : goal.returns-in_ok-certainty-in-Equation-clause-steps
returns-in_ok-certainty-in-Equation-clause-steps c =
    equation-step c.args.environment.now c.args.entry.now c.in-Equation.left c.in-Equation.right c.deref.result.now c.deref-in-Equation.result.now c.args.self.now (open_progress c.args.run.now)
    c.equate_args.new.self (open_progress c.join.new.self) c.in_ok-certainty-in-Equation.certainty c.in-Equation.is c.deref.ensures.value c.deref-in-Equation.ensures.value
    c.in_ok-certainty-in-Equation.ensures.equates c.join.ensures

pub returns-in_ok-ask_clause-in-Clause-clause-steps : goal.returns-in_ok-ask_clause-in-Clause-clause-steps
returns-in_ok-ask_clause-in-Clause-clause-steps c =
    clause-step c.args.environment.now c.args.entry.now c.in-Clause.source c.in-Clause.clause c.args.self.now (open_progress c.args.run.now) c.ask_clause.new.self (open_progress c.join-in-Clause.new.self)
    c.in-Clause.is c.in_ok-ask_clause-in-Clause.ensures.added c.join-in-Clause.ensures

pub returns-in_ok-certainty-in-RowClauses-clause-steps : goal.returns-in_ok-certainty-in-RowClauses-clause-steps
returns-in_ok-certainty-in-RowClauses-clause-steps c =
    row-step c.args.environment.now c.args.entry.now c.in-RowClauses.row c.in-RowClauses.number c.args.self.now (open_progress c.args.run.now) c.ask_row.new.self (open_progress c.join-in-RowClauses.new.self)
    c.in_ok-certainty-in-RowClauses.certainty c.in-RowClauses.is
    (subst (λ ns. AddsRow clauses_with (source_of c.in-RowClauses.row) c.args.environment.now (clauses_in c.args.self.now.tables c.in-RowClauses.row) (slice_get (named_trees ns) c.in-RowClauses.number) c.args.self.now
    c.in_ok-certainty-in-RowClauses.certainty c.ask_row.new.self) c.deref-in-RowClauses.ensures.value c.in_ok-certainty-in-RowClauses.ensures.added)
    c.join-in-RowClauses.ensures

pub returns-in_ok-certainty-in-RowConditions-clause-steps : goal.returns-in_ok-certainty-in-RowConditions-clause-steps
returns-in_ok-certainty-in-RowConditions-clause-steps c =
    conditions-step c.args.environment.now c.args.entry.now c.in-RowConditions.constness c.in-RowConditions.row c.in-RowConditions.number c.args.self.now (open_progress c.args.run.now) c.ask_row_conditions.new.self
    (open_progress c.join-in-RowConditions.new.self) c.in_ok-certainty-in-RowConditions.certainty c.in-RowConditions.is
    (subst (λ ns. AddsRow (conditions_with c.in-RowConditions.constness) source.ImplWhereBound c.args.environment.now (conditions_in c.args.self.now.tables c.in-RowConditions.row) (slice_get (named_trees ns) c.in-RowConditions.number)
    c.args.self.now c.in_ok-certainty-in-RowConditions.certainty c.ask_row_conditions.new.self) c.as_slice-named.ensures.value c.in_ok-certainty-in-RowConditions.ensures.added)
    c.join-in-RowConditions.ensures

pub returns-in_ok-certainty-in-HiddenType-clause-steps : goal.returns-in_ok-certainty-in-HiddenType-clause-steps
returns-in_ok-certainty-in-HiddenType-clause-steps c =
    hidden-step c.args.environment.now c.args.entry.now c.in-HiddenType.expected c.in-HiddenType.key c.in-HiddenType.first c.args.self.now (open_progress c.args.run.now) c.define_hidden_type.new.self
    (open_progress c.join-in-HiddenType.new.self) c.in_ok-certainty-in-HiddenType.certainty c.in-HiddenType.is c.in_ok-certainty-in-HiddenType.ensures.defines c.join-in-HiddenType.ensures

pub returns-in_err-certainty-in-HiddenType-clause-refused : goal.returns-in_err-certainty-in-HiddenType-clause-refused
returns-in_err-certainty-in-HiddenType-clause-refused c =
    refused-on _ c.from_residual-in_err-certainty-in-HiddenType.result c.in_err-certainty-in-HiddenType.field-0.0 c.from_residual-in_err-certainty-in-HiddenType.ensures.1
    (λ is. hidden-refused c.args.environment.now c.args.entry.now c.in-HiddenType.expected c.in-HiddenType.key c.in-HiddenType.first c.args.self.now (open_progress c.args.run.now) c.define_hidden_type.new.self
    c.in-HiddenType.is (c.in_err-certainty-in-HiddenType.ensures.refused is))

pub returns-in_ok-certainty-in-Access-clause-steps : goal.returns-in_ok-certainty-in-Access-clause-steps
returns-in_ok-certainty-in-Access-clause-steps c =
    access-step c.args.environment.now c.args.entry.now c.in-Access.access c.args.self.now (open_progress c.args.run.now) c.read_open.new.self (open_progress c.join-in-Access.new.self)
    c.in_ok-certainty-in-Access.certainty c.in-Access.is c.in_ok-certainty-in-Access.ensures.reads c.join-in-Access.ensures

pub returns-in-DelayedFault-clause-steps : goal.returns-in-DelayedFault-clause-steps
returns-in-DelayedFault-clause-steps c =
    on_ok-map c.record_fault.result
    (λ records. fault-step c.args.environment.now c.args.entry.now c.in-DelayedFault.fault c.args.self.now (open_progress c.args.run.now) c.record_fault.new.self c.in-DelayedFault.is records)
    c.record_fault.ensures.recorded

pub returns-in-DelayedFault-clause-listed : goal.returns-in-DelayedFault-clause-listed
returns-in-DelayedFault-clause-listed c =
    fault-listed c.record_fault.result c.args.entry.now c.in-DelayedFault.fault c.args.self.now c.record_fault.new.self c.in-DelayedFault.is c.record_fault.ensures.recorded c.record_fault.ensures.unchanged

pub returns-in-Ambiguous-clause-steps : goal.returns-in-Ambiguous-clause-steps
returns-in-Ambiguous-clause-steps c =
    undecided-step c.args.environment.now c.args.entry.now c.args.self.now (open_progress c.args.run.now) (open_progress c.join-in-Ambiguous.new.self) c.in-Ambiguous.is c.join-in-Ambiguous.ensures

pub returns-in-Ambiguous-clause-goes_back : goal.returns-in-Ambiguous-clause-goes_back
returns-in-Ambiguous-clause-goes_back c = goes_back-same c.args.self.now

pub returns-in_err-certainty-in-Equation-clause-refused : goal.returns-in_err-certainty-in-Equation-clause-refused
returns-in_err-certainty-in-Equation-clause-refused c =
    refused-on _ c.from_residual.result c.in_err-certainty-in-Equation.field-0.0 c.from_residual.ensures.1
    (λ is. equation-refused c.args.environment.now c.args.entry.now c.in-Equation.left c.in-Equation.right c.deref.result.now c.deref-in-Equation.result.now c.args.self.now
    (open_progress c.args.run.now) c.equate_args.new.self c.in-Equation.is c.deref.ensures.value c.deref-in-Equation.ensures.value (c.in_err-certainty-in-Equation.ensures.refused is))

pub returns-in-DelayedFault-clause-refused : goal.returns-in-DelayedFault-clause-refused
returns-in-DelayedFault-clause-refused c = memory-only _ c.record_fault.result c.record_fault.ensures.only_memory

pub returns-in-Ambiguous-clause-listed : goal.returns-in-Ambiguous-clause-listed
returns-in-Ambiguous-clause-listed c = none-listed c.args.self.now c.args.self.now (c.args.entry.now ∷ []) refl

pub returns-in-Refused-clause-refused : goal.returns-in-Refused-clause-refused
returns-in-Refused-clause-refused c = λ is. refusal-refused c.args.environment.now c.args.entry.now c.args.self.now (open_progress c.args.run.now) c.in-Refused.is

pub returns-in-Refused-clause-listed : goal.returns-in-Refused-clause-listed
returns-in-Refused-clause-listed c = none-listed c.args.self.now c.args.self.now (c.args.entry.now ∷ []) refl

pub returns-in-Refused-clause-goes_back : goal.returns-in-Refused-clause-goes_back
returns-in-Refused-clause-goes_back c = goes_back-same c.args.self.now
