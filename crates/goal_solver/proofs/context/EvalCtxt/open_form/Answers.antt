use Rattle.std.proofs.Common.{◌≡◌, ◌∙◌, Option, Result}
use Rattle.goal_terms.specs.Erased.{erased}
use Rattle.goal_terms.specs.declared.terms.Term.{Term}
use Rattle.goal_kinds.specs.declared.faults.Fault.{Fault}
use Rattle.goal_solver.specs.OpenAnswers.{answers_term}
use Rattle.goal_solver.specs.OpenForms.{OpensFrom}
use Rattle.goal_solver.proofs.RoundLemmas.{handed-on}
use Rattle.goal_terms.specs.TreeOf.{tree_of_alias}
use Rattle.goal_solver.specs.HeadForms.{bound_term}
use Rattle.goal_solver.proofs.AddedGoalLemmas.{fault-later, records-through}
use Rattle.goal_solver.proofs.GoingBackLemmas.{goes_back-grown, goes_back-through}
use Rattle.goal_solver.proofs.FaultLemmas.{grown-faults}
use Rattle.goal_solver.proofs.OpenFormLemmas.{known, left-opens, opens-form, restored-grown, restored-twice}
use Rattle.goal_solver.proofs.OpenTraitLemmas.{grown-records}
use Rattle.goal_solver.proofs.context.EvalCtxt.open_form.Goals as goal

pub returns-in-Some-clause-opens : goal.returns-in-Some-clause-opens
returns-in-Some-clause-opens c = λ holds.
    opens-form answers_term c.args.environment.now (bound_term c.args.self.now c.args.term.now) (erased (tree_of_alias c.in-Some.alias)) c.args.self.now c.open_alias.new.self c.form_of_open.new.self c.form_of_open.result (restored-grown c.args.self.now c.open_alias.new.self c.open_alias.ensures.unchanged) (known c.in_ok-open_alias.field-0 c.in-Some.alias (λ a. erased (tree_of_alias a) ≡ bound_term c.args.self.now c.args.term.now) c.in-Some.is c.in_ok-open_alias.ensures.alias) c.form_of_open.ensures.opens

pub returns-in-Some-clause-unchanged : goal.returns-in-Some-clause-unchanged
returns-in-Some-clause-unchanged c = λ none. restored-twice c.args.self.now c.open_alias.new.self c.form_of_open.new.self (restored-grown c.args.self.now c.open_alias.new.self c.open_alias.ensures.unchanged) (c.form_of_open.ensures.unchanged none)

pub returns-in-Some-clause-alone : goal.returns-in-Some-clause-alone
returns-in-Some-clause-alone c = records-through c.args.self.now c.open_alias.new.self c.form_of_open.new.self (grown-records c.args.self.now c.open_alias.new.self c.open_alias.ensures.unchanged) c.form_of_open.ensures.alone

pub returns-in-Some-clause-faults : goal.returns-in-Some-clause-faults
returns-in-Some-clause-faults c = c.form_of_open.ensures.faults ∙ grown-faults c.args.self.now c.open_alias.new.self c.open_alias.ensures.unchanged

pub returns-in-Some-clause-goes_back : goal.returns-in-Some-clause-goes_back
returns-in-Some-clause-goes_back c = goes_back-through c.args.self.now c.open_alias.new.self c.form_of_open.new.self (goes_back-grown c.args.self.now c.open_alias.new.self c.open_alias.ensures.unchanged c.open_alias.ensures.kept) c.form_of_open.ensures.goes_back

pub returns-in-Some-clause-fault : goal.returns-in-Some-clause-fault
returns-in-Some-clause-fault c = fault-later c.args.self.now c.open_alias.new.self c.form_of_open.new.self c.form_of_open.result (goes_back-grown c.args.self.now c.open_alias.new.self c.open_alias.ensures.unchanged c.open_alias.ensures.kept) c.form_of_open.ensures.fault

pub returns-in-None-clause-goes_back : goal.returns-in-None-clause-goes_back
returns-in-None-clause-goes_back c = goes_back-grown c.args.self.now c.open_alias.new.self c.open_alias.ensures.unchanged c.open_alias.ensures.kept

pub returns-in_err-open_alias-clause-opens : goal.returns-in_err-open_alias-clause-opens
returns-in_err-open_alias-clause-opens c = λ holds. (
  c.open_alias.new.self,
  restored-grown c.args.self.now c.open_alias.new.self c.open_alias.ensures.unchanged,
  handed-on c.from_residual.result c.in_err-open_alias.field-0.0 (λ (r : Result (Option Term) Fault). OpensFrom answers_term c.args.environment.now (bound_term c.args.self.now c.args.term.now) c.open_alias.new.self r c.open_alias.new.self) c.from_residual.ensures.1
      (left-opens answers_term c.args.environment.now (bound_term c.args.self.now c.args.term.now) c.open_alias.new.self c.open_alias.new.self c.in_err-open_alias.field-0.0 c.in_err-open_alias.ensures.only_memory),
)

pub returns-in_err-open_alias-clause-goes_back : goal.returns-in_err-open_alias-clause-goes_back
returns-in_err-open_alias-clause-goes_back c = goes_back-grown c.args.self.now c.open_alias.new.self c.open_alias.ensures.unchanged c.open_alias.ensures.kept
