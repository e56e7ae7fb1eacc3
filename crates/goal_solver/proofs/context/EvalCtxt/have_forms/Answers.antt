use Rattle.std.proofs.Common.{◌≡◌, ◌+◌, ◌&&◌, ◌∙◌, Bool, Result, take, arith, refl, ap, sym, subst}
use Rattle.goal_kinds.specs.declared.faults.Fault.{Fault}
use Rattle.goal_solver.specs.OpenProjections.{FormsAll, LacksForm}
use Rattle.goal_solver.specs.Refusals.{WhenRefused}
use Rattle.goal_solver.proofs.GoingBackLemmas.{goes_back-same, goes_back-through}
use Rattle.goal_solver.proofs.OpenProjectionLemmas.{forms-none, forms-next, lacks-at, restored-through}
use Rattle.goal_solver.proofs.RoundLemmas.{handed-on}
use Rattle.goal_solver.proofs.context.EvalCtxt.have_forms.Goals as goal
use Rattle.goal_solver.proofs.context.EvalCtxt.have_forms.Goals.{then-formed, else-formed}

pub loop-arg-init : goal.loop-arg-init
loop-arg-init c = record { forms = forms-none c.args.environment.now c.args.self.now; unchanged = refl; back = goes_back-same c.args.self.now }

pub returns-in_err-has_form-clause-lacks : goal.returns-in_err-has_form-clause-lacks
returns-in_err-has_form-clause-lacks c =
    handed-on c.from_residual.result c.in_err-has_form.field-0.0 (λ (r : Result Bool Fault). WhenRefused r (LacksForm c.args.environment.now c.args.args.now c.args.self.now c.has_form.new.self)) c.from_residual.ensures.1
    (λ is. lacks-at c.args.environment.now c.args.args.now c.loop-arg.arg-index c.arg-item.result c.args.self.now c.loop-arg.self c.has_form.new.self c.loop-arg.formed (omega arith) c.arg-item.is
    c.loop-arg.invariant.forms (c.in_err-has_form.ensures.lacks is))

pub loop-arg-preserved : goal.loop-arg-preserved
loop-arg-preserved c =
    let joined : c.if-formed.formed ≡ (c.loop-arg.formed && c.in_ok-has_form.has_form) = elim c.if-formed.branch [
      | then-formed w ↦ w.formed-is ∙ sym (ap (λ b. b && c.in_ok-has_form.has_form) w.if-formed.true)
      | else-formed w ↦ w.formed-is ∙ w.if-formed.false ∙ sym (ap (λ b. b && c.in_ok-has_form.has_form) w.if-formed.false)
    ] in record {
      forms = subst (λ b. FormsAll c.args.environment.now (take (c.loop-arg.arg-index + 1) c.args.args.now) c.args.self.now b c.has_form.new.self) (sym joined)
          (forms-next c.args.environment.now c.args.args.now c.loop-arg.arg-index c.arg-item.result c.args.self.now c.loop-arg.self c.has_form.new.self c.loop-arg.formed c.in_ok-has_form.has_form
          (omega arith) c.arg-item.is c.loop-arg.invariant.forms c.in_ok-has_form.ensures.forms);
      unchanged = restored-through c.args.self.now c.loop-arg.self c.has_form.new.self c.loop-arg.invariant.unchanged c.has_form.ensures.unchanged;
      back = goes_back-through c.args.self.now c.loop-arg.self c.has_form.new.self c.loop-arg.invariant.back c.has_form.ensures.goes_back;
    }
