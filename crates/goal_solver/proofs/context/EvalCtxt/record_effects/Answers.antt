use Rattle.std.proofs.Common.{◌⊎◌, sym, ap, ◌∙◌, subst}
use Rattle.std.specs.List.{All, Contains}
use Rattle.goal_lists.specs.Causes.{IsFaultCaused}
use Rattle.goal_solver.proofs.FaultLemmas.{accesses-faults}
use Rattle.goal_solver.specs.State.{State}
use Rattle.goal_solver.proofs.context.EvalCtxt.record_effects.Goals as goal

pub returns-in_err-record_accesses-clause-listed : goal.returns-in_err-record_accesses-clause-listed
returns-in_err-record_accesses-clause-listed c = λ a h.
    subst (λ xs. Contains c.args.self.now.accesses a ⊎ Contains xs a) c.deref.ensures.value (c.record_accesses.ensures.listed a h)

pub returns-clause-listed : goal.returns-clause-listed
returns-clause-listed c = λ a h.
    subst (λ xs. Contains c.args.self.now.accesses a ⊎ Contains xs a) c.deref.ensures.value
    (c.record_accesses.ensures.listed a (subst (λ (s : State). Contains s.accesses a) c.record_faults.ensures.unchanged h))

pub returns-in_err-record_accesses-clause-faults : goal.returns-in_err-record_accesses-clause-faults
returns-in_err-record_accesses-clause-faults c = λ all. accesses-faults c.args.self.now c.record_accesses.new.self c.record_accesses.ensures.unchanged

pub returns-clause-faults : goal.returns-clause-faults
returns-clause-faults c = λ all.
    c.record_faults.ensures.faults
    (subst (λ t. All (IsFaultCaused t) c.deref-2.result.now) (sym (ap (λ (s : State). s.tables) c.record_accesses.ensures.unchanged)) (subst (All (IsFaultCaused c.args.self.now.tables)) (sym c.deref-2.ensures.value) all))
    ∙ accesses-faults c.args.self.now c.record_accesses.new.self c.record_accesses.ensures.unchanged
