use Rattle.std.proofs.Common.{refl, sym, ap, ◌∙◌, subst}
use Rattle.std.specs.Fn.{FnOnceReturnsAtMut}
use Rattle.goal_solver.specs.GoingBack.{GoesBack, restored, begun}
use Rattle.goal_solver.specs.State.{State}
use Rattle.goal_solver.proofs.GoingBackLemmas.{goes_back-tried, valid-begun}
use Rattle.goal_solver.proofs.context.EvalCtxt.probe.Goals as goal

pub rollback-requires : goal.rollback-requires
rollback-requires g c =
    let gave : FnOnceReturnsAtMut g.F.FnOnce c.args.f (begun c.args.self.now) c.f-answered.result c.f-answered.new.arg2 =
    subst (λ z. FnOnceReturnsAtMut g.F.FnOnce c.args.f z c.f-answered.result c.f-answered.new.arg2) c.begin-around.ensures.began
    (record { shown = _; shows = refl; left = _; met = c.f-answered.ensures; leaves = refl }) in
    record { valid = (begun c.args.self.now, c.snapshot-before.ensures, c.requires.restores c.f-answered.result c.f-answered.new.arg2 gave, valid-begun c.args.self.now c.holds_together.ensures) }

pub returns-clause-answer : goal.returns-clause-answer
returns-clause-answer g c =
    let gave : FnOnceReturnsAtMut g.F.FnOnce c.args.f (begun c.args.self.now) c.f-answered.result c.f-answered.new.arg2 =
    subst (λ z. FnOnceReturnsAtMut g.F.FnOnce c.args.f z c.f-answered.result c.f-answered.new.arg2) c.begin-around.ensures.began
    (record { shown = _; shows = refl; left = _; met = c.f-answered.ensures; leaves = refl }) in (
      c.f-answered.new.arg2,
      gave,
      c.end.ensures
          ∙ ap (λ (z : State). record z { mark = c.begin-around.result })
          (c.rollback.ensures.undone (begun c.args.self.now) c.snapshot-before.ensures (c.requires.restores c.f-answered.result c.f-answered.new.arg2 gave))
          ∙ ap (λ m. record (restored (begun c.args.self.now) c.f-answered.new.arg2) { mark = m }) c.begin-around.ensures.around,
    )

pub returns-clause-restored : goal.returns-clause-restored
returns-clause-restored g c =
    let undone = (returns-clause-answer g c).2 in
    undone ∙ sym (ap (restored c.args.self.now) undone)

pub returns-clause-goes_back : goal.returns-clause-goes_back
returns-clause-goes_back g c =
    let answered = returns-clause-answer g c in
    subst (GoesBack c.args.self.now) (sym answered.2)
    (goes_back-tried c.args.self.now answered.0 (c.requires.restores c.f-answered.result answered.0 answered.1))
