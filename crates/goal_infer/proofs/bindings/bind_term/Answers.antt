use Rattle.std.proofs.Common.{◌∙◌, ap}
use Rattle.std.specs.Prelude.{slice_get}
use Rattle.std.proofs.lemmas.Result.{on_ok_weaker}
use Rattle.goal_infer.proofs.BindingLemmas.{IsRooted, slot, advances-rooted, answer-rooted, bound-rooted, itself-rooted}
use Rattle.goal_infer.proofs.UnifyLemmas.{IsFree, free-variable}
use Rattle.goal_infer.proofs.bindings.bind_term.Goals as goal

pub bind-requires : goal.bind-requires
bind-requires c =
    let x : IsFree c.args.state.now c.args.variable = free-variable c.args.state.now c.args.variable c.requires.made c.requires.unbound in
    record { unbound = (x.0, ap (slice_get c.args.state.now.variables) c.number.ensures ∙ x.1, x.3) }

rooted : (c : goal.After-bind) → IsRooted c.args.table.now c.args.state.now c.args.variable c.args.id c.resolve-root.result
rooted c = record {
  solved = c.requires.solved;
  made = c.requires.made;
  unbound = c.requires.unbound;
  takes = c.requires.takes;
  free = c.requires.free;
  within = c.resolve-root.ensures.within;
  ended = c.resolve-root.ensures.unbound;
  same = c.resolve-root.ensures.same;
}

pub returns-clause-advances : goal.returns-clause-advances
returns-clause-advances c =
    let x : IsFree c.args.state.now c.args.variable = slot _ _ _ _ _ (rooted c) in
    on_ok_weaker c.bind.result (advances-rooted _ _ _ _ _ (rooted c) c.bind.new.self c.number.result c.number.ensures)
    (c.bind.ensures.bound x.0 (ap (slice_get c.args.state.now.variables) c.number.ensures ∙ x.1))

pub returns-clause-answer : goal.returns-clause-answer
returns-clause-answer c =
    let x : IsFree c.args.state.now c.args.variable = slot _ _ _ _ _ (rooted c) in
    on_ok_weaker c.bind.result (answer-rooted _ _ _ _ _ (rooted c) c.bind.new.self c.number.result c.number.ensures)
    (c.bind.ensures.bound x.0 (ap (slice_get c.args.state.now.variables) c.number.ensures ∙ x.1))

pub returns-clause-bound : goal.returns-clause-bound
returns-clause-bound c =
    let x : IsFree c.args.state.now c.args.variable = slot _ _ _ _ _ (rooted c) in
    on_ok_weaker c.bind.result (bound-rooted _ _ _ _ _ (rooted c) c.bind.new.self c.number.result c.number.ensures)
    (c.bind.ensures.bound x.0 (ap (slice_get c.args.state.now.variables) c.number.ensures ∙ x.1))

pub returns-clause-itself : goal.returns-clause-itself
returns-clause-itself c = λ ended.
    let x : IsFree c.args.state.now c.args.variable = slot _ _ _ _ _ (rooted c) in
    on_ok_weaker c.bind.result (λ e. itself-rooted _ _ _ _ _ (rooted c) c.bind.new.self c.number.result c.number.ensures e (c.resolve-root.ensures.itself ended))
    (c.bind.ensures.bound x.0 (ap (slice_get c.args.state.now.variables) c.number.ensures ∙ x.1))
