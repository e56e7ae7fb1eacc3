use Rattle.std.proofs.Common.{◌∷◌, ◌++◌, [], length, get_or, refl, sym, ap, ◌∙◌}
use Rattle.std.proofs.lemmas.List.{append-nil}
use Rattle.goal_infer.specs.Inference.{Inference}
use Rattle.goal_infer.specs.RegionEquations.{numbered}
use Rattle.goal_infer.proofs.RegionStateLemmas.{regions-none, regions-count, regions-more, adds-regions, entered-more}
use Rattle.goal_infer.proofs.region_equations.enter.Goals as goal

pub loop-number-init : goal.loop-number-init
unfolding numbered
loop-number-init c = record {
  entered = sym (append-nil c.args.entered.now.items);
  made = sym (regions-none c.args.state.now);
}

pub loop-number-preserved : goal.loop-number-preserved
loop-number-preserved c = record {
  entered = entered-more c.args.binder (length c.args.state.now.variables) c.loop-number.number-index _ c.as_slice-number-items.result.now 0 c.in_ok-variable.variable
      c.args.entered.now.items c.push.new.self.items c.loop-number-test.true refl
      (c.in_ok-variable.ensures.number ∙ ap (λ (s : Inference). length s.variables) c.loop-number.invariant.made
      ∙ regions-count c.loop-number.number-index [] c.args.state.now)
      (c.in_ok-push.ensures.items ∙ ap (λ es. es ++ record { binder = c.args.binder; number = get_or c.as_slice-number-items.result.now c.loop-number.number-index 0; variable = c.in_ok-variable.variable } ∷ []) c.loop-number.invariant.entered);
  made = regions-more c.loop-number.number-index c.args.state.now c.loop-number.state c.new_variable.new.self c.loop-number.invariant.made c.in_ok-variable.ensures.made;
}

pub returns-in_err-push-clause-adds : goal.returns-in_err-push-clause-adds
returns-in_err-push-clause-adds c =
    adds-regions _ [] c.args.state.now c.new_variable.new.self
    (regions-more c.loop-number.number-index c.args.state.now c.loop-number.state c.new_variable.new.self c.loop-number.invariant.made c.in_ok-variable.ensures.made)
