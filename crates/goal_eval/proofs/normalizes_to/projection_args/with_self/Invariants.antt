use Rattle.std.proofs.Common.{◌≡◌, ◌∷◌, take}
use Rattle.goal_eval.proofs.normalizes_to.projection_args.with_self.Given as goal

abbrev pub invariant-loop-id : goal.invariant-loop-id
invariant-loop-id l = l.made.items ≡ l.fn.self_ty ∷ take l.id-index l.id-items
