use Rattle.std.proofs.Common.{◌≡◌}
use Rattle.goal_interner.specs.TableMeaning.{Keeps}
use Rattle.goal_solver.proofs.context.EvalCtxt.list_values.Given as goal

abbrev pub invariant-loop-place : goal.invariant-loop-place
invariant-loop-place l = record {
  unchanged : l.self ≡ record l.fn.self { terms = l.self.terms };
  kept : Keeps l.fn.self.terms l.self.terms;
}
