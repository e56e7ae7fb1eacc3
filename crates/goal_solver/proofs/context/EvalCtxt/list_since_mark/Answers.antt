use Rattle.std.proofs.Common.{refl}
use Rattle.goal_solver.proofs.SinceMarkLemmas.{entries-kept}
use Rattle.goal_solver.proofs.context.EvalCtxt.list_since_mark.Goals as goal

pub returns-clause-listed : goal.returns-clause-listed
returns-clause-listed c = record {
  certainty = refl;
  proven_via = refl;
  base = c.base_of_mark-base.ensures;
  vars = c.in_ok-vars.ensures;
  values = c.in_ok-var_values.ensures.listed;
  equations = c.in_ok-region_equations.ensures;
  entries =
      entries-kept c.args.self.now c.values_since_mark.new.self c.in_ok-opaque_entries.opaque_entries.items
      c.in_ok-var_values.ensures.unchanged c.in_ok-var_values.ensures.kept c.holds_together.ensures.solved c.in_ok-opaque_entries.ensures.listed;
}
