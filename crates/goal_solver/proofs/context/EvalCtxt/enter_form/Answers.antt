use Rattle.std.proofs.Common.{refl, sym, subst}
use Rattle.goal_terms.specs.View.{trees_seen}
use Rattle.goal_interner.proofs.InternLemmas.{keeps-refl}
use Rattle.goal_lists.specs.Interned.{AreIn}
use Rattle.goal_solver.proofs.OpenHeaderLemmas.{enters-nothing, memory-fault, on_ok-always}
use Rattle.goal_solver.proofs.RefusalLemmas.{memory-only}
use Rattle.goal_solver.proofs.context.EvalCtxt.enter_form.Goals as goal

pub returns-then-not-have_one_sort : goal.returns-then-not-have_one_sort
returns-then-not-have_one_sort c = record {
  entered =
      on_ok-always c.pass_over-then-not-have_one_sort.result
      (enters-nothing c.args.self.now.terms c.args.alias c.args.form (trees_seen c.args.terms) c.args.opened.now.ids.items c.pass_over-then-not-have_one_sort.new.opened.ids.items
      c.pass_over-then-not-have_one_sort.ensures.ids);
  within = on_ok-always c.pass_over-then-not-have_one_sort.result (subst (AreIn c.args.self.now.terms) (sym c.pass_over-then-not-have_one_sort.ensures.ids) c.requires.within);
  refused = memory-only _ c.pass_over-then-not-have_one_sort.result c.pass_over-then-not-have_one_sort.ensures.only_memory;
  unchanged = refl;
  kept = keeps-refl c.args.self.now.terms;
  fault = memory-fault c.args.self.now c.args.self.now c.pass_over-then-not-have_one_sort.result c.pass_over-then-not-have_one_sort.ensures.only_memory;
}
