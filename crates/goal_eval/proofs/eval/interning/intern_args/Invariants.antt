use Rattle.goal_eval.proofs.InterningLemmas.{AreInterned}
use Rattle.goal_eval.proofs.eval.interning.intern_args.Given as goal

abbrev pub invariant-loop-arg : goal.invariant-loop-arg
invariant-loop-arg l = AreInterned l.initial.terms l.terms l.ids.items l.args l.arg-index
