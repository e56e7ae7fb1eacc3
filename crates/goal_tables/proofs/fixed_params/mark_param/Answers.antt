use Rattle.std.proofs.Common.{sym, subst}
use Rattle.goal_tables.specs.FixedParams.{is_param, AddsMarks}
use Rattle.goal_tables.proofs.MarkLemmas.{marking-none}
use Rattle.goal_tables.proofs.fixed_params.mark_param.Goals as goal

pub returns-in-None : goal.returns-in-None
returns-in-None c = subst (λ f. AddsMarks c.args.params.now (λ k n. is_param k n f) c.args.marks.now c.args.marks.now) (sym c.in-None.is) (marking-none c.args.params.now c.args.marks.now)

pub returns-in-Some : goal.returns-in-Some
returns-in-Some c = subst (λ f. AddsMarks c.args.params.now (λ k n. is_param k n f) c.args.marks.now c.mark_own.new.marks) (sym c.in-Some.is) c.mark_own.ensures
