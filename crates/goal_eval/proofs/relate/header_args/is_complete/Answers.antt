use Rattle.std.proofs.Common.{sym, ◌∙◌, arith}
use Rattle.goal_eval.proofs.HeaderArgLemmas.{complete-more, complete-none, complete-end}
use Rattle.goal_eval.proofs.relate.header_args.is_complete.Goals as goal

pub returns-then-not-is_settled : goal.returns-then-not-is_settled
returns-then-not-is_settled c =
    complete-none c.args.params.now c.args.known.now c.loop-i.i _ _ _ (omega arith) (omega (arith, c.requires)) (sym c.is_settled.ensures ∙ c.if-not-is_settled.true) c.loop-i.invariant

pub loop-i-preserved : goal.loop-i-preserved
loop-i-preserved c =
    complete-more c.args.params.now c.args.known.now c.loop-i.i _ _ _ (omega arith) (omega (arith, c.requires)) (sym c.is_settled.ensures ∙ c.if-not-is_settled.false) c.loop-i.invariant

pub returns : goal.returns
returns c = complete-end c.args.params.now c.args.known.now c.loop-i.i _ (omega arith) c.loop-i.invariant
