use Rattle.std.proofs.Common.{◌<◌, length, sym, ◌∙◌, arith}
use Rattle.goal_tables.proofs.MarkLemmas.{marking-hit, marking-miss, has_param-within}
use Rattle.goal_tables.proofs.fixed_params.mark_own.Goals as goal

pub bounds-marks-number : goal.bounds-marks-number
bounds-marks-number c =
    let within : c.args.number < length c.args.params.now = has_param-within c.args.params.now c.args.number c.args.kind (sym c.has_param.ensures ∙ c.if-has_param.true) in
    omega arith

pub returns-then-has_param : goal.returns-then-has_param
returns-then-has_param c = marking-hit c.args.params.now c.args.marks.now c.args.number c.args.kind c.requires (sym c.has_param.ensures ∙ c.if-has_param.true)

pub returns-else-has_param : goal.returns-else-has_param
returns-else-has_param c = marking-miss c.args.params.now c.args.marks.now c.args.number c.args.kind (sym c.has_param.ensures ∙ c.if-has_param.false)
