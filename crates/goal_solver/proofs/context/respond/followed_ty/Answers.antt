use Rattle.goal_infer.proofs.SolvedLemmas.{solved-kept}
use Rattle.goal_solver.proofs.SinceMarkLemmas.{type-here, type-there, type-no_constant}
use Rattle.goal_solver.proofs.context.respond.followed_ty.Goals as goal

pub follow-requires-clause-solved : goal.follow-requires-clause-solved
follow-requires-clause-solved c = solved-kept c.args.terms.now c.intern_part.new.self c.args.inference.now c.in_ok-id.ensures.kept c.requires.solved

pub to_term-requires : goal.to_term-requires
to_term-requires c =
    type-there c.intern_part.new.self c.follow.new.table c.in_ok-id.id c.in_ok-followed.followed c.args.ty.now
    c.in_ok-followed.ensures.within c.in_ok-id.ensures.tree c.in_ok-followed.ensures.sort

pub unreachable-requires : goal.unreachable-requires
unreachable-requires c =
    type-no_constant c.intern_part.new.self c.follow.new.table c.in_ok-id.id c.in_ok-followed.followed c.args.ty.now c.in-Const.field-0 c.in_ok-made.field-0
    c.in_ok-id.ensures.tree c.in_ok-followed.ensures.sort c.in_ok-made.ensures c.in-Const.is

pub returns-clause-followed : goal.returns-clause-followed
returns-clause-followed c =
    type-here c.args.terms.now c.intern_part.new.self c.follow.new.table c.args.inference.now c.in_ok-id.id c.in_ok-followed.followed c.args.ty.now c.in-Ty.made c.in_ok-made.field-0
    c.in_ok-id.ensures.kept c.requires.solved c.in_ok-id.ensures.tree c.in_ok-followed.ensures.tree c.in_ok-followed.ensures.same c.in_ok-made.ensures c.in-Ty.is
