use Rattle.goal_solver.proofs.AliasShapeLemmas.{type-alias}
use Rattle.goal_solver.proofs.context.instantiate.type_alias.Goals as goal

pub unreachable-requires : goal.unreachable-requires
unreachable-requires c = type-alias c.args.ty c.requires c.in_default.not-Alias
