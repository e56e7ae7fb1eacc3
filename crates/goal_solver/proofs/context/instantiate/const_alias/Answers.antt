use Rattle.goal_solver.proofs.AliasShapeLemmas.{const-alias}
use Rattle.goal_solver.proofs.context.instantiate.const_alias.Goals as goal

pub unreachable-requires : goal.unreachable-requires
unreachable-requires c = const-alias c.args.value c.requires c.in_default.not-Alias
