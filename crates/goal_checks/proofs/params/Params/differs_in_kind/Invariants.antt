use Rattle.std.proofs.Common.{◌≡◌}
use Rattle.goal_terms.specs.View.{trees_seen}
use Rattle.goal_checks.specs.Params.{params_seen}
use Rattle.goal_checks.proofs.ParamLemmas.{differs_from}
use Rattle.goal_checks.proofs.params.Params.differs_in_kind.Given as goal

abbrev pub invariant-loop-i : goal.invariant-loop-i
invariant-loop-i l = differs_from (params_seen l.self) (trees_seen l.parts) l.i ≡ differs_from (params_seen l.self) (trees_seen l.parts) 0
