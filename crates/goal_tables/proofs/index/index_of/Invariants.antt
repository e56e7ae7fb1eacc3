use Rattle.std.proofs.Common.{◌≡◌}
use Rattle.std.specs.HashMap.{get}
use Rattle.goal_tables.proofs.PlaceLemmas.{place_from, double_from}
use Rattle.goal_tables.proofs.index.index_of.Given as goal

abbrev pub invariant-loop-i : goal.invariant-loop-i
invariant-loop-i g l = record {
  places : (k : g.row.K.Denot) → get g.K.PartialEq.eq l.places k ≡ place_from g.K.PartialEq.eq l.keys l.i k;
  doubled : l.doubled ≡ double_from g.K.PartialEq.eq l.keys l.i;
}
