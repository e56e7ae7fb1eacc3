use Rattle.std.proofs.Common.{◌≡◌}
use Rattle.goal_infer.specs.Occurrence.{joined}
use Rattle.goal_infer.specs.Resolution.{resolved}
use Rattle.goal_infer.proofs.PartLemmas.{places_from}
use Rattle.goal_infer.proofs.occurs.+occurs.Given as goal
use Rattle.goal_infer.proofs.ReplacementLemmas.{height}

abbrev pub decreases-occurs : goal.decreases-occurs
decreases-occurs l = height (resolved l.table.now l.state.now l.id)

abbrev pub invariant-loop-part : goal.invariant-loop-part
invariant-loop-part l =
    joined l.place (places_from l.table l.state l.variable l.part-items l.part-index) ≡ places_from l.table l.state l.variable l.part-items 0
