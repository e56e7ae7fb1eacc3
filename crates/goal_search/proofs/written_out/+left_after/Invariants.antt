use Rattle.goal_search.proofs.written_out.+left_after.Given as goal

abbrev pub decreases-left_after : goal.decreases-left_after
decreases-left_after l = l.id.0
