use Rattle.goal_eval.proofs.eval.listed_regions.ListedRegions.+add_listed.Given as goal

abbrev pub decreases-add_listed : goal.decreases-add_listed
decreases-add_listed l = l.before
