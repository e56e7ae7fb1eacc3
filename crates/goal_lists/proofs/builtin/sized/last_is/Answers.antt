use Rattle.goal_lists.proofs.builtin.sized.last_is.Goals as goal

pub returns-in-Some-clause-premises : goal.returns-in-Some-clause-premises
returns-in-Some-clause-premises c T = rw c.in-Some.is (c.each_is.ensures.premises T)
