use Rattle.goal_lists.proofs.builtin.sized.constraint_is.Goals as goal

pub returns-clause-premises : goal.returns-clause-premises
returns-clause-premises c = rw (← c.in_ok-ty.ensures.term) (c.last_is.ensures.premises c.option_under.new.terms)
