use Rattle.goal_lists.proofs.AnswerLaws.{answer-within}
use Rattle.goal_lists.proofs.WithinHeaders.{within-fits, within-clashes}
use Rattle.goal_lists.proofs.WithinLevels.{within-level}
use Rattle.goal_kinds.proofs.laws.more_height_keeps_all.Goals as goal

pub returns-clause-answers : goal.returns-clause-answers
returns-clause-answers c S n m q a h d x = answer-within (within-level S n m h) q a d x

pub returns-clause-classes : goal.returns-clause-classes
returns-clause-classes c S n m v i ts h x = (within-level S n m h).through v i ts x

pub returns-clause-equal_terms : goal.returns-clause-equal_terms
returns-clause-equal_terms c S n m t u h x = (within-level S n m h).equal t u x

pub returns-clause-unequal_terms : goal.returns-clause-unequal_terms
returns-clause-unequal_terms c S n m t u h x = (within-level S n m h).unequal t u x

pub returns-clause-fits : goal.returns-clause-fits
returns-clause-fits c S n m params hs gs s h x = within-fits (within-level S n m h) params hs gs s x

pub returns-clause-clashes : goal.returns-clause-clashes
returns-clause-clashes c S n m params hs gs h x = within-clashes (within-level S n m h) params hs gs x
