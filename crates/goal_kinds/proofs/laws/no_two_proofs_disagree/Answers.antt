use Rattle.goal_lists.proofs.AnswerLaws.{answers-agree, classes-agree, terms-agree, substitutions-agree, headers-agree}
use Rattle.goal_kinds.proofs.laws.no_two_proofs_disagree.Goals as goal

pub returns-clause-answers : goal.returns-clause-answers
returns-clause-answers c = answers-agree

pub returns-clause-classes : goal.returns-clause-classes
returns-clause-classes c = classes-agree

pub returns-clause-terms : goal.returns-clause-terms
returns-clause-terms c = terms-agree

pub returns-clause-substitutions : goal.returns-clause-substitutions
returns-clause-substitutions c = substitutions-agree

pub returns-clause-headers : goal.returns-clause-headers
returns-clause-headers c = headers-agree
