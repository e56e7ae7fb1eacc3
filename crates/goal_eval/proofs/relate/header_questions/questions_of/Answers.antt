use Rattle.goal_lists.specs.Levels.{level}
use Rattle.goal_eval.specs.HeaderWords.{ClashAt}
use Rattle.goal_eval.proofs.HeaderOutcomeLemmas.{nothing-asked}
use Rattle.goal_eval.proofs.relate.header_questions.questions_of.Goals as goal

pub returns-clause-says : goal.returns-clause-says
returns-clause-says c =
    λ S k ks. nothing-asked (ClashAt (level S k) ks c.args.terms.now) _ _ _ c.new-questions.ensures.items (c.in_ok-ask.ensures.says S k ks)
