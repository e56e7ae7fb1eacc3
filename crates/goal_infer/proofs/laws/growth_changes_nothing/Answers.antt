use Rattle.goal_infer.proofs.SolvedLemmas.{agrees-kept, resolved-kept}
use Rattle.goal_infer.proofs.laws.growth_changes_nothing.Goals as goal

pub returns-clause-agreement : goal.returns-clause-agreement
returns-clause-agreement c = agrees-kept

pub returns-clause-terms : goal.returns-clause-terms
returns-clause-terms c = resolved-kept
