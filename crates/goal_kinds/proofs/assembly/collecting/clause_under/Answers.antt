use Rattle.goal_terms.specs.TreeOf.{trees_of}
use Rattle.goal_kinds.proofs.CollectedTermLemmas.{said-under}
use Rattle.goal_kinds.proofs.assembly.collecting.clause_under.Goals as goal

pub returns : goal.returns
returns c = said-under (trees_of c.args.args.now) c.args.clause.now c.in_ok-instantiate.field-0 c.in_ok-instantiate.ensures
