use Rattle.goal_lists.proofs.FittingLemmas.{are_below}
use Rattle.goal_lists.proofs.candidates.fitting.may_fit.Goals as goal

pub parts_agree-requires : goal.parts_agree-requires
parts_agree-requires c = are_below c.args.terms.now c.args.given.now c.requires
