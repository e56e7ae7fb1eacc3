use Rattle.goal_infer.proofs.RegionStateLemmas.{adds-go_back, adds-solved}
use Rattle.goal_infer.proofs.region_equations.equate_regions.Goals as goal

pub returns-clause-goes_back : goal.returns-clause-goes_back
returns-clause-goes_back c = adds-go_back c.args.state.now c.equate.new.state c.equate.ensures.adds

pub returns-clause-solved : goal.returns-clause-solved
returns-clause-solved c T solved = adds-solved T c.args.state.now c.equate.new.state c.equate.ensures.adds solved
