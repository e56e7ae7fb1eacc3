use Rattle.goal_infer.specs.Resolution.{term_at}
use Rattle.goal_solver.proofs.LifetimeLemmas.{kinds-added}
use Rattle.goal_solver.proofs.relate.lifetimes.equate_in_step.Goals as goal

pub equate_regions-requires-clause-identical : goal.equate_regions-requires-clause-identical
unfolding term_at
equate_regions-requires-clause-identical c = c.requires.identical

pub returns-clause-in_step : goal.returns-clause-in_step
returns-clause-in_step c =
    kinds-added c.add_region_kinds.result c.len.result c.args.kinds.now.items c.add_region_kinds.new.kinds.items c.args.inference.now c.equate_regions.new.state
    c.in_ok-equate_regions.ensures.kinds c.len.ensures c.add_region_kinds.ensures.added
