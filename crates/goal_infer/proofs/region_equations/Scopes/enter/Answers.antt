use Rattle.std.proofs.Common.{[], length, ap, ◌∙◌}
use Rattle.goal_interner.specs.TableMeaning.{tree_at}
use Rattle.goal_infer.specs.Inference.{Inference}
use Rattle.goal_infer.specs.RegionEquations.{own_numbers, scopes_below, with_regions}
use Rattle.goal_infer.proofs.RegionStateLemmas.{regions-count, regions-twice, adds-through}
use Rattle.goal_infer.proofs.RegionEquationLemmas.{scopes-entered}
use Rattle.goal_infer.proofs.region_equations.Scopes.enter.Goals as goal

pub returns-in_err-enter-2-clause-adds : goal.returns-in_err-enter-2-clause-adds
returns-in_err-enter-2-clause-adds c =
    adds-through c.args.state.now c.enter.new.state c.enter-2.new.state c.in_ok-enter.ensures.adds c.in_err-enter-2.ensures.adds

pub returns-clause-entered : goal.returns-clause-entered
returns-clause-entered c =
    scopes-entered (length c.args.state.now.variables) (length c.enter.new.state.variables) c.levels_below-self-inside.result c.self.inside.depth
    (tree_at c.args.table.now c.args.left) (tree_at c.args.table.now c.args.right) c.node.result
    c.self.inside.left.items c.self.inside.right.items c.enter.new.entered.items c.enter-2.new.entered.items
    c.node.ensures.top c.levels_below-self-inside.ensures
    (ap (λ (s : Inference). length s.variables) c.in_ok-enter.ensures.made
    ∙ regions-count (length (own_numbers (tree_at c.args.table.now c.args.left))) [] c.args.state.now)
    c.in_ok-enter.ensures.entered c.in_ok-enter-2.ensures.entered
    ∙ ap (scopes_below (length c.args.state.now.variables) (tree_at c.args.table.now c.args.left) (tree_at c.args.table.now c.args.right)) c.self.view_is

pub returns-clause-made : goal.returns-clause-made
returns-clause-made c =
    c.in_ok-enter-2.ensures.made
    ∙ ap (with_regions (length (own_numbers (tree_at c.args.table.now c.args.right))) []) c.in_ok-enter.ensures.made
    ∙ regions-twice (length (own_numbers (tree_at c.args.table.now c.args.left))) (length (own_numbers (tree_at c.args.table.now c.args.right))) [] [] c.args.state.now

pub returns-clause-adds : goal.returns-clause-adds
returns-clause-adds c =
    adds-through c.args.state.now c.enter.new.state c.enter-2.new.state c.in_ok-enter.ensures.adds c.in_ok-enter-2.ensures.adds
