use Rattle.std.proofs.Common.{◌≡◌, false, map, take}
use Rattle.std.specs.List.{list_any}
use Rattle.goal_terms.specs.NodeTests.{some_node, is_any_infer}
use Rattle.goal_interner.specs.TableMeaning.{tree_at}
use Rattle.goal_solver.proofs.eval.open_terms.any_variable.Given as goal

abbrev pub invariant-loop-i : goal.invariant-loop-i
invariant-loop-i l = list_any (some_node is_any_infer) (take l.i (map (tree_at l.terms) l.ids)) ≡ false
