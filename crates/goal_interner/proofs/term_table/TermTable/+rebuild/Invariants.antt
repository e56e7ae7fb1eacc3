use Rattle.std.proofs.Common.{◌≡◌, ◌+◌, ◌*◌, map, take}
use Rattle.goal_terms.specs.Tree.{parts_of}
use Rattle.goal_terms.specs.TreeOf.{tree_of_arg, tree_of_ty, tree_of_clause}
use Rattle.goal_interner.specs.TableMeaning.{tree_at}
use Rattle.goal_interner.proofs.term_table.TermTable.+rebuild.Given as goal

abbrev pub decreases-arguments : goal.decreases-arguments
decreases-arguments l = 6 * l.id.0 + 0

abbrev pub decreases-tys : goal.decreases-tys
decreases-tys l = 6 * l.id.0 + 0

abbrev pub decreases-dyn_clauses : goal.decreases-dyn_clauses
decreases-dyn_clauses l = 6 * l.id.0 + 0

abbrev pub decreases-boxed_ty : goal.decreases-boxed_ty
decreases-boxed_ty l = 6 * l.id.0 + 0

abbrev pub decreases-boxed_const : goal.decreases-boxed_const
decreases-boxed_const l = 6 * l.id.0 + 0

abbrev pub decreases-alias : goal.decreases-alias
decreases-alias l = 6 * l.id.0 + 1

abbrev pub decreases-fn_pointer : goal.decreases-fn_pointer
decreases-fn_pointer l = 6 * l.id.0 + 1

abbrev pub decreases-ty_with_head : goal.decreases-ty_with_head
decreases-ty_with_head l = 6 * l.id.0 + 2

abbrev pub decreases-ty : goal.decreases-ty
decreases-ty l = 6 * l.id.0 + 3

abbrev pub decreases-constant : goal.decreases-constant
decreases-constant l = 6 * l.id.0 + 3

abbrev pub decreases-dyn_clause : goal.decreases-dyn_clause
decreases-dyn_clause l = 6 * l.id.0 + 3

abbrev pub decreases-to_term : goal.decreases-to_term
decreases-to_term l = 6 * l.id.0 + 4

abbrev pub decreases-argument : goal.decreases-argument
decreases-argument l = 6 * l.id.0 + 5

abbrev pub invariant-arguments-loop-place : goal.invariant-arguments-loop-place
invariant-arguments-loop-place l = map tree_of_arg l.args.items ≡ take l.place (parts_of (tree_at l.self l.id))

abbrev pub invariant-dyn_clauses-loop-place : goal.invariant-dyn_clauses-loop-place
invariant-dyn_clauses-loop-place l = map tree_of_clause l.clauses.items ≡ take l.place (parts_of (tree_at l.self l.id))

abbrev pub invariant-tys-loop-place : goal.invariant-tys-loop-place
invariant-tys-loop-place l = map tree_of_ty l.tys.items ≡ take l.place (parts_of (tree_at l.self l.id))
