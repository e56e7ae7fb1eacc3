use Rattle.std.proofs.Common.{◌≡◌, map, take, length}
use Rattle.goal_terms.specs.TreeOf.{tree_of_ty, tree_of_arg, tree_of_clause}
use Rattle.goal_terms.proofs.copy.+copy.Given as goal

abbrev pub invariant-clone_args-loop-i : goal.invariant-clone_args-loop-i
invariant-clone_args-loop-i l =
    (map tree_of_arg l.all.items ≡ map tree_of_arg (take l.i l.args.items)) × (length l.all.items ≡ l.i)

abbrev pub invariant-clone_tys-loop-i : goal.invariant-clone_tys-loop-i
invariant-clone_tys-loop-i l =
    (map tree_of_ty l.all.items ≡ map tree_of_ty (take l.i l.tys.items)) × (length l.all.items ≡ l.i)

abbrev pub invariant-clone_clauses-loop-i : goal.invariant-clone_clauses-loop-i
invariant-clone_clauses-loop-i l =
    (map tree_of_clause l.all.items ≡ map tree_of_clause (take l.i l.clauses.items)) × (length l.all.items ≡ l.i)
