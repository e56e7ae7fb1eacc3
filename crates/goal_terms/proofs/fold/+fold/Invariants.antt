use Rattle.std.proofs.Common.{◌≡◌, map, take, length}
use Rattle.goal_terms.specs.Folding.{folded}
use Rattle.goal_terms.specs.TreeOf.{tree_of_ty, tree_of_arg, tree_of_clause}
use Rattle.goal_terms.proofs.fold.+fold.Given as goal

abbrev pub invariant-fold_args-loop-i : goal.invariant-fold_args-loop-i
invariant-fold_args-loop-i g l =
    (map tree_of_arg l.all.items ≡ map (folded (g.F.TermFolder.folding l.folder) l.binders) (map tree_of_arg (take l.i l.args))) × (length l.all.items ≡ l.i)

abbrev pub invariant-fold_tys-loop-i : goal.invariant-fold_tys-loop-i
invariant-fold_tys-loop-i g l =
    (map tree_of_ty l.all.items ≡ map (folded (g.F.TermFolder.folding l.folder) l.binders) (map tree_of_ty (take l.i l.tys))) × (length l.all.items ≡ l.i)

abbrev pub invariant-fold_clauses-loop-i : goal.invariant-fold_clauses-loop-i
invariant-fold_clauses-loop-i g l =
    (map tree_of_clause l.all.items ≡ map (folded (g.F.TermFolder.folding l.folder) l.binders) (map tree_of_clause (take l.i l.clauses))) × (length l.all.items ≡ l.i)
