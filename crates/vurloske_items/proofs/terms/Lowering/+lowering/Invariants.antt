use Rattle.std.proofs.Common.{◌+◌, ◌*◌}
use Rattle.vurloske_items.proofs.terms.Lowering.+lowering.Given as goal

abbrev pub decreases-term_within : goal.decreases-term_within
decreases-term_within l = 16 * l.depth + 0

abbrev pub decreases-ty_within : goal.decreases-ty_within
decreases-ty_within l = 16 * l.depth + 1

abbrev pub decreases-array : goal.decreases-array
decreases-array l = 16 * l.depth + 2

abbrev pub decreases-ty_list : goal.decreases-ty_list
decreases-ty_list l = 16 * l.depth + 2

abbrev pub decreases-signature_within : goal.decreases-signature_within
decreases-signature_within l = 16 * l.depth + 3

abbrev pub decreases-fn_ptr : goal.decreases-fn_ptr
decreases-fn_ptr l = 16 * l.depth + 4

abbrev pub decreases-push_written : goal.decreases-push_written
decreases-push_written l = 16 * l.depth + 1

abbrev pub decreases-push_args : goal.decreases-push_args
decreases-push_args l = 16 * l.depth + 3

abbrev pub decreases-with_own_args : goal.decreases-with_own_args
decreases-with_own_args l = 16 * l.depth + 4

abbrev pub decreases-unevaluated : goal.decreases-unevaluated
decreases-unevaluated l = 16 * l.depth + 5

abbrev pub decreases-path : goal.decreases-path
decreases-path l = 16 * l.depth + 5

abbrev pub decreases-trait_ref_within : goal.decreases-trait_ref_within
decreases-trait_ref_within l = 16 * l.depth + 4

abbrev pub decreases-projection : goal.decreases-projection
decreases-projection l = 16 * l.depth + 5

abbrev pub decreases-assoc : goal.decreases-assoc
decreases-assoc l = 16 * l.depth + 5

abbrev pub decreases-equation : goal.decreases-equation
decreases-equation l = 16 * l.depth + 5

abbrev pub decreases-equations : goal.decreases-equations
decreases-equations l = 16 * l.depth + 6

abbrev pub decreases-bound_within : goal.decreases-bound_within
decreases-bound_within l = 16 * l.depth + 7

abbrev pub decreases-dyn_ty : goal.decreases-dyn_ty
decreases-dyn_ty l = 16 * l.depth + 8

abbrev pub decreases-structural : goal.decreases-structural
decreases-structural l = 16 * l.depth + 9

abbrev pub decreases-composed : goal.decreases-composed
decreases-composed l = 16 * l.depth + 10
