-- Worked examples: the lists of some impls and of an opaque type, and of some rules.
use Rattle.std.proofs.Common.{◌≡◌, [], ◌∷◌, Some, refl, ◌∙◌}
use Rattle.goal_terms.specs.Erased.{erased}
use Rattle.goal_terms.specs.TreeOf.{tree_of_arg, tree_of_term}
use Rattle.goal_terms.specs.declared.predicates.BoundConstness.{BoundConstness}
use Rattle.goal_terms.specs.declared.terms.GenericArg as arg
use Rattle.goal_terms.specs.declared.terms.Term as term
use Rattle.goal_terms.specs.declared.terms.Ty as ty
use Rattle.goal_terms.proofs.TreeLemmas.{tree_of_arg-Ty, tree_of_term-Ty, tree_of_ty-Adt, tree_of_ty-Error}
use Rattle.goal_lists.specs.AliasLists.{entries_of_row, opaque_list, alias_list}
use Rattle.goal_lists.specs.Candidates.{by_impl}
use Rattle.goal_lists.specs.EffectLists.{effect_list}
use Rattle.goal_kinds.specs.ExampleLists.{type_of_w, list_for_w, w_list, assoc_of_vec, list_for_assoc, assoc_list, list_for_vec, vec_list, opaque_entries, w_rule, no_impl_rule, no_impl_list, no_value_rule, no_value_list}
use Rattle.goal_kinds.specs.ExampleRows.{tr_for_w, trait_of_i32_for_vec}
use Rattle.goal_kinds.specs.ExampleSettings.{asked_args, const_tr_for_vec, q_ty, with_const}
use Rattle.goal_kinds.specs.ExampleTables.{example_tables, plainly}
use Rattle.goal_kinds.specs.ExampleTerms.{alias_of, error_ty, opaque, plain_struct, projection, trait, vec_of, w_ty}
use Rattle.goal_lists.specs.ImplTerms.{taken}
use Rattle.goal_lists.specs.ListModes.{erased_setting}
use Rattle.goal_lists.specs.ProjectionLists.{taken_entries, said_entries, projection_list}
use Rattle.goal_kinds.specs.RuleLists.{entries_of}
use Rattle.goal_lists.specs.TraitLists.{list_by_polarity}
use Rattle.goal_kinds.proofs.ExampleHeaders.{i32_arg, param_arg, struct_arg, value-triple}

-- a missing value
w_arg : tree_of_arg (arg.Ty (plain_struct 7)) ≡ w_ty
w_arg = tree_of_arg-Ty _ ∙ tree_of_ty-Adt _ _

pub example-missing_value : projection_list plainly type_of_w (alias_of (projection 5) (w_ty ∷ [])) (by_impl tr_for_w) ≡ Some w_list
unfolding projection_list list_by_polarity said_entries
example-missing_value = λ i. Some (list_for_w (w_arg i ∷ []) (w_ty ∷ []) (error_ty 6))

-- a definition in another impl
pub example-other_impl :
    projection_list plainly assoc_of_vec (alias_of (projection 6) asked_args) (by_impl trait_of_i32_for_vec)
    ≡ Some assoc_list
unfolding projection_list list_by_polarity said_entries taken taken_entries
example-other_impl = λ i. Some (list_for_assoc (struct_arg 1 i ∷ i32_arg i ∷ []) (struct_arg 1 i ∷ param_arg 1 i ∷ []) (value-triple i))

-- const conditions
pub example-const_impl : (c : BoundConstness) → effect_list with_const c (trait 12) (vec_of q_ty ∷ []) (by_impl const_tr_for_vec) ≡ Some (vec_list c)
unfolding effect_list list_by_polarity
example-const_impl c = λ i. Some (list_for_vec c (struct_arg 1 i ∷ []))

-- an access
pub example-opaque : alias_list (erased_setting plainly) (opaque 0) [] ≡ opaque_entries
unfolding alias_list entries_of_row opaque_list
example-opaque = refl

-- a rule, by its entries
error_term : tree_of_term (term.Ty (ty.Error 6)) ≡ error_ty 6
error_term = tree_of_term-Ty _ ∙ tree_of_ty-Error 6

pub example-rule : entries_of example_tables w_rule ≡ w_list
unfolding entries_of erased
example-rule = λ i. list_for_w (w_arg i ∷ []) (erased (w_arg i) ∷ []) (erased (error_term i))

-- rows that are missing
pub example-no_impl : entries_of example_tables no_impl_rule ≡ no_impl_list
unfolding entries_of
example-no_impl = refl

pub example-no_value : entries_of example_tables no_value_rule ≡ no_value_list
unfolding entries_of
example-no_value = refl
