-- Worked examples: that an alias and a type are equal.
use Rattle.std.proofs.Common.{inl, inr, [], ◌∷◌, refl}
use Rattle.goal_terms.specs.Tree.{node_of}
use Rattle.goal_lists.specs.Builtins.{u8_ty, unit_ty}
use Rattle.goal_kinds.specs.ExampleTables.{plainly}
use Rattle.goal_kinds.specs.ExampleTerms.{bool_ty, item}
use Rattle.goal_lists.specs.Levels.{level}
use Rattle.goal_kinds.specs.ExampleSettings.{metadata_of_bool}
use Rattle.goal_kinds.proofs.ExampleLemmas.{differs, no_projection_at_one, no_projection_refuted_at_one, opened, other_node, other_tree}
use Rattle.goal_kinds.proofs.ExamplesOfMetadata.{example-metadata_of_bool}

-- `<bool as Pointee>::Metadata == ()` holds, at height 4 and not at 3
pub example-equation : (level plainly 4).equation_holds metadata_of_bool unit_ty
unfolding opened
example-equation = inr (unit_ty, unit_ty, example-metadata_of_bool, refl, inl refl)

pub example-equation_lower : (level plainly 3).equation_holds metadata_of_bool unit_ty → ⊥
unfolding opened
example-equation_lower (inl e) = other_tree metadata_of_bool unit_ty (differs tt) e
example-equation_lower (inr h) = no_projection_at_one plainly (item 1) (bool_ty ∷ []) h.0 h.2

-- `<bool as Pointee>::Metadata == u8` is refuted, at height 4 and not at 3
pub example-wrong_equation : (level plainly 4).equation_refuted metadata_of_bool u8_ty
unfolding opened
example-wrong_equation = (
  other_tree metadata_of_bool u8_ty (differs tt),
  inr (inr (unit_ty, u8_ty, example-metadata_of_bool, refl, (other_tree unit_ty u8_ty (differs tt), inl (other_node (node_of unit_ty) (node_of u8_ty) (differs tt))))),
)

pub example-wrong_equation_lower : (level plainly 3).equation_refuted metadata_of_bool u8_ty → ⊥
unfolding opened
example-wrong_equation_lower h =
    elim h.1 [
      | inl p ↦ no_projection_refuted_at_one plainly (item 1) (bool_ty ∷ []) p
      | inr (inl p) ↦ p
      | inr (inr p) ↦ no_projection_at_one plainly (item 1) (bool_ty ∷ []) p.0 p.2
    ]
