-- What stands at the top of self types and of clauses of `dyn` types, as far as candidates come from it.
use Rattle.std.specs.Prelude.{ℕ, Bool, true, false, Option, Some, None}
use Rattle.goal_terms.specs.declared.heads.Head.TheVariants.{Dynamic, DynTrait, DynProjection}
use Rattle.goal_terms.specs.declared.heads.Node.{Node}
use Rattle.goal_terms.specs.declared.heads.Node.TheVariants as nodes
use Rattle.goal_terms.specs.declared.ids.ItemId.{ItemId}
use Rattle.goal_terms.specs.declared.ids.OpaqueId.{OpaqueId}
use Rattle.goal_terms.specs.declared.ids.TraitId.{TraitId}
use Rattle.goal_terms.specs.declared.terms.AliasTermKind.TheVariants.{ProjectionTy, OpaqueTy}

-- the item of a projection to a type
unfoldable pub projected_item : Node → Option ItemId
projected_item (nodes.Alias (ProjectionTy i)) = Some i
projected_item _ = None

-- the number of an opaque type
unfoldable pub opaque_number : Node → Option OpaqueId
opaque_number (nodes.Alias (OpaqueTy i)) = Some i
opaque_number _ = None

-- whether it is that of a `dyn` type
unfoldable pub is_object : Node → Bool
is_object (nodes.Head (Dynamic n r)) = true
is_object _ = false

-- the trait of a clause of a trait, and the number of its arguments
unfoldable pub clause_trait : Node → Option (TraitId × ℕ)
clause_trait (nodes.Head (DynTrait i n)) = Some (i, n)
clause_trait _ = None

-- the item of a clause of an item, and the number of its arguments
unfoldable pub clause_item : Node → Option (ItemId × ℕ)
clause_item (nodes.Head (DynProjection i n)) = Some (i, n)
clause_item _ = None
