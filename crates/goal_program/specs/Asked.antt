-- The terms that the rows ask about.
use Rattle.goal_terms.specs.Tree.{Tree, node, alias, none, more}
use Rattle.std.specs.Prelude.{true}
use Rattle.goal_terms.specs.TreeOf.{leaf}
use Rattle.goal_terms.specs.declared.heads.Head.TheVariants as head
use Rattle.goal_terms.specs.declared.ids.AdtId.{AdtId}
use Rattle.goal_terms.specs.declared.ids.ItemId.{ItemId}
use Rattle.goal_terms.specs.declared.ids.FreeId.{FreeId}
use Rattle.goal_terms.specs.declared.scalars.IntTy.TheVariants as int
use Rattle.goal_terms.specs.declared.scalars.UintTy.{UintTy}
use Rattle.goal_terms.specs.declared.scalars.UintTy.TheVariants as uint
use Rattle.goal_terms.specs.declared.terms.AliasTermKind.{AliasTermKind}
use Rattle.goal_terms.specs.declared.terms.AliasTermKind.TheVariants.{ProjectionTy, FreeTy, InherentTy}
use Rattle.goal_program.specs.declared.names.TheConstants.{VEC, OUTPUT, TRAIT_ASSOC, PAIR_A, FREE_F, INHERENT_I}

-- a struct with no parameters
abbrev pub plain_tree : AdtId → Tree
plain_tree id = node (head.Adt id 0) none

-- a struct with a type for its parameter
abbrev pub struct_tree : AdtId → Tree → Tree
struct_tree id t = node (head.Adt id 1) (more t none)

-- the projection of an item from a type
abbrev pub projection_tree : ItemId → Tree → Tree
projection_tree item t = alias (ProjectionTy item) (more t none)

-- an unsigned integer type
abbrev pub uint_tree : UintTy → Tree
uint_tree i = leaf (head.Uint i)

-- the parameter `T`
abbrev pub param_tree : Tree
param_tree = leaf (head.TyParam 0)

-- `(u8, str)`
abbrev pub byte_and_str_tree : Tree
byte_and_str_tree = node (head.Tuple 2) (more (uint_tree uint.U8) (more (leaf head.Str) none))

-- `Vec<u32>`
abbrev pub vec_of_u32_tree : Tree
vec_of_u32_tree = struct_tree VEC (uint_tree uint.U32)

-- `fn(u8) -> bool`, which may be called
abbrev pub pointer_tree : Tree
pointer_tree = node (head.FnPtr 0 1 true) (more (uint_tree uint.U8) (more (leaf head.Bool) none))

-- an alias with no arguments
abbrev pub bare_tree : AliasTermKind → Tree
bare_tree k = alias k none

-- a free alias of `u32`
abbrev pub free_tree : FreeId → Tree
free_tree i = alias (FreeTy i) (more (uint_tree uint.U32) none)

-- the inherent alias of `Vec<u32>`
abbrev pub inherent_tree : Tree
inherent_tree = alias (InherentTy INHERENT_I) (more vec_of_u32_tree none)

-- `<fn(u8) -> bool as FnOnce<(TYPE,)>>::Output`
abbrev pub output_tree : UintTy → Tree
output_tree i = alias (ProjectionTy OUTPUT) (more pointer_tree (more (node (head.Tuple 1) (more (uint_tree i) none)) none))

-- `<Vec<u32> as Trait<i32>>::Assoc<u64>`
abbrev pub assoc_tree : Tree
assoc_tree = alias (ProjectionTy TRAIT_ASSOC) (more vec_of_u32_tree (more (leaf (head.Int int.I32)) (more (uint_tree uint.U64) none)))

-- `<Vec<F> as Pair<TYPE>>::A`
abbrev pub pair_tree : UintTy → Tree
pair_tree i = alias (ProjectionTy PAIR_A) (more (struct_tree VEC (bare_tree (FreeTy FREE_F))) (more (uint_tree i) none))
