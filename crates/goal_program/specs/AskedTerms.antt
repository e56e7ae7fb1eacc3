-- The types and the aliases that the rows ask about, by their names.
use Rattle.goal_terms.specs.Tree.{Tree, node, none}
use Rattle.goal_terms.specs.TreeOf.{leaf}
use Rattle.goal_terms.specs.declared.heads.Head.TheVariants as head
use Rattle.goal_terms.specs.declared.scalars.UintTy.TheVariants as uint
use Rattle.goal_terms.specs.declared.terms.AliasTermKind.TheVariants.{FreeConst, OpaqueTy}
use Rattle.goal_program.specs.Asked.{plain_tree, struct_tree, projection_tree, uint_tree, param_tree, byte_and_str_tree, bare_tree, free_tree, inherent_tree, output_tree, assoc_tree, pair_tree}
use Rattle.goal_program.specs.declared.asked_terms.AskedType.{AskedType}
use Rattle.goal_program.specs.declared.asked_terms.AskedType.TheVariants as types
use Rattle.goal_program.specs.declared.asked_terms.AskedAlias.{AskedAlias}
use Rattle.goal_program.specs.declared.asked_terms.AskedAlias.TheVariants as aliases
use Rattle.goal_program.specs.declared.names.TheConstants.{A, DISCRIMINANT, METADATA, OWN_B, VEC}

-- the type that a row asks about
abbrev pub asked_tree : AskedType → Tree
asked_tree types.Bool = leaf head.Bool
asked_tree types.Str = leaf head.Str
asked_tree types.Byte = uint_tree uint.U8
asked_tree types.Unit = node (head.Tuple 0) none
asked_tree types.ByteAndStr = byte_and_str_tree
asked_tree types.Param = param_tree
asked_tree (types.Struct i) = plain_tree i
asked_tree (types.VecOf i) = struct_tree VEC (plain_tree i)
asked_tree types.OwnB = projection_tree OWN_B param_tree

-- the alias that a row asks about
abbrev pub asked_alias_tree : AskedAlias → Tree
asked_alias_tree (aliases.Metadata t) = projection_tree METADATA (asked_tree t)
asked_alias_tree (aliases.Discriminant t) = projection_tree DISCRIMINANT (asked_tree t)
asked_alias_tree (aliases.TrA t) = projection_tree A (asked_tree t)
asked_alias_tree (aliases.Output i) = output_tree i
asked_alias_tree aliases.TraitAssoc = assoc_tree
asked_alias_tree (aliases.PairA i) = pair_tree i
asked_alias_tree (aliases.Free i) = free_tree i
asked_alias_tree (aliases.FreeConst i) = bare_tree (FreeConst i)
asked_alias_tree aliases.Inherent = inherent_tree
asked_alias_tree (aliases.Opaque i) = bare_tree (OpaqueTy i)
