-- Settings and terms of the worked examples.
use Rattle.goal_lists.specs.Builtins.{u8_ty}
use Rattle.goal_kinds.specs.ExampleRows.{plain_impl, tr_for_z, type_in_impl, uses}
use Rattle.goal_kinds.specs.ExampleTables.{analysis, assuming, example_tables}
use Rattle.goal_kinds.specs.ExampleTerms.{alias_of, bool_ty, fn_ty, free, has_trait, i32_ty, impl, p_ty, param, plain_struct, projection, struct, struct_of, trait, tuple, u16_ty, u32_ty, u64_ty, vec, vec_of, z_ty}
use Rattle.goal_lists.specs.Settings.{Setting}
use Rattle.goal_tables.specs.declared.rows.ImplRow.{ImplRow}
use Rattle.goal_tables.specs.declared.rows.SourceRow.{SourceRow}
use Rattle.goal_tables.specs.declared.rows.Tables.{Tables}
use Rattle.goal_terms.specs.PredicateTrees.{equals, holds, holds_const}
use Rattle.goal_terms.specs.Tree.{Tree}
use Rattle.goal_terms.specs.declared.ids.ImplId.{ImplId}
use Rattle.goal_terms.specs.declared.modes.TypingMode.{TypingMode}
use Rattle.goal_terms.specs.declared.terms.AliasTermKind.{AliasTermKind}
use Rattle.goal_terms.specs.declared.terms.AliasTermKind.TheVariants.{InherentTy}
use Rattle.std.specs.Global.{Global}
use Rattle.std.specs.Prelude.{List, [], true, ◌∷◌, Vec}
use Rattle.goal_tables.specs.declared.rows.Source.TheVariants as source
use Rattle.goal_terms.specs.declared.answers.ParamKind.TheVariants as kind
use Rattle.goal_terms.specs.declared.predicates.BoundConstness.TheVariants as constness
use Rattle.goal_terms.specs.declared.scalars.UintTy.TheVariants as unsigned
use Rattle.goal_terms.specs.declared.terms.GenericArg as arg
use Rattle.goal_terms.specs.declared.terms.Ty as ty

-- `T: Own` is assumed, a trait whose item has the bound `B: Tr`
abbrev pub assuming_own_trait : Setting
assuming_own_trait = assuming (holds (trait 15) (param 0 ∷ []) ∷ [])

-- `<T as Own>::B`
abbrev pub bounded : Tree
bounded = alias_of (projection 8) (param 0 ∷ [])

-- `fn(u8) -> bool` with the arguments of a call
abbrev pub called_with : Tree → List Tree
called_with t = fn_ty u8_ty bool_ty ∷ tuple (t ∷ []) ∷ []

-- `Q`
abbrev pub q_ty : Tree
q_ty = struct 6 []

-- `impl const Tr for Q`
abbrev pub const_tr_for_q : ImplRow
const_tr_for_q = record (plain_impl 6 12 (plain_struct 6)) { is_const = true }

-- `impl<T: Tr> const Tr for Vec<T>`, with the const condition `T: Tr`
abbrev pub const_tr_for_vec : ImplRow
const_tr_for_vec =
    record (plain_impl 9 12 (struct_of 1 (ty.Param 0))) {
      params = vec (kind.Ty ∷ []) tt;
      is_const = true;
      predicates = vec (has_trait (ty.Param 0) 12 ∷ []) tt;
      const_conditions = vec (record { def_id = trait 12; args = vec (arg.Ty (ty.Param 0) ∷ []) tt } ∷ []) tt;
    }

-- the example tables with these impls and `impl Tr for Z`, which isn't const
abbrev pub const_tables : Tables
const_tables = record example_tables { impls = vec (tr_for_z ∷ const_tr_for_q ∷ const_tr_for_vec ∷ []) tt; sources = vec [] tt }

abbrev pub with_const : Setting
with_const = record { tables = const_tables; mode = analysis; env = [] }

-- `impl<T> Tr for Vec<T> { type A = T }`, which lists some impls as more special, and `impl Tr for Vec<u8> { type A = u16 }`
abbrev pub tr_for_vec : Vec ImplId Global → ImplRow
tr_for_vec more_special =
    record (plain_impl 20 12 (struct_of 1 (ty.Param 0))) {
      params = vec (kind.Ty ∷ []) tt;
      more_special = more_special;
    }

abbrev pub tr_for_vec_of_u8 : ImplRow
tr_for_vec_of_u8 = plain_impl 21 12 (struct_of 1 (ty.Uint unsigned.U8))

-- the example tables with these two impls, of which the first lists some impls
abbrev pub two_for_vec : Vec ImplId Global → Tables
two_for_vec more_special =
    record example_tables {
      impls = vec (tr_for_vec more_special ∷ tr_for_vec_of_u8 ∷ []) tt;
      definitions = vec (type_in_impl 20 20 5 (ty.Param 0) ∷ type_in_impl 21 21 5 (ty.Uint unsigned.U16) ∷ []) tt;
      sources = vec (uses 20 5 20 ∷ uses 21 5 21 ∷ []) tt;
    }

abbrev pub with_two_for_vec : Vec ImplId Global → Setting
with_two_for_vec more_special = record { tables = two_for_vec more_special; mode = analysis; env = [] }

-- it lists the second as more special, or none
abbrev pub specialized : Setting
specialized = with_two_for_vec (vec (impl 21 ∷ []) tt)

abbrev pub unspecialized : Setting
unspecialized = with_two_for_vec (vec [] tt)

-- the example tables, where `impl Tr for Z` uses its definition as a default
abbrev pub default_source : SourceRow
default_source = record (uses 5 5 3) { source = source.Def (record { 0 = 3 }) true }

abbrev pub with_default : TypingMode → Setting
with_default m = record { tables = record example_tables { sources = vec (default_source ∷ []) tt }; mode = m; env = [] }

-- `Z: Tr` is assumed, and there is an impl
abbrev pub assuming_z : Setting
assuming_z = assuming (holds (trait 12) (z_ty ∷ []) ∷ [])

-- `T: Tr` and `T: [const] Tr` are assumed
abbrev pub assuming_maybe_const : Setting
assuming_maybe_const = assuming (holds (trait 12) (param 0 ∷ []) ∷ holds_const constness.Maybe (trait 12) (param 0 ∷ []) ∷ [])

-- `T: Tr`, `<T as Tr>::A == u8` and `<T as Tr>::A == u16` are assumed
abbrev pub disagreeing : Setting
disagreeing =
    assuming
    (holds (trait 12) (param 0 ∷ [])
    ∷ equals (alias_of (projection 5) (param 0 ∷ [])) u8_ty
    ∷ equals (alias_of (projection 5) (param 0 ∷ [])) u16_ty
    ∷ [])

-- `<bool as Pointee>::Metadata`
abbrev pub metadata_of_bool : Tree
metadata_of_bool = alias_of (projection 1) (bool_ty ∷ [])

-- `F`, which is declared as `type F = u8`, and the arguments of `<Vec<F> as Pair<t>>::A`
abbrev pub f_alias : Tree
f_alias = alias_of (free 2) []

abbrev pub pair_args : Tree → List Tree
pair_args t = vec_of f_alias ∷ t ∷ []

-- the item `I` of `impl<T> Vec<T> { type I = (T, T) }`
abbrev pub inherent_item : AliasTermKind
inherent_item = InherentTy (record { 0 = 0 })

-- `T: Sized` is assumed
abbrev pub assuming_sized : Setting
assuming_sized = assuming (holds (trait 0) (param 0 ∷ []) ∷ [])

-- `<P as Tr>::A`, where no impl of `Tr` is for `P`, and the arguments of `<T as Trait<i32>>::Assoc<<P as Tr>::A>`
abbrev pub no_type : Tree
no_type = alias_of (projection 5) (p_ty ∷ [])

abbrev pub own_args_of : Tree → List Tree
own_args_of s = s ∷ i32_ty ∷ no_type ∷ []

-- `T: Trait<i32>` and `<T as Trait<i32>>::Assoc<<P as Tr>::A> == u16` are assumed
abbrev pub assuming_own : Setting
assuming_own = assuming (holds (trait 13) (param 0 ∷ i32_ty ∷ []) ∷ equals (alias_of (projection 6) (own_args_of (param 0))) u16_ty ∷ [])

-- the arguments of `<Vec<u32> as Trait<i32>>::Assoc<u64>`, and its term
abbrev pub asked_args : List Tree
asked_args = vec_of u32_ty ∷ i32_ty ∷ u64_ty ∷ []

abbrev pub three : Tree
three = tuple (u32_ty ∷ i32_ty ∷ u64_ty ∷ [])
