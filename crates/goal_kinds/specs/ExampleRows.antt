-- The rows of the worked examples.
use Rattle.std.specs.Prelude.{ℕ, true, false, [], ◌∷◌, Some, None}
use Rattle.goal_terms.specs.declared.answers.ParamKind.TheVariants as kind
use Rattle.goal_terms.specs.declared.scalars.IntTy.TheVariants as signed
use Rattle.goal_terms.specs.declared.scalars.UintTy.TheVariants as unsigned
use Rattle.goal_terms.specs.declared.terms.GenericArg.{GenericArg}
use Rattle.goal_terms.specs.declared.terms.GenericArg as arg
use Rattle.goal_terms.specs.declared.terms.Term as term
use Rattle.goal_terms.specs.declared.terms.Ty.{Ty}
use Rattle.goal_terms.specs.declared.terms.Ty as ty
use Rattle.goal_terms.specs.declared.lang.LangItem.{LangItem}
use Rattle.goal_terms.specs.declared.lang.LangRow.{LangRow}
use Rattle.goal_terms.specs.declared.lang.LangTarget.TheVariants as target
use Rattle.goal_tables.specs.declared.rows.AdtKind.TheVariants as adts
use Rattle.goal_tables.specs.declared.rows.AdtRow.{AdtRow}
use Rattle.goal_tables.specs.declared.rows.Container.TheVariants as container
use Rattle.goal_tables.specs.declared.rows.DefRow.{DefRow}
use Rattle.goal_tables.specs.declared.rows.DefValue.TheVariants as value
use Rattle.goal_tables.specs.declared.rows.FreeRow.{FreeRow}
use Rattle.goal_tables.specs.declared.rows.ImplPolarity.TheVariants as polarity
use Rattle.goal_tables.specs.declared.rows.ImplRow.{ImplRow}
use Rattle.goal_tables.specs.declared.rows.InherentImplRow.{InherentImplRow}
use Rattle.goal_tables.specs.declared.rows.InherentRow.{InherentRow}
use Rattle.goal_tables.specs.declared.rows.ItemRow.{ItemRow}
use Rattle.goal_tables.specs.declared.rows.OpaqueRow.{OpaqueRow}
use Rattle.goal_tables.specs.declared.rows.Source.TheVariants as source
use Rattle.goal_tables.specs.declared.rows.SourceRow.{SourceRow}
use Rattle.goal_tables.specs.declared.rows.TraitRow.{TraitRow}
use Rattle.goal_kinds.specs.ExampleTerms.{adt, vec, trait, item, impl, struct_of, plain_struct, triple, has_trait}

-- a trait without further parameters or items, one with one more type parameter, and a trait that lists an item
abbrev pub plain_trait : ℕ → TraitRow
plain_trait n = record {
  id = trait n;
  params = vec (kind.Ty ∷ []) tt;
  allows_const = false;
  is_auto = false;
  is_alias = false;
  predicates = vec [] tt;
  const_conditions = vec [] tt;
  items = vec [] tt;
}

abbrev pub trait_of_two : ℕ → TraitRow
trait_of_two n = record (plain_trait n) { params = vec (kind.Ty ∷ kind.Ty ∷ []) tt }

abbrev pub with_item : ℕ → TraitRow → TraitRow
with_item n r = record r { items = vec (item n ∷ []) tt }

-- a type item without bounds
abbrev pub plain_item : ℕ → ℕ → ItemRow
plain_item n t = record {
  id = item n;
  trait_id = trait t;
  is_const = false;
  own_params = vec [] tt;
  own_predicates = vec [] tt;
  bounds = vec [] tt;
  const_bounds = None;
}

-- `Trait::Assoc<V>`
abbrev pub assoc_item : ItemRow
assoc_item = record (plain_item 6 13) { own_params = vec (kind.Ty ∷ []) tt }

-- `Own::B`, with the bound `B: Tr`
abbrev pub bounded_item : ItemRow
bounded_item = record (plain_item 8 15) { bounds = vec (has_trait (ty.Param 1) 12 ∷ []) tt }

-- an impl without parameters or where clauses, for a type
abbrev pub plain_impl : ℕ → ℕ → Ty → ImplRow
plain_impl n t self = record {
  id = impl n;
  trait_id = trait t;
  params = vec [] tt;
  trait_args = vec (arg.Ty self ∷ []) tt;
  polarity = polarity.Positive;
  is_const = false;
  guaranteed_unsized = false;
  predicates = vec [] tt;
  const_conditions = vec [] tt;
  more_special = vec [] tt;
}

-- `impl<T> Trait<i32> for Vec<T>`
abbrev pub trait_of_i32_for_vec : ImplRow
trait_of_i32_for_vec =
    record (plain_impl 0 13 (struct_of 1 (ty.Param 0))) {
      params = vec (kind.Ty ∷ []) tt;
      trait_args = vec (arg.Ty (struct_of 1 (ty.Param 0)) ∷ arg.Ty (ty.Int signed.I32) ∷ []) tt;
    }

-- `impl<T, U> Trait<U> for Vec<T>`
abbrev pub trait_of_all_for_vec : ImplRow
trait_of_all_for_vec =
    record (plain_impl 1 13 (struct_of 1 (ty.Param 0))) {
      params = vec (kind.Ty ∷ kind.Ty ∷ []) tt;
      trait_args = vec (arg.Ty (struct_of 1 (ty.Param 0)) ∷ arg.Ty (ty.Param 1) ∷ []) tt;
    }

-- `impl<T> Pair<T> for Vec<T>`
abbrev pub pair_for_vec : ImplRow
pair_for_vec =
    record (plain_impl 2 14 (struct_of 1 (ty.Param 0))) {
      params = vec (kind.Ty ∷ []) tt;
      trait_args = vec (arg.Ty (struct_of 1 (ty.Param 0)) ∷ arg.Ty (ty.Param 0) ∷ []) tt;
    }

-- `impl !Tr for Y`
abbrev pub not_tr_for_y : ImplRow
not_tr_for_y = record (plain_impl 4 12 (plain_struct 4)) { polarity = polarity.Negative }

-- `impl Tr for Z`, `impl Tr for W` and, guaranteed to be unsized, `impl Tr for str`
abbrev pub tr_for_z : ImplRow
tr_for_z = plain_impl 5 12 (plain_struct 5)

abbrev pub tr_for_w : ImplRow
tr_for_w = plain_impl 7 12 (plain_struct 7)

abbrev pub tr_for_str : ImplRow
tr_for_str = record (plain_impl 8 12 ty.Str) { guaranteed_unsized = true }

-- what an impl uses for an item
abbrev pub uses : ℕ → ℕ → ℕ → SourceRow
uses n i d = record { impl_id = impl n; item_id = item i; source = source.Def (record { 0 = d }) false }

-- a definition with a type for its value
abbrev pub type_in_impl : ℕ → ℕ → ℕ → Ty → DefRow
type_in_impl d n i t = record { id = record { 0 = d }; container = container.Impl (impl n); item = item i; own_params = vec [] tt; value = value.Term (term.Ty t) }

-- in `impl<T, U> Trait<U> for Vec<T>`: `type Assoc<V> = (T, U, V)`
abbrev pub three_types : DefRow
three_types = record (type_in_impl 0 1 6 (triple (ty.Param 0) (ty.Param 1) (ty.Param 2))) { own_params = vec (kind.Ty ∷ []) tt }

-- in `Tr`, without a value
abbrev pub no_value : DefRow
no_value = record { id = record { 0 = 6 }; container = container.Trait (trait 12); item = item 5; own_params = vec [] tt; value = value.Missing }

-- `type A<T> = Vec<T>`, `type B<T> = Vec<T> where T: Tr` and `type F = u8`
abbrev pub vec_alias : FreeRow
vec_alias = record { id = record { 0 = 0 }; params = vec (kind.Ty ∷ []) tt; is_const = false; predicates = vec [] tt; value = Some (term.Ty (struct_of 1 (ty.Param 0))) }

abbrev pub vec_alias_of_tr : FreeRow
vec_alias_of_tr = record vec_alias { id = record { 0 = 1 }; predicates = vec (has_trait (ty.Param 0) 12 ∷ []) tt }

abbrev pub u8_alias : FreeRow
u8_alias = record { id = record { 0 = 2 }; params = vec [] tt; is_const = false; predicates = vec [] tt; value = Some (term.Ty (ty.Uint unsigned.U8)) }

-- an opaque type of another crate, whose hidden type is `u8`
abbrev pub hidden_u8 : OpaqueRow
hidden_u8 = record {
  id = record { 0 = 0 };
  params = vec [] tt;
  is_local = false;
  hidden = ty.Uint unsigned.U8;
  typeck_hidden = ty.Uint unsigned.U8;
  bounds = vec [] tt;
  const_bounds = None;
}

-- `impl<T> Vec<T> { type I = (T, T) }`
abbrev pub inherent_for_vec : InherentImplRow
inherent_for_vec = record { id = record { 0 = 0 }; params = vec (kind.Ty ∷ []) tt; self_ty = struct_of 1 (ty.Param 0) }

abbrev pub pair_in_vec : InherentRow
pair_in_vec = record {
  id = record { 0 = 0 };
  impl_id = record { 0 = 0 };
  is_const = false;
  own_params = vec [] tt;
  predicates = vec [] tt;
  value = Some (term.Ty (ty.Tuple (vec (ty.Param 0 ∷ ty.Param 0 ∷ []) tt)));
}

-- a struct without fields, and one with a type parameter
abbrev pub unit_struct : ℕ → AdtRow
unit_struct n = record {
  id = adt n;
  params = vec [] tt;
  kind = adts.Struct;
  tail = None;
  sized_constraint = None;
  discriminant = ty.Uint unsigned.U8;
  destruct_conditions = vec [] tt;
  field_info = None;
}

abbrev pub struct_with_param : ℕ → AdtRow
struct_with_param n = record (unit_struct n) { params = vec (kind.Ty ∷ []) tt }

-- a lang item that names a trait, or an item
abbrev pub named_trait : LangItem → ℕ → LangRow
named_trait l n = record { item = l; target = target.Trait (trait n) }

abbrev pub named_item : LangItem → ℕ → LangRow
named_item l n = record { item = l; target = target.Item (item n) }
