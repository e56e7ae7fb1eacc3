-- The tables of the worked examples, and settings over them.
use Rattle.std.specs.Prelude.{true, List, [], ◌∷◌}
use Rattle.goal_terms.specs.PredicateTrees.{PredicateTree}
use Rattle.goal_terms.specs.declared.modes.TypingMode.{TypingMode}
use Rattle.goal_terms.specs.declared.modes.TypingMode.TheVariants as mode
use Rattle.goal_terms.specs.declared.scalars.UintTy.TheVariants as unsigned
use Rattle.goal_terms.specs.declared.terms.Ty.{Ty}
use Rattle.goal_terms.specs.declared.terms.Ty as ty
use Rattle.goal_terms.specs.declared.lang.LangItem.TheVariants as lang
use Rattle.goal_terms.specs.declared.lang.LangRow.{LangRow}
use Rattle.goal_tables.specs.declared.rows.AdtRow.{AdtRow}
use Rattle.goal_tables.specs.declared.rows.DefRow.{DefRow}
use Rattle.goal_tables.specs.declared.rows.ImplRow.{ImplRow}
use Rattle.goal_tables.specs.declared.rows.ItemRow.{ItemRow}
use Rattle.goal_tables.specs.declared.rows.SourceRow.{SourceRow}
use Rattle.goal_tables.specs.declared.rows.Tables.{Tables}
use Rattle.goal_tables.specs.declared.rows.TraitRow.{TraitRow}
use Rattle.goal_kinds.specs.ExampleTerms.{vec, struct_of}
use Rattle.goal_lists.specs.Settings.{Setting}
use Rattle.goal_kinds.specs.ExampleRows.{plain_trait, trait_of_two, with_item, plain_item, assoc_item, bounded_item, trait_of_i32_for_vec, trait_of_all_for_vec, pair_for_vec, not_tr_for_y, tr_for_z, tr_for_w, tr_for_str, uses, type_in_impl, three_types, no_value, vec_alias, vec_alias_of_tr, u8_alias, hidden_u8, inherent_for_vec, pair_in_vec, unit_struct, struct_with_param, named_trait, named_item}

-- the traits `Sized`, `FnOnce`, `Pointee`, `Tr`, `Trait<U>`, `Pair<U>` and `Own`, with the items `Output`, `Metadata`, `Tr::A`, `Trait::Assoc<V>`, `Pair::A` and `Own::B`
abbrev pub example_traits : List TraitRow
example_traits =
    plain_trait 0
    ∷ with_item 0 (trait_of_two 5)
    ∷ with_item 1 (plain_trait 8)
    ∷ record (with_item 5 (plain_trait 12)) { allows_const = true }
    ∷ with_item 6 (trait_of_two 13)
    ∷ with_item 7 (trait_of_two 14)
    ∷ with_item 8 (plain_trait 15)
    ∷ []

abbrev pub example_items : List ItemRow
example_items = plain_item 0 5 ∷ plain_item 1 8 ∷ plain_item 5 12 ∷ assoc_item ∷ plain_item 7 14 ∷ bounded_item ∷ []

-- the impls, with what they say of their items
abbrev pub example_impls : List ImplRow
example_impls = trait_of_i32_for_vec ∷ trait_of_all_for_vec ∷ pair_for_vec ∷ not_tr_for_y ∷ tr_for_z ∷ tr_for_w ∷ tr_for_str ∷ []

abbrev pub example_definitions : List DefRow
example_definitions = three_types ∷ type_in_impl 1 2 7 (struct_of 2 (ty.Param 0)) ∷ type_in_impl 3 5 5 (ty.Uint unsigned.U8) ∷ no_value ∷ []

abbrev pub example_sources : List SourceRow
example_sources = uses 0 6 0 ∷ uses 1 6 0 ∷ uses 2 7 1 ∷ uses 5 5 3 ∷ uses 7 5 6 ∷ uses 8 5 6 ∷ []

-- the structs `Vec`, `Box`, `Y`, `Z`, `W` and `P`
abbrev pub example_adts : List AdtRow
example_adts = struct_with_param 1 ∷ struct_with_param 2 ∷ unit_struct 4 ∷ unit_struct 5 ∷ unit_struct 7 ∷ unit_struct 8 ∷ []

abbrev pub example_lang_items : List LangRow
example_lang_items = named_trait lang.Sized 0 ∷ named_trait lang.FnOnce 5 ∷ named_trait lang.Pointee 8 ∷ named_item lang.Output 0 ∷ named_item lang.Metadata 1 ∷ []

-- all rows
abbrev pub example_tables : Tables
example_tables = record {
  traits = vec example_traits tt;
  items = vec example_items tt;
  impls = vec example_impls tt;
  definitions = vec example_definitions tt;
  sources = vec example_sources tt;
  free_aliases = vec (vec_alias ∷ vec_alias_of_tr ∷ u8_alias ∷ []) tt;
  inherent_impls = vec (inherent_for_vec ∷ []) tt;
  inherent_items = vec (pair_in_vec ∷ []) tt;
  opaque_types = vec (hidden_u8 ∷ []) tt;
  adts = vec example_adts tt;
  functions = vec [] tt;
  closures = vec [] tt;
  lang_items = vec example_lang_items tt;
}

-- the mode of most examples
abbrev pub analysis : TypingMode
analysis = mode.Analysis (vec [] tt)

-- the example tables with an environment, and with none
abbrev pub assuming : List PredicateTree → Setting
assuming env = record { tables = example_tables; mode = analysis; env = env }

abbrev pub plainly : Setting
plainly = assuming []

-- with all types shown
abbrev pub revealing : Setting
revealing = record plainly { mode = mode.PostAnalysis }
