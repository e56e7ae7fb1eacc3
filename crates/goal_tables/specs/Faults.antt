-- The faults of tables, each with a fact of its own.
use Rattle.std.specs.Prelude.{◌≡◌, ◌<◌, ℕ, Bool, true, false, ◌||◌, List, [], ◌∷◌}
use Rattle.goal_tables.specs.ImplFaults.{unfixed_parameter, reservation_with_items, impl_of_builtin_trait, inherent_const_without_value, specialization_mismatch}
use Rattle.goal_tables.specs.LangFaults.{lang_item_missing, builtin_item_mismatch}
use Rattle.goal_tables.specs.RowFaults.{lies_in_rows}
use Rattle.goal_tables.specs.Rows.{doubled_id, doubled_lang}
use Rattle.goal_tables.specs.SourceFaults.{source_mismatch, own_parameters_mismatch}
use Rattle.goal_tables.specs.Specialized.{specialization_cycle}
use Rattle.goal_tables.specs.TraitFaults.{auto_trait, lang_allows_const, alias_with_items}
use Rattle.goal_tables.specs.declared.faults.TableFault.{TableFault}
use Rattle.goal_tables.specs.declared.faults.TableFault.TheVariants as fault
use Rattle.goal_tables.specs.declared.rows.Tables.{Tables}
use Rattle.goal_tables.specs.declared.faults.TermFault.TheVariants as lies

-- an id stands that no row has
unfoldable pub unknown_item : Tables → Bool
unknown_item t = lies_in_rows t lies.UnknownItem

-- an argument list has another length than its item's parameters
unfoldable pub wrong_argument_count : Tables → Bool
wrong_argument_count t = lies_in_rows t lies.WrongArgumentCount

-- an argument, a term, a value or an alias has another kind than its place; a free or inherent type has no value; a trait has no self type
unfoldable pub wrong_argument_kind : Tables → Bool
wrong_argument_kind t = lies_in_rows t lies.WrongArgumentKind

-- a parameter isn't among its row's, or has another kind there
unfoldable pub parameter_out_of_range : Tables → Bool
parameter_out_of_range t = lies_in_rows t lies.ParameterOutOfRange

-- an inference variable, a region variable or a placeholder stands in a row
unfoldable pub infer_in_table : Tables → Bool
infer_in_table t = lies_in_rows t lies.InferInTable

-- a const impl, const condition, implied const bound, destruct condition or host effect clause of a trait that doesn't allow const, or a lang trait that must not allow it and does
unfoldable pub never_const : Tables → Bool
never_const t = lies_in_rows t lies.NeverConst || lang_allows_const t

-- the number of a fault: of several that apply, the one of the smallest number is answered
abbrev pub number_of : TableFault → ℕ
number_of fault.UnknownItem = 1
number_of fault.WrongArgumentCount = 2
number_of fault.WrongArgumentKind = 3
number_of fault.ParameterOutOfRange = 4
number_of fault.InferInTable = 5
number_of fault.ImplParameterNotInHeader = 6
number_of fault.ReservationWithItems = 7
number_of fault.LangItemMissing = 8
number_of fault.LangItemDoubled = 9
number_of fault.ImplOfBuiltinTrait = 10
number_of fault.AutoTrait = 11
number_of fault.NeverConst = 12
number_of fault.TraitAliasWithItems = 13
number_of fault.InherentConstWithoutValue = 14
number_of fault.SourceMismatch = 15
number_of fault.OwnParametersMismatch = 16
number_of fault.BuiltinItemMismatch = 17
number_of fault.DoubledId = 18
number_of fault.OutOfMemory = 19
number_of fault.SpecializationMismatch = 20
number_of fault.SpecializationCycle = 21

-- the faults of tables, by their numbers
abbrev pub all_faults : List TableFault
all_faults =
    fault.UnknownItem
    ∷ fault.WrongArgumentCount
    ∷ fault.WrongArgumentKind
    ∷ fault.ParameterOutOfRange
    ∷ fault.InferInTable
    ∷ fault.ImplParameterNotInHeader
    ∷ fault.ReservationWithItems
    ∷ fault.LangItemMissing
    ∷ fault.LangItemDoubled
    ∷ fault.ImplOfBuiltinTrait
    ∷ fault.AutoTrait
    ∷ fault.NeverConst
    ∷ fault.TraitAliasWithItems
    ∷ fault.InherentConstWithoutValue
    ∷ fault.SourceMismatch
    ∷ fault.OwnParametersMismatch
    ∷ fault.BuiltinItemMismatch
    ∷ fault.DoubledId
    ∷ fault.SpecializationMismatch
    ∷ fault.SpecializationCycle
    ∷ []

-- whether a fault of tables applies; want of memory is no matter of the tables
unfoldable pub applies : Tables → TableFault → Bool
applies t fault.UnknownItem = unknown_item t
applies t fault.WrongArgumentCount = wrong_argument_count t
applies t fault.WrongArgumentKind = wrong_argument_kind t
applies t fault.ParameterOutOfRange = parameter_out_of_range t
applies t fault.InferInTable = infer_in_table t
applies t fault.ImplParameterNotInHeader = unfixed_parameter t
applies t fault.ReservationWithItems = reservation_with_items t
applies t fault.LangItemMissing = lang_item_missing t
applies t fault.LangItemDoubled = doubled_lang t
applies t fault.ImplOfBuiltinTrait = impl_of_builtin_trait t
applies t fault.AutoTrait = auto_trait t
applies t fault.NeverConst = never_const t
applies t fault.TraitAliasWithItems = alias_with_items t
applies t fault.InherentConstWithoutValue = inherent_const_without_value t
applies t fault.SourceMismatch = source_mismatch t
applies t fault.OwnParametersMismatch = own_parameters_mismatch t
applies t fault.BuiltinItemMismatch = builtin_item_mismatch t
applies t fault.DoubledId = doubled_id t
applies t fault.OutOfMemory = false
applies t fault.SpecializationMismatch = specialization_mismatch t
applies t fault.SpecializationCycle = specialization_cycle t

-- no fault applies
unfoldable pub IsChecked : Tables → Type 0
IsChecked t = (f : TableFault) → applies t f ≡ false

-- a fault applies, and none of a smaller number does
unfoldable pub IsSmallestFault : Tables → TableFault → Type 0
IsSmallestFault t f = (applies t f ≡ true) × ((g : TableFault) → number_of g < number_of f → applies t g ≡ false)
