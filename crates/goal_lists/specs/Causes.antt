-- Why something is recorded: what in the tables reads the typing mode, or is at fault.
use Rattle.std.specs.Prelude.{◌≡◌, ◌==◌, ◌&&◌, Bool, true, false, not, Option, Vec, IfSome}
use Rattle.std.specs.Global.{Global}
use Rattle.std.specs.List.{All, list_any}
use Rattle.goal_terms.specs.declared.answers.DelayedFault.{DelayedFault}
use Rattle.goal_terms.specs.declared.answers.DelayedFault.TheVariants.{MissingItem, AutoTrait}
use Rattle.goal_terms.specs.declared.answers.OpaqueAccess.{OpaqueAccess}
use Rattle.goal_terms.specs.declared.answers.OpaqueAccess.TheVariants.{IfDefining, IfPostAnalysis, Always}
use Rattle.goal_tables.specs.declared.rows.DefValue.{DefValue}
use Rattle.goal_tables.specs.declared.rows.DefValue.TheVariants as value
use Rattle.goal_tables.specs.declared.rows.Tables.{Tables}
use Rattle.goal_lists.specs.Laws.{is_default_source}
use Rattle.goal_lists.specs.declared.lists.InternedEntry.{InternedEntry}
use Rattle.goal_lists.specs.declared.lists.InternedEntry.TheVariants as entries

-- whether the tables have what an access is about: the local opaque type, a remote one, or a source that is a default
abbrev pub has_cause : Tables → OpaqueAccess → Bool
has_cause t (IfDefining o) = list_any (λ r. r.is_local && (r.id.0 == o.0)) t.opaque_types.items
has_cause t IfPostAnalysis = list_any (λ r. not r.is_local) t.opaque_types.items
has_cause t Always = list_any (λ r. is_default_source r.source) t.sources.items

-- an access has its cause in the tables
unfoldable pub IsCaused : Tables → OpaqueAccess → Type 0
IsCaused t a = has_cause t a ≡ true

-- whether the tables have what a delayed fault is about: the definition that lacks its value, or the trait that is auto
abbrev pub is_missing : DefValue → Bool
is_missing value.Missing = true
is_missing (value.Term v) = false
is_missing value.Evaluated = false

abbrev pub has_fault_cause : Tables → DelayedFault → Bool
has_fault_cause t (MissingItem d) = list_any (λ r. is_missing r.value && (r.id.0 == d.0)) t.definitions.items
has_fault_cause t (AutoTrait i) = list_any (λ r. r.is_auto && (r.id.0 == i.0)) t.traits.items

-- a delayed fault has its cause in the tables
unfoldable pub IsFaultCaused : Tables → DelayedFault → Type 0
IsFaultCaused t f = has_fault_cause t f ≡ true

-- an entry that records something has its cause there
abbrev pub IsCausedEntry : Tables → InternedEntry → Type 0
IsCausedEntry t (entries.Access a) = IsCaused t a
IsCausedEntry t (entries.DelayedFault f) = IsFaultCaused t f
IsCausedEntry t _ = Unit {0}

-- so has each entry of a list that isn't refused
abbrev pub IsCausedList : Tables → Option (Vec InternedEntry Global) → Type 0
IsCausedList t o = IfSome o (λ es. All (IsCausedEntry t) es.items)
