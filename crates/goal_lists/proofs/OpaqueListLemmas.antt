-- The list of an opaque type, by what a typing mode makes of it.
use Rattle.std.proofs.Common.{◌≡◌, Bool, true, false, List, [], ◌∷◌, Some, None, refl, sym, ap, ◌∙◌}
use Rattle.std.specs.Prelude.{if◌then◌else◌}
use Rattle.goal_terms.specs.declared.modes.TypingMode.{TypingMode}
use Rattle.goal_terms.specs.declared.modes.TypingMode.TheVariants as mode
use Rattle.goal_tables.specs.declared.rows.OpaqueRow.{OpaqueRow}
use Rattle.goal_lists.specs.AliasLists.{opaque_list}
use Rattle.goal_lists.specs.Entries.{Entry, access, undecided}
use Rattle.goal_lists.specs.Settings.{among}
use Rattle.goal_lists.specs.OpaqueUses.{opaque_use, first_use}
use Rattle.goal_lists.specs.declared.lists.FirstUse.{FirstUse}
use Rattle.goal_lists.specs.declared.lists.FirstUse.TheVariants as first
use Rattle.goal_lists.specs.declared.lists.opaque_uses.OpaqueUse.{OpaqueUse}
use Rattle.goal_lists.specs.declared.lists.opaque_uses.OpaqueUse.TheVariants as uses

-- what each use lists, outside coherence
abbrev pub list_of_use : OpaqueUse → (FirstUse → List Entry) → List Entry → List Entry → List Entry
list_of_use uses.Revealed defined revealed itself = revealed
list_of_use uses.Rigid defined revealed itself = itself
list_of_use (uses.Recorded a) defined revealed itself = access a ∷ itself
list_of_use (uses.Defining f) defined revealed itself = defined f
list_of_use uses.Undecided defined revealed itself = undecided ∷ []

if-defining : (b : Bool) (f : FirstUse) (defined : FirstUse → List Entry) (revealed itself : List Entry) →
    list_of_use (if b then uses.Defining f else uses.Rigid) defined revealed itself ≡ (if b then defined f else itself)
if-defining true f defined revealed itself = refl
if-defining false f defined revealed itself = refl

if-revealed : (b : Bool) (defined : FirstUse → List Entry) (revealed itself : List Entry) →
    list_of_use (if b then uses.Revealed else uses.Rigid) defined revealed itself ≡ (if b then revealed else itself)
if-revealed true defined revealed itself = refl
if-revealed false defined revealed itself = refl

by_use : (m : TypingMode) (r : OpaqueRow) (defined : FirstUse → List Entry) (revealed itself : List Entry) → (m ≡ mode.Coherence → ⊥) →
    list_of_use (opaque_use m r) defined revealed itself ≡ opaque_list m r defined revealed itself
unfolding opaque_list
by_use mode.Coherence r defined revealed itself other = absurd (other refl)
by_use (mode.Analysis ids) r defined revealed itself other = if-defining (among ids.items r) first.Expected defined revealed itself
by_use (mode.Borrowck ids) r defined revealed itself other = if-defining (among ids.items r) first.TypeChecked defined revealed itself
by_use (mode.PostBorrowckAnalysis ids) r defined revealed itself other = if-revealed (among ids.items r) defined revealed itself
by_use mode.PostAnalysis r defined revealed itself other = refl
by_use mode.ErasedNotCoherence r defined revealed itself other = refl

pub opaque-made : (m : TypingMode) (r : OpaqueRow) (defined : FirstUse → List Entry) (revealed itself es : List Entry) (u v : OpaqueUse) → (m ≡ mode.Coherence → ⊥) →
    u ≡ opaque_use m r → u ≡ v → es ≡ list_of_use v defined revealed itself → es ≡ opaque_list m r defined revealed itself
opaque-made m r defined revealed itself es u v other used is made =
    made ∙ ap (λ w. list_of_use w defined revealed itself) (sym is ∙ used) ∙ by_use m r defined revealed itself other

-- what a mode makes of an opaque type that it defines
if-first : (b : Bool) (f x : FirstUse) → (if b then Some f else None) ≡ Some x → (if b then uses.Defining f else uses.Rigid) ≡ uses.Defining x
if-first true f x e = ap uses.Defining cc
if-first false f x e = absurd (cc)

first-use : (k : TypingMode) (r : OpaqueRow) (x : FirstUse) → first_use k r ≡ Some x → opaque_use k r ≡ uses.Defining x
first-use mode.Coherence r x e = absurd (cc)
first-use (mode.Analysis ids) r x e = if-first (among ids.items r) first.Expected x e
first-use (mode.Borrowck ids) r x e = if-first (among ids.items r) first.TypeChecked x e
first-use (mode.PostBorrowckAnalysis ids) r x e = absurd (cc)
first-use mode.PostAnalysis r x e = absurd (cc)
first-use mode.ErasedNotCoherence r x e = absurd (cc)

-- so it is the use that was found
pub use-defines : (k : TypingMode) (r : OpaqueRow) (u v : OpaqueUse) (x : FirstUse) → u ≡ opaque_use k r → u ≡ v → first_use k r ≡ Some x → v ≡ uses.Defining x
use-defines k r u v x way is e = sym is ∙ way ∙ first-use k r x e

pub same-defined : (f g : FirstUse) → uses.Defining f ≡ uses.Defining g → f ≡ g
same-defined f g e = cc
