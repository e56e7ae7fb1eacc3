-- The term that an impl has for an item is of the item's sort, if the projection's arguments are placed and the tables are accepted.
use Rattle.std.proofs.Common.{◌≡◌, ℕ, ◌==◌, ◌&&◌, Bool, true, false, not, List, [], ◌∷◌, ◌++◌, map, Option, Some, None, refl, sym, ap, ◌∙◌, subst, if◌then◌else◌}
use Rattle.std.specs.List.{find, list_any}
use Rattle.std.proofs.lemmas.Bool.{false≢true, eqb-true}
use Rattle.goal_terms.specs.Sorts.{is_argument_sort}
use Rattle.goal_terms.specs.Tree.{Tree}
use Rattle.goal_terms.specs.declared.ids.DefId.{DefId}
use Rattle.goal_terms.specs.declared.ids.ImplId.{ImplId}
use Rattle.goal_terms.specs.declared.ids.ItemId.{ItemId}
use Rattle.goal_terms.specs.declared.modes.TypingMode.{TypingMode}
use Rattle.goal_tables.specs.Faults.{IsChecked, applies}
use Rattle.goal_tables.specs.Options.{option_holds}
use Rattle.goal_tables.specs.RowFaults.{lies_in_impl}
use Rattle.goal_tables.specs.Rows.{item_of, impl_of, source_of, definition_of, doubled_source}
use Rattle.goal_tables.specs.SourceFaults.{items_mismatch, lacks_source, stands_elsewhere, is_outside, is_no_source, names_no_source, source_mismatch}
use Rattle.goal_tables.specs.declared.faults.TableFault.TheVariants as fault
use Rattle.goal_tables.specs.declared.rows.Container.{Container}
use Rattle.goal_tables.specs.declared.rows.Container.TheVariants as container
use Rattle.goal_tables.specs.declared.rows.DefRow.{DefRow}
use Rattle.goal_tables.specs.declared.rows.DefValue.{DefValue}
use Rattle.goal_tables.specs.declared.rows.DefValue.TheVariants as value
use Rattle.goal_tables.specs.declared.rows.ImplRow.{ImplRow}
use Rattle.goal_tables.specs.declared.rows.ItemRow.{ItemRow}
use Rattle.goal_tables.specs.declared.rows.Source.{Source}
use Rattle.goal_tables.specs.declared.rows.Source.TheVariants as source
use Rattle.goal_tables.specs.declared.rows.SourceRow.{SourceRow}
use Rattle.goal_tables.specs.declared.rows.Tables.{Tables}
use Rattle.goal_lists.specs.Headers.{under, Fits}
use Rattle.goal_lists.specs.ImplTerms.{Said, an_error, the_alias, a_value, evaluated, not_said, said_by_value, said_by_definition, said_by_source, said_by_row, said, Projection, trait_args, own_args, error_term, header_under, OtherImplHolds, Taken, from_projection, from_impl, from_other, taken, Translated, SaidGives, ImplGives, the_alias_unless}
use Rattle.goal_lists.specs.Level.{Level}
use Rattle.goal_lists.specs.Settings.{Setting, takes_defaults, is_coherence, hides_defaults}
use Rattle.goal_lists.specs.TraitGoals.{ImplHoldsUnder, header_of}
use Rattle.goal_lists.specs.Words.{Each, OfRow}
use Rattle.goal_lists.proofs.AcceptedLemmas.{found_fails}
use Rattle.goal_lists.proofs.AlikeSettings.{found}
use Rattle.goal_kinds.proofs.FaultlessRows.{five_fail, impls_fail}
use Rattle.goal_kinds.proofs.PlacedHeaders.{KeepsPlaced, placed-head_form_as, placed-all_known}
use Rattle.goal_kinds.proofs.PlacedRows.{IsPlacedValue, held-fails, placed-definition, placed-header}
use Rattle.goal_kinds.proofs.PlacedTerms.{sort_at, sort_of_value, EndsAsSaid, IsPlaced, IsPlacedAs, ArePlaced, placed-append, placed-take, placed-drop, placed-under, placed-under_as}
use Rattle.goal_lists.proofs.TableKindLemmas.{both_fail, not_false}

-- rows of one number are the same row
pub same-item : (t : Tables) (i j : ItemId) (r : ItemRow) → j.0 ≡ i.0 → item_of t i ≡ Some r → item_of t j ≡ Some r
same-item t i j r same e = ap (λ n. find (λ x. x.id.0 == n) t.items.items) same ∙ e

-- the second of two tests that both pass
second_passes : (a b : Bool) → a && b ≡ true → b ≡ true
second_passes true b e = e
second_passes false b e = absurd (false≢true e)

-- a source of accepted tables names a definition of its item
sources_fail : (t : Tables) → IsChecked t → list_any (λ r. names_no_source t r r.source) t.sources.items ≡ false
unfolding IsChecked applies source_mismatch
sources_fail t ok =
    (five_fail (items_mismatch t) (list_any (λ r. lacks_source t r) t.impls.items) (doubled_source t) (list_any (λ r. stands_elsewhere t r) t.sources.items)
    (list_any (λ r. names_no_source t r r.source) t.sources.items) (ok fault.SourceMismatch)).4

named_item : (t : Tables) (q : SourceRow) (d : DefId) (b : Bool) (x : Source) → x ≡ source.Def d b → (w : DefRow) → definition_of t d ≡ Some w →
    names_no_source t q x ≡ false → w.item.0 ≡ q.item_id.0
named_item t q d b x e w f none =
    let held : option_holds (is_no_source t q) (definition_of t d) ≡ false = sym (ap (names_no_source t q) e) ∙ none in
    eqb-true w.item.0 q.item_id.0
    (not_false (w.item.0 == q.item_id.0)
    (both_fail (not (w.item.0 == q.item_id.0)) (option_holds (λ p. is_outside t p w.container) (impl_of t q.impl_id)) (held-fails (is_no_source t q) (definition_of t d) w f held)).0)

source_item : (t : Tables) → IsChecked t → (i : ImplId) (item : ItemRow) → item_of t item.id ≡ Some item → (q : SourceRow) → source_of t i item.id ≡ Some q →
    (d : DefId) (b : Bool) → q.source ≡ source.Def d b → (w : DefRow) → definition_of t d ≡ Some w → item_of t w.item ≡ Some item
source_item t ok i item row q e d b named w f =
    let passes : q.item_id.0 ≡ item.id.0 =
    eqb-true q.item_id.0 item.id.0
    (second_passes (q.impl_id.0 == i.0) (q.item_id.0 == item.id.0) (found (λ r. (r.impl_id.0 == i.0) && (r.item_id.0 == item.id.0)) t.sources.items q e).1) in
    same-item t item.id w.item item
    (named_item t q d b q.source named w f
    (found_fails (λ r. (r.impl_id.0 == i.0) && (r.item_id.0 == item.id.0)) (λ r. names_no_source t r r.source) t.sources.items q e (sources_fail t ok)) ∙ passes) row

-- what an impl says of an item is of its sort
abbrev pub IsPlacedSaying : Tables → Bool → Said → Type 0
IsPlacedSaying t b (an_error n) = Unit {0}
IsPlacedSaying t b the_alias = Unit {0}
IsPlacedSaying t b (a_value c v) = IsPlacedAs t (sort_of_value b) v
IsPlacedSaying t b (evaluated c) = Unit {0}
IsPlacedSaying t b not_said = Unit {0}

-- by a definition's value
placed-alias_unless : (t : Tables) (b c : Bool) → IsPlacedSaying t b (the_alias_unless c)
placed-alias_unless t b true = tt
placed-alias_unless t b false = tt

placed-choice : (t : Tables) (b c : Bool) (x y : Said) → IsPlacedSaying t b x → IsPlacedSaying t b y → IsPlacedSaying t b (if c then x else y)
placed-choice t b true x y e f = e
placed-choice t b false x y e f = f

placed-said_by_value : (t : Tables) (b : Bool) (m : TypingMode) (r : ImplRow) (d : DefRow) (v : DefValue) → IsPlacedValue t b v → IsPlacedSaying t b (said_by_value m r d v)
placed-said_by_value t b m r d value.Missing e =
    placed-choice t b r.guaranteed_unsized (the_alias_unless (is_coherence m)) (an_error d.id.0) (placed-alias_unless t b (is_coherence m)) tt
placed-said_by_value t b m r d (value.Term x) e = e
placed-said_by_value t b m r d value.Evaluated e = tt

placed-said_by_definition : (t : Tables) (b : Bool) (m : TypingMode) (r : ImplRow) (o : Option DefRow) → ((d : DefRow) → o ≡ Some d → IsPlacedValue t b d.value) →
    IsPlacedSaying t b (said_by_definition m r o)
placed-said_by_definition t b m r None each = tt
placed-said_by_definition t b m r (Some d) each = placed-said_by_value t b m r d d.value (each d refl)

-- by a source
placed-said_by_source : (S : Setting) (b : Bool) (r : ImplRow) (x : Source) →
    ((d : DefId) (is_default : Bool) → x ≡ source.Def d is_default → (w : DefRow) → definition_of S.tables d ≡ Some w → IsPlacedValue S.tables b w.value) →
    IsPlacedSaying S.tables b (said_by_source S r x)
placed-said_by_source S b r (source.Broken n) each = tt
placed-said_by_source S b r (source.Def d is_default) each =
    placed-choice S.tables b (is_default && not (takes_defaults S.mode)) (the_alias_unless (hides_defaults S.mode)) (said_by_definition S.mode r (definition_of S.tables d))
    (placed-alias_unless S.tables b (hides_defaults S.mode)) (placed-said_by_definition S.tables b S.mode r (definition_of S.tables d) (λ w e. each d is_default refl w e))

placed-said_by_row : (S : Setting) → IsChecked S.tables → (r : ImplRow) (item : ItemRow) → item_of S.tables item.id ≡ Some item → (o : Option SourceRow) →
    source_of S.tables r.id item.id ≡ o → IsPlacedSaying S.tables item.is_const (said_by_row S r o)
placed-said_by_row S ok r item row None e = tt
placed-said_by_row S ok r item row (Some q) e =
    placed-said_by_source S item.is_const r q.source
    (λ d is_default x w f. placed-definition S.tables ok d w f item (source_item S.tables ok r.id item row q e d is_default x w f))

placed-said : (S : Setting) → IsChecked S.tables → (r : ImplRow) (item : ItemRow) → item_of S.tables item.id ≡ Some item → IsPlacedSaying S.tables item.is_const (said S r item)
unfolding said
placed-said S ok r item row = placed-said_by_row S ok r item row (source_of S.tables r.id item.id) refl

-- an error of a sort
placed-error_term : (t : Tables) (b : Bool) (n : ℕ) → IsPlacedAs t (sort_of_value b) (error_term b n)
unfolding IsPlaced EndsAsSaid
placed-error_term t true n = (refl, (tt, tt))
placed-error_term t false n = (refl, (tt, tt))

-- an impl's header, under its substitution
placed-header_under : (t : Tables) (s : List Tree) → ArePlaced t s → (hs : List Tree) → ArePlaced t hs → ArePlaced t (map (under s) hs)
unfolding Each
placed-header_under t s all [] x = tt
placed-header_under t s all (h ∷ hs) x =
    let u : IsPlacedAs t (sort_at h) (under s h) = placed-under t s all h x.0.1 in
    ((ap is_argument_sort u.0 ∙ x.0.0, u.1), placed-header_under t s all hs x.1)

-- the arguments that fit an impl's header
placed-fits : (t : Tables) {L : Level} → KeepsPlaced t L → (r : ImplRow) → ArePlaced t (header_of r) → (gs s : List Tree) → ArePlaced t gs →
    Fits L r.params.items (header_of r) gs s → ArePlaced t s
unfolding Fits
placed-fits t w r header gs s all h = placed-all_known t w r.params.items (header_of r) gs s header all h.0

-- equal lists
same-placed : (t : Tables) (ts us : List Tree) → ts ≡ us → ArePlaced t us → ArePlaced t ts
same-placed t ts us e all = subst (ArePlaced t) (sym e) all

-- another impl's arguments for a header
placed-other_impl : (t : Tables) {L : Level} → KeepsPlaced t L → (header own args : List Tree) (q : ImplRow) → ArePlaced t (header_of q) → ArePlaced t header → ArePlaced t own →
    OtherImplHolds L header own args q → ArePlaced t args
unfolding OtherImplHolds
placed-other_impl t w header own args q mine all others h =
    same-placed t args (h.0 ++ own) h.3 (placed-append t h.0 own (placed-fits t w q mine header h.0 all h.1) others)

placed-other_row : (t : Tables) {L : Level} → KeepsPlaced t L → (header own args : List Tree) (o : Option ImplRow) → ((q : ImplRow) → o ≡ Some q → ArePlaced t (header_of q)) →
    ArePlaced t header → ArePlaced t own → OfRow o (OtherImplHolds L header own args) → ArePlaced t args
unfolding OfRow
placed-other_row t w header own args None mine all others h = absurd h
placed-other_row t w header own args (Some q) mine all others h = placed-other_impl t w header own args q (mine q refl) all others h

-- whose arguments a definition takes
abbrev IsPlacedTaken : Tables → Taken → Type 0
IsPlacedTaken t from_projection = Unit {0}
IsPlacedTaken t from_impl = Unit {0}
IsPlacedTaken t (from_other o) = (q : ImplRow) → o ≡ Some q → ArePlaced t (header_of q)

placed-taken_if : (t : Tables) (b : Bool) (o : Option ImplRow) → ((q : ImplRow) → o ≡ Some q → ArePlaced t (header_of q)) → IsPlacedTaken t (if b then from_impl else from_other o)
placed-taken_if t true o each = tt
placed-taken_if t false o each = each

placed-impl : (t : Tables) → IsChecked t → (i : ImplId) (q : ImplRow) → impl_of t i ≡ Some q → ArePlaced t (header_of q)
placed-impl t ok i q e =
    placed-header t ok q (λ f. found_fails (λ x. x.id.0 == i.0) (λ x. lies_in_impl t f x) t.impls.items q e (impls_fail t ok f))

placed-taken : (S : Setting) → IsChecked S.tables → (r : ImplRow) (c : Container) → IsPlacedTaken S.tables (taken S r c)
unfolding taken
placed-taken S ok r (container.Trait i) = tt
placed-taken S ok r (container.Impl i) = placed-taken_if S.tables (i.0 == r.id.0) (impl_of S.tables i) (λ q e. placed-impl S.tables ok i q e)

-- the arguments for a definition
placed-translated : (t : Tables) {L : Level} → KeepsPlaced t L → (r : ImplRow) → ArePlaced t (header_of r) → (s : List Tree) → ArePlaced t s →
    (p : Projection) → ArePlaced t p.args → (x : Taken) → IsPlacedTaken t x → (args : List Tree) → Translated L r s p x args → ArePlaced t args
unfolding Translated
placed-translated t w r header s all p given from_projection mine args h = same-placed t args p.args h given
placed-translated t w r header s all p given from_impl mine args h =
    same-placed t args (s ++ own_args p) h (placed-append t s (own_args p) all (placed-drop t p.trait_params p.args given))
placed-translated t w r header s all p given (from_other q) mine args h =
    placed-other_row t w (header_under r s) (own_args p) args q mine (placed-header_under t s all (header_of r) header) (placed-drop t p.trait_params p.args given) h

-- the term that what an impl says gives
placed-said_gives : (S : Setting) → IsChecked S.tables → {L : Level} → KeepsPlaced S.tables L → (r : ImplRow) → ArePlaced S.tables (header_of r) → (s : List Tree) → ArePlaced S.tables s →
    (p : Projection) → ArePlaced S.tables p.args → (itself : Tree) → IsPlacedAs S.tables (sort_of_value p.item.is_const) itself → (x : Said) →
    IsPlacedSaying S.tables p.item.is_const x → (u : Tree) → SaidGives S L r s p itself x u → IsPlacedAs S.tables (sort_of_value p.item.is_const) u
unfolding SaidGives
placed-said_gives S ok w r header s all p given itself e (an_error n) c u h =
    subst (IsPlacedAs S.tables (sort_of_value p.item.is_const)) (sym h) (placed-error_term S.tables p.item.is_const n)
placed-said_gives S ok w r header s all p given itself e the_alias c u h = subst (IsPlacedAs S.tables (sort_of_value p.item.is_const)) (sym h) e
placed-said_gives S ok w r header s all p given itself e (a_value d v) c u h =
    placed-head_form_as S.tables w (sort_of_value p.item.is_const) (under h.0 v) u
    (placed-under_as S.tables h.0 (placed-translated S.tables w r header s all p given (taken S r d) (placed-taken S ok r d) h.0 h.1) (sort_of_value p.item.is_const) v c) h.2
placed-said_gives S ok w r header s all p given itself e (evaluated d) c u h = absurd h
placed-said_gives S ok w r header s all p given itself e not_said c u h = absurd h

-- the arguments under which an impl holds
placed-holds_under : (t : Tables) {L : Level} → KeepsPlaced t L → (r : ImplRow) → ArePlaced t (header_of r) → (gs s : List Tree) → ArePlaced t gs →
    ImplHoldsUnder L r gs s → ArePlaced t s
unfolding ImplHoldsUnder
placed-holds_under t w r header gs s all h = placed-fits t w r header gs s all h.1

-- the term that an impl gives
pub placed-impl_gives : (S : Setting) → IsChecked S.tables → {L : Level} → KeepsPlaced S.tables L → (p : Projection) → item_of S.tables p.item.id ≡ Some p.item → ArePlaced S.tables p.args →
    (itself : Tree) → IsPlacedAs S.tables (sort_of_value p.item.is_const) itself → (r : ImplRow) → ArePlaced S.tables (header_of r) → (u : Tree) →
    ImplGives S L p itself r u → IsPlacedAs S.tables (sort_of_value p.item.is_const) u
unfolding ImplGives
placed-impl_gives S ok w p row given itself e r header u h =
    placed-said_gives S ok w r header h.0 (placed-holds_under S.tables w r header (trait_args p) h.0 (placed-take S.tables p.trait_params p.args given) h.1) p given itself e
    (said S r p.item) (placed-said S ok r p.item row) u h.3
