-- The term that an impl has for an item holds no inference variable, if the projection's arguments hold none and the tables are accepted.
use Rattle.std.proofs.Common.{◌≡◌, ℕ, ◌&&◌, Bool, true, false, not, List, [], ◌∷◌, ◌++◌, map, Option, Some, None, refl, ap, ◌∙◌, sym, subst, if◌then◌else◌}
use Rattle.goal_terms.specs.NodeTests.{is_any_infer, some_node}
use Rattle.goal_terms.specs.Tree.{Tree}
use Rattle.goal_terms.specs.declared.modes.TypingMode.{TypingMode}
use Rattle.goal_tables.specs.Faults.{IsChecked}
use Rattle.goal_tables.specs.Rows.{source_of, definition_of}
use Rattle.goal_tables.specs.declared.rows.DefRow.{DefRow}
use Rattle.goal_tables.specs.declared.rows.DefValue.{DefValue}
use Rattle.goal_tables.specs.declared.rows.DefValue.TheVariants as value
use Rattle.goal_tables.specs.declared.rows.ImplRow.{ImplRow}
use Rattle.goal_tables.specs.declared.rows.ItemRow.{ItemRow}
use Rattle.goal_tables.specs.declared.rows.Source.{Source}
use Rattle.goal_tables.specs.declared.rows.Source.TheVariants as source
use Rattle.goal_tables.specs.declared.rows.SourceRow.{SourceRow}
use Rattle.goal_lists.specs.Headers.{under, Fits}
use Rattle.goal_lists.specs.ImplTerms.{Said, an_error, the_alias, a_value, evaluated, not_said, said_by_value, said_by_definition, said_by_source, said_by_row, said, Projection, trait_args, own_args, error_term, header_under, OtherImplHolds, Taken, from_projection, from_impl, from_other, taken, Translated, SaidGives, ImplGives, the_alias_unless}
use Rattle.goal_lists.specs.Level.{Level}
use Rattle.goal_lists.specs.Settings.{Setting, takes_defaults, is_coherence, hides_defaults}
use Rattle.goal_lists.specs.TraitGoals.{ImplHoldsUnder, header_of}
use Rattle.goal_lists.specs.Words.{Each, OfRow}
use Rattle.goal_kinds.proofs.ClosedHeaders.{KeepsClosed, closed-head_form, closed-all_known}
use Rattle.goal_kinds.proofs.ClosedRows.{IsClosedValue, closed-definition}
use Rattle.goal_kinds.proofs.ClosedTerms.{IsClosedTree, AreClosedTrees, closed-append, closed-take, closed-drop, closed-under}

-- what an impl says holds no inference variable
abbrev pub IsClosedSaying : Said → Type 0
IsClosedSaying (an_error n) = Unit {0}
IsClosedSaying the_alias = Unit {0}
IsClosedSaying (a_value c v) = IsClosedTree v
IsClosedSaying (evaluated c) = Unit {0}
IsClosedSaying not_said = Unit {0}

-- by a definition's value
closed-alias_unless : (b : Bool) → IsClosedSaying (the_alias_unless b)
closed-alias_unless true = tt
closed-alias_unless false = tt

closed-choice : (b : Bool) (x y : Said) → IsClosedSaying x → IsClosedSaying y → IsClosedSaying (if b then x else y)
closed-choice true x y e f = e
closed-choice false x y e f = f

closed-said_by_value : (m : TypingMode) (r : ImplRow) (d : DefRow) (v : DefValue) → IsClosedValue v → IsClosedSaying (said_by_value m r d v)
closed-said_by_value m r d value.Missing e = closed-choice r.guaranteed_unsized (the_alias_unless (is_coherence m)) (an_error d.id.0) (closed-alias_unless (is_coherence m)) tt
closed-said_by_value m r d (value.Term x) e = e
closed-said_by_value m r d value.Evaluated e = tt

closed-said_by_definition : (m : TypingMode) (r : ImplRow) (o : Option DefRow) → ((d : DefRow) → o ≡ Some d → IsClosedValue d.value) → IsClosedSaying (said_by_definition m r o)
closed-said_by_definition m r None each = tt
closed-said_by_definition m r (Some d) each = closed-said_by_value m r d d.value (each d refl)

-- by a source
closed-said_by_source : (S : Setting) → IsChecked S.tables → (r : ImplRow) (x : Source) → IsClosedSaying (said_by_source S r x)
closed-said_by_source S ok r (source.Broken n) = tt
closed-said_by_source S ok r (source.Def d is_default) =
    closed-choice (is_default && not (takes_defaults S.mode)) (the_alias_unless (hides_defaults S.mode)) (said_by_definition S.mode r (definition_of S.tables d))
    (closed-alias_unless (hides_defaults S.mode)) (closed-said_by_definition S.mode r (definition_of S.tables d) (λ q e. closed-definition S.tables ok d q e))

closed-said_by_row : (S : Setting) → IsChecked S.tables → (r : ImplRow) (o : Option SourceRow) → IsClosedSaying (said_by_row S r o)
closed-said_by_row S ok r None = tt
closed-said_by_row S ok r (Some q) = closed-said_by_source S ok r q.source

closed-said : (S : Setting) → IsChecked S.tables → (r : ImplRow) (item : ItemRow) → IsClosedSaying (said S r item)
unfolding said
closed-said S ok r item = closed-said_by_row S ok r (source_of S.tables r.id item.id)

-- an error is no inference variable
closed-error_term : (b : Bool) (n : ℕ) → IsClosedTree (error_term b n)
unfolding some_node
closed-error_term true n = refl
closed-error_term false n = refl

-- an impl's header, under its substitution
closed-header_under : (s : List Tree) → AreClosedTrees s → (hs : List Tree) → AreClosedTrees hs → AreClosedTrees (map (under s) hs)
unfolding Each
closed-header_under s all [] x = tt
closed-header_under s all (h ∷ hs) x = (closed-under s all h x.0, closed-header_under s all hs x.1)

-- the arguments that fit an impl's header
pub closed-fits : {L : Level} → KeepsClosed L → (r : ImplRow) (gs s : List Tree) → AreClosedTrees gs → Fits L r.params.items (header_of r) gs s → AreClosedTrees s
unfolding Fits
closed-fits w r gs s all h = closed-all_known w r.params.items (header_of r) gs s all h.0

-- equal terms hold none, if the others hold none
same-closed : (ts us : List Tree) → ts ≡ us → AreClosedTrees us → AreClosedTrees ts
same-closed ts us e all = subst AreClosedTrees (sym e) all

-- another impl's arguments for a header
closed-other_impl : {L : Level} → KeepsClosed L → (header own args : List Tree) (q : ImplRow) → AreClosedTrees header → AreClosedTrees own →
    OtherImplHolds L header own args q → AreClosedTrees args
unfolding OtherImplHolds
closed-other_impl w header own args q all others h =
    same-closed args (h.0 ++ own) h.3 (closed-append h.0 own (closed-fits w q header h.0 all h.1) others)

closed-other_row : {L : Level} → KeepsClosed L → (header own args : List Tree) (o : Option ImplRow) → AreClosedTrees header → AreClosedTrees own →
    OfRow o (OtherImplHolds L header own args) → AreClosedTrees args
unfolding OfRow
closed-other_row w header own args None all others h = absurd h
closed-other_row w header own args (Some q) all others h = closed-other_impl w header own args q all others h

-- the arguments for a definition
closed-translated : {L : Level} → KeepsClosed L → (r : ImplRow) → AreClosedTrees (header_of r) → (s : List Tree) → AreClosedTrees s →
    (p : Projection) → AreClosedTrees p.args → (t : Taken) (args : List Tree) → Translated L r s p t args → AreClosedTrees args
unfolding Translated
closed-translated w r header s all p given from_projection args h = same-closed args p.args h given
closed-translated w r header s all p given from_impl args h =
    same-closed args (s ++ own_args p) h (closed-append s (own_args p) all (closed-drop p.trait_params p.args given))
closed-translated w r header s all p given (from_other q) args h =
    closed-other_row w (header_under r s) (own_args p) args q (closed-header_under s all (header_of r) header) (closed-drop p.trait_params p.args given) h

-- the term that what an impl says gives
closed-said_gives : {L : Level} → KeepsClosed L → (S : Setting) (r : ImplRow) → AreClosedTrees (header_of r) → (s : List Tree) → AreClosedTrees s →
    (p : Projection) → AreClosedTrees p.args → (itself : Tree) → IsClosedTree itself → (x : Said) → IsClosedSaying x → (u : Tree) →
    SaidGives S L r s p itself x u → IsClosedTree u
unfolding SaidGives
closed-said_gives w S r header s all p given itself e (an_error n) c u h = ap (some_node is_any_infer) h ∙ closed-error_term p.item.is_const n
closed-said_gives w S r header s all p given itself e the_alias c u h = ap (some_node is_any_infer) h ∙ e
closed-said_gives w S r header s all p given itself e (a_value d v) c u h =
    closed-head_form w (under h.0 v) u (closed-under h.0 (closed-translated w r header s all p given (taken S r d) h.0 h.1) v c) h.2
closed-said_gives w S r header s all p given itself e (evaluated d) c u h = absurd h
closed-said_gives w S r header s all p given itself e not_said c u h = absurd h

-- the arguments under which an impl holds
closed-holds_under : {L : Level} → KeepsClosed L → (r : ImplRow) (gs s : List Tree) → AreClosedTrees gs → ImplHoldsUnder L r gs s → AreClosedTrees s
unfolding ImplHoldsUnder
closed-holds_under w r gs s all h = closed-fits w r gs s all h.1

-- the term that an impl gives
pub closed-impl_gives : {L : Level} → KeepsClosed L → (S : Setting) → IsChecked S.tables → (p : Projection) → AreClosedTrees p.args →
    (itself : Tree) → IsClosedTree itself → (r : ImplRow) → AreClosedTrees (header_of r) → (u : Tree) → ImplGives S L p itself r u → IsClosedTree u
unfolding ImplGives
closed-impl_gives w S ok p given itself e r header u h =
    closed-said_gives w S r header h.0 (closed-holds_under w r (trait_args p) h.0 (closed-take p.trait_params p.args given) h.1) p given itself e
    (said S r p.item) (closed-said S ok r p.item) u h.3
