-- What the list of a candidate or of an alias records has its cause in the tables.
use Rattle.std.proofs.Common.{◌≡◌, ◌==◌, eq-eqb, Bool, true, false, ℕ, List, [], ◌∷◌, ◌++◌, Option, Some, None, Vec, if◌then◌else◌, refl, sym, ap, subst, ◌∙◌}
use Rattle.std.specs.Prelude.{◌&&◌, not, IfSome}
use Rattle.std.specs.Global.{Global}
use Rattle.std.specs.List.{All, find, list_any}
use Rattle.std.specs.Option.{option_map}
use Rattle.std.proofs.lemmas.Bool.{false≢true}
use Rattle.std.proofs.lemmas.List.Elements.{All-nil, All-cons}
use Rattle.goal_terms.specs.PredicateTrees.{PredicateTree, holds, equals, holds_const}
use Rattle.goal_terms.specs.Tree.{Tree, node, alias, variable, forest, list_of}
use Rattle.goal_terms.specs.declared.answers.DelayedFault.TheVariants.{MissingItem}
use Rattle.goal_terms.specs.declared.answers.GoalSource.{GoalSource}
use Rattle.goal_terms.specs.declared.answers.GoalSource.TheVariants as source
use Rattle.goal_terms.specs.declared.answers.OpaqueAccess.TheVariants.{IfDefining, IfPostAnalysis, Always}
use Rattle.goal_terms.specs.declared.ids.DefId.{DefId}
use Rattle.goal_terms.specs.declared.ids.ItemId.{ItemId}
use Rattle.goal_terms.specs.declared.ids.OpaqueId.{OpaqueId}
use Rattle.goal_terms.specs.declared.ids.TraitId.{TraitId}
use Rattle.goal_terms.specs.declared.modes.TypingMode.{TypingMode}
use Rattle.goal_terms.specs.declared.modes.TypingMode.TheVariants as mode
use Rattle.goal_terms.specs.declared.predicates.BoundConstness.{BoundConstness}
use Rattle.goal_terms.specs.declared.terms.AliasTermKind.{AliasTermKind}
use Rattle.goal_terms.specs.declared.terms.AliasTermKind.TheVariants.{ProjectionTy, ProjectionConst, InherentTy, InherentConst, OpaqueTy, FreeTy, FreeConst, UnevaluatedConst}
use Rattle.goal_terms.specs.declared.terms.Term.{Term}
use Rattle.goal_tables.specs.Rows.{source_of, definition_of, opaque_of, inherent_of, inherent_impl_of, free_of, trait_of}
use Rattle.goal_tables.specs.declared.rows.DefRow.{DefRow}
use Rattle.goal_tables.specs.declared.rows.DefValue.{DefValue}
use Rattle.goal_tables.specs.declared.rows.DefValue.TheVariants as value
use Rattle.goal_tables.specs.declared.rows.FreeRow.{FreeRow}
use Rattle.goal_tables.specs.declared.rows.ImplPolarity.{ImplPolarity}
use Rattle.goal_tables.specs.declared.rows.ImplPolarity.TheVariants as polarity
use Rattle.goal_tables.specs.declared.rows.ImplRow.{ImplRow}
use Rattle.goal_tables.specs.declared.rows.InherentImplRow.{InherentImplRow}
use Rattle.goal_tables.specs.declared.rows.InherentRow.{InherentRow}
use Rattle.goal_tables.specs.declared.rows.OpaqueRow.{OpaqueRow}
use Rattle.goal_tables.specs.declared.rows.Source.{Source}
use Rattle.goal_tables.specs.declared.rows.Source.TheVariants as item_source
use Rattle.goal_tables.specs.declared.rows.SourceRow.{SourceRow}
use Rattle.goal_tables.specs.declared.rows.Tables.{Tables}
use Rattle.goal_lists.specs.AliasLists.{row_value, entries_of_row, free_list, inherent_list, inherent_alias_list, defined_list, hidden_list, opaque_list, opaque_alias_list, alias_list}
use Rattle.goal_lists.specs.Builtins.{Listed, nothing_listed, listed, listed_rigid, listed_by_size, term_rule, trait_rule}
use Rattle.goal_lists.specs.Candidates.{Candidate, assumption, implied_bound, by_impl, built_in, error}
use Rattle.goal_lists.specs.Causes.{IsCaused, IsFaultCaused, IsCausedEntry, IsCausedList, is_missing}
use Rattle.goal_lists.specs.ConstRules.{const_rule}
use Rattle.goal_lists.specs.EffectLists.{effect_assumption_list, const_rule_entries, source_of_const_rule, effect_list}
use Rattle.goal_lists.specs.Entries.{Entry, arguments, equal_terms, clause, row_clauses, row_conditions, expected, access, delayed_fault, evaluation, ambiguous, undecided, refused, head_form_of, premise_entry, premise_entries}
use Rattle.goal_lists.specs.ImplTerms.{Projection, Taken, from_projection, from_impl, from_other, taken}
use Rattle.goal_lists.specs.InternedEntries.{entry_at, entries_at, list_at}
use Rattle.goal_lists.specs.Laws.{is_default_source}
use Rattle.goal_lists.specs.ListModes.{accesses_in, list_accesses}
use Rattle.goal_lists.specs.Premises.{Premise, predicate, equation, ConstRule, conditions_as}
use Rattle.goal_lists.specs.ProjectionLists.{is_item, same_item_list, equation_clause_list, projection_assumption_list, standing, definition_value, taken_entries, rigid_entries, value_entries, definition_entries, default_entries, source_entries, said_by_row_entries, said_entries, listed_list, projection_list}
use Rattle.goal_lists.specs.Projections.{projected_item}
use Rattle.goal_lists.specs.OpaqueUses.{access_to}
use Rattle.goal_lists.specs.Settings.{Setting, among}
use Rattle.goal_lists.specs.TraitGoals.{any_error}
use Rattle.goal_lists.specs.TraitLists.{is_trait, trait_assumption_list, reserved_list, list_by_polarity, source_of_rule, trait_list}
use Rattle.goal_lists.specs.declared.lists.InternedEntry.{InternedEntry}
use Rattle.goal_lists.specs.declared.lists.FirstUse.{FirstUse}
use Rattle.goal_lists.specs.declared.lists.FirstUse.TheVariants as first
use Rattle.goal_lists.specs.declared.lists.InternedEntry.TheVariants as entries
use Rattle.goal_lists.proofs.AcceptedLemmas.{found_fails}

-- an entry that records something has its cause in the tables, and so has each of a list
abbrev pub Caused : Tables → Entry → Type 0
Caused t (access a) = IsCaused t a
Caused t (delayed_fault f) = IsFaultCaused t f
Caused t _ = Unit {0}

unfoldable pub AreCaused : Tables → List Entry → Type 0
AreCaused t [] = Unit {0}
AreCaused t (e ∷ es) = Caused t e × AreCaused t es

abbrev pub ListCaused : Tables → Option (List Entry) → Type 0
ListCaused t o = IfSome o (AreCaused t)

-- what a look-up finds passes a test, so some row does
not-false : (b : Bool) → (b ≡ false → ⊥) → b ≡ true
not-false true f = refl
not-false false f = absurd (f refl)

found-some : {A : Type 0} (test p : A → Bool) (xs : List A) (x : A) → find test xs ≡ Some x → p x ≡ true → list_any p xs ≡ true
found-some test p xs x e h = not-false (list_any p xs) (λ f. false≢true (sym (found_fails test p xs x e f) ∙ h))

-- an opaque type that is found is what the access to it is about
same-number : (n : ℕ) → (n == n) ≡ true
same-number n = eq-eqb n n refl

access-caused : (t : Tables) (i : OpaqueId) (r : OpaqueRow) (b : Bool) → r.is_local ≡ b → opaque_of t i ≡ Some r → IsCaused t (if b then IfDefining r.id else IfPostAnalysis)
unfolding IsCaused
access-caused t i r true l e = found-some (λ q. q.id.0 == i.0) (λ q. q.is_local && (q.id.0 == r.id.0)) t.opaque_types.items r e (ap (λ b. b && (r.id.0 == r.id.0)) l ∙ same-number r.id.0)
access-caused t i r false l e = found-some (λ q. q.id.0 == i.0) (λ q. not q.is_local) t.opaque_types.items r e (ap not l)

-- a default that is found is one of the tables' defaults
default-caused : (t : Tables) (r : ImplRow) (i : ItemId) (q : SourceRow) → source_of t r.id i ≡ Some q → is_default_source q.source ≡ true → IsCaused t Always
unfolding IsCaused
default-caused t r i q e d = found-some (λ x. (x.impl_id.0 == r.id.0) && (x.item_id.0 == i.0)) (λ x. is_default_source x.source) t.sources.items q e d

-- a definition that is found without a value is what its fault is about
missing-caused : (t : Tables) (i : DefId) (d : DefRow) → definition_of t i ≡ Some d → is_missing d.value ≡ true → IsFaultCaused t (MissingItem d.id)
unfolding IsFaultCaused
missing-caused t i d e m = found-some (λ r. r.id.0 == i.0) (λ r. is_missing r.value && (r.id.0 == d.id.0)) t.definitions.items d e (ap (λ b. b && (d.id.0 == d.id.0)) m ∙ same-number d.id.0)

-- one list or another, and a list behind a test
one-caused : (t : Tables) (b : Bool) (es fs : List Entry) → AreCaused t es → AreCaused t fs → AreCaused t (if b then es else fs)
one-caused t true es fs h k = h
one-caused t false es fs h k = k

tested-caused : (t : Tables) (b : Bool) (o : Option (List Entry)) → ListCaused t o → ListCaused t (if b then o else None)
tested-caused t true o h = h
tested-caused t false o h = tt

-- premises
premise-caused : (t : Tables) (g : GoalSource) (p : Premise) → Caused t (premise_entry g p)
premise-caused t g (predicate p) = tt
premise-caused t g (equation x y) = tt

premises-caused : (t : Tables) (g : GoalSource) (ps : List Premise) (es : List Entry) → AreCaused t es → AreCaused t (premise_entries g ps ++ es)
unfolding AreCaused
premises-caused t g [] es h = h
premises-caused t g (p ∷ ps) es h = (premise-caused t g p, premises-caused t g ps es h)

alone-caused : (t : Tables) (g : GoalSource) (ps : List Premise) → AreCaused t (premise_entries g ps)
unfolding AreCaused
alone-caused t g [] = tt
alone-caused t g (p ∷ ps) = (premise-caused t g p, alone-caused t g ps)

-- an impl, by its polarity
reserved-caused : (t : Tables) (m : TypingMode) (es : List Entry) → AreCaused t es → ListCaused t (reserved_list m es)
unfolding AreCaused
reserved-caused t mode.Coherence es h = (tt, h)
reserved-caused t (mode.Analysis ids) es h = tt
reserved-caused t (mode.Borrowck ids) es h = tt
reserved-caused t (mode.PostBorrowckAnalysis ids) es h = tt
reserved-caused t mode.PostAnalysis es h = tt
reserved-caused t mode.ErasedNotCoherence es h = tt

polarity-caused : (t : Tables) (m : TypingMode) (x : ImplPolarity) (es : List Entry) → AreCaused t es → ListCaused t (list_by_polarity m x es)
unfolding list_by_polarity
polarity-caused t m polarity.Positive es h = h
polarity-caused t m polarity.Negative es h = tt
polarity-caused t m polarity.Reservation es h = reserved-caused t m es h

-- the candidates for a trait goal
assumption-caused : (t : Tables) (i : TraitId) (args : List Tree) (p : PredicateTree) → ListCaused t (trait_assumption_list i args p)
unfolding trait_assumption_list AreCaused
assumption-caused t i args (holds j bs) = tested-caused t (is_trait j i) (Some (equal_terms bs args ∷ [])) (tt, tt)
assumption-caused t i args (equals a u) = tt
assumption-caused t i args (holds_const c j bs) = tt

rule-caused : (t : Tables) (g : GoalSource) (o : Option (List Premise)) → ListCaused t (option_map (premise_entries g) o)
rule-caused t g None = tt
rule-caused t g (Some ps) = alone-caused t g ps

pub trait_list-caused : (S : Setting) (i : TraitId) (args : List Tree) (c : Candidate) → ListCaused S.tables (trait_list S i args c)
unfolding trait_list AreCaused
trait_list-caused S i args (assumption p) = assumption-caused S.tables i args p
trait_list-caused S i args (implied_bound b cs) = tt
trait_list-caused S i args (by_impl r) = polarity-caused S.tables S.mode r.polarity _ (tt, (tt, tt))
trait_list-caused S i args built_in = rule-caused S.tables (source_of_rule (trait_of S.tables i)) (trait_rule S.tables i args)
trait_list-caused S i args error = tested-caused S.tables (any_error args) (Some []) tt

-- those for a host effect goal
const_assumption-caused : (t : Tables) (c : BoundConstness) (i : TraitId) (args : List Tree) (p : PredicateTree) → ListCaused t (effect_assumption_list c i args p)
unfolding effect_assumption_list AreCaused
const_assumption-caused t c i args (holds_const b j bs) = tested-caused t _ (Some (equal_terms bs args ∷ [])) (tt, tt)
const_assumption-caused t c i args (holds j bs) = tt
const_assumption-caused t c i args (equals a u) = tt

const_rule-caused : (t : Tables) (g : GoalSource) (c : BoundConstness) (o : Option ConstRule) → ListCaused t (option_map (const_rule_entries g c) o)
const_rule-caused t g c None = tt
const_rule-caused t g c (Some r) = premises-caused t g r.premises (premise_entries g (conditions_as c r.conditions)) (alone-caused t g (conditions_as c r.conditions))

implied-caused : (t : Tables) (g : GoalSource) (bs args : List Tree) (ps : List Premise) → AreCaused t (equal_terms bs args ∷ premise_entries g ps)
unfolding AreCaused
implied-caused t g bs args ps = (tt, alone-caused t g ps)

pub effect_list-caused : (S : Setting) (b : BoundConstness) (i : TraitId) (args : List Tree) (c : Candidate) → ListCaused S.tables (effect_list S b i args c)
unfolding effect_list AreCaused
effect_list-caused S b i args (assumption p) = const_assumption-caused S.tables b i args p
effect_list-caused S b i args (implied_bound t cs) = tested-caused S.tables (is_trait t.def_id i) (Some _) (implied-caused S.tables _ t.args args (conditions_as b cs))
effect_list-caused S b i args (by_impl r) = tested-caused S.tables r.is_const _ (polarity-caused S.tables S.mode r.polarity _ (tt, (tt, (tt, tt))))
effect_list-caused S b i args built_in = const_rule-caused S.tables (source_of_const_rule S.tables i (trait_of S.tables i)) b (const_rule S.tables i args)
effect_list-caused S b i args error = tested-caused S.tables (any_error args) (Some []) tt

-- what an impl says of an item
definition_value-caused : (t : Tables) (v : DefValue) (n : ℕ) → Caused t (definition_value v n)
definition_value-caused t (value.Term e) n = tt
definition_value-caused t value.Missing n = tt
definition_value-caused t value.Evaluated n = tt

standing-caused : (t : Tables) (itself : Tree) → AreCaused t (standing itself)
unfolding AreCaused
standing-caused t itself = (tt, tt)

rigid-caused : (t : Tables) (m : TypingMode) (itself : Tree) → AreCaused t (rigid_entries m itself)
unfolding AreCaused
rigid-caused t mode.Coherence itself = (tt, tt)
rigid-caused t (mode.Analysis ids) itself = (tt, tt)
rigid-caused t (mode.Borrowck ids) itself = (tt, tt)
rigid-caused t (mode.PostBorrowckAnalysis ids) itself = (tt, tt)
rigid-caused t mode.PostAnalysis itself = (tt, tt)
rigid-caused t mode.ErasedNotCoherence itself = (tt, tt)

hidden_default-caused : (t : Tables) (m : TypingMode) (es : List Entry) (itself : Tree) → IsCaused t Always → AreCaused t es → AreCaused t (default_entries m es itself)
unfolding AreCaused
hidden_default-caused t mode.Coherence es itself c h = rigid-caused t mode.Coherence itself
hidden_default-caused t (mode.Analysis ids) es itself c h = (tt, tt)
hidden_default-caused t (mode.Borrowck ids) es itself c h = (tt, tt)
hidden_default-caused t (mode.PostBorrowckAnalysis ids) es itself c h = (tt, tt)
hidden_default-caused t mode.PostAnalysis es itself c h = h
hidden_default-caused t mode.ErasedNotCoherence es itself c h = (c, (tt, tt))

module _ (S : Setting) (r : ImplRow) (p : Projection) (itself : Tree) where
  taken-caused : (v : DefValue) (w : Taken) → AreCaused S.tables (taken_entries r p v w)
  unfolding taken_entries AreCaused
  taken-caused v from_projection = (definition_value-caused S.tables v 1, tt)
  taken-caused v from_impl = (tt, (definition_value-caused S.tables v 2, tt))
  taken-caused v (from_other None) = (tt, tt)
  taken-caused v (from_other (Some q)) = (tt, (tt, (tt, (definition_value-caused S.tables v 3, tt))))

  fault-caused : (es : List Entry) (d : DefRow) → IsFaultCaused S.tables (MissingItem d.id) → AreCaused S.tables es → AreCaused S.tables (delayed_fault (MissingItem d.id) ∷ es)
  unfolding AreCaused
  fault-caused es d c h = (c, h)

  value-caused : (i : DefId) (d : DefRow) (v : DefValue) → definition_of S.tables i ≡ Some d → d.value ≡ v → AreCaused S.tables (value_entries S r p itself d v)
  value-caused i d value.Missing e g =
      one-caused S.tables r.guaranteed_unsized _ _ (rigid-caused S.tables S.mode itself) (fault-caused _ d (missing-caused S.tables i d e (ap is_missing g)) (standing-caused S.tables _))
  value-caused i d (value.Term x) e g = taken-caused (value.Term x) (taken S r d.container)
  value-caused i d value.Evaluated e g = taken-caused value.Evaluated (taken S r d.container)

  definition-caused : (i : DefId) (o : Option DefRow) → definition_of S.tables i ≡ o → AreCaused S.tables (definition_entries S r p itself o)
  unfolding AreCaused
  definition-caused i None e = (tt, tt)
  definition-caused i (Some d) e = value-caused i d d.value e refl

  source-caused : (x : Source) → (is_default_source x ≡ true → IsCaused S.tables Always) → AreCaused S.tables (source_entries S r p itself x)
  source-caused (item_source.Broken n) c = standing-caused S.tables _
  source-caused (item_source.Def d true) c = hidden_default-caused S.tables S.mode _ itself (c refl) (definition-caused d (definition_of S.tables d) refl)
  source-caused (item_source.Def d false) c = definition-caused d (definition_of S.tables d) refl

  row-caused : (o : Option SourceRow) → source_of S.tables r.id p.item.id ≡ o → AreCaused S.tables (said_by_row_entries S r p itself o)
  unfolding AreCaused
  row-caused None e = (tt, tt)
  row-caused (Some q) e = source-caused q.source (default-caused S.tables r p.item.id q e)

  said-caused : AreCaused S.tables (said_entries S r p itself)
  unfolding said_entries
  said-caused = row-caused (source_of S.tables r.id p.item.id) refl

-- the candidates for a projection's term
clause-caused : (t : Tables) (p : Projection) (a v : Tree) → ListCaused t (equation_clause_list p a v)
unfolding equation_clause_list AreCaused
clause-caused t p (alias k bs) v = tested-caused t (is_item p.item.id (projected_item k)) (Some (same_item_list p (list_of bs) v)) (tt, (tt, (tt, (tt, tt))))
clause-caused t p (node h bs) v = tt
clause-caused t p (variable x) v = tt

projection_assumption-caused : (t : Tables) (p : Projection) (q : PredicateTree) → ListCaused t (projection_assumption_list p q)
unfolding projection_assumption_list
projection_assumption-caused t p (equals a v) = clause-caused t p a v
projection_assumption-caused t p (holds i ts) = tt
projection_assumption-caused t p (holds_const c i ts) = tt

last-caused : (t : Tables) (v : Tree) → AreCaused t (expected (head_form_of v) ∷ [])
unfolding AreCaused
last-caused t v = (tt, tt)

listed-caused : (t : Tables) (p : Projection) (itself : Tree) (x : Listed) → ListCaused t (listed_list p itself x)
unfolding listed_list AreCaused
listed-caused t p itself nothing_listed = tt
listed-caused t p itself (listed ps v) = premises-caused t source.ImplWhereBound ps _ (last-caused t v)
listed-caused t p itself listed_rigid = (tt, tt)
listed-caused t p itself (listed_by_size sized) = (tt, tt)

pub projection_list-caused : (S : Setting) (p : Projection) (itself : Tree) (c : Candidate) → ListCaused S.tables (projection_list S p itself c)
unfolding projection_list AreCaused
projection_list-caused S p itself (assumption q) = projection_assumption-caused S.tables p q
projection_list-caused S p itself (implied_bound b cs) = tt
projection_list-caused S p itself (by_impl r) = polarity-caused S.tables S.mode r.polarity _ (tt, (tt, (tt, (tt, (tt, said-caused S r p itself)))))
projection_list-caused S p itself built_in = listed-caused S.tables p itself (term_rule S.tables p.item.id p.args)
projection_list-caused S p itself error = tt

-- an alias that is no projection
row_value-caused : (t : Tables) (o : Option Term) (n : ℕ) → Caused t (row_value o n)
row_value-caused t None n = tt
row_value-caused t (Some e) n = tt

of_row-caused : {A : Type 0} (t : Tables) (o : Option A) (f : A → List Entry) → ((a : A) → o ≡ Some a → AreCaused t (f a)) → AreCaused t (entries_of_row o f)
unfolding entries_of_row AreCaused
of_row-caused t None f h = (tt, tt)
of_row-caused t (Some a) f h = h a refl

free-caused : (t : Tables) (args : List Tree) (r : FreeRow) → AreCaused t (free_list args r)
unfolding AreCaused
free-caused t args r = (tt, (tt, (row_value-caused t r.value 0, tt)))

inherent-caused : (t : Tables) (self : Tree) (own : List Tree) (r : InherentRow) (q : InherentImplRow) → AreCaused t (inherent_list self own r q)
unfolding AreCaused
inherent-caused t self own r q = (tt, (tt, (tt, (row_value-caused t r.value 1, tt))))

inherent_alias-caused : (S : Setting) (o : Option InherentRow) (args : List Tree) → AreCaused S.tables (inherent_alias_list S o args)
unfolding inherent_alias_list AreCaused
inherent_alias-caused S o [] = (tt, tt)
inherent_alias-caused S o (self ∷ own) = of_row-caused S.tables o _ (λ i e. of_row-caused S.tables (inherent_impl_of S.tables i.impl_id) _ (λ q g. inherent-caused S.tables self own i q))

defined-caused : (t : Tables) (i : OpaqueId) (args : List Tree) (r : OpaqueRow) (f : FirstUse) → AreCaused t (defined_list i args r f)
unfolding AreCaused
defined-caused t i args r f = (tt, tt)

opaque-caused : (t : Tables) (m : TypingMode) (r : OpaqueRow) (d : FirstUse → List Entry) (es fs : List Entry) → IsCaused t (access_to r) → ((f : FirstUse) → AreCaused t (d f)) →
    AreCaused t es → AreCaused t fs → AreCaused t (opaque_list m r d es fs)
unfolding opaque_list AreCaused
opaque-caused t mode.Coherence r d es fs c g h k = (tt, tt)
opaque-caused t (mode.Analysis ids) r d es fs c g h k = one-caused t (among ids.items r) (d first.Expected) fs (g first.Expected) k
opaque-caused t (mode.Borrowck ids) r d es fs c g h k = one-caused t (among ids.items r) (d first.TypeChecked) fs (g first.TypeChecked) k
opaque-caused t (mode.PostBorrowckAnalysis ids) r d es fs c g h k = one-caused t (among ids.items r) es fs h k
opaque-caused t mode.PostAnalysis r d es fs c g h k = h
opaque-caused t mode.ErasedNotCoherence r d es fs c g h k = (c, k)

hidden-caused : (t : Tables) (args : List Tree) (r : OpaqueRow) → AreCaused t (hidden_list args r)
unfolding AreCaused
hidden-caused t args r = (tt, (tt, tt))

pub alias_list-caused : (S : Setting) (k : AliasTermKind) (args : List Tree) → AreCaused S.tables (alias_list S k args)
unfolding alias_list AreCaused
alias_list-caused S (InherentTy i) args = inherent_alias-caused S (inherent_of S.tables i) args
alias_list-caused S (InherentConst i) args = inherent_alias-caused S (inherent_of S.tables i) args
alias_list-caused S (OpaqueTy i) args =
    of_row-caused S.tables (opaque_of S.tables i) (opaque_alias_list S i args)
    (λ r e. opaque-caused S.tables S.mode r _ _ _ (access-caused S.tables i r r.is_local refl e) (defined-caused S.tables i args r) (hidden-caused S.tables args r) (standing-caused S.tables (alias (OpaqueTy i) (forest args))))
alias_list-caused S (FreeTy i) args = of_row-caused S.tables (free_of S.tables i) (free_list args) (λ r e. free-caused S.tables args r)
alias_list-caused S (FreeConst i) args = of_row-caused S.tables (free_of S.tables i) (free_list args) (λ r e. free-caused S.tables args r)
alias_list-caused S (UnevaluatedConst n) args = (tt, tt)
alias_list-caused S (ProjectionTy i) args = (tt, tt)
alias_list-caused S (ProjectionConst i) args = (tt, tt)

-- entries over numbers, whose list is one of these
entry-caused : (t : Tables) (T : List Tree) (e : InternedEntry) → Caused t (entry_at T e) → IsCausedEntry t e
entry-caused t T (entries.Arguments a) h = tt
entry-caused t T (entries.EqualTerms a b) h = tt
entry-caused t T (entries.Clause g p) h = tt
entry-caused t T (entries.RowClauses r cs n) h = tt
entry-caused t T (entries.RowConditions c i rs n) h = tt
entry-caused t T (entries.Expected e) h = tt
entry-caused t T (entries.Access a) h = h
entry-caused t T (entries.DelayedFault f) h = h
entry-caused t T entries.Evaluation h = tt
entry-caused t T entries.Ambiguous h = tt
entry-caused t T entries.Undecided h = tt
entry-caused t T entries.Refused h = tt

entries-caused : (t : Tables) (T : List Tree) (es : List InternedEntry) → AreCaused t (entries_at T es) → All (IsCausedEntry t) es
unfolding AreCaused
entries-caused t T [] h = All-nil (IsCausedEntry t)
entries-caused t T (e ∷ es) h = All-cons (IsCausedEntry t) e es (entry-caused t T e h.0) (entries-caused t T es h.1)

pub made-caused : (t : Tables) (T : List Tree) (es : List InternedEntry) (fs : List Entry) → entries_at T es ≡ fs → AreCaused t fs → All (IsCausedEntry t) es
made-caused t T es fs e h = entries-caused t T es (subst (AreCaused t) (sym e) h)

pub list-caused : (t : Tables) (T : List Tree) (o : Option (Vec InternedEntry Global)) (q : Option (List Entry)) → list_at T o ≡ q → ListCaused t q → IsCausedList t o
list-caused t T None q e h = tt
list-caused t T (Some es) q e h = entries-caused t T es.items (subst (ListCaused t) (sym e) h)

-- the accesses that a list records
pub accesses-caused : (t : Tables) (es : List Entry) → AreCaused t es → All (IsCaused t) (accesses_in es)
unfolding AreCaused accesses_in
accesses-caused t [] h = All-nil (IsCaused t)
accesses-caused t (arguments a ∷ es) h = accesses-caused t es h.1
accesses-caused t (equal_terms ts us ∷ es) h = accesses-caused t es h.1
accesses-caused t (clause g p ∷ es) h = accesses-caused t es h.1
accesses-caused t (row_clauses cs n ∷ es) h = accesses-caused t es h.1
accesses-caused t (row_conditions c rs n ∷ es) h = accesses-caused t es h.1
accesses-caused t (expected e ∷ es) h = accesses-caused t es h.1
accesses-caused t (access a ∷ es) h = All-cons (IsCaused t) a (accesses_in es) h.0 (accesses-caused t es h.1)
accesses-caused t (delayed_fault f ∷ es) h = accesses-caused t es h.1
accesses-caused t (evaluation ∷ es) h = accesses-caused t es h.1
accesses-caused t (ambiguous ∷ es) h = accesses-caused t es h.1
accesses-caused t (undecided ∷ es) h = accesses-caused t es h.1
accesses-caused t (refused ∷ es) h = accesses-caused t es h.1

pub list_accesses-caused : (t : Tables) (o : Option (List Entry)) → ListCaused t o → All (IsCaused t) (list_accesses o)
list_accesses-caused t None h = All-nil (IsCaused t)
list_accesses-caused t (Some es) h = accesses-caused t es h
