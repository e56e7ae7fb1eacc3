-- Words on lists of entries: lists behind a test, the lists of impls by their polarity, and premises as entries.
use Rattle.std.proofs.Common.{◌≡◌, ◌⊎◌, ◌↔◌, Bool, true, false, List, [], ◌∷◌, ◌++◌, Option, Some, None, if◌then◌else◌, inl, inr, refl, sym, ap, ⊎_elim, eq-eqb, eqb-true, ◌||◌, ◌&&◌}
use Rattle.std.proofs.lemmas.Bool.{false≢true}
use Rattle.goal_terms.specs.Tree.{Tree}
use Rattle.goal_terms.specs.declared.answers.GoalSource.{GoalSource}
use Rattle.goal_terms.specs.declared.ids.TraitId.{TraitId}
use Rattle.goal_terms.specs.declared.modes.TypingMode.{TypingMode}
use Rattle.goal_terms.specs.declared.modes.TypingMode.TheVariants as mode
use Rattle.goal_tables.specs.ImplFaults.{is_reservation}
use Rattle.goal_tables.specs.SourceFaults.{is_positive}
use Rattle.goal_tables.specs.declared.rows.ImplPolarity.{ImplPolarity}
use Rattle.goal_tables.specs.declared.rows.ImplPolarity.TheVariants as polarity
use Rattle.goal_lists.specs.Entries.{Entry, EntriesHold, EntriesRefuted, ListHolds, ListGives, ListRefuted, premise_entries}
use Rattle.goal_lists.specs.Level.{Level}
use Rattle.goal_lists.specs.Premises.{Premise, predicate, equation, PremiseHolds, PremiseRefuted, PremisesHold, PremisesRefuted}
use Rattle.goal_lists.specs.Settings.{is_headline, is_coherence}
use Rattle.goal_lists.specs.TraitLists.{is_trait, reserved_list, list_by_polarity}
use Rattle.goal_lists.specs.Words.{Each, Exists, Pairs, SomePair}
use Rattle.goal_lists.proofs.EntryLemmas.{iff-chain, iff-either, iff-same}

-- one of two, the second of which never is
pub nothing-more : {A : Type 0} → (A ⊎ ⊥) ↔ A
nothing-more = (λ h. ⊎_elim (λ x. x) (λ x. absurd x) h, λ h. inl h)

-- one of two, the second of which is one of two
pub regroup : {A B C D : Type 0} → D ↔ (B ⊎ C) → (A ⊎ D) ↔ ((A ⊎ B) ⊎ C)
regroup e = (
  λ h. ⊎_elim (λ a. inl (inl a)) (λ d. ⊎_elim (λ b. inl (inr b)) (λ c. inr c) (e.0 d)) h,
  λ h. ⊎_elim (λ x. ⊎_elim (λ a. inl a) (λ b. inr (e.1 (inl b))) x) (λ c. inr (e.1 (inr c))) h,
)

-- known arguments of which equivalent claims are made
pub known-same : {A B C : List Tree → Type 0} → ((s : List Tree) → B s ↔ C s) → ((s : List Tree) × A s × B s) ↔ ((s : List Tree) × A s × C s)
known-same f = (λ h. (h.0, h.1, (f h.0).0 h.2), λ h. (h.0, h.1, (f h.0).1 h.2))

-- a test that says whether a claim holds also says whether it doesn't
pub test-fails : {P : Type 0} (b : Bool) → (b ≡ true) ↔ P → (b ≡ false) ↔ (P → ⊥)
test-fails true f = (λ e. absurd (false≢true (sym e)), λ n. absurd (n (f.0 refl)))
test-fails false f = (λ e p. false≢true (f.1 p), λ n. refl)

-- traits of one number are one
pub same_trait : (i j : TraitId) → i.0 ≡ j.0 → i ≡ j
same_trait i j e = ap (λ n. record { 0 = n }) e

-- whether two numbers are of one trait
pub trait-tested : (j i : TraitId) → (is_trait j i ≡ true) ↔ (j ≡ i)
trait-tested j i = (λ e. same_trait j i (eqb-true j.0 i.0 e), λ e. eq-eqb j.0 i.0 (ap (λ k. k.0) e))

-- a list behind a test
pub tested-holds : (L : Level) (b : Bool) (o : Option (List Entry)) → ListHolds L (if b then o else None) ↔ ((b ≡ true) × ListHolds L o)
unfolding ListHolds
tested-holds L true o = (λ h. (refl, h), λ h. h.1)
tested-holds L false o = (λ h. absurd h, λ h. absurd (false≢true h.0))

pub tested-gives : (L : Level) (b : Bool) (o : Option (List Entry)) (u : Tree) → ListGives L (if b then o else None) u ↔ ((b ≡ true) × ListGives L o u)
unfolding ListGives
tested-gives L true o u = (λ h. (refl, h), λ h. h.1)
tested-gives L false o u = (λ h. absurd h, λ h. absurd (false≢true h.0))

pub tested-refuted : (L : Level) (b : Bool) (o : Option (List Entry)) → ListRefuted L (if b then o else None) ↔ ((b ≡ false) ⊎ ListRefuted L o)
unfolding ListRefuted
tested-refuted L true o = (λ h. inr h, λ h. ⊎_elim (λ e. absurd (false≢true (sym e))) (λ x. x) h)
tested-refuted L false o = (λ h. inl refl, λ h. tt)

-- in a headline mode a reservation impl has no list
pub reserved-none : (m : TypingMode) → is_headline m ≡ true → (es : List Entry) → reserved_list m es ≡ None
reserved-none mode.Coherence e es = absurd (false≢true e)
reserved-none (mode.Analysis ids) e es = refl
reserved-none (mode.Borrowck ids) e es = refl
reserved-none (mode.PostBorrowckAnalysis ids) e es = refl
reserved-none mode.PostAnalysis e es = refl
reserved-none mode.ErasedNotCoherence e es = absurd (false≢true e)

-- the list of an impl holds, or gives a term, where the impl is positive and what it asks for does
pub polarity-holds : (m : TypingMode) (L : Level) (x : ImplPolarity) (es : List Entry) → ListHolds L (list_by_polarity m x es) ↔ ((is_positive x ≡ true) × ListHolds L (Some es))
unfolding list_by_polarity ListHolds EntriesHold
polarity-holds m L polarity.Positive es = (λ h. (refl, h), λ h. h.1)
polarity-holds m L polarity.Negative es = (λ h. absurd h, λ h. absurd (false≢true h.0))
polarity-holds mode.Coherence L polarity.Reservation es = (λ h. absurd h, λ h. absurd (false≢true h.0))
polarity-holds m L polarity.Reservation es = (λ h. absurd h, λ h. absurd (false≢true h.0))

pub polarity-gives : (m : TypingMode) (L : Level) (x : ImplPolarity) (es : List Entry) (u : Tree) →
    ListGives L (list_by_polarity m x es) u ↔ ((is_positive x ≡ true) × ListGives L (Some es) u)
unfolding list_by_polarity ListGives EntriesHold
polarity-gives m L polarity.Positive es u = (λ h. (refl, h), λ h. h.1)
polarity-gives m L polarity.Negative es u = (λ h. absurd h, λ h. absurd (false≢true h.0))
polarity-gives mode.Coherence L polarity.Reservation es u = (λ h. absurd h, λ h. absurd (false≢true h.0))
polarity-gives m L polarity.Reservation es u = (λ h. absurd h, λ h. absurd (false≢true h.0))

-- it is refuted where the impl is neither positive nor bars a refutation, or what it asks for is
pub polarity-refuted : (m : TypingMode) (L : Level) (x : ImplPolarity) (es : List Entry) →
    ListRefuted L (list_by_polarity m x es) ↔ ((is_positive x || (is_coherence m && is_reservation x) ≡ false) ⊎ ListRefuted L (Some es))
unfolding list_by_polarity ListRefuted EntriesRefuted
polarity-refuted m L polarity.Positive es = (λ h. inr h, λ h. ⊎_elim (λ e. absurd (false≢true (sym e))) (λ x. x) h)
polarity-refuted mode.Coherence L polarity.Negative es = (λ h. inl refl, λ h. tt)
polarity-refuted m L polarity.Negative es = (λ h. inl refl, λ h. tt)
polarity-refuted mode.Coherence L polarity.Reservation es = (λ h. inr h, λ h. ⊎_elim (λ e. absurd (false≢true (sym e))) (λ x. x) h)
polarity-refuted m L polarity.Reservation es = (λ h. inl refl, λ h. tt)

-- premises with entries behind them
pub premises-hold : (L : Level) (Said : Tree → Type 0) (Unsaid : Type 0) (named : List (List Tree)) (g : GoalSource) (ps : List Premise) (es : List Entry) →
    EntriesHold L Said Unsaid named (premise_entries g ps ++ es) ↔ (PremisesHold L ps × EntriesHold L Said Unsaid named es)
unfolding EntriesHold PremisesHold PremiseHolds Each Pairs
premises-hold L Said Unsaid named g [] es = (λ h. (tt, h), λ h. h.1)
premises-hold L Said Unsaid named g (predicate p ∷ ps) es =
    let rest = premises-hold L Said Unsaid named g ps es in
    (λ h. let x = rest.0 h.1 in ((h.0, x.0), x.1), λ h. (h.0.0, rest.1 (h.0.1, h.1)))
premises-hold L Said Unsaid named g (equation t u ∷ ps) es =
    let rest = premises-hold L Said Unsaid named g ps es in
    (λ h. let x = rest.0 h.1 in ((h.0.0, x.0), x.1), λ h. ((h.0.0, tt), rest.1 (h.0.1, h.1)))

pub premises-refuted : (L : Level) (named : List (List Tree)) (g : GoalSource) (ps : List Premise) (es : List Entry) →
    EntriesRefuted L named (premise_entries g ps ++ es) ↔ (PremisesRefuted L ps ⊎ EntriesRefuted L named es)
unfolding EntriesRefuted PremisesRefuted PremiseRefuted Exists SomePair
premises-refuted L named g [] es = (λ h. inr h, λ h. ⊎_elim (λ x. absurd x) (λ x. x) h)
premises-refuted L named g (predicate p ∷ ps) es = regroup (premises-refuted L named g ps es)
premises-refuted L named g (equation t u ∷ ps) es = iff-chain (iff-either nothing-more iff-same) (regroup (premises-refuted L named g ps es))

-- and alone
pub premises_alone-hold : (L : Level) (Said : Tree → Type 0) (named : List (List Tree)) (g : GoalSource) (ps : List Premise) →
    EntriesHold L Said (Unit {0}) named (premise_entries g ps) ↔ PremisesHold L ps
unfolding EntriesHold PremisesHold PremiseHolds Each Pairs
premises_alone-hold L Said named g [] = (λ h. tt, λ h. tt)
premises_alone-hold L Said named g (predicate p ∷ ps) =
    let rest = premises_alone-hold L Said named g ps in
    (λ h. (h.0, rest.0 h.1), λ h. (h.0, rest.1 h.1))
premises_alone-hold L Said named g (equation t u ∷ ps) =
    let rest = premises_alone-hold L Said named g ps in
    (λ h. (h.0.0, rest.0 h.1), λ h. ((h.0, tt), rest.1 h.1))

pub premises_alone-refuted : (L : Level) (named : List (List Tree)) (g : GoalSource) (ps : List Premise) →
    EntriesRefuted L named (premise_entries g ps) ↔ PremisesRefuted L ps
unfolding EntriesRefuted PremisesRefuted PremiseRefuted Exists SomePair
premises_alone-refuted L named g [] = iff-same
premises_alone-refuted L named g (predicate p ∷ ps) = iff-either iff-same (premises_alone-refuted L named g ps)
premises_alone-refuted L named g (equation t u ∷ ps) = iff-either nothing-more (premises_alone-refuted L named g ps)

pub premise_list-holds : (L : Level) (g : GoalSource) (ps : List Premise) → ListHolds L (Some (premise_entries g ps)) ↔ PremisesHold L ps
unfolding ListHolds
premise_list-holds L g ps = premises_alone-hold L (λ u. Unit {0}) [] g ps

pub premise_list-refuted : (L : Level) (g : GoalSource) (ps : List Premise) → ListRefuted L (Some (premise_entries g ps)) ↔ PremisesRefuted L ps
unfolding ListRefuted
premise_list-refuted L g ps = premises_alone-refuted L [] g ps
