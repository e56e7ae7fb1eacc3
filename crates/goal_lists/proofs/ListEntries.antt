-- What each sort of entry says of the term that its list gives, and of the list's being refuted.
use Rattle.std.proofs.Common.{◌≡◌, ◌⊎◌, ◌↔◌, ℕ, List, [], ◌∷◌, ◌++◌, map, Some, inr, refl, subst, ⊎_elim}
use Rattle.std.specs.Prelude.{slice_get}
use Rattle.goal_terms.specs.Erased.{erased}
use Rattle.goal_terms.specs.Tree.{Tree}
use Rattle.goal_terms.specs.declared.answers.DelayedFault.{DelayedFault}
use Rattle.goal_terms.specs.declared.answers.GoalSource.{GoalSource}
use Rattle.goal_terms.specs.declared.answers.OpaqueAccess.{OpaqueAccess}
use Rattle.goal_terms.specs.declared.answers.ParamKind.{ParamKind}
use Rattle.goal_terms.specs.declared.ids.OpaqueId.{OpaqueId}
use Rattle.goal_terms.specs.declared.predicates.Clause.{Clause}
use Rattle.goal_lists.specs.Entries.{Entry, arguments, given_arguments, of_header, of_other_header, followed_by, equal_terms, row_clauses, ExpectedTerm, expected, as_it_stands, head_form_of, value_under, delayed_fault, evaluation, undecided, OfNumbered, Named, NamedKnown, NamesNothing, TermIs, NoTerm, EntriesHold, EntriesRefuted, ListGives, ListRefuted, premise_entries, access, ambiguous, hidden_type}
use Rattle.goal_lists.specs.Headers.{under, AllKnown, Fits, Clashes}
use Rattle.goal_lists.specs.HiddenTypes.{HiddenGives, HiddenRefuted}
use Rattle.goal_lists.specs.Level.{Level, HasHeadForm, HeadFormRefuted}
use Rattle.goal_lists.specs.Premises.{Premise, PremisesHold, PremisesRefuted, clauses_under}
use Rattle.goal_lists.specs.Words.{Pairs, SomePair}
use Rattle.goal_lists.specs.declared.lists.FirstUse.{FirstUse}
use Rattle.goal_lists.proofs.EntryLemmas.{iff-chain, iff-both, iff-either, iff-same, of_row-there}
use Rattle.goal_lists.proofs.ListWords.{nothing-more, known-same, premises-hold, premises-refuted}

-- entries say what two claims do: they give the terms of which the first holds, and are refuted where the second holds
pub record EntriesSay (L : Level) (named : List (List Tree)) (es : List Entry) (P : Tree → Type 0) (R : Type 0) : Type 0 where
  pub gives : (u : Tree) → EntriesHold L (λ v. v ≡ u) ⊥ named es ↔ P u
  pub refuted : EntriesRefuted L named es ↔ R

-- a list that names nothing before its first entry
pub say-gives : {L : Level} {es : List Entry} {P : Tree → Type 0} {R : Type 0} → EntriesSay L [] es P R → (u : Tree) → ListGives L (Some es) u ↔ P u
unfolding ListGives
say-gives says u = says.gives u

pub say-refuted : {L : Level} {es : List Entry} {P : Tree → Type 0} {R : Type 0} → EntriesSay L [] es P R → ListRefuted L (Some es) ↔ R
unfolding ListRefuted
say-refuted says = says.refuted

module _ (L : Level) where
  -- claims that come to the same
  pub says-same : (named : List (List Tree)) (es : List Entry) {P Q : Tree → Type 0} {R T : Type 0} → ((u : Tree) → P u ↔ Q u) → R ↔ T →
      EntriesSay L named es P R → EntriesSay L named es Q T
  says-same named es f g says = record { gives = λ u. iff-chain (says.gives u) (f u); refuted = iff-chain says.refuted g }

  -- given arguments
  pub given-says : (named : List (List Tree)) (a : List Tree) (es : List Entry) (P : Tree → Type 0) (R : Type 0) →
      EntriesSay L (named ++ a ∷ []) es P R → EntriesSay L named (arguments (given_arguments a) ∷ es) P R
  unfolding EntriesHold EntriesRefuted Named NamedKnown NamesNothing
  given-says named a es P R says = record {
    gives = λ u. iff-chain (λ h. subst (λ s. EntriesHold L (λ v. v ≡ u) ⊥ (named ++ s ∷ []) es) h.1 h.2, λ h. (a, refl, h)) (says.gives u);
    refuted =
        iff-chain
        (λ h. ⊎_elim (λ x. absurd x) (λ x. subst (λ s. EntriesRefuted L (named ++ s ∷ []) es) x.1 x.2) h, λ h. inr (a, refl, h))
        says.refuted;
  }

  -- arguments that own ones follow
  pub followed-says : (named : List (List Tree)) (n : ℕ) (z own : List Tree) (es : List Entry) (P : Tree → Type 0) (R : Type 0) →
      slice_get named n ≡ Some z → EntriesSay L (named ++ (z ++ own) ∷ []) es P R → EntriesSay L named (arguments (followed_by n own) ∷ es) P R
  unfolding EntriesHold EntriesRefuted Named NamedKnown NamesNothing
  followed-says named n z own es P R at says =
      let names : (s : List Tree) → OfNumbered named n (λ y. s ≡ y ++ own) ↔ (s ≡ z ++ own)
      = λ s. of_row-there (slice_get named n) z (λ y. s ≡ y ++ own) at in
      record {
        gives = λ u.
            iff-chain (
              λ h. subst (λ s. EntriesHold L (λ v. v ≡ u) ⊥ (named ++ s ∷ []) es) ((names h.0).0 h.1) h.2,
              λ h. (z ++ own, (names (z ++ own)).1 refl, h),
            )
            (says.gives u);
        refuted =
            iff-chain (
              λ h. ⊎_elim (λ x. absurd x) (λ x. subst (λ s. EntriesRefuted L (named ++ s ∷ []) es) ((names x.0).0 x.1) x.2) h,
              λ h. inr (z ++ own, (names (z ++ own)).1 refl, h),
            )
            says.refuted;
      }

  -- a header that is matched
  pub header-says : (named : List (List Tree)) (params : List ParamKind) (hs gs : List Tree) (es : List Entry) (P : List Tree → Tree → Type 0) (R : List Tree → Type 0) →
      ((s : List Tree) → EntriesSay L (named ++ s ∷ []) es (P s) (R s)) →
      EntriesSay L named (arguments (of_header params hs gs) ∷ es)
      (λ u. (s : List Tree) × Fits L params (map erased hs) gs s × P s u)
      (Clashes L params (map erased hs) gs ⊎ ((s : List Tree) × AllKnown L params (map erased hs) gs s × R s))
  unfolding EntriesHold EntriesRefuted Named NamedKnown NamesNothing
  header-says named params hs gs es P R says = record {
    gives = λ u. known-same (λ s. (says s).gives u);
    refuted = iff-either iff-same (known-same (λ s. (says s).refuted));
  }

  -- another impl's header, matched with a row's under the arguments of a number
  pub other-says : (named : List (List Tree)) (params : List ParamKind) (hs gs : List Tree) (n : ℕ) (z : List Tree) (es : List Entry)
      (P : List Tree → Tree → Type 0) (R : List Tree → Type 0) →
      slice_get named n ≡ Some z → ((s : List Tree) → EntriesSay L (named ++ s ∷ []) es (P s) (R s)) →
      EntriesSay L named (arguments (of_other_header params hs gs n) ∷ es)
      (λ u. (s : List Tree) × Fits L params (map erased hs) (map (under z) (map erased gs)) s × P s u)
      (Clashes L params (map erased hs) (map (under z) (map erased gs)) ⊎ ((s : List Tree) × AllKnown L params (map erased hs) (map (under z) (map erased gs)) s × R s))
  unfolding EntriesHold EntriesRefuted Named NamedKnown NamesNothing
  other-says named params hs gs n z es P R at says =
      let here : (C : List Tree → Type 0) → OfNumbered named n C ↔ C z = λ C. of_row-there (slice_get named n) z C at in
      let fits : (s : List Tree) → OfNumbered named n (λ y. Fits L params (map erased hs) (map (under y) (map erased gs)) s) ↔ Fits L params (map erased hs) (map (under z) (map erased gs)) s
      = λ s. here (λ y. Fits L params (map erased hs) (map (under y) (map erased gs)) s) in
      let known : (s : List Tree) → OfNumbered named n (λ y. AllKnown L params (map erased hs) (map (under y) (map erased gs)) s) ↔ AllKnown L params (map erased hs) (map (under z) (map erased gs)) s
      = λ s. here (λ y. AllKnown L params (map erased hs) (map (under y) (map erased gs)) s) in
      record {
        gives = λ u. (
          λ h. (h.0, (fits h.0).0 h.1, ((says h.0).gives u).0 h.2),
          λ h. (h.0, (fits h.0).1 h.1, ((says h.0).gives u).1 h.2),
        );
        refuted =
            iff-either (here (λ y. Clashes L params (map erased hs) (map (under y) (map erased gs)))) (
              λ h. (h.0, (known h.0).0 h.1, (says h.0).refuted.0 h.2),
              λ h. (h.0, (known h.0).1 h.1, (says h.0).refuted.1 h.2),
            );
      }

  -- two lists of equal terms
  pub equal_terms-say : (named : List (List Tree)) (ts us : List Tree) (es : List Entry) (P : Tree → Type 0) (R : Type 0) → EntriesSay L named es P R →
      EntriesSay L named (equal_terms ts us ∷ es) (λ u. Pairs L.equal ts us × P u) (SomePair L.unequal ts us ⊎ R)
  unfolding EntriesHold EntriesRefuted
  equal_terms-say named ts us es P R says = record {
    gives = λ u. iff-both iff-same (says.gives u);
    refuted = iff-either iff-same says.refuted;
  }

  -- the clauses of a row
  pub row_clauses-say : (named : List (List Tree)) (cs : List Clause) (n : ℕ) (s : List Tree) (es : List Entry) (P : Tree → Type 0) (R : Type 0) →
      slice_get named n ≡ Some s → EntriesSay L named es P R →
      EntriesSay L named (row_clauses cs n ∷ es) (λ u. PremisesHold L (clauses_under s cs) × P u) (PremisesRefuted L (clauses_under s cs) ⊎ R)
  unfolding EntriesHold EntriesRefuted
  row_clauses-say named cs n s es P R at says = record {
    gives = λ u. iff-both (of_row-there (slice_get named n) s (λ z. PremisesHold L (clauses_under z cs)) at) (says.gives u);
    refuted = iff-either (of_row-there (slice_get named n) s (λ z. PremisesRefuted L (clauses_under z cs)) at) says.refuted;
  }

  -- premises
  pub premises-say : (named : List (List Tree)) (g : GoalSource) (ps : List Premise) (es : List Entry) (P : Tree → Type 0) (R : Type 0) → EntriesSay L named es P R →
      EntriesSay L named (premise_entries g ps ++ es) (λ u. PremisesHold L ps × P u) (PremisesRefuted L ps ⊎ R)
  premises-say named g ps es P R says = record {
    gives = λ u. iff-chain (premises-hold L (λ v. v ≡ u) ⊥ named g ps es) (iff-both iff-same (says.gives u));
    refuted = iff-chain (premises-refuted L named g ps es) (iff-either iff-same says.refuted);
  }

  -- what is evaluated, and what is recorded
  pub evaluation-says : (named : List (List Tree)) (es : List Entry) (P : Tree → Type 0) (R : Type 0) → EntriesSay L named es P R →
      EntriesSay L named (evaluation ∷ es) P R
  unfolding EntriesHold EntriesRefuted
  evaluation-says named es P R says = record { gives = says.gives; refuted = says.refuted }

  pub fault-says : (named : List (List Tree)) (f : DelayedFault) (es : List Entry) (P : Tree → Type 0) (R : Type 0) → EntriesSay L named es P R →
      EntriesSay L named (delayed_fault f ∷ es) P R
  unfolding EntriesHold EntriesRefuted
  fault-says named f es P R says = record { gives = says.gives; refuted = says.refuted }

  pub access-says : (named : List (List Tree)) (a : OpaqueAccess) (es : List Entry) (P : Tree → Type 0) (R : Type 0) → EntriesSay L named es P R →
      EntriesSay L named (access a ∷ es) P R
  unfolding EntriesHold EntriesRefuted
  access-says named a es P R says = record { gives = says.gives; refuted = says.refuted }

  -- a last entry with the expected term
  pub term-says : (named : List (List Tree)) (e : ExpectedTerm) → EntriesSay L named (expected e ∷ []) (TermIs L named e) (NoTerm L named e)
  unfolding EntriesHold EntriesRefuted
  term-says named e = record {
    gives = λ u. (λ h. subst (λ v. TermIs L named e v) h.0.2 h.0.1, λ h. ((u, h, refl), tt));
    refuted = nothing-more;
  }

  pub standing-says : (named : List (List Tree)) (t : Tree) → EntriesSay L named (expected (as_it_stands t) ∷ []) (λ u. u ≡ t) ⊥
  unfolding TermIs NoTerm
  standing-says named t = let says = term-says named (as_it_stands t) in record { gives = says.gives; refuted = says.refuted }

  pub head_form-says : (named : List (List Tree)) (t : Tree) → EntriesSay L named (expected (head_form_of t) ∷ []) (HasHeadForm L t) (HeadFormRefuted L t)
  unfolding TermIs NoTerm
  head_form-says named t = let says = term-says named (head_form_of t) in record { gives = says.gives; refuted = says.refuted }

  pub value-says : (named : List (List Tree)) (t : Tree) (n : ℕ) (s : List Tree) → slice_get named n ≡ Some s →
      EntriesSay L named (expected (value_under t n) ∷ []) (HasHeadForm L (under s t)) (HeadFormRefuted L (under s t))
  unfolding TermIs NoTerm
  value-says named t n s at =
      let says = term-says named (value_under t n) in
      record {
        gives = λ u. iff-chain (says.gives u) (of_row-there (slice_get named n) s (λ z. HasHeadForm L (under z t) u) at);
        refuted = iff-chain says.refuted (of_row-there (slice_get named n) s (λ z. HeadFormRefuted L (under z t)) at);
      }

  pub hidden_type-says : (named : List (List Tree)) (i : OpaqueId) (ts : List Tree) (f : FirstUse) (t : Tree) (bs : List Clause) →
      EntriesSay L named (expected (hidden_type i ts f t bs) ∷ []) (HiddenGives L f ts t bs) (HiddenRefuted L f ts t bs)
  unfolding TermIs NoTerm
  hidden_type-says named i ts f t bs = let says = term-says named (hidden_type i ts f t bs) in record { gives = says.gives; refuted = says.refuted }

  -- a last entry that decides nothing
  pub undecided-says : (named : List (List Tree)) → EntriesSay L named (undecided ∷ []) (λ u. ⊥) ⊥
  unfolding EntriesHold EntriesRefuted
  undecided-says named = record { gives = λ u. iff-same; refuted = iff-same }

  pub ambiguous-says : (named : List (List Tree)) → EntriesSay L named (ambiguous ∷ []) (λ u. ⊥) ⊥
  unfolding EntriesHold EntriesRefuted
  ambiguous-says named = record { gives = λ u. iff-same; refuted = iff-same }
