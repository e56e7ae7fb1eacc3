-- Lists of entries at two heights: more height keeps what they say, none holds and is refuted, and each gives one term at most.
use Rattle.std.proofs.Common.{◌≡◌, ◌≤◌, ◌+◌, ℕ, List, [], ◌∷◌, ◌++◌, map, Option, Some, None, sym, ◌∙◌, subst, ⊎_elim, arith}
use Rattle.std.specs.Prelude.{slice_get}
use Rattle.goal_terms.specs.Erased.{erased}
use Rattle.goal_terms.specs.Tree.{Tree}
use Rattle.goal_lists.specs.Entries.{Arguments, given_arguments, of_header, of_other_header, followed_by, ExpectedTerm, as_it_stands, head_form_of, value_under, chosen_by, Entry, arguments, equal_terms, clause, row_clauses, row_conditions, expected, access, delayed_fault, evaluation, hidden_type, ambiguous, undecided, refused, Named, NamedKnown, NamesNothing, TermIs, NoTerm, EntriesHold, EntriesRefuted, ListHolds, ListGives, ListRefuted}
use Rattle.goal_lists.specs.Headers.{under, Fits}
use Rattle.goal_lists.specs.Laws.{IsWithin, IsConsistent}
use Rattle.goal_lists.specs.Level.{Level}
use Rattle.goal_lists.specs.Levels.{level}
use Rattle.goal_lists.specs.Premises.{clauses_under, traits_under, conditions_as}
use Rattle.goal_lists.specs.Settings.{Setting}
use Rattle.goal_lists.proofs.CandidateLemmas.{no_pair_unequal}
use Rattle.goal_lists.proofs.ConsistentLemmas.{each_level_is_consistent}
use Rattle.goal_lists.proofs.ContraryWords.{OfRow-twice}
use Rattle.goal_lists.proofs.EqualLemmas.{one_head_form, no_head_form_refuted}
use Rattle.goal_lists.proofs.HiddenLemmas.{within-hidden_gives, within-hidden_refuted, one_hidden_term, no_hidden_refuted}
use Rattle.goal_lists.proofs.PremiseLemmas.{no_clause_refuted, no_premises_refuted}
use Rattle.goal_lists.proofs.SubstitutionLemmas.{one_substitution, no_fit_and_clash}
use Rattle.goal_lists.proofs.WithinHeaders.{within-fits, within-clashes, within-all_known}
use Rattle.goal_lists.proofs.WithinLevels.{within-level}
use Rattle.goal_lists.proofs.WithinPremises.{within-clause_holds, within-clause_refuted, within-premises_hold, within-premises_refuted}
use Rattle.goal_lists.proofs.WithinTerms.{within-has_head_form, within-head_form_refuted, within-pairs, within-some_pair}
use Rattle.goal_lists.proofs.WithinWords.{of_row-map, sum-map}

-- another level that proves what one does
module _ {L M : Level} (w : IsWithin L M) where
  within-named : (named : List (List Tree)) (a : Arguments) (s : List Tree) → Named L named a s → Named M named a s
  unfolding Named
  within-named named (given_arguments args) s h = h
  within-named named (of_header params hs gs) s h = within-fits w params (map erased hs) gs s h
  within-named named (of_other_header params hs gs n) s h =
      of_row-map (slice_get named n) (λ z. within-fits w params (map erased hs) (map (under z) (map erased gs)) s) h
  within-named named (followed_by n own) s h = h

  within-named_known : (named : List (List Tree)) (a : Arguments) (s : List Tree) → NamedKnown L named a s → NamedKnown M named a s
  unfolding NamedKnown
  within-named_known named (given_arguments args) s h = h
  within-named_known named (of_header params hs gs) s h = within-all_known w params (map erased hs) gs s h
  within-named_known named (of_other_header params hs gs n) s h =
      of_row-map (slice_get named n) (λ z. within-all_known w params (map erased hs) (map (under z) (map erased gs)) s) h
  within-named_known named (followed_by n own) s h = h

  within-names_nothing : (named : List (List Tree)) (a : Arguments) → NamesNothing L named a → NamesNothing M named a
  unfolding NamesNothing
  within-names_nothing named (given_arguments args) h = h
  within-names_nothing named (of_header params hs gs) h = within-clashes w params (map erased hs) gs h
  within-names_nothing named (of_other_header params hs gs n) h =
      of_row-map (slice_get named n) (λ z. within-clashes w params (map erased hs) (map (under z) (map erased gs))) h
  within-names_nothing named (followed_by n own) h = h

  within-term_is : (named : List (List Tree)) (e : ExpectedTerm) (u : Tree) → TermIs L named e u → TermIs M named e u
  unfolding TermIs
  within-term_is named (as_it_stands t) u h = h
  within-term_is named (head_form_of t) u h = within-has_head_form w t u h
  within-term_is named (value_under t n) u h = of_row-map (slice_get named n) (λ s. within-has_head_form w (under s t) u) h
  within-term_is named (chosen_by p t v) u h = sum-map (λ x. (within-clause_holds w p x.0, x.1)) (λ x. (within-clause_refuted w p x.0, x.1)) h
  within-term_is named (hidden_type i args f t bs) u h = within-hidden_gives w f args t bs u h

  within-no_term : (named : List (List Tree)) (e : ExpectedTerm) → NoTerm L named e → NoTerm M named e
  unfolding NoTerm
  within-no_term named (as_it_stands t) h = h
  within-no_term named (head_form_of t) h = within-head_form_refuted w t h
  within-no_term named (value_under t n) h = of_row-map (slice_get named n) (λ s. within-head_form_refuted w (under s t)) h
  within-no_term named (chosen_by p t v) h = h
  within-no_term named (hidden_type i args f t bs) h = within-hidden_refuted w f args t bs h

  -- entries that all hold
  within-entries_hold : (Said : Tree → Type 0) (Unsaid : Type 0) (named : List (List Tree)) (es : List Entry) →
      EntriesHold L Said Unsaid named es → EntriesHold M Said Unsaid named es
  unfolding EntriesHold
  within-entries_hold Said Unsaid named [] h = h
  within-entries_hold Said Unsaid named (arguments a ∷ es) h = (h.0, within-named named a h.0 h.1, within-entries_hold Said Unsaid (named ++ h.0 ∷ []) es h.2)
  within-entries_hold Said Unsaid named (equal_terms ts us ∷ es) h = (within-pairs w ts us h.0, within-entries_hold Said Unsaid named es h.1)
  within-entries_hold Said Unsaid named (clause g p ∷ es) h = (within-clause_holds w p h.0, within-entries_hold Said Unsaid named es h.1)
  within-entries_hold Said Unsaid named (row_clauses cs n ∷ es) h =
      (of_row-map (slice_get named n) (λ s. within-premises_hold w (clauses_under s cs)) h.0, within-entries_hold Said Unsaid named es h.1)
  within-entries_hold Said Unsaid named (row_conditions c rs n ∷ es) h =
      (of_row-map (slice_get named n) (λ s. within-premises_hold w (conditions_as c (traits_under s rs))) h.0, within-entries_hold Said Unsaid named es h.1)
  within-entries_hold Said Unsaid named (expected e ∷ es) h =
      ((h.0.0, within-term_is named e h.0.0 h.0.1, h.0.2), within-entries_hold Said (Unit {0}) named es h.1)
  within-entries_hold Said Unsaid named (access a ∷ es) h = within-entries_hold Said Unsaid named es h
  within-entries_hold Said Unsaid named (delayed_fault f ∷ es) h = within-entries_hold Said Unsaid named es h
  within-entries_hold Said Unsaid named (evaluation ∷ es) h = within-entries_hold Said Unsaid named es h
  within-entries_hold Said Unsaid named (ambiguous ∷ es) h = h
  within-entries_hold Said Unsaid named (undecided ∷ es) h = h
  within-entries_hold Said Unsaid named (refused ∷ es) h = h

  -- entries of which one is refuted
  within-entries_refuted : (named : List (List Tree)) (es : List Entry) → EntriesRefuted L named es → EntriesRefuted M named es
  unfolding EntriesRefuted
  within-entries_refuted named [] h = h
  within-entries_refuted named (arguments a ∷ es) h =
      sum-map (within-names_nothing named a) (λ x. (x.0, within-named_known named a x.0 x.1, within-entries_refuted (named ++ x.0 ∷ []) es x.2)) h
  within-entries_refuted named (equal_terms ts us ∷ es) h = sum-map (within-some_pair w ts us) (within-entries_refuted named es) h
  within-entries_refuted named (clause g p ∷ es) h = sum-map (within-clause_refuted w p) (within-entries_refuted named es) h
  within-entries_refuted named (row_clauses cs n ∷ es) h =
      sum-map (of_row-map (slice_get named n) (λ s. within-premises_refuted w (clauses_under s cs))) (within-entries_refuted named es) h
  within-entries_refuted named (row_conditions c rs n ∷ es) h =
      sum-map (of_row-map (slice_get named n) (λ s. within-premises_refuted w (conditions_as c (traits_under s rs)))) (within-entries_refuted named es) h
  within-entries_refuted named (expected e ∷ es) h = sum-map (within-no_term named e) (within-entries_refuted named es) h
  within-entries_refuted named (access a ∷ es) h = within-entries_refuted named es h
  within-entries_refuted named (delayed_fault f ∷ es) h = within-entries_refuted named es h
  within-entries_refuted named (evaluation ∷ es) h = within-entries_refuted named es h
  within-entries_refuted named (ambiguous ∷ es) h = within-entries_refuted named es h
  within-entries_refuted named (undecided ∷ es) h = within-entries_refuted named es h
  within-entries_refuted named (refused ∷ es) h = h

  -- whole lists
  pub within-list_holds : (l : Option (List Entry)) → ListHolds L l → ListHolds M l
  unfolding ListHolds
  within-list_holds None h = h
  within-list_holds (Some es) h = within-entries_hold (λ u. Unit {0}) (Unit {0}) [] es h

  pub within-list_gives : (l : Option (List Entry)) (t : Tree) → ListGives L l t → ListGives M l t
  unfolding ListGives
  within-list_gives None t h = h
  within-list_gives (Some es) t h = within-entries_hold (λ u. u ≡ t) ⊥ [] es h

  pub within-list_refuted : (l : Option (List Entry)) → ListRefuted L l → ListRefuted M l
  unfolding ListRefuted
  within-list_refuted None h = h
  within-list_refuted (Some es) h = within-entries_refuted [] es h

-- a consistent level
module _ (L : Level) (c : IsConsistent L) where
  -- the arguments that an entry names are those that it is known to name
  one_known : (named : List (List Tree)) (a : Arguments) (s z : List Tree) → Named L named a s → NamedKnown L named a z → s ≡ z
  unfolding Named NamedKnown Fits
  one_known named (given_arguments args) s z h k = h ∙ sym k
  one_known named (of_header params hs gs) s z h k = one_substitution L c params (map erased hs) gs s z h.0 k
  one_known named (of_other_header params hs gs n) s z h k =
      OfRow-twice _ _ (λ y d e. one_substitution L c params (map erased hs) (map (under y) (map erased gs)) s z d.0 e) (slice_get named n) h k
  one_known named (followed_by n own) s z h k = OfRow-twice _ _ (λ y d e. d ∙ sym e) (slice_get named n) h k

  -- what fits is known
  pub named-known : (named : List (List Tree)) (a : Arguments) (s : List Tree) → Named L named a s → NamedKnown L named a s
  unfolding Named NamedKnown Fits
  named-known named (given_arguments args) s h = h
  named-known named (of_header params hs gs) s h = h.0
  named-known named (of_other_header params hs gs n) s h = of_row-map (slice_get named n) (λ z x. x.0) h
  named-known named (followed_by n own) s h = h

  -- an entry that names a list doesn't name nothing
  pub no_names_nothing : (named : List (List Tree)) (a : Arguments) (s : List Tree) → Named L named a s → NamesNothing L named a → ⊥
  unfolding Named NamesNothing
  no_names_nothing named (given_arguments args) s h k = k
  no_names_nothing named (of_header params hs gs) s h k = no_fit_and_clash L c params hs gs s h k
  no_names_nothing named (of_other_header params hs gs n) s h k =
      OfRow-twice _ _ (λ y d e. no_fit_and_clash L c params hs (map (under y) (map erased gs)) s d e) (slice_get named n) h k
  no_names_nothing named (followed_by n own) s h k = k

  -- an expected term that is one is not none, and it is one term
  pub no_term_none : (named : List (List Tree)) (e : ExpectedTerm) (u : Tree) → TermIs L named e u → NoTerm L named e → ⊥
  unfolding TermIs NoTerm
  no_term_none named (as_it_stands t) u h k = k
  no_term_none named (head_form_of t) u h k = no_head_form_refuted L c.no_term_refuted t u h k
  no_term_none named (value_under t n) u h k =
      OfRow-twice _ _ (λ s d e. no_head_form_refuted L c.no_term_refuted (under s t) u d e) (slice_get named n) h k
  no_term_none named (chosen_by p t v) u h k = k
  no_term_none named (hidden_type i args f t bs) u h k = no_hidden_refuted L c f args t bs u h k

  pub one_term_is : (named : List (List Tree)) (e : ExpectedTerm) (t u : Tree) → TermIs L named e t → TermIs L named e u → t ≡ u
  unfolding TermIs
  one_term_is named (as_it_stands v) t u h k = h ∙ sym k
  one_term_is named (head_form_of v) t u h k = one_head_form L c.one_term v t u h k
  one_term_is named (value_under v n) t u h k = OfRow-twice _ _ (λ s d e. one_head_form L c.one_term (under s v) t u d e) (slice_get named n) h k
  one_term_is named (hidden_type i args f v bs) t u h k = one_hidden_term L c f args v bs t u h k
  one_term_is named (chosen_by p v z) t u h k =
      ⊎_elim
      (λ x. ⊎_elim (λ y. x.1 ∙ sym y.1) (λ y. absurd (no_clause_refuted L c p x.0 y.0)) k)
      (λ x. ⊎_elim (λ y. absurd (no_clause_refuted L c p y.0 x.0)) (λ y. x.1 ∙ sym y.1) k) h

  -- entries that hold are not refuted
  no_entries_refuted : (Said : Tree → Type 0) (Unsaid : Type 0) (named : List (List Tree)) (es : List Entry) →
      EntriesHold L Said Unsaid named es → EntriesRefuted L named es → ⊥
  unfolding EntriesHold EntriesRefuted
  no_entries_refuted Said Unsaid named [] h k = k
  no_entries_refuted Said Unsaid named (arguments a ∷ es) h k =
      ⊎_elim (λ x. no_names_nothing named a h.0 h.1 x)
      (λ x. no_entries_refuted Said Unsaid (named ++ h.0 ∷ []) es h.2
      (subst (λ z. EntriesRefuted L (named ++ z ∷ []) es) (sym (one_known named a h.0 x.0 h.1 x.1)) x.2)) k
  no_entries_refuted Said Unsaid named (equal_terms ts us ∷ es) h k =
      ⊎_elim (λ x. no_pair_unequal L c ts us h.0 x) (λ x. no_entries_refuted Said Unsaid named es h.1 x) k
  no_entries_refuted Said Unsaid named (clause g p ∷ es) h k =
      ⊎_elim (λ x. no_clause_refuted L c p h.0 x) (λ x. no_entries_refuted Said Unsaid named es h.1 x) k
  no_entries_refuted Said Unsaid named (row_clauses cs n ∷ es) h k =
      ⊎_elim (λ x. OfRow-twice _ _ (λ s d e. no_premises_refuted L c (clauses_under s cs) d e) (slice_get named n) h.0 x)
      (λ x. no_entries_refuted Said Unsaid named es h.1 x) k
  no_entries_refuted Said Unsaid named (row_conditions b rs n ∷ es) h k =
      ⊎_elim (λ x. OfRow-twice _ _ (λ s d e. no_premises_refuted L c (conditions_as b (traits_under s rs)) d e) (slice_get named n) h.0 x)
      (λ x. no_entries_refuted Said Unsaid named es h.1 x) k
  no_entries_refuted Said Unsaid named (expected e ∷ es) h k =
      ⊎_elim (λ x. no_term_none named e h.0.0 h.0.1 x) (λ x. no_entries_refuted Said (Unit {0}) named es h.1 x) k
  no_entries_refuted Said Unsaid named (access a ∷ es) h k = no_entries_refuted Said Unsaid named es h k
  no_entries_refuted Said Unsaid named (delayed_fault f ∷ es) h k = no_entries_refuted Said Unsaid named es h k
  no_entries_refuted Said Unsaid named (evaluation ∷ es) h k = no_entries_refuted Said Unsaid named es h k
  no_entries_refuted Said Unsaid named (ambiguous ∷ es) h k = h
  no_entries_refuted Said Unsaid named (undecided ∷ es) h k = h
  no_entries_refuted Said Unsaid named (refused ∷ es) h k = h

  -- entries that have a term have one
  one_said : (t u : Tree) (named : List (List Tree)) (es : List Entry) →
      EntriesHold L (λ v. v ≡ t) ⊥ named es → EntriesHold L (λ v. v ≡ u) ⊥ named es → t ≡ u
  unfolding EntriesHold
  one_said t u named [] h k = absurd h
  one_said t u named (arguments a ∷ es) h k =
      one_said t u (named ++ h.0 ∷ []) es h.2
      (subst (λ z. EntriesHold L (λ v. v ≡ u) ⊥ (named ++ z ∷ []) es) (sym (one_known named a h.0 k.0 h.1 (named-known named a k.0 k.1))) k.2)
  one_said t u named (equal_terms ts us ∷ es) h k = one_said t u named es h.1 k.1
  one_said t u named (clause g p ∷ es) h k = one_said t u named es h.1 k.1
  one_said t u named (row_clauses cs n ∷ es) h k = one_said t u named es h.1 k.1
  one_said t u named (row_conditions b rs n ∷ es) h k = one_said t u named es h.1 k.1
  one_said t u named (expected e ∷ es) h k = sym h.0.2 ∙ one_term_is named e h.0.0 k.0.0 h.0.1 k.0.1 ∙ k.0.2
  one_said t u named (access a ∷ es) h k = one_said t u named es h k
  one_said t u named (delayed_fault f ∷ es) h k = one_said t u named es h k
  one_said t u named (evaluation ∷ es) h k = one_said t u named es h k
  one_said t u named (ambiguous ∷ es) h k = absurd h
  one_said t u named (undecided ∷ es) h k = absurd h
  one_said t u named (refused ∷ es) h k = absurd h

  -- whole lists
  no_list_refuted : (l : Option (List Entry)) → ListHolds L l → ListRefuted L l → ⊥
  unfolding ListHolds ListRefuted
  no_list_refuted None h k = h
  no_list_refuted (Some es) h k = no_entries_refuted (λ u. Unit {0}) (Unit {0}) [] es h k

  no_given_refuted : (l : Option (List Entry)) (t : Tree) → ListGives L l t → ListRefuted L l → ⊥
  unfolding ListGives ListRefuted
  no_given_refuted None t h k = h
  no_given_refuted (Some es) t h k = no_entries_refuted (λ u. u ≡ t) ⊥ [] es h k

  one_list_term : (l : Option (List Entry)) (t u : Tree) → ListGives L l t → ListGives L l u → t ≡ u
  unfolding ListGives
  one_list_term None t u h k = absurd h
  one_list_term (Some es) t u h k = one_said t u [] es h k

-- two heights
module _ (S : Setting) (n m : ℕ) where
  pub list_holds-higher : n ≤ m → (l : Option (List Entry)) → ListHolds (level S n) l → ListHolds (level S m) l
  list_holds-higher le l h = within-list_holds (within-level S n m le) l h

  pub list_gives-higher : n ≤ m → (l : Option (List Entry)) (t : Tree) → ListGives (level S n) l t → ListGives (level S m) l t
  list_gives-higher le l t h = within-list_gives (within-level S n m le) l t h

  pub list_refuted-higher : n ≤ m → (l : Option (List Entry)) → ListRefuted (level S n) l → ListRefuted (level S m) l
  list_refuted-higher le l h = within-list_refuted (within-level S n m le) l h

  -- two heights have a common greater one
  to_both : IsWithin (level S n) (level S (n + m))
  to_both = within-level S n (n + m) (omega arith)

  from_other : IsWithin (level S m) (level S (n + m))
  from_other = within-level S m (n + m) (omega arith)

  both_consistent : IsConsistent (level S (n + m))
  both_consistent = each_level_is_consistent S (n + m)

  pub list_holds-not_refuted : (l : Option (List Entry)) → ListHolds (level S n) l → ListRefuted (level S m) l → ⊥
  list_holds-not_refuted l h k =
      no_list_refuted (level S (n + m)) both_consistent l (within-list_holds to_both l h) (within-list_refuted from_other l k)

  pub list_gives-not_refuted : (l : Option (List Entry)) (t : Tree) → ListGives (level S n) l t → ListRefuted (level S m) l → ⊥
  list_gives-not_refuted l t h k =
      no_given_refuted (level S (n + m)) both_consistent l t (within-list_gives to_both l t h) (within-list_refuted from_other l k)

  pub one_list_given : (l : Option (List Entry)) (t u : Tree) → ListGives (level S n) l t → ListGives (level S m) l u → t ≡ u
  one_list_given l t u h k =
      one_list_term (level S (n + m)) both_consistent l t u (within-list_gives to_both l t h) (within-list_gives from_other l u k)
