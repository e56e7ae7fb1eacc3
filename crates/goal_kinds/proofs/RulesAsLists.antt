-- A rule and the list of entries that it stands for say the same, entry by entry.
use Rattle.std.proofs.Common.{◌≡◌, ◌⊎◌, ◌↔◌, ℕ, Bool, true, false, List, [], ◌∷◌, ◌++◌, map, Option, Some, None, inr, refl, ⊎_elim}
use Rattle.std.specs.Option.{option_map}
use Rattle.std.proofs.lemmas.Bool.{false≢true}
use Rattle.goal_terms.specs.Erased.{erased}
use Rattle.goal_terms.specs.Tree.{Tree}
use Rattle.goal_terms.specs.TreeOf.{trees_of, tree_of_ty}
use Rattle.goal_terms.specs.declared.answers.ParamKind.{ParamKind}
use Rattle.goal_terms.specs.declared.predicates.BoundConstness.{BoundConstness}
use Rattle.goal_terms.specs.declared.predicates.Clause.{Clause}
use Rattle.goal_terms.specs.declared.predicates.TraitRef.{TraitRef}
use Rattle.goal_tables.specs.Rows.{impl_of, inherent_impl_of, opaque_of}
use Rattle.goal_tables.specs.declared.rows.ImplRow.{ImplRow}
use Rattle.goal_terms.specs.declared.answers.OpaqueTypeKey.{OpaqueTypeKey}
use Rattle.goal_lists.specs.declared.lists.FirstUse.{FirstUse}
use Rattle.goal_lists.specs.Aliases.{self_header}
use Rattle.goal_lists.specs.Entries as list
use Rattle.goal_lists.specs.Entries.{Arguments, of_header, of_other_header, ExpectedTerm, Entry, arguments, row_clauses, row_conditions, expected, value_under, OfNumbered, Named, NamedKnown, NoTerm, ListHolds, ListGives, ListRefuted, hidden_type}
use Rattle.goal_lists.specs.Headers.{AllKnown, Fits, Clashes}
use Rattle.goal_lists.specs.Level.{Level}
use Rattle.goal_lists.specs.Premises.{PremisesHold, PremisesRefuted, clauses_under, traits_under, conditions_as}
use Rattle.goal_kinds.specs.Rules as rule
use Rattle.goal_kinds.specs.Rules.{header_in, Names, NamesKnown, TermIsNone, has_term, RuleHolds, RuleGives, RuleRefuted, HiddenIs, HiddenIsNone}
use Rattle.goal_lists.specs.RowWords.{given, clauses_in, conditions_in, value_in, header_arguments, other_arguments}
use Rattle.goal_kinds.specs.RuleLists.{arguments_of, expected_of, before, entries_of, RuleListHolds, RuleListGives, RuleListRefuted, hidden_of}
use Rattle.goal_lists.specs.Settings.{Setting}
use Rattle.goal_lists.specs.TraitGoals.{header_of}
use Rattle.goal_lists.specs.Words.{OfRow, Either}
use Rattle.goal_kinds.specs.declared.rules.Rule.{Rule}
use Rattle.goal_kinds.specs.declared.rules.RuleArguments.{RuleArguments}
use Rattle.goal_kinds.specs.declared.rules.RuleArguments.TheVariants as names
use Rattle.goal_kinds.specs.declared.rules.RuleEntry.{RuleEntry}
use Rattle.goal_kinds.specs.declared.rules.RuleEntry.TheVariants as entry
use Rattle.goal_lists.specs.declared.lists.RuleHeader.{RuleHeader}
use Rattle.goal_lists.specs.declared.lists.RuleHeader.TheVariants as header
use Rattle.goal_kinds.specs.declared.rules.RuleTerm.{RuleTerm}
use Rattle.goal_kinds.specs.declared.rules.RuleTerm.TheVariants as term
use Rattle.goal_lists.proofs.EntryLemmas.{iff-chain, iff-back, iff-both, iff-either, iff-same}

-- what is made of a row, and claims of a row that come to the same
mapped-row : {A B : Type 0} (o : Option A) (f : A → B) (P : B → Type 0) → OfRow (option_map f o) P ↔ OfRow o (λ x. P (f x))
unfolding OfRow
mapped-row None f P = iff-same
mapped-row (Some x) f P = iff-same

same-row : {A : Type 0} (o : Option A) (P Q : A → Type 0) → ((x : A) → P x ↔ Q x) → OfRow o P ↔ OfRow o Q
unfolding OfRow
same-row None P Q f = iff-same
same-row (Some x) P Q f = f x

-- the header of a row
header-row : (S : Setting) (h : RuleHeader) (gs : List Tree) (P : Arguments → Type 0) (Q : List ParamKind → List Tree → Type 0) →
    ((params : List ParamKind) (hs : List Tree) → P (of_header params hs gs) ↔ Q params (map erased hs)) →
    OfRow (header_arguments S.tables h gs) P ↔ OfRow (header_in S.tables h) (λ m. Q m.params m.terms)
header-row S (header.Impl i) gs P Q f =
    let row = impl_of S.tables i in
    iff-chain (mapped-row row (λ r. of_header r.params.items (trees_of r.trait_args.items) gs) P)
    (iff-chain
    (same-row row (λ r. P (of_header r.params.items (trees_of r.trait_args.items) gs)) (λ r. Q r.params.items (header_of r))
    (λ r. f r.params.items (trees_of r.trait_args.items)))
    (iff-back (mapped-row row (λ r. record { params = r.params.items; terms = header_of r }) (λ m. Q m.params m.terms))))
header-row S (header.InherentImpl i) gs P Q f =
    let row = inherent_impl_of S.tables i in
    iff-chain (mapped-row row (λ q. of_header q.params.items (tree_of_ty q.self_ty ∷ []) gs) P)
    (iff-chain
    (same-row row (λ q. P (of_header q.params.items (tree_of_ty q.self_ty ∷ []) gs)) (λ q. Q q.params.items (self_header q))
    (λ q. f q.params.items (tree_of_ty q.self_ty ∷ [])))
    (iff-back (mapped-row row (λ q. record { params = q.params.items; terms = self_header q }) (λ m. Q m.params m.terms))))

-- the headers of two impls
other-rows : (q r : Option ImplRow) (n : ℕ) (P : Arguments → Type 0) →
    OfRow (other_arguments q r n) P
    ↔ OfRow q (λ x. OfRow r (λ y. P (of_other_header x.params.items (trees_of x.trait_args.items) (trees_of y.trait_args.items) n)))
unfolding OfRow
other-rows None r n P = iff-same
other-rows (Some x) r n P = mapped-row r (λ y. of_other_header x.params.items (trees_of x.trait_args.items) (trees_of y.trait_args.items) n) P

-- a claim behind another one
behind : {A B C D : Type 0} → B ↔ (C × D) → (A × B) ↔ ((A × C) × D)
behind e = (λ h. let x = e.0 h.1 in ((h.0, x.0), x.1), λ h. (h.0.0, e.1 (h.0.1, h.1)))

-- a test that decides between two claims, both or the first of which are so
asked-by_none : (b : Bool) → Either b (Unit {0}) (Unit {0})
unfolding Either
asked-by_none true = tt
asked-by_none false = tt

asked-tested : (b : Bool) → Either b (Unit {0}) ⊥ ↔ (b ≡ true)
unfolding Either
asked-tested true = (λ h. refl, λ h. tt)
asked-tested false = (λ h. absurd h, λ h. false≢true h)

module _ (S : Setting) (L : Level) where
  -- arguments are named, known to be named, or none are
  named-same : (named : List (List Tree)) (a : RuleArguments) (s : List Tree) → OfRow (arguments_of S.tables a) (λ x. Named L named x s) ↔ Names S L named a s
  unfolding OfRow Named Names
  named-same named (names.Given args) s = iff-same
  named-same named (names.Header h args) s =
      header-row S h (given args) (λ x. Named L named x s) (λ params hs. Fits L params hs (given args) s) (λ params hs. iff-same)
  named-same named (names.OtherImpl i j n) s = other-rows (impl_of S.tables i) (impl_of S.tables j) n (λ x. Named L named x s)
  named-same named (names.Followed n own) s = iff-same

  known-same : (named : List (List Tree)) (a : RuleArguments) (s : List Tree) → OfRow (arguments_of S.tables a) (λ x. NamedKnown L named x s) ↔ NamesKnown S L named a s
  unfolding OfRow NamedKnown NamesKnown
  known-same named (names.Given args) s = iff-same
  known-same named (names.Header h args) s =
      header-row S h (given args) (λ x. NamedKnown L named x s) (λ params hs. AllKnown L params hs (given args) s) (λ params hs. iff-same)
  known-same named (names.OtherImpl i j n) s = other-rows (impl_of S.tables i) (impl_of S.tables j) n (λ x. NamedKnown L named x s)
  known-same named (names.Followed n own) s = iff-same

  nothing-same : (named : List (List Tree)) (a : RuleArguments) → OfRow (arguments_of S.tables a) (λ x. list.NamesNothing L named x) ↔ rule.NamesNothing S L named a
  unfolding OfRow list.NamesNothing rule.NamesNothing
  nothing-same named (names.Given args) = iff-same
  nothing-same named (names.Header h args) =
      header-row S h (given args) (λ x. list.NamesNothing L named x) (λ params hs. Clashes L params hs (given args)) (λ params hs. iff-same)
  nothing-same named (names.OtherImpl i j n) = other-rows (impl_of S.tables i) (impl_of S.tables j) n (λ x. list.NamesNothing L named x)
  nothing-same named (names.Followed n own) = iff-same

  -- the expected term is a term, or there is none
  term-same : (named : List (List Tree)) (e : RuleTerm) (u : Tree) → OfRow (expected_of S.tables e) (λ x. list.TermIs L named x u) ↔ rule.TermIs S L named e u
  unfolding OfRow list.TermIs rule.TermIs
  term-same named (term.AsItStands e) u = iff-same
  term-same named (term.Normalized e) u = iff-same
  term-same named (term.Value v n) u = mapped-row (value_in S.tables v) (λ e. value_under e n) (λ x. list.TermIs L named x u)
  term-same named (term.ChosenBy k a b) u = iff-same

  no_term-same : (named : List (List Tree)) (e : RuleTerm) → OfRow (expected_of S.tables e) (λ x. NoTerm L named x) ↔ TermIsNone S L named e
  unfolding OfRow NoTerm TermIsNone
  no_term-same named (term.AsItStands e) = iff-same
  no_term-same named (term.Normalized e) = iff-same
  no_term-same named (term.Value v n) = mapped-row (value_in S.tables v) (λ e. value_under e n) (λ x. NoTerm L named x)
  no_term-same named (term.ChosenBy k a b) = iff-same

  -- what an opaque type that is being defined stands for, or that there is nothing
  hidden-same : (named : List (List Tree)) (k : OpaqueTypeKey) (f : FirstUse) (u : Tree) → OfRow (hidden_of S.tables k f) (λ x. list.TermIs L named x u) ↔ HiddenIs S L k f u
  unfolding OfRow list.TermIs HiddenIs
  hidden-same named k f u =
      mapped-row (opaque_of S.tables k.def_id) (λ r. hidden_type k.def_id (given k.args) f (tree_of_ty r.typeck_hidden) r.bounds.items) (λ x. list.TermIs L named x u)

  no_hidden-same : (named : List (List Tree)) (k : OpaqueTypeKey) (f : FirstUse) → OfRow (hidden_of S.tables k f) (λ x. NoTerm L named x) ↔ HiddenIsNone S L k f
  unfolding OfRow NoTerm HiddenIsNone
  no_hidden-same named k f =
      mapped-row (opaque_of S.tables k.def_id) (λ r. hidden_type k.def_id (given k.args) f (tree_of_ty r.typeck_hidden) r.bounds.items) (λ x. NoTerm L named x)

  -- an entry that names arguments, if their row is there
  arguments-hold : (Said : Tree → Type 0) (Unsaid : Type 0) (named : List (List Tree)) (o : Option Arguments) (es : List Entry) →
      list.EntriesHold L Said Unsaid named (before true (option_map arguments o) es)
      ↔ ((s : List Tree) × OfRow o (λ x. Named L named x s) × list.EntriesHold L Said Unsaid (named ++ s ∷ []) es)
  unfolding list.EntriesHold OfRow
  arguments-hold Said Unsaid named None es = (λ h. absurd h, λ h. h.1)
  arguments-hold Said Unsaid named (Some a) es = iff-same

  arguments-refuted : (named : List (List Tree)) (o : Option Arguments) (es : List Entry) →
      list.EntriesRefuted L named (before true (option_map arguments o) es)
      ↔ (OfRow o (λ x. list.NamesNothing L named x) ⊎ ((s : List Tree) × OfRow o (λ x. NamedKnown L named x s) × list.EntriesRefuted L (named ++ s ∷ []) es))
  unfolding list.EntriesRefuted OfRow
  arguments-refuted named None es = (λ h. absurd h, λ h. ⊎_elim (λ x. x) (λ x. x.1) h)
  arguments-refuted named (Some a) es = iff-same

  -- the clauses of a row, if that is there
  clauses-hold : (Said : Tree → Type 0) (Unsaid : Type 0) (named : List (List Tree)) (o : Option (List Clause)) (n : ℕ) (es : List Entry) →
      list.EntriesHold L Said Unsaid named (before false (option_map (λ cs. row_clauses cs n) o) es)
      ↔ (OfRow o (λ cs. OfNumbered named n (λ s. PremisesHold L (clauses_under s cs))) × list.EntriesHold L Said Unsaid named es)
  unfolding list.EntriesHold OfRow
  clauses-hold Said Unsaid named None n es = (λ h. absurd h, λ h. h.0)
  clauses-hold Said Unsaid named (Some cs) n es = iff-same

  clauses-refuted : (named : List (List Tree)) (o : Option (List Clause)) (n : ℕ) (es : List Entry) →
      list.EntriesRefuted L named (before false (option_map (λ cs. row_clauses cs n) o) es)
      ↔ (OfRow o (λ cs. OfNumbered named n (λ s. PremisesRefuted L (clauses_under s cs))) ⊎ list.EntriesRefuted L named es)
  unfolding list.EntriesRefuted OfRow
  clauses-refuted named None n es = (λ h. inr h, λ h. ⊎_elim (λ x. absurd x) (λ x. x) h)
  clauses-refuted named (Some cs) n es = iff-same

  -- the const conditions of an impl, if that is there
  conditions-hold : (Said : Tree → Type 0) (Unsaid : Type 0) (named : List (List Tree)) (b : BoundConstness) (o : Option (List TraitRef)) (n : ℕ) (es : List Entry) →
      list.EntriesHold L Said Unsaid named (before false (option_map (λ rs. row_conditions b rs n) o) es)
      ↔ (OfRow o (λ rs. OfNumbered named n (λ s. PremisesHold L (conditions_as b (traits_under s rs)))) × list.EntriesHold L Said Unsaid named es)
  unfolding list.EntriesHold OfRow
  conditions-hold Said Unsaid named b None n es = (λ h. absurd h, λ h. h.0)
  conditions-hold Said Unsaid named b (Some rs) n es = iff-same

  conditions-refuted : (named : List (List Tree)) (b : BoundConstness) (o : Option (List TraitRef)) (n : ℕ) (es : List Entry) →
      list.EntriesRefuted L named (before false (option_map (λ rs. row_conditions b rs n) o) es)
      ↔ (OfRow o (λ rs. OfNumbered named n (λ s. PremisesRefuted L (conditions_as b (traits_under s rs)))) ⊎ list.EntriesRefuted L named es)
  unfolding list.EntriesRefuted OfRow
  conditions-refuted named b None n es = (λ h. inr h, λ h. ⊎_elim (λ x. absurd x) (λ x. x) h)
  conditions-refuted named b (Some rs) n es = iff-same

  -- the expected term, if its row is there
  term-holds : (Said : Tree → Type 0) (Unsaid : Type 0) (named : List (List Tree)) (o : Option ExpectedTerm) (es : List Entry) →
      list.EntriesHold L Said Unsaid named (before false (option_map expected o) es)
      ↔ (((u : Tree) × OfRow o (λ x. list.TermIs L named x u) × Said u) × list.EntriesHold L Said (Unit {0}) named es)
  unfolding list.EntriesHold OfRow
  term-holds Said Unsaid named None es = (λ h. absurd h, λ h. h.0.1)
  term-holds Said Unsaid named (Some e) es = iff-same

  term-refuted : (named : List (List Tree)) (o : Option ExpectedTerm) (es : List Entry) →
      list.EntriesRefuted L named (before false (option_map expected o) es)
      ↔ (OfRow o (λ x. NoTerm L named x) ⊎ list.EntriesRefuted L named es)
  unfolding list.EntriesRefuted OfRow
  term-refuted named None es = (λ h. inr h, λ h. ⊎_elim (λ x. absurd x) (λ x. x) h)
  term-refuted named (Some e) es = iff-same

  -- all entries hold as those of the rule do; and one of these has a term, or what else must be so is
  entries-hold : (Said : Tree → Type 0) (Unsaid : Type 0) (named : List (List Tree)) (es : List RuleEntry) →
      list.EntriesHold L Said Unsaid named (entries_of S.tables es) ↔ (rule.EntriesHold S L Said named es × Either (has_term es) (Unit {0}) Unsaid)
  unfolding entries_of list.EntriesHold rule.EntriesHold has_term Either
  entries-hold Said Unsaid named [] = (λ h. (tt, h), λ h. h.1)
  entries-hold Said Unsaid named (entry.Arguments a ∷ es) =
      iff-chain (arguments-hold Said Unsaid named (arguments_of S.tables a) (entries_of S.tables es)) (
        λ h. let x = (entries-hold Said Unsaid (named ++ h.0 ∷ []) es).0 h.2 in ((h.0, (named-same named a h.0).0 h.1, x.0), x.1),
        λ h. (h.0.0, (named-same named a h.0.0).1 h.0.1, (entries-hold Said Unsaid (named ++ h.0.0 ∷ []) es).1 (h.0.2, h.1)),
      )
  entries-hold Said Unsaid named (entry.Equation ts us ∷ es) = behind (entries-hold Said Unsaid named es)
  entries-hold Said Unsaid named (entry.Clause g k ∷ es) = behind (entries-hold Said Unsaid named es)
  entries-hold Said Unsaid named (entry.RowClauses c n ∷ es) =
      iff-chain (clauses-hold Said Unsaid named (clauses_in S.tables c) n (entries_of S.tables es)) (behind (entries-hold Said Unsaid named es))
  entries-hold Said Unsaid named (entry.RowConditions b i n ∷ es) =
      iff-chain (conditions-hold Said Unsaid named b (conditions_in S.tables i) n (entries_of S.tables es)) (behind (entries-hold Said Unsaid named es))
  entries-hold Said Unsaid named (entry.Term v e ∷ es) =
      let rest = entries-hold Said (Unit {0}) named es in
      iff-chain (term-holds Said Unsaid named (expected_of S.tables e) (entries_of S.tables es)) (
        λ h. (((h.0.0, (term-same named e h.0.0).0 h.0.1, h.0.2), (rest.0 h.1).0), tt),
        λ h. ((h.0.0.0, (term-same named e h.0.0.0).1 h.0.0.1, h.0.0.2), rest.1 (h.0.1, asked-by_none (has_term es))),
      )
  entries-hold Said Unsaid named (entry.Access a ∷ es) = entries-hold Said Unsaid named es
  entries-hold Said Unsaid named (entry.DelayedFault f ∷ es) = entries-hold Said Unsaid named es
  entries-hold Said Unsaid named (entry.Evaluation ∷ es) = entries-hold Said Unsaid named es
  entries-hold Said Unsaid named (entry.HiddenType v key f ∷ es) =
      let rest = entries-hold Said (Unit {0}) named es in
      iff-chain (term-holds Said Unsaid named (hidden_of S.tables key f) (entries_of S.tables es)) (
        λ h. (((h.0.0, (hidden-same named key f h.0.0).0 h.0.1, h.0.2), (rest.0 h.1).0), tt),
        λ h. ((h.0.0.0, (hidden-same named key f h.0.0.0).1 h.0.0.1, h.0.0.2), rest.1 (h.0.1, asked-by_none (has_term es))),
      )
  entries-hold Said Unsaid named (entry.Ambiguous ∷ es) = (λ h. absurd h, λ h. h.0)
  entries-hold Said Unsaid named (entry.Undecided ∷ es) = (λ h. absurd h, λ h. h.0)
  entries-hold Said Unsaid named (entry.Refused ∷ es) = (λ h. absurd h, λ h. h.0)

  -- one entry is refuted as one of the rule's is
  entries-refuted : (named : List (List Tree)) (es : List RuleEntry) → list.EntriesRefuted L named (entries_of S.tables es) ↔ rule.EntriesRefuted S L named es
  unfolding entries_of list.EntriesRefuted rule.EntriesRefuted
  entries-refuted named [] = iff-same
  entries-refuted named (entry.Arguments a ∷ es) =
      iff-chain (arguments-refuted named (arguments_of S.tables a) (entries_of S.tables es))
      (iff-either (nothing-same named a) (
        λ h. (h.0, (known-same named a h.0).0 h.1, (entries-refuted (named ++ h.0 ∷ []) es).0 h.2),
        λ h. (h.0, (known-same named a h.0).1 h.1, (entries-refuted (named ++ h.0 ∷ []) es).1 h.2),
      ))
  entries-refuted named (entry.Equation ts us ∷ es) = iff-either iff-same (entries-refuted named es)
  entries-refuted named (entry.Clause g k ∷ es) = iff-either iff-same (entries-refuted named es)
  entries-refuted named (entry.RowClauses c n ∷ es) =
      iff-chain (clauses-refuted named (clauses_in S.tables c) n (entries_of S.tables es)) (iff-either iff-same (entries-refuted named es))
  entries-refuted named (entry.RowConditions b i n ∷ es) =
      iff-chain (conditions-refuted named b (conditions_in S.tables i) n (entries_of S.tables es)) (iff-either iff-same (entries-refuted named es))
  entries-refuted named (entry.Term v e ∷ es) =
      iff-chain (term-refuted named (expected_of S.tables e) (entries_of S.tables es)) (iff-either (no_term-same named e) (entries-refuted named es))
  entries-refuted named (entry.Access a ∷ es) = entries-refuted named es
  entries-refuted named (entry.DelayedFault f ∷ es) = entries-refuted named es
  entries-refuted named (entry.Evaluation ∷ es) = entries-refuted named es
  entries-refuted named (entry.HiddenType v key f ∷ es) =
      iff-chain (term-refuted named (hidden_of S.tables key f) (entries_of S.tables es)) (iff-either (no_hidden-same named key f) (entries-refuted named es))
  entries-refuted named (entry.Ambiguous ∷ es) = entries-refuted named es
  entries-refuted named (entry.Undecided ∷ es) = entries-refuted named es
  entries-refuted named (entry.Refused ∷ es) = iff-same

  -- whole rules
  pub rule_list-holds : (r : Rule) → RuleListHolds S L r
  unfolding ListHolds RuleHolds
  rule_list-holds r =
      iff-chain (entries-hold (λ u. Unit {0}) (Unit {0}) [] r.entries.items) (λ h. h.0, λ h. (h, asked-by_none (has_term r.entries.items)))

  pub rule_list-gives : (r : Rule) (t : Tree) → RuleListGives S L r t
  unfolding ListGives RuleGives
  rule_list-gives r t = iff-chain (entries-hold (λ u. u ≡ t) ⊥ [] r.entries.items) (iff-both iff-same (asked-tested (has_term r.entries.items)))

  pub rule_list-refuted : (r : Rule) → RuleListRefuted S L r
  unfolding ListRefuted RuleRefuted
  rule_list-refuted r = entries-refuted [] r.entries.items
