-- Lists of a rule's entries: more height keeps what they say, and none holds and is refuted.
use Rattle.std.proofs.Common.{◌≡◌, ◌≤◌, ◌+◌, ℕ, true, List, [], ◌∷◌, ◌++◌, Option, Some, None, sym, ◌∙◌, subst, ⊎_elim, arith}
use Rattle.std.specs.Prelude.{slice_get}
use Rattle.std.specs.Option.{option_map}
use Rattle.goal_terms.specs.Erased.{erased}
use Rattle.goal_terms.specs.PredicateTrees.{tree_of_kind}
use Rattle.goal_terms.specs.Tree.{Tree}
use Rattle.goal_terms.specs.TreeOf.{trees_of, tree_of_ty, tree_of_term}
use Rattle.goal_terms.specs.declared.ids.ImplId.{ImplId}
use Rattle.goal_terms.specs.declared.predicates.BoundConstness.{BoundConstness}
use Rattle.goal_tables.specs.Rows.{impl_of, inherent_impl_of, opaque_of}
use Rattle.goal_tables.specs.declared.rows.ImplRow.{ImplRow}
use Rattle.goal_tables.specs.declared.rows.InherentImplRow.{InherentImplRow}
use Rattle.goal_tables.specs.declared.rows.Tables.{Tables}
use Rattle.goal_terms.specs.declared.answers.OpaqueTypeKey.{OpaqueTypeKey}
use Rattle.goal_lists.specs.declared.lists.FirstUse.{FirstUse}
use Rattle.goal_lists.specs.Answers.{erased_predicate}
use Rattle.goal_lists.specs.Aliases.{self_header}
use Rattle.goal_lists.specs.Headers.{under, AllKnown, Fits, Clashes}
use Rattle.goal_lists.specs.ImplTerms.{header_under}
use Rattle.goal_lists.specs.Laws.{IsWithin, IsConsistent}
use Rattle.goal_lists.specs.Level.{Level}
use Rattle.goal_lists.specs.Levels.{level}
use Rattle.goal_lists.specs.Premises.{clauses_under, traits_under, conditions_as}
use Rattle.goal_kinds.specs.Rules.{MatchedHeader, header_in, Names, NamesKnown, NamesNothing, RowClausesHold, RowClausesRefuted, RowConditionsHold, RowConditionsRefuted, TermIs, TermIsNone, EntriesHold, EntriesRefuted, has_term, RuleHolds, RuleGives, RuleRefuted, HiddenIs, HiddenIsNone}
use Rattle.goal_lists.specs.RowWords.{given, clauses_in, conditions_in, value_in}
use Rattle.goal_lists.specs.Settings.{Setting}
use Rattle.goal_lists.specs.TraitGoals.{header_of}
use Rattle.goal_lists.specs.Words.{OfRow}
use Rattle.goal_kinds.specs.declared.rules.Rule.{Rule}
use Rattle.goal_kinds.specs.declared.rules.RuleEntry.{RuleEntry}
use Rattle.goal_kinds.specs.declared.rules.RuleEntry.TheVariants as entry
use Rattle.goal_kinds.specs.declared.rules.RuleArguments.{RuleArguments}
use Rattle.goal_kinds.specs.declared.rules.RuleArguments.TheVariants as arguments
use Rattle.goal_lists.specs.declared.lists.RuleHeader.{RuleHeader}
use Rattle.goal_lists.specs.declared.lists.RuleHeader.TheVariants as header
use Rattle.goal_lists.specs.declared.lists.RowClauses.{RowClauses}
use Rattle.goal_kinds.specs.declared.rules.RuleTerm.{RuleTerm}
use Rattle.goal_kinds.specs.declared.rules.RuleTerm.TheVariants as term
use Rattle.goal_lists.proofs.CandidateLemmas.{no_pair_unequal}
use Rattle.goal_lists.proofs.ConsistentLemmas.{each_level_is_consistent}
use Rattle.goal_lists.proofs.ContraryWords.{OfRow-twice}
use Rattle.goal_lists.proofs.EqualLemmas.{one_head_form, no_head_form_refuted}
use Rattle.goal_lists.proofs.HiddenLemmas.{within-hidden_gives, within-hidden_refuted, one_hidden_term, no_hidden_refuted}
use Rattle.goal_lists.proofs.PremiseLemmas.{no_clause_refuted, no_premises_refuted}
use Rattle.goal_lists.proofs.SubstitutionLemmas.{one_substitution, no_fit_and_clash}
use Rattle.goal_lists.proofs.WithinHeaders.{within-fits, within-clashes, within-all_known}
use Rattle.goal_lists.proofs.WithinLevels.{within-level}
use Rattle.goal_lists.proofs.WithinPremises.{within-clause_holds, within-clause_refuted, within-premises_hold, within-premises_refuted}
use Rattle.goal_lists.proofs.WithinTerms.{within-has_head_form, within-head_form_refuted, within-pairs, within-some_pair}
use Rattle.goal_lists.proofs.WithinWords.{of_row-map, sum-map}

-- entries that hold with a term hold with what is said of it
pub entries_hold-said : (S : Setting) (L : Level) (P Q : Tree → Type 0) → ((u : Tree) → P u → Q u) → (named : List (List Tree)) (es : List RuleEntry) →
    EntriesHold S L P named es → EntriesHold S L Q named es
unfolding EntriesHold
entries_hold-said S L P Q f named [] h = h
entries_hold-said S L P Q f named (entry.Arguments a ∷ es) h = (h.0, h.1, entries_hold-said S L P Q f (named ++ h.0 ∷ []) es h.2)
entries_hold-said S L P Q f named (entry.Equation ts us ∷ es) h = (h.0, entries_hold-said S L P Q f named es h.1)
entries_hold-said S L P Q f named (entry.Clause g k ∷ es) h = (h.0, entries_hold-said S L P Q f named es h.1)
entries_hold-said S L P Q f named (entry.RowClauses c n ∷ es) h = (h.0, entries_hold-said S L P Q f named es h.1)
entries_hold-said S L P Q f named (entry.RowConditions b i n ∷ es) h = (h.0, entries_hold-said S L P Q f named es h.1)
entries_hold-said S L P Q f named (entry.Term v e ∷ es) h = ((h.0.0, h.0.1, f h.0.0 h.0.2), entries_hold-said S L P Q f named es h.1)
entries_hold-said S L P Q f named (entry.Access a ∷ es) h = entries_hold-said S L P Q f named es h
entries_hold-said S L P Q f named (entry.DelayedFault a ∷ es) h = entries_hold-said S L P Q f named es h
entries_hold-said S L P Q f named (entry.Evaluation ∷ es) h = entries_hold-said S L P Q f named es h
entries_hold-said S L P Q f named (entry.HiddenType v key first ∷ es) h = ((h.0.0, h.0.1, f h.0.0 h.0.2), entries_hold-said S L P Q f named es h.1)
entries_hold-said S L P Q f named (entry.Ambiguous ∷ es) h = h
entries_hold-said S L P Q f named (entry.Undecided ∷ es) h = h
entries_hold-said S L P Q f named (entry.Refused ∷ es) h = h

-- arguments that are named
within-names : {L M : Level} → IsWithin L M → (S : Setting) (named : List (List Tree)) (a : RuleArguments) (s : List Tree) →
    Names S L named a s → Names S M named a s
unfolding Names
within-names w S named (arguments.Given args) s h = h
within-names w S named (arguments.Header i args) s h = of_row-map (header_in S.tables i) (λ m. within-fits w m.params m.terms (given args) s) h
within-names w S named (arguments.OtherImpl i j n) s h =
    of_row-map (impl_of S.tables i)
    (λ q. of_row-map (impl_of S.tables j) (λ r. of_row-map (slice_get named n) (λ z. within-fits w q.params.items (header_of q) (header_under r z) s))) h
within-names w S named (arguments.Followed n own) s h = h

within-names_known : {L M : Level} → IsWithin L M → (S : Setting) (named : List (List Tree)) (a : RuleArguments) (s : List Tree) →
    NamesKnown S L named a s → NamesKnown S M named a s
unfolding NamesKnown
within-names_known w S named (arguments.Given args) s h = h
within-names_known w S named (arguments.Header i args) s h = of_row-map (header_in S.tables i) (λ m. within-all_known w m.params m.terms (given args) s) h
within-names_known w S named (arguments.OtherImpl i j n) s h =
    of_row-map (impl_of S.tables i)
    (λ q. of_row-map (impl_of S.tables j) (λ r. of_row-map (slice_get named n) (λ z. within-all_known w q.params.items (header_of q) (header_under r z) s))) h
within-names_known w S named (arguments.Followed n own) s h = h

within-names_nothing : {L M : Level} → IsWithin L M → (S : Setting) (named : List (List Tree)) (a : RuleArguments) →
    NamesNothing S L named a → NamesNothing S M named a
unfolding NamesNothing
within-names_nothing w S named (arguments.Given args) h = h
within-names_nothing w S named (arguments.Header i args) h = of_row-map (header_in S.tables i) (λ m. within-clashes w m.params m.terms (given args)) h
within-names_nothing w S named (arguments.OtherImpl i j n) h =
    of_row-map (impl_of S.tables i)
    (λ q. of_row-map (impl_of S.tables j) (λ r. of_row-map (slice_get named n) (λ z. within-clashes w q.params.items (header_of q) (header_under r z)))) h
within-names_nothing w S named (arguments.Followed n own) h = h

-- the clauses of a row
within-row_clauses_hold : {L M : Level} → IsWithin L M → (S : Setting) (named : List (List Tree)) (c : RowClauses) (n : ℕ) →
    RowClausesHold S L named c n → RowClausesHold S M named c n
within-row_clauses_hold w S named c n h =
    of_row-map (clauses_in S.tables c) (λ cs. of_row-map (slice_get named n) (λ s. within-premises_hold w (clauses_under s cs))) h

within-row_clauses_refuted : {L M : Level} → IsWithin L M → (S : Setting) (named : List (List Tree)) (c : RowClauses) (n : ℕ) →
    RowClausesRefuted S L named c n → RowClausesRefuted S M named c n
within-row_clauses_refuted w S named c n h =
    of_row-map (clauses_in S.tables c) (λ cs. of_row-map (slice_get named n) (λ s. within-premises_refuted w (clauses_under s cs))) h

-- the const conditions of an impl
within-row_conditions_hold : {L M : Level} → IsWithin L M → (S : Setting) (named : List (List Tree)) (b : BoundConstness) (i : ImplId) (n : ℕ) →
    RowConditionsHold S L named b i n → RowConditionsHold S M named b i n
within-row_conditions_hold w S named b i n h =
    of_row-map (conditions_in S.tables i) (λ rs. of_row-map (slice_get named n) (λ s. within-premises_hold w (conditions_as b (traits_under s rs)))) h

within-row_conditions_refuted : {L M : Level} → IsWithin L M → (S : Setting) (named : List (List Tree)) (b : BoundConstness) (i : ImplId) (n : ℕ) →
    RowConditionsRefuted S L named b i n → RowConditionsRefuted S M named b i n
within-row_conditions_refuted w S named b i n h =
    of_row-map (conditions_in S.tables i) (λ rs. of_row-map (slice_get named n) (λ s. within-premises_refuted w (conditions_as b (traits_under s rs)))) h

-- the term of an entry
within-term_is : {L M : Level} → IsWithin L M → (S : Setting) (named : List (List Tree)) (e : RuleTerm) (u : Tree) → TermIs S L named e u → TermIs S M named e u
unfolding TermIs
within-term_is w S named (term.AsItStands e) u h = h
within-term_is w S named (term.Normalized e) u h = within-has_head_form w (erased (tree_of_term e)) u h
within-term_is w S named (term.Value v n) u h =
    of_row-map (value_in S.tables v) (λ e. of_row-map (slice_get named n) (λ s. within-has_head_form w (under s e) u)) h
within-term_is w S named (term.ChosenBy k a b) u h =
    sum-map (λ x. (within-clause_holds w (erased_predicate (tree_of_kind k)) x.0, x.1)) (λ x. (within-clause_refuted w (erased_predicate (tree_of_kind k)) x.0, x.1)) h

within-term_is_none : {L M : Level} → IsWithin L M → (S : Setting) (named : List (List Tree)) (e : RuleTerm) → TermIsNone S L named e → TermIsNone S M named e
unfolding TermIsNone
within-term_is_none w S named (term.AsItStands e) h = h
within-term_is_none w S named (term.Normalized e) h = within-head_form_refuted w (erased (tree_of_term e)) h
within-term_is_none w S named (term.Value v n) h =
    of_row-map (value_in S.tables v) (λ e. of_row-map (slice_get named n) (λ s. within-head_form_refuted w (under s e))) h
within-term_is_none w S named (term.ChosenBy k a b) h = h

-- what an opaque type that is being defined stands for
within-hidden_is : {L M : Level} → IsWithin L M → (S : Setting) (k : OpaqueTypeKey) (f : FirstUse) (u : Tree) → HiddenIs S L k f u → HiddenIs S M k f u
unfolding HiddenIs
within-hidden_is w S k f u h = of_row-map (opaque_of S.tables k.def_id) (λ r. within-hidden_gives w f (given k.args) (tree_of_ty r.typeck_hidden) r.bounds.items u) h

within-hidden_is_none : {L M : Level} → IsWithin L M → (S : Setting) (k : OpaqueTypeKey) (f : FirstUse) → HiddenIsNone S L k f → HiddenIsNone S M k f
unfolding HiddenIsNone
within-hidden_is_none w S k f h = of_row-map (opaque_of S.tables k.def_id) (λ r. within-hidden_refuted w f (given k.args) (tree_of_ty r.typeck_hidden) r.bounds.items) h

-- entries that all hold
pub within-entries_hold : {L M : Level} → IsWithin L M → (S : Setting) (Said : Tree → Type 0) (named : List (List Tree)) (es : List RuleEntry) →
    EntriesHold S L Said named es → EntriesHold S M Said named es
unfolding EntriesHold
within-entries_hold w S Said named [] h = h
within-entries_hold w S Said named (entry.Arguments a ∷ es) h =
    (h.0, within-names w S named a h.0 h.1, within-entries_hold w S Said (named ++ h.0 ∷ []) es h.2)
within-entries_hold w S Said named (entry.Equation ts us ∷ es) h = (within-pairs w (given ts) (given us) h.0, within-entries_hold w S Said named es h.1)
within-entries_hold w S Said named (entry.Clause g k ∷ es) h =
    (within-clause_holds w (erased_predicate (tree_of_kind k)) h.0, within-entries_hold w S Said named es h.1)
within-entries_hold w S Said named (entry.RowClauses c n ∷ es) h = (within-row_clauses_hold w S named c n h.0, within-entries_hold w S Said named es h.1)
within-entries_hold w S Said named (entry.RowConditions b i n ∷ es) h =
    (within-row_conditions_hold w S named b i n h.0, within-entries_hold w S Said named es h.1)
within-entries_hold w S Said named (entry.Term v e ∷ es) h =
    ((h.0.0, within-term_is w S named e h.0.0 h.0.1, h.0.2), within-entries_hold w S Said named es h.1)
within-entries_hold w S Said named (entry.Access a ∷ es) h = within-entries_hold w S Said named es h
within-entries_hold w S Said named (entry.DelayedFault f ∷ es) h = within-entries_hold w S Said named es h
within-entries_hold w S Said named (entry.Evaluation ∷ es) h = within-entries_hold w S Said named es h
within-entries_hold w S Said named (entry.HiddenType v key first ∷ es) h =
    ((h.0.0, within-hidden_is w S key first h.0.0 h.0.1, h.0.2), within-entries_hold w S Said named es h.1)
within-entries_hold w S Said named (entry.Ambiguous ∷ es) h = h
within-entries_hold w S Said named (entry.Undecided ∷ es) h = h
within-entries_hold w S Said named (entry.Refused ∷ es) h = h

-- entries of which one is refuted
pub within-entries_refuted : {L M : Level} → IsWithin L M → (S : Setting) (named : List (List Tree)) (es : List RuleEntry) →
    EntriesRefuted S L named es → EntriesRefuted S M named es
unfolding EntriesRefuted
within-entries_refuted w S named [] h = h
within-entries_refuted w S named (entry.Arguments a ∷ es) h =
    sum-map (within-names_nothing w S named a)
    (λ x. (x.0, within-names_known w S named a x.0 x.1, within-entries_refuted w S (named ++ x.0 ∷ []) es x.2)) h
within-entries_refuted w S named (entry.Equation ts us ∷ es) h = sum-map (within-some_pair w (given ts) (given us)) (within-entries_refuted w S named es) h
within-entries_refuted w S named (entry.Clause g k ∷ es) h =
    sum-map (within-clause_refuted w (erased_predicate (tree_of_kind k))) (within-entries_refuted w S named es) h
within-entries_refuted w S named (entry.RowClauses c n ∷ es) h =
    sum-map (within-row_clauses_refuted w S named c n) (within-entries_refuted w S named es) h
within-entries_refuted w S named (entry.RowConditions b i n ∷ es) h =
    sum-map (within-row_conditions_refuted w S named b i n) (within-entries_refuted w S named es) h
within-entries_refuted w S named (entry.Term v e ∷ es) h = sum-map (within-term_is_none w S named e) (within-entries_refuted w S named es) h
within-entries_refuted w S named (entry.Access a ∷ es) h = within-entries_refuted w S named es h
within-entries_refuted w S named (entry.DelayedFault f ∷ es) h = within-entries_refuted w S named es h
within-entries_refuted w S named (entry.Evaluation ∷ es) h = within-entries_refuted w S named es h
within-entries_refuted w S named (entry.HiddenType v key first ∷ es) h = sum-map (within-hidden_is_none w S key first) (within-entries_refuted w S named es) h
within-entries_refuted w S named (entry.Ambiguous ∷ es) h = within-entries_refuted w S named es h
within-entries_refuted w S named (entry.Undecided ∷ es) h = within-entries_refuted w S named es h
within-entries_refuted w S named (entry.Refused ∷ es) h = h

-- a header that fits has the terms that its parameters are known to have
fits-known : (L : Level) → IsConsistent L → (m : MatchedHeader) (gs s z : List Tree) → Fits L m.params m.terms gs s → AllKnown L m.params m.terms gs z → s ≡ z
unfolding Fits
fits-known L c m gs s z h k = one_substitution L c m.params m.terms gs s z h.0 k

-- the arguments that an entry names are those that it is known to name
pub one_known : (S : Setting) (L : Level) → IsConsistent L → (named : List (List Tree)) (a : RuleArguments) (s z : List Tree) →
    Names S L named a s → NamesKnown S L named a z → s ≡ z
unfolding Names NamesKnown Fits
one_known S L c named (arguments.Given args) s z h k = h ∙ sym k
one_known S L c named (arguments.Header i args) s z h k =
    OfRow-twice _ _ (λ m x y. fits-known L c m (given args) s z x y) (header_in S.tables i) h k
one_known S L c named (arguments.OtherImpl i j n) s z h k =
    OfRow-twice _ _
    (λ q x y. OfRow-twice _ _
    (λ r v w. OfRow-twice _ _ (λ t d e. one_substitution L c q.params.items (header_of q) (header_under r t) s z d.0 e) (slice_get named n) v w)
    (impl_of S.tables j) x y)
    (impl_of S.tables i) h k
one_known S L c named (arguments.Followed n own) s z h k = OfRow-twice _ _ (λ t d e. d ∙ sym e) (slice_get named n) h k

-- what fits is known
pub names-known : (S : Setting) (L : Level) (named : List (List Tree)) (a : RuleArguments) (s : List Tree) → Names S L named a s → NamesKnown S L named a s
unfolding Names NamesKnown Fits
names-known S L named (arguments.Given args) s h = h
names-known S L named (arguments.Header i args) s h = of_row-map (header_in S.tables i) (λ m x. x.0) h
names-known S L named (arguments.OtherImpl i j n) s h =
    of_row-map (impl_of S.tables i) (λ q. of_row-map (impl_of S.tables j) (λ r. of_row-map (slice_get named n) (λ z x. x.0))) h
names-known S L named (arguments.Followed n own) s h = h

-- what is said of a row's image is said of the row
pub of_row-mapped : {A B : Type 0} (f : A → B) (P : B → Type 0) (o : Option A) → OfRow (option_map f o) P → OfRow o (λ r. P (f r))
unfolding OfRow
of_row-mapped f P None h = h
of_row-mapped f P (Some r) h = h

-- the header of an impl
abbrev pub matched-impl : ImplRow → MatchedHeader
matched-impl r = record { params = r.params.items; terms = header_of r }

-- the header of an inherent impl
abbrev pub matched-inherent : InherentImplRow → MatchedHeader
matched-inherent q = record { params = q.params.items; terms = self_header q }

-- a row's header that fits does not clash
no_header_clash : (t : Tables) (L : Level) → IsConsistent L → (i : RuleHeader) (gs s : List Tree) →
    OfRow (header_in t i) (λ m. Fits L m.params m.terms gs s) → OfRow (header_in t i) (λ m. Clashes L m.params m.terms gs) → ⊥
no_header_clash t L c (header.Impl i) gs s h k =
    OfRow-twice _ _ (λ r x y. no_fit_and_clash L c r.params.items (trees_of r.trait_args.items) gs s x y) (impl_of t i)
    (of_row-mapped matched-impl (λ m. Fits L m.params m.terms gs s) (impl_of t i) h)
    (of_row-mapped matched-impl (λ m. Clashes L m.params m.terms gs) (impl_of t i) k)
no_header_clash t L c (header.InherentImpl i) gs s h k =
    OfRow-twice _ _ (λ q x y. no_fit_and_clash L c q.params.items (tree_of_ty q.self_ty ∷ []) gs s x y) (inherent_impl_of t i)
    (of_row-mapped matched-inherent (λ m. Fits L m.params m.terms gs s) (inherent_impl_of t i) h)
    (of_row-mapped matched-inherent (λ m. Clashes L m.params m.terms gs) (inherent_impl_of t i) k)

-- an entry that names a list does not name nothing
pub no_names_nothing : (S : Setting) (L : Level) → IsConsistent L → (named : List (List Tree)) (a : RuleArguments) (s : List Tree) →
    Names S L named a s → NamesNothing S L named a → ⊥
unfolding Names NamesNothing
no_names_nothing S L c named (arguments.Given args) s h k = k
no_names_nothing S L c named (arguments.Header i args) s h k = no_header_clash S.tables L c i (given args) s h k
no_names_nothing S L c named (arguments.OtherImpl i j n) s h k =
    OfRow-twice _ _
    (λ q x y. OfRow-twice _ _
    (λ r v w. OfRow-twice _ _ (λ t d e. no_fit_and_clash L c q.params.items (trees_of q.trait_args.items) (header_under r t) s d e) (slice_get named n) v w)
    (impl_of S.tables j) x y)
    (impl_of S.tables i) h k
no_names_nothing S L c named (arguments.Followed n own) s h k = k

-- clauses of a row that hold are not refuted
pub no_row_clauses_refuted : (S : Setting) (L : Level) → IsConsistent L → (named : List (List Tree)) (r : RowClauses) (n : ℕ) →
    RowClausesHold S L named r n → RowClausesRefuted S L named r n → ⊥
no_row_clauses_refuted S L c named r n h k =
    OfRow-twice _ _ (λ cs x y. OfRow-twice _ _ (λ s v w. no_premises_refuted L c (clauses_under s cs) v w) (slice_get named n) x y) (clauses_in S.tables r) h k

-- nor are const conditions of an impl
pub no_row_conditions_refuted : (S : Setting) (L : Level) → IsConsistent L → (named : List (List Tree)) (b : BoundConstness) (i : ImplId) (n : ℕ) →
    RowConditionsHold S L named b i n → RowConditionsRefuted S L named b i n → ⊥
no_row_conditions_refuted S L c named b i n h k =
    OfRow-twice _ _
    (λ rs x y. OfRow-twice _ _ (λ s v w. no_premises_refuted L c (conditions_as b (traits_under s rs)) v w) (slice_get named n) x y) (conditions_in S.tables i) h k

-- a term that is there is not none
pub no_term_none : (S : Setting) (L : Level) → IsConsistent L → (named : List (List Tree)) (e : RuleTerm) (u : Tree) → TermIs S L named e u → TermIsNone S L named e → ⊥
unfolding TermIs TermIsNone
no_term_none S L c named (term.AsItStands e) u h k = k
no_term_none S L c named (term.Normalized e) u h k = no_head_form_refuted L c.no_term_refuted (erased (tree_of_term e)) u h k
no_term_none S L c named (term.Value v n) u h k =
    OfRow-twice _ _ (λ e x y. OfRow-twice _ _ (λ s d f. no_head_form_refuted L c.no_term_refuted (under s e) u d f) (slice_get named n) x y) (value_in S.tables v) h k
no_term_none S L c named (term.ChosenBy p a b) u h k = k

-- and it is one term
one_term_is : (S : Setting) (L : Level) → IsConsistent L → (named : List (List Tree)) (e : RuleTerm) (t u : Tree) → TermIs S L named e t → TermIs S L named e u → t ≡ u
unfolding TermIs
one_term_is S L c named (term.AsItStands e) t u h k = h ∙ sym k
one_term_is S L c named (term.Normalized e) t u h k = one_head_form L c.one_term (erased (tree_of_term e)) t u h k
one_term_is S L c named (term.Value v n) t u h k =
    OfRow-twice _ _ (λ e x y. OfRow-twice _ _ (λ s d f. one_head_form L c.one_term (under s e) t u d f) (slice_get named n) x y) (value_in S.tables v) h k
one_term_is S L c named (term.ChosenBy p a b) t u h k =
    let q = erased_predicate (tree_of_kind p) in
    ⊎_elim (λ x. ⊎_elim (λ y. x.1 ∙ sym y.1) (λ y. absurd (no_clause_refuted L c q x.0 y.0)) k)
    (λ x. ⊎_elim (λ y. absurd (no_clause_refuted L c q y.0 x.0)) (λ y. x.1 ∙ sym y.1) k) h

-- and what an opaque type that is being defined stands for
no_hidden_none : (S : Setting) (L : Level) → IsConsistent L → (k : OpaqueTypeKey) (f : FirstUse) (u : Tree) → HiddenIs S L k f u → HiddenIsNone S L k f → ⊥
unfolding HiddenIs HiddenIsNone
no_hidden_none S L c k f u h x =
    OfRow-twice _ _ (λ r d e. no_hidden_refuted L c f (given k.args) (tree_of_ty r.typeck_hidden) r.bounds.items u d e) (opaque_of S.tables k.def_id) h x

one_hidden_is : (S : Setting) (L : Level) → IsConsistent L → (k : OpaqueTypeKey) (f : FirstUse) (t u : Tree) → HiddenIs S L k f t → HiddenIs S L k f u → t ≡ u
unfolding HiddenIs
one_hidden_is S L c k f t u h x =
    OfRow-twice _ _ (λ r d e. one_hidden_term L c f (given k.args) (tree_of_ty r.typeck_hidden) r.bounds.items t u d e) (opaque_of S.tables k.def_id) h x

-- entries that hold are not refuted
no_entries_refuted : (S : Setting) (L : Level) → IsConsistent L → (Said : Tree → Type 0) (named : List (List Tree)) (es : List RuleEntry) →
    EntriesHold S L Said named es → EntriesRefuted S L named es → ⊥
unfolding EntriesHold EntriesRefuted
no_entries_refuted S L c Said named [] h k = k
no_entries_refuted S L c Said named (entry.Arguments a ∷ es) h k =
    ⊎_elim (λ x. no_names_nothing S L c named a h.0 h.1 x)
    (λ x. no_entries_refuted S L c Said (named ++ h.0 ∷ []) es h.2
    (subst (λ z. EntriesRefuted S L (named ++ z ∷ []) es) (sym (one_known S L c named a h.0 x.0 h.1 x.1)) x.2)) k
no_entries_refuted S L c Said named (entry.Equation ts us ∷ es) h k =
    ⊎_elim (λ x. no_pair_unequal L c (given ts) (given us) h.0 x) (λ x. no_entries_refuted S L c Said named es h.1 x) k
no_entries_refuted S L c Said named (entry.Clause g p ∷ es) h k =
    ⊎_elim (λ x. no_clause_refuted L c (erased_predicate (tree_of_kind p)) h.0 x) (λ x. no_entries_refuted S L c Said named es h.1 x) k
no_entries_refuted S L c Said named (entry.RowClauses r n ∷ es) h k =
    ⊎_elim (λ x. no_row_clauses_refuted S L c named r n h.0 x) (λ x. no_entries_refuted S L c Said named es h.1 x) k
no_entries_refuted S L c Said named (entry.RowConditions b i n ∷ es) h k =
    ⊎_elim (λ x. no_row_conditions_refuted S L c named b i n h.0 x) (λ x. no_entries_refuted S L c Said named es h.1 x) k
no_entries_refuted S L c Said named (entry.Term v e ∷ es) h k =
    ⊎_elim (λ x. no_term_none S L c named e h.0.0 h.0.1 x) (λ x. no_entries_refuted S L c Said named es h.1 x) k
no_entries_refuted S L c Said named (entry.Access a ∷ es) h k = no_entries_refuted S L c Said named es h k
no_entries_refuted S L c Said named (entry.DelayedFault f ∷ es) h k = no_entries_refuted S L c Said named es h k
no_entries_refuted S L c Said named (entry.Evaluation ∷ es) h k = no_entries_refuted S L c Said named es h k
no_entries_refuted S L c Said named (entry.HiddenType v key first ∷ es) h k =
    ⊎_elim (λ x. no_hidden_none S L c key first h.0.0 h.0.1 x) (λ x. no_entries_refuted S L c Said named es h.1 x) k
no_entries_refuted S L c Said named (entry.Ambiguous ∷ es) h k = h
no_entries_refuted S L c Said named (entry.Undecided ∷ es) h k = h
no_entries_refuted S L c Said named (entry.Refused ∷ es) h k = h

-- entries that have a term have one
one_said : (S : Setting) (L : Level) → IsConsistent L → (t u : Tree) (named : List (List Tree)) (es : List RuleEntry) → has_term es ≡ true →
    EntriesHold S L (λ v. v ≡ t) named es → EntriesHold S L (λ v. v ≡ u) named es → t ≡ u
unfolding EntriesHold has_term
one_said S L c t u named [] e h k = absurd (cc)
one_said S L c t u named (entry.Arguments a ∷ es) e h k =
    one_said S L c t u (named ++ h.0 ∷ []) es e h.2
    (subst (λ z. EntriesHold S L (λ v. v ≡ u) (named ++ z ∷ []) es) (sym (one_known S L c named a h.0 k.0 h.1 (names-known S L named a k.0 k.1))) k.2)
one_said S L c t u named (entry.Equation ts us ∷ es) e h k = one_said S L c t u named es e h.1 k.1
one_said S L c t u named (entry.Clause g p ∷ es) e h k = one_said S L c t u named es e h.1 k.1
one_said S L c t u named (entry.RowClauses r n ∷ es) e h k = one_said S L c t u named es e h.1 k.1
one_said S L c t u named (entry.RowConditions b i n ∷ es) e h k = one_said S L c t u named es e h.1 k.1
one_said S L c t u named (entry.Term v x ∷ es) e h k = sym h.0.2 ∙ one_term_is S L c named x h.0.0 k.0.0 h.0.1 k.0.1 ∙ k.0.2
one_said S L c t u named (entry.Access a ∷ es) e h k = one_said S L c t u named es e h k
one_said S L c t u named (entry.DelayedFault f ∷ es) e h k = one_said S L c t u named es e h k
one_said S L c t u named (entry.Evaluation ∷ es) e h k = one_said S L c t u named es e h k
one_said S L c t u named (entry.HiddenType v key first ∷ es) e h k = sym h.0.2 ∙ one_hidden_is S L c key first h.0.0 k.0.0 h.0.1 k.0.1 ∙ k.0.2
one_said S L c t u named (entry.Ambiguous ∷ es) e h k = absurd h
one_said S L c t u named (entry.Undecided ∷ es) e h k = absurd h
one_said S L c t u named (entry.Refused ∷ es) e h k = absurd h

-- the laws of rules at two heights
module _ (S : Setting) (n m : ℕ) where
  pub holds-higher : n ≤ m → (r : Rule) → RuleHolds S (level S n) r → RuleHolds S (level S m) r
  unfolding RuleHolds
  holds-higher le r h = within-entries_hold (within-level S n m le) S (λ u. Unit {0}) [] r.entries.items h

  pub gives-higher : n ≤ m → (r : Rule) (t : Tree) → RuleGives S (level S n) r t → RuleGives S (level S m) r t
  unfolding RuleGives
  gives-higher le r t h = (within-entries_hold (within-level S n m le) S (λ u. u ≡ t) [] r.entries.items h.0, h.1)

  pub refuted-higher : n ≤ m → (r : Rule) → RuleRefuted S (level S n) r → RuleRefuted S (level S m) r
  unfolding RuleRefuted
  refuted-higher le r h = within-entries_refuted (within-level S n m le) S [] r.entries.items h

  -- two heights have a common greater one
  to_both : IsWithin (level S n) (level S (n + m))
  to_both = within-level S n (n + m) (omega arith)

  from_other : IsWithin (level S m) (level S (n + m))
  from_other = within-level S m (n + m) (omega arith)

  both_consistent : IsConsistent (level S (n + m))
  both_consistent = each_level_is_consistent S (n + m)

  pub holds-not_refuted : (r : Rule) → RuleHolds S (level S n) r → RuleRefuted S (level S m) r → ⊥
  unfolding RuleHolds RuleRefuted
  holds-not_refuted r h k =
      no_entries_refuted S (level S (n + m)) both_consistent (λ u. Unit {0}) [] r.entries.items
      (within-entries_hold to_both S (λ u. Unit {0}) [] r.entries.items h) (within-entries_refuted from_other S [] r.entries.items k)

  pub gives-not_refuted : (r : Rule) (t : Tree) → RuleGives S (level S n) r t → RuleRefuted S (level S m) r → ⊥
  unfolding RuleGives RuleRefuted
  gives-not_refuted r t h k =
      no_entries_refuted S (level S (n + m)) both_consistent (λ u. u ≡ t) [] r.entries.items
      (within-entries_hold to_both S (λ u. u ≡ t) [] r.entries.items h.0) (within-entries_refuted from_other S [] r.entries.items k)

  pub one_given : (r : Rule) (t u : Tree) → RuleGives S (level S n) r t → RuleGives S (level S m) r u → t ≡ u
  unfolding RuleGives
  one_given r t u h k =
      one_said S (level S (n + m)) both_consistent t u [] r.entries.items h.1
      (within-entries_hold to_both S (λ v. v ≡ t) [] r.entries.items h.0) (within-entries_hold from_other S (λ v. v ≡ u) [] r.entries.items k.0)
