-- The rules of free, inherent and opaque aliases say what their lists do.
use Rattle.std.proofs.Common.{◌≡◌, ◌↔◌, ℕ, suc, Bool, true, false, List, [], ◌∷◌, ◌++◌, map, Option, Some, None, is_some, Result, IfOk, Vec, Global, if◌then◌else◌, refl, sym, ◌∙◌, ap, subst, ⊎_elim, append-nil}
use Rattle.std.specs.List.{AllZip}
use Rattle.std.specs.Option.{option_map}
use Rattle.goal_interner.specs.TableMeaning.{tree_at}
use Rattle.goal_terms.specs.Tree.{Tree}
use Rattle.goal_terms.specs.TreeOf.{trees_of}
use Rattle.goal_terms.specs.declared.answers.Certainty.TheVariants as certainty
use Rattle.goal_terms.specs.declared.ids.ItemId.{ItemId}
use Rattle.goal_terms.specs.declared.ids.OpaqueId.{OpaqueId}
use Rattle.goal_terms.specs.declared.modes.TypingMode.{TypingMode}
use Rattle.goal_terms.specs.declared.modes.TypingMode.TheVariants as mode
use Rattle.goal_terms.specs.declared.predicates.Clause.{Clause}
use Rattle.goal_interner.specs.declared.term_nodes.TermId.{TermId}
use Rattle.goal_terms.specs.declared.terms.AliasTerm.{AliasTerm}
use Rattle.goal_terms.specs.declared.terms.AliasTermKind.{AliasTermKind}
use Rattle.goal_terms.specs.declared.terms.AliasTermKind.TheVariants.{ProjectionTy, ProjectionConst, InherentTy, InherentConst, OpaqueTy, FreeTy, FreeConst, UnevaluatedConst}
use Rattle.goal_terms.specs.declared.terms.Term.{Term}
use Rattle.goal_tables.specs.Rows.{free_of, inherent_of, inherent_impl_of, opaque_of}
use Rattle.goal_tables.specs.declared.rows.InherentRow.{InherentRow}
use Rattle.goal_tables.specs.declared.rows.OpaqueRow.{OpaqueRow}
use Rattle.goal_tables.specs.declared.rows.Tables.{Tables}
use Rattle.goal_lists.specs.declared.lists.InternedTerm.TheVariants as terms
use Rattle.goal_lists.specs.declared.lists.InternedTerm.{InternedTerm}
use Rattle.goal_lists.specs.Aliases.{AliasGives, AliasRefuted}
use Rattle.goal_lists.specs.AliasLists.{row_value, entries_of_row, free_list, inherent_alias_list, opaque_list, opaque_alias_list, alias_list}
use Rattle.goal_lists.specs.Answers.{setting_of}
use Rattle.goal_lists.specs.Entries.{Entry, arguments, row_clauses, row_conditions, expected, ambiguous, undecided, ListGives, ListRefuted}
use Rattle.goal_lists.specs.InternedEntries.{setting_at}
use Rattle.goal_lists.specs.Level.{Level}
use Rattle.goal_lists.specs.Levels.{level}
use Rattle.goal_lists.specs.ListModes.{access_in, accesses_in, in_mode, erased_setting}
use Rattle.goal_lists.specs.NamedRows.{Defines, IsHiddenType}
use Rattle.goal_kinds.specs.RebuiltKeys.{KeepsKey, KeepsKeys}
use Rattle.goal_lists.specs.Projections.{projected_item}
use Rattle.goal_kinds.specs.RuleLists.{arguments_of, expected_of, entry_of, list_of_rule, list_then, IsListed, hidden_of}
use Rattle.goal_kinds.specs.RuleModes.{access_of, accesses_of, IsRuleIn}
use Rattle.goal_lists.specs.OpaqueUses.{access_to, first_use_of, accesses_for_opaque, accesses_for}
use Rattle.goal_kinds.specs.RuleWords.{RuleMeans, TermsAreFor, IsHiddenEntry, DefinesHidden}
use Rattle.goal_kinds.specs.Rules.{EntriesHold, RuleGives}
use Rattle.goal_lists.specs.RowWords.{clauses_in, conditions_in}
use Rattle.goal_lists.specs.Settings.{Setting, is_headline, among}
use Rattle.goal_kinds.specs.declared.faults.Fault.{Fault}
use Rattle.goal_lists.specs.declared.lists.ListSetting.{ListSetting}
use Rattle.goal_lists.specs.declared.lists.InternedEntry.{InternedEntry}
use Rattle.goal_lists.specs.declared.lists.InternedEntry.TheVariants as entries
use Rattle.goal_lists.specs.declared.lists.FirstUse.{FirstUse}
use Rattle.goal_kinds.specs.declared.rules.Rule.{Rule}
use Rattle.goal_kinds.specs.declared.rules.RuleEntry.{RuleEntry}
use Rattle.goal_kinds.specs.declared.rules.RuleEntry.TheVariants as entry
use Rattle.goal_lists.proofs.AliasLists.{alias_list-gives, alias_list-refuted}
use Rattle.goal_lists.proofs.EntryLemmas.{iff-chain, iff-back}
use Rattle.goal_kinds.proofs.FaceLemmas.{listed-yes}
use Rattle.goal_lists.proofs.ListModes.{alias_list-stands}
use Rattle.goal_kinds.proofs.ListedRules.{listed-list}
use Rattle.goal_kinds.proofs.RulesAsLists.{rule_list-gives, rule_list-refuted}

-- the list of an alias goes by the tables and the mode alone
inherent-same : (S V : Setting) (o : Option InherentRow) (args : List Tree) → S.tables ≡ V.tables → inherent_alias_list S o args ≡ inherent_alias_list V o args
unfolding inherent_alias_list
inherent-same S V o [] e = refl
inherent-same S V o (self ∷ own) e = ap (λ t. inherent_alias_list (record S { tables = t }) o (self ∷ own)) e

pub alias_list-same : (S V : Setting) (k : AliasTermKind) (args : List Tree) → S.tables ≡ V.tables → S.mode ≡ V.mode → alias_list S k args ≡ alias_list V k args
unfolding alias_list
alias_list-same S V (InherentTy i) args e f = ap (λ t. inherent_alias_list S (inherent_of t i) args) e ∙ inherent-same S V (inherent_of V.tables i) args e
alias_list-same S V (InherentConst i) args e f = ap (λ t. inherent_alias_list S (inherent_of t i) args) e ∙ inherent-same S V (inherent_of V.tables i) args e
alias_list-same S V (OpaqueTy i) args e f =
    ap (λ t. entries_of_row (opaque_of t i) (opaque_alias_list S i args)) e
    ∙ ap (λ m. entries_of_row (opaque_of V.tables i) (opaque_alias_list (record S { mode = m }) i args)) f
alias_list-same S V (FreeTy i) args e f = ap (λ t. entries_of_row (free_of t i) (free_list args)) e
alias_list-same S V (FreeConst i) args e f = ap (λ t. entries_of_row (free_of t i) (free_list args)) e
alias_list-same S V (UnevaluatedConst n) args e f = refl
alias_list-same S V (ProjectionTy i) args e f = refl
alias_list-same S V (ProjectionConst i) args e f = refl

-- an entry of a rule records what its list's does
mapped-access : {A : Type 0} (o : Option A) (f : A → Entry) (x : Entry) → ((a : A) → access_in (f a) ≡ []) → option_map f o ≡ Some x → [] ≡ access_in x
mapped-access None f x h e = absurd (cc)
mapped-access (Some a) f x h e = let same : f a ≡ x = cc in sym (h a) ∙ ap access_in same

some-access : (y x : Entry) → Some y ≡ Some x → access_in y ≡ access_in x
some-access y x e = let same : y ≡ x = cc in ap access_in same

access-here : (t : Tables) (r : RuleEntry) (x : Entry) → entry_of t r ≡ Some x → access_of r ≡ access_in x
access-here t (entry.Arguments a) x e = mapped-access (arguments_of t a) arguments x (λ y. refl) e
access-here t (entry.RowClauses c n) x e = mapped-access (clauses_in t c) (λ cs. row_clauses cs n) x (λ y. refl) e
access-here t (entry.RowConditions c i n) x e = mapped-access (conditions_in t i) (λ rs. row_conditions c rs n) x (λ y. refl) e
access-here t (entry.Term v u) x e = mapped-access (expected_of t u) expected x (λ y. refl) e
access-here t (entry.Equation ts us) x e = some-access _ x e
access-here t (entry.Clause g k) x e = some-access _ x e
access-here t (entry.HiddenType v k f) x e = mapped-access (hidden_of t k f) expected x (λ y. refl) e
access-here t (entry.Access a) x e = some-access _ x e
access-here t (entry.DelayedFault f) x e = some-access _ x e
access-here t entry.Evaluation x e = some-access _ x e
access-here t entry.Ambiguous x e = some-access _ x e
access-here t entry.Undecided x e = some-access _ x e
access-here t entry.Refused x e = some-access _ x e

accesses-listed : (t : Tables) (rs : List RuleEntry) (es : List Entry) → map (entry_of t) rs ≡ map Some es → accesses_of rs ≡ accesses_in es
unfolding accesses_of accesses_in
accesses-listed t [] [] e = refl
accesses-listed t [] (x ∷ es) e = absurd (cc)
accesses-listed t (r ∷ rs) [] e = absurd (cc)
accesses-listed t (r ∷ rs) (x ∷ es) e =
    let here : entry_of t r ≡ Some x = cc in
    let rest : map (entry_of t) rs ≡ map Some es = cc in
    ap (λ xs. xs ++ accesses_of rs) (access-here t r x here) ∙ ap (λ xs. access_in x ++ xs) (accesses-listed t rs es rest)

-- what the list of an alias records
value-access : (o : Option Term) (n : ℕ) → access_in (row_value o n) ≡ []
value-access None n = refl
value-access (Some e) n = refl

row-accesses : {A : Type 0} (o : Option A) (f : A → List Entry) → ((r : A) → accesses_in (f r) ≡ []) → accesses_in (entries_of_row o f) ≡ []
unfolding entries_of_row accesses_in
row-accesses None f h = refl
row-accesses (Some r) f h = h r

inherent-accesses : (S : Setting) (o : Option InherentRow) (args : List Tree) → accesses_in (inherent_alias_list S o args) ≡ []
unfolding inherent_alias_list accesses_in
inherent-accesses S o [] = refl
inherent-accesses S o (self ∷ own) =
    row-accesses o _ (λ i. row-accesses (inherent_impl_of S.tables i.impl_id) _ (λ q. ap (λ xs. xs ++ []) (value-access i.value 1)))

which-accesses : (b : Bool) (es fs : List Entry) → accesses_in es ≡ [] → accesses_in fs ≡ [] → accesses_in (if b then es else fs) ≡ []
which-accesses true es fs h k = h
which-accesses false es fs h k = k

opaque-accesses : (m : TypingMode) (o : Option OpaqueRow) (defined : OpaqueRow → FirstUse → List Entry) (revealed : OpaqueRow → List Entry) (itself : List Entry) →
    ((r : OpaqueRow) (f : FirstUse) → accesses_in (defined r f) ≡ []) → ((r : OpaqueRow) → accesses_in (revealed r) ≡ []) → accesses_in itself ≡ [] →
    accesses_in (entries_of_row o (λ r. opaque_list m r (defined r) (revealed r) itself)) ≡ accesses_for_opaque m o
unfolding entries_of_row opaque_list accesses_in
opaque-accesses mode.Coherence None defined revealed itself d h k = refl
opaque-accesses mode.Coherence (Some r) defined revealed itself d h k = refl
opaque-accesses (mode.Analysis ids) None defined revealed itself d h k = refl
opaque-accesses (mode.Analysis ids) (Some r) defined revealed itself d h k = which-accesses (among ids.items r) _ _ (d r _) k
opaque-accesses (mode.Borrowck ids) None defined revealed itself d h k = refl
opaque-accesses (mode.Borrowck ids) (Some r) defined revealed itself d h k = which-accesses (among ids.items r) _ _ (d r _) k
opaque-accesses (mode.PostBorrowckAnalysis ids) None defined revealed itself d h k = refl
opaque-accesses (mode.PostBorrowckAnalysis ids) (Some r) defined revealed itself d h k = which-accesses (among ids.items r) _ _ (h r) k
opaque-accesses mode.PostAnalysis None defined revealed itself d h k = refl
opaque-accesses mode.PostAnalysis (Some r) defined revealed itself d h k = h r
opaque-accesses mode.ErasedNotCoherence None defined revealed itself d h k = refl
opaque-accesses mode.ErasedNotCoherence (Some r) defined revealed itself d h k = ap (λ xs. access_to r ∷ xs) k

alias-accesses : (S : Setting) (k : AliasTermKind) (args : List Tree) → accesses_in (alias_list S k args) ≡ accesses_for S.tables S.mode k
unfolding alias_list accesses_in
alias-accesses S (InherentTy i) args = inherent-accesses S (inherent_of S.tables i) args
alias-accesses S (InherentConst i) args = inherent-accesses S (inherent_of S.tables i) args
alias-accesses S (OpaqueTy i) args = opaque-accesses S.mode (opaque_of S.tables i) _ _ _ (λ r f. refl) (λ r. refl) refl
alias-accesses S (FreeTy i) args = row-accesses (free_of S.tables i) _ (λ r. ap (λ xs. xs ++ []) (value-access r.value 0))
alias-accesses S (FreeConst i) args = row-accesses (free_of S.tables i) _ (λ r. ap (λ xs. xs ++ []) (value-access r.value 0))
alias-accesses S (UnevaluatedConst n) args = refl
alias-accesses S (ProjectionTy i) args = refl
alias-accesses S (ProjectionConst i) args = refl

-- a rule that is made of the list of an alias
pub alias_rule-listed : (S : ListSetting) (t : Tables) (m : TypingMode) (env : List Clause) (k : AliasTermKind) (args : List Tree) (es : List Entry) (r : Result Rule Fault) →
    S.rows.now ≡ t → S.mode.now ≡ m → es ≡ alias_list (setting_at S env) k args → IfOk r (λ x. IsListed S.rows.now x (list_then certainty.Yes (Some es))) →
    IfOk r (λ x. IsListed t x (Some (alias_list (setting_of t m env) k args)))
alias_rule-listed S t m env k args es r rows mode made h =
    subst (λ u. IfOk r (λ x. IsListed u x (Some (alias_list (setting_of u m env) k args)))) rows
    (subst (λ n. IfOk r (λ x. IsListed S.rows.now x (Some (alias_list (setting_of S.rows.now n env) k args)))) mode
    (subst (λ xs. IfOk r (λ x. IsListed S.rows.now x (Some xs))) made (listed-yes S.rows.now (Some es) r h)))

-- what the mode of a goal defines is what that of the lists does
pub same-use : (t u : Tables) (m n : TypingMode) (k : AliasTermKind) (f : FirstUse) → t ≡ u → m ≡ n → first_use_of u n k ≡ Some f → first_use_of t m k ≡ Some f
same-use t u m n k f e g h = ap (λ x. first_use_of x m k) e ∙ ap (λ x. first_use_of u x k) g ∙ h

-- an alias that isn't found to project an item projects none
pub alias_rule-kind : (o p : Option ItemId) (b : Bool) → o ≡ p → b ≡ is_some o → b ≡ false → p ≡ None
alias_rule-kind None p b e f g = sym e
alias_rule-kind (Some i) p b e f g = absurd (cc)

-- the rule of an alias that is no projection
module _ (t : Tables) (m : TypingMode) (env : List Clause) (k : AliasTermKind) (args : List Tree) (r : Rule) (listed : IsListed t r (Some (alias_list (setting_of t m env) k args))) where
  -- it records what its list does
  pub alias_rule-records : accesses_of r.entries.items ≡ accesses_for t m k
  alias_rule-records = accesses-listed t r.entries.items (alias_list (setting_of t m env) k args) listed ∙ alias-accesses (setting_of t m env) k args

  module _ (S : Setting) (here : S.tables ≡ t) where
    -- in a mode for which the rule stands it is the list of that mode
    erased-same : m ≡ mode.ErasedNotCoherence → accesses_of r.entries.items ≡ [] → is_headline S.mode ≡ true → alias_list (setting_of t m env) k args ≡ alias_list S k args
    erased-same e none headline =
        let erased = alias_list-same (setting_of t m env) (erased_setting S) k args (sym here) e in
        erased
        ∙ sym (alias_list-stands S S.mode headline k args
        (ap accesses_in (sym erased) ∙ sym (accesses-listed t r.entries.items (alias_list (setting_of t m env) k args) listed) ∙ none))
        ∙ alias_list-same (in_mode S S.mode) S k args refl refl

    list-in_mode : IsRuleIn m r S.mode → list_of_rule S.tables r ≡ Some (alias_list S k args)
    list-in_mode stands =
        ap (λ u. list_of_rule u r) here ∙ listed-list t r (Some (alias_list (setting_of t m env) k args)) listed
        ∙ ap Some (⊎_elim (λ same. alias_list-same (setting_of t m env) S k args (sym here) same) (λ x. erased-same x.0 x.1 stands.0) stands.1)

    pub alias_rule-means : (n : ℕ) → projected_item k ≡ None → IsRuleIn m r S.mode →
        RuleMeans S (level S n) r ((level S (suc n)).gives k args) ((level S (suc n)).gives_refuted k args)
    unfolding level
    alias_rule-means n none stands = record {
      gives = λ u.
          iff-chain (iff-back (rule_list-gives S (level S n) r u))
          (subst (λ l. ListGives (level S n) l u ↔ AliasGives S (level S n) k args u) (sym (list-in_mode stands))
          (alias_list-gives S (level S n) k args none u));
      refuted =
          iff-chain (iff-back (rule_list-refuted S (level S n) r))
          (subst (λ l. ListRefuted (level S n) l ↔ AliasRefuted S (level S n) k args) (sym (list-in_mode stands))
          (alias_list-refuted S (level S n) k args none));
    }

-- an entry that decides nothing doesn't hold, whatever the tables
abbrev IsStuck : Entry → Type 0
IsStuck ambiguous = Unit {0}
IsStuck undecided = Unit {0}
IsStuck _ = ⊥

mapped-stuck : {A : Type 0} (o : Option A) (f : A → Entry) (x : Entry) → ((a : A) → IsStuck (f a) → ⊥) → option_map f o ≡ Some x → IsStuck x → ⊥
mapped-stuck None f x h e k = absurd (cc)
mapped-stuck (Some a) f x h e k = let same : x ≡ f a = cc in h a (subst IsStuck same k)

some-stuck : (y x : Entry) → Some y ≡ Some x → IsStuck x → IsStuck y
some-stuck y x e h = let same : x ≡ y = cc in subst IsStuck same h

stuck-here : (t : Tables) (r : RuleEntry) (x : Entry) → entry_of t r ≡ Some x → IsStuck x → (S : Setting) (L : Level) (Said : Tree → Type 0) (rs : List RuleEntry) →
    EntriesHold S L Said [] (r ∷ rs) → ⊥
unfolding EntriesHold
stuck-here t (entry.Arguments a) x e h S L Said rs k = mapped-stuck (arguments_of t a) arguments x (λ y z. z) e h
stuck-here t (entry.RowClauses c n) x e h S L Said rs k = mapped-stuck (clauses_in t c) (λ cs. row_clauses cs n) x (λ y z. z) e h
stuck-here t (entry.RowConditions c i n) x e h S L Said rs k = mapped-stuck (conditions_in t i) (λ ts. row_conditions c ts n) x (λ y z. z) e h
stuck-here t (entry.Term v u) x e h S L Said rs k = mapped-stuck (expected_of t u) expected x (λ y z. z) e h
stuck-here t (entry.Equation ts us) x e h S L Said rs k = some-stuck _ x e h
stuck-here t (entry.Clause g c) x e h S L Said rs k = some-stuck _ x e h
stuck-here t (entry.HiddenType v c f) x e h S L Said rs k = mapped-stuck (hidden_of t c f) expected x (λ y z. z) e h
stuck-here t (entry.Access a) x e h S L Said rs k = some-stuck _ x e h
stuck-here t (entry.DelayedFault f) x e h S L Said rs k = some-stuck _ x e h
stuck-here t entry.Evaluation x e h S L Said rs k = some-stuck _ x e h
stuck-here t entry.Ambiguous x e h S L Said rs k = k
stuck-here t entry.Undecided x e h S L Said rs k = k
stuck-here t entry.Refused x e h S L Said rs k = some-stuck _ x e h

stuck-list : (t : Tables) (rs : List RuleEntry) (x : Entry) (es : List Entry) → map (entry_of t) rs ≡ map Some (x ∷ es) → IsStuck x → (S : Setting) (L : Level) (Said : Tree → Type 0) →
    EntriesHold S L Said [] rs → ⊥
stuck-list t [] x es e h S L Said k = absurd (cc)
stuck-list t (r ∷ rs) x es e h S L Said k = let here : entry_of t r ≡ Some x = cc in stuck-here t r x here h S L Said rs k

-- in coherence the rule of an opaque type gives no term
coherent-stuck : (t : Tables) (env : List Clause) (o : Option OpaqueRow) (i : OpaqueId) (args : List Tree) (rs : List RuleEntry) →
    map (entry_of t) rs ≡ map Some (entries_of_row o (opaque_alias_list (setting_of t mode.Coherence env) i args)) → (S : Setting) (L : Level) (Said : Tree → Type 0) →
    EntriesHold S L Said [] rs → ⊥
unfolding entries_of_row opaque_list
coherent-stuck t env None i args rs e S L Said k = stuck-list t rs undecided [] e tt S L Said k
coherent-stuck t env (Some q) i args rs e S L Said k = stuck-list t rs ambiguous [] e tt S L Said k

pub alias_rule-coherent : (t : Tables) (m : TypingMode) (env : List Clause) (k : AliasTermKind) (i : OpaqueId) (args : List Tree) (r : Rule) → m ≡ mode.Coherence → k ≡ OpaqueTy i →
    IsListed t r (Some (alias_list (setting_of t m env) k args)) → (S : Setting) (L : Level) (u : Tree) → RuleGives S L r u → ⊥
unfolding alias_list RuleGives
alias_rule-coherent t m env k i args r coherence kind listed S L u h =
    coherent-stuck t env (opaque_of t i) i args r.entries.items
    (subst (λ j. IsListed t r (Some (alias_list (setting_of t mode.Coherence env) j args))) kind (subst (λ n. IsListed t r (Some (alias_list (setting_of t n env) k args))) coherence listed))
    S L (λ v. v ≡ u) h.0

-- the only entry of a list that defines an opaque type keeps its key
hidden-one : (T : List Tree) (w : Tree) (i : OpaqueId) (ids : List TermId) (f : FirstUse) (ts : List Tree) (x : InternedTerm) (made : List RuleEntry) → IsHiddenType i ids f x →
    AllZip (KeepsKey T) (entries.Expected x ∷ []) made → TermsAreFor (λ t. t ≡ w) made → map (tree_at T) ids ≡ ts → IsHiddenEntry w i ts f made
unfolding TermsAreFor
hidden-one T w i ids f ts x [] is h k e = absurd h
hidden-one T w i ids f ts x (y ∷ z ∷ zs) is h k e = absurd h.1
hidden-one T w i ids f ts (terms.HiddenType j v g r) (entry.HiddenType x key q ∷ []) is h k e = record {
  expected = x;
  key = key;
  is = ap (λ y. entry.HiddenType x key y ∷ []) (h.0.1 ∙ is.2);
  same_term = k.0;
  same_type = h.0.0 ∙ is.0;
  same_args = h.0.2 ∙ ap (map (tree_at T)) is.1 ∙ e;
}
hidden-one T w i ids f ts (terms.HiddenType j v g r) (y ∷ []) is h k e = absurd h.0
hidden-one T w i ids f ts x (y ∷ []) is h k e = absurd is

pub alias_rule-defines : (T : List Tree) (a : AliasTerm) (w : Tree) (f : FirstUse) (list : Vec InternedEntry Global) (es : List RuleEntry) → Defines T a f list.items →
    KeepsKeys T certainty.Yes (Some list) es → TermsAreFor (λ t. t ≡ w) es → DefinesHidden w a f es
alias_rule-defines T a w f list es (ids, same, (i, kind, (x, hidden, only))) (made, is, zip) all =
    let whole : es ≡ made = is ∙ append-nil made in (
      i,
      kind,
      subst (IsHiddenEntry w i (trees_of a.args.items) f) (sym whole)
          (hidden-one T w i ids f (trees_of a.args.items) x made hidden (subst (λ xs. AllZip (KeepsKey T) xs made) only zip) (subst (TermsAreFor (λ t. t ≡ w)) whole all) same),
    )
