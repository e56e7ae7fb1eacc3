-- Rules whose entries are those of a list say what the list does.
use Rattle.std.proofs.Common.{◌≡◌, ◌⊎◌, ◌↔◌, ℕ, Bool, true, false, List, [], ◌∷◌, ◌++◌, map, Option, Some, None, Result, Ok, Err, IfOk, IfErr, inl, inr, refl, sym, ◌∙◌, ap, ap₂, subst, ⊎_elim, append-nil}
use Rattle.std.specs.Option.{option_map}
use Rattle.std.proofs.lemmas.List.{map-append}
use Rattle.goal_terms.specs.Tree.{Tree}
use Rattle.goal_terms.specs.declared.answers.Certainty.{Certainty}
use Rattle.goal_terms.specs.declared.answers.Certainty.TheVariants as certainty
use Rattle.goal_terms.specs.TreeOf.{trees_of, tree_of_ty}
use Rattle.goal_terms.specs.declared.answers.ParamKind.{ParamKind}
use Rattle.goal_tables.specs.Rows.{impl_of, inherent_impl_of}
use Rattle.goal_tables.specs.declared.rows.ImplRow.{ImplRow}
use Rattle.goal_tables.specs.declared.rows.Tables.{Tables}
use Rattle.goal_kinds.specs.CandidateRules.{after, only_given, RuleSays, GivesAs, RefutedAs, IsRefusal, IsNamedAnswer}
use Rattle.goal_lists.specs.Entries.{of_header, of_other_header, followed_by, Entry, arguments, equal_terms, clause, row_clauses, row_conditions, expected, access, delayed_fault, evaluation, ambiguous, undecided, refused, EntriesHold, EntriesRefuted, ListHolds, ListGives, ListRefuted}
use Rattle.goal_lists.specs.Level.{Level}
use Rattle.goal_lists.specs.Levels.{level}
use Rattle.goal_kinds.specs.RuleLists.{entry_of, list_of_rule, entries_then, list_then, IsListed}
use Rattle.goal_lists.specs.RowWords.{header_arguments, other_arguments, given}
use Rattle.goal_kinds.specs.Rules.{RuleRefuted}
use Rattle.goal_lists.specs.Settings.{Setting}
use Rattle.goal_kinds.specs.declared.faults.Fault.{Fault}
use Rattle.goal_kinds.specs.declared.faults.Fault.TheVariants as fault
use Rattle.goal_kinds.specs.declared.rules.Rule.{Rule}
use Rattle.goal_kinds.specs.declared.rules.RuleArguments.TheVariants as names
use Rattle.goal_kinds.specs.declared.rules.RuleEntry.{RuleEntry}
use Rattle.goal_kinds.specs.declared.rules.RuleEntry.TheVariants as entry
use Rattle.goal_lists.specs.declared.lists.RuleHeader.{RuleHeader}
use Rattle.goal_lists.specs.declared.lists.RuleHeader.TheVariants as header
use Rattle.goal_lists.proofs.EntryLemmas.{iff-chain, iff-back, iff-both, iff-same}
use Rattle.goal_kinds.proofs.RebuiltLemmas.{entries-named}
use Rattle.goal_kinds.proofs.RulesAsLists.{rule_list-holds, rule_list-gives, rule_list-refuted}

-- a list says a term: it gives it; or, for goals that ask for none, it holds
abbrev pub ListSays : Bool → Level → Option (List Entry) → Tree → Type 0
ListSays true L o t = ListGives L o t
ListSays false L o t = ListHolds L o

-- entries that say the same of a level, more or less
module _ (L : Level) where
  -- entries do not hold with one that decides nothing behind them
  undecided-holds : (Said : Tree → Type 0) (Unsaid : Type 0) (named : List (List Tree)) (es : List Entry) → EntriesHold L Said Unsaid named (es ++ undecided ∷ []) → ⊥
  unfolding EntriesHold
  undecided-holds Said Unsaid named [] h = h
  undecided-holds Said Unsaid named (arguments a ∷ es) h = undecided-holds Said Unsaid (named ++ h.0 ∷ []) es h.2
  undecided-holds Said Unsaid named (equal_terms ts us ∷ es) h = undecided-holds Said Unsaid named es h.1
  undecided-holds Said Unsaid named (clause g p ∷ es) h = undecided-holds Said Unsaid named es h.1
  undecided-holds Said Unsaid named (row_clauses cs n ∷ es) h = undecided-holds Said Unsaid named es h.1
  undecided-holds Said Unsaid named (row_conditions c rs n ∷ es) h = undecided-holds Said Unsaid named es h.1
  undecided-holds Said Unsaid named (expected e ∷ es) h = undecided-holds Said (Unit {0}) named es h.1
  undecided-holds Said Unsaid named (access a ∷ es) h = undecided-holds Said Unsaid named es h
  undecided-holds Said Unsaid named (delayed_fault f ∷ es) h = undecided-holds Said Unsaid named es h
  undecided-holds Said Unsaid named (evaluation ∷ es) h = undecided-holds Said Unsaid named es h
  undecided-holds Said Unsaid named (ambiguous ∷ es) h = h
  undecided-holds Said Unsaid named (undecided ∷ es) h = h
  undecided-holds Said Unsaid named (refused ∷ es) h = h

  -- they are refuted all the same
  rest-refuted : {A B C : Type 0} → B ↔ C → (A ⊎ B) ↔ (A ⊎ C)
  rest-refuted f = (λ h. ⊎_elim (λ x. inl x) (λ x. inr (f.0 x)) h, λ h. ⊎_elim (λ x. inl x) (λ x. inr (f.1 x)) h)

  undecided-refuted : (named : List (List Tree)) (es : List Entry) → EntriesRefuted L named (es ++ undecided ∷ []) ↔ EntriesRefuted L named es
  unfolding EntriesRefuted
  undecided-refuted named [] = iff-same
  undecided-refuted named (arguments a ∷ es) =
      rest-refuted
      (λ h. (h.0, h.1, (undecided-refuted (named ++ h.0 ∷ []) es).0 h.2), λ h. (h.0, h.1, (undecided-refuted (named ++ h.0 ∷ []) es).1 h.2))
  undecided-refuted named (equal_terms ts us ∷ es) = rest-refuted (undecided-refuted named es)
  undecided-refuted named (clause g p ∷ es) = rest-refuted (undecided-refuted named es)
  undecided-refuted named (row_clauses cs n ∷ es) = rest-refuted (undecided-refuted named es)
  undecided-refuted named (row_conditions c rs n ∷ es) = rest-refuted (undecided-refuted named es)
  undecided-refuted named (expected e ∷ es) = rest-refuted (undecided-refuted named es)
  undecided-refuted named (access a ∷ es) = undecided-refuted named es
  undecided-refuted named (delayed_fault f ∷ es) = undecided-refuted named es
  undecided-refuted named (evaluation ∷ es) = undecided-refuted named es
  undecided-refuted named (ambiguous ∷ es) = undecided-refuted named es
  undecided-refuted named (undecided ∷ es) = undecided-refuted named es
  undecided-refuted named (refused ∷ es) = iff-same

  -- a list with what stands behind it by a certainty
  pub list_then-holds : (c : Certainty) (o : Option (List Entry)) → ListHolds L (list_then c o) ↔ ((c ≡ certainty.Yes) × ListHolds L o)
  unfolding ListHolds
  list_then-holds certainty.Yes None = (λ h. absurd h, λ h. h.1)
  list_then-holds certainty.Yes (Some es) =
      subst (λ xs. EntriesHold L (λ u. Unit {0}) (Unit {0}) [] xs ↔ ((certainty.Yes ≡ certainty.Yes) × EntriesHold L (λ u. Unit {0}) (Unit {0}) [] es)) (sym (append-nil es))
      (λ h. (refl, h), λ h. h.1)
  list_then-holds certainty.Maybe None = (λ h. absurd h, λ h. h.1)
  list_then-holds certainty.Maybe (Some es) =
      (λ h. absurd (undecided-holds (λ u. Unit {0}) (Unit {0}) [] es h), λ h. let e : certainty.Maybe ≡ certainty.Yes = h.0 in absurd (cc))

  list_then-gives : (c : Certainty) (o : Option (List Entry)) (t : Tree) → ListGives L (list_then c o) t ↔ ((c ≡ certainty.Yes) × ListGives L o t)
  unfolding ListGives
  list_then-gives certainty.Yes None t = (λ h. absurd h, λ h. h.1)
  list_then-gives certainty.Yes (Some es) t =
      subst (λ xs. EntriesHold L (λ u. u ≡ t) ⊥ [] xs ↔ ((certainty.Yes ≡ certainty.Yes) × EntriesHold L (λ u. u ≡ t) ⊥ [] es)) (sym (append-nil es))
      (λ h. (refl, h), λ h. h.1)
  list_then-gives certainty.Maybe None t = (λ h. absurd h, λ h. h.1)
  list_then-gives certainty.Maybe (Some es) t =
      (λ h. absurd (undecided-holds (λ u. u ≡ t) ⊥ [] es h), λ h. let e : certainty.Maybe ≡ certainty.Yes = h.0 in absurd (cc))

  list_then-says : (b : Bool) (c : Certainty) (o : Option (List Entry)) (t : Tree) → ListSays b L (list_then c o) t ↔ ((c ≡ certainty.Yes) × ListSays b L o t)
  list_then-says true c o t = list_then-gives c o t
  list_then-says false c o t = list_then-holds c o

  pub list_then-refuted : (c : Certainty) (o : Option (List Entry)) → ListRefuted L (list_then c o) ↔ ListRefuted L o
  unfolding ListRefuted
  list_then-refuted certainty.Yes None = iff-same
  list_then-refuted certainty.Yes (Some es) = subst (λ xs. EntriesRefuted L [] xs ↔ EntriesRefuted L [] es) (sym (append-nil es)) iff-same
  list_then-refuted certainty.Maybe None = iff-same
  list_then-refuted certainty.Maybe (Some es) = undecided-refuted [] es

-- a rule that is listed stands for the list
pub listed-list : (t : Tables) (r : Rule) (o : Option (List Entry)) → IsListed t r o → list_of_rule t r ≡ o
listed-list t r None h = absurd h
listed-list t r (Some es) h = ap Some (entries-named t r.entries.items es h)

-- entries, and what stands behind them by a certainty
then-same : (t : Tables) (c : Certainty) → map (entry_of t) (after c) ≡ map Some (entries_then c)
then-same t certainty.Yes = refl
then-same t certainty.Maybe = refl

pub listed-then : (t : Tables) (made all : List RuleEntry) (es : List Entry) (c : Certainty) → map (entry_of t) made ≡ map Some es → all ≡ made ++ after c →
    map (entry_of t) all ≡ map Some (es ++ entries_then c)
listed-then t made all es c h is =
    ap (map (entry_of t)) is ∙ map-append (entry_of t) made (after c) ∙ ap₂ (λ xs ys. xs ++ ys) h (then-same t c) ∙ sym (map-append Some es (entries_then c))

-- a rule says what its list does
rule_list-says : (b : Bool) (S : Setting) (n : ℕ) (r : Rule) (t : Tree) → ListSays b (level S n) (list_of_rule S.tables r) t ↔ RuleSays b S n r t
rule_list-says true S n r t = rule_list-gives S (level S n) r t
rule_list-says false S n r t = rule_list-holds S (level S n) r

-- a rule that is listed says what the list does
module _ (S : Setting) (c : Certainty) (o : Option (List Entry)) where
  rule-says : (b : Bool) (r : Rule) (n : ℕ) (t : Tree) → IsListed S.tables r (list_then c o) → RuleSays b S n r t ↔ ((c ≡ certainty.Yes) × ListSays b (level S n) o t)
  rule-says b r n t h =
      iff-chain (iff-back (rule_list-says b S n r t))
      (subst (λ l. ListSays b (level S n) l t ↔ ((c ≡ certainty.Yes) × ListSays b (level S n) o t)) (sym (listed-list S.tables r (list_then c o) h)) (list_then-says (level S n) b c o t))

  rule-refuted : (r : Rule) (n : ℕ) → IsListed S.tables r (list_then c o) → RuleRefuted S (level S n) r ↔ ListRefuted (level S n) o
  rule-refuted r n h =
      iff-chain (iff-back (rule_list-refuted S (level S n) r))
      (subst (λ l. ListRefuted (level S n) l ↔ ListRefuted (level S n) o) (sym (listed-list S.tables r (list_then c o) h)) (list_then-refuted (level S n) c o))

  pub listed-gives : (b : Bool) (Claim : ℕ → Tree → Type 0) (r : Result Rule Fault) → IfOk r (λ x. IsListed S.tables x (list_then c o)) →
      ((n : ℕ) (t : Tree) → ListSays b (level S n) o t ↔ Claim n t) → IfOk r (GivesAs b S c Claim)
  listed-gives b Claim (Ok x) h f = λ n t. iff-chain (rule-says b x n t h) (iff-both iff-same (f n t))
  listed-gives b Claim (Err e) h f = tt

  pub listed-refuted : (Claim : ℕ → Type 0) (r : Result Rule Fault) → IfOk r (λ x. IsListed S.tables x (list_then c o)) →
      ((n : ℕ) → ListRefuted (level S n) o ↔ Claim n) → IfOk r (RefutedAs S Claim)
  listed-refuted Claim (Ok x) h f = λ n. iff-chain (rule-refuted x n h) (f n)
  listed-refuted Claim (Err e) h f = tt

-- a list that is refused is refuted
pub none-refuted : (L : Level) (o : Option (List Entry)) (A : Type 0) → ListRefuted L o ↔ A → o ≡ None → A
unfolding ListRefuted
none-refuted L o A f e = f.0 (subst (ListRefuted L) (sym e) tt)

pub refusal-says : (A B : Type 0) (r : Result Rule Fault) → (A → B) → IfErr r (IsRefusal A) → IfErr r (IsRefusal B)
refusal-says A B (Ok x) f h = tt
refusal-says A B (Err fault.NoSolution) f h = f h
refusal-says A B (Err fault.OutOfMemory) f h = tt
refusal-says A B (Err fault.RerunNonErased) f h = h
refusal-says A B (Err fault.NotForThisKind) f h = h

-- the rule of a list that isn't refused is only refused by want of memory
pub some-accepted : (es : List Entry) (o : Option (List Entry)) (r : Result Rule Fault) → o ≡ Some es → IfErr r (IsRefusal (o ≡ None)) → IfErr r (λ f. f ≡ fault.OutOfMemory)
some-accepted es o (Ok x) e h = tt
some-accepted es o (Err fault.NoSolution) e h = absurd (cc)
some-accepted es o (Err fault.OutOfMemory) e h = refl
some-accepted es o (Err fault.RerunNonErased) e h = absurd h
some-accepted es o (Err fault.NotForThisKind) e h = absurd h

-- the answer of a function of the trait alias, or of a built-in rule
pub named-answer : (is_for b : Bool) (S : Setting) (o : Option (List Entry)) (Gives : ℕ → Tree → Type 0) (Refuted : ℕ → Type 0) (r : Result Rule Fault) →
    (is_for ≡ false → r ≡ Err fault.NotForThisKind) → IfOk r (λ x. IsListed S.tables x o) → (is_for ≡ true → IfErr r (IsRefusal (o ≡ None))) →
    ((n : ℕ) (t : Tree) → ListSays b (level S n) o t ↔ Gives n t) → ((n : ℕ) → ListRefuted (level S n) o ↔ Refuted n) → IsNamedAnswer is_for b S Gives Refuted r
named-answer is_for b S o Gives Refuted (Ok x) other listed declined f g = record {
  gives = λ n t h. (f n t).0 (subst (λ l. ListSays b (level S n) l t) (listed-list S.tables x o listed) ((rule_list-says b S n x t).1 h));
  refuted = λ n h. (g n).0 (subst (ListRefuted (level S n)) (listed-list S.tables x o listed) ((rule_list-refuted S (level S n) x).1 h));
  not_for = other;
  fault = λ e. tt;
}
named-answer is_for b S o Gives Refuted (Err e) other listed declined f g = record {
  gives = tt;
  refuted = tt;
  not_for = other;
  fault = λ e. refusal-says (o ≡ None) (Refuted 0) (Err _) (none-refuted (level S 0) o (Refuted 0) (g 0)) (declined e);
}

-- a list names only given arguments
abbrev pub IsGiven : Entry → Type 0
IsGiven (arguments (of_header ps hs gs)) = ⊥
IsGiven (arguments (of_other_header ps hs gs n)) = ⊥
IsGiven (arguments (followed_by n own)) = ⊥
IsGiven _ = Unit {0}

unfoldable pub AreGiven : List Entry → Type 0
AreGiven [] = Unit {0}
AreGiven (e ∷ es) = IsGiven e × AreGiven es

-- matched headers are not given arguments
one-header : {A : Type 0} (o : Option A) (p : A → List ParamKind) (q : A → List Tree) (gs : List Tree) (e : Entry) →
    option_map arguments (option_map (λ r. of_header (p r) (q r) gs) o) ≡ Some e → IsGiven e → ⊥
one-header None p q gs e is h = absurd (cc)
one-header (Some r) p q gs e is h = let same : e ≡ arguments (of_header (p r) (q r) gs) = cc in subst IsGiven same h

row-header : (t : Tables) (i : RuleHeader) (gs : List Tree) (e : Entry) → option_map arguments (header_arguments t i gs) ≡ Some e → IsGiven e → ⊥
row-header t (header.Impl i) gs e is h = one-header (impl_of t i) (λ r. r.params.items) (λ r. trees_of r.trait_args.items) gs e is h
row-header t (header.InherentImpl i) gs e is h = one-header (inherent_impl_of t i) (λ q. q.params.items) (λ q. tree_of_ty q.self_ty ∷ []) gs e is h

other-header : (q r : Option ImplRow) (n : ℕ) (e : Entry) → option_map arguments (other_arguments q r n) ≡ Some e → IsGiven e → ⊥
other-header None r n e is h = absurd (cc)
other-header (Some x) None n e is h = absurd (cc)
other-header (Some x) (Some y) n e is h =
    let same : e ≡ arguments (of_other_header x.params.items (trees_of x.trait_args.items) (trees_of y.trait_args.items) n) = cc in subst IsGiven same h

followed-header : (n : ℕ) (own : List Tree) (e : Entry) → Some (arguments (followed_by n own)) ≡ Some e → IsGiven e → ⊥
followed-header n own e is h = let same : e ≡ arguments (followed_by n own) = cc in subst IsGiven same h

-- the first of two lists, and the rest
first-here : (t : Tables) (r : RuleEntry) (rs : List RuleEntry) (x : Entry) (es : List Entry) → map (entry_of t) (r ∷ rs) ≡ map Some (x ∷ es) → entry_of t r ≡ Some x
first-here t r rs x es e = cc

rest-here : (t : Tables) (r : RuleEntry) (rs : List RuleEntry) (x : Entry) (es : List Entry) → map (entry_of t) (r ∷ rs) ≡ map Some (x ∷ es) →
    map (entry_of t) rs ≡ map Some es
rest-here t r rs x es e = cc

pub listed-given : (t : Tables) (rs : List RuleEntry) (es : List Entry) → map (entry_of t) rs ≡ map Some es → AreGiven es → only_given rs ≡ true
unfolding only_given AreGiven
listed-given t [] es e h = refl
listed-given t (r ∷ rs) [] e h = absurd (cc)
listed-given t (entry.Arguments (names.Given args) ∷ rs) (x ∷ es) e h = listed-given t rs es (rest-here t (entry.Arguments (names.Given args)) rs x es e) h.1
listed-given t (entry.Arguments (names.Header i args) ∷ rs) (x ∷ es) e h = absurd (row-header t i (given args) x (first-here t (entry.Arguments (names.Header i args)) rs x es e) h.0)
listed-given t (entry.Arguments (names.OtherImpl i j n) ∷ rs) (x ∷ es) e h = absurd (other-header (impl_of t i) (impl_of t j) n x (first-here t (entry.Arguments (names.OtherImpl i j n)) rs x es e) h.0)
listed-given t (entry.Arguments (names.Followed n own) ∷ rs) (x ∷ es) e h = absurd (followed-header n (given own) x (first-here t (entry.Arguments (names.Followed n own)) rs x es e) h.0)
listed-given t (entry.Equation ts us ∷ rs) (x ∷ es) e h = listed-given t rs es (rest-here t (entry.Equation ts us) rs x es e) h.1
listed-given t (entry.Clause g k ∷ rs) (x ∷ es) e h = listed-given t rs es (rest-here t (entry.Clause g k) rs x es e) h.1
listed-given t (entry.RowClauses c n ∷ rs) (x ∷ es) e h = listed-given t rs es (rest-here t (entry.RowClauses c n) rs x es e) h.1
listed-given t (entry.RowConditions b i n ∷ rs) (x ∷ es) e h = listed-given t rs es (rest-here t (entry.RowConditions b i n) rs x es e) h.1
listed-given t (entry.Term v u ∷ rs) (x ∷ es) e h = listed-given t rs es (rest-here t (entry.Term v u) rs x es e) h.1
listed-given t (entry.Access a ∷ rs) (x ∷ es) e h = listed-given t rs es (rest-here t (entry.Access a) rs x es e) h.1
listed-given t (entry.DelayedFault f ∷ rs) (x ∷ es) e h = listed-given t rs es (rest-here t (entry.DelayedFault f) rs x es e) h.1
listed-given t (entry.Evaluation ∷ rs) (x ∷ es) e h = listed-given t rs es (rest-here t entry.Evaluation rs x es e) h.1
listed-given t (entry.HiddenType v key first ∷ rs) (x ∷ es) e h = listed-given t rs es (rest-here t (entry.HiddenType v key first) rs x es e) h.1
listed-given t (entry.Ambiguous ∷ rs) (x ∷ es) e h = listed-given t rs es (rest-here t entry.Ambiguous rs x es e) h.1
listed-given t (entry.Undecided ∷ rs) (x ∷ es) e h = listed-given t rs es (rest-here t entry.Undecided rs x es e) h.1
listed-given t (entry.Refused ∷ rs) (x ∷ es) e h = listed-given t rs es (rest-here t entry.Refused rs x es e) h.1
