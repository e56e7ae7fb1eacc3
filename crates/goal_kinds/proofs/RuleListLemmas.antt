-- Lists of entries with clauses behind them, and lists that nothing decides.
use Rattle.std.proofs.Common.{◌≡◌, ◌↔◌, ◌⊎◌, ℕ, Bool, true, false, List, [], ◌∷◌, ◌++◌, Err, inl, inr, refl, sym, ◌∙◌, ap, subst, ⊎_elim}
use Rattle.goal_terms.specs.PredicateTrees.{tree_of_kind}
use Rattle.goal_terms.specs.Tree.{Tree}
use Rattle.goal_terms.specs.declared.answers.Certainty.TheVariants as certainty
use Rattle.goal_terms.specs.declared.answers.GoalSource.{GoalSource}
use Rattle.goal_terms.specs.declared.predicates.ClauseKind.{ClauseKind}
use Rattle.goal_lists.specs.Answers.{erased_predicate}
use Rattle.goal_kinds.specs.CandidateRules.{RuleSays, GivesAs, RefutedAs, entries_for, AllHold, OneRefuted, only_given, IsNamedAnswer}
use Rattle.goal_lists.specs.Level.{Level}
use Rattle.goal_lists.specs.Levels.{level}
use Rattle.goal_lists.specs.Premises.{ClauseHolds, ClauseRefuted}
use Rattle.goal_kinds.specs.Rules.{NamesKnown, EntriesHold, EntriesRefuted, has_term, RuleHolds, RuleGives, RuleRefuted}
use Rattle.goal_lists.specs.RowWords.{given}
use Rattle.goal_lists.specs.Settings.{Setting}
use Rattle.goal_lists.specs.Words.{Each, Exists}
use Rattle.goal_kinds.specs.declared.faults.Fault.TheVariants as fault
use Rattle.goal_kinds.specs.declared.rules.Rule.{Rule}
use Rattle.goal_kinds.specs.declared.rules.RuleArguments.TheVariants as arguments
use Rattle.goal_kinds.specs.declared.rules.RuleEntry.{RuleEntry}
use Rattle.goal_kinds.specs.declared.rules.RuleEntry.TheVariants as entry

-- clauses that are asked for, by a level
abbrev All : Level → List (GoalSource × ClauseKind) → Type 0
All L ks = Each (λ k. ClauseHolds L (erased_predicate (tree_of_kind k.1))) ks

abbrev Some-refuted : Level → List (GoalSource × ClauseKind) → Type 0
Some-refuted L ks = Exists (λ k. ClauseRefuted L (erased_predicate (tree_of_kind k.1))) ks

-- clauses alone
clauses-hold : (S : Setting) (L : Level) (Said : Tree → Type 0) (named : List (List Tree)) (ks : List (GoalSource × ClauseKind)) →
    EntriesHold S L Said named (entries_for ks) ↔ All L ks
unfolding EntriesHold Each
clauses-hold S L Said named [] = (λ h. h, λ h. h)
clauses-hold S L Said named (k ∷ ks) =
    let rest = clauses-hold S L Said named ks in
    (λ h. (h.0, rest.0 h.1), λ h. (h.0, rest.1 h.1))

clauses-refuted : (S : Setting) (L : Level) (named : List (List Tree)) (ks : List (GoalSource × ClauseKind)) →
    EntriesRefuted S L named (entries_for ks) ↔ Some-refuted L ks
unfolding EntriesRefuted Exists
clauses-refuted S L named [] = (λ h. h, λ h. h)
clauses-refuted S L named (k ∷ ks) =
    let rest = clauses-refuted S L named ks in
    (λ h. ⊎_elim (λ x. inl x) (λ x. inr (rest.0 x)) h, λ h. ⊎_elim (λ x. inl x) (λ x. inr (rest.1 x)) h)

-- a list with clauses behind it holds where both do
hold-behind : (S : Setting) (L : Level) (Said : Tree → Type 0) (named : List (List Tree)) (es : List RuleEntry) (ks : List (GoalSource × ClauseKind)) →
    EntriesHold S L Said named (es ++ entries_for ks) ↔ (EntriesHold S L Said named es × All L ks)
unfolding EntriesHold
hold-behind S L Said named [] ks = (λ h. (tt, (clauses-hold S L Said named ks).0 h), λ h. (clauses-hold S L Said named ks).1 h.1)
hold-behind S L Said named (entry.Arguments a ∷ es) ks = (
  λ h. let x = (hold-behind S L Said (named ++ h.0 ∷ []) es ks).0 h.2 in ((h.0, h.1, x.0), x.1),
  λ h. (h.0.0, h.0.1, (hold-behind S L Said (named ++ h.0.0 ∷ []) es ks).1 (h.0.2, h.1)),
)
hold-behind S L Said named (entry.Equation ts us ∷ es) ks =
    let rest = hold-behind S L Said named es ks in
    (λ h. let x = rest.0 h.1 in ((h.0, x.0), x.1), λ h. (h.0.0, rest.1 (h.0.1, h.1)))
hold-behind S L Said named (entry.Clause g k ∷ es) ks =
    let rest = hold-behind S L Said named es ks in
    (λ h. let x = rest.0 h.1 in ((h.0, x.0), x.1), λ h. (h.0.0, rest.1 (h.0.1, h.1)))
hold-behind S L Said named (entry.RowClauses c n ∷ es) ks =
    let rest = hold-behind S L Said named es ks in
    (λ h. let x = rest.0 h.1 in ((h.0, x.0), x.1), λ h. (h.0.0, rest.1 (h.0.1, h.1)))
hold-behind S L Said named (entry.RowConditions b i n ∷ es) ks =
    let rest = hold-behind S L Said named es ks in
    (λ h. let x = rest.0 h.1 in ((h.0, x.0), x.1), λ h. (h.0.0, rest.1 (h.0.1, h.1)))
hold-behind S L Said named (entry.Term v e ∷ es) ks =
    let rest = hold-behind S L Said named es ks in
    (λ h. let x = rest.0 h.1 in ((h.0, x.0), x.1), λ h. (h.0.0, rest.1 (h.0.1, h.1)))
hold-behind S L Said named (entry.Access a ∷ es) ks = hold-behind S L Said named es ks
hold-behind S L Said named (entry.DelayedFault f ∷ es) ks = hold-behind S L Said named es ks
hold-behind S L Said named (entry.Evaluation ∷ es) ks = hold-behind S L Said named es ks
hold-behind S L Said named (entry.HiddenType v key first ∷ es) ks =
    let rest = hold-behind S L Said named es ks in
    (λ h. let x = rest.0 h.1 in ((h.0, x.0), x.1), λ h. (h.0.0, rest.1 (h.0.1, h.1)))
hold-behind S L Said named (entry.Ambiguous ∷ es) ks = (λ h. absurd h, λ h. absurd h.0)
hold-behind S L Said named (entry.Undecided ∷ es) ks = (λ h. absurd h, λ h. absurd h.0)
hold-behind S L Said named (entry.Refused ∷ es) ks = (λ h. absurd h, λ h. absurd h.0)

-- one of two, the first of which is one of two
regroup : {A B C D : Type 0} → D ↔ (B ⊎ C) → (A ⊎ D) ↔ ((A ⊎ B) ⊎ C)
regroup e = (
  λ h. ⊎_elim (λ a. inl (inl a)) (λ d. ⊎_elim (λ b. inl (inr b)) (λ c. inr c) (e.0 d)) h,
  λ h. ⊎_elim (λ x. ⊎_elim (λ a. inl a) (λ b. inr (e.1 (inl b))) x) (λ c. inr (e.1 (inr c))) h,
)

-- a list that names only given arguments, with clauses behind it, is refuted where one of both is
refuted-behind : (S : Setting) (L : Level) (named : List (List Tree)) (es : List RuleEntry) (ks : List (GoalSource × ClauseKind)) → only_given es ≡ true →
    EntriesRefuted S L named (es ++ entries_for ks) ↔ (EntriesRefuted S L named es ⊎ Some-refuted L ks)
unfolding EntriesRefuted only_given NamesKnown
refuted-behind S L named [] ks e = (λ h. inr ((clauses-refuted S L named ks).0 h), λ h. ⊎_elim (λ x. absurd x) (λ x. (clauses-refuted S L named ks).1 x) h)
refuted-behind S L named (entry.Arguments (arguments.Given args) ∷ es) ks e = (
  λ h. ⊎_elim (λ x. inl (inl x))
      (λ x. ⊎_elim (λ y. inl (inr (x.0, x.1, y))) (λ y. inr y) ((refuted-behind S L (named ++ x.0 ∷ []) es ks e).0 x.2)) h,
  λ h. ⊎_elim
      (λ x. ⊎_elim (λ y. inl y) (λ y. inr (y.0, y.1, (refuted-behind S L (named ++ y.0 ∷ []) es ks e).1 (inl y.2))) x)
      (λ x. inr (given args, refl, (refuted-behind S L (named ++ given args ∷ []) es ks e).1 (inr x))) h,
)
refuted-behind S L named (entry.Arguments (arguments.Header i args) ∷ es) ks e = absurd (cc)
refuted-behind S L named (entry.Arguments (arguments.OtherImpl i j n) ∷ es) ks e = absurd (cc)
refuted-behind S L named (entry.Arguments (arguments.Followed n args) ∷ es) ks e = absurd (cc)
refuted-behind S L named (entry.Equation ts us ∷ es) ks e = regroup (refuted-behind S L named es ks e)
refuted-behind S L named (entry.Clause g k ∷ es) ks e = regroup (refuted-behind S L named es ks e)
refuted-behind S L named (entry.RowClauses c n ∷ es) ks e = regroup (refuted-behind S L named es ks e)
refuted-behind S L named (entry.RowConditions b i n ∷ es) ks e = regroup (refuted-behind S L named es ks e)
refuted-behind S L named (entry.Term v x ∷ es) ks e = regroup (refuted-behind S L named es ks e)
refuted-behind S L named (entry.Access a ∷ es) ks e = refuted-behind S L named es ks e
refuted-behind S L named (entry.DelayedFault f ∷ es) ks e = refuted-behind S L named es ks e
refuted-behind S L named (entry.Evaluation ∷ es) ks e = refuted-behind S L named es ks e
refuted-behind S L named (entry.HiddenType v key first ∷ es) ks e = regroup (refuted-behind S L named es ks e)
refuted-behind S L named (entry.Ambiguous ∷ es) ks e = refuted-behind S L named es ks e
refuted-behind S L named (entry.Undecided ∷ es) ks e = refuted-behind S L named es ks e
refuted-behind S L named (entry.Refused ∷ es) ks e = (λ h. inl h, λ h. tt)

-- clauses behind a list give no term
clauses-no_term : (ks : List (GoalSource × ClauseKind)) → has_term (entries_for ks) ≡ false
unfolding has_term
clauses-no_term [] = refl
clauses-no_term (k ∷ ks) = clauses-no_term ks

term-behind : (es : List RuleEntry) (ks : List (GoalSource × ClauseKind)) → has_term (es ++ entries_for ks) ≡ has_term es
unfolding has_term
term-behind [] ks = clauses-no_term ks
term-behind (entry.Arguments a ∷ es) ks = term-behind es ks
term-behind (entry.Equation ts us ∷ es) ks = term-behind es ks
term-behind (entry.Clause g k ∷ es) ks = term-behind es ks
term-behind (entry.RowClauses c n ∷ es) ks = term-behind es ks
term-behind (entry.RowConditions b i n ∷ es) ks = term-behind es ks
term-behind (entry.Term v e ∷ es) ks = refl
term-behind (entry.Access a ∷ es) ks = term-behind es ks
term-behind (entry.DelayedFault f ∷ es) ks = term-behind es ks
term-behind (entry.Evaluation ∷ es) ks = term-behind es ks
term-behind (entry.HiddenType v key first ∷ es) ks = refl
term-behind (entry.Ambiguous ∷ es) ks = term-behind es ks
term-behind (entry.Undecided ∷ es) ks = term-behind es ks
term-behind (entry.Refused ∷ es) ks = term-behind es ks

-- a rule with clauses behind it says what it said where they hold
says-behind : (b : Bool) (S : Setting) (n : ℕ) (r q : Rule) (t : Tree) (ks : List (GoalSource × ClauseKind)) → q.entries.items ≡ r.entries.items ++ entries_for ks →
    RuleSays b S n q t ↔ (RuleSays b S n r t × AllHold S n ks)
unfolding RuleHolds RuleGives
says-behind true S n r q t ks e =
    let x = hold-behind S (level S n) (λ u. u ≡ t) [] r.entries.items ks in (
      λ h. let y = x.0 (subst (λ es. EntriesHold S (level S n) (λ u. u ≡ t) [] es) e h.0) in
          ((y.0, sym (term-behind r.entries.items ks) ∙ ap has_term (sym e) ∙ h.1), y.1),
      λ h. (subst (λ es. EntriesHold S (level S n) (λ u. u ≡ t) [] es) (sym e) (x.1 (h.0.0, h.1)), ap has_term e ∙ term-behind r.entries.items ks ∙ h.0.1),
    )
says-behind false S n r q t ks e =
    let x = hold-behind S (level S n) (λ u. Unit {0}) [] r.entries.items ks in
    (λ h. x.0 (subst (λ es. EntriesHold S (level S n) (λ u. Unit {0}) [] es) e h), λ h. subst (λ es. EntriesHold S (level S n) (λ u. Unit {0}) [] es) (sym e) (x.1 h))

pub gives-behind : (b : Bool) (S : Setting) (Gives : ℕ → Tree → Type 0) (r q : Rule) (ks : List (GoalSource × ClauseKind)) →
    q.entries.items ≡ r.entries.items ++ entries_for ks → GivesAs b S certainty.Yes Gives r → GivesAs b S certainty.Yes (λ n t. Gives n t × AllHold S n ks) q
gives-behind b S Gives r q ks e g = λ n t.
    let x = says-behind b S n r q t ks e in
    let y = g n t in
    (λ h. let z = x.0 h in let w = y.0 z.0 in (w.0, (w.1, z.1)), λ h. x.1 (y.1 (h.0, h.1.0), h.1.1))

pub refuted_as-behind : (S : Setting) (Refuted : ℕ → Type 0) (r q : Rule) (ks : List (GoalSource × ClauseKind)) →
    q.entries.items ≡ r.entries.items ++ entries_for ks → only_given r.entries.items ≡ true → RefutedAs S Refuted r →
    RefutedAs S (λ n. Refuted n ⊎ OneRefuted S n ks) q
unfolding RuleRefuted
refuted_as-behind S Refuted r q ks e o g = λ n.
    let x = refuted-behind S (level S n) [] r.entries.items ks o in
    let y = g n in (
      λ h. ⊎_elim (λ z. inl (y.0 z)) (λ z. inr z) (x.0 (subst (λ es. EntriesRefuted S (level S n) [] es) e h)),
      λ h. subst (λ es. EntriesRefuted S (level S n) [] es) (sym e) (x.1 (⊎_elim (λ z. inl (y.1 z)) (λ z. inr z) h)),
    )

-- a rule that isn't for a goal
pub other-named : (b : Bool) (S : Setting) (Gives : ℕ → Tree → Type 0) (Refuted : ℕ → Type 0) → IsNamedAnswer false b S Gives Refuted (Err fault.NotForThisKind)
other-named b S Gives Refuted = record { gives = tt; refuted = tt; not_for = λ e. refl; fault = λ e. absurd (cc) }
