-- A run through all entries of a rule, and the answer that it leads to.
use Rattle.std.proofs.Common.{◌≡◌, ◌<◌, ◌≤◌, ◌+◌, ℕ, Bool, true, false, List, [], ◌∷◌, length, get_or, drop, Some, None, Option, Result, Ok, Err, refl, sym, ap, ◌∙◌, subst}
use Rattle.std.proofs.lemmas.Bool.{false≢true}
use Rattle.std.proofs.lemmas.List.{drop_all}
use Rattle.goal_terms.specs.Sorts.{IsTerm, is_term_sort}
use Rattle.goal_interner.specs.TableMeaning.{tree_at}
use Rattle.goal_terms.specs.Tree.{Tree}
use Rattle.goal_terms.specs.declared.answers.Certainty.TheVariants as certainty
use Rattle.goal_terms.specs.declared.answers.Response.{Response}
use Rattle.goal_terms.specs.declared.modes.TypingMode.{TypingMode}
use Rattle.goal_terms.specs.declared.predicates.Clause.{Clause}
use Rattle.goal_interner.specs.declared.term_nodes.TermId.{TermId}
use Rattle.goal_tables.specs.declared.rows.Tables.{Tables}
use Rattle.goal_lists.specs.Answers.{setting_of}
use Rattle.goal_lists.specs.Entries.{ListGives, ListHoldsWith}
use Rattle.goal_lists.specs.Headers.{no_lifetime}
use Rattle.goal_lists.specs.Interned.{erased_at}
use Rattle.goal_lists.specs.Level.{Level}
use Rattle.goal_lists.specs.Levels.{level}
use Rattle.goal_kinds.specs.RuleLists.{names_arguments, entry_of, before, entries_of, list_of_rule}
use Rattle.goal_kinds.specs.Rules.{RuleHolds, RuleGives}
use Rattle.goal_lists.specs.Settings.{Setting}
use Rattle.goal_kinds.specs.declared.faults.Fault.{Fault}
use Rattle.goal_kinds.specs.declared.faults.Fault.TheVariants as fault
use Rattle.goal_kinds.specs.declared.rules.Rule.{Rule}
use Rattle.goal_kinds.specs.declared.rules.RuleEntry.{RuleEntry}
use Rattle.goal_lists.proofs.ListTerms.{asks_none-gives, asks_none-with, weaker}
use Rattle.goal_kinds.proofs.RuleLemmas.{entries_hold-said, one_given, gives-not_refuted, holds-not_refuted}
use Rattle.goal_kinds.proofs.RulesAsLists.{rule_list-holds, rule_list-gives, rule_list-refuted}
use Rattle.goal_solver.specs.Answers.{IsMaybe, level_over}
use Rattle.goal_solver.specs.GoingBack.{GoesBack, restored}
use Rattle.goal_eval.specs.Lists.{SaysList, named_at, taken_at, progress_at, IsRunning, Leads}
use Rattle.goal_eval.specs.Outcomes.{RunsAs}
use Rattle.goal_solver.specs.RunRules.{setting_over, asked_of, RuleRunsOn, ListsTerm, IsRuleResponse, IsRuleAnswer, IsRuleOpen}
use Rattle.goal_solver.specs.State.{State}
use Rattle.goal_eval.specs.declared.eval.lists.ListOutcome.{ListOutcome}
use Rattle.goal_eval.specs.declared.eval.lists.ListOutcome.TheVariants as list
use Rattle.goal_eval.specs.declared.eval.lists.progress.ListRun.{ListRun}
use Rattle.goal_eval.specs.declared.eval.lists.progress.Reached.{Reached}
use Rattle.goal_eval.specs.declared.eval.lists.progress.Reached.TheVariants as reached
use Rattle.goal_eval.specs.declared.eval.outcomes.OnAccess.{OnAccess}
use Rattle.goal_solver.proofs.FoundAnswers.{AnswersFound, is_term, sort-erased}
use Rattle.goal_eval.proofs.ListRunLemmas.{progress-same, start-running, end-says, refuted-says, unsettled-says}
use Rattle.goal_solver.proofs.RuleEntryLemmas.{left-at, no_term-asks_none, asked-has_term}

-- what is left of a rule's list says the same as all of it, in each mode for which a run stands
abbrev pub RunsSoFar : State → OnAccess → List Clause → List RuleEntry → List Tree → ListRun → ℕ → Type 0
RunsSoFar a on env es T r i =
    (m : TypingMode) → RunsAs on a.typing_mode m → IsRunning (level_over a m env) (progress_at T r) (entries_of a.tables (drop i es)) (entries_of a.tables es)

-- before the first entry
pub runs-start : (a : State) (on : OnAccess) (env : List Clause) (es : List RuleEntry) (T : List Tree) (r : ListRun) → r.named.items ≡ [] → r.holds ≡ true → r.term ≡ None → RunsSoFar a on env es T r 0
runs-start a on env es T r named holds term m s =
    subst (λ p. IsRunning (level_over a m env) p (entries_of a.tables es) (entries_of a.tables es))
    (sym (progress-same (named_at T r.named.items) [] r.holds true (taken_at T r.term) None (ap (named_at T) named) holds (ap (taken_at T) term)))
    (start-running (level_over a m env) (entries_of a.tables es))

-- where an entry leads from a context that goes back to the first
leads-back : (a c : State) (env : List Clause) (m : TypingMode) → GoesBack a c → (T V : List Tree) (r z : ListRun) (e : RuleEntry) (o : Reached) →
    RuleRunsOn c.tables (level_over c m env) T r e V z o → RuleRunsOn a.tables (level_over a m env) T r e V z o
leads-back a c env m g T V r z e o h =
    subst (λ n. RuleRunsOn a.tables (level (setting_over a m env) n) T r e V z o) g.remaining_depth
    (subst (λ t. RuleRunsOn t (level (setting_of t m env) c.remaining_depth) T r e V z o) g.tables h)

module _ (a c : State) (on : OnAccess) (env : List Clause) (es : List RuleEntry) (T V : List Tree) (r z : ListRun) (i : ℕ) (e : RuleEntry) (o : Reached) (back : GoesBack a c) (same : c.terms ≡ T)
    (below : i < length es) (at : e ≡ get_or es i e) (so_far : RunsSoFar a on env es T r i)
    (says : (m : TypingMode) → RunsAs on c.typing_mode m → RuleRunsOn c.tables (level_over c m env) c.terms r e V z o) where
  -- an entry, with what comes before and behind it
  lead-here : (m : TypingMode) → RunsAs on a.typing_mode m →
      Leads (level_over a m env) (progress_at T r) (before (names_arguments e) (entry_of a.tables e) (entries_of a.tables (drop (i + 1) es))) (entries_of a.tables (drop (i + 1) es))
      (entries_of a.tables es) (progress_at V z) o
      × IsRunning (level_over a m env) (progress_at T r) (before (names_arguments e) (entry_of a.tables e) (entries_of a.tables (drop (i + 1) es))) (entries_of a.tables es)
  lead-here m s = (
    subst (λ U. RuleRunsOn a.tables (level_over a m env) U r e V z o) same
        (leads-back a c env m back c.terms V r z e o (says m (subst (λ k. RunsAs on k m) (sym back.typing_mode) s)))
        (entries_of a.tables (drop (i + 1) es)) (entries_of a.tables es),
    subst (λ xs. IsRunning (level_over a m env) (progress_at T r) xs (entries_of a.tables es)) (left-at a.tables es i e below at) (so_far m s),
  )

  -- where it leads
  lead-on : (m : TypingMode) → RunsAs on a.typing_mode m → (q : Reached) → o ≡ q →
      Leads (level_over a m env) (progress_at T r) (before (names_arguments e) (entry_of a.tables e) (entries_of a.tables (drop (i + 1) es))) (entries_of a.tables (drop (i + 1) es))
      (entries_of a.tables es) (progress_at V z) q
  lead-on m s q is =
      subst (λ x. Leads (level_over a m env) (progress_at T r) (before (names_arguments e) (entry_of a.tables e) (entries_of a.tables (drop (i + 1) es))) (entries_of a.tables (drop (i + 1) es))
      (entries_of a.tables es) (progress_at V z) x) is (lead-here m s).0

  -- the next entry
  pub runs-next : o ≡ reached.Next → RunsSoFar a on env es V z (i + 1)
  runs-next is m s = lead-on m s reached.Next is (lead-here m s).1

  -- an entry that settles the list
  pub runs-refuted : o ≡ reached.Refuted → (m : TypingMode) → RunsAs on a.typing_mode m → (W : List Tree) →
      SaysList (level_over a m env) (Some (entries_of a.tables es)) W list.Refuted
  runs-refuted is m s W = refuted-says (level_over a m env) W (entries_of a.tables es) (lead-on m s reached.Refuted is (lead-here m s).1)

  pub runs-undecided : o ≡ reached.Undecided → (m : TypingMode) → RunsAs on a.typing_mode m → (W : List Tree) →
      SaysList (level_over a m env) (Some (entries_of a.tables es)) W list.Undecided
  runs-undecided is m s W = unsettled-says (level_over a m env) W (entries_of a.tables es) (lead-on m s reached.Undecided is (lead-here m s).1)

-- after the last entry
pub runs-end : (a : State) (on : OnAccess) (env : List Clause) (es : List RuleEntry) (T : List Tree) (r : ListRun) (i : ℕ) (o : ListOutcome) → length es ≤ i → RunsSoFar a on env es T r i →
    (r.holds ≡ true → o ≡ list.Holds r.term) → (r.holds ≡ false → o ≡ list.Undecided) →
    (m : TypingMode) → RunsAs on a.typing_mode m → SaysList (level_over a m env) (Some (entries_of a.tables es)) T o
unfolding entries_of
runs-end a on env es T r i o l so_far whole partly m s =
    end-says (level_over a m env) T r (entries_of a.tables es) o
    (subst (λ xs. IsRunning (level_over a m env) (progress_at T r) (entries_of a.tables xs) (entries_of a.tables es)) (drop_all i es l) (so_far m s)) whole partly

-- what a rule's list comes to is what the rule does
given-holds : (S : Setting) (L : Level) (r : Rule) (t : Tree) → RuleGives S L r t → RuleHolds S L r
unfolding RuleGives RuleHolds
given-holds S L r t g = entries_hold-said S L (λ u. u ≡ t) (λ u. Unit {0}) (λ u e. tt) [] r.entries.items g.0

pub list-holds : (S : Setting) (L : Level) (r : Rule) (T : List Tree) (o : Option TermId) → SaysList L (list_of_rule S.tables r) T (list.Holds o) → RuleHolds S L r
list-holds S L r T None says = (rule_list-holds S L r).0 says.0
list-holds S L r T (Some id) says = given-holds S L r (erased_at T id) ((rule_list-gives S L r (erased_at T id)).0 says)

gives-with : (L : Level) (S : Setting) (r : Rule) (t : Tree) → ListGives L (list_of_rule S.tables r) t → ListHoldsWith L (list_of_rule S.tables r) t
unfolding ListGives ListHoldsWith
gives-with L S r t h = weaker L (λ u. u ≡ t) (λ u. u ≡ t) ⊥ (Unit {0}) [] (entries_of S.tables r.entries.items) (λ u e. e) (λ x. tt) h

-- a yes without a term
pub held-sound : (S : Setting) (L : Level) (r : Rule) (x : Response) → RuleHolds S L r → asked_of r.entries.items ≡ [] → x.certainty ≡ certainty.Yes → x.var_values.items ≡ [] →
    IsRuleAnswer S L r (Ok x)
held-sound S L r x h asked certain values =
    subst (λ k. IsRuleResponse S L r k x) (sym certain) (h, subst (λ os. ListsTerm S L r os x) (sym asked) values)

-- a yes with a term
found-by : (S : Setting) (L : Level) (r : Rule) (T : List Tree) (id : TermId) (n : ℕ) → id.0 < length T → RuleGives S L r (erased_at T id) →
    asked_of r.entries.items ≡ Some n ∷ [] → (x : Result Response Fault) → AnswersFound T id n x → (b : Bool) → is_term (tree_at T id) ≡ b → IsRuleAnswer S L r x
unfolding is_term
found-by S L r T id n l h asked (Ok x) a true i =
    let answered = a.0 (l, i) in
    subst (λ k. IsRuleResponse S L r k x) (sym answered.0)
    (given-holds S L r (erased_at T id) h, subst (λ os. ListsTerm S L r os x) (sym asked) (erased_at T id, h, answered.1))
found-by S L r T id n l h asked (Ok x) a false i =
    subst (λ k. IsRuleResponse S L r k x) (sym (a.1 (λ w. false≢true (sym i ∙ w.1)))) tt
found-by S L r T id n l h asked (Err f) a b i = subst (λ g. IsRuleAnswer S L r (Err g)) (sym a.2) tt

pub rule-found-sound : (S : Setting) (L : Level) (r : Rule) (T : List Tree) (id : TermId) (n : ℕ) → id.0 < length T → SaysList L (list_of_rule S.tables r) T (list.Holds (Some id)) →
    asked_of r.entries.items ≡ Some n ∷ [] → (x : Result Response Fault) → AnswersFound T id n x → IsRuleAnswer S L r x
rule-found-sound S L r T id n l says asked x a =
    found-by S L r T id n l ((rule_list-gives S L r (erased_at T id)).0 says) asked x a (is_term (tree_at T id)) refl

not_maybe : certainty.Yes ≡ certainty.Maybe → ⊥
not_maybe e = absurd (cc)

-- it is undecided only where what is found is no type and no constant
left-by : (S : Setting) (k : ℕ) (r : Rule) (T : List Tree) (id : TermId) (n : ℕ) → id.0 < length T → RuleGives S (level S k) r (erased_at T id) →
    asked_of r.entries.items ≡ Some n ∷ [] → (x : Result Response Fault) → AnswersFound T id n x → IsMaybe x → (b : Bool) → is_term (tree_at T id) ≡ b → IsRuleOpen S (level S k) r
unfolding is_term
left-by S k r T id n l h asked (Ok x) a undecided true i = absurd (not_maybe (sym (a.0 (l, i)).0 ∙ undecided))
left-by S k r T id n l h asked (Ok x) a undecided false i = (
  (λ t term g.
      let same = one_given S k k r t (erased_at T id) g h in
      false≢true (sym i ∙ sym (ap is_term_sort (sort-erased (tree_at T id))) ∙ subst IsTerm same term)),
  (λ none held. false≢true (sym none ∙ asked-has_term r.entries.items n asked)),
  gives-not_refuted S k k r (erased_at T id) h,
)
left-by S k r T id n l h asked (Err f) a undecided b i = absurd undecided

pub rule-found-open : (S : Setting) (k : ℕ) (r : Rule) (T : List Tree) (id : TermId) (n : ℕ) → id.0 < length T →
    SaysList (level S k) (list_of_rule S.tables r) T (list.Holds (Some id)) → asked_of r.entries.items ≡ Some n ∷ [] → (x : Result Response Fault) → AnswersFound T id n x → IsMaybe x →
    IsRuleOpen S (level S k) r
rule-found-open S k r T id n l says asked x a undecided =
    left-by S k r T id n l ((rule_list-gives S (level S k) r (erased_at T id)).0 says) asked x a undecided (is_term (tree_at T id)) refl

-- a list that holds and finds no term, though one is asked for, leaves its rule open
pub unfound-open : (S : Setting) (k : ℕ) (r : Rule) (T : List Tree) (n : ℕ) → SaysList (level S k) (list_of_rule S.tables r) T (list.Holds None) →
    asked_of r.entries.items ≡ Some n ∷ [] → IsRuleOpen S (level S k) r
unfound-open S k r T n says asked = (
  (λ t term g. asks_none-gives (level S k) (list_of_rule S.tables r) t says.1 ((rule_list-gives S (level S k) r t).1 g)),
  (λ none held. false≢true (sym none ∙ asked-has_term r.entries.items n asked)),
  holds-not_refuted S k k r ((rule_list-holds S (level S k) r).0 says.0),
)

-- one that is undecided does
pub undecided-open : (S : Setting) (L : Level) (r : Rule) (T : List Tree) → SaysList L (list_of_rule S.tables r) T list.Undecided → IsRuleOpen S L r
undecided-open S L r T says = (
  (λ t term g. says.0 t (gives-with L S r t ((rule_list-gives S L r t).1 g))),
  (λ none held.
      says.0 no_lifetime (asks_none-with L (list_of_rule S.tables r) no_lifetime (no_term-asks_none S.tables r.entries.items none) ((rule_list-holds S L r).1 held))),
  (λ h. says.1 ((rule_list-refuted S L r).1 h)),
)

-- one that is refuted refutes its rule
pub refuted-sound : (S : Setting) (L : Level) (r : Rule) (T : List Tree) (x : Result Response Fault) → x ≡ Err fault.NoSolution → SaysList L (list_of_rule S.tables r) T list.Refuted →
    IsRuleAnswer S L r x
refuted-sound S L r T x e says = subst (λ y. IsRuleAnswer S L r y) (sym e) ((rule_list-refuted S L r).0 says)

-- what a list comes to, spelled otherwise
pub says_list-as : (t : Tables) (L : Level) (es fs : List RuleEntry) (T : List Tree) (o q : ListOutcome) → es ≡ fs → o ≡ q →
    SaysList L (Some (entries_of t es)) T o → SaysList L (Some (entries_of t fs)) T q
says_list-as t L es fs T o q e f h = subst (SaysList L (Some (entries_of t fs)) T) f (subst (λ xs. SaysList L (Some (entries_of t xs)) T o) e h)

-- what records leaves the context restored
pub restored-recorded : (a b c : State) → b ≡ restored a b → c ≡ record b { accesses = c.accesses; delayed_faults = c.delayed_faults } → c ≡ restored a c
restored-recorded a b c e f =
    f ∙ ap (λ (s : State). record s { accesses = c.accesses; delayed_faults = c.delayed_faults }) e
    ∙ ap (λ (t : List Tree). record a { terms = t; accesses = c.accesses; delayed_faults = c.delayed_faults }) (sym (ap (λ (s : State). s.terms) f))

-- only accesses, or only faults, are recorded
pub recorded-accesses : (a b : State) → b ≡ record a { accesses = b.accesses } → b ≡ record a { accesses = b.accesses; delayed_faults = b.delayed_faults }
recorded-accesses a b e = e ∙ ap (λ xs. record a { accesses = b.accesses; delayed_faults = xs }) (sym (ap (λ (s : State). s.delayed_faults) e))

pub recorded-faults : (a b : State) → b ≡ record a { delayed_faults = b.delayed_faults } → b ≡ record a { accesses = b.accesses; delayed_faults = b.delayed_faults }
recorded-faults a b e = e ∙ ap (λ xs. record a { accesses = xs; delayed_faults = b.delayed_faults }) (sym (ap (λ (s : State). s.accesses) e))
