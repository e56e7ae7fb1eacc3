-- The rules of host effect goals say what the lists of their candidates do.
use Rattle.std.proofs.Common.{◌≡◌, ◌<◌, ◌↔◌, ℕ, Bool, true, false, List, [], ◌∷◌, ◌++◌, filter, cond, Option, Some, None, Result, Ok, Err, IfOk, IfErr, Vec, Global, refl, sym, ◌∙◌, ap, subst, append-nil}
use Rattle.std.proofs.lemmas.Bool.{false≢true}
use Rattle.std.specs.List.{All, AllZip}
use Rattle.std.specs.Prelude.{◌||◌, get_or, length, not, if◌then◌else◌}
use Rattle.std.proofs.lemmas.List.Elements.{filter-append}
use Rattle.goal_terms.specs.Erased.{erased}
use Rattle.goal_terms.specs.Tree.{Tree}
use Rattle.goal_terms.specs.TreeOf.{tree_of_alias}
use Rattle.goal_terms.specs.declared.answers.Certainty.{Certainty}
use Rattle.goal_terms.specs.declared.answers.Certainty.TheVariants as certainty
use Rattle.goal_terms.specs.declared.answers.GoalSource.TheVariants as source
use Rattle.goal_terms.specs.declared.ids.TraitId.{TraitId}
use Rattle.goal_terms.specs.declared.modes.TypingMode.{TypingMode}
use Rattle.goal_terms.specs.declared.predicates.BoundConstness.{BoundConstness}
use Rattle.goal_terms.specs.declared.predicates.Clause.{Clause}
use Rattle.goal_terms.specs.declared.predicates.ClauseKind.{ClauseKind}
use Rattle.goal_terms.specs.declared.predicates.ClauseKind.TheVariants as clauses
use Rattle.goal_terms.specs.declared.predicates.HostEffectPredicate.{HostEffectPredicate}
use Rattle.goal_interner.specs.declared.term_nodes.TermId.{TermId}
use Rattle.goal_terms.specs.declared.terms.AliasTerm.{AliasTerm}
use Rattle.goal_tables.specs.declared.rows.ImplRow.{ImplRow}
use Rattle.goal_tables.specs.declared.rows.Tables.{Tables}
use Rattle.goal_lists.specs.Answers.{setting_of}
use Rattle.goal_kinds.specs.CandidateRules.{GivesAs, RefutedAs, IsRefusal, IsNamedAnswer, refuses_row, said_by, only_given}
use Rattle.goal_lists.specs.Candidates.{Candidate, assumption, implied_bound, by_impl, built_in, error, bounds_of, IsNoImpl}
use Rattle.goal_kinds.specs.EffectKind.{AreImplied, asked_effect_list, EffectCandidateHolds, EffectCandidateRefuted, implied_bounds_for, is_implied_for, is_of_effect, refuses_effect_row, refuses_effect_impl}
use Rattle.goal_lists.specs.EffectLists.{effect_assumption_list, effect_impl_list, effect_list}
use Rattle.goal_lists.specs.Entries.{Entry, equal_terms, row_conditions, premise_entries, ListHolds, ListRefuted, ListAsksNoTerm}
use Rattle.goal_lists.specs.Interned.{AreIn, CandidateIn, erased_all, candidate_at}
use Rattle.goal_lists.specs.InternedEntries.{setting_at}
use Rattle.goal_lists.specs.Levels.{level}
use Rattle.goal_lists.specs.NamedRows.{CandidateIsOf, ListIsSorted}
use Rattle.goal_lists.specs.Premises.{conditions_as}
use Rattle.goal_kinds.specs.RuleLists.{list_then, IsListed, IsToldBy}
use Rattle.goal_lists.specs.RowWords.{given}
use Rattle.goal_lists.specs.Settings.{Setting}
use Rattle.goal_lists.specs.TraitLists.{impl_match, list_by_polarity}
use Rattle.goal_lists.specs.declared.candidates.interned.InternedCandidate.{InternedCandidate}
use Rattle.goal_lists.specs.declared.candidates.interned.InternedCandidate.TheVariants as candidates
use Rattle.goal_kinds.specs.declared.faults.Fault.{Fault}
use Rattle.goal_kinds.specs.declared.faults.Fault.TheVariants as fault
use Rattle.goal_lists.specs.declared.lists.ListSetting.{ListSetting}
use Rattle.goal_kinds.specs.declared.rules.Rule.{Rule}
use Rattle.goal_lists.proofs.EffectLists.{effect_list-holds, effect_list-refuted}
use Rattle.goal_kinds.proofs.FaceLemmas.{IsSomeGiven, one-given, some-given, then-yes, listed-yes_back, face-gives, face-refuted, face-told, face-refusal, face-named}
use Rattle.goal_lists.proofs.ListTerms.{effect_list-asks_none}
use Rattle.goal_kinds.proofs.ListedRules.{some-accepted}
use Rattle.goal_kinds.proofs.RebuiltLemmas.{zip-push}
use Rattle.goal_kinds.proofs.SortedEffects.{effect_list-sorted}
use Rattle.goal_kinds.proofs.TraitFaceLemmas.{or-false, polarity-some}

-- rules that are listed for a goal
module _ (S : ListSetting) (t : Tables) (m : TypingMode) (env : List Clause) (p : HostEffectPredicate) (c : Candidate) (rows : S.rows.now ≡ t) (mode : S.mode.now ≡ m) where
  abbrev asked : Setting → Option (List Entry)
  asked V = asked_effect_list p V c

  abbrev Holds : Setting → ℕ → Type 0
  Holds V n = EffectCandidateHolds p V n c

  abbrev Refuted : Setting → ℕ → Type 0
  Refuted V n = EffectCandidateRefuted p V n c

  made-holds : (n : ℕ) → ListHolds (level (setting_at S env) n) (asked (setting_at S env)) ↔ Holds (setting_at S env) n
  made-holds n =
      effect_list-holds (setting_at S env) (level (setting_at S env) n) p.constness p.trait_ref.def_id (given p.trait_ref.args) c

  made-refuted : (n : ℕ) → ListRefuted (level (setting_at S env) n) (asked (setting_at S env)) ↔ Refuted (setting_at S env) n
  made-refuted n =
      effect_list-refuted (setting_at S env) (level (setting_at S env) n) p.constness p.trait_ref.def_id (given p.trait_ref.args) c

  -- a rule whose entries are those of the list
  abbrev ListedThen : Certainty → Result Rule Fault → Type 0
  ListedThen sure r = IfOk r (λ x. IsListed S.rows.now x (list_then sure (asked (setting_at S env))))

  abbrev Listed : Result Rule Fault → Type 0
  Listed r = IfOk r (λ x. IsListed S.rows.now x (asked (setting_at S env)))

  pub effect-gives : (sure : Certainty) (r : Result Rule Fault) → ListedThen sure r →
      IfOk r (GivesAs false (setting_of t m env) sure (λ n u. EffectCandidateHolds p (setting_of t m env) n c))
  effect-gives sure r h = face-gives false asked (λ V n u. Holds V n) Refuted S t m env rows mode sure r (λ n u. made-holds n) h

  pub effect-refuted : (sure : Certainty) (r : Result Rule Fault) → ListedThen sure r →
      IfOk r (RefutedAs (setting_of t m env) (λ n. EffectCandidateRefuted p (setting_of t m env) n c))
  effect-refuted sure r h = face-refuted false asked (λ V n u. Holds V n) Refuted S t m env rows mode sure r made-refuted h

  pub effect-told : (sure : Certainty) (r : Result Rule Fault) → ListedThen sure r → IfOk r (IsToldBy t sure (Some (asked_effect_list p (setting_of t m env) c)))
  effect-told sure r h = face-told false asked (λ V n u. Holds V n) Refuted S t m env rows mode sure r h

  -- the same where nothing is left undecided behind the list
  pub sure_effect-gives : (r : Result Rule Fault) → Listed r →
      IfOk r (GivesAs false (setting_of t m env) certainty.Yes (λ n u. EffectCandidateHolds p (setting_of t m env) n c))
  sure_effect-gives r h = effect-gives certainty.Yes r (listed-yes_back S.rows.now (asked (setting_at S env)) r h)

  pub sure_effect-refuted : (r : Result Rule Fault) → Listed r →
      IfOk r (RefutedAs (setting_of t m env) (λ n. EffectCandidateRefuted p (setting_of t m env) n c))
  sure_effect-refuted r h = effect-refuted certainty.Yes r (listed-yes_back S.rows.now (asked (setting_at S env)) r h)

  pub sure_effect-told : (r : Result Rule Fault) → Listed r → IfOk r (IsToldBy t certainty.Yes (Some (asked_effect_list p (setting_of t m env) c)))
  sure_effect-told r h = effect-told certainty.Yes r (listed-yes_back S.rows.now (asked (setting_at S env)) r h)

  pub effect-refusal : (r : Result Rule Fault) → IfErr r (IsRefusal (asked (setting_at S env) ≡ None)) →
      IfErr r (IsRefusal (EffectCandidateRefuted p (setting_of t m env) 0 c))
  effect-refusal r h = face-refusal false asked (λ V n u. Holds V n) Refuted S t m env rows mode r made-refuted h

  pub effect-named : (b : Bool) (r : Result Rule Fault) → (b ≡ false → r ≡ Err fault.NotForThisKind) → Listed r →
      (b ≡ true → IfErr r (IsRefusal (asked (setting_at S env) ≡ None))) →
      IsNamedAnswer b false (setting_of t m env) (λ n u. EffectCandidateHolds p (setting_of t m env) n c) (λ n. EffectCandidateRefuted p (setting_of t m env) n c) r
  effect-named b r other listed refused = face-named false asked (λ V n u. Holds V n) Refuted S t m env rows mode b r (λ n u. made-holds n) made-refuted other listed refused

-- the answer of a function of the trait alias, or of a built-in rule, by the test that it makes
pub effect-answer : (S : ListSetting) (t : Tables) (m : TypingMode) (env : List Clause) (p : HostEffectPredicate) → S.rows.now ≡ t → S.mode.now ≡ m →
    (tested b : Bool) (r : Result Rule Fault) → tested ≡ b → (tested ≡ false → r ≡ Err fault.NotForThisKind) →
    IfOk r (λ x. IsListed S.rows.now x (asked_effect_list p (setting_at S env) built_in)) →
    (tested ≡ true → IfErr r (IsRefusal (asked_effect_list p (setting_at S env) built_in ≡ None))) →
    IsNamedAnswer b false (setting_of t m env) (λ n u. EffectCandidateHolds p (setting_of t m env) n built_in) (λ n. EffectCandidateRefuted p (setting_of t m env) n built_in) r
effect-answer S t m env p rows mode tested b r same other listed refused =
    effect-named S t m env p built_in rows mode b r (λ e. other (same ∙ e)) listed (λ e. refused (same ∙ e))

-- the list of a clause that says what is asked
said-list : (S : Setting) (p : HostEffectPredicate) (k : ClauseKind) → is_of_effect p k ≡ true → IsSomeGiven (asked_effect_list p S (said_by k))
unfolding effect_list effect_assumption_list
said-list S p (clauses.HostEffect q) e = (
  equal_terms (given q.trait_ref.args) (given p.trait_ref.args) ∷ [],
  ap (λ b. if b then Some (equal_terms (given q.trait_ref.args) (given p.trait_ref.args) ∷ []) else None) e,
  one-given (given q.trait_ref.args) (given p.trait_ref.args),
)
said-list S p (clauses.Trait q) e = absurd (cc)
said-list S p (clauses.Projection q) e = absurd (cc)

pub effect_said-given : (t : Tables) (S : Setting) (p : HostEffectPredicate) (k : ClauseKind) (c : Certainty) (r : Result Rule Fault) → is_of_effect p k ≡ true →
    IfOk r (λ x. IsListed t x (list_then c (asked_effect_list p S (said_by k)))) → IfOk r (λ x. only_given x.entries.items ≡ true)
effect_said-given t S p k c r e h = some-given t c (asked_effect_list p S (said_by k)) r (said-list S p k e) h

pub effect_said-accepted : (S : Setting) (p : HostEffectPredicate) (k : ClauseKind) (r : Result Rule Fault) → is_of_effect p k ≡ true →
    IfErr r (IsRefusal (asked_effect_list p S (said_by k) ≡ None)) → IfErr r (λ f. f ≡ fault.OutOfMemory)
effect_said-accepted S p k r e h = let some = said-list S p k e in some-accepted some.0 (asked_effect_list p S (said_by k)) r some.1 h

-- a list equates aliases with types and constants alone, and asks for no term
pub effect_made-sorted : (S : Setting) (p : HostEffectPredicate) (U : List Tree) (ids : List TermId) (c : Candidate) (l : Option (List Entry)) → AreIn U ids →
    l ≡ effect_list S p.constness p.trait_ref.def_id (erased_all U ids) c → ListIsSorted l
effect_made-sorted S p U ids c l within e = subst ListIsSorted (sym e) (effect_list-sorted S p.constness p.trait_ref.def_id U ids within c)

pub effect_made-asks : (S : Setting) (p : HostEffectPredicate) (args : List Tree) (c : Candidate) (l : Option (List Entry)) →
    l ≡ effect_list S p.constness p.trait_ref.def_id args c → ListAsksNoTerm l
effect_made-asks S p args c l e = subst ListAsksNoTerm (sym e) (effect_list-asks_none S p.constness p.trait_ref.def_id args c)

-- a const impl that is positive, or bars a refutation in coherence, has a list
or-first : (a b : Bool) → a || b ≡ false → a ≡ false
or-first true b e = e
or-first false b e = refl

not-false : (b : Bool) → not b ≡ false → b ≡ true
not-false true e = refl
not-false false e = absurd (cc)

const-some : (m : TypingMode) (c : BoundConstness) (args : List Tree) (r : ImplRow) (es : List Entry) → r.is_const ≡ true →
    list_by_polarity m r.polarity (impl_match r args (row_conditions c r.const_conditions.items 0 ∷ [])) ≡ Some es → effect_impl_list m c args r ≡ Some es
const-some m c args r es const some =
    ap (λ b. if b then list_by_polarity m r.polarity (impl_match r args (row_conditions c r.const_conditions.items 0 ∷ [])) else None) const ∙ some

pub effect_impl-accepted : (S : Setting) (m : TypingMode) (p : HostEffectPredicate) (o : Option ImplRow) (r : ImplRow) (x : Result Rule Fault) → Some r ≡ o → S.mode ≡ m →
    refuses_effect_impl m p o ≡ false → IfErr x (IsRefusal (asked_effect_list p S (by_impl r) ≡ None)) → IfErr x (λ f. f ≡ fault.OutOfMemory)
unfolding effect_list
effect_impl-accepted S m p o r x seen mode e h =
    let accepted : refuses_effect_row S.mode p r ≡ false = ap (λ k. refuses_effect_row k p r) mode ∙ ap (refuses_effect_impl m p) seen ∙ e in
    let some = polarity-some S.mode r.polarity (impl_match r (given p.trait_ref.args) (row_conditions p.constness r.const_conditions.items 0 ∷ []))
    (or-false _ _ (or-first (refuses_row S.mode p.trait_ref r) (not r.is_const) accepted)) in
    some-accepted some.0 (effect_impl_list S.mode p.constness (given p.trait_ref.args) r) x
    (const-some S.mode p.constness (given p.trait_ref.args) r some.0 (not-false r.is_const (or-false (refuses_row S.mode p.trait_ref r) (not r.is_const) accepted)) some.1) h

-- an implied const bound of the goal's trait has a list
implied-some : (S : Setting) (p : HostEffectPredicate) (c : Candidate) → is_implied_for p.trait_ref.def_id c ≡ true → (es : List Entry) × (asked_effect_list p S c ≡ Some es)
unfolding effect_list
implied-some S p (implied_bound b conditions) e = (
  equal_terms b.args (given p.trait_ref.args) ∷ premise_entries source.AliasBoundConstCondition (conditions_as p.constness conditions),
  ap (λ t. if t then Some (equal_terms b.args (given p.trait_ref.args) ∷ premise_entries source.AliasBoundConstCondition (conditions_as p.constness conditions)) else None) e,
)
implied-some S p (assumption q) e = absurd (cc)
implied-some S p (by_impl r) e = absurd (cc)
implied-some S p built_in e = absurd (cc)
implied-some S p error e = absurd (cc)

pub implied-accepted : (S : Setting) (p : HostEffectPredicate) (c : Candidate) (r : Result Rule Fault) → is_implied_for p.trait_ref.def_id c ≡ true →
    IfErr r (IsRefusal (asked_effect_list p S c ≡ None)) → IfErr r (λ f. f ≡ fault.OutOfMemory)
implied-accepted S p c r e h = let some = implied-some S p c e in some-accepted some.0 (asked_effect_list p S c) r some.1 h

-- and is no impl
pub implied-is_of : (t : Tables) (T : List Tree) (i : TraitId) (c : InternedCandidate) → is_implied_for i (candidate_at T c) ≡ true → CandidateIsOf t c
implied-is_of t T i (candidates.Assumption q) e = tt
implied-is_of t T i (candidates.ImpliedBound b conditions) e = tt
implied-is_of t T i (candidates.Impl r) e = absurd (cc)
implied-is_of t T i candidates.BuiltIn e = tt
implied-is_of t T i candidates.Error e = tt

-- one of the candidates of a table
pub one-in_table : (T : List Tree) (found xs : List InternedCandidate) (x : InternedCandidate) (i : ℕ) → xs ≡ found → All (CandidateIn T) found → i < length xs → x ≡ get_or xs i x →
    CandidateIn T x
one-in_table T found xs x i same h lt is = subst (CandidateIn T) (sym is) (subst (All (CandidateIn T)) (sym same) h i x lt)

-- one more candidate: its rule is there if it is an implied const bound of the goal's trait
module _ (t : Tables) (p : HostEffectPredicate) (S : Setting) (cs : List Candidate) (c : Candidate) where
  more-kept : (b : Bool) → is_implied_for p.trait_ref.def_id c ≡ b → filter (is_implied_for p.trait_ref.def_id) (cs ++ c ∷ []) ≡ filter (is_implied_for p.trait_ref.def_id) cs ++ cond b (c ∷ []) []
  more-kept b e =
      filter-append (is_implied_for p.trait_ref.def_id) cs (c ∷ []) ∙ ap (λ k. filter (is_implied_for p.trait_ref.def_id) cs ++ cond k (c ∷ []) []) e

  pub implied-more : (rs qs : List Rule) (r : Rule) → is_implied_for p.trait_ref.def_id c ≡ true → qs ≡ rs ++ r ∷ [] → IsListed t r (list_then certainty.Yes (asked_effect_list p S c)) →
      AreImplied t p S cs rs → AreImplied t p S (cs ++ c ∷ []) qs
  implied-more rs qs r e made listed h =
      subst (λ xs. AllZip (λ x d. IsListed t x (asked_effect_list p S d)) xs (filter (is_implied_for p.trait_ref.def_id) (cs ++ c ∷ []))) (sym made)
      (subst (λ ds. AllZip (λ x d. IsListed t x (asked_effect_list p S d)) (rs ++ r ∷ []) ds) (sym (more-kept true e))
      (zip-push (λ x d. IsListed t x (asked_effect_list p S d)) rs (filter (is_implied_for p.trait_ref.def_id) cs) r c h (subst (IsListed t r) (then-yes (asked_effect_list p S c)) listed)))

  pub implied-passed : (rs : List Rule) → is_implied_for p.trait_ref.def_id c ≡ false → AreImplied t p S cs rs → AreImplied t p S (cs ++ c ∷ []) rs
  implied-passed rs e h =
      subst (λ ds. AllZip (λ x d. IsListed t x (asked_effect_list p S d)) rs ds) (sym (more-kept false e ∙ append-nil _)) h

-- rules in step with those of some elements that pass a test
module _ {A B : Type 0} (f : B → Bool) (P Q : A → B → Type 0) (g : (a : A) (b : B) → f b ≡ true → P a b → Q a b) where
  kept-step : (y : B) (ys : List B) (rest : (xs : List A) → AllZip P xs (filter f ys) → AllZip Q xs (filter f ys)) (b : Bool) → f y ≡ b → (xs : List A) →
      AllZip P xs (cond b (y ∷ filter f ys) (filter f ys)) → AllZip Q xs (cond b (y ∷ filter f ys) (filter f ys))
  kept-step y ys rest true e [] h = absurd h
  kept-step y ys rest true e (x ∷ xs) h = (g x y e h.0, rest xs h.1)
  kept-step y ys rest false e xs h = rest xs h

  kept-zip : (ys : List B) (xs : List A) → AllZip P xs (filter f ys) → AllZip Q xs (filter f ys)
  kept-zip [] [] h = tt
  kept-zip [] (x ∷ xs) h = absurd h
  kept-zip (y ∷ ys) xs h = kept-step y ys (kept-zip ys) (f y) refl xs h

-- an implied const bound is no impl
implied-plain : (i : TraitId) (c : Candidate) → is_implied_for i c ≡ true → IsNoImpl c
implied-plain i (assumption p) e = tt
implied-plain i (implied_bound q cs) e = tt
implied-plain i (by_impl r) e = absurd (false≢true e)
implied-plain i built_in e = tt
implied-plain i error e = tt

-- the rules of an alias's implied const bounds say what these do
module _ (S : ListSetting) (t : Tables) (m : TypingMode) (env : List Clause) (p : HostEffectPredicate) (a : AliasTerm) (rows : S.rows.now ≡ t) (mode : S.mode.now ≡ m) where
  -- rules whose entries are those of these bounds' lists
  abbrev AreListed : Result (Vec Rule Global) Fault → Type 0
  AreListed r = IfOk r (λ rs. AreImplied S.rows.now p (setting_at S env) (bounds_of S.rows.now (erased (tree_of_alias a))) rs.items)

  -- a claim about each rule and its candidate
  abbrev Each-of : (Rule → Candidate → Type 0) → Tables → Result (Vec Rule Global) Fault → Type 0
  Each-of Q u r = IfOk r (λ rs. AllZip Q rs.items (implied_bounds_for u p.trait_ref.def_id a))

  each-says : (Q : Rule → Candidate → Type 0) →
      ((x : Rule) (c : Candidate) → is_implied_for p.trait_ref.def_id c ≡ true → IsListed S.rows.now x (asked_effect_list p (setting_at S env) c) → Q x c) →
      (r : Result (Vec Rule Global) Fault) → AreListed r → Each-of Q t r
  each-says Q f (Ok rs) h =
      subst (λ u. AllZip Q rs.items (implied_bounds_for u p.trait_ref.def_id a)) rows
      (kept-zip (is_implied_for p.trait_ref.def_id) (λ x c. IsListed S.rows.now x (asked_effect_list p (setting_at S env) c)) Q f (bounds_of S.rows.now (erased (tree_of_alias a))) rs.items h)
  each-says Q f (Err e) h = tt

  pub implied-give : (r : Result (Vec Rule Global) Fault) → AreListed r →
      Each-of (λ x c. GivesAs false (setting_of t m env) certainty.Yes (λ n u. EffectCandidateHolds p (setting_of t m env) n c) x) t r
  implied-give r h = each-says _ (λ x c e l. sure_effect-gives S t m env p c rows mode (Ok x) l) r h

  pub implied-refuted : (r : Result (Vec Rule Global) Fault) → AreListed r →
      Each-of (λ x c. RefutedAs (setting_of t m env) (λ n. EffectCandidateRefuted p (setting_of t m env) n c) x) t r
  implied-refuted r h = each-says _ (λ x c e l. sure_effect-refuted S t m env p c rows mode (Ok x) l) r h

  pub implied-no_impl : (r : Result (Vec Rule Global) Fault) → AreListed r → Each-of (λ x c. IsNoImpl c) t r
  implied-no_impl r h = each-says _ (λ x c e l. implied-plain p.trait_ref.def_id c e) r h

  pub implied-told : (r : Result (Vec Rule Global) Fault) → AreListed r →
      Each-of (λ x c. IsToldBy t certainty.Yes (Some (asked_effect_list p (setting_of t m env) c)) x) t r
  implied-told r h = each-says _ (λ x c e l. sure_effect-told S t m env p c rows mode (Ok x) l) r h
