-- The rules of trait goals say what the lists of their candidates do.
use Rattle.std.proofs.Common.{◌≡◌, ◌↔◌, ◌==◌, ℕ, Bool, true, false, List, [], ◌∷◌, Option, Some, None, Result, Err, IfOk, IfErr, refl, sym, ◌∙◌, ap, subst}
use Rattle.std.specs.Prelude.{◌&&◌, ◌||◌, not, if◌then◌else◌}
use Rattle.std.specs.List.{find}
use Rattle.std.proofs.lemmas.Bool.{eqb-true}
use Rattle.goal_terms.specs.Tree.{Tree}
use Rattle.goal_terms.specs.declared.answers.Certainty.{Certainty}
use Rattle.goal_terms.specs.declared.answers.Certainty.TheVariants as certainty
use Rattle.goal_terms.specs.declared.ids.ImplId.{ImplId}
use Rattle.goal_terms.specs.declared.ids.TraitId.{TraitId}
use Rattle.goal_terms.specs.declared.modes.TypingMode.{TypingMode}
use Rattle.goal_terms.specs.declared.modes.TypingMode.TheVariants as modes
use Rattle.goal_terms.specs.declared.predicates.Clause.{Clause}
use Rattle.goal_terms.specs.declared.predicates.ClauseKind.{ClauseKind}
use Rattle.goal_terms.specs.declared.predicates.ClauseKind.TheVariants as clauses
use Rattle.goal_terms.specs.declared.predicates.TraitRef.{TraitRef}
use Rattle.goal_interner.specs.declared.term_nodes.TermId.{TermId}
use Rattle.goal_tables.specs.ImplFaults.{is_reservation}
use Rattle.goal_tables.specs.Rows.{impl_of}
use Rattle.goal_tables.specs.SourceFaults.{is_positive}
use Rattle.goal_tables.specs.declared.rows.ImplPolarity.{ImplPolarity}
use Rattle.goal_tables.specs.declared.rows.ImplPolarity.TheVariants as polarity
use Rattle.goal_tables.specs.declared.rows.ImplRow.{ImplRow}
use Rattle.goal_tables.specs.declared.rows.Tables.{Tables}
use Rattle.goal_lists.specs.Answers.{setting_of}
use Rattle.goal_kinds.specs.CandidateRules.{GivesAs, RefutedAs, IsRefusal, IsNamedAnswer, TraitCandidateHolds, TraitCandidateRefuted, is_of_trait, refuses_row, refuses_impl, said_by, only_given}
use Rattle.goal_lists.specs.Candidates.{Candidate, by_impl, built_in}
use Rattle.goal_lists.specs.Entries.{Entry, equal_terms, undecided, ListHolds, ListRefuted, ListAsksNoTerm}
use Rattle.goal_lists.specs.Interned.{AreIn, erased_all}
use Rattle.goal_lists.specs.InternedEntries.{setting_at}
use Rattle.goal_lists.specs.Levels.{level}
use Rattle.goal_lists.specs.NamedRows.{ListIsSorted}
use Rattle.goal_kinds.specs.RuleLists.{list_then, IsListed, IsToldBy}
use Rattle.goal_lists.specs.RowWords.{given}
use Rattle.goal_lists.specs.Settings.{Setting, is_coherence}
use Rattle.goal_lists.specs.TraitLists.{impl_match, list_by_polarity, trait_assumption_list, trait_impl_list, trait_list}
use Rattle.goal_kinds.specs.declared.faults.Fault.{Fault}
use Rattle.goal_kinds.specs.declared.faults.Fault.TheVariants as fault
use Rattle.goal_lists.specs.declared.lists.ListSetting.{ListSetting}
use Rattle.goal_kinds.specs.declared.rules.Rule.{Rule}
use Rattle.goal_kinds.proofs.ListedRules.{some-accepted}
use Rattle.goal_lists.proofs.AlikeSettings.{found}
use Rattle.goal_kinds.proofs.FaceLemmas.{IsSomeGiven, one-given, some-given, listed-yes_back, face-gives, face-refuted, face-told, face-refusal, face-named}
use Rattle.goal_lists.proofs.ListTerms.{trait_list-asks_none}
use Rattle.goal_kinds.proofs.SortedLists.{trait_list-sorted}
use Rattle.goal_lists.proofs.TraitLists.{trait_list-holds, trait_list-refuted}

-- rules that are listed for a goal's trait
module _ (S : ListSetting) (t : Tables) (m : TypingMode) (env : List Clause) (a : TraitRef) (c : Candidate) (rows : S.rows.now ≡ t) (mode : S.mode.now ≡ m) where
  abbrev asked : Setting → Option (List Entry)
  asked V = trait_list V a.def_id (given a.args) c

  abbrev Holds : Setting → ℕ → Type 0
  Holds V n = TraitCandidateHolds a V n c

  abbrev Refuted : Setting → ℕ → Type 0
  Refuted V n = TraitCandidateRefuted a V n c

  made-holds : (n : ℕ) → ListHolds (level (setting_at S env) n) (asked (setting_at S env)) ↔ Holds (setting_at S env) n
  made-holds n = trait_list-holds (setting_at S env) (level (setting_at S env) n) a.def_id (given a.args) c

  made-refuted : (n : ℕ) → ListRefuted (level (setting_at S env) n) (asked (setting_at S env)) ↔ Refuted (setting_at S env) n
  made-refuted n = trait_list-refuted (setting_at S env) (level (setting_at S env) n) a.def_id (given a.args) c

  -- a rule whose entries are those of the list
  abbrev ListedThen : Certainty → Result Rule Fault → Type 0
  ListedThen sure r = IfOk r (λ x. IsListed S.rows.now x (list_then sure (asked (setting_at S env))))

  abbrev Listed : Result Rule Fault → Type 0
  Listed r = IfOk r (λ x. IsListed S.rows.now x (asked (setting_at S env)))

  pub trait-gives : (sure : Certainty) (r : Result Rule Fault) → ListedThen sure r →
      IfOk r (GivesAs false (setting_of t m env) sure (λ n u. TraitCandidateHolds a (setting_of t m env) n c))
  trait-gives sure r h = face-gives false asked (λ V n u. Holds V n) Refuted S t m env rows mode sure r (λ n u. made-holds n) h

  pub trait-refuted : (sure : Certainty) (r : Result Rule Fault) → ListedThen sure r →
      IfOk r (RefutedAs (setting_of t m env) (λ n. TraitCandidateRefuted a (setting_of t m env) n c))
  trait-refuted sure r h = face-refuted false asked (λ V n u. Holds V n) Refuted S t m env rows mode sure r made-refuted h

  pub trait-told : (sure : Certainty) (r : Result Rule Fault) → ListedThen sure r → IfOk r (IsToldBy t sure (Some (trait_list (setting_of t m env) a.def_id (given a.args) c)))
  trait-told sure r h = face-told false asked (λ V n u. Holds V n) Refuted S t m env rows mode sure r h

  -- the same where nothing is left undecided behind the list
  pub sure-gives : (r : Result Rule Fault) → Listed r →
      IfOk r (GivesAs false (setting_of t m env) certainty.Yes (λ n u. TraitCandidateHolds a (setting_of t m env) n c))
  sure-gives r h = trait-gives certainty.Yes r (listed-yes_back S.rows.now (asked (setting_at S env)) r h)

  pub sure-refuted : (r : Result Rule Fault) → Listed r → IfOk r (RefutedAs (setting_of t m env) (λ n. TraitCandidateRefuted a (setting_of t m env) n c))
  sure-refuted r h = trait-refuted certainty.Yes r (listed-yes_back S.rows.now (asked (setting_at S env)) r h)

  pub sure-told : (r : Result Rule Fault) → Listed r → IfOk r (IsToldBy t certainty.Yes (Some (trait_list (setting_of t m env) a.def_id (given a.args) c)))
  sure-told r h = trait-told certainty.Yes r (listed-yes_back S.rows.now (asked (setting_at S env)) r h)

  pub trait-refusal : (r : Result Rule Fault) → IfErr r (IsRefusal (asked (setting_at S env) ≡ None)) →
      IfErr r (IsRefusal (TraitCandidateRefuted a (setting_of t m env) 0 c))
  trait-refusal r h = face-refusal false asked (λ V n u. Holds V n) Refuted S t m env rows mode r made-refuted h

  pub trait-named : (b : Bool) (r : Result Rule Fault) → (b ≡ false → r ≡ Err fault.NotForThisKind) → Listed r →
      (b ≡ true → IfErr r (IsRefusal (asked (setting_at S env) ≡ None))) →
      IsNamedAnswer b false (setting_of t m env) (λ n u. TraitCandidateHolds a (setting_of t m env) n c) (λ n. TraitCandidateRefuted a (setting_of t m env) n c) r
  trait-named b r other listed refused = face-named false asked (λ V n u. Holds V n) Refuted S t m env rows mode b r (λ n u. made-holds n) made-refuted other listed refused

-- the list of a clause of the goal's trait
said-list : (S : Setting) (a : TraitRef) (k : ClauseKind) → is_of_trait a k ≡ true → IsSomeGiven (trait_list S a.def_id (given a.args) (said_by k))
unfolding trait_list trait_assumption_list
said-list S a (clauses.Trait q) e = (
  equal_terms (given q.trait_ref.args) (given a.args) ∷ [],
  ap (λ b. if b then Some (equal_terms (given q.trait_ref.args) (given a.args) ∷ []) else None) e,
  one-given (given q.trait_ref.args) (given a.args),
)
said-list S a (clauses.Projection q) e = absurd (cc)
said-list S a (clauses.HostEffect q) e = absurd (cc)

pub said-given : (t : Tables) (S : Setting) (a : TraitRef) (k : ClauseKind) (c : Certainty) (r : Result Rule Fault) → is_of_trait a k ≡ true →
    IfOk r (λ x. IsListed t x (list_then c (trait_list S a.def_id (given a.args) (said_by k)))) → IfOk r (λ x. only_given x.entries.items ≡ true)
said-given t S a k c r e h = some-given t c (trait_list S a.def_id (given a.args) (said_by k)) r (said-list S a k e) h

pub said-accepted : (S : Setting) (a : TraitRef) (k : ClauseKind) (r : Result Rule Fault) → is_of_trait a k ≡ true →
    IfErr r (IsRefusal (trait_list S a.def_id (given a.args) (said_by k) ≡ None)) → IfErr r (λ f. f ≡ fault.OutOfMemory)
said-accepted S a k r e h = let some = said-list S a k e in some-accepted some.0 (trait_list S a.def_id (given a.args) (said_by k)) r some.1 h

-- it equates aliases with types and constants alone, and asks for no term
pub list-made_sorted : (S : Setting) (i : TraitId) (U : List Tree) (ids : List TermId) (c : Candidate) (l : Option (List Entry)) → AreIn U ids →
    l ≡ trait_list S i (erased_all U ids) c → ListIsSorted l
list-made_sorted S i U ids c l within e = subst ListIsSorted (sym e) (trait_list-sorted S i U ids within c)

pub list-made_asks : (S : Setting) (i : TraitId) (args : List Tree) (c : Candidate) (l : Option (List Entry)) → l ≡ trait_list S i args c → ListAsksNoTerm l
list-made_asks S i args c l e = subst ListAsksNoTerm (sym e) (trait_list-asks_none S i args c)

-- the answer of a function of the trait alias, or of a built-in rule, by the test that it makes
pub trait-answer : (S : ListSetting) (t : Tables) (m : TypingMode) (env : List Clause) (a : TraitRef) → S.rows.now ≡ t → S.mode.now ≡ m →
    (tested b : Bool) (r : Result Rule Fault) → tested ≡ b → (tested ≡ false → r ≡ Err fault.NotForThisKind) →
    IfOk r (λ x. IsListed S.rows.now x (trait_list (setting_at S env) a.def_id (given a.args) built_in)) →
    (tested ≡ true → IfErr r (IsRefusal (trait_list (setting_at S env) a.def_id (given a.args) built_in ≡ None))) →
    IsNamedAnswer b false (setting_of t m env) (λ n u. TraitCandidateHolds a (setting_of t m env) n built_in) (λ n. TraitCandidateRefuted a (setting_of t m env) n built_in) r
trait-answer S t m env a rows mode tested b r same other listed refused =
    trait-named S t m env a built_in rows mode b r (λ e. other (same ∙ e)) listed (λ e. refused (same ∙ e))

-- a row that is found is the one that was seen
pub seen_row : {A : Type 0} (o : Option A) (x y : A) → o ≡ Some x → Some y ≡ o → x ≡ y
seen_row o x y e f = cc

-- the tables have an impl that is found under its own id
pub impl-by_id : (t : Tables) (i : ImplId) (r : ImplRow) → impl_of t i ≡ Some r → impl_of t r.id ≡ Some r
impl-by_id t i r e =
    ap (λ n. find (λ q. q.id.0 == n) t.impls.items) (eqb-true r.id.0 i.0 (found (λ q. q.id.0 == i.0) t.impls.items r e).1) ∙ e

-- an impl that is positive, or bars a refutation in coherence, has a list
pub polarity-some : (m : TypingMode) (p : ImplPolarity) (es : List Entry) → not (is_positive p || (is_coherence m && is_reservation p)) ≡ false →
    (xs : List Entry) × (list_by_polarity m p es ≡ Some xs)
unfolding list_by_polarity
polarity-some m polarity.Positive es e = (es, refl)
polarity-some modes.Coherence polarity.Negative es e = absurd (cc)
polarity-some m polarity.Negative es e = absurd (cc)
polarity-some modes.Coherence polarity.Reservation es e = (undecided ∷ es, refl)
polarity-some m polarity.Reservation es e = absurd (cc)

pub or-false : (a b : Bool) → a || b ≡ false → b ≡ false
or-false true b e = absurd (cc)
or-false false b e = e

pub impl-accepted : (S : Setting) (m : TypingMode) (a : TraitRef) (o : Option ImplRow) (r : ImplRow) (x : Result Rule Fault) → Some r ≡ o → S.mode ≡ m →
    refuses_impl m a o ≡ false → IfErr x (IsRefusal (trait_list S a.def_id (given a.args) (by_impl r) ≡ None)) → IfErr x (λ f. f ≡ fault.OutOfMemory)
unfolding trait_list
impl-accepted S m a o r x seen mode e h =
    let accepted : refuses_row S.mode a r ≡ false = ap (λ k. refuses_row k a r) mode ∙ ap (refuses_impl m a) seen ∙ e in
    let some = polarity-some S.mode r.polarity (impl_match r (given a.args) []) (or-false _ _ accepted) in
    some-accepted some.0 (trait_impl_list S.mode (given a.args) r) x some.1 h
