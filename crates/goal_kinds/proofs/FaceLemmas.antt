-- Public rules whose entries are those of a candidate's list say what the candidate does, for any kind of goals.
use Rattle.std.proofs.Common.{◌≡◌, ◌↔◌, ℕ, Bool, true, false, List, ◌∷◌, ◌++◌, Option, Some, None, Result, Ok, Err, IfOk, IfErr, refl, sym, ◌∙◌, ap, ap₂, subst, append-nil}
use Rattle.goal_interner.specs.TableMeaning.{Keeps}
use Rattle.goal_terms.specs.Tree.{Tree}
use Rattle.goal_terms.specs.declared.answers.Certainty.{Certainty}
use Rattle.goal_terms.specs.declared.answers.Certainty.TheVariants as certainty
use Rattle.goal_terms.specs.declared.modes.TypingMode.{TypingMode}
use Rattle.goal_terms.specs.declared.predicates.Clause.{Clause}
use Rattle.goal_interner.specs.declared.term_nodes.TermId.{TermId}
use Rattle.goal_tables.specs.declared.rows.Tables.{Tables}
use Rattle.goal_lists.specs.Answers.{setting_of}
use Rattle.goal_kinds.specs.CandidateRules.{GivesAs, RefutedAs, IsRefusal, IsNamedAnswer, only_given}
use Rattle.goal_lists.specs.Candidates.{Candidate}
use Rattle.goal_lists.specs.Entries.{Entry, equal_terms, ListRefuted}
use Rattle.goal_lists.specs.Interned.{CandidateIn, erased_all, candidate_at}
use Rattle.goal_lists.specs.InternedEntries.{setting_at}
use Rattle.goal_lists.specs.Levels.{level}
use Rattle.goal_kinds.specs.RuleLists.{entries_then, list_then, IsListed, IsToldBy}
use Rattle.goal_lists.specs.Settings.{Setting}
use Rattle.goal_lists.specs.declared.candidates.interned.InternedCandidate.{InternedCandidate}
use Rattle.goal_kinds.specs.declared.faults.Fault.{Fault}
use Rattle.goal_kinds.specs.declared.faults.Fault.TheVariants as fault
use Rattle.goal_lists.specs.declared.lists.ListSetting.{ListSetting}
use Rattle.goal_kinds.specs.declared.rules.Rule.{Rule}
use Rattle.goal_lists.proofs.InternedLemmas.{candidate_same-grown}
use Rattle.goal_kinds.proofs.ListedRules.{ListSays, AreGiven, listed-given, listed-list, listed-gives, listed-refuted, none-refuted, refusal-says, named-answer}

-- a list with nothing more behind it
pub then-yes : (o : Option (List Entry)) → list_then certainty.Yes o ≡ o
then-yes None = refl
then-yes (Some es) = ap Some (append-nil es)

pub listed-yes : (t : Tables) (o : Option (List Entry)) (r : Result Rule Fault) → IfOk r (λ x. IsListed t x (list_then certainty.Yes o)) → IfOk r (λ x. IsListed t x o)
listed-yes t o r h = subst (λ l. IfOk r (λ x. IsListed t x l)) (then-yes o) h

pub listed-yes_back : (t : Tables) (o : Option (List Entry)) (r : Result Rule Fault) → IfOk r (λ x. IsListed t x o) → IfOk r (λ x. IsListed t x (list_then certainty.Yes o))
listed-yes_back t o r h = subst (λ l. IfOk r (λ x. IsListed t x l)) (sym (then-yes o)) h

-- a rule whose entries are those of a list stands for the list
listed-told : (t : Tables) (c : Certainty) (o : Option (List Entry)) (r : Result Rule Fault) → IfOk r (λ x. IsListed t x (list_then c o)) → IfOk r (IsToldBy t c (Some o))
listed-told t c o (Ok x) h = listed-list t x (list_then c o) h
listed-told t c o (Err e) h = tt

-- the list of a candidate, what the candidate does, and the setting in which the list was made
module _ (b : Bool) (Asked : Setting → Option (List Entry)) (Gives : Setting → ℕ → Tree → Type 0) (Refuted : Setting → ℕ → Type 0) (S : ListSetting) (t : Tables) (m : TypingMode) (env : List Clause) (rows : S.rows.now ≡ t) (mode : S.mode.now ≡ m) where
  -- the list says what the candidate does
  abbrev pub SaysGives : Type 0
  SaysGives = (n : ℕ) (u : Tree) → ListSays b (level (setting_at S env) n) (Asked (setting_at S env)) u ↔ Gives (setting_at S env) n u

  abbrev pub SaysRefuted : Type 0
  SaysRefuted = (n : ℕ) → ListRefuted (level (setting_at S env) n) (Asked (setting_at S env)) ↔ Refuted (setting_at S env) n

  -- what is so of the setting that lists are made for is so of the goal's
  pub as-asked : (P : Setting → Type 0) → P (setting_at S env) → P (setting_of t m env)
  as-asked P h = subst (λ u. P (setting_of u m env)) rows (subst (λ k. P (setting_of S.rows.now k env)) mode h)

  pub face-gives : (sure : Certainty) (r : Result Rule Fault) → SaysGives → IfOk r (λ x. IsListed S.rows.now x (list_then sure (Asked (setting_at S env)))) →
      IfOk r (GivesAs b (setting_of t m env) sure (Gives (setting_of t m env)))
  face-gives sure r says h =
      as-asked (λ V. IfOk r (GivesAs b V sure (Gives V)))
      (listed-gives (setting_at S env) sure (Asked (setting_at S env)) b (Gives (setting_at S env)) r h says)

  pub face-refuted : (sure : Certainty) (r : Result Rule Fault) → SaysRefuted → IfOk r (λ x. IsListed S.rows.now x (list_then sure (Asked (setting_at S env)))) →
      IfOk r (RefutedAs (setting_of t m env) (λ n. Refuted (setting_of t m env) n))
  face-refuted sure r says h =
      as-asked (λ V. IfOk r (RefutedAs V (λ n. Refuted V n)))
      (listed-refuted (setting_at S env) sure (Asked (setting_at S env)) (λ n. Refuted (setting_at S env) n) r h says)

  pub face-told : (sure : Certainty) (r : Result Rule Fault) → IfOk r (λ x. IsListed S.rows.now x (list_then sure (Asked (setting_at S env)))) →
      IfOk r (IsToldBy t sure (Some (Asked (setting_of t m env))))
  face-told sure r h =
      as-asked (λ V. IfOk r (IsToldBy V.tables sure (Some (Asked V)))) (listed-told S.rows.now sure (Asked (setting_at S env)) r h)

  pub face-refusal : (r : Result Rule Fault) → SaysRefuted → IfErr r (IsRefusal (Asked (setting_at S env) ≡ None)) → IfErr r (IsRefusal (Refuted (setting_of t m env) 0))
  face-refusal r says h =
      as-asked (λ V. IfErr r (IsRefusal (Refuted V 0)))
      (refusal-says (Asked (setting_at S env) ≡ None) (Refuted (setting_at S env) 0) r
      (none-refuted (level (setting_at S env) 0) (Asked (setting_at S env)) (Refuted (setting_at S env) 0) (says 0)) h)

  pub face-named : (is_for : Bool) (r : Result Rule Fault) → SaysGives → SaysRefuted → (is_for ≡ false → r ≡ Err fault.NotForThisKind) →
      IfOk r (λ x. IsListed S.rows.now x (Asked (setting_at S env))) → (is_for ≡ true → IfErr r (IsRefusal (Asked (setting_at S env) ≡ None))) →
      IsNamedAnswer is_for b (setting_of t m env) (Gives (setting_of t m env)) (λ n. Refuted (setting_of t m env) n) r
  face-named is_for r gives refuted other listed declined =
      as-asked (λ V. IsNamedAnswer is_for b V (Gives V) (λ n. Refuted V n) r)
      (named-answer is_for b (setting_at S env) (Asked (setting_at S env)) (Gives (setting_at S env)) (λ n. Refuted (setting_at S env) n) r other listed declined gives refuted)

-- the list that is made over a table for a candidate of an older one
pub list-made : (list : List Tree → Candidate → Option (List Entry)) (T U : List Tree) (k : Keeps T U) (c : InternedCandidate) → CandidateIn T c →
    (ids : List TermId) (args : List Tree) → erased_all U ids ≡ args → (l : Option (List Entry)) → l ≡ list (erased_all U ids) (candidate_at U c) → l ≡ list args (candidate_at T c)
list-made list T U k c within ids args same l e = e ∙ ap₂ list same (candidate_same-grown T U k c within)

-- a list that isn't refused names only given arguments, also with what stands behind it
abbrev pub IsSomeGiven : Option (List Entry) → Type 0
IsSomeGiven o = (es : List Entry) × (o ≡ Some es) × ((c : Certainty) → AreGiven (es ++ entries_then c))

pub one-given : (ts us : List Tree) (c : Certainty) → AreGiven (equal_terms ts us ∷ entries_then c)
unfolding AreGiven
one-given ts us certainty.Yes = (tt, tt)
one-given ts us certainty.Maybe = (tt, (tt, tt))

listed-some : (t : Tables) (r : Rule) (c : Certainty) (o : Option (List Entry)) → IsSomeGiven o → IsListed t r (list_then c o) → only_given r.entries.items ≡ true
listed-some t r c o some h = listed-given t r.entries.items (some.0 ++ entries_then c) (subst (λ l. IsListed t r (list_then c l)) some.1 h) (some.2 c)

pub some-given : (t : Tables) (c : Certainty) (o : Option (List Entry)) (r : Result Rule Fault) → IsSomeGiven o → IfOk r (λ x. IsListed t x (list_then c o)) →
    IfOk r (λ x. only_given x.entries.items ≡ true)
some-given t c o (Ok x) some h = listed-some t x c o some h
some-given t c o (Err f) some h = tt
