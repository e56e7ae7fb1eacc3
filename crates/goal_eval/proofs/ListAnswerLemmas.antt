-- A run through all entries of a list, and what the list comes to.
use Rattle.std.proofs.Common.{◌≡◌, ◌<◌, ◌≤◌, ◌+◌, ℕ, true, false, List, [], ◌∷◌, length, get_or, drop, Some, None, Option, Ok, Err, inl, inr, refl, sym, ap, ◌∙◌, subst, ⊎_elim}
use Rattle.std.specs.Prelude.{Vec, IfOk, Result}
use Rattle.std.specs.Global.{Global}
use Rattle.std.specs.List.{All}
use Rattle.std.proofs.lemmas.List.{at_drop_more, drop_all}
use Rattle.goal_interner.specs.TableMeaning.{Keeps}
use Rattle.goal_terms.specs.Tree.{Tree}
use Rattle.goal_terms.specs.declared.modes.TypingMode.{TypingMode}
use Rattle.goal_tables.specs.declared.rows.Tables.{Tables}
use Rattle.goal_lists.specs.Causes.{IsCausedEntry}
use Rattle.goal_lists.specs.Entries.{Entry, ListRefuted}
use Rattle.goal_lists.specs.InternedEntries.{entry_at, EntryIn, entries_at, EntriesIn, list_at}
use Rattle.goal_lists.specs.Level.{Level}
use Rattle.goal_lists.specs.ListModes.{IsAccess, StandsIn, ListStandsIn}
use Rattle.goal_lists.specs.Settings.{is_headline}
use Rattle.goal_lists.specs.declared.lists.InternedEntry.{InternedEntry}
use Rattle.goal_lists.proofs.GrowingEntries.{entry_in-grown, entry_same-grown}
use Rattle.goal_eval.specs.Lists.{IsListFor, AreEntriesFor, SaysList, SaysEntries, named_at, progress_at, taken_at, IsRunning, Leads, LeadsOn}
use Rattle.goal_eval.specs.Outcomes.{RunsFor, level_in, StopsAtModes}
use Rattle.goal_eval.specs.declared.eval.lists.ListOutcome.{ListOutcome}
use Rattle.goal_eval.specs.declared.eval.lists.ListOutcome.TheVariants as list
use Rattle.goal_eval.specs.declared.eval.lists.progress.ListRun.{ListRun}
use Rattle.goal_eval.specs.declared.eval.outcomes.OnAccess.TheVariants as on_access
use Rattle.goal_eval.specs.declared.eval.outcomes.Setting as over
use Rattle.goal_eval.specs.declared.eval.outcomes.Stop.{Stop}
use Rattle.goal_eval.specs.declared.eval.lists.progress.Reached.{Reached}
use Rattle.goal_eval.specs.declared.eval.lists.progress.Reached.TheVariants as reached
use Rattle.goal_eval.proofs.ListRunLemmas.{progress-same, start-running, end-says, refuted-says, unsettled-says}
use Rattle.goal_eval.proofs.OutcomeLists.{All-at}

-- for each list that a run's entries stand for, a rest that they stand for from a place on says the same as all of it
abbrev pub RunsSoFar : over.Setting → ℕ → List Tree → List InternedEntry → List Tree → ListRun → ℕ → Type 0
RunsSoFar c n T es U r i =
    (m : TypingMode) → RunsFor c m → (q : List Entry) → AreEntriesFor c (entries_at T es) q
    → (rest : List Entry) × AreEntriesFor c (entries_at T (drop i es)) rest × IsRunning (level_in c m n) (progress_at U r) rest q

-- before the first entry
pub runs-start : (c : over.Setting) (n : ℕ) (T : List Tree) (es : List InternedEntry) (r : ListRun) → r.named.items ≡ [] → r.holds ≡ true → r.term ≡ None → RunsSoFar c n T es T r 0
runs-start c n T es r named holds term m s q f = (
  q,
  f,
  subst (λ p. IsRunning (level_in c m n) p q q)
      (sym (progress-same (named_at T r.named.items) [] r.holds true (taken_at T r.term) None (ap (named_at T) named) holds (ap (taken_at T) term)))
      (start-running (level_in c m n) q),
)

-- entries that stand for others begin with the same one, if that reads no mode, and the rest does so
first-same : (c : over.Setting) (e : Entry) (es fs : List Entry) → AreEntriesFor c (e ∷ es) fs → (StopsAtModes c.on_access c.typing_mode.now → IsAccess e → ⊥) →
    (gs : List Entry) × (fs ≡ e ∷ gs) × AreEntriesFor c es gs
unfolding StandsIn
first-same c e es fs (inl h) reads = (es, h, inl refl)
first-same c e es fs (inr h) reads = ⊎_elim (λ x. absurd (reads h.0 x)) (λ x. (x.0, x.1, inr (h.0, x.2))) h.1

none-left : (c : over.Setting) (fs : List Entry) → AreEntriesFor c [] fs → fs ≡ []
unfolding StandsIn
none-left c fs (inl h) = h
none-left c fs (inr h) = h.1

-- the entry at a place is in the table that has grown since
pub entry-in : (T U : List Tree) → Keeps T U → (es : List InternedEntry) (i : ℕ) (e : InternedEntry) → EntriesIn T es → i < length es → e ≡ get_or es i e → EntryIn U e
entry-in T U k es i e h l at = entry_in-grown T U k e (All-at (EntryIn T) es i e h l at)

pub caused-at : (t : Tables) (es : List InternedEntry) (i : ℕ) (e : InternedEntry) → All (IsCausedEntry t) es → i < length es → e ≡ get_or es i e → IsCausedEntry t e
caused-at t es i e h l at = All-at (IsCausedEntry t) es i e h l at

module _ (c : over.Setting) (n : ℕ) (T U V : List Tree) (kept : Keeps T U) (es : List InternedEntry) (within : EntriesIn T es) (r z : ListRun) (i : ℕ) (e : InternedEntry) (o : Reached)
    (below : i < length es) (at : e ≡ get_or es i e) (so_far : RunsSoFar c n T es U r i) (reads : c.on_access ≡ on_access.Stop → is_headline c.typing_mode.now ≡ false → IsAccess (entry_at U e) → ⊥)
    (says : (m : TypingMode) → RunsFor c m → LeadsOn (level_in c m n) (progress_at U r) (entry_at U e) (progress_at V z) o) where
  -- an entry, with what comes before and behind it
  lead-here : (m : TypingMode) → RunsFor c m → (q : List Entry) → AreEntriesFor c (entries_at T es) q →
      (gs : List Entry) × AreEntriesFor c (entries_at T (drop (i + 1) es)) gs × Leads (level_in c m n) (progress_at U r) (entry_at U e ∷ gs) gs q (progress_at V z) o
      × IsRunning (level_in c m n) (progress_at U r) (entry_at U e ∷ gs) q
  lead-here m s q f =
      let here = so_far m s q f in
      let same : entry_at U e ≡ entry_at T e = entry_same-grown T U kept e (All-at (EntryIn T) es i e within below at) in
      let left : entries_at T (drop i es) ≡ entry_at U e ∷ entries_at T (drop (i + 1) es) =
      at_drop_more (entries_at T) es i e below ∙ ap (λ x. entry_at T x ∷ entries_at T (drop (i + 1) es)) (sym at) ∙ ap (λ x. x ∷ entries_at T (drop (i + 1) es)) (sym same) in
      let split = first-same c (entry_at U e) (entries_at T (drop (i + 1) es)) here.0
      (subst (λ xs. AreEntriesFor c xs here.0) left here.1) (λ stops. reads stops.1 stops.0) in
      (split.0, split.2, says m s split.0 q, subst (λ xs. IsRunning (level_in c m n) (progress_at U r) xs q) split.1 here.2)

  -- the next entry
  pub runs-next : o ≡ reached.Next → RunsSoFar c n T es V z (i + 1)
  runs-next is m s q f =
      let here = lead-here m s q f in
      (here.0, here.1, subst (λ x. Leads (level_in c m n) (progress_at U r) (entry_at U e ∷ here.0) here.0 q (progress_at V z) x) is here.2 here.3)

  -- an entry that settles the list
  pub runs-refuted : o ≡ reached.Refuted → (W : List Tree) (m : TypingMode) → RunsFor c m → (q : List Entry) → AreEntriesFor c (entries_at T es) q →
      SaysList (level_in c m n) (Some q) W list.Refuted
  runs-refuted is W m s q f =
      let here = lead-here m s q f in
      refuted-says (level_in c m n) W q (subst (λ x. Leads (level_in c m n) (progress_at U r) (entry_at U e ∷ here.0) here.0 q (progress_at V z) x) is here.2 here.3)

  pub runs-undecided : o ≡ reached.Undecided → (W : List Tree) (m : TypingMode) → RunsFor c m → (q : List Entry) → AreEntriesFor c (entries_at T es) q →
      SaysList (level_in c m n) (Some q) W list.Undecided
  runs-undecided is W m s q f =
      let here = lead-here m s q f in
      unsettled-says (level_in c m n) W q (subst (λ x. Leads (level_in c m n) (progress_at U r) (entry_at U e ∷ here.0) here.0 q (progress_at V z) x) is here.2 here.3)

-- after the last entry
pub runs-end : (c : over.Setting) (n : ℕ) (T : List Tree) (es : List InternedEntry) (U : List Tree) (r : ListRun) (i : ℕ) (o : ListOutcome) → length es ≤ i → RunsSoFar c n T es U r i →
    (r.holds ≡ true → o ≡ list.Holds r.term) → (r.holds ≡ false → o ≡ list.Undecided) →
    (m : TypingMode) → RunsFor c m → (q : List Entry) → AreEntriesFor c (entries_at T es) q → SaysList (level_in c m n) (Some q) U o
runs-end c n T es U r i o l so_far whole partly m s q f =
    let here = so_far m s q f in
    let none : here.0 ≡ [] = none-left c here.0 (subst (λ xs. AreEntriesFor c (entries_at T xs) here.0) (drop_all i es l) here.1) in
    end-says (level_in c m n) U r q o (subst (λ xs. IsRunning (level_in c m n) (progress_at U r) xs q) none here.2) whole partly

-- a list that is refused is refuted
pub none-says : (L : Level) (c : over.Setting) (T : List Tree) (q : Option (List Entry)) → IsListFor c None q → SaysList L q T list.Refuted
unfolding ListStandsIn ListRefuted
none-says L c T q (inl h) = subst (ListRefuted L) (sym h) tt
none-says L c T q (inr h) = subst (ListRefuted L) (sym h.1) tt

-- one that isn't says what its entries do
some-says : (L : Level) (c : over.Setting) (es : List Entry) (T : List Tree) (o : ListOutcome) → SaysEntries c es L T o → (q : Option (List Entry)) → IsListFor c (Some es) q → SaysList L q T o
unfolding ListStandsIn
some-says L c es T o says q (inl h) = subst (λ x. SaysList L x T o) (sym h) (says es (inl refl))
some-says L c es T o says q (inr h) = subst (λ x. SaysList L x T o) (sym h.1.1) (says h.1.0 (inr (h.0, h.1.2)))

pub list-says : (L : Level) (c : over.Setting) (T U : List Tree) (l : Option (Vec InternedEntry Global)) (v : Vec InternedEntry Global) (es : List InternedEntry) (r : Result ListOutcome Stop) →
    l ≡ Some v → es ≡ v.items → IfOk r (SaysEntries c (entries_at T es) L U) → (q : Option (List Entry)) → IsListFor c (list_at T l) q → IfOk r (SaysList L q U)
list-says L c T U l v es (Ok o) is same says q f =
    some-says L c (entries_at T es) U o says q (subst (λ x. IsListFor c x q) (ap (list_at T) is ∙ ap (λ xs. Some (entries_at T xs)) (sym same)) f)
list-says L c T U l v es (Err x) is same says q f = tt
