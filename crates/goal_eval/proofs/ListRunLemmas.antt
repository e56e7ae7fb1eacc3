-- The steps of a run through a list of entries.
use Rattle.std.proofs.Common.{◌≡◌, ◌⊎◌, ℕ, Bool, true, false, List, [], ◌∷◌, ◌++◌, Some, None, Option, inl, inr, refl, sym, ap, ◌∙◌, subst, ⊎_elim}
use Rattle.std.specs.Prelude.{Vec, map, slice_get}
use Rattle.std.specs.Global.{Global}
use Rattle.std.proofs.lemmas.Bool.{false≢true}
use Rattle.std.proofs.lemmas.List.{map-append}
use Rattle.std.proofs.lemmas.List.Elements.{All-push, All-nil}
use Rattle.goal_terms.specs.Erased.{erased}
use Rattle.goal_terms.specs.PredicateTrees.{PredicateTree}
use Rattle.goal_interner.specs.TableMeaning.{Keeps}
use Rattle.goal_terms.specs.Tree.{Tree}
use Rattle.goal_terms.specs.declared.answers.DelayedFault.{DelayedFault}
use Rattle.goal_terms.specs.declared.answers.GoalSource.{GoalSource}
use Rattle.goal_terms.specs.declared.answers.OpaqueAccess.{OpaqueAccess}
use Rattle.goal_terms.specs.declared.predicates.BoundConstness.{BoundConstness}
use Rattle.goal_terms.specs.declared.predicates.Clause.{Clause}
use Rattle.goal_terms.specs.declared.predicates.TraitRef.{TraitRef}
use Rattle.goal_interner.specs.declared.term_nodes.TermId.{TermId}
use Rattle.goal_lists.specs.Entries.{Arguments, given_arguments, of_header, of_other_header, followed_by, ExpectedTerm, Entry, arguments, equal_terms, clause, row_clauses, row_conditions, expected, access, delayed_fault, evaluation, ambiguous, undecided, refused, OfNumbered, Named, NamedKnown, NamesNothing, TermIs, NoTerm, EntriesHold, EntriesRefuted, ListHolds, ListGives, ListRefuted, ListHoldsWith, ExpectsNone, AsksNoTerm}
use Rattle.goal_lists.specs.Headers.{under, no_lifetime}
use Rattle.goal_lists.specs.Interned.{IsIn, AreIn, erased_at, erased_all}
use Rattle.goal_lists.specs.Laws.{IsConsistent}
use Rattle.goal_lists.specs.Level.{Level}
use Rattle.goal_lists.specs.Premises.{ClauseHolds, ClauseRefuted, PremisesHold, PremisesRefuted, clauses_under, traits_under, conditions_as}
use Rattle.goal_lists.specs.Words.{Pairs, SomePair}
use Rattle.goal_lists.proofs.CandidateLemmas.{no_pair_unequal}
use Rattle.goal_lists.proofs.ContraryWords.{OfRow-twice}
use Rattle.goal_lists.proofs.InternedLemmas.{all-grow, map-same, in-grown, same-grown, are_in-grown, all_same-grown}
use Rattle.goal_lists.proofs.ListHeights.{named-known, no_names_nothing, no_term_none, one_term_is}
use Rattle.goal_lists.proofs.ListTerms.{weaker}
use Rattle.goal_lists.proofs.PremiseLemmas.{no_clause_refuted, no_premises_refuted}
use Rattle.goal_lists.proofs.SubstitutionLemmas.{one_substitution}
use Rattle.goal_eval.specs.Lists.{SaysList, ListTermIn, Progress, taken_at, TakenIn, progress_at, RunIn, at_start, HoldWith, AsksWith, IsRunning, IsUnsettled, LeadsOn, named_at, NamedIn, SaysNamed, SaysTerm, run_asking, reached_asking, TakesOn, GivesOn, reached_giving, NamesOn}
use Rattle.goal_eval.specs.Outcomes.{Says, FoundIn, MatchIn}
use Rattle.goal_eval.specs.declared.eval.lists.ListOutcome.{ListOutcome}
use Rattle.goal_eval.specs.declared.eval.lists.ListOutcome.TheVariants as list
use Rattle.goal_eval.specs.declared.eval.lists.progress.ListRun.{ListRun}
use Rattle.goal_lists.specs.declared.outcomes.Outcome.{Outcome}
use Rattle.goal_lists.specs.declared.outcomes.Outcome.TheVariants as outcome
use Rattle.goal_eval.specs.declared.eval.outcomes.Found.{Found}
use Rattle.goal_eval.specs.declared.eval.outcomes.Found.TheVariants as found
use Rattle.goal_eval.specs.declared.eval.outcomes.HeaderMatch.{HeaderMatch}
use Rattle.goal_eval.specs.declared.eval.outcomes.HeaderMatch.TheVariants as match
use Rattle.goal_eval.specs.declared.eval.lists.progress.Reached.{Reached}
use Rattle.goal_eval.specs.declared.eval.lists.progress.Reached.TheVariants as reached

-- an entry is known to name one list only
one_named : (L : Level) → IsConsistent L → (named : List (List Tree)) (a : Arguments) (s z : List Tree) → NamedKnown L named a s → NamedKnown L named a z → s ≡ z
unfolding NamedKnown
one_named L c named (given_arguments args) s z h k = h ∙ sym k
one_named L c named (of_header params hs gs) s z h k = one_substitution L c params (map erased hs) gs s z h k
one_named L c named (of_other_header params hs gs n) s z h k =
    OfRow-twice _ _ (λ y d e. one_substitution L c params (map erased hs) (map (under y) (map erased gs)) s z d e) (slice_get named n) h k
one_named L c named (followed_by n own) s z h k = OfRow-twice _ _ (λ y d e. d ∙ sym e) (slice_get named n) h k

-- lists of arguments stay the same when the table grows
named_same-grown : (T U : List Tree) → Keeps T U → (named : List (Vec TermId Global)) → NamedIn T named → named_at U named ≡ named_at T named
named_same-grown T U k named h =
    map-same (λ (ids : Vec TermId Global). AreIn T ids.items) (λ (ids : Vec TermId Global). erased_all U ids.items) (λ (ids : Vec TermId Global). erased_all T ids.items)
    (λ ids i. all_same-grown T U k ids.items i) named h

named_in-grown : (T U : List Tree) → Keeps T U → (named : List (Vec TermId Global)) → NamedIn T named → NamedIn U named
named_in-grown T U k named h =
    all-grow (λ (ids : Vec TermId Global). AreIn T ids.items) (λ (ids : Vec TermId Global). AreIn U ids.items) (λ ids i. are_in-grown T U k ids.items i) named h

-- a term that was found stays the same when the table grows
taken_same-grown : (T U : List Tree) → Keeps T U → (o : Option TermId) → TakenIn T o → taken_at U o ≡ taken_at T o
taken_same-grown T U k None h = refl
taken_same-grown T U k (Some id) h = ap Some (same-grown T U k id h)

taken_in-grown : (T U : List Tree) → Keeps T U → (o : Option TermId) → TakenIn T o → TakenIn U o
taken_in-grown T U k None h = tt
taken_in-grown T U k (Some id) h = in-grown T U k id h

-- progress, by its parts
abbrev pub progress_of : List (List Tree) → Bool → Option Tree → Progress
progress_of n h t = record { named = n; holds = h; term = t }

pub progress-same : (n m : List (List Tree)) (h g : Bool) (t u : Option Tree) → n ≡ m → h ≡ g → t ≡ u → progress_of n h t ≡ progress_of m g u
progress-same n m h g t u a b c = ap (λ x. progress_of x h t) a ∙ ap (λ x. progress_of m x t) b ∙ ap (λ x. progress_of m g x) c

-- a run stays as far when the table grows
pub progress_same-grown : (T U : List Tree) → Keeps T U → (r : ListRun) → RunIn T r → progress_at U r ≡ progress_at T r
progress_same-grown T U k r h =
    progress-same (named_at U r.named.items) (named_at T r.named.items) r.holds r.holds (taken_at U r.term) (taken_at T r.term)
    (named_same-grown T U k r.named.items h.0) refl (taken_same-grown T U k r.term h.1)

pub run_in-grown : (T U : List Tree) → Keeps T U → (r : ListRun) → RunIn T r → RunIn U r
run_in-grown T U k r h = (named_in-grown T U k r.named.items h.0, taken_in-grown T U k r.term h.1)

-- before the first entry
pub start-running : (L : Level) (all : List Entry) → IsRunning L at_start all all
start-running L all = record {
  refuted = λ h. h;
  refuted_back = λ h. h;
  holds = λ e t m h. h;
  holds_back = λ t h. (refl, tt, h);
  asks = λ e. ((λ h. h), (λ h. h));
}

pub start-in : (T : List Tree) (r : ListRun) → r.named.items ≡ [] → r.term ≡ None → RunIn T r
start-in T r named term =
    (subst (NamedIn T) (sym named) (All-nil (λ (ids : Vec TermId Global). AreIn T ids.items)), subst (TakenIn T) (sym term) tt)

-- an entry that expects no term leaves open whether one is asked for
silent-on : (o : Option Tree) (e : Entry) (rest all : List Entry) → ExpectsNone e → AsksWith o (e ∷ rest) all → AsksWith o rest all
unfolding AsksNoTerm
silent-on None e rest all none h = ((λ x. h.0 (none, x)), (λ x. (h.1 x).1))
silent-on (Some u) e rest all none h = h

-- an entry asks for a claim, and is refuted by another; it expects no term
pub record Asks (L : Level) (named : List (List Tree)) (e : Entry) (P R : Type 0) : Type 0 where
  pub part : (t : Tree) (rest : List Entry) → HoldWith L named t (e ∷ rest) → P × HoldWith L named t rest
  pub whole : (t : Tree) (rest : List Entry) → P → HoldWith L named t rest → HoldWith L named t (e ∷ rest)
  pub refuted_part : (rest : List Entry) → EntriesRefuted L named (e ∷ rest) → R ⊎ EntriesRefuted L named rest
  pub refuted_whole : (rest : List Entry) → R ⊎ EntriesRefuted L named rest → EntriesRefuted L named (e ∷ rest)
  pub silent : P → ExpectsNone e
  pub apart : P → R → ⊥

-- progress after such an entry
abbrev pub spoiled : Progress → Progress
spoiled p = record p { holds = false }

-- it holds
asks-held : (L : Level) (p : Progress) (e : Entry) (P R : Type 0) → Asks L p.named e P R → P → LeadsOn L p e p reached.Next
asks-held L p e P R a held rest all h = record {
  refuted = λ x. h.refuted (a.refuted_whole rest (inr x));
  refuted_back = λ y. ⊎_elim (λ r. absurd (a.apart held r)) (λ x. x) (a.refuted_part rest (h.refuted_back y));
  holds = λ i t m x. h.holds i t m (a.whole t rest held x);
  holds_back = λ t x. let back = h.holds_back t x in (back.0, back.1, (a.part t rest back.2).1);
  asks = λ i. silent-on p.term e rest all (a.silent held) (h.asks i);
}

-- it neither holds nor is refuted
asks-open : (L : Level) (p : Progress) (e : Entry) (P R : Type 0) → Asks L p.named e P R → (P → ⊥) × (R → ⊥) → LeadsOn L p e (spoiled p) reached.Next
asks-open L p e P R a neither rest all h = record {
  refuted = λ x. h.refuted (a.refuted_whole rest (inr x));
  refuted_back = λ y. ⊎_elim (λ r. absurd (neither.1 r)) (λ x. x) (a.refuted_part rest (h.refuted_back y));
  holds = λ i t m x. absurd (false≢true i);
  holds_back = λ t x. absurd (neither.0 (a.part t rest (h.holds_back t x).2).0);
  asks = λ i. absurd (false≢true i);
}

-- it is refuted
asks-refuted : (L : Level) (p q : Progress) (e : Entry) (P R : Type 0) → Asks L p.named e P R → R → LeadsOn L p e q reached.Refuted
asks-refuted L p q e P R a r rest all h = h.refuted (a.refuted_whole rest (inl r))

asks-at : (L : Level) (T U : List Tree) → Keeps T U → (r : ListRun) → RunIn T r → (e : Entry) (P R : Type 0) → Asks L (named_at T r.named.items) e P R →
    (o : Outcome) → Says P R o → LeadsOn L (progress_at T r) e (progress_at U (run_asking o r)) (reached_asking o)
asks-at L T U k r i e P R a outcome.Holds says =
    subst (λ q. LeadsOn L (progress_at T r) e q reached.Next) (sym (progress_same-grown T U k r i)) (asks-held L (progress_at T r) e P R a says)
asks-at L T U k r i e P R a outcome.Refuted says = asks-refuted L (progress_at T r) (progress_at U r) e P R a says
asks-at L T U k r i e P R a outcome.Undecided says =
    subst (λ q. LeadsOn L (progress_at T r) e (spoiled q) reached.Next) (sym (progress_same-grown T U k r i)) (asks-open L (progress_at T r) e P R a says)

-- an entry that has to hold
pub asking-leads : (L : Level) (T U : List Tree) → Keeps T U → (r s : ListRun) → RunIn T r → (d e : Entry) → d ≡ e → (P R : Type 0) → Asks L (named_at T r.named.items) e P R →
    (o : Outcome) → Says P R o → s ≡ run_asking o r → (q : Reached) → q ≡ reached_asking o → LeadsOn L (progress_at T r) d (progress_at U s) q
asking-leads L T U k r s i d e is P R a o says run q reached =
    subst (λ x. LeadsOn L (progress_at T r) x (progress_at U s) q) (sym is)
    (subst (λ x. LeadsOn L (progress_at T r) e (progress_at U x) q) (sym run)
    (subst (λ x. LeadsOn L (progress_at T r) e (progress_at U (run_asking o r)) x) (sym reached) (asks-at L T U k r i e P R a o says)))

-- the entries that ask for a claim
module _ (L : Level) (c : IsConsistent L) (named : List (List Tree)) where
  pub terms-ask : (ts us : List Tree) → Asks L named (equal_terms ts us) (Pairs L.equal ts us) (SomePair L.unequal ts us)
  unfolding EntriesHold EntriesRefuted
  terms-ask ts us = record {
    part = λ t rest h. h;
    whole = λ t rest h x. (h, x);
    refuted_part = λ rest h. h;
    refuted_whole = λ rest h. h;
    silent = λ h. tt;
    apart = λ h x. no_pair_unequal L c ts us h x;
  }

  pub clause-asks : (g : GoalSource) (p : PredicateTree) → Asks L named (clause g p) (ClauseHolds L p) (ClauseRefuted L p)
  unfolding EntriesHold EntriesRefuted
  clause-asks g p = record {
    part = λ t rest h. h;
    whole = λ t rest h x. (h, x);
    refuted_part = λ rest h. h;
    refuted_whole = λ rest h. h;
    silent = λ h. tt;
    apart = λ h x. no_clause_refuted L c p h x;
  }

  pub row-asks : (cs : List Clause) (n : ℕ) →
      Asks L named (row_clauses cs n) (OfNumbered named n (λ s. PremisesHold L (clauses_under s cs))) (OfNumbered named n (λ s. PremisesRefuted L (clauses_under s cs)))
  unfolding EntriesHold EntriesRefuted
  row-asks cs n = record {
    part = λ t rest h. h;
    whole = λ t rest h x. (h, x);
    refuted_part = λ rest h. h;
    refuted_whole = λ rest h. h;
    silent = λ h. tt;
    apart = λ h x. OfRow-twice _ _ (λ s d e. no_premises_refuted L c (clauses_under s cs) d e) (slice_get named n) h x;
  }

  pub conditions-ask : (b : BoundConstness) (rs : List TraitRef) (n : ℕ) →
      Asks L named (row_conditions b rs n) (OfNumbered named n (λ s. PremisesHold L (conditions_as b (traits_under s rs))))
      (OfNumbered named n (λ s. PremisesRefuted L (conditions_as b (traits_under s rs))))
  unfolding EntriesHold EntriesRefuted
  conditions-ask b rs n = record {
    part = λ t rest h. h;
    whole = λ t rest h x. (h, x);
    refuted_part = λ rest h. h;
    refuted_whole = λ rest h. h;
    silent = λ h. tt;
    apart = λ h x. OfRow-twice _ _ (λ s d e. no_premises_refuted L c (conditions_as b (traits_under s rs)) d e) (slice_get named n) h x;
  }

-- those that ask for nothing
module _ (L : Level) (named : List (List Tree)) where
  pub access-asks : (a : OpaqueAccess) → Asks L named (access a) (Unit {0}) ⊥
  unfolding EntriesHold EntriesRefuted
  access-asks a = record {
    part = λ t rest h. (tt, h);
    whole = λ t rest h x. x;
    refuted_part = λ rest h. inr h;
    refuted_whole = λ rest h. ⊎_elim (λ x. absurd x) (λ x. x) h;
    silent = λ h. tt;
    apart = λ h x. x;
  }

  pub fault-asks : (f : DelayedFault) → Asks L named (delayed_fault f) (Unit {0}) ⊥
  unfolding EntriesHold EntriesRefuted
  fault-asks f = record {
    part = λ t rest h. (tt, h);
    whole = λ t rest h x. x;
    refuted_part = λ rest h. inr h;
    refuted_whole = λ rest h. ⊎_elim (λ x. absurd x) (λ x. x) h;
    silent = λ h. tt;
    apart = λ h x. x;
  }

  pub evaluation-asks : Asks L named evaluation (Unit {0}) ⊥
  unfolding EntriesHold EntriesRefuted
  evaluation-asks = record {
    part = λ t rest h. (tt, h);
    whole = λ t rest h x. x;
    refuted_part = λ rest h. inr h;
    refuted_whole = λ rest h. ⊎_elim (λ x. absurd x) (λ x. x) h;
    silent = λ h. tt;
    apart = λ h x. x;
  }

  -- those that settle something by themselves
  pub ambiguous-asks : Asks L named ambiguous ⊥ ⊥
  unfolding EntriesHold EntriesRefuted
  ambiguous-asks = record {
    part = λ t rest h. absurd h;
    whole = λ t rest h x. absurd h;
    refuted_part = λ rest h. inr h;
    refuted_whole = λ rest h. ⊎_elim (λ x. absurd x) (λ x. x) h;
    silent = λ h. tt;
    apart = λ h x. x;
  }

  pub undecided-asks : Asks L named undecided ⊥ ⊥
  unfolding EntriesHold EntriesRefuted
  undecided-asks = record {
    part = λ t rest h. absurd h;
    whole = λ t rest h x. absurd h;
    refuted_part = λ rest h. inr h;
    refuted_whole = λ rest h. ⊎_elim (λ x. absurd x) (λ x. x) h;
    silent = λ h. tt;
    apart = λ h x. x;
  }

  pub refused-asks : Asks L named refused ⊥ (Unit {0})
  unfolding EntriesHold EntriesRefuted
  refused-asks = record {
    part = λ t rest h. absurd h;
    whole = λ t rest h x. absurd h;
    refuted_part = λ rest h. inl tt;
    refuted_whole = λ rest h. tt;
    silent = λ h. tt;
    apart = λ h x. h;
  }

-- a first term
first-leads : (L : Level) → IsConsistent L → (named : List (List Tree)) (b : Bool) (e : ExpectedTerm) (u : Tree) → TermIs L named e u →
    LeadsOn L (progress_of named b None) (expected e) (progress_of named b (Some u)) reached.Next
unfolding EntriesHold EntriesRefuted AsksNoTerm
first-leads L c named b e u is rest all h = record {
  refuted = λ x. h.refuted (inr x);
  refuted_back = λ y. ⊎_elim (λ r. absurd (no_term_none L c named e u is r)) (λ x. x) (h.refuted_back y);
  holds = λ i t m x. h.holds i t tt ((u, is, sym m), x);
  holds_back = λ t x. let back = h.holds_back t x in (back.0, sym back.2.0.2 ∙ one_term_is L c named e back.2.0.0 u back.2.0.1 is, back.2.1);
  asks = λ i none. ((h.asks i).1 none).0;
}

-- the same term once more
again-leads : (L : Level) → IsConsistent L → (named : List (List Tree)) (b : Bool) (e : ExpectedTerm) (u v : Tree) → TermIs L named e u → v ≡ u →
    LeadsOn L (progress_of named b (Some v)) (expected e) (progress_of named b (Some v)) reached.Next
unfolding EntriesHold EntriesRefuted
again-leads L c named b e u v is same rest all h = record {
  refuted = λ x. h.refuted (inr x);
  refuted_back = λ y. ⊎_elim (λ r. absurd (no_term_none L c named e u is r)) (λ x. x) (h.refuted_back y);
  holds = λ i t m x. h.holds i t m ((u, is, sym (m ∙ same)), x);
  holds_back = λ t x. let back = h.holds_back t x in (back.0, back.1, back.2.1);
  asks = λ i. h.asks i;
}

-- another term
other-leads : (L : Level) → IsConsistent L → (named : List (List Tree)) (b : Bool) (e : ExpectedTerm) (u v : Tree) → TermIs L named e u → (v ≡ u → ⊥) →
    LeadsOn L (progress_of named b (Some v)) (expected e) (progress_of named false (Some v)) reached.Next
unfolding EntriesHold EntriesRefuted
other-leads L c named b e u v is other rest all h = record {
  refuted = λ x. h.refuted (inr x);
  refuted_back = λ y. ⊎_elim (λ r. absurd (no_term_none L c named e u is r)) (λ x. x) (h.refuted_back y);
  holds = λ i t m x. absurd (false≢true i);
  holds_back = λ t x. let back = h.holds_back t x in absurd (other (sym back.1 ∙ sym back.2.0.2 ∙ one_term_is L c named e back.2.0.0 u back.2.0.1 is));
  asks = λ i. absurd (false≢true i);
}

-- no term is found, and it isn't refuted that there is one
lack-leads : (L : Level) (p : Progress) (e : ExpectedTerm) → ((u : Tree) → TermIs L p.named e u → ⊥) × (NoTerm L p.named e → ⊥) →
    LeadsOn L p (expected e) (spoiled p) reached.Next
unfolding EntriesHold EntriesRefuted
lack-leads L p e neither rest all h = record {
  refuted = λ x. h.refuted (inr x);
  refuted_back = λ y. ⊎_elim (λ r. absurd (neither.1 r)) (λ x. x) (h.refuted_back y);
  holds = λ i t m x. absurd (false≢true i);
  holds_back = λ t x. let back = h.holds_back t x in absurd (neither.0 back.2.0.0 back.2.0.1);
  asks = λ i. absurd (false≢true i);
}

none-leads : (L : Level) (p q : Progress) (e : ExpectedTerm) → NoTerm L p.named e → LeadsOn L p (expected e) q reached.Refuted
unfolding EntriesRefuted
none-leads L p q e none rest all h = h.refuted (inl none)

-- the term of an entry, by what was found before
taking-at : (L : Level) → IsConsistent L → (named : List (List Tree)) (U : List Tree) (r s : ListRun) (e : ExpectedTerm) (id : TermId) → named_at U r.named.items ≡ named →
    TermIs L named e (erased_at U id) → (o : Option TermId) → TakesOn U id o (record r { term = o }) s →
    LeadsOn L (progress_of named r.holds (taken_at U o)) (expected e) (progress_at U s) reached.Next
taking-at L c named U r s e id same is None on =
    subst (λ x. LeadsOn L (progress_of named r.holds None) (expected e) (progress_at U x) reached.Next) (sym on)
    (subst (λ ns. LeadsOn L (progress_of named r.holds None) (expected e) (progress_of ns r.holds (Some (erased_at U id))) reached.Next) (sym same)
    (first-leads L c named r.holds e (erased_at U id) is))
taking-at L c named U r s e id same is (Some x) (inl on) =
    subst (λ y. LeadsOn L (progress_of named r.holds (Some (erased_at U x))) (expected e) (progress_at U y) reached.Next) (sym on.1)
    (subst (λ ns. LeadsOn L (progress_of named r.holds (Some (erased_at U x))) (expected e) (progress_of ns r.holds (Some (erased_at U x))) reached.Next) (sym same)
    (again-leads L c named r.holds e (erased_at U id) (erased_at U x) is on.0))
taking-at L c named U r s e id same is (Some x) (inr on) =
    subst (λ y. LeadsOn L (progress_of named r.holds (Some (erased_at U x))) (expected e) (progress_at U y) reached.Next) (sym on.1)
    (subst (λ ns. LeadsOn L (progress_of named r.holds (Some (erased_at U x))) (expected e) (progress_of ns false (Some (erased_at U x))) reached.Next) (sym same)
    (other-leads L c named r.holds e (erased_at U id) (erased_at U x) is on.0))

giving-at : (L : Level) → IsConsistent L → (T U : List Tree) → Keeps T U → (r s : ListRun) → RunIn T r → (e : ExpectedTerm) (f : Found) →
    SaysTerm L (named_at T r.named.items) e U f → GivesOn U f r s →
    LeadsOn L (progress_at T r) (expected e) (progress_at U s) (reached_giving f)
giving-at L c T U k r s i e (found.Is id) says on =
    subst (λ t. LeadsOn L (progress_of (named_at T r.named.items) r.holds t) (expected e) (progress_at U s) reached.Next) (taken_same-grown T U k r.term i.1)
    (taking-at L c (named_at T r.named.items) U r s e id (named_same-grown T U k r.named.items i.0) says r.term on)
giving-at L c T U k r s i e found.Refuted says on = none-leads L (progress_at T r) (progress_at U s) e says
giving-at L c T U k r s i e found.Undecided says on =
    subst (λ x. LeadsOn L (progress_at T r) (expected e) (progress_at U x) reached.Next) (sym on)
    (subst (λ q. LeadsOn L (progress_at T r) (expected e) (spoiled q) reached.Next) (sym (progress_same-grown T U k r i)) (lack-leads L (progress_at T r) e says))

-- an entry for the expected term
pub giving-leads : (L : Level) → IsConsistent L → (T U : List Tree) → Keeps T U → (r s : ListRun) → RunIn T r → (d : Entry) (e : ExpectedTerm) → d ≡ expected e →
    (ns : List (Vec TermId Global)) → ns ≡ r.named.items → (f : Found) → SaysTerm L (named_at T ns) e U f →
    GivesOn U f r s → (q : Reached) → q ≡ reached_giving f → LeadsOn L (progress_at T r) d (progress_at U s) q
giving-leads L c T U k r s i d e is ns named f says on q reached =
    subst (λ x. LeadsOn L (progress_at T r) x (progress_at U s) q) (sym is)
    (subst (λ x. LeadsOn L (progress_at T r) (expected e) (progress_at U s) x) (sym reached)
    (giving-at L c T U k r s i e f (subst (λ xs. SaysTerm L (named_at T xs) e U f) named says) on))

taking_in-at : (U : List Tree) (r s : ListRun) (id : TermId) (o : Option TermId) → NamedIn U r.named.items → TakenIn U o → IsIn U id → TakesOn U id o (record r { term = o }) s → RunIn U s
taking_in-at U r s id None named i h on = subst (RunIn U) (sym on) (named, h)
taking_in-at U r s id (Some x) named i h (inl on) = subst (RunIn U) (sym on.1) (named, i)
taking_in-at U r s id (Some x) named i h (inr on) = subst (RunIn U) (sym on.1) (named, i)

giving_in-at : (U : List Tree) (r s : ListRun) (f : Found) → RunIn U r → FoundIn U f → GivesOn U f r s → RunIn U s
giving_in-at U r s (found.Is id) i h on = taking_in-at U r s id r.term i.0 i.1 h on
giving_in-at U r s found.Refuted i h on = subst (RunIn U) (sym on) i
giving_in-at U r s found.Undecided i h on = subst (RunIn U) (sym on) i

pub giving-in : (T U : List Tree) → Keeps T U → (r s : ListRun) → RunIn T r → (f : Found) → FoundIn U f → GivesOn U f r s → RunIn U s
giving-in T U k r s i f h on = giving_in-at U r s f (run_in-grown T U k r i) h on

-- arguments that are named: they fit
fits-lead : (L : Level) → IsConsistent L → (p : Progress) (a : Arguments) (s : List Tree) → Named L p.named a s →
    LeadsOn L p (arguments a) (progress_of (p.named ++ s ∷ []) p.holds p.term) reached.Next
unfolding EntriesHold EntriesRefuted
fits-lead L c p a s is rest all h =
    let known = named-known L c p.named a s is in
    record {
      refuted = λ x. h.refuted (inr (s, known, x));
      refuted_back = λ y. ⊎_elim (λ r. absurd (no_names_nothing L c p.named a s is r))
          (λ x. subst (λ z. EntriesRefuted L (p.named ++ z ∷ []) rest) (sym (one_named L c p.named a s x.0 known x.1)) x.2) (h.refuted_back y);
      holds = λ i t m x. h.holds i t m (s, is, x);
      holds_back = λ t x.
          let back = h.holds_back t x in (
            back.0,
            back.1,
            subst (λ z. HoldWith L (p.named ++ z ∷ []) t rest) (sym (one_named L c p.named a s back.2.0 known (named-known L c p.named a back.2.0 back.2.1))) back.2.2,
          );
      asks = λ i. silent-on p.term (arguments a) rest all tt (h.asks i);
    }

-- they are known, and don't fit
known-lead : (L : Level) → IsConsistent L → (p : Progress) (a : Arguments) (s : List Tree) → NamedKnown L p.named a s → ((z : List Tree) → Named L p.named a z → ⊥) →
    (NamesNothing L p.named a → ⊥) → LeadsOn L p (arguments a) (progress_of (p.named ++ s ∷ []) false p.term) reached.Next
unfolding EntriesHold EntriesRefuted
known-lead L c p a s known unfit unclash rest all h = record {
  refuted = λ x. h.refuted (inr (s, known, x));
  refuted_back = λ y. ⊎_elim (λ r. absurd (unclash r))
      (λ x. subst (λ z. EntriesRefuted L (p.named ++ z ∷ []) rest) (sym (one_named L c p.named a s x.0 known x.1)) x.2) (h.refuted_back y);
  holds = λ i t m x. absurd (false≢true i);
  holds_back = λ t x. let back = h.holds_back t x in absurd (unfit back.2.0 back.2.1);
  asks = λ i. absurd (false≢true i);
}

-- they clash, or aren't known
clash-leads : (L : Level) (p q : Progress) (a : Arguments) → NamesNothing L p.named a → LeadsOn L p (arguments a) q reached.Refuted
unfolding EntriesRefuted
clash-leads L p q a clash rest all h = h.refuted (inl clash)

unknown-leads : (L : Level) → IsConsistent L → (p q : Progress) (a : Arguments) → ((s : List Tree) → NamedKnown L p.named a s → ⊥) × (NamesNothing L p.named a → ⊥) →
    LeadsOn L p (arguments a) q reached.Undecided
unfolding EntriesHold EntriesRefuted
unknown-leads L c p q a neither rest all h = (
  (λ t x. let back = h.holds_back t x in neither.0 back.2.0 (named-known L c p.named a back.2.0 back.2.1)),
  (λ y. ⊎_elim neither.1 (λ x. neither.0 x.0 x.1) (h.refuted_back y)),
)

-- one more list of arguments
named-more : (T U : List Tree) → Keeps T U → (named more : List (Vec TermId Global)) (s : Vec TermId Global) → NamedIn T named → more ≡ named ++ s ∷ [] →
    named_at U more ≡ named_at T named ++ erased_all U s.items ∷ []
named-more T U k named more s i e =
    ap (named_at U) e ∙ map-append (λ (ids : Vec TermId Global). erased_all U ids.items) named (s ∷ [])
    ∙ ap (λ ns. ns ++ erased_all U s.items ∷ []) (named_same-grown T U k named i)

named_in-more : (U : List Tree) (named more : List (Vec TermId Global)) (s : Vec TermId Global) → NamedIn U named → AreIn U s.items → more ≡ named ++ s ∷ [] → NamedIn U more
named_in-more U named more s i h e =
    subst (NamedIn U) (sym e) (All-push (λ (ids : Vec TermId Global). AreIn U ids.items) named s i h)

progress-named : (T U : List Tree) → Keeps T U → (r s : ListRun) → RunIn T r → (ids : Vec TermId Global) (b : Bool) → s.named.items ≡ r.named.items ++ ids ∷ [] → s.holds ≡ b →
    s.term ≡ r.term → progress_at U s ≡ progress_of (named_at T r.named.items ++ erased_all U ids.items ∷ []) b (taken_at T r.term)
progress-named T U k r s i ids b named holds term =
    progress-same (named_at U s.named.items) (named_at T r.named.items ++ erased_all U ids.items ∷ []) s.holds b (taken_at U s.term) (taken_at T r.term)
    (named-more T U k r.named.items s.named.items ids i.0 named) holds (ap (taken_at U) term ∙ taken_same-grown T U k r.term i.1)

naming-at : (L : Level) → IsConsistent L → (T U : List Tree) → Keeps T U → (r s : ListRun) → RunIn T r → (a : Arguments) (f : HeaderMatch) (q : Reached) →
    SaysNamed L (named_at T r.named.items) a U f → NamesOn f r s q → LeadsOn L (progress_at T r) (arguments a) (progress_at U s) q
naming-at L c T U k r s i a (match.Fits ids) q says on =
    subst (λ x. LeadsOn L (progress_at T r) (arguments a) x q) (sym (progress-named T U k r s i ids r.holds on.1 on.2 on.3))
    (subst (λ x. LeadsOn L (progress_at T r) (arguments a) (progress_of (named_at T r.named.items ++ erased_all U ids.items ∷ []) r.holds (taken_at T r.term)) x) (sym on.0)
    (fits-lead L c (progress_at T r) a (erased_all U ids.items) says))
naming-at L c T U k r s i a (match.Known ids) q says on =
    subst (λ x. LeadsOn L (progress_at T r) (arguments a) x q) (sym (progress-named T U k r s i ids false on.1 on.2 on.3))
    (subst (λ x. LeadsOn L (progress_at T r) (arguments a) (progress_of (named_at T r.named.items ++ erased_all U ids.items ∷ []) false (taken_at T r.term)) x) (sym on.0)
    (known-lead L c (progress_at T r) a (erased_all U ids.items) says.0 says.1 says.2))
naming-at L c T U k r s i a match.Clashes q says on =
    subst (λ x. LeadsOn L (progress_at T r) (arguments a) (progress_at U s) x) (sym on.0) (clash-leads L (progress_at T r) (progress_at U s) a says)
naming-at L c T U k r s i a match.Unknown q says on =
    subst (λ x. LeadsOn L (progress_at T r) (arguments a) (progress_at U s) x) (sym on.0) (unknown-leads L c (progress_at T r) (progress_at U s) a says)

-- an entry that names arguments
pub naming-leads : (L : Level) → IsConsistent L → (T U : List Tree) → Keeps T U → (r s : ListRun) → RunIn T r → (d : Entry) (a : Arguments) → d ≡ arguments a →
    (ns : List (Vec TermId Global)) → ns ≡ r.named.items → (f : HeaderMatch) (q : Reached) → SaysNamed L (named_at T ns) a U f → NamesOn f r s q →
    LeadsOn L (progress_at T r) d (progress_at U s) q
naming-leads L c T U k r s i d a is ns named f q says on =
    subst (λ x. LeadsOn L (progress_at T r) x (progress_at U s) q) (sym is)
    (naming-at L c T U k r s i a f q (subst (λ xs. SaysNamed L (named_at T xs) a U f) named says) on)

pub naming-in : (T U : List Tree) → Keeps T U → (r s : ListRun) → RunIn T r → (f : HeaderMatch) (q : Reached) → MatchIn U f → NamesOn f r s q → RunIn U s
naming-in T U k r s i (match.Fits ids) q h on =
    (named_in-more U r.named.items s.named.items ids (named_in-grown T U k r.named.items i.0) h on.1, subst (TakenIn U) (sym on.3) (taken_in-grown T U k r.term i.1))
naming-in T U k r s i (match.Known ids) q h on =
    (named_in-more U r.named.items s.named.items ids (named_in-grown T U k r.named.items i.0) h on.1, subst (TakenIn U) (sym on.3) (taken_in-grown T U k r.term i.1))
naming-in T U k r s i match.Clashes q h on = subst (RunIn U) (sym on.1) (run_in-grown T U k r i)
naming-in T U k r s i match.Unknown q h on = subst (RunIn U) (sym on.1) (run_in-grown T U k r i)

-- entries that hold and expect a term give it
asked-gives : (L : Level) (P : Tree → Type 0) (named : List (List Tree)) (es : List Entry) → (AsksNoTerm es → ⊥) → EntriesHold L P (Unit {0}) named es → EntriesHold L P ⊥ named es
unfolding EntriesHold AsksNoTerm
asked-gives L P named [] asks h = asks tt
asked-gives L P named (arguments a ∷ es) asks h = (h.0, h.1, asked-gives L P (named ++ h.0 ∷ []) es (λ x. asks (tt, x)) h.2)
asked-gives L P named (equal_terms ts us ∷ es) asks h = (h.0, asked-gives L P named es (λ x. asks (tt, x)) h.1)
asked-gives L P named (clause g p ∷ es) asks h = (h.0, asked-gives L P named es (λ x. asks (tt, x)) h.1)
asked-gives L P named (row_clauses cs n ∷ es) asks h = (h.0, asked-gives L P named es (λ x. asks (tt, x)) h.1)
asked-gives L P named (row_conditions b rs n ∷ es) asks h = (h.0, asked-gives L P named es (λ x. asks (tt, x)) h.1)
asked-gives L P named (expected e ∷ es) asks h = h
asked-gives L P named (access a ∷ es) asks h = asked-gives L P named es (λ x. asks (tt, x)) h
asked-gives L P named (delayed_fault f ∷ es) asks h = asked-gives L P named es (λ x. asks (tt, x)) h
asked-gives L P named (evaluation ∷ es) asks h = asked-gives L P named es (λ x. asks (tt, x)) h
asked-gives L P named (ambiguous ∷ es) asks h = h
asked-gives L P named (undecided ∷ es) asks h = h
asked-gives L P named (refused ∷ es) asks h = h

-- what comes after the last entry
ended : (L : Level) (T : List Tree) (named : List (List Tree)) (b : Bool) (t : Option TermId) (all : List Entry) (o : ListOutcome) →
    IsRunning L (progress_of named b (taken_at T t)) [] all → (b ≡ true → o ≡ list.Holds t) → (b ≡ false → o ≡ list.Undecided) → SaysList L (Some all) T o
unfolding EntriesHold EntriesRefuted AsksNoTerm ListHolds ListGives ListRefuted ListHoldsWith
ended L T named true None all o h whole partly =
    subst (SaysList L (Some all) T) (sym (whole refl))
    (weaker L (λ u. u ≡ no_lifetime) (λ u. Unit {0}) (Unit {0}) (Unit {0}) [] all (λ u e. tt) (λ x. x) (h.holds refl no_lifetime tt tt), (h.asks refl).0 tt)
ended L T named true (Some x) all o h whole partly =
    subst (SaysList L (Some all) T) (sym (whole refl)) (asked-gives L (λ u. u ≡ erased_at T x) [] all (h.asks refl) (h.holds refl (erased_at T x) refl tt))
ended L T named false t all o h whole partly =
    subst (SaysList L (Some all) T) (sym (partly refl)) ((λ u x. false≢true (h.holds_back u x).0), (λ y. h.refuted_back y))

pub end-says : (L : Level) (T : List Tree) (r : ListRun) (all : List Entry) (o : ListOutcome) → IsRunning L (progress_at T r) [] all → (r.holds ≡ true → o ≡ list.Holds r.term) →
    (r.holds ≡ false → o ≡ list.Undecided) → SaysList L (Some all) T o
end-says L T r all o h whole partly = ended L T (named_at T r.named.items) r.holds r.term all o h whole partly

-- what settles a list before its end
pub refuted-says : (L : Level) (T : List Tree) (all : List Entry) → EntriesRefuted L [] all → SaysList L (Some all) T list.Refuted
unfolding ListRefuted
refuted-says L T all h = h

pub unsettled-says : (L : Level) (T : List Tree) (all : List Entry) → IsUnsettled L all → SaysList L (Some all) T list.Undecided
unfolding ListHoldsWith ListRefuted
unsettled-says L T all h = h

-- its term is in the table
held-in : (T : List Tree) (t : Option TermId) → TakenIn T t → ListTermIn T (list.Holds t)
held-in T None i = tt
held-in T (Some id) i = i

ended-in : (T : List Tree) (b : Bool) (t : Option TermId) (o : ListOutcome) → TakenIn T t → (b ≡ true → o ≡ list.Holds t) → (b ≡ false → o ≡ list.Undecided) → ListTermIn T o
ended-in T true t o i whole partly = subst (ListTermIn T) (sym (whole refl)) (held-in T t i)
ended-in T false t o i whole partly = subst (ListTermIn T) (sym (partly refl)) tt

pub end-in : (T : List Tree) (r : ListRun) (o : ListOutcome) → RunIn T r → (r.holds ≡ true → o ≡ list.Holds r.term) → (r.holds ≡ false → o ≡ list.Undecided) → ListTermIn T o
end-in T r o i whole partly = ended-in T r.holds r.term o i.1 whole partly
