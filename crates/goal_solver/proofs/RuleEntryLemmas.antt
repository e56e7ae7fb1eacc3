-- Where an entry of a rule leads a run through the list that the rule stands for, and for which variable a list has a term.
use Rattle.std.proofs.Common.{◌≡◌, ◌<◌, ◌≤◌, ◌+◌, ℕ, true, false, List, [], ◌∷◌, ◌++◌, length, get_or, drop, Some, None, Option, Result, Ok, Err, refl, sym, ap, ◌∙◌, subst}
use Rattle.std.specs.Prelude.{IfOk}
use Rattle.std.specs.Option.{option_map}
use Rattle.std.proofs.lemmas.Bool.{false≢true}
use Rattle.std.proofs.lemmas.List.{at_drop_more, drop_all}
use Rattle.goal_interner.specs.TableMeaning.{Keeps}
use Rattle.goal_terms.specs.Tree.{Tree}
use Rattle.goal_interner.proofs.InternLemmas.{keeps-refl}
use Rattle.goal_tables.specs.declared.rows.Tables.{Tables}
use Rattle.goal_lists.specs.Entries.{Arguments, Entry, arguments, row_clauses, row_conditions, expected, access, delayed_fault, undecided, EntriesHold, EntriesRefuted, AsksNoTerm}
use Rattle.goal_lists.specs.InternedEntries.{entry_at}
use Rattle.goal_lists.specs.Level.{Level}
use Rattle.goal_kinds.specs.RuleLists.{arguments_of, expected_of, hidden_of, entry_of, names_arguments, before, entries_of}
use Rattle.goal_kinds.specs.Rules.{has_term}
use Rattle.goal_lists.specs.RowWords.{clauses_in, conditions_in}
use Rattle.goal_lists.specs.Causes.{IsCausedEntry}
use Rattle.goal_lists.specs.declared.lists.InternedEntry.{InternedEntry}
use Rattle.goal_lists.specs.declared.lists.InternedEntry.TheVariants as interned
use Rattle.goal_kinds.specs.declared.rules.RuleEntry.{RuleEntry}
use Rattle.goal_kinds.specs.declared.rules.RuleEntry.TheVariants as entry
use Rattle.goal_terms.specs.declared.answers.DelayedFault.{DelayedFault}
use Rattle.goal_terms.specs.declared.answers.OpaqueAccess.{OpaqueAccess}
use Rattle.goal_terms.specs.declared.predicates.BoundConstness.{BoundConstness}
use Rattle.goal_terms.specs.declared.predicates.Clause.{Clause}
use Rattle.goal_terms.specs.declared.predicates.TraitRef.{TraitRef}
use Rattle.goal_eval.specs.Lists.{named_at, progress_at, RunIn, Leads, RunsOn, run_state, run_asking, reached_asking}
use Rattle.goal_solver.specs.RunRules.{asked_by, asked_of, IsAskedOnce, asked_as, asked_and, asked_next, to_record, RuleRunsOn}
use Rattle.goal_eval.specs.declared.eval.lists.progress.ListRun.{ListRun}
use Rattle.goal_eval.specs.declared.eval.lists.progress.Reached.{Reached}
use Rattle.goal_eval.specs.declared.eval.lists.progress.Reached.TheVariants as reached
use Rattle.goal_lists.specs.declared.outcomes.Outcome.TheVariants as outcome
use Rattle.goal_eval.specs.declared.eval.outcomes.Stop.{Stop}
use Rattle.goal_solver.specs.declared.eval.run_rule.asked.Asked.{Asked}
use Rattle.goal_solver.specs.declared.eval.run_rule.asked.Asked.TheVariants as asked
use Rattle.goal_solver.specs.declared.eval.run_rule.recorded.ToRecord.TheVariants as recorded
use Rattle.goal_eval.proofs.ListRunLemmas.{progress_same-grown, asking-leads, access-asks, fault-asks, undecided-asks}

-- an entry whose rows are there, as the engine runs it
pub found-runs : (t : Tables) (L : Level) (T U V : List Tree) → Keeps T U → (r s : ListRun) → RunIn T r → (e : RuleEntry) (x : InternedEntry) (q : Result Reached Stop) →
    Some (entry_at U x) ≡ entry_of t e → IfOk q (RunsOn L (run_state U r) x (run_state V s)) → IfOk q (RuleRunsOn t L T r e V s)
found-runs t L T U V k r s i e x (Ok q) is h = λ rest all.
    subst (λ o. Leads L (progress_at T r) (before (names_arguments e) o rest) rest all (progress_at V s) q) is
    (subst (λ p. Leads L p (entry_at U x ∷ rest) rest all (progress_at V s) q) (progress_same-grown T U k r i) (h rest all))
found-runs t L T U V k r s i e x (Err z) is h = tt

-- one whose row is missing
module _ (t : Tables) (L : Level) (T U : List Tree) (kept : Keeps T U) (r s : ListRun) (within : RunIn T r) (e : RuleEntry) (missing : None ≡ entry_of t e) where
  -- it names arguments
  pub missing-names : true ≡ names_arguments e → RuleRunsOn t L T r e U s reached.Undecided
  unfolding EntriesHold EntriesRefuted
  missing-names names rest all =
      subst (λ b. Leads L (progress_at T r) (before b (entry_of t e) rest) rest all (progress_at U s) reached.Undecided) names
      (subst (λ o. Leads L (progress_at T r) (before true o rest) rest all (progress_at U s) reached.Undecided) missing
      (λ h. ((λ u x. (h.holds_back u x).2), (λ y. h.refuted_back y))))

  -- it names none
  pub missing-asks : false ≡ names_arguments e → s ≡ run_asking outcome.Undecided r → (q : Reached) → q ≡ reached_asking outcome.Undecided → RuleRunsOn t L T r e U s q
  missing-asks names on q reaches rest all =
      subst (λ b. Leads L (progress_at T r) (before b (entry_of t e) rest) rest all (progress_at U s) q) names
      (subst (λ o. Leads L (progress_at T r) (before false o rest) rest all (progress_at U s) q) missing
      (asking-leads L T U kept r s within undecided undecided refl ⊥ ⊥ (undecided-asks L (named_at T r.named.items)) outcome.Undecided ((λ x. x), (λ x. x)) on q reaches rest all))

-- one that says to record something
pub recording-runs : (t : Tables) (L : Level) (T : List Tree) (r : ListRun) → RunIn T r → (e : RuleEntry) → (recorded.Nothing ≡ to_record e → ⊥) → RuleRunsOn t L T r e T r reached.Next
recording-runs t L T r i (entry.Access a) some =
    asking-leads L T T (keeps-refl T) r r i (access a) (access a) refl (Unit {0}) ⊥ (access-asks L (named_at T r.named.items) a) outcome.Holds tt refl reached.Next refl
recording-runs t L T r i (entry.DelayedFault f) some =
    asking-leads L T T (keeps-refl T) r r i (delayed_fault f) (delayed_fault f) refl (Unit {0}) ⊥ (fault-asks L (named_at T r.named.items) f) outcome.Holds tt refl reached.Next refl
recording-runs t L T r i (entry.Arguments a) some = absurd (some refl)
recording-runs t L T r i (entry.Equation ts us) some = absurd (some refl)
recording-runs t L T r i (entry.Clause g k) some = absurd (some refl)
recording-runs t L T r i (entry.RowClauses c n) some = absurd (some refl)
recording-runs t L T r i (entry.RowConditions b j n) some = absurd (some refl)
recording-runs t L T r i (entry.Term v x) some = absurd (some refl)
recording-runs t L T r i entry.Evaluation some = absurd (some refl)
recording-runs t L T r i (entry.HiddenType v k f) some = absurd (some refl)
recording-runs t L T r i entry.Ambiguous some = absurd (some refl)
recording-runs t L T r i entry.Undecided some = absurd (some refl)
recording-runs t L T r i entry.Refused some = absurd (some refl)

-- the engine runs none that records an access or a delayed fault
not_mapped : {X : Type 0} (f : X → Entry) (w : Entry) → ((x : X) → w ≡ f x → ⊥) → (o : Option X) → Some w ≡ option_map f o → ⊥
not_mapped f w h None e = absurd (cc)
not_mapped f w h (Some x) e = let same : w ≡ f x = cc in h x same

no_access : (t : Tables) (e : RuleEntry) (a : OpaqueAccess) → recorded.Nothing ≡ to_record e → Some (access a) ≡ entry_of t e → ⊥
no_access t (entry.Access b) a n e = absurd (cc)
no_access t (entry.DelayedFault f) a n e = absurd (cc)
no_access t (entry.Arguments x) a n e = not_mapped arguments (access a) (λ y h. absurd (cc)) (arguments_of t x) e
no_access t (entry.Equation ts us) a n e = absurd (cc)
no_access t (entry.Clause g k) a n e = absurd (cc)
no_access t (entry.RowClauses c k) a n e = not_mapped (λ cs. row_clauses cs k) (access a) (λ y h. absurd (cc)) (clauses_in t c) e
no_access t (entry.RowConditions b j k) a n e = not_mapped (λ rs. row_conditions b rs k) (access a) (λ y h. absurd (cc)) (conditions_in t j) e
no_access t (entry.Term v x) a n e = not_mapped expected (access a) (λ y h. absurd (cc)) (expected_of t x) e
no_access t entry.Evaluation a n e = absurd (cc)
no_access t (entry.HiddenType v k f) a n e = not_mapped expected (access a) (λ y h. absurd (cc)) (hidden_of t k f) e
no_access t entry.Ambiguous a n e = absurd (cc)
no_access t entry.Undecided a n e = absurd (cc)
no_access t entry.Refused a n e = absurd (cc)

no_fault : (t : Tables) (e : RuleEntry) (a : DelayedFault) → recorded.Nothing ≡ to_record e → Some (delayed_fault a) ≡ entry_of t e → ⊥
no_fault t (entry.Access b) a n e = absurd (cc)
no_fault t (entry.DelayedFault f) a n e = absurd (cc)
no_fault t (entry.Arguments x) a n e = not_mapped arguments (delayed_fault a) (λ y h. absurd (cc)) (arguments_of t x) e
no_fault t (entry.Equation ts us) a n e = absurd (cc)
no_fault t (entry.Clause g k) a n e = absurd (cc)
no_fault t (entry.RowClauses c k) a n e = not_mapped (λ cs. row_clauses cs k) (delayed_fault a) (λ y h. absurd (cc)) (clauses_in t c) e
no_fault t (entry.RowConditions b j k) a n e = not_mapped (λ rs. row_conditions b rs k) (delayed_fault a) (λ y h. absurd (cc)) (conditions_in t j) e
no_fault t (entry.Term v x) a n e = not_mapped expected (delayed_fault a) (λ y h. absurd (cc)) (expected_of t x) e
no_fault t entry.Evaluation a n e = absurd (cc)
no_fault t (entry.HiddenType v k f) a n e = not_mapped expected (delayed_fault a) (λ y h. absurd (cc)) (hidden_of t k f) e
no_fault t entry.Ambiguous a n e = absurd (cc)
no_fault t entry.Undecided a n e = absurd (cc)
no_fault t entry.Refused a n e = absurd (cc)

pub run-caused : (t : Tables) (T : List Tree) (e : RuleEntry) (x : InternedEntry) → recorded.Nothing ≡ to_record e → Some (entry_at T x) ≡ entry_of t e → IsCausedEntry t x
run-caused t T e (interned.Access a) n is = absurd (no_access t e a n is)
run-caused t T e (interned.Arguments a) n is = tt
run-caused t T e (interned.EqualTerms a b) n is = tt
run-caused t T e (interned.Clause g p) n is = tt
run-caused t T e (interned.RowClauses r cs k) n is = tt
run-caused t T e (interned.RowConditions c i rs k) n is = tt
run-caused t T e (interned.Expected a) n is = tt
run-caused t T e (interned.DelayedFault f) n is = absurd (no_fault t e f n is)
run-caused t T e interned.Evaluation n is = tt
run-caused t T e interned.Ambiguous n is = tt
run-caused t T e interned.Undecided n is = tt
run-caused t T e interned.Refused n is = tt

-- what is left of a rule's list from a place on
pub left-at : (t : Tables) (es : List RuleEntry) (i : ℕ) (e : RuleEntry) → i < length es → e ≡ get_or es i e →
    entries_of t (drop i es) ≡ before (names_arguments e) (entry_of t e) (entries_of t (drop (i + 1) es))
unfolding entries_of
left-at t es i e l at = at_drop_more (entries_of t) es i e l ∙ ap (λ x. entries_of t (x ∷ drop (i + 1) es)) (sym at)

-- a rule that has no term stands for a list that asks for none
arguments-ask_none : (o : Option Arguments) (es : List Entry) → AsksNoTerm es → AsksNoTerm (before true (option_map arguments o) es)
unfolding AsksNoTerm
arguments-ask_none None es h = (tt, tt)
arguments-ask_none (Some a) es h = (tt, h)

clauses-ask_none : (o : Option (List Clause)) (n : ℕ) (es : List Entry) → AsksNoTerm es → AsksNoTerm (before false (option_map (λ cs. row_clauses cs n) o) es)
unfolding AsksNoTerm
clauses-ask_none None n es h = (tt, h)
clauses-ask_none (Some cs) n es h = (tt, h)

conditions-ask_none : (o : Option (List TraitRef)) (c : BoundConstness) (n : ℕ) (es : List Entry) → AsksNoTerm es → AsksNoTerm (before false (option_map (λ rs. row_conditions c rs n) o) es)
unfolding AsksNoTerm
conditions-ask_none None c n es h = (tt, h)
conditions-ask_none (Some rs) c n es h = (tt, h)

pub no_term-asks_none : (t : Tables) (es : List RuleEntry) → has_term es ≡ false → AsksNoTerm (entries_of t es)
unfolding entries_of has_term AsksNoTerm
no_term-asks_none t [] none = tt
no_term-asks_none t (entry.Arguments a ∷ es) none = arguments-ask_none (arguments_of t a) (entries_of t es) (no_term-asks_none t es none)
no_term-asks_none t (entry.Equation ts us ∷ es) none = (tt, no_term-asks_none t es none)
no_term-asks_none t (entry.Clause g k ∷ es) none = (tt, no_term-asks_none t es none)
no_term-asks_none t (entry.RowClauses c n ∷ es) none = clauses-ask_none (clauses_in t c) n (entries_of t es) (no_term-asks_none t es none)
no_term-asks_none t (entry.RowConditions c i n ∷ es) none = conditions-ask_none (conditions_in t i) c n (entries_of t es) (no_term-asks_none t es none)
no_term-asks_none t (entry.Term v x ∷ es) none = absurd (false≢true (sym none))
no_term-asks_none t (entry.Access a ∷ es) none = (tt, no_term-asks_none t es none)
no_term-asks_none t (entry.DelayedFault f ∷ es) none = (tt, no_term-asks_none t es none)
no_term-asks_none t (entry.Evaluation ∷ es) none = (tt, no_term-asks_none t es none)
no_term-asks_none t (entry.HiddenType v k f ∷ es) none = absurd (false≢true (sym none))
no_term-asks_none t (entry.Ambiguous ∷ es) none = (tt, no_term-asks_none t es none)
no_term-asks_none t (entry.Undecided ∷ es) none = (tt, no_term-asks_none t es none)
no_term-asks_none t (entry.Refused ∷ es) none = (tt, no_term-asks_none t es none)

-- one that asks for a term has one
pub asked-has_term : (es : List RuleEntry) (n : ℕ) → asked_of es ≡ Some n ∷ [] → has_term es ≡ true
unfolding asked_of has_term
asked-has_term [] n e = absurd (cc)
asked-has_term (entry.Arguments a ∷ es) n e = asked-has_term es n e
asked-has_term (entry.Equation ts us ∷ es) n e = asked-has_term es n e
asked-has_term (entry.Clause g k ∷ es) n e = asked-has_term es n e
asked-has_term (entry.RowClauses c i ∷ es) n e = asked-has_term es n e
asked-has_term (entry.RowConditions c i m ∷ es) n e = asked-has_term es n e
asked-has_term (entry.Term v x ∷ es) n e = refl
asked-has_term (entry.Access a ∷ es) n e = asked-has_term es n e
asked-has_term (entry.DelayedFault f ∷ es) n e = asked-has_term es n e
asked-has_term (entry.Evaluation ∷ es) n e = asked-has_term es n e
asked-has_term (entry.HiddenType v k f ∷ es) n e = refl
asked-has_term (entry.Ambiguous ∷ es) n e = asked-has_term es n e
asked-has_term (entry.Undecided ∷ es) n e = asked-has_term es n e
asked-has_term (entry.Refused ∷ es) n e = asked-has_term es n e

-- the variables of a list's terms, one after the other
unfoldable pub asked_with : Asked → List (Option ℕ) → Asked
asked_with a [] = a
asked_with a (o ∷ os) = asked_with (asked_and a o) os

asked-one : (a : Asked) (e : RuleEntry) → asked_next a e ≡ asked_with a (asked_by e)
unfolding asked_with
asked-one a (entry.Term v x) = refl
asked-one a e = refl

asked-others : (os : List (Option ℕ)) → asked_with asked.Others os ≡ asked.Others
unfolding asked_with
asked-others [] = refl
asked-others (o ∷ os) = asked-others os

asked-all : (os : List (Option ℕ)) → asked_with asked.Nothing os ≡ asked_as os
unfolding asked_with
asked-all [] = refl
asked-all (None ∷ os) = asked-others os
asked-all (Some n ∷ []) = refl
asked-all (Some n ∷ o ∷ os) = asked-others os

asked-behind : (a : Asked) (os ps : List (Option ℕ)) → asked_with a (os ++ ps) ≡ asked_with (asked_with a os) ps
unfolding asked_with
asked-behind a [] ps = refl
asked-behind a (o ∷ os) ps = asked-behind _ os ps

-- what is asked by the entries from a place on is joined to what is asked by those before
pub asked-start : (es : List RuleEntry) → asked_with asked.Nothing (asked_of es) ≡ asked_as (asked_of es)
asked-start es = asked-all (asked_of es)

pub asked-next : (es : List RuleEntry) (i : ℕ) (e : RuleEntry) (a b : Asked) → i < length es → e ≡ get_or es i e → b ≡ asked_next a e →
    asked_with a (asked_of (drop i es)) ≡ asked_as (asked_of es) → asked_with b (asked_of (drop (i + 1) es)) ≡ asked_as (asked_of es)
unfolding asked_of
asked-next es i e a b l at more h =
    ap (λ x. asked_with x (asked_of (drop (i + 1) es))) (more ∙ asked-one a e) ∙ sym (asked-behind a (asked_by e) (asked_of (drop (i + 1) es)))
    ∙ ap (λ x. asked_with a (asked_of (x ∷ drop (i + 1) es))) at ∙ sym (ap (asked_with a) (at_drop_more asked_of es i e l)) ∙ h

pub asked-end : (es : List RuleEntry) (i : ℕ) (a : Asked) → length es ≤ i → asked_with a (asked_of (drop i es)) ≡ asked_as (asked_of es) → a ≡ asked_as (asked_of es)
unfolding asked_of asked_with
asked-end es i a l h = sym (ap (λ xs. asked_with a (asked_of xs)) (drop_all i es l)) ∙ h

-- what is asked, by what a list asks for
pub asked-nothing : (os : List (Option ℕ)) → asked.Nothing ≡ asked_as os → os ≡ []
asked-nothing [] e = refl
asked-nothing (None ∷ os) e = absurd (cc)
asked-nothing (Some n ∷ []) e = absurd (cc)
asked-nothing (Some n ∷ o ∷ os) e = absurd (cc)

pub asked-variable : (os : List (Option ℕ)) (n : ℕ) → asked.Variable n ≡ asked_as os → os ≡ Some n ∷ []
asked-variable [] n e = absurd (cc)
asked-variable (None ∷ os) n e = absurd (cc)
asked-variable (Some m ∷ []) n e = cc
asked-variable (Some m ∷ o ∷ os) n e = absurd (cc)

pub asked-twice : (os : List (Option ℕ)) → asked.Others ≡ asked_as os → IsAskedOnce os → ⊥
asked-twice [] e once = absurd (cc)
asked-twice (None ∷ os) e once = once
asked-twice (Some n ∷ []) e once = absurd (cc)
asked-twice (Some n ∷ o ∷ os) e once = once
