-- What the lists of candidates for a trait that is asked say, and what its candidates come to together.
use Rattle.std.proofs.Common.{◌≡◌, ◌⊎◌, ◌↔◌, inl, inr, ℕ, ◌+◌, ◌<◌, ◌≤◌, ◌∙◌, Bool, true, false, List, length, map, filter, get_or, take, Result, Option, Some, None, refl, sym, ap, ap₂, subst, ⊎_elim}
use Rattle.std.specs.Prelude.{IfOk, Vec}
use Rattle.std.specs.Global.{Global}
use Rattle.std.specs.List.{All}
use Rattle.std.proofs.lemmas.Result.{IfOk-weaker}
use Rattle.goal_terms.specs.Erased.{erased}
use Rattle.goal_interner.specs.TableMeaning.{Keeps}
use Rattle.goal_terms.specs.Tree.{Tree, node, none}
use Rattle.goal_terms.specs.declared.answers.TraitGoalProvenVia.{TraitGoalProvenVia}
use Rattle.goal_terms.specs.declared.answers.TraitGoalProvenVia.TheVariants as class
use Rattle.goal_terms.specs.declared.heads.Head.TheVariants.{Bool as bool_head}
use Rattle.goal_terms.specs.declared.ids.TraitId.{TraitId}
use Rattle.goal_terms.specs.declared.modes.TypingMode.{TypingMode}
use Rattle.goal_terms.specs.declared.predicates.BoundConstness.{BoundConstness}
use Rattle.goal_terms.specs.declared.predicates.BoundConstness.TheVariants as constness
use Rattle.goal_interner.specs.declared.term_nodes.OutOfMemory.{OutOfMemory}
use Rattle.goal_interner.specs.declared.term_nodes.TermId.{TermId}
use Rattle.goal_tables.specs.declared.rows.ImplRow.{ImplRow}
use Rattle.goal_lists.specs.Answers.{setting_of}
use Rattle.goal_lists.specs.Candidates.{Candidate, by_impl, environment, class_of, second_group}
use Rattle.goal_lists.specs.ConstGoals.{satisfies}
use Rattle.goal_lists.specs.EffectLists.{effect_list}
use Rattle.goal_lists.specs.Entries.{Entry, ListHolds, ListRefuted, ListAsksNoTerm}
use Rattle.goal_lists.specs.Fitting.{trees_at, may_fit, fitting, about_trait, passes}
use Rattle.goal_lists.specs.Interned.{CandidateIn, AreIn, erased_at, erased_all, candidate_at}
use Rattle.goal_lists.specs.InternedEntries.{list_at, setting_at}
use Rattle.goal_lists.specs.Laws.{IsConsistent}
use Rattle.goal_lists.specs.Level.{Level}
use Rattle.goal_lists.specs.Levels.{level}
use Rattle.goal_lists.specs.ListModes.{in_mode, erased_setting}
use Rattle.goal_lists.specs.Settings.{Setting, is_headline}
use Rattle.goal_lists.specs.TraitLists.{trait_list}
use Rattle.goal_lists.specs.Words.{Each, Exists}
use Rattle.goal_lists.specs.declared.candidates.interned.InternedCandidate.{InternedCandidate}
use Rattle.goal_lists.specs.declared.lists.InternedEntry.{InternedEntry}
use Rattle.goal_lists.specs.declared.lists.ListSetting.{ListSetting}
use Rattle.goal_lists.specs.TraitGoals.{ImplHolds, ImplRefuted, CandidateHolds, CandidateRefuted, PassedOver, Decides}
use Rattle.goal_lists.proofs.CandidateLemmas.{no_candidate_refuted, not_passed_over}
use Rattle.goal_lists.proofs.ConsistentLemmas.{each_level_is_consistent}
use Rattle.goal_lists.proofs.ConstLemmas.{no_const_candidate_refuted}
use Rattle.goal_lists.proofs.ContraryWords.{Exists-Each}
use Rattle.goal_lists.proofs.EffectLists.{effect_list-holds, effect_list-refuted}
use Rattle.goal_lists.proofs.FilteredWords.{exists-kept, kept-exists, each-kept, kept-each}
use Rattle.goal_lists.proofs.FittingLemmas.{trees-erased, candidate_refuted, const_candidate_refuted, passed_refuted, passed_const_refuted}
use Rattle.goal_lists.proofs.InternedLemmas.{same-grown, are_in-grown, in-grown, all_same-grown, candidate_same-grown}
use Rattle.goal_lists.proofs.ListModes.{trait_list-stands, effect_list-stands}
use Rattle.goal_lists.proofs.ListStandIns.{list_stands_in-same}
use Rattle.goal_lists.proofs.ListTerms.{trait_list-asks_none, effect_list-asks_none, asks_none-with, gives-holds}
use Rattle.goal_lists.proofs.TraitLists.{trait_list-holds, trait_list-refuted}
use Rattle.goal_eval.specs.AskedTraits.{asked_list, candidate_list, AskedHolds, AskedRefuted, AskedDecides, AskedRuledOut, AskedIn, SaysListed, SaysCandidate, SaysCandidates, SaysGroups, asked_via}
use Rattle.goal_lists.specs.Joined.{one_of, beside}
use Rattle.goal_eval.specs.Lists.{list_mode, IsListFor, SaysList, list_held}
use Rattle.goal_eval.specs.Outcomes.{RunsFor, setting_in, level_in, Says}
use Rattle.goal_eval.specs.SpecialImpls.{SaysMoreSpecial}
use Rattle.goal_eval.specs.declared.assembly.candidates.AskedTrait.{AskedTrait}
use Rattle.goal_eval.specs.declared.eval.lists.ListOutcome.{ListOutcome}
use Rattle.goal_eval.specs.declared.eval.lists.ListOutcome.TheVariants as list
use Rattle.goal_lists.specs.declared.outcomes.Outcome.{Outcome}
use Rattle.goal_lists.specs.declared.outcomes.Outcome.TheVariants as outcome
use Rattle.goal_eval.specs.declared.eval.outcomes.Setting as over
use Rattle.goal_eval.specs.declared.eval.outcomes.Stop.{Stop}
use Rattle.goal_eval.proofs.RunModes.{list-for}
use Rattle.goal_eval.proofs.SpecialImplLemmas.{beside-says}
use Rattle.goal_eval.proofs.OutcomeLists.{says-same, some-more, take-push, take-whole, Exists-taken, All-at}

-- the list of a candidate for a trait that is asked doesn't read the mode
asked-same : (S : Setting) (m : TypingMode) → is_headline m ≡ true → (o : Option BoundConstness) (i : TraitId) (args : List Tree) (x : Candidate) →
    asked_list (in_mode S m) o i args x ≡ asked_list (erased_setting S) o i args x
asked-same S m e None i args x = trait_list-stands S m e i args x
asked-same S m e (Some c) i args x = effect_list-stands S m e c i args x

-- the list that is made for a run is that of a candidate
list_for-made : (c : over.Setting) (m : TypingMode) → RunsFor c m → (o : Option BoundConstness) (i : TraitId) (args : List Tree) (x : Candidate) (made : Option (List Entry)) →
    made ≡ asked_list (setting_in c (list_mode c)) o i args x → IsListFor c made (asked_list (setting_in c m) o i args x)
list_for-made c m s o i args x made e =
    list-for (λ k. asked_list (setting_in c k) o i args x) c m made s e
    (λ e. list_stands_in-same (asked_list (erased_setting (setting_in c m)) o i args x) (asked_list (setting_in c m) o i args x) (asked-same (setting_in c m) m e o i args x))

-- the list that is made is that of a candidate for what is asked
module _ (c : over.Setting) (lists : ListSetting) (T U : List Tree) (asked : AskedTrait) where
  made : lists.rows.now ≡ c.rows.now → lists.mode.now ≡ list_mode c → (o : Option BoundConstness) → asked.constness ≡ o → (x : Candidate)
      (res : Result (Option (Vec InternedEntry Global)) OutOfMemory) →
      IfOk res (λ q. list_at U q ≡ asked_list (setting_at lists c.environment.now) o asked.trait_id (erased_all T asked.args.now) x) → (m : TypingMode) → RunsFor c m →
      IfOk res (λ q. IsListFor c (list_at U q) (candidate_list (setting_in c m) T asked x))
  made e f o g x res h m s =
      let args : List Tree = erased_all T asked.args.now in
      IfOk-weaker res (λ q. list_at U q ≡ asked_list (setting_at lists c.environment.now) o asked.trait_id args x) (λ q. IsListFor c (list_at U q) (candidate_list (setting_in c m) T asked x))
      (λ q k.
      list_for-made c m s asked.constness asked.trait_id args x (list_at U q)
      (k ∙ ap₂ (λ S y. asked_list S y asked.trait_id args x) (ap₂ (λ t k. setting_of t k c.environment.now) e f) (sym g))) h

  pub made-plain : (x : Candidate) (res : Result (Option (Vec InternedEntry Global)) OutOfMemory) → lists.rows.now ≡ c.rows.now → lists.mode.now ≡ list_mode c → asked.constness ≡ None →
      IfOk res (λ q. list_at U q ≡ trait_list (setting_at lists c.environment.now) asked.trait_id (erased_all T asked.args.now) x) → (m : TypingMode) → RunsFor c m →
      IfOk res (λ q. IsListFor c (list_at U q) (candidate_list (setting_in c m) T asked x))
  made-plain x res e f g h = made e f None g x res h

  pub made-const : (b : BoundConstness) (x : Candidate) (res : Result (Option (Vec InternedEntry Global)) OutOfMemory) → lists.rows.now ≡ c.rows.now → lists.mode.now ≡ list_mode c →
      asked.constness ≡ Some b → IfOk res (λ q. list_at U q ≡ effect_list (setting_at lists c.environment.now) b asked.trait_id (erased_all T asked.args.now) x) →
      (m : TypingMode) → RunsFor c m → IfOk res (λ q. IsListFor c (list_at U q) (candidate_list (setting_in c m) T asked x))
  made-const b x res e f g h = made e f (Some b) g x res h

-- a list that asks for no term: some term stands for what it would ask for
some_term : Tree
some_term = node bool_head none

held-says : (L : Level) (q : Option (List Entry)) (T : List Tree) (r : ListOutcome) → ListAsksNoTerm q → SaysList L q T r → Says (ListHolds L q) (ListRefuted L q) (list_held r)
held-says L q T (list.Holds None) a h = h.0
held-says L q T (list.Holds (Some id)) a h = gives-holds L q (erased_at T id) h
held-says L q T list.Refuted a h = h
held-says L q T list.Undecided a h = (λ k. h.0 some_term (asks_none-with L q some_term a k), h.1)

asked-asks_none : (S : Setting) (o : Option BoundConstness) (i : TraitId) (args : List Tree) (x : Candidate) → ListAsksNoTerm (asked_list S o i args x)
asked-asks_none S None i args x = trait_list-asks_none S i args x
asked-asks_none S (Some c) i args x = effect_list-asks_none S c i args x

-- a list says what its candidate does
asked-holds : (S : Setting) (L : Level) (o : Option BoundConstness) (i : TraitId) (args : List Tree) (x : Candidate) →
    ListHolds L (asked_list S o i args x) ↔ AskedHolds S L o i args x
asked-holds S L None i args x = trait_list-holds S L i args x
asked-holds S L (Some c) i args x = effect_list-holds S L c i args x

asked-refuted : (S : Setting) (L : Level) (o : Option BoundConstness) (i : TraitId) (args : List Tree) (x : Candidate) →
    ListRefuted L (asked_list S o i args x) ↔ AskedRefuted S L o i args x
asked-refuted S L None i args x = trait_list-refuted S L i args x
asked-refuted S L (Some c) i args x = effect_list-refuted S L c i args x

pub asked-says : (S : Setting) (L : Level) (T U : List Tree) (asked : AskedTrait) (x : Candidate) (r : ListOutcome) →
    SaysList L (candidate_list S T asked x) U r → SaysListed S L T asked x (list_held r)
asked-says S L T U asked x r h =
    let o : Option BoundConstness = asked.constness in
    let args : List Tree = erased_all T asked.args.now in
    let q : Option (List Entry) = asked_list S o asked.trait_id args x in
    let holds : ListHolds L q ↔ AskedHolds S L o asked.trait_id args x = asked-holds S L o asked.trait_id args x in
    let refuted : ListRefuted L q ↔ AskedRefuted S L o asked.trait_id args x = asked-refuted S L o asked.trait_id args x in
    says-same (ListHolds L q) (AskedHolds S L o asked.trait_id args x) (ListRefuted L q) (AskedRefuted S L o asked.trait_id args x) holds.0 holds.1 refuted.0 refuted.1
    (list_held r) (held-says L q U r (asked-asks_none S o asked.trait_id args x) h)

-- so it is with the list of an impl for arguments of its trait
pub impl-says : (S : Setting) (L : Level) (U args : List Tree) (q : ImplRow) (r : ListOutcome) (o : Outcome) → o ≡ list_held r →
    SaysList L (trait_list S q.trait_id args (by_impl q)) U r → Says (ImplHolds L args q) (ImplRefuted S.mode L args q) o
unfolding CandidateHolds CandidateRefuted
impl-says S L U args q r o same h =
    let x : Candidate = by_impl q in
    let es : Option (List Entry) = trait_list S q.trait_id args x in
    let holds : ListHolds L es ↔ CandidateHolds S L q.trait_id args x = trait_list-holds S L q.trait_id args x in
    let refuted : ListRefuted L es ↔ CandidateRefuted S L q.trait_id args x = trait_list-refuted S L q.trait_id args x in
    subst (Says (ImplHolds L args q) (ImplRefuted S.mode L args q)) (sym same)
    (says-same (ListHolds L es) (ImplHolds L args q) (ListRefuted L es) (ImplRefuted S.mode L args q) holds.0 holds.1 refuted.0 refuted.1
    (list_held r) (held-says L es U r (trait_list-asks_none S q.trait_id args x) h))

-- and the list that is made of it is this one
pub made-impl : (c : over.Setting) (lists : ListSetting) (T U : List Tree) (ids : List TermId) (q : ImplRow) (res : Result (Option (Vec InternedEntry Global)) OutOfMemory) →
    lists.rows.now ≡ c.rows.now → lists.mode.now ≡ list_mode c →
    IfOk res (λ o. list_at U o ≡ trait_list (setting_at lists c.environment.now) q.trait_id (erased_all T ids) (by_impl q)) →
    (m : TypingMode) → RunsFor c m → IfOk res (λ o. IsListFor c (list_at U o) (trait_list (setting_in c m) q.trait_id (erased_all T ids) (by_impl q)))
made-impl c lists T U ids q res e f h m s =
    IfOk-weaker res (λ o. list_at U o ≡ trait_list (setting_at lists c.environment.now) q.trait_id (erased_all T ids) (by_impl q))
    (λ o. IsListFor c (list_at U o) (trait_list (setting_in c m) q.trait_id (erased_all T ids) (by_impl q)))
    (λ o k.
    list_for-made c m s None q.trait_id (erased_all T ids) (by_impl q) (list_at U o)
    (k ∙ ap (λ S. trait_list S q.trait_id (erased_all T ids) (by_impl q)) (ap₂ (λ t k. setting_of t k c.environment.now) e f))) h

-- a candidate that shows what is asked isn't refuted
satisfies-itself : (c : BoundConstness) → satisfies c c ≡ true
satisfies-itself constness.Const = refl
satisfies-itself constness.Maybe = refl

no_asked_refuted : (S : Setting) (L : Level) → IsConsistent L → (o : Option BoundConstness) (i : TraitId) (args : List Tree) (x : Candidate) →
    AskedHolds S L o i args x → AskedRefuted S L o i args x → ⊥
no_asked_refuted S L l None i args x = no_candidate_refuted S L l i args x
no_asked_refuted S L l (Some c) i args x = no_const_candidate_refuted S L l c c (satisfies-itself c) i args x

-- one that decides isn't ruled out
no_asked_ruled_out : (S : Setting) (L : Level) → IsConsistent L → (o : Option BoundConstness) (i : TraitId) (args : List Tree) (x : Candidate) →
    AskedDecides S L o i args x → AskedRuledOut S L o i args x → ⊥
no_asked_ruled_out S L l o i args x h k = ⊎_elim (λ r. no_asked_refuted S L l o i args x h.0 r) (λ p. not_passed_over S L l args x h.1 p) k

-- what a candidate's list says, beside the impls that are more special, of a table that has grown
pub asked-beside : (c : over.Setting) (m : TypingMode) (n : ℕ) (T U : List Tree) (asked : AskedTrait) (x : InternedCandidate) (shown special o : Outcome) → Keeps T U → AreIn T asked.args.now →
    CandidateIn T x → o ≡ beside shown special → SaysListed (setting_in c m) (level_in c m n) T asked (candidate_at T x) shown →
    SaysMoreSpecial (setting_in c m) (level_in c m n) (erased_all U asked.args.now) (candidate_at U x) special → SaysCandidate (setting_in c m) (level_in c m n) T asked (candidate_at T x) o
asked-beside c m n T U asked x shown special o keeps within x_in e listed more =
    let S : Setting = setting_in c m in
    let L : Level = level_in c m n in
    let args : List Tree = erased_all T asked.args.now in
    let same : SaysMoreSpecial S L args (candidate_at T x) special =
    subst (λ ts. SaysMoreSpecial S L ts (candidate_at T x) special) (all_same-grown T U keeps asked.args.now within)
    (subst (λ y. SaysMoreSpecial S L (erased_all U asked.args.now) y special) (candidate_same-grown T U keeps x x_in) more) in
    subst (SaysCandidate S L T asked (candidate_at T x)) (sym e)
    (beside-says (AskedHolds S L asked.constness asked.trait_id args (candidate_at T x)) (AskedRefuted S L asked.constness asked.trait_id args (candidate_at T x))
    (PassedOver S L args (candidate_at T x)) (Decides S L args (candidate_at T x))
    (no_asked_refuted S L (each_level_is_consistent S n) asked.constness asked.trait_id args (candidate_at T x))
    (not_passed_over S L (each_level_is_consistent S n) args (candidate_at T x)) shown special listed same)

-- one whose list is refuted is ruled out
pub asked-out : (S : Setting) (L : Level) (T : List Tree) (asked : AskedTrait) (x : Candidate) (o : Outcome) → o ≡ outcome.Refuted → SaysListed S L T asked x o →
    SaysCandidate S L T asked x outcome.Refuted
asked-out S L T asked x o e h = inl (subst (SaysListed S L T asked x) e h)

-- what is asked, in a table that has grown
pub asked_in-grown : (T U : List Tree) (asked : AskedTrait) → Keeps T U → AskedIn T asked → AskedIn U asked
asked_in-grown T U asked k h = (in-grown T U k asked.self_ty h.0, are_in-grown T U k asked.args.now h.1)

-- what the candidates before a place come to, in each mode for which a run stands
abbrev pub AskedSoFar : over.Setting → ℕ → List Tree → AskedTrait → List InternedCandidate → ℕ → Outcome → Type 0
AskedSoFar c n T asked xs k o = (m : TypingMode) → RunsFor c m → SaysCandidates (setting_in c m) (level_in c m n) T asked (take k (map (candidate_at T) xs)) o

pub asked-start : (c : over.Setting) (n : ℕ) (T : List Tree) (asked : AskedTrait) (xs : List InternedCandidate) → AskedSoFar c n T asked xs 0 outcome.Refuted
unfolding Each
asked-start c n T asked xs m s = tt

-- one more candidate, of a table that has grown
pub asked-more : (c : over.Setting) (n : ℕ) (T U : List Tree) (asked : AskedTrait) (xs : List InternedCandidate) (k : ℕ) (x : InternedCandidate) (found next o : Outcome) →
    Keeps T U → AskedIn T asked → All (CandidateIn T) xs → k < length xs → x ≡ get_or xs k x → o ≡ one_of found next → AskedSoFar c n T asked xs k found →
    ((m : TypingMode) → RunsFor c m → SaysCandidate (setting_in c m) (level_in c m n) U asked (candidate_at U x) next) → AskedSoFar c n T asked xs (k + 1) o
asked-more c n T U asked xs k x found next o keeps within all l at e so_far here m s =
    let S : Setting = setting_in c m in
    let L : Level = level_in c m n in
    let args : List Tree = erased_all T asked.args.now in
    let x_in : CandidateIn T x = All-at (CandidateIn T) xs k x all l at in
    let same : SaysCandidate S L T asked (candidate_at T x) next =
    subst (λ ts. Says (AskedDecides S L asked.constness asked.trait_id ts (candidate_at T x)) (AskedRuledOut S L asked.constness asked.trait_id ts (candidate_at T x)) next)
    (all_same-grown T U keeps asked.args.now within.1)
    (subst (λ y. SaysCandidate S L U asked y next) (candidate_same-grown T U keeps x x_in) (here m s)) in
    subst (SaysCandidates S L T asked (take (k + 1) (map (candidate_at T) xs))) (sym e)
    (subst (λ ys. SaysCandidates S L T asked ys (one_of found next)) (sym (take-push (candidate_at T) xs k x l at))
    (some-more (AskedDecides S L asked.constness asked.trait_id args) (AskedRuledOut S L asked.constness asked.trait_id args)
    (no_asked_ruled_out S L (each_level_is_consistent S n) asked.constness asked.trait_id args) (take k (map (candidate_at T) xs)) (candidate_at T x) found next (so_far m s) same))

-- one that holds shows it
pub asked-shown : (c : over.Setting) (n : ℕ) (T : List Tree) (asked : AskedTrait) (xs : List InternedCandidate) (k : ℕ) (o : Outcome) → o ≡ outcome.Holds → AskedSoFar c n T asked xs k o →
    (m : TypingMode) → RunsFor c m → SaysCandidates (setting_in c m) (level_in c m n) T asked (map (candidate_at T) xs) outcome.Holds
asked-shown c n T asked xs k o e so_far m s =
    Exists-taken (AskedDecides (setting_in c m) (level_in c m n) asked.constness asked.trait_id (erased_all T asked.args.now)) k (map (candidate_at T) xs)
    (subst (AskedSoFar c n T asked xs k) e so_far m s)

-- after the last place all have been asked
pub asked-end : (c : over.Setting) (n : ℕ) (T : List Tree) (asked : AskedTrait) (xs : List InternedCandidate) (k : ℕ) (o : Outcome) → length xs ≤ k → AskedSoFar c n T asked xs k o →
    (m : TypingMode) → RunsFor c m → SaysCandidates (setting_in c m) (level_in c m n) T asked (map (candidate_at T) xs) o
asked-end c n T asked xs k o l so_far m s =
    subst (λ ys. SaysCandidates (setting_in c m) (level_in c m n) T asked ys o) (take-whole (candidate_at T) xs k l) (so_far m s)

-- candidates of a table that has grown
asked-back : (S : Setting) (L : Level) (T U : List Tree) (asked : AskedTrait) (xs ys : List Candidate) (o : Outcome) → Keeps T U → AreIn T asked.args.now → xs ≡ ys →
    SaysCandidates S L U asked xs o → SaysCandidates S L T asked ys o
asked-back S L T U asked xs ys o k h e s =
    subst (λ zs. SaysCandidates S L T asked zs o) e
    (subst (λ ts. Says (Exists (AskedDecides S L asked.constness asked.trait_id ts) xs) (Each (AskedRuledOut S L asked.constness asked.trait_id ts) xs) o) (all_same-grown T U k asked.args.now h) s)

-- where candidates that don't pass a test are refuted, those that pass it say all
tested-says : (S : Setting) (n : ℕ) (k : Option BoundConstness) (i : TraitId) (args : List Tree) (test : Candidate → Bool) →
    ((x : Candidate) → test x ≡ false → AskedRefuted S (level S n) k i args x) → (xs : List Candidate) (o : Outcome) →
    Says (Exists (AskedDecides S (level S n) k i args) (filter test xs)) (Each (AskedRuledOut S (level S n) k i args) (filter test xs)) o →
    Says (Exists (AskedDecides S (level S n) k i args) xs) (Each (AskedRuledOut S (level S n) k i args) xs) o
tested-says S n k i args test refuted xs o =
    let P : Candidate → Type 0 = AskedDecides S (level S n) k i args in
    let R : Candidate → Type 0 = AskedRuledOut S (level S n) k i args in
    let passed : (x : Candidate) → test x ≡ false → R x = λ x e. inl (refuted x e) in
    says-same (Exists P (filter test xs)) (Exists P xs) (Each R (filter test xs)) (Each R xs)
    (exists-kept P test xs) (kept-exists P test (λ x e h. no_asked_ruled_out S (level S n) (each_level_is_consistent S n) k i args x h (passed x e)) xs)
    (kept-each R test passed xs) (each-kept R test xs) o

asked-tested : (S : Setting) (n : ℕ) (T : List Tree) (asked : AskedTrait) (test : Candidate → Bool) →
    ((x : Candidate) → test x ≡ false → AskedRefuted S (level S n) asked.constness asked.trait_id (map erased (trees_at T asked.args.now)) x) → (xs : List Candidate) (o : Outcome) →
    SaysCandidates S (level S n) T asked (filter test xs) o → SaysCandidates S (level S n) T asked xs o
asked-tested S n T asked test refuted xs o =
    tested-says S n asked.constness asked.trait_id (erased_all T asked.args.now) test
    (λ x e. subst (λ args. AskedRefuted S (level S n) asked.constness asked.trait_id args x) (trees-erased T asked.args.now) (refuted x e)) xs o

-- so those that may fit say all
unfit-refuted : (S : Setting) (n : ℕ) (o : Option BoundConstness) (i : TraitId) (args : List Tree) (x : Candidate) → may_fit args x ≡ false → AskedRefuted S (level S n) o i (map erased args) x
unfit-refuted S n None i args x = candidate_refuted S n i args x
unfit-refuted S n (Some c) i args x = const_candidate_refuted S n c i args x

asked-fitting : (S : Setting) (n : ℕ) (T : List Tree) (asked : AskedTrait) (xs : List Candidate) (o : Outcome) →
    SaysCandidates S (level S n) T asked (fitting (trees_at T asked.args.now) xs) o → SaysCandidates S (level S n) T asked xs o
asked-fitting S n T asked =
    asked-tested S n T asked (may_fit (trees_at T asked.args.now)) (unfit-refuted S n asked.constness asked.trait_id (trees_at T asked.args.now))

-- and so do those of a class that are looked at
passed-over : (S : Setting) (n : ℕ) (v : TraitGoalProvenVia) (o : Option BoundConstness) (i : TraitId) (args : List Tree) (x : Candidate) → passes v (about_trait i args) x ≡ false →
    AskedRefuted S (level S n) o i (map erased args) x
passed-over S n v None i args x = passed_refuted S n v i args x
passed-over S n v (Some c) i args x = passed_const_refuted S n v c i args x

pub asked-listed : (S : Setting) (n : ℕ) (T U : List Tree) (asked : AskedTrait) (v : TraitGoalProvenVia) (xs ys : List Candidate) (res : Result Outcome Stop) → Keeps T U → AskedIn T asked →
    xs ≡ filter (passes v (about_trait asked.trait_id (trees_at T asked.args.now))) ys → IfOk res (SaysCandidates S (level S n) U asked xs) → IfOk res (SaysCandidates S (level S n) T asked ys)
asked-listed S n T U asked v xs ys res k h e s =
    let test : Candidate → Bool = passes v (about_trait asked.trait_id (trees_at T asked.args.now)) in
    IfOk-weaker res (SaysCandidates S (level S n) U asked xs) (SaysCandidates S (level S n) T asked ys)
    (λ o q. asked-tested S n T asked test (passed-over S n v asked.constness asked.trait_id (trees_at T asked.args.now)) ys o (asked-back S (level S n) T U asked xs (filter test ys) o k h.1 e q)) s

-- those that depend on the self type
of_self : (f : Tree → List Candidate) (T U : List Tree) (asked : AskedTrait) → Keeps T U → AskedIn T asked → f (erased_at U asked.self_ty) ≡ f (erased_at T asked.self_ty)
of_self f T U asked k h = ap f (same-grown T U k asked.self_ty h.0)

-- a class of candidates for a trait that isn't asked as a const trait
pub plain-class : (S : Setting) (L : Level) (T U : List Tree) (asked : AskedTrait) (v : TraitGoalProvenVia) (o : Outcome) → Keeps T U → AskedIn T asked → asked.constness ≡ None →
    SaysCandidates S L U asked (class_of S asked.trait_id (erased_at U asked.self_ty) v) o →
    Says (Exists (AskedDecides S L None asked.trait_id (erased_all T asked.args.now)) (class_of S asked.trait_id (erased_at T asked.self_ty) v))
    (Each (AskedRuledOut S L None asked.trait_id (erased_all T asked.args.now)) (class_of S asked.trait_id (erased_at T asked.self_ty) v)) o
plain-class S L T U asked v o k h e s =
    let xs : List Candidate = class_of S asked.trait_id (erased_at T asked.self_ty) v in
    let args : List Tree = erased_all T asked.args.now in
    subst (λ y. Says (Exists (AskedDecides S L y asked.trait_id args) xs) (Each (AskedRuledOut S L y asked.trait_id args) xs) o) e
    (asked-back S L T U asked (class_of S asked.trait_id (erased_at U asked.self_ty) v) xs o k h.1 (of_self (λ t. class_of S asked.trait_id t v) T U asked k h) s)

-- the groups, where the environment decides
pub groups-first : (S : Setting) (L : Level) (T : List Tree) (asked : AskedTrait) (v : TraitGoalProvenVia) (o : Outcome) → (o ≡ outcome.Refuted → ⊥) →
    SaysCandidates S L T asked (class_of S asked.trait_id (erased_at T asked.self_ty) class.ParamEnv) o → SaysGroups S L T (asked_via asked v) o
unfolding class_of
groups-first S L T asked v outcome.Holds n h = inl h
groups-first S L T asked v outcome.Refuted n h = absurd (n refl)
groups-first S L T asked v outcome.Undecided n h = (λ x. ⊎_elim h.0 (λ y. h.1 y.0) x, λ x. h.1 x.0)

-- where it is refuted, the second group does
second-only : (S : Setting) (n : ℕ) (T : List Tree) (asked : AskedTrait) (v : TraitGoalProvenVia) (o : Outcome) →
    Each (AskedRuledOut S (level S n) asked.constness asked.trait_id (erased_all T asked.args.now)) (environment S) →
    SaysCandidates S (level S n) T asked (second_group S asked.trait_id (erased_at T asked.self_ty) v) o → SaysGroups S (level S n) T (asked_via asked v) o
second-only S n T asked v o refuted h =
    let L : Level = level S n in
    let args : List Tree = erased_all T asked.args.now in
    let xs : List Candidate = second_group S asked.trait_id (erased_at T asked.self_ty) v in
    let P : Candidate → Type 0 = AskedDecides S L asked.constness asked.trait_id args in
    let R : Candidate → Type 0 = AskedRuledOut S L asked.constness asked.trait_id args in
    let none_shows : Exists P (environment S) → ⊥ =
    λ x. Exists-Each P R (no_asked_ruled_out S L (each_level_is_consistent S n) asked.constness asked.trait_id args) (environment S) x refuted in
    says-same (Exists P xs) (Exists P (environment S) ⊎ (Each R (environment S) × Exists P xs)) (Each R xs) (Each R (environment S) × Each R xs)
    (λ x. inr (refuted, x)) (λ x. ⊎_elim (λ y. absurd (none_shows y)) (λ y. y.1) x) (λ x. (refuted, x)) (λ x. x.1) o h

pub groups-second : (S : Setting) (n : ℕ) (T U V : List Tree) (asked : AskedTrait) (v : TraitGoalProvenVia) (o : Outcome) (xs : List Candidate) (res : Result Outcome Stop) →
    Keeps T U → Keeps U V → AskedIn T asked → o ≡ outcome.Refuted → xs ≡ fitting (trees_at U asked.args.now) (second_group S asked.trait_id (erased_at U asked.self_ty) v) →
    SaysCandidates S (level S n) T asked (class_of S asked.trait_id (erased_at T asked.self_ty) class.ParamEnv) o → IfOk res (SaysCandidates S (level S n) V asked xs) →
    IfOk res (SaysGroups S (level S n) T (asked_via asked v))
unfolding class_of
groups-second S n T U V asked v o xs res k j h e f first second =
    let L : Level = level S n in
    let ys : List Candidate = second_group S asked.trait_id (erased_at T asked.self_ty) v in
    let zs : List Candidate = second_group S asked.trait_id (erased_at U asked.self_ty) v in
    IfOk-weaker res (SaysCandidates S L V asked xs) (SaysGroups S L T (asked_via asked v))
    (λ q s.
    second-only S n T asked v q (subst (SaysCandidates S L T asked (environment S)) e first)
    (asked-back S L T U asked zs ys q k h.1 (of_self (λ t. second_group S asked.trait_id t v) T U asked k h)
    (asked-fitting S n U asked zs q (asked-back S L U V asked xs (fitting (trees_at U asked.args.now) zs) q j (are_in-grown T U k asked.args.now h.1) f s)))) second
