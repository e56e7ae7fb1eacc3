-- What the impls that are more special than a candidate come to, and what the candidate is beside them.
use Rattle.std.proofs.Common.{◌≡◌, ◌⊎◌, inl, inr, ℕ, zero, suc, ◌+◌, ◌<◌, ◌≤◌, ◌∙◌, false, List, [], ◌∷◌, ◌++◌, length, get_or, take, Option, Some, refl, sym, ap, subst, ⊎_elim, arith}
use Rattle.std.specs.Prelude.{slice_get}
use Rattle.std.specs.List.{Contains}
use Rattle.std.proofs.lemmas.List.{take_more, take_all}
use Rattle.std.proofs.lemmas.List.Elements.{All-weaker, All-contains}
use Rattle.goal_interner.specs.TableMeaning.{Keeps}
use Rattle.goal_terms.specs.Tree.{Tree}
use Rattle.goal_terms.specs.declared.modes.TypingMode.{TypingMode}
use Rattle.goal_interner.specs.declared.term_nodes.TermId.{TermId}
use Rattle.goal_tables.specs.Indexed.{StandsAmong, AreMoreSpecial}
use Rattle.goal_tables.specs.Specialized.{reached}
use Rattle.goal_tables.specs.declared.rows.ImplRow.{ImplRow}
use Rattle.goal_tables.specs.declared.rows.Tables.{Tables}
use Rattle.goal_lists.specs.Candidates.{Candidate, by_impl}
use Rattle.goal_lists.specs.ImplTerms.{Projection, trait_args}
use Rattle.goal_lists.specs.Interned.{AreIn, erased_at, erased_all, candidate_at}
use Rattle.goal_lists.specs.Laws.{IsConsistent}
use Rattle.goal_lists.specs.Level.{Level}
use Rattle.goal_lists.specs.Projections.{CandidateGives, TermRefuted}
use Rattle.goal_lists.specs.Settings.{Setting}
use Rattle.goal_lists.specs.TraitGoals.{ImplHolds, ImplRefuted, PassedOver, Decides}
use Rattle.goal_lists.specs.Words.{Each, Exists}
use Rattle.goal_lists.specs.declared.candidates.interned.InternedCandidate.{InternedCandidate}
use Rattle.goal_lists.specs.declared.candidates.interned.InternedCandidate.TheVariants as candidates
use Rattle.goal_lists.proofs.CandidateLemmas.{no_impl_refuted, not_passed_over}
use Rattle.goal_lists.proofs.ConsistentLemmas.{each_level_is_consistent}
use Rattle.goal_lists.proofs.InternedLemmas.{all_same-grown}
use Rattle.goal_lists.proofs.SpecializedLemmas.{decides-all, all-decides, passed_over-one, one-passed_over}
use Rattle.goal_lists.proofs.TermCandidateLemmas.{no_candidate_term_refuted}
use Rattle.goal_lists.specs.Joined.{one_of, beside}
use Rattle.goal_eval.specs.Outcomes.{RunsFor, setting_in, level_in, Says, SaysWhich}
use Rattle.goal_eval.specs.SpecialImpls.{SaysMoreSpecial, SaysGiven, given_beside}
use Rattle.goal_eval.specs.declared.eval.outcomes.Found.{Found}
use Rattle.goal_eval.specs.declared.eval.outcomes.Found.TheVariants as found
use Rattle.goal_lists.specs.declared.outcomes.Outcome.{Outcome}
use Rattle.goal_lists.specs.declared.outcomes.Outcome.TheVariants as outcome
use Rattle.goal_eval.specs.declared.eval.outcomes.Setting as over
use Rattle.goal_eval.proofs.OutcomeLists.{says-same, some-more, Exists-taken}

-- a claim of the impl at a place
abbrev pub AtPlace : Tables → (ImplRow → Type 0) → ℕ → Type 0
AtPlace t P p = (q : ImplRow) × (slice_get t.impls.items p ≡ Some q) × P q

same-row : (a b : ImplRow) (o : Option ImplRow) → o ≡ Some a → o ≡ Some b → a ≡ b
same-row a b o e f = let same : Some a ≡ Some b = sym e ∙ f in cc

no-place : (t : Tables) (P R : ImplRow → Type 0) → ((q : ImplRow) → P q → R q → ⊥) → (p : ℕ) → AtPlace t P p → AtPlace t R p → ⊥
no-place t P R contrary p h k = contrary k.0 (subst P (same-row h.0 k.0 (slice_get t.impls.items p) h.1 k.1) h.2) k.2

-- an impl that holds isn't refuted
no-impl : (m : TypingMode) (L : Level) → IsConsistent L → (args : List Tree) (q : ImplRow) → ImplHolds L args q → ImplRefuted m L args q → ⊥
unfolding ImplHolds
no-impl m L c args q h k = no_impl_refuted m L c args q h.0 h.1 k

-- what the impls at some places come to
abbrev pub SaysPlaces : Tables → TypingMode → Level → List Tree → List ℕ → Outcome → Type 0
SaysPlaces t m L args places o = Says (Exists (AtPlace t (ImplHolds L args)) places) (Each (AtPlace t (ImplRefuted m L args)) places) o

abbrev pub ImplsSoFar : over.Setting → ℕ → List Tree → List TermId → List ℕ → ℕ → Outcome → Type 0
ImplsSoFar c n T ids places k o = (m : TypingMode) → RunsFor c m → SaysPlaces c.rows.now m (level_in c m n) (erased_all T ids) (take k places) o

pub impls-start : (c : over.Setting) (n : ℕ) (T : List Tree) (ids : List TermId) (places : List ℕ) → ImplsSoFar c n T ids places 0 outcome.Refuted
unfolding Each
impls-start c n T ids places m s = tt

-- one more
pub impls-more : (c : over.Setting) (n : ℕ) (T U : List Tree) (ids : List TermId) (places : List ℕ) (k p : ℕ) (q : ImplRow) (before next o : Outcome) →
    Keeps T U → AreIn T ids → k < length places → p ≡ get_or places k 0 → slice_get c.rows.now.impls.items p ≡ Some q → o ≡ one_of before next → ImplsSoFar c n T ids places k before →
    ((m : TypingMode) → RunsFor c m → Says (ImplHolds (level_in c m n) (erased_all U ids) q) (ImplRefuted m (level_in c m n) (erased_all U ids) q) next) →
    ImplsSoFar c n T ids places (k + 1) o
impls-more c n T U ids places k p q before next o keeps within l here at e so_far says m s =
    let t : Tables = c.rows.now in
    let L : Level = level_in c m n in
    let args : List Tree = erased_all T ids in
    let P : ℕ → Type 0 = AtPlace t (ImplHolds L args) in
    let R : ℕ → Type 0 = AtPlace t (ImplRefuted m L args) in
    let said : Says (ImplHolds L args q) (ImplRefuted m L args q) next =
    subst (λ xs. Says (ImplHolds L xs q) (ImplRefuted m L xs q) next) (all_same-grown T U keeps ids within) (says m s) in
    let at_place : Says (P p) (R p) next =
    says-same (ImplHolds L args q) (P p) (ImplRefuted m L args q) (R p) (λ h. (q, at, h)) (λ h. subst (ImplHolds L args) (same-row h.0 q (slice_get t.impls.items p) h.1 at) h.2)
    (λ h. (q, at, h)) (λ h. subst (ImplRefuted m L args) (same-row h.0 q (slice_get t.impls.items p) h.1 at) h.2) next said in
    let more : take (k + 1) places ≡ take k places ++ p ∷ [] = take_more places k 0 l ∙ ap (λ x. take k places ++ x ∷ []) (sym here) in
    subst (SaysPlaces t m L args (take (k + 1) places)) (sym e)
    (subst (λ ps. SaysPlaces t m L args ps (one_of before next)) (sym more)
    (some-more P R (no-place t (ImplHolds L args) (ImplRefuted m L args) (no-impl m L (each_level_is_consistent (setting_in c m) n) args)) (take k places) p before next (so_far m s) at_place))

-- what some element of a list has, one at some place has; and the other way round
some-index : {A : Type 0} (P : A → Type 0) (xs : List A) (d : A) → Exists P xs → (j : ℕ) × (j < length xs) × P (get_or xs j d)
unfolding Exists
some-index P [] d h = absurd h
some-index P (x ∷ xs) d (inl p) = (0, omega arith, p)
some-index P (x ∷ xs) d (inr h) = let e = some-index P xs d h in (suc e.0, omega (arith, e.1), e.2)

index-some : {A : Type 0} (P : A → Type 0) (xs : List A) (j : ℕ) (d : A) → j < length xs → P (get_or xs j d) → Exists P xs
unfolding Exists
index-some P [] j d l p = absurd (omega (arith, l))
index-some P (x ∷ xs) zero d l p = inl p
index-some P (x ∷ xs) (suc j) d l p = inr (index-some P xs j d (omega (arith, l)) p)

contained-some : {A : Type 0} (P : A → Type 0) (xs : List A) (x : A) → Contains xs x → P x → Exists P xs
contained-some P xs x c p = index-some P xs c.0 x c.1 (subst P (sym c.2) p)

-- what each element has, each at a place has; and the other way round
each-index : {A : Type 0} (P : A → Type 0) (xs : List A) (j : ℕ) (d : A) → j < length xs → Each P xs → P (get_or xs j d)
unfolding Each
each-index P [] j d l h = absurd (omega (arith, l))
each-index P (x ∷ xs) zero d l h = h.0
each-index P (x ∷ xs) (suc j) d l h = each-index P xs j d (omega (arith, l)) h.1

index-each : {A : Type 0} (P : A → Type 0) (xs : List A) (d : A) → ((j : ℕ) → j < length xs → P (get_or xs j d)) → Each P xs
unfolding Each
index-each P [] d f = tt
index-each P (x ∷ xs) d f = (f 0 (omega arith), index-each P xs d (λ j l. f (suc j) (omega (arith, l))))

contained-each : {A : Type 0} (P : A → Type 0) (xs : List A) (x : A) → Contains xs x → Each P xs → P x
contained-each P xs x c h = subst P c.2 (each-index P xs c.0 x c.1 h)

-- the impls at the places of those that are more special than one are these
module _ (S : Setting) (L : Level) (args : List Tree) (r : ImplRow) (places : List ℕ) (a : AreMoreSpecial S.tables r places) where
  places-pass : Exists (AtPlace S.tables (ImplHolds L args)) places → PassedOver S L args (by_impl r)
  places-pass h =
      let e = some-index (AtPlace S.tables (ImplHolds L args)) places 0 h in
      let there : AtPlace S.tables (ImplHolds L args) (get_or places e.0 0) = e.2 in
      let at = a.sound e.0 e.1 in
      passed_over-one S L args r at.0 at.1 at.4
      (subst (ImplHolds L args) (same-row there.0 at.1 (slice_get S.tables.impls.items (get_or places e.0 0)) there.1 at.3) there.2)

  pass-places : PassedOver S L args (by_impl r) → Exists (AtPlace S.tables (ImplHolds L args)) places
  pass-places h =
      let q = one-passed_over S L args r h in
      let stands : StandsAmong S.tables.impls.items places q.1 = All-contains (StandsAmong S.tables.impls.items places) (reached S.tables q.0 r) q.1 (a.whole q.0) q.2 in
      contained-some (AtPlace S.tables (ImplHolds L args)) places stands.0 stands.1 (q.1, stands.2, q.3)

  places-decide : Each (AtPlace S.tables (ImplRefuted S.mode L args)) places → Decides S L args (by_impl r)
  places-decide h =
      decides-all S L args r
      (λ n.
      All-weaker (StandsAmong S.tables.impls.items places) (ImplRefuted S.mode L args)
      (λ q stands.
      let there : AtPlace S.tables (ImplRefuted S.mode L args) stands.0 = contained-each (AtPlace S.tables (ImplRefuted S.mode L args)) places stands.0 stands.1 h in
      subst (ImplRefuted S.mode L args) (same-row there.0 q (slice_get S.tables.impls.items stands.0) there.1 stands.2) there.2)
      (reached S.tables n r) (a.whole n))

  decide-places : Decides S L args (by_impl r) → Each (AtPlace S.tables (ImplRefuted S.mode L args)) places
  decide-places h =
      index-each (AtPlace S.tables (ImplRefuted S.mode L args)) places 0
      (λ j l. let at = a.sound j l in (at.1, at.3, All-contains (ImplRefuted S.mode L args) (reached S.tables at.0 r) at.1 (all-decides S L args r h at.0) at.4))

  pub special-says : (o : Outcome) → SaysPlaces S.tables S.mode L args places o → SaysMoreSpecial S L args (by_impl r) o
  special-says o h =
      says-same (Exists (AtPlace S.tables (ImplHolds L args)) places) (PassedOver S L args (by_impl r)) (Each (AtPlace S.tables (ImplRefuted S.mode L args)) places) (Decides S L args (by_impl r))
      places-pass pass-places places-decide decide-places o h

-- all of them
pub impls-end : (c : over.Setting) (n : ℕ) (T : List Tree) (ids : List TermId) (r : ImplRow) (places : List ℕ) (k : ℕ) (o : Outcome) → length places ≤ k → ImplsSoFar c n T ids places k o →
    (m : TypingMode) → RunsFor c m → AreMoreSpecial c.rows.now r places → SaysMoreSpecial (setting_in c m) (level_in c m n) (erased_all T ids) (by_impl r) o
impls-end c n T ids r places k o l so_far m s a =
    special-says (setting_in c m) (level_in c m n) (erased_all T ids) r places a o
    (subst (λ ps. SaysPlaces c.rows.now m (level_in c m n) (erased_all T ids) ps o) (take_all k places l) (so_far m s))

-- one that holds
pub impls-shown : (c : over.Setting) (n : ℕ) (T : List Tree) (ids : List TermId) (r : ImplRow) (places : List ℕ) (k : ℕ) (o : Outcome) → o ≡ outcome.Holds → ImplsSoFar c n T ids places k o →
    (m : TypingMode) → RunsFor c m → AreMoreSpecial c.rows.now r places → SaysMoreSpecial (setting_in c m) (level_in c m n) (erased_all T ids) (by_impl r) outcome.Holds
impls-shown c n T ids r places k o e so_far m s a =
    let L : Level = level_in c m n in
    special-says (setting_in c m) L (erased_all T ids) r places a outcome.Holds
    (Exists-taken (AtPlace c.rows.now (ImplHolds L (erased_all T ids))) k places (subst (SaysPlaces c.rows.now m L (erased_all T ids) (take k places)) e (so_far m s)))

-- a candidate that is no impl has none that is more special
pub others-decide : (S : Setting) (L : Level) (args T : List Tree) (x : InternedCandidate) → ((r : _) → x ≡ candidates.Impl r → ⊥) → SaysMoreSpecial S L args (candidate_at T x) outcome.Refuted
unfolding Decides
others-decide S L args T (candidates.Assumption p) n = tt
others-decide S L args T (candidates.ImpliedBound b cs) n = tt
others-decide S L args T (candidates.Impl r) n = absurd (n r refl)
others-decide S L args T candidates.BuiltIn n = tt
others-decide S L args T candidates.Error n = tt

-- a candidate beside them: it decides or is ruled out
pub beside-says : (P R Q D : Type 0) → (P → R → ⊥) → (D → Q → ⊥) → (a b : Outcome) → Says P R a → Says Q D b → Says (P × D) (R ⊎ Q) (beside a b)
beside-says P R Q D never apart outcome.Refuted b h k = inl h
beside-says P R Q D never apart outcome.Holds outcome.Holds h k = inr k
beside-says P R Q D never apart outcome.Holds outcome.Refuted h k = (h, k)
beside-says P R Q D never apart outcome.Holds outcome.Undecided h k = (λ x. k.1 x.1, λ x. ⊎_elim (λ r. never h r) k.0 x)
beside-says P R Q D never apart outcome.Undecided outcome.Holds h k = inr k
beside-says P R Q D never apart outcome.Undecided outcome.Refuted h k = (λ x. h.0 x.0, λ x. ⊎_elim h.1 (λ q. apart k q) x)
beside-says P R Q D never apart outcome.Undecided outcome.Undecided h k = (λ x. h.0 x.0, λ x. ⊎_elim h.1 k.0 x)

-- a candidate that gives no term is ruled out, and doesn't decide
pub given-refuted : (S : Setting) (L : Level) → IsConsistent L → (p : Projection) (itself : Tree) (x : Candidate) (T : List Tree) →
    TermRefuted S L p x → SaysGiven S L p itself x T (record { found = found.Refuted; decides = false })
given-refuted S L l p itself x T h = (inl h, λ d. no_candidate_term_refuted S L l p itself d.0 x d.1.0 h)

-- what one gives beside the impls that are more special
pub given-says : (S : Setting) (L : Level) → IsConsistent L → (p : Projection) (itself : Tree) (x : Candidate) (T : List Tree) (o : Outcome) (f : Found) →
    SaysWhich (λ u. CandidateGives S L p itself u x) (TermRefuted S L p x) T f → SaysMoreSpecial S L (trait_args p) x o → SaysGiven S L p itself x T (given_beside o f)
given-says S L l p itself x T outcome.Holds f h k = (inr k, λ d. not_passed_over S L l (trait_args p) x d.1.1 k)
given-says S L l p itself x T outcome.Refuted (found.Is t) h k = ((h, λ q. not_passed_over S L l (trait_args p) x k q), (erased_at T t, (h, k)))
given-says S L l p itself x T outcome.Refuted found.Refuted h k = given-refuted S L l p itself x T h
given-says S L l p itself x T outcome.Refuted found.Undecided h k =
    ((λ u g. h.0 u g.0, λ r. ⊎_elim h.1 (λ q. not_passed_over S L l (trait_args p) x k q) r), λ d. h.0 d.0 d.1.0)
given-says S L l p itself x T outcome.Undecided (found.Is t) h k = ((h, k.0), λ d. k.1 d.1.1)
given-says S L l p itself x T outcome.Undecided found.Refuted h k = given-refuted S L l p itself x T h
given-says S L l p itself x T outcome.Undecided found.Undecided h k = ((λ u g. h.0 u g.0, λ r. ⊎_elim h.1 k.0 r), λ d. h.0 d.0 d.1.0)
