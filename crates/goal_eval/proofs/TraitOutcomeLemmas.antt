-- What trait goals come to: an impl, a candidate, a class, and the goal.
use Rattle.std.proofs.Common.{◌≡◌, ◌≢◌, inl, inr, ℕ, zero, suc, ◌-◌, ◌<◌, ◌∙◌, List, [], ◌∷◌, ◌++◌, length, get_or, Some, None, refl, sym, ap, subst, ⊎_elim, arith}
use Rattle.std.specs.Prelude.{IfOk, Result}
use Rattle.std.specs.List.{All}
use Rattle.std.proofs.lemmas.Result.{IfOk-weaker}
use Rattle.std.proofs.lemmas.List.Elements.{All-tail, All-cons}
use Rattle.goal_interner.specs.TableMeaning.{Keeps}
use Rattle.goal_terms.specs.Tree.{Tree}
use Rattle.goal_terms.specs.declared.answers.ParamKind.{ParamKind}
use Rattle.goal_terms.specs.declared.answers.TraitGoalProvenVia.{TraitGoalProvenVia}
use Rattle.goal_terms.specs.declared.answers.TraitGoalProvenVia.TheVariants as class
use Rattle.goal_terms.specs.declared.ids.TraitId.{TraitId}
use Rattle.goal_interner.specs.declared.term_nodes.TermId.{TermId}
use Rattle.goal_terms.specs.declared.terms.GenericArg.{GenericArg}
use Rattle.goal_tables.specs.declared.rows.ImplRow.{ImplRow}
use Rattle.goal_lists.specs.Candidates.{Candidate, environment, alias_bounds, rest, class_of, classes_before, all_candidates}
use Rattle.goal_lists.specs.Interned.{IsIn, AreIn, erased_at, erased_all, CandidateIn}
use Rattle.goal_lists.specs.Laws.{IsConsistent}
use Rattle.goal_lists.specs.Level.{Level, HasHeadForm, HeadFormRefuted}
use Rattle.goal_lists.specs.Levels.{level}
use Rattle.goal_lists.specs.Settings.{Setting}
use Rattle.goal_lists.specs.TraitGoals.{header_of, CandidateDecides, CandidateRuledOut, TraitHolds, TraitRefuted}
use Rattle.goal_lists.specs.Words.{Each, Exists}
use Rattle.goal_lists.specs.declared.candidates.interned.InternedCandidate.{InternedCandidate}
use Rattle.goal_lists.proofs.CandidateLemmas.{no_candidate_ruled_out}
use Rattle.goal_lists.proofs.ConsistentLemmas.{each_level_is_consistent}
use Rattle.goal_lists.proofs.ContraryWords.{Exists-Each, Each-left, Each-right}
use Rattle.goal_lists.proofs.EqualLemmas.{one_head_form, no_head_form_refuted}
use Rattle.goal_lists.proofs.InternedLemmas.{are_in-grown, all_same-grown, candidate_in-grown}
use Rattle.goal_lists.specs.Joined.{through}
use Rattle.goal_eval.specs.Outcomes.{Says, SaysThrough, SaysMatch, header_terms}
use Rattle.goal_eval.specs.TraitOutcomes.{SaysClasses}
use Rattle.goal_lists.specs.declared.outcomes.Outcome.{Outcome}
use Rattle.goal_lists.specs.declared.outcomes.Outcome.TheVariants as outcome
use Rattle.goal_eval.specs.declared.eval.outcomes.Stop.{Stop}
use Rattle.goal_lists.specs.declared.outcomes.TraitOutcome.{TraitOutcome}
use Rattle.goal_lists.specs.declared.outcomes.TraitOutcome.TheVariants as trait_outcome
use Rattle.goal_eval.specs.declared.eval.outcomes.HeaderMatch.{HeaderMatch}
use Rattle.goal_eval.proofs.OutcomeLists.{All-at}

-- what each element of two lists has, each of the lists together has
each-append : (Q : Candidate → Type 0) (xs ys : List Candidate) → Each Q xs → Each Q ys → Each Q (xs ++ ys)
unfolding Each
each-append Q [] ys h g = g
each-append Q (x ∷ xs) ys h g = (h.0, each-append Q xs ys h.1 g)

-- what an outcome says of a candidate
abbrev pub SaysCandidate : Setting → Level → TraitId → List Tree → Candidate → Outcome → Type 0
SaysCandidate S L i args x o = Says (CandidateDecides S L i args x) (CandidateRuledOut S L i args x) o

-- what it says of a list of candidates
abbrev pub SaysSome : Setting → Level → TraitId → List Tree → List Candidate → Outcome → Type 0
SaysSome S L i args xs o = Says (Exists (CandidateDecides S L i args) xs) (Each (CandidateRuledOut S L i args) xs) o

-- a candidate at a place is in a table that has grown
pub candidate-in : (T U : List Tree) (xs : List InternedCandidate) (k : ℕ) (x : InternedCandidate) → Keeps T U → All (CandidateIn T) xs → k < length xs → x ≡ get_or xs k x → CandidateIn U x
candidate-in T U xs k x keeps h l e = candidate_in-grown T U keeps x (All-at (CandidateIn T) xs k x h l e)

-- what an outcome says of a class of candidates
abbrev pub SaysClass : Setting → Level → TraitId → Tree → List Tree → TraitGoalProvenVia → Outcome → Type 0
SaysClass S L i s args c o = SaysSome S L i args (class_of S i s c) o

-- a class by its list of candidates
pub class-says : (S : Setting) (L : Level) (i : TraitId) (T U : List Tree) (s : Tree) (args : List TermId) (c : TraitGoalProvenVia) (xs : List Candidate) (res : Result Outcome Stop) →
    Keeps T U → AreIn T args → xs ≡ class_of S i s c → IfOk res (SaysSome S L i (erased_all U args) xs) → IfOk res (SaysClass S L i s (erased_all T args) c)
class-says S L i T U s args c xs res k h e f =
    subst (λ ys. IfOk res (SaysSome S L i (erased_all T args) ys)) e
    (subst (λ ts. IfOk res (SaysSome S L i ts xs)) (all_same-grown T U k args h) f)

-- an outcome that decides nothing for its class is that all of it is refuted
pub undecided-refuted : (o : Outcome) (c : TraitGoalProvenVia) → ((d : TraitOutcome) → through o c ≡ Some d → ⊥) → o ≡ outcome.Refuted
undecided-refuted outcome.Holds c n = absurd (n (trait_outcome.Holds c) refl)
undecided-refuted outcome.Refuted c n = refl
undecided-refuted outcome.Undecided c n = absurd (n trait_outcome.Undecided refl)

-- what the candidates of all classes have, those of the first two have
first_two : (R : Candidate → Type 0) (S : Setting) (i : TraitId) (s : Tree) → Each R (all_candidates S i s) → Each R (environment S ++ alias_bounds S s)
unfolding all_candidates
first_two R S i s h = Each-left R (environment S ++ alias_bounds S s) (rest S i s) h

-- what a trait goal comes to by the classes of its candidates, of which some show it and others cannot
abbrev Classes : (Candidate → Type 0) → (Candidate → Type 0) → Setting → TraitId → Tree → TraitOutcome → Type 0
Classes P R S i s d = SaysThrough (λ c. Exists P (class_of S i s c) × Each R (classes_before S i s c)) (Each R (all_candidates S i s)) d

-- what it says of one class
abbrev OfClass : (Candidate → Type 0) → (Candidate → Type 0) → Setting → TraitId → Tree → TraitGoalProvenVia → Outcome → Type 0
OfClass P R S i s c o = Says (Exists P (class_of S i s c)) (Each R (class_of S i s c)) o

-- a class that is neither refuted nor shows the trait leaves the classes after it without effect
environment-blocks : (P R : Candidate → Type 0) (S : Setting) (i : TraitId) (s : Tree) → OfClass P R S i s class.ParamEnv outcome.Undecided →
    (c : TraitGoalProvenVia) → Exists P (class_of S i s c) × Each R (classes_before S i s c) → ⊥
unfolding class_of classes_before
environment-blocks P R S i s h class.ParamEnv k = h.0 k.0
environment-blocks P R S i s h class.AliasBound k = h.1 k.1
environment-blocks P R S i s h class.Misc k = h.1 (Each-left R (environment S) (alias_bounds S s) k.1)

bounds-block : (P R : Candidate → Type 0) → ((x : Candidate) → P x → R x → ⊥) → (S : Setting) (i : TraitId) (s : Tree) → Each R (class_of S i s class.ParamEnv) →
    OfClass P R S i s class.AliasBound outcome.Undecided → (c : TraitGoalProvenVia) → Exists P (class_of S i s c) × Each R (classes_before S i s c) → ⊥
unfolding class_of classes_before
bounds-block P R f S i s e h class.ParamEnv k = Exists-Each P R f (environment S) k.0 e
bounds-block P R f S i s e h class.AliasBound k = h.0 k.0
bounds-block P R f S i s e h class.Misc k = h.1 (Each-right R (environment S) (alias_bounds S s) k.1)

rest-blocks : (P R : Candidate → Type 0) → ((x : Candidate) → P x → R x → ⊥) → (S : Setting) (i : TraitId) (s : Tree) → Each R (class_of S i s class.ParamEnv) →
    Each R (class_of S i s class.AliasBound) → OfClass P R S i s class.Misc outcome.Undecided → (c : TraitGoalProvenVia) → Exists P (class_of S i s c) × Each R (classes_before S i s c) → ⊥
unfolding class_of
rest-blocks P R f S i s e b h class.ParamEnv k = Exists-Each P R f (environment S) k.0 e
rest-blocks P R f S i s e b h class.AliasBound k = Exists-Each P R f (alias_bounds S s) k.0 b
rest-blocks P R f S i s e b h class.Misc k = h.0 k.0

-- the environment decides where it isn't refuted
environment-by : (P R : Candidate → Type 0) (S : Setting) (i : TraitId) (s : Tree) (o : Outcome) (d : TraitOutcome) → OfClass P R S i s class.ParamEnv o →
    through o class.ParamEnv ≡ Some d → Classes P R S i s d
unfolding class_of classes_before all_candidates Each
environment-by P R S i s outcome.Holds d h e = let f : trait_outcome.Holds class.ParamEnv ≡ d = cc in subst (Classes P R S i s) f (h, tt)
environment-by P R S i s outcome.Refuted d h e = absurd (cc)
environment-by P R S i s outcome.Undecided d h e =
    let f : trait_outcome.Undecided ≡ d = cc in
    subst (Classes P R S i s) f (environment-blocks P R S i s h, λ k. h.1 (Each-left R (environment S) (alias_bounds S s) (first_two R S i s k)))

-- then the bounds decide
bounds-by : (P R : Candidate → Type 0) → ((x : Candidate) → P x → R x → ⊥) → (S : Setting) (i : TraitId) (s : Tree) (o : Outcome) (d : TraitOutcome) →
    Each R (class_of S i s class.ParamEnv) → OfClass P R S i s class.AliasBound o → through o class.AliasBound ≡ Some d → Classes P R S i s d
unfolding class_of classes_before
bounds-by P R f S i s outcome.Holds d n h e = let q : trait_outcome.Holds class.AliasBound ≡ d = cc in subst (Classes P R S i s) q (h, n)
bounds-by P R f S i s outcome.Refuted d n h e = absurd (cc)
bounds-by P R f S i s outcome.Undecided d n h e =
    let q : trait_outcome.Undecided ≡ d = cc in
    subst (Classes P R S i s) q (bounds-block P R f S i s n h, λ k. h.1 (Each-right R (environment S) (alias_bounds S s) (first_two R S i s k)))

-- then the rest
rest-by : (P R : Candidate → Type 0) → ((x : Candidate) → P x → R x → ⊥) → (S : Setting) (i : TraitId) (s : Tree) (o : Outcome) (d : TraitOutcome) →
    Each R (class_of S i s class.ParamEnv) → Each R (class_of S i s class.AliasBound) → OfClass P R S i s class.Misc o → through o class.Misc ≡ Some d → Classes P R S i s d
unfolding class_of classes_before all_candidates
rest-by P R f S i s outcome.Holds d n b h e =
    let q : trait_outcome.Holds class.Misc ≡ d = cc in subst (Classes P R S i s) q (h, each-append R (environment S) (alias_bounds S s) n b)
rest-by P R f S i s outcome.Refuted d n b h e = absurd (cc)
rest-by P R f S i s outcome.Undecided d n b h e =
    let q : trait_outcome.Undecided ≡ d = cc in
    subst (Classes P R S i s) q (rest-blocks P R f S i s n b h, λ k. h.1 (Each-right R (environment S ++ alias_bounds S s) (rest S i s) k))

-- where all classes are refuted, all candidates are
all-refuted : (R : Candidate → Type 0) (S : Setting) (i : TraitId) (s : Tree) → Each R (class_of S i s class.ParamEnv) → Each R (class_of S i s class.AliasBound) →
    Each R (class_of S i s class.Misc) → Each R (all_candidates S i s)
unfolding class_of all_candidates
all-refuted R S i s n b h = each-append R (environment S ++ alias_bounds S s) (rest S i s) (each-append R (environment S) (alias_bounds S s) n b) h

-- the same of a level
pub environment-decides : (S : Setting) (n : ℕ) (i : TraitId) (s : Tree) (args : List Tree) (o : Outcome) (d : TraitOutcome) →
    SaysClass S (level S n) i s args class.ParamEnv o → through o class.ParamEnv ≡ Some d → SaysClasses S (level S n) i s args d
environment-decides S n i s args o d h e = environment-by (CandidateDecides S (level S n) i args) (CandidateRuledOut S (level S n) i args) S i s o d h e

pub bounds-decide : (S : Setting) (n : ℕ) (i : TraitId) (s : Tree) (args : List Tree) (e o : Outcome) (d : TraitOutcome) → e ≡ outcome.Refuted →
    SaysClass S (level S n) i s args class.ParamEnv e → SaysClass S (level S n) i s args class.AliasBound o → through o class.AliasBound ≡ Some d →
    SaysClasses S (level S n) i s args d
bounds-decide S n i s args e o d r he ho q =
    bounds-by (CandidateDecides S (level S n) i args) (CandidateRuledOut S (level S n) i args) (no_candidate_ruled_out S (level S n) (each_level_is_consistent S n) i args) S i s o d
    (subst (SaysClass S (level S n) i s args class.ParamEnv) r he) ho q

pub rest-decides : (S : Setting) (n : ℕ) (i : TraitId) (s : Tree) (args : List Tree) (e b o : Outcome) (d : TraitOutcome) → e ≡ outcome.Refuted → b ≡ outcome.Refuted →
    SaysClass S (level S n) i s args class.ParamEnv e → SaysClass S (level S n) i s args class.AliasBound b → SaysClass S (level S n) i s args class.Misc o →
    through o class.Misc ≡ Some d → SaysClasses S (level S n) i s args d
rest-decides S n i s args e b o d r t he hb ho q =
    rest-by (CandidateDecides S (level S n) i args) (CandidateRuledOut S (level S n) i args) (no_candidate_ruled_out S (level S n) (each_level_is_consistent S n) i args) S i s o d
    (subst (SaysClass S (level S n) i s args class.ParamEnv) r he) (subst (SaysClass S (level S n) i s args class.AliasBound) t hb) ho q

pub none-decides : (S : Setting) (n : ℕ) (i : TraitId) (s : Tree) (args : List Tree) (e b o : Outcome) → e ≡ outcome.Refuted → b ≡ outcome.Refuted → through o class.Misc ≡ None →
    SaysClass S (level S n) i s args class.ParamEnv e → SaysClass S (level S n) i s args class.AliasBound b → SaysClass S (level S n) i s args class.Misc o →
    Each (CandidateRuledOut S (level S n) i args) (all_candidates S i s)
none-decides S n i s args e b outcome.Holds r t q he hb ho = absurd (cc)
none-decides S n i s args e b outcome.Refuted r t q he hb ho =
    all-refuted (CandidateRuledOut S (level S n) i args) S i s (subst (SaysClass S (level S n) i s args class.ParamEnv) r he) (subst (SaysClass S (level S n) i s args class.AliasBound) t hb) ho
none-decides S n i s args e b outcome.Undecided r t q he hb ho = absurd (cc)

-- what an outcome says of a trait goal at a depth
abbrev pub SaysTrait : Setting → ℕ → TraitId → List Tree → TraitOutcome → Type 0
SaysTrait S d i ts o = SaysThrough (λ c. (level S d).through c i ts) ((level S d).trait_refuted i ts) o

-- at the lowest level nothing is decided
pub trait-ground : (S : Setting) (d : ℕ) (i : TraitId) (ts : List Tree) → d ≡ 0 → SaysTrait S d i ts trait_outcome.Undecided
unfolding level
trait-ground S zero i ts e = (λ c h. h, λ h. h)
trait-ground S (suc n) i ts e = absurd (omega arith)

-- above it the level below decides
trait-above : (S : Setting) (d n : ℕ) (i : TraitId) (ts : List Tree) (o : TraitOutcome) → d ≡ suc n →
    SaysThrough (λ c. TraitHolds S (level S n) c i ts) (TraitRefuted S (level S n) i ts) o → SaysTrait S d i ts o
unfolding level
trait-above S d n i ts o e h = subst (λ k. SaysTrait S k i ts o) (sym e) h

-- a goal without a self type
pub trait-bare : (S : Setting) (d : ℕ) (i : TraitId) (ts : List Tree) → d ≢ 0 → ts ≡ [] → SaysTrait S d i ts trait_outcome.Undecided
unfolding TraitHolds TraitRefuted
trait-bare S d i [] n e = trait-above S d (d - 1) i [] trait_outcome.Undecided (omega arith) (λ c h. h, λ h. h)
trait-bare S d i (t ∷ ts) n e = absurd (cc)

-- one whose self type's head form is undecided
unformed : (S : Setting) (L : Level) (i : TraitId) (self : Tree) (args : List Tree) → ((u : Tree) → HasHeadForm L self u → ⊥) × (HeadFormRefuted L self → ⊥) →
    SaysThrough (λ c. TraitHolds S L c i (self ∷ args)) (TraitRefuted S L i (self ∷ args)) trait_outcome.Undecided
unfolding TraitHolds TraitRefuted
unformed S L i self args h = (λ c k. h.0 k.0 k.1, λ k. ⊎_elim h.1 (λ q. h.0 q.0 q.1) k)

pub trait-unformed : (S : Setting) (d : ℕ) (i : TraitId) (self : Tree) (args ts : List Tree) → d ≢ 0 → ts ≡ self ∷ args →
    ((u : Tree) → HasHeadForm (level S (d - 1)) self u → ⊥) × (HeadFormRefuted (level S (d - 1)) self → ⊥) → SaysTrait S d i ts trait_outcome.Undecided
trait-unformed S d i self args ts n e h =
    subst (λ xs. SaysTrait S d i xs trait_outcome.Undecided) (sym e)
    (trait-above S d (d - 1) i (self ∷ args) trait_outcome.Undecided (omega arith) (unformed S (level S (d - 1)) i self args h))

-- one whose self type's head form is refuted
formless : (S : Setting) (L : Level) (i : TraitId) (self : Tree) (args : List Tree) → HeadFormRefuted L self → TraitRefuted S L i (self ∷ args)
unfolding TraitRefuted
formless S L i self args h = inl h

pub trait-formless : (S : Setting) (d : ℕ) (i : TraitId) (self : Tree) (args ts : List Tree) → d ≢ 0 → ts ≡ self ∷ args →
    HeadFormRefuted (level S (d - 1)) self → (level S d).trait_refuted i ts
trait-formless S d i self args ts n e h =
    subst (λ xs. SaysTrait S d i xs trait_outcome.Refuted) (sym e)
    (trait-above S d (d - 1) i (self ∷ args) trait_outcome.Refuted (omega arith) (formless S (level S (d - 1)) i self args h))

-- one whose self type has a head form is what its candidates make it
formed : (S : Setting) (L : Level) → IsConsistent L → (i : TraitId) (self s : Tree) (args : List Tree) (o : TraitOutcome) → HasHeadForm L self s →
    SaysClasses S L i s (s ∷ args) o → SaysThrough (λ c. TraitHolds S L c i (self ∷ args)) (TraitRefuted S L i (self ∷ args)) o
unfolding TraitHolds TraitRefuted
formed S L laws i self s args (trait_outcome.Holds c) f h = (s, f, h.0, h.1)
formed S L laws i self s args trait_outcome.Refuted f h = inr (s, f, h)
formed S L laws i self s args trait_outcome.Undecided f h = (
  λ c k.
      let e : k.0 ≡ s = one_head_form L laws.one_term self k.0 s k.1 f in
      h.0 c (
        subst (λ t. Exists (CandidateDecides S L i (t ∷ args)) (class_of S i t c)) e k.2,
        subst (λ t. Each (CandidateRuledOut S L i (t ∷ args)) (classes_before S i t c)) e k.3,
      ),
  λ k. ⊎_elim (λ q. no_head_form_refuted L laws.no_term_refuted self s f q)
      (λ q.
      let e : q.0 ≡ s = one_head_form L laws.one_term self q.0 s q.1 f in
      h.1 (subst (λ t. Each (CandidateRuledOut S L i (t ∷ args)) (all_candidates S i t)) e q.2)) k,
)

pub trait-formed : (S : Setting) (d : ℕ) (i : TraitId) (self s : Tree) (args ts : List Tree) (res : Result TraitOutcome Stop) → d ≢ 0 → ts ≡ self ∷ args →
    HasHeadForm (level S (d - 1)) self s → IfOk res (SaysClasses S (level S (d - 1)) i s (s ∷ args)) → IfOk res (SaysTrait S d i ts)
trait-formed S d i self s args ts res n e f h =
    subst (λ xs. IfOk res (SaysTrait S d i xs)) (sym e)
    (IfOk-weaker res (SaysClasses S (level S (d - 1)) i s (s ∷ args)) (SaysTrait S d i (self ∷ args))
    (λ o k. trait-above S d (d - 1) i (self ∷ args) o (omega arith) (formed S (level S (d - 1)) (each_level_is_consistent S (d - 1)) i self s args o f k)) h)

-- arguments whose self type is replaced by a term of a table that has grown
pub replaced-in : (T U : List Tree) (self : TermId) (first : TermId) (others all : List TermId) → Keeps T U → AreIn T (first ∷ others) → IsIn U self → all ≡ self ∷ others → AreIn U all
replaced-in T U self first others all k h g e =
    subst (AreIn U) (sym e) (All-cons (IsIn U) self others g (are_in-grown T U k others (All-tail (IsIn T) first others h)))

pub replaced-same : (T U : List Tree) (self : TermId) (first : TermId) (others all : List TermId) → Keeps T U → AreIn T (first ∷ others) → all ≡ self ∷ others →
    erased_all U all ≡ erased_at U self ∷ erased_all T others
replaced-same T U self first others all k h e =
    ap (erased_all U) e ∙ ap (λ ts. erased_at U self ∷ ts) (all_same-grown T U k others (All-tail (IsIn T) first others h))

-- the terms of a replaced self type and of the other arguments
pub replaced-formed : (S : Setting) (L : Level) (i : TraitId) (T U : List Tree) (self first : TermId) (others all : List TermId) (res : Result TraitOutcome Stop) →
    Keeps T U → AreIn T (first ∷ others) → all ≡ self ∷ others → IfOk res (SaysClasses S L i (erased_at U self) (erased_all U all)) →
    IfOk res (SaysClasses S L i (erased_at U self) (erased_at U self ∷ erased_all T others))
replaced-formed S L i T U self first others all res k h e f =
    subst (λ ts. IfOk res (SaysClasses S L i (erased_at U self) ts)) (replaced-same T U self first others all k h e) f

-- what a header's match says of an impl's
pub matched : (L : Level) (gs T : List Tree) (r : ImplRow) (ps : List ParamKind) (hs : List GenericArg) (h k : HeaderMatch) → ps ≡ r.params.items → hs ≡ r.trait_args.items → h ≡ k →
    SaysMatch L ps (header_terms hs) gs T h → SaysMatch L r.params.items (header_of r) gs T k
matched L gs T r ps hs h k e f g s =
    subst (SaysMatch L r.params.items (header_of r) gs T) g
    (subst (λ xs. SaysMatch L r.params.items (header_terms xs) gs T h) f (subst (λ xs. SaysMatch L xs (header_terms hs) gs T h) e s))
