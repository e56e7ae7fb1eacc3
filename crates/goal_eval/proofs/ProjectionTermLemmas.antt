-- What is found of the parts of a projection, and what that says of the whole.
use Rattle.std.proofs.Common.{◌≡◌, ◌⊎◌, ⊎_elim, inl, inr, Bool, true, false, filter, take, ℕ, zero, suc, ◌+◌, ◌<◌, ◌≤◌, List, [], ◌∷◌, length, map, get_or, drop, refl, sym, subst, ap, ◌∙◌, arith, Result}
use Rattle.std.specs.Prelude.{IfOk, ◌||◌}
use Rattle.std.specs.List.{All}
use Rattle.std.proofs.lemmas.List.{drop-map, take-map}
use Rattle.goal_terms.specs.Erased.{erased}
use Rattle.goal_interner.specs.TableMeaning.{Keeps}
use Rattle.goal_terms.specs.Tree.{Tree}
use Rattle.goal_terms.specs.declared.modes.TypingMode.{TypingMode}
use Rattle.goal_terms.specs.declared.ids.TraitId.{TraitId}
use Rattle.goal_interner.specs.declared.term_nodes.TermId.{TermId}
use Rattle.goal_lists.specs.Candidates.{Candidate, environment}
use Rattle.goal_lists.specs.Fitting.{trees_at, may_fit, fitting, near}
use Rattle.goal_lists.specs.ImplTerms.{Projection, trait_args, own_args}
use Rattle.goal_lists.specs.Interned.{IsIn, AreIn, CandidateIn, erased_at, erased_all, candidate_at}
use Rattle.goal_lists.specs.Laws.{IsConsistent}
use Rattle.goal_lists.specs.Level.{Level, HasHeadForm, HeadFormRefuted}
use Rattle.goal_lists.specs.Levels.{level}
use Rattle.goal_lists.specs.Projections.{CandidateGives, TermRefuted, TermDecides, TermRuledOut, GroupGives, GroupRefuted, OwnFormed, OwnUnformed}
use Rattle.goal_lists.specs.Settings.{Setting}
use Rattle.goal_lists.specs.declared.candidates.interned.InternedCandidate.{InternedCandidate}
use Rattle.goal_lists.proofs.ConsistentLemmas.{each_level_is_consistent}
use Rattle.goal_lists.proofs.EqualLemmas.{no_head_form_refuted}
use Rattle.goal_lists.proofs.FilteredWords.{exists-kept, kept-exists, each-kept, kept-each}
use Rattle.goal_lists.proofs.FittingLemmas.{trees-erased, term_refuted, about_projection, near_term_refuted}
use Rattle.goal_lists.proofs.InternedLemmas.{same-grown, all_same-grown, candidate_same-grown}
use Rattle.goal_lists.proofs.TermCandidateLemmas.{one_candidate_term, no_candidate_term_refuted, no_term_ruled_out}
use Rattle.goal_eval.specs.Outcomes.{Says, SaysWhich, FoundIn, ProjectionIn, projection_at, setting_in, level_in}
use Rattle.goal_eval.specs.ProjectionParts.{MergesTo, IsFormed, HaveHeadForms, SomeUnformed, FormedGives}
use Rattle.goal_eval.specs.declared.eval.outcomes.Setting as over
use Rattle.goal_eval.specs.declared.eval.outcomes.Found as founds
use Rattle.goal_eval.specs.declared.eval.outcomes.Found.TheVariants as found
use Rattle.goal_lists.specs.declared.outcomes.Outcome as outcomes
use Rattle.goal_lists.specs.declared.outcomes.Outcome.TheVariants as outcome
use Rattle.goal_eval.specs.declared.eval.outcomes.Projection as projections
use Rattle.goal_lists.specs.Words.{Each, Exists}
use Rattle.goal_lists.proofs.CandidateLemmas.{not_passed_over}
use Rattle.goal_lists.proofs.ContraryWords.{Exists-Each}
use Rattle.goal_lists.proofs.WithinWords.{each-map, exists-map}
use Rattle.goal_eval.specs.SpecialImpls.{SaysMoreSpecial, GivesUnpassed, GivesDecided, Tells, SaysGiven, given_beside, if_decided}
use Rattle.goal_eval.specs.declared.normalizes_to.projection_candidates.GivenTerm.{GivenTerm}
use Rattle.goal_eval.proofs.SpecialImplLemmas.{given-refuted, given-says}
use Rattle.goal_eval.proofs.BeforeLemmas.{SomeBefore, some_before-here, some_before-more, some_before-apart, some_before-whole, some_before-end, exists-mapped, mapped-exists}
use Rattle.goal_eval.proofs.MergingLemmas.{which-map, HeldBefore, held-more, held-undecided, held-end, says-mapped, AgreeOn, AgreeBefore, agree-grown, agree-more, agree-end, which-mapped}
use Rattle.goal_lists.proofs.ResultLemmas.{ok-map}

-- each level is consistent
pub consistent : (s : over.Setting) (m : TypingMode) (n : ℕ) → IsConsistent (level_in s m n)
consistent s m n = each_level_is_consistent (setting_in s m) n

-- a projection stays the same in a table that grows
pub projection_same-grown : (T U : List Tree) → Keeps T U → (p : projections.Projection) → ProjectionIn T p → projection_at U p ≡ projection_at T p
projection_same-grown T U k p h = ap (λ ts. record { item = p.item.now; trait_params = p.trait_params; args = ts }) (all_same-grown T U k p.args.now h.0)

-- the head form of a term, from an earlier table
pub head_form-back : (L : Level) (T U V : List Tree) → Keeps T U → (v : TermId) → IsIn T v → (f : founds.Found) →
    SaysWhich (HasHeadForm L (erased_at U v)) (HeadFormRefuted L (erased_at U v)) V f → SaysWhich (HasHeadForm L (erased_at T v)) (HeadFormRefuted L (erased_at T v)) V f
head_form-back L T U V k v i f h = subst (λ t. SaysWhich (HasHeadForm L t) (HeadFormRefuted L t) V f) (same-grown T U k v i) h

-- what a candidate of a table says of a projection: it gives a term and isn't passed over, or it is ruled out
abbrev pub GivesOf : Setting → Level → List Tree → projections.Projection → Tree → InternedCandidate → Type 0
GivesOf S L T p u x = GivesUnpassed S L (projection_at T p) (erased_at T p.rigid_alias) u (candidate_at T x)

abbrev pub NoneOf : Setting → Level → List Tree → projections.Projection → InternedCandidate → Type 0
NoneOf S L T p x = TermRuledOut S L (projection_at T p) (candidate_at T x)

-- it gives some term, and decides
abbrev pub DecidesOf : Setting → Level → List Tree → projections.Projection → InternedCandidate → Type 0
DecidesOf S L T p x = GivesDecided S L (projection_at T p) (erased_at T p.rigid_alias) (candidate_at T x)

-- a candidate's term, from an earlier table
candidate-back : (S : Setting) (L : Level) (T U V : List Tree) → Keeps T U → (p : projections.Projection) → ProjectionIn T p → (x : InternedCandidate) → CandidateIn T x → (g : GivenTerm) →
    SaysGiven S L (projection_at U p) (erased_at U p.rigid_alias) (candidate_at U x) V g → SaysGiven S L (projection_at T p) (erased_at T p.rigid_alias) (candidate_at T x) V g
candidate-back S L T U V k p i x j g h =
    subst (λ q. SaysGiven S L q (erased_at T p.rigid_alias) (candidate_at T x) V g) (projection_same-grown T U k p i)
    (subst (λ t. SaysGiven S L (projection_at U p) t (candidate_at T x) V g) (same-grown T U k p.rigid_alias i.1)
    (subst (λ y. SaysGiven S L (projection_at U p) (erased_at U p.rigid_alias) y V g) (candidate_same-grown T U k x j) h))

-- a found term says the same in a table that has grown
which-grown : (P : Tree → Type 0) (R : Type 0) (T U : List Tree) → Keeps T U → (f : founds.Found) → FoundIn T f → SaysWhich P R T f → SaysWhich P R U f
which-grown P R T U k (found.Is id) i h = subst P (sym (same-grown T U k id i)) h
which-grown P R T U k found.Refuted i h = h
which-grown P R T U k found.Undecided i h = h

-- what a candidate gives, once it is known what the impls come to that are more special
pub given-beside : (S : Setting) (n : ℕ) (T U V : List Tree) → Keeps T U → Keeps U V → (p : projections.Projection) → ProjectionIn T p → (x : InternedCandidate) → CandidateIn T x →
    (ids : List TermId) → ids ≡ take p.trait_params p.args.now → (f : founds.Found) → FoundIn U f → (o : outcomes.Outcome) → (g : GivenTerm) → g ≡ given_beside o f →
    SaysWhich (λ u. CandidateGives S (level S n) (projection_at T p) (erased_at T p.rigid_alias) u (candidate_at T x)) (TermRefuted S (level S n) (projection_at T p) (candidate_at T x)) U f →
    SaysMoreSpecial S (level S n) (erased_all U ids) (candidate_at U x) o → SaysGiven S (level S n) (projection_at T p) (erased_at T p.rigid_alias) (candidate_at T x) V g
given-beside S n T U V k l p i x j ids e f within o g is gives more =
    let L : Level = level S n in
    let q : Projection = projection_at T p in
    let args : erased_all U ids ≡ trait_args q =
    ap (erased_all U) e ∙ sym (take-map (erased_at U) p.trait_params p.args.now) ∙ ap (take p.trait_params) (all_same-grown T U k p.args.now i.0) in
    let same : SaysMoreSpecial S L (trait_args q) (candidate_at T x) o =
    subst (λ ts. SaysMoreSpecial S L ts (candidate_at T x) o) args (subst (λ y. SaysMoreSpecial S L (erased_all U ids) y o) (candidate_same-grown T U k x j) more) in
    subst (SaysGiven S L q (erased_at T p.rigid_alias) (candidate_at T x) V) (sym is)
    (given-says S L (each_level_is_consistent S n) q (erased_at T p.rigid_alias) (candidate_at T x) V o f
    (which-grown (λ u. CandidateGives S L q (erased_at T p.rigid_alias) u (candidate_at T x)) (TermRefuted S L q (candidate_at T x)) U V l f within gives) same)

-- one that gives none
pub given-none : (S : Setting) (n : ℕ) (T U : List Tree) (p : projections.Projection) (x : InternedCandidate) (f : founds.Found) → f ≡ found.Refuted →
    SaysWhich (λ u. CandidateGives S (level S n) (projection_at T p) (erased_at T p.rigid_alias) u (candidate_at T x)) (TermRefuted S (level S n) (projection_at T p) (candidate_at T x)) U f →
    SaysGiven S (level S n) (projection_at T p) (erased_at T p.rigid_alias) (candidate_at T x) U (record { found = found.Refuted; decides = false })
given-none S n T U p x f e h =
    let L : Level = level S n in
    given-refuted S L (each_level_is_consistent S n) (projection_at T p) (erased_at T p.rigid_alias) (candidate_at T x) U
    (subst (SaysWhich (λ u. CandidateGives S L (projection_at T p) (erased_at T p.rigid_alias) u (candidate_at T x)) (TermRefuted S L (projection_at T p) (candidate_at T x)) U) e h)

-- one more candidate of a group
pub group-more : (S : Setting) (L : Level) → IsConsistent L → (T U V : List Tree) → Keeps T U → Keeps U V → (p : projections.Projection) → ProjectionIn T p →
    (xs : List InternedCandidate) (n : ℕ) (x : InternedCandidate) → n < length xs → x ≡ get_or xs n x → All (CandidateIn T) xs → (f : founds.Found) (g : GivenTerm) (h : founds.Found) → FoundIn U f →
    MergesTo V f g.found h → AgreeBefore (GivesOf S L T p) (NoneOf S L T p) U f xs n →
    SaysGiven S L (projection_at U p) (erased_at U p.rigid_alias) (candidate_at U x) V g →
    AgreeBefore (GivesOf S L T p) (NoneOf S L T p) V h xs (n + 1)
group-more S L c T U V k l p i xs n x lt e all f g h j m b w =
    agree-more (GivesOf S L T p) (NoneOf S L T p)
    (λ y t u q r. one_candidate_term S L c (projection_at T p) (erased_at T p.rigid_alias) t u (candidate_at T y) q.0 r.0)
    (λ y t q r. ⊎_elim (λ z. no_candidate_term_refuted S L c (projection_at T p) (erased_at T p.rigid_alias) t (candidate_at T y) q.0 z) q.1 r)
    V f g.found h xs n x lt e m (agree-grown (GivesOf S L T p) (NoneOf S L T p) U V l f j xs n b)
    (candidate-back S L T U V k p i x (subst (CandidateIn T) (sym e) (all n x lt)) g w).0

-- whether some element before a place has a property
abbrev pub ToldBefore : {A : Type 0} → (A → Type 0) → Bool → List A → ℕ → Type 0
ToldBefore D b xs n = Tells (SomeBefore D xs n) b

told-more : {A : Type 0} (D : A → Type 0) (a b : Bool) (xs : List A) (n : ℕ) (x : A) → n < length xs → x ≡ get_or xs n x →
    ToldBefore D a xs n → Tells (D x) b → ToldBefore D (a || b) xs (n + 1)
told-more D true b xs n x l e h k = some_before-more D xs n h
told-more D false true xs n x l e h k = some_before-here D xs n x l e k
told-more D false false xs n x l e h k = λ s. ⊎_elim h k (some_before-apart D xs n x l e s)

told-end : {A : Type 0} (D : A → Type 0) (b : Bool) (xs : List A) (n : ℕ) → length xs ≤ n → ToldBefore D b xs n → Tells (Exists D xs) b
told-end D true xs n l h = some_before-whole D xs n h
told-end D false xs n l h = λ x. h (some_before-end D xs n l x)

-- whether one of the candidates before a place decides, and one more
pub decided-start : (S : Setting) (L : Level) (T : List Tree) (p : projections.Projection) (xs : List InternedCandidate) → ToldBefore (DecidesOf S L T p) false xs 0
decided-start S L T p xs h = h

pub decided-more : (S : Setting) (L : Level) (T U V : List Tree) → Keeps T U → (p : projections.Projection) → ProjectionIn T p →
    (xs : List InternedCandidate) (n : ℕ) (x : InternedCandidate) → n < length xs → x ≡ get_or xs n x → All (CandidateIn T) xs → (a b : Bool) (g : GivenTerm) → b ≡ a || g.decides →
    ToldBefore (DecidesOf S L T p) a xs n → SaysGiven S L (projection_at U p) (erased_at U p.rigid_alias) (candidate_at U x) V g → ToldBefore (DecidesOf S L T p) b xs (n + 1)
decided-more S L T U V k p i xs n x lt e all a b g is h w =
    subst (λ d. ToldBefore (DecidesOf S L T p) d xs (n + 1)) (sym is)
    (told-more (DecidesOf S L T p) a g.decides xs n x lt e h (candidate-back S L T U V k p i x (subst (CandidateIn T) (sym e) (all n x lt)) g w).1)

-- what some element has beside what each has
exists-beside : {A : Type 0} (P Q V : A → Type 0) → ((x : A) → P x → Q x → V x) → (xs : List A) → Exists P xs → Each Q xs → Exists V xs
unfolding Exists Each
exists-beside P Q V f [] h k = absurd h
exists-beside P Q V f (x ∷ xs) (inl p) k = inl (f x p k.0)
exists-beside P Q V f (x ∷ xs) (inr h) k = inr (exists-beside P Q V f xs h k.1)

-- what can't be denied of any element can't be denied of all
each-undenied : {A : Type 0} (P Q : A → Type 0) → ((x : A) → P x → (Q x → ⊥) → ⊥) → (xs : List A) → Each P xs → (Each Q xs → ⊥) → ⊥
unfolding Each
each-undenied P Q f [] h k = k tt
each-undenied P Q f (x ∷ xs) h k = f x h.0 (λ q. each-undenied P Q f xs h.1 (λ r. k (q, r)))

-- what a group gives: its candidates agree, and one of those that give the term decides
module _ (S : Setting) (L : Level) (c : IsConsistent L) (p : Projection) (itself : Tree) (xs : List Candidate) where
  abbrev G : Tree → Candidate → Type 0
  G u x = GivesUnpassed S L p itself u x

  agreed-group : (u : Tree) → AgreeOn G (TermRuledOut S L p) xs u → Exists (GivesDecided S L p itself) xs → GroupGives S L p itself xs u
  unfolding GroupGives
  agreed-group u h d = (
    exists-beside (GivesDecided S L p itself) (λ x. G u x ⊎ TermRuledOut S L p x) (TermDecides S L p itself u)
        (λ x y z. ⊎_elim (λ g. (g.0, y.1.1)) (λ r. absurd (no_term_ruled_out S L c p itself y.0 x y.1 r)) z) xs d h.1,
    each-map (λ x z. ⊎_elim (λ g. inl g.0) (λ r. inr r) z) xs h.1,
  )

  group-agreed : (u : Tree) → GroupGives S L p itself xs u → (AgreeOn G (TermRuledOut S L p) xs u → ⊥) → ⊥
  unfolding GroupGives
  group-agreed u h k =
      let some : Exists (G u) xs = exists-map (λ x d. (d.0, not_passed_over S L c (trait_args p) x d.1)) xs h.0 in
      each-undenied (λ x. CandidateGives S L p itself u x ⊎ TermRuledOut S L p x) (λ x. G u x ⊎ TermRuledOut S L p x)
      (λ x y z. ⊎_elim (λ g. z (inl (g, λ q. z (inr (inr q))))) (λ r. z (inr r)) y) xs h.1 (λ e. k (some, e))

  group-deciding : (u : Tree) → GroupGives S L p itself xs u → Exists (GivesDecided S L p itself) xs
  unfolding GroupGives
  group-deciding u h = exists-map (λ x d. (u, d)) xs h.0

  pub group-decided : (T : List Tree) (f : founds.Found) (b : Bool) → SaysWhich (AgreeOn G (TermRuledOut S L p) xs) (Each (TermRuledOut S L p) xs) T f → Tells (Exists (GivesDecided S L p itself) xs) b →
      SaysWhich (GroupGives S L p itself xs) (GroupRefuted S L p xs) T (if_decided f b)
  unfolding GroupRefuted
  group-decided T (found.Is id) true h d = agreed-group (erased_at T id) h d
  group-decided T (found.Is id) false h d =
      (λ u g. d (group-deciding u g), λ r. Exists-Each (G (erased_at T id)) (TermRuledOut S L p) (λ x g z. ⊎_elim (λ q. no_candidate_term_refuted S L c p itself (erased_at T id) x g.0 q) g.1 z) xs h.0 r)
  group-decided T found.Refuted b h d = h
  group-decided T found.Undecided b h d = (λ u g. group-agreed u g (h.0 u), h.1)

  pub group-undecided : ((u : Tree) → AgreeOn G (TermRuledOut S L p) xs u → ⊥) → (Each (TermRuledOut S L p) xs → ⊥) →
      ((u : Tree) → GroupGives S L p itself xs u → ⊥) × (GroupRefuted S L p xs → ⊥)
  unfolding GroupRefuted
  group-undecided h k = (λ u g. group-agreed u g (h u), k)

tells-mapped : {A B : Type 0} (f : A → B) (P : B → Type 0) (xs : List A) (b : Bool) → Tells (Exists (λ x. P (f x)) xs) b → Tells (Exists P (map f xs)) b
tells-mapped f P xs true h = exists-mapped f P xs h
tells-mapped f P xs false h = λ e. h (mapped-exists f P xs e)

-- all candidates of a group
pub group-end : (S : Setting) (L : Level) → IsConsistent L → (T U : List Tree) (p : projections.Projection) (xs : List InternedCandidate) (n : ℕ) (f g : founds.Found) (b : Bool) → length xs ≤ n →
    AgreeBefore (GivesOf S L T p) (NoneOf S L T p) U f xs n → ToldBefore (DecidesOf S L T p) b xs n → g ≡ if_decided f b →
    SaysWhich (GroupGives S L (projection_at T p) (erased_at T p.rigid_alias) (map (candidate_at T) xs)) (GroupRefuted S L (projection_at T p) (map (candidate_at T) xs)) U g
group-end S L c T U p xs n f g b l h d e =
    let q : Projection = projection_at T p in
    let itself : Tree = erased_at T p.rigid_alias in
    subst (SaysWhich (GroupGives S L q itself (map (candidate_at T) xs)) (GroupRefuted S L q (map (candidate_at T) xs)) U) (sym e)
    (group-decided S L c q itself (map (candidate_at T) xs) U f b
    (which-mapped (candidate_at T) (λ u y. GivesUnpassed S L q itself u y) (TermRuledOut S L q) U xs f (agree-end (GivesOf S L T p) (NoneOf S L T p) U f xs n l h))
    (tells-mapped (candidate_at T) (GivesDecided S L q itself) xs b (told-end (DecidesOf S L T p) b xs n l d)))

-- a group that is found undecided
pub group-stop : (S : Setting) (L : Level) → IsConsistent L → (T U V : List Tree) (p : projections.Projection) (xs : List InternedCandidate) (n : ℕ) (f : founds.Found) → f ≡ found.Undecided →
    AgreeBefore (GivesOf S L T p) (NoneOf S L T p) U f xs n →
    SaysWhich (GroupGives S L (projection_at T p) (erased_at T p.rigid_alias) (map (candidate_at T) xs)) (GroupRefuted S L (projection_at T p) (map (candidate_at T) xs)) V found.Undecided
group-stop S L c T U V p xs n f e b =
    let q : Projection = projection_at T p in
    let itself : Tree = erased_at T p.rigid_alias in
    let ys : List Candidate = map (candidate_at T) xs in
    let agreed : SaysWhich (AgreeOn (λ u y. GivesUnpassed S L q itself u y) (TermRuledOut S L q) ys) (Each (TermRuledOut S L q) ys) V found.Undecided =
    which-mapped (candidate_at T) (λ u y. GivesUnpassed S L q itself u y) (TermRuledOut S L q) V xs found.Undecided
    (subst (λ g. AgreeBefore (GivesOf S L T p) (NoneOf S L T p) U g xs n) e b) in
    group-undecided S L c q itself ys agreed.0 agreed.1

-- a group's term, from an earlier table
pub group-back : {E : Type 0} (S : Setting) (L : Level) (T U V : List Tree) → Keeps T U → (p : projections.Projection) → ProjectionIn T p → (xs ys : List Candidate) → xs ≡ ys → (r : Result founds.Found E) →
    IfOk r (SaysWhich (GroupGives S L (projection_at U p) (erased_at U p.rigid_alias) xs) (GroupRefuted S L (projection_at U p) xs) V) →
    IfOk r (SaysWhich (GroupGives S L (projection_at T p) (erased_at T p.rigid_alias) ys) (GroupRefuted S L (projection_at T p) ys) V)
group-back S L T U V k p i xs ys e r h =
    subst (λ q. IfOk r (SaysWhich (GroupGives S L q (erased_at T p.rigid_alias) ys) (GroupRefuted S L q ys) V)) (projection_same-grown T U k p i)
    (subst (λ t. IfOk r (SaysWhich (GroupGives S L (projection_at U p) t ys) (GroupRefuted S L (projection_at U p) ys) V)) (same-grown T U k p.rigid_alias i.1)
    (subst (λ zs. IfOk r (SaysWhich (GroupGives S L (projection_at U p) (erased_at U p.rigid_alias) zs) (GroupRefuted S L (projection_at U p) zs) V)) e h))

-- where candidates that don't pass a test give no term, those that pass it say all
tested-says : (S : Setting) (n : ℕ) (p : Projection) (rigid_alias : Tree) (test : Candidate → Bool) → ((x : Candidate) → test x ≡ false → TermRefuted S (level S n) p x) →
    (xs : List Candidate) (V : List Tree) (f : founds.Found) →
    SaysWhich (GroupGives S (level S n) p rigid_alias (filter test xs)) (GroupRefuted S (level S n) p (filter test xs)) V f →
    SaysWhich (GroupGives S (level S n) p rigid_alias xs) (GroupRefuted S (level S n) p xs) V f
unfolding GroupGives GroupRefuted
tested-says S n p rigid_alias test refuted xs V f =
    let G : Tree → Candidate → Type 0 = CandidateGives S (level S n) p rigid_alias in
    let R : Candidate → Type 0 = TermRuledOut S (level S n) p in
    let passed : (x : Candidate) → test x ≡ false → R x = λ x e. inl (refuted x e) in
    which-map (GroupGives S (level S n) p rigid_alias (filter test xs)) (GroupGives S (level S n) p rigid_alias xs) (GroupRefuted S (level S n) p (filter test xs)) (GroupRefuted S (level S n) p xs) V
    (λ u h. (exists-kept (TermDecides S (level S n) p rigid_alias u) test xs h.0, kept-each (λ x. G u x ⊎ R x) test (λ x e. inr (passed x e)) xs h.1))
    (λ u h. (
      kept-exists (TermDecides S (level S n) p rigid_alias u) test (λ x e g. no_term_ruled_out S (level S n) (each_level_is_consistent S n) p rigid_alias u x g (passed x e)) xs h.0,
      each-kept (λ x. G u x ⊎ R x) test xs h.1,
    ))
    (kept-each R test passed xs) (each-kept R test xs) f

group-tested : {E : Type 0} (S : Setting) (n : ℕ) (T U V : List Tree) → Keeps T U → (p : projections.Projection) → ProjectionIn T p → (test : Candidate → Bool) →
    ((x : Candidate) → test x ≡ false → TermRefuted S (level S n) (projection_at T p) x) → (xs ys : List Candidate) → xs ≡ filter test ys → (r : Result founds.Found E) →
    IfOk r (SaysWhich (GroupGives S (level S n) (projection_at U p) (erased_at U p.rigid_alias) xs) (GroupRefuted S (level S n) (projection_at U p) xs) V) →
    IfOk r (SaysWhich (GroupGives S (level S n) (projection_at T p) (erased_at T p.rigid_alias) ys) (GroupRefuted S (level S n) (projection_at T p) ys) V)
group-tested S n T U V k p i test refuted xs ys same r h =
    let L : Level = level S n in
    ok-map (SaysWhich (GroupGives S L (projection_at T p) (erased_at T p.rigid_alias) (filter test ys)) (GroupRefuted S L (projection_at T p) (filter test ys)) V)
    (SaysWhich (GroupGives S L (projection_at T p) (erased_at T p.rigid_alias) ys) (GroupRefuted S L (projection_at T p) ys) V) r
    (λ f w. tested-says S n (projection_at T p) (erased_at T p.rigid_alias) test refuted ys V f w)
    (group-back S L T U V k p i xs (filter test ys) same r h)

-- so those that may fit say all
pub group-fitting : {E : Type 0} (S : Setting) (n : ℕ) (T U V : List Tree) → Keeps T U → (p : projections.Projection) → ProjectionIn T p → (ids : List TermId) → ids ≡ take p.trait_params p.args.now →
    (xs ys : List Candidate) → xs ≡ fitting (trees_at T ids) ys → (r : Result founds.Found E) →
    IfOk r (SaysWhich (GroupGives S (level S n) (projection_at U p) (erased_at U p.rigid_alias) xs) (GroupRefuted S (level S n) (projection_at U p) xs) V) →
    IfOk r (SaysWhich (GroupGives S (level S n) (projection_at T p) (erased_at T p.rigid_alias) ys) (GroupRefuted S (level S n) (projection_at T p) ys) V)
group-fitting S n T U V k p i ids e xs ys same r h =
    let args : map erased (trees_at T ids) ≡ trait_args (projection_at T p) =
    trees-erased T ids ∙ ap (erased_all T) e ∙ sym (take-map (erased_at T) p.trait_params p.args.now) in
    group-tested S n T U V k p i (may_fit (trees_at T ids)) (term_refuted S n (projection_at T p) (trees_at T ids) args) xs ys same r h

-- and so do the clauses of the environment that may be about the projection's trait
pub group-near : {E : Type 0} (S : Setting) (n : ℕ) (T U V : List Tree) → Keeps T U → (p : projections.Projection) → ProjectionIn T p → (j : TraitId) (xs : List Candidate) →
    xs ≡ filter (near (about_projection j (projection_at T p) (trees_at T p.args.now))) (environment S) → (r : Result founds.Found E) →
    IfOk r (SaysWhich (GroupGives S (level S n) (projection_at U p) (erased_at U p.rigid_alias) xs) (GroupRefuted S (level S n) (projection_at U p) xs) V) →
    IfOk r (SaysWhich (GroupGives S (level S n) (projection_at T p) (erased_at T p.rigid_alias) (environment S)) (GroupRefuted S (level S n) (projection_at T p) (environment S)) V)
group-near S n T U V k p i j xs same r h =
    let args : List Tree = trees_at T p.args.now in
    group-tested S n T U V k p i (near (about_projection j (projection_at T p) args)) (near_term_refuted S n j (projection_at T p) args (trees-erased T p.args.now)) xs (environment S) same r h

-- what is found of a term once it is known whether the own arguments have head forms
abbrev pub formed_of : TermId → outcomes.Outcome → founds.Found
formed_of t outcome.Holds = found.Is t
formed_of t outcome.Refuted = found.Refuted
formed_of t outcome.Undecided = found.Undecided

formed-by : (L : Level) (T U : List Tree) (p : projections.Projection) (t : TermId) → erased_at U t ≡ erased_at T t →
    (o : outcomes.Outcome) → Says (HaveHeadForms L (own_args (projection_at T p))) (SomeUnformed L (own_args (projection_at T p))) o →
    SaysWhich (FormedGives L (projection_at T p) (erased_at T t)) (OwnUnformed L (projection_at T p)) U (formed_of t o)
unfolding OwnFormed OwnUnformed
formed-by L T U p t e outcome.Holds h = (e, h)
formed-by L T U p t e outcome.Refuted h = h
formed-by L T U p t e outcome.Undecided h = (λ u x. h.0 x.1, λ x. h.1 x)

pub formed-says : (L : Level) (T U : List Tree) → Keeps T U → (p : projections.Projection) (t : TermId) → IsIn T t → (ids : List TermId) → ids ≡ drop p.trait_params p.args.now →
    (o : outcomes.Outcome) → Says (HaveHeadForms L (erased_all T ids)) (SomeUnformed L (erased_all T ids)) o →
    SaysWhich (FormedGives L (projection_at T p) (erased_at T t)) (OwnUnformed L (projection_at T p)) U (formed_of t o)
unfolding OwnFormed OwnUnformed
formed-says L T U k p t i ids e o h =
    let own : erased_all T ids ≡ own_args (projection_at T p) = ap (erased_all T) e ∙ sym (drop-map (erased_at T) p.trait_params p.args.now) in
    formed-by L T U p t (same-grown T U k t i) o (subst (λ ts. Says (HaveHeadForms L ts) (SomeUnformed L ts) o) own h)

-- a term at a place of a list, whatever stands for what is past its end
pub same_element : {A : Type 0} (xs : List A) (n : ℕ) (d : A) → n < length xs → get_or xs n d ≡ get_or xs n (get_or xs n d)
same_element [] n d l = absurd (omega arith)
same_element (x ∷ xs) zero d l = refl
same_element (x ∷ xs) (suc n) d l = same_element xs n d (omega arith)

-- whether terms before a place have head forms
abbrev pub FormsBefore : Level → List Tree → outcomes.Outcome → List TermId → ℕ → Type 0
FormsBefore L T o ids n = HeldBefore (λ id. IsFormed L (erased_at T id)) (λ id. HeadFormRefuted L (erased_at T id)) o ids n

-- one without a head form
pub forms-refuted : (L : Level) (T U V : List Tree) → Keeps T U → (ids : List TermId) → AreIn T ids → (n : ℕ) (x : TermId) → n < length ids → x ≡ get_or ids n x →
    (f : founds.Found) → f ≡ found.Refuted → SaysWhich (HasHeadForm L (erased_at U x)) (HeadFormRefuted L (erased_at U x)) V f → SomeUnformed L (erased_all T ids)
forms-refuted L T U V k ids i n x l e f o w =
    let here : IsIn T x = subst (IsIn T) (sym e) (i n x l) in
    exists-mapped (erased_at T) (HeadFormRefuted L) ids
    (some_before-whole (λ id. HeadFormRefuted L (erased_at T id)) ids (n + 1)
    (some_before-here (λ id. HeadFormRefuted L (erased_at T id)) ids n x l e
    (subst (SaysWhich (HasHeadForm L (erased_at T x)) (HeadFormRefuted L (erased_at T x)) V) o (head_form-back L T U V k x here f w))))

formed-not_refuted : (L : Level) → IsConsistent L → (T : List Tree) (x : TermId) → IsFormed L (erased_at T x) → HeadFormRefuted L (erased_at T x) → ⊥
formed-not_refuted L c T x h r = no_head_form_refuted L c.no_term_refuted (erased_at T x) h.0 h.1 r

-- one more that has a head form
pub forms-more : (L : Level) → IsConsistent L → (T U V : List Tree) → Keeps T U → (ids : List TermId) → AreIn T ids → (n : ℕ) (x : TermId) → n < length ids → x ≡ get_or ids n x →
    (f : founds.Found) (id : TermId) → f ≡ found.Is id → SaysWhich (HasHeadForm L (erased_at U x)) (HeadFormRefuted L (erased_at U x)) V f →
    (a b : outcomes.Outcome) → b ≡ a → FormsBefore L T a ids n → FormsBefore L T b ids (n + 1)
forms-more L c T U V k ids i n x l e f id o w a b g h =
    let here : IsIn T x = subst (IsIn T) (sym e) (i n x l) in
    subst (λ y. FormsBefore L T y ids (n + 1)) (sym g)
    (held-more (λ y. IsFormed L (erased_at T y)) (λ y. HeadFormRefuted L (erased_at T y)) (formed-not_refuted L c T) a ids n x l e
    (erased_at V id, subst (SaysWhich (HasHeadForm L (erased_at T x)) (HeadFormRefuted L (erased_at T x)) V) o (head_form-back L T U V k x here f w)) h)

-- one more of which it isn't known
pub forms-unknown : (L : Level) → IsConsistent L → (T U V : List Tree) → Keeps T U → (ids : List TermId) → AreIn T ids → (n : ℕ) (x : TermId) → n < length ids → x ≡ get_or ids n x →
    (f : founds.Found) → f ≡ found.Undecided → SaysWhich (HasHeadForm L (erased_at U x)) (HeadFormRefuted L (erased_at U x)) V f →
    (a b : outcomes.Outcome) → b ≡ outcome.Undecided → FormsBefore L T a ids n → FormsBefore L T b ids (n + 1)
forms-unknown L c T U V k ids i n x l e f o w a b g h =
    let here : IsIn T x = subst (IsIn T) (sym e) (i n x l) in
    let none : ((u : Tree) → HasHeadForm L (erased_at T x) u → ⊥) × (HeadFormRefuted L (erased_at T x) → ⊥) =
    subst (SaysWhich (HasHeadForm L (erased_at T x)) (HeadFormRefuted L (erased_at T x)) V) o (head_form-back L T U V k x here f w) in
    subst (λ y. FormsBefore L T y ids (n + 1)) (sym g)
    (held-undecided (λ y. IsFormed L (erased_at T y)) (λ y. HeadFormRefuted L (erased_at T y)) (formed-not_refuted L c T) a ids n x l e (λ y. none.0 y.0 y.1) none.1 h)

-- all terms
pub forms-end : (L : Level) (T : List Tree) (ids : List TermId) (n : ℕ) → length ids ≤ n → (a : outcomes.Outcome) → FormsBefore L T a ids n →
    Says (HaveHeadForms L (erased_all T ids)) (SomeUnformed L (erased_all T ids)) a
forms-end L T ids n l a h =
    says-mapped (erased_at T) (IsFormed L) (HeadFormRefuted L) a ids
    (held-end (λ y. IsFormed L (erased_at T y)) (λ y. HeadFormRefuted L (erased_at T y)) a ids n l h)
