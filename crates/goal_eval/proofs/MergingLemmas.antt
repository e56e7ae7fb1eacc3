-- What merged outcomes say.
use Rattle.std.proofs.Common.{◌≡◌, ◌≢◌, ◌⊎◌, inl, inr, ℕ, ◌+◌, ◌<◌, ◌≤◌, List, length, map, get_or, sym, subst, ◌∙◌, ⊎_elim}
use Rattle.goal_interner.specs.TableMeaning.{Keeps}
use Rattle.goal_terms.specs.Tree.{Tree}
use Rattle.goal_lists.specs.Interned.{erased_at}
use Rattle.goal_lists.specs.Words.{Each, Exists}
use Rattle.goal_lists.proofs.ContraryWords.{Exists-Each}
use Rattle.goal_lists.proofs.InternedLemmas.{in-grown, same-grown}
use Rattle.goal_eval.specs.Outcomes.{Says, SaysWhich, FoundIn}
use Rattle.goal_lists.specs.Joined.{both}
use Rattle.goal_eval.specs.ProjectionParts.{MergesTo}
use Rattle.goal_eval.specs.declared.eval.outcomes.Found as founds
use Rattle.goal_eval.specs.declared.eval.outcomes.Found.TheVariants as found
use Rattle.goal_lists.specs.declared.outcomes.Outcome as outcomes
use Rattle.goal_lists.specs.declared.outcomes.Outcome.TheVariants as outcome
use Rattle.goal_eval.proofs.BeforeLemmas.{EachBefore, SomeBefore, each_before-more, some_before-more, some_before-here, some_before-apart, each_before-end, some_before-whole, some_before-end, each-at, some_before-each_before, each_before-map, each-mapped, mapped-each, exists-mapped, mapped-exists}

-- a found term stays in a table that grows
pub found_in-grown : (T U : List Tree) → Keeps T U → (f : founds.Found) → FoundIn T f → FoundIn U f
found_in-grown T U k (found.Is id) h = in-grown T U k id h
found_in-grown T U k found.Refuted h = h
found_in-grown T U k found.Undecided h = h

-- the same said in other words
pub which-map : (P Q : Tree → Type 0) (R S : Type 0) (T : List Tree) → ((u : Tree) → P u → Q u) → ((u : Tree) → Q u → P u) → (R → S) → (S → R) →
    (f : founds.Found) → SaysWhich P R T f → SaysWhich Q S T f
which-map P Q R S T to from on back (found.Is id) h = to (erased_at T id) h
which-map P Q R S T to from on back found.Refuted h = on h
which-map P Q R S T to from on back found.Undecided h = (λ u q. h.0 u (from u q), λ s. h.1 (back s))

pub says-map : (P Q R S : Type 0) → (P → Q) → (Q → P) → (R → S) → (S → R) → (o : outcomes.Outcome) → Says P R o → Says Q S o
says-map P Q R S to from on back outcome.Holds h = to h
says-map P Q R S to from on back outcome.Refuted h = on h
says-map P Q R S to from on back outcome.Undecided h = (λ q. h.0 (from q), λ s. h.1 (back s))

-- two questions that must both hold
pub both-says : (A R B Q : Type 0) → (A → R → ⊥) → (B → Q → ⊥) → (a b : outcomes.Outcome) → Says A R a → Says B Q b → Says (A × B) (R ⊎ Q) (both a b)
both-says A R B Q never neither outcome.Refuted b h g = inl h
both-says A R B Q never neither outcome.Holds outcome.Holds h g = (h, g)
both-says A R B Q never neither outcome.Holds outcome.Refuted h g = inr g
both-says A R B Q never neither outcome.Holds outcome.Undecided h g = (λ x. g.0 x.1, λ r. ⊎_elim (λ x. never h x) g.1 r)
both-says A R B Q never neither outcome.Undecided outcome.Refuted h g = inr g
both-says A R B Q never neither outcome.Undecided outcome.Holds h g = (λ x. h.0 x.0, λ r. ⊎_elim h.1 (λ x. neither g x) r)
both-says A R B Q never neither outcome.Undecided outcome.Undecided h g = (λ x. h.0 x.0, λ r. ⊎_elim h.1 g.1 r)

-- what the elements before a place come to together, each of which may hold or be refuted; a refuted one ends the search
abbrev pub HeldBefore : {A : Type 0} → (A → Type 0) → (A → Type 0) → outcomes.Outcome → List A → ℕ → Type 0
HeldBefore F U outcome.Holds xs n = EachBefore F xs n
HeldBefore F U outcome.Refuted xs n = ⊥
HeldBefore F U outcome.Undecided xs n = (Each F xs → ⊥) × (SomeBefore U xs n → ⊥)

-- one more that holds
pub held-more : {A : Type 0} (F U : A → Type 0) → ((x : A) → F x → U x → ⊥) → (o : outcomes.Outcome) (xs : List A) (n : ℕ) (x : A) →
    n < length xs → x ≡ get_or xs n x → F x → HeldBefore F U o xs n → HeldBefore F U o xs (n + 1)
held-more F U never outcome.Holds xs n x l e f h = each_before-more F xs n x l e f h
held-more F U never outcome.Refuted xs n x l e f h = h
held-more F U never outcome.Undecided xs n x l e f h = (h.0, λ b. ⊎_elim h.1 (λ u. never x f u) (some_before-apart U xs n x l e b))

none-before : {A : Type 0} (F U : A → Type 0) → ((x : A) → F x → U x → ⊥) → (o : outcomes.Outcome) (xs : List A) (n : ℕ) → HeldBefore F U o xs n → SomeBefore U xs n → ⊥
none-before F U never outcome.Holds xs n h b = some_before-each_before U F (λ x u f. never x f u) xs n b h
none-before F U never outcome.Refuted xs n h b = h
none-before F U never outcome.Undecided xs n h b = h.1 b

-- one more that is undecided
pub held-undecided : {A : Type 0} (F U : A → Type 0) → ((x : A) → F x → U x → ⊥) → (o : outcomes.Outcome) (xs : List A) (n : ℕ) (x : A) →
    n < length xs → x ≡ get_or xs n x → (F x → ⊥) → (U x → ⊥) → HeldBefore F U o xs n → HeldBefore F U outcome.Undecided xs (n + 1)
held-undecided F U never o xs n x l e f u h =
    (λ g. f (each-at F xs n x l e g), λ b. ⊎_elim (none-before F U never o xs n h) u (some_before-apart U xs n x l e b))

-- all elements
pub held-end : {A : Type 0} (F U : A → Type 0) (o : outcomes.Outcome) (xs : List A) (n : ℕ) → length xs ≤ n → HeldBefore F U o xs n → Says (Each F xs) (Exists U xs) o
held-end F U outcome.Holds xs n l h = each_before-end F xs n l h
held-end F U outcome.Refuted xs n l h = absurd h
held-end F U outcome.Undecided xs n l h = (h.0, λ x. h.1 (some_before-end U xs n l x))

-- the same of what the elements stand for
pub says-mapped : {A B : Type 0} (f : A → B) (F U : B → Type 0) (o : outcomes.Outcome) (xs : List A) →
    Says (Each (λ x. F (f x)) xs) (Exists (λ x. U (f x)) xs) o → Says (Each F (map f xs)) (Exists U (map f xs)) o
says-mapped f F U o xs h =
    says-map (Each (λ x. F (f x)) xs) (Each F (map f xs)) (Exists (λ x. U (f x)) xs) (Exists U (map f xs))
    (each-mapped f F xs) (mapped-each f F xs) (exists-mapped f U xs) (mapped-exists f U xs) o h

-- some element gives a term, and each gives that term or none
abbrev pub AgreeOn : {A : Type 0} → (Tree → A → Type 0) → (A → Type 0) → List A → Tree → Type 0
AgreeOn G R xs u = Exists (G u) xs × Each (λ x. G u x ⊎ R x) xs

-- what is found of the elements before a place, each of which may give a term or none; an undecided one leaves all undecided
abbrev pub AgreeBefore : {A : Type 0} → (Tree → A → Type 0) → (A → Type 0) → List Tree → founds.Found → List A → ℕ → Type 0
AgreeBefore G R T (found.Is id) xs n = SomeBefore (G (erased_at T id)) xs n × EachBefore (λ x. G (erased_at T id) x ⊎ R x) xs n
AgreeBefore G R T found.Refuted xs n = EachBefore R xs n
AgreeBefore G R T found.Undecided xs n = ((u : Tree) → AgreeOn G R xs u → ⊥) × (Each R xs → ⊥)

pub agree-grown : {A : Type 0} (G : Tree → A → Type 0) (R : A → Type 0) (T U : List Tree) → Keeps T U → (f : founds.Found) → FoundIn T f → (xs : List A) (n : ℕ) →
    AgreeBefore G R T f xs n → AgreeBefore G R U f xs n
agree-grown G R T U k (found.Is id) i xs n h =
    subst (λ t. SomeBefore (G t) xs n × EachBefore (λ x. G t x ⊎ R x) xs n) (sym (same-grown T U k id i)) h
agree-grown G R T U k found.Refuted i xs n h = h
agree-grown G R T U k found.Undecided i xs n h = h

-- an element of which nothing is found leaves all undecided
agree-unknown : {A : Type 0} (G : Tree → A → Type 0) (R : A → Type 0) (xs : List A) (n : ℕ) (x : A) → n < length xs → x ≡ get_or xs n x →
    ((u : Tree) → G u x → ⊥) → (R x → ⊥) → ((u : Tree) → AgreeOn G R xs u → ⊥) × (Each R xs → ⊥)
agree-unknown G R xs n x l e g r =
    (λ u h. ⊎_elim (g u) r (each-at (λ y. G u y ⊎ R y) xs n x l e h.1), λ h. r (each-at R xs n x l e h))

-- two elements that give different terms do, too
agree-apart : {A : Type 0} (G : Tree → A → Type 0) (R : A → Type 0) → ((x : A) (t u : Tree) → G t x → G u x → t ≡ u) → ((x : A) (t : Tree) → G t x → R x → ⊥) →
    (xs : List A) (n : ℕ) (x : A) (t u : Tree) → n < length xs → x ≡ get_or xs n x → SomeBefore (G t) xs n → G u x → t ≢ u →
    ((w : Tree) → AgreeOn G R xs w → ⊥) × (Each R xs → ⊥)
agree-apart G R one never xs n x t u l e b g d = (
  λ w h.
      let first : t ≡ w =
      Exists-Each (G t) (λ y. G w y ⊎ R y) (λ y p q. ⊎_elim (λ k. one y t w p k) (λ k. absurd (never y t p k)) q) xs (some_before-whole (G t) xs n b) h.1 in
      let second : u ≡ w = ⊎_elim (λ k. one x u w g k) (λ k. absurd (never x u g k)) (each-at (λ y. G w y ⊎ R y) xs n x l e h.1) in
      d (first ∙ sym second),
  λ h. never x u g (each-at R xs n x l e h),
)

-- one more element
pub agree-more : {A : Type 0} (G : Tree → A → Type 0) (R : A → Type 0) → ((x : A) (t u : Tree) → G t x → G u x → t ≡ u) → ((x : A) (t : Tree) → G t x → R x → ⊥) →
    (T : List Tree) (f g h : founds.Found) (xs : List A) (n : ℕ) (x : A) → n < length xs → x ≡ get_or xs n x →
    MergesTo T f g h → AgreeBefore G R T f xs n → SaysWhich (λ u. G u x) (R x) T g → AgreeBefore G R T h xs (n + 1)
agree-more G R one never T found.Undecided g h xs n x l e m b s = subst (λ k. AgreeBefore G R T k xs (n + 1)) (sym m) b
agree-more G R one never T found.Refuted (found.Is id) h xs n x l e m b s =
    subst (λ k. AgreeBefore G R T k xs (n + 1)) (sym m) (
      some_before-here (G (erased_at T id)) xs n x l e s,
      each_before-more (λ y. G (erased_at T id) y ⊎ R y) xs n x l e (inl s) (each_before-map R (λ y. G (erased_at T id) y ⊎ R y) (λ y r. inr r) xs n b),
    )
agree-more G R one never T found.Refuted found.Refuted h xs n x l e m b s =
    subst (λ k. AgreeBefore G R T k xs (n + 1)) (sym m) (each_before-more R xs n x l e s b)
agree-more G R one never T found.Refuted found.Undecided h xs n x l e m b s =
    subst (λ k. AgreeBefore G R T k xs (n + 1)) (sym m) (agree-unknown G R xs n x l e s.0 s.1)
agree-more G R one never T (found.Is id) found.Refuted h xs n x l e m b s =
    subst (λ k. AgreeBefore G R T k xs (n + 1)) (sym m) (
      some_before-more (G (erased_at T id)) xs n b.0,
      each_before-more (λ y. G (erased_at T id) y ⊎ R y) xs n x l e (inr s) b.1,
    )
agree-more G R one never T (found.Is id) found.Undecided h xs n x l e m b s =
    subst (λ k. AgreeBefore G R T k xs (n + 1)) (sym m) (agree-unknown G R xs n x l e s.0 s.1)
agree-more G R one never T (found.Is id) (found.Is other) h xs n x l e (inl m) b s =
    subst (λ k. AgreeBefore G R T k xs (n + 1)) (sym m.0) (
      some_before-more (G (erased_at T id)) xs n b.0,
      each_before-more (λ y. G (erased_at T id) y ⊎ R y) xs n x l e (inl (subst (λ t. G t x) (sym m.1) s)) b.1,
    )
agree-more G R one never T (found.Is id) (found.Is other) h xs n x l e (inr m) b s =
    subst (λ k. AgreeBefore G R T k xs (n + 1)) (sym m.0) (agree-apart G R one never xs n x (erased_at T id) (erased_at T other) l e b.0 s m.1)

-- all elements
pub agree-end : {A : Type 0} (G : Tree → A → Type 0) (R : A → Type 0) (T : List Tree) (f : founds.Found) (xs : List A) (n : ℕ) → length xs ≤ n →
    AgreeBefore G R T f xs n → SaysWhich (AgreeOn G R xs) (Each R xs) T f
agree-end G R T (found.Is id) xs n l h =
    (some_before-whole (G (erased_at T id)) xs n h.0, each_before-end (λ x. G (erased_at T id) x ⊎ R x) xs n l h.1)
agree-end G R T found.Refuted xs n l h = each_before-end R xs n l h
agree-end G R T found.Undecided xs n l h = h

-- the same of what the elements stand for
pub which-mapped : {A B : Type 0} (f : A → B) (G : Tree → B → Type 0) (R : B → Type 0) (T : List Tree) (xs : List A) (g : founds.Found) →
    SaysWhich (AgreeOn (λ u x. G u (f x)) (λ x. R (f x)) xs) (Each (λ x. R (f x)) xs) T g → SaysWhich (AgreeOn G R (map f xs)) (Each R (map f xs)) T g
which-mapped f G R T xs g h =
    which-map (AgreeOn (λ u x. G u (f x)) (λ x. R (f x)) xs) (AgreeOn G R (map f xs)) (Each (λ x. R (f x)) xs) (Each R (map f xs)) T
    (λ u p. (exists-mapped f (G u) xs p.0, each-mapped f (λ x. G u x ⊎ R x) xs p.1))
    (λ u p. (mapped-exists f (G u) xs p.0, mapped-each f (λ x. G u x ⊎ R x) xs p.1))
    (each-mapped f R xs) (mapped-each f R xs) g h

-- what is merged is in the table
pub merged-in : (T : List Tree) (f g h : founds.Found) → MergesTo T f g h → FoundIn T f → FoundIn T g → FoundIn T h
merged-in T found.Undecided g h m i j = subst (FoundIn T) (sym m) tt
merged-in T found.Refuted g h m i j = subst (FoundIn T) (sym m) j
merged-in T (found.Is a) found.Undecided h m i j = subst (FoundIn T) (sym m) tt
merged-in T (found.Is a) found.Refuted h m i j = subst (FoundIn T) (sym m) i
merged-in T (found.Is a) (found.Is b) h (inl m) i j = subst (FoundIn T) (sym m.0) i
merged-in T (found.Is a) (found.Is b) h (inr m) i j = subst (FoundIn T) (sym m.0) tt
