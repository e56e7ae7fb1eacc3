-- When an impl decides, and when it is passed over: by that it lists no more special impls, by the impls to which its list leads, and by a list of all of these.
use Rattle.std.proofs.Common.{◌≡◌, inl, inr, ℕ, zero, suc, List, [], ◌∷◌, refl, sym, subst}
use Rattle.std.specs.List.{All, Contains}
use Rattle.std.proofs.lemmas.List.Elements.{All-nil, All-cons, All-head, All-tail, All-weaker, All-contains, Contains-append_left, Contains-append_right, Contains-push}
use Rattle.goal_terms.specs.Tree.{Tree}
use Rattle.goal_terms.specs.declared.ids.ImplId.{ImplId}
use Rattle.goal_tables.specs.Specialized.{rows_named, listed_by_all, reached}
use Rattle.goal_tables.specs.declared.rows.ImplRow.{ImplRow}
use Rattle.goal_tables.specs.declared.rows.Tables.{Tables}
use Rattle.goal_lists.specs.Candidates.{Candidate, assumption, implied_bound, by_impl, built_in, error}
use Rattle.goal_lists.specs.Level.{Level}
use Rattle.goal_lists.specs.Settings.{Setting}
use Rattle.goal_lists.specs.TraitGoals.{ImplHolds, ImplRefuted, PassedOver, Decides}
use Rattle.goal_lists.specs.Words.{Each, Exists}
use Rattle.goal_lists.proofs.Members.{IsIn, IsPartOf}

-- the impls that a candidate lists as more special
abbrev pub listed_in : Candidate → List ImplId
listed_in (by_impl r) = r.more_special.items
listed_in x = []

-- an empty list leads to no impl
rows_named-none : (t : Tables) (is : List ImplId) → is ≡ [] → rows_named t is ≡ []
unfolding rows_named
rows_named-none t [] e = refl
rows_named-none t (i ∷ is) e = absurd (cc)

listed_by_all-none : (t : Tables) (rs : List ImplRow) → rs ≡ [] → listed_by_all t rs ≡ []
unfolding listed_by_all
listed_by_all-none t [] e = refl
listed_by_all-none t (r ∷ rs) e = absurd (cc)

pub reached-none : (t : Tables) (n : ℕ) (r : ImplRow) → r.more_special.items ≡ [] → reached t n r ≡ []
unfolding reached
reached-none t zero r e = rows_named-none t r.more_special.items e
reached-none t (suc n) r e = listed_by_all-none t (reached t n r) (reached-none t n r e)

-- so a candidate that lists none decides
pub decides-none : (S : Setting) (L : Level) (args : List Tree) (x : Candidate) → listed_in x ≡ [] → Decides S L args x
unfolding Decides Each
decides-none S L args (by_impl r) e = λ n. subst (Each (ImplRefuted S.mode L args)) (sym (reached-none S.tables n r e)) tt
decides-none S L args (assumption p) e = tt
decides-none S L args (implied_bound b cs) e = tt
decides-none S L args built_in e = tt
decides-none S L args error e = tt

-- and isn't passed over
pub passed_over-none : (S : Setting) (L : Level) (args : List Tree) (x : Candidate) → listed_in x ≡ [] → PassedOver S L args x → ⊥
unfolding PassedOver Exists
passed_over-none S L args (by_impl r) e h = subst (Exists (ImplHolds L args)) (reached-none S.tables h.0 r e) h.1
passed_over-none S L args (assumption p) e h = h
passed_over-none S L args (implied_bound b cs) e h = h
passed_over-none S L args built_in e h = h
passed_over-none S L args error e h = h

-- what all elements of a list have
each-all : {A : Type 0} (P : A → Type 0) (xs : List A) → All P xs → Each P xs
unfolding Each
each-all P [] h = tt
each-all P (x ∷ xs) h = (All-head P x xs h, each-all P xs (All-tail P x xs h))

all-each : {A : Type 0} (P : A → Type 0) (xs : List A) → Each P xs → All P xs
unfolding Each
all-each P [] h = All-nil P
all-each P (x ∷ xs) h = All-cons P x xs h.0 (all-each P xs h.1)

-- what some element has
some-contained : {A : Type 0} (P : A → Type 0) (xs : List A) → Exists P xs → (x : A) × Contains xs x × P x
unfolding Exists
some-contained P [] h = absurd h
some-contained P (x ∷ xs) (inl p) = (x, Contains-append_left (x ∷ []) xs x (Contains-push [] x), p)
some-contained P (x ∷ xs) (inr h) = let e = some-contained P xs h in (e.0, Contains-append_right (x ∷ []) xs e.0 e.1, e.2)

contained-some : {A : Type 0} (P : A → Type 0) (xs : List A) → All (λ x. P x → Exists P xs) xs
unfolding Exists
contained-some P [] = All-nil (λ x. P x → Exists P [])
contained-some P (x ∷ xs) =
    All-cons (λ y. P y → Exists P (x ∷ xs)) x xs (λ p. inl p)
    (All-weaker (λ y. P y → Exists P xs) (λ y. P y → Exists P (x ∷ xs)) (λ y f p. inr (f p)) xs (contained-some P xs))

-- an impl decides where all impls are refuted to which its list leads, in each number of steps
pub decides-all : (S : Setting) (L : Level) (args : List Tree) (r : ImplRow) → ((n : ℕ) → All (ImplRefuted S.mode L args) (reached S.tables n r)) → Decides S L args (by_impl r)
unfolding Decides
decides-all S L args r h = λ n. each-all (ImplRefuted S.mode L args) (reached S.tables n r) (h n)

pub all-decides : (S : Setting) (L : Level) (args : List Tree) (r : ImplRow) → Decides S L args (by_impl r) → (n : ℕ) → All (ImplRefuted S.mode L args) (reached S.tables n r)
unfolding Decides
all-decides S L args r h n = all-each (ImplRefuted S.mode L args) (reached S.tables n r) (h n)

-- it is passed over where one of them holds
pub passed_over-one : (S : Setting) (L : Level) (args : List Tree) (r : ImplRow) (n : ℕ) (q : ImplRow) → Contains (reached S.tables n r) q → ImplHolds L args q →
    PassedOver S L args (by_impl r)
unfolding PassedOver
passed_over-one S L args r n q c h =
    (n, All-contains (λ x. ImplHolds L args x → Exists (ImplHolds L args) (reached S.tables n r)) (reached S.tables n r) q (contained-some (ImplHolds L args) (reached S.tables n r)) c h)

pub one-passed_over : (S : Setting) (L : Level) (args : List Tree) (r : ImplRow) → PassedOver S L args (by_impl r) →
    (n : ℕ) × (q : ImplRow) × Contains (reached S.tables n r) q × ImplHolds L args q
unfolding PassedOver
one-passed_over S L args r h = let q = some-contained (ImplHolds L args) (reached S.tables h.0 r) h.1 in (h.0, q.0, q.1, q.2)

-- some rows are those to which an impl's list leads, in however many steps
pub record AreReached (t : Tables) (r : ImplRow) (qs : List ImplRow) : Type 0 where
  pub all : (n : ℕ) → IsPartOf (reached t n r) qs
  pub each : (q : ImplRow) → IsIn q qs → (n : ℕ) × IsIn q (reached t n r)
