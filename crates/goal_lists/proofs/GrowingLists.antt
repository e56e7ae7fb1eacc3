-- Lists that get one more element while a table of terms grows.
use Rattle.std.proofs.Common.{◌≡◌, ◌<◌, ◌≤◌, ◌+◌, ℕ, Bool, List, [], ◌∷◌, ◌++◌, length, map, filter, get_or, take, sym, ap, ap₂, ◌∙◌, append_assoc}
use Rattle.std.specs.Prelude.{Result, Ok, Err, IfOk}
use Rattle.std.specs.List.{All}
use Rattle.std.proofs.lemmas.List.{map_more, map_push, take_all}
use Rattle.std.proofs.lemmas.List.Elements.{All-push, filter-append}
use Rattle.goal_interner.specs.TableMeaning.{Keeps}
use Rattle.goal_terms.specs.Tree.{Tree}
use Rattle.goal_interner.specs.declared.term_nodes.TermId.{TermId}
use Rattle.goal_lists.specs.Interned.{AreIn, erased_all}
use Rattle.goal_lists.proofs.InternedLemmas.{all-grow, map-same, all_same-grown}

-- what two facts say of a result, together
pub if_ok-both : {A E : Type 0} (P Q R : A → Type 0) → ((a : A) → P a → Q a → R a) → (r : Result A E) → IfOk r P → IfOk r Q → IfOk r R
if_ok-both P Q R f (Ok a) p q = f a p q
if_ok-both P Q R f (Err e) p q = tt

-- one more element, which stands for what follows the elements so far
pub one-more : {X B : Type 0} (f : X → B) (front so_far : List B) (given : List X) (g : X) (i : ℕ) (b : B) → i < length given → g ≡ get_or given i g →
    so_far ≡ front ++ map f (take i given) → b ≡ f g → so_far ++ b ∷ [] ≡ front ++ map f (take (i + 1) given)
one-more f front so_far given g i b within here so one =
    ap₂ (λ bs c. bs ++ c ∷ []) so (one ∙ ap f here)
    ∙ append_assoc front (map f (take i given)) (f (get_or given i g) ∷ [])
    ∙ ap (λ bs. front ++ bs) (sym (map_more f given i g within))

-- all elements have come
pub all-come : {X B : Type 0} (f : X → B) (front all : List B) (given : List X) (i : ℕ) → length given ≤ i →
    all ≡ front ++ map f (take i given) → all ≡ front ++ map f given
all-come f front all given i done so = so ∙ ap (λ xs. front ++ map f xs) (take_all i given done)

-- the same of those that pass a test
pub one-passing : {X B : Type 0} (f : X → B) (test : B → Bool) (front so_far all : List B) (given : List X) (g : X) (i : ℕ) → i < length given → g ≡ get_or given i g →
    so_far ≡ front ++ filter test (map f (take i given)) → all ≡ so_far ++ filter test (f g ∷ []) → all ≡ front ++ filter test (map f (take (i + 1) given))
one-passing f test front so_far all given g i within here so e =
    e ∙ ap₂ (λ xs x. xs ++ filter test (f x ∷ [])) so here
    ∙ append_assoc front (filter test (map f (take i given))) (filter test (f (get_or given i g) ∷ []))
    ∙ ap (λ xs. front ++ xs) (sym (filter-append test (map f (take i given)) (f (get_or given i g) ∷ [])))
    ∙ ap (λ xs. front ++ filter test xs) (sym (map_more f given i g within))

pub all-passing : {X B : Type 0} (f : X → B) (test : B → Bool) (front all : List B) (given : List X) (i : ℕ) → length given ≤ i →
    all ≡ front ++ filter test (map f (take i given)) → all ≡ front ++ filter test (map f given)
all-passing f test front all given i done so = so ∙ ap (λ xs. front ++ filter test (map f xs)) (take_all i given done)

-- things that are in a table, and what they stand for there, which stays so when it grows
module _ {A B : Type 0} (P : List Tree → A → Type 0) (at : List Tree → A → B)
    (grow : (T U : List Tree) → Keeps T U → (a : A) → P T a → P U a) (same : (T U : List Tree) → Keeps T U → (a : A) → P T a → at U a ≡ at T a) where
  -- those of a list with one more are in the table that has grown
  pub in-pushed : (T U : List Tree) → Keeps T U → (xs : List A) (x : A) → All (P T) xs → P U x → All (P U) (xs ++ x ∷ [])
  in-pushed T U k xs x h here = All-push (P U) xs x (all-grow (P T) (P U) (grow T U k) xs h) here

  -- and they stand for the same, with one more
  pub at-pushed : (T U : List Tree) → Keeps T U → (xs : List A) (x : A) → All (P T) xs → map (at U) (xs ++ x ∷ []) ≡ map (at T) xs ++ at U x ∷ []
  at-pushed T U k xs x h = map_push (at U) xs x ∙ ap (λ bs. bs ++ at U x ∷ []) (map-same (P T) (at U) (at T) (same T U k) xs h)

  -- a list gets what one more element of a row stands for under arguments
  pub under-pushed : {X : Type 0} (what : List Tree → X → B) (I T U : List Tree) (args : List TermId) → AreIn I args → Keeps I T → Keeps T U →
      (front : List B) (xs : List A) (x : A) (given : List X) (g : X) (i : ℕ) → i < length given → g ≡ get_or given i g → All (P T) xs →
      map (at T) xs ≡ front ++ map (what (erased_all I args)) (take i given) → at U x ≡ what (erased_all T args) g →
      map (at U) (xs ++ x ∷ []) ≡ front ++ map (what (erased_all I args)) (take (i + 1) given)
  under-pushed what I T U args known before after front xs x given g i within here h so one =
      at-pushed T U after xs x h
      ∙ one-more (what (erased_all I args)) front (map (at T) xs) given g i (at U x) within here so
      (one ∙ ap (λ s. what s g) (all_same-grown I T before args known))
