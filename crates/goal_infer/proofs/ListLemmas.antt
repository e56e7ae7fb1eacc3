-- Lists of terms that are made the same in pairs.
use Rattle.std.proofs.Common.{◌≡◌, ◌≢◌, ℕ, zero, suc, ◌+◌, ◌<◌, true, false, List, [], ◌∷◌, length, map, get_or, refl, sym, ap, ◌∙◌, subst, arith, inl, inr}
use Rattle.std.specs.List.{list_any}
use Rattle.std.proofs.lemmas.List.{length-map}
use Rattle.goal_terms.specs.NodeTests.{is_any_infer, some_node}
use Rattle.goal_terms.specs.Tree.{Tree}
use Rattle.goal_terms.specs.declared.answers.VarKind.{VarKind}
use Rattle.goal_terms.specs.declared.heads.Variable.{Variable}
use Rattle.goal_interner.specs.declared.term_nodes.TermId.{TermId}
use Rattle.goal_infer.specs.Inference.{Inference}
use Rattle.goal_infer.specs.ListUnification.{MakesAllSame, all_resolved, lists_are_plain, ListsClash, AllClosed, AreDecidedWherePlain, AreIdentified, AreClashing, AreUntouched}
use Rattle.goal_infer.specs.Resolution.{resolved}
use Rattle.goal_infer.specs.Unification.{kinds_of, MakesSame, sides, IsUnified, are_plain, ArePlain, KeepsPlain, IsDecision, IsDecidedWherePlain, IsIdentified, IsClosed, Clash, IsClashing, IsUntouched}
use Rattle.goal_infer.specs.declared.unify.Unified.{Unified}
use Rattle.goal_infer.specs.declared.unify.Unified.TheVariants.{Yes, Undecided, No}
use Rattle.goal_infer.proofs.DecisionLemmas.{either-false}
use Rattle.goal_infer.proofs.PairLemmas.{SameBelow, maps-at, maps-same}
use Rattle.goal_infer.proofs.PartLemmas.{standing}
use Rattle.goal_infer.proofs.PlainLemmas.{each-true, plain-kept, plain-through}
use Rattle.goal_infer.proofs.UnifyLemmas.{answer-as, yes-same}

-- what a place of two lists of terms says of the lists, and they of it
module _ (f : TermId → Tree) (d : TermId) where
  closed-at : (ids : List TermId) (i : ℕ) → AllClosed (map f ids) → i < length ids → IsClosed (f (get_or ids i d))
  closed-at [] i e p = absurd (omega arith)
  closed-at (x ∷ ids) zero e p = (either-false (some_node is_any_infer (f x)) (list_any (some_node is_any_infer) (map f ids)) e).0
  closed-at (x ∷ ids) (suc i) e p =
      closed-at ids i (either-false (some_node is_any_infer (f x)) (list_any (some_node is_any_infer) (map f ids)) e).1 (omega arith)

  plain-at : (ks : List VarKind) (ls rs : List TermId) (i : ℕ) → lists_are_plain ks (map f ls) (map f rs) ≡ true → i < length ls → i < length rs →
      are_plain ks (f (get_or ls i d)) (f (get_or rs i d)) ≡ true
  unfolding lists_are_plain
  plain-at ks [] rs i e p q = absurd (omega arith)
  plain-at ks (l ∷ ls) [] i e p q = absurd (omega arith)
  plain-at ks (l ∷ ls) (r ∷ rs) zero e p q = (each-true (are_plain ks (f l) (f r)) (lists_are_plain ks (map f ls) (map f rs)) e).0
  plain-at ks (l ∷ ls) (r ∷ rs) (suc i) e p q =
      plain-at ks ls rs i (each-true (are_plain ks (f l) (f r)) (lists_are_plain ks (map f ls) (map f rs)) e).1 (omega arith) (omega arith)

  clash-at : (ls rs : List TermId) (i : ℕ) → i < length ls → i < length rs → Clash (f (get_or ls i d)) (f (get_or rs i d)) → ListsClash (map f ls) (map f rs)
  unfolding ListsClash
  clash-at [] rs i p q h = absurd (omega arith)
  clash-at (l ∷ ls) [] i p q h = absurd (omega arith)
  clash-at (l ∷ ls) (r ∷ rs) zero p q h = inl h
  clash-at (l ∷ ls) (r ∷ rs) (suc i) p q h = inr (clash-at ls rs i (omega arith) (omega arith) h)

-- lists that differ in length clash, and are not identical
lengths-clash : (f : TermId → Tree) (ls rs : List TermId) → length rs ≢ length ls → ListsClash (map f ls) (map f rs)
unfolding ListsClash
lengths-clash f [] [] differ = absurd (differ refl)
lengths-clash f [] (r ∷ rs) differ = tt
lengths-clash f (l ∷ ls) [] differ = tt
lengths-clash f (l ∷ ls) (r ∷ rs) differ = inr (lengths-clash f ls rs (λ e. differ (ap suc e)))

lengths-same : (f : TermId → Tree) (ls rs : List TermId) → map f ls ≡ map f rs → length rs ≡ length ls
lengths-same f ls rs e = sym (length-map rs f) ∙ ap length (sym e) ∙ length-map ls f

-- the answer so far for lists whose pairs are all plain is a decision, and what was plain stays so
abbrev pub AreKeptPlain : List Tree → Inference → Inference → List TermId → List TermId → Unified → Type 0
AreKeptPlain T s z ls rs u =
    lists_are_plain (kinds_of s) (all_resolved T s ls) (all_resolved T s rs) ≡ true → (u ≢ Undecided) × KeepsPlain T s z

-- two lists of terms over the state before
module _ (T : List Tree) (s : Inference) (ls rs : List TermId) where
  all-if : length rs ≡ length ls → (ρ : Variable → Tree) → SameBelow T ls rs (length ls) ρ → MakesAllSame T ls rs ρ
  unfolding MakesAllSame MakesSame
  all-if count ρ b = maps-same (standing T ρ) (record { 0 = 0 }) ls rs count b

  pairs-if : (ρ : Variable → Tree) → MakesAllSame T ls rs ρ → SameBelow T ls rs (length ls) ρ
  unfolding MakesAllSame MakesSame
  pairs-if ρ e k h = maps-at (standing T ρ) (record { 0 = 0 }) ls rs e k h

  -- lists that differ in length
  pub no-lengths : length rs ≢ length ls → IsUnified T s s (MakesAllSame T ls rs) No
  unfolding IsUnified MakesAllSame
  no-lengths differ ρ kinds a e = differ (lengths-same (standing T ρ) ls rs e)

  pub identified-lengths : length rs ≢ length ls → AreIdentified T s s (sides ls rs) No
  unfolding AreIdentified
  identified-lengths differ e = absurd (differ (lengths-same (resolved T s) ls rs e))

  pub clash-lengths : length rs ≢ length ls → AreClashing T s ls rs No
  unfolding AreClashing
  clash-lengths differ said cl cr = lengths-clash (resolved T s) ls rs differ

  -- before the first pair
  pub said-none : IsUnified T s s (SameBelow T ls rs 0) Yes
  said-none = yes-same T s (SameBelow T ls rs 0) (λ ρ k l. absurd (omega arith))

  pub plain-none : AreKeptPlain T s s ls rs Yes
  plain-none e = (λ same. absurd (cc), plain-kept T s s refl)

  pub identified-none : AreIdentified T s s (sides ls rs) Yes
  unfolding AreIdentified
  identified-none e = (refl, refl)

  pub untouched-none : AreUntouched T s s ls rs
  unfolding AreUntouched
  untouched-none cl cr = refl

  -- after all pairs
  pub said-all : length rs ≡ length ls → (i : ℕ) → i ≡ length ls → (z : Inference) (u : Unified) → IsUnified T s z (SameBelow T ls rs i) u →
      IsUnified T s z (MakesAllSame T ls rs) u
  said-all count i e z u h =
      answer-as T s z (SameBelow T ls rs (length ls)) (MakesAllSame T ls rs) (λ ρ a b. all-if count ρ b) (λ ρ a b. pairs-if ρ b) u
      (subst (λ n. IsUnified T s z (SameBelow T ls rs n) u) e h)

  pub plain-all : (z : Inference) (u : Unified) → AreKeptPlain T s z ls rs u → AreDecidedWherePlain T s ls rs u
  unfolding AreDecidedWherePlain
  plain-all z u h e = (h e).0

  pub clash-none : (u : Unified) → u ≢ No → AreClashing T s ls rs u
  unfolding AreClashing
  clash-none u differ said cl cr = absurd (differ said)

  -- one more pair
  module _ (y z : Inference) (i : ℕ) (p : i < length ls) (q : i < length rs) where
    pub plain-next : kinds_of y ≡ kinds_of s → (a u b : Unified) → AreKeptPlain T s y ls rs a →
        IsDecidedWherePlain T y z (sides (get_or ls i (record { 0 = 0 })) (get_or rs i (record { 0 = 0 }))) u → (a ≢ Undecided → u ≢ Undecided → b ≢ Undecided) →
        AreKeptPlain T s z ls rs b
    unfolding IsDecidedWherePlain KeepsPlain ArePlain
    plain-next k a u b before here after e =
        let old : (a ≢ Undecided) × KeepsPlain T s y = before e in
        let new : IsDecision T y z u =
        here (subst (λ ks. ArePlain ks T y (get_or ls i (record { 0 = 0 })) (get_or rs i (record { 0 = 0 }))) (sym k)
        (old.1 (get_or ls i (record { 0 = 0 })) (get_or rs i (record { 0 = 0 })) (plain-at (resolved T s) (record { 0 = 0 }) (kinds_of s) ls rs i e p q))) in
        (after old.0 new.0, plain-through T s y z k old.1 new.2)

    pub identified-next : (a u b : Unified) → AreIdentified T s y (sides ls rs) a →
        IsIdentified T y z (sides (get_or ls i (record { 0 = 0 })) (get_or rs i (record { 0 = 0 }))) u → (a ≡ Yes → u ≡ Yes → b ≡ Yes) → AreIdentified T s z (sides ls rs) b
    unfolding AreIdentified IsIdentified
    identified-next a u b before here after e =
        let old : (a ≡ Yes) × (y ≡ s) = before e in
        let new : (u ≡ Yes) × (z ≡ y) =
        here (subst (λ x. resolved T x (get_or ls i (record { 0 = 0 })) ≡ resolved T x (get_or rs i (record { 0 = 0 }))) (sym old.1)
        (maps-at (resolved T s) (record { 0 = 0 }) ls rs e i p)) in
        (after old.0 new.0, new.1 ∙ old.1)

    pub untouched-next : AreUntouched T s y ls rs → IsUntouched T y z (get_or ls i (record { 0 = 0 })) (get_or rs i (record { 0 = 0 })) → AreUntouched T s z ls rs
    unfolding AreUntouched IsUntouched
    untouched-next before here cl cr =
        let e : y ≡ s = before cl cr in
        here (subst (λ x. IsClosed (resolved T x (get_or ls i (record { 0 = 0 })))) (sym e) (closed-at (resolved T s) (record { 0 = 0 }) ls i cl p))
        (subst (λ x. IsClosed (resolved T x (get_or rs i (record { 0 = 0 })))) (sym e) (closed-at (resolved T s) (record { 0 = 0 }) rs i cr q)) ∙ e

    pub clash-next : AreUntouched T s y ls rs → (u : Unified) → u ≡ No →
        IsClashing T y (get_or ls i (record { 0 = 0 })) (get_or rs i (record { 0 = 0 })) u → AreClashing T s ls rs No
    unfolding AreUntouched AreClashing IsClashing
    clash-next before u said here same cl cr =
        clash-at (resolved T s) (record { 0 = 0 }) ls rs i p q
        (subst (λ x. IsClashing T x (get_or ls i (record { 0 = 0 })) (get_or rs i (record { 0 = 0 })) u) (before cl cr) here said
        (closed-at (resolved T s) (record { 0 = 0 }) ls i cl p) (closed-at (resolved T s) (record { 0 = 0 }) rs i cr q))
