-- What a level proves each greater one proves, and the level of its height in each alike setting.
use Rattle.std.proofs.Common.{◌≡◌, ℕ, zero, suc, ◌+◌, ◌-◌, ◌≤◌, Vec, Global, refl, sym, subst, arith}
use Rattle.goal_terms.specs.declared.modes.TypingMode.{TypingMode}
use Rattle.goal_tables.specs.declared.rows.ImplRow.{ImplRow}
use Rattle.goal_terms.specs.Tree.{Tree}
use Rattle.goal_lists.specs.Equality.{Equal, Unequal}
use Rattle.goal_lists.specs.Headers.{Part, Clash}
use Rattle.goal_lists.specs.Laws.{IsWithin, IsAlike, with_impls_and_mode}
use Rattle.goal_lists.specs.Level.{Level, nothing}
use Rattle.goal_lists.specs.Levels.{ground_level, next_level, level}
use Rattle.goal_lists.specs.Settings.{Setting}
use Rattle.goal_lists.proofs.WithinAliases.{within-alias_gives, within-alias_refuted}
use Rattle.goal_lists.proofs.WithinConst.{within-const_holds, within-const_refuted}
use Rattle.goal_lists.proofs.WithinGoals.{within-trait_holds, within-trait_refuted}
use Rattle.goal_lists.proofs.WithinHeaders.{within-part, within-clash}
use Rattle.goal_lists.proofs.WithinTerms.{within-equal, within-unequal}

-- where nothing is proved, all that is proved is proved at each level
within-nothing : (L : Level) → IsWithin nothing L
within-nothing L = record {
  gives = λ k ts u h. absurd h;
  gives_refuted = λ k ts h. absurd h;
  through = λ c i ts h. absurd h;
  trait_refuted = λ i ts h. absurd h;
  const_holds = λ c i ts h. absurd h;
  const_refuted = λ c i ts h. absurd h;
  equation_holds = λ a t h. absurd h;
  equation_refuted = λ a t h. absurd h;
  equal = λ t u h. absurd h;
  unequal = λ t u h. absurd h;
  part = λ n h g p q. absurd q;
  clash = λ K N k h g p. absurd p;
}

-- the lowest level is within each that compares terms and headers by a level
within-ground : (L M : Level) → ((t u : Tree) → Equal L t u → M.equal t u) → ((t u : Tree) → Unequal L t u → M.unequal t u) →
    ((n : ℕ) (h g p : Tree) → Part L n h g p → M.part n h g p) →
    ((K : ℕ → Tree → Type 0) (h g : Tree) → Clash L K h g → M.clash K h g) → IsWithin ground_level M
within-ground L M equal unequal part clash = record {
  gives = λ k ts u h. absurd h;
  gives_refuted = λ k ts h. absurd h;
  through = λ c i ts h. absurd h;
  trait_refuted = λ i ts h. absurd h;
  const_holds = λ c i ts h. absurd h;
  const_refuted = λ c i ts h. absurd h;
  equation_holds = λ a t h. absurd h;
  equation_refuted = λ a t h. absurd h;
  equal = λ t u h. equal t u (within-equal (within-nothing L) t u h);
  unequal = λ t u h. unequal t u (within-unequal (within-nothing L) t u h);
  part = λ n h g p q. part n h g p (within-part (within-nothing L) n h g p q);
  clash = λ K N k h g p. clash N h g (within-clash (within-nothing L) K N k h g p);
}

-- the levels above two, one within the other, in alike settings
pub within-next_level : {L M : Level} {S : Setting} {v : Vec ImplRow Global} {m : TypingMode} → IsWithin L M → IsAlike S v m →
    IsWithin (next_level S L) (next_level (with_impls_and_mode S v m) M)
within-next_level w a = record {
  gives = within-alias_gives w a;
  gives_refuted = within-alias_refuted w a;
  through = within-trait_holds w a;
  trait_refuted = within-trait_refuted w a;
  const_holds = within-const_holds w a;
  const_refuted = within-const_refuted w a;
  equation_holds = w.equal;
  equation_refuted = w.unequal;
  equal = within-equal w;
  unequal = within-unequal w;
  part = within-part w;
  clash = within-clash w;
}

-- a setting is alike itself
pub alike-itself : (S : Setting) → IsAlike S S.tables.impls S.mode
alike-itself S = record {
  among = λ r h. h;
  among_back = λ r h. h;
  same_impl = λ i. refl;
  same_coherence = refl;
  same_opens = λ i r e. refl;
  same_checked = λ i r e. refl;
  same_reveals = λ i r e. refl;
  same_defaults = λ i j r d e f. refl;
  same_hidden_defaults = λ i j r d e f. refl;
}

-- and the other is alike the one
pub alike-back : {S : Setting} {v : Vec ImplRow Global} {m : TypingMode} → IsAlike S v m → IsAlike (with_impls_and_mode S v m) S.tables.impls S.mode
alike-back a = record {
  among = a.among_back;
  among_back = a.among;
  same_impl = λ i. sym (a.same_impl i);
  same_coherence = sym a.same_coherence;
  same_opens = λ i r e. sym (a.same_opens i r e);
  same_checked = λ i r e. sym (a.same_checked i r e);
  same_reveals = λ i r e. sym (a.same_reveals i r e);
  same_defaults = λ i j r d e f. sym (a.same_defaults i j r d e f);
  same_hidden_defaults = λ i j r d e f. sym (a.same_hidden_defaults i j r d e f);
}

-- a level is within that of its height in an alike setting
pub within-alike_level : {S : Setting} {v : Vec ImplRow Global} {m : TypingMode} → IsAlike S v m → (n : ℕ) → IsWithin (level S n) (level (with_impls_and_mode S v m) n)
unfolding level
within-alike_level a zero = within-ground nothing ground_level (λ t u h. h) (λ t u h. h) (λ n h g p q. q) (λ K h g p. p)
within-alike_level a (suc n) = within-next_level (within-alike_level a n) a

-- and that is within it
pub within-alike_level_back : {S : Setting} {v : Vec ImplRow Global} {m : TypingMode} → IsAlike S v m →
    (n : ℕ) → IsWithin (level (with_impls_and_mode S v m) n) (level S n)
within-alike_level_back a n = within-alike_level (alike-back a) n

-- a level is within itself
pub within-level_itself : (S : Setting) (n : ℕ) → IsWithin (level S n) (level S n)
within-level_itself S n = within-alike_level (alike-itself S) n

-- a level is within the next one
pub within-level_step : (S : Setting) (n : ℕ) → IsWithin (level S n) (level S (suc n))
unfolding level
within-level_step S zero = within-ground ground_level (next_level S ground_level) (λ t u h. h) (λ t u h. h) (λ n h g p q. q) (λ K h g p. p)
within-level_step S (suc n) = within-next_level (within-level_step S n) (alike-itself S)

-- what is within a level that is within another is within that
pub within-through : {L M N : Level} → IsWithin L M → IsWithin M N → IsWithin L N
within-through w x = record {
  gives = λ k ts u h. x.gives k ts u (w.gives k ts u h);
  gives_refuted = λ k ts h. x.gives_refuted k ts (w.gives_refuted k ts h);
  through = λ c i ts h. x.through c i ts (w.through c i ts h);
  trait_refuted = λ i ts h. x.trait_refuted i ts (w.trait_refuted i ts h);
  const_holds = λ c i ts h. x.const_holds c i ts (w.const_holds c i ts h);
  const_refuted = λ c i ts h. x.const_refuted c i ts (w.const_refuted c i ts h);
  equation_holds = λ a t h. x.equation_holds a t (w.equation_holds a t h);
  equation_refuted = λ a t h. x.equation_refuted a t (w.equation_refuted a t h);
  equal = λ t u h. x.equal t u (w.equal t u h);
  unequal = λ t u h. x.unequal t u (w.unequal t u h);
  part = λ n h g p q. x.part n h g p (w.part n h g p q);
  clash = λ K N k h g p. x.clash N N (λ n u e. e) h g (w.clash K N k h g p);
}

within-level_above : (S : Setting) (n d k : ℕ) → d + n ≡ k → IsWithin (level S n) (level S k)
within-level_above S n zero k e = let f : n ≡ k = omega (arith, e) in subst (λ j. IsWithin (level S n) (level S j)) f (within-level_itself S n)
within-level_above S n (suc d) zero e = absurd (omega (arith, e))
within-level_above S n (suc d) (suc k) e = within-through (within-level_above S n d k (omega (arith, e))) (within-level_step S k)

-- a level is within each greater one
pub within-level : (S : Setting) (n k : ℕ) → n ≤ k → IsWithin (level S n) (level S k)
within-level S n k h = within-level_above S n (k - n) k (omega (arith, h))
