-- The laws of levels, as laws of answers.
use Rattle.std.proofs.Common.{◌≡◌, ◌+◌, ℕ, zero, suc, true, List, [], ◌∷◌, ap, refl, arith, map, ◌==◌, ◌||◌, Bool, false}
use Rattle.goal_terms.specs.Erased.{erased}
use Rattle.goal_terms.specs.Tree.{Tree}
use Rattle.goal_terms.specs.declared.answers.ParamKind.{ParamKind}
use Rattle.goal_terms.specs.declared.answers.TraitGoalProvenVia.{TraitGoalProvenVia}
use Rattle.goal_terms.specs.declared.ids.TraitId.{TraitId}
use Rattle.goal_terms.specs.declared.predicates.BoundConstness.{BoundConstness}
use Rattle.goal_terms.specs.declared.predicates.BoundConstness.TheVariants as constness
use Rattle.goal_tables.specs.Faults.{IsChecked, applies}
use Rattle.goal_tables.specs.Places.{has_double}
use Rattle.goal_tables.specs.Rows.{doubled_id}
use Rattle.goal_tables.specs.declared.faults.TableFault.TheVariants as fault
use Rattle.goal_tables.specs.declared.rows.Tables.{Tables}
use Rattle.goal_lists.specs.Answers.{Question, whether, which_term, Answer, yes, yes_with, no, maybe, IsAnswer, decides}
use Rattle.goal_lists.specs.ConstGoals.{ConstHolds}
use Rattle.goal_lists.specs.Headers.{Fits, Clashes}
use Rattle.goal_lists.specs.Laws.{IsWithin, IsConsistent}
use Rattle.goal_lists.specs.Level.{Level}
use Rattle.goal_lists.specs.Levels.{level}
use Rattle.goal_lists.specs.Settings.{Setting}
use Rattle.goal_lists.proofs.ConsistentLemmas.{each_level_is_consistent}
use Rattle.goal_lists.proofs.PremiseLemmas.{no_clause_refuted}
use Rattle.goal_lists.proofs.SubstitutionLemmas.{one_substitution, no_fit_and_clash}
use Rattle.goal_lists.proofs.WithinHeaders.{within-fits, within-clashes}
use Rattle.goal_lists.proofs.WithinLevels.{within-level}
use Rattle.goal_lists.proofs.WithinPremises.{within-clause_holds, within-clause_refuted}

-- a decided answer of a level is one of each level that proves as much
pub answer-within : {L M : Level} → IsWithin L M → (q : Question) (a : Answer) → decides a ≡ true → IsAnswer L q a → IsAnswer M q a
unfolding IsAnswer
answer-within w (whether p) yes d h = within-clause_holds w p h
answer-within w (whether p) (yes_with t) d h = h
answer-within w (whether p) no d h = within-clause_refuted w p h
answer-within w (whether p) maybe d h = absurd (cc)
answer-within w (which_term k ts) yes d h = h
answer-within w (which_term k ts) (yes_with t) d h = w.gives k ts t h
answer-within w (which_term k ts) no d h = w.gives_refuted k ts h
answer-within w (which_term k ts) maybe d h = absurd (cc)

-- levels that prove the same give the same answers
pub answer-same : {L M : Level} → IsWithin L M → IsWithin M L → (q : Question) (a : Answer) → IsAnswer L q a → IsAnswer M q a
unfolding IsAnswer
answer-same w x (whether p) yes h = within-clause_holds w p h
answer-same w x (whether p) (yes_with t) h = h
answer-same w x (whether p) no h = within-clause_refuted w p h
answer-same w x (whether p) maybe h = (λ k. h.0 (within-clause_holds x p k), λ k. h.1 (within-clause_refuted x p k))
answer-same w x (which_term k ts) yes h = h
answer-same w x (which_term k ts) (yes_with t) h = w.gives k ts t h
answer-same w x (which_term k ts) no h = w.gives_refuted k ts h
answer-same w x (which_term k ts) maybe h = (λ t g. h.0 t (x.gives k ts t g), λ g. h.1 (x.gives_refuted k ts g))

-- two decided answers of a level are one
pub one_answer : (L : Level) → IsConsistent L → (q : Question) (a b : Answer) → decides a ≡ true → decides b ≡ true → IsAnswer L q a → IsAnswer L q b → a ≡ b
unfolding IsAnswer
one_answer L c (whether p) yes yes d e h k = refl
one_answer L c (whether p) yes (yes_with u) d e h k = absurd k
one_answer L c (whether p) yes no d e h k = absurd (no_clause_refuted L c p h k)
one_answer L c (whether p) (yes_with t) b d e h k = absurd h
one_answer L c (whether p) no yes d e h k = absurd (no_clause_refuted L c p k h)
one_answer L c (whether p) no (yes_with u) d e h k = absurd k
one_answer L c (whether p) no no d e h k = refl
one_answer L c (which_term i ts) yes b d e h k = absurd h
one_answer L c (which_term i ts) (yes_with t) yes d e h k = absurd k
one_answer L c (which_term i ts) (yes_with t) (yes_with u) d e h k = ap yes_with (c.one_term i ts t u h k)
one_answer L c (which_term i ts) (yes_with t) no d e h k = absurd (c.no_term_refuted i ts t h k)
one_answer L c (which_term i ts) no yes d e h k = absurd k
one_answer L c (which_term i ts) no (yes_with u) d e h k = absurd (c.no_term_refuted i ts u k h)
one_answer L c (which_term i ts) no no d e h k = refl
one_answer L c q maybe b d e h k = absurd (cc)
one_answer L c q a maybe d e h k = absurd (cc)

-- two heights have a common greater one
module _ (S : Setting) (n m : ℕ) where
  first_within : IsWithin (level S n) (level S (n + m))
  first_within = within-level S n (n + m) (omega arith)

  second_within : IsWithin (level S m) (level S (n + m))
  second_within = within-level S m (n + m) (omega arith)

  consistent_above : IsConsistent (level S (n + m))
  consistent_above = each_level_is_consistent S (n + m)

  -- the laws at two heights
  pub answers-agree : (q : Question) (a b : Answer) → decides a ≡ true → decides b ≡ true → IsAnswer (level S n) q a → IsAnswer (level S m) q b → a ≡ b
  answers-agree q a b d e h k =
      one_answer (level S (n + m)) consistent_above q a b d e (answer-within first_within q a d h) (answer-within second_within q b e k)

  pub classes-agree : (c d : TraitGoalProvenVia) (i : TraitId) (ts : List Tree) → (level S n).through c i ts → (level S m).through d i ts → c ≡ d
  classes-agree c d i ts h k = consistent_above.one_class c d i ts (first_within.through c i ts h) (second_within.through d i ts k)

  pub terms-agree : (t u : Tree) → (level S n).equal t u → (level S m).unequal t u → ⊥
  terms-agree t u h k = consistent_above.no_equal_unequal t u (first_within.equal t u h) (second_within.unequal t u k)

  pub substitutions-agree : (params : List ParamKind) (hs gs s z : List Tree) → Fits (level S n) params hs gs s → Fits (level S m) params hs gs z → s ≡ z
  unfolding Fits
  substitutions-agree params hs gs s z h k =
      one_substitution (level S (n + m)) consistent_above params hs gs s z
      (within-fits first_within params hs gs s h).0 (within-fits second_within params hs gs z k).0

  pub headers-agree : (params : List ParamKind) (ts gs s : List Tree) → Fits (level S n) params (map erased ts) gs s → Clashes (level S m) params (map erased ts) gs → ⊥
  headers-agree params ts gs s h k =
      no_fit_and_clash (level S (n + m)) consistent_above params ts gs s
      (within-fits first_within params (map erased ts) gs s h) (within-clashes second_within params (map erased ts) gs k)

  pub const-agrees : (i : TraitId) (ts : List Tree) → (level S n).const_holds constness.Const i ts → (level S m).const_refuted constness.Maybe i ts → ⊥
  const-agrees i ts h k =
      consistent_above.no_const_refuted constness.Const constness.Maybe i ts refl
      (first_within.const_holds constness.Const i ts h) (second_within.const_refuted constness.Maybe i ts k)

-- a const goal that holds has its plain goal hold
const-plain-above : (S : Setting) (n : ℕ) (c : BoundConstness) (i : TraitId) (ts : List Tree) → ConstHolds S (level S n) c i ts →
    (v : TraitGoalProvenVia) × (level S n).through v i ts
unfolding ConstHolds
const-plain-above S n c i [] h = absurd h
const-plain-above S n c i (t ∷ ts) h = (h.0, h.2)

pub const-plain : (S : Setting) (n : ℕ) (c : BoundConstness) (i : TraitId) (ts : List Tree) → (level S n).const_holds c i ts →
    (v : TraitGoalProvenVia) × (level S n).through v i ts
unfolding level
const-plain S zero c i ts h = absurd h
const-plain S (suc n) c i ts h =
    let p = const-plain-above S n c i ts h in (p.0, (within-level S n (suc n) (omega arith)).through p.0 i ts p.1)

true-false : true ≡ false → ⊥
true-false q = absurd (cc)

-- of eleven tests of which none holds, the third doesn't
third-false : (a b c d e f g h i j k : Bool) → a || b || c || d || e || f || g || h || i || j || k ≡ false → c ≡ false
third-false true b c d e f g h i j k q = absurd (true-false q)
third-false false true c d e f g h i j k q = absurd (true-false q)
third-false false false true d e f g h i j k q = absurd (true-false q)
third-false false false false d e f g h i j k q = refl

-- checked tables have no two impls of one id
pub impls-not_doubled : (t : Tables) → IsChecked t → has_double ◌==◌ (map (λ r. r.id.0) t.impls.items) ≡ false
unfolding IsChecked applies doubled_id
impls-not_doubled t h =
    third-false
    (has_double ◌==◌ (map (λ r. r.id.0) t.traits.items))
    (has_double ◌==◌ (map (λ r. r.id.0) t.items.items))
    (has_double ◌==◌ (map (λ r. r.id.0) t.impls.items))
    (has_double ◌==◌ (map (λ r. r.id.0) t.definitions.items))
    (has_double ◌==◌ (map (λ r. r.id.0) t.free_aliases.items))
    (has_double ◌==◌ (map (λ r. r.id.0) t.opaque_types.items))
    (has_double ◌==◌ (map (λ r. r.id.0) t.inherent_impls.items))
    (has_double ◌==◌ (map (λ r. r.id.0) t.inherent_items.items))
    (has_double ◌==◌ (map (λ r. r.id.0) t.adts.items))
    (has_double ◌==◌ (map (λ r. r.id.0) t.functions.items))
    (has_double ◌==◌ (map (λ r. r.id.0) t.closures.items))
    (h fault.DoubledId)
