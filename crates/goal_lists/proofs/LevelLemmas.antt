-- Terms and headers of each level: what supports them, and the lowest level.
use Rattle.std.proofs.Common.{◌≡◌, ℕ, zero, suc, true, List, sym, subst, inl, inr}
use Rattle.goal_terms.specs.Tree.{Tree, Trees, node, alias, variable}
use Rattle.goal_terms.specs.declared.answers.TraitGoalProvenVia.{TraitGoalProvenVia}
use Rattle.goal_terms.specs.declared.heads.Head.{Head}
use Rattle.goal_terms.specs.declared.ids.TraitId.{TraitId}
use Rattle.goal_terms.specs.declared.predicates.BoundConstness.{BoundConstness}
use Rattle.goal_lists.specs.ConstGoals.{satisfies}
use Rattle.goal_lists.specs.Equality.{SameForm}
use Rattle.goal_lists.specs.Laws.{IsConsistent}
use Rattle.goal_lists.specs.Level.{Level, nothing}
use Rattle.goal_lists.specs.Levels.{ground_level, next_level, level}
use Rattle.goal_lists.specs.Settings.{Setting}
use Rattle.goal_lists.proofs.ClashLemmas.{SupportsTerms, no_fit_clash_above}
use Rattle.goal_lists.proofs.EqualLemmas.{HasOneTerm, HasNoTermRefuted, no_equal_unequal_above, equal_itself, equal_of_parts}
use Rattle.goal_lists.proofs.PartLemmas.{one_part_above}

-- each term is equal to itself at a level
abbrev pub IsReflexive : Level → Type 0
IsReflexive L = (t : Tree) → L.equal t t

-- a constructor is equal to what is of the same form, at a level with the laws
equal_of_form : (L : Level) → IsConsistent L → IsReflexive L → (h : Head) (us : Trees) (g : Tree) → SameForm L (node h us) g → L.equal (node h us) g
unfolding SameForm
equal_of_form L laws itself h us g (inl e) = subst (λ u. L.equal (node h us) u) e (itself (node h us))
equal_of_form L laws itself h us (node k gs) (inr x) =
    let same : h ≡ k = cc in
    subst (λ j. L.equal (node h us) (node j gs)) same (laws.equal_parts h us gs x.1)
equal_of_form L laws itself h us (alias k gs) (inr x) = absurd (cc)
equal_of_form L laws itself h us (variable v) (inr x) = absurd (cc)

-- a level with the laws supports the terms and headers of the next
pub supports_terms : (L : Level) → IsConsistent L → IsReflexive L → SupportsTerms L
supports_terms L laws itself = record {
  one_term = laws.one_term;
  no_term_refuted = laws.no_term_refuted;
  no_equal_unequal = laws.no_equal_unequal;
  one_part = laws.one_part;
  no_form_clash = λ K s known t h us g e form c.
      laws.no_fit_clash K s known t g (subst (λ u. L.equal u g) (sym e) (equal_of_form L laws itself h us g form)) c;
}

-- below the lowest height nothing is proved, which supports the terms and headers of the lowest
pub supports_terms-nothing : SupportsTerms nothing
supports_terms-nothing = record {
  one_term = λ k ts t u x y. absurd x;
  no_term_refuted = λ k ts t x y. x;
  no_equal_unequal = λ t u x y. x;
  one_part = λ n h g p q x y. absurd x;
  no_form_clash = λ K s known t h us g e form c. c;
}

-- the lowest level has the laws
pub ground_level_is_consistent : IsConsistent ground_level
ground_level_is_consistent =
    let below : SupportsTerms nothing = supports_terms-nothing in
    record {
      one_term = λ k ts t u x y. absurd x;
      no_term_refuted = λ k ts t x y. x;
      one_class = λ c d i ts x y. absurd x;
      no_trait_refuted = λ c i ts x y. x;
      no_const_refuted = λ c d i ts e x y. x;
      no_equation_refuted = λ a t x y. x;
      no_equal_unequal = no_equal_unequal_above nothing below.one_term below.no_term_refuted below.no_equal_unequal;
      one_part = one_part_above nothing below.one_term below.one_part;
      no_fit_clash = no_fit_clash_above nothing below;
      equal_parts = equal_of_parts nothing;
    }

-- at each level each term is equal to itself
pub level_is_reflexive : (S : Setting) (n : ℕ) → IsReflexive (level S n)
unfolding level
level_is_reflexive S zero = equal_itself nothing
level_is_reflexive S (suc n) = equal_itself (level S n)

-- no goal is proved both ways at a level: the laws that do not concern terms and headers
pub record HasConsistentGoals (L : Level) : Type 0 where
  pub one_term : HasOneTerm L
  pub no_term_refuted : HasNoTermRefuted L
  pub one_class : (c d : TraitGoalProvenVia) (i : TraitId) (ts : List Tree) → L.through c i ts → L.through d i ts → c ≡ d
  pub no_trait_refuted : (c : TraitGoalProvenVia) (i : TraitId) (ts : List Tree) → L.through c i ts → L.trait_refuted i ts → ⊥
  pub no_const_refuted : (c d : BoundConstness) (i : TraitId) (ts : List Tree) → satisfies c d ≡ true → L.const_holds c i ts → L.const_refuted d i ts → ⊥

-- the level above one with the laws has them, if its goals do
pub next_level_is_consistent : (S : Setting) (L : Level) → IsConsistent L → IsReflexive L → HasConsistentGoals (next_level S L) → IsConsistent (next_level S L)
next_level_is_consistent S L laws itself goals = record {
  one_term = goals.one_term;
  no_term_refuted = goals.no_term_refuted;
  one_class = goals.one_class;
  no_trait_refuted = goals.no_trait_refuted;
  no_const_refuted = goals.no_const_refuted;
  no_equation_refuted = laws.no_equal_unequal;
  no_equal_unequal = no_equal_unequal_above L laws.one_term laws.no_term_refuted laws.no_equal_unequal;
  one_part = one_part_above L laws.one_term laws.one_part;
  no_fit_clash = no_fit_clash_above L (supports_terms L laws itself);
  equal_parts = equal_of_parts L;
}

-- all levels have the laws, if goals do above each level that has them
pub level_is_consistent : (S : Setting) → ((L : Level) → IsConsistent L → HasConsistentGoals (next_level S L)) → (n : ℕ) → IsConsistent (level S n)
unfolding level
level_is_consistent S goals zero = ground_level_is_consistent
level_is_consistent S goals (suc n) =
    let laws : IsConsistent (level S n) = level_is_consistent S goals n in
    next_level_is_consistent S (level S n) laws (level_is_reflexive S n) (goals (level S n) laws)
