-- What is found of const goals, put together from its parts.
use Rattle.std.proofs.Common.{◌≡◌, ◌≢◌, inl, ℕ, zero, suc, ◌-◌, List, [], ◌∷◌, refl, sym, subst, ⊎_elim, arith}
use Rattle.goal_terms.specs.Tree.{Tree}
use Rattle.goal_terms.specs.declared.answers.TraitGoalProvenVia.{TraitGoalProvenVia}
use Rattle.goal_terms.specs.declared.ids.TraitId.{TraitId}
use Rattle.goal_terms.specs.declared.predicates.BoundConstness.{BoundConstness}
use Rattle.goal_interner.specs.declared.term_nodes.TermId.{TermId}
use Rattle.goal_lists.specs.ConstGoals.{ConstHolds, ConstRefuted}
use Rattle.goal_lists.specs.Interned.{erased_at, erased_all}
use Rattle.goal_lists.specs.Level.{Level}
use Rattle.goal_lists.specs.Levels.{level}
use Rattle.goal_lists.specs.Settings.{Setting}
use Rattle.goal_eval.specs.Outcomes.{Says, SaysThrough}
use Rattle.goal_lists.specs.declared.outcomes.Outcome.{Outcome}
use Rattle.goal_lists.specs.declared.outcomes.Outcome.TheVariants as outcome
use Rattle.goal_lists.specs.declared.outcomes.TraitOutcome.{TraitOutcome}
use Rattle.goal_lists.specs.declared.outcomes.TraitOutcome.TheVariants as trait_outcome

-- at depth 0 nothing is decided
pub const-ground : (S : Setting) (d : ℕ) (c : BoundConstness) (i : TraitId) (ts : List Tree) → d ≡ 0 →
    Says ((level S d).const_holds c i ts) ((level S d).const_refuted c i ts) outcome.Undecided
unfolding level
const-ground S d c i ts e =
    subst (λ n. Says ((level S n).const_holds c i ts) ((level S n).const_refuted c i ts) outcome.Undecided) (sym e) (λ x. x, λ x. x)

-- without arguments neither
const-none : (S : Setting) (d : ℕ) (c : BoundConstness) (i : TraitId) → Says ((level S d).const_holds c i []) ((level S d).const_refuted c i []) outcome.Undecided
unfolding level ConstHolds ConstRefuted
const-none S zero c i = (λ x. x, λ x. x)
const-none S (suc d) c i = (λ x. x, λ x. x)

pub const-no_self : (S : Setting) (d : ℕ) (c : BoundConstness) (i : TraitId) (T : List Tree) (ids : List TermId) → ids ≡ [] →
    Says ((level S d).const_holds c i (erased_all T ids)) ((level S d).const_refuted c i (erased_all T ids)) outcome.Undecided
const-no_self S d c i T ids e =
    subst (λ xs. Says ((level S d).const_holds c i (erased_all T xs)) ((level S d).const_refuted c i (erased_all T xs)) outcome.Undecided) (sym e) (const-none S d c i)

-- one depth above another
const-above : (S : Setting) (d : ℕ) (c : BoundConstness) (i : TraitId) (ts : List Tree) (o : Outcome) → d ≢ 0 →
    Says (ConstHolds S (level S (d - 1)) c i ts) (ConstRefuted S (level S (d - 1)) c i ts) o → Says ((level S d).const_holds c i ts) ((level S d).const_refuted c i ts) o
unfolding level
const-above S zero c i ts o e h = absurd (e refl)
const-above S (suc d) c i ts o e h =
    let below : suc d - 1 ≡ d = omega arith in
    subst (λ n. Says (ConstHolds S (level S n) c i ts) (ConstRefuted S (level S n) c i ts) o) below h

-- the plain goal is refuted, or undecided
plain-refuted : (L : Level) (S : Setting) (c : BoundConstness) (i : TraitId) (self : Tree) (args : List Tree) → L.trait_refuted i (self ∷ args) → ConstRefuted S L c i (self ∷ args)
unfolding ConstRefuted
plain-refuted L S c i self args h = inl h

plain-open : (L : Level) (S : Setting) (c : BoundConstness) (i : TraitId) (self : Tree) (args : List Tree) → ((v : TraitGoalProvenVia) → L.through v i (self ∷ args) → ⊥) →
    (L.trait_refuted i (self ∷ args) → ⊥) → Says (ConstHolds S L c i (self ∷ args)) (ConstRefuted S L c i (self ∷ args)) outcome.Undecided
unfolding ConstHolds ConstRefuted
plain-open L S c i self args not_held not_refuted = (λ x. not_held x.0 x.2, λ x. ⊎_elim not_refuted (λ y. not_held y.0 y.2) x)

-- all of it, by what the plain goal comes to
pub const-refuted : (S : Setting) (d : ℕ) (c : BoundConstness) (i : TraitId) (T : List Tree) (self : TermId) (rest ids : List TermId) (t : TraitOutcome) → d ≢ 0 → ids ≡ self ∷ rest →
    t ≡ trait_outcome.Refuted → SaysThrough (λ v. (level S (d - 1)).through v i (erased_all T ids)) ((level S (d - 1)).trait_refuted i (erased_all T ids)) t →
    (level S d).const_refuted c i (erased_all T ids)
const-refuted S d c i T self rest ids t e same f h =
    let L : Level = level S (d - 1) in
    let refuted : L.trait_refuted i (erased_all T ids) = subst (SaysThrough (λ v. L.through v i (erased_all T ids)) (L.trait_refuted i (erased_all T ids))) f h in
    const-above S d c i (erased_all T ids) outcome.Refuted e
    (subst (λ xs. ConstRefuted S L c i (erased_all T xs)) (sym same)
    (plain-refuted L S c i (erased_at T self) (erased_all T rest) (subst (λ xs. L.trait_refuted i (erased_all T xs)) same refuted)))

pub const-open : (S : Setting) (d : ℕ) (c : BoundConstness) (i : TraitId) (T : List Tree) (self : TermId) (rest ids : List TermId) (t : TraitOutcome) → d ≢ 0 → ids ≡ self ∷ rest →
    t ≡ trait_outcome.Undecided → SaysThrough (λ v. (level S (d - 1)).through v i (erased_all T ids)) ((level S (d - 1)).trait_refuted i (erased_all T ids)) t →
    Says ((level S d).const_holds c i (erased_all T ids)) ((level S d).const_refuted c i (erased_all T ids)) outcome.Undecided
const-open S d c i T self rest ids t e same f h =
    let L : Level = level S (d - 1) in
    let says : SaysThrough (λ v. L.through v i (erased_all T (self ∷ rest))) (L.trait_refuted i (erased_all T (self ∷ rest))) trait_outcome.Undecided =
    subst (λ xs. SaysThrough (λ v. L.through v i (erased_all T xs)) (L.trait_refuted i (erased_all T xs)) trait_outcome.Undecided) same
    (subst (SaysThrough (λ v. L.through v i (erased_all T ids)) (L.trait_refuted i (erased_all T ids))) f h) in
    const-above S d c i (erased_all T ids) outcome.Undecided e
    (subst (λ xs. Says (ConstHolds S L c i (erased_all T xs)) (ConstRefuted S L c i (erased_all T xs)) outcome.Undecided) (sym same)
    (plain-open L S c i (erased_at T self) (erased_all T rest) says.0 says.1))
