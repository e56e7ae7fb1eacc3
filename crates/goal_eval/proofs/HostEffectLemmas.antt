-- What host effect goals come to, where the plain goal holds.
use Rattle.std.proofs.Common.{◌≡◌, ◌≢◌, inr, ℕ, zero, suc, ◌-◌, ◌∙◌, List, ◌∷◌, Result, Some, refl, sym, ap, subst, ⊎_elim, arith}
use Rattle.std.specs.Borrow.{Bor}
use Rattle.std.specs.Prelude.{IfOk}
use Rattle.std.proofs.lemmas.List.Elements.{All-head, All-tail}
use Rattle.std.proofs.lemmas.Result.{IfOk-weaker}
use Rattle.goal_interner.specs.TableMeaning.{Keeps}
use Rattle.goal_terms.specs.Tree.{Tree}
use Rattle.goal_terms.specs.declared.answers.TraitGoalProvenVia.{TraitGoalProvenVia}
use Rattle.goal_terms.specs.declared.ids.TraitId.{TraitId}
use Rattle.goal_terms.specs.declared.predicates.BoundConstness.{BoundConstness}
use Rattle.goal_interner.specs.declared.term_nodes.TermId.{TermId}
use Rattle.goal_interner.proofs.InternLemmas.{keeps-chain, keeps-refl}
use Rattle.goal_lists.specs.ConstGoals.{ConstHolds, ConstRefuted}
use Rattle.goal_lists.specs.Interned.{IsIn, AreIn, erased_at, erased_all}
use Rattle.goal_lists.specs.Laws.{IsConsistent}
use Rattle.goal_lists.specs.Level.{Level, HasHeadForm, HeadFormRefuted}
use Rattle.goal_lists.specs.Levels.{level}
use Rattle.goal_lists.specs.Settings.{Setting}
use Rattle.goal_lists.proofs.ConsistentLemmas.{each_level_is_consistent}
use Rattle.goal_lists.proofs.EqualLemmas.{one_head_form, no_head_form_refuted}
use Rattle.goal_lists.proofs.InternedLemmas.{same-grown, all_same-grown}
use Rattle.goal_eval.specs.AskedTraits.{GroupsHold, GroupsRefuted, SaysGroups, asked_via}
use Rattle.goal_lists.specs.Joined.{held}
use Rattle.goal_eval.specs.Outcomes.{Says, SaysThrough, SaysWhich}
use Rattle.goal_eval.specs.declared.eval.outcomes.Found.{Found}
use Rattle.goal_eval.specs.declared.eval.outcomes.Found.TheVariants as found
use Rattle.goal_lists.specs.declared.outcomes.Outcome.{Outcome}
use Rattle.goal_lists.specs.declared.outcomes.Outcome.TheVariants as outcome
use Rattle.goal_eval.specs.declared.eval.outcomes.Stop.{Stop}
use Rattle.goal_lists.specs.declared.outcomes.TraitOutcome.{TraitOutcome}
use Rattle.goal_lists.specs.declared.outcomes.TraitOutcome.TheVariants as trait_outcome
use Rattle.goal_eval.proofs.ConstOutcomeLemmas.{const-refuted, const-open}
use Rattle.goal_eval.proofs.OutcomeLists.{says-same}

-- what an outcome says of a host effect goal at a depth
abbrev pub SaysHost : Setting → ℕ → BoundConstness → TraitId → List Tree → Outcome → Type 0
SaysHost S d c i ts o = Says ((level S d).const_holds c i ts) ((level S d).const_refuted c i ts) o

-- what the plain goal comes to at a depth
abbrev pub SaysPlain : Setting → ℕ → TraitId → List Tree → TraitOutcome → Type 0
SaysPlain S d i ts t = SaysThrough (λ v. (level S d).through v i ts) ((level S d).trait_refuted i ts) t

-- a plain goal that doesn't hold decides the goal
pub plain-decides : (S : Setting) (d : ℕ) (c : BoundConstness) (i : TraitId) (T : List Tree) (self : TermId) (rest ids : List TermId) (t : TraitOutcome) → d ≢ 0 → ids ≡ self ∷ rest →
    ((v : TraitGoalProvenVia) → t ≡ trait_outcome.Holds v → ⊥) → SaysPlain S (d - 1) i (erased_all T ids) t → SaysHost S d c i (erased_all T ids) (held t)
plain-decides S d c i T self rest ids (trait_outcome.Holds v) e same n h = absurd (n v refl)
plain-decides S d c i T self rest ids trait_outcome.Refuted e same n h = const-refuted S d c i T self rest ids trait_outcome.Refuted e same refl h
plain-decides S d c i T self rest ids trait_outcome.Undecided e same n h = const-open S d c i T self rest ids trait_outcome.Undecided e same refl h

-- a goal at a depth, by the level below
host-above : (S : Setting) (d : ℕ) (c : BoundConstness) (i : TraitId) (ts : List Tree) (o : Outcome) → d ≢ 0 →
    Says (ConstHolds S (level S (d - 1)) c i ts) (ConstRefuted S (level S (d - 1)) c i ts) o → SaysHost S d c i ts o
unfolding level
host-above S zero c i ts o e h = absurd (e refl)
host-above S (suc d) c i ts o e h =
    let below : suc d - 1 ≡ d = omega arith in
    subst (λ n. Says (ConstHolds S (level S n) c i ts) (ConstRefuted S (level S n) c i ts) o) below h

-- a self type of which no head form is found
unfound : (L : Level) → IsConsistent L → (self : Tree) (T : List Tree) (f : Found) → ((id : TermId) → f ≡ found.Is id → ⊥) →
    SaysWhich (HasHeadForm L self) (HeadFormRefuted L self) T f → (s : Tree) → HasHeadForm L self s → ⊥
unfound L l self T (found.Is id) n h s k = n id refl
unfound L l self T found.Refuted n h s k = no_head_form_refuted L l.no_term_refuted self s k h
unfound L l self T found.Undecided n h s k = h.0 s k

unformed : (L : Level) → IsConsistent L → (S : Setting) (c : BoundConstness) (i : TraitId) (v : TraitGoalProvenVia) (self : Tree) (args : List Tree) → L.through v i (self ∷ args) →
    ((s : Tree) → HasHeadForm L self s → ⊥) → Says (ConstHolds S L c i (self ∷ args)) (ConstRefuted S L c i (self ∷ args)) outcome.Undecided
unfolding ConstHolds ConstRefuted
unformed L l S c i v self args h n = (λ x. n x.1 x.3, λ x. ⊎_elim (λ y. l.no_trait_refuted v i (self ∷ args) h y) (λ y. n y.1 y.3) x)

-- one with a head form, by the groups for that
formed : (L : Level) → IsConsistent L → (S : Setting) (c : BoundConstness) (i : TraitId) (v : TraitGoalProvenVia) (self s : Tree) (args : List Tree) → L.through v i (self ∷ args) →
    HasHeadForm L self s → (o : Outcome) → Says (GroupsHold S L (Some c) i (s ∷ args) s v) (GroupsRefuted S L (Some c) i (s ∷ args) s v) o →
    Says (ConstHolds S L c i (self ∷ args)) (ConstRefuted S L c i (self ∷ args)) o
unfolding ConstHolds ConstRefuted
formed L l S c i v self s args h f o g =
    says-same (GroupsHold S L (Some c) i (s ∷ args) s v) _ (GroupsRefuted S L (Some c) i (s ∷ args) s v) _
    (λ x. (v, s, h, f, x))
    (λ x.
    subst (λ t. GroupsHold S L (Some c) i (t ∷ args) t v) (one_head_form L l.one_term self x.1 s x.3 f)
    (subst (λ w. GroupsHold S L (Some c) i (x.1 ∷ args) x.1 w) (l.one_class x.0 v i (self ∷ args) x.2 h) x.4))
    (λ x. inr (v, s, h, f, x.0, x.1))
    (λ x. ⊎_elim (λ y. absurd (l.no_trait_refuted v i (self ∷ args) h y))
    (λ y.
    subst (λ t. GroupsRefuted S L (Some c) i (t ∷ args) t v) (one_head_form L l.one_term self y.1 s y.3 f)
    (subst (λ w. GroupsRefuted S L (Some c) i (y.1 ∷ args) y.1 w) (l.one_class y.0 v i (self ∷ args) y.2 h) (y.4, y.5))) x)
    o g

-- a goal whose plain goal holds through a class
module _ (S : Setting) (d : ℕ) (c : BoundConstness) (i : TraitId) (v : TraitGoalProvenVia) (T U : List Tree) (self : TermId) (rest ids : List TermId) (t : TraitOutcome)
    (keeps : Keeps T U) (within : AreIn T ids) (e : d ≢ 0) (same : ids ≡ self ∷ rest) (is : t ≡ trait_outcome.Holds v) (says : SaysPlain S (d - 1) i (erased_all T ids) t) where
  all_in : AreIn T (self ∷ rest)
  all_in = subst (AreIn T) same within

  first : erased_at U self ≡ erased_at T self
  first = same-grown T U keeps self (All-head (IsIn T) self rest all_in)

  through : (level S (d - 1)).through v i (erased_at T self ∷ erased_all T rest)
  through = subst (λ xs. (level S (d - 1)).through v i (erased_all T xs)) same (subst (SaysPlain S (d - 1) i (erased_all T ids)) is says)

  -- no head form is found of its self type
  pub host-unformed : (V : List Tree) (f : Found) → ((id : TermId) → f ≡ found.Is id → ⊥) →
      SaysWhich (HasHeadForm (level S (d - 1)) (erased_at U self)) (HeadFormRefuted (level S (d - 1)) (erased_at U self)) V f → SaysHost S d c i (erased_all T ids) outcome.Undecided
  host-unformed V f n h =
      let L : Level = level S (d - 1) in
      let none_found : (s : Tree) → HasHeadForm L (erased_at T self) s → ⊥ =
      subst (λ u. (s : Tree) → HasHeadForm L u s → ⊥) first (unfound L (each_level_is_consistent S (d - 1)) (erased_at U self) V f n h) in
      subst (λ xs. SaysHost S d c i (erased_all T xs) outcome.Undecided) (sym same)
      (host-above S d c i (erased_all T (self ∷ rest)) outcome.Undecided e
      (unformed L (each_level_is_consistent S (d - 1)) S c i v (erased_at T self) (erased_all T rest) through none_found))

  -- one is, and the groups for it decide
  pub host-formed : (V : List Tree) (form : TermId) (args : Bor (List TermId)) (f : Found) (res : Result Outcome Stop) → Keeps U V → f ≡ found.Is form → args.now ≡ form ∷ rest →
      SaysWhich (HasHeadForm (level S (d - 1)) (erased_at U self)) (HeadFormRefuted (level S (d - 1)) (erased_at U self)) V f →
      IfOk res (SaysGroups S (level S (d - 1)) V (asked_via (record { constness = Some c; trait_id = i; self_ty = form; args = args }) v)) → IfOk res (SaysHost S d c i (erased_all T ids))
  host-formed V form args f res k j g h groups =
      let L : Level = level S (d - 1) in
      let s : Tree = erased_at V form in
      let has : HasHeadForm L (erased_at T self) s =
      subst (λ u. HasHeadForm L u s) first (subst (SaysWhich (HasHeadForm L (erased_at U self)) (HeadFormRefuted L (erased_at U self)) V) j h) in
      let grown : Keeps T V = keeps-chain T U V keeps k in
      let terms : erased_all V args.now ≡ s ∷ erased_all T rest =
      ap (erased_all V) g ∙ ap (λ ts. s ∷ ts) (all_same-grown T V grown rest (All-tail (IsIn T) self rest all_in)) in
      IfOk-weaker res (Says (GroupsHold S L (Some c) i (erased_all V args.now) s v) (GroupsRefuted S L (Some c) i (erased_all V args.now) s v)) (SaysHost S d c i (erased_all T ids))
      (λ o x.
      subst (λ xs. SaysHost S d c i (erased_all T xs) o) (sym same)
      (host-above S d c i (erased_all T (self ∷ rest)) o e
      (formed L (each_level_is_consistent S (d - 1)) S c i v (erased_at T self) s (erased_all T rest) through has o
      (subst (λ ts. Says (GroupsHold S L (Some c) i ts s v) (GroupsRefuted S L (Some c) i ts s v) o) terms x)))) groups

-- a goal whose plain goal holds through a class at a height, one above
module _ (S : Setting) (n : ℕ) (c : BoundConstness) (i : TraitId) (v : TraitGoalProvenVia) (T : List Tree) (self : TermId) (rest ids : List TermId) (within : AreIn T ids)
    (same : ids ≡ self ∷ rest) (through : (level S n).through v i (erased_all T ids)) where
  below : suc n - 1 ≡ n
  below = omega arith

  -- no head form is found of its self type
  pub through-unformed : (V : List Tree) (f : Found) → ((id : TermId) → f ≡ found.Is id → ⊥) →
      SaysWhich (HasHeadForm (level S n) (erased_at T self)) (HeadFormRefuted (level S n) (erased_at T self)) V f → SaysHost S (suc n) c i (erased_all T ids) outcome.Undecided
  through-unformed V f none h =
      host-unformed S (suc n) c i v T T self rest ids (trait_outcome.Holds v) (keeps-refl T) within (λ e. absurd (cc)) same refl
      (subst (λ k. (level S k).through v i (erased_all T ids)) (sym below) through) V f none
      (subst (λ k. SaysWhich (HasHeadForm (level S k) (erased_at T self)) (HeadFormRefuted (level S k) (erased_at T self)) V f) (sym below) h)

  -- one is, and the groups for it decide
  pub through-formed : (V : List Tree) (form : TermId) (args : Bor (List TermId)) (f : Found) (res : Result Outcome Stop) → Keeps T V → f ≡ found.Is form → args.now ≡ form ∷ rest →
      SaysWhich (HasHeadForm (level S n) (erased_at T self)) (HeadFormRefuted (level S n) (erased_at T self)) V f →
      IfOk res (SaysGroups S (level S n) V (asked_via (record { constness = Some c; trait_id = i; self_ty = form; args = args }) v)) → IfOk res (SaysHost S (suc n) c i (erased_all T ids))
  through-formed V form args f res k j g h groups =
      host-formed S (suc n) c i v T T self rest ids (trait_outcome.Holds v) (keeps-refl T) within (λ e. absurd (cc)) same refl
      (subst (λ m. (level S m).through v i (erased_all T ids)) (sym below) through) V form args f res k j g
      (subst (λ m. SaysWhich (HasHeadForm (level S m) (erased_at T self)) (HeadFormRefuted (level S m) (erased_at T self)) V f) (sym below) h)
      (subst (λ m. IfOk res (SaysGroups S (level S m) V (asked_via (record { constness = Some c; trait_id = i; self_ty = form; args = args }) v))) (sym below) groups)
