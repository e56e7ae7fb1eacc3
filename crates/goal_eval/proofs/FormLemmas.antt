-- Terms that are compared by their head forms.
use Rattle.std.proofs.Common.{◌≡◌, ◌≢◌, ◌↔◌, ◌<◌, ◌≤◌, ◌+◌, ◌⊎◌, ℕ, zero, suc, List, [], ◌∷◌, length, map, drop, get_or, sym, ap, subst, inl, inr, arith}
use Rattle.std.specs.Prelude.{Result, Ok, Err, IfOk}
use Rattle.std.proofs.lemmas.List.{drop_all, drop_more}
use Rattle.goal_interner.specs.TableMeaning.{tree_at, Keeps}
use Rattle.goal_terms.specs.Tree.{Tree, node, alias, variable, node_of, parts_of}
use Rattle.goal_interner.specs.declared.term_nodes.TermId.{TermId}
use Rattle.goal_lists.specs.Equality.{Equal, Unequal, SameForm, OtherForm, EqualByForm, UnequalByForm}
use Rattle.goal_lists.specs.Interned.{IsIn, erased_at, erased_all}
use Rattle.goal_lists.specs.Level.{Level, nothing, HasHeadForm, HeadFormRefuted}
use Rattle.goal_lists.specs.Levels.{level}
use Rattle.goal_lists.specs.Settings.{Setting}
use Rattle.goal_lists.specs.Words.{Each, Exists, Pairs, SomePair}
use Rattle.goal_lists.proofs.ConsistentLemmas.{each_level_is_consistent}
use Rattle.goal_lists.proofs.EqualLemmas.{one_head_form, no_head_form_refuted}
use Rattle.goal_lists.proofs.InternedLemmas.{in-grown, same-grown}
use Rattle.goal_eval.specs.Outcomes.{Says, SaysWhich, FoundIn}
use Rattle.goal_lists.specs.Joined.{both}
use Rattle.goal_eval.specs.Pending.{Stands, Fails, forms_of, AllEqual, SomeUnequal, Relates, NeedForms, IsOpen, Adds}
use Rattle.goal_eval.specs.declared.eval.outcomes.Found.{Found}
use Rattle.goal_eval.specs.declared.eval.outcomes.Found.TheVariants as found
use Rattle.goal_lists.specs.declared.outcomes.Outcome.{Outcome}
use Rattle.goal_lists.specs.declared.outcomes.Outcome.TheVariants.{Holds, Refuted, Undecided}
use Rattle.goal_eval.specs.declared.relate.pairs.Forms.TheVariants as form
use Rattle.goal_eval.specs.declared.relate.pairs.Pending.{Pending}
use Rattle.goal_eval.specs.declared.relate.pairs.TermPair.{TermPair}
use Rattle.goal_eval.proofs.PendingLemmas.{all-met, some-met, parts-at}
use Rattle.goal_eval.proofs.TopLemmas.{compares}

-- what is left of a question, and what is left of it after some more steps, come to the same
abbrev pub Narrows : Level → List Tree → Outcome → List TermPair → Outcome → List TermPair → Type 0
Narrows L T o ps q qs = (AllEqual L T o ps ↔ AllEqual L T q qs) × (SomeUnequal L T o ps ↔ SomeUnequal L T q qs)

-- the same said of other claims
pub says-as : (P Q R V : Type 0) → (P ↔ Q) → (R ↔ V) → (o : Outcome) → Says P R o → Says Q V o
says-as P Q R V p r Holds s = p.0 s
says-as P Q R V p r Refuted s = r.0 s
says-as P Q R V p r Undecided s = (λ q. s.0 (p.1 q), λ v. s.1 (r.1 v))

-- of an open pair the level below decides
alias-equal : (L : Level) (t u : Tree) → NeedForms t u → Equal L t u ↔ EqualByForm L t u
unfolding Equal
alias-equal L (node h ts) (node k us) needs = absurd (cc)
alias-equal L (node h ts) (alias k us) needs = (λ x. x, λ x. x)
alias-equal L (node h ts) (variable w) needs = absurd (cc)
alias-equal L (alias h ts) u needs = (λ x. elim x [ inl e ↦ absurd (needs.1 e) | inr y ↦ y ], λ x. inr x)
alias-equal L (variable v) (node k us) needs = absurd (cc)
alias-equal L (variable v) (alias k us) needs = (λ x. x, λ x. x)
alias-equal L (variable v) (variable w) needs = absurd (cc)

alias-unequal : (L : Level) (t u : Tree) → NeedForms t u → Unequal L t u ↔ UnequalByForm L t u
unfolding Unequal
alias-unequal L (node h ts) (node k us) needs = absurd (cc)
alias-unequal L (node h ts) (alias k us) needs = (λ x. x, λ x. x)
alias-unequal L (node h ts) (variable w) needs = absurd (cc)
alias-unequal L (alias h ts) u needs = (λ x. x.1, λ x. (needs.1, x))
alias-unequal L (variable v) (node k us) needs = absurd (cc)
alias-unequal L (variable v) (alias k us) needs = (λ x. x, λ x. x)
alias-unequal L (variable v) (variable w) needs = absurd (cc)

-- no alias has a head form below the lowest level
refuted-never : (u : Tree) → HeadFormRefuted nothing u → ⊥
unfolding HeadFormRefuted
refuted-never (node k us) r = r
refuted-never (alias k us) r = r
refuted-never (variable v) r = r

no-form : (t u : Tree) → NeedForms t u → (EqualByForm nothing t u → ⊥) × (UnequalByForm nothing t u → ⊥)
unfolding EqualByForm UnequalByForm HasHeadForm HeadFormRefuted
no-form (node h ts) (node k us) needs = absurd (cc)
no-form (node h ts) (alias k us) needs = (λ x. x.3, λ x. elim x [ inl r ↦ r | inr y ↦ elim y [ inl r ↦ r | inr z ↦ z.3 ] ])
no-form (node h ts) (variable w) needs = absurd (cc)
no-form (alias h ts) u needs = (λ x. x.2, λ x. elim x [ inl r ↦ r | inr y ↦ elim y [ inl r ↦ refuted-never u r | inr z ↦ z.2 ] ])
no-form (variable v) (node k us) needs = absurd (cc)
no-form (variable v) (alias k us) needs = (λ x. x.3, λ x. elim x [ inl r ↦ r | inr y ↦ elim y [ inl r ↦ r | inr z ↦ z.3 ] ])
no-form (variable v) (variable w) needs = absurd (cc)

-- at the lowest level an open pair is undecided
pub pair-ground : (S : Setting) (d : ℕ) → d ≡ 0 → (t u : Tree) → NeedForms t u → ((level S d).equal t u → ⊥) × ((level S d).unequal t u → ⊥)
unfolding level
pair-ground S zero e t u needs =
    (λ x. (no-form t u needs).0 ((alias-equal nothing t u needs).0 x), λ x. (no-form t u needs).1 ((alias-unequal nothing t u needs).0 x))
pair-ground S (suc d) e t u needs = absurd (omega (arith, e))

-- at a higher level it is compared by the forms of the level below
pub form-equal : (S : Setting) (n : ℕ) (t u : Tree) → NeedForms t u → (level S (suc n)).equal t u ↔ EqualByForm (level S n) t u
unfolding level
form-equal S n t u needs = alias-equal (level S n) t u needs

pub form-unequal : (S : Setting) (n : ℕ) (t u : Tree) → NeedForms t u → (level S (suc n)).unequal t u ↔ UnequalByForm (level S n) t u
unfolding level
form-unequal S n t u needs = alias-unequal (level S n) t u needs

other-way : {P Q : Type 0} → P ↔ Q → Q ↔ P
other-way e = (e.1, e.0)

pub pair-raised : (S : Setting) (n d : ℕ) → d ≡ suc n → (t u : Tree) → NeedForms t u → (o : Outcome) →
    Says (EqualByForm (level S n) t u) (UnequalByForm (level S n) t u) o → Says ((level S d).equal t u) ((level S d).unequal t u) o
pair-raised S n d e t u needs o s =
    subst (λ i. Says ((level S i).equal t u) ((level S i).unequal t u) o) (sym e)
    (says-as _ _ _ _ (other-way (form-equal S n t u needs)) (other-way (form-unequal S n t u needs)) o s)

-- both forms are found
by-forms : (S : Setting) (n : ℕ) (t u f g : Tree) → HasHeadForm (level S n) t f → HasHeadForm (level S n) u g → (o : Outcome) →
    Says (SameForm (level S n) f g) (OtherForm (level S n) f g) o → Says (EqualByForm (level S n) t u) (UnequalByForm (level S n) t u) o
unfolding EqualByForm UnequalByForm
by-forms S n t u f g x y Holds s = (f, g, x, y, s)
by-forms S n t u f g x y Refuted s = inr (inr (f, g, x, y, s))
by-forms S n t u f g x y Undecided s =
    let L : Level = level S n in
    let one : (v p q : Tree) → HasHeadForm L v p → HasHeadForm L v q → p ≡ q = one_head_form L (each_level_is_consistent S n).one_term in
    let never : (v p : Tree) → HasHeadForm L v p → HeadFormRefuted L v → ⊥ = no_head_form_refuted L (each_level_is_consistent S n).no_term_refuted in (
      λ z. s.0 (subst (λ p. SameForm L p g) (one t z.0 f z.2 x) (subst (λ q. SameForm L z.0 q) (one u z.1 g z.3 y) z.4)),
      λ z. elim z [
        | inl r ↦ never t f x r
        | inr w ↦ elim w [
          | inl r ↦ never u g y r
          | inr v ↦ s.1 (subst (λ p. OtherForm L p g) (one t v.0 f v.2 x) (subst (λ q. OtherForm L v.0 q) (one u v.1 g v.3 y) v.4))
        ]
      ],
    )

-- one of them is not
left-undecided : (S : Setting) (n : ℕ) (t u : Tree) → ((f : Tree) → HasHeadForm (level S n) t f → ⊥) → (HeadFormRefuted (level S n) t → ⊥) → (HeadFormRefuted (level S n) u → ⊥) →
    (EqualByForm (level S n) t u → ⊥) × (UnequalByForm (level S n) t u → ⊥)
unfolding EqualByForm UnequalByForm
left-undecided S n t u unfound left right =
    (λ z. unfound z.0 z.2, λ z. elim z [ inl r ↦ left r | inr w ↦ elim w [ inl r ↦ right r | inr v ↦ unfound v.0 v.2 ] ])

right-undecided : (S : Setting) (n : ℕ) (t u : Tree) → ((f : Tree) → HasHeadForm (level S n) u f → ⊥) → (HeadFormRefuted (level S n) t → ⊥) → (HeadFormRefuted (level S n) u → ⊥) →
    (EqualByForm (level S n) t u → ⊥) × (UnequalByForm (level S n) t u → ⊥)
unfolding EqualByForm UnequalByForm
right-undecided S n t u unfound left right =
    (λ z. unfound z.1 z.3, λ z. elim z [ inl r ↦ left r | inr w ↦ elim w [ inl r ↦ right r | inr v ↦ unfound v.1 v.3 ] ])

left-refuted : (S : Setting) (n : ℕ) (t u : Tree) → HeadFormRefuted (level S n) t → UnequalByForm (level S n) t u
unfolding UnequalByForm
left-refuted S n t u r = inl r

right-refuted : (S : Setting) (n : ℕ) (t u : Tree) → HeadFormRefuted (level S n) u → UnequalByForm (level S n) t u
unfolding UnequalByForm
right-refuted S n t u r = inr (inl r)

-- what is found of a term at a level
abbrev pub FormSays : Setting → ℕ → Tree → List Tree → Found → Type 0
FormSays S n t T f = SaysWhich (HasHeadForm (level S n) t) (HeadFormRefuted (level S n) t) T f

-- where not both forms are found
lacking : (S : Setting) (n : ℕ) (t u : Tree) (T V : List Tree) (left right : Found) → FormSays S n t T left → FormSays S n u V right → (o : Outcome) → form.Lacking o ≡ forms_of left right →
    Says (EqualByForm (level S n) t u) (UnequalByForm (level S n) t u) o
lacking S n t u T V (found.Is f) (found.Is g) x y o e = absurd (cc)
lacking S n t u T V found.Refuted g x y o e =
    let p : Refuted ≡ o = cc in subst (Says (EqualByForm (level S n) t u) (UnequalByForm (level S n) t u)) p (left-refuted S n t u x)
lacking S n t u T V (found.Is f) found.Refuted x y o e =
    let p : Refuted ≡ o = cc in subst (Says (EqualByForm (level S n) t u) (UnequalByForm (level S n) t u)) p (right-refuted S n t u y)
lacking S n t u T V found.Undecided found.Refuted x y o e =
    let p : Refuted ≡ o = cc in subst (Says (EqualByForm (level S n) t u) (UnequalByForm (level S n) t u)) p (right-refuted S n t u y)
lacking S n t u T V (found.Is f) found.Undecided x y o e =
    let p : Undecided ≡ o = cc in
    let never : HeadFormRefuted (level S n) t → ⊥ = no_head_form_refuted (level S n) (each_level_is_consistent S n).no_term_refuted t (erased_at T f) x in
    subst (Says (EqualByForm (level S n) t u) (UnequalByForm (level S n) t u)) p (right-undecided S n t u y.0 never y.1)
lacking S n t u T V found.Undecided (found.Is g) x y o e =
    let p : Undecided ≡ o = cc in
    let never : HeadFormRefuted (level S n) u → ⊥ = no_head_form_refuted (level S n) (each_level_is_consistent S n).no_term_refuted u (erased_at V g) y in
    subst (Says (EqualByForm (level S n) t u) (UnequalByForm (level S n) t u)) p (left-undecided S n t u x.0 x.1 never)
lacking S n t u T V found.Undecided found.Undecided x y o e =
    let p : Undecided ≡ o = cc in
    subst (Says (EqualByForm (level S n) t u) (UnequalByForm (level S n) t u)) p (left-undecided S n t u x.0 x.1 y.1)

found-left : (left right : Found) (f g : TermId) → form.Found f g ≡ forms_of left right → left ≡ found.Is f
found-left (found.Is x) (found.Is y) f g e = cc
found-left (found.Is x) found.Refuted f g e = absurd (cc)
found-left (found.Is x) found.Undecided f g e = absurd (cc)
found-left found.Refuted right f g e = absurd (cc)
found-left found.Undecided (found.Is y) f g e = absurd (cc)
found-left found.Undecided found.Refuted f g e = absurd (cc)
found-left found.Undecided found.Undecided f g e = absurd (cc)

found-right : (left right : Found) (f g : TermId) → form.Found f g ≡ forms_of left right → right ≡ found.Is g
found-right (found.Is x) (found.Is y) f g e = cc
found-right (found.Is x) found.Refuted f g e = absurd (cc)
found-right (found.Is x) found.Undecided f g e = absurd (cc)
found-right found.Refuted right f g e = absurd (cc)
found-right found.Undecided (found.Is y) f g e = absurd (cc)
found-right found.Undecided found.Refuted f g e = absurd (cc)
found-right found.Undecided found.Undecided f g e = absurd (cc)

-- head forms that are found are in the table
pub found-in : (U V : List Tree) → Keeps U V → (left right : Found) → FoundIn U left → FoundIn V right → (f g : TermId) → form.Found f g ≡ forms_of left right →
    IsIn V f × IsIn V g
found-in U V keeps left right x y f g e =
    (in-grown U V keeps f (subst (FoundIn U) (found-left left right f g e) x), subst (FoundIn V) (found-right left right f g e) y)

-- an open pair, whose terms have these forms: the left one's is found first, while the table grows
module _ (S : Setting) (n d : ℕ) (e : d ≡ suc n) (T U V : List Tree) (first : Keeps T U) (second : Keeps U V) (p : TermPair) (unlike : IsOpen T p) (left right : Found)
    (x : FormSays S n (erased_at T p.left) U left) (y : FormSays S n (erased_at U p.right) V right) where
  right-says : FormSays S n (erased_at T p.right) V right
  right-says = subst (λ t. FormSays S n t V right) (same-grown T U first p.right unlike.1) y

  pub pair-lacking : (o : Outcome) → form.Lacking o ≡ forms_of left right → Says (Relates (level S d).equal T p) (Relates (level S d).unequal T p) o
  pair-lacking o lack =
      pair-raised S n d e (erased_at T p.left) (erased_at T p.right) unlike.2 o (lacking S n (erased_at T p.left) (erased_at T p.right) U V left right x right-says o lack)

  pair-found : FoundIn U left → (f g : TermId) → form.Found f g ≡ forms_of left right → (o : Outcome) →
      Says (SameForm (level S n) (erased_at V f) (erased_at V g)) (OtherForm (level S n) (erased_at V f) (erased_at V g)) o →
      Says (Relates (level S d).equal T p) (Relates (level S d).unequal T p) o
  pair-found within f g both_found o says =
      let l : left ≡ found.Is f = found-left left right f g both_found in
      let form_left : HasHeadForm (level S n) (erased_at T p.left) (erased_at U f) = subst (FormSays S n (erased_at T p.left) U) l x in
      let form_right : HasHeadForm (level S n) (erased_at T p.right) (erased_at V g) =
      subst (FormSays S n (erased_at T p.right) V) (found-right left right f g both_found) right-says in
      pair-raised S n d e (erased_at T p.left) (erased_at T p.right) unlike.2 o
      (by-forms S n (erased_at T p.left) (erased_at T p.right) (erased_at V f) (erased_at V g)
      (subst (HasHeadForm (level S n) (erased_at T p.left)) (sym (same-grown U V second f (subst (FoundIn U) l within))) form_left) form_right o says)

  pub pair-found_ok : {X : Type 0} (result : Result Outcome X) → FoundIn U left → (f g : TermId) → form.Found f g ≡ forms_of left right →
      IfOk result (Says (SameForm (level S n) (erased_at V f) (erased_at V g)) (OtherForm (level S n) (erased_at V f) (erased_at V g))) →
      IfOk result (Says (Relates (level S d).equal T p) (Relates (level S d).unequal T p))
  pair-found_ok (Ok o) within f g both_found says = pair-found within f g both_found o says
  pair-found_ok (Err z) within f g both_found says = tt

-- head forms
pub same-form : (L : Level) (f g : Tree) → f ≡ g → SameForm L f g
unfolding SameForm
same-form L f g e = inl e

pub other-node : (L : Level) (f g : Tree) → node_of f ≢ node_of g → OtherForm L f g
unfolding OtherForm
other-node L f g differ = (λ e. differ (ap node_of e), inl differ)

form-parts : (L : Level) (f g : Tree) → f ≢ g → node_of f ≡ node_of g → (o : Outcome) →
    Says (Pairs L.equal (parts_of f) (parts_of g)) (SomePair L.unequal (parts_of f) (parts_of g)) o → Says (SameForm L f g) (OtherForm L f g) o
unfolding SameForm OtherForm
form-parts L f g differ same o says =
    says-as _ _ _ _
    (λ x. inr (same, x), λ x. elim x [ inl e ↦ absurd (differ e) | inr y ↦ y.1 ])
    (λ x. (differ, inr x), λ x. elim x.1 [ inl m ↦ absurd (m same) | inr y ↦ y ]) o says

-- where nothing was left before, what is left says what the added question says
nothing-left : (L : Level) (T : List Tree) → AllEqual L T Holds []
unfolding Each
nothing-left L T = (tt, tt)

nothing-refuted : (L : Level) (T : List Tree) → SomeUnequal L T Holds [] → ⊥
unfolding Exists
nothing-refuted L T x = elim x [ inl y ↦ y | inr y ↦ y ]

left-over : (S : Setting) (n : ℕ) (T : List Tree) (start new : Pending) (P R : Level → Type 0) → start.outcome ≡ Holds → start.pairs.items ≡ [] → Adds T start new P R →
    (o : Outcome) → Says (AllEqual (level S n) T new.outcome new.pairs.items) (SomeUnequal (level S n) T new.outcome new.pairs.items) o →
    Says (P (level S n)) (R (level S n)) o
left-over S n T start new P R holds none adds o says =
    let L : Level = level S n in
    let start_left : AllEqual L T start.outcome start.pairs.items =
    subst (λ q. AllEqual L T q start.pairs.items) (sym holds) (subst (AllEqual L T Holds) (sym none) (nothing-left L T)) in
    let start_refuted : SomeUnequal L T start.outcome start.pairs.items → ⊥ =
    λ x. nothing-refuted L T (subst (SomeUnequal L T Holds) none (subst (λ q. SomeUnequal L T q start.pairs.items) holds x)) in
    says-as _ _ _ _
    (λ x. let y : AllEqual L T start.outcome start.pairs.items × P L = (adds S n).0.1 x in y.1, λ x. (adds S n).0.0 (start_left, x))
    (λ x. elim ((adds S n).1.1 x) [ inl y ↦ absurd (start_refuted y) | inr y ↦ y ], λ x. (adds S n).1.0 (inr x)) o says

pub left-over_ok : {X : Type 0} (result : Result Outcome X) (S : Setting) (n : ℕ) (T : List Tree) (start new : Pending) (P R : Level → Type 0) →
    start.outcome ≡ Holds → start.pairs.items ≡ [] → Adds T start new P R →
    IfOk result (Says (AllEqual (level S n) T new.outcome new.pairs.items) (SomeUnequal (level S n) T new.outcome new.pairs.items)) →
    IfOk result (Says (P (level S n)) (R (level S n)))
left-over_ok (Ok o) S n T start new P R holds none adds says = left-over S n T start new P R holds none adds o says
left-over_ok (Err x) S n T start new P R holds none adds says = tt

-- head forms of one node are compared by their parts
pub forms-compared : {X : Type 0} (result : Result Outcome X) (S : Setting) (n : ℕ) (T : List Tree) (start new : Pending) (f g : TermId) (fs gs : List TermId) →
    erased_at T f ≢ erased_at T g → node_of (erased_at T f) ≡ node_of (erased_at T g) →
    map (tree_at T) fs ≡ parts_of (tree_at T f) → map (tree_at T) gs ≡ parts_of (tree_at T g) → start.outcome ≡ Holds → start.pairs.items ≡ [] →
    Adds T start new (λ L. Pairs L.equal (erased_all T fs) (erased_all T gs)) (λ L. SomePair L.unequal (erased_all T fs) (erased_all T gs)) →
    IfOk result (Says (AllEqual (level S n) T new.outcome new.pairs.items) (SomeUnequal (level S n) T new.outcome new.pairs.items)) →
    IfOk result (Says (SameForm (level S n) (erased_at T f) (erased_at T g)) (OtherForm (level S n) (erased_at T f) (erased_at T g)))
forms-compared (Ok o) S n T start new f g fs gs differ same e h holds none adds says =
    let L : Level = level S n in
    let over : Says (Pairs L.equal (erased_all T fs) (erased_all T gs)) (SomePair L.unequal (erased_all T fs) (erased_all T gs)) o =
    left-over S n T start new (λ L. Pairs L.equal (erased_all T fs) (erased_all T gs)) (λ L. SomePair L.unequal (erased_all T fs) (erased_all T gs)) holds none adds o says in
    form-parts L (erased_at T f) (erased_at T g) differ same o
    (subst (λ xs. Says (Pairs L.equal xs (parts_of (erased_at T g))) (SomePair L.unequal xs (parts_of (erased_at T g))) o) (parts-at T f fs e)
    (subst (λ xs. Says (Pairs L.equal (erased_all T fs) xs) (SomePair L.unequal (erased_all T fs) xs) o) (parts-at T g gs h) over))
forms-compared (Err x) S n T start new f g fs gs differ same e h holds none adds says = tt

-- one more pair
pub open-grown : (T U : List Tree) → Keeps T U → (p : TermPair) → IsOpen T p → IsOpen U p
open-grown T U keeps p unlike = (
  in-grown T U keeps p.left unlike.0,
  in-grown T U keeps p.right unlike.1,
  subst (λ t. NeedForms t (erased_at U p.right)) (sym (same-grown T U keeps p.left unlike.0))
      (subst (NeedForms (erased_at T p.left)) (sym (same-grown T U keeps p.right unlike.1)) unlike.2),
)

pair-kept : (T U : List Tree) → Keeps T U → (p : TermPair) → IsOpen T p → (E V : Tree → Tree → Type 0) (r : Outcome) →
    Says (Relates E U p) (Relates V U p) r → Says (Relates E T p) (Relates V T p) r
pair-kept T U keeps p unlike E V r says =
    subst (λ t. Says (E t (erased_at T p.right)) (V t (erased_at T p.right)) r) (same-grown T U keeps p.left unlike.0)
    (subst (λ u. Says (E (erased_at U p.left) u) (V (erased_at U p.left) u) r) (same-grown T U keeps p.right unlike.1) says)

each-first : {A : Type 0} (P : A → Type 0) (F : Type 0) (x : A) (xs : List A) → (F × Each P (x ∷ xs)) ↔ ((F × Each P xs) × P x)
unfolding Each
each-first P F x xs = (λ y. ((y.0, y.1.1), y.1.0), λ y. (y.0.0, (y.1, y.0.1)))

exists-first : {A : Type 0} (P : A → Type 0) (F : Type 0) (x : A) (xs : List A) → (F ⊎ Exists P (x ∷ xs)) ↔ ((F ⊎ Exists P xs) ⊎ P x)
unfolding Exists
exists-first P F x xs = (
  λ y. elim y [ inl f ↦ inl (inl f) | inr z ↦ elim z [ inl p ↦ inr p | inr w ↦ inl (inr w) ] ],
  λ y. elim y [ inl z ↦ elim z [ inl f ↦ inl f | inr w ↦ inr (inr w) ] | inr p ↦ inr (inl p) ],
)

chain : {P Q R : Type 0} → P ↔ Q → Q ↔ R → P ↔ R
chain p q = (λ x. q.0 (p.0 x), λ x. p.1 (q.1 x))

pub narrows-more : (S : Setting) (n : ℕ) (T U : List Tree) → Keeps T U → (o : Outcome) (ps : List TermPair) (q : Outcome) (qs : List TermPair) (i : ℕ) (d : TermPair) → i < length qs →
    Narrows (level S n) T o ps q (drop i qs) → IsOpen T (get_or qs i d) → (r : Outcome) →
    Says (Relates (level S n).equal U (get_or qs i d)) (Relates (level S n).unequal U (get_or qs i d)) r →
    (z : Outcome) → z ≡ both q r → Narrows (level S n) T o ps z (drop (i + 1) qs)
narrows-more S n T U keeps o ps q qs i d l narrows unlike r says z e =
    let L : Level = level S n in
    let p : TermPair = get_or qs i d in
    let rest : List TermPair = drop (i + 1) qs in
    let here : Narrows L T o ps q (p ∷ rest) = subst (Narrows L T o ps q) (drop_more qs i d l) narrows in
    let known : Says (Relates L.equal T p) (Relates L.unequal T p) r = pair-kept T U keeps p unlike L.equal L.unequal r says in
    let apart : Relates L.equal T p → Relates L.unequal T p → ⊥ = (compares S n).apart (erased_at T p.left) (erased_at T p.right) in
    subst (λ y. Narrows L T o ps y rest) (sym e) (
      chain here.0 (chain (each-first (Relates L.equal T) (Stands q) p rest) (all-met _ _ _ apart q r known)),
      chain here.1 (chain (exists-first (Relates L.unequal T) (Fails q) p rest) (some-met _ _ _ apart q r known)),
    )

-- after the last pair
settled-end : (L : Level) (T : List Tree) (o : Outcome) (ps : List TermPair) (q : Outcome) → Narrows L T o ps q [] → Says (AllEqual L T o ps) (SomeUnequal L T o ps) q
unfolding Each Exists
settled-end L T o ps Holds narrows = narrows.0.1 (tt, tt)
settled-end L T o ps Refuted narrows = narrows.1.1 (inl tt)
settled-end L T o ps Undecided narrows = (λ x. (narrows.0.0 x).0, λ x. elim (narrows.1.0 x) [ inl y ↦ y | inr y ↦ y ])

pub narrows-end : (L : Level) (T : List Tree) (o : Outcome) (ps : List TermPair) (q : Outcome) (qs : List TermPair) (i : ℕ) → length qs ≤ i →
    Narrows L T o ps q (drop i qs) → Says (AllEqual L T o ps) (SomeUnequal L T o ps) q
narrows-end L T o ps q qs i l narrows = settled-end L T o ps q (subst (Narrows L T o ps q) (drop_all i qs l) narrows)

-- once something is refuted
pub narrows-refuted : (L : Level) (T : List Tree) (o : Outcome) (ps : List TermPair) (q : Outcome) (qs : List TermPair) → q ≡ Refuted → Narrows L T o ps q qs → SomeUnequal L T o ps
narrows-refuted L T o ps q qs e narrows = narrows.1.1 (inl (subst Fails (sym e) tt))
