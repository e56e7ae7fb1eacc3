-- Equal terms are not unequal. A term is equal to itself, and terms of one constructor with equal parts are equal.
use Rattle.std.proofs.Common.{◌≡◌, List, [], ◌∷◌, refl, sym, ◌∙◌, subst, inl, inr}
use Rattle.goal_terms.specs.Tree.{Tree, Trees, node, alias, variable, none, more, list_of, parts_of}
use Rattle.goal_terms.specs.declared.heads.Head.{Head}
use Rattle.goal_terms.specs.declared.terms.AliasTermKind.{AliasTermKind}
use Rattle.goal_lists.specs.Equality.{SameForm, OtherForm, EqualByForm, UnequalByForm, Equal, RowEqual, Unequal, RowUnequal}
use Rattle.goal_lists.specs.Level.{Level, HasHeadForm, HeadFormRefuted}
use Rattle.goal_lists.specs.Words.{Pairs, SomePair}

-- each alias has one term at a level
abbrev pub HasOneTerm : Level → Type 0
HasOneTerm L = (k : AliasTermKind) (ts : List Tree) (t u : Tree) → L.gives k ts t → L.gives k ts u → t ≡ u

-- an alias with a term is not refuted at a level
abbrev pub HasNoTermRefuted : Level → Type 0
HasNoTermRefuted L = (k : AliasTermKind) (ts : List Tree) (t : Tree) → L.gives k ts t → L.gives_refuted k ts → ⊥

-- equal terms of a level are not unequal
abbrev pub HasNoEqualUnequal : Level → Type 0
HasNoEqualUnequal L = (t u : Tree) → L.equal t u → L.unequal t u → ⊥

-- a term has one head form
pub one_head_form : (L : Level) → HasOneTerm L → (t f g : Tree) → HasHeadForm L t f → HasHeadForm L t g → f ≡ g
unfolding HasHeadForm
one_head_form L one (node h ts) f g x y = x ∙ sym y
one_head_form L one (alias k ts) f g x y = one k (list_of ts) f g x y
one_head_form L one (variable v) f g x y = x ∙ sym y

-- a head form is not refuted
pub no_head_form_refuted : (L : Level) → HasNoTermRefuted L → (t f : Tree) → HasHeadForm L t f → HeadFormRefuted L t → ⊥
unfolding HasHeadForm HeadFormRefuted
no_head_form_refuted L no_refuted (node h ts) f x y = y
no_head_form_refuted L no_refuted (alias k ts) f x y = no_refuted k (list_of ts) f x y
no_head_form_refuted L no_refuted (variable v) f x y = y

-- of lists that are related in pairs, no pair is related otherwise
pub no_pair_apart : {A B : Type 0} (R S : A → B → Type 0) → ((x : A) (y : B) → R x y → S x y → ⊥) →
    (xs : List A) (ys : List B) → Pairs R xs ys → SomePair S xs ys → ⊥
unfolding Pairs SomePair
no_pair_apart R S apart [] [] p q = q
no_pair_apart R S apart [] (y ∷ ys) p q = p
no_pair_apart R S apart (x ∷ xs) [] p q = p
no_pair_apart R S apart (x ∷ xs) (y ∷ ys) p q = elim q [ inl s ↦ apart x y p.0 s | inr s ↦ no_pair_apart R S apart xs ys p.1 s ]

-- two forms are not both the same and others
pub no_same_other_form : (L : Level) → HasNoEqualUnequal L → (f g : Tree) → SameForm L f g → OtherForm L f g → ⊥
unfolding SameForm OtherForm
no_same_other_form L apart f g (inl e) y = y.0 e
no_same_other_form L apart f g (inr x) y =
    elim y.1 [ inl n ↦ n x.0 | inr s ↦ no_pair_apart L.equal L.unequal apart (parts_of f) (parts_of g) x.1 s ]

-- two terms with the same forms don't differ by their forms
no_equal_unequal_by_form : (L : Level) → HasOneTerm L → HasNoTermRefuted L → HasNoEqualUnequal L →
    (t u : Tree) → EqualByForm L t u → UnequalByForm L t u → ⊥
unfolding EqualByForm UnequalByForm
no_equal_unequal_by_form L one no_refuted apart t u x (inl y) = no_head_form_refuted L no_refuted t x.0 x.2 y
no_equal_unequal_by_form L one no_refuted apart t u x (inr (inl y)) = no_head_form_refuted L no_refuted u x.1 x.3 y
no_equal_unequal_by_form L one no_refuted apart t u x (inr (inr y)) =
    let left : y.0 ≡ x.0 = one_head_form L one t y.0 x.0 y.2 x.2 in
    let right : y.1 ≡ x.1 = one_head_form L one u y.1 x.1 y.3 x.3 in
    no_same_other_form L apart x.0 x.1 x.4 (subst (λ g. OtherForm L x.0 g) right (subst (λ f. OtherForm L f y.1) left y.4))

mutual
  unfolding Equal Unequal

  -- equal terms are not unequal
  pub no_equal_unequal_above : (L : Level) → HasOneTerm L → HasNoTermRefuted L → HasNoEqualUnequal L →
      (t u : Tree) → Equal L t u → Unequal L t u → ⊥
  no_equal_unequal_above L one no_refuted apart (node h ts) (node k us) x y =
      elim y [ inl n ↦ n x.0 | inr r ↦ no_row_equal_unequal L one no_refuted apart ts us x.1 r ]
  no_equal_unequal_above L one no_refuted apart (node h ts) (alias k us) x y =
      no_equal_unequal_by_form L one no_refuted apart (node h ts) (alias k us) x y
  no_equal_unequal_above L one no_refuted apart (node h ts) (variable w) x y = x
  no_equal_unequal_above L one no_refuted apart (alias h ts) u x y =
      elim x [ inl e ↦ y.0 e | inr f ↦ no_equal_unequal_by_form L one no_refuted apart (alias h ts) u f y.1 ]
  no_equal_unequal_above L one no_refuted apart (variable v) (node k us) x y = x
  no_equal_unequal_above L one no_refuted apart (variable v) (alias k us) x y =
      no_equal_unequal_by_form L one no_refuted apart (variable v) (alias k us) x y
  no_equal_unequal_above L one no_refuted apart (variable v) (variable w) x y = y

  -- nor are rows of equal terms
  no_row_equal_unequal : (L : Level) → HasOneTerm L → HasNoTermRefuted L → HasNoEqualUnequal L →
      (ts us : Trees) → RowEqual L ts us → RowUnequal L ts us → ⊥
  no_row_equal_unequal L one no_refuted apart none none x y = y
  no_row_equal_unequal L one no_refuted apart none (more u us) x y = x
  no_row_equal_unequal L one no_refuted apart (more t ts) none x y = x
  no_row_equal_unequal L one no_refuted apart (more t ts) (more u us) x y =
      elim y [ inl d ↦ no_equal_unequal_above L one no_refuted apart t u x.0 d | inr r ↦ no_row_equal_unequal L one no_refuted apart ts us x.1 r ]

mutual
  unfolding Equal

  -- a term is equal to itself
  pub equal_itself : (L : Level) (t : Tree) → Equal L t t
  equal_itself L (node h ts) = (refl, row_equal_itself L ts)
  equal_itself L (alias k ts) = inl refl
  equal_itself L (variable v) = refl

  -- and so is a row
  row_equal_itself : (L : Level) (ts : Trees) → RowEqual L ts ts
  row_equal_itself L none = tt
  row_equal_itself L (more t ts) = (equal_itself L t, row_equal_itself L ts)

-- rows of equal terms are equal
row_of_equal : (L : Level) (ts us : Trees) → Pairs (Equal L) (list_of ts) (list_of us) → RowEqual L ts us
unfolding Equal Pairs
row_of_equal L none none x = tt
row_of_equal L none (more u us) x = x
row_of_equal L (more t ts) none x = x
row_of_equal L (more t ts) (more u us) x = (x.0, row_of_equal L ts us x.1)

-- terms of one constructor with equal parts are equal
pub equal_of_parts : (L : Level) (h : Head) (ts us : Trees) →
    Pairs (Equal L) (parts_of (node h ts)) (parts_of (node h us)) → Equal L (node h ts) (node h us)
unfolding Equal
equal_of_parts L h ts us x = (refl, row_of_equal L ts us x)
