-- What one level proves of terms another proves, if all goals of the one are of the other.
use Rattle.std.proofs.Common.{inl, inr, List}
use Rattle.goal_terms.specs.Tree.{Tree, Trees, node, alias, variable, none, more, list_of, parts_of}
use Rattle.goal_lists.specs.Equality.{SameForm, OtherForm, EqualByForm, UnequalByForm, Equal, RowEqual, Unequal, RowUnequal}
use Rattle.goal_lists.specs.Laws.{IsWithin}
use Rattle.goal_lists.specs.Level.{Level, HasHeadForm, HeadFormRefuted}
use Rattle.goal_lists.specs.Words.{Pairs, SomePair}
use Rattle.goal_lists.proofs.WithinWords.{pairs-map, some_pair-map, sum-map}

-- a head form stays one
pub within-has_head_form : {L M : Level} → IsWithin L M → (t f : Tree) → HasHeadForm L t f → HasHeadForm M t f
unfolding HasHeadForm
within-has_head_form w (node h ts) f p = p
within-has_head_form w (alias k ts) f p = w.gives k (list_of ts) f p
within-has_head_form w (variable v) f p = p

-- a refuted head form stays refuted
pub within-head_form_refuted : {L M : Level} → IsWithin L M → (t : Tree) → HeadFormRefuted L t → HeadFormRefuted M t
unfolding HeadFormRefuted
within-head_form_refuted w (node h ts) p = p
within-head_form_refuted w (alias k ts) p = w.gives_refuted k (list_of ts) p
within-head_form_refuted w (variable v) p = p

-- equal and unequal rows of terms, by the level
pub within-pairs : {L M : Level} → IsWithin L M → (ts us : List Tree) → Pairs L.equal ts us → Pairs M.equal ts us
within-pairs w ts us h = pairs-map w.equal ts us h

pub within-some_pair : {L M : Level} → IsWithin L M → (ts us : List Tree) → SomePair L.unequal ts us → SomePair M.unequal ts us
within-some_pair w ts us h = some_pair-map w.unequal ts us h

-- the same and other head forms
within-same_form : {L M : Level} → IsWithin L M → (f g : Tree) → SameForm L f g → SameForm M f g
unfolding SameForm
within-same_form w f g (inl e) = inl e
within-same_form w f g (inr p) = inr (p.0, within-pairs w (parts_of f) (parts_of g) p.1)

within-other_form : {L M : Level} → IsWithin L M → (f g : Tree) → OtherForm L f g → OtherForm M f g
unfolding OtherForm
within-other_form w f g p = (p.0, sum-map (λ n. n) (within-some_pair w (parts_of f) (parts_of g)) p.1)

-- equal and unequal by head forms
within-equal_by_form : {L M : Level} → IsWithin L M → (t u : Tree) → EqualByForm L t u → EqualByForm M t u
unfolding EqualByForm
within-equal_by_form w t u p =
    (p.0, p.1, within-has_head_form w t p.0 p.2, within-has_head_form w u p.1 p.3, within-same_form w p.0 p.1 p.4)

within-unequal_by_form : {L M : Level} → IsWithin L M → (t u : Tree) → UnequalByForm L t u → UnequalByForm M t u
unfolding UnequalByForm
within-unequal_by_form w t u (inl p) = inl (within-head_form_refuted w t p)
within-unequal_by_form w t u (inr (inl p)) = inr (inl (within-head_form_refuted w u p))
within-unequal_by_form w t u (inr (inr p)) =
    inr (inr (p.0, p.1, within-has_head_form w t p.0 p.2, within-has_head_form w u p.1 p.3, within-other_form w p.0 p.1 p.4))

-- equal terms stay equal
mutual
  unfolding Equal

  pub within-equal : {L M : Level} → IsWithin L M → (t u : Tree) → Equal L t u → Equal M t u
  within-equal w (node h ts) (node k us) p = (p.0, within-row_equal w ts us p.1)
  within-equal w (node h ts) (alias k us) p = within-equal_by_form w (node h ts) (alias k us) p
  within-equal w (node h ts) (variable v) p = p
  within-equal w (alias h ts) (node k us) p = sum-map (λ e. e) (within-equal_by_form w (alias h ts) (node k us)) p
  within-equal w (alias h ts) (alias k us) p = sum-map (λ e. e) (within-equal_by_form w (alias h ts) (alias k us)) p
  within-equal w (alias h ts) (variable v) p = sum-map (λ e. e) (within-equal_by_form w (alias h ts) (variable v)) p
  within-equal w (variable v) (node k us) p = p
  within-equal w (variable v) (alias k us) p = within-equal_by_form w (variable v) (alias k us) p
  within-equal w (variable v) (variable x) p = p

  pub within-row_equal : {L M : Level} → IsWithin L M → (ts us : Trees) → RowEqual L ts us → RowEqual M ts us
  within-row_equal w none none p = p
  within-row_equal w none (more u us) p = p
  within-row_equal w (more t ts) none p = p
  within-row_equal w (more t ts) (more u us) p = (within-equal w t u p.0, within-row_equal w ts us p.1)

-- unequal terms stay unequal
mutual
  unfolding Unequal

  pub within-unequal : {L M : Level} → IsWithin L M → (t u : Tree) → Unequal L t u → Unequal M t u
  within-unequal w (node h ts) (node k us) (inl p) = inl p
  within-unequal w (node h ts) (node k us) (inr p) = inr (within-row_unequal w ts us p)
  within-unequal w (node h ts) (alias k us) p = within-unequal_by_form w (node h ts) (alias k us) p
  within-unequal w (node h ts) (variable v) p = p
  within-unequal w (alias h ts) (node k us) p = (p.0, within-unequal_by_form w (alias h ts) (node k us) p.1)
  within-unequal w (alias h ts) (alias k us) p = (p.0, within-unequal_by_form w (alias h ts) (alias k us) p.1)
  within-unequal w (alias h ts) (variable v) p = (p.0, within-unequal_by_form w (alias h ts) (variable v) p.1)
  within-unequal w (variable v) (node k us) p = p
  within-unequal w (variable v) (alias k us) p = within-unequal_by_form w (variable v) (alias k us) p
  within-unequal w (variable v) (variable x) p = p

  pub within-row_unequal : {L M : Level} → IsWithin L M → (ts us : Trees) → RowUnequal L ts us → RowUnequal M ts us
  within-row_unequal w none none p = p
  within-row_unequal w none (more u us) p = p
  within-row_unequal w (more t ts) none p = p
  within-row_unequal w (more t ts) (more u us) (inl p) = inl (within-unequal w t u p)
  within-row_unequal w (more t ts) (more u us) (inr p) = inr (within-row_unequal w ts us p)
