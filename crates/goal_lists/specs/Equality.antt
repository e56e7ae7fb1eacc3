-- Equal and unequal terms, one height above a level. At an alias the level below decides.
use Rattle.std.specs.Prelude.{◌≡◌, ◌≢◌, ◌⊎◌}
use Rattle.goal_terms.specs.Tree.{Tree, Trees, node, alias, variable, none, more, node_of, parts_of}
use Rattle.goal_lists.specs.Level.{Level, HasHeadForm, HeadFormRefuted}
use Rattle.goal_lists.specs.Words.{Pairs, SomePair}

-- two head forms are identical, or have the same head and equal parts
unfoldable pub SameForm : Level → Tree → Tree → Type 0
SameForm L f g = (f ≡ g) ⊎ ((node_of f ≡ node_of g) × Pairs L.equal (parts_of f) (parts_of g))

-- two head forms are not identical, and differ in head or have an unequal pair of parts
unfoldable pub OtherForm : Level → Tree → Tree → Type 0
OtherForm L f g = (f ≢ g) × ((node_of f ≢ node_of g) ⊎ SomePair L.unequal (parts_of f) (parts_of g))

-- both terms have head forms, which are the same
unfoldable pub EqualByForm : Level → Tree → Tree → Type 0
EqualByForm L t u = (f : Tree) × (g : Tree) × HasHeadForm L t f × HasHeadForm L u g × SameForm L f g

-- one of the terms has no head form, or both have one, and these differ
unfoldable pub UnequalByForm : Level → Tree → Tree → Type 0
UnequalByForm L t u =
    HeadFormRefuted L t
    ⊎ HeadFormRefuted L u
    ⊎ ((f : Tree) × (g : Tree) × HasHeadForm L t f × HasHeadForm L u g × OtherForm L f g)

-- equal terms: of one constructor with equal parts; where one is an alias, identical or with the same head forms
unfoldable mutual
  pub Equal : Level → Tree → Tree → Type 0
  Equal L (node h ts) (node k us) = (h ≡ k) × RowEqual L ts us
  Equal L (node h ts) (alias k us) = EqualByForm L (node h ts) (alias k us)
  Equal L (node h ts) (variable w) = ⊥
  Equal L (alias h ts) u = (alias h ts ≡ u) ⊎ EqualByForm L (alias h ts) u
  Equal L (variable v) (node k us) = ⊥
  Equal L (variable v) (alias k us) = EqualByForm L (variable v) (alias k us)
  Equal L (variable v) (variable w) = v ≡ w

  pub RowEqual : Level → Trees → Trees → Type 0
  RowEqual L none none = Unit {0}
  RowEqual L none (more u us) = ⊥
  RowEqual L (more t ts) none = ⊥
  RowEqual L (more t ts) (more u us) = Equal L t u × RowEqual L ts us

-- unequal terms: of two constructors, or with an unequal pair of parts; where one is an alias, not identical and with other head forms
unfoldable mutual
  pub Unequal : Level → Tree → Tree → Type 0
  Unequal L (node h ts) (node k us) = (h ≢ k) ⊎ RowUnequal L ts us
  Unequal L (node h ts) (alias k us) = UnequalByForm L (node h ts) (alias k us)
  Unequal L (node h ts) (variable w) = ⊥
  Unequal L (alias h ts) u = (alias h ts ≢ u) × UnequalByForm L (alias h ts) u
  Unequal L (variable v) (node k us) = ⊥
  Unequal L (variable v) (alias k us) = UnequalByForm L (variable v) (alias k us)
  Unequal L (variable v) (variable w) = ⊥

  pub RowUnequal : Level → Trees → Trees → Type 0
  RowUnequal L none none = ⊥
  RowUnequal L none (more u us) = Unit {0}
  RowUnequal L (more t ts) none = Unit {0}
  RowUnequal L (more t ts) (more u us) = Unequal L t u ⊎ RowUnequal L ts us
