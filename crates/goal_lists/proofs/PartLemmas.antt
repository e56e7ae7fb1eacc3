-- A parameter has one part of a given term.
use Rattle.std.proofs.Common.{◌≡◌, ℕ, sym, ◌∙◌, subst}
use Rattle.goal_terms.specs.Tree.{Tree, Trees, node, alias, variable, none, more, list_of}
use Rattle.goal_terms.specs.declared.heads.Head.{Head}
use Rattle.goal_lists.specs.Headers.{is_number, parameter_of, has_place, StepInto, Part, RowPart}
use Rattle.goal_lists.specs.Level.{Level}
use Rattle.goal_lists.proofs.EqualLemmas.{HasOneTerm}
use Rattle.goal_lists.proofs.SubstitutionLemmas.{either_unique}

-- a parameter has one part at a level
abbrev pub HasOnePart : Level → Type 0
HasOnePart L = (n : ℕ) (h g p q : Tree) → L.part n h g p → L.part n h g q → p ≡ q

-- steps into a given part end at one part, if what follows them does
one_step_into : (L : Level) → HasOneTerm L → (h : Head) (here : Tree → Trees → Type 0) (below : Tree → Tree → Type 0) (g p q : Tree) →
    ((us : Trees) → here p us → here q us → p ≡ q) → ((f : Tree) → below p f → below q f → p ≡ q) →
    StepInto L h (here p) (below p) g → StepInto L h (here q) (below q) g → p ≡ q
unfolding StepInto
one_step_into L one h here below (node k us) p q one_here one_below x y = one_here us x.1 y.1
one_step_into L one h here below (alias k us) p q one_here one_below x y =
    let same : y.0 ≡ x.0 = one k (list_of us) y.0 x.0 y.1 x.1 in
    one_below x.0 x.3 (subst (λ f. below q f) same y.3)
one_step_into L one h here below (variable v) p q one_here one_below x y = elim x [ ]

mutual
  unfolding Part

  -- a parameter has one part of a given term
  pub one_part_above : (L : Level) → HasOneTerm L → HasOnePart L → (n : ℕ) (h g p q : Tree) → Part L n h g p → Part L n h g q → p ≡ q
  one_part_above L one one_below n (node h ts) g p q x y =
      either_unique (is_number n (parameter_of h))
      (λ r. r ≡ g) (λ r. StepInto L h (λ us. RowPart L n ts us r) (λ f. L.part n (node h ts) f r) g) p q
      (λ a b. a ∙ sym b)
      (λ a b. one_step_into L one h (λ r us. RowPart L n ts us r) (λ r f. L.part n (node h ts) f r) g p q
      (λ us. one_row_part L one one_below n ts us p q) (λ f. one_below n (node h ts) f p q) a b)
      x y
  one_part_above L one one_below n (alias k ts) g p q x y = elim x [ ]
  one_part_above L one one_below n (variable v) g p q x y = elim x [ ]

  -- and one part of a row of given terms
  one_row_part : (L : Level) → HasOneTerm L → HasOnePart L → (n : ℕ) (ts gs : Trees) (p q : Tree) → RowPart L n ts gs p → RowPart L n ts gs q → p ≡ q
  one_row_part L one one_below n none gs p q x y = elim x [ ]
  one_row_part L one one_below n (more t ts) none p q x y = elim x [ ]
  one_row_part L one one_below n (more t ts) (more g gs) p q x y =
      either_unique (has_place n t) (Part L n t g) (RowPart L n ts gs) p q
      (one_part_above L one one_below n t g p q) (one_row_part L one one_below n ts gs p q) x y
