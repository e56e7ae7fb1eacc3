-- All that trees of one height prove. Terms are taken without lifetimes.
use Rattle.std.specs.Prelude.{◌≡◌, ℕ, List}
use Rattle.goal_terms.specs.Tree.{Tree, node, alias, variable, list_of}
use Rattle.goal_terms.specs.declared.answers.TraitGoalProvenVia.{TraitGoalProvenVia}
use Rattle.goal_terms.specs.declared.ids.TraitId.{TraitId}
use Rattle.goal_terms.specs.declared.predicates.BoundConstness.{BoundConstness}
use Rattle.goal_terms.specs.declared.terms.AliasTermKind.{AliasTermKind}

-- what is proved at one height, of goals, of terms and of headers
pub record Level : Type 1 where
  -- an alias with its arguments has a term, or has none
  pub gives : AliasTermKind → List Tree → Tree → Type 0
  pub gives_refuted : AliasTermKind → List Tree → Type 0
  -- a trait goal holds through a class of candidates, or is refuted
  pub through : TraitGoalProvenVia → TraitId → List Tree → Type 0
  pub trait_refuted : TraitId → List Tree → Type 0
  -- a trait goal holds as a const trait, or is refuted as one
  pub const_holds : BoundConstness → TraitId → List Tree → Type 0
  pub const_refuted : BoundConstness → TraitId → List Tree → Type 0
  -- the goal that an alias and a term are equal holds, or is refuted
  pub equation_holds : Tree → Tree → Type 0
  pub equation_refuted : Tree → Tree → Type 0
  -- two terms are equal, or unequal
  pub equal : Tree → Tree → Type 0
  pub unequal : Tree → Tree → Type 0
  -- what a given term has at the first place of a parameter of a header
  pub part : ℕ → Tree → Tree → Tree → Type 0
  -- a header cannot fit a given term, some parameters being known
  pub clash : (ℕ → Tree → Type 0) → Tree → Tree → Type 0

-- below the lowest height nothing is proved
abbrev pub nothing : Level
nothing = record {
  gives = λ k ts u. ⊥;
  gives_refuted = λ k ts. ⊥;
  through = λ c i ts. ⊥;
  trait_refuted = λ i ts. ⊥;
  const_holds = λ c i ts. ⊥;
  const_refuted = λ c i ts. ⊥;
  equation_holds = λ a t. ⊥;
  equation_refuted = λ a t. ⊥;
  equal = λ t u. ⊥;
  unequal = λ t u. ⊥;
  part = λ n h g p. ⊥;
  clash = λ K h g. ⊥;
}

-- the head form of a term: what an alias normalizes to; each other term is its own
unfoldable pub HasHeadForm : Level → Tree → Tree → Type 0
HasHeadForm L (node h ts) f = f ≡ node h ts
HasHeadForm L (alias k ts) f = L.gives k (list_of ts) f
HasHeadForm L (variable v) f = f ≡ variable v

-- an alias that has no head form
unfoldable pub HeadFormRefuted : Level → Tree → Type 0
HeadFormRefuted L (node h ts) = ⊥
HeadFormRefuted L (alias k ts) = L.gives_refuted k (list_of ts)
HeadFormRefuted L (variable v) = ⊥
