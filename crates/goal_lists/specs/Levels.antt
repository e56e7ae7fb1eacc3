-- What trees of each height prove.
use Rattle.std.specs.Prelude.{ℕ, zero, suc}
use Rattle.goal_lists.specs.Aliases.{AliasGives, AliasRefuted}
use Rattle.goal_lists.specs.ConstGoals.{ConstHolds, ConstRefuted}
use Rattle.goal_lists.specs.Equality.{Equal, Unequal}
use Rattle.goal_lists.specs.Headers.{Part, Clash}
use Rattle.goal_lists.specs.Level.{Level, nothing}
use Rattle.goal_lists.specs.Settings.{Setting}
use Rattle.goal_lists.specs.TraitGoals.{TraitHolds, TraitRefuted}

-- with no height no goal is decided, and terms are compared without normalizing an alias
abbrev pub ground_level : Level
ground_level = record nothing { equal = Equal nothing; unequal = Unequal nothing; part = Part nothing; clash = Clash nothing }

-- the level above another: goals, terms and headers are decided by what is proved below
abbrev pub next_level : Setting → Level → Level
next_level S L = record {
  gives = AliasGives S L;
  gives_refuted = AliasRefuted S L;
  through = TraitHolds S L;
  trait_refuted = TraitRefuted S L;
  const_holds = ConstHolds S L;
  const_refuted = ConstRefuted S L;
  equation_holds = L.equal;
  equation_refuted = L.unequal;
  equal = Equal L;
  unequal = Unequal L;
  part = Part L;
  clash = Clash L;
}

-- what trees of at most a height prove
unfoldable pub level : Setting → ℕ → Level
level S zero = ground_level
level S (suc n) = next_level S (level S n)
