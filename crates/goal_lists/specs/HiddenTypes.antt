-- What an opaque type that is being defined stands for where a goal meets it, one height above a level: once type checking is done, the type that it found, as the row has it.
use Rattle.std.specs.Prelude.{◌⊎◌, List, [], ◌∷◌, ◌++◌}
use Rattle.goal_terms.specs.Tree.{Tree}
use Rattle.goal_terms.specs.declared.predicates.Clause.{Clause}
use Rattle.goal_lists.specs.Headers.{under}
use Rattle.goal_lists.specs.Level.{Level, HasHeadForm, HeadFormRefuted}
use Rattle.goal_lists.specs.Premises.{PremisesHold, PremisesRefuted, clauses_under}
use Rattle.goal_lists.specs.Words.{Each, Exists}
use Rattle.goal_lists.specs.declared.lists.FirstUse.{FirstUse}
use Rattle.goal_lists.specs.declared.lists.FirstUse.TheVariants as first

-- terms have head forms, or one of them has none
abbrev pub HaveForms : Level → List Tree → Type 0
HaveForms L ts = Each (λ t. (f : Tree) × HasHeadForm L t f) ts

abbrev pub SomeLacksForm : Level → List Tree → Type 0
SomeLacksForm L ts = Exists (HeadFormRefuted L) ts

-- the arguments of an opaque type have head forms, its bounds hold with a type in its own place, and that type's head form is the term; before type checking nothing is known of it
unfoldable pub HiddenGives : Level → FirstUse → List Tree → Tree → List Clause → Tree → Type 0
HiddenGives L first.Expected args t bounds u = ⊥
HiddenGives L first.TypeChecked args t bounds u = HaveForms L args × PremisesHold L (clauses_under (args ++ under args t ∷ []) bounds) × HasHeadForm L (under args t) u

-- an argument has none; or all have one, and a bound is refuted, or the type has none
unfoldable pub HiddenRefuted : Level → FirstUse → List Tree → Tree → List Clause → Type 0
HiddenRefuted L first.Expected args t bounds = ⊥
HiddenRefuted L first.TypeChecked args t bounds =
    SomeLacksForm L args ⊎ (HaveForms L args × (PremisesRefuted L (clauses_under (args ++ under args t ∷ []) bounds) ⊎ HeadFormRefuted L (under args t)))
