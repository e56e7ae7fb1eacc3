-- What a rule records, and for which typing modes it stands.
use Rattle.std.specs.Prelude.{◌≡◌, ◌⊎◌, true, List, [], ◌∷◌, ◌++◌}
use Rattle.goal_terms.specs.declared.answers.OpaqueAccess.{OpaqueAccess}
use Rattle.goal_terms.specs.declared.modes.TypingMode.{TypingMode}
use Rattle.goal_terms.specs.declared.modes.TypingMode.TheVariants as mode
use Rattle.goal_lists.specs.Settings.{is_headline}
use Rattle.goal_kinds.specs.declared.rules.Rule.{Rule}
use Rattle.goal_kinds.specs.declared.rules.RuleEntry.{RuleEntry}
use Rattle.goal_kinds.specs.declared.rules.RuleEntry.TheVariants as entry

-- the access that an entry records
abbrev pub access_of : RuleEntry → List OpaqueAccess
access_of (entry.Access a) = a ∷ []
access_of _ = []

-- the accesses that a list of entries records
unfoldable pub accesses_of : List RuleEntry → List OpaqueAccess
accesses_of [] = []
accesses_of (e ∷ es) = access_of e ++ accesses_of es

-- entries that were made in a mode stand for a headline mode: the mode is that one, or it is the erased mode and no access is recorded
abbrev pub StandFor : TypingMode → List RuleEntry → TypingMode → Type 0
StandFor k es m = (is_headline m ≡ true) × ((k ≡ m) ⊎ ((k ≡ mode.ErasedNotCoherence) × (accesses_of es ≡ [])))

-- the same of a rule
abbrev pub IsRuleIn : TypingMode → Rule → TypingMode → Type 0
IsRuleIn k r m = StandFor k r.entries.items m
