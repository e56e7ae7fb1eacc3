-- What a match of a header comes to, whatever it is matched with.
use Rattle.std.specs.Prelude.{List}
use Rattle.goal_terms.specs.Tree.{Tree}
use Rattle.goal_lists.specs.Interned.{erased_all}
use Rattle.goal_eval.specs.declared.eval.outcomes.HeaderMatch.{HeaderMatch}
use Rattle.goal_eval.specs.declared.eval.outcomes.HeaderMatch.TheVariants as match

-- what a match comes to: it fits under a substitution, or clashes; where neither is so, a substitution may be known
abbrev pub SaysMatched : (List Tree → Type 0) → (List Tree → Type 0) → Type 0 → List Tree → HeaderMatch → Type 0
SaysMatched F K C T (match.Fits s) = F (erased_all T s.items)
SaysMatched F K C T (match.Known s) = K (erased_all T s.items) × ((z : List Tree) → F z → ⊥) × (C → ⊥)
SaysMatched F K C T match.Clashes = C
SaysMatched F K C T match.Unknown = ((z : List Tree) → K z → ⊥) × (C → ⊥)
