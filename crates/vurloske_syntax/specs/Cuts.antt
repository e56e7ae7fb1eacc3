use Rattle.std.specs.Prelude.{◌≡◌, ℕ, ◌-◌, ◌<◌, ◌≤◌, List, [], ◌∷◌, length}
use Rattle.vurloske_ast.specs.declared.token.Token.{Token}
use Rattle.vurloske_syntax.specs.declared.scanner.Scanner.{Scanner}

-- tokens that lie in order between two places, none of them empty
abbrev pub InOrder : ℕ → List Token → ℕ → Type 0
InOrder low [] high = low ≤ high
InOrder low (t ∷ ts) high = (low ≤ t.span.start) × (t.span.start < t.span.end) × InOrder t.span.end ts high

-- how many bytes are cut
abbrev pub offset_of : Scanner → ℕ
offset_of s = length s.text.now - length s.rest.now

-- what is left is no longer than the text
abbrev pub IsWithin : Scanner → Type 0
IsWithin s = length s.rest.now ≤ length s.text.now

-- the text stays, and no more is left than before
pub record Advances (old new : Scanner) : Type 0 where
  pub text : length new.text.now ≡ length old.text.now
  pub rest : length new.rest.now ≤ length old.rest.now

-- the text stays, and less is left than before
pub record Cuts (old new : Scanner) : Type 0 where
  pub text : length new.text.now ≡ length old.text.now
  pub rest : length new.rest.now < length old.rest.now
