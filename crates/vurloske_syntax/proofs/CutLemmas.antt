use Rattle.std.proofs.Common.{◌≡◌, ℕ, ◌<◌, ◌≤◌, List, [], ◌∷◌, ◌++◌, length, arith}
use Rattle.vurloske_ast.specs.declared.token.Token.{Token}
use Rattle.vurloske_syntax.specs.declared.scanner.Scanner.{Scanner}
use Rattle.vurloske_syntax.specs.Cuts.{InOrder, offset_of, IsWithin, Advances, Cuts}

-- a token more, behind the last one
pub InOrder-snoc : (low : ℕ) (ts : List Token) (mid : ℕ) (t : Token) (high : ℕ) → InOrder low ts mid → mid ≤ t.span.start → t.span.start < t.span.end →
    t.span.end ≤ high → InOrder low (ts ++ t ∷ []) high
InOrder-snoc low [] mid t high before start some within = (omega arith, some, within)
InOrder-snoc low (u ∷ ts) mid t high before start some within = (before.0, before.1, InOrder-snoc u.span.end ts mid t high before.2 start some within)

-- the end may lie further behind
pub InOrder-wider : (low : ℕ) (ts : List Token) (mid high : ℕ) → InOrder low ts mid → mid ≤ high → InOrder low ts high
InOrder-wider low [] mid high before wider = omega arith
InOrder-wider low (u ∷ ts) mid high before wider = (before.0, before.1, InOrder-wider u.span.end ts mid high before.2 wider)

-- blanks, and then a token
module _ (old mid new : Scanner) (within : IsWithin old) (blanks : Advances old mid) (token : Cuts mid new) where
  pub blanks-before : offset_of old ≤ offset_of mid
  blanks-before = omega (arith, blanks.text, blanks.rest)

  pub token-some : offset_of mid < offset_of new
  token-some = omega (arith, blanks.text, blanks.rest, token.text, token.rest)

  pub token-within : IsWithin new
  token-within = omega (arith, blanks.text, blanks.rest, token.text, token.rest)

  pub token-text : (text : ℕ) → length old.text.now ≡ text → length new.text.now ≡ text
  token-text text same = omega (arith, blanks.text, token.text)

-- a list with a token more, which stands behind blanks
pub InOrder-next : (low : ℕ) (ts : List Token) (t : Token) (old mid new : Scanner) → IsWithin old → Advances old mid → Cuts mid new →
    t.span.start ≡ offset_of mid → t.span.end ≡ offset_of new → InOrder low ts (offset_of old) → InOrder low (ts ++ t ∷ []) (offset_of new)
InOrder-next low ts t old mid new within blanks token start end before =
    InOrder-snoc low ts (offset_of old) t (offset_of new) before (rw start (blanks-before old mid new within blanks token))
    (rw (start, end) (token-some old mid new within blanks token)) (omega arith)
