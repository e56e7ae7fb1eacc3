use Rattle.std.specs.Prelude.{◌≡◌, ℕ, List, Option, Some, None, codes}
use Rattle.vurloske_ast.specs.declared.token.Keyword.{Keyword}
use Rattle.vurloske_ast.specs.declared.token.Keyword.TheVariants as keyword
use Rattle.vurloske_ast.specs.declared.token.Sign.{Sign}
use Rattle.vurloske_ast.specs.declared.token.Sign.TheVariants as sign

-- how a keyword is written
abbrev pub keyword_text : Keyword → List ℕ
keyword_text keyword.As = codes "as"
keyword_text keyword.Const = codes "const"
keyword_text keyword.Dyn = codes "dyn"
keyword_text keyword.Enum = codes "enum"
keyword_text keyword.Extern = codes "extern"
keyword_text keyword.False = codes "false"
keyword_text keyword.Fn = codes "fn"
keyword_text keyword.For = codes "for"
keyword_text keyword.Impl = codes "impl"
keyword_text keyword.Mut = codes "mut"
keyword_text keyword.Struct = codes "struct"
keyword_text keyword.Trait = codes "trait"
keyword_text keyword.True = codes "true"
keyword_text keyword.Type = codes "type"
keyword_text keyword.Unsafe = codes "unsafe"
keyword_text keyword.Where = codes "where"

-- how a sign is written
abbrev pub sign_text : Sign → List ℕ
sign_text sign.And = codes "&"
sign_text sign.CloseBrace = codes "}"
sign_text sign.CloseBracket = codes "]"
sign_text sign.CloseParen = codes ")"
sign_text sign.Colon = codes ":"
sign_text sign.Comma = codes ","
sign_text sign.Eq = codes "="
sign_text sign.EqEq = codes "=="
sign_text sign.Gt = codes ">"
sign_text sign.Lt = codes "<"
sign_text sign.Not = codes "!"
sign_text sign.OpenBrace = codes "{"
sign_text sign.OpenBracket = codes "["
sign_text sign.OpenParen = codes "("
sign_text sign.PathSep = codes "::"
sign_text sign.Plus = codes "+"
sign_text sign.Pound = codes "#"
sign_text sign.Question = codes "?"
sign_text sign.RArrow = codes "->"
sign_text sign.Semi = codes ";"
sign_text sign.Star = codes "*"
sign_text sign.Underscore = codes "_"

-- what a text names, where each thing is written in its own way: the one that is written so, and none only where there is none
abbrev pub IsNamed : {K : Type 0} → (K → List ℕ) → List ℕ → Option K → Type 0
IsNamed {K} written text (Some k) = written k ≡ text
IsNamed {K} written text None = (k : K) → written k ≡ text → ⊥
