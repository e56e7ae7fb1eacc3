-- What is asked of an alias.
use Rattle.std.specs.Prelude.{◌≡◌, true, false}
use Rattle.goal_terms.specs.TreeOf.{is_type_kind}
use Rattle.goal_terms.specs.declared.terms.AliasTermKind.{AliasTermKind}
use Rattle.goal_terms.specs.declared.terms.Term.{Term}
use Rattle.goal_terms.specs.declared.terms.Term.TheVariants as term

-- a term is what an alias stands for, a type or a constant
abbrev pub IsForKind : AliasTermKind → Term → Type 0
IsForKind kind (term.Ty _) = is_type_kind kind ≡ true
IsForKind kind (term.Const _) = is_type_kind kind ≡ false
