-- Kinds of parameters, and lists of them.
use Rattle.std.specs.Prelude.{ℕ, zero, suc, Bool, false, ◌==◌, ◌&&◌, ◌||◌, not, List, [], ◌∷◌, length, Option, Some, None}
use Rattle.goal_terms.specs.declared.answers.ParamKind.{ParamKind}
use Rattle.goal_terms.specs.Kinds.{same_kind}

-- whether a row asks for another number of arguments
abbrev pub differs_in_count : Option (List ParamKind) → ℕ → Bool
differs_in_count None n = false
differs_in_count (Some ps) n = not (length ps == n)

-- whether two lists have other kinds at some place that both have
abbrev pub differs_in_kind : List ParamKind → List ParamKind → Bool
differs_in_kind [] ks = false
differs_in_kind (p ∷ ps) [] = false
differs_in_kind (p ∷ ps) (k ∷ ks) = not (same_kind p k) || differs_in_kind ps ks

-- whether two lists have the same kinds
abbrev pub same_kinds : List ParamKind → List ParamKind → Bool
same_kinds ps ks = (length ps == length ks) && not (differs_in_kind ps ks)

-- whether a row asks for other kinds of arguments
abbrev pub asks_other_kinds : Option (List ParamKind) → List ParamKind → Bool
asks_other_kinds None ks = false
asks_other_kinds (Some ps) ks = differs_in_kind ps ks

-- whether a row has this parameter, of this kind
abbrev pub has_param : List ParamKind → ℕ → ParamKind → Bool
has_param [] n k = false
has_param (p ∷ ps) zero k = same_kind p k
has_param (p ∷ ps) (suc n) k = has_param ps n k
