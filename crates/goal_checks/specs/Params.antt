-- The parameters that a row asks for, in one list.
use Rattle.std.specs.Prelude.{List, [], ◌∷◌, ◌++◌, Option, Some, None}
use Rattle.goal_terms.specs.declared.answers.ParamKind.{ParamKind}
use Rattle.goal_checks.specs.declared.params.Params.{Params}

-- what an option holds, in a list
abbrev pub list_of_option : {X : Type 0} → Option X → List X
list_of_option None = []
list_of_option (Some x) = x ∷ []

-- the kinds of parameters that stand in several places
abbrev pub params_seen : Params → List ParamKind
params_seen p = p.first.now ++ (p.own.now ++ list_of_option p.last)
