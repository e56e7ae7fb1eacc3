-- Variables whose bindings are undone.
use Rattle.std.specs.Prelude.{ℕ, zero, suc, List, [], ◌∷◌, None}
use Rattle.goal_infer.specs.declared.undo.InferVariable.{InferVariable}

-- the variable of a number without its binding
unfoldable pub unbound_at : ℕ → List InferVariable → List InferVariable
unbound_at n [] = []
unbound_at zero (v ∷ vs) = record v { binding = None } ∷ vs
unbound_at (suc n) (v ∷ vs) = v ∷ unbound_at n vs

-- some variables without their bindings
unfoldable pub unbound : List ℕ → List InferVariable → List InferVariable
unbound [] vs = vs
unbound (n ∷ ns) vs = unbound ns (unbound_at n vs)
