-- What a state of inference is, and when one goes back to another.
use Rattle.std.specs.Prelude.{◌≡◌, ◌++◌, ◌∷◌, [], ℕ, List, Some, length, take, drop, slice_set}
use Rattle.goal_interner.specs.declared.term_nodes.TermId.{TermId}
use Rattle.goal_terms.specs.declared.terms.Region.{Region}
use Rattle.goal_infer.specs.Undo.{unbound}
use Rattle.goal_infer.specs.declared.state.Snapshot.{Snapshot}
use Rattle.goal_infer.specs.declared.undo.InferVariable.{InferVariable}

-- the variables, those that were bound in the order in which they were, and the regions that must be equal
pub record Inference : Type 0 where
  pub variables : List InferVariable
  pub trail : List ℕ
  pub equations : List (Region × Region)

-- how much there is of each
abbrev pub lengths_of : Inference → Snapshot
lengths_of s = record { variables = length s.variables; trail = length s.trail; equations = length s.equations }

-- a state with the bindings after a place of its trail undone, and its lists cut
abbrev pub rolled_back : Snapshot → Inference → Inference
rolled_back to s = record {
  variables = take to.variables (unbound (drop to.trail s.trail) s.variables);
  trail = take to.trail s.trail;
  equations = take to.equations s.equations;
}

-- a state in which a variable was bound, last of all, to the term of a number
abbrev pub with_binding : ℕ → TermId → InferVariable → Inference → Inference
with_binding number term v s = record s { variables = slice_set s.variables number (record v { binding = Some term }); trail = s.trail ++ number ∷ [] }

-- the changes recorded since, undone, give the state before
unfoldable pub GoesBack : Inference → Inference → Type 0
GoesBack before after = rolled_back (lengths_of before) after ≡ before
