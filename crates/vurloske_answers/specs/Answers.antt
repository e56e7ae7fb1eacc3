-- What an answer says of the evaluation of its goal, and the word that is printed for it.
use Rattle.std.specs.Prelude.{◌≡◌, ℕ, List, Option, Some, None, Result, Ok, Err, codes, Contains}
use Rattle.goal_terms.specs.declared.answers.Certainty.TheVariants as certainty
use Rattle.goal_terms.specs.declared.answers.Response.{Response}
use Rattle.goal_terms.specs.declared.terms.Term.{Term}
use Rattle.goal_kinds.specs.declared.faults.Fault.{Fault}
use Rattle.goal_kinds.specs.declared.faults.Fault.TheVariants as fault
use Rattle.vurloske_answers.specs.declared.answers.Answer.{Answer}
use Rattle.vurloske_answers.specs.declared.answers.Answer.TheVariants as answer
use Rattle.vurloske_answers.specs.declared.answers.Refusal.TheVariants as refusal

-- a value that a list has for a variable, or that it has none
abbrev pub IsListed : List (ℕ × Term) → ℕ → Option Term → Type 0
IsListed values v (Some t) = Contains values (v, t)
IsListed values v None = (t : Term) → Contains values (v, t) → ⊥

-- the term of an answer: what the response lists for the variable that was asked for, and none where none was
abbrev pub IsTermFor : Response → Option ℕ → Option Term → Type 0
IsTermFor r (Some v) term = IsListed r.var_values.items v term
IsTermFor r None term = term ≡ None

-- an answer says what the evaluation came to: `yes` and `maybe` how sure its response is, `no` that the goal is refuted, and a refusal why the run was given up
abbrev pub Says : Result Response Fault → Option ℕ → Answer → Type 0
Says e v (answer.Yes term) = (r : Response) × (e ≡ Ok r) × (r.certainty ≡ certainty.Yes) × IsTermFor r v term
Says e v answer.No = e ≡ Err fault.NoSolution
Says e v answer.Maybe = (r : Response) × (e ≡ Ok r) × (r.certainty ≡ certainty.Maybe)
Says e v (answer.Refused (refusal.Run f)) = e ≡ Err f
Says e v (answer.Refused _) = ⊥

-- the word of an answer that is one word
abbrev pub word_text : Answer → Option (List ℕ)
word_text (answer.Yes None) = Some (codes "yes")
word_text answer.No = Some (codes "no")
word_text answer.Maybe = Some (codes "maybe")
word_text _ = None
