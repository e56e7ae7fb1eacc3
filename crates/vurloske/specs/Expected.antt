-- Which answers may be those that are expected.
use Rattle.std.specs.Prelude.{◌≡◌, Option, Some, None}
use Rattle.goal_terms.specs.TreeOf.{tree_of_term}
use Rattle.goal_terms.specs.declared.terms.Term.{Term}
use Rattle.vurloske_answers.specs.declared.answers.Answer.{Answer}
use Rattle.vurloske_answers.specs.declared.answers.Answer.TheVariants as answer
use Rattle.vurloske.specs.declared.expectations.Expected.{Expected}
use Rattle.vurloske.specs.declared.expectations.Expected.TheVariants as expected

-- the term that is expected is the one that was found
abbrev pub IsSameTerm : Option Term → Term → Type 0
IsSameTerm (Some t) found = tree_of_term t ≡ tree_of_term found
IsSameTerm None found = ⊥

-- an answer may be the one that is expected: it is the same word, or a `yes` with the same term
abbrev pub MayMeet : Expected → Answer → Option Term → Type 0
MayMeet expected.Yes (answer.Yes _) t = Unit {0}
MayMeet expected.No answer.No t = Unit {0}
MayMeet expected.Maybe answer.Maybe t = Unit {0}
MayMeet (expected.Refused _) (answer.Refused _) t = Unit {0}
MayMeet (expected.Term _) (answer.Yes (Some found)) t = IsSameTerm t found
MayMeet _ _ t = ⊥
