use Rattle.std.proofs.Common.{Result, sym, subst}
use Rattle.goal_terms.specs.declared.answers.Response.{Response}
use Rattle.goal_kinds.specs.declared.faults.Fault.{Fault}
use Rattle.vurloske_answers.specs.Answers.{Says}
use Rattle.vurloske_answers.proofs.answers.answer_of.Goals as goal

-- what is said of the response is said of the evaluation, which is that response
pub returns-in-Ok-clause-says : goal.returns-in-Ok-clause-says
returns-in-Ok-clause-says c =
    let Holds : Result Response Fault → Type 0 = λ e. Says e c.args.asked c.answer_in.result in
    subst Holds (sym c.in-Ok.is) c.answer_in.ensures
