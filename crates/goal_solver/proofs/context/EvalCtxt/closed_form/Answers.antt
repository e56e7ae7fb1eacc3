use Rattle.std.proofs.Common.{subst}
use Rattle.goal_lists.specs.Answers.{setting_of}
use Rattle.goal_lists.proofs.ConsistentLemmas.{each_level_is_consistent}
use Rattle.goal_solver.specs.Answers.{level_over}
use Rattle.goal_solver.specs.HeadForms.{bound_term, IsFormFound}
use Rattle.goal_eval.specs.Outcomes.{FoundIn}
use Rattle.goal_solver.proofs.FormAnswerLemmas.{found-left_open}
use Rattle.goal_solver.proofs.context.EvalCtxt.closed_form.Goals as goal

pub returns-in-Ok-Is-clause-decided : goal.returns-in-Ok-Is-clause-decided
returns-in-Ok-Is-clause-decided c = λ m owed closed none.
    found-left_open (level_over c.args.self.now m c.args.environment.now)
    (each_level_is_consistent (setting_of c.args.self.now.tables m c.args.environment.now) c.args.self.now.remaining_depth)
    (bound_term c.args.self.now c.args.term.now) c.form_outcome.new.self.terms c.in-Ok-Is.id
    (subst (FoundIn c.form_outcome.new.self.terms) c.in-Ok-Is.field-0-is c.in-Ok-Is.ensures.within).0
    (subst (IsFormFound (level_over c.args.self.now m c.args.environment.now) (bound_term c.args.self.now c.args.term.now) c.form_outcome.new.self.terms) c.in-Ok-Is.field-0-is
    (c.in-Ok-Is.ensures.sound m owed))
    c.form_at.result (c.form_at.ensures.found, c.form_at.ensures.none, c.form_at.ensures.only_memory) none

pub returns-in-Ok-Is-clause-goes_back : goal.returns-in-Ok-Is-clause-goes_back
returns-in-Ok-Is-clause-goes_back c = c.form_outcome.ensures.goes_back

pub returns-in-Ok-Refuted-clause-goes_back : goal.returns-in-Ok-Refuted-clause-goes_back
returns-in-Ok-Refuted-clause-goes_back c = c.form_outcome.ensures.goes_back

pub returns-in-Ok-Undecided-clause-goes_back : goal.returns-in-Ok-Undecided-clause-goes_back
returns-in-Ok-Undecided-clause-goes_back c = c.form_outcome.ensures.goes_back
