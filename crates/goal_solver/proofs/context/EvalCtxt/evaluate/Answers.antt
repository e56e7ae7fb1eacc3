use Rattle.std.proofs.Common.{Result, Ok, Err, sym, subst}
use Rattle.std.specs.Prelude.{IfOk}
use Rattle.goal_interner.specs.TableMeaning.{Keeps}
use Rattle.goal_lists.specs.Answers.{setting_of}
use Rattle.goal_solver.specs.State.{State}
use Rattle.goal_solver.proofs.AccessLemmas.{recorded-concluded, recorded-rerun}
use Rattle.goal_solver.proofs.GoingBackLemmas.{goes_back-through}
use Rattle.goal_solver.proofs.OpenClassLemmas.{none-left}
use Rattle.goal_solver.proofs.RerunLemmas.{rerun-says}
use Rattle.goal_solver.proofs.context.EvalCtxt.evaluate.Goals as goal

-- what is said of an answer, and what follows
on_answer : {A E : Type 0} (r : Result A E) (P Q : A → Type 0) → ((x : A) → P x → Q x) → IfOk r P → IfOk r Q
on_answer (Ok x) P Q f h = f x h
on_answer (Err e) P Q f h = tt

pub run_question-requires : goal.run_question-requires
run_question-requires g c =
    subst (λ (s : State). g.Q.Question.can_ask s.terms c.args.question.now) (sym c.first_answer.ensures.unchanged)
    (g.met.Q.Question.asked_again c.args.self.now.terms c.run_question-first.new.self.terms c.args.question.now c.run_question-first.ensures.kept c.requires)

pub returns-in_err-answer-clause-caused : goal.returns-in_err-answer-clause-caused
returns-in_err-answer-clause-caused g c =
    recorded-concluded c.args.self.now c.run_question-first.new.self c.first_answer.new.self c.run_question-first.result c.run_question-first.ensures.goes_back c.run_question-first.ensures.caused c.run_question-first.ensures.ends c.first_answer.ensures.caused

pub returns-clause-caused : goal.returns-clause-caused
returns-clause-caused g c =
    recorded-rerun c.args.self.now c.run_question-first.new.self c.first_answer.new.self c.run_question.new.self c.run_question-first.result c.run_question-first.ensures.goes_back c.first_answer.ensures.goes_back c.run_question-first.ensures.caused
    c.run_question-first.ensures.ends c.first_answer.ensures.caused c.run_question.ensures.caused

pub returns-clause-goes_back : goal.returns-clause-goes_back
returns-clause-goes_back g c =
    goes_back-through c.args.self.now c.first_answer.new.self c.run_question.new.self
    (goes_back-through c.args.self.now c.run_question-first.new.self c.first_answer.new.self c.run_question-first.ensures.goes_back c.first_answer.ensures.goes_back) c.run_question.ensures.goes_back

pub returns-clause-memory : goal.returns-clause-memory
returns-clause-memory g c = λ so.
    c.run_question.ensures.memory
    (subst (λ (s : State). g.Q.Question.ends_for_memory s.terms c.args.question.now) (sym c.first_answer.ensures.unchanged)
    (g.met.Q.Question.ends_so_again c.args.self.now.terms c.run_question-first.new.self.terms c.args.question.now c.run_question-first.ensures.kept c.requires so))

pub returns-clause-says : goal.returns-clause-says
returns-clause-says g c = λ m owed.
    rerun-says (λ t n. IfOk c.run_question.result (g.Q.Question.says (setting_of t m c.args.environment.now) c.args.depth c.args.self.now.terms c.args.question.now c.run_question.new.self.terms))
    c.args.self.now c.run_question-first.new.self c.first_answer.new.self c.run_question.new.self m c.run_question-first.ensures.unchanged
    c.first_answer.ensures.unchanged c.run_question.ensures.goes_back (c.in_ok-answer.ensures.on (none-left c.in_ok-answer.field-0 c.in_default.not-Some))
    (λ runs. on_answer c.run_question.result _ _
    (λ o. g.met.Q.Question.said_before (setting_of c.first_answer.new.self.tables m c.args.environment.now) c.args.depth c.args.self.now.terms c.first_answer.new.self.terms c.run_question.new.self.terms c.args.question.now o
    (subst (λ (s : State). Keeps c.args.self.now.terms s.terms) (sym c.first_answer.ensures.unchanged) c.run_question-first.ensures.kept) c.requires)
    (c.run_question.ensures.says m runs)) owed
