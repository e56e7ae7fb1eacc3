use Rattle.std.proofs.Common.{ap}
use Rattle.goal_solver.specs.Answers.{level_over}
use Rattle.goal_solver.specs.State.{State}
use Rattle.goal_solver.proofs.AnswerLemmas.{owed-before}
use Rattle.goal_solver.proofs.GoingBackLemmas.{goes_back-through}
use Rattle.goal_solver.proofs.NormalizingLemmas.{expected-binds, expected-says, found-fits, keeps-same}
use Rattle.goal_solver.proofs.context.EvalCtxt.normalization_outcome.Goals as goal

pub returns-in_ok-found-clause-says : goal.returns-in_ok-found-clause-says
returns-in_ok-found-clause-says c = λ m owed ok.
    let given = c.in_ok-found.ensures.says m (owed-before c.alias_outcome.new.self c.expect_found.new.self m c.expect_found.ensures.goes_back owed) in
    let fits = found-fits c.args.self.now m c.args.self.now.remaining_depth c.args.goal.now c.args.environment.now c.alias_outcome.new.self.terms c.in_ok-found.found c.is_well_formed.ensures.tables ok given in
    let kept = keeps-same c.args.self.now c.alias_outcome.new.self (ap (λ (s : State). s.inference) c.alias_outcome.ensures.unchanged) in
    expected-says (level_over c.args.self.now m c.args.environment.now) c.args.goal.now c.args.environment.now c.alias_outcome.new.self.terms c.in_ok-found.found c.args.self.now c.alias_outcome.new.self c.expect_found.new.self c.expect_found.result ok fits given
    (c.expect_found.ensures.gives c.args.goal.now.alias.kind ok.number fits ok.expects (kept ok.number _ ok.free))

pub returns-in_ok-found-clause-keeps : goal.returns-in_ok-found-clause-keeps
returns-in_ok-found-clause-keeps c = λ m owed ok.
    let given = c.in_ok-found.ensures.says m (owed-before c.alias_outcome.new.self c.expect_found.new.self m c.expect_found.ensures.goes_back owed) in
    let fits = found-fits c.args.self.now m c.args.self.now.remaining_depth c.args.goal.now c.args.environment.now c.alias_outcome.new.self.terms c.in_ok-found.found c.is_well_formed.ensures.tables ok given in
    let kept = keeps-same c.args.self.now c.alias_outcome.new.self (ap (λ (s : State). s.inference) c.alias_outcome.ensures.unchanged) in
    expected-binds (level_over c.args.self.now m c.args.environment.now) c.args.goal.now c.args.environment.now c.in_ok-found.found c.args.self.now c.alias_outcome.new.self c.expect_found.new.self c.expect_found.result kept ok
    c.in_ok-found.ensures.within c.expect_found.ensures.goes_back.terms given (c.expect_found.ensures.gives c.args.goal.now.alias.kind ok.number fits ok.expects (kept ok.number _ ok.free))

pub returns-in_ok-found-clause-goes_back : goal.returns-in_ok-found-clause-goes_back
returns-in_ok-found-clause-goes_back c =
    goes_back-through c.args.self.now c.alias_outcome.new.self c.expect_found.new.self c.alias_outcome.ensures.goes_back c.expect_found.ensures.goes_back
