use Rattle.std.proofs.Common.{rules, ◌≡◌, [], ◌∷◌, ◌++◌}
use Rattle.goal_solver.proofs.GoingBackLemmas.{goes_back-when_same, goes_back-when_goals}
use Rattle.goal_solver.proofs.context.EvalCtxt.add_goal.Goals as goal

pub returns-then-is_err-clause-goes_back : goal.returns-then-is_err-clause-goes_back
returns-then-is_err-clause-goes_back c = goes_back-when_same c.args.self.now _ (search rules)

pub returns-clause-goes_back : goal.returns-clause-goes_back
returns-clause-goes_back c =
    let pushed : c.push.new.self.items ≡ c.self.inside.goals.items ++ (c.args.source, c.args.goal) ∷ [] = search rules in
    goes_back-when_goals c.args.self.now _ ((c.args.source, c.args.goal) ∷ []) (search (rules, pushed))

pub returns-clause-added : goal.returns-clause-added
returns-clause-added c =
    let pushed : c.push.new.self.items ≡ c.self.inside.goals.items ++ (c.args.source, c.args.goal) ∷ [] = search rules in
    search (rules, pushed)
