use Rattle.std.proofs.Common.{rules, ◌≡◌, ◌<◌, [], ◌∷◌, ◌++◌, length}
use Rattle.goal_solver.proofs.GoingBackLemmas.{goes_back-same, goes_back-when_same}
use Rattle.goal_solver.specs.Variables.{unbound}
use Rattle.goal_solver.proofs.VariableLemmas.{kinds-fewer, kinds-pushed, solved-made}
use Rattle.goal_solver.proofs.context.EvalCtxt.next_variable.Goals as goal

-- src/variables.rt:138:13
pub returns-then-count-clause-goes_back : goal.returns-then-count-clause-goes_back
returns-then-count-clause-goes_back c = goes_back-same c.args.self.now

-- src/variables.rt:141:13
pub returns-then-is_err-clause-goes_back : goal.returns-then-is_err-clause-goes_back
returns-then-is_err-clause-goes_back c = goes_back-when_same c.args.self.now _ (search rules)

pub invariant_of-self-in-Ok : goal.invariant_of-self-in-Ok
invariant_of-self-in-Ok c =
    let pushed : c.push.new.self.items ≡ c.self.inside.kinds.items ++ c.args.kind ∷ [] = search rules in
    let few : length c.self.inside.kinds.items < 4294967295 = search rules in
    let made : c.new_variable.new.self ≡ record c.self.inside.inference { variables = c.self.inside.inference.variables ++ unbound c.args.kind ∷ [] } = search rules in (
      kinds-fewer c.self.inside.kinds.items c.push.new.self.items c.args.kind pushed few,
      kinds-pushed c.self.inside.kinds.items c.push.new.self.items c.args.kind c.self.inside.inference c.new_variable.new.self pushed c.self.invariant.1 made,
      c.self.invariant.2,
      c.self.invariant.3,
      c.self.invariant.4,
      solved-made c.self.inside.terms c.self.inside.inference c.new_variable.new.self c.args.kind made c.self.invariant.5,
      c.self.invariant.6,
    )
