use Rattle.std.proofs.Common.{rules, refl}
use Rattle.goal_solver.proofs.BindingLemmas.{takes-resolved, absent-resolved, binds-bound}
use Rattle.goal_solver.proofs.GoingBackLemmas.{goes_back-when_same}
use Rattle.goal_solver.proofs.context.EvalCtxt.bind_number.Goals as goal

pub bind_term-requires-clause-takes : goal.bind_term-requires-clause-takes
bind_term-requires-clause-takes c = takes-resolved _ c.args.self.now c.args.id c.args.variable c.self.view_is c.requires.free

pub bind_term-requires-clause-free : goal.bind_term-requires-clause-free
bind_term-requires-clause-free c = absent-resolved _ c.args.self.now c.args.id c.args.variable c.self.view_is c.requires.free

pub returns-clause-bound : goal.returns-clause-bound
returns-clause-bound c =
    binds-bound _ c.args.self.now _ c.bind_term.new.state c.args.id c.args.variable c.self.view_is refl c.in-Ok.ensures.advances c.in-Ok.ensures.answer c.in-Ok.ensures.bound

pub returns-in_default-clause-goes_back : goal.returns-in_default-clause-goes_back
returns-in_default-clause-goes_back c = goes_back-when_same c.args.self.now _ (search rules)
