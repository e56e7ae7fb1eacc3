use Rattle.std.proofs.Common.{refl}
use Rattle.goal_infer.proofs.SolvedLemmas.{solved-kept}
use Rattle.goal_solver.proofs.BindingLemmas.{free-interned, binds-interned}
use Rattle.goal_solver.proofs.GoingBackLemmas.{goes_back-interned}
use Rattle.goal_solver.proofs.context.EvalCtxt.bind_to.Goals as goal

pub invariant_of-self : goal.invariant_of-self
invariant_of-self c = (
  c.self.invariant.0,
  c.self.invariant.1,
  c.self.invariant.2,
  c.self.invariant.3,
  c.self.invariant.4,
  solved-kept c.self.inside.terms c.intern_part.new.self c.self.inside.inference c.intern_part.ensures.kept c.self.invariant.5,
  c.self.invariant.6,
)

pub invariant_of-self-in-Err : goal.invariant_of-self-in-Err
invariant_of-self-in-Err c = (
  c.self.invariant.0,
  c.self.invariant.1,
  c.self.invariant.2,
  c.self.invariant.3,
  c.self.invariant.4,
  solved-kept c.self.inside.terms c.intern_part.new.self c.self.inside.inference c.intern_part.ensures.kept c.self.invariant.5,
  c.self.invariant.6,
)

pub bind_number-requires-clause-free : goal.bind_number-requires-clause-free
bind_number-requires-clause-free c =
    free-interned _ c.args.self.now c.intern_part.new.self _ _ c.args.variable c.self.view_is c.in-Ok.ensures.tree c.intern_part.ensures.kept c.self.invariant.5 c.requires.free

pub returns-in-Ok-clause-bound : goal.returns-in-Ok-clause-bound
returns-in-Ok-clause-bound c =
    binds-interned c.bind_number.result _ c.args.self.now c.bind_number.new.self c.intern_part.new.self _ _ c.args.variable c.self.view_is c.in-Ok.ensures.tree c.intern_part.ensures.kept c.self.invariant.5 c.bind_number.ensures.bound

pub returns-in-Err-clause-goes_back : goal.returns-in-Err-clause-goes_back
returns-in-Err-clause-goes_back c = goes_back-interned _ c.args.self.now _ c.intern_part.new.self c.self.view_is refl c.intern_part.ensures.kept
