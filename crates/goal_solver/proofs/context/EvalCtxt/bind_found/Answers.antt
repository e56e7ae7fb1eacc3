use Rattle.std.proofs.Common.{sym, ◌∙◌}
use Rattle.std.proofs.lemmas.Bool.{false≢true}
use Rattle.goal_solver.proofs.NormalizingLemmas.{becomes-free, free-becomes}
use Rattle.goal_solver.proofs.context.EvalCtxt.bind_found.Goals as goal

pub returns-then-not-may_become-clause-gives : goal.returns-then-not-may_become-clause-gives
returns-then-not-may_become-clause-gives c = λ free.
    absurd (false≢true (sym c.if-not-may_become.true ∙ c.may_become.ensures.1 (free-becomes _ c.args.self.now c.args.found c.args.variable c.self.view_is free)))

pub returns-then-not-may_become-clause-bound : goal.returns-then-not-may_become-clause-bound
returns-then-not-may_become-clause-bound c = λ free ends.
    absurd (false≢true (sym c.if-not-may_become.true ∙ c.may_become.ensures.1 (free-becomes _ c.args.self.now c.args.found c.args.variable c.self.view_is free)))

pub bind_number-requires-clause-free : goal.bind_number-requires-clause-free
bind_number-requires-clause-free c = becomes-free _ c.args.self.now c.args.found c.args.variable c.self.view_is c.requires.unbound (c.may_become.ensures.0 c.if-not-may_become.false)
