use Rattle.std.proofs.Common.{◌≡◌, Some, sym, subst}
use Rattle.goal_lists.specs.OpaqueUses.{first_use_of}
use Rattle.goal_solver.specs.State.{State}
use Rattle.goal_solver.proofs.BelowLemmas.{applies-below}
use Rattle.goal_solver.proofs.DefinedGoalLemmas.{defined-goal}
use Rattle.goal_solver.proofs.HiddenTypeLemmas.{defines-below}
use Rattle.goal_solver.proofs.context.EvalCtxt.define_below.Goals as goal

pub returns-clause-runs : goal.returns-clause-runs
returns-clause-runs c = λ n f uses depth.
    defines-below _ c.args.self.now _ c.run_definition-answer.new.self n c.args.goal.now f c.run_definition-answer.result c.self.view_is c.self-2.view_is c.run_definition-answer.ensures.unchanged depth
    (c.run_definition-answer.ensures.runs f (subst (λ (s : State). first_use_of s.tables s.typing_mode c.args.goal.now.predicate.alias.kind ≡ Some f) (sym c.self.view_is) uses))

pub returns-clause-applies : goal.returns-clause-applies
returns-clause-applies c =
    applies-below _ c.args.self.now _ c.run_definition-answer.new.self _ c.self.inside.remaining_depth c.run_definition-answer.result c.self.view_is c.self-2.view_is
    c.run_definition-answer.ensures.unchanged c.run_definition-answer.ensures.goes_back c.holds_together.ensures.solved c.run_definition-answer.ensures.applies

pub run_definition-answer-requires : goal.run_definition-answer-requires
run_definition-answer-requires c =
    let defined = defined-goal c.args.self.now c.args.goal.now c.requires.defined in
    record { kind = (defined.taken, subst (λ (s : State). first_use_of s.tables s.typing_mode c.args.goal.now.predicate.alias.kind ≡ Some defined.taken) (sym c.self.view_is) defined.first) }
