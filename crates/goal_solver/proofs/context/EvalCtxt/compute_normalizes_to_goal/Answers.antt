use Rattle.goal_solver.specs.Answers.{is_closed_alias}
use Rattle.std.proofs.Common.{ap, sym, ◌∙◌, ⊎_elim}
use Rattle.goal_solver.specs.Promises.{term_asked}
use Rattle.goal_solver.specs.State.{State}
use Rattle.goal_solver.proofs.DefinedGoalLemmas.{defined-goal, defined-unambiguous, runs-unnamed, defined-answers, undefined-answers}
use Rattle.goal_solver.proofs.PromiseLemmas.{answers-alias, no-two-disagree, false-unless}
use Rattle.goal_solver.proofs.context.EvalCtxt.compute_normalizes_to_goal.Goals as goal

pub returns-clause-closed : goal.returns-clause-closed
returns-clause-closed c = λ closed.
    answers-alias c.args.self.now c.normalizes_to_response.new.self c.args.goal.now.param_env.items c.args.goal.now.predicate c.normalizes_to_response.result
    (λ m stands. c.normalizes_to_response.ensures.sound m stands closed)
    (λ m n owed ok expected undecided. c.normalizes_to_response.ensures.whole m n owed ok closed expected undecided)
    (c.normalizes_to_response.ensures.quiet closed) (c.normalizes_to_response.ensures.gives closed) (c.normalizes_to_response.ensures.lists closed) (c.normalizes_to_response.ensures.no_class closed)

pub returns-clause-merged : goal.returns-clause-merged
returns-clause-merged c = λ variables n k expected above.
    c.normalizes_to_response.ensures.merged n k (false-unless (is_closed_alias c.args.goal.now.predicate.alias c.args.goal.now.param_env.items) variables) expected above

pub returns-clause-agrees : goal.returns-clause-agrees
returns-clause-agrees c = no-two-disagree c.args.self.now.tables c.args.goal.now.param_env.items (term_asked c.args.goal.now.predicate)

pub returns-clause-ambiguous : goal.returns-clause-ambiguous
returns-clause-ambiguous c = λ closed is. c.normalizes_to_response.ensures.ambiguous closed is

pub returns-clause-caused : goal.returns-clause-caused
returns-clause-caused c = λ closed _. c.normalizes_to_response.ensures.caused closed

pub returns-then-defines-clause-caused : goal.returns-then-defines-clause-caused
returns-then-defines-clause-caused c = λ closed other. absurd (cc (sym other ∙ sym c.defines.ensures ∙ c.if-defines.true))

pub returns-clause-defines : goal.returns-clause-defines
returns-clause-defines c = λ closed. undefined-answers c.args.self.now c.normalizes_to_response.new.self c.args.goal.now c.normalizes_to_response.result (sym c.defines.ensures ∙ c.if-defines.false) closed

pub returns-then-defines-clause-closed : goal.returns-then-defines-clause-closed
returns-then-defines-clause-closed c = λ closed.
    let goes = defined-goal c.args.self.now c.args.goal.now (sym c.defines.ensures ∙ c.if-defines.true) in
    defined-answers c.args.self.now c.define_below.new.self c.args.goal.now c.define_below.result goes (ap (λ (s : State). s.typing_mode) c.define_below.ensures.unchanged)
    (runs-unnamed c.args.goal.now goes.taken _ _ c.define_below.result (c.define_below.ensures.runs goes.depth goes.taken goes.first goes.above))

pub returns-then-defines-clause-defines : goal.returns-then-defines-clause-defines
returns-then-defines-clause-defines c = λ closed n k f uses expected above. c.define_below.ensures.runs n f uses above

pub returns-then-defines-clause-merged : goal.returns-then-defines-clause-merged
returns-then-defines-clause-merged c = λ variables. absurd (variables (defined-goal c.args.self.now c.args.goal.now (sym c.defines.ensures ∙ c.if-defines.true)).closed)

pub returns-then-defines-clause-at_once : goal.returns-then-defines-clause-at_once
returns-then-defines-clause-at_once c = λ h.
    let goes = defined-goal c.args.self.now c.args.goal.now (sym c.defines.ensures ∙ c.if-defines.true) in
    ⊎_elim (λ none. absurd (cc (sym none ∙ goes.above))) (λ none. absurd (cc (sym none ∙ goes.expected))) h

pub returns-then-defines-clause-agrees : goal.returns-then-defines-clause-agrees
returns-then-defines-clause-agrees c = no-two-disagree c.args.self.now.tables c.args.goal.now.param_env.items (term_asked c.args.goal.now.predicate)

pub returns-then-defines-clause-ambiguous : goal.returns-then-defines-clause-ambiguous
returns-then-defines-clause-ambiguous c = λ closed is.
    let goes = defined-goal c.args.self.now c.args.goal.now (sym c.defines.ensures ∙ c.if-defines.true) in
    absurd (defined-unambiguous c.args.self.now c.args.goal.now.predicate.alias.kind goes.taken goes.first is)

pub returns-clause-faults : goal.returns-clause-faults
returns-clause-faults c = λ closed _. c.normalizes_to_response.ensures.faults closed

pub returns-then-defines-clause-faults : goal.returns-then-defines-clause-faults
returns-then-defines-clause-faults c = λ closed other. absurd (cc (sym other ∙ sym c.defines.ensures ∙ c.if-defines.true))
