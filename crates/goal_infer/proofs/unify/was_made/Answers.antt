use Rattle.std.proofs.Common.{rules, ◌∙◌, ap, sym}
use Rattle.std.specs.Prelude.{slice_get}
use Rattle.goal_terms.specs.NodeTests.{same_var_kind}
use Rattle.goal_infer.proofs.UnifyLemmas.{made-get, made-beyond}
use Rattle.goal_infer.proofs.unify.was_made.Goals as goal

pub returns-then-place-len : goal.returns-then-place-len
returns-then-place-len c = made-beyond c.args.state.now c.args.variable (search rules)

pub returns : goal.returns
returns c =
    c.same_kind.ensures ∙ ap (same_var_kind c.variable.result.kind) c.kind.ensures
    ∙ made-get c.args.state.now c.args.variable c.variable.result (ap (slice_get c.args.state.now.variables) (sym c.number-place.ensures) ∙ c.variable.ensures)
