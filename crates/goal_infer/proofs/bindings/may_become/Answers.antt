use Rattle.std.proofs.Common.{sym, ◌∙◌}
use Rattle.std.proofs.lemmas.Bool.{false≢true}
use Rattle.goal_infer.proofs.BindingLemmas.{takes-rooted}
use Rattle.goal_infer.proofs.bindings.may_become.Goals as goal

pub returns-then-not-was_made : goal.returns-then-not-was_made
returns-then-not-was_made c = (λ h. absurd (false≢true h), λ h. absurd (false≢true (sym c.if-not-was_made.true ∙ c.was_made.ensures ∙ h.made)))

pub returns-then-not-may_be : goal.returns-then-not-may_be
returns-then-not-may_be c = (
  λ h. absurd (false≢true h),
  λ h. absurd (false≢true (sym c.if-not-may_be.true ∙ c.may_be.ensures
      ∙ sym (takes-rooted c.args.table.now c.args.state.now c.requires.solved c.args.variable c.args.id c.resolve-root.result c.node.result c.resolve-root.ensures.unbound c.resolve-root.ensures.same c.node.ensures.top)
      ∙ h.takes)),
)

pub returns : goal.returns
returns c = (
  λ h. record {
    made = sym c.was_made.ensures ∙ c.if-not-was_made.false;
    takes = takes-rooted c.args.table.now c.args.state.now c.requires.solved c.args.variable c.args.id c.resolve-root.result c.node.result c.resolve-root.ensures.unbound c.resolve-root.ensures.same c.node.ensures.top
        ∙ sym c.may_be.ensures ∙ c.if-not-may_be.false;
    free = sym c.occurs.ensures ∙ c.is_nowhere.ensures.0 h;
  },
  λ h. c.is_nowhere.ensures.1 (c.occurs.ensures ∙ h.free),
)
