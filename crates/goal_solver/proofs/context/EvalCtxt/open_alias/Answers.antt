use Rattle.std.proofs.Common.{◌∙◌, true, false, ap}
use Rattle.goal_interner.specs.TableMeaning.{tree_at}
use Rattle.goal_lists.specs.Interned.{erased_at}
use Rattle.goal_solver.specs.HeadForms.{bound_term}
use Rattle.goal_solver.specs.State.{State}
use Rattle.goal_solver.proofs.OpenFormLemmas.{alias-told, open-alias_term, open-told}
use Rattle.goal_solver.proofs.context.EvalCtxt.open_alias.Goals as goal

pub into_alias-requires : goal.into_alias-requires
into_alias-requires c =
    open-alias_term c.bound_form.new.self.terms c.in-Ok.form c.args.environment.now c.in-Ok-to_term.copy c.is_open_alias.result c.is_open_alias.ensures c.if-not-is_open_alias.false (c.in-Ok-to_term.ensures ∙ ap (λ (s : State). tree_at s.terms c.in-Ok.form) c.self.view_is)

pub returns-then-not-is_open_alias-clause-opens : goal.returns-then-not-is_open_alias-clause-opens
returns-then-not-is_open_alias-clause-opens c =
    open-told (bound_term c.args.self.now c.args.term.now) (erased_at c.bound_form.new.self.terms c.in-Ok.form) c.args.environment.now c.is_open_alias.result false c.in-Ok.ensures.tree c.is_open_alias.ensures c.if-not-is_open_alias.true

pub returns-clause-opens : goal.returns-clause-opens
returns-clause-opens c =
    open-told (bound_term c.args.self.now c.args.term.now) (erased_at c.bound_form.new.self.terms c.in-Ok.form) c.args.environment.now c.is_open_alias.result true c.in-Ok.ensures.tree c.is_open_alias.ensures c.if-not-is_open_alias.false

pub returns-clause-alias : goal.returns-clause-alias
returns-clause-alias c =
    alias-told (bound_term c.args.self.now c.args.term.now) c.bound_form.new.self.terms c.in-Ok.form c.in-Ok-to_term.copy c.into_alias.result c.in-Ok.ensures.tree (c.in-Ok-to_term.ensures ∙ ap (λ (s : State). tree_at s.terms c.in-Ok.form) c.self.view_is) c.into_alias.ensures
