use Rattle.std.proofs.Common.{◌∙◌}
use Rattle.goal_terms.specs.declared.terms.Term.TheVariants as term
use Rattle.goal_terms.proofs.TreeLemmas.{tree_of_term-Ty}
use Rattle.goal_solver.proofs.GoingBackLemmas.{goes_back-grown}
use Rattle.goal_solver.proofs.OpenFormLemmas.{restored-grown}
use Rattle.goal_solver.proofs.OpenedSelfLemmas.{asks-alias, asks-by, asks-not}
use Rattle.goal_solver.proofs.context.EvalCtxt.open_self.Goals as goal

pub returns-clause-none : goal.returns-clause-none
returns-clause-none g c = asks-not g.G.GoalKind.words.self_type c.args.goal.now c.args.self.now c.in-Some.self_ty.now (term.Ty c.in_ok-copied_type.field-0) c.deref.result.now c.open_alias.result c.in-Some.ensures (tree_of_term-Ty c.in_ok-copied_type.field-0 ∙ c.in_ok-copied_type.ensures.same) c.deref.ensures.value c.open_alias.ensures.opens

pub returns-clause-asks : goal.returns-clause-asks
returns-clause-asks g c = asks-by g.G.GoalKind.words.self_type c.args.goal.now c.args.self.now c.in-Some.self_ty.now (term.Ty c.in_ok-copied_type.field-0) c.deref.result.now c.open_alias.result c.in-Some.ensures (tree_of_term-Ty c.in_ok-copied_type.field-0 ∙ c.in_ok-copied_type.ensures.same) c.deref.ensures.value c.open_alias.ensures.opens

pub returns-clause-alias : goal.returns-clause-alias
returns-clause-alias g c =
    asks-alias g.G.GoalKind.words.self_type c.args.goal.now c.args.self.now c.open_alias.new.self c.in-Some.self_ty.now (term.Ty c.in_ok-copied_type.field-0) c.deref.result.now c.open_alias.result
    (restored-grown c.args.self.now c.open_alias.new.self c.open_alias.ensures.unchanged) (goes_back-grown c.args.self.now c.open_alias.new.self c.open_alias.ensures.unchanged c.open_alias.ensures.kept)
    c.holds_together.ensures.solved c.in-Some.ensures (tree_of_term-Ty c.in_ok-copied_type.field-0 ∙ c.in_ok-copied_type.ensures.same) c.deref.ensures.value c.open_alias.ensures.opens c.open_alias.ensures.alias
