use Rattle.std.proofs.Common.{◌≡◌, refl, sym, subst}
use Rattle.goal_terms.specs.Erased.{erased}
use Rattle.goal_terms.specs.Sorts.{IsTerm}
use Rattle.goal_terms.specs.TreeOf.{tree_of_term}
use Rattle.goal_interner.specs.TableMeaning.{tree_at}
use Rattle.goal_terms.proofs.SortLemmas.{term_sort}
use Rattle.goal_infer.specs.Replacement.{replaced}
use Rattle.goal_infer.specs.Resolution.{resolution}
use Rattle.goal_infer.proofs.SolvedLemmas.{solved-kept}
use Rattle.goal_solver.specs.State.{State}
use Rattle.goal_solver.proofs.GoingBackLemmas.{solved-grown, solved-grown_twice}
use Rattle.goal_solver.proofs.FormAnswerLemmas.{followed-term}
use Rattle.goal_solver.proofs.SinceMarkLemmas.{bound-here}
use Rattle.goal_solver.proofs.context.EvalCtxt.bound_form.Goals as goal

pub invariant_of-self : goal.invariant_of-self
invariant_of-self c = (
  c.self.invariant.0,
  c.self.invariant.1,
  c.self.invariant.2,
  c.self.invariant.3,
  c.self.invariant.4,
  solved-grown c.self.inside.terms c.intern.new.self c.self.inside.inference c.intern.ensures.kept c.self.invariant.5,
  c.self.invariant.6,
)

pub follow-requires-clause-solved : goal.follow-requires-clause-solved
follow-requires-clause-solved c = solved-kept c.self.inside.terms c.intern.new.self c.self.inside.inference c.intern.ensures.kept c.self.invariant.5

pub invariant_of-self-in_err-follow : goal.invariant_of-self-in_err-follow
invariant_of-self-in_err-follow c = (
  c.self.invariant.0,
  c.self.invariant.1,
  c.self.invariant.2,
  c.self.invariant.3,
  c.self.invariant.4,
  solved-grown_twice c.self.inside.terms c.intern.new.self c.follow.new.table c.self.inside.inference c.intern.ensures.kept c.follow.ensures.kept c.self.invariant.5,
  c.self.invariant.6,
)

pub invariant_of-self-2 : goal.invariant_of-self-2
invariant_of-self-2 c = (
  c.self.invariant.0,
  c.self.invariant.1,
  c.self.invariant.2,
  c.self.invariant.3,
  c.self.invariant.4,
  solved-grown_twice c.self.inside.terms c.intern.new.self c.follow.new.table c.self.inside.inference c.intern.ensures.kept c.follow.ensures.kept c.self.invariant.5,
  c.self.invariant.6,
)

pub returns-clause-term : goal.returns-clause-term
returns-clause-term c =
    followed-term c.intern.new.self c.follow.new.table c.in_ok-id.id c.in_ok-follow.field-0 c.in_ok-follow.ensures.within c.in_ok-follow.ensures.sort
    (subst IsTerm (sym c.in_ok-id.ensures.tree) (term_sort c.args.term.now))

pub returns-clause-tree : goal.returns-clause-tree
returns-clause-tree c =
    subst (λ (s : State). erased (tree_at c.follow.new.table c.in_ok-follow.field-0) ≡ replaced (resolution s.terms s.inference) (erased (tree_of_term c.args.term.now))) c.self.view_is
    (bound-here c.self.inside.terms c.intern.new.self c.follow.new.table c.self.inside.inference c.in_ok-id.id c.in_ok-follow.field-0 (tree_of_term c.args.term.now) (tree_at c.follow.new.table c.in_ok-follow.field-0)
    c.intern.ensures.kept c.self.invariant.5 c.in_ok-id.ensures.tree c.in_ok-follow.ensures.tree refl)
