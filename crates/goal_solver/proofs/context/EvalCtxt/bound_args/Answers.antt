use Rattle.std.proofs.Common.{◌≡◌, map, ap, subst, ◌∙◌}
use Rattle.goal_infer.specs.Following.{sort_at}
use Rattle.goal_infer.specs.Resolution.{resolved}
use Rattle.goal_infer.proofs.SolvedLemmas.{solved-kept}
use Rattle.goal_lists.specs.Interned.{erased_all}
use Rattle.goal_eval.specs.ErasedArgs.{erased_args}
use Rattle.goal_solver.specs.Relating.{all_bound}
use Rattle.goal_solver.specs.State.{State}
use Rattle.goal_solver.proofs.GoalOutcomeLemmas.{followed-all_in}
use Rattle.goal_solver.proofs.GoingBackLemmas.{solved-grown, solved-grown_twice}
use Rattle.goal_solver.proofs.TranslatedLemmas.{all_bound-here}
use Rattle.goal_solver.proofs.context.EvalCtxt.bound_args.Goals as goal

pub invariant_of-self : goal.invariant_of-self
invariant_of-self c = (
  c.self.invariant.0,
  c.self.invariant.1,
  c.self.invariant.2,
  c.self.invariant.3,
  c.self.invariant.4,
  solved-grown c.self.inside.terms c.intern_args.new.terms c.self.inside.inference c.intern_args.ensures.kept c.self.invariant.5,
  c.self.invariant.6,
)

pub follow_all-requires-clause-solved : goal.follow_all-requires-clause-solved
follow_all-requires-clause-solved c = solved-kept c.self.inside.terms c.intern_args.new.terms c.self.inside.inference c.intern_args.ensures.kept c.self.invariant.5

pub invariant_of-self-in_default-follow_all : goal.invariant_of-self-in_default-follow_all
invariant_of-self-in_default-follow_all c = (
  c.self.invariant.0,
  c.self.invariant.1,
  c.self.invariant.2,
  c.self.invariant.3,
  c.self.invariant.4,
  solved-grown_twice c.self.inside.terms c.intern_args.new.terms c.follow_all.new.table c.self.inside.inference c.intern_args.ensures.kept c.follow_all.ensures.kept c.self.invariant.5,
  c.self.invariant.6,
)

pub invariant_of-self-2 : goal.invariant_of-self-2
invariant_of-self-2 c = (
  c.self.invariant.0,
  c.self.invariant.1,
  c.self.invariant.2,
  c.self.invariant.3,
  c.self.invariant.4,
  solved-grown_twice c.self.inside.terms c.intern_args.new.terms c.follow_all.new.table c.self.inside.inference c.intern_args.ensures.kept c.follow_all.ensures.kept c.self.invariant.5,
  c.self.invariant.6,
)

pub returns-clause-within : goal.returns-clause-within
returns-clause-within c =
    followed-all_in c.intern_args.new.terms c.follow_all.new.table c.in-Ok.ids.items c.in-Ok-follow_all.bound.items
    c.in-Ok.ensures.within c.in-Ok-follow_all.ensures.within
    (c.in-Ok-follow_all.ensures.sorts ∙ ap (map (sort_at c.intern_args.new.terms)) c.deref.ensures.value)

pub returns-clause-trees : goal.returns-clause-trees
returns-clause-trees c =
    subst (λ (s : State). erased_all c.follow_all.new.table c.in-Ok-follow_all.bound.items ≡ all_bound s (erased_args c.args.args.now)) c.self.view_is
    (all_bound-here c.self.inside.terms c.intern_args.new.terms c.follow_all.new.table c.self.inside.inference c.in-Ok.ids.items c.in-Ok-follow_all.bound.items _
    c.intern_args.ensures.kept c.self.invariant.5 c.in-Ok.ensures.exact
    (c.in-Ok-follow_all.ensures.trees ∙ ap (map (resolved c.intern_args.new.terms c.self.inside.inference)) c.deref.ensures.value))
