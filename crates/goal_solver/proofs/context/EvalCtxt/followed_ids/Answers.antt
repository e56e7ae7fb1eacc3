use Rattle.std.proofs.Common.{◌≡◌, List, map, length, Result, Ok, Err, Vec, sym, subst}
use Rattle.std.specs.Prelude.{IfOk}
use Rattle.std.specs.Global.{Global}
use Rattle.goal_interner.specs.TableMeaning.{AreBelow}
use Rattle.goal_terms.specs.Tree.{Tree}
use Rattle.goal_interner.specs.declared.term_nodes.OutOfMemory.{OutOfMemory}
use Rattle.goal_interner.specs.declared.term_nodes.TermId.{TermId}
use Rattle.goal_infer.specs.Following.{sort_at}
use Rattle.goal_infer.specs.Resolution.{resolved, term_at}
use Rattle.goal_lists.specs.Interned.{AreIn, erased_all}
use Rattle.goal_lists.proofs.UnderLemmas.{are_in-below}
use Rattle.goal_solver.specs.Relating.{bound_at}
use Rattle.goal_solver.specs.State.{State}
use Rattle.goal_solver.proofs.GoalOutcomeLemmas.{followed-all_in}
use Rattle.goal_solver.proofs.GoingBackLemmas.{solved-grown}
use Rattle.goal_solver.proofs.RelatedLemmas.{followed-bound}
use Rattle.goal_solver.proofs.context.EvalCtxt.followed_ids.Goals as goal

all_in : (T U : List Tree) (ids : List TermId) (r : Result (Vec TermId Global) OutOfMemory) → AreIn T ids → IfOk r (λ rs. AreBelow (length U) rs.items) → IfOk r (λ rs. map (sort_at U) rs.items ≡ map (sort_at T) ids) →
    IfOk r (λ rs. AreIn U rs.items)
all_in T U ids (Ok rs) h b e = followed-all_in T U ids rs.items h b e
all_in T U ids (Err x) h b e = tt

all_as_bound : (o s : State) → o ≡ s → (U : List Tree) (ids : List TermId) (r : Result (Vec TermId Global) OutOfMemory) → IfOk r (λ rs. map (term_at U) rs.items ≡ map (resolved o.terms o.inference) ids) →
    IfOk r (λ rs. erased_all U rs.items ≡ bound_at s ids)
all_as_bound o s is U ids (Ok rs) e = subst (λ (x : State). erased_all U rs.items ≡ bound_at x ids) is (followed-bound o U ids rs.items e)
all_as_bound o s is U ids (Err x) e = tt

pub follow_all-requires-clause-within : goal.follow_all-requires-clause-within
follow_all-requires-clause-within c = are_in-below c.self.inside.terms c.args.ids.now (subst (λ (s : State). AreIn s.terms c.args.ids.now) (sym c.self.view_is) c.requires)

pub invariant_of-self : goal.invariant_of-self
invariant_of-self c = (
  c.self.invariant.0,
  c.self.invariant.1,
  c.self.invariant.2,
  c.self.invariant.3,
  c.self.invariant.4,
  solved-grown c.self.inside.terms c.follow_all.new.table c.self.inside.inference c.follow_all.ensures.kept c.self.invariant.5,
  c.self.invariant.6,
)

pub returns-clause-within : goal.returns-clause-within
returns-clause-within c =
    all_in c.self.inside.terms c.follow_all.new.table c.args.ids.now c.follow_all.result (subst (λ (s : State). AreIn s.terms c.args.ids.now) (sym c.self.view_is) c.requires) c.follow_all.ensures.within c.follow_all.ensures.sorts

pub returns-clause-trees : goal.returns-clause-trees
returns-clause-trees c = all_as_bound _ c.args.self.now c.self.view_is c.follow_all.new.table c.args.ids.now c.follow_all.result c.follow_all.ensures.trees
