use Rattle.std.proofs.Common.{rules, ◌≡◌, ◌++◌, List, [], subst}
use Rattle.goal_terms.specs.TreeOf.{trees_of}
use Rattle.goal_terms.specs.declared.predicates.Clause.{Clause}
use Rattle.goal_eval.specs.ErasedArgs.{erased_args}
use Rattle.goal_solver.specs.Answers.{IsOwedBeyond, level_over}
use Rattle.goal_solver.specs.State.{State}
use Rattle.goal_solver.specs.TranslatedArgs.{own_after, bound_ref, AreClosedIn, IsTranslatedBy}
use Rattle.goal_solver.proofs.TranslatedAnswers.{own-translated}
use Rattle.goal_solver.proofs.context.EvalCtxt.translated_to.Goals as goal

pub returns-clause-sound : goal.returns-clause-sound
returns-clause-sound c = λ m owed closed.
    let trees : trees_of c.in_ok-args.args.items ≡ trees_of c.in_ok-first.first.items ++ own_after c.args.trait_ref.now c.args.goal.now = search rules in
    own-translated (level_over c.args.self.now m c.args.goal.now.param_env.items) c.args.other.now (bound_ref c.args.self.now c.args.trait_ref.now) c.in_ok-first.first.items c.in_ok-args.args.items
    (own_after c.args.trait_ref.now c.args.goal.now) c.in_ok-first.certainty trees
    (subst (λ (env : List Clause). AreClosedIn env (bound_ref c.args.self.now c.args.trait_ref.now) → IsTranslatedBy (level_over c.args.self.now m env) c.args.other.now (bound_ref c.args.self.now c.args.trait_ref.now) [] (erased_args c.in_ok-first.first.items) c.in_ok-first.certainty)
    c.as_slice-environment.ensures.value
    (c.in_ok-first.ensures.sound m (subst (λ (s : State). IsOwedBeyond s m) c.in_ok-add_clauses.ensures.added.2 owed)) closed)
