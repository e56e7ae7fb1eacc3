use Rattle.std.proofs.Common.{rules, ◌≡◌, List, [], ◌∷◌, ◌++◌, Some, refl, ap, ◌∙◌, subst}
use Rattle.std.specs.Prelude.{slice_get}
use Rattle.goal_terms.specs.declared.answers.OpaqueTypeKey.{OpaqueTypeKey}
use Rattle.goal_terms.specs.declared.terms.Ty.{Ty}
use Rattle.goal_solver.specs.Added.{IsEarlierType}
use Rattle.goal_solver.specs.State.{State}
use Rattle.goal_solver.proofs.GoingBackLemmas.{goes_back-same, goes_back-when_same, goes_back-when_entry}
use Rattle.goal_solver.proofs.StoredLemmas.{place-contains, keys-pushed}
use Rattle.goal_solver.proofs.context.EvalCtxt.register_hidden_type_in_storage.Goals as goal

pub returns-in-Err-clause-goes_back : goal.returns-in-Err-clause-goes_back
returns-in-Err-clause-goes_back c = goes_back-same c.args.self.now

pub returns-in-Ok-Some-clause-goes_back : goal.returns-in-Ok-Some-clause-goes_back
returns-in-Ok-Some-clause-goes_back c = goes_back-same c.args.self.now

pub returns-in-Ok-Some-clause-entered : goal.returns-in-Ok-Some-clause-entered
returns-in-Ok-Some-clause-entered c = (
  subst (λ (es : List (OpaqueTypeKey × Ty)). IsEarlierType c.args.key es (Some c.in-Ok-Some.earlier)) (c.as_slice.ensures.value ∙ ap (λ (s : State). s.storage) c.self.view_is)
      (rw c.in-Ok-Some.field-0-is at c.in-Ok-Some.ensures),
  refl,
)

pub returns-then-is_err-clause-goes_back : goal.returns-then-is_err-clause-goes_back
returns-then-is_err-clause-goes_back c = goes_back-when_same c.args.self.now _ (search rules)

pub returns-else-is_err-clause-one_type : goal.returns-else-is_err-clause-one_type
returns-else-is_err-clause-one_type c =
    let absent = rw c.in-Ok-None.field-0-is at c.in-Ok-None.ensures in
    keys-pushed c.self.inside.storage.items c.push.new.self.items (c.args.key, c.args.hidden) (search rules)
    (λ i d p r. absent d (place-contains c.as_slice.result.now i d (ap (λ (es : List (OpaqueTypeKey × Ty)). slice_get es i) c.as_slice.ensures.value ∙ p), r)) c.self.invariant.2

pub invariant_of-self-in-Ok-None : goal.invariant_of-self-in-Ok-None
invariant_of-self-in-Ok-None c = (c.self.invariant.0, c.self.invariant.1, returns-else-is_err-clause-one_type c, c.self.invariant.3, c.self.invariant.4, c.self.invariant.5, c.self.invariant.6)

pub returns-else-is_err-clause-goes_back : goal.returns-else-is_err-clause-goes_back
returns-else-is_err-clause-goes_back c =
    let pushed : c.push.new.self.items ≡ c.self.inside.storage.items ++ (c.args.key, c.args.hidden) ∷ [] = search rules in
    goes_back-when_entry c.args.self.now _ (c.args.key, c.args.hidden) (search (rules, pushed))
