use Rattle.std.proofs.Common.{rules, ◌≡◌, ◌++◌, ◌∷◌, [], sym, subst}
use Rattle.goal_solver.specs.State.{State}
use Rattle.goal_solver.specs.Stored.{HasOneTypeAKey}
use Rattle.goal_solver.proofs.CloneLemmas.{key-clone}
use Rattle.goal_solver.proofs.GoingBackLemmas.{goes_back-same, goes_back-when_same, goes_back-when_entry}
use Rattle.goal_solver.proofs.ResponseLemmas.{entry-pushed}
use Rattle.goal_solver.proofs.context.EvalCtxt.enter_type.Goals as goal

pub returns-in_default-clause-goes_back : goal.returns-in_default-clause-goes_back
returns-in_default-clause-goes_back c = goes_back-same c.args.self.now

pub returns-in_default-clone-clause-goes_back : goal.returns-in_default-clone-clause-goes_back
returns-in_default-clone-clause-goes_back c = goes_back-same c.args.self.now

pub returns-then-is_err-clause-goes_back : goal.returns-then-is_err-clause-goes_back
returns-then-is_err-clause-goes_back c = goes_back-when_same c.args.self.now _ (search rules)

pub invariant_of-self-2 : goal.invariant_of-self-2
invariant_of-self-2 c =
    let pushed : c.push.new.self.items ≡ c.self.inside.storage.items ++ (c.in-Ok.key, c.in-Ok-clone.hidden) ∷ [] = search rules in (
      c.self.invariant.0,
      c.self.invariant.1,
      entry-pushed c.self.inside.storage.items c.push.new.self.items (c.in-Ok.key, c.in-Ok-clone.hidden) c.args.entry.now pushed
          (key-clone c.args.entry.now.0 c.in-Ok.key c.in-Ok.ensures.cases, c.in-Ok-clone.ensures.cases)
          (subst (λ (s : State). HasOneTypeAKey (s.storage ++ c.args.entry.now ∷ [])) (sym c.self.view_is) c.requires),
      c.self.invariant.3,
      c.self.invariant.4,
      c.self.invariant.5,
      c.self.invariant.6,
    )

pub returns-clause-entered : goal.returns-clause-entered
returns-clause-entered c =
    let pushed : c.push.new.self.items ≡ c.self.inside.storage.items ++ (c.in-Ok.key, c.in-Ok-clone.hidden) ∷ [] = search rules in
    ((c.in-Ok.key, c.in-Ok-clone.hidden), (key-clone c.args.entry.now.0 c.in-Ok.key c.in-Ok.ensures.cases, c.in-Ok-clone.ensures.cases), search (rules, pushed))

pub returns-clause-goes_back : goal.returns-clause-goes_back
returns-clause-goes_back c =
    let pushed : c.push.new.self.items ≡ c.self.inside.storage.items ++ (c.in-Ok.key, c.in-Ok-clone.hidden) ∷ [] = search rules in
    goes_back-when_entry c.args.self.now _ (c.in-Ok.key, c.in-Ok-clone.hidden) (search (rules, pushed))
