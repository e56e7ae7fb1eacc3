use Rattle.std.proofs.Common.{rules, Some, refl}
use Rattle.goal_infer.proofs.UndoLemmas.{goes_back-when_same, goes_back-when_bound, item-within, bound-state}
use Rattle.goal_infer.proofs.state.InferState.bind.Goals as goal

-- src/state.rt:103:13
pub returns-then-is_err-clause-goes_back : goal.returns-then-is_err-clause-goes_back
returns-then-is_err-clause-goes_back c = goes_back-when_same c.args.self.now _ (search rules)

-- src/state.rt:105:9
pub index_mut-requires : goal.index_mut-requires
index_mut-requires c = search (rules, item-within c.args.self.now.variables c.args.number c.requires.unbound.0 c.requires.unbound.1)

-- src/state.rt:96:5
pub returns-clause-bound : goal.returns-clause-bound
returns-clause-bound c v e =
    bound-state c.args.self.now c.self.inside.variables.items c.push.new.self.items c.self.inside.equations.items c.args.number v c.index_mut.result.now (Some c.args.term)
    (search rules) e c.index_mut.ensures.value (search rules) (search rules)

-- src/state.rt:96:5
pub returns-clause-goes_back : goal.returns-clause-goes_back
returns-clause-goes_back c =
    goes_back-when_bound c.args.self.now _ c.args.number c.requires.unbound.0 (record { kind = c.requires.unbound.0.kind; binding = Some c.args.term })
    c.requires.unbound.1 c.requires.unbound.2 refl
    (bound-state c.args.self.now c.self.inside.variables.items c.push.new.self.items c.self.inside.equations.items c.args.number c.requires.unbound.0 c.index_mut.result.now (Some c.args.term)
    (search rules) c.requires.unbound.1 c.index_mut.ensures.value (search rules) (search rules))
