use Rattle.std.proofs.Common.{◌≡◌, ◌<◌, length, Some, sym, ◌∙◌, subst, arith, below_more}
use Rattle.std.specs.Prelude.{slice_get}
use Rattle.std.proofs.lemmas.Bool.{false≢true}
use Rattle.goal_infer.proofs.UndoLemmas.{item-within}
use Rattle.goal_solver.specs.Stored.{IsSameKey}
use Rattle.goal_solver.proofs.StoredLemmas.{contains-place, some-is}
use Rattle.goal_solver.proofs.context.storage.place_of_key.Goals as goal

pub returns-then-is_same_key-clause-found : goal.returns-then-is_same_key-clause-found
returns-then-is_same_key-clause-found c = (
  c.index-entries-i.result,
  contains-place c.args.entries.now c.loop-i.i c.index-entries-i.result (omega arith) (sym c.index-entries-i.is),
  subst (λ z. IsSameKey z.0 c.args.key.now) (sym c.index-entries-i.is) (c.is_same_key.ensures.0 c.if-is_same_key.true),
)

pub loop-i-preserved : goal.loop-i-preserved
loop-i-preserved c =
    below_more _ _ c.loop-i.invariant
    (λ e p r. let here : slice_get c.args.entries.now c.loop-i.i ≡ Some c.index-entries-i.result = contains-place c.args.entries.now c.loop-i.i c.index-entries-i.result (omega arith) (sym c.index-entries-i.is) in
    false≢true (sym c.if-is_same_key.false ∙ c.is_same_key.ensures.1 (subst (λ z. IsSameKey z.0 c.args.key.now) (some-is _ _ (sym p ∙ here) ∙ c.index-entries-i.is) r)))

pub returns-clause-absent : goal.returns-clause-absent
returns-clause-absent c i e p r =
    let within : i < length c.args.entries.now = item-within c.args.entries.now i e p in
    c.loop-i.invariant i (omega arith) e p r
