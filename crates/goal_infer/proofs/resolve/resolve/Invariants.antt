use Rattle.std.proofs.Common.{◌≡◌, ◌<◌, length, None}
use Rattle.goal_terms.specs.Tree.{node_of}
use Rattle.goal_interner.specs.TableMeaning.{tree_at}
use Rattle.goal_infer.specs.Resolution.{binding_at, resolved}
use Rattle.goal_infer.proofs.ResolveLemmas.{IsNear}
use Rattle.goal_infer.proofs.resolve.resolve.Given as goal

abbrev pub invariant-loop : goal.invariant-loop
invariant-loop l = record {
  within : l.current.0 < length l.table;
  same : resolved l.table l.state l.current ≡ resolved l.table l.state l.fn.id;
  itself : binding_at l.state (node_of (tree_at l.table l.fn.id)) ≡ None → l.current ≡ l.fn.id;
  near : IsNear l.table l.state l.current l.counter;
}
