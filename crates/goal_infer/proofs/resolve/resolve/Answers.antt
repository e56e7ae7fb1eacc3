use Rattle.std.proofs.Common.{◌≡◌, Some, None, ◌∙◌, ap, arith}
use Rattle.goal_terms.specs.Tree.{node_of}
use Rattle.goal_interner.specs.TableMeaning.{tree_at}
use Rattle.goal_infer.specs.Resolution.{binding_at}
use Rattle.goal_infer.proofs.ResolveLemmas.{near-next, near-last, next-same, next-within}
use Rattle.goal_infer.proofs.resolve.resolve.Goals as goal

pub loop-preserved : goal.loop-preserved
loop-preserved c =
    let found : Some c.in-Some.next ≡ binding_at c.args.state.now (node_of (tree_at c.args.table.now c.loop.current)) =
    c.in-Some.ensures ∙ ap (binding_at c.args.state.now) c.node.ensures.top in
    record {
      within = next-within c.args.table.now c.args.state.now c.requires.solved c.loop.current c.in-Some.next found;
      same = next-same c.args.table.now c.args.state.now c.requires.solved c.loop.current c.in-Some.next found ∙ c.loop.invariant.same;
      itself = λ e.
          let p : Some c.in-Some.next ≡ None =
          found ∙ ap (λ i. binding_at c.args.state.now (node_of (tree_at c.args.table.now i))) (c.loop.invariant.itself e) ∙ e in
          absurd (cc);
      near = near-next c.args.table.now c.args.state.now c.loop.current c.in-Some.next c.loop.counter c.loop.invariant.near found;
    }

pub returns-clause-unbound : goal.returns-clause-unbound
returns-clause-unbound c =
    near-last c.args.table.now c.args.state.now c.requires.solved c.loop.current c.loop.counter (omega arith) c.loop.invariant.near
