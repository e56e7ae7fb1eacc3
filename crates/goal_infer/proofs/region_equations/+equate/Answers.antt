use Rattle.std.proofs.Common.{◌<◌, ◌≤◌, ◌+◌, length, get_or, refl, ap, ◌∙◌, arith}
use Rattle.std.proofs.lemmas.List.Elements.{All-get_or}
use Rattle.goal_terms.specs.Regions.{region_of}
use Rattle.goal_interner.specs.TableMeaning.{tree_at}
use Rattle.goal_terms.specs.Tree.{node_of}
use Rattle.goal_interner.specs.declared.term_nodes.TermId.{TermId}
use Rattle.goal_infer.specs.RegionEquations.{own_equation, equated_in, with_regions}
use Rattle.goal_infer.proofs.RegionStateLemmas.{adds-through}
use Rattle.goal_infer.proofs.RegionEquationLemmas.{scopes-left, scopes-deep, equated-started, equated-more, equated-done, tops-identical, parts-counted, parts-identical}
use Rattle.goal_infer.proofs.region_equations.+equate.Goals as goal

pub loop-i-init : goal.loop-i-init
loop-i-init t c = record {
  scopes = refl;
  equated = equated-started c.args.table.now c.args.scopes.now (tree_at c.args.table.now c.args.left) (tree_at c.args.table.now c.args.right)
      c.parts-parts.result.now c.parts-others.result.now c.args.state.now c.equate_own.new.state c.enter.new.state c.enter.new.self
      (tops-identical c.args.table.now c.args.left c.args.right c.requires.identical)
      c.parts-parts.ensures.trees c.parts-others.ensures.trees
      (c.in_ok-equate_own.ensures.added
      ∙ ap (λ n. with_regions 0 (own_equation c.args.scopes.now (region_of n) (region_of c.node-2.result)) c.args.state.now) c.node.ensures.top
      ∙ ap (λ n. with_regions 0 (own_equation c.args.scopes.now (region_of (node_of (tree_at c.args.table.now c.args.left))) (region_of n)) c.args.state.now) c.node-2.ensures.top)
      c.in_ok-enter.ensures.made c.in_ok-enter.ensures.entered;
  adds = adds-through c.args.state.now c.equate_own.new.state c.enter.new.state c.in_ok-equate_own.ensures.adds c.in_ok-enter.ensures.adds;
}

pub bounds-others-i : goal.bounds-others-i
bounds-others-i t c =
    omega (
      arith,
      c.loop-i-test.true,
      parts-counted c.args.table.now c.args.left c.args.right c.parts-parts.result.now c.parts-others.result.now c.requires.identical
          c.parts-parts.ensures.trees c.parts-others.ensures.trees,
    )

pub equate-requires : goal.equate-requires
equate-requires t c =
    let first : c.loop-i.i < length c.parts-parts.result.now = c.loop-i-test.true in
    let second : c.loop-i.i < length c.parts-others.result.now =
    omega (
      arith,
      first,
      parts-counted c.args.table.now c.args.left c.args.right c.parts-parts.result.now c.parts-others.result.now c.requires.identical
          c.parts-parts.ensures.trees c.parts-others.ensures.trees,
    ) in
    let part : TermId = get_or c.parts-parts.result.now c.loop-i.i (record { 0 = 0 }) in
    let other : TermId = get_or c.parts-others.result.now c.loop-i.i (record { 0 = 0 }) in
    let earlier : part.0 < c.args.left.0 =
    All-get_or (λ i. i.0 < c.args.left.0) c.parts-parts.result.now c.loop-i.i (record { 0 = 0 }) first c.parts-parts.ensures.earlier in
    let before : other.0 < c.args.right.0 =
    All-get_or (λ i. i.0 < c.args.right.0) c.parts-others.result.now c.loop-i.i (record { 0 = 0 }) second c.parts-others.ensures.earlier in
    let deep : c.loop-i.scopes.depth ≤ c.args.scopes.now.depth + 1 =
    scopes-deep _ _ _ c.args.scopes.now c.loop-i.scopes c.enter.new.self c.loop-i.invariant.scopes c.in_ok-enter.ensures.entered in (
      omega (arith, earlier, c.decreases),
      (
        omega (arith, earlier, c.requires.first),
        (
          omega (arith, before, c.requires.second),
          (
            parts-identical c.args.table.now c.args.left c.args.right c.parts-parts.result.now c.parts-others.result.now c.loop-i.i (record { 0 = 0 }) (record { 0 = 0 })
                c.requires.identical c.parts-parts.ensures.trees c.parts-others.ensures.trees first second,
            omega (arith, earlier, deep, c.requires.deep),
          ),
        ),
      ),
    )

pub returns-in_err-equate-clause-adds : goal.returns-in_err-equate-clause-adds
returns-in_err-equate-clause-adds t c =
    adds-through c.args.state.now c.loop-i.state c.equate.new.state c.loop-i.invariant.adds c.in_err-equate.ensures.adds

pub loop-i-preserved : goal.loop-i-preserved
loop-i-preserved t c =
    let first : c.loop-i.i < length c.parts-parts.result.now = c.loop-i-test.true in
    let second : c.loop-i.i < length c.parts-others.result.now =
    omega (
      arith,
      first,
      parts-counted c.args.table.now c.args.left c.args.right c.parts-parts.result.now c.parts-others.result.now c.requires.identical
          c.parts-parts.ensures.trees c.parts-others.ensures.trees,
    ) in
    record {
      scopes = c.in_ok-equate.ensures.scopes ∙ c.loop-i.invariant.scopes;
      equated = equated-more c.args.table.now c.enter.new.self c.parts-parts.result.now c.parts-others.result.now c.loop-i.i (record { 0 = 0 }) (record { 0 = 0 })
          c.loop-i.state c.equate.new.state _ first second
          (c.in_ok-equate.ensures.listed
          ∙ ap (λ s. equated_in s (tree_at c.args.table.now (get_or c.parts-parts.result.now c.loop-i.i (record { 0 = 0 })))
          (tree_at c.args.table.now (get_or c.parts-others.result.now c.loop-i.i (record { 0 = 0 }))) c.loop-i.state) c.loop-i.invariant.scopes)
          c.loop-i.invariant.equated;
      adds = adds-through c.args.state.now c.loop-i.state c.equate.new.state c.loop-i.invariant.adds c.in_ok-equate.ensures.adds;
    }

pub returns-clause-listed : goal.returns-clause-listed
returns-clause-listed t c =
    equated-done c.args.table.now c.enter.new.self c.parts-parts.result.now c.parts-others.result.now c.loop-i.i c.loop-i.state _ (omega arith) c.loop-i.invariant.equated

pub returns-clause-scopes : goal.returns-clause-scopes
returns-clause-scopes t c =
    scopes-left _ c.len-left_count.result c.len-right_count.result (tree_at c.args.table.now c.args.left) (tree_at c.args.table.now c.args.right)
    c.args.scopes.now _ _ c.enter.new.self c.truncate.new.self.items c.truncate-2.new.self.items
    c.scopes.view_is (c.len-left_count.ensures ∙ c.scopes.inside.left.ok.0) (c.len-right_count.ensures ∙ c.scopes.inside.right.ok.0) (c.scopes-2.view_is ∙ c.loop-i.invariant.scopes) c.in_ok-enter.ensures.entered
    c.truncate.ensures.items c.truncate-2.ensures.items
