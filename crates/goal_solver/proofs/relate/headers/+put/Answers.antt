use Rattle.std.proofs.Common.{◌≡◌, ◌≤◌, ◌+◌, ◌<◌, length, get_or, refl, sym, ap, ◌∙◌, subst, arith}
use Rattle.std.proofs.lemmas.List.Elements.{All-weaker}
use Rattle.std.proofs.lemmas.Result.{IfOk-weaker}
use Rattle.goal_interner.specs.TableMeaning.{tree_at, AreBelow}
use Rattle.goal_terms.specs.Tree.{tree_size, forest}
use Rattle.goal_terms.specs.View.{tree_of_ref, trees_seen}
use Rattle.goal_interner.specs.declared.term_nodes.TermId.{TermId}
use Rattle.goal_interner.proofs.InternLemmas.{keeps-chain, keeps-refl}
use Rattle.goal_terms.proofs.SizeLemmas.{sizes, tree_size-parts}
use Rattle.goal_infer.proofs.FollowLemmas.{within-more}
use Rattle.goal_lists.proofs.AgreeLemmas.{size-among}
use Rattle.goal_solver.specs.OpenHeaders.{trees_at}
use Rattle.goal_solver.proofs.PutLemmas.{put-as_is, put-here, put-fits, put-made, put-begun, none-below, put-more, put-done, sorts-done, all_put-as_are, sorts-as_are, found-grown, index-there}
use Rattle.goal_solver.proofs.relate.headers.+put.Goals as goal

pub put_against-returns-then-not-has_alias-clause-put : goal.put_against-returns-then-not-has_alias-clause-put
put_against-returns-then-not-has_alias-clause-put t c = put-as_is _ _ _ _ _ refl

pub put_against-returns-then-same_term-clause-put : goal.put_against-returns-then-same_term-clause-put
put_against-returns-then-same_term-clause-put t c =
    put-here (tree_at c.args.terms.now c.args.found.alias) (tree_at c.args.terms.now c.args.found.form) (tree_of_ref c.args.header) (tree_at c.args.terms.now c.args.given) c.node-node.result
    c.node-node.ensures (sym c.is_entered.ensures ∙ c.if-not-is_entered.false) (c.same_term.ensures.identical.0 c.if-same_term.true)

pub put_against-returns-then-not-is_same-clause-put : goal.put_against-returns-then-not-is_same-clause-put
put_against-returns-then-not-is_same-clause-put t c = put-as_is _ _ _ _ _ refl

pub put_against-put_form-requires : goal.put_against-put_form-requires
put_against-put_form-requires t c =
    let smaller : sizes (trees_seen c.parts-2.result) + 1 ≤ tree_size (tree_of_ref c.args.header) =
    omega (arith, tree_size-parts (tree_of_ref c.args.header), ap sizes c.parts-2.ensures) in
    let copied : c.deref.result.now ≡ c.parts.result.now = c.deref.ensures.value ∙ c.in_ok-parts.ensures.items_if_clones_equal (λ x y h. h) in (
      omega (arith, smaller, c.decreases),
      (
        c.requires.found,
        subst (AreBelow (length c.args.terms.now)) (sym copied)
            (All-weaker (λ id. id.0 < c.args.given.0) (λ id. id.0 < length c.args.terms.now) (λ id h. omega (arith, c.requires.given)) c.parts.result.now c.parts.ensures.earlier),
      ),
    )

pub put_against-intern_node-requires-clause-fits : goal.put_against-intern_node-requires-clause-fits
put_against-intern_node-requires-clause-fits t c =
    put-fits c.args.terms.now c.put_form.new.terms c.args.given c.node-top.result c.parts.result.now c.deref.result.now c.in_ok-made.made.items c.parts.ensures.trees
    (c.deref.ensures.value ∙ c.in_ok-parts.ensures.items_if_clones_equal (λ x y h. h)) c.in_ok-made.ensures.sorts c.node-top.ensures.fits

pub put_against-returns-clause-put : goal.put_against-returns-clause-put
put_against-returns-clause-put t c =
    let copied : c.deref.result.now ≡ c.parts.result.now = c.deref.ensures.value ∙ c.in_ok-parts.ensures.items_if_clones_equal (λ x y h. h) in
    IfOk-weaker c.intern_node.result _ _
    (λ id e. put-made c.args.terms.now c.put_form.new.terms c.args.given c.node-top.result c.parts.result.now c.deref.result.now c.in_ok-made.made.items c.parts.ensures.trees copied
    (tree_at c.args.terms.now c.args.found.alias) (tree_at c.args.terms.now c.args.found.form) (tree_of_ref c.args.header) c.node-node.result (trees_seen c.parts-2.result) _
    c.node-node.ensures (sym c.is_entered.ensures ∙ c.if-not-is_entered.false) c.parts-2.ensures c.node-top.ensures.top
    (put-fits c.args.terms.now c.put_form.new.terms c.args.given c.node-top.result c.parts.result.now c.deref.result.now c.in_ok-made.made.items c.parts.ensures.trees copied
    c.in_ok-made.ensures.sorts c.node-top.ensures.fits) c.in_ok-made.ensures.put e)
    c.intern_node.ensures.tree

pub put_form-returns-then-len-given-clause-put : goal.put_form-returns-then-len-given-clause-put
put_form-returns-then-len-given-clause-put t c =
    all_put-as_are (tree_at c.args.terms.now c.args.found.alias) (tree_at c.args.terms.now c.args.found.form) (forest (trees_seen c.args.header)) (trees_at c.args.terms.now c.args.given.now)
    (trees_at c.args.terms.now c.in_ok-copy.copy.items) (ap (trees_at c.args.terms.now) (sym (c.in_ok-copy.ensures.items_if_clones_equal (λ x y h. h))))

pub put_form-returns-then-len-given-clause-sorts : goal.put_form-returns-then-len-given-clause-sorts
put_form-returns-then-len-given-clause-sorts t c =
    sorts-as_are (trees_at c.args.terms.now c.args.given.now) (trees_at c.args.terms.now c.in_ok-copy.copy.items)
    (ap (trees_at c.args.terms.now) (sym (c.in_ok-copy.ensures.items_if_clones_equal (λ x y h. h))))

pub put_form-loop-i-init : goal.put_form-loop-i-init
put_form-loop-i-init t c = record {
  kept = keeps-refl c.args.terms.now;
  within = none-below (length c.args.terms.now) c.in_ok-made.made.items c.in_ok-made.ensures.items;
  so_far = put-begun c.args.terms.now c.args.found (trees_seen c.args.header) c.args.given.now c.in_ok-made.made.items c.in_ok-made.ensures.items;
}

pub put_form-put_against-requires : goal.put_form-put_against-requires
put_form-put_against-requires t c =
    let here : (get_or c.args.given.now c.loop-i.i (record { 0 = 0 })).0 < length c.args.terms.now = c.requires.given c.loop-i.i _ c.loop-i-test.true in (
      omega (arith, c.decreases, size-among (trees_seen c.args.header) c.loop-i.i (tree_of_ref c.at.result) c.at.ensures),
      (
        found-grown c.args.terms.now c.loop-i.terms c.args.found c.loop-i.invariant.kept c.requires.found,
        omega (arith, here, c.loop-i.invariant.kept.longer),
      ),
    )

pub put_form-loop-i-preserved : goal.put_form-loop-i-preserved
put_form-loop-i-preserved t c =
    let id : TermId = get_or c.args.given.now c.loop-i.i (record { 0 = 0 }) in record {
      kept = keeps-chain _ _ _ c.loop-i.invariant.kept c.in_ok-id.ensures.kept;
      within =
          within-more c.loop-i.terms c.put_against.new.terms c.in_ok-id.ensures.kept c.loop-i.made.items _ c.in_ok-id.id c.in_ok-push.ensures.items c.loop-i.invariant.within c.in_ok-id.ensures.within;
      so_far =
          put-more c.args.terms.now c.loop-i.terms c.put_against.new.terms c.args.found (trees_seen c.args.header) c.args.given.now c.loop-i.made.items _ c.loop-i.i (tree_of_ref c.at.result) id c.in_ok-id.id
          c.loop-i.invariant.kept c.in_ok-id.ensures.kept c.requires.found (sym c.len.ensures ∙ c.if-len-given.false) c.at.ensures
          (index-there c.args.terms.now c.args.given.now c.loop-i.i (record { 0 = 0 }) c.loop-i-test.true) (c.requires.given c.loop-i.i _ c.loop-i-test.true) c.in_ok-push.ensures.items
          c.loop-i.invariant.within c.loop-i.invariant.so_far c.in_ok-id.ensures.put c.in_ok-id.ensures.sort;
    }

pub put_form-returns-clause-put : goal.put_form-returns-clause-put
put_form-returns-clause-put t c =
    put-done c.args.terms.now c.loop-i.terms c.args.found (trees_seen c.args.header) c.args.given.now c.loop-i.made.items c.loop-i.i (sym c.len.ensures ∙ c.if-len-given.false)
    (omega (arith, c.loop-i-test.false)) c.loop-i.invariant.so_far

pub put_form-returns-clause-sorts : goal.put_form-returns-clause-sorts
put_form-returns-clause-sorts t c =
    sorts-done c.args.terms.now c.loop-i.terms c.args.found (trees_seen c.args.header) c.args.given.now c.loop-i.made.items c.loop-i.i (omega (arith, c.loop-i-test.false)) c.loop-i.invariant.so_far
