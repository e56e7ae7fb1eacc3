use Rattle.std.proofs.Common.{[], sym, ap, ◌∙◌, subst, arith}
use Rattle.std.proofs.lemmas.Simd.{map-map}
use Rattle.goal_terms.specs.Erased.{erased}
use Rattle.goal_terms.specs.Sorts.{IsArgument}
use Rattle.goal_terms.specs.TreeOf.{tree_of_arg}
use Rattle.goal_interner.proofs.InternLemmas.{keeps-chain}
use Rattle.goal_terms.proofs.SortLemmas.{arg_sort}
use Rattle.goal_lists.specs.Interned.{IsIn, AreIn, erased_at, erased_all}
use Rattle.goal_lists.proofs.GrowingLists.{one-more, all-come, in-pushed, at-pushed}
use Rattle.goal_lists.proofs.InternedLemmas.{in-grown, same-grown}
use Rattle.goal_lists.proofs.candidates.environment.args_given.Goals as goal

pub loop-i-preserved : goal.loop-i-preserved
loop-i-preserved c = record {
  kept = keeps-chain _ _ _ c.loop-i.invariant.kept c.in_ok-id.ensures.kept;
  within =
      subst (AreIn c.intern_part.new.self) (sym c.in_ok-push.ensures.items)
      (in-pushed IsIn erased_at in-grown same-grown c.loop-i.terms c.intern_part.new.self c.in_ok-id.ensures.kept c.loop-i.ids.items c.in_ok-id.id
      c.loop-i.invariant.within
      (c.in_ok-id.ensures.within, subst IsArgument (sym (c.in_ok-id.ensures.tree ∙ c.view.ensures)) (arg_sort c.index-given-i.result)));
  trees =
      ap (erased_all c.intern_part.new.self) c.in_ok-push.ensures.items
      ∙ at-pushed IsIn erased_at in-grown same-grown c.loop-i.terms c.intern_part.new.self c.in_ok-id.ensures.kept c.loop-i.ids.items c.in_ok-id.id
      c.loop-i.invariant.within
      ∙ one-more (λ a. erased (tree_of_arg a)) [] (erased_all c.loop-i.terms c.loop-i.ids.items) c.args.given.now c.index-given-i.result c.loop-i.i
      (erased_at c.intern_part.new.self c.in_ok-id.id) c.loop-i-test.true c.index-given-i.is c.loop-i.invariant.trees
      (ap erased (c.in_ok-id.ensures.tree ∙ c.view.ensures));
}

pub returns-clause-trees : goal.returns-clause-trees
returns-clause-trees c =
    all-come (λ a. erased (tree_of_arg a)) [] _ c.args.given.now c.loop-i.i (omega arith) c.loop-i.invariant.trees
    ∙ sym (map-map erased tree_of_arg c.args.given.now)
