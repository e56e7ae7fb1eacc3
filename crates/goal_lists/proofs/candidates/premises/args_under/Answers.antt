use Rattle.std.proofs.Common.{[], sym, ap, ◌∙◌, subst, arith}
use Rattle.std.proofs.lemmas.Simd.{map-map}
use Rattle.goal_terms.specs.Sorts.{IsArgument}
use Rattle.goal_terms.specs.TreeOf.{tree_of_arg}
use Rattle.goal_interner.proofs.InternLemmas.{keeps-chain}
use Rattle.goal_terms.proofs.SortLemmas.{arg_sort}
use Rattle.goal_lists.specs.Headers.{under}
use Rattle.goal_lists.specs.Interned.{IsIn, AreIn, erased_at, erased_all}
use Rattle.goal_lists.proofs.GrowingLists.{all-come, in-pushed, under-pushed}
use Rattle.goal_lists.proofs.InternedLemmas.{in-grown, same-grown}
use Rattle.goal_lists.proofs.candidates.premises.args_under.Goals as goal

pub term_under-requires-clause-argument : goal.term_under-requires-clause-argument
term_under-requires-clause-argument c = subst IsArgument (sym c.view.ensures) (arg_sort c.index-given-i.result)

pub loop-i-preserved : goal.loop-i-preserved
loop-i-preserved c = record {
  kept = keeps-chain _ _ _ c.loop-i.invariant.kept c.in_ok-id.ensures.kept;
  within =
      subst (AreIn c.term_under.new.terms) (sym c.in_ok-push.ensures.items)
      (in-pushed IsIn erased_at in-grown same-grown c.loop-i.terms c.term_under.new.terms c.in_ok-id.ensures.kept c.loop-i.ids.items c.in_ok-id.id
      c.loop-i.invariant.within c.in_ok-id.ensures.within);
  trees =
      ap (erased_all c.term_under.new.terms) c.in_ok-push.ensures.items
      ∙ under-pushed IsIn erased_at in-grown same-grown (λ s a. under s (tree_of_arg a)) c.args.terms.now c.loop-i.terms c.term_under.new.terms
      c.args.args.now c.requires c.loop-i.invariant.kept c.in_ok-id.ensures.kept [] c.loop-i.ids.items c.in_ok-id.id c.args.given.now
      c.index-given-i.result c.loop-i.i c.loop-i-test.true c.index-given-i.is c.loop-i.invariant.within c.loop-i.invariant.trees
      (c.in_ok-id.ensures.tree ∙ ap (under (erased_all c.loop-i.terms c.args.args.now)) c.view.ensures);
}

pub returns-clause-trees : goal.returns-clause-trees
returns-clause-trees c =
    all-come (λ a. under (erased_all c.args.terms.now c.args.args.now) (tree_of_arg a)) [] _ c.args.given.now c.loop-i.i (omega arith) c.loop-i.invariant.trees
    ∙ sym (map-map (under (erased_all c.args.terms.now c.args.args.now)) tree_of_arg c.args.given.now)
