use Rattle.std.proofs.Common.{◌∙◌, ap, sym, subst, arith}
use Rattle.std.proofs.lemmas.List.Elements.{All-push}
use Rattle.goal_terms.specs.Erased.{erased}
use Rattle.goal_terms.specs.View.{tree_of_ref}
use Rattle.goal_interner.proofs.InternLemmas.{keeps-chain}
use Rattle.goal_terms.proofs.SortLemmas.{arg_sort}
use Rattle.goal_lists.specs.Headers.{under}
use Rattle.goal_lists.specs.Interned.{IsIn, AreIn, erased_all}
use Rattle.goal_lists.proofs.InternedLemmas.{are_in-grown, all_same-grown}
use Rattle.goal_eval.proofs.HeaderArgLemmas.{instances-more}
use Rattle.goal_eval.proofs.relate.header_args.instances.Goals as goal

pub instance_of-requires-clause-argument : goal.instance_of-requires-clause-argument
instance_of-requires-clause-argument c = rw c.view.ensures (arg_sort c.argument-item.result)

pub loop-argument-preserved : goal.loop-argument-preserved
loop-argument-preserved c = record {
  kept = keeps-chain _ _ _ c.loop-argument.invariant.kept c.in_ok-id.ensures.kept;
  within =
      subst (AreIn c.instance_of.new.terms) (sym c.in_ok-push.ensures.items)
      (All-push (IsIn c.instance_of.new.terms) c.loop-argument.ids.items c.in_ok-id.id
      (are_in-grown c.loop-argument.terms c.instance_of.new.terms c.in_ok-id.ensures.kept c.loop-argument.ids.items c.loop-argument.invariant.within) c.in_ok-id.ensures.within);
  trees =
      ap (erased_all c.instance_of.new.terms) c.in_ok-push.ensures.items
      ∙ instances-more c.args.terms.now c.loop-argument.terms c.instance_of.new.terms (erased_all c.args.terms.now c.args.args.now) c.loop-argument.ids.items c.in_ok-id.id
      c.args.header.now c.loop-argument.argument-index c.argument-item.result
      c.in_ok-id.ensures.kept c.loop-argument.invariant.within c.loop-argument.invariant.trees (omega arith) c.argument-item.is
      (c.in_ok-id.ensures.tree
      ∙ ap (λ s. under s (erased (tree_of_ref c.view.result))) (all_same-grown c.args.terms.now c.loop-argument.terms c.loop-argument.invariant.kept c.args.args.now c.requires)
      ∙ ap (λ t. under (erased_all c.args.terms.now c.args.args.now) (erased t)) c.view.ensures);
}
