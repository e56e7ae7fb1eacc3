use Rattle.std.proofs.Common.{◌∙◌, ap, sym, subst, arith}
use Rattle.goal_interner.proofs.InternLemmas.{keeps-chain}
use Rattle.goal_terms.specs.TreeOf.{tree_of_ty}
use Rattle.goal_lists.specs.Headers.{under}
use Rattle.goal_lists.specs.Interned.{AreIn, erased_all}
use Rattle.goal_lists.proofs.InternedLemmas.{are_in-grown, all_same-grown}
use Rattle.goal_lists.proofs.RowTermLemmas.{in-more, terms-more}
use Rattle.goal_lists.proofs.candidates.row_terms.types_under.Goals as goal

pub type_under-requires : goal.type_under-requires
type_under-requires c = are_in-grown _ _ c.loop-ty.invariant.kept c.args.args.now c.requires

pub loop-ty-preserved : goal.loop-ty-preserved
loop-ty-preserved c = record {
  kept = keeps-chain _ _ _ c.loop-ty.invariant.kept c.in_ok-number.ensures.kept;
  within =
      subst (AreIn c.type_under.new.terms) (sym c.in_ok-push.ensures.items)
      (in-more c.loop-ty.terms c.type_under.new.terms c.loop-ty.numbers.items c.in_ok-number.number c.in_ok-number.ensures.kept c.loop-ty.invariant.within c.in_ok-number.ensures.within);
  so_far =
      ap (erased_all c.type_under.new.terms) c.in_ok-push.ensures.items
      ∙ terms-more _ (λ ty. under (erased_all c.args.terms.now c.args.args.now) (tree_of_ty ty)) c.loop-ty.terms c.type_under.new.terms c.loop-ty.numbers.items c.in_ok-number.number
      c.args.tys.now c.loop-ty.ty-index c.ty-item.result c.in_ok-number.ensures.kept c.loop-ty.invariant.within (omega arith) c.loop-ty.invariant.so_far
      (c.in_ok-number.ensures.term
      ∙ ap (λ s. under s (tree_of_ty c.ty-item.result)) (all_same-grown c.args.terms.now c.loop-ty.terms c.loop-ty.invariant.kept c.args.args.now c.requires)
      ∙ ap (λ ty. under (erased_all c.args.terms.now c.args.args.now) (tree_of_ty ty)) c.ty-item.is);
}
