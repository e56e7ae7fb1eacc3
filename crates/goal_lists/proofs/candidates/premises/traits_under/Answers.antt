use Rattle.std.proofs.Common.{[], map, sym, ap, ◌∙◌, subst}
use Rattle.std.specs.List.{All}
use Rattle.goal_interner.proofs.InternLemmas.{keeps-chain}
use Rattle.goal_lists.specs.Interned.{TraitIn, trait_at}
use Rattle.goal_lists.specs.Premises.{trait_under}
use Rattle.goal_lists.proofs.GrowingLists.{in-pushed, under-pushed}
use Rattle.goal_lists.proofs.InternedLemmas.{trait_in-grown, trait_same-grown}
use Rattle.goal_lists.proofs.candidates.premises.traits_under.Goals as goal

pub loop-i-preserved : goal.loop-i-preserved
loop-i-preserved c = record {
  kept = keeps-chain _ _ _ c.loop-i.invariant.kept c.in_ok-of.ensures.kept;
  within =
      subst (All (TraitIn c.trait_under.new.terms)) (sym c.in_ok-push.ensures.items)
      (in-pushed TraitIn trait_at trait_in-grown trait_same-grown c.loop-i.terms c.trait_under.new.terms c.in_ok-of.ensures.kept
      c.loop-i.traits.items c.in_ok-of.of c.loop-i.invariant.within c.in_ok-of.ensures.within);
  traits =
      ap (map (trait_at c.trait_under.new.terms)) c.in_ok-push.ensures.items
      ∙ under-pushed TraitIn trait_at trait_in-grown trait_same-grown trait_under
      c.args.terms.now c.loop-i.terms c.trait_under.new.terms c.args.args.now c.requires c.loop-i.invariant.kept c.in_ok-of.ensures.kept []
      c.loop-i.traits.items c.in_ok-of.of c.args.refs.now c.index-refs-i.result c.loop-i.i c.loop-i-test.true
      c.index-refs-i.is c.loop-i.invariant.within c.loop-i.invariant.traits c.in_ok-of.ensures.tree;
}
