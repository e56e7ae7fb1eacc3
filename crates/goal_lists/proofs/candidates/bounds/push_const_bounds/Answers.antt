use Rattle.std.proofs.Common.{map, sym, ap, ◌∙◌, subst}
use Rattle.std.specs.List.{All}
use Rattle.goal_interner.proofs.InternLemmas.{keeps-chain}
use Rattle.goal_lists.specs.Candidates.{implied_bound}
use Rattle.goal_lists.specs.Interned.{CandidateIn, candidate_at}
use Rattle.goal_lists.specs.Premises.{trait_under, traits_under}
use Rattle.goal_lists.specs.declared.candidates.interned.InternedCandidate.TheVariants as candidates
use Rattle.goal_lists.proofs.BoundTerms.{implied-under}
use Rattle.goal_lists.proofs.GrowingLists.{in-pushed, under-pushed}
use Rattle.goal_lists.proofs.InternedLemmas.{are_in-grown, trait_in-grown, candidate_in-grown, candidate_same-grown}
use Rattle.goal_lists.proofs.candidates.bounds.push_const_bounds.Goals as goal

pub loop-i-preserved : goal.loop-i-preserved
loop-i-preserved c = record {
  kept = keeps-chain _ _ _ c.loop-i.invariant.kept (keeps-chain _ _ _ c.in_ok-bound.ensures.kept c.in_ok-under.ensures.kept);
  within =
      subst (All (CandidateIn c.traits_under.new.terms)) (sym c.in_ok-push.ensures.items)
      (in-pushed CandidateIn candidate_at candidate_in-grown candidate_same-grown c.loop-i.terms c.traits_under.new.terms
      (keeps-chain _ _ _ c.in_ok-bound.ensures.kept c.in_ok-under.ensures.kept) c.loop-i.found.items
      (candidates.ImpliedBound c.in_ok-bound.bound c.in_ok-under.under) c.loop-i.invariant.within (
        trait_in-grown c.trait_under.new.terms c.traits_under.new.terms c.in_ok-under.ensures.kept c.in_ok-bound.bound c.in_ok-bound.ensures.within,
        c.in_ok-under.ensures.within,
      ));
  pushed =
      ap (map (candidate_at c.traits_under.new.terms)) c.in_ok-push.ensures.items
      ∙ under-pushed CandidateIn candidate_at candidate_in-grown candidate_same-grown
      (λ s r. implied_bound (trait_under s r) (traits_under s c.as_slice-conditions.result.now))
      c.args.terms.now c.loop-i.terms c.traits_under.new.terms c.args.args.now c.requires.known c.loop-i.invariant.kept
      (keeps-chain _ _ _ c.in_ok-bound.ensures.kept c.in_ok-under.ensures.kept) (map (candidate_at c.args.terms.now) c.args.found.now.items)
      c.loop-i.found.items (candidates.ImpliedBound c.in_ok-bound.bound c.in_ok-under.under) c.as_slice-implied.result.now c.index-implied-i.result
      c.loop-i.i c.loop-i-test.true c.index-implied-i.is c.loop-i.invariant.within c.loop-i.invariant.pushed
      (implied-under c.loop-i.terms c.trait_under.new.terms c.traits_under.new.terms c.args.args.now
      (are_in-grown c.args.terms.now c.loop-i.terms c.loop-i.invariant.kept c.args.args.now c.requires.known) c.in_ok-bound.ensures.kept
      c.in_ok-under.ensures.kept c.in_ok-bound.bound c.in_ok-under.under.items c.index-implied-i.result c.as_slice-conditions.result.now
      c.in_ok-bound.ensures.within c.in_ok-bound.ensures.tree c.in_ok-under.ensures.traits);
}
