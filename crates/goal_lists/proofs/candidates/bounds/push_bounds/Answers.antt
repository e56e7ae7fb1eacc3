use Rattle.std.proofs.Common.{map, sym, ap, ◌∙◌, subst}
use Rattle.std.specs.List.{All}
use Rattle.goal_terms.specs.PredicateTrees.{tree_of_kind}
use Rattle.goal_interner.proofs.InternLemmas.{keeps-chain}
use Rattle.goal_lists.specs.Candidates.{assumption}
use Rattle.goal_lists.specs.Interned.{CandidateIn, candidate_at, erased_all}
use Rattle.goal_lists.specs.Premises.{predicate_under}
use Rattle.goal_lists.specs.declared.candidates.interned.InternedCandidate.TheVariants as candidates
use Rattle.goal_lists.proofs.GrowingLists.{in-pushed, under-pushed}
use Rattle.goal_lists.proofs.InternedLemmas.{candidate_in-grown, candidate_same-grown}
use Rattle.goal_lists.proofs.candidates.bounds.push_bounds.Goals as goal

pub loop-i-preserved : goal.loop-i-preserved
loop-i-preserved c = record {
  kept = keeps-chain _ _ _ c.loop-i.invariant.kept c.in_ok-predicate.ensures.kept;
  within =
      subst (All (CandidateIn c.predicate_under.new.terms)) (sym c.in_ok-push.ensures.items)
      (in-pushed CandidateIn candidate_at candidate_in-grown candidate_same-grown c.loop-i.terms c.predicate_under.new.terms
      c.in_ok-predicate.ensures.kept c.loop-i.found.items (candidates.Assumption c.in_ok-predicate.predicate) c.loop-i.invariant.within
      c.in_ok-predicate.ensures.within);
  pushed =
      ap (map (candidate_at c.predicate_under.new.terms)) c.in_ok-push.ensures.items
      ∙ under-pushed CandidateIn candidate_at candidate_in-grown candidate_same-grown (λ s k. assumption (predicate_under s (tree_of_kind k.kind)))
      c.args.terms.now c.loop-i.terms c.predicate_under.new.terms c.args.args.now c.requires.known c.loop-i.invariant.kept
      c.in_ok-predicate.ensures.kept (map (candidate_at c.args.terms.now) c.args.found.now.items) c.loop-i.found.items
      (candidates.Assumption c.in_ok-predicate.predicate) c.args.bounds.now c.index-bounds-i.result c.loop-i.i c.loop-i-test.true c.index-bounds-i.is
      c.loop-i.invariant.within c.loop-i.invariant.pushed
      (ap assumption c.in_ok-predicate.ensures.tree
      ∙ ap (λ g. assumption (predicate_under (erased_all c.loop-i.terms c.args.args.now) (tree_of_kind g.kind))) (sym c.index-bounds-i.is));
}
