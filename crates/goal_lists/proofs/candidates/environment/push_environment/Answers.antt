use Rattle.std.proofs.Common.{◌++◌, ◌∷◌, [], map, filter, sym, ap, ◌∙◌, arith}
use Rattle.std.proofs.lemmas.Simd.{map-map}
use Rattle.goal_terms.specs.PredicateTrees.{tree_of_kind}
use Rattle.goal_interner.proofs.InternLemmas.{keeps-chain}
use Rattle.goal_interner.proofs.UnderLemmas.{trees-same}
use Rattle.goal_lists.specs.Answers.{erased_predicate}
use Rattle.goal_lists.specs.CandidateWords.{about, near_for}
use Rattle.goal_lists.specs.Candidates.{assumption}
use Rattle.goal_lists.specs.Fitting.{near}
use Rattle.goal_lists.specs.Interned.{candidate_at}
use Rattle.goal_lists.proofs.FittingLemmas.{are_below}
use Rattle.goal_lists.proofs.GrowingLists.{one-passing, all-passing}
use Rattle.goal_lists.proofs.InternedLemmas.{are_in-grown}
use Rattle.goal_lists.proofs.candidates.environment.push_environment.Goals as goal

pub push_clause-requires-clause-args : goal.push_clause-requires-clause-args
push_clause-requires-clause-args c = are_in-grown c.args.terms.now c.loop-i.terms c.loop-i.invariant.kept c.args.sought.now.args.now c.requires.args

pub loop-i-preserved : goal.loop-i-preserved
loop-i-preserved c = record {
  kept = keeps-chain _ _ _ c.loop-i.invariant.kept c.in_ok-push_clause.ensures.kept;
  within = c.in_ok-push_clause.ensures.within;
  pushed =
      one-passing (λ k. assumption (erased_predicate (tree_of_kind k.kind))) (near (about c.args.terms.now c.args.sought.now))
      (map (candidate_at c.args.terms.now) c.args.found.now.items) (map (candidate_at c.loop-i.terms) c.loop-i.found.items)
      (map (candidate_at c.push_clause.new.terms) c.push_clause.new.found.items) c.args.environment.now c.index-environment-i.result c.loop-i.i
      c.loop-i-test.true c.index-environment-i.is c.loop-i.invariant.pushed
      (c.in_ok-push_clause.ensures.pushed
      ∙ ap (λ g. map (candidate_at c.loop-i.terms) c.loop-i.found.items ++ near_for c.loop-i.terms c.args.sought.now (assumption (erased_predicate (tree_of_kind g.kind)) ∷ []))
      (sym c.index-environment-i.is)
      ∙ ap (λ ts. map (candidate_at c.loop-i.terms) c.loop-i.found.items ++ filter (near (record { trait_id = c.args.sought.now.trait_id; item = c.args.sought.now.item; args = ts })) (assumption (erased_predicate (tree_of_kind c.index-environment-i.result.kind)) ∷ []))
      (trees-same c.args.terms.now c.loop-i.terms c.args.sought.now.args.now c.loop-i.invariant.kept (are_below c.args.terms.now c.args.sought.now.args.now c.requires.args)));
}

pub returns-clause-pushed : goal.returns-clause-pushed
returns-clause-pushed c =
    all-passing (λ k. assumption (erased_predicate (tree_of_kind k.kind))) (near (about c.args.terms.now c.args.sought.now))
    (map (candidate_at c.args.terms.now) c.args.found.now.items) _ c.args.environment.now c.loop-i.i (omega arith) c.loop-i.invariant.pushed
    ∙ ap (λ cs. map (candidate_at c.args.terms.now) c.args.found.now.items ++ near_for c.args.terms.now c.args.sought.now cs)
    (sym (map-map assumption (λ k. erased_predicate (tree_of_kind k.kind)) c.args.environment.now))
