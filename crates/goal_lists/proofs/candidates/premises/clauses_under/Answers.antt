use Rattle.std.proofs.Common.{[], map, sym, ap, ◌∙◌, subst}
use Rattle.std.specs.List.{All}
use Rattle.goal_terms.specs.PredicateTrees.{tree_of_kind}
use Rattle.goal_interner.proofs.InternLemmas.{keeps-chain}
use Rattle.goal_lists.specs.Interned.{PremiseIn, premise_at, erased_all}
use Rattle.goal_lists.specs.Premises.{predicate, predicate_under}
use Rattle.goal_lists.specs.declared.candidates.interned.InternedPremise.TheVariants as premises
use Rattle.goal_lists.proofs.GrowingLists.{in-pushed, under-pushed}
use Rattle.goal_lists.proofs.InternedLemmas.{premise_in-grown, premise_same-grown}
use Rattle.goal_lists.proofs.candidates.premises.clauses_under.Goals as goal

pub loop-i-preserved : goal.loop-i-preserved
loop-i-preserved c = record {
  kept = keeps-chain _ _ _ c.loop-i.invariant.kept c.in_ok-predicate.ensures.kept;
  within =
      subst (All (PremiseIn c.predicate_under.new.terms)) (sym c.in_ok-push.ensures.items)
      (in-pushed PremiseIn premise_at premise_in-grown premise_same-grown c.loop-i.terms c.predicate_under.new.terms c.in_ok-predicate.ensures.kept
      c.loop-i.premises.items (premises.Predicate c.in_ok-predicate.predicate) c.loop-i.invariant.within c.in_ok-predicate.ensures.within);
  premises =
      ap (map (premise_at c.predicate_under.new.terms)) c.in_ok-push.ensures.items
      ∙ under-pushed PremiseIn premise_at premise_in-grown premise_same-grown (λ s k. predicate (predicate_under s (tree_of_kind k.kind)))
      c.args.terms.now c.loop-i.terms c.predicate_under.new.terms c.args.args.now c.requires c.loop-i.invariant.kept c.in_ok-predicate.ensures.kept []
      c.loop-i.premises.items (premises.Predicate c.in_ok-predicate.predicate) c.args.clauses.now c.index-clauses-i.result c.loop-i.i c.loop-i-test.true
      c.index-clauses-i.is c.loop-i.invariant.within c.loop-i.invariant.premises (ap predicate c.in_ok-predicate.ensures.tree
      ∙ ap (λ g. predicate (predicate_under (erased_all c.loop-i.terms c.args.args.now) (tree_of_kind g.kind))) (sym c.index-clauses-i.is));
}
