use Rattle.std.proofs.Common.{◌∙◌, ap, sym, subst, arith, [], ◌∷◌, map}
use Rattle.std.specs.List.{All}
use Rattle.std.proofs.lemmas.List.Elements.{All-push}
use Rattle.goal_lists.specs.Interned.{PremiseIn, premise_at, erased_at}
use Rattle.goal_terms.specs.PredicateTrees.{holds}
use Rattle.goal_lists.specs.Premises.{predicate}
use Rattle.goal_lists.proofs.EachRuleLemmas.{is_at, mapped-more, mapped-all, mapped-twice}
use Rattle.goal_lists.proofs.builtin.constituents.each_is.Goals as goal

pub loop-ty-preserved : goal.loop-ty-preserved
loop-ty-preserved c = record {
  within = λ T h.
      subst (All (PremiseIn T)) (sym c.in_ok-push.ensures.items)
      (All-push (PremiseIn T) c.loop-ty.premises.items c.in_ok-premise.premise (c.loop-ty.invariant.within T h)
      (c.in_ok-premise.ensures.within T (h c.loop-ty.ty-index _ (omega arith))));
  so_far = λ T.
      ap (map (premise_at T)) c.in_ok-push.ensures.items
      ∙ mapped-more (premise_at T) (is_at T c.args.trait_id) c.loop-ty.premises.items c.in_ok-premise.premise c.args.tys.now c.loop-ty.ty-index _ (omega arith)
      (c.loop-ty.invariant.so_far T) (c.in_ok-premise.ensures.premise T);
}

pub returns-clause-within : goal.returns-clause-within
returns-clause-within c = c.loop-ty.invariant.within

pub returns-clause-premises : goal.returns-clause-premises
returns-clause-premises c T =
    mapped-all (is_at T c.args.trait_id) _ c.args.tys.now c.loop-ty.ty-index (omega arith) (c.loop-ty.invariant.so_far T)
    ∙ mapped-twice (erased_at T) (λ t. predicate (holds c.args.trait_id (t ∷ []))) c.args.tys.now
