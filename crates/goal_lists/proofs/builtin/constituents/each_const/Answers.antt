use Rattle.std.proofs.Common.{◌∙◌, ap, ap₂, sym, subst, arith, [], ◌∷◌, map}
use Rattle.std.specs.List.{All}
use Rattle.std.proofs.lemmas.List.Elements.{All-push, All-nil}
use Rattle.goal_lists.specs.Interned.{TraitIn, PremiseIn, trait_at, premise_at, erased_at}
use Rattle.goal_lists.proofs.EachRuleLemmas.{of_type, mapped-more, mapped-all, mapped-twice}
use Rattle.goal_lists.proofs.builtin.constituents.each_const.Goals as goal

pub loop-ty-preserved : goal.loop-ty-preserved
loop-ty-preserved c = record {
  within = λ T h.
      subst (All (TraitIn T)) (sym c.in_ok-push.ensures.items)
      (All-push (TraitIn T) c.loop-ty.conditions.items c.in_ok-condition.condition (c.loop-ty.invariant.within T h)
      (c.in_ok-condition.ensures.within T (h c.loop-ty.ty-index _ (omega arith))));
  so_far = λ T.
      ap (map (trait_at T)) c.in_ok-push.ensures.items
      ∙ mapped-more (trait_at T) (of_type T c.args.trait_id) c.loop-ty.conditions.items c.in_ok-condition.condition c.args.tys.now c.loop-ty.ty-index _ (omega arith)
      (c.loop-ty.invariant.so_far T) (c.in_ok-condition.ensures.made T);
}

pub returns-clause-within : goal.returns-clause-within
returns-clause-within c T h = (subst (All (PremiseIn T)) (sym c.new.ensures.items) (All-nil (PremiseIn T)), c.loop-ty.invariant.within T h)

pub returns-clause-rule : goal.returns-clause-rule
returns-clause-rule c T =
    ap₂ (λ ps cs. record { premises = ps; conditions = cs }) (ap (map (premise_at T)) c.new.ensures.items)
    (mapped-all (of_type T c.args.trait_id) _ c.args.tys.now c.loop-ty.ty-index (omega arith) (c.loop-ty.invariant.so_far T)
    ∙ mapped-twice (erased_at T) (λ t. record { def_id = c.args.trait_id; args = t ∷ [] }) c.args.tys.now)
