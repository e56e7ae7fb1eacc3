use Rattle.std.proofs.Common.{[], ◌∷◌, ◌++◌, map, take, sym, ap, ◌∙◌, subst, arith}
use Rattle.std.proofs.lemmas.List.{map_more, take_all}
use Rattle.goal_terms.specs.Erased.{erased}
use Rattle.goal_terms.specs.Sorts.{IsArgument}
use Rattle.goal_interner.specs.TableMeaning.{tree_at}
use Rattle.goal_interner.proofs.InternLemmas.{keeps-refl, keeps-chain}
use Rattle.goal_lists.specs.Candidates.{bounds_of}
use Rattle.goal_kinds.specs.EffectKind.{AreImplied}
use Rattle.goal_lists.specs.Interned.{candidate_at}
use Rattle.goal_lists.specs.InternedEntries.{setting_at}
use Rattle.goal_kinds.proofs.EffectFaceLemmas.{one-in_table}
use Rattle.goal_lists.proofs.InternedLemmas.{candidate_in-grown, candidate_same-grown}
use Rattle.goal_lists.proofs.PremiseTerms.{alias-argument}
use Rattle.goal_kinds.proofs.rules.effects.implied_rules.Goals as goal

pub push_alias_bounds-requires-clause-known : goal.push_alias_bounds-requires-clause-known
push_alias_bounds-requires-clause-known c = (
  c.in_ok-self_ty.ensures.within,
  subst IsArgument (sym c.in_ok-self_ty.ensures.tree) (alias-argument c.args.alias.now),
)

pub loop-i-init : goal.loop-i-init
loop-i-init c = record {
  kept = keeps-refl c.push_alias_bounds.new.terms;
  rules = λ env. subst (AreImplied c.args.setting.rows.now c.args.asked.now (setting_at c.args.setting env) []) (sym c.new-rules.ensures.items) tt;
}

pub push_implied_rule-requires : goal.push_implied_rule-requires
push_implied_rule-requires c = record {
  within = candidate_in-grown c.push_alias_bounds.new.terms c.loop-i.terms c.loop-i.invariant.kept c.index-candidates-i.result
      (one-in_table c.push_alias_bounds.new.terms c.push_alias_bounds.new.found.items c.as_slice-candidates.result.now c.index-candidates-i.result c.loop-i.i c.as_slice-candidates.ensures.value
      c.in_ok-push_alias_bounds.ensures.within (omega (arith, c.loop-i-test.true)) c.index-candidates-i.is);
}

pub loop-i-preserved : goal.loop-i-preserved
loop-i-preserved c = record {
  kept = keeps-chain _ _ _ c.loop-i.invariant.kept c.push_implied_rule.ensures.kept;
  rules = λ env.
      subst (λ cs. AreImplied c.args.setting.rows.now c.args.asked.now (setting_at c.args.setting env) cs c.push_implied_rule.new.rules.items)
      (ap (λ d. map (candidate_at c.push_alias_bounds.new.terms) (take c.loop-i.i c.as_slice-candidates.result.now) ++ d ∷ [])
      (candidate_same-grown c.push_alias_bounds.new.terms c.loop-i.terms c.loop-i.invariant.kept c.index-candidates-i.result
      (one-in_table c.push_alias_bounds.new.terms c.push_alias_bounds.new.found.items c.as_slice-candidates.result.now c.index-candidates-i.result c.loop-i.i c.as_slice-candidates.ensures.value
      c.in_ok-push_alias_bounds.ensures.within (omega (arith, c.loop-i-test.true)) c.index-candidates-i.is)
      ∙ ap (candidate_at c.push_alias_bounds.new.terms) c.index-candidates-i.is)
      ∙ sym (map_more (candidate_at c.push_alias_bounds.new.terms) c.as_slice-candidates.result.now c.loop-i.i c.index-candidates-i.result (omega (arith, c.loop-i-test.true))))
      (c.in_ok-push_implied_rule.ensures.added env (map (candidate_at c.push_alias_bounds.new.terms) (take c.loop-i.i c.as_slice-candidates.result.now)) (c.loop-i.invariant.rules env));
}

pub returns-clause-listed : goal.returns-clause-listed
returns-clause-listed c env =
    subst (λ cs. AreImplied c.args.setting.rows.now c.args.asked.now (setting_at c.args.setting env) cs c.loop-i.rules.items)
    (ap (map (candidate_at c.push_alias_bounds.new.terms))
    (take_all c.loop-i.i c.as_slice-candidates.result.now (omega (arith, c.loop-i-test.false)) ∙ c.as_slice-candidates.ensures.value)
    ∙ c.in_ok-push_alias_bounds.ensures.pushed
    ∙ ap (λ xs. map (candidate_at c.intern_part.new.self) xs ++ bounds_of c.args.setting.rows.now (erased (tree_at c.intern_part.new.self c.in_ok-self_ty.self_ty))) c.new-found.ensures.items
    ∙ ap (λ t. bounds_of c.args.setting.rows.now (erased t)) c.in_ok-self_ty.ensures.tree)
    (c.loop-i.invariant.rules env)
