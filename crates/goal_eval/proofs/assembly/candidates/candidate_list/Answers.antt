use Rattle.std.proofs.Common.{ap}
use Rattle.goal_lists.specs.Interned.{candidate_at, erased_all}
use Rattle.goal_lists.specs.InternedEntries.{setting_at}
use Rattle.goal_lists.proofs.CauseLemmas.{trait_list-caused, effect_list-caused}
use Rattle.goal_eval.proofs.EffectLemmas.{listed-caused}
use Rattle.goal_eval.proofs.AskedTraitLemmas.{made-plain, made-const}
use Rattle.goal_eval.proofs.assembly.candidates.candidate_list.Goals as goal

pub returns-in-None-clause-list : goal.returns-in-None-clause-list
returns-in-None-clause-list c m s =
    made-plain c.args.setting.now c.of_lists-lists.result c.args.terms.now c.trait_list.new.terms c.args.asked.now (candidate_at c.args.terms.now c.args.candidate.now) c.trait_list.result
    (ap (λ r. r.now) c.of_lists-lists.ensures.rows) c.of_lists-lists.ensures.mode c.in-None.is (c.trait_list.ensures.list c.args.setting.now.environment.now) m s

pub returns-clause-list : goal.returns-clause-list
returns-clause-list c m s =
    made-const c.args.setting.now c.of_lists-lists.result c.args.terms.now c.effect_list.new.terms c.args.asked.now c.in-Some.constness (candidate_at c.args.terms.now c.args.candidate.now)
    c.effect_list.result (ap (λ r. r.now) c.of_lists-lists.ensures.rows) c.of_lists-lists.ensures.mode c.in-Some.is (c.effect_list.ensures.list c.args.setting.now.environment.now) m s

pub returns-in-None-clause-caused : goal.returns-in-None-clause-caused
returns-in-None-clause-caused c =
    listed-caused c.of_lists-lists.result.rows.now c.args.setting.now.rows.now c.trait_list.new.terms c.trait_list.result _ (ap (λ r. r.now) c.of_lists-lists.ensures.rows)
    (trait_list-caused (setting_at c.of_lists-lists.result c.args.setting.now.environment.now) c.args.asked.now.trait_id (erased_all c.args.terms.now c.args.asked.now.args.now)
    (candidate_at c.args.terms.now c.args.candidate.now)) (c.trait_list.ensures.list c.args.setting.now.environment.now)

pub returns-clause-caused : goal.returns-clause-caused
returns-clause-caused c =
    listed-caused c.of_lists-lists.result.rows.now c.args.setting.now.rows.now c.effect_list.new.terms c.effect_list.result _ (ap (λ r. r.now) c.of_lists-lists.ensures.rows)
    (effect_list-caused (setting_at c.of_lists-lists.result c.args.setting.now.environment.now) c.in-Some.constness c.args.asked.now.trait_id
    (erased_all c.args.terms.now c.args.asked.now.args.now) (candidate_at c.args.terms.now c.args.candidate.now)) (c.effect_list.ensures.list c.args.setting.now.environment.now)
