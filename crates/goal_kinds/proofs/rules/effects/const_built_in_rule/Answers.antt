use Rattle.goal_lists.specs.Candidates.{built_in}
use Rattle.goal_kinds.specs.EffectKind.{asked_effect_list}
use Rattle.goal_lists.specs.InternedEntries.{setting_at}
use Rattle.goal_kinds.proofs.FaceLemmas.{listed-yes}
use Rattle.goal_kinds.proofs.rules.effects.const_built_in_rule.Goals as goal

pub returns-clause-listed : goal.returns-clause-listed
returns-clause-listed c = λ env.
    listed-yes c.args.setting.rows.now (asked_effect_list c.args.asked.now (setting_at c.args.setting env) built_in) c.candidate_rule.result
    (c.candidate_rule.ensures.listed env)
