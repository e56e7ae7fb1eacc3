use Rattle.goal_lists.specs.Candidates.{built_in}
use Rattle.goal_lists.specs.InternedEntries.{setting_at}
use Rattle.goal_kinds.specs.ProjectionKind.{asked_projection_list}
use Rattle.goal_kinds.proofs.FaceLemmas.{listed-yes}
use Rattle.goal_kinds.proofs.rules.projections.built_in_term_rule.Goals as goal

pub returns-clause-listed : goal.returns-clause-listed
returns-clause-listed c = λ env.
    listed-yes c.args.setting.rows.now (asked_projection_list c.args.asked.now.alias (setting_at c.args.setting env) built_in) c.candidate_rule.result
    (c.candidate_rule.ensures.listed env)
