use Rattle.goal_lists.specs.Candidates.{error}
use Rattle.goal_lists.specs.InternedEntries.{setting_at}
use Rattle.goal_lists.specs.RowWords.{given}
use Rattle.goal_lists.specs.TraitLists.{trait_list}
use Rattle.goal_kinds.proofs.FaceLemmas.{listed-yes}
use Rattle.goal_kinds.proofs.rules.traits.error_rule.Goals as goal

pub returns-clause-listed : goal.returns-clause-listed
returns-clause-listed c = λ env.
    listed-yes c.args.setting.rows.now (trait_list (setting_at c.args.setting env) c.args.asked.now.def_id (given c.args.asked.now.args) error) c.candidate_rule.result
    (c.candidate_rule.ensures.listed env)
