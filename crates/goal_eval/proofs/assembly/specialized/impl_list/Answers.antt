use Rattle.std.proofs.Common.{ap}
use Rattle.goal_lists.specs.Candidates.{by_impl}
use Rattle.goal_lists.specs.Interned.{erased_all}
use Rattle.goal_lists.specs.InternedEntries.{setting_at}
use Rattle.goal_lists.proofs.CauseLemmas.{trait_list-caused}
use Rattle.goal_eval.proofs.EffectLemmas.{listed-caused}
use Rattle.goal_eval.proofs.AskedTraitLemmas.{made-impl}
use Rattle.goal_eval.proofs.assembly.specialized.impl_list.Goals as goal

pub returns-clause-list : goal.returns-clause-list
returns-clause-list c m s =
    made-impl c.args.setting.now c.of_lists.result c.args.terms.now c.trait_list.new.terms c.args.args.now c.args.row.now c.trait_list.result
    (ap (λ r. r.now) c.of_lists.ensures.rows) c.of_lists.ensures.mode (c.trait_list.ensures.list c.args.setting.now.environment.now) m s

pub returns-clause-caused : goal.returns-clause-caused
returns-clause-caused c =
    listed-caused c.of_lists.result.rows.now c.args.setting.now.rows.now c.trait_list.new.terms c.trait_list.result _ (ap (λ r. r.now) c.of_lists.ensures.rows)
    (trait_list-caused (setting_at c.of_lists.result c.args.setting.now.environment.now) c.args.row.now.trait_id (erased_all c.args.terms.now c.args.args.now)
    (by_impl c.args.row.now)) (c.trait_list.ensures.list c.args.setting.now.environment.now)
