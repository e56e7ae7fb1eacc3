use Rattle.std.proofs.Common.{[], sym, subst}
use Rattle.std.proofs.lemmas.Result.{IfOk-weaker}
use Rattle.goal_lists.specs.Levels.{level}
use Rattle.goal_lists.specs.NamedRows.{IsSorted}
use Rattle.goal_lists.specs.RowWords.{given}
use Rattle.goal_lists.specs.Words.{Each}
use Rattle.goal_kinds.proofs.AliasFaceLemmas.{alias_rule-listed, alias_rule-kind, alias_rule-records, alias_rule-means, alias_rule-coherent, alias_rule-defines, same-use}
use Rattle.goal_lists.proofs.GrowingLists.{if_ok-both}
use Rattle.goal_kinds.proofs.SortedProjections.{alias_list-sorted}
use Rattle.goal_kinds.proofs.rules.aliases.alias_rule.Goals as goal

pub rule_of_list-requires-clause-sorted : goal.rule_of_list-requires-clause-sorted
rule_of_list-requires-clause-sorted c =
    subst (Each IsSorted) (sym (c.in_ok-asked_list.ensures.entries [])) (alias_list-sorted _ c.args.goal.now.predicate.alias.kind (given c.args.goal.now.predicate.alias.args))

pub returns-clause-list : goal.returns-clause-list
returns-clause-list c env =
    alias_rule-listed c.setting_of-setting.result c.args.tables.now c.args.mode.now env c.args.goal.now.predicate.alias.kind (given c.args.goal.now.predicate.alias.args) _ c.rule_of_list.result
    c.setting_of-setting.ensures.rows c.setting_of-setting.ensures.mode (c.in_ok-asked_list.ensures.entries env)
    (c.rule_of_list.ensures.listed c.setting_of-setting.result.rows.now c.in_ok-asked_list.ensures.named)

pub returns-clause-says : goal.returns-clause-says
returns-clause-says c S n here =
    IfOk-weaker c.rule_of_list.result _ _
    (λ r listed stands. alias_rule-means c.args.tables.now c.args.mode.now [] c.args.goal.now.predicate.alias.kind (given c.args.goal.now.predicate.alias.args) r listed S here n
    (alias_rule-kind _ _ _ c.projected.ensures c.is_some.ensures c.if-is_some.false) stands)
    (returns-clause-list c [])

pub returns-clause-records : goal.returns-clause-records
returns-clause-records c =
    IfOk-weaker c.rule_of_list.result _ _
    (λ r listed. alias_rule-records c.args.tables.now c.args.mode.now [] c.args.goal.now.predicate.alias.kind (given c.args.goal.now.predicate.alias.args) r listed)
    (returns-clause-list c [])

pub returns-clause-undecided : goal.returns-clause-undecided
returns-clause-undecided c S n i u coherence kind =
    IfOk-weaker c.rule_of_list.result _ _
    (λ r listed. alias_rule-coherent c.args.tables.now c.args.mode.now [] c.args.goal.now.predicate.alias.kind i (given c.args.goal.now.predicate.alias.args) r coherence kind listed S (level S n) u)
    (returns-clause-list c [])

pub returns-clause-defines : goal.returns-clause-defines
returns-clause-defines c f e =
    if_ok-both _ _ _
    (λ r keys all. alias_rule-defines c.asked_list.new.terms c.args.goal.now.predicate.alias _ f c.in_ok-asked_list.field-0 r.entries.items
    (c.in_ok-asked_list.ensures.defined f
    (same-use _ c.args.tables.now _ c.args.mode.now c.args.goal.now.predicate.alias.kind f c.setting_of-setting.ensures.rows c.setting_of-setting.ensures.mode e)) keys all)
    c.rule_of_list.result c.rule_of_list.ensures.keys c.rule_of_list.ensures.expected
