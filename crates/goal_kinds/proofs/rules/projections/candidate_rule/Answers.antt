use Rattle.std.proofs.Common.{[], ◌≡◌, sym, subst, None}
use Rattle.std.specs.Prelude.{IfOk, IfErr}
use Rattle.goal_kinds.specs.CandidateRules.{IsRefusal}
use Rattle.goal_lists.specs.Interned.{candidate_at}
use Rattle.goal_lists.specs.InternedEntries.{setting_at}
use Rattle.goal_lists.specs.NamedRows.{ListIsSorted}
use Rattle.goal_kinds.specs.RuleLists.{IsListed, list_then}
use Rattle.goal_kinds.proofs.SortedProjections.{asked_projection-sorted}
use Rattle.goal_kinds.proofs.rules.projections.candidate_rule.Goals as goal

pub rule_of_list-requires-clause-sorted : goal.rule_of_list-requires-clause-sorted
rule_of_list-requires-clause-sorted c =
    subst ListIsSorted (sym (c.in_ok-list.ensures.list []))
    (asked_projection-sorted c.args.asked.now.alias (setting_at c.args.setting []) (candidate_at c.args.terms.now c.args.candidate.now) c.requires.sorted)

pub returns-clause-listed : goal.returns-clause-listed
returns-clause-listed c env =
    subst (λ l. IfOk c.rule_of_list.result (λ r. IsListed c.args.setting.rows.now r (list_then c.args.then l))) (c.in_ok-list.ensures.list env)
    (c.rule_of_list.ensures.listed c.args.setting.rows.now (c.in_ok-list.ensures.named c.requires.row))

pub returns-clause-refused : goal.returns-clause-refused
returns-clause-refused c env = subst (λ l. IfErr c.rule_of_list.result (IsRefusal (l ≡ None))) (c.in_ok-list.ensures.list env) c.rule_of_list.ensures.refused
