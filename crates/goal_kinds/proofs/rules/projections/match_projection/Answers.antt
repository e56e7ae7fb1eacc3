use Rattle.std.proofs.Common.{[], ◌≡◌, ap, sym, subst, None}
use Rattle.std.specs.Prelude.{IfOk, IfErr}
use Rattle.goal_kinds.specs.CandidateRules.{IsRefusal}
use Rattle.goal_lists.specs.Candidates.{assumption}
use Rattle.goal_lists.specs.InternedEntries.{setting_at}
use Rattle.goal_lists.specs.NamedRows.{CandidateIsSorted}
use Rattle.goal_kinds.specs.ProjectionKind.{asked_projection_list}
use Rattle.goal_kinds.specs.RuleLists.{IsListed, list_then}
use Rattle.goal_kinds.proofs.ProjectionFaceLemmas.{projection_said-given, projection_said-accepted}
use Rattle.goal_kinds.proofs.SortedProjections.{said-sorted}
use Rattle.goal_kinds.proofs.rules.projections.match_projection.Goals as goal

pub candidate_rule-requires-clause-sorted : goal.candidate_rule-requires-clause-sorted
candidate_rule-requires-clause-sorted c = subst CandidateIsSorted (ap assumption (sym c.in_ok-predicate.ensures.tree)) (said-sorted c.args.assumption.now.kind)

pub returns-clause-listed : goal.returns-clause-listed
returns-clause-listed c env =
    subst (λ k. IfOk c.candidate_rule.result (λ r. IsListed c.args.setting.rows.now r (list_then c.args.then (asked_projection_list c.args.asked.now.alias (setting_at c.args.setting env) k))))
    (ap assumption c.in_ok-predicate.ensures.tree) (c.candidate_rule.ensures.listed env)

pub returns-clause-refused : goal.returns-clause-refused
returns-clause-refused c env =
    subst (λ k. IfErr c.candidate_rule.result (IsRefusal (asked_projection_list c.args.asked.now.alias (setting_at c.args.setting env) k ≡ None)))
    (ap assumption c.in_ok-predicate.ensures.tree) (c.candidate_rule.ensures.refused env)

pub returns-clause-given : goal.returns-clause-given
returns-clause-given c =
    projection_said-given c.args.setting.rows.now (setting_at c.args.setting []) c.args.asked.now.alias c.args.assumption.now.kind c.args.then c.candidate_rule.result
    (subst (λ k. IfOk c.candidate_rule.result (λ r. IsListed c.args.setting.rows.now r (list_then c.args.then (asked_projection_list c.args.asked.now.alias (setting_at c.args.setting []) k))))
    (ap assumption c.in_ok-predicate.ensures.tree) (c.candidate_rule.ensures.listed []))

pub returns-clause-accepted : goal.returns-clause-accepted
returns-clause-accepted c e =
    projection_said-accepted (setting_at c.args.setting []) c.args.asked.now.alias c.args.assumption.now.kind c.candidate_rule.result e
    (subst (λ k. IfErr c.candidate_rule.result (IsRefusal (asked_projection_list c.args.asked.now.alias (setting_at c.args.setting []) k ≡ None)))
    (ap assumption c.in_ok-predicate.ensures.tree) (c.candidate_rule.ensures.refused []))
