use Rattle.std.proofs.Common.{[], ◌≡◌, ◌∙◌, ap, subst, None, eq-eqb}
use Rattle.std.specs.Prelude.{IfOk, IfErr}
use Rattle.goal_kinds.specs.CandidateRules.{IsRefusal, is_of_trait}
use Rattle.goal_lists.specs.Candidates.{assumption}
use Rattle.goal_lists.specs.InternedEntries.{setting_at}
use Rattle.goal_kinds.specs.RuleLists.{IsListed, list_then}
use Rattle.goal_lists.specs.RowWords.{given}
use Rattle.goal_lists.specs.TraitLists.{trait_list}
use Rattle.goal_kinds.proofs.TraitFaceLemmas.{said-given, said-accepted}
use Rattle.goal_kinds.proofs.rules.traits.match_trait.Goals as goal

pub returns-clause-listed : goal.returns-clause-listed
returns-clause-listed c env =
    subst (λ k. IfOk c.candidate_rule.result (λ r. IsListed c.args.setting.rows.now r (list_then c.args.then (trait_list (setting_at c.args.setting env) c.args.asked.now.def_id (given c.args.asked.now.args) k))))
    (ap assumption c.in_ok-predicate.ensures.tree) (c.candidate_rule.ensures.listed env)

pub returns-clause-given : goal.returns-clause-given
returns-clause-given c =
    said-given c.args.setting.rows.now (setting_at c.args.setting []) c.args.asked.now c.args.assumption.now.kind c.args.then c.candidate_rule.result
    (ap (is_of_trait c.args.asked.now) c.in-Trait.is ∙ eq-eqb c.in-Trait.said.trait_ref.def_id.0 c.args.asked.now.def_id.0 c.if-said-asked.false)
    (subst (λ k. IfOk c.candidate_rule.result (λ r. IsListed c.args.setting.rows.now r (list_then c.args.then (trait_list (setting_at c.args.setting []) c.args.asked.now.def_id (given c.args.asked.now.args) k))))
    (ap assumption c.in_ok-predicate.ensures.tree) (c.candidate_rule.ensures.listed []))

pub returns-clause-accepted : goal.returns-clause-accepted
returns-clause-accepted c e =
    said-accepted (setting_at c.args.setting []) c.args.asked.now c.args.assumption.now.kind c.candidate_rule.result e
    (subst (λ k. IfErr c.candidate_rule.result (IsRefusal (trait_list (setting_at c.args.setting []) c.args.asked.now.def_id (given c.args.asked.now.args) k ≡ None)))
    (ap assumption c.in_ok-predicate.ensures.tree) (c.candidate_rule.ensures.refused []))
