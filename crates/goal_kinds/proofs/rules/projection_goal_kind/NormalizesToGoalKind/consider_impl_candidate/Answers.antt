use Rattle.std.proofs.Common.{◌∙◌, ap, sym}
use Rattle.goal_tables.specs.Rows.{impl_of}
use Rattle.goal_tables.specs.declared.rows.Tables.{Tables}
use Rattle.goal_lists.specs.Answers.{setting_of}
use Rattle.goal_lists.specs.Candidates.{by_impl}
use Rattle.goal_kinds.specs.ProjectionKind.{ProjectionCandidateRefuted, refuses_term}
use Rattle.goal_kinds.specs.RuleWords.{projection_in}
use Rattle.goal_kinds.proofs.ImplTermKindLemmas.{refused-term}
use Rattle.goal_kinds.proofs.ProjectionFaceLemmas.{projection-gives, projection-refuted, projection-told}
use Rattle.goal_kinds.proofs.TraitKindLemmas.{refusal-of}
use Rattle.goal_kinds.proofs.rules.projection_goal_kind.NormalizesToGoalKind.consider_impl_candidate.Goals as goal

pub returns-clause-gives : goal.returns-clause-gives
returns-clause-gives c row found same =
    projection-gives c.setting_of-setting.result c.args.tables.now c.args.mode.now c.args.goal.now.param_env.items c.args.goal.now.predicate.alias (by_impl row)
    c.setting_of-setting.ensures.rows c.setting_of-setting.ensures.mode c.args.then c.impl_term_rule.result
    (c.impl_term_rule.ensures.listed c.args.goal.now.param_env.items row (ap (λ t. impl_of t c.args.impl_id) c.setting_of-setting.ensures.rows ∙ found))

pub returns-clause-refuted : goal.returns-clause-refuted
returns-clause-refuted c row found same =
    projection-refuted c.setting_of-setting.result c.args.tables.now c.args.mode.now c.args.goal.now.param_env.items c.args.goal.now.predicate.alias (by_impl row)
    c.setting_of-setting.ensures.rows c.setting_of-setting.ensures.mode c.args.then c.impl_term_rule.result
    (c.impl_term_rule.ensures.listed c.args.goal.now.param_env.items row (ap (λ t. impl_of t c.args.impl_id) c.setting_of-setting.ensures.rows ∙ found))

pub returns-clause-list : goal.returns-clause-list
returns-clause-list c row found =
    projection-told c.setting_of-setting.result c.args.tables.now c.args.mode.now c.args.goal.now.param_env.items c.args.goal.now.predicate.alias (by_impl row)
    c.setting_of-setting.ensures.rows c.setting_of-setting.ensures.mode c.args.then c.impl_term_rule.result
    (c.impl_term_rule.ensures.listed c.args.goal.now.param_env.items row (ap (λ t. impl_of t c.args.impl_id) c.setting_of-setting.ensures.rows ∙ found))

pub returns-clause-fault : goal.returns-clause-fault
returns-clause-fault c row found its =
    let S = setting_of c.args.tables.now c.args.mode.now c.args.goal.now.param_env.items in
    let a = c.args.goal.now.predicate.alias in
    let refuses = λ (t : Tables). refuses_term c.args.mode.now a (projection_in t a) (impl_of t c.args.impl_id) in
    refusal-of (ProjectionCandidateRefuted a S 0 (by_impl row))
    (refuses_term c.setting_of-setting.result.mode.now a (projection_in c.setting_of-setting.result.rows.now a) (impl_of c.setting_of-setting.result.rows.now c.args.impl_id)) c.impl_term_rule.result
    c.impl_term_rule.ensures.refused c.impl_term_rule.ensures.accepted
    (λ e. refused-term S a c.args.goal.now.predicate.term c.args.impl_id row c.setting_of-setting.ensures.checked c.requires.accepted found its
    (sym (ap refuses c.setting_of-setting.ensures.rows)
    ∙ sym (ap (λ m. refuses_term m a (projection_in c.setting_of-setting.result.rows.now a) (impl_of c.setting_of-setting.result.rows.now c.args.impl_id)) c.setting_of-setting.ensures.mode) ∙ e))
