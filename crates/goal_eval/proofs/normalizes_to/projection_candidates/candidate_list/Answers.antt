use Rattle.std.proofs.Common.{◌≡◌, ap, ◌∙◌}
use Rattle.goal_lists.specs.Interned.{erased_at, candidate_at}
use Rattle.goal_lists.specs.InternedEntries.{list_at, setting_at}
use Rattle.goal_lists.specs.ProjectionLists.{projection_list}
use Rattle.goal_lists.proofs.CauseLemmas.{projection_list-caused}
use Rattle.goal_eval.specs.Lists.{IsListFor}
use Rattle.goal_eval.specs.Outcomes.{setting_in, projection_at}
use Rattle.goal_eval.proofs.EffectLemmas.{listed-caused}
use Rattle.goal_eval.proofs.ListedTermLemmas.{made-for, candidate-for}
use Rattle.goal_lists.proofs.ResultLemmas.{ok-map}
use Rattle.goal_eval.proofs.normalizes_to.projection_candidates.candidate_list.Goals as goal

pub returns-clause-list : goal.returns-clause-list
returns-clause-list c = λ m s.
    let run = c.args.setting.now in
    let p = projection_at c.args.terms.now c.args.projection.now in
    let itself = erased_at c.args.terms.now c.args.projection.now.rigid_alias in
    let candidate = candidate_at c.args.terms.now c.args.candidate.now in
    ok-map (λ o. list_at c.projection_list.new.terms o ≡ projection_list (setting_at c.of_lists.result run.environment.now) p itself candidate)
    (λ o. IsListFor run (list_at c.projection_list.new.terms o) (projection_list (setting_in run m) p itself candidate))
    c.projection_list.result
    (λ o is. candidate-for run m s p itself candidate (list_at c.projection_list.new.terms o)
    (is ∙ ap (λ x. projection_list x p itself candidate) (made-for run c.of_lists.result c.of_lists.ensures.rows c.of_lists.ensures.mode)))
    (c.projection_list.ensures.list run.environment.now)

pub returns-clause-caused : goal.returns-clause-caused
returns-clause-caused c =
    let run = c.args.setting.now in
    let p = projection_at c.args.terms.now c.args.projection.now in
    let itself = erased_at c.args.terms.now c.args.projection.now.rigid_alias in
    let candidate = candidate_at c.args.terms.now c.args.candidate.now in
    listed-caused c.of_lists.result.rows.now run.rows.now c.projection_list.new.terms c.projection_list.result _ (ap (λ r. r.now) c.of_lists.ensures.rows)
    (projection_list-caused (setting_at c.of_lists.result run.environment.now) p itself candidate) (c.projection_list.ensures.list run.environment.now)
