use Rattle.std.proofs.Common.{◌∙◌}
use Rattle.std.proofs.lemmas.Result.{IfOk-weaker}
use Rattle.goal_lists.proofs.GrowingEntries.{projection_same-grown}
use Rattle.goal_lists.proofs.InternedLemmas.{same-grown}
use Rattle.goal_lists.proofs.ProjectionListLemmas.{same-listed}
use Rattle.goal_lists.proofs.lists.projections.rule_list.Goals as goal

pub returns-clause-list : goal.returns-clause-list
returns-clause-list c =
    let T = c.args.terms.now in
    let U = c.term_rule.new.terms in
    let kept = c.in_ok-listed.ensures.kept in
    IfOk-weaker c.listed_list.result _ _
    (λ o made. made
    ∙ same-listed _ _ _ _ _ _ (projection_same-grown T U kept c.args.asked.now c.requires) (same-grown T U kept c.args.asked.now.rigid_alias c.requires.1)
    c.in_ok-listed.ensures.listed)
    c.listed_list.ensures.list
