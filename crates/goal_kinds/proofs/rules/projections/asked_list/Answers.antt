use Rattle.std.proofs.Common.{ap, ◌∙◌}
use Rattle.std.proofs.lemmas.Result.{IfOk-weaker}
use Rattle.goal_lists.specs.Interned.{candidate_at, erased_all}
use Rattle.goal_lists.specs.InternedEntries.{setting_at}
use Rattle.goal_lists.proofs.InternedLemmas.{candidate_same-grown}
use Rattle.goal_lists.proofs.NamedRowLemmas.{found-again}
use Rattle.goal_kinds.proofs.ProjectionFaceLemmas.{asked-made, same-asked}
use Rattle.goal_kinds.proofs.rules.projections.asked_list.Goals as goal

pub returns-clause-list : goal.returns-clause-list
returns-clause-list c env =
    IfOk-weaker c.projection_list.result _ _
    (λ o made. made
    ∙ asked-made c.args.asked.now (setting_at c.args.setting env) c.in-Some.item _ _ _ (candidate_at c.args.terms.now c.args.candidate.now) c.in-Some.ensures.asked
    (same-asked c.in-Some.item c.args.asked.now _ (ap (erased_all c.alias_given.new.terms) c.as_slice.ensures.value ∙ c.in_ok-alias.ensures.trees))
    c.in_ok-alias.ensures.itself
    (candidate_same-grown c.args.terms.now c.alias_given.new.terms c.in_ok-alias.ensures.kept c.args.candidate.now c.requires))
    (c.projection_list.ensures.list env)

pub returns-clause-named : goal.returns-clause-named
returns-clause-named c row =
    c.projection_list.ensures.named row
    (found-again (λ r. r.id.0) c.args.setting.rows.now.items.items c.in-Some.item.id.0 c.in-Some.item.row.now c.in-Some.ensures.found)
