use Rattle.std.proofs.Common.{◌∷◌, ap, ap₂, ◌∙◌}
use Rattle.std.proofs.lemmas.Result.{IfOk-weaker}
use Rattle.goal_lists.specs.Entries.{arguments, given_arguments, row_clauses, evaluation}
use Rattle.goal_lists.specs.ImplTerms.{trait_args}
use Rattle.goal_lists.specs.TraitLists.{impl_match, list_by_polarity}
use Rattle.goal_lists.proofs.GrowingEntries.{projection_in-grown, projection_same-grown}
use Rattle.goal_lists.proofs.lists.projections.impl_list.Goals as goal

pub returns-clause-within : goal.returns-clause-within
returns-clause-within c =
    c.list_by_polarity.ensures.within c.said_entries.new.terms
    (c.in_ok-entries.ensures.within c.said_entries.new.terms
    (projection_in-grown c.args.terms.now c.said_entries.new.terms c.in_ok-said.ensures.kept c.args.asked.now c.requires) c.in_ok-said.ensures.within)

pub returns-clause-list : goal.returns-clause-list
returns-clause-list c env =
    IfOk-weaker c.list_by_polarity.result _ _
    (λ o by. by
    ∙ ap (list_by_polarity c.args.setting.mode.now c.args.row.now.polarity)
    (c.in_ok-entries.ensures.entries c.said_entries.new.terms
    ∙ ap₂ (λ p es. impl_match c.args.row.now (trait_args p)
    (evaluation ∷ arguments (given_arguments p.args) ∷ row_clauses p.item.own_predicates.items 1 ∷ es))
    (projection_same-grown c.args.terms.now c.said_entries.new.terms c.in_ok-said.ensures.kept c.args.asked.now c.requires) (c.in_ok-said.ensures.entries env)))
    (c.list_by_polarity.ensures.list c.said_entries.new.terms)
