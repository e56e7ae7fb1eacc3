use Rattle.std.proofs.Common.{◌++◌, ◌∷◌, [], Some, refl, sym, ap, ◌∙◌}
use Rattle.std.specs.Option.{option_map}
use Rattle.goal_lists.specs.Entries.{arguments, given_arguments, row_clauses, evaluation}
use Rattle.goal_lists.specs.ImplTerms.{trait_args}
use Rattle.goal_lists.specs.Interned.{erased_all}
use Rattle.goal_lists.specs.InternedEntries.{entries_at, projection_at}
use Rattle.goal_lists.specs.TraitLists.{impl_match}
use Rattle.goal_lists.proofs.FewEntries.{three-at, three-in}
use Rattle.goal_lists.proofs.ListPartLemmas.{joined-at, joined-in}
use Rattle.goal_lists.proofs.ProjectionListLemmas.{first-erased, first_in}
use Rattle.goal_lists.proofs.NamedRowLemmas.{three-named, joined-named}
use Rattle.goal_lists.proofs.lists.projections.impl_entries.Goals as goal

pub returns-clause-within : goal.returns-clause-within
returns-clause-within c T here said =
    joined-in T c.append-2.new.self.items c.append.new.self.items c.args.said.items c.in_ok-append-2.ensures.items
    (joined-in T c.append.new.self.items c.in_ok-entries.entries.items c.in_ok-further.further.items c.in_ok-append.ensures.items
    (c.in_ok-entries.ensures.within T (first_in T c.args.asked.now.trait_params c.args.asked.now.args.now c.first_of.result.now c.first_of.ensures here.0))
    (three-in T _ _ _ _ c.in_ok-further.ensures.items tt (c.in_ok-named.ensures.within T here.0) tt)) said

pub returns-clause-entries : goal.returns-clause-entries
returns-clause-entries c T =
    let match_entries = impl_match c.args.row.now (trait_args (projection_at T c.args.asked.now)) [] in
    let own =
    evaluation ∷ arguments (given_arguments (erased_all T c.args.asked.now.args.now)) ∷ row_clauses c.args.asked.now.item.now.own_predicates.items 1 ∷ [] in
    joined-at T c.append-2.new.self.items c.append.new.self.items c.args.said.items (match_entries ++ own) (entries_at T c.args.said.items)
    c.in_ok-append-2.ensures.items
    (joined-at T c.append.new.self.items c.in_ok-entries.entries.items c.in_ok-further.further.items match_entries own c.in_ok-append.ensures.items
    (c.in_ok-entries.ensures.entries T
    ∙ ap (λ ts. impl_match c.args.row.now ts [])
    (first-erased T c.args.asked.now.trait_params c.args.asked.now.args.now c.first_of.result.now c.first_of.ensures))
    (three-at T _ _ _ _ _ _ _ c.in_ok-further.ensures.items refl (c.in_ok-named.ensures.entry T) (ap (λ cs. row_clauses cs 1) c.as_slice.ensures.value))) refl

pub returns-clause-named : goal.returns-clause-named
returns-clause-named c t row item said =
    joined-named t c.append-2.new.self.items c.append.new.self.items c.args.said.items c.in_ok-append-2.ensures.items
    (joined-named t c.append.new.self.items c.in_ok-entries.entries.items c.in_ok-further.further.items c.in_ok-append.ensures.items (c.in_ok-entries.ensures.named t row)
    (three-named t _ _ _ _ c.in_ok-further.ensures.items tt (c.in_ok-named.ensures.named t)
    (ap (option_map (λ r. r.own_predicates.items)) item ∙ ap Some (sym c.as_slice.ensures.value)))) said
