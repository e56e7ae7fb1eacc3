use Rattle.std.proofs.Common.{Some, sym, ap, ◌∙◌}
use Rattle.std.specs.Option.{option_map}
use Rattle.goal_lists.specs.Entries.{arguments, followed_by, row_clauses}
use Rattle.goal_lists.proofs.FewEntries.{four-at, four-in}
use Rattle.goal_lists.proofs.ProjectionListLemmas.{behind-erased, behind_in, other_header-made}
use Rattle.goal_lists.proofs.NamedRowLemmas.{other-header, four-named}
use Rattle.goal_lists.proofs.lists.projections.other_impl_entries.Goals as goal

pub returns-clause-within : goal.returns-clause-within
returns-clause-within c T here =
    four-in T _ _ _ _ _ c.in_ok-vec.ensures.items tt tt
    (c.in_ok-followed.ensures.within T (behind_in T c.args.asked.now.trait_params c.args.asked.now.args.now c.behind.result.now c.behind.ensures here.0))
    (c.definition_value-said.ensures.within T)

pub returns-clause-entries : goal.returns-clause-entries
returns-clause-entries c T =
    four-at T _ _ _ _ _ _ _ _ _ c.in_ok-vec.ensures.items
    (other_header-made _ _ _ _ _ _ 0 c.as_slice.ensures.value c.as_slice-2.ensures.value c.as_slice-args.ensures.value)
    (ap (λ cs. row_clauses cs 2) c.as_slice-3.ensures.value)
    (c.in_ok-followed.ensures.entry T
    ∙ ap (λ ts. arguments (followed_by 2 ts)) (behind-erased T c.args.asked.now.trait_params c.args.asked.now.args.now c.behind.result.now c.behind.ensures))
    (c.definition_value-said.ensures.entry T)

pub returns-clause-named : goal.returns-clause-named
returns-clause-named c t row other definition =
    four-named t _ _ _ _ _ c.in_ok-vec.ensures.items
    (other-header t c.args.other.now c.args.row.now 0 _ _ _ other row c.as_slice.ensures.value c.as_slice-2.ensures.value c.as_slice-args.ensures.value)
    (ap (option_map (λ r. r.predicates.items)) other ∙ ap Some (sym c.as_slice-3.ensures.value)) (c.in_ok-followed.ensures.named t)
    (c.definition_value-said.ensures.named t definition)
