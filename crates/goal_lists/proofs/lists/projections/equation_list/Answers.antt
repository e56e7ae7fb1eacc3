use Rattle.std.proofs.Common.{Some, refl, sym, ap, ◌∙◌}
use Rattle.std.specs.Option.{option_map}
use Rattle.goal_interner.specs.TableMeaning.{tree_at}
use Rattle.goal_lists.specs.Entries.{equal_terms, row_clauses}
use Rattle.goal_lists.specs.Interned.{erased_at, erased_all}
use Rattle.goal_lists.specs.InternedEntries.{projection_at}
use Rattle.goal_lists.proofs.ClauseListLemmas.{loose-list, other-list, same-list, parts-erased, alias-args_in}
use Rattle.goal_lists.proofs.FewEntries.{four-at, four-in}
use Rattle.goal_lists.proofs.NamedRowLemmas.{four-named}
use Rattle.goal_lists.proofs.lists.projections.equation_list.Goals as goal

pub returns-in_default : goal.returns-in_default
returns-in_default c = record {
  within = tt;
  list =
      loose-list (projection_at c.args.terms.now c.args.asked.now) (tree_at c.args.terms.now c.args.alias) (erased_at c.args.terms.now c.args.term) c.node.result
      c.node.ensures.top c.in_default.not-Alias;
  named = λ t item. tt;
}

pub returns-then-not-projects-clause-list : goal.returns-then-not-projects-clause-list
returns-then-not-projects-clause-list c =
    other-list (projection_at c.args.terms.now c.args.asked.now) (tree_at c.args.terms.now c.args.alias) (erased_at c.args.terms.now c.args.term) c.node.result
    c.in-Alias.kind c.node.ensures.top c.in-Alias.is (c.projects.ensures.other c.if-not-projects.true)

pub returns-clause-within : goal.returns-clause-within
returns-clause-within c =
    four-in c.args.terms.now _ _ _ _ _ c.in_ok-vec.ensures.items
    (c.in_ok-equal.ensures.within c.args.terms.now
    (alias-args_in c.args.terms.now c.args.alias c.node.result c.in-Alias.kind c.parts.result.now c.in-Alias.is c.node.ensures.fits c.parts.ensures.trees
    c.parts.ensures.earlier c.requires.alias.0) c.requires.asked.0)
    (c.in_ok-named.ensures.within c.args.terms.now c.requires.asked.0) tt c.requires.term

pub returns-clause-list : goal.returns-clause-list
returns-clause-list c =
    same-list (projection_at c.args.terms.now c.args.asked.now) (tree_at c.args.terms.now c.args.alias) (erased_at c.args.terms.now c.args.term) c.node.result
    c.in-Alias.kind _ c.node.ensures.top c.in-Alias.is (c.projects.ensures.same c.if-not-projects.false)
    (four-at c.args.terms.now _ _ _ _ _ _ _ _ _ c.in_ok-vec.ensures.items
    (c.in_ok-equal.ensures.entry c.args.terms.now
    ∙ ap (λ bs. equal_terms bs (erased_all c.args.terms.now c.args.asked.now.args.now))
    (parts-erased c.args.terms.now c.args.alias c.parts.result.now c.parts.ensures.trees))
    (c.in_ok-named.ensures.entry c.args.terms.now) (ap (λ cs. row_clauses cs 0) c.as_slice.ensures.value) refl)

pub returns-clause-named : goal.returns-clause-named
returns-clause-named c t item =
    four-named t _ _ _ _ _ c.in_ok-vec.ensures.items (c.in_ok-equal.ensures.named t) (c.in_ok-named.ensures.named t)
    (ap (option_map (λ r. r.own_predicates.items)) item ∙ ap Some (sym c.as_slice.ensures.value)) tt
