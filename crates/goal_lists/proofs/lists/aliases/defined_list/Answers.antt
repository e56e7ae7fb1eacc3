use Rattle.std.proofs.Common.{[], ◌∷◌, refl, sym, ap, ◌∙◌, subst}
use Rattle.goal_terms.specs.TreeOf.{tree_of_ty}
use Rattle.goal_lists.specs.Entries.{expected, hidden_type}
use Rattle.goal_lists.specs.Interned.{AreIn, erased_all}
use Rattle.goal_lists.specs.InternedEntries.{entries_at}
use Rattle.goal_lists.proofs.ListPartLemmas.{one-in}
use Rattle.goal_lists.proofs.lists.aliases.defined_list.Goals as goal

pub returns-clause-within : goal.returns-clause-within
returns-clause-within c T here = one-in T _ _ c.in_ok-vec.ensures.items (subst (AreIn T) (sym c.in_ok-ids.ensures) here)

pub returns-clause-entries : goal.returns-clause-entries
returns-clause-entries c T =
    ap (entries_at T) c.in_ok-vec.ensures.items ∙ ap (λ ids. expected (hidden_type c.args.id (erased_all T ids) c.args.first (tree_of_ty c.args.row.now.typeck_hidden) c.args.row.now.bounds.items) ∷ []) c.in_ok-ids.ensures

pub returns-clause-defined : goal.returns-clause-defined
returns-clause-defined c = (_, (refl, c.in_ok-ids.ensures, refl), c.in_ok-vec.ensures.items)
