use Rattle.std.proofs.Common.{◌≡◌, ◌∙◌, [], ◌∷◌, ◌++◌, ap, sym, subst, map, Some, arith}
use Rattle.std.specs.Prelude.{slice_get}
use Rattle.goal_terms.specs.TreeWith.{tree_with}
use Rattle.goal_interner.specs.TermFlags.{flags_of}
use Rattle.goal_interner.specs.TableMeaning.{tree_at, trees_of_nodes, AreDistinct}
use Rattle.goal_interner.proofs.TableLemmas.{IsKept, tree_at-get}
use Rattle.goal_interner.proofs.InternLemmas.{found_before, added_trees, table-push, added_keeps, added_number, keeps-from, within-get, only-get}
use Rattle.goal_interner.proofs.TermFlagLemmas.{flags-push}
use Rattle.goal_interner.proofs.term_table.TermTable.intern_node.Goals as goal

before : (c : goal.After-drop-added) → slice_get c.args.self.now c.in-Some.place ≡ Some (tree_with c.args.node (map (tree_at c.args.self.now) c.args.parts.items))
before c =
    found_before c.self.inside.nodes.keys c.args.self.now c.self.invariant.table c.self.view_is (record { node = c.args.node; parts = c.args.parts }) c.in-Some.place
    (sym c.in-Some.ensures.index)

pub returns-in-Some-clause-within : goal.returns-in-Some-clause-within
returns-in-Some-clause-within c = within-get c.args.self.now c.in-Some.place _ (before c)

pub returns-in-Some-clause-tree : goal.returns-in-Some-clause-tree
returns-in-Some-clause-tree c = tree_at-get c.args.self.now (record { 0 = c.in-Some.place }) _ (before c)

pub returns-in-Some-clause-only : goal.returns-in-Some-clause-only
returns-in-Some-clause-only c =
    only-get c.args.self.now (subst AreDistinct c.self.view_is c.self.invariant.table.distinct) (record { 0 = c.in-Some.place }) _ (before c)

pub invariant_of-self-2 : goal.invariant_of-self-2
invariant_of-self-2 c = record {
  table =
      table-push c.self.inside.nodes.keys c.insert_full.new.self.keys c.args.self.now c.self.invariant.table c.self.view_is (record { node = c.args.node; parts = c.args.parts })
      c.requires.within c.requires.fits (sym c.in_default.ensures.found) c.in_ok-place.ensures.keys (omega arith);
  flags = flags-push c.self.inside.nodes.keys c.insert_full.new.self.keys c.self.inside.flags.items c.push_reserved.new.self.items c.args.self.now _ c.flags_with-flags.result
      c.self.invariant c.self.view_is
      (added_trees c.self.inside.nodes.keys c.insert_full.new.self.keys c.args.self.now (record { node = c.args.node; parts = c.args.parts }) c.self.view_is
      (sym c.in_default.ensures.found) c.in_ok-place.ensures.keys)
      (c.flags_with-flags.ensures ∙ ap (λ ids. flags_of (tree_with c.args.node (map (tree_at c.args.self.now) ids))) c.as_slice.ensures.value)
      (c.push_reserved.ensures.items ∙ ap (λ fs. fs ++ c.flags_with-flags.result ∷ []) c.in_ok-reserve.ensures.items);
}

kept : (c : goal.After-push_reserved) → IsKept c.args.self.now (trees_of_nodes c.insert_full.new.self.keys)
kept c =
    added_keeps c.self.inside.nodes.keys c.insert_full.new.self.keys c.args.self.now (record { node = c.args.node; parts = c.args.parts }) c.self.view_is
    (sym c.in_default.ensures.found) c.in_ok-place.ensures.keys

added : (c : goal.After-push_reserved) →
    slice_get (trees_of_nodes c.insert_full.new.self.keys) c.in_ok-place.place ≡ Some (tree_with c.args.node (map (tree_at c.args.self.now) c.args.parts.items))
added c =
    added_number c.self.inside.nodes.keys c.insert_full.new.self.keys c.args.self.now (invariant_of-self-2 c).table c.self.view_is
    (record { node = c.args.node; parts = c.args.parts }) c.requires.within (kept c) c.in_ok-place.place c.in_ok-place.ensures.stored

pub returns-clause-within : goal.returns-clause-within
returns-clause-within c = within-get (trees_of_nodes c.insert_full.new.self.keys) c.in_ok-place.place _ (added c)

pub returns-clause-tree : goal.returns-clause-tree
returns-clause-tree c = tree_at-get (trees_of_nodes c.insert_full.new.self.keys) (record { 0 = c.in_ok-place.place }) _ (added c)

pub returns-clause-only : goal.returns-clause-only
returns-clause-only c =
    let table = invariant_of-self-2 c in
    only-get (trees_of_nodes c.insert_full.new.self.keys) table.table.distinct (record { 0 = c.in_ok-place.place }) _ (added c)

pub returns-clause-kept : goal.returns-clause-kept
returns-clause-kept c = keeps-from c.args.self.now (trees_of_nodes c.insert_full.new.self.keys) (kept c)
