use Rattle.std.proofs.Common.{◌≡◌, ◌<◌, ap, subst, length, arith}
use Rattle.goal_terms.specs.Folding.{shifted}
use Rattle.goal_interner.specs.TableMeaning.{tree_at, trees_of_nodes, AreDistinct}
use Rattle.goal_interner.proofs.ShiftLemmas.{shifted_number-0}
use Rattle.goal_interner.proofs.TableLemmas.{length-trees, same_number}
use Rattle.goal_interner.proofs.term_table.TermTable.below_no_binder.Goals as goal

within : (c : goal.After-self) → c.args.id.0 < length c.self.inside.nodes.keys
within c =
    let same : length (trees_of_nodes c.self.inside.nodes.keys) ≡ length c.args.self.now = ap length c.self.view_is in
    omega (arith, same, length-trees c.self.inside.nodes.keys, c.requires)

pub returns-clause-itself : goal.returns-clause-itself
returns-clause-itself c =
    subst (λ ts. shifted 0 0 (tree_at ts c.args.id) ≡ tree_at ts c.args.id) c.self.view_is
    (shifted_number-0 c.self.inside.nodes.keys c.self.invariant.table c.args.id (within c))

pub returns-clause-only : goal.returns-clause-only
returns-clause-only c other l e =
    same_number c.args.self.now (subst AreDistinct c.self.view_is c.self.invariant.table.distinct) other c.args.id l c.requires e
