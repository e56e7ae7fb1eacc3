use Rattle.std.proofs.Common.{sym, ap, ◌∙◌, subst}
use Rattle.goal_interner.specs.TableMeaning.{IsTable, trees_of_nodes}
use Rattle.goal_interner.proofs.TableLemmas.{table-none, trees-none}
use Rattle.goal_interner.proofs.TermFlagLemmas.{flags-none}
use Rattle.goal_interner.proofs.term_table.TermTable.new.Goals as goal

pub invariant_of-result : goal.invariant_of-result
invariant_of-result c = record {
  table = subst IsTable (sym c.new.ensures.empty) table-none;
  flags = flags-none c.new.result.keys c.new-2.result.items c.new-2.ensures.items (ap trees_of_nodes c.new.ensures.empty ∙ trees-none);
}

pub returns : goal.returns
returns c = ap trees_of_nodes c.new.ensures.empty ∙ trees-none
