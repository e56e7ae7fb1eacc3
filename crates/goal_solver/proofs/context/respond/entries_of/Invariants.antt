use Rattle.std.proofs.Common.{take}
use Rattle.std.specs.List.{AllZip}
use Rattle.goal_interner.specs.TableMeaning.{Keeps}
use Rattle.goal_infer.specs.Resolution.{resolution}
use Rattle.goal_solver.specs.Responses.{IsEntryOf}
use Rattle.goal_solver.proofs.context.respond.entries_of.Given as goal

abbrev pub invariant-loop-entry : goal.invariant-loop-entry
invariant-loop-entry l = record {
  kept : Keeps l.fn.terms l.terms;
  listed : AllZip (IsEntryOf (resolution l.fn.terms l.inference)) (take l.entry-index l.entries) l.listed.items;
}
