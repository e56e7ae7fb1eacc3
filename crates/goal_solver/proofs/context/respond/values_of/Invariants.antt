use Rattle.std.proofs.Common.{take}
use Rattle.std.specs.List.{AllZip}
use Rattle.goal_interner.specs.TableMeaning.{Keeps}
use Rattle.goal_infer.specs.Resolution.{resolution}
use Rattle.goal_solver.specs.Responses.{IsValueOf, variables_at}
use Rattle.goal_solver.proofs.context.respond.values_of.Given as goal

abbrev pub invariant-loop-number : goal.invariant-loop-number
invariant-loop-number l = record {
  kept : Keeps l.fn.terms l.terms;
  listed : AllZip (IsValueOf (resolution l.fn.terms l.inference)) (variables_at l.inference (take l.number-index l.numbers)) l.values.items;
}
