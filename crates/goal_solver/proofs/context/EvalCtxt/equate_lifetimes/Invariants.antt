use Rattle.std.proofs.Common.{◌≡◌, map, drop}
use Rattle.goal_interner.specs.TableMeaning.{tree_at, Keeps}
use Rattle.goal_infer.specs.RegionEquations.{AddsRegions}
use Rattle.goal_solver.specs.Relating.{ChangesInference, all_equated, AreIdentical}
use Rattle.goal_solver.proofs.context.EvalCtxt.equate_lifetimes.Given as goal

abbrev pub invariant-loop-i : goal.invariant-loop-i
invariant-loop-i l = record {
  kept : Keeps l.fn.self.terms l.self.terms;
  alone : ChangesInference l.fn.self l.self;
  adds : AddsRegions l.fn.self.inference l.self.inference;
  listed : AreIdentical (map (tree_at l.fn.self.terms) l.left) (map (tree_at l.fn.self.terms) l.right) →
      all_equated (drop l.i (map (tree_at l.fn.self.terms) l.left)) (drop l.i (map (tree_at l.fn.self.terms) l.right)) l.self.inference
      ≡ all_equated (map (tree_at l.fn.self.terms) l.left) (map (tree_at l.fn.self.terms) l.right) l.fn.self.inference;
}
