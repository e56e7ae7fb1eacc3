use Rattle.std.proofs.Common.{◌≡◌, List, map, take}
use Rattle.std.specs.List.{All}
use Rattle.goal_terms.specs.Tree.{Tree}
use Rattle.goal_lists.specs.Interned.{AreIn, TraitIn, trait_at}
use Rattle.goal_lists.proofs.EachRuleLemmas.{of_type}
use Rattle.goal_lists.proofs.builtin.constituents.each_const.Given as goal

abbrev pub invariant-loop-ty : goal.invariant-loop-ty
invariant-loop-ty l = record {
  within : (T : List Tree) → AreIn T l.tys → All (TraitIn T) l.conditions.items;
  so_far : (T : List Tree) → map (trait_at T) l.conditions.items ≡ map (of_type T l.trait_id) (take l.ty-index l.tys);
}
