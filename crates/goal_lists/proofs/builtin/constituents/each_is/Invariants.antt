use Rattle.std.proofs.Common.{◌≡◌, List, map, take}
use Rattle.std.specs.List.{All}
use Rattle.goal_terms.specs.Tree.{Tree}
use Rattle.goal_lists.specs.Interned.{AreIn, PremiseIn, premise_at}
use Rattle.goal_lists.proofs.EachRuleLemmas.{is_at}
use Rattle.goal_lists.proofs.builtin.constituents.each_is.Given as goal

abbrev pub invariant-loop-ty : goal.invariant-loop-ty
invariant-loop-ty l = record {
  within : (T : List Tree) → AreIn T l.tys → All (PremiseIn T) l.premises.items;
  so_far : (T : List Tree) → map (premise_at T) l.premises.items ≡ map (is_at T l.trait_id) (take l.ty-index l.tys);
}
