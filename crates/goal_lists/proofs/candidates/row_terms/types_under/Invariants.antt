use Rattle.std.proofs.Common.{◌≡◌, map, take}
use Rattle.goal_interner.specs.TableMeaning.{Keeps}
use Rattle.goal_terms.specs.TreeOf.{tree_of_ty}
use Rattle.goal_lists.specs.Headers.{under}
use Rattle.goal_lists.specs.Interned.{AreIn, erased_all}
use Rattle.goal_lists.proofs.candidates.row_terms.types_under.Given as goal

abbrev pub invariant-loop-ty : goal.invariant-loop-ty
invariant-loop-ty l = record {
  kept : Keeps l.initial.terms l.terms;
  within : AreIn l.terms l.numbers.items;
  so_far : erased_all l.terms l.numbers.items ≡ map (λ ty. under (erased_all l.initial.terms l.args) (tree_of_ty ty)) (take l.ty-index l.tys);
}
