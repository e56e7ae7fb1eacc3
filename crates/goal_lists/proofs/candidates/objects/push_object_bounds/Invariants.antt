use Rattle.std.proofs.Common.{◌≡◌, ◌++◌, map, take}
use Rattle.std.specs.List.{All}
use Rattle.goal_terms.specs.Erased.{erased}
use Rattle.goal_interner.specs.TableMeaning.{Keeps, tree_at}
use Rattle.goal_terms.specs.Tree.{parts_of}
use Rattle.goal_lists.specs.Candidates.{object_bounds_among}
use Rattle.goal_lists.specs.Interned.{CandidateIn, candidate_at, erased_at}
use Rattle.goal_lists.proofs.candidates.objects.push_object_bounds.Given as goal

abbrev pub invariant-loop-place : goal.invariant-loop-place
invariant-loop-place l = record {
  kept : Keeps l.initial.terms l.terms;
  within : All (CandidateIn l.terms) l.found.items;
  pushed :
      map (candidate_at l.terms) l.found.items
      ≡ map (candidate_at l.initial.terms) l.initial.found.items
      ++ object_bounds_among (erased_at l.initial.terms l.self_ty) (take l.place (map erased (parts_of (tree_at l.initial.terms l.self_ty))));
}
