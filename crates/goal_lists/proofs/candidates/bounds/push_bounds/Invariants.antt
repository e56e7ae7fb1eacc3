use Rattle.std.proofs.Common.{◌≡◌, ◌++◌, map, take}
use Rattle.std.specs.List.{All}
use Rattle.goal_terms.specs.PredicateTrees.{tree_of_kind}
use Rattle.goal_interner.specs.TableMeaning.{Keeps}
use Rattle.goal_lists.specs.Candidates.{assumption}
use Rattle.goal_lists.specs.Interned.{CandidateIn, candidate_at, erased_all}
use Rattle.goal_lists.specs.Premises.{predicate_under}
use Rattle.goal_lists.proofs.candidates.bounds.push_bounds.Given as goal

abbrev pub invariant-loop-i : goal.invariant-loop-i
invariant-loop-i l = record {
  kept : Keeps l.initial.terms l.terms;
  within : All (CandidateIn l.terms) l.found.items;
  pushed :
      map (candidate_at l.terms) l.found.items
      ≡ map (candidate_at l.initial.terms) l.initial.found.items
      ++ map (λ c. assumption (predicate_under (erased_all l.initial.terms l.args) (tree_of_kind c.kind))) (take l.i l.bounds);
}
