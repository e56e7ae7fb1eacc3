use Rattle.std.proofs.Common.{◌≡◌, ◌++◌, map, take}
use Rattle.std.specs.List.{All}
use Rattle.goal_terms.specs.PredicateTrees.{tree_of_kind}
use Rattle.goal_interner.specs.TableMeaning.{Keeps}
use Rattle.goal_lists.specs.Answers.{erased_predicate}
use Rattle.goal_lists.specs.CandidateWords.{near_for}
use Rattle.goal_lists.specs.Candidates.{assumption}
use Rattle.goal_lists.specs.Interned.{CandidateIn, candidate_at}
use Rattle.goal_lists.proofs.candidates.environment.push_environment.Given as goal

abbrev pub invariant-loop-i : goal.invariant-loop-i
invariant-loop-i l = record {
  kept : Keeps l.initial.terms l.terms;
  within : All (CandidateIn l.terms) l.found.items;
  pushed :
      map (candidate_at l.terms) l.found.items
      ≡ map (candidate_at l.initial.terms) l.initial.found.items
      ++ near_for l.initial.terms l.sought (map (λ c. assumption (erased_predicate (tree_of_kind c.kind))) (take l.i l.environment));
}
