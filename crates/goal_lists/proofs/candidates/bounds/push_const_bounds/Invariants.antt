use Rattle.std.proofs.Common.{◌≡◌, ◌++◌, map, take}
use Rattle.std.specs.List.{All}
use Rattle.goal_interner.specs.TableMeaning.{Keeps}
use Rattle.goal_lists.specs.Candidates.{implied_bound}
use Rattle.goal_lists.specs.Interned.{CandidateIn, candidate_at, erased_all}
use Rattle.goal_lists.specs.Premises.{trait_under, traits_under}
use Rattle.goal_lists.proofs.candidates.bounds.push_const_bounds.Given as goal

abbrev pub invariant-loop-i : goal.invariant-loop-i
invariant-loop-i l = record {
  kept : Keeps l.initial.terms l.terms;
  within : All (CandidateIn l.terms) l.found.items;
  pushed :
      map (candidate_at l.terms) l.found.items
      ≡ map (candidate_at l.initial.terms) l.initial.found.items
      ++ map (λ r. implied_bound (trait_under (erased_all l.initial.terms l.args) r) (traits_under (erased_all l.initial.terms l.args) l.conditions)) (take l.i l.implied);
}
