use Rattle.std.proofs.Common.{◌≡◌, ◌++◌, List, Some, map, take}
use Rattle.std.specs.Prelude.{slice_get}
use Rattle.std.specs.List.{All}
use Rattle.goal_terms.specs.Tree.{Tree}
use Rattle.goal_tables.specs.declared.rows.ImplRow.{ImplRow}
use Rattle.goal_lists.specs.Candidates.{by_impl}
use Rattle.goal_lists.specs.Fitting.{trees_at, fitting}
use Rattle.goal_lists.specs.Interned.{CandidateIn, candidate_at}
use Rattle.goal_lists.proofs.candidates.lists.push_places.Given as goal

abbrev pub invariant-loop-i : goal.invariant-loop-i
invariant-loop-i l = record {
  within : (T : List Tree) → All (CandidateIn T) l.initial.found.items → All (CandidateIn T) l.found.items;
  pushed :
      (T : List Tree) (impls : List ImplRow)
      → map (slice_get l.rows.impls.items) l.places ≡ map Some impls
      → map (candidate_at T) l.found.items ≡ map (candidate_at T) l.initial.found.items ++ fitting (trees_at l.fn.terms l.fn.args) (map by_impl (take l.i impls));
}
