use Rattle.std.proofs.Common.{◌≡◌, List, Some, map, take}
use Rattle.std.specs.List.{All}
use Rattle.std.specs.Prelude.{slice_get}
use Rattle.goal_tables.specs.declared.rows.ImplRow.{ImplRow}
use Rattle.goal_lists.specs.Candidates.{by_impl}
use Rattle.goal_kinds.specs.RuleWords.{TermsAreFor}
use Rattle.goal_kinds.specs.KindWords.{words_for}
use Rattle.goal_kinds.specs.Collecting.{Speaks, Lacks, Collects}
use Rattle.goal_kinds.proofs.assembly.collecting.push_rules_at.Given as goal

abbrev pub invariant-loop-i : goal.invariant-loop-i
invariant-loop-i g l = record {
  collected :
      (impls : List ImplRow)
      → map (slice_get l.tables.impls.items) l.places ≡ map Some impls
      → All (λ r. g.G.GoalKind.words.is_impl_for l.goal.predicate l.tables r) impls
      → Collects
      (Speaks (words_for g.G.GoalKind.words l.tables l.goal l.mode))
      (Lacks (words_for g.G.GoalKind.words l.tables l.goal l.mode))
      (map by_impl (take l.i impls)) l.initial.found.items l.found.items;
  expected :
      All (λ r. TermsAreFor (g.G.GoalKind.words.expected l.goal.predicate) r.entries.items) l.initial.found.items
      → All (λ r. TermsAreFor (g.G.GoalKind.words.expected l.goal.predicate) r.entries.items) l.found.items;
}
