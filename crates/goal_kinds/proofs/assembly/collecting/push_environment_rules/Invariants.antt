use Rattle.std.proofs.Common.{map, take}
use Rattle.std.specs.List.{All}
use Rattle.goal_lists.specs.Answers.{setting_of}
use Rattle.goal_kinds.specs.CandidateRules.{IsAcceptedClause, said_by}
use Rattle.goal_kinds.specs.RuleWords.{TermsAreFor}
use Rattle.goal_kinds.specs.KindWords.{words_for}
use Rattle.goal_kinds.specs.Collecting.{Speaks, Collects}
use Rattle.goal_kinds.proofs.assembly.collecting.push_environment_rules.Given as goal

abbrev pub invariant-loop-k : goal.invariant-loop-k
invariant-loop-k g l = record {
  collected :
      All (λ c. IsAcceptedClause l.tables c.kind) l.goal.param_env.items
      → Collects
      (Speaks (words_for g.G.GoalKind.words l.tables l.goal l.mode))
      (λ c. g.G.GoalKind.words.refuted l.goal.predicate (setting_of l.tables l.mode l.goal.param_env.items) 0 c) (map (λ c. said_by c.kind) (take l.k l.clauses)) l.initial.found.items l.found.items;
  expected :
      All (λ r. TermsAreFor (g.G.GoalKind.words.expected l.goal.predicate) r.entries.items) l.initial.found.items
      → All (λ r. TermsAreFor (g.G.GoalKind.words.expected l.goal.predicate) r.entries.items) l.found.items;
}
