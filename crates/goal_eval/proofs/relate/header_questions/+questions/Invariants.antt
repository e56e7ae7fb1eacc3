use Rattle.std.proofs.Common.{◌+◌, ◌*◌, ℕ, List, Option, map}
use Rattle.std.specs.Prelude.{◌↔◌}
use Rattle.std.specs.List.{All}
use Rattle.goal_interner.specs.TableMeaning.{tree_at}
use Rattle.goal_terms.specs.Tree.{Tree, tree_size}
use Rattle.goal_terms.specs.View.{tree_of_ref, trees_seen}
use Rattle.goal_terms.proofs.SizeLemmas.{sizes}
use Rattle.goal_lists.specs.Levels.{level}
use Rattle.goal_lists.specs.Settings.{Setting}
use Rattle.goal_lists.specs.Words.{Exists}
use Rattle.goal_eval.specs.HeaderWords.{IsKnown, ClashAt, QuestionIn}
use Rattle.goal_eval.proofs.HeaderClashLemmas.{StillClash}
use Rattle.goal_eval.proofs.relate.header_questions.+questions.Given as goal

abbrev pub decreases-ask : goal.decreases-ask
decreases-ask l = 2 * tree_size (tree_of_ref l.header)

abbrev pub decreases-ask_parts : goal.decreases-ask_parts
decreases-ask_parts l = 2 * sizes (trees_seen l.parts) + 1

abbrev pub invariant-ask_parts-loop-i : goal.invariant-ask_parts-loop-i
invariant-ask_parts-loop-i l = record {
  asked : All (QuestionIn l.terms) l.questions.items;
  says : (S : Setting) (k : ℕ) (ks : List (Option Tree)) →
      StillClash (Exists (ClashAt (level S k) ks l.terms) l.questions.items) ((level S k).clash (IsKnown ks)) (trees_seen l.parts) (map (tree_at l.terms) l.given) l.i
      ↔ StillClash (Exists (ClashAt (level S k) ks l.terms) l.initial.questions.items) ((level S k).clash (IsKnown ks)) (trees_seen l.parts) (map (tree_at l.terms) l.given) 0;
}
