use Rattle.std.proofs.Common.{◌≡◌, ℕ, Some}
use Rattle.std.specs.Prelude.{◌||◌, slice_get}
use Rattle.goal_terms.specs.View.{trees_seen}
use Rattle.goal_terms.specs.declared.answers.ParamKind.{ParamKind}
use Rattle.goal_tables.specs.FixedParams.{is_marked}
use Rattle.goal_tables.proofs.MarkLemmas.{sizes, stands_from}
use Rattle.goal_tables.proofs.fixed_params.+mark_parts.Given as goal

abbrev pub decreases-mark_parts : goal.decreases-mark_parts
decreases-mark_parts l = sizes (trees_seen l.parts)

abbrev pub invariant-loop-i : goal.invariant-loop-i
invariant-loop-i l =
    (n : ℕ) (k : ParamKind) → slice_get l.params n ≡ Some k →
    is_marked l.marks n || stands_from k n (trees_seen l.parts) l.i ≡ is_marked l.fn.marks n || stands_from k n (trees_seen l.parts) 0
