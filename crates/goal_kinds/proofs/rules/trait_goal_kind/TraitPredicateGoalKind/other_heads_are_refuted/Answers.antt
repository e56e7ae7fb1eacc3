use Rattle.std.proofs.Common.{◌≡◌, ◌∙◌, sym, subst}
use Rattle.goal_lists.specs.Candidates.{by_impl}
use Rattle.goal_lists.specs.Levels.{level}
use Rattle.goal_lists.specs.RowWords.{given}
use Rattle.goal_lists.specs.TraitGoals.{CandidateRefuted}
use Rattle.goal_lists.proofs.FittingLemmas.{candidate_refuted}
use Rattle.goal_kinds.proofs.rules.trait_goal_kind.TraitPredicateGoalKind.other_heads_are_refuted.Goals as goal

pub returns : goal.returns
returns c p S q args r sought same other =
    let its : given p.trait_ref.args ≡ q.args = cc in
    subst (λ ts. CandidateRefuted S (level S 0) p.trait_ref.def_id ts (by_impl r)) (sym (its ∙ same)) (candidate_refuted S 0 p.trait_ref.def_id args (by_impl r) other)
