use Rattle.std.proofs.Common.{◌++◌, map, ap, ap₂, ◌∙◌}
use Rattle.goal_interner.proofs.UnderLemmas.{trees-same}
use Rattle.goal_lists.specs.Answers.{setting_of}
use Rattle.goal_lists.specs.Candidates.{alias_bounds, rest}
use Rattle.goal_lists.specs.Fitting.{trees_at, fitting}
use Rattle.goal_lists.specs.Interned.{candidate_at, erased_at}
use Rattle.goal_lists.proofs.CandidateClasses.{from-nothing, group-rest, group-bounds}
use Rattle.goal_lists.proofs.FittingLemmas.{are_below}
use Rattle.goal_lists.proofs.InternedLemmas.{same-grown}
use Rattle.goal_lists.proofs.candidates.lists.second_group.Goals as goal
use Rattle.goal_lists.proofs.candidates.lists.second_group.Goals.{in-Misc+in_ok-push_rest, in_default}

pub returns-clause-candidates : goal.returns-clause-candidates
returns-clause-candidates c m env = elim c.match-proven_via.branch [
  | in-Misc+in_ok-push_rest w ↦
      ap₂ (λ T v. map (candidate_at T) v.items) w.terms-is w.found-is
      ∙ w.in_ok-push_rest.ensures.pushed m env
      ∙ ap₂ (λ cs s. cs ++ fitting (trees_at c.push_alias_bounds.new.terms c.args.sought.now.args.now) (rest (setting_of c.args.rows.now m env) c.args.sought.now.trait_id s))
      (from-nothing c.args.terms.now c.new-found.result.items _ _ c.new-found.ensures.items c.in_ok-push_alias_bounds.ensures.pushed)
      (same-grown c.args.terms.now c.push_alias_bounds.new.terms c.in_ok-push_alias_bounds.ensures.kept c.args.sought.now.self_ty c.requires.self_ty)
      ∙ ap (λ ts. alias_bounds (setting_of c.args.rows.now m env) (erased_at c.args.terms.now c.args.sought.now.self_ty) ++ fitting ts (rest (setting_of c.args.rows.now m env) c.args.sought.now.trait_id (erased_at c.args.terms.now c.args.sought.now.self_ty)))
      (trees-same c.args.terms.now c.push_alias_bounds.new.terms c.args.sought.now.args.now c.in_ok-push_alias_bounds.ensures.kept (are_below c.args.terms.now c.args.sought.now.args.now c.requires.args))
      ∙ group-rest (trees_at c.args.terms.now c.args.sought.now.args.now) (setting_of c.args.rows.now m env) c.args.sought.now.trait_id (erased_at c.args.terms.now c.args.sought.now.self_ty) c.args.proven_via
      w.in-Misc.is
  | in_default w ↦
      ap₂ (λ T v. map (candidate_at T) v.items) w.terms-is w.found-is
      ∙ from-nothing c.args.terms.now c.new-found.result.items _ _ c.new-found.ensures.items c.in_ok-push_alias_bounds.ensures.pushed
      ∙ group-bounds (trees_at c.args.terms.now c.args.sought.now.args.now) (setting_of c.args.rows.now m env) c.args.sought.now.trait_id (erased_at c.args.terms.now c.args.sought.now.self_ty) c.args.proven_via
      w.in_default.not-Misc
]
