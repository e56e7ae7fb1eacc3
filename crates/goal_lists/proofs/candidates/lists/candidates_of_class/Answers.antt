use Rattle.std.proofs.Common.{map, ap₂, ◌∙◌}
use Rattle.goal_lists.specs.Answers.{setting_of}
use Rattle.goal_lists.specs.CandidateWords.{about}
use Rattle.goal_lists.specs.Interned.{candidate_at, erased_at}
use Rattle.goal_lists.proofs.CandidateClasses.{from-nothing, class-environment, class-bounds, class-rest}
use Rattle.goal_lists.proofs.candidates.lists.candidates_of_class.Goals as goal
use Rattle.goal_lists.proofs.candidates.lists.candidates_of_class.Goals.{in-ParamEnv+in_ok-push_environment-in-ParamEnv, in-AliasBound+in_ok-push_alias_bounds-in-AliasBound, in-Misc+in_ok-push_rest-in-Misc}

pub returns-clause-candidates : goal.returns-clause-candidates
returns-clause-candidates c m = elim c.match-class.branch [
  | in-ParamEnv+in_ok-push_environment-in-ParamEnv w ↦
      ap₂ (λ T v. map (candidate_at T) v.items) w.terms-is w.found-is
      ∙ from-nothing c.args.terms.now c.new-found.result.items _ _ c.new-found.ensures.items w.in_ok-push_environment-in-ParamEnv.ensures.pushed
      ∙ class-environment (setting_of c.args.rows.now m c.args.environment.now) (erased_at c.args.terms.now c.args.sought.now.self_ty) (about c.args.terms.now c.args.sought.now) c.args.class
      w.in-ParamEnv.is
  | in-AliasBound+in_ok-push_alias_bounds-in-AliasBound w ↦
      ap₂ (λ T v. map (candidate_at T) v.items) w.terms-is w.found-is
      ∙ from-nothing c.args.terms.now c.new-found.result.items _ _ c.new-found.ensures.items w.in_ok-push_alias_bounds-in-AliasBound.ensures.pushed
      ∙ class-bounds (setting_of c.args.rows.now m c.args.environment.now) (erased_at c.args.terms.now c.args.sought.now.self_ty) (about c.args.terms.now c.args.sought.now) c.args.class
      w.in-AliasBound.is
  | in-Misc+in_ok-push_rest-in-Misc w ↦
      ap₂ (λ T v. map (candidate_at T) v.items) w.terms-is w.found-is
      ∙ from-nothing c.args.terms.now c.new-found.result.items _ _ c.new-found.ensures.items
      (w.in_ok-push_rest-in-Misc.ensures.pushed m c.args.environment.now)
      ∙ class-rest (setting_of c.args.rows.now m c.args.environment.now) (erased_at c.args.terms.now c.args.sought.now.self_ty) (about c.args.terms.now c.args.sought.now) c.args.class
      w.in-Misc.is
]
