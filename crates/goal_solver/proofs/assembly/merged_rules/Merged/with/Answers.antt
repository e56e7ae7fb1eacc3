use Rattle.std.proofs.Common.{subst, sym, ◌∙◌, true≢false}
use Rattle.goal_solver.specs.MergedRules.{MergesTo}
use Rattle.goal_solver.proofs.MergedLemmas.{merges-one, merges-same, merges-other, merges-split}
use Rattle.goal_solver.proofs.assembly.merged_rules.Merged.with.Goals as goal

pub returns-in-Refuted-clause-merges : goal.returns-in-Refuted-clause-merges
returns-in-Refuted-clause-merges c = λ rs h. merges-one rs c.args.response (subst (MergesTo rs) c.in-Refuted.is h)

pub returns-then-is_same_response-clause-merges : goal.returns-then-is_same_response-clause-merges
returns-then-is_same_response-clause-merges c = λ rs h.
    merges-same rs c.in-Answered.first c.args.response (subst (MergesTo rs) c.in-Answered.is h) (c.is_same_response.ensures.0 c.if-is_same_response.true)

pub returns-in-Answered-clause-merges : goal.returns-in-Answered-clause-merges
returns-in-Answered-clause-merges c = λ rs h.
    merges-other rs c.in-Answered.first c.args.response (subst (MergesTo rs) c.in-Answered.is h) (λ same. true≢false (sym (c.is_same_response.ensures.1 same) ∙ c.if-is_same_response.false))

pub returns-clause-merges : goal.returns-clause-merges
returns-clause-merges c = λ rs h. merges-split rs c.args.response (subst (MergesTo rs) c.in-Split.is h)
