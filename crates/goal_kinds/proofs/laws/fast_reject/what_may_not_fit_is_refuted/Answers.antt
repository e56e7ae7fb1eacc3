use Rattle.goal_lists.proofs.FittingLemmas.{candidate_refuted, const_candidate_refuted, term_refuted}
use Rattle.goal_kinds.proofs.laws.fast_reject.what_may_not_fit_is_refuted.Goals as goal

pub returns-clause-traits : goal.returns-clause-traits
returns-clause-traits c S n i args x e = candidate_refuted S n i args x e

pub returns-clause-consts : goal.returns-clause-consts
returns-clause-consts c S n k i args x e = const_candidate_refuted S n k i args x e

pub returns-clause-terms : goal.returns-clause-terms
returns-clause-terms c S n p args x same e = term_refuted S n p args same x e
