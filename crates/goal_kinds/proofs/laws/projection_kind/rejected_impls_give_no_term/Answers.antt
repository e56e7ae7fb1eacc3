use Rattle.goal_kinds.proofs.ProjectionKindLaws.{equation-accepted}
use Rattle.goal_kinds.proofs.RejectedImplTerms.{rejected-impl_term}
use Rattle.goal_kinds.proofs.laws.projection_kind.rejected_impls_give_no_term.Goals as goal

pub returns : goal.returns
returns c a e S p i r ok x asked_for found same rejected =
    rejected-impl_term S a p i r ok (equation-accepted S.tables a e x) asked_for found same rejected
