use Rattle.std.proofs.Common.{sym, ◌∙◌}
use Rattle.std.proofs.lemmas.Bool.{false≢true}
use Rattle.goal_lists.specs.FastReject.{have_same_kind}
use Rattle.goal_lists.specs.Level.{nothing}
use Rattle.goal_lists.specs.Levels.{level}
use Rattle.goal_lists.specs.declared.fast_reject.Parameters.TheVariants.{Rigid, Inferred}
use Rattle.goal_kinds.proofs.RejectionLemmas.{IsOfKind, allows-kinds, tops_pass-kinds, gives_own_kinds-nothing, lists-equal, lists-equal_arguments}
use Rattle.goal_kinds.proofs.laws.fast_reject.rejection_is_final.Goals as goal

pub returns-clause-rigid : goal.returns-clause-rigid
returns-clause-rigid c S n values ts us keep own rejected equal =
    false≢true (sym rejected ∙ lists-equal S have_same_kind IsOfKind (tops_pass-kinds nothing gives_own_kinds-nothing Rigid)
    (λ m. tops_pass-kinds (level S m) (keep m) Rigid) values (allows-kinds values own) n ts us equal)

pub returns-clause-inferred : goal.returns-clause-inferred
returns-clause-inferred c S n values args ts us keep own rejected equal =
    false≢true (sym rejected ∙ lists-equal_arguments S have_same_kind IsOfKind (tops_pass-kinds nothing gives_own_kinds-nothing Inferred)
    (λ m. tops_pass-kinds (level S m) (keep m) Inferred) values (allows-kinds values own) args n ts us equal)
