use Rattle.std.proofs.Common.{refl, sym, ◌∙◌}
use Rattle.std.proofs.lemmas.Bool.{false≢true}
use Rattle.goal_terms.specs.TreeOf.{trees_of}
use Rattle.goal_lists.specs.declared.fast_reject.Parameters.TheVariants.{Rigid, Inferred}
use Rattle.goal_lists.proofs.AcceptedLemmas.{accepted-heads, rejected-clashes}
use Rattle.goal_lists.proofs.OtherHeadLemmas.{any_two}
use Rattle.goal_kinds.proofs.RejectionLemmas.{IsAny, allows-any, lists-equal, lists-equal_arguments}
use Rattle.goal_kinds.proofs.laws.fast_reject.accepted_arguments_differ_in_heads.Goals as goal

pub returns-clause-heads : goal.returns-clause-heads
returns-clause-heads c = accepted-heads

pub returns-clause-rigid : goal.returns-clause-rigid
returns-clause-rigid c S n values i ps qs left right ok x y rejected equal =
    false≢true (sym rejected ∙ accepted-heads S.tables i ps qs Rigid left right ok x y
    ∙ lists-equal S any_two IsAny (λ t u r q x y e. refl) (λ m t u r q x y e. refl) values (allows-any values) n (trees_of left) (trees_of right) equal)

pub returns-clause-inferred : goal.returns-clause-inferred
returns-clause-inferred c S n values args i ps qs left right ok x y rejected equal =
    false≢true (sym rejected ∙ accepted-heads S.tables i ps qs Inferred left right ok x y
    ∙ lists-equal_arguments S any_two IsAny (λ t u r q x y e. refl) (λ m t u r q x y e. refl) values (allows-any values) args n (trees_of left) (trees_of right) equal)

pub returns-clause-headers : goal.returns-clause-headers
returns-clause-headers c = rejected-clashes
