use Rattle.std.proofs.Common.{refl, sym, ◌∙◌, map}
use Rattle.std.proofs.lemmas.Bool.{false≢true}
use Rattle.goal_terms.specs.Erased.{erased}
use Rattle.goal_lists.specs.Headers.{Known, Clashes}
use Rattle.goal_lists.specs.Level.{nothing}
use Rattle.goal_lists.specs.Levels.{level}
use Rattle.goal_lists.proofs.OtherHeadLemmas.{any_two, lists_unequal, lists_clash}
use Rattle.goal_kinds.proofs.RejectionLemmas.{IsAny, allows-any, lists-equal, lists-equal_arguments}
use Rattle.goal_kinds.proofs.laws.fast_reject.other_heads_are_final.Goals as goal

pub returns-clause-rigid : goal.returns-clause-rigid
returns-clause-rigid c S n values ts us rejected equal =
    false≢true (sym rejected ∙ lists-equal S any_two IsAny (λ t u r q x y e. refl) (λ m t u r q x y e. refl) values (allows-any values) n ts us equal)

pub returns-clause-inferred : goal.returns-clause-inferred
returns-clause-inferred c S n values args ts us rejected equal =
    false≢true (sym rejected ∙ lists-equal_arguments S any_two IsAny (λ t u r q x y e. refl) (λ m t u r q x y e. refl) values (allows-any values) args n ts us equal)

pub returns-clause-unequal : goal.returns-clause-unequal
unfolding level
returns-clause-unequal c S ts us rejected = lists_unequal nothing ts us rejected

pub returns-clause-clashes : goal.returns-clause-clashes
unfolding level Clashes
returns-clause-clashes c S params gs hs rejected = lists_clash nothing (Known (level S 0) params (map erased hs) (map erased gs)) gs hs rejected
