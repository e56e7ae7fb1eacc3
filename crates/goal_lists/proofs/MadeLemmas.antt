-- Terms that rules make: what their numbers stand for.
use Rattle.std.proofs.Common.{◌≡◌, refl}
use Rattle.goal_terms.specs.Erased.{erased, erased_head}
use Rattle.goal_terms.specs.TreeOf.{leaf}
use Rattle.goal_terms.specs.declared.heads.Head.{Head}

-- a term without parts
pub leaf-erased : (h : Head) → erased (leaf h) ≡ leaf (erased_head h)
unfolding erased
leaf-erased h = refl
