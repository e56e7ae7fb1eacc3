use Rattle.std.proofs.Common.{◌∙◌, ap, map, Some}
use Rattle.goal_terms.specs.Tree.{parts_of}
use Rattle.goal_lists.specs.Interned.{erased_at, premise_at}
use Rattle.goal_lists.proofs.SizedRuleLemmas.{sized-always}
use Rattle.goal_lists.proofs.builtin.sized.sized_of_head.Goals as goal

pub returns-in_default-clause-premises : goal.returns-in_default-clause-premises
returns-in_default-clause-premises c =
    ap (λ ps. Some (map (premise_at c.args.terms.now) ps)) c.new.ensures.items
    ∙ sized-always c.args.rows.now c.args.trait_id c.args.head (parts_of (erased_at c.args.terms.now c.args.self_ty))
    c.in_default.not-Str c.in_default.not-Slice c.in_default.not-Dynamic c.in_default.not-Foreign c.in_default.not-TyParam c.in_default.not-TyPlaceholder
    c.in_default.not-Tuple c.in_default.not-Adt
