use Rattle.std.proofs.Common.{map, ap, Some, ◌∙◌, refl}
use Rattle.goal_interner.specs.TableMeaning.{tree_at}
use Rattle.goal_lists.specs.Builtins.{sized_rule, sized_of_head}
use Rattle.goal_lists.specs.Interned.{premise_at}
use Rattle.goal_lists.proofs.RowTermLemmas.{at-head, at-alias, at-variable, premises-are}
use Rattle.goal_lists.proofs.builtin.sized.sized_rule.Goals as goal

pub returns-in-Head-clause-premises : goal.returns-in-Head-clause-premises
returns-in-Head-clause-premises c =
    premises-are _ c.sized_of_head.result _ _
    (at-head (sized_rule c.args.rows.now c.args.trait_id) (sized_of_head c.args.rows.now c.args.trait_id) (λ h ts. refl)
    (tree_at c.args.terms.now c.args.self_ty) c.in-Head.head c.in-Head.ensures.top)
    c.sized_of_head.ensures.premises

pub returns-in-Alias-clause-premises : goal.returns-in-Alias-clause-premises
returns-in-Alias-clause-premises c =
    at-alias (sized_rule c.args.rows.now c.args.trait_id) _ (λ k ts. refl) (tree_at c.args.terms.now c.args.self_ty) c.in-Alias.field-0 c.in-Alias.ensures.top

pub returns-in-Variable-clause-premises : goal.returns-in-Variable-clause-premises
returns-in-Variable-clause-premises c =
    ap (λ ps. Some (map (premise_at c.args.terms.now) ps)) c.new.ensures.items
    ∙ at-variable (sized_rule c.args.rows.now c.args.trait_id) _ (λ v. refl) (tree_at c.args.terms.now c.args.self_ty) c.in-Variable.field-0 c.in-Variable.ensures.top
