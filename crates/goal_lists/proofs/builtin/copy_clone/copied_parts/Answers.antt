use Rattle.std.proofs.Common.{refl}
use Rattle.goal_interner.specs.TableMeaning.{tree_at}
use Rattle.goal_lists.specs.Builtins.{copied_parts, copied_parts_of_head}
use Rattle.goal_lists.proofs.RowTermLemmas.{at-head, at-alias, at-variable, types-are}
use Rattle.goal_lists.proofs.builtin.copy_clone.copied_parts.Goals as goal

pub returns-in-Head-clause-types : goal.returns-in-Head-clause-types
returns-in-Head-clause-types c =
    types-are _ c.copied_parts_of_head.result _ _
    (at-head (copied_parts c.args.rows.now) (copied_parts_of_head c.args.rows.now) (λ h ts. refl)
    (tree_at c.args.terms.now c.args.self_ty) c.in-Head.head c.in-Head.ensures.top)
    c.copied_parts_of_head.ensures.types

pub returns-in-Alias-clause-types : goal.returns-in-Alias-clause-types
returns-in-Alias-clause-types c =
    at-alias (copied_parts c.args.rows.now) _ (λ k ts. refl) (tree_at c.args.terms.now c.args.self_ty) c.in-Alias.field-0 c.in-Alias.ensures.top

pub returns-in-Variable-clause-types : goal.returns-in-Variable-clause-types
returns-in-Variable-clause-types c =
    at-variable (copied_parts c.args.rows.now) _ (λ v. refl) (tree_at c.args.terms.now c.args.self_ty) c.in-Variable.field-0 c.in-Variable.ensures.top
