use Rattle.std.proofs.Common.{◌∙◌, ap, sym, []}
use Rattle.goal_terms.specs.TreeOf.{tree_of_ty}
use Rattle.goal_lists.specs.Builtins.{listed, listed_term}
use Rattle.goal_lists.specs.Headers.{under}
use Rattle.goal_lists.proofs.builtin.item_terms.field_type_rule.Goals as goal

pub returns-in_default-clause-listed : goal.returns-in_default-clause-listed
returns-in_default-clause-listed c = ap listed_term (sym (c.in_default.ensures.info (λ s f. under s (tree_of_ty f.ty))))

pub returns-clause-listed : goal.returns-clause-listed
returns-clause-listed c =
    c.unconditional.ensures.listed c.type_under.new.terms ∙ ap (listed []) c.in_ok-ty.ensures.tree
    ∙ ap listed_term (sym (c.in-Some.ensures.info (λ s f. under s (tree_of_ty f.ty))))
