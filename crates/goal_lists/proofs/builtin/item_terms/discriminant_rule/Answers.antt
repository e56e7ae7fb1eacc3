use Rattle.std.proofs.Common.{◌≡◌, subst}
use Rattle.std.specs.Prelude.{IfOk}
use Rattle.goal_interner.specs.TableMeaning.{tree_at}
use Rattle.goal_lists.specs.Interned.{listed_at}
use Rattle.goal_lists.proofs.ItemTermLemmas.{discriminant-alias, discriminant-variable}
use Rattle.goal_lists.proofs.builtin.item_terms.discriminant_rule.Goals as goal

pub returns-in-Alias-clause-listed : goal.returns-in-Alias-clause-listed
returns-in-Alias-clause-listed c =
    discriminant-alias c.args.rows.now (tree_at c.args.terms.now c.args.self_ty) c.in-Alias.field-0 c.in-Alias.ensures.top

pub returns-in-Variable-clause-listed : goal.returns-in-Variable-clause-listed
returns-in-Variable-clause-listed c =
    subst (λ x. IfOk c.listed_leaf.result (λ l. listed_at c.listed_leaf.new.terms l ≡ x))
    (discriminant-variable c.args.rows.now (tree_at c.args.terms.now c.args.self_ty) c.in-Variable.field-0 c.in-Variable.ensures.top) c.listed_leaf.ensures.listed
