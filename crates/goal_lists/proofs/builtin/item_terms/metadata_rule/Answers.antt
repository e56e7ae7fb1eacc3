use Rattle.std.proofs.Common.{◌≡◌, subst}
use Rattle.std.specs.Prelude.{IfOk}
use Rattle.goal_interner.specs.TableMeaning.{tree_at}
use Rattle.goal_lists.specs.Interned.{listed_at}
use Rattle.goal_lists.proofs.ItemTermLemmas.{metadata-alias, metadata-variable}
use Rattle.goal_lists.proofs.builtin.item_terms.metadata_rule.Goals as goal

pub returns-in-Alias-clause-within : goal.returns-in-Alias-clause-within
returns-in-Alias-clause-within c = c.by_size.ensures.within c.args.terms.now

pub returns-in-Alias-clause-listed : goal.returns-in-Alias-clause-listed
returns-in-Alias-clause-listed c =
    subst (λ x. listed_at c.args.terms.now c.by_size.result ≡ x)
    (metadata-alias c.args.rows.now c.args.item (tree_at c.args.terms.now c.args.self_ty) c.in-Alias.field-0 c.in-Alias.ensures.top)
    (c.by_size.ensures.listed c.args.terms.now)

pub returns-in-Variable-clause-listed : goal.returns-in-Variable-clause-listed
returns-in-Variable-clause-listed c =
    subst (λ x. IfOk c.listed_leaf.result (λ l. listed_at c.listed_leaf.new.terms l ≡ x))
    (metadata-variable c.args.rows.now c.args.item (tree_at c.args.terms.now c.args.self_ty) c.in-Variable.field-0 c.in-Variable.ensures.top) c.listed_leaf.ensures.listed
