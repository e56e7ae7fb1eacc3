use Rattle.std.proofs.Common.{◌≡◌, subst}
use Rattle.std.specs.Prelude.{IfOk}
use Rattle.goal_interner.specs.TableMeaning.{tree_at}
use Rattle.goal_lists.specs.Interned.{listed_at}
use Rattle.goal_lists.proofs.ItemTermLemmas.{discriminant-parameter, discriminant-adt, discriminant-other}
use Rattle.goal_lists.proofs.builtin.item_terms.discriminant_of_head.Goals as goal

pub returns-in-TyParam-clause-listed : goal.returns-in-TyParam-clause-listed
returns-in-TyParam-clause-listed c =
    discriminant-parameter c.args.rows.now (tree_at c.args.terms.now c.args.self_ty) c.args.head c.requires.top c.in-TyParam.is

pub returns-in-Adt-clause-listed : goal.returns-in-Adt-clause-listed
returns-in-Adt-clause-listed c =
    subst (λ x. IfOk c.adt_discriminant.result (λ l. listed_at c.adt_discriminant.new.terms l ≡ x))
    (discriminant-adt c.args.rows.now (tree_at c.args.terms.now c.args.self_ty) c.args.head c.in-Adt.adt c.in-Adt.field-1 c.requires.top c.in-Adt.is)
    c.adt_discriminant.ensures.listed

pub returns-in_default-clause-listed : goal.returns-in_default-clause-listed
returns-in_default-clause-listed c =
    subst (λ x. IfOk c.listed_leaf.result (λ l. listed_at c.listed_leaf.new.terms l ≡ x))
    (discriminant-other c.args.rows.now (tree_at c.args.terms.now c.args.self_ty) c.args.head c.requires.top
    c.in_default.not-TyParam c.in_default.not-TyPlaceholder c.in_default.not-Adt)
    c.listed_leaf.ensures.listed
