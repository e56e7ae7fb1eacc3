use Rattle.std.proofs.Common.{◌∙◌, ap, sym, refl, Some, None}
use Rattle.std.specs.Option.{option_map}
use Rattle.goal_interner.specs.TableMeaning.{tree_at}
use Rattle.goal_terms.specs.Tree.{parts_of}
use Rattle.goal_lists.specs.Interned.{erased_at}
use Rattle.goal_lists.specs.Tops.{adt_at}
use Rattle.goal_lists.proofs.ItemTermLemmas.{field-none, field-row, copied-map}
use Rattle.goal_lists.proofs.builtin.item_terms.field_info.Goals as goal

pub returns-in_err-adt-clause-info : goal.returns-in_err-adt-clause-info
returns-in_err-adt-clause-info c = λ g.
    field-none c.args.rows.now (tree_at c.args.terms.now c.args.self_ty) None g (c.in_err-adt.ensures ∙ ap adt_at c.node.ensures.top) refl
    ∙ ap (option_map (λ f. g (parts_of (erased_at c.args.terms.now c.args.self_ty)) f.now)) (sym c.from_residual.ensures)

pub returns-in_err-row-clause-info : goal.returns-in_err-row-clause-info
returns-in_err-row-clause-info c = λ g.
    field-row c.args.rows.now (tree_at c.args.terms.now c.args.self_ty) c.in_ok-adt.adt None g (c.in_ok-adt.ensures ∙ ap adt_at c.node.ensures.top) c.in_err-row.ensures
    ∙ ap (option_map (λ f. g (parts_of (erased_at c.args.terms.now c.args.self_ty)) f.now)) (sym c.from_residual-in_err-row.ensures)

pub returns-clause-info : goal.returns-clause-info
returns-clause-info c = λ g.
    field-row c.args.rows.now (tree_at c.args.terms.now c.args.self_ty) c.in_ok-adt.adt (Some c.in_ok-row.row.now) g (c.in_ok-adt.ensures ∙ ap adt_at c.node.ensures.top) c.in_ok-row.ensures
    ∙ ap (option_map (g (parts_of (erased_at c.args.terms.now c.args.self_ty)))) (sym c.as_ref.ensures.value)
    ∙ copied-map (g (parts_of (erased_at c.args.terms.now c.args.self_ty))) c.as_ref.result
