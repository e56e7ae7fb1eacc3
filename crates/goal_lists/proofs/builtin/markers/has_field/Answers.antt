use Rattle.std.proofs.Common.{None, refl, ap, sym, ◌∙◌}
use Rattle.goal_interner.specs.TableMeaning.{tree_at}
use Rattle.goal_terms.specs.Tree.{list_of}
use Rattle.goal_terms.specs.declared.heads.Head.TheVariants as head
use Rattle.goal_terms.specs.declared.heads.Node.TheVariants as nodes
use Rattle.goal_tables.specs.Rows.{adt_of}
use Rattle.goal_lists.specs.Builtins.{where_true}
use Rattle.goal_lists.proofs.MarkerRuleLemmas.{with_field, field-adt, no-field}
use Rattle.goal_lists.proofs.RowTermLemmas.{at-top, at-alias, at-variable}
use Rattle.goal_lists.proofs.builtin.markers.has_field.Goals as goal

pub returns-in-Adt : goal.returns-in-Adt
returns-in-Adt c =
    at-top (with_field c.args.rows.now) (where_true c.adt_has_field.result) (tree_at c.args.terms.now c.args.self_ty) (head.Adt c.in-Adt.adt c.in-Adt.field-1)
    (ap nodes.Head (sym c.in-Adt.is) ∙ c.in-Head.ensures.top) (λ ts. c.adt_has_field.ensures ∙ field-adt (adt_of c.args.rows.now c.in-Adt.adt) (list_of ts))

pub returns-in_default : goal.returns-in_default
returns-in_default c =
    at-top (with_field c.args.rows.now) None (tree_at c.args.terms.now c.args.self_ty) c.in-Head.head c.in-Head.ensures.top
    (λ ts. no-field c.args.rows.now c.in-Head.head ts c.in_default.not-Adt)

pub returns-in-Alias : goal.returns-in-Alias
returns-in-Alias c = at-alias (with_field c.args.rows.now) None (λ k ts. refl) (tree_at c.args.terms.now c.args.self_ty) c.in-Alias.field-0 c.in-Alias.ensures.top

pub returns-in-Variable : goal.returns-in-Variable
returns-in-Variable c =
    at-variable (with_field c.args.rows.now) None (λ v. refl) (tree_at c.args.terms.now c.args.self_ty) c.in-Variable.field-0 c.in-Variable.ensures.top
