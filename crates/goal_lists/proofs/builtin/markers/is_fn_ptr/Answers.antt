use Rattle.std.proofs.Common.{true, false, refl, ap, sym, ◌∙◌}
use Rattle.goal_interner.specs.TableMeaning.{tree_at}
use Rattle.goal_terms.specs.declared.heads.Head.TheVariants as head
use Rattle.goal_terms.specs.declared.heads.Node.TheVariants as nodes
use Rattle.goal_lists.specs.Builtins.{is_fn_ptr}
use Rattle.goal_lists.proofs.MarkerRuleLemmas.{no-pointer}
use Rattle.goal_lists.proofs.RowTermLemmas.{at-top, at-alias, at-variable}
use Rattle.goal_lists.proofs.builtin.markers.is_fn_ptr.Goals as goal

pub returns-in-FnPtr : goal.returns-in-FnPtr
returns-in-FnPtr c =
    at-top is_fn_ptr true (tree_at c.args.terms.now c.args.self_ty) (head.FnPtr c.in-FnPtr.bound_regions c.in-FnPtr.inputs c.in-FnPtr.fn_traits)
    (ap nodes.Head (sym c.in-FnPtr.is) ∙ c.in-Head.ensures.top) (λ ts. refl)

pub returns-in_default : goal.returns-in_default
returns-in_default c =
    at-top is_fn_ptr false (tree_at c.args.terms.now c.args.self_ty) c.in-Head.head c.in-Head.ensures.top (λ ts. no-pointer c.in-Head.head ts c.in_default.not-FnPtr)

pub returns-in-Alias : goal.returns-in-Alias
returns-in-Alias c = at-alias is_fn_ptr false (λ k ts. refl) (tree_at c.args.terms.now c.args.self_ty) c.in-Alias.field-0 c.in-Alias.ensures.top

pub returns-in-Variable : goal.returns-in-Variable
returns-in-Variable c = at-variable is_fn_ptr false (λ v. refl) (tree_at c.args.terms.now c.args.self_ty) c.in-Variable.field-0 c.in-Variable.ensures.top
