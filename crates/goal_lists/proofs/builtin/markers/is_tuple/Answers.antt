use Rattle.std.proofs.Common.{true, false, refl, ap, sym, ◌∙◌}
use Rattle.goal_interner.specs.TableMeaning.{tree_at}
use Rattle.goal_terms.specs.declared.heads.Head.TheVariants as head
use Rattle.goal_terms.specs.declared.heads.Node.TheVariants as nodes
use Rattle.goal_lists.specs.Builtins.{is_tuple}
use Rattle.goal_lists.proofs.MarkerRuleLemmas.{no-tuple}
use Rattle.goal_lists.proofs.RowTermLemmas.{at-top, at-alias, at-variable}
use Rattle.goal_lists.proofs.builtin.markers.is_tuple.Goals as goal

pub returns-in-Tuple : goal.returns-in-Tuple
returns-in-Tuple c =
    at-top is_tuple true (tree_at c.args.terms.now c.args.self_ty) (head.Tuple c.in-Tuple.field-0)
    (ap nodes.Head (sym c.in-Tuple.is) ∙ c.in-Head.ensures.top) (λ ts. refl)

pub returns-in_default : goal.returns-in_default
returns-in_default c =
    at-top is_tuple false (tree_at c.args.terms.now c.args.self_ty) c.in-Head.head c.in-Head.ensures.top (λ ts. no-tuple c.in-Head.head ts c.in_default.not-Tuple)

pub returns-in-Alias : goal.returns-in-Alias
returns-in-Alias c = at-alias is_tuple false (λ k ts. refl) (tree_at c.args.terms.now c.args.self_ty) c.in-Alias.field-0 c.in-Alias.ensures.top

pub returns-in-Variable : goal.returns-in-Variable
returns-in-Variable c = at-variable is_tuple false (λ v. refl) (tree_at c.args.terms.now c.args.self_ty) c.in-Variable.field-0 c.in-Variable.ensures.top
