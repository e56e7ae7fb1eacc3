use Rattle.std.proofs.Common.{refl}
use Rattle.goal_interner.specs.TableMeaning.{tree_at}
use Rattle.goal_lists.specs.Builtins.{signature_of, signature_of_head}
use Rattle.goal_lists.proofs.RowTermLemmas.{at-head, at-alias, at-variable, term-is}
use Rattle.goal_lists.proofs.builtin.calls.signature_of.Goals as goal

pub returns-in-Head-clause-signature : goal.returns-in-Head-clause-signature
returns-in-Head-clause-signature c =
    term-is _ c.signature_of_head.result _ _
    (at-head (signature_of c.args.rows.now c.args.by) (signature_of_head c.args.rows.now c.args.by) (λ h ts. refl)
    (tree_at c.args.terms.now c.args.self_ty) c.in-Head.head c.in-Head.ensures.top)
    c.signature_of_head.ensures.signature

pub returns-in-Alias-clause-signature : goal.returns-in-Alias-clause-signature
returns-in-Alias-clause-signature c =
    at-alias (signature_of c.args.rows.now c.args.by) _ (λ k ts. refl) (tree_at c.args.terms.now c.args.self_ty) c.in-Alias.field-0 c.in-Alias.ensures.top

pub returns-in-Variable-clause-signature : goal.returns-in-Variable-clause-signature
returns-in-Variable-clause-signature c =
    at-variable (signature_of c.args.rows.now c.args.by) _ (λ v. refl) (tree_at c.args.terms.now c.args.self_ty) c.in-Variable.field-0 c.in-Variable.ensures.top
