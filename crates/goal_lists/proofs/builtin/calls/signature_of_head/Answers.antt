use Rattle.std.proofs.Common.{◌∙◌, ap, sym}
use Rattle.goal_interner.specs.TableMeaning.{tree_at}
use Rattle.goal_terms.specs.Erased.{erased_head}
use Rattle.goal_terms.specs.Tree.{parts_of}
use Rattle.goal_terms.specs.declared.heads.Node.TheVariants as nodes
use Rattle.goal_lists.specs.Builtins.{signature_of_head, callable_sig}
use Rattle.goal_lists.specs.Interned.{erased_at}
use Rattle.goal_lists.proofs.CallRuleLemmas.{pointer-signature}
use Rattle.goal_lists.proofs.builtin.calls.signature_of_head.Goals as goal

pub returns-in-FnPtr-clause-signature : goal.returns-in-FnPtr-clause-signature
unfolding signature_of_head
returns-in-FnPtr-clause-signature c =
    c.callable_sig.ensures.signature
    ∙ ap callable_sig (pointer-signature (tree_at c.args.terms.now c.args.self_ty) c.in-FnPtr.bound_regions c.in-FnPtr.inputs c.in-FnPtr.fn_traits (ap nodes.Head (sym c.in-FnPtr.is) ∙ c.requires.top))
    ∙ ap (λ h. signature_of_head c.args.rows.now c.args.by (erased_head h) (parts_of (erased_at c.args.terms.now c.args.self_ty))) (sym c.in-FnPtr.is)
