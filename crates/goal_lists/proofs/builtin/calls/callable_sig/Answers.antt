use Rattle.std.proofs.Common.{◌∙◌, ap, sym, refl}
use Rattle.goal_interner.specs.TableMeaning.{tree_at}
use Rattle.goal_terms.specs.declared.heads.Node.TheVariants as nodes
use Rattle.goal_lists.specs.Builtins.{callable_sig}
use Rattle.goal_lists.proofs.CallRuleLemmas.{pointer-at, callable-at, uncallable-at, other-at}
use Rattle.goal_lists.proofs.RowTermLemmas.{at-alias, at-variable}
use Rattle.goal_lists.proofs.builtin.calls.callable_sig.Goals as goal

pub returns-then-fn_traits-clause-pointer : goal.returns-then-fn_traits-clause-pointer
returns-then-fn_traits-clause-pointer c =
    pointer-at (tree_at c.args.terms.now c.args.sig) c.in-FnPtr.bound_regions c.in-FnPtr.inputs c.in-FnPtr.fn_traits (ap nodes.Head (sym c.in-FnPtr.is) ∙ c.in-Head.ensures.top)

pub returns-then-fn_traits-clause-signature : goal.returns-then-fn_traits-clause-signature
returns-then-fn_traits-clause-signature c =
    callable-at (tree_at c.args.terms.now c.args.sig) c.in-FnPtr.bound_regions c.in-FnPtr.inputs c.in-FnPtr.fn_traits (ap nodes.Head (sym c.in-FnPtr.is) ∙ c.in-Head.ensures.top)
    c.if-fn_traits.true

pub returns-else-fn_traits-clause-signature : goal.returns-else-fn_traits-clause-signature
returns-else-fn_traits-clause-signature c =
    uncallable-at (tree_at c.args.terms.now c.args.sig) c.in-FnPtr.bound_regions c.in-FnPtr.inputs c.in-FnPtr.fn_traits (ap nodes.Head (sym c.in-FnPtr.is) ∙ c.in-Head.ensures.top)
    c.if-fn_traits.false

pub returns-in_default-clause-signature : goal.returns-in_default-clause-signature
returns-in_default-clause-signature c = other-at (tree_at c.args.terms.now c.args.sig) c.in-Head.head c.in-Head.ensures.top c.in_default.not-FnPtr

pub returns-in-Alias-clause-signature : goal.returns-in-Alias-clause-signature
returns-in-Alias-clause-signature c = at-alias callable_sig _ (λ k ts. refl) (tree_at c.args.terms.now c.args.sig) c.in-Alias.field-0 c.in-Alias.ensures.top

pub returns-in-Variable-clause-signature : goal.returns-in-Variable-clause-signature
returns-in-Variable-clause-signature c = at-variable callable_sig _ (λ v. refl) (tree_at c.args.terms.now c.args.sig) c.in-Variable.field-0 c.in-Variable.ensures.top
