use Rattle.std.proofs.Common.{◌≡◌, List, ap, sym, subst, ◌∙◌}
use Rattle.std.specs.Prelude.{IfOk}
use Rattle.goal_terms.specs.Erased.{erased}
use Rattle.goal_terms.specs.Sorts.{IsArgument}
use Rattle.goal_terms.specs.Tree.{Tree}
use Rattle.goal_interner.proofs.InternLemmas.{keeps-chain}
use Rattle.goal_lists.specs.Headers.{under}
use Rattle.goal_lists.specs.Interned.{erased_at, erased_all}
use Rattle.goal_lists.specs.InternedEntries.{value_tree}
use Rattle.goal_lists.proofs.InternedLemmas.{all_same-grown}
use Rattle.goal_lists.proofs.UnderLemmas.{under-erased_term}
use Rattle.goal_eval.proofs.ListEntryLemmas.{value-argument}
use Rattle.goal_eval.proofs.eval.row_values.value_under.Goals as goal

under-alike : (s : List Tree) (t u : Tree) → erased t ≡ erased u → under s t ≡ under s u
under-alike s t u e = sym (under-erased_term s t) ∙ ap (under s) e ∙ under-erased_term s u

pub term_under-requires-clause-argument : goal.term_under-requires-clause-argument
term_under-requires-clause-argument c = subst IsArgument (sym c.value_view-value.ensures) (value-argument c.args.of.value)

pub term_under-requires-then-not-contains-clause-argument : goal.term_under-requires-then-not-contains-clause-argument
term_under-requires-then-not-contains-clause-argument c = subst IsArgument (sym c.value_view-value.ensures) (value-argument c.args.of.value)

pub returns-then-not-contains-clause-tree : goal.returns-then-not-contains-clause-tree
returns-then-not-contains-clause-tree c =
    let kept = keeps-chain _ _ _ c.in_ok-hidden.ensures.kept c.in_ok-fresh.ensures.kept in
    subst (λ z. IfOk c.term_under-then-not-contains.result (λ id. erased_at c.term_under-then-not-contains.new.terms id ≡ z))
    (ap (under (erased_all c.with_fresh_lifetimes.new.terms c.args.args.now)) c.value_view-value.ensures
    ∙ ap (λ s. under s (value_tree c.args.of.value)) (all_same-grown _ _ kept c.args.args.now c.requires.args))
    c.term_under-then-not-contains.ensures.tree

pub returns-clause-tree : goal.returns-clause-tree
returns-clause-tree c =
    let kept = keeps-chain _ _ _ c.in_ok-hidden.ensures.kept c.in_ok-fresh.ensures.kept in
    let alike =
    ap erased (c.view.ensures ∙ c.in_ok-term.ensures) ∙ c.in_ok-fresh.ensures.same ∙ ap erased (c.in_ok-hidden.ensures.tree ∙ c.value_view-value.ensures) in
    subst (λ z. IfOk c.term_under-2.result (λ id. erased_at c.term_under-2.new.terms id ≡ z))
    (under-alike (erased_all c.with_fresh_lifetimes.new.terms c.args.args.now) _ (value_tree c.args.of.value) alike
    ∙ ap (λ s. under s (value_tree c.args.of.value)) (all_same-grown _ _ kept c.args.args.now c.requires.args))
    c.term_under-2.ensures.tree
