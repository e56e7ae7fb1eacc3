use Rattle.std.proofs.Common.{◌≡◌, Bool, true, false, ◌||◌, sym, ◌∙◌}
use Rattle.std.specs.Prelude.{not}
use Rattle.goal_terms.specs.NodeTests.{some_node, is_any_infer}
use Rattle.goal_interner.specs.TableMeaning.{tree_at}
use Rattle.goal_lists.specs.Interned.{erased_at}
use Rattle.goal_eval.proofs.PendingLemmas.{open-pair}
use Rattle.goal_solver.proofs.SettledLemmas.{settled-open, settled-closed, closed-erased}
use Rattle.goal_solver.proofs.relate.resolved.relate_resolved_forms.Goals as goal

-- what stands in the way, and what doesn't
in-the-way : (b p q : Bool) → not b || p || q ≡ true → b ≡ true → p ≡ false → q ≡ false → ⊥
in-the-way true true q e f g h = absurd (cc)
in-the-way true false true e f g h = absurd (cc)
in-the-way true false false e f g h = absurd (cc)
in-the-way false p q e f g h = absurd (cc)

out-of-the-way : (b p q : Bool) → not b || p || q ≡ false → (p ≡ false) × (q ≡ false)
out-of-the-way true true q e = absurd (cc)
out-of-the-way true false true e = absurd (cc)
out-of-the-way true false false e = (e, e)
out-of-the-way false p q e = absurd (cc)

pub compare_terms-requires-clause-first : goal.compare_terms-requires-clause-first
compare_terms-requires-clause-first c = (open-pair c.args.terms.now c.args.left c.args.right c.requires.alike c.requires.forms).0

pub compare_terms-requires-clause-second : goal.compare_terms-requires-clause-second
compare_terms-requires-clause-second c = (open-pair c.args.terms.now c.args.left c.args.right c.requires.alike c.requires.forms).1

pub returns-then-stays_open-clause-says : goal.returns-then-stays_open-clause-says
returns-then-stays_open-clause-says c =
    settled-open c.args.under.now.setting.now c.args.under.now.opens c.args.under.now.depth (erased_at c.args.terms.now c.args.left) (erased_at c.args.terms.now c.args.right)
    (λ opens left right.
    in-the-way c.args.under.now.opens (some_node is_any_infer (tree_at c.args.terms.now c.args.left)) (some_node is_any_infer (tree_at c.args.terms.now c.args.right))
    (sym c.stays_open.ensures ∙ c.if-stays_open.true) opens
    (sym (closed-erased (tree_at c.args.terms.now c.args.left)) ∙ left) (sym (closed-erased (tree_at c.args.terms.now c.args.right)) ∙ right))

pub returns-clause-says : goal.returns-clause-says
returns-clause-says c =
    let none : (some_node is_any_infer (tree_at c.args.terms.now c.args.left) ≡ false) × (some_node is_any_infer (tree_at c.args.terms.now c.args.right) ≡ false) =
    out-of-the-way c.args.under.now.opens (some_node is_any_infer (tree_at c.args.terms.now c.args.left)) (some_node is_any_infer (tree_at c.args.terms.now c.args.right)) (sym c.stays_open.ensures ∙ c.if-stays_open.false) in
    settled-closed c.args.under.now.setting.now c.args.under.now.opens c.args.under.now.depth (erased_at c.args.terms.now c.args.left) (erased_at c.args.terms.now c.args.right) c.compare_terms.result
    (closed-erased (tree_at c.args.terms.now c.args.left) ∙ none.0) (closed-erased (tree_at c.args.terms.now c.args.right) ∙ none.1) c.requires.forms.1 c.compare_terms.ensures.says
