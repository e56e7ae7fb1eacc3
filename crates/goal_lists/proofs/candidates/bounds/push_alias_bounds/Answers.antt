use Rattle.std.proofs.Common.{◌++◌, map, sym, ap, ◌∙◌, append-nil}
use Rattle.std.proofs.lemmas.Result.{IfOk-weaker}
use Rattle.goal_interner.specs.TableMeaning.{tree_at}
use Rattle.goal_tables.specs.Rows.{item_of, opaque_of}
use Rattle.goal_lists.specs.Candidates.{item_bounds, opaque_bounds}
use Rattle.goal_lists.specs.CandidateTops.{projected_item, opaque_number}
use Rattle.goal_lists.specs.Interned.{candidate_at, erased_all}
use Rattle.goal_lists.proofs.CandidateTerms.{projection-arguments, opaque-arguments, bounds-projection, bounds-opaque, bounds-none, fits-at}
use Rattle.goal_lists.proofs.candidates.bounds.push_alias_bounds.Goals as goal

pub args_and_self-requires-clause-arguments : goal.args_and_self-requires-clause-arguments
args_and_self-requires-clause-arguments c =
    projection-arguments (tree_at c.args.terms.now c.args.self_ty) c.in-Some.item
    (ap projected_item (sym c.node-node.ensures.top) ∙ sym c.projected_item.ensures ∙ c.in-Some.is)
    (fits-at (tree_at c.args.terms.now c.args.self_ty) c.node-node.result c.node-node.ensures.top c.node-node.ensures.fits)

pub returns-in-Some-clause-pushed : goal.returns-in-Some-clause-pushed
returns-in-Some-clause-pushed c =
    IfOk-weaker c.push_item_bounds.result _ _
    (λ u pushed.
    pushed
    ∙ ap (λ cs. map (candidate_at c.args.terms.now) c.args.found.now.items ++ cs)
    (ap (λ ts. item_bounds ts (item_of c.args.rows.now c.in-Some.item)) (ap (erased_all c.args.terms.now) c.as_slice.ensures.value ∙ c.in_ok-args.ensures.trees)
    ∙ bounds-projection c.args.rows.now (tree_at c.args.terms.now c.args.self_ty) c.in-Some.item
    (ap projected_item (sym c.node-node.ensures.top) ∙ sym c.projected_item.ensures ∙ c.in-Some.is)))
    c.push_item_bounds.ensures.pushed

pub args_and_self-requires-in-Some-opaque_number-clause-arguments : goal.args_and_self-requires-in-Some-opaque_number-clause-arguments
args_and_self-requires-in-Some-opaque_number-clause-arguments c =
    opaque-arguments (tree_at c.args.terms.now c.args.self_ty) c.in-Some-opaque_number.opaque
    (ap opaque_number (sym c.node-node.ensures.top) ∙ sym c.opaque_number.ensures ∙ c.in-Some-opaque_number.is)
    (fits-at (tree_at c.args.terms.now c.args.self_ty) c.node-node.result c.node-node.ensures.top c.node-node.ensures.fits)

pub returns-in-Some-opaque_number-clause-pushed : goal.returns-in-Some-opaque_number-clause-pushed
returns-in-Some-opaque_number-clause-pushed c =
    IfOk-weaker c.push_opaque_bounds.result _ _
    (λ u pushed.
    pushed
    ∙ ap (λ cs. map (candidate_at c.args.terms.now) c.args.found.now.items ++ cs)
    (ap (λ ts. opaque_bounds ts (opaque_of c.args.rows.now c.in-Some-opaque_number.opaque))
    (ap (erased_all c.args.terms.now) c.as_slice-in-Some-opaque_number.ensures.value ∙ c.in_ok-args-2.ensures.trees)
    ∙ bounds-opaque c.args.rows.now (tree_at c.args.terms.now c.args.self_ty) c.in-Some-opaque_number.opaque
    (ap opaque_number (sym c.node-node.ensures.top) ∙ sym c.opaque_number.ensures ∙ c.in-Some-opaque_number.is)))
    c.push_opaque_bounds.ensures.pushed

pub returns-clause-pushed : goal.returns-clause-pushed
returns-clause-pushed c =
    sym
    (ap (λ cs. map (candidate_at c.args.terms.now) c.args.found.now.items ++ cs)
    (bounds-none c.args.rows.now (tree_at c.args.terms.now c.args.self_ty)
    (ap projected_item (sym c.node-node.ensures.top) ∙ sym c.projected_item.ensures ∙ c.in_default.is)
    (ap opaque_number (sym c.node-node.ensures.top) ∙ sym c.opaque_number.ensures ∙ c.in_default-opaque_number.is))
    ∙ append-nil (map (candidate_at c.args.terms.now) c.args.found.now.items))
