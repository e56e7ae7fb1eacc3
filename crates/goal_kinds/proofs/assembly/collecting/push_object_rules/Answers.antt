use Rattle.std.proofs.Common.{◌≡◌, ◌≤◌, ◌∙◌, length, false, inr, refl, sym, ap, subst, arith}
use Rattle.goal_terms.specs.Erased.{erased}
use Rattle.goal_terms.specs.TreeOf.{tree_of_ty}
use Rattle.goal_kinds.specs.CandidateRules.{said_by}
use Rattle.goal_kinds.specs.KindWords.{words_for}
use Rattle.goal_kinds.specs.Collecting.{Speaks, Lacks, Collects}
use Rattle.goal_kinds.proofs.CollectingLemmas.{adds-weaker, collects-nothing}
use Rattle.goal_kinds.proofs.CollectedObjectLemmas.{said_before, said-none, collects-object, objects-say, objects-none}
use Rattle.goal_kinds.proofs.assembly.collecting.push_object_rules.Goals as goal

pub loop-k-init : goal.loop-k-init
loop-k-init g c =
    subst (λ ds. Collects (Speaks (words_for g.G.GoalKind.words c.args.tables.now c.args.goal.now c.args.mode.now)) (Lacks (words_for g.G.GoalKind.words c.args.tables.now c.args.goal.now c.args.mode.now)) ds c.args.found.now.items c.args.found.now.items) (sym (said-none (erased (tree_of_ty c.args.self_ty.now)) c.as_slice-clauses.result.now))
    (collects-nothing (Speaks (words_for g.G.GoalKind.words c.args.tables.now c.args.goal.now c.args.mode.now)) (Lacks (words_for g.G.GoalKind.words c.args.tables.now c.args.goal.now c.args.mode.now)) c.args.found.now.items)

pub loop-k-preserved : goal.loop-k-preserved
loop-k-preserved g c =
    collects-object (Speaks (words_for g.G.GoalKind.words c.args.tables.now c.args.goal.now c.args.mode.now)) (Lacks (words_for g.G.GoalKind.words c.args.tables.now c.args.goal.now c.args.mode.now))
    (erased (tree_of_ty c.args.self_ty.now)) c.as_slice-clauses.result.now c.loop-k.k c.index-clauses-k.result (said_by c.in_ok-kind.kind)
    c.args.found.now.items c.loop-k.found.items c.push_object_rule.new.found.items c.loop-k-test.true c.index-clauses-k.is c.in_ok-kind.ensures
    (adds-weaker (Speaks (words_for g.G.GoalKind.words c.args.tables.now c.args.goal.now c.args.mode.now)) (Speaks (words_for g.G.GoalKind.words c.args.tables.now c.args.goal.now c.args.mode.now))
    (λ x. g.G.GoalKind.words.passes c.args.goal.now.predicate c.in_ok-kind.kind ≡ false) (Lacks (words_for g.G.GoalKind.words c.args.tables.now c.args.goal.now c.args.mode.now)) (said_by c.in_ok-kind.kind) (λ r h. h)
    (λ barred. inr (c.in_ok-kind.kind, refl, barred)) c.loop-k.found.items c.push_object_rule.new.found.items c.in_ok-push_object_rule.ensures.adds)
    c.loop-k.invariant

pub returns-in_default : goal.returns-in_default
returns-in_default g c = record {
  collected =
      subst (λ ds. Collects (Speaks (words_for g.G.GoalKind.words c.args.tables.now c.args.goal.now c.args.mode.now)) (Lacks (words_for g.G.GoalKind.words c.args.tables.now c.args.goal.now c.args.mode.now)) ds c.args.found.now.items c.args.found.now.items) (sym (objects-none c.args.self_ty.now c.in_default.not-Dynamic))
      (collects-nothing (Speaks (words_for g.G.GoalKind.words c.args.tables.now c.args.goal.now c.args.mode.now)) (Lacks (words_for g.G.GoalKind.words c.args.tables.now c.args.goal.now c.args.mode.now)) c.args.found.now.items);
  only_memory = tt;
}

pub returns-clause-collected : goal.returns-clause-collected
returns-clause-collected g c =
    subst (λ ds. Collects (Speaks (words_for g.G.GoalKind.words c.args.tables.now c.args.goal.now c.args.mode.now)) (Lacks (words_for g.G.GoalKind.words c.args.tables.now c.args.goal.now c.args.mode.now)) ds c.args.found.now.items c.loop-k.found.items)
    (ap (λ xs. said_before (erased (tree_of_ty c.args.self_ty.now)) xs c.loop-k.k) c.as_slice-clauses.ensures.value
    ∙ objects-say c.in-Dynamic.clauses c.in-Dynamic.field-1 c.args.self_ty.now c.in-Dynamic.is c.loop-k.k
    (subst (λ xs. length xs ≤ c.loop-k.k) c.as_slice-clauses.ensures.value (omega (arith, c.loop-k-test.false))))
    c.loop-k.invariant
