use Rattle.std.proofs.Common.{◌≡◌, ◌∙◌, [], ap, ap₂, sym, subst}
use Rattle.goal_terms.specs.Erased.{erased}
use Rattle.goal_terms.specs.TreeOf.{tree_of_ty}
use Rattle.goal_kinds.specs.CandidateRules.{seen_trait}
use Rattle.goal_lists.specs.Candidates.{environment, rest}
use Rattle.goal_kinds.specs.KindWords.{words_for}
use Rattle.goal_kinds.specs.Collecting.{kind_of, goal_in, Speaks, Lacks, AreCollected, CollectsBounds, CollectsFor}
use Rattle.goal_kinds.proofs.CollectingLemmas.{collects-from_none}
use Rattle.goal_kinds.proofs.CollectedTermLemmas.{some-same, classes-differ, bounds-collected}
use Rattle.goal_kinds.proofs.ClassRuleLemmas.{accepted-clauses, collects-for, no-kind-fault}
use Rattle.goal_kinds.proofs.assembly.collecting.class_rules.Goals as goal
use Rattle.goal_kinds.proofs.assembly.collecting.class_rules.Goals.{in-AliasBound+in_ok-push_bound_rules, in_default-class+in_ok-push_rest_rules}

pub push_environment_rules-requires : goal.push_environment_rules-requires
push_environment_rules-requires g c = record { accepted = no-kind-fault g.G.PredicateTerms.has_fault c.args.tables.now c.args.goal.now c.requires.accepted }

pub push_rest_rules-requires : goal.push_rest_rules-requires
push_rest_rules-requires g c = record {
  accepted = no-kind-fault g.G.PredicateTerms.has_fault c.args.tables.now c.args.goal.now c.requires.accepted;
  asked = sym c.in-Some.ensures;
}

pub returns-in-ParamEnv-clause-collected : goal.returns-in-ParamEnv-clause-collected
returns-in-ParamEnv-clause-collected g c =
    let W = words_for g.G.GoalKind.words c.args.tables.now c.args.goal.now c.args.mode.now in
    subst (λ k. CollectsFor (kind_of g.G.GoalKind.words g.G.PredicateTerms.has_fault) (goal_in c.args.tables.now c.args.goal.now c.args.mode.now) k c.push_environment_rules.new.found.items) (sym c.in-ParamEnv.is)
    (collects-from_none (Speaks W) (λ x. W.refuted 0 x) (environment W.setting) c.new-found.result.items c.push_environment_rules.new.found.items c.new-found.ensures.items
    (c.in_ok-push_environment_rules.ensures.collected (accepted-clauses g.G.PredicateTerms.has_fault c.args.tables.now c.args.goal.now c.requires.accepted)))

pub returns-clause-collected : goal.returns-clause-collected
returns-clause-collected g c =
    let W = words_for g.G.GoalKind.words c.args.tables.now c.args.goal.now c.args.mode.now in
    collects-for (kind_of g.G.GoalKind.words g.G.PredicateTerms.has_fault) c.args.tables.now c.args.goal.now c.args.mode.now c.args.class _ c.requires.accepted
    (λ is accepted. absurd (c.in_default.not-ParamEnv is))
    (λ q s is asked of. elim c.match-class-2.branch [
      | in-AliasBound+in_ok-push_bound_rules w ↦
          subst (λ v. CollectsBounds W W.additional s [] v.items) (sym w.found-is)
          (bounds-collected W W.additional c.in-Some-self_ty.self_ty.now s c.new-found.result.items w.push_bound_rules.new.found.items
          (c.in-Some-self_ty.ensures ∙ of) c.new-found.ensures.items w.in_ok-push_bound_rules.ensures.collected)
      | in_default-class+in_ok-push_rest_rules w ↦ absurd (w.in_default-class.not-AliasBound is)
    ])
    (λ q s is asked of own. elim c.match-class-2.branch [
      | in-AliasBound+in_ok-push_bound_rules w ↦ absurd (classes-differ c.args.class w.in-AliasBound.is is)
      | in_default-class+in_ok-push_rest_rules w ↦
          let the_trait : c.in-Some.asked.def_id ≡ q.def_id = ap (λ x. x.def_id) (some-same (seen_trait c.in-Some.asked) q (c.in-Some.ensures ∙ asked)) in
          let the_type : c.in-Some-self_ty.self_ty.now ≡ s = some-same c.in-Some-self_ty.self_ty.now s (c.in-Some-self_ty.ensures ∙ of) in
          subst (λ v. AreCollected (Speaks W) (Lacks W) v.items (rest W.setting q.def_id (erased (tree_of_ty s)))) (sym w.found-is)
          (subst (AreCollected (Speaks W) (Lacks W) w.push_rest_rules.new.found.items) (ap₂ (λ i t. rest W.setting i (erased (tree_of_ty t))) the_trait the_type)
          (collects-from_none (Speaks W) (Lacks W) (rest W.setting c.in-Some.asked.def_id (erased (tree_of_ty c.in-Some-self_ty.self_ty.now)))
          c.new-found.result.items w.push_rest_rules.new.found.items c.new-found.ensures.items
          (w.in_ok-push_rest_rules.ensures.collected (λ row e. own row (e ∙ the_trait)))))
    ])
