use Rattle.std.proofs.Common.{◌++◌, ◌∙◌, inl, sym, ap, subst}
use Rattle.goal_lists.specs.Answers.{setting_of}
use Rattle.goal_lists.specs.Candidates.{bounds_under}
use Rattle.goal_kinds.specs.KindWords.{words_for}
use Rattle.goal_kinds.specs.Collecting.{args_and_itself, bounds_of_kind, Speaks, Lacks, Collects}
use Rattle.goal_kinds.proofs.CollectingLemmas.{collects-nothing}
use Rattle.goal_kinds.proofs.CollectedTermLemmas.{kind-none}
use Rattle.goal_kinds.proofs.assembly.collecting.push_bound_rules.Goals as goal

pub returns-in_ok-push_alias_rules-in-ProjectionTy-clause-collected : goal.returns-in_ok-push_alias_rules-in-ProjectionTy-clause-collected
returns-in_ok-push_alias_rules-in-ProjectionTy-clause-collected g c =
    inl (
      c.in-Alias.alias,
      c.in-Alias.is,
      subst (λ ds. Collects (Speaks (words_for g.G.GoalKind.words c.args.tables.now c.args.goal.now c.args.mode.now)) (Lacks (words_for g.G.GoalKind.words c.args.tables.now c.args.goal.now c.args.mode.now)) ds c.args.found.now.items c.push_alias_rules.new.found.items)
          (ap (λ cs. bounds_under (args_and_itself c.in-Alias.alias) cs ++ g.G.GoalKind.words.additional c.args.goal.now.predicate (setting_of c.args.tables.now c.args.mode.now c.args.goal.now.param_env.items) c.in-Alias.alias) c.clauses_of_item-clauses.ensures
          ∙ ap (λ k. bounds_of_kind c.args.tables.now k (args_and_itself c.in-Alias.alias) (g.G.GoalKind.words.additional c.args.goal.now.predicate (setting_of c.args.tables.now c.args.mode.now c.args.goal.now.param_env.items) c.in-Alias.alias)) (sym c.in-ProjectionTy.is))
          c.in_ok-push_alias_rules-in-ProjectionTy.ensures.collected,
    )

pub returns-in_ok-push_alias_rules-in-OpaqueTy-clause-collected : goal.returns-in_ok-push_alias_rules-in-OpaqueTy-clause-collected
returns-in_ok-push_alias_rules-in-OpaqueTy-clause-collected g c =
    inl (
      c.in-Alias.alias,
      c.in-Alias.is,
      subst (λ ds. Collects (Speaks (words_for g.G.GoalKind.words c.args.tables.now c.args.goal.now c.args.mode.now)) (Lacks (words_for g.G.GoalKind.words c.args.tables.now c.args.goal.now c.args.mode.now)) ds c.args.found.now.items c.push_alias_rules-in-OpaqueTy.new.found.items)
          (ap (λ cs. bounds_under (args_and_itself c.in-Alias.alias) cs ++ g.G.GoalKind.words.additional c.args.goal.now.predicate (setting_of c.args.tables.now c.args.mode.now c.args.goal.now.param_env.items) c.in-Alias.alias) c.clauses_of_opaque-clauses.ensures
          ∙ ap (λ k. bounds_of_kind c.args.tables.now k (args_and_itself c.in-Alias.alias) (g.G.GoalKind.words.additional c.args.goal.now.predicate (setting_of c.args.tables.now c.args.mode.now c.args.goal.now.param_env.items) c.in-Alias.alias)) (sym c.in-OpaqueTy.is))
          c.in_ok-push_alias_rules-in-OpaqueTy.ensures.collected,
    )

pub returns-in_default-kind : goal.returns-in_default-kind
returns-in_default-kind g c = record {
  collected =
      inl (
        c.in-Alias.alias,
        c.in-Alias.is,
        subst (λ ds. Collects (Speaks (words_for g.G.GoalKind.words c.args.tables.now c.args.goal.now c.args.mode.now)) (Lacks (words_for g.G.GoalKind.words c.args.tables.now c.args.goal.now c.args.mode.now)) ds c.args.found.now.items c.args.found.now.items)
            (sym (kind-none c.args.tables.now c.in-Alias.alias.kind (args_and_itself c.in-Alias.alias) (g.G.GoalKind.words.additional c.args.goal.now.predicate (setting_of c.args.tables.now c.args.mode.now c.args.goal.now.param_env.items) c.in-Alias.alias)
            c.in_default-kind.not-ProjectionTy c.in_default-kind.not-OpaqueTy))
            (collects-nothing (Speaks (words_for g.G.GoalKind.words c.args.tables.now c.args.goal.now c.args.mode.now)) (Lacks (words_for g.G.GoalKind.words c.args.tables.now c.args.goal.now c.args.mode.now)) c.args.found.now.items),
      );
  only_memory = tt;
}
