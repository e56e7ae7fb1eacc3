use Rattle.std.proofs.Common.{inl, ℕ, subst}
use Rattle.std.specs.Prelude.{IfOk}
use Rattle.goal_terms.specs.Tree.{Tree}
use Rattle.goal_terms.specs.declared.answers.Certainty.TheVariants as certainty
use Rattle.goal_lists.specs.Answers.{setting_of}
use Rattle.goal_kinds.specs.CandidateRules.{RuleSays}
use Rattle.goal_lists.specs.Candidates.{built_in}
use Rattle.goal_kinds.specs.KindWords.{HasList, words_for}
use Rattle.goal_lists.specs.Levels.{level}
use Rattle.goal_kinds.specs.Rules.{RuleRefuted}
use Rattle.goal_kinds.proofs.assembly.collecting.push_built_in_rule.Goals as goal

pub returns-in_ok-push_rule-in-Ok-clause-adds : goal.returns-in_ok-push_rule-in-Ok-clause-adds
returns-in_ok-push_rule-in-Ok-clause-adds g c =
    inl (
      c.in-Ok.rule,
      c.in_ok-push_rule-in-Ok.ensures,
      (
        subst (λ a. IfOk a (HasList (words_for g.G.GoalKind.words c.args.tables.now c.args.goal.now c.args.mode.now) certainty.Yes built_in)) c.in-Ok.is c.named_rule.ensures.list,
        (
          subst (λ a. IfOk a (λ x. (n : ℕ) (t : Tree) → RuleSays g.G.GoalKind.words.has_term (setting_of c.args.tables.now c.args.mode.now c.args.goal.now.param_env.items) n x t → g.G.GoalKind.words.gives c.args.goal.now.predicate (setting_of c.args.tables.now c.args.mode.now c.args.goal.now.param_env.items) n built_in t)) c.in-Ok.is c.named_rule.ensures.answer.gives,
          subst (λ a. IfOk a (λ x. (n : ℕ) → RuleRefuted (setting_of c.args.tables.now c.args.mode.now c.args.goal.now.param_env.items) (level (setting_of c.args.tables.now c.args.mode.now c.args.goal.now.param_env.items) n) x → g.G.GoalKind.words.refuted c.args.goal.now.predicate (setting_of c.args.tables.now c.args.mode.now c.args.goal.now.param_env.items) n built_in)) c.in-Ok.is c.named_rule.ensures.answer.refuted,
        ),
      ),
    )
