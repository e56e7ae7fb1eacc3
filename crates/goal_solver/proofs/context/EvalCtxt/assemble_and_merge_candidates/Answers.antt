use Rattle.std.proofs.Common.{◌≡◌, None, Some, sym, ◌∙◌, subst}
use Rattle.std.specs.Prelude.{Ok}
use Rattle.goal_terms.specs.declared.answers.TraitGoalProvenVia.{TraitGoalProvenVia}
use Rattle.goal_kinds.specs.declared.goal_kind.MergeRule.{MergeRule}
use Rattle.goal_kinds.specs.Collecting.{kind_of}
use Rattle.goal_solver.specs.OpenGoals.{WhenAnswered}
use Rattle.goal_solver.specs.OpenHostGoals.{MergesConst}
use Rattle.goal_solver.specs.Promises.{AnswersGiven, AppliesGiven, asked_through}
use Rattle.goal_solver.proofs.PromiseLemmas.{trait_not_projection, host_not_projection, trait_not_projections, trait_not_host, host_not_projections, none_through, some_through, none-some}
use Rattle.goal_solver.proofs.GoingBackLemmas.{goes_back-same}
use Rattle.goal_solver.proofs.StoredLemmas.{some-is}
use Rattle.goal_solver.proofs.HostGoalLemmas.{class-given, class-missing}
use Rattle.goal_solver.proofs.context.EvalCtxt.assemble_and_merge_candidates.Goals as goal

-- trait goals
pub returns-in-TraitGoals-clause-trait_goals : goal.returns-in-TraitGoals-clause-trait_goals
returns-in-TraitGoals-clause-trait_goals g c = λ is closed. c.merge_trait_goal.ensures.answers closed

pub returns-in-TraitGoals-clause-merged : goal.returns-in-TraitGoals-clause-merged
returns-in-TraitGoals-clause-merged g c = λ is variables. c.merge_trait_goal.ensures.merged variables

pub returns-in-TraitGoals-clause-given : goal.returns-in-TraitGoals-clause-given
returns-in-TraitGoals-clause-given g c = λ is. absurd (trait_not_projections g.G.GoalKind.words.merging (sym c.merge_rule.ensures ∙ c.in-TraitGoals.is) is)

pub returns-in-TraitGoals-clause-host_effects : goal.returns-in-TraitGoals-clause-host_effects
returns-in-TraitGoals-clause-host_effects g c = λ is. absurd (trait_not_host g.G.GoalKind.words.merging (sym c.merge_rule.ensures ∙ c.in-TraitGoals.is) is)

pub returns-in-TraitGoals-clause-merged_through : goal.returns-in-TraitGoals-clause-merged_through
returns-in-TraitGoals-clause-merged_through g c = λ a k asked. absurd (trait_not_projection g.G.GoalKind.words.merging c.args.proven_via (g.G.PredicateTerms.normalization c.args.goal.now.predicate) a (sym c.merge_rule.ensures ∙ c.in-TraitGoals.is) asked)

pub returns-in-TraitGoals-clause-applies : goal.returns-in-TraitGoals-clause-applies
returns-in-TraitGoals-clause-applies g c =
    subst (λ (r : MergeRule). AppliesGiven c.args.self.now c.merge_trait_goal.new.self c.args.goal.now.param_env.items (asked_through r c.args.proven_via (g.G.PredicateTerms.normalization c.args.goal.now.predicate)) c.merge_trait_goal.result)
    (sym (sym c.merge_rule.ensures ∙ c.in-TraitGoals.is)) c.merge_trait_goal.ensures.applies

pub returns-in-TraitGoals-clause-merged_host : goal.returns-in-TraitGoals-clause-merged_host
returns-in-TraitGoals-clause-merged_host g c = λ class is. absurd (trait_not_host g.G.GoalKind.words.merging (sym c.merge_rule.ensures ∙ c.in-TraitGoals.is) is)

-- host effect goals without a class
no-class : (c : TraitGoalProvenVia) → None ≡ Some c → ⊥
no-class c e = absurd (cc)

pub returns-in-None-clause-goes_back : goal.returns-in-None-clause-goes_back
returns-in-None-clause-goes_back g c = goes_back-same c.args.self.now

pub returns-in-None-clause-host_effects : goal.returns-in-None-clause-host_effects
returns-in-None-clause-host_effects g c = λ is closed.
    class-missing c.args.self.now c.args.self.now c.args.goal.now.param_env.items c.args.proven_via (g.G.GoalKind.words.constness c.args.goal.now.predicate)
    (g.G.GoalKind.words.asked c.args.goal.now.predicate c.args.self.now.tables) (Ok c.undecided.result) c.in-None.is c.undecided.ensures.nothing

pub returns-in-None-clause-merged_host : goal.returns-in-None-clause-merged_host
returns-in-None-clause-merged_host g c = λ class is via. absurd (no-class class (sym c.in-None.is ∙ via))

pub returns-in-None-clause-given : goal.returns-in-None-clause-given
returns-in-None-clause-given g c = λ is. absurd (host_not_projections g.G.GoalKind.words.merging (sym c.merge_rule.ensures ∙ c.in-HostEffectGoals.is) is)

pub returns-in-None-clause-merged_through : goal.returns-in-None-clause-merged_through
returns-in-None-clause-merged_through g c = λ a k asked. absurd (host_not_projection g.G.GoalKind.words.merging c.args.proven_via (g.G.PredicateTerms.normalization c.args.goal.now.predicate) a (sym c.merge_rule.ensures ∙ c.in-HostEffectGoals.is) asked)

pub returns-in-None-clause-applies : goal.returns-in-None-clause-applies
returns-in-None-clause-applies g c =
    subst (λ (r : MergeRule). AppliesGiven c.args.self.now c.args.self.now c.args.goal.now.param_env.items (asked_through r c.args.proven_via (g.G.PredicateTerms.normalization c.args.goal.now.predicate)) (Ok c.undecided.result))
    (sym (sym c.merge_rule.ensures ∙ c.in-HostEffectGoals.is)) c.undecided.ensures.applies

-- and with one
pub returns-in-Some-clause-host_effects : goal.returns-in-Some-clause-host_effects
returns-in-Some-clause-host_effects g c = λ is closed.
    class-given c.args.self.now c.merge_host_effect.new.self c.args.goal.now.param_env.items c.args.proven_via c.in-Some.class (g.G.GoalKind.words.constness c.args.goal.now.predicate)
    (g.G.GoalKind.words.asked c.args.goal.now.predicate c.args.self.now.tables) c.merge_host_effect.result c.in-Some.is (c.merge_host_effect.ensures.host_effects closed)

pub returns-in-Some-clause-merged_host : goal.returns-in-Some-clause-merged_host
returns-in-Some-clause-merged_host g c = λ class is via others.
    subst (λ x. WhenAnswered c.merge_host_effect.result (MergesConst (kind_of g.G.GoalKind.words g.G.PredicateTerms.has_fault) x c.args.goal.now c.args.self.now c.merge_host_effect.result c.merge_host_effect.new.self)) (some-is c.in-Some.class class (sym c.in-Some.is ∙ via))
    (c.merge_host_effect.ensures.merged others)

pub returns-in-Some-clause-given : goal.returns-in-Some-clause-given
returns-in-Some-clause-given g c = λ is. absurd (host_not_projections g.G.GoalKind.words.merging (sym c.merge_rule.ensures ∙ c.in-HostEffectGoals.is) is)

pub returns-in-Some-clause-merged_through : goal.returns-in-Some-clause-merged_through
returns-in-Some-clause-merged_through g c = λ a k asked. absurd (host_not_projection g.G.GoalKind.words.merging c.args.proven_via (g.G.PredicateTerms.normalization c.args.goal.now.predicate) a (sym c.merge_rule.ensures ∙ c.in-HostEffectGoals.is) asked)

pub returns-in-Some-clause-applies : goal.returns-in-Some-clause-applies
returns-in-Some-clause-applies g c =
    subst (λ (r : MergeRule). AppliesGiven c.args.self.now c.merge_host_effect.new.self c.args.goal.now.param_env.items (asked_through r c.args.proven_via (g.G.PredicateTerms.normalization c.args.goal.now.predicate)) c.merge_host_effect.result)
    (sym (sym c.merge_rule.ensures ∙ c.in-HostEffectGoals.is)) c.merge_host_effect.ensures.applies

-- projections without a class
pub returns-in-None-proven_via-clause-goes_back : goal.returns-in-None-proven_via-clause-goes_back
returns-in-None-proven_via-clause-goes_back g c = goes_back-same c.args.self.now

pub returns-in-None-proven_via-clause-host_effects : goal.returns-in-None-proven_via-clause-host_effects
returns-in-None-proven_via-clause-host_effects g c = λ is closed. absurd (host_not_projections g.G.GoalKind.words.merging is (sym c.merge_rule.ensures ∙ c.in-Projections.is))

pub returns-in-None-proven_via-clause-given : goal.returns-in-None-proven_via-clause-given
returns-in-None-proven_via-clause-given g c = λ other.
    subst (λ o. AnswersGiven c.args.self.now c.args.self.now c.args.goal.now.param_env.items o (Ok c.undecided-in-None-proven_via.result))
    (sym (none_through g.G.GoalKind.words.merging c.args.proven_via (g.G.PredicateTerms.normalization c.args.goal.now.predicate) (sym c.merge_rule.ensures ∙ c.in-Projections.is) c.in-None-proven_via.is)) c.undecided-in-None-proven_via.ensures.nothing

pub returns-in-None-proven_via-clause-merged_through : goal.returns-in-None-proven_via-clause-merged_through
returns-in-None-proven_via-clause-merged_through g c = λ a k asked.
    absurd (none-some a (sym (none_through g.G.GoalKind.words.merging c.args.proven_via (g.G.PredicateTerms.normalization c.args.goal.now.predicate) (sym c.merge_rule.ensures ∙ c.in-Projections.is) c.in-None-proven_via.is) ∙ asked))

pub returns-in-None-proven_via-clause-applies : goal.returns-in-None-proven_via-clause-applies
returns-in-None-proven_via-clause-applies g c =
    subst (λ o. AppliesGiven c.args.self.now c.args.self.now c.args.goal.now.param_env.items o (Ok c.undecided-in-None-proven_via.result))
    (sym (none_through g.G.GoalKind.words.merging c.args.proven_via (g.G.PredicateTerms.normalization c.args.goal.now.predicate) (sym c.merge_rule.ensures ∙ c.in-Projections.is) c.in-None-proven_via.is)) c.undecided-in-None-proven_via.ensures.applies

pub returns-in-None-proven_via-clause-merged_host : goal.returns-in-None-proven_via-clause-merged_host
returns-in-None-proven_via-clause-merged_host g c = λ class is. absurd (host_not_projections g.G.GoalKind.words.merging is (sym c.merge_rule.ensures ∙ c.in-Projections.is))

-- projections through a class
pub returns-in-Some-proven_via-clause-merged_host : goal.returns-in-Some-proven_via-clause-merged_host
returns-in-Some-proven_via-clause-merged_host g c = λ class is. absurd (host_not_projections g.G.GoalKind.words.merging is (sym c.merge_rule.ensures ∙ c.in-Projections.is))

pub returns-in-Some-proven_via-clause-host_effects : goal.returns-in-Some-proven_via-clause-host_effects
returns-in-Some-proven_via-clause-host_effects g c = λ is closed. absurd (host_not_projections g.G.GoalKind.words.merging is (sym c.merge_rule.ensures ∙ c.in-Projections.is))

pub returns-in-Some-proven_via-clause-given : goal.returns-in-Some-proven_via-clause-given
returns-in-Some-proven_via-clause-given g c = λ other.
    subst (λ o. AnswersGiven c.args.self.now c.merge_projection.new.self c.args.goal.now.param_env.items o c.merge_projection.result)
    (sym (some_through g.G.GoalKind.words.merging c.args.proven_via (g.G.PredicateTerms.normalization c.args.goal.now.predicate) c.in-Some-proven_via.class (sym c.merge_rule.ensures ∙ c.in-Projections.is) c.in-Some-proven_via.is))
    c.merge_projection.ensures.given

pub returns-in-Some-proven_via-clause-applies : goal.returns-in-Some-proven_via-clause-applies
returns-in-Some-proven_via-clause-applies g c =
    subst (λ o. AppliesGiven c.args.self.now c.merge_projection.new.self c.args.goal.now.param_env.items o c.merge_projection.result)
    (sym (some_through g.G.GoalKind.words.merging c.args.proven_via (g.G.PredicateTerms.normalization c.args.goal.now.predicate) c.in-Some-proven_via.class (sym c.merge_rule.ensures ∙ c.in-Projections.is) c.in-Some-proven_via.is))
    c.merge_projection.ensures.applies

pub returns-in-Some-proven_via-clause-merged_through : goal.returns-in-Some-proven_via-clause-merged_through
returns-in-Some-proven_via-clause-merged_through g c = λ a k asked.
    c.merge_projection.ensures.merged_through a k
    (sym (some_through g.G.GoalKind.words.merging c.args.proven_via (g.G.PredicateTerms.normalization c.args.goal.now.predicate) c.in-Some-proven_via.class (sym c.merge_rule.ensures ∙ c.in-Projections.is) c.in-Some-proven_via.is) ∙ asked)
