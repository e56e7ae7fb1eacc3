-- What the evaluation of a goal without inference variables says, over a context.
use Rattle.std.specs.Prelude.{◌≡◌, true, List, Result, IfOk, IfErr, ℕ}
use Rattle.goal_terms.specs.PredicateTrees.{PredicateTree, holds}
use Rattle.goal_terms.specs.Tree.{Tree}
use Rattle.goal_terms.specs.declared.modes.TypingMode.{TypingMode}
use Rattle.goal_terms.specs.declared.predicates.Clause.{Clause}
use Rattle.goal_terms.specs.declared.terms.AliasTermKind.{AliasTermKind}
use Rattle.goal_lists.specs.Level.{Level}
use Rattle.goal_lists.specs.Premises.{ClauseHolds, ClauseRefuted}
use Rattle.goal_lists.specs.Settings.{is_headline}
use Rattle.goal_eval.specs.ErasedArgs.{erased_args}
use Rattle.goal_solver.specs.Answers.{IsOwed, level_over}
use Rattle.goal_eval.specs.Outcomes.{RunsAs, Says, SaysWhich, SaysThrough}
use Rattle.goal_solver.specs.Promises.{const_asked, equation_asked}
use Rattle.goal_solver.specs.State.{State}
use Rattle.goal_eval.specs.declared.eval.outcomes.Found.{Found}
use Rattle.goal_eval.specs.declared.eval.outcomes.OnAccess.{OnAccess}
use Rattle.goal_lists.specs.declared.outcomes.Outcome.{Outcome}
use Rattle.goal_eval.specs.declared.eval.outcomes.Stop.{Stop}
use Rattle.goal_eval.specs.declared.eval.outcomes.Stop.TheVariants as stop
use Rattle.goal_solver.specs.declared.eval.predicate_views.PredicateView.{PredicateView}
use Rattle.goal_solver.specs.declared.eval.predicate_views.PredicateView.TheVariants as view
use Rattle.goal_lists.specs.Answers.{setting_of}
use Rattle.goal_lists.specs.Levels.{level}
use Rattle.goal_terms.specs.declared.ids.TraitId.{TraitId}
use Rattle.goal_lists.specs.declared.outcomes.TraitOutcome.{TraitOutcome}
use Rattle.goal_terms.specs.declared.terms.AliasTerm.{AliasTerm}

-- a predicate as it stands in a goal, lifetimes aside
abbrev pub predicate_seen : PredicateView → PredicateTree
predicate_seen (view.Trait p) = holds p.now.trait_ref.def_id (erased_args p.now.trait_ref.args.items)
predicate_seen (view.HostEffect p) = const_asked p.now
predicate_seen (view.Projection p) = equation_asked p.now

-- whether a predicate holds, at a level
abbrev pub SaysAt : Level → PredicateTree → Result Outcome Stop → Type 0
SaysAt L p r = IfOk r (Says (ClauseHolds L p) (ClauseRefuted L p))

-- so in each mode that is owed an answer
abbrev pub SaysOf : State → State → List Clause → PredicateTree → Result Outcome Stop → Type 0
SaysOf old new env p r = (m : TypingMode) → IsOwed new m → SaysAt (level_over old m env) p r

-- which term an alias has, at a level
abbrev pub SaysTermAt : Level → AliasTermKind → List Tree → List Tree → Result Found Stop → Type 0
SaysTermAt L k ts T r = IfOk r (SaysWhich (L.gives k ts) (L.gives_refuted k ts) T)

-- an evaluation in a mode of the headline is only stopped by want of memory
abbrev pub StopsForMemory : {A : Type 0} → State → Result A Stop → Type 0
StopsForMemory s r = is_headline s.typing_mode ≡ true → IfErr r (λ e. e ≡ stop.OutOfMemory)

-- so it is at the remaining depth, in each mode for which a run speaks
abbrev pub WhereRun : OnAccess → State → List Clause → (Level → Type 0) → Type 0
WhereRun on before env P = (m : TypingMode) → RunsAs on before.typing_mode m → P (level_over before m env)

-- what trees no higher than a depth prove
abbrev pub level_at : State → TypingMode → List Clause → ℕ → Level
level_at s m env n = level (setting_of s.tables m env) n

-- through which class a trait goal holds, at a level
abbrev pub SaysTraitAt : Level → TraitId → List Tree → Result TraitOutcome Stop → Type 0
SaysTraitAt L i ts r = IfOk r (SaysThrough (λ c. L.through c i ts) (L.trait_refuted i ts))

-- which term an alias has, as it stands
abbrev pub SaysAliasTerm : Level → AliasTerm → List Tree → Result Found Stop → Type 0
SaysAliasTerm L a T r = SaysTermAt L a.kind (erased_args a.args.items) T r
