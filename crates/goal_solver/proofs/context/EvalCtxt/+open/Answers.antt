use Rattle.goal_solver.proofs.AnswerLemmas.{owed-before, open-ground}
use Rattle.goal_solver.proofs.GoingBackLemmas.{goes_back-grown, goes_back-same, goes_back-through, begins-through, goes_back-restored, goes_back-tried, valid-begun}
use Rattle.goal_solver.proofs.BindingLemmas.{on_ok-map}
use Rattle.goal_solver.proofs.OpenStepLemmas.{evaluation-step, term-step, arguments-step}
use Rattle.std.proofs.Common.{◌≡◌, ◌++◌, ◌+◌, ℕ, List, Vec, Global, Result, length, get_or, drop, take, refl, sym, ◌∙◌, subst, subst₂, arith, [], ap, inl, Some, None, Ok, Err, ◌∷◌, Option, inr}
use Rattle.std.specs.Prelude.{IfOk, IfErr, IfSome}
use Rattle.std.proofs.Math.Seq.{take-length}
use Rattle.goal_terms.specs.declared.answers.Certainty.{Certainty}
use Rattle.goal_kinds.specs.declared.faults.Fault.{Fault}
use Rattle.goal_solver.specs.AddedGoals.{AllTakeAt, AreSplit, LeavesUndecided, IsRefusalAt, AreAnswerableAt, AreClosedAt, IsAnswerable, IsAnswerAt}
use Rattle.goal_solver.specs.GoingBack.{BeginsWith, GoesBack, restored, begun}
use Rattle.goal_solver.specs.Relating.{IsFaultFor, SaysYes}
use Rattle.goal_solver.proofs.AddedGoalLemmas.{round-begins, records-through, fault-before, restored-owed, restored-alone, restored-fault, restored-itself, answer-before, fault-later}
use Rattle.goal_solver.proofs.RoundLemmas.{next-answerable, next-listed, next-within, next-fault, next-says, next-split, next-takes, next-waiting, next-begins, ends-says, ends-split, ends-taking, ends-waiting, takes-none, takes-over, gone-over, over-done, over-fault, over-last, over-open, handed-on, left-none, left-some, same-lengths}
use Rattle.goal_solver.proofs.RefusalLemmas.{refused-on, refuses-later, refuses-among, aside-refused, restored-refused, memory-only, pending-refused, stops-at, refused-map, stops-last, open-refused, open-goal-refused, evaluation-refused, term-refused, arguments-refused}
use Rattle.std.proofs.lemmas.Bool.{false≢true}
use Rattle.std.proofs.Common.{true≢false, ◌<◌}
use Rattle.goal_solver.specs.State.{State, kinds_of}
use Rattle.goal_solver.specs.Refusals.{RefusesListed, RefusesNames, RefusesTerm, RefusesArguments, WhenRefused}
use Rattle.goal_terms.specs.TreeOf.{trees_of}
use Rattle.goal_terms.specs.declared.answers.GoalSource.{GoalSource}
use Rattle.goal_terms.specs.declared.predicates.Goal.{Goal}
use Rattle.goal_terms.specs.declared.predicates.Predicate.{Predicate}
use Rattle.goal_solver.proofs.AsideLemmas.{aside-sound, aside-decided, aside-given, aside-closed, aside-taken}
use Rattle.goal_solver.proofs.NormalizingLemmas.{answerable-grown, binds-grown, closed-answerable}
use Rattle.goal_solver.proofs.PlaceLemmas.{taken-split}
use Rattle.goal_solver.proofs.FaultLemmas.{undone-faults, grown-faults}
use Rattle.goal_solver.proofs.VariableLemmas.{on_err}
use Rattle.goal_solver.specs.Responses.{ListsSinceMark}
use Rattle.goal_solver.specs.OpenAnswers.{answers_term, AnswersTrait, InTrial, MergesProjection}
use Rattle.goal_solver.proofs.ChosenLemmas.{asked-alone, chooses-held, chooses-refuted, chosen-given, chosen-refused}
use Rattle.goal_solver.specs.OpenRuns.{AnswersAlone, WhenAsked, Evaluates, GivesTerm, NamesArguments, named_trees, open_progress, open_start, RunsThrough, RunsOpen}
use Rattle.goal_solver.proofs.ClosingLemmas.{evaluates-grown, closing-answers, closing-recorded}
use Rattle.goal_lists.proofs.ResultLemmas.{ok-map}
use Rattle.goal_solver.proofs.SinceMarkLemmas.{lists-kept}
use Rattle.std.proofs.lemmas.List.Elements.{All-nil}
use Rattle.goal_solver.specs.RunRules.{IsRecorded, IsRecordedAnswer}
use Rattle.goal_solver.proofs.OpenRecordLemmas.{open_recorded-next, tried-recorded, tried-listed, fault-tried}
use Rattle.goal_solver.proofs.OpenRunLemmas.{through-none, through-next, through-all}
use Rattle.goal_solver.proofs.RecordedLemmas.{recorded-end, none-listed, listed-next, listed-caused, step-caused}
use Rattle.goal_solver.specs.Binding.{IsApplicable}
use Rattle.goal_solver.proofs.ListedLemmas.{listed-applies}
use Rattle.goal_solver.proofs.LaterLemmas.{merged-later}
use Rattle.goal_solver.proofs.MergedLemmas.{runs-none, merged-next}
use Rattle.std.specs.Option.{option_map}
use Rattle.goal_lists.specs.declared.outcomes.Outcome.TheVariants as outcome
use Rattle.goal_solver.specs.MoreSpecial.{RunsAlone, IsTraitRule, AsksEach, AsksMoreSpecial, match_seen}
use Rattle.goal_solver.proofs.MoreSpecialLemmas.{asks-none, asked-next, asked-all, runs-refused, runs-beside, beside-applies}
use Rattle.goal_solver.proofs.BelowLemmas.{applies-below, merges-below, projects-below}
use Rattle.goal_terms.specs.declared.answers.Response.{Response}
use Rattle.goal_eval.specs.ErasedArgs.{erased_args}
use Rattle.goal_solver.specs.Answers.{IsOpen, IsQuiet, level_over}
use Rattle.goal_kinds.specs.Collecting.{trait_kind, rules_of_class}
use Rattle.goal_solver.specs.OpenGoals.{WhenTried, ConsidersRules, AreOfClass, WhenAnswered}
use Rattle.goal_solver.proofs.ApplicableLemmas.{nothing-applies-after, nothing-applies}
use Rattle.goal_solver.proofs.OpenClassLemmas.{answered-in, by-classes, class-answers, first-answers, next-answers, none-answers, none-left}
use Rattle.goal_solver.proofs.OpenTraitLemmas.{ended-fault, form-grown, grown-records, some-unless, restored-records, let-go, let-go-back, let-go-caused, let-go-fault}
use Rattle.goal_solver.specs.OpenHostGoals.{host_kind, AnswersPlain, MergesHostEffect}
use Rattle.goal_solver.proofs.OpenHostLemmas.{const-at_once, const-below, const-grouped, const-refused, const-through, const-unproven, group-answered, group-first, group-later, group-none, group-refuted, group-split}
use Rattle.goal_solver.specs.OpenProjections.{ConsidersGroups, IsAliasRule, IsRigid, WithForms, alias_kind, own_args}
use Rattle.goal_solver.proofs.OpenProjectionLemmas.{alias-none, alias-run, asks-its-trait, no-trait, projects-alias, projects-refused, projects-unproven, projects-through, rules-merged, environment-answers, environment-splits, later-answers, bounds-answer, bounds-split, bounds-rigid, rest-answers, rest-splits, rest-refuses, through-groups, not-maybe}
use Rattle.goal_lists.specs.Answers.{setting_of}
use Rattle.goal_lists.specs.Levels.{level}
use Rattle.goal_solver.proofs.PromiseLemmas.{leaves-undecided}
use Rattle.goal_solver.proofs.AccessLemmas.{none-recorded}
use Rattle.goal_terms.specs.declared.predicates.Clause.{Clause}
use Rattle.goal_terms.specs.Erased.{erased}
use Rattle.goal_terms.specs.TreeOf.{tree_of_alias, tree_of_term}
use Rattle.goal_terms.specs.declared.terms.Term.{Term}
use Rattle.goal_lists.specs.Interned.{erased_at}
use Rattle.goal_solver.specs.OpenForms.{OpensFrom}
use Rattle.goal_solver.proofs.OpenFormLemmas.{answers-err, answers-ok, asks-term, grown-left, known, made-records, opens-answered, opens-let_go, opens-refused, opens-undone, refuses-term, same-records, undone-fault, with-fresh, restored-grown, restored-twice}
use Rattle.goal_terms.specs.declared.terms.AliasTerm.{AliasTerm}
use Rattle.goal_interner.specs.declared.term_nodes.TermId.{TermId}
use Rattle.goal_solver.proofs.AskedGoalLemmas.{asked-merges, asked-passed, asked-refused, asked-shown}
use Rattle.goal_solver.specs.AskedGoals.{AsksOpen, DecidesBy, MergesAsked, asked_environment, formed_as}
use Rattle.goal_solver.proofs.OpenedSelfLemmas.{left-or_opened, left-or_opened-const, left-or_opened-through, after-fault, form-passed, form-refused, merge-answered, merge-refused, opened-applies, opened-unsaid}
use Rattle.goal_solver.specs.Accesses.{uncaused}
use Rattle.goal_terms.specs.declared.answers.TraitGoalProvenVia.TheVariants as class
use Rattle.goal_kinds.specs.declared.faults.Fault.TheVariants as fault
use Rattle.goal_solver.specs.declared.assembly.merged_rules.Merged.TheVariants as merged
use Rattle.goal_solver.specs.declared.assembly.formed_rules.FormedRules.{FormedRules}
use Rattle.goal_solver.specs.OpenHeaders.{trees_at, is_known}
use Rattle.goal_kinds.specs.declared.rules.RuleArguments.TheVariants as arguments
use Rattle.goal_terms.specs.View.{trees_seen}
use Rattle.goal_interner.specs.TableMeaning.{tree_at}
use Rattle.goal_solver.proofs.OpenHeaderLemmas.{back-at_depth, said-at_depth, refused-always, open-not_closed, lacks-open, lacks-rigid, opens-none, opens-next, opens-through, opens-entered, stops-through, stops-at_one, names-plainly, names-below, refused-plainly, refused-opened, refused-opening, some-asked}
use Rattle.goal_solver.proofs.context.EvalCtxt.+open.Goals as goal

pub evaluate_round-loop-i-init : goal.evaluate_round-loop-i-init
evaluate_round-loop-i-init t c = record {
  says = λ m owed closed. subst (λ (xs : List ℕ). LeavesUndecided c.args.self.now m c.args.goals.now c.args.places.now c.args.places.now xs) (sym c.new-left.ensures.items) (round-begins c.args.self.now m c.args.goals.now c.args.places.now);
  gives = λ m owed ok. subst (λ (xs : List ℕ). AllTakeAt c.args.self.now m c.args.goals.now c.args.places.now (xs ++ c.args.places.now) c.args.self.now) (sym c.new-left.ensures.items)
      (takes-none c.args.self.now c.args.self.now m c.args.goals.now c.args.places.now);
  waits = λ m owed ok. subst (λ (xs : List ℕ). AreAnswerableAt c.args.self.now c.args.goals.now (xs ++ c.args.places.now)) (sym c.new-left.ensures.items) ok;
  closed = λ h. refl;
  split = subst (λ (xs : List ℕ). AreSplit (length c.args.goals.now) c.args.taken.now.items (xs ++ c.args.places.now)) (sym c.new-left.ensures.items) c.requires.split;
  taken = take-length c.args.taken.now.items;
  alone = refl;
  faults = refl;
  goes_back = goes_back-same c.args.self.now;
}

pub evaluate_round-goal_at-added-requires : goal.evaluate_round-goal_at-added-requires
evaluate_round-goal_at-added-requires t c = next-within (length c.args.goals.now) c.args.taken.now.items c.args.places.now c.loop-i.i (get_or c.args.places.now c.loop-i.i 0) (omega arith) refl c.requires.split

pub evaluate_round-returns-in_err-answered-clause-refuses : goal.evaluate_round-returns-in_err-answered-clause-refuses
evaluate_round-returns-in_err-answered-clause-refuses t c = λ m owed closed.
    handed-on c.from_residual.result c.in_err-answered.field-0.0 (λ (r : Result (Vec ℕ Global) Fault). IfErr r (IsRefusalAt c.args.self.now m c.args.goals.now c.args.places.now)) c.from_residual.ensures.1
    (next-fault c.args.self.now c.loop-i.self m c.args.goals.now c.args.places.now c.loop-i.i (get_or c.args.places.now c.loop-i.i 0) c.goal_at-added.result.now c.in_err-answered.field-0.0 (omega arith) refl c.goal_at-added.ensures
    c.loop-i.invariant.alone (c.in_err-answered.ensures.answer m owed
    (next-answerable c.loop-i.self c.args.goals.now c.args.places.now c.loop-i.left.items c.loop-i.i (get_or c.args.places.now c.loop-i.i 0) c.goal_at-added.result.now (omega arith) refl c.goal_at-added.ensures
    (c.loop-i.invariant.waits m (owed-before c.loop-i.self c.evaluate_goal.new.self m c.evaluate_goal.ensures.goes_back owed) closed))))

pub evaluate_round-returns-in_err-answered-clause-split : goal.evaluate_round-returns-in_err-answered-clause-split
evaluate_round-returns-in_err-answered-clause-split t c = (
  c.loop-i.left.items ++ drop c.loop-i.i c.args.places.now,
  c.loop-i.invariant.split,
  handed-on c.from_residual.result c.in_err-answered.field-0.0 (λ (r : Result (Vec ℕ Global) Fault). IfOk r (λ left. c.loop-i.left.items ++ drop c.loop-i.i c.args.places.now ≡ left.items)) c.from_residual.ensures.1 tt,
)

pub evaluate_round-returns-in_err-answered-clause-alone : goal.evaluate_round-returns-in_err-answered-clause-alone
evaluate_round-returns-in_err-answered-clause-alone t c = records-through c.args.self.now c.loop-i.self c.evaluate_goal.new.self c.loop-i.invariant.alone c.evaluate_goal.ensures.alone

pub evaluate_round-returns-in_err-answered-clause-goes_back : goal.evaluate_round-returns-in_err-answered-clause-goes_back
evaluate_round-returns-in_err-answered-clause-goes_back t c = goes_back-through c.args.self.now c.loop-i.self c.evaluate_goal.new.self c.loop-i.invariant.goes_back c.evaluate_goal.ensures.goes_back

pub evaluate_round-returns-in_err-answered-clause-fault : goal.evaluate_round-returns-in_err-answered-clause-fault
evaluate_round-returns-in_err-answered-clause-fault t c =
    handed-on c.from_residual.result c.in_err-answered.field-0.0 (λ (r : Result (Vec ℕ Global) Fault). IsFaultFor c.args.self.now c.evaluate_goal.new.self r) c.from_residual.ensures.1
    (fault-before Certainty (Vec ℕ Global) c.args.self.now c.loop-i.self c.evaluate_goal.new.self c.in_err-answered.field-0.0 c.loop-i.invariant.goes_back c.in_err-answered.ensures.fault)

pub evaluate_round-returns-in_err-list_place-clause-split : goal.evaluate_round-returns-in_err-list_place-clause-split
evaluate_round-returns-in_err-list_place-clause-split t c = (
  c.loop-i.left.items ++ drop c.loop-i.i c.args.places.now,
  subst (λ (xs : List ℕ). AreSplit (length c.args.goals.now) xs (c.loop-i.left.items ++ drop c.loop-i.i c.args.places.now)) (sym c.in_err-list_place.ensures.unchanged.0) c.loop-i.invariant.split,
  handed-on c.from_residual-in_err-list_place.result c.in_err-list_place.field-0.0 (λ (r : Result (Vec ℕ Global) Fault). IfOk r (λ left. c.loop-i.left.items ++ drop c.loop-i.i c.args.places.now ≡ left.items)) c.from_residual-in_err-list_place.ensures.1 tt,
)

pub evaluate_round-returns-in_err-list_place-clause-taken : goal.evaluate_round-returns-in_err-list_place-clause-taken
evaluate_round-returns-in_err-list_place-clause-taken t c = subst (λ (xs : List ℕ). BeginsWith xs c.args.taken.now.items) (sym c.in_err-list_place.ensures.unchanged.0) c.loop-i.invariant.taken

pub evaluate_round-returns-in_err-list_place-clause-alone : goal.evaluate_round-returns-in_err-list_place-clause-alone
evaluate_round-returns-in_err-list_place-clause-alone t c = records-through c.args.self.now c.loop-i.self c.evaluate_goal.new.self c.loop-i.invariant.alone c.evaluate_goal.ensures.alone

pub evaluate_round-returns-in_err-list_place-clause-goes_back : goal.evaluate_round-returns-in_err-list_place-clause-goes_back
evaluate_round-returns-in_err-list_place-clause-goes_back t c = goes_back-through c.args.self.now c.loop-i.self c.evaluate_goal.new.self c.loop-i.invariant.goes_back c.evaluate_goal.ensures.goes_back

pub evaluate_round-loop-i-preserved : goal.evaluate_round-loop-i-preserved
evaluate_round-loop-i-preserved t c = record {
  says = λ m owed ok.
      let before = owed-before c.loop-i.self c.evaluate_goal.new.self m c.evaluate_goal.ensures.goes_back owed in
      next-says c.args.self.now c.loop-i.self m c.args.goals.now c.args.places.now c.loop-i.taken.items c.loop-i.left.items c.list_place.new.taken.items c.list_place.new.left.items c.loop-i.i (get_or c.args.places.now c.loop-i.i 0) c.goal_at-added.result.now c.in_ok-answered.answered
      (omega arith) refl c.goal_at-added.ensures c.loop-i.invariant.alone c.in_ok-list_place.ensures.listed (c.loop-i.invariant.says m before ok)
      (c.in_ok-answered.ensures.answer m owed
      (next-answerable c.loop-i.self c.args.goals.now c.args.places.now c.loop-i.left.items c.loop-i.i (get_or c.args.places.now c.loop-i.i 0) c.goal_at-added.result.now (omega arith) refl c.goal_at-added.ensures (c.loop-i.invariant.waits m before ok)));
  gives = λ m owed ok.
      let before = owed-before c.loop-i.self c.evaluate_goal.new.self m c.evaluate_goal.ensures.goes_back owed in
      next-takes c.args.self.now c.loop-i.self c.evaluate_goal.new.self m c.args.goals.now c.loop-i.i (get_or c.args.places.now c.loop-i.i 0) c.goal_at-added.result.now c.args.places.now c.loop-i.left.items c.list_place.new.left.items c.loop-i.taken.items c.list_place.new.taken.items c.in_ok-answered.answered
      (omega arith) refl c.goal_at-added.ensures c.loop-i.invariant.alone c.evaluate_goal.ensures.goes_back c.in_ok-list_place.ensures.listed (c.loop-i.invariant.gives m before ok)
      (c.in_ok-answered.ensures.keeps m owed
      (next-answerable c.loop-i.self c.args.goals.now c.args.places.now c.loop-i.left.items c.loop-i.i (get_or c.args.places.now c.loop-i.i 0) c.goal_at-added.result.now (omega arith) refl c.goal_at-added.ensures (c.loop-i.invariant.waits m before ok)));
  waits = λ m owed ok.
      let before = owed-before c.loop-i.self c.evaluate_goal.new.self m c.evaluate_goal.ensures.goes_back owed in
      let waits = c.loop-i.invariant.waits m before ok in
      next-waiting c.loop-i.self c.evaluate_goal.new.self c.args.goals.now (length c.args.goals.now) c.loop-i.i (get_or c.args.places.now c.loop-i.i 0) c.goal_at-added.result.now c.args.places.now c.loop-i.left.items c.list_place.new.left.items c.loop-i.taken.items c.list_place.new.taken.items c.in_ok-answered.answered
      (omega arith) refl c.goal_at-added.ensures (ap (λ (s : State). s.tables) c.evaluate_goal.ensures.alone) c.in_ok-list_place.ensures.listed c.loop-i.invariant.split waits (level_over c.loop-i.self m c.goal_at-added.result.now.1.param_env.items)
      (c.in_ok-answered.ensures.keeps m owed
      (next-answerable c.loop-i.self c.args.goals.now c.args.places.now c.loop-i.left.items c.loop-i.i (get_or c.args.places.now c.loop-i.i 0) c.goal_at-added.result.now (omega arith) refl c.goal_at-added.ensures waits));
  closed = λ closed. c.evaluate_goal.ensures.closed (closed (get_or c.args.places.now c.loop-i.i 0) c.goal_at-added.result.now c.goal_at-added.ensures (next-listed c.args.places.now c.loop-i.i (get_or c.args.places.now c.loop-i.i 0) (omega arith) refl)) ∙ c.loop-i.invariant.closed closed;
  split = next-split (length c.args.goals.now) c.loop-i.i (get_or c.args.places.now c.loop-i.i 0) c.args.places.now c.loop-i.taken.items c.loop-i.left.items c.list_place.new.taken.items c.list_place.new.left.items c.in_ok-answered.answered (omega arith) refl c.in_ok-list_place.ensures.listed c.loop-i.invariant.split;
  taken = next-begins c.args.taken.now.items c.loop-i.taken.items c.loop-i.left.items c.list_place.new.taken.items c.list_place.new.left.items (get_or c.args.places.now c.loop-i.i 0) c.in_ok-answered.answered c.in_ok-list_place.ensures.listed c.loop-i.invariant.taken;
  alone = records-through c.args.self.now c.loop-i.self c.evaluate_goal.new.self c.loop-i.invariant.alone c.evaluate_goal.ensures.alone;
  faults = c.evaluate_goal.ensures.faults ∙ c.loop-i.invariant.faults;
  goes_back = goes_back-through c.args.self.now c.loop-i.self c.evaluate_goal.new.self c.loop-i.invariant.goes_back c.evaluate_goal.ensures.goes_back;
}

pub evaluate_round-returns-clause-says : goal.evaluate_round-returns-clause-says
evaluate_round-returns-clause-says t c = λ m owed closed. ends-says c.args.self.now m c.args.goals.now c.args.places.now c.loop-i.left.items c.loop-i.i (omega arith) (c.loop-i.invariant.says m owed closed)

pub evaluate_round-returns-clause-gives : goal.evaluate_round-returns-clause-gives
evaluate_round-returns-clause-gives t c = λ m owed ok.
    ends-taking c.args.self.now c.loop-i.self m c.args.goals.now c.args.places.now c.loop-i.left.items c.loop-i.i (omega arith) (c.loop-i.invariant.gives m owed ok)

pub evaluate_round-returns-clause-leaves : goal.evaluate_round-returns-clause-leaves
evaluate_round-returns-clause-leaves t c = λ m owed ok. ends-waiting c.loop-i.self c.args.goals.now c.args.places.now c.loop-i.left.items c.loop-i.i (omega arith) (c.loop-i.invariant.waits m owed ok)

pub evaluate_round-returns-clause-split : goal.evaluate_round-returns-clause-split
evaluate_round-returns-clause-split t c = (c.loop-i.left.items, ends-split (length c.args.goals.now) c.loop-i.i c.args.places.now c.loop-i.taken.items c.loop-i.left.items (omega arith) c.loop-i.invariant.split, refl)

pub evaluate_round-returns-in_err-answered-clause-refused : goal.evaluate_round-returns-in_err-answered-clause-refused
evaluate_round-returns-in_err-answered-clause-refused t c =
    refused-on _ c.from_residual.result c.in_err-answered.field-0.0 c.from_residual.ensures.1
    (λ is. (
      get_or c.args.places.now c.loop-i.i 0,
      c.goal_at-added.result.now,
      c.goal_at-added.ensures,
      next-listed c.args.places.now c.loop-i.i (get_or c.args.places.now c.loop-i.i 0) (omega arith) refl,
      refuses-later c.args.self.now c.loop-i.self c.evaluate_goal.new.self c.goal_at-added.result.now.1 c.loop-i.invariant.alone (c.in_err-answered.ensures.refused is),
    ))

pub evaluate_rounds-loop-round-init : goal.evaluate_rounds-loop-round-init
evaluate_rounds-loop-round-init t c = record {
  first = λ closed. (refl, refl, refl);
  over = λ m owed ok. inl (refl, refl);
  gives = λ m owed ok. takes-none c.args.self.now c.args.self.now m c.args.goals.now c.args.places.items;
  waits = λ m owed ok. ok;
  split = c.requires.split;
  taken = take-length c.args.taken.now.items;
  alone = refl;
  faults = refl;
  goes_back = goes_back-same c.args.self.now;
}

pub evaluate_rounds-evaluate_round-requires : goal.evaluate_rounds-evaluate_round-requires
evaluate_rounds-evaluate_round-requires t c = (
  omega (arith, c.loop-round.invariant.goes_back.remaining_depth),
  subst (λ (xs : List ℕ). AreSplit (length c.args.goals.now) c.loop-round.taken.items xs) (sym c.as_slice.ensures.value) c.loop-round.invariant.split,
)

pub evaluate_rounds-returns-in_err-left-clause-answer : goal.evaluate_rounds-returns-in_err-left-clause-answer
evaluate_rounds-returns-in_err-left-clause-answer t c = λ m owed ok.
    let before = owed-before c.loop-round.self c.evaluate_round.new.self m c.evaluate_round.ensures.goes_back owed in
    handed-on c.from_residual.result c.in_err-left.field-0.0 (λ (r : Result Certainty Fault). IsAnswerAt c.args.self.now m c.args.goals.now c.args.places.items r) c.from_residual.ensures.1
    (over-fault c.args.self.now c.loop-round.self m c.args.goals.now c.args.places.items c.loop-round.pending.items c.loop-round.round c.in_err-left.field-0.0 c.loop-round.invariant.alone (c.loop-round.invariant.over m before ok)
    (subst (λ (xs : List ℕ). IsRefusalAt c.loop-round.self m c.args.goals.now xs c.in_err-left.field-0.0) c.as_slice.ensures.value
    (c.in_err-left.ensures.refuses m owed (subst (AreAnswerableAt c.loop-round.self c.args.goals.now) (sym c.as_slice.ensures.value) (c.loop-round.invariant.waits m before ok)))))

pub evaluate_rounds-returns-in_err-left-clause-split : goal.evaluate_rounds-returns-in_err-left-clause-split
evaluate_rounds-returns-in_err-left-clause-split t c = (
  c.evaluate_round.ensures.split.0,
  c.evaluate_round.ensures.split.1,
  handed-on c.from_residual.result c.in_err-left.field-0.0 (λ (r : Result Certainty Fault). SaysYes r → c.evaluate_round.ensures.split.0 ≡ []) c.from_residual.ensures.1 (λ y. absurd y),
)

pub evaluate_rounds-returns-in_err-left-clause-alone : goal.evaluate_rounds-returns-in_err-left-clause-alone
evaluate_rounds-returns-in_err-left-clause-alone t c = records-through c.args.self.now c.loop-round.self c.evaluate_round.new.self c.loop-round.invariant.alone c.evaluate_round.ensures.alone

pub evaluate_rounds-returns-in_err-left-clause-goes_back : goal.evaluate_rounds-returns-in_err-left-clause-goes_back
evaluate_rounds-returns-in_err-left-clause-goes_back t c = goes_back-through c.args.self.now c.loop-round.self c.evaluate_round.new.self c.loop-round.invariant.goes_back c.evaluate_round.ensures.goes_back

pub evaluate_rounds-returns-in_err-left-clause-taken : goal.evaluate_rounds-returns-in_err-left-clause-taken
evaluate_rounds-returns-in_err-left-clause-taken t c = begins-through c.args.taken.now.items c.loop-round.taken.items c.evaluate_round.new.taken.items c.loop-round.invariant.taken c.evaluate_round.ensures.taken

pub evaluate_rounds-returns-in_err-left-clause-fault : goal.evaluate_rounds-returns-in_err-left-clause-fault
evaluate_rounds-returns-in_err-left-clause-fault t c =
    handed-on c.from_residual.result c.in_err-left.field-0.0 (λ (r : Result Certainty Fault). IsFaultFor c.args.self.now c.evaluate_round.new.self r) c.from_residual.ensures.1
    (fault-before (Vec ℕ Global) Certainty c.args.self.now c.loop-round.self c.evaluate_round.new.self c.in_err-left.field-0.0 c.loop-round.invariant.goes_back c.in_err-left.ensures.fault)

pub evaluate_rounds-returns-then-is_empty-clause-answer : goal.evaluate_rounds-returns-then-is_empty-clause-answer
evaluate_rounds-returns-then-is_empty-clause-answer t c = λ m owed ok.
    let before = owed-before c.loop-round.self c.evaluate_round.new.self m c.evaluate_round.ensures.goes_back owed in
    let over =
    gone-over c.args.self.now c.loop-round.self m c.args.goals.now c.args.places.items c.loop-round.pending.items c.in_ok-left.left.items c.loop-round.round c.loop-round.invariant.alone (c.loop-round.invariant.over m before ok)
    (subst (λ (xs : List ℕ). LeavesUndecided c.loop-round.self m c.args.goals.now xs [] c.in_ok-left.left.items) c.as_slice.ensures.value
    (c.in_ok-left.ensures.says m owed (subst (AreAnswerableAt c.loop-round.self c.args.goals.now) (sym c.as_slice.ensures.value) (c.loop-round.invariant.waits m before ok)))) in
    over-done c.args.self.now m c.args.goals.now c.args.places.items c.in_ok-left.left.items (left-none c.in_ok-left.left.len c.is_empty.result c.in_ok-left.left.items c.in_ok-left.left.ok.0 c.is_empty.ensures c.if-is_empty.true) over

pub evaluate_rounds-returns-then-is_empty-clause-given : goal.evaluate_rounds-returns-then-is_empty-clause-given
evaluate_rounds-returns-then-is_empty-clause-given t c = λ m owed ok says.
    let before = owed-before c.loop-round.self c.evaluate_round.new.self m c.evaluate_round.ensures.goes_back owed in
    subst (λ (xs : List ℕ). AllTakeAt c.args.self.now m c.args.goals.now c.args.places.items xs c.evaluate_round.new.self)
    (left-none c.in_ok-left.left.len c.is_empty.result c.in_ok-left.left.items c.in_ok-left.left.ok.0 c.is_empty.ensures c.if-is_empty.true)
    (takes-over c.args.self.now c.loop-round.self c.evaluate_round.new.self m c.args.goals.now c.args.places.items c.loop-round.pending.items c.in_ok-left.left.items c.loop-round.invariant.alone c.evaluate_round.ensures.goes_back
    (c.loop-round.invariant.gives m before ok)
    (subst (λ (xs : List ℕ). AllTakeAt c.loop-round.self m c.args.goals.now xs c.in_ok-left.left.items c.evaluate_round.new.self) c.as_slice.ensures.value
    (c.in_ok-left.ensures.gives m owed (subst (AreAnswerableAt c.loop-round.self c.args.goals.now) (sym c.as_slice.ensures.value) (c.loop-round.invariant.waits m before ok)))))

pub evaluate_rounds-returns-then-is_empty-clause-closed : goal.evaluate_rounds-returns-then-is_empty-clause-closed
evaluate_rounds-returns-then-is_empty-clause-closed t c = λ closed.
    let first = c.loop-round.invariant.first closed in
    c.in_ok-left.ensures.closed (subst (λ (xs : List ℕ). AreClosedAt c.args.goals.now xs) (sym (c.as_slice.ensures.value ∙ first.1)) closed) ∙ ap (λ (s : State). s.inference) first.2

pub evaluate_rounds-returns-then-is_empty-clause-split : goal.evaluate_rounds-returns-then-is_empty-clause-split
evaluate_rounds-returns-then-is_empty-clause-split t c = (c.in_ok-left.left.items, (subst (λ (xs : List ℕ). AreSplit (length c.args.goals.now) c.evaluate_round.new.taken.items xs) c.in_ok-left.ensures.split.2 c.in_ok-left.ensures.split.1), λ y. (left-none c.in_ok-left.left.len c.is_empty.result c.in_ok-left.left.items c.in_ok-left.left.ok.0 c.is_empty.ensures c.if-is_empty.true))

pub evaluate_rounds-returns-then-is_empty-clause-alone : goal.evaluate_rounds-returns-then-is_empty-clause-alone
evaluate_rounds-returns-then-is_empty-clause-alone t c = records-through c.args.self.now c.loop-round.self c.evaluate_round.new.self c.loop-round.invariant.alone c.evaluate_round.ensures.alone

pub evaluate_rounds-returns-then-is_empty-clause-goes_back : goal.evaluate_rounds-returns-then-is_empty-clause-goes_back
evaluate_rounds-returns-then-is_empty-clause-goes_back t c = goes_back-through c.args.self.now c.loop-round.self c.evaluate_round.new.self c.loop-round.invariant.goes_back c.evaluate_round.ensures.goes_back

pub evaluate_rounds-returns-then-is_empty-clause-taken : goal.evaluate_rounds-returns-then-is_empty-clause-taken
evaluate_rounds-returns-then-is_empty-clause-taken t c = begins-through c.args.taken.now.items c.loop-round.taken.items c.evaluate_round.new.taken.items c.loop-round.invariant.taken c.evaluate_round.ensures.taken

pub evaluate_rounds-returns-then-is_at-clause-answer : goal.evaluate_rounds-returns-then-is_at-clause-answer
evaluate_rounds-returns-then-is_at-clause-answer t c = λ m owed ok.
    let before = owed-before c.loop-round.self c.evaluate_round.new.self m c.evaluate_round.ensures.goes_back owed in
    let over =
    gone-over c.args.self.now c.loop-round.self m c.args.goals.now c.args.places.items c.loop-round.pending.items c.in_ok-left.left.items c.loop-round.round c.loop-round.invariant.alone (c.loop-round.invariant.over m before ok)
    (subst (λ (xs : List ℕ). LeavesUndecided c.loop-round.self m c.args.goals.now xs [] c.in_ok-left.left.items) c.as_slice.ensures.value
    (c.in_ok-left.ensures.says m owed (subst (AreAnswerableAt c.loop-round.self c.args.goals.now) (sym c.as_slice.ensures.value) (c.loop-round.invariant.waits m before ok)))) in
    over-open c.args.self.now m c.args.goals.now c.evaluate_round.new.taken.items c.args.places.items c.in_ok-left.left.items (left-some c.in_ok-left.left.len c.is_empty.result c.in_ok-left.left.items c.in_ok-left.left.ok.0 c.is_empty.ensures c.if-is_empty.false)
    (subst (λ (xs : List ℕ). AreSplit (length c.args.goals.now) c.evaluate_round.new.taken.items xs) c.in_ok-left.ensures.split.2 c.in_ok-left.ensures.split.1) over

pub evaluate_rounds-returns-then-is_at-clause-closed : goal.evaluate_rounds-returns-then-is_at-clause-closed
evaluate_rounds-returns-then-is_at-clause-closed t c = λ closed.
    let first = c.loop-round.invariant.first closed in
    c.in_ok-left.ensures.closed (subst (λ (xs : List ℕ). AreClosedAt c.args.goals.now xs) (sym (c.as_slice.ensures.value ∙ first.1)) closed) ∙ ap (λ (s : State). s.inference) first.2

pub evaluate_rounds-returns-then-is_at-clause-split : goal.evaluate_rounds-returns-then-is_at-clause-split
evaluate_rounds-returns-then-is_at-clause-split t c = (c.in_ok-left.left.items, (subst (λ (xs : List ℕ). AreSplit (length c.args.goals.now) c.evaluate_round.new.taken.items xs) c.in_ok-left.ensures.split.2 c.in_ok-left.ensures.split.1), λ y. absurd y)

pub evaluate_rounds-returns-then-is_at-clause-alone : goal.evaluate_rounds-returns-then-is_at-clause-alone
evaluate_rounds-returns-then-is_at-clause-alone t c = records-through c.args.self.now c.loop-round.self c.evaluate_round.new.self c.loop-round.invariant.alone c.evaluate_round.ensures.alone

pub evaluate_rounds-returns-then-is_at-clause-goes_back : goal.evaluate_rounds-returns-then-is_at-clause-goes_back
evaluate_rounds-returns-then-is_at-clause-goes_back t c = goes_back-through c.args.self.now c.loop-round.self c.evaluate_round.new.self c.loop-round.invariant.goes_back c.evaluate_round.ensures.goes_back

pub evaluate_rounds-returns-then-is_at-clause-taken : goal.evaluate_rounds-returns-then-is_at-clause-taken
evaluate_rounds-returns-then-is_at-clause-taken t c = begins-through c.args.taken.now.items c.loop-round.taken.items c.evaluate_round.new.taken.items c.loop-round.invariant.taken c.evaluate_round.ensures.taken

pub evaluate_rounds-loop-round-preserved : goal.evaluate_rounds-loop-round-preserved
evaluate_rounds-loop-round-preserved t c = record {
  first = λ closed.
      let first = c.loop-round.invariant.first closed in
      absurd (false≢true (sym c.if-is_at.false ∙ c.is_at.ensures.1 (same-lengths c.loop-round.self c.evaluate_round.new.self c.evaluate_round.ensures.alone (c.in_ok-left.ensures.closed (subst (λ (xs : List ℕ). AreClosedAt c.args.goals.now xs) (sym (c.as_slice.ensures.value ∙ first.1)) closed)) ∙ sym c.snapshot-earlier.ensures)));
  over = λ m owed ok.
      let before = owed-before c.loop-round.self c.evaluate_round.new.self m c.evaluate_round.ensures.goes_back owed in
      let over =
      gone-over c.args.self.now c.loop-round.self m c.args.goals.now c.args.places.items c.loop-round.pending.items c.in_ok-left.left.items c.loop-round.round c.loop-round.invariant.alone (c.loop-round.invariant.over m before ok)
      (subst (λ (xs : List ℕ). LeavesUndecided c.loop-round.self m c.args.goals.now xs [] c.in_ok-left.left.items) c.as_slice.ensures.value
      (c.in_ok-left.ensures.says m owed (subst (AreAnswerableAt c.loop-round.self c.args.goals.now) (sym c.as_slice.ensures.value) (c.loop-round.invariant.waits m before ok)))) in
      inr (over, left-some c.in_ok-left.left.len c.is_empty.result c.in_ok-left.left.items c.in_ok-left.left.ok.0 c.is_empty.ensures c.if-is_empty.false);
  gives = λ m owed ok.
      let before = owed-before c.loop-round.self c.evaluate_round.new.self m c.evaluate_round.ensures.goes_back owed in
      takes-over c.args.self.now c.loop-round.self c.evaluate_round.new.self m c.args.goals.now c.args.places.items c.loop-round.pending.items c.in_ok-left.left.items c.loop-round.invariant.alone c.evaluate_round.ensures.goes_back
      (c.loop-round.invariant.gives m before ok)
      (subst (λ (xs : List ℕ). AllTakeAt c.loop-round.self m c.args.goals.now xs c.in_ok-left.left.items c.evaluate_round.new.self) c.as_slice.ensures.value
      (c.in_ok-left.ensures.gives m owed (subst (AreAnswerableAt c.loop-round.self c.args.goals.now) (sym c.as_slice.ensures.value) (c.loop-round.invariant.waits m before ok))));
  waits = λ m owed ok.
      let before = owed-before c.loop-round.self c.evaluate_round.new.self m c.evaluate_round.ensures.goes_back owed in
      c.in_ok-left.ensures.leaves m owed (subst (AreAnswerableAt c.loop-round.self c.args.goals.now) (sym c.as_slice.ensures.value) (c.loop-round.invariant.waits m before ok));
  split = (subst (λ (xs : List ℕ). AreSplit (length c.args.goals.now) c.evaluate_round.new.taken.items xs) c.in_ok-left.ensures.split.2 c.in_ok-left.ensures.split.1);
  taken = begins-through c.args.taken.now.items c.loop-round.taken.items c.evaluate_round.new.taken.items c.loop-round.invariant.taken c.evaluate_round.ensures.taken;
  alone = records-through c.args.self.now c.loop-round.self c.evaluate_round.new.self c.loop-round.invariant.alone c.evaluate_round.ensures.alone;
  faults = c.evaluate_round.ensures.faults ∙ c.loop-round.invariant.faults;
  goes_back = goes_back-through c.args.self.now c.loop-round.self c.evaluate_round.new.self c.loop-round.invariant.goes_back c.evaluate_round.ensures.goes_back;
}

pub evaluate_rounds-returns-clause-answer : goal.evaluate_rounds-returns-clause-answer
evaluate_rounds-returns-clause-answer t c = λ m owed ok.
    over-last c.args.self.now m c.args.goals.now c.loop-round.taken.items c.args.places.items c.loop-round.pending.items c.loop-round.round (omega arith) c.loop-round.invariant.split (c.loop-round.invariant.over m owed ok)

pub evaluate_rounds-returns-clause-closed : goal.evaluate_rounds-returns-clause-closed
evaluate_rounds-returns-clause-closed t c = λ closed. absurd (omega (arith, (c.loop-round.invariant.first closed).0))

pub evaluate_rounds-returns-clause-split : goal.evaluate_rounds-returns-clause-split
evaluate_rounds-returns-clause-split t c = (c.loop-round.pending.items, c.loop-round.invariant.split, λ y. absurd y)

pub evaluate_rounds-returns-in_err-left-clause-refused : goal.evaluate_rounds-returns-in_err-left-clause-refused
evaluate_rounds-returns-in_err-left-clause-refused t c =
    refused-on _ c.from_residual.result c.in_err-left.field-0.0 c.from_residual.ensures.1
    (λ is. refuses-among c.args.self.now c.loop-round.self c.evaluate_round.new.self c.args.goals.now c.args.taken.now.items c.loop-round.taken.items c.args.places.items c.loop-round.pending.items
    c.loop-round.invariant.alone c.requires.split c.loop-round.invariant.split c.loop-round.invariant.taken
    (subst (RefusesListed c.loop-round.self c.evaluate_round.new.self c.args.goals.now) c.as_slice.ensures.value (c.in_err-left.ensures.refused is)))

pub evaluate_added_goals-returns-in_err-pending-clause-goes_back : goal.evaluate_added_goals-returns-in_err-pending-clause-goes_back
evaluate_added_goals-returns-in_err-pending-clause-goes_back t c = goes_back-same c.args.self.now

pub evaluate_added_goals-invariant_of-self-2 : goal.evaluate_added_goals-invariant_of-self-2
evaluate_added_goals-invariant_of-self-2 t c = (
  c.self-2.invariant.0,
  c.self-2.invariant.1,
  c.self-2.invariant.2,
  c.self-2.invariant.3,
  c.self-2.invariant.4,
  c.self-2.invariant.5,
  taken-split c.replace-goals.result.items c.evaluate_rounds-answered.new.taken.items c.evaluate_rounds-answered.ensures.split.0
      (subst (λ (us : List (GoalSource × Goal Predicate)). AreSplit (length us) c.evaluate_rounds-answered.new.taken.items c.evaluate_rounds-answered.ensures.split.0) c.as_slice.ensures.value c.evaluate_rounds-answered.ensures.split.1),
)

pub evaluate_added_goals-returns-clause-sound : goal.evaluate_added_goals-returns-clause-sound
evaluate_added_goals-returns-clause-sound t c = λ m. aside-sound _ c.args.self.now _ c.evaluate_rounds-answered.new.self c.replace-goals.new.dest.items c.as_slice.result.now c.replace-taken.new.dest.items c.in_ok-pending.pending.items m c.evaluate_rounds-answered.result
    c.self.view_is (c.as_slice.ensures.value ∙ ap (λ (v : Vec (GoalSource × Goal Predicate) Global). v.items) c.replace-goals.ensures.value ∙ ap (λ (s : State). s.goals) c.self.view_is) c.self-2.view_is c.in_ok-pending.ensures.split (c.evaluate_rounds-answered.ensures.answer m)

pub evaluate_added_goals-returns-clause-decided : goal.evaluate_added_goals-returns-clause-decided
evaluate_added_goals-returns-clause-decided t c = λ m. aside-decided _ c.args.self.now _ c.evaluate_rounds-answered.new.self c.replace-goals.new.dest.items c.as_slice.result.now c.replace-taken.new.dest.items c.in_ok-pending.pending.items m c.evaluate_rounds-answered.result
    c.self.view_is (c.as_slice.ensures.value ∙ ap (λ (v : Vec (GoalSource × Goal Predicate) Global). v.items) c.replace-goals.ensures.value ∙ ap (λ (s : State). s.goals) c.self.view_is) c.self-2.view_is c.in_ok-pending.ensures.split (c.evaluate_rounds-answered.ensures.answer m)

pub evaluate_added_goals-returns-clause-given : goal.evaluate_added_goals-returns-clause-given
evaluate_added_goals-returns-clause-given t c = λ m. aside-given _ c.args.self.now _ c.evaluate_rounds-answered.new.self _ c.replace-goals.new.dest.items c.as_slice.result.now c.replace-taken.new.dest.items c.in_ok-pending.pending.items m c.evaluate_rounds-answered.result
    c.self.view_is (c.as_slice.ensures.value ∙ ap (λ (v : Vec (GoalSource × Goal Predicate) Global). v.items) c.replace-goals.ensures.value ∙ ap (λ (s : State). s.goals) c.self.view_is) c.self-2.view_is refl refl c.in_ok-pending.ensures.split (c.evaluate_rounds-answered.ensures.given m)

pub evaluate_added_goals-returns-clause-closed : goal.evaluate_added_goals-returns-clause-closed
evaluate_added_goals-returns-clause-closed t c =
    aside-closed _ c.args.self.now _ c.evaluate_rounds-answered.new.self c.as_slice.result.now c.in_ok-pending.pending.items c.evaluate_rounds-answered.result
    c.self.view_is (c.as_slice.ensures.value ∙ ap (λ (v : Vec (GoalSource × Goal Predicate) Global). v.items) c.replace-goals.ensures.value ∙ ap (λ (s : State). s.goals) c.self.view_is) c.self-2.view_is c.in_ok-pending.ensures.split c.evaluate_rounds-answered.ensures.closed

pub evaluate_added_goals-returns-clause-taken : goal.evaluate_added_goals-returns-clause-taken
evaluate_added_goals-returns-clause-taken t c = aside-taken c.as_slice.result.now c.replace-goals.result.items c.evaluate_rounds-answered.new.taken.items c.evaluate_rounds-answered.result c.as_slice.ensures.value c.evaluate_rounds-answered.ensures.split

pub evaluate_added_goals-returns-clause-refused : goal.evaluate_added_goals-returns-clause-refused
evaluate_added_goals-returns-clause-refused t c =
    aside-refused _ c.args.self.now c.evaluate_rounds-answered.new.self _ c.replace-goals.new.dest.items c.as_slice.result.now c.replace-taken.new.dest.items c.in_ok-pending.pending.items c.evaluate_rounds-answered.result
    c.self.view_is (c.as_slice.ensures.value ∙ ap (λ (v : Vec (GoalSource × Goal Predicate) Global). v.items) c.replace-goals.ensures.value ∙ ap (λ (s : State). s.goals) c.self.view_is)
    (ap (λ (s : State). s.typing_mode) c.self-2.view_is) (ap (λ (s : State). s.accesses) c.self-2.view_is) c.in_ok-pending.ensures.split c.evaluate_rounds-answered.ensures.refused

pub try_evaluate_added_goals-rollback-requires : goal.try_evaluate_added_goals-rollback-requires
try_evaluate_added_goals-rollback-requires t c = record { valid = (c.args.self.now, c.snapshot-before.ensures, c.evaluate_added_goals-answered.ensures.goes_back, c.holds_together.ensures) }

pub try_evaluate_added_goals-returns-then-is_err-clause-sound : goal.try_evaluate_added_goals-returns-then-is_err-clause-sound
try_evaluate_added_goals-returns-then-is_err-clause-sound t c = λ m owed.
    c.evaluate_added_goals-answered.ensures.sound m
    (restored-owed c.args.self.now c.evaluate_added_goals-answered.new.self c.rollback.new.self m
    (c.rollback.ensures.undone c.args.self.now c.snapshot-before.ensures c.evaluate_added_goals-answered.ensures.goes_back) c.evaluate_added_goals-answered.ensures.goes_back owed)

pub try_evaluate_added_goals-returns-then-is_err-clause-decided : goal.try_evaluate_added_goals-returns-then-is_err-clause-decided
try_evaluate_added_goals-returns-then-is_err-clause-decided t c = λ m owed.
    c.evaluate_added_goals-answered.ensures.decided m
    (restored-owed c.args.self.now c.evaluate_added_goals-answered.new.self c.rollback.new.self m
    (c.rollback.ensures.undone c.args.self.now c.snapshot-before.ensures c.evaluate_added_goals-answered.ensures.goes_back) c.evaluate_added_goals-answered.ensures.goes_back owed)

pub try_evaluate_added_goals-returns-then-is_err-clause-closed : goal.try_evaluate_added_goals-returns-then-is_err-clause-closed
try_evaluate_added_goals-returns-then-is_err-clause-closed t c = λ closed.
    ap (λ (s : State). s.inference) (c.rollback.ensures.undone c.args.self.now c.snapshot-before.ensures c.evaluate_added_goals-answered.ensures.goes_back)

pub try_evaluate_added_goals-returns-then-is_err-clause-alone : goal.try_evaluate_added_goals-returns-then-is_err-clause-alone
try_evaluate_added_goals-returns-then-is_err-clause-alone t c =
    restored-alone c.args.self.now c.evaluate_added_goals-answered.new.self c.rollback.new.self
    (c.rollback.ensures.undone c.args.self.now c.snapshot-before.ensures c.evaluate_added_goals-answered.ensures.goes_back)

pub try_evaluate_added_goals-returns-then-is_err-clause-faults : goal.try_evaluate_added_goals-returns-then-is_err-clause-faults
try_evaluate_added_goals-returns-then-is_err-clause-faults t c =
    undone-faults c.args.self.now c.evaluate_added_goals-answered.new.self c.rollback.new.self c.evaluate_added_goals-answered.ensures.goes_back c.evaluate_added_goals-answered.ensures.faults
    (c.rollback.ensures.undone c.args.self.now c.snapshot-before.ensures c.evaluate_added_goals-answered.ensures.goes_back)

pub try_evaluate_added_goals-returns-then-is_err-clause-unchanged : goal.try_evaluate_added_goals-returns-then-is_err-clause-unchanged
try_evaluate_added_goals-returns-then-is_err-clause-unchanged t c =
    on_err c.evaluate_added_goals-answered.result
    (restored-itself c.args.self.now c.evaluate_added_goals-answered.new.self c.rollback.new.self
    (c.rollback.ensures.undone c.args.self.now c.snapshot-before.ensures c.evaluate_added_goals-answered.ensures.goes_back))

pub try_evaluate_added_goals-returns-then-is_err-clause-goes_back : goal.try_evaluate_added_goals-returns-then-is_err-clause-goes_back
try_evaluate_added_goals-returns-then-is_err-clause-goes_back t c =
    subst (GoesBack c.args.self.now)
    (sym (c.rollback.ensures.undone c.args.self.now c.snapshot-before.ensures c.evaluate_added_goals-answered.ensures.goes_back))
    (goes_back-restored c.args.self.now c.evaluate_added_goals-answered.new.self c.evaluate_added_goals-answered.ensures.goes_back)

pub try_evaluate_added_goals-returns-then-is_err-clause-fault : goal.try_evaluate_added_goals-returns-then-is_err-clause-fault
try_evaluate_added_goals-returns-then-is_err-clause-fault t c =
    restored-fault c.args.self.now c.evaluate_added_goals-answered.new.self c.rollback.new.self c.evaluate_added_goals-answered.result
    (c.rollback.ensures.undone c.args.self.now c.snapshot-before.ensures c.evaluate_added_goals-answered.ensures.goes_back) c.evaluate_added_goals-answered.ensures.fault

pub try_evaluate_added_goals-returns-then-is_err-clause-refused : goal.try_evaluate_added_goals-returns-then-is_err-clause-refused
try_evaluate_added_goals-returns-then-is_err-clause-refused t c =
    restored-refused c.args.self.now c.evaluate_added_goals-answered.new.self c.rollback.new.self c.evaluate_added_goals-answered.result
    (c.rollback.ensures.undone c.args.self.now c.snapshot-before.ensures c.evaluate_added_goals-answered.ensures.goes_back) c.evaluate_added_goals-answered.ensures.goes_back
    c.evaluate_added_goals-answered.ensures.refused

pub evaluate_added_goals_and_make_canonical_response-rollback-requires : goal.evaluate_added_goals_and_make_canonical_response-rollback-requires
evaluate_added_goals_and_make_canonical_response-rollback-requires t c =
    let whole = goes_back-through c.args.self.now c.try_evaluate_added_goals.new.self c.response_since_mark-response.new.self
    c.try_evaluate_added_goals.ensures.goes_back c.response_since_mark-response.ensures.goes_back in
    record { valid = (c.args.self.now, c.snapshot-before.ensures, whole, c.holds_together.ensures) }

pub evaluate_added_goals_and_make_canonical_response-returns-then-is_err-clause-goes_back : goal.evaluate_added_goals_and_make_canonical_response-returns-then-is_err-clause-goes_back
evaluate_added_goals_and_make_canonical_response-returns-then-is_err-clause-goes_back t c =
    let whole = goes_back-through c.args.self.now c.try_evaluate_added_goals.new.self c.response_since_mark-response.new.self
    c.try_evaluate_added_goals.ensures.goes_back c.response_since_mark-response.ensures.goes_back in
    subst (GoesBack c.args.self.now) (sym (c.rollback.ensures.undone c.args.self.now c.snapshot-before.ensures whole))
    (goes_back-restored c.args.self.now c.response_since_mark-response.new.self whole)

pub evaluate_added_goals_and_make_canonical_response-returns-else-is_err-clause-listed : goal.evaluate_added_goals_and_make_canonical_response-returns-else-is_err-clause-listed
evaluate_added_goals_and_make_canonical_response-returns-else-is_err-clause-listed t c =
    ok-map (ListsSinceMark c.try_evaluate_added_goals.new.self c.both.result) (λ r. ListsSinceMark c.response_since_mark-response.new.self r.certainty r)
    c.response_since_mark-response.result
    (λ r l. lists-kept c.try_evaluate_added_goals.new.self c.response_since_mark-response.new.self c.both.result r
    c.response_since_mark-response.ensures.unchanged (c.response_since_mark-response.ensures.goes_back).terms c.holds_together-2.ensures.solved l)
    c.response_since_mark-response.ensures.listed

pub evaluate_added_goals_and_make_canonical_response-returns-else-is_err-clause-evaluated : goal.evaluate_added_goals_and_make_canonical_response-returns-else-is_err-clause-evaluated
evaluate_added_goals_and_make_canonical_response-returns-else-is_err-clause-evaluated t c =
    let evaluates : Evaluates c.args.self.now c.try_evaluate_added_goals.new.self c.in_ok-evaluated.evaluated = record {
      sound = λ m owed closed. c.in_ok-evaluated.ensures.sound m owed closed;
      decided = λ m owed closed. c.in_ok-evaluated.ensures.decided m owed closed;
      given = λ m owed closed. c.in_ok-evaluated.ensures.given m owed closed;
      closed = c.try_evaluate_added_goals.ensures.closed;
      taken = c.in_ok-evaluated.ensures.taken;
      alone = c.try_evaluate_added_goals.ensures.alone;
      back = c.try_evaluate_added_goals.ensures.goes_back;
    } in
    ok-map (ListsSinceMark c.try_evaluate_added_goals.new.self c.both.result) _ c.response_since_mark-response.result
    (λ r l. (
      c.in_ok-evaluated.evaluated,
      evaluates-grown c.args.self.now c.try_evaluate_added_goals.new.self c.response_since_mark-response.new.self c.in_ok-evaluated.evaluated
          c.response_since_mark-response.ensures.unchanged (c.response_since_mark-response.ensures.goes_back).terms evaluates,
      l.certainty ∙ c.both.ensures,
    ))
    c.response_since_mark-response.ensures.listed

pub evaluate_added_goals_and_make_canonical_response-returns-then-is_err-clause-refused : goal.evaluate_added_goals_and_make_canonical_response-returns-then-is_err-clause-refused
evaluate_added_goals_and_make_canonical_response-returns-then-is_err-clause-refused t c = memory-only _ c.response_since_mark-response.result c.response_since_mark-response.ensures.only_memory

pub evaluate_added_goals_and_make_canonical_response-returns-else-is_err-clause-refused : goal.evaluate_added_goals_and_make_canonical_response-returns-else-is_err-clause-refused
evaluate_added_goals_and_make_canonical_response-returns-else-is_err-clause-refused t c = memory-only _ c.response_since_mark-response.result c.response_since_mark-response.ensures.only_memory

pub evaluate_added_goals_and_make_canonical_response-returns-in_err-evaluated-clause-refused : goal.evaluate_added_goals_and_make_canonical_response-returns-in_err-evaluated-clause-refused
evaluate_added_goals_and_make_canonical_response-returns-in_err-evaluated-clause-refused t c =
    refused-on _ c.from_residual.result c.in_err-evaluated.field-0.0 c.from_residual.ensures.1
    (λ is. pending-refused c.args.self.now c.try_evaluate_added_goals.new.self (c.in_err-evaluated.ensures.refused is) c.in_err-evaluated.ensures.unchanged c.try_evaluate_added_goals.ensures.goes_back)

pub evaluate_pending-returns-in_err-try_evaluate_added_goals-clause-refused : goal.evaluate_pending-returns-in_err-try_evaluate_added_goals-clause-refused
evaluate_pending-returns-in_err-try_evaluate_added_goals-clause-refused t c =
    refused-on _ c.from_residual.result c.in_err-try_evaluate_added_goals.field-0.0 c.from_residual.ensures.1
    (λ is. pending-refused c.args.self.now c.try_evaluate_added_goals.new.self (c.in_err-try_evaluate_added_goals.ensures.refused is) c.in_err-try_evaluate_added_goals.ensures.unchanged
    c.try_evaluate_added_goals.ensures.goes_back)

pub run_through-loop-entry-init : goal.run_through-loop-entry-init
run_through-loop-entry-init t c = record {
  through = through-none c.args.environment.now c.args.self.now open_start (open_progress c.new-run.result) c.new-run.ensures;
  recorded = λ yes. All-nil (IsRecorded c.args.self.now);
  listed = none-listed c.args.self.now c.args.self.now c.args.entries.now refl;
  back = goes_back-same c.args.self.now;
}

pub run_through-loop-entry-preserved : goal.run_through-loop-entry-preserved
run_through-loop-entry-preserved t c = record {
  through = through-next c.args.environment.now c.args.entries.now c.loop-entry.entry-index c.entry-item.result c.args.self.now open_start c.loop-entry.self (open_progress c.loop-entry.run)
      c.step_or_evaluate.new.self (open_progress c.step_or_evaluate.new.run) (omega arith) c.entry-item.is c.loop-entry.invariant.through c.in_ok-step_or_evaluate.ensures.steps;
  recorded = open_recorded-next c.args.environment.now c.loop-entry.self c.step_or_evaluate.new.self c.args.entries.now c.loop-entry.entry-index c.entry-item.result
      (open_progress c.loop-entry.run) (open_progress c.step_or_evaluate.new.run) c.step_or_evaluate.ensures.goes_back (omega arith) c.entry-item.is c.in_ok-step_or_evaluate.ensures.steps c.loop-entry.invariant.recorded;
  listed = listed-next c.args.self.now c.loop-entry.self c.step_or_evaluate.new.self c.args.entries.now c.loop-entry.entry-index c.entry-item.result (omega arith) c.entry-item.is c.loop-entry.invariant.back
      c.loop-entry.invariant.listed c.step_or_evaluate.ensures.listed;
  back = goes_back-through c.args.self.now c.loop-entry.self c.step_or_evaluate.new.self c.loop-entry.invariant.back c.step_or_evaluate.ensures.goes_back;
}

pub run_through-returns-in_err-step_or_evaluate-clause-listed : goal.run_through-returns-in_err-step_or_evaluate-clause-listed
run_through-returns-in_err-step_or_evaluate-clause-listed t c =
    listed-next c.args.self.now c.loop-entry.self c.step_or_evaluate.new.self c.args.entries.now c.loop-entry.entry-index c.entry-item.result (omega arith) c.entry-item.is c.loop-entry.invariant.back
    c.loop-entry.invariant.listed c.step_or_evaluate.ensures.listed

pub run_through-returns-in_err-step_or_evaluate-clause-goes_back : goal.run_through-returns-in_err-step_or_evaluate-clause-goes_back
run_through-returns-in_err-step_or_evaluate-clause-goes_back t c =
    goes_back-through c.args.self.now c.loop-entry.self c.step_or_evaluate.new.self c.loop-entry.invariant.back c.step_or_evaluate.ensures.goes_back

pub run_through-returns-clause-through : goal.run_through-returns-clause-through
run_through-returns-clause-through t c = (
  open_progress c.loop-entry.run,
  through-all c.args.environment.now c.args.entries.now c.loop-entry.entry-index c.args.self.now open_start c.loop-entry.self (open_progress c.loop-entry.run) (omega arith) c.loop-entry.invariant.through,
  refl,
)

pub run_through-returns-clause-recorded : goal.run_through-returns-clause-recorded
run_through-returns-clause-recorded t c = λ yes. recorded-end c.loop-entry.self c.args.entries.now c.loop-entry.entry-index (omega arith) (c.loop-entry.invariant.recorded yes)

pub run_through-returns-in_err-step_or_evaluate-clause-refused : goal.run_through-returns-in_err-step_or_evaluate-clause-refused
run_through-returns-in_err-step_or_evaluate-clause-refused t c =
    refused-on _ c.from_residual.result c.in_err-step_or_evaluate.field-0.0 c.from_residual.ensures.1
    (λ is. stops-at c.args.environment.now c.args.entries.now c.loop-entry.entry-index c.entry-item.result c.args.self.now c.loop-entry.self (open_progress c.loop-entry.run) c.step_or_evaluate.new.self
    (omega arith) c.entry-item.is c.loop-entry.invariant.through (c.in_err-step_or_evaluate.ensures.refused is))

pub answer_open-returns-clause-answered : goal.answer_open-returns-clause-answered
answer_open-returns-clause-answered t c =
    closing-answers c.args.environment.now c.args.entries.now c.args.self.now c.run_through.new.self c.evaluate_added_goals_and_make_canonical_response.new.self c.in_ok-certainty.certainty
    c.evaluate_added_goals_and_make_canonical_response.result c.in_ok-certainty.ensures.through
    c.evaluate_added_goals_and_make_canonical_response.ensures.listed c.evaluate_added_goals_and_make_canonical_response.ensures.evaluated

pub answer_open-returns-clause-recorded : goal.answer_open-returns-clause-recorded
answer_open-returns-clause-recorded t c =
    ok-map _ (IsRecordedAnswer c.evaluate_added_goals_and_make_canonical_response.new.self c.args.entries.now) c.evaluate_added_goals_and_make_canonical_response.result
    (λ r h. closing-recorded c.in_ok-certainty.certainty c.run_through.new.self c.evaluate_added_goals_and_make_canonical_response.new.self c.args.entries.now r h
    c.in_ok-certainty.ensures.recorded c.evaluate_added_goals_and_make_canonical_response.ensures.goes_back)
    c.evaluate_added_goals_and_make_canonical_response.ensures.evaluated

pub answer_open-returns-clause-listed : goal.answer_open-returns-clause-listed
answer_open-returns-clause-listed t c =
    listed-caused c.args.self.now c.run_through.new.self c.evaluate_added_goals_and_make_canonical_response.new.self c.args.entries.now
    c.run_through.ensures.goes_back c.evaluate_added_goals_and_make_canonical_response.ensures.goes_back.tables c.evaluate_added_goals_and_make_canonical_response.ensures.faults c.run_through.ensures.listed

pub answer_open-returns-clause-goes_back : goal.answer_open-returns-clause-goes_back
answer_open-returns-clause-goes_back t c =
    goes_back-through c.args.self.now c.run_through.new.self c.evaluate_added_goals_and_make_canonical_response.new.self
    c.run_through.ensures.goes_back c.evaluate_added_goals_and_make_canonical_response.ensures.goes_back

pub answer_open-returns-in_err-certainty-clause-refused : goal.answer_open-returns-in_err-certainty-clause-refused
answer_open-returns-in_err-certainty-clause-refused t c =
    refused-on _ c.from_residual.result c.in_err-certainty.field-0.0 c.from_residual.ensures.1 (λ is. inl (c.in_err-certainty.ensures.refused is))

pub answer_open-returns-clause-refused : goal.answer_open-returns-clause-refused
answer_open-returns-clause-refused t c =
    refused-map c.evaluate_added_goals_and_make_canonical_response.result
    (λ h. stops-last c.args.environment.now c.args.entries.now c.args.self.now c.run_through.new.self c.evaluate_added_goals_and_make_canonical_response.new.self c.in_ok-certainty.certainty
    c.in_ok-certainty.ensures.through h)
    c.evaluate_added_goals_and_make_canonical_response.ensures.refused

pub run_open-rollback-requires : goal.run_open-rollback-requires
run_open-rollback-requires t c =
    let back : GoesBack (begun c.args.self.now) c.answer_open-response.new.self =
    subst (λ (z : State). GoesBack z c.answer_open-response.new.self) c.begin-around.ensures.began c.answer_open-response.ensures.goes_back in
    record { valid = (begun c.args.self.now, c.snapshot-before.ensures, back, valid-begun c.args.self.now c.holds_together.ensures) }

pub run_open-returns-clause-chain : goal.run_open-returns-clause-chain
run_open-returns-clause-chain t c =
    let back : GoesBack (begun c.args.self.now) c.answer_open-response.new.self =
    subst (λ (z : State). GoesBack z c.answer_open-response.new.self) c.begin-around.ensures.began c.answer_open-response.ensures.goes_back in
    let undone : c.end.new.self ≡ restored c.args.self.now c.answer_open-response.new.self =
    c.end.ensures ∙ ap (λ (z : State). record z { mark = c.begin-around.result }) (c.rollback.ensures.undone (begun c.args.self.now) c.snapshot-before.ensures back)
    ∙ ap (λ m. record (restored (begun c.args.self.now) c.answer_open-response.new.self) { mark = m }) c.begin-around.ensures.around in
    ok-map _ (RunsOpen c.args.environment.now c.args.entries.now c.args.self.now c.end.new.self) c.answer_open-response.result
    (λ r h. record {
      last = h.0;
      progress = h.1;
      through = subst (λ (z : State). RunsThrough c.args.environment.now c.args.entries.now z open_start h.0 h.1) c.begin-around.ensures.began h.2;
      closed = c.answer_open-response.new.self;
      closes = h.3;
      back = undone;
    })
    c.answer_open-response.ensures.answered

pub run_open-returns-clause-recorded : goal.run_open-returns-clause-recorded
run_open-returns-clause-recorded t c =
    let back : GoesBack (begun c.args.self.now) c.answer_open-response.new.self =
    subst (λ (z : State). GoesBack z c.answer_open-response.new.self) c.begin-around.ensures.began c.answer_open-response.ensures.goes_back in
    let undone : c.end.new.self ≡ restored c.args.self.now c.answer_open-response.new.self =
    c.end.ensures ∙ ap (λ (z : State). record z { mark = c.begin-around.result }) (c.rollback.ensures.undone (begun c.args.self.now) c.snapshot-before.ensures back)
    ∙ ap (λ m. record (restored (begun c.args.self.now) c.answer_open-response.new.self) { mark = m }) c.begin-around.ensures.around in
    ok-map (IsRecordedAnswer c.answer_open-response.new.self c.args.entries.now) (IsRecordedAnswer c.end.new.self c.args.entries.now) c.answer_open-response.result
    (λ r h yes. tried-recorded c.args.self.now c.answer_open-response.new.self c.end.new.self c.args.entries.now undone (h yes))
    c.answer_open-response.ensures.recorded

pub run_open-returns-clause-listed : goal.run_open-returns-clause-listed
run_open-returns-clause-listed t c =
    let back : GoesBack (begun c.args.self.now) c.answer_open-response.new.self =
    subst (λ (z : State). GoesBack z c.answer_open-response.new.self) c.begin-around.ensures.began c.answer_open-response.ensures.goes_back in
    let undone : c.end.new.self ≡ restored c.args.self.now c.answer_open-response.new.self =
    c.end.ensures ∙ ap (λ (z : State). record z { mark = c.begin-around.result }) (c.rollback.ensures.undone (begun c.args.self.now) c.snapshot-before.ensures back)
    ∙ ap (λ m. record (restored (begun c.args.self.now) c.answer_open-response.new.self) { mark = m }) c.begin-around.ensures.around in
    tried-listed c.args.self.now c.begin-around.new.self c.answer_open-response.new.self c.end.new.self c.args.entries.now c.begin-around.ensures.began undone c.answer_open-response.ensures.listed

pub run_open-returns-clause-unchanged : goal.run_open-returns-clause-unchanged
run_open-returns-clause-unchanged t c =
    let back : GoesBack (begun c.args.self.now) c.answer_open-response.new.self =
    subst (λ (z : State). GoesBack z c.answer_open-response.new.self) c.begin-around.ensures.began c.answer_open-response.ensures.goes_back in
    let undone : c.end.new.self ≡ restored c.args.self.now c.answer_open-response.new.self =
    c.end.ensures ∙ ap (λ (z : State). record z { mark = c.begin-around.result }) (c.rollback.ensures.undone (begun c.args.self.now) c.snapshot-before.ensures back)
    ∙ ap (λ m. record (restored (begun c.args.self.now) c.answer_open-response.new.self) { mark = m }) c.begin-around.ensures.around in
    undone ∙ sym (ap (restored c.args.self.now) undone)

pub run_open-returns-clause-goes_back : goal.run_open-returns-clause-goes_back
run_open-returns-clause-goes_back t c =
    let back : GoesBack (begun c.args.self.now) c.answer_open-response.new.self =
    subst (λ (z : State). GoesBack z c.answer_open-response.new.self) c.begin-around.ensures.began c.answer_open-response.ensures.goes_back in
    let undone : c.end.new.self ≡ restored c.args.self.now c.answer_open-response.new.self =
    c.end.ensures ∙ ap (λ (z : State). record z { mark = c.begin-around.result }) (c.rollback.ensures.undone (begun c.args.self.now) c.snapshot-before.ensures back)
    ∙ ap (λ m. record (restored (begun c.args.self.now) c.answer_open-response.new.self) { mark = m }) c.begin-around.ensures.around in
    subst (GoesBack c.args.self.now) (sym undone) (goes_back-tried c.args.self.now c.answer_open-response.new.self back)

pub run_open-returns-clause-fault : goal.run_open-returns-clause-fault
run_open-returns-clause-fault t c =
    let back : GoesBack (begun c.args.self.now) c.answer_open-response.new.self =
    subst (λ (z : State). GoesBack z c.answer_open-response.new.self) c.begin-around.ensures.began c.answer_open-response.ensures.goes_back in
    let undone : c.end.new.self ≡ restored c.args.self.now c.answer_open-response.new.self =
    c.end.ensures ∙ ap (λ (z : State). record z { mark = c.begin-around.result }) (c.rollback.ensures.undone (begun c.args.self.now) c.snapshot-before.ensures back)
    ∙ ap (λ m. record (restored (begun c.args.self.now) c.answer_open-response.new.self) { mark = m }) c.begin-around.ensures.around in
    fault-tried c.args.self.now c.begin-around.new.self c.answer_open-response.new.self c.end.new.self c.answer_open-response.result c.begin-around.ensures.began undone c.answer_open-response.ensures.fault

pub run_open-returns-clause-applies : goal.run_open-returns-clause-applies
run_open-returns-clause-applies t c =
    let back : GoesBack (begun c.args.self.now) c.answer_open-response.new.self =
    subst (λ (z : State). GoesBack z c.answer_open-response.new.self) c.begin-around.ensures.began c.answer_open-response.ensures.goes_back in
    let undone : c.end.new.self ≡ restored c.args.self.now c.answer_open-response.new.self =
    c.end.ensures ∙ ap (λ (z : State). record z { mark = c.begin-around.result }) (c.rollback.ensures.undone (begun c.args.self.now) c.snapshot-before.ensures back)
    ∙ ap (λ m. record (restored (begun c.args.self.now) c.answer_open-response.new.self) { mark = m }) c.begin-around.ensures.around in
    ok-map _ (IsApplicable c.end.new.self) c.answer_open-response.result
    (λ r h. listed-applies c.args.self.now c.answer_open-response.new.self c.end.new.self r.certainty r back undone
    c.holds_together.ensures.solved c.holds_together-2.ensures.solved c.is_well_formed.ensures.storage h.3.lists)
    c.answer_open-response.ensures.answered

pub run_open-returns-clause-refused : goal.run_open-returns-clause-refused
run_open-returns-clause-refused t c =
    let back : GoesBack (begun c.args.self.now) c.answer_open-response.new.self =
    subst (λ (z : State). GoesBack z c.answer_open-response.new.self) c.begin-around.ensures.began c.answer_open-response.ensures.goes_back in
    let undone : c.end.new.self ≡ restored c.args.self.now c.answer_open-response.new.self =
    c.end.ensures ∙ ap (λ (z : State). record z { mark = c.begin-around.result }) (c.rollback.ensures.undone (begun c.args.self.now) c.snapshot-before.ensures back)
    ∙ ap (λ m. record (restored (begun c.args.self.now) c.answer_open-response.new.self) { mark = m }) c.begin-around.ensures.around in
    open-refused c.args.environment.now c.args.entries.now c.args.self.now c.begin-around.new.self c.answer_open-response.new.self c.end.new.self c.answer_open-response.result
    c.begin-around.ensures.began undone c.answer_open-response.ensures.refused

pub run_alone-returns-in-Err-NoSolution-clause-runs : goal.run_alone-returns-in-Err-NoSolution-clause-runs
run_alone-returns-in-Err-NoSolution-clause-runs t c = c.in-Err-NoSolution.ensures.refused c.in-Err-NoSolution.field-0-is

-- what more special impls come to
pub impl_outcome-returns-in_err-rule-clause-goes_back : goal.impl_outcome-returns-in_err-rule-clause-goes_back
impl_outcome-returns-in_err-rule-clause-goes_back t c = goes_back-same c.args.self.now

pub impl_outcome-returns-in_default-clause-goes_back : goal.impl_outcome-returns-in_default-clause-goes_back
impl_outcome-returns-in_default-clause-goes_back t c = goes_back-same c.args.self.now

pub impl_outcome-returns-in_default-clause-asks : goal.impl_outcome-returns-in_default-clause-asks
impl_outcome-returns-in_default-clause-asks t c = (
  None,
  subst (IsTraitRule c.args.self.now.tables c.args.self.now.typing_mode c.args.args.now c.args.row.now) (none-left _ c.in_default.not-Some)
      (subst₂ (λ x y. IsTraitRule x y c.args.args.now c.args.row.now c.in_ok-rule.field-0) c.tables.ensures c.typing_mode.ensures c.in_ok-rule.ensures.rule),
  (refl, refl),
)

pub impl_outcome-returns-clause-asks : goal.impl_outcome-returns-clause-asks
impl_outcome-returns-clause-asks t c = (
  Some c.in-Some.rule,
  subst (IsTraitRule c.args.self.now.tables c.args.self.now.typing_mode c.args.args.now c.args.row.now) c.in-Some.is
      (subst₂ (λ x y. IsTraitRule x y c.args.args.now c.args.row.now c.in_ok-rule.field-0) c.tables.ensures c.typing_mode.ensures c.in_ok-rule.ensures.rule),
  (
    c.in_ok-answer.answer,
    subst (λ es. RunsAlone c.args.environment.now es c.args.self.now c.in_ok-answer.answer c.run_alone.new.self) c.deref.ensures.value c.in_ok-answer.ensures.runs,
    c.said_plainly.ensures,
  ),
)

pub more_special_outcome-returns-in_default-clause-goes_back : goal.more_special_outcome-returns-in_default-clause-goes_back
more_special_outcome-returns-in_default-clause-goes_back t c = goes_back-same c.args.self.now

pub more_special_outcome-returns-in_default-clause-asks : goal.more_special_outcome-returns-in_default-clause-asks
more_special_outcome-returns-in_default-clause-asks t c =
    subst (λ o. AsksMoreSpecial c.args.environment.now o c.args.self.now outcome.Refuted c.args.self.now) (ap (option_map match_seen) (sym (none-left _ c.in_default.not-Some)) ∙ c.matched_impl.ensures)
    (refl, refl)

pub more_special_outcome-loop-i-init : goal.more_special_outcome-loop-i-init
more_special_outcome-loop-i-init t c =
    record { asks = asks-none c.rows-rows.result.now c.args.environment.now c.in-Some.matched.args.now c.args.self.now; unchanged = refl; back = goes_back-same c.args.self.now }

pub more_special_outcome-loop-i-preserved : goal.more_special_outcome-loop-i-preserved
more_special_outcome-loop-i-preserved t c = record {
  asks =
      subst (λ o. AsksEach c.rows-rows.result.now c.args.environment.now c.in-Some.matched.args.now (take (c.loop-i.i + 1) c.more_special-places.result.now) c.args.self.now o c.impl_outcome.new.self) (sym c.or-found.ensures)
      (asked-next c.rows-rows.result.now c.args.environment.now c.in-Some.matched.args.now c.more_special-places.result.now c.loop-i.i c.impl_at-row.result.now c.args.self.now c.loop-i.self c.impl_outcome.new.self c.loop-i.found c.in_ok-next.next
      c.loop-i-test.true c.loop-i.invariant.asks c.impl_at-row.ensures c.in_ok-next.ensures.asks);
  unchanged = c.impl_outcome.ensures.unchanged ∙ ap (λ (z : State). restored z c.impl_outcome.new.self) c.loop-i.invariant.unchanged;
  back = goes_back-through c.args.self.now c.loop-i.self c.impl_outcome.new.self c.loop-i.invariant.back c.impl_outcome.ensures.goes_back;
}

pub more_special_outcome-returns-clause-asks : goal.more_special_outcome-returns-clause-asks
more_special_outcome-returns-clause-asks t c =
    subst (λ o. AsksMoreSpecial c.args.environment.now o c.args.self.now c.loop-i.found c.loop-i.self) (ap (option_map match_seen) (sym c.in-Some.is) ∙ c.matched_impl.ensures)
    (asked-all c.rows-rows.result.now c.args.environment.now c.in-Some.matched.args.now c.in-Some.matched.id c.more_special-places.result.now c.loop-i.i c.args.self.now c.loop-i.self c.loop-i.found
    (c.rows-rows.ensures.rows ∙ c.tables.ensures) (omega (arith, c.loop-i-test.false)) c.more_special-places.ensures.listed c.loop-i.invariant.asks)

-- a rule beside them
pub run_beside-returns-in_default-clause-runs : goal.run_beside-returns-in_default-clause-runs
run_beside-returns-in_default-clause-runs t c =
    runs-refused c.args.environment.now c.args.rule.now c.deref.result.now c.args.self.now c.run_alone.new.self c.in_ok-response.field-0 c.deref.ensures.value (none-left _ c.in_default.not-Some) c.in_ok-response.ensures.runs

pub run_beside-returns-clause-runs : goal.run_beside-returns-clause-runs
run_beside-returns-clause-runs t c =
    runs-beside c.args.environment.now c.args.rule.now c.deref.result.now c.deref-2.result.now c.args.self.now c.run_alone.new.self c.more_special_outcome.new.self c.in_ok-response.field-0 c.in-Some.response c.in_ok-found.found
    c.answer_beside.result c.deref.ensures.value c.deref-2.ensures.value c.in-Some.is c.in_ok-response.ensures.runs c.in_ok-found.ensures.asks c.answer_beside.ensures

pub run_beside-returns-clause-applies : goal.run_beside-returns-clause-applies
run_beside-returns-clause-applies t c =
    beside-applies c.run_alone.new.self c.more_special_outcome.new.self c.in_ok-found.found c.in-Some.response c.answer_beside.result c.answer_beside.ensures c.more_special_outcome.ensures.unchanged
    c.more_special_outcome.ensures.goes_back.terms c.holds_together.ensures.solved (subst (λ o. IfSome o (IsApplicable c.run_alone.new.self)) c.in-Some.is c.in_ok-response.ensures.applies)

pub merge_next-returns-in-None-clause-applies : goal.merge_next-returns-in-None-clause-applies
merge_next-returns-in-None-clause-applies t c =
    merged-later c.args.self.now c.run_beside.new.self c.args.merged c.run_beside.ensures.unchanged c.run_beside.ensures.goes_back.terms c.holds_together.ensures.solved c.requires.applies

pub merge_next-returns-in-Some-clause-applies : goal.merge_next-returns-in-Some-clause-applies
merge_next-returns-in-Some-clause-applies t c =
    c.with.ensures.applies c.run_beside.new.self
    (merged-later c.args.self.now c.run_beside.new.self c.args.merged c.run_beside.ensures.unchanged c.run_beside.ensures.goes_back.terms c.holds_together.ensures.solved c.requires.applies)
    (subst (λ o. IfSome o (IsApplicable c.run_beside.new.self)) c.in-Some.is c.in_ok-run_beside.ensures.applies)

pub merge_rules-loop-rule-init : goal.merge_rules-loop-rule-init
merge_rules-loop-rule-init t c = record { merges = runs-none c.args.environment.now c.args.self.now; applies = tt; unchanged = refl; back = goes_back-same c.args.self.now }

pub merge_rules-loop-rule-preserved : goal.merge_rules-loop-rule-preserved
merge_rules-loop-rule-preserved t c = record {
  merges = merged-next c.args.environment.now c.args.rules.now c.loop-rule.rule-index c.rule-item.result c.args.self.now c.loop-rule.self c.merge_next.new.self
      c.loop-rule.merged c.in_ok-merged.merged c.in_ok-merged.ensures.joins.0 (omega arith) c.rule-item.is c.loop-rule.invariant.merges c.in_ok-merged.ensures.joins.1 c.in_ok-merged.ensures.joins.2;
  applies = c.in_ok-merged.ensures.applies;
  unchanged = c.merge_next.ensures.unchanged ∙ ap (λ (z : State). restored z c.merge_next.new.self) c.loop-rule.invariant.unchanged;
  back = goes_back-through c.args.self.now c.loop-rule.self c.merge_next.new.self c.loop-rule.invariant.back c.merge_next.ensures.goes_back;
}

pub merge_below-returns-clause-merges : goal.merge_below-returns-clause-merges
merge_below-returns-clause-merges t c = λ n depth.
    merges-below _ c.args.self.now _ c.merge_trait-answer.new.self n c.args.goal.now c.merge_trait-answer.result c.self.view_is c.self-2.view_is c.merge_trait-answer.ensures.unchanged depth
    c.merge_trait-answer.ensures.merges

pub merge_below-returns-clause-applies : goal.merge_below-returns-clause-applies
merge_below-returns-clause-applies t c =
    applies-below _ c.args.self.now _ c.merge_trait-answer.new.self _ c.self.inside.remaining_depth c.merge_trait-answer.result c.self.view_is c.self-2.view_is c.merge_trait-answer.ensures.unchanged
    c.merge_trait-answer.ensures.goes_back c.holds_together.ensures.solved c.merge_trait-answer.ensures.applies

pub class_answer-returns-in-Split-clause-applies : goal.class_answer-returns-in-Split-clause-applies
class_answer-returns-in-Split-clause-applies t c =
    nothing-applies-after c.args.self.now c.merge_rules.new.self c.respond.result c.merge_rules.ensures.unchanged c.is_well_formed.ensures.storage
    (subst (λ (s : State). IsQuiet (length (kinds_of s)) c.respond.result) c.merge_rules.ensures.unchanged c.respond.ensures.quiet) c.respond.ensures.values

pub class_answer-returns-in-Refuted-clause-answers : goal.class_answer-returns-in-Refuted-clause-answers
class_answer-returns-in-Refuted-clause-answers t c =
    class-answers (AreOfClass c.args.self.now.typing_mode c.args.rules.now) c.args.rules.now.param_env.items c.deref.result.now c.args.class c.args.self.now c.merge_rules.new.self
    (rules_of_class c.args.rules.now c.args.class) c.of_class.result.now c.in_ok-merge_rules.field-0 merged.Refuted None c.deref.ensures.value c.of_class.ensures (refl, refl)
    c.in_ok-merge_rules.ensures.merges c.in-Refuted.is refl

pub class_answer-returns-in-Answered-clause-answers : goal.class_answer-returns-in-Answered-clause-answers
class_answer-returns-in-Answered-clause-answers t c =
    class-answers (AreOfClass c.args.self.now.typing_mode c.args.rules.now) c.args.rules.now.param_env.items c.deref.result.now c.args.class c.args.self.now c.merge_rules.new.self
    (rules_of_class c.args.rules.now c.args.class) c.of_class.result.now c.in_ok-merge_rules.field-0 (merged.Answered c.in-Answered.response) (Some c.proven_by.result) c.deref.ensures.value c.of_class.ensures (refl, refl)
    c.in_ok-merge_rules.ensures.merges c.in-Answered.is (ap (λ (x : Response). Some x) c.proven_by.ensures)

pub class_answer-returns-in-Split-clause-answers : goal.class_answer-returns-in-Split-clause-answers
class_answer-returns-in-Split-clause-answers t c =
    class-answers (AreOfClass c.args.self.now.typing_mode c.args.rules.now) c.args.rules.now.param_env.items c.deref.result.now c.args.class c.args.self.now c.merge_rules.new.self
    (rules_of_class c.args.rules.now c.args.class) c.of_class.result.now c.in_ok-merge_rules.field-0 merged.Split (Some c.respond.result) c.deref.ensures.value c.of_class.ensures (refl, refl)
    c.in_ok-merge_rules.ensures.merges c.in-Split.is c.respond.ensures.certainty

pub merge_classes-returns-in-Some-clause-decides : goal.merge_classes-returns-in-Some-clause-decides
merge_classes-returns-in-Some-clause-decides t c =
    first-answers (AreOfClass c.args.self.now.typing_mode c.args.rules.now) c.args.rules.now.param_env.items class.ParamEnv (class.AliasBound ∷ class.Misc ∷ []) c.args.self.now c.class_answer.new.self c.in-Some.answer
    (answered-in c.args.self.now.typing_mode c.args.rules.now class.ParamEnv c.args.self.now c.class_answer.new.self c.in_ok-answer.field-0 (Some c.in-Some.answer) refl c.in-Some.is c.in_ok-answer.ensures.answers)

pub merge_classes-returns-in-Some-2-clause-decides : goal.merge_classes-returns-in-Some-2-clause-decides
merge_classes-returns-in-Some-2-clause-decides t c =
    next-answers (AreOfClass c.args.self.now.typing_mode c.args.rules.now) c.args.rules.now.param_env.items class.ParamEnv (class.AliasBound ∷ class.Misc ∷ []) c.args.self.now c.class_answer.new.self c.class_answer-2.new.self (Ok c.in-Some-2.answer)
    (answered-in c.args.self.now.typing_mode c.args.rules.now class.ParamEnv c.args.self.now c.class_answer.new.self c.in_ok-answer.field-0 None refl (none-left c.in_ok-answer.field-0 c.in_default.not-Some) c.in_ok-answer.ensures.answers)
    (first-answers (AreOfClass c.args.self.now.typing_mode c.args.rules.now) c.args.rules.now.param_env.items class.AliasBound (class.Misc ∷ []) c.class_answer.new.self c.class_answer-2.new.self c.in-Some-2.answer
    (answered-in c.args.self.now.typing_mode c.args.rules.now class.AliasBound c.class_answer.new.self c.class_answer-2.new.self c.in_ok-answer-2.field-0 (Some c.in-Some-2.answer) (ap (λ (s : State). s.typing_mode) c.class_answer.ensures.unchanged) c.in-Some-2.is c.in_ok-answer-2.ensures.answers))

pub merge_classes-returns-in-Some-3-clause-decides : goal.merge_classes-returns-in-Some-3-clause-decides
merge_classes-returns-in-Some-3-clause-decides t c =
    next-answers (AreOfClass c.args.self.now.typing_mode c.args.rules.now) c.args.rules.now.param_env.items class.ParamEnv (class.AliasBound ∷ class.Misc ∷ []) c.args.self.now c.class_answer.new.self c.class_answer-3.new.self (Ok c.in-Some-3.answer)
    (answered-in c.args.self.now.typing_mode c.args.rules.now class.ParamEnv c.args.self.now c.class_answer.new.self c.in_ok-answer.field-0 None refl (none-left c.in_ok-answer.field-0 c.in_default.not-Some) c.in_ok-answer.ensures.answers)
    (next-answers (AreOfClass c.args.self.now.typing_mode c.args.rules.now) c.args.rules.now.param_env.items class.AliasBound (class.Misc ∷ []) c.class_answer.new.self c.class_answer-2.new.self c.class_answer-3.new.self (Ok c.in-Some-3.answer)
    (answered-in c.args.self.now.typing_mode c.args.rules.now class.AliasBound c.class_answer.new.self c.class_answer-2.new.self c.in_ok-answer-2.field-0 None (ap (λ (s : State). s.typing_mode) c.class_answer.ensures.unchanged) (none-left c.in_ok-answer-2.field-0 c.in_default-2.not-Some) c.in_ok-answer-2.ensures.answers)
    (first-answers (AreOfClass c.args.self.now.typing_mode c.args.rules.now) c.args.rules.now.param_env.items class.Misc [] c.class_answer-2.new.self c.class_answer-3.new.self c.in-Some-3.answer
    (answered-in c.args.self.now.typing_mode c.args.rules.now class.Misc c.class_answer-2.new.self c.class_answer-3.new.self c.in_ok-answer-3.field-0 (Some c.in-Some-3.answer) (ap (λ (s : State). s.typing_mode) c.class_answer-2.ensures.unchanged ∙ ap (λ (s : State). s.typing_mode) c.class_answer.ensures.unchanged) c.in-Some-3.is c.in_ok-answer-3.ensures.answers)))

pub merge_classes-returns-clause-decides : goal.merge_classes-returns-clause-decides
merge_classes-returns-clause-decides t c =
    next-answers (AreOfClass c.args.self.now.typing_mode c.args.rules.now) c.args.rules.now.param_env.items class.ParamEnv (class.AliasBound ∷ class.Misc ∷ []) c.args.self.now c.class_answer.new.self c.class_answer-3.new.self (Err fault.NoSolution)
    (answered-in c.args.self.now.typing_mode c.args.rules.now class.ParamEnv c.args.self.now c.class_answer.new.self c.in_ok-answer.field-0 None refl (none-left c.in_ok-answer.field-0 c.in_default.not-Some) c.in_ok-answer.ensures.answers)
    (next-answers (AreOfClass c.args.self.now.typing_mode c.args.rules.now) c.args.rules.now.param_env.items class.AliasBound (class.Misc ∷ []) c.class_answer.new.self c.class_answer-2.new.self c.class_answer-3.new.self (Err fault.NoSolution)
    (answered-in c.args.self.now.typing_mode c.args.rules.now class.AliasBound c.class_answer.new.self c.class_answer-2.new.self c.in_ok-answer-2.field-0 None (ap (λ (s : State). s.typing_mode) c.class_answer.ensures.unchanged) (none-left c.in_ok-answer-2.field-0 c.in_default-2.not-Some) c.in_ok-answer-2.ensures.answers)
    (next-answers (AreOfClass c.args.self.now.typing_mode c.args.rules.now) c.args.rules.now.param_env.items class.Misc [] c.class_answer-2.new.self c.class_answer-3.new.self c.class_answer-3.new.self (Err fault.NoSolution)
    (answered-in c.args.self.now.typing_mode c.args.rules.now class.Misc c.class_answer-2.new.self c.class_answer-3.new.self c.in_ok-answer-3.field-0 None (ap (λ (s : State). s.typing_mode) c.class_answer-2.ensures.unchanged ∙ ap (λ (s : State). s.typing_mode) c.class_answer.ensures.unchanged) (none-left c.in_ok-answer-3.field-0 c.in_default-3.not-Some) c.in_ok-answer-3.ensures.answers)
    (none-answers (AreOfClass c.args.self.now.typing_mode c.args.rules.now) c.args.rules.now.param_env.items c.class_answer-3.new.self c.class_answer-3.new.self (Err fault.NoSolution) refl refl)))

pub merge_classes-returns-in_err-answer-3-clause-goes_back : goal.merge_classes-returns-in_err-answer-3-clause-goes_back
merge_classes-returns-in_err-answer-3-clause-goes_back t c =
    goes_back-through c.args.self.now c.class_answer-2.new.self c.class_answer-3.new.self (goes_back-through c.args.self.now c.class_answer.new.self c.class_answer-2.new.self c.class_answer.ensures.goes_back c.class_answer-2.ensures.goes_back) c.class_answer-3.ensures.goes_back

pub merge_classes-returns-in-Some-3-clause-goes_back : goal.merge_classes-returns-in-Some-3-clause-goes_back
merge_classes-returns-in-Some-3-clause-goes_back t c =
    goes_back-through c.args.self.now c.class_answer-2.new.self c.class_answer-3.new.self (goes_back-through c.args.self.now c.class_answer.new.self c.class_answer-2.new.self c.class_answer.ensures.goes_back c.class_answer-2.ensures.goes_back) c.class_answer-3.ensures.goes_back

pub merge_classes-returns-clause-goes_back : goal.merge_classes-returns-clause-goes_back
merge_classes-returns-clause-goes_back t c =
    goes_back-through c.args.self.now c.class_answer-2.new.self c.class_answer-3.new.self (goes_back-through c.args.self.now c.class_answer.new.self c.class_answer-2.new.self c.class_answer.ensures.goes_back c.class_answer-2.ensures.goes_back) c.class_answer-3.ensures.goes_back

pub merge_trait-returns-in-Some-clause-merges : goal.merge_trait-returns-in-Some-clause-merges
merge_trait-returns-in-Some-clause-merges t c =
    by-classes trait_kind c.args.goal.now c.args.self.now c.considered_rules.new.self c.merge_classes.new.self c.merge_classes.result c.in_ok-considered_rules.field-0 c.in-Some.rules
    c.in_ok-considered_rules.ensures.considers c.in-Some.is c.considered_rules.ensures.unchanged c.merge_classes.ensures.decides

pub hold_const_below-returns-clause-merges : goal.hold_const_below-returns-clause-merges
hold_const_below-returns-clause-merges t c = λ n depth.
    const-below _ c.args.self.now _ c.hold_const-answer.new.self n c.args.goal.now c.hold_const-answer.result c.self.view_is c.self-2.view_is c.hold_const-answer.ensures.unchanged depth
    c.hold_const-answer.ensures.merges

pub hold_const_below-returns-clause-applies : goal.hold_const_below-returns-clause-applies
hold_const_below-returns-clause-applies t c =
    applies-below _ c.args.self.now _ c.hold_const-answer.new.self _ c.self.inside.remaining_depth c.hold_const-answer.result c.self.view_is c.self-2.view_is c.hold_const-answer.ensures.unchanged
    c.hold_const-answer.ensures.goes_back c.holds_together.ensures.solved c.hold_const-answer.ensures.applies

pub hold_const-returns-then-remaining_depth-eq0-clause-merges : goal.hold_const-returns-then-remaining_depth-eq0-clause-merges
hold_const-returns-then-remaining_depth-eq0-clause-merges t c =
    const-at_once c.args.goal.now c.args.self.now c.respond.result (sym c.remaining_depth.ensures ∙ c.if-remaining_depth-eq0.true) c.respond.ensures.certainty

pub hold_const-returns-then-remaining_depth-eq0-clause-applies : goal.hold_const-returns-then-remaining_depth-eq0-clause-applies
hold_const-returns-then-remaining_depth-eq0-clause-applies t c = nothing-applies c.args.self.now c.respond.result c.is_well_formed.ensures.storage c.respond.ensures.quiet c.respond.ensures.values

pub hold_const-returns-then-remaining_depth-eq0-clause-goes_back : goal.hold_const-returns-then-remaining_depth-eq0-clause-goes_back
hold_const-returns-then-remaining_depth-eq0-clause-goes_back t c = goes_back-same c.args.self.now

pub hold_const-returns-in_err-plain-clause-goes_back : goal.hold_const-returns-in_err-plain-clause-goes_back
hold_const-returns-in_err-plain-clause-goes_back t c = goes_back-same c.args.self.now

pub hold_const-returns-in_err-answer-clause-merges : goal.hold_const-returns-in_err-answer-clause-merges
hold_const-returns-in_err-answer-clause-merges t c =
    handed-on c.from_residual-in_err-answer.result c.in_err-answer.field-0.0 (λ (r : Result Response Fault). WhenAnswered r (MergesHostEffect c.args.goal.now c.args.self.now r c.merge_below.new.self))
    c.from_residual-in_err-answer.ensures.1
    (const-refused c.args.goal.now c.in_ok-plain.plain c.args.self.now c.merge_below.new.self c.in_err-answer.field-0.0 c.in_ok-plain.ensures.plain
    (λ is. subst (AnswersPlain c.in_ok-plain.plain c.args.self.now c.merge_below.new.self) c.in_err-answer.was
    (record { merges = c.merge_below.ensures.merges; back = c.merge_below.ensures.unchanged })))

pub hold_const-returns-in-None-clause-merges : goal.hold_const-returns-in-None-clause-merges
hold_const-returns-in-None-clause-merges t c =
    const-unproven c.args.goal.now c.in_ok-plain.plain c.args.self.now c.merge_below.new.self c.in_ok-answer.answer c.respond-in-None.result c.in_ok-plain.ensures.plain
    (subst (AnswersPlain c.in_ok-plain.plain c.args.self.now c.merge_below.new.self) c.in_ok-answer.was
    (record { merges = c.merge_below.ensures.merges; back = c.merge_below.ensures.unchanged }))
    (sym c.in-None.is ∙ c.proven_class.ensures) c.respond-in-None.ensures.certainty

pub hold_const-returns-in-None-clause-applies : goal.hold_const-returns-in-None-clause-applies
hold_const-returns-in-None-clause-applies t c =
    nothing-applies-after c.args.self.now c.merge_below.new.self c.respond-in-None.result c.merge_below.ensures.unchanged c.is_well_formed.ensures.storage
    (subst (λ (s : State). IsQuiet (length (kinds_of s)) c.respond-in-None.result) c.merge_below.ensures.unchanged c.respond-in-None.ensures.quiet) c.respond-in-None.ensures.values

pub hold_const-returns-clause-merges : goal.hold_const-returns-clause-merges
hold_const-returns-clause-merges t c =
    const-through c.args.goal.now c.in_ok-plain.plain c.in-Some.class c.args.self.now c.merge_below.new.self c.merge_const_through.new.self c.in_ok-answer.answer c.merge_const_through.result c.in_ok-plain.ensures.plain
    (subst (AnswersPlain c.in_ok-plain.plain c.args.self.now c.merge_below.new.self) c.in_ok-answer.was
    (record { merges = c.merge_below.ensures.merges; back = c.merge_below.ensures.unchanged }))
    (sym c.in-Some.is ∙ c.proven_class.ensures) c.merge_const_through.ensures.merges

pub hold_const-returns-clause-goes_back : goal.hold_const-returns-clause-goes_back
hold_const-returns-clause-goes_back t c =
    goes_back-through c.args.self.now c.merge_below.new.self c.merge_const_through.new.self c.merge_below.ensures.goes_back c.merge_const_through.ensures.goes_back

pub merge_const_through-returns-in-None-clause-merges : goal.merge_const_through-returns-in-None-clause-merges
merge_const_through-returns-in-None-clause-merges t c =
    left-or_opened-const host_kind c.args.class c.args.goal.now c.args.self.now c.considered_groups.new.self c.merge_open.new.self c.merge_open.result
    (subst (λ o. ConsidersGroups host_kind c.args.class c.args.goal.now c.args.self.now o c.considered_groups.new.self) c.in-None.is c.in_ok-considered_groups.ensures.considers) c.considered_groups.ensures.unchanged
    c.merge_open.ensures.unchanged c.merge_open.ensures.undecided c.merge_open.ensures.opened

pub merge_const_through-returns-in-Some-clause-merges : goal.merge_const_through-returns-in-Some-clause-merges
merge_const_through-returns-in-Some-clause-merges t c =
    const-grouped host_kind c.args.class c.args.goal.now c.args.self.now c.considered_groups.new.self c.merge_const_groups.new.self c.in_ok-considered_groups.field-0 c.in-Some.rules c.merge_const_groups.result
    c.in_ok-considered_groups.ensures.considers c.in-Some.is c.merge_const_groups.ensures.decides

pub group_answer-returns-in-Refuted-clause-answers : goal.group_answer-returns-in-Refuted-clause-answers
group_answer-returns-in-Refuted-clause-answers t c =
    group-refuted c.args.environment.now c.args.rules.now c.args.self.now c.merge_rules.new.self c.in_ok-merge_rules.field-0 c.in_ok-merge_rules.ensures.merges c.in-Refuted.is

pub group_answer-returns-in-Answered-clause-answers : goal.group_answer-returns-in-Answered-clause-answers
group_answer-returns-in-Answered-clause-answers t c =
    group-answered c.args.environment.now c.args.rules.now c.args.self.now c.merge_rules.new.self c.in_ok-merge_rules.field-0 c.in-Answered.response c.in_ok-merge_rules.ensures.merges c.in-Answered.is

pub group_answer-returns-in-Split-clause-answers : goal.group_answer-returns-in-Split-clause-answers
group_answer-returns-in-Split-clause-answers t c =
    group-split c.args.environment.now c.args.rules.now c.args.self.now c.merge_rules.new.self c.in_ok-merge_rules.field-0 c.respond.result c.in_ok-merge_rules.ensures.merges c.in-Split.is c.respond.ensures.certainty

pub group_answer-returns-in-Split-clause-applies : goal.group_answer-returns-in-Split-clause-applies
group_answer-returns-in-Split-clause-applies t c =
    nothing-applies-after c.args.self.now c.merge_rules.new.self c.respond.result c.merge_rules.ensures.unchanged c.is_well_formed.ensures.storage
    (subst (λ (s : State). IsQuiet (length (kinds_of s)) c.respond.result) c.merge_rules.ensures.unchanged c.respond.ensures.quiet) c.respond.ensures.values

pub merge_const_groups-returns-in-Some-clause-decides : goal.merge_const_groups-returns-in-Some-clause-decides
merge_const_groups-returns-in-Some-clause-decides t c =
    group-first c.args.rules.now.param_env.items c.deref.result.now c.args.rules.now.environment.items c.deref-2.result.now c.args.rules.now.later.items c.args.self.now c.group_answer.new.self
    c.in_ok-answer.field-0 c.in-Some.answer c.deref.ensures.value c.deref-2.ensures.value c.in_ok-answer.ensures.answers c.in-Some.is

pub merge_const_groups-returns-in-Some-2-clause-decides : goal.merge_const_groups-returns-in-Some-2-clause-decides
merge_const_groups-returns-in-Some-2-clause-decides t c =
    group-later c.args.rules.now.param_env.items c.deref.result.now c.deref-3.result.now c.args.rules.now.environment.items c.deref-2.result.now c.args.rules.now.later.items c.deref-4.result.now c.args.self.now
    c.group_answer.new.self c.group_answer-2.new.self c.in_ok-answer.field-0 c.in_ok-answer-2.field-0 c.in-Some-2.answer c.deref.ensures.value c.deref-2.ensures.value c.deref-3.ensures.value c.deref-4.ensures.value
    c.in_ok-answer.ensures.answers (none-left c.in_ok-answer.field-0 c.in_default.not-Some) c.in_ok-answer-2.ensures.answers c.in-Some-2.is

pub merge_const_groups-returns-clause-decides : goal.merge_const_groups-returns-clause-decides
merge_const_groups-returns-clause-decides t c =
    group-none c.args.rules.now.param_env.items c.deref.result.now c.deref-3.result.now c.args.rules.now.environment.items c.deref-2.result.now c.args.rules.now.later.items c.deref-4.result.now c.args.self.now
    c.group_answer.new.self c.group_answer-2.new.self c.in_ok-answer.field-0 c.in_ok-answer-2.field-0 c.deref.ensures.value c.deref-2.ensures.value c.deref-3.ensures.value c.deref-4.ensures.value
    c.in_ok-answer.ensures.answers (none-left c.in_ok-answer.field-0 c.in_default.not-Some) c.in_ok-answer-2.ensures.answers (none-left c.in_ok-answer-2.field-0 c.in_default-2.not-Some)

pub evaluate_goal-returns-in-Some-clause-answer : goal.evaluate_goal-returns-in-Some-clause-answer
evaluate_goal-returns-in-Some-clause-answer t c = λ m owed ok. absurd (some-unless (IsAnswerable c.args.self.now c.args.goal.now.predicate c.args.goal.now.param_env.items) c.in_ok-asked.field-0 c.in-Some.asked c.in_ok-asked.ensures.closed c.in-Some.is ok)

pub evaluate_goal-returns-in-Some-clause-keeps : goal.evaluate_goal-returns-in-Some-clause-keeps
evaluate_goal-returns-in-Some-clause-keeps t c = λ m owed ok. absurd (some-unless (IsAnswerable c.args.self.now c.args.goal.now.predicate c.args.goal.now.param_env.items) c.in_ok-asked.field-0 c.in-Some.asked c.in_ok-asked.ensures.closed c.in-Some.is ok)

pub evaluate_goal-returns-in-Some-clause-closed : goal.evaluate_goal-returns-in-Some-clause-closed
evaluate_goal-returns-in-Some-clause-closed t c = λ closed. absurd (some-unless (IsAnswerable c.args.self.now c.args.goal.now.predicate c.args.goal.now.param_env.items) c.in_ok-asked.field-0 c.in-Some.asked c.in_ok-asked.ensures.closed c.in-Some.is (closed-answerable c.args.self.now c.args.goal.now.predicate c.args.goal.now.param_env.items closed))

pub evaluate_goal-returns-in-Some-clause-refused : goal.evaluate_goal-returns-in-Some-clause-refused
evaluate_goal-returns-in-Some-clause-refused t c =
    open-goal-refused c.args.self.now c.evaluate_open.new.self c.args.goal.now c.evaluate_open.result
    (λ closed. some-unless (IsAnswerable c.args.self.now c.args.goal.now.predicate c.args.goal.now.param_env.items) c.in_ok-asked.field-0 c.in-Some.asked c.in_ok-asked.ensures.closed c.in-Some.is (closed-answerable c.args.self.now c.args.goal.now.predicate c.args.goal.now.param_env.items closed))

pub evaluate_goal-returns-in-Some-clause-alone : goal.evaluate_goal-returns-in-Some-clause-alone
evaluate_goal-returns-in-Some-clause-alone t c =
    records-through c.args.self.now c.open_goal.new.self c.evaluate_open.new.self (grown-records c.args.self.now c.open_goal.new.self c.open_goal.ensures.unchanged) c.evaluate_open.ensures.alone

pub evaluate_goal-returns-in-Some-clause-faults : goal.evaluate_goal-returns-in-Some-clause-faults
evaluate_goal-returns-in-Some-clause-faults t c = c.evaluate_open.ensures.faults ∙ grown-faults c.args.self.now c.open_goal.new.self c.open_goal.ensures.unchanged

pub evaluate_goal-returns-in-Some-clause-goes_back : goal.evaluate_goal-returns-in-Some-clause-goes_back
evaluate_goal-returns-in-Some-clause-goes_back t c =
    goes_back-through c.args.self.now c.open_goal.new.self c.evaluate_open.new.self (goes_back-grown c.args.self.now c.open_goal.new.self c.open_goal.ensures.unchanged c.open_goal.ensures.kept) c.evaluate_open.ensures.goes_back

pub evaluate_goal-returns-in-Some-clause-fault : goal.evaluate_goal-returns-in-Some-clause-fault
evaluate_goal-returns-in-Some-clause-fault t c =
    fault-later c.args.self.now c.open_goal.new.self c.evaluate_open.new.self c.evaluate_open.result (goes_back-grown c.args.self.now c.open_goal.new.self c.open_goal.ensures.unchanged c.open_goal.ensures.kept) c.evaluate_open.ensures.fault

pub evaluate_goal-returns-in_err-asked-clause-goes_back : goal.evaluate_goal-returns-in_err-asked-clause-goes_back
evaluate_goal-returns-in_err-asked-clause-goes_back t c =
    goes_back-grown c.args.self.now c.open_goal.new.self c.open_goal.ensures.unchanged c.open_goal.ensures.kept

pub evaluate_goal-returns-in-None-clause-answer : goal.evaluate_goal-returns-in-None-clause-answer
evaluate_goal-returns-in-None-clause-answer t c = λ m owed ok.
    answer-before c.args.self.now c.open_goal.new.self m c.args.goal.now c.evaluate_alias_or_other.result (grown-records c.args.self.now c.open_goal.new.self c.open_goal.ensures.unchanged)
    (c.evaluate_alias_or_other.ensures.answer m owed (answerable-grown c.args.self.now c.open_goal.new.self c.args.goal.now.predicate c.args.goal.now.param_env.items c.open_goal.ensures.unchanged ok))

pub evaluate_goal-returns-in-None-clause-keeps : goal.evaluate_goal-returns-in-None-clause-keeps
evaluate_goal-returns-in-None-clause-keeps t c = λ m owed ok.
    binds-grown c.args.self.now c.open_goal.new.self c.evaluate_alias_or_other.new.self m c.args.goal.now c.evaluate_alias_or_other.result c.open_goal.ensures.unchanged
    (c.evaluate_alias_or_other.ensures.keeps m owed (answerable-grown c.args.self.now c.open_goal.new.self c.args.goal.now.predicate c.args.goal.now.param_env.items c.open_goal.ensures.unchanged ok))

pub evaluate_goal-returns-in-None-clause-refused : goal.evaluate_goal-returns-in-None-clause-refused
evaluate_goal-returns-in-None-clause-refused t c =
    refused-map c.evaluate_alias_or_other.result
    (λ h. refuses-later c.args.self.now c.open_goal.new.self c.evaluate_alias_or_other.new.self c.args.goal.now
    (grown-records c.args.self.now c.open_goal.new.self c.open_goal.ensures.unchanged) h)
    c.evaluate_alias_or_other.ensures.refused

pub evaluate_goal-returns-in-None-clause-closed : goal.evaluate_goal-returns-in-None-clause-closed
evaluate_goal-returns-in-None-clause-closed t c = λ h. c.evaluate_alias_or_other.ensures.closed h ∙ ap (λ (s : State). s.inference) c.open_goal.ensures.unchanged

pub evaluate_goal-returns-in-None-clause-alone : goal.evaluate_goal-returns-in-None-clause-alone
evaluate_goal-returns-in-None-clause-alone t c =
    records-through c.args.self.now c.open_goal.new.self c.evaluate_alias_or_other.new.self (grown-records c.args.self.now c.open_goal.new.self c.open_goal.ensures.unchanged) c.evaluate_alias_or_other.ensures.alone

pub evaluate_goal-returns-in-None-clause-faults : goal.evaluate_goal-returns-in-None-clause-faults
evaluate_goal-returns-in-None-clause-faults t c = c.evaluate_alias_or_other.ensures.faults ∙ grown-faults c.args.self.now c.open_goal.new.self c.open_goal.ensures.unchanged

pub evaluate_goal-returns-in-None-clause-goes_back : goal.evaluate_goal-returns-in-None-clause-goes_back
evaluate_goal-returns-in-None-clause-goes_back t c =
    goes_back-through c.args.self.now c.open_goal.new.self c.evaluate_alias_or_other.new.self (goes_back-grown c.args.self.now c.open_goal.new.self c.open_goal.ensures.unchanged c.open_goal.ensures.kept) c.evaluate_alias_or_other.ensures.goes_back

pub evaluate_goal-returns-in-None-clause-fault : goal.evaluate_goal-returns-in-None-clause-fault
evaluate_goal-returns-in-None-clause-fault t c =
    fault-later c.args.self.now c.open_goal.new.self c.evaluate_alias_or_other.new.self c.evaluate_alias_or_other.result (goes_back-grown c.args.self.now c.open_goal.new.self c.open_goal.ensures.unchanged c.open_goal.ensures.kept) c.evaluate_alias_or_other.ensures.fault

pub evaluate_alias_or_other-returns-in-Some-clause-answer : goal.evaluate_alias_or_other-returns-in-Some-clause-answer
evaluate_alias_or_other-returns-in-Some-clause-answer t c = λ m owed ok. absurd (some-unless (IsAnswerable c.args.self.now c.args.goal.now.predicate c.args.goal.now.param_env.items) c.in_ok-alias.field-0 c.in-Some.alias c.in_ok-alias.ensures.closed c.in-Some.is ok)

pub evaluate_alias_or_other-returns-in-Some-clause-keeps : goal.evaluate_alias_or_other-returns-in-Some-clause-keeps
evaluate_alias_or_other-returns-in-Some-clause-keeps t c = λ m owed ok. absurd (some-unless (IsAnswerable c.args.self.now c.args.goal.now.predicate c.args.goal.now.param_env.items) c.in_ok-alias.field-0 c.in-Some.alias c.in_ok-alias.ensures.closed c.in-Some.is ok)

pub evaluate_alias_or_other-returns-in-Some-clause-closed : goal.evaluate_alias_or_other-returns-in-Some-clause-closed
evaluate_alias_or_other-returns-in-Some-clause-closed t c = λ closed. absurd (some-unless (IsAnswerable c.args.self.now c.args.goal.now.predicate c.args.goal.now.param_env.items) c.in_ok-alias.field-0 c.in-Some.alias c.in_ok-alias.ensures.closed c.in-Some.is (closed-answerable c.args.self.now c.args.goal.now.predicate c.args.goal.now.param_env.items closed))

pub evaluate_alias_or_other-returns-in-Some-clause-refused : goal.evaluate_alias_or_other-returns-in-Some-clause-refused
evaluate_alias_or_other-returns-in-Some-clause-refused t c =
    open-goal-refused c.args.self.now c.evaluate_open_alias.new.self c.args.goal.now c.evaluate_open_alias.result
    (λ closed. some-unless (IsAnswerable c.args.self.now c.args.goal.now.predicate c.args.goal.now.param_env.items) c.in_ok-alias.field-0 c.in-Some.alias c.in_ok-alias.ensures.closed c.in-Some.is (closed-answerable c.args.self.now c.args.goal.now.predicate c.args.goal.now.param_env.items closed))

pub evaluate_alias_or_other-returns-in-Some-clause-alone : goal.evaluate_alias_or_other-returns-in-Some-clause-alone
evaluate_alias_or_other-returns-in-Some-clause-alone t c =
    records-through c.args.self.now c.open_normalization.new.self c.evaluate_open_alias.new.self (grown-records c.args.self.now c.open_normalization.new.self c.open_normalization.ensures.unchanged) c.evaluate_open_alias.ensures.alone

pub evaluate_alias_or_other-returns-in-Some-clause-faults : goal.evaluate_alias_or_other-returns-in-Some-clause-faults
evaluate_alias_or_other-returns-in-Some-clause-faults t c = c.evaluate_open_alias.ensures.faults ∙ grown-faults c.args.self.now c.open_normalization.new.self c.open_normalization.ensures.unchanged

pub evaluate_alias_or_other-returns-in-Some-clause-goes_back : goal.evaluate_alias_or_other-returns-in-Some-clause-goes_back
evaluate_alias_or_other-returns-in-Some-clause-goes_back t c =
    goes_back-through c.args.self.now c.open_normalization.new.self c.evaluate_open_alias.new.self (goes_back-grown c.args.self.now c.open_normalization.new.self c.open_normalization.ensures.unchanged c.open_normalization.ensures.kept) c.evaluate_open_alias.ensures.goes_back

pub evaluate_alias_or_other-returns-in-Some-clause-fault : goal.evaluate_alias_or_other-returns-in-Some-clause-fault
evaluate_alias_or_other-returns-in-Some-clause-fault t c =
    fault-later c.args.self.now c.open_normalization.new.self c.evaluate_open_alias.new.self c.evaluate_open_alias.result (goes_back-grown c.args.self.now c.open_normalization.new.self c.open_normalization.ensures.unchanged c.open_normalization.ensures.kept) c.evaluate_open_alias.ensures.fault

pub evaluate_alias_or_other-returns-in_err-alias-clause-goes_back : goal.evaluate_alias_or_other-returns-in_err-alias-clause-goes_back
evaluate_alias_or_other-returns-in_err-alias-clause-goes_back t c =
    goes_back-grown c.args.self.now c.open_normalization.new.self c.open_normalization.ensures.unchanged c.open_normalization.ensures.kept

pub evaluate_alias_or_other-returns-in-None-clause-answer : goal.evaluate_alias_or_other-returns-in-None-clause-answer
evaluate_alias_or_other-returns-in-None-clause-answer t c = λ m owed ok.
    answer-before c.args.self.now c.open_normalization.new.self m c.args.goal.now c.evaluate_other.result (grown-records c.args.self.now c.open_normalization.new.self c.open_normalization.ensures.unchanged)
    (c.evaluate_other.ensures.answer m owed (answerable-grown c.args.self.now c.open_normalization.new.self c.args.goal.now.predicate c.args.goal.now.param_env.items c.open_normalization.ensures.unchanged ok))

pub evaluate_alias_or_other-returns-in-None-clause-keeps : goal.evaluate_alias_or_other-returns-in-None-clause-keeps
evaluate_alias_or_other-returns-in-None-clause-keeps t c = λ m owed ok.
    binds-grown c.args.self.now c.open_normalization.new.self c.evaluate_other.new.self m c.args.goal.now c.evaluate_other.result c.open_normalization.ensures.unchanged
    (c.evaluate_other.ensures.keeps m owed (answerable-grown c.args.self.now c.open_normalization.new.self c.args.goal.now.predicate c.args.goal.now.param_env.items c.open_normalization.ensures.unchanged ok))

pub evaluate_alias_or_other-returns-in-None-clause-refused : goal.evaluate_alias_or_other-returns-in-None-clause-refused
evaluate_alias_or_other-returns-in-None-clause-refused t c =
    refused-map c.evaluate_other.result
    (λ h. refuses-later c.args.self.now c.open_normalization.new.self c.evaluate_other.new.self c.args.goal.now
    (grown-records c.args.self.now c.open_normalization.new.self c.open_normalization.ensures.unchanged) h)
    c.evaluate_other.ensures.refused

pub evaluate_alias_or_other-returns-in-None-clause-closed : goal.evaluate_alias_or_other-returns-in-None-clause-closed
evaluate_alias_or_other-returns-in-None-clause-closed t c = λ h. c.evaluate_other.ensures.closed h ∙ ap (λ (s : State). s.inference) c.open_normalization.ensures.unchanged

pub evaluate_alias_or_other-returns-in-None-clause-alone : goal.evaluate_alias_or_other-returns-in-None-clause-alone
evaluate_alias_or_other-returns-in-None-clause-alone t c =
    records-through c.args.self.now c.open_normalization.new.self c.evaluate_other.new.self (grown-records c.args.self.now c.open_normalization.new.self c.open_normalization.ensures.unchanged) c.evaluate_other.ensures.alone

pub evaluate_alias_or_other-returns-in-None-clause-faults : goal.evaluate_alias_or_other-returns-in-None-clause-faults
evaluate_alias_or_other-returns-in-None-clause-faults t c = c.evaluate_other.ensures.faults ∙ grown-faults c.args.self.now c.open_normalization.new.self c.open_normalization.ensures.unchanged

pub evaluate_alias_or_other-returns-in-None-clause-goes_back : goal.evaluate_alias_or_other-returns-in-None-clause-goes_back
evaluate_alias_or_other-returns-in-None-clause-goes_back t c =
    goes_back-through c.args.self.now c.open_normalization.new.self c.evaluate_other.new.self (goes_back-grown c.args.self.now c.open_normalization.new.self c.open_normalization.ensures.unchanged c.open_normalization.ensures.kept) c.evaluate_other.ensures.goes_back

pub evaluate_alias_or_other-returns-in-None-clause-fault : goal.evaluate_alias_or_other-returns-in-None-clause-fault
evaluate_alias_or_other-returns-in-None-clause-fault t c =
    fault-later c.args.self.now c.open_normalization.new.self c.evaluate_other.new.self c.evaluate_other.result (goes_back-grown c.args.self.now c.open_normalization.new.self c.open_normalization.ensures.unchanged c.open_normalization.ensures.kept) c.evaluate_other.ensures.fault

pub evaluate_open-returns-in_err-known-clause-alone : goal.evaluate_open-returns-in_err-known-clause-alone
evaluate_open-returns-in_err-known-clause-alone t c = grown-records c.args.self.now c.begin_open.new.self c.begin_open.ensures.unchanged

pub evaluate_open-returns-in_err-known-clause-faults : goal.evaluate_open-returns-in_err-known-clause-faults
evaluate_open-returns-in_err-known-clause-faults t c = grown-faults c.args.self.now c.begin_open.new.self c.begin_open.ensures.unchanged

pub evaluate_open-returns-in_err-known-clause-goes_back : goal.evaluate_open-returns-in_err-known-clause-goes_back
evaluate_open-returns-in_err-known-clause-goes_back t c = goes_back-grown c.args.self.now c.begin_open.new.self c.begin_open.ensures.unchanged c.begin_open.ensures.kept

pub evaluate_open-returns-in-Some-clause-alone : goal.evaluate_open-returns-in-Some-clause-alone
evaluate_open-returns-in-Some-clause-alone t c =
    records-through c.args.self.now c.begin_open.new.self c.repeat.new.self (grown-records c.args.self.now c.begin_open.new.self c.begin_open.ensures.unchanged) c.repeat.ensures.alone

pub evaluate_open-returns-in-Some-clause-faults : goal.evaluate_open-returns-in-Some-clause-faults
evaluate_open-returns-in-Some-clause-faults t c =
    c.repeat.ensures.faults ∙ grown-faults c.args.self.now c.begin_open.new.self c.begin_open.ensures.unchanged

pub evaluate_open-returns-in-Some-clause-goes_back : goal.evaluate_open-returns-in-Some-clause-goes_back
evaluate_open-returns-in-Some-clause-goes_back t c =
    goes_back-through c.args.self.now c.begin_open.new.self c.repeat.new.self (goes_back-grown c.args.self.now c.begin_open.new.self c.begin_open.ensures.unchanged c.begin_open.ensures.kept) c.repeat.ensures.goes_back

pub evaluate_open-returns-in-Some-clause-fault : goal.evaluate_open-returns-in-Some-clause-fault
evaluate_open-returns-in-Some-clause-fault t c =
    fault-later c.args.self.now c.begin_open.new.self c.repeat.new.self c.repeat.result (goes_back-grown c.args.self.now c.begin_open.new.self c.begin_open.ensures.unchanged c.begin_open.ensures.kept) c.repeat.ensures.fault

pub evaluate_open-rollback-requires : goal.evaluate_open-rollback-requires
evaluate_open-rollback-requires t c =
    record { valid = (c.begin_open.new.self, c.snapshot-before.ensures, (goes_back-through c.begin_open.new.self c.evaluate_once-answered.new.self c.end_goal.new.self c.evaluate_once-answered.ensures.goes_back (goes_back-grown c.evaluate_once-answered.new.self c.end_goal.new.self c.end_goal.ensures.unchanged c.end_goal.ensures.kept)), c.holds_together.ensures) }

pub evaluate_open-returns-in_default-2-clause-alone : goal.evaluate_open-returns-in_default-2-clause-alone
evaluate_open-returns-in_default-2-clause-alone t c =
    records-through c.args.self.now c.begin_open.new.self c.end_goal.new.self (grown-records c.args.self.now c.begin_open.new.self c.begin_open.ensures.unchanged) (records-through c.begin_open.new.self c.evaluate_once-answered.new.self c.end_goal.new.self c.evaluate_once-answered.ensures.alone (grown-records c.evaluate_once-answered.new.self c.end_goal.new.self c.end_goal.ensures.unchanged))

pub evaluate_open-returns-in_default-2-clause-faults : goal.evaluate_open-returns-in_default-2-clause-faults
evaluate_open-returns-in_default-2-clause-faults t c =
    (grown-faults c.evaluate_once-answered.new.self c.end_goal.new.self c.end_goal.ensures.unchanged ∙ c.evaluate_once-answered.ensures.faults) ∙ grown-faults c.args.self.now c.begin_open.new.self c.begin_open.ensures.unchanged

pub evaluate_open-returns-in_default-2-clause-goes_back : goal.evaluate_open-returns-in_default-2-clause-goes_back
evaluate_open-returns-in_default-2-clause-goes_back t c =
    goes_back-through c.args.self.now c.begin_open.new.self c.end_goal.new.self (goes_back-grown c.args.self.now c.begin_open.new.self c.begin_open.ensures.unchanged c.begin_open.ensures.kept) (goes_back-through c.begin_open.new.self c.evaluate_once-answered.new.self c.end_goal.new.self c.evaluate_once-answered.ensures.goes_back (goes_back-grown c.evaluate_once-answered.new.self c.end_goal.new.self c.end_goal.ensures.unchanged c.end_goal.ensures.kept))

pub evaluate_open-returns-in_default-2-clause-fault : goal.evaluate_open-returns-in_default-2-clause-fault
evaluate_open-returns-in_default-2-clause-fault t c =
    fault-later c.args.self.now c.begin_open.new.self c.end_goal.new.self c.evaluate_once-answered.result (goes_back-grown c.args.self.now c.begin_open.new.self c.begin_open.ensures.unchanged c.begin_open.ensures.kept)
    (ended-fault Certainty c.begin_open.new.self c.evaluate_once-answered.new.self c.end_goal.new.self c.evaluate_once-answered.result c.end_goal.ensures.unchanged c.evaluate_once-answered.ensures.fault)

pub evaluate_open-returns-in_err-kept-clause-alone : goal.evaluate_open-returns-in_err-kept-clause-alone
evaluate_open-returns-in_err-kept-clause-alone t c =
    records-through c.args.self.now c.begin_open.new.self c.end_goal.new.self (grown-records c.args.self.now c.begin_open.new.self c.begin_open.ensures.unchanged) (records-through c.begin_open.new.self c.evaluate_once-answered.new.self c.end_goal.new.self c.evaluate_once-answered.ensures.alone (grown-records c.evaluate_once-answered.new.self c.end_goal.new.self c.end_goal.ensures.unchanged))

pub evaluate_open-returns-in_err-kept-clause-faults : goal.evaluate_open-returns-in_err-kept-clause-faults
evaluate_open-returns-in_err-kept-clause-faults t c =
    (grown-faults c.evaluate_once-answered.new.self c.end_goal.new.self c.end_goal.ensures.unchanged ∙ c.evaluate_once-answered.ensures.faults) ∙ grown-faults c.args.self.now c.begin_open.new.self c.begin_open.ensures.unchanged

pub evaluate_open-returns-in_err-kept-clause-goes_back : goal.evaluate_open-returns-in_err-kept-clause-goes_back
evaluate_open-returns-in_err-kept-clause-goes_back t c =
    goes_back-through c.args.self.now c.begin_open.new.self c.end_goal.new.self (goes_back-grown c.args.self.now c.begin_open.new.self c.begin_open.ensures.unchanged c.begin_open.ensures.kept) (goes_back-through c.begin_open.new.self c.evaluate_once-answered.new.self c.end_goal.new.self c.evaluate_once-answered.ensures.goes_back (goes_back-grown c.evaluate_once-answered.new.self c.end_goal.new.self c.end_goal.ensures.unchanged c.end_goal.ensures.kept))

pub evaluate_open-returns-clause-alone : goal.evaluate_open-returns-clause-alone
evaluate_open-returns-clause-alone t c =
    records-through c.args.self.now c.rollback.new.self c.give_again.new.self
    (records-through c.args.self.now c.begin_open.new.self c.rollback.new.self (grown-records c.args.self.now c.begin_open.new.self c.begin_open.ensures.unchanged) (restored-records c.begin_open.new.self c.rollback.new.self (restored-itself c.begin_open.new.self c.end_goal.new.self c.rollback.new.self (c.rollback.ensures.undone c.begin_open.new.self c.snapshot-before.ensures (goes_back-through c.begin_open.new.self c.evaluate_once-answered.new.self c.end_goal.new.self c.evaluate_once-answered.ensures.goes_back (goes_back-grown c.evaluate_once-answered.new.self c.end_goal.new.self c.end_goal.ensures.unchanged c.end_goal.ensures.kept))))))
    c.give_again.ensures.alone

pub evaluate_open-returns-clause-faults : goal.evaluate_open-returns-clause-faults
evaluate_open-returns-clause-faults t c =
    c.give_again.ensures.faults ∙
    undone-faults c.begin_open.new.self c.end_goal.new.self c.rollback.new.self (goes_back-through c.begin_open.new.self c.evaluate_once-answered.new.self c.end_goal.new.self c.evaluate_once-answered.ensures.goes_back (goes_back-grown c.evaluate_once-answered.new.self c.end_goal.new.self c.end_goal.ensures.unchanged c.end_goal.ensures.kept)) (grown-faults c.evaluate_once-answered.new.self c.end_goal.new.self c.end_goal.ensures.unchanged ∙ c.evaluate_once-answered.ensures.faults) (c.rollback.ensures.undone c.begin_open.new.self c.snapshot-before.ensures (goes_back-through c.begin_open.new.self c.evaluate_once-answered.new.self c.end_goal.new.self c.evaluate_once-answered.ensures.goes_back (goes_back-grown c.evaluate_once-answered.new.self c.end_goal.new.self c.end_goal.ensures.unchanged c.end_goal.ensures.kept))) ∙ grown-faults c.args.self.now c.begin_open.new.self c.begin_open.ensures.unchanged

pub evaluate_open-returns-clause-goes_back : goal.evaluate_open-returns-clause-goes_back
evaluate_open-returns-clause-goes_back t c =
    goes_back-through c.args.self.now c.rollback.new.self c.give_again.new.self
    (goes_back-through c.args.self.now c.begin_open.new.self c.rollback.new.self (goes_back-grown c.args.self.now c.begin_open.new.self c.begin_open.ensures.unchanged c.begin_open.ensures.kept) (subst (GoesBack c.begin_open.new.self) (sym (c.rollback.ensures.undone c.begin_open.new.self c.snapshot-before.ensures (goes_back-through c.begin_open.new.self c.evaluate_once-answered.new.self c.end_goal.new.self c.evaluate_once-answered.ensures.goes_back (goes_back-grown c.evaluate_once-answered.new.self c.end_goal.new.self c.end_goal.ensures.unchanged c.end_goal.ensures.kept)))) (goes_back-restored c.begin_open.new.self c.end_goal.new.self (goes_back-through c.begin_open.new.self c.evaluate_once-answered.new.self c.end_goal.new.self c.evaluate_once-answered.ensures.goes_back (goes_back-grown c.evaluate_once-answered.new.self c.end_goal.new.self c.end_goal.ensures.unchanged c.end_goal.ensures.kept)))))
    c.give_again.ensures.goes_back

pub evaluate_open-returns-clause-fault : goal.evaluate_open-returns-clause-fault
evaluate_open-returns-clause-fault t c =
    fault-later c.args.self.now c.rollback.new.self c.give_again.new.self c.give_again.result
    (goes_back-through c.args.self.now c.begin_open.new.self c.rollback.new.self (goes_back-grown c.args.self.now c.begin_open.new.self c.begin_open.ensures.unchanged c.begin_open.ensures.kept) (subst (GoesBack c.begin_open.new.self) (sym (c.rollback.ensures.undone c.begin_open.new.self c.snapshot-before.ensures (goes_back-through c.begin_open.new.self c.evaluate_once-answered.new.self c.end_goal.new.self c.evaluate_once-answered.ensures.goes_back (goes_back-grown c.evaluate_once-answered.new.self c.end_goal.new.self c.end_goal.ensures.unchanged c.end_goal.ensures.kept)))) (goes_back-restored c.begin_open.new.self c.end_goal.new.self (goes_back-through c.begin_open.new.self c.evaluate_once-answered.new.self c.end_goal.new.self c.evaluate_once-answered.ensures.goes_back (goes_back-grown c.evaluate_once-answered.new.self c.end_goal.new.self c.end_goal.ensures.unchanged c.end_goal.ensures.kept)))))
    c.give_again.ensures.fault

pub form_once-returns-in_err-known-clause-alone : goal.form_once-returns-in_err-known-clause-alone
form_once-returns-in_err-known-clause-alone t c = grown-records c.args.self.now c.begin_form.new.self c.begin_form.ensures.unchanged

pub form_once-returns-in_err-known-clause-faults : goal.form_once-returns-in_err-known-clause-faults
form_once-returns-in_err-known-clause-faults t c = grown-faults c.args.self.now c.begin_form.new.self c.begin_form.ensures.unchanged

pub form_once-returns-in_err-known-clause-goes_back : goal.form_once-returns-in_err-known-clause-goes_back
form_once-returns-in_err-known-clause-goes_back t c = goes_back-grown c.args.self.now c.begin_form.new.self c.begin_form.ensures.unchanged c.begin_form.ensures.kept

pub form_once-returns-in-Some-clause-alone : goal.form_once-returns-in-Some-clause-alone
form_once-returns-in-Some-clause-alone t c =
    records-through c.args.self.now c.begin_form.new.self c.repeat_form.new.self (grown-records c.args.self.now c.begin_form.new.self c.begin_form.ensures.unchanged) c.repeat_form.ensures.alone

pub form_once-returns-in-Some-clause-faults : goal.form_once-returns-in-Some-clause-faults
form_once-returns-in-Some-clause-faults t c =
    c.repeat_form.ensures.faults ∙ grown-faults c.args.self.now c.begin_form.new.self c.begin_form.ensures.unchanged

pub form_once-returns-in-Some-clause-goes_back : goal.form_once-returns-in-Some-clause-goes_back
form_once-returns-in-Some-clause-goes_back t c =
    goes_back-through c.args.self.now c.begin_form.new.self c.repeat_form.new.self (goes_back-grown c.args.self.now c.begin_form.new.self c.begin_form.ensures.unchanged c.begin_form.ensures.kept) c.repeat_form.ensures.goes_back

pub form_once-returns-in-Some-clause-fault : goal.form_once-returns-in-Some-clause-fault
form_once-returns-in-Some-clause-fault t c =
    fault-later c.args.self.now c.begin_form.new.self c.repeat_form.new.self c.repeat_form.result (goes_back-grown c.args.self.now c.begin_form.new.self c.begin_form.ensures.unchanged c.begin_form.ensures.kept) c.repeat_form.ensures.fault

pub form_once-rollback-requires : goal.form_once-rollback-requires
form_once-rollback-requires t c =
    record { valid = (c.begin_form.new.self, c.snapshot-before.ensures, (goes_back-through c.begin_form.new.self c.form_number-form.new.self c.end_goal.new.self c.form_number-form.ensures.goes_back (goes_back-grown c.form_number-form.new.self c.end_goal.new.self c.end_goal.ensures.unchanged c.end_goal.ensures.kept)), c.holds_together.ensures) }

pub form_once-returns-in_default-2-clause-within : goal.form_once-returns-in_default-2-clause-within
form_once-returns-in_default-2-clause-within t c =
    form-grown c.form_number-form.new.self.terms c.end_goal.new.self.terms c.form_number-form.result c.end_goal.ensures.kept c.form_number-form.ensures.within

pub form_once-returns-in_default-2-clause-alone : goal.form_once-returns-in_default-2-clause-alone
form_once-returns-in_default-2-clause-alone t c =
    records-through c.args.self.now c.begin_form.new.self c.end_goal.new.self (grown-records c.args.self.now c.begin_form.new.self c.begin_form.ensures.unchanged) (records-through c.begin_form.new.self c.form_number-form.new.self c.end_goal.new.self c.form_number-form.ensures.alone (grown-records c.form_number-form.new.self c.end_goal.new.self c.end_goal.ensures.unchanged))

pub form_once-returns-in_default-2-clause-faults : goal.form_once-returns-in_default-2-clause-faults
form_once-returns-in_default-2-clause-faults t c =
    (grown-faults c.form_number-form.new.self c.end_goal.new.self c.end_goal.ensures.unchanged ∙ c.form_number-form.ensures.faults) ∙ grown-faults c.args.self.now c.begin_form.new.self c.begin_form.ensures.unchanged

pub form_once-returns-in_default-2-clause-goes_back : goal.form_once-returns-in_default-2-clause-goes_back
form_once-returns-in_default-2-clause-goes_back t c =
    goes_back-through c.args.self.now c.begin_form.new.self c.end_goal.new.self (goes_back-grown c.args.self.now c.begin_form.new.self c.begin_form.ensures.unchanged c.begin_form.ensures.kept) (goes_back-through c.begin_form.new.self c.form_number-form.new.self c.end_goal.new.self c.form_number-form.ensures.goes_back (goes_back-grown c.form_number-form.new.self c.end_goal.new.self c.end_goal.ensures.unchanged c.end_goal.ensures.kept))

pub form_once-returns-in_default-2-clause-fault : goal.form_once-returns-in_default-2-clause-fault
form_once-returns-in_default-2-clause-fault t c =
    fault-later c.args.self.now c.begin_form.new.self c.end_goal.new.self c.form_number-form.result (goes_back-grown c.args.self.now c.begin_form.new.self c.begin_form.ensures.unchanged c.begin_form.ensures.kept)
    (ended-fault (Option TermId) c.begin_form.new.self c.form_number-form.new.self c.end_goal.new.self c.form_number-form.result c.end_goal.ensures.unchanged c.form_number-form.ensures.fault)

pub form_once-returns-in_err-kept-clause-alone : goal.form_once-returns-in_err-kept-clause-alone
form_once-returns-in_err-kept-clause-alone t c =
    records-through c.args.self.now c.begin_form.new.self c.end_goal.new.self (grown-records c.args.self.now c.begin_form.new.self c.begin_form.ensures.unchanged) (records-through c.begin_form.new.self c.form_number-form.new.self c.end_goal.new.self c.form_number-form.ensures.alone (grown-records c.form_number-form.new.self c.end_goal.new.self c.end_goal.ensures.unchanged))

pub form_once-returns-in_err-kept-clause-faults : goal.form_once-returns-in_err-kept-clause-faults
form_once-returns-in_err-kept-clause-faults t c =
    (grown-faults c.form_number-form.new.self c.end_goal.new.self c.end_goal.ensures.unchanged ∙ c.form_number-form.ensures.faults) ∙ grown-faults c.args.self.now c.begin_form.new.self c.begin_form.ensures.unchanged

pub form_once-returns-in_err-kept-clause-goes_back : goal.form_once-returns-in_err-kept-clause-goes_back
form_once-returns-in_err-kept-clause-goes_back t c =
    goes_back-through c.args.self.now c.begin_form.new.self c.end_goal.new.self (goes_back-grown c.args.self.now c.begin_form.new.self c.begin_form.ensures.unchanged c.begin_form.ensures.kept) (goes_back-through c.begin_form.new.self c.form_number-form.new.self c.end_goal.new.self c.form_number-form.ensures.goes_back (goes_back-grown c.form_number-form.new.self c.end_goal.new.self c.end_goal.ensures.unchanged c.end_goal.ensures.kept))

pub form_once-returns-clause-alone : goal.form_once-returns-clause-alone
form_once-returns-clause-alone t c =
    records-through c.args.self.now c.rollback.new.self c.give_form_again.new.self
    (records-through c.args.self.now c.begin_form.new.self c.rollback.new.self (grown-records c.args.self.now c.begin_form.new.self c.begin_form.ensures.unchanged) (restored-records c.begin_form.new.self c.rollback.new.self (restored-itself c.begin_form.new.self c.end_goal.new.self c.rollback.new.self (c.rollback.ensures.undone c.begin_form.new.self c.snapshot-before.ensures (goes_back-through c.begin_form.new.self c.form_number-form.new.self c.end_goal.new.self c.form_number-form.ensures.goes_back (goes_back-grown c.form_number-form.new.self c.end_goal.new.self c.end_goal.ensures.unchanged c.end_goal.ensures.kept))))))
    c.give_form_again.ensures.alone

pub form_once-returns-clause-faults : goal.form_once-returns-clause-faults
form_once-returns-clause-faults t c =
    c.give_form_again.ensures.faults ∙
    undone-faults c.begin_form.new.self c.end_goal.new.self c.rollback.new.self (goes_back-through c.begin_form.new.self c.form_number-form.new.self c.end_goal.new.self c.form_number-form.ensures.goes_back (goes_back-grown c.form_number-form.new.self c.end_goal.new.self c.end_goal.ensures.unchanged c.end_goal.ensures.kept)) (grown-faults c.form_number-form.new.self c.end_goal.new.self c.end_goal.ensures.unchanged ∙ c.form_number-form.ensures.faults) (c.rollback.ensures.undone c.begin_form.new.self c.snapshot-before.ensures (goes_back-through c.begin_form.new.self c.form_number-form.new.self c.end_goal.new.self c.form_number-form.ensures.goes_back (goes_back-grown c.form_number-form.new.self c.end_goal.new.self c.end_goal.ensures.unchanged c.end_goal.ensures.kept))) ∙ grown-faults c.args.self.now c.begin_form.new.self c.begin_form.ensures.unchanged

pub form_once-returns-clause-goes_back : goal.form_once-returns-clause-goes_back
form_once-returns-clause-goes_back t c =
    goes_back-through c.args.self.now c.rollback.new.self c.give_form_again.new.self
    (goes_back-through c.args.self.now c.begin_form.new.self c.rollback.new.self (goes_back-grown c.args.self.now c.begin_form.new.self c.begin_form.ensures.unchanged c.begin_form.ensures.kept) (subst (GoesBack c.begin_form.new.self) (sym (c.rollback.ensures.undone c.begin_form.new.self c.snapshot-before.ensures (goes_back-through c.begin_form.new.self c.form_number-form.new.self c.end_goal.new.self c.form_number-form.ensures.goes_back (goes_back-grown c.form_number-form.new.self c.end_goal.new.self c.end_goal.ensures.unchanged c.end_goal.ensures.kept)))) (goes_back-restored c.begin_form.new.self c.end_goal.new.self (goes_back-through c.begin_form.new.self c.form_number-form.new.self c.end_goal.new.self c.form_number-form.ensures.goes_back (goes_back-grown c.form_number-form.new.self c.end_goal.new.self c.end_goal.ensures.unchanged c.end_goal.ensures.kept)))))
    c.give_form_again.ensures.goes_back

pub form_once-returns-clause-fault : goal.form_once-returns-clause-fault
form_once-returns-clause-fault t c =
    fault-later c.args.self.now c.rollback.new.self c.give_form_again.new.self c.give_form_again.result
    (goes_back-through c.args.self.now c.begin_form.new.self c.rollback.new.self (goes_back-grown c.args.self.now c.begin_form.new.self c.begin_form.ensures.unchanged c.begin_form.ensures.kept) (subst (GoesBack c.begin_form.new.self) (sym (c.rollback.ensures.undone c.begin_form.new.self c.snapshot-before.ensures (goes_back-through c.begin_form.new.self c.form_number-form.new.self c.end_goal.new.self c.form_number-form.ensures.goes_back (goes_back-grown c.form_number-form.new.self c.end_goal.new.self c.end_goal.ensures.unchanged c.end_goal.ensures.kept)))) (goes_back-restored c.begin_form.new.self c.end_goal.new.self (goes_back-through c.begin_form.new.self c.form_number-form.new.self c.end_goal.new.self c.form_number-form.ensures.goes_back (goes_back-grown c.form_number-form.new.self c.end_goal.new.self c.end_goal.ensures.unchanged c.end_goal.ensures.kept)))))
    c.give_form_again.ensures.fault

pub evaluate_once-returns-then-self-eq0-clause-goes_back : goal.evaluate_once-returns-then-self-eq0-clause-goes_back
evaluate_once-returns-then-self-eq0-clause-goes_back t c =
    goes_back-same c.args.self.now

pub evaluate_once-returns-clause-alone : goal.evaluate_once-returns-clause-alone
evaluate_once-returns-clause-alone t c =
    let-go c.args.self.now c.apply_below-answered.new.self c.keep_caused_faults.new.self c.apply_below-answered.ensures.alone c.keep_caused_faults.ensures.unchanged

pub evaluate_once-returns-clause-faults : goal.evaluate_once-returns-clause-faults
evaluate_once-returns-clause-faults t c =
    let-go-caused c.args.self.now c.apply_below-answered.new.self c.keep_caused_faults.new.self c.len-known.result (c.len-known.ensures ∙ c.self.inside.delayed_faults.ok.0 ∙ ap (λ (s : State). length s.delayed_faults) c.self.view_is) c.apply_below-answered.ensures.goes_back c.keep_caused_faults.ensures.caused

pub evaluate_once-returns-clause-goes_back : goal.evaluate_once-returns-clause-goes_back
evaluate_once-returns-clause-goes_back t c =
    let-go-back c.args.self.now c.apply_below-answered.new.self c.keep_caused_faults.new.self c.len-known.result (c.len-known.ensures ∙ c.self.inside.delayed_faults.ok.0 ∙ ap (λ (s : State). length s.delayed_faults) c.self.view_is) c.apply_below-answered.ensures.goes_back c.keep_caused_faults.ensures.unchanged c.keep_caused_faults.ensures.kept

pub evaluate_once-returns-clause-fault : goal.evaluate_once-returns-clause-fault
evaluate_once-returns-clause-fault t c =
    let-go-fault Certainty c.args.self.now c.apply_below-answered.new.self c.keep_caused_faults.new.self c.apply_below-answered.result c.keep_caused_faults.ensures.unchanged c.apply_below-answered.ensures.fault

pub apply_below-returns-in_err-response-clause-alone : goal.apply_below-returns-in_err-response-clause-alone
apply_below-returns-in_err-response-clause-alone t c =
    restored-records c.args.self.now c.answer_below.new.self c.answer_below.ensures.unchanged

pub apply_below-returns-then-tells_nothing-clause-alone : goal.apply_below-returns-then-tells_nothing-clause-alone
apply_below-returns-then-tells_nothing-clause-alone t c =
    restored-records c.args.self.now c.answer_below.new.self c.answer_below.ensures.unchanged

pub apply_below-returns-clause-alone : goal.apply_below-returns-clause-alone
apply_below-returns-clause-alone t c =
    records-through c.args.self.now c.answer_below.new.self c.apply_sure.new.self (restored-records c.args.self.now c.answer_below.new.self c.answer_below.ensures.unchanged) c.apply_sure.ensures.alone

pub apply_below-returns-clause-goes_back : goal.apply_below-returns-clause-goes_back
apply_below-returns-clause-goes_back t c =
    goes_back-through c.args.self.now c.answer_below.new.self c.apply_sure.new.self c.answer_below.ensures.goes_back c.apply_sure.ensures.goes_back

pub step_or_evaluate-returns-in-Evaluation-clause-steps : goal.step_or_evaluate-returns-in-Evaluation-clause-steps
step_or_evaluate-returns-in-Evaluation-clause-steps t c =
    on_ok-map c.evaluate_pending.result
    (λ h. evaluation-step c.args.environment.now c.args.entry.now c.args.self.now (open_progress c.args.run.now) c.evaluate_pending.new.self c.in-Evaluation.is h)
    c.evaluate_pending.ensures.evaluates

pub step_or_evaluate-returns-in-Evaluation-clause-refused : goal.step_or_evaluate-returns-in-Evaluation-clause-refused
step_or_evaluate-returns-in-Evaluation-clause-refused t c =
    refused-map c.evaluate_pending.result
    (λ h. evaluation-refused c.args.environment.now c.args.entry.now c.args.self.now (open_progress c.args.run.now) c.evaluate_pending.new.self c.in-Evaluation.is h)
    c.evaluate_pending.ensures.refused

pub step_or_evaluate-returns-in-Evaluation-clause-listed : goal.step_or_evaluate-returns-in-Evaluation-clause-listed
step_or_evaluate-returns-in-Evaluation-clause-listed t c =
    step-caused c.args.self.now c.evaluate_pending.new.self (c.args.entry.now ∷ []) c.evaluate_pending.ensures.goes_back c.evaluate_pending.ensures.faults

pub project_below-returns-clause-merges : goal.project_below-returns-clause-merges
project_below-returns-clause-merges t c = λ n depth.
    projects-below _ c.args.self.now _ c.project-answer.new.self n c.args.goal.now c.project-answer.result c.self.view_is c.self-2.view_is c.project-answer.ensures.unchanged depth
    c.project-answer.ensures.merges

pub project_below-returns-clause-applies : goal.project_below-returns-clause-applies
project_below-returns-clause-applies t c =
    applies-below _ c.args.self.now _ c.project-answer.new.self _ c.self.inside.remaining_depth c.project-answer.result c.self.view_is c.self-2.view_is c.project-answer.ensures.unchanged
    c.project-answer.ensures.goes_back c.holds_together.ensures.solved c.project-answer.ensures.applies

pub project-returns-in_err-asked-clause-goes_back : goal.project-returns-in_err-asked-clause-goes_back
project-returns-in_err-asked-clause-goes_back t c = goes_back-same c.args.self.now

pub project-returns-in_default-clause-merges : goal.project-returns-in_default-clause-merges
project-returns-in_default-clause-merges t c =
    projects-alias c.args.goal.now c.args.self.now c.run_alias_rule.new.self c.run_alias_rule.result
    (no-trait _ c.args.self.now c.args.goal.now c.in_ok-asked.field-0 c.self.view_is (none-left c.in_ok-asked.field-0 c.in_default.not-Some) c.in_ok-asked.ensures.asks) c.run_alias_rule.ensures.runs

pub project-returns-in_err-answer-clause-merges : goal.project-returns-in_err-answer-clause-merges
project-returns-in_err-answer-clause-merges t c =
    handed-on c.from_residual-in_err-answer.result c.in_err-answer.field-0.0 (λ (r : Result Response Fault). WhenAnswered r (MergesProjection c.args.goal.now c.args.self.now r c.trait_goal_response.new.self))
    c.from_residual-in_err-answer.ensures.1
    (projects-refused c.args.goal.now c.in-Some.asked c.args.self.now c.trait_goal_response.new.self c.in_err-answer.field-0.0
    (asks-its-trait _ c.args.self.now c.args.goal.now _ c.in-Some.asked c.self.view_is c.in-Some.is c.in_ok-asked.ensures.asks)
    (λ is. subst (AnswersTrait c.in-Some.asked c.args.self.now c.trait_goal_response.new.self) c.in_err-answer.was
    (record {
      sound = c.trait_goal_response.ensures.sound;
      decided = c.trait_goal_response.ensures.decided;
      merges = c.trait_goal_response.ensures.merged;
      back = c.trait_goal_response.ensures.unchanged;
    })))

pub project-returns-in-None-clause-merges : goal.project-returns-in-None-clause-merges
project-returns-in-None-clause-merges t c =
    projects-unproven c.args.goal.now c.in-Some.asked c.args.self.now c.trait_goal_response.new.self c.in_ok-answer.answer c.respond.result
    (asks-its-trait _ c.args.self.now c.args.goal.now _ c.in-Some.asked c.self.view_is c.in-Some.is c.in_ok-asked.ensures.asks)
    (subst (AnswersTrait c.in-Some.asked c.args.self.now c.trait_goal_response.new.self) c.in_ok-answer.was
    (record {
      sound = c.trait_goal_response.ensures.sound;
      decided = c.trait_goal_response.ensures.decided;
      merges = c.trait_goal_response.ensures.merged;
      back = c.trait_goal_response.ensures.unchanged;
    }))
    (sym c.in-None.is ∙ c.proven_class.ensures) c.respond.ensures.certainty

pub project-returns-in-None-clause-applies : goal.project-returns-in-None-clause-applies
project-returns-in-None-clause-applies t c =
    nothing-applies-after c.args.self.now c.trait_goal_response.new.self c.respond.result c.trait_goal_response.ensures.unchanged c.is_well_formed.ensures.storage
    (subst (λ (s : State). IsQuiet (length (kinds_of s)) c.respond.result) c.trait_goal_response.ensures.unchanged c.respond.ensures.quiet) c.respond.ensures.values

pub project-returns-clause-merges : goal.project-returns-clause-merges
project-returns-clause-merges t c =
    projects-through c.args.goal.now c.in-Some.asked c.in-Some-proven_class.class c.args.self.now c.trait_goal_response.new.self c.merge_alias.new.self c.in_ok-answer.answer c.merge_alias.result
    (asks-its-trait _ c.args.self.now c.args.goal.now _ c.in-Some.asked c.self.view_is c.in-Some.is c.in_ok-asked.ensures.asks)
    (subst (AnswersTrait c.in-Some.asked c.args.self.now c.trait_goal_response.new.self) c.in_ok-answer.was
    (record {
      sound = c.trait_goal_response.ensures.sound;
      decided = c.trait_goal_response.ensures.decided;
      merges = c.trait_goal_response.ensures.merged;
      back = c.trait_goal_response.ensures.unchanged;
    }))
    (sym c.in-Some-proven_class.is ∙ c.proven_class.ensures) c.merge_alias.ensures.merges

pub project-returns-clause-goes_back : goal.project-returns-clause-goes_back
project-returns-clause-goes_back t c =
    goes_back-through c.args.self.now c.trait_goal_response.new.self c.merge_alias.new.self c.trait_goal_response.ensures.goes_back c.merge_alias.ensures.goes_back

pub run_alias_rule-returns-in-Ok-clause-runs : goal.run_alias_rule-returns-in-Ok-clause-runs
run_alias_rule-returns-in-Ok-clause-runs t c =
    alias-run c.args.goal.now c.args.self.now c.run_open.new.self c.in-Ok.rule c.deref.result.now c.deref-in-Ok.result.now c.run_open.result c.deref.ensures.value c.deref-in-Ok.ensures.value
    (subst (λ (s : State). IsAliasRule s.tables s.typing_mode c.args.goal.now c.in-Ok.rule) c.self.view_is (record { list = c.in-Ok.ensures.list c.args.goal.now.param_env.items; expected = c.in-Ok.ensures.expected }))
    c.run_open.ensures.chain c.run_open.ensures.refused

pub run_alias_rule-returns-in-Err-NotForThisKind-clause-runs : goal.run_alias_rule-returns-in-Err-NotForThisKind-clause-runs
run_alias_rule-returns-in-Err-NotForThisKind-clause-runs t c =
    alias-none c.args.goal.now c.args.self.now c.in-Err-NotForThisKind.field-0 c.respond.result c.in-Err-NotForThisKind.ensures.faults c.in-Err-NotForThisKind.field-0-is c.respond.ensures.certainty

pub run_alias_rule-returns-in-Err-NotForThisKind-clause-applies : goal.run_alias_rule-returns-in-Err-NotForThisKind-clause-applies
run_alias_rule-returns-in-Err-NotForThisKind-clause-applies t c = nothing-applies c.args.self.now c.respond.result c.is_well_formed.ensures.storage c.respond.ensures.quiet c.respond.ensures.values

pub run_alias_rule-returns-in-Err-NotForThisKind-clause-goes_back : goal.run_alias_rule-returns-in-Err-NotForThisKind-clause-goes_back
run_alias_rule-returns-in-Err-NotForThisKind-clause-goes_back t c = goes_back-same c.args.self.now

pub run_alias_rule-returns-in-Err-clause-goes_back : goal.run_alias_rule-returns-in-Err-clause-goes_back
run_alias_rule-returns-in-Err-clause-goes_back t c = goes_back-same c.args.self.now

pub rigid-returns-in_err-entries-clause-goes_back : goal.rigid-returns-in_err-entries-clause-goes_back
rigid-returns-in_err-entries-clause-goes_back t c = goes_back-same c.args.self.now

pub trait_goal_response-returns-then-remaining_depth-eq0-clause-decided : goal.trait_goal_response-returns-then-remaining_depth-eq0-clause-decided
trait_goal_response-returns-then-remaining_depth-eq0-clause-decided t c = λ m owed closed undecided.
    open-ground (setting_of c.args.self.now.tables m c.args.goal.now.param_env.items) c.args.self.now.remaining_depth (omega (arith, c.remaining_depth.ensures, c.if-remaining_depth-eq0.true))
    c.args.goal.now.predicate.trait_ref.def_id (erased_args c.args.goal.now.predicate.trait_ref.args.items)

pub trait_goal_response-returns-then-remaining_depth-eq0-clause-goes_back : goal.trait_goal_response-returns-then-remaining_depth-eq0-clause-goes_back
trait_goal_response-returns-then-remaining_depth-eq0-clause-goes_back t c = goes_back-same c.args.self.now

pub trait_goal_response-returns-then-remaining_depth-eq0-clause-applies : goal.trait_goal_response-returns-then-remaining_depth-eq0-clause-applies
trait_goal_response-returns-then-remaining_depth-eq0-clause-applies t c = nothing-applies c.args.self.now c.respond.result c.is_well_formed.ensures.storage c.respond.ensures.quiet c.respond.ensures.values

pub trait_goal_response-returns-then-remaining_depth-eq0-clause-at_once : goal.trait_goal_response-returns-then-remaining_depth-eq0-clause-at_once
trait_goal_response-returns-then-remaining_depth-eq0-clause-at_once t c = λ z.
    leaves-undecided c.args.self.now c.respond.result c.respond.ensures.certainty c.respond.ensures.proven_via c.respond.ensures.values c.respond.ensures.quiet

pub trait_goal_response-returns-then-remaining_depth-eq0-clause-caused : goal.trait_goal_response-returns-then-remaining_depth-eq0-clause-caused
trait_goal_response-returns-then-remaining_depth-eq0-clause-caused t c = λ closed. none-recorded c.args.self.now _ refl

pub trait_goal_response-returns-clause-decided : goal.trait_goal_response-returns-clause-decided
trait_goal_response-returns-clause-decided t c = λ m owed closed undecided.
    subst (λ clauses. IsOpen (level (setting_of c.args.self.now.tables m clauses) c.args.self.now.remaining_depth) c.args.goal.now.predicate.trait_ref.def_id (erased_args c.args.goal.now.predicate.trait_ref.args.items)) c.deref-2.ensures.value
    (subst (λ args. IsOpen (level (setting_of c.args.self.now.tables m c.deref-2.result.now) c.args.self.now.remaining_depth) c.args.goal.now.predicate.trait_ref.def_id (erased_args args)) c.deref.ensures.value
    (subst (λ (s : State). IsOpen (level (setting_of c.args.self.now.tables m c.deref-2.result.now) s.remaining_depth) c.args.goal.now.predicate.trait_ref.def_id (erased_args c.deref.result.now)) c.self.view_is
    (c.answer_trait.ensures.decided m owed undecided)))

pub trait_goal_response-returns-clause-caused : goal.trait_goal_response-returns-clause-caused
trait_goal_response-returns-clause-caused t c = λ closed. c.answer_trait.ensures.caused

pub merge_alias-returns-in-Some-clause-merges : goal.merge_alias-returns-in-Some-clause-merges
merge_alias-returns-in-Some-clause-merges t c =
    through-groups alias_kind c.args.goal.now.predicate c.args.class c.args.goal.now c.args.self.now c.considered_groups.new.self c.merge_groups.new.self c.merge_groups.result
    c.in_ok-considered_groups.field-0 c.in-Some.rules c.in_ok-considered_groups.ensures.considers c.in-Some.is c.considered_groups.ensures.unchanged c.merge_groups.ensures.decides

pub merge_groups-returns-in-Refuted-clause-decides : goal.merge_groups-returns-in-Refuted-clause-decides
merge_groups-returns-in-Refuted-clause-decides t c =
    later-answers c.args.class c.args.rules.now.param_env.items c.args.rules.now.environment.items c.args.rules.now.later.items c.args.asked.now c.args.self.now c.merge_rules.new.self c.merge_later.new.self c.merge_later.result
    c.merge_rules.ensures.unchanged
    (rules-merged c.args.rules.now.param_env.items c.deref.result.now c.args.rules.now.environment.items c.deref-2.result.now c.args.self.now c.merge_rules.new.self c.in_ok-merge_rules.field-0 merged.Refuted
    c.deref.ensures.value c.deref-2.ensures.value c.in-Refuted.is c.in_ok-merge_rules.ensures.merges) c.merge_later.ensures.decides

pub merge_groups-returns-in-Answered-clause-decides : goal.merge_groups-returns-in-Answered-clause-decides
merge_groups-returns-in-Answered-clause-decides t c =
    environment-answers c.args.class c.args.rules.now.param_env.items c.args.rules.now.environment.items c.args.rules.now.later.items c.args.asked.now c.args.self.now c.merge_rules.new.self c.with_forms.new.self c.in-Answered.response c.with_forms.result
    c.merge_rules.ensures.unchanged
    (rules-merged c.args.rules.now.param_env.items c.deref.result.now c.args.rules.now.environment.items c.deref-2.result.now c.args.self.now c.merge_rules.new.self c.in_ok-merge_rules.field-0 (merged.Answered c.in-Answered.response)
    c.deref.ensures.value c.deref-2.ensures.value c.in-Answered.is c.in_ok-merge_rules.ensures.merges)
    (subst (λ (xs : List Clause). WhenAnswered c.with_forms.result (WithForms xs (own_args c.merge_rules.new.self.tables c.args.asked.now.alias) c.in-Answered.response c.merge_rules.new.self c.with_forms.result c.with_forms.new.self)) c.deref-in-Answered.ensures.value c.with_forms.ensures.forms)

pub merge_groups-returns-in-Split-clause-decides : goal.merge_groups-returns-in-Split-clause-decides
merge_groups-returns-in-Split-clause-decides t c =
    environment-splits c.args.class c.args.rules.now.param_env.items c.args.rules.now.environment.items c.args.rules.now.later.items (own_args c.args.self.now.tables c.args.asked.now.alias) c.args.asked.now c.args.self.now c.merge_rules.new.self c.respond.result
    (rules-merged c.args.rules.now.param_env.items c.deref.result.now c.args.rules.now.environment.items c.deref-2.result.now c.args.self.now c.merge_rules.new.self c.in_ok-merge_rules.field-0 merged.Split
    c.deref.ensures.value c.deref-2.ensures.value c.in-Split.is c.in_ok-merge_rules.ensures.merges) c.respond.ensures.certainty

pub merge_groups-returns-in-Split-clause-applies : goal.merge_groups-returns-in-Split-clause-applies
merge_groups-returns-in-Split-clause-applies t c =
    nothing-applies-after c.args.self.now c.merge_rules.new.self c.respond.result c.merge_rules.ensures.unchanged c.is_well_formed.ensures.storage
    (subst (λ (s : State). IsQuiet (length (kinds_of s)) c.respond.result) c.merge_rules.ensures.unchanged c.respond.ensures.quiet) c.respond.ensures.values

pub merge_bounds-returns-in-Refuted-clause-decides : goal.merge_bounds-returns-in-Refuted-clause-decides
merge_bounds-returns-in-Refuted-clause-decides t c =
    bounds-rigid c.args.rules.now.param_env.items c.args.rules.now.later.items (own_args c.args.self.now.tables c.args.asked.now.alias) c.args.asked.now c.args.self.now c.merge_rules.new.self c.rigid.new.self c.rigid.result
    (rules-merged c.args.rules.now.param_env.items c.deref.result.now c.args.rules.now.later.items c.deref-2.result.now c.args.self.now c.merge_rules.new.self c.in_ok-merge_rules.field-0 merged.Refuted
    c.deref.ensures.value c.deref-2.ensures.value c.in-Refuted.is c.in_ok-merge_rules.ensures.merges)
    (subst (λ (xs : List Clause). WhenAnswered c.rigid.result (IsRigid xs c.args.asked.now c.merge_rules.new.self c.rigid.result c.rigid.new.self)) c.deref-in-Refuted.ensures.value c.rigid.ensures.rigid)

pub merge_bounds-returns-in-Answered-clause-decides : goal.merge_bounds-returns-in-Answered-clause-decides
merge_bounds-returns-in-Answered-clause-decides t c =
    bounds-answer c.args.rules.now.param_env.items c.args.rules.now.later.items c.args.asked.now c.args.self.now c.merge_rules.new.self c.with_forms.new.self c.in-Answered.response c.with_forms.result
    c.merge_rules.ensures.unchanged
    (rules-merged c.args.rules.now.param_env.items c.deref.result.now c.args.rules.now.later.items c.deref-2.result.now c.args.self.now c.merge_rules.new.self c.in_ok-merge_rules.field-0 (merged.Answered c.in-Answered.response)
    c.deref.ensures.value c.deref-2.ensures.value c.in-Answered.is c.in_ok-merge_rules.ensures.merges)
    (subst (λ (xs : List Clause). WhenAnswered c.with_forms.result (WithForms xs (own_args c.merge_rules.new.self.tables c.args.asked.now.alias) c.in-Answered.response c.merge_rules.new.self c.with_forms.result c.with_forms.new.self)) c.deref-in-Answered.ensures.value c.with_forms.ensures.forms)

pub merge_bounds-returns-in-Split-clause-decides : goal.merge_bounds-returns-in-Split-clause-decides
merge_bounds-returns-in-Split-clause-decides t c =
    bounds-split c.args.rules.now.param_env.items c.args.rules.now.later.items (own_args c.args.self.now.tables c.args.asked.now.alias) c.args.asked.now c.args.self.now c.merge_rules.new.self c.respond.result
    (rules-merged c.args.rules.now.param_env.items c.deref.result.now c.args.rules.now.later.items c.deref-2.result.now c.args.self.now c.merge_rules.new.self c.in_ok-merge_rules.field-0 merged.Split
    c.deref.ensures.value c.deref-2.ensures.value c.in-Split.is c.in_ok-merge_rules.ensures.merges) c.respond.ensures.certainty

pub merge_bounds-returns-in-Split-clause-applies : goal.merge_bounds-returns-in-Split-clause-applies
merge_bounds-returns-in-Split-clause-applies t c =
    nothing-applies-after c.args.self.now c.merge_rules.new.self c.respond.result c.merge_rules.ensures.unchanged c.is_well_formed.ensures.storage
    (subst (λ (s : State). IsQuiet (length (kinds_of s)) c.respond.result) c.merge_rules.ensures.unchanged c.respond.ensures.quiet) c.respond.ensures.values

pub merge_rest-returns-in-Refuted-clause-decides : goal.merge_rest-returns-in-Refuted-clause-decides
merge_rest-returns-in-Refuted-clause-decides t c =
    rest-refuses c.args.rules.now.param_env.items c.args.rules.now.later.items c.args.self.now c.merge_rules.new.self (Err fault.NoSolution)
    (rules-merged c.args.rules.now.param_env.items c.deref.result.now c.args.rules.now.later.items c.deref-2.result.now c.args.self.now c.merge_rules.new.self c.in_ok-merge_rules.field-0 merged.Refuted
    c.deref.ensures.value c.deref-2.ensures.value c.in-Refuted.is c.in_ok-merge_rules.ensures.merges) refl

pub merge_rest-returns-in-Answered-clause-decides : goal.merge_rest-returns-in-Answered-clause-decides
merge_rest-returns-in-Answered-clause-decides t c =
    rest-answers c.args.rules.now.param_env.items c.args.rules.now.later.items c.args.self.now c.merge_rules.new.self c.in-Answered.response
    (rules-merged c.args.rules.now.param_env.items c.deref.result.now c.args.rules.now.later.items c.deref-2.result.now c.args.self.now c.merge_rules.new.self c.in_ok-merge_rules.field-0 (merged.Answered c.in-Answered.response)
    c.deref.ensures.value c.deref-2.ensures.value c.in-Answered.is c.in_ok-merge_rules.ensures.merges)

pub merge_rest-returns-in-Split-clause-decides : goal.merge_rest-returns-in-Split-clause-decides
merge_rest-returns-in-Split-clause-decides t c =
    rest-splits c.args.rules.now.param_env.items c.args.rules.now.later.items c.args.self.now c.merge_rules.new.self c.respond.result
    (rules-merged c.args.rules.now.param_env.items c.deref.result.now c.args.rules.now.later.items c.deref-2.result.now c.args.self.now c.merge_rules.new.self c.in_ok-merge_rules.field-0 merged.Split
    c.deref.ensures.value c.deref-2.ensures.value c.in-Split.is c.in_ok-merge_rules.ensures.merges) c.respond.ensures.certainty

pub merge_rest-returns-in-Split-clause-applies : goal.merge_rest-returns-in-Split-clause-applies
merge_rest-returns-in-Split-clause-applies t c =
    nothing-applies-after c.args.self.now c.merge_rules.new.self c.respond.result c.merge_rules.ensures.unchanged c.is_well_formed.ensures.storage
    (subst (λ (s : State). IsQuiet (length (kinds_of s)) c.respond.result) c.merge_rules.ensures.unchanged c.respond.ensures.quiet) c.respond.ensures.values

pub form_of_open-returns-then-self-eq0-clause-goes_back : goal.form_of_open-returns-then-self-eq0-clause-goes_back
form_of_open-returns-then-self-eq0-clause-goes_back t c =
    goes_back-same c.args.self.now

pub form_of_open-rollback-requires : goal.form_of_open-rollback-requires
form_of_open-rollback-requires t c =
    record { valid = (c.args.self.now, c.snapshot-before.ensures, (let-go-back c.args.self.now c.found_form-found.new.self c.keep_caused_faults.new.self c.len-known.result (c.len-known.ensures ∙ c.self.inside.delayed_faults.ok.0 ∙ ap (λ (s : State). length s.delayed_faults) c.self.view_is) c.found_form-found.ensures.goes_back c.keep_caused_faults.ensures.unchanged c.keep_caused_faults.ensures.kept), c.holds_together.ensures) }

pub form_of_open-returns-then-not-gives_form-clause-opens : goal.form_of_open-returns-then-not-gives_form-clause-opens
form_of_open-returns-then-not-gives_form-clause-opens t c =
    opens-undone answers_term c.args.environment.now (erased (tree_of_alias c.args.alias)) c.args.self.now c.found_form-found.new.self c.rollback.new.self c.found_form-found.result (sym c.gives_form.ensures ∙ c.if-not-gives_form.true) c.found_form-found.ensures.opens

pub form_of_open-returns-then-not-gives_form-clause-unchanged : goal.form_of_open-returns-then-not-gives_form-clause-unchanged
form_of_open-returns-then-not-gives_form-clause-unchanged t c =
    λ none. restored-itself c.args.self.now c.keep_caused_faults.new.self c.rollback.new.self (c.rollback.ensures.undone c.args.self.now c.snapshot-before.ensures (let-go-back c.args.self.now c.found_form-found.new.self c.keep_caused_faults.new.self c.len-known.result (c.len-known.ensures ∙ c.self.inside.delayed_faults.ok.0 ∙ ap (λ (s : State). length s.delayed_faults) c.self.view_is) c.found_form-found.ensures.goes_back c.keep_caused_faults.ensures.unchanged c.keep_caused_faults.ensures.kept))

pub form_of_open-returns-then-not-gives_form-clause-alone : goal.form_of_open-returns-then-not-gives_form-clause-alone
form_of_open-returns-then-not-gives_form-clause-alone t c =
    restored-records c.args.self.now c.rollback.new.self (restored-itself c.args.self.now c.keep_caused_faults.new.self c.rollback.new.self (c.rollback.ensures.undone c.args.self.now c.snapshot-before.ensures (let-go-back c.args.self.now c.found_form-found.new.self c.keep_caused_faults.new.self c.len-known.result (c.len-known.ensures ∙ c.self.inside.delayed_faults.ok.0 ∙ ap (λ (s : State). length s.delayed_faults) c.self.view_is) c.found_form-found.ensures.goes_back c.keep_caused_faults.ensures.unchanged c.keep_caused_faults.ensures.kept)))

pub form_of_open-returns-then-not-gives_form-clause-faults : goal.form_of_open-returns-then-not-gives_form-clause-faults
form_of_open-returns-then-not-gives_form-clause-faults t c =
    undone-faults c.args.self.now c.keep_caused_faults.new.self c.rollback.new.self (let-go-back c.args.self.now c.found_form-found.new.self c.keep_caused_faults.new.self c.len-known.result (c.len-known.ensures ∙ c.self.inside.delayed_faults.ok.0 ∙ ap (λ (s : State). length s.delayed_faults) c.self.view_is) c.found_form-found.ensures.goes_back c.keep_caused_faults.ensures.unchanged c.keep_caused_faults.ensures.kept) (let-go-caused c.args.self.now c.found_form-found.new.self c.keep_caused_faults.new.self c.len-known.result (c.len-known.ensures ∙ c.self.inside.delayed_faults.ok.0 ∙ ap (λ (s : State). length s.delayed_faults) c.self.view_is) c.found_form-found.ensures.goes_back c.keep_caused_faults.ensures.caused) (c.rollback.ensures.undone c.args.self.now c.snapshot-before.ensures (let-go-back c.args.self.now c.found_form-found.new.self c.keep_caused_faults.new.self c.len-known.result (c.len-known.ensures ∙ c.self.inside.delayed_faults.ok.0 ∙ ap (λ (s : State). length s.delayed_faults) c.self.view_is) c.found_form-found.ensures.goes_back c.keep_caused_faults.ensures.unchanged c.keep_caused_faults.ensures.kept))

pub form_of_open-returns-then-not-gives_form-clause-goes_back : goal.form_of_open-returns-then-not-gives_form-clause-goes_back
form_of_open-returns-then-not-gives_form-clause-goes_back t c =
    subst (GoesBack c.args.self.now) (sym (c.rollback.ensures.undone c.args.self.now c.snapshot-before.ensures (let-go-back c.args.self.now c.found_form-found.new.self c.keep_caused_faults.new.self c.len-known.result (c.len-known.ensures ∙ c.self.inside.delayed_faults.ok.0 ∙ ap (λ (s : State). length s.delayed_faults) c.self.view_is) c.found_form-found.ensures.goes_back c.keep_caused_faults.ensures.unchanged c.keep_caused_faults.ensures.kept))) (goes_back-restored c.args.self.now c.keep_caused_faults.new.self (let-go-back c.args.self.now c.found_form-found.new.self c.keep_caused_faults.new.self c.len-known.result (c.len-known.ensures ∙ c.self.inside.delayed_faults.ok.0 ∙ ap (λ (s : State). length s.delayed_faults) c.self.view_is) c.found_form-found.ensures.goes_back c.keep_caused_faults.ensures.unchanged c.keep_caused_faults.ensures.kept))

pub form_of_open-returns-then-not-gives_form-clause-fault : goal.form_of_open-returns-then-not-gives_form-clause-fault
form_of_open-returns-then-not-gives_form-clause-fault t c =
    undone-fault (Option Term) c.args.self.now c.keep_caused_faults.new.self c.rollback.new.self c.found_form-found.result (c.rollback.ensures.undone c.args.self.now c.snapshot-before.ensures (let-go-back c.args.self.now c.found_form-found.new.self c.keep_caused_faults.new.self c.len-known.result (c.len-known.ensures ∙ c.self.inside.delayed_faults.ok.0 ∙ ap (λ (s : State). length s.delayed_faults) c.self.view_is) c.found_form-found.ensures.goes_back c.keep_caused_faults.ensures.unchanged c.keep_caused_faults.ensures.kept)) (let-go-fault (Option Term) c.args.self.now c.found_form-found.new.self c.keep_caused_faults.new.self c.found_form-found.result c.keep_caused_faults.ensures.unchanged c.found_form-found.ensures.fault)

pub form_of_open-returns-else-not-gives_form-clause-opens : goal.form_of_open-returns-else-not-gives_form-clause-opens
form_of_open-returns-else-not-gives_form-clause-opens t c =
    opens-let_go answers_term c.args.environment.now (erased (tree_of_alias c.args.alias)) c.args.self.now c.found_form-found.new.self c.keep_caused_faults.new.self c.found_form-found.result c.keep_caused_faults.ensures.unchanged c.found_form-found.ensures.opens

pub form_of_open-returns-else-not-gives_form-clause-unchanged : goal.form_of_open-returns-else-not-gives_form-clause-unchanged
form_of_open-returns-else-not-gives_form-clause-unchanged t c =
    λ none. absurd (false≢true (sym none ∙ sym c.gives_form.ensures ∙ c.if-not-gives_form.false))

pub form_of_open-returns-else-not-gives_form-clause-alone : goal.form_of_open-returns-else-not-gives_form-clause-alone
form_of_open-returns-else-not-gives_form-clause-alone t c =
    let-go c.args.self.now c.found_form-found.new.self c.keep_caused_faults.new.self c.found_form-found.ensures.alone c.keep_caused_faults.ensures.unchanged

pub form_of_open-returns-else-not-gives_form-clause-faults : goal.form_of_open-returns-else-not-gives_form-clause-faults
form_of_open-returns-else-not-gives_form-clause-faults t c =
    let-go-caused c.args.self.now c.found_form-found.new.self c.keep_caused_faults.new.self c.len-known.result (c.len-known.ensures ∙ c.self.inside.delayed_faults.ok.0 ∙ ap (λ (s : State). length s.delayed_faults) c.self.view_is) c.found_form-found.ensures.goes_back c.keep_caused_faults.ensures.caused

pub form_of_open-returns-else-not-gives_form-clause-goes_back : goal.form_of_open-returns-else-not-gives_form-clause-goes_back
form_of_open-returns-else-not-gives_form-clause-goes_back t c =
    let-go-back c.args.self.now c.found_form-found.new.self c.keep_caused_faults.new.self c.len-known.result (c.len-known.ensures ∙ c.self.inside.delayed_faults.ok.0 ∙ ap (λ (s : State). length s.delayed_faults) c.self.view_is) c.found_form-found.ensures.goes_back c.keep_caused_faults.ensures.unchanged c.keep_caused_faults.ensures.kept

pub form_of_open-returns-else-not-gives_form-clause-fault : goal.form_of_open-returns-else-not-gives_form-clause-fault
form_of_open-returns-else-not-gives_form-clause-fault t c =
    let-go-fault (Option Term) c.args.self.now c.found_form-found.new.self c.keep_caused_faults.new.self c.found_form-found.result c.keep_caused_faults.ensures.unchanged c.found_form-found.ensures.fault

pub found_form-returns-in_err-expected-clause-alone : goal.found_form-returns-in_err-expected-clause-alone
found_form-returns-in_err-expected-clause-alone t c =
    same-records c.args.self.now c.fresh_term.new.self c.in_err-expected.ensures.unchanged

pub found_form-returns-in_err-asked-clause-alone : goal.found_form-returns-in_err-asked-clause-alone
found_form-returns-in_err-asked-clause-alone t c =
    made-records c.args.self.now c.fresh_term.new.self _ c.in_ok-expected.ensures.made

pub found_form-returns-in_err-response-clause-opens : goal.found_form-returns-in_err-response-clause-opens
found_form-returns-in_err-response-clause-opens t c =
    handed-on c.from_residual-in_err-response.result c.in_err-response.field-0.0 (λ (r : Result (Option Term) Fault). OpensFrom answers_term c.args.environment.now (erased (tree_of_alias c.args.alias)) c.args.self.now r c.project_below.new.self) c.from_residual-in_err-response.ensures.1
    (opens-refused answers_term c.args.environment.now (erased (tree_of_alias c.args.alias)) c.args.self.now c.project_below.new.self c.in_err-response.field-0.0
    (refuses-term answers_term c.args.environment.now (erased (tree_of_alias c.args.alias)) c.args.self.now c.project_below.new.self c.in_ok-asked.asked c.in_err-response.field-0.0 (asks-term c.args.environment.now c.args.alias c.in_ok-expected.expected c.is_type.result c.args.self.now c.in_ok-asked.asked c.in_ok-asked.ensures.alias c.in_ok-asked.ensures.term c.in_ok-asked.ensures.environment c.is_type.ensures c.in_ok-expected.ensures.fresh)
    (answers-err c.in_ok-asked.asked c.args.self.now c.fresh_term.new.self c.project_below.new.self c.project_below.result c.in_err-response.field-0.0 (with-fresh c.args.alias c.is_type.result c.in_ok-asked.asked c.args.self.now c.fresh_term.new.self c.in_ok-asked.ensures.alias c.is_type.ensures c.in_ok-expected.ensures.made) c.in_err-response.was c.project_below.ensures.unchanged c.project_below.ensures.merges)))

pub found_form-returns-in_err-response-clause-alone : goal.found_form-returns-in_err-response-clause-alone
found_form-returns-in_err-response-clause-alone t c =
    records-through c.args.self.now c.fresh_term.new.self c.project_below.new.self (made-records c.args.self.now c.fresh_term.new.self _ c.in_ok-expected.ensures.made) (restored-records c.fresh_term.new.self c.project_below.new.self c.project_below.ensures.unchanged)

pub found_form-returns-in_err-response-clause-goes_back : goal.found_form-returns-in_err-response-clause-goes_back
found_form-returns-in_err-response-clause-goes_back t c =
    goes_back-through c.args.self.now c.fresh_term.new.self c.project_below.new.self c.fresh_term.ensures.goes_back c.project_below.ensures.goes_back

pub found_form-returns-in_err-response-clause-fault : goal.found_form-returns-in_err-response-clause-fault
found_form-returns-in_err-response-clause-fault t c =
    handed-on c.from_residual-in_err-response.result c.in_err-response.field-0.0 (λ (r : Result (Option Term) Fault). IsFaultFor c.args.self.now c.project_below.new.self r) c.from_residual-in_err-response.ensures.1
    (fault-before Response (Option Term) c.args.self.now c.fresh_term.new.self c.project_below.new.self c.in_err-response.field-0.0 c.fresh_term.ensures.goes_back c.in_err-response.ensures.fault)

pub found_form-returns-in_err-apply_sure-clause-alone : goal.found_form-returns-in_err-apply_sure-clause-alone
found_form-returns-in_err-apply_sure-clause-alone t c =
    records-through c.args.self.now c.project_below.new.self c.apply_sure.new.self (records-through c.args.self.now c.fresh_term.new.self c.project_below.new.self (made-records c.args.self.now c.fresh_term.new.self _ c.in_ok-expected.ensures.made) (restored-records c.fresh_term.new.self c.project_below.new.self c.project_below.ensures.unchanged)) c.apply_sure.ensures.alone

pub found_form-returns-in_err-apply_sure-clause-goes_back : goal.found_form-returns-in_err-apply_sure-clause-goes_back
found_form-returns-in_err-apply_sure-clause-goes_back t c =
    goes_back-through c.args.self.now c.project_below.new.self c.apply_sure.new.self (goes_back-through c.args.self.now c.fresh_term.new.self c.project_below.new.self c.fresh_term.ensures.goes_back c.project_below.ensures.goes_back) c.apply_sure.ensures.goes_back

pub found_form-returns-in-Maybe-clause-opens : goal.found_form-returns-in-Maybe-clause-opens
found_form-returns-in-Maybe-clause-opens t c =
    inr (record { asked = c.in_ok-asked.asked; asks = (asks-term c.args.environment.now c.args.alias c.in_ok-expected.expected c.is_type.result c.args.self.now c.in_ok-asked.asked c.in_ok-asked.ensures.alias c.in_ok-asked.ensures.term c.in_ok-asked.ensures.environment c.is_type.ensures c.in_ok-expected.ensures.fresh); response = c.in_ok-response.response; answered = c.project_below.new.self; answers = (answers-ok c.in_ok-asked.asked c.args.self.now c.fresh_term.new.self c.project_below.new.self c.project_below.result c.in_ok-response.response (with-fresh c.args.alias c.is_type.result c.in_ok-asked.asked c.args.self.now c.fresh_term.new.self c.in_ok-asked.ensures.alias c.is_type.ensures c.in_ok-expected.ensures.made) c.in_ok-response.was c.project_below.ensures.unchanged c.project_below.ensures.merges); unsure = c.in_ok-apply_sure.ensures.left c.in-Maybe.is })

pub found_form-returns-in-Maybe-clause-alone : goal.found_form-returns-in-Maybe-clause-alone
found_form-returns-in-Maybe-clause-alone t c =
    records-through c.args.self.now c.project_below.new.self c.apply_sure.new.self (records-through c.args.self.now c.fresh_term.new.self c.project_below.new.self (made-records c.args.self.now c.fresh_term.new.self _ c.in_ok-expected.ensures.made) (restored-records c.fresh_term.new.self c.project_below.new.self c.project_below.ensures.unchanged)) c.apply_sure.ensures.alone

pub found_form-returns-in-Maybe-clause-goes_back : goal.found_form-returns-in-Maybe-clause-goes_back
found_form-returns-in-Maybe-clause-goes_back t c =
    goes_back-through c.args.self.now c.project_below.new.self c.apply_sure.new.self (goes_back-through c.args.self.now c.fresh_term.new.self c.project_below.new.self c.fresh_term.ensures.goes_back c.project_below.ensures.goes_back) c.apply_sure.ensures.goes_back

pub found_form-returns-in_default-bound_form-clause-goes_back : goal.found_form-returns-in_default-bound_form-clause-goes_back
found_form-returns-in_default-bound_form-clause-goes_back t c =
    goes_back-through c.args.self.now c.apply_sure.new.self c.bound_form.new.self (goes_back-through c.args.self.now c.project_below.new.self c.apply_sure.new.self (goes_back-through c.args.self.now c.fresh_term.new.self c.project_below.new.self c.fresh_term.ensures.goes_back c.project_below.ensures.goes_back) c.apply_sure.ensures.goes_back) (goes_back-grown c.apply_sure.new.self c.bound_form.new.self c.bound_form.ensures.unchanged c.bound_form.ensures.kept)

pub found_form-returns-clause-opens : goal.found_form-returns-clause-opens
found_form-returns-clause-opens t c =
    opens-answered answers_term c.args.environment.now (erased (tree_of_alias c.args.alias)) (erased_at c.bound_form.new.self.terms c.in-Ok.id) c.args.self.now c.bound_form.new.self c.form_at.result (c.form_at.ensures.found c.in-Ok.ensures.term) c.form_at.ensures.only_memory
    (λ x form. record {
      asked = c.in_ok-asked.asked;
      asks = (asks-term c.args.environment.now c.args.alias c.in_ok-expected.expected c.is_type.result c.args.self.now c.in_ok-asked.asked c.in_ok-asked.ensures.alias c.in_ok-asked.ensures.term c.in_ok-asked.ensures.environment c.is_type.ensures c.in_ok-expected.ensures.fresh);
      response = c.in_ok-response.response;
      answered = c.project_below.new.self;
      answers = (answers-ok c.in_ok-asked.asked c.args.self.now c.fresh_term.new.self c.project_below.new.self c.project_below.result c.in_ok-response.response (with-fresh c.args.alias c.is_type.result c.in_ok-asked.asked c.args.self.now c.fresh_term.new.self c.in_ok-asked.ensures.alias c.is_type.ensures c.in_ok-expected.ensures.made) c.in_ok-response.was c.project_below.ensures.unchanged c.project_below.ensures.merges);
      applied = c.apply_sure.new.self;
      applies = c.in_ok-apply_sure.ensures.applied (not-maybe c.in_ok-apply_sure.field-0 c.in_default.not-Maybe);
      form = form ∙ c.in-Ok.ensures.tree;
      left = grown-left c.apply_sure.new.self c.bound_form.new.self c.bound_form.ensures.unchanged;
    })

pub found_form-returns-clause-alone : goal.found_form-returns-clause-alone
found_form-returns-clause-alone t c =
    records-through c.args.self.now c.apply_sure.new.self c.bound_form.new.self (records-through c.args.self.now c.project_below.new.self c.apply_sure.new.self (records-through c.args.self.now c.fresh_term.new.self c.project_below.new.self (made-records c.args.self.now c.fresh_term.new.self _ c.in_ok-expected.ensures.made) (restored-records c.fresh_term.new.self c.project_below.new.self c.project_below.ensures.unchanged)) c.apply_sure.ensures.alone) (grown-records c.apply_sure.new.self c.bound_form.new.self c.bound_form.ensures.unchanged)

pub found_form-returns-clause-goes_back : goal.found_form-returns-clause-goes_back
found_form-returns-clause-goes_back t c =
    goes_back-through c.args.self.now c.apply_sure.new.self c.bound_form.new.self (goes_back-through c.args.self.now c.project_below.new.self c.apply_sure.new.self (goes_back-through c.args.self.now c.fresh_term.new.self c.project_below.new.self c.fresh_term.ensures.goes_back c.project_below.ensures.goes_back) c.apply_sure.ensures.goes_back) (goes_back-grown c.apply_sure.new.self c.bound_form.new.self c.bound_form.ensures.unchanged c.bound_form.ensures.kept)

pub merge_open-returns-in_err-open_self_of-clause-opened : goal.merge_open-returns-in_err-open_self_of-clause-opened
merge_open-returns-in_err-open_self_of-clause-opened t c =
    λ asks. opened-unsaid (MergesAsked c.args.asked) c.args.self.now c.open_self_of.new.self c.from_residual.result c.in_err-open_self_of.field-0.0 c.open_self_of.ensures.unchanged c.from_residual.ensures.1 c.in_err-open_self_of.ensures.only_memory

pub merge_open-returns-in_err-open_self_of-clause-goes_back : goal.merge_open-returns-in_err-open_self_of-clause-goes_back
merge_open-returns-in_err-open_self_of-clause-goes_back t c =
    goes_back-grown c.args.self.now c.open_self_of.new.self c.open_self_of.ensures.unchanged c.open_self_of.ensures.kept

pub merge_open-returns-in-None-clause-opened : goal.merge_open-returns-in-None-clause-opened
merge_open-returns-in-None-clause-opened t c =
    λ asks. absurd (c.open_self_of.ensures.none (c.in_ok-open_self_of.was ∙ ap (λ (o : Option AliasTerm). Ok o) c.in-None.is) asks)

pub merge_open-returns-in-None-clause-applies : goal.merge_open-returns-in-None-clause-applies
merge_open-returns-in-None-clause-applies t c =
    nothing-applies-after c.args.self.now c.open_self_of.new.self c.respond.result (restored-grown c.args.self.now c.open_self_of.new.self c.open_self_of.ensures.unchanged) c.is_well_formed.ensures.storage
    (subst (λ (s : State). IsQuiet (length (kinds_of s)) c.respond.result) c.open_self_of.ensures.unchanged c.respond.ensures.quiet) c.respond.ensures.values

pub merge_open-returns-in-None-clause-goes_back : goal.merge_open-returns-in-None-clause-goes_back
merge_open-returns-in-None-clause-goes_back t c =
    goes_back-grown c.args.self.now c.open_self_of.new.self c.open_self_of.ensures.unchanged c.open_self_of.ensures.kept

pub merge_open-returns-in-Some-clause-undecided : goal.merge_open-returns-in-Some-clause-undecided
merge_open-returns-in-Some-clause-undecided t c =
    λ other. absurd (other (known c.in_ok-open_self_of.field-0 c.in-Some.alias (λ a. AsksOpen c.args.asked c.args.self.now) c.in-Some.is c.in_ok-open_self_of.ensures.asks))

pub merge_open-returns-in-Some-clause-opened : goal.merge_open-returns-in-Some-clause-opened
merge_open-returns-in-Some-clause-opened t c =
    λ asks. (c.open_self_of.new.self, restored-grown c.args.self.now c.open_self_of.new.self c.open_self_of.ensures.unchanged, c.merge_opened.ensures.merges)

pub merge_open-returns-in-Some-clause-unchanged : goal.merge_open-returns-in-Some-clause-unchanged
merge_open-returns-in-Some-clause-unchanged t c =
    restored-twice c.args.self.now c.open_self_of.new.self c.merge_opened.new.self (restored-grown c.args.self.now c.open_self_of.new.self c.open_self_of.ensures.unchanged) c.merge_opened.ensures.unchanged

pub merge_open-returns-in-Some-clause-goes_back : goal.merge_open-returns-in-Some-clause-goes_back
merge_open-returns-in-Some-clause-goes_back t c =
    goes_back-through c.args.self.now c.open_self_of.new.self c.merge_opened.new.self (goes_back-grown c.args.self.now c.open_self_of.new.self c.open_self_of.ensures.unchanged c.open_self_of.ensures.kept) c.merge_opened.ensures.goes_back

pub merge_open-returns-in-Some-clause-fault : goal.merge_open-returns-in-Some-clause-fault
merge_open-returns-in-Some-clause-fault t c =
    fault-later c.args.self.now c.open_self_of.new.self c.merge_opened.new.self c.merge_opened.result (goes_back-grown c.args.self.now c.open_self_of.new.self c.open_self_of.ensures.unchanged c.open_self_of.ensures.kept) c.merge_opened.ensures.fault

pub merge_opened-rollback-requires : goal.merge_opened-rollback-requires
merge_opened-rollback-requires t c =
    let back : GoesBack (begun c.args.self.now) c.answer_opened-answer.new.self = subst (λ (z : State). GoesBack z c.answer_opened-answer.new.self) c.begin-around.ensures.began c.answer_opened-answer.ensures.goes_back in
    record { valid = (begun c.args.self.now, c.snapshot-before.ensures, back, valid-begun c.args.self.now c.holds_together.ensures) }

pub merge_opened-returns-clause-merges : goal.merge_opened-returns-clause-merges
merge_opened-returns-clause-merges t c =
    let back : GoesBack (begun c.args.self.now) c.answer_opened-answer.new.self = subst (λ (z : State). GoesBack z c.answer_opened-answer.new.self) c.begin-around.ensures.began c.answer_opened-answer.ensures.goes_back in
    let undone : c.end.new.self ≡ restored c.args.self.now c.answer_opened-answer.new.self =
    c.end.ensures ∙ ap (λ (z : State). record z { mark = c.begin-around.result }) (c.rollback.ensures.undone (begun c.args.self.now) c.snapshot-before.ensures back)
    ∙ ap (λ m. record (restored (begun c.args.self.now) c.answer_opened-answer.new.self) { mark = m }) c.begin-around.ensures.around in
    asked-merges c.args.asked c.args.alias c.args.self.now c.begin-around.new.self c.answer_opened-answer.new.self c.end.new.self c.answer_opened-answer.result c.or_undecided.result
    c.begin-around.ensures.began undone c.requires.opens c.answer_opened-answer.ensures.by c.or_undecided.ensures.after

pub merge_opened-returns-clause-applies : goal.merge_opened-returns-clause-applies
merge_opened-returns-clause-applies t c =
    let back : GoesBack (begun c.args.self.now) c.answer_opened-answer.new.self = subst (λ (z : State). GoesBack z c.answer_opened-answer.new.self) c.begin-around.ensures.began c.answer_opened-answer.ensures.goes_back in
    let undone : c.end.new.self ≡ restored c.args.self.now c.answer_opened-answer.new.self =
    c.end.ensures ∙ ap (λ (z : State). record z { mark = c.begin-around.result }) (c.rollback.ensures.undone (begun c.args.self.now) c.snapshot-before.ensures back)
    ∙ ap (λ m. record (restored (begun c.args.self.now) c.answer_opened-answer.new.self) { mark = m }) c.begin-around.ensures.around in
    opened-applies c.args.self.now c.answer_opened-answer.new.self c.end.new.self c.answer_opened-answer.result c.or_undecided.result back undone c.holds_together.ensures.solved c.holds_together-2.ensures.solved
    c.is_well_formed.ensures.storage c.is_well_formed-2.ensures.storage c.answer_opened-answer.ensures.lists c.or_undecided.ensures.left c.or_undecided.ensures.after

pub merge_opened-returns-clause-unchanged : goal.merge_opened-returns-clause-unchanged
merge_opened-returns-clause-unchanged t c =
    let back : GoesBack (begun c.args.self.now) c.answer_opened-answer.new.self = subst (λ (z : State). GoesBack z c.answer_opened-answer.new.self) c.begin-around.ensures.began c.answer_opened-answer.ensures.goes_back in
    let undone : c.end.new.self ≡ restored c.args.self.now c.answer_opened-answer.new.self =
    c.end.ensures ∙ ap (λ (z : State). record z { mark = c.begin-around.result }) (c.rollback.ensures.undone (begun c.args.self.now) c.snapshot-before.ensures back)
    ∙ ap (λ m. record (restored (begun c.args.self.now) c.answer_opened-answer.new.self) { mark = m }) c.begin-around.ensures.around in
    undone ∙ sym (ap (restored c.args.self.now) undone)

pub merge_opened-returns-clause-goes_back : goal.merge_opened-returns-clause-goes_back
merge_opened-returns-clause-goes_back t c =
    let back : GoesBack (begun c.args.self.now) c.answer_opened-answer.new.self = subst (λ (z : State). GoesBack z c.answer_opened-answer.new.self) c.begin-around.ensures.began c.answer_opened-answer.ensures.goes_back in
    let undone : c.end.new.self ≡ restored c.args.self.now c.answer_opened-answer.new.self =
    c.end.ensures ∙ ap (λ (z : State). record z { mark = c.begin-around.result }) (c.rollback.ensures.undone (begun c.args.self.now) c.snapshot-before.ensures back)
    ∙ ap (λ m. record (restored (begun c.args.self.now) c.answer_opened-answer.new.self) { mark = m }) c.begin-around.ensures.around in
    subst (GoesBack c.args.self.now) (sym undone) (goes_back-tried c.args.self.now c.answer_opened-answer.new.self back)

pub merge_opened-returns-clause-fault : goal.merge_opened-returns-clause-fault
merge_opened-returns-clause-fault t c =
    let back : GoesBack (begun c.args.self.now) c.answer_opened-answer.new.self = subst (λ (z : State). GoesBack z c.answer_opened-answer.new.self) c.begin-around.ensures.began c.answer_opened-answer.ensures.goes_back in
    let undone : c.end.new.self ≡ restored c.args.self.now c.answer_opened-answer.new.self =
    c.end.ensures ∙ ap (λ (z : State). record z { mark = c.begin-around.result }) (c.rollback.ensures.undone (begun c.args.self.now) c.snapshot-before.ensures back)
    ∙ ap (λ m. record (restored (begun c.args.self.now) c.answer_opened-answer.new.self) { mark = m }) c.begin-around.ensures.around in
    after-fault c.args.self.now c.end.new.self c.answer_opened-answer.result c.or_undecided.result
    (fault-tried c.args.self.now c.begin-around.new.self c.answer_opened-answer.new.self c.end.new.self c.answer_opened-answer.result c.begin-around.ensures.began undone c.answer_opened-answer.ensures.fault) c.or_undecided.ensures.after

pub answer_opened-returns-in_err-found-clause-by : goal.answer_opened-returns-in_err-found-clause-by
answer_opened-returns-in_err-found-clause-by t c =
    handed-on c.from_residual.result c.in_err-found.field-0.0 (λ (r : Result (Option Response) Fault). WhenTried r (InTrial (formed_as c.args.asked) (asked_environment c.args.asked) c.args.alias c.args.self.now r c.form_of_open.new.self)) c.from_residual.ensures.1
    (form-refused (formed_as c.args.asked) (asked_environment c.args.asked) c.args.alias c.args.self.now c.form_of_open.new.self c.in_err-found.field-0.0 (subst (λ (es : List Clause). OpensFrom answers_term es (erased (tree_of_alias c.args.alias)) c.args.self.now (Err c.in_err-found.field-0.0) c.form_of_open.new.self) c.environment_of.ensures c.in_err-found.ensures.opens) c.form_of_open.ensures.alone (asked-refused c.args.asked c.in_err-found.field-0.0 c.form_of_open.new.self))

pub answer_opened-returns-in_default-clause-by : goal.answer_opened-returns-in_default-clause-by
answer_opened-returns-in_default-clause-by t c =
    form-passed (formed_as c.args.asked) (asked_environment c.args.asked) c.args.alias c.args.self.now c.form_of_open.new.self c.in_ok-found.found (subst (λ (es : List Clause). OpensFrom answers_term es (erased (tree_of_alias c.args.alias)) c.args.self.now (Ok c.in_ok-found.found) c.form_of_open.new.self) c.environment_of.ensures c.in_ok-found.ensures.opens) c.form_of_open.ensures.alone
    (asked-passed c.args.asked _ c.form_of_open.new.self c.in_ok-found.found c.in_ok-rules.field-0 c.self.view_is (none-left _ c.in_default.not-Some) c.in_ok-rules.ensures.rules)

pub answer_opened-returns-in_err-answer-clause-by : goal.answer_opened-returns-in_err-answer-clause-by
answer_opened-returns-in_err-answer-clause-by t c =
    handed-on c.from_residual-in_err-answer.result c.in_err-answer.field-0.0 (λ (r : Result (Option Response) Fault). WhenTried r (InTrial (formed_as c.args.asked) (asked_environment c.args.asked) c.args.alias c.args.self.now r c.merge_formed.new.self)) c.from_residual-in_err-answer.ensures.1
    (merge-refused (formed_as c.args.asked) (λ x. DecidesBy c.in-Some.rules c.form_of_open.new.self x c.merge_formed.new.self) (asked_environment c.args.asked) c.args.alias c.args.self.now c.form_of_open.new.self c.merge_formed.new.self c.in_ok-found.found c.merge_formed.result c.in_err-answer.field-0.0 c.in_err-answer.was (subst (λ (es : List Clause). OpensFrom answers_term es (erased (tree_of_alias c.args.alias)) c.args.self.now (Ok c.in_ok-found.found) c.form_of_open.new.self) c.environment_of.ensures c.in_ok-found.ensures.opens) c.form_of_open.ensures.alone c.merge_formed.ensures.decides
    (λ d. asked-shown c.args.asked _ c.form_of_open.new.self c.in_ok-found.found c.in_ok-rules.field-0 c.in-Some.rules (Err c.in_err-answer.field-0.0) c.merge_formed.new.self (Err c.in_err-answer.field-0.0) c.merge_formed.new.self
    c.self.view_is c.in-Some.is c.in_ok-rules.ensures.rules d (refl, refl)))

pub answer_opened-returns-clause-by : goal.answer_opened-returns-clause-by
answer_opened-returns-clause-by t c =
    merge-answered (formed_as c.args.asked) (λ x. DecidesBy c.in-Some.rules c.form_of_open.new.self x c.merge_formed.new.self) (asked_environment c.args.asked) c.args.alias c.args.self.now c.form_of_open.new.self c.merge_formed.new.self c.beside.new.self c.in_ok-found.found c.merge_formed.result c.in_ok-answer.answer c.beside.result c.in_ok-answer.was (subst (λ (es : List Clause). OpensFrom answers_term es (erased (tree_of_alias c.args.alias)) c.args.self.now (Ok c.in_ok-found.found) c.form_of_open.new.self) c.environment_of.ensures c.in_ok-found.ensures.opens) c.form_of_open.ensures.alone c.merge_formed.ensures.decides c.beside.ensures.beside c.beside.ensures.only_memory
    (λ x b d. asked-shown c.args.asked _ c.form_of_open.new.self c.in_ok-found.found c.in_ok-rules.field-0 c.in-Some.rules (Ok c.in_ok-answer.answer) c.merge_formed.new.self (Ok (Some x)) c.beside.new.self
    c.self.view_is c.in-Some.is c.in_ok-rules.ensures.rules d (x, b, refl))

pub answer_opened-returns-in_err-answer-clause-goes_back : goal.answer_opened-returns-in_err-answer-clause-goes_back
answer_opened-returns-in_err-answer-clause-goes_back t c =
    goes_back-through c.args.self.now c.form_of_open.new.self c.merge_formed.new.self c.form_of_open.ensures.goes_back c.merge_formed.ensures.goes_back

pub answer_opened-returns-clause-goes_back : goal.answer_opened-returns-clause-goes_back
answer_opened-returns-clause-goes_back t c =
    goes_back-through c.args.self.now c.merge_formed.new.self c.beside.new.self (goes_back-through c.args.self.now c.form_of_open.new.self c.merge_formed.new.self c.form_of_open.ensures.goes_back c.merge_formed.ensures.goes_back) c.beside.ensures.goes_back

pub answer_opened-returns-in_err-answer-clause-fault : goal.answer_opened-returns-in_err-answer-clause-fault
answer_opened-returns-in_err-answer-clause-fault t c =
    handed-on c.from_residual-in_err-answer.result c.in_err-answer.field-0.0 (λ (r : Result (Option Response) Fault). IsFaultFor c.args.self.now c.merge_formed.new.self r) c.from_residual-in_err-answer.ensures.1
    (fault-before Response (Option Response) c.args.self.now c.form_of_open.new.self c.merge_formed.new.self c.in_err-answer.field-0.0 c.form_of_open.ensures.goes_back c.in_err-answer.ensures.fault)

pub merge_trait-returns-in-None-clause-merges : goal.merge_trait-returns-in-None-clause-merges
merge_trait-returns-in-None-clause-merges t c =
    left-or_opened trait_kind c.args.goal.now c.args.self.now c.considered_rules.new.self c.merge_open.new.self c.merge_open.result
    (subst (λ o. ConsidersRules trait_kind c.args.goal.now c.args.self.now o c.considered_rules.new.self) c.in-None.is c.in_ok-considered_rules.ensures.considers) c.considered_rules.ensures.unchanged
    c.merge_open.ensures.unchanged c.merge_open.ensures.undecided c.merge_open.ensures.opened

pub merge_alias-returns-in-None-clause-merges : goal.merge_alias-returns-in-None-clause-merges
merge_alias-returns-in-None-clause-merges t c =
    left-or_opened-through alias_kind c.args.goal.now.predicate c.args.class c.args.goal.now c.args.self.now c.considered_groups.new.self c.merge_open.new.self c.merge_open.result
    (subst (λ o. ConsidersGroups alias_kind c.args.class c.args.goal.now c.args.self.now o c.considered_groups.new.self) c.in-None.is c.in_ok-considered_groups.ensures.considers) c.considered_groups.ensures.unchanged
    c.merge_open.ensures.unchanged c.merge_open.ensures.undecided c.merge_open.ensures.opened

pub evaluate_open_alias-rollback-requires : goal.evaluate_open_alias-rollback-requires
evaluate_open_alias-rollback-requires t c =
    record { valid = (c.args.self.now, c.snapshot-before.ensures, c.expected_form-answered.ensures.goes_back, c.holds_together.ensures) }

pub evaluate_open_alias-returns-then-not-is_sure-clause-unchanged : goal.evaluate_open_alias-returns-then-not-is_sure-clause-unchanged
evaluate_open_alias-returns-then-not-is_sure-clause-unchanged t c =
    λ unsure. restored-itself c.args.self.now c.expected_form-answered.new.self c.rollback.new.self (c.rollback.ensures.undone c.args.self.now c.snapshot-before.ensures c.expected_form-answered.ensures.goes_back)

pub evaluate_open_alias-returns-then-not-is_sure-clause-alone : goal.evaluate_open_alias-returns-then-not-is_sure-clause-alone
evaluate_open_alias-returns-then-not-is_sure-clause-alone t c =
    restored-records c.args.self.now c.rollback.new.self (restored-itself c.args.self.now c.expected_form-answered.new.self c.rollback.new.self (c.rollback.ensures.undone c.args.self.now c.snapshot-before.ensures c.expected_form-answered.ensures.goes_back))

pub evaluate_open_alias-returns-then-not-is_sure-clause-faults : goal.evaluate_open_alias-returns-then-not-is_sure-clause-faults
evaluate_open_alias-returns-then-not-is_sure-clause-faults t c =
    undone-faults c.args.self.now c.expected_form-answered.new.self c.rollback.new.self c.expected_form-answered.ensures.goes_back c.expected_form-answered.ensures.faults (c.rollback.ensures.undone c.args.self.now c.snapshot-before.ensures c.expected_form-answered.ensures.goes_back)

pub evaluate_open_alias-returns-then-not-is_sure-clause-goes_back : goal.evaluate_open_alias-returns-then-not-is_sure-clause-goes_back
evaluate_open_alias-returns-then-not-is_sure-clause-goes_back t c =
    subst (GoesBack c.args.self.now) (sym (c.rollback.ensures.undone c.args.self.now c.snapshot-before.ensures c.expected_form-answered.ensures.goes_back)) (goes_back-restored c.args.self.now c.expected_form-answered.new.self c.expected_form-answered.ensures.goes_back)

pub evaluate_open_alias-returns-then-not-is_sure-clause-fault : goal.evaluate_open_alias-returns-then-not-is_sure-clause-fault
evaluate_open_alias-returns-then-not-is_sure-clause-fault t c =
    undone-fault Certainty c.args.self.now c.expected_form-answered.new.self c.rollback.new.self c.expected_form-answered.result (c.rollback.ensures.undone c.args.self.now c.snapshot-before.ensures c.expected_form-answered.ensures.goes_back) c.expected_form-answered.ensures.fault

pub evaluate_open_alias-returns-else-not-is_sure-clause-unchanged : goal.evaluate_open_alias-returns-else-not-is_sure-clause-unchanged
evaluate_open_alias-returns-else-not-is_sure-clause-unchanged t c =
    λ unsure. absurd (false≢true (sym unsure ∙ sym c.is_sure.ensures ∙ c.if-not-is_sure.false))

pub expected_form-returns-in_default-clause-goes_back : goal.expected_form-returns-in_default-clause-goes_back
expected_form-returns-in_default-clause-goes_back t c =
    goes_back-same c.args.self.now

pub expected_form-returns-clause-alone : goal.expected_form-returns-clause-alone
expected_form-returns-clause-alone t c =
    records-through c.args.self.now c.expect_term-outcome.new.self c.verdict.new.self (records-through c.args.self.now c.form_once.new.self c.expect_term-outcome.new.self c.form_once.ensures.alone c.expect_term-outcome.ensures.alone) (restored-records c.expect_term-outcome.new.self c.verdict.new.self c.verdict.ensures.unchanged)

pub expected_form-returns-clause-faults : goal.expected_form-returns-clause-faults
expected_form-returns-clause-faults t c =
    ap (λ (s : State). uncaused s.tables s.delayed_faults) c.verdict.ensures.alone ∙ c.expect_term-outcome.ensures.faults ∙ c.form_once.ensures.faults

pub expected_form-returns-clause-goes_back : goal.expected_form-returns-clause-goes_back
expected_form-returns-clause-goes_back t c =
    goes_back-through c.args.self.now c.expect_term-outcome.new.self c.verdict.new.self (goes_back-through c.args.self.now c.form_once.new.self c.expect_term-outcome.new.self c.form_once.ensures.goes_back c.expect_term-outcome.ensures.goes_back) c.verdict.ensures.goes_back

pub expected_form-returns-clause-fault : goal.expected_form-returns-clause-fault
expected_form-returns-clause-fault t c =
    fault-later c.args.self.now c.expect_term-outcome.new.self c.verdict.new.self c.verdict.result (goes_back-through c.args.self.now c.form_once.new.self c.expect_term-outcome.new.self c.form_once.ensures.goes_back c.expect_term-outcome.ensures.goes_back) c.verdict.ensures.fault

pub ask_goal-rollback-requires : goal.ask_goal-rollback-requires
ask_goal-rollback-requires t c =
    record { valid = (c.args.self.now, c.snapshot-before.ensures, c.evaluate_goal-answered.ensures.goes_back, c.holds_together.ensures) }

pub ask_goal-returns-then-not-is_sure-clause-answer : goal.ask_goal-returns-then-not-is_sure-clause-answer
ask_goal-returns-then-not-is_sure-clause-answer t c = λ m owed.
    c.evaluate_goal-answered.ensures.answer m
    (restored-owed c.args.self.now c.evaluate_goal-answered.new.self c.rollback.new.self m (c.rollback.ensures.undone c.args.self.now c.snapshot-before.ensures c.evaluate_goal-answered.ensures.goes_back) c.evaluate_goal-answered.ensures.goes_back owed)

pub ask_goal-returns-then-not-is_sure-clause-unchanged : goal.ask_goal-returns-then-not-is_sure-clause-unchanged
ask_goal-returns-then-not-is_sure-clause-unchanged t c =
    λ unsure. restored-itself c.args.self.now c.evaluate_goal-answered.new.self c.rollback.new.self (c.rollback.ensures.undone c.args.self.now c.snapshot-before.ensures c.evaluate_goal-answered.ensures.goes_back)

pub ask_goal-returns-then-not-is_sure-clause-alone : goal.ask_goal-returns-then-not-is_sure-clause-alone
ask_goal-returns-then-not-is_sure-clause-alone t c =
    restored-records c.args.self.now c.rollback.new.self (restored-itself c.args.self.now c.evaluate_goal-answered.new.self c.rollback.new.self (c.rollback.ensures.undone c.args.self.now c.snapshot-before.ensures c.evaluate_goal-answered.ensures.goes_back))

pub ask_goal-returns-then-not-is_sure-clause-faults : goal.ask_goal-returns-then-not-is_sure-clause-faults
ask_goal-returns-then-not-is_sure-clause-faults t c =
    undone-faults c.args.self.now c.evaluate_goal-answered.new.self c.rollback.new.self c.evaluate_goal-answered.ensures.goes_back c.evaluate_goal-answered.ensures.faults (c.rollback.ensures.undone c.args.self.now c.snapshot-before.ensures c.evaluate_goal-answered.ensures.goes_back)

pub ask_goal-returns-then-not-is_sure-clause-goes_back : goal.ask_goal-returns-then-not-is_sure-clause-goes_back
ask_goal-returns-then-not-is_sure-clause-goes_back t c =
    subst (GoesBack c.args.self.now) (sym (c.rollback.ensures.undone c.args.self.now c.snapshot-before.ensures c.evaluate_goal-answered.ensures.goes_back)) (goes_back-restored c.args.self.now c.evaluate_goal-answered.new.self c.evaluate_goal-answered.ensures.goes_back)

pub ask_goal-returns-then-not-is_sure-clause-fault : goal.ask_goal-returns-then-not-is_sure-clause-fault
ask_goal-returns-then-not-is_sure-clause-fault t c =
    undone-fault Certainty c.args.self.now c.evaluate_goal-answered.new.self c.rollback.new.self c.evaluate_goal-answered.result (c.rollback.ensures.undone c.args.self.now c.snapshot-before.ensures c.evaluate_goal-answered.ensures.goes_back) c.evaluate_goal-answered.ensures.fault

pub ask_goal-returns-else-not-is_sure-clause-unchanged : goal.ask_goal-returns-else-not-is_sure-clause-unchanged
ask_goal-returns-else-not-is_sure-clause-unchanged t c =
    λ unsure. absurd (false≢true (sym unsure ∙ sym c.is_sure.ensures ∙ c.if-not-is_sure.false))

pub ask_alone-returns-in_default-clause-goes_back : goal.ask_alone-returns-in_default-clause-goes_back
ask_alone-returns-in_default-clause-goes_back t c = goes_back-same c.args.self.now

pub ask_alone-returns-clause-answers : goal.ask_alone-returns-clause-answers
ask_alone-returns-clause-answers t c =
    asked-alone c.args.environment.now c.args.clause.now c.args.self.now c.ask_goal.new.self c.in-Ok.goal c.ask_goal.result c.in-Ok.ensures c.ask_goal.ensures.answer c.ask_goal.ensures.alone
    c.ask_goal.ensures.unchanged c.ask_goal.ensures.goes_back

pub give_chosen-returns-in-Ok-Yes-clause-chooses : goal.give_chosen-returns-in-Ok-Yes-clause-chooses
give_chosen-returns-in-Ok-Yes-clause-chooses t c =
    chooses-held c.args.environment.now (tree_of_term c.args.expected.now) c.args.clause.now (tree_of_term c.args.held.now) (tree_of_term c.args.refuted.now) c.args.self.now c.ask_alone.new.self c.equate_terms.new.self c.equate_terms.result
    (subst (λ x. AnswersAlone c.args.environment.now c.args.clause.now c.args.self.now c.ask_alone.new.self (Ok x)) c.in-Ok-Yes.field-0-is c.in-Ok-Yes.ensures.answers) c.equate_terms.ensures.equates

pub give_chosen-returns-in-Ok-Yes-clause-refused : goal.give_chosen-returns-in-Ok-Yes-clause-refused
give_chosen-returns-in-Ok-Yes-clause-refused t c =
    refused-map c.equate_terms.result
    (λ h. inl (c.ask_alone.new.self, subst (λ x. AnswersAlone c.args.environment.now c.args.clause.now c.args.self.now c.ask_alone.new.self (Ok x)) c.in-Ok-Yes.field-0-is c.in-Ok-Yes.ensures.answers, h))
    c.equate_terms.ensures.refused

pub give_chosen-returns-in-Ok-Yes-clause-goes_back : goal.give_chosen-returns-in-Ok-Yes-clause-goes_back
give_chosen-returns-in-Ok-Yes-clause-goes_back t c =
    goes_back-through c.args.self.now c.ask_alone.new.self c.equate_terms.new.self c.ask_alone.ensures.goes_back c.equate_terms.ensures.goes_back

pub give_chosen-returns-in-Err-NoSolution-clause-chooses : goal.give_chosen-returns-in-Err-NoSolution-clause-chooses
give_chosen-returns-in-Err-NoSolution-clause-chooses t c =
    chooses-refuted c.args.environment.now (tree_of_term c.args.expected.now) c.args.clause.now (tree_of_term c.args.held.now) (tree_of_term c.args.refuted.now) c.args.self.now c.ask_alone.new.self c.equate_terms-in-Err-NoSolution.new.self c.equate_terms-in-Err-NoSolution.result
    (subst (λ f. WhenAsked (Err f) (AnswersAlone c.args.environment.now c.args.clause.now c.args.self.now c.ask_alone.new.self (Err f))) c.in-Err-NoSolution.field-0-is c.in-Err-NoSolution.ensures.answers) c.equate_terms-in-Err-NoSolution.ensures.equates

pub give_chosen-returns-in-Err-NoSolution-clause-refused : goal.give_chosen-returns-in-Err-NoSolution-clause-refused
give_chosen-returns-in-Err-NoSolution-clause-refused t c =
    refused-map c.equate_terms-in-Err-NoSolution.result
    (λ h. inr (c.ask_alone.new.self, subst (λ f. WhenAsked (Err f) (AnswersAlone c.args.environment.now c.args.clause.now c.args.self.now c.ask_alone.new.self (Err f))) c.in-Err-NoSolution.field-0-is c.in-Err-NoSolution.ensures.answers, h)) c.equate_terms-in-Err-NoSolution.ensures.refused

pub step_or_evaluate-returns-in_ok-certainty-in-Term-clause-steps : goal.step_or_evaluate-returns-in_ok-certainty-in-Term-clause-steps
step_or_evaluate-returns-in_ok-certainty-in-Term-clause-steps t c =
    term-step c.args.environment.now c.args.entry.now c.in-Term.expected c.in-Term.term c.args.self.now (open_progress c.args.run.now) c.give_term.new.self (open_progress c.join.new.self)
    c.in_ok-certainty-in-Term.certainty c.in-Term.is
    (subst (λ ns. GivesTerm c.args.environment.now (named_trees ns) (tree_of_term c.in-Term.expected) c.in-Term.term c.args.self.now c.in_ok-certainty-in-Term.certainty c.give_term.new.self)
    c.deref.ensures.value c.in_ok-certainty-in-Term.ensures.gives)
    c.join.ensures

pub step_or_evaluate-returns-in_err-certainty-in-Term-clause-refused : goal.step_or_evaluate-returns-in_err-certainty-in-Term-clause-refused
step_or_evaluate-returns-in_err-certainty-in-Term-clause-refused t c =
    refused-on _ c.from_residual.result c.in_err-certainty-in-Term.field-0.0 c.from_residual.ensures.1
    (λ is. term-refused c.args.environment.now c.args.entry.now c.in-Term.expected c.in-Term.term c.args.self.now (open_progress c.args.run.now) c.give_term.new.self c.in-Term.is
    (subst (λ ns. RefusesTerm c.args.environment.now (named_trees ns) (tree_of_term c.in-Term.expected) c.in-Term.term c.args.self.now c.give_term.new.self)
    c.deref.ensures.value (c.in_err-certainty-in-Term.ensures.refused is)))

pub step_or_evaluate-returns-in_ok-certainty-in-Term-clause-listed : goal.step_or_evaluate-returns-in_ok-certainty-in-Term-clause-listed
step_or_evaluate-returns-in_ok-certainty-in-Term-clause-listed t c =
    step-caused c.args.self.now c.give_term.new.self (c.args.entry.now ∷ []) c.give_term.ensures.goes_back c.give_term.ensures.faults

pub step_or_evaluate-returns-in_err-certainty-in-Term-clause-listed : goal.step_or_evaluate-returns-in_err-certainty-in-Term-clause-listed
step_or_evaluate-returns-in_err-certainty-in-Term-clause-listed t c =
    step-caused c.args.self.now c.give_term.new.self (c.args.entry.now ∷ []) c.give_term.ensures.goes_back c.give_term.ensures.faults

pub give_term-returns-in-ChosenBy-clause-gives : goal.give_term-returns-in-ChosenBy-clause-gives
give_term-returns-in-ChosenBy-clause-gives t c =
    chosen-given c.args.environment.now (named_trees c.args.named.now) (tree_of_term c.args.expected.now) c.args.term.now c.in-ChosenBy.clause c.in-ChosenBy.held c.in-ChosenBy.refuted c.args.self.now c.give_chosen.new.self
    c.give_chosen.result c.in-ChosenBy.is c.give_chosen.ensures.chooses

pub give_term-returns-in-ChosenBy-clause-refused : goal.give_term-returns-in-ChosenBy-clause-refused
give_term-returns-in-ChosenBy-clause-refused t c =
    refused-map c.give_chosen.result
    (chosen-refused c.args.environment.now (named_trees c.args.named.now) (tree_of_term c.args.expected.now) c.args.term.now c.in-ChosenBy.clause c.in-ChosenBy.held c.in-ChosenBy.refuted c.args.self.now c.give_chosen.new.self c.in-ChosenBy.is)
    c.give_chosen.ensures.refused

pub merge_formed-returns-in-Projection-clause-decides : goal.merge_formed-returns-in-Projection-clause-decides
merge_formed-returns-in-Projection-clause-decides t c =
    subst (λ (w : FormedRules). WhenAnswered c.merge_groups.result (DecidesBy w c.args.self.now c.merge_groups.result c.merge_groups.new.self)) (sym c.in-Projection.is) c.merge_groups.ensures.decides

pub step_or_evaluate-returns-in_ok-found-in-Arguments-clause-steps : goal.step_or_evaluate-returns-in_ok-found-in-Arguments-clause-steps
step_or_evaluate-returns-in_ok-found-in-Arguments-clause-steps t c =
    on_ok-map c.name.result
    (λ after. arguments-step c.args.environment.now c.args.entry.now c.in-Arguments.arguments c.args.self.now (open_progress c.args.run.now) c.name_arguments.new.self (open_progress c.name.new.self)
    (trees_of c.in_ok-found-in-Arguments.found.args.items) c.in_ok-found-in-Arguments.found.certainty c.in-Arguments.is
    (subst (λ ns. NamesArguments c.args.environment.now (named_trees ns) c.in-Arguments.arguments c.args.self.now (trees_of c.in_ok-found-in-Arguments.found.args.items) c.in_ok-found-in-Arguments.found.certainty c.name_arguments.new.self)
    c.deref-in-Arguments.ensures.value c.in_ok-found-in-Arguments.ensures.names)
    after)
    c.name.ensures.named

pub step_or_evaluate-returns-in_err-found-in-Arguments-clause-refused : goal.step_or_evaluate-returns-in_err-found-in-Arguments-clause-refused
step_or_evaluate-returns-in_err-found-in-Arguments-clause-refused t c =
    refused-on _ c.from_residual-in_err-found-in-Arguments.result c.in_err-found-in-Arguments.field-0.0 c.from_residual-in_err-found-in-Arguments.ensures.1
    (λ is. arguments-refused c.args.environment.now c.args.entry.now c.in-Arguments.arguments c.args.self.now (open_progress c.args.run.now) c.name_arguments.new.self c.in-Arguments.is
    (subst (λ ns. RefusesArguments c.args.environment.now (named_trees ns) c.in-Arguments.arguments c.args.self.now c.name_arguments.new.self) c.deref-in-Arguments.ensures.value
    (c.in_err-found-in-Arguments.ensures.refused is)))

pub step_or_evaluate-returns-in_ok-found-in-Arguments-clause-refused : goal.step_or_evaluate-returns-in_ok-found-in-Arguments-clause-refused
step_or_evaluate-returns-in_ok-found-in-Arguments-clause-refused t c = memory-only _ c.name.result c.name.ensures.only_memory

pub step_or_evaluate-returns-in_ok-found-in-Arguments-clause-listed : goal.step_or_evaluate-returns-in_ok-found-in-Arguments-clause-listed
step_or_evaluate-returns-in_ok-found-in-Arguments-clause-listed t c =
    step-caused c.args.self.now c.name_arguments.new.self (c.args.entry.now ∷ []) c.name_arguments.ensures.goes_back c.name_arguments.ensures.faults

pub step_or_evaluate-returns-in_err-found-in-Arguments-clause-listed : goal.step_or_evaluate-returns-in_err-found-in-Arguments-clause-listed
step_or_evaluate-returns-in_err-found-in-Arguments-clause-listed t c =
    step-caused c.args.self.now c.name_arguments.new.self (c.args.entry.now ∷ []) c.name_arguments.ensures.goes_back c.name_arguments.ensures.faults

pub answer_below-returns-in_err-param_env-clause-goes_back : goal.answer_below-returns-in_err-param_env-clause-goes_back
answer_below-returns-in_err-param_env-clause-goes_back t c = goes_back-same c.args.self.now

pub form_below-returns-then-not-contains-clause-goes_back : goal.form_below-returns-then-not-contains-clause-goes_back
form_below-returns-then-not-contains-clause-goes_back t c = goes_back-same c.args.self.now

pub form_below-returns-in_err-asked-clause-goes_back : goal.form_below-returns-in_err-asked-clause-goes_back
form_below-returns-in_err-asked-clause-goes_back t c = goes_back-same c.args.self.now

pub form_below-returns-in_default-clause-goes_back : goal.form_below-returns-in_default-clause-goes_back
form_below-returns-in_default-clause-goes_back t c = goes_back-same c.args.self.now

pub form_below-rollback-requires : goal.form_below-rollback-requires
form_below-rollback-requires t c =
    record { valid = (c.args.self.now, c.snapshot-before.ensures, back-at_depth _ c.args.self.now _ c.form_once-form.new.self _ c.self.inside.remaining_depth c.self.view_is c.self-2.view_is refl c.form_once-form.ensures.goes_back, c.holds_together.ensures) }

pub form_below-returns-then-not-is_known-clause-refused : goal.form_below-returns-then-not-is_known-clause-refused
form_below-returns-then-not-is_known-clause-refused t c =
    let back : GoesBack c.args.self.now _ = back-at_depth _ c.args.self.now _ c.form_once-form.new.self _ c.self.inside.remaining_depth c.self.view_is c.self-2.view_is refl c.form_once-form.ensures.goes_back in
    refused-always _ c.form_once-form.result
    (lacks-open c.args.environment.now c.args.depth (tree_at c.args.self.now.terms c.args.alias) c.args.self.now c.rollback.new.self (open-not_closed _ _ c.if-not-is_open.false c.is_open.ensures)
    (subst (GoesBack c.args.self.now) (sym (c.rollback.ensures.undone c.args.self.now c.snapshot-before.ensures back)) (goes_back-restored c.args.self.now _ back)))

pub form_below-returns-then-not-is_known-clause-goes_back : goal.form_below-returns-then-not-is_known-clause-goes_back
form_below-returns-then-not-is_known-clause-goes_back t c =
    let back : GoesBack c.args.self.now _ = back-at_depth _ c.args.self.now _ c.form_once-form.new.self _ c.self.inside.remaining_depth c.self.view_is c.self-2.view_is refl c.form_once-form.ensures.goes_back in
    subst (GoesBack c.args.self.now) (sym (c.rollback.ensures.undone c.args.self.now c.snapshot-before.ensures back)) (goes_back-restored c.args.self.now _ back)

pub form_below-returns-else-not-is_known-clause-none : goal.form_below-returns-else-not-is_known-clause-none
form_below-returns-else-not-is_known-clause-none t c = λ none. absurd (true≢false (sym c.if-not-is_known.false ∙ c.is_known.ensures ∙ ap is_known none))

pub open_level-loop-i-init : goal.open_level-loop-i-init
open_level-loop-i-init t c = record {
  opens = opens-none c.args.environment.now (trees_seen c.args.terms) (trees_at c.args.self.now.terms c.args.opened.now.ids.items) c.args.self.now;
  within = c.requires.within;
  faults = refl;
  back = goes_back-same c.args.self.now;
}

pub open_level-returns-in_err-form-clause-refused : goal.open_level-returns-in_err-form-clause-refused
open_level-returns-in_err-form-clause-refused t c =
    let alias : TermId = get_or c.args.found.now c.loop-i.i (record { 0 = 0 }) in
    refused-on _ c.from_residual.result c.in_err-form.field-0.0 c.from_residual.ensures.1
    (λ is. stops-at_one c.args.environment.now (trees_seen c.args.terms) (trees_at c.args.self.now.terms c.args.opened.now.ids.items) (trees_at c.loop-i.self.terms c.loop-i.opened.ids.items) c.args.depth
    (tree_at c.loop-i.self.terms alias) c.args.self.now c.loop-i.self c.form_below.new.self c.loop-i.invariant.opens
    (omega (arith, c.requires.depth, c.loop-i.invariant.back.remaining_depth)) (c.in_err-form.ensures.refused is))

pub open_level-returns-in_err-form-clause-goes_back : goal.open_level-returns-in_err-form-clause-goes_back
open_level-returns-in_err-form-clause-goes_back t c =
    goes_back-through c.args.self.now c.loop-i.self c.form_below.new.self c.loop-i.invariant.back c.form_below.ensures.goes_back

pub open_level-returns-in_err-enter_form-clause-refused : goal.open_level-returns-in_err-enter_form-clause-refused
open_level-returns-in_err-enter_form-clause-refused t c =
    let alias : TermId = get_or c.args.found.now c.loop-i.i (record { 0 = 0 }) in
    refused-on _ c.from_residual-in_err-enter_form.result c.in_err-enter_form.field-0.0 c.from_residual-in_err-enter_form.ensures.1
    (λ is. stops-at_one c.args.environment.now (trees_seen c.args.terms) (trees_at c.args.self.now.terms c.args.opened.now.ids.items) (trees_at c.loop-i.self.terms c.loop-i.opened.ids.items) c.args.depth
    (tree_at c.loop-i.self.terms alias) c.args.self.now c.loop-i.self c.enter_form.new.self c.loop-i.invariant.opens
    (omega (arith, c.requires.depth, c.loop-i.invariant.back.remaining_depth))
    (lacks-rigid c.args.environment.now c.args.depth (tree_at c.loop-i.self.terms alias) c.loop-i.self c.form_below.new.self c.enter_form.new.self c.in_ok-form.form c.in_ok-form.ensures.found
    c.enter_form.ensures.unchanged c.enter_form.ensures.kept (c.in_err-enter_form.ensures.refused is)))

pub open_level-returns-in_err-enter_form-clause-goes_back : goal.open_level-returns-in_err-enter_form-clause-goes_back
open_level-returns-in_err-enter_form-clause-goes_back t c =
    goes_back-through c.args.self.now c.loop-i.self c.enter_form.new.self c.loop-i.invariant.back
    (goes_back-through c.loop-i.self c.form_below.new.self c.enter_form.new.self c.form_below.ensures.goes_back (goes_back-grown c.form_below.new.self c.enter_form.new.self c.enter_form.ensures.unchanged c.enter_form.ensures.kept))

pub open_level-loop-i-preserved : goal.open_level-loop-i-preserved
open_level-loop-i-preserved t c =
    let alias : TermId = get_or c.args.found.now c.loop-i.i (record { 0 = 0 }) in
    let inside : alias.0 < length c.args.self.now.terms = c.requires.found c.loop-i.i _ c.loop-i-test.true in record {
      opens =
          opens-next c.args.environment.now (trees_seen c.args.terms) (trees_at c.args.self.now.terms c.args.opened.now.ids.items) (trees_at c.loop-i.self.terms c.loop-i.opened.ids.items)
          (trees_at c.enter_form.new.self.terms c.enter_form.new.opened.ids.items) c.args.self.now c.loop-i.self c.enter_form.new.self c.loop-i.invariant.opens
          (opens-entered c.args.environment.now (trees_seen c.args.terms) c.args.depth alias c.in_ok-form.form c.loop-i.self c.form_below.new.self c.enter_form.new.self c.loop-i.opened.ids.items
          c.enter_form.new.opened.ids.items (omega (arith, c.requires.depth, c.loop-i.invariant.back.remaining_depth)) (omega (arith, inside, c.loop-i.invariant.back.terms.longer)) c.loop-i.invariant.within
          c.in_ok-form.ensures.found (λ e. c.form_below.ensures.none (c.in_ok-form.was ∙ ap Ok e)) c.form_below.ensures.goes_back c.enter_form.ensures.unchanged c.enter_form.ensures.kept
          c.in_ok-enter_form.ensures.entered);
      within = c.in_ok-enter_form.ensures.within;
      faults = grown-faults c.form_below.new.self c.enter_form.new.self c.enter_form.ensures.unchanged ∙ c.form_below.ensures.faults ∙ c.loop-i.invariant.faults;
      back =
          goes_back-through c.args.self.now c.loop-i.self c.enter_form.new.self c.loop-i.invariant.back
          (goes_back-through c.loop-i.self c.form_below.new.self c.enter_form.new.self c.form_below.ensures.goes_back (goes_back-grown c.form_below.new.self c.enter_form.new.self c.enter_form.ensures.unchanged c.enter_form.ensures.kept));
    }

pub opened_terms-loop-level-init : goal.opened_terms-loop-level-init
opened_terms-loop-level-init t c = record {
  opens = opens-none c.args.environment.now (trees_seen c.args.terms) (trees_at c.args.self.now.terms c.args.given.items) c.args.self.now;
  last = omega (arith, ap (λ (s : State). s.remaining_depth) c.self.view_is);
  within = c.requires.given;
  faults = refl;
  back = goes_back-same c.args.self.now;
}

pub opened_terms-returns-in_err-open_level-clause-refused : goal.opened_terms-returns-in_err-open_level-clause-refused
opened_terms-returns-in_err-open_level-clause-refused t c =
    refused-on _ c.from_residual-in_err-open_level.result c.in_err-open_level.field-0.0 c.from_residual-in_err-open_level.ensures.1
    (λ is. stops-through c.args.environment.now (trees_seen c.args.terms) (trees_at c.args.self.now.terms c.args.given.items) (trees_at c.loop-level.self.terms c.loop-level.opened.ids.items) c.args.self.now c.loop-level.self
    c.open_level.new.self c.loop-level.invariant.opens (c.in_err-open_level.ensures.refused is))

pub opened_terms-returns-in_err-open_level-clause-goes_back : goal.opened_terms-returns-in_err-open_level-clause-goes_back
opened_terms-returns-in_err-open_level-clause-goes_back t c =
    goes_back-through c.args.self.now c.loop-level.self c.open_level.new.self c.loop-level.invariant.back c.open_level.ensures.goes_back

pub opened_terms-loop-level-preserved : goal.opened_terms-loop-level-preserved
opened_terms-loop-level-preserved t c = record {
  opens =
      opens-through c.args.environment.now (trees_seen c.args.terms) (trees_at c.args.self.now.terms c.args.given.items) (trees_at c.loop-level.self.terms c.loop-level.opened.ids.items)
      (trees_at c.open_level.new.self.terms c.open_level.new.opened.ids.items) c.args.self.now c.loop-level.self c.open_level.new.self c.loop-level.invariant.opens c.in_ok-open_level.ensures.opens;
  last = omega (arith, ap (λ (s : State). s.remaining_depth) c.self.view_is);
  within = c.in_ok-open_level.ensures.within;
  faults = c.open_level.ensures.faults ∙ c.loop-level.invariant.faults;
  back = goes_back-through c.args.self.now c.loop-level.self c.open_level.new.self c.loop-level.invariant.back c.open_level.ensures.goes_back;
}

pub name_arguments-returns-in_err-asked-clause-goes_back : goal.name_arguments-returns-in_err-asked-clause-goes_back
name_arguments-returns-in_err-asked-clause-goes_back t c = goes_back-grown c.args.self.now c.asked_match.new.self c.asked_match.ensures.unchanged c.asked_match.ensures.kept

pub name_arguments-returns-in_default-clause-names : goal.name_arguments-returns-in_default-clause-names
name_arguments-returns-in_default-clause-names t c =
    names-plainly c.args.environment.now (named_trees c.args.named.now) c.args.arguments.now c.args.self.now c.asked_match.new.self c.open_arguments.new.self c.open_arguments.result c.asked_match.ensures.unchanged
    c.open_arguments.ensures.goes_back c.open_arguments.ensures.names

pub name_arguments-returns-in_default-clause-refused : goal.name_arguments-returns-in_default-clause-refused
name_arguments-returns-in_default-clause-refused t c =
    refused-plainly c.args.environment.now (named_trees c.args.named.now) c.args.arguments.now c.args.self.now c.asked_match.new.self c.open_arguments.new.self c.open_arguments.result c.asked_match.ensures.unchanged
    c.open_arguments.ensures.goes_back c.open_arguments.ensures.refused

pub name_arguments-returns-in_err-ids-clause-refused : goal.name_arguments-returns-in_err-ids-clause-refused
name_arguments-returns-in_err-ids-clause-refused t c =
    refused-on _ c.from_residual-in_err-ids.result c.in_err-ids.field-0.0 c.from_residual-in_err-ids.ensures.1
    (λ is. refused-opening c.args.environment.now (named_trees c.args.named.now) c.args.arguments.now c.args.self.now c.asked_match.new.self c.in-Some.asked
    (some-asked _ _ _ c.in_ok-asked.ensures.asked c.in-Some.is) c.asked_match.ensures.unchanged c.opened_terms.new.self (c.in_err-ids.ensures.refused is))

pub name_arguments-returns-clause-names : goal.name_arguments-returns-clause-names
name_arguments-returns-clause-names t c =
    names-below c.args.environment.now (named_trees c.args.named.now) c.args.arguments.now c.args.self.now c.asked_match.new.self c.in-Some.asked (some-asked _ _ _ c.in_ok-asked.ensures.asked c.in-Some.is)
    c.asked_match.ensures.unchanged c.in-Ok.args c.in_ok-ids.ids.items _ c.opened_terms.new.self _ c.open_arguments-found.new.self c.in_ok-ids.depth c.self.inside.remaining_depth c.open_arguments-found.result
    c.in_ok-ids.ensures.depth
    (c.in-Ok.ensures ∙ ap (trees_at c.self.inside.terms) c.deref.ensures.value ∙ ap (λ (s : State). trees_at s.terms c.in_ok-ids.ids.items) c.self.view_is) c.in_ok-ids.ensures.opens c.self.view_is c.self-2.view_is
    c.open_arguments-found.ensures.goes_back c.open_arguments-found.ensures.names

pub name_arguments-returns-clause-refused : goal.name_arguments-returns-clause-refused
name_arguments-returns-clause-refused t c =
    refused-opened c.args.environment.now (named_trees c.args.named.now) c.args.arguments.now c.args.self.now c.asked_match.new.self c.in-Some.asked (some-asked _ _ _ c.in_ok-asked.ensures.asked c.in-Some.is)
    c.asked_match.ensures.unchanged c.in-Ok.args c.in_ok-ids.ids.items c.opened_terms.new.self _ c.in_ok-ids.depth c.open_arguments-found.result c.in_ok-ids.ensures.depth
    (c.in-Ok.ensures ∙ ap (trees_at c.self.inside.terms) c.deref.ensures.value ∙ ap (λ (s : State). trees_at s.terms c.in_ok-ids.ids.items) c.self.view_is) c.in_ok-ids.ensures.opens
    (said-at_depth
    (λ p q. WhenRefused c.open_arguments-found.result (RefusesNames c.args.environment.now (named_trees c.args.named.now) (arguments.Header c.in-Some.asked.header c.in-Ok.args) p q))
    _ c.opened_terms.new.self _ c.open_arguments-found.new.self c.in_ok-ids.depth c.self.inside.remaining_depth c.self.view_is c.self-2.view_is c.open_arguments-found.ensures.goes_back
    c.open_arguments-found.ensures.refused)

pub name_arguments-returns-clause-goes_back : goal.name_arguments-returns-clause-goes_back
name_arguments-returns-clause-goes_back t c =
    goes_back-through c.args.self.now c.asked_match.new.self _ (goes_back-grown c.args.self.now c.asked_match.new.self c.asked_match.ensures.unchanged c.asked_match.ensures.kept)
    (goes_back-through c.asked_match.new.self c.opened_terms.new.self _ c.opened_terms.ensures.goes_back
    (back-at_depth _ c.opened_terms.new.self _ c.open_arguments-found.new.self c.in_ok-ids.depth c.self.inside.remaining_depth c.self.view_is c.self-2.view_is refl c.open_arguments-found.ensures.goes_back))
