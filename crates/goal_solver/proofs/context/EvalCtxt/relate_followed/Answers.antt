use Rattle.std.proofs.Common.{◌≡◌, List, inl, refl, sym, ap, ◌∙◌, subst}
use Rattle.std.specs.Prelude.{not}
use Rattle.goal_interner.specs.TableMeaning.{Keeps}
use Rattle.goal_interner.specs.declared.term_nodes.TermId.{TermId}
use Rattle.goal_infer.specs.Resolution.{IsSolved, resolution}
use Rattle.goal_lists.specs.Interned.{AreIn, erased_all}
use Rattle.goal_lists.proofs.InternedLemmas.{are_in-grown, all_same-grown}
use Rattle.goal_solver.specs.Accesses.{uncaused_faults}
use Rattle.goal_solver.specs.GoingBack.{GoesBack, restored}
use Rattle.goal_solver.specs.Relating.{all_replaced, bound_at}
use Rattle.goal_solver.specs.State.{State}
use Rattle.goal_solver.proofs.EvaluationLemmas.{interned-unchanged, interned-stops}
use Rattle.goal_solver.proofs.GoalOutcomeLemmas.{grown-goes_back, grown-goes_back_twice, grown-twice_then_back}
use Rattle.goal_solver.proofs.RelatedLemmas.{settled-owed, same-holds}
use Rattle.goal_solver.proofs.SinceMarkLemmas.{resolution-kept}
use Rattle.goal_solver.proofs.context.EvalCtxt.relate_followed.Goals as goal
use Rattle.goal_solver.proofs.context.EvalCtxt.relate_followed.Goals.{After-evaluate}

-- the bindings of a context with more terms make the same of terms
grown-bound : (a b : State) → b ≡ record a { terms = b.terms } → Keeps a.terms b.terms → IsSolved a.terms a.inference → (ids : List TermId) → AreIn a.terms ids → bound_at b ids ≡ bound_at a ids
grown-bound a b e keeps solved ids here =
    ap (λ ρ. all_replaced ρ (erased_all b.terms ids)) (ap (resolution b.terms) (ap (λ (s : State). s.inference) e) ∙ resolution-kept a.terms b.terms a.inference keeps solved)
    ∙ ap (all_replaced (resolution a.terms a.inference)) (all_same-grown a.terms b.terms keeps ids here)

-- a context with more terms has just these
grown-restored : (a b : State) → b ≡ record a { terms = b.terms } → b ≡ restored a b
grown-restored a b e = e ∙ sym (ap (λ (s : State). record a { terms = b.terms; accesses = s.accesses; delayed_faults = s.delayed_faults }) e)

grown-twice : (a b c : State) → b ≡ record a { terms = b.terms } → c ≡ record b { terms = c.terms } → c ≡ record a { terms = c.terms }
grown-twice a b c e f = f ∙ ap (λ (s : State). record s { terms = c.terms }) e

lefts : (c : After-evaluate) → erased_all c.followed_ids-2.new.self.terms c.deref.result.now ≡ bound_at c.args.self.now c.args.left.now
lefts c =
    ap (erased_all c.followed_ids-2.new.self.terms) c.deref.ensures.value
    ∙ all_same-grown c.followed_ids.new.self.terms c.followed_ids-2.new.self.terms c.followed_ids-2.ensures.kept c.in_ok-lefts.lefts.items c.in_ok-lefts.ensures.within
    ∙ c.in_ok-lefts.ensures.trees

rights : (c : After-evaluate) → erased_all c.followed_ids-2.new.self.terms c.deref-2.result.now ≡ bound_at c.args.self.now c.args.right.now
rights c =
    ap (erased_all c.followed_ids-2.new.self.terms) c.deref-2.ensures.value ∙ c.in_ok-rights.ensures.trees
    ∙ grown-bound c.args.self.now c.followed_ids.new.self c.followed_ids.ensures.unchanged c.followed_ids.ensures.kept c.holds_together.ensures.solved c.args.right.now c.requires.second

pub followed_ids-requires-2 : goal.followed_ids-requires-2
followed_ids-requires-2 c = are_in-grown c.args.self.now.terms c.followed_ids.new.self.terms c.followed_ids.ensures.kept c.args.right.now c.requires.second

pub evaluate-requires : goal.evaluate-requires
evaluate-requires c = (
  subst (AreIn c.followed_ids-2.new.self.terms) (sym c.deref.ensures.value)
      (are_in-grown c.followed_ids.new.self.terms c.followed_ids-2.new.self.terms c.followed_ids-2.ensures.kept c.in_ok-lefts.lefts.items c.in_ok-lefts.ensures.within),
  subst (AreIn c.followed_ids-2.new.self.terms) (sym c.deref-2.ensures.value) c.in_ok-rights.ensures.within,
)

pub returns-in_err-lefts-clause-goes_back : goal.returns-in_err-lefts-clause-goes_back
returns-in_err-lefts-clause-goes_back c = grown-goes_back c.args.self.now c.followed_ids.new.self c.followed_ids.ensures.unchanged c.followed_ids.ensures.kept

pub returns-in_err-rights-clause-kept : goal.returns-in_err-rights-clause-kept
returns-in_err-rights-clause-kept c =
    let back : GoesBack c.args.self.now c.followed_ids-2.new.self = grown-goes_back_twice c.args.self.now c.followed_ids.new.self c.followed_ids-2.new.self c.followed_ids.ensures.unchanged c.followed_ids-2.ensures.unchanged c.followed_ids.ensures.kept c.followed_ids-2.ensures.kept in
    back.terms

pub returns-in_err-rights-clause-alone : goal.returns-in_err-rights-clause-alone
returns-in_err-rights-clause-alone c =
    grown-restored c.args.self.now c.followed_ids-2.new.self (grown-twice c.args.self.now c.followed_ids.new.self c.followed_ids-2.new.self c.followed_ids.ensures.unchanged c.followed_ids-2.ensures.unchanged)

pub returns-in_err-rights-clause-faults : goal.returns-in_err-rights-clause-faults
returns-in_err-rights-clause-faults c =
    ap (λ (s : State). uncaused_faults s) (grown-twice c.args.self.now c.followed_ids.new.self c.followed_ids-2.new.self c.followed_ids.ensures.unchanged c.followed_ids-2.ensures.unchanged)

pub returns-in_err-rights-clause-goes_back : goal.returns-in_err-rights-clause-goes_back
returns-in_err-rights-clause-goes_back c =
    grown-goes_back_twice c.args.self.now c.followed_ids.new.self c.followed_ids-2.new.self c.followed_ids.ensures.unchanged c.followed_ids-2.ensures.unchanged c.followed_ids.ensures.kept c.followed_ids-2.ensures.kept

pub returns-clause-kept : goal.returns-clause-kept
returns-clause-kept c =
    let back : GoesBack c.args.self.now c.evaluate.new.self =
    grown-twice_then_back c.args.self.now c.followed_ids.new.self c.followed_ids-2.new.self c.evaluate.new.self c.followed_ids.ensures.unchanged c.followed_ids-2.ensures.unchanged c.followed_ids.ensures.kept c.followed_ids-2.ensures.kept c.evaluate.ensures.goes_back in
    back.terms

pub returns-clause-alone : goal.returns-clause-alone
returns-clause-alone c =
    interned-unchanged c.args.self.now c.followed_ids-2.new.self c.evaluate.new.self (grown-twice c.args.self.now c.followed_ids.new.self c.followed_ids-2.new.self c.followed_ids.ensures.unchanged c.followed_ids-2.ensures.unchanged) c.evaluate.ensures.unchanged

pub returns-clause-faults : goal.returns-clause-faults
returns-clause-faults c =
    c.evaluate.ensures.faults
    ∙ ap (λ (s : State). uncaused_faults s) (grown-twice c.args.self.now c.followed_ids.new.self c.followed_ids-2.new.self c.followed_ids.ensures.unchanged c.followed_ids-2.ensures.unchanged)

pub returns-clause-goes_back : goal.returns-clause-goes_back
returns-clause-goes_back c =
    grown-twice_then_back c.args.self.now c.followed_ids.new.self c.followed_ids-2.new.self c.evaluate.new.self c.followed_ids.ensures.unchanged c.followed_ids-2.ensures.unchanged c.followed_ids.ensures.kept c.followed_ids-2.ensures.kept c.evaluate.ensures.goes_back

pub returns-clause-settled : goal.returns-clause-settled
returns-clause-settled c =
    settled-owed c.args.self.now c.followed_ids-2.new.self c.evaluate.new.self c.args.environment.now _ c.args.depth _ _ _ _ c.evaluate.result
    (ap (λ (s : State). s.tables) (grown-twice c.args.self.now c.followed_ids.new.self c.followed_ids-2.new.self c.followed_ids.ensures.unchanged c.followed_ids-2.ensures.unchanged))
    (lefts (goal.at.returns-clause-settled c).After-evaluate) (rights (goal.at.returns-clause-settled c).After-evaluate) (ap not c.some_in_env-opens.ensures) c.evaluate.ensures.says

pub returns-clause-same : goal.returns-clause-same
returns-clause-same c = λ e.
    same-holds _ _ c.args.depth _ _ c.evaluate.result (c.evaluate.ensures.says c.evaluate.new.self.typing_mode (inl refl)) c.evaluate.ensures.memory
    (lefts (goal.at.returns-clause-same c).After-evaluate ∙ e ∙ sym (rights (goal.at.returns-clause-same c).After-evaluate))

pub returns-clause-stops : goal.returns-clause-stops
returns-clause-stops c =
    interned-stops c.args.self.now c.followed_ids-2.new.self c.evaluate.result (grown-twice c.args.self.now c.followed_ids.new.self c.followed_ids-2.new.self c.followed_ids.ensures.unchanged c.followed_ids-2.ensures.unchanged) c.evaluate.ensures.stops
