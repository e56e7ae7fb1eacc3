use Rattle.std.proofs.Common.{sym, ap, ◌∙◌, subst}
use Rattle.std.proofs.lemmas.Bool.{false≢true}
use Rattle.goal_lists.specs.Interned.{AreIn, erased_all}
use Rattle.goal_solver.specs.Relating.{IsRelated}
use Rattle.goal_solver.specs.Settled.{outcome_in}
use Rattle.goal_solver.specs.State.{State, kinds_of}
use Rattle.goal_solver.proofs.RelatedLemmas.{Unifies, related-no, related-settled, plain-yes, bound-same, agreed-back, changes-unified, changes-grown, mode-same}
use Rattle.goal_solver.proofs.GoingBackLemmas.{goes_back-bound, goes_back-through}
use Rattle.goal_solver.proofs.SettledLemmas.{memory-kept}
use Rattle.goal_solver.proofs.context.EvalCtxt.relate_all.Goals as goal
use Rattle.goal_solver.proofs.context.EvalCtxt.relate_all.Goals.{In_ok-unified}

unifies : (c : In_ok-unified) → Unifies c.args.self.now c.unify_lists.new.self c.args.left.now c.args.right.now c.in_ok-unified.unified
unifies c = record {
  alone = c.unify_lists.ensures.alone;
  solved = c.unify_lists.ensures.advances.solved;
  answer = c.in_ok-unified.ensures.answer;
  plain = c.in_ok-unified.ensures.plain;
  identified = c.in_ok-unified.ensures.identified;
  clash = c.in_ok-unified.ensures.clash;
  closed = c.unify_lists.ensures.closed;
}

pub returns-in_err-unified-clause-agreed : goal.returns-in_err-unified-clause-agreed
returns-in_err-unified-clause-agreed c =
    agreed-back c.args.self.now c.unify_lists.new.self c.holds_together.ensures (goes_back-bound c.args.self.now c.unify_lists.new.self c.unify_lists.ensures.alone c.unify_lists.ensures.advances.goes_back)

pub returns-in_err-unified-clause-alone : goal.returns-in_err-unified-clause-alone
returns-in_err-unified-clause-alone c = changes-unified c.args.self.now c.unify_lists.new.self c.unify_lists.ensures.alone

pub returns-in_err-unified-clause-goes_back : goal.returns-in_err-unified-clause-goes_back
returns-in_err-unified-clause-goes_back c = goes_back-bound c.args.self.now c.unify_lists.new.self c.unify_lists.ensures.alone c.unify_lists.ensures.advances.goes_back

pub returns-then-is_no-clause-related : goal.returns-then-is_no-clause-related
returns-then-is_no-clause-related c =
    related-no c.args.self.now c.unify_lists.new.self c.args.environment.now c.args.depth c.args.left.now c.args.right.now c.in_ok-unified.unified (c.is_no.ensures.0 c.if-is_no.true)
    (unifies (goal.at.returns-then-is_no-clause-related c).In_ok-unified)
    (agreed-back c.args.self.now c.unify_lists.new.self c.holds_together.ensures (goes_back-bound c.args.self.now c.unify_lists.new.self c.unify_lists.ensures.alone c.unify_lists.ensures.advances.goes_back))

pub returns-then-is_no-clause-agreed : goal.returns-then-is_no-clause-agreed
returns-then-is_no-clause-agreed c =
    agreed-back c.args.self.now c.unify_lists.new.self c.holds_together.ensures (goes_back-bound c.args.self.now c.unify_lists.new.self c.unify_lists.ensures.alone c.unify_lists.ensures.advances.goes_back)

pub returns-then-is_no-clause-alone : goal.returns-then-is_no-clause-alone
returns-then-is_no-clause-alone c = changes-unified c.args.self.now c.unify_lists.new.self c.unify_lists.ensures.alone

pub returns-then-is_no-clause-goes_back : goal.returns-then-is_no-clause-goes_back
returns-then-is_no-clause-goes_back c = goes_back-bound c.args.self.now c.unify_lists.new.self c.unify_lists.ensures.alone c.unify_lists.ensures.advances.goes_back

pub relate_followed-requires-clause-first : goal.relate_followed-requires-clause-first
relate_followed-requires-clause-first c = subst (λ (s : State). AreIn s.terms c.args.left.now) (sym c.unify_lists.ensures.alone) c.requires.first

pub relate_followed-requires-clause-second : goal.relate_followed-requires-clause-second
relate_followed-requires-clause-second c = subst (λ (s : State). AreIn s.terms c.args.right.now) (sym c.unify_lists.ensures.alone) c.requires.second

pub returns-in_err-settled-clause-agreed : goal.returns-in_err-settled-clause-agreed
returns-in_err-settled-clause-agreed c =
    agreed-back c.args.self.now c.relate_followed.new.self c.holds_together.ensures
    (goes_back-through c.args.self.now c.unify_lists.new.self c.relate_followed.new.self (goes_back-bound c.args.self.now c.unify_lists.new.self c.unify_lists.ensures.alone c.unify_lists.ensures.advances.goes_back) c.relate_followed.ensures.goes_back)

pub returns-in_err-settled-clause-alone : goal.returns-in_err-settled-clause-alone
returns-in_err-settled-clause-alone c = changes-grown c.args.self.now c.unify_lists.new.self c.relate_followed.new.self c.unify_lists.ensures.alone c.relate_followed.ensures.alone

pub returns-in_err-settled-clause-kinds : goal.returns-in_err-settled-clause-kinds
returns-in_err-settled-clause-kinds c = ap kinds_of c.relate_followed.ensures.alone ∙ c.unify_lists.ensures.advances.kinds

pub returns-in_err-settled-clause-goes_back : goal.returns-in_err-settled-clause-goes_back
returns-in_err-settled-clause-goes_back c =
    goes_back-through c.args.self.now c.unify_lists.new.self c.relate_followed.new.self (goes_back-bound c.args.self.now c.unify_lists.new.self c.unify_lists.ensures.alone c.unify_lists.ensures.advances.goes_back) c.relate_followed.ensures.goes_back

pub returns-in_err-settled-clause-settles : goal.returns-in_err-settled-clause-settles
returns-in_err-settled-clause-settles c = λ plain.
    let un : Unifies c.args.self.now c.unify_lists.new.self c.args.left.now c.args.right.now c.in_ok-unified.unified = unifies (goal.at.returns-in_err-settled-clause-settles c).In_ok-unified in
    memory-kept c.from_residual-in_err-settled.result c.in_err-settled.field-0.0 c.from_residual-in_err-settled.ensures.1 (c.in_err-settled.ensures.same
    (bound-same c.args.self.now c.unify_lists.new.self c.relate_followed.new.self c.args.environment.now c.args.depth c.args.left.now c.args.right.now c.in_ok-unified.unified un c.relate_followed.ensures.alone c.relate_followed.ensures.kept
    (plain-yes c.args.self.now c.unify_lists.new.self c.relate_followed.new.self c.args.environment.now c.args.depth c.args.left.now c.args.right.now c.in_ok-unified.unified un c.relate_followed.ensures.alone c.relate_followed.ensures.kept
    (λ e. false≢true (sym c.if-is_no.false ∙ c.is_no.ensures.1 e)) plain)))

pub returns-clause-related : goal.returns-clause-related
returns-clause-related c =
    subst (IsRelated c.args.self.now c.relate_followed.new.self c.args.environment.now (erased_all c.args.self.now.terms c.args.left.now) (erased_all c.args.self.now.terms c.args.right.now) c.args.depth)
    (sym (c.in_mode.ensures ∙ ap (λ m. outcome_in m c.in_ok-settled.settled) (mode-same c.args.self.now c.unify_lists.new.self c.relate_followed.new.self c.unify_lists.ensures.alone c.relate_followed.ensures.alone)))
    (related-settled c.args.self.now c.unify_lists.new.self c.relate_followed.new.self c.args.environment.now c.args.depth c.args.left.now c.args.right.now c.in_ok-unified.unified
    (unifies (goal.at.returns-clause-related c).In_ok-unified) c.relate_followed.ensures.alone c.relate_followed.ensures.kept
    (λ e. false≢true (sym c.if-is_no.false ∙ c.is_no.ensures.1 e)) c.in_ok-settled.settled c.in_ok-settled.ensures.settled c.in_ok-settled.ensures.same
    (agreed-back c.args.self.now c.relate_followed.new.self c.holds_together.ensures
    (goes_back-through c.args.self.now c.unify_lists.new.self c.relate_followed.new.self (goes_back-bound c.args.self.now c.unify_lists.new.self c.unify_lists.ensures.alone c.unify_lists.ensures.advances.goes_back) c.relate_followed.ensures.goes_back)))

pub returns-clause-agreed : goal.returns-clause-agreed
returns-clause-agreed c =
    agreed-back c.args.self.now c.relate_followed.new.self c.holds_together.ensures
    (goes_back-through c.args.self.now c.unify_lists.new.self c.relate_followed.new.self (goes_back-bound c.args.self.now c.unify_lists.new.self c.unify_lists.ensures.alone c.unify_lists.ensures.advances.goes_back) c.relate_followed.ensures.goes_back)

pub returns-clause-alone : goal.returns-clause-alone
returns-clause-alone c = changes-grown c.args.self.now c.unify_lists.new.self c.relate_followed.new.self c.unify_lists.ensures.alone c.relate_followed.ensures.alone

pub returns-clause-kinds : goal.returns-clause-kinds
returns-clause-kinds c = ap kinds_of c.relate_followed.ensures.alone ∙ c.unify_lists.ensures.advances.kinds

pub returns-clause-goes_back : goal.returns-clause-goes_back
returns-clause-goes_back c =
    goes_back-through c.args.self.now c.unify_lists.new.self c.relate_followed.new.self (goes_back-bound c.args.self.now c.unify_lists.new.self c.unify_lists.ensures.alone c.unify_lists.ensures.advances.goes_back) c.relate_followed.ensures.goes_back
