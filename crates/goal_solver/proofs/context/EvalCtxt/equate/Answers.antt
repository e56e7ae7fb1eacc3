use Rattle.std.proofs.Common.{◌≡◌, false, map, Result, Ok, Err, refl, sym, ◌∙◌, subst}
use Rattle.std.specs.Result.{OnOk, is_err}
use Rattle.goal_interner.specs.TableMeaning.{tree_at}
use Rattle.goal_solver.specs.Equating.{IsEquated, equation}
use Rattle.goal_solver.specs.GoingBack.{GoesBack}
use Rattle.goal_solver.proofs.EquatedLemmas.{equated-undone, refuted-undone, memory-undone, alone-undone, alone-through, unchanged-undone, related-equated}
use Rattle.goal_solver.proofs.GoingBackLemmas.{goes_back-restored, goes_back-through}
use Rattle.goal_solver.proofs.FaultLemmas.{accesses-faults, inferred-faults, undone-faults}
use Rattle.goal_solver.proofs.context.EvalCtxt.equate.Goals as goal

pub returns-in-Err-clause-equated : goal.returns-in-Err-clause-equated
returns-in-Err-clause-equated c =
    let undone = c.rollback.ensures.undone c.args.self.now c.snapshot-before.ensures c.in-Err.ensures.goes_back in
    equated-undone c.args.self.now c.relate_all.new.self c.rollback.new.self c.undecided_by.new.self c.args.environment.now c.args.left.now c.args.right.now c.undecided_by.result
    c.holds_together.ensures c.in-Err.ensures.goes_back undone c.undecided_by.ensures.alone c.undecided_by.ensures.goes_back c.undecided_by.ensures.ends

pub returns-then-is_refuted-clause-equated : goal.returns-then-is_refuted-clause-equated
returns-then-is_refuted-clause-equated c =
    let undone = c.rollback-then-is_refuted.ensures.undone c.args.self.now c.snapshot-before.ensures c.in-Ok.ensures.goes_back in
    refuted-undone c.args.self.now c.relate_all.new.self c.rollback-then-is_refuted.new.self c.args.environment.now c.args.left.now c.args.right.now c.remaining_depth-depth.result c.in-Ok.outcome
    c.holds_together.ensures c.in-Ok.ensures.goes_back undone c.remaining_depth-depth.ensures (c.is_refuted.ensures.0 c.if-is_refuted.true) c.in-Ok.ensures.related

pub returns-then-is_refuted-clause-goes_back : goal.returns-then-is_refuted-clause-goes_back
returns-then-is_refuted-clause-goes_back c =
    subst (GoesBack c.args.self.now) (sym (c.rollback-then-is_refuted.ensures.undone c.args.self.now c.snapshot-before.ensures c.in-Ok.ensures.goes_back))
    (goes_back-restored c.args.self.now c.relate_all.new.self c.in-Ok.ensures.goes_back)

pub rollback-requires-then-is_err : goal.rollback-requires-then-is_err
rollback-requires-then-is_err c = record {
  valid = (
    c.args.self.now,
    c.snapshot-before.ensures,
    goes_back-through c.args.self.now c.relate_all.new.self c.equate_lifetimes.new.self c.in-Ok.ensures.goes_back c.equate_lifetimes.ensures.goes_back,
    c.holds_together.ensures,
  );
}

pub returns-then-is_err-clause-equated : goal.returns-then-is_err-clause-equated
returns-then-is_err-clause-equated c =
    let back : GoesBack c.args.self.now c.equate_lifetimes.new.self = goes_back-through c.args.self.now c.relate_all.new.self c.equate_lifetimes.new.self c.in-Ok.ensures.goes_back c.equate_lifetimes.ensures.goes_back in
    memory-undone c.args.self.now c.equate_lifetimes.new.self c.rollback-then-is_err.new.self c.args.environment.now c.args.left.now c.args.right.now
    c.holds_together.ensures back (c.rollback-then-is_err.ensures.undone c.args.self.now c.snapshot-before.ensures back)

pub returns-then-is_err-clause-alone : goal.returns-then-is_err-clause-alone
returns-then-is_err-clause-alone c =
    let back : GoesBack c.args.self.now c.equate_lifetimes.new.self = goes_back-through c.args.self.now c.relate_all.new.self c.equate_lifetimes.new.self c.in-Ok.ensures.goes_back c.equate_lifetimes.ensures.goes_back in
    alone-undone c.args.self.now c.equate_lifetimes.new.self c.rollback-then-is_err.new.self c.rollback-then-is_err.new.self
    (c.rollback-then-is_err.ensures.undone c.args.self.now c.snapshot-before.ensures back) refl

pub returns-then-is_err-clause-faults : goal.returns-then-is_err-clause-faults
returns-then-is_err-clause-faults c =
    let back : GoesBack c.args.self.now c.equate_lifetimes.new.self = goes_back-through c.args.self.now c.relate_all.new.self c.equate_lifetimes.new.self c.in-Ok.ensures.goes_back c.equate_lifetimes.ensures.goes_back in
    undone-faults c.args.self.now c.equate_lifetimes.new.self c.rollback-then-is_err.new.self back
    (inferred-faults c.relate_all.new.self c.equate_lifetimes.new.self c.equate_lifetimes.ensures.alone ∙ c.in-Ok.ensures.faults)
    (c.rollback-then-is_err.ensures.undone c.args.self.now c.snapshot-before.ensures back)

pub returns-then-is_err-clause-unchanged : goal.returns-then-is_err-clause-unchanged
returns-then-is_err-clause-unchanged c =
    let back : GoesBack c.args.self.now c.equate_lifetimes.new.self = goes_back-through c.args.self.now c.relate_all.new.self c.equate_lifetimes.new.self c.in-Ok.ensures.goes_back c.equate_lifetimes.ensures.goes_back in
    unchanged-undone c.args.self.now c.equate_lifetimes.new.self c.rollback-then-is_err.new.self c.rollback-then-is_err.new.self
    (c.rollback-then-is_err.ensures.undone c.args.self.now c.snapshot-before.ensures back) refl

pub returns-then-is_err-clause-goes_back : goal.returns-then-is_err-clause-goes_back
returns-then-is_err-clause-goes_back c =
    let back : GoesBack c.args.self.now c.equate_lifetimes.new.self = goes_back-through c.args.self.now c.relate_all.new.self c.equate_lifetimes.new.self c.in-Ok.ensures.goes_back c.equate_lifetimes.ensures.goes_back in
    subst (GoesBack c.args.self.now) (sym (c.rollback-then-is_err.ensures.undone c.args.self.now c.snapshot-before.ensures back)) (goes_back-restored c.args.self.now c.equate_lifetimes.new.self back)

-- what holds of an answer that is no error
when-ok : {T E P : Type 0} (r : Result T E) → is_err r ≡ false → OnOk r P → P
when-ok (Ok x) e h = h
when-ok (Err x) e h = absurd (cc)

pub returns-clause-equated : goal.returns-clause-equated
returns-clause-equated c =
    subst (λ k. IsEquated c.args.self.now c.equate_lifetimes.new.self (equation c.args.environment.now (map (tree_at c.args.self.now.terms) c.args.left.now) (map (tree_at c.args.self.now.terms) c.args.right.now)) (Ok k))
    (sym c.certainty_of.ensures)
    (related-equated c.args.self.now c.relate_all.new.self c.equate_lifetimes.new.self c.args.environment.now c.args.left.now c.args.right.now c.remaining_depth-depth.result c.in-Ok.outcome
    c.holds_together.ensures c.holds_together-2.ensures c.requires.first c.requires.second c.remaining_depth-depth.ensures
    (λ e. let never = c.is_refuted.ensures.1 e in absurd (cc)) c.in-Ok.ensures.related c.in-Ok.ensures.goes_back
    c.equate_lifetimes.ensures.kept c.equate_lifetimes.ensures.adds c.equate_lifetimes.ensures.goes_back
    (λ same. when-ok c.equate_lifetimes.result (sym c.is_err.ensures.value ∙ c.if-is_err.false) (c.equate_lifetimes.ensures.identical same)))

pub returns-clause-goes_back : goal.returns-clause-goes_back
returns-clause-goes_back c = goes_back-through c.args.self.now c.relate_all.new.self c.equate_lifetimes.new.self c.in-Ok.ensures.goes_back c.equate_lifetimes.ensures.goes_back

pub returns-clause-alone : goal.returns-clause-alone
returns-clause-alone c = alone-through c.args.self.now c.relate_all.new.self c.equate_lifetimes.new.self c.in-Ok.ensures.alone c.equate_lifetimes.ensures.alone

pub returns-clause-faults : goal.returns-clause-faults
returns-clause-faults c = inferred-faults c.relate_all.new.self c.equate_lifetimes.new.self c.equate_lifetimes.ensures.alone ∙ c.in-Ok.ensures.faults

pub returns-in-Err-clause-alone : goal.returns-in-Err-clause-alone
returns-in-Err-clause-alone c =
    alone-undone c.args.self.now c.relate_all.new.self c.rollback.new.self c.undecided_by.new.self
    (c.rollback.ensures.undone c.args.self.now c.snapshot-before.ensures c.in-Err.ensures.goes_back) c.undecided_by.ensures.alone

pub returns-in-Err-clause-faults : goal.returns-in-Err-clause-faults
returns-in-Err-clause-faults c =
    accesses-faults c.rollback.new.self c.undecided_by.new.self c.undecided_by.ensures.alone
    ∙ undone-faults c.args.self.now c.relate_all.new.self c.rollback.new.self c.in-Err.ensures.goes_back c.in-Err.ensures.faults
    (c.rollback.ensures.undone c.args.self.now c.snapshot-before.ensures c.in-Err.ensures.goes_back)

pub returns-then-is_refuted-clause-faults : goal.returns-then-is_refuted-clause-faults
returns-then-is_refuted-clause-faults c =
    undone-faults c.args.self.now c.relate_all.new.self c.rollback-then-is_refuted.new.self c.in-Ok.ensures.goes_back c.in-Ok.ensures.faults
    (c.rollback-then-is_refuted.ensures.undone c.args.self.now c.snapshot-before.ensures c.in-Ok.ensures.goes_back)

pub returns-then-is_refuted-clause-alone : goal.returns-then-is_refuted-clause-alone
returns-then-is_refuted-clause-alone c =
    alone-undone c.args.self.now c.relate_all.new.self c.rollback-then-is_refuted.new.self c.rollback-then-is_refuted.new.self
    (c.rollback-then-is_refuted.ensures.undone c.args.self.now c.snapshot-before.ensures c.in-Ok.ensures.goes_back) refl
