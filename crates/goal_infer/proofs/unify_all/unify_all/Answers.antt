use Rattle.std.proofs.Common.{◌≡◌, ◌+◌, ◌<◌, length, ◌∙◌, sym, subst, refl, arith}
use Rattle.goal_infer.specs.ListUnification.{AreDecidedWherePlain}
use Rattle.goal_infer.specs.Unification.{MakesSame, IsUnified}
use Rattle.goal_infer.specs.declared.unify.Unified.TheVariants.{Yes, Undecided, No}
use Rattle.goal_infer.proofs.DecisionLemmas.{no-decides}
use Rattle.goal_infer.proofs.ListLemmas.{no-lengths, identified-lengths, clash-lengths, said-none, plain-none, identified-none, untouched-none, said-all, plain-all, clash-none, plain-next, identified-next, untouched-next, clash-next}
use Rattle.goal_infer.proofs.PairLemmas.{SameBelow, said-yes, said-undecided, said-no}
use Rattle.goal_infer.proofs.UnifyLemmas.{advances-same, advances-through}
use Rattle.goal_infer.proofs.unify_all.unify_all.Goals as goal
use Rattle.goal_infer.proofs.unify_all.unify_all.Goals.{in-Yes, in-Undecided}

pub returns-then-right-count-clause-advances : goal.returns-then-right-count-clause-advances
returns-then-right-count-clause-advances c = advances-same c.args.table.now c.args.state.now c.requires.solved

pub returns-then-right-count-clause-answer : goal.returns-then-right-count-clause-answer
returns-then-right-count-clause-answer c = no-lengths c.args.table.now c.args.state.now c.args.left.now c.args.right.now c.if-right-count.true

pub returns-then-right-count-clause-plain : goal.returns-then-right-count-clause-plain
unfolding AreDecidedWherePlain
returns-then-right-count-clause-plain c = λ e. no-decides

pub returns-then-right-count-clause-identified : goal.returns-then-right-count-clause-identified
returns-then-right-count-clause-identified c = identified-lengths c.args.table.now c.args.state.now c.args.left.now c.args.right.now c.if-right-count.true

pub returns-then-right-count-clause-clash : goal.returns-then-right-count-clause-clash
returns-then-right-count-clause-clash c = clash-lengths c.args.table.now c.args.state.now c.args.left.now c.args.right.now c.if-right-count.true

pub returns-then-right-count-clause-closed : goal.returns-then-right-count-clause-closed
returns-then-right-count-clause-closed c = untouched-none c.args.table.now c.args.state.now c.args.left.now c.args.right.now

pub loop-i-init : goal.loop-i-init
loop-i-init c = record {
  advances = advances-same c.args.table.now c.args.state.now c.requires.solved;
  said = said-none c.args.table.now c.args.state.now c.args.left.now c.args.right.now;
  going = λ e. absurd (cc);
  plain = plain-none c.args.table.now c.args.state.now c.args.left.now c.args.right.now;
  identified = identified-none c.args.table.now c.args.state.now c.args.left.now c.args.right.now;
  closed = untouched-none c.args.table.now c.args.state.now c.args.left.now c.args.right.now;
}

pub returns-in_err-unify-clause-advances : goal.returns-in_err-unify-clause-advances
returns-in_err-unify-clause-advances c =
    advances-through c.args.table.now c.args.state.now c.loop-i.state c.unify.new.state c.loop-i.invariant.advances c.in_err-unify.ensures.advances

pub returns-in_err-unify-clause-closed : goal.returns-in_err-unify-clause-closed
returns-in_err-unify-clause-closed c =
    let within : c.loop-i.i < length c.args.right.now = omega arith in
    untouched-next c.args.table.now c.args.state.now c.args.left.now c.args.right.now c.loop-i.state c.unify.new.state c.loop-i.i c.loop-i-test.true within
    c.loop-i.invariant.closed c.in_err-unify.ensures.closed

pub returns-in-No-clause-advances : goal.returns-in-No-clause-advances
returns-in-No-clause-advances c =
    advances-through c.args.table.now c.args.state.now c.loop-i.state c.unify.new.state c.loop-i.invariant.advances c.in_ok-unify.ensures.advances

pub returns-in-No-clause-answer : goal.returns-in-No-clause-answer
returns-in-No-clause-answer c =
    said-all c.args.table.now c.args.state.now c.args.left.now c.args.right.now c.if-right-count.false (length c.args.left.now) refl c.unify.new.state No
    (said-no c.args.table.now c.args.state.now c.loop-i.state c.unify.new.state c.args.left.now c.args.right.now c.loop-i.i (length c.args.left.now) c.loop-i.answer
    c.loop-i-test.true c.loop-i.invariant.going c.loop-i.invariant.said
    (subst (IsUnified c.args.table.now c.loop-i.state c.unify.new.state (MakesSame c.args.table.now _ _)) c.in-No.is c.in_ok-unify.ensures.answer))

pub returns-in-No-clause-plain : goal.returns-in-No-clause-plain
unfolding AreDecidedWherePlain
returns-in-No-clause-plain c = λ e. no-decides

pub returns-in-No-clause-identified : goal.returns-in-No-clause-identified
returns-in-No-clause-identified c =
    let within : c.loop-i.i < length c.args.right.now = omega arith in
    identified-next c.args.table.now c.args.state.now c.args.left.now c.args.right.now c.loop-i.state c.unify.new.state c.loop-i.i c.loop-i-test.true within
    c.loop-i.answer c.in_ok-unify.field-0 No c.loop-i.invariant.identified c.in_ok-unify.ensures.identified
    (λ f g. let p : No ≡ Yes = sym c.in-No.is ∙ g in absurd (cc))

pub returns-in-No-clause-clash : goal.returns-in-No-clause-clash
returns-in-No-clause-clash c =
    let within : c.loop-i.i < length c.args.right.now = omega arith in
    clash-next c.args.table.now c.args.state.now c.args.left.now c.args.right.now c.loop-i.state c.unify.new.state c.loop-i.i c.loop-i-test.true within
    c.loop-i.invariant.closed c.in_ok-unify.field-0 c.in-No.is c.in_ok-unify.ensures.clash

pub returns-in-No-clause-closed : goal.returns-in-No-clause-closed
returns-in-No-clause-closed c =
    let within : c.loop-i.i < length c.args.right.now = omega arith in
    untouched-next c.args.table.now c.args.state.now c.args.left.now c.args.right.now c.loop-i.state c.unify.new.state c.loop-i.i c.loop-i-test.true within
    c.loop-i.invariant.closed c.in_ok-unify.ensures.closed

pub loop-i-preserved : goal.loop-i-preserved
loop-i-preserved c =
    let within : c.loop-i.i < length c.args.right.now = omega arith in
    elim c.match-branch-2.branch [
      | in-Yes w ↦ record {
        advances = advances-through c.args.table.now c.args.state.now c.loop-i.state c.unify.new.state c.loop-i.invariant.advances c.in_ok-unify.ensures.advances;
        said = subst (IsUnified c.args.table.now c.args.state.now c.unify.new.state (SameBelow c.args.table.now c.args.left.now c.args.right.now (c.loop-i.i + 1)))
            (sym w.answer-is)
            (said-yes c.args.table.now c.args.state.now c.loop-i.state c.unify.new.state c.args.left.now c.args.right.now c.loop-i.i c.loop-i.answer
            c.loop-i.invariant.going c.loop-i.invariant.said
            (subst (IsUnified c.args.table.now c.loop-i.state c.unify.new.state (MakesSame c.args.table.now _ _)) w.in-Yes.is c.in_ok-unify.ensures.answer));
        going = λ e. c.loop-i.invariant.going (sym w.answer-is ∙ e);
        plain = plain-next c.args.table.now c.args.state.now c.args.left.now c.args.right.now c.loop-i.state c.unify.new.state c.loop-i.i c.loop-i-test.true within
            c.loop-i.invariant.advances.kinds c.loop-i.answer c.in_ok-unify.field-0 c.match-branch-2.answer c.loop-i.invariant.plain c.in_ok-unify.ensures.plain
            (λ f g e. f (sym w.answer-is ∙ e));
        identified = identified-next c.args.table.now c.args.state.now c.args.left.now c.args.right.now c.loop-i.state c.unify.new.state c.loop-i.i c.loop-i-test.true within
            c.loop-i.answer c.in_ok-unify.field-0 c.match-branch-2.answer c.loop-i.invariant.identified c.in_ok-unify.ensures.identified (λ f g. w.answer-is ∙ f);
        closed = untouched-next c.args.table.now c.args.state.now c.args.left.now c.args.right.now c.loop-i.state c.unify.new.state c.loop-i.i c.loop-i-test.true within
            c.loop-i.invariant.closed c.in_ok-unify.ensures.closed;
      }
      | in-Undecided w ↦ record {
        advances = advances-through c.args.table.now c.args.state.now c.loop-i.state c.unify.new.state c.loop-i.invariant.advances c.in_ok-unify.ensures.advances;
        said = subst (IsUnified c.args.table.now c.args.state.now c.unify.new.state (SameBelow c.args.table.now c.args.left.now c.args.right.now (c.loop-i.i + 1)))
            (sym w.answer-is)
            (said-undecided c.args.table.now c.args.state.now c.loop-i.state c.unify.new.state c.args.left.now c.args.right.now c.loop-i.i c.loop-i.answer
            c.loop-i.invariant.going c.loop-i.invariant.said
            (subst (IsUnified c.args.table.now c.loop-i.state c.unify.new.state (MakesSame c.args.table.now _ _)) w.in-Undecided.is c.in_ok-unify.ensures.answer));
        going = λ e. let p : Undecided ≡ No = sym w.answer-is ∙ e in absurd (cc);
        plain = plain-next c.args.table.now c.args.state.now c.args.left.now c.args.right.now c.loop-i.state c.unify.new.state c.loop-i.i c.loop-i-test.true within
            c.loop-i.invariant.advances.kinds c.loop-i.answer c.in_ok-unify.field-0 c.match-branch-2.answer c.loop-i.invariant.plain c.in_ok-unify.ensures.plain
            (λ f g e. g w.in-Undecided.is);
        identified = identified-next c.args.table.now c.args.state.now c.args.left.now c.args.right.now c.loop-i.state c.unify.new.state c.loop-i.i c.loop-i-test.true within
            c.loop-i.answer c.in_ok-unify.field-0 c.match-branch-2.answer c.loop-i.invariant.identified c.in_ok-unify.ensures.identified
            (λ f g. let p : Undecided ≡ Yes = sym w.in-Undecided.is ∙ g in absurd (cc));
        closed = untouched-next c.args.table.now c.args.state.now c.args.left.now c.args.right.now c.loop-i.state c.unify.new.state c.loop-i.i c.loop-i-test.true within
            c.loop-i.invariant.closed c.in_ok-unify.ensures.closed;
      }
    ]

pub returns-clause-answer : goal.returns-clause-answer
returns-clause-answer c =
    said-all c.args.table.now c.args.state.now c.args.left.now c.args.right.now c.if-right-count.false c.loop-i.i (omega arith) c.loop-i.state c.loop-i.answer c.loop-i.invariant.said

pub returns-clause-plain : goal.returns-clause-plain
returns-clause-plain c =
    plain-all c.args.table.now c.args.state.now c.args.left.now c.args.right.now c.loop-i.state c.loop-i.answer c.loop-i.invariant.plain

pub returns-clause-clash : goal.returns-clause-clash
returns-clause-clash c = clash-none c.args.table.now c.args.state.now c.args.left.now c.args.right.now c.loop-i.answer c.loop-i.invariant.going
