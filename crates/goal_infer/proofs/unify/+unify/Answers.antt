use Rattle.std.proofs.Common.{◌≡◌, ◌+◌, ◌<◌, length, ◌∙◌, sym, subst, refl, arith, get_or}
use Rattle.std.proofs.lemmas.List.Elements.{All-get_or}
use Rattle.goal_interner.specs.declared.term_nodes.TermId.{TermId}
use Rattle.goal_infer.specs.Unification.{MakesSame, IsUnified, HaveOneHead, TopsSay, TopsDecide, TopsIdentify, TopsClash}
use Rattle.goal_infer.specs.declared.unify.Unified.TheVariants.{Yes, Undecided, No}
use Rattle.goal_infer.proofs.PairLemmas.{SameBelow, said-first, said-yes, said-undecided, said-no, no-count, said-whole, said-given, less-work}
use Rattle.goal_infer.proofs.ClashLemmas.{untouched-same, untouched-given, untouched-more, clash-never, clash-given, clash-count, clash-part}
use Rattle.goal_infer.proofs.DecisionLemmas.{yes-decides, no-decides}
use Rattle.goal_infer.proofs.PlainLemmas.{plain-decided, definite-decided, decided-given, plain-more}
use Rattle.goal_infer.proofs.IdentityLemmas.{IsWalked, identified-yes, identified-given, identified-count, identified-more}
use Rattle.goal_infer.proofs.UnifyLemmas.{advances-through}
use Rattle.goal_infer.proofs.unify.+unify.Goals as goal
use Rattle.goal_infer.proofs.unify.+unify.Goals.{in-Yes, in-Undecided}

pub returns-in-Some-clause-answer : goal.returns-in-Some-clause-answer
returns-in-Some-clause-answer t c =
    said-given c.args.table.now c.args.state.now c.unify_tops.new.state c.requires.solved c.resolve-left.result c.resolve-right.result c.args.left c.args.right
    c.resolve-left.ensures.same c.resolve-right.ensures.same c.in-Some.answer
    (subst (TopsSay c.args.table.now c.args.state.now c.unify_tops.new.state c.resolve-left.result c.resolve-right.result) c.in-Some.is c.in_ok-answer.ensures.answer)

pub returns-then-others-count-clause-answer : goal.returns-then-others-count-clause-answer
returns-then-others-count-clause-answer t c =
    let one : HaveOneHead c.args.table.now c.args.state.now c.unify_tops.new.state c.resolve-left.result c.resolve-right.result =
    subst (TopsSay c.args.table.now c.args.state.now c.unify_tops.new.state c.resolve-left.result c.resolve-right.result) c.in_default.is c.in_ok-answer.ensures.answer in
    said-given c.args.table.now c.args.state.now c.unify_tops.new.state c.requires.solved c.resolve-left.result c.resolve-right.result c.args.left c.args.right
    c.resolve-left.ensures.same c.resolve-right.ensures.same No
    (no-count c.args.table.now c.args.state.now c.unify_tops.new.state c.resolve-left.result c.resolve-right.result one c.parts-parts.result.now c.parts-others.result.now
    c.parts-parts.ensures.trees c.parts-others.ensures.trees c.if-others-count.true c.unify_tops.new.state)

pub loop-i-init : goal.loop-i-init
loop-i-init t c =
    let one : HaveOneHead c.args.table.now c.args.state.now c.unify_tops.new.state c.resolve-left.result c.resolve-right.result =
    subst (TopsSay c.args.table.now c.args.state.now c.unify_tops.new.state c.resolve-left.result c.resolve-right.result) c.in_default.is c.in_ok-answer.ensures.answer in
    record {
      advances = c.in_ok-answer.ensures.advances;
      said = said-first c.args.table.now c.args.state.now c.unify_tops.new.state c.parts-parts.result.now c.parts-others.result.now one.unchanged;
      going = λ e. absurd (cc);
      plain = plain-decided c.args.table.now c.args.state.now c.unify_tops.new.state c.args.left c.args.right Yes one.unchanged yes-decides;
      identified = identified-yes c.args.table.now c.args.state.now c.unify_tops.new.state c.args.left c.args.right one.unchanged;
      closed = untouched-same c.args.table.now c.args.state.now c.unify_tops.new.state c.args.left c.args.right one.unchanged;
    }

pub unify-requires : goal.unify-requires
unify-requires t c =
    let one : HaveOneHead c.args.table.now c.args.state.now c.unify_tops.new.state c.resolve-left.result c.resolve-right.result =
    subst (TopsSay c.args.table.now c.args.state.now c.unify_tops.new.state c.resolve-left.result c.resolve-right.result) c.in_default.is c.in_ok-answer.ensures.answer in
    let first : c.loop-i.i < length c.parts-parts.result.now = c.loop-i-test.true in
    let second : c.loop-i.i < length c.parts-others.result.now = omega arith in
    let part : TermId = get_or c.parts-parts.result.now c.loop-i.i (record { 0 = 0 }) in
    let other : TermId = get_or c.parts-others.result.now c.loop-i.i (record { 0 = 0 }) in
    let earlier : part.0 < c.resolve-left.result.0 =
    All-get_or (λ i. i.0 < c.resolve-left.result.0) c.parts-parts.result.now c.loop-i.i (record { 0 = 0 }) first c.parts-parts.ensures.earlier in
    let before : other.0 < c.resolve-right.result.0 =
    All-get_or (λ i. i.0 < c.resolve-right.result.0) c.parts-others.result.now c.loop-i.i (record { 0 = 0 }) second c.parts-others.ensures.earlier in (
      omega (
        arith,
        less-work c.args.table.now c.args.state.now c.loop-i.state c.loop-i.invariant.advances c.args.left c.resolve-left.result c.resolve-left.ensures.same
            c.parts-parts.result.now c.loop-i.i c.parts-parts.ensures.trees one.head first,
        c.decreases,
      ),
      (omega (arith, earlier, c.resolve-left.ensures.within), (omega (arith, before, c.resolve-right.ensures.within), c.loop-i.invariant.advances.solved)),
    )

pub returns-in_err-unify-clause-advances : goal.returns-in_err-unify-clause-advances
returns-in_err-unify-clause-advances t c =
    advances-through c.args.table.now c.args.state.now c.loop-i.state c.unify.new.state c.loop-i.invariant.advances c.in_err-unify.ensures.advances

pub returns-in-No-clause-advances : goal.returns-in-No-clause-advances
returns-in-No-clause-advances t c =
    advances-through c.args.table.now c.args.state.now c.loop-i.state c.unify.new.state c.loop-i.invariant.advances c.in_ok-unify.ensures.advances

pub returns-in-No-clause-answer : goal.returns-in-No-clause-answer
returns-in-No-clause-answer t c =
    let one : HaveOneHead c.args.table.now c.args.state.now c.unify_tops.new.state c.resolve-left.result c.resolve-right.result =
    subst (TopsSay c.args.table.now c.args.state.now c.unify_tops.new.state c.resolve-left.result c.resolve-right.result) c.in_default.is c.in_ok-answer.ensures.answer in
    said-given c.args.table.now c.args.state.now c.unify.new.state c.requires.solved c.resolve-left.result c.resolve-right.result c.args.left c.args.right
    c.resolve-left.ensures.same c.resolve-right.ensures.same No
    (said-whole c.args.table.now c.args.state.now c.unify_tops.new.state c.resolve-left.result c.resolve-right.result one c.parts-parts.result.now c.parts-others.result.now
    c.parts-parts.ensures.trees c.parts-others.ensures.trees c.if-others-count.false (length c.parts-parts.result.now) refl c.unify.new.state No
    (said-no c.args.table.now c.args.state.now c.loop-i.state c.unify.new.state c.parts-parts.result.now c.parts-others.result.now c.loop-i.i (length c.parts-parts.result.now)
    c.loop-i.answer c.loop-i-test.true c.loop-i.invariant.going c.loop-i.invariant.said
    (subst (IsUnified c.args.table.now c.loop-i.state c.unify.new.state (MakesSame c.args.table.now _ _)) c.in-No.is c.in_ok-unify.ensures.answer)))

pub loop-i-preserved : goal.loop-i-preserved
loop-i-preserved t c =
    let walked : IsWalked c.args.table.now c.args.state.now c.args.left c.args.right c.resolve-left.result c.resolve-right.result c.parts-parts.result.now c.parts-others.result.now =
    record {
      solved = c.requires.solved;
      left = c.resolve-left.ensures.same;
      right = c.resolve-right.ensures.same;
      left_ended = c.resolve-left.ensures.unbound;
      right_ended = c.resolve-right.ensures.unbound;
      left_parts = c.parts-parts.ensures.trees;
      right_parts = c.parts-others.ensures.trees;
    } in
    let one : HaveOneHead c.args.table.now c.args.state.now c.unify_tops.new.state c.resolve-left.result c.resolve-right.result =
    subst (TopsSay c.args.table.now c.args.state.now c.unify_tops.new.state c.resolve-left.result c.resolve-right.result) c.in_default.is c.in_ok-answer.ensures.answer in
    let within : c.loop-i.i < length c.parts-others.result.now = omega arith in
    elim c.match-branch-4.branch [
      | in-Yes w ↦ record {
        advances = advances-through c.args.table.now c.args.state.now c.loop-i.state c.unify.new.state c.loop-i.invariant.advances c.in_ok-unify.ensures.advances;
        said = subst (IsUnified c.args.table.now c.args.state.now c.unify.new.state (SameBelow c.args.table.now c.parts-parts.result.now c.parts-others.result.now (c.loop-i.i + 1)))
            (sym w.answer-is)
            (said-yes c.args.table.now c.args.state.now c.loop-i.state c.unify.new.state c.parts-parts.result.now c.parts-others.result.now c.loop-i.i c.loop-i.answer
            c.loop-i.invariant.going c.loop-i.invariant.said
            (subst (IsUnified c.args.table.now c.loop-i.state c.unify.new.state (MakesSame c.args.table.now _ _)) w.in-Yes.is c.in_ok-unify.ensures.answer));
        going = λ e. c.loop-i.invariant.going (sym w.answer-is ∙ e);
        plain = plain-more c.args.table.now c.args.state.now c.unify_tops.new.state c.loop-i.state c.unify.new.state c.args.left c.args.right c.resolve-left.result c.resolve-right.result
            c.parts-parts.result.now c.parts-others.result.now walked one c.loop-i.invariant.advances.kinds c.loop-i.i c.loop-i-test.true within c.loop-i.answer c.in_ok-unify.field-0 c.match-branch-4.answer
            c.loop-i.invariant.plain c.in_ok-unify.ensures.plain (λ f g e. f (sym w.answer-is ∙ e));
        identified = identified-more c.args.table.now c.args.state.now c.args.left c.args.right c.resolve-left.result c.resolve-right.result
            c.parts-parts.result.now c.parts-others.result.now walked c.loop-i.state c.unify.new.state c.loop-i.i c.loop-i-test.true c.loop-i.answer c.in_ok-unify.field-0 c.match-branch-4.answer
            c.loop-i.invariant.identified c.in_ok-unify.ensures.identified (λ f g. w.answer-is ∙ f);
        closed = untouched-more c.args.table.now c.args.state.now c.unify_tops.new.state c.args.left c.args.right c.resolve-left.result c.resolve-right.result c.parts-parts.result.now c.parts-others.result.now walked one
            c.loop-i.state c.unify.new.state c.loop-i.i c.loop-i-test.true within c.loop-i.invariant.closed c.in_ok-unify.ensures.closed;
      }
      | in-Undecided w ↦ record {
        advances = advances-through c.args.table.now c.args.state.now c.loop-i.state c.unify.new.state c.loop-i.invariant.advances c.in_ok-unify.ensures.advances;
        said = subst (IsUnified c.args.table.now c.args.state.now c.unify.new.state (SameBelow c.args.table.now c.parts-parts.result.now c.parts-others.result.now (c.loop-i.i + 1)))
            (sym w.answer-is)
            (said-undecided c.args.table.now c.args.state.now c.loop-i.state c.unify.new.state c.parts-parts.result.now c.parts-others.result.now c.loop-i.i c.loop-i.answer
            c.loop-i.invariant.going c.loop-i.invariant.said
            (subst (IsUnified c.args.table.now c.loop-i.state c.unify.new.state (MakesSame c.args.table.now _ _)) w.in-Undecided.is c.in_ok-unify.ensures.answer));
        going = λ e. let p : Undecided ≡ No = sym w.answer-is ∙ e in absurd (cc);
        plain = plain-more c.args.table.now c.args.state.now c.unify_tops.new.state c.loop-i.state c.unify.new.state c.args.left c.args.right c.resolve-left.result c.resolve-right.result
            c.parts-parts.result.now c.parts-others.result.now walked one c.loop-i.invariant.advances.kinds c.loop-i.i c.loop-i-test.true within c.loop-i.answer c.in_ok-unify.field-0 c.match-branch-4.answer
            c.loop-i.invariant.plain c.in_ok-unify.ensures.plain (λ f g e. g w.in-Undecided.is);
        identified = identified-more c.args.table.now c.args.state.now c.args.left c.args.right c.resolve-left.result c.resolve-right.result
            c.parts-parts.result.now c.parts-others.result.now walked c.loop-i.state c.unify.new.state c.loop-i.i c.loop-i-test.true c.loop-i.answer c.in_ok-unify.field-0 c.match-branch-4.answer
            c.loop-i.invariant.identified c.in_ok-unify.ensures.identified (λ f g. let p : Undecided ≡ Yes = sym w.in-Undecided.is ∙ g in absurd (cc));
        closed = untouched-more c.args.table.now c.args.state.now c.unify_tops.new.state c.args.left c.args.right c.resolve-left.result c.resolve-right.result c.parts-parts.result.now c.parts-others.result.now walked one
            c.loop-i.state c.unify.new.state c.loop-i.i c.loop-i-test.true within c.loop-i.invariant.closed c.in_ok-unify.ensures.closed;
      }
    ]

pub returns-clause-answer : goal.returns-clause-answer
returns-clause-answer t c =
    let one : HaveOneHead c.args.table.now c.args.state.now c.unify_tops.new.state c.resolve-left.result c.resolve-right.result =
    subst (TopsSay c.args.table.now c.args.state.now c.unify_tops.new.state c.resolve-left.result c.resolve-right.result) c.in_default.is c.in_ok-answer.ensures.answer in
    said-given c.args.table.now c.args.state.now c.loop-i.state c.requires.solved c.resolve-left.result c.resolve-right.result c.args.left c.args.right
    c.resolve-left.ensures.same c.resolve-right.ensures.same c.loop-i.answer
    (said-whole c.args.table.now c.args.state.now c.unify_tops.new.state c.resolve-left.result c.resolve-right.result one c.parts-parts.result.now c.parts-others.result.now
    c.parts-parts.ensures.trees c.parts-others.ensures.trees c.if-others-count.false c.loop-i.i (omega arith) c.loop-i.state c.loop-i.answer c.loop-i.invariant.said)

pub returns-in-Some-clause-plain : goal.returns-in-Some-clause-plain
returns-in-Some-clause-plain t c =
    decided-given c.args.table.now c.args.state.now c.unify_tops.new.state c.resolve-left.result c.resolve-right.result c.args.left c.args.right
    c.resolve-left.ensures.same c.resolve-right.ensures.same c.in-Some.answer
    (subst (TopsDecide c.args.table.now c.args.state.now c.unify_tops.new.state c.resolve-left.result c.resolve-right.result) c.in-Some.is c.in_ok-answer.ensures.plain)

pub returns-then-others-count-clause-plain : goal.returns-then-others-count-clause-plain
returns-then-others-count-clause-plain t c =
    let one : HaveOneHead c.args.table.now c.args.state.now c.unify_tops.new.state c.resolve-left.result c.resolve-right.result =
    subst (TopsSay c.args.table.now c.args.state.now c.unify_tops.new.state c.resolve-left.result c.resolve-right.result) c.in_default.is c.in_ok-answer.ensures.answer in
    plain-decided c.args.table.now c.args.state.now c.unify_tops.new.state c.args.left c.args.right No one.unchanged no-decides

pub returns-in-No-clause-plain : goal.returns-in-No-clause-plain
returns-in-No-clause-plain t c =
    let walked : IsWalked c.args.table.now c.args.state.now c.args.left c.args.right c.resolve-left.result c.resolve-right.result c.parts-parts.result.now c.parts-others.result.now =
    record {
      solved = c.requires.solved;
      left = c.resolve-left.ensures.same;
      right = c.resolve-right.ensures.same;
      left_ended = c.resolve-left.ensures.unbound;
      right_ended = c.resolve-right.ensures.unbound;
      left_parts = c.parts-parts.ensures.trees;
      right_parts = c.parts-others.ensures.trees;
    } in
    let one : HaveOneHead c.args.table.now c.args.state.now c.unify_tops.new.state c.resolve-left.result c.resolve-right.result =
    subst (TopsSay c.args.table.now c.args.state.now c.unify_tops.new.state c.resolve-left.result c.resolve-right.result) c.in_default.is c.in_ok-answer.ensures.answer in
    let within : c.loop-i.i < length c.parts-others.result.now = omega arith in
    plain-more c.args.table.now c.args.state.now c.unify_tops.new.state c.loop-i.state c.unify.new.state c.args.left c.args.right c.resolve-left.result c.resolve-right.result
    c.parts-parts.result.now c.parts-others.result.now walked one c.loop-i.invariant.advances.kinds c.loop-i.i c.loop-i-test.true within c.loop-i.answer c.in_ok-unify.field-0 No
    c.loop-i.invariant.plain c.in_ok-unify.ensures.plain (λ f g. no-decides)

pub returns-in-Some-clause-decided : goal.returns-in-Some-clause-decided
returns-in-Some-clause-decided t c =
    definite-decided c.args.table.now c.args.state.now c.unify_tops.new.state c.args.left c.args.right c.in-Some.answer (returns-in-Some-clause-plain t c)

pub returns-then-others-count-clause-decided : goal.returns-then-others-count-clause-decided
returns-then-others-count-clause-decided t c =
    definite-decided c.args.table.now c.args.state.now c.unify_tops.new.state c.args.left c.args.right No (returns-then-others-count-clause-plain t c)

pub returns-in-No-clause-decided : goal.returns-in-No-clause-decided
returns-in-No-clause-decided t c =
    definite-decided c.args.table.now c.args.state.now c.unify.new.state c.args.left c.args.right No (returns-in-No-clause-plain t c)

pub returns-clause-decided : goal.returns-clause-decided
returns-clause-decided t c =
    definite-decided c.args.table.now c.args.state.now c.loop-i.state c.args.left c.args.right c.loop-i.answer c.loop-i.invariant.plain

pub returns-in-Some-clause-identified : goal.returns-in-Some-clause-identified
returns-in-Some-clause-identified t c =
    identified-given c.args.table.now c.args.state.now c.unify_tops.new.state c.resolve-left.result c.resolve-right.result c.args.left c.args.right
    c.resolve-left.ensures.same c.resolve-right.ensures.same c.in-Some.answer
    (subst (TopsIdentify c.args.table.now c.args.state.now c.unify_tops.new.state c.resolve-left.result c.resolve-right.result) c.in-Some.is c.in_ok-answer.ensures.identified)

pub returns-then-others-count-clause-identified : goal.returns-then-others-count-clause-identified
returns-then-others-count-clause-identified t c =
    let walked : IsWalked c.args.table.now c.args.state.now c.args.left c.args.right c.resolve-left.result c.resolve-right.result c.parts-parts.result.now c.parts-others.result.now =
    record {
      solved = c.requires.solved;
      left = c.resolve-left.ensures.same;
      right = c.resolve-right.ensures.same;
      left_ended = c.resolve-left.ensures.unbound;
      right_ended = c.resolve-right.ensures.unbound;
      left_parts = c.parts-parts.ensures.trees;
      right_parts = c.parts-others.ensures.trees;
    } in
    identified-count c.args.table.now c.args.state.now c.args.left c.args.right c.resolve-left.result c.resolve-right.result c.parts-parts.result.now c.parts-others.result.now
    walked c.unify_tops.new.state No c.if-others-count.true

pub returns-in-No-clause-identified : goal.returns-in-No-clause-identified
returns-in-No-clause-identified t c =
    let walked : IsWalked c.args.table.now c.args.state.now c.args.left c.args.right c.resolve-left.result c.resolve-right.result c.parts-parts.result.now c.parts-others.result.now =
    record {
      solved = c.requires.solved;
      left = c.resolve-left.ensures.same;
      right = c.resolve-right.ensures.same;
      left_ended = c.resolve-left.ensures.unbound;
      right_ended = c.resolve-right.ensures.unbound;
      left_parts = c.parts-parts.ensures.trees;
      right_parts = c.parts-others.ensures.trees;
    } in
    identified-more c.args.table.now c.args.state.now c.args.left c.args.right c.resolve-left.result c.resolve-right.result
    c.parts-parts.result.now c.parts-others.result.now walked c.loop-i.state c.unify.new.state c.loop-i.i c.loop-i-test.true c.loop-i.answer c.in_ok-unify.field-0 No
    c.loop-i.invariant.identified c.in_ok-unify.ensures.identified (λ f g. let p : No ≡ Yes = sym c.in-No.is ∙ g in absurd (cc))

pub returns-in-Some-clause-clash : goal.returns-in-Some-clause-clash
returns-in-Some-clause-clash t c =
    clash-given c.args.table.now c.args.state.now c.resolve-left.result c.resolve-right.result c.args.left c.args.right
    c.resolve-left.ensures.same c.resolve-right.ensures.same c.in-Some.answer
    (subst (TopsClash c.args.table.now c.args.state.now c.resolve-left.result c.resolve-right.result) c.in-Some.is c.in_ok-answer.ensures.clash)

pub returns-then-others-count-clause-clash : goal.returns-then-others-count-clause-clash
returns-then-others-count-clause-clash t c =
    let walked : IsWalked c.args.table.now c.args.state.now c.args.left c.args.right c.resolve-left.result c.resolve-right.result c.parts-parts.result.now c.parts-others.result.now =
    record {
      solved = c.requires.solved;
      left = c.resolve-left.ensures.same;
      right = c.resolve-right.ensures.same;
      left_ended = c.resolve-left.ensures.unbound;
      right_ended = c.resolve-right.ensures.unbound;
      left_parts = c.parts-parts.ensures.trees;
      right_parts = c.parts-others.ensures.trees;
    } in
    let one : HaveOneHead c.args.table.now c.args.state.now c.unify_tops.new.state c.resolve-left.result c.resolve-right.result =
    subst (TopsSay c.args.table.now c.args.state.now c.unify_tops.new.state c.resolve-left.result c.resolve-right.result) c.in_default.is c.in_ok-answer.ensures.answer in
    clash-count c.args.table.now c.args.state.now c.unify_tops.new.state c.args.left c.args.right c.resolve-left.result c.resolve-right.result c.parts-parts.result.now c.parts-others.result.now walked one c.if-others-count.true No

pub returns-in-No-clause-clash : goal.returns-in-No-clause-clash
returns-in-No-clause-clash t c =
    let walked : IsWalked c.args.table.now c.args.state.now c.args.left c.args.right c.resolve-left.result c.resolve-right.result c.parts-parts.result.now c.parts-others.result.now =
    record {
      solved = c.requires.solved;
      left = c.resolve-left.ensures.same;
      right = c.resolve-right.ensures.same;
      left_ended = c.resolve-left.ensures.unbound;
      right_ended = c.resolve-right.ensures.unbound;
      left_parts = c.parts-parts.ensures.trees;
      right_parts = c.parts-others.ensures.trees;
    } in
    let one : HaveOneHead c.args.table.now c.args.state.now c.unify_tops.new.state c.resolve-left.result c.resolve-right.result =
    subst (TopsSay c.args.table.now c.args.state.now c.unify_tops.new.state c.resolve-left.result c.resolve-right.result) c.in_default.is c.in_ok-answer.ensures.answer in
    let within : c.loop-i.i < length c.parts-others.result.now = omega arith in
    clash-part c.args.table.now c.args.state.now c.unify_tops.new.state c.args.left c.args.right c.resolve-left.result c.resolve-right.result c.parts-parts.result.now c.parts-others.result.now walked one
    c.loop-i.state c.loop-i.i c.loop-i-test.true within c.loop-i.invariant.closed c.in_ok-unify.field-0 c.in-No.is c.in_ok-unify.ensures.clash No

pub returns-clause-clash : goal.returns-clause-clash
returns-clause-clash t c = clash-never c.args.table.now c.args.state.now c.args.left c.args.right c.loop-i.answer c.loop-i.invariant.going

pub returns-in_err-answer-clause-closed : goal.returns-in_err-answer-clause-closed
returns-in_err-answer-clause-closed t c =
    untouched-given c.args.table.now c.args.state.now c.unify_tops.new.state c.resolve-left.result c.resolve-right.result c.args.left c.args.right
    c.resolve-left.ensures.same c.resolve-right.ensures.same c.in_err-answer.ensures.closed

pub returns-in-Some-clause-closed : goal.returns-in-Some-clause-closed
returns-in-Some-clause-closed t c =
    untouched-given c.args.table.now c.args.state.now c.unify_tops.new.state c.resolve-left.result c.resolve-right.result c.args.left c.args.right
    c.resolve-left.ensures.same c.resolve-right.ensures.same c.in_ok-answer.ensures.closed

pub returns-then-others-count-clause-closed : goal.returns-then-others-count-clause-closed
returns-then-others-count-clause-closed t c =
    let one : HaveOneHead c.args.table.now c.args.state.now c.unify_tops.new.state c.resolve-left.result c.resolve-right.result =
    subst (TopsSay c.args.table.now c.args.state.now c.unify_tops.new.state c.resolve-left.result c.resolve-right.result) c.in_default.is c.in_ok-answer.ensures.answer in
    untouched-same c.args.table.now c.args.state.now c.unify_tops.new.state c.args.left c.args.right one.unchanged

pub returns-in_err-unify-clause-closed : goal.returns-in_err-unify-clause-closed
returns-in_err-unify-clause-closed t c =
    let walked : IsWalked c.args.table.now c.args.state.now c.args.left c.args.right c.resolve-left.result c.resolve-right.result c.parts-parts.result.now c.parts-others.result.now =
    record {
      solved = c.requires.solved;
      left = c.resolve-left.ensures.same;
      right = c.resolve-right.ensures.same;
      left_ended = c.resolve-left.ensures.unbound;
      right_ended = c.resolve-right.ensures.unbound;
      left_parts = c.parts-parts.ensures.trees;
      right_parts = c.parts-others.ensures.trees;
    } in
    let one : HaveOneHead c.args.table.now c.args.state.now c.unify_tops.new.state c.resolve-left.result c.resolve-right.result =
    subst (TopsSay c.args.table.now c.args.state.now c.unify_tops.new.state c.resolve-left.result c.resolve-right.result) c.in_default.is c.in_ok-answer.ensures.answer in
    let within : c.loop-i.i < length c.parts-others.result.now = omega arith in
    untouched-more c.args.table.now c.args.state.now c.unify_tops.new.state c.args.left c.args.right c.resolve-left.result c.resolve-right.result c.parts-parts.result.now c.parts-others.result.now walked one
    c.loop-i.state c.unify.new.state c.loop-i.i c.loop-i-test.true within c.loop-i.invariant.closed c.in_err-unify.ensures.closed

pub returns-in-No-clause-closed : goal.returns-in-No-clause-closed
returns-in-No-clause-closed t c =
    let walked : IsWalked c.args.table.now c.args.state.now c.args.left c.args.right c.resolve-left.result c.resolve-right.result c.parts-parts.result.now c.parts-others.result.now =
    record {
      solved = c.requires.solved;
      left = c.resolve-left.ensures.same;
      right = c.resolve-right.ensures.same;
      left_ended = c.resolve-left.ensures.unbound;
      right_ended = c.resolve-right.ensures.unbound;
      left_parts = c.parts-parts.ensures.trees;
      right_parts = c.parts-others.ensures.trees;
    } in
    let one : HaveOneHead c.args.table.now c.args.state.now c.unify_tops.new.state c.resolve-left.result c.resolve-right.result =
    subst (TopsSay c.args.table.now c.args.state.now c.unify_tops.new.state c.resolve-left.result c.resolve-right.result) c.in_default.is c.in_ok-answer.ensures.answer in
    let within : c.loop-i.i < length c.parts-others.result.now = omega arith in
    untouched-more c.args.table.now c.args.state.now c.unify_tops.new.state c.args.left c.args.right c.resolve-left.result c.resolve-right.result c.parts-parts.result.now c.parts-others.result.now walked one
    c.loop-i.state c.unify.new.state c.loop-i.i c.loop-i-test.true within c.loop-i.invariant.closed c.in_ok-unify.ensures.closed
