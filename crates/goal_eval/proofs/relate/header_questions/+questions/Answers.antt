use Rattle.std.proofs.Common.{◌<◌, ◌≤◌, ◌+◌, ◌≢◌, map, length, ap, ◌∙◌, arith}
use Rattle.std.proofs.lemmas.List.{length-map}
use Rattle.std.proofs.lemmas.List.Elements.{All-weaker}
use Rattle.goal_terms.specs.Erased.{erased}
use Rattle.goal_interner.specs.TableMeaning.{tree_at}
use Rattle.goal_terms.specs.Tree.{tree_size}
use Rattle.goal_terms.specs.View.{tree_of_ref, trees_seen}
use Rattle.goal_terms.proofs.SizeLemmas.{sizes, tree_size-parts}
use Rattle.goal_lists.specs.Interned.{erased_at}
use Rattle.goal_lists.specs.Levels.{level}
use Rattle.goal_lists.specs.Words.{Exists, SomePair}
use Rattle.goal_lists.proofs.AgreeLemmas.{size-among}
use Rattle.goal_eval.specs.HeaderWords.{IsKnown, ClashAt, erased_ref}
use Rattle.goal_eval.specs.declared.relate.header_questions.Question.TheVariants as question
use Rattle.goal_eval.proofs.HeaderPlaceLemmas.{stand-at, given-at, both_ways}
use Rattle.goal_eval.proofs.HeaderClashLemmas.{asked-one, asked-parts, still-start, still-step, still-end, other-lengths}
use Rattle.goal_eval.proofs.relate.header_questions.+questions.Goals as goal

pub ask-ask_parts-requires : goal.ask-ask_parts-requires
ask-ask_parts-requires t c =
    let smaller : sizes (trees_seen c.parts.result) + 1 ≤ tree_size (tree_of_ref c.args.header) =
    omega (arith, tree_size-parts (tree_of_ref c.args.header), ap sizes c.parts.ensures) in (
      omega (arith, smaller, c.decreases),
      (
        All-weaker (λ id. id.0 < c.args.given.0) (λ id. id.0 < length c.args.terms.now) (λ id h. omega (arith, c.requires.within)) c.parts-in-Parts.result.now c.parts-in-Parts.ensures.earlier,
        (rw (c.parts.ensures, c.parts-in-Parts.ensures.trees) c.in-Parts.ensures.within, c.requires.asked),
      ),
    )

pub ask-returns-in_ok-push-in-Asks-clause-says : goal.ask-returns-in_ok-push-in-Asks-clause-says
ask-returns-in_ok-push-in-Asks-clause-says t c =
    λ S k ks. asked-one (ClashAt (level S k) ks c.args.terms.now) _ _ c.in-Asks.question _ c.in_ok-push-in-Asks.ensures.items (c.in-Asks.ensures.says S k ks)

pub ask-returns-in-Parts-clause-says : goal.ask-returns-in-Parts-clause-says
ask-returns-in-Parts-clause-says t c =
    asked-parts (λ S k ks. ClashAt (level S k) ks c.args.terms.now)
    (λ S k ks. SomePair ((level S k).clash (IsKnown ks)) (map erased (trees_seen c.parts.result)) (map erased (map (tree_at c.args.terms.now) c.parts-in-Parts.result.now)))
    (λ S k ks. (level S k).clash (IsKnown ks) (erased_ref c.args.header) (erased_at c.args.terms.now c.args.given))
    _ _ c.ask_parts.result (λ S k ks. rw (c.parts.ensures, c.parts-in-Parts.ensures.trees) (c.in-Parts.ensures.says S k ks)) c.ask_parts.ensures.says

pub ask_parts-returns-then-len-given-clause-says : goal.ask_parts-returns-then-len-given-clause-says
ask_parts-returns-then-len-given-clause-says t c =
    let apart : length (trees_seen c.args.parts) ≢ length (map (tree_at c.args.terms.now) c.args.given.now) =
    λ e. c.if-len-given.true (c.len.ensures ∙ e ∙ length-map c.args.given.now (tree_at c.args.terms.now)) in
    λ S k ks. asked-one (ClashAt (level S k) ks c.args.terms.now) _ _ question.Differs _ c.in_ok-push.ensures.items
    (λ x. tt, λ x. other-lengths ((level S k).clash (IsKnown ks)) (trees_seen c.args.parts) (map (tree_at c.args.terms.now) c.args.given.now) apart)

pub ask_parts-ask-requires : goal.ask_parts-ask-requires
ask_parts-ask-requires t c =
    let l : c.loop-i.i < length c.args.given.now = omega (arith, c.if-len-given.false, c.len.ensures, c.len-i-end.ensures) in (
      omega (arith, c.decreases, size-among (trees_seen c.args.parts) c.loop-i.i (tree_of_ref c.at.result) c.at.ensures),
      (
        c.requires.within c.loop-i.i _ l,
        (
          stand-at (trees_seen c.args.parts) (map (tree_at c.args.terms.now) c.args.given.now) c.loop-i.i _ _ c.requires.stand c.at.ensures
              (given-at c.args.terms.now c.args.given.now c.loop-i.i _ l),
          c.loop-i.invariant.asked,
        ),
      ),
    )

pub ask_parts-loop-i-preserved : goal.ask_parts-loop-i-preserved
ask_parts-loop-i-preserved t c =
    let l : c.loop-i.i < length c.args.given.now = omega (arith, c.if-len-given.false, c.len.ensures, c.len-i-end.ensures) in record {
      asked = c.in_ok-ask.ensures.asked;
      says = λ S k ks. both_ways
          (still-step (Exists (ClashAt (level S k) ks c.args.terms.now) c.loop-i.questions.items) _ ((level S k).clash (IsKnown ks)) (trees_seen c.args.parts)
          (map (tree_at c.args.terms.now) c.args.given.now) c.loop-i.i _ _ c.at.ensures (given-at c.args.terms.now c.args.given.now c.loop-i.i _ l) (c.in_ok-ask.ensures.says S k ks))
          (c.loop-i.invariant.says S k ks);
    }

pub ask_parts-returns-clause-says : goal.ask_parts-returns-clause-says
ask_parts-returns-clause-says t c =
    λ S k ks. both_ways
    (still-end _ ((level S k).clash (IsKnown ks)) (trees_seen c.args.parts) (map (tree_at c.args.terms.now) c.args.given.now) c.loop-i.i
    (omega (arith, c.len-i-end.ensures)) (length-map c.args.given.now (tree_at c.args.terms.now) ∙ omega (arith, c.if-len-given.false, c.len.ensures, c.len-i-end.ensures)))
    (both_ways (c.loop-i.invariant.says S k ks)
    (still-start _ ((level S k).clash (IsKnown ks)) (trees_seen c.args.parts) (map (tree_at c.args.terms.now) c.args.given.now)))
