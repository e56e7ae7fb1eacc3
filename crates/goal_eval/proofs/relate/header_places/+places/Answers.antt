use Rattle.std.proofs.Common.{◌<◌, ◌≤◌, ◌+◌, map, length, true, false, refl, sym, ap, ◌∙◌, arith}
use Rattle.std.proofs.lemmas.List.{length-map}
use Rattle.std.proofs.lemmas.List.Elements.{All-weaker}
use Rattle.goal_interner.specs.TableMeaning.{tree_at}
use Rattle.goal_terms.specs.Tree.{tree_size}
use Rattle.goal_terms.specs.View.{tree_of_ref, trees_seen}
use Rattle.goal_terms.proofs.FitLemmas.{ref_fit}
use Rattle.goal_terms.proofs.SizeLemmas.{sizes, tree_size-parts}
use Rattle.goal_interner.proofs.UnderLemmas.{node-fits}
use Rattle.goal_lists.specs.Levels.{level}
use Rattle.goal_lists.proofs.AgreeLemmas.{size-among}
use Rattle.goal_eval.proofs.HeaderPlaceLemmas.{below, level-above, part-loose, part-at, part-variable, part-apart, part-alike, heads-same, heads-other, among-start, among-skip, among-here, among-past, among-end, parts-stand, stand-at, given-at, number-at, both_ways, neither, fits-at}
use Rattle.goal_eval.proofs.relate.header_places.+places.Goals as goal

pub find_among-loop-i-init : goal.find_among-loop-i-init
find_among-loop-i-init t c =
    λ S k p. among-start (level S k) c.args.number (trees_seen c.args.parts) (map (tree_at c.args.terms.now) c.args.given.now) p

pub find_among-returns-then-i-given-clause-says : goal.find_among-returns-then-i-given-clause-says
find_among-returns-then-i-given-clause-says t c =
    λ S k p. neither (λ x. among-past (level S k) c.args.number (trees_seen c.args.parts) (map (tree_at c.args.terms.now) c.args.given.now) c.loop-i.i p
    (omega (arith, length-map c.args.given.now (tree_at c.args.terms.now), c.if-i-given.true)) ((c.loop-i.invariant S k p).0 x))

pub find_among-find_place-requires : goal.find_among-find_place-requires
find_among-find_place-requires t c =
    let l : c.loop-i.i < length c.args.given.now = omega arith in (
      omega (arith, c.decreases, size-among (trees_seen c.args.parts) c.loop-i.i (tree_of_ref c.at-part.result) c.at-part.ensures),
      (
        c.requires.within c.loop-i.i _ l,
        stand-at (trees_seen c.args.parts) (map (tree_at c.args.terms.now) c.args.given.now) c.loop-i.i _ _ c.requires.stand c.at-part.ensures
            (given-at c.args.terms.now c.args.given.now c.loop-i.i _ l),
      ),
    )

pub find_among-returns-then-has_place-clause-says : goal.find_among-returns-then-has_place-clause-says
find_among-returns-then-has_place-clause-says t c =
    let l : c.loop-i.i < length c.args.given.now = omega arith in
    λ S k p. both_ways (c.loop-i.invariant S k p)
    (both_ways (among-here (level S k) c.args.number (trees_seen c.args.parts) (map (tree_at c.args.terms.now) c.args.given.now) c.loop-i.i _ _ p c.at-part.ensures
    (given-at c.args.terms.now c.args.given.now c.loop-i.i _ l) (sym c.has_place.ensures ∙ c.if-has_place.true))
    (c.find_place.ensures.says S k p))

pub find_among-loop-i-preserved : goal.find_among-loop-i-preserved
find_among-loop-i-preserved t c =
    λ S k p. both_ways (c.loop-i.invariant S k p)
    (among-skip (level S k) c.args.number (trees_seen c.args.parts) (map (tree_at c.args.terms.now) c.args.given.now) c.loop-i.i _ p c.at-part.ensures
    (omega (arith, length-map c.args.given.now (tree_at c.args.terms.now), c.if-i-given.false)) (sym c.has_place.ensures ∙ c.if-has_place.false))

pub find_among-returns-clause-says : goal.find_among-returns-clause-says
find_among-returns-clause-says t c =
    λ S k p. neither (λ x. among-end (level S k) c.args.number (trees_seen c.args.parts) (map (tree_at c.args.terms.now) c.args.given.now) c.loop-i.i p
    (omega (arith, c.len-i-end.ensures)) ((c.loop-i.invariant S k p).0 x))

pub find_place-returns-in_default : goal.find_place-returns-in_default
find_place-returns-in_default t c = record {
  within = tt;
  says = λ S k p. neither (part-loose (level S k) (below S k) (level-above S k) c.args.number (tree_of_ref c.args.header) _ p (λ h e. c.in_default.not-Head h (c.node-node.ensures ∙ e)));
}

pub find_place-returns-then-is_number-clause-says : goal.find_place-returns-then-is_number-clause-says
find_place-returns-then-is_number-clause-says t c =
    λ S k p. part-at (level S k) (below S k) (level-above S k) c.args.number (tree_of_ref c.args.header) _ p c.in-Head.field-0 (sym c.node-node.ensures ∙ c.in-Head.is)
    (number-at c.args.number c.in-Head.field-0 c.node-node.result c.parameter_at.result c.is_number.result true c.in-Head.is c.parameter_at.ensures c.is_number.ensures c.if-is_number.true)

pub find_place-find_among-requires : goal.find_place-find_among-requires
find_place-find_among-requires t c =
    let smaller : sizes (trees_seen c.parts.result) + 1 ≤ tree_size (tree_of_ref c.args.header) =
    omega (arith, tree_size-parts (tree_of_ref c.args.header), ap sizes c.parts.ensures) in (
      omega (arith, smaller, c.decreases),
      (
        All-weaker (λ id. id.0 < c.args.given.0) (λ id. id.0 < length c.args.terms.now) (λ id h. omega (arith, c.requires.within)) c.parts-then-is_same.result.now c.parts-then-is_same.ensures.earlier,
        rw (c.parts.ensures, c.parts-then-is_same.ensures.trees)
            (parts-stand (tree_of_ref c.args.header) (tree_at c.args.terms.now c.args.given) c.in-Head.field-0 c.in-Head-other.field-0
            (sym c.node-node.ensures ∙ c.in-Head.is) (sym c.node-other.ensures.top ∙ c.in-Head-other.is)
            (heads-same (tree_of_ref c.args.header) (tree_at c.args.terms.now c.args.given) c.node-node.result c.node-other.result c.is_same.result c.node-node.ensures c.node-other.ensures.top c.is_same.ensures c.if-is_same.true)
            (fits-at c.node-node.result c.in-Head.field-0 _ _ c.in-Head.is refl (node-fits (tree_of_ref c.args.header) c.node-node.result c.node-node.ensures (ref_fit c.args.header)))
            (fits-at c.node-other.result c.in-Head-other.field-0 _ _ c.in-Head-other.is refl c.node-other.ensures.fits)),
      ),
    )

pub find_place-returns-in-Variable-clause-says : goal.find_place-returns-in-Variable-clause-says
find_place-returns-in-Variable-clause-says t c =
    λ S k p. neither (part-variable (level S k) (below S k) (level-above S k) c.args.number (tree_of_ref c.args.header) (tree_at c.args.terms.now c.args.given) p
    c.in-Head.field-0 c.in-Variable.field-0 (sym c.node-node.ensures ∙ c.in-Head.is)
    (number-at c.args.number c.in-Head.field-0 c.node-node.result c.parameter_at.result c.is_number.result false c.in-Head.is c.parameter_at.ensures c.is_number.ensures c.if-is_number.false)
    (sym c.node-other.ensures.top ∙ c.in-Variable.is))

pub find_place-returns-then-is_same-clause-says : goal.find_place-returns-then-is_same-clause-says
find_place-returns-then-is_same-clause-says t c =
    λ S k p. both_ways
    (part-alike (level S k) (below S k) (level-above S k) c.args.number (tree_of_ref c.args.header) (tree_at c.args.terms.now c.args.given) p
    c.in-Head.field-0 c.in-Head-other.field-0 (sym c.node-node.ensures ∙ c.in-Head.is)
    (number-at c.args.number c.in-Head.field-0 c.node-node.result c.parameter_at.result c.is_number.result false c.in-Head.is c.parameter_at.ensures c.is_number.ensures c.if-is_number.false)
    (sym c.node-other.ensures.top ∙ c.in-Head-other.is)
    (heads-same (tree_of_ref c.args.header) (tree_at c.args.terms.now c.args.given) c.node-node.result c.node-other.result c.is_same.result c.node-node.ensures c.node-other.ensures.top c.is_same.ensures c.if-is_same.true))
    (rw (c.parts.ensures, c.parts-then-is_same.ensures.trees) at c.find_among.ensures.says S k p)

pub find_place-returns-else-is_same-clause-says : goal.find_place-returns-else-is_same-clause-says
find_place-returns-else-is_same-clause-says t c =
    λ S k p. neither (part-apart (level S k) (below S k) (level-above S k) c.args.number (tree_of_ref c.args.header) (tree_at c.args.terms.now c.args.given) p
    c.in-Head.field-0 c.in-Head-other.field-0 (sym c.node-node.ensures ∙ c.in-Head.is)
    (number-at c.args.number c.in-Head.field-0 c.node-node.result c.parameter_at.result c.is_number.result false c.in-Head.is c.parameter_at.ensures c.is_number.ensures c.if-is_number.false)
    (sym c.node-other.ensures.top ∙ c.in-Head-other.is)
    (heads-other (tree_of_ref c.args.header) (tree_at c.args.terms.now c.args.given) c.node-node.result c.node-other.result c.is_same.result c.node-node.ensures c.node-other.ensures.top c.is_same.ensures c.if-is_same.false))
