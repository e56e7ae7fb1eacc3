use Rattle.std.proofs.Common.{◌≡◌, length, map, refl, sym, ap, ◌∙◌, arith}
use Rattle.std.proofs.lemmas.List.{length-map}
use Rattle.goal_interner.specs.TableMeaning.{tree_at}
use Rattle.goal_terms.specs.Tree.{parts_of}
use Rattle.goal_interner.proofs.InternLemmas.{keeps-refl, keeps-chain}
use Rattle.goal_lists.specs.Candidates.{object_bounds_among}
use Rattle.goal_lists.specs.CandidateTops.{is_object}
use Rattle.goal_lists.specs.Interned.{candidate_at}
use Rattle.goal_lists.proofs.CandidateTerms.{object_bounds-none, nothing-more, clauses-so_far, clauses-all}
use Rattle.goal_lists.proofs.candidates.objects.push_object_bounds.Goals as goal

pub returns-then-not-is_object-clause-pushed : goal.returns-then-not-is_object-clause-pushed
returns-then-not-is_object-clause-pushed c =
    nothing-more (map (candidate_at c.args.terms.now) c.args.found.now.items) _
    (object_bounds-none (tree_at c.args.terms.now c.args.self_ty) (ap is_object (sym c.node.ensures.top) ∙ sym c.is_object.ensures ∙ c.if-not-is_object.true))

pub loop-place-init : goal.loop-place-init
unfolding object_bounds_among
loop-place-init c = record {
  kept = keeps-refl c.args.terms.now;
  within = c.requires.within;
  pushed = nothing-more (map (candidate_at c.args.terms.now) c.args.found.now.items) _ refl;
}

pub loop-place-preserved : goal.loop-place-preserved
loop-place-preserved c =
    let count : length (parts_of (tree_at c.args.terms.now c.args.self_ty)) ≡ length c.parts-count.result.now =
    sym (ap length c.parts-count.ensures.trees) ∙ length-map c.parts-count.result.now (tree_at c.args.terms.now) in
    record {
      kept = keeps-chain _ _ _ c.loop-place.invariant.kept c.in_ok-push_object_bound.ensures.kept;
      within = c.in_ok-push_object_bound.ensures.within;
      pushed =
          clauses-so_far c.args.terms.now c.loop-place.terms c.args.self_ty c.part-clause.result c.loop-place.invariant.kept c.requires.known.0
          (map (candidate_at c.args.terms.now) c.args.found.now.items) (map (candidate_at c.loop-place.terms) c.loop-place.found.items) _
          c.loop-place.place (omega (arith, c.loop-place-test.true)) c.part-clause.ensures.tree c.loop-place.invariant.pushed
          c.in_ok-push_object_bound.ensures.pushed;
    }

pub returns-clause-pushed : goal.returns-clause-pushed
returns-clause-pushed c =
    let count : length (parts_of (tree_at c.args.terms.now c.args.self_ty)) ≡ length c.parts-count.result.now =
    sym (ap length c.parts-count.ensures.trees) ∙ length-map c.parts-count.result.now (tree_at c.args.terms.now) in
    clauses-all (tree_at c.args.terms.now c.args.self_ty) (ap is_object (sym c.node.ensures.top) ∙ sym c.is_object.ensures ∙ c.if-not-is_object.false)
    (map (candidate_at c.args.terms.now) c.args.found.now.items) _ c.loop-place.place (omega (arith, c.loop-place-test.false)) c.loop-place.invariant.pushed
