use Rattle.std.proofs.Common.{◌++◌, map, sym, ap, ◌∙◌, Some}
use Rattle.std.proofs.lemmas.Result.{IfOk-weaker}
use Rattle.goal_lists.specs.Candidates.{bounds_under, const_bounds_under}
use Rattle.goal_lists.specs.Interned.{candidate_at, erased_all}
use Rattle.goal_lists.proofs.BoundTerms.{both-bounds}
use Rattle.goal_lists.proofs.candidates.bounds.push_row_bounds.Goals as goal

pub returns-in-Some-clause-pushed : goal.returns-in-Some-clause-pushed
returns-in-Some-clause-pushed c =
    IfOk-weaker c.push_const_bounds.result _ _
    (λ u pushed.
    both-bounds c.args.terms.now c.push_bounds.new.terms c.args.args.now c.requires.known c.in_ok-push_bounds.ensures.kept
    (map (candidate_at c.args.terms.now) c.args.found.now.items) (map (candidate_at c.push_bounds.new.terms) c.push_bounds.new.found.items)
    (map (candidate_at c.push_const_bounds.new.terms) c.push_const_bounds.new.found.items) c.args.bounds.now
    (λ s. const_bounds_under s (Some c.in-Some.const_bounds)) c.in_ok-push_bounds.ensures.pushed pushed
    ∙ ap
    (λ o. map (candidate_at c.args.terms.now) c.args.found.now.items
    ++ (bounds_under (erased_all c.args.terms.now c.args.args.now) c.args.bounds.now ++ const_bounds_under (erased_all c.args.terms.now c.args.args.now) o))
    (sym c.in-Some.is))
    c.push_const_bounds.ensures.pushed
