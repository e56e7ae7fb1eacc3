use Rattle.std.proofs.Common.{map, length, ◌<◌, arith}
use Rattle.std.proofs.lemmas.List.Elements.{All-get_or}
use Rattle.goal_lists.specs.Fitting.{trees_at}
use Rattle.goal_lists.specs.Interned.{candidate_at}
use Rattle.goal_lists.proofs.FittingLemmas.{next-fitting, all-fitting}
use Rattle.goal_lists.proofs.candidates.lists.push_places.Goals as goal

pub impl_at-requires : goal.impl_at-requires
impl_at-requires c = All-get_or (λ p. p < length c.args.rows.now.impls.items) c.args.places.now c.loop-i.i _ (omega arith) c.requires.places

pub loop-i-preserved : goal.loop-i-preserved
loop-i-preserved c = record {
  within = λ T h. c.in_ok-push_impl.ensures.within T (c.loop-i.invariant.within T h);
  pushed = λ T impls e.
      next-fitting c.args.rows.now.impls.items impls (trees_at c.args.terms.now c.args.args.now) c.args.places.now (map (candidate_at T) c.args.found.now.items)
      (map (candidate_at T) c.loop-i.found.items) (map (candidate_at T) c.push_impl.new.found.items) c.impl_at.result.now c.loop-i.i e c.loop-i-test.true
      c.impl_at.ensures (c.loop-i.invariant.pushed T impls e) (c.in_ok-push_impl.ensures.pushed T);
}

pub returns-clause-pushed : goal.returns-clause-pushed
returns-clause-pushed c T impls e =
    all-fitting c.args.rows.now.impls.items impls (trees_at c.args.terms.now c.args.args.now) c.args.places.now (map (candidate_at T) c.args.found.now.items)
    (map (candidate_at T) c.loop-i.found.items) c.loop-i.i e c.loop-i-test.false (c.loop-i.invariant.pushed T impls e)
