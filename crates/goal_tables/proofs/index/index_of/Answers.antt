use Rattle.std.proofs.Common.{◌≡◌, ◌-◌, ◌∙◌, sym, ap, arith, Some}
use Rattle.std.specs.Prelude.{if◌then◌else◌, is_some, ◌||◌}
use Rattle.std.specs.Map.{lookup}
use Rattle.goal_tables.specs.Places.{IsIndexOf}
use Rattle.goal_tables.proofs.PlaceLemmas.{place_from, place_from-start, place_from-end, place_from-step, double_from, double_from-start, double_from-end, double_from-step}
use Rattle.goal_tables.proofs.index.index_of.Goals as goal

pub loop-i-init : goal.loop-i-init
loop-i-init g c = record {
  places = λ k. ap (λ es. lookup (g.K.PartialEq.eq k) es) c.in_ok-places.ensures.empty ∙ sym (place_from-end g.K.PartialEq.eq c.args.keys.now _ k (omega arith));
  doubled = sym (double_from-end g.K.PartialEq.eq c.args.keys.now _ (omega arith));
}

pub loop-i-preserved : goal.loop-i-preserved
loop-i-preserved g c = record {
  places = λ k. c.in_ok-later.ensures.updates.0 k
      ∙ ap (λ o. if g.K.PartialEq.eq c.index-keys-i.result k then Some (c.loop-i.i - 1) else o) (c.loop-i.invariant.places k)
      ∙ sym (place_from-step g.K.PartialEq.eq c.args.keys.now c.loop-i.i (c.loop-i.i - 1) c.index-keys-i.result k c.index-keys-i.is (omega arith) (omega arith));
  doubled =
      ap (λ b. b || c.loop-i.doubled) (c.is_some-doubled.ensures ∙ ap is_some (c.in_ok-later.ensures.old ∙ c.loop-i.invariant.places c.index-keys-i.result))
      ∙ ap (λ b. is_some (place_from g.K.PartialEq.eq c.args.keys.now c.loop-i.i c.index-keys-i.result) || b) c.loop-i.invariant.doubled
      ∙ sym (double_from-step g.K.PartialEq.eq c.args.keys.now c.loop-i.i (c.loop-i.i - 1) c.index-keys-i.result c.index-keys-i.is (omega arith) (omega arith));
}

pub returns-clause-places : goal.returns-clause-places
unfolding IsIndexOf
returns-clause-places g c = λ k. let done : c.loop-i.i ≡ 0 = omega arith in c.loop-i.invariant.places k ∙ ap (λ i. place_from g.K.PartialEq.eq c.args.keys.now i k) done ∙ place_from-start g.K.PartialEq.eq c.args.keys.now k

pub returns-clause-doubled : goal.returns-clause-doubled
returns-clause-doubled g c = let done : c.loop-i.i ≡ 0 = omega arith in c.loop-i.invariant.doubled ∙ ap (λ i. double_from g.K.PartialEq.eq c.args.keys.now i) done ∙ double_from-start g.K.PartialEq.eq c.args.keys.now
