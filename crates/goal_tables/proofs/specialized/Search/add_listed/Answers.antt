use Rattle.std.proofs.Common.{◌∙◌, take, sym, ap, subst, arith}
use Rattle.std.proofs.lemmas.List.{take_all, get_or_default}
use Rattle.goal_tables.specs.SpecialSearch.{Finds}
use Rattle.goal_tables.specs.Specialized.{rows_named}
use Rattle.goal_tables.proofs.SpecialLemmas.{finds-nothing, finds-more, rows_named-none}
use Rattle.goal_tables.proofs.specialized.Search.add_listed.Goals as goal

pub loop-i-init : goal.loop-i-init
loop-i-init c =
    subst (λ qs. Finds c.args.tables.now qs c.args.self.now c.args.self.now) (sym (rows_named-none c.args.tables.now)) (finds-nothing c.args.tables.now c.args.self.now c.requires.valid)

pub add_impl-requires-clause-valid : goal.add_impl-requires-clause-valid
add_impl-requires-clause-valid c = c.loop-i.invariant.valid

pub loop-i-preserved : goal.loop-i-preserved
loop-i-preserved c =
    finds-more c.args.tables.now c.as_slice-ids.result.now c.loop-i.i _ c.args.self.now c.loop-i.self c.add_impl.new.self c.loop-i-test.true (get_or_default _ _ _ _ c.loop-i-test.true) c.loop-i.invariant
    c.in_ok-add_impl.ensures.finds

pub returns : goal.returns
returns c = record {
  finds = subst (λ is. Finds c.args.tables.now (rows_named c.args.tables.now is) c.args.self.now c.loop-i.self)
      (take_all c.loop-i.i c.as_slice-ids.result.now c.loop-i-test.false ∙ c.as_slice-ids.ensures.value) c.loop-i.invariant;
}
