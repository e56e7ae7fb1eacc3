use Rattle.std.proofs.Common.{◌≡◌, [], refl, sym, ap, ◌∙◌, subst, arith}
use Rattle.goal_terms.specs.PredicateTrees.{holds_const}
use Rattle.goal_lists.specs.Entries.{clause}
use Rattle.goal_lists.specs.Interned.{AreIn, TraitIn, erased_all}
use Rattle.goal_lists.specs.InternedEntries.{entries_at}
use Rattle.goal_lists.proofs.GrowingLists.{one-more, all-come}
use Rattle.goal_lists.proofs.ListPartLemmas.{pushed-at, pushed-in, conditions-all}
use Rattle.goal_lists.proofs.lists.parts.condition_entries.Goals as goal

pub loop-i-preserved : goal.loop-i-preserved
loop-i-preserved c =
    let copy : c.in_ok-args.args.items ≡ c.index-conditions-i.result.args.items = c.in_ok-args.ensures ∙ c.as_slice.ensures.value in
    record {
      within = λ T h.
          pushed-in T c.push.new.self.items c.loop-i.entries.items _ c.in_ok-push.ensures.items (c.loop-i.invariant.within T h)
          (subst (AreIn T) (sym copy) (subst (TraitIn T) (sym c.index-conditions-i.is) (h c.loop-i.i c.index-conditions-i.result c.loop-i-test.true)));
      so_far = λ T.
          pushed-at T c.push.new.self.items c.loop-i.entries.items _ (entries_at T c.loop-i.entries.items)
          (clause c.args.source (holds_const c.args.constness c.index-conditions-i.result.def_id (erased_all T c.index-conditions-i.result.args.items)))
          c.in_ok-push.ensures.items refl
          (ap (λ ids. clause c.args.source (holds_const c.args.constness c.index-conditions-i.result.def_id (erased_all T ids))) copy)
          ∙ one-more (λ r. clause c.args.source (holds_const c.args.constness r.def_id (erased_all T r.args.items))) [] (entries_at T c.loop-i.entries.items)
          c.args.conditions.now c.index-conditions-i.result c.loop-i.i _ c.loop-i-test.true c.index-conditions-i.is (c.loop-i.invariant.so_far T) refl;
    }

pub returns-clause-entries : goal.returns-clause-entries
returns-clause-entries c T =
    all-come (λ r. clause c.args.source (holds_const c.args.constness r.def_id (erased_all T r.args.items))) [] (entries_at T c.loop-i.entries.items)
    c.args.conditions.now c.loop-i.i (omega arith) (c.loop-i.invariant.so_far T)
    ∙ conditions-all T c.args.source c.args.constness c.args.conditions.now
