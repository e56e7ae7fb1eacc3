use Rattle.std.proofs.Common.{◌≡◌, ◌∙◌, ◌∷◌, [], ◌++◌, length, take, sym, ap, subst, get_or, arith}
use Rattle.std.proofs.lemmas.List.{take_more, take_all}
use Rattle.goal_tables.specs.Indexed.{AreSpecialLists, AreMoreSpecial}
use Rattle.goal_tables.proofs.SpecialLemmas.{specials-start, specials-step}
use Rattle.goal_tables.proofs.specialized.special_lists.Goals as goal

pub loop-i-init : goal.loop-i-init
loop-i-init c = subst (AreSpecialLists c.args.tables.now []) (sym c.in_ok-lists.ensures.items) (specials-start _ c.args.tables.now)

pub loop-i-preserved : goal.loop-i-preserved
loop-i-preserved c =
    let t = c.args.tables.now in
    let rows = t.impls.items in
    let i = c.loop-i.i in
    let row = c.index-rows-i.result in
    let same = ap length c.as_slice-rows.ensures.value in
    let here : row ≡ get_or rows i row = c.index-rows-i.is ∙ ap (λ rs. get_or rs i row) c.as_slice-rows.ensures.value in
    subst (λ rs. AreSpecialLists t rs c.push.new.self.items) (sym (take_more rows i row (omega (arith, c.loop-i-test.true, same)) ∙ ap (λ r. take i rows ++ r ∷ []) (sym here)))
    (subst (AreSpecialLists t (take i rows ++ row ∷ [])) (sym c.in_ok-push.ensures.items)
    (specials-step t (take i rows) c.loop-i.lists.items row c.in_ok-list.list c.loop-i.invariant c.in_ok-list.ensures.listed))

pub returns : goal.returns
returns c = record {
  lists = subst (λ rs. AreSpecialLists c.args.tables.now rs c.loop-i.lists.items)
      (take_all c.loop-i.i c.args.tables.now.impls.items (omega (arith, c.loop-i-test.false, ap length c.as_slice-rows.ensures.value))) c.loop-i.invariant;
}
