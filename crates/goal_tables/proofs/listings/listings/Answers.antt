use Rattle.std.proofs.Common.{◌∙◌, ◌∷◌, [], ◌++◌, take, sym, ap, subst}
use Rattle.std.proofs.lemmas.List.{take_more}
use Rattle.goal_tables.specs.Indexed.{AreListings}
use Rattle.goal_tables.proofs.IndexLemmas.{listings-start, listings-step}
use Rattle.goal_tables.proofs.listings.listings.Goals as goal

pub loop-i-init : goal.loop-i-init
loop-i-init c = subst (AreListings []) (sym c.in_ok-lists.ensures.items) listings-start

pub loop-i-preserved : goal.loop-i-preserved
loop-i-preserved c =
    let rows = c.args.rows.now in
    let i = c.loop-i.i in
    let row = c.index-rows-i.result in
    let done = take_more rows i row c.loop-i-test.true in
    subst (λ rs. AreListings rs c.push.new.self.items) (sym (done ∙ ap (λ r. take i rows ++ r ∷ []) (sym c.index-rows-i.is)))
    (subst (AreListings (take i rows ++ row ∷ [])) (sym c.in_ok-push.ensures.items)
    (listings-step (take i rows) c.loop-i.lists.items row c.in_ok-list.list c.loop-i.invariant c.in_ok-list.ensures))
