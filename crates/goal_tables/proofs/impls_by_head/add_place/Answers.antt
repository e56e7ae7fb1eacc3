use Rattle.std.proofs.Common.{◌≡◌, ◌++◌, ◌∷◌, [], ◌∙◌, sym, ap}
use Rattle.std.specs.HashMap.{get}
use Rattle.goal_tables.specs.ImplsByHead.{same_key, places_at}
use Rattle.goal_tables.proofs.KeyLemmas.{key-same, place-added}
use Rattle.goal_tables.proofs.impls_by_head.add_place.Goals as goal
use Rattle.goal_tables.proofs.impls_by_head.add_place.Goals.{in-Some, in-None}

pub returns : goal.returns
returns c k =
    let listed : c.match-swap_remove.list.items ≡ places_at c.swap_remove.result =
    elim c.match-swap_remove.branch [
      | in-Some w ↦ ap (λ v. v.items) w.list-is ∙ sym (ap places_at w.in-Some.is)
      | in-None w ↦ ap (λ v. v.items) w.list-is ∙ w.new-list.ensures.items ∙ sym (ap places_at w.in-None.is)
    ] in
    place-added (same_key c.args.key k) c.args.place _ _ (get same_key c.args.lists k) c.swap_remove.result c.push.new.self (c.in_ok-insert.ensures.updates.0 k) (c.swap_remove.ensures.updates.0 k)
    (c.in_ok-push.ensures.items ∙ ap (λ ps. ps ++ c.args.place ∷ []) listed)
    (λ e. c.swap_remove.ensures.value ∙ ap (get same_key c.args.lists) (key-same c.args.key k e))
