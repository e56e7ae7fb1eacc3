use Rattle.std.proofs.Common.{◌∙◌, ◌++◌, ◌∷◌, [], get_or, ap, arith}
use Rattle.std.specs.Prelude.{if◌then◌else◌}
use Rattle.std.specs.HashMap.{get}
use Rattle.std.specs.Map.{lookup}
use Rattle.std.proofs.lemmas.List.{take_all}
use Rattle.goal_tables.specs.ImplsByHead.{AreKeyLists, self_head, key_of, same_key, places_at, places_from, places_of}
use Rattle.goal_tables.proofs.KeyLemmas.{key}
use Rattle.goal_tables.proofs.PlacesLemmas.{place-more, same_at}
use Rattle.goal_tables.proofs.impls_by_head.key_lists.Goals as goal

pub loop-i-init : goal.loop-i-init
unfolding places_from
loop-i-init c = λ k. ap (λ es. places_at (lookup (same_key k) es)) c.new-lists.ensures.empty

pub returns : goal.returns
unfolding AreKeyLists
returns c = λ k. c.loop-i.invariant k ∙ ap (λ rs. places_of (λ r. same_key (key_of r) k) rs) (take_all c.loop-i.i c.args.rows.now c.loop-i-test.false)

pub loop-i-preserved : goal.loop-i-preserved
loop-i-preserved c =
    λ k.
    place-more (λ r. same_key (key_of r) k) c.args.rows.now c.loop-i.i c.index-rows-i.result (places_at (get same_key c.loop-i.lists k)) _ (omega arith) (c.loop-i.invariant k)
    (c.in_ok-lists.ensures k
    ∙ ap (λ h. if same_key (key (get_or c.args.rows.now c.loop-i.i c.index-rows-i.result).trait_id h) k then places_at (get same_key c.loop-i.lists k) ++ c.loop-i.i ∷ [] else places_at (get same_key c.loop-i.lists k))
    (c.self_head.ensures
    ∙ ap self_head (c.index-rows-i-in-loop-i.is ∙ same_at c.args.rows.now c.loop-i.i c.index-rows-i-in-loop-i.result c.index-rows-i.result (omega arith))))
