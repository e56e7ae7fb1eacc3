use Rattle.std.proofs.Common.{◌∙◌, None, Some, ap}
use Rattle.std.specs.Prelude.{◌||◌}
use Rattle.std.specs.HashMap.{get}
use Rattle.std.proofs.lemmas.Result.{IfOk-weaker}
use Rattle.goal_terms.specs.Erased.{compared_node}
use Rattle.goal_terms.specs.declared.compare.Regions.TheVariants.{Forgotten}
use Rattle.goal_tables.specs.ImplsByHead.{AreKeyLists, key_of, same_key, places_at}
use Rattle.goal_tables.proofs.KeyLemmas.{key, has_key, one_key}
use Rattle.goal_tables.proofs.PlacesLemmas.{places_from-same}
use Rattle.goal_tables.proofs.impls_by_head.places_with_head.Goals as goal

pub returns : goal.returns
unfolding AreKeyLists
returns c rows h =
    let n = compared_node Forgotten c.args.head in
    IfOk-weaker c.merged.result _ _
    (λ places e. e ∙ places_from-same 0 (λ r. same_key (key_of r) (key c.args.trait_id (Some n)) || same_key (key_of r) (key c.args.trait_id None)) _ rows (λ r. has_key c.args.trait_id n r))
    (c.merged.ensures (λ r. same_key (key_of r) (key c.args.trait_id (Some n))) (λ r. same_key (key_of r) (key c.args.trait_id None)) rows (λ r. one_key c.args.trait_id n r)
    (c.list_of-known.ensures ∙ ap (λ m. places_at (get same_key c.args.lists.now (key c.args.trait_id (Some m)))) c.compared.ensures ∙ h (key c.args.trait_id (Some n)))
    (c.list_of.ensures ∙ h (key c.args.trait_id None)))
