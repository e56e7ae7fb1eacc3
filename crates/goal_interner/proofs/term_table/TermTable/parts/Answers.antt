use Rattle.std.proofs.Common.{ap, ◌∙◌, sym, ◌<◌, ◌≡◌, length, map, get_or, Some}
use Rattle.std.specs.Prelude.{slice_get}
use Rattle.std.proofs.lemmas.Option.{slice_get-get_or}
use Rattle.std.proofs.lemmas.List.Elements.{All-same}
use Rattle.goal_interner.specs.TableMeaning.{tree_at}
use Rattle.goal_interner.proofs.TableLemmas.{parts_read, number_within}
use Rattle.goal_interner.proofs.term_table.TermTable.parts.Goals as goal

here : (c : goal.After-as_slice-2) → slice_get c.self.inside.nodes.keys c.args.id.0 ≡ Some (get_or c.as_slice.result.now c.args.id.0 c.index-as_slice-id.result)
here c =
    let within : c.args.id.0 < length c.as_slice.result.now =
    number_within c.self.inside.nodes.keys c.args.self.now c.as_slice.result.now c.self.view_is c.as_slice.ensures.keys c.args.id.0 c.requires in
    ap (λ ns. slice_get ns c.args.id.0) (sym c.as_slice.ensures.keys)
    ∙ slice_get-get_or c.as_slice.result.now c.args.id.0 c.index-as_slice-id.result within

pub returns-clause-trees : goal.returns-clause-trees
returns-clause-trees c =
    ap (map (tree_at c.args.self.now)) c.as_slice-2.ensures.value
    ∙ parts_read c.self.inside.nodes.keys c.args.self.now c.self.invariant.table c.self.view_is c.args.id _ (here c)

pub returns-clause-earlier : goal.returns-clause-earlier
returns-clause-earlier c =
    All-same (λ p. p.0 < c.args.id.0) _ _ c.as_slice-2.ensures.value (c.self.invariant.table.earlier c.args.id.0 _ (here c))
