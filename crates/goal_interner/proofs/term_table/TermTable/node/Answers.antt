use Rattle.std.proofs.Common.{ap, ◌∙◌, sym, ◌<◌, length}
use Rattle.std.specs.Prelude.{slice_get}
use Rattle.std.proofs.lemmas.Option.{slice_get-get_or}
use Rattle.goal_interner.proofs.TableLemmas.{node_read, fits_at, number_within}
use Rattle.goal_interner.proofs.term_table.TermTable.node.Goals as goal

pub returns-clause-top : goal.returns-clause-top
returns-clause-top c =
    let within : c.args.id.0 < length c.as_slice.result.now =
    number_within c.self.inside.nodes.keys c.args.self.now c.as_slice.result.now c.self.view_is c.as_slice.ensures.keys c.args.id.0 c.requires in
    node_read c.self.inside.nodes.keys c.args.self.now c.self.invariant.table c.self.view_is c.args.id _
    (ap (λ ns. slice_get ns c.args.id.0) (sym c.as_slice.ensures.keys)
    ∙ slice_get-get_or c.as_slice.result.now c.args.id.0 c.index-as_slice-id.result within)

pub returns-clause-fits : goal.returns-clause-fits
returns-clause-fits c =
    let within : c.args.id.0 < length c.as_slice.result.now =
    number_within c.self.inside.nodes.keys c.args.self.now c.as_slice.result.now c.self.view_is c.as_slice.ensures.keys c.args.id.0 c.requires in
    fits_at c.self.inside.nodes.keys c.args.self.now c.self.invariant.table c.self.view_is c.args.id _
    (ap (λ ns. slice_get ns c.args.id.0) (sym c.as_slice.ensures.keys)
    ∙ slice_get-get_or c.as_slice.result.now c.args.id.0 c.index-as_slice-id.result within)
