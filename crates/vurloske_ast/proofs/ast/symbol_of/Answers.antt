use Rattle.std.proofs.Common.{◌≡◌, sym, rules}
use Rattle.std.specs.String.{string_bytes}
use Rattle.vurloske_ast.proofs.NameLemmas.{position-names}
use Rattle.vurloske_ast.proofs.ast.symbol_of.Goals as goal

pub returns : goal.returns
returns c =
    let same : c.in_ok-ok.field-0 ≡ c.in_ok-index.index = search rules in
    rw same (position-names string_bytes c.args.name.now c.args.names.now.keys c.in_ok-index.index (sym c.in_ok-index.ensures.index) c.in_ok-index.ensures.within)
