use Rattle.std.proofs.Common.{◌∙◌, refl, sym, arith}
use Rattle.std.proofs.lemmas.List.{get_or_default}
use Rattle.goal_tables.proofs.SpecialLemmas.{finds-new}
use Rattle.goal_tables.proofs.specialized.Search.add_place.Goals as goal

pub returns : goal.returns
returns c = record {
  finds = λ t q h e.
      finds-new t c.args.self.now _ c.args.place q h c.requires.within (get_or_default _ _ _ _ c.requires.within ∙ sym c.index.ensures ∙ c.if-index.false) e
      c.in_ok-push.ensures.items refl;
}
