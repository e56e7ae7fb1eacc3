use Rattle.std.proofs.Common.{subst, sym, arith}
use Rattle.std.proofs.lemmas.List.{nil_from_length}
use Rattle.std.proofs.lemmas.Bool.{eqb-true}
use Rattle.goal_tables.specs.Indexed.{AreMoreSpecial}
use Rattle.goal_tables.proofs.SpecialLemmas.{nothing-listed}
use Rattle.goal_tables.proofs.specialized.special_list.Goals as goal

pub returns-then-is_empty : goal.returns-then-is_empty
returns-then-is_empty c = record {
  listed = subst (AreMoreSpecial c.args.tables.now c.args.row.now) (sym c.new.ensures.items) (nothing-listed c.args.tables.now c.args.row.now (nil_from_length c.args.row.now.more_special.items (omega (arith, eqb-true _ _ (sym c.if-is_empty.ensures), c.args.row.now.more_special.ok.0))));
}
