use Rattle.std.proofs.Common.{◌≡◌, map, take}
use Rattle.std.specs.List.{All}
use Rattle.goal_interner.specs.TableMeaning.{Keeps}
use Rattle.goal_lists.specs.Interned.{TraitIn, trait_at, erased_all}
use Rattle.goal_lists.specs.Premises.{trait_under}
use Rattle.goal_lists.proofs.candidates.premises.traits_under.Given as goal

abbrev pub invariant-loop-i : goal.invariant-loop-i
invariant-loop-i l = record {
  kept : Keeps l.initial.terms l.terms;
  within : All (TraitIn l.terms) l.traits.items;
  traits : map (trait_at l.terms) l.traits.items ≡ map (trait_under (erased_all l.initial.terms l.args)) (take l.i l.refs);
}
