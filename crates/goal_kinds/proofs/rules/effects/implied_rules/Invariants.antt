use Rattle.std.proofs.Common.{List, map, take}
use Rattle.goal_interner.specs.TableMeaning.{Keeps}
use Rattle.goal_terms.specs.declared.predicates.Clause.{Clause}
use Rattle.goal_kinds.specs.EffectKind.{AreImplied}
use Rattle.goal_lists.specs.Interned.{candidate_at}
use Rattle.goal_lists.specs.InternedEntries.{setting_at}
use Rattle.goal_kinds.proofs.rules.effects.implied_rules.Given as goal

abbrev pub invariant-loop-i : goal.invariant-loop-i
invariant-loop-i l = record {
  kept : Keeps l.initial.terms l.terms;
  rules : (env : List Clause) → AreImplied l.setting.rows.now l.asked (setting_at l.setting env) (map (candidate_at l.initial.terms) (take l.i l.candidates)) l.rules.items;
}
