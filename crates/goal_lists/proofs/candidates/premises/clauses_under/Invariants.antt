use Rattle.std.proofs.Common.{◌≡◌, map, take}
use Rattle.std.specs.List.{All}
use Rattle.goal_terms.specs.PredicateTrees.{tree_of_kind}
use Rattle.goal_interner.specs.TableMeaning.{Keeps}
use Rattle.goal_lists.specs.Interned.{PremiseIn, premise_at, erased_all}
use Rattle.goal_lists.specs.Premises.{predicate, predicate_under}
use Rattle.goal_lists.proofs.candidates.premises.clauses_under.Given as goal

abbrev pub invariant-loop-i : goal.invariant-loop-i
invariant-loop-i l = record {
  kept : Keeps l.initial.terms l.terms;
  within : All (PremiseIn l.terms) l.premises.items;
  premises : map (premise_at l.terms) l.premises.items ≡ map (λ c. predicate (predicate_under (erased_all l.initial.terms l.args) (tree_of_kind c.kind))) (take l.i l.clauses);
}
