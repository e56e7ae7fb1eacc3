use Rattle.std.proofs.Common.{◌≡◌, ◌∷◌, length, map, subst, rules, arith}
use Rattle.std.specs.List.{All}
use Rattle.std.proofs.lemmas.Grind.{common_steps}
use Rattle.std.proofs.lemmas.List.Elements.{All-head, All-tail}
use Rattle.goal_lists.specs.Entries.{premise_entries}
use Rattle.goal_lists.specs.Interned.{PremiseIn, premise_at}
use Rattle.goal_lists.proofs.ListPartLemmas.{pushed-in, next-premise, no_premise-left, nothing-left}
use Rattle.goal_lists.proofs.lists.parts.premise_entries.Goals as goal

pub loop-premise-preserved : goal.loop-premise-preserved
loop-premise-preserved c =
    let next : c.loop-premise.premise-iterator.rest.items ≡ c.in-Some.premise ∷ c.next.new.self.rest.items = c.in-Some.ensures.steps.0 in
    record {
      within = λ T h.
          let left : All (PremiseIn T) (c.in-Some.premise ∷ c.next.new.self.rest.items) = subst (All (PremiseIn T)) next (c.loop-premise.invariant.within T h).1 in (
            pushed-in T c.push.new.self.items c.loop-premise.entries.items c.in_ok-entry.entry c.in_ok-push.ensures.items (c.loop-premise.invariant.within T h).0
                (c.in_ok-entry.ensures.within T (All-head (PremiseIn T) c.in-Some.premise c.next.new.self.rest.items left)),
            All-tail (PremiseIn T) c.in-Some.premise c.next.new.self.rest.items left,
          );
      so_far = λ T.
          next-premise T c.args.source c.push.new.self.items c.loop-premise.entries.items c.in_ok-entry.entry c.in-Some.premise c.next.new.self.rest.items
          c.loop-premise.premise-iterator.rest.items (premise_entries c.args.source (map (premise_at T) c.args.premises.items)) c.in_ok-push.ensures.items next
          (c.in_ok-entry.ensures.entry T) (c.loop-premise.invariant.so_far T);
    }

pub returns-clause-within : goal.returns-clause-within
returns-clause-within c T h = (c.loop-premise.invariant.within T h).0

pub returns-clause-entries : goal.returns-clause-entries
returns-clause-entries c T =
    let none : length c.loop-premise.premise-iterator.rest.items ≡ 0 = first_of (omega (arith, c.in-None.ensures.steps.0), search rules, grind (arith, common_steps)) in
    no_premise-left T c.args.source c.loop-premise.entries.items c.loop-premise.premise-iterator.rest.items
    (premise_entries c.args.source (map (premise_at T) c.args.premises.items)) (nothing-left c.loop-premise.premise-iterator.rest.items none)
    (c.loop-premise.invariant.so_far T)
