use Rattle.std.proofs.Common.{[], map, ap, sym, subst, ◌∙◌}
use Rattle.std.specs.List.{All}
use Rattle.goal_lists.specs.Entries.{premise_entries}
use Rattle.goal_lists.specs.Interned.{TraitIn, premise_at, trait_at}
use Rattle.goal_lists.specs.Premises.{conditions_as}
use Rattle.goal_lists.proofs.ListPartLemmas.{joined-at, joined-in}
use Rattle.goal_lists.proofs.NamedRowLemmas.{joined-named, premises-name}
use Rattle.goal_lists.proofs.lists.effects.const_rule_entries.Goals as goal

pub returns-clause-within : goal.returns-clause-within
returns-clause-within c T here =
    joined-in T c.append.new.self.items c.in_ok-entries.entries.items c.in_ok-asked.asked.items c.in_ok-append.ensures.items (c.in_ok-entries.ensures.within T here.0)
    (c.in_ok-asked.ensures.within T (subst (All (TraitIn T)) (sym c.as_slice-conditions.ensures.value) here.1))

pub returns-clause-entries : goal.returns-clause-entries
returns-clause-entries c T =
    joined-at T c.append.new.self.items c.in_ok-entries.entries.items c.in_ok-asked.asked.items
    (premise_entries c.args.source (map (premise_at T) c.args.rule.premises.items))
    (premise_entries c.args.source (conditions_as c.args.constness (map (trait_at T) c.args.rule.conditions.items))) c.in_ok-append.ensures.items
    (c.in_ok-entries.ensures.entries T)
    (c.in_ok-asked.ensures.entries T
    ∙ ap (λ rs. premise_entries c.args.source (conditions_as c.args.constness (map (trait_at T) rs))) c.as_slice-conditions.ensures.value)

pub returns-clause-named : goal.returns-clause-named
returns-clause-named c t =
    joined-named t c.append.new.self.items c.in_ok-entries.entries.items c.in_ok-asked.asked.items c.in_ok-append.ensures.items
    (premises-name t [] _ _ _ (c.in_ok-entries.ensures.entries [])) (premises-name t [] _ _ _ (c.in_ok-asked.ensures.entries []))
