use Rattle.std.proofs.Common.{map, ap, subst}
use Rattle.std.specs.List.{All}
use Rattle.std.specs.Prelude.{IfSome}
use Rattle.goal_tables.specs.Rows.{trait_of}
use Rattle.goal_lists.specs.Entries.{premise_entries}
use Rattle.goal_lists.specs.Interned.{PremiseIn, premise_at}
use Rattle.goal_lists.specs.TraitLists.{source_of_rule}
use Rattle.goal_lists.proofs.ListPartLemmas.{rule-list}
use Rattle.goal_lists.proofs.NamedRowLemmas.{premises-name}
use Rattle.goal_lists.proofs.lists.traits.rule_list.Goals as goal

pub returns-clause-within : goal.returns-clause-within
returns-clause-within c =
    c.in_ok-entries.ensures.within c.trait_rule.new.terms
    (subst (λ o. IfSome o (λ ps. All (PremiseIn c.trait_rule.new.terms) ps.items)) c.in-Some.is c.in_ok-rule.ensures.within)

pub returns-clause-list : goal.returns-clause-list
returns-clause-list c =
    rule-list (λ ps. map (premise_at c.trait_rule.new.terms) ps.items) (premise_entries c.source_of_rule-source.result)
    (premise_entries (source_of_rule (trait_of c.args.rows.now c.args.trait_id))) c.in_ok-rule.rule c.in-Some.premises _ _ c.in-Some.is c.in_ok-rule.ensures.premises
    (ap premise_entries c.source_of_rule-source.ensures) (c.in_ok-entries.ensures.entries c.trait_rule.new.terms)

pub returns-clause-named : goal.returns-clause-named
returns-clause-named c t = premises-name t c.trait_rule.new.terms _ _ _ (c.in_ok-entries.ensures.entries c.trait_rule.new.terms)
