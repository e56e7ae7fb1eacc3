use Rattle.std.proofs.Common.{ap, subst}
use Rattle.std.specs.Prelude.{IfSome}
use Rattle.goal_tables.specs.Rows.{trait_of}
use Rattle.goal_lists.specs.EffectLists.{source_of_const_rule, const_rule_entries}
use Rattle.goal_lists.specs.Interned.{ConstRuleIn, const_rule_at}
use Rattle.goal_lists.proofs.ListPartLemmas.{rule-list}
use Rattle.goal_lists.proofs.lists.effects.rule_list.Goals as goal

pub returns-clause-within : goal.returns-clause-within
returns-clause-within c =
    c.in_ok-entries.ensures.within c.const_rule.new.terms (subst (λ o. IfSome o (ConstRuleIn c.const_rule.new.terms)) c.in-Some.is c.in_ok-rule.ensures.within)

pub returns-clause-list : goal.returns-clause-list
returns-clause-list c =
    rule-list (const_rule_at c.const_rule.new.terms) (const_rule_entries c.source_of_const_rule-source.result c.args.constness)
    (const_rule_entries (source_of_const_rule c.args.rows.now c.args.trait_id (trait_of c.args.rows.now c.args.trait_id)) c.args.constness) c.in_ok-rule.rule
    c.in-Some.asked _ _ c.in-Some.is c.in_ok-rule.ensures.rule (ap (λ s. const_rule_entries s c.args.constness) c.source_of_const_rule-source.ensures)
    (c.in_ok-entries.ensures.entries c.const_rule.new.terms)

pub returns-clause-named : goal.returns-clause-named
returns-clause-named c t = c.in_ok-entries.ensures.named t
