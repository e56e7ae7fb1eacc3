use Rattle.std.proofs.Common.{◌≡◌, subst}
use Rattle.std.specs.Prelude.{IfOk}
use Rattle.goal_lists.specs.Interned.{listed_at}
use Rattle.goal_lists.proofs.TermRuleLemmas.{rest-in, rule-no_self, rule-unnamed, rule-named}
use Rattle.goal_lists.proofs.builtin.terms.term_rule.Goals as goal

pub returns-in_default-clause-listed : goal.returns-in_default-clause-listed
returns-in_default-clause-listed c = rule-no_self c.args.rows.now c.args.item c.args.terms.now c.args.args.now c.in_default.ensures

pub returns-in_default-lang_of_item-clause-listed : goal.returns-in_default-lang_of_item-clause-listed
returns-in_default-lang_of_item-clause-listed c =
    rule-unnamed c.args.rows.now c.args.item c.args.terms.now c.args.args.now c.in-Some.rest.now c.in-Some.self_ty c.in-Some.ensures c.in_default-lang_of_item.ensures

pub term_of_lang-requires-clause-args_in : goal.term_of_lang-requires-clause-args_in
term_of_lang-requires-clause-args_in c = rest-in c.args.terms.now c.args.args.now c.in-Some.rest.now c.in-Some.self_ty c.in-Some.ensures c.requires

pub returns-clause-listed : goal.returns-clause-listed
returns-clause-listed c =
    subst (λ x. IfOk c.term_of_lang.result (λ l. listed_at c.term_of_lang.new.terms l ≡ x))
    (rule-named c.args.rows.now c.args.item c.args.terms.now c.args.args.now c.in-Some.rest.now c.in-Some.self_ty c.in-Some-lang_of_item.named c.in-Some.ensures c.in-Some-lang_of_item.ensures)
    c.term_of_lang.ensures.listed
