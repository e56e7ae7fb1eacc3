use Rattle.std.proofs.Common.{sym, ap, ◌∙◌, subst}
use Rattle.std.proofs.lemmas.Result.{IfOk-weaker}
use Rattle.goal_terms.specs.Erased.{erased}
use Rattle.goal_terms.specs.Sorts.{IsArgument}
use Rattle.goal_terms.specs.TreeOf.{tree_of_alias, tree_of_term}
use Rattle.goal_kinds.proofs.ImplTermKindLemmas.{alias-erased}
use Rattle.goal_lists.proofs.InternedLemmas.{in-grown, same-grown}
use Rattle.goal_lists.proofs.PremiseTerms.{term-argument}
use Rattle.goal_kinds.proofs.ProjectionFaceLemmas.{equation_rule-listed, equation_rule-sorted, equation_rule-holds, equation_rule-refuted}
use Rattle.goal_kinds.proofs.rules.projections.projection_rule.Goals as goal

pub rule_of_list-requires-clause-within : goal.rule_of_list-requires-clause-within
rule_of_list-requires-clause-within c =
    c.in_ok-equation_list.ensures.within c.intern.new.self
    (in-grown c.alias_given.new.terms c.intern.new.self c.in_ok-term.ensures.kept c.in_ok-alias.alias.id c.in_ok-alias.ensures.id_in)
    (c.in_ok-term.ensures.within, subst IsArgument (sym c.in_ok-term.ensures.tree) (term-argument c.args.goal.now.predicate.term))

pub rule_of_list-requires-clause-sorted : goal.rule_of_list-requires-clause-sorted
rule_of_list-requires-clause-sorted c = equation_rule-sorted _ _ _ (c.in_ok-equation_list.ensures.entries c.intern.new.self)

pub returns-clause-list : goal.returns-clause-list
returns-clause-list c t =
    equation_rule-listed t _ _ _ _ _ c.rule_of_list.result (c.in_ok-equation_list.ensures.entries c.intern.new.self)
    (same-grown c.alias_given.new.terms c.intern.new.self c.in_ok-term.ensures.kept c.in_ok-alias.alias.id c.in_ok-alias.ensures.id_in
    ∙ c.in_ok-alias.ensures.itself ∙ sym (alias-erased c.args.goal.now.predicate.projection_term))
    (ap erased c.in_ok-term.ensures.tree) (c.rule_of_list.ensures.listed t (c.in_ok-equation_list.ensures.named t))

pub returns-clause-holds : goal.returns-clause-holds
returns-clause-holds c S n =
    IfOk-weaker c.rule_of_list.result _ _
    (λ r listed. equation_rule-holds S n (erased (tree_of_alias c.args.goal.now.predicate.projection_term)) (erased (tree_of_term c.args.goal.now.predicate.term)) r listed)
    (returns-clause-list c S.tables)

pub returns-clause-refuted : goal.returns-clause-refuted
returns-clause-refuted c S n =
    IfOk-weaker c.rule_of_list.result _ _
    (λ r listed. equation_rule-refuted S n (erased (tree_of_alias c.args.goal.now.predicate.projection_term)) (erased (tree_of_term c.args.goal.now.predicate.term)) r listed)
    (returns-clause-list c S.tables)
