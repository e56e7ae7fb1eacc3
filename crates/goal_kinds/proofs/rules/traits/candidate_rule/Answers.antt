use Rattle.std.proofs.Common.{[], ◌≡◌, ◌∙◌, ap, sym, subst, None, map}
use Rattle.std.specs.Prelude.{IfOk, IfErr}
use Rattle.goal_terms.specs.Erased.{erased}
use Rattle.goal_terms.specs.TreeOf.{trees_of}
use Rattle.goal_kinds.specs.CandidateRules.{IsRefusal}
use Rattle.goal_lists.specs.Interned.{AreIn, erased_all}
use Rattle.goal_lists.specs.InternedEntries.{setting_at}
use Rattle.goal_kinds.specs.RuleLists.{IsListed, list_then}
use Rattle.goal_lists.specs.TraitLists.{trait_list}
use Rattle.goal_lists.proofs.InternedLemmas.{candidate_in-grown}
use Rattle.goal_kinds.proofs.FaceLemmas.{list-made}
use Rattle.goal_kinds.proofs.TraitFaceLemmas.{list-made_sorted, list-made_asks}
use Rattle.goal_kinds.proofs.rules.traits.candidate_rule.Goals as goal

pub trait_list-requires-clause-args : goal.trait_list-requires-clause-args
trait_list-requires-clause-args c = subst (AreIn _) (sym c.deref.ensures.value) c.in_ok-args.ensures.within

pub trait_list-requires-clause-candidate : goal.trait_list-requires-clause-candidate
trait_list-requires-clause-candidate c = candidate_in-grown _ _ c.args_given.ensures.kept c.args.candidate.now c.requires.within

pub rule_of_list-requires-clause-sorted : goal.rule_of_list-requires-clause-sorted
rule_of_list-requires-clause-sorted c =
    list-made_sorted (setting_at c.args.setting []) c.args.asked.now.def_id c.args_given.new.terms c.deref.result.now _ _
    (subst (AreIn c.args_given.new.terms) (sym c.deref.ensures.value) c.in_ok-args.ensures.within) (c.in_ok-list.ensures.list [])

pub rule_of_list-requires-clause-asked : goal.rule_of_list-requires-clause-asked
rule_of_list-requires-clause-asked c = λ none. list-made_asks (setting_at c.args.setting []) c.args.asked.now.def_id _ _ _ (c.in_ok-list.ensures.list [])

pub returns-clause-listed : goal.returns-clause-listed
returns-clause-listed c env =
    subst (λ l. IfOk c.rule_of_list.result (λ r. IsListed c.args.setting.rows.now r (list_then c.args.then l)))
    (list-made (trait_list (setting_at c.args.setting env) c.args.asked.now.def_id) _ c.args_given.new.terms c.args_given.ensures.kept c.args.candidate.now c.requires.within c.deref.result.now _
    (ap (erased_all c.args_given.new.terms) c.deref.ensures.value ∙ c.in_ok-args.ensures.trees ∙ ap (λ xs. map erased (trees_of xs)) c.as_slice.ensures.value)
    _ (c.in_ok-list.ensures.list env))
    (c.rule_of_list.ensures.listed c.args.setting.rows.now (c.in_ok-list.ensures.named c.args.setting.rows.now c.requires.row))

pub returns-clause-refused : goal.returns-clause-refused
returns-clause-refused c env =
    subst (λ l. IfErr c.rule_of_list.result (IsRefusal (l ≡ None)))
    (list-made (trait_list (setting_at c.args.setting env) c.args.asked.now.def_id) _ c.args_given.new.terms c.args_given.ensures.kept c.args.candidate.now c.requires.within c.deref.result.now _
    (ap (erased_all c.args_given.new.terms) c.deref.ensures.value ∙ c.in_ok-args.ensures.trees ∙ ap (λ xs. map erased (trees_of xs)) c.as_slice.ensures.value)
    _ (c.in_ok-list.ensures.list env))
    c.rule_of_list.ensures.refused
