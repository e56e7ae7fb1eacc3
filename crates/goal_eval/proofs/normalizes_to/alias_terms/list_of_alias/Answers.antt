use Rattle.std.proofs.Common.{◌≡◌, Some, ap, ap₂, sym, ◌∙◌}
use Rattle.goal_terms.specs.Tree.{alias, forest}
use Rattle.goal_lists.specs.AliasLists.{alias_list}
use Rattle.goal_lists.specs.Interned.{erased_all}
use Rattle.goal_lists.specs.InternedEntries.{entries_at, setting_at}
use Rattle.goal_lists.proofs.CauseLemmas.{alias_list-caused}
use Rattle.goal_lists.proofs.InternedLemmas.{all_same-grown}
use Rattle.goal_eval.specs.Lists.{IsListFor}
use Rattle.goal_eval.specs.Outcomes.{setting_in}
use Rattle.goal_eval.proofs.EffectLemmas.{entries-caused}
use Rattle.goal_eval.proofs.ListedTermLemmas.{made-for, alias-for}
use Rattle.goal_lists.proofs.ResultLemmas.{ok-map}
use Rattle.goal_eval.proofs.normalizes_to.alias_terms.list_of_alias.Goals as goal

pub returns-clause-list : goal.returns-clause-list
returns-clause-list c = λ m s.
    let run = c.args.setting.now in
    let T = c.args.terms.now in
    let U = c.intern_alias.new.terms in
    let args = c.args.args.now in
    let same : erased_all U args ≡ erased_all T args = all_same-grown T U c.in_ok-rigid_alias.ensures.kept args c.requires in
    ok-map (λ es. entries_at U es.items ≡ alias_list (setting_at c.of_lists.result run.environment.now) c.args.kind (erased_all U args))
    (λ es. IsListFor run (Some (entries_at U es.items)) (Some (alias_list (setting_in run m) c.args.kind (erased_all T args))))
    c.alias_list.result
    (λ es is. alias-for run m s c.args.kind (erased_all T args) (entries_at U es.items)
    (is ∙ ap₂ (λ x ts. alias_list x c.args.kind ts) (made-for run c.of_lists.result c.of_lists.ensures.rows c.of_lists.ensures.mode) same))
    (c.alias_list.ensures.entries U run.environment.now (c.in_ok-rigid_alias.ensures.tree ∙ ap (λ ts. alias c.args.kind (forest ts)) (sym same)))

pub returns-clause-caused : goal.returns-clause-caused
returns-clause-caused c =
    let run = c.args.setting.now in
    let T = c.args.terms.now in
    let U = c.intern_alias.new.terms in
    let args = c.args.args.now in
    let same : erased_all U args ≡ erased_all T args = all_same-grown T U c.in_ok-rigid_alias.ensures.kept args c.requires in
    entries-caused c.of_lists.result.rows.now run.rows.now U c.alias_list.result _ (ap (λ r. r.now) c.of_lists.ensures.rows)
    (alias_list-caused (setting_at c.of_lists.result run.environment.now) c.args.kind (erased_all U args))
    (c.alias_list.ensures.entries U run.environment.now (c.in_ok-rigid_alias.ensures.tree ∙ ap (λ ts. alias c.args.kind (forest ts)) (sym same)))
