use Rattle.std.proofs.Common.{map, sym, ap, ◌∙◌}
use Rattle.std.proofs.lemmas.Result.{IfOk-weaker}
use Rattle.goal_interner.specs.TableMeaning.{tree_at}
use Rattle.goal_terms.specs.Tree.{alias, forest}
use Rattle.goal_lists.specs.AliasLists.{alias_list}
use Rattle.goal_lists.specs.Interned.{erased_all}
use Rattle.goal_lists.specs.InternedEntries.{setting_at}
use Rattle.goal_kinds.proofs.rules.aliases.asked_list.Goals as goal

pub returns-clause-entries : goal.returns-clause-entries
returns-clause-entries c env =
    let T = c.alias_given.new.terms in
    let args = ap (erased_all T) c.as_slice.ensures.value ∙ c.in_ok-alias.ensures.trees in
    IfOk-weaker c.alias_list.result _ _ (λ es made. made ∙ ap (alias_list (setting_at c.args.setting env) c.args.asked.now.kind) args)
    (c.alias_list.ensures.entries T env (c.in_ok-alias.ensures.itself ∙ ap (λ ts. alias c.args.asked.now.kind (forest ts)) (sym args)))

pub returns-clause-defined : goal.returns-clause-defined
returns-clause-defined c f e =
    IfOk-weaker c.alias_list.result _ _
    (λ es h. (c.as_slice.result.now, ap (map (tree_at c.alias_given.new.terms)) c.as_slice.ensures.value ∙ c.in_ok-alias.ensures.exact, h))
    (c.alias_list.ensures.defined f e)
