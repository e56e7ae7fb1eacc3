use Rattle.std.proofs.Common.{◌∙◌, sym, ap, subst}
use Rattle.std.proofs.lemmas.Result.{IfOk-weaker}
use Rattle.goal_lists.specs.AliasLists.{defined_list, hidden_list, opaque_list}
use Rattle.goal_lists.specs.Interned.{erased_at, erased_all}
use Rattle.goal_lists.specs.InternedEntries.{entries_at}
use Rattle.goal_lists.specs.ProjectionLists.{standing}
use Rattle.goal_lists.proofs.OpaqueListLemmas.{opaque-made, use-defines, same-defined}
use Rattle.goal_lists.specs.NamedRows.{IsDefined}
use Rattle.goal_lists.specs.declared.lists.opaque_uses.OpaqueUse.TheVariants as uses
use Rattle.goal_lists.proofs.lists.aliases.opaque_list.Goals as goal

pub returns-in-Coherence-clause-entries : goal.returns-in-Coherence-clause-entries
unfolding opaque_list
returns-in-Coherence-clause-entries c T =
    ap (entries_at T) c.in_ok-vec.ensures.items
    ∙ ap (λ m. opaque_list m c.args.row.now (defined_list c.args.id (erased_all T c.args.args.now) c.args.row.now) (hidden_list (erased_all T c.args.args.now) c.args.row.now) (standing (erased_at T c.args.rigid_alias))) (sym c.in-Coherence.is)

pub returns-in-Revealed-clause-entries : goal.returns-in-Revealed-clause-entries
returns-in-Revealed-clause-entries c T =
    IfOk-weaker c.hidden_list.result _ _
    (λ es made. opaque-made c.args.mode.now c.args.row.now (defined_list c.args.id (erased_all T c.args.args.now) c.args.row.now) (hidden_list (erased_all T c.args.args.now) c.args.row.now) (standing (erased_at T c.args.rigid_alias)) _
    c.use_of.result _ c.in_default.not-Coherence c.use_of.ensures c.in-Revealed.is made)
    (c.hidden_list.ensures.entries T)

pub returns-in-Rigid-clause-entries : goal.returns-in-Rigid-clause-entries
returns-in-Rigid-clause-entries c T =
    IfOk-weaker c.standing.result _ _
    (λ es made. opaque-made c.args.mode.now c.args.row.now (defined_list c.args.id (erased_all T c.args.args.now) c.args.row.now) (hidden_list (erased_all T c.args.args.now) c.args.row.now) (standing (erased_at T c.args.rigid_alias)) _
    c.use_of.result _ c.in_default.not-Coherence c.use_of.ensures c.in-Rigid.is made)
    (c.standing.ensures.entries T)

pub returns-in_ok-vec-in-Recorded-clause-entries : goal.returns-in_ok-vec-in-Recorded-clause-entries
returns-in_ok-vec-in-Recorded-clause-entries c T =
    opaque-made c.args.mode.now c.args.row.now (defined_list c.args.id (erased_all T c.args.args.now) c.args.row.now) (hidden_list (erased_all T c.args.args.now) c.args.row.now) (standing (erased_at T c.args.rigid_alias)) _
    c.use_of.result _ c.in_default.not-Coherence c.use_of.ensures c.in-Recorded.is (ap (entries_at T) c.in_ok-vec-in-Recorded.ensures.items)

pub returns-in-Undecided-clause-entries : goal.returns-in-Undecided-clause-entries
returns-in-Undecided-clause-entries c T =
    IfOk-weaker c.undecided.result _ _
    (λ es made. opaque-made c.args.mode.now c.args.row.now (defined_list c.args.id (erased_all T c.args.args.now) c.args.row.now) (hidden_list (erased_all T c.args.args.now) c.args.row.now) (standing (erased_at T c.args.rigid_alias)) _
    c.use_of.result _ c.in_default.not-Coherence c.use_of.ensures c.in-Undecided.is made)
    (c.undecided.ensures.entries T)

pub returns-in-Defining-clause-entries : goal.returns-in-Defining-clause-entries
returns-in-Defining-clause-entries c T =
    IfOk-weaker c.defined_list.result _ _
    (λ es made. opaque-made c.args.mode.now c.args.row.now (defined_list c.args.id (erased_all T c.args.args.now) c.args.row.now) (hidden_list (erased_all T c.args.args.now) c.args.row.now) (standing (erased_at T c.args.rigid_alias)) _
    c.use_of.result _ c.in_default.not-Coherence c.use_of.ensures c.in-Defining.is made)
    (c.defined_list.ensures.entries T)

pub returns-in-Defining-clause-defined : goal.returns-in-Defining-clause-defined
returns-in-Defining-clause-defined c f e =
    IfOk-weaker c.defined_list.result _ _
    (λ es h. subst (λ g. IsDefined c.args.id c.args.args.now g es.items)
    (same-defined c.in-Defining.first f (use-defines c.args.mode.now c.args.row.now c.use_of.result (uses.Defining c.in-Defining.first) f c.use_of.ensures c.in-Defining.is e)) h)
    c.defined_list.ensures.defined
