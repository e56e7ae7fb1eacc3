use Rattle.std.proofs.Common.{Some, refl, sym, ap, ◌∙◌, subst, map}
use Rattle.goal_terms.specs.declared.answers.GoalSource.TheVariants.{ImplWhereBound}
use Rattle.goal_lists.specs.Entries.{premise_entries, expected, head_form_of}
use Rattle.goal_lists.specs.Interned.{ListedIn, erased_at, premise_at, listed_at}
use Rattle.goal_lists.specs.InternedEntries.{projection_at}
use Rattle.goal_lists.specs.ProjectionLists.{listed_list}
use Rattle.goal_lists.proofs.InternedLemmas.{in-grown, are_in-grown}
use Rattle.goal_lists.proofs.ListPartLemmas.{one-in, pushed-at, pushed-in}
use Rattle.goal_lists.proofs.ProjectionListLemmas.{first_in}
use Rattle.goal_lists.proofs.NamedRowLemmas.{pushed-named, premises-name}
use Rattle.goal_lists.proofs.lists.projections.listed_list.Goals as goal

pub returns-in_ok-push-in-Behind-clause-within : goal.returns-in_ok-push-in-Behind-clause-within
returns-in_ok-push-in-Behind-clause-within c =
    let here = subst (ListedIn c.args.terms.now) c.in-Behind.is c.requires.listed in
    pushed-in c.args.terms.now c.push.new.self.items c.in_ok-entries-in-Behind.entries.items _ c.in_ok-push-in-Behind.ensures.items
    (c.in_ok-entries-in-Behind.ensures.within c.args.terms.now here.0) here.1

pub returns-in_ok-push-in-Behind-clause-list : goal.returns-in_ok-push-in-Behind-clause-list
unfolding listed_list
returns-in_ok-push-in-Behind-clause-list c =
    let T = c.args.terms.now in
    ap Some
    (pushed-at T c.push.new.self.items c.in_ok-entries-in-Behind.entries.items _ (premise_entries ImplWhereBound (map (premise_at T) c.in-Behind.premises.items))
    (expected (head_form_of (erased_at T c.in-Behind.term))) c.in_ok-push-in-Behind.ensures.items (c.in_ok-entries-in-Behind.ensures.entries T) refl)
    ∙ ap (λ x. listed_list (projection_at T c.args.asked.now) (erased_at T c.args.asked.now.rigid_alias) (listed_at T x)) (sym c.in-Behind.is)

pub returns-in_ok-vec-in-BySize-clause-within : goal.returns-in_ok-vec-in-BySize-clause-within
returns-in_ok-vec-in-BySize-clause-within c =
    let T = c.args.terms.now in
    let U = c.intern_leaf.new.terms in
    let kept = c.in_ok-unit-in-BySize.ensures.kept in
    let args = first_in T 1 c.args.asked.now.args.now c.in_ok-args-in-BySize.args.items (c.in_ok-args-in-BySize.ensures ∙ c.first_of.ensures) c.requires.asked.0 in
    one-in U _ _ c.in_ok-vec-in-BySize.ensures.items (
      are_in-grown T U kept c.in_ok-args-in-BySize.args.items args,
      c.in_ok-unit-in-BySize.ensures.within,
      in-grown T U kept c.args.asked.now.rigid_alias c.requires.asked.1,
    )

pub returns-in_ok-push-in-Behind-clause-named : goal.returns-in_ok-push-in-Behind-clause-named
returns-in_ok-push-in-Behind-clause-named c t =
    pushed-named t c.push.new.self.items c.in_ok-entries-in-Behind.entries.items _ c.in_ok-push-in-Behind.ensures.items
    (premises-name t c.args.terms.now ImplWhereBound c.in_ok-entries-in-Behind.entries.items (map (premise_at c.args.terms.now) c.in-Behind.premises.items)
    (c.in_ok-entries-in-Behind.ensures.entries c.args.terms.now)) tt

pub returns-in_ok-entries-in-Rigid-clause-named : goal.returns-in_ok-entries-in-Rigid-clause-named
returns-in_ok-entries-in-Rigid-clause-named c t = c.in_ok-entries-in-Rigid.ensures.named t
