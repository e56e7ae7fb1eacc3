use Rattle.std.proofs.Common.{◌&&◌, false, map, ap, sym, ◌∙◌}
use Rattle.goal_terms.specs.Erased.{erased}
use Rattle.goal_terms.specs.PredicateTrees.{tree_of_kind}
use Rattle.goal_terms.specs.TreeOf.{trees_of, tree_of_alias}
use Rattle.goal_lists.specs.Answers.{erased_predicate}
use Rattle.goal_lists.specs.CandidateWords.{about}
use Rattle.goal_lists.specs.Fitting.{trees_at, about_item, trait_may_fit, alias_may_fit, clause_may_fit}
use Rattle.goal_lists.specs.TraitLists.{is_trait}
use Rattle.goal_lists.proofs.FittingLemmas.{alias_may_fit-erased}
use Rattle.goal_lists.proofs.OtherHeadLemmas.{heads_agree-erased}
use Rattle.goal_lists.proofs.candidates.fitting.clause_may_fit.Goals as goal

pub returns-in-Trait-None : goal.returns-in-Trait-None
returns-in-Trait-None c =
    c.trait_may_fit.ensures
    ∙ ap (λ b. is_trait c.in-Trait-None.held.trait_ref.def_id c.args.sought.now.trait_id && b)
    (sym (heads_agree-erased (trees_at c.args.terms.now c.args.sought.now.args.now) (trees_of c.in-Trait-None.held.trait_ref.args.items)))
    ∙ ap (λ o. about_item o (trait_may_fit (about c.args.terms.now c.args.sought.now) c.in-Trait-None.held.trait_ref.def_id (map erased (trees_of c.in-Trait-None.held.trait_ref.args.items))) (λ q. false))
    (sym c.in-Trait-None.is-1)
    ∙ ap (λ k. clause_may_fit (about c.args.terms.now c.args.sought.now) (erased_predicate (tree_of_kind k))) (sym c.in-Trait-None.is-0)

pub returns-in-HostEffect-None : goal.returns-in-HostEffect-None
returns-in-HostEffect-None c =
    c.trait_may_fit-in-HostEffect-None.ensures
    ∙ ap (λ b. is_trait c.in-HostEffect-None.held.trait_ref.def_id c.args.sought.now.trait_id && b)
    (sym (heads_agree-erased (trees_at c.args.terms.now c.args.sought.now.args.now) (trees_of c.in-HostEffect-None.held.trait_ref.args.items)))
    ∙ ap (λ o. about_item o (trait_may_fit (about c.args.terms.now c.args.sought.now) c.in-HostEffect-None.held.trait_ref.def_id (map erased (trees_of c.in-HostEffect-None.held.trait_ref.args.items))) (λ q. false))
    (sym c.in-HostEffect-None.is-1)
    ∙ ap (λ k. clause_may_fit (about c.args.terms.now c.args.sought.now) (erased_predicate (tree_of_kind k))) (sym c.in-HostEffect-None.is-0)

pub returns-in-Projection-Some : goal.returns-in-Projection-Some
returns-in-Projection-Some c =
    c.alias_may_fit.ensures
    ∙ sym (alias_may_fit-erased c.in-Projection-Some.item (trees_at c.args.terms.now c.args.sought.now.args.now) (tree_of_alias c.in-Projection-Some.held.projection_term))
    ∙ ap (λ o. about_item o false (λ q. alias_may_fit q (trees_at c.args.terms.now c.args.sought.now.args.now) (erased (tree_of_alias c.in-Projection-Some.held.projection_term)))) (sym c.in-Projection-Some.is-1)
    ∙ ap (λ k. clause_may_fit (about c.args.terms.now c.args.sought.now) (erased_predicate (tree_of_kind k))) (sym c.in-Projection-Some.is-0)
