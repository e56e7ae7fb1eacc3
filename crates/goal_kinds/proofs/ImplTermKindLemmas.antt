-- An impl whose rule is refused gives a projection no term.
use Rattle.std.proofs.Common.{◌≡◌, ◌||◌, Bool, true, false, not, [], take, Option, Some, None, IfSome, inl, refl, sym, ◌∙◌, ap, subst}
use Rattle.goal_terms.specs.Erased.{erased}
use Rattle.goal_terms.specs.Tree.{alias, forest}
use Rattle.goal_terms.specs.TreeOf.{trees_of, tree_of_alias}
use Rattle.goal_terms.specs.declared.ids.ImplId.{ImplId}
use Rattle.goal_terms.specs.declared.terms.AliasTerm.{AliasTerm}
use Rattle.goal_terms.specs.declared.terms.Term.{Term}
use Rattle.goal_terms.proofs.TreeLemmas.{tree_of_alias-record}
use Rattle.goal_tables.specs.Clauses.{lies_in_equation}
use Rattle.goal_tables.specs.Faults.{IsChecked}
use Rattle.goal_tables.specs.Rows.{impl_of}
use Rattle.goal_tables.specs.SourceFaults.{is_positive}
use Rattle.goal_kinds.specs.CandidateRules.{HasNoKindFault}
use Rattle.goal_lists.specs.Candidates.{by_impl}
use Rattle.goal_lists.specs.FastReject.{lists_may_unify}
use Rattle.goal_kinds.specs.ProjectionKind.{ProjectionCandidateRefuted, IsImplForItem, refuses_term}
use Rattle.goal_lists.specs.Projections.{TermRefuted}
use Rattle.goal_kinds.specs.RuleWords.{projection_in}
use Rattle.goal_lists.specs.RowWords.{given}
use Rattle.goal_lists.specs.TraitGoals.{ImplRefuted, only_bars}
use Rattle.goal_lists.specs.declared.fast_reject.Parameters.TheVariants.{Inferred}
use Rattle.goal_lists.proofs.CandidateTerms.{forest-erased}
use Rattle.goal_kinds.proofs.ProjectionKindLaws.{equation-accepted}
use Rattle.goal_kinds.proofs.RejectedImplTerms.{rejected-impl_term}
use Rattle.goal_kinds.proofs.TraitCandidateLaws.{refused-positive}
use Rattle.goal_tables.specs.declared.rows.ImplRow.{ImplRow}
use Rattle.goal_lists.specs.ImplTerms.{Projection, ImplTermRefuted}
use Rattle.goal_lists.specs.Levels.{level}
use Rattle.goal_lists.specs.Settings.{Setting}

-- an alias without lifetimes
pub alias-erased : (a : AliasTerm) → erased (tree_of_alias a) ≡ alias a.kind (forest (given a.args))
unfolding erased
alias-erased a = ap erased (tree_of_alias-record a) ∙ ap (λ ts. alias a.kind ts) (forest-erased (trees_of a.args.items))

-- an impl that is refused gives no term, with no height
refused-step : (S : Setting) (a : AliasTerm) (e : Term) (p : Projection) (j : ImplId) (r : ImplRow) → IsChecked S.tables →
    HasNoKindFault (λ f. lies_in_equation S.tables [] f a e) → projection_in S.tables a ≡ Some p → impl_of S.tables j ≡ Some r → r.trait_id ≡ p.item.trait_id →
    (b : Bool) → lists_may_unify Inferred (trees_of (take p.trait_params a.args.items)) (trees_of r.trait_args.items) ≡ b →
    not b || not (is_positive r.polarity || only_bars S.mode r) ≡ true → ImplTermRefuted S (level S 0) p r
unfolding ImplTermRefuted ImplRefuted
refused-step S a e p j r ok x asked_for found same false u h = rejected-impl_term S a p j r ok (equation-accepted S.tables a e x) asked_for found same u
refused-step S a e p j r ok x asked_for found same true u h = inl (inl (refused-positive (is_positive r.polarity || only_bars S.mode r) h))

pub refused-term : (S : Setting) (a : AliasTerm) (e : Term) (j : ImplId) (r : ImplRow) → IsChecked S.tables →
    HasNoKindFault (λ f. lies_in_equation S.tables [] f a e) → impl_of S.tables j ≡ Some r → IsImplForItem S.tables a r →
    refuses_term S.mode a (projection_in S.tables a) (impl_of S.tables j) ≡ true → ProjectionCandidateRefuted a S 0 (by_impl r)
unfolding TermRefuted
refused-term S a e j r ok x found its h = by-projection (projection_in S.tables a) refl where
  by-projection : (o : Option Projection) → projection_in S.tables a ≡ o → IfSome o (λ p. ImplTermRefuted S (level S 0) p r)
  by-projection None d = tt
  by-projection (Some p) d =
      refused-step S a e p j r ok x d found (subst (λ o. IfSome o (λ q. r.trait_id ≡ q.item.trait_id)) d its)
      (lists_may_unify Inferred (trees_of (take p.trait_params a.args.items)) (trees_of r.trait_args.items)) refl
      (sym (ap (λ o. refuses_term S.mode a o (Some r)) d) ∙ ap (λ o. refuses_term S.mode a (projection_in S.tables a) o) (sym found) ∙ h)
