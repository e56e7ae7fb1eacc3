-- The laws of candidates for host effect goals: more height keeps them, and what is rejected is refuted with no height.
use Rattle.std.proofs.Common.{◌≡◌, ◌≤◌, ◌&&◌, ◌||◌, ℕ, Bool, true, false, not, [], Some, inl, inr, refl, ⊎_elim}
use Rattle.goal_terms.specs.PredicateTrees.{holds_const}
use Rattle.goal_terms.specs.TreeOf.{trees_of}
use Rattle.goal_terms.specs.declared.ids.ImplId.{ImplId}
use Rattle.goal_terms.specs.declared.modes.TypingMode.{TypingMode}
use Rattle.goal_terms.specs.declared.predicates.BoundConstness.{BoundConstness}
use Rattle.goal_terms.specs.declared.predicates.ClauseKind.{ClauseKind}
use Rattle.goal_terms.specs.declared.predicates.ClauseKind.TheVariants as clause
use Rattle.goal_terms.specs.declared.predicates.HostEffectPredicate.{HostEffectPredicate}
use Rattle.goal_terms.specs.declared.predicates.TraitRef.{TraitRef}
use Rattle.goal_tables.specs.Clauses.{lies_in_trait_ref, lies_in_const_ref, lies_in_clause_kind}
use Rattle.goal_tables.specs.Faults.{IsChecked}
use Rattle.goal_tables.specs.Rows.{impl_of}
use Rattle.goal_tables.specs.declared.rows.ImplRow.{ImplRow}
use Rattle.goal_tables.specs.declared.rows.Tables.{Tables}
use Rattle.goal_kinds.specs.CandidateRules.{HasNoKindFault, IsAcceptedClause, refuses_row, said_by}
use Rattle.goal_lists.specs.Candidates.{Candidate}
use Rattle.goal_lists.specs.ConstGoals.{satisfies, ConstAssumptionRefuted, ConstImplRefuted, ConstCandidateRefuted}
use Rattle.goal_kinds.specs.EffectKind.{EffectCandidateHolds, EffectCandidateRefuted, may_match_effect, refuses_effect_row}
use Rattle.goal_lists.specs.FastReject.{lists_may_unify}
use Rattle.goal_lists.specs.Levels.{level}
use Rattle.goal_lists.specs.RowWords.{given}
use Rattle.goal_lists.specs.Settings.{Setting}
use Rattle.goal_lists.specs.TraitGoals.{AssumptionRefuted}
use Rattle.goal_lists.specs.TraitLists.{is_trait}
use Rattle.goal_lists.specs.declared.fast_reject.Parameters.TheVariants.{Rigid}
use Rattle.goal_kinds.proofs.TraitCandidateLaws.{rejected-trait, refused-impl}
use Rattle.goal_lists.proofs.WithinConst.{within-const_candidate_holds, within-const_candidate_refuted}
use Rattle.goal_lists.proofs.WithinLevels.{within-level}

-- a candidate holds, and is refuted, at a greater height, too
pub effect-higher : (p : HostEffectPredicate) (S : Setting) (n m : ℕ) (c : Candidate) → n ≤ m → EffectCandidateHolds p S n c → EffectCandidateHolds p S m c
effect-higher p S n m c le h = within-const_candidate_holds (within-level S n m le) S S.tables.impls S.mode p.constness p.trait_ref.def_id (given p.trait_ref.args) c h

pub effect-higher_refuted : (p : HostEffectPredicate) (S : Setting) (n m : ℕ) (c : Candidate) → n ≤ m → EffectCandidateRefuted p S n c → EffectCandidateRefuted p S m c
effect-higher_refuted p S n m c le h = within-const_candidate_refuted (within-level S n m le) S S.tables.impls S.mode refl p.constness p.trait_ref.def_id (given p.trait_ref.args) c h

-- a reference without a fault as a const bound has none as a trait reference
first-false : (a b : Bool) → a || b ≡ false → a ≡ false
first-false true b e = e
first-false false b e = refl

pub plain-accepted : (t : Tables) (a : TraitRef) → HasNoKindFault (λ f. lies_in_const_ref t [] f a) → HasNoKindFault (λ f. lies_in_trait_ref t [] f a)
plain-accepted t a h = (first-false _ _ h.0, first-false _ _ h.1, first-false _ _ h.2)

-- a rejected clause is of another trait, doesn't satisfy the goal, or has another argument
unsatisfied : (b u : Bool) → (b && true) && u ≡ false → b && u ≡ false
unsatisfied true u e = e
unsatisfied false u e = refl

rejected-const : (S : Setting) (a q : TraitRef) (c d : BoundConstness) → IsChecked S.tables → HasNoKindFault (λ f. lies_in_trait_ref S.tables [] f a) →
    HasNoKindFault (λ f. lies_in_trait_ref S.tables [] f q) → (s : Bool) → satisfies d c ≡ s →
    (is_trait q.def_id a.def_id && s) && lists_may_unify Rigid (trees_of q.args.items) (trees_of a.args.items) ≡ false →
    ConstAssumptionRefuted (level S 0) c a.def_id (given a.args) (holds_const d q.def_id (given q.args))
unfolding ConstAssumptionRefuted AssumptionRefuted
rejected-const S a q c d ok x y false e r = inr (inl e)
rejected-const S a q c d ok x y true e r =
    ⊎_elim (λ n. inl n) (λ u. inr (inr u))
    (rejected-trait S a q ok x y (is_trait q.def_id a.def_id) refl
    (unsatisfied (is_trait q.def_id a.def_id) (lists_may_unify Rigid (trees_of q.args.items) (trees_of a.args.items)) r))

pub rejected-effect : (S : Setting) (p : HostEffectPredicate) (k : ClauseKind) → IsChecked S.tables → HasNoKindFault (λ f. lies_in_const_ref S.tables [] f p.trait_ref) →
    IsAcceptedClause S.tables k → may_match_effect p k ≡ false → EffectCandidateRefuted p S 0 (said_by k)
unfolding ConstCandidateRefuted ConstAssumptionRefuted lies_in_clause_kind
rejected-effect S p (clause.HostEffect q) ok x y r =
    rejected-const S p.trait_ref q.trait_ref p.constness q.constness ok (plain-accepted S.tables p.trait_ref x) (plain-accepted S.tables q.trait_ref y)
    (satisfies q.constness p.constness) refl r
rejected-effect S p (clause.Trait q) ok x y r = tt
rejected-effect S p (clause.Projection q) ok x y r = tt

-- an impl that is refused is refuted: it isn't const, its header clashes, or it isn't positive
not-true : (b : Bool) → not b ≡ true → b ≡ false
not-true true e = absurd (cc)
not-true false e = refl

refused-by : (S : Setting) (m : TypingMode) (p : HostEffectPredicate) (i : ImplId) (r : ImplRow) → IsChecked S.tables → HasNoKindFault (λ f. lies_in_trait_ref S.tables [] f p.trait_ref) →
    impl_of S.tables i ≡ Some r → r.trait_id ≡ p.trait_ref.def_id → (b : Bool) → refuses_row m p.trait_ref r ≡ b → b || not r.is_const ≡ true →
    ConstImplRefuted m (level S 0) p.constness (given p.trait_ref.args) r
unfolding ConstImplRefuted
refused-by S m p i r ok x found same true e h = inr (inl (refused-impl S m p.trait_ref i r ok x found same e))
refused-by S m p i r ok x found same false e h = inl (not-true r.is_const h)

pub refused-const_impl : (S : Setting) (m : TypingMode) (p : HostEffectPredicate) (i : ImplId) (r : ImplRow) → IsChecked S.tables →
    HasNoKindFault (λ f. lies_in_const_ref S.tables [] f p.trait_ref) → impl_of S.tables i ≡ Some r → r.trait_id ≡ p.trait_ref.def_id →
    refuses_effect_row m p r ≡ true → ConstImplRefuted m (level S 0) p.constness (given p.trait_ref.args) r
refused-const_impl S m p i r ok x found same h = refused-by S m p i r ok (plain-accepted S.tables p.trait_ref x) found same (refuses_row m p.trait_ref r) refl h
