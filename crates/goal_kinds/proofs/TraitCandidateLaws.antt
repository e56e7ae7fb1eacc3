-- The laws of candidates for trait goals: more height keeps them, and what is rejected is refuted with no height.
use Rattle.std.proofs.Common.{◌≡◌, ◌≤◌, ◌==◌, ◌&&◌, ◌||◌, ℕ, Bool, true, false, not, cond, List, [], ◌∷◌, Option, Some, None, find, inl, inr, refl, sym, ◌∙◌, ap, subst, ◌⊎◌, eq-eqb}
use Rattle.std.proofs.lemmas.Bool.{false≢true, eqb-true}
use Rattle.goal_terms.specs.PredicateTrees.{PredicateTree, holds, equals, holds_const}
use Rattle.goal_terms.specs.Tree.{Tree}
use Rattle.goal_terms.specs.TreeOf.{trees_of}
use Rattle.goal_terms.specs.declared.ids.ImplId.{ImplId}
use Rattle.goal_terms.specs.declared.ids.TraitId.{TraitId}
use Rattle.goal_terms.specs.declared.modes.TypingMode.{TypingMode}
use Rattle.goal_terms.specs.declared.predicates.ClauseKind.{ClauseKind}
use Rattle.goal_terms.specs.declared.predicates.ClauseKind.TheVariants as clause
use Rattle.goal_terms.specs.declared.predicates.TraitRef.{TraitRef}
use Rattle.goal_tables.specs.Clauses.{lies_in_trait_ref, lies_in_clause_kind}
use Rattle.goal_tables.specs.Faults.{IsChecked}
use Rattle.goal_tables.specs.Rows.{impl_of}
use Rattle.goal_tables.specs.SourceFaults.{is_positive}
use Rattle.goal_tables.specs.declared.rows.ImplRow.{ImplRow}
use Rattle.goal_lists.specs.Builtins.{trait_rule}
use Rattle.goal_kinds.specs.CandidateRules.{HasNoKindFault, IsAcceptedClause, may_match, refuses_row, said_by, TraitCandidateHolds, TraitCandidateRefuted}
use Rattle.goal_lists.specs.Candidates.{Candidate, assumption, implied_bound, by_impl, built_in, error}
use Rattle.goal_lists.specs.FastReject.{lists_may_unify}
use Rattle.goal_lists.specs.KindedTerms.{IsAcceptedRef}
use Rattle.goal_lists.specs.Laws.{IsWithin, IsAmong}
use Rattle.goal_lists.specs.Level.{Level, nothing}
use Rattle.goal_lists.specs.Levels.{level}
use Rattle.goal_lists.specs.Premises.{Premise}
use Rattle.goal_lists.specs.RowWords.{given}
use Rattle.goal_lists.specs.Settings.{Setting}
use Rattle.goal_lists.specs.TraitGoals.{AssumptionHolds, AssumptionRefuted, ImplHolds, ImplRefuted, TraitRuleHolds, TraitRuleRefuted, CandidateHolds, CandidateRefuted, only_bars}
use Rattle.goal_lists.specs.Words.{Exists}
use Rattle.goal_lists.specs.declared.fast_reject.Parameters.TheVariants.{Rigid, Inferred}
use Rattle.goal_lists.proofs.AcceptedLemmas.{accepted-heads, rejected-clashes}
use Rattle.goal_lists.proofs.OtherHeadLemmas.{lists_unequal}
use Rattle.goal_lists.proofs.ListWords.{same_trait}
use Rattle.goal_lists.proofs.WithinGoals.{within-impl_holds_under, within-impl_refuted}
use Rattle.goal_lists.proofs.WithinLevels.{within-level}
use Rattle.goal_lists.proofs.WithinPremises.{within-premises_hold, within-premises_refuted}
use Rattle.goal_lists.proofs.WithinTerms.{within-pairs, within-some_pair}

-- a clause
assumption-higher : {L M : Level} → IsWithin L M → (i : TraitId) (args : List Tree) (p : PredicateTree) → AssumptionHolds L i args p → AssumptionHolds M i args p
unfolding AssumptionHolds
assumption-higher w i args (holds j bs) h = (h.0, within-pairs w bs args h.1)
assumption-higher w i args (equals a t) h = h
assumption-higher w i args (holds_const c j bs) h = h

assumption-higher_refuted : {L M : Level} → IsWithin L M → (i : TraitId) (args : List Tree) (p : PredicateTree) →
    AssumptionRefuted L i args p → AssumptionRefuted M i args p
unfolding AssumptionRefuted
assumption-higher_refuted w i args (holds j bs) h = elim h [ inl n ↦ inl n | inr q ↦ inr (within-some_pair w bs args q) ]
assumption-higher_refuted w i args (equals a t) h = h
assumption-higher_refuted w i args (holds_const c j bs) h = h

-- a built-in rule
rule-higher : {L M : Level} → IsWithin L M → (o : Option (List Premise)) → TraitRuleHolds L o → TraitRuleHolds M o
unfolding TraitRuleHolds
rule-higher w None h = h
rule-higher w (Some ps) h = within-premises_hold w ps h

rule-higher_refuted : {L M : Level} → IsWithin L M → (o : Option (List Premise)) → TraitRuleRefuted L o → TraitRuleRefuted M o
unfolding TraitRuleRefuted
rule-higher_refuted w None h = h
rule-higher_refuted w (Some ps) h = within-premises_refuted w ps h

-- a candidate holds at a greater height, too
pub candidate-higher : (a : TraitRef) (S : Setting) (n m : ℕ) (c : Candidate) → n ≤ m → TraitCandidateHolds a S n c → TraitCandidateHolds a S m c
unfolding CandidateHolds ImplHolds
candidate-higher a S n m (assumption p) le h = assumption-higher (within-level S n m le) a.def_id (given a.args) p h
candidate-higher a S n m (implied_bound b cs) le h = h
candidate-higher a S n m (by_impl r) le h = (h.0, within-impl_holds_under (within-level S n m le) r (given a.args) h.0 h.1)
candidate-higher a S n m built_in le h = rule-higher (within-level S n m le) (trait_rule S.tables a.def_id (given a.args)) h
candidate-higher a S n m error le h = h

pub candidate-higher_refuted : (a : TraitRef) (S : Setting) (n m : ℕ) (c : Candidate) → n ≤ m → TraitCandidateRefuted a S n c → TraitCandidateRefuted a S m c
unfolding CandidateRefuted
candidate-higher_refuted a S n m (assumption p) le h = assumption-higher_refuted (within-level S n m le) a.def_id (given a.args) p h
candidate-higher_refuted a S n m (implied_bound b cs) le h = h
candidate-higher_refuted a S n m (by_impl r) le h = within-impl_refuted (within-level S n m le) S.mode S.mode refl (given a.args) r h
candidate-higher_refuted a S n m built_in le h = rule-higher_refuted (within-level S n m le) (trait_rule S.tables a.def_id (given a.args)) h
candidate-higher_refuted a S n m error le h = h

-- a rejected clause of a trait is of another trait, or has another argument
pub rejected-trait : (S : Setting) (a q : TraitRef) → IsChecked S.tables → HasNoKindFault (λ f. lies_in_trait_ref S.tables [] f a) →
    HasNoKindFault (λ f. lies_in_trait_ref S.tables [] f q) → (b : Bool) → (q.def_id.0 == a.def_id.0) ≡ b →
    b && lists_may_unify Rigid (trees_of q.args.items) (trees_of a.args.items) ≡ false → AssumptionRefuted (level S 0) a.def_id (given a.args) (holds q.def_id (given q.args))
unfolding AssumptionRefuted level
rejected-trait S a q ok x y false e r = inl (λ same. false≢true (sym e ∙ eq-eqb q.def_id.0 a.def_id.0 (ap (λ i. i.0) same)))
rejected-trait S a q ok x y true e r =
    let same : q.def_id ≡ a.def_id = same_trait q.def_id a.def_id (eqb-true q.def_id.0 a.def_id.0 e) in
    inr (lists_unequal nothing (trees_of q.args.items) (trees_of a.args.items)
    (sym (accepted-heads S.tables a.def_id [] [] Rigid q.args.items a.args.items ok (subst (λ i. IsAcceptedRef S.tables [] i q.args.items) same y) x) ∙ r))

pub rejected-clause : (S : Setting) (a : TraitRef) (k : ClauseKind) → IsChecked S.tables → HasNoKindFault (λ f. lies_in_trait_ref S.tables [] f a) →
    IsAcceptedClause S.tables k → may_match a k ≡ false → TraitCandidateRefuted a S 0 (said_by k)
unfolding CandidateRefuted AssumptionRefuted lies_in_clause_kind
rejected-clause S a (clause.Trait q) ok x y r = rejected-trait S a q.trait_ref ok x y (q.trait_ref.def_id.0 == a.def_id.0) refl r
rejected-clause S a (clause.Projection q) ok x y r = tt
rejected-clause S a (clause.HostEffect q) ok x y r = tt

-- what a look-up finds is among the rows
found-step : {A : Type 0} (b : Bool) (o : Option A) (x y : A) (Rest : Type 0) → cond b (Some y) o ≡ Some x → (o ≡ Some x → Rest) → (y ≡ x) ⊎ Rest
found-step true o x y Rest e f = inl (cc)
found-step false o x y Rest e f = inr (f e)

pub found-among : (test : ImplRow → Bool) (rows : List ImplRow) (r : ImplRow) → find test rows ≡ Some r → IsAmong r rows
unfolding Exists
found-among test [] r e = absurd (cc)
found-among test (q ∷ rows) r e = found-step (test q) (find test rows) r q (IsAmong r rows) e (found-among test rows r)

-- an impl that is refused is refuted: its header clashes, or it isn't positive and bars no refutation
pub refused-positive : (b : Bool) → not b ≡ true → b ≡ false
refused-positive true e = absurd (cc)
refused-positive false e = refl

refused-by : (S : Setting) (m : TypingMode) (a : TraitRef) (r : ImplRow) → IsChecked S.tables → HasNoKindFault (λ f. lies_in_trait_ref S.tables [] f a) →
    IsAmong r S.tables.impls.items → r.trait_id ≡ a.def_id → (b : Bool) → lists_may_unify Inferred (trees_of a.args.items) (trees_of r.trait_args.items) ≡ b →
    not b || not (is_positive r.polarity || only_bars m r) ≡ true → ImplRefuted m (level S 0) (given a.args) r
unfolding ImplRefuted
refused-by S m a r ok x among same false e h =
    inr (inl (rejected-clashes S r [] a.args.items ok among (subst (λ i. IsAcceptedRef S.tables [] i a.args.items) (sym same) x) e))
refused-by S m a r ok x among same true e h = inl (refused-positive (is_positive r.polarity || only_bars m r) h)

pub refused-impl : (S : Setting) (m : TypingMode) (a : TraitRef) (i : ImplId) (r : ImplRow) → IsChecked S.tables → HasNoKindFault (λ f. lies_in_trait_ref S.tables [] f a) →
    impl_of S.tables i ≡ Some r → r.trait_id ≡ a.def_id → refuses_row m a r ≡ true → ImplRefuted m (level S 0) (given a.args) r
refused-impl S m a i r ok x found same h =
    refused-by S m a r ok x (found-among (λ q. q.id.0 == i.0) S.tables.impls.items r found) same
    (lists_may_unify Inferred (trees_of a.args.items) (trees_of r.trait_args.items)) refl h
