-- The terms of projections above a level are those above another, in an alike setting, if all goals of the one level are of the other.
use Rattle.std.proofs.Common.{inl, inr, List, [], ◌∷◌, length, take, Vec, Global, sym, subst}
use Rattle.goal_terms.specs.PredicateTrees.{PredicateTree, holds, equals, holds_const}
use Rattle.goal_terms.specs.Tree.{Tree, node, alias, variable, list_of, forest}
use Rattle.goal_terms.specs.declared.answers.TraitGoalProvenVia.{TraitGoalProvenVia}
use Rattle.goal_terms.specs.declared.ids.ItemId.{ItemId}
use Rattle.goal_terms.specs.declared.modes.TypingMode.{TypingMode}
use Rattle.goal_terms.specs.declared.terms.AliasTermKind.{AliasTermKind}
use Rattle.goal_tables.specs.Rows.{trait_of, item_of}
use Rattle.goal_tables.specs.declared.rows.ImplRow.{ImplRow}
use Rattle.goal_tables.specs.declared.rows.ItemRow.{ItemRow}
use Rattle.goal_tables.specs.declared.rows.TraitRow.{TraitRow}
use Rattle.goal_lists.specs.Builtins.{Listed, nothing_listed, listed, listed_rigid, listed_by_size, term_rule}
use Rattle.goal_lists.specs.Candidates.{Candidate, assumption, implied_bound, by_impl, built_in, error, environment}
use Rattle.goal_lists.specs.ImplTerms.{Projection, own_clauses, trait_args, own_args}
use Rattle.goal_lists.specs.Laws.{IsWithin, IsAlike, with_impls_and_mode}
use Rattle.goal_lists.specs.Level.{Level, HasHeadForm}
use Rattle.goal_lists.specs.Projections.{EquationGives, EquationRefuted, AssumptionGives, AssumptionTermRefuted, self_of, ListedGives, ListedRefuted, CandidateGives, TermRefuted, TermDecides, TermRuledOut, GroupGives, GroupRefuted, OwnFormed, OwnUnformed, GroupsGive, GroupsRefuted, asked, ItemGives, ItemRefuted, ProjectionGives, ProjectionRefuted}
use Rattle.goal_lists.specs.Settings.{Setting}
use Rattle.goal_lists.proofs.AlikeCandidates.{alike-second_group}
use Rattle.goal_lists.proofs.Members.{HasSameElements, same_elements-self, exists-map_same, each-map_same}
use Rattle.goal_lists.proofs.OtherImpls.{other_impls-term_rule}
use Rattle.goal_lists.proofs.WithinGoals.{within-passed_over, within-decides}
use Rattle.goal_lists.proofs.WithinImplTerms.{within-impl_gives, within-impl_term_refuted}
use Rattle.goal_lists.proofs.WithinPremises.{within-premises_hold, within-premises_refuted, within-clause_holds}
use Rattle.goal_lists.proofs.WithinTerms.{within-pairs, within-some_pair, within-has_head_form, within-head_form_refuted}
use Rattle.goal_lists.proofs.WithinWords.{each-map, exists-map, of_row-map, sum-map}

-- a clause that two terms are equal
within-equation_gives : {L M : Level} → IsWithin L M → (p : Projection) (a v u : Tree) → EquationGives L p a v u → EquationGives M p a v u
unfolding EquationGives
within-equation_gives w p (node h bs) v u g = g
within-equation_gives w p (alias k bs) v u g =
    (g.0, within-pairs w (list_of bs) p.args g.1, within-premises_hold w (own_clauses p) g.2, within-has_head_form w v u g.3)
within-equation_gives w p (variable x) v u g = g

within-equation_refuted : {L M : Level} → IsWithin L M → (p : Projection) (a v : Tree) → EquationRefuted L p a v → EquationRefuted M p a v
unfolding EquationRefuted
within-equation_refuted w p (node h bs) v g = g
within-equation_refuted w p (alias k bs) v (inl n) = inl n
within-equation_refuted w p (alias k bs) v (inr (inl g)) = inr (inl (within-some_pair w (list_of bs) p.args g))
within-equation_refuted w p (alias k bs) v (inr (inr (inl g))) = inr (inr (inl (within-premises_refuted w (own_clauses p) g)))
within-equation_refuted w p (alias k bs) v (inr (inr (inr g))) = inr (inr (inr (within-head_form_refuted w v g)))
within-equation_refuted w p (variable x) v g = g

-- a clause gives a projection's term, or none
within-assumption_gives : {L M : Level} → IsWithin L M → (p : Projection) (q : PredicateTree) (u : Tree) → AssumptionGives L p q u → AssumptionGives M p q u
unfolding AssumptionGives
within-assumption_gives w p (equals a v) u g = within-equation_gives w p a v u g
within-assumption_gives w p (holds i ts) u g = g
within-assumption_gives w p (holds_const c i ts) u g = g

within-assumption_term_refuted : {L M : Level} → IsWithin L M → (p : Projection) (q : PredicateTree) → AssumptionTermRefuted L p q → AssumptionTermRefuted M p q
unfolding AssumptionTermRefuted
within-assumption_term_refuted w p (equals a v) g = within-equation_refuted w p a v g
within-assumption_term_refuted w p (holds i ts) g = g
within-assumption_term_refuted w p (holds_const c i ts) g = g

-- what a built-in rule lists gives a term, or none
within-listed_gives : {L M : Level} → IsWithin L M → (p : Projection) (itself : Tree) (l : Listed) (u : Tree) → ListedGives L p itself l u → ListedGives M p itself l u
unfolding ListedGives
within-listed_gives w p itself nothing_listed u g = g
within-listed_gives w p itself (listed ps v) u g = (within-premises_hold w ps g.0, within-has_head_form w v u g.1)
within-listed_gives w p itself listed_rigid u g = g
within-listed_gives w p itself (listed_by_size sized) u (inl g) = inl (within-clause_holds w (holds sized (self_of p.args)) g.0, g.1)
within-listed_gives w p itself (listed_by_size sized) u (inr g) = inr (w.trait_refuted sized (self_of p.args) g.0, g.1)

within-listed_refuted : {L M : Level} → IsWithin L M → (l : Listed) → ListedRefuted L l → ListedRefuted M l
unfolding ListedRefuted
within-listed_refuted w nothing_listed g = g
within-listed_refuted w (listed ps v) g = sum-map (within-premises_refuted w ps) (within-head_form_refuted w v) g
within-listed_refuted w listed_rigid g = g
within-listed_refuted w (listed_by_size sized) g = g

-- a candidate gives a projection's term, or none
pub within-candidate_gives : {L M : Level} {S : Setting} {v : Vec ImplRow Global} {m : TypingMode} → IsWithin L M → IsAlike S v m →
    (p : Projection) (itself u : Tree) (c : Candidate) → CandidateGives S L p itself u c → CandidateGives (with_impls_and_mode S v m) M p itself u c
unfolding CandidateGives
within-candidate_gives w a p itself u (assumption q) g = within-assumption_gives w p q u g
within-candidate_gives w a p itself u (implied_bound b cs) g = g
within-candidate_gives w a p itself u (by_impl r) g = within-impl_gives w a p itself r u g
within-candidate_gives {M = M} {S = S} {v} w a p itself u built_in g =
    subst (λ l. ListedGives M p itself l u) (sym (other_impls-term_rule S.tables v p.item.id p.args))
    (within-listed_gives w p itself (term_rule S.tables p.item.id p.args) u g)
within-candidate_gives w a p itself u error g = g

pub within-term_refuted : {L M : Level} {S : Setting} {v : Vec ImplRow Global} {m : TypingMode} → IsWithin L M → IsAlike S v m →
    (p : Projection) (c : Candidate) → TermRefuted S L p c → TermRefuted (with_impls_and_mode S v m) M p c
unfolding TermRefuted
within-term_refuted w a p (assumption q) g = within-assumption_term_refuted w p q g
within-term_refuted w a p (implied_bound b cs) g = g
within-term_refuted w a p (by_impl r) g = within-impl_term_refuted w a p r g
within-term_refuted {M = M} {S = S} {v} w a p built_in g =
    subst (ListedRefuted M) (sym (other_impls-term_rule S.tables v p.item.id p.args)) (within-listed_refuted w (term_rule S.tables p.item.id p.args) g)
within-term_refuted w a p error g = g

-- a candidate gives a projection's term and decides, or is ruled out
within-term_decides : {L M : Level} {S : Setting} {v : Vec ImplRow Global} {m : TypingMode} → IsWithin L M → IsAlike S v m →
    (p : Projection) (itself u : Tree) (c : Candidate) → TermDecides S L p itself u c → TermDecides (with_impls_and_mode S v m) M p itself u c
within-term_decides w a p itself u c g = (within-candidate_gives w a p itself u c g.0, within-decides w a (trait_args p) c g.1)

within-term_ruled_out : {L M : Level} {S : Setting} {v : Vec ImplRow Global} {m : TypingMode} → IsWithin L M → IsAlike S v m →
    (p : Projection) (c : Candidate) → TermRuledOut S L p c → TermRuledOut (with_impls_and_mode S v m) M p c
within-term_ruled_out w a p c g = sum-map (within-term_refuted w a p c) (within-passed_over w a (trait_args p) c) g

-- a group gives a term, or none
within-group_gives : {L M : Level} {S : Setting} {v : Vec ImplRow Global} {m : TypingMode} → IsWithin L M → IsAlike S v m →
    (p : Projection) (itself : Tree) (cs ds : List Candidate) → HasSameElements cs ds → (u : Tree) →
    GroupGives S L p itself cs u → GroupGives (with_impls_and_mode S v m) M p itself ds u
unfolding GroupGives
within-group_gives w a p itself cs ds e u g = (
  exists-map_same cs ds e (within-term_decides w a p itself u) g.0,
  each-map_same cs ds e (λ c. sum-map (within-candidate_gives w a p itself u c) (within-term_ruled_out w a p c)) g.1,
)

within-group_refuted : {L M : Level} {S : Setting} {v : Vec ImplRow Global} {m : TypingMode} → IsWithin L M → IsAlike S v m →
    (p : Projection) (cs ds : List Candidate) → HasSameElements cs ds → GroupRefuted S L p cs → GroupRefuted (with_impls_and_mode S v m) M p ds
unfolding GroupRefuted
within-group_refuted w a p cs ds e g = each-map_same cs ds e (within-term_ruled_out w a p) g

-- the own arguments of an item
within-own_formed : {L M : Level} → IsWithin L M → (p : Projection) → OwnFormed L p → OwnFormed M p
unfolding OwnFormed
within-own_formed {L} {M} w p g =
    each-map {P = λ a. (f : Tree) × HasHeadForm L a f} {Q = λ a. (f : Tree) × HasHeadForm M a f} (λ t h. (h.0, within-has_head_form w t h.0 h.1)) (own_args p) g

within-own_unformed : {L M : Level} → IsWithin L M → (p : Projection) → OwnUnformed L p → OwnUnformed M p
unfolding OwnUnformed
within-own_unformed w p g = exists-map (within-head_form_refuted w) (own_args p) g

-- the groups give a projection's term
within-groups_give : {L M : Level} {S : Setting} {v : Vec ImplRow Global} {m : TypingMode} → IsWithin L M → IsAlike S v m →
    (c : TraitGoalProvenVia) (p : Projection) (itself given : Tree) (cs ds : List Candidate) → HasSameElements cs ds → (u : Tree) →
    GroupsGive S L c p itself given cs u → GroupsGive (with_impls_and_mode S v m) M c p itself given ds u
unfolding GroupsGive
within-groups_give {S = S} w a c p itself given cs ds e u (inl g) =
    inl (within-group_gives w a p itself (environment S) (environment S) (same_elements-self (environment S)) u g.0, within-own_formed w p g.1)
within-groups_give {S = S} w a c p itself given cs ds e u (inr (inl g)) = inr (inl (
  within-group_refuted w a p (environment S) (environment S) (same_elements-self (environment S)) g.0,
  within-group_gives w a p itself cs ds e u g.1,
  sum-map (λ h. h) (within-own_formed w p) g.2,
))
within-groups_give {S = S} w a c p itself given cs ds e u (inr (inr g)) = inr (inr (
  within-group_refuted w a p (environment S) (environment S) (same_elements-self (environment S)) g.0,
  within-group_refuted w a p cs ds e g.1,
  g.2,
  g.3,
))

-- they give none
within-groups_refuted : {L M : Level} {S : Setting} {v : Vec ImplRow Global} {m : TypingMode} → IsWithin L M → IsAlike S v m →
    (c : TraitGoalProvenVia) (p : Projection) (itself : Tree) (cs ds : List Candidate) → HasSameElements cs ds →
    GroupsRefuted S L c p itself cs → GroupsRefuted (with_impls_and_mode S v m) M c p itself ds
unfolding GroupsRefuted
within-groups_refuted {S = S} w a c p itself cs ds e (inl g) = inl (
  within-group_refuted w a p (environment S) (environment S) (same_elements-self (environment S)) g.0,
  within-group_refuted w a p cs ds e g.1,
  g.2,
)
within-groups_refuted {S = S} w a c p itself cs ds e (inr (inl g)) = inr (inl (
  (g.0.0, within-group_gives w a p itself (environment S) (environment S) (same_elements-self (environment S)) g.0.0 g.0.1),
  within-own_unformed w p g.1,
))
within-groups_refuted {S = S} w a c p itself cs ds e (inr (inr g)) = inr (inr (
  within-group_refuted w a p (environment S) (environment S) (same_elements-self (environment S)) g.0,
  (g.1.0, within-group_gives w a p itself cs ds e g.1.0 g.1.1),
  g.2,
  within-own_unformed w p g.3,
))

-- a projection has a term, or none
within-item_gives : {L M : Level} {S : Setting} {v : Vec ImplRow Global} {m : TypingMode} → IsWithin L M → IsAlike S v m →
    (k : AliasTermKind) (args : List Tree) (u : Tree) (q : ItemRow) (r : TraitRow) → ItemGives S L k args u q r → ItemGives (with_impls_and_mode S v m) M k args u q r
unfolding ItemGives
within-item_gives w a k [] u q r g = g
within-item_gives w a k (self ∷ args) u q r g = (
  g.0,
  g.1,
  w.through g.0 q.trait_id (take (length r.params.items) (self ∷ args)) g.2,
  within-has_head_form w self g.1 g.3,
  within-groups_give w a g.0 (asked q r (g.1 ∷ args)) (alias k (forest (g.1 ∷ args))) (alias k (forest (self ∷ args))) _ _
      (alike-second_group a q.trait_id g.1 g.0) u g.4,
)

within-item_refuted : {L M : Level} {S : Setting} {v : Vec ImplRow Global} {m : TypingMode} → IsWithin L M → IsAlike S v m →
    (k : AliasTermKind) (args : List Tree) (q : ItemRow) (r : TraitRow) → ItemRefuted S L k args q r → ItemRefuted (with_impls_and_mode S v m) M k args q r
unfolding ItemRefuted
within-item_refuted w a k [] q r g = g
within-item_refuted w a k (self ∷ args) q r (inl g) = inl (w.trait_refuted q.trait_id (take (length r.params.items) (self ∷ args)) g)
within-item_refuted w a k (self ∷ args) q r (inr g) = inr (
  g.0,
  g.1,
  w.through g.0 q.trait_id (take (length r.params.items) (self ∷ args)) g.2,
  within-has_head_form w self g.1 g.3,
  within-groups_refuted w a g.0 (asked q r (g.1 ∷ args)) (alias k (forest (g.1 ∷ args))) _ _ (alike-second_group a q.trait_id g.1 g.0) g.4,
)

-- by the item's row and its trait's
pub within-projection_gives : {L M : Level} {S : Setting} {v : Vec ImplRow Global} {m : TypingMode} → IsWithin L M → IsAlike S v m →
    (k : AliasTermKind) (i : ItemId) (args : List Tree) (u : Tree) → ProjectionGives S L k i args u → ProjectionGives (with_impls_and_mode S v m) M k i args u
unfolding ProjectionGives
within-projection_gives {S = S} w a k i args u g =
    of_row-map (item_of S.tables i) (λ q. of_row-map (trait_of S.tables q.trait_id) (within-item_gives w a k args u q)) g

pub within-projection_refuted : {L M : Level} {S : Setting} {v : Vec ImplRow Global} {m : TypingMode} → IsWithin L M → IsAlike S v m →
    (k : AliasTermKind) (i : ItemId) (args : List Tree) → ProjectionRefuted S L k i args → ProjectionRefuted (with_impls_and_mode S v m) M k i args
unfolding ProjectionRefuted
within-projection_refuted {S = S} w a k i args g =
    of_row-map (item_of S.tables i) (λ q. of_row-map (trait_of S.tables q.trait_id) (within-item_refuted w a k args q)) g
