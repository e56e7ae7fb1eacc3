-- Aliases of all kinds over a consistent level: an alias has one term, and then it isn't refuted.
use Rattle.std.proofs.Common.{◌≡◌, List, [], ◌∷◌, ◌++◌, Option, Some, None, sym, ◌∙◌, subst, ⊎_elim}
use Rattle.goal_terms.specs.Tree.{Tree}
use Rattle.goal_terms.specs.TreeOf.{tree_of_ty, tree_of_term}
use Rattle.goal_terms.specs.declared.ids.OpaqueId.{OpaqueId}
use Rattle.goal_terms.specs.declared.terms.AliasTermKind.{AliasTermKind}
use Rattle.goal_terms.specs.declared.terms.AliasTermKind.TheVariants.{ProjectionTy, ProjectionConst, InherentTy, InherentConst, OpaqueTy, FreeTy, FreeConst, UnevaluatedConst}
use Rattle.goal_terms.specs.declared.terms.Term.{Term}
use Rattle.goal_tables.specs.Rows.{free_of, inherent_of, inherent_impl_of, opaque_of}
use Rattle.goal_tables.specs.declared.rows.FreeRow.{FreeRow}
use Rattle.goal_tables.specs.declared.rows.InherentImplRow.{InherentImplRow}
use Rattle.goal_tables.specs.declared.rows.InherentRow.{InherentRow}
use Rattle.goal_tables.specs.declared.rows.OpaqueRow.{OpaqueRow}
use Rattle.goal_lists.specs.Aliases.{ValueGives, ValueRefuted, FreeGives, FreeRefuted, self_header, InherentGives, InherentRefuted, InherentAliasGives, InherentAliasRefuted, OpaqueGives, OpaqueRefuted, AliasGives, AliasRefuted}
use Rattle.goal_lists.specs.Headers.{under, Fits}
use Rattle.goal_lists.specs.Laws.{IsConsistent}
use Rattle.goal_lists.specs.Level.{Level}
use Rattle.goal_lists.specs.Premises.{PremisesRefuted, clauses_under}
use Rattle.goal_lists.specs.Settings.{Setting, leaves_open, takes_checked, reveals}
use Rattle.goal_lists.proofs.ContraryWords.{OfRow-twice, Either-twice}
use Rattle.goal_lists.proofs.EqualLemmas.{one_head_form, no_head_form_refuted}
use Rattle.goal_lists.specs.declared.lists.FirstUse.TheVariants as first
use Rattle.goal_lists.proofs.HiddenLemmas.{one_hidden_term, no_hidden_refuted}
use Rattle.goal_lists.proofs.PremiseLemmas.{no_premises_refuted}
use Rattle.goal_lists.proofs.ProjectionLemmas.{one_projection_term, no_projection_refuted}
use Rattle.goal_lists.proofs.SubstitutionLemmas.{one_substitution, no_fit_and_clash}

-- a value has one head form
one_value_term : (L : Level) → IsConsistent L → (args : List Tree) (o : Option Term) (t u : Tree) → ValueGives L args o t → ValueGives L args o u → t ≡ u
unfolding ValueGives
one_value_term L c args None t u h k = absurd h
one_value_term L c args (Some e) t u h k = one_head_form L c.one_term (under args (tree_of_term e)) t u h k

-- then it isn't refuted
no_value_refuted : (L : Level) → IsConsistent L → (args : List Tree) (o : Option Term) (u : Tree) → ValueGives L args o u → ValueRefuted L args o → ⊥
unfolding ValueGives ValueRefuted
no_value_refuted L c args None u h k = h
no_value_refuted L c args (Some e) u h k = no_head_form_refuted L c.no_term_refuted (under args (tree_of_term e)) u h k

-- a free alias has one term
one_free_term : (L : Level) → IsConsistent L → (args : List Tree) (t u : Tree) (r : FreeRow) → FreeGives L args t r → FreeGives L args u r → t ≡ u
unfolding FreeGives
one_free_term L c args t u r h k = one_value_term L c args r.value t u h.1 k.1

-- then it isn't refuted
no_free_refuted : (L : Level) → IsConsistent L → (args : List Tree) (u : Tree) (r : FreeRow) → FreeGives L args u r → FreeRefuted L args r → ⊥
unfolding FreeGives FreeRefuted
no_free_refuted L c args u r h k =
    ⊎_elim
    (λ x. no_premises_refuted L c (clauses_under args r.predicates.items) h.0 x)
    (λ x. no_value_refuted L c args r.value u h.1 x)
    k

-- an inherent alias has one term
one_inherent_term : (L : Level) → IsConsistent L → (self : Tree) (own : List Tree) (t u : Tree) (r : InherentRow) (q : InherentImplRow) →
    InherentGives L self own t r q → InherentGives L self own u r q → t ≡ u
unfolding InherentGives Fits
one_inherent_term L c self own t u r q h k =
    let e : k.0 ≡ h.0 = one_substitution L c q.params.items (self_header q) (self ∷ []) k.0 h.0 k.1.0 h.1.0 in
    one_value_term L c (h.0 ++ own) r.value t u h.3 (subst (λ s. ValueGives L (s ++ own) r.value u) e k.3)

-- then it isn't refuted
no_inherent_refuted : (L : Level) → IsConsistent L → (self : Tree) (own : List Tree) (u : Tree) (r : InherentRow) (q : InherentImplRow) →
    InherentGives L self own u r q → InherentRefuted L self own r q → ⊥
unfolding InherentGives InherentRefuted Fits
no_inherent_refuted L c self own u r q h k =
    ⊎_elim
    (λ x. no_fit_and_clash L c q.params.items (tree_of_ty q.self_ty ∷ []) (self ∷ []) h.0 h.1 x)
    (λ x.
    let e : x.0 ≡ h.0 = one_substitution L c q.params.items (self_header q) (self ∷ []) x.0 h.0 x.1 h.1.0 in
    ⊎_elim
    (λ y. no_premises_refuted L c (clauses_under (h.0 ++ own) r.predicates.items) h.2
    (subst (λ s. PremisesRefuted L (clauses_under (s ++ own) r.predicates.items)) e y))
    (λ y. no_value_refuted L c (h.0 ++ own) r.value u h.3 (subst (λ s. ValueRefuted L (s ++ own) r.value) e y))
    x.2)
    k

-- by the rows of its item and impl, an inherent alias has one term
one_inherent_alias_term : (S : Setting) (L : Level) → IsConsistent L → (o : Option InherentRow) (args : List Tree) (t u : Tree) →
    InherentAliasGives S L o args t → InherentAliasGives S L o args u → t ≡ u
unfolding InherentAliasGives
one_inherent_alias_term S L c o [] t u h k = absurd h
one_inherent_alias_term S L c o (self ∷ own) t u h k =
    OfRow-twice _ _ (λ r x y. OfRow-twice _ _ (one_inherent_term L c self own t u r) (inherent_impl_of S.tables r.impl_id) x y) o h k

-- and by these rows it isn't refuted then
no_inherent_alias_refuted : (S : Setting) (L : Level) → IsConsistent L → (o : Option InherentRow) (args : List Tree) (u : Tree) →
    InherentAliasGives S L o args u → InherentAliasRefuted S L o args → ⊥
unfolding InherentAliasGives InherentAliasRefuted
no_inherent_alias_refuted S L c o [] u h k = h
no_inherent_alias_refuted S L c o (self ∷ own) u h k =
    OfRow-twice _ _ (λ r x y. OfRow-twice _ _ (no_inherent_refuted L c self own u r) (inherent_impl_of S.tables r.impl_id) x y) o h k

-- an opaque type has one term
one_opaque_term : (S : Setting) (L : Level) → IsConsistent L → (i : OpaqueId) (args : List Tree) (t u : Tree) (r : OpaqueRow) →
    OpaqueGives S L i args t r → OpaqueGives S L i args u r → t ≡ u
unfolding OpaqueGives
one_opaque_term S L c i args t u r h k =
    Either-twice _ _ _ _ (λ x y. absurd x)
    (λ x y. Either-twice _ _ _ _ (λ z w. one_hidden_term L c first.TypeChecked args (tree_of_ty r.typeck_hidden) r.bounds.items t u z w)
    (λ p q. Either-twice _ _ _ _ (λ z w. one_head_form L c.one_term (under args (tree_of_ty r.hidden)) t u z w) (λ z w. z ∙ sym w) (reveals S.mode r) p q)
    (takes_checked S.mode r) x y)
    (leaves_open S.mode r) h k

-- then it isn't refuted
no_opaque_refuted : (S : Setting) (L : Level) → IsConsistent L → (i : OpaqueId) (args : List Tree) (u : Tree) (r : OpaqueRow) →
    OpaqueGives S L i args u r → OpaqueRefuted S L args r → ⊥
unfolding OpaqueGives OpaqueRefuted
no_opaque_refuted S L c i args u r h k =
    Either-twice _ _ _ _ (λ x y. x)
    (λ x y. Either-twice _ _ _ _ (λ z w. no_hidden_refuted L c first.TypeChecked args (tree_of_ty r.typeck_hidden) r.bounds.items u z w)
    (λ p q. Either-twice _ _ _ _ (λ z w. no_head_form_refuted L c.no_term_refuted (under args (tree_of_ty r.hidden)) u z w) (λ z w. w) (reveals S.mode r) p q)
    (takes_checked S.mode r) x y)
    (leaves_open S.mode r) h k

-- an alias has one term
pub one_alias_term : (S : Setting) (L : Level) → IsConsistent L → (k : AliasTermKind) (args : List Tree) (t u : Tree) →
    AliasGives S L k args t → AliasGives S L k args u → t ≡ u
unfolding AliasGives
one_alias_term S L c (ProjectionTy i) args t u h k = one_projection_term S L c (ProjectionTy i) i args t u h k
one_alias_term S L c (ProjectionConst i) args t u h k = one_projection_term S L c (ProjectionConst i) i args t u h k
one_alias_term S L c (InherentTy i) args t u h k = one_inherent_alias_term S L c (inherent_of S.tables i) args t u h k
one_alias_term S L c (InherentConst i) args t u h k = one_inherent_alias_term S L c (inherent_of S.tables i) args t u h k
one_alias_term S L c (OpaqueTy i) args t u h k = OfRow-twice _ _ (one_opaque_term S L c i args t u) (opaque_of S.tables i) h k
one_alias_term S L c (FreeTy i) args t u h k = OfRow-twice _ _ (one_free_term L c args t u) (free_of S.tables i) h k
one_alias_term S L c (FreeConst i) args t u h k = OfRow-twice _ _ (one_free_term L c args t u) (free_of S.tables i) h k
one_alias_term S L c (UnevaluatedConst n) args t u h k = absurd h

-- an alias that has a term isn't refuted
pub no_alias_refuted : (S : Setting) (L : Level) → IsConsistent L → (k : AliasTermKind) (args : List Tree) (u : Tree) →
    AliasGives S L k args u → AliasRefuted S L k args → ⊥
unfolding AliasGives AliasRefuted
no_alias_refuted S L c (ProjectionTy i) args u h k = no_projection_refuted S L c (ProjectionTy i) i args u h k
no_alias_refuted S L c (ProjectionConst i) args u h k = no_projection_refuted S L c (ProjectionConst i) i args u h k
no_alias_refuted S L c (InherentTy i) args u h k = no_inherent_alias_refuted S L c (inherent_of S.tables i) args u h k
no_alias_refuted S L c (InherentConst i) args u h k = no_inherent_alias_refuted S L c (inherent_of S.tables i) args u h k
no_alias_refuted S L c (OpaqueTy i) args u h k = OfRow-twice _ _ (no_opaque_refuted S L c i args u) (opaque_of S.tables i) h k
no_alias_refuted S L c (FreeTy i) args u h k = OfRow-twice _ _ (no_free_refuted L c args u) (free_of S.tables i) h k
no_alias_refuted S L c (FreeConst i) args u h k = OfRow-twice _ _ (no_free_refuted L c args u) (free_of S.tables i) h k
no_alias_refuted S L c (UnevaluatedConst n) args u h k = h
