-- The term that an impl has for an item, over a consistent level: there is one, and then it isn't refuted.
use Rattle.std.proofs.Common.{◌≡◌, List, ◌++◌, Some, None, sym, ap, ◌∙◌, subst, ⊎_elim}
use Rattle.goal_terms.specs.Tree.{Tree}
use Rattle.goal_terms.specs.TreeOf.{trees_of}
use Rattle.goal_tables.specs.declared.rows.ImplRow.{ImplRow}
use Rattle.goal_lists.specs.Headers.{under, Fits}
use Rattle.goal_lists.specs.ImplTerms.{Said, an_error, the_alias, a_value, evaluated, not_said, said, Projection, trait_args, own_args, header_under, OtherImplHolds, OtherImplKnown, OtherImplRefuted, Taken, from_projection, from_impl, from_other, taken, Translated, KnownTranslated, TranslationRefuted, SaidGives, SaidRefuted, own_clauses, ImplGives, ImplTermRefuted}
use Rattle.goal_lists.specs.Laws.{IsConsistent}
use Rattle.goal_lists.specs.Level.{Level, HasHeadForm, HeadFormRefuted}
use Rattle.goal_lists.specs.Premises.{PremisesRefuted, clauses_under}
use Rattle.goal_lists.specs.Settings.{Setting}
use Rattle.goal_lists.specs.TraitGoals.{ImplHoldsUnder, header_of}
use Rattle.goal_lists.specs.Words.{OfRow}
use Rattle.goal_lists.proofs.CandidateLemmas.{one_impl_substitution, no_impl_refuted}
use Rattle.goal_lists.proofs.ContraryWords.{OfRow-twice}
use Rattle.goal_lists.proofs.EqualLemmas.{one_head_form, no_head_form_refuted}
use Rattle.goal_lists.proofs.PremiseLemmas.{no_premises_refuted}
use Rattle.goal_lists.proofs.SubstitutionLemmas.{one_substitution, no_fit_and_clash}

-- another impl that holds for a header gives the arguments that are known
other_impl-known : (L : Level) → IsConsistent L → (header own args known : List Tree) (q : ImplRow) →
    OtherImplHolds L header own args q → OtherImplKnown L header own known q → known ≡ args
unfolding OtherImplHolds OtherImplKnown Fits
other_impl-known L c header own args known q h k =
    let e : k.0 ≡ h.0 = one_substitution L c q.params.items (header_of q) header k.0 h.0 k.1 h.1.0 in
    k.2 ∙ ap (λ s. s ++ own) e ∙ sym h.3

-- its parameters are known
pub other_impl-holds : (L : Level) (header own args : List Tree) (q : ImplRow) → OtherImplHolds L header own args q → OtherImplKnown L header own args q
unfolding OtherImplHolds OtherImplKnown Fits
other_impl-holds L header own args q h = (h.0, h.1.0, h.3)

-- and it isn't refuted
pub no_other_impl_refuted : (L : Level) → IsConsistent L → (header own args : List Tree) (q : ImplRow) →
    OtherImplHolds L header own args q → OtherImplRefuted L header q → ⊥
unfolding OtherImplHolds OtherImplRefuted Fits
no_other_impl_refuted L c header own args q h k =
    ⊎_elim
    (λ x. no_fit_and_clash L c q.params.items (trees_of q.trait_args.items) header h.0 h.1 x)
    (λ u.
    let e : u.0 ≡ h.0 = one_substitution L c q.params.items (header_of q) header u.0 h.0 u.1 h.1.0 in
    no_premises_refuted L c (clauses_under h.0 q.predicates.items) h.2
    (subst (λ s. PremisesRefuted L (clauses_under s q.predicates.items)) e u.2))
    k

-- arguments for a definition are known
pub translation-known : (L : Level) (r : ImplRow) (s : List Tree) (p : Projection) (t : Taken) (args : List Tree) →
    Translated L r s p t args → KnownTranslated L r s p t args
unfolding Translated KnownTranslated OfRow
translation-known L r s p from_projection args h = h
translation-known L r s p from_impl args h = h
translation-known L r s p (from_other None) args h = h
translation-known L r s p (from_other (Some q)) args h = other_impl-holds L (header_under r s) (own_args p) args q h

-- and those that are known are the same
one_translation : (L : Level) → IsConsistent L → (r : ImplRow) (s : List Tree) (p : Projection) (t : Taken) (args known : List Tree) →
    Translated L r s p t args → KnownTranslated L r s p t known → known ≡ args
unfolding Translated KnownTranslated
one_translation L c r s p from_projection args known h k = k ∙ sym h
one_translation L c r s p from_impl args known h k = k ∙ sym h
one_translation L c r s p (from_other q) args known h k =
    OfRow-twice _ _ (λ o x y. other_impl-known L c (header_under r s) (own_args p) args known o x y) q h k

-- nor is it refuted that there are some
pub no_translation_refuted : (L : Level) → IsConsistent L → (r : ImplRow) (s : List Tree) (p : Projection) (t : Taken) (args : List Tree) →
    Translated L r s p t args → TranslationRefuted L r s t → ⊥
unfolding Translated TranslationRefuted
no_translation_refuted L c r s p from_projection args h k = k
no_translation_refuted L c r s p from_impl args h k = k
no_translation_refuted L c r s p (from_other q) args h k =
    OfRow-twice _ _ (λ o x y. no_other_impl_refuted L c (header_under r s) (own_args p) args o x y) q h k

-- what an impl says of an item gives one term
one_said_term : (S : Setting) (L : Level) → IsConsistent L → (r : ImplRow) (s : List Tree) (p : Projection) (itself : Tree) (x : Said) (t u : Tree) →
    SaidGives S L r s p itself x t → SaidGives S L r s p itself x u → t ≡ u
unfolding SaidGives
one_said_term S L c r s p itself (an_error n) t u h k = h ∙ sym k
one_said_term S L c r s p itself the_alias t u h k = h ∙ sym k
one_said_term S L c r s p itself (a_value w v) t u h k =
    let e : k.0 ≡ h.0 = one_translation L c r s p (taken S r w) h.0 k.0 h.1 (translation-known L r s p (taken S r w) k.0 k.1) in
    one_head_form L c.one_term (under h.0 v) t u h.2 (subst (λ args. HasHeadForm L (under args v) u) e k.2)
one_said_term S L c r s p itself (evaluated w) t u h k = absurd h
one_said_term S L c r s p itself not_said t u h k = absurd h

-- then it isn't refuted
pub no_said_refuted : (S : Setting) (L : Level) → IsConsistent L → (r : ImplRow) (s : List Tree) (p : Projection) (itself : Tree) (x : Said) (u : Tree) →
    SaidGives S L r s p itself x u → SaidRefuted S L r s p x → ⊥
unfolding SaidGives SaidRefuted
no_said_refuted S L c r s p itself (an_error n) u h k = k
no_said_refuted S L c r s p itself the_alias u h k = k
no_said_refuted S L c r s p itself (a_value w v) u h k =
    ⊎_elim
    (λ x. no_translation_refuted L c r s p (taken S r w) h.0 h.1 x)
    (λ x.
    let e : x.0 ≡ h.0 = one_translation L c r s p (taken S r w) h.0 x.0 h.1 x.1 in
    no_head_form_refuted L c.no_term_refuted (under h.0 v) u h.2 (subst (λ args. HeadFormRefuted L (under args v)) e x.2))
    k
no_said_refuted S L c r s p itself (evaluated w) u h k = h
no_said_refuted S L c r s p itself not_said u h k = h

-- an impl gives one term
pub one_impl_term : (S : Setting) (L : Level) → IsConsistent L → (p : Projection) (itself : Tree) (r : ImplRow) (t u : Tree) →
    ImplGives S L p itself r t → ImplGives S L p itself r u → t ≡ u
unfolding ImplGives ImplHoldsUnder Fits
one_impl_term S L c p itself r t u h k =
    let e : k.0 ≡ h.0 = one_impl_substitution L c r (trait_args p) h.0 k.0 h.1 k.1.1.0 in
    one_said_term S L c r h.0 p itself (said S r p.item) t u h.3 (subst (λ s. SaidGives S L r s p itself (said S r p.item) u) e k.3)

-- an impl that gives a term isn't refuted
pub no_impl_term_refuted : (S : Setting) (L : Level) → IsConsistent L → (p : Projection) (itself : Tree) (r : ImplRow) (u : Tree) →
    ImplGives S L p itself r u → ImplTermRefuted S L p r → ⊥
unfolding ImplGives ImplTermRefuted
no_impl_term_refuted S L c p itself r u h k =
    ⊎_elim
    (λ x. no_impl_refuted S.mode L c (trait_args p) r h.0 h.1 x)
    (λ x.
    let e : x.0 ≡ h.0 = one_impl_substitution L c r (trait_args p) h.0 x.0 h.1 x.1 in
    ⊎_elim
    (λ y. no_premises_refuted L c (own_clauses p) h.2 y)
    (λ y. no_said_refuted S L c r h.0 p itself (said S r p.item) u h.3 (subst (λ s. SaidRefuted S L r s p (said S r p.item)) e y))
    x.2)
    k
