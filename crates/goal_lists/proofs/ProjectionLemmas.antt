-- Projections over a consistent level: a projection has one term, and then it isn't refuted.
use Rattle.std.proofs.Common.{◌≡◌, ◌⊎◌, List, [], ◌∷◌, length, take, sym, ◌∙◌, subst₂, ⊎_elim}
use Rattle.goal_terms.specs.Tree.{Tree, alias, forest}
use Rattle.goal_terms.specs.declared.answers.TraitGoalProvenVia.{TraitGoalProvenVia}
use Rattle.goal_terms.specs.declared.ids.ItemId.{ItemId}
use Rattle.goal_terms.specs.declared.terms.AliasTermKind.{AliasTermKind}
use Rattle.goal_tables.specs.Rows.{trait_of, item_of}
use Rattle.goal_tables.specs.declared.rows.ItemRow.{ItemRow}
use Rattle.goal_tables.specs.declared.rows.TraitRow.{TraitRow}
use Rattle.goal_lists.specs.Candidates.{Candidate, environment, second_group}
use Rattle.goal_lists.specs.ImplTerms.{Projection, own_args}
use Rattle.goal_lists.specs.Laws.{IsConsistent}
use Rattle.goal_lists.specs.Level.{Level}
use Rattle.goal_lists.specs.Projections.{CandidateGives, TermDecides, TermRuledOut, GroupGives, GroupRefuted, OwnFormed, OwnUnformed, GroupsGive, GroupsRefuted, asked, ItemGives, ItemRefuted, ProjectionGives, ProjectionRefuted}
use Rattle.goal_lists.specs.Settings.{Setting}
use Rattle.goal_lists.proofs.ContraryWords.{Exists-Each, OfRow-twice}
use Rattle.goal_lists.proofs.EqualLemmas.{one_head_form, no_head_form_refuted}
use Rattle.goal_lists.proofs.TermCandidateLemmas.{no_term_ruled_out, one_decided_term}

-- a group gives one term: that of each candidate which gives one and isn't passed over
pub one_group_term : (S : Setting) (L : Level) → IsConsistent L → (p : Projection) (itself : Tree) (xs : List Candidate) (t u : Tree) →
    GroupGives S L p itself xs t → GroupGives S L p itself xs u → t ≡ u
unfolding GroupGives
one_group_term S L c p itself xs t u h k =
    Exists-Each (TermDecides S L p itself t) (λ x. CandidateGives S L p itself u x ⊎ TermRuledOut S L p x)
    (one_decided_term S L c p itself t u) xs h.0 k.1

-- then not all of its candidates are ruled out
pub no_group_refuted : (S : Setting) (L : Level) → IsConsistent L → (p : Projection) (itself : Tree) (xs : List Candidate) (u : Tree) →
    GroupGives S L p itself xs u → GroupRefuted S L p xs → ⊥
unfolding GroupGives GroupRefuted
no_group_refuted S L c p itself xs u h k = Exists-Each _ _ (no_term_ruled_out S L c p itself u) xs h.0 k

-- own arguments that have head forms aren't refuted
no_own_refuted : (L : Level) → IsConsistent L → (p : Projection) → OwnFormed L p → OwnUnformed L p → ⊥
unfolding OwnFormed OwnUnformed
no_own_refuted L c p h k = Exists-Each _ _ (λ a x y. no_head_form_refuted L c.no_term_refuted a y.0 y.1 x) (own_args p) k h

-- the groups give one term
one_groups_term : (S : Setting) (L : Level) → IsConsistent L → (v : TraitGoalProvenVia) (p : Projection) (itself given : Tree) (xs : List Candidate) (t u : Tree) →
    GroupsGive S L v p itself given xs t → GroupsGive S L v p itself given xs u → t ≡ u
unfolding GroupsGive
one_groups_term S L c v p itself given xs t u h k =
    ⊎_elim
    (λ x.
    ⊎_elim
    (λ y. one_group_term S L c p itself (environment S) t u x.0 y.0)
    (⊎_elim
    (λ y. absurd (no_group_refuted S L c p itself (environment S) t x.0 y.0))
    (λ y. absurd (no_group_refuted S L c p itself (environment S) t x.0 y.0)))
    k)
    (⊎_elim
    (λ x.
    ⊎_elim
    (λ y. absurd (no_group_refuted S L c p itself (environment S) u y.0 x.0))
    (⊎_elim
    (λ y. one_group_term S L c p itself xs t u x.1 y.1)
    (λ y. absurd (no_group_refuted S L c p itself xs t x.1 y.1)))
    k)
    (λ x.
    ⊎_elim
    (λ y. absurd (no_group_refuted S L c p itself (environment S) u y.0 x.0))
    (⊎_elim
    (λ y. absurd (no_group_refuted S L c p itself xs u y.1 x.1))
    (λ y. x.3 ∙ sym y.3))
    k))
    h

-- then they aren't refuted
no_groups_refuted : (S : Setting) (L : Level) → IsConsistent L → (v : TraitGoalProvenVia) (p : Projection) (itself given : Tree) (xs : List Candidate) (u : Tree) →
    GroupsGive S L v p itself given xs u → GroupsRefuted S L v p itself xs → ⊥
unfolding GroupsGive GroupsRefuted
no_groups_refuted S L c v p itself given xs u h k =
    ⊎_elim
    (λ x.
    ⊎_elim
    (λ y. no_group_refuted S L c p itself (environment S) u x.0 y.0)
    (⊎_elim
    (λ y. no_own_refuted L c p x.1 y.1)
    (λ y. no_group_refuted S L c p itself (environment S) u x.0 y.0))
    k)
    (⊎_elim
    (λ x.
    ⊎_elim
    (λ y. no_group_refuted S L c p itself xs u x.1 y.1)
    (⊎_elim
    (λ y. no_group_refuted S L c p itself (environment S) y.0.0 y.0.1 x.0)
    (λ y. ⊎_elim (λ m. y.2 m) (λ m. no_own_refuted L c p m y.3) x.2))
    k)
    (λ x.
    ⊎_elim
    (λ y. x.2 y.2)
    (⊎_elim
    (λ y. no_group_refuted S L c p itself (environment S) y.0.0 y.0.1 x.0)
    (λ y. no_group_refuted S L c p itself xs y.1.0 y.1.1 x.1))
    k))
    h

-- a projection has one term
one_item_term : (S : Setting) (L : Level) → IsConsistent L → (k : AliasTermKind) (args : List Tree) (t u : Tree) (q : ItemRow) (r : TraitRow) →
    ItemGives S L k args t q r → ItemGives S L k args u q r → t ≡ u
unfolding ItemGives
one_item_term S L c k [] t u q r g h = absurd g
one_item_term S L c k (self ∷ args) t u q r g h =
    let d : h.0 ≡ g.0 = c.one_class h.0 g.0 q.trait_id (take (length r.params.items) (self ∷ args)) h.2 g.2 in
    let e : h.1 ≡ g.1 = one_head_form L c.one_term self h.1 g.1 h.3 g.3 in
    one_groups_term S L c g.0 (asked q r (g.1 ∷ args)) (alias k (forest (g.1 ∷ args))) (alias k (forest (self ∷ args))) (second_group S q.trait_id g.1 g.0) t u g.4
    (subst₂ (λ v s. GroupsGive S L v (asked q r (s ∷ args)) (alias k (forest (s ∷ args))) (alias k (forest (self ∷ args))) (second_group S q.trait_id s v) u) d e h.4)

-- then it isn't refuted
no_item_refuted : (S : Setting) (L : Level) → IsConsistent L → (k : AliasTermKind) (args : List Tree) (u : Tree) (q : ItemRow) (r : TraitRow) →
    ItemGives S L k args u q r → ItemRefuted S L k args q r → ⊥
unfolding ItemGives ItemRefuted
no_item_refuted S L c k [] u q r g h = g
no_item_refuted S L c k (self ∷ args) u q r g h =
    ⊎_elim
    (λ x. c.no_trait_refuted g.0 q.trait_id (take (length r.params.items) (self ∷ args)) g.2 x)
    (λ x.
    let d : x.0 ≡ g.0 = c.one_class x.0 g.0 q.trait_id (take (length r.params.items) (self ∷ args)) x.2 g.2 in
    let e : x.1 ≡ g.1 = one_head_form L c.one_term self x.1 g.1 x.3 g.3 in
    no_groups_refuted S L c g.0 (asked q r (g.1 ∷ args)) (alias k (forest (g.1 ∷ args))) (alias k (forest (self ∷ args))) (second_group S q.trait_id g.1 g.0) u g.4
    (subst₂ (λ v s. GroupsRefuted S L v (asked q r (s ∷ args)) (alias k (forest (s ∷ args))) (second_group S q.trait_id s v)) d e x.4))
    h

-- by the rows of its item and trait, a projection has one term
pub one_projection_term : (S : Setting) (L : Level) → IsConsistent L → (k : AliasTermKind) (i : ItemId) (args : List Tree) (t u : Tree) →
    ProjectionGives S L k i args t → ProjectionGives S L k i args u → t ≡ u
unfolding ProjectionGives
one_projection_term S L c k i args t u g h =
    OfRow-twice _ _ (λ q x y. OfRow-twice _ _ (one_item_term S L c k args t u q) (trait_of S.tables q.trait_id) x y) (item_of S.tables i) g h

-- and by these rows it isn't refuted then
pub no_projection_refuted : (S : Setting) (L : Level) → IsConsistent L → (k : AliasTermKind) (i : ItemId) (args : List Tree) (u : Tree) →
    ProjectionGives S L k i args u → ProjectionRefuted S L k i args → ⊥
unfolding ProjectionGives ProjectionRefuted
no_projection_refuted S L c k i args u g h =
    OfRow-twice _ _ (λ q x y. OfRow-twice _ _ (no_item_refuted S L c k args u q) (trait_of S.tables q.trait_id) x y) (item_of S.tables i) g h
