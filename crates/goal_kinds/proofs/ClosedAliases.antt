-- The terms of aliases of all kinds hold no inference variable, if the arguments and the environment hold none and the tables are accepted.
use Rattle.std.proofs.Common.{◌≡◌, List, [], ◌∷◌, ◌++◌, Option, Some, None, refl, ap, ◌∙◌}
use Rattle.goal_terms.specs.NodeTests.{is_any_infer, some_node}
use Rattle.goal_terms.specs.Tree.{Tree}
use Rattle.goal_terms.specs.TreeOf.{tree_of_ty, tree_of_term}
use Rattle.goal_terms.specs.declared.ids.OpaqueId.{OpaqueId}
use Rattle.goal_terms.specs.declared.terms.AliasTermKind.{AliasTermKind}
use Rattle.goal_terms.specs.declared.terms.AliasTermKind.TheVariants.{ProjectionTy, ProjectionConst, InherentTy, InherentConst, OpaqueTy, FreeTy, FreeConst, UnevaluatedConst}
use Rattle.goal_terms.specs.declared.ids.InherentId.{InherentId}
use Rattle.goal_terms.specs.declared.terms.Term.{Term}
use Rattle.goal_tables.specs.Rows.{free_of, inherent_of, inherent_impl_of, opaque_of}
use Rattle.goal_tables.specs.declared.rows.FreeRow.{FreeRow}
use Rattle.goal_tables.specs.declared.rows.InherentImplRow.{InherentImplRow}
use Rattle.goal_tables.specs.declared.rows.InherentRow.{InherentRow}
use Rattle.goal_tables.specs.declared.rows.OpaqueRow.{OpaqueRow}
use Rattle.goal_lists.specs.Aliases.{ValueGives, FreeGives, self_header, InherentGives, InherentAliasGives, OpaqueGives, AliasGives}
use Rattle.goal_lists.specs.Headers.{under, Fits}
use Rattle.goal_lists.specs.HiddenTypes.{HiddenGives}
use Rattle.goal_lists.specs.Level.{Level}
use Rattle.goal_lists.specs.Settings.{Setting, leaves_open, takes_checked, reveals}
use Rattle.goal_lists.specs.Words.{Each, OfRow}
use Rattle.goal_kinds.proofs.ClosedCandidates.{IsClosedSetting}
use Rattle.goal_kinds.proofs.ClosedHeaders.{KeepsClosed, either-out, closed-head_form, closed-all_known}
use Rattle.goal_kinds.proofs.ClosedProjections.{closed-projection_gives}
use Rattle.goal_kinds.proofs.ClosedRows.{HoldsClosedTerm, closed-typeck_hidden, closed-hidden, closed-free, closed-inherent}
use Rattle.goal_kinds.proofs.ClosedTerms.{IsClosedTree, AreClosedTrees, closed-alias, closed-append, closed-under}

-- a row's value
closed-value_gives : {L : Level} → KeepsClosed L → (args : List Tree) → AreClosedTrees args → (o : Option Term) → HoldsClosedTerm o → (u : Tree) →
    ValueGives L args o u → IsClosedTree u
unfolding ValueGives
closed-value_gives w args all None e u g = absurd g
closed-value_gives w args all (Some v) e u g = closed-head_form w (under args (tree_of_term v)) u (closed-under args all (tree_of_term v) e) g

-- a free alias
closed-free_gives : {L : Level} → KeepsClosed L → (args : List Tree) → AreClosedTrees args → (u : Tree) (r : FreeRow) → HoldsClosedTerm r.value →
    FreeGives L args u r → IsClosedTree u
unfolding FreeGives
closed-free_gives w args all u r e g = closed-value_gives w args all r.value e u g.1

closed-free_row : {L : Level} → KeepsClosed L → (args : List Tree) → AreClosedTrees args → (u : Tree) (o : Option FreeRow) →
    ((r : FreeRow) → o ≡ Some r → HoldsClosedTerm r.value) → OfRow o (FreeGives L args u) → IsClosedTree u
unfolding OfRow
closed-free_row w args all u None each g = absurd g
closed-free_row w args all u (Some r) each g = closed-free_gives w args all u r (each r refl) g

-- an inherent alias
closed-inherent_fits : {L : Level} → KeepsClosed L → (q : InherentImplRow) (self : Tree) → IsClosedTree self → (s : List Tree) →
    Fits L q.params.items (self_header q) (self ∷ []) s → AreClosedTrees s
unfolding Fits Each
closed-inherent_fits w q self e s h = closed-all_known w q.params.items (self_header q) (self ∷ []) s (e, tt) h.0

closed-inherent_gives : {L : Level} → KeepsClosed L → (self : Tree) → IsClosedTree self → (own : List Tree) → AreClosedTrees own →
    (u : Tree) (r : InherentRow) → HoldsClosedTerm r.value → (q : InherentImplRow) → InherentGives L self own u r q → IsClosedTree u
unfolding InherentGives
closed-inherent_gives w self e own all u r v q g =
    closed-value_gives w (g.0 ++ own) (closed-append g.0 own (closed-inherent_fits w q self e g.0 g.1) all) r.value v u g.3

closed-inherent_impl : {L : Level} → KeepsClosed L → (self : Tree) → IsClosedTree self → (own : List Tree) → AreClosedTrees own →
    (u : Tree) (r : InherentRow) → HoldsClosedTerm r.value → (o : Option InherentImplRow) → OfRow o (InherentGives L self own u r) → IsClosedTree u
unfolding OfRow
closed-inherent_impl w self e own all u r v None g = absurd g
closed-inherent_impl w self e own all u r v (Some q) g = closed-inherent_gives w self e own all u r v q g

closed-inherent_item : {L : Level} → KeepsClosed L → (S : Setting) (self : Tree) → IsClosedTree self → (own : List Tree) → AreClosedTrees own →
    (u : Tree) (o : Option InherentRow) → ((r : InherentRow) → o ≡ Some r → HoldsClosedTerm r.value) →
    OfRow o (λ i. OfRow (inherent_impl_of S.tables i.impl_id) (InherentGives L self own u i)) → IsClosedTree u
unfolding OfRow
closed-inherent_item w S self e own all u None each g = absurd g
closed-inherent_item w S self e own all u (Some r) each g = closed-inherent_impl w self e own all u r (each r refl) (inherent_impl_of S.tables r.impl_id) g

closed-inherent_alias : {L : Level} → KeepsClosed L → (S : Setting) → IsClosedSetting S → (i : InherentId) (args : List Tree) → AreClosedTrees args →
    (u : Tree) → InherentAliasGives S L (inherent_of S.tables i) args u → IsClosedTree u
unfolding InherentAliasGives Each
closed-inherent_alias w S s i [] all u g = absurd g
closed-inherent_alias w S s i (self ∷ own) all u g =
    closed-inherent_item w S self all.0 own all.1 u (inherent_of S.tables i) (λ r e. closed-inherent S.tables s.checked i r e) g

-- an opaque type, of which neither the type that type checking found nor the hidden type holds an inference variable
abbrev HidesClosed : OpaqueRow → Type 0
HidesClosed r = IsClosedTree (tree_of_ty r.typeck_hidden) × IsClosedTree (tree_of_ty r.hidden)

closed-opaque_gives : {L : Level} → KeepsClosed L → (S : Setting) (i : OpaqueId) (args : List Tree) → AreClosedTrees args →
    (u : Tree) (r : OpaqueRow) → HidesClosed r → OpaqueGives S L i args u r → IsClosedTree u
unfolding OpaqueGives HiddenGives
closed-opaque_gives w S i args all u r e g =
    either-out (leaves_open S.mode r) (λ h. absurd h)
    (either-out (takes_checked S.mode r)
    (λ h. closed-head_form w (under args (tree_of_ty r.typeck_hidden)) u (closed-under args all (tree_of_ty r.typeck_hidden) e.0) h.2)
    (either-out (reveals S.mode r) (closed-head_form w (under args (tree_of_ty r.hidden)) u (closed-under args all (tree_of_ty r.hidden) e.1))
    (λ h. ap (some_node is_any_infer) h ∙ closed-alias (OpaqueTy i) args all))) g

closed-opaque_row : {L : Level} → KeepsClosed L → (S : Setting) (i : OpaqueId) (args : List Tree) → AreClosedTrees args →
    (u : Tree) (o : Option OpaqueRow) → ((r : OpaqueRow) → o ≡ Some r → HidesClosed r) → OfRow o (OpaqueGives S L i args u) → IsClosedTree u
unfolding OfRow
closed-opaque_row w S i args all u None each g = absurd g
closed-opaque_row w S i args all u (Some r) each g = closed-opaque_gives w S i args all u r (each r refl) g

-- the term of an alias
pub closed-alias_gives : {L : Level} → KeepsClosed L → (S : Setting) → IsClosedSetting S → (k : AliasTermKind) (args : List Tree) (u : Tree) →
    AreClosedTrees args → AliasGives S L k args u → IsClosedTree u
unfolding AliasGives
closed-alias_gives w S s (ProjectionTy i) args u all g = closed-projection_gives w S s (ProjectionTy i) i args all u g
closed-alias_gives w S s (ProjectionConst i) args u all g = closed-projection_gives w S s (ProjectionConst i) i args all u g
closed-alias_gives w S s (InherentTy i) args u all g = closed-inherent_alias w S s i args all u g
closed-alias_gives w S s (InherentConst i) args u all g = closed-inherent_alias w S s i args all u g
closed-alias_gives w S s (OpaqueTy i) args u all g = closed-opaque_row w S i args all u (opaque_of S.tables i) (λ r e. (closed-typeck_hidden S.tables s.checked i r e, closed-hidden S.tables s.checked i r e)) g
closed-alias_gives w S s (FreeTy i) args u all g = closed-free_row w args all u (free_of S.tables i) (λ r e. closed-free S.tables s.checked i r e) g
closed-alias_gives w S s (FreeConst i) args u all g = closed-free_row w args all u (free_of S.tables i) (λ r e. closed-free S.tables s.checked i r e) g
closed-alias_gives w S s (UnevaluatedConst n) args u all g = absurd g
