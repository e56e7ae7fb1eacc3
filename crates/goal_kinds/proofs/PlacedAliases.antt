-- The terms of aliases of all kinds are of their aliases' sorts, if the arguments are placed, no fault of kinds lies in the environment, and the tables are accepted.
use Rattle.std.proofs.Common.{◌≡◌, Bool, List, [], ◌∷◌, ◌++◌, Option, Some, None, refl, sym, ◌∙◌, subst}
use Rattle.goal_terms.specs.Kinds.{kind_of, kind_of_alias}
use Rattle.goal_terms.specs.Sorts.{sort_of}
use Rattle.goal_terms.specs.Tree.{Tree, alias, none}
use Rattle.goal_terms.specs.TreeOf.{tree_of_ty, tree_of_term}
use Rattle.goal_terms.specs.declared.heads.Node.TheVariants as nodes
use Rattle.goal_terms.specs.declared.ids.InherentId.{InherentId}
use Rattle.goal_terms.specs.declared.ids.OpaqueId.{OpaqueId}
use Rattle.goal_terms.specs.declared.sorts.Sort.TheVariants as sorts
use Rattle.goal_terms.specs.declared.terms.AliasTermKind.{AliasTermKind}
use Rattle.goal_terms.specs.declared.terms.AliasTermKind.TheVariants.{ProjectionTy, ProjectionConst, InherentTy, InherentConst, OpaqueTy, FreeTy, FreeConst, UnevaluatedConst}
use Rattle.goal_terms.specs.declared.terms.Term.{Term}
use Rattle.goal_tables.specs.Rows.{free_of, inherent_of, inherent_impl_of, opaque_of}
use Rattle.goal_tables.specs.Sites.{kind_of_value, kind_of_row}
use Rattle.goal_tables.specs.declared.rows.FreeRow.{FreeRow}
use Rattle.goal_tables.specs.declared.rows.InherentImplRow.{InherentImplRow}
use Rattle.goal_tables.specs.declared.rows.InherentRow.{InherentRow}
use Rattle.goal_tables.specs.declared.rows.OpaqueRow.{OpaqueRow}
use Rattle.goal_tables.specs.declared.rows.Tables.{Tables}
use Rattle.goal_lists.specs.Aliases.{ValueGives, FreeGives, self_header, InherentGives, InherentAliasGives, OpaqueGives, AliasGives}
use Rattle.goal_lists.specs.Headers.{under, Fits}
use Rattle.goal_lists.specs.HiddenTypes.{HiddenGives}
use Rattle.goal_lists.specs.Level.{Level}
use Rattle.goal_lists.specs.Settings.{Setting, leaves_open, takes_checked, reveals}
use Rattle.goal_lists.specs.Words.{Each, OfRow}
use Rattle.goal_kinds.proofs.ClosedHeaders.{either-out}
use Rattle.goal_kinds.proofs.PlacedCandidates.{IsPlacedSetting, kind-of_row}
use Rattle.goal_kinds.proofs.PlacedHeaders.{KeepsPlaced, placed-head_form_as, placed-all_known}
use Rattle.goal_kinds.proofs.PlacedProjections.{placed-projection_gives}
use Rattle.goal_kinds.proofs.PlacedRows.{HoldsPlacedTerm, sort-by_value, placed-free, placed-inherent, placed-self, placed-typeck_hidden, placed-hidden}
use Rattle.goal_kinds.proofs.PlacedTerms.{sort_of_value, AliasIsPlaced, IsPlacedAs, IsPlacedArgument, ArePlaced, argument-alias, placed-alias, placed-append, placed-under_as}

-- a row's value
placed-value_gives : (t : Tables) {L : Level} → KeepsPlaced t L → (args : List Tree) → ArePlaced t args → (b : Bool) (o : Option Term) → HoldsPlacedTerm t b o → (u : Tree) →
    ValueGives L args o u → IsPlacedAs t (sort_of_value b) u
unfolding ValueGives
placed-value_gives t w args all b None e u g = absurd g
placed-value_gives t w args all b (Some v) e u g =
    placed-head_form_as t w (sort_of_value b) (under args (tree_of_term v)) u (placed-under_as t args all (sort_of_value b) (tree_of_term v) e) g

-- an alias whose kind is that of a row's value
of_alias : (t : Tables) (k : AliasTermKind) (b : Bool) → kind_of_alias k ≡ kind_of_value b → (u : Tree) → IsPlacedAs t (sort_of_value b) u → IsPlacedAs t (sort_of (nodes.Alias k)) u
unfolding kind_of
of_alias t k b e u x = (x.0 ∙ sym (sort-by_value (alias k none) b (argument-alias k) e), x.1)

-- a free alias
placed-free_row : (t : Tables) {L : Level} → KeepsPlaced t L → (k : AliasTermKind) (args : List Tree) → ArePlaced t args → (u : Tree) (o : Option FreeRow) →
    ((r : FreeRow) → o ≡ Some r → HoldsPlacedTerm t r.is_const r.value × (kind_of_alias k ≡ kind_of_value r.is_const)) → OfRow o (FreeGives L args u) →
    IsPlacedAs t (sort_of (nodes.Alias k)) u
unfolding OfRow FreeGives
placed-free_row t w k args all u None each g = absurd g
placed-free_row t w k args all u (Some r) each g =
    of_alias t k r.is_const (each r refl).1 u (placed-value_gives t w args all r.is_const r.value (each r refl).0 u g.1)

-- an inherent alias
placed-inherent_fits : (t : Tables) {L : Level} → KeepsPlaced t L → (q : InherentImplRow) → ArePlaced t (self_header q) → (self : Tree) → IsPlacedArgument t self → (s : List Tree) →
    Fits L q.params.items (self_header q) (self ∷ []) s → ArePlaced t s
unfolding Fits Each
placed-inherent_fits t w q header self e s h = placed-all_known t w q.params.items (self_header q) (self ∷ []) s header (e, tt) h.0

placed-inherent_gives : (t : Tables) {L : Level} → KeepsPlaced t L → (self : Tree) → IsPlacedArgument t self → (own : List Tree) → ArePlaced t own →
    (u : Tree) (r : InherentRow) → HoldsPlacedTerm t r.is_const r.value → (q : InherentImplRow) → ArePlaced t (self_header q) → InherentGives L self own u r q →
    IsPlacedAs t (sort_of_value r.is_const) u
unfolding InherentGives
placed-inherent_gives t w self e own all u r v q header g =
    placed-value_gives t w (g.0 ++ own) (placed-append t g.0 own (placed-inherent_fits t w q header self e g.0 g.1) all) r.is_const r.value v u g.3

placed-inherent_impl : (t : Tables) {L : Level} → KeepsPlaced t L → (self : Tree) → IsPlacedArgument t self → (own : List Tree) → ArePlaced t own →
    (u : Tree) (r : InherentRow) → HoldsPlacedTerm t r.is_const r.value → (o : Option InherentImplRow) → ((q : InherentImplRow) → o ≡ Some q → ArePlaced t (self_header q)) →
    OfRow o (InherentGives L self own u r) → IsPlacedAs t (sort_of_value r.is_const) u
unfolding OfRow
placed-inherent_impl t w self e own all u r v None each g = absurd g
placed-inherent_impl t w self e own all u r v (Some q) each g = placed-inherent_gives t w self e own all u r v q (each q refl) g

placed-inherent_item : (S : Setting) → IsPlacedSetting S → {L : Level} → KeepsPlaced S.tables L → (k : AliasTermKind) (self : Tree) → IsPlacedArgument S.tables self →
    (own : List Tree) → ArePlaced S.tables own → (u : Tree) (o : Option InherentRow) →
    ((r : InherentRow) → o ≡ Some r → HoldsPlacedTerm S.tables r.is_const r.value × (kind_of_alias k ≡ kind_of_value r.is_const)) →
    OfRow o (λ i. OfRow (inherent_impl_of S.tables i.impl_id) (InherentGives L self own u i)) → IsPlacedAs S.tables (sort_of (nodes.Alias k)) u
unfolding OfRow
placed-inherent_item S s w k self e own all u None each g = absurd g
placed-inherent_item S s w k self e own all u (Some r) each g =
    of_alias S.tables k r.is_const (each r refl).1 u
    (placed-inherent_impl S.tables w self e own all u r (each r refl).0 (inherent_impl_of S.tables r.impl_id) (λ q x. placed-self S.tables s.checked r.impl_id q x) g)

placed-inherent_alias : (S : Setting) → IsPlacedSetting S → {L : Level} → KeepsPlaced S.tables L → (k : AliasTermKind) (i : InherentId) →
    ((r : InherentRow) → inherent_of S.tables i ≡ Some r → kind_of_alias k ≡ kind_of_value r.is_const) → (args : List Tree) → ArePlaced S.tables args →
    (u : Tree) → InherentAliasGives S L (inherent_of S.tables i) args u → IsPlacedAs S.tables (sort_of (nodes.Alias k)) u
unfolding InherentAliasGives Each
placed-inherent_alias S s w k i kinds [] all u g = absurd g
placed-inherent_alias S s w k i kinds (self ∷ own) all u g =
    placed-inherent_item S s w k self all.0 own all.1 u (inherent_of S.tables i) (λ r e. (placed-inherent S.tables s.checked i r e, kinds r e)) g

-- an opaque type, of which both the type that type checking found and the hidden type are placed
abbrev HidesPlaced : Tables → OpaqueRow → Type 0
HidesPlaced t r = IsPlacedAs t sorts.Ty (tree_of_ty r.typeck_hidden) × IsPlacedAs t sorts.Ty (tree_of_ty r.hidden)

placed-opaque_gives : (S : Setting) → {L : Level} → KeepsPlaced S.tables L → (i : OpaqueId) → AliasIsPlaced S.tables (OpaqueTy i) → (args : List Tree) → ArePlaced S.tables args →
    (u : Tree) (r : OpaqueRow) → HidesPlaced S.tables r → OpaqueGives S L i args u r → IsPlacedAs S.tables sorts.Ty u
unfolding OpaqueGives HiddenGives
placed-opaque_gives S w i own args all u r e g =
    either-out (leaves_open S.mode r) (λ h. absurd h)
    (either-out (takes_checked S.mode r)
    (λ h. placed-head_form_as S.tables w sorts.Ty (under args (tree_of_ty r.typeck_hidden)) u (placed-under_as S.tables args all sorts.Ty (tree_of_ty r.typeck_hidden) e.0) h.2)
    (either-out (reveals S.mode r)
    (λ h. placed-head_form_as S.tables w sorts.Ty (under args (tree_of_ty r.hidden)) u (placed-under_as S.tables args all sorts.Ty (tree_of_ty r.hidden) e.1) h)
    (λ h. subst (IsPlacedAs S.tables sorts.Ty) (sym h) (refl, placed-alias S.tables (OpaqueTy i) args own all)))) g

placed-opaque_row : (S : Setting) → {L : Level} → KeepsPlaced S.tables L → (i : OpaqueId) → AliasIsPlaced S.tables (OpaqueTy i) → (args : List Tree) → ArePlaced S.tables args →
    (u : Tree) (o : Option OpaqueRow) → ((r : OpaqueRow) → o ≡ Some r → HidesPlaced S.tables r) → OfRow o (OpaqueGives S L i args u) →
    IsPlacedAs S.tables sorts.Ty u
unfolding OfRow
placed-opaque_row S w i own args all u None each g = absurd g
placed-opaque_row S w i own args all u (Some r) each g = placed-opaque_gives S w i own args all u r (each r refl) g

-- the term of an alias
pub placed-alias_gives : (S : Setting) → IsPlacedSetting S → {L : Level} → KeepsPlaced S.tables L → (k : AliasTermKind) (args : List Tree) (u : Tree) →
    AliasIsPlaced S.tables k → ArePlaced S.tables args → AliasGives S L k args u → IsPlacedAs S.tables (sort_of (nodes.Alias k)) u
unfolding AliasGives kind_of_row
placed-alias_gives S s w (ProjectionTy i) args u own all g = placed-projection_gives S s w (ProjectionTy i) own i refl args all u g
placed-alias_gives S s w (ProjectionConst i) args u own all g = placed-projection_gives S s w (ProjectionConst i) own i refl args all u g
placed-alias_gives S s w (InherentTy i) args u own all g =
    placed-inherent_alias S s w (InherentTy i) i (λ r e. kind-of_row (λ q. q.is_const) (inherent_of S.tables i) r (kind_of_alias (InherentTy i)) e own) args all u g
placed-alias_gives S s w (InherentConst i) args u own all g =
    placed-inherent_alias S s w (InherentConst i) i (λ r e. kind-of_row (λ q. q.is_const) (inherent_of S.tables i) r (kind_of_alias (InherentConst i)) e own) args all u g
placed-alias_gives S s w (OpaqueTy i) args u own all g =
    placed-opaque_row S w i own args all u (opaque_of S.tables i) (λ r e. (placed-typeck_hidden S.tables s.checked i r e, placed-hidden S.tables s.checked i r e)) g
placed-alias_gives S s w (FreeTy i) args u own all g =
    placed-free_row S.tables w (FreeTy i) args all u (free_of S.tables i)
    (λ r e. (placed-free S.tables s.checked i r e, kind-of_row (λ q. q.is_const) (free_of S.tables i) r (kind_of_alias (FreeTy i)) e own)) g
placed-alias_gives S s w (FreeConst i) args u own all g =
    placed-free_row S.tables w (FreeConst i) args all u (free_of S.tables i)
    (λ r e. (placed-free S.tables s.checked i r e, kind-of_row (λ q. q.is_const) (free_of S.tables i) r (kind_of_alias (FreeConst i)) e own)) g
placed-alias_gives S s w (UnevaluatedConst n) args u own all g = absurd g
