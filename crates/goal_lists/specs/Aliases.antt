-- Aliases of all kinds, one height above a level.
use Rattle.std.specs.Prelude.{◌≡◌, ◌⊎◌, List, [], ◌∷◌, ◌++◌, Option, Some, None}
use Rattle.goal_terms.specs.Erased.{erased}
use Rattle.goal_terms.specs.Tree.{Tree, alias, forest}
use Rattle.goal_terms.specs.TreeOf.{tree_of_ty, tree_of_term}
use Rattle.goal_terms.specs.declared.ids.OpaqueId.{OpaqueId}
use Rattle.goal_terms.specs.declared.terms.AliasTermKind.{AliasTermKind}
use Rattle.goal_terms.specs.declared.terms.AliasTermKind.TheVariants.{ProjectionTy, ProjectionConst, InherentTy, InherentConst, OpaqueTy, FreeTy, FreeConst, UnevaluatedConst}
use Rattle.goal_terms.specs.declared.terms.Term.{Term}
use Rattle.goal_tables.specs.Rows.{free_of, inherent_of, inherent_impl_of, opaque_of}
use Rattle.goal_tables.specs.declared.rows.FreeRow.{FreeRow}
use Rattle.goal_tables.specs.declared.rows.InherentImplRow.{InherentImplRow}
use Rattle.goal_tables.specs.declared.rows.InherentRow.{InherentRow}
use Rattle.goal_tables.specs.declared.rows.OpaqueRow.{OpaqueRow}
use Rattle.goal_lists.specs.Headers.{under, AllKnown, Fits, Clashes}
use Rattle.goal_lists.specs.HiddenTypes.{HiddenGives, HiddenRefuted}
use Rattle.goal_lists.specs.Level.{Level, HasHeadForm, HeadFormRefuted}
use Rattle.goal_lists.specs.Premises.{PremisesHold, PremisesRefuted, clauses_under}
use Rattle.goal_lists.specs.Projections.{ProjectionGives, ProjectionRefuted}
use Rattle.goal_lists.specs.Settings.{Setting, leaves_open, takes_checked, reveals}
use Rattle.goal_lists.specs.Words.{OfRow, Either}
use Rattle.goal_lists.specs.declared.lists.FirstUse.TheVariants as first

-- a row's value under arguments has a head form, or has none; a constant may lack its value
unfoldable pub ValueGives : Level → List Tree → Option Term → Tree → Type 0
ValueGives L args None u = ⊥
ValueGives L args (Some e) u = HasHeadForm L (under args (tree_of_term e)) u

unfoldable pub ValueRefuted : Level → List Tree → Option Term → Type 0
ValueRefuted L args None = ⊥
ValueRefuted L args (Some e) = HeadFormRefuted L (under args (tree_of_term e))

-- a free alias: its where clauses hold, and the head form of its value is the term
unfoldable pub FreeGives : Level → List Tree → Tree → FreeRow → Type 0
FreeGives L args u r = PremisesHold L (clauses_under args r.predicates.items) × ValueGives L args r.value u

unfoldable pub FreeRefuted : Level → List Tree → FreeRow → Type 0
FreeRefuted L args r = PremisesRefuted L (clauses_under args r.predicates.items) ⊎ ValueRefuted L args r.value

-- the header of an inherent impl: its self type
abbrev pub self_header : InherentImplRow → List Tree
self_header q = erased (tree_of_ty q.self_ty) ∷ []

-- an inherent alias: the impl's self type fits the alias's, its where clauses hold under the impl's arguments and then its own, and the head form of its value is the term
unfoldable pub InherentGives : Level → Tree → List Tree → Tree → InherentRow → InherentImplRow → Type 0
InherentGives L self own u r q =
    (s : List Tree)
    × Fits L q.params.items (self_header q) (self ∷ []) s
    × PremisesHold L (clauses_under (s ++ own) r.predicates.items)
    × ValueGives L (s ++ own) r.value u

unfoldable pub InherentRefuted : Level → Tree → List Tree → InherentRow → InherentImplRow → Type 0
InherentRefuted L self own r q =
    Clashes L q.params.items (self_header q) (self ∷ [])
    ⊎ ((s : List Tree)
    × AllKnown L q.params.items (self_header q) (self ∷ []) s
    × (PremisesRefuted L (clauses_under (s ++ own) r.predicates.items) ⊎ ValueRefuted L (s ++ own) r.value))

-- the rows of an inherent item and its impl
unfoldable pub InherentAliasGives : Setting → Level → Option InherentRow → List Tree → Tree → Type 0
InherentAliasGives S L r [] u = ⊥
InherentAliasGives S L r (self ∷ own) u = OfRow r (λ i. OfRow (inherent_impl_of S.tables i.impl_id) (InherentGives L self own u i))

unfoldable pub InherentAliasRefuted : Setting → Level → Option InherentRow → List Tree → Type 0
InherentAliasRefuted S L r [] = ⊥
InherentAliasRefuted S L r (self ∷ own) = OfRow r (λ i. OfRow (inherent_impl_of S.tables i.impl_id) (InherentRefuted L self own i))

-- what type checking found for an opaque type, by its row
abbrev pub CheckedGives : Level → List Tree → Tree → OpaqueRow → Type 0
CheckedGives L args u r = HiddenGives L first.TypeChecked args (tree_of_ty r.typeck_hidden) r.bounds.items u

abbrev pub CheckedRefuted : Level → List Tree → OpaqueRow → Type 0
CheckedRefuted L args r = HiddenRefuted L first.TypeChecked args (tree_of_ty r.typeck_hidden) r.bounds.items

-- an opaque type: nothing where the mode leaves it open, what type checking found where the mode takes that, the head form of its hidden type where the mode reveals that, and else itself
unfoldable pub OpaqueGives : Setting → Level → OpaqueId → List Tree → Tree → OpaqueRow → Type 0
OpaqueGives S L i args u r =
    Either (leaves_open S.mode r) ⊥
    (Either (takes_checked S.mode r) (CheckedGives L args u r)
    (Either (reveals S.mode r) (HasHeadForm L (under args (tree_of_ty r.hidden)) u) (u ≡ alias (OpaqueTy i) (forest args))))

unfoldable pub OpaqueRefuted : Setting → Level → List Tree → OpaqueRow → Type 0
OpaqueRefuted S L args r =
    Either (leaves_open S.mode r) ⊥ (Either (takes_checked S.mode r) (CheckedRefuted L args r) (Either (reveals S.mode r) (HeadFormRefuted L (under args (tree_of_ty r.hidden))) ⊥))

-- an alias has a term, by its kind; a constant that would have to be evaluated is undecided
unfoldable pub AliasGives : Setting → Level → AliasTermKind → List Tree → Tree → Type 0
AliasGives S L (ProjectionTy i) args u = ProjectionGives S L (ProjectionTy i) i args u
AliasGives S L (ProjectionConst i) args u = ProjectionGives S L (ProjectionConst i) i args u
AliasGives S L (InherentTy i) args u = InherentAliasGives S L (inherent_of S.tables i) args u
AliasGives S L (InherentConst i) args u = InherentAliasGives S L (inherent_of S.tables i) args u
AliasGives S L (OpaqueTy i) args u = OfRow (opaque_of S.tables i) (OpaqueGives S L i args u)
AliasGives S L (FreeTy i) args u = OfRow (free_of S.tables i) (FreeGives L args u)
AliasGives S L (FreeConst i) args u = OfRow (free_of S.tables i) (FreeGives L args u)
AliasGives S L (UnevaluatedConst n) args u = ⊥

-- an alias has no term
unfoldable pub AliasRefuted : Setting → Level → AliasTermKind → List Tree → Type 0
AliasRefuted S L (ProjectionTy i) args = ProjectionRefuted S L (ProjectionTy i) i args
AliasRefuted S L (ProjectionConst i) args = ProjectionRefuted S L (ProjectionConst i) i args
AliasRefuted S L (InherentTy i) args = InherentAliasRefuted S L (inherent_of S.tables i) args
AliasRefuted S L (InherentConst i) args = InherentAliasRefuted S L (inherent_of S.tables i) args
AliasRefuted S L (OpaqueTy i) args = OfRow (opaque_of S.tables i) (OpaqueRefuted S L args)
AliasRefuted S L (FreeTy i) args = OfRow (free_of S.tables i) (FreeRefuted L args)
AliasRefuted S L (FreeConst i) args = OfRow (free_of S.tables i) (FreeRefuted L args)
AliasRefuted S L (UnevaluatedConst n) args = ⊥
