-- The terms of aliases of all kinds above a level are those above another, in an alike setting, if all goals of the one level are of the other.
use Rattle.std.proofs.Common.{◌≡◌, inl, inr, List, [], ◌∷◌, ◌++◌, Option, Some, None, Vec, Global}
use Rattle.goal_terms.specs.Tree.{Tree}
use Rattle.goal_terms.specs.TreeOf.{tree_of_ty, tree_of_term}
use Rattle.goal_terms.specs.declared.ids.OpaqueId.{OpaqueId}
use Rattle.goal_terms.specs.declared.modes.TypingMode.{TypingMode}
use Rattle.goal_terms.specs.declared.terms.AliasTermKind.{AliasTermKind}
use Rattle.goal_terms.specs.declared.terms.AliasTermKind.TheVariants.{ProjectionTy, ProjectionConst, InherentTy, InherentConst, OpaqueTy, FreeTy, FreeConst, UnevaluatedConst}
use Rattle.goal_terms.specs.declared.terms.Term.{Term}
use Rattle.goal_tables.specs.Rows.{free_of, inherent_of, inherent_impl_of, opaque_of}
use Rattle.goal_tables.specs.declared.rows.FreeRow.{FreeRow}
use Rattle.goal_tables.specs.declared.rows.ImplRow.{ImplRow}
use Rattle.goal_tables.specs.declared.rows.InherentImplRow.{InherentImplRow}
use Rattle.goal_tables.specs.declared.rows.InherentRow.{InherentRow}
use Rattle.goal_tables.specs.declared.rows.OpaqueRow.{OpaqueRow}
use Rattle.goal_lists.specs.Aliases.{ValueGives, ValueRefuted, FreeGives, FreeRefuted, self_header, InherentGives, InherentRefuted, InherentAliasGives, InherentAliasRefuted, OpaqueGives, OpaqueRefuted, AliasGives, AliasRefuted}
use Rattle.goal_lists.specs.Headers.{under}
use Rattle.goal_lists.specs.Laws.{IsWithin, IsAlike, with_impls_and_mode}
use Rattle.goal_lists.specs.Level.{Level}
use Rattle.goal_lists.specs.Premises.{clauses_under}
use Rattle.goal_lists.specs.Settings.{Setting, leaves_open, takes_checked, reveals}
use Rattle.goal_lists.specs.declared.lists.FirstUse.TheVariants as first
use Rattle.goal_lists.proofs.HiddenLemmas.{within-hidden_gives, within-hidden_refuted}
use Rattle.goal_lists.proofs.WithinHeaders.{within-fits, within-clashes, within-all_known}
use Rattle.goal_lists.proofs.WithinPremises.{within-premises_hold, within-premises_refuted}
use Rattle.goal_lists.proofs.WithinProjections.{within-projection_gives, within-projection_refuted}
use Rattle.goal_lists.proofs.WithinTerms.{within-has_head_form, within-head_form_refuted}
use Rattle.goal_lists.proofs.WithinWords.{of_row-map, of_row-map_found, either-map_test, sum-map}

-- a row's value
within-value_gives : {L M : Level} → IsWithin L M → (args : List Tree) (o : Option Term) (u : Tree) → ValueGives L args o u → ValueGives M args o u
unfolding ValueGives
within-value_gives w args None u g = g
within-value_gives w args (Some e) u g = within-has_head_form w (under args (tree_of_term e)) u g

within-value_refuted : {L M : Level} → IsWithin L M → (args : List Tree) (o : Option Term) → ValueRefuted L args o → ValueRefuted M args o
unfolding ValueRefuted
within-value_refuted w args None g = g
within-value_refuted w args (Some e) g = within-head_form_refuted w (under args (tree_of_term e)) g

-- a free alias
within-free_gives : {L M : Level} → IsWithin L M → (args : List Tree) (u : Tree) (r : FreeRow) → FreeGives L args u r → FreeGives M args u r
unfolding FreeGives
within-free_gives w args u r g = (within-premises_hold w (clauses_under args r.predicates.items) g.0, within-value_gives w args r.value u g.1)

within-free_refuted : {L M : Level} → IsWithin L M → (args : List Tree) (r : FreeRow) → FreeRefuted L args r → FreeRefuted M args r
unfolding FreeRefuted
within-free_refuted w args r g = sum-map (within-premises_refuted w (clauses_under args r.predicates.items)) (within-value_refuted w args r.value) g

-- an inherent alias
within-inherent_gives : {L M : Level} → IsWithin L M → (self : Tree) (own : List Tree) (u : Tree) (r : InherentRow) (q : InherentImplRow) →
    InherentGives L self own u r q → InherentGives M self own u r q
unfolding InherentGives
within-inherent_gives w self own u r q g = (
  g.0,
  within-fits w q.params.items (self_header q) (self ∷ []) g.0 g.1,
  within-premises_hold w (clauses_under (g.0 ++ own) r.predicates.items) g.2,
  within-value_gives w (g.0 ++ own) r.value u g.3,
)

within-inherent_refuted : {L M : Level} → IsWithin L M → (self : Tree) (own : List Tree) (r : InherentRow) (q : InherentImplRow) →
    InherentRefuted L self own r q → InherentRefuted M self own r q
unfolding InherentRefuted
within-inherent_refuted w self own r q (inl g) = inl (within-clashes w q.params.items (self_header q) (self ∷ []) g)
within-inherent_refuted w self own r q (inr g) = inr (
  g.0,
  within-all_known w q.params.items (self_header q) (self ∷ []) g.0 g.1,
  sum-map (within-premises_refuted w (clauses_under (g.0 ++ own) r.predicates.items)) (within-value_refuted w (g.0 ++ own) r.value) g.2,
)

within-inherent_alias_gives : {L M : Level} → IsWithin L M →
    (S : Setting) (v : Vec ImplRow Global) (m : TypingMode) (o : Option InherentRow) (args : List Tree) (u : Tree) →
    InherentAliasGives S L o args u → InherentAliasGives (with_impls_and_mode S v m) M o args u
unfolding InherentAliasGives
within-inherent_alias_gives w S v m o [] u g = g
within-inherent_alias_gives w S v m o (self ∷ own) u g =
    of_row-map o (λ i. of_row-map (inherent_impl_of S.tables i.impl_id) (within-inherent_gives w self own u i)) g

within-inherent_alias_refuted : {L M : Level} → IsWithin L M → (S : Setting) (v : Vec ImplRow Global) (m : TypingMode) (o : Option InherentRow) (args : List Tree) →
    InherentAliasRefuted S L o args → InherentAliasRefuted (with_impls_and_mode S v m) M o args
unfolding InherentAliasRefuted
within-inherent_alias_refuted w S v m o [] g = g
within-inherent_alias_refuted w S v m o (self ∷ own) g =
    of_row-map o (λ i. of_row-map (inherent_impl_of S.tables i.impl_id) (within-inherent_refuted w self own i)) g

-- an opaque type, of which both modes say the same
within-opaque_gives : {L M : Level} {S : Setting} {v : Vec ImplRow Global} {m : TypingMode} → IsWithin L M → IsAlike S v m →
    (i : OpaqueId) (args : List Tree) (u : Tree) (r : OpaqueRow) → opaque_of S.tables i ≡ Some r →
    OpaqueGives S L i args u r → OpaqueGives (with_impls_and_mode S v m) M i args u r
unfolding OpaqueGives
within-opaque_gives {S = S} {v} {m} w a i args u r found g =
    either-map_test (leaves_open S.mode r) (leaves_open m r) (a.same_opens i r found) (λ e. e)
    (either-map_test (takes_checked S.mode r) (takes_checked m r) (a.same_checked i r found)
    (within-hidden_gives w first.TypeChecked args (tree_of_ty r.typeck_hidden) r.bounds.items u)
    (either-map_test (reveals S.mode r) (reveals m r) (a.same_reveals i r found)
    (within-has_head_form w (under args (tree_of_ty r.hidden)) u) (λ e. e))) g

within-opaque_refuted : {L M : Level} {S : Setting} {v : Vec ImplRow Global} {m : TypingMode} → IsWithin L M → IsAlike S v m →
    (i : OpaqueId) (args : List Tree) (r : OpaqueRow) → opaque_of S.tables i ≡ Some r →
    OpaqueRefuted S L args r → OpaqueRefuted (with_impls_and_mode S v m) M args r
unfolding OpaqueRefuted
within-opaque_refuted {S = S} {v} {m} w a i args r found g =
    either-map_test (leaves_open S.mode r) (leaves_open m r) (a.same_opens i r found) (λ e. e)
    (either-map_test (takes_checked S.mode r) (takes_checked m r) (a.same_checked i r found)
    (within-hidden_refuted w first.TypeChecked args (tree_of_ty r.typeck_hidden) r.bounds.items)
    (either-map_test (reveals S.mode r) (reveals m r) (a.same_reveals i r found)
    (within-head_form_refuted w (under args (tree_of_ty r.hidden))) (λ e. e))) g

-- an alias has a term, or none
pub within-alias_gives : {L M : Level} {S : Setting} {v : Vec ImplRow Global} {m : TypingMode} → IsWithin L M → IsAlike S v m →
    (k : AliasTermKind) (args : List Tree) (u : Tree) → AliasGives S L k args u → AliasGives (with_impls_and_mode S v m) M k args u
unfolding AliasGives
within-alias_gives w a (ProjectionTy i) args u g = within-projection_gives w a (ProjectionTy i) i args u g
within-alias_gives w a (ProjectionConst i) args u g = within-projection_gives w a (ProjectionConst i) i args u g
within-alias_gives {S = S} {v} {m} w a (InherentTy i) args u g = within-inherent_alias_gives w S v m (inherent_of S.tables i) args u g
within-alias_gives {S = S} {v} {m} w a (InherentConst i) args u g = within-inherent_alias_gives w S v m (inherent_of S.tables i) args u g
within-alias_gives {S = S} w a (OpaqueTy i) args u g = of_row-map_found (opaque_of S.tables i) (within-opaque_gives w a i args u) g
within-alias_gives {S = S} w a (FreeTy i) args u g = of_row-map (free_of S.tables i) (within-free_gives w args u) g
within-alias_gives {S = S} w a (FreeConst i) args u g = of_row-map (free_of S.tables i) (within-free_gives w args u) g
within-alias_gives w a (UnevaluatedConst n) args u g = g

pub within-alias_refuted : {L M : Level} {S : Setting} {v : Vec ImplRow Global} {m : TypingMode} → IsWithin L M → IsAlike S v m →
    (k : AliasTermKind) (args : List Tree) → AliasRefuted S L k args → AliasRefuted (with_impls_and_mode S v m) M k args
unfolding AliasRefuted
within-alias_refuted w a (ProjectionTy i) args g = within-projection_refuted w a (ProjectionTy i) i args g
within-alias_refuted w a (ProjectionConst i) args g = within-projection_refuted w a (ProjectionConst i) i args g
within-alias_refuted {S = S} {v} {m} w a (InherentTy i) args g = within-inherent_alias_refuted w S v m (inherent_of S.tables i) args g
within-alias_refuted {S = S} {v} {m} w a (InherentConst i) args g = within-inherent_alias_refuted w S v m (inherent_of S.tables i) args g
within-alias_refuted {S = S} w a (OpaqueTy i) args g = of_row-map_found (opaque_of S.tables i) (within-opaque_refuted w a i args) g
within-alias_refuted {S = S} w a (FreeTy i) args g = of_row-map (free_of S.tables i) (within-free_refuted w args) g
within-alias_refuted {S = S} w a (FreeConst i) args g = of_row-map (free_of S.tables i) (within-free_refuted w args) g
within-alias_refuted w a (UnevaluatedConst n) args g = g
