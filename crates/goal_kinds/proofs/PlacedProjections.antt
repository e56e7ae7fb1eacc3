-- The term of a projection is of its alias's sort, if its arguments are placed, no fault of kinds lies in the environment, and the tables are accepted.
use Rattle.std.proofs.Common.{◌≡◌, ◌==◌, List, [], ◌∷◌, Option, Some, None, inl, inr, refl, sym, ap, ◌∙◌, subst}
use Rattle.std.proofs.lemmas.Bool.{eqb-true}
use Rattle.goal_terms.specs.Kinds.{kind_of, kind_of_alias}
use Rattle.goal_terms.specs.PredicateTrees.{PredicateTree, holds, equals, holds_const}
use Rattle.goal_terms.specs.Sorts.{sort_of, is_argument_sort}
use Rattle.goal_terms.specs.Tree.{Tree, node, alias, variable, none, forest}
use Rattle.goal_terms.specs.declared.answers.TraitGoalProvenVia.{TraitGoalProvenVia}
use Rattle.goal_terms.specs.declared.heads.Node.TheVariants as nodes
use Rattle.goal_terms.specs.declared.ids.ItemId.{ItemId}
use Rattle.goal_terms.specs.declared.terms.AliasTermKind.{AliasTermKind}
use Rattle.goal_tables.specs.Rows.{trait_of, item_of}
use Rattle.goal_tables.specs.Sites.{kind_of_value}
use Rattle.goal_tables.specs.declared.rows.ItemRow.{ItemRow}
use Rattle.goal_tables.specs.declared.rows.Tables.{Tables}
use Rattle.goal_tables.specs.declared.rows.TraitRow.{TraitRow}
use Rattle.goal_lists.specs.Builtins.{Listed, nothing_listed, listed, listed_rigid, listed_by_size, term_rule, unit_ty}
use Rattle.goal_lists.specs.Candidates.{Candidate, assumption, implied_bound, by_impl, built_in, error, environment, second_group}
use Rattle.goal_lists.specs.ImplTerms.{Projection}
use Rattle.goal_lists.specs.Level.{Level}
use Rattle.goal_lists.specs.Projections.{projected_item, EquationGives, AssumptionGives, ListedGives, CandidateGives, TermDecides, GroupGives, GroupsGive, asked, ItemGives, ProjectionGives}
use Rattle.goal_lists.specs.Settings.{Setting}
use Rattle.goal_lists.specs.Words.{Each, Exists, OfRow}
use Rattle.goal_lists.proofs.AlikeSettings.{found}
use Rattle.goal_kinds.proofs.PlacedBuiltins.{IsPlacedListed, placed-term_rule}
use Rattle.goal_kinds.proofs.PlacedCandidates.{SaysOf, SaysPlaced, IsPlacedCandidate, IsPlacedSetting, projected-kind, placed-environment, placed-second_group}
use Rattle.goal_kinds.proofs.PlacedHeaders.{KeepsPlaced, placed-head_form, placed-head_form_as}
use Rattle.goal_kinds.proofs.PlacedImplTerms.{same-item, placed-impl_gives}
use Rattle.goal_kinds.proofs.PlacedRows.{sort-by_value}
use Rattle.goal_kinds.proofs.PlacedTerms.{sort_at, sort_of_value, EndsAsSaid, AliasIsPlaced, IsPlaced, IsPlacedAs, ArePlaced, argument-alias, placed-alias}

-- a term of a projection's item
abbrev IsOf : Tables → Projection → Tree → Type 0
IsOf t p u = IsPlacedAs t (sort_of_value p.item.is_const) u

-- the row of a projection's item
abbrev HasRow : Tables → Projection → Type 0
HasRow t p = item_of t p.item.id ≡ Some p.item

-- the term of a clause
placed-equation_gives : (t : Tables) {L : Level} → KeepsPlaced t L → (p : Projection) → HasRow t p → (a v u : Tree) → SaysOf t a v → IsPlaced t v →
    EquationGives L p a v u → IsOf t p u
unfolding EquationGives
placed-equation_gives t w p row (alias k bs) v u says e g =
    placed-head_form_as t w (sort_of_value p.item.is_const) v u (says p.item.id p.item g.0 row, e) g.3
placed-equation_gives t w p row (node h bs) v u says e g = absurd g
placed-equation_gives t w p row (variable x) v u says e g = absurd g

placed-assumption_gives : (t : Tables) {L : Level} → KeepsPlaced t L → (p : Projection) → HasRow t p → (q : PredicateTree) (u : Tree) → SaysPlaced t q →
    AssumptionGives L p q u → IsOf t p u
unfolding AssumptionGives
placed-assumption_gives t w p row (equals a v) u e g = placed-equation_gives t w p row a v u e.0 e.1 g
placed-assumption_gives t w p row (holds i ts) u e g = absurd g
placed-assumption_gives t w p row (holds_const c i ts) u e g = absurd g

-- the term that a built-in rule lists
placed-unit : (t : Tables) → IsPlacedAs t (sort_at unit_ty) unit_ty
unfolding IsPlaced EndsAsSaid
placed-unit t = (refl, (tt, tt))

placed-listed_gives : (t : Tables) {L : Level} → KeepsPlaced t L → (p : Projection) (itself : Tree) → IsOf t p itself → (l : Listed) (u : Tree) →
    IsPlacedListed t p.item.is_const l → ListedGives L p itself l u → IsOf t p u
unfolding ListedGives
placed-listed_gives t w p itself e nothing_listed u c g = absurd g
placed-listed_gives t w p itself e (listed ps v) u c g = placed-head_form_as t w (sort_of_value p.item.is_const) v u c g.1
placed-listed_gives t w p itself e listed_rigid u c g = subst (IsOf t p) (sym g) e
placed-listed_gives t w p itself e (listed_by_size sized) u c (inl g) =
    subst (IsOf t p) (sym g.1) (ap sort_of_value (sym c), (placed-unit t).1)
placed-listed_gives t w p itself e (listed_by_size sized) u c (inr g) = subst (IsOf t p) (sym g.1) e

-- the term that a candidate gives
placed-candidate_gives : (S : Setting) → IsPlacedSetting S → {L : Level} → KeepsPlaced S.tables L → (p : Projection) → HasRow S.tables p → ArePlaced S.tables p.args →
    (itself : Tree) → IsOf S.tables p itself → (u : Tree) (c : Candidate) → IsPlacedCandidate S.tables c → CandidateGives S L p itself u c → IsOf S.tables p u
unfolding CandidateGives
placed-candidate_gives S s w p row given itself e u (assumption q) c g = placed-assumption_gives S.tables w p row q u c g
placed-candidate_gives S s w p row given itself e u (implied_bound b cs) c g = absurd g
placed-candidate_gives S s w p row given itself e u (by_impl r) c g = placed-impl_gives S s.checked w p row given itself e r c u g
placed-candidate_gives S s w p row given itself e u built_in c g =
    placed-listed_gives S.tables w p itself e (term_rule S.tables p.item.id p.args) u (placed-term_rule S.tables s.checked p.item.id p.item row p.args given) g
placed-candidate_gives S s w p row given itself e u error c g = absurd g

-- the term that some candidate of a list gives
placed-some_gives : (S : Setting) → IsPlacedSetting S → {L : Level} → KeepsPlaced S.tables L → (p : Projection) → HasRow S.tables p → ArePlaced S.tables p.args →
    (itself : Tree) → IsOf S.tables p itself → (u : Tree) (cs : List Candidate) → Each (IsPlacedCandidate S.tables) cs → Exists (TermDecides S L p itself u) cs → IsOf S.tables p u
unfolding Each Exists
placed-some_gives S s w p row given itself e u [] all g = absurd g
placed-some_gives S s w p row given itself e u (c ∷ cs) all (inl g) = placed-candidate_gives S s w p row given itself e u c all.0 g.0
placed-some_gives S s w p row given itself e u (c ∷ cs) all (inr g) = placed-some_gives S s w p row given itself e u cs all.1 g

placed-group_gives : (S : Setting) → IsPlacedSetting S → {L : Level} → KeepsPlaced S.tables L → (p : Projection) → HasRow S.tables p → ArePlaced S.tables p.args →
    (itself : Tree) → IsOf S.tables p itself → (cs : List Candidate) → Each (IsPlacedCandidate S.tables) cs → (u : Tree) → GroupGives S L p itself cs u → IsOf S.tables p u
unfolding GroupGives
placed-group_gives S s w p row given itself e cs all u g = placed-some_gives S s w p row given itself e u cs all g.0

-- the term that the groups give
placed-groups_give : (S : Setting) → IsPlacedSetting S → {L : Level} → KeepsPlaced S.tables L → (v : TraitGoalProvenVia) (p : Projection) → HasRow S.tables p → ArePlaced S.tables p.args →
    (itself given : Tree) → IsOf S.tables p itself → IsOf S.tables p given → (cs : List Candidate) → Each (IsPlacedCandidate S.tables) cs → (u : Tree) →
    GroupsGive S L v p itself given cs u → IsOf S.tables p u
unfolding GroupsGive
placed-groups_give S s w v p row args itself given e f cs all u (inl g) = placed-group_gives S s w p row args itself e (environment S) (placed-environment S s) u g.0
placed-groups_give S s w v p row args itself given e f cs all u (inr (inl g)) = placed-group_gives S s w p row args itself e cs all u g.1
placed-groups_give S s w v p row args itself given e f cs all u (inr (inr g)) = subst (IsOf S.tables p) (sym g.3) f

-- an alias of its row's kind is of the item's sort
alias-sort : (k : AliasTermKind) (q : ItemRow) → kind_of_alias k ≡ kind_of_value q.is_const → sort_of (nodes.Alias k) ≡ sort_of_value q.is_const
unfolding kind_of
alias-sort k q e = sort-by_value (alias k none) q.is_const (argument-alias k) e

-- the term of a projection
placed-item_gives : (S : Setting) → IsPlacedSetting S → {L : Level} → KeepsPlaced S.tables L → (k : AliasTermKind) → AliasIsPlaced S.tables k → (args : List Tree) → ArePlaced S.tables args →
    (u : Tree) (q : ItemRow) → item_of S.tables q.id ≡ Some q → sort_of (nodes.Alias k) ≡ sort_of_value q.is_const → (r : TraitRow) → ItemGives S L k args u q r →
    IsPlacedAs S.tables (sort_of_value q.is_const) u
unfolding ItemGives Each
placed-item_gives S s w k own [] all u q row same r g = absurd g
placed-item_gives S s w k own (self ∷ args) all u q row same r g =
    let form : IsPlacedAs S.tables (sort_at self) g.1 = placed-head_form S.tables w self g.1 all.0.1 g.3 in
    let formed : ArePlaced S.tables (g.1 ∷ args) = ((ap is_argument_sort form.0 ∙ all.0.0, form.1), all.1) in
    placed-groups_give S s w g.0 (asked q r (g.1 ∷ args)) row formed
    (alias k (forest (g.1 ∷ args))) (alias k (forest (self ∷ args))) (same, placed-alias S.tables k (g.1 ∷ args) own formed) (same, placed-alias S.tables k (self ∷ args) own all)
    (second_group S q.trait_id g.1 g.0) (placed-second_group S s q.trait_id g.1 form.1 g.0) u g.4

-- by the item's row and its trait's
placed-trait_gives : (S : Setting) → IsPlacedSetting S → {L : Level} → KeepsPlaced S.tables L → (k : AliasTermKind) → AliasIsPlaced S.tables k → (args : List Tree) → ArePlaced S.tables args →
    (u : Tree) (q : ItemRow) → item_of S.tables q.id ≡ Some q → sort_of (nodes.Alias k) ≡ sort_of_value q.is_const → (o : Option TraitRow) → OfRow o (ItemGives S L k args u q) →
    IsPlacedAs S.tables (sort_of_value q.is_const) u
unfolding OfRow
placed-trait_gives S s w k own args all u q row same None g = absurd g
placed-trait_gives S s w k own args all u q row same (Some r) g = placed-item_gives S s w k own args all u q row same r g

own_row : (t : Tables) (i : ItemId) (q : ItemRow) → item_of t i ≡ Some q → item_of t q.id ≡ Some q
own_row t i q e = same-item t i q.id q (eqb-true q.id.0 i.0 (found (λ x. x.id.0 == i.0) t.items.items q e).1) e

placed-item_row_gives : (S : Setting) → IsPlacedSetting S → {L : Level} → KeepsPlaced S.tables L → (k : AliasTermKind) → AliasIsPlaced S.tables k → (i : ItemId) →
    projected_item k ≡ Some i → (args : List Tree) → ArePlaced S.tables args → (u : Tree) (o : Option ItemRow) → item_of S.tables i ≡ o →
    OfRow o (λ q. OfRow (trait_of S.tables q.trait_id) (ItemGives S L k args u q)) → IsPlacedAs S.tables (sort_of (nodes.Alias k)) u
unfolding OfRow
placed-item_row_gives S s w k own i item args all u None e g = absurd g
placed-item_row_gives S s w k own i item args all u (Some q) e g =
    let same : sort_of (nodes.Alias k) ≡ sort_of_value q.is_const = alias-sort k q (projected-kind S.tables k own i q item e) in
    let x : IsPlacedAs S.tables (sort_of_value q.is_const) u =
    placed-trait_gives S s w k own args all u q (own_row S.tables i q e) same (trait_of S.tables q.trait_id) g in
    (x.0 ∙ sym same, x.1)

pub placed-projection_gives : (S : Setting) → IsPlacedSetting S → {L : Level} → KeepsPlaced S.tables L → (k : AliasTermKind) → AliasIsPlaced S.tables k → (i : ItemId) →
    projected_item k ≡ Some i → (args : List Tree) → ArePlaced S.tables args → (u : Tree) → ProjectionGives S L k i args u → IsPlacedAs S.tables (sort_of (nodes.Alias k)) u
unfolding ProjectionGives
placed-projection_gives S s w k own i item args all u g = placed-item_row_gives S s w k own i item args all u (item_of S.tables i) refl g
