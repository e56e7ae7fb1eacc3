-- The term of a projection holds no inference variable, if its arguments and the environment hold none and the tables are accepted.
use Rattle.std.proofs.Common.{List, [], ◌∷◌, Option, Some, None, inl, inr, ap, ◌∙◌}
use Rattle.goal_terms.specs.NodeTests.{is_any_infer, some_node}
use Rattle.goal_terms.specs.PredicateTrees.{PredicateTree, holds, equals, holds_const}
use Rattle.goal_terms.specs.Tree.{Tree, node, alias, variable, forest}
use Rattle.goal_terms.specs.declared.answers.TraitGoalProvenVia.{TraitGoalProvenVia}
use Rattle.goal_terms.specs.declared.ids.ItemId.{ItemId}
use Rattle.goal_terms.specs.declared.terms.AliasTermKind.{AliasTermKind}
use Rattle.goal_tables.specs.Rows.{trait_of, item_of}
use Rattle.goal_tables.specs.declared.rows.ItemRow.{ItemRow}
use Rattle.goal_tables.specs.declared.rows.TraitRow.{TraitRow}
use Rattle.goal_lists.specs.Builtins.{Listed, nothing_listed, listed, listed_rigid, listed_by_size, term_rule}
use Rattle.goal_lists.specs.Candidates.{Candidate, assumption, implied_bound, by_impl, built_in, error, environment, second_group}
use Rattle.goal_lists.specs.ImplTerms.{Projection}
use Rattle.goal_lists.specs.Level.{Level}
use Rattle.goal_lists.specs.Projections.{EquationGives, AssumptionGives, ListedGives, CandidateGives, TermDecides, GroupGives, GroupsGive, asked, ItemGives, ProjectionGives}
use Rattle.goal_lists.specs.Settings.{Setting}
use Rattle.goal_lists.specs.Words.{Each, Exists, OfRow}
use Rattle.goal_kinds.proofs.ClosedBuiltins.{IsClosedListed, closed-term_rule}
use Rattle.goal_kinds.proofs.ClosedCandidates.{SaysClosed, IsClosedCandidate, IsClosedSetting, closed-environment, closed-second_group}
use Rattle.goal_kinds.proofs.ClosedHeaders.{KeepsClosed, closed-head_form}
use Rattle.goal_kinds.proofs.ClosedImplTerms.{closed-impl_gives}
use Rattle.goal_kinds.proofs.ClosedTerms.{IsClosedTree, AreClosedTrees, closed-alias}

-- the term of a clause
closed-equation_gives : {L : Level} → KeepsClosed L → (p : Projection) (a v u : Tree) → IsClosedTree v → EquationGives L p a v u → IsClosedTree u
unfolding EquationGives
closed-equation_gives w p (alias k bs) v u e g = closed-head_form w v u e g.3
closed-equation_gives w p (node h bs) v u e g = absurd g
closed-equation_gives w p (variable x) v u e g = absurd g

closed-assumption_gives : {L : Level} → KeepsClosed L → (p : Projection) (q : PredicateTree) (u : Tree) → SaysClosed q → AssumptionGives L p q u → IsClosedTree u
unfolding AssumptionGives
closed-assumption_gives w p (equals a v) u e g = closed-equation_gives w p a v u e g
closed-assumption_gives w p (holds i ts) u e g = absurd g
closed-assumption_gives w p (holds_const c i ts) u e g = absurd g

-- the term that a built-in rule lists
closed-listed_gives : {L : Level} → KeepsClosed L → (p : Projection) (itself : Tree) → IsClosedTree itself → (l : Listed) (u : Tree) → IsClosedListed l →
    ListedGives L p itself l u → IsClosedTree u
unfolding ListedGives some_node
closed-listed_gives w p itself e nothing_listed u c g = absurd g
closed-listed_gives w p itself e (listed ps v) u c g = closed-head_form w v u c g.1
closed-listed_gives w p itself e listed_rigid u c g = ap (some_node is_any_infer) g ∙ e
closed-listed_gives w p itself e (listed_by_size sized) u c (inl g) = ap (some_node is_any_infer) g.1
closed-listed_gives w p itself e (listed_by_size sized) u c (inr g) = ap (some_node is_any_infer) g.1 ∙ e

-- the term that a candidate gives
closed-candidate_gives : {L : Level} → KeepsClosed L → (S : Setting) → IsClosedSetting S → (p : Projection) → AreClosedTrees p.args →
    (itself : Tree) → IsClosedTree itself → (u : Tree) (c : Candidate) → IsClosedCandidate c → CandidateGives S L p itself u c → IsClosedTree u
unfolding CandidateGives
closed-candidate_gives w S s p given itself e u (assumption q) c g = closed-assumption_gives w p q u c g
closed-candidate_gives w S s p given itself e u (implied_bound b cs) c g = absurd g
closed-candidate_gives w S s p given itself e u (by_impl r) c g = closed-impl_gives w S s.checked p given itself e r c u g
closed-candidate_gives w S s p given itself e u built_in c g =
    closed-listed_gives w p itself e (term_rule S.tables p.item.id p.args) u (closed-term_rule S.tables s.checked p.item.id p.args given) g
closed-candidate_gives w S s p given itself e u error c g = absurd g

-- the term that some candidate of a list gives
closed-some_gives : {L : Level} → KeepsClosed L → (S : Setting) → IsClosedSetting S → (p : Projection) → AreClosedTrees p.args →
    (itself : Tree) → IsClosedTree itself → (u : Tree) (cs : List Candidate) → Each IsClosedCandidate cs → Exists (TermDecides S L p itself u) cs → IsClosedTree u
unfolding Each Exists
closed-some_gives w S s p given itself e u [] all g = absurd g
closed-some_gives w S s p given itself e u (c ∷ cs) all (inl g) = closed-candidate_gives w S s p given itself e u c all.0 g.0
closed-some_gives w S s p given itself e u (c ∷ cs) all (inr g) = closed-some_gives w S s p given itself e u cs all.1 g

closed-group_gives : {L : Level} → KeepsClosed L → (S : Setting) → IsClosedSetting S → (p : Projection) → AreClosedTrees p.args →
    (itself : Tree) → IsClosedTree itself → (cs : List Candidate) → Each IsClosedCandidate cs → (u : Tree) → GroupGives S L p itself cs u → IsClosedTree u
unfolding GroupGives
closed-group_gives w S s p given itself e cs all u g = closed-some_gives w S s p given itself e u cs all g.0

-- the term that the groups give
closed-groups_give : {L : Level} → KeepsClosed L → (S : Setting) → IsClosedSetting S → (v : TraitGoalProvenVia) (p : Projection) → AreClosedTrees p.args →
    (itself given : Tree) → IsClosedTree itself → IsClosedTree given → (cs : List Candidate) → Each IsClosedCandidate cs → (u : Tree) →
    GroupsGive S L v p itself given cs u → IsClosedTree u
unfolding GroupsGive
closed-groups_give w S s v p args itself given e f cs all u (inl g) = closed-group_gives w S s p args itself e (environment S) (closed-environment S s) u g.0
closed-groups_give w S s v p args itself given e f cs all u (inr (inl g)) = closed-group_gives w S s p args itself e cs all u g.1
closed-groups_give w S s v p args itself given e f cs all u (inr (inr g)) = ap (some_node is_any_infer) g.3 ∙ f

-- the term of a projection
closed-item_gives : {L : Level} → KeepsClosed L → (S : Setting) → IsClosedSetting S → (k : AliasTermKind) (args : List Tree) → AreClosedTrees args →
    (u : Tree) (q : ItemRow) (r : TraitRow) → ItemGives S L k args u q r → IsClosedTree u
unfolding ItemGives Each
closed-item_gives w S s k [] all u q r g = absurd g
closed-item_gives w S s k (self ∷ args) all u q r g =
    let form : IsClosedTree g.1 = closed-head_form w self g.1 all.0 g.3 in
    closed-groups_give w S s g.0 (asked q r (g.1 ∷ args)) (form, all.1)
    (alias k (forest (g.1 ∷ args))) (alias k (forest (self ∷ args))) (closed-alias k (g.1 ∷ args) (form, all.1)) (closed-alias k (self ∷ args) all)
    (second_group S q.trait_id g.1 g.0) (closed-second_group S s q.trait_id g.1 form g.0) u g.4

-- by the item's row and its trait's
closed-trait_gives : {L : Level} → KeepsClosed L → (S : Setting) → IsClosedSetting S → (k : AliasTermKind) (args : List Tree) → AreClosedTrees args →
    (u : Tree) (q : ItemRow) (o : Option TraitRow) → OfRow o (ItemGives S L k args u q) → IsClosedTree u
unfolding OfRow
closed-trait_gives w S s k args all u q None g = absurd g
closed-trait_gives w S s k args all u q (Some r) g = closed-item_gives w S s k args all u q r g

closed-item_row_gives : {L : Level} → KeepsClosed L → (S : Setting) → IsClosedSetting S → (k : AliasTermKind) (args : List Tree) → AreClosedTrees args →
    (u : Tree) (o : Option ItemRow) → OfRow o (λ q. OfRow (trait_of S.tables q.trait_id) (ItemGives S L k args u q)) → IsClosedTree u
unfolding OfRow
closed-item_row_gives w S s k args all u None g = absurd g
closed-item_row_gives w S s k args all u (Some q) g = closed-trait_gives w S s k args all u q (trait_of S.tables q.trait_id) g

pub closed-projection_gives : {L : Level} → KeepsClosed L → (S : Setting) → IsClosedSetting S → (k : AliasTermKind) (i : ItemId) (args : List Tree) →
    AreClosedTrees args → (u : Tree) → ProjectionGives S L k i args u → IsClosedTree u
unfolding ProjectionGives
closed-projection_gives w S s k i args all u g = closed-item_row_gives w S s k args all u (item_of S.tables i) g
