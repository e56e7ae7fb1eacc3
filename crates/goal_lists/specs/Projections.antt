-- Projections: the terms that candidates give, and that of the alias, one height above a level.
use Rattle.std.specs.Prelude.{◌≡◌, ◌≢◌, ◌⊎◌, List, [], ◌∷◌, length, take, Option, Some, None}
use Rattle.goal_terms.specs.PredicateTrees.{PredicateTree, holds, equals, holds_const}
use Rattle.goal_terms.specs.Tree.{Tree, node, alias, variable, list_of, forest}
use Rattle.goal_terms.specs.declared.answers.TraitGoalProvenVia.{TraitGoalProvenVia}
use Rattle.goal_terms.specs.declared.answers.TraitGoalProvenVia.TheVariants as class
use Rattle.goal_terms.specs.declared.ids.ItemId.{ItemId}
use Rattle.goal_terms.specs.declared.terms.AliasTermKind.{AliasTermKind}
use Rattle.goal_terms.specs.declared.terms.AliasTermKind.TheVariants.{ProjectionTy, ProjectionConst}
use Rattle.goal_tables.specs.Rows.{trait_of, item_of}
use Rattle.goal_tables.specs.declared.rows.ItemRow.{ItemRow}
use Rattle.goal_tables.specs.declared.rows.TraitRow.{TraitRow}
use Rattle.goal_lists.specs.Builtins.{Listed, nothing_listed, listed, listed_rigid, listed_by_size, term_rule, unit_ty}
use Rattle.goal_lists.specs.Candidates.{Candidate, assumption, implied_bound, by_impl, built_in, error, environment, second_group}
use Rattle.goal_lists.specs.ImplTerms.{Projection, ImplGives, ImplTermRefuted, own_clauses, trait_args, own_args}
use Rattle.goal_lists.specs.Level.{Level, HasHeadForm, HeadFormRefuted}
use Rattle.goal_lists.specs.Premises.{PremisesHold, PremisesRefuted, ClauseHolds}
use Rattle.goal_lists.specs.Settings.{Setting}
use Rattle.goal_lists.specs.TraitGoals.{PassedOver, Decides}
use Rattle.goal_lists.specs.Words.{Each, Exists, Pairs, SomePair, OfRow}

-- the item that an alias projects
abbrev pub projected_item : AliasTermKind → Option ItemId
projected_item (ProjectionTy i) = Some i
projected_item (ProjectionConst i) = Some i
projected_item _ = None

-- a projection of the same item with equal arguments; its own where clauses hold, and the clause's term has a head form
unfoldable pub EquationGives : Level → Projection → Tree → Tree → Tree → Type 0
EquationGives L p (alias k bs) v u =
    (projected_item k ≡ Some p.item.id)
    × Pairs L.equal (list_of bs) p.args
    × PremisesHold L (own_clauses p)
    × HasHeadForm L v u
EquationGives L p (node h bs) v u = ⊥
EquationGives L p (variable x) v u = ⊥

-- another item, other arguments, a refuted own where clause, or a term without a head form
unfoldable pub EquationRefuted : Level → Projection → Tree → Tree → Type 0
EquationRefuted L p (alias k bs) v =
    (projected_item k ≢ Some p.item.id)
    ⊎ SomePair L.unequal (list_of bs) p.args
    ⊎ PremisesRefuted L (own_clauses p)
    ⊎ HeadFormRefuted L v
EquationRefuted L p (node h bs) v = Unit {0}
EquationRefuted L p (variable x) v = Unit {0}

-- a clause gives a projection's term, or gives none
unfoldable pub AssumptionGives : Level → Projection → PredicateTree → Tree → Type 0
AssumptionGives L p (equals a v) u = EquationGives L p a v u
AssumptionGives L p (holds i ts) u = ⊥
AssumptionGives L p (holds_const c i ts) u = ⊥

unfoldable pub AssumptionTermRefuted : Level → Projection → PredicateTree → Type 0
AssumptionTermRefuted L p (equals a v) = EquationRefuted L p a v
AssumptionTermRefuted L p (holds i ts) = Unit {0}
AssumptionTermRefuted L p (holds_const c i ts) = Unit {0}

-- the self type of a projection is `Sized`, or refuted to be so
abbrev pub self_of : List Tree → List Tree
self_of [] = []
self_of (self ∷ ts) = self ∷ []

-- what a built-in rule lists gives a term
unfoldable pub ListedGives : Level → Projection → Tree → Listed → Tree → Type 0
ListedGives L p itself nothing_listed u = ⊥
ListedGives L p itself (listed ps v) u = PremisesHold L ps × HasHeadForm L v u
ListedGives L p itself listed_rigid u = u ≡ itself
ListedGives L p itself (listed_by_size sized) u =
    (ClauseHolds L (holds sized (self_of p.args)) × (u ≡ unit_ty)) ⊎ (L.trait_refuted sized (self_of p.args) × (u ≡ itself))

-- it gives none
unfoldable pub ListedRefuted : Level → Listed → Type 0
ListedRefuted L nothing_listed = Unit {0}
ListedRefuted L (listed ps v) = PremisesRefuted L ps ⊎ HeadFormRefuted L v
ListedRefuted L listed_rigid = ⊥
ListedRefuted L (listed_by_size sized) = ⊥

-- a candidate gives a projection's term
unfoldable pub CandidateGives : Setting → Level → Projection → Tree → Tree → Candidate → Type 0
CandidateGives S L p itself u (assumption q) = AssumptionGives L p q u
CandidateGives S L p itself u (implied_bound b cs) = ⊥
CandidateGives S L p itself u (by_impl r) = ImplGives S L p itself r u
CandidateGives S L p itself u built_in = ListedGives L p itself (term_rule S.tables p.item.id p.args) u
CandidateGives S L p itself u error = ⊥

-- a candidate gives no term, now or at any greater height
unfoldable pub TermRefuted : Setting → Level → Projection → Candidate → Type 0
TermRefuted S L p (assumption q) = AssumptionTermRefuted L p q
TermRefuted S L p (implied_bound b cs) = Unit {0}
TermRefuted S L p (by_impl r) = ImplTermRefuted S L p r
TermRefuted S L p built_in = ListedRefuted L (term_rule S.tables p.item.id p.args)
TermRefuted S L p error = Unit {0}

-- a candidate gives a projection's term, and decides
abbrev pub TermDecides : Setting → Level → Projection → Tree → Tree → Candidate → Type 0
TermDecides S L p itself u c = CandidateGives S L p itself u c × Decides S L (trait_args p) c

-- a candidate is ruled out: it gives no term, or is passed over
abbrev pub TermRuledOut : Setting → Level → Projection → Candidate → Type 0
TermRuledOut S L p c = TermRefuted S L p c ⊎ PassedOver S L (trait_args p) c

-- a group gives a term: one of its candidates does and decides, and each gives that term or is ruled out
unfoldable pub GroupGives : Setting → Level → Projection → Tree → List Candidate → Tree → Type 0
GroupGives S L p itself cs u =
    Exists (TermDecides S L p itself u) cs × Each (λ c. CandidateGives S L p itself u c ⊎ TermRuledOut S L p c) cs

-- all candidates of a group are ruled out
unfoldable pub GroupRefuted : Setting → Level → Projection → List Candidate → Type 0
GroupRefuted S L p cs = Each (TermRuledOut S L p) cs

-- the item's own arguments have head forms, or one of them has none
unfoldable pub OwnFormed : Level → Projection → Type 0
OwnFormed L p = Each (λ a. (f : Tree) × HasHeadForm L a f) (own_args p)

unfoldable pub OwnUnformed : Level → Projection → Type 0
OwnUnformed L p = Exists (HeadFormRefuted L) (own_args p)

-- the term of a projection, its trait goal holding through a class, by the groups of candidates: the first that isn't refuted gives it; where the environment or the bounds alone give it, the own arguments must have head forms; where these decide and all are ruled out, the alias stays as it was given
unfoldable pub GroupsGive : Setting → Level → TraitGoalProvenVia → Projection → Tree → Tree → List Candidate → Tree → Type 0
GroupsGive S L c p itself given second u =
    (GroupGives S L p itself (environment S) u × OwnFormed L p)
    ⊎ (GroupRefuted S L p (environment S) × GroupGives S L p itself second u × ((c ≡ class.Misc) ⊎ OwnFormed L p))
    ⊎ (GroupRefuted S L p (environment S) × GroupRefuted S L p second × (c ≢ class.Misc) × (u ≡ given))

-- no term: the rest decides and all candidates are ruled out; or the environment or the bounds alone give a term, and an own argument has no head form
unfoldable pub GroupsRefuted : Setting → Level → TraitGoalProvenVia → Projection → Tree → List Candidate → Type 0
GroupsRefuted S L c p itself second =
    (GroupRefuted S L p (environment S) × GroupRefuted S L p second × (c ≡ class.Misc))
    ⊎ (((u : Tree) × GroupGives S L p itself (environment S) u) × OwnUnformed L p)
    ⊎ (GroupRefuted S L p (environment S) × ((u : Tree) × GroupGives S L p itself second u) × (c ≢ class.Misc) × OwnUnformed L p)

-- a projection as it is asked, with the head form of its self type in place of that
abbrev pub asked : ItemRow → TraitRow → List Tree → Projection
asked q r args = record { item = q; trait_params = length r.params.items; args = args }

-- a projection has a term: its trait goal holds through a class, and the groups for the head form of its self type give it
unfoldable pub ItemGives : Setting → Level → AliasTermKind → List Tree → Tree → ItemRow → TraitRow → Type 0
ItemGives S L k [] u q r = ⊥
ItemGives S L k (self ∷ args) u q r =
    (c : TraitGoalProvenVia)
    × (s : Tree)
    × L.through c q.trait_id (take (length r.params.items) (self ∷ args))
    × HasHeadForm L self s
    × GroupsGive S L c (asked q r (s ∷ args)) (alias k (forest (s ∷ args))) (alias k (forest (self ∷ args))) (second_group S q.trait_id s c) u

-- a projection has none: its trait goal is refuted, or it holds through a class and the groups give none
unfoldable pub ItemRefuted : Setting → Level → AliasTermKind → List Tree → ItemRow → TraitRow → Type 0
ItemRefuted S L k [] q r = ⊥
ItemRefuted S L k (self ∷ args) q r =
    L.trait_refuted q.trait_id (take (length r.params.items) (self ∷ args))
    ⊎ ((c : TraitGoalProvenVia)
    × (s : Tree)
    × L.through c q.trait_id (take (length r.params.items) (self ∷ args))
    × HasHeadForm L self s
    × GroupsRefuted S L c (asked q r (s ∷ args)) (alias k (forest (s ∷ args))) (second_group S q.trait_id s c))

-- by the item's row and its trait's
unfoldable pub ProjectionGives : Setting → Level → AliasTermKind → ItemId → List Tree → Tree → Type 0
ProjectionGives S L k i args u = OfRow (item_of S.tables i) (λ q. OfRow (trait_of S.tables q.trait_id) (ItemGives S L k args u q))

unfoldable pub ProjectionRefuted : Setting → Level → AliasTermKind → ItemId → List Tree → Type 0
ProjectionRefuted S L k i args = OfRow (item_of S.tables i) (λ q. OfRow (trait_of S.tables q.trait_id) (ItemRefuted S L k args q))
