-- Which term a projection has: what is said of it by its item, by its trait goal, by groups of candidates and by one candidate.
use Rattle.std.specs.Prelude.{ℕ, List, Option}
use Rattle.goal_terms.specs.Tree.{Tree}
use Rattle.goal_terms.specs.declared.answers.TraitGoalProvenVia.{TraitGoalProvenVia}
use Rattle.goal_terms.specs.declared.ids.ItemId.{ItemId}
use Rattle.goal_interner.specs.declared.term_nodes.TermId.{TermId}
use Rattle.goal_terms.specs.declared.terms.AliasTermKind.{AliasTermKind}
use Rattle.goal_tables.specs.declared.rows.ItemRow.{ItemRow}
use Rattle.goal_lists.specs.Candidates.{Candidate, second_group}
use Rattle.goal_lists.specs.Entries.{Entry}
use Rattle.goal_lists.specs.ImplTerms as asked
use Rattle.goal_lists.specs.Interned.{erased_at, erased_all}
use Rattle.goal_lists.specs.Level.{Level}
use Rattle.goal_lists.specs.ProjectionLists.{projection_list}
use Rattle.goal_lists.specs.Projections.{CandidateGives, TermRefuted, GroupGives, GroupRefuted, GroupsGive, GroupsRefuted, OwnUnformed, ItemGives, ItemRefuted, ProjectionGives, ProjectionRefuted}
use Rattle.goal_lists.specs.Settings.{Setting}
use Rattle.goal_eval.specs.Outcomes.{SaysWhich, projection_at}
use Rattle.goal_eval.specs.ProjectionParts.{FormedGives, LaterGives, LaterRefuted, ReplacedGives, ReplacedRefuted, ThroughGives, ThroughRefuted}
use Rattle.goal_eval.specs.SpecialImpls.{SaysGiven}
use Rattle.goal_eval.specs.declared.eval.outcomes.Found.{Found}
use Rattle.goal_eval.specs.declared.eval.outcomes.Projection.{Projection}
use Rattle.goal_eval.specs.declared.normalizes_to.projection_candidates.GivenTerm.{GivenTerm}
use Rattle.goal_eval.specs.declared.normalizes_to.projections.AliasWithArgs.{AliasWithArgs}
use Rattle.goal_eval.specs.declared.normalizes_to.projections.Given.{Given}
use Rattle.goal_eval.specs.declared.normalizes_to.projections.ItemRows.{ItemRows}
use Rattle.goal_eval.specs.declared.normalizes_to.projections.ProvenProjection.{ProvenProjection}

-- the arguments of an alias, without lifetimes
abbrev pub alias_args : List Tree → AliasWithArgs → List Tree
alias_args T a = erased_all T a.args.now

-- which term a projection of an item has
abbrev pub SaysProjection : Setting → Level → List Tree → AliasWithArgs → ItemId → List Tree → Found → Type 0
SaysProjection S L T a i =
    SaysWhich (ProjectionGives S L a.kind i (alias_args T a)) (ProjectionRefuted S L a.kind i (alias_args T a))

-- which term it has by its item's row and its trait's
abbrev pub SaysItem : Setting → Level → List Tree → AliasWithArgs → ItemRows → List Tree → Found → Type 0
SaysItem S L T a r =
    SaysWhich (λ u. ItemGives S L a.kind (alias_args T a) u r.item.now r.trait_row.now)
    (ItemRefuted S L a.kind (alias_args T a) r.item.now r.trait_row.now)

-- a projection whose trait goal holds through a class: its alias, its item, and how many of its arguments are the trait's
pub record ProvenAlias : Type 0 where
  pub kind : AliasTermKind
  pub item : ItemRow
  pub trait_params : ℕ
  pub class : TraitGoalProvenVia
  pub args : List Tree

abbrev pub given_at : List Tree → Given → ProvenAlias
given_at T g = record { kind = g.kind; item = g.item.now; trait_params = g.trait_params; class = g.class; args = erased_all T g.args.now }

-- which term it has
abbrev pub SaysProven : Setting → Level → ProvenAlias → List Tree → Found → Type 0
SaysProven S L a =
    SaysWhich (ThroughGives S L a.kind a.item a.trait_params a.class a.args) (ThroughRefuted S L a.kind a.item a.trait_params a.class a.args)

-- the same for the head form of its self type
abbrev pub SaysReplaced : Setting → Level → List Tree → Given → TermId → List Tree → Found → Type 0
SaysReplaced S L T g s =
    SaysWhich (ReplacedGives S L g.kind g.item.now g.trait_params g.class (erased_all T g.args.now) (erased_at T s))
    (ReplacedRefuted S L g.kind g.item.now g.trait_params g.class (erased_all T g.args.now) (erased_at T s))

-- the candidates after the environment, for a projection whose trait goal holds
abbrev pub second_at : Setting → List Tree → ProvenProjection → List Candidate
second_at S T p = second_group S p.projection.item.now.trait_id (erased_at T p.self_ty) p.class

-- such a projection as it is asked, and its alias without lifetimes
abbrev pub proven_at : List Tree → ProvenProjection → asked.Projection
proven_at T p = projection_at T p.projection

abbrev pub proven_alias : List Tree → ProvenProjection → Tree
proven_alias T p = erased_at T p.projection.rigid_alias

-- which term the two groups of candidates give it
abbrev pub SaysBothGroups : Setting → Level → List Tree → ProvenProjection → List Tree → Found → Type 0
SaysBothGroups S L T p =
    SaysWhich (GroupsGive S L p.class (proven_at T p) (proven_alias T p) (erased_at T p.given) (second_at S T p))
    (GroupsRefuted S L p.class (proven_at T p) (proven_alias T p) (second_at S T p))

-- the same where all candidates of the environment are refuted
abbrev pub SaysLaterGroup : Setting → Level → List Tree → ProvenProjection → List Tree → Found → Type 0
SaysLaterGroup S L T p =
    SaysWhich (LaterGives S L p.class (proven_at T p) (proven_alias T p) (erased_at T p.given) (second_at S T p))
    (LaterRefuted S L p.class (proven_at T p) (proven_alias T p) (second_at S T p))

-- which term a group of candidates gives a projection
abbrev pub SaysGroup : Setting → Level → List Tree → Projection → List Candidate → List Tree → Found → Type 0
SaysGroup S L T p xs = SaysWhich (GroupGives S L (projection_at T p) (erased_at T p.rigid_alias) xs) (GroupRefuted S L (projection_at T p) xs)

-- whether a projection has a term, by whether its own arguments have head forms
abbrev pub SaysOwnFormed : Level → List Tree → Projection → TermId → List Tree → Found → Type 0
SaysOwnFormed L T p t = SaysWhich (FormedGives L (projection_at T p) (erased_at T t)) (OwnUnformed L (projection_at T p))

-- which term a candidate gives a projection
abbrev pub SaysGivenBy : Setting → Level → List Tree → Projection → Candidate → List Tree → Found → Type 0
SaysGivenBy S L T p x = SaysWhich (λ u. CandidateGives S L (projection_at T p) (erased_at T p.rigid_alias) u x) (TermRefuted S L (projection_at T p) x)

-- the same beside the impls that are more special, and whether the candidate decides
abbrev pub SaysConsidered : Setting → Level → List Tree → Projection → Candidate → List Tree → GivenTerm → Type 0
SaysConsidered S L T p x = SaysGiven S L (projection_at T p) (erased_at T p.rigid_alias) x

-- the list of a candidate for the term of a projection
abbrev pub term_list : Setting → List Tree → Projection → Candidate → Option (List Entry)
term_list S T p x = projection_list S (projection_at T p) (erased_at T p.rigid_alias) x
