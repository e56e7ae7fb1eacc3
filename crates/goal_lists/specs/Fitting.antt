-- Which candidates may fit given arguments, as far as the heads of headers say. The others are refuted without any height.
use Rattle.std.specs.Prelude.{◌==◌, Bool, true, false, ◌&&◌, List, [], ◌∷◌, map, filter, Option, Some, None}
use Rattle.goal_terms.specs.PredicateTrees.{PredicateTree, holds, equals, holds_const}
use Rattle.goal_interner.specs.TableMeaning.{tree_at}
use Rattle.goal_terms.specs.Tree.{Tree, node, alias, variable, list_of, node_of}
use Rattle.goal_terms.specs.TreeOf.{trees_of}
use Rattle.goal_terms.specs.declared.answers.TraitGoalProvenVia.{TraitGoalProvenVia}
use Rattle.goal_terms.specs.declared.answers.TraitGoalProvenVia.TheVariants as class
use Rattle.goal_terms.specs.declared.heads.Node.{Node}
use Rattle.goal_terms.specs.declared.heads.Node.TheVariants as nodes
use Rattle.goal_terms.specs.declared.ids.ItemId.{ItemId}
use Rattle.goal_terms.specs.declared.ids.TraitId.{TraitId}
use Rattle.goal_interner.specs.declared.term_nodes.TermId.{TermId}
use Rattle.goal_lists.specs.Candidates.{Candidate, assumption, by_impl, class_of}
use Rattle.goal_lists.specs.FastReject.{agree, heads_agree}
use Rattle.goal_lists.specs.Projections.{projected_item}
use Rattle.goal_lists.specs.Settings.{Setting}
use Rattle.goal_lists.specs.TraitLists.{is_trait}
use Rattle.goal_lists.specs.declared.fast_reject.Parameters.{Parameters}
use Rattle.goal_lists.specs.declared.fast_reject.Parameters.TheVariants.{Rigid, Inferred}

-- the terms of some numbers, with their lifetimes
abbrev pub trees_at : List Tree → List TermId → List Tree
trees_at T ids = map (tree_at T) ids

-- whether no head of a header's term differs from that of a given term
abbrev pub head_agrees : Parameters → Tree → Tree → Bool
head_agrees = agree (λ n m. true)

-- whether a candidate may fit given arguments: all but an impl whose header has another head
abbrev pub may_fit : List Tree → Candidate → Bool
may_fit args (by_impl r) = heads_agree Inferred args (trees_of r.trait_args.items)
may_fit args x = true

-- the candidates that may fit
abbrev pub fitting : List Tree → List Candidate → List Candidate
fitting args xs = filter (may_fit args) xs

-- what candidates are looked for: a trait's or an item's, with given arguments
pub record About : Type 0 where
  pub trait_id : TraitId
  pub item : Option ItemId
  pub args : List Tree

-- a trait's alone
abbrev pub about_trait : TraitId → List Tree → About
about_trait i args = record { trait_id = i; item = None; args = args }

-- whether an item is this one
abbrev pub is_item : ItemId → Option ItemId → Bool
is_item q None = false
is_item q (Some i) = i.0 == q.0

-- whether an alias may be that of an item and given arguments
abbrev pub alias_may_fit : ItemId → List Tree → Tree → Bool
alias_may_fit q args (alias k bs) = is_item q (projected_item k) && heads_agree Rigid args (list_of bs)
alias_may_fit q args (node h bs) = false
alias_may_fit q args (variable v) = false

-- whether a trait with arguments may be the one that is looked for
abbrev pub trait_may_fit : About → TraitId → List Tree → Bool
trait_may_fit a j bs = is_trait j a.trait_id && heads_agree Rigid a.args bs

-- what is asked of a trait, or of an item if one is looked for
abbrev pub about_item : Option ItemId → Bool → (ItemId → Bool) → Bool
about_item None b f = b
about_item (Some q) b f = f q

-- whether a clause may be about what is looked for: it is of that trait or that item, and no head of its arguments is another one
abbrev pub clause_may_fit : About → PredicateTree → Bool
clause_may_fit a (holds j bs) = about_item a.item (trait_may_fit a j bs) (λ q. false)
clause_may_fit a (holds_const c j bs) = about_item a.item (trait_may_fit a j bs) (λ q. false)
clause_may_fit a (equals t u) = about_item a.item false (λ q. alias_may_fit q a.args t)

-- whether a candidate may be: all but such a clause
abbrev pub near : About → Candidate → Bool
near a (assumption p) = clause_may_fit a p
near a x = true

-- whether a candidate of a class is looked at
abbrev pub passes : TraitGoalProvenVia → About → Candidate → Bool
passes class.ParamEnv a = near a
passes class.AliasBound a = may_fit a.args
passes class.Misc a = may_fit a.args

-- the candidates of a class that are looked at, for a self type
abbrev pub class_fitting : Setting → Tree → About → TraitGoalProvenVia → List Candidate
class_fitting S s a c = filter (passes c a) (class_of S a.trait_id s c)

-- a node, if it is a constructor
abbrev pub constructor : Node → Option Node
constructor (nodes.Head h) = Some (nodes.Head h)
constructor (nodes.Alias k) = None
constructor (nodes.Variable v) = None

-- the constructor at the top of the first of some terms
abbrev pub first_constructor : List Tree → Option Node
first_constructor [] = None
first_constructor (t ∷ ts) = constructor (node_of t)
