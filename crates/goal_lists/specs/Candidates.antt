-- The candidates for a goal of a trait, whose self type is a head form.
use Rattle.std.specs.Prelude.{◌==◌, List, [], ◌∷◌, ◌++◌, map, filter, Option, Some, None}
use Rattle.goal_terms.specs.PredicateTrees.{PredicateTree, holds, equals, tree_of_kind}
use Rattle.goal_terms.specs.Tree.{Tree, node, alias, variable, list_of, forest}
use Rattle.goal_terms.specs.declared.answers.TraitGoalProvenVia.{TraitGoalProvenVia}
use Rattle.goal_terms.specs.declared.answers.TraitGoalProvenVia.TheVariants as class
use Rattle.goal_terms.specs.declared.heads.Head.TheVariants.{Dynamic, DynTrait, DynProjection}
use Rattle.goal_terms.specs.declared.ids.TraitId.{TraitId}
use Rattle.goal_terms.specs.declared.predicates.Clause.{Clause}
use Rattle.goal_terms.specs.declared.terms.AliasTermKind.{AliasTermKind}
use Rattle.goal_terms.specs.declared.terms.AliasTermKind.TheVariants.{ProjectionTy, OpaqueTy}
use Rattle.goal_tables.specs.Rows.{item_of, opaque_of}
use Rattle.goal_tables.specs.declared.rows.ConstBounds.{ConstBounds}
use Rattle.goal_tables.specs.declared.rows.ImplRow.{ImplRow}
use Rattle.goal_tables.specs.declared.rows.ItemRow.{ItemRow}
use Rattle.goal_tables.specs.declared.rows.OpaqueRow.{OpaqueRow}
use Rattle.goal_tables.specs.declared.rows.Tables.{Tables}
use Rattle.goal_lists.specs.Premises.{TraitTree, predicate_under, trait_under, traits_under}
use Rattle.goal_lists.specs.Settings.{Setting}

-- something that may show that a goal holds, or give its term
pub data Candidate : Type 0 where
  -- a clause of the environment, a bound of the self type, or a clause of a `dyn` self type
  assumption : PredicateTree → Candidate
  -- a trait that the self type's declaration says to hold as a const trait where its const conditions do
  implied_bound : TraitTree → List TraitTree → Candidate
  -- an impl of the goal's trait
  by_impl : ImplRow → Candidate
  -- the trait's meaning as a trait alias, or a built-in rule
  built_in : Candidate
  -- an error in the goal
  error : Candidate

-- a candidate is no impl
abbrev pub IsNoImpl : Candidate → Type 0
IsNoImpl (by_impl r) = ⊥
IsNoImpl _ = Unit {0}

-- a row's clauses under arguments
abbrev pub bounds_under : List Tree → List Clause → List Candidate
bounds_under s clauses = map (λ c. assumption (predicate_under s (tree_of_kind c.kind))) clauses

-- the const bounds of a row under arguments
abbrev pub const_bounds_under : List Tree → Option ConstBounds → List Candidate
const_bounds_under s None = []
const_bounds_under s (Some b) = map (λ r. implied_bound (trait_under s r) (traits_under s b.conditions.items)) b.implied.items

-- the bounds that a row declares for an alias, which stands for its row's last parameter
abbrev pub item_bounds : List Tree → Option ItemRow → List Candidate
item_bounds s None = []
item_bounds s (Some r) = bounds_under s r.bounds.items ++ const_bounds_under s r.const_bounds

abbrev pub opaque_bounds : List Tree → Option OpaqueRow → List Candidate
opaque_bounds s None = []
opaque_bounds s (Some r) = bounds_under s r.bounds.items ++ const_bounds_under s r.const_bounds

-- the bounds of a rigid alias
unfoldable pub bounds_of_alias : Tables → AliasTermKind → List Tree → Tree → List Candidate
bounds_of_alias t (ProjectionTy i) args self = item_bounds (args ++ self ∷ []) (item_of t i)
bounds_of_alias t (OpaqueTy i) args self = opaque_bounds (args ++ self ∷ []) (opaque_of t i)
bounds_of_alias t _ args self = []

-- the bounds of a self type, if it is a rigid projection or opaque type
unfoldable pub bounds_of : Tables → Tree → List Candidate
bounds_of t (node h ts) = []
bounds_of t (alias k ts) = bounds_of_alias t k (list_of ts) (alias k ts)
bounds_of t (variable v) = []

-- a list without its last element, and the last element
unfoldable pub all_but_last : List Tree → List Tree
all_but_last [] = []
all_but_last (t ∷ []) = []
all_but_last (t ∷ u ∷ us) = t ∷ all_but_last (u ∷ us)

unfoldable pub last_of : List Tree → Option Tree
last_of [] = None
last_of (t ∷ []) = Some t
last_of (t ∷ u ∷ us) = last_of (u ∷ us)

-- a clause that an item of a self type has a term
abbrev pub projects : Tree → Option Tree → List Candidate
projects a None = []
projects a (Some u) = assumption (equals a u) ∷ []

-- what a clause of a `dyn` type says of that type
abbrev pub object_bound : Tree → Tree → List Candidate
object_bound self (node (DynTrait i n) ts) = assumption (holds i (self ∷ list_of ts)) ∷ []
object_bound self (node (DynProjection i n) ts) =
    projects (alias (ProjectionTy i) (forest (self ∷ all_but_last (list_of ts)))) (last_of (list_of ts))
object_bound self _ = []

unfoldable pub object_bounds_among : Tree → List Tree → List Candidate
object_bounds_among self [] = []
object_bounds_among self (t ∷ ts) = object_bound self t ++ object_bounds_among self ts

-- what the clauses of a `dyn` self type say
unfoldable pub object_bounds : Tree → List Candidate
object_bounds (node (Dynamic n r) ts) = object_bounds_among (node (Dynamic n r) ts) (list_of ts)
object_bounds _ = []

-- the impls of a trait
abbrev pub impls_for : Tables → TraitId → List ImplRow
impls_for t i = filter (λ r. r.trait_id.0 == i.0) t.impls.items

-- the candidates of the class of the environment
abbrev pub environment : Setting → List Candidate
environment S = map assumption S.env

-- those of the class of the bounds
abbrev pub alias_bounds : Setting → Tree → List Candidate
alias_bounds S s = bounds_of S.tables s

-- and the rest
abbrev pub rest : Setting → TraitId → Tree → List Candidate
rest S i s = map by_impl (impls_for S.tables i) ++ built_in ∷ object_bounds s ++ error ∷ []

-- the candidates of a class, for a trait and a self type
unfoldable pub class_of : Setting → TraitId → Tree → TraitGoalProvenVia → List Candidate
class_of S i s class.ParamEnv = environment S
class_of S i s class.AliasBound = alias_bounds S s
class_of S i s class.Misc = rest S i s

-- the candidates of all classes before one
unfoldable pub classes_before : Setting → TraitId → Tree → TraitGoalProvenVia → List Candidate
classes_before S i s class.ParamEnv = []
classes_before S i s class.AliasBound = environment S
classes_before S i s class.Misc = environment S ++ alias_bounds S s

-- all candidates
unfoldable pub all_candidates : Setting → TraitId → Tree → List Candidate
all_candidates S i s = environment S ++ alias_bounds S s ++ rest S i s

-- what is looked at after the environment for a projection or a const trait, by how the trait goal holds
unfoldable pub second_group : Setting → TraitId → Tree → TraitGoalProvenVia → List Candidate
second_group S i s class.ParamEnv = alias_bounds S s
second_group S i s class.AliasBound = alias_bounds S s
second_group S i s class.Misc = alias_bounds S s ++ rest S i s
