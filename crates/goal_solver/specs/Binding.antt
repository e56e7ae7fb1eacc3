-- What binding a variable to a term does to a context, and when a response can be applied.
use Rattle.std.specs.Prelude.{◌≡◌, ◌↔◌, ℕ, true, false, IsTrue, List, [], ◌∷◌, ◌++◌, length, map, None}
use Rattle.std.specs.List.{AllZip}
use Rattle.goal_terms.specs.Erased.{erased}
use Rattle.goal_terms.specs.Tree.{Tree, variable, node_of}
use Rattle.goal_terms.specs.PredicateTrees.{tree_of_kind}
use Rattle.goal_terms.specs.TreeOf.{tree_of_alias, tree_of_term, tree_of_ty}
use Rattle.goal_terms.specs.declared.answers.GoalSource.{GoalSource}
use Rattle.goal_terms.specs.declared.answers.OpaqueTypeKey.{OpaqueTypeKey}
use Rattle.goal_terms.specs.declared.answers.Response.{Response}
use Rattle.goal_terms.specs.declared.heads.Variable.{Variable}
use Rattle.goal_terms.specs.declared.predicates.Clause.{Clause}
use Rattle.goal_terms.specs.declared.predicates.Goal.{Goal}
use Rattle.goal_terms.specs.declared.predicates.NormalizesTo.{NormalizesTo}
use Rattle.goal_terms.specs.declared.predicates.Predicate.{Predicate}
use Rattle.goal_terms.specs.declared.predicates.Predicate.TheVariants as predicate
use Rattle.goal_terms.specs.declared.terms.Region.{Region}
use Rattle.goal_terms.specs.declared.terms.Term.{Term}
use Rattle.goal_terms.specs.declared.terms.Ty.{Ty}
use Rattle.goal_infer.specs.Occurrence.{place_of}
use Rattle.goal_infer.specs.Replacement.{number_of, replaced, takes}
use Rattle.goal_infer.specs.Resolution.{resolution, binding_of, IsSolved}
use Rattle.goal_infer.specs.Unification.{is_made_in}
use Rattle.goal_infer.specs.declared.occurs.Occurrence.TheVariants.{Nowhere}
use Rattle.goal_eval.specs.Pending.{is_alias}
use Rattle.goal_solver.specs.Added.{with_goals}
use Rattle.goal_solver.specs.Relating.{AgreesWith, ChangesInference}
use Rattle.goal_solver.specs.State.{State, kinds_of}
use Rattle.goal_solver.specs.Stored.{HasOneTypeAKey, IsSameKey}
use Rattle.goal_solver.specs.Variables.{with_variables}

-- a term with the bindings of a context followed, lifetimes aside
abbrev pub bound_term : State → Tree → Tree
bound_term s t = replaced (resolution s.terms s.inference) (erased t)

-- a tree is the alias that a term stands for: the two are the same with bindings followed, lifetimes aside
abbrev pub StandsForAlias : State → Tree → Tree → Type 0
StandsForAlias s t a = (is_alias (node_of a) ≡ true) × (bound_term s a ≡ bound_term s t)

-- a term stands for no alias
abbrev pub StandsForNoAlias : State → Tree → Type 0
StandsForNoAlias s t = is_alias (node_of (bound_term s t)) ≡ false

-- a variable is unbound, may stand for a term, and does not stand in it, bindings followed
pub record IsFreeFor (s : State) (t : Tree) (v : Variable) : Type 0 where
  pub made : IsTrue (is_made_in s.inference v)
  pub unbound : binding_of s.inference v ≡ None
  pub takes : IsTrue (takes v (node_of (bound_term s t)))
  pub absent : place_of v (bound_term s t) ≡ Nowhere

-- one variable is bound to a term, last of all: what agrees afterwards is what agreed before and puts the term for the variable, and the bindings have a resolution
pub record BindsTo (old new : State) (t : Tree) (v : Variable) : Type 0 where
  pub says : (ρ : Variable → Tree) → AgreesWith new ρ ↔ (AgreesWith old ρ × (ρ v ≡ replaced ρ (erased t)))
  pub trail : new.inference.trail ≡ old.inference.trail ++ number_of v ∷ []
  pub kinds : kinds_of new ≡ kinds_of old
  pub equations : new.inference.equations ≡ old.inference.equations
  pub solved : IsSolved new.terms new.inference
  pub alone : ChangesInference old new

-- a term is an inference variable for which a claim holds
abbrev pub OfVariable : Term → (Variable → Type 0) → Type 0
OfVariable e P = (v : Variable) × (tree_of_term e ≡ variable v) × P v

-- the goal is added that an alias normalizes to a term, and nothing else changes
pub record AddsNormalization (old new : State) (alias : Tree) (expected : Tree) (env : List Clause) : Type 0 where
  pub added : GoalSource × Goal Predicate
  pub normalizes : NormalizesTo
  pub is : new ≡ with_goals (added ∷ []) old
  pub asks : added.1.predicate ≡ predicate.NormalizesTo normalizes
  pub environment : map (λ (c : Clause). c.bound_regions) added.1.param_env.items ≡ map (λ (c : Clause). c.bound_regions) env
  pub clauses : map (λ (c : Clause). tree_of_kind c.kind) added.1.param_env.items ≡ map (λ (c : Clause). tree_of_kind c.kind) env
  pub same_alias : tree_of_alias normalizes.alias ≡ alias
  pub same_term : tree_of_term normalizes.term ≡ expected

-- each listed value can be given to its variable, one after the other
unfoldable pub CanBeListed : State → List (ℕ × Term) → Type 0
CanBeListed s [] = Unit {0}
CanBeListed s (p ∷ ps) = (v : Variable) × (number_of v ≡ p.0) × IsFreeFor s (tree_of_term p.1) v × ((z : State) → BindsTo s z (tree_of_term p.1) v → CanBeListed z ps)

-- the variables of a list get their values, one after the other
unfoldable pub GetValues : State → State → List (ℕ × Term) → Type 0
GetValues old new [] = ChangesInference old new × (new.inference ≡ old.inference)
GetValues old new (p ∷ ps) = (v : Variable) × (z : State) × (number_of v ≡ p.0) × BindsTo old z (tree_of_term p.1) v × GetValues z new ps

-- two entries have identical keys and hidden types
abbrev pub IsSameEntry : (OpaqueTypeKey × Ty) → (OpaqueTypeKey × Ty) → Type 0
IsSameEntry e f = IsSameKey e.0 f.0 × (tree_of_ty e.1 ≡ tree_of_ty f.1)

-- a response can be applied: it speaks of the variables that there are, its values can be given to their variables, and each key has one type then
pub record IsApplicable (s : State) (r : Response) : Type 0 where
  pub base : r.base ≡ length (kinds_of s)
  pub values : CanBeListed (with_variables r.vars.items s) r.var_values.items
  pub entries : HasOneTypeAKey (s.storage ++ r.opaque_entries.items)

-- a context with equations added after the others, and nothing else changed
abbrev pub with_equations : List (Region × Region) → State → State
with_equations es s = record s { inference = record s.inference { equations = s.inference.equations ++ es } }

-- a context with hidden types entered after the others, and nothing else changed
abbrev pub with_entries : List (OpaqueTypeKey × Ty) → State → State
with_entries es s = record s { storage = s.storage ++ es }

-- copies of hidden types are entered, in order, and nothing else changes
pub record EntersAll (old new : State) (listed : List (OpaqueTypeKey × Ty)) : Type 0 where
  pub entered : List (OpaqueTypeKey × Ty)
  pub entries : AllZip IsSameEntry entered listed
  pub is : new ≡ with_entries entered old

-- a response is applied but for its entries: its variables are made, then its values given, and its equations added
pub record AppliesAside (old new : State) (r : Response) : Type 0 where
  pub valued : State
  pub values : GetValues (with_variables r.vars.items old) valued r.var_values.items
  pub equated : new ≡ with_equations r.region_equations.items valued

-- a response is applied: its variables are made, then its values given, its equations added, and its entries entered
pub record Applies (old new : State) (r : Response) : Type 0 where
  pub valued : State
  pub values : GetValues (with_variables r.vars.items old) valued r.var_values.items
  pub entered : EntersAll (with_equations r.region_equations.items valued) new r.opaque_entries.items

-- the expected term of a goal is given a term as it stands
abbrev pub BindsExpected : State → State → Goal NormalizesTo → Tree → Type 0
BindsExpected old new g t = OfVariable g.predicate.term (BindsTo old new t)

-- a goal is added: an alias normalizes to the expected term of a goal
abbrev pub AddsExpected : State → State → Goal NormalizesTo → Tree → Type 0
AddsExpected old new g t = AddsNormalization old new t (tree_of_term g.predicate.term) g.param_env.items
