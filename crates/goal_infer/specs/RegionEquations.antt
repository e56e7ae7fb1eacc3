-- Which regions must be equal where two terms are identical but for regions.
use Rattle.std.specs.Prelude.{◌≡◌, ℕ, ◌+◌, ◌-◌, nat_lt, Bool, false, ◌==◌, ◌&&◌, List, [], ◌∷◌, ◌++◌, length, replicate, fold, find, Option, Some, None, option_map, unwrap_or, if◌then◌else◌}
use Rattle.std.proofs.Common.{refl}
use Rattle.std.specs.List.{list_any}
use Rattle.goal_terms.specs.Folding.{binds}
use Rattle.goal_terms.specs.Regions.{region_of}
use Rattle.goal_terms.specs.Tree.{Tree, Trees, node, alias, variable, none, more, node_of, parts_of}
use Rattle.goal_terms.specs.TreeOf.{leaf}
use Rattle.goal_terms.specs.declared.answers.VarKind.TheVariants as kind
use Rattle.goal_terms.specs.declared.heads.Head.TheVariants.{FnPtr, Ref, Tuple}
use Rattle.goal_terms.specs.declared.heads.Node.{Node}
use Rattle.goal_terms.specs.declared.heads.Node.TheVariants as nodes
use Rattle.goal_terms.specs.declared.scalars.Mutability.TheVariants as mutability
use Rattle.goal_terms.specs.declared.terms.Region.{Region}
use Rattle.goal_terms.specs.declared.terms.Region.TheVariants as regions
use Rattle.goal_infer.specs.Inference.{Inference}
use Rattle.goal_infer.specs.declared.region_equations.EnteredRegion.{EnteredRegion}
use Rattle.goal_infer.specs.declared.undo.InferVariable.{InferVariable}

-- how many binders were entered, and the lifetimes of theirs with a variable in each of the two terms
pub record Scopes : Type 0 where
  pub depth : ℕ
  pub left : List EnteredRegion
  pub right : List EnteredRegion

-- whether it is a lifetime with this binder and this number
abbrev pub is_entered : ℕ → ℕ → EnteredRegion → Bool
is_entered binder k e = (e.binder == binder) && (e.number == k)

-- the variable for a lifetime of a binder
unfoldable pub variable_in : List EnteredRegion → ℕ → ℕ → Option ℕ
variable_in es binder k = option_map (λ e. e.variable) (find (is_entered binder k) es)

-- a lifetime below some binders that were entered, or the variable for it if one of them binds it
unfoldable pub region_in : ℕ → List EnteredRegion → Region → Region
region_in depth es (regions.Bound b k) =
    if nat_lt b depth then unwrap_or (option_map regions.Var (variable_in es (depth - (b + 1)) k)) (regions.Bound b k) else regions.Bound b k
region_in depth es r = r

-- whether a node is a binder
abbrev pub is_binder : Node → Bool
is_binder (nodes.Head h) = binds h
is_binder (nodes.Alias k) = false
is_binder (nodes.Variable v) = false

-- how many binders stand above the parts of a node, from how many stand above it
abbrev pub levels_below : Node → ℕ → ℕ
levels_below m d = if is_binder m then d + 1 else d

-- the number of a lifetime of the binder `d` levels out
abbrev pub number_at : ℕ → Option Region → List ℕ
number_at d (Some (regions.Bound b k)) = if b == d then k ∷ [] else []
number_at d _ = []

-- the numbers of the lifetimes of the binder `d` levels out, from left to right
unfoldable mutual
  pub numbers_in : ℕ → Tree → List ℕ
  numbers_in d (node h ts) = number_at d (region_of (nodes.Head h)) ++ numbers_in_row (levels_below (nodes.Head h) d) ts
  numbers_in d (alias k ts) = numbers_in_row d ts
  numbers_in d (variable v) = []

  pub numbers_in_row : ℕ → Trees → List ℕ
  numbers_in_row d none = []
  numbers_in_row d (more t ts) = numbers_in d t ++ numbers_in_row d ts

-- some numbers and another, if it isn't among them
unfoldable pub with_number : List ℕ → ℕ → List ℕ
with_number ns n = if list_any (λ m. m == n) ns then ns else ns ++ n ∷ []

-- each number once, in the order of first entry
abbrev pub each_once : List ℕ → List ℕ
each_once ns = fold with_number [] ns

-- the numbers of the lifetimes that a term binds itself and that are met in it
unfoldable pub own_numbers : Tree → List ℕ
own_numbers (node h ts) = if binds h then each_once (numbers_in_row 0 ts) else []
own_numbers (alias k ts) = []
own_numbers (variable v) = []

-- how many variables two terms need for the lifetimes that they bind themselves
abbrev pub own_count : Tree → Tree → ℕ
own_count t u = length (own_numbers t) + length (own_numbers u)

-- lifetimes of a binder with variables from a number on
unfoldable pub numbered : ℕ → ℕ → List ℕ → List EnteredRegion
numbered binder n [] = []
numbered binder n (k ∷ ks) = record { binder = binder; number = k; variable = n } ∷ numbered binder (n + 1) ks

-- the scopes of the parts of two terms, with variables from a number on, first for the left and then for the right
unfoldable pub scopes_below : ℕ → Tree → Tree → Scopes → Scopes
scopes_below n t u s = record {
  depth = levels_below (node_of t) s.depth;
  left = s.left ++ numbered s.depth n (own_numbers t);
  right = s.right ++ numbered s.depth (n + length (own_numbers t)) (own_numbers u);
}

-- how many variables two terms need
unfoldable mutual
  pub variables_between : Tree → Tree → ℕ
  variables_between (node h ts) u = own_count (node h ts) u + variables_in_row ts (parts_of u)
  variables_between (alias k ts) u = variables_in_row ts (parts_of u)
  variables_between (variable v) u = 0

  pub variables_in_row : Trees → List Tree → ℕ
  variables_in_row none us = 0
  variables_in_row (more t ts) [] = 0
  variables_in_row (more t ts) (u ∷ us) = variables_between t u + variables_in_row ts us

-- the equation of the lifetimes that two nodes name themselves
abbrev pub own_equation : Scopes → Option Region → Option Region → List (Region × Region)
own_equation s (Some l) (Some r) = (region_in s.depth s.left l, region_in s.depth s.right r) ∷ []
own_equation s _ _ = []

-- the equations for two terms, with variables from a number on
unfoldable mutual
  pub equations_in : Scopes → ℕ → Tree → Tree → List (Region × Region)
  equations_in s n (node h ts) u =
      own_equation s (region_of (nodes.Head h)) (region_of (node_of u))
      ++ equations_in_row (scopes_below n (node h ts) u s) (n + own_count (node h ts) u) ts (parts_of u)
  equations_in s n (alias k ts) u = equations_in_row s n ts (parts_of u)
  equations_in s n (variable v) u = []

  pub equations_in_row : Scopes → ℕ → Trees → List Tree → List (Region × Region)
  equations_in_row s n none us = []
  equations_in_row s n (more t ts) [] = []
  equations_in_row s n (more t ts) (u ∷ us) = equations_in s n t u ++ equations_in_row s (n + variables_between t u) ts us

-- no binder was entered
abbrev pub no_scopes : Scopes
no_scopes = record { depth = 0; left = []; right = [] }

-- the equations for two whole terms, with variables from a number on
abbrev pub equations_between : ℕ → Tree → Tree → List (Region × Region)
equations_between n t u = equations_in no_scopes n t u

-- an unbound region variable
abbrev pub region_variable : InferVariable
region_variable = record { kind = kind.Region; binding = None }

-- a state with so many more unbound region variables, and more equations
abbrev pub with_regions : ℕ → List (Region × Region) → Inference → Inference
with_regions count es s = record s { variables = s.variables ++ replicate count region_variable; equations = s.equations ++ es }

-- a state with the variables and the equations for two terms below binders that were entered
abbrev pub equated_in : Scopes → Tree → Tree → Inference → Inference
equated_in scopes t u s = with_regions (variables_between t u) (equations_in scopes (length s.variables) t u) s

-- a state with the variables and the equations for two whole terms
abbrev pub equated : Tree → Tree → Inference → Inference
equated t u s = with_regions (variables_between t u) (equations_between (length s.variables) t u) s

-- nothing but unbound region variables and equations came to a state
pub record AddsRegions (before after : Inference) : Type 0 where
  pub count : ℕ
  pub added : List (Region × Region)
  pub is : after ≡ with_regions count added before

-- for the examples: `for<..> fn(t, u)`, and `&'r ()`
abbrev pointer_with : Tree → Tree → Tree
pointer_with t u = node (FnPtr 1 2 false) (more t (more u (more (leaf (Tuple 0)) none)))

abbrev reference : Region → Tree
reference r = node (Ref r mutability.Not) (more (leaf (Tuple 0)) none)

-- `for<'a> fn(&'a (), &'b ())` and `for<'a> fn(&'a (), &'a ())`
equations-pointers : equations_between 5
    (pointer_with (reference (regions.Bound 0 0)) (reference (regions.Param 0)))
    (pointer_with (reference (regions.Bound 0 0)) (reference (regions.Bound 0 0)))
    ≡ (regions.Var 5, regions.Var 6) ∷ (regions.Param 0, regions.Var 6) ∷ []
unfolding variable_in region_in numbers_in with_number own_numbers numbered scopes_below variables_between equations_in region_of
equations-pointers = refl

-- `for<'a> fn(&'a (), for<'c> fn(&'c (), &'a ()))` and `for<'a> fn(&'s (), for<'c> fn(&'a (), &'c ()))`, where `'s` is bound outside of the term
equations-nested : equations_between 0
    (pointer_with (reference (regions.Bound 0 0)) (pointer_with (reference (regions.Bound 0 0)) (reference (regions.Bound 1 0))))
    (pointer_with (reference (regions.Bound 1 0)) (pointer_with (reference (regions.Bound 1 0)) (reference (regions.Bound 0 0))))
    ≡ (regions.Var 0, regions.Bound 1 0) ∷ (regions.Var 2, regions.Var 1) ∷ (regions.Var 0, regions.Var 3) ∷ []
unfolding variable_in region_in numbers_in with_number own_numbers numbered scopes_below variables_between equations_in region_of
equations-nested = refl
