-- Parameters that the terms of a header fix.
use Rattle.std.specs.Prelude.{◌≡◌, ℕ, suc, Bool, false, ◌==◌, ◌&&◌, ◌||◌, not, List, [], ◌∷◌, slice_get, slice_index_or, Option, Some, None}
use Rattle.std.specs.List.{list_any}
use Rattle.goal_terms.specs.Tree.{Tree, Trees, node, alias, variable, none, more, node_of, parts_of}
use Rattle.goal_terms.specs.TreeOf.{tree_of_ty, trees_of}
use Rattle.goal_terms.specs.declared.answers.ParamKind.{ParamKind}
use Rattle.goal_terms.specs.declared.answers.ParamKind.TheVariants as kind
use Rattle.goal_terms.specs.declared.heads.Head.TheVariants.{TyParam, ConstParam}
use Rattle.goal_terms.specs.declared.heads.Node.{Node}
use Rattle.goal_terms.specs.declared.heads.Node.TheVariants as nodes
use Rattle.goal_tables.specs.Options.{option_holds}
use Rattle.goal_terms.specs.Kinds.{same_kind}
use Rattle.goal_tables.specs.declared.rows.ImplRow.{ImplRow}
use Rattle.goal_tables.specs.declared.rows.InherentImplRow.{InherentImplRow}

-- the number and the kind of a parameter
unfoldable pub param_at : Node → Option (ℕ × ParamKind)
param_at (nodes.Head (TyParam n)) = Some (n, kind.Ty)
param_at (nodes.Head (ConstParam n)) = Some (n, kind.Const)
param_at _ = None

-- whether this is the parameter of a number, of a kind
abbrev pub is_param : ParamKind → ℕ → Option (ℕ × ParamKind) → Bool
is_param k n found = option_holds (λ p. (p.0 == n) && same_kind k p.1) found

-- whether a parameter stands in a term outside aliases
unfoldable mutual
  pub stands_in : ParamKind → ℕ → Tree → Bool
  stands_in k n (node h ts) = is_param k n (param_at (nodes.Head h)) || stands_in_row k n ts
  stands_in k n (alias a ts) = false
  stands_in k n (variable v) = false

  pub stands_in_row : ParamKind → ℕ → Trees → Bool
  stands_in_row k n none = false
  stands_in_row k n (more t ts) = stands_in k n t || stands_in_row k n ts

-- whether some parameter from a number on passes a test
abbrev pub some_param : (ParamKind → ℕ → Bool) → List ParamKind → ℕ → Bool
some_param test [] n = false
some_param test (k ∷ ks) n = test k n || some_param test ks (suc n)

-- whether a parameter has to stand in a header
abbrev pub needs_fixing : ParamKind → Bool
needs_fixing k = not (same_kind k kind.Lifetime)

-- a type or const parameter stands in none of these terms outside aliases
abbrev pub is_unfixed : List Tree → ParamKind → ℕ → Bool
is_unfixed terms k n = needs_fixing k && not (list_any (stands_in k n) terms)

-- one of the parameters is such
unfoldable pub has_unfixed : List ParamKind → List Tree → Bool
has_unfixed params terms = some_param (is_unfixed terms) params 0

-- a type or const parameter of an impl doesn't stand in its header outside aliases
abbrev pub impl_has_unfixed : ImplRow → Bool
impl_has_unfixed r = has_unfixed r.params.items (trees_of r.trait_args.items)

-- a type or const parameter of an inherent impl doesn't stand in its self type outside aliases
abbrev pub inherent_has_unfixed : InherentImplRow → Bool
inherent_has_unfixed r = has_unfixed r.params.items (tree_of_ty r.self_ty ∷ [])

-- the arguments of an alias are left out
abbrev pub parts_below : Node → List Tree → List Tree
parts_below (nodes.Head h) ts = ts
parts_below (nodes.Alias k) ts = []
parts_below (nodes.Variable v) ts = ts

-- the parts of a term in which parameters are sought
abbrev pub open_parts : Tree → List Tree
open_parts t = parts_below (node_of t) (parts_of t)

-- whether a place is marked
abbrev pub is_marked : List Bool → ℕ → Bool
is_marked marks n = slice_index_or marks n false

-- beside those marked before, the parameters are marked that pass a test
unfoldable pub AddsMarks : List ParamKind → (ParamKind → ℕ → Bool) → List Bool → List Bool → Type 0
AddsMarks params test before after =
    (n : ℕ) (k : ParamKind) → slice_get params n ≡ Some k → is_marked after n ≡ is_marked before n || test k n

-- a parameter that has to be marked isn't
abbrev pub is_unmarked : List Bool → ParamKind → ℕ → Bool
is_unmarked marks k n = needs_fixing k && not (is_marked marks n)
