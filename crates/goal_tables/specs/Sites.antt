-- What a row says of the parts of a term.
use Rattle.std.specs.Prelude.{Bool, true, false, ◌||◌, not, List, [], ◌∷◌, ◌++◌, length, map, drop, Option, Some, None, is_none, if◌then◌else◌}
use Rattle.std.specs.Option.{option_map, option_and_then}
use Rattle.goal_terms.specs.Tree.{Tree, Trees, node, alias, variable, none, more, node_of, parts_of}
use Rattle.goal_terms.specs.Kinds.{same_kind, kind_of_alias, kind_of}
use Rattle.goal_terms.specs.Regions.{region_of}
use Rattle.goal_terms.specs.declared.answers.ParamKind.{ParamKind}
use Rattle.goal_terms.specs.declared.answers.ParamKind.TheVariants as kind
use Rattle.goal_terms.specs.declared.heads.Head.TheVariants.{Adt, FnDef, Closure, TyParam, TyPlaceholder, ConstParam, ConstPlaceholder, DynTrait, DynProjection, Misplaced}
use Rattle.goal_terms.specs.declared.heads.Node.{Node}
use Rattle.goal_terms.specs.declared.heads.Node.TheVariants as nodes
use Rattle.goal_terms.specs.declared.ids.ItemId.{ItemId}
use Rattle.goal_terms.specs.declared.ids.TraitId.{TraitId}
use Rattle.goal_terms.specs.declared.ids.AdtId.{AdtId}
use Rattle.goal_terms.specs.declared.ids.FnId.{FnId}
use Rattle.goal_terms.specs.declared.ids.ClosureId.{ClosureId}
use Rattle.goal_terms.specs.declared.ids.FreeId.{FreeId}
use Rattle.goal_terms.specs.declared.ids.InherentId.{InherentId}
use Rattle.goal_terms.specs.declared.ids.OpaqueId.{OpaqueId}
use Rattle.goal_terms.specs.declared.terms.AliasTermKind.{AliasTermKind}
use Rattle.goal_terms.specs.declared.terms.AliasTermKind.TheVariants.{ProjectionTy, ProjectionConst, InherentTy, InherentConst, OpaqueTy, FreeTy, FreeConst, UnevaluatedConst}
use Rattle.goal_terms.specs.declared.terms.Region.{Region}
use Rattle.goal_terms.specs.declared.terms.Region.TheVariants as regions
use Rattle.goal_tables.specs.ParamKinds.{differs_in_count, asks_other_kinds, has_param}
use Rattle.goal_tables.specs.Rows.{trait_of, item_of, adt_of, function_of, closure_of, free_of, inherent_of, opaque_of}
use Rattle.goal_tables.specs.declared.rows.Tables.{Tables}
use Rattle.goal_tables.specs.declared.faults.TermFault as faults
use Rattle.goal_tables.specs.declared.faults.TermFault.TheVariants.{UnknownItem, WrongArgumentCount, WrongArgumentKind, ParameterOutOfRange, InferInTable, NeverConst}

-- the kind of a type or of a constant
abbrev pub kind_of_value : Bool → ParamKind
kind_of_value is_const = if is_const then kind.Const else kind.Ty

-- the parameters of a trait
abbrev pub trait_params : Tables → TraitId → Option (List ParamKind)
trait_params t i = option_map (λ r. r.params.items) (trait_of t i)

-- the parameters of a projection of an item: its trait's, then its own
abbrev pub projection_params : Tables → ItemId → Option (List ParamKind)
projection_params t i =
    option_and_then (λ r. option_map (λ q. q.params.items ++ r.own_params.items) (trait_of t r.trait_id)) (item_of t i)

-- the parameters of an ADT
abbrev pub adt_params : Tables → AdtId → Option (List ParamKind)
adt_params t i = option_map (λ r. r.params.items) (adt_of t i)

-- the parameters of a clause that names a trait, which leaves the self type out
abbrev pub trait_clause_params : Tables → TraitId → Option (List ParamKind)
trait_clause_params t i = option_map (λ r. drop 1 r.params.items) (trait_of t i)

-- the parameters of a clause that names an item, which leaves the self type out, and then the item's kind
abbrev pub clause_params : Tables → ItemId → Option (List ParamKind)
clause_params t i =
    option_and_then (λ r. option_map (λ ps. drop 1 ps ++ kind_of_value r.is_const ∷ []) (projection_params t i)) (item_of t i)

-- the parameters of a function item
abbrev pub function_params : Tables → FnId → Option (List ParamKind)
function_params t i = option_map (λ r. r.params.items) (function_of t i)

-- the parameters of a closure
abbrev pub closure_params : Tables → ClosureId → Option (List ParamKind)
closure_params t i = option_map (λ r. r.params.items) (closure_of t i)

-- the parameters of a free alias
abbrev pub free_params : Tables → FreeId → Option (List ParamKind)
free_params t i = option_map (λ r. r.params.items) (free_of t i)

-- the parameters of an opaque type
abbrev pub opaque_params : Tables → OpaqueId → Option (List ParamKind)
opaque_params t i = option_map (λ r. r.params.items) (opaque_of t i)

-- the parameters of an alias of an inherent item: the self type, then its own
abbrev pub inherent_params : Tables → InherentId → Option (List ParamKind)
inherent_params t i = option_map (λ r. kind.Ty ∷ r.own_params.items) (inherent_of t i)

-- what the arguments of an alias stand for; those of an unevaluated constant are free
unfoldable pub params_of_alias : Tables → AliasTermKind → Option (List ParamKind)
params_of_alias t (ProjectionTy i) = projection_params t i
params_of_alias t (ProjectionConst i) = projection_params t i
params_of_alias t (InherentTy i) = inherent_params t i
params_of_alias t (InherentConst i) = inherent_params t i
params_of_alias t (OpaqueTy i) = opaque_params t i
params_of_alias t (FreeTy i) = free_params t i
params_of_alias t (FreeConst i) = free_params t i
params_of_alias t (UnevaluatedConst n) = None

-- what the parts below a node stand for, where a row says it
unfoldable pub params_of : Tables → Node → Option (List ParamKind)
params_of t (nodes.Head (Adt i n)) = adt_params t i
params_of t (nodes.Head (FnDef i n)) = function_params t i
params_of t (nodes.Head (Closure i n)) = closure_params t i
params_of t (nodes.Head (DynTrait i n)) = trait_clause_params t i
params_of t (nodes.Head (DynProjection i n)) = clause_params t i
params_of t (nodes.Head (Misplaced k)) = params_of_alias t k
params_of t (nodes.Alias k) = params_of_alias t k
params_of t _ = None

-- whether an alias names what no row has; unevaluated constants never have a row
unfoldable pub alias_is_unknown : Tables → AliasTermKind → Bool
alias_is_unknown t (ProjectionTy i) = is_none (item_of t i)
alias_is_unknown t (ProjectionConst i) = is_none (item_of t i)
alias_is_unknown t (InherentTy i) = is_none (inherent_of t i)
alias_is_unknown t (InherentConst i) = is_none (inherent_of t i)
alias_is_unknown t (OpaqueTy i) = is_none (opaque_of t i)
alias_is_unknown t (FreeTy i) = is_none (free_of t i)
alias_is_unknown t (FreeConst i) = is_none (free_of t i)
alias_is_unknown t (UnevaluatedConst n) = false

-- whether a node names what no row has; foreign types never have a row
unfoldable pub is_unknown : Tables → Node → Bool
is_unknown t (nodes.Head (Adt i n)) = is_none (adt_of t i)
is_unknown t (nodes.Head (FnDef i n)) = is_none (function_of t i)
is_unknown t (nodes.Head (Closure i n)) = is_none (closure_of t i)
is_unknown t (nodes.Head (DynTrait i n)) = is_none (trait_of t i)
is_unknown t (nodes.Head (DynProjection i n)) = is_none (item_of t i)
is_unknown t (nodes.Head (Misplaced k)) = alias_is_unknown t k
is_unknown t (nodes.Alias k) = alias_is_unknown t k
is_unknown t _ = false

-- whether a row that may be there is of another kind
abbrev pub is_of_other_kind : Option ParamKind → ParamKind → Bool
is_of_other_kind None k = false
is_of_other_kind (Some x) k = not (same_kind x k)

-- the kind that the row of an alias says
unfoldable pub kind_of_row : Tables → AliasTermKind → Option ParamKind
kind_of_row t (ProjectionTy i) = option_map (λ r. kind_of_value r.is_const) (item_of t i)
kind_of_row t (ProjectionConst i) = option_map (λ r. kind_of_value r.is_const) (item_of t i)
kind_of_row t (InherentTy i) = option_map (λ r. kind_of_value r.is_const) (inherent_of t i)
kind_of_row t (InherentConst i) = option_map (λ r. kind_of_value r.is_const) (inherent_of t i)
kind_of_row t (FreeTy i) = option_map (λ r. kind_of_value r.is_const) (free_of t i)
kind_of_row t (FreeConst i) = option_map (λ r. kind_of_value r.is_const) (free_of t i)
kind_of_row t (OpaqueTy i) = None
kind_of_row t (UnevaluatedConst n) = None

-- whether an alias stands at a wrong place, or is of another kind than its row
unfoldable pub is_misplaced : Tables → Node → Bool
is_misplaced t (nodes.Head (Misplaced k)) = true
is_misplaced t (nodes.Alias k) = is_of_other_kind (kind_of_row t k) (kind_of_alias k)
is_misplaced t _ = false

-- whether a lifetime is a parameter that a row doesn't have
unfoldable pub region_is_out_of_range : List ParamKind → Option Region → Bool
region_is_out_of_range params (Some (regions.Param n)) = not (has_param params n kind.Lifetime)
region_is_out_of_range params _ = false

-- whether a node is a parameter that a row doesn't have
unfoldable pub is_out_of_range : List ParamKind → Node → Bool
is_out_of_range params (nodes.Head (TyParam n)) = not (has_param params n kind.Ty)
is_out_of_range params (nodes.Head (ConstParam n)) = not (has_param params n kind.Const)
is_out_of_range params n = region_is_out_of_range params (region_of n)

-- whether a lifetime is a variable or a placeholder
unfoldable pub region_is_inferred : Option Region → Bool
region_is_inferred (Some (regions.Var n)) = true
region_is_inferred (Some (regions.Placeholder n)) = true
region_is_inferred _ = false

-- whether a node is an inference variable or a placeholder, or names one as its lifetime
unfoldable pub is_inferred : Node → Bool
is_inferred (nodes.Variable v) = true
is_inferred (nodes.Head (TyPlaceholder n)) = true
is_inferred (nodes.Head (ConstPlaceholder n)) = true
is_inferred n = region_is_inferred (region_of n)

-- whether a fault lies at the top of a term, in a row with these parameters
unfoldable pub lies_here : Tables → List ParamKind → faults.TermFault → Tree → Bool
lies_here t params UnknownItem u = is_unknown t (node_of u)
lies_here t params WrongArgumentCount u = differs_in_count (params_of t (node_of u)) (length (parts_of u))
lies_here t params WrongArgumentKind u =
    asks_other_kinds (params_of t (node_of u)) (map (λ x. kind_of (node_of x)) (parts_of u)) || is_misplaced t (node_of u)
lies_here t params ParameterOutOfRange u = is_out_of_range params (node_of u)
lies_here t params InferInTable u = is_inferred (node_of u)
lies_here t params NeverConst u = false

-- whether a fault lies anywhere in a term
unfoldable mutual
  pub lies_in : Tables → List ParamKind → faults.TermFault → Tree → Bool
  lies_in t params f (node h ts) = lies_here t params f (node h ts) || lies_in_row t params f ts
  lies_in t params f (alias k ts) = lies_here t params f (alias k ts) || lies_in_row t params f ts
  lies_in t params f (variable v) = lies_here t params f (variable v)

  pub lies_in_row : Tables → List ParamKind → faults.TermFault → Trees → Bool
  lies_in_row t params f none = false
  lies_in_row t params f (more u us) = lies_in t params f u || lies_in_row t params f us
