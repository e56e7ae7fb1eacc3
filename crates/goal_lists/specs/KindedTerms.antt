-- Terms in which each constructor has parts of the kinds that it takes.
use Rattle.std.specs.Prelude.{◌≡◌, ◌+◌, false, List, [], ◌∷◌, map, replicate, unwrap_or}
use Rattle.std.specs.List.{All}
use Rattle.goal_terms.specs.Erased.{erased_head}
use Rattle.goal_terms.specs.Kinds.{kind_of}
use Rattle.goal_terms.specs.Sorts.{IsArgument, HeadFits}
use Rattle.goal_terms.specs.Tree.{Tree, Trees, node, alias, variable, none, more, list_of, node_of}
use Rattle.goal_terms.specs.declared.answers.ParamKind.{ParamKind}
use Rattle.goal_terms.specs.declared.answers.ParamKind.TheVariants as kind
use Rattle.goal_terms.specs.declared.heads.Head.{Head}
use Rattle.goal_terms.specs.declared.heads.Head.TheVariants.{Array, Slice, RawPtr, Ref, FnPtr, Dynamic, Tuple}
use Rattle.goal_terms.specs.declared.heads.Node.TheVariants as nodes
use Rattle.goal_terms.specs.declared.ids.TraitId.{TraitId}
use Rattle.goal_terms.specs.declared.predicates.Clause.{Clause}
use Rattle.goal_terms.specs.declared.terms.GenericArg.{GenericArg}
use Rattle.goal_tables.specs.Clauses.{lies_in_trait_args}
use Rattle.goal_tables.specs.Predicates.{lies_in_env}
use Rattle.goal_tables.specs.Sites.{params_of, lies_in}
use Rattle.goal_tables.specs.declared.rows.Tables.{Tables}
use Rattle.goal_tables.specs.declared.faults.TermFault.TheVariants.{UnknownItem, WrongArgumentCount, WrongArgumentKind}

-- the kinds of terms
abbrev pub kinds_of_terms : List Tree → List ParamKind
kinds_of_terms ts = map (λ t. kind_of (node_of t)) ts

-- outside aliases the parts of each constructor are of the kinds that are said of it, lifetimes aside
unfoldable mutual
  pub IsKinded : (Head → List ParamKind) → Tree → Type 0
  IsKinded kinds (node h ts) = (kinds_of_terms (list_of ts) ≡ kinds (erased_head h)) × RowIsKinded kinds ts
  IsKinded kinds (alias k ts) = Unit {0}
  IsKinded kinds (variable v) = Unit {0}

  pub RowIsKinded : (Head → List ParamKind) → Trees → Type 0
  RowIsKinded kinds none = Unit {0}
  RowIsKinded kinds (more t ts) = IsKinded kinds t × RowIsKinded kinds ts

-- the kinds of the parts that a constructor takes: those that its row asks for, or its own
unfoldable pub kinds_over : Tables → Head → List ParamKind
kinds_over t Array = kind.Ty ∷ kind.Const ∷ []
kinds_over t Slice = kind.Ty ∷ []
kinds_over t (RawPtr m) = kind.Ty ∷ []
kinds_over t (Ref r m) = kind.Ty ∷ []
kinds_over t (FnPtr bound inputs fn_traits) = replicate (inputs + 1) kind.Ty
kinds_over t (Dynamic count r) = replicate count kind.Ty
kinds_over t (Tuple count) = replicate count kind.Ty
kinds_over t h = unwrap_or (params_of t (nodes.Head h)) []

-- the parts of each constructor fit it, as those of a public term do
unfoldable mutual
  pub FitsThroughout : Tree → Type 0
  FitsThroughout (node h ts) = HeadFits h (list_of ts) × RowFitsThroughout ts
  FitsThroughout (alias k ts) = All IsArgument (list_of ts) × RowFitsThroughout ts
  FitsThroughout (variable v) = Unit {0}

  pub RowFitsThroughout : Trees → Type 0
  RowFitsThroughout none = Unit {0}
  RowFitsThroughout (more t ts) = FitsThroughout t × RowFitsThroughout ts

-- no fault of an unknown item, a number of arguments or a kind lies in a term
abbrev pub NoKindFault : Tables → List ParamKind → Tree → Type 0
NoKindFault t params u =
    (lies_in t params UnknownItem u ≡ false)
    × (lies_in t params WrongArgumentCount u ≡ false)
    × (lies_in t params WrongArgumentKind u ≡ false)

-- nor in a trait with arguments
abbrev pub IsAcceptedRef : Tables → List ParamKind → TraitId → List GenericArg → Type 0
IsAcceptedRef t params i args =
    (lies_in_trait_args t params UnknownItem i args ≡ false)
    × (lies_in_trait_args t params WrongArgumentCount i args ≡ false)
    × (lies_in_trait_args t params WrongArgumentKind i args ≡ false)

-- nor in an environment
abbrev pub NoKindFaultInEnv : Tables → List Clause → Type 0
NoKindFaultInEnv t env =
    (lies_in_env t UnknownItem env ≡ false)
    × (lies_in_env t WrongArgumentCount env ≡ false)
    × (lies_in_env t WrongArgumentKind env ≡ false)
