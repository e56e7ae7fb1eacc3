-- The faults of trait references, equations and clauses, in a row with parameters or in a goal.
use Rattle.std.specs.Prelude.{Bool, false, ◌||◌, not, List, length, map, is_none}
use Rattle.std.specs.List.{list_any}
use Rattle.goal_terms.specs.Tree.{node_of}
use Rattle.goal_terms.specs.TreeOf.{tree_of_arg, tree_of_term, tree_of_alias}
use Rattle.goal_terms.specs.declared.answers.ParamKind.{ParamKind}
use Rattle.goal_terms.specs.declared.ids.TraitId.{TraitId}
use Rattle.goal_terms.specs.declared.predicates.Clause.{Clause}
use Rattle.goal_terms.specs.declared.predicates.ClauseKind.{ClauseKind}
use Rattle.goal_terms.specs.declared.predicates.ClauseKind.TheVariants as clause
use Rattle.goal_terms.specs.declared.predicates.TraitRef.{TraitRef}
use Rattle.goal_terms.specs.declared.terms.AliasTerm.{AliasTerm}
use Rattle.goal_terms.specs.declared.terms.GenericArg.{GenericArg}
use Rattle.goal_terms.specs.declared.terms.Term.{Term}
use Rattle.goal_tables.specs.Options.{option_holds}
use Rattle.goal_tables.specs.ParamKinds.{differs_in_count, asks_other_kinds}
use Rattle.goal_terms.specs.Kinds.{same_kind, kind_of, kind_of_alias}
use Rattle.goal_tables.specs.Rows.{trait_of}
use Rattle.goal_tables.specs.Sites.{trait_params, lies_in}
use Rattle.goal_tables.specs.declared.rows.Tables.{Tables}
use Rattle.goal_tables.specs.declared.faults.TermFault as faults
use Rattle.goal_tables.specs.declared.faults.TermFault.TheVariants.{UnknownItem, WrongArgumentCount, WrongArgumentKind, ParameterOutOfRange, InferInTable, NeverConst}

-- the kinds of arguments
abbrev pub kinds_of : List GenericArg → List ParamKind
kinds_of args = map (λ a. kind_of (node_of (tree_of_arg a))) args

-- whether a trait has no row, or is given other arguments than its parameters
unfoldable pub own_fault : Tables → faults.TermFault → TraitId → List GenericArg → Bool
own_fault t UnknownItem i args = is_none (trait_of t i)
own_fault t WrongArgumentCount i args = differs_in_count (trait_params t i) (length args)
own_fault t WrongArgumentKind i args = asks_other_kinds (trait_params t i) (kinds_of args)
own_fault t ParameterOutOfRange i args = false
own_fault t InferInTable i args = false
own_fault t NeverConst i args = false

-- whether a fault lies in some argument
abbrev pub lies_in_args : Tables → List ParamKind → faults.TermFault → List GenericArg → Bool
lies_in_args t ps f args = list_any (λ a. lies_in t ps f (tree_of_arg a)) args

-- whether a fault lies in a trait with arguments
abbrev pub lies_in_trait_args : Tables → List ParamKind → faults.TermFault → TraitId → List GenericArg → Bool
lies_in_trait_args t ps f i args = own_fault t f i args || lies_in_args t ps f args

-- whether a fault lies in a trait reference
abbrev pub lies_in_trait_ref : Tables → List ParamKind → faults.TermFault → TraitRef → Bool
lies_in_trait_ref t ps f r = lies_in_trait_args t ps f r.def_id r.args.items

-- whether a trait doesn't allow const
abbrev pub denies_const : Tables → TraitId → Bool
denies_const t i = option_holds (λ r. not r.allows_const) (trait_of t i)

-- whether a trait doesn't allow const, where that is the fault that is looked for
unfoldable pub const_fault : Tables → faults.TermFault → TraitId → Bool
const_fault t NeverConst i = denies_const t i
const_fault t UnknownItem i = false
const_fault t WrongArgumentCount i = false
const_fault t WrongArgumentKind i = false
const_fault t ParameterOutOfRange i = false
const_fault t InferInTable i = false

-- whether a fault lies in a trait reference that is meant as a const bound
abbrev pub lies_in_const_ref : Tables → List ParamKind → faults.TermFault → TraitRef → Bool
lies_in_const_ref t ps f r = lies_in_trait_ref t ps f r || const_fault t f r.def_id

-- whether a fault lies in some of these const bounds
abbrev pub lies_in_const_refs : Tables → List ParamKind → faults.TermFault → List TraitRef → Bool
lies_in_const_refs t ps f rs = list_any (λ r. lies_in_const_ref t ps f r) rs

-- whether an alias and a term are of different kinds, where that is the fault that is looked for
unfoldable pub kinds_differ : faults.TermFault → AliasTerm → Term → Bool
kinds_differ WrongArgumentKind a e = not (same_kind (kind_of_alias a.kind) (kind_of (node_of (tree_of_term e))))
kinds_differ UnknownItem a e = false
kinds_differ WrongArgumentCount a e = false
kinds_differ ParameterOutOfRange a e = false
kinds_differ InferInTable a e = false
kinds_differ NeverConst a e = false

-- whether a fault lies in an alias, in a term that it is to equal, or between the two
abbrev pub lies_in_equation : Tables → List ParamKind → faults.TermFault → AliasTerm → Term → Bool
lies_in_equation t ps f a e =
    lies_in t ps f (tree_of_alias a) || lies_in t ps f (tree_of_term e) || kinds_differ f a e

-- whether a fault lies in a clause
unfoldable pub lies_in_clause_kind : Tables → List ParamKind → faults.TermFault → ClauseKind → Bool
lies_in_clause_kind t ps f (clause.Trait q) = lies_in_trait_ref t ps f q.trait_ref
lies_in_clause_kind t ps f (clause.Projection q) = lies_in_equation t ps f q.projection_term q.term
lies_in_clause_kind t ps f (clause.HostEffect q) = lies_in_const_ref t ps f q.trait_ref

-- whether a fault lies in some clause
abbrev pub lies_in_clauses : Tables → List ParamKind → faults.TermFault → List Clause → Bool
lies_in_clauses t ps f cs = list_any (λ c. lies_in_clause_kind t ps f c.kind) cs
