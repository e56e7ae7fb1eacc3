-- The lists of some impls and of an opaque type of the worked examples, and some rules with theirs.
use Rattle.std.specs.Prelude.{List, [], ◌∷◌}
use Rattle.goal_terms.specs.Tree.{Tree}
use Rattle.goal_terms.specs.declared.answers.DelayedFault.TheVariants.{MissingItem}
use Rattle.goal_terms.specs.declared.answers.OpaqueAccess.TheVariants.{IfPostAnalysis}
use Rattle.goal_terms.specs.declared.answers.ParamKind.TheVariants as kind
use Rattle.goal_terms.specs.declared.predicates.BoundConstness.{BoundConstness}
use Rattle.goal_terms.specs.declared.terms.GenericArg as arg
use Rattle.goal_terms.specs.declared.terms.Term as term
use Rattle.goal_terms.specs.declared.terms.Ty as ty
use Rattle.goal_lists.specs.Entries.{Entry, arguments, given_arguments, of_header, of_other_header, followed_by, row_clauses, row_conditions, expected, as_it_stands, value_under, access, delayed_fault, evaluation, undecided, refused}
use Rattle.goal_kinds.specs.ExampleRows.{assoc_item, plain_item}
use Rattle.goal_kinds.specs.ExampleSettings.{asked_args, q_ty}
use Rattle.goal_kinds.specs.ExampleTerms.{alias_of, error_ty, has_trait, i32_ty, impl, item, opaque, param, plain_struct, trait, tuple, u32_ty, u64_ty, vec, vec_of, w_ty}
use Rattle.goal_lists.specs.ImplTerms.{Projection}
use Rattle.goal_lists.specs.declared.lists.RowClauses.TheVariants as clauses
use Rattle.goal_lists.specs.declared.lists.RowValue.TheVariants as of_row
use Rattle.goal_kinds.specs.declared.rules.RuleArguments.TheVariants as named
use Rattle.goal_kinds.specs.declared.rules.RuleEntry.{RuleEntry}
use Rattle.goal_kinds.specs.declared.rules.RuleEntry.TheVariants as entry
use Rattle.goal_lists.specs.declared.lists.RuleHeader.TheVariants as header
use Rattle.goal_kinds.specs.declared.rules.RuleTerm.TheVariants as rule_term

-- `<W as Tr>::A`
abbrev pub type_of_w : Projection
type_of_w = record { item = plain_item 5 12; trait_params = 1; args = w_ty ∷ [] }

-- what `impl Tr for W` asks for there, with these terms for its header, for the goal's arguments and for the error: the value is missing, and its fault is delayed
abbrev pub list_for_w : List Tree → List Tree → Tree → List Entry
list_for_w header args error =
    arguments (of_header [] header args)
    ∷ row_clauses [] 0
    ∷ evaluation
    ∷ arguments (given_arguments args)
    ∷ row_clauses [] 1
    ∷ delayed_fault (MissingItem (record { 0 = 6 }))
    ∷ expected (as_it_stands error)
    ∷ []

abbrev pub w_list : List Entry
w_list = list_for_w (w_ty ∷ []) (w_ty ∷ []) (error_ty 6)

-- `<Vec<u32> as Trait<i32>>::Assoc<u64>`
abbrev pub assoc_of_vec : Projection
assoc_of_vec = record { item = assoc_item; trait_params = 2; args = asked_args }

-- what `impl<T> Trait<i32> for Vec<T>` asks for there, with these terms for both headers and the value: the definition stands in `impl<T, U> Trait<U> for Vec<T>`
abbrev pub list_for_assoc : List Tree → List Tree → Tree → List Entry
list_for_assoc header other_header value =
    arguments (of_header (kind.Ty ∷ []) header (vec_of u32_ty ∷ i32_ty ∷ []))
    ∷ row_clauses [] 0
    ∷ evaluation
    ∷ arguments (given_arguments (vec_of u32_ty ∷ i32_ty ∷ u64_ty ∷ []))
    ∷ row_clauses [] 1
    ∷ arguments (of_other_header (kind.Ty ∷ kind.Ty ∷ []) other_header header 0)
    ∷ row_clauses [] 2
    ∷ arguments (followed_by 2 (u64_ty ∷ []))
    ∷ expected (value_under value 3)
    ∷ []

abbrev pub assoc_list : List Entry
assoc_list = list_for_assoc (vec_of (param 0) ∷ i32_ty ∷ []) (vec_of (param 0) ∷ param 1 ∷ []) (tuple (param 0 ∷ param 1 ∷ param 2 ∷ []))

-- what `impl<T: Tr> const Tr for Vec<T>`, with the const condition `T: Tr`, asks for, for `Vec<Q>` with a constness, with these terms for its header
abbrev pub list_for_vec : BoundConstness → List Tree → List Entry
list_for_vec c header =
    arguments (of_header (kind.Ty ∷ []) header (vec_of q_ty ∷ []))
    ∷ row_clauses (has_trait (ty.Param 0) 12 ∷ []) 0
    ∷ row_conditions c (record { def_id = trait 12; args = vec (arg.Ty (ty.Param 0) ∷ []) tt } ∷ []) 0
    ∷ []

abbrev pub vec_list : BoundConstness → List Entry
vec_list c = list_for_vec c (vec_of (param 0) ∷ [])

-- what an opaque type of another crate asks for in the erased mode: it stays as it is, which is recorded
abbrev pub opaque_entries : List Entry
opaque_entries = access IfPostAnalysis ∷ expected (as_it_stands (alias_of (opaque 0) [])) ∷ []

-- the rule of `impl Tr for W` for `<W as Tr>::A`, for an expected term
abbrev pub w_rule : List RuleEntry
w_rule =
    entry.Arguments (named.Header (header.Impl (impl 7)) (vec (arg.Ty (plain_struct 7) ∷ []) tt))
    ∷ entry.RowClauses (clauses.Impl (impl 7)) 0
    ∷ entry.Evaluation
    ∷ entry.Arguments (named.Given (vec (arg.Ty (plain_struct 7) ∷ []) tt))
    ∷ entry.RowClauses (clauses.Item (item 5)) 1
    ∷ entry.DelayedFault (MissingItem (record { 0 = 6 }))
    ∷ entry.Term (term.Ty (ty.Param 0)) (rule_term.AsItStands (term.Ty (ty.Error 6)))
    ∷ []

-- a rule of an impl that has no row: what stands behind its arguments says nothing
abbrev pub no_impl_rule : List RuleEntry
no_impl_rule = entry.Arguments (named.Header (header.Impl (impl 99)) (vec [] tt)) ∷ entry.Refused ∷ []

abbrev pub no_impl_list : List Entry
no_impl_list = undecided ∷ []

-- a rule with a definition that has no value: what stands behind the expected term counts
abbrev pub no_value_rule : List RuleEntry
no_value_rule = entry.Term (term.Ty (ty.Param 0)) (rule_term.Value (of_row.Definition (record { 0 = 6 })) 0) ∷ entry.Refused ∷ []

abbrev pub no_value_list : List Entry
no_value_list = undecided ∷ refused ∷ []
