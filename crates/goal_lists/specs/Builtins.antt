-- The built-in rules, each as a list of premises. A type that no rule names has none.
use Rattle.std.specs.Prelude.{Bool, true, false, List, [], ◌∷◌, map, length, Option, Some, None, if◌then◌else◌}
use Rattle.std.specs.Option.{option_map, option_and_then}
use Rattle.goal_terms.specs.PredicateTrees.{holds}
use Rattle.goal_terms.specs.Tree.{Tree, node, alias, variable, none, more, list_of, forest}
use Rattle.goal_terms.specs.TreeOf.{leaf, tree_of_ty, tree_of_sig}
use Rattle.goal_terms.specs.declared.heads.Head.{Head}
use Rattle.goal_terms.specs.declared.heads.Head.TheVariants as head
use Rattle.goal_terms.specs.declared.ids.AdtId.{AdtId}
use Rattle.goal_terms.specs.declared.ids.ItemId.{ItemId}
use Rattle.goal_terms.specs.declared.ids.TraitId.{TraitId}
use Rattle.goal_terms.specs.declared.scalars.UintTy.TheVariants as unsigned
use Rattle.goal_terms.specs.declared.terms.AliasTermKind.TheVariants.{ProjectionTy}
use Rattle.goal_tables.specs.Rows.{trait_of, adt_of, function_of, closure_of, lang_naming, lang_trait_of, lang_adt_of}
use Rattle.goal_terms.specs.declared.lang.LangItem.{LangItem}
use Rattle.goal_terms.specs.declared.lang.LangItem.TheVariants as lang
use Rattle.goal_terms.specs.declared.lang.LangTarget.TheVariants as target
use Rattle.goal_tables.specs.declared.rows.AdtKind.{AdtKind}
use Rattle.goal_tables.specs.declared.rows.AdtKind.TheVariants as adt
use Rattle.goal_tables.specs.declared.rows.AdtRow.{AdtRow}
use Rattle.goal_tables.specs.declared.rows.ClosureKind.{ClosureKind}
use Rattle.goal_tables.specs.declared.rows.ClosureKind.TheVariants as closure
use Rattle.goal_tables.specs.declared.rows.ClosureRow.{ClosureRow}
use Rattle.goal_tables.specs.declared.rows.TraitRow.{TraitRow}
use Rattle.goal_tables.specs.declared.rows.Tables.{Tables}
use Rattle.goal_lists.specs.Candidates.{all_but_last, last_of}
use Rattle.goal_lists.specs.Headers.{under}
use Rattle.goal_lists.specs.Premises.{Premise, predicate, equation, clauses_under}

-- the types `()` and `usize` and `u8`
abbrev pub unit_ty : Tree
unit_ty = leaf (head.Tuple 0)

abbrev pub usize_ty : Tree
usize_ty = leaf (head.Uint unsigned.Usize)

abbrev pub u8_ty : Tree
u8_ty = leaf (head.Uint unsigned.U8)

-- that a trait holds for each of some types
abbrev pub each_is : TraitId → List Tree → List Premise
each_is i tys = map (λ ty. predicate (holds i (ty ∷ []))) tys

-- the lang item that names a trait, or an item
abbrev pub lang_of_trait : Tables → TraitId → Option LangItem
lang_of_trait t i = option_map (λ r. r.item) (lang_naming t (target.Trait i))

abbrev pub lang_of_item : Tables → ItemId → Option LangItem
lang_of_item t i = option_map (λ r. r.item) (lang_naming t (target.Item i))

-- what a list's last type must be, if there is one
abbrev pub last_is : TraitId → Option Tree → List Premise
last_is i None = []
last_is i (Some ty) = each_is i (ty ∷ [])

-- what an ADT's `Sized` constraint asks
abbrev pub constraint_is : TraitId → List Tree → AdtRow → List Premise
constraint_is i args r = last_is i (option_map (λ ty. under args (tree_of_ty ty)) r.sized_constraint)

-- `Sized`: a tuple where its last element is, an ADT where its constraint is; many types never or always
unfoldable pub sized_of_head : Tables → TraitId → Head → List Tree → Option (List Premise)
sized_of_head t i head.Str ts = None
sized_of_head t i head.Slice ts = None
sized_of_head t i (head.Dynamic n r) ts = None
sized_of_head t i (head.Foreign f) ts = None
sized_of_head t i (head.TyParam n) ts = None
sized_of_head t i (head.TyPlaceholder n) ts = None
sized_of_head t i (head.Tuple n) ts = Some (last_is i (last_of ts))
sized_of_head t i (head.Adt a n) ts = option_map (constraint_is i ts) (adt_of t a)
sized_of_head t i _ ts = Some []

abbrev pub sized_rule : Tables → TraitId → Tree → Option (List Premise)
sized_rule t i (node h ts) = sized_of_head t i h (list_of ts)
sized_rule t i (alias k ts) = None
sized_rule t i (variable v) = Some []

-- the types of a closure's captured variables
abbrev pub upvars_of : List Tree → ClosureRow → List Tree
upvars_of args r = map (λ ty. under args (tree_of_ty ty)) r.upvars.items

-- the types that must be `Copy` or `Clone` with a type; those not named are so by impls alone
unfoldable pub copied_parts_of_head : Tables → Head → List Tree → Option (List Tree)
copied_parts_of_head t (head.FnDef f n) ts = Some []
copied_parts_of_head t (head.FnPtr b n q) ts = Some []
copied_parts_of_head t (head.TyError n) ts = Some []
copied_parts_of_head t (head.Tuple n) ts = Some ts
copied_parts_of_head t (head.Closure c n) ts = option_map (upvars_of ts) (closure_of t c)
copied_parts_of_head t _ ts = None

abbrev pub copied_parts : Tables → Tree → Option (List Tree)
copied_parts t (node h ts) = copied_parts_of_head t h (list_of ts)
copied_parts t (alias k ts) = None
copied_parts t (variable v) = None

-- a signature as the tree of a pointer to it, if its functions have the traits `Fn`
abbrev pub callable_sig : Tree → Option Tree
callable_sig (node (head.FnPtr b n true) ts) = Some (node (head.FnPtr b n true) ts)
callable_sig _ = None

-- whether closures of a kind may be called by a trait
abbrev pub is_callable_by : ClosureKind → LangItem → Bool
is_callable_by closure.Fn _ = true
is_callable_by closure.FnMut lang.Fn = false
is_callable_by closure.FnMut _ = true
is_callable_by closure.FnOnce lang.FnOnce = true
is_callable_by closure.FnOnce _ = false

-- a closure's signature, if it may be called by a trait
abbrev pub closure_sig : LangItem → List Tree → ClosureRow → Option Tree
closure_sig l args r = if is_callable_by r.kind l then Some (under args (tree_of_sig r.sig)) else None

-- the signature by which a type is called
unfoldable pub signature_of_head : Tables → LangItem → Head → List Tree → Option Tree
signature_of_head t l (head.FnDef f n) ts = option_and_then (λ r. callable_sig (under ts (tree_of_sig r.sig))) (function_of t f)
signature_of_head t l (head.FnPtr b n q) ts = callable_sig (node (head.FnPtr b n q) (forest ts))
signature_of_head t l (head.Closure c n) ts = option_and_then (closure_sig l ts) (closure_of t c)
signature_of_head t l _ ts = None

abbrev pub signature_of : Tables → LangItem → Tree → Option Tree
signature_of t l (node h ts) = signature_of_head t l h (list_of ts)
signature_of t l (alias k ts) = None
signature_of t l (variable v) = None

-- a signature's inputs as a tuple, and its output
abbrev pub inputs_of : Tree → Tree
inputs_of (node h ts) = node (head.Tuple (length (all_but_last (list_of ts)))) (forest (all_but_last (list_of ts)))
inputs_of t = t

abbrev pub output_of : Tree → Option Tree
output_of (node h ts) = last_of (list_of ts)
output_of t = None

-- that a signature takes given arguments, and that its output is `Sized`
abbrev pub call_premises : TraitId → Tree → List Tree → Tree → List Premise
call_premises sized sig [] output = []
call_premises sized sig (args ∷ _) output = equation (inputs_of sig) args ∷ each_is sized (output ∷ [])

-- `Fn`, `FnMut` and `FnOnce`
unfoldable pub call_rule : Tables → LangItem → Tree → List Tree → Option (List Premise)
call_rule t l self args =
    option_and_then (λ sig. option_and_then (λ output. option_map (λ sized. call_premises sized sig args output) (lang_trait_of t lang.Sized)) (output_of sig)) (signature_of t l self)

-- whether a type is an ADT with field information
abbrev pub field_of : Tables → Tree → Option (List Tree × AdtRow)
field_of t (node (head.Adt a n) ts) = option_map (λ r. (list_of ts, r)) (adt_of t a)
field_of t _ = None

-- `FnPtr` and `Tuple` go by the constructor
abbrev pub is_fn_ptr : Tree → Bool
is_fn_ptr (node (head.FnPtr b n q) ts) = true
is_fn_ptr _ = false

abbrev pub is_tuple : Tree → Bool
is_tuple (node (head.Tuple n) ts) = true
is_tuple _ = false

-- no premises, where a test is passed
abbrev pub where_true : Bool → Option (List Premise)
where_true true = Some []
where_true false = None

-- the rule of a lang trait
unfoldable pub lang_rule : Tables → TraitId → LangItem → Tree → List Tree → Option (List Premise)
lang_rule t i lang.Sized self args = sized_rule t i self
lang_rule t i lang.Copy self args = option_map (each_is i) (copied_parts t self)
lang_rule t i lang.Clone self args = option_map (each_is i) (copied_parts t self)
lang_rule t i lang.Fn self args = call_rule t lang.Fn self args
lang_rule t i lang.FnMut self args = call_rule t lang.FnMut self args
lang_rule t i lang.FnOnce self args = call_rule t lang.FnOnce self args
lang_rule t i lang.FnPtr self args = where_true (is_fn_ptr self)
lang_rule t i lang.Tuple self args = where_true (is_tuple self)
lang_rule t i lang.Pointee self args = Some []
lang_rule t i lang.DiscriminantKind self args = Some []
lang_rule t i lang.Destruct self args = Some []
lang_rule t i lang.Field self args = option_and_then (λ p. option_map (λ f. []) p.1.field_info) (field_of t self)
lang_rule t i _ self args = None

-- the rule of a trait alias, or of a lang trait; other traits have none
abbrev pub alias_or_lang_rule : Tables → TraitId → Tree → List Tree → Option TraitRow → Option (List Premise)
alias_or_lang_rule t i self args None = None
alias_or_lang_rule t i self args (Some r) =
    if r.is_alias then Some (clauses_under (self ∷ args) r.predicates.items)
    else option_and_then (λ l. lang_rule t i l self args) (lang_of_trait t i)

unfoldable pub trait_rule : Tables → TraitId → List Tree → Option (List Premise)
trait_rule t i [] = None
trait_rule t i (self ∷ args) = alias_or_lang_rule t i self args (trait_of t i)

-- what a built-in rule says of an item's term: nothing, a term to normalize behind premises, the alias itself, or `()` where the self type is `Sized` and else the alias itself
pub data Listed : Type 0 where
  nothing_listed : Listed
  listed : List Premise → Tree → Listed
  listed_rigid : Listed
  listed_by_size : TraitId → Listed

abbrev pub listed_term : Option Tree → Listed
listed_term None = nothing_listed
listed_term (Some ty) = listed [] ty

-- the metadata of another type, by its own rule
abbrev pub metadata_of : ItemId → Option Tree → Tree
metadata_of item None = unit_ty
metadata_of item (Some ty) = alias (ProjectionTy item) (more ty none)

-- the metadata of an ADT: that of a struct's tail, and `()` of all others
abbrev pub adt_metadata : ItemId → List Tree → AdtKind → AdtRow → Tree
adt_metadata item args adt.Struct r = metadata_of item (option_map (λ ty. under args (tree_of_ty ty)) r.tail)
adt_metadata item args adt.Enum r = unit_ty
adt_metadata item args adt.Union r = unit_ty

-- the metadata of a `dyn` type
abbrev pub dyn_metadata : Tree → AdtId → Tree
dyn_metadata self a = node (head.Adt a 1) (more self none)

-- a type that stands for any type: its metadata goes by whether it is `Sized`
abbrev pub listed_by_size_of : Option TraitId → Listed
listed_by_size_of None = nothing_listed
listed_by_size_of (Some sized) = listed_by_size sized

-- `Metadata`, by the constructor of the self type
unfoldable pub metadata_of_head : Tables → ItemId → Head → List Tree → Listed
metadata_of_head t item head.Str ts = listed [] usize_ty
metadata_of_head t item head.Slice ts = listed [] usize_ty
metadata_of_head t item (head.TyError n) ts = listed [] (leaf (head.TyError n))
metadata_of_head t item (head.Dynamic n r) ts = listed_term (option_map (dyn_metadata (node (head.Dynamic n r) (forest ts))) (lang_adt_of t lang.DynMetadata))
metadata_of_head t item (head.Adt a n) ts = listed_term (option_map (λ r. adt_metadata item ts r.kind r) (adt_of t a))
metadata_of_head t item (head.Tuple n) ts = listed [] (metadata_of item (last_of ts))
metadata_of_head t item (head.TyParam n) ts = listed_by_size_of (lang_trait_of t lang.Sized)
metadata_of_head t item (head.TyPlaceholder n) ts = listed_by_size_of (lang_trait_of t lang.Sized)
metadata_of_head t item _ ts = listed [] unit_ty

abbrev pub metadata_rule : Tables → ItemId → Tree → Listed
metadata_rule t item (node h ts) = metadata_of_head t item h (list_of ts)
metadata_rule t item (alias k ts) = listed_by_size_of (lang_trait_of t lang.Sized)
metadata_rule t item (variable v) = listed [] unit_ty

-- `Discriminant`, by the constructor of the self type
unfoldable pub discriminant_of_head : Tables → Head → List Tree → Listed
discriminant_of_head t (head.TyParam n) ts = listed_rigid
discriminant_of_head t (head.TyPlaceholder n) ts = listed_rigid
discriminant_of_head t (head.Adt a n) ts = listed_term (option_map (λ r. under ts (tree_of_ty r.discriminant)) (adt_of t a))
discriminant_of_head t _ ts = listed [] u8_ty

abbrev pub discriminant_rule : Tables → Tree → Listed
discriminant_rule t (node h ts) = discriminant_of_head t h (list_of ts)
discriminant_rule t (alias k ts) = listed_rigid
discriminant_rule t (variable v) = listed [] u8_ty

-- `Output`: the signature's, where the call's premises hold
abbrev pub listed_output : List Tree → Tree → Option Tree → Option TraitId → Listed
listed_output args sig None sized = nothing_listed
listed_output args sig (Some output) None = nothing_listed
listed_output args sig (Some output) (Some sized) = listed (call_premises sized sig args output) output

abbrev pub output_rule : Tables → List Tree → Option Tree → Listed
output_rule t args None = nothing_listed
output_rule t args (Some sig) = listed_output args sig (output_of sig) (lang_trait_of t lang.Sized)

-- the types of a field representing type
abbrev pub field_base : List Tree × AdtRow → Option Tree
field_base p = option_map (λ f. under p.0 (tree_of_ty f.base)) p.1.field_info

abbrev pub field_ty : List Tree × AdtRow → Option Tree
field_ty p = option_map (λ f. under p.0 (tree_of_ty f.ty)) p.1.field_info

-- the rule of a lang item
unfoldable pub lang_term : Tables → ItemId → LangItem → Tree → List Tree → Listed
lang_term t item lang.Output self args = output_rule t args (signature_of t lang.FnOnce self)
lang_term t item lang.Metadata self args = metadata_rule t item self
lang_term t item lang.Discriminant self args = discriminant_rule t self
lang_term t item lang.Base self args = listed_term (option_and_then field_base (field_of t self))
lang_term t item lang.FieldType self args = listed_term (option_and_then field_ty (field_of t self))
lang_term t item _ self args = nothing_listed

abbrev pub term_of_lang : Tables → ItemId → Tree → List Tree → Option LangItem → Listed
term_of_lang t item self args None = nothing_listed
term_of_lang t item self args (Some l) = lang_term t item l self args

-- what built-in rules say of an item's term for given arguments
unfoldable pub term_rule : Tables → ItemId → List Tree → Listed
term_rule t item [] = nothing_listed
term_rule t item (self ∷ args) = term_of_lang t item self args (lang_of_item t item)
