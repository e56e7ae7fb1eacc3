-- The terms that built-in rules say of items are types and constants.
use Rattle.std.proofs.Common.{◌≡◌, ℕ, Bool, true, false, List, [], ◌∷◌, map, Option, Some, None, if◌then◌else◌, refl, sym, ap, ◌∙◌, subst}
use Rattle.std.specs.Prelude.{IfSome}
use Rattle.std.specs.List.{All}
use Rattle.std.specs.Option.{option_map, option_and_then}
use Rattle.std.proofs.lemmas.List.Elements.{All-cons, All-nil, All-head, All-tail}
use Rattle.goal_terms.specs.Erased.{erased, erased_row}
use Rattle.goal_terms.specs.Folding.{depth_below, folded, folded_row, folded_node, instantiating}
use Rattle.goal_terms.specs.Sorts.{is_term_sort, is_argument_sort, IsSort, IsTerm, IsArgument}
use Rattle.goal_terms.specs.Tree.{Tree, Trees, node, alias, variable, none, more, list_of, forest}
use Rattle.goal_terms.specs.TreeOf.{leaf, tree_of_arg, tree_of_ty, tree_of_sig, trees_of, is_type_kind}
use Rattle.goal_terms.specs.declared.heads.Head.{Head}
use Rattle.goal_terms.specs.declared.heads.Head.TheVariants as head
use Rattle.goal_terms.specs.declared.ids.ItemId.{ItemId}
use Rattle.goal_terms.specs.declared.ids.TraitId.{TraitId}
use Rattle.goal_terms.specs.declared.sorts.Sort.TheVariants as sorts
use Rattle.goal_terms.specs.declared.terms.AliasTermKind.{AliasTermKind}
use Rattle.goal_terms.specs.declared.terms.AliasTermKind.TheVariants.{ProjectionTy}
use Rattle.goal_terms.specs.declared.terms.FnSig.{FnSig}
use Rattle.goal_terms.specs.declared.terms.GenericArg.{GenericArg}
use Rattle.goal_terms.specs.declared.terms.Ty.{Ty}
use Rattle.goal_terms.proofs.SortLemmas.{ty_sort}
use Rattle.goal_terms.proofs.TreeLemmas.{list_of-forest, tree_of_sig-record}
use Rattle.goal_interner.proofs.UnderLemmas.{instantiating-sorts}
use Rattle.goal_tables.specs.Rows.{adt_of, function_of, closure_of, lang_trait_of, lang_adt_of}
use Rattle.goal_terms.specs.declared.lang.LangItem.{LangItem}
use Rattle.goal_terms.specs.declared.lang.LangItem.TheVariants as lang
use Rattle.goal_tables.specs.declared.rows.AdtKind.{AdtKind}
use Rattle.goal_tables.specs.declared.rows.AdtKind.TheVariants as adt
use Rattle.goal_tables.specs.declared.rows.AdtRow.{AdtRow}
use Rattle.goal_tables.specs.declared.rows.Tables.{Tables}
use Rattle.goal_lists.specs.Builtins.{unit_ty, usize_ty, u8_ty, callable_sig, is_callable_by, closure_sig, signature_of_head, signature_of, output_of, field_of, Listed, nothing_listed, listed, listed_rigid, listed_by_size, listed_term, metadata_of, adt_metadata, dyn_metadata, listed_by_size_of, metadata_of_head, metadata_rule, discriminant_of_head, discriminant_rule, listed_output, output_rule, field_base, field_ty, lang_term, term_of_lang, lang_of_item, term_rule}
use Rattle.goal_lists.specs.Candidates.{last_of}
use Rattle.goal_lists.specs.Headers.{under}
use Rattle.goal_lists.specs.KindedTerms.{FitsThroughout}
use Rattle.goal_lists.specs.Words.{Each}
use Rattle.goal_lists.proofs.CandidateTerms.{list-erased}
use Rattle.goal_lists.proofs.PublicTermLemmas.{arg_through, sig_through}
use Rattle.goal_kinds.proofs.RebuiltLemmas.{sort-of_erased}
use Rattle.goal_kinds.proofs.SortedLists.{AreSorted, call_premises-sorted}

-- an alias is a type or a constant
either-term : (b : Bool) → is_term_sort (if b then sorts.Ty else sorts.Const) ≡ true
either-term true = refl
either-term false = refl

pub alias-term : (k : AliasTermKind) (ts : Trees) → IsTerm (alias k ts)
alias-term k ts = either-term (is_type_kind k)

-- lists of types, and of arguments, without lifetimes
types-erased : (ts : List Tree) → All (IsSort sorts.Ty) ts → All (IsSort sorts.Ty) (map erased ts)
types-erased [] h = All-nil (IsSort sorts.Ty)
types-erased (t ∷ ts) h =
    All-cons (IsSort sorts.Ty) (erased t) (map erased ts) (sort-of_erased t ∙ All-head (IsSort sorts.Ty) t ts h)
    (types-erased ts (All-tail (IsSort sorts.Ty) t ts h))

arguments-erased : (ts : List Tree) → All IsArgument ts → All IsArgument (map erased ts)
arguments-erased [] h = All-nil IsArgument
arguments-erased (t ∷ ts) h =
    All-cons IsArgument (erased t) (map erased ts) (ap is_argument_sort (sort-of_erased t) ∙ All-head IsArgument t ts h)
    (arguments-erased ts (All-tail IsArgument t ts h))

-- the last of some types is one
last-type : (ts : List Tree) → All (IsSort sorts.Ty) ts → IfSome (last_of ts) IsTerm
unfolding last_of
last-type [] h = tt
last-type (t ∷ []) h = ap is_term_sort (All-head (IsSort sorts.Ty) t [] h)
last-type (t ∷ u ∷ us) h = last-type (u ∷ us) (All-tail (IsSort sorts.Ty) t (u ∷ us) h)

-- terms of rows under arguments
module _ (s : List Tree) (all : All IsArgument s) where
  under-type : (ty : Ty) → IsTerm (under s (tree_of_ty ty))
  under-type ty = ap is_term_sort (sort-of_erased (folded (instantiating s) 0 (tree_of_ty ty)) ∙ instantiating-sorts s all 0 (tree_of_ty ty) ∙ ty_sort ty)

  under-types : (d : ℕ) (ts : Trees) → All (IsSort sorts.Ty) (list_of ts) → All (IsSort sorts.Ty) (list_of (erased_row (folded_row (instantiating s) d ts)))
  unfolding folded erased
  under-types d none h = All-nil (IsSort sorts.Ty)
  under-types d (more t ts) h =
      All-cons (IsSort sorts.Ty) (erased (folded (instantiating s) d t)) (list_of (erased_row (folded_row (instantiating s) d ts)))
      (sort-of_erased (folded (instantiating s) d t) ∙ instantiating-sorts s all d t ∙ All-head (IsSort sorts.Ty) t (list_of ts) h)
      (under-types d ts (All-tail (IsSort sorts.Ty) t (list_of ts) h))

-- the output of a signature, if it is there, is a type
abbrev SigIsSorted : Option Tree → Type 0
SigIsSorted o = IfSome o (λ sig. IfSome (output_of sig) IsTerm)

callable-sorted : (b n : ℕ) (q : Bool) (ts : Trees) → All (IsSort sorts.Ty) (list_of ts) → SigIsSorted (callable_sig (node (head.FnPtr b n q) ts))
callable-sorted b n true ts h = last-type (list_of ts) h
callable-sorted b n false ts h = tt

-- a row's signature under arguments is one of types
abbrev IsSig : Tree → Type 0
IsSig u = (b : ℕ) × (n : ℕ) × (q : Bool) × (ts : Trees) × (u ≡ node (head.FnPtr b n q) ts) × All (IsSort sorts.Ty) (list_of ts)

sig-under : (s : List Tree) → All IsArgument s → (u : Tree) → FitsThroughout u → IsSig u → IsSig (under s u)
unfolding folded folded_node erased
sig-under s all u fit x = (
  0,
  x.1,
  x.2,
  erased_row (folded_row (instantiating s) (depth_below (head.FnPtr x.0 x.1 x.2) 0) x.3),
  ap (under s) x.4,
  under-types s all (depth_below (head.FnPtr x.0 x.1 x.2) 0) x.3 x.5,
)

sig-types : (u : Tree) (b n : ℕ) (q : Bool) (ts : Trees) → u ≡ node (head.FnPtr b n q) ts → FitsThroughout u → IsSig u
unfolding FitsThroughout
sig-types u b n q ts e fit = let here = subst FitsThroughout e fit in (b, n, q, ts, e, here.0.1)

row-sig : (s : List Tree) → All IsArgument s → (sig : FnSig) → IsSig (under s (tree_of_sig sig))
row-sig s all sig =
    sig-under s all (tree_of_sig sig) (sig_through sig) (sig-types (tree_of_sig sig) _ _ _ _ (tree_of_sig-record sig) (sig_through sig))

callable-sig : (u : Tree) → IsSig u → SigIsSorted (callable_sig u)
callable-sig u x = subst (λ v. SigIsSorted (callable_sig v)) (sym x.4) (callable-sorted x.0 x.1 x.2 x.3 x.5)

whole-sig : (u : Tree) → IsSig u → SigIsSorted (Some u)
whole-sig u x = subst (λ v. SigIsSorted (Some v)) (sym x.4) (last-type (list_of x.3) x.5)

-- what is so of what a row leads to, if it is there
then-sorted : {A : Type 0} (o : Option A) (f : A → Option Tree) → ((x : A) → SigIsSorted (f x)) → SigIsSorted (option_and_then f o)
then-sorted None f h = tt
then-sorted (Some x) f h = h x

where-sorted : (b : Bool) (u : Tree) → SigIsSorted (Some u) → SigIsSorted (if b then Some u else None)
where-sorted true u h = h
where-sorted false u h = tt

-- the parts of a constructor, as they stand without lifetimes
parts-arguments : (ts : Trees) → All IsArgument (list_of ts) → All IsArgument (list_of (erased_row ts))
parts-arguments ts h = subst (All IsArgument) (sym (list-erased ts)) (arguments-erased (list_of ts) h)

parts-types : (ts : Trees) → All (IsSort sorts.Ty) (list_of ts) → All (IsSort sorts.Ty) (list_of (forest (list_of (erased_row ts))))
parts-types ts h = subst (All (IsSort sorts.Ty)) (sym (list_of-forest (list_of (erased_row ts)) ∙ list-erased ts)) (types-erased (list_of ts) h)

-- the signature by which a type is called
signature-sorted : (t : Tables) (l : LangItem) (u : Tree) → FitsThroughout u → SigIsSorted (signature_of t l (erased u))
unfolding signature_of_head FitsThroughout erased
signature-sorted t l (node (head.FnDef f n) ts) fit =
    then-sorted (function_of t f) _
    (λ r. callable-sig (under (list_of (erased_row ts)) (tree_of_sig r.sig)) (row-sig (list_of (erased_row ts)) (parts-arguments ts fit.0.1) r.sig))
signature-sorted t l (node (head.FnPtr b n q) ts) fit = callable-sorted 0 n q (forest (list_of (erased_row ts))) (parts-types ts fit.0.1)
signature-sorted t l (node (head.Closure c n) ts) fit =
    then-sorted (closure_of t c) (closure_sig l (list_of (erased_row ts)))
    (λ r. where-sorted (is_callable_by r.kind l) (under (list_of (erased_row ts)) (tree_of_sig r.sig))
    (whole-sig (under (list_of (erased_row ts)) (tree_of_sig r.sig)) (row-sig (list_of (erased_row ts)) (parts-arguments ts fit.0.1) r.sig)))
signature-sorted t l (node h ts) fit = tt
signature-sorted t l (alias k ts) fit = tt
signature-sorted t l (variable v) fit = tt

-- what a built-in rule lists gives a type or a constant, behind sorted premises
abbrev pub ListedIsSorted : Listed → Type 0
ListedIsSorted nothing_listed = Unit {0}
ListedIsSorted (listed ps v) = AreSorted ps × IsTerm v
ListedIsSorted listed_rigid = Unit {0}
ListedIsSorted (listed_by_size i) = Unit {0}

alone-sorted : (v : Tree) → IsTerm v → ListedIsSorted (listed [] v)
unfolding Each
alone-sorted v h = (tt, h)

term-sorted : (o : Option Tree) → IfSome o IsTerm → ListedIsSorted (listed_term o)
term-sorted None h = tt
term-sorted (Some v) h = alone-sorted v h

by_size-sorted : (o : Option TraitId) → ListedIsSorted (listed_by_size_of o)
by_size-sorted None = tt
by_size-sorted (Some i) = tt

-- `Output`
output-both : (args : List Tree) (sig : Tree) (o : Option Tree) (sized : Option TraitId) → IfSome o IsTerm → ListedIsSorted (listed_output args sig o sized)
output-both args sig None sized h = tt
output-both args sig (Some output) None h = tt
output-both args sig (Some output) (Some sized) h = (call_premises-sorted sized sig args output, h)

output-sorted : (t : Tables) (args : List Tree) (o : Option Tree) → SigIsSorted o → ListedIsSorted (output_rule t args o)
output-sorted t args None h = tt
output-sorted t args (Some sig) h = output-both args sig (output_of sig) (lang_trait_of t lang.Sized) h

-- what is made of a row that may be missing
mapped-sorted : {A : Type 0} (o : Option A) (f : A → Tree) → ((x : A) → IsTerm (f x)) → IfSome (option_map f o) IsTerm
mapped-sorted None f h = tt
mapped-sorted (Some x) f h = h x

-- `Metadata`
metadata-term : (item : ItemId) (o : Option Tree) → IsTerm (metadata_of item o)
metadata-term item None = refl
metadata-term item (Some ty) = alias-term (ProjectionTy item) (more ty none)

adt-metadata : (item : ItemId) (args : List Tree) (k : AdtKind) (r : AdtRow) → IsTerm (adt_metadata item args k r)
adt-metadata item args adt.Struct r = metadata-term item (option_map (λ ty. under args (tree_of_ty ty)) r.tail)
adt-metadata item args adt.Enum r = refl
adt-metadata item args adt.Union r = refl

metadata_head-sorted : (t : Tables) (item : ItemId) (h : Head) (ts : List Tree) → ListedIsSorted (metadata_of_head t item h ts)
unfolding metadata_of_head
metadata_head-sorted t item head.Str ts = alone-sorted usize_ty refl
metadata_head-sorted t item head.Slice ts = alone-sorted usize_ty refl
metadata_head-sorted t item (head.TyError n) ts = alone-sorted (leaf (head.TyError n)) refl
metadata_head-sorted t item (head.Dynamic n r) ts = term-sorted _ (mapped-sorted (lang_adt_of t lang.DynMetadata) (dyn_metadata (node (head.Dynamic n r) (forest ts))) (λ a. refl))
metadata_head-sorted t item (head.Adt a n) ts = term-sorted _ (mapped-sorted (adt_of t a) (λ r. adt_metadata item ts r.kind r) (λ r. adt-metadata item ts r.kind r))
metadata_head-sorted t item (head.Tuple n) ts = alone-sorted (metadata_of item (last_of ts)) (metadata-term item (last_of ts))
metadata_head-sorted t item (head.TyParam n) ts = by_size-sorted (lang_trait_of t lang.Sized)
metadata_head-sorted t item (head.TyPlaceholder n) ts = by_size-sorted (lang_trait_of t lang.Sized)
metadata_head-sorted t item h ts = alone-sorted unit_ty refl

metadata-sorted : (t : Tables) (item : ItemId) (self : Tree) → ListedIsSorted (metadata_rule t item self)
metadata-sorted t item (node h ts) = metadata_head-sorted t item h (list_of ts)
metadata-sorted t item (alias k ts) = by_size-sorted (lang_trait_of t lang.Sized)
metadata-sorted t item (variable v) = alone-sorted unit_ty refl

-- `Discriminant`
discriminant-sorted : (t : Tables) (u : Tree) → FitsThroughout u → ListedIsSorted (discriminant_rule t (erased u))
unfolding discriminant_of_head FitsThroughout erased
discriminant-sorted t (node (head.TyParam n) ts) fit = tt
discriminant-sorted t (node (head.TyPlaceholder n) ts) fit = tt
discriminant-sorted t (node (head.Adt a n) ts) fit =
    term-sorted _ (mapped-sorted (adt_of t a) (λ r. under (list_of (erased_row ts)) (tree_of_ty r.discriminant)) (λ r. under-type (list_of (erased_row ts)) (parts-arguments ts fit.0.1) r.discriminant))
discriminant-sorted t (node h ts) fit = alone-sorted u8_ty refl
discriminant-sorted t (alias k ts) fit = tt
discriminant-sorted t (variable v) fit = alone-sorted u8_ty refl

-- the types of fields
found-field : {A : Type 0} (o : Option A) (g : A → List Tree × AdtRow) (f : List Tree × AdtRow → Option Tree) → ((x : A) → IfSome (f (g x)) IsTerm) →
    IfSome (option_and_then f (option_map g o)) IsTerm
found-field None g f h = tt
found-field (Some x) g f h = h x

field-sorted : (t : Tables) (u : Tree) (f : List Tree × AdtRow → Option Tree) → ((ts : List Tree) (r : AdtRow) → All IsArgument ts → IfSome (f (ts, r)) IsTerm) →
    FitsThroughout u → ListedIsSorted (listed_term (option_and_then f (field_of t (erased u))))
unfolding FitsThroughout erased
field-sorted t (node (head.Adt a n) ts) f each fit =
    term-sorted _ (found-field (adt_of t a) (λ r. (list_of (erased_row ts), r)) f (λ r. each (list_of (erased_row ts)) r (parts-arguments ts fit.0.1)))
field-sorted t (node h ts) f each fit = tt
field-sorted t (alias k ts) f each fit = tt
field-sorted t (variable v) f each fit = tt

-- the rules of lang items
lang-sorted : (t : Tables) (item : ItemId) (l : LangItem) (u : Tree) (args : List Tree) → FitsThroughout u → ListedIsSorted (lang_term t item l (erased u) args)
unfolding lang_term
lang-sorted t item lang.Output u args fit = output-sorted t args (signature_of t lang.FnOnce (erased u)) (signature-sorted t lang.FnOnce u fit)
lang-sorted t item lang.Metadata u args fit = metadata-sorted t item (erased u)
lang-sorted t item lang.Discriminant u args fit = discriminant-sorted t u fit
lang-sorted t item lang.Base u args fit =
    field-sorted t u field_base (λ ts r all. mapped-sorted r.field_info (λ f. under ts (tree_of_ty f.base)) (λ f. under-type ts all f.base)) fit
lang-sorted t item lang.FieldType u args fit =
    field-sorted t u field_ty (λ ts r all. mapped-sorted r.field_info (λ f. under ts (tree_of_ty f.ty)) (λ f. under-type ts all f.ty)) fit
lang-sorted t item l u args fit = tt

named-sorted : (t : Tables) (item : ItemId) (u : Tree) (args : List Tree) (o : Option LangItem) → FitsThroughout u → ListedIsSorted (term_of_lang t item (erased u) args o)
named-sorted t item u args None fit = tt
named-sorted t item u args (Some l) fit = lang-sorted t item l u args fit

-- what built-in rules say of an item's term for public arguments
pub term_rule-sorted : (t : Tables) (item : ItemId) (args : List GenericArg) → ListedIsSorted (term_rule t item (map erased (trees_of args)))
unfolding term_rule
term_rule-sorted t item [] = tt
term_rule-sorted t item (a ∷ args) = named-sorted t item (tree_of_arg a) (map erased (trees_of args)) (lang_of_item t item) (arg_through a)
