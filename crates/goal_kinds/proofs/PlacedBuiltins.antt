-- The terms that built-in rules list are types, and each part in them is of the sort of its place.
use Rattle.std.proofs.Common.{◌≡◌, ℕ, Bool, true, false, ◌==◌, not, List, [], ◌∷◌, ◌++◌, length, map, Option, Some, None, refl, sym, ap, ◌∙◌, subst, rules}
use Rattle.std.specs.Prelude.{is_none, if◌then◌else◌}
use Rattle.std.specs.Option.{option_map, option_and_then}
use Rattle.std.proofs.lemmas.Bool.{false≢true}
use Rattle.goal_terms.specs.Erased.{erased}
use Rattle.goal_terms.specs.Folding.{folded, folded_node}
use Rattle.goal_terms.specs.Kinds.{same_kind}
use Rattle.goal_terms.specs.Sorts.{is_argument_sort}
use Rattle.goal_terms.specs.Tree.{Tree, Trees, node, alias, variable, none, more, list_of, forest}
use Rattle.goal_terms.specs.TreeOf.{tree_of_ty, tree_of_sig}
use Rattle.goal_terms.specs.declared.answers.ParamKind.TheVariants as kind
use Rattle.goal_terms.specs.declared.heads.Head.{Head}
use Rattle.goal_terms.specs.declared.heads.Head.TheVariants as head
use Rattle.goal_terms.specs.declared.ids.AdtId.{AdtId}
use Rattle.goal_terms.specs.declared.ids.ItemId.{ItemId}
use Rattle.goal_terms.specs.declared.ids.TraitId.{TraitId}
use Rattle.goal_terms.specs.declared.sorts.Sort.{Sort}
use Rattle.goal_terms.specs.declared.sorts.Sort.TheVariants as sorts
use Rattle.goal_terms.specs.declared.terms.AliasTermKind.TheVariants.{ProjectionTy}
use Rattle.goal_terms.specs.declared.terms.FnSig.{FnSig}
use Rattle.goal_terms.specs.declared.terms.Ty.{Ty}
use Rattle.goal_terms.proofs.TreeLemmas.{tree_of_sig-record}
use Rattle.goal_tables.specs.Faults.{IsChecked, applies}
use Rattle.goal_tables.specs.LangFaults.{trait_of_lang, is_in_other_trait, is_other_item, names_other, builtin_item_mismatch}
use Rattle.goal_tables.specs.Options.{option_holds}
use Rattle.goal_tables.specs.Rows.{item_of, adt_of, function_of, closure_of, same_lang_target, lang_naming, lang_trait_of, lang_adt_of}
use Rattle.goal_tables.specs.Sites.{kind_of_value, kind_of_row, is_of_other_kind}
use Rattle.goal_tables.specs.declared.faults.TableFault.TheVariants as fault
use Rattle.goal_terms.specs.declared.lang.LangItem.{LangItem}
use Rattle.goal_terms.specs.declared.lang.LangItem.TheVariants as lang
use Rattle.goal_terms.specs.declared.lang.LangRow.{LangRow}
use Rattle.goal_terms.specs.declared.lang.LangTarget.{LangTarget}
use Rattle.goal_terms.specs.declared.lang.LangTarget.TheVariants as target
use Rattle.goal_tables.specs.declared.rows.AdtKind.{AdtKind}
use Rattle.goal_tables.specs.declared.rows.AdtKind.TheVariants as adt
use Rattle.goal_tables.specs.declared.rows.AdtRow.{AdtRow}
use Rattle.goal_tables.specs.declared.rows.FieldInfo.{FieldInfo}
use Rattle.goal_tables.specs.declared.rows.ItemRow.{ItemRow}
use Rattle.goal_tables.specs.declared.rows.Tables.{Tables}
use Rattle.goal_lists.specs.Builtins.{callable_sig, is_callable_by, closure_sig, signature_of_head, signature_of, output_of, field_of, Listed, nothing_listed, listed, listed_rigid, listed_by_size, listed_term, metadata_of, adt_metadata, dyn_metadata, listed_by_size_of, metadata_of_head, metadata_rule, discriminant_of_head, discriminant_rule, listed_output, output_rule, field_base, field_ty, lang_term, term_of_lang, lang_of_item, term_rule}
use Rattle.goal_lists.specs.Candidates.{last_of}
use Rattle.goal_lists.specs.Headers.{under}
use Rattle.goal_lists.specs.Words.{Each}
use Rattle.goal_lists.proofs.AcceptedLemmas.{found_fails}
use Rattle.goal_lists.proofs.AlikeSettings.{found}
use Rattle.goal_kinds.proofs.FaultlessRows.{four_fail}
use Rattle.goal_kinds.proofs.PlacedRows.{HoldsPlacedTy, HoldsPlacedField, held-fails, placed-tail, placed-discriminant, placed-field, placed-function, placed-closure}
use Rattle.goal_kinds.proofs.PlacedTerms.{sort_at, sort_of_value, is_type_sort, takes, EndsAsSaid, AliasIsPlaced, IsPlaced, RowIsPlaced, IsPlacedIn, IsPlacedAs, IsPlacedArgument, ArePlaced, Holds, placed-list, placed-forest, placed-alias, placed-last, placed-type, placed-under, placed-under_as}
use Rattle.goal_lists.proofs.TableKindLemmas.{both_fail}

-- the item that a lang item names is a type
same_target : (x : LangTarget) (i : ItemId) → same_lang_target x (target.Item i) ≡ true → x ≡ target.Item i
same_target (target.Item j) i e = search rules
same_target _ i e = absurd (false≢true e)

lang_row : (t : Tables) → IsChecked t → (i : ItemId) (q : LangRow) → lang_naming t (target.Item i) ≡ Some q → names_other t q.item (target.Item i) ≡ false
unfolding IsChecked applies builtin_item_mismatch
lang_row t ok i q e =
    let same : q.target ≡ target.Item i = same_target q.target i (found (λ r. same_lang_target r.target (target.Item i)) t.lang_items.items q e).1 in
    subst (λ x. names_other t q.item x ≡ false) same
    (found_fails (λ r. same_lang_target r.target (target.Item i)) (λ r. names_other t r.item r.target) t.lang_items.items q e (ok fault.BuiltinItemMismatch))

lang_row_type : (t : Tables) → IsChecked t → (i : ItemId) (r : ItemRow) → item_of t i ≡ Some r → (q : LangRow) → lang_naming t (target.Item i) ≡ Some q → r.is_const ≡ false
unfolding is_other_item
lang_row_type t ok i r e q named =
    (four_fail r.is_const (not (length r.own_params.items == 0)) (not (length r.own_predicates.items == 0)) (is_in_other_trait t q.item r)
    (held-fails (is_other_item t q.item) (item_of t i) r e
    (both_fail (is_none (trait_of_lang q.item)) (option_holds (is_other_item t q.item) (item_of t i)) (lang_row t ok i q named)).1)).0

named_type : (o : Option LangRow) (b : Bool) → ((q : LangRow) → o ≡ Some q → b ≡ false) → (l : LangItem) → option_map (λ r. r.item) o ≡ Some l → b ≡ false
named_type None b each l e = absurd (cc)
named_type (Some q) b each l e = each q refl

lang_is_type : (t : Tables) → IsChecked t → (i : ItemId) (r : ItemRow) → item_of t i ≡ Some r → (l : LangItem) → lang_of_item t i ≡ Some l → r.is_const ≡ false
lang_is_type t ok i r e l named = named_type (lang_naming t (target.Item i)) r.is_const (lang_row_type t ok i r e) l named

-- so its projections are of their rows' kind
projection_is_placed : (t : Tables) (i : ItemId) (r : ItemRow) → item_of t i ≡ Some r → r.is_const ≡ false → AliasIsPlaced t (ProjectionTy i)
unfolding kind_of_row
projection_is_placed t i r e f =
    ap (λ o. is_of_other_kind (option_map (λ q. kind_of_value q.is_const) o) kind.Ty) e ∙ ap (λ b. not (same_kind (kind_of_value b) kind.Ty)) f

-- what is listed for an item is of its sort
abbrev pub IsPlacedListed : Tables → Bool → Listed → Type 0
IsPlacedListed t b nothing_listed = Unit {0}
IsPlacedListed t b (listed ps v) = IsPlacedAs t (sort_of_value b) v
IsPlacedListed t b listed_rigid = Unit {0}
IsPlacedListed t b (listed_by_size i) = b ≡ false

-- a type
abbrev IsPlacedType : Tables → Tree → Type 0
IsPlacedType t u = IsPlacedAs t sorts.Ty u

placed-listed_term : (t : Tables) (o : Option Tree) → Holds (IsPlacedType t) o → IsPlacedListed t false (listed_term o)
placed-listed_term t None e = tt
placed-listed_term t (Some u) e = e

-- a type that may be there, under arguments
placed-under_option : (t : Tables) (args : List Tree) → ArePlaced t args → (o : Option Ty) → HoldsPlacedTy t o → Holds (IsPlacedType t) (option_map (λ ty. under args (tree_of_ty ty)) o)
placed-under_option t args all None e = tt
placed-under_option t args all (Some ty) e = placed-under_as t args all sorts.Ty (tree_of_ty ty) e

-- what is found, and what is made of it
holds-map : {A : Type 0} (P : Tree → Type 0) (f : A → Tree) (o : Option A) → ((x : A) → o ≡ Some x → P (f x)) → Holds P (option_map f o)
holds-map P f None each = tt
holds-map P f (Some x) each = each x refl

holds-and_then : {A : Type 0} (P : Tree → Type 0) (f : A → Option Tree) (o : Option A) → ((x : A) → o ≡ Some x → Holds P (f x)) → Holds P (option_and_then f o)
holds-and_then P f None each = tt
holds-and_then P f (Some x) each = each x refl

-- a signature: a pointer to functions, of types
abbrev IsPlacedSig : Tables → Tree → Type 0
IsPlacedSig t (node (head.FnPtr b n q) ts) = RowIsPlaced t is_type_sort ts
IsPlacedSig t u = ⊥

placed-callable_sig : (t : Tables) (s : Tree) → IsPlacedSig t s → Holds (IsPlacedSig t) (callable_sig s)
placed-callable_sig t (node (head.FnPtr b n true) ts) e = e
placed-callable_sig t s e = tt

placed-pointer_under : (t : Tables) (args : List Tree) → ArePlaced t args → (b n : ℕ) (q : Bool) (ts : Trees) → IsPlaced t (node (head.FnPtr b n q) ts) →
    IsPlacedSig t (under args (node (head.FnPtr b n q) ts))
unfolding folded folded_node erased IsPlaced takes
placed-pointer_under t args all b n q ts e =
    let whole : IsPlaced t (under args (node (head.FnPtr b n q) ts)) = (placed-under t args all (node (head.FnPtr b n q) ts) e).1 in
    whole.1

placed-sig_under : (t : Tables) (args : List Tree) → ArePlaced t args → (s : FnSig) → IsPlaced t (tree_of_sig s) → IsPlacedSig t (under args (tree_of_sig s))
placed-sig_under t args all s e =
    subst (λ u. IsPlacedSig t (under args u)) (sym (tree_of_sig-record s))
    (placed-pointer_under t args all s.bound_regions (length s.inputs.items) s.fn_traits (forest (map tree_of_ty s.inputs.items ++ tree_of_ty s.output ∷ []))
    (subst (IsPlaced t) (tree_of_sig-record s) e))

-- the signature by which a type is called
placed-kept_sig : (t : Tables) (b : Bool) (u : Tree) → IsPlacedSig t u → Holds (IsPlacedSig t) (if b then Some u else None)
placed-kept_sig t true u e = e
placed-kept_sig t false u e = tt

placed-signature_of_head : (t : Tables) → IsChecked t → (l : LangItem) (h : Head) (ts : List Tree) → Each (IsPlacedIn t (takes h)) ts →
    Holds (IsPlacedSig t) (signature_of_head t l h ts)
unfolding signature_of_head takes
placed-signature_of_head t ok l (head.FnDef f n) ts all =
    holds-and_then (IsPlacedSig t) (λ r. callable_sig (under ts (tree_of_sig r.sig))) (function_of t f)
    (λ r e. placed-callable_sig t (under ts (tree_of_sig r.sig)) (placed-sig_under t ts all r.sig (placed-function t ok f r e)))
placed-signature_of_head t ok l (head.FnPtr b n q) ts all =
    placed-callable_sig t (node (head.FnPtr b n q) (forest ts)) (placed-forest t is_type_sort ts all)
placed-signature_of_head t ok l (head.Closure c n) ts all =
    holds-and_then (IsPlacedSig t) (closure_sig l ts) (closure_of t c)
    (λ r e. placed-kept_sig t (is_callable_by r.kind l) (under ts (tree_of_sig r.sig)) (placed-sig_under t ts all r.sig (placed-closure t ok c r e)))
placed-signature_of_head t ok l h ts all = tt

placed-signature_of : (t : Tables) → IsChecked t → (l : LangItem) (s : Tree) → IsPlaced t s → Holds (IsPlacedSig t) (signature_of t l s)
unfolding IsPlaced
placed-signature_of t ok l (node h ts) e = placed-signature_of_head t ok l h (list_of ts) (placed-list t (takes h) ts e.1)
placed-signature_of t ok l (alias k ts) e = tt
placed-signature_of t ok l (variable v) e = tt

-- its output
type-sort : (s : Sort) → is_type_sort s ≡ true → s ≡ sorts.Ty
type-sort sorts.Ty e = refl
type-sort sorts.Const e = absurd (false≢true e)
type-sort sorts.Lifetime e = absurd (false≢true e)
type-sort sorts.Clause e = absurd (false≢true e)

types-list : (t : Tables) (ts : Trees) → RowIsPlaced t is_type_sort ts → Each (IsPlacedType t) (list_of ts)
unfolding IsPlaced Each
types-list t none e = tt
types-list t (more u us) e = ((type-sort (sort_at u) e.0.0, e.0.1), types-list t us e.1)

placed-output_of : (t : Tables) (s : Tree) → IsPlacedSig t s → Holds (IsPlacedType t) (output_of s)
placed-output_of t (node (head.FnPtr b n q) ts) e = placed-last (IsPlacedType t) (list_of ts) (types-list t ts e)
placed-output_of t s e = absurd e

placed-listed_output : (t : Tables) (args : List Tree) (sig : Tree) (o : Option Tree) → Holds (IsPlacedType t) o → (sized : Option TraitId) →
    IsPlacedListed t false (listed_output args sig o sized)
placed-listed_output t args sig None e sized = tt
placed-listed_output t args sig (Some u) e None = tt
placed-listed_output t args sig (Some u) e (Some i) = e

placed-output_rule : (t : Tables) (args : List Tree) (o : Option Tree) → Holds (IsPlacedSig t) o → IsPlacedListed t false (output_rule t args o)
placed-output_rule t args None e = tt
placed-output_rule t args (Some sig) e = placed-listed_output t args sig (output_of sig) (placed-output_of t sig e) (lang_trait_of t lang.Sized)

-- the metadata of a type
placed-metadata_of : (t : Tables) (item : ItemId) → AliasIsPlaced t (ProjectionTy item) → (o : Option Tree) → Holds (IsPlacedArgument t) o → IsPlacedType t (metadata_of item o)
unfolding IsPlaced EndsAsSaid Each
placed-metadata_of t item own None e = (refl, (tt, tt))
placed-metadata_of t item own (Some ty) e = (refl, placed-alias t (ProjectionTy item) (ty ∷ []) own (e, tt))

types-arguments : (t : Tables) (o : Option Tree) → Holds (IsPlacedType t) o → Holds (IsPlacedArgument t) o
types-arguments t None e = tt
types-arguments t (Some u) e = placed-type t u e

placed-adt_metadata : (t : Tables) (item : ItemId) → AliasIsPlaced t (ProjectionTy item) → (args : List Tree) → ArePlaced t args → (k : AdtKind) (r : AdtRow) →
    HoldsPlacedTy t r.tail → IsPlacedType t (adt_metadata item args k r)
unfolding IsPlaced EndsAsSaid
placed-adt_metadata t item own args all adt.Struct r e =
    placed-metadata_of t item own (option_map (λ ty. under args (tree_of_ty ty)) r.tail)
    (types-arguments t (option_map (λ ty. under args (tree_of_ty ty)) r.tail) (placed-under_option t args all r.tail e))
placed-adt_metadata t item own args all adt.Enum r e = (refl, (tt, tt))
placed-adt_metadata t item own args all adt.Union r e = (refl, (tt, tt))

placed-dyn_metadata : (t : Tables) (self : Tree) → IsPlacedArgument t self → (a : AdtId) → IsPlacedType t (dyn_metadata self a)
unfolding IsPlaced EndsAsSaid takes Each
placed-dyn_metadata t self e a = (refl, (tt, placed-forest t is_argument_sort (self ∷ []) (e, tt)))

placed-by_size : (t : Tables) (o : Option TraitId) → IsPlacedListed t false (listed_by_size_of o)
placed-by_size t None = tt
placed-by_size t (Some i) = refl

placed-object : (t : Tables) (h : Head) (ts : List Tree) → EndsAsSaid t h (forest ts) → Each (IsPlacedIn t (takes h)) ts → IsPlaced t (node h (forest ts))
unfolding IsPlaced
placed-object t h ts e all = (e, placed-forest t (takes h) ts all)

placed-metadata_of_head : (t : Tables) → IsChecked t → (item : ItemId) → AliasIsPlaced t (ProjectionTy item) → (h : Head) (ts : List Tree) → Each (IsPlacedIn t (takes h)) ts →
    IsPlacedListed t false (metadata_of_head t item h ts)
unfolding metadata_of_head IsPlaced EndsAsSaid takes
placed-metadata_of_head t ok item own (head.Dynamic n r) ts all =
    placed-listed_term t (option_map (dyn_metadata (node (head.Dynamic n r) (forest ts))) (lang_adt_of t lang.DynMetadata))
    (holds-map (IsPlacedType t) (dyn_metadata (node (head.Dynamic n r) (forest ts))) (lang_adt_of t lang.DynMetadata)
    (λ a e. placed-dyn_metadata t (node (head.Dynamic n r) (forest ts)) (refl, placed-object t (head.Dynamic n r) ts tt all) a))
placed-metadata_of_head t ok item own (head.Adt a n) ts all =
    placed-listed_term t (option_map (λ r. adt_metadata item ts r.kind r) (adt_of t a))
    (holds-map (IsPlacedType t) (λ r. adt_metadata item ts r.kind r) (adt_of t a) (λ r e. placed-adt_metadata t item own ts all r.kind r (placed-tail t ok a r e)))
placed-metadata_of_head t ok item own (head.Tuple n) ts all = placed-metadata_of t item own (last_of ts) (placed-last (IsPlacedArgument t) ts all)
placed-metadata_of_head t ok item own (head.TyParam n) ts all = placed-by_size t (lang_trait_of t lang.Sized)
placed-metadata_of_head t ok item own (head.TyPlaceholder n) ts all = placed-by_size t (lang_trait_of t lang.Sized)
placed-metadata_of_head t ok item own h ts all = (refl, (tt, tt))

placed-metadata_rule : (t : Tables) → IsChecked t → (item : ItemId) → AliasIsPlaced t (ProjectionTy item) → (s : Tree) → IsPlaced t s → IsPlacedListed t false (metadata_rule t item s)
unfolding IsPlaced EndsAsSaid
placed-metadata_rule t ok item own (node h ts) e = placed-metadata_of_head t ok item own h (list_of ts) (placed-list t (takes h) ts e.1)
placed-metadata_rule t ok item own (alias k ts) e = placed-by_size t (lang_trait_of t lang.Sized)
placed-metadata_rule t ok item own (variable v) e = (refl, (tt, tt))

-- the discriminant of a type
placed-discriminant_of_head : (t : Tables) → IsChecked t → (h : Head) (ts : List Tree) → Each (IsPlacedIn t (takes h)) ts → IsPlacedListed t false (discriminant_of_head t h ts)
unfolding discriminant_of_head IsPlaced EndsAsSaid takes
placed-discriminant_of_head t ok (head.TyParam n) ts all = tt
placed-discriminant_of_head t ok (head.TyPlaceholder n) ts all = tt
placed-discriminant_of_head t ok (head.Adt a n) ts all =
    placed-listed_term t (option_map (λ r. under ts (tree_of_ty r.discriminant)) (adt_of t a))
    (holds-map (IsPlacedType t) (λ r. under ts (tree_of_ty r.discriminant)) (adt_of t a)
    (λ r e. placed-under_as t ts all sorts.Ty (tree_of_ty r.discriminant) (placed-discriminant t ok a r e)))
placed-discriminant_of_head t ok h ts all = (refl, (tt, tt))

placed-discriminant_rule : (t : Tables) → IsChecked t → (s : Tree) → IsPlaced t s → IsPlacedListed t false (discriminant_rule t s)
unfolding IsPlaced EndsAsSaid
placed-discriminant_rule t ok (node h ts) e = placed-discriminant_of_head t ok h (list_of ts) (placed-list t (takes h) ts e.1)
placed-discriminant_rule t ok (alias k ts) e = tt
placed-discriminant_rule t ok (variable v) e = (refl, (tt, tt))

-- the types of a field
placed-field_base : (t : Tables) (args : List Tree) → ArePlaced t args → (o : Option FieldInfo) → HoldsPlacedField t o →
    Holds (IsPlacedType t) (option_map (λ f. under args (tree_of_ty f.base)) o)
placed-field_base t args all None e = tt
placed-field_base t args all (Some f) e = placed-under_as t args all sorts.Ty (tree_of_ty f.base) e.0

placed-field_ty : (t : Tables) (args : List Tree) → ArePlaced t args → (o : Option FieldInfo) → HoldsPlacedField t o →
    Holds (IsPlacedType t) (option_map (λ f. under args (tree_of_ty f.ty)) o)
placed-field_ty t args all None e = tt
placed-field_ty t args all (Some f) e = placed-under_as t args all sorts.Ty (tree_of_ty f.ty) e.1

placed-of_adt : (t : Tables) (pick : List Tree × AdtRow → Option Tree) (ts : List Tree) (o : Option AdtRow) →
    ((r : AdtRow) → o ≡ Some r → Holds (IsPlacedType t) (pick (ts, r))) → Holds (IsPlacedType t) (option_and_then pick (option_map (λ r. (ts, r)) o))
placed-of_adt t pick ts None each = tt
placed-of_adt t pick ts (Some r) each = each r refl

placed-base_of : (t : Tables) → IsChecked t → (s : Tree) → IsPlaced t s → Holds (IsPlacedType t) (option_and_then field_base (field_of t s))
unfolding IsPlaced takes
placed-base_of t ok (node (head.Adt a n) ts) e =
    placed-of_adt t field_base (list_of ts) (adt_of t a)
    (λ r x. placed-field_base t (list_of ts) (placed-list t is_argument_sort ts e.1) r.field_info (placed-field t ok a r x))
placed-base_of t ok s e = tt

placed-field_of : (t : Tables) → IsChecked t → (s : Tree) → IsPlaced t s → Holds (IsPlacedType t) (option_and_then field_ty (field_of t s))
unfolding IsPlaced takes
placed-field_of t ok (node (head.Adt a n) ts) e =
    placed-of_adt t field_ty (list_of ts) (adt_of t a)
    (λ r x. placed-field_ty t (list_of ts) (placed-list t is_argument_sort ts e.1) r.field_info (placed-field t ok a r x))
placed-field_of t ok s e = tt

-- what the rule of a lang item lists
placed-lang_term : (t : Tables) → IsChecked t → (item : ItemId) → AliasIsPlaced t (ProjectionTy item) → (l : LangItem) (self : Tree) (args : List Tree) → IsPlaced t self →
    IsPlacedListed t false (lang_term t item l self args)
unfolding lang_term
placed-lang_term t ok item own lang.Output self args e = placed-output_rule t args (signature_of t lang.FnOnce self) (placed-signature_of t ok lang.FnOnce self e)
placed-lang_term t ok item own lang.Metadata self args e = placed-metadata_rule t ok item own self e
placed-lang_term t ok item own lang.Discriminant self args e = placed-discriminant_rule t ok self e
placed-lang_term t ok item own lang.Base self args e = placed-listed_term t (option_and_then field_base (field_of t self)) (placed-base_of t ok self e)
placed-lang_term t ok item own lang.FieldType self args e = placed-listed_term t (option_and_then field_ty (field_of t self)) (placed-field_of t ok self e)
placed-lang_term t ok item own l self args e = tt

placed-term_of_lang : (t : Tables) → IsChecked t → (item : ItemId) (r : ItemRow) → item_of t item ≡ Some r → (self : Tree) (args : List Tree) (o : Option LangItem) →
    lang_of_item t item ≡ o → IsPlaced t self → IsPlacedListed t r.is_const (term_of_lang t item self args o)
placed-term_of_lang t ok item r row self args None named e = tt
placed-term_of_lang t ok item r row self args (Some l) named e =
    let type : r.is_const ≡ false = lang_is_type t ok item r row l named in
    subst (λ b. IsPlacedListed t b (lang_term t item l self args)) (sym type)
    (placed-lang_term t ok item (projection_is_placed t item r row type) l self args e)

-- what built-in rules list for given arguments
pub placed-term_rule : (t : Tables) → IsChecked t → (item : ItemId) (r : ItemRow) → item_of t item ≡ Some r → (args : List Tree) → ArePlaced t args →
    IsPlacedListed t r.is_const (term_rule t item args)
unfolding term_rule Each
placed-term_rule t ok item r row [] all = tt
placed-term_rule t ok item r row (self ∷ args) all = placed-term_of_lang t ok item r row self args (lang_of_item t item) refl all.0.1
