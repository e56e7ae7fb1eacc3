-- The terms that built-in rules list hold no inference variable, if the given arguments hold none and the tables are accepted.
use Rattle.std.proofs.Common.{◌≡◌, true, List, [], ◌∷◌, Option, Some, None, refl}
use Rattle.std.specs.Option.{option_map, option_and_then}
use Rattle.goal_terms.specs.NodeTests.{some_node}
use Rattle.goal_terms.specs.Tree.{Tree, node, alias, variable, list_of, forest}
use Rattle.goal_terms.specs.TreeOf.{tree_of_ty, tree_of_sig}
use Rattle.goal_terms.specs.declared.heads.Head.{Head}
use Rattle.goal_terms.specs.declared.heads.Head.TheVariants as head
use Rattle.goal_terms.specs.declared.ids.AdtId.{AdtId}
use Rattle.goal_terms.specs.declared.ids.ItemId.{ItemId}
use Rattle.goal_terms.specs.declared.ids.TraitId.{TraitId}
use Rattle.goal_terms.specs.declared.terms.Ty.{Ty}
use Rattle.goal_tables.specs.Faults.{IsChecked}
use Rattle.goal_tables.specs.Rows.{adt_of, function_of, closure_of, lang_trait_of, lang_adt_of}
use Rattle.goal_terms.specs.declared.lang.LangItem.{LangItem}
use Rattle.goal_terms.specs.declared.lang.LangItem.TheVariants as lang
use Rattle.goal_tables.specs.declared.rows.AdtKind.{AdtKind}
use Rattle.goal_tables.specs.declared.rows.AdtKind.TheVariants as adt
use Rattle.goal_tables.specs.declared.rows.AdtRow.{AdtRow}
use Rattle.goal_tables.specs.declared.rows.ClosureRow.{ClosureRow}
use Rattle.goal_tables.specs.declared.rows.FieldInfo.{FieldInfo}
use Rattle.goal_tables.specs.declared.rows.Tables.{Tables}
use Rattle.goal_lists.specs.Builtins.{callable_sig, is_callable_by, closure_sig, signature_of_head, signature_of, output_of, field_of, Listed, nothing_listed, listed, listed_rigid, listed_by_size, listed_term, metadata_of, adt_metadata, dyn_metadata, listed_by_size_of, metadata_of_head, metadata_rule, discriminant_of_head, discriminant_rule, listed_output, output_rule, field_base, field_ty, lang_term, term_of_lang, lang_of_item, term_rule}
use Rattle.goal_lists.specs.Candidates.{last_of}
use Rattle.goal_lists.specs.Headers.{under}
use Rattle.goal_lists.specs.Words.{Each}
use Rattle.goal_kinds.proofs.ClosedRows.{HoldsClosedTy, HoldsClosedField, closed-tail, closed-discriminant, closed-field, closed-function, closed-closure}
use Rattle.goal_kinds.proofs.ClosedTerms.{IsClosedTree, AreClosedTrees, HoldsClosedTree, closed-list, closed-forest, closed-last, closed-map, closed-and_then, closed-kept, closed-under}

-- what is listed holds no inference variable
abbrev pub IsClosedListed : Listed → Type 0
IsClosedListed nothing_listed = Unit {0}
IsClosedListed (listed ps v) = IsClosedTree v
IsClosedListed listed_rigid = Unit {0}
IsClosedListed (listed_by_size i) = Unit {0}

closed-listed_term : (o : Option Tree) → HoldsClosedTree o → IsClosedListed (listed_term o)
closed-listed_term None e = tt
closed-listed_term (Some u) e = e

-- a type that may be there, under arguments
closed-under_option : (args : List Tree) → AreClosedTrees args → (o : Option Ty) → HoldsClosedTy o → HoldsClosedTree (option_map (λ ty. under args (tree_of_ty ty)) o)
closed-under_option args all None e = tt
closed-under_option args all (Some ty) e = closed-under args all (tree_of_ty ty) e

-- the signature by which a type is called
closed-callable_sig : (s : Tree) → IsClosedTree s → HoldsClosedTree (callable_sig s)
closed-callable_sig (node (head.FnPtr b n true) ts) e = e
closed-callable_sig s e = tt

closed-closure_sig : (l : LangItem) (args : List Tree) → AreClosedTrees args → (r : ClosureRow) → IsClosedTree (tree_of_sig r.sig) → HoldsClosedTree (closure_sig l args r)
closed-closure_sig l args all r e = closed-kept (is_callable_by r.kind l) (under args (tree_of_sig r.sig)) (closed-under args all (tree_of_sig r.sig) e)

closed-signature_of_head : (t : Tables) → IsChecked t → (l : LangItem) (h : Head) (ts : List Tree) → AreClosedTrees ts → HoldsClosedTree (signature_of_head t l h ts)
unfolding signature_of_head some_node
closed-signature_of_head t ok l (head.FnDef f n) ts all =
    closed-and_then (λ r. callable_sig (under ts (tree_of_sig r.sig))) (function_of t f)
    (λ r e. closed-callable_sig (under ts (tree_of_sig r.sig)) (closed-under ts all (tree_of_sig r.sig) (closed-function t ok f r e)))
closed-signature_of_head t ok l (head.FnPtr b n q) ts all =
    closed-callable_sig (node (head.FnPtr b n q) (forest ts)) (closed-forest ts all)
closed-signature_of_head t ok l (head.Closure c n) ts all =
    closed-and_then (closure_sig l ts) (closure_of t c) (λ r e. closed-closure_sig l ts all r (closed-closure t ok c r e))
closed-signature_of_head t ok l h ts all = tt

closed-signature_of : (t : Tables) → IsChecked t → (l : LangItem) (s : Tree) → IsClosedTree s → HoldsClosedTree (signature_of t l s)
unfolding some_node
closed-signature_of t ok l (node h ts) e = closed-signature_of_head t ok l h (list_of ts) (closed-list ts e)
closed-signature_of t ok l (alias k ts) e = tt
closed-signature_of t ok l (variable v) e = tt

-- its output
closed-output_of : (s : Tree) → IsClosedTree s → HoldsClosedTree (output_of s)
unfolding some_node
closed-output_of (node h ts) e = closed-last (list_of ts) (closed-list ts e)
closed-output_of (alias k ts) e = tt
closed-output_of (variable v) e = tt

closed-listed_output : (args : List Tree) (sig : Tree) (o : Option Tree) → HoldsClosedTree o → (sized : Option TraitId) → IsClosedListed (listed_output args sig o sized)
closed-listed_output args sig None e sized = tt
closed-listed_output args sig (Some u) e None = tt
closed-listed_output args sig (Some u) e (Some i) = e

closed-output_rule : (t : Tables) (args : List Tree) (o : Option Tree) → HoldsClosedTree o → IsClosedListed (output_rule t args o)
closed-output_rule t args None e = tt
closed-output_rule t args (Some sig) e = closed-listed_output args sig (output_of sig) (closed-output_of sig e) (lang_trait_of t lang.Sized)

-- the metadata of a type
closed-metadata_of : (item : ItemId) (o : Option Tree) → HoldsClosedTree o → IsClosedTree (metadata_of item o)
unfolding some_node Each
closed-metadata_of item None e = refl
closed-metadata_of item (Some ty) e = closed-forest (ty ∷ []) (e, tt)

closed-adt_metadata : (item : ItemId) (args : List Tree) → AreClosedTrees args → (k : AdtKind) (r : AdtRow) → HoldsClosedTy r.tail → IsClosedTree (adt_metadata item args k r)
unfolding some_node
closed-adt_metadata item args all adt.Struct r e = closed-metadata_of item (option_map (λ ty. under args (tree_of_ty ty)) r.tail) (closed-under_option args all r.tail e)
closed-adt_metadata item args all adt.Enum r e = refl
closed-adt_metadata item args all adt.Union r e = refl

closed-dyn_metadata : (self : Tree) → IsClosedTree self → (a : AdtId) → IsClosedTree (dyn_metadata self a)
unfolding some_node Each
closed-dyn_metadata self e a = closed-forest (self ∷ []) (e, tt)

closed-by_size : (o : Option TraitId) → IsClosedListed (listed_by_size_of o)
closed-by_size None = tt
closed-by_size (Some i) = tt

closed-metadata_of_head : (t : Tables) → IsChecked t → (item : ItemId) (h : Head) (ts : List Tree) → AreClosedTrees ts → IsClosedListed (metadata_of_head t item h ts)
unfolding metadata_of_head some_node
closed-metadata_of_head t ok item (head.Dynamic n r) ts all =
    closed-listed_term (option_map (dyn_metadata (node (head.Dynamic n r) (forest ts))) (lang_adt_of t lang.DynMetadata))
    (closed-map (dyn_metadata (node (head.Dynamic n r) (forest ts))) (lang_adt_of t lang.DynMetadata)
    (λ a e. closed-dyn_metadata (node (head.Dynamic n r) (forest ts)) (closed-forest ts all) a))
closed-metadata_of_head t ok item (head.Adt a n) ts all =
    closed-listed_term (option_map (λ r. adt_metadata item ts r.kind r) (adt_of t a))
    (closed-map (λ r. adt_metadata item ts r.kind r) (adt_of t a) (λ r e. closed-adt_metadata item ts all r.kind r (closed-tail t ok a r e)))
closed-metadata_of_head t ok item (head.Tuple n) ts all = closed-metadata_of item (last_of ts) (closed-last ts all)
closed-metadata_of_head t ok item (head.TyParam n) ts all = closed-by_size (lang_trait_of t lang.Sized)
closed-metadata_of_head t ok item (head.TyPlaceholder n) ts all = closed-by_size (lang_trait_of t lang.Sized)
closed-metadata_of_head t ok item h ts all = refl

closed-metadata_rule : (t : Tables) → IsChecked t → (item : ItemId) (s : Tree) → IsClosedTree s → IsClosedListed (metadata_rule t item s)
unfolding some_node
closed-metadata_rule t ok item (node h ts) e = closed-metadata_of_head t ok item h (list_of ts) (closed-list ts e)
closed-metadata_rule t ok item (alias k ts) e = closed-by_size (lang_trait_of t lang.Sized)
closed-metadata_rule t ok item (variable v) e = refl

-- the discriminant of a type
closed-discriminant_of_head : (t : Tables) → IsChecked t → (h : Head) (ts : List Tree) → AreClosedTrees ts → IsClosedListed (discriminant_of_head t h ts)
unfolding discriminant_of_head some_node
closed-discriminant_of_head t ok (head.TyParam n) ts all = tt
closed-discriminant_of_head t ok (head.TyPlaceholder n) ts all = tt
closed-discriminant_of_head t ok (head.Adt a n) ts all =
    closed-listed_term (option_map (λ r. under ts (tree_of_ty r.discriminant)) (adt_of t a))
    (closed-map (λ r. under ts (tree_of_ty r.discriminant)) (adt_of t a) (λ r e. closed-under ts all (tree_of_ty r.discriminant) (closed-discriminant t ok a r e)))
closed-discriminant_of_head t ok h ts all = refl

closed-discriminant_rule : (t : Tables) → IsChecked t → (s : Tree) → IsClosedTree s → IsClosedListed (discriminant_rule t s)
unfolding some_node
closed-discriminant_rule t ok (node h ts) e = closed-discriminant_of_head t ok h (list_of ts) (closed-list ts e)
closed-discriminant_rule t ok (alias k ts) e = tt
closed-discriminant_rule t ok (variable v) e = refl

-- the types of a field
closed-field_base : (args : List Tree) → AreClosedTrees args → (o : Option FieldInfo) → HoldsClosedField o → HoldsClosedTree (option_map (λ f. under args (tree_of_ty f.base)) o)
closed-field_base args all None e = tt
closed-field_base args all (Some f) e = closed-under args all (tree_of_ty f.base) e.0

closed-field_ty : (args : List Tree) → AreClosedTrees args → (o : Option FieldInfo) → HoldsClosedField o → HoldsClosedTree (option_map (λ f. under args (tree_of_ty f.ty)) o)
closed-field_ty args all None e = tt
closed-field_ty args all (Some f) e = closed-under args all (tree_of_ty f.ty) e.1

closed-of_adt : (pick : List Tree × AdtRow → Option Tree) (ts : List Tree) (o : Option AdtRow) → ((r : AdtRow) → o ≡ Some r → HoldsClosedTree (pick (ts, r))) →
    HoldsClosedTree (option_and_then pick (option_map (λ r. (ts, r)) o))
closed-of_adt pick ts None each = tt
closed-of_adt pick ts (Some r) each = each r refl

closed-base_of : (t : Tables) → IsChecked t → (s : Tree) → IsClosedTree s → HoldsClosedTree (option_and_then field_base (field_of t s))
unfolding some_node
closed-base_of t ok (node (head.Adt a n) ts) e =
    closed-of_adt field_base (list_of ts) (adt_of t a) (λ r x. closed-field_base (list_of ts) (closed-list ts e) r.field_info (closed-field t ok a r x))
closed-base_of t ok s e = tt

closed-field_of : (t : Tables) → IsChecked t → (s : Tree) → IsClosedTree s → HoldsClosedTree (option_and_then field_ty (field_of t s))
unfolding some_node
closed-field_of t ok (node (head.Adt a n) ts) e =
    closed-of_adt field_ty (list_of ts) (adt_of t a) (λ r x. closed-field_ty (list_of ts) (closed-list ts e) r.field_info (closed-field t ok a r x))
closed-field_of t ok s e = tt

-- what the rule of a lang item lists
closed-lang_term : (t : Tables) → IsChecked t → (item : ItemId) (l : LangItem) (self : Tree) (args : List Tree) → IsClosedTree self → IsClosedListed (lang_term t item l self args)
unfolding lang_term
closed-lang_term t ok item lang.Output self args e = closed-output_rule t args (signature_of t lang.FnOnce self) (closed-signature_of t ok lang.FnOnce self e)
closed-lang_term t ok item lang.Metadata self args e = closed-metadata_rule t ok item self e
closed-lang_term t ok item lang.Discriminant self args e = closed-discriminant_rule t ok self e
closed-lang_term t ok item lang.Base self args e = closed-listed_term (option_and_then field_base (field_of t self)) (closed-base_of t ok self e)
closed-lang_term t ok item lang.FieldType self args e = closed-listed_term (option_and_then field_ty (field_of t self)) (closed-field_of t ok self e)
closed-lang_term t ok item l self args e = tt

closed-term_of_lang : (t : Tables) → IsChecked t → (item : ItemId) (self : Tree) (args : List Tree) (o : Option LangItem) → IsClosedTree self →
    IsClosedListed (term_of_lang t item self args o)
closed-term_of_lang t ok item self args None e = tt
closed-term_of_lang t ok item self args (Some l) e = closed-lang_term t ok item l self args e

-- what built-in rules list for given arguments
pub closed-term_rule : (t : Tables) → IsChecked t → (item : ItemId) (args : List Tree) → AreClosedTrees args → IsClosedListed (term_rule t item args)
unfolding term_rule Each
closed-term_rule t ok item [] all = tt
closed-term_rule t ok item (self ∷ args) all = closed-term_of_lang t ok item self args (lang_of_item t item) all.0
