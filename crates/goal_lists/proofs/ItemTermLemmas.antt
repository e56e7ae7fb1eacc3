-- What the built-in rules of items say, by what stands at the top of the self type.
use Rattle.std.proofs.Common.{◌≡◌, ◌⊎◌, inl, inr, ℕ, List, [], ◌∷◌, ◌++◌, map, Option, Some, None, refl, sym, ap, ◌∙◌, subst}
use Rattle.std.specs.List.{All}
use Rattle.std.specs.Borrow.{Bor}
use Rattle.std.specs.Option.{option_map, option_and_then, option_copied}
use Rattle.std.proofs.lemmas.List.Elements.{All-weaker}
use Rattle.goal_terms.specs.Erased.{erased, erased_head}
use Rattle.goal_terms.specs.Sorts.{Are, IsSort, IsArgument, is_argument_sort}
use Rattle.goal_interner.specs.TableMeaning.{tree_at}
use Rattle.goal_terms.specs.Tree.{Tree, Trees, node, alias, variable, forest, list_of, node_of, parts_of}
use Rattle.goal_terms.specs.TreeCode.{forest-list_of}
use Rattle.goal_terms.specs.TreeOf.{leaf, tree_of_ty}
use Rattle.goal_terms.specs.declared.heads.Head.{Head}
use Rattle.goal_terms.specs.declared.heads.Head.TheVariants as head
use Rattle.goal_terms.specs.declared.heads.Node.TheVariants as nodes
use Rattle.goal_terms.specs.declared.heads.Variable.{Variable}
use Rattle.goal_terms.specs.declared.ids.AdtId.{AdtId}
use Rattle.goal_terms.specs.declared.ids.ItemId.{ItemId}
use Rattle.goal_terms.specs.declared.sorts.Sort.TheVariants as sorts
use Rattle.goal_interner.specs.declared.term_nodes.TermId.{TermId}
use Rattle.goal_terms.specs.declared.terms.AliasTermKind.{AliasTermKind}
use Rattle.goal_terms.specs.declared.terms.AliasTermKind.TheVariants.{ProjectionTy}
use Rattle.goal_tables.specs.Rows.{adt_of, lang_trait_of, lang_adt_of}
use Rattle.goal_terms.specs.declared.lang.LangItem.TheVariants as lang
use Rattle.goal_tables.specs.declared.rows.AdtRow.{AdtRow}
use Rattle.goal_tables.specs.declared.rows.FieldInfo.{FieldInfo}
use Rattle.goal_tables.specs.declared.rows.Tables.{Tables}
use Rattle.goal_lists.specs.Builtins.{listed, listed_rigid, listed_term, listed_by_size_of, unit_ty, usize_ty, u8_ty, metadata_of, adt_metadata, dyn_metadata, metadata_of_head, metadata_rule, discriminant_of_head, discriminant_rule, field_of}
use Rattle.goal_lists.specs.Candidates.{last_of}
use Rattle.goal_lists.specs.Headers.{under}
use Rattle.goal_lists.specs.Interned.{erased_at, listed_at}
use Rattle.goal_lists.specs.Tops.{adt_at}
use Rattle.goal_lists.specs.declared.candidates.interned.ListedTerm.{ListedTerm}

-- the parts of a constructor, without lifetimes, make the term again
made-again : (h : Head) (ts : Trees) → node (erased_head h) (forest (parts_of (erased (node h ts)))) ≡ erased (node h ts)
unfolding erased
made-again h ts = ap (node (erased_head h)) (forest-list_of _)

-- the parts of a term are arguments where all are types
pub types-arguments : (n : ℕ) (ts : List Tree) → Are (IsSort sorts.Ty) n ts → All IsArgument ts
types-arguments n ts are = All-weaker (IsSort sorts.Ty) IsArgument (λ t e. ap is_argument_sort e) ts are.1

-- the metadata of a type with a constructor
pub metadata-of_head : (t : Tables) (item : ItemId) (u : Tree) (h : Head) → node_of u ≡ nodes.Head h →
    metadata_of_head t item (erased_head h) (parts_of (erased u)) ≡ metadata_rule t item (erased u)
unfolding erased
metadata-of_head t item (node k ts) h e = let p : k ≡ h = cc in ap (λ x. metadata_of_head t item (erased_head x) (parts_of (erased (node k ts)))) (sym p)
metadata-of_head t item (alias k ts) h e = absurd (cc)
metadata-of_head t item (variable v) h e = absurd (cc)

pub metadata-pointer : (t : Tables) (item : ItemId) (u : Tree) (h : Head) → node_of u ≡ nodes.Head h → (h ≡ head.Str) ⊎ (h ≡ head.Slice) →
    listed [] usize_ty ≡ metadata_rule t item (erased u)
unfolding metadata_of_head
metadata-pointer t item u h top (inl e) = ap (λ k. metadata_of_head t item (erased_head k) (parts_of (erased u))) (sym e) ∙ metadata-of_head t item u h top
metadata-pointer t item u h top (inr e) = ap (λ k. metadata_of_head t item (erased_head k) (parts_of (erased u))) (sym e) ∙ metadata-of_head t item u h top

pub metadata-error : (t : Tables) (item : ItemId) (u : Tree) (h : Head) (n : ℕ) → node_of u ≡ nodes.Head h → h ≡ head.TyError n →
    listed [] (leaf (head.TyError n)) ≡ metadata_rule t item (erased u)
unfolding metadata_of_head
metadata-error t item u h n top e = ap (λ k. metadata_of_head t item (erased_head k) (parts_of (erased u))) (sym e) ∙ metadata-of_head t item u h top

pub metadata-dyn : (t : Tables) (item : ItemId) (u : Tree) → (h : Head) (n : ℕ) (r : _) → node_of u ≡ nodes.Head h → h ≡ head.Dynamic n r →
    listed_term (option_map (dyn_metadata (erased u)) (lang_adt_of t lang.DynMetadata)) ≡ metadata_rule t item (erased u)
unfolding metadata_of_head erased
metadata-dyn t item (node k ts) h n r top e =
    let p : k ≡ head.Dynamic n r = cc in
    subst (λ x. listed_term (option_map (dyn_metadata (erased (node x ts))) (lang_adt_of t lang.DynMetadata)) ≡ metadata_rule t item (erased (node x ts))) (sym p)
    (ap (λ x. listed_term (option_map (dyn_metadata x) (lang_adt_of t lang.DynMetadata))) (sym (made-again (head.Dynamic n r) ts)))
metadata-dyn t item (alias k ts) h n r top e = absurd (cc)
metadata-dyn t item (variable v) h n r top e = absurd (cc)

pub metadata-adt : (t : Tables) (item : ItemId) (u : Tree) (h : Head) (a : AdtId) (n : ℕ) → node_of u ≡ nodes.Head h → h ≡ head.Adt a n →
    listed_term (option_map (λ r. adt_metadata item (parts_of (erased u)) r.kind r) (adt_of t a)) ≡ metadata_rule t item (erased u)
unfolding metadata_of_head
metadata-adt t item u h a n top e = ap (λ k. metadata_of_head t item (erased_head k) (parts_of (erased u))) (sym e) ∙ metadata-of_head t item u h top

pub metadata-tuple : (t : Tables) (item : ItemId) (u : Tree) (h : Head) (n : ℕ) → node_of u ≡ nodes.Head h → h ≡ head.Tuple n →
    listed [] (metadata_of item (last_of (parts_of (erased u)))) ≡ metadata_rule t item (erased u)
unfolding metadata_of_head
metadata-tuple t item u h n top e = ap (λ k. metadata_of_head t item (erased_head k) (parts_of (erased u))) (sym e) ∙ metadata-of_head t item u h top

pub metadata-parameter : (t : Tables) (item : ItemId) (u : Tree) (h : Head) → node_of u ≡ nodes.Head h →
    ((n : ℕ) × (h ≡ head.TyParam n)) ⊎ ((n : ℕ) × (h ≡ head.TyPlaceholder n)) →
    listed_by_size_of (lang_trait_of t lang.Sized) ≡ metadata_rule t item (erased u)
unfolding metadata_of_head
metadata-parameter t item u h top (inl (n, e)) = ap (λ k. metadata_of_head t item (erased_head k) (parts_of (erased u))) (sym e) ∙ metadata-of_head t item u h top
metadata-parameter t item u h top (inr (n, e)) = ap (λ k. metadata_of_head t item (erased_head k) (parts_of (erased u))) (sym e) ∙ metadata-of_head t item u h top

other_metadata : (t : Tables) (item : ItemId) (h : Head) (ts : List Tree) → (h ≡ head.Str → ⊥) → (h ≡ head.Slice → ⊥) → ((n : ℕ) → h ≡ head.TyError n → ⊥) →
    ((n : ℕ) (r : _) → h ≡ head.Dynamic n r → ⊥) → ((a : AdtId) (n : ℕ) → h ≡ head.Adt a n → ⊥) → ((n : ℕ) → h ≡ head.Tuple n → ⊥) →
    ((n : ℕ) → h ≡ head.TyParam n → ⊥) → ((n : ℕ) → h ≡ head.TyPlaceholder n → ⊥) → listed [] unit_ty ≡ metadata_of_head t item (erased_head h) ts
unfolding metadata_of_head
other_metadata t item head.Str ts no_str no_slice no_error no_dyn no_adt no_tuple no_param no_placeholder = absurd (no_str refl)
other_metadata t item head.Slice ts no_str no_slice no_error no_dyn no_adt no_tuple no_param no_placeholder = absurd (no_slice refl)
other_metadata t item (head.TyError n) ts no_str no_slice no_error no_dyn no_adt no_tuple no_param no_placeholder = absurd (no_error n refl)
other_metadata t item (head.Dynamic n r) ts no_str no_slice no_error no_dyn no_adt no_tuple no_param no_placeholder = absurd (no_dyn n r refl)
other_metadata t item (head.Adt a n) ts no_str no_slice no_error no_dyn no_adt no_tuple no_param no_placeholder = absurd (no_adt a n refl)
other_metadata t item (head.Tuple n) ts no_str no_slice no_error no_dyn no_adt no_tuple no_param no_placeholder = absurd (no_tuple n refl)
other_metadata t item (head.TyParam n) ts no_str no_slice no_error no_dyn no_adt no_tuple no_param no_placeholder = absurd (no_param n refl)
other_metadata t item (head.TyPlaceholder n) ts no_str no_slice no_error no_dyn no_adt no_tuple no_param no_placeholder = absurd (no_placeholder n refl)
other_metadata t item h ts no_str no_slice no_error no_dyn no_adt no_tuple no_param no_placeholder = refl

pub metadata-other : (t : Tables) (item : ItemId) (u : Tree) (h : Head) → node_of u ≡ nodes.Head h →
    (h ≡ head.Str → ⊥) → (h ≡ head.Slice → ⊥) → ((n : ℕ) → h ≡ head.TyError n → ⊥) →
    ((n : ℕ) (r : _) → h ≡ head.Dynamic n r → ⊥) → ((a : AdtId) (n : ℕ) → h ≡ head.Adt a n → ⊥) → ((n : ℕ) → h ≡ head.Tuple n → ⊥) →
    ((n : ℕ) → h ≡ head.TyParam n → ⊥) → ((n : ℕ) → h ≡ head.TyPlaceholder n → ⊥) → listed [] unit_ty ≡ metadata_rule t item (erased u)
metadata-other t item u h top no_str no_slice no_error no_dyn no_adt no_tuple no_param no_placeholder =
    other_metadata t item h (parts_of (erased u)) no_str no_slice no_error no_dyn no_adt no_tuple no_param no_placeholder ∙ metadata-of_head t item u h top

pub metadata-alias : (t : Tables) (item : ItemId) (u : Tree) (k : AliasTermKind) → nodes.Alias k ≡ node_of u →
    listed_by_size_of (lang_trait_of t lang.Sized) ≡ metadata_rule t item (erased u)
unfolding erased
metadata-alias t item (node h ts) k e = absurd (cc)
metadata-alias t item (alias j ts) k e = refl
metadata-alias t item (variable v) k e = absurd (cc)

pub metadata-variable : (t : Tables) (item : ItemId) (u : Tree) (v : Variable) → nodes.Variable v ≡ node_of u →
    listed [] unit_ty ≡ metadata_rule t item (erased u)
unfolding erased
metadata-variable t item (node h ts) v e = absurd (cc)
metadata-variable t item (alias k ts) v e = absurd (cc)
metadata-variable t item (variable w) v e = refl

-- a list of one number
one_number : (args items : List TermId) (id : TermId) → items ≡ [] → args ≡ items ++ id ∷ [] → args ≡ id ∷ []
one_number args items id e f = f ∙ ap (λ xs. xs ++ id ∷ []) e

-- the metadata of another type, made
pub metadata-made : (T U : List Tree) (item : ItemId) (o : Option TermId) (ty id : TermId) (args items : List TermId) → o ≡ Some ty → items ≡ [] → args ≡ items ++ ty ∷ [] →
    tree_at U id ≡ alias (ProjectionTy item) (forest (map (tree_at T) args)) → erased_at U id ≡ metadata_of item (option_map (erased_at T) o)
unfolding erased
metadata-made T U item o ty id args items e none_yet pushed made =
    ap erased (made ∙ ap (λ xs. alias (ProjectionTy item) (forest (map (tree_at T) xs))) (one_number args items ty none_yet pushed))
    ∙ ap (λ x. metadata_of item (option_map (erased_at T) x)) (sym e)

-- that of a `dyn` type, made
pub dyn_metadata-made : (T U : List Tree) (o : Option AdtId) (self id : TermId) (a : AdtId) (args items : List TermId) (l : ListedTerm) → Some a ≡ o → items ≡ [] →
    args ≡ items ++ self ∷ [] → tree_at U id ≡ node (head.Adt a 1) (forest (map (tree_at T) args)) → listed_at U l ≡ listed [] (erased_at U id) →
    listed_at U l ≡ listed_term (option_map (dyn_metadata (erased_at T self)) o)
unfolding erased
dyn_metadata-made T U o self id a args items l e none_yet pushed made says =
    says ∙ ap (λ x. listed [] (erased x)) (made ∙ ap (λ xs. node (head.Adt a 1) (forest (map (tree_at T) xs))) (one_number args items self none_yet pushed))
    ∙ ap (λ x. listed_term (option_map (dyn_metadata (erased_at T self)) x)) e

-- the discriminant of a type with a constructor
discriminant-of_head : (t : Tables) (u : Tree) (h : Head) → node_of u ≡ nodes.Head h →
    discriminant_of_head t (erased_head h) (parts_of (erased u)) ≡ discriminant_rule t (erased u)
unfolding erased
discriminant-of_head t (node k ts) h e = let p : k ≡ h = cc in ap (λ x. discriminant_of_head t (erased_head x) (parts_of (erased (node k ts)))) (sym p)
discriminant-of_head t (alias k ts) h e = absurd (cc)
discriminant-of_head t (variable v) h e = absurd (cc)

pub discriminant-parameter : (t : Tables) (u : Tree) (h : Head) → node_of u ≡ nodes.Head h →
    ((n : ℕ) × (h ≡ head.TyParam n)) ⊎ ((n : ℕ) × (h ≡ head.TyPlaceholder n)) → listed_rigid ≡ discriminant_rule t (erased u)
unfolding discriminant_of_head
discriminant-parameter t u h top (inl (n, e)) = ap (λ k. discriminant_of_head t (erased_head k) (parts_of (erased u))) (sym e) ∙ discriminant-of_head t u h top
discriminant-parameter t u h top (inr (n, e)) = ap (λ k. discriminant_of_head t (erased_head k) (parts_of (erased u))) (sym e) ∙ discriminant-of_head t u h top

pub discriminant-adt : (t : Tables) (u : Tree) (h : Head) (a : AdtId) (n : ℕ) → node_of u ≡ nodes.Head h → h ≡ head.Adt a n →
    listed_term (option_map (λ r. under (parts_of (erased u)) (tree_of_ty r.discriminant)) (adt_of t a)) ≡ discriminant_rule t (erased u)
unfolding discriminant_of_head
discriminant-adt t u h a n top e = ap (λ k. discriminant_of_head t (erased_head k) (parts_of (erased u))) (sym e) ∙ discriminant-of_head t u h top

other_discriminant : (t : Tables) (h : Head) (ts : List Tree) → ((n : ℕ) → h ≡ head.TyParam n → ⊥) → ((n : ℕ) → h ≡ head.TyPlaceholder n → ⊥) →
    ((a : AdtId) (n : ℕ) → h ≡ head.Adt a n → ⊥) → listed [] u8_ty ≡ discriminant_of_head t (erased_head h) ts
unfolding discriminant_of_head
other_discriminant t (head.TyParam n) ts no_param no_placeholder no_adt = absurd (no_param n refl)
other_discriminant t (head.TyPlaceholder n) ts no_param no_placeholder no_adt = absurd (no_placeholder n refl)
other_discriminant t (head.Adt a n) ts no_param no_placeholder no_adt = absurd (no_adt a n refl)
other_discriminant t (head.Ref r m) ts no_param no_placeholder no_adt = refl
other_discriminant t (head.FnPtr b n q) ts no_param no_placeholder no_adt = refl
other_discriminant t (head.Dynamic n r) ts no_param no_placeholder no_adt = refl
other_discriminant t (head.Lifetime r) ts no_param no_placeholder no_adt = refl
other_discriminant t h ts no_param no_placeholder no_adt = refl

pub discriminant-other : (t : Tables) (u : Tree) (h : Head) → node_of u ≡ nodes.Head h → ((n : ℕ) → h ≡ head.TyParam n → ⊥) → ((n : ℕ) → h ≡ head.TyPlaceholder n → ⊥) →
    ((a : AdtId) (n : ℕ) → h ≡ head.Adt a n → ⊥) → listed [] u8_ty ≡ discriminant_rule t (erased u)
discriminant-other t u h top no_param no_placeholder no_adt =
    other_discriminant t h (parts_of (erased u)) no_param no_placeholder no_adt ∙ discriminant-of_head t u h top

pub discriminant-alias : (t : Tables) (u : Tree) (k : AliasTermKind) → nodes.Alias k ≡ node_of u → listed_rigid ≡ discriminant_rule t (erased u)
unfolding erased
discriminant-alias t (node h ts) k e = absurd (cc)
discriminant-alias t (alias j ts) k e = refl
discriminant-alias t (variable v) k e = absurd (cc)

pub discriminant-variable : (t : Tables) (u : Tree) (v : Variable) → nodes.Variable v ≡ node_of u → listed [] u8_ty ≡ discriminant_rule t (erased u)
unfolding erased
discriminant-variable t (node h ts) v e = absurd (cc)
discriminant-variable t (alias k ts) v e = absurd (cc)
discriminant-variable t (variable w) v e = refl

-- the ADT of a type, without lifetimes
adt_of_head-erased : (h : Head) → adt_at (nodes.Head (erased_head h)) ≡ adt_at (nodes.Head h)
adt_of_head-erased (head.Ref r m) = refl
adt_of_head-erased (head.FnPtr b n q) = refl
adt_of_head-erased (head.Dynamic n r) = refl
adt_of_head-erased (head.Lifetime r) = refl
adt_of_head-erased h = refl

-- a type with field information, by its ADT
field-of_head : (t : Tables) (h : Head) (ts : Trees) →
    field_of t (node h ts) ≡ option_and_then (λ a. option_map (λ r. (list_of ts, r)) (adt_of t a)) (adt_at (nodes.Head h))
field-of_head t (head.Adt a n) ts = refl
field-of_head t h ts = refl

field-of_top : (t : Tables) (u : Tree) →
    field_of t (erased u) ≡ option_and_then (λ a. option_map (λ r. (parts_of (erased u), r)) (adt_of t a)) (adt_at (node_of u))
unfolding erased
field-of_top t (node h ts) =
    field-of_head t (erased_head h) _ ∙ ap (option_and_then (λ a. option_map (λ r. (parts_of (erased (node h ts)), r)) (adt_of t a))) (adt_of_head-erased h)
field-of_top t (alias k ts) = refl
field-of_top t (variable v) = refl

-- what it says
pub field-none : {A : Type 0} (t : Tables) (u : Tree) (o : Option AdtId) (g : List Tree → FieldInfo → A) → o ≡ adt_at (node_of u) → o ≡ None →
    option_and_then (λ p. option_map (g p.0) p.1.field_info) (field_of t (erased u)) ≡ None
field-none t u o g top e =
    ap (option_and_then (λ p. option_map (g p.0) p.1.field_info)) (field-of_top t u ∙ ap (option_and_then (λ a. option_map (λ r. (parts_of (erased u), r)) (adt_of t a))) (sym top ∙ e))

pub field-row : {A : Type 0} (t : Tables) (u : Tree) (a : AdtId) (o : Option AdtRow) (g : List Tree → FieldInfo → A) → Some a ≡ adt_at (node_of u) → o ≡ adt_of t a →
    option_and_then (λ p. option_map (g p.0) p.1.field_info) (field_of t (erased u)) ≡ option_and_then (λ r. option_map (g (parts_of (erased u))) r.field_info) o
field-row t u a None g top e =
    ap (option_and_then (λ p. option_map (g p.0) p.1.field_info)) (field-of_top t u ∙ ap (option_and_then (λ x. option_map (λ r. (parts_of (erased u), r)) (adt_of t x))) (sym top) ∙ ap (option_map (λ r. (parts_of (erased u), r))) (sym e))
field-row t u a (Some r) g top e =
    ap (option_and_then (λ p. option_map (g p.0) p.1.field_info)) (field-of_top t u ∙ ap (option_and_then (λ x. option_map (λ r. (parts_of (erased u), r)) (adt_of t x))) (sym top) ∙ ap (option_map (λ r. (parts_of (erased u), r))) (sym e))

-- what is made of a borrowed value
pub copied-map : {A B : Type 0} (f : A → B) (o : Option (Bor A)) → option_map f (option_copied o) ≡ option_map (λ x. f x.now) o
copied-map f None = refl
copied-map f (Some x) = refl
