-- What doesn't look at the impls of tables is the same over tables with other impls.
use Rattle.std.proofs.Common.{◌≡◌, Bool, true, false, cond, List, [], ◌∷◌, Option, Some, None, Vec, Global, refl, ap, ◌∙◌}
use Rattle.std.specs.Option.{option_map, option_and_then}
use Rattle.goal_terms.specs.Tree.{Tree, node, alias, variable, list_of}
use Rattle.goal_terms.specs.declared.heads.Head.{Head}
use Rattle.goal_terms.specs.declared.heads.Head.TheVariants as head
use Rattle.goal_terms.specs.declared.ids.ItemId.{ItemId}
use Rattle.goal_terms.specs.declared.ids.TraitId.{TraitId}
use Rattle.goal_terms.specs.declared.terms.AliasTermKind.{AliasTermKind}
use Rattle.goal_terms.specs.declared.terms.AliasTermKind.TheVariants.{ProjectionTy, OpaqueTy}
use Rattle.goal_tables.specs.Rows.{trait_of, lang_trait_of}
use Rattle.goal_terms.specs.declared.lang.LangItem.{LangItem}
use Rattle.goal_terms.specs.declared.lang.LangItem.TheVariants as lang
use Rattle.goal_tables.specs.declared.rows.ImplRow.{ImplRow}
use Rattle.goal_tables.specs.declared.rows.Tables.{Tables}
use Rattle.goal_tables.specs.declared.rows.TraitRow.{TraitRow}
use Rattle.goal_lists.specs.Builtins.{sized_of_head, sized_rule, copied_parts_of_head, copied_parts, signature_of_head, signature_of, output_of, call_premises, call_rule, each_is, field_of, field_base, field_ty, listed_term, lang_rule, lang_of_trait, alias_or_lang_rule, trait_rule, metadata_of_head, metadata_rule, discriminant_of_head, discriminant_rule, output_rule, lang_term, lang_of_item, term_of_lang, term_rule}
use Rattle.goal_lists.specs.Candidates.{bounds_of_alias, bounds_of}
use Rattle.goal_lists.specs.ConstRules.{each_const, const_call_of_head, const_call_rule, destruct_of_head, destruct_rule, lang_const_rule, alias_or_lang_const_rule, const_rule}
use Rattle.goal_lists.specs.Premises.{Premise}

-- tables with other rows of impls
abbrev pub with_impls : Tables → Vec ImplRow Global → Tables
with_impls t v = record t { impls = v }

-- the bounds of an alias
other_impls-bounds_of_alias : (t : Tables) (v : Vec ImplRow Global) (k : AliasTermKind) (args : List Tree) (self : Tree) →
    bounds_of_alias (with_impls t v) k args self ≡ bounds_of_alias t k args self
unfolding bounds_of_alias
other_impls-bounds_of_alias t v (ProjectionTy i) args self = refl
other_impls-bounds_of_alias t v (OpaqueTy i) args self = refl
other_impls-bounds_of_alias t v _ args self = refl

pub other_impls-bounds_of : (t : Tables) (v : Vec ImplRow Global) (self : Tree) → bounds_of (with_impls t v) self ≡ bounds_of t self
unfolding bounds_of
other_impls-bounds_of t v (node h ts) = refl
other_impls-bounds_of t v (alias k ts) = other_impls-bounds_of_alias t v k (list_of ts) (alias k ts)
other_impls-bounds_of t v (variable x) = refl

-- the rule for `Sized`
other_impls-sized_of_head : (t : Tables) (v : Vec ImplRow Global) (i : TraitId) (h : Head) (ts : List Tree) →
    sized_of_head (with_impls t v) i h ts ≡ sized_of_head t i h ts
unfolding sized_of_head
other_impls-sized_of_head t v i (head.Adt a n) ts = refl
other_impls-sized_of_head t v i _ ts = refl

other_impls-sized_rule : (t : Tables) (v : Vec ImplRow Global) (i : TraitId) (self : Tree) → sized_rule (with_impls t v) i self ≡ sized_rule t i self
other_impls-sized_rule t v i (node h ts) = other_impls-sized_of_head t v i h (list_of ts)
other_impls-sized_rule t v i (alias k ts) = refl
other_impls-sized_rule t v i (variable x) = refl

-- the types that must be `Copy` with a type
other_impls-copied_parts_of_head : (t : Tables) (v : Vec ImplRow Global) (h : Head) (ts : List Tree) →
    copied_parts_of_head (with_impls t v) h ts ≡ copied_parts_of_head t h ts
unfolding copied_parts_of_head
other_impls-copied_parts_of_head t v (head.Closure c n) ts = refl
other_impls-copied_parts_of_head t v _ ts = refl

other_impls-copied_parts : (t : Tables) (v : Vec ImplRow Global) (self : Tree) → copied_parts (with_impls t v) self ≡ copied_parts t self
other_impls-copied_parts t v (node h ts) = other_impls-copied_parts_of_head t v h (list_of ts)
other_impls-copied_parts t v (alias k ts) = refl
other_impls-copied_parts t v (variable x) = refl

-- the signature by which a type is called
other_impls-signature_of_head : (t : Tables) (v : Vec ImplRow Global) (l : LangItem) (h : Head) (ts : List Tree) →
    signature_of_head (with_impls t v) l h ts ≡ signature_of_head t l h ts
unfolding signature_of_head
other_impls-signature_of_head t v l (head.FnDef f n) ts = refl
other_impls-signature_of_head t v l (head.Closure c n) ts = refl
other_impls-signature_of_head t v l _ ts = refl

other_impls-signature_of : (t : Tables) (v : Vec ImplRow Global) (l : LangItem) (self : Tree) → signature_of (with_impls t v) l self ≡ signature_of t l self
other_impls-signature_of t v l (node h ts) = other_impls-signature_of_head t v l h (list_of ts)
other_impls-signature_of t v l (alias k ts) = refl
other_impls-signature_of t v l (variable x) = refl

-- the premises of a call by a signature
abbrev call_by : Tables → Tree → List Tree → Option Tree → Option (List Premise)
call_by t self args signature =
    option_and_then (λ sig. option_and_then (λ output. option_map (λ sized. call_premises sized sig args output) (lang_trait_of t lang.Sized)) (output_of sig)) signature

other_impls-call_rule : (t : Tables) (v : Vec ImplRow Global) (l : LangItem) (self : Tree) (args : List Tree) →
    call_rule (with_impls t v) l self args ≡ call_rule t l self args
unfolding call_rule
other_impls-call_rule t v l self args = ap (call_by t self args) (other_impls-signature_of t v l self)

-- the row of an ADT
other_impls-field_of : (t : Tables) (v : Vec ImplRow Global) (self : Tree) → field_of (with_impls t v) self ≡ field_of t self
other_impls-field_of t v (node (head.Adt a n) ts) = refl
other_impls-field_of t v _ = refl

-- the rule of a lang trait
other_impls-lang_rule : (t : Tables) (v : Vec ImplRow Global) (i : TraitId) (l : LangItem) (self : Tree) (args : List Tree) →
    lang_rule (with_impls t v) i l self args ≡ lang_rule t i l self args
unfolding lang_rule
other_impls-lang_rule t v i lang.Sized self args = other_impls-sized_rule t v i self
other_impls-lang_rule t v i lang.Copy self args = ap (option_map (each_is i)) (other_impls-copied_parts t v self)
other_impls-lang_rule t v i lang.Clone self args = ap (option_map (each_is i)) (other_impls-copied_parts t v self)
other_impls-lang_rule t v i lang.Fn self args = other_impls-call_rule t v lang.Fn self args
other_impls-lang_rule t v i lang.FnMut self args = other_impls-call_rule t v lang.FnMut self args
other_impls-lang_rule t v i lang.FnOnce self args = other_impls-call_rule t v lang.FnOnce self args
other_impls-lang_rule t v i lang.Field self args = ap (option_and_then (λ p. option_map (λ f. []) p.1.field_info)) (other_impls-field_of t v self)
other_impls-lang_rule t v i _ self args = refl

-- of a missing lang item nothing is said, and of one that is there the same
under_lang : {A : Type 0} {f g : LangItem → Option A} → ((l : LangItem) → f l ≡ g l) → (o : Option LangItem) → option_and_then f o ≡ option_and_then g o
under_lang e None = refl
under_lang e (Some l) = e l

-- by a test, one of two results
by_test : {A : Type 0} (b : Bool) (x : A) {y z : A} → y ≡ z → cond b x y ≡ cond b x z
by_test true x e = refl
by_test false x e = e

other_impls-alias_or_lang_rule : (t : Tables) (v : Vec ImplRow Global) (i : TraitId) (self : Tree) (args : List Tree) (o : Option TraitRow) →
    alias_or_lang_rule (with_impls t v) i self args o ≡ alias_or_lang_rule t i self args o
other_impls-alias_or_lang_rule t v i self args None = refl
other_impls-alias_or_lang_rule t v i self args (Some r) =
    by_test r.is_alias _ (under_lang (λ l. other_impls-lang_rule t v i l self args) (lang_of_trait t i))

-- the rule of a trait
pub other_impls-trait_rule : (t : Tables) (v : Vec ImplRow Global) (i : TraitId) (args : List Tree) → trait_rule (with_impls t v) i args ≡ trait_rule t i args
unfolding trait_rule
other_impls-trait_rule t v i [] = refl
other_impls-trait_rule t v i (self ∷ args) = other_impls-alias_or_lang_rule t v i self args (trait_of t i)

-- the rule of a const call
other_impls-const_call_of_head : (t : Tables) (v : Vec ImplRow Global) (l : LangItem) (h : Head) (ts args : List Tree) →
    const_call_of_head (with_impls t v) l h ts args ≡ const_call_of_head t l h ts args
unfolding const_call_of_head
other_impls-const_call_of_head t v l (head.FnDef f n) ts args = refl
other_impls-const_call_of_head t v l (head.Closure c n) ts args = refl
other_impls-const_call_of_head t v l _ ts args = refl

other_impls-const_call_rule : (t : Tables) (v : Vec ImplRow Global) (l : LangItem) (self : Tree) (args : List Tree) →
    const_call_rule (with_impls t v) l self args ≡ const_call_rule t l self args
other_impls-const_call_rule t v l (node h ts) args = other_impls-const_call_of_head t v l h (list_of ts) args
other_impls-const_call_rule t v l (alias k ts) args = refl
other_impls-const_call_rule t v l (variable x) args = refl

-- the rule for a const `Destruct`
other_impls-destruct_of_head : (t : Tables) (v : Vec ImplRow Global) (i : TraitId) (h : Head) (ts : List Tree) →
    destruct_of_head (with_impls t v) i h ts ≡ destruct_of_head t i h ts
unfolding destruct_of_head
other_impls-destruct_of_head t v i (head.Closure c n) ts = refl
other_impls-destruct_of_head t v i (head.Adt a n) ts = refl
other_impls-destruct_of_head t v i _ ts = refl

other_impls-destruct_rule : (t : Tables) (v : Vec ImplRow Global) (i : TraitId) (self : Tree) → destruct_rule (with_impls t v) i self ≡ destruct_rule t i self
other_impls-destruct_rule t v i (node h ts) = other_impls-destruct_of_head t v i h (list_of ts)
other_impls-destruct_rule t v i (alias k ts) = refl
other_impls-destruct_rule t v i (variable x) = refl

-- the rule of a lang trait that may be const
other_impls-lang_const_rule : (t : Tables) (v : Vec ImplRow Global) (i : TraitId) (l : LangItem) (self : Tree) (args : List Tree) →
    lang_const_rule (with_impls t v) i l self args ≡ lang_const_rule t i l self args
unfolding lang_const_rule
other_impls-lang_const_rule t v i lang.Copy self args = ap (option_map (each_const i)) (other_impls-copied_parts t v self)
other_impls-lang_const_rule t v i lang.Clone self args = ap (option_map (each_const i)) (other_impls-copied_parts t v self)
other_impls-lang_const_rule t v i lang.Fn self args = other_impls-const_call_rule t v lang.Fn self args
other_impls-lang_const_rule t v i lang.FnMut self args = other_impls-const_call_rule t v lang.FnMut self args
other_impls-lang_const_rule t v i lang.FnOnce self args = other_impls-const_call_rule t v lang.FnOnce self args
other_impls-lang_const_rule t v i lang.Destruct self args = other_impls-destruct_rule t v i self
other_impls-lang_const_rule t v i _ self args = refl

other_impls-alias_or_lang_const_rule : (t : Tables) (v : Vec ImplRow Global) (i : TraitId) (self : Tree) (args : List Tree) (o : Option TraitRow) →
    alias_or_lang_const_rule (with_impls t v) i self args o ≡ alias_or_lang_const_rule t i self args o
other_impls-alias_or_lang_const_rule t v i self args None = refl
other_impls-alias_or_lang_const_rule t v i self args (Some r) =
    by_test r.is_alias _ (under_lang (λ l. other_impls-lang_const_rule t v i l self args) (lang_of_trait t i))

-- the rule of a const trait
pub other_impls-const_rule : (t : Tables) (v : Vec ImplRow Global) (i : TraitId) (args : List Tree) → const_rule (with_impls t v) i args ≡ const_rule t i args
unfolding const_rule
other_impls-const_rule t v i [] = refl
other_impls-const_rule t v i (self ∷ args) = other_impls-alias_or_lang_const_rule t v i self args (trait_of t i)

-- the metadata of a type
other_impls-metadata_of_head : (t : Tables) (v : Vec ImplRow Global) (i : ItemId) (h : Head) (ts : List Tree) →
    metadata_of_head (with_impls t v) i h ts ≡ metadata_of_head t i h ts
unfolding metadata_of_head
other_impls-metadata_of_head t v i (head.Dynamic n r) ts = refl
other_impls-metadata_of_head t v i (head.Adt a n) ts = refl
other_impls-metadata_of_head t v i (head.TyParam n) ts = refl
other_impls-metadata_of_head t v i (head.TyPlaceholder n) ts = refl
other_impls-metadata_of_head t v i _ ts = refl

other_impls-metadata_rule : (t : Tables) (v : Vec ImplRow Global) (i : ItemId) (self : Tree) → metadata_rule (with_impls t v) i self ≡ metadata_rule t i self
other_impls-metadata_rule t v i (node h ts) = other_impls-metadata_of_head t v i h (list_of ts)
other_impls-metadata_rule t v i (alias k ts) = refl
other_impls-metadata_rule t v i (variable x) = refl

-- the discriminant of a type
other_impls-discriminant_of_head : (t : Tables) (v : Vec ImplRow Global) (h : Head) (ts : List Tree) →
    discriminant_of_head (with_impls t v) h ts ≡ discriminant_of_head t h ts
unfolding discriminant_of_head
other_impls-discriminant_of_head t v (head.Adt a n) ts = refl
other_impls-discriminant_of_head t v _ ts = refl

other_impls-discriminant_rule : (t : Tables) (v : Vec ImplRow Global) (self : Tree) → discriminant_rule (with_impls t v) self ≡ discriminant_rule t self
other_impls-discriminant_rule t v (node h ts) = other_impls-discriminant_of_head t v h (list_of ts)
other_impls-discriminant_rule t v (alias k ts) = refl
other_impls-discriminant_rule t v (variable x) = refl

-- the output of a call by a signature
other_impls-output_rule : (t : Tables) (v : Vec ImplRow Global) (args : List Tree) (o : Option Tree) → output_rule (with_impls t v) args o ≡ output_rule t args o
other_impls-output_rule t v args None = refl
other_impls-output_rule t v args (Some sig) = refl

-- the term of a lang item
other_impls-lang_term : (t : Tables) (v : Vec ImplRow Global) (i : ItemId) (l : LangItem) (self : Tree) (args : List Tree) →
    lang_term (with_impls t v) i l self args ≡ lang_term t i l self args
unfolding lang_term
other_impls-lang_term t v i lang.Output self args =
    other_impls-output_rule t v args (signature_of (with_impls t v) lang.FnOnce self) ∙ ap (output_rule t args) (other_impls-signature_of t v lang.FnOnce self)
other_impls-lang_term t v i lang.Metadata self args = other_impls-metadata_rule t v i self
other_impls-lang_term t v i lang.Discriminant self args = other_impls-discriminant_rule t v self
other_impls-lang_term t v i lang.Base self args = ap (λ o. listed_term (option_and_then field_base o)) (other_impls-field_of t v self)
other_impls-lang_term t v i lang.FieldType self args = ap (λ o. listed_term (option_and_then field_ty o)) (other_impls-field_of t v self)
other_impls-lang_term t v i _ self args = refl

other_impls-term_of_lang : (t : Tables) (v : Vec ImplRow Global) (i : ItemId) (self : Tree) (args : List Tree) (o : Option LangItem) →
    term_of_lang (with_impls t v) i self args o ≡ term_of_lang t i self args o
other_impls-term_of_lang t v i self args None = refl
other_impls-term_of_lang t v i self args (Some l) = other_impls-lang_term t v i l self args

-- what built-in rules say of an item's term
pub other_impls-term_rule : (t : Tables) (v : Vec ImplRow Global) (i : ItemId) (args : List Tree) → term_rule (with_impls t v) i args ≡ term_rule t i args
unfolding term_rule
other_impls-term_rule t v i [] = refl
other_impls-term_rule t v i (self ∷ args) = other_impls-term_of_lang t v i self args (lang_of_item t i)
