-- Lists of entries: what they stand for, when they are made of few entries or of further ones.
use Rattle.std.proofs.Common.{◌≡◌, true, List, [], ◌∷◌, ◌++◌, length, map, Option, Some, None, refl, sym, ap, ap₂, ◌∙◌, subst, append_assoc, append-nil, arith}
use Rattle.std.specs.Option.{option_map}
use Rattle.std.specs.Prelude.{if◌then◌else◌}
use Rattle.std.proofs.lemmas.List.{map_push, map-append}
use Rattle.std.proofs.lemmas.List.Elements.{All-cons, All-nil, All-push, All-append}
use Rattle.goal_terms.specs.Tree.{Tree}
use Rattle.goal_terms.specs.PredicateTrees.{holds_const}
use Rattle.goal_terms.specs.declared.answers.GoalSource.{GoalSource}
use Rattle.goal_terms.specs.declared.modes.TypingMode.{TypingMode}
use Rattle.goal_terms.specs.declared.predicates.BoundConstness.{BoundConstness}
use Rattle.goal_tables.specs.declared.rows.ImplRow.{ImplRow}
use Rattle.goal_lists.specs.EffectLists.{effect_impl_list}
use Rattle.goal_lists.specs.Entries.{Entry, clause, row_conditions, premise_entry, premise_entries}
use Rattle.goal_lists.specs.Interned.{premise_at, trait_at, erased_all}
use Rattle.goal_lists.specs.InternedEntries.{entry_at, EntryIn, entries_at, EntriesIn}
use Rattle.goal_lists.specs.Premises.{predicate, conditions_as}
use Rattle.goal_lists.specs.TraitLists.{impl_match, list_by_polarity}
use Rattle.goal_lists.specs.declared.lists.InternedEntry.{InternedEntry}
use Rattle.goal_lists.specs.declared.candidates.interned.InternedPremise.{InternedPremise}
use Rattle.goal_lists.specs.declared.candidates.interned.InternedTrait.{InternedTrait}
use Rattle.goal_lists.proofs.EachRuleLemmas.{mapped-twice}

-- a list of one entry, and of two
pub one-in : (T : List Tree) (es : List InternedEntry) (a : InternedEntry) → es ≡ a ∷ [] → EntryIn T a → EntriesIn T es
one-in T es a made h = subst (EntriesIn T) (sym made) (All-cons (EntryIn T) a [] h (All-nil (EntryIn T)))

pub two-at : (T : List Tree) (es : List InternedEntry) (a b : InternedEntry) (x y : Entry) → es ≡ a ∷ b ∷ [] → entry_at T a ≡ x → entry_at T b ≡ y →
    entries_at T es ≡ x ∷ y ∷ []
two-at T es a b x y made e f = ap (entries_at T) made ∙ ap₂ (λ u v. u ∷ v ∷ []) e f

pub two-in : (T : List Tree) (es : List InternedEntry) (a b : InternedEntry) → es ≡ a ∷ b ∷ [] → EntryIn T a → EntryIn T b → EntriesIn T es
two-in T es a b made h k = subst (EntriesIn T) (sym made) (All-cons (EntryIn T) a (b ∷ []) h (All-cons (EntryIn T) b [] k (All-nil (EntryIn T))))

-- one more entry
pub pushed-at : (T : List Tree) (es fs : List InternedEntry) (a : InternedEntry) (xs : List Entry) (x : Entry) → es ≡ fs ++ a ∷ [] →
    entries_at T fs ≡ xs → entry_at T a ≡ x → entries_at T es ≡ xs ++ x ∷ []
pushed-at T es fs a xs x made so one = ap (entries_at T) made ∙ map_push (entry_at T) fs a ∙ ap₂ (λ us u. us ++ u ∷ []) so one

pub pushed-in : (T : List Tree) (es fs : List InternedEntry) (a : InternedEntry) → es ≡ fs ++ a ∷ [] → EntriesIn T fs → EntryIn T a → EntriesIn T es
pushed-in T es fs a made h here = subst (EntriesIn T) (sym made) (All-push (EntryIn T) fs a h here)

-- further entries behind a list
pub joined-at : (T : List Tree) (es fs gs : List InternedEntry) (xs ys : List Entry) → es ≡ fs ++ gs →
    entries_at T fs ≡ xs → entries_at T gs ≡ ys → entries_at T es ≡ xs ++ ys
joined-at T es fs gs xs ys made so more = ap (entries_at T) made ∙ map-append (entry_at T) fs gs ∙ ap₂ (λ us vs. us ++ vs) so more

pub joined-in : (T : List Tree) (es fs gs : List InternedEntry) → es ≡ fs ++ gs → EntriesIn T fs → EntriesIn T gs → EntriesIn T es
joined-in T es fs gs made h k = subst (EntriesIn T) (sym made) (All-append (EntryIn T) fs gs h k)

-- the next premise comes, and then none is left
pub next-premise : (T : List Tree) (g : GoalSource) (es fs : List InternedEntry) (a : InternedEntry) (p : InternedPremise) (rest left : List InternedPremise) (all : List Entry) →
    es ≡ fs ++ a ∷ [] → left ≡ p ∷ rest → entry_at T a ≡ premise_entry g (premise_at T p) →
    entries_at T fs ++ premise_entries g (map (premise_at T) left) ≡ all → entries_at T es ++ premise_entries g (map (premise_at T) rest) ≡ all
next-premise T g es fs a p rest left all made next here so =
    ap (λ us. us ++ premise_entries g (map (premise_at T) rest)) (pushed-at T es fs a (entries_at T fs) (premise_entry g (premise_at T p)) made refl here)
    ∙ append_assoc (entries_at T fs) (premise_entry g (premise_at T p) ∷ []) (premise_entries g (map (premise_at T) rest))
    ∙ ap (λ ps. entries_at T fs ++ premise_entries g (map (premise_at T) ps)) (sym next)
    ∙ so

pub no_premise-left : (T : List Tree) (g : GoalSource) (es : List InternedEntry) (left : List InternedPremise) (all : List Entry) → left ≡ [] →
    entries_at T es ++ premise_entries g (map (premise_at T) left) ≡ all → entries_at T es ≡ all
no_premise-left T g es left all none so =
    sym (append-nil (entries_at T es)) ∙ ap (λ ps. entries_at T es ++ premise_entries g (map (premise_at T) ps)) (sym none) ∙ so

-- a list without elements
pub nothing-left : {A : Type 0} (xs : List A) → length xs ≡ 0 → xs ≡ []
nothing-left [] e = refl
nothing-left (x ∷ xs) e = absurd (omega arith)

-- const conditions, all of them
pub conditions-all : (T : List Tree) (g : GoalSource) (c : BoundConstness) (rs : List InternedTrait) →
    map (λ r. clause g (holds_const c r.def_id (erased_all T r.args.items))) rs ≡ premise_entries g (conditions_as c (map (trait_at T) rs))
conditions-all T g c rs =
    mapped-twice (trait_at T) (λ t. clause g (holds_const c t.def_id t.args)) rs
    ∙ mapped-twice (λ t. predicate (holds_const c t.def_id t.args)) (premise_entry g) (map (trait_at T) rs)

-- the list of a rule that is there
pub rule-list : {A B : Type 0} (f : A → B) (g h : B → List Entry) (o : Option A) (a : A) (r : Option B) (es : List Entry) → o ≡ Some a →
    option_map f o ≡ r → g ≡ h → es ≡ g (f a) → Some es ≡ option_map h r
rule-list f g h o a r es is rule same made =
    ap Some made ∙ ap (λ x. option_map g (option_map f x)) (sym is) ∙ ap₂ (λ k x. option_map k x) same rule

-- the list of a const impl
pub const_impl-list : (m : TypingMode) (c : BoundConstness) (args : List Tree) (r : ImplRow) (o : Option (List Entry)) (es : List Entry) → r.is_const ≡ true →
    es ≡ impl_match r args (row_conditions c r.const_conditions.items 0 ∷ []) → o ≡ list_by_polarity m r.polarity es → o ≡ effect_impl_list m c args r
const_impl-list m c args r o es is made by =
    by ∙ ap (list_by_polarity m r.polarity) made
    ∙ ap (λ b. if b then list_by_polarity m r.polarity (impl_match r args (row_conditions c r.const_conditions.items 0 ∷ [])) else None) (sym is)
