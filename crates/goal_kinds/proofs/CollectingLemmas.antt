-- Lists of rules that are collected from candidates.
use Rattle.std.proofs.Common.{◌≡◌, ◌==◌, ◌&&◌, inl, inr, ℕ, ◌+◌, ◌<◌, ◌≤◌, Bool, true, false, if◌then◌else◌, Some, List, [], ◌∷◌, ◌++◌, length, map, filter, take, get_or, refl, sym, ap, subst, append_assoc, append-nil, arith, ◌∙◌}
use Rattle.std.specs.Prelude.{slice_get, if◌then◌else◌}
use Rattle.std.proofs.lemmas.Bool.{false≢true}
use Rattle.std.proofs.lemmas.Bool.Decides.{eqb_tells}
use Rattle.std.proofs.lemmas.List.{take_all}
use Rattle.std.specs.List.{All}
use Rattle.std.proofs.lemmas.List.Elements.{All-get_or, All-weaker, filter_passes}
use Rattle.std.proofs.lemmas.Option.{get_or_from_slice_get}
use Rattle.goal_terms.specs.Erased.{compared_node}
use Rattle.goal_terms.specs.declared.compare.Regions.TheVariants.{Forgotten}
use Rattle.goal_terms.specs.declared.heads.Node.{Node}
use Rattle.goal_terms.specs.declared.ids.TraitId.{TraitId}
use Rattle.goal_tables.specs.Faults.{IsChecked}
use Rattle.goal_tables.specs.ImplsByHead.{self_head, may_be, impls_with_head}
use Rattle.goal_tables.specs.Rows.{impl_of}
use Rattle.goal_tables.specs.declared.rows.ImplRow.{ImplRow}
use Rattle.goal_tables.specs.declared.rows.Tables.{Tables}
use Rattle.goal_lists.specs.Candidates.{Candidate, by_impl, impls_for}
use Rattle.goal_kinds.specs.declared.rules.Rule.{Rule}
use Rattle.goal_lists.proofs.GrowingLists.{one-more}
use Rattle.goal_lists.proofs.PlaceLists.{places-length, place-within, at-place}
use Rattle.goal_lists.proofs.FoundImplLemmas.{impl-found}
use Rattle.goal_kinds.specs.Collecting.{Adds, AreCollected, Collects, CollectsAll}
use Rattle.goal_terms.specs.declared.answers.TraitGoalProvenVia.{TraitGoalProvenVia}
use Rattle.goal_kinds.proofs.ClassRuleLemmas.{take-more}

-- a rule for one more candidate
collected-more : (P : Rule → Candidate → Type 0) (L : Candidate → Type 0) (rs : List Rule) (cs : List Candidate) (r : Rule) (c : Candidate) →
    P r c → AreCollected P L rs cs → AreCollected P L (rs ++ r ∷ []) (cs ++ c ∷ [])
unfolding AreCollected
collected-more P L rs [] r c s h = inr (r, [], ap (λ qs. qs ++ r ∷ []) h, s, refl)
collected-more P L rs (d ∷ cs) r c s (inl h) = inl (h.0, collected-more P L rs cs r c s h.1)
collected-more P L rs (d ∷ cs) r c s (inr h) = inr (h.0, h.1 ++ r ∷ [], ap (λ qs. qs ++ r ∷ []) h.2, h.3, collected-more P L h.1 cs r c s h.4)

-- one more candidate without a rule
collected-lacks : (P : Rule → Candidate → Type 0) (L : Candidate → Type 0) (rs : List Rule) (cs : List Candidate) (c : Candidate) →
    L c → AreCollected P L rs cs → AreCollected P L rs (cs ++ c ∷ [])
unfolding AreCollected
collected-lacks P L rs [] c s h = inl (s, h)
collected-lacks P L rs (d ∷ cs) c s (inl h) = inl (h.0, collected-lacks P L rs cs c s h.1)
collected-lacks P L rs (d ∷ cs) c s (inr h) = inr (h.0, h.1, h.2, h.3, collected-lacks P L h.1 cs c s h.4)

-- two lists of rules, one behind the other
pub collected-append : (P : Rule → Candidate → Type 0) (L : Candidate → Type 0) (rs qs : List Rule) (cs ds : List Candidate) →
    AreCollected P L rs cs → AreCollected P L qs ds → AreCollected P L (rs ++ qs) (cs ++ ds)
unfolding AreCollected
collected-append P L rs qs [] ds h k = subst (λ x. AreCollected P L (x ++ qs) ds) (sym h) k
collected-append P L rs qs (c ∷ cs) ds (inl h) k = inl (h.0, collected-append P L rs qs cs ds h.1 k)
collected-append P L rs qs (c ∷ cs) ds (inr h) k = inr (h.0, h.1 ++ qs, ap (λ x. x ++ qs) h.2, h.3, collected-append P L h.1 qs cs ds h.4 k)

-- one more candidate
pub collected-adds : (P : Rule → Candidate → Type 0) (L : Candidate → Type 0) (rs after : List Rule) (cs : List Candidate) (c : Candidate) →
    Adds P L c rs after → AreCollected P L rs cs → AreCollected P L after (cs ++ c ∷ [])
collected-adds P L rs after cs c (inl a) h = subst (λ x. AreCollected P L x (cs ++ c ∷ [])) (sym a.1) (collected-more P L rs cs a.0 c a.2 h)
collected-adds P L rs after cs c (inr a) h = subst (λ x. AreCollected P L x (cs ++ c ∷ [])) (sym a.0) (collected-lacks P L rs cs c a.1 h)

-- the reason in other words
pub adds-weaker : (P Q : Rule → Candidate → Type 0) (L M : Candidate → Type 0) (c : Candidate) → ((r : Rule) → P r c → Q r c) → (L c → M c) →
    (rs after : List Rule) → Adds P L c rs after → Adds Q M c rs after
adds-weaker P Q L M c f g rs after (inl a) = inl (a.0, a.1, f a.0 a.2)
adds-weaker P Q L M c f g rs after (inr a) = inr (a.0, g a.1)

-- more rules for more candidates
pub collects-chain : (P : Rule → Candidate → Type 0) (L : Candidate → Type 0) (cs ds : List Candidate) (before mid after : List Rule) →
    Collects P L cs before mid → Collects P L ds mid after → Collects P L (cs ++ ds) before after
collects-chain P L cs ds before mid after h k es collected =
    subst (AreCollected P L after) (append_assoc es cs ds) (k (es ++ cs) (h es collected))

-- no rule for no candidate
pub collects-nothing : (P : Rule → Candidate → Type 0) (L : Candidate → Type 0) (rs : List Rule) → Collects P L [] rs rs
collects-nothing P L rs es h = subst (AreCollected P L rs) (sym (append-nil es)) h

-- from no rules at all
pub collects-from_none : (P : Rule → Candidate → Type 0) (L : Candidate → Type 0) (cs : List Candidate) (before after : List Rule) →
    before ≡ [] → Collects P L cs before after → AreCollected P L after cs
unfolding AreCollected
collects-from_none P L cs before after none h = h [] none

-- one candidate
pub collects-one : (P : Rule → Candidate → Type 0) (L : Candidate → Type 0) (before after : List Rule) (c : Candidate) → Adds P L c before after →
    Collects P L (c ∷ []) before after
collects-one P L before after c a es h = collected-adds P L before after es c a h

-- the next candidate of a list
pub collects-more : {X : Type 0} (P : Rule → Candidate → Type 0) (L : Candidate → Type 0) (f : X → Candidate) (xs : List X) (i : ℕ) (x : X) (before rs after : List Rule) →
    i < length xs → x ≡ get_or xs i x → Adds P L (f x) rs after → Collects P L (map f (take i xs)) before rs → Collects P L (map f (take (i + 1) xs)) before after
collects-more P L f xs i x before rs after l at a h es collected =
    subst (AreCollected P L after) (one-more f es (es ++ map f (take i xs)) xs x i (f x) l at refl refl)
    (collected-adds P L rs after (es ++ map f (take i xs)) (f x) a (h es collected))

-- all candidates of a list
pub collects-all : {X : Type 0} (P : Rule → Candidate → Type 0) (L : Candidate → Type 0) (f : X → Candidate) (xs : List X) (i : ℕ) (before after : List Rule) →
    length xs ≤ i → Collects P L (map f (take i xs)) before after → Collects P L (map f xs) before after
collects-all P L f xs i before after l h = subst (λ ys. Collects P L (map f ys) before after) (take_all i xs l) h

-- the impl at the next of some places
pub collects-at : (P : Rule → Candidate → Type 0) (L : Candidate → Type 0) (rows impls : List ImplRow) (places : List ℕ) (n : ℕ) (r : ImplRow) (before rs after : List Rule) →
    map (slice_get rows) places ≡ map Some impls → n < length places → slice_get rows (get_or places n 0) ≡ Some r → Adds P L (by_impl r) rs after →
    Collects P L (map by_impl (take n impls)) before rs → Collects P L (map by_impl (take (n + 1) impls)) before after
collects-at P L rows impls places n r before rs after h l here a so =
    collects-more P L by_impl impls n r before rs after (omega (arith, places-length rows places impls h)) (at-place rows places impls n r h l here) a so

-- all of them
pub collects-places : (P : Rule → Candidate → Type 0) (L : Candidate → Type 0) (rows impls : List ImplRow) (places : List ℕ) (n : ℕ) (before after : List Rule) →
    map (slice_get rows) places ≡ map Some impls → length places ≤ n →
    Collects P L (map by_impl (take n impls)) before after → Collects P L (map by_impl impls) before after
collects-places P L rows impls places n before after h l so =
    collects-all P L by_impl impls n before after (omega (arith, places-length rows places impls h)) so

-- each impl at a place passes what all of them do
pub passes-at : (P : ImplRow → Type 0) (rows impls : List ImplRow) (places : List ℕ) (n : ℕ) (r : ImplRow) →
    map (slice_get rows) places ≡ map Some impls → n < length places → slice_get rows (get_or places n 0) ≡ Some r → All P impls → P r
passes-at P rows impls places n r h l here all =
    let within : n < length impls = omega (arith, places-length rows places impls h) in
    subst P (sym (at-place rows places impls n r h l here)) (All-get_or P impls n r within all)

-- traits of one number are one
same_trait : (i j : TraitId) → i.0 ≡ j.0 → i ≡ j
same_trait i j e = ap (λ (n : ℕ). numbered n) e where
  numbered : ℕ → TraitId
  numbered n = record { 0 = n }

-- numbers that test equal are equal
tells-same : (a b : ℕ) → a == b ≡ true → a ≡ b
tells-same a b e = elim (eqb_tells a b) [ inl p ↦ p.1 | inr p ↦ absurd (cc) ]

-- rows that pass a test, each of which is of a trait
own-rows : (P : ImplRow → Type 0) (i : TraitId) (p : ImplRow → Bool) → ((r : ImplRow) → p r ≡ true → r.trait_id.0 == i.0 ≡ true) → ((r : ImplRow) → r.trait_id ≡ i → P r) →
    (rows : List ImplRow) → All P (filter p rows)
own-rows P i p of own rows =
    All-weaker (λ r. p r ≡ true) P (λ r e. own r (same_trait r.trait_id i (tells-same r.trait_id.0 i.0 (of r e)))) (filter p rows) (filter_passes p rows)

-- over accepted tables an impl at a place is the row of its id
pub impl-at_place : (t : Tables) → IsChecked t → (impls : List ImplRow) (places : List ℕ) (n : ℕ) (r : ImplRow) →
    map (slice_get t.impls.items) places ≡ map Some impls → n < length places → slice_get t.impls.items (get_or places n 0) ≡ Some r → impl_of t r.id ≡ Some r
impl-at_place t checked impls places n r h l here =
    impl-found t checked (get_or places n 0) r (place-within t.impls.items places impls n h l)
    (sym (get_or_from_slice_get t.impls.items (get_or places n 0) r r here))

-- rules that are collected from rows that pass a test are collected from those that pass a weaker one, if the others have none
passed-over : (P : Rule → Candidate → Type 0) (L : Candidate → Type 0) (b c : Bool) (r : ImplRow) (xs ys : List ImplRow) (rs : List Rule) →
    (b ≡ true → c ≡ true) → (c ≡ true → b ≡ false → L (by_impl r)) → ((qs : List Rule) → AreCollected P L qs (map by_impl xs) → AreCollected P L qs (map by_impl ys)) →
    AreCollected P L rs (map by_impl (if b then r ∷ xs else xs)) → AreCollected P L rs (map by_impl (if c then r ∷ ys else ys))
unfolding AreCollected
passed-over P L true true r xs ys rs f g rest (inl h) = inl (h.0, rest rs h.1)
passed-over P L true true r xs ys rs f g rest (inr h) = inr (h.0, h.1, h.2, h.3, rest h.1 h.4)
passed-over P L true false r xs ys rs f g rest h = absurd (false≢true (f refl))
passed-over P L false true r xs ys rs f g rest h = inl (g refl refl, rest rs h)
passed-over P L false false r xs ys rs f g rest h = rest rs h

collected-thinner : (P : Rule → Candidate → Type 0) (L : Candidate → Type 0) (p q : ImplRow → Bool) → ((r : ImplRow) → p r ≡ true → q r ≡ true) →
    ((r : ImplRow) → q r ≡ true → p r ≡ false → L (by_impl r)) → (rows : List ImplRow) (rs : List Rule) →
    AreCollected P L rs (map by_impl (filter p rows)) → AreCollected P L rs (map by_impl (filter q rows))
collected-thinner P L p q f g [] rs h = h
collected-thinner P L p q f g (r ∷ rows) rs h =
    passed-over P L (p r) (q r) r (filter p rows) (filter q rows) rs (f r) (g r) (collected-thinner P L p q f g rows) h

collected-behind : (P : Rule → Candidate → Type 0) (L : Candidate → Type 0) (xs ys : List Candidate) →
    ((rs : List Rule) → AreCollected P L rs xs → AreCollected P L rs ys) → (cs : List Candidate) (rs : List Rule) → AreCollected P L rs (cs ++ xs) → AreCollected P L rs (cs ++ ys)
unfolding AreCollected
collected-behind P L xs ys f [] rs h = f rs h
collected-behind P L xs ys f (c ∷ cs) rs (inl h) = inl (h.0, collected-behind P L xs ys f cs rs h.1)
collected-behind P L xs ys f (c ∷ cs) rs (inr h) = inr (h.0, h.1, h.2, h.3, collected-behind P L xs ys f cs h.1 h.4)

and-left : (b c : Bool) → b && c ≡ true → b ≡ true
and-left true c e = refl
and-left false c e = e

and-failed : (b c : Bool) → b ≡ true → b && c ≡ false → c ≡ false
and-failed true c e f = f
and-failed false c e f = absurd (false≢true e)

-- all impls of a trait, by those of one head
pub collects-by_head : (P : Rule → Candidate → Type 0) (L : Candidate → Type 0) (t : Tables) (i : TraitId) (n : Node) (before after : List Rule) →
    ((r : ImplRow) → may_be (compared_node Forgotten n) (self_head r) ≡ false → L (by_impl r)) →
    Collects P L (map by_impl (impls_with_head t i n)) before after → Collects P L (map by_impl (impls_for t i)) before after
collects-by_head P L t i n before after lacks h cs collected =
    collected-behind P L (map by_impl (impls_with_head t i n)) (map by_impl (impls_for t i))
    (collected-thinner P L (λ r. (r.trait_id.0 == i.0) && may_be (compared_node Forgotten n) (self_head r)) (λ r. r.trait_id.0 == i.0)
    (λ r e. and-left (r.trait_id.0 == i.0) (may_be (compared_node Forgotten n) (self_head r)) e)
    (λ r e f. lacks r (and-failed (r.trait_id.0 == i.0) (may_be (compared_node Forgotten n) (self_head r)) e f)) t.impls.items)
    cs after (h cs collected)

-- each impl that may have a head is of the trait
pub of-trait : (t : Tables) (i : TraitId) (P : ImplRow → Type 0) → ((r : ImplRow) → r.trait_id ≡ i → P r) → All P (impls_for t i)
of-trait t i P own = own-rows P i (λ r. r.trait_id.0 == i.0) (λ r e. e) own t.impls.items

pub of-trait_and_head : (t : Tables) (i : TraitId) (n : Node) (P : ImplRow → Type 0) → ((r : ImplRow) → r.trait_id ≡ i → P r) → All P (impls_with_head t i n)
of-trait_and_head t i n P own =
    own-rows P i (λ r. (r.trait_id.0 == i.0) && may_be (compared_node Forgotten n) (self_head r))
    (λ r e. and-left (r.trait_id.0 == i.0) (may_be (compared_node Forgotten n) (self_head r)) e) own t.impls.items

none-behind : {A : Type 0} (xs : List A) → xs ++ [] ≡ xs
none-behind [] = refl
none-behind (x ∷ xs) = ap (λ ys. x ∷ ys) (none-behind xs)

-- the rules of no class
pub collects-none : (C : TraitGoalProvenVia → List Rule → Type 0) → CollectsAll C [] []
unfolding CollectsAll
collects-none C = refl

-- those of one more class
pub collects-last : (C : TraitGoalProvenVia → List Rule → Type 0) (cs : List TraitGoalProvenVia) (c : TraitGoalProvenVia) (rs qs : List Rule) →
    CollectsAll C cs rs → C c qs → CollectsAll C (cs ++ c ∷ []) (rs ++ qs)
unfolding CollectsAll
collects-last C [] c rs qs h k = (qs, [], k, refl, ap (λ xs. xs ++ qs) h ∙ sym (none-behind qs))
collects-last C (d ∷ cs) c rs qs h k =
    (h.0, h.1 ++ qs, h.2, collects-last C cs c h.1 qs h.3 k, ap (λ xs. xs ++ qs) h.4 ∙ append_assoc h.0 h.1 qs)

pub collects-next : (C : TraitGoalProvenVia → List Rule → Type 0) (cs : List TraitGoalProvenVia) (i : ℕ) (d : TraitGoalProvenVia) (rs qs ts : List Rule) →
    i < length cs → CollectsAll C (take i cs) rs → C (get_or cs i d) qs → ts ≡ rs ++ qs → CollectsAll C (take (i + 1) cs) ts
collects-next C cs i d rs qs ts l h k e =
    subst (λ xs. CollectsAll C xs ts) (sym (take-more cs i d l))
    (subst (CollectsAll C (take i cs ++ get_or cs i d ∷ [])) (sym e) (collects-last C (take i cs) (get_or cs i d) rs qs h k))
