-- By what an impl is found, and the impls that two keys find.
use Rattle.std.proofs.Common.{◌≡◌, ℕ, ◌==◌, Bool, true, false, cond, [], ◌∷◌, ◌++◌, Option, Some, None, refl, ap, ap₂, ◌∙◌, rules}
use Rattle.std.specs.Prelude.{◌&&◌, ◌||◌, if◌then◌else◌, Vec}
use Rattle.std.proofs.lemmas.Bool.{false≢true}
use Rattle.goal_terms.specs.SameLaws.{same_node-true}
use Rattle.goal_terms.specs.SameTree.{same_node}
use Rattle.goal_terms.specs.declared.heads.Node.{Node}
use Rattle.goal_terms.specs.declared.ids.TraitId.{TraitId}
use Rattle.goal_tables.specs.ImplsByHead.{may_be, same_key, key_of, self_head, places_at}
use Rattle.goal_tables.specs.declared.impls_by_head.ImplKey.{ImplKey}
use Rattle.goal_tables.specs.declared.rows.ImplRow.{ImplRow}

-- the key of a trait and a head
abbrev pub key : TraitId → Option Node → ImplKey
key i o = record { trait_id = i; head = o }

both_fail : (b c : Bool) → (b && false) || (b && c) ≡ b && c
both_fail true c = refl
both_fail false c = refl

other_fails : (b c : Bool) → (b && c) || (b && false) ≡ b && c
other_fails true true = refl
other_fails true false = refl
other_fails false c = refl

and_false : (b : Bool) → b && false ≡ false
and_false true = refl
and_false false = refl

never_both : (b c d : Bool) → c && d ≡ false → (b && c) && (b && d) ≡ false
never_both true c d e = e
never_both false c d e = refl

-- an impl has one of the keys of a head, and of none, where its self type may have that head
either_key : (t i : TraitId) (n : Node) (o : Option Node) → same_key (key t o) (key i (Some n)) || same_key (key t o) (key i None) ≡ (t.0 == i.0) && may_be n o
unfolding same_node
either_key t i n None = both_fail (t.0 == i.0) true
either_key t i n (Some m) = other_fails (t.0 == i.0) (same_node m n)

pub has_key : (i : TraitId) (n : Node) (r : ImplRow) → same_key (key_of r) (key i (Some n)) || same_key (key_of r) (key i None) ≡ (r.trait_id.0 == i.0) && may_be n (self_head r)
has_key i n r = either_key r.trait_id i n (self_head r)

-- never both
never_two : (t i : TraitId) (n : Node) (o : Option Node) → same_key (key t o) (key i (Some n)) && same_key (key t o) (key i None) ≡ false
unfolding same_node
never_two t i n None = never_both (t.0 == i.0) false true refl
never_two t i n (Some m) = never_both (t.0 == i.0) (same_node m n) false (and_false (same_node m n))

pub one_key : (i : TraitId) (n : Node) (r : ImplRow) → same_key (key_of r) (key i (Some n)) && same_key (key_of r) (key i None) ≡ false
one_key i n r = never_two r.trait_id i n (self_head r)

-- keys that are the same are equal
first_passes : (b c : Bool) → b && c ≡ true → b ≡ true
first_passes true c e = refl
first_passes false c e = absurd (false≢true e)

second_passes : (b c : Bool) → b && c ≡ true → c ≡ true
second_passes true c e = e
second_passes false c e = absurd (false≢true e)

same_id : (t i : TraitId) → (t.0 == i.0) ≡ true → t ≡ i
same_id t i e = search rules

key_parts : (t i : TraitId) (o u : Option Node) → same_key (key t o) (key i u) ≡ true → key t o ≡ key i u
unfolding same_node
key_parts t i None None e = ap (λ j. key j None) (same_id t i (first_passes (t.0 == i.0) true e))
key_parts t i (Some n) (Some m) e =
    ap₂ (λ j x. key j (Some x)) (same_id t i (first_passes (t.0 == i.0) (same_node n m) e)) (same_node-true n m (second_passes (t.0 == i.0) (same_node n m) e))
key_parts t i None (Some m) e = absurd (false≢true (second_passes (t.0 == i.0) false e))
key_parts t i (Some n) None e = absurd (false≢true (second_passes (t.0 == i.0) false e))

pub key-same : (a b : ImplKey) → same_key a b ≡ true → a ≡ b
key-same a b e = key_parts a.trait_id b.trait_id a.head b.head e

-- the places of a key, where one was added to those of a key
pub place-added : {A : Type 0} (b : Bool) (place : ℕ) (now removed before at_key : Option (Vec ℕ A)) (v : Vec ℕ A) → now ≡ cond b (Some v) removed → removed ≡ cond b None before →
    v.items ≡ places_at at_key ++ place ∷ [] → (b ≡ true → at_key ≡ before) → places_at now ≡ (if b then places_at before ++ place ∷ [] else places_at before)
place-added true place now removed before at_key v e f g h = ap places_at e ∙ g ∙ ap (λ o. places_at o ++ place ∷ []) (h refl)
place-added false place now removed before at_key v e f g h = ap places_at e ∙ ap places_at f
