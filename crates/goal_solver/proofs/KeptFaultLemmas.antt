-- Delayed faults of which those without a cause in the tables are let go of.
use Rattle.std.proofs.Common.{◌≡◌, ◌==◌, ◌&&◌, ℕ, true, false, Bool, List, [], ◌∷◌, ◌++◌, Option, Some, take, drop, if◌then◌else◌, refl, sym, ap, subst, ◌∙◌}
use Rattle.std.specs.List.{All, list_any}
use Rattle.std.specs.Prelude.{find}
use Rattle.std.proofs.lemmas.Bool.{false≢true}
use Rattle.std.proofs.lemmas.List.{take-append-drop}
use Rattle.std.proofs.lemmas.List.Elements.{All-head, All-tail}
use Rattle.goal_terms.specs.declared.answers.DelayedFault.{DelayedFault}
use Rattle.goal_terms.specs.declared.answers.DelayedFault.TheVariants.{MissingItem, AutoTrait}
use Rattle.goal_terms.specs.declared.ids.DefId.{DefId}
use Rattle.goal_terms.specs.declared.ids.TraitId.{TraitId}
use Rattle.goal_tables.specs.Rows.{definition_of, trait_of}
use Rattle.goal_tables.specs.declared.rows.DefRow.{DefRow}
use Rattle.goal_tables.specs.declared.rows.Tables.{Tables}
use Rattle.goal_tables.specs.declared.rows.TraitRow.{TraitRow}
use Rattle.goal_infer.proofs.DecisionLemmas.{either-false}
use Rattle.goal_lists.specs.Causes.{IsFaultCaused, has_fault_cause, is_missing}
use Rattle.goal_solver.specs.Accesses.{uncaused}

-- faults that all have their cause leave those before them as they are
all-caused : (t : Tables) (fs : List DelayedFault) → All (IsFaultCaused t) fs → uncaused t fs ≡ []
unfolding uncaused IsFaultCaused
all-caused t [] h = refl
all-caused t (x ∷ fs) h =
    ap (λ (b : Bool). (if b then [] else x ∷ []) ++ uncaused t fs) (All-head (IsFaultCaused t) x fs h) ∙ all-caused t fs (All-tail (IsFaultCaused t) x fs h)

caused-behind : (t : Tables) (ys zs : List DelayedFault) → All (IsFaultCaused t) zs → uncaused t (ys ++ zs) ≡ uncaused t ys
unfolding uncaused
caused-behind t [] zs h = all-caused t zs h
caused-behind t (y ∷ ys) zs h = ap (λ xs. (if has_fault_cause t y then [] else y ∷ []) ++ xs) (caused-behind t ys zs h)

pub caused-after : (t : Tables) (n : ℕ) (fs : List DelayedFault) → All (IsFaultCaused t) (drop n fs) → uncaused t fs ≡ uncaused t (take n fs)
caused-after t n fs h = ap (uncaused t) (sym (take-append-drop n fs)) ∙ caused-behind t (take n fs) (drop n fs) h

-- what a look-up finds fails a test that it fails together with the look-up's
and-true : (b : Bool) → (b && true) ≡ false → b ≡ false
and-true true e = e
and-true false e = refl

one-both : {A : Type 0} (b : Bool) (o : Option A) (x y : A) (p : A → Bool) → (if b then Some y else o) ≡ Some x → (p y && b) ≡ false → (o ≡ Some x → p x ≡ false) → p x ≡ false
one-both true o x y p e f g = let same : y ≡ x = cc in sym (ap p same) ∙ and-true (p y) f
one-both false o x y p e f g = g e

both-fails : {A : Type 0} (test p : A → Bool) (xs : List A) (x : A) → find test xs ≡ Some x → list_any (λ y. p y && test y) xs ≡ false → p x ≡ false
both-fails test p [] x e f = absurd (cc)
both-fails test p (y ∷ ys) x e f =
    let each : ((p y && test y) ≡ false) × (list_any (λ z. p z && test z) ys ≡ false) = either-false (p y && test y) (list_any (λ z. p z && test z) ys) f in
    one-both (test y) (find test ys) x y p e each.0 (λ g. both-fails test p ys x g each.1)

both-pass : {A : Type 0} (test p : A → Bool) (xs : List A) (x : A) (b : Bool) → list_any (λ y. p y && test y) xs ≡ b → find test xs ≡ Some x → p x ≡ true → b ≡ true
both-pass test p xs x true is e h = refl
both-pass test p xs x false is e h = absurd (false≢true (sym (both-fails test p xs x e is) ∙ h))

-- so a definition without a value that is found is the cause of its fault, and so is an auto trait
pub missing-found : (t : Tables) (i : DefId) (d : DefRow) → definition_of t i ≡ Some d → is_missing d.value ≡ true → IsFaultCaused t (MissingItem i)
unfolding IsFaultCaused
missing-found t i d e h = both-pass (λ r. r.id.0 == i.0) (λ r. is_missing r.value) t.definitions.items d _ refl e h

pub auto-found : (t : Tables) (i : TraitId) (r : TraitRow) → trait_of t i ≡ Some r → r.is_auto ≡ true → IsFaultCaused t (AutoTrait i)
unfolding IsFaultCaused
auto-found t i r e h = both-pass (λ q. q.id.0 == i.0) (λ q. q.is_auto) t.traits.items r _ refl e h

-- the same of what a look-up in some tables answers
pub missing-caused : (t u : Tables) (x : DelayedFault) (i : DefId) (d : DefRow) (b : Bool) → x ≡ MissingItem i → u ≡ t → Some d ≡ definition_of u i → b ≡ is_missing d.value → b ≡ true → IsFaultCaused t x
missing-caused t u x i d b is same found e h =
    subst (IsFaultCaused t) (sym is) (subst (λ (v : Tables). IsFaultCaused v (MissingItem i)) same (missing-found u i d (sym found) (sym e ∙ h)))

pub auto-caused : (t u : Tables) (x : DelayedFault) (i : TraitId) (r : TraitRow) → x ≡ AutoTrait i → u ≡ t → Some r ≡ trait_of u i → r.is_auto ≡ true → IsFaultCaused t x
auto-caused t u x i r is same found h =
    subst (IsFaultCaused t) (sym is) (subst (λ (v : Tables). IsFaultCaused v (AutoTrait i)) same (auto-found u i r (sym found) h))

-- where those behind the first ones have their cause, all are kept
pub kept-caused : (t u : Tables) (n : ℕ) (fs gs hs : List DelayedFault) (b : Bool) → u ≡ t → gs ≡ fs → hs ≡ drop n gs → (b ≡ true → All (IsFaultCaused u) hs) → b ≡ true → uncaused t fs ≡ uncaused t (take n fs)
kept-caused t u n fs gs hs b e f g all h =
    caused-after t n fs
    (subst (λ xs. All (IsFaultCaused t) (drop n xs)) f (subst (All (IsFaultCaused t)) g (subst (λ (v : Tables). All (IsFaultCaused v) hs) e (all h))))
