-- The first fault of a list that applies.
use Rattle.std.proofs.Common.{◌≡◌, ℕ, ◌<◌, Bool, true, false, cond, ◌⊎◌, inl, inr, List, [], ◌∷◌, Some, None, refl, sym, ap, ◌∙◌, arith}
use Rattle.std.specs.Prelude.{find}
use Rattle.goal_tables.specs.Faults.{number_of, all_faults, applies, IsChecked, IsSmallestFault}
use Rattle.goal_tables.specs.declared.faults.TableFault.{TableFault}
use Rattle.goal_tables.specs.declared.faults.TableFault.TheVariants as fault
use Rattle.goal_tables.specs.declared.rows.Tables.{Tables}

-- a fault stands in a list
abbrev Stands : TableFault → List TableFault → Type 0
Stands g [] = ⊥
Stands g (f ∷ fs) = (g ≡ f) ⊎ Stands g fs

-- numbers rise from n on
abbrev Rises : ℕ → List TableFault → Type 0
Rises n [] = Unit {0}
Rises n (f ∷ fs) = (n < number_of f) × Rises (number_of f) fs

above : (n : ℕ) (fs : List TableFault) (g : TableFault) → Rises n fs → Stands g fs → n < number_of g
above n [] g r s = absurd s
above n (f ∷ fs) g r (inl e) = let same : number_of g ≡ number_of f = ap number_of e in omega (arith, r.0)
above n (f ∷ fs) g r (inr s) = let later : number_of f < number_of g = above (number_of f) fs g r.1 s in omega (arith, r.0)

abbrev IsFirst : (TableFault → Bool) → List TableFault → TableFault → Type 0
IsFirst p fs f = (p f ≡ true) × ((g : TableFault) → Stands g fs → number_of g < number_of f → p g ≡ false)

first_on : (p : TableFault → Bool) (n : ℕ) (x : TableFault) (fs : List TableFault) (f : TableFault) (b : Bool) → p x ≡ b → Rises n (x ∷ fs) →
    (find p fs ≡ Some f → IsFirst p fs f) → cond b (Some x) (find p fs) ≡ Some f → IsFirst p (x ∷ fs) f
first_on p n x fs f true e r later h =
    let same : x ≡ f = cc in (
      ap p (sym same) ∙ e,
      λ g s l. absurd (
          let here : number_of x ≡ number_of f = ap number_of same in
          elim s [
            | inl i ↦ (let at : number_of g ≡ number_of x = ap number_of i in omega arith)
            | inr s2 ↦ (let past : number_of x < number_of g = above (number_of x) fs g r.1 s2 in omega arith)
          ]),
    )
first_on p n x fs f false e r later h =
    let found : IsFirst p fs f = later h in
    (found.0, λ g s l. elim s [ inl i ↦ ap p i ∙ e | inr s2 ↦ found.1 g s2 l ])

first : (p : TableFault → Bool) (n : ℕ) (fs : List TableFault) (f : TableFault) → Rises n fs → find p fs ≡ Some f → IsFirst p fs f
first p n [] f r h = absurd (cc)
first p n (x ∷ fs) f r h = first_on p n x fs f (p x) refl r (first p (number_of x) fs f r.1) h

none_on : (p : TableFault → Bool) (x : TableFault) (fs : List TableFault) (b : Bool) → p x ≡ b →
    (find p fs ≡ None → (g : TableFault) → Stands g fs → p g ≡ false) → cond b (Some x) (find p fs) ≡ None → (g : TableFault) → Stands g (x ∷ fs) → p g ≡ false
none_on p x fs true e later h g s = absurd (cc)
none_on p x fs false e later h g (inl i) = ap p i ∙ e
none_on p x fs false e later h g (inr s) = later h g s

none : (p : TableFault → Bool) (fs : List TableFault) → find p fs ≡ None → (g : TableFault) → Stands g fs → p g ≡ false
none p [] h g s = absurd s
none p (x ∷ fs) h g s = none_on p x fs (p x) refl (none p fs) h g s

rising : Rises 0 all_faults
rising = (omega arith, (omega arith, (omega arith, (omega arith, (omega arith, (omega arith, (omega arith, (omega arith, (omega arith, (omega arith, (omega arith, (omega arith, (omega arith, (omega arith, (omega arith, (omega arith, (omega arith, (omega arith, (omega arith, (omega arith, tt))))))))))))))))))))

place : (g : TableFault) → Stands g all_faults ⊎ (g ≡ fault.OutOfMemory)
place fault.UnknownItem = inl (inl refl)
place fault.WrongArgumentCount = inl (inr (inl refl))
place fault.WrongArgumentKind = inl (inr (inr (inl refl)))
place fault.ParameterOutOfRange = inl (inr (inr (inr (inl refl))))
place fault.InferInTable = inl (inr (inr (inr (inr (inl refl)))))
place fault.ImplParameterNotInHeader = inl (inr (inr (inr (inr (inr (inl refl))))))
place fault.ReservationWithItems = inl (inr (inr (inr (inr (inr (inr (inl refl)))))))
place fault.LangItemMissing = inl (inr (inr (inr (inr (inr (inr (inr (inl refl))))))))
place fault.LangItemDoubled = inl (inr (inr (inr (inr (inr (inr (inr (inr (inl refl)))))))))
place fault.ImplOfBuiltinTrait = inl (inr (inr (inr (inr (inr (inr (inr (inr (inr (inl refl))))))))))
place fault.AutoTrait = inl (inr (inr (inr (inr (inr (inr (inr (inr (inr (inr (inl refl)))))))))))
place fault.NeverConst = inl (inr (inr (inr (inr (inr (inr (inr (inr (inr (inr (inr (inl refl))))))))))))
place fault.TraitAliasWithItems = inl (inr (inr (inr (inr (inr (inr (inr (inr (inr (inr (inr (inr (inl refl)))))))))))))
place fault.InherentConstWithoutValue = inl (inr (inr (inr (inr (inr (inr (inr (inr (inr (inr (inr (inr (inr (inl refl))))))))))))))
place fault.SourceMismatch = inl (inr (inr (inr (inr (inr (inr (inr (inr (inr (inr (inr (inr (inr (inr (inl refl)))))))))))))))
place fault.OwnParametersMismatch = inl (inr (inr (inr (inr (inr (inr (inr (inr (inr (inr (inr (inr (inr (inr (inr (inl refl))))))))))))))))
place fault.BuiltinItemMismatch = inl (inr (inr (inr (inr (inr (inr (inr (inr (inr (inr (inr (inr (inr (inr (inr (inr (inl refl)))))))))))))))))
place fault.DoubledId = inl (inr (inr (inr (inr (inr (inr (inr (inr (inr (inr (inr (inr (inr (inr (inr (inr (inr (inl refl))))))))))))))))))
place fault.SpecializationMismatch = inl (inr (inr (inr (inr (inr (inr (inr (inr (inr (inr (inr (inr (inr (inr (inr (inr (inr (inr (inl refl)))))))))))))))))))
place fault.SpecializationCycle = inl (inr (inr (inr (inr (inr (inr (inr (inr (inr (inr (inr (inr (inr (inr (inr (inr (inr (inr (inr (inl refl))))))))))))))))))))
place fault.OutOfMemory = inr refl

pub checked : (t : Tables) → find (λ f. applies t f) all_faults ≡ None → IsChecked t
unfolding IsChecked applies
checked t h g = elim (place g) [ inl s ↦ none (λ f. applies t f) all_faults h g s | inr e ↦ ap (λ f. applies t f) e ]

pub smallest : (t : Tables) (f : TableFault) → find (λ f. applies t f) all_faults ≡ Some f → IsSmallestFault t f
unfolding IsSmallestFault applies
smallest t f h =
    let found : IsFirst (λ f. applies t f) all_faults f = first (λ f. applies t f) 0 all_faults f rising h in
    (found.0, λ g l. elim (place g) [ inl s ↦ found.1 g s l | inr e ↦ ap (λ f. applies t f) e ])

pub ruleset deciding = (checked, smallest)
