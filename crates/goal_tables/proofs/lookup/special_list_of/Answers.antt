use Rattle.std.proofs.Common.{◌≡◌, ◌∙◌, ◌<◌, length, get_or, None, Some, sym, ap, subst, arith}
use Rattle.std.specs.Prelude.{◌==◌, slice_get, Vec}
use Rattle.std.specs.Option.{option_and_then}
use Rattle.std.specs.List.{All}
use Rattle.std.proofs.lemmas.List.Elements.{All-nil}
use Rattle.std.proofs.lemmas.Option.{slice_get_within}
use Rattle.goal_tables.specs.Indexed.{AreMoreSpecial}
use Rattle.goal_tables.specs.declared.rows.ImplRow.{ImplRow}
use Rattle.goal_tables.proofs.LookupLemmas.{find-index, within-index}
use Rattle.goal_tables.proofs.SpecialLemmas.{special-at, specials-within, specials-length}
use Rattle.goal_tables.proofs.lookup.special_list_of.Goals as goal
use Rattle.goal_tables.proofs.lookup.special_list_of.Goals.{in_default-via-in-Some+else-place-lists, in_default-via-in_default}

pub returns-in-Some-clause-listed : goal.returns-in-Some-clause-listed
returns-in-Some-clause-listed c = λ t r index lists e.
    let found : slice_get t.impls.items c.in-Some.place ≡ Some r =
    ap (option_and_then (slice_get t.impls.items)) (sym c.in-Some.is ∙ c.place_of.ensures)
    ∙ find-index ◌==◌ (λ (q : ImplRow). q.id.0) t.impls.items c.args.index.now.places c.args.id.0 index.places ∙ e in
    subst (AreMoreSpecial t r) (sym c.as_slice.ensures.value)
    (subst (λ l. AreMoreSpecial t r l.items) (sym c.index-lists-place.is) (special-at t t.impls.items c.args.lists.now c.in-Some.place r c.index-lists-place.result lists found))

pub returns-in_default-clause-listed : goal.returns-in_default-clause-listed
returns-in_default-clause-listed c = λ t r index lists e. absurd (elim c.in_default.branch [
  | in_default-via-in-Some+else-place-lists w ↦ (
      let found : slice_get t.impls.items w.in-Some.place ≡ Some r =
      ap (option_and_then (slice_get t.impls.items)) (sym w.in-Some.is ∙ c.place_of.ensures)
      ∙ find-index ◌==◌ (λ (q : ImplRow). q.id.0) t.impls.items c.args.index.now.places c.args.id.0 index.places ∙ e in
      let inside : w.in-Some.place < length t.impls.items = slice_get_within t.impls.items w.in-Some.place r found in
      omega (arith, inside, w.if-place-lists.false, specials-length t t.impls.items c.args.lists.now lists))
  | in_default-via-in_default w ↦ (
      let none : None ≡ Some r =
      ap (option_and_then (slice_get t.impls.items)) (sym w.in_default.is ∙ c.place_of.ensures)
      ∙ find-index ◌==◌ (λ (q : ImplRow). q.id.0) t.impls.items c.args.index.now.places c.args.id.0 index.places ∙ e in
      cc)
])

pub returns-in-Some-clause-within : goal.returns-in-Some-clause-within
returns-in-Some-clause-within c = λ t lists.
    subst (All (λ p. p < length t.impls.items)) (sym c.as_slice.ensures.value)
    (subst (λ (l : Vec _ _). All (λ p. p < length t.impls.items) l.items) (sym c.index-lists-place.is)
    (specials-within t t.impls.items c.args.lists.now c.in-Some.place c.index-lists-place.result lists (omega arith)))

pub returns-in_default-clause-within : goal.returns-in_default-clause-within
returns-in_default-clause-within c = λ t lists. All-nil (λ p. p < length t.impls.items)
