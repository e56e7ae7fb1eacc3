-- Worked examples: an alias among the arguments that a header is matched with.
use Rattle.std.proofs.Common.{◌≡◌, inl, inr, ℕ, zero, suc, List, [], ◌∷◌, Some, slice_get, Bool, true, false, ◌||◌, eqb, eqb-true, true≢false, refl, sym, ap, subst, ◌∙◌}
use Rattle.goal_terms.specs.Tree.{Tree, forest, node_of}
use Rattle.goal_terms.specs.TreeOf.{leaf}
use Rattle.goal_terms.specs.declared.answers.ParamKind.TheVariants as kind
use Rattle.goal_terms.specs.declared.answers.TraitGoalProvenVia.{TraitGoalProvenVia}
use Rattle.goal_terms.specs.declared.answers.TraitGoalProvenVia.TheVariants as class
use Rattle.goal_terms.specs.declared.heads.Head.{Head}
use Rattle.goal_terms.specs.declared.heads.Head.TheVariants as head
use Rattle.goal_terms.specs.declared.scalars.UintTy.TheVariants as unsigned
use Rattle.goal_terms.proofs.TreeLemmas.{tree_of_term-Ty, tree_of_ty-Uint}
use Rattle.goal_lists.specs.Builtins.{u8_ty}
use Rattle.goal_kinds.specs.ExampleRows.{pair_for_vec, plain_item}
use Rattle.goal_kinds.specs.ExampleTables.{analysis, example_tables, plainly}
use Rattle.goal_kinds.specs.ExampleTerms.{adt, alias_of, box_of, free, param, projection, trait, u16_ty, vec_of}
use Rattle.goal_lists.specs.Headers.{under, AllAreKnown, Clashes, Fits, Known, mentions}
use Rattle.goal_lists.specs.ImplTerms.{ImplGives}
use Rattle.goal_lists.specs.Level.{HasHeadForm}
use Rattle.goal_lists.specs.Levels.{level}
use Rattle.goal_lists.specs.TraitGoals.{any_error, header_of}
use Rattle.goal_kinds.specs.ExampleSettings.{f_alias, pair_args}
use Rattle.goal_kinds.proofs.ExampleHeaders.{header-pair, value-box}
use Rattle.goal_kinds.proofs.ExampleLemmas.{alone, differs, only_refuted, opened, other_node, other_tree}
use Rattle.goal_kinds.proofs.ExampleNodes.{rest_refuted, through_rest}

-- `F` is `u8`, at each height but 0
f_is_u8 : (n : ℕ) → (level plainly (suc n)).gives (free 2) [] u8_ty
unfolding opened
f_is_u8 zero = (tt, subst (λ t. HasHeadForm (level plainly 0) (under [] t) u8_ty) (sym (tree_of_term-Ty _ ∙ tree_of_ty-Uint _)) refl)
f_is_u8 (suc n) = (tt, subst (λ t. HasHeadForm (level plainly (suc n)) (under [] t) u8_ty) (sym (tree_of_term-Ty _ ∙ tree_of_ty-Uint _)) refl)

-- the header `Pair<T> for Vec<T>` fits `Vec<F>` and `u8` from height 2 on: `F` and `u8` are equal by the head form of `F`, one lower
pair_fits : (n : ℕ) → Fits (level plainly (suc (suc n))) (kind.Ty ∷ []) (header_of pair_for_vec) (pair_args u8_ty) (f_alias ∷ [])
unfolding opened
pair_fits n =
    subst (λ hs. Fits (level plainly (suc (suc n))) (kind.Ty ∷ []) hs (pair_args u8_ty) (f_alias ∷ [])) (sym header-pair)
    (((refl, refl), tt), ((refl, (inl refl, tt)), (inr (u8_ty, u8_ty, f_is_u8 n, refl, inl refl), tt)))

-- `impl<T> Pair<T> for Vec<T>` says `Box<T>`
pair_gives :
    ImplGives plainly (level plainly 3) (record { item = plain_item 7 14; trait_params = 2; args = pair_args u8_ty })
    (alias_of (projection 7) (pair_args u8_ty)) pair_for_vec (box_of f_alias)
unfolding opened
pair_gives = (
  f_alias ∷ [],
  (refl, pair_fits 1, tt),
  tt,
  (f_alias ∷ [], refl, subst (λ t. HasHeadForm (level plainly 3) (under (f_alias ∷ []) t) (box_of f_alias)) (sym value-box) refl),
)

-- so `<Vec<F> as Pair<u8>>::A` is `Box<F>`, at height 4 and not at 3
pub example-alias_in_header : (level plainly 4).gives (projection 7) (pair_args u8_ty) (box_of f_alias)
unfolding opened
example-alias_in_header =
    let fits : (level plainly 3).through class.Misc (trait 14) (pair_args u8_ty) = (vec_of f_alias, refl, inl ((f_alias ∷ [], (refl, pair_fits 0, tt)), alone _ _ _ _ refl), tt) in
    (class.Misc, vec_of f_alias, fits, refl, inr (inl (tt, (inl (pair_gives, alone _ _ _ _ refl), (inl pair_gives, (inr (inl tt), (inr (inl tt), tt)))), inl refl)))

-- at height 1 the header fits no type that isn't an alias
no_fit_yet : (v : Head) (s : List Tree) → Fits (level plainly 1) (kind.Ty ∷ []) (vec_of (param 0) ∷ param 0 ∷ []) (pair_args (leaf v)) s → ⊥
unfolding opened
no_fit_yet v [] p = p.0
no_fit_yet v (a ∷ []) p =
    let same : (level plainly 1).equal (under (f_alias ∷ []) (param 0)) (leaf v) =
    subst (λ x. (level plainly 1).equal (under (x ∷ []) (param 0)) (leaf v)) p.0.0.1 p.1.1.0
    in elim same [ inl e ↦ absurd (cc e) | inr q ↦ q.2 ]
no_fit_yet v (a ∷ b ∷ s) p = p.0.1

-- so the trait goal holds at height 2 by nothing
no_pair_yet : (v : Head) → any_error (pair_args (leaf v)) ≡ false → (c : TraitGoalProvenVia) → (level plainly 2).through c (trait 14) (pair_args (leaf v)) → ⊥
unfolding opened
no_pair_yet v e c p =
    elim (through_rest example_tables analysis (level plainly 1) c (trait 14) (head.Adt (adt 1) 1) (forest (f_alias ∷ [])) (leaf v ∷ []) p).1 [
      | inl q ↦ no_fit_yet v q.0.0 (subst (λ hs. Fits (level plainly 1) (kind.Ty ∷ []) hs (pair_args (leaf v)) q.0.0) header-pair q.0.1.1)
      | inr (inl q) ↦ q.0
      | inr (inr (inl q)) ↦ true≢false (sym q.0 ∙ e)
      | inr (inr (inr q)) ↦ q
    ]

pub example-alias_in_header_lower : (u : Tree) → (level plainly 3).gives (projection 7) (pair_args u8_ty) u → ⊥
unfolding opened
example-alias_in_header_lower u h = no_pair_yet (head.Uint unsigned.U8) refl h.0 h.2

-- a parameter mentions its own number alone
or_false : (b : Bool) → b || false ≡ true → b ≡ true
or_false true e = refl
or_false false e = e

only_zero : (n : ℕ) → mentions n (param 0) ≡ true → 0 ≡ n
unfolding opened
only_zero n e = eqb-true 0 n (or_false (eqb 0 n) e)

-- at height 2 the header clashes with `Vec<F>` and `u16`: `T` is known to be `F`, and that is `u8`
t_is_f : AllAreKnown (Known (level plainly 2) (kind.Ty ∷ []) (vec_of (param 0) ∷ param 0 ∷ []) (pair_args u16_ty)) (f_alias ∷ []) (param 0)
unfolding opened
t_is_f n e =
    subst (λ m. (u : Tree) × (slice_get (f_alias ∷ []) m ≡ Some u) × Known (level plainly 2) (kind.Ty ∷ []) (vec_of (param 0) ∷ param 0 ∷ []) (pair_args u16_ty) m u)
    (only_zero n e) (f_alias, refl, (refl, (refl, refl)))

pair_clashes : Clashes (level plainly 2) (kind.Ty ∷ []) (header_of pair_for_vec) (pair_args u16_ty)
unfolding opened
pair_clashes =
    subst (λ hs. Clashes (level plainly 2) (kind.Ty ∷ []) hs (pair_args u16_ty)) (sym header-pair)
    (inr
    (inl (
      f_alias ∷ [],
      t_is_f,
      (
        other_tree f_alias u16_ty (differs tt),
        inr (inr (u8_ty, u16_ty, f_is_u8 0, refl, (other_tree u8_ty u16_ty (differs tt), inl (other_node (node_of u8_ty) (node_of u16_ty) (differs tt))))),
      ),
    )))

-- so `<Vec<F> as Pair<u16>>::A` is refuted, at height 4 and not at 3
pub example-alias_clashes : (level plainly 4).gives_refuted (projection 7) (pair_args u16_ty)
unfolding opened
example-alias_clashes = inl (inr (vec_of f_alias, refl, (inl (inr (inl pair_clashes)), (inl tt, (inl refl, tt)))))

-- an instance of a parameter is that of the term that is known for it
pub of_known : (s : List Tree) (u : Tree) → slice_get s 0 ≡ Some u → under s (param 0) ≡ under (u ∷ []) (param 0)
unfolding opened
of_known s u e = rw e refl

instance_is_f :
    (s : List Tree)
    → AllAreKnown (Known (level plainly 1) (kind.Ty ∷ []) (vec_of (param 0) ∷ param 0 ∷ []) (pair_args u16_ty)) s (param 0)
    → under s (param 0) ≡ f_alias
unfolding opened
instance_is_f s known = of_known s (known 0 refl).0 (known 0 refl).1 ∙ ap (λ u. under (u ∷ []) (param 0)) (known 0 refl).2.1.1

-- at height 1 it doesn't clash
no_clash_yet : Clashes (level plainly 1) (kind.Ty ∷ []) (vec_of (param 0) ∷ param 0 ∷ []) (pair_args u16_ty) → ⊥
unfolding opened
no_clash_yet (inl (inl p)) = p refl
no_clash_yet (inl (inr (inl p))) =
    let differ : (level plainly 1).unequal f_alias f_alias = subst (λ t. (level plainly 1).unequal t f_alias) (instance_is_f p.0 p.1) p.2 in differ.0 refl
no_clash_yet (inl (inr (inr p))) = p
no_clash_yet (inr (inl p)) =
    let differ : (level plainly 1).unequal f_alias u16_ty = subst (λ t. (level plainly 1).unequal t u16_ty) (instance_is_f p.0 p.1) p.2
    in elim differ.1 [ inl q ↦ q | inr (inl q) ↦ q | inr (inr q) ↦ q.2 ]
no_clash_yet (inr (inr p)) = p

pub example-alias_clashes_lower : (level plainly 3).gives_refuted (projection 7) (pair_args u16_ty) → ⊥
unfolding opened
example-alias_clashes_lower (inl p) =
    elim (only_refuted _ _ _ _ refl (rest_refuted example_tables analysis (level plainly 1) (trait 14) (head.Adt (adt 1) 1) (forest (f_alias ∷ [])) (u16_ty ∷ []) p).0) [
      | inl e ↦ true≢false e
      | inr (inl q) ↦ no_clash_yet (subst (λ hs. Clashes (level plainly 1) (kind.Ty ∷ []) hs (pair_args u16_ty)) header-pair q)
      | inr (inr q) ↦ q.2
    ]
example-alias_clashes_lower (inr p) = no_pair_yet (head.Uint unsigned.U16) refl p.0 p.2
