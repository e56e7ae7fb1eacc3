-- A header and given arguments have one substitution, and do not both fit and clash.
use Rattle.std.proofs.Common.{◌≡◌, ℕ, zero, suc, ◌+◌, Bool, true, false, List, [], ◌∷◌, map, Some, refl, sym, ap, ◌∙◌, subst, inl, inr, arith}
use Rattle.std.specs.Prelude.{slice_get}
use Rattle.goal_terms.specs.Erased.{erased}
use Rattle.goal_terms.specs.Tree.{Tree}
use Rattle.goal_terms.specs.declared.answers.ParamKind.{ParamKind}
use Rattle.goal_terms.specs.declared.answers.ParamKind.TheVariants as kind
use Rattle.goal_lists.specs.Headers.{under, has_place, PartAmong, is_term_kind, Known, PartsFrom, AllKnown, Fits, Clashes}
use Rattle.goal_lists.specs.Laws.{IsConsistent}
use Rattle.goal_lists.specs.Level.{Level}
use Rattle.goal_lists.specs.Words.{Either, Pairs, SomePair}

-- one of two claims, by a test, holds of two things, which are equal if each claim holds of one thing
pub either_unique : (b : Bool) (A B : Tree → Type 0) (p q : Tree) → (A p → A q → p ≡ q) → (B p → B q → p ≡ q) →
    Either b (A p) (B p) → Either b (A q) (B q) → p ≡ q
unfolding Either
either_unique true A B p q one other x y = one x y
either_unique false A B p q one other x y = other x y

-- a parameter has one part among the arguments of a header
pub one_part_among : (M : Level) → IsConsistent M → (n : ℕ) (hs gs : List Tree) (p q : Tree) → PartAmong M n hs gs p → PartAmong M n hs gs q → p ≡ q
unfolding PartAmong
one_part_among M laws n [] gs p q x y = elim x [ ]
one_part_among M laws n (h ∷ hs) [] p q x y = elim x [ ]
one_part_among M laws n (h ∷ hs) (g ∷ gs) p q x y =
    either_unique (has_place n h) (M.part n h g) (PartAmong M n hs gs) p q (laws.one_part n h g p q) (one_part_among M laws n hs gs p q) x y

-- two lists of terms of the same parameters are the same
one_list_of_parts : (M : Level) → IsConsistent M → (hs gs : List Tree) (n : ℕ) (params : List ParamKind) (s s' : List Tree) →
    PartsFrom M hs gs n params s → PartsFrom M hs gs n params s' → s ≡ s'
unfolding PartsFrom
one_list_of_parts M laws hs gs n [] [] [] x y = refl
one_list_of_parts M laws hs gs n [] [] (b ∷ s') x y = elim y [ ]
one_list_of_parts M laws hs gs n [] (a ∷ s) s' x y = elim x [ ]
one_list_of_parts M laws hs gs n (k ∷ ks) [] s' x y = elim x [ ]
one_list_of_parts M laws hs gs n (k ∷ ks) (a ∷ s) [] x y = elim y [ ]
one_list_of_parts M laws hs gs n (kind.Lifetime ∷ ks) (a ∷ s) (b ∷ s') x y =
    let rest : s ≡ s' = one_list_of_parts M laws hs gs (suc n) ks s s' x.1 y.1 in
    ap (λ c. c ∷ s) (x.0 ∙ sym y.0) ∙ ap (λ r. b ∷ r) rest
one_list_of_parts M laws hs gs n (kind.Ty ∷ ks) (a ∷ s) (b ∷ s') x y =
    let rest : s ≡ s' = one_list_of_parts M laws hs gs (suc n) ks s s' x.1 y.1 in
    ap (λ c. c ∷ s) (one_part_among M laws n hs gs a b x.0 y.0) ∙ ap (λ r. b ∷ r) rest
one_list_of_parts M laws hs gs n (kind.Const ∷ ks) (a ∷ s) (b ∷ s') x y =
    let rest : s ≡ s' = one_list_of_parts M laws hs gs (suc n) ks s s' x.1 y.1 in
    ap (λ c. c ∷ s) (one_part_among M laws n hs gs a b x.0 y.0) ∙ ap (λ r. b ∷ r) rest

-- a header and given arguments have one substitution
pub one_substitution : (M : Level) → IsConsistent M → (params : List ParamKind) (hs gs s s' : List Tree) →
    AllKnown M params hs gs s → AllKnown M params hs gs s' → s ≡ s'
unfolding AllKnown
one_substitution M laws params hs gs s s' x y = one_list_of_parts M laws hs gs 0 params s s' x y

-- a list of the terms of the parameters from a number on has at each place the term of the parameter there
part_in_list : (M : Level) → IsConsistent M → (hs gs : List Tree) (m : ℕ) (params : List ParamKind) (s : List Tree) →
    PartsFrom M hs gs m params s → (n j : ℕ) (u : Tree) → m + n ≡ j → is_term_kind (slice_get params n) ≡ true → PartAmong M j hs gs u → slice_get s n ≡ Some u
unfolding PartsFrom
part_in_list M laws hs gs m [] s x n j u e known part = absurd (cc)
part_in_list M laws hs gs m (k ∷ ks) [] x n j u e known part = elim x [ ]
part_in_list M laws hs gs m (kind.Lifetime ∷ ks) (a ∷ s) x zero j u e known part = absurd (cc)
part_in_list M laws hs gs m (kind.Lifetime ∷ ks) (a ∷ s) x (suc n) j u e known part = part_in_list M laws hs gs (suc m) ks s x.1 n j u (omega arith) known part
part_in_list M laws hs gs m (kind.Ty ∷ ks) (a ∷ s) x zero j u e known part =
    let here : m ≡ j = omega arith in
    ap Some (one_part_among M laws j hs gs a u (subst (λ i. PartAmong M i hs gs a) here x.0) part)
part_in_list M laws hs gs m (kind.Ty ∷ ks) (a ∷ s) x (suc n) j u e known part = part_in_list M laws hs gs (suc m) ks s x.1 n j u (omega arith) known part
part_in_list M laws hs gs m (kind.Const ∷ ks) (a ∷ s) x zero j u e known part =
    let here : m ≡ j = omega arith in
    ap Some (one_part_among M laws j hs gs a u (subst (λ i. PartAmong M i hs gs a) here x.0) part)
part_in_list M laws hs gs m (kind.Const ∷ ks) (a ∷ s) x (suc n) j u e known part = part_in_list M laws hs gs (suc m) ks s x.1 n j u (omega arith) known part

-- the substitution has the known term of each known parameter
pub known_in_substitution : (M : Level) → IsConsistent M → (params : List ParamKind) (hs gs s : List Tree) → AllKnown M params hs gs s →
    (n : ℕ) (u : Tree) → Known M params hs gs n u → slice_get s n ≡ Some u
unfolding AllKnown Known
known_in_substitution M laws params hs gs s x n u known = part_in_list M laws hs gs 0 params s x n n u (omega arith) known.0 known.1

-- a header that fits given terms part by part clashes with none of them
no_fit_and_clash_in_pairs : (M : Level) → IsConsistent M → (K : ℕ → Tree → Type 0) (s : List Tree) →
    ((n : ℕ) (u : Tree) → K n u → slice_get s n ≡ Some u) →
    (ts gs : List Tree) → Pairs M.equal (map (under s) (map erased ts)) gs → SomePair (M.clash K) (map erased ts) gs → ⊥
unfolding Pairs SomePair
no_fit_and_clash_in_pairs M laws K s k [] [] x y = y
no_fit_and_clash_in_pairs M laws K s k [] (g ∷ gs) x y = x
no_fit_and_clash_in_pairs M laws K s k (t ∷ ts) [] x y = x
no_fit_and_clash_in_pairs M laws K s k (t ∷ ts) (g ∷ gs) x y =
    elim y [ inl c ↦ laws.no_fit_clash K s k t g x.0 c | inr c ↦ no_fit_and_clash_in_pairs M laws K s k ts gs x.1 c ]

-- a header that fits given arguments does not clash with them
pub no_fit_and_clash : (M : Level) → IsConsistent M → (params : List ParamKind) (ts gs s : List Tree) →
    Fits M params (map erased ts) gs s → Clashes M params (map erased ts) gs → ⊥
unfolding Fits Clashes
no_fit_and_clash M laws params ts gs s x y =
    no_fit_and_clash_in_pairs M laws (Known M params (map erased ts) gs) s (known_in_substitution M laws params (map erased ts) gs s x.0) ts gs x.1 y
