-- Equations of regions, part by part.
use Rattle.std.proofs.Common.{◌≡◌, ℕ, zero, suc, ◌+◌, ◌<◌, ◌≤◌, Bool, true, false, List, [], ◌∷◌, ◌++◌, length, map, get_or, take, drop, refl, sym, ap, ◌∙◌, arith}
use Rattle.std.specs.Prelude.{fold, if◌then◌else◌}
use Rattle.std.proofs.lemmas.List.{append-nil, drop_all}
use Rattle.std.proofs.lemmas.List.Sums.{fold-append}
use Rattle.std.proofs.Math.Seq.{take-append_seam}
use Rattle.goal_terms.specs.Erased.{erased}
use Rattle.goal_terms.specs.Regions.{region_of}
use Rattle.goal_terms.specs.SameHead.{top_of}
use Rattle.goal_interner.specs.TableMeaning.{tree_at}
use Rattle.goal_terms.specs.Tree.{Tree, Trees, node, alias, variable, none, more, node_of, parts_of, list_of}
use Rattle.goal_terms.specs.declared.heads.Node.{Node}
use Rattle.goal_interner.specs.declared.term_nodes.TermId.{TermId}
use Rattle.goal_terms.specs.declared.terms.Region.{Region}
use Rattle.goal_interner.proofs.SameTermLemmas.{erased-top, erased-parts, same-count}
use Rattle.goal_infer.specs.Inference.{Inference}
use Rattle.goal_infer.specs.RegionEquations.{Scopes, is_binder, levels_below, number_at, numbers_in, numbers_in_row, with_number, own_numbers, own_count, numbered, scopes_below, variables_between, variables_in_row, own_equation, equations_in, equations_in_row, equated_in, with_regions}
use Rattle.goal_infer.specs.Resolution.{term_at}
use Rattle.goal_infer.proofs.RegionStateLemmas.{regions-none, regions-count, regions-twice}
use Rattle.goal_infer.specs.declared.region_equations.EnteredRegion.{EnteredRegion}

-- the numbers in the terms of a list
numbers_in_list : ℕ → List Tree → List ℕ
numbers_in_list d [] = []
numbers_in_list d (t ∷ ts) = numbers_in d t ++ numbers_in_list d ts

row-numbers : (d : ℕ) (ts : Trees) → numbers_in_row d ts ≡ numbers_in_list d (list_of ts)
unfolding numbers_in numbers_in_list
row-numbers d none = refl
row-numbers d (more t ts) = ap (λ ns. numbers_in d t ++ ns) (row-numbers d ts)

-- a term has the number of its own lifetime, and those of its parts
numbers-whole : (d : ℕ) (t : Tree) → numbers_in d t ≡ number_at d (region_of (node_of t)) ++ numbers_in_list (levels_below (node_of t) d) (parts_of t)
unfolding numbers_in region_of numbers_in_list
numbers-whole d (node h ts) = ap (λ ns. number_at d (region_of (node_of (node h ts))) ++ ns) (row-numbers (levels_below (node_of (node h ts)) d) ts)
numbers-whole d (alias k ts) = row-numbers d ts
numbers-whole d (variable v) = refl

-- the numbers in the parts from one on
pub numbers_from : List Tree → ℕ → List TermId → ℕ → List ℕ
numbers_from T d ids i = numbers_in_list d (map (tree_at T) (drop i ids))

numbers-suc : (T : List Tree) (d : ℕ) (ids : List TermId) (i : ℕ) (x : TermId) → i < length ids →
    numbers_from T d ids i ≡ numbers_in d (tree_at T (get_or ids i x)) ++ numbers_from T d ids (suc i)
unfolding numbers_from numbers_in_list
numbers-suc T d [] i x l = absurd (omega arith)
numbers-suc T d (id ∷ ids) zero x l = refl
numbers-suc T d (id ∷ ids) (suc i) x l = numbers-suc T d ids i x (omega arith)

numbers-end : (T : List Tree) (d : ℕ) (ids : List TermId) (i : ℕ) → length ids ≤ i → numbers_from T d ids i ≡ []
unfolding numbers_from numbers_in_list
numbers-end T d [] zero l = refl
numbers-end T d [] (suc i) l = refl
numbers-end T d (id ∷ ids) zero l = absurd (omega arith)
numbers-end T d (id ∷ ids) (suc i) l = numbers-end T d ids i (omega arith)

add-one : (i : ℕ) → suc i ≡ i + 1
add-one i = omega arith

-- the walk over the parts: at its start, after a part and at its end
pub numbers-started : (T : List Tree) (d b : ℕ) (t : Tree) (n : Node) (ids : List TermId) (old now : List ℕ) →
    n ≡ node_of t → b ≡ levels_below n d → map (tree_at T) ids ≡ parts_of t → now ≡ fold with_number old (number_at d (region_of n)) →
    fold with_number now (numbers_from T b ids 0) ≡ fold with_number old (numbers_in d t)
unfolding numbers_from
numbers-started T d b t n ids old now top below parts is =
    ap (λ ns. fold with_number ns (numbers_in_list b (map (tree_at T) ids))) is
    ∙ sym (fold-append with_number old (number_at d (region_of n)) (numbers_in_list b (map (tree_at T) ids)))
    ∙ ap (λ c. fold with_number old (number_at d (region_of n) ++ numbers_in_list c (map (tree_at T) ids))) below
    ∙ ap (λ ts. fold with_number old (number_at d (region_of n) ++ numbers_in_list (levels_below n d) ts)) parts
    ∙ ap (λ m. fold with_number old (number_at d (region_of m) ++ numbers_in_list (levels_below m d) (parts_of t))) top
    ∙ ap (fold with_number old) (sym (numbers-whole d t))

pub numbers-more : (T : List Tree) (d : ℕ) (ids : List TermId) (i : ℕ) (x : TermId) (old now whole : List ℕ) → i < length ids →
    now ≡ fold with_number old (numbers_in d (tree_at T (get_or ids i x))) → fold with_number old (numbers_from T d ids i) ≡ whole →
    fold with_number now (numbers_from T d ids (i + 1)) ≡ whole
numbers-more T d ids i x old now whole l is e =
    ap (λ ns. fold with_number ns (numbers_from T d ids (i + 1))) is
    ∙ sym (fold-append with_number old (numbers_in d (tree_at T (get_or ids i x))) (numbers_from T d ids (i + 1)))
    ∙ ap (λ k. fold with_number old (numbers_in d (tree_at T (get_or ids i x)) ++ numbers_from T d ids k)) (sym (add-one i))
    ∙ ap (fold with_number old) (sym (numbers-suc T d ids i x l))
    ∙ e

pub numbers-done : (T : List Tree) (d : ℕ) (ids : List TermId) (i : ℕ) (now whole : List ℕ) → length ids ≤ i →
    fold with_number now (numbers_from T d ids i) ≡ whole → now ≡ whole
numbers-done T d ids i now whole l e = ap (fold with_number now) (sym (numbers-end T d ids i l)) ∙ e

-- the numbers that a binder binds
pub own-started : (T : List Tree) (t : Tree) (ids : List TermId) (b : Bool) → b ≡ is_binder (node_of t) → b ≡ true → map (tree_at T) ids ≡ parts_of t →
    fold with_number [] (numbers_from T 0 ids 0) ≡ own_numbers t
unfolding own_numbers numbers_from
own-started T (node h ts) ids b e one parts = sym (
    rw (sym e ∙ one) (ap (fold with_number []) (row-numbers 0 ts ∙ ap (numbers_in_list 0) (sym parts)))
    )
own-started T (alias k ts) ids b e one parts = absurd (cc)
own-started T (variable v) ids b e one parts = absurd (cc)

pub own-none : (t : Tree) (b : Bool) → b ≡ is_binder (node_of t) → b ≡ false → [] ≡ own_numbers t
unfolding own_numbers
own-none (node h ts) b e none_is = rw (sym e ∙ none_is) refl
own-none (alias k ts) b e none_is = refl
own-none (variable v) b e none_is = refl

-- how many variables two lists of terms need, and their equations
pub list_variables : List Tree → List Tree → ℕ
list_variables [] us = 0
list_variables (t ∷ ts) [] = 0
list_variables (t ∷ ts) (u ∷ us) = variables_between t u + list_variables ts us

pub list_equations : Scopes → ℕ → List Tree → List Tree → List (Region × Region)
list_equations s n [] us = []
list_equations s n (t ∷ ts) [] = []
list_equations s n (t ∷ ts) (u ∷ us) = equations_in s n t u ++ list_equations s (n + variables_between t u) ts us

row-variables : (ts : Trees) (us : List Tree) → variables_in_row ts us ≡ list_variables (list_of ts) us
unfolding variables_between list_variables
row-variables none us = refl
row-variables (more t ts) [] = refl
row-variables (more t ts) (u ∷ us) = ap (λ n. variables_between t u + n) (row-variables ts us)

row-equations : (s : Scopes) (n : ℕ) (ts : Trees) (us : List Tree) → equations_in_row s n ts us ≡ list_equations s n (list_of ts) us
unfolding equations_in list_equations
row-equations s n none us = refl
row-equations s n (more t ts) [] = refl
row-equations s n (more t ts) (u ∷ us) = ap (λ es. equations_in s n t u ++ es) (row-equations s (n + variables_between t u) ts us)

plus-zero : (n : ℕ) → n ≡ n + 0
plus-zero n = omega arith

zero-plus : (n : ℕ) → n ≡ 0 + n
zero-plus n = omega arith

-- two terms have the equation of their own lifetimes, and those of their parts
pub variables-whole : (t u : Tree) → top_of t ≡ top_of u → variables_between t u ≡ own_count t u + list_variables (parts_of t) (parts_of u)
unfolding variables_between own_numbers list_variables
variables-whole (node h ts) u e = ap (λ n. own_count (node h ts) u + n) (row-variables ts (parts_of u))
variables-whole (alias k ts) (node g us) e = absurd (cc)
variables-whole (alias k ts) (alias j us) e = row-variables ts (list_of us) ∙ zero-plus (list_variables (list_of ts) (list_of us))
variables-whole (alias k ts) (variable w) e = absurd (cc)
variables-whole (variable v) (node g us) e = absurd (cc)
variables-whole (variable v) (alias j us) e = absurd (cc)
variables-whole (variable v) (variable w) e = refl

-- scopes are their three fields
scopes-are : (d : ℕ) (ls rs : List EnteredRegion) (s : Scopes) → d ≡ s.depth → ls ≡ s.left → rs ≡ s.right → record { depth = d; left = ls; right = rs } ≡ s
scopes-are d ls rs s a b c =
    ap (λ z. record { depth = z; left = ls; right = rs }) a
    ∙ ap (λ z. record { depth = s.depth; left = z; right = rs }) b
    ∙ ap (λ z. record { depth = s.depth; left = s.left; right = z }) c

-- below an alias nothing was entered
scopes-alias : (n : ℕ) (t u : Tree) (s : Scopes) → is_binder (node_of t) ≡ false → own_numbers t ≡ [] → own_numbers u ≡ [] → scopes_below n t u s ≡ s
unfolding scopes_below numbered
scopes-alias n t u s e f g =
    scopes-are _ _ _ s (rw e refl)
    (ap (λ ks. s.left ++ numbered s.depth n ks) f ∙ append-nil s.left)
    (ap (λ ks. s.right ++ numbered s.depth (n + length (own_numbers t)) ks) g ∙ append-nil s.right)

pub equations-whole : (s : Scopes) (n : ℕ) (t u : Tree) → top_of t ≡ top_of u → equations_in s n t u
    ≡ own_equation s (region_of (node_of t)) (region_of (node_of u)) ++ list_equations (scopes_below n t u s) (n + own_count t u) (parts_of t) (parts_of u)
unfolding equations_in own_numbers list_equations region_of
equations-whole s n (node h ts) u e =
    ap (λ es. own_equation s (region_of (node_of (node h ts))) (region_of (node_of u)) ++ es)
    (row-equations (scopes_below n (node h ts) u s) (n + own_count (node h ts) u) ts (parts_of u))
equations-whole s n (alias k ts) (node g us) e = absurd (cc)
equations-whole s n (alias k ts) (alias j us) e =
    row-equations s n ts (list_of us)
    ∙ ap (λ m. list_equations s m (list_of ts) (list_of us)) (plus-zero n)
    ∙ ap (λ z. list_equations z (n + 0) (list_of ts) (list_of us)) (sym (scopes-alias n (alias k ts) (alias j us) s refl refl refl))
equations-whole s n (alias k ts) (variable w) e = absurd (cc)
equations-whole s n (variable v) (node g us) e = absurd (cc)
equations-whole s n (variable v) (alias j us) e = absurd (cc)
equations-whole s n (variable v) (variable w) e = refl

-- the scopes of the parts, from both sides
pub scopes-entered : (n m d depth : ℕ) (t u : Tree) (x : Node) (left right ls rs : List EnteredRegion) →
    x ≡ node_of t → d ≡ levels_below x depth → m ≡ n + length (own_numbers t) →
    ls ≡ left ++ numbered depth n (own_numbers t) → rs ≡ right ++ numbered depth m (own_numbers u) →
    record { depth = d; left = ls; right = rs } ≡ scopes_below n t u (record { depth = depth; left = left; right = right })
unfolding scopes_below
scopes-entered n m d depth t u x left right ls rs top below count e f =
    scopes-are _ _ _ (scopes_below n t u (record { depth = depth; left = left; right = right }))
    (below ∙ ap (λ y. levels_below y depth) top) e (f ∙ ap (λ k. right ++ numbered depth k (own_numbers u)) count)

-- so left again
pub scopes-left : (n left_count right_count : ℕ) (t u : Tree) (entry s z below : Scopes) (ls rs : List EnteredRegion) →
    s ≡ entry → left_count ≡ length s.left → right_count ≡ length s.right → z ≡ below → below ≡ scopes_below n t u entry →
    ls ≡ take left_count z.left → rs ≡ take right_count z.right → record { depth = s.depth; left = ls; right = rs } ≡ entry
unfolding scopes_below
scopes-left n left_count right_count t u entry s z below ls rs is e f same entered g h =
    scopes-are _ _ _ entry (ap (λ y. y.depth) is)
    (g ∙ ap (λ k. take k z.left) (e ∙ ap (λ y. length y.left) is) ∙ ap (λ y. take (length entry.left) y.left) (same ∙ entered)
    ∙ take-append_seam entry.left (numbered entry.depth n (own_numbers t)))
    (h ∙ ap (λ k. take k z.right) (f ∙ ap (λ y. length y.right) is) ∙ ap (λ y. take (length entry.right) y.right) (same ∙ entered)
    ∙ take-append_seam entry.right (numbered entry.depth (n + length (own_numbers t)) (own_numbers u)))

-- at most one binder was entered
pub scopes-deep : (n : ℕ) (t u : Tree) (s z below : Scopes) → z ≡ below → below ≡ scopes_below n t u s → z.depth ≤ s.depth + 1
unfolding scopes_below
scopes-deep n t u s z below same entered =
    omega (arith, ap (λ y. y.depth) (same ∙ entered), on (is_binder (node_of t))) where
      on : (b : Bool) → (if b then s.depth + 1 else s.depth) ≤ s.depth + 1
      on true = omega arith
      on false = omega arith

-- a state with what the parts from one on add
pub equated_from : List Tree → Scopes → List TermId → List TermId → ℕ → Inference → Inference
equated_from T s ids js i z =
    with_regions (list_variables (map (tree_at T) (drop i ids)) (map (tree_at T) (drop i js)))
    (list_equations s (length z.variables) (map (tree_at T) (drop i ids)) (map (tree_at T) (drop i js))) z

variables-suc : (T : List Tree) (ids js : List TermId) (i : ℕ) (x y : TermId) → i < length ids → i < length js →
    list_variables (map (tree_at T) (drop i ids)) (map (tree_at T) (drop i js))
    ≡ variables_between (tree_at T (get_or ids i x)) (tree_at T (get_or js i y)) + list_variables (map (tree_at T) (drop (suc i) ids)) (map (tree_at T) (drop (suc i) js))
unfolding list_variables
variables-suc T [] js i x y l m = absurd (omega arith)
variables-suc T (id ∷ ids) [] i x y l m = absurd (omega arith)
variables-suc T (id ∷ ids) (j ∷ js) zero x y l m = refl
variables-suc T (id ∷ ids) (j ∷ js) (suc i) x y l m = variables-suc T ids js i x y (omega arith) (omega arith)

equations-suc : (T : List Tree) (s : Scopes) (n : ℕ) (ids js : List TermId) (i : ℕ) (x y : TermId) → i < length ids → i < length js →
    list_equations s n (map (tree_at T) (drop i ids)) (map (tree_at T) (drop i js))
    ≡ equations_in s n (tree_at T (get_or ids i x)) (tree_at T (get_or js i y))
    ++ list_equations s (n + variables_between (tree_at T (get_or ids i x)) (tree_at T (get_or js i y))) (map (tree_at T) (drop (suc i) ids)) (map (tree_at T) (drop (suc i) js))
unfolding list_equations
equations-suc T s n [] js i x y l m = absurd (omega arith)
equations-suc T s n (id ∷ ids) [] i x y l m = absurd (omega arith)
equations-suc T s n (id ∷ ids) (j ∷ js) zero x y l m = refl
equations-suc T s n (id ∷ ids) (j ∷ js) (suc i) x y l m = equations-suc T s n ids js i x y (omega arith) (omega arith)

equated-suc : (T : List Tree) (s : Scopes) (ids js : List TermId) (i : ℕ) (x y : TermId) (z : Inference) → i < length ids → i < length js →
    equated_from T s ids js (suc i) (equated_in s (tree_at T (get_or ids i x)) (tree_at T (get_or js i y)) z) ≡ equated_from T s ids js i z
unfolding equated_from
equated-suc T s ids js i x y z l m =
    let t : Tree = tree_at T (get_or ids i x) in
    let u : Tree = tree_at T (get_or js i y) in
    let n : ℕ = length z.variables in
    let ts : List Tree = map (tree_at T) (drop (suc i) ids) in
    let us : List Tree = map (tree_at T) (drop (suc i) js) in
    ap (λ k. with_regions (list_variables ts us) (list_equations s k ts us) (equated_in s t u z)) (regions-count (variables_between t u) (equations_in s n t u) z)
    ∙ regions-twice (variables_between t u) (list_variables ts us) (equations_in s n t u) (list_equations s (n + variables_between t u) ts us) z
    ∙ ap (λ c. with_regions c (equations_in s n t u ++ list_equations s (n + variables_between t u) ts us) z) (sym (variables-suc T ids js i x y l m))
    ∙ ap (λ es. with_regions (list_variables (map (tree_at T) (drop i ids)) (map (tree_at T) (drop i js))) es z) (sym (equations-suc T s n ids js i x y l m))

-- the walk over the parts: at its start, after a part and at its end
pub equated-started : (T : List Tree) (s : Scopes) (t u : Tree) (ids js : List TermId) (old own now : Inference) (below : Scopes) → top_of t ≡ top_of u →
    map (tree_at T) ids ≡ parts_of t → map (tree_at T) js ≡ parts_of u →
    own ≡ with_regions 0 (own_equation s (region_of (node_of t)) (region_of (node_of u))) old → now ≡ with_regions (own_count t u) [] own →
    below ≡ scopes_below (length own.variables) t u s → equated_from T below ids js 0 now ≡ equated_in s t u old
unfolding equated_from
equated-started T s t u ids js old own now below top e f own_is now_is below_is =
    let es : List (Region × Region) = own_equation s (region_of (node_of t)) (region_of (node_of u)) in
    let n : ℕ = length old.variables in
    let c : ℕ = own_count t u in
    let count : length own.variables ≡ n = ap (λ (z : Inference). length z.variables) own_is ∙ regions-count 0 es old ∙ sym (plus-zero n) in
    let both : now ≡ with_regions c es old =
    now_is ∙ ap (with_regions c []) own_is ∙ regions-twice 0 c es [] old ∙ ap (λ k. with_regions k (es ++ []) old) (sym (zero-plus c))
    ∙ ap (λ fs. with_regions c fs old) (append-nil es) in
    ap (λ ts. with_regions (list_variables ts (map (tree_at T) js)) (list_equations below (length now.variables) ts (map (tree_at T) js)) now) e
    ∙ ap (λ us. with_regions (list_variables (parts_of t) us) (list_equations below (length now.variables) (parts_of t) us) now) f
    ∙ ap (λ (z : Inference). with_regions (list_variables (parts_of t) (parts_of u)) (list_equations below (length z.variables) (parts_of t) (parts_of u)) z) both
    ∙ ap (λ k. with_regions (list_variables (parts_of t) (parts_of u)) (list_equations below k (parts_of t) (parts_of u)) (with_regions c es old)) (regions-count c es old)
    ∙ ap (λ b. with_regions (list_variables (parts_of t) (parts_of u)) (list_equations b (n + c) (parts_of t) (parts_of u)) (with_regions c es old))
    (below_is ∙ ap (λ k. scopes_below k t u s) count)
    ∙ regions-twice c (list_variables (parts_of t) (parts_of u)) es (list_equations (scopes_below n t u s) (n + c) (parts_of t) (parts_of u)) old
    ∙ ap (λ k. with_regions k (es ++ list_equations (scopes_below n t u s) (n + c) (parts_of t) (parts_of u)) old) (sym (variables-whole t u top))
    ∙ ap (λ fs. with_regions (variables_between t u) fs old) (sym (equations-whole s n t u top))

pub equated-more : (T : List Tree) (s : Scopes) (ids js : List TermId) (i : ℕ) (x y : TermId) (old now whole : Inference) → i < length ids → i < length js →
    now ≡ equated_in s (tree_at T (get_or ids i x)) (tree_at T (get_or js i y)) old → equated_from T s ids js i old ≡ whole →
    equated_from T s ids js (i + 1) now ≡ whole
equated-more T s ids js i x y old now whole l m is e =
    ap (λ k. equated_from T s ids js k now) (sym (add-one i)) ∙ ap (equated_from T s ids js (suc i)) is ∙ equated-suc T s ids js i x y old l m ∙ e

equated-none : (T : List Tree) (s : Scopes) (ids js : List TermId) (i : ℕ) (z : Inference) → length ids ≤ i → equated_from T s ids js i z ≡ z
unfolding equated_from list_variables list_equations
equated-none T s ids js i z l =
    ap (λ ks. with_regions (list_variables (map (tree_at T) ks) (map (tree_at T) (drop i js))) (list_equations s (length z.variables) (map (tree_at T) ks) (map (tree_at T) (drop i js))) z)
    (drop_all i ids l)
    ∙ regions-none z

pub equated-done : (T : List Tree) (s : Scopes) (ids js : List TermId) (i : ℕ) (now whole : Inference) → length ids ≤ i →
    equated_from T s ids js i now ≡ whole → now ≡ whole
equated-done T s ids js i now whole l e = sym (equated-none T s ids js i now l) ∙ e

-- terms that are identical without lifetimes
pub tops-identical : (T : List Tree) (left right : TermId) → term_at T left ≡ term_at T right → top_of (tree_at T left) ≡ top_of (tree_at T right)
unfolding term_at
tops-identical T left right same = erased-top (tree_at T left) (tree_at T right) same

pub parts-counted : (T : List Tree) (left right : TermId) (ids js : List TermId) → term_at T left ≡ term_at T right →
    map (tree_at T) ids ≡ parts_of (tree_at T left) → map (tree_at T) js ≡ parts_of (tree_at T right) → length ids ≡ length js
unfolding term_at
parts-counted T left right ids js same e f =
    same-count erased T ids js (ap (map erased) e ∙ erased-parts (tree_at T left) (tree_at T right) same ∙ ap (map erased) (sym f))

erased-at : (T : List Tree) (ids js : List TermId) (i : ℕ) (x y : TermId) → map erased (map (tree_at T) ids) ≡ map erased (map (tree_at T) js) →
    i < length ids → i < length js → erased (tree_at T (get_or ids i x)) ≡ erased (tree_at T (get_or js i y))
erased-at T [] js i x y e l m = absurd (omega arith)
erased-at T (id ∷ ids) [] i x y e l m = absurd (omega arith)
erased-at T (id ∷ ids) (j ∷ js) zero x y e l m = cc
erased-at T (id ∷ ids) (j ∷ js) (suc i) x y e l m =
    let rest : map erased (map (tree_at T) ids) ≡ map erased (map (tree_at T) js) = cc in erased-at T ids js i x y rest (omega arith) (omega arith)

pub parts-identical : (T : List Tree) (left right : TermId) (ids js : List TermId) (i : ℕ) (x y : TermId) → term_at T left ≡ term_at T right →
    map (tree_at T) ids ≡ parts_of (tree_at T left) → map (tree_at T) js ≡ parts_of (tree_at T right) → i < length ids → i < length js →
    term_at T (get_or ids i x) ≡ term_at T (get_or js i y)
unfolding term_at
parts-identical T left right ids js i x y same e f l m =
    erased-at T ids js i x y (ap (map erased) e ∙ erased-parts (tree_at T left) (tree_at T right) same ∙ ap (map erased) (sym f)) l m
