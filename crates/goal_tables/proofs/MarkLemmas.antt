-- Marks of parameters, term by term.
use Rattle.std.proofs.Common.{◌≡◌, ℕ, zero, suc, ◌+◌, ◌<◌, ◌≤◌, Bool, true, false, List, [], ◌∷◌, ◌++◌, length, take, drop, map, set, get_or, Some, None, refl, sym, ap, ◌∙◌, arith, add-one, add-zero, zero-add, get_or-set_other}
use Rattle.std.specs.Prelude.{not, ◌||◌, ◌&&◌, ◌==◌, slice_get}
use Rattle.std.specs.List.{list_any}
use Rattle.std.proofs.lemmas.List.{drop_all, take_all, take_more}
use Rattle.std.proofs.Math.Bool.{or_assoc}
use Rattle.std.proofs.lemmas.Grind.{get_or-set_at}
use Rattle.std.proofs.lemmas.Bool.{eqb-true, eqb-false}
use Rattle.goal_terms.specs.Tree.{Tree, Trees, node, alias, variable, none, more, node_of, list_of, tree_size, row_size}
use Rattle.goal_terms.specs.declared.answers.ParamKind.{ParamKind}
use Rattle.goal_terms.specs.declared.heads.Node.TheVariants as nodes
use Rattle.goal_terms.specs.declared.heads.Node.{Node}
use Rattle.goal_terms.specs.Kinds.{same_kind}
use Rattle.goal_tables.specs.ParamKinds.{has_param}
use Rattle.goal_tables.specs.FixedParams.{param_at, is_param, stands_in, stands_in_row, some_param, needs_fixing, is_unfixed, open_parts, is_marked, AddsMarks, is_unmarked}

pub or-false : (a : Bool) → a ≡ a || false
or-false true = refl
or-false false = refl

or-true : (a : Bool) → true ≡ a || true
or-true true = refl
or-true false = refl

-- a parameter of this number has its own kind
pub has_param-own : (params : List ParamKind) (n : ℕ) (k kind : ParamKind) → slice_get params n ≡ Some k → has_param params n kind ≡ same_kind k kind
has_param-own [] n k kind e = absurd (cc)
has_param-own (p ∷ params) zero k kind e = let q : p ≡ k = cc in ap (λ w. same_kind w kind) q
has_param-own (p ∷ params) (suc n) k kind e = has_param-own params n k kind e

pub has_param-within : (params : List ParamKind) (n : ℕ) (kind : ParamKind) → has_param params n kind ≡ true → n < length params
has_param-within [] n kind e = absurd (cc)
has_param-within (p ∷ params) zero kind e = omega arith
has_param-within (p ∷ params) (suc n) kind e = let h : n < length params = has_param-within params n kind e in omega arith

-- what a place says after the parameter of a number and kind was marked
marked_on : (x b : Bool) (params : List ParamKind) (marks : List Bool) (p n : ℕ) (k kind : ParamKind) → (p == n) ≡ b → p < length marks → same_kind k kind ≡ x →
    (p ≡ n → x ≡ true) → get_or (set marks p true) n false ≡ get_or marks n false || (b && x)
marked_on x true params marks p n k kind e h same here =
    let q : p ≡ n = eqb-true p n e in
    let r : n ≡ p = sym q in
    get_or-set_at marks p n true false r h ∙ or-true (get_or marks n false) ∙ ap (λ w. get_or marks n false || w) (sym (here q))
marked_on x false params marks p n k kind e h same here =
    get_or-set_other marks p n true false (λ q. eqb-false p n e (sym q)) ∙ or-false (get_or marks n false)

kept_on : (x b m : Bool) → (b ≡ true → x ≡ false) → m ≡ m || (b && x)
kept_on x true m h = or-false m ∙ ap (λ w. m || w) (sym (h refl))
kept_on x false m h = or-false m

pub marking-hit : (params : List ParamKind) (marks : List Bool) (p : ℕ) (kind : ParamKind) → length marks ≡ length params → has_param params p kind ≡ true →
    AddsMarks params (λ k n. is_param k n (Some (p, kind))) marks (set marks p true)
unfolding AddsMarks
marking-hit params marks p kind same has = λ n k e.
    let within : p < length params = has_param-within params p kind has in
    let there : p < length marks = omega arith in
    marked_on (same_kind k kind) (p == n) params marks p n k kind refl there refl
    (λ q. sym (has_param-own params n k kind e) ∙ ap (λ m. has_param params m kind) (sym q) ∙ has)

pub marking-miss : (params : List ParamKind) (marks : List Bool) (p : ℕ) (kind : ParamKind) → has_param params p kind ≡ false →
    AddsMarks params (λ k n. is_param k n (Some (p, kind))) marks marks
unfolding AddsMarks
marking-miss params marks p kind has = λ n k e.
    kept_on (same_kind k kind) (p == n) (get_or marks n false)
    (λ b. sym (has_param-own params n k kind e) ∙ ap (λ m. has_param params m kind) (sym (eqb-true p n b)) ∙ has)

pub marking-none : (params : List ParamKind) (marks : List Bool) → AddsMarks params (λ k n. is_param k n None) marks marks
unfolding AddsMarks
marking-none params marks = λ n k e. or-false (get_or marks n false)

-- whether a parameter stands in the terms from a place on
unfoldable pub stands_from : ParamKind → ℕ → List Tree → ℕ → Bool
stands_from k n ts i = list_any (stands_in k n) (drop i ts)

row-list : (k : ParamKind) (n : ℕ) (ts : Trees) → stands_in_row k n ts ≡ list_any (stands_in k n) (list_of ts)
unfolding stands_in
row-list k n none = refl
row-list k n (more t ts) = ap (λ b. stands_in k n t || b) (row-list k n ts)

pub stands_in-walk : (k : ParamKind) (n : ℕ) (t : Tree) → stands_in k n t ≡ is_param k n (param_at (node_of t)) || list_any (stands_in k n) (open_parts t)
unfolding stands_in param_at
stands_in-walk k n (node h ts) = ap (λ b. is_param k n (param_at (nodes.Head h)) || b) (row-list k n ts)
stands_in-walk k n (alias a ts) = refl
stands_in-walk k n (variable v) = refl

step : (k : ParamKind) (n : ℕ) (ts : List Tree) (i : ℕ) (t : Tree) → slice_get ts i ≡ Some t → stands_from k n ts i ≡ stands_in k n t || stands_from k n ts (suc i)
unfolding stands_from
step k n [] i t e = absurd (cc)
step k n (x ∷ ts) zero t e = let q : x ≡ t = cc in ap (λ w. stands_in k n w || list_any (stands_in k n) ts) q
step k n (x ∷ ts) (suc i) t e = step k n ts i t e

joined : (m p l f : Bool) → ((m || p) || l) || f ≡ m || ((p || l) || f)
joined true p l f = refl
joined false p l f = refl

-- marking a part leaves the sum of the marks and of what follows as it is
pub marking-step : (params : List ParamKind) (ts : List Tree) (i : ℕ) (t : Tree) (w : Node) (ps : List Tree) (m m1 m2 : List Bool) →
    slice_get ts i ≡ Some t → w ≡ node_of t → ps ≡ open_parts t →
    AddsMarks params (λ k n. is_param k n (param_at w)) m m1 → AddsMarks params (λ k n. list_any (stands_in k n) ps) m1 m2 →
    (n : ℕ) (k : ParamKind) → slice_get params n ≡ Some k →
    is_marked m2 n || stands_from k n ts (i + 1) ≡ is_marked m n || stands_from k n ts i
unfolding AddsMarks
marking-step params ts i t w ps m m1 m2 e here below first later n k has =
    let rest = stands_from k n ts (suc i) in
    let at = is_param k n (param_at w) in
    let under = list_any (stands_in k n) ps in
    let one : is_marked m2 n ≡ (is_marked m n || at) || under = later n k has ∙ ap (λ b. b || under) (first n k has) in
    let whole : at || under ≡ stands_in k n t =
    ap (λ v. is_param k n (param_at v) || under) here
    ∙ ap (λ us. is_param k n (param_at (node_of t)) || list_any (stands_in k n) us) below
    ∙ sym (stands_in-walk k n t) in
    rw add-one
    (ap (λ b. b || rest) one ∙ joined (is_marked m n) at under rest ∙ ap (λ b. is_marked m n || (b || rest)) whole
    ∙ ap (λ b. is_marked m n || b) (sym (step k n ts i t e)))

pub stands_from-end : (k : ParamKind) (n : ℕ) (ts : List Tree) (i : ℕ) → length ts ≡ i → stands_from k n ts i ≡ false
unfolding stands_from
stands_from-end k n ts i e = let q : drop i ts ≡ [] = drop_all i ts (omega arith) in ap (list_any (stands_in k n)) q

-- when no part is left, what stood in all of them is marked
pub marking-end : (params : List ParamKind) (ts : List Tree) (i : ℕ) (m m2 : List Bool) → length ts ≡ i →
    ((n : ℕ) (k : ParamKind) → slice_get params n ≡ Some k → is_marked m2 n || stands_from k n ts i ≡ is_marked m n || stands_from k n ts 0) →
    AddsMarks params (λ k n. list_any (stands_in k n) ts) m m2
unfolding AddsMarks stands_from
marking-end params ts i m m2 e all = λ n k has.
    or-false (is_marked m2 n) ∙ ap (λ b. is_marked m2 n || b) (sym (stands_from-end k n ts i e)) ∙ all n k has

-- the nodes of some terms
unfoldable pub sizes : List Tree → ℕ
sizes [] = 0
sizes (t ∷ ts) = tree_size t + sizes ts

row-sizes : (ts : Trees) → row_size ts ≡ sizes (list_of ts)
unfolding sizes tree_size
row-sizes none = refl
row-sizes (more t ts) = ap (λ n. tree_size t + n) (row-sizes ts)

open-sizes : (t : Tree) → sizes (open_parts t) < tree_size t
unfolding sizes tree_size
open-sizes (node h ts) = omega (arith, row-sizes ts)
open-sizes (alias k ts) = omega arith
open-sizes (variable v) = omega arith

pub sizes-part : (ts : List Tree) (i : ℕ) (t : Tree) → slice_get ts i ≡ Some t → tree_size t ≤ sizes ts
unfolding sizes
sizes-part [] i t e = absurd (cc)
sizes-part (x ∷ ts) zero t e = let q : x ≡ t = cc in omega (arith, ap tree_size q)
sizes-part (x ∷ ts) (suc i) t e = omega (arith, sizes-part ts i t e)

-- what lies below a part is smaller than all parts
pub sizes-below : (ts : List Tree) (i : ℕ) (t : Tree) (ps : List Tree) → slice_get ts i ≡ Some t → ps ≡ open_parts t → sizes ps < sizes ts
sizes-below ts i t ps e below = let q : sizes ps ≡ sizes (open_parts t) = ap sizes below in omega (arith, open-sizes t, sizes-part ts i t e)

-- tests that agree at each parameter agree on all
some_param-same : (p q : ParamKind → ℕ → Bool) (params : List ParamKind) (j : ℕ) →
    ((n : ℕ) (k : ParamKind) → slice_get params n ≡ Some k → p k (j + n) ≡ q k (j + n)) → some_param p params j ≡ some_param q params j
some_param-same p q [] j h = refl
some_param-same p q (k ∷ params) j h =
    let here : p k (j + 0) ≡ q k (j + 0) = h 0 k refl in
    let first : p k j ≡ q k j = rw add-zero at here in
    let later : (n : ℕ) (l : ParamKind) → slice_get params n ≡ Some l → p l (suc j + n) ≡ q l (suc j + n) =
    λ n l e. let r : suc j + n ≡ j + suc n = omega arith in rw r (h (suc n) l e) in
    ap (λ b. b || some_param p params (suc j)) first ∙ ap (λ b. q k j || b) (some_param-same p q params (suc j) later)

none-marked : (params : List ParamKind) (n : ℕ) → get_or (map (λ (k : ParamKind). false) params) n false ≡ false
none-marked [] n = refl
none-marked (k ∷ params) zero = refl
none-marked (k ∷ params) (suc n) = none-marked params n

-- what is left unmarked stands nowhere
pub unmarked_unfixed : (params : List ParamKind) (ts : List Tree) (m2 : List Bool) →
    AddsMarks params (λ k n. list_any (stands_in k n) ts) (map (λ k. false) params) m2 → some_param (is_unmarked m2) params 0 ≡ some_param (is_unfixed ts) params 0
unfolding AddsMarks
unmarked_unfixed params ts m2 all =
    some_param-same (is_unmarked m2) (is_unfixed ts) params 0
    (λ n k has.
    let z : 0 + n ≡ n = zero-add n in
    let clear : is_marked (map (λ (l : ParamKind). false) params) n ≡ false = none-marked params n in
    let told : is_marked m2 n ≡ list_any (stands_in k n) ts = all n k has ∙ ap (λ b. b || list_any (stands_in k n) ts) clear in
    rw z (ap (λ b. needs_fixing k && not b) told))

-- whether a parameter from a place on has to be marked and isn't
unfoldable pub unmarked_from : List Bool → List ParamKind → ℕ → Bool
unmarked_from marks params i = some_param (is_unmarked marks) (drop i params) i

some_param-step : (p : ParamKind → ℕ → Bool) (params : List ParamKind) (i j : ℕ) (d : ParamKind) → i < length params →
    some_param p (drop i params) j ≡ p (get_or params i d) j || some_param p (drop (suc i) params) (suc j)
some_param-step p [] i j d h = absurd (omega arith)
some_param-step p (k ∷ params) zero j d h = refl
some_param-step p (k ∷ params) (suc i) j d h = some_param-step p params i j d (omega arith)

pub unmarked_from-start : (marks : List Bool) (params : List ParamKind) → some_param (is_unmarked marks) params 0 ≡ unmarked_from marks params 0
unfolding unmarked_from
unmarked_from-start marks params = refl

pub unmarked_from-more : (marks : List Bool) (params : List ParamKind) (i : ℕ) (d : ParamKind) (b : Bool) → i < length params →
    needs_fixing (get_or params i d) && not (get_or marks i false) ≡ false → unmarked_from marks params i ≡ b → unmarked_from marks params (i + 1) ≡ b
unfolding unmarked_from
unmarked_from-more marks params i d b h here old =
    rw add-one (ap (λ w. w || some_param (is_unmarked marks) (drop (suc i) params) (suc i)) (sym here) ∙ sym (some_param-step (is_unmarked marks) params i i d h) ∙ old)

pub unmarked_from-found : (marks : List Bool) (params : List ParamKind) (i : ℕ) (d : ParamKind) (b : Bool) → i < length params →
    needs_fixing (get_or params i d) && not (get_or marks i false) ≡ true → unmarked_from marks params i ≡ b → b ≡ true
unfolding unmarked_from
unmarked_from-found marks params i d b h here old =
    sym old ∙ some_param-step (is_unmarked marks) params i i d h ∙ ap (λ w. w || some_param (is_unmarked marks) (drop (suc i) params) (suc i)) here

pub unmarked_from-end : (marks : List Bool) (params : List ParamKind) (i : ℕ) → length params ≡ i → unmarked_from marks params i ≡ false
unfolding unmarked_from
unmarked_from-end marks params i e = let p : drop i params ≡ [] = drop_all i params (omega arith) in ap (λ ks. some_param (is_unmarked marks) ks i) p

pub ruleset unmarking = (unmarked_from-start, unmarked_from-more, unmarked_from-found, unmarked_from-end)

any_kept : {X : Type 0} (f : X → Bool) (rows : List X) (x : X) → list_any f (rows ++ x ∷ []) ≡ list_any f rows || f x
any_kept f [] x = sym (or-false (f x))
any_kept f (y ∷ rows) x = ap (λ b. f y || b) (any_kept f rows x) ∙ sym (or_assoc (f y) (list_any f rows) (f x))

-- one more row is tested
pub any_taken-more : {X : Type 0} (f : X → Bool) (rows : List X) (i : ℕ) (x : X) (b found : Bool) → x ≡ get_or rows i x → i < length rows →
    found ≡ f x → b ≡ list_any f (take i rows) → b || found ≡ list_any f (take (i + 1) rows)
any_taken-more f rows i x b found at h here old =
    ap (λ w. w || found) old ∙ ap (λ w. list_any f (take i rows) || w) here
    ∙ sym (any_kept f (take i rows) x)
    ∙ ap (λ y. list_any f (take i rows ++ y ∷ [])) at
    ∙ ap (list_any f) (sym (take_more rows i x h))

pub any_taken-end : {X : Type 0} (f : X → Bool) (rows : List X) (i : ℕ) (b : Bool) → length rows ≡ i → b ≡ list_any f (take i rows) → b ≡ list_any f rows
any_taken-end f rows i b e old = old ∙ ap (list_any f) (take_all i rows (omega arith))

pub ruleset gathering = (any_taken-more, any_taken-end)
