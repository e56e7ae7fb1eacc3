-- The part of a given term at the first place of a parameter, found by a walk over header and given term.
use Rattle.std.proofs.Common.{◌≡◌, ◌≢◌, ℕ, zero, suc, ◌+◌, ◌<◌, ◌≤◌, Bool, true, false, ◌||◌, List, [], ◌∷◌, length, map, drop, get_or, Option, Some, refl, sym, ap, ap₂, ◌∙◌, subst, add-one, arith}
use Rattle.std.specs.Prelude.{◌↔◌, slice_get}
use Rattle.std.specs.List.{All}
use Rattle.std.proofs.lemmas.Bool.{false≢true}
use Rattle.std.proofs.lemmas.List.Elements.{All-head, All-tail, All-cons, All-weaker, All-nil}
use Rattle.goal_terms.specs.Erased.{erased, erased_row, erased_head, compared_node}
use Rattle.goal_terms.specs.NodeTests.{some_node_outside_aliases, some_in_row_outside_aliases}
use Rattle.goal_terms.specs.SameTree.{same_node}
use Rattle.goal_terms.specs.SameLaws.{same_node-true, same_node-refl}
use Rattle.goal_terms.specs.Sorts.{is_argument_sort, IsSort, IsArgument, Are, HeadFits, Fits}
use Rattle.goal_interner.specs.TableMeaning.{tree_at}
use Rattle.goal_interner.specs.declared.term_nodes.TermId.{TermId}
use Rattle.goal_terms.specs.Tree.{Tree, Trees, node, alias, variable, none, more, node_of, parts_of, list_of}
use Rattle.goal_terms.specs.declared.compare.Regions.TheVariants.{Forgotten}
use Rattle.goal_terms.specs.declared.heads.Head.{Head}
use Rattle.goal_terms.specs.declared.heads.Head.TheVariants as head
use Rattle.goal_terms.specs.declared.heads.Node.{Node}
use Rattle.goal_terms.specs.declared.heads.Node.TheVariants as nodes
use Rattle.goal_terms.specs.declared.heads.Variable.{Variable}
use Rattle.goal_terms.specs.declared.node_tests.Within.TheVariants.{OutsideAliases}
use Rattle.goal_terms.specs.declared.sorts.Sort.{Sort}
use Rattle.goal_terms.specs.declared.sorts.Sort.TheVariants as sorts
use Rattle.goal_terms.specs.declared.terms.AliasTermKind.{AliasTermKind}
use Rattle.goal_terms.proofs.NodeTestLemmas.{some_from, some_node-walk}
use Rattle.goal_lists.specs.Equality.{Unequal}
use Rattle.goal_lists.specs.Headers.{parameter_of, is_number, is_parameter, has_place, StepInto, Part, RowPart, Clash, PartAmong}
use Rattle.goal_lists.specs.Level.{Level, nothing}
use Rattle.goal_lists.specs.Levels.{level}
use Rattle.goal_lists.specs.Settings.{Setting}
use Rattle.goal_lists.specs.Words.{Either}
use Rattle.goal_lists.proofs.WithinWords.{either-map_test}
use Rattle.goal_eval.specs.HeaderWords.{MayStand, MayAllStand, parameter_at}

-- the terms and headers of one level are those over another
pub record IsAbove (M B : Level) : Type 1 where
  pub part : (n : ℕ) (h g p : Tree) → M.part n h g p ↔ Part B n h g p
  pub clash : (K : ℕ → Tree → Type 0) (h g : Tree) → M.clash K h g ↔ Clash B K h g
  pub unequal : (t u : Tree) → M.unequal t u ↔ Unequal B t u

-- what a level's terms and headers are over
abbrev pub below : Setting → ℕ → Level
below S zero = nothing
below S (suc k) = level S k

pub level-above : (S : Setting) (k : ℕ) → IsAbove (level S k) (below S k)
unfolding level
level-above S zero = record { part = λ n h g p. (λ x. x, λ x. x); clash = λ K h g. (λ x. x, λ x. x); unequal = λ t u. (λ x. x, λ x. x) }
level-above S (suc k) = record { part = λ n h g p. (λ x. x, λ x. x); clash = λ K h g. (λ x. x, λ x. x); unequal = λ t u. (λ x. x, λ x. x) }

-- a parameter stays one without lifetimes
pub parameter-erased : (h : Head) → parameter_of (erased_head h) ≡ parameter_of h
parameter-erased (head.Ref r m) = refl
parameter-erased (head.FnPtr b i f) = refl
parameter-erased (head.Dynamic n r) = refl
parameter-erased (head.Lifetime r) = refl
parameter-erased h = refl

mutual
  unfolding some_node_outside_aliases erased is_parameter

  -- and so does its place
  place_erased : (n : ℕ) (t : Tree) → some_node_outside_aliases (is_parameter n) (erased t) ≡ some_node_outside_aliases (is_parameter n) t
  place_erased n (node h ts) =
      ap₂ (λ a b. a || b) (ap (is_number n) (parameter-erased h)) (place_row_erased n ts)
  place_erased n (alias k ts) = refl
  place_erased n (variable v) = refl

  place_row_erased : (n : ℕ) (ts : Trees) → some_in_row_outside_aliases (is_parameter n) (erased_row ts) ≡ some_in_row_outside_aliases (is_parameter n) ts
  place_row_erased n none = refl
  place_row_erased n (more t ts) = ap₂ (λ a b. a || b) (place_erased n t) (place_row_erased n ts)

pub has_place-erased : (n : ℕ) (t : Tree) → has_place n (erased t) ≡ has_place n t
unfolding has_place
has_place-erased n t = place_erased n t

-- where a walk finds a parameter
pub place-alias : (n : ℕ) (t : Tree) (k : AliasTermKind) → node_of t ≡ nodes.Alias k → false ≡ has_place n t
unfolding has_place some_node_outside_aliases
place-alias n (node h ts) k e = absurd (cc)
place-alias n (alias j ts) k e = refl
place-alias n (variable v) k e = absurd (cc)

pub place-here : (n : ℕ) (t : Tree) (m : Node) → m ≡ node_of t → is_number n (parameter_at m) ≡ true → true ≡ has_place n t
unfolding has_place some_node_outside_aliases is_parameter
place-here n (node h ts) m e f =
    let here : is_number n (parameter_of h) ≡ true = ap (λ x. is_number n (parameter_at x)) (sym e) ∙ f in
    sym (ap (λ b. b || some_in_row_outside_aliases (is_parameter n) ts) here)
place-here n (alias k ts) m e f = absurd (false≢true (ap (λ x. is_number n (parameter_at x)) (sym e) ∙ f))
place-here n (variable v) m e f = absurd (false≢true (ap (λ x. is_number n (parameter_at x)) (sym e) ∙ f))

pub place-parts : (n : ℕ) (t : Tree) (m : Node) → m ≡ node_of t → is_number n (parameter_at m) ≡ false → ((k : AliasTermKind) → m ≢ nodes.Alias k) →
    has_place n t ≡ some_from OutsideAliases (is_parameter n) (parts_of t) 0
unfolding has_place is_parameter
place-parts n (node h ts) m e f a =
    let here : is_number n (parameter_of h) ≡ false = ap (λ x. is_number n (parameter_at x)) (sym e) ∙ f in
    some_node-walk OutsideAliases (is_parameter n) (node h ts) ∙ ap (λ b. b || some_from OutsideAliases (is_parameter n) (list_of ts) 0) here
place-parts n (alias k ts) m e f a = absurd (a k e)
place-parts n (variable v) m e f a = some_node-walk OutsideAliases (is_parameter n) (variable v)

-- what is no constructor has no part
pub part-loose : (M B : Level) → IsAbove M B → (n : ℕ) (t g p : Tree) → ((h : Head) → node_of t ≢ nodes.Head h) → M.part n (erased t) g p → ⊥
unfolding Part erased
part-loose M B above n (node h ts) g p e x = e h refl
part-loose M B above n (alias k ts) g p e x = (above.part n (erased (alias k ts)) g p).0 x
part-loose M B above n (variable v) g p e x = (above.part n (erased (variable v)) g p).0 x

-- a test of a number, without lifetimes
pub number_erased : (n : ℕ) (h k : Head) (b : Bool) → nodes.Head h ≡ nodes.Head k → is_number n (parameter_of k) ≡ b → is_number n (parameter_of (erased_head h)) ≡ b
number_erased n h k b e f = let same : h ≡ k = cc in ap (is_number n) (parameter-erased h ∙ ap parameter_of same) ∙ f

pub either_true : (b : Bool) (A C : Type 0) → b ≡ true → Either b A C ↔ A
unfolding Either
either_true true A C e = (λ x. x, λ x. x)
either_true false A C e = absurd (cc)

pub either_false : (b : Bool) (A C : Type 0) → b ≡ false → Either b A C ↔ C
unfolding Either
either_false true A C e = absurd (cc)
either_false false A C e = (λ x. x, λ x. x)

chain : {A C D : Type 0} → A ↔ C → C ↔ D → A ↔ D
chain x y = (λ a. y.0 (x.0 a), λ d. x.1 (y.1 d))

-- the parameter itself has the given term as its part
pub part-at : (M B : Level) → IsAbove M B → (n : ℕ) (t g p : Tree) (h : Head) → node_of t ≡ nodes.Head h → is_number n (parameter_of h) ≡ true →
    M.part n (erased t) g p ↔ (p ≡ g)
unfolding Part erased
part-at M B above n (node k ts) g p h e f =
    chain (above.part n (erased (node k ts)) g p) (either_true (is_number n (parameter_of (erased_head k))) _ _ (number_erased n k h true e f))
part-at M B above n (alias k ts) g p h e f = absurd (cc)
part-at M B above n (variable v) g p h e f = absurd (cc)

-- below another constructor a given term has a part where it is stepped into
pub part-step : (M B : Level) → IsAbove M B → (n : ℕ) (h : Head) (ts : Trees) (g p : Tree) → is_number n (parameter_of (erased_head h)) ≡ false →
    M.part n (erased (node h ts)) g p ↔ StepInto B (erased_head h) (λ us. RowPart B n (erased_row ts) us p) (λ f. B.part n (erased (node h ts)) f p) g
unfolding Part erased
part-step M B above n h ts g p f =
    chain (above.part n (erased (node h ts)) g p) (either_false (is_number n (parameter_of (erased_head h))) _ _ f)

-- a variable has none
pub part-variable : (M B : Level) → IsAbove M B → (n : ℕ) (t u p : Tree) (h : Head) (v : Variable) → node_of t ≡ nodes.Head h → is_number n (parameter_of h) ≡ false →
    node_of u ≡ nodes.Variable v → M.part n (erased t) (erased u) p → ⊥
unfolding erased StepInto
part-variable M B above n (node k ts) (variable w) p h v e f a x = (part-step M B above n k ts (variable w) p (number_erased n k h false e f)).0 x
part-variable M B above n (node k ts) (node j us) p h v e f a x = absurd (cc)
part-variable M B above n (node k ts) (alias j us) p h v e f a x = absurd (cc)
part-variable M B above n (alias k ts) u p h v e f a x = absurd (cc)
part-variable M B above n (variable w) u p h v e f a x = absurd (cc)

-- two nodes that are the same, or aren't, without lifetimes
pub heads-same : (t u : Tree) (m l : Node) (b : Bool) → m ≡ node_of t → l ≡ node_of u → b ≡ same_node (compared_node Forgotten m) (compared_node Forgotten l) → b ≡ true →
    compared_node Forgotten (node_of t) ≡ compared_node Forgotten (node_of u)
heads-same t u m l b e f s w =
    ap (compared_node Forgotten) (sym e) ∙ same_node-true (compared_node Forgotten m) (compared_node Forgotten l) (sym s ∙ w) ∙ ap (compared_node Forgotten) f

pub heads-other : (t u : Tree) (m l : Node) (b : Bool) → m ≡ node_of t → l ≡ node_of u → b ≡ same_node (compared_node Forgotten m) (compared_node Forgotten l) → b ≡ false →
    compared_node Forgotten (node_of t) ≢ compared_node Forgotten (node_of u)
heads-other t u m l b e f s w same =
    let one : compared_node Forgotten m ≡ compared_node Forgotten l = ap (compared_node Forgotten) e ∙ same ∙ ap (compared_node Forgotten) (sym f) in
    false≢true (sym w ∙ s ∙ ap (same_node (compared_node Forgotten m)) (sym one) ∙ same_node-refl (compared_node Forgotten m))

-- a given term with another constructor has none
pub part-apart : (M B : Level) → IsAbove M B → (n : ℕ) (t u p : Tree) (h k : Head) → node_of t ≡ nodes.Head h → is_number n (parameter_of h) ≡ false →
    node_of u ≡ nodes.Head k → compared_node Forgotten (node_of t) ≢ compared_node Forgotten (node_of u) → M.part n (erased t) (erased u) p → ⊥
unfolding erased StepInto
part-apart M B above n (node i ts) (node j us) p h k e f a d x =
    d (ap nodes.Head ((part-step M B above n i ts (erased (node j us)) p (number_erased n i h false e f)).0 x).0)
part-apart M B above n (node i ts) (variable w) p h k e f a d x = absurd (cc)
part-apart M B above n (node i ts) (alias j us) p h k e f a d x = absurd (cc)
part-apart M B above n (alias i ts) u p h k e f a d x = absurd (cc)
part-apart M B above n (variable w) u p h k e f a d x = absurd (cc)

-- parts of a row and of a list
row-part : (M B : Level) → IsAbove M B → (n : ℕ) (ts us : Trees) (p : Tree) →
    RowPart B n (erased_row ts) (erased_row us) p ↔ PartAmong M n (map erased (list_of ts)) (map erased (list_of us)) p
unfolding Part PartAmong erased
row-part M B above n none us p = (λ x. x, λ x. x)
row-part M B above n (more t ts) none p = (λ x. x, λ x. x)
row-part M B above n (more t ts) (more u us) p =
    let here : M.part n (erased t) (erased u) p ↔ Part B n (erased t) (erased u) p = above.part n (erased t) (erased u) p in
    let rest : RowPart B n (erased_row ts) (erased_row us) p ↔ PartAmong M n (map erased (list_of ts)) (map erased (list_of us)) p = row-part M B above n ts us p in (
      either-map_test (has_place n (erased t)) (has_place n (erased t)) refl here.1 rest.0,
      either-map_test (has_place n (erased t)) (has_place n (erased t)) refl here.0 rest.1,
    )

-- one with the same constructor has that among its parts
pub part-alike : (M B : Level) → IsAbove M B → (n : ℕ) (t u p : Tree) (h k : Head) → node_of t ≡ nodes.Head h → is_number n (parameter_of h) ≡ false →
    node_of u ≡ nodes.Head k → compared_node Forgotten (node_of t) ≡ compared_node Forgotten (node_of u) →
    M.part n (erased t) (erased u) p ↔ PartAmong M n (map erased (parts_of t)) (map erased (parts_of u)) p
unfolding erased StepInto
part-alike M B above n (node i ts) (node j us) p h k e f a d =
    let same : erased_head i ≡ erased_head j = cc in
    let step : M.part n (erased (node i ts)) (erased (node j us)) p ↔ ((erased_head i ≡ erased_head j) × RowPart B n (erased_row ts) (erased_row us) p) =
    part-step M B above n i ts (erased (node j us)) p (number_erased n i h false e f) in
    let row : RowPart B n (erased_row ts) (erased_row us) p ↔ PartAmong M n (map erased (list_of ts)) (map erased (list_of us)) p = row-part M B above n ts us p in
    (λ x. row.0 (step.0 x).1, λ x. step.1 (same, row.1 x))
part-alike M B above n (node i ts) (variable w) p h k e f a d = absurd (cc)
part-alike M B above n (node i ts) (alias j us) p h k e f a d = absurd (cc)
part-alike M B above n (alias i ts) u p h k e f a d = absurd (cc)
part-alike M B above n (variable w) u p h k e f a d = absurd (cc)

-- the part among the terms of two lists from a place on
unfoldable pub AmongFrom : Level → ℕ → List Tree → List Tree → ℕ → Tree → Type 0
AmongFrom M n hs us i p = PartAmong M n (map erased (drop i hs)) (map erased (drop i us)) p

pub among-start : (M : Level) (n : ℕ) (hs us : List Tree) (p : Tree) → PartAmong M n (map erased hs) (map erased us) p ↔ AmongFrom M n hs us 0 p
unfolding AmongFrom
among-start M n hs us p = (λ x. x, λ x. x)

among-suc : (M : Level) (n : ℕ) (hs us : List Tree) (i : ℕ) (t : Tree) (p : Tree) → slice_get hs i ≡ Some t → i < length us → has_place n t ≡ false →
    AmongFrom M n hs us i p ↔ AmongFrom M n hs us (suc i) p
unfolding AmongFrom PartAmong
among-suc M n [] us i t p e l f = absurd (cc)
among-suc M n (h ∷ hs) [] i t p e l f = absurd (omega arith)
among-suc M n (h ∷ hs) (u ∷ us) zero t p e l f =
    let same : h ≡ t = cc in either_false (has_place n (erased h)) _ _ (has_place-erased n h ∙ ap (has_place n) same ∙ f)
among-suc M n (h ∷ hs) (u ∷ us) (suc i) t p e l f = among-suc M n hs us i t p e (omega arith) f

pub among-skip : (M : Level) (n : ℕ) (hs us : List Tree) (i : ℕ) (t : Tree) (p : Tree) → slice_get hs i ≡ Some t → i < length us → has_place n t ≡ false →
    AmongFrom M n hs us i p ↔ AmongFrom M n hs us (i + 1) p
among-skip M n hs us i t p e l f = rw add-one (among-suc M n hs us i t p e l f)

pub among-here : (M : Level) (n : ℕ) (hs us : List Tree) (i : ℕ) (t u : Tree) (p : Tree) → slice_get hs i ≡ Some t → slice_get us i ≡ Some u → has_place n t ≡ true →
    AmongFrom M n hs us i p ↔ M.part n (erased t) (erased u) p
unfolding AmongFrom PartAmong
among-here M n [] us i t u p e l f = absurd (cc)
among-here M n (h ∷ hs) [] i t u p e l f = absurd (cc)
among-here M n (h ∷ hs) (v ∷ us) zero t u p e l f =
    let same : h ≡ t = cc in let also : v ≡ u = cc in
    chain (either_true (has_place n (erased h)) _ _ (has_place-erased n h ∙ ap (has_place n) same ∙ f))
    (subst (λ x. M.part n (erased h) (erased v) p ↔ M.part n (erased x) (erased u) p) same (subst (λ x. M.part n (erased h) (erased v) p ↔ M.part n (erased h) (erased x) p) also (λ x. x, λ x. x)))
among-here M n (h ∷ hs) (v ∷ us) (suc i) t u p e l f = among-here M n hs us i t u p e l f

-- past the end of either list there is none
none_left : (M : Level) (n : ℕ) (hs : List Tree) (p : Tree) → PartAmong M n (map erased hs) [] p → ⊥
unfolding PartAmong
none_left M n [] p x = x
none_left M n (h ∷ hs) p x = x

pub among-past : (M : Level) (n : ℕ) (hs us : List Tree) (i : ℕ) (p : Tree) → length us ≤ i → AmongFrom M n hs us i p → ⊥
unfolding AmongFrom PartAmong
among-past M n [] [] zero p l x = x
among-past M n (h ∷ hs) [] zero p l x = x
among-past M n [] [] (suc i) p l x = x
among-past M n (h ∷ hs) [] (suc i) p l x = none_left M n (drop i hs) p x
among-past M n hs (u ∷ us) zero p l x = absurd (omega arith)
among-past M n [] (u ∷ us) (suc i) p l x = x
among-past M n (h ∷ hs) (u ∷ us) (suc i) p l x = among-past M n hs us i p (omega arith) x

pub among-end : (M : Level) (n : ℕ) (hs us : List Tree) (i : ℕ) (p : Tree) → length hs ≤ i → AmongFrom M n hs us i p → ⊥
unfolding AmongFrom PartAmong
among-end M n [] us zero p l x = x
among-end M n [] us (suc i) p l x = x
among-end M n (h ∷ hs) us zero p l x = absurd (omega arith)
among-end M n (h ∷ hs) [] (suc i) p l x = none_left M n (drop i hs) p x
among-end M n (h ∷ hs) (u ∷ us) (suc i) p l x = among-end M n hs us i p (omega arith) x

-- whether a constructor is a `dyn` type
abbrev is_dynamic : Head → Bool
is_dynamic (head.Dynamic n r) = true
is_dynamic _ = false

dynamic_erased : (h : Head) → is_dynamic (erased_head h) ≡ is_dynamic h
dynamic_erased (head.Ref r m) = refl
dynamic_erased (head.FnPtr b i f) = refl
dynamic_erased (head.Dynamic n r) = refl
dynamic_erased (head.Lifetime r) = refl
dynamic_erased h = refl

-- parts of one sort are arguments
of_sort : (s : Sort) → is_argument_sort s ≡ true → (n : ℕ) (ts : List Tree) → Are (IsSort s) n ts → All IsArgument ts
of_sort s a n ts are = All-weaker (IsSort s) IsArgument (λ t e. ap is_argument_sort e ∙ a) ts are.1

no_parts : (ts : List Tree) → ts ≡ [] → All IsArgument ts
no_parts ts e = subst (All IsArgument) (sym e) (All-nil IsArgument)

two_arguments : (t u : Tree) → IsArgument t → IsArgument u → All IsArgument (t ∷ u ∷ [])
two_arguments t u a b = All-cons IsArgument t (u ∷ []) a (All-cons IsArgument u [] b (All-nil IsArgument))

-- what a constructor that is no `dyn` type takes are arguments
head-arguments : (h : Head) (ts : List Tree) → is_dynamic h ≡ false → HeadFits h ts → All IsArgument ts
head-arguments (head.Adt i n) ts d fits = fits.1
head-arguments head.Array [] d fits = All-nil IsArgument
head-arguments head.Array (t ∷ []) d fits = let p : 1 ≡ 2 = fits.0 in absurd (omega (arith, p))
head-arguments head.Array (t ∷ u ∷ []) d fits = two_arguments t u (ap is_argument_sort fits.1) (ap is_argument_sort fits.2)
head-arguments head.Array (t ∷ u ∷ v ∷ ts) d fits = let p : suc (suc (suc (length ts))) ≡ 2 = fits.0 in absurd (omega (arith, p))
head-arguments head.Slice ts d fits = of_sort sorts.Ty refl 1 ts fits
head-arguments (head.RawPtr m) ts d fits = of_sort sorts.Ty refl 1 ts fits
head-arguments (head.Ref r m) ts d fits = of_sort sorts.Ty refl 1 ts fits
head-arguments (head.FnDef i n) ts d fits = fits.1
head-arguments (head.FnPtr bound inputs fn_traits) ts d fits = of_sort sorts.Ty refl (inputs + 1) ts fits
head-arguments (head.Closure i n) ts d fits = fits.1
head-arguments (head.Dynamic n r) ts d fits = absurd (cc)
head-arguments (head.Tuple n) ts d fits = of_sort sorts.Ty refl n ts fits
head-arguments (head.DynTrait i n) ts d fits = fits.1
head-arguments (head.DynProjection i n) ts d fits = fits.1
head-arguments (head.Misplaced k) ts d fits = fits
head-arguments h ts d fits = no_parts ts fits

-- what a `dyn` type takes are clauses
head-clauses : (h : Head) (ts : List Tree) → is_dynamic h ≡ true → HeadFits h ts → All (IsSort sorts.Clause) ts
head-clauses (head.Dynamic n r) ts d fits = fits.1
head-clauses h ts d fits = absurd (cc)

-- arguments may stand for anything
pub stand-arguments : (ts us : List Tree) → All IsArgument us → MayAllStand ts us
unfolding MayAllStand
stand-arguments [] us all = tt
stand-arguments (t ∷ ts) [] all = tt
stand-arguments (t ∷ ts) (u ∷ us) all = (λ a. All-head IsArgument u us all, stand-arguments ts us (All-tail IsArgument u us all))

no_clause : (t : Tree) → IsSort sorts.Clause t → IsArgument t → ⊥
no_clause t e a = let p : false ≡ true = sym (ap is_argument_sort e) ∙ a in false≢true p

stand-clauses : (ts us : List Tree) → All (IsSort sorts.Clause) ts → MayAllStand ts us
unfolding MayAllStand
stand-clauses [] us all = tt
stand-clauses (t ∷ ts) [] all = tt
stand-clauses (t ∷ ts) (u ∷ us) all =
    (λ a. absurd (no_clause t (All-head (IsSort sorts.Clause) t ts all) a), stand-clauses ts us (All-tail (IsSort sorts.Clause) t ts all))

parts_stand : (b : Bool) (h k : Head) (ts us : List Tree) → b ≡ is_dynamic h → b ≡ is_dynamic k → HeadFits h ts → HeadFits k us → MayAllStand ts us
parts_stand true h k ts us d e fits given = stand-clauses ts us (head-clauses h ts (sym d) fits)
parts_stand false h k ts us d e fits given = stand-arguments ts us (head-arguments k us (sym e) given)

-- the parts of two terms of one constructor may stand for each other
pub parts-stand : (t u : Tree) (h k : Head) → node_of t ≡ nodes.Head h → node_of u ≡ nodes.Head k → compared_node Forgotten (node_of t) ≡ compared_node Forgotten (node_of u) →
    HeadFits h (parts_of t) → HeadFits k (parts_of u) → MayAllStand (parts_of t) (parts_of u)
parts-stand t u h k e f d fits given =
    let tops : nodes.Head (erased_head h) ≡ nodes.Head (erased_head k) = sym (ap (compared_node Forgotten) e) ∙ d ∙ ap (compared_node Forgotten) f in
    let same : erased_head h ≡ erased_head k = cc in
    parts_stand (is_dynamic h) h k (parts_of t) (parts_of u) refl (sym (dynamic_erased h) ∙ ap is_dynamic same ∙ dynamic_erased k) fits given

-- terms that may stand in pairs do so at a place
pub stand-at : (ts us : List Tree) (i : ℕ) (t u : Tree) → MayAllStand ts us → slice_get ts i ≡ Some t → slice_get us i ≡ Some u → MayStand t u
unfolding MayAllStand
stand-at [] us i t u all e f = absurd (cc)
stand-at (x ∷ ts) [] i t u all e f = absurd (cc)
stand-at (x ∷ ts) (y ∷ us) zero t u all e f = let p : x ≡ t = cc in let q : y ≡ u = cc in subst (MayStand t) q (subst (λ z. MayStand z y) p all.0)
stand-at (x ∷ ts) (y ∷ us) (suc i) t u all e f = stand-at ts us i t u all.1 e f

-- the term of a number of a list
pub given-at : (T : List Tree) (ids : List TermId) (i : ℕ) (d : TermId) → i < length ids → slice_get (map (tree_at T) ids) i ≡ Some (tree_at T (get_or ids i d))
given-at T [] i d l = absurd (omega arith)
given-at T (id ∷ ids) zero d l = refl
given-at T (id ∷ ids) (suc i) d l = given-at T ids i d (omega arith)

-- a number found at a top, or not
pub number-at : (n : ℕ) (h : Head) (m : Node) (o : Option ℕ) (b x : Bool) → m ≡ nodes.Head h → o ≡ parameter_at m → b ≡ is_number n o → b ≡ x →
    is_number n (parameter_of h) ≡ x
number-at n h m o b x e f s w = ap (λ y. is_number n (parameter_at y)) (sym e) ∙ ap (is_number n) (sym f) ∙ sym s ∙ w

-- the claims of a header and of its parts
pub both_ways : {A C D : Type 0} → A ↔ C → C ↔ D → A ↔ D
both_ways x y = chain x y

-- what neither of two claims can be
pub neither : {A : Type 0} → (A → ⊥) → A ↔ ⊥
neither f = (f, λ x. absurd x)

-- the parts of a constructor that fit it
pub fits-at : (n : Node) (h : Head) (ts us : List Tree) → n ≡ nodes.Head h → ts ≡ us → Fits n us → HeadFits h ts
fits-at n h ts us e f fits = subst (λ m. Fits m ts) e (subst (Fits n) (sym f) fits)
