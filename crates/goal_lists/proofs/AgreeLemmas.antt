-- What walks over two terms need, which find out whether these agree.
use Rattle.std.proofs.Common.{◌≡◌, ◌≢◌, ℕ, zero, suc, ◌+◌, ◌≤◌, Bool, true, false, ◌&&◌, ◌||◌, List, [], ◌∷◌, length, drop, Some, refl, sym, ap, ◌∙◌, arith, add-one}
use Rattle.std.specs.Prelude.{slice_get, if◌then◌else◌}
use Rattle.std.proofs.lemmas.List.{drop_all}
use Rattle.goal_terms.specs.Erased.{compared_node}
use Rattle.goal_terms.specs.SameTree.{same_node}
use Rattle.goal_terms.specs.Tree.{Tree, Trees, node, alias, variable, none, more, node_of, parts_of, list_of, tree_size}
use Rattle.goal_terms.specs.declared.compare.Regions.TheVariants.{Forgotten}
use Rattle.goal_terms.specs.declared.heads.Node.{Node}
use Rattle.goal_terms.specs.declared.heads.Node.TheVariants as nodes
use Rattle.goal_terms.proofs.SizeLemmas.{sizes}
use Rattle.goal_terms.proofs.WalkLemmas.{and-false}
use Rattle.goal_lists.specs.FastReject.{is_open, agree, row_agrees, lists_agree}
use Rattle.goal_lists.specs.declared.fast_reject.Parameters.{Parameters}
use Rattle.goal_lists.specs.declared.fast_reject.Parameters.TheVariants.{Rigid}

-- a row agrees with a list as the list of its trees does
pub row_agrees-list : (test : Node → Node → Bool) (p : Parameters) (ts : Trees) (us : List Tree) →
    row_agrees test p ts us ≡ lists_agree test p (list_of ts) us
unfolding agree lists_agree
row_agrees-list test p none [] = refl
row_agrees-list test p none (u ∷ us) = refl
row_agrees-list test p (more t ts) [] = refl
row_agrees-list test p (more t ts) (u ∷ us) = ap (λ b. agree test p t u && b) (row_agrees-list test p ts us)

-- whether two terms agree, by their tops and their parts
pub agree-walk : (test : Node → Node → Bool) (p : Parameters) (t u : Tree) →
    agree test p t u
    ≡ (if is_open Rigid (node_of t) || is_open p (node_of u) then test (node_of t) (node_of u)
    else same_node (compared_node Forgotten (node_of t)) (compared_node Forgotten (node_of u)) && lists_agree test p (parts_of t) (parts_of u))
unfolding agree is_open
agree-walk test p (node h ts) u =
    ap (λ b. if is_open p (node_of u) then test (nodes.Head h) (node_of u) else same_node (compared_node Forgotten (nodes.Head h)) (compared_node Forgotten (node_of u)) && b)
    (row_agrees-list test p ts (parts_of u))
agree-walk test p (alias k ts) u = refl
agree-walk test p (variable v) u = refl

-- two terms agree by their tops alone, or by their tops and their parts
abbrev by_tops : (Node → Node → Bool) → Parameters → Tree → Tree → Bool → Bool
by_tops test p t u is_some_open =
    if is_some_open then test (node_of t) (node_of u)
    else same_node (compared_node Forgotten (node_of t)) (compared_node Forgotten (node_of u)) && lists_agree test p (parts_of t) (parts_of u)

-- whether a side is open
sides_open : (p : Parameters) (t u : Tree) (n m : Node) (a b : Bool) → n ≡ node_of t → m ≡ node_of u →
    a ≡ is_open Rigid n → b ≡ is_open p m → is_open Rigid (node_of t) || is_open p (node_of u) ≡ a || b
sides_open p t u n m a b e f x y =
    ap (λ z. z || is_open p (node_of u)) (ap (is_open Rigid) (sym e) ∙ sym x) ∙ ap (λ z. a || z) (ap (is_open p) (sym f) ∙ sym y)

-- where one side is open only the two tops count
pub agree-open : (test : Node → Node → Bool) (p : Parameters) (t u : Tree) (n m : Node) (a b : Bool) → n ≡ node_of t → m ≡ node_of u →
    a ≡ is_open Rigid n → b ≡ is_open p m → a || b ≡ true → test n m ≡ agree test p t u
agree-open test p t u n m a b e f x y w =
    ap (λ z. test z m) e ∙ ap (λ z. test (node_of t) z) f
    ∙ sym (agree-walk test p t u ∙ ap (by_tops test p t u) (sides_open p t u n m a b e f x y ∙ w))

-- two closed tops are compared, and then the parts
pub agree-closed : (test : Node → Node → Bool) (p : Parameters) (t u : Tree) (n m : Node) (a b s : Bool) → n ≡ node_of t → m ≡ node_of u →
    a ≡ is_open Rigid n → b ≡ is_open p m → a || b ≡ false →
    s ≡ same_node (compared_node Forgotten n) (compared_node Forgotten m) →
    agree test p t u ≡ s && lists_agree test p (parts_of t) (parts_of u)
agree-closed test p t u n m a b s e f x y w same =
    agree-walk test p t u ∙ ap (by_tops test p t u) (sides_open p t u n m a b e f x y ∙ w)
    ∙ ap (λ z. same_node (compared_node Forgotten z) (compared_node Forgotten (node_of u)) && lists_agree test p (parts_of t) (parts_of u)) (sym e)
    ∙ ap (λ z. same_node (compared_node Forgotten n) (compared_node Forgotten z) && lists_agree test p (parts_of t) (parts_of u)) (sym f)
    ∙ ap (λ z. z && lists_agree test p (parts_of t) (parts_of u)) (sym same)

-- one of two tests that passes, and two that do not
pub left_passes : (a b : Bool) → a ≡ true → a || b ≡ true
left_passes a b e = ap (λ x. x || b) e

pub right_passes : (a b : Bool) → a ≡ false → b ≡ true → a || b ≡ true
right_passes a b e f = ap (λ x. x || b) e ∙ f

pub none_passes : (a b : Bool) → a ≡ false → b ≡ false → a || b ≡ false
none_passes a b e f = ap (λ x. x || b) e ∙ f

-- whether the parts from a place on agree
unfoldable pub agree_from : (Node → Node → Bool) → Parameters → List Tree → List Tree → ℕ → Bool
agree_from test p ts us i = lists_agree test p (drop i ts) (drop i us)

agree_from-suc : (test : Node → Node → Bool) (p : Parameters) (ts us : List Tree) (i : ℕ) (t u : Tree) → slice_get ts i ≡ Some t → slice_get us i ≡ Some u →
    agree_from test p ts us i ≡ agree test p t u && agree_from test p ts us (suc i)
unfolding agree_from lists_agree
agree_from-suc test p [] us i t u e f = absurd (cc)
agree_from-suc test p (x ∷ ts) [] i t u e f = absurd (cc)
agree_from-suc test p (x ∷ ts) (y ∷ us) zero t u e f =
    let one : x ≡ t = cc in let two : y ≡ u = cc in
    ap (λ w. agree test p w y && lists_agree test p ts us) one ∙ ap (λ w. agree test p t w && lists_agree test p ts us) two
agree_from-suc test p (x ∷ ts) (y ∷ us) (suc i) t u e f = agree_from-suc test p ts us i t u e f

agree_from-step : (test : Node → Node → Bool) (p : Parameters) (ts us : List Tree) (i : ℕ) (t u : Tree) → slice_get ts i ≡ Some t → slice_get us i ≡ Some u →
    agree_from test p ts us i ≡ agree test p t u && agree_from test p ts us (i + 1)
agree_from-step test p ts us i t u e f = rw add-one (agree_from-suc test p ts us i t u e f)

-- past parts that agree
pub agree_from-more : (test : Node → Node → Bool) (p : Parameters) (ts us : List Tree) (i : ℕ) (t u : Tree) (b : Bool) → slice_get ts i ≡ Some t → slice_get us i ≡ Some u →
    agree test p t u ≡ true → agree_from test p ts us i ≡ b → agree_from test p ts us (i + 1) ≡ b
agree_from-more test p ts us i t u b e f h k = ap (λ w. w && agree_from test p ts us (i + 1)) (sym h) ∙ sym (agree_from-step test p ts us i t u e f) ∙ k

-- at parts that do not
pub agree_from-none : (test : Node → Node → Bool) (p : Parameters) (ts us : List Tree) (i : ℕ) (t u : Tree) (b : Bool) → slice_get ts i ≡ Some t → slice_get us i ≡ Some u →
    agree test p t u ≡ false → agree_from test p ts us i ≡ b → b ≡ false
agree_from-none test p ts us i t u b e f h k = sym k ∙ agree_from-step test p ts us i t u e f ∙ ap (λ w. w && agree_from test p ts us (i + 1)) h

-- past the last parts
pub agree_from-end : (test : Node → Node → Bool) (p : Parameters) (ts us : List Tree) (i : ℕ) → length ts ≡ i → length us ≡ i → agree_from test p ts us i ≡ true
unfolding agree_from lists_agree
agree_from-end test p ts us i e f =
    let one : drop i ts ≡ [] = drop_all i ts (omega arith) in
    let two : drop i us ≡ [] = drop_all i us (omega arith) in
    rw (one, two) refl

-- from the first place on
pub agree_from-start : (test : Node → Node → Bool) (p : Parameters) (ts us : List Tree) → agree_from test p ts us 0 ≡ lists_agree test p ts us
unfolding agree_from
agree_from-start test p ts us = refl

-- lists of other lengths
pub lists_agree-lengths : (test : Node → Node → Bool) (p : Parameters) (ts us : List Tree) → length us ≢ length ts → lists_agree test p ts us ≡ false
unfolding lists_agree
lists_agree-lengths test p [] [] e = absurd (e refl)
lists_agree-lengths test p [] (u ∷ us) e = refl
lists_agree-lengths test p (t ∷ ts) [] e = refl
lists_agree-lengths test p (t ∷ ts) (u ∷ us) e =
    ap (λ b. agree test p t u && b) (lists_agree-lengths test p ts us (λ h. e (ap suc h))) ∙ and-false (agree test p t u)

-- a part has no more nodes than all
pub size-among : (ts : List Tree) (i : ℕ) (t : Tree) → slice_get ts i ≡ Some t → tree_size t ≤ sizes ts
unfolding sizes
size-among [] i t e = absurd (cc)
size-among (x ∷ ts) zero t e = let p : x ≡ t = cc in omega (arith, ap tree_size p)
size-among (x ∷ ts) (suc i) t e = omega (arith, size-among ts i t e)
