-- Tests of what stands in a term, part by part.
use Rattle.std.proofs.Common.{◌≡◌, ℕ, zero, suc, ◌+◌, ◌<◌, ◌≤◌, Bool, true, false, ◌||◌, ◌&&◌, not, List, [], ◌∷◌, length, drop, get_or, Some, refl, sym, ap, ◌∙◌, add-one, arith}
use Rattle.std.specs.Prelude.{slice_get}
use Rattle.std.proofs.lemmas.List.{drop_all}
use Rattle.goal_terms.specs.Tree.{Tree, Trees, node, alias, variable, none, more, node_of, parts_of, list_of}
use Rattle.goal_terms.specs.NodeTests.{same_var_kind, is_made, some_node, some_in_row, some_node_outside_aliases, some_in_row_outside_aliases, is_left_out, some_node_within}
use Rattle.goal_terms.specs.Erased.{erased, erased_row, erased_head}
use Rattle.goal_terms.specs.declared.answers.VarKind.{VarKind}
use Rattle.goal_terms.specs.declared.heads.Head.{Head}
use Rattle.goal_terms.specs.declared.heads.Node.{Node}
use Rattle.goal_terms.specs.declared.heads.Node.TheVariants as nodes
use Rattle.goal_terms.specs.declared.node_tests.Within.{Within}
use Rattle.goal_terms.specs.declared.node_tests.Within.TheVariants.{Everything, OutsideAliases}
use Rattle.goal_terms.proofs.WalkLemmas.{tree_size-part}

pub is_made-past : (vs : List VarKind) (n : ℕ) (k : VarKind) → length vs ≤ n → is_made vs n k ≡ false
is_made-past [] n k h = refl
is_made-past (v ∷ vs) zero k h = absurd (omega arith)
is_made-past (v ∷ vs) (suc n) k h = is_made-past vs n k (omega arith)

pub is_made-some : (vs : List VarKind) (n : ℕ) (d k : VarKind) → n < length vs → same_var_kind (get_or vs n d) k ≡ is_made vs n k
is_made-some [] n d k h = absurd (omega arith)
is_made-some (v ∷ vs) zero d k h = refl
is_made-some (v ∷ vs) (suc n) d k h = is_made-some vs n d k (omega arith)

pub ruleset making = (is_made-past, is_made-some)

-- whether some node of some term of a list passes, where the test looks
abbrev some_in_list : Within → (Node → Bool) → List Tree → Bool
some_in_list w p [] = false
some_in_list w p (t ∷ ts) = some_node_within w p t || some_in_list w p ts

-- whether some node of the terms from a place on passes
unfoldable pub some_from : Within → (Node → Bool) → List Tree → ℕ → Bool
some_from w p ts i = some_in_list w p (drop i ts)

some_from-step : (w : Within) (p : Node → Bool) (ts : List Tree) (i : ℕ) (t : Tree) →
    slice_get ts i ≡ Some t → some_from w p ts i ≡ some_node_within w p t || some_from w p ts (suc i)
unfolding some_from
some_from-step w p [] i t e = absurd (cc)
some_from-step w p (x ∷ ts) zero t e = let q : x ≡ t = cc in ap (λ y. some_node_within w p y || some_in_list w p ts) q
some_from-step w p (x ∷ ts) (suc i) t e = some_from-step w p ts i t e

pub some_from-more : (w : Within) (p : Node → Bool) (ts : List Tree) (i : ℕ) (t : Tree) (b : Bool) →
    slice_get ts i ≡ Some t → some_node_within w p t ≡ false → some_from w p ts i ≡ b → some_from w p ts (i + 1) ≡ b
some_from-more w p ts i t b e h k =
    rw add-one (ap (λ y. y || some_from w p ts (suc i)) (sym h) ∙ sym (some_from-step w p ts i t e) ∙ k)

pub some_from-found : (w : Within) (p : Node → Bool) (ts : List Tree) (i : ℕ) (t : Tree) (b : Bool) →
    slice_get ts i ≡ Some t → some_node_within w p t ≡ true → some_from w p ts i ≡ b → b ≡ true
some_from-found w p ts i t b e h k = sym k ∙ some_from-step w p ts i t e ∙ ap (λ y. y || some_from w p ts (suc i)) h

pub some_from-end : (w : Within) (p : Node → Bool) (ts : List Tree) (i : ℕ) → length ts ≡ i → some_from w p ts i ≡ false
unfolding some_from
some_from-end w p ts i e = let q : drop i ts ≡ [] = drop_all i ts (omega arith) in ap (some_in_list w p) q

some_in_row-list : (p : Node → Bool) (ts : Trees) → some_in_row p ts ≡ some_in_list Everything p (list_of ts)
unfolding some_node
some_in_row-list p none = refl
some_in_row-list p (more t ts) = ap (λ b. some_node p t || b) (some_in_row-list p ts)

some_in_row_outside-list : (p : Node → Bool) (ts : Trees) → some_in_row_outside_aliases p ts ≡ some_in_list OutsideAliases p (list_of ts)
unfolding some_node_outside_aliases
some_in_row_outside-list p none = refl
some_in_row_outside-list p (more t ts) = ap (λ b. some_node_outside_aliases p t || b) (some_in_row_outside-list p ts)

or_false : (b : Bool) → b ≡ b || false
or_false true = refl
or_false false = refl

-- a walk tests a node that isn't left out, and then its parts
pub some_node-walk : (w : Within) (p : Node → Bool) (t : Tree) →
    some_node_within w p t ≡ not (is_left_out w (node_of t)) && (p (node_of t) || some_from w p (parts_of t) 0)
unfolding some_node some_node_outside_aliases some_from
some_node-walk Everything p (node h ts) = ap (λ b. p (nodes.Head h) || b) (some_in_row-list p ts)
some_node-walk Everything p (alias k ts) = ap (λ b. p (nodes.Alias k) || b) (some_in_row-list p ts)
some_node-walk Everything p (variable v) = or_false (p (nodes.Variable v))
some_node-walk OutsideAliases p (node h ts) = ap (λ b. p (nodes.Head h) || b) (some_in_row_outside-list p ts)
some_node-walk OutsideAliases p (alias k ts) = refl
some_node-walk OutsideAliases p (variable v) = or_false (p (nodes.Variable v))

pub ruleset testing = (some_node-walk, some_from-more, some_from-found, some_from-end, tree_size-part)

mutual
  unfolding some_node erased

  -- a test that no lifetime changes passes in a term as in what erasing leaves of it
  pub some_node-erased : (p : Node → Bool) → ((h : Head) → p (nodes.Head (erased_head h)) ≡ p (nodes.Head h)) →
      (t : Tree) → some_node p (erased t) ≡ some_node p t
  some_node-erased p e (node h ts) =
      ap (λ b. b || some_in_row p (erased_row ts)) (e h) ∙ ap (λ b. p (nodes.Head h) || b) (some_in_row-erased p e ts)
  some_node-erased p e (alias k ts) = ap (λ b. p (nodes.Alias k) || b) (some_in_row-erased p e ts)
  some_node-erased p e (variable v) = refl

  some_in_row-erased : (p : Node → Bool) → ((h : Head) → p (nodes.Head (erased_head h)) ≡ p (nodes.Head h)) →
      (ts : Trees) → some_in_row p (erased_row ts) ≡ some_in_row p ts
  some_in_row-erased p e none = refl
  some_in_row-erased p e (more t ts) =
      ap (λ b. b || some_in_row p (erased_row ts)) (some_node-erased p e t) ∙ ap (λ b. some_node p t || b) (some_in_row-erased p e ts)
