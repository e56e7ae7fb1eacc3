-- Comparisons of terms by their numbers.
use Rattle.std.proofs.Common.{◌≡◌, ◌≢◌, ℕ, zero, suc, ◌+◌, ◌<◌, ◌≤◌, Bool, true, false, List, [], ◌∷◌, ◌++◌, length, map, get_or, take, Some, refl, sym, ap, ◌∙◌, arith, add-one}
use Rattle.std.specs.Prelude.{slice_get}
use Rattle.std.proofs.lemmas.List.{take_all, length-map}
use Rattle.goal_terms.specs.Tree.{Tree, node_of, parts_of}
use Rattle.goal_terms.specs.Erased.{erased, compared_node}
use Rattle.goal_terms.specs.SameHead.{top_of}
use Rattle.goal_interner.specs.TableMeaning.{tree_at}
use Rattle.goal_terms.specs.TreeWith.{tree_with}
use Rattle.goal_terms.specs.SameTree.{same_node}
use Rattle.goal_terms.specs.SameLaws.{same_node-true, same_node-refl}
use Rattle.goal_terms.proofs.WalkLemmas.{parts_of-compared, node_of-compared}
use Rattle.goal_interner.proofs.InternLemmas.{tree_with-parts}
use Rattle.goal_terms.specs.declared.heads.Node.{Node}
use Rattle.std.proofs.lemmas.Bool.{false≢true}
use Rattle.goal_terms.specs.declared.compare.Regions.TheVariants.{Forgotten}
use Rattle.goal_interner.specs.declared.term_nodes.TermId.{TermId}

module _ {A : Type 0} where
  -- two lists that are compared from the front
  agree-suc : (xs : List A) (i : ℕ) (x : A) → slice_get xs i ≡ Some x → take (suc i) xs ≡ take i xs ++ x ∷ []
  agree-suc [] i x e = absurd (cc)
  agree-suc (y ∷ xs) zero x e = let p : y ≡ x = cc in ap (λ z. z ∷ []) p
  agree-suc (y ∷ xs) (suc i) x e = ap (λ ys. y ∷ ys) (agree-suc xs i x e)

  agree-one : (xs : List A) (i : ℕ) (x : A) → slice_get xs i ≡ Some x → take (i + 1) xs ≡ take i xs ++ x ∷ []
  agree-one xs i x e = rw add-one (agree-suc xs i x e)

  pub agree-more : (xs ys : List A) (i : ℕ) (x y : A) → slice_get xs i ≡ Some x → slice_get ys i ≡ Some y → x ≡ y →
      take i xs ≡ take i ys → take (i + 1) xs ≡ take (i + 1) ys
  agree-more xs ys i x y ex ey e h =
      agree-one xs i x ex ∙ ap (λ zs. zs ++ x ∷ []) h ∙ ap (λ z. take i ys ++ z ∷ []) e ∙ sym (agree-one ys i y ey)

  pub agree-none : (xs ys : List A) (i : ℕ) (x y : A) → slice_get xs i ≡ Some x → slice_get ys i ≡ Some y → x ≢ y → xs ≢ ys
  agree-none xs ys i x y ex ey differ e =
      let p : Some x ≡ Some y = sym ex ∙ ap (λ zs. slice_get zs i) e ∙ ey in let q : x ≡ y = cc in differ q

  pub agree-end : (xs ys : List A) (i : ℕ) → length xs ≤ i → length ys ≤ i → take i xs ≡ take i ys → xs ≡ ys
  agree-end xs ys i lx ly e = sym (take_all i xs lx) ∙ e ∙ take_all i ys ly

-- a part, by its number
pub part_at : {A : Type 0} (f : Tree → A) (ts : List Tree) (ids : List TermId) (i : ℕ) (d : TermId) → i < length ids →
    slice_get (map f (map (tree_at ts) ids)) i ≡ Some (f (tree_at ts (get_or ids i d)))
part_at f ts [] i d l = absurd (omega arith)
part_at f ts (id ∷ ids) zero d l = refl
part_at f ts (id ∷ ids) (suc i) d l = part_at f ts ids i d (omega arith)

parts_of-erased : (t : Tree) → parts_of (erased t) ≡ map erased (parts_of t)
parts_of-erased t = parts_of-compared Forgotten t

node_of-erased : (t : Tree) → node_of (erased t) ≡ top_of t
node_of-erased t = node_of-compared Forgotten t

-- two terms, by their tops and their parts
pub erased-joined : (t u : Tree) → top_of t ≡ top_of u → map erased (parts_of t) ≡ map erased (parts_of u) → erased t ≡ erased u
erased-joined t u p q =
    sym (tree_with-parts (erased t))
    ∙ ap (λ n. tree_with n (parts_of (erased t))) (node_of-erased t ∙ p ∙ sym (node_of-erased u))
    ∙ ap (tree_with (node_of (erased u))) (parts_of-erased t ∙ q ∙ sym (parts_of-erased u))
    ∙ tree_with-parts (erased u)

pub erased-top : (t u : Tree) → erased t ≡ erased u → top_of t ≡ top_of u
erased-top t u e = sym (node_of-erased t) ∙ ap node_of e ∙ node_of-erased u

pub erased-parts : (t u : Tree) → erased t ≡ erased u → map erased (parts_of t) ≡ map erased (parts_of u)
erased-parts t u e = sym (parts_of-erased t) ∙ ap parts_of e ∙ parts_of-erased u

-- what a comparison of nodes says
pub tops-same : (n m : Node) (t u : Tree) (b : Bool) → b ≡ same_node (compared_node Forgotten n) (compared_node Forgotten m) →
    n ≡ node_of t → m ≡ node_of u → b ≡ true → top_of t ≡ top_of u
tops-same n m t u b e p q h =
    sym (ap (compared_node Forgotten) p) ∙ same_node-true (compared_node Forgotten n) (compared_node Forgotten m) (sym e ∙ h) ∙ ap (compared_node Forgotten) q

pub tops-differ : (n m : Node) (t u : Tree) (b : Bool) → b ≡ same_node (compared_node Forgotten n) (compared_node Forgotten m) →
    n ≡ node_of t → m ≡ node_of u → b ≡ false → top_of t ≢ top_of u
tops-differ n m t u b e p q h same =
    let one : compared_node Forgotten n ≡ compared_node Forgotten m = ap (compared_node Forgotten) p ∙ same ∙ sym (ap (compared_node Forgotten) q) in
    false≢true (sym h ∙ e ∙ ap (same_node (compared_node Forgotten n)) (sym one) ∙ same_node-refl (compared_node Forgotten n))

pub same-count : {A : Type 0} (f : Tree → A) (ts : List Tree) (is js : List TermId) →
    map f (map (tree_at ts) is) ≡ map f (map (tree_at ts) js) → length is ≡ length js
same-count f ts is js e =
    sym (length-map is (tree_at ts)) ∙ sym (length-map (map (tree_at ts) is) f) ∙ ap length e
    ∙ length-map (map (tree_at ts) js) f ∙ length-map js (tree_at ts)

pub length-parts : {A : Type 0} (f : Tree → A) (ts : List Tree) (is : List TermId) → length (map f (map (tree_at ts) is)) ≡ length is
length-parts f ts is = length-map (map (tree_at ts) is) f ∙ length-map is (tree_at ts)
