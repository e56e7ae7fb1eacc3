-- Terms with fresh lifetimes, part by part.
use Rattle.std.proofs.Common.{◌≡◌, ℕ, Bool, ◌+◌, ◌<◌, ◌≤◌, false, List, [], ◌∷◌, ◌++◌, length, map, take, refl, sym, ap, ◌∙◌, subst}
use Rattle.std.specs.Prelude.{◌||◌}
use Rattle.std.specs.List.{AllZip}
use Rattle.std.proofs.lemmas.List.{get_or_default, take_all}
use Rattle.std.proofs.lemmas.List.Elements.{all_zip_more}
use Rattle.goal_terms.specs.Erased.{erased, erased_head, compared_node}
use Rattle.goal_terms.specs.NodeTests.{some_node, some_in_row}
use Rattle.goal_terms.specs.Sorts.{sort_of, tree_in, part_at, HeadFits, Fits}
use Rattle.goal_interner.specs.TableMeaning.{tree_at, AreBelow, Keeps}
use Rattle.goal_terms.specs.Tree.{Tree, node_of, parts_of, forest}
use Rattle.goal_terms.specs.TreeOf.{leaf}
use Rattle.goal_terms.specs.TreeWith.{tree_with}
use Rattle.goal_terms.specs.declared.compare.Regions.TheVariants.{Forgotten}
use Rattle.goal_terms.specs.declared.heads.Head.TheVariants as head
use Rattle.goal_terms.specs.declared.heads.Head.{Head}
use Rattle.goal_terms.specs.declared.heads.Node.{Node}
use Rattle.goal_terms.specs.declared.heads.Node.TheVariants as nodes
use Rattle.goal_interner.specs.declared.term_nodes.TermId.{TermId}
use Rattle.goal_interner.proofs.InternLemmas.{tree_with-parts}
use Rattle.goal_infer.specs.FreshLifetimes.{names_erased, IsFreshened}
use Rattle.goal_infer.proofs.FollowLemmas.{sort-forgotten, erased-with, numbers-kept, map-push}
use Rattle.goal_infer.proofs.SortLemmas.{HaveOneSort, fits-sorts}

-- a node fits its parts as before
sort-fresh : (t u : Tree) → IsFreshened t u → HaveOneSort t u
sort-fresh t u f = sym (sort-forgotten u) ∙ ap (λ x. sort_of (node_of x)) f.same ∙ sort-forgotten t

zip-sorts : (ts us : List Tree) → AllZip IsFreshened ts us → AllZip HaveOneSort ts us
zip-sorts [] [] z = z
zip-sorts [] (u ∷ us) z = absurd z
zip-sorts (t ∷ ts) [] z = absurd z
zip-sorts (t ∷ ts) (u ∷ us) z = (sort-fresh t u z.0, zip-sorts ts us z.1)

head-forgets : (h : Head) (us : List Tree) → HeadFits h us → HeadFits (erased_head h) us
head-forgets (head.Ref r m) us fits = fits
head-forgets (head.FnPtr b i f) us fits = fits
head-forgets (head.Dynamic n r) us fits = fits
head-forgets (head.Lifetime r) us fits = fits
head-forgets h us fits = fits

head-remembers : (h : Head) (us : List Tree) → HeadFits (erased_head h) us → HeadFits h us
head-remembers (head.Ref r m) us fits = fits
head-remembers (head.FnPtr b i f) us fits = fits
head-remembers (head.Dynamic n r) us fits = fits
head-remembers (head.Lifetime r) us fits = fits
head-remembers h us fits = fits

node-forgets : (n : Node) (us : List Tree) → Fits n us → Fits (compared_node Forgotten n) us
node-forgets (nodes.Head h) us fits = head-forgets h us fits
node-forgets (nodes.Alias k) us fits = fits
node-forgets (nodes.Variable v) us fits = fits

node-remembers : (n : Node) (us : List Tree) → Fits (compared_node Forgotten n) us → Fits n us
node-remembers (nodes.Head h) us fits = head-remembers h us fits
node-remembers (nodes.Alias k) us fits = fits
node-remembers (nodes.Variable v) us fits = fits

pub fits-fresh : (n m : Node) (ts us : List Tree) → compared_node Forgotten m ≡ compared_node Forgotten n → AllZip IsFreshened ts us → Fits n ts → Fits m us
fits-fresh n m ts us e z fits =
    node-remembers m us (subst (λ k. Fits k us) (sym e) (node-forgets n us (fits-sorts ts us (zip-sorts ts us z) n fits)))

-- by top and parts
zip-trees : (ts us : List Tree) → AllZip IsFreshened ts us → map erased us ≡ map erased ts
zip-trees [] [] z = refl
zip-trees [] (u ∷ us) z = absurd z
zip-trees (t ∷ ts) [] z = absurd z
zip-trees (t ∷ ts) (u ∷ us) z = ap (λ x. x ∷ map erased us) z.0.same ∙ ap (λ xs. erased t ∷ xs) (zip-trees ts us z.1)

or-none : (a b : Bool) → a ≡ false → b ≡ false → (a || b) ≡ false
or-none a b p q = ap (λ x. x || b) p ∙ q

row-none : (ts us : List Tree) → AllZip IsFreshened ts us → some_in_row names_erased (forest us) ≡ false
unfolding some_node
row-none [] [] z = refl
row-none [] (u ∷ us) z = absurd z
row-none (t ∷ ts) [] z = absurd z
row-none (t ∷ ts) (u ∷ us) z = or-none (some_node names_erased u) (some_in_row names_erased (forest us)) z.0.none (row-none ts us z.1)

tree-none : (m : Node) (ts us : List Tree) → names_erased m ≡ false → AllZip IsFreshened ts us → some_node names_erased (tree_with m us) ≡ false
unfolding some_node
tree-none (nodes.Head h) ts us none z = or-none (names_erased (nodes.Head h)) (some_in_row names_erased (forest us)) none (row-none ts us z)
tree-none (nodes.Alias k) ts us none z = or-none (names_erased (nodes.Alias k)) (some_in_row names_erased (forest us)) none (row-none ts us z)
tree-none (nodes.Variable v) ts us none z = none

pub fresh-with : (t : Tree) (n m : Node) (us : List Tree) → n ≡ node_of t → compared_node Forgotten m ≡ compared_node Forgotten n → names_erased m ≡ false →
    AllZip IsFreshened (parts_of t) us → IsFreshened t (tree_with m us)
fresh-with t n m us top e none z = record {
  same =
      erased-with m us
      ∙ ap (λ k. tree_with k (map erased us)) (e ∙ ap (compared_node Forgotten) top)
      ∙ ap (tree_with (compared_node Forgotten (node_of t))) (zip-trees (parts_of t) us z)
      ∙ sym (erased-with (node_of t) (parts_of t))
      ∙ ap erased (tree_with-parts t);
  none = tree-none m (parts_of t) us none z;
}

-- one more part has them
pub fresh-more : (T U V : List Tree) → Keeps T U → Keeps U V → (id part r : TermId) (i : ℕ) (ids ns : List TermId) → id.0 < length T → i < length (parts_of (tree_at T id)) →
    ns ≡ ids ++ r ∷ [] → AreBelow (length U) ids → AllZip IsFreshened (take i (parts_of (tree_at T id))) (map (tree_at U) ids) →
    tree_at U part ≡ part_at (tree_at U id) i → IsFreshened (tree_at U part) (tree_at V r) →
    AllZip IsFreshened (take (i + 1) (parts_of (tree_at T id))) (map (tree_at V) ns)
fresh-more T U V first second id part r i ids ns within l e below z at f =
    let ts : List Tree = parts_of (tree_at T id) in
    let here : tree_at U part ≡ tree_in ts i = at ∙ ap (λ u. part_at u i) (first.same id within) in
    subst (AllZip IsFreshened (take (i + 1) ts)) (sym (ap (map (tree_at V)) e ∙ map-push (tree_at V) ids r))
    (all_zip_more IsFreshened ts (map (tree_at V) ids) i (tree_in ts i) (tree_at V r) l (get_or_default ts i (leaf head.Bool) (tree_in ts i) l)
    (subst (AllZip IsFreshened (take i ts)) (sym (numbers-kept U V second ids below)) z) (subst (λ t. IsFreshened t (tree_at V r)) here f))

-- all parts have
pub fresh-all : (ts us : List Tree) (i : ℕ) → length ts ≤ i → AllZip IsFreshened (take i ts) us → AllZip IsFreshened ts us
fresh-all ts us i l z = subst (λ xs. AllZip IsFreshened xs us) (take_all i ts l) z
