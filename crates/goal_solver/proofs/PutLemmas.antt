-- Head forms in the place of their aliases, part by part.
use Rattle.std.proofs.Common.{◌≡◌, ◌<◌, ◌≤◌, ◌+◌, ℕ, zero, suc, Bool, true, false, not, List, [], ◌∷◌, ◌++◌, length, take, add-one, Some, refl, sym, ap, ◌∙◌, subst, inl, inr, arith, get_or, true≢false}
use Rattle.std.specs.Prelude.{slice_get, is_some}
use Rattle.std.specs.List.{AllZip}
use Rattle.std.proofs.lemmas.List.{take_all, length-map, map_push}
use Rattle.std.proofs.lemmas.List.Elements.{All-nil}
use Rattle.std.proofs.lemmas.Option.{slice_get_within}
use Rattle.goal_terms.specs.Sorts.{Fits}
use Rattle.goal_interner.specs.TableMeaning.{tree_at, AreBelow, Keeps}
use Rattle.goal_terms.specs.Tree.{Tree, Trees, node, alias, variable, none, more, node_of, parts_of, forest}
use Rattle.goal_terms.specs.TreeWith.{tree_with}
use Rattle.goal_interner.specs.declared.term_nodes.TermId.{TermId}
use Rattle.goal_terms.specs.TreeCode.{forest-list_of}
use Rattle.goal_terms.specs.declared.heads.Head.{Head}
use Rattle.goal_terms.specs.declared.heads.Node.{Node}
use Rattle.goal_terms.specs.declared.heads.Node.TheVariants as nodes
use Rattle.goal_interner.proofs.TableLemmas.{node_of-tree_with, parts_of-tree_with}
use Rattle.goal_interner.proofs.UnderLemmas.{trees-same}
use Rattle.goal_infer.proofs.SortLemmas.{fits-sorts}
use Rattle.goal_lists.specs.Headers.{parameter_of}
use Rattle.goal_solver.specs.OpenHeaders.{is_entered, trees_at, HaveOneSort, IsFormIn, IsPut, AreAllPut, ArePut}
use Rattle.goal_solver.specs.declared.relate.headers.FoundForm.{FoundForm}

not-true : (b : Bool) → not b ≡ true → b ≡ false
not-true false e = refl
not-true true e = absurd (true≢false (sym e))

-- nothing is put anywhere
put-same : (a u h x : Tree) → IsPut a u h x x
unfolding IsPut
put-same a u (node h hs) x = inl refl
put-same a u (alias k hs) x = refl
put-same a u (variable v) x = refl

pub put-as_is : (a u h x y : Tree) → x ≡ y → IsPut a u h x y
put-as_is a u h x y e = subst (IsPut a u h x) e (put-same a u h x)

all_put-same : (a u : Tree) (hs : Trees) (xs : List Tree) → AreAllPut a u hs xs xs
unfolding IsPut
all_put-same a u none xs = refl
all_put-same a u (more h hs) [] = refl
all_put-same a u (more h hs) (x ∷ xs) = (put-same a u h x, all_put-same a u hs xs)

pub all_put-as_are : (a u : Tree) (hs : Trees) (xs ys : List Tree) → xs ≡ ys → AreAllPut a u hs xs ys
all_put-as_are a u hs xs ys e = subst (AreAllPut a u hs xs) e (all_put-same a u hs xs)

-- one more part
all_put-last : (a u : Tree) (hs : List Tree) (h : Tree) (xs : List Tree) (x : Tree) (ys : List Tree) (y : Tree) → length hs ≡ length xs →
    AreAllPut a u (forest hs) xs ys → IsPut a u h x y → AreAllPut a u (forest (hs ++ h ∷ [])) (xs ++ x ∷ []) (ys ++ y ∷ [])
unfolding IsPut
all_put-last a u [] h [] x ys y l before here = subst (λ zs. AreAllPut a u (more h none) (x ∷ []) (zs ++ y ∷ [])) before (here, refl)
all_put-last a u [] h (z ∷ xs) x ys y l before here = absurd (omega (arith, l))
all_put-last a u (g ∷ hs) h [] x ys y l before here = absurd (omega (arith, l))
all_put-last a u (g ∷ hs) h (z ∷ xs) x [] y l before here = absurd before
all_put-last a u (g ∷ hs) h (z ∷ xs) x (w ∷ ys) y l before here = (before.0, all_put-last a u hs h xs x ys y (omega (arith, l)) before.1 here)

sorts-last : (ts : List Tree) (t : Tree) (us : List Tree) (u : Tree) → AllZip HaveOneSort ts us → HaveOneSort t u → AllZip HaveOneSort (ts ++ t ∷ []) (us ++ u ∷ [])
sorts-last [] t [] u z h = (h, tt)
sorts-last [] t (y ∷ us) u z h = absurd z
sorts-last (x ∷ ts) t [] u z h = absurd z
sorts-last (x ∷ ts) t (y ∷ us) u z h = (z.0, sorts-last ts t us u z.1 h)

sorts-same : (ts : List Tree) → AllZip HaveOneSort ts ts
sorts-same [] = tt
sorts-same (t ∷ ts) = (refl, sorts-same ts)

pub sorts-as_are : (ts us : List Tree) → ts ≡ us → AllZip HaveOneSort ts us
sorts-as_are ts us e = subst (AllZip HaveOneSort ts) e (sorts-same ts)

taken-suc : {A : Type 0} (xs : List A) (i : ℕ) (x : A) → slice_get xs i ≡ Some x → take (suc i) xs ≡ take i xs ++ x ∷ []
taken-suc [] i x e = absurd (cc)
taken-suc (y ∷ xs) zero x e = let p : y ≡ x = cc in ap (λ z. z ∷ []) p
taken-suc (y ∷ xs) (suc i) x e = ap (λ zs. y ∷ zs) (taken-suc xs i x e)

taken-more : {A : Type 0} (xs : List A) (i : ℕ) (x : A) → slice_get xs i ≡ Some x → take (i + 1) xs ≡ take i xs ++ x ∷ []
taken-more xs i x e = rw add-one (taken-suc xs i x e)

taken-count : {A : Type 0} (xs : List A) (i : ℕ) → i ≤ length xs → length (take i xs) ≡ i
taken-count [] zero l = refl
taken-count [] (suc i) l = absurd (omega arith)
taken-count (x ∷ xs) zero l = refl
taken-count (x ∷ xs) (suc i) l = ap suc (taken-count xs i (omega arith))

-- a walk over given terms: what was made of the first ones
pub record IsPutSoFar (T U : List Tree) (f : FoundForm) (hs : List Tree) (given made : List TermId) (i : ℕ) : Type 0 where
  pub put : ArePut T f (take i hs) (take i (trees_at T given)) (trees_at U made)
  pub sorts : AllZip HaveOneSort (take i (trees_at T given)) (trees_at U made)

begun-so : (T : List Tree) (f : FoundForm) (hs : List Tree) (given : List TermId) → IsPutSoFar T T f hs given [] 0
unfolding IsPut
begun-so T f [] [] = record { put = refl; sorts = tt }
begun-so T f [] (g ∷ given) = record { put = refl; sorts = tt }
begun-so T f (h ∷ hs) [] = record { put = refl; sorts = tt }
begun-so T f (h ∷ hs) (g ∷ given) = record { put = refl; sorts = tt }

pub put-begun : (T : List Tree) (f : FoundForm) (hs : List Tree) (given made : List TermId) → made ≡ [] → IsPutSoFar T T f hs given made 0
put-begun T f hs given made e = subst (λ ids. IsPutSoFar T T f hs given ids 0) (sym e) (begun-so T f hs given)

pub none-below : (n : ℕ) (made : List TermId) → made ≡ [] → AreBelow n made
none-below n made e = subst (AreBelow n) (sym e) (All-nil (λ (id : TermId). id.0 < n))

-- one more of them
pub put-more : (T U V : List Tree) (f : FoundForm) (hs : List Tree) (given ids ns : List TermId) (i : ℕ) (h : Tree) (g r : TermId) → Keeps T U → Keeps U V → IsFormIn T f →
    length hs ≡ length given → slice_get hs i ≡ Some h → slice_get (trees_at T given) i ≡ Some (tree_at T g) → g.0 < length T → ns ≡ ids ++ r ∷ [] → AreBelow (length U) ids →
    IsPutSoFar T U f hs given ids i → IsPut (tree_at U f.alias) (tree_at U f.form) h (tree_at U g) (tree_at V r) → HaveOneSort (tree_at U g) (tree_at V r) →
    IsPutSoFar T V f hs given ns (i + 1)
put-more T U V f hs given ids ns i h g r first second within lengths at there below_g is below so_far put sort =
    let made : trees_at V ns ≡ trees_at U ids ++ tree_at V r ∷ [] =
    ap (trees_at V) is ∙ map_push (tree_at V) ids r ∙ ap (λ ts. ts ++ tree_at V r ∷ []) (trees-same U V ids second below) in
    let inside : i < length hs = slice_get_within hs i h at in
    let same : length (take i hs) ≡ length (take i (trees_at T given)) =
    taken-count hs i (omega arith) ∙ sym (taken-count (trees_at T given) i (omega (arith, length-map given (tree_at T)))) in
    let put_here : IsPut (tree_at T f.alias) (tree_at T f.form) h (tree_at T g) (tree_at V r) =
    rw (sym (first.same f.alias within.0), sym (first.same f.form within.1), sym (first.same g below_g)) put in
    let sort_here : HaveOneSort (tree_at T g) (tree_at V r) = subst (λ t. HaveOneSort t (tree_at V r)) (first.same g below_g) sort in
    record {
      put = rw (taken-more hs i h at, taken-more (trees_at T given) i (tree_at T g) there, made)
          (all_put-last (tree_at T f.alias) (tree_at T f.form) (take i hs) h (take i (trees_at T given)) (tree_at T g) (trees_at U ids) (tree_at V r) same so_far.put put_here);
      sorts = rw (taken-more (trees_at T given) i (tree_at T g) there, made)
          (sorts-last (take i (trees_at T given)) (tree_at T g) (trees_at U ids) (tree_at V r) so_far.sorts sort_here);
    }

-- all of them
pub put-done : (T U : List Tree) (f : FoundForm) (hs : List Tree) (given made : List TermId) (i : ℕ) → length hs ≡ length given → length given ≤ i →
    IsPutSoFar T U f hs given made i → ArePut T f hs (trees_at T given) (trees_at U made)
put-done T U f hs given made i lengths l so_far =
    subst (λ xs. ArePut T f xs (trees_at T given) (trees_at U made)) (take_all i hs (omega arith))
    (subst (λ xs. ArePut T f (take i hs) xs (trees_at U made)) (take_all i (trees_at T given) (omega (arith, length-map given (tree_at T)))) so_far.put)

pub sorts-done : (T U : List Tree) (f : FoundForm) (hs : List Tree) (given made : List TermId) (i : ℕ) → length given ≤ i → IsPutSoFar T U f hs given made i →
    AllZip HaveOneSort (trees_at T given) (trees_at U made)
sorts-done T U f hs given made i l so_far =
    subst (λ xs. AllZip HaveOneSort xs (trees_at U made)) (take_all i (trees_at T given) (omega (arith, length-map given (tree_at T)))) so_far.sorts

-- a constructor that is gone into is no parameter
open-head : (k : Head) → is_entered (nodes.Head k) ≡ true → is_some (parameter_of k) ≡ false
open-head k e = not-true (is_some (parameter_of k)) e

-- one of several given terms
pub index-there : (T : List Tree) (ids : List TermId) (i : ℕ) (d : TermId) → i < length ids → slice_get (trees_at T ids) i ≡ Some (tree_at T (get_or ids i d))
index-there T [] i d l = absurd (omega arith)
index-there T (id ∷ ids) zero d l = refl
index-there T (id ∷ ids) (suc i) d l = index-there T ids i d (omega arith)

-- an alias and its form, in a table that has grown
pub found-grown : (T U : List Tree) (f : FoundForm) → Keeps T U → IsFormIn T f → IsFormIn U f
found-grown T U f keeps h =
    let longer : length T ≤ length U = keeps.longer in
    let first : f.alias.0 < length T = h.0 in
    let second : f.form.0 < length T = h.1 in
    (omega arith, omega arith, rw (keeps.same f.alias h.0, keeps.same f.form h.1) h.2)

-- a term made of what was put below it
module _ (T U : List Tree) (g : TermId) (n : Node) (ids copies made : List TermId) (parts : trees_at T ids ≡ parts_of (tree_at T g)) (same : copies ≡ ids) where
  copied : trees_at T copies ≡ parts_of (tree_at T g)
  copied = ap (trees_at T) same ∙ parts

  pub put-fits : AllZip HaveOneSort (trees_at T copies) (trees_at U made) → Fits n (parts_of (tree_at T g)) → Fits n (trees_at U made)
  put-fits sorts fits = fits-sorts (parts_of (tree_at T g)) (trees_at U made) (subst (λ ts. AllZip HaveOneSort ts (trees_at U made)) copied sorts) n fits

  pub put-made : (a u h : Tree) (m : Node) (hs : List Tree) (y : Tree) → m ≡ node_of h → is_entered m ≡ true → hs ≡ parts_of h → n ≡ node_of (tree_at T g) → Fits n (trees_at U made) →
      AreAllPut a u (forest hs) (trees_at T copies) (trees_at U made) → y ≡ tree_with n (trees_at U made) → IsPut a u h (tree_at T g) y
  unfolding IsPut
  put-made a u (node k ks) m hs y top entered below other fits put is =
      inr (
        open-head k (sym (ap is_entered top) ∙ entered),
        inr (
          sym other ∙ sym (ap node_of is ∙ node_of-tree_with n (trees_at U made)),
          subst (λ xs. AreAllPut a u ks xs (parts_of y)) copied
              (subst (AreAllPut a u ks (trees_at T copies)) (sym (ap parts_of is ∙ parts_of-tree_with n (trees_at U made) fits))
              (subst (λ x. AreAllPut a u x (trees_at T copies) (trees_at U made)) (ap forest below ∙ forest-list_of ks) put)),
        ),
      )
  put-made a u (alias k ks) m hs y top entered below other fits put is = absurd (true≢false (sym entered ∙ ap is_entered top))
  put-made a u (variable v) m hs y top entered below other fits put is = absurd (true≢false (sym entered ∙ ap is_entered top))

-- the alias itself
pub put-here : (a u h x : Tree) (m : Node) → m ≡ node_of h → is_entered m ≡ true → x ≡ a → IsPut a u h x u
unfolding IsPut
put-here a u (node k ks) x m top entered is = inr (open-head k (sym (ap is_entered top) ∙ entered), inl (is, refl))
put-here a u (alias k ks) x m top entered is = absurd (true≢false (sym entered ∙ ap is_entered top))
put-here a u (variable v) x m top entered is = absurd (true≢false (sym entered ∙ ap is_entered top))
