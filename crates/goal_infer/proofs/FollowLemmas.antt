-- What terms become when the bindings of their variables are followed.
use Rattle.std.proofs.Common.{◌≡◌, ℕ, zero, suc, ◌+◌, ◌<◌, ◌≤◌, List, [], ◌∷◌, ◌++◌, length, map, take, get_or, Option, Some, None, refl, sym, ap, ◌∙◌, subst, arith}
use Rattle.std.specs.Prelude.{IsTrue}
use Rattle.std.specs.List.{AllZip}
use Rattle.std.proofs.lemmas.Bool.{false≢true}
use Rattle.std.proofs.lemmas.List.{get_or_default, take_all}
use Rattle.std.proofs.lemmas.Option.{slice_get-get_or}
use Rattle.std.proofs.lemmas.List.Elements.{All-head, All-tail, all_zip_more}
use Rattle.goal_terms.specs.Tree.{Tree, Trees, node, alias, variable, none, more, node_of, parts_of, list_of, forest}
use Rattle.goal_terms.specs.Erased.{erased, erased_row, erased_head, compared_node}
use Rattle.goal_terms.specs.Sorts.{sort_of, tree_in, part_at, Fits}
use Rattle.goal_interner.specs.TableMeaning.{tree_at, AreBelow, Keeps}
use Rattle.goal_terms.specs.TreeOf.{leaf}
use Rattle.goal_terms.specs.TreeWith.{tree_with}
use Rattle.goal_terms.specs.declared.compare.Regions.TheVariants.{Forgotten}
use Rattle.goal_terms.specs.declared.heads.Head.TheVariants as head
use Rattle.goal_terms.specs.declared.heads.Node.{Node}
use Rattle.goal_terms.specs.declared.heads.Node.TheVariants as nodes
use Rattle.goal_terms.specs.declared.heads.Variable.{Variable}
use Rattle.goal_terms.specs.declared.heads.Variable.TheVariants as variables
use Rattle.goal_terms.specs.declared.sorts.Sort.{Sort}
use Rattle.goal_terms.specs.declared.sorts.Sort.TheVariants as sorts
use Rattle.goal_interner.specs.declared.term_nodes.TermId.{TermId}
use Rattle.goal_terms.specs.declared.terms.InferTy.TheVariants as infer
use Rattle.goal_interner.proofs.InternLemmas.{tree_with-parts, within-pushed, trees-pushed}
use Rattle.goal_infer.specs.Following.{sort_at, StaysUnbound}
use Rattle.goal_infer.specs.Inference.{Inference}
use Rattle.goal_infer.specs.Replacement.{replaced, replaced_row, takes, is_type_sort, is_const_sort, OfKinds}
use Rattle.goal_infer.specs.Resolution.{term_at, binding_of, binding_at, resolution, resolved, Agrees, IsSolved}
use Rattle.goal_infer.proofs.KindLemmas.{sort-erased, integer-type, floating-type}
use Rattle.goal_infer.proofs.ReplacementLemmas.{height, row_height}
use Rattle.goal_infer.proofs.SameLemmas.{settled, settled-is, settled-top, settled-parts}
use Rattle.goal_infer.proofs.SolvedLemmas.{resolution-as}
use Rattle.goal_infer.proofs.SortLemmas.{HaveOneSort, fits-sorts}

-- what stands for a variable is of its sort
type-sort : (s : Sort) → IsTrue (is_type_sort s) → s ≡ sorts.Ty
type-sort sorts.Ty h = refl
type-sort sorts.Const h = absurd (false≢true h)
type-sort sorts.Lifetime h = absurd (false≢true h)
type-sort sorts.Clause h = absurd (false≢true h)

const-sort : (s : Sort) → IsTrue (is_const_sort s) → s ≡ sorts.Const
const-sort sorts.Ty h = absurd (false≢true h)
const-sort sorts.Const h = refl
const-sort sorts.Lifetime h = absurd (false≢true h)
const-sort sorts.Clause h = absurd (false≢true h)

sort-taken : (v : Variable) (n : Node) → IsTrue (takes v n) → sort_of n ≡ sort_of (nodes.Variable v)
unfolding takes
sort-taken (variables.Ty (infer.TyVar i)) n h = type-sort (sort_of n) h
sort-taken (variables.Ty (infer.IntVar i)) n h = type-sort (sort_of n) (integer-type n h)
sort-taken (variables.Ty (infer.FloatVar i)) n h = type-sort (sort_of n) (floating-type n h)
sort-taken (variables.Const i) n h = const-sort (sort_of n) h

pub sort-forgotten : (t : Tree) → sort_of (node_of (erased t)) ≡ sort_of (node_of t)
unfolding erased
sort-forgotten (node h ts) = sort-erased h
sort-forgotten (alias k ts) = refl
sort-forgotten (variable v) = refl

sort-replaced : (σ : Variable → Tree) → OfKinds σ → (t : Tree) → sort_of (node_of (replaced σ t)) ≡ sort_of (node_of t)
unfolding replaced OfKinds
sort-replaced σ kinds (node h ts) = refl
sort-replaced σ kinds (alias k ts) = refl
sort-replaced σ kinds (variable v) = sort-taken v (node_of (σ v)) (kinds v)

-- so a term keeps its sort
pub sort-settled : (T : List Tree) (s : Inference) → IsSolved T s → (t : Tree) → sort_of (node_of (settled T s t)) ≡ sort_of (node_of t)
unfolding settled
sort-settled T s solved t = sort-replaced (resolution T s) solved.kinds (erased t) ∙ sort-forgotten t

-- a tree, and what it became
pub record IsFollowed (T : List Tree) (s : Inference) (t u : Tree) : Type 0 where
  pub tree : erased u ≡ settled T s t
  pub same : settled T s t ≡ erased t → u ≡ t

sort-followed : (T : List Tree) (s : Inference) → IsSolved T s → (t u : Tree) → IsFollowed T s t u → HaveOneSort t u
sort-followed T s solved t u f = sym (sort-forgotten u) ∙ ap (λ x. sort_of (node_of x)) f.tree ∙ sort-settled T s solved t

zip-followed : (T : List Tree) (s : Inference) → IsSolved T s → (ts us : List Tree) → AllZip (IsFollowed T s) ts us → AllZip HaveOneSort ts us
zip-followed T s solved [] [] z = z
zip-followed T s solved [] (u ∷ us) z = absurd z
zip-followed T s solved (t ∷ ts) [] z = absurd z
zip-followed T s solved (t ∷ ts) (u ∷ us) z = (sort-followed T s solved t u z.0, zip-followed T s solved ts us z.1)

pub fits-followed : (T : List Tree) (s : Inference) → IsSolved T s → (n : Node) (ts us : List Tree) → AllZip (IsFollowed T s) ts us → Fits n ts → Fits n us
fits-followed T s solved n ts us z fits = fits-sorts ts us (zip-followed T s solved ts us z) n fits

-- lifetimes are forgotten by top and parts
row-erased : (us : List Tree) → erased_row (forest us) ≡ forest (map erased us)
unfolding erased
row-erased [] = refl
row-erased (u ∷ us) = ap (more (erased u)) (row-erased us)

pub erased-with : (n : Node) (us : List Tree) → erased (tree_with n us) ≡ tree_with (compared_node Forgotten n) (map erased us)
unfolding erased
erased-with (nodes.Head h) us = ap (node (erased_head h)) (row-erased us)
erased-with (nodes.Alias k) us = ap (alias k) (row-erased us)
erased-with (nodes.Variable v) us = refl

list-erased : (ts : Trees) → list_of (erased_row ts) ≡ map erased (list_of ts)
unfolding erased
list-erased none = refl
list-erased (more t ts) = ap (λ us. erased t ∷ us) (list-erased ts)

parts-erased : (t : Tree) → parts_of (erased t) ≡ map erased (parts_of t)
unfolding erased
parts-erased (node h ts) = list-erased ts
parts-erased (alias k ts) = list-erased ts
parts-erased (variable v) = refl

zip-trees : (T : List Tree) (s : Inference) (ts us : List Tree) → AllZip (IsFollowed T s) ts us → map erased us ≡ map (settled T s) ts
zip-trees T s [] [] z = refl
zip-trees T s [] (u ∷ us) z = absurd z
zip-trees T s (t ∷ ts) [] z = absurd z
zip-trees T s (t ∷ ts) (u ∷ us) z = ap (λ x. x ∷ map erased us) z.0.tree ∙ ap (λ xs. settled T s t ∷ xs) (zip-trees T s ts us z.1)

zip-same : (T : List Tree) (s : Inference) (ts us : List Tree) → AllZip (IsFollowed T s) ts us → map (settled T s) ts ≡ map erased ts → us ≡ ts
zip-same T s [] [] z e = refl
zip-same T s [] (u ∷ us) z e = absurd z
zip-same T s (t ∷ ts) [] z e = absurd z
zip-same T s (t ∷ ts) (u ∷ us) z e =
    let first : settled T s t ≡ erased t = cc in
    let rest : map (settled T s) ts ≡ map erased ts = cc in
    ap (λ x. x ∷ us) (z.0.same first) ∙ ap (λ xs. t ∷ xs) (zip-same T s ts us z.1 rest)

-- a term is followed by its parts
pub followed-with : (T : List Tree) (s : Inference) → IsSolved T s → (t : Tree) (n : Node) (us : List Tree) → n ≡ node_of t → binding_at s (node_of t) ≡ None →
    AllZip (IsFollowed T s) (parts_of t) us → IsFollowed T s t (tree_with n us)
followed-with T s solved t n us top ended z = record {
  tree =
      erased-with n us
      ∙ ap (λ m. tree_with m (map erased us)) (ap (compared_node Forgotten) top ∙ sym (settled-top T s solved t ended))
      ∙ ap (tree_with (node_of (settled T s t))) (zip-trees T s (parts_of t) us z ∙ sym (settled-parts T s solved t ended))
      ∙ tree_with-parts (settled T s t);
  same = λ e.
      ap (λ m. tree_with m us) top
      ∙ ap (tree_with (node_of t)) (zip-same T s (parts_of t) us z (sym (settled-parts T s solved t ended) ∙ ap parts_of e ∙ parts-erased t))
      ∙ tree_with-parts t;
}

pub followed-unchanged : (T : List Tree) (s : Inference) → IsSolved T s → (t u : Tree) (us : List Tree) → u ≡ t → us ≡ parts_of t → binding_at s (node_of t) ≡ None →
    AllZip (IsFollowed T s) (parts_of t) us → IsFollowed T s t u
followed-unchanged T s solved t u us e parts ended z =
    subst (IsFollowed T s t) (ap (tree_with (node_of t)) parts ∙ tree_with-parts t ∙ sym e) (followed-with T s solved t (node_of t) us refl ended z)

-- a variable that stays itself is unbound, since each chain of variables ends
replaced-variable : (σ : Variable → Tree) (t : Tree) (v : Variable) → replaced σ t ≡ variable v → (u : Variable) × (t ≡ variable u) × (σ u ≡ variable v)
unfolding replaced
replaced-variable σ (node h ts) v e = absurd (cc)
replaced-variable σ (alias k ts) v e = absurd (cc)
replaced-variable σ (variable u) v e = (u, refl, e)

leads-home : (T : List Tree) (s : Inference) → (solved : IsSolved T s) → (v : Variable) (k : ℕ) (w : Variable) → solved.chain w < k →
    resolution T s w ≡ variable v → binding_of s v ≡ None
unfolding Agrees
leads-home T s solved v zero w l e = absurd (omega arith)
leads-home T s solved v (suc k) w l e = on (leads-home T s solved v k) (binding_of s w) refl where
  on : ((u : Variable) → solved.chain u < k → resolution T s u ≡ variable v → binding_of s v ≡ None) → (o : Option TermId) → binding_of s w ≡ o → binding_of s v ≡ None
  on next None f =
      let p : variable w ≡ variable v = sym (solved.free w f) ∙ e in
      let q : w ≡ v = cc in ap (binding_of s) (sym q) ∙ f
  on next (Some id) f =
      let u : (x : Variable) × (term_at T id ≡ variable x) × (resolution T s x ≡ variable v) =
      replaced-variable (resolution T s) (term_at T id) v (sym (solved.agrees w id f) ∙ e) in
      next u.0 (omega (arith, solved.falls w u.0 id f u.1, l)) u.2

unbound-itself : (T : List Tree) (s : Inference) → IsSolved T s → (t : Tree) → settled T s t ≡ erased t → binding_at s (node_of t) ≡ None
unfolding settled replaced erased
unbound-itself T s solved (node h ts) e = refl
unbound-itself T s solved (alias k ts) e = refl
unbound-itself T s solved (variable v) e = leads-home T s solved v (suc (solved.chain v)) v (omega arith) e

-- from the term to which the bindings at the top lead
pub followed-from : (T : List Tree) (s : Inference) → IsSolved T s → (id top : TermId) (u : Tree) → resolved T s top ≡ resolved T s id →
    (binding_at s (node_of (tree_at T id)) ≡ None → top ≡ id) → IsFollowed T s (tree_at T top) u → IsFollowed T s (tree_at T id) u
followed-from T s solved id top u same itself f = record {
  tree = f.tree ∙ settled-is T s top ∙ same ∙ sym (settled-is T s id);
  same = λ e.
      let here : top ≡ id = itself (unbound-itself T s solved (tree_at T id) e) in
      f.same (ap (λ i. settled T s (tree_at T i)) here ∙ e ∙ ap (λ i. erased (tree_at T i)) (sym here)) ∙ ap (tree_at T) here;
}

-- what is followed, by numbers
module _ (T U : List Tree) (s : Inference) (id r : TermId) where
  pub followed-tree : IsFollowed T s (tree_at T id) (tree_at U r) → term_at U r ≡ resolved T s id
  unfolding term_at
  followed-tree f = f.tree ∙ settled-is T s id

  pub followed-sort : IsSolved T s → IsFollowed T s (tree_at T id) (tree_at U r) → sort_at U r ≡ sort_at T id
  followed-sort solved f = sort-followed T s solved (tree_at T id) (tree_at U r) f

  pub followed-same : IsFollowed T s (tree_at T id) (tree_at U r) → StaysUnbound T s U id r
  unfolding term_at
  followed-same f e = f.same (settled-is T s id ∙ e)

-- over a table that has grown since
settled-kept : (T U : List Tree) (s : Inference) → Keeps T U → IsSolved T s → (t : Tree) → settled U s t ≡ settled T s t
unfolding settled term_at
settled-kept T U s keeps solved t =
    ap (λ σ. replaced σ (erased t)) (resolution-as T U s s (λ v. refl) (λ v id e. ap erased (keeps.same id (solved.within v id e))) refl)

pub followed-part : (T U V : List Tree) (s : Inference) → Keeps T U → IsSolved T s → (part r : TermId) (t : Tree) → tree_at U part ≡ t →
    term_at V r ≡ resolved U s part → StaysUnbound U s V part r → IsFollowed T s t (tree_at V r)
unfolding term_at
followed-part T U V s keeps solved part r t e tree same =
    let here : resolved U s part ≡ settled T s t = sym (settled-is U s part) ∙ ap (settled U s) e ∙ settled-kept T U s keeps solved t in record {
      tree = tree ∙ here;
      same = λ f. same (here ∙ f ∙ ap erased (sym e)) ∙ e;
    }

-- the parts of a term are lower after the bindings too
row-lower : (σ : Variable → Tree) (ts : Trees) (k : ℕ) → k < length (list_of ts) →
    height (replaced σ (erased (tree_in (list_of ts) k))) ≤ row_height (replaced_row σ (erased_row ts))
unfolding replaced erased height
row-lower σ none k l = absurd (omega arith)
row-lower σ (more t ts) zero l = omega arith
row-lower σ (more t ts) (suc k) l =
    let h : height (replaced σ (erased (tree_in (list_of ts) k))) ≤ row_height (replaced_row σ (erased_row ts)) = row-lower σ ts k (omega arith) in omega arith

part-lower : (T : List Tree) (s : Inference) (t : Tree) (k : ℕ) → k < length (parts_of t) → height (settled T s (part_at t k)) < height (settled T s t)
unfolding settled replaced erased height
part-lower T s (node h ts) k l = omega (arith, row-lower (resolution T s) ts k l)
part-lower T s (alias j ts) k l = omega (arith, row-lower (resolution T s) ts k l)
part-lower T s (variable v) k l = absurd (omega arith)

pub lower-followed : (T U : List Tree) (s : Inference) → Keeps T U → IsSolved T s → (id top part : TermId) (k : ℕ) → top.0 < length T →
    resolved T s top ≡ resolved T s id → k < length (parts_of (tree_at T top)) → tree_at U part ≡ part_at (tree_at U top) k →
    height (resolved U s part) < height (resolved T s id)
lower-followed T U s keeps solved id top part k within same l e =
    let t : Tree = tree_at T top in
    let here : resolved U s part ≡ settled T s (part_at t k) =
    sym (settled-is U s part) ∙ ap (settled U s) (e ∙ ap (λ x. part_at x k) (keeps.same top within)) ∙ settled-kept T U s keeps solved (part_at t k) in
    let whole : settled T s t ≡ resolved T s id = settled-is T s top ∙ same in
    omega (arith, part-lower T s t k l, ap height here, ap height whole)

-- numbers keep their trees
pub numbers-kept : (U V : List Tree) → Keeps U V → (ids : List TermId) → AreBelow (length U) ids → map (tree_at V) ids ≡ map (tree_at U) ids
numbers-kept U V keeps [] below = refl
numbers-kept U V keeps (id ∷ ids) below =
    ap (λ t. t ∷ map (tree_at V) ids) (keeps.same id (All-head (λ i. i.0 < length U) id ids below))
    ∙ ap (λ ts. tree_at U id ∷ ts) (numbers-kept U V keeps ids (All-tail (λ i. i.0 < length U) id ids below))

pub map-push : (f : TermId → Tree) (ids : List TermId) (id : TermId) → map f (ids ++ id ∷ []) ≡ map f ids ++ f id ∷ []
map-push f [] id = refl
map-push f (x ∷ ids) id = ap (λ us. f x ∷ us) (map-push f ids id)

-- one more term is followed
pub followed-more : (T U V : List Tree) (s : Inference) → Keeps U V → (ts : List Tree) (i : ℕ) (ids ns : List TermId) (r : TermId) → i < length ts → ns ≡ ids ++ r ∷ [] →
    AreBelow (length U) ids → AllZip (IsFollowed T s) (take i ts) (map (tree_at U) ids) → IsFollowed T s (tree_in ts i) (tree_at V r) →
    AllZip (IsFollowed T s) (take (i + 1) ts) (map (tree_at V) ns)
followed-more T U V s keeps ts i ids ns r l e below z f =
    subst (AllZip (IsFollowed T s) (take (i + 1) ts)) (sym (ap (map (tree_at V)) e ∙ map-push (tree_at V) ids r))
    (all_zip_more (IsFollowed T s) ts (map (tree_at V) ids) i (tree_in ts i) (tree_at V r) l (get_or_default ts i (leaf head.Bool) (tree_in ts i) l)
    (subst (AllZip (IsFollowed T s) (take i ts)) (sym (numbers-kept U V keeps ids below)) z) f)

pub within-more : (U V : List Tree) → Keeps U V → (ids ns : List TermId) (r : TermId) → ns ≡ ids ++ r ∷ [] → AreBelow (length U) ids → r.0 < length V → AreBelow (length V) ns
within-more U V keeps ids ns r e below l = subst (AreBelow (length V)) (sym e) (within-pushed U V ids r keeps below l)

-- all terms are followed
pub followed-all : (T : List Tree) (s : Inference) (ts us : List Tree) (i : ℕ) → length ts ≤ i → AllZip (IsFollowed T s) (take i ts) us → AllZip (IsFollowed T s) ts us
followed-all T s ts us i l z = subst (λ xs. AllZip (IsFollowed T s) xs us) (take_all i ts l) z

-- one more term has stayed as it was
pub unchanged-more : (U V : List Tree) → Keeps U V → (ts : List Tree) (i : ℕ) (ids ns : List TermId) (r : TermId) → i < length ts → ns ≡ ids ++ r ∷ [] →
    AreBelow (length U) ids → map (tree_at U) ids ≡ take i ts → tree_at V r ≡ tree_in ts i → map (tree_at V) ns ≡ take (i + 1) ts
unchanged-more U V keeps ts i ids ns r l e below so_far f =
    ap (map (tree_at V)) e ∙ trees-pushed U V ids r ts i (tree_in ts i) keeps below so_far f (slice_get-get_or ts i (leaf head.Bool) l)

-- one of several numbers
pub tree-among : (T : List Tree) (ids : List TermId) (i : ℕ) (d : TermId) → i < length ids → tree_at T (get_or ids i d) ≡ tree_in (map (tree_at T) ids) i
tree-among T [] i d l = absurd (omega arith)
tree-among T (id ∷ ids) zero d l = refl
tree-among T (id ∷ ids) (suc i) d l = tree-among T ids i d (omega arith)

-- several terms that are followed, by numbers
module _ (T U : List Tree) (s : Inference) where
  pub all-trees : (ids rs : List TermId) → AllZip (IsFollowed T s) (map (tree_at T) ids) (map (tree_at U) rs) → map (term_at U) rs ≡ map (resolved T s) ids
  all-trees [] [] z = refl
  all-trees [] (r ∷ rs) z = absurd z
  all-trees (id ∷ ids) [] z = absurd z
  all-trees (id ∷ ids) (r ∷ rs) z =
      ap (λ t. t ∷ map (term_at U) rs) (followed-tree T U s id r z.0) ∙ ap (λ ts. resolved T s id ∷ ts) (all-trees ids rs z.1)

  pub all-sorts : IsSolved T s → (ids rs : List TermId) → AllZip (IsFollowed T s) (map (tree_at T) ids) (map (tree_at U) rs) → map (sort_at U) rs ≡ map (sort_at T) ids
  all-sorts solved [] [] z = refl
  all-sorts solved [] (r ∷ rs) z = absurd z
  all-sorts solved (id ∷ ids) [] z = absurd z
  all-sorts solved (id ∷ ids) (r ∷ rs) z =
      ap (λ t. t ∷ map (sort_at U) rs) (followed-sort T U s id r solved z.0) ∙ ap (λ ts. sort_at T id ∷ ts) (all-sorts solved ids rs z.1)

  pub all-same : (ids rs : List TermId) → AllZip (IsFollowed T s) (map (tree_at T) ids) (map (tree_at U) rs) → AllZip (StaysUnbound T s U) ids rs
  all-same [] [] z = z
  all-same [] (r ∷ rs) z = absurd z
  all-same (id ∷ ids) [] z = absurd z
  all-same (id ∷ ids) (r ∷ rs) z = (followed-same T U s id r z.0, all-same ids rs z.1)
