-- Terms with other numbers for their variables, part by part.
use Rattle.std.proofs.Common.{◌≡◌, ℕ, zero, suc, ◌+◌, ◌<◌, ◌≤◌, List, [], ◌∷◌, ◌++◌, length, map, take, drop, get_or, refl, sym, ap, ◌∙◌, subst, arith}
use Rattle.std.specs.List.{AllZip}
use Rattle.goal_terms.specs.Sorts.{sort_of_head, part_at, HeadFits, Fits}
use Rattle.goal_interner.specs.TableMeaning.{tree_at, AreBelow, Keeps}
use Rattle.goal_terms.specs.Tree.{Tree, Trees, node, alias, variable, none, more, node_of, parts_of, list_of, forest}
use Rattle.goal_terms.specs.TreeCode.{forest-list_of}
use Rattle.goal_terms.specs.TreeWith.{tree_with}
use Rattle.goal_terms.specs.declared.heads.Head.{Head}
use Rattle.goal_terms.specs.declared.heads.Head.TheVariants as head
use Rattle.goal_terms.specs.declared.heads.Node.{Node}
use Rattle.goal_terms.specs.declared.heads.Node.TheVariants as nodes
use Rattle.goal_terms.specs.declared.heads.Variable.TheVariants as variables
use Rattle.goal_interner.specs.declared.term_nodes.TermId.{TermId}
use Rattle.goal_terms.specs.declared.terms.InferTy.TheVariants as infer
use Rattle.goal_interner.proofs.InternLemmas.{trees-pushed}
use Rattle.goal_interner.proofs.UnderLemmas.{all-rewritten, count-parts, part-read}
use Rattle.goal_infer.specs.Renumbering.{renumbered_head, renumbered_node, renumbered, renumbered_row, numbered_node, numbered, numbered_row}
use Rattle.goal_infer.proofs.SortLemmas.{HaveOneSort, fits-sorts}

-- with other numbers a term keeps its sort, and a node fits its parts as before
module _ (numbers : List (ℕ × ℕ)) where
  head-sort : (h : Head) → sort_of_head (renumbered_head numbers h) ≡ sort_of_head h
  head-sort (head.Ref r m) = refl
  head-sort (head.Dynamic n r) = refl
  head-sort (head.Lifetime r) = refl
  head-sort h = refl

  sort-renumbered : (t : Tree) → HaveOneSort t (renumbered numbers t)
  unfolding renumbered
  sort-renumbered (node h ts) = head-sort h
  sort-renumbered (alias k ts) = refl
  sort-renumbered (variable (variables.Ty (infer.TyVar n))) = refl
  sort-renumbered (variable (variables.Ty (infer.IntVar n))) = refl
  sort-renumbered (variable (variables.Ty (infer.FloatVar n))) = refl
  sort-renumbered (variable (variables.Const n)) = refl

  sorts-renumbered : (ts : List Tree) → AllZip HaveOneSort ts (map (renumbered numbers) ts)
  sorts-renumbered [] = tt
  sorts-renumbered (t ∷ ts) = (sort-renumbered t, sorts-renumbered ts)

  head-fits : (h : Head) (us : List Tree) → HeadFits h us → HeadFits (renumbered_head numbers h) us
  head-fits (head.Ref r m) us fits = fits
  head-fits (head.Dynamic n r) us fits = fits
  head-fits (head.Lifetime r) us fits = fits
  head-fits h us fits = fits

  node-fits : (n : Node) (us : List Tree) → Fits n us → Fits (renumbered_node numbers n) us
  node-fits (nodes.Head h) us fits = head-fits h us fits
  node-fits (nodes.Alias k) us fits = fits
  node-fits (nodes.Variable v) us fits = fits

  pub fits-renumbered : (n m : Node) (ts us : List Tree) → m ≡ renumbered_node numbers n → us ≡ map (renumbered numbers) ts → Fits n ts → Fits m us
  fits-renumbered n m ts us top parts fits =
      subst (λ x. Fits x us) (sym top)
      (node-fits n us (subst (Fits n) (sym parts) (fits-sorts ts (map (renumbered numbers) ts) (sorts-renumbered ts) n fits)))

  -- by top and parts
  row-renumbered : (ts : Trees) → forest (map (renumbered numbers) (list_of ts)) ≡ renumbered_row numbers ts
  unfolding renumbered
  row-renumbered none = refl
  row-renumbered (more t ts) = ap (more (renumbered numbers t)) (row-renumbered ts)

  tree-renumbered : (t : Tree) → tree_with (renumbered_node numbers (node_of t)) (map (renumbered numbers) (parts_of t)) ≡ renumbered numbers t
  unfolding renumbered
  tree-renumbered (node h ts) = ap (node (renumbered_head numbers h)) (row-renumbered ts)
  tree-renumbered (alias k ts) = ap (alias k) (row-renumbered ts)
  tree-renumbered (variable v) = refl

  pub made-renumbered : (t : Tree) (n m : Node) (us : List Tree) → n ≡ node_of t → m ≡ renumbered_node numbers n → us ≡ map (renumbered numbers) (parts_of t) →
      tree_with m us ≡ renumbered numbers t
  made-renumbered t n m us node_is top parts =
      ap (λ x. tree_with x us) (top ∙ ap (renumbered_node numbers) node_is) ∙ ap (tree_with (renumbered_node numbers (node_of t))) parts ∙ tree-renumbered t

  -- one more part has its other numbers
  pub renumbered-more : (T U V : List Tree) (id part r : TermId) (ids ns : List TermId) (k : ℕ) → Keeps T U → Keeps U V → id.0 < length T →
      k < length (parts_of (tree_at T id)) → ns ≡ ids ++ r ∷ [] → AreBelow (length U) ids →
      map (tree_at U) ids ≡ take k (map (renumbered numbers) (parts_of (tree_at T id))) → tree_at U part ≡ part_at (tree_at U id) k →
      tree_at V r ≡ renumbered numbers (tree_at U part) →
      map (tree_at V) ns ≡ take (k + 1) (map (renumbered numbers) (parts_of (tree_at T id)))
  renumbered-more T U V id part r ids ns k first second within here e below so_far at tree =
      ap (map (tree_at V)) e
      ∙ trees-pushed U V ids r (map (renumbered numbers) (parts_of (tree_at T id))) k (renumbered numbers (tree_at U part)) second below so_far tree
      (part-read (renumbered numbers) (tree_at T id) (tree_at U id) (tree_at U part) k (first.same id within) here at)

  -- all parts have
  pub all-renumbered : (T : List Tree) (t : Tree) (ids : List TermId) (us : List Tree) (k : ℕ) → map (tree_at T) ids ≡ parts_of t → length ids ≤ k →
      us ≡ take k (map (renumbered numbers) (parts_of t)) → us ≡ map (renumbered numbers) (parts_of t)
  all-renumbered T t ids us k parts l so_far =
      all-rewritten (renumbered numbers) us (parts_of t) (parts_of t) k so_far (omega (arith, count-parts T ids (parts_of t) parts)) refl

-- the pairs once a term has been met, by top and parts
numbered-whole : (t : Tree) (old : List (ℕ × ℕ)) → numbered_row (forest (parts_of t)) (numbered_node (node_of t) old) ≡ numbered t old
unfolding numbered
numbered-whole (node h ts) old = ap (λ us. numbered_row us (numbered_node (nodes.Head h) old)) (forest-list_of ts)
numbered-whole (alias k ts) old = ap (λ us. numbered_row us old) (forest-list_of ts)
numbered-whole (variable v) old = refl

-- the pairs once the parts from one on have been met
pub numbered_from : List Tree → List TermId → ℕ → List (ℕ × ℕ) → List (ℕ × ℕ)
numbered_from T ids i numbers = numbered_row (forest (map (tree_at T) (drop i ids))) numbers

numbered-suc : (T : List Tree) (ids : List TermId) (i : ℕ) (d : TermId) (now : List (ℕ × ℕ)) → i < length ids →
    numbered_from T ids (suc i) (numbered (tree_at T (get_or ids i d)) now) ≡ numbered_from T ids i now
unfolding numbered_from numbered
numbered-suc T [] i d now l = absurd (omega arith)
numbered-suc T (id ∷ ids) zero d now l = refl
numbered-suc T (id ∷ ids) (suc i) d now l = numbered-suc T ids i d now (omega arith)

numbered-end : (T : List Tree) (ids : List TermId) (i : ℕ) (now : List (ℕ × ℕ)) → length ids ≤ i → numbered_from T ids i now ≡ now
unfolding numbered_from numbered
numbered-end T [] zero now l = refl
numbered-end T [] (suc i) now l = refl
numbered-end T (id ∷ ids) zero now l = absurd (omega arith)
numbered-end T (id ∷ ids) (suc i) now l = numbered-end T ids i now (omega arith)

add-one : (i : ℕ) → suc i ≡ i + 1
add-one i = omega arith

-- the walk over the parts: at its start, after a part and at its end
pub numbered-started : (T : List Tree) (t : Tree) (n : Node) (ids : List TermId) (old now : List (ℕ × ℕ)) → n ≡ node_of t → map (tree_at T) ids ≡ parts_of t →
    now ≡ numbered_node n old → numbered_from T ids 0 now ≡ numbered t old
unfolding numbered_from
numbered-started T t n ids old now top parts is =
    ap (λ ts. numbered_row (forest ts) now) parts ∙ ap (numbered_row (forest (parts_of t))) (is ∙ ap (λ m. numbered_node m old) top) ∙ numbered-whole t old

pub numbered-more : (T : List Tree) (ids : List TermId) (i : ℕ) (d : TermId) (old now whole : List (ℕ × ℕ)) → i < length ids →
    now ≡ numbered (tree_at T (get_or ids i d)) old → numbered_from T ids i old ≡ whole → numbered_from T ids (i + 1) now ≡ whole
numbered-more T ids i d old now whole l is e =
    ap (numbered_from T ids (i + 1)) is
    ∙ ap (λ k. numbered_from T ids k (numbered (tree_at T (get_or ids i d)) old)) (sym (add-one i))
    ∙ numbered-suc T ids i d old l ∙ e

pub numbered-done : (T : List Tree) (ids : List TermId) (i : ℕ) (now whole : List (ℕ × ℕ)) → length ids ≤ i → numbered_from T ids i now ≡ whole → now ≡ whole
numbered-done T ids i now whole l e = sym (numbered-end T ids i now l) ∙ e
