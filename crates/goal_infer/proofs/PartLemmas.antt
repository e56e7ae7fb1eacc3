-- Terms by the numbers of their parts.
use Rattle.std.proofs.Common.{◌≡◌, ℕ, zero, suc, ◌+◌, ◌<◌, ◌≤◌, Bool, List, [], ◌∷◌, length, map, get_or, drop, refl, sym, ap, ◌∙◌, subst, arith}
use Rattle.std.specs.Prelude.{None}
use Rattle.goal_terms.specs.Tree.{Tree, Trees, node, alias, variable, none, more, node_of, parts_of, list_of, forest}
use Rattle.goal_terms.specs.Erased.{erased, erased_row, erased_head, compared_node}
use Rattle.goal_terms.specs.SameHead.{top_of}
use Rattle.goal_interner.specs.TableMeaning.{tree_at}
use Rattle.goal_terms.specs.TreeWith.{tree_with}
use Rattle.goal_terms.specs.declared.compare.Regions.TheVariants.{Forgotten}
use Rattle.goal_terms.specs.declared.heads.Node.{Node}
use Rattle.goal_terms.specs.declared.heads.Node.TheVariants as nodes
use Rattle.goal_terms.specs.declared.heads.Variable.{Variable}
use Rattle.goal_interner.specs.declared.term_nodes.TermId.{TermId}
use Rattle.goal_infer.specs.Inference.{Inference}
use Rattle.goal_infer.specs.Replacement.{replaced, replaced_row}
use Rattle.goal_infer.specs.Resolution.{term_at, binding_at, resolution, resolved, IsSolved}
use Rattle.goal_terms.specs.SameTree.{same_node}
use Rattle.goal_infer.specs.Occurrence.{place_of, place_in_row, place_at, joined, place_under}
use Rattle.goal_infer.specs.declared.occurs.Occurrence.{Occurrence}
use Rattle.goal_infer.specs.declared.occurs.Occurrence.TheVariants.{Nowhere, InAliasesAlone, Outside}
use Rattle.goal_infer.proofs.ResolveLemmas.{term_at-variable}
use Rattle.goal_infer.proofs.ReplacementLemmas.{height, row_height}

-- what stands at a number
abbrev pub standing : List Tree → (Variable → Tree) → TermId → Tree
standing T ρ id = replaced ρ (term_at T id)

-- a node that is no variable
abbrev pub is_above : Node → Type 0
is_above (nodes.Head h) = Unit {0}
is_above (nodes.Alias k) = Unit {0}
is_above (nodes.Variable v) = ⊥

row-standing : (T : List Tree) (ρ : Variable → Tree) (ts : Trees) (ids : List TermId) → map (tree_at T) ids ≡ list_of ts →
    replaced_row ρ (erased_row ts) ≡ forest (map (standing T ρ) ids)
unfolding replaced erased term_at
row-standing T ρ none [] e = refl
row-standing T ρ none (id ∷ ids) e = absurd (cc)
row-standing T ρ (more t ts) [] e = absurd (cc)
row-standing T ρ (more t ts) (id ∷ ids) e =
    let first : tree_at T id ≡ t = cc in
    let rest : map (tree_at T) ids ≡ list_of ts = cc in
    ap (λ z. more (replaced ρ (erased z)) (replaced_row ρ (erased_row ts))) (sym first)
    ∙ ap (more (standing T ρ id)) (row-standing T ρ ts ids rest)

tree-standing : (T : List Tree) (ρ : Variable → Tree) (t : Tree) (ids : List TermId) → map (tree_at T) ids ≡ parts_of t → is_above (node_of t) →
    replaced ρ (erased t) ≡ tree_with (top_of t) (map (standing T ρ) ids)
unfolding replaced erased
tree-standing T ρ (node h ts) ids e p = ap (node (erased_head h)) (row-standing T ρ ts ids e)
tree-standing T ρ (alias k ts) ids e p = ap (alias k) (row-standing T ρ ts ids e)
tree-standing T ρ (variable v) ids e p = absurd p

-- a term with trees put for its variables, by its parts
pub standing-parts : (T : List Tree) (ρ : Variable → Tree) (id : TermId) (ids : List TermId) → map (tree_at T) ids ≡ parts_of (tree_at T id) →
    is_above (node_of (tree_at T id)) → standing T ρ id ≡ tree_with (top_of (tree_at T id)) (map (standing T ρ) ids)
unfolding term_at
standing-parts T ρ id ids e p = tree-standing T ρ (tree_at T id) ids e p

-- where a variable stands in such a term
place_with : (v : Variable) (n : Node) (us : List Tree) → is_above n →
    place_of v (tree_with (compared_node Forgotten n) us) ≡ place_under n (place_in_row v (forest us))
unfolding place_of
place_with v (nodes.Head h) us p = refl
place_with v (nodes.Alias k) us p = refl
place_with v (nodes.Variable w) us p = absurd p

pub place-parts : (T : List Tree) (s : Inference) (v : Variable) (id : TermId) (ids : List TermId) (n : Node) → map (tree_at T) ids ≡ parts_of (tree_at T id) →
    n ≡ node_of (tree_at T id) → is_above n →
    place_of v (resolved T s id) ≡ place_under n (place_in_row v (forest (map (resolved T s) ids)))
unfolding resolved
place-parts T s v id ids n e m p =
    ap (place_of v) (standing-parts T (resolution T s) id ids e (subst is_above m p))
    ∙ place_with v (node_of (tree_at T id)) (map (resolved T s) ids) (subst is_above m p)
    ∙ ap (λ z. place_under z (place_in_row v (forest (map (resolved T s) ids)))) (sym m)

joined-after : (a b c : Occurrence) → joined (joined a b) c ≡ joined a (joined b c)
joined-after Nowhere b c = refl
joined-after InAliasesAlone Nowhere c = refl
joined-after InAliasesAlone InAliasesAlone Nowhere = refl
joined-after InAliasesAlone InAliasesAlone InAliasesAlone = refl
joined-after InAliasesAlone InAliasesAlone Outside = refl
joined-after InAliasesAlone Outside c = refl
joined-after Outside b c = refl

pub joined-nothing : (a : Occurrence) → joined a Nowhere ≡ a
joined-nothing Nowhere = refl
joined-nothing InAliasesAlone = refl
joined-nothing Outside = refl

-- the places in the parts from one on
pub places_from : List Tree → Inference → Variable → List TermId → ℕ → Occurrence
places_from T s v ids i = place_in_row v (forest (map (resolved T s) (drop i ids)))

places-suc : (T : List Tree) (s : Inference) (v : Variable) (ids : List TermId) (i : ℕ) (d : TermId) → i < length ids →
    places_from T s v ids i ≡ joined (place_of v (resolved T s (get_or ids i d))) (places_from T s v ids (suc i))
unfolding places_from place_of
places-suc T s v [] i d l = absurd (omega arith)
places-suc T s v (id ∷ ids) zero d l = refl
places-suc T s v (id ∷ ids) (suc i) d l = places-suc T s v ids i d (omega arith)

add-one : (i : ℕ) → suc i ≡ i + 1
add-one i = omega arith

pub places-more : (T : List Tree) (s : Inference) (v : Variable) (ids : List TermId) (i : ℕ) (d : TermId) (a : Occurrence) → i < length ids →
    joined (joined a (place_of v (resolved T s (get_or ids i d)))) (places_from T s v ids (i + 1)) ≡ joined a (places_from T s v ids i)
places-more T s v ids i d a l =
    joined-after a (place_of v (resolved T s (get_or ids i d))) (places_from T s v ids (i + 1))
    ∙ ap (joined a) (ap (λ k. joined (place_of v (resolved T s (get_or ids i d))) (places_from T s v ids k)) (sym (add-one i))
    ∙ sym (places-suc T s v ids i d l))

pub places-end : (T : List Tree) (s : Inference) (v : Variable) (ids : List TermId) (i : ℕ) → length ids ≤ i → places_from T s v ids i ≡ Nowhere
unfolding places_from place_of
places-end T s v [] zero l = refl
places-end T s v [] (suc i) l = refl
places-end T s v (id ∷ ids) zero l = absurd (omega arith)
places-end T s v (id ∷ ids) (suc i) l = places-end T s v ids i (omega arith)

pub places-all : (T : List Tree) (s : Inference) (v : Variable) (ids : List TermId) →
    places_from T s v ids 0 ≡ place_in_row v (forest (map (resolved T s) ids))
unfolding places_from
places-all T s v ids = refl

-- each part is lower
row_height-part : (f : TermId → Tree) (ids : List TermId) (i : ℕ) (d : TermId) → i < length ids → height (f (get_or ids i d)) ≤ row_height (forest (map f ids))
unfolding height
row_height-part f [] i d l = absurd (omega arith)
row_height-part f (id ∷ ids) zero d l = omega arith
row_height-part f (id ∷ ids) (suc i) d l = let h : height (f (get_or ids i d)) ≤ row_height (forest (map f ids)) = row_height-part f ids i d (omega arith) in omega arith

height_with : (n : Node) (us : List Tree) → is_above n → height (tree_with (compared_node Forgotten n) us) ≡ suc (row_height (forest us))
unfolding height
height_with (nodes.Head h) us p = refl
height_with (nodes.Alias k) us p = refl
height_with (nodes.Variable w) us p = absurd p

pub height-part : (T : List Tree) (s : Inference) (id : TermId) (ids : List TermId) (i : ℕ) (d : TermId) → map (tree_at T) ids ≡ parts_of (tree_at T id) →
    is_above (node_of (tree_at T id)) → i < length ids → height (resolved T s (get_or ids i d)) < height (resolved T s id)
unfolding resolved
height-part T s id ids i d e p l =
    omega (
      arith,
      ap height (standing-parts T (resolution T s) id ids e p),
      height_with (node_of (tree_at T id)) (map (resolved T s) ids) p,
      row_height-part (resolved T s) ids i d l,
    )

pub above-if : (n : Node) → ((v : Variable) → n ≡ nodes.Variable v → ⊥) → is_above n
above-if (nodes.Head h) differs = tt
above-if (nodes.Alias k) differs = tt
above-if (nodes.Variable v) differs = absurd (differs v refl)

-- what stands at an unbound variable
pub resolved-variable : (T : List Tree) (s : Inference) → IsSolved T s → (id : TermId) (w : Variable) → node_of (tree_at T id) ≡ nodes.Variable w →
    binding_at s (node_of (tree_at T id)) ≡ None → resolved T s id ≡ variable w
unfolding resolved replaced
resolved-variable T s solved id w e f =
    ap (replaced (resolution T s)) (term_at-variable T id w e) ∙ solved.free w (sym (ap (binding_at s) e) ∙ f)

pub place-variable : (T : List Tree) (s : Inference) → IsSolved T s → (v : Variable) (id : TermId) (n : Node) (w : Variable) (b : Bool) → n ≡ node_of (tree_at T id) →
    n ≡ nodes.Variable w → binding_at s (node_of (tree_at T id)) ≡ None → b ≡ same_node (compared_node Forgotten n) (nodes.Variable v) →
    place_at b ≡ place_of v (resolved T s id)
unfolding place_of
place-variable T s solved v id n w b m e f h =
    ap place_at (h ∙ ap (λ z. same_node (compared_node Forgotten z) (nodes.Variable v)) e)
    ∙ sym (ap (place_of v) (resolved-variable T s solved id w (sym m ∙ e) f))
