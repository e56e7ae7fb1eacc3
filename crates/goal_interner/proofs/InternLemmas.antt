-- A table after a node is looked for and added.
use Rattle.std.proofs.Common.{◌≡◌, ℕ, zero, suc, ◌+◌, ◌^◌, ◌<◌, ◌≤◌, Bool, true, false, cond, List, [], ◌∷◌, ◌++◌, length, map, get_or, take, add-one, Some, refl, sym, ap, ◌∙◌, inl, inr, arith, length-append, subst}
use Rattle.std.specs.Prelude.{slice_get, position}
use Rattle.std.specs.List.{list_any}
use Rattle.std.proofs.lemmas.Bool.{false≢true, cases_lt}
use Rattle.std.proofs.lemmas.List.{take_all}
use Rattle.std.proofs.lemmas.Option.{slice_get_within, slice_get-get_or}
use Rattle.std.proofs.lemmas.List.Elements.{All-weaker, All-push}
use Rattle.std.proofs.lemmas.List.Quantifiers.{position-Some}
use Rattle.goal_terms.specs.Tree.{Tree, node, alias, variable, node_of, parts_of}
use Rattle.goal_terms.specs.TreeOf.{leaf}
use Rattle.goal_terms.specs.declared.heads.Head.TheVariants as head
use Rattle.goal_terms.specs.TreeCode.{forest-list_of}
use Rattle.goal_terms.specs.TreeWith.{tree_with}
use Rattle.goal_terms.specs.Sorts.{Fits}
use Rattle.goal_interner.specs.TableMeaning.{tree_at, AreBelow, trees_of_nodes, Keeps, IsOnly, AreDistinct, IsTable}
use Rattle.goal_interner.specs.declared.term_nodes.TermId.{TermId}
use Rattle.goal_interner.specs.declared.term_nodes.TermNode.{TermNode}
use Rattle.goal_terms.proofs.WalkLemmas.{tree_size-part}
use Rattle.goal_interner.proofs.TermNodeLemmas.{same_term_node, same_term_node-true, same_term_node-same}
use Rattle.goal_interner.proofs.TableLemmas.{IsKept, get-tree_at, tree_at-kept, same_number, slice_get-front, slice_get-push, list_any-none, tree_at-get, trees-kept, trees_after-push, length-trees, node_in, fits_read, node_of-tree_with, parts_of-tree_with, same_numbers}

-- the tree of a node over the trees of a table
abbrev pub made : List Tree → TermNode → Tree
made ts n = tree_with n.node (map (tree_at ts) n.parts.items)

node_made : (ns : List TermNode) (ts : List Tree) → IsTable ns → trees_of_nodes ns ≡ ts → (i : ℕ) (n : TermNode) → slice_get ns i ≡ Some n →
    slice_get ts i ≡ Some (made ts n)
node_made ns ts table e i n at =
    let P : List Tree → Type 0 = λ us. slice_get us i ≡ Some (made us n) in subst P e (node_in ns table i n at)

made_same : (ts : List Tree) (n m : TermNode) → same_term_node n m ≡ true → made ts m ≡ made ts n
made_same ts n m e =
    let both : (n.node ≡ m.node) × (n.parts.items ≡ m.parts.items) = same_term_node-true n m e in
    ap (λ x. tree_with x (map (tree_at ts) m.parts.items)) (sym both.0) ∙ ap (λ xs. tree_with n.node (map (tree_at ts) xs)) (sym both.1)

-- a node that was found
pub found_before : (ns : List TermNode) (ts : List Tree) → IsTable ns → trees_of_nodes ns ≡ ts → (n : TermNode) (i : ℕ) → position (same_term_node n) ns ≡ Some i →
    slice_get ts i ≡ Some (made ts n)
found_before ns ts table e n i p =
    let found : (i < length ns) × (same_term_node n (get_or ns i n) ≡ true) × ((k : ℕ) → k < i → same_term_node n (get_or ns k n) ≡ false) =
    position-Some (same_term_node n) ns i n p in
    node_made ns ts table e i (get_or ns i n) (slice_get-get_or ns i n found.0) ∙ ap Some (made_same ts n (get_or ns i n) found.1)

-- a node that was not
added_keys : (ns ms : List TermNode) (n : TermNode) (b : Bool) → b ≡ false → ms ≡ cond b ns (ns ++ n ∷ []) → ms ≡ ns ++ n ∷ []
added_keys ns ms n true f e = absurd (false≢true (sym f))
added_keys ns ms n false f e = e

pub added_trees : (ns ms : List TermNode) (ts : List Tree) (n : TermNode) → trees_of_nodes ns ≡ ts → list_any (same_term_node n) ns ≡ false →
    ms ≡ cond (list_any (same_term_node n) ns) ns (ns ++ n ∷ []) → trees_of_nodes ms ≡ ts ++ made ts n ∷ []
added_trees ns ms ts n e absent keys =
    ap trees_of_nodes (added_keys ns ms n _ absent keys) ∙ trees_after-push [] ns n
    ∙ ap (λ us. us ++ made us n ∷ []) e

pub added_keeps : (ns ms : List TermNode) (ts : List Tree) (n : TermNode) → trees_of_nodes ns ≡ ts → list_any (same_term_node n) ns ≡ false →
    ms ≡ cond (list_any (same_term_node n) ns) ns (ns ++ n ∷ []) → IsKept ts (trees_of_nodes ms)
added_keeps ns ms ts n e absent keys k t at =
    ap (λ us. slice_get us k) (added_trees ns ms ts n e absent keys) ∙ slice_get-front ts (made ts n ∷ []) k t at

-- a tree that a node makes is new if the node is
is_new : (ns : List TermNode) (ts : List Tree) → IsTable ns → trees_of_nodes ns ≡ ts → (n : TermNode) →
    AreBelow (length ts) n.parts.items → Fits n.node (map (tree_at ts) n.parts.items) → list_any (same_term_node n) ns ≡ false →
    (i : ℕ) → slice_get ts i ≡ Some (made ts n) → ⊥
is_new ns ts table e n below fits absent i at =
    let within : i < length ns = omega (arith, slice_get_within ts i (made ts n) at, ap length e, length-trees ns) in
    let m : TermNode = get_or ns i n in
    let there : slice_get ns i ≡ Some m = slice_get-get_or ns i n within in
    let one : Some (made ts m) ≡ Some (made ts n) = sym (node_made ns ts table e i m there) ∙ at in
    let same : made ts m ≡ made ts n = cc in
    let tops : m.node ≡ n.node = sym (node_of-tree_with m.node (map (tree_at ts) m.parts.items)) ∙ ap node_of same ∙ node_of-tree_with n.node (map (tree_at ts) n.parts.items) in
    let trees : map (tree_at ts) m.parts.items ≡ map (tree_at ts) n.parts.items =
    sym (parts_of-tree_with m.node (map (tree_at ts) m.parts.items) (fits_read ns ts table e i m there)) ∙ ap parts_of same
    ∙ parts_of-tree_with n.node (map (tree_at ts) n.parts.items) fits in
    let bound : i < length ts = slice_get_within ts i (made ts n) at in
    let numbers : m.parts.items ≡ n.parts.items =
    same_numbers ts (subst AreDistinct e table.distinct) m.parts.items n.parts.items
    (All-weaker (λ p. p.0 < i) (λ p. p.0 < length ts) (λ p h. omega arith) m.parts.items (table.earlier i m there)) below trees in
    false≢true (sym (list_any-none (same_term_node n) ns i m there absent) ∙ same_term_node-same n m (sym tops) (sym numbers))

distinct_push : (ts : List Tree) (t : Tree) → AreDistinct ts → ((i : ℕ) → slice_get ts i ≡ Some t → ⊥) → AreDistinct (ts ++ t ∷ [])
distinct_push ts t distinct absent i j u ei ej =
    elim (slice_get-push ts t i u ei) [
      | inl p ↦ elim (slice_get-push ts t j u ej) [ inl q ↦ distinct i j u p q | inr q ↦ absurd (absent i (p ∙ ap Some (sym q.1))) ]
      | inr p ↦ elim (slice_get-push ts t j u ej) [ inl q ↦ absurd (absent j (q ∙ ap Some (sym p.1))) | inr q ↦ p.0 ∙ sym q.0 ]
    ]

fits_kept : (ts us : List Tree) → IsKept ts us → (m : TermNode) → AreBelow (length ts) m.parts.items → Fits m.node (map (tree_at ts) m.parts.items) →
    Fits m.node (map (tree_at us) m.parts.items)
fits_kept ts us keeps m below fits = subst (Fits m.node) (sym (trees-kept ts us keeps (length ts) (omega arith) m.parts.items below)) fits

table_with : (ns : List TermNode) (ts : List Tree) → IsTable ns → trees_of_nodes ns ≡ ts → (n : TermNode) →
    AreBelow (length ts) n.parts.items → Fits n.node (map (tree_at ts) n.parts.items) → list_any (same_term_node n) ns ≡ false →
    length ns + 1 < 2 ^ 32 → IsTable (ns ++ n ∷ [])
table_with ns ts table e n below fits absent small =
    let count : length ts ≡ length ns = ap length (sym e) ∙ length-trees ns in
    let all : trees_of_nodes (ns ++ n ∷ []) ≡ ts ++ made ts n ∷ [] = trees_after-push [] ns n ∙ ap (λ us. us ++ made us n ∷ []) e in
    let keeps : IsKept ts (trees_of_nodes (ns ++ n ∷ [])) = λ k t at. ap (λ us. slice_get us k) all ∙ slice_get-front ts (made ts n ∷ []) k t at in
    record {
      earlier = λ i m at. elim (slice_get-push ns n i m at) [
        | inl p ↦ table.earlier i m p
        | inr p ↦ subst (λ x. AreBelow i x.parts.items) p.1 (All-weaker (λ q. q.0 < length ts) (λ q. q.0 < i) (λ q h. omega arith) n.parts.items below)
      ];
      fits = λ i m at. elim (slice_get-push ns n i m at) [
        | inl p ↦
            let within : i < length ns = slice_get_within ns i m p in
            fits_kept ts (trees_of_nodes (ns ++ n ∷ [])) keeps m
            (All-weaker (λ q. q.0 < i) (λ q. q.0 < length ts) (λ q h. omega arith) m.parts.items (table.earlier i m p)) (fits_read ns ts table e i m p)
        | inr p ↦
            subst (λ x. Fits x.node (map (tree_at (trees_of_nodes (ns ++ n ∷ []))) x.parts.items)) p.1
            (fits_kept ts (trees_of_nodes (ns ++ n ∷ [])) keeps n below fits)
      ];
      distinct = subst AreDistinct (sym all) (distinct_push ts (made ts n) (subst AreDistinct e table.distinct) (is_new ns ts table e n below fits absent));
      small = omega (arith, length-append ns (n ∷ []));
    }

pub table-push : (ns ms : List TermNode) (ts : List Tree) → IsTable ns → trees_of_nodes ns ≡ ts → (n : TermNode) →
    AreBelow (length ts) n.parts.items → Fits n.node (map (tree_at ts) n.parts.items) → list_any (same_term_node n) ns ≡ false →
    ms ≡ cond (list_any (same_term_node n) ns) ns (ns ++ n ∷ []) → length ns + 1 < 2 ^ 32 → IsTable ms
table-push ns ms ts table e n below fits absent keys small =
    subst IsTable (sym (added_keys ns ms n _ absent keys)) (table_with ns ts table e n below fits absent small)

pub added_number : (ns ms : List TermNode) (ts : List Tree) → IsTable ms → trees_of_nodes ns ≡ ts → (n : TermNode) → AreBelow (length ts) n.parts.items →
    IsKept ts (trees_of_nodes ms) → (i : ℕ) → (k : TermNode) × (slice_get ms i ≡ Some k) × (same_term_node n k ≡ true) →
    slice_get (trees_of_nodes ms) i ≡ Some (made ts n)
added_number ns ms ts table e n below keeps i (k, at, same) =
    node_in ms table i k at ∙ ap Some (made_same (trees_of_nodes ms) n k same)
    ∙ ap (λ us. Some (tree_with n.node us)) (trees-kept ts (trees_of_nodes ms) keeps (length ts) (omega arith) n.parts.items below)

past : (ts : List Tree) (t : Tree) → slice_get ts (length ts) ≡ Some t → ⊥
past ts t e = omega (arith, slice_get_within ts (length ts) t e)

map_push : (f : TermId → Tree) (ids : List TermId) (id : TermId) → map f (ids ++ id ∷ []) ≡ map f ids ++ f id ∷ []
map_push f [] id = refl
map_push f (x ∷ ids) id = ap (λ us. f x ∷ us) (map_push f ids id)

take_push' : (ts : List Tree) (i : ℕ) (t : Tree) → slice_get ts i ≡ Some t → take (suc i) ts ≡ take i ts ++ t ∷ []
take_push' [] i t e = absurd (cc)
take_push' (u ∷ ts) zero t e = let p : u ≡ t = cc in ap (λ x. x ∷ []) p
take_push' (u ∷ ts) (suc i) t e = ap (λ us. u ∷ us) (take_push' ts i t e)

take_push : (ts : List Tree) (i : ℕ) (t : Tree) → slice_get ts i ≡ Some t → take (i + 1) ts ≡ take i ts ++ t ∷ []
take_push ts i t e = rw add-one (take_push' ts i t e)

-- what a growing table keeps
kept-longer : (old new : List Tree) → IsKept old new → length old ≤ length new
kept-longer old new kept =
    elim (cases_lt (length new) (length old)) [
      | inl l ↦ absurd (past new (get_or old (length new) (leaf head.Bool)) (kept (length new) _ (slice_get-get_or old (length new) (leaf head.Bool) l)))
      | inr l ↦ l
    ]

pub keeps-from : (old new : List Tree) → IsKept old new → Keeps old new
keeps-from old new kept = record { longer = kept-longer old new kept; same = tree_at-kept old new kept }

kept-of : (old new : List Tree) → Keeps old new → IsKept old new
kept-of old new keeps k t e =
    let within : k < length old = slice_get_within old k t e in
    let longer : length old ≤ length new = keeps.longer in
    let number : TermId = record { 0 = k } in
    get-tree_at new number (omega arith) ∙ ap Some (keeps.same number within ∙ tree_at-get old number t e)

pub keeps-refl : (ts : List Tree) → Keeps ts ts
keeps-refl ts = record { longer = omega arith; same = λ id l. refl }

pub keeps-chain : (old mid new : List Tree) → Keeps old mid → Keeps mid new → Keeps old new
keeps-chain old mid new h k =
    let first : length old ≤ length mid = h.longer in
    let second : length mid ≤ length new = k.longer in
    record { longer = omega arith; same = λ id l. k.same id (omega arith) ∙ h.same id l }

-- the number of a tree of a table
pub within-get : (ts : List Tree) (i : ℕ) (t : Tree) → slice_get ts i ≡ Some t → i < length ts
within-get ts i t e = slice_get_within ts i t e

pub only-get : (ts : List Tree) → AreDistinct ts → (id : TermId) (t : Tree) → slice_get ts id.0 ≡ Some t → IsOnly ts id t
only-get ts distinct id t e other l same =
    same_number ts distinct other id l (slice_get_within ts id.0 t e) (same ∙ sym (tree_at-get ts id t e))

-- one more part of a term, after its number was pushed
pub within-pushed : (old new : List Tree) (ids : List TermId) (id : TermId) → Keeps old new → AreBelow (length old) ids →
    id.0 < length new → AreBelow (length new) (ids ++ id ∷ [])
within-pushed old new ids id keeps below here =
    let more : length old ≤ length new = keeps.longer in
    All-push (λ p. p.0 < length new) ids id (All-weaker (λ p. p.0 < length old) (λ p. p.0 < length new) (λ p h. omega arith) ids below) here

pub trees-pushed : (old new : List Tree) (ids : List TermId) (id : TermId) (ts : List Tree) (i : ℕ) (t : Tree) → Keeps old new → AreBelow (length old) ids →
    map (tree_at old) ids ≡ take i ts → tree_at new id ≡ t → slice_get ts i ≡ Some t →
    map (tree_at new) (ids ++ id ∷ []) ≡ take (i + 1) ts
trees-pushed old new ids id ts i t keeps below so_far at part =
    map_push (tree_at new) ids id
    ∙ ap (λ us. us ++ tree_at new id ∷ []) (trees-kept old new (kept-of old new keeps) (length old) (omega arith) ids below ∙ so_far)
    ∙ ap (λ u. take i ts ++ u ∷ []) at
    ∙ sym (take_push ts i t part)

-- a tree is made of its top and its parts
pub tree_with-parts : (t : Tree) → tree_with (node_of t) (parts_of t) ≡ t
tree_with-parts (node h ts) = ap (node h) (forest-list_of ts)
tree_with-parts (alias k ts) = ap (alias k) (forest-list_of ts)
tree_with-parts (variable v) = refl

-- all parts of a term have got their numbers
pub all_parts : (us ts ps : List Tree) (i : ℕ) → us ≡ take i ts → length ts ≤ i → ts ≡ ps → us ≡ ps
all_parts us ts ps i e l f = e ∙ take_all i ts l ∙ f

pub ruleset interning = (tree_size-part)
