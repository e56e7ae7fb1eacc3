-- Self types, their parts and their clauses, in a table.
use Rattle.std.proofs.Common.{◌≡◌, ◌<◌, ◌≤◌, ◌+◌, ℕ, zero, suc, List, [], ◌∷◌, ◌++◌, length, map, take, Some, None, refl, sym, ap, ap₂, ◌∙◌, subst, add-one, append_assoc, append-nil, arith, true, false}
use Rattle.std.specs.List.{All}
use Rattle.std.specs.Prelude.{slice_get}
use Rattle.std.proofs.lemmas.List.{length-map, take_all, take-map}
use Rattle.std.proofs.lemmas.List.Elements.{All-head, All-tail, All-cons, All-nil}
use Rattle.goal_terms.specs.Erased.{erased, erased_row}
use Rattle.goal_terms.specs.Sorts.{IsArgument, Fits, tree_in, part_at}
use Rattle.goal_interner.specs.TableMeaning.{tree_at, AreBelow, Keeps}
use Rattle.goal_terms.specs.Tree.{Tree, Trees, node, alias, variable, none, more, forest, list_of, node_of, parts_of}
use Rattle.goal_terms.specs.declared.heads.Head.TheVariants.{Dynamic, DynTrait, DynProjection, Ref, FnPtr, Lifetime}
use Rattle.goal_terms.specs.declared.heads.Node.{Node}
use Rattle.goal_terms.specs.declared.ids.ItemId.{ItemId}
use Rattle.goal_terms.specs.declared.ids.OpaqueId.{OpaqueId}
use Rattle.goal_terms.specs.declared.ids.TraitId.{TraitId}
use Rattle.goal_interner.specs.declared.term_nodes.TermId.{TermId}
use Rattle.goal_terms.specs.declared.terms.AliasTermKind.{AliasTermKind}
use Rattle.goal_terms.specs.declared.terms.AliasTermKind.TheVariants.{ProjectionTy, OpaqueTy}
use Rattle.goal_interner.proofs.UnderLemmas.{part-read}
use Rattle.goal_tables.specs.Rows.{item_of, opaque_of}
use Rattle.goal_tables.specs.declared.rows.Tables.{Tables}
use Rattle.goal_lists.specs.Candidates.{Candidate, assumption, item_bounds, opaque_bounds, bounds_of, bounds_of_alias, all_but_last, last_of, projects, object_bound, object_bounds_among, object_bounds}
use Rattle.goal_lists.specs.CandidateTops.{projected_item, opaque_number, is_object, clause_trait, clause_item}
use Rattle.goal_lists.specs.Interned.{IsIn, AreIn}
use Rattle.goal_terms.specs.PredicateTrees.{holds, equals}

-- a list without lifetimes
pub list-erased : (ts : Trees) → list_of (erased_row ts) ≡ map erased (list_of ts)
unfolding erased
list-erased none = refl
list-erased (more t ts) = ap (λ us. erased t ∷ us) (list-erased ts)

pub forest-erased : (ts : List Tree) → erased_row (forest ts) ≡ forest (map erased ts)
unfolding erased
forest-erased [] = refl
forest-erased (t ∷ ts) = ap (λ us. more (erased t) us) (forest-erased ts)

-- the numbers of parts that are arguments
arguments_in : (T : List Tree) (n : ℕ) → n ≤ length T → (ids : List TermId) → AreBelow n ids → All IsArgument (map (tree_at T) ids) → AreIn T ids
arguments_in T n small [] below arguments = All-nil (IsIn T)
arguments_in T n small (i ∷ is) below arguments =
    let here : i.0 < n = All-head (λ j. j.0 < n) i is below in
    All-cons (IsIn T) i is (omega arith, All-head IsArgument (tree_at T i) (map (tree_at T) is) arguments)
    (arguments_in T n small is (All-tail (λ j. j.0 < n) i is below) (All-tail IsArgument (tree_at T i) (map (tree_at T) is) arguments))

pub parts_in : (T : List Tree) (n : ℕ) (ids : List TermId) (ts : List Tree) → n ≤ length T → AreBelow n ids → map (tree_at T) ids ≡ ts → All IsArgument ts → AreIn T ids
parts_in T n ids ts small below trees arguments = arguments_in T n small ids below (subst (All IsArgument) (sym trees) arguments)

-- the bounds of a rigid projection
pub bounds-projection : (t : Tables) (u : Tree) (i : ItemId) → projected_item (node_of u) ≡ Some i →
    item_bounds (map erased (parts_of u) ++ erased u ∷ []) (item_of t i) ≡ bounds_of t (erased u)
unfolding bounds_of bounds_of_alias erased projected_item
bounds-projection t (node h ts) i e = absurd (cc)
bounds-projection t (variable v) i e = absurd (cc)
bounds-projection t (alias (ProjectionTy j) ts) i e =
    let same : j ≡ i = cc in
    ap₂ (λ us k. item_bounds (us ++ alias (ProjectionTy j) (erased_row ts) ∷ []) (item_of t k)) (sym (list-erased ts)) (sym same)
bounds-projection t (alias k ts) i e = absurd (cc)

-- the bounds of an opaque type
pub bounds-opaque : (t : Tables) (u : Tree) (i : OpaqueId) → opaque_number (node_of u) ≡ Some i →
    opaque_bounds (map erased (parts_of u) ++ erased u ∷ []) (opaque_of t i) ≡ bounds_of t (erased u)
unfolding bounds_of bounds_of_alias erased opaque_number
bounds-opaque t (node h ts) i e = absurd (cc)
bounds-opaque t (variable v) i e = absurd (cc)
bounds-opaque t (alias (OpaqueTy j) ts) i e =
    let same : j ≡ i = cc in
    ap₂ (λ us k. opaque_bounds (us ++ alias (OpaqueTy j) (erased_row ts) ∷ []) (opaque_of t k)) (sym (list-erased ts)) (sym same)
bounds-opaque t (alias k ts) i e = absurd (cc)

-- other self types have none
pub bounds-none : (t : Tables) (u : Tree) → projected_item (node_of u) ≡ None → opaque_number (node_of u) ≡ None → bounds_of t (erased u) ≡ []
unfolding bounds_of bounds_of_alias erased projected_item opaque_number
bounds-none t (node h ts) e f = refl
bounds-none t (variable v) e f = refl
bounds-none t (alias (ProjectionTy j) ts) e f = absurd (cc)
bounds-none t (alias (OpaqueTy j) ts) e f = absurd (cc)
bounds-none t (alias k ts) e f = refl

-- the parts of these are arguments
pub projection-arguments : (u : Tree) (i : ItemId) → projected_item (node_of u) ≡ Some i → Fits (node_of u) (parts_of u) → All IsArgument (parts_of u)
unfolding projected_item
projection-arguments (node h ts) i e fits = absurd (cc)
projection-arguments (variable v) i e fits = absurd (cc)
projection-arguments (alias k ts) i e fits = fits

pub opaque-arguments : (u : Tree) (i : OpaqueId) → opaque_number (node_of u) ≡ Some i → Fits (node_of u) (parts_of u) → All IsArgument (parts_of u)
unfolding opaque_number
opaque-arguments (node h ts) i e fits = absurd (cc)
opaque-arguments (variable v) i e fits = absurd (cc)
opaque-arguments (alias k ts) i e fits = fits

-- all of a list but its last element, and the last
all_but_last-take : (ts : List Tree) (n : ℕ) → length ts ≡ suc n → all_but_last ts ≡ take n ts
unfolding all_but_last
all_but_last-take [] n e = absurd (omega arith)
all_but_last-take (t ∷ []) zero e = refl
all_but_last-take (t ∷ []) (suc n) e = absurd (omega arith)
all_but_last-take (t ∷ u ∷ us) zero e = absurd (omega arith)
all_but_last-take (t ∷ u ∷ us) (suc n) e = ap (λ vs. t ∷ vs) (all_but_last-take (u ∷ us) n (omega arith))

last_of-map : (ts : List Tree) (n : ℕ) → length ts ≡ suc n → last_of (map erased ts) ≡ Some (erased (tree_in ts n))
unfolding last_of
last_of-map [] n e = absurd (omega arith)
last_of-map (t ∷ []) zero e = refl
last_of-map (t ∷ []) (suc n) e = absurd (omega arith)
last_of-map (t ∷ u ∷ us) zero e = absurd (omega arith)
last_of-map (t ∷ u ∷ us) (suc n) e = last_of-map (u ∷ us) n (omega arith)

-- what a clause of a trait says, whose arguments are all there
pub trait_clause-arguments : (t : Tree) (top : TraitId × ℕ) → clause_trait (node_of t) ≡ Some top → Fits (node_of t) (parts_of t) → All IsArgument (parts_of t)
unfolding clause_trait
trait_clause-arguments (node (DynTrait j n) ts) top e fits = fits.1
trait_clause-arguments (node h ts) top e fits = absurd (cc)
trait_clause-arguments (alias k ts) top e fits = absurd (cc)
trait_clause-arguments (variable v) top e fits = absurd (cc)

pub trait_clause-count : (t : Tree) (top : TraitId × ℕ) → clause_trait (node_of t) ≡ Some top → Fits (node_of t) (parts_of t) → top.1 ≡ length (parts_of t)
unfolding clause_trait
trait_clause-count (node (DynTrait j n) ts) top e fits = let same : (j, n) ≡ top = cc in sym (ap (λ p. p.1) same) ∙ sym fits.0
trait_clause-count (node h ts) top e fits = absurd (cc)
trait_clause-count (alias k ts) top e fits = absurd (cc)
trait_clause-count (variable v) top e fits = absurd (cc)

trait_clause-says : (s t : Tree) (top : TraitId × ℕ) → clause_trait (node_of t) ≡ Some top →
    object_bound s (erased t) ≡ assumption (holds top.0 (s ∷ map erased (parts_of t))) ∷ []
unfolding clause_trait erased
trait_clause-says s (node (DynTrait j n) ts) top e =
    let same : (j, n) ≡ top = cc in ap₂ (λ k us. assumption (holds k (s ∷ us)) ∷ []) (ap (λ p. p.0) same) (list-erased ts)
trait_clause-says s (node h ts) top e = absurd (cc)
trait_clause-says s (alias k ts) top e = absurd (cc)
trait_clause-says s (variable v) top e = absurd (cc)

pub object_bound-trait : (s t : Tree) (top : TraitId × ℕ) (us : List Tree) → clause_trait (node_of t) ≡ Some top → Fits (node_of t) (parts_of t) →
    us ≡ s ∷ map erased (take top.1 (parts_of t)) → assumption (holds top.0 us) ∷ [] ≡ object_bound s (erased t)
object_bound-trait s t top us e fits is =
    ap (λ vs. assumption (holds top.0 vs) ∷ [])
    (is ∙ ap (λ vs. s ∷ map erased vs) (ap (λ n. take n (parts_of t)) (trait_clause-count t top e fits) ∙ take_all (length (parts_of t)) (parts_of t) (omega arith)))
    ∙ sym (trait_clause-says s t top e)

-- what a clause of an item says, whose last part is the item's term
pub item_clause-arguments : (t : Tree) (top : ItemId × ℕ) → clause_item (node_of t) ≡ Some top → Fits (node_of t) (parts_of t) → All IsArgument (parts_of t)
unfolding clause_item
item_clause-arguments (node (DynProjection j n) ts) top e fits = fits.1
item_clause-arguments (node h ts) top e fits = absurd (cc)
item_clause-arguments (alias k ts) top e fits = absurd (cc)
item_clause-arguments (variable v) top e fits = absurd (cc)

pub item_clause-count : (t : Tree) (top : ItemId × ℕ) → clause_item (node_of t) ≡ Some top → Fits (node_of t) (parts_of t) → length (parts_of t) ≡ suc top.1
unfolding clause_item
item_clause-count (node (DynProjection j n) ts) top e fits =
    let same : (j, n) ≡ top = cc in let count : length (list_of ts) ≡ n + 1 = fits.0 in let number : n ≡ top.1 = ap (λ p. p.1) same in omega arith
item_clause-count (node h ts) top e fits = absurd (cc)
item_clause-count (alias k ts) top e fits = absurd (cc)
item_clause-count (variable v) top e fits = absurd (cc)

item_clause-says : (s t : Tree) (top : ItemId × ℕ) → clause_item (node_of t) ≡ Some top →
    object_bound s (erased t)
    ≡ projects (alias (ProjectionTy top.0) (forest (s ∷ all_but_last (map erased (parts_of t))))) (last_of (map erased (parts_of t)))
unfolding clause_item erased
item_clause-says s (node (DynProjection j n) ts) top e =
    let same : (j, n) ≡ top = cc in
    ap₂ (λ k us. projects (alias (ProjectionTy k) (forest (s ∷ all_but_last us))) (last_of us)) (ap (λ p. p.0) same) (list-erased ts)
item_clause-says s (node h ts) top e = absurd (cc)
item_clause-says s (alias k ts) top e = absurd (cc)
item_clause-says s (variable v) top e = absurd (cc)

pub object_bound-item : (s t a u : Tree) (top : ItemId × ℕ) (us : List Tree) → clause_item (node_of t) ≡ Some top → Fits (node_of t) (parts_of t) →
    us ≡ s ∷ map erased (take top.1 (parts_of t)) → a ≡ alias (ProjectionTy top.0) (forest us) → u ≡ tree_in (parts_of t) top.1 →
    assumption (equals a (erased u)) ∷ [] ≡ object_bound s (erased t)
object_bound-item s t a u top us e fits is alias_is term_is =
    let count : length (parts_of t) ≡ suc top.1 = item_clause-count t top e fits in
    let fewer : all_but_last (map erased (parts_of t)) ≡ map erased (take top.1 (parts_of t)) =
    all_but_last-take (map erased (parts_of t)) top.1 (length-map (parts_of t) erased ∙ count) ∙ take-map erased top.1 (parts_of t) in
    ap₂ (λ b v. assumption (equals b v) ∷ [])
    (alias_is ∙ ap (λ vs. alias (ProjectionTy top.0) (forest vs)) (is ∙ ap (λ vs. s ∷ vs) (sym fewer)))
    (ap erased term_is)
    ∙ ap (projects (alias (ProjectionTy top.0) (forest (s ∷ all_but_last (map erased (parts_of t)))))) (sym (last_of-map (parts_of t) top.1 count))
    ∙ sym (item_clause-says s t top e)

-- other clauses say nothing
pub object_bound-none : (s t : Tree) → clause_trait (node_of t) ≡ None → clause_item (node_of t) ≡ None → object_bound s (erased t) ≡ []
unfolding clause_trait clause_item erased
object_bound-none s (node (DynTrait j n) ts) e f = absurd (cc)
object_bound-none s (node (DynProjection j n) ts) e f = absurd (cc)
object_bound-none s (node (Ref r m) ts) e f = refl
object_bound-none s (node (FnPtr b n c) ts) e f = refl
object_bound-none s (node (Dynamic n r) ts) e f = refl
object_bound-none s (node (Lifetime r) ts) e f = refl
object_bound-none s (node h ts) e f = refl
object_bound-none s (alias k ts) e f = refl
object_bound-none s (variable v) e f = refl

-- what the first of the clauses so far say, and then the next
among-next : (s : Tree) (ts : List Tree) (i : ℕ) (t : Tree) → slice_get ts i ≡ Some t →
    object_bounds_among s (take (suc i) ts) ≡ object_bounds_among s (take i ts) ++ object_bound s t
unfolding object_bounds_among
among-next s [] i t e = absurd (cc)
among-next s (u ∷ ts) zero t e = let same : u ≡ t = cc in append-nil (object_bound s u) ∙ ap (object_bound s) same
among-next s (u ∷ ts) (suc i) t e =
    ap (λ cs. object_bound s u ++ cs) (among-next s ts i t e) ∙ sym (append_assoc (object_bound s u) (object_bounds_among s (take i ts)) (object_bound s t))

pub among-more : (s : Tree) (ts : List Tree) (i : ℕ) (t : Tree) → slice_get ts i ≡ Some t →
    object_bounds_among s (take (i + 1) ts) ≡ object_bounds_among s (take i ts) ++ object_bound s t
among-more s ts i t e = rw add-one (among-next s ts i t e)

-- what all clauses of a `dyn` type say
pub object_bounds-all : (t : Tree) → is_object (node_of t) ≡ true → object_bounds_among (erased t) (map erased (parts_of t)) ≡ object_bounds (erased t)
unfolding is_object object_bounds erased
object_bounds-all (node (Dynamic n r) ts) e = ap (object_bounds_among (erased (node (Dynamic n r) ts))) (sym (list-erased ts))
object_bounds-all (node h ts) e = absurd (cc)
object_bounds-all (alias k ts) e = absurd (cc)
object_bounds-all (variable v) e = absurd (cc)

-- other types have no clauses
pub object_bounds-none : (t : Tree) → is_object (node_of t) ≡ false → object_bounds (erased t) ≡ []
unfolding is_object object_bounds erased
object_bounds-none (node (Dynamic n r) ts) e = absurd (cc)
object_bounds-none (node (Ref r m) ts) e = refl
object_bounds-none (node (FnPtr b n c) ts) e = refl
object_bounds-none (node (Lifetime r) ts) e = refl
object_bounds-none (node h ts) e = refl
object_bounds-none (alias k ts) e = refl
object_bounds-none (variable v) e = refl

-- a node that is at the top of a tree and fits its parts
pub fits-at : (t : Tree) (n : Node) → n ≡ node_of t → Fits n (parts_of t) → Fits (node_of t) (parts_of t)
fits-at t n e fits = subst (λ m. Fits m (parts_of t)) e fits

-- an alias without lifetimes
pub alias-erased : (k : AliasTermKind) (ts : List Tree) → erased (alias k (forest ts)) ≡ alias k (forest (map erased ts))
unfolding erased
alias-erased k ts = ap (alias k) (forest-erased ts)

-- a list of which nothing more is said
pub nothing-more : (front rest : List Candidate) → rest ≡ [] → front ≡ front ++ rest
nothing-more front rest e = sym (ap (λ cs. front ++ cs) e ∙ append-nil front)

-- what the clauses so far say, in a table that has grown, and then the next
pub clauses-so_far : (I T : List Tree) (self clause : TermId) → Keeps I T → self.0 < length I → (front mid all : List Candidate) (i : ℕ) →
    i < length (parts_of (tree_at I self)) → tree_at T clause ≡ part_at (tree_at T self) i →
    mid ≡ front ++ object_bounds_among (erased (tree_at I self)) (take i (map erased (parts_of (tree_at I self)))) →
    all ≡ mid ++ object_bound (erased (tree_at T self)) (erased (tree_at T clause)) →
    all ≡ front ++ object_bounds_among (erased (tree_at I self)) (take (i + 1) (map erased (parts_of (tree_at I self))))
clauses-so_far I T self clause keeps below front mid all i within part so next =
    let s : Tree = erased (tree_at I self) in
    let ts : List Tree = map erased (parts_of (tree_at I self)) in
    let b : Tree = erased (tree_at T clause) in
    next ∙ ap₂ (λ cs u. cs ++ object_bound (erased u) b) so (keeps.same self below)
    ∙ append_assoc front (object_bounds_among s (take i ts)) (object_bound s b)
    ∙ ap (λ cs. front ++ cs)
    (sym (among-more s ts i b (part-read erased (tree_at I self) (tree_at T self) (tree_at T clause) i (keeps.same self below) within part)))

-- what all clauses say
pub clauses-all : (t : Tree) → is_object (node_of t) ≡ true → (front all : List Candidate) (i : ℕ) → length (parts_of t) ≤ i →
    all ≡ front ++ object_bounds_among (erased t) (take i (map erased (parts_of t))) → all ≡ front ++ object_bounds (erased t)
clauses-all t object front all i done so =
    so
    ∙ ap (λ ts. front ++ object_bounds_among (erased t) ts) (take_all i (map erased (parts_of t)) (omega (arith, length-map (parts_of t) erased)))
    ∙ ap (λ cs. front ++ cs) (object_bounds-all t object)
