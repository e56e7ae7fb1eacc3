-- What the clauses of a `dyn` self type say, as owned clauses.
use Rattle.std.proofs.Common.{◌≡◌, ℕ, ◌+◌, ◌<◌, ◌≤◌, get_or, take, append_assoc, append-nil, Bool, true, false, Vec, Global, Some, List, [], ◌∷◌, ◌++◌, length, map, refl, sym, ap, ap₂, subst, ◌∙◌}
use Rattle.std.proofs.lemmas.List.{map_push, take_more, take_all}
use Rattle.std.proofs.lemmas.Simd.{map-map}
use Rattle.std.specs.Prelude.{if◌then◌else◌}
use Rattle.goal_terms.specs.Erased.{erased}
use Rattle.goal_terms.specs.PredicateTrees.{holds, equals}
use Rattle.goal_terms.specs.Tree.{Tree, Trees, node, alias, forest, node_of, parts_of}
use Rattle.goal_terms.specs.TreeOf.{tree_of_arg, tree_of_alias, tree_of_clause, tree_of_term, tree_of_ty, trees_of, at_type, is_type_kind}
use Rattle.goal_terms.specs.declared.heads.Head.TheVariants as head
use Rattle.goal_terms.specs.declared.ids.ItemId.{ItemId}
use Rattle.goal_terms.specs.declared.ids.TraitId.{TraitId}
use Rattle.goal_terms.specs.declared.terms.AliasTerm.{AliasTerm}
use Rattle.goal_terms.specs.declared.terms.AliasTermKind.{AliasTermKind}
use Rattle.goal_terms.specs.declared.terms.AliasTermKind.TheVariants.{ProjectionTy}
use Rattle.goal_terms.specs.declared.terms.Const.{Const}
use Rattle.goal_terms.specs.declared.terms.DynClause.{DynClause}
use Rattle.goal_terms.specs.declared.terms.DynClause.TheVariants as clauses
use Rattle.goal_terms.specs.declared.terms.FnSig.{FnSig}
use Rattle.goal_terms.specs.declared.terms.GenericArg.{GenericArg}
use Rattle.goal_terms.specs.declared.terms.Region.{Region}
use Rattle.goal_terms.specs.declared.terms.Term.{Term}
use Rattle.goal_terms.specs.declared.terms.Ty.{Ty, Ty-F, roll-Ty, out-Ty, roll-out-Ty}
use Rattle.goal_terms.specs.declared.terms.Ty.TheVariants as types
use Rattle.goal_terms.proofs.TreeLemmas as trees
use Rattle.goal_lists.specs.Candidates.{Candidate, assumption, all_but_last, last_of, projects, object_bound, object_bounds_among, object_bounds}
use Rattle.goal_lists.specs.CandidateTops.{is_object}
use Rattle.goal_lists.proofs.CandidateTerms.{list-erased, alias-erased, object_bounds-all, object_bounds-none}
use Rattle.goal_kinds.specs.declared.rules.Rule.{Rule}
use Rattle.goal_kinds.specs.Collecting.{Adds, Collects}
use Rattle.goal_kinds.proofs.CollectingLemmas.{collects-chain, collects-one}

-- a list with one more at its end
before-last : (ts : List Tree) (t : Tree) → all_but_last (ts ++ t ∷ []) ≡ ts
unfolding all_but_last
before-last [] t = refl
before-last (u ∷ []) t = refl
before-last (u ∷ v ∷ vs) t = ap (λ us. u ∷ us) (before-last (v ∷ vs) t)

the-last : (ts : List Tree) (t : Tree) → last_of (ts ++ t ∷ []) ≡ Some t
unfolding last_of
the-last [] t = refl
the-last (u ∷ []) t = refl
the-last (u ∷ v ∷ vs) t = the-last (v ∷ vs) t

-- what an owned clause says of its type
pub trait-says : (self : Tree) (c : DynClause) (i : TraitId) (args : Vec GenericArg Global) → c ≡ clauses.Trait i args →
    object_bound self (erased (tree_of_clause c)) ≡ assumption (holds i (self ∷ map erased (trees_of args.items))) ∷ []
unfolding erased
trait-says self c i args e =
    ap (λ u. object_bound self (erased u)) (ap tree_of_clause e ∙ trees.tree_of_clause-Trait i args)
    ∙ ap (λ us. assumption (holds i (self ∷ us)) ∷ []) (list-erased (forest (trees_of args.items)) ∙ ap (map erased) (trees.list_of-forest (trees_of args.items)))

pub item-says : (self : Tree) (c : DynClause) (i : ItemId) (args : Vec GenericArg Global) (u : Term) → c ≡ clauses.Projection i args u →
    object_bound self (erased (tree_of_clause c)) ≡ assumption (equals (alias (ProjectionTy i) (forest (self ∷ map erased (trees_of args.items)))) (erased (tree_of_term u))) ∷ []
unfolding erased
item-says self c i args u e =
    let ts : List Tree = map erased (trees_of args.items) in
    let t : Tree = erased (tree_of_term u) in
    ap (λ x. object_bound self (erased x)) (ap tree_of_clause e ∙ trees.tree_of_clause-Projection i args u)
    ∙ ap (λ us. projects (alias (ProjectionTy i) (forest (self ∷ all_but_last us))) (last_of us))
    (list-erased (forest (trees_of args.items ++ tree_of_term u ∷ [])) ∙ ap (map erased) (trees.list_of-forest (trees_of args.items ++ tree_of_term u ∷ []))
    ∙ map_push erased (trees_of args.items) (tree_of_term u))
    ∙ ap₂ (λ us o. projects (alias (ProjectionTy i) (forest (self ∷ us))) o) (before-last ts t) (the-last ts t)

-- what clauses say, one after the other
among-append : (self : Tree) (ts us : List Tree) → object_bounds_among self (ts ++ us) ≡ object_bounds_among self ts ++ object_bounds_among self us
unfolding object_bounds_among
among-append self [] us = refl
among-append self (t ∷ ts) us =
    ap (λ cs. object_bound self t ++ cs) (among-append self ts us) ∙ sym (append_assoc (object_bound self t) (object_bounds_among self ts) (object_bounds_among self us))

among-one : (self t : Tree) → object_bounds_among self (t ∷ []) ≡ object_bound self t
unfolding object_bounds_among
among-one self t = append-nil (object_bound self t)

-- what the clauses of a `dyn` type before a place say
abbrev pub said_before : Tree → List DynClause → ℕ → List Candidate
said_before self cs n = object_bounds_among self (map (λ c. erased (tree_of_clause c)) (take n cs))

pub said-none : (self : Tree) (cs : List DynClause) → said_before self cs 0 ≡ []
unfolding object_bounds_among
said-none self cs = refl

said-more : (self : Tree) (cs : List DynClause) (n : ℕ) (c : DynClause) → n < length cs → c ≡ get_or cs n c →
    said_before self cs (n + 1) ≡ said_before self cs n ++ object_bound self (erased (tree_of_clause c))
said-more self cs n c l at =
    ap (object_bounds_among self) (ap (map (λ x. erased (tree_of_clause x))) (take_more cs n c l) ∙ map_push (λ x. erased (tree_of_clause x)) (take n cs) (get_or cs n c))
    ∙ among-append self (map (λ x. erased (tree_of_clause x)) (take n cs)) (erased (tree_of_clause (get_or cs n c)) ∷ [])
    ∙ ap (λ ds. said_before self cs n ++ ds) (among-one self (erased (tree_of_clause (get_or cs n c))) ∙ ap (λ x. object_bound self (erased (tree_of_clause x))) (sym at))

-- the rule of the next clause
pub collects-object : (P : Rule → Candidate → Type 0) (L : Candidate → Type 0) (self : Tree) (cs : List DynClause) (n : ℕ) (c : DynClause) (said : Candidate) (before rs after : List Rule) →
    n < length cs → c ≡ get_or cs n c → object_bound self (erased (tree_of_clause c)) ≡ said ∷ [] → Adds P L said rs after →
    Collects P L (said_before self cs n) before rs → Collects P L (said_before self cs (n + 1)) before after
collects-object P L self cs n c said before rs after l at e a h =
    subst (λ ds. Collects P L ds before after) (sym (said-more self cs n c l at ∙ ap (λ ds. said_before self cs n ++ ds) e))
    (collects-chain P L (said_before self cs n) (said ∷ []) before rs after h (collects-one P L rs after said a))

-- what all clauses of a `dyn` type say of it
object-node : (n : ℕ) (r : Region) (ts : Trees) → is_object (node_of (node (head.Dynamic n r) ts)) ≡ true
unfolding is_object
object-node n r ts = refl

pub objects-say : (cs : Vec DynClause Global) (r : Region) (s : Ty) → s ≡ types.Dynamic cs r → (n : ℕ) → length cs.items ≤ n →
    said_before (erased (tree_of_ty s)) cs.items n ≡ object_bounds (erased (tree_of_ty s))
objects-say cs r s e n l =
    let same : tree_of_ty s ≡ node (head.Dynamic (length cs.items) r) (forest (map tree_of_clause cs.items)) = ap tree_of_ty e ∙ trees.tree_of_ty-Dynamic cs r in
    ap (object_bounds_among (erased (tree_of_ty s)))
    (ap (map (λ c. erased (tree_of_clause c))) (take_all n cs.items l) ∙ sym (map-map erased tree_of_clause cs.items)
    ∙ ap (map erased) (sym (ap parts_of same ∙ trees.list_of-forest (map tree_of_clause cs.items))))
    ∙ object_bounds-all (tree_of_ty s) (ap (λ u. is_object (node_of u)) same ∙ object-node (length cs.items) r (forest (map tree_of_clause cs.items)))

-- an alias is no `dyn` type
alias-none : (b : Bool) (k : AliasTermKind) (ts : Trees) → is_object (node_of (if b then alias k ts else node (head.Misplaced k) ts)) ≡ false
unfolding is_object
alias-none true k ts = refl
alias-none false k ts = refl

-- nor is any other type
other-layer : (l : Ty-F Const DynClause GenericArg Term Ty AliasTerm FnSig) → ((cs : Vec DynClause Global) (r : Region) → roll-Ty l ≡ types.Dynamic cs r → ⊥) →
    is_object (node_of (tree_of_ty (roll-Ty l))) ≡ false
unfolding is_object
other-layer Ty-F.Bool n = ap (λ u. is_object (node_of u)) (ap tree_of_ty types.rolls-Bool ∙ trees.tree_of_ty-Bool)
other-layer Ty-F.Char n = ap (λ u. is_object (node_of u)) (ap tree_of_ty types.rolls-Char ∙ trees.tree_of_ty-Char)
other-layer (Ty-F.Int i) n = ap (λ u. is_object (node_of u)) (ap tree_of_ty (types.rolls-Int i) ∙ trees.tree_of_ty-Int i)
other-layer (Ty-F.Uint i) n = ap (λ u. is_object (node_of u)) (ap tree_of_ty (types.rolls-Uint i) ∙ trees.tree_of_ty-Uint i)
other-layer (Ty-F.Float i) n = ap (λ u. is_object (node_of u)) (ap tree_of_ty (types.rolls-Float i) ∙ trees.tree_of_ty-Float i)
other-layer Ty-F.Str n = ap (λ u. is_object (node_of u)) (ap tree_of_ty types.rolls-Str ∙ trees.tree_of_ty-Str)
other-layer Ty-F.Never n = ap (λ u. is_object (node_of u)) (ap tree_of_ty types.rolls-Never ∙ trees.tree_of_ty-Never)
other-layer (Ty-F.Adt i args) n = ap (λ u. is_object (node_of u)) (ap tree_of_ty (types.rolls-Adt i args) ∙ trees.tree_of_ty-Adt i args)
other-layer (Ty-F.Foreign i) n = ap (λ u. is_object (node_of u)) (ap tree_of_ty (types.rolls-Foreign i) ∙ trees.tree_of_ty-Foreign i)
other-layer (Ty-F.Array t c) n = ap (λ u. is_object (node_of u)) (ap tree_of_ty (types.rolls-Array t c) ∙ trees.tree_of_ty-Array t c)
other-layer (Ty-F.Slice t) n = ap (λ u. is_object (node_of u)) (ap tree_of_ty (types.rolls-Slice t) ∙ trees.tree_of_ty-Slice t)
other-layer (Ty-F.RawPtr t m) n = ap (λ u. is_object (node_of u)) (ap tree_of_ty (types.rolls-RawPtr t m) ∙ trees.tree_of_ty-RawPtr t m)
other-layer (Ty-F.Ref r t m) n = ap (λ u. is_object (node_of u)) (ap tree_of_ty (types.rolls-Ref r t m) ∙ trees.tree_of_ty-Ref r t m)
other-layer (Ty-F.FnDef i args) n = ap (λ u. is_object (node_of u)) (ap tree_of_ty (types.rolls-FnDef i args) ∙ trees.tree_of_ty-FnDef i args)
other-layer (Ty-F.FnPtr sig) n = ap (λ u. is_object (node_of u)) (ap tree_of_ty (types.rolls-FnPtr sig) ∙ trees.tree_of_ty-FnPtr sig ∙ trees.tree_of_sig-record sig.value)
other-layer (Ty-F.Closure i args) n = ap (λ u. is_object (node_of u)) (ap tree_of_ty (types.rolls-Closure i args) ∙ trees.tree_of_ty-Closure i args)
other-layer (Ty-F.Dynamic cs r) n = absurd (n cs r (types.rolls-Dynamic cs r))
other-layer (Ty-F.Tuple ts) n = ap (λ u. is_object (node_of u)) (ap tree_of_ty (types.rolls-Tuple ts) ∙ trees.tree_of_ty-Tuple ts)
other-layer (Ty-F.Ty::Param k) n = ap (λ u. is_object (node_of u)) (ap tree_of_ty (types.rolls-Param k) ∙ trees.tree_of_ty-Param k)
other-layer (Ty-F.Ty::Placeholder k) n = ap (λ u. is_object (node_of u)) (ap tree_of_ty (types.rolls-Placeholder k) ∙ trees.tree_of_ty-Placeholder k)
other-layer (Ty-F.Ty::Alias a) n = ap (λ u. is_object (node_of u)) (ap tree_of_ty (types.rolls-Alias a) ∙ trees.tree_of_ty-Alias a ∙ ap at_type (trees.tree_of_alias-record a)) ∙ alias-none (is_type_kind a.kind) a.kind (forest (map tree_of_arg a.args.items))
other-layer (Ty-F.Ty::Infer v) n = ap (λ u. is_object (node_of u)) (ap tree_of_ty (types.rolls-Infer v) ∙ trees.tree_of_ty-Infer v)
other-layer (Ty-F.Ty::Error k) n = ap (λ u. is_object (node_of u)) (ap tree_of_ty (types.rolls-Error k) ∙ trees.tree_of_ty-Error k)

other-node : (t : Ty) → ((cs : Vec DynClause Global) (r : Region) → t ≡ types.Dynamic cs r → ⊥) → is_object (node_of (tree_of_ty t)) ≡ false
other-node t n =
    ap (λ u. is_object (node_of (tree_of_ty u))) (sym (roll-out-Ty t)) ∙ other-layer (out-Ty t) (λ cs r e. n cs r (sym (roll-out-Ty t) ∙ e))

pub objects-none : (t : Ty) → ((cs : Vec DynClause Global) (r : Region) → t ≡ types.Dynamic cs r → ⊥) → object_bounds (erased (tree_of_ty t)) ≡ []
objects-none t n = object_bounds-none (tree_of_ty t) (other-node t n)

-- an alias of a `dyn` type's item, made of arguments
pub object-alias : (self : Tree) (a : AliasTerm) (ts : List Tree) → map erased (trees_of a.args.items) ≡ self ∷ ts → erased (tree_of_alias a) ≡ alias a.kind (forest (self ∷ ts))
object-alias self a ts e = ap erased (trees.tree_of_alias-record a) ∙ alias-erased a.kind (trees_of a.args.items) ∙ ap (λ us. alias a.kind (forest us)) e
