-- The lists of clauses that equate an alias with a term, for a projection: they are of the same item, or there is none.
use Rattle.std.proofs.Common.{◌≡◌, ◌<◌, Bool, true, false, List, [], ◌∷◌, length, map, Some, None, refl, sym, ap, ◌∙◌, subst, arith}
use Rattle.std.specs.List.{All}
use Rattle.std.specs.Prelude.{if◌then◌else◌}
use Rattle.std.proofs.lemmas.Bool.{false_from_ne_true}
use Rattle.std.proofs.lemmas.List.Elements.{All-cons, All-head, All-tail}
use Rattle.goal_terms.specs.Erased.{erased, erased_row}
use Rattle.goal_terms.specs.Sorts.{Fits, IsArgument}
use Rattle.goal_interner.specs.TableMeaning.{tree_at, AreBelow}
use Rattle.goal_terms.specs.Tree.{Tree, Trees, node, alias, variable, none, more, list_of, node_of, parts_of}
use Rattle.goal_terms.specs.declared.heads.Node.{Node}
use Rattle.goal_terms.specs.declared.heads.Node.TheVariants as nodes
use Rattle.goal_interner.specs.declared.term_nodes.TermId.{TermId}
use Rattle.goal_terms.specs.declared.terms.AliasTermKind.{AliasTermKind}
use Rattle.goal_lists.specs.Entries.{Entry}
use Rattle.goal_lists.specs.ImplTerms.{Projection}
use Rattle.goal_lists.specs.Interned.{erased_at, erased_all, AreIn}
use Rattle.goal_lists.specs.ProjectionLists.{is_item, same_item_list, equation_clause_list}
use Rattle.goal_lists.specs.Projections.{projected_item}
use Rattle.goal_lists.proofs.EachRuleLemmas.{mapped-twice}
use Rattle.goal_lists.proofs.ProjectionLists.{item-tested}

-- a term that is no alias
pub loose-list : (p : Projection) (t v : Tree) (n : Node) → n ≡ node_of t → ((k : AliasTermKind) → n ≡ nodes.Alias k → ⊥) → None ≡ equation_clause_list p (erased t) v
unfolding erased equation_clause_list
loose-list p (node h ts) v n e f = refl
loose-list p (alias k ts) v n e f = absurd (f k e)
loose-list p (variable x) v n e f = refl

-- an alias, by whether it projects the item
tested-list : (p : Projection) (k : AliasTermKind) (b : Bool) (bs : List Tree) (v : Tree) → is_item p.item.id (projected_item k) ≡ b →
    (if b then Some (same_item_list p bs v) else None) ≡ (if is_item p.item.id (projected_item k) then Some (same_item_list p bs v) else None)
tested-list p k b bs v e = ap (λ x. if x then Some (same_item_list p bs v) else None) (sym e)

pub other-list : (p : Projection) (t v : Tree) (n : Node) (k : AliasTermKind) → n ≡ node_of t → n ≡ nodes.Alias k → (projected_item k ≡ Some p.item.id → ⊥) →
    None ≡ equation_clause_list p (erased t) v
unfolding erased equation_clause_list
other-list p (node h ts) v n k e f other = refl
other-list p (alias j ts) v n k e f other =
    let same : k ≡ j = cc in
    tested-list p j false (list_of (erased_row ts)) v
    (false_from_ne_true (is_item p.item.id (projected_item j))
    (λ is. other (subst (λ x. projected_item x ≡ Some p.item.id) (sym same) ((item-tested p.item.id (projected_item j)).0 is))))
other-list p (variable x) v n k e f other = refl

pub same-list : (p : Projection) (t v : Tree) (n : Node) (k : AliasTermKind) (es : List Entry) → n ≡ node_of t → n ≡ nodes.Alias k → projected_item k ≡ Some p.item.id →
    es ≡ same_item_list p (parts_of (erased t)) v → Some es ≡ equation_clause_list p (erased t) v
unfolding erased equation_clause_list
same-list p (node h ts) v n k es e f item made = absurd (cc)
same-list p (alias j ts) v n k es e f item made =
    let same : k ≡ j = cc in
    ap Some made
    ∙ tested-list p j true (list_of (erased_row ts)) v
    ((item-tested p.item.id (projected_item j)).1 (subst (λ x. projected_item x ≡ Some p.item.id) same item))
same-list p (variable x) v n k es e f item made = absurd (cc)

-- the parts of a term without lifetimes
list_of-erased : (ts : Trees) → list_of (erased_row ts) ≡ map erased (list_of ts)
unfolding erased
list_of-erased none = refl
list_of-erased (more t ts) = ap (λ xs. erased t ∷ xs) (list_of-erased ts)

parts_of-erased : (t : Tree) → parts_of (erased t) ≡ map erased (parts_of t)
unfolding erased
parts_of-erased (node h ts) = list_of-erased ts
parts_of-erased (alias k ts) = list_of-erased ts
parts_of-erased (variable v) = refl

-- the parts of a term in a table
pub parts-erased : (T : List Tree) (id : TermId) (ids : List TermId) → map (tree_at T) ids ≡ parts_of (tree_at T id) → erased_all T ids ≡ parts_of (erased_at T id)
parts-erased T id ids e = mapped-twice (tree_at T) erased ids ∙ ap (map erased) e ∙ sym (parts_of-erased (tree_at T id))

-- what all terms of some numbers have
pub all-unmapped : {A B : Type 0} (P : B → Type 0) (f : A → B) (xs : List A) → All P (map f xs) → All (λ x. P (f x)) xs
all-unmapped P f [] h = λ k d l. absurd (omega arith)
all-unmapped P f (x ∷ xs) h = All-cons (λ y. P (f y)) x xs (All-head P (f x) (map f xs) h) (all-unmapped P f xs (All-tail P (f x) (map f xs) h))

-- the arguments of an alias of a table are in it
pub alias-args_in : (T : List Tree) (id : TermId) (n : Node) (k : AliasTermKind) (ids : List TermId) → n ≡ nodes.Alias k → Fits n (parts_of (tree_at T id)) →
    map (tree_at T) ids ≡ parts_of (tree_at T id) → AreBelow id.0 ids → id.0 < length T → AreIn T ids
alias-args_in T id n k ids e fits trees below within =
    let each : All IsArgument (parts_of (tree_at T id)) = subst (λ x. Fits x (parts_of (tree_at T id))) e fits in
    let args : All (λ x. IsArgument (tree_at T x)) ids = all-unmapped IsArgument (tree_at T) ids (subst (All IsArgument) (sym trees) each) in
    λ j d l. (omega (arith, below j d l), args j d l)
