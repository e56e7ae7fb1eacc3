-- Impls by the head of their self type.
use Rattle.std.specs.Prelude.{◌≡◌, ◌==◌, ◌&&◌, ℕ, suc, Bool, true, false, List, [], ◌∷◌, filter, Option, Some, None, if◌then◌else◌, Vec}
use Rattle.std.specs.HashMap.{get, HashMap}
use Rattle.goal_terms.specs.Erased.{compared_node}
use Rattle.goal_terms.specs.SameTree.{same_node}
use Rattle.goal_terms.specs.Tree.{Tree, node_of}
use Rattle.goal_terms.specs.TreeOf.{trees_of}
use Rattle.goal_terms.specs.declared.compare.Regions.TheVariants.{Forgotten}
use Rattle.goal_terms.specs.declared.heads.Head.TheVariants as head
use Rattle.goal_terms.specs.declared.heads.Node.{Node}
use Rattle.goal_terms.specs.declared.heads.Node.TheVariants as nodes
use Rattle.goal_terms.specs.declared.ids.TraitId.{TraitId}
use Rattle.goal_tables.specs.declared.rows.ImplRow.{ImplRow}
use Rattle.goal_tables.specs.declared.rows.Tables.{Tables}
use Rattle.goal_tables.specs.declared.impls_by_head.ImplKey.{ImplKey}
use Rattle.goal_tables.specs.contracts.impls_by_head.ImplKeyPartialEq.TheImpl as keys

-- the head of a term, without lifetimes; none where it stands for other terms, as a parameter, an alias or a variable does
abbrev pub known_head : Node → Option Node
known_head (nodes.Head (head.TyParam n)) = None
known_head (nodes.Head (head.ConstParam n)) = None
known_head (nodes.Head h) = Some (compared_node Forgotten (nodes.Head h))
known_head (nodes.Alias k) = None
known_head (nodes.Variable v) = None

-- that of the first of some terms
abbrev pub first_head : List Tree → Option Node
first_head [] = None
first_head (t ∷ ts) = known_head (node_of t)

-- the head of an impl's self type
abbrev pub self_head : ImplRow → Option Node
self_head r = first_head (trees_of r.trait_args.items)

-- whether a head is another's, or isn't known
abbrev pub may_be : Node → Option Node → Bool
may_be n None = true
may_be n (Some m) = same_node m n

-- whether an impl is one of a trait, and its self type may have a head
abbrev pub may_have_head : TraitId → Node → ImplRow → Bool
may_have_head i n r = (r.trait_id.0 == i.0) && may_be (compared_node Forgotten n) (self_head r)

-- the impls of a trait whose self type may have a head, in the order of their rows
abbrev pub impls_with_head : Tables → TraitId → Node → List ImplRow
impls_with_head t i n = filter (λ r. may_have_head i n r) t.impls.items

-- the places of the elements that pass a test, from a place on
unfoldable pub places_from : {X : Type 0} → ℕ → (X → Bool) → List X → List ℕ
places_from n p [] = []
places_from n p (x ∷ xs) = if p x then n ∷ places_from (suc n) p xs else places_from (suc n) p xs

-- and in the whole list
abbrev pub places_of : {X : Type 0} → (X → Bool) → List X → List ℕ
places_of p xs = places_from 0 p xs

-- for each two lists that are the places of what passes one of two tests, which no element passes both
abbrev pub IfPlacesApart : List ℕ → List ℕ → ((ImplRow → Bool) → (ImplRow → Bool) → List ImplRow → Type 0) → Type 0
IfPlacesApart left right P =
    (p q : ImplRow → Bool) (rows : List ImplRow) → ((r : ImplRow) → p r && q r ≡ false) → left ≡ places_of p rows → right ≡ places_of q rows → P p q rows

-- whether two keys are the same
abbrev pub same_key : ImplKey → ImplKey → Bool
same_key a b = (keys.ghosts).eq a b

-- by what an impl is found
abbrev pub key_of : ImplRow → ImplKey
key_of r = record { trait_id = r.trait_id; head = self_head r }

-- the places that a map has for a key
abbrev pub places_at : {A : Type 0} → Option (Vec ℕ A) → List ℕ
places_at None = []
places_at (Some places) = places.items

abbrev pub places_for : {A S : Type 0} → HashMap ImplKey (Vec ℕ A) S → ImplKey → List ℕ
places_for lists k = places_at (get same_key lists k)

-- a map has for each key the places of its impls
unfoldable pub AreKeyLists : {A S : Type 0} → List ImplRow → HashMap ImplKey (Vec ℕ A) S → Type 0
AreKeyLists {A} {S} rows lists = (k : ImplKey) → places_for lists k ≡ places_of (λ r. same_key (key_of r) k) rows
