-- A code for trees: their nodes from the top, each with the number of its parts.
use Rattle.std.specs.Prelude.{◌≡◌, ℕ, List, [], ◌∷◌, ◌++◌, length, refl}
use Rattle.std.proofs.Common.{sym, ap, ◌∙◌, append_assoc, take, drop}
use Rattle.std.specs.Coded.{Coded, code_by, coded×, coded_ℕ, coded_list}
use Rattle.goal_terms.specs.Tree.{Tree, Trees, node, alias, variable, none, more, forest, list_of}
use Rattle.goal_terms.specs.TreeOf.{leaf}
use Rattle.goal_terms.specs.TreeWith.{tree_with}
use Rattle.goal_terms.specs.declared.heads.Head.TheVariants as head
use Rattle.goal_terms.specs.declared.heads.Node.{Node}
use Rattle.goal_terms.specs.declared.heads.Node.TheVariants as nodes
use Rattle.goal_terms.specs.contracts.heads.Node as held

-- the nodes of a tree from the top, and from left to right
abbrev mutual
  pub nodes_of : Tree → List (Node × ℕ)
  nodes_of (node h ts) = (nodes.Head h, length (list_of ts)) ∷ nodes_of_row ts
  nodes_of (alias k ts) = (nodes.Alias k, length (list_of ts)) ∷ nodes_of_row ts
  nodes_of (variable v) = (nodes.Variable v, 0) ∷ []

  pub nodes_of_row : Trees → List (Node × ℕ)
  nodes_of_row none = []
  nodes_of_row (more t ts) = nodes_of t ++ nodes_of_row ts

-- the trees whose nodes these are
abbrev pub trees_read : List (Node × ℕ) → List Tree
trees_read [] = []
trees_read (n ∷ ns) = tree_with n.0 (take n.1 (trees_read ns)) ∷ drop n.1 (trees_read ns)

-- the first tree of a list
abbrev pub first_tree : List Tree → Tree
first_tree [] = leaf head.Bool
first_tree (t ∷ ts) = t

take_front : (ts us : List Tree) → take (length ts) (ts ++ us) ≡ ts
take_front [] us = refl
take_front (t ∷ ts) us = ap (λ xs. t ∷ xs) (take_front ts us)

drop_front : (ts us : List Tree) → drop (length ts) (ts ++ us) ≡ us
drop_front [] us = refl
drop_front (t ∷ ts) us = drop_front ts us

-- a row, as a list and back
pub forest-list_of : (ts : Trees) → forest (list_of ts) ≡ ts
forest-list_of none = refl
forest-list_of (more t ts) = ap (more t) (forest-list_of ts)

read_node : (n : Node) (ts : Trees) (ns : List (Node × ℕ)) (rest : List Tree) → trees_read ns ≡ list_of ts ++ rest →
    trees_read ((n, length (list_of ts)) ∷ ns) ≡ tree_with n (list_of ts) ∷ rest
read_node n ts ns rest e =
    ap (λ us. tree_with n (take (length (list_of ts)) us) ∷ drop (length (list_of ts)) us) e
    ∙ ap (λ us. tree_with n us ∷ drop (length (list_of ts)) (list_of ts ++ rest)) (take_front (list_of ts) rest)
    ∙ ap (λ us. tree_with n (list_of ts) ∷ us) (drop_front (list_of ts) rest)

mutual
  read_tree : (t : Tree) (ns : List (Node × ℕ)) → trees_read (nodes_of t ++ ns) ≡ t ∷ trees_read ns
  read_tree (node h ts) ns =
      read_node (nodes.Head h) ts (nodes_of_row ts ++ ns) (trees_read ns) (read_row ts ns)
      ∙ ap (λ us. node h us ∷ trees_read ns) (forest-list_of ts)
  read_tree (alias k ts) ns =
      read_node (nodes.Alias k) ts (nodes_of_row ts ++ ns) (trees_read ns) (read_row ts ns)
      ∙ ap (λ us. alias k us ∷ trees_read ns) (forest-list_of ts)
  read_tree (variable v) ns = refl

  read_row : (ts : Trees) (ns : List (Node × ℕ)) → trees_read (nodes_of_row ts ++ ns) ≡ list_of ts ++ trees_read ns
  read_row none ns = refl
  read_row (more t ts) ns =
      ap trees_read (append_assoc (nodes_of t) (nodes_of_row ts) ns)
      ∙ read_tree t (nodes_of_row ts ++ ns)
      ∙ ap (λ us. t ∷ us) (read_row ts ns)

append_none : (ns : List (Node × ℕ)) → ns ++ [] ≡ ns
append_none [] = refl
append_none (n ∷ ns) = ap (λ xs. n ∷ xs) (append_none ns)

pub read-nodes_of : (t : Tree) → first_tree (trees_read (nodes_of t)) ≡ t
read-nodes_of t = ap (λ ns. first_tree (trees_read ns)) (sym (append_none (nodes_of t))) ∙ ap first_tree (read_tree t [])

-- a tree is stored as its nodes
abbrev pub tree_code : Coded Tree
tree_code =
    code_by (List (Node × ℕ)) (coded_list (coded× held.the_row.coded coded_ℕ)) nodes_of (λ ns. first_tree (trees_read ns)) read-nodes_of

-- and so is a list of them
abbrev pub trees_code : Coded (List Tree)
trees_code = coded_list tree_code
