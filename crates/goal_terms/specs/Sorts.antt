-- What a part of a term is, and which parts a node takes.
use Rattle.std.specs.Prelude.{◌≡◌, ℕ, ◌+◌, Bool, true, false, List, [], length, slice_index_or, IsTrue, if◌then◌else◌}
use Rattle.std.specs.List.{All}
use Rattle.goal_terms.specs.Tree.{Tree, node_of, parts_of}
use Rattle.goal_terms.specs.TreeOf.{leaf, is_type_kind}
use Rattle.goal_terms.specs.declared.heads.Head.{Head}
use Rattle.goal_terms.specs.declared.heads.Head.TheVariants as head
use Rattle.goal_terms.specs.declared.heads.Node.{Node}
use Rattle.goal_terms.specs.declared.heads.Node.TheVariants as nodes
use Rattle.goal_terms.specs.declared.heads.Variable.TheVariants as variables
use Rattle.goal_terms.specs.declared.sorts.Sort.{Sort}
use Rattle.goal_terms.specs.declared.sorts.Sort.TheVariants as sorts

-- what a constructor makes
abbrev pub sort_of_head : Head → Sort
sort_of_head (head.Value n) = sorts.Const
sort_of_head (head.ConstParam n) = sorts.Const
sort_of_head (head.ConstPlaceholder n) = sorts.Const
sort_of_head (head.ConstError n) = sorts.Const
sort_of_head (head.Lifetime r) = sorts.Lifetime
sort_of_head (head.DynTrait i n) = sorts.Clause
sort_of_head (head.DynProjection i n) = sorts.Clause
sort_of_head (head.Misplaced k) = if is_type_kind k then sorts.Const else sorts.Ty
sort_of_head h = sorts.Ty

-- what has a node at its top
abbrev pub sort_of : Node → Sort
sort_of (nodes.Head h) = sort_of_head h
sort_of (nodes.Alias k) = if is_type_kind k then sorts.Ty else sorts.Const
sort_of (nodes.Variable (variables.Ty v)) = sorts.Ty
sort_of (nodes.Variable (variables.Const n)) = sorts.Const

-- a type or a constant
abbrev pub is_term_sort : Sort → Bool
is_term_sort sorts.Ty = true
is_term_sort sorts.Const = true
is_term_sort sorts.Lifetime = false
is_term_sort sorts.Clause = false

-- a type, a constant or a lifetime
abbrev pub is_argument_sort : Sort → Bool
is_argument_sort sorts.Ty = true
is_argument_sort sorts.Const = true
is_argument_sort sorts.Lifetime = true
is_argument_sort sorts.Clause = false

-- a tree of this sort
abbrev pub IsSort : Sort → Tree → Type 0
IsSort s t = sort_of (node_of t) ≡ s

-- the tree of a type or a constant
abbrev pub IsTerm : Tree → Type 0
IsTerm t = IsTrue (is_term_sort (sort_of (node_of t)))

-- the tree of an argument
abbrev pub IsArgument : Tree → Type 0
IsArgument t = IsTrue (is_argument_sort (sort_of (node_of t)))

-- there are so many trees, each of one kind
abbrev pub Are : (Tree → Type 0) → ℕ → List Tree → Type 0
Are P n ts = (length ts ≡ n) × All P ts

-- the tree at a place of a list
abbrev pub tree_in : List Tree → ℕ → Tree
tree_in ts k = slice_index_or ts k (leaf head.Bool)

-- the part of a term at a place
abbrev pub part_at : Tree → ℕ → Tree
part_at t k = tree_in (parts_of t) k

-- the parts that a constructor takes
abbrev pub HeadFits : Head → List Tree → Type 0
HeadFits (head.Adt i n) ts = Are IsArgument n ts
HeadFits head.Array ts = (length ts ≡ 2) × IsSort sorts.Ty (tree_in ts 0) × IsSort sorts.Const (tree_in ts 1)
HeadFits head.Slice ts = Are (IsSort sorts.Ty) 1 ts
HeadFits (head.RawPtr m) ts = Are (IsSort sorts.Ty) 1 ts
HeadFits (head.Ref r m) ts = Are (IsSort sorts.Ty) 1 ts
HeadFits (head.FnDef i n) ts = Are IsArgument n ts
HeadFits (head.FnPtr bound inputs fn_traits) ts = Are (IsSort sorts.Ty) (inputs + 1) ts
HeadFits (head.Closure i n) ts = Are IsArgument n ts
HeadFits (head.Dynamic n r) ts = Are (IsSort sorts.Clause) n ts
HeadFits (head.Tuple n) ts = Are (IsSort sorts.Ty) n ts
HeadFits (head.DynTrait i n) ts = Are IsArgument n ts
HeadFits (head.DynProjection i n) ts = (length ts ≡ n + 1) × All IsArgument ts × IsTerm (tree_in ts n)
HeadFits (head.Misplaced k) ts = All IsArgument ts
HeadFits h ts = ts ≡ []

-- the parts that a node takes
abbrev pub Fits : Node → List Tree → Type 0
Fits (nodes.Head h) ts = HeadFits h ts
Fits (nodes.Alias k) ts = All IsArgument ts
Fits (nodes.Variable v) ts = ts ≡ []
