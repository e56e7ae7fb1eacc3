-- Terms with other numbers for their variables.
use Rattle.std.specs.Prelude.{◌≡◌, ℕ, Bool, ◌==◌, List, [], ◌∷◌, ◌++◌, length, find, Option, Some, option_map, unwrap_or, if◌then◌else◌}
use Rattle.std.proofs.Common.{refl}
use Rattle.std.specs.List.{list_any}
use Rattle.goal_terms.specs.Regions.{region_of}
use Rattle.goal_terms.specs.Tree.{Tree, Trees, node, alias, variable, none, more}
use Rattle.goal_terms.specs.declared.heads.Head.{Head}
use Rattle.goal_terms.specs.declared.heads.Head.TheVariants as head
use Rattle.goal_terms.specs.declared.heads.Node.{Node}
use Rattle.goal_terms.specs.declared.heads.Node.TheVariants as nodes
use Rattle.goal_terms.specs.declared.heads.Variable.{Variable}
use Rattle.goal_terms.specs.declared.heads.Variable.TheVariants as variables
use Rattle.goal_terms.specs.declared.scalars.Mutability.TheVariants as mutability
use Rattle.goal_terms.specs.declared.terms.InferTy.TheVariants as infer
use Rattle.goal_terms.specs.declared.terms.Region.{Region}
use Rattle.goal_terms.specs.declared.terms.Region.TheVariants as regions
use Rattle.goal_infer.specs.Replacement.{number_of}

-- what stands for a number: the second of the first pair that begins with it, or the number itself
unfoldable pub number_for : List (ℕ × ℕ) → ℕ → ℕ
number_for numbers n = unwrap_or (option_map (λ p. p.1) (find (λ p. p.0 == n) numbers)) n

-- a lifetime, with the other number if it is a variable
abbrev pub renumbered_region : List (ℕ × ℕ) → Region → Region
renumbered_region numbers (regions.Var n) = regions.Var (number_for numbers n)
renumbered_region numbers r = r

-- an inference variable with the other number
abbrev pub renumbered_variable : List (ℕ × ℕ) → Variable → Variable
renumbered_variable numbers (variables.Ty (infer.TyVar n)) = variables.Ty (infer.TyVar (number_for numbers n))
renumbered_variable numbers (variables.Ty (infer.IntVar n)) = variables.Ty (infer.IntVar (number_for numbers n))
renumbered_variable numbers (variables.Ty (infer.FloatVar n)) = variables.Ty (infer.FloatVar (number_for numbers n))
renumbered_variable numbers (variables.Const n) = variables.Const (number_for numbers n)

-- a constructor, with the other number for the lifetime that it names itself
abbrev pub renumbered_head : List (ℕ × ℕ) → Head → Head
renumbered_head numbers (head.Ref r m) = head.Ref (renumbered_region numbers r) m
renumbered_head numbers (head.Dynamic n r) = head.Dynamic n (renumbered_region numbers r)
renumbered_head numbers (head.Lifetime r) = head.Lifetime (renumbered_region numbers r)
renumbered_head numbers h = h

-- what stands at a place of a term, with the other number
abbrev pub renumbered_node : List (ℕ × ℕ) → Node → Node
renumbered_node numbers (nodes.Head h) = nodes.Head (renumbered_head numbers h)
renumbered_node numbers (nodes.Alias k) = nodes.Alias k
renumbered_node numbers (nodes.Variable v) = nodes.Variable (renumbered_variable numbers v)

-- a term with other numbers for all its variables
unfoldable mutual
  pub renumbered : List (ℕ × ℕ) → Tree → Tree
  renumbered numbers (node h ts) = node (renumbered_head numbers h) (renumbered_row numbers ts)
  renumbered numbers (alias k ts) = alias k (renumbered_row numbers ts)
  renumbered numbers (variable v) = variable (renumbered_variable numbers v)

  pub renumbered_row : List (ℕ × ℕ) → Trees → Trees
  renumbered_row numbers none = none
  renumbered_row numbers (more t ts) = more (renumbered numbers t) (renumbered_row numbers ts)

-- whether a pair begins with a number
unfoldable pub has_pair : List (ℕ × ℕ) → ℕ → Bool
has_pair numbers n = list_any (λ p. p.0 == n) numbers

-- the pairs, with one more for a number that none begins with: it, and how many there were
abbrev pub with_pair : List (ℕ × ℕ) → ℕ → List (ℕ × ℕ)
with_pair numbers n = if has_pair numbers n then numbers else numbers ++ (n, length numbers) ∷ []

-- the pairs once a lifetime has been met
abbrev pub numbered_region : Option Region → List (ℕ × ℕ) → List (ℕ × ℕ)
numbered_region (Some (regions.Var n)) numbers = with_pair numbers n
numbered_region _ numbers = numbers

-- the pairs once a node has been met
abbrev pub numbered_node : Node → List (ℕ × ℕ) → List (ℕ × ℕ)
numbered_node (nodes.Head h) numbers = numbered_region (region_of (nodes.Head h)) numbers
numbered_node (nodes.Alias k) numbers = numbers
numbered_node (nodes.Variable v) numbers = with_pair numbers (number_of v)

-- the pairs once a term has been met, a node before its parts, and these from left to right
unfoldable mutual
  pub numbered : Tree → List (ℕ × ℕ) → List (ℕ × ℕ)
  numbered (node h ts) numbers = numbered_row ts (numbered_node (nodes.Head h) numbers)
  numbered (alias k ts) numbers = numbered_row ts numbers
  numbered (variable v) numbers = numbered_node (nodes.Variable v) numbers

  pub numbered_row : Trees → List (ℕ × ℕ) → List (ℕ × ℕ)
  numbered_row none numbers = numbers
  numbered_row (more t ts) numbers = numbered_row ts (numbered t numbers)

-- for the examples: `&'b t`, where `'b` and `t` are variables with these numbers
abbrev reference_to : ℕ → ℕ → Tree
reference_to b t = node (head.Ref (regions.Var b) mutability.Not) (more (variable (variables.Ty (infer.TyVar t))) none)

-- the first of two pairs holds, and a number that begins no pair stays
renumbered-first : renumbered ((7, 2) ∷ (7, 3) ∷ []) (reference_to 9 7) ≡ reference_to 9 2
unfolding renumbered number_for
renumbered-first = refl

-- a lifetime gets its pair before what stands below it
numbered-order : numbered (reference_to 9 7) [] ≡ (9, 0) ∷ (7, 1) ∷ []
unfolding numbered has_pair region_of
numbered-order = refl

-- a number has one pair, wherever it stands
numbered-once : numbered (reference_to 9 9) ((7, 0) ∷ []) ≡ (7, 0) ∷ (9, 1) ∷ []
unfolding numbered has_pair region_of
numbered-once = refl
