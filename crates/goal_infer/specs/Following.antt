-- Numbers of terms with their bindings followed.
use Rattle.std.specs.Prelude.{◌≡◌, List}
use Rattle.goal_terms.specs.Tree.{Tree, node_of}
use Rattle.goal_terms.specs.Sorts.{sort_of}
use Rattle.goal_interner.specs.TableMeaning.{tree_at}
use Rattle.goal_terms.specs.declared.sorts.Sort.{Sort}
use Rattle.goal_interner.specs.declared.term_nodes.TermId.{TermId}
use Rattle.goal_infer.specs.Inference.{Inference}
use Rattle.goal_infer.specs.Resolution.{term_at, resolved}

-- the sort of the term of a number
abbrev pub sort_at : List Tree → TermId → Sort
sort_at T id = sort_of (node_of (tree_at T id))

-- where the bindings change nothing in a term, the second number has in the grown table the very tree of the first, lifetimes too
abbrev pub StaysUnbound : List Tree → Inference → List Tree → TermId → TermId → Type 0
StaysUnbound T s U id r = resolved T s id ≡ term_at T id → tree_at U r ≡ tree_at T id
