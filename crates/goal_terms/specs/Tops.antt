-- Rewriting of what stands at the tops of terms.
use Rattle.std.specs.Prelude.{ℕ, List, Option, None}
use Rattle.goal_terms.specs.Folding.{Folding, depth_below, folded_head, argument_of}
use Rattle.goal_terms.specs.Tree.{Tree}
use Rattle.goal_terms.specs.declared.answers.ParamKind.TheVariants as kind
use Rattle.goal_terms.specs.declared.heads.Head.TheVariants.{TyParam, ConstParam}
use Rattle.goal_terms.specs.declared.heads.Node.{Node}
use Rattle.goal_terms.specs.declared.heads.Node.TheVariants as nodes

-- the number of binders above the parts of a node, from that above the whole
abbrev pub depth_of_parts : Node → ℕ → ℕ
depth_of_parts (nodes.Head h) d = depth_below h d
depth_of_parts (nodes.Alias k) d = d
depth_of_parts (nodes.Variable v) d = d

-- a node with the lifetime that it names itself rewritten, below a number of binders
unfoldable pub folded_top : Folding → ℕ → Node → Node
folded_top f d (nodes.Head h) = nodes.Head (folded_head f d h)
folded_top f d (nodes.Alias k) = nodes.Alias k
folded_top f d (nodes.Variable v) = nodes.Variable v

-- the argument that stands for a node, if that is a parameter
unfoldable pub argument_for : List Tree → Node → Option Tree
argument_for args (nodes.Head (TyParam n)) = argument_of args kind.Ty n
argument_for args (nodes.Head (ConstParam n)) = argument_of args kind.Const n
argument_for args n = None
