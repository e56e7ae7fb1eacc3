-- Terms in place of inference variables, and the kinds of terms.
use Rattle.std.specs.Prelude.{◌≡◌, ℕ, List}
use Rattle.goal_terms.specs.Erased.{erased}
use Rattle.goal_terms.specs.Folding.{instance}
use Rattle.goal_terms.specs.Kinds.{kind_of, kind_of_alias}
use Rattle.goal_terms.specs.Tree.{Tree, Trees, node, alias, variable, none, more, node_of}
use Rattle.goal_terms.specs.declared.heads.Node.TheVariants as nodes
use Rattle.goal_terms.specs.declared.heads.Variable.{Variable}
use Rattle.goal_terms.specs.declared.terms.AliasTermKind.{AliasTermKind}
use Rattle.goal_lists.specs.Levels.{level}
use Rattle.goal_lists.specs.Settings.{Setting}

-- a term with terms in place of its variables, also inside aliases
unfoldable mutual
  pub replaced : (Variable → Tree) → Tree → Tree
  replaced values (node h ts) = node h (replaced_row values ts)
  replaced values (alias k ts) = alias k (replaced_row values ts)
  replaced values (variable v) = values v

  pub replaced_row : (Variable → Tree) → Trees → Trees
  replaced_row values none = none
  replaced_row values (more t ts) = more (replaced values t) (replaced_row values ts)

-- a term with terms in place of its variables, without lifetimes
abbrev pub with_values : (Variable → Tree) → Tree → Tree
with_values values t = erased (replaced values t)

-- the same of a term whose parameters have arguments
abbrev pub with_arguments : (Variable → Tree) → List Tree → Tree → Tree
with_arguments values args t = with_values values (instance args t)

-- the term in place of each variable is of its kind
abbrev pub AreOfTheirKinds : (Variable → Tree) → Type 0
AreOfTheirKinds values = (v : Variable) → kind_of (node_of (values v)) ≡ kind_of (nodes.Variable v)

-- over a setting no alias has a term of another kind
abbrev pub AliasesKeepKinds : Setting → Type 0
AliasesKeepKinds S = (n : ℕ) (k : AliasTermKind) (ts : List Tree) (t : Tree) → (level S n).gives k ts t → kind_of (node_of t) ≡ kind_of_alias k
