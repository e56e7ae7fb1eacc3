-- Where a variable stands in a term.
use Rattle.std.specs.Prelude.{Bool, if◌then◌else◌}
use Rattle.goal_terms.specs.Tree.{Tree, Trees, node, alias, variable, none, more}
use Rattle.goal_terms.specs.declared.heads.Node.{Node}
use Rattle.goal_terms.specs.declared.heads.Node.TheVariants as nodes
use Rattle.goal_terms.specs.declared.heads.Variable.{Variable}
use Rattle.goal_infer.specs.Replacement.{same_variable}
use Rattle.goal_infer.specs.declared.occurs.Occurrence.{Occurrence}
use Rattle.goal_infer.specs.declared.occurs.Occurrence.TheVariants.{Nowhere, InAliasesAlone, Outside}

-- in one of two terms
abbrev pub joined : Occurrence → Occurrence → Occurrence
joined Nowhere b = b
joined InAliasesAlone Outside = Outside
joined InAliasesAlone _ = InAliasesAlone
joined Outside b = Outside

-- in an alias of which it stands there in the arguments
abbrev pub within_alias : Occurrence → Occurrence
within_alias Nowhere = Nowhere
within_alias InAliasesAlone = InAliasesAlone
within_alias Outside = InAliasesAlone

-- in a variable, which may be it
abbrev pub place_at : Bool → Occurrence
place_at same = if same then Outside else Nowhere

-- in a term
unfoldable mutual
  pub place_of : Variable → Tree → Occurrence
  place_of v (node h ts) = place_in_row v ts
  place_of v (alias k ts) = within_alias (place_in_row v ts)
  place_of v (variable w) = place_at (same_variable w v)

  pub place_in_row : Variable → Trees → Occurrence
  place_in_row v none = Nowhere
  place_in_row v (more t ts) = joined (place_of v t) (place_in_row v ts)

-- in what has a node at its top, and in the parts of which it stands there
abbrev pub place_under : Node → Occurrence → Occurrence
place_under (nodes.Head h) o = o
place_under (nodes.Alias k) o = within_alias o
place_under (nodes.Variable v) o = o
