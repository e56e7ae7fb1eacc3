-- What a run finds that stands for no headline mode.
use Rattle.std.specs.Prelude.{◌≡◌, Bool, true, false, List}
use Rattle.goal_terms.specs.NodeTests.{is_any_infer, some_node}
use Rattle.goal_terms.specs.Sorts.{sort_of}
use Rattle.goal_terms.specs.Tree.{Tree, node_of}
use Rattle.goal_terms.specs.declared.heads.Node.TheVariants as nodes
use Rattle.goal_terms.specs.declared.modes.TypingMode.{TypingMode}
use Rattle.goal_terms.specs.declared.modes.TypingMode.TheVariants as mode
use Rattle.goal_terms.specs.declared.terms.AliasTermKind.{AliasTermKind}
use Rattle.goal_terms.specs.declared.terms.AliasTermKind.TheVariants.{OpaqueTy}
use Rattle.goal_lists.specs.Interned.{erased_at}
use Rattle.goal_eval.specs.declared.eval.outcomes.Found as founds
use Rattle.goal_eval.specs.declared.eval.outcomes.Found.TheVariants as found

-- what is found can be the term of an alias of a kind: no inference variable stands in it, and it is a type or a constant as the alias is
abbrev pub FitsKind : AliasTermKind → List Tree → founds.Found → Type 0
FitsKind k T (found.Is id) = (some_node is_any_infer (erased_at T id) ≡ false) × (sort_of (node_of (erased_at T id)) ≡ sort_of (nodes.Alias k))
FitsKind k T found.Refuted = Unit {0}
FitsKind k T found.Undecided = Unit {0}

-- an alias's goal is ambiguous whatever the rows say: that of an opaque type in coherence
abbrev pub is_ambiguous : TypingMode → AliasTermKind → Bool
is_ambiguous mode.Coherence (OpaqueTy i) = true
is_ambiguous _ k = false
