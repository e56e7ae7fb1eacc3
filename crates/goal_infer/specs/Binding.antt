-- What binding one variable does to a state.
use Rattle.std.specs.Prelude.{◌≡◌, ◌<◌, ◌++◌, List, [], ◌∷◌, length, Some, None, slice_set, IsTrue}
use Rattle.goal_terms.specs.Tree.{Tree, node_of}
use Rattle.goal_interner.specs.TableMeaning.{tree_at}
use Rattle.goal_terms.specs.declared.heads.Variable.{Variable}
use Rattle.goal_interner.specs.declared.term_nodes.TermId.{TermId}
use Rattle.goal_infer.specs.Inference.{Inference}
use Rattle.goal_infer.specs.Occurrence.{place_of}
use Rattle.goal_infer.specs.Replacement.{number_of, kind_of_variable, takes}
use Rattle.goal_infer.specs.Resolution.{binding_at, resolved}
use Rattle.goal_infer.specs.Unification.{is_made_in}
use Rattle.goal_infer.specs.declared.occurs.Occurrence.TheVariants.{Nowhere}

-- a state in which one more variable is bound, after all others
abbrev pub bound_to : Inference → Variable → TermId → Inference
bound_to s v id = record s {
  variables = slice_set s.variables (number_of v) (record { kind = kind_of_variable v; binding = Some id });
  trail = s.trail ++ number_of v ∷ [];
}

-- a variable can be bound to a term: it was made, may stand for it, and doesn't stand in it, bindings followed
pub record MayBecome (T : List Tree) (s : Inference) (v : Variable) (id : TermId) : Type 0 where
  pub made : IsTrue (is_made_in s v)
  pub takes : IsTrue (takes v (node_of (resolved T s id)))
  pub free : place_of v (resolved T s id) ≡ Nowhere

-- just one variable was bound, to where the bindings before lead from a term
pub record IsBound (T : List Tree) (before after : Inference) (v : Variable) (id : TermId) : Type 0 where
  pub root : TermId
  pub within : root.0 < length T
  pub same : resolved T before root ≡ resolved T before id
  pub ended : binding_at before (node_of (tree_at T root)) ≡ None
  pub state : after ≡ bound_to before v root
