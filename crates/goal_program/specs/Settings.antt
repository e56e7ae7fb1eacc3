-- What the rows assume, and the phases of checking in which they ask.
use Rattle.std.specs.Prelude.{◌≡◌, List, [], ◌∷◌}
use Rattle.goal_terms.specs.PredicateTrees.{ClauseTree, PredicateTree, holds, equals, holds_const}
use Rattle.goal_terms.specs.declared.ids.TraitId.{TraitId}
use Rattle.goal_terms.specs.declared.modes.TypingMode.{TypingMode}
use Rattle.goal_terms.specs.declared.modes.TypingMode.TheVariants as typing
use Rattle.goal_terms.specs.declared.predicates.BoundConstness.TheVariants as constness
use Rattle.goal_terms.specs.declared.scalars.UintTy.{UintTy}
use Rattle.goal_terms.specs.declared.scalars.UintTy.TheVariants as uint
use Rattle.goal_program.specs.Asked.{projection_tree, uint_tree, param_tree}
use Rattle.goal_program.specs.declared.names.TheConstants.{A, OWN, SIZED, TR}
use Rattle.goal_program.specs.declared.settings.Environment.{Environment}
use Rattle.goal_program.specs.declared.settings.Environment.TheVariants as environment
use Rattle.goal_program.specs.declared.settings.Mode.{Mode}
use Rattle.goal_program.specs.declared.settings.Mode.TheVariants as mode

-- a clause that binds no lifetimes
abbrev pub plain_clause : PredicateTree → ClauseTree
plain_clause q = record { bound_regions = 0; kind = q }

-- `T: TRAIT`
abbrev pub param_holds : TraitId → ClauseTree
param_holds i = plain_clause (holds i (param_tree ∷ []))

-- `<T as Tr>::A == TYPE`
abbrev pub param_term : UintTy → ClauseTree
param_term i = plain_clause (equals (projection_tree A param_tree) (uint_tree i))

-- `T: [const] Tr`
abbrev pub param_maybe_const : ClauseTree
param_maybe_const = plain_clause (holds_const constness.Maybe TR (param_tree ∷ []))

-- the clauses that a row assumes
abbrev pub assumed : Environment → List ClauseTree
assumed environment.Empty = []
assumed environment.IsSized = param_holds SIZED ∷ []
assumed environment.IsOwn = param_holds OWN ∷ []
assumed environment.IsMaybeConst = param_holds TR ∷ param_maybe_const ∷ []
assumed environment.HasTwoTerms = param_holds TR ∷ param_term uint.U8 ∷ param_term uint.U16 ∷ []

-- a typing mode is that of a phase, and no opaque type is being defined
abbrev pub IsMode : Mode → TypingMode → Type 0
IsMode mode.Analysis (typing.Analysis ids) = ids.items ≡ []
IsMode mode.PostAnalysis typing.PostAnalysis = Unit {0}
IsMode mode.Erased typing.ErasedNotCoherence = Unit {0}
IsMode mode.ErasedThatStops typing.ErasedNotCoherence = Unit {0}
IsMode p m = ⊥
