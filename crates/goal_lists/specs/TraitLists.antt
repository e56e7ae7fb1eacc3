-- The lists of the candidates for trait goals, as functions of the rows.
use Rattle.std.specs.Prelude.{Bool, List, [], ◌∷◌, Option, Some, None, ◌==◌, if◌then◌else◌}
use Rattle.std.specs.Option.{option_map}
use Rattle.goal_terms.specs.PredicateTrees.{PredicateTree, holds, equals, holds_const}
use Rattle.goal_terms.specs.Tree.{Tree}
use Rattle.goal_terms.specs.TreeOf.{trees_of}
use Rattle.goal_terms.specs.declared.answers.GoalSource.{GoalSource}
use Rattle.goal_terms.specs.declared.answers.GoalSource.TheVariants as source
use Rattle.goal_terms.specs.declared.ids.TraitId.{TraitId}
use Rattle.goal_terms.specs.declared.modes.TypingMode.{TypingMode}
use Rattle.goal_terms.specs.declared.modes.TypingMode.TheVariants as mode
use Rattle.goal_tables.specs.Rows.{trait_of}
use Rattle.goal_tables.specs.declared.rows.ImplPolarity.{ImplPolarity}
use Rattle.goal_tables.specs.declared.rows.ImplPolarity.TheVariants as polarity
use Rattle.goal_tables.specs.declared.rows.ImplRow.{ImplRow}
use Rattle.goal_tables.specs.declared.rows.Tables.{Tables}
use Rattle.goal_tables.specs.declared.rows.TraitRow.{TraitRow}
use Rattle.goal_lists.specs.Builtins.{trait_rule}
use Rattle.goal_lists.specs.Candidates.{Candidate, assumption, implied_bound, by_impl, built_in, error}
use Rattle.goal_lists.specs.Entries.{Entry, arguments, of_header, equal_terms, row_clauses, undecided, premise_entries}
use Rattle.goal_lists.specs.Settings.{Setting}
use Rattle.goal_lists.specs.TraitGoals.{any_error}

-- whether two numbers are of one trait
abbrev pub is_trait : TraitId → TraitId → Bool
is_trait j i = j.0 == i.0

-- the match of an impl's header with arguments, its where clauses under what it names, and what else is asked for
abbrev pub impl_match : ImplRow → List Tree → List Entry → List Entry
impl_match r args es = arguments (of_header r.params.items (trees_of r.trait_args.items) args) ∷ row_clauses r.predicates.items 0 ∷ es

-- a reservation impl never holds, but bars a refutation in coherence as long as what it asks for isn't refuted; elsewhere it is refused
abbrev pub reserved_list : TypingMode → List Entry → Option (List Entry)
reserved_list mode.Coherence es = Some (undecided ∷ es)
reserved_list _ es = None

-- the list of an impl, by its polarity: a negative impl has none
unfoldable pub list_by_polarity : TypingMode → ImplPolarity → List Entry → Option (List Entry)
list_by_polarity m polarity.Positive es = Some es
list_by_polarity m polarity.Negative es = None
list_by_polarity m polarity.Reservation es = reserved_list m es

-- a clause of the trait: its arguments are the goal's
unfoldable pub trait_assumption_list : TraitId → List Tree → PredicateTree → Option (List Entry)
trait_assumption_list i args (holds j bs) = if is_trait j i then Some (equal_terms bs args ∷ []) else None
trait_assumption_list i args (equals a t) = None
trait_assumption_list i args (holds_const c j bs) = None

-- an impl: its header is matched with the goal's arguments, and its where clauses are asked for
abbrev pub trait_impl_list : TypingMode → List Tree → ImplRow → Option (List Entry)
trait_impl_list m args r = list_by_polarity m r.polarity (impl_match r args [])

-- as what the premises of a trait's rule are asked for: those of a trait alias as what it stands for
abbrev pub source_of_rule : Option TraitRow → GoalSource
source_of_rule None = source.ImplWhereBound
source_of_rule (Some r) = if r.is_alias then source.Misc else source.ImplWhereBound

-- a trait alias, or a built-in rule: its premises
abbrev pub trait_rule_list : Tables → TraitId → List Tree → Option (List Entry)
trait_rule_list t i args = option_map (premise_entries (source_of_rule (trait_of t i))) (trait_rule t i args)

-- an error in the goal: nothing more is asked for
abbrev pub error_list : List Tree → Option (List Entry)
error_list args = if any_error args then Some [] else None

-- the list of a candidate for a trait goal
unfoldable pub trait_list : Setting → TraitId → List Tree → Candidate → Option (List Entry)
trait_list S i args (assumption p) = trait_assumption_list i args p
trait_list S i args (implied_bound b cs) = None
trait_list S i args (by_impl r) = trait_impl_list S.mode args r
trait_list S i args built_in = trait_rule_list S.tables i args
trait_list S i args error = error_list args
