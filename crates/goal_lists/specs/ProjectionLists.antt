-- The lists of the candidates for the terms of projections, and of projection goals.
use Rattle.std.specs.Prelude.{◌==◌, ℕ, Bool, false, List, [], ◌∷◌, ◌++◌, Option, Some, None, if◌then◌else◌}
use Rattle.goal_terms.specs.PredicateTrees.{PredicateTree, holds, equals, holds_const}
use Rattle.goal_terms.specs.Tree.{Tree, node, alias, variable, list_of}
use Rattle.goal_terms.specs.TreeOf.{tree_of_term, trees_of}
use Rattle.goal_terms.specs.declared.answers.DelayedFault.TheVariants.{MissingItem}
use Rattle.goal_terms.specs.declared.answers.GoalSource.TheVariants as source
use Rattle.goal_terms.specs.declared.answers.OpaqueAccess.TheVariants.{Always}
use Rattle.goal_terms.specs.declared.ids.ItemId.{ItemId}
use Rattle.goal_terms.specs.declared.modes.TypingMode.{TypingMode}
use Rattle.goal_terms.specs.declared.modes.TypingMode.TheVariants as mode
use Rattle.goal_tables.specs.Rows.{source_of, definition_of}
use Rattle.goal_tables.specs.declared.rows.DefRow.{DefRow}
use Rattle.goal_tables.specs.declared.rows.DefValue.{DefValue}
use Rattle.goal_tables.specs.declared.rows.DefValue.TheVariants as value
use Rattle.goal_tables.specs.declared.rows.ImplRow.{ImplRow}
use Rattle.goal_tables.specs.declared.rows.Source.{Source}
use Rattle.goal_tables.specs.declared.rows.Source.TheVariants as item_source
use Rattle.goal_tables.specs.declared.rows.SourceRow.{SourceRow}
use Rattle.goal_lists.specs.Builtins.{Listed, nothing_listed, listed, listed_rigid, listed_by_size, term_rule, unit_ty}
use Rattle.goal_lists.specs.Candidates.{Candidate, assumption, implied_bound, by_impl, built_in, error}
use Rattle.goal_lists.specs.Entries.{Entry, arguments, given_arguments, of_other_header, followed_by, equal_terms, row_clauses, expected, as_it_stands, head_form_of, value_under, chosen_by, access, delayed_fault, evaluation, ambiguous, undecided, premise_entries}
use Rattle.goal_lists.specs.ImplTerms.{Projection, trait_args, own_args, error_term, Taken, from_projection, from_impl, from_other, taken}
use Rattle.goal_lists.specs.Projections.{projected_item, self_of}
use Rattle.goal_lists.specs.Settings.{Setting}
use Rattle.goal_lists.specs.TraitLists.{impl_match, list_by_polarity}

-- whether an item, if there is one, is the one of a number
abbrev pub is_item : ItemId → Option ItemId → Bool
is_item i None = false
is_item i (Some j) = j.0 == i.0

-- a projection of the same item: its arguments are the goal's, the item's own where clauses hold, and the head form of the clause's term is given
abbrev pub same_item_list : Projection → List Tree → Tree → List Entry
same_item_list p bs v =
    equal_terms bs p.args ∷ arguments (given_arguments p.args) ∷ row_clauses p.item.own_predicates.items 0 ∷ expected (head_form_of v) ∷ []

unfoldable pub equation_clause_list : Projection → Tree → Tree → Option (List Entry)
equation_clause_list p (alias k bs) v = if is_item p.item.id (projected_item k) then Some (same_item_list p (list_of bs) v) else None
equation_clause_list p (node h bs) v = None
equation_clause_list p (variable x) v = None

-- a clause
unfoldable pub projection_assumption_list : Projection → PredicateTree → Option (List Entry)
projection_assumption_list p (equals a v) = equation_clause_list p a v
projection_assumption_list p (holds i ts) = None
projection_assumption_list p (holds_const c i ts) = None

-- a term as it stands
abbrev pub standing : Tree → List Entry
standing t = expected (as_it_stands t) ∷ []

-- the value of a definition under the arguments of a number; a constant that would have to be evaluated is undecided
abbrev pub definition_value : DefValue → ℕ → Entry
definition_value (value.Term e) n = expected (value_under (tree_of_term e) n)
definition_value value.Missing n = undecided
definition_value value.Evaluated n = undecided

-- another impl's arguments: its header is matched with the first impl's, and its where clauses are asked for
abbrev pub other_impl_entries : ImplRow → Projection → DefValue → ImplRow → List Entry
other_impl_entries r p v q =
    arguments (of_other_header q.params.items (trees_of q.trait_args.items) (trees_of r.trait_args.items) 0) ∷ row_clauses q.predicates.items 2
    ∷ arguments (followed_by 2 (own_args p)) ∷ definition_value v 3 ∷ []

-- a definition's value under the arguments that it takes: number 0 has the impl's arguments, and number 1 the goal's
unfoldable pub taken_entries : ImplRow → Projection → DefValue → Taken → List Entry
taken_entries r p v from_projection = definition_value v 1 ∷ []
taken_entries r p v from_impl = arguments (followed_by 0 (own_args p)) ∷ definition_value v 2 ∷ []
taken_entries r p v (from_other None) = undecided ∷ []
taken_entries r p v (from_other (Some q)) = other_impl_entries r p v q

-- the alias stays as it is, but in coherence that is ambiguous
abbrev pub rigid_entries : TypingMode → Tree → List Entry
rigid_entries mode.Coherence itself = ambiguous ∷ []
rigid_entries _ itself = standing itself

-- a missing value: an error whose fault is delayed, unless the impl is guaranteed to be unsized
abbrev pub missing_entries : TypingMode → ImplRow → Projection → Tree → DefRow → List Entry
missing_entries m r p itself d =
    if r.guaranteed_unsized then rigid_entries m itself else delayed_fault (MissingItem d.id) ∷ standing (error_term p.item.is_const d.id.0)

-- what a definition says of the item
abbrev pub value_entries : Setting → ImplRow → Projection → Tree → DefRow → DefValue → List Entry
value_entries S r p itself d value.Missing = missing_entries S.mode r p itself d
value_entries S r p itself d (value.Term e) = taken_entries r p (value.Term e) (taken S r d.container)
value_entries S r p itself d value.Evaluated = taken_entries r p value.Evaluated (taken S r d.container)

abbrev pub definition_entries : Setting → ImplRow → Projection → Tree → Option DefRow → List Entry
definition_entries S r p itself None = undecided ∷ []
definition_entries S r p itself (Some d) = value_entries S r p itself d d.value

-- a default, by the typing mode: it is taken, or stays hidden; in the erased mode that is recorded, and decides nothing
abbrev pub default_entries : TypingMode → List Entry → Tree → List Entry
default_entries mode.PostAnalysis es itself = es
default_entries mode.ErasedNotCoherence es itself = access Always ∷ undecided ∷ []
default_entries m es itself = rigid_entries m itself

-- what a source says of the item
abbrev pub source_entries : Setting → ImplRow → Projection → Tree → Source → List Entry
source_entries S r p itself (item_source.Broken n) = standing (error_term p.item.is_const n)
source_entries S r p itself (item_source.Def d is_default) =
    if is_default
    then default_entries S.mode (definition_entries S r p itself (definition_of S.tables d)) itself
    else definition_entries S r p itself (definition_of S.tables d)

-- what an impl says of the item, by the row of its source
abbrev pub said_by_row_entries : Setting → ImplRow → Projection → Tree → Option SourceRow → List Entry
said_by_row_entries S r p itself None = undecided ∷ []
said_by_row_entries S r p itself (Some q) = source_entries S r p itself q.source

unfoldable pub said_entries : Setting → ImplRow → Projection → Tree → List Entry
said_entries S r p itself = said_by_row_entries S r p itself (source_of S.tables r.id p.item.id)

-- an impl: its header is matched with the trait's arguments, its where clauses and the item's own are asked for, and then what it says of the item
abbrev pub projection_impl_list : Setting → Projection → Tree → ImplRow → Option (List Entry)
projection_impl_list S p itself r =
    list_by_polarity S.mode r.polarity
    (impl_match r (trait_args p)
    (evaluation ∷ arguments (given_arguments p.args) ∷ row_clauses p.item.own_predicates.items 1 ∷ said_entries S r p itself))

-- a built-in rule: its term behind its premises, the alias itself, or by whether the self type is `Sized`
unfoldable pub listed_list : Projection → Tree → Listed → Option (List Entry)
listed_list p itself nothing_listed = None
listed_list p itself (listed ps v) = Some (premise_entries source.ImplWhereBound ps ++ expected (head_form_of v) ∷ [])
listed_list p itself listed_rigid = Some (standing itself)
listed_list p itself (listed_by_size sized) = Some (expected (chosen_by (holds sized (self_of p.args)) unit_ty itself) ∷ [])

-- the list of a candidate for the term of a projection, which is the second argument where it is rigid
unfoldable pub projection_list : Setting → Projection → Tree → Candidate → Option (List Entry)
projection_list S p itself (assumption q) = projection_assumption_list p q
projection_list S p itself (implied_bound b cs) = None
projection_list S p itself (by_impl r) = projection_impl_list S p itself r
projection_list S p itself built_in = listed_list p itself (term_rule S.tables p.item.id p.args)
projection_list S p itself error = None

-- the list of a projection goal: the alias and the term are equal
abbrev pub equation_list : Tree → Tree → List Entry
equation_list a t = equal_terms (a ∷ []) (t ∷ []) ∷ []
