-- Projections as a kind of goals: which clauses and which impls may give a term, what the candidates say, by the alias that is asked, and their lists.
use Rattle.std.specs.Prelude.{◌≡◌, ◌&&◌, ◌||◌, not, ℕ, Bool, true, false, List, [], ◌∷◌, drop, take, Option, Some, None, IfSome}
use Rattle.std.specs.Option.{option_map, option_and_then}
use Rattle.goal_terms.specs.Tree.{Tree, alias, forest}
use Rattle.goal_terms.specs.TreeOf.{trees_of, tree_of_term}
use Rattle.goal_terms.specs.contracts.terms.AliasTermKindPartialEq.TheImpl as kinds
use Rattle.goal_terms.specs.declared.modes.TypingMode.{TypingMode}
use Rattle.goal_terms.specs.declared.predicates.ClauseKind.{ClauseKind}
use Rattle.goal_terms.specs.declared.predicates.ClauseKind.TheVariants as clause
use Rattle.goal_terms.specs.declared.predicates.NormalizesTo.{NormalizesTo}
use Rattle.goal_terms.specs.declared.terms.AliasTerm.{AliasTerm}
use Rattle.goal_terms.specs.declared.terms.AliasTermKind.{AliasTermKind}
use Rattle.goal_tables.specs.Rows.{same_lang_item}
use Rattle.goal_tables.specs.SourceFaults.{is_positive}
use Rattle.goal_terms.specs.declared.lang.LangItem.{LangItem}
use Rattle.goal_terms.specs.declared.lang.LangItem.TheVariants as lang
use Rattle.goal_tables.specs.declared.rows.ImplRow.{ImplRow}
use Rattle.goal_tables.specs.declared.rows.Tables.{Tables}
use Rattle.goal_lists.specs.Builtins.{lang_of_item}
use Rattle.goal_lists.specs.TraitGoals.{only_bars}
use Rattle.goal_kinds.specs.CandidateRules.{NamedRule, trait_alias, sizedness, copy_clone, fn_ptr_trait, fn_trait, tuple, pointee, discriminant_kind, destruct, field}
use Rattle.goal_lists.specs.Candidates.{Candidate}
use Rattle.goal_lists.specs.Entries.{Entry, refused}
use Rattle.goal_lists.specs.FastReject.{lists_may_unify}
use Rattle.goal_lists.specs.ImplTerms.{Projection, trait_args}
use Rattle.goal_lists.specs.Levels.{level}
use Rattle.goal_lists.specs.Premises.{TraitTree}
use Rattle.goal_lists.specs.ProjectionLists.{projection_list}
use Rattle.goal_lists.specs.Projections.{projected_item, CandidateGives, TermRefuted}
use Rattle.goal_lists.specs.RowWords.{given}
use Rattle.goal_kinds.specs.RuleWords.{projection_in}
use Rattle.goal_lists.specs.Settings.{Setting}
use Rattle.goal_lists.specs.Words.{OfRow}
use Rattle.goal_lists.specs.declared.fast_reject.Parameters.TheVariants.{Rigid, Inferred}

-- whether two aliases are of one kind, with one number
abbrev pub same_kind_of_alias : AliasTermKind → AliasTermKind → Bool
same_kind_of_alias a b = (kinds.ghosts).eq a b

-- whether a clause may give the term of an alias: it is a projection of the same item, and no two heads or kinds of the arguments differ
abbrev pub may_match_term : AliasTerm → ClauseKind → Bool
may_match_term a (clause.Projection q) =
    same_kind_of_alias q.projection_term.kind a.kind && lists_may_unify Rigid (trees_of q.projection_term.args.items) (trees_of a.args.items)
may_match_term a (clause.Trait q) = false
may_match_term a (clause.HostEffect q) = false

-- whether an impl is refused for a projection: it or the item has no row, its header is rejected, or it isn't positive and doesn't bar a refutation
abbrev pub refuses_term : TypingMode → AliasTerm → Option Projection → Option ImplRow → Bool
refuses_term m a p None = true
refuses_term m a None (Some r) = true
refuses_term m a (Some p) (Some r) =
    not (lists_may_unify Inferred (trees_of (take p.trait_params a.args.items)) (trees_of r.trait_args.items)) || not (is_positive r.polarity || only_bars m r)

-- the list of a candidate for a projection; where an alias asks for none whose item has rows, no rule stands
abbrev pub list_for : Option Projection → (Projection → Option (List Entry)) → Option (List Entry)
list_for None f = Some (refused ∷ [])
list_for (Some p) f = f p

-- the list of a candidate for the projection that an alias asks for
abbrev pub asked_projection_list : AliasTerm → Setting → Candidate → Option (List Entry)
asked_projection_list a S c = list_for (projection_in S.tables a) (λ p. projection_list S p (alias a.kind (forest (given a.args))) c)

-- a candidate gives the term of the projection that an alias asks for
abbrev pub ProjectionCandidateGives : AliasTerm → Setting → ℕ → Candidate → Tree → Type 0
ProjectionCandidateGives a S n c t = OfRow (projection_in S.tables a) (λ p. CandidateGives S (level S n) p (alias a.kind (forest (given a.args))) t c)

-- a candidate gives none
abbrev pub ProjectionCandidateRefuted : AliasTerm → Setting → ℕ → Candidate → Type 0
ProjectionCandidateRefuted a S n c = IfSome (projection_in S.tables a) (λ p. TermRefuted S (level S n) p c)

-- the trait of the projection that an alias asks for, with its arguments
abbrev pub projected_trait : Tables → AliasTerm → Option TraitTree
projected_trait t a = option_map (λ p. record { def_id = p.item.trait_id; args = trait_args p }) (projection_in t a)

-- a goal with a type in place of the self type of its alias
abbrev pub IsAliasWithSelf : NormalizesTo → Tree → NormalizesTo → Type 0
IsAliasWithSelf p t q =
    (q.alias.kind ≡ p.alias.kind)
    × (trees_of q.alias.args.items ≡ t ∷ drop 1 (trees_of p.alias.args.items))
    × (tree_of_term q.term ≡ tree_of_term p.term)

-- the lang item that names the item of a projection
abbrev pub lang_of_alias : Tables → AliasTermKind → Option LangItem
lang_of_alias t k = option_and_then (lang_of_item t) (projected_item k)

-- whether it is this one
abbrev pub is_lang : Option LangItem → LangItem → Bool
is_lang None x = false
is_lang (Some l) x = same_lang_item l x

-- whether a built-in rule is for a projection of an item that a lang item names, if one does
unfoldable pub is_for_alias : NamedRule → Option LangItem → Bool
is_for_alias trait_alias l = false
is_for_alias sizedness l = false
is_for_alias copy_clone l = false
is_for_alias fn_ptr_trait l = false
is_for_alias fn_trait l = is_lang l lang.Output
is_for_alias tuple l = false
is_for_alias pointee l = is_lang l lang.Metadata
is_for_alias discriminant_kind l = is_lang l lang.Discriminant
is_for_alias destruct l = false
is_for_alias field l = is_lang l lang.Base || is_lang l lang.FieldType

-- an impl is of the trait of a projection's item
abbrev pub IsImplForItem : Tables → AliasTerm → ImplRow → Type 0
IsImplForItem t a r = IfSome (projection_in t a) (λ p. r.trait_id ≡ p.item.trait_id)
