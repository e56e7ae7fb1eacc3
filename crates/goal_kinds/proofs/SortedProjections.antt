-- The lists of the candidates for the terms of projections, and of aliases, expect types and constants alone.
use Rattle.std.proofs.Common.{◌≡◌, Bool, true, false, ℕ, List, [], ◌∷◌, ◌++◌, Option, Some, None, if◌then◌else◌, refl, sym, ap, ◌∙◌, subst}
use Rattle.goal_terms.specs.Erased.{erased}
use Rattle.goal_terms.specs.PredicateTrees.{PredicateTree, holds, equals, holds_const}
use Rattle.goal_terms.specs.Sorts.{is_term_sort, IsTerm}
use Rattle.goal_terms.specs.Tree.{Tree, node, alias, variable, forest, list_of}
use Rattle.goal_terms.specs.TreeOf.{tree_of_alias, tree_of_term}
use Rattle.goal_terms.specs.declared.answers.GoalSource.TheVariants.{ImplWhereBound}
use Rattle.goal_terms.specs.declared.modes.TypingMode.{TypingMode}
use Rattle.goal_terms.specs.declared.modes.TypingMode.TheVariants as mode
use Rattle.goal_terms.specs.declared.predicates.ClauseKind.{ClauseKind}
use Rattle.goal_terms.specs.declared.predicates.ClauseKind.TheVariants as clause
use Rattle.goal_terms.specs.declared.terms.AliasTerm.{AliasTerm}
use Rattle.goal_terms.specs.declared.terms.AliasTermKind.{AliasTermKind}
use Rattle.goal_terms.specs.declared.terms.AliasTermKind.TheVariants.{ProjectionTy, ProjectionConst, InherentTy, InherentConst, OpaqueTy, FreeTy, FreeConst, UnevaluatedConst}
use Rattle.goal_terms.specs.declared.terms.Term.{Term}
use Rattle.goal_terms.proofs.SortLemmas.{term_sort}
use Rattle.goal_terms.proofs.TreeLemmas.{tree_of_alias-record}
use Rattle.goal_tables.specs.Rows.{source_of, definition_of, free_of, inherent_of, inherent_impl_of, opaque_of}
use Rattle.goal_tables.specs.declared.rows.DefRow.{DefRow}
use Rattle.goal_tables.specs.declared.rows.DefValue.{DefValue}
use Rattle.goal_tables.specs.declared.rows.DefValue.TheVariants as value
use Rattle.goal_tables.specs.declared.rows.ImplRow.{ImplRow}
use Rattle.goal_tables.specs.declared.rows.InherentRow.{InherentRow}
use Rattle.goal_tables.specs.declared.rows.OpaqueRow.{OpaqueRow}
use Rattle.goal_tables.specs.declared.rows.Source.{Source}
use Rattle.goal_tables.specs.declared.rows.Source.TheVariants as source
use Rattle.goal_tables.specs.declared.rows.SourceRow.{SourceRow}
use Rattle.goal_lists.specs.AliasLists.{row_value, entries_of_row, inherent_alias_list, opaque_list, opaque_alias_list, alias_list}
use Rattle.goal_lists.specs.Builtins.{Listed, nothing_listed, listed, listed_rigid, listed_by_size, term_rule}
use Rattle.goal_kinds.specs.CandidateRules.{said_by}
use Rattle.goal_lists.specs.Candidates.{Candidate, assumption, implied_bound, by_impl, built_in, error}
use Rattle.goal_lists.specs.Entries.{Entry, expected, premise_entries}
use Rattle.goal_lists.specs.ImplTerms.{Projection, error_term, Taken, from_projection, from_impl, from_other, taken}
use Rattle.goal_lists.specs.NamedRows.{CandidateIsSorted, IsAlias, IsSorted, IsSortedPredicate, ListIsSorted}
use Rattle.goal_lists.specs.Premises.{Premise, predicate, equation}
use Rattle.goal_kinds.specs.ProjectionKind.{list_for, asked_projection_list}
use Rattle.goal_lists.specs.ProjectionLists.{is_item, same_item_list, equation_clause_list, projection_assumption_list, standing, definition_value, taken_entries, rigid_entries, value_entries, definition_entries, default_entries, source_entries, said_by_row_entries, said_entries, projection_impl_list, listed_list, projection_list}
use Rattle.goal_lists.specs.Projections.{projected_item}
use Rattle.goal_lists.specs.RowWords.{given}
use Rattle.goal_kinds.specs.RuleWords.{projection_in}
use Rattle.goal_lists.specs.Settings.{Setting, among}
use Rattle.goal_lists.specs.Words.{Each}
use Rattle.goal_lists.specs.declared.lists.FirstUse.{FirstUse}
use Rattle.goal_lists.specs.declared.lists.FirstUse.TheVariants as first
use Rattle.goal_kinds.proofs.ProjectionKindLaws.{asked-of}
use Rattle.goal_kinds.proofs.RebuiltLemmas.{sort-of_erased}
use Rattle.goal_kinds.proofs.SortedLists.{AreSorted, polarity-sorted}
use Rattle.goal_kinds.proofs.SortedTerms.{alias-term, ListedIsSorted, term_rule-sorted}

-- what a clause says, as it stands
alias-is : (a : AliasTerm) → IsAlias (erased (tree_of_alias a))
unfolding erased
alias-is a = subst (λ t. IsAlias (erased t)) (sym (tree_of_alias-record a)) tt

pub said-sorted : (k : ClauseKind) → CandidateIsSorted (said_by k)
said-sorted (clause.Trait q) = tt
said-sorted (clause.Projection q) = (alias-is q.projection_term, ap is_term_sort (sort-of_erased (tree_of_term q.term)) ∙ term_sort q.term)
said-sorted (clause.HostEffect q) = tt

-- a term as it stands, and one entry alone
standing-sorted : (t : Tree) → IsTerm t → Each IsSorted (standing t)
unfolding Each
standing-sorted t h = (h, tt)

error-term : (b : Bool) (n : ℕ) → IsTerm (error_term b n)
error-term true n = refl
error-term false n = refl

-- a definition's value
value-sorted : (v : DefValue) (n : ℕ) → IsSorted (definition_value v n)
value-sorted (value.Term e) n = tt
value-sorted value.Missing n = tt
value-sorted value.Evaluated n = tt

taken-sorted : (r : ImplRow) (p : Projection) (v : DefValue) (x : Taken) → Each IsSorted (taken_entries r p v x)
unfolding taken_entries Each
taken-sorted r p v from_projection = (value-sorted v 1, tt)
taken-sorted r p v from_impl = (tt, (value-sorted v 2, tt))
taken-sorted r p v (from_other None) = (tt, tt)
taken-sorted r p v (from_other (Some q)) = (tt, (tt, (tt, (value-sorted v 3, tt))))

-- what an impl says of an item, the alias itself being a type or a constant
module _ (S : Setting) (r : ImplRow) (p : Projection) (itself : Tree) (term : IsTerm itself) where
  rigid-sorted : (m : TypingMode) → Each IsSorted (rigid_entries m itself)
  unfolding Each
  rigid-sorted mode.Coherence = (tt, tt)
  rigid-sorted (mode.Analysis ids) = standing-sorted itself term
  rigid-sorted (mode.Borrowck ids) = standing-sorted itself term
  rigid-sorted (mode.PostBorrowckAnalysis ids) = standing-sorted itself term
  rigid-sorted mode.PostAnalysis = standing-sorted itself term
  rigid-sorted mode.ErasedNotCoherence = standing-sorted itself term

  either-sorted : (b : Bool) (es fs : List Entry) → Each IsSorted es → Each IsSorted fs → Each IsSorted (if b then es else fs)
  either-sorted true es fs h k = h
  either-sorted false es fs h k = k

  values-sorted : (d : DefRow) (v : DefValue) → Each IsSorted (value_entries S r p itself d v)
  unfolding Each
  values-sorted d value.Missing = either-sorted r.guaranteed_unsized _ _ (rigid-sorted S.mode) (tt, (error-term p.item.is_const d.id.0, tt))
  values-sorted d (value.Term e) = taken-sorted r p (value.Term e) (taken S r d.container)
  values-sorted d value.Evaluated = taken-sorted r p value.Evaluated (taken S r d.container)

  definition-sorted : (o : Option DefRow) → Each IsSorted (definition_entries S r p itself o)
  unfolding Each
  definition-sorted None = (tt, tt)
  definition-sorted (Some d) = values-sorted d d.value

  default-sorted : (m : TypingMode) (es : List Entry) → Each IsSorted es → Each IsSorted (default_entries m es itself)
  unfolding Each
  default-sorted mode.PostAnalysis es h = h
  default-sorted mode.ErasedNotCoherence es h = (tt, (tt, tt))
  default-sorted mode.Coherence es h = rigid-sorted mode.Coherence
  default-sorted (mode.Analysis ids) es h = rigid-sorted (mode.Analysis ids)
  default-sorted (mode.Borrowck ids) es h = rigid-sorted (mode.Borrowck ids)
  default-sorted (mode.PostBorrowckAnalysis ids) es h = rigid-sorted (mode.PostBorrowckAnalysis ids)

  source-sorted : (x : Source) → Each IsSorted (source_entries S r p itself x)
  source-sorted (source.Broken n) = standing-sorted (error_term p.item.is_const n) (error-term p.item.is_const n)
  source-sorted (source.Def d is_default) =
      either-sorted is_default _ _ (default-sorted S.mode _ (definition-sorted (definition_of S.tables d))) (definition-sorted (definition_of S.tables d))

  row-sorted : (o : Option SourceRow) → Each IsSorted (said_by_row_entries S r p itself o)
  unfolding Each
  row-sorted None = (tt, tt)
  row-sorted (Some q) = source-sorted q.source

  impl-sorted : ListIsSorted (projection_impl_list S p itself r)
  unfolding said_entries Each
  impl-sorted = polarity-sorted S.mode r.polarity _ (tt, (tt, (tt, (tt, (tt, row-sorted (source_of S.tables r.id p.item.id))))))

-- a clause
same-sorted : (b : Bool) (p : Projection) (bs : List Tree) (v : Tree) → IsTerm v → ListIsSorted (if b then Some (same_item_list p bs v) else None)
unfolding Each
same-sorted true p bs v h = (tt, (tt, (tt, (h, tt))))
same-sorted false p bs v h = tt

equation-sorted : (p : Projection) (a v : Tree) → IsTerm v → ListIsSorted (equation_clause_list p a v)
unfolding equation_clause_list
equation-sorted p (alias k bs) v h = same-sorted (is_item p.item.id (projected_item k)) p (list_of bs) v h
equation-sorted p (node c bs) v h = tt
equation-sorted p (variable x) v h = tt

assumption-sorted : (p : Projection) (q : PredicateTree) → IsSortedPredicate q → ListIsSorted (projection_assumption_list p q)
unfolding projection_assumption_list
assumption-sorted p (equals a v) h = equation-sorted p a v h.1
assumption-sorted p (holds i ts) h = tt
assumption-sorted p (holds_const c i ts) h = tt

-- a built-in rule
behind-sorted : (ps : List Premise) (es : List Entry) → AreSorted ps → Each IsSorted es → Each IsSorted (premise_entries ImplWhereBound ps ++ es)
unfolding Each
behind-sorted [] es h k = k
behind-sorted (predicate q ∷ ps) es h k = (h.0, behind-sorted ps es h.1 k)
behind-sorted (equation t u ∷ ps) es h k = (tt, behind-sorted ps es h.1 k)

listed-sorted : (p : Projection) (itself : Tree) → IsTerm itself → (x : Listed) → ListedIsSorted x → ListIsSorted (listed_list p itself x)
unfolding listed_list Each
listed-sorted p itself term nothing_listed h = tt
listed-sorted p itself term (listed ps v) h = behind-sorted ps (expected _ ∷ []) h.0 (h.1, tt)
listed-sorted p itself term listed_rigid h = standing-sorted itself term
listed-sorted p itself term (listed_by_size sized) h = ((tt, refl, term), tt)

-- each candidate
candidate-sorted : (S : Setting) (p : Projection) (itself : Tree) → IsTerm itself → ListedIsSorted (term_rule S.tables p.item.id p.args) → (c : Candidate) →
    CandidateIsSorted c → ListIsSorted (projection_list S p itself c)
unfolding projection_list
candidate-sorted S p itself term rule (assumption q) h = assumption-sorted p q h
candidate-sorted S p itself term rule (implied_bound b cs) h = tt
candidate-sorted S p itself term rule (by_impl r) h = impl-sorted S r p itself term
candidate-sorted S p itself term rule built_in h = listed-sorted p itself term (term_rule S.tables p.item.id p.args) rule
candidate-sorted S p itself term rule error h = tt

list_for-sorted : (a : AliasTerm) (S : Setting) (c : Candidate) → CandidateIsSorted c → (o : Option Projection) → projection_in S.tables a ≡ o →
    ListIsSorted (list_for o (λ p. projection_list S p (alias a.kind (forest (given a.args))) c))
unfolding Each
list_for-sorted a S c h None e = (tt, tt)
list_for-sorted a S c h (Some p) e =
    candidate-sorted S p (alias a.kind (forest (given a.args))) (alias-term a.kind (forest (given a.args)))
    (subst (λ args. ListedIsSorted (term_rule S.tables p.item.id args)) (sym (asked-of S.tables a p e).3) (term_rule-sorted S.tables p.item.id a.args.items)) c h

pub asked_projection-sorted : (a : AliasTerm) (S : Setting) (c : Candidate) → CandidateIsSorted c → ListIsSorted (asked_projection_list a S c)
asked_projection-sorted a S c h = list_for-sorted a S c h (projection_in S.tables a) refl

-- a row that may be missing
there-sorted : {A : Type 0} (o : Option A) (f : A → List Entry) → ((r : A) → Each IsSorted (f r)) → Each IsSorted (entries_of_row o f)
unfolding entries_of_row Each
there-sorted None f h = (tt, tt)
there-sorted (Some r) f h = h r

row_value-sorted : (o : Option Term) (n : ℕ) → IsSorted (row_value o n)
row_value-sorted None n = tt
row_value-sorted (Some e) n = tt

inherent-sorted : (S : Setting) (o : Option InherentRow) (args : List Tree) → Each IsSorted (inherent_alias_list S o args)
unfolding inherent_alias_list Each
inherent-sorted S o [] = (tt, tt)
inherent-sorted S o (self ∷ own) =
    there-sorted o _ (λ i. there-sorted (inherent_impl_of S.tables i.impl_id) _ (λ q. (tt, (tt, (tt, (row_value-sorted i.value 1, tt))))))

which-sorted : (b : Bool) (es fs : List Entry) → Each IsSorted es → Each IsSorted fs → Each IsSorted (if b then es else fs)
which-sorted true es fs h k = h
which-sorted false es fs h k = k

opaque-sorted : (m : TypingMode) (r : OpaqueRow) (defined : FirstUse → List Entry) (revealed itself : List Entry) → ((f : FirstUse) → Each IsSorted (defined f)) →
    Each IsSorted revealed → Each IsSorted itself → Each IsSorted (opaque_list m r defined revealed itself)
unfolding opaque_list Each
opaque-sorted mode.Coherence r defined revealed itself d h k = (tt, tt)
opaque-sorted (mode.Analysis ids) r defined revealed itself d h k = which-sorted (among ids.items r) _ _ (d first.Expected) k
opaque-sorted (mode.Borrowck ids) r defined revealed itself d h k = which-sorted (among ids.items r) _ _ (d first.TypeChecked) k
opaque-sorted (mode.PostBorrowckAnalysis ids) r defined revealed itself d h k = which-sorted (among ids.items r) _ _ h k
opaque-sorted mode.PostAnalysis r defined revealed itself d h k = h
opaque-sorted mode.ErasedNotCoherence r defined revealed itself d h k = (tt, k)

-- the list of an alias that is no projection
pub alias_list-sorted : (S : Setting) (k : AliasTermKind) (args : List Tree) → Each IsSorted (alias_list S k args)
unfolding alias_list Each
alias_list-sorted S (InherentTy i) args = inherent-sorted S (inherent_of S.tables i) args
alias_list-sorted S (InherentConst i) args = inherent-sorted S (inherent_of S.tables i) args
alias_list-sorted S (OpaqueTy i) args =
    there-sorted (opaque_of S.tables i) (opaque_alias_list S i args)
    (λ r. opaque-sorted S.mode r _ _ _ (λ f. (tt, tt)) (tt, (tt, tt)) (standing-sorted (alias (OpaqueTy i) (forest args)) (alias-term (OpaqueTy i) (forest args))))
alias_list-sorted S (FreeTy i) args = there-sorted (free_of S.tables i) _ (λ r. (tt, (tt, (row_value-sorted r.value 0, tt))))
alias_list-sorted S (FreeConst i) args = there-sorted (free_of S.tables i) _ (λ r. (tt, (tt, (row_value-sorted r.value 0, tt))))
alias_list-sorted S (UnevaluatedConst n) args = (tt, tt)
alias_list-sorted S (ProjectionTy i) args = (tt, tt)
alias_list-sorted S (ProjectionConst i) args = (tt, tt)
