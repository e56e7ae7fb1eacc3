-- What a rule's list of entries means on a closed goal: that it holds, gives a term, or is refuted, one height above a level.
use Rattle.std.specs.Prelude.{ℕ, ◌≡◌, ◌⊎◌, Bool, true, false, List, [], ◌∷◌, ◌++◌, Option, option_map, slice_get}
use Rattle.goal_terms.specs.Erased.{erased}
use Rattle.goal_terms.specs.PredicateTrees.{tree_of_kind}
use Rattle.goal_terms.specs.Tree.{Tree}
use Rattle.goal_terms.specs.TreeOf.{tree_of_term, tree_of_ty}
use Rattle.goal_terms.specs.declared.answers.OpaqueTypeKey.{OpaqueTypeKey}
use Rattle.goal_terms.specs.declared.answers.ParamKind.{ParamKind}
use Rattle.goal_terms.specs.declared.ids.ImplId.{ImplId}
use Rattle.goal_terms.specs.declared.predicates.BoundConstness.{BoundConstness}
use Rattle.goal_tables.specs.Rows.{impl_of, inherent_impl_of, opaque_of}
use Rattle.goal_tables.specs.declared.rows.Tables.{Tables}
use Rattle.goal_lists.specs.RowWords.{given, clauses_in, conditions_in, value_in}
use Rattle.goal_lists.specs.Aliases.{self_header}
use Rattle.goal_lists.specs.Answers.{erased_predicate}
use Rattle.goal_lists.specs.Headers.{under, AllKnown, Fits, Clashes}
use Rattle.goal_lists.specs.HiddenTypes.{HiddenGives, HiddenRefuted}
use Rattle.goal_lists.specs.ImplTerms.{header_under}
use Rattle.goal_lists.specs.Level.{Level, HasHeadForm, HeadFormRefuted}
use Rattle.goal_lists.specs.Premises.{ClauseHolds, ClauseRefuted, PremisesHold, PremisesRefuted, clauses_under, traits_under, conditions_as}
use Rattle.goal_lists.specs.Settings.{Setting}
use Rattle.goal_lists.specs.TraitGoals.{header_of}
use Rattle.goal_lists.specs.Words.{OfRow, Pairs, SomePair}
use Rattle.goal_kinds.specs.declared.rules.Rule.{Rule}
use Rattle.goal_kinds.specs.declared.rules.RuleEntry.{RuleEntry}
use Rattle.goal_kinds.specs.declared.rules.RuleEntry.TheVariants as entry
use Rattle.goal_kinds.specs.declared.rules.RuleArguments.{RuleArguments}
use Rattle.goal_kinds.specs.declared.rules.RuleArguments.TheVariants as arguments
use Rattle.goal_lists.specs.declared.lists.FirstUse.{FirstUse}
use Rattle.goal_lists.specs.declared.lists.RuleHeader.{RuleHeader}
use Rattle.goal_lists.specs.declared.lists.RuleHeader.TheVariants as header
use Rattle.goal_lists.specs.declared.lists.RowClauses.{RowClauses}
use Rattle.goal_kinds.specs.declared.rules.RuleTerm.{RuleTerm}
use Rattle.goal_kinds.specs.declared.rules.RuleTerm.TheVariants as term

-- a header that is matched: the parameters of its row, and its terms
pub record MatchedHeader : Type 0 where
  pub params : List ParamKind
  pub terms : List Tree

-- the header of a row
abbrev pub header_in : Tables → RuleHeader → Option MatchedHeader
header_in t (header.Impl i) = option_map (λ r. record { params = r.params.items; terms = header_of r }) (impl_of t i)
header_in t (header.InherentImpl i) = option_map (λ q. record { params = q.params.items; terms = self_header q }) (inherent_impl_of t i)

-- the arguments of a number, among those that were named, have a property
abbrev pub OfNumber : List (List Tree) → ℕ → (List Tree → Type 0) → Type 0
OfNumber named n P = OfRow (slice_get named n) P

-- an entry names a list of arguments: a match fits
unfoldable pub Names : Setting → Level → List (List Tree) → RuleArguments → List Tree → Type 0
Names S L named (arguments.Given args) s = s ≡ given args
Names S L named (arguments.Header h args) s = OfRow (header_in S.tables h) (λ m. Fits L m.params m.terms (given args) s)
Names S L named (arguments.OtherImpl i j n) s =
    OfRow (impl_of S.tables i) (λ q. OfRow (impl_of S.tables j) (λ r. OfNumber named n (λ z. Fits L q.params.items (header_of q) (header_under r z) s)))
Names S L named (arguments.Followed n own) s = OfNumber named n (λ z. s ≡ z ++ given own)

-- the list that an entry names is known: a match has all parameters known
unfoldable pub NamesKnown : Setting → Level → List (List Tree) → RuleArguments → List Tree → Type 0
NamesKnown S L named (arguments.Given args) s = s ≡ given args
NamesKnown S L named (arguments.Header h args) s = OfRow (header_in S.tables h) (λ m. AllKnown L m.params m.terms (given args) s)
NamesKnown S L named (arguments.OtherImpl i j n) s =
    OfRow (impl_of S.tables i) (λ q. OfRow (impl_of S.tables j) (λ r. OfNumber named n (λ z. AllKnown L q.params.items (header_of q) (header_under r z) s)))
NamesKnown S L named (arguments.Followed n own) s = OfNumber named n (λ z. s ≡ z ++ given own)

-- an entry names nothing: a match clashes
unfoldable pub NamesNothing : Setting → Level → List (List Tree) → RuleArguments → Type 0
NamesNothing S L named (arguments.Given args) = ⊥
NamesNothing S L named (arguments.Header h args) = OfRow (header_in S.tables h) (λ m. Clashes L m.params m.terms (given args))
NamesNothing S L named (arguments.OtherImpl i j n) =
    OfRow (impl_of S.tables i) (λ q. OfRow (impl_of S.tables j) (λ r. OfNumber named n (λ z. Clashes L q.params.items (header_of q) (header_under r z))))
NamesNothing S L named (arguments.Followed n own) = ⊥

-- the clauses of a row hold under arguments, or one of them is refuted
abbrev pub RowClausesHold : Setting → Level → List (List Tree) → RowClauses → ℕ → Type 0
RowClausesHold S L named c n = OfRow (clauses_in S.tables c) (λ cs. OfNumber named n (λ s. PremisesHold L (clauses_under s cs)))

abbrev pub RowClausesRefuted : Setting → Level → List (List Tree) → RowClauses → ℕ → Type 0
RowClausesRefuted S L named c n = OfRow (clauses_in S.tables c) (λ cs. OfNumber named n (λ s. PremisesRefuted L (clauses_under s cs)))

-- the const conditions of an impl hold with a constness under arguments, or one of them is refuted
abbrev pub RowConditionsHold : Setting → Level → List (List Tree) → BoundConstness → ImplId → ℕ → Type 0
RowConditionsHold S L named c i n = OfRow (conditions_in S.tables i) (λ rs. OfNumber named n (λ s. PremisesHold L (conditions_as c (traits_under s rs))))

abbrev pub RowConditionsRefuted : Setting → Level → List (List Tree) → BoundConstness → ImplId → ℕ → Type 0
RowConditionsRefuted S L named c i n = OfRow (conditions_in S.tables i) (λ rs. OfNumber named n (λ s. PremisesRefuted L (conditions_as c (traits_under s rs))))

-- the term that the expected variable stands for; that there is none
unfoldable pub TermIs : Setting → Level → List (List Tree) → RuleTerm → Tree → Type 0
TermIs S L named (term.AsItStands e) u = u ≡ erased (tree_of_term e)
TermIs S L named (term.Normalized e) u = HasHeadForm L (erased (tree_of_term e)) u
TermIs S L named (term.Value v n) u = OfRow (value_in S.tables v) (λ e. OfNumber named n (λ s. HasHeadForm L (under s e) u))
TermIs S L named (term.ChosenBy k a b) u =
    (ClauseHolds L (erased_predicate (tree_of_kind k)) × (u ≡ erased (tree_of_term a)))
    ⊎ (ClauseRefuted L (erased_predicate (tree_of_kind k)) × (u ≡ erased (tree_of_term b)))

unfoldable pub TermIsNone : Setting → Level → List (List Tree) → RuleTerm → Type 0
TermIsNone S L named (term.AsItStands e) = ⊥
TermIsNone S L named (term.Normalized e) = HeadFormRefuted L (erased (tree_of_term e))
TermIsNone S L named (term.Value v n) = OfRow (value_in S.tables v) (λ e. OfNumber named n (λ s. HeadFormRefuted L (under s e)))
TermIsNone S L named (term.ChosenBy k a b) = ⊥

-- what an opaque type that is being defined stands for, by its row; that there is nothing
unfoldable pub HiddenIs : Setting → Level → OpaqueTypeKey → FirstUse → Tree → Type 0
HiddenIs S L k f u = OfRow (opaque_of S.tables k.def_id) (λ r. HiddenGives L f (given k.args) (tree_of_ty r.typeck_hidden) r.bounds.items u)

unfoldable pub HiddenIsNone : Setting → Level → OpaqueTypeKey → FirstUse → Type 0
HiddenIsNone S L k f = OfRow (opaque_of S.tables k.def_id) (λ r. HiddenRefuted L f (given k.args) (tree_of_ty r.typeck_hidden) r.bounds.items)

-- all entries hold, and the term of each that has one is as said; the arguments named before them are given
unfoldable pub EntriesHold : Setting → Level → (Tree → Type 0) → List (List Tree) → List RuleEntry → Type 0
EntriesHold S L Said named [] = Unit {0}
EntriesHold S L Said named (entry.Arguments a ∷ es) = (s : List Tree) × Names S L named a s × EntriesHold S L Said (named ++ s ∷ []) es
EntriesHold S L Said named (entry.Equation ts us ∷ es) = Pairs L.equal (given ts) (given us) × EntriesHold S L Said named es
EntriesHold S L Said named (entry.Clause g k ∷ es) = ClauseHolds L (erased_predicate (tree_of_kind k)) × EntriesHold S L Said named es
EntriesHold S L Said named (entry.RowClauses c n ∷ es) = RowClausesHold S L named c n × EntriesHold S L Said named es
EntriesHold S L Said named (entry.RowConditions c i n ∷ es) = RowConditionsHold S L named c i n × EntriesHold S L Said named es
EntriesHold S L Said named (entry.Term v e ∷ es) = ((u : Tree) × TermIs S L named e u × Said u) × EntriesHold S L Said named es
EntriesHold S L Said named (entry.HiddenType v k f ∷ es) = ((u : Tree) × HiddenIs S L k f u × Said u) × EntriesHold S L Said named es
EntriesHold S L Said named (entry.Access a ∷ es) = EntriesHold S L Said named es
EntriesHold S L Said named (entry.DelayedFault f ∷ es) = EntriesHold S L Said named es
EntriesHold S L Said named (entry.Evaluation ∷ es) = EntriesHold S L Said named es
EntriesHold S L Said named (entry.Ambiguous ∷ es) = ⊥
EntriesHold S L Said named (entry.Undecided ∷ es) = ⊥
EntriesHold S L Said named (entry.Refused ∷ es) = ⊥

-- an entry is refuted, and what was named before it is known
unfoldable pub EntriesRefuted : Setting → Level → List (List Tree) → List RuleEntry → Type 0
EntriesRefuted S L named [] = ⊥
EntriesRefuted S L named (entry.Arguments a ∷ es) =
    NamesNothing S L named a ⊎ ((s : List Tree) × NamesKnown S L named a s × EntriesRefuted S L (named ++ s ∷ []) es)
EntriesRefuted S L named (entry.Equation ts us ∷ es) = SomePair L.unequal (given ts) (given us) ⊎ EntriesRefuted S L named es
EntriesRefuted S L named (entry.Clause g k ∷ es) = ClauseRefuted L (erased_predicate (tree_of_kind k)) ⊎ EntriesRefuted S L named es
EntriesRefuted S L named (entry.RowClauses c n ∷ es) = RowClausesRefuted S L named c n ⊎ EntriesRefuted S L named es
EntriesRefuted S L named (entry.RowConditions c i n ∷ es) = RowConditionsRefuted S L named c i n ⊎ EntriesRefuted S L named es
EntriesRefuted S L named (entry.Term v e ∷ es) = TermIsNone S L named e ⊎ EntriesRefuted S L named es
EntriesRefuted S L named (entry.HiddenType v k f ∷ es) = HiddenIsNone S L k f ⊎ EntriesRefuted S L named es
EntriesRefuted S L named (entry.Access a ∷ es) = EntriesRefuted S L named es
EntriesRefuted S L named (entry.DelayedFault f ∷ es) = EntriesRefuted S L named es
EntriesRefuted S L named (entry.Evaluation ∷ es) = EntriesRefuted S L named es
EntriesRefuted S L named (entry.Ambiguous ∷ es) = EntriesRefuted S L named es
EntriesRefuted S L named (entry.Undecided ∷ es) = EntriesRefuted S L named es
EntriesRefuted S L named (entry.Refused ∷ es) = Unit {0}

-- whether a list has a term for the expected variable
unfoldable pub has_term : List RuleEntry → Bool
has_term [] = false
has_term (entry.Term v e ∷ es) = true
has_term (entry.Arguments a ∷ es) = has_term es
has_term (entry.Equation ts us ∷ es) = has_term es
has_term (entry.Clause g k ∷ es) = has_term es
has_term (entry.RowClauses c n ∷ es) = has_term es
has_term (entry.RowConditions c i n ∷ es) = has_term es
has_term (entry.HiddenType v k f ∷ es) = true
has_term (entry.Access a ∷ es) = has_term es
has_term (entry.DelayedFault f ∷ es) = has_term es
has_term (entry.Evaluation ∷ es) = has_term es
has_term (entry.Ambiguous ∷ es) = has_term es
has_term (entry.Undecided ∷ es) = has_term es
has_term (entry.Refused ∷ es) = has_term es

-- a rule holds: all of its entries do
unfoldable pub RuleHolds : Setting → Level → Rule → Type 0
RuleHolds S L r = EntriesHold S L (λ u. Unit {0}) [] r.entries.items

-- a rule gives a term: it holds with that term for the expected variable
unfoldable pub RuleGives : Setting → Level → Rule → Tree → Type 0
RuleGives S L r t = EntriesHold S L (λ u. u ≡ t) [] r.entries.items × (has_term r.entries.items ≡ true)

-- a rule is refuted: one of its entries is, what was named before it being known
unfoldable pub RuleRefuted : Setting → Level → Rule → Type 0
RuleRefuted S L r = EntriesRefuted S L [] r.entries.items
