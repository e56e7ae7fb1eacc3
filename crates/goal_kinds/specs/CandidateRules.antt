-- What a rule's list says of a candidate, at all heights.
use Rattle.std.specs.Prelude.{drop, ◌≡◌, ◌↔◌, ◌==◌, ℕ, Bool, true, false, ◌&&◌, ◌||◌, not, List, [], ◌∷◌, map, Option, Some, None, Result, Err, IfOk, IfErr}
use Rattle.goal_terms.specs.Erased.{erased}
use Rattle.goal_terms.specs.PredicateTrees.{tree_of_kind}
use Rattle.goal_terms.specs.Tree.{Tree}
use Rattle.goal_terms.specs.TreeOf.{trees_of}
use Rattle.goal_terms.specs.declared.answers.Certainty.{Certainty}
use Rattle.goal_terms.specs.declared.answers.Certainty.TheVariants as certainty
use Rattle.goal_terms.specs.declared.answers.GoalSource.{GoalSource}
use Rattle.goal_terms.specs.declared.modes.TypingMode.{TypingMode}
use Rattle.goal_terms.specs.declared.predicates.ClauseKind.{ClauseKind}
use Rattle.goal_terms.specs.declared.predicates.ClauseKind.TheVariants as clause
use Rattle.goal_terms.specs.declared.predicates.TraitRef.{TraitRef}
use Rattle.goal_terms.specs.declared.terms.GenericArg.{GenericArg}
use Rattle.goal_terms.specs.declared.terms.GenericArg.TheVariants as arg
use Rattle.goal_terms.specs.declared.terms.Ty.{Ty}
use Rattle.goal_tables.specs.Clauses.{lies_in_clause_kind}
use Rattle.goal_tables.specs.SourceFaults.{is_positive}
use Rattle.goal_terms.specs.declared.ids.TraitId.{TraitId}
use Rattle.goal_tables.specs.Rows.{trait_of}
use Rattle.goal_terms.specs.declared.lang.LangItem.{LangItem}
use Rattle.goal_terms.specs.declared.lang.LangItem.TheVariants as lang
use Rattle.goal_tables.specs.declared.rows.ImplRow.{ImplRow}
use Rattle.goal_tables.specs.declared.rows.TraitRow.{TraitRow}
use Rattle.goal_tables.specs.declared.rows.Tables.{Tables}
use Rattle.goal_tables.specs.declared.faults.TermFault.{TermFault}
use Rattle.goal_tables.specs.declared.faults.TermFault.TheVariants.{UnknownItem, WrongArgumentCount, WrongArgumentKind}
use Rattle.goal_lists.specs.Answers.{erased_predicate}
use Rattle.goal_lists.specs.Builtins.{lang_of_trait}
use Rattle.goal_lists.specs.Candidates.{Candidate, assumption}
use Rattle.goal_lists.specs.FastReject.{lists_may_unify}
use Rattle.goal_lists.specs.Levels.{level}
use Rattle.goal_lists.specs.Premises.{TraitTree, ClauseHolds, ClauseRefuted}
use Rattle.goal_kinds.specs.Rules.{RuleHolds, RuleGives, RuleRefuted}
use Rattle.goal_lists.specs.RowWords.{given}
use Rattle.goal_lists.specs.Settings.{Setting}
use Rattle.goal_lists.specs.TraitGoals.{any_error, only_bars, CandidateHolds, CandidateRefuted}
use Rattle.goal_lists.specs.Words.{Each, Exists}
use Rattle.goal_lists.specs.declared.fast_reject.Parameters.TheVariants.{Rigid, Inferred}
use Rattle.goal_kinds.specs.declared.faults.Fault.{Fault}
use Rattle.goal_kinds.specs.declared.faults.Fault.TheVariants as fault
use Rattle.goal_kinds.specs.declared.goal_kind.TraitView.{TraitView}
use Rattle.goal_kinds.specs.declared.rules.Rule.{Rule}
use Rattle.goal_kinds.specs.declared.rules.RuleArguments.TheVariants as arguments
use Rattle.goal_kinds.specs.declared.rules.RuleEntry.{RuleEntry}
use Rattle.goal_kinds.specs.declared.rules.RuleEntry.TheVariants as entry

-- what a rule says of a term at a height: that it gives it; or, for goals that ask for none, that it holds
abbrev pub RuleSays : Bool → Setting → ℕ → Rule → Tree → Type 0
RuleSays true S n r t = RuleGives S (level S n) r t
RuleSays false S n r t = RuleHolds S (level S n) r

-- a rule says a term at each height exactly where the candidate does; a rule that is to stay undecided never does
abbrev pub GivesAs : Bool → Setting → Certainty → (ℕ → Tree → Type 0) → Rule → Type 0
GivesAs b S c Gives r = (n : ℕ) (t : Tree) → RuleSays b S n r t ↔ ((c ≡ certainty.Yes) × Gives n t)

-- a rule is refuted at each height exactly where the candidate is
abbrev pub RefutedAs : Setting → (ℕ → Type 0) → Rule → Type 0
RefutedAs S Refuted r = (n : ℕ) → RuleRefuted S (level S n) r ↔ Refuted n

-- a refusal says that the candidate is refuted with no height; beside it there is only want of memory
abbrev pub IsRefusal : Type 0 → Fault → Type 0
IsRefusal A fault.NoSolution = A
IsRefusal A fault.OutOfMemory = Unit {0}
IsRefusal A fault.RerunNonErased = ⊥
IsRefusal A fault.NotForThisKind = ⊥

-- the entries behind those of a candidate, by whether it is to stay undecided
abbrev pub after : Certainty → List RuleEntry
after certainty.Yes = []
after certainty.Maybe = entry.Undecided ∷ []

-- what a clause says, as a candidate
abbrev pub said_by : ClauseKind → Candidate
said_by k = assumption (erased_predicate (tree_of_kind k))

-- clauses that are asked for beside a candidate, as entries
abbrev pub entries_for : List (GoalSource × ClauseKind) → List RuleEntry
entries_for ks = map (λ k. entry.Clause k.0 k.1) ks

-- all of them hold at a height; one of them is refuted
abbrev pub AllHold : Setting → ℕ → List (GoalSource × ClauseKind) → Type 0
AllHold S n ks = Each (λ k. ClauseHolds (level S n) (erased_predicate (tree_of_kind k.1))) ks

abbrev pub OneRefuted : Setting → ℕ → List (GoalSource × ClauseKind) → Type 0
OneRefuted S n ks = Exists (λ k. ClauseRefuted (level S n) (erased_predicate (tree_of_kind k.1))) ks

-- no fault of an unknown item, a number of arguments or a kind
abbrev pub HasNoKindFault : (TermFault → Bool) → Type 0
HasNoKindFault lies = (lies UnknownItem ≡ false) × (lies WrongArgumentCount ≡ false) × (lies WrongArgumentKind ≡ false)

-- nor in what a clause says
abbrev pub IsAcceptedClause : Tables → ClauseKind → Type 0
IsAcceptedClause t k = HasNoKindFault (λ f. lies_in_clause_kind t [] f k)

-- whether a clause is of a trait
abbrev pub is_of_trait : TraitRef → ClauseKind → Bool
is_of_trait r (clause.Trait q) = q.trait_ref.def_id.0 == r.def_id.0
is_of_trait r (clause.Projection q) = false
is_of_trait r (clause.HostEffect q) = false

-- whether a clause may say what a trait goal asks: it is of the trait, and no two heads or kinds of the arguments differ
abbrev pub may_match : TraitRef → ClauseKind → Bool
may_match r (clause.Trait q) = (q.trait_ref.def_id.0 == r.def_id.0) && lists_may_unify Rigid (trees_of q.trait_ref.args.items) (trees_of r.args.items)
may_match r (clause.Projection q) = false
may_match r (clause.HostEffect q) = false

-- whether an impl is refused for a trait goal: its header is rejected, or it isn't positive and doesn't bar a refutation
abbrev pub refuses_row : TypingMode → TraitRef → ImplRow → Bool
refuses_row m a r =
    not (lists_may_unify Inferred (trees_of a.args.items) (trees_of r.trait_args.items)) || not (is_positive r.polarity || only_bars m r)

-- and one that has no row
abbrev pub refuses_impl : TypingMode → TraitRef → Option ImplRow → Bool
refuses_impl m a None = true
refuses_impl m a (Some r) = refuses_row m a r

-- a trait goal's candidates, by its trait reference
abbrev pub TraitCandidateHolds : TraitRef → Setting → ℕ → Candidate → Type 0
TraitCandidateHolds a S n c = CandidateHolds S (level S n) a.def_id (given a.args) c

abbrev pub TraitCandidateRefuted : TraitRef → Setting → ℕ → Candidate → Type 0
TraitCandidateRefuted a S n c = CandidateRefuted S (level S n) a.def_id (given a.args) c

-- the first of some arguments, if it is a type
abbrev pub first_type : List GenericArg → Option Ty
first_type [] = None
first_type (arg.Ty t ∷ args) = Some t
first_type (arg.Const c ∷ args) = None
first_type (arg.Lifetime r ∷ args) = None

-- a trait with its arguments, as it is asked, without lifetimes
abbrev pub asked_trait : TraitRef → TraitTree
asked_trait a = record { def_id = a.def_id; args = given a.args }

-- another trait reference has a type in place of the self type
abbrev pub IsWithSelf : TraitRef → Tree → TraitRef → Type 0
IsWithSelf a t b = (b.def_id ≡ a.def_id) × (trees_of b.args.items ≡ t ∷ drop 1 (trees_of a.args.items))

-- an error stands in a trait goal
abbrev pub HoldsError : Option TraitTree → Type 0
HoldsError None = ⊥
HoldsError (Some a) = any_error a.args ≡ true

-- a trait with its arguments, as it is seen
abbrev pub seen_trait : TraitView → TraitTree
seen_trait v = record { def_id = v.def_id; args = map erased (trees_of v.args.now) }

-- whether all arguments that a list names are given as they stand, so that they are known
unfoldable pub only_given : List RuleEntry → Bool
only_given [] = true
only_given (entry.Arguments (arguments.Given args) ∷ es) = only_given es
only_given (entry.Arguments (arguments.Header h args) ∷ es) = false
only_given (entry.Arguments (arguments.OtherImpl i j n) ∷ es) = false
only_given (entry.Arguments (arguments.Followed n args) ∷ es) = false
only_given (entry.Equation ts us ∷ es) = only_given es
only_given (entry.Clause g k ∷ es) = only_given es
only_given (entry.RowClauses c n ∷ es) = only_given es
only_given (entry.RowConditions b i n ∷ es) = only_given es
only_given (entry.Term v e ∷ es) = only_given es
only_given (entry.HiddenType v k f ∷ es) = only_given es
only_given (entry.Access a ∷ es) = only_given es
only_given (entry.DelayedFault f ∷ es) = only_given es
only_given (entry.Evaluation ∷ es) = only_given es
only_given (entry.Ambiguous ∷ es) = only_given es
only_given (entry.Undecided ∷ es) = only_given es
only_given (entry.Refused ∷ es) = only_given es

-- the trait alias and the built-in rules, each of which has a function
pub data NamedRule : Type 0 where
  trait_alias : NamedRule
  sizedness : NamedRule
  copy_clone : NamedRule
  fn_ptr_trait : NamedRule
  fn_trait : NamedRule
  tuple : NamedRule
  pointee : NamedRule
  discriminant_kind : NamedRule
  destruct : NamedRule
  field : NamedRule

-- whether the function of a rule is for a lang trait
abbrev pub is_rule_of : NamedRule → Option LangItem → Bool
is_rule_of sizedness (Some lang.Sized) = true
is_rule_of copy_clone (Some lang.Copy) = true
is_rule_of copy_clone (Some lang.Clone) = true
is_rule_of fn_ptr_trait (Some lang.FnPtr) = true
is_rule_of fn_trait (Some lang.Fn) = true
is_rule_of fn_trait (Some lang.FnMut) = true
is_rule_of fn_trait (Some lang.FnOnce) = true
is_rule_of tuple (Some lang.Tuple) = true
is_rule_of pointee (Some lang.Pointee) = true
is_rule_of discriminant_kind (Some lang.DiscriminantKind) = true
is_rule_of destruct (Some lang.Destruct) = true
is_rule_of field (Some lang.Field) = true
is_rule_of _ _ = false

-- whether a row is that of a trait alias
abbrev pub is_alias_row : Option TraitRow → Bool
is_alias_row None = false
is_alias_row (Some r) = r.is_alias

-- whether the function of a rule is for a trait
abbrev pub is_rule_for : Tables → TraitId → NamedRule → Bool
is_rule_for t i trait_alias = is_alias_row (trait_of t i)
is_rule_for t i k = is_rule_of k (lang_of_trait t i)

-- what a function of such a rule answers: it says no more than the candidate does; it isn't for some goals, and else refuses what is refuted with no height
pub record IsNamedAnswer (is_for b : Bool) (S : Setting) (Gives : ℕ → Tree → Type 0) (Refuted : ℕ → Type 0) (r : Result Rule Fault) : Type 0 where
  pub gives : IfOk r (λ x. (n : ℕ) (t : Tree) → RuleSays b S n x t → Gives n t)
  pub refuted : IfOk r (λ x. (n : ℕ) → RuleRefuted S (level S n) x → Refuted n)
  pub not_for : is_for ≡ false → r ≡ Err fault.NotForThisKind
  pub fault : is_for ≡ true → IfErr r (IsRefusal (Refuted 0))
