-- Words on what the laws say.
use Rattle.std.specs.Prelude.{◌≡◌, ◌≤◌, ℕ, false, true, List, [], map, take, Some, Vec}
use Rattle.std.specs.Global.{Global}
use Rattle.goal_terms.specs.Erased.{erased}
use Rattle.goal_terms.specs.NodeTests.{some_node, is_any_infer}
use Rattle.goal_terms.specs.PredicateTrees.{PredicateTree}
use Rattle.goal_terms.specs.Sorts.{sort_of}
use Rattle.goal_terms.specs.Tree.{Tree, alias, forest, node_of}
use Rattle.goal_terms.specs.TreeOf.{trees_of, tree_of_arg, tree_of_alias}
use Rattle.goal_terms.specs.declared.answers.ParamKind.{ParamKind}
use Rattle.goal_terms.specs.declared.answers.TraitGoalProvenVia.{TraitGoalProvenVia}
use Rattle.goal_terms.specs.declared.heads.Head.{Head}
use Rattle.goal_terms.specs.declared.heads.Node.TheVariants as nodes
use Rattle.goal_terms.specs.declared.heads.Variable.{Variable}
use Rattle.goal_terms.specs.declared.ids.ImplId.{ImplId}
use Rattle.goal_terms.specs.declared.ids.TraitId.{TraitId}
use Rattle.goal_terms.specs.declared.modes.TypingMode.{TypingMode}
use Rattle.goal_terms.specs.declared.predicates.BoundConstness.{BoundConstness}
use Rattle.goal_terms.specs.declared.predicates.Clause.{Clause}
use Rattle.goal_terms.specs.declared.predicates.ClauseKind.{ClauseKind}
use Rattle.goal_terms.specs.declared.terms.AliasTerm.{AliasTerm}
use Rattle.goal_terms.specs.declared.terms.AliasTermKind.{AliasTermKind}
use Rattle.goal_terms.specs.declared.terms.GenericArg.{GenericArg}
use Rattle.goal_terms.specs.declared.terms.Term.{Term}
use Rattle.goal_tables.specs.Clauses.{lies_in_equation}
use Rattle.goal_tables.specs.Faults.{IsChecked}
use Rattle.goal_tables.specs.Predicates.{some_in_env}
use Rattle.goal_tables.specs.Rows.{impl_of}
use Rattle.goal_tables.specs.declared.rows.ImplRow.{ImplRow}
use Rattle.goal_tables.specs.declared.rows.Tables.{Tables}
use Rattle.goal_lists.specs.Answers.{Question, Answer, IsAnswer, decides, setting_of}
use Rattle.goal_kinds.specs.CandidateRules.{HasNoKindFault, said_by}
use Rattle.goal_lists.specs.Candidates.{Candidate}
use Rattle.goal_lists.specs.ConstGoals.{ConstCandidateRefuted}
use Rattle.goal_lists.specs.FastReject.{lists_may_unify, heads_agree}
use Rattle.goal_lists.specs.Fitting.{may_fit}
use Rattle.goal_lists.specs.Headers.{Fits, Clashes}
use Rattle.goal_lists.specs.ImplTerms.{Projection, ImplTermRefuted, trait_args}
use Rattle.goal_lists.specs.KindedTerms.{kinds_of_terms, IsKinded, IsAcceptedRef, NoKindFault, NoKindFaultInEnv}
use Rattle.goal_lists.specs.Laws.{IsAmong, HaveSameImpls, ReadsNoMode}
use Rattle.goal_lists.specs.Level.{Level}
use Rattle.goal_lists.specs.Levels.{level}
use Rattle.goal_kinds.specs.ProjectionKind.{ProjectionCandidateRefuted, may_match_term}
use Rattle.goal_lists.specs.Projections.{TermRefuted}
use Rattle.goal_lists.specs.Replacement.{with_values, with_arguments, AreOfTheirKinds, AliasesKeepKinds}
use Rattle.goal_kinds.specs.RuleWords.{projection_in}
use Rattle.goal_lists.specs.Settings.{Setting, is_headline}
use Rattle.goal_lists.specs.Words.{Each, Pairs}
use Rattle.goal_lists.specs.declared.fast_reject.Parameters.{Parameters}
use Rattle.goal_lists.specs.declared.fast_reject.Parameters.TheVariants.{Rigid, Inferred}

-- what is so at a height is so at a greater one
abbrev pub HeightKeeps : ℕ → ℕ → (ℕ → Type 0) → Type 0
HeightKeeps n m P = n ≤ m → P n → P m

-- answers of two levels that decide a question are the same
abbrev pub AnswersAgree : Level → Level → Question → Type 0
AnswersAgree L M q = (a b : Answer) → decides a ≡ true → decides b ≡ true → IsAnswer L q a → IsAnswer M q b → a ≡ b

-- a trait goal that holds through two classes, at two levels, holds through one
abbrev pub ClassesAgree : Level → Level → TraitGoalProvenVia → TraitGoalProvenVia → Type 0
ClassesAgree L M c d = (i : TraitId) (ts : List Tree) → L.through c i ts → M.through d i ts → c ≡ d

-- a header fits arguments under one substitution at most, whatever the two levels
abbrev pub FitsUnderOne : Level → Level → List ParamKind → List Tree → List Tree → Type 0
FitsUnderOne L M params hs gs = (s z : List Tree) → Fits L params hs gs s → Fits M params hs gs z → s ≡ z

-- a header that fits some arguments at one level doesn't clash with them at another
abbrev pub NoFitClashes : Level → Level → List ParamKind → List Tree → Type 0
NoFitClashes L M params hs = (gs s : List Tree) → Fits L params hs gs s → Clashes M params hs gs → ⊥

-- a trait goal holds through some class
abbrev pub HoldsThroughSome : Level → TraitId → List Tree → Type 0
HoldsThroughSome L i ts = (v : TraitGoalProvenVia) × L.through v i ts

-- where a trait holds as a const trait, its plain goal holds
abbrev pub ConstImpliesPlain : Level → BoundConstness → TraitId → List Tree → Type 0
ConstImpliesPlain L c i ts = L.const_holds c i ts → HoldsThroughSome L i ts

-- what is asked over tables in a mode with an environment
abbrev pub over : Tables → TypingMode → List PredicateTree → Setting
over t m env = record { tables = t; mode = m; env = env }

-- each answer of one setting is one of another setting
abbrev pub IsAnswerOfBoth : Setting → Setting → ℕ → Question → Answer → Type 0
IsAnswerOfBoth S R n q a = IsAnswer (level S n) q a → IsAnswer (level R n) q a

-- if tables are accepted, and also with the same impls in another order, then each answer over the first is one over the second
abbrev pub OrderSaysNothing : Tables → Vec ImplRow Global → TypingMode → List PredicateTree → Type 0
OrderSaysNothing t v m env =
    (n : ℕ) (q : Question) (a : Answer)
    → IsChecked t → IsChecked (record t { impls = v }) → HaveSameImpls t.impls.items v.items
    → IsAnswerOfBoth (over t m env) (over (record t { impls = v }) m env) n q a

-- if tables have no opaque types and default sources, each answer in a headline mode is one in another
abbrev pub HeadlinesAgree : Tables → TypingMode → TypingMode → List PredicateTree → Type 0
HeadlinesAgree t m k env =
    (n : ℕ) (q : Question) (a : Answer)
    → ReadsNoMode t → is_headline m ≡ true → is_headline k ≡ true → IsAnswerOfBoth (over t m env) (over t k env) n q a

-- if tables are accepted and an environment holds no inference variables, an alias that holds none has only terms that hold none
abbrev pub AliasesStayClosed : Tables → TypingMode → List Clause → Type 0
AliasesStayClosed t m clauses =
    (n : ℕ) (k : AliasTermKind) (ts : List Tree) (u : Tree)
    → IsChecked t → some_in_env is_any_infer clauses ≡ false → some_node is_any_infer (alias k (forest ts)) ≡ false
    → (level (setting_of t m clauses) n).gives k ts u → some_node is_any_infer u ≡ false

-- if tables are accepted and no fault of kinds lies in an alias and an environment, the alias has only terms of its sort
abbrev pub AliasesKeepSorts : Tables → TypingMode → List Clause → Type 0
AliasesKeepSorts t m clauses =
    (n : ℕ) (a : AliasTerm) (u : Tree)
    → IsChecked t → NoKindFault t [] (tree_of_alias a) → NoKindFaultInEnv t clauses
    → (level (setting_of t m clauses) n).gives a.kind (map erased (map tree_of_arg a.args.items)) u
    → sort_of (node_of u) ≡ sort_of (nodes.Alias a.kind)

-- two lists aren't equal at a level with terms in place of their inference variables
abbrev pub Apart : Level → (Variable → Tree) → List Tree → List Tree → Type 0
Apart L values ts us = Pairs L.equal (map (with_values values) ts) (map (with_values values) us) → ⊥

-- nor with arguments in place of the right list's parameters, too
abbrev pub ApartUnder : Level → (Variable → Tree) → List Tree → List Tree → List Tree → Type 0
ApartUnder L values args ts us = Pairs L.equal (map (with_values values) ts) (map (with_arguments values args) us) → ⊥

-- two lists that may not become the same are apart
abbrev pub RejectionIsFinal : Level → (Variable → Tree) → List Tree → List Tree → Type 0
RejectionIsFinal L values ts us = lists_may_unify Rigid ts us ≡ false → Apart L values ts us

-- also with arguments for inferred parameters
abbrev pub RejectionIsFinalUnder : Level → (Variable → Tree) → List Tree → List Tree → List Tree → Type 0
RejectionIsFinalUnder L values args ts us = lists_may_unify Inferred ts us ≡ false → ApartUnder L values args ts us

-- two lists of which some heads differ are apart
abbrev pub OtherHeadsAreFinal : Level → (Variable → Tree) → List Tree → List Tree → Type 0
OtherHeadsAreFinal L values ts us = heads_agree Rigid ts us ≡ false → Apart L values ts us

-- also with arguments for inferred parameters
abbrev pub OtherHeadsAreFinalUnder : Level → (Variable → Tree) → List Tree → List Tree → List Tree → Type 0
OtherHeadsAreFinalUnder L values args ts us = heads_agree Inferred ts us ≡ false → ApartUnder L values args ts us

-- a header of which some heads differ from those of given arguments clashes with them
abbrev pub OtherHeadsClash : Level → List ParamKind → List Tree → List Tree → Type 0
OtherHeadsClash L params gs hs = heads_agree Inferred gs hs ≡ false → Clashes L params (map erased hs) (map erased gs)

-- a claim, if no alias has a term of another kind, and the term in place of each variable is of its kind
abbrev pub IfKindsStay : Setting → (Variable → Tree) → Type 0 → Type 0
IfKindsStay S values A = AliasesKeepKinds S → AreOfTheirKinds values → A

-- a candidate may not fit given arguments
abbrev pub IsUnfit : List Tree → Candidate → Type 0
IsUnfit args x = may_fit args x ≡ false

-- a claim refutes each candidate that may not fit given arguments
abbrev pub RefutesUnfit : List Tree → (Candidate → Type 0) → Type 0
RefutesUnfit args Refuted = (x : Candidate) → IsUnfit args x → Refuted x

-- so it is of a trait as a const trait
abbrev pub UnfitConstRefuted : Setting → Level → BoundConstness → TraitId → List Tree → Type 0
UnfitConstRefuted S L c i args = RefutesUnfit args (ConstCandidateRefuted S L c i (map erased args))

-- and of the term of a projection whose trait has the arguments
abbrev pub UnfitTermRefuted : Setting → Level → Projection → List Tree → Type 0
UnfitTermRefuted S L p args = (x : Candidate) → map erased args ≡ trait_args p → IsUnfit args x → TermRefuted S L p x

-- two lists may become the same just where their heads agree
abbrev pub HeadsDecide : Parameters → List Tree → List Tree → Type 0
HeadsDecide p ts us = lists_may_unify p ts us ≡ heads_agree p ts us

-- two lists are of the same kinds, in pairs
abbrev pub HaveSameKinds : List Tree → List Tree → Type 0
HaveSameKinds ts us = kinds_of_terms ts ≡ kinds_of_terms us

-- in each term of a list the constructors take parts of given kinds
abbrev pub AreKinded : (Head → List ParamKind) → List Tree → Type 0
AreKinded kinds ts = Each (IsKinded kinds) ts

-- a claim, if in the terms of two lists, which are of the same kinds, they do
abbrev pub IfKinded : (Head → List ParamKind) → List Tree → List Tree → Type 0 → Type 0
IfKinded kinds ts us A = AreKinded kinds ts → AreKinded kinds us → HaveSameKinds ts us → A

-- for all pairs of arguments of a trait that the checks accept
abbrev pub ForAccepted : Tables → TraitId → List ParamKind → List ParamKind → (List Tree → List Tree → Type 0) → Type 0
ForAccepted t i ps qs P =
    (left right : List GenericArg) → IsChecked t → IsAcceptedRef t ps i left → IsAcceptedRef t qs i right → P (trees_of left) (trees_of right)

-- for all traits, too
abbrev pub ForAllAccepted : Tables → (List Tree → List Tree → Type 0) → Type 0
ForAllAccepted t P = (i : TraitId) (ps qs : List ParamKind) → ForAccepted t i ps qs P

-- the header of an impl is rejected for given arguments
abbrev pub RejectsHeader : ImplRow → List GenericArg → Type 0
RejectsHeader r args = lists_may_unify Inferred (trees_of args) (trees_of r.trait_args.items) ≡ false

-- a header that is rejected for accepted arguments clashes with them at the lowest height
abbrev pub RejectedHeaderClashes : Setting → ImplRow → List ParamKind → List GenericArg → Type 0
RejectedHeaderClashes S r ps args =
    IsAmong r S.tables.impls.items → IsAcceptedRef S.tables ps r.trait_id args → RejectsHeader r args
    → Clashes (level S 0) r.params.items (map erased (trees_of r.trait_args.items)) (map erased (trees_of args))

-- a claim, if the tables and a projection goal are accepted
abbrev pub IfAccepted : AliasTerm → Term → Tables → Type 0 → Type 0
IfAccepted a e t A = IsChecked t → HasNoKindFault (λ f. lies_in_equation t [] f a e) → A

-- a clause that is rejected gives a projection no term, with no height
abbrev pub RejectedIsRefuted : AliasTerm → Setting → ClauseKind → Type 0
RejectedIsRefuted a S k = may_match_term a k ≡ false → ProjectionCandidateRefuted a S 0 (said_by k)

-- an impl of a projection's trait whose header is rejected gives it no term, with no height
abbrev pub RejectedImplIsRefuted : AliasTerm → Setting → Projection → ImplId → ImplRow → Type 0
RejectedImplIsRefuted a S p i r =
    projection_in S.tables a ≡ Some p → impl_of S.tables i ≡ Some r → r.trait_id ≡ p.item.trait_id
    → lists_may_unify Inferred (trees_of (take p.trait_params a.args.items)) (trees_of r.trait_args.items) ≡ false
    → ImplTermRefuted S (level S 0) p r
