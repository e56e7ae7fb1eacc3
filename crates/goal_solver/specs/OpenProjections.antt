-- How the goal of a projection with inference variables is answered: by its trait goal, and then by its candidates, group by group.
use Rattle.std.specs.Prelude.{◌≡◌, ◌⊎◌, ℕ, suc, Bool, true, false, ◌&&◌, is_none, is_some, List, [], ◌∷◌, ◌++◌, length, drop, Option, Some, None, Result, Ok, Err}
use Rattle.goal_terms.specs.Erased.{erased}
use Rattle.goal_terms.specs.NodeTests.{general_variable_at}
use Rattle.goal_terms.specs.Tree.{Tree, node_of}
use Rattle.goal_terms.specs.TreeOf.{tree_of_alias, tree_of_term}
use Rattle.goal_terms.specs.declared.answers.Certainty.{Certainty}
use Rattle.goal_terms.specs.declared.answers.Certainty.TheVariants as certainty
use Rattle.goal_terms.specs.declared.answers.Response.{Response}
use Rattle.goal_terms.specs.declared.answers.TraitGoalProvenVia.{TraitGoalProvenVia}
use Rattle.goal_terms.specs.declared.answers.TraitGoalProvenVia.TheVariants as class
use Rattle.goal_terms.specs.declared.modes.TypingMode.{TypingMode}
use Rattle.goal_terms.specs.declared.predicates.Clause.{Clause}
use Rattle.goal_terms.specs.declared.predicates.Goal.{Goal}
use Rattle.goal_terms.specs.declared.predicates.NormalizesTo.{NormalizesTo}
use Rattle.goal_terms.specs.declared.predicates.ProjectionPredicate.{ProjectionPredicate}
use Rattle.goal_terms.specs.declared.predicates.TraitPredicate.{TraitPredicate}
use Rattle.goal_terms.specs.declared.terms.AliasTerm.{AliasTerm}
use Rattle.goal_terms.specs.declared.terms.GenericArg.{GenericArg}
use Rattle.goal_terms.specs.declared.terms.Term.{Term}
use Rattle.goal_tables.specs.Clauses.{lies_in_equation}
use Rattle.goal_tables.specs.declared.rows.Tables.{Tables}
use Rattle.goal_lists.specs.AliasLists.{alias_list}
use Rattle.goal_lists.specs.Answers.{setting_of}
use Rattle.goal_lists.specs.Premises.{TraitTree}
use Rattle.goal_kinds.specs.ProjectionKind.{projected_trait}
use Rattle.goal_lists.specs.ProjectionLists.{equation_list}
use Rattle.goal_lists.specs.Projections.{projected_item}
use Rattle.goal_kinds.specs.RuleLists.{IsListed}
use Rattle.goal_lists.specs.RowWords.{given as given_args}
use Rattle.goal_kinds.specs.RuleWords.{TermsAreFor}
use Rattle.goal_kinds.specs.declared.faults.Fault.{Fault}
use Rattle.goal_kinds.specs.declared.faults.Fault.TheVariants as fault
use Rattle.goal_kinds.specs.declared.rules.Rule.{Rule}
use Rattle.goal_kinds.specs.declared.rules.RuleEntry.{RuleEntry}
use Rattle.goal_kinds.specs.declared.rules.RuleEntry.TheVariants as entry
use Rattle.goal_kinds.specs.KindWords.{alias_words}
use Rattle.goal_kinds.specs.declared.rules.RuleTerm.TheVariants as given
use Rattle.goal_eval.specs.ErasedArgs.{erased_args}
use Rattle.goal_kinds.specs.Collecting.{Kind, kind_of, has_kind_fault, goal_in, CollectsFirst, CollectsLater}
use Rattle.goal_solver.specs.Answers.{IsOwed, level_over, AreClosed, IsTraitAnswer, IsOpen, IsMaybe}
use Rattle.goal_solver.specs.GoingBack.{restored, at_depth}
use Rattle.goal_solver.specs.MergedRules.{MergesRules}
use Rattle.goal_solver.specs.HiddenTypes.{AsksForm, tree_in}
use Rattle.goal_solver.specs.OpenForms.{Answering}
use Rattle.goal_solver.specs.OpenGoals.{AnswersBeside, AsksOpenSelf, Considers, IsFormless, IsLeft, MergesOpenedWith, MergesTraitWith, PassesSelf, TakesSelf, WhenAnswered}
use Rattle.goal_solver.specs.OpenRuns.{RunsOpen}
use Rattle.goal_solver.specs.Refusals.{IsRefusedOpen}
use Rattle.goal_solver.specs.State.{State}
use Rattle.goal_solver.specs.TranslatedArgs.{IsSameEnvironment}
use Rattle.goal_solver.specs.declared.assembly.merged_rules.Merged.{Merged}
use Rattle.goal_solver.specs.declared.assembly.merged_rules.Merged.TheVariants as merged
use Rattle.goal_kinds.specs.declared.assembly.group_rules.GroupRules.{GroupRules}

-- a class, if something is certain
abbrev pub class_if : Certainty → Option TraitGoalProvenVia → Option TraitGoalProvenVia
class_if certainty.Yes c = c
class_if certainty.Maybe c = None

-- the class through which a response says that a trait goal holds
abbrev pub proven_class : Response → Option TraitGoalProvenVia
proven_class r = class_if r.certainty r.proven_via

-- a trait goal is answered, as `compute_trait_goal` does it
pub record AnswersTraitWith (Answers : Answering) (q : Goal TraitPredicate) (old new : State) (r : Result Response Fault) : Type 0 where
  pub sound : (m : TypingMode) → IsOwed new m → AreClosed q.predicate.trait_ref.args.items q.param_env.items →
      IsTraitAnswer (level_over old m q.param_env.items) q.predicate.trait_ref.def_id (erased_args q.predicate.trait_ref.args.items) r
  pub decided : (m : TypingMode) → IsOwed new m → AreClosed q.predicate.trait_ref.args.items q.param_env.items → IsMaybe r →
      IsOpen (level_over old m q.param_env.items) q.predicate.trait_ref.def_id (erased_args q.predicate.trait_ref.args.items)
  pub merges : (n : ℕ) → (AreClosed q.predicate.trait_ref.args.items q.param_env.items → ⊥) → old.remaining_depth ≡ suc n →
      WhenAnswered r (MergesTraitWith Answers q (at_depth n old) r (at_depth n new))
  pub back : new ≡ restored old new

-- a goal asks for the trait of the item that an alias projects, with the alias's first arguments, in the same environment
pub record AsksItsTrait (t : Tables) (g : Goal NormalizesTo) (q : Goal TraitPredicate) : Type 0 where
  pub asked : projected_trait t g.predicate.alias ≡ Some (record { def_id = q.predicate.trait_ref.def_id; args = erased_args q.predicate.trait_ref.args.items })
  pub environment : IsSameEnvironment g.param_env.items q.param_env.items

-- the arguments behind those of a trait; none where there is no trait
abbrev pub args_behind : Option TraitTree → List GenericArg → List GenericArg
args_behind None args = []
args_behind (Some q) args = drop (length q.args) args

-- the own arguments of a projection
abbrev pub own_args : Tables → AliasTerm → List GenericArg
own_args t a = args_behind (projected_trait t a) a.args.items

-- whether a head form is there, and no general variable
abbrev pub is_formed : Option Term → Bool
is_formed None = false
is_formed (Some t) = is_none (general_variable_at (node_of (tree_of_term t)))

-- whether a term has a head form, as it is asked for; there is none to ask for in a lifetime
abbrev pub Forms : List Clause → Option Tree → State → Bool → State → Type 0
Forms env None s b u = (b ≡ true) × (u ≡ s)
Forms env (Some t) s b u = (a : Option Term) × AsksForm env t s u (Ok a) × (b ≡ is_formed a)

-- whether all of some arguments have one, asked in order
unfoldable pub FormsAll : List Clause → List GenericArg → State → Bool → State → Type 0
FormsAll env [] s b u = (b ≡ true) × (u ≡ s)
FormsAll env (x ∷ xs) s b u = (z : State) × (c : Bool) × (d : Bool) × Forms env (tree_in x) s c z × FormsAll env xs z d u × (b ≡ (c && d))

-- it is refuted that a term has one
abbrev pub RefusesForm : List Clause → Option Tree → State → State → Type 0
RefusesForm env o s u = (t : Tree) × (o ≡ Some t) × AsksForm env t s u (Err fault.NoSolution)

-- so it is of one of some arguments, and not of those before it
pub record LacksForm (env : List Clause) (xs : List GenericArg) (old new : State) : Type 0 where
  pub before : List GenericArg
  pub at : GenericArg
  pub behind : List GenericArg
  pub split : xs ≡ before ++ at ∷ behind
  pub last : State
  pub formed : Bool
  pub forms : FormsAll env before old formed last
  pub refused : RefusesForm env (tree_in at) last new

-- a response that is sure is the answer where all own arguments have a head form; else the goal is undecided, or refused where one of them is
abbrev pub WithForms : List Clause → List GenericArg → Response → State → Result Response Fault → State → Type 0
WithForms env own q s r u =
    ((q.certainty ≡ certainty.Maybe) × (r ≡ Ok q) × (u ≡ s))
    ⊎ ((q.certainty ≡ certainty.Yes) × FormsAll env own s true u × (r ≡ Ok q))
    ⊎ ((q.certainty ≡ certainty.Yes) × FormsAll env own s false u × IsMaybe r)
    ⊎ ((q.certainty ≡ certainty.Yes) × LacksForm env own s u × (r ≡ Err fault.NoSolution))

-- the list of the one entry that gives an expected term its alias as it stands
pub record IsRigidList (p : NormalizesTo) (es : List RuleEntry) : Type 0 where
  pub expected : Term
  pub rigid_alias : Term
  pub is : es ≡ entry.Term expected (given.AsItStands rigid_alias) ∷ []
  pub same_term : tree_of_term expected ≡ tree_of_term p.term
  pub same_alias : tree_of_term rigid_alias ≡ tree_of_alias p.alias

-- a list is run, and what comes of it is answered
abbrev pub AnswersRun : List Clause → List RuleEntry → State → Result Response Fault → State → Type 0
AnswersRun env es s (Ok q) u = RunsOpen env es s u q
AnswersRun env es s (Err f) u = IsRefusedOpen env es s u

-- an alias is rigid: its expected term is given the alias as it stands
abbrev pub IsRigid : List Clause → NormalizesTo → State → Result Response Fault → State → Type 0
IsRigid env p s r u = (es : List RuleEntry) × IsRigidList p es × AnswersRun env es s r u

-- what a class is answered whose rules are merged, and aren't all refused, where it gives a term only with the head forms of own arguments
abbrev pub IsGiven : List Clause → List GenericArg → Merged → State → Result Response Fault → State → Type 0
IsGiven env own merged.Refuted s r u = ⊥
IsGiven env own (merged.Answered q) s r u = WithForms env own q s r u
IsGiven env own merged.Split s r u = IsMaybe r × (u ≡ s)

-- the bounds decide, or the alias is rigid
abbrev pub IsGivenByBounds : List Clause → List GenericArg → NormalizesTo → Merged → State → Result Response Fault → State → Type 0
IsGivenByBounds env own p merged.Refuted s r u = IsRigid env p s r u
IsGivenByBounds env own p (merged.Answered q) s r u = WithForms env own q s r u
IsGivenByBounds env own p merged.Split s r u = IsMaybe r × (u ≡ s)

-- the bounds and the rest decide together, or the goal is refused
abbrev pub IsGivenByRest : Merged → State → Result Response Fault → State → Type 0
IsGivenByRest merged.Refuted s r u = (r ≡ Err fault.NoSolution) × (u ≡ s)
IsGivenByRest (merged.Answered q) s r u = (r ≡ Ok q) × (u ≡ s)
IsGivenByRest merged.Split s r u = IsMaybe r × (u ≡ s)

-- the rules of the group after the environment are run and merged, by the class through which the trait goal holds
abbrev pub ByBounds : List Clause → List Rule → List GenericArg → NormalizesTo → State → Result Response Fault → State → Type 0
ByBounds env ls own p s r u = (m : Merged) × (z : State) × MergesRules env ls s m z × IsGivenByBounds env own p m z r u

abbrev pub ByRest : List Clause → List Rule → State → Result Response Fault → State → Type 0
ByRest env ls s r u = (m : Merged) × (z : State) × MergesRules env ls s m z × IsGivenByRest m z r u

abbrev pub ByLater : TraitGoalProvenVia → List Clause → List Rule → List GenericArg → NormalizesTo → State → Result Response Fault → State → Type 0
ByLater class.ParamEnv env ls own p s r u = ByBounds env ls own p s r u
ByLater class.AliasBound env ls own p s r u = ByBounds env ls own p s r u
ByLater class.Misc env ls own p s r u = ByRest env ls s r u

-- the environment's rules decide, or those of the group after it
abbrev pub ByGroups : TraitGoalProvenVia → List Clause → List Rule → List Rule → List GenericArg → NormalizesTo → State → Result Response Fault → State → Type 0
ByGroups c env es ls own p s r u =
    ((m : Merged) × (z : State) × MergesRules env es s m z × IsGiven env own m z r u)
    ⊎ ((z : State) × MergesRules env es s merged.Refuted z × ByLater c env ls own p z r u)

-- the rules of a goal's candidates are collected, group by group, for the goal that is considered in its place
pub record CollectsGroups {P : Type 0} (K : Kind P) (c : TraitGoalProvenVia) (g : Goal P) (s z : State) (w : GroupRules) : Type 0 where
  pub considered : Goal P
  pub considers : Considers K.words.self_type K.words.is_with_self g considered s z
  pub accepted : has_kind_fault K.has_fault s.tables considered ≡ false
  pub environment : w.param_env.items ≡ considered.param_env.items
  pub first : CollectsFirst K (goal_in s.tables considered s.typing_mode) w.environment.items
  pub later : CollectsLater K (goal_in s.tables considered s.typing_mode) c w.later.items

-- there are none where no goal is considered
abbrev pub ConsidersGroups : {P : Type 0} → Kind P → TraitGoalProvenVia → Goal P → State → Option GroupRules → State → Type 0
ConsidersGroups K c g s None z = IsLeft K.words.self_type K.words.is_with_self (has_kind_fault K.has_fault s.tables) g s z
ConsidersGroups K c g s (Some w) z = CollectsGroups K c g s z w

-- the same for a head form of its self type that was opened
pub record GroupsForSelf {P : Type 0} (K : Kind P) (t : Tables) (m : TypingMode) (c : TraitGoalProvenVia) (g : Goal P) (a : Option Term) (w : GroupRules) : Type 0 where
  pub considered : Goal P
  pub takes : TakesSelf K.words.is_with_self g considered a
  pub accepted : has_kind_fault K.has_fault t considered ≡ false
  pub environment : w.param_env.items ≡ considered.param_env.items
  pub first : CollectsFirst K (goal_in t considered m) w.environment.items
  pub later : CollectsLater K (goal_in t considered m) c w.later.items

-- by its groups, for what is answered for the head form of its self type; a refused form refuses, and without candidates there is no answer
abbrev pub ByFormedGroups : {P : Type 0} → Kind P → NormalizesTo → TraitGoalProvenVia → Goal P → Result (Option Term) Fault → State → Result (Option Response) Fault → State → Type 0
ByFormedGroups K p c g (Err f) z r u = (r ≡ Err f) × (u ≡ z)
ByFormedGroups K p c g (Ok a) z r u =
    (PassesSelf K.words.is_with_self (has_kind_fault K.has_fault z.tables) g a × (r ≡ Ok None) × (u ≡ z))
    ⊎ ((w : GroupRules)
    × (q : Result Response Fault)
    × (y : State)
    × GroupsForSelf K z.tables z.typing_mode c g a w
    × ByGroups c w.param_env.items w.environment.items w.later.items (own_args z.tables p.alias) p z q y
    × AnswersBeside y q r u)

-- a projection whose trait goal holds through a class is answered by its candidates: undecided where it isn't considered, refused where it is refuted that its self type has a head form, and else by its groups
abbrev pub MergesThroughWith : {P : Type 0} → Answering → Kind P → NormalizesTo → TraitGoalProvenVia → Goal P → State → Result Response Fault → State → Type 0
MergesThroughWith {P} Answers K p c g s r u =
    ((z : State) × IsLeft K.words.self_type K.words.is_with_self (has_kind_fault K.has_fault s.tables) g s z × (AsksOpenSelf K.words.self_type g z → ⊥) × (u ≡ restored z u) × IsMaybe r)
    ⊎ (IsFormless K.words.self_type g s u × (r ≡ Err fault.NoSolution))
    ⊎ ((w : GroupRules)
    × (z : State)
    × CollectsGroups K c g s z w
    × ByGroups c w.param_env.items w.environment.items w.later.items (own_args s.tables p.alias) p z r u)
    ⊎ ((z : State) × (z ≡ restored s z) × MergesOpenedWith Answers K.words.self_type (ByFormedGroups K p c g) g z r u)

-- goals of the terms of aliases, as a kind of goals
abbrev pub alias_kind : Kind NormalizesTo
alias_kind = kind_of alias_words (λ p t f. lies_in_equation t [] f p.alias p.term)

-- by the class of the trait goal's answer, if it is sure; else the goal is undecided
abbrev pub ByClassWith : Answering → Option TraitGoalProvenVia → Goal NormalizesTo → State → Result Response Fault → State → Type 0
ByClassWith Answers None g s r u = IsMaybe r × (u ≡ s)
ByClassWith Answers (Some c) g s r u = MergesThroughWith Answers alias_kind g.predicate c g s r u

-- by the trait goal's answer; its refusal is the answer
abbrev pub ByTraitWith : Answering → Result Response Fault → Goal NormalizesTo → State → Result Response Fault → State → Type 0
ByTraitWith Answers (Ok a) g s r u = ByClassWith Answers (proven_class a) g s r u
ByTraitWith Answers (Err f) g s r u = (r ≡ Err f) × (u ≡ s)

-- a rule's list is that of an alias which is no projection, and gives its terms to the one that a goal expects
pub record IsAliasRule (t : Tables) (m : TypingMode) (g : Goal NormalizesTo) (rule : Rule) : Type 0 where
  pub list : IsListed t rule (Some (alias_list (setting_of t m g.param_env.items) g.predicate.alias.kind (given_args g.predicate.alias.args)))
  pub expected : TermsAreFor (λ x. x ≡ tree_of_term g.predicate.term) rule.entries.items

-- it is run, and what comes of it is answered; a projection has none
abbrev pub RunsAlias : Goal NormalizesTo → State → Result Response Fault → State → Type 0
RunsAlias g s r u =
    ((is_some (projected_item g.predicate.alias.kind) ≡ true) × IsMaybe r × (u ≡ s))
    ⊎ ((rule : Rule) × IsAliasRule s.tables s.typing_mode g rule × AnswersRun g.param_env.items rule.entries.items s r u)

-- so is the list of a goal that an alias and a term are equal
abbrev pub RunsEquation : Goal ProjectionPredicate → State → Result Response Fault → State → Type 0
RunsEquation g s r u =
    (rule : Rule)
    × IsListed s.tables rule (Some (equation_list (erased (tree_of_alias g.predicate.projection_term)) (erased (tree_of_term g.predicate.term))))
    × AnswersRun g.param_env.items rule.entries.items s r u

-- the goal of a projection's term is answered: by the trait goal, in which a self type is opened at one less of the depth, and then by its candidates. That of another alias is answered by its list
abbrev pub MergesProjectionWith : Answering → Answering → Goal NormalizesTo → State → Result Response Fault → State → Type 0
MergesProjectionWith Answers Less g s r u =
    ((projected_trait s.tables g.predicate.alias ≡ None) × RunsAlias g s r u)
    ⊎ ((q : Goal TraitPredicate) × (a : Result Response Fault) × (z : State) × AsksItsTrait s.tables g q × AnswersTraitWith Less q s z a × ByTraitWith Answers a g z r u)

-- what the rules of the groups of an alias's candidates make of its goal
abbrev pub ByGroupsOf : TraitGoalProvenVia → GroupRules → NormalizesTo → State → Result Response Fault → State → Type 0
ByGroupsOf c w p s r u = ByGroups c w.param_env.items w.environment.items w.later.items (own_args s.tables p.alias) p s r u

abbrev pub ByLaterOf : TraitGoalProvenVia → GroupRules → NormalizesTo → State → Result Response Fault → State → Type 0
ByLaterOf c w p s r u = ByLater c w.param_env.items w.later.items (own_args s.tables p.alias) p s r u
