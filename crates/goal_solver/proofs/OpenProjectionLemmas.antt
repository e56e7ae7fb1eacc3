-- Projections with inference variables.
use Rattle.std.proofs.Common.{◌≡◌, ℕ, ◌+◌, ◌<◌, Bool, true, false, ◌&&◌, List, [], ◌∷◌, ◌++◌, length, take, drop, get_or, Option, Some, None, Result, Ok, Err, inl, inr, refl, sym, ap, ◌∙◌, subst, append_assoc}
use Rattle.std.specs.Prelude.{IfOk, MatchOption, is_some, if◌then◌else◌}
use Rattle.std.proofs.lemmas.List.{take-append-drop}
use Rattle.goal_terms.specs.Erased.{erased}
use Rattle.goal_terms.specs.TreeOf.{tree_of_alias, tree_of_term}
use Rattle.goal_terms.specs.declared.answers.Certainty as certainties
use Rattle.goal_terms.specs.declared.answers.Certainty.TheVariants as certainty
use Rattle.goal_terms.specs.declared.answers.Response.{Response}
use Rattle.goal_terms.specs.declared.answers.TraitGoalProvenVia.{TraitGoalProvenVia}
use Rattle.goal_terms.specs.declared.predicates.Clause.{Clause}
use Rattle.goal_terms.specs.declared.predicates.Goal.{Goal}
use Rattle.goal_terms.specs.declared.predicates.NormalizesTo.{NormalizesTo}
use Rattle.goal_terms.specs.declared.predicates.ProjectionPredicate.{ProjectionPredicate}
use Rattle.goal_terms.specs.declared.predicates.TraitPredicate.{TraitPredicate}
use Rattle.goal_terms.specs.declared.terms.GenericArg.{GenericArg}
use Rattle.goal_kinds.specs.ProjectionKind.{projected_trait}
use Rattle.goal_lists.specs.ProjectionLists.{equation_list}
use Rattle.goal_lists.specs.Projections.{projected_item}
use Rattle.goal_kinds.specs.RuleLists.{IsListed}
use Rattle.goal_kinds.specs.declared.faults.Fault.{Fault}
use Rattle.goal_kinds.specs.declared.faults.Fault.TheVariants as fault
use Rattle.goal_kinds.specs.declared.rules.Rule.{Rule}
use Rattle.goal_kinds.specs.declared.rules.RuleEntry.{RuleEntry}
use Rattle.goal_infer.specs.Resolution.{IsSolved}
use Rattle.goal_solver.specs.Binding.{IsApplicable}
use Rattle.goal_solver.specs.GoingBack.{GoesBack, restored, at_depth}
use Rattle.goal_kinds.specs.Collecting.{Kind, has_kind_fault, goal_in, CollectsFirst, CollectsLater}
use Rattle.goal_solver.specs.MergedRules.{MergesRules}
use Rattle.goal_solver.specs.HiddenTypes.{tree_in}
use Rattle.goal_solver.specs.OpenAnswers.{AnswersTrait, answers_at, less, MergesProjection, MergesThrough}
use Rattle.goal_solver.specs.OpenGoals.{FormsGoal, MergesTraitWith, WhenAnswered}
use Rattle.goal_solver.specs.OpenProjections.{Forms, FormsAll, RefusesForm, LacksForm, WithForms, IsRigid, own_args, proven_class, CollectsGroups, ConsidersGroups, ByBounds, ByRest, ByLater, ByGroups, alias_kind, AnswersTraitWith, ByClassWith, MergesThroughWith, IsAliasRule, RunsAlias, RunsEquation, AsksItsTrait}
use Rattle.goal_solver.specs.OpenRuns.{RunsOpen}
use Rattle.goal_solver.specs.Refusals.{WhenRefused, IsRefusedOpen}
use Rattle.goal_solver.specs.State.{State}
use Rattle.goal_solver.specs.declared.assembly.merged_rules.Merged.{Merged}
use Rattle.goal_solver.specs.declared.assembly.merged_rules.Merged.TheVariants as merged
use Rattle.goal_kinds.specs.declared.assembly.group_rules.GroupRules.{GroupRules}
use Rattle.goal_solver.proofs.LaterLemmas.{applies-later}
use Rattle.goal_solver.proofs.OpenClassLemmas.{when-refused}
use Rattle.goal_kinds.proofs.ClassRuleLemmas.{take-more}

-- what a call left as it was, and then another one, is as it was
pub restored-through : (s z u : State) → z ≡ restored s z → u ≡ restored z u → u ≡ restored s u
restored-through s z u e f = f ∙ ap (λ (x : State). restored x u) e

-- of want of memory nothing is claimed
pub memory-unsaid : (A : Type 0) (f : Fault) → f ≡ fault.OutOfMemory → WhenAnswered (Err f) A
memory-unsaid A f e = subst (λ x. WhenAnswered (Err x) A) (sym e) tt

-- no argument is asked for
pub forms-none : (env : List Clause) (s : State) → FormsAll env [] s true s
unfolding FormsAll
forms-none env s = (refl, refl)

and-assoc : (a b c : Bool) → (a && b) && c ≡ a && (b && c)
and-assoc true b c = refl
and-assoc false b c = refl

and-true : (a : Bool) → a ≡ a && true
and-true true = refl
and-true false = refl

-- one more argument is
pub forms-last : (env : List Clause) (xs : List GenericArg) (x : GenericArg) (s z u : State) (a b : Bool) →
    FormsAll env xs s a z → Forms env (tree_in x) z b u → FormsAll env (xs ++ x ∷ []) s (a && b) u
unfolding FormsAll
forms-last env [] x s z u a b h k =
    (u, b, true, subst (λ (y : State). Forms env (tree_in x) y b u) h.1 k, (refl, refl), ap (λ c. c && b) h.0 ∙ and-true b)
forms-last env (y ∷ xs) x s z u a b h k =
    (h.0, h.1, h.2 && b, h.3, forms-last env xs x h.0 z u h.2 b h.4 k, ap (λ c. c && b) h.5 ∙ and-assoc h.1 h.2 b)

pub forms-next : (env : List Clause) (xs : List GenericArg) (i : ℕ) (x : GenericArg) (s z u : State) (a b : Bool) →
    i < length xs → x ≡ get_or xs i x → FormsAll env (take i xs) s a z → Forms env (tree_in x) z b u → FormsAll env (take (i + 1) xs) s (a && b) u
forms-next env xs i x s z u a b l at h k =
    subst (λ ys. FormsAll env ys s (a && b) u) (sym (take-more xs i x l ∙ ap (λ y. take i xs ++ y ∷ []) (sym at)))
    (forms-last env (take i xs) x s z u a b h k)

-- or it is refused
pub lacks-at : (env : List Clause) (xs : List GenericArg) (i : ℕ) (x : GenericArg) (s z u : State) (a : Bool) →
    i < length xs → x ≡ get_or xs i x → FormsAll env (take i xs) s a z → RefusesForm env (tree_in x) z u → LacksForm env xs s u
lacks-at env xs i x s z u a l at h k = record {
  before = take i xs;
  at = x;
  behind = drop (i + 1) xs;
  split = sym (take-append-drop (i + 1) xs) ∙ ap (λ ys. ys ++ drop (i + 1) xs) (take-more xs i x l ∙ ap (λ y. take i xs ++ y ∷ []) (sym at)) ∙ append_assoc (take i xs) (x ∷ []) (drop (i + 1) xs);
  last = z;
  formed = a;
  forms = h;
  refused = k;
}

-- the response of a group is the answer, or not, by the head forms of own arguments
pub not-maybe : (x : certainties.Certainty) → (x ≡ certainty.Maybe → ⊥) → x ≡ certainty.Yes
not-maybe certainty.Yes h = refl
not-maybe certainty.Maybe h = absurd (h refl)

-- what can be applied still can after a call that left things as they were
pub applies-through : (s z : State) (q : Response) → z ≡ restored s z → GoesBack s z → IsSolved s.terms s.inference → IsApplicable s q → IsApplicable z q
applies-through s z q e goes solved h =
    applies-later s z q (ap (λ (x : State). x.inference) e) (ap (λ (x : State). x.storage) e) goes.terms solved h

-- what is claimed of an answer claims what follows from it
pub when-map : (A B : Type 0) (r : Result Response Fault) → (A → B) → WhenAnswered r A → WhenAnswered r B
when-map A B (Ok x) f h = f h
when-map A B (Err fault.NoSolution) f h = f h
when-map A B (Err fault.RerunNonErased) f h = tt
when-map A B (Err fault.OutOfMemory) f h = tt
when-map A B (Err fault.NotForThisKind) f h = tt

tables-kept : (s z : State) → z ≡ restored s z → z.tables ≡ s.tables
tables-kept s z e = ap (λ (x : State). x.tables) e

-- the rules of a group are run and merged, by what is read of them
pub rules-merged : (env es : List Clause) (rules qs : List Rule) (s u : State) (m n : Merged) → es ≡ env → qs ≡ rules → m ≡ n → MergesRules es qs s m u → MergesRules env rules s n u
rules-merged env es rules qs s u m n e f is merges =
    subst (λ x. MergesRules env rules s x u) is (subst (λ xs. MergesRules env xs s m u) f (subst (λ xs. MergesRules xs qs s m u) e merges))

-- the environment answers
pub environment-answers : (c : TraitGoalProvenVia) (env : List Clause) (es ls : List Rule) (p : NormalizesTo) (s z u : State) (q : Response) (r : Result Response Fault) → z ≡ restored s z →
    MergesRules env es s (merged.Answered q) z → WhenAnswered r (WithForms env (own_args z.tables p.alias) q z r u) → WhenAnswered r (ByGroups c env es ls (own_args s.tables p.alias) p s r u)
environment-answers c env es ls p s z u q r e m h =
    when-map (WithForms env (own_args z.tables p.alias) q z r u) (ByGroups c env es ls (own_args s.tables p.alias) p s r u) r
    (λ k. inl (merged.Answered q, z, m, subst (λ t. WithForms env (own_args t p.alias) q z r u) (tables-kept s z e) k)) h

pub environment-splits : (c : TraitGoalProvenVia) (env : List Clause) (es ls : List Rule) (own : List GenericArg) (p : NormalizesTo) (s z : State) (r : Response) →
    MergesRules env es s merged.Split z → r.certainty ≡ certainty.Maybe → ByGroups c env es ls own p s (Ok r) z
environment-splits c env es ls own p s z r m h = inl (merged.Split, z, m, (h, refl))

-- or the groups after it
pub later-answers : (c : TraitGoalProvenVia) (env : List Clause) (es ls : List Rule) (p : NormalizesTo) (s z u : State) (r : Result Response Fault) → z ≡ restored s z →
    MergesRules env es s merged.Refuted z → WhenAnswered r (ByLater c env ls (own_args z.tables p.alias) p z r u) → WhenAnswered r (ByGroups c env es ls (own_args s.tables p.alias) p s r u)
later-answers c env es ls p s z u r e m h =
    when-map (ByLater c env ls (own_args z.tables p.alias) p z r u) (ByGroups c env es ls (own_args s.tables p.alias) p s r u) r
    (λ k. inr (z, m, subst (λ t. ByLater c env ls (own_args t p.alias) p z r u) (tables-kept s z e) k)) h

-- the bounds answer
pub bounds-answer : (env : List Clause) (ls : List Rule) (p : NormalizesTo) (s z u : State) (q : Response) (r : Result Response Fault) → z ≡ restored s z →
    MergesRules env ls s (merged.Answered q) z → WhenAnswered r (WithForms env (own_args z.tables p.alias) q z r u) → WhenAnswered r (ByBounds env ls (own_args s.tables p.alias) p s r u)
bounds-answer env ls p s z u q r e m h =
    when-map (WithForms env (own_args z.tables p.alias) q z r u) (ByBounds env ls (own_args s.tables p.alias) p s r u) r
    (λ k. (merged.Answered q, z, m, subst (λ t. WithForms env (own_args t p.alias) q z r u) (tables-kept s z e) k)) h

pub bounds-split : (env : List Clause) (ls : List Rule) (own : List GenericArg) (p : NormalizesTo) (s z : State) (r : Response) →
    MergesRules env ls s merged.Split z → r.certainty ≡ certainty.Maybe → ByBounds env ls own p s (Ok r) z
bounds-split env ls own p s z r m h = (merged.Split, z, m, (h, refl))

-- or the alias is rigid
pub bounds-rigid : (env : List Clause) (ls : List Rule) (own : List GenericArg) (p : NormalizesTo) (s z u : State) (r : Result Response Fault) →
    MergesRules env ls s merged.Refuted z → WhenAnswered r (IsRigid env p z r u) → WhenAnswered r (ByBounds env ls own p s r u)
bounds-rigid env ls own p s z u r m h = when-map (IsRigid env p z r u) (ByBounds env ls own p s r u) r (λ k. (merged.Refuted, z, m, k)) h

-- the bounds and the rest answer
pub rest-answers : (env : List Clause) (ls : List Rule) (s z : State) (q : Response) → MergesRules env ls s (merged.Answered q) z → ByRest env ls s (Ok q) z
rest-answers env ls s z q m = (merged.Answered q, z, m, (refl, refl))

pub rest-splits : (env : List Clause) (ls : List Rule) (s z : State) (r : Response) → MergesRules env ls s merged.Split z → r.certainty ≡ certainty.Maybe → ByRest env ls s (Ok r) z
rest-splits env ls s z r m h = (merged.Split, z, m, (h, refl))

pub rest-refuses : (env : List Clause) (ls : List Rule) (s z : State) (r : Result Response Fault) → MergesRules env ls s merged.Refuted z → r ≡ Err fault.NoSolution → ByRest env ls s r z
rest-refuses env ls s z r m h = (merged.Refuted, z, m, (h, refl))

-- the rules of the groups of a goal that is considered are collected
pub collects-groups : {P : Type 0} (K : Kind P) (c : TraitGoalProvenVia) (g h : Goal P) (s x z : State) (w : GroupRules) (o : Option (Goal P)) →
    FormsGoal K.words.self_type K.words.is_with_self (has_kind_fault K.has_fault s.tables) g s z o → o ≡ Some h → x ≡ z → z ≡ restored s z → w.param_env.items ≡ h.param_env.items →
    CollectsFirst K (goal_in x.tables h x.typing_mode) w.environment.items → CollectsLater K (goal_in x.tables h x.typing_mode) c w.later.items →
    CollectsGroups K c g s z w
collects-groups K c g h s x z w o forms is same back env first later =
    let f = subst (λ y. FormsGoal K.words.self_type K.words.is_with_self (has_kind_fault K.has_fault s.tables) g s z y) is forms in
    record {
      considered = h;
      considers = f.0;
      accepted = f.1;
      environment = env;
      first = subst (λ (y : State). CollectsFirst K (goal_in y.tables h y.typing_mode) w.environment.items) (same ∙ back) first;
      later = subst (λ (y : State). CollectsLater K (goal_in y.tables h y.typing_mode) c w.later.items) (same ∙ back) later;
    }

-- by its groups, where rules are collected for it
pub through-groups : {P : Type 0} (K : Kind P) (p : NormalizesTo) (c : TraitGoalProvenVia) (g : Goal P) (s z u : State) (r : Result Response Fault) (o : Option GroupRules) (w : GroupRules) →
    ConsidersGroups K c g s o z → o ≡ Some w → z ≡ restored s z →
    WhenAnswered r (ByGroups c w.param_env.items w.environment.items w.later.items (own_args z.tables p.alias) p z r u) → WhenAnswered r (MergesThrough K p c g s r u)
through-groups K p c g s z u r o w considers is e m =
    let f = subst (λ x. ConsidersGroups K c g s x z) is considers in
    when-map (ByGroups c w.param_env.items w.environment.items w.later.items (own_args z.tables p.alias) p z r u) (MergesThrough K p c g s r u) r
    (λ k. inr (inr (inl (w, z, f, subst (λ t. ByGroups c w.param_env.items w.environment.items w.later.items (own_args t p.alias) p z r u) (tables-kept s z e) k)))) m

-- the trait goal of a projection is asked for, by what a context shows of its tables
pub asks-its-trait : (s a : State) (g : Goal NormalizesTo) (o : Option (Goal TraitPredicate)) (q : Goal TraitPredicate) → s ≡ a → o ≡ Some q →
    MatchOption o (projected_trait s.tables g.predicate.alias ≡ None) (AsksItsTrait s.tables g) → AsksItsTrait a.tables g q
asks-its-trait s a g o q e is h =
    subst (λ (x : State). AsksItsTrait x.tables g q) e (subst (λ x. MatchOption x (projected_trait s.tables g.predicate.alias ≡ None) (AsksItsTrait s.tables g)) is h)

-- or there is none
pub no-trait : (s a : State) (g : Goal NormalizesTo) (o : Option (Goal TraitPredicate)) → s ≡ a → o ≡ None →
    MatchOption o (projected_trait s.tables g.predicate.alias ≡ None) (AsksItsTrait s.tables g) → projected_trait a.tables g.predicate.alias ≡ None
no-trait s a g o e is h =
    subst (λ (x : State). projected_trait x.tables g.predicate.alias ≡ None) e (subst (λ x. MatchOption x (projected_trait s.tables g.predicate.alias ≡ None) (AsksItsTrait s.tables g)) is h)

-- a projection is answered by its trait goal
pub projects-alias : (g : Goal NormalizesTo) (s u : State) (r : Result Response Fault) → projected_trait s.tables g.predicate.alias ≡ None → WhenAnswered r (RunsAlias g s r u) →
    WhenAnswered r (MergesProjection g s r u)
projects-alias g s u r e h = when-map (RunsAlias g s r u) (MergesProjection g s r u) r (λ k. inl (e, k)) h

-- the list of an alias is run
pub alias-run : (g : Goal NormalizesTo) (s u : State) (rule : Rule) (env : List Clause) (es : List RuleEntry) (r : Result Response Fault) → env ≡ g.param_env.items → es ≡ rule.entries.items →
    IsAliasRule s.tables s.typing_mode g rule → IfOk r (RunsOpen env es s u) → WhenRefused r (IsRefusedOpen env es s u) → WhenAnswered r (RunsAlias g s r u)
alias-run g s u rule env es (Ok q) d e l h k = inr (rule, l, subst (λ xs. RunsOpen g.param_env.items xs s u q) e (subst (λ xs. RunsOpen xs es s u q) d h))
alias-run g s u rule env es (Err f) d e l h k =
    when-refused (RunsAlias g s (Err f) u) f (λ is. inr (rule, l, subst (λ xs. IsRefusedOpen g.param_env.items xs s u) e (subst (λ xs. IsRefusedOpen xs es s u) d (k is))))

pub alias-none : (g : Goal NormalizesTo) (s : State) (f : Fault) (r : Response) → f ≡ (if is_some (projected_item g.predicate.alias.kind) then fault.NotForThisKind else fault.OutOfMemory) → f ≡ fault.NotForThisKind →
    r.certainty ≡ certainty.Maybe → RunsAlias g s (Ok r) s
alias-none g s f r e is maybe = inl (not-memory (is_some (projected_item g.predicate.alias.kind)) (sym e ∙ is), maybe, refl) where
  not-memory : (b : Bool) → (if b then fault.NotForThisKind else fault.OutOfMemory) ≡ fault.NotForThisKind → b ≡ true
  not-memory true h = refl
  not-memory false h = absurd (cc)

-- so is that of an equation
pub equation-run : (g : Goal ProjectionPredicate) (s u : State) (rule : Rule) (env : List Clause) (es : List RuleEntry) (r : Result Response Fault) → env ≡ g.param_env.items → es ≡ rule.entries.items →
    IsListed s.tables rule (Some (equation_list (erased (tree_of_alias g.predicate.projection_term)) (erased (tree_of_term g.predicate.term)))) →
    IfOk r (RunsOpen env es s u) → WhenRefused r (IsRefusedOpen env es s u) → WhenAnswered r (RunsEquation g s r u)
equation-run g s u rule env es (Ok q) d e l h k = (rule, l, subst (λ xs. RunsOpen g.param_env.items xs s u q) e (subst (λ xs. RunsOpen xs es s u q) d h))
equation-run g s u rule env es (Err f) d e l h k =
    when-refused (RunsEquation g s (Err f) u) f (λ is. (rule, l, subst (λ xs. IsRefusedOpen g.param_env.items xs s u) e (subst (λ xs. IsRefusedOpen xs es s u) d (k is))))

-- a trait goal is answered with one less of the depth
trait-with : (q : Goal TraitPredicate) (s z : State) (r : Result Response Fault) → AnswersTrait q s z r → AnswersTraitWith (answers_at (less s.remaining_depth)) q s z r
trait-with q s z r h = record {
  sound = h.sound;
  decided = h.decided;
  merges = λ n closed depth.
      subst (λ k. WhenAnswered r (MergesTraitWith (answers_at k) q (at_depth n s) r (at_depth n z))) (sym (ap less depth)) (h.merges n closed depth);
  back = h.back;
}

-- and what is merged behind it with the same
through-with : (g : Goal NormalizesTo) (c : TraitGoalProvenVia) (s z u : State) (r : Result Response Fault) → z ≡ restored s z → MergesThrough alias_kind g.predicate c g z r u →
    MergesThroughWith (answers_at s.remaining_depth) alias_kind g.predicate c g z r u
through-with g c s z u r e m = subst (λ n. MergesThroughWith (answers_at n) alias_kind g.predicate c g z r u) (ap (λ (x : State). x.remaining_depth) e) m

pub projects-refused : (g : Goal NormalizesTo) (q : Goal TraitPredicate) (s z : State) (f : Fault) → AsksItsTrait s.tables g q → (f ≡ fault.NoSolution → AnswersTrait q s z (Err f)) →
    WhenAnswered (Err f) (MergesProjection g s (Err f) z)
projects-refused g q s z f asks h = when-refused (MergesProjection g s (Err f) z) f (λ e. inr (q, Err f, z, asks, trait-with q s z (Err f) (h e), (refl, refl)))

pub projects-unproven : (g : Goal NormalizesTo) (q : Goal TraitPredicate) (s z : State) (a r : Response) → AsksItsTrait s.tables g q → AnswersTrait q s z (Ok a) →
    None ≡ proven_class a → r.certainty ≡ certainty.Maybe → MergesProjection g s (Ok r) z
projects-unproven g q s z a r asks h e maybe = inr (q, Ok a, z, asks, trait-with q s z (Ok a) h, subst (λ o. ByClassWith (answers_at s.remaining_depth) o g z (Ok r) z) e (maybe, refl))

pub projects-through : (g : Goal NormalizesTo) (q : Goal TraitPredicate) (c : TraitGoalProvenVia) (s z u : State) (a : Response) (r : Result Response Fault) → AsksItsTrait s.tables g q → AnswersTrait q s z (Ok a) →
    Some c ≡ proven_class a → WhenAnswered r (MergesThrough alias_kind g.predicate c g z r u) → WhenAnswered r (MergesProjection g s r u)
projects-through g q c s z u a r asks h e m =
    when-map (MergesThrough alias_kind g.predicate c g z r u) (MergesProjection g s r u) r
    (λ k. inr (q, Ok a, z, asks, trait-with q s z (Ok a) h, subst (λ o. ByClassWith (answers_at s.remaining_depth) o g z r u) e (through-with g c s z u r h.back k))) m
