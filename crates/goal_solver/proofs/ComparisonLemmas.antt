-- What two runs of one goal come to.
use Rattle.std.proofs.Common.{◌≡◌, ◌≢◌, ◌<◌, ℕ, true, false, Bool, List, [], ◌∷◌, length, Some, None, Result, Ok, Err, refl, sym, ap, ◌∙◌, subst, inl}
use Rattle.std.specs.Prelude.{IsTrue, IfOk}
use Rattle.std.specs.List.{AllZip}
use Rattle.goal_terms.specs.Erased.{erased}
use Rattle.goal_terms.specs.SameLaws.{same_tree-is}
use Rattle.goal_terms.specs.SameTree.{same_tree}
use Rattle.goal_terms.specs.Sorts.{is_term_sort}
use Rattle.goal_interner.specs.TableMeaning.{tree_at, HasTerm}
use Rattle.goal_terms.specs.Tree.{Tree}
use Rattle.goal_terms.specs.TreeOf.{is_type_kind, tree_of_term}
use Rattle.goal_terms.specs.contracts.modes.TypingModeClone.TheImpl.{is_clone-value as is_mode_clone}
use Rattle.goal_terms.specs.declared.ids.OpaqueId.{OpaqueId}
use Rattle.goal_terms.specs.declared.modes.TypingMode.{TypingMode}
use Rattle.goal_terms.specs.declared.modes.TypingMode.TheVariants as mode
use Rattle.goal_terms.specs.declared.predicates.Clause.{Clause}
use Rattle.goal_terms.specs.declared.predicates.Goal.{Goal}
use Rattle.goal_terms.specs.declared.predicates.NormalizesTo.{NormalizesTo}
use Rattle.goal_terms.specs.declared.predicates.Predicate.{Predicate}
use Rattle.goal_terms.specs.declared.predicates.Predicate.TheVariants as predicate
use Rattle.goal_interner.specs.declared.term_nodes.TermId.{TermId}
use Rattle.goal_terms.specs.declared.terms.Term.{Term}
use Rattle.goal_tables.specs.Faults.{IsChecked}
use Rattle.goal_tables.specs.Predicates.{normalization_of}
use Rattle.goal_tables.specs.declared.rows.OpaqueRow.{OpaqueRow}
use Rattle.goal_tables.specs.declared.rows.Tables.{Tables}
use Rattle.goal_lists.specs.Answers.{whether, Answer, yes, yes_with, no, maybe, IsAnswer, decides, setting_of}
use Rattle.goal_lists.specs.Interned.{erased_at}
use Rattle.goal_lists.specs.Laws.{IsAlike, IsWithin}
use Rattle.goal_lists.specs.Level.{Level}
use Rattle.goal_lists.specs.Levels.{level}
use Rattle.goal_lists.specs.Settings.{Setting, is_empty, is_headline, is_coherence, among, leaves_open, takes_checked, reveals, takes_defaults, hides_defaults}
use Rattle.goal_lists.proofs.AlikeSettings.{alike-reordered}
use Rattle.goal_lists.proofs.AnswerLaws.{answer-same, answers-agree, impls-not_doubled}
use Rattle.goal_lists.proofs.WithinLevels.{within-alike_level, within-alike_level_back}
use Rattle.goal_kinds.specs.declared.faults.Fault.{Fault}
use Rattle.goal_solver.specs.AddedGoals.{IsClosedGoal, GoalHolds, GoalRefuted}
use Rattle.goal_eval.specs.ErasedArgs.{erased_args}
use Rattle.goal_solver.specs.Answers.{IsOwed, level_over}
use Rattle.goal_solver.specs.Comparisons.{AreComparable, IsAnswerTo, IsAnswerIn, IsAnswerHere, IsCompared, MayRun, IsClosedQuestion, IsAcceptedIn, IsAcceptedOver, DifferInOrder, answer_of, over}
use Rattle.goal_solver.specs.Goals.{IsAcceptedBy, IsAcceptedNormalization, alias_term_words, any_predicate_words, goal_has}
use Rattle.goal_solver.specs.Promises.{trait_asked, trait_question, equation_asked, const_asked, term_asked}
use Rattle.goal_solver.specs.State.{State}
use Rattle.goal_solver.specs.declared.comparison.Comparison.{Comparison}
use Rattle.goal_solver.specs.declared.comparison.Comparison.TheVariants as comparison
use Rattle.goal_solver.specs.declared.comparison.RunAnswer.{RunAnswer}
use Rattle.goal_solver.specs.declared.comparison.RunAnswer.TheVariants as run
use Rattle.goal_solver.specs.declared.eval.goals.GoalFault.TheVariants as goals
use Rattle.goal_solver.proofs.ApplicableLemmas.{accepted-sort, alias-is_term}
use Rattle.goal_solver.proofs.FoundAnswers.{sort-erased}

-- levels that prove the same give a predicate the same answers
answer_to-same : {L M : Level} → IsWithin L M → IsWithin M L → (p : Predicate) (x : Answer) → IsAnswerTo L p x → IsAnswerTo M p x
answer_to-same w v (predicate.Trait q) x h = answer-same w v (trait_question (trait_asked q)) x h
answer_to-same w v (predicate.Projection q) x h = answer-same w v (whether (equation_asked q)) x h
answer_to-same w v (predicate.HostEffect q) x h = answer-same w v (whether (const_asked q)) x h
answer_to-same w v (predicate.NormalizesTo q) x h = answer-same w v (term_asked q) x h
answer_to-same w v predicate.Ambiguous x h = h

-- what the evaluation of a predicate other than an alias's term comes to is an answer to it
module _ (L : Level) where
  pub holds-yes : (p : Predicate) → normalization_of p ≡ None → GoalHolds L p → IsAnswerTo L p yes
  unfolding IsAnswer
  holds-yes (predicate.Trait q) e h = h
  holds-yes (predicate.Projection q) e h = h
  holds-yes (predicate.HostEffect q) e h = h
  holds-yes (predicate.NormalizesTo q) e h = absurd (cc)
  holds-yes predicate.Ambiguous e h = absurd h

  pub refuted-no : (p : Predicate) → normalization_of p ≡ None → GoalRefuted L p → IsAnswerTo L p no
  unfolding IsAnswer
  refuted-no (predicate.Trait q) e h = h
  refuted-no (predicate.Projection q) e h = h
  refuted-no (predicate.HostEffect q) e h = h
  refuted-no (predicate.NormalizesTo q) e h = absurd (cc)
  refuted-no predicate.Ambiguous e h = absurd h

  pub undecided-maybe : (p : Predicate) → normalization_of p ≡ None → (GoalHolds L p → ⊥) × (GoalRefuted L p → ⊥) → IsAnswerTo L p maybe
  unfolding IsAnswer
  undecided-maybe (predicate.Trait q) e h = h
  undecided-maybe (predicate.Projection q) e h = h
  undecided-maybe (predicate.HostEffect q) e h = h
  undecided-maybe (predicate.NormalizesTo q) e h = absurd (cc)
  undecided-maybe predicate.Ambiguous e h = refl

-- such a goal without inference variables is closed
pub question-closed : (p : Predicate) (env : List Clause) → normalization_of p ≡ None → IsClosedQuestion p env → IsClosedGoal p env
question-closed (predicate.Trait q) env e h = h
question-closed (predicate.Projection q) env e h = h
question-closed (predicate.HostEffect q) env e h = h
question-closed (predicate.NormalizesTo q) env e h = absurd (cc)
question-closed predicate.Ambiguous env e h = h

-- a headline mode is owed an answer
pub owed-itself : (before after : State) → after.typing_mode ≡ before.typing_mode → is_headline before.typing_mode ≡ true → IsOwed after before.typing_mode
owed-itself before after same h = inl same

-- the goal of an alias's term
is_normalization : (p : Predicate) (q : NormalizesTo) → normalization_of p ≡ Some q → p ≡ predicate.NormalizesTo q
is_normalization (predicate.NormalizesTo r) q e = cc
is_normalization (predicate.Trait r) q e = absurd (cc)
is_normalization (predicate.Projection r) q e = absurd (cc)
is_normalization (predicate.HostEffect r) q e = absurd (cc)
is_normalization predicate.Ambiguous q e = absurd (cc)

pub answer-normalization : (L : Level) (p : Predicate) (q : NormalizesTo) (x : Answer) → normalization_of p ≡ Some q → IsAnswer L (term_asked q) x → IsAnswerTo L p x
answer-normalization L p q x e h = subst (λ (r : Predicate). IsAnswerTo L r x) (sym (is_normalization p q e)) h

by-fault : (s : State) (q : NormalizesTo) (env : List Clause) →
    IsAcceptedBy (goal_has any_predicate_words s.tables s (predicate.NormalizesTo q) env) → IsAcceptedBy (goal_has alias_term_words s.tables s q env)
by-fault s q env h goals.UnknownItem = h goals.UnknownItem
by-fault s q env h goals.WrongArgumentCount = h goals.WrongArgumentCount
by-fault s q env h goals.WrongArgumentKind = h goals.WrongArgumentKind
by-fault s q env h goals.UnknownVariable = h goals.UnknownVariable
by-fault s q env h goals.ExpectedTermNotFree = h goals.ExpectedTermNotFree
by-fault s q env h goals.NeverConst = h goals.NeverConst
by-fault s q env h goals.GoalsPending = h goals.GoalsPending

accepted-normalization : (s : State) (g : Goal Predicate) (q : NormalizesTo) → normalization_of g.predicate ≡ Some q → IsAcceptedIn s g → IsAcceptedNormalization s q g.param_env.items
accepted-normalization s g q e h =
    by-fault s q g.param_env.items
    (subst (λ (r : Predicate). IsAcceptedBy (goal_has any_predicate_words s.tables s r g.param_env.items)) (is_normalization g.predicate q e) h)

-- the term that is found of an accepted one is a type or a constant
pub found-given : (t : Tables) (m : TypingMode) (n : ℕ) (g : Goal Predicate) (q : NormalizesTo) (T : List Tree) (id : TermId) → IsChecked t → IsAcceptedOver t g → normalization_of g.predicate ≡ Some q →
    id.0 < length T → (level (setting_of t m g.param_env.items) n).gives q.alias.kind (erased_args q.alias.args.items) (erased_at T id) → HasTerm T id
found-given t m n g q T id checked ok e l given = (
  l,
  subst (λ s. IsTrue (is_term_sort s)) (sort-erased (tree_at T id))
      (alias-is_term q.alias.kind (is_type_kind q.alias.kind) refl (erased_at T id)
      (accepted-sort ok.0 m n q g.param_env.items (erased_at T id) (subst IsChecked (sym ok.1) checked) (accepted-normalization ok.0 g q e ok.2)
      (subst (λ (u : Tables). (level (setting_of u m g.param_env.items) n).gives q.alias.kind (erased_args q.alias.args.items) (erased_at T id)) (sym ok.1) given))),
)

-- so what is found answers the goal, and so does a refusal, and that it is undecided
given-by : (L : Level) (p : Predicate) (q : NormalizesTo) (u : Tree) → normalization_of p ≡ Some q → L.gives q.alias.kind (erased_args q.alias.args.items) u → IsAnswerTo L p (yes_with u)
unfolding IsAnswer
given-by L p q u e given = answer-normalization L p q (yes_with u) e given

on-found : (A : Answer → Type 0) (y : Answer) (r : Result RunAnswer Fault) → IfOk r (λ x. answer_of x ≡ y) → A y → IfOk r (λ x. A (answer_of x))
on-found A y (Ok x) e h = subst A (sym e) h
on-found A y (Err f) e h = tt

pub found-right : (s : State) (g : Goal Predicate) (q : NormalizesTo) (T : List Tree) (id : TermId) (r : Result RunAnswer Fault) → IsChecked s.tables → IsAcceptedOver s.tables g →
    normalization_of g.predicate ≡ Some q → id.0 < length T → (level_over s s.typing_mode g.param_env.items).gives q.alias.kind (erased_args q.alias.args.items) (erased_at T id) →
    (HasTerm T id → IfOk r (λ x. answer_of x ≡ yes_with (erased_at T id))) → IfOk r (λ x. IsAnswerHere s g (answer_of x))
found-right s g q T id r checked ok e l given says =
    on-found (IsAnswerHere s g) (yes_with (erased_at T id)) r
    (says (found-given s.tables s.typing_mode s.remaining_depth g q T id checked ok e l given))
    (given-by (level_over s s.typing_mode g.param_env.items) g.predicate q (erased_at T id) e given)

pub refuted-right : (s : State) (g : Goal Predicate) (q : NormalizesTo) (x : RunAnswer) → normalization_of g.predicate ≡ Some q →
    (level_over s s.typing_mode g.param_env.items).gives_refuted q.alias.kind (erased_args q.alias.args.items) → x ≡ run.NoSolution → IsAnswerHere s g (answer_of x)
unfolding IsAnswer
refuted-right s g q x e refuted is =
    subst (λ (y : RunAnswer). IsAnswerHere s g (answer_of y)) (sym is) (answer-normalization (level_over s s.typing_mode g.param_env.items) g.predicate q no e refuted)

pub undecided-right : (s : State) (g : Goal Predicate) (q : NormalizesTo) → normalization_of g.predicate ≡ Some q →
    ((u : Tree) → (level_over s s.typing_mode g.param_env.items).gives q.alias.kind (erased_args q.alias.args.items) u → ⊥)
    × ((level_over s s.typing_mode g.param_env.items).gives_refuted q.alias.kind (erased_args q.alias.args.items) → ⊥) → IsAnswerHere s g maybe
unfolding IsAnswer
undecided-right s g q e h = answer-normalization (level_over s s.typing_mode g.param_env.items) g.predicate q maybe e h

-- two answers that give terms are one where the terms are, lifetimes aside
yes-same : (t u : Tree) → yes_with t ≡ yes_with u → t ≡ u
yes-same t u e = cc

pub same-terms : (x y : RunAnswer) (t u : Term) (v w : Tree) (b : Bool) → x ≡ run.YesWith t → y ≡ run.YesWith u → v ≡ tree_of_term t → w ≡ tree_of_term u → b ≡ same_tree (erased v) (erased w) →
    (IsTrue b → answer_of x ≡ answer_of y) × (answer_of x ≡ answer_of y → IsTrue b)
same-terms x y t u v w b p q e f s =
    let decided = same_tree-is (erased v) (erased w) b s in (
      λ h. ap answer_of p ∙ ap yes_with (sym (ap erased e) ∙ decided.0 h ∙ ap erased f) ∙ sym (ap answer_of q),
      λ k. decided.1 (ap erased e ∙ yes-same (erased (tree_of_term t)) (erased (tree_of_term u)) (sym (ap answer_of p) ∙ k ∙ ap answer_of q) ∙ sym (ap erased f)),
    )

-- a clone of a mode says the same
ids-same : (xs ys : List OpaqueId) → AllZip (λ a b. b ≡ a) xs ys → ys ≡ xs
ids-same [] [] h = refl
ids-same [] (y ∷ ys) h = absurd h
ids-same (x ∷ xs) [] h = absurd h
ids-same (x ∷ xs) (y ∷ ys) h = ap (λ z. z ∷ ys) h.0 ∙ ap (λ zs. x ∷ zs) (ids-same xs ys h.1)

mode-same : (m k : TypingMode) → is_mode_clone.it m k →
    (is_headline k ≡ is_headline m) × (is_coherence m ≡ is_coherence k) × ((r : OpaqueRow) → leaves_open m r ≡ leaves_open k r) × ((r : OpaqueRow) → takes_checked m r ≡ takes_checked k r) × ((r : OpaqueRow) → reveals m r ≡ reveals k r)
    × (takes_defaults m ≡ takes_defaults k) × (hides_defaults m ≡ hides_defaults k)
mode-same mode.Coherence mode.Coherence r = (refl, refl, λ q. refl, λ q. refl, λ q. refl, refl, refl)
mode-same (mode.Analysis xs) (mode.Analysis ys) r =
    (ap is_empty (ids-same xs.items ys.items r.0), refl, λ q. ap (λ zs. among zs q) (sym (ids-same xs.items ys.items r.0)), λ q. refl, λ q. refl, refl, refl)
mode-same (mode.Borrowck xs) (mode.Borrowck ys) r =
    (ap is_empty (ids-same xs.items ys.items r.0), refl, λ q. refl, λ q. ap (λ zs. among zs q) (sym (ids-same xs.items ys.items r.0)), λ q. refl, refl, refl)
mode-same (mode.PostBorrowckAnalysis xs) (mode.PostBorrowckAnalysis ys) r =
    (refl, refl, λ q. refl, λ q. refl, λ q. ap (λ zs. among zs q) (sym (ids-same xs.items ys.items r.0)), refl, refl)
mode-same mode.PostAnalysis mode.PostAnalysis r = (refl, refl, λ q. refl, λ q. refl, λ q. refl, refl, refl)
mode-same mode.ErasedNotCoherence mode.ErasedNotCoherence r = (refl, refl, λ q. refl, λ q. refl, λ q. refl, refl, refl)
mode-same m k r = absurd r

pub clone-headline : (m k : TypingMode) → is_mode_clone.it m k → is_headline m ≡ true → is_headline k ≡ true
clone-headline m k r h = (mode-same m k r).0 ∙ h

pub clone-answer : (t : Tables) (m k : TypingMode) (g : Goal Predicate) (n : ℕ) (x : Answer) → is_mode_clone.it m k → IsAnswerIn t k g n x → IsAnswerIn t m g n x
clone-answer t m k g n x r h =
    let same = mode-same m k r in
    let alike : IsAlike (setting_of t k g.param_env.items) t.impls m = record {
      among = λ r i. i;
      among_back = λ r i. i;
      same_impl = λ i. refl;
      same_coherence = same.1;
      same_opens = λ i q e. same.2 q;
      same_checked = λ i q e. same.3 q;
      same_reveals = λ i q e. same.4 q;
      same_defaults = λ i j q d e f. same.5;
      same_hidden_defaults = λ i j q d e f. same.6;
    } in
    answer_to-same (within-alike_level alike n) (within-alike_level_back alike n) g.predicate x h

-- what a context answers is right over its tables, in the mode of which its own is a clone
on-each : (P Q : RunAnswer → Type 0) → ((x : RunAnswer) → P x → Q x) → (r : Result RunAnswer Fault) → IfOk r P → IfOk r Q
on-each P Q each (Ok x) h = each x h
on-each P Q each (Err f) h = tt

pub run-right : (t : Tables) (m k : TypingMode) (g : Goal Predicate) (n : ℕ) (s : State) (r : Result RunAnswer Fault) → is_mode_clone.it m k → s.tables ≡ t → s.typing_mode ≡ k → s.remaining_depth ≡ n →
    MayRun t m g n → (is_headline s.typing_mode ≡ true → IsClosedQuestion g.predicate g.param_env.items → IsAcceptedOver s.tables g → IfOk r (λ x. IsAnswerHere s g (answer_of x))) →
    IfOk r (λ x. IsAnswerIn t m g n (answer_of x))
run-right t m k g n s r clone tables mode depth may says =
    on-each (λ x. IsAnswerHere s g (answer_of x)) (λ x. IsAnswerIn t m g n (answer_of x))
    (λ x h. clone-answer t m k g n (answer_of x) clone
    (subst (λ d. IsAnswerIn t k g d (answer_of x)) depth
    (subst (λ (q : TypingMode). IsAnswerIn t q g s.remaining_depth (answer_of x)) mode
    (subst (λ (u : Tables). IsAnswerIn u s.typing_mode g s.remaining_depth (answer_of x)) tables h))))
    r (says (ap is_headline mode ∙ clone-headline m k clone may.mode) may.closed (subst (λ (u : Tables). IsAcceptedOver u g) (sym tables) may.accepted))

-- over tables that differ in the order of their impls alone, decided answers are the same at any depths
agree-on : (S Z : Setting) (n k : ℕ) → IsWithin (level S n) (level Z n) → IsWithin (level Z n) (level S n) → (p : Predicate) (x y : Answer) → decides x ≡ true → decides y ≡ true →
    IsAnswerTo (level S n) p x → IsAnswerTo (level Z k) p y → x ≡ y
agree-on S Z n k w v (predicate.Trait q) x y d e h j = answers-agree Z n k (trait_question (trait_asked q)) x y d e (answer-same w v (trait_question (trait_asked q)) x h) j
agree-on S Z n k w v (predicate.Projection q) x y d e h j = answers-agree Z n k (whether (equation_asked q)) x y d e (answer-same w v (whether (equation_asked q)) x h) j
agree-on S Z n k w v (predicate.HostEffect q) x y d e h j = answers-agree Z n k (whether (const_asked q)) x y d e (answer-same w v (whether (const_asked q)) x h) j
agree-on S Z n k w v (predicate.NormalizesTo q) x y d e h j = answers-agree Z n k (term_asked q) x y d e (answer-same w v (term_asked q) x h) j
agree-on S Z n k w v predicate.Ambiguous x y d e h j = let none : false ≡ true = sym (ap decides h) ∙ d in absurd (cc)

pub agree-in_order : (a b : Tables) (m : TypingMode) (g : Goal Predicate) (n k : ℕ) (x y : Answer) → IsChecked a → DifferInOrder a b → decides x ≡ true → decides y ≡ true →
    IsAnswerIn a m g n x → IsAnswerIn b m g k y → x ≡ y
agree-in_order a b m g n k x y checked order d e h j =
    let alike : IsAlike (setting_of a m g.param_env.items) b.impls m = alike-reordered (setting_of a m g.param_env.items) b.impls order.1 (impls-not_doubled a checked) in
    agree-on (setting_of a m g.param_env.items) (setting_of (record a { impls = b.impls }) m g.param_env.items) n k (within-alike_level alike n) (within-alike_level_back alike n) g.predicate x y d e h
    (subst (λ (t : Tables). IsAnswerIn t m g k y) order.0 j)

pub never-different : (x y : Answer) (c : Comparison) → IsCompared x y c → (decides x ≡ true → decides y ≡ true → x ≡ y) → c ≡ comparison.Different → ⊥
never-different x y c h agree e =
    let different : (decides x ≡ true) × (decides y ≡ true) × (x ≢ y) = subst (λ (d : Comparison). IsCompared x y d) e h in
    different.2 (agree different.0 different.1)

ok-same : (c d : Comparison) (r : Result Comparison Fault) → r ≡ Ok c → r ≡ Ok d → c ≡ d
ok-same c d r e f = cc

pub order-never : (a b : Tables) (m : TypingMode) (g : Goal Predicate) (n k : ℕ) (x y : RunAnswer) (c : Comparison) (r : Result Comparison Fault) → IsChecked a → AreComparable (over a n) (over b k) m g → DifferInOrder a b →
    (MayRun a m g n → IsAnswerIn a m g n (answer_of x)) → (MayRun b m g k → IsAnswerIn b m g k (answer_of y)) → IsCompared (answer_of x) (answer_of y) c → r ≡ Ok c → r ≡ Ok comparison.Different → ⊥
order-never a b m g n k x y c r checked may order first second compared e f =
    never-different (answer_of x) (answer_of y) c compared
    (λ d h. agree-in_order a b m g n k (answer_of x) (answer_of y) checked order d h (first may.0) (second may.1)) (ok-same c comparison.Different r e f)
