-- What candidates make of a closed goal, by what the calls below answer of its trait, or of its alias through a class.
use Rattle.std.proofs.Common.{◌≡◌, ◌⊎◌, ◌∙◌, ℕ, suc, true, false, true≢false, List, [], length, Option, Some, None, Result, refl, sym, subst, ⊎_elim}
use Rattle.std.specs.Prelude.{IfOk}
use Rattle.goal_terms.specs.declared.answers.Certainty.TheVariants as certainty
use Rattle.goal_terms.specs.declared.answers.Response.{Response}
use Rattle.goal_terms.specs.declared.answers.TraitGoalProvenVia.{TraitGoalProvenVia}
use Rattle.goal_terms.specs.declared.modes.TypingMode.{TypingMode}
use Rattle.goal_terms.specs.declared.predicates.Clause.{Clause}
use Rattle.goal_terms.specs.declared.predicates.Goal.{Goal}
use Rattle.goal_terms.specs.declared.predicates.NormalizesTo.{NormalizesTo}
use Rattle.goal_tables.specs.Faults.{IsChecked}
use Rattle.goal_lists.specs.Answers.{setting_of}
use Rattle.goal_lists.specs.Levels.{level}
use Rattle.goal_lists.specs.Premises.{TraitTree}
use Rattle.goal_kinds.specs.declared.faults.Fault.{Fault}
use Rattle.goal_solver.specs.Answers.{IsOwed, IsMaybe, IsOpen, IsTraitAnswer, AnswersAside, is_closed_alias, expected_variable}
use Rattle.goal_solver.specs.Assembling.{MergesGiven, step}
use Rattle.goal_solver.specs.Binding.{IsApplicable}
use Rattle.goal_kinds.specs.Collecting.{Kind}
use Rattle.goal_solver.specs.OpenAnswers.{MergesThrough}
use Rattle.goal_solver.specs.OpenGoals.{WhenAnswered}
use Rattle.goal_solver.specs.Promises.{AnswersGiven, AnswersThrough, AnswersTraitAbove, AppliesGiven, AppliesProven, ListsTerm, NamesNoClass, Through, given_through, one_deeper, through_of}
use Rattle.goal_solver.specs.State.{State, kinds_of}
use Rattle.goal_solver.specs.ThroughClasses.{SoundThrough, DecidesThrough, AppliesThrough}
use Rattle.goal_solver.proofs.ApplicableLemmas.{accepted-open}
use Rattle.goal_solver.proofs.AssembledLemmas.{answers-above, decides-above}
use Rattle.goal_kinds.proofs.CollectedTermLemmas.{some-same}
use Rattle.goal_solver.proofs.PromiseLemmas.{answers-trait, answers-through, none-some}

-- a trait goal, asked one above
answered-trait_at : (s u : State) (env : List Clause) (q : TraitTree) (d : ℕ) (r : Result Response Fault) → d ≡ suc s.remaining_depth →
    ((m : TypingMode) → IsOwed u m → IsTraitAnswer (level (setting_of s.tables m env) d) q.def_id q.args r) →
    ((m : TypingMode) → IsOwed u m → IsMaybe r → IsOpen (level (setting_of s.tables m env) d) q.def_id q.args) →
    AnswersAside (length (kinds_of s)) r → IfOk r (λ x. x.var_values.items ≡ []) → IfOk r (λ x. x.certainty ≡ certainty.Maybe → x.proven_via ≡ None) →
    AnswersTraitAbove s u env (Some q) r
answered-trait_at s u env q d r e sound decided quiet values class =
    answers-trait (one_deeper s) u env q r
    (λ m owed. subst (λ n. IsTraitAnswer (level (setting_of s.tables m env) n) q.def_id q.args r) e (sound m owed))
    (λ m owed undecided. subst (λ n. IsOpen (level (setting_of s.tables m env) n) q.def_id q.args) e (decided m owed undecided))
    quiet values class

-- in the environment that a goal has, of the trait that it is about
pub answered-trait : (s u : State) (es env : List Clause) (q : TraitTree) (o : Option TraitTree) (d : ℕ) (r : Result Response Fault) → es ≡ env → Some q ≡ o → d ≡ suc s.remaining_depth →
    ((m : TypingMode) → IsOwed u m → IsTraitAnswer (level (setting_of s.tables m es) d) q.def_id q.args r) →
    ((m : TypingMode) → IsOwed u m → IsMaybe r → IsOpen (level (setting_of s.tables m es) d) q.def_id q.args) →
    AnswersAside (length (kinds_of s)) r → IfOk r (λ x. x.var_values.items ≡ []) → IfOk r (λ x. x.certainty ≡ certainty.Maybe → x.proven_via ≡ None) →
    AnswersTraitAbove s u env o r
answered-trait s u es env q o d r same is e sound decided quiet values class =
    subst (λ x. AnswersTraitAbove s u env x r) is
    (subst (λ x. AnswersTraitAbove s u x (Some q) r) same (answered-trait_at s u es q d r e sound decided quiet values class))

-- an alias through a class
answered-through : (s u : State) (env : List Clause) (c : TraitGoalProvenVia) (p : NormalizesTo) (r : Result Response Fault) → IsChecked s.tables → is_closed_alias p.alias env ≡ true →
    SoundThrough s u c p env r → DecidesThrough s u c p env r → AnswersAside (length (kinds_of s)) r → IfOk r (λ x. x.certainty ≡ certainty.Yes → ListsTerm p.term certainty.Yes x.var_values.items) →
    IfOk r (λ x. x.certainty ≡ certainty.Maybe → x.var_values.items ≡ []) → IfOk r NamesNoClass → AnswersThrough s u env (through_of c p) r
answered-through s u env c p r ok closed sound decided quiet gives values unnamed =
    answers-through s u env (through_of c p) r sound (λ m n owed expected undecided. decided m n owed closed expected undecided)
    (λ m owed proven. answers-above s u c p p env env r refl refl sound m owed proven)
    (λ m n owed proven accepted expected undecided.
    accepted-open s m (suc s.remaining_depth) p env ok accepted (decides-above s u c p p env env r refl refl decided m n owed proven closed expected undecided))
    quiet gives values unnamed

pub answered-given : (s u : State) (es env : List Clause) (c : TraitGoalProvenVia) (p : NormalizesTo) (o : Option NormalizesTo) (r : Result Response Fault) → es ≡ env → Some p ≡ o → IsChecked s.tables →
    SoundThrough s u c p es r → DecidesThrough s u c p es r → AnswersAside (length (kinds_of s)) r → IfOk r (λ x. x.certainty ≡ certainty.Yes → ListsTerm p.term certainty.Yes x.var_values.items) →
    IfOk r (λ x. x.certainty ≡ certainty.Maybe → x.var_values.items ≡ []) → IfOk r NamesNoClass → AnswersGiven s u env (given_through (Some c) o) r
answered-given s u es env c p o r same is ok sound decided quiet gives values unnamed =
    subst (λ x. AnswersGiven s u env (given_through (Some c) x) r) is
    (subst (λ x. is_closed_alias p.alias x ≡ true → AnswersThrough s u x (through_of c p) r) same
    (λ closed. answered-through s u es c p r ok closed sound decided quiet gives values unnamed))

-- an alias without variables, or for which no variable is expected, isn't asked with variables
not-asked_open : (env : List Clause) (c : TraitGoalProvenVia) (p : NormalizesTo) (a : Through) (k : ℕ) → Some (through_of c p) ≡ Some a →
    (is_closed_alias p.alias env ≡ true) ⊎ (expected_variable p.term ≡ None) → is_closed_alias a.asked.alias env ≡ false → expected_variable a.asked.term ≡ Some k → ⊥
not-asked_open env c p a k e h others expected =
    let same : through_of c p ≡ a = some-same (through_of c p) a e in
    ⊎_elim (λ closed. true≢false (sym (subst (λ (x : Through). is_closed_alias x.asked.alias env ≡ true) same closed) ∙ others))
    (λ none. let contrary : None ≡ Some k = sym (subst (λ (x : Through). expected_variable x.asked.term ≡ None) same none) ∙ expected in absurd (cc)) h

pub merged-given_closed : {P : Type 0} (K : Kind P) (g : Goal P) (s u : State) (es : List Clause) (c : TraitGoalProvenVia) (p : NormalizesTo) (o : Option NormalizesTo) (r : Result Response Fault) →
    es ≡ g.param_env.items → Some p ≡ o → (is_closed_alias p.alias es ≡ true) ⊎ (expected_variable p.term ≡ None) → MergesGiven K (given_through (Some c) o) g (step s u r)
merged-given_closed K g s u es c p o r same is h =
    subst (λ x. MergesGiven K (given_through (Some c) x) g (step s u r)) is
    (λ a k asked others expected.
    absurd (not-asked_open g.param_env.items c p a k asked (subst (λ x. (is_closed_alias p.alias x ≡ true) ⊎ (expected_variable p.term ≡ None)) same h) others expected))

-- the answer can be applied
pub applied-given : (s u : State) (es env : List Clause) (c : TraitGoalProvenVia) (p : NormalizesTo) (o : Option NormalizesTo) (r : Result Response Fault) → es ≡ env → Some p ≡ o →
    AppliesThrough s u c p es r →
    (is_closed_alias p.alias es ≡ true) ⊎ (expected_variable p.term ≡ None) → AppliesGiven s u env (given_through (Some c) o) r
applied-given s u es env c p o r same is applies h =
    subst (λ x. AppliesGiven s u env (given_through (Some c) x) r) is
    (subst (λ x. AppliesProven s u x (through_of c p) r) same
    (record {
      proven = λ m stands proven ok. applies m stands ok proven;
      variables = λ n others expected. absurd (not-asked_open es c p (through_of c p) n refl h others expected);
    }))

-- with variables: by the candidates' rules
pub opened-given : (s u : State) (es env : List Clause) (c : TraitGoalProvenVia) (p : NormalizesTo) (o : Option NormalizesTo) (r : Result Response Fault) → es ≡ env → Some p ≡ o →
    is_closed_alias p.alias es ≡ false → AnswersGiven s u env (given_through (Some c) o) r
opened-given s u es env c p o r same is others =
    subst (λ x. AnswersGiven s u env (given_through (Some c) x) r) is
    (λ closed. absurd (true≢false (sym closed ∙ subst (λ x. is_closed_alias p.alias x ≡ false) same others)))

pub opened-merges_given : {P : Type 0} (K : Kind P) (g : Goal P) (s u : State) (c : TraitGoalProvenVia) (p : NormalizesTo) (o : Option NormalizesTo) (r : Result Response Fault) → Some p ≡ o →
    WhenAnswered r (MergesThrough K p c g s r u) → MergesGiven K (given_through (Some c) o) g (step s u r)
opened-merges_given K g s u c p o r is merges =
    subst (λ x. MergesGiven K (given_through (Some c) x) g (step s u r)) is
    (λ a k asked others expected. subst (λ (x : Through). WhenAnswered r (MergesThrough K x.asked x.class g s r u)) (some-same (through_of c p) a asked) merges)

pub opened-applies_given : (s u : State) (env : List Clause) (c : TraitGoalProvenVia) (p : NormalizesTo) (o : Option NormalizesTo) (r : Result Response Fault) → Some p ≡ o →
    IfOk r (IsApplicable u) → AppliesGiven s u env (given_through (Some c) o) r
opened-applies_given s u env c p o r is applies =
    subst (λ x. AppliesGiven s u env (given_through (Some c) x) r) is (record { proven = λ m stands proven ok. applies; variables = λ n others expected. applies })

-- without an alias nothing is merged
pub missing-merges_given : {P : Type 0} (K : Kind P) (g : Goal P) (s u : State) (c : TraitGoalProvenVia) (o : Option NormalizesTo) (r : Result Response Fault) → None ≡ o → MergesGiven K (given_through (Some c) o) g (step s u r)
missing-merges_given K g s u c o r is = subst (λ x. MergesGiven K (given_through (Some c) x) g (step s u r)) is (λ a k asked. absurd (none-some a asked))
