-- Evaluations whose terms got their numbers first.
use Rattle.std.proofs.Common.{◌≡◌, ℕ, true, List, Result, Ok, Err, refl, sym, ap, ◌∙◌, subst}
use Rattle.std.specs.Prelude.{IfErr}
use Rattle.std.proofs.lemmas.Bool.{false≢true}
use Rattle.goal_terms.specs.PredicateTrees.{PredicateTree}
use Rattle.goal_interner.specs.TableMeaning.{Keeps}
use Rattle.goal_terms.specs.Tree.{Tree}
use Rattle.goal_terms.specs.declared.modes.TypingMode.{TypingMode}
use Rattle.goal_terms.specs.declared.predicates.Clause.{Clause}
use Rattle.goal_terms.specs.declared.terms.AliasTermKind.{AliasTermKind}
use Rattle.goal_tables.specs.declared.rows.Tables.{Tables}
use Rattle.goal_tables.specs.Faults.{IsChecked}
use Rattle.goal_lists.specs.Answers.{setting_of}
use Rattle.goal_lists.specs.Settings.{Setting, is_headline}
use Rattle.goal_solver.specs.Accesses.{RecordsCaused, EndsFor}
use Rattle.goal_solver.specs.Answers.{IsOwed, level_over}
use Rattle.goal_eval.specs.Effects.{EndsIn}
use Rattle.goal_solver.specs.Evaluations.{SaysOf, SaysTermAt, StopsForMemory}
use Rattle.goal_solver.specs.GoingBack.{restored}
use Rattle.goal_eval.specs.Outcomes.{RunsAs, RunsOver, SaysWhich}
use Rattle.goal_solver.specs.State.{State}
use Rattle.goal_eval.specs.declared.eval.outcomes.Found.{Found}
use Rattle.goal_eval.specs.declared.eval.outcomes.OnAccess.{OnAccess}
use Rattle.goal_lists.specs.declared.outcomes.Outcome.{Outcome}
use Rattle.goal_eval.specs.declared.eval.outcomes.Stop.{Stop}
use Rattle.goal_eval.specs.declared.eval.outcomes.Stop.TheVariants as stop
use Rattle.goal_solver.proofs.AccessLemmas.{none-recorded, recorded-then, ends-before}
use Rattle.goal_solver.proofs.GoingBackLemmas.{goes_back-grown}

-- what is said of a predicate's numbers is said of the predicate
pub says-interned : (a b z : State) (env : List Clause) (p q : PredicateTree) (r : Result Outcome Stop) → b ≡ record a { terms = b.terms } → p ≡ q → SaysOf b z env p r → SaysOf a z env q r
says-interned a b z env p q r e f h = subst (λ (x : PredicateTree). SaysOf a z env x r) f (subst (λ (s : State). SaysOf s z env p r) e h)

-- and so with an alias's arguments
pub term-interned : (a b z : State) (env : List Clause) (k : AliasTermKind) (ts us : List Tree) (r : Result Found Stop) → b ≡ record a { terms = b.terms } → ts ≡ us →
    ((m : TypingMode) → IsOwed z m → SaysTermAt (level_over b m env) k ts z.terms r) → (m : TypingMode) → IsOwed z m → SaysTermAt (level_over a m env) k us z.terms r
term-interned a b z env k ts us r e f h m owed =
    subst (λ (xs : List Tree). SaysTermAt (level_over a m env) k xs z.terms r) f (subst (λ (s : State). SaysTermAt (level_over s m env) k ts z.terms r) e (h m owed))

-- the rest is as before
pub interned-unchanged : (a b z : State) → b ≡ record a { terms = b.terms } → z ≡ restored b z → z ≡ restored a z
interned-unchanged a b z e h = h ∙ ap (λ (s : State). restored s z) e

pub interned-caused : (a b z : State) → b ≡ record a { terms = b.terms } → RecordsCaused b z → RecordsCaused a z
interned-caused a b z e h = recorded-then a b z (ap (λ (s : State). s.tables) e) (none-recorded a b (ap (λ (s : State). s.accesses) e)) h

pub interned-ends : {T : Type 0} (a b : State) (r : Result T Stop) → b ≡ record a { terms = b.terms } → Keeps a.terms b.terms → IfErr r (EndsFor b) → IfErr r (EndsFor a)
interned-ends a b r e k h = ends-before a b r (goes_back-grown a b e k) h

pub interned-stops : {T : Type 0} (a b : State) (r : Result T Stop) → b ≡ record a { terms = b.terms } → StopsForMemory b r → StopsForMemory a r
interned-stops a b r e h headline = h (ap (λ (s : State). is_headline s.typing_mode) e ∙ headline)

-- what a run says over its setting, it says over the context
pub run-says : (P : Setting → ℕ → List Tree → List Tree → Type 0) (t : Tables) (k : TypingMode) (here : OnAccess) (e : List Clause) (o s z : State) (env : List Clause) (on : OnAccess) (U : List Tree) → IsChecked t → o ≡ s →
    ((m : TypingMode) → RunsOver here k t m → P (setting_of t m e) o.remaining_depth o.terms U) → t ≡ s.tables → k ≡ s.typing_mode → here ≡ on → e ≡ env → z.terms ≡ U →
    (m : TypingMode) → RunsAs on s.typing_mode m → P (setting_of s.tables m env) s.remaining_depth s.terms z.terms
run-says P t k here e o s z env on U checked same h a b c d q m st =
    let stands : RunsAs here k m = subst (λ x. RunsAs x k m) (sym c) (subst (λ x. RunsAs on x m) (sym b) st) in
    subst (λ V. P (setting_of s.tables m env) s.remaining_depth s.terms V) (sym q)
    (subst (λ S. P S s.remaining_depth s.terms U) (ap (λ x. setting_of x m e) a ∙ ap (setting_of s.tables m) d)
    (subst (λ (x : State). P (setting_of t m e) x.remaining_depth x.terms U) same (h m (stands, checked))))

-- in a headline mode a run ends for want of memory alone
pub memory-ends : {T : Type 0} (t : Tables) (m : TypingMode) (r : Result T Stop) → IfErr r (EndsIn t m) → is_headline m ≡ true → IfErr r (λ s. s ≡ stop.OutOfMemory)
memory-ends t m (Ok x) h e = tt
memory-ends t m (Err stop.OutOfMemory) h e = refl
memory-ends t m (Err (stop.ReadsMode a)) h e = absurd (false≢true (sym h.0 ∙ e))

-- what is said of an alias in an environment
pub says-under : (s : State) (m : TypingMode) (k : AliasTermKind) (ts T : List Tree) (f : Found) (a b : List Clause) → a ≡ b →
    SaysWhich ((level_over s m a).gives k ts) ((level_over s m a).gives_refuted k ts) T f → SaysWhich ((level_over s m b).gives k ts) ((level_over s m b).gives_refuted k ts) T f
says-under s m k ts T f a b e = subst (λ (env : List Clause). SaysWhich ((level_over s m env).gives k ts) ((level_over s m env).gives_refuted k ts) T f) e
