-- What is said of a question over a table that has grown is said over the one before.
use Rattle.std.specs.Prelude.{◌≡◌, ℕ, List}
use Rattle.std.proofs.Common.{subst, sym, ◌∙◌}
use Rattle.goal_interner.specs.TableMeaning.{Keeps}
use Rattle.goal_terms.specs.Tree.{Tree}
use Rattle.goal_interner.specs.declared.term_nodes.TermId.{TermId}
use Rattle.goal_lists.specs.Interned.{PredicateIn, predicate_at, IsIn, AreIn, erased_at, erased_all}
use Rattle.goal_lists.specs.Levels.{level}
use Rattle.goal_lists.specs.Settings.{Setting}
use Rattle.goal_lists.specs.declared.candidates.interned.InternedPredicate.{InternedPredicate}
use Rattle.goal_lists.specs.declared.outcomes.Outcome.{Outcome}
use Rattle.goal_lists.proofs.InternedLemmas.{predicate_same-grown, same-grown, all_same-grown}
use Rattle.goal_eval.specs.Outcomes.{SaysHolds}

-- whether a predicate holds
pub predicate-before : (S : Setting) (n : ℕ) (T U V : List Tree) (p : InternedPredicate) (o : Outcome) → Keeps T U → PredicateIn T p → SaysHolds (level S n) (predicate_at U p) o → SaysHolds (level S n) (predicate_at T p) o
predicate-before S n T U V p o k h = subst (λ q. SaysHolds (level S n) q o) (predicate_same-grown T U k p h)

-- what is said of a term, and of some
pub before-at : (T U : List Tree) (id : TermId) (P : Tree → Type 0) → Keeps T U → IsIn T id → P (erased_at U id) → P (erased_at T id)
before-at T U id P k h = subst P (same-grown T U k id h)

pub before-all : (T U : List Tree) (ids : List TermId) (P : List Tree → Type 0) → Keeps T U → AreIn T ids → P (erased_all U ids) → P (erased_all T ids)
before-all T U ids P k h = subst P (all_same-grown T U k ids h)

pub before-both : (T U : List Tree) (ids js : List TermId) (P : List Tree → List Tree → Type 0) → Keeps T U → AreIn T ids → AreIn T js → P (erased_all U ids) (erased_all U js) → P (erased_all T ids) (erased_all T js)
before-both T U ids js P k h l says = before-all T U ids (λ ts. P ts (erased_all T js)) k h (before-all T U js (P (erased_all U ids)) k l says)

-- terms that are the same stay so
pub same-after : (T U : List Tree) (ids js : List TermId) → Keeps T U → AreIn T ids → AreIn T js → erased_all T ids ≡ erased_all T js → erased_all U ids ≡ erased_all U js
same-after T U ids js k h l e = all_same-grown T U k ids h ∙ e ∙ sym (all_same-grown T U k js l)
