-- Goals of opaque types that are being defined: no answer is owed, and the response names no class.
use Rattle.std.proofs.Common.{◌≡◌, ◌&&◌, ℕ, zero, suc, Bool, true, false, List, [], ◌∷◌, Option, Some, None, Result, Ok, Err, arith, refl, sym, ap, ◌∙◌, subst, ⊎_elim, inl, inr}
use Rattle.std.proofs.lemmas.Bool.{false≢true, lt-ltb}
use Rattle.std.specs.Prelude.{IfOk, is_some, nat_lt, if◌then◌else◌}
use Rattle.std.specs.Option.{option_and_then}
use Rattle.goal_terms.specs.declared.answers.Response.{Response}
use Rattle.goal_terms.specs.declared.ids.OpaqueId.{OpaqueId}
use Rattle.goal_terms.specs.declared.modes.TypingMode.{TypingMode}
use Rattle.goal_terms.specs.declared.modes.TypingMode.TheVariants as mode
use Rattle.goal_terms.specs.declared.predicates.Goal.{Goal}
use Rattle.goal_terms.specs.declared.predicates.NormalizesTo.{NormalizesTo}
use Rattle.goal_terms.specs.declared.terms.AliasTermKind.{AliasTermKind}
use Rattle.goal_terms.specs.declared.terms.AliasTermKind.TheVariants.{ProjectionTy, ProjectionConst, InherentTy, InherentConst, OpaqueTy, FreeTy, FreeConst, UnevaluatedConst}
use Rattle.goal_tables.specs.Rows.{opaque_of}
use Rattle.goal_tables.specs.declared.rows.OpaqueRow.{OpaqueRow}
use Rattle.goal_tables.specs.declared.rows.Tables.{Tables}
use Rattle.goal_lists.specs.OpaqueUses.{first_use, first_use_of}
use Rattle.goal_lists.specs.Settings.{is_empty, is_headline, among}
use Rattle.goal_kinds.specs.declared.faults.Fault.{Fault}
use Rattle.goal_lists.specs.declared.lists.FirstUse.{FirstUse}
use Rattle.goal_lists.specs.declared.lists.FirstUse.TheVariants as first
use Rattle.goal_solver.specs.Answers.{IsOwed, is_closed_alias, expected_variable}
use Rattle.goal_solver.specs.OpenGoals.{WhenAnswered}
use Rattle.goal_solver.specs.Promises.{AnswersAlias, DefinesAlias, NamesNoClass, RunsHidden, is_defined, IsNotDefined}
use Rattle.goal_solver.specs.Recording.{is_ambiguous}
use Rattle.goal_solver.specs.State.{State}

both-parts : (a b : Bool) → a && b ≡ true → (a ≡ true) × (b ≡ true)
both-parts true true e = (refl, refl)
both-parts true false e = absurd (false≢true e)
both-parts false true e = absurd (false≢true e)
both-parts false false e = absurd (false≢true e)

some-of : {A : Type 0} (o : Option A) → is_some o ≡ true → (x : A) × (o ≡ Some x)
some-of None e = absurd (false≢true e)
some-of (Some x) e = (x, refl)

-- what is so of the goal of such a type
pub record DefinedGoal (s : State) (g : Goal NormalizesTo) : Type 0 where
  pub depth : ℕ
  pub above : s.remaining_depth ≡ suc depth
  pub variable : ℕ
  pub expected : expected_variable g.predicate.term ≡ Some variable
  pub closed : is_closed_alias g.predicate.alias g.param_env.items ≡ true
  pub taken : FirstUse
  pub first : first_use_of s.tables s.typing_mode g.predicate.alias.kind ≡ Some taken

depth-above : (d : ℕ) → nat_lt 0 d ≡ true → (n : ℕ) × (d ≡ suc n)
depth-above zero e = absurd (false≢true e)
depth-above (suc n) e = (n, refl)

pub defined-goal : (s : State) (g : Goal NormalizesTo) → is_defined s g ≡ true → DefinedGoal s g
defined-goal s g e =
    let whole = both-parts _ _ e in
    let front = both-parts _ _ whole.0 in
    let start = both-parts _ _ front.0 in
    let deep = depth-above s.remaining_depth start.0 in
    let some = some-of (expected_variable g.predicate.term) start.1 in
    let uses = some-of (first_use_of s.tables s.typing_mode g.predicate.alias.kind) whole.1 in
    record { depth = deep.0; above = deep.1; variable = some.0; expected = some.1; closed = front.1; taken = uses.0; first = uses.1 }

-- a mode that defines an opaque type is neither of the headline nor the erased one
abbrev IsOther : TypingMode → Type 0
IsOther m = (is_headline m ≡ false) × (m ≡ mode.ErasedNotCoherence → ⊥) × (m ≡ mode.Coherence → ⊥)

some-among : (ids : List OpaqueId) (r : OpaqueRow) (b : Bool) (f x : FirstUse) → among ids r ≡ b → (if b then Some f else None) ≡ Some x → is_empty ids ≡ false
some-among [] r true f x e h = absurd (false≢true (sym (and-false r.is_local) ∙ e)) where
  and-false : (b : Bool) → (b && false) ≡ false
  and-false true = refl
  and-false false = refl
some-among [] r false f x e h = absurd (cc)
some-among (i ∷ ids) r b f x e h = refl

row-other : (m : TypingMode) (r : OpaqueRow) (x : FirstUse) → first_use m r ≡ Some x → IsOther m
row-other mode.Coherence r x e = absurd (cc)
row-other (mode.Analysis ids) r x e = (some-among ids.items r (among ids.items r) first.Expected x refl e, (λ h. absurd (cc)), (λ h. absurd (cc)))
row-other (mode.Borrowck ids) r x e = (some-among ids.items r (among ids.items r) first.TypeChecked x refl e, (λ h. absurd (cc)), (λ h. absurd (cc)))
row-other (mode.PostBorrowckAnalysis ids) r x e = absurd (cc)
row-other mode.PostAnalysis r x e = absurd (cc)
row-other mode.ErasedNotCoherence r x e = absurd (cc)

rows-other : (m : TypingMode) (o : Option OpaqueRow) (x : FirstUse) → option_and_then (first_use m) o ≡ Some x → IsOther m
rows-other m None x e = absurd (cc)
rows-other m (Some r) x e = row-other m r x e

pub other-mode : (t : Tables) (m : TypingMode) (k : AliasTermKind) (x : FirstUse) → first_use_of t m k ≡ Some x → IsOther m
other-mode t m (OpaqueTy i) x e = rows-other m (opaque_of t i) x e
other-mode t m (ProjectionTy i) x e = absurd (cc)
other-mode t m (ProjectionConst i) x e = absurd (cc)
other-mode t m (InherentTy i) x e = absurd (cc)
other-mode t m (InherentConst i) x e = absurd (cc)
other-mode t m (FreeTy i) x e = absurd (cc)
other-mode t m (FreeConst i) x e = absurd (cc)
other-mode t m (UnevaluatedConst i) x e = absurd (cc)

-- so no answer of a headline mode is owed
pub defined-unowed : (s z : State) (p : NormalizesTo) (x : FirstUse) (m : TypingMode) → first_use_of s.tables s.typing_mode p.alias.kind ≡ Some x → z.typing_mode ≡ s.typing_mode →
    IsOwed z m → IsNotDefined s p m → ⊥
defined-unowed s z p x m e same owed (inl headline) =
    let other = other-mode s.tables s.typing_mode p.alias.kind x e in
    ⊎_elim (λ h. false≢true (sym other.0 ∙ ap is_headline (sym same ∙ h) ∙ headline)) (λ h. other.1 (sym same ∙ h.0)) owed
defined-unowed s z p x m e same owed (inr none) = absurd (cc (sym none ∙ e))

-- nor is the goal ambiguous by its mode
ambiguous-mode : (m : TypingMode) (k : AliasTermKind) → is_ambiguous m k ≡ true → m ≡ mode.Coherence
ambiguous-mode mode.Coherence k e = refl
ambiguous-mode (mode.Analysis ids) k e = absurd (cc)
ambiguous-mode (mode.Borrowck ids) k e = absurd (cc)
ambiguous-mode (mode.PostBorrowckAnalysis ids) k e = absurd (cc)
ambiguous-mode mode.PostAnalysis k e = absurd (cc)
ambiguous-mode mode.ErasedNotCoherence k e = absurd (cc)

pub defined-unambiguous : (s : State) (k : AliasTermKind) (x : FirstUse) → first_use_of s.tables s.typing_mode k ≡ Some x → is_ambiguous s.typing_mode k ≡ true → ⊥
defined-unambiguous s k x e is = (other-mode s.tables s.typing_mode k x e).2 (ambiguous-mode s.typing_mode k is)

-- the list that is run names no class
pub runs-unnamed : (g : Goal NormalizesTo) (f : FirstUse) (s u : State) (r : Result Response Fault) → WhenAnswered r (RunsHidden g f s r u) → IfOk r NamesNoClass
runs-unnamed g f s u (Ok q) h = h.2.closes.lists.proven_via
runs-unnamed g f s u (Err e) h = tt

-- such a goal is answered
pub defined-answers : (s z : State) (g : Goal NormalizesTo) (r : Result Response Fault) → DefinedGoal s g → z.typing_mode ≡ s.typing_mode → IfOk r NamesNoClass → AnswersAlias s z g.param_env.items g.predicate r
defined-answers s z g r d same unnamed = record {
  exact = λ ok m owed other. absurd (defined-unowed s z g.predicate d.taken m d.first same owed other);
  lasts = λ m n owed other le. absurd (defined-unowed s z g.predicate d.taken m d.first same owed other);
  quiet = λ none. absurd (cc (sym none ∙ d.first));
  no_class = unnamed;
}

-- another goal isn't one of such a type
pub undefined-answers : (s z : State) (g : Goal NormalizesTo) (r : Result Response Fault) → is_defined s g ≡ false → is_closed_alias g.predicate.alias g.param_env.items ≡ true → DefinesAlias s z g r
undefined-answers s z g r e closed n k f uses expected above =
    absurd (false≢true (sym e ∙ all-true (nat_lt 0 s.remaining_depth) (is_some (expected_variable g.predicate.term)) (is_closed_alias g.predicate.alias g.param_env.items)
    (is_some (first_use_of s.tables s.typing_mode g.predicate.alias.kind)) (subst (λ k. nat_lt 0 k ≡ true) (sym above) (lt-ltb 0 (suc n) (omega arith))) (ap is_some expected) closed (ap is_some uses))) where
      all-true : (a b c d : Bool) → a ≡ true → b ≡ true → c ≡ true → d ≡ true → a && b && c && d ≡ true
      all-true a b c d p q r s = cc
