-- A context in which a run was stopped, and another one is to go on.
use Rattle.std.proofs.Common.{◌≡◌, ◌<◌, ℕ, true, List, [], length, Result, Ok, Err, refl, sym, ap, ◌∙◌, subst, arith, Option, Some, None, inl, inr, suc, zero}
use Rattle.std.specs.List.{Contains}
use Rattle.std.specs.Prelude.{OnOk}
use Rattle.goal_terms.specs.Tree.{Tree}
use Rattle.goal_terms.specs.declared.answers.OpaqueAccess.{OpaqueAccess}
use Rattle.goal_terms.specs.declared.ids.OpaqueId.{OpaqueId}
use Rattle.goal_terms.specs.declared.modes.TypingMode.{TypingMode}
use Rattle.goal_terms.specs.declared.modes.TypingMode.TheVariants as mode
use Rattle.goal_terms.specs.declared.predicates.Clause.{Clause}
use Rattle.goal_terms.specs.declared.terms.AliasTermKind.{AliasTermKind}
use Rattle.goal_terms.specs.declared.terms.AliasTermKind.TheVariants.{ProjectionTy, ProjectionConst, InherentTy, InherentConst, OpaqueTy, FreeTy, FreeConst, UnevaluatedConst}
use Rattle.goal_lists.specs.Aliases.{OpaqueGives, OpaqueRefuted, AliasGives, AliasRefuted}
use Rattle.goal_lists.specs.Answers.{setting_of, which_term, maybe, IsAnswer}
use Rattle.goal_lists.specs.Level.{Level}
use Rattle.goal_lists.specs.Levels.{level}
use Rattle.goal_lists.specs.Words.{OfRow, Either}
use Rattle.goal_eval.specs.Outcomes.{RunsAs}
use Rattle.goal_eval.specs.declared.eval.outcomes.OnAccess.TheVariants as on_access
use Rattle.goal_solver.specs.Added.{RecordsAccess}
use Rattle.goal_solver.specs.Answers.{IsOwed, level_over, IsAliasOpen}
use Rattle.goal_solver.specs.GoingBack.{GoesBack, restored}
use Rattle.goal_solver.specs.Recording.{is_ambiguous}
use Rattle.goal_solver.specs.State.{State}
use Rattle.goal_solver.proofs.AnswerLemmas.{owed-before}
use Rattle.goal_solver.proofs.FoundAnswers.{sort-erased}
use Rattle.goal_solver.proofs.RecordedLemmas.{entered-contains}
use Rattle.goal_solver.proofs.SettledLemmas.{closed-erased}
use Rattle.goal_tables.specs.Rows.{opaque_of}
use Rattle.goal_tables.specs.declared.rows.OpaqueRow.{OpaqueRow}
use Rattle.goal_tables.specs.declared.rows.Tables.{Tables}

-- lifetimes change neither what a term is nor which variables stand in it
pub ruleset sorts = (sort-erased, closed-erased)

-- an empty list contains nothing
empty-contains : {A : Type 0} (xs : List A) (x : A) → xs ≡ [] → Contains xs x → ⊥
empty-contains xs x e h = nothing x (subst (λ ys. Contains ys x) e h) where
  none : {A : Type 0} (x : A) (k : ℕ) → k < length {A = A} [] → ⊥
  none x k l = absurd (omega arith)

  nothing : {A : Type 0} (x : A) → Contains [] x → ⊥
  nothing x h = none x h.0 h.1

-- where an access was recorded in the erased mode only its own answer is owed, for which a run that goes on speaks
recorded-own : (a z : State) (x : OpaqueAccess) → RecordsAccess x a z → (m : TypingMode) → IsOwed z m → RunsAs on_access.Record z.typing_mode m
unfolding RunsAs
recorded-own a z x r m (inl h) = inl (h, inr (inr refl))
recorded-own a z x r m (inr h) = absurd (empty-contains z.accesses x h.2 (entered-contains x a.accesses z.accesses r.0))

pub recorded-own_on : {T E : Type 0} (r : Result T E) (a z : State) (x : OpaqueAccess) → OnOk r (RecordsAccess x a z) → OnOk r ((m : TypingMode) → IsOwed z m → RunsAs on_access.Record z.typing_mode m)
recorded-own_on (Ok y) a z x r = recorded-own a z x r
recorded-own_on (Err f) a z x r = tt

-- only accesses are more
pub accesses-alone : (a b c : State) → b ≡ record a { accesses = b.accesses } → c ≡ record b { accesses = c.accesses } → c ≡ record a { accesses = c.accesses }
accesses-alone a b c e f = f ∙ ap (λ (s : State). record s { accesses = c.accesses }) e

-- what three calls leave one after the other
pub restored-twice : (a b c : State) → b ≡ restored a b → c ≡ restored b c → c ≡ restored a c
restored-twice a b c e f = f ∙ ap (λ (s : State). restored s c) e

-- what is so over what the first run and its access leave is so over the context before
pub rerun-over : (P : Tables → ℕ → Type 0) (a f b : State) → f ≡ restored a f → b ≡ record f { accesses = b.accesses } → P b.tables b.remaining_depth → P a.tables a.remaining_depth
rerun-over P a f b e g h = subst (λ (s : State). P s.tables s.remaining_depth) e (subst (λ (s : State). P s.tables s.remaining_depth) g h)

-- so what the second run says of each mode for which it speaks is said of each one that is owed an answer
pub rerun-says : (P : Tables → ℕ → Type 0) (a f b z : State) (m : TypingMode) → f ≡ restored a f → b ≡ record f { accesses = b.accesses } → GoesBack b z →
    ((k : TypingMode) → IsOwed b k → RunsAs on_access.Record b.typing_mode k) → (RunsAs on_access.Record b.typing_mode m → P b.tables b.remaining_depth) → IsOwed z m → P a.tables a.remaining_depth
rerun-says P a f b z m e g back on says owed = rerun-over P a f b e g (says (on m (owed-before b z m back owed)))

-- in coherence an opaque type has no term, and isn't refuted to have one
coherent-gives : (t : Tables) (env : List Clause) (L : Level) (i : OpaqueId) (ts : List Tree) (u : Tree) (o : Option OpaqueRow) →
    OfRow o (OpaqueGives (setting_of t mode.Coherence env) L i ts u) → ⊥
unfolding OfRow OpaqueGives Either
coherent-gives t env L i ts u None h = h
coherent-gives t env L i ts u (Some r) h = h

coherent-refuted : (t : Tables) (env : List Clause) (L : Level) (ts : List Tree) (o : Option OpaqueRow) → OfRow o (OpaqueRefuted (setting_of t mode.Coherence env) L ts) → ⊥
unfolding OfRow OpaqueRefuted Either
coherent-refuted t env L ts None h = h
coherent-refuted t env L ts (Some r) h = h

coherent-open : (t : Tables) (env : List Clause) (n : ℕ) (i : OpaqueId) (ts : List Tree) → IsAnswer (level (setting_of t mode.Coherence env) n) (which_term (OpaqueTy i) ts) maybe
unfolding level AliasGives AliasRefuted IsAnswer
coherent-open t env zero i ts = (λ u h. h, λ h. h)
coherent-open t env (suc n) i ts =
    let L = level (setting_of t mode.Coherence env) n in
    (λ u h. coherent-gives t env L i ts u (opaque_of t i) h, λ h. coherent-refuted t env L ts (opaque_of t i) h)

-- an alias whose goal is ambiguous is an opaque type in coherence
ambiguous-opaque : (run : TypingMode) (k : AliasTermKind) → is_ambiguous run k ≡ true → (run ≡ mode.Coherence) × ((i : OpaqueId) × (k ≡ OpaqueTy i))
ambiguous-opaque mode.Coherence (OpaqueTy i) e = (refl, (i, refl))
ambiguous-opaque mode.Coherence (ProjectionTy i) e = absurd (cc)
ambiguous-opaque mode.Coherence (ProjectionConst i) e = absurd (cc)
ambiguous-opaque mode.Coherence (InherentTy i) e = absurd (cc)
ambiguous-opaque mode.Coherence (InherentConst i) e = absurd (cc)
ambiguous-opaque mode.Coherence (FreeTy i) e = absurd (cc)
ambiguous-opaque mode.Coherence (FreeConst i) e = absurd (cc)
ambiguous-opaque mode.Coherence (UnevaluatedConst n) e = absurd (cc)
ambiguous-opaque (mode.Analysis ids) k e = absurd (cc)
ambiguous-opaque (mode.Borrowck ids) k e = absurd (cc)
ambiguous-opaque (mode.PostBorrowckAnalysis ids) k e = absurd (cc)
ambiguous-opaque mode.PostAnalysis k e = absurd (cc)
ambiguous-opaque mode.ErasedNotCoherence k e = absurd (cc)

-- so undecided is its answer
pub ambiguous-answer : (s : State) (k : AliasTermKind) (m : TypingMode) (env : List Clause) (ts : List Tree) → is_ambiguous s.typing_mode k ≡ true → IsOwed s m →
    IsAnswer (level_over s m env) (which_term k ts) maybe
ambiguous-answer s k m env ts e (inl h) =
    let is = ambiguous-opaque s.typing_mode k e in
    subst (λ x. IsAnswer (level (setting_of s.tables x env) s.remaining_depth) (which_term k ts) maybe) (sym is.0 ∙ h)
    (subst (λ x. IsAnswer (level (setting_of s.tables mode.Coherence env) s.remaining_depth) (which_term x ts) maybe) (sym is.1.1)
    (coherent-open s.tables env s.remaining_depth is.1.0 ts))
ambiguous-answer s k m env ts e (inr h) = let both : mode.Coherence ≡ mode.ErasedNotCoherence = sym (ambiguous-opaque s.typing_mode k e).0 ∙ h.0 in absurd (cc)

-- nothing is given then, and nothing is refuted
pub ambiguous-open : (s : State) (k : AliasTermKind) (m : TypingMode) (env : List Clause) (ts : List Tree) → is_ambiguous s.typing_mode k ≡ true → IsOwed s m →
    IsAliasOpen (level_over s m env) k ts
unfolding IsAnswer
ambiguous-open s k m env ts e owed =
    let neither : IsAnswer (level_over s m env) (which_term k ts) maybe = ambiguous-answer s k m env ts e owed in
    (λ t is h. neither.0 t h, neither.1)
