-- The goal of an opaque type is never answered yes in coherence, also where inference variables stand in it.
use Rattle.std.proofs.Common.{◌≡◌, inl, inr, ℕ, zero, suc, Bool, true, false, List, [], ◌∷◌, map, Option, Some, None, Result, Ok, Err, refl, sym, ap, ◌∙◌, subst}
use Rattle.std.specs.Prelude.{option_map}
use Rattle.std.proofs.lemmas.Bool.{false≢true}
use Rattle.goal_terms.specs.Tree.{Tree}
use Rattle.goal_terms.specs.declared.answers.Certainty.{Certainty}
use Rattle.goal_terms.specs.declared.answers.Certainty.TheVariants as certainty
use Rattle.goal_terms.specs.declared.answers.Response.{Response}
use Rattle.goal_terms.specs.declared.ids.OpaqueId.{OpaqueId}
use Rattle.goal_terms.specs.declared.modes.TypingMode.{TypingMode}
use Rattle.goal_terms.specs.declared.modes.TypingMode.TheVariants as mode
use Rattle.goal_terms.specs.declared.predicates.Clause.{Clause}
use Rattle.goal_terms.specs.declared.predicates.Goal.{Goal}
use Rattle.goal_terms.specs.declared.predicates.NormalizesTo.{NormalizesTo}
use Rattle.goal_terms.specs.declared.terms.AliasTerm.{AliasTerm}
use Rattle.goal_terms.specs.declared.terms.AliasTermKind.{AliasTermKind}
use Rattle.goal_terms.specs.declared.terms.AliasTermKind.TheVariants as alias_kind
use Rattle.goal_tables.specs.Rows.{opaque_of}
use Rattle.goal_tables.specs.declared.rows.OpaqueRow.{OpaqueRow}
use Rattle.goal_tables.specs.declared.rows.Tables.{Tables}
use Rattle.goal_lists.specs.AliasLists.{alias_list, entries_of_row, opaque_alias_list, opaque_list}
use Rattle.goal_lists.specs.Answers.{setting_of}
use Rattle.goal_lists.specs.Entries.{Entry, ambiguous, undecided, arguments, row_clauses, row_conditions, expected}
use Rattle.goal_lists.specs.Premises.{TraitTree}
use Rattle.goal_kinds.specs.ProjectionKind.{projected_trait}
use Rattle.goal_lists.specs.Projections.{projected_item}
use Rattle.goal_kinds.specs.RuleLists.{IsListed, entry_of}
use Rattle.goal_lists.specs.RowWords.{given as given_args}
use Rattle.goal_kinds.specs.declared.faults.Fault.{Fault}
use Rattle.goal_kinds.specs.declared.rules.Rule.{Rule}
use Rattle.goal_kinds.specs.declared.rules.RuleEntry.{RuleEntry}
use Rattle.goal_kinds.specs.declared.rules.RuleEntry.TheVariants as entry
use Rattle.goal_solver.specs.OpenAnswers.{MergesProjection}
use Rattle.goal_solver.specs.OpenGoals.{WhenAnswered}
use Rattle.goal_solver.specs.GoingBack.{at_depth}
use Rattle.goal_solver.specs.OpenProjections.{RunsAlias}
use Rattle.goal_solver.specs.OpenRuns.{OpenProgress, open_start, RunsOpen, RunsThrough, Steps}
use Rattle.goal_solver.specs.Promises.{NeverYes}
use Rattle.goal_solver.specs.Recording.{is_ambiguous}
use Rattle.goal_solver.specs.Responses.{both_certain}
use Rattle.goal_solver.specs.State.{State}

-- an entry that decides nothing
is_unsure : Entry → Bool
is_unsure ambiguous = true
is_unsure undecided = true
is_unsure _ = false

some-unsure : {A : Type 0} (f : A → Entry) → ((y : A) → is_unsure (f y) ≡ false) → (o : Option A) (x : Entry) → option_map f o ≡ Some x → is_unsure x ≡ true → ⊥
some-unsure f sure None x e u = absurd (cc)
some-unsure f sure (Some y) x e u = absurd (false≢true (sym (sure y) ∙ ap is_unsure (cc) ∙ u))

maybe-last : (c : Certainty) → both_certain c certainty.Maybe ≡ certainty.Maybe
maybe-last certainty.Yes = refl
maybe-last certainty.Maybe = refl

-- after its step a run is unsure
entry-unsure : (t : Tables) (env : List Clause) (e : RuleEntry) (x : Entry) (s u : State) (p q : OpenProgress) → entry_of t e ≡ Some x → is_unsure x ≡ true → Steps env e s p u q →
    q.certainty ≡ certainty.Maybe
unfolding Steps is_unsure
entry-unsure t env entry.Ambiguous x s u p q e h step = ap (λ (r : OpenProgress). r.certainty) step.1 ∙ maybe-last p.certainty
entry-unsure t env entry.Undecided x s u p q e h step = ap (λ (r : OpenProgress). r.certainty) step.1 ∙ maybe-last p.certainty
entry-unsure t env entry.Refused x s u p q e h step = absurd step
entry-unsure t env entry.Evaluation x s u p q e h step = absurd (cc)
entry-unsure t env (entry.Arguments a) x s u p q e h step = absurd (some-unsure arguments (λ y. refl) _ x e h)
entry-unsure t env (entry.Equation l r) x s u p q e h step = absurd (cc)
entry-unsure t env (entry.Clause g k) x s u p q e h step = absurd (cc)
entry-unsure t env (entry.RowClauses w n) x s u p q e h step = absurd (some-unsure (λ cs. row_clauses cs n) (λ y. refl) _ x e h)
entry-unsure t env (entry.RowConditions b i n) x s u p q e h step = absurd (some-unsure (λ rs. row_conditions b rs n) (λ y. refl) _ x e h)
entry-unsure t env (entry.Term v k) x s u p q e h step = absurd (some-unsure expected (λ y. refl) _ x e h)
entry-unsure t env (entry.HiddenType v k f) x s u p q e h step = absurd (some-unsure expected (λ y. refl) _ x e h)
entry-unsure t env (entry.Access a) x s u p q e h step = absurd (cc)
entry-unsure t env (entry.DelayedFault f) x s u p q e h step = absurd (cc)

-- so is a list of such an entry alone
list-unsure : (t : Tables) (env : List Clause) (es : List RuleEntry) (x : Entry) (s u : State) (q : OpenProgress) → map (entry_of t) es ≡ Some x ∷ [] → is_unsure x ≡ true →
    RunsThrough env es s open_start u q → q.certainty ≡ certainty.Maybe
unfolding RunsThrough
list-unsure t env [] x s u q e h run = absurd (cc)
list-unsure t env (k ∷ []) x s u q e h run =
    ap (λ (r : OpenProgress). r.certainty) run.3.1 ∙ entry-unsure t env k x s run.0 open_start run.1 (cc) h run.2
list-unsure t env (k ∷ l ∷ ls) x s u q e h run = absurd (cc)

run-unsure : (t : Tables) (env : List Clause) (rule : Rule) (x : Entry) (s u : State) (r : Response) → IsListed t rule (Some (x ∷ [])) → is_unsure x ≡ true →
    RunsOpen env rule.entries.items s u r → r.certainty ≡ certainty.Maybe
run-unsure t env rule x s u r is h run =
    run.closes.certainty ∙ ap (λ c. both_certain c run.closes.answered) (list-unsure t env rule.entries.items x _ run.last run.progress is h run.through)

-- the list of an opaque type in coherence
opaque-unsure : (t : Tables) (env : List Clause) (i : OpaqueId) (args : List Tree) (o : Option OpaqueRow) → opaque_of t i ≡ o →
    (x : Entry) × (alias_list (setting_of t mode.Coherence env) (alias_kind.OpaqueTy i) args ≡ x ∷ []) × (is_unsure x ≡ true)
unfolding alias_list entries_of_row opaque_list is_unsure
opaque-unsure t env i args None e = (undecided, ap (λ (r : Option OpaqueRow). entries_of_row r (opaque_alias_list (setting_of t mode.Coherence env) i args)) e, refl)
opaque-unsure t env i args (Some r) e = (ambiguous, ap (λ (q : Option OpaqueRow). entries_of_row q (opaque_alias_list (setting_of t mode.Coherence env) i args)) e, refl)

kind-opaque : (m : TypingMode) (k : AliasTermKind) → is_ambiguous m k ≡ true → (m ≡ mode.Coherence) × ((i : OpaqueId) × (k ≡ alias_kind.OpaqueTy i))
kind-opaque mode.Coherence (alias_kind.OpaqueTy i) e = (refl, (i, refl))
kind-opaque mode.Coherence (alias_kind.ProjectionTy i) e = absurd (cc)
kind-opaque mode.Coherence (alias_kind.ProjectionConst i) e = absurd (cc)
kind-opaque mode.Coherence (alias_kind.InherentTy i) e = absurd (cc)
kind-opaque mode.Coherence (alias_kind.InherentConst i) e = absurd (cc)
kind-opaque mode.Coherence (alias_kind.FreeTy i) e = absurd (cc)
kind-opaque mode.Coherence (alias_kind.FreeConst i) e = absurd (cc)
kind-opaque mode.Coherence (alias_kind.UnevaluatedConst i) e = absurd (cc)
kind-opaque (mode.Analysis ids) k e = absurd (cc)
kind-opaque (mode.Borrowck ids) k e = absurd (cc)
kind-opaque (mode.PostBorrowckAnalysis ids) k e = absurd (cc)
kind-opaque mode.PostAnalysis k e = absurd (cc)
kind-opaque mode.ErasedNotCoherence k e = absurd (cc)

-- so what its list is answered isn't a yes
alias-unsure : (g : Goal NormalizesTo) (s u : State) (r : Response) → is_ambiguous s.typing_mode g.predicate.alias.kind ≡ true → RunsAlias g s (Ok r) u → r.certainty ≡ certainty.Maybe
alias-unsure g s u r e (inl h) = h.1
alias-unsure g s u r e (inr h) =
    let args : List Tree = given_args g.predicate.alias.args in
    let is = kind-opaque s.typing_mode g.predicate.alias.kind e in
    let list = opaque-unsure s.tables g.param_env.items is.1.0 args (opaque_of s.tables is.1.0) refl in
    run-unsure s.tables g.param_env.items h.0 list.0 s u r
    (subst (λ es. IsListed s.tables h.0 (Some es))
    (ap (λ m. alias_list (setting_of s.tables m g.param_env.items) g.predicate.alias.kind args) is.0
    ∙ ap (λ k. alias_list (setting_of s.tables mode.Coherence g.param_env.items) k args) is.1.1 ∙ list.1) h.1.list)
    list.2 h.2

no-item : (m : TypingMode) (k : AliasTermKind) → is_ambiguous m k ≡ true → projected_item k ≡ None
no-item m k e = let is = kind-opaque m k e in ap projected_item is.1.1

no-trait_of : (t : Tables) (a : AliasTerm) (q : TraitTree) → projected_item a.kind ≡ None → projected_trait t a ≡ Some q → ⊥
no-trait_of t a q e f = absurd (cc)

merged-unsure : (g : Goal NormalizesTo) (s u : State) (r : Response) → is_ambiguous s.typing_mode g.predicate.alias.kind ≡ true → MergesProjection g s (Ok r) u → r.certainty ≡ certainty.Maybe
merged-unsure g s u r e (inl h) = alias-unsure g s u r e h.1
merged-unsure g s u r e (inr h) = absurd (no-trait_of s.tables g.predicate.alias _ (no-item s.typing_mode g.predicate.alias.kind e) h.3.asked)

-- also of one at the depth below
pub merged-never : (s u : State) (g : Goal NormalizesTo) (r : Result Response Fault) (d : ℕ) → s.remaining_depth ≡ d → (s.remaining_depth ≡ 0 → ⊥) →
    ((n : ℕ) → s.remaining_depth ≡ suc n → WhenAnswered r (MergesProjection g (at_depth n s) r (at_depth n u))) → NeverYes s g r
merged-never s u g r zero e some h is = absurd (some e)
merged-never s u g (Ok x) (suc n) e some h is = merged-unsure g (at_depth n s) (at_depth n u) x is (h n e)
merged-never s u g (Err f) (suc n) e some h is = tt
