-- What equating terms says.
use Rattle.std.proofs.Common.{◌≡◌, ◌≢◌, ◌↔◌, inl, inr, ℕ, zero, suc, Bool, true, false, ◌||◌, ◌&&◌, List, [], ◌∷◌, length, map, take, drop, Option, Some, None, Result, Ok, Err, refl, sym, ap, ◌∙◌, subst}
use Rattle.std.specs.Prelude.{if◌then◌else◌, slice_get, not, unwrap_or, IfOk, IfErr}
use Rattle.std.specs.List.{list_any}
use Rattle.goal_terms.specs.NodeTests.{some_node, some_in_row, is_any_infer, same_var_kind}
use Rattle.std.proofs.lemmas.Bool.{false≢true}
use Rattle.goal_terms.specs.SameTree.{same_node, same_tree}
use Rattle.goal_terms.specs.declared.heads.Node.TheVariants as nodes
use Rattle.goal_interner.specs.TableMeaning.{Keeps}
use Rattle.goal_terms.specs.Tree.{Tree, Trees, node, alias, variable, none, more}
use Rattle.goal_terms.specs.declared.heads.Variable.{Variable}
use Rattle.goal_terms.specs.declared.modes.TypingMode.{TypingMode}
use Rattle.goal_terms.specs.declared.modes.TypingMode.TheVariants as mode
use Rattle.goal_terms.specs.declared.predicates.Clause.{Clause}
use Rattle.goal_interner.specs.declared.term_nodes.TermId.{TermId}
use Rattle.goal_tables.specs.Predicates.{some_in_env}
use Rattle.goal_infer.specs.Inference as inference
use Rattle.goal_infer.specs.Inference.{Inference}
use Rattle.goal_infer.specs.ListUnification.{MakesAllSame, AllClosed, ListsClash, AreDecidedWherePlain, AreIdentified, AreClashing, AreUntouched, lists_are_plain}
use Rattle.goal_terms.specs.declared.answers.VarKind.{VarKind}
use Rattle.goal_infer.specs.Replacement.{replaced, number_of, kind_of_variable}
use Rattle.goal_infer.specs.Resolution.{resolution, resolved, term_at, binding_of, binding_in, Agrees, IsSolved}
use Rattle.goal_infer.specs.Undo.{unbound_at, unbound}
use Rattle.goal_infer.specs.Unification.{sides, IsUnified, Clash, RowsClash, are_plain, rows_are_plain, both_definite, is_open}
use Rattle.goal_infer.proofs.ReplacementLemmas.{replaced-twice, replaced-pointwise}
use Rattle.goal_infer.specs.declared.undo.InferVariable.{InferVariable}
use Rattle.goal_infer.specs.declared.unify.Unified.{Unified}
use Rattle.goal_infer.specs.declared.unify.Unified.TheVariants as unified
use Rattle.goal_infer.proofs.SolvedLemmas.{agrees-kept}
use Rattle.goal_lists.specs.Answers.{setting_of}
use Rattle.goal_lists.specs.Equality.{Unequal, RowUnequal}
use Rattle.goal_lists.specs.Interned.{erased_at, erased_all}
use Rattle.goal_lists.specs.Level.{Level, nothing}
use Rattle.goal_lists.specs.Levels.{level}
use Rattle.goal_lists.specs.Settings.{Setting, is_coherence}
use Rattle.goal_lists.specs.Words.{Pairs, SomePair}
use Rattle.goal_solver.specs.Answers.{IsOwed, IsFinalIn}
use Rattle.goal_solver.specs.GoingBack.{GoesBack, restored}
use Rattle.goal_eval.specs.Outcomes.{RunsFor, setting_in}
use Rattle.goal_solver.specs.Relating.{IsRelated, ChangesRecords, AgreesWith, Identifies, all_replaced, all_bound, SaysEqual}
use Rattle.goal_solver.specs.Settled.{AreSettled, AreSettledAt, AreSettledIn, HoldsWithMemory, SaysSettled, outcome_in, IsPlainOrSame}
use Rattle.goal_solver.specs.State.{State, IsValid, kinds_of}
use Rattle.goal_eval.specs.declared.eval.outcomes.Setting as over
use Rattle.goal_eval.specs.declared.eval.outcomes.Stop.TheVariants as stop
use Rattle.goal_lists.specs.declared.outcomes.Outcome.{Outcome}
use Rattle.goal_lists.specs.declared.outcomes.Outcome.TheVariants as outcome
use Rattle.goal_eval.specs.declared.eval.outcomes.Stop.{Stop}
use Rattle.goal_solver.proofs.SettledLemmas.{replaced-closed}

-- what an option holds
some-is : (v w : InferVariable) → Some v ≡ Some w → v ≡ w
some-is v w e = ap (λ o. unwrap_or o v) e

none-is-some : (id : TermId) → None ≡ Some id → ⊥
none-is-some id e = absurd (cc)

-- a variable that is bound after bindings were undone was bound before
bound-at : (n : ℕ) (vs : List InferVariable) (i : ℕ) (x : InferVariable) (id : TermId) → x.binding ≡ Some id → slice_get (unbound_at n vs) i ≡ Some x → slice_get vs i ≡ Some x
unfolding unbound_at
bound-at n [] i x id b e = e
bound-at zero (v ∷ vs) zero x id b e = absurd (none-is-some id (ap (λ (w : InferVariable). w.binding) (some-is (record v { binding = None }) x e) ∙ b))
bound-at zero (v ∷ vs) (suc i) x id b e = e
bound-at (suc n) (v ∷ vs) zero x id b e = e
bound-at (suc n) (v ∷ vs) (suc i) x id b e = bound-at n vs i x id b e

bound-before : (ns : List ℕ) (vs : List InferVariable) (i : ℕ) (x : InferVariable) (id : TermId) → x.binding ≡ Some id → slice_get (unbound ns vs) i ≡ Some x → slice_get vs i ≡ Some x
unfolding unbound
bound-before [] vs i x id b e = e
bound-before (n ∷ ns) vs i x id b e = bound-at n vs i x id b (bound-before ns (unbound_at n vs) i x id b e)

get-taken : (n : ℕ) (vs : List InferVariable) (i : ℕ) (x : InferVariable) → slice_get (take n vs) i ≡ Some x → slice_get vs i ≡ Some x
get-taken zero vs i x e = absurd (cc)
get-taken (suc n) [] i x e = e
get-taken (suc n) (v ∷ vs) zero x e = e
get-taken (suc n) (v ∷ vs) (suc i) x e = get-taken n vs i x e

-- what a variable is bound to, by its entry
bound-entry : (o : Option InferVariable) (k : VarKind) (id : TermId) → binding_in o k ≡ Some id → (x : InferVariable) × (o ≡ Some x) × (x.binding ≡ Some id) × (binding_in (Some x) k ≡ Some id)
bound-entry None k id e = absurd (none-is-some id e)
bound-entry (Some x) k id e = (x, refl, entry (same_var_kind x.kind k) e, e) where
  entry : (b : Bool) → (if b then x.binding else None) ≡ Some id → x.binding ≡ Some id
  entry true h = h
  entry false h = absurd (none-is-some id h)

-- bindings stay where a state goes back to them
pub binding-stays : (a b : Inference) → inference.GoesBack a b → (v : Variable) (id : TermId) → binding_of a v ≡ Some id → binding_of b v ≡ Some id
unfolding inference.GoesBack binding_of
binding-stays a b back v id e =
    let entry = bound-entry (slice_get a.variables (number_of v)) (kind_of_variable v) id e in
    let vs : take (length a.variables) (unbound (drop (length a.trail) b.trail) b.variables) ≡ a.variables = ap (λ (s : Inference). s.variables) back in
    let there : slice_get b.variables (number_of v) ≡ Some entry.0 =
    bound-before (drop (length a.trail) b.trail) b.variables (number_of v) entry.0 id entry.2
    (get-taken (length a.variables) (unbound (drop (length a.trail) b.trail) b.variables) (number_of v) entry.0 (ap (λ xs. slice_get xs (number_of v)) vs ∙ entry.1)) in
    ap (λ o. binding_in o (kind_of_variable v)) there ∙ entry.3

-- what agrees with a later context agreed with the one it goes back to
agreed-weaker : (a b : State) → GoesBack a b → (ρ : Variable → Tree) → Agrees b.terms b.inference ρ → Agrees b.terms a.inference ρ
unfolding Agrees
agreed-weaker a b back ρ h v id e = h v id (binding-stays a.inference b.inference back.inference v id e)

pub agreed-back : (a b : State) → IsValid a → GoesBack a b → (ρ : Variable → Tree) → AgreesWith b ρ → AgreesWith a ρ
agreed-back a b valid back ρ h = (agrees-kept a.terms b.terms a.inference back.terms valid.solved ρ).0 (agreed-weaker a b back ρ h)

-- terms with bindings followed
pub bound-resolved : (s : State) (ids : List TermId) → map (resolved s.terms s.inference) ids ≡ all_bound s (erased_all s.terms ids)
unfolding resolved term_at
bound-resolved s [] = refl
bound-resolved s (id ∷ ids) = ap (λ ts. replaced (resolution s.terms s.inference) (erased_at s.terms id) ∷ ts) (bound-resolved s ids)

erased-terms : (T : List Tree) (ids : List TermId) → map (term_at T) ids ≡ erased_all T ids
unfolding term_at
erased-terms T [] = refl
erased-terms T (id ∷ ids) = ap (λ ts. erased_at T id ∷ ts) (erased-terms T ids)

pub followed-bound : (s : State) (U : List Tree) (ids rs : List TermId) → map (term_at U) rs ≡ map (resolved s.terms s.inference) ids → erased_all U rs ≡ all_bound s (erased_all s.terms ids)
followed-bound s U ids rs e = sym (erased-terms U rs) ∙ e ∙ bound-resolved s ids

-- what is settled over a setting, in each mode for which a run stands
pub settled-at : (c : over.Setting) (b : Bool) (n : ℕ) (ts us : List Tree) (r : Result Outcome Stop) (m : TypingMode) → RunsFor c m → (ts ≡ us → HoldsWithMemory r) → IfOk r (AreSettled c b n ts us) → IfOk r (SaysSettled (setting_in c m) b n ts us)
settled-at c b n ts us (Ok o) m runs same h = (same, record { holds = λ held ρ. h.holds held m runs ρ; refuted = h.refuted; closed = λ opens left right. h.closed opens left right m runs })
settled-at c b n ts us (Err x) m runs same h = tt

-- identical lists end for want of memory alone, and hold else
pub memory-alone : (H : Type 0) (r : Result Outcome Stop) → (H → HoldsWithMemory r) → H → IfErr r (λ s. s ≡ stop.OutOfMemory)
memory-alone H (Ok o) f h = tt
memory-alone H (Err s) f h = f h

pub same-holds : (S : Setting) (b : Bool) (n : ℕ) (ts us : List Tree) (r : Result Outcome Stop) → IfOk r (SaysSettled S b n ts us) → (ts ≡ us → IfErr r (λ s. s ≡ stop.OutOfMemory)) → ts ≡ us → HoldsWithMemory r
same-holds S b n ts us (Ok o) says ends e = says.0 e
same-holds S b n ts us (Err s) says ends e = ends e

-- so it is over a context, in each mode that is owed an answer
pub settled-owed : (a b z : State) (env : List Clause) (opens : Bool) (n : ℕ) (xs ys ts us : List Tree) (r : Result Outcome Stop) → b.tables ≡ a.tables → xs ≡ ts → ys ≡ us → opens ≡ not (some_in_env is_any_infer env) →
    ((m : TypingMode) → IsOwed z m → IfOk r (SaysSettled (setting_of b.tables m env) opens n xs ys)) → IfOk r (AreSettledIn a (IsOwed z) env n ts us)
settled-owed a b z env opens n xs ys ts us (Err x) e p q f h = tt
settled-owed a b z env opens n xs ys ts us (Ok o) e p q f h =
    let at : (m : TypingMode) → IsOwed z m → AreSettledAt (setting_of a.tables m env) opens n ts us o = λ m owed.
    subst (λ t. AreSettledAt (setting_of t m env) opens n ts us o) e
    (subst (λ v. AreSettledAt (setting_of b.tables m env) opens n ts v o) q
    (subst (λ u. AreSettledAt (setting_of b.tables m env) opens n u ys o) p (h m owed).1)) in
    record {
      holds = λ held m owed ρ. (at m owed).holds held ρ;
      refuted = λ never ρ. (at z.typing_mode (inl refl)).refuted never ρ;
      closed = λ sides m owed. (at m owed).closed (f ∙ ap not sides.0) sides.1 sides.2;
    }

-- terms without variables stay as they are when bindings are followed
neither : (a b : Bool) → a || b ≡ false → (a ≡ false) × (b ≡ false)
neither true b e = absurd (cc)
neither false b e = (refl, e)

pub closed-bound : (s : State) (ts : List Tree) → AllClosed ts → all_bound s ts ≡ ts
closed-bound s [] e = refl
closed-bound s (t ∷ ts) e =
    let h : (some_node is_any_infer t ≡ false) × (list_any (some_node is_any_infer) ts ≡ false) = neither (some_node is_any_infer t) (list_any (some_node is_any_infer) ts) e in
    ap (λ u. u ∷ all_bound s ts) (replaced-closed (resolution s.terms s.inference) t h.0) ∙ ap (λ us. t ∷ us) (closed-bound s ts h.1)

closed-resolved : (s : State) (ids : List TermId) → AllClosed (erased_all s.terms ids) → AllClosed (map (resolved s.terms s.inference) ids)
closed-resolved s ids e = subst AllClosed (sym (bound-resolved s ids ∙ closed-bound s (erased_all s.terms ids) e)) e

-- terms that clash are unequal at each level
mutual
  unfolding Unequal Clash

  clash-unequal : (L : Level) (t u : Tree) → Clash t u → Unequal L t u
  clash-unequal L (node h ts) (node k us) (inl d) = inl d
  clash-unequal L (node h ts) (node k us) (inr x) = inr (rows-unequal L ts us x)
  clash-unequal L (node h ts) (alias k us) x = absurd x
  clash-unequal L (node h ts) (variable w) x = absurd x
  clash-unequal L (alias h ts) u x = absurd x
  clash-unequal L (variable v) u x = absurd x

  rows-unequal : (L : Level) (ts us : Trees) → RowsClash ts us → RowUnequal L ts us
  rows-unequal L none none x = x
  rows-unequal L none (more u us) x = tt
  rows-unequal L (more t ts) none x = tt
  rows-unequal L (more t ts) (more u us) (inl x) = inl (clash-unequal L t u x)
  rows-unequal L (more t ts) (more u us) (inr x) = inr (rows-unequal L ts us x)

clash-level : (S : Setting) (n : ℕ) (t u : Tree) → Clash t u → (level S n).unequal t u
unfolding level
clash-level S zero t u x = clash-unequal nothing t u x
clash-level S (suc n) t u x = clash-unequal (level S n) t u x

lists-unequal : (S : Setting) (n : ℕ) (ts us : List Tree) → ListsClash ts us → SomePair (level S n).unequal ts us
unfolding ListsClash SomePair
lists-unequal S n [] [] x = x
lists-unequal S n [] (u ∷ us) x = tt
lists-unequal S n (t ∷ ts) [] x = tt
lists-unequal S n (t ∷ ts) (u ∷ us) (inl x) = inl (clash-level S n t u x)
lists-unequal S n (t ∷ ts) (u ∷ us) (inr x) = inr (lists-unequal S n ts us x)

-- definite terms are plain
second-true : (a b : Bool) → b ≡ true → a || b ≡ true
second-true true b e = refl
second-true false b e = e

each-definite : (a b : Bool) → a ≡ false → b ≡ false → not (a || b) ≡ true
each-definite a b e f = ap (λ z. not (z || b)) e ∙ ap not f

pair-definite : (ks : List VarKind) (t u : Tree) → some_node (is_open ks) t ≡ false → some_node (is_open ks) u ≡ false → same_tree t u || both_definite ks t u ≡ true
pair-definite ks t u e f = second-true (same_tree t u) (both_definite ks t u) (each-definite (some_node (is_open ks) t) (some_node (is_open ks) u) e f)

both-true : (a b : Bool) → a ≡ true → b ≡ true → a && b ≡ true
both-true a b e f = ap (λ q. q && b) e ∙ f

mutual
  unfolding are_plain some_node

  definite-plain : (ks : List VarKind) (t u : Tree) → some_node (is_open ks) t ≡ false → some_node (is_open ks) u ≡ false → are_plain ks t u ≡ true
  definite-plain ks (node h ts) (node k us) e f = second-true (not (same_node (nodes.Head h) (nodes.Head k))) (rows_are_plain ks ts us) (definite-rows ks ts us e f)
  definite-plain ks (node h ts) (alias k us) e f = pair-definite ks (node h ts) (alias k us) e f
  definite-plain ks (node h ts) (variable w) e f = pair-definite ks (node h ts) (variable w) e f
  definite-plain ks (alias h ts) u e f = pair-definite ks (alias h ts) u e f
  definite-plain ks (variable v) u e f = pair-definite ks (variable v) u e f

  definite-rows : (ks : List VarKind) (ts us : Trees) → some_in_row (is_open ks) ts ≡ false → some_in_row (is_open ks) us ≡ false → rows_are_plain ks ts us ≡ true
  definite-rows ks none us e f = refl
  definite-rows ks (more t ts) none e f = refl
  definite-rows ks (more t ts) (more u us) e f =
      let l : (some_node (is_open ks) t ≡ false) × (some_in_row (is_open ks) ts ≡ false) = neither (some_node (is_open ks) t) (some_in_row (is_open ks) ts) e in
      let r : (some_node (is_open ks) u ≡ false) × (some_in_row (is_open ks) us ≡ false) = neither (some_node (is_open ks) u) (some_in_row (is_open ks) us) f in
      both-true (are_plain ks t u) (rows_are_plain ks ts us) (definite-plain ks t u l.0 r.0) (definite-rows ks ts us l.1 r.1)

definite-lists : (ks : List VarKind) (ts us : List Tree) → list_any (some_node (is_open ks)) ts ≡ false → list_any (some_node (is_open ks)) us ≡ false → lists_are_plain ks ts us ≡ true
unfolding lists_are_plain
definite-lists ks [] us e f = refl
definite-lists ks (t ∷ ts) [] e f = refl
definite-lists ks (t ∷ ts) (u ∷ us) e f =
    let l : (some_node (is_open ks) t ≡ false) × (list_any (some_node (is_open ks)) ts ≡ false) = neither (some_node (is_open ks) t) (list_any (some_node (is_open ks)) ts) e in
    let r : (some_node (is_open ks) u ≡ false) × (list_any (some_node (is_open ks)) us ≡ false) = neither (some_node (is_open ks) u) (list_any (some_node (is_open ks)) us) f in
    both-true (are_plain ks t u) (lists_are_plain ks ts us) (definite-plain ks t u l.0 r.0) (definite-lists ks ts us l.1 r.1)

-- a replacement makes two lists the same, in two words
all-replaced : (T : List Tree) (ρ : Variable → Tree) (ids : List TermId) → map (λ l. replaced ρ (term_at T l)) ids ≡ all_replaced ρ (erased_all T ids)
unfolding term_at
all-replaced T ρ [] = refl
all-replaced T ρ (id ∷ ids) = ap (λ ts. replaced ρ (erased_at T id) ∷ ts) (all-replaced T ρ ids)

makes-same : (T : List Tree) (ls rs : List TermId) (ρ : Variable → Tree) → MakesAllSame T ls rs ρ ↔ Identifies ρ (erased_all T ls) (erased_all T rs)
unfolding MakesAllSame
makes-same T ls rs ρ = (λ e. sym (all-replaced T ρ ls) ∙ e ∙ all-replaced T ρ rs, λ e. all-replaced T ρ ls ∙ e ∙ sym (all-replaced T ρ rs))

-- what agrees with bindings makes no difference to following them
bound-alike : (s : State) → IsSolved s.terms s.inference → (ρ : Variable → Tree) → AgreesWith s ρ → (ts : List Tree) → all_replaced ρ (all_bound s ts) ≡ all_replaced ρ ts
bound-alike s solved ρ a [] = refl
bound-alike s solved ρ a (t ∷ ts) =
    ap (λ u. u ∷ all_replaced ρ (all_bound s ts))
    (replaced-twice ρ (resolution s.terms s.inference) t ∙ sym (replaced-pointwise ρ (λ v. replaced ρ (resolution s.terms s.inference v)) (solved.general ρ a) t))
    ∙ ap (λ us. replaced ρ t ∷ us) (bound-alike s solved ρ a ts)

-- what unification of two lists in a context gave
pub record Unifies (a b : State) (ls rs : List TermId) (u : Unified) : Type 0 where
  pub alone : b ≡ record a { inference = b.inference }
  pub solved : IsSolved a.terms b.inference
  pub answer : IsUnified a.terms a.inference b.inference (MakesAllSame a.terms ls rs) u
  pub plain : AreDecidedWherePlain a.terms a.inference ls rs u
  pub identified : AreIdentified a.terms a.inference b.inference (sides ls rs) u
  pub clash : AreClashing a.terms a.inference ls rs u
  pub closed : AreUntouched a.terms a.inference b.inference ls rs

-- where it said no
pub related-no : (a b : State) (env : List Clause) (n : ℕ) (ls rs : List TermId) (u : Unified) → u ≡ unified.No → Unifies a b ls rs u →
    ((ρ : Variable → Tree) → AgreesWith b ρ → AgreesWith a ρ) → IsRelated a b env (erased_all a.terms ls) (erased_all a.terms rs) n outcome.Refuted
unfolding IsUnified AreIdentified AreClashing AreUntouched
related-no a b env n ls rs u is_no un agreed =
    let said : IsUnified a.terms a.inference b.inference (MakesAllSame a.terms ls rs) unified.No = subst (IsUnified a.terms a.inference b.inference (MakesAllSame a.terms ls rs)) is_no un.answer in
    record {
      equal = λ e. absurd (cc);
      never = λ e ρ kinds agrees same. said ρ kinds agrees ((makes-same a.terms ls rs ρ).1 same);
      agreed = agreed;
      kept = λ e. absurd (e refl);
      identified = λ e. absurd (cc);
      plain = λ p e. absurd (cc);
      same = λ e. let is_yes : u ≡ unified.Yes = (un.identified (bound-resolved a ls ∙ e ∙ sym (bound-resolved a rs))).0 in let never : unified.No ≡ unified.Yes = sym is_no ∙ is_yes in absurd (cc);
      closed = λ sides m final.
          let left : AllClosed (map (resolved a.terms a.inference) ls) = closed-resolved a ls sides.1 in
          let right : AllClosed (map (resolved a.terms a.inference) rs) = closed-resolved a rs sides.2 in (
            subst (λ ts. SomePair (level (setting_of a.tables m env) n).unequal ts (erased_all a.terms rs)) (bound-resolved a ls ∙ closed-bound a (erased_all a.terms ls) sides.1)
                (subst (SomePair (level (setting_of a.tables m env) n).unequal (map (resolved a.terms a.inference) ls)) (bound-resolved a rs ∙ closed-bound a (erased_all a.terms rs) sides.2)
                (lists-unequal (setting_of a.tables m env) n (map (resolved a.terms a.inference) ls) (map (resolved a.terms a.inference) rs) (un.clash is_no left right))),
            un.closed left right,
          );
    }

-- where it didn't
said-yes : (a b : State) (ls rs : List TermId) (u : Unified) → Unifies a b ls rs u → u ≡ unified.Yes → (ρ : Variable → Tree) → Agrees a.terms b.inference ρ →
    Identifies ρ (erased_all a.terms ls) (erased_all a.terms rs)
unfolding IsUnified
said-yes a b ls rs u un is_yes ρ agrees =
    let said : IsUnified a.terms a.inference b.inference (MakesAllSame a.terms ls rs) unified.Yes = subst (IsUnified a.terms a.inference b.inference (MakesAllSame a.terms ls rs)) is_yes un.answer in
    (makes-same a.terms ls rs ρ).0 ((said ρ).0 agrees).1

still-agrees : (a b : State) (ls rs : List TermId) (u : Unified) → u ≢ unified.No → Unifies a b ls rs u → (ρ : Variable → Tree) → AgreesWith a ρ →
    Identifies ρ (erased_all a.terms ls) (erased_all a.terms rs) → Agrees a.terms b.inference ρ
unfolding IsUnified
still-agrees a b ls rs unified.Yes n un ρ agrees same = (un.answer ρ).1 (agrees, (makes-same a.terms ls rs ρ).1 same)
still-agrees a b ls rs unified.Undecided n un ρ agrees same = un.answer ρ agrees ((makes-same a.terms ls rs ρ).1 same)
still-agrees a b ls rs unified.No n un ρ agrees same = absurd (n refl)

-- an outcome in a mode
held-in : (m : TypingMode) (x : Outcome) → outcome_in m x ≡ outcome.Holds → x ≡ outcome.Holds
held-in m outcome.Holds e = refl
held-in mode.Coherence outcome.Refuted e = absurd (cc)
held-in (mode.Analysis i) outcome.Refuted e = absurd (cc)
held-in (mode.Borrowck i) outcome.Refuted e = absurd (cc)
held-in (mode.PostBorrowckAnalysis i) outcome.Refuted e = absurd (cc)
held-in mode.PostAnalysis outcome.Refuted e = absurd (cc)
held-in mode.ErasedNotCoherence outcome.Refuted e = absurd (cc)
held-in mode.Coherence outcome.Undecided e = absurd (cc)
held-in (mode.Analysis i) outcome.Undecided e = absurd (cc)
held-in (mode.Borrowck i) outcome.Undecided e = absurd (cc)
held-in (mode.PostBorrowckAnalysis i) outcome.Undecided e = absurd (cc)
held-in mode.PostAnalysis outcome.Undecided e = absurd (cc)
held-in mode.ErasedNotCoherence outcome.Undecided e = absurd (cc)

refuted-in : (m : TypingMode) (x : Outcome) → outcome_in m x ≡ outcome.Refuted → x ≡ outcome.Refuted
refuted-in mode.Coherence outcome.Holds e = absurd (cc)
refuted-in mode.Coherence outcome.Refuted e = refl
refuted-in mode.Coherence outcome.Undecided e = absurd (cc)
refuted-in (mode.Analysis i) x e = e
refuted-in (mode.Borrowck i) x e = e
refuted-in (mode.PostBorrowckAnalysis i) x e = e
refuted-in mode.PostAnalysis x e = e
refuted-in mode.ErasedNotCoherence x e = e

holding-in : (m : TypingMode) (x : Outcome) → x ≡ outcome.Holds → outcome_in m x ≡ outcome.Holds
holding-in mode.Coherence outcome.Holds e = refl
holding-in mode.Coherence outcome.Refuted e = absurd (cc)
holding-in mode.Coherence outcome.Undecided e = absurd (cc)
holding-in (mode.Analysis i) x e = e
holding-in (mode.Borrowck i) x e = e
holding-in (mode.PostBorrowckAnalysis i) x e = e
holding-in mode.PostAnalysis x e = e
holding-in mode.ErasedNotCoherence x e = e

final-in : (run m : TypingMode) (x : Outcome) → is_coherence m ≡ false → IsFinalIn run m → outcome_in run x ≡ x
final-in mode.Coherence m x h (inl e) = absurd (false≢true (sym h ∙ sym (ap is_coherence e)))
final-in mode.Coherence m x h (inr e) = absurd (cc (e.0))
final-in (mode.Analysis i) m x h f = refl
final-in (mode.Borrowck i) m x h f = refl
final-in (mode.PostBorrowckAnalysis i) m x h f = refl
final-in mode.PostAnalysis m x h f = refl
final-in mode.ErasedNotCoherence m x h f = refl

-- what is owed after a call is final in the mode of its run
owed-final : (run : TypingMode) (z : State) (m : TypingMode) → z.typing_mode ≡ run → IsOwed z m → IsFinalIn run m
owed-final run z m e (inl f) = inl (sym e ∙ f)
owed-final run z m e (inr f) = inr (sym e ∙ f.0, f.1)

-- both steps of equating are in one mode
pub mode-same : (a b z : State) → b ≡ record a { inference = b.inference } → z ≡ restored b z → z.typing_mode ≡ a.typing_mode
mode-same a b z e f = ap (λ (s : State). s.typing_mode) f ∙ ap (λ (s : State). s.typing_mode) e

module _ (a b z : State) (env : List Clause) (n : ℕ) (ls rs : List TermId) (u : Unified) (un : Unifies a b ls rs u) (grown : z ≡ restored b z) (kept : Keeps b.terms z.terms) where
  -- the context between
  between : (ids : List TermId) → erased_all b.terms ids ≡ erased_all a.terms ids
  between ids = ap (λ (s : State). erased_all s.terms ids) un.alone

  terms-same : b.terms ≡ a.terms
  terms-same = ap (λ (s : State). s.terms) un.alone

  solved-between : IsSolved b.terms b.inference
  solved-between = subst (λ T. IsSolved T b.inference) (sym terms-same) un.solved

  later : (ρ : Variable → Tree) → AgreesWith z ρ ↔ AgreesWith b ρ
  later ρ = subst (λ (i : Inference). Agrees z.terms i ρ ↔ AgreesWith b ρ) (sym (ap (λ (s : State). s.inference) grown)) (agrees-kept b.terms z.terms b.inference kept solved-between ρ)

  here : (ρ : Variable → Tree) → Agrees a.terms b.inference ρ → AgreesWith b ρ
  here ρ = subst (λ T. Agrees T b.inference ρ) (sym terms-same)

  there : (ρ : Variable → Tree) → AgreesWith b ρ → Agrees a.terms b.inference ρ
  there ρ = subst (λ T. Agrees T b.inference ρ) terms-same

  -- after a yes the lists are the same with bindings followed
  pub bound-same : u ≡ unified.Yes → all_bound b (erased_all b.terms ls) ≡ all_bound b (erased_all b.terms rs)
  bound-same is_yes =
      ap (all_bound b) (between ls) ∙ said-yes a b ls rs u un is_yes (resolution b.terms b.inference) (there (resolution b.terms b.inference) solved-between.agrees) ∙ ap (all_bound b) (sym (between rs))

  pub plain-yes : u ≢ unified.No → IsPlainOrSame a (erased_all a.terms ls) (erased_all a.terms rs) → u ≡ unified.Yes
  unfolding AreDecidedWherePlain AreIdentified
  plain-yes some (inl p) = only u some (un.plain (ap (λ ts. lists_are_plain (kinds_of a) ts (map (resolved a.terms a.inference) rs)) (bound-resolved a ls) ∙ ap (lists_are_plain (kinds_of a) (all_bound a (erased_all a.terms ls))) (bound-resolved a rs) ∙ p)) where
    only : (w : Unified) → w ≢ unified.No → w ≢ unified.Undecided → w ≡ unified.Yes
    only unified.Yes p q = refl
    only unified.Undecided p q = absurd (q refl)
    only unified.No p q = absurd (p refl)
  plain-yes some (inr e) = (un.identified (bound-resolved a ls ∙ e ∙ sym (bound-resolved a rs))).0

  pub related-settled : u ≢ unified.No → (x : Outcome) → AreSettledIn b (IsOwed z) env n (all_bound b (erased_all b.terms ls)) (all_bound b (erased_all b.terms rs)) x →
      (all_bound b (erased_all b.terms ls) ≡ all_bound b (erased_all b.terms rs) → x ≡ outcome.Holds) →
      ((ρ : Variable → Tree) → AgreesWith z ρ → AgreesWith a ρ) → IsRelated a z env (erased_all a.terms ls) (erased_all a.terms rs) n (outcome_in a.typing_mode x)
  unfolding AreIdentified AreUntouched
  related-settled some x settled same agreed =
      let ts : List Tree = erased_all a.terms ls in
      let us : List Tree = erased_all a.terms rs in
      let in_a : AreSettledIn a (IsOwed z) env n (all_bound b ts) (all_bound b us) x =
      subst (λ zs. AreSettledIn a (IsOwed z) env n (all_bound b zs) (all_bound b us) x) (between ls)
      (subst (λ zs. AreSettledIn a (IsOwed z) env n (all_bound b (erased_all b.terms ls)) (all_bound b zs) x) (between rs)
      (record {
        holds = λ e m owed. subst (λ (s : State). (ρ : Variable → Tree) → Pairs (level (setting_of s.tables m env) n).equal (all_replaced ρ (all_bound b (erased_all b.terms ls))) (all_replaced ρ (all_bound b (erased_all b.terms rs)))) un.alone
            (settled.holds e m owed);
        refuted = settled.refuted;
        closed = λ sides m owed. subst (λ (s : State). SaysEqual (level (setting_of s.tables m env) n) (all_bound b (erased_all b.terms ls)) (all_bound b (erased_all b.terms rs)) x) un.alone
            (settled.closed sides m owed);
      })) in
      let mode : z.typing_mode ≡ a.typing_mode = mode-same a b z un.alone grown in
      let holding : u ≡ unified.Yes → outcome_in a.typing_mode x ≡ outcome.Holds = λ is_yes. holding-in a.typing_mode x (same (bound-same is_yes)) in
      let alike : (ρ : Variable → Tree) → AgreesWith b ρ → (zs : List Tree) → all_replaced ρ (all_bound b zs) ≡ all_replaced ρ zs = bound-alike b solved-between in
      let state : z.inference ≡ b.inference = ap (λ (s : State). s.inference) grown in
      record {
        equal = λ e m st ρ agrees.
            let h : AgreesWith b ρ = (later ρ).0 agrees in
            subst (λ zs. Pairs (level (setting_of a.tables m env) n).equal zs (all_replaced ρ us)) (alike ρ h ts)
            (subst (Pairs (level (setting_of a.tables m env) n).equal (all_replaced ρ (all_bound b ts))) (alike ρ h us) (in_a.holds (held-in a.typing_mode x e) m st ρ));
        never = λ e ρ kinds agrees ident.
            let h : AgreesWith b ρ = here ρ (still-agrees a b ls rs u some un ρ agrees ident) in
            in_a.refuted (refuted-in a.typing_mode x e) ρ (alike ρ h ts ∙ ident ∙ sym (alike ρ h us));
        agreed = agreed;
        kept = λ e ρ agrees ident. (later ρ).1 (here ρ (still-agrees a b ls rs u some un ρ agrees ident));
        identified = λ e left right ρ agrees.
            said-yes a b ls rs u un (plain-yes some (inl (definite-lists (kinds_of a) (all_bound a ts) (all_bound a us) left right))) ρ (there ρ ((later ρ).0 agrees));
        plain = λ p e. let never : outcome.Holds ≡ outcome.Undecided = sym (holding (plain-yes some (inl p))) ∙ e in absurd (cc);
        same = λ e.
            let found = un.identified (bound-resolved a ls ∙ e ∙ sym (bound-resolved a rs)) in (holding found.0, state ∙ found.1);
        closed = λ sides m owed.
            let left : all_bound b ts ≡ ts = closed-bound b ts sides.1 in
            let right : all_bound b us ≡ us = closed-bound b us sides.2 in (
              subst (SaysEqual (level (setting_of a.tables m env) n) ts us) (sym (final-in a.typing_mode m x owed.0 (owed-final a.typing_mode z m mode owed.1)))
                  (subst (λ zs. SaysEqual (level (setting_of a.tables m env) n) zs us x) left
                  (subst (λ zs. SaysEqual (level (setting_of a.tables m env) n) (all_bound b ts) zs x) right
                  (in_a.closed (sides.0, subst AllClosed (sym left) sides.1, subst AllClosed (sym right) sides.2) m owed.1))),
              state ∙ un.closed (closed-resolved a ls sides.1) (closed-resolved a rs sides.2),
            );
      }

-- and then terms
pub changes-unified : (a b : State) → b ≡ record a { inference = b.inference } → ChangesRecords a b
changes-unified a b e = e ∙ sym (ap (λ (s : State). record a { terms = s.terms; inference = b.inference; accesses = s.accesses; delayed_faults = s.delayed_faults }) e)

pub changes-grown : (a b z : State) → b ≡ record a { inference = b.inference } → z ≡ restored b z → ChangesRecords a z
changes-grown a b z e f =
    f ∙ ap (λ (s : State). restored s z) e
    ∙ ap (λ i. record a { terms = z.terms; inference = i; accesses = z.accesses; delayed_faults = z.delayed_faults }) (sym (ap (λ (s : State). s.inference) f))
