-- What equating terms in a context answers.
use Rattle.std.proofs.Common.{◌≡◌, ◌≢◌, ◌↔◌, ℕ, zero, suc, ◌<◌, Bool, true, false, List, [], ◌∷◌, ◌++◌, length, map, Some, None, Result, Ok, Err, refl, sym, ap, ◌∙◌, subst, ⊎_elim}
use Rattle.std.specs.Prelude.{if◌then◌else◌, slice_get, replicate, IsOk, OnErr}
use Rattle.goal_terms.specs.Erased.{erased}
use Rattle.std.specs.List.{list_any}
use Rattle.std.proofs.lemmas.Bool.{false≢true}
use Rattle.goal_terms.specs.NodeTests.{same_var_kind, some_node}
use Rattle.goal_interner.specs.TableMeaning.{tree_at, AreBelow, Keeps}
use Rattle.std.proofs.lemmas.List.Elements.{All-head, All-tail}
use Rattle.goal_terms.specs.Tree.{Tree}
use Rattle.goal_terms.specs.declared.answers.Certainty.{Certainty}
use Rattle.goal_terms.specs.declared.answers.Certainty.TheVariants as certainty
use Rattle.goal_terms.specs.declared.answers.VarKind.{VarKind}
use Rattle.goal_terms.specs.declared.heads.Variable.{Variable}
use Rattle.goal_terms.specs.declared.modes.TypingMode.{TypingMode}
use Rattle.goal_terms.specs.declared.predicates.Clause.{Clause}
use Rattle.goal_interner.specs.declared.term_nodes.TermId.{TermId}
use Rattle.goal_infer.specs.Inference.{Inference}
use Rattle.goal_infer.specs.ListUnification.{lists_are_plain}
use Rattle.goal_infer.specs.RegionEquations.{AddsRegions, region_variable}
use Rattle.goal_infer.specs.Replacement.{number_of, kind_of_variable}
use Rattle.goal_infer.specs.Resolution.{term_at, binding_of, binding_in, Agrees, IsSolved}
use Rattle.goal_infer.specs.Unification.{is_open}
use Rattle.goal_infer.specs.declared.undo.InferVariable.{InferVariable}
use Rattle.goal_infer.proofs.SolvedLemmas.{agrees-forth, agrees-back, agrees-kept, resolution-as}
use Rattle.goal_lists.specs.Interned.{AreIn, erased_at, erased_all}
use Rattle.goal_lists.proofs.UnderLemmas.{are_in-below}
use Rattle.goal_solver.specs.Accesses.{RecordsCausedFaults}
use Rattle.goal_solver.specs.Answers.{IsOwed, level_over, IsStopped}
use Rattle.goal_solver.specs.Equating.{IsEquated, equation, certainty_of}
use Rattle.goal_solver.specs.GoingBack.{GoesBack, restored}
use Rattle.goal_solver.specs.Relating.{IsRelated, ChangesInference, ChangesRecords, AgreesWith, all_replaced, all_bound, AreDefinite, IsEqualAnswer, LeavesOpen, SaysYes, Refuses, IsFaultFor, all_equated, AreIdentical}
use Rattle.goal_solver.specs.State.{State, IsValid, kinds_of}
use Rattle.goal_kinds.specs.declared.faults.Fault.{Fault}
use Rattle.goal_kinds.specs.declared.faults.Fault.TheVariants as fault
use Rattle.goal_lists.specs.declared.outcomes.Outcome.{Outcome}
use Rattle.goal_lists.specs.declared.outcomes.Outcome.TheVariants as outcome
use Rattle.goal_solver.proofs.GoingBackLemmas.{goes_back-interned, goes_back-restored, goes_back-through}
use Rattle.goal_solver.proofs.AddedGoalLemmas.{restored-owed}
use Rattle.goal_solver.proofs.AnswerLemmas.{owed-before}
use Rattle.goal_solver.proofs.RelatedLemmas.{agreed-back}

-- region variables that came to a state are bound to nothing
region-unbound : (k : VarKind) → binding_in (Some region_variable) k ≡ None
region-unbound k = on (same_var_kind region_variable.kind k) where
  on : (b : Bool) → (if b then region_variable.binding else None) ≡ None
  on true = refl
  on false = refl

regions-unbound : (c n : ℕ) (k : VarKind) → binding_in (slice_get (replicate c region_variable) n) k ≡ None
regions-unbound zero zero k = refl
regions-unbound zero (suc n) k = refl
regions-unbound (suc c) zero k = region-unbound k
regions-unbound (suc c) (suc n) k = regions-unbound c n k

pub binding-added : (vs : List InferVariable) (c n : ℕ) (k : VarKind) → binding_in (slice_get (vs ++ replicate c region_variable) n) k ≡ binding_in (slice_get vs n) k
binding-added [] c zero k = regions-unbound c zero k
binding-added [] c (suc n) k = regions-unbound c (suc n) k
binding-added (v ∷ vs) c zero k = refl
binding-added (v ∷ vs) c (suc n) k = binding-added vs c n k

bindings-added : (s z : Inference) → AddsRegions s z → (v : Variable) → binding_of z v ≡ binding_of s v
unfolding binding_of
bindings-added s z a v = ap (λ (i : Inference). binding_of i v) a.is ∙ binding-added s.variables a.count (number_of v) (kind_of_variable v)

-- so the same agrees with it
agrees-added : (T : List Tree) (s z : Inference) → AddsRegions s z → (ρ : Variable → Tree) → Agrees T z ρ ↔ Agrees T s ρ
agrees-added T s z a ρ = (
  agrees-back T T s z (bindings-added s z a) (λ v id e. refl) ρ,
  agrees-forth T T s z (bindings-added s z a) (λ v id e. refl) ρ,
)

-- an error is no answer
no_error : (f : Fault) → IsOk {T = Certainty} {E = Fault} (Err f) → ⊥
no_error f e = false≢true e

-- terms of numbers, with lifetimes and without
pub erased-trees : (T : List Tree) (ids : List TermId) → erased_all T ids ≡ map erased (map (tree_at T) ids)
erased-trees T [] = refl
erased-trees T (id ∷ ids) = ap (λ ts. erased_at T id ∷ ts) (erased-trees T ids)

-- what equations of lifetimes make of a context
pub record AddsLifetimes (old new : State) (ts us : List Tree) : Type 0 where
  pub kept : Keeps old.terms new.terms
  pub adds : AddsRegions old.inference new.inference
  pub identical : AreIdentical ts us → new.inference ≡ all_equated ts us old.inference

module _ (a z : State) (env : List Clause) (ts us : List Tree) (valid : IsValid a) (back : GoesBack a z) where
  bound-alike : AreIdentical ts us → all_bound a (map erased ts) ≡ all_bound a (map erased us)
  bound-alike e = ap (all_bound a) e

  -- lists that were related, and lifetimes that were equated then
  module _ (b : State) (going : IsValid b) (further : GoesBack b z) (adds : AddsLifetimes b z ts us) where
    earlier : (m : TypingMode) → IsOwed z m → IsOwed b m
    earlier m = owed-before b z m further

    later : (ρ : Variable → Tree) → AgreesWith z ρ ↔ AgreesWith b ρ
    later ρ =
        let first : Agrees z.terms z.inference ρ ↔ Agrees z.terms b.inference ρ = agrees-added z.terms b.inference z.inference adds.adds ρ in
        let second : Agrees z.terms b.inference ρ ↔ Agrees b.terms b.inference ρ = agrees-kept b.terms z.terms b.inference adds.kept going.solved ρ in
        (λ x. second.0 (first.0 x), λ x. first.1 (second.1 x))

    equated-yes : IsRelated a b env (map erased ts) (map erased us) a.remaining_depth outcome.Holds → IsEquated a z (equation env ts us) (Ok certainty.Yes)
    equated-yes rel = record {
      sound = λ m owed sides. (rel.closed sides m (owed.0, earlier m owed.1)).0;
      decided = λ m owed sides x. absurd x;
      equal = λ m owed x ρ agrees. rel.equal refl m (earlier m owed) ρ ((later ρ).0 agrees);
      never = λ x. absurd x;
      agreed = λ ρ agrees. rel.agreed ρ ((later ρ).0 agrees);
      most_general = λ x ρ agrees same. (later ρ).1 (rel.kept (λ e. absurd (cc)) ρ agrees same);
      identified = λ x left right ρ agrees. rel.identified refl left right ρ ((later ρ).0 agrees);
      plain = λ p x. x;
      regions = λ e x. adds.identical e ∙ ap (all_equated ts us) (rel.same (bound-alike e)).1;
      same = λ e x. ⊎_elim (λ y. y) (λ y. y) x;
    }

    equated-maybe : IsRelated a b env (map erased ts) (map erased us) a.remaining_depth outcome.Undecided → IsEquated a z (equation env ts us) (Ok certainty.Maybe)
    equated-maybe rel = record {
      sound = λ m owed sides. tt;
      decided = λ m owed sides x. (rel.closed sides m (owed.0, earlier m owed.1)).0;
      equal = λ m owed x. absurd x;
      never = λ x. absurd x;
      agreed = λ ρ agrees. rel.agreed ρ ((later ρ).0 agrees);
      most_general = λ x ρ agrees same. (later ρ).1 (rel.kept (λ e. absurd (cc)) ρ agrees same);
      identified = λ x. absurd x;
      plain = λ p x. rel.plain p refl;
      regions = λ e x. let never : outcome.Undecided ≡ outcome.Holds = (rel.same (bound-alike e)).0 in absurd (cc);
      same = λ e x. let never : outcome.Undecided ≡ outcome.Holds = (rel.same (bound-alike e)).0 in absurd (cc);
    }

    pub equated-related : (o : Outcome) → o ≢ outcome.Refuted → IsRelated a b env (map erased ts) (map erased us) a.remaining_depth o → IsEquated a z (equation env ts us) (Ok (certainty_of o))
    equated-related outcome.Holds n rel = equated-yes rel
    equated-related outcome.Undecided n rel = equated-maybe rel
    equated-related outcome.Refuted n rel = absurd (n refl)

  -- lists that were refuted
  pub equated-refuted : (b : State) → ((m : TypingMode) → IsOwed z m → IsOwed b m) → IsRelated a b env (map erased ts) (map erased us) a.remaining_depth outcome.Refuted → IsEquated a z (equation env ts us) (Err fault.NoSolution)
  equated-refuted b earlier rel = record {
    sound = λ m owed sides. (rel.closed sides m (owed.0, earlier m owed.1)).0;
    decided = λ m owed sides x. absurd x;
    equal = λ m owed x. absurd x;
    never = λ x ρ kinds agrees same. rel.never refl ρ kinds agrees same;
    agreed = agreed-back a z valid back;
    most_general = λ x. absurd (no_error fault.NoSolution x);
    identified = λ x. absurd x;
    plain = λ p x. x;
    regions = λ e x. absurd (no_error fault.NoSolution x);
    same = λ e x. let never : outcome.Refuted ≡ outcome.Holds = (rel.same (bound-alike e)).0 in absurd (cc);
  }

  -- an answer that says nothing of the lists
  equated-silent : (r : Result Certainty Fault) → ((m : TypingMode) → IsEqualAnswer (level_over a m env) (map erased ts) (map erased us) r) →
      (LeavesOpen r → ⊥) → (SaysYes r → ⊥) → (Refuses r → ⊥) → (IsOk r → ⊥) → IsEquated a z (equation env ts us) r
  equated-silent r sound leaves says refuses accepts = record {
    sound = λ m owed sides. sound m;
    decided = λ m owed sides x. absurd (leaves x);
    equal = λ m owed x. absurd (says x);
    never = λ x. absurd (refuses x);
    agreed = agreed-back a z valid back;
    most_general = λ x. absurd (accepts x);
    identified = λ x. absurd (says x);
    plain = λ p x. leaves x;
    regions = λ e x. absurd (accepts x);
    same = λ e x. ⊎_elim refuses leaves x;
  }

  pub equated-fault : (f : Fault) → f ≢ fault.NoSolution → IsEquated a z (equation env ts us) (Err f)
  equated-fault fault.NoSolution n = absurd (n refl)
  equated-fault fault.RerunNonErased n = equated-silent (Err fault.RerunNonErased) (λ m. tt) (λ x. x) (λ x. x) (λ x. x) (no_error fault.RerunNonErased)
  equated-fault fault.OutOfMemory n = equated-silent (Err fault.OutOfMemory) (λ m. tt) (λ x. x) (λ x. x) (λ x. x) (no_error fault.OutOfMemory)
  equated-fault fault.NotForThisKind n = equated-silent (Err fault.NotForThisKind) (λ m. tt) (λ x. x) (λ x. x) (λ x. x) (no_error fault.NotForThisKind)

  -- an evaluation that was stopped, whose changes were undone
  pub equated-stopped : (r : Result Certainty Fault) → IsStopped r → IsEquated a z (equation env ts us) r
  equated-stopped (Ok c) ends = absurd ends
  equated-stopped (Err fault.NoSolution) ends = absurd ends
  equated-stopped (Err fault.RerunNonErased) ends = equated-fault fault.RerunNonErased (λ e. absurd (cc))
  equated-stopped (Err fault.OutOfMemory) ends = equated-fault fault.OutOfMemory (λ e. absurd (cc))
  equated-stopped (Err fault.NotForThisKind) ends = equated-fault fault.NotForThisKind (λ e. absurd (cc))

-- the same of a context in which more terms got their numbers first
module _ (a : State) (T : List Tree) (kept : Keeps a.terms T) (solved : IsSolved a.terms a.inference) where
  bound-kept : (ts : List Tree) → all_bound (record a { terms = T }) ts ≡ all_bound a ts
  unfolding term_at
  bound-kept ts =
      ap (λ ρ. all_replaced ρ ts)
      (resolution-as a.terms T a.inference a.inference (λ v. refl) (λ v id f. ap erased (kept.same id (solved.within v id f))) refl)

  agrees-grown : (ρ : Variable → Tree) → AgreesWith (record a { terms = T }) ρ ↔ AgreesWith a ρ
  agrees-grown ρ = agrees-kept a.terms T a.inference kept solved ρ

  definite-kept : (ts : List Tree) → AreDefinite a ts → AreDefinite (record a { terms = T }) ts
  definite-kept ts e = ap (list_any (some_node (is_open (kinds_of a)))) (bound-kept ts) ∙ e

  pub equated-grown : (z : State) (env : List Clause) (ts us : List Tree) (r : Result Certainty Fault) → IsEquated (record a { terms = T }) z (equation env ts us) r → IsEquated a z (equation env ts us) r
  equated-grown z env ts us r h = record {
    sound = h.sound;
    decided = h.decided;
    equal = h.equal;
    never = λ x ρ kinds agrees same. h.never x ρ kinds ((agrees-grown ρ).1 agrees) same;
    agreed = λ ρ x. (agrees-grown ρ).0 (h.agreed ρ x);
    most_general = λ x ρ agrees same. h.most_general x ρ ((agrees-grown ρ).1 agrees) same;
    identified = λ x left right. h.identified x (definite-kept (map erased ts) left) (definite-kept (map erased us) right);
    plain = λ p x. h.plain (ap (λ xs. lists_are_plain (kinds_of a) xs (all_bound (record a { terms = T }) (map erased us))) (bound-kept (map erased ts)) ∙ ap (lists_are_plain (kinds_of a) (all_bound a (map erased ts))) (bound-kept (map erased us)) ∙ p) x;
    regions = h.regions;
    same = h.same;
  }

-- what was related, by trees
pub related-trees : (a b : State) (env : List Clause) (ls rs : List TermId) (n k : ℕ) (o : Outcome) → n ≡ k → IsRelated a b env (erased_all a.terms ls) (erased_all a.terms rs) n o →
    IsRelated a b env (map erased (map (tree_at a.terms) ls)) (map erased (map (tree_at a.terms) rs)) k o
related-trees a b env ls rs n k o e rel =
    subst (λ ts. IsRelated a b env ts (map erased (map (tree_at a.terms) rs)) k o) (erased-trees a.terms ls)
    (subst (λ us. IsRelated a b env (erased_all a.terms ls) us k o) (erased-trees a.terms rs)
    (subst (λ m. IsRelated a b env (erased_all a.terms ls) (erased_all a.terms rs) m o) e rel))

-- numbers keep their trees
pub trees-kept : (T U : List Tree) → Keeps T U → (ids : List TermId) → AreBelow (length T) ids → map (tree_at U) ids ≡ map (tree_at T) ids
trees-kept T U k [] b = refl
trees-kept T U k (id ∷ ids) b =
    ap (λ t. t ∷ map (tree_at U) ids) (k.same id (All-head (λ (x : TermId). x.0 < length T) id ids b))
    ∙ ap (λ ts. tree_at T id ∷ ts) (trees-kept T U k ids (All-tail (λ (x : TermId). x.0 < length T) id ids b))

-- a context whose changes were undone, but for what was recorded
back-undone : (a b y z : State) → GoesBack a b → y ≡ restored a b → GoesBack y z → GoesBack a z
back-undone a b y z back undone further = goes_back-through a y z (subst (GoesBack a) (sym undone) (goes_back-restored a b back)) further

undone-is : (a b y z : State) → y ≡ restored a b → z ≡ record y { accesses = z.accesses } → z ≡ record a { terms = b.terms; accesses = z.accesses; delayed_faults = b.delayed_faults }
undone-is a b y z undone alone = alone ∙ ap (λ (s : State). record s { accesses = z.accesses }) undone

pub alone-undone : (a b y z : State) → y ≡ restored a b → z ≡ record y { accesses = z.accesses } → ChangesRecords a z
alone-undone a b y z undone alone =
    let e : z ≡ record a { terms = b.terms; accesses = z.accesses; delayed_faults = b.delayed_faults } = undone-is a b y z undone alone in
    e ∙ sym (ap (λ (s : State). record a { terms = s.terms; inference = s.inference; accesses = s.accesses; delayed_faults = s.delayed_faults }) e)

-- and lists that were related, and whose lifetimes were equated then
pub alone-through : (a b c : State) → ChangesRecords a b → ChangesInference b c → ChangesRecords a c
alone-through a b c h k =
    let e : c ≡ record a { terms = c.terms; inference = c.inference; accesses = b.accesses; delayed_faults = b.delayed_faults } = k ∙ ap (λ (s : State). record s { terms = c.terms; inference = c.inference }) h in
    e ∙ sym (ap (λ (s : State). record a { terms = s.terms; inference = s.inference; accesses = s.accesses; delayed_faults = s.delayed_faults }) e)

pub unchanged-undone : (a b y z : State) → y ≡ restored a b → z ≡ record y { accesses = z.accesses } → z ≡ restored a z
unchanged-undone a b y z undone alone = let e = undone-is a b y z undone alone in e ∙ ap (restored a) (sym e)

-- an evaluation that was stopped
pub equated-undone : (a b y z : State) (env : List Clause) (ls rs : List TermId) (r : Result Certainty Fault) → IsValid a → GoesBack a b → y ≡ restored a b →
    z ≡ record y { accesses = z.accesses } → GoesBack y z → IsStopped r → IsEquated a z (equation env (map (tree_at a.terms) ls) (map (tree_at a.terms) rs)) r
equated-undone a b y z env ls rs r valid back undone alone further ends =
    equated-stopped a z env (map (tree_at a.terms) ls) (map (tree_at a.terms) rs) valid (back-undone a b y z back undone further) r ends

-- lists that were refuted, or whose equations found no memory
pub refuted-undone : (a b z : State) (env : List Clause) (ls rs : List TermId) (n : ℕ) (o : Outcome) → IsValid a → GoesBack a b → z ≡ restored a b → n ≡ a.remaining_depth → o ≡ outcome.Refuted →
    IsRelated a b env (erased_all a.terms ls) (erased_all a.terms rs) n o → IsEquated a z (equation env (map (tree_at a.terms) ls) (map (tree_at a.terms) rs)) (Err fault.NoSolution)
refuted-undone a b z env ls rs n o valid back undone depth refuted rel =
    equated-refuted a z env (map (tree_at a.terms) ls) (map (tree_at a.terms) rs) valid (subst (GoesBack a) (sym undone) (goes_back-restored a b back)) b (λ m owed. restored-owed a b z m undone back owed)
    (subst (IsRelated a b env (map erased (map (tree_at a.terms) ls)) (map erased (map (tree_at a.terms) rs)) a.remaining_depth) refuted (related-trees a b env ls rs n a.remaining_depth o depth rel))

pub memory-undone : (a b z : State) (env : List Clause) (ls rs : List TermId) → IsValid a → GoesBack a b → z ≡ restored a b →
    IsEquated a z (equation env (map (tree_at a.terms) ls) (map (tree_at a.terms) rs)) (Err fault.OutOfMemory)
memory-undone a b z env ls rs valid back undone =
    equated-fault a z env (map (tree_at a.terms) ls) (map (tree_at a.terms) rs) valid (subst (GoesBack a) (sym undone) (goes_back-restored a b back)) fault.OutOfMemory (λ e. absurd (cc))

-- lists that were related, and lifetimes that were equated then
pub related-equated : (a b z : State) (env : List Clause) (ls rs : List TermId) (n : ℕ) (o : Outcome) → IsValid a → IsValid b → AreIn a.terms ls → AreIn a.terms rs → n ≡ a.remaining_depth → o ≢ outcome.Refuted →
    IsRelated a b env (erased_all a.terms ls) (erased_all a.terms rs) n o → GoesBack a b → Keeps b.terms z.terms → AddsRegions b.inference z.inference → GoesBack b z →
    (AreIdentical (map (tree_at b.terms) ls) (map (tree_at b.terms) rs) → z.inference ≡ all_equated (map (tree_at b.terms) ls) (map (tree_at b.terms) rs) b.inference) →
    IsEquated a z (equation env (map (tree_at a.terms) ls) (map (tree_at a.terms) rs)) (Ok (certainty_of o))
related-equated a b z env ls rs n o valid going first second depth some rel back kept adds further identical =
    let ts : map (tree_at b.terms) ls ≡ map (tree_at a.terms) ls = trees-kept a.terms b.terms back.terms ls (are_in-below a.terms ls first) in
    let us : map (tree_at b.terms) rs ≡ map (tree_at a.terms) rs = trees-kept a.terms b.terms back.terms rs (are_in-below a.terms rs second) in
    let same : AreIdentical (map (tree_at a.terms) ls) (map (tree_at a.terms) rs) → z.inference ≡ all_equated (map (tree_at a.terms) ls) (map (tree_at a.terms) rs) b.inference =
    subst (λ xs. AreIdentical xs (map (tree_at a.terms) rs) → z.inference ≡ all_equated xs (map (tree_at a.terms) rs) b.inference) ts
    (subst (λ xs. AreIdentical (map (tree_at b.terms) ls) xs → z.inference ≡ all_equated (map (tree_at b.terms) ls) xs b.inference) us identical) in
    equated-related a z env (map (tree_at a.terms) ls) (map (tree_at a.terms) rs) valid (goes_back-through a b z back further) b going further
    (record { kept = kept; adds = adds; identical = same }) o some (related-trees a b env ls rs n a.remaining_depth o depth rel)

-- two terms that got their numbers, or two lists of them
pub equated-interned : (o s z : State) (T : List Tree) (env : List Clause) (xs ys ts us : List Tree) (r : Result Certainty Fault) → o ≡ s → Keeps o.terms T → IsSolved o.terms o.inference → xs ≡ ts → ys ≡ us →
    IsEquated (record o { terms = T }) z (equation env xs ys) r → IsEquated s z (equation env ts us) r
equated-interned o s z T env xs ys ts us r e kept solved p q h =
    subst (λ a. IsEquated a z (equation env ts us) r) e
    (equated-grown o T kept solved z env ts us r
    (subst (λ zs. IsEquated (record o { terms = T }) z (equation env ts zs) r) q (subst (λ zs. IsEquated (record o { terms = T }) z (equation env zs ys) r) p h)))

pub alone-interned : (o s z : State) (T : List Tree) → o ≡ s → ChangesRecords (record o { terms = T }) z → ChangesRecords s z
alone-interned o s z T e h = subst (λ a. ChangesRecords a z) e h

pub back-interned : (o s z : State) (T : List Tree) → o ≡ s → Keeps o.terms T → GoesBack (record o { terms = T }) z → GoesBack s z
back-interned o s z T e kept h = goes_back-through s (record o { terms = T }) z (goes_back-interned o s (record o { terms = T }) T e refl kept) h

pub agreed-interned : (o s : State) (T : List Tree) → o ≡ s → Keeps o.terms T → IsSolved o.terms o.inference → (ρ : Variable → Tree) → Agrees T o.inference ρ → AgreesWith s ρ
agreed-interned o s T e kept solved ρ agrees = subst (λ (a : State). AgreesWith a ρ) e ((agrees-kept o.terms T o.inference kept solved ρ).0 agrees)

pub unchanged-interned : (o s z : State) (T : List Tree) (r : Result Certainty Fault) → o ≡ s → OnErr r (z ≡ restored (record o { terms = T }) z) → OnErr r (z ≡ restored s z)
unchanged-interned o s z T r e h = subst (λ a. OnErr r (z ≡ restored a z)) e h

-- what is recorded beside more terms
pub faults-interned : (o s z : State) (T : List Tree) → o ≡ s → RecordsCausedFaults (record o { terms = T }) z → RecordsCausedFaults s z
faults-interned o s z T e h = subst (λ a. RecordsCausedFaults a z) e h

-- which mode a run was in stays so with more terms
fault-at : (o z : State) (T : List Tree) (r : Result Certainty Fault) → IsFaultFor (record o { terms = T }) z r → IsFaultFor o z r
fault-at o z T (Ok x) h = tt
fault-at o z T (Err fault.NoSolution) h = tt
fault-at o z T (Err fault.RerunNonErased) h = h
fault-at o z T (Err fault.OutOfMemory) h = tt
fault-at o z T (Err fault.NotForThisKind) h = h

pub fault-interned : (o s z : State) (T : List Tree) (r : Result Certainty Fault) → o ≡ s → IsFaultFor (record o { terms = T }) z r → IsFaultFor s z r
fault-interned o s z T r e h = subst (λ a. IsFaultFor a z r) e (fault-at o z T r h)

-- want of memory says nothing of the lists
pub equated-unanswered : (a z : State) (env : List Clause) (ts us : List Tree) → ((ρ : Variable → Tree) → AgreesWith z ρ → AgreesWith a ρ) → IsEquated a z (equation env ts us) (Err fault.OutOfMemory)
equated-unanswered a z env ts us agreed = record {
  sound = λ m owed closed. tt;
  decided = λ m owed closed h. absurd h;
  equal = λ m owed h. absurd h;
  never = λ h. absurd h;
  agreed = agreed;
  most_general = λ h. absurd (false≢true h);
  identified = λ h. absurd h;
  plain = λ e h. h;
  regions = λ e h. absurd (false≢true h);
  same = λ e h. ⊎_elim (λ k. k) (λ k. k) h;
}
