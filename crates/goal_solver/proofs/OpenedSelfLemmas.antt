-- Goals whose self type is an alias that holds inference variables.
use Rattle.std.proofs.Common.{◌≡◌, ◌⊎◌, Bool, true, false, List, [], Option, Some, None, Result, Ok, Err, inl, inr, refl, sym, ap, subst, ◌∙◌, ⊎_elim, length}
use Rattle.std.proofs.lemmas.Bool.{false≢true}
use Rattle.std.specs.Prelude.{IfOk, IfSome, IsErrAnd, IsOkUnless, is_some}
use Rattle.goal_terms.specs.Erased.{erased}
use Rattle.goal_terms.specs.Tree.{Tree}
use Rattle.goal_terms.specs.TreeOf.{tree_of_alias, tree_of_term, tree_of_ty}
use Rattle.goal_terms.specs.declared.answers.Response.{Response}
use Rattle.goal_terms.specs.declared.predicates.Clause.{Clause}
use Rattle.goal_terms.specs.declared.predicates.Goal.{Goal}
use Rattle.goal_terms.specs.declared.predicates.NormalizesTo.{NormalizesTo}
use Rattle.goal_terms.specs.declared.answers.TraitGoalProvenVia.{TraitGoalProvenVia}
use Rattle.goal_terms.specs.declared.terms.AliasTerm.{AliasTerm}
use Rattle.goal_terms.specs.declared.terms.Term.{Term}
use Rattle.goal_terms.specs.declared.terms.Ty.{Ty}
use Rattle.goal_infer.specs.Replacement.{replaced}
use Rattle.goal_infer.specs.Resolution.{IsSolved}
use Rattle.goal_kinds.specs.declared.faults.Fault.{Fault}
use Rattle.goal_kinds.specs.declared.faults.Fault.TheVariants as fault
use Rattle.goal_solver.specs.Answers.{IsMaybe, IsQuiet}
use Rattle.goal_solver.specs.Binding.{IsApplicable, bound_term}
use Rattle.goal_kinds.specs.Collecting.{Kind, has_kind_fault}
use Rattle.goal_solver.specs.GoingBack.{GoesBack, begun, restored}
use Rattle.goal_solver.specs.HeadForms.{bound_term as form_bound, is_open_form}
use Rattle.goal_solver.specs.OpenAnswers.{answers_at, answers_term, InTrial, MergesGoal, MergesOpened, MergesThrough}
use Rattle.goal_solver.specs.OpenForms.{OpensFrom}
use Rattle.goal_solver.specs.OpenGoals.{MergesOpenedWith, AsksOpenSelf, IsSelfAlias, IsLeft, WhenAnswered, WhenTried, IsAfterTrial, IsListedIn, IsBeside, ByFormedClasses, FormedBy}
use Rattle.goal_solver.specs.OpenHostGoals.{ByFormedRuleGroups, MergesConst}
use Rattle.goal_solver.specs.OpenProjections.{ByFormedGroups}
use Rattle.goal_solver.specs.Relating.{ChangesRecords, IsFaultFor}
use Rattle.goal_solver.specs.State.{State, kinds_of}
use Rattle.goal_solver.specs.Stored.{HasOneTypeAKey}
use Rattle.goal_solver.proofs.ApplicableLemmas.{nothing-applies-after}
use Rattle.goal_kinds.proofs.CollectedTermLemmas.{some-same}
use Rattle.goal_solver.proofs.ListedLemmas.{listed-applies}
use Rattle.goal_solver.proofs.OpenFormLemmas.{restored-grown}
use Rattle.goal_solver.proofs.OpenProjectionLemmas.{memory-unsaid}
use Rattle.goal_solver.proofs.RoundLemmas.{handed-on}
use Rattle.goal_solver.proofs.SinceMarkLemmas.{resolution-kept}

-- a term with its bindings followed is the same in a context that has more terms and records
tree-restored : (a b : State) (t : Tree) → b ≡ restored a b → GoesBack a b → IsSolved a.terms a.inference → bound_term b t ≡ bound_term a t
tree-restored a b t e back solved =
    ap (λ (s : State). bound_term (record s { terms = b.terms }) t) e
    ∙ ap (λ ρ. replaced ρ (erased t)) (resolution-kept a.terms b.terms a.inference back.terms solved)

-- whether such an alias is the self type of a goal
apart : {A : Type 0} (x : A) → None ≡ Some x → ⊥
apart x e = cc

by-test : {P : Type 0} (self_of : P → Option Ty) (g : Goal P) (s : State) (t : Ty) (b : Bool) → self_of g.predicate ≡ Some t → is_open_form (bound_term s (tree_of_ty t)) g.param_env.items ≡ b →
    AsksOpenSelf self_of g s ⊎ (AsksOpenSelf self_of g s → ⊥)
by-test self_of g s t true e f = inl (record { self = t; asked = e; holds_some = f })
by-test self_of g s t false e f =
    inr (λ a. false≢true (sym f ∙ ap (λ x. is_open_form (bound_term s (tree_of_ty x)) g.param_env.items) (some-same t a.self (sym e ∙ a.asked)) ∙ a.holds_some))

by-self : {P : Type 0} (self_of : P → Option Ty) (g : Goal P) (s : State) (o : Option Ty) → self_of g.predicate ≡ o → AsksOpenSelf self_of g s ⊎ (AsksOpenSelf self_of g s → ⊥)
by-self self_of g s None e = inr (λ a. apart a.self (sym e ∙ a.asked))
by-self self_of g s (Some t) e = by-test self_of g s t (is_open_form (bound_term s (tree_of_ty t)) g.param_env.items) e refl

pub asks-open_self : {P : Type 0} (self_of : P → Option Ty) (g : Goal P) (s : State) → AsksOpenSelf self_of g s ⊎ (AsksOpenSelf self_of g s → ⊥)
asks-open_self self_of g s = by-self self_of g s (self_of g.predicate) refl

-- of no answer both can be claimed
not-both : (A : Type 0) (r : Result Response Fault) → WhenAnswered r (IsMaybe r) → (IsMaybe r → A) → WhenAnswered r A
not-both A (Ok x) h f = f h
not-both A (Err fault.NoSolution) h f = f h
not-both A (Err fault.RerunNonErased) h f = tt
not-both A (Err fault.OutOfMemory) h f = tt
not-both A (Err fault.NotForThisKind) h f = tt

said-map : (A B : Type 0) (r : Result Response Fault) → (A → B) → WhenAnswered r A → WhenAnswered r B
said-map A B (Ok x) f h = f h
said-map A B (Err fault.NoSolution) f h = f h
said-map A B (Err fault.RerunNonErased) f h = tt
said-map A B (Err fault.OutOfMemory) f h = tt
said-map A B (Err fault.NotForThisKind) f h = tt

-- where no candidates are considered for a goal it is undecided, or answered by the head form of its self type
left-opened : {P : Type 0} (self_of : P → Option Ty) (By : FormedBy) (g : Goal P) (s z u : State) (r : Result Response Fault) (A : Type 0) → z ≡ restored s z →
    ((AsksOpenSelf self_of g z → ⊥) → WhenAnswered r (IsMaybe r)) → (AsksOpenSelf self_of g z → (y : State) × (y ≡ restored z y) × WhenAnswered r (MergesOpened self_of By g y r u)) →
    ((AsksOpenSelf self_of g z → ⊥) → IsMaybe r → A) → ((y : State) → y ≡ restored s y → MergesOpened self_of By g y r u → A) → WhenAnswered r A
left-opened self_of By g s z u r A back undecided opened left merged =
    ⊎_elim (λ a.
    let h = opened a in
    said-map (MergesOpened self_of By g h.0 r u) A r (merged h.0 (h.1 ∙ ap (λ (x : State). restored x h.0) back)) h.2)
    (λ n. not-both A r (undecided n) (left n))
    (asks-open_self self_of g z)

-- it is merged with the same depth in a context that has more terms and records
opened-with : {P : Type 0} (self_of : P → Option Ty) (By : FormedBy) (g : Goal P) (s y u : State) (r : Result Response Fault) → y ≡ restored s y → MergesOpened self_of By g y r u →
    MergesOpenedWith (answers_at s.remaining_depth) self_of By g y r u
opened-with self_of By g s y u r e m = subst (λ n. MergesOpenedWith (answers_at n) self_of By g y r u) (ap (λ (x : State). x.remaining_depth) e) m

pub left-or_opened : {P : Type 0} (K : Kind P) (g : Goal P) (s z u : State) (r : Result Response Fault) → IsLeft K.words.self_type K.words.is_with_self (has_kind_fault K.has_fault s.tables) g s z →
    z ≡ restored s z → u ≡ restored z u → ((AsksOpenSelf K.words.self_type g z → ⊥) → WhenAnswered r (IsMaybe r)) →
    (AsksOpenSelf K.words.self_type g z → (y : State) × (y ≡ restored z y) × WhenAnswered r (MergesOpened K.words.self_type (ByFormedClasses K g) g y r u)) → WhenAnswered r (MergesGoal K g s r u)
left-or_opened K g s z u r left back undone undecided opened =
    left-opened K.words.self_type (ByFormedClasses K g) g s z u r (MergesGoal K g s r u) back undecided opened (λ n m. inl (z, left, n, undone, m))
    (λ y e m. inr (inr (inr (y, e, opened-with K.words.self_type (ByFormedClasses K g) g s y u r e m))))

pub left-or_opened-through : {P : Type 0} (K : Kind P) (p : NormalizesTo) (c : TraitGoalProvenVia) (g : Goal P) (s z u : State) (r : Result Response Fault) →
    IsLeft K.words.self_type K.words.is_with_self (has_kind_fault K.has_fault s.tables) g s z → z ≡ restored s z → u ≡ restored z u → ((AsksOpenSelf K.words.self_type g z → ⊥) → WhenAnswered r (IsMaybe r)) →
    (AsksOpenSelf K.words.self_type g z → (y : State) × (y ≡ restored z y) × WhenAnswered r (MergesOpened K.words.self_type (ByFormedGroups K p c g) g y r u)) → WhenAnswered r (MergesThrough K p c g s r u)
left-or_opened-through K p c g s z u r left back undone undecided opened =
    left-opened K.words.self_type (ByFormedGroups K p c g) g s z u r (MergesThrough K p c g s r u) back undecided opened (λ n m. inl (z, left, n, undone, m))
    (λ y e m. inr (inr (inr (y, e, opened-with K.words.self_type (ByFormedGroups K p c g) g s y u r e m))))

pub left-or_opened-const : {P : Type 0} (K : Kind P) (c : TraitGoalProvenVia) (g : Goal P) (s z u : State) (r : Result Response Fault) →
    IsLeft K.words.self_type K.words.is_with_self (has_kind_fault K.has_fault s.tables) g s z → z ≡ restored s z → u ≡ restored z u → ((AsksOpenSelf K.words.self_type g z → ⊥) → WhenAnswered r (IsMaybe r)) →
    (AsksOpenSelf K.words.self_type g z → (y : State) × (y ≡ restored z y) × WhenAnswered r (MergesOpened K.words.self_type (ByFormedRuleGroups K c g) g y r u)) → WhenAnswered r (MergesConst K c g s r u)
left-or_opened-const K c g s z u r left back undone undecided opened =
    left-opened K.words.self_type (ByFormedRuleGroups K c g) g s z u r (MergesConst K c g s r u) back undecided opened (λ n m. inl (z, left, n, undone, m)) (λ y e m. inr (inr (inr (y, e, m))))

-- nothing is claimed of it where memory is wanted
pub opened-unsaid : (M : State → Result Response Fault → State → Type 0) (s z : State) (r : Result Response Fault) (f : Fault) → z ≡ record s { terms = z.terms } →
    IsErrAnd r (λ e. e ≡ f) → f ≡ fault.OutOfMemory → (y : State) × (y ≡ restored s y) × WhenAnswered r (M y r z)
opened-unsaid M s z r f grown is memory = (
  z,
  restored-grown s z grown,
  handed-on r f (λ x. WhenAnswered x (M z x z)) is (memory-unsaid (M z (Err f) z) f memory),
)

-- an alias's head form, by what is answered with the depth that is left
pub opens-at : (env : List Clause) (t : Tree) (s z : State) (r : Result (Option Term) Fault) → OpensFrom answers_term env t s r z → OpensFrom (answers_at s.remaining_depth) env t s r z
opens-at env t s z (Ok (Some x)) h = record {
  asked = h.asked;
  asks = h.asks;
  response = h.response;
  answered = h.answered;
  answers = h.answers;
  applied = h.applied;
  applies = h.applies;
  form = h.form;
  left = h.left;
}
opens-at env t s z (Ok None) h =
    ⊎_elim (λ e. inl e) (λ k. inr (record { asked = k.asked; asks = k.asks; response = k.response; answered = k.answered; answers = k.answers; unsure = k.unsure })) h
opens-at env t s z (Err fault.NoSolution) h = record { asked = h.asked; asks = h.asks; answered = h.answered; answers = h.answers }
opens-at env t s z (Err fault.RerunNonErased) h = tt
opens-at env t s z (Err fault.OutOfMemory) h = tt
opens-at env t s z (Err fault.NotForThisKind) h = tt

opened-by : {P : Type 0} (self_of : P → Option Ty) (By : FormedBy) (g : Goal P) (l : AliasTerm) (s b d u : State) (q : Result (Option Response) Fault) (r : Result Response Fault) → b ≡ begun s → u ≡ restored s d →
    IsSelfAlias self_of g s l → InTrial By g.param_env.items l b q d → IsAfterTrial q r → MergesOpened self_of By g s r u
opened-by self_of By g l s b d u q r began undone self tried after =
    let h = subst (λ (x : State). InTrial By g.param_env.items l x q d) began tried in
    record {
      form = h.0;
      formed = h.1;
      opens = record {
        self = self.self;
        opens = (begun s, refl, subst (λ x. OpensFrom (answers_at s.remaining_depth) g.param_env.items x (begun s) h.0 h.1) self.same h.2);
        alone = h.3;
      };
      answer = q;
      last = d;
      by = h.4;
      after = after;
      back = undone;
    }

-- is merged after it
pub opened-merges : {P : Type 0} (self_of : P → Option Ty) (By : FormedBy) (g : Goal P) (l : AliasTerm) (s b d u : State) (q : Result (Option Response) Fault) (r : Result Response Fault) → b ≡ begun s → u ≡ restored s d →
    IsSelfAlias self_of g s l → WhenTried q (InTrial By g.param_env.items l b q d) → IsAfterTrial q r → WhenAnswered r (MergesOpened self_of By g s r u)
opened-merges self_of By g l s b d u (Ok None) (Ok x) began undone self tried after = opened-by self_of By g l s b d u (Ok None) (Ok x) began undone self tried after
opened-merges self_of By g l s b d u (Ok None) (Err f) began undone self tried after = absurd after
opened-merges self_of By g l s b d u (Ok (Some x)) r began undone self tried after =
    subst (λ (y : Result Response Fault). WhenAnswered y (MergesOpened self_of By g s y u)) (sym after) (opened-by self_of By g l s b d u (Ok (Some x)) (Ok x) began undone self tried refl)
opened-merges self_of By g l s b d u (Err fault.NoSolution) r began undone self tried after =
    subst (λ (y : Result Response Fault). WhenAnswered y (MergesOpened self_of By g s y u)) (sym after) (opened-by self_of By g l s b d u (Err fault.NoSolution) (Err fault.NoSolution) began undone self tried refl)
opened-merges self_of By g l s b d u (Err fault.RerunNonErased) r began undone self tried after = subst (λ (y : Result Response Fault). WhenAnswered y (MergesOpened self_of By g s y u)) (sym after) tt
opened-merges self_of By g l s b d u (Err fault.OutOfMemory) r began undone self tried after = subst (λ (y : Result Response Fault). WhenAnswered y (MergesOpened self_of By g s y u)) (sym after) tt
opened-merges self_of By g l s b d u (Err fault.NotForThisKind) r began undone self tried after = subst (λ (y : Result Response Fault). WhenAnswered y (MergesOpened self_of By g s y u)) (sym after) tt

-- and can be applied
pub opened-applies : (s d u : State) (q : Result (Option Response) Fault) (r : Result Response Fault) → GoesBack (begun s) d → u ≡ restored s d → IsSolved s.terms s.inference → IsSolved d.terms d.inference →
    HasOneTypeAKey s.storage → HasOneTypeAKey d.storage → IfOk q (λ o. IfSome o (IsListedIn d)) → (q ≡ Ok None → IfOk r (λ x. (x.var_values.items ≡ []) × IsQuiet (length (kinds_of u)) x)) → IsAfterTrial q r →
    IfOk r (IsApplicable u)
opened-applies s d u (Ok None) (Ok x) back undone solved later keyed stored lists quiet after =
    let h = quiet refl in
    nothing-applies-after s u x (undone ∙ sym (ap (restored s) undone)) keyed
    (subst (λ (y : State). IsQuiet (length (kinds_of y)) x) undone h.1) h.0
opened-applies s d u (Ok None) (Err f) back undone solved later keyed stored lists quiet after = tt
opened-applies s d u (Ok (Some x)) r back undone solved later keyed stored lists quiet after =
    let h : IsApplicable u lists.0 = listed-applies s d u lists.0.certainty lists.0 back undone solved later stored lists.1 in
    let own : IsApplicable u (record lists.0 { proven_via = x.proven_via }) = record { base = h.base; values = h.values; entries = h.entries } in
    subst (λ y. IfOk y (IsApplicable u)) (sym after) (subst (IsApplicable u) (sym lists.2) own)
opened-applies s d u (Err f) r back undone solved later keyed stored lists quiet after = subst (λ y. IfOk y (IsApplicable u)) (sym after) tt

-- a fault in the trial is one after it
pub after-fault : (s u : State) (q : Result (Option Response) Fault) (r : Result Response Fault) → IsFaultFor s u q → IsAfterTrial q r → IsFaultFor s u r
after-fault s u (Ok None) (Ok x) h after = tt
after-fault s u (Ok None) (Err f) h after = absurd after
after-fault s u (Ok (Some x)) r h after = subst (IsFaultFor s u) (sym after) tt
after-fault s u (Err fault.NoSolution) r h after = subst (IsFaultFor s u) (sym after) tt
after-fault s u (Err fault.RerunNonErased) r h after = subst (IsFaultFor s u) (sym after) h
after-fault s u (Err fault.OutOfMemory) r h after = subst (IsFaultFor s u) (sym after) tt
after-fault s u (Err fault.NotForThisKind) r h after = absurd h

-- nothing is claimed of want of memory
pub trial-unsaid : (A : Type 0) (f : Fault) → f ≡ fault.OutOfMemory → WhenTried (Err f) A
trial-unsaid A f e = subst (λ x. WhenTried (Err x) A) (sym e) tt

trial-refused : (A : Type 0) (f : Fault) → (f ≡ fault.NoSolution → A) → WhenTried (Err f) A
trial-refused A fault.NoSolution h = h refl
trial-refused A fault.RerunNonErased h = tt
trial-refused A fault.OutOfMemory h = tt
trial-refused A fault.NotForThisKind h = tt

-- the head form is refused
pub form-refused : (By : FormedBy) (env : List Clause) (l : AliasTerm) (s z : State) (f : Fault) → OpensFrom answers_term env (erased (tree_of_alias l)) s (Err f) z → ChangesRecords s z → By (Err f) z (Err f) z →
    WhenTried (Err f) (InTrial By env l s (Err f) z)
form-refused By env l s z f opens alone by =
    trial-refused (InTrial By env l s (Err f) z) f (λ e. (Err f, z, opens-at env (erased (tree_of_alias l)) s z (Err f) opens, alone, by))

-- no candidates are considered
pub form-passed : (By : FormedBy) (env : List Clause) (l : AliasTerm) (s z : State) (a : Option Term) → OpensFrom answers_term env (erased (tree_of_alias l)) s (Ok a) z → ChangesRecords s z → By (Ok a) z (Ok None) z →
    InTrial By env l s (Ok None) z
form-passed By env l s z a opens alone by = (Ok a, z, opens-at env (erased (tree_of_alias l)) s z (Ok a) opens, alone, by)

-- the candidates' answer is a refusal
pub merge-refused : (By : FormedBy) (Decides : Result Response Fault → Type 0) (env : List Clause) (l : AliasTerm) (s z u : State) (a : Option Term) (r : Result Response Fault) (f : Fault) → r ≡ Err f →
    OpensFrom answers_term env (erased (tree_of_alias l)) s (Ok a) z → ChangesRecords s z → WhenAnswered r (Decides r) → (Decides (Err f) → By (Ok a) z (Err f) u) → WhenTried (Err f) (InTrial By env l s (Err f) u)
merge-refused By Decides env l s z u a r f is opens alone decides by =
    trial-refused (InTrial By env l s (Err f) u) f
    (λ e.
    let refused : r ≡ Err fault.NoSolution = is ∙ ap (λ (x : Fault). Err x) e in
    let here : Decides (Err fault.NoSolution) = subst (λ x. WhenAnswered x (Decides x)) refused decides in
    (Ok a, z, opens-at env (erased (tree_of_alias l)) s z (Ok a) opens, alone, by (subst (λ x. Decides (Err x)) (sym e) here)))

-- or a response, which stands beside what the head form bound
abbrev pub IsBesideAll : State → Response → Result (Option Response) Fault → State → Type 0
IsBesideAll y q r u = IfOk r (λ o. IfSome o (λ x. IsBeside y q x u) × (is_some o ≡ true))

pub merge-answered : (By : FormedBy) (Decides : Result Response Fault → Type 0) (env : List Clause) (l : AliasTerm) (s z y u : State) (a : Option Term) (k : Result Response Fault) (q : Response) (r : Result (Option Response) Fault) →
    k ≡ Ok q → OpensFrom answers_term env (erased (tree_of_alias l)) s (Ok a) z → ChangesRecords s z → WhenAnswered k (Decides k) → IsBesideAll y q r u → IsOkUnless r fault.OutOfMemory →
    ((x : Response) → IsBeside y q x u → Decides (Ok q) → By (Ok a) z (Ok (Some x)) u) → WhenTried r (InTrial By env l s r u)
merge-answered By Decides env l s z y u a k q (Ok (Some x)) is opens alone decides beside memory by =
    (Ok a, z, opens-at env (erased (tree_of_alias l)) s z (Ok a) opens, alone, by x beside.0 (subst (λ v. WhenAnswered v (Decides v)) is decides))
merge-answered By Decides env l s z y u a k q (Ok None) is opens alone decides beside memory by = absurd (false≢true beside.1)
merge-answered By Decides env l s z y u a k q (Err f) is opens alone decides beside memory by = trial-unsaid _ f memory

-- the self type is asked for by a copy of it
pub asks-by : {P : Type 0} (self_of : P → Option Ty) (g : Goal P) (s : State) (t : Ty) (x : Term) (es : List Clause) (r : Result (Option AliasTerm) Fault) → Some t ≡ self_of g.predicate → tree_of_term x ≡ tree_of_ty t →
    es ≡ g.param_env.items → IfOk r (λ o. is_some o ≡ is_open_form (form_bound s x) es) → IfOk r (λ o. IfSome o (λ a. AsksOpenSelf self_of g s))
asks-by self_of g s t x es (Ok (Some l)) e same own told = record {
  self = t;
  asked = sym e;
  holds_some = ap (λ u. is_open_form (bound_term s u) g.param_env.items) (sym same) ∙ ap (λ v. is_open_form (bound_term s (tree_of_term x)) v) (sym own) ∙ sym told;
}
asks-by self_of g s t x es (Ok None) e same own told = tt
asks-by self_of g s t x es (Err f) e same own told = tt

pub asks-not : {P : Type 0} (self_of : P → Option Ty) (g : Goal P) (s : State) (t : Ty) (x : Term) (es : List Clause) (r : Result (Option AliasTerm) Fault) → Some t ≡ self_of g.predicate → tree_of_term x ≡ tree_of_ty t →
    es ≡ g.param_env.items → IfOk r (λ o. is_some o ≡ is_open_form (form_bound s x) es) → r ≡ Ok None → AsksOpenSelf self_of g s → ⊥
asks-not self_of g s t x es r e same own told is a =
    let nothing : false ≡ is_open_form (bound_term s (tree_of_term x)) es = subst (λ y. IfOk y (λ o. is_some o ≡ is_open_form (form_bound s x) es)) is told in
    false≢true
    (nothing ∙ ap (λ v. is_open_form (bound_term s (tree_of_term x)) v) own ∙ ap (λ u. is_open_form (bound_term s u) g.param_env.items) same
    ∙ ap (λ y. is_open_form (bound_term s (tree_of_ty y)) g.param_env.items) (some-same t a.self (e ∙ a.asked)) ∙ a.holds_some)

pub asks-alias : {P : Type 0} (self_of : P → Option Ty) (g : Goal P) (s z : State) (t : Ty) (x : Term) (es : List Clause) (r : Result (Option AliasTerm) Fault) → z ≡ restored s z → GoesBack s z → IsSolved s.terms s.inference →
    Some t ≡ self_of g.predicate → tree_of_term x ≡ tree_of_ty t → es ≡ g.param_env.items → IfOk r (λ o. is_some o ≡ is_open_form (form_bound s x) es) →
    IfOk r (λ o. IfSome o (λ l. erased (tree_of_alias l) ≡ form_bound s x)) → IfOk r (λ o. IfSome o (IsSelfAlias self_of g z))
unfolding asks-by
asks-alias self_of g s z t x es (Ok (Some l)) rest back solved e same own told alias =
    let asks = asks-by self_of g s t x es (Ok (Some l)) e same own told in
    let later : bound_term z (tree_of_ty t) ≡ bound_term s (tree_of_ty t) = tree-restored s z (tree_of_ty t) rest back solved in
    record {
      self = record { self = t; asked = sym e; holds_some = ap (λ u. is_open_form u g.param_env.items) later ∙ asks.holds_some };
      same = alias ∙ ap (bound_term s) same ∙ sym later;
    }
asks-alias self_of g s z t x es (Ok None) rest back solved e same own told alias = tt
asks-alias self_of g s z t x es (Err f) rest back solved e same own told alias = tt
