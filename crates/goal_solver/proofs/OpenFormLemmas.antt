-- Head forms of aliases that hold inference variables.
use Rattle.std.proofs.Common.{inr, ◌≡◌, ◌<◌, ◌&&◌, ◌||◌, ℕ, zero, suc, Bool, true, false, List, [], ◌∷◌, length, Option, Some, None, Result, Ok, Err, refl, sym, ap, subst, ◌∙◌}
use Rattle.std.proofs.lemmas.Bool.{false≢true}
use Rattle.std.specs.Prelude.{IfOk, IfErr, IfSome, OnOk}
use Rattle.goal_terms.specs.Erased.{erased}
use Rattle.goal_terms.specs.NodeTests.{is_any_infer, some_node}
use Rattle.goal_terms.specs.Tree.{Tree, variable, node_of}
use Rattle.goal_interner.specs.TableMeaning.{tree_at}
use Rattle.goal_terms.specs.TreeOf.{tree_of_alias, tree_of_term, is_type_kind}
use Rattle.goal_terms.specs.declared.answers.Certainty.{Certainty}
use Rattle.goal_terms.specs.declared.answers.Certainty.TheVariants as certainty
use Rattle.goal_terms.specs.declared.answers.OpaqueAccess.{OpaqueAccess}
use Rattle.goal_terms.specs.declared.answers.Response.{Response}
use Rattle.goal_terms.specs.declared.answers.VarKind.{VarKind}
use Rattle.goal_terms.specs.declared.modes.TypingMode.{TypingMode}
use Rattle.goal_terms.specs.declared.predicates.Clause.{Clause}
use Rattle.goal_terms.specs.declared.predicates.Goal.{Goal}
use Rattle.goal_terms.specs.declared.predicates.NormalizesTo.{NormalizesTo}
use Rattle.goal_interner.specs.declared.term_nodes.TermId.{TermId}
use Rattle.goal_terms.specs.declared.terms.AliasTerm.{AliasTerm}
use Rattle.goal_terms.specs.declared.terms.Term.{Term}
use Rattle.goal_tables.specs.Predicates.{some_in_env}
use Rattle.goal_infer.specs.Replacement.{replaced}
use Rattle.goal_infer.specs.Resolution.{IsSolved}
use Rattle.goal_infer.specs.Unification.{is_alias}
use Rattle.goal_lists.specs.Interned.{erased_at}
use Rattle.goal_lists.specs.Level.{Level}
use Rattle.goal_kinds.specs.declared.faults.Fault.{Fault}
use Rattle.goal_kinds.specs.declared.faults.Fault.TheVariants as fault
use Rattle.goal_solver.specs.Binding.{AppliesAside}
use Rattle.goal_solver.specs.GoingBack.{GoesBack, restored, at_depth}
use Rattle.goal_solver.specs.HeadForms.{bound_term, is_open_form, IsFormAnswer, IsAnswered}
use Rattle.goal_solver.specs.OpenAnswers.{answers_at, answers_term, less, merges_at, MergesProjection}
use Rattle.goal_solver.specs.OpenForms.{AppliesSure, IsUnsure, taking, has_unknown, kind_taking, with_taking, AsksTerm, TakesForm, RefusesTerm, OpensFrom, OpensForm, gives_form}
use Rattle.goal_solver.specs.OpenGoals.{WhenAnswered}
use Rattle.goal_solver.specs.OpenProjections.{MergesProjectionWith}
use Rattle.goal_solver.specs.Relating.{ChangesRecords, IsFaultFor}
use Rattle.goal_solver.specs.State.{State, kinds_of}
use Rattle.goal_solver.specs.TranslatedArgs.{IsSameEnvironment}
use Rattle.goal_solver.specs.Variables.{with_variables}
use Rattle.goal_solver.proofs.FormAnswerLemmas.{alias-erased}
use Rattle.goal_solver.proofs.SinceMarkLemmas.{resolution-kept}

-- how the goal of an alias's term is answered
abbrev AnswersBy : Type 1
AnswersBy = Goal NormalizesTo → State → Result Response Fault → State → Type 0

-- what stands for a term is the same in a context that has more terms and records
pub bound-restored : (a b : State) (x : Term) → b ≡ restored a b → GoesBack a b → IsSolved a.terms a.inference → bound_term b x ≡ bound_term a x
bound-restored a b x e back solved =
    ap (λ (s : State). bound_term (record s { terms = b.terms }) x) e
    ∙ ap (λ ρ. replaced ρ (erased (tree_of_term x))) (resolution-kept a.terms b.terms a.inference back.terms solved)

-- what is open is an alias
both-true : (a b : Bool) → (a && b) ≡ true → (a ≡ true) × (b ≡ true)
both-true true true e = (refl, refl)
both-true true false e = absurd (cc)
both-true false b e = absurd (cc)

pub open-is_alias : (t : Tree) (env : List Clause) → is_open_form t env ≡ true → is_alias (node_of t) ≡ true
open-is_alias t env e = (both-true (is_alias (node_of t)) (some_node is_any_infer t || some_in_env is_any_infer env) e).0

pub open-holds_some : (t : Tree) (env : List Clause) → is_open_form t env ≡ true → (some_node is_any_infer t || some_in_env is_any_infer env) ≡ true
open-holds_some t env e = (both-true (is_alias (node_of t)) (some_node is_any_infer t || some_in_env is_any_infer env) e).1

-- so is no other term
pub other-not_open : (t u : Tree) (env : List Clause) (b : Bool) (A : Type 0) → u ≡ t → b ≡ is_alias (node_of u) → b ≡ false → is_open_form t env ≡ true → A
other-not_open t u env b A same is not holds = absurd (false≢true (sym not ∙ is ∙ ap (λ x. is_alias (node_of x)) same ∙ open-is_alias t env holds))

pub closed-not_open : (t u : Tree) (env : List Clause) (b : Bool) (A : Type 0) → u ≡ t → b ≡ (some_node is_any_infer u || some_in_env is_any_infer env) → b ≡ false → is_open_form t env ≡ true → A
closed-not_open t u env b A same is not holds =
    absurd (false≢true (sym not ∙ is ∙ ap (λ x. some_node is_any_infer x || some_in_env is_any_infer env) same ∙ open-holds_some t env holds))

pub no_alias-not_open : (t : Tree) (env : List Clause) → is_alias (node_of t) ≡ false → is_open_form t env ≡ false
no_alias-not_open t env e = ap (λ b. b && (some_node is_any_infer t || some_in_env is_any_infer env)) e

-- the goal that is asked
pub asks-term : (env : List Clause) (a : AliasTerm) (x : Term) (b : Bool) (s : State) (g : Goal NormalizesTo) → g.predicate.alias ≡ a → g.predicate.term ≡ x →
    IsSameEnvironment env g.param_env.items → b ≡ is_type_kind a.kind → tree_of_term x ≡ variable (taking b (length (kinds_of s))) → AsksTerm env (erased (tree_of_alias a)) s g
asks-term env a x b s g same is own kind fresh = record {
  same_alias = ap (λ (y : AliasTerm). erased (tree_of_alias y)) same;
  fresh = ap tree_of_term is ∙ fresh ∙ ap (λ (c : Bool). variable (taking c (length (kinds_of s)))) (kind ∙ ap (λ (y : AliasTerm). is_type_kind y.kind) (sym same));
  environment = own;
}

-- and how it is answered
pub with-fresh : (a : AliasTerm) (b : Bool) (g : Goal NormalizesTo) (s f : State) → g.predicate.alias ≡ a → b ≡ is_type_kind a.kind → f ≡ with_variables (kind_taking b ∷ []) s → f ≡ with_taking g.predicate.alias.kind s
with-fresh a b g s f same kind made = made ∙ ap (λ (c : Bool). with_variables (kind_taking c ∷ []) s) (kind ∙ ap (λ (y : AliasTerm). is_type_kind y.kind) (sym same))

-- what it is answered is that with any depth, by what it is where there is some
merges-less : (d : ℕ) (g : Goal NormalizesTo) (s u : State) (r : Result Response Fault) →
    ((n : ℕ) → d ≡ suc n → MergesProjectionWith (answers_at n) (answers_at (less n)) g (at_depth n (with_taking g.predicate.alias.kind s)) r (at_depth n u)) → merges_at d g s r u
unfolding merges_at
merges-less zero g s u r h = tt
merges-less (suc zero) g s u r h = h zero refl
merges-less (suc (suc n)) g s u r h = h (suc n) refl

pub answers-ok : (g : Goal NormalizesTo) (s f u : State) (r : Result Response Fault) (q : Response) → f ≡ with_taking g.predicate.alias.kind s → r ≡ Ok q → u ≡ restored f u →
    ((n : ℕ) → f.remaining_depth ≡ suc n → WhenAnswered r (MergesProjection g (at_depth n f) r (at_depth n u))) → answers_term g s (Ok q) u
answers-ok g s f u r q made is back h = (
  back ∙ ap (λ (x : State). restored x u) made,
  merges-less s.remaining_depth g s u (Ok q)
      (λ n depth.
      subst (λ (x : State). MergesProjection g (at_depth n x) (Ok q) (at_depth n u)) made
      (subst (λ x. WhenAnswered x (MergesProjection g (at_depth n f) x (at_depth n u))) is
      (h n (ap (λ (x : State). x.remaining_depth) made ∙ depth)))),
)

pub answers-err : (g : Goal NormalizesTo) (s f u : State) (r : Result Response Fault) (e : Fault) → f ≡ with_taking g.predicate.alias.kind s → r ≡ Err e → u ≡ restored f u →
    ((n : ℕ) → f.remaining_depth ≡ suc n → WhenAnswered r (MergesProjection g (at_depth n f) r (at_depth n u))) → e ≡ fault.NoSolution → answers_term g s (Err e) u
answers-err g s f u r e made is back h refusal = (
  back ∙ ap (λ (x : State). restored x u) made,
  merges-less s.remaining_depth g s u (Err e)
      (λ n depth.
      let refused : r ≡ Err fault.NoSolution = is ∙ ap (λ (x : Fault). Err x) refusal in
      subst (λ x. MergesProjection g (at_depth n (with_taking g.predicate.alias.kind s)) (Err x) (at_depth n u)) (sym refusal)
      (subst (λ (x : State). MergesProjection g (at_depth n x) (Err fault.NoSolution) (at_depth n u)) made
      (subst (λ x. WhenAnswered x (MergesProjection g (at_depth n f) x (at_depth n u))) refused
      (h n (ap (λ (x : State). x.remaining_depth) made ∙ depth))))),
)

-- what is answered where there is a refusal, by what the goal's refusal is
pub opens-refused : (A : AnswersBy) (env : List Clause) (t : Tree) (s z : State) (f : Fault) → (f ≡ fault.NoSolution → RefusesTerm A env t s) → OpensFrom A env t s (Err f) z
opens-refused A env t s z fault.NoSolution h = h refl
opens-refused A env t s z fault.RerunNonErased h = tt
opens-refused A env t s z fault.OutOfMemory h = tt
opens-refused A env t s z fault.NotForThisKind h = tt

pub refuses-term : (A : AnswersBy) (env : List Clause) (t : Tree) (s u : State) (g : Goal NormalizesTo) (f : Fault) → AsksTerm env t s g → (f ≡ fault.NoSolution → A g s (Err f) u) →
    f ≡ fault.NoSolution → RefusesTerm A env t s
refuses-term A env t s u g f asks h e = record {
  asked = g;
  asks = asks;
  answered = u;
  answers = subst (λ x. A g s (Err x) u) e (h e);
}

-- where the term that stands for the variable is answered
pub opens-answered : (A : AnswersBy) (env : List Clause) (t u : Tree) (s z : State) (r : Result (Option Term) Fault) → IfOk r (IsAnswered u) → IfErr r (λ f. f ≡ fault.OutOfMemory) →
    ((x : Term) → erased (tree_of_term x) ≡ u → TakesForm A env t s x z) → OpensFrom A env t s r z
opens-answered A env t u s z (Ok (Some x)) h m take = take x h
opens-answered A env t u s z (Ok None) h m take = absurd h
opens-answered A env t u s z (Err f) h m take = subst (λ g. OpensFrom A env t s (Err g) z) (sym m) tt

-- a context with more terms has no other change
pub grown-left : (a z : State) → z ≡ record a { terms = z.terms } → z ≡ record a { terms = z.terms; delayed_faults = z.delayed_faults }
grown-left a z e = e ∙ sym (ap (λ (x : State). record a { terms = z.terms; delayed_faults = x.delayed_faults }) e)

-- delayed faults are let go of, or everything goes back where there is no head form
pub opens-let_go : (A : AnswersBy) (env : List Clause) (t : Tree) (s b z : State) (r : Result (Option Term) Fault) → z ≡ record b { delayed_faults = z.delayed_faults } → OpensFrom A env t s r b → OpensFrom A env t s r z
opens-let_go A env t s b z (Ok (Some x)) e h = record {
  asked = h.asked;
  asks = h.asks;
  response = h.response;
  answered = h.answered;
  answers = h.answers;
  applied = h.applied;
  applies = h.applies;
  form = h.form;
  left =
      let left : z ≡ record h.applied { terms = b.terms; delayed_faults = z.delayed_faults } = e ∙ ap (λ (y : State). record y { delayed_faults = z.delayed_faults }) h.left in
      left ∙ sym (ap (λ (y : State). record h.applied { terms = y.terms; delayed_faults = z.delayed_faults }) left);
}
opens-let_go A env t s b z (Ok None) e h = h
opens-let_go A env t s b z (Err fault.NoSolution) e h = h
opens-let_go A env t s b z (Err fault.RerunNonErased) e h = tt
opens-let_go A env t s b z (Err fault.OutOfMemory) e h = tt
opens-let_go A env t s b z (Err fault.NotForThisKind) e h = tt

pub opens-undone : (A : AnswersBy) (env : List Clause) (t : Tree) (s b z : State) (r : Result (Option Term) Fault) → gives_form r ≡ false → OpensFrom A env t s r b → OpensFrom A env t s r z
opens-undone A env t s b z (Ok (Some x)) e h = absurd (cc)
opens-undone A env t s b z (Ok None) e h = h
opens-undone A env t s b z (Err fault.NoSolution) e h = h
opens-undone A env t s b z (Err fault.RerunNonErased) e h = tt
opens-undone A env t s b z (Err fault.OutOfMemory) e h = tt
opens-undone A env t s b z (Err fault.NotForThisKind) e h = tt

-- an alias of a term, in the context before there were more terms
pub opens-form : (A : AnswersBy) (env : List Clause) (t u : Tree) (s b z : State) (r : Result (Option Term) Fault) → b ≡ restored s b → u ≡ t → OpensFrom A env u b r z → OpensForm A env t s r z
opens-form A env t u s b z r e same h = (b, e, subst (λ x. OpensFrom A env x b r z) same h)

pub opens-later : (A : AnswersBy) (env : List Clause) (t u : Tree) (s b z : State) (r : Result (Option Term) Fault) → b ≡ restored s b → u ≡ t → OpensForm A env u b r z → OpensForm A env t s r z
opens-later A env t u s b z r e same h = (
  h.0,
  h.1 ∙ ap (λ (x : State). restored x h.0) e,
  subst (λ x. OpensFrom A env x h.0 r z) same h.2,
)

-- where nothing is answered and nothing else refused but memory
pub left-opens : (A : AnswersBy) (env : List Clause) (t : Tree) (s z : State) (f : Fault) → f ≡ fault.OutOfMemory → OpensFrom A env t s (Err f) z
left-opens A env t s z f e = subst (λ g. OpensFrom A env t s (Err g) z) (sym e) tt

pub none-answered : (L : Level) (t : Tree) (r : Result (Option Term) Fault) → IfOk r (λ o. o ≡ None) → IfErr r (λ f. f ≡ fault.OutOfMemory) → IsFormAnswer L t r
none-answered L t (Ok o) h m = subst (λ x. IsFormAnswer L t (Ok x)) (sym h) tt
none-answered L t (Err f) h m = subst (λ g. IsFormAnswer L t (Err g)) (sym m) tt

pub none-given : (r : Result (Option Term) Fault) → IfOk r (λ o. o ≡ None) → gives_form r ≡ false
none-given (Ok o) h = ap (λ x. gives_form (Ok x)) h
none-given (Err f) h = refl

-- what is restored twice, or has more terms first, is restored
pub restored-twice : (a b c : State) → b ≡ restored a b → c ≡ restored b c → c ≡ restored a c
restored-twice a b c e f = f ∙ ap (λ (s : State). restored s c) e

pub restored-grown : (a b : State) → b ≡ record a { terms = b.terms } → b ≡ restored a b
restored-grown a b e = e ∙ sym (ap (λ (x : State). record a { terms = b.terms; accesses = x.accesses; delayed_faults = x.delayed_faults }) e)

-- a fault stays one when everything goes back
pub undone-fault : (T : Type 0) (s b z : State) (r : Result T Fault) → z ≡ restored s b → IsFaultFor s b r → IsFaultFor s z r
undone-fault T s b z (Ok x) e h = tt
undone-fault T s b z (Err fault.NoSolution) e h = tt
undone-fault T s b z (Err fault.RerunNonErased) e h = (h.0, subst (λ (xs : List OpaqueAccess). 0 < length xs) (sym (ap (λ (x : State). x.accesses) e)) h.1)
undone-fault T s b z (Err fault.OutOfMemory) e h = tt
undone-fault T s b z (Err fault.NotForThisKind) e h = h

-- a variable that is made changes inference state alone
pub made-records : (s z : State) (k : VarKind) → z ≡ with_variables (k ∷ []) s → ChangesRecords s z
made-records s z k e =
    e ∙ sym (ap (λ (x : State). record s { terms = x.terms; inference = x.inference; accesses = x.accesses; delayed_faults = x.delayed_faults }) e)

pub same-records : (s z : State) → z ≡ s → ChangesRecords s z
same-records s z e = e ∙ sym (ap (λ (x : State). record s { terms = x.terms; inference = x.inference; accesses = x.accesses; delayed_faults = x.delayed_faults }) e)

-- what is said of what there may be is said of what there is
pub known : {A : Type 0} (o : Option A) (x : A) (B : A → Type 0) → o ≡ Some x → IfSome o B → B x
known o x B e h = subst (λ p. IfSome p B) e h

-- what is nothing isn't something
pub left-none : {A : Type 0} (o : Option A) (x : A) → o ≡ Some x → o ≡ None → ⊥
left-none o x e f = let d : None ≡ Some x = sym f ∙ e in absurd (cc)

-- a response that is sure is applied
pub when-ok : {A B : Type 0} (r : Result A B) (x : A) (P : Type 0) → r ≡ Ok x → OnOk r P → P
when-ok r x P e h = subst (λ q. OnOk q P) e h

sure-is : (c : Certainty) → (c ≡ certainty.Maybe → ⊥) → c ≡ certainty.Yes
sure-is certainty.Yes sure = refl
sure-is certainty.Maybe sure = absurd (sure refl)

pub sure-applied : (s z : State) (q : Response) (m : TypingMode) (b : Bool) (r : Result Unit Fault) (u : Unit {0}) → (q.certainty ≡ certainty.Maybe → ⊥) → m ≡ s.typing_mode →
    b ≡ has_unknown m q.opaque_entries.items → b ≡ false → r ≡ Ok u → OnOk r (AppliesAside s z q) → AppliesSure s z q
sure-applied s z q m b r u sure same is known ok applied = record {
  sure = sure-is q.certainty sure;
  known = ap (λ n. has_unknown n q.opaque_entries.items) (sym same) ∙ sym is ∙ known;
  applies = when-ok r u (AppliesAside s z q) ok applied;
}

-- and no other
pub stays-unsure : (s : State) (q : Response) (m : TypingMode) (b : Bool) → m ≡ s.typing_mode → b ≡ has_unknown m q.opaque_entries.items → b ≡ true → IsUnsure s q
stays-unsure s q m b same is some = inr (ap (λ n. has_unknown n q.opaque_entries.items) (sym same) ∙ sym is ∙ some)

-- an alias that is open, by its number
pub open-alias_term : (T : List Tree) (id : TermId) (env : List Clause) (x : Term) (b : Bool) → b ≡ is_open_form (erased_at T id) env → b ≡ true → tree_of_term x ≡ tree_at T id → is_alias (node_of (tree_of_term x)) ≡ true
open-alias_term T id env x b is holds same =
    ap (λ t. is_alias (node_of t)) same ∙ sym (alias-erased (tree_at T id)) ∙ open-is_alias (erased_at T id) env (sym is ∙ holds)

pub open-told : (t u : Tree) (env : List Clause) (b d : Bool) → u ≡ t → b ≡ is_open_form u env → b ≡ d → d ≡ is_open_form t env
open-told t u env b d same is e = sym e ∙ is ∙ ap (λ x. is_open_form x env) same

pub alias-told : (t : Tree) (T : List Tree) (id : TermId) (x : Term) (l : AliasTerm) → erased_at T id ≡ t → tree_of_term x ≡ tree_at T id → tree_of_alias l ≡ tree_of_term x → erased (tree_of_alias l) ≡ t
alias-told t T id x l told same is = ap erased (is ∙ same) ∙ told
