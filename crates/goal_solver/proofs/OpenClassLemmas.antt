-- Trait goals with inference variables: how their forms and their classes answer.
use Rattle.std.proofs.Common.{◌≡◌, Bool, false, Option, Some, None, Result, Ok, Err, List, [], ◌∷◌, inl, inr, refl, sym, ap, subst, ◌∙◌, ⊎_elim}
use Rattle.std.specs.Prelude.{IfOk}
use Rattle.goal_terms.specs.Tree.{Tree, node_of}
use Rattle.goal_terms.specs.TreeOf.{tree_of_term, tree_of_ty}
use Rattle.goal_terms.specs.declared.answers.Response.{Response}
use Rattle.goal_terms.specs.declared.answers.TraitGoalProvenVia.{TraitGoalProvenVia}
use Rattle.goal_terms.specs.declared.modes.TypingMode.{TypingMode}
use Rattle.goal_terms.specs.declared.predicates.Clause.{Clause}
use Rattle.goal_terms.specs.declared.predicates.Goal.{Goal}
use Rattle.goal_terms.specs.declared.terms.Term.{Term}
use Rattle.goal_terms.specs.declared.terms.Ty.{Ty}
use Rattle.goal_tables.specs.declared.rows.Tables.{Tables}
use Rattle.goal_tables.specs.declared.faults.TermFault.{TermFault}
use Rattle.goal_lists.specs.Candidates.{rest}
use Rattle.goal_kinds.specs.declared.faults.Fault.{Fault}
use Rattle.goal_kinds.specs.declared.faults.Fault.TheVariants as fault
use Rattle.goal_kinds.specs.declared.rules.Rule.{Rule}
use Rattle.goal_solver.specs.Answers.{IsOwed, level_over}
use Rattle.goal_kinds.specs.Collecting.{Kind, CollectsFor, has_kind_fault, rules_of_class, goal_in}
use Rattle.goal_solver.specs.GoingBack.{restored}
use Rattle.goal_solver.specs.HeadForms.{IsClosedForm, IsFormAnswer, IsFormOpen, IsAnswered, bound_term}
use Rattle.goal_solver.specs.HiddenTypes.{AsksForm}
use Rattle.goal_solver.specs.OpenAnswers.{MergesGoal}
use Rattle.goal_solver.specs.OpenGoals.{IsNoForm, IsConsidered, Considers, IsLeft, IsFormless, FormsGoal, IsClassAnswer, ClassAnswers, AreOfClass, CollectsClasses, ConsidersRules, ByClasses, trait_classes, WhenAnswered}
use Rattle.goal_solver.specs.MergedRules.{MergesRules}
use Rattle.goal_eval.specs.Pending.{is_alias}
use Rattle.goal_solver.specs.State.{State}
use Rattle.goal_solver.specs.TranslatedArgs.{IsSameEnvironment}
use Rattle.goal_kinds.specs.declared.assembly.class_rules.ClassRules.{ClassRules}
use Rattle.goal_solver.specs.declared.assembly.merged_rules.Merged.{Merged}

-- of an error only a refusal is claimed something
pub when-refused : (A : Type 0) (f : Fault) → (f ≡ fault.NoSolution → A) → WhenAnswered (Err f) A
when-refused A fault.NoSolution h = h refl
when-refused A fault.RerunNonErased h = tt
when-refused A fault.OutOfMemory h = tt
when-refused A fault.NotForThisKind h = tt

-- the head form of a term is asked for as that of its tree
pub asks-form : (es env : List Clause) (x : Term) (t : Tree) (a b : State) (r : Result (Option Term) Fault) → es ≡ env → tree_of_term x ≡ t →
    ((m : TypingMode) → IsOwed b m → IsFormAnswer (level_over a m es) (bound_term a x) r) →
    ((m : TypingMode) → IsOwed b m → IsClosedForm (bound_term a x) es → r ≡ Ok None → IsFormOpen (level_over a m es) (bound_term a x)) →
    (is_alias (node_of (bound_term a x)) ≡ false → IfOk r (IsAnswered (bound_term a x))) → b ≡ restored a b → AsksForm env t a b r
asks-form es env x t a b r e f sound decided itself back =
    subst (λ u. AsksForm env u a b r) f
    (subst (λ v. AsksForm v (tree_of_term x) a b r) e (record { sound = sound; decided = decided; itself = itself; back = back }))

-- the first class that answers decides
abbrev CollectsBy : Type 1
CollectsBy = TypingMode → TraitGoalProvenVia → List Rule → Type 0

pub first-answers : (C : CollectsBy) (env : List Clause) (c : TraitGoalProvenVia) (cs : List TraitGoalProvenVia) (s u : State) (a : Response) →
    ClassAnswers C env c s (Some a) u → ByClasses C env (c ∷ cs) s (Ok a) u
unfolding ByClasses
first-answers C env c cs s u a h = inl (a, h, refl)

-- where it doesn't, the next ones do
pub next-answers : (C : CollectsBy) (env : List Clause) (c : TraitGoalProvenVia) (cs : List TraitGoalProvenVia) (s z u : State) (r : Result Response Fault) →
    ClassAnswers C env c s None z → ByClasses C env cs z r u → ByClasses C env (c ∷ cs) s r u
unfolding ByClasses
next-answers C env c cs s z u r h rest = inr (z, h, rest)

-- and without any the goal is refused
pub none-answers : (C : CollectsBy) (env : List Clause) (s u : State) (r : Result Response Fault) → u ≡ s → r ≡ Err fault.NoSolution → ByClasses C env [] s r u
unfolding ByClasses
none-answers C env s u r e h = (e, h)

-- a class answers by what its rules are merged to
pub class-answers : (C : CollectsBy) (env es : List Clause) (c : TraitGoalProvenVia) (s u : State) (rules qs : List Rule) (m n : Merged) (a : Option Response) → es ≡ env → qs ≡ rules →
    C s.typing_mode c rules → MergesRules es qs s m u → m ≡ n → IsClassAnswer c n a → ClassAnswers C env c s a u
class-answers C env es c s u rules qs m n a e f h merges is k =
    (rules, h, n, subst (λ x. MergesRules env rules s x u) is (subst (λ xs. MergesRules env xs s m u) f (subst (λ xs. MergesRules xs qs s m u) e merges)), k)

-- what a class answers, by the mode that there was before
pub answered-in : (mode : TypingMode) (w : ClassRules) (c : TraitGoalProvenVia) (z u : State) (o a : Option Response) → z.typing_mode ≡ mode → o ≡ a →
    ClassAnswers (AreOfClass z.typing_mode w) w.param_env.items c z o u → ClassAnswers (AreOfClass mode w) w.param_env.items c z a u
answered-in mode w c z u o a e f h =
    subst (λ x. ClassAnswers (AreOfClass x w) w.param_env.items c z a u) e (subst (λ x. ClassAnswers (AreOfClass z.typing_mode w) w.param_env.items c z x u) f h)

-- what is claimed of an answer follows from another claim of it
pub answered-map : (A B : Type 0) (r : Result Response Fault) → (A → B) → WhenAnswered r A → WhenAnswered r B
answered-map A B (Ok x) f h = f h
answered-map A B (Err fault.NoSolution) f h = f h
answered-map A B (Err fault.RerunNonErased) f h = tt
answered-map A B (Err fault.OutOfMemory) f h = tt
answered-map A B (Err fault.NotForThisKind) f h = tt

-- what a goal's self type's form comes to
pub formless : {P : Type 0} (self_of : P → Option Ty) (g : Goal P) (s : Ty) (a b : State) (r : Result (Option Term) Fault) → Some s ≡ self_of g.predicate →
    AsksForm g.param_env.items (tree_of_ty s) a b r → r ≡ Err fault.NoSolution → IsFormless self_of g a b
formless self_of g s a b r e h is = (s, sym e, subst (λ x. AsksForm g.param_env.items (tree_of_ty s) a b x) is h)

none-considered : (o : Option Term) (r : Option Ty) → IsConsidered o r → ((x : Ty) → r ≡ Some x → ⊥) → IsNoForm o
none-considered o None h n = h
none-considered o (Some x) h n = absurd (n x refl)

pub no-form : {P : Type 0} (self_of : P → Option Ty) (with_self : P → Tree → P → Type 0) (lies : Goal P → Bool) (g : Goal P) (s : Ty) (a b : State) (r : Result (Option Term) Fault) (o : Option Term)
    (f : Option Ty) → Some s ≡ self_of g.predicate → AsksForm g.param_env.items (tree_of_ty s) a b r → r ≡ Ok o → IsConsidered o f → ((x : Ty) → f ≡ Some x → ⊥) →
    IsLeft self_of with_self lies g a b
no-form self_of with_self lies g s a b r o f e h is k n =
    inr (inl (s, sym e, o, subst (λ x. AsksForm g.param_env.items (tree_of_ty s) a b x) is h, none-considered o f k n))

pub considers : {P : Type 0} (self_of : P → Option Ty) (with_self : P → Tree → P → Type 0) (g h : Goal P) (s : Ty) (a b : State) (r : Result (Option Term) Fault) (o : Option Term) (form : Ty) →
    Some s ≡ self_of g.predicate → AsksForm g.param_env.items (tree_of_ty s) a b r → r ≡ Ok o → IsConsidered o (Some form) → with_self g.predicate (tree_of_ty form) h.predicate →
    IsSameEnvironment g.param_env.items h.param_env.items → Considers self_of with_self g h a b
considers self_of with_self g h s a b r o form e asked is k replaced same = record {
  self = s;
  asked = sym e;
  form = form;
  found = subst (λ x. AsksForm g.param_env.items (tree_of_ty s) a b x) (is ∙ ap (λ (x : Option Term). Ok x) k.0) asked;
  general = k.1;
  replaced = replaced;
  environment = same;
}

-- classes whose rules are others answer likewise
pub classes-mapped : (C D : CollectsBy) (env : List Clause) (cs : List TraitGoalProvenVia) (s u : State) (r : Result Response Fault) →
    ((m : TypingMode) (c : TraitGoalProvenVia) (rs : List Rule) → C m c rs → D m c rs) → ByClasses C env cs s r u → ByClasses D env cs s r u
unfolding ByClasses
classes-mapped C D env [] s u r f h = h
classes-mapped C D env (c ∷ cs) s u r f h =
    ⊎_elim (λ k. inl (k.0, (k.1.0, f s.typing_mode c k.1.0 k.1.1, k.1.2, k.1.3, k.1.4), k.2))
    (λ k. inr (k.0, (k.1.0, f s.typing_mode c k.1.0 k.1.1, k.1.2, k.1.3, k.1.4), classes-mapped C D env cs k.0 u r f k.2)) h

-- the rules of a class that were collected in a mode
of-class : {P : Type 0} (K : Kind P) (t : Tables) (h : Goal P) (w : ClassRules) (mode m : TypingMode) (c : TraitGoalProvenVia) (rs : List Rule) →
    ((x : TraitGoalProvenVia) → CollectsFor K (goal_in t h mode) x (rules_of_class w x)) → AreOfClass mode w m c rs → CollectsFor K (goal_in t h m) c rs
of-class K t h w mode m c rs collected is = subst (λ xs. CollectsFor K (goal_in t h m) c xs) (sym is.1) (subst (λ x. CollectsFor K (goal_in t h x) c (rules_of_class w c)) (sym is.0) (collected c))

-- for the goal that is considered in a goal's place
pub collects-classes : {P : Type 0} (K : Kind P) (g h : Goal P) (s x z : State) (w : ClassRules) (o : Option (Goal P)) → FormsGoal K.words.self_type K.words.is_with_self (has_kind_fault K.has_fault s.tables) g s z o →
    o ≡ Some h → x ≡ z → z ≡ restored s z → w.param_env.items ≡ h.param_env.items → ((c : TraitGoalProvenVia) → CollectsFor K (goal_in x.tables h x.typing_mode) c (rules_of_class w c)) →
    CollectsClasses K g s z w
collects-classes K g h s x z w o forms is same back env collected =
    let f = subst (λ y. FormsGoal K.words.self_type K.words.is_with_self (has_kind_fault K.has_fault s.tables) g s z y) is forms in
    record {
      considered = h;
      considers = f.0;
      accepted = f.1;
      environment = env;
      collected = λ c. subst (λ (y : State). CollectsFor K (goal_in y.tables h y.typing_mode) c (rules_of_class w c)) (same ∙ back) (collected c);
    }

-- which is one that a check accepts
pub considered-accepted : {P : Type 0} (K : Kind P) (g h : Goal P) (s x z : State) (o : Option (Goal P)) → FormsGoal K.words.self_type K.words.is_with_self (has_kind_fault K.has_fault s.tables) g s z o →
    o ≡ Some h → x ≡ z → z ≡ restored s z → has_kind_fault K.has_fault x.tables h ≡ false
considered-accepted K g h s x z o forms is same back =
    let f = subst (λ y. FormsGoal K.words.self_type K.words.is_with_self (has_kind_fault K.has_fault s.tables) g s z y) is forms in
    subst (λ (y : State). has_kind_fault K.has_fault y.tables h ≡ false) (sym (same ∙ back)) f.1

-- a goal for which rules are collected is answered by its classes
pub by-classes : {P : Type 0} (K : Kind P) (g : Goal P) (s z u : State) (r : Result Response Fault) (o : Option ClassRules) (w : ClassRules) → ConsidersRules K g s o z → o ≡ Some w →
    z ≡ restored s z → WhenAnswered r (ByClasses (AreOfClass z.typing_mode w) w.param_env.items trait_classes z r u) → WhenAnswered r (MergesGoal K g s r u)
by-classes K g s z u r o w considers is back by =
    let f = subst (λ x. ConsidersRules K g s x z) is considers in
    let mode : z.typing_mode ≡ s.typing_mode = ap (λ (x : State). x.typing_mode) back in
    answered-map (ByClasses (AreOfClass z.typing_mode w) w.param_env.items trait_classes z r u) (MergesGoal K g s r u) r
    (λ b. inr (inr (inl (
      f.considered,
      z,
      f.considers,
      f.accepted,
      classes-mapped (AreOfClass z.typing_mode w) (λ m. CollectsFor K (goal_in s.tables f.considered m)) f.considered.param_env.items trait_classes z u r
          (λ m c rs h. of-class K s.tables f.considered w s.typing_mode m c rs f.collected (h.0 ∙ mode, h.1))
          (subst (λ es. ByClasses (AreOfClass z.typing_mode w) es trait_classes z r u) f.environment b),
    )))) by

pub none-left : {A : Type 0} (o : Option A) → ((x : A) → o ≡ Some x → ⊥) → o ≡ None
none-left None n = refl
none-left (Some x) n = absurd (n x refl)

-- a state that is restored thrice is restored
pub faulty-in : {P : Type 0} (lies : P → Tables → TermFault → Bool) (x u a : State) (g : Goal P) (r b : Bool) → x ≡ u → u ≡ restored a u → r ≡ has_kind_fault lies x.tables g → r ≡ b →
    has_kind_fault lies a.tables g ≡ b
faulty-in lies x u a g r b e back is f =
    ap (λ (t : Tables). has_kind_fault lies t g) (sym (ap (λ (s : State). s.tables) e ∙ ap (λ (s : State). s.tables) back)) ∙ sym is ∙ f
