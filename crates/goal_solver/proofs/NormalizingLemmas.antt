-- What answering a goal of an alias's term binds, and that what is found for a closed alias can be given to a free variable.
use Rattle.std.proofs.Common.{◌≡◌, ℕ, zero, suc, Bool, true, false, List, [], ◌∷◌, ◌++◌, map, Some, None, Result, Ok, Err, refl, sym, ap, ◌∙◌, subst}
use Rattle.std.specs.Prelude.{IsTrue, IfOk, OnOk, slice_get}
use Rattle.goal_terms.specs.NodeTests.{is_any_infer, is_made, same_var_kind, some_node}
use Rattle.goal_terms.specs.Erased.{erased}
use Rattle.goal_terms.specs.Sorts.{sort_of}
use Rattle.goal_interner.specs.TableMeaning.{Keeps, tree_at}
use Rattle.goal_terms.specs.Tree.{Tree, node, alias, node_of, variable}
use Rattle.goal_terms.specs.TreeOf.{tree_of_alias, tree_of_term, is_type_kind}
use Rattle.goal_terms.specs.declared.answers.Certainty.{Certainty}
use Rattle.goal_terms.specs.declared.answers.Certainty.TheVariants as certainty
use Rattle.goal_terms.specs.declared.answers.VarKind.{VarKind}
use Rattle.goal_terms.specs.declared.answers.VarKind.TheVariants as kind
use Rattle.goal_terms.specs.declared.heads.Node.{Node}
use Rattle.goal_terms.specs.declared.heads.Node.TheVariants as nodes
use Rattle.goal_terms.specs.declared.heads.Variable.{Variable}
use Rattle.goal_terms.specs.declared.modes.TypingMode.{TypingMode}
use Rattle.goal_terms.specs.declared.predicates.Clause.{Clause}
use Rattle.goal_terms.specs.declared.predicates.Goal.{Goal}
use Rattle.goal_terms.specs.declared.predicates.NormalizesTo.{NormalizesTo}
use Rattle.goal_terms.specs.declared.predicates.Predicate.{Predicate}
use Rattle.goal_terms.specs.declared.predicates.Predicate.TheVariants as predicate
use Rattle.goal_interner.specs.declared.term_nodes.TermId.{TermId}
use Rattle.goal_terms.specs.declared.terms.AliasTermKind.{AliasTermKind}
use Rattle.goal_terms.specs.declared.terms.Region.{Region}
use Rattle.goal_terms.specs.declared.terms.Term.{Term}
use Rattle.goal_tables.specs.Faults.{IsChecked}
use Rattle.goal_tables.specs.declared.rows.Tables.{Tables}
use Rattle.goal_infer.specs.Binding.{bound_to, MayBecome}
use Rattle.goal_infer.specs.Inference.{Inference}
use Rattle.goal_infer.specs.Occurrence.{place_of}
use Rattle.goal_infer.specs.Replacement.{number_of, takes}
use Rattle.goal_infer.specs.Resolution.{binding_at, binding_in, binding_of, resolution, resolved, term_at}
use Rattle.goal_infer.specs.Unification.{is_made_in}
use Rattle.goal_infer.specs.declared.occurs.Occurrence.TheVariants.{Nowhere}
use Rattle.goal_infer.specs.declared.undo.InferVariable.{InferVariable}
use Rattle.goal_infer.proofs.BindLemmas.{set-elsewhere}
use Rattle.goal_infer.proofs.BindingLemmas.{own-after}
use Rattle.goal_lists.specs.Answers.{setting_of}
use Rattle.goal_lists.specs.Interned.{IsIn, erased_at}
use Rattle.goal_lists.specs.KindedTerms.{NoKindFault, NoKindFaultInEnv}
use Rattle.goal_lists.specs.Level.{Level}
use Rattle.goal_lists.specs.Levels.{level}
use Rattle.goal_kinds.specs.declared.faults.Fault.{Fault}
use Rattle.goal_lists.specs.declared.outcomes.Outcome.{Outcome}
use Rattle.goal_lists.specs.declared.outcomes.Outcome.TheVariants as outcome
use Rattle.goal_kinds.proofs.ClosedLevels.{closed-public_given}
use Rattle.goal_lists.proofs.InternedLemmas.{in-grown, same-grown}
use Rattle.goal_kinds.proofs.PlacedLevels.{placed-given}
use Rattle.goal_eval.specs.ErasedArgs.{erased_args}
use Rattle.goal_eval.specs.Outcomes.{FoundIn, Says, SaysWhich}
use Rattle.goal_eval.specs.declared.eval.outcomes.Found.{Found}
use Rattle.goal_eval.specs.declared.eval.outcomes.Found.TheVariants as founds
use Rattle.goal_eval.specs.declared.eval.outcomes.Stop.{Stop}
use Rattle.goal_solver.specs.AddedGoals.{GoalHolds, GoalRefuted, SaysGoalAt, IsClosedGoal, IsAnswerable, IsVerdict, BindsItsOwn, BindsFor, BindsAsked, TakesIts}
use Rattle.goal_solver.specs.Answers.{level_over}
use Rattle.goal_solver.specs.Binding.{IsFreeFor, bound_term, with_equations}
use Rattle.goal_solver.specs.Normalizing.{IsFree, IsNormalizable, KeepsAll, KeepsOthers, KeepsBut, outcome_of, EndsAt, GivesFree, GivesFitting, IsGivenTo, BindsOutcome, TakesTerm}
use Rattle.goal_solver.specs.FreeVariables.{general_variable}
use Rattle.goal_solver.specs.GoingBack.{GoesBack}
use Rattle.goal_solver.specs.OpenForms.{taking}
use Rattle.goal_solver.specs.Recording.{FitsKind}
use Rattle.goal_solver.specs.State.{State}
use Rattle.goal_solver.specs.Variables.{unbound, with_variables}
use Rattle.goal_solver.proofs.ApplicableLemmas.{alias-is_term, closed-replaced, closed-nowhere}
use Rattle.goal_solver.proofs.RelatedLemmas.{binding-stays}
use Rattle.goal_solver.proofs.StoredLemmas.{none-is-some, some-is}

-- nothing is bound where inference state is the same
pub keeps-same : (a b : State) → b.inference ≡ a.inference → KeepsAll a b
keeps-same a b e m x h = subst (λ (i : Inference). slice_get i.variables m ≡ Some x) (sym e) h

-- changes one after the other
pub keeps-all : (a b c : State) → KeepsAll a b → KeepsAll b c → KeepsAll a c
keeps-all a b c f g m x h = g m x (f m x h)

pub keeps-then : (o : Outcome) (n : ℕ) (a b c : State) → KeepsAll a b → KeepsBut o n b c → KeepsBut o n a c
keeps-then outcome.Holds n a b c f g = λ m x apart h. g m x apart (f m x h)
keeps-then outcome.Refuted n a b c f g = keeps-all a b c f g
keeps-then outcome.Undecided n a b c f g = keeps-all a b c f g

pub keeps-left : (n : ℕ) (a b c : State) → KeepsOthers n a b → KeepsAll b c → KeepsOthers n a c
keeps-left n a b c f g m x apart h = g m x (f m x apart h)

-- region variables come behind those that there are
front : {A : Type 0} (xs ys : List A) (m : ℕ) (x : A) → slice_get xs m ≡ Some x → slice_get (xs ++ ys) m ≡ Some x
front [] ys m x e = absurd (cc)
front (z ∷ xs) ys zero x e = e
front (z ∷ xs) ys (suc m) x e = front xs ys m x e

pub keeps-entered : (a b : State) (es : List (Region × Region)) (ks : List VarKind) → b ≡ with_equations es (with_variables ks a) → KeepsAll a b
keeps-entered a b es ks e m x h = subst (λ (s : State). slice_get s.inference.variables m ≡ Some x) (sym e) (front a.inference.variables (map unbound ks) m x h)

-- one binding leaves all others
keeps-bound : (a b : State) (v : Variable) (id : TermId) → b.inference ≡ bound_to a.inference v id → KeepsOthers (number_of v) a b
keeps-bound a b v id e m x apart h =
    subst (λ (i : Inference). slice_get i.variables m ≡ Some x) (sym e) (set-elsewhere a.inference.variables (number_of v) m _ apart ∙ h)

-- a free variable was made, and is unbound
slot-made : (vs : List InferVariable) (n : ℕ) (k : VarKind) → slice_get vs n ≡ Some (unbound k) → same_var_kind k k ≡ true → is_made (map (λ (v : InferVariable). v.kind) vs) n k ≡ true
slot-made [] n k e s = absurd (cc)
slot-made (v ∷ vs) zero k e s = ap (λ (w : InferVariable). same_var_kind w.kind k) (some-is v (unbound k) e) ∙ s
slot-made (v ∷ vs) (suc n) k e s = slot-made vs n k e s

free-made : (s : State) (b : Bool) (n : ℕ) → IsFree s b n → IsTrue (is_made_in s.inference (taking b n))
unfolding is_made_in
free-made s true n free = slot-made s.inference.variables n kind.Ty free refl
free-made s false n free = slot-made s.inference.variables n kind.Const free refl

pub free-unbound : (s : State) (b : Bool) (n : ℕ) → IsFree s b n → binding_of s.inference (taking b n) ≡ None
unfolding binding_of
free-unbound s true n free = ap (λ o. binding_in o kind.Ty) free
free-unbound s false n free = ap (λ o. binding_in o kind.Const) free

pub number-taking : (b : Bool) (n : ℕ) → number_of (taking b n) ≡ n
number-taking true n = refl
number-taking false n = refl

-- it may stand for what is of the alias's sort
takes-taking : (k : AliasTermKind) (b : Bool) (n : ℕ) (m : Node) → is_type_kind k ≡ b → sort_of m ≡ sort_of (nodes.Alias k) → IsTrue (takes (taking b n) m)
unfolding takes
takes-taking k true n m e h = cc
takes-taking k false n m e h = cc

-- so a closed term of the alias's sort can be given to it
pub free-for : (s : State) (k : AliasTermKind) (n : ℕ) (id : TermId) → IsFree s (is_type_kind k) n → FitsKind k s.terms (founds.Is id) →
    IsFreeFor s (tree_at s.terms id) (taking (is_type_kind k) n)
free-for s k n id free fits =
    let stays : bound_term s (tree_at s.terms id) ≡ erased_at s.terms id = closed-replaced (resolution s.terms s.inference) (erased_at s.terms id) fits.0 in
    record {
      made = free-made s (is_type_kind k) n free;
      unbound = free-unbound s (is_type_kind k) n free;
      takes = subst (λ (x : Tree). IsTrue (takes (taking (is_type_kind k) n) (node_of x))) (sym stays)
          (takes-taking k (is_type_kind k) n (node_of (erased_at s.terms id)) refl fits.1);
      absent = subst (λ (x : Tree). place_of (taking (is_type_kind k) n) x ≡ Nowhere) (sym stays)
          (closed-nowhere (taking (is_type_kind k) n) (erased_at s.terms id) fits.0);
    }

-- a variable is free for a term just where it can be bound to it
pub becomes-free : (o s : State) (id : TermId) (v : Variable) → o ≡ s → binding_of s.inference v ≡ None → MayBecome o.terms o.inference v id → IsFreeFor s (tree_at s.terms id) v
unfolding resolved term_at
becomes-free o s id v e unbound may =
    subst (λ (a : State). binding_of a.inference v ≡ None → IsFreeFor a (tree_at a.terms id) v) e
    (λ none. record { made = may.made; unbound = none; takes = may.takes; absent = may.free }) unbound

pub free-becomes : (o s : State) (id : TermId) (v : Variable) → o ≡ s → IsFreeFor s (tree_at s.terms id) v → MayBecome o.terms o.inference v id
unfolding resolved term_at
free-becomes o s id v e free =
    subst (λ (a : State). MayBecome a.terms a.inference v id) (sym e) (record { made = free.made; takes = free.takes; free = free.absent })

-- what is found for a closed alias fits it
pub found-fits : (s : State) (m : TypingMode) (d : ℕ) (q : NormalizesTo) (env : List Clause) (T : List Tree) (f : Found) → IsChecked s.tables → IsNormalizable s q env →
    SaysWhich ((level (setting_of s.tables m env) d).gives q.alias.kind (erased_args q.alias.args.items)) ((level (setting_of s.tables m env) d).gives_refuted q.alias.kind (erased_args q.alias.args.items)) T f →
    FitsKind q.alias.kind T f
found-fits s m d q env T (founds.Is id) checked ok given = (
  closed-public_given s.tables m env d q.alias (erased_at T id) checked ok.closed given,
  placed-given s.tables m env d q.alias (erased_at T id) checked ok.faultless ok.faultless_env given,
)
found-fits s m d q env T founds.Refuted checked ok given = tt
found-fits s m d q env T founds.Undecided checked ok given = tt

-- and says what its goal comes to
found-says : (L : Level) (q : NormalizesTo) (T : List Tree) (f : Found) → FitsKind q.alias.kind T f →
    SaysWhich (L.gives q.alias.kind (erased_args q.alias.args.items)) (L.gives_refuted q.alias.kind (erased_args q.alias.args.items)) T f →
    Says (GoalHolds L (predicate.NormalizesTo q)) (GoalRefuted L (predicate.NormalizesTo q)) (outcome_of f)
found-says L q T (founds.Is id) fits given = (erased_at T id, alias-is_term q.alias.kind (is_type_kind q.alias.kind) refl (erased_at T id) fits.1, given)
found-says L q T founds.Refuted fits given = given
found-says L q T founds.Undecided fits given = (λ h. given.0 h.0 h.2, given.1)

pub expected-says : (L : Level) (q : NormalizesTo) (env : List Clause) (T : List Tree) (f : Found) (a b c : State) (r : Result Outcome Stop) → (ok : IsNormalizable a q env) →
    FitsKind q.alias.kind T f → SaysWhich (L.gives q.alias.kind (erased_args q.alias.args.items)) (L.gives_refuted q.alias.kind (erased_args q.alias.args.items)) T f →
    IfOk r (λ o. GivesFree q.alias.kind f b o c ok.number) → SaysGoalAt L (predicate.NormalizesTo q) r
expected-says L q env T f a b c (Ok o) ok fits given gives =
    subst (λ x. Says (GoalHolds L (predicate.NormalizesTo q)) (GoalRefuted L (predicate.NormalizesTo q)) x) (sym gives.outcome) (found-says L q T f fits given)
expected-says L q env T f a b c (Err e) ok fits given gives = tt

-- and binds no other variable, and this one to a term of the alias
given-takes : (L : Level) (q : NormalizesTo) (n : ℕ) (f : Found) (b c : State) → tree_of_term q.term ≡ variable (taking (is_type_kind q.alias.kind) n) → FoundIn b.terms f → Keeps b.terms c.terms →
    SaysWhich (L.gives q.alias.kind (erased_args q.alias.args.items)) (L.gives_refuted q.alias.kind (erased_args q.alias.args.items)) b.terms f →
    IsGivenTo f (taking (is_type_kind q.alias.kind) n) c → outcome_of f ≡ outcome.Holds → TakesTerm L q c
given-takes L q n (founds.Is id) b c expects within kept given bound holds = record {
  number = n;
  expects = expects;
  id = id;
  bound = bound;
  within = in-grown b.terms c.terms kept id within;
  gives = subst (L.gives q.alias.kind (erased_args q.alias.args.items)) (sym (same-grown b.terms c.terms kept id within)) given;
}
given-takes L q n founds.Refuted b c expects within kept given bound holds = absurd (cc)
given-takes L q n founds.Undecided b c expects within kept given bound holds = absurd (cc)

pub expected-binds : (L : Level) (q : NormalizesTo) (env : List Clause) (f : Found) (a b c : State) (r : Result Outcome Stop) → KeepsAll a b → (ok : IsNormalizable a q env) →
    FoundIn b.terms f → Keeps b.terms c.terms → SaysWhich (L.gives q.alias.kind (erased_args q.alias.args.items)) (L.gives_refuted q.alias.kind (erased_args q.alias.args.items)) b.terms f →
    IfOk r (λ o. GivesFree q.alias.kind f b o c ok.number) → IfOk r (λ o. BindsOutcome L q a o c)
expected-binds L q env f a b c (Ok o) kept ok within grown given gives = record {
  number = ok.number;
  expects = ok.expects;
  others = keeps-then o ok.number a b c kept gives.others;
  takes = λ holds. given-takes L q ok.number f b c ok.expects within grown given gives.given (sym gives.outcome ∙ holds);
}
expected-binds L q env f a b c (Err e) kept ok within grown given gives = tt

-- what is given to a free variable, from a context with more region variables on
pub gives-entered : (e : Term) (f : Found) (a b c : State) (r : Result Outcome Stop) → KeepsAll a b → a.terms ≡ b.terms → GivesFitting e f b r c → GivesFitting e f a r c
gives-entered e f a b c (Ok x) kept same gives k n fits expects free =
    let given : GivesFree k f b x c n = gives k n (subst (λ (T : List Tree). FitsKind k T f) same fits) expects (kept n _ free) in
    record { outcome = given.outcome; others = keeps-then x n a b c kept given.others; given = given.given }
gives-entered e f a b c (Err x) kept same gives k n fits expects free = tt

pub gives-at : (e : Term) (f : Found) (id : TermId) (a c : State) (r : Result Outcome Stop) → f ≡ founds.Is id → GivesFitting e (founds.Is id) a r c → GivesFitting e f a r c
gives-at e f id a c r is h = subst (λ x. GivesFitting e x a r c) (sym is) h

-- the bindings don't lead on from a closed term
closed-ends_as : (i : Inference) (t : Tree) → some_node is_any_infer (erased t) ≡ false → binding_at i (node_of t) ≡ None
unfolding some_node erased
closed-ends_as i (node h ts) e = refl
closed-ends_as i (alias k ts) e = refl
closed-ends_as i (variable v) e = absurd (cc)

general-taking : (b : Bool) (n : ℕ) → general_variable (nodes.Variable (taking b n)) ≡ Some (taking b n)
general-taking true n = refl
general-taking false n = refl

-- the expected term that is free is bound to what was found
module _ (a b : State) (e : Term) (expected top : TermId) (same : b ≡ record a { terms = b.terms }) (kept : Keeps a.terms b.terms) (tree : tree_at b.terms expected ≡ tree_of_term e)
    (itself : binding_at b.inference (node_of (tree_at b.terms expected)) ≡ None → top ≡ expected) where
  free-here : (ty : Bool) (n : ℕ) → IsFree a ty n → IsFree b ty n
  free-here ty n free = subst (λ (s : State). IsFree s ty n) (sym same) free

  -- it leads to itself
  tops-at : (ty : Bool) (n : ℕ) → tree_of_term e ≡ variable (taking ty n) → IsFree a ty n → node_of (tree_at b.terms top) ≡ nodes.Variable (taking ty n)
  tops-at ty n expects free =
      let here : node_of (tree_at b.terms expected) ≡ nodes.Variable (taking ty n) = ap node_of (tree ∙ expects) in
      ap (λ id. node_of (tree_at b.terms id)) (itself (ap (binding_at b.inference) here ∙ free-unbound b ty n (free-here ty n free))) ∙ here

  -- so it is a general variable
  pub expects-general : (f : Found) (r : Result Outcome Stop) (c : State) → general_variable (node_of (tree_at b.terms top)) ≡ None → GivesFitting e f a r c
  expects-general f r c none k n fits expects free =
      absurd (none-is-some (taking (is_type_kind k) n) (sym none ∙ ap general_variable (tops-at (is_type_kind k) n expects free) ∙ general-taking (is_type_kind k) n))

  module _ (found : TermId) (v : Variable) (c : State) (within : IsIn a.terms found) (general : general_variable (node_of (tree_at b.terms top)) ≡ Some v) where
    fits-here : (k : AliasTermKind) → FitsKind k a.terms (founds.Is found) → FitsKind k b.terms (founds.Is found)
    fits-here k fits =
        subst (λ t. (some_node is_any_infer t ≡ false) × (sort_of (node_of t) ≡ sort_of (nodes.Alias k))) (sym (same-grown a.terms b.terms kept found within)) fits

    variable-at : (ty : Bool) (n : ℕ) → tree_of_term e ≡ variable (taking ty n) → IsFree a ty n → v ≡ taking ty n
    variable-at ty n expects free = some-is v (taking ty n) (sym general ∙ ap general_variable (tops-at ty n expects free) ∙ general-taking ty n)

    pub expects-found : (r : Result Outcome Stop) → (IsFreeFor b (tree_at b.terms found) v → IfOk r (λ o. o ≡ outcome.Holds)) →
        (IsFreeFor b (tree_at b.terms found) v → EndsAt b found → OnOk r (c.inference ≡ bound_to b.inference v found)) → GivesFitting e (founds.Is found) a r c
    expects-found (Ok o) holds state k n fits expects free =
        let is : v ≡ taking (is_type_kind k) n = variable-at (is_type_kind k) n expects free in
        let good : FitsKind k b.terms (founds.Is found) = fits-here k fits in
        let taken : IsFreeFor b (tree_at b.terms found) (taking (is_type_kind k) n) = free-for b k n found (free-here (is_type_kind k) n free) good in
        let bindable : IsFreeFor b (tree_at b.terms found) v = subst (IsFreeFor b (tree_at b.terms found)) (sym is) taken in
        let bound : c.inference ≡ bound_to b.inference v found = state bindable (closed-ends_as b.inference (tree_at b.terms found) good.0) in
        record {
          outcome = holds bindable;
          others = subst (λ x. KeepsBut x n a c) (sym (holds bindable))
              (keeps-then outcome.Holds n a b c (keeps-same a b (ap (λ (s : State). s.inference) same))
              (subst (λ m. KeepsOthers m b c) (ap number_of is ∙ number-taking (is_type_kind k) n) (keeps-bound b c v found bound)));
          given = subst (λ w. binding_of c.inference w ≡ Some found) is (ap (λ (i : Inference). binding_of i v) bound ∙ own-after b.inference v found bindable.made);
        }
    expects-found (Err x) holds state k n fits expects free = tt

-- what is said of a goal does not depend on terms
normalizable-at : (a b : State) (q : NormalizesTo) (env : List Clause) → b.tables ≡ a.tables → (ok : IsNormalizable a q env) → IsFree b (is_type_kind q.alias.kind) ok.number → IsNormalizable b q env
normalizable-at a b q env e ok free = record {
  closed = ok.closed;
  faultless = subst (λ (t : Tables). NoKindFault t [] (tree_of_alias q.alias)) (sym e) ok.faultless;
  faultless_env = subst (λ (t : Tables). NoKindFaultInEnv t env) (sym e) ok.faultless_env;
  number = ok.number;
  expects = ok.expects;
  free = free;
}

pub normalizable-same : (a b : State) (q : NormalizesTo) (env : List Clause) → b.tables ≡ a.tables → KeepsAll a b → IsNormalizable a q env → IsNormalizable b q env
normalizable-same a b q env e kept ok = normalizable-at a b q env e ok (kept ok.number _ ok.free)

pub answerable-same : (a b : State) (p : Predicate) (env : List Clause) → b.tables ≡ a.tables → KeepsAll a b → IsAnswerable a p env → IsAnswerable b p env
answerable-same a b (predicate.Trait q) env e kept ok = ok
answerable-same a b (predicate.Projection q) env e kept ok = ok
answerable-same a b (predicate.HostEffect q) env e kept ok = ok
answerable-same a b (predicate.NormalizesTo q) env e kept ok = normalizable-same a b q env e kept ok
answerable-same a b predicate.Ambiguous env e kept ok = ok

pub closed-answerable : (s : State) (p : Predicate) (env : List Clause) → IsClosedGoal p env → IsAnswerable s p env
closed-answerable s (predicate.Trait q) env closed = closed
closed-answerable s (predicate.Projection q) env closed = closed
closed-answerable s (predicate.HostEffect q) env closed = closed
closed-answerable s (predicate.NormalizesTo q) env closed = absurd closed
closed-answerable s predicate.Ambiguous env closed = closed

-- another goal's variable is bound: one that gives another variable a term is answered exactly still
pub answerable-others : (a b : State) (p : Predicate) (env : List Clause) (n : ℕ) → b.tables ≡ a.tables → KeepsOthers n a b →
    ((q : NormalizesTo) → p ≡ predicate.NormalizesTo q → tree_of_term q.term ≡ variable (taking (is_type_kind q.alias.kind) n) → ⊥) → IsAnswerable a p env → IsAnswerable b p env
answerable-others a b (predicate.Trait q) env n e kept other ok = ok
answerable-others a b (predicate.Projection q) env n e kept other ok = ok
answerable-others a b (predicate.HostEffect q) env n e kept other ok = ok
answerable-others a b (predicate.NormalizesTo q) env n e kept other ok =
    normalizable-at a b q env e ok (kept ok.number _ (λ same. other q refl (ok.expects ∙ ap (λ m. variable (taking (is_type_kind q.alias.kind) m)) same)) ok.free)
answerable-others a b predicate.Ambiguous env n e kept other ok = ok

-- two variables of one number that are free are one
kinds-differ : kind.Ty ≡ kind.Const → ⊥
kinds-differ e = absurd (cc)

free-once : (s : State) (b c : Bool) (n : ℕ) → IsFree s b n → IsFree s c n → taking b n ≡ taking c n
free-once s true true n f g = refl
free-once s true false n f g = absurd (kinds-differ (ap (λ (x : InferVariable). x.kind) (some-is _ _ (sym f ∙ g))))
free-once s false true n f g = absurd (kinds-differ (ap (λ (x : InferVariable). x.kind) (some-is _ _ (sym g ∙ f))))
free-once s false false n f g = refl

number_in : Tree → ℕ
number_in (node h ts) = 0
number_in (alias k ts) = 0
number_in (variable v) = number_of v

one-number : (b c : Bool) (n m : ℕ) → variable (taking b n) ≡ variable (taking c m) → n ≡ m
unfolding number_in
one-number b c n m e = sym (number-taking b n) ∙ ap number_in e ∙ number-taking c m

free-at : (s : State) (q : NormalizesTo) (env : List Clause) → IsNormalizable s q env → (m : ℕ) → tree_of_term q.term ≡ variable (taking (is_type_kind q.alias.kind) m) → IsFree s (is_type_kind q.alias.kind) m
free-at s q env ok m e =
    subst (λ n. IsFree s (is_type_kind q.alias.kind) n) (one-number (is_type_kind q.alias.kind) (is_type_kind q.alias.kind) ok.number m (sym ok.expects ∙ e)) ok.free

pub one-variable : (s : State) (q r : NormalizesTo) (env clauses : List Clause) (m : ℕ) → IsNormalizable s q env → IsNormalizable s r clauses →
    tree_of_term q.term ≡ variable (taking (is_type_kind q.alias.kind) m) → tree_of_term r.term ≡ variable (taking (is_type_kind r.alias.kind) m) → tree_of_term q.term ≡ tree_of_term r.term
one-variable s q r env clauses m ok good e f =
    e ∙ ap variable (free-once s (is_type_kind q.alias.kind) (is_type_kind r.alias.kind) m (free-at s q env ok m e) (free-at s r clauses good m f)) ∙ sym f

-- a variable that is bound to a term of an alias stays so
pub takes-later : (L : Level) (q : NormalizesTo) (a b : State) → GoesBack a b → TakesTerm L q a → TakesTerm L q b
takes-later L q a b back h = record {
  number = h.number;
  expects = h.expects;
  id = h.id;
  bound = binding-stays a.inference b.inference back.inference (taking (is_type_kind q.alias.kind) h.number) h.id h.bound;
  within = in-grown a.terms b.terms back.terms h.id h.within;
  gives = subst (L.gives q.alias.kind (erased_args q.alias.args.items)) (sym (same-grown a.terms b.terms back.terms h.id h.within)) h.gives;
}

pub its-later : (L : Level) (p : Predicate) (a b : State) → GoesBack a b → TakesIts L p a → TakesIts L p b
its-later L (predicate.Trait q) a b back h = tt
its-later L (predicate.Projection q) a b back h = tt
its-later L (predicate.HostEffect q) a b back h = tt
its-later L (predicate.NormalizesTo q) a b back h = takes-later L q a b back h
its-later L predicate.Ambiguous a b back h = tt

takes-moved : (L : Level) (q : NormalizesTo) (a b : State) → b.terms ≡ a.terms → b.inference ≡ a.inference → TakesTerm L q a → TakesTerm L q b
takes-moved L q a b e f h = record {
  number = h.number;
  expects = h.expects;
  id = h.id;
  bound = subst (λ (i : Inference). binding_of i (taking (is_type_kind q.alias.kind) h.number) ≡ Some h.id) (sym f) h.bound;
  within = subst (λ (T : List Tree). IsIn T h.id) (sym e) h.within;
  gives = subst (λ (T : List Tree). L.gives q.alias.kind (erased_args q.alias.args.items) (erased_at T h.id)) (sym e) h.gives;
}

pub its-moved : (L : Level) (p : Predicate) (a b : State) → b.terms ≡ a.terms → b.inference ≡ a.inference → TakesIts L p a → TakesIts L p b
its-moved L (predicate.Trait q) a b e f h = tt
its-moved L (predicate.Projection q) a b e f h = tt
its-moved L (predicate.HostEffect q) a b e f h = tt
its-moved L (predicate.NormalizesTo q) a b e f h = takes-moved L q a b e f h
its-moved L predicate.Ambiguous a b e f h = tt

-- where a goal holds its variable is
pub holds-takes : (L : Level) (p : Predicate) (a b : State) → BindsItsOwn L p a b → TakesIts L p b
holds-takes L (predicate.Trait q) a b h = tt
holds-takes L (predicate.Projection q) a b h = tt
holds-takes L (predicate.HostEffect q) a b h = tt
holds-takes L (predicate.NormalizesTo q) a b h = h.takes refl
holds-takes L predicate.Ambiguous a b h = tt

-- what a goal binds, by the answer that its outcome makes
moved : (a b c : State) → c.inference ≡ b.inference → KeepsAll a b → KeepsAll a c
moved a b c e h = keeps-all a b c h (keeps-same b c e)

binds-yes : (L : Level) (p : Predicate) (a b c : State) → GoesBack b c → c.inference ≡ b.inference → BindsAsked L p a (Ok outcome.Holds) b → BindsItsOwn L p a c
binds-yes L (predicate.Trait q) a b c back e h = moved a b c e h
binds-yes L (predicate.Projection q) a b c back e h = moved a b c e h
binds-yes L (predicate.HostEffect q) a b c back e h = moved a b c e h
binds-yes L (predicate.NormalizesTo q) a b c back e h = record {
  number = h.number;
  expects = h.expects;
  others = keeps-left h.number a b c h.others (keeps-same b c e);
  takes = λ holds. takes-later L q b c back (h.takes holds);
}
binds-yes L predicate.Ambiguous a b c back e h = moved a b c e h

binds-maybe : (L : Level) (p : Predicate) (a b c : State) → c.inference ≡ b.inference → BindsAsked L p a (Ok outcome.Undecided) b → KeepsAll a c
binds-maybe L (predicate.Trait q) a b c e h = moved a b c e h
binds-maybe L (predicate.Projection q) a b c e h = moved a b c e h
binds-maybe L (predicate.HostEffect q) a b c e h = moved a b c e h
binds-maybe L (predicate.NormalizesTo q) a b c e h = moved a b c e h.others
binds-maybe L predicate.Ambiguous a b c e h = moved a b c e h

pub binds-verdict : (L : Level) (p : Predicate) (a b c : State) (o : Result Outcome Stop) (r : Result Certainty Fault) → GoesBack b c → c.inference ≡ b.inference →
    BindsAsked L p a o b → IsVerdict o r → BindsFor L p r a c
binds-verdict L p a b c (Ok outcome.Holds) r back e h v = subst (λ (x : Result Certainty Fault). BindsFor L p x a c) (sym v) (binds-yes L p a b c back e h)
binds-verdict L p a b c (Ok outcome.Refuted) r back e h v = subst (λ (x : Result Certainty Fault). BindsFor L p x a c) (sym v) tt
binds-verdict L p a b c (Ok outcome.Undecided) r back e h v = subst (λ (x : Result Certainty Fault). BindsFor L p x a c) (sym v) (binds-maybe L p a b c e h)
binds-verdict L p a b c (Err x) (Ok y) back e h v = absurd v
binds-verdict L p a b c (Err x) (Err f) back e h v = tt

-- so it is from a context before, with fewer terms
binds-before : (L : Level) (p : Predicate) (r : Result Certainty Fault) (a b z : State) → KeepsAll a b → BindsFor L p r b z → BindsFor L p r a z
binds-before L p (Ok certainty.Maybe) a b z kept h = keeps-all a b z kept h
binds-before L p (Err f) a b z kept h = tt
binds-before L (predicate.Trait q) (Ok certainty.Yes) a b z kept h = keeps-all a b z kept h
binds-before L (predicate.Projection q) (Ok certainty.Yes) a b z kept h = keeps-all a b z kept h
binds-before L (predicate.HostEffect q) (Ok certainty.Yes) a b z kept h = keeps-all a b z kept h
binds-before L (predicate.NormalizesTo q) (Ok certainty.Yes) a b z kept h = record {
  number = h.number;
  expects = h.expects;
  others = keeps-then outcome.Holds h.number a b z kept h.others;
  takes = h.takes;
}
binds-before L predicate.Ambiguous (Ok certainty.Yes) a b z kept h = keeps-all a b z kept h

pub binds-grown : (a b z : State) (m : TypingMode) (g : Goal Predicate) (r : Result Certainty Fault) → b ≡ record a { terms = b.terms } →
    BindsFor (level_over b m g.param_env.items) g.predicate r b z → BindsFor (level_over a m g.param_env.items) g.predicate r a z
binds-grown a b z m g r e h =
    binds-before (level_over a m g.param_env.items) g.predicate r a b z (keeps-same a b (ap (λ (s : State). s.inference) e))
    (subst (λ (s : State). BindsFor (level_over s m g.param_env.items) g.predicate r b z) e h)

pub answerable-grown : (a b : State) (p : Predicate) (env : List Clause) → b ≡ record a { terms = b.terms } → IsAnswerable a p env → IsAnswerable b p env
answerable-grown a b p env e ok = answerable-same a b p env (ap (λ (s : State). s.tables) e) (keeps-same a b (ap (λ (s : State). s.inference) e)) ok
