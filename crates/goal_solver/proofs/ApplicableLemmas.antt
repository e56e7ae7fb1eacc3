-- What a computing call answers to an accepted goal can be applied.
use Rattle.std.proofs.Common.{◌≡◌, ℕ, Bool, true, false, ◌||◌, not, List, [], ◌∷◌, ◌++◌, length, replicate, ◌<◌, Option, Some, None, Result, Ok, Err, refl, sym, ap, ◌∙◌, subst}
use Rattle.std.specs.Prelude.{IsTrue, is_some, IfOk}
use Rattle.goal_terms.specs.Erased.{erased}
use Rattle.goal_terms.specs.Kinds.{same_kind, kind_of, kind_of_alias}
use Rattle.goal_terms.specs.NodeTests.{some_node, some_in_row, is_any_infer, is_unmade, general_variable_at}
use Rattle.goal_terms.specs.Sorts.{sort_of, IsTerm, is_term_sort}
use Rattle.goal_interner.specs.TableMeaning.{tree_at, HasTerm}
use Rattle.goal_terms.specs.Tree.{Tree, Trees, node, alias, variable, none, more, node_of}
use Rattle.goal_terms.specs.TreeOf.{tree_of_alias, tree_of_term, is_type_kind}
use Rattle.goal_terms.specs.declared.answers.Certainty.TheVariants as certainty
use Rattle.goal_terms.specs.declared.answers.Response.{Response}
use Rattle.goal_terms.specs.declared.answers.VarKind.{VarKind}
use Rattle.goal_terms.specs.declared.answers.VarKind.TheVariants as kind
use Rattle.goal_terms.specs.declared.heads.Node.{Node}
use Rattle.goal_terms.specs.declared.heads.Node.TheVariants as nodes
use Rattle.goal_terms.specs.declared.heads.Variable.{Variable}
use Rattle.goal_terms.specs.declared.heads.Variable.TheVariants as variables
use Rattle.goal_terms.specs.declared.modes.TypingMode.{TypingMode}
use Rattle.goal_terms.specs.declared.predicates.Clause.{Clause}
use Rattle.goal_terms.specs.declared.predicates.NormalizesTo.{NormalizesTo}
use Rattle.goal_interner.specs.declared.term_nodes.TermId.{TermId}
use Rattle.goal_terms.specs.declared.terms.AliasTerm.{AliasTerm}
use Rattle.goal_terms.specs.declared.terms.AliasTermKind.{AliasTermKind}
use Rattle.goal_terms.specs.declared.terms.InferTy.TheVariants as infer
use Rattle.goal_terms.specs.declared.terms.Term.{Term}
use Rattle.goal_tables.specs.Clauses.{kinds_differ, lies_in_equation}
use Rattle.goal_tables.specs.Faults.{IsChecked}
use Rattle.goal_tables.specs.Predicates.{lies_in_env, some_in_env, some_in_equation}
use Rattle.goal_tables.specs.Sites.{lies_in}
use Rattle.goal_tables.specs.declared.rows.Tables.{Tables}
use Rattle.goal_tables.specs.declared.faults.TermFault.{TermFault}
use Rattle.goal_tables.specs.declared.faults.TermFault.TheVariants as lies
use Rattle.goal_infer.specs.Inference.{Inference}
use Rattle.goal_infer.specs.Occurrence.{place_of, place_in_row, joined, within_alias}
use Rattle.goal_infer.specs.Replacement.{number_of, replaced, replaced_row, takes}
use Rattle.goal_infer.specs.Resolution.{binding_of, resolution}
use Rattle.goal_infer.specs.Unification.{is_made_in}
use Rattle.goal_infer.specs.declared.occurs.Occurrence.TheVariants.{Nowhere}
use Rattle.goal_infer.proofs.DecisionLemmas.{either-false}
use Rattle.goal_lists.specs.Answers.{setting_of, IsAnswer, maybe, which_term}
use Rattle.goal_lists.specs.Interned.{erased_at}
use Rattle.goal_lists.specs.KindedTerms.{NoKindFault, NoKindFaultInEnv}
use Rattle.goal_lists.specs.Levels.{level}
use Rattle.goal_kinds.specs.declared.faults.Fault.{Fault}
use Rattle.goal_kinds.proofs.ClosedLevels.{closed-public_given}
use Rattle.goal_kinds.proofs.PlacedLevels.{placed-given}
use Rattle.goal_eval.specs.ErasedArgs.{erased_args}
use Rattle.goal_solver.specs.Answers.{IsQuiet, IsQuietAside, AnswersQuietly, AnswersAside, ListsNothing, GivesTo, expected_variable, is_closed_alias, IsAliasOpen}
use Rattle.goal_solver.specs.Binding.{IsApplicable, IsFreeFor, CanBeListed, bound_term}
use Rattle.goal_solver.specs.FreeVariables.{general_variable, reaches, is_bound, stands_in_storage, is_taken, lacks_free_variable}
use Rattle.goal_solver.specs.GoingBack.{restored}
use Rattle.goal_solver.specs.Goals.{IsAcceptedNormalization}
use Rattle.goal_solver.specs.Recording.{FitsKind}
use Rattle.goal_eval.specs.declared.eval.outcomes.Found.TheVariants as founds
use Rattle.goal_solver.specs.State.{State, kinds_in, kinds_of}
use Rattle.goal_solver.specs.Stored.{HasOneTypeAKey}
use Rattle.goal_solver.specs.Variables.{with_kinds, with_variables}
use Rattle.goal_solver.proofs.FoundAnswers.{sort-erased}
use Rattle.goal_solver.proofs.RegionLemmas.{is-aside, answers-aside, made-with, unbound-with}
use Rattle.goal_solver.specs.declared.eval.goals.GoalFault.TheVariants.{UnknownItem, WrongArgumentCount, WrongArgumentKind, UnknownVariable, ExpectedTermNotFree}

-- nothing lies in the alias of an accepted goal, nor in its environment
no_fault-alias : (t : Tables) (f : TermFault) (a : AliasTerm) (e : Term) (env : List Clause) →
    lies_in_equation t [] f a e || lies_in_env t f env ≡ false → lies_in t [] f (tree_of_alias a) ≡ false
no_fault-alias t f a e env h =
    (either-false (lies_in t [] f (tree_of_alias a)) (lies_in t [] f (tree_of_term e))
    (either-false (lies_in t [] f (tree_of_alias a) || lies_in t [] f (tree_of_term e)) (kinds_differ f a e)
    (either-false (lies_in_equation t [] f a e) (lies_in_env t f env) h).0).0).0

no_fault-kinds : (t : Tables) (f : TermFault) (a : AliasTerm) (e : Term) (env : List Clause) →
    lies_in_equation t [] f a e || lies_in_env t f env ≡ false → kinds_differ f a e ≡ false
no_fault-kinds t f a e env h =
    (either-false (lies_in t [] f (tree_of_alias a) || lies_in t [] f (tree_of_term e)) (kinds_differ f a e)
    (either-false (lies_in_equation t [] f a e) (lies_in_env t f env) h).0).1

no_fault-env : (t : Tables) (f : TermFault) (a : AliasTerm) (e : Term) (env : List Clause) →
    lies_in_equation t [] f a e || lies_in_env t f env ≡ false → lies_in_env t f env ≡ false
no_fault-env t f a e env h = (either-false (lies_in_equation t [] f a e) (lies_in_env t f env) h).1

accepted-alias : (s : State) (q : NormalizesTo) (env : List Clause) → IsAcceptedNormalization s q env → NoKindFault s.tables [] (tree_of_alias q.alias)
accepted-alias s q env ok = (
  no_fault-alias s.tables lies.UnknownItem q.alias q.term env (ok UnknownItem),
  no_fault-alias s.tables lies.WrongArgumentCount q.alias q.term env (ok WrongArgumentCount),
  no_fault-alias s.tables lies.WrongArgumentKind q.alias q.term env (ok WrongArgumentKind),
)

accepted-env : (s : State) (q : NormalizesTo) (env : List Clause) → IsAcceptedNormalization s q env → NoKindFaultInEnv s.tables env
accepted-env s q env ok = (
  no_fault-env s.tables lies.UnknownItem q.alias q.term env (ok UnknownItem),
  no_fault-env s.tables lies.WrongArgumentCount q.alias q.term env (ok WrongArgumentCount),
  no_fault-env s.tables lies.WrongArgumentKind q.alias q.term env (ok WrongArgumentKind),
)

-- the term of an accepted goal's alias is of the alias's sort
pub accepted-sort : (s : State) (m : TypingMode) (d : ℕ) (q : NormalizesTo) (env : List Clause) (u : Tree) → IsChecked s.tables → IsAcceptedNormalization s q env →
    (level (setting_of s.tables m env) d).gives q.alias.kind (erased_args q.alias.args.items) u → sort_of (node_of u) ≡ sort_of (nodes.Alias q.alias.kind)
accepted-sort s m d q env u checked ok given =
    placed-given s.tables m env d q.alias u checked (accepted-alias s q env ok) (accepted-env s q env ok) given

pub alias-is_term : (k : AliasTermKind) (b : Bool) → is_type_kind k ≡ b → (u : Tree) → sort_of (node_of u) ≡ sort_of (nodes.Alias k) → IsTerm u
alias-is_term k true e u h = cc
alias-is_term k false e u h = cc

-- so nothing else than a type or a constant is its term, and where no type and no constant is, there is none
pub accepted-open : (s : State) (m : TypingMode) (d : ℕ) (q : NormalizesTo) (env : List Clause) → IsChecked s.tables → IsAcceptedNormalization s q env →
    IsAliasOpen (level (setting_of s.tables m env) d) q.alias.kind (erased_args q.alias.args.items) →
    IsAnswer (level (setting_of s.tables m env) d) (which_term q.alias.kind (erased_args q.alias.args.items)) maybe
unfolding IsAnswer
accepted-open s m d q env checked ok undecided = (
  (λ u given. undecided.0 u (alias-is_term q.alias.kind (is_type_kind q.alias.kind) refl u (accepted-sort s m d q env u checked ok given)) given),
  undecided.1,
)

-- the expected term is a general variable
record IsGeneral (m : Node) (n : ℕ) : Type 0 where
  v : Variable
  at : m ≡ nodes.Variable v
  general : general_variable m ≡ Some v
  number : number_of v ≡ n

node-general : (m : Node) (n : ℕ) → general_variable_at m ≡ Some n → IsGeneral m n
node-general (nodes.Head h) n e = absurd (cc)
node-general (nodes.Alias k) n e = absurd (cc)
node-general (nodes.Variable (variables.Ty (infer.TyVar k))) n e = record { v = variables.Ty (infer.TyVar k); at = refl; general = refl; number = cc }
node-general (nodes.Variable (variables.Ty (infer.IntVar k))) n e = absurd (cc)
node-general (nodes.Variable (variables.Ty (infer.FloatVar k))) n e = absurd (cc)
node-general (nodes.Variable (variables.Const k)) n e = record { v = variables.Const k; at = refl; general = refl; number = cc }

-- which isn't taken, so that it is unbound
not_taken : (s : State) (o : Option Variable) (v : Variable) (a : AliasTerm) (env : List Clause) → o ≡ Some v → lacks_free_variable s o a env ≡ false → is_taken s v a env ≡ false
not_taken s o v a env e h = subst (λ (x : Option Variable). lacks_free_variable s x a env ≡ false) e h

none-unless : {A : Type 0} (o : Option A) → is_some o ≡ false → o ≡ None
none-unless None e = refl
none-unless (Some x) e = absurd (cc)

taken-bound : (s : State) (v : Variable) (a : AliasTerm) (env : List Clause) → is_taken s v a env ≡ false → binding_of s.inference v ≡ None
taken-bound s v a env h =
    none-unless (binding_of s.inference v)
    (either-false (is_bound s v) (some_node (reaches s v) (tree_of_alias a))
    (either-false (is_bound s v || some_node (reaches s v) (tree_of_alias a)) (some_in_env (reaches s v) env)
    (either-false (is_bound s v || some_node (reaches s v) (tree_of_alias a) || some_in_env (reaches s v) env) (stands_in_storage s v) h).0).0).0

-- and was made
top-fails : (p : Node → Bool) (t : Tree) → some_node p t ≡ false → p (node_of t) ≡ false
unfolding some_node
top-fails p (node h ts) e = (either-false (p (nodes.Head h)) (some_in_row p ts) e).0
top-fails p (alias k ts) e = (either-false (p (nodes.Alias k)) (some_in_row p ts) e).0
top-fails p (variable v) e = e

not-false : (b : Bool) → not b ≡ false → b ≡ true
not-false true e = refl
not-false false e = absurd (cc)

made-by : (s : State) (v : Variable) → general_variable (nodes.Variable v) ≡ Some v → is_unmade (kinds_of s) (nodes.Variable v) ≡ false → IsTrue (is_made_in s.inference v)
unfolding is_made_in
made-by s (variables.Ty (infer.TyVar n)) g e = not-false _ e
made-by s (variables.Ty (infer.IntVar n)) g e = absurd (cc)
made-by s (variables.Ty (infer.FloatVar n)) g e = absurd (cc)
made-by s (variables.Const n) g e = not-false _ e

-- and may stand for what is of the alias's sort
takes-by : (v : Variable) (k : AliasTermKind) (b : Bool) (m : Node) → is_type_kind k ≡ b → general_variable (nodes.Variable v) ≡ Some v →
    not (same_kind (kind_of_alias k) (kind_of (nodes.Variable v))) ≡ false → sort_of m ≡ sort_of (nodes.Alias k) → IsTrue (takes v m)
unfolding takes kind_of
takes-by (variables.Ty (infer.TyVar n)) k true m e g h i = cc
takes-by (variables.Ty (infer.TyVar n)) k false m e g h i = absurd (cc)
takes-by (variables.Ty (infer.IntVar n)) k b m e g h i = absurd (cc)
takes-by (variables.Ty (infer.FloatVar n)) k b m e g h i = absurd (cc)
takes-by (variables.Const n) k true m e g h i = absurd (cc)
takes-by (variables.Const n) k false m e g h i = cc

-- terms without variables stay as they are, and no variable stands in them
mutual
  unfolding some_node replaced

  pub closed-replaced : (ρ : Variable → Tree) (t : Tree) → some_node is_any_infer t ≡ false → replaced ρ t ≡ t
  closed-replaced ρ (node h ts) e = ap (node h) (closed_row-replaced ρ ts e)
  closed-replaced ρ (alias k ts) e = ap (alias k) (closed_row-replaced ρ ts e)
  closed-replaced ρ (variable v) e = absurd (cc)

  closed_row-replaced : (ρ : Variable → Tree) (ts : Trees) → some_in_row is_any_infer ts ≡ false → replaced_row ρ ts ≡ ts
  closed_row-replaced ρ none e = refl
  closed_row-replaced ρ (more t ts) e =
      let both : (some_node is_any_infer t ≡ false) × (some_in_row is_any_infer ts ≡ false) = either-false (some_node is_any_infer t) (some_in_row is_any_infer ts) e in
      let first : replaced ρ t ≡ t = closed-replaced ρ t both.0 in
      let rest : replaced_row ρ ts ≡ ts = closed_row-replaced ρ ts both.1 in
      cc

mutual
  unfolding some_node place_of

  pub closed-nowhere : (v : Variable) (t : Tree) → some_node is_any_infer t ≡ false → place_of v t ≡ Nowhere
  closed-nowhere v (node h ts) e = closed_row-nowhere v ts e
  closed-nowhere v (alias k ts) e = ap within_alias (closed_row-nowhere v ts e)
  closed-nowhere v (variable w) e = absurd (cc)

  closed_row-nowhere : (v : Variable) (ts : Trees) → some_in_row is_any_infer ts ≡ false → place_in_row v ts ≡ Nowhere
  closed_row-nowhere v none e = refl
  closed_row-nowhere v (more t ts) e =
      let both : (some_node is_any_infer t ≡ false) × (some_in_row is_any_infer ts ≡ false) = either-false (some_node is_any_infer t) (some_in_row is_any_infer ts) e in
      let first : place_of v t ≡ Nowhere = closed-nowhere v t both.0 in
      let rest : place_in_row v ts ≡ Nowhere = closed_row-nowhere v ts both.1 in
      ap (λ o. joined o (place_in_row v ts)) first ∙ rest

-- an answer without values can be applied
append-nothing : {A : Type 0} (xs : List A) → xs ++ [] ≡ xs
append-nothing [] = refl
append-nothing (x ∷ xs) = ap (λ ys. x ∷ ys) (append-nothing xs)

aside-applies : (s : State) (r : Response) → HasOneTypeAKey s.storage → IsQuietAside (length (kinds_of s)) r → CanBeListed (with_variables r.vars.items s) r.var_values.items → IsApplicable s r
aside-applies s r keyed quiet values = record {
  base = quiet.0;
  values = values;
  entries = subst HasOneTypeAKey (sym (ap (λ es. s.storage ++ es) quiet.2 ∙ append-nothing s.storage)) keyed;
}

pub quiet-applies : (s : State) (r : Response) → HasOneTypeAKey s.storage → IsQuiet (length (kinds_of s)) r → CanBeListed (with_variables [] s) r.var_values.items → IsApplicable s r
quiet-applies s r keyed quiet values =
    aside-applies s r keyed (is-aside (length (kinds_of s)) r quiet) (subst (λ vs. CanBeListed (with_variables vs s) r.var_values.items) (sym quiet.1) values)

pub unvalued-applies : (s : State) (r : Response) → HasOneTypeAKey s.storage → IsQuietAside (length (kinds_of s)) r → r.var_values.items ≡ [] → IsApplicable s r
unfolding CanBeListed
unvalued-applies s r keyed quiet empty = aside-applies s r keyed quiet (subst (CanBeListed (with_variables r.vars.items s)) (sym empty) tt)

pub nothing-applies : (s : State) (r : Response) → HasOneTypeAKey s.storage → IsQuiet (length (kinds_of s)) r → r.var_values.items ≡ [] → IsApplicable s r
nothing-applies s r keyed quiet empty = unvalued-applies s r keyed (is-aside (length (kinds_of s)) r quiet) empty

pub with_nothing : (s : State) → with_variables [] s ≡ s
with_nothing s = ap (λ vs. record s { inference = record s.inference { variables = vs } }) (append-nothing s.inference.variables)

general-at : {x : Node} {k : ℕ} → (g : IsGeneral x k) → general_variable (nodes.Variable g.v) ≡ Some g.v
general-at g = sym (ap general_variable g.at) ∙ g.general

unmade-term : (a : State) (q : NormalizesTo) (env : List Clause) → IsAcceptedNormalization a q env → some_node (is_unmade (kinds_of a)) (tree_of_term q.term) ≡ false
unmade-term a q env ok =
    (either-false (some_node (is_unmade (kinds_of a)) (tree_of_alias q.alias)) (some_node (is_unmade (kinds_of a)) (tree_of_term q.term))
    (either-false (some_in_equation (is_unmade (kinds_of a)) q.alias q.term) (some_in_env (is_unmade (kinds_of a)) env) (ok UnknownVariable)).0).1

differ-at : (q : NormalizesTo) (v : Variable) → node_of (tree_of_term q.term) ≡ nodes.Variable v → kinds_differ lies.WrongArgumentKind q.alias q.term ≡ false →
    not (same_kind (kind_of_alias q.alias.kind) (kind_of (nodes.Variable v))) ≡ false
unfolding kinds_differ
differ-at q v at h = subst (λ (x : Node). not (same_kind (kind_of_alias q.alias.kind) (kind_of x)) ≡ false) at h

-- the variable that an accepted goal expects its term for may be given a closed term of the alias's sort
expected-free : (a z : State) (ks : List VarKind) (q : NormalizesTo) (env : List Clause) (n : ℕ) (u : Term) (t : Tree) → z.inference ≡ with_kinds ks a.inference → ks ≡ replicate (length ks) kind.Region →
    IsAcceptedNormalization a q env → some_node is_any_infer t ≡ false → sort_of (node_of t) ≡ sort_of (nodes.Alias q.alias.kind) → expected_variable q.term ≡ Some n → erased (tree_of_term u) ≡ t →
    (v : Variable) × (number_of v ≡ n) × IsFreeFor z (tree_of_term u) v
expected-free a z ks q env n u t e regions ok closed sort expected same =
    let asked : IsGeneral (node_of (tree_of_term q.term)) n = node-general (node_of (tree_of_term q.term)) n expected in
    let untaken : is_taken a asked.v q.alias env ≡ false = not_taken a (general_variable (node_of (tree_of_term q.term))) asked.v q.alias env (ap general_variable asked.at ∙ general-at asked) (ok ExpectedTermNotFree) in
    let stays : bound_term z (tree_of_term u) ≡ t = ap (replaced (resolution z.terms z.inference)) same ∙ closed-replaced (resolution z.terms z.inference) t closed in (
      asked.v,
      asked.number,
      record {
        made = subst (λ (i : Inference). IsTrue (is_made_in i asked.v)) (sym e)
            (made-with a.inference ks asked.v (made-by a asked.v (general-at asked) (subst (λ (x : Node). is_unmade (kinds_of a) x ≡ false) asked.at (top-fails (is_unmade (kinds_of a)) (tree_of_term q.term) (unmade-term a q env ok)))));
        unbound = subst (λ (i : Inference). binding_of i asked.v ≡ None) (sym e) (unbound-with a.inference ks asked.v regions (taken-bound a asked.v q.alias env untaken));
        takes = subst (λ (x : Tree). IsTrue (takes asked.v (node_of x))) (sym stays)
            (takes-by asked.v q.alias.kind (is_type_kind q.alias.kind) (node_of t) refl (general-at asked) (differ-at q asked.v asked.at (no_fault-kinds a.tables lies.WrongArgumentKind q.alias q.term env (ok WrongArgumentKind))) sort);
        absent = subst (λ (x : Tree). place_of asked.v x ≡ Nowhere) (sym stays) (closed-nowhere asked.v t closed);
      },
    )

-- an answer that gives such a term to an accepted goal can be applied
alias-applies : (a z : State) (q : NormalizesTo) (env : List Clause) (n : ℕ) (r : Response) (t : Tree) → z ≡ restored a z → HasOneTypeAKey a.storage → IsAcceptedNormalization a q env →
    IsQuietAside (length (kinds_of a)) r → some_node is_any_infer t ≡ false → sort_of (node_of t) ≡ sort_of (nodes.Alias q.alias.kind) →
    expected_variable q.term ≡ Some n → GivesTo n t r → IsApplicable z r
unfolding CanBeListed
alias-applies a z q env n r t e keyed ok quiet closed sort expected gives =
    let inferred : z.inference ≡ a.inference = ap (λ (s : State). s.inference) e in
    let stored : z.storage ≡ a.storage = ap (λ (s : State). s.storage) e in
    let later : State = with_variables r.vars.items z in
    let free : (v : Variable) × (number_of v ≡ n) × IsFreeFor later (tree_of_term gives.0) v =
    expected-free a later r.vars.items q env n gives.0 t (ap (with_kinds r.vars.items) inferred) quiet.1 ok closed sort expected gives.2 in
    aside-applies z r (subst HasOneTypeAKey (sym stored) keyed)
    (subst (λ (i : Inference). IsQuietAside (length (kinds_in i.variables)) r) (sym inferred) quiet)
    (subst (CanBeListed later) (sym gives.1) (free.0, free.1, free.2, (λ w b. tt)))

-- the answer that is given to what is found can be applied, if that fits the alias
pub fitting-applies : (a z : State) (q : NormalizesTo) (env : List Clause) (T : List Tree) (id : TermId) (n : ℕ) (r : Result Response Fault) → z ≡ restored a z →
    HasOneTypeAKey a.storage → IsAcceptedNormalization a q env → AnswersAside (length (kinds_of a)) r → id.0 < length T →
    FitsKind q.alias.kind T (founds.Is id) → expected_variable q.term ≡ Some n →
    (HasTerm T id → IfOk r (λ x. (x.certainty ≡ certainty.Yes) × GivesTo n (erased_at T id) x)) → IfOk r (IsApplicable z)
fitting-applies a z q env T id n (Ok x) e keyed ok quiet l fits expected says =
    alias-applies a z q env n x (erased_at T id) e keyed ok quiet fits.0 fits.1 expected
    (says (l, subst IsTrue (ap is_term_sort (sort-erased (tree_at T id))) (alias-is_term q.alias.kind (is_type_kind q.alias.kind) refl (erased_at T id) fits.1))).1
fitting-applies a z q env T id n (Err f) e keyed ok quiet l fits expected says = tt

-- the term of a closed alias of an accepted goal fits
pub given-fits : (a : State) (m : TypingMode) (d : ℕ) (q : NormalizesTo) (env : List Clause) (T : List Tree) (id : TermId) → IsChecked a.tables → is_closed_alias q.alias env ≡ true → IsAcceptedNormalization a q env →
    (level (setting_of a.tables m env) d).gives q.alias.kind (erased_args q.alias.args.items) (erased_at T id) → FitsKind q.alias.kind T (founds.Is id)
given-fits a m d q env T id checked closed ok given =
    (closed-public_given a.tables m env d q.alias (erased_at T id) checked closed given, accepted-sort a m d q env (erased_at T id) checked ok given)

-- an answer without values can be applied to what a call left as it was
pub nothing-applies-after : (a z : State) (r : Response) → z ≡ restored a z → HasOneTypeAKey a.storage → IsQuiet (length (kinds_of a)) r → r.var_values.items ≡ [] → IsApplicable z r
nothing-applies-after a z r e keyed quiet empty =
    nothing-applies z r (subst HasOneTypeAKey (sym (ap (λ (s : State). s.storage) e)) keyed)
    (subst (λ (i : Inference). IsQuiet (length (kinds_in i.variables)) r) (sym (ap (λ (s : State). s.inference) e)) quiet) empty

-- so can what lists lifetimes alone, if it is an answer
unvalued-applies-of : (a z : State) (r : Result Response Fault) → z ≡ restored a z → HasOneTypeAKey a.storage → AnswersAside (length (kinds_of a)) r →
    IfOk r (λ x. x.var_values.items ≡ []) → IfOk r (IsApplicable z)
unvalued-applies-of a z (Ok x) e keyed quiet empty =
    unvalued-applies z x (subst HasOneTypeAKey (sym (ap (λ (s : State). s.storage) e)) keyed)
    (subst (λ (i : Inference). IsQuietAside (length (kinds_in i.variables)) x) (sym (ap (λ (s : State). s.inference) e)) quiet) empty
unvalued-applies-of a z (Err f) e keyed quiet empty = tt

pub nothing-listed : (r : Result Response Fault) → ListsNothing r → IfOk r (λ x. x.var_values.items ≡ [])
nothing-listed (Ok x) h = h.1
nothing-listed (Err f) h = tt

-- an answer without values can be applied to what a call left, where only an evaluation came before it
pub unvalued-applies-later : (a b z : State) (r : Result Response Fault) → b ≡ restored a b → z ≡ restored b z → HasOneTypeAKey a.storage →
    AnswersAside (length (kinds_of b)) r → IfOk r (λ x. x.var_values.items ≡ []) → IfOk r (IsApplicable z)
unvalued-applies-later a b z r e f keyed quiet empty = unvalued-applies-of b z r f (subst HasOneTypeAKey (sym (ap (λ (s : State). s.storage) e)) keyed) quiet empty

pub nothing-applies-later : (a b z : State) (r : Result Response Fault) → b ≡ restored a b → z ≡ restored b z → HasOneTypeAKey a.storage →
    AnswersQuietly (length (kinds_of b)) r → IfOk r (λ x. x.var_values.items ≡ []) → IfOk r (IsApplicable z)
nothing-applies-later a b z r e f keyed quiet empty = unvalued-applies-later a b z r e f keyed (answers-aside (length (kinds_of b)) r quiet) empty
