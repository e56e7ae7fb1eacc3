-- The steps of lists of entries with inference variables: goals for clauses, arguments that are named, and terms that are given.
use Rattle.std.proofs.Common.{◌≡◌, ℕ, ◌+◌, ◌<◌, ◌≤◌, List, [], ◌∷◌, ◌++◌, length, map, take, get_or, Option, Some, None, inl, refl, sym, ap, ap₂, ◌∙◌, subst, append_assoc, ⊎_elim}
use Rattle.std.specs.Global.{Global}
use Rattle.std.specs.List.{AllZip, Contains}
use Rattle.std.specs.Prelude.{Vec, option_map, slice_get, Result, Ok, Err, OnOk, OnErr, ◌⊎◌}
use Rattle.std.proofs.lemmas.List.{append-nil, map-append, take_all}
use Rattle.std.proofs.lemmas.List.Elements.{Contains-push_cases}
use Rattle.std.proofs.lemmas.Option.{slice_get-map}
use Rattle.goal_terms.specs.Folding.{instance, instantiating}
use Rattle.goal_terms.specs.PredicateTrees.{PredicateTree, holds, holds_const, ClauseTree, tree_of_kind, tree_of_trait_ref, tree_of_whole_clause, folded_predicate}
use Rattle.goal_terms.specs.Tree.{Tree}
use Rattle.goal_terms.specs.TreeOf.{trees_of, tree_of_term}
use Rattle.goal_terms.specs.contracts.predicates.ClauseClone.TheImpl.{is_clone-value}
use Rattle.goal_terms.specs.declared.answers.Certainty.{Certainty}
use Rattle.goal_terms.specs.declared.answers.Certainty.TheVariants as certainty
use Rattle.goal_terms.specs.declared.answers.DelayedFault.{DelayedFault}
use Rattle.goal_terms.specs.declared.answers.GoalSource.{GoalSource}
use Rattle.goal_terms.specs.declared.answers.GoalSource.TheVariants as source
use Rattle.goal_terms.specs.declared.answers.OpaqueAccess.{OpaqueAccess}
use Rattle.goal_terms.specs.declared.answers.OpaqueTypeKey.{OpaqueTypeKey}
use Rattle.goal_terms.specs.declared.ids.ImplId.{ImplId}
use Rattle.goal_terms.specs.declared.predicates.BoundConstness.{BoundConstness}
use Rattle.goal_terms.specs.declared.predicates.Clause.{Clause}
use Rattle.goal_terms.specs.declared.predicates.ClauseKind.{ClauseKind}
use Rattle.goal_terms.specs.declared.predicates.Predicate.{Predicate}
use Rattle.goal_terms.specs.declared.predicates.TraitRef.{TraitRef}
use Rattle.goal_terms.specs.declared.terms.GenericArg.{GenericArg}
use Rattle.goal_terms.specs.declared.terms.Term.{Term}
use Rattle.goal_tables.specs.declared.rows.ImplRow.{ImplRow}
use Rattle.goal_kinds.specs.Rules.{MatchedHeader}
use Rattle.goal_lists.specs.RowWords.{clauses_in, conditions_in}
use Rattle.goal_kinds.specs.declared.faults.Fault.{Fault}
use Rattle.goal_lists.specs.declared.lists.FirstUse.{FirstUse}
use Rattle.goal_lists.specs.declared.lists.RowClauses.{RowClauses}
use Rattle.goal_kinds.specs.declared.rules.RuleArguments.{RuleArguments}
use Rattle.goal_kinds.specs.declared.rules.RuleEntry.{RuleEntry}
use Rattle.goal_kinds.specs.declared.rules.RuleEntry.TheVariants as entry
use Rattle.goal_kinds.specs.declared.rules.RuleTerm.{RuleTerm}
use Rattle.goal_solver.specs.Accesses.{uncaused_faults, RecordsCausedFaults}
use Rattle.goal_eval.specs.Entering.{Enters}
use Rattle.goal_solver.specs.Added.{with_goals, RecordsFault}
use Rattle.goal_solver.specs.GoingBack.{GoesBack}
use Rattle.goal_solver.specs.OpenRuns.{OpenProgress, named_trees, after_entry, after_naming, clauses_with, conditions_with, predicate_of, other_header, source_of, AddsGoals, AddsRow, Defines, Equates, Evaluates, Follows, GivesForm, GivesTerm, GivesValue, IsGoalOf, MatchesIf, NamesArguments, ReadsMode, Steps}
use Rattle.goal_solver.specs.RunRules.{AreListed}
use Rattle.goal_solver.specs.State.{State}
use Rattle.goal_solver.proofs.BindingLemmas.{zip-map}
use Rattle.goal_solver.proofs.CloneLemmas.{clause-regions, clause-kind}
use Rattle.goal_solver.proofs.GoingBackLemmas.{goes_back-when_goals}
use Rattle.goal_solver.proofs.RecordedLemmas.{one-listed, none-listed}
use Rattle.goal_solver.proofs.StoredLemmas.{some-is}
use Rattle.goal_kinds.proofs.ClassRuleLemmas.{take-more}

-- a clause, by its parts
abbrev clause_tree : ℕ → PredicateTree → ClauseTree
clause_tree n k = record { bound_regions = n; kind = k }

-- a clone of a clause says the same
whole-clone : (x y : Clause) → is_clone-value.it x y → tree_of_whole_clause y ≡ tree_of_whole_clause x
whole-clone x y r = ap₂ clause_tree (clause-regions x y r) (clause-kind x y r)

-- the goal for what a clause says is added
pub goal-added : (from : GoalSource) (env : List Clause) (k : ClauseKind) (p : Predicate) (xs : Vec Clause Global) (s z : State) → p ≡ predicate_of k →
    AllZip is_clone-value.it env xs.items → z ≡ with_goals ((from, record { param_env = xs; predicate = p }) ∷ []) s → AddsGoals from env (tree_of_kind k ∷ []) s z
goal-added from env k p xs s z asks clones e = record {
  added = (from, record { param_env = xs; predicate = p }) ∷ [];
  asked = (record { kind = k; source = refl; asks = asks; same = refl; environment = zip-map is_clone-value.it tree_of_whole_clause whole-clone env xs.items clones }, tt);
  is = e;
}

-- nothing else changes
pub added-back : (from : GoalSource) (env : List Clause) (qs : List PredicateTree) (s z : State) → AddsGoals from env qs s z → GoesBack s z
added-back from env qs s z h = goes_back-when_goals s z h.added h.is

pub added-faults : (from : GoalSource) (env : List Clause) (qs : List PredicateTree) (s z : State) → AddsGoals from env qs s z → RecordsCausedFaults s z
added-faults from env qs s z h = ap (λ (x : State). uncaused_faults x) h.is

-- no goal is added
pub none-added : (from : GoalSource) (env : List Clause) (s : State) → AddsGoals from env [] s s
none-added from env s = record { added = []; asked = tt; is = sym (ap (λ gs. record s { goals = gs }) (append-nil s.goals)) }

zip-join : {A B : Type 0} (R : A → B → Type 0) (xs : List A) (ys : List B) (us : List A) (vs : List B) → AllZip R xs ys → AllZip R us vs → AllZip R (xs ++ us) (ys ++ vs)
zip-join R [] [] us vs p q = q
zip-join R [] (y ∷ ys) us vs p q = absurd p
zip-join R (x ∷ xs) [] us vs p q = absurd p
zip-join R (x ∷ xs) (y ∷ ys) us vs p q = (p.0, zip-join R xs ys us vs p.1 q)

-- the goal for one more thing that is listed is added
listed-more : {A : Type 0} (f : A → PredicateTree) (xs : List A) (i : ℕ) (x : A) → i < length xs → x ≡ get_or xs i x → map f (take (i + 1) xs) ≡ map f (take i xs) ++ f x ∷ []
listed-more f xs i x l at = ap (map f) (take-more xs i x l) ∙ map-append f (take i xs) (get_or xs i x ∷ []) ∙ ap (λ y. map f (take i xs) ++ f y ∷ []) (sym at)

pub more-added : {A : Type 0} (f : A → PredicateTree) (from : GoalSource) (env : List Clause) (xs : List A) (i : ℕ) (x : A) (q : PredicateTree) (s a b : State) → i < length xs → x ≡ get_or xs i x →
    q ≡ f x → AddsGoals from env (map f (take i xs)) s a → AddsGoals from env (q ∷ []) a b → AddsGoals from env (map f (take (i + 1) xs)) s b
more-added f from env xs i x q s a b l at same before here = record {
  added = before.added ++ here.added;
  asked = subst (λ qs. AllZip (IsGoalOf from env) qs (before.added ++ here.added)) (sym (listed-more f xs i x l at))
      (zip-join (IsGoalOf from env) (map f (take i xs)) before.added (f x ∷ []) here.added before.asked
      (subst (λ y. AllZip (IsGoalOf from env) (y ∷ []) here.added) same here.asked));
  is = here.is ∙ ap (with_goals here.added) before.is ∙ ap (λ gs. record s { goals = gs }) (append_assoc s.goals before.added here.added);
}

pub all-added : {A : Type 0} (f : A → PredicateTree) (from : GoalSource) (env : List Clause) (xs : List A) (i : ℕ) (s a : State) → length xs ≤ i → AddsGoals from env (map f (take i xs)) s a →
    AddsGoals from env (map f xs) s a
all-added f from env xs i s a l h = subst (λ ys. AddsGoals from env (map f ys) s a) (take_all i xs l) h

-- a trait under arguments, as a const trait
held_const : BoundConstness → PredicateTree → PredicateTree
held_const b (holds i ts) = holds_const b i ts
held_const b q = q

pub condition-under : (b : BoundConstness) (ts : List Tree) (r q : TraitRef) → tree_of_trait_ref q ≡ folded_predicate (instantiating ts) 0 (tree_of_trait_ref r) →
    holds_const b q.def_id (trees_of q.args.items) ≡ holds_const b r.def_id (map (instance ts) (trees_of r.args.items))
unfolding held_const
condition-under b ts r q e = ap (held_const b) e

-- the arguments of a number
pub number-named : (named : List (Vec GenericArg Global)) (n : ℕ) (args : Vec GenericArg Global) → Some args ≡ slice_get named n → Some (trees_of args.items) ≡ slice_get (named_trees named) n
number-named named n args e =
    ap (option_map (λ (xs : Vec GenericArg Global). trees_of xs.items)) e ∙ sym (slice_get-map (λ (xs : Vec GenericArg Global). trees_of xs.items) named n)

pub number-unnamed : (named : List (Vec GenericArg Global)) (n : ℕ) → None ≡ slice_get named n → None ≡ slice_get (named_trees named) n
number-unnamed named n e =
    ap (option_map (λ (xs : Vec GenericArg Global). trees_of xs.items)) e ∙ sym (slice_get-map (λ (xs : Vec GenericArg Global). trees_of xs.items) named n)

-- goals for what a row lists
row-lacking : {A : Type 0} (under : List Tree → List A → List PredicateTree) (from : GoalSource) (env : List Clause) (o : Option (List A)) (s : State) → AddsRow under from env o None s certainty.Maybe s
row-lacking under from env None s = (refl, refl)
row-lacking under from env (Some xs) s = (refl, refl)

pub row-unnamed : {A : Type 0} (under : List Tree → List A → List PredicateTree) (from : GoalSource) (env : List Clause) (o : Option (List A)) (p : Option (List Tree)) (s : State) → None ≡ p →
    AddsRow under from env o p s certainty.Maybe s
row-unnamed under from env o p s e = subst (λ x. AddsRow under from env o x s certainty.Maybe s) e (row-lacking under from env o s)

pub row-added : {A : Type 0} (under : List Tree → List A → List PredicateTree) (from : GoalSource) (env : List Clause) (xs : List A) (ts : List Tree) (o : Option (List A)) (p : Option (List Tree)) (s z : State) →
    Some xs ≡ o → Some ts ≡ p → AddsGoals from env (under ts xs) s z → AddsRow under from env o p s certainty.Yes z
row-added under from env xs ts o p s z e f h =
    subst (λ x. AddsRow under from env x p s certainty.Yes z) e (subst (λ x. AddsRow under from env (Some xs) x s certainty.Yes z) f (h, refl))

-- the value of a row
value-here : (env : List Clause) (v : Tree) (o : Option Tree) (ts : List Tree) (t : Tree) (s : State) (c : Certainty) (u : State) → Some t ≡ option_map (instance ts) o →
    GivesForm env v t s c u → GivesValue env v o (Some ts) s c u
value-here env v (Some x) ts t s c u e h = subst (λ y. GivesForm env v y s c u) (some-is t (instance ts x) e) h
value-here env v None ts t s c u e h = absurd (cc)

value-lacking : (env : List Clause) (v : Tree) (o : Option Tree) (s : State) → GivesValue env v o None s certainty.Maybe s
value-lacking env v None s = (refl, refl)
value-lacking env v (Some x) s = (refl, refl)

pub value-unnamed : (env : List Clause) (v : Tree) (o : Option Tree) (p : Option (List Tree)) (s : State) → None ≡ p → GivesValue env v o p s certainty.Maybe s
value-unnamed env v o p s e = subst (λ x. GivesValue env v o x s certainty.Maybe s) e (value-lacking env v o s)

-- arguments of a header where something is missing
match-lacking : (env : List Clause) (o : Option MatchedHeader) (s : State) (ts : List Tree) (c : Certainty) → ts ≡ [] → c ≡ certainty.Maybe → MatchesIf env o None s ts c s
match-lacking env None s ts c f h = (f, (refl, h))
match-lacking env (Some x) s ts c f h = (f, (refl, h))

pub match-ungiven : (env : List Clause) (o : Option MatchedHeader) (g : Option (List Tree)) (s : State) (ts : List Tree) (c : Certainty) → None ≡ g → ts ≡ [] → c ≡ certainty.Maybe →
    MatchesIf env o g s ts c s
match-ungiven env o g s ts c e f h = subst (λ x. MatchesIf env o x s ts c s) e (match-lacking env o s ts c f h)

-- the header of another impl
other-lacking : (o : Option ImplRow) → None ≡ other_header o None
other-lacking None = refl
other-lacking (Some r) = refl

pub other-unnamed : (o : Option ImplRow) (p : Option (List Tree)) → None ≡ p → None ≡ other_header o p
other-unnamed o p e = subst (λ x. None ≡ other_header o x) e (other-lacking o)

pub other-given : (r : ImplRow) (o : Option ImplRow) (z : List Tree) (p : Option (List Tree)) → Some r ≡ o → Some z ≡ p → Some (map (instance z) (trees_of r.trait_args.items)) ≡ other_header o p
other-given r o z p e f = ap₂ other_header e f

-- earlier arguments
pub follows-named : (z : List Tree) (p : Option (List Tree)) (own : List Tree) (s : State) (ts : List Tree) (c : Certainty) → Some z ≡ p → ts ≡ z ++ own → c ≡ certainty.Yes → Follows p own s ts c s
follows-named z p own s ts c e f h = subst (λ x. Follows x own s ts c s) e (f, refl, h)

-- the steps, by the entries
pub arguments-step : (env : List Clause) (e : RuleEntry) (a : RuleArguments) (s : State) (p : OpenProgress) (u : State) (q : OpenProgress) (ts : List Tree) (c : Certainty) → e ≡ entry.Arguments a →
    NamesArguments env p.named a s ts c u → q ≡ after_naming p ts c → Steps env e s p u q
unfolding Steps
arguments-step env e a s p u q ts c is names after = subst (λ x. Steps env x s p u q) (sym is) (ts, c, names, after)

pub equation-step : (env : List Clause) (e : RuleEntry) (ls rs : Vec GenericArg Global) (xs ys : List GenericArg) (s : State) (p : OpenProgress) (u : State) (q : OpenProgress) (c : Certainty) →
    e ≡ entry.Equation ls rs → xs ≡ ls.items → ys ≡ rs.items → Equates env (trees_of xs) (trees_of ys) s u c → q ≡ after_entry p c → Steps env e s p u q
unfolding Steps
equation-step env e ls rs xs ys s p u q c is left right equates after =
    subst (λ x. Steps env x s p u q) (sym is)
    (c, subst (λ x. Equates env (trees_of x) (trees_of rs.items) s u c) left (subst (λ y. Equates env (trees_of xs) (trees_of y) s u c) right equates), after)

pub clause-step : (env : List Clause) (e : RuleEntry) (g : GoalSource) (k : ClauseKind) (s : State) (p : OpenProgress) (u : State) (q : OpenProgress) → e ≡ entry.Clause g k →
    AddsGoals g env (tree_of_kind k ∷ []) s u → q ≡ after_entry p certainty.Yes → Steps env e s p u q
unfolding Steps
clause-step env e g k s p u q is adds after = subst (λ x. Steps env x s p u q) (sym is) (certainty.Yes, (adds, refl), after)

pub row-step : (env : List Clause) (e : RuleEntry) (w : RowClauses) (n : ℕ) (s : State) (p : OpenProgress) (u : State) (q : OpenProgress) (c : Certainty) → e ≡ entry.RowClauses w n →
    AddsRow clauses_with (source_of w) env (clauses_in s.tables w) (slice_get p.named n) s c u → q ≡ after_entry p c → Steps env e s p u q
unfolding Steps
row-step env e w n s p u q c is adds after = subst (λ x. Steps env x s p u q) (sym is) (c, adds, after)

pub conditions-step : (env : List Clause) (e : RuleEntry) (b : BoundConstness) (i : ImplId) (n : ℕ) (s : State) (p : OpenProgress) (u : State) (q : OpenProgress) (c : Certainty) → e ≡ entry.RowConditions b i n →
    AddsRow (conditions_with b) source.ImplWhereBound env (conditions_in s.tables i) (slice_get p.named n) s c u → q ≡ after_entry p c → Steps env e s p u q
unfolding Steps
conditions-step env e b i n s p u q c is adds after = subst (λ x. Steps env x s p u q) (sym is) (c, adds, after)

pub term-step : (env : List Clause) (e : RuleEntry) (v : Term) (t : RuleTerm) (s : State) (p : OpenProgress) (u : State) (q : OpenProgress) (c : Certainty) → e ≡ entry.Term v t →
    GivesTerm env p.named (tree_of_term v) t s c u → q ≡ after_entry p c → Steps env e s p u q
unfolding Steps
term-step env e v t s p u q c is gives after = subst (λ x. Steps env x s p u q) (sym is) (c, gives, after)

pub hidden-step : (env : List Clause) (e : RuleEntry) (v : Term) (k : OpaqueTypeKey) (f : FirstUse) (s : State) (p : OpenProgress) (u : State) (q : OpenProgress) (c : Certainty) →
    e ≡ entry.HiddenType v k f → Defines env v k f s c u → q ≡ after_entry p c → Steps env e s p u q
unfolding Steps
hidden-step env e v k f s p u q c is defines after = subst (λ x. Steps env x s p u q) (sym is) (c, defines, after)

pub access-step : (env : List Clause) (e : RuleEntry) (a : OpaqueAccess) (s : State) (p : OpenProgress) (u : State) (q : OpenProgress) (c : Certainty) → e ≡ entry.Access a →
    ReadsMode a s c u → q ≡ after_entry p c → Steps env e s p u q
unfolding Steps
access-step env e a s p u q c is reads after = subst (λ x. Steps env x s p u q) (sym is) (c, reads, after)

pub fault-step : (env : List Clause) (e : RuleEntry) (f : DelayedFault) (s : State) (p : OpenProgress) (u : State) → e ≡ entry.DelayedFault f → RecordsFault f s u → Steps env e s p u p
unfolding Steps
fault-step env e f s p u is records = subst (λ x. Steps env x s p u p) (sym is) (records, refl)

pub evaluation-step : (env : List Clause) (e : RuleEntry) (s : State) (p : OpenProgress) (u : State) → e ≡ entry.Evaluation → (c : Certainty) × Evaluates s u c → Steps env e s p u p
unfolding Steps
evaluation-step env e s p u is h = subst (λ x. Steps env x s p u p) (sym is) (h.0, h.1, refl)

-- an entry that such a list leaves undecided
abbrev pub StaysOpen : RuleEntry → Type 0
StaysOpen e = (e ≡ entry.Ambiguous) ⊎ (e ≡ entry.Undecided)

pub undecided-step : (env : List Clause) (e : RuleEntry) (s : State) (p q : OpenProgress) → StaysOpen e → q ≡ after_entry p certainty.Maybe → Steps env e s p s q
unfolding Steps
undecided-step env e s p q stays after =
    ⊎_elim (λ is. subst (λ x. Steps env x s p s q) (sym is) (refl, after)) (λ is. subst (λ x. Steps env x s p s q) (sym is) (refl, after)) stays

-- only the fault of its entry comes with the step
entered-one : {A : Type 0} (x y : A) (old new : List A) → Enters x old new → Contains new y → Contains old y ⊎ (x ≡ y)
entered-one x y old new h p =
    ⊎_elim (λ k. inl (subst (λ xs. Contains xs y) k.1 p)) (λ k. Contains-push_cases old x y (subst (λ xs. Contains xs y) k.1 p)) h

pub fault-listed : {T : Type 0} (r : Result T Fault) (e : RuleEntry) (f : DelayedFault) (s u : State) → e ≡ entry.DelayedFault f → OnOk r (RecordsFault f s u) → OnErr r (u ≡ s) → AreListed (e ∷ []) s u
fault-listed (Ok x) e f s u is records same = one-listed s u e f is (λ g p. entered-one f g s.delayed_faults u.delayed_faults records.0 p)
fault-listed (Err x) e f s u is records same = none-listed s u (e ∷ []) (ap (λ (y : State). y.delayed_faults) same)
