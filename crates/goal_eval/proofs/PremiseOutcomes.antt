-- What the premises of a rule come to.
use Rattle.std.proofs.Common.{◌≡◌, ◌≢◌, ℕ, zero, suc, ◌+◌, ◌-◌, ◌<◌, ◌≤◌, List, [], ◌∷◌, length, map, get_or, take, refl, sym, ap, subst, arith}
use Rattle.std.specs.Prelude.{IfOk, Result}
use Rattle.std.specs.List.{All}
use Rattle.std.proofs.lemmas.Result.{IfOk-weaker}
use Rattle.goal_terms.specs.PredicateTrees.{PredicateTree, holds, equals, holds_const}
use Rattle.goal_interner.specs.TableMeaning.{Keeps}
use Rattle.goal_terms.specs.Tree.{Tree}
use Rattle.goal_terms.specs.declared.ids.TraitId.{TraitId}
use Rattle.goal_terms.specs.declared.modes.TypingMode.{TypingMode}
use Rattle.goal_terms.specs.declared.predicates.BoundConstness.{BoundConstness}
use Rattle.goal_interner.specs.declared.term_nodes.TermId.{TermId}
use Rattle.goal_lists.specs.Interned.{PremiseIn, TraitIn, trait_at, erased_at, erased_all, predicate_at, premise_at}
use Rattle.goal_lists.specs.declared.candidates.interned.InternedPredicate.{InternedPredicate}
use Rattle.goal_lists.specs.declared.candidates.interned.InternedPredicate.TheVariants as predicates
use Rattle.goal_lists.specs.declared.candidates.interned.InternedPremise.{InternedPremise}
use Rattle.goal_lists.specs.declared.candidates.interned.InternedPremise.TheVariants as premises
use Rattle.goal_lists.specs.declared.candidates.interned.InternedTrait.{InternedTrait}
use Rattle.goal_lists.specs.Level.{Level}
use Rattle.goal_lists.specs.Levels.{level}
use Rattle.goal_lists.specs.Premises.{Premise, predicate, equation, TraitTree, ClauseHolds, ClauseRefuted, PremiseHolds, PremiseRefuted, PremisesHold, PremisesRefuted, conditions_as}
use Rattle.goal_lists.specs.Settings.{Setting}
use Rattle.goal_lists.specs.Words.{Each, Exists}
use Rattle.goal_lists.proofs.ConsistentLemmas.{each_level_is_consistent}
use Rattle.goal_lists.proofs.InternedLemmas.{premise_in-grown, premise_same-grown, trait_in-grown, trait_same-grown}
use Rattle.goal_lists.proofs.PremiseLemmas.{no_premise_refuted}
use Rattle.goal_lists.specs.Joined.{both, held}
use Rattle.goal_eval.specs.Outcomes.{RunsFor, setting_in, level_in, Says, SaysThrough}
use Rattle.goal_eval.specs.declared.eval.outcomes.Setting as over
use Rattle.goal_lists.specs.declared.outcomes.Outcome.{Outcome}
use Rattle.goal_lists.specs.declared.outcomes.Outcome.TheVariants as outcome
use Rattle.goal_eval.specs.declared.eval.outcomes.Stop.{Stop}
use Rattle.goal_lists.specs.declared.outcomes.TraitOutcome.{TraitOutcome}
use Rattle.goal_lists.specs.declared.outcomes.TraitOutcome.TheVariants as trait_outcome
use Rattle.goal_eval.proofs.OutcomeLists.{all-more, take-push, take-whole, Exists-taken, All-at}

-- what an outcome says of a premise
abbrev pub SaysPremise : Level → Premise → Outcome → Type 0
SaysPremise L p o = Says (PremiseHolds L p) (PremiseRefuted L p) o

-- what it says of a predicate
abbrev pub SaysClause : Level → PredicateTree → Outcome → Type 0
SaysClause L p o = Says (ClauseHolds L p) (ClauseRefuted L p) o

-- a goal that an alias and a term are equal is decided one level below
pub equation-above : (S : Setting) (d n : ℕ) (a t : Tree) (o : Outcome) → d ≡ suc n → Says ((level S n).equal a t) ((level S n).unequal a t) o →
    Says ((level S d).equation_holds a t) ((level S d).equation_refuted a t) o
unfolding level
equation-above S d n a t o e s = subst (λ k. Says ((level S k).equation_holds a t) ((level S k).equation_refuted a t) o) (sym e) s

-- at the lowest level it is undecided
pub equation-ground : (S : Setting) (d : ℕ) (a t : Tree) → d ≡ 0 → ((level S d).equation_holds a t → ⊥) × ((level S d).equation_refuted a t → ⊥)
unfolding level
equation-ground S zero a t h = (λ x. x, λ x. x)
equation-ground S (suc n) a t h = absurd (omega arith)

-- a trait goal as a predicate
pub trait-clause : (L : Level) (i : TraitId) (ts : List Tree) (o : TraitOutcome) →
    SaysThrough (λ c. L.through c i ts) (L.trait_refuted i ts) o → SaysClause L (holds i ts) (held o)
unfolding ClauseHolds ClauseRefuted
trait-clause L i ts (trait_outcome.Holds c) s = (c, s)
trait-clause L i ts trait_outcome.Refuted s = s
trait-clause L i ts trait_outcome.Undecided s = (λ h. s.0 h.0 h.1, s.1)

-- an equation and a const trait as predicates
pub equation-clause : (L : Level) (a t : Tree) (o : Outcome) → Says (L.equation_holds a t) (L.equation_refuted a t) o → SaysClause L (equals a t) o
unfolding ClauseHolds ClauseRefuted
equation-clause L a t o s = s

pub const-clause : (L : Level) (k : BoundConstness) (i : TraitId) (ts : List Tree) (o : Outcome) →
    Says (L.const_holds k i ts) (L.const_refuted k i ts) o → SaysClause L (holds_const k i ts) o
unfolding ClauseHolds ClauseRefuted
const-clause L k i ts o s = s

-- a predicate and equal terms as premises
pub clause-premise : (L : Level) (p : PredicateTree) (o : Outcome) → SaysClause L p o → SaysPremise L (predicate p) o
unfolding PremiseHolds PremiseRefuted
clause-premise L p o s = s

pub equal-premise : (L : Level) (t u : Tree) (o : Outcome) → Says (L.equal t u) (L.unequal t u) o → SaysPremise L (equation t u) o
unfolding PremiseHolds PremiseRefuted
equal-premise L t u o s = s

-- a predicate by its kind
pub trait-predicate : (L : Level) (T : List Tree) (p : InternedPredicate) (r : InternedTrait) (ids : List TermId) (o : TraitOutcome) → p ≡ predicates.Trait r → ids ≡ r.args.items →
    SaysThrough (λ c. L.through c r.def_id (erased_all T ids)) (L.trait_refuted r.def_id (erased_all T ids)) o → SaysClause L (predicate_at T p) (held o)
trait-predicate L T p r ids o e f s =
    subst (λ q. SaysClause L (predicate_at T q) (held o)) (sym e)
    (subst (λ xs. SaysClause L (holds r.def_id (erased_all T xs)) (held o)) f (trait-clause L r.def_id (erased_all T ids) o s))

pub equation-predicate : (L : Level) (T : List Tree) (p : InternedPredicate) (a t : TermId) (r : Result Outcome Stop) → p ≡ predicates.Projection a t →
    IfOk r (Says (L.equation_holds (erased_at T a) (erased_at T t)) (L.equation_refuted (erased_at T a) (erased_at T t))) → IfOk r (SaysClause L (predicate_at T p))
equation-predicate L T p a t r e h =
    subst (λ q. IfOk r (SaysClause L (predicate_at T q))) (sym e)
    (IfOk-weaker r (Says (L.equation_holds (erased_at T a) (erased_at T t)) (L.equation_refuted (erased_at T a) (erased_at T t))) (SaysClause L (equals (erased_at T a) (erased_at T t)))
    (equation-clause L (erased_at T a) (erased_at T t)) h)

pub const-predicate : (L : Level) (T : List Tree) (p : InternedPredicate) (k : BoundConstness) (q : InternedTrait) (ids : List TermId) (r : Result Outcome Stop) →
    p ≡ predicates.HostEffect k q → ids ≡ q.args.items →
    IfOk r (Says (L.const_holds k q.def_id (erased_all T ids)) (L.const_refuted k q.def_id (erased_all T ids))) → IfOk r (SaysClause L (predicate_at T p))
const-predicate L T p k q ids r e f h =
    subst (λ x. IfOk r (SaysClause L (predicate_at T x))) (sym e)
    (subst (λ xs. IfOk r (SaysClause L (holds_const k q.def_id (erased_all T xs)))) f
    (IfOk-weaker r (Says (L.const_holds k q.def_id (erased_all T ids)) (L.const_refuted k q.def_id (erased_all T ids)))
    (SaysClause L (holds_const k q.def_id (erased_all T ids))) (const-clause L k q.def_id (erased_all T ids)) h))

-- a premise by its kind
pub predicate-premise : (L : Level) (T : List Tree) (p : InternedPremise) (q : InternedPredicate) (r : Result Outcome Stop) → p ≡ premises.Predicate q →
    IfOk r (SaysClause L (predicate_at T q)) → IfOk r (SaysPremise L (premise_at T p))
predicate-premise L T p q r e h =
    subst (λ x. IfOk r (SaysPremise L (premise_at T x))) (sym e)
    (IfOk-weaker r (SaysClause L (predicate_at T q)) (SaysPremise L (predicate (predicate_at T q))) (clause-premise L (predicate_at T q)) h)

pub equation-premise : (L : Level) (T : List Tree) (p : InternedPremise) (a b : TermId) (r : Result Outcome Stop) → p ≡ premises.Equation a b →
    IfOk r (Says (L.equal (erased_at T a) (erased_at T b)) (L.unequal (erased_at T a) (erased_at T b))) → IfOk r (SaysPremise L (premise_at T p))
equation-premise L T p a b r e h =
    subst (λ x. IfOk r (SaysPremise L (premise_at T x))) (sym e)
    (IfOk-weaker r (Says (L.equal (erased_at T a) (erased_at T b)) (L.unequal (erased_at T a) (erased_at T b))) (SaysPremise L (equation (erased_at T a) (erased_at T b)))
    (equal-premise L (erased_at T a) (erased_at T b)) h)

-- an equation above the lowest level
pub equation-result : (S : Setting) (d : ℕ) (a t : Tree) (r : Result Outcome Stop) → d ≢ 0 → IfOk r (Says ((level S (d - 1)).equal a t) ((level S (d - 1)).unequal a t)) →
    IfOk r (Says ((level S d).equation_holds a t) ((level S d).equation_refuted a t))
equation-result S d a t r n h =
    IfOk-weaker r (Says ((level S (d - 1)).equal a t) ((level S (d - 1)).unequal a t)) (Says ((level S d).equation_holds a t) ((level S d).equation_refuted a t))
    (λ o s. equation-above S d (d - 1) a t o (omega arith) s) h

-- what an outcome says of the premises before a place, in each mode for which a run stands
abbrev pub PremisesSay : {A : Type 0} → over.Setting → ℕ → (A → Premise) → List A → ℕ → Outcome → Type 0
PremisesSay c n f xs i o = (m : TypingMode) → RunsFor c m →
    Says (Each (PremiseHolds (level_in c m n)) (take i (map f xs))) (Exists (PremiseRefuted (level_in c m n)) (take i (map f xs))) o

-- before the first place they hold
pub premises-start : {A : Type 0} (c : over.Setting) (n : ℕ) (f : A → Premise) (xs : List A) → PremisesSay c n f xs 0 outcome.Holds
unfolding Each
premises-start c n f xs m s = tt

-- one more premise
pub premises-more : {A : Type 0} (c : over.Setting) (n : ℕ) (f : A → Premise) (xs : List A) (i : ℕ) (x : A) (found next : Outcome) →
    i < length xs → x ≡ get_or xs i x → PremisesSay c n f xs i found → ((m : TypingMode) → RunsFor c m → SaysPremise (level_in c m n) (f x) next) →
    PremisesSay c n f xs (i + 1) (both found next)
premises-more c n f xs i x found next l e so_far here m s =
    subst (λ ps. Says (Each (PremiseHolds (level_in c m n)) ps) (Exists (PremiseRefuted (level_in c m n)) ps) (both found next)) (sym (take-push f xs i x l e))
    (all-more (PremiseHolds (level_in c m n)) (PremiseRefuted (level_in c m n)) (no_premise_refuted (level_in c m n) (each_level_is_consistent (setting_in c m) n))
    (take i (map f xs)) (f x) found next (so_far m s) (here m s))

-- one that is refuted refutes them
pub premises-refuted : {A : Type 0} (c : over.Setting) (n : ℕ) (f : A → Premise) (xs : List A) (i : ℕ) (o : Outcome) → o ≡ outcome.Refuted → PremisesSay c n f xs i o →
    (m : TypingMode) → RunsFor c m → PremisesRefuted (level_in c m n) (map f xs)
unfolding PremisesRefuted
premises-refuted c n f xs i o e so_far m s = Exists-taken (PremiseRefuted (level_in c m n)) i (map f xs) (subst (PremisesSay c n f xs i) e so_far m s)

-- after the last place all are decided
pub premises-end : {A : Type 0} (c : over.Setting) (n : ℕ) (f : A → Premise) (xs : List A) (i : ℕ) (found : Outcome) → length xs ≤ i → PremisesSay c n f xs i found →
    (m : TypingMode) → RunsFor c m → Says (PremisesHold (level_in c m n) (map f xs)) (PremisesRefuted (level_in c m n) (map f xs)) found
unfolding PremisesHold PremisesRefuted
premises-end c n f xs i found l so_far m s =
    subst (λ ps. Says (Each (PremiseHolds (level_in c m n)) ps) (Exists (PremiseRefuted (level_in c m n)) ps) found) (take-whole f xs i l) (so_far m s)

-- a condition as a premise
abbrev pub condition_at : BoundConstness → List Tree → InternedTrait → Premise
condition_at k T r = predicate (holds_const k r.def_id (erased_all T r.args.items))

pub conditions-same : (k : BoundConstness) (T : List Tree) (rs : List InternedTrait) → map (condition_at k T) rs ≡ conditions_as k (map (trait_at T) rs)
conditions-same k T [] = refl
conditions-same k T (r ∷ rs) = ap (λ ps. condition_at k T r ∷ ps) (conditions-same k T rs)

-- a premise at a place, when the table has grown
pub premise-at : (T U : List Tree) (ps : List InternedPremise) (i : ℕ) (p : InternedPremise) → Keeps T U → All (PremiseIn T) ps → i < length ps → p ≡ get_or ps i p →
    PremiseIn U p × (premise_at U p ≡ premise_at T p)
premise-at T U ps i p k h l e =
    let here : PremiseIn T p = All-at (PremiseIn T) ps i p h l e in
    (premise_in-grown T U k p here, premise_same-grown T U k p here)

pub condition-at : (b : BoundConstness) (T U : List Tree) (rs : List InternedTrait) (i : ℕ) (r : InternedTrait) → Keeps T U → All (TraitIn T) rs → i < length rs → r ≡ get_or rs i r →
    TraitIn U r × (condition_at b U r ≡ condition_at b T r)
condition-at b T U rs i r k h l e =
    let here : TraitIn T r = All-at (TraitIn T) rs i r h l e in
    (trait_in-grown T U k r here, ap (λ (x : TraitTree). predicate (holds_const b x.def_id x.args)) (trait_same-grown T U k r here))

-- one more premise, of a table that has grown
pub premises-step : (c : over.Setting) (n : ℕ) (T U : List Tree) (ps : List InternedPremise) (i : ℕ) (p : InternedPremise) (found next : Outcome) →
    Keeps T U → All (PremiseIn T) ps → i < length ps → p ≡ get_or ps i p → PremisesSay c n (premise_at T) ps i found →
    ((m : TypingMode) → RunsFor c m → SaysPremise (level_in c m n) (premise_at U p) next) →
    PremisesSay c n (premise_at T) ps (i + 1) (both found next)
premises-step c n T U ps i p found next k h l e so_far here =
    premises-more c n (premise_at T) ps i p found next l e so_far
    (λ m s. subst (λ x. SaysPremise (level_in c m n) x next) (premise-at T U ps i p k h l e).1 (here m s))

-- one more condition
pub conditions-step : (c : over.Setting) (n : ℕ) (b : BoundConstness) (T U : List Tree) (rs : List InternedTrait) (i : ℕ) (r : InternedTrait) (ids : List TermId) (found next : Outcome) →
    Keeps T U → All (TraitIn T) rs → i < length rs → r ≡ get_or rs i r → ids ≡ r.args.items → PremisesSay c n (condition_at b T) rs i found →
    ((m : TypingMode) → RunsFor c m →
    Says ((level_in c m n).const_holds b r.def_id (erased_all U ids)) ((level_in c m n).const_refuted b r.def_id (erased_all U ids)) next) →
    PremisesSay c n (condition_at b T) rs (i + 1) (both found next)
conditions-step c n b T U rs i r ids found next k h l e f so_far here =
    premises-more c n (condition_at b T) rs i r found next l e so_far
    (λ m s. subst (λ x. SaysPremise (level_in c m n) x next) (condition-at b T U rs i r k h l e).1
    (subst (λ xs. SaysPremise (level_in c m n) (predicate (holds_const b r.def_id (erased_all U xs))) next) f
    (clause-premise (level_in c m n) (holds_const b r.def_id (erased_all U ids)) next (const-clause (level_in c m n) b r.def_id (erased_all U ids) next (here m s)))))

-- all conditions together
pub conditions-refuted : (c : over.Setting) (n : ℕ) (b : BoundConstness) (T : List Tree) (rs : List InternedTrait) (i : ℕ) (o : Outcome) → o ≡ outcome.Refuted →
    PremisesSay c n (condition_at b T) rs i o → (m : TypingMode) → RunsFor c m →
    PremisesRefuted (level_in c m n) (conditions_as b (map (trait_at T) rs))
conditions-refuted c n b T rs i o e so_far m s =
    subst (PremisesRefuted (level_in c m n)) (conditions-same b T rs) (premises-refuted c n (condition_at b T) rs i o e so_far m s)

pub conditions-end : (c : over.Setting) (n : ℕ) (b : BoundConstness) (T : List Tree) (rs : List InternedTrait) (i : ℕ) (found : Outcome) → length rs ≤ i →
    PremisesSay c n (condition_at b T) rs i found → (m : TypingMode) → RunsFor c m →
    Says (PremisesHold (level_in c m n) (conditions_as b (map (trait_at T) rs))) (PremisesRefuted (level_in c m n) (conditions_as b (map (trait_at T) rs))) found
conditions-end c n b T rs i found l so_far m s =
    subst (λ ps. Says (PremisesHold (level_in c m n) ps) (PremisesRefuted (level_in c m n) ps) found) (conditions-same b T rs)
    (premises-end c n (condition_at b T) rs i found l so_far m s)
