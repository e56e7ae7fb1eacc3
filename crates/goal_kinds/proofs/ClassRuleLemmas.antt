-- Rules of classes, and goals without wrong ids, numbers of arguments and kinds.
use Rattle.std.proofs.Common.{◌≡◌, ◌||◌, ◌<◌, length, ℕ, Bool, true, false, Some, List, [], ◌∷◌, get_or, refl, ap, ◌∙◌, zero, suc, ◌+◌, ◌++◌, take, arith}
use Rattle.std.specs.List.{All}
use Rattle.std.proofs.lemmas.Option.{slice_get-get_or}
use Rattle.goal_terms.specs.Erased.{erased}
use Rattle.goal_terms.specs.TreeOf.{tree_of_ty}
use Rattle.goal_terms.specs.declared.answers.TraitGoalProvenVia.{TraitGoalProvenVia}
use Rattle.goal_terms.specs.declared.answers.TraitGoalProvenVia.TheVariants as class
use Rattle.goal_terms.specs.declared.modes.TypingMode.{TypingMode}
use Rattle.goal_terms.specs.declared.predicates.Clause.{Clause}
use Rattle.goal_terms.specs.declared.predicates.Goal.{Goal}
use Rattle.goal_terms.specs.declared.terms.Ty.{Ty}
use Rattle.goal_interner.proofs.TableLemmas.{list_any-none}
use Rattle.goal_tables.specs.Clauses.{lies_in_clause_kind}
use Rattle.goal_tables.specs.Predicates.{lies_in_env}
use Rattle.goal_tables.specs.declared.rows.ImplRow.{ImplRow}
use Rattle.goal_tables.specs.declared.rows.Tables.{Tables}
use Rattle.goal_tables.specs.declared.faults.TermFault.{TermFault}
use Rattle.goal_tables.specs.declared.faults.TermFault.TheVariants.{UnknownItem, WrongArgumentCount, WrongArgumentKind}
use Rattle.goal_lists.specs.Answers.{setting_of}
use Rattle.goal_kinds.specs.CandidateRules.{HasNoKindFault, IsAcceptedClause}
use Rattle.goal_lists.specs.Candidates.{rest}
use Rattle.goal_lists.specs.Premises.{TraitTree}
use Rattle.goal_kinds.specs.declared.rules.Rule.{Rule}
use Rattle.goal_kinds.specs.KindWords.{words_for}
use Rattle.goal_kinds.specs.Collecting.{Kind, goal_in, Speaks, Lacks, AreCollected, CollectsBounds, CollectsEnvironment, CollectsFor, fault_in, has_kind_fault, rules_of_class}
use Rattle.goal_kinds.specs.declared.assembly.class_rules.ClassRules.{ClassRules}

-- one more of the elements
take-suc : {A : Type 0} (xs : List A) (i : ℕ) (d : A) → i < length xs → take (suc i) xs ≡ take i xs ++ get_or xs i d ∷ []
take-suc [] i d h = absurd (omega arith)
take-suc (x ∷ xs) zero d h = refl
take-suc (x ∷ xs) (suc i) d h = ap (λ ys. x ∷ ys) (take-suc xs i d (omega arith))

plus-one : (i : ℕ) → i + 1 ≡ suc i
plus-one i = omega arith

pub take-more : {A : Type 0} (xs : List A) (i : ℕ) (d : A) → i < length xs → take (i + 1) xs ≡ take i xs ++ get_or xs i d ∷ []
take-more xs i d h = ap (λ n. take n xs) (plus-one i) ∙ take-suc xs i d h

neither : (a b : Bool) → a || b ≡ false → (a ≡ false) × (b ≡ false)
neither true b e = absurd (cc)
neither false b e = (refl, e)

-- the faults that a goal without some doesn't have
none-in : {P : Type 0} (lies : P → Tables → TermFault → Bool) (t : Tables) (g : Goal P) → has_kind_fault lies t g ≡ false →
    (fault_in lies t g UnknownItem ≡ false) × (fault_in lies t g WrongArgumentCount ≡ false) × (fault_in lies t g WrongArgumentKind ≡ false)
none-in lies t g h =
    let last = neither (fault_in lies t g UnknownItem || fault_in lies t g WrongArgumentCount) (fault_in lies t g WrongArgumentKind) h in
    let two = neither (fault_in lies t g UnknownItem) (fault_in lies t g WrongArgumentCount) last.0 in
    (two.0, two.1, last.1)

in-both : {P : Type 0} (lies : P → Tables → TermFault → Bool) (t : Tables) (g : Goal P) (f : TermFault) → fault_in lies t g f ≡ false →
    (lies g.predicate t f ≡ false) × (lies_in_env t f g.param_env.items ≡ false)
in-both lies t g f h = neither (lies g.predicate t f) (lies_in_env t f g.param_env.items) h

pub no-kind-fault : {P : Type 0} (lies : P → Tables → TermFault → Bool) (t : Tables) (g : Goal P) → has_kind_fault lies t g ≡ false → HasNoKindFault (λ f. lies g.predicate t f)
no-kind-fault lies t g h =
    let each = none-in lies t g h in
    ((in-both lies t g UnknownItem each.0).0, (in-both lies t g WrongArgumentCount each.1).0, (in-both lies t g WrongArgumentKind each.2).0)

clause-faultless : (t : Tables) (f : TermFault) (env : List Clause) (k : ℕ) (d : Clause) → k < length env → lies_in_env t f env ≡ false →
    lies_in_clause_kind t [] f (get_or env k d).kind ≡ false
clause-faultless t f env k d l h = list_any-none (λ c. lies_in_clause_kind t [] f c.kind) env k (get_or env k d) (slice_get-get_or env k d l) h

pub accepted-clauses : {P : Type 0} (lies : P → Tables → TermFault → Bool) (t : Tables) (g : Goal P) → has_kind_fault lies t g ≡ false → All (λ c. IsAcceptedClause t c.kind) g.param_env.items
accepted-clauses lies t g h = λ k d l.
    let each = none-in lies t g h in (
      clause-faultless t UnknownItem g.param_env.items k d l (in-both lies t g UnknownItem each.0).1,
      clause-faultless t WrongArgumentCount g.param_env.items k d l (in-both lies t g WrongArgumentCount each.1).1,
      clause-faultless t WrongArgumentKind g.param_env.items k d l (in-both lies t g WrongArgumentKind each.2).1,
    )

-- the rules of a class are collected, by what is said of each class
pub collects-for : {P : Type 0} (K : Kind P) (t : Tables) (g : Goal P) (m : TypingMode) (c : TraitGoalProvenVia) (rs : List Rule) → has_kind_fault K.has_fault t g ≡ false →
    (c ≡ class.ParamEnv → All (λ x. IsAcceptedClause t x.kind) g.param_env.items → CollectsEnvironment (words_for K.words t g m) rs) →
    ((q : TraitTree) (s : Ty) → c ≡ class.AliasBound → K.words.asked g.predicate t ≡ Some q → K.words.self_type g.predicate ≡ Some s →
    CollectsBounds (words_for K.words t g m) (K.words.additional g.predicate (setting_of t m g.param_env.items)) s [] rs) →
    ((q : TraitTree) (s : Ty) → c ≡ class.Misc → K.words.asked g.predicate t ≡ Some q → K.words.self_type g.predicate ≡ Some s →
    ((r : ImplRow) → r.trait_id ≡ q.def_id → K.words.is_impl_for g.predicate t r) →
    AreCollected (Speaks (words_for K.words t g m)) (Lacks (words_for K.words t g m)) rs (rest (setting_of t m g.param_env.items) q.def_id (erased (tree_of_ty s)))) →
    CollectsFor K (goal_in t g m) c rs
collects-for K t g m class.ParamEnv rs f env bounds others = env refl (accepted-clauses K.has_fault t g f)
collects-for K t g m class.AliasBound rs f env bounds others = λ q s asked of. bounds q s refl asked of
collects-for K t g m class.Misc rs f env bounds others = λ q s asked of own. others q s refl asked of own

-- the rules of all classes are collected
pub each-class : {P : Type 0} (K : Kind P) (t : Tables) (h : Goal P) (m : TypingMode) (w : ClassRules) → CollectsFor K (goal_in t h m) class.ParamEnv w.environment.items →
    CollectsFor K (goal_in t h m) class.AliasBound w.bounds.items → CollectsFor K (goal_in t h m) class.Misc w.rest.items → (c : TraitGoalProvenVia) → CollectsFor K (goal_in t h m) c (rules_of_class w c)
each-class K t h m w first second third class.ParamEnv = first
each-class K t h m w first second third class.AliasBound = second
each-class K t h m w first second third class.Misc = third
