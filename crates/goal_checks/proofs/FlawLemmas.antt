-- Flaws, part by part.
use Rattle.std.proofs.Common.{◌≡◌, ℕ, zero, suc, ◌+◌, Bool, true, false, List, [], ◌∷◌, length, drop, Some, refl, sym, ap, ◌∙◌, add-one, arith}
use Rattle.std.specs.Prelude.{slice_get, ◌||◌}
use Rattle.std.specs.List.{list_any}
use Rattle.std.proofs.lemmas.List.{drop_all}
use Rattle.goal_terms.specs.NodeTests.{some_node, some_in_row}
use Rattle.goal_terms.specs.Tree.{Tree, Trees, node, alias, variable, none, more, node_of, parts_of, list_of}
use Rattle.goal_terms.specs.TreeOf.{tree_of_arg, tree_of_alias, tree_of_term}
use Rattle.goal_terms.specs.declared.answers.ParamKind.{ParamKind}
use Rattle.goal_terms.specs.declared.heads.Node.{Node}
use Rattle.goal_terms.specs.declared.heads.Node.TheVariants as nodes
use Rattle.goal_terms.specs.declared.predicates.Clause.{Clause}
use Rattle.goal_terms.specs.declared.predicates.ClauseKind.TheVariants as clause
use Rattle.goal_terms.specs.declared.predicates.HostEffectPredicate.{HostEffectPredicate}
use Rattle.goal_terms.specs.declared.predicates.ProjectionPredicate.{ProjectionPredicate}
use Rattle.goal_terms.specs.declared.predicates.TraitPredicate.{TraitPredicate}
use Rattle.goal_terms.specs.declared.predicates.TraitRef.{TraitRef}
use Rattle.goal_terms.specs.declared.terms.AliasTerm.{AliasTerm}
use Rattle.goal_terms.specs.declared.terms.GenericArg.{GenericArg}
use Rattle.goal_terms.specs.declared.terms.Term.{Term}
use Rattle.goal_terms.proofs.WalkLemmas.{tree_size-part}
use Rattle.goal_tables.specs.Clauses.{own_fault, const_fault, denies_const, kinds_differ, lies_in_args, lies_in_trait_ref, lies_in_const_ref, lies_in_equation, lies_in_clause_kind}
use Rattle.goal_tables.specs.Flaws.{is_flawed, flaw_lies_here, flaw_lies_in, flaw_lies_in_args, flaw_lies_in_trait_ref, flaw_lies_in_equation, flaw_lies_in_clause_kind, flaw_lies_in_env}
use Rattle.goal_tables.specs.Predicates.{lies_in_env, some_in_args, some_in_equation, some_in_clause_kind, some_in_env}
use Rattle.goal_tables.specs.Sites.{lies_here, lies_in, lies_in_row}
use Rattle.goal_tables.specs.declared.rows.Tables.{Tables}
use Rattle.goal_tables.specs.declared.faults.TermFault.{TermFault}
use Rattle.goal_tables.specs.declared.faults.TermFault.TheVariants.{UnknownItem, WrongArgumentCount, WrongArgumentKind, NeverConst}
use Rattle.goal_checks.proofs.SiteLemmas.{lies_from, lies_in-walk}

or_false : (b : Bool) → b || false ≡ b
or_false true = refl
or_false false = refl

or-mixed : (a b c d : Bool) → (a || b) || (c || d) ≡ (a || c) || (b || d)
or-mixed true b c d = refl
or-mixed false true true d = refl
or-mixed false false true d = refl
or-mixed false b false d = refl

-- what has a flaw in one of two parts
pub is_flawed-joined : (f g : TermFault → Bool) (x y : Bool) → is_flawed (λ k. f k || g k) (x || y) ≡ is_flawed f x || is_flawed g y
is_flawed-joined f g x y =
    ap (λ b. b || (f WrongArgumentKind || g WrongArgumentKind) || (x || y)) (or-mixed (f UnknownItem) (g UnknownItem) (f WrongArgumentCount) (g WrongArgumentCount))
    ∙ ap (λ b. b || (x || y)) (or-mixed (f UnknownItem || f WrongArgumentCount) (g UnknownItem || g WrongArgumentCount) (f WrongArgumentKind) (g WrongArgumentKind))
    ∙ or-mixed (f UnknownItem || f WrongArgumentCount || f WrongArgumentKind) (g UnknownItem || g WrongArgumentCount || g WrongArgumentKind) x y

-- and in one of any number
is_flawed-any : {A : Type 0} (lies : TermFault → A → Bool) (p : A → Bool) (xs : List A) →
    is_flawed (λ f. list_any (lies f) xs) (list_any p xs) ≡ list_any (λ x. is_flawed (λ f. lies f x) (p x)) xs
is_flawed-any lies p [] = refl
is_flawed-any lies p (x ∷ xs) =
    is_flawed-joined (λ f. lies f x) (λ f. list_any (lies f) xs) (p x) (list_any p xs)
    ∙ ap (λ b. is_flawed (λ f. lies f x) (p x) || b) (is_flawed-any lies p xs)

-- whether a flaw lies in one of the parts from a place on
unfoldable pub flaw_lies_from : Tables → (Node → Bool) → List Tree → ℕ → Bool
flaw_lies_from t p ts i = list_any (λ u. flaw_lies_in t p u) (drop i ts)

flaw_lies_from-step : (t : Tables) (p : Node → Bool) (ts : List Tree) (i : ℕ) (u : Tree) → slice_get ts i ≡ Some u →
    flaw_lies_from t p ts i ≡ flaw_lies_in t p u || flaw_lies_from t p ts (suc i)
unfolding flaw_lies_from
flaw_lies_from-step t p [] i u e = absurd (cc)
flaw_lies_from-step t p (x ∷ ts) zero u e = let q : x ≡ u = cc in ap (λ w. flaw_lies_in t p w || list_any (λ u. flaw_lies_in t p u) ts) q
flaw_lies_from-step t p (x ∷ ts) (suc i) u e = flaw_lies_from-step t p ts i u e

pub flaw_lies_from-more : (t : Tables) (p : Node → Bool) (ts : List Tree) (i : ℕ) (u : Tree) (b : Bool) →
    slice_get ts i ≡ Some u → flaw_lies_in t p u ≡ false → flaw_lies_from t p ts i ≡ b → flaw_lies_from t p ts (i + 1) ≡ b
flaw_lies_from-more t p ts i u b e h k =
    rw add-one (ap (λ w. w || flaw_lies_from t p ts (suc i)) (sym h) ∙ sym (flaw_lies_from-step t p ts i u e) ∙ k)

pub flaw_lies_from-found : (t : Tables) (p : Node → Bool) (ts : List Tree) (i : ℕ) (u : Tree) (b : Bool) →
    slice_get ts i ≡ Some u → flaw_lies_in t p u ≡ true → flaw_lies_from t p ts i ≡ b → b ≡ true
flaw_lies_from-found t p ts i u b e h k = sym k ∙ flaw_lies_from-step t p ts i u e ∙ ap (λ w. w || flaw_lies_from t p ts (suc i)) h

pub flaw_lies_from-end : (t : Tables) (p : Node → Bool) (ts : List Tree) (i : ℕ) → length ts ≡ i → flaw_lies_from t p ts i ≡ false
unfolding flaw_lies_from
flaw_lies_from-end t p ts i e = let q : drop i ts ≡ [] = drop_all i ts (omega arith) in ap (list_any (λ u. flaw_lies_in t p u)) q

some_in_row-list : (p : Node → Bool) (ts : Trees) → some_in_row p ts ≡ list_any (λ u. some_node p u) (list_of ts)
unfolding some_node
some_in_row-list p none = refl
some_in_row-list p (more u us) = ap (λ b. some_node p u || b) (some_in_row-list p us)

some_node-parts : (p : Node → Bool) (u : Tree) → some_node p u ≡ p (node_of u) || list_any (λ x. some_node p x) (parts_of u)
unfolding some_node
some_node-parts p (node h ts) = ap (λ b. p (nodes.Head h) || b) (some_in_row-list p ts)
some_node-parts p (alias k ts) = ap (λ b. p (nodes.Alias k) || b) (some_in_row-list p ts)
some_node-parts p (variable v) = sym (or_false (p (nodes.Variable v)))

lies_in-parts : (t : Tables) (f : TermFault) (u : Tree) → lies_in t [] f u ≡ lies_here t [] f u || list_any (λ x. lies_in t [] f x) (parts_of u)
unfolding lies_from
lies_in-parts t f u = lies_in-walk t [] f u

-- a walk looks at what stands at the top, and then at the parts
pub flaw_lies_in-walk : (t : Tables) (p : Node → Bool) (u : Tree) → flaw_lies_in t p u ≡ flaw_lies_here t p u || flaw_lies_from t p (parts_of u) 0
unfolding flaw_lies_here flaw_lies_in flaw_lies_from
flaw_lies_in-walk t p u =
    ap (λ b. b || lies_in t [] WrongArgumentCount u || lies_in t [] WrongArgumentKind u || some_node p u) (lies_in-parts t UnknownItem u)
    ∙ ap (λ b. (lies_here t [] UnknownItem u || list_any (λ x. lies_in t [] UnknownItem x) (parts_of u)) || b || lies_in t [] WrongArgumentKind u || some_node p u) (lies_in-parts t WrongArgumentCount u)
    ∙ ap (λ b. (lies_here t [] UnknownItem u || list_any (λ x. lies_in t [] UnknownItem x) (parts_of u)) || (lies_here t [] WrongArgumentCount u || list_any (λ x. lies_in t [] WrongArgumentCount x) (parts_of u)) || b || some_node p u) (lies_in-parts t WrongArgumentKind u)
    ∙ ap (λ b. (lies_here t [] UnknownItem u || list_any (λ x. lies_in t [] UnknownItem x) (parts_of u)) || (lies_here t [] WrongArgumentCount u || list_any (λ x. lies_in t [] WrongArgumentCount x) (parts_of u)) || (lies_here t [] WrongArgumentKind u || list_any (λ x. lies_in t [] WrongArgumentKind x) (parts_of u)) || b) (some_node-parts p u)
    ∙ is_flawed-joined (λ f. lies_here t [] f u) (λ f. list_any (λ x. lies_in t [] f x) (parts_of u)) (p (node_of u)) (list_any (λ x. some_node p x) (parts_of u))
    ∙ ap (λ b. is_flawed (λ f. lies_here t [] f u) (p (node_of u)) || b) (is_flawed-any (λ f x. lies_in t [] f x) (λ x. some_node p x) (parts_of u))

pub ruleset flawing = (flaw_lies_in-walk, flaw_lies_from-more, flaw_lies_from-found, flaw_lies_from-end, tree_size-part)

args-each : (t : Tables) (p : Node → Bool) (args : List GenericArg) → is_flawed (λ f. lies_in_args t [] f args) (some_in_args p args) ≡ flaw_lies_in_args t p args
unfolding flaw_lies_in
args-each t p args = is_flawed-any (λ f a. lies_in t [] f (tree_of_arg a)) (λ a. some_node p (tree_of_arg a)) args

pub trait_ref-joined : (t : Tables) (p : Node → Bool) (r : TraitRef) →
    flaw_lies_in_trait_ref t p r ≡ is_flawed (λ f. own_fault t f r.def_id r.args.items) false || flaw_lies_in_args t p r.args.items
unfolding flaw_lies_in_trait_ref
trait_ref-joined t p r =
    is_flawed-joined (λ f. own_fault t f r.def_id r.args.items) (λ f. lies_in_args t [] f r.args.items) false (some_in_args p r.args.items)
    ∙ ap (λ b. is_flawed (λ f. own_fault t f r.def_id r.args.items) false || b) (args-each t p r.args.items)

without_second : (a b c d : Bool) → (a || false) || (b || false) || (c || false) || d ≡ a || b || c || d
without_second a b c d = simp or_false

-- none of these faults is that something const is said
pub const_ref-flawed : (t : Tables) (p : Node → Bool) (r : TraitRef) →
    is_flawed (λ f. lies_in_const_ref t [] f r) (some_in_args p r.args.items) ≡ flaw_lies_in_trait_ref t p r
unfolding const_fault flaw_lies_in_trait_ref
const_ref-flawed t p r =
    without_second (lies_in_trait_ref t [] UnknownItem r) (lies_in_trait_ref t [] WrongArgumentCount r) (lies_in_trait_ref t [] WrongArgumentKind r) (some_in_args p r.args.items)

-- what is so of the third fault alone
third : Bool → TermFault → Bool
third k UnknownItem = false
third k WrongArgumentCount = false
third k WrongArgumentKind = k
third k _ = false

with_third : (f : TermFault → Bool) (q k : Bool) → (f UnknownItem || false) || (f WrongArgumentCount || false) || (f WrongArgumentKind || k) || q ≡ is_flawed f q || k
unfolding third
with_third f q k =
    ap (λ b. (f UnknownItem || false) || (f WrongArgumentCount || false) || (f WrongArgumentKind || k) || b) (sym (or_false q))
    ∙ is_flawed-joined f (third k) q false
    ∙ ap (λ b. is_flawed f q || b) (or_false k)

pub equation-joined : (t : Tables) (p : Node → Bool) (a : AliasTerm) (e : Term) →
    flaw_lies_in_equation t p a e ≡ flaw_lies_in t p (tree_of_alias a) || flaw_lies_in t p (tree_of_term e) || kinds_differ WrongArgumentKind a e
unfolding flaw_lies_in flaw_lies_in_equation kinds_differ
equation-joined t p a e =
    with_third (λ f. lies_in t [] f (tree_of_alias a) || lies_in t [] f (tree_of_term e)) (some_in_equation p a e) (kinds_differ WrongArgumentKind a e)
    ∙ ap (λ b. b || kinds_differ WrongArgumentKind a e)
    (is_flawed-joined (λ f. lies_in t [] f (tree_of_alias a)) (λ f. lies_in t [] f (tree_of_term e)) (some_node p (tree_of_alias a)) (some_node p (tree_of_term e)))

pub trait-clause : (t : Tables) (p : Node → Bool) (q : TraitPredicate) → flaw_lies_in_clause_kind t p (clause.Trait q) ≡ flaw_lies_in_trait_ref t p q.trait_ref
unfolding lies_in_clause_kind flaw_lies_in_clause_kind flaw_lies_in_trait_ref
trait-clause t p q = refl

pub projection-clause : (t : Tables) (p : Node → Bool) (q : ProjectionPredicate) → flaw_lies_in_clause_kind t p (clause.Projection q) ≡ flaw_lies_in_equation t p q.projection_term q.term
unfolding lies_in_clause_kind flaw_lies_in_clause_kind flaw_lies_in_equation
projection-clause t p q = refl

pub effect-clause : (t : Tables) (p : Node → Bool) (q : HostEffectPredicate) → flaw_lies_in_clause_kind t p (clause.HostEffect q) ≡ flaw_lies_in_trait_ref t p q.trait_ref
unfolding lies_in_clause_kind flaw_lies_in_clause_kind
effect-clause t p q = const_ref-flawed t p q.trait_ref

env-each : (t : Tables) (p : Node → Bool) (env : List Clause) → is_flawed (λ f. lies_in_env t f env) (some_in_env p env) ≡ flaw_lies_in_env t p env
unfolding flaw_lies_in_clause_kind
env-each t p env = is_flawed-any (λ f c. lies_in_clause_kind t [] f c.kind) (λ c. some_in_clause_kind p c.kind) env

-- what lies in a goal lies in its predicate or in its environment
pub goal-joined : (t : Tables) (p : Node → Bool) (env : List Clause) (lies : TermFault → Bool) (passing : Bool) →
    is_flawed (λ f. lies f || lies_in_env t f env) (passing || some_in_env p env) ≡ is_flawed lies passing || flaw_lies_in_env t p env
goal-joined t p env lies passing =
    is_flawed-joined lies (λ f. lies_in_env t f env) passing (some_in_env p env) ∙ ap (λ b. is_flawed lies passing || b) (env-each t p env)

pub ruleset joining = (trait_ref-joined, equation-joined, trait-clause, projection-clause, effect-clause)

mutual
  unfolding lies_in lies_here

  -- nothing that a term says is const
  lies_in-never : (t : Tables) (ps : List ParamKind) (u : Tree) → lies_in t ps NeverConst u ≡ false
  lies_in-never t ps (node h ts) = lies_in_row-never t ps ts
  lies_in-never t ps (alias k ts) = lies_in_row-never t ps ts
  lies_in-never t ps (variable v) = refl

  lies_in_row-never : (t : Tables) (ps : List ParamKind) (ts : Trees) → lies_in_row t ps NeverConst ts ≡ false
  lies_in_row-never t ps none = refl
  lies_in_row-never t ps (more u us) = ap (λ b. b || lies_in_row t ps NeverConst us) (lies_in-never t ps u) ∙ lies_in_row-never t ps us

lies_in_args-never : (t : Tables) (ps : List ParamKind) (args : List GenericArg) → lies_in_args t ps NeverConst args ≡ false
lies_in_args-never t ps [] = refl
lies_in_args-never t ps (a ∷ args) = ap (λ b. b || lies_in_args t ps NeverConst args) (lies_in-never t ps (tree_of_arg a)) ∙ lies_in_args-never t ps args

pub trait_ref-never : (t : Tables) (r : TraitRef) → lies_in_trait_ref t [] NeverConst r ≡ false
unfolding own_fault
trait_ref-never t r = lies_in_args-never t [] r.args.items

pub const_ref-never : (t : Tables) (r : TraitRef) → lies_in_const_ref t [] NeverConst r ≡ denies_const t r.def_id
unfolding const_fault
const_ref-never t r = ap (λ b. b || denies_const t r.def_id) (trait_ref-never t r)

pub equation-never : (t : Tables) (a : AliasTerm) (e : Term) → lies_in_equation t [] NeverConst a e ≡ false
unfolding kinds_differ
equation-never t a e =
    ap (λ b. b || lies_in t [] NeverConst (tree_of_term e) || false) (lies_in-never t [] (tree_of_alias a))
    ∙ ap (λ b. b || false) (lies_in-never t [] (tree_of_term e))

-- which fault no predicate and no clause has, unless it says something const
pub ruleset telling = (trait_ref-never, const_ref-never, equation-never)
