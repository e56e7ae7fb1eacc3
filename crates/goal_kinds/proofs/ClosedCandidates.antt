-- The candidates for a goal hold no inference variable where they give terms, over accepted tables and an environment without any.
use Rattle.std.proofs.Common.{◌≡◌, Bool, true, false, ◌==◌, cond, List, [], ◌∷◌, ◌++◌, map, filter, Option, Some, None, refl}
use Rattle.std.specs.List.{list_any}
use Rattle.goal_terms.specs.NodeTests.{is_any_infer, some_node}
use Rattle.goal_terms.specs.PredicateTrees.{PredicateTree, holds, equals, holds_const, tree_of_kind}
use Rattle.goal_terms.specs.Tree.{Tree, node, alias, variable, list_of, forest}
use Rattle.goal_terms.specs.TreeOf.{tree_of_alias, tree_of_term}
use Rattle.goal_terms.specs.declared.answers.ParamKind.{ParamKind}
use Rattle.goal_terms.specs.declared.answers.TraitGoalProvenVia.{TraitGoalProvenVia}
use Rattle.goal_terms.specs.declared.answers.TraitGoalProvenVia.TheVariants as class
use Rattle.goal_terms.specs.declared.heads.Head.TheVariants.{Dynamic, DynTrait, DynProjection}
use Rattle.goal_terms.specs.declared.ids.ItemId.{ItemId}
use Rattle.goal_terms.specs.declared.ids.OpaqueId.{OpaqueId}
use Rattle.goal_terms.specs.declared.ids.TraitId.{TraitId}
use Rattle.goal_terms.specs.declared.modes.TypingMode.{TypingMode}
use Rattle.goal_terms.specs.declared.predicates.Clause.{Clause}
use Rattle.goal_terms.specs.declared.predicates.ClauseKind.{ClauseKind}
use Rattle.goal_terms.specs.declared.predicates.ClauseKind.TheVariants as clause
use Rattle.goal_terms.specs.declared.predicates.TraitRef.{TraitRef}
use Rattle.goal_terms.specs.declared.terms.AliasTermKind.{AliasTermKind}
use Rattle.goal_terms.specs.declared.terms.AliasTermKind.TheVariants.{ProjectionTy, OpaqueTy}
use Rattle.goal_tables.specs.Clauses.{kinds_differ, lies_in_clause_kind, lies_in_clauses}
use Rattle.goal_tables.specs.Faults.{IsChecked}
use Rattle.goal_tables.specs.Predicates.{some_in_clause_kind, some_in_env}
use Rattle.goal_tables.specs.RowFaults.{lies_in_impl}
use Rattle.goal_tables.specs.Rows.{item_of, opaque_of}
use Rattle.goal_tables.specs.Sites.{lies_in}
use Rattle.goal_tables.specs.declared.rows.ConstBounds.{ConstBounds}
use Rattle.goal_tables.specs.declared.rows.ImplRow.{ImplRow}
use Rattle.goal_tables.specs.declared.rows.ItemRow.{ItemRow}
use Rattle.goal_tables.specs.declared.rows.OpaqueRow.{OpaqueRow}
use Rattle.goal_tables.specs.declared.rows.Tables.{Tables}
use Rattle.goal_tables.specs.declared.faults.TermFault.TheVariants.{InferInTable}
use Rattle.goal_lists.specs.Answers.{erased_predicate, environment_of, setting_of}
use Rattle.goal_lists.specs.Candidates.{Candidate, assumption, implied_bound, by_impl, built_in, error, bounds_under, const_bounds_under, item_bounds, opaque_bounds, bounds_of_alias, bounds_of, all_but_last, last_of, projects, object_bound, object_bounds_among, object_bounds, impls_for, environment, alias_bounds, rest, second_group}
use Rattle.goal_lists.specs.Premises.{TraitTree, predicate_under, trait_under, traits_under}
use Rattle.goal_lists.specs.Settings.{Setting}
use Rattle.goal_lists.specs.TraitGoals.{header_of}
use Rattle.goal_lists.specs.Words.{Each}
use Rattle.goal_kinds.proofs.ClosedRows.{closed-accepted, closed-header}
use Rattle.goal_kinds.proofs.FaultlessRows.{three_fail, impls_fail, bounds_of_item_fail, bounds_of_opaque_fail}
use Rattle.goal_kinds.proofs.ClosedTerms.{IsClosedTree, AreClosedTrees, HoldsClosedTree, closed-list, closed-append, closed-last, closed-erased, closed-under}
use Rattle.goal_lists.proofs.TableKindLemmas.{both_fail}

-- the term that a clause says an alias to have holds no inference variable
abbrev pub SaysClosed : PredicateTree → Type 0
SaysClosed (holds i ts) = Unit {0}
SaysClosed (equals a u) = IsClosedTree u
SaysClosed (holds_const c i ts) = Unit {0}

-- neither does what a candidate gives a term by
abbrev pub IsClosedCandidate : Candidate → Type 0
IsClosedCandidate (assumption p) = SaysClosed p
IsClosedCandidate (implied_bound b cs) = Unit {0}
IsClosedCandidate (by_impl r) = AreClosedTrees (header_of r)
IsClosedCandidate built_in = Unit {0}
IsClosedCandidate error = Unit {0}

-- accepted tables, and an environment whose clauses say no inference variable to be a term
pub record IsClosedSetting (S : Setting) : Type 0 where
  pub checked : IsChecked S.tables
  pub env : Each SaysClosed S.env

-- what holds of the elements of two lists
pub each-append : {A : Type 0} (P : A → Type 0) (xs ys : List A) → Each P xs → Each P ys → Each P (xs ++ ys)
unfolding Each
each-append P [] ys all others = others
each-append P (x ∷ xs) ys all others = (all.0, each-append P xs ys all.1 others)

-- a clause of a row under arguments
closed-kind_under : (t : Tables) (ps : List ParamKind) (s : List Tree) → AreClosedTrees s → (c : ClauseKind) →
    lies_in_clause_kind t ps InferInTable c ≡ false → SaysClosed (predicate_under s (tree_of_kind c))
unfolding lies_in_clause_kind
closed-kind_under t ps s all (clause.Trait q) e = tt
closed-kind_under t ps s all (clause.Projection q) e =
    closed-under s all (tree_of_term q.term)
    (closed-accepted t ps (tree_of_term q.term)
    (three_fail (lies_in t ps InferInTable (tree_of_alias q.projection_term)) (lies_in t ps InferInTable (tree_of_term q.term))
    (kinds_differ InferInTable q.projection_term q.term) e).1)
closed-kind_under t ps s all (clause.HostEffect q) e = tt

-- the bounds of a row under arguments
closed-bounds_under : (t : Tables) (ps : List ParamKind) (s : List Tree) → AreClosedTrees s → (cs : List Clause) →
    lies_in_clauses t ps InferInTable cs ≡ false → Each IsClosedCandidate (bounds_under s cs)
unfolding Each
closed-bounds_under t ps s all [] e = tt
closed-bounds_under t ps s all (c ∷ cs) e =
    let each : (lies_in_clause_kind t ps InferInTable c.kind ≡ false) × (lies_in_clauses t ps InferInTable cs ≡ false) =
    both_fail (lies_in_clause_kind t ps InferInTable c.kind) (lies_in_clauses t ps InferInTable cs) e in
    (closed-kind_under t ps s all c.kind each.0, closed-bounds_under t ps s all cs each.1)

-- const bounds give no term
closed-implied : (s : List Tree) (conditions : List TraitTree) (rs : List TraitRef) → Each IsClosedCandidate (map (λ r. implied_bound (trait_under s r) conditions) rs)
unfolding Each
closed-implied s conditions [] = tt
closed-implied s conditions (r ∷ rs) = (tt, closed-implied s conditions rs)

closed-const_bounds : (s : List Tree) (o : Option ConstBounds) → Each IsClosedCandidate (const_bounds_under s o)
unfolding Each
closed-const_bounds s None = tt
closed-const_bounds s (Some b) = closed-implied s (traits_under s b.conditions.items) b.implied.items

-- the bounds of an alias
closed-item_bounds : (t : Tables) → IsChecked t → (i : ItemId) (s : List Tree) → AreClosedTrees s → (o : Option ItemRow) → item_of t i ≡ o →
    Each IsClosedCandidate (item_bounds s o)
unfolding Each
closed-item_bounds t ok i s all None e = tt
closed-item_bounds t ok i s all (Some r) e =
    each-append IsClosedCandidate (bounds_under s r.bounds.items) (const_bounds_under s r.const_bounds)
    (closed-bounds_under t _ s all r.bounds.items (bounds_of_item_fail t ok InferInTable i r e)) (closed-const_bounds s r.const_bounds)

closed-opaque_bounds : (t : Tables) → IsChecked t → (i : OpaqueId) (s : List Tree) → AreClosedTrees s → (o : Option OpaqueRow) → opaque_of t i ≡ o →
    Each IsClosedCandidate (opaque_bounds s o)
unfolding Each
closed-opaque_bounds t ok i s all None e = tt
closed-opaque_bounds t ok i s all (Some r) e =
    each-append IsClosedCandidate (bounds_under s r.bounds.items) (const_bounds_under s r.const_bounds)
    (closed-bounds_under t _ s all r.bounds.items (bounds_of_opaque_fail t ok InferInTable i r e)) (closed-const_bounds s r.const_bounds)

closed-bounds_of_alias : (t : Tables) → IsChecked t → (k : AliasTermKind) (args : List Tree) (self : Tree) → AreClosedTrees (args ++ self ∷ []) →
    Each IsClosedCandidate (bounds_of_alias t k args self)
unfolding bounds_of_alias Each
closed-bounds_of_alias t ok (ProjectionTy i) args self all = closed-item_bounds t ok i (args ++ self ∷ []) all (item_of t i) refl
closed-bounds_of_alias t ok (OpaqueTy i) args self all = closed-opaque_bounds t ok i (args ++ self ∷ []) all (opaque_of t i) refl
closed-bounds_of_alias t ok k args self all = tt

closed-bounds_of : (t : Tables) → IsChecked t → (s : Tree) → IsClosedTree s → Each IsClosedCandidate (bounds_of t s)
unfolding bounds_of some_node Each
closed-bounds_of t ok (node h ts) e = tt
closed-bounds_of t ok (alias k ts) e =
    closed-bounds_of_alias t ok k (list_of ts) (alias k ts) (closed-append (list_of ts) (alias k ts ∷ []) (closed-list ts e) (e, tt))
closed-bounds_of t ok (variable v) e = tt

-- what a clause of a `dyn` type says
closed-projects : (a : Tree) (o : Option Tree) → HoldsClosedTree o → Each IsClosedCandidate (projects a o)
unfolding Each
closed-projects a None e = tt
closed-projects a (Some u) e = (e, tt)

closed-object_bound : (self t : Tree) → IsClosedTree t → Each IsClosedCandidate (object_bound self t)
unfolding some_node Each
closed-object_bound self (node (DynTrait i n) ts) e = (tt, tt)
closed-object_bound self (node (DynProjection i n) ts) e =
    closed-projects (alias (ProjectionTy i) (forest (self ∷ all_but_last (list_of ts)))) (last_of (list_of ts)) (closed-last (list_of ts) (closed-list ts e))
closed-object_bound self t e = tt

closed-object_bounds_among : (self : Tree) (ts : List Tree) → AreClosedTrees ts → Each IsClosedCandidate (object_bounds_among self ts)
unfolding object_bounds_among Each
closed-object_bounds_among self [] all = tt
closed-object_bounds_among self (t ∷ ts) all =
    each-append IsClosedCandidate (object_bound self t) (object_bounds_among self ts) (closed-object_bound self t all.0) (closed-object_bounds_among self ts all.1)

closed-object_bounds : (s : Tree) → IsClosedTree s → Each IsClosedCandidate (object_bounds s)
unfolding object_bounds some_node Each
closed-object_bounds (node (Dynamic n r) ts) e = closed-object_bounds_among (node (Dynamic n r) ts) (list_of ts) (closed-list ts e)
closed-object_bounds t e = tt

-- the impls of a trait
closed-kept_impl : (b : Bool) (r : ImplRow) (rs : List ImplRow) → AreClosedTrees (header_of r) → Each IsClosedCandidate (map by_impl rs) →
    Each IsClosedCandidate (map by_impl (cond b (r ∷ rs) rs))
unfolding Each
closed-kept_impl true r rs e all = (e, all)
closed-kept_impl false r rs e all = all

closed-filtered : (t : Tables) (test : ImplRow → Bool) (rs : List ImplRow) → list_any (λ q. lies_in_impl t InferInTable q) rs ≡ false →
    Each IsClosedCandidate (map by_impl (filter test rs))
unfolding Each
closed-filtered t test [] e = tt
closed-filtered t test (r ∷ rs) e =
    let each : (lies_in_impl t InferInTable r ≡ false) × (list_any (λ q. lies_in_impl t InferInTable q) rs ≡ false) =
    both_fail (lies_in_impl t InferInTable r) (list_any (λ q. lies_in_impl t InferInTable q) rs) e in
    closed-kept_impl (test r) r (filter test rs) (closed-header t r each.0) (closed-filtered t test rs each.1)

closed-rest : (S : Setting) → IsClosedSetting S → (i : TraitId) (s : Tree) → IsClosedTree s → Each IsClosedCandidate (rest S i s)
unfolding Each
closed-rest S c i s e =
    each-append IsClosedCandidate (map by_impl (impls_for S.tables i) ++ built_in ∷ object_bounds s) (error ∷ [])
    (each-append IsClosedCandidate (map by_impl (impls_for S.tables i)) (built_in ∷ object_bounds s)
    (closed-filtered S.tables (λ r. r.trait_id.0 == i.0) S.tables.impls.items (impls_fail S.tables c.checked InferInTable)) (tt, closed-object_bounds s e))
    (tt, tt)

-- the candidates of the environment
closed-assumptions : (ps : List PredicateTree) → Each SaysClosed ps → Each IsClosedCandidate (map assumption ps)
unfolding Each
closed-assumptions [] all = tt
closed-assumptions (p ∷ ps) all = (all.0, closed-assumptions ps all.1)

pub closed-environment : (S : Setting) → IsClosedSetting S → Each IsClosedCandidate (environment S)
closed-environment S c = closed-assumptions S.env c.env

-- those after the environment
pub closed-second_group : (S : Setting) → IsClosedSetting S → (i : TraitId) (s : Tree) → IsClosedTree s → (v : TraitGoalProvenVia) →
    Each IsClosedCandidate (second_group S i s v)
unfolding second_group
closed-second_group S c i s e class.ParamEnv = closed-bounds_of S.tables c.checked s e
closed-second_group S c i s e class.AliasBound = closed-bounds_of S.tables c.checked s e
closed-second_group S c i s e class.Misc =
    each-append IsClosedCandidate (alias_bounds S s) (rest S i s) (closed-bounds_of S.tables c.checked s e) (closed-rest S c i s e)

-- a clause without inference variables says none to be a term
closed-erased_kind : (c : ClauseKind) → some_in_clause_kind is_any_infer c ≡ false → SaysClosed (erased_predicate (tree_of_kind c))
closed-erased_kind (clause.Trait q) e = tt
closed-erased_kind (clause.Projection q) e =
    closed-erased (tree_of_term q.term) (both_fail (some_node is_any_infer (tree_of_alias q.projection_term)) (some_node is_any_infer (tree_of_term q.term)) e).1
closed-erased_kind (clause.HostEffect q) e = tt

closed-clauses : (cs : List Clause) → some_in_env is_any_infer cs ≡ false → Each SaysClosed (environment_of cs)
unfolding Each
closed-clauses [] e = tt
closed-clauses (c ∷ cs) e =
    let each : (some_in_clause_kind is_any_infer c.kind ≡ false) × (some_in_env is_any_infer cs ≡ false) =
    both_fail (some_in_clause_kind is_any_infer c.kind) (some_in_env is_any_infer cs) e in
    (closed-erased_kind c.kind each.0, closed-clauses cs each.1)

-- the setting of accepted tables and an environment without inference variables
pub closed-setting : (t : Tables) (m : TypingMode) (cs : List Clause) → IsChecked t → some_in_env is_any_infer cs ≡ false → IsClosedSetting (setting_of t m cs)
closed-setting t m cs ok e = record { checked = ok; env = closed-clauses cs e }
