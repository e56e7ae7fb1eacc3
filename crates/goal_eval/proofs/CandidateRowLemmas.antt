-- The impl of each candidate is the one that accepted tables have under its id.
use Rattle.std.proofs.Common.{◌≡◌, ◌==◌, ◌<◌, ℕ, zero, suc, Bool, true, false, cond, List, [], ◌∷◌, ◌++◌, length, map, get_or, Option, Some, None, refl, sym, subst, arith}
use Rattle.std.specs.Prelude.{filter}
use Rattle.std.specs.List.{All}
use Rattle.std.proofs.lemmas.List.Elements.{All-nil, All-cons, All-head, All-tail}
use Rattle.goal_terms.specs.Tree.{Tree, node, alias, variable, list_of, forest}
use Rattle.goal_terms.specs.declared.answers.TraitGoalProvenVia.{TraitGoalProvenVia}
use Rattle.goal_terms.specs.declared.answers.TraitGoalProvenVia.TheVariants as class
use Rattle.goal_terms.specs.declared.heads.Head.TheVariants.{Dynamic, DynTrait, DynProjection}
use Rattle.goal_terms.specs.declared.ids.TraitId.{TraitId}
use Rattle.goal_terms.specs.declared.predicates.Clause.{Clause}
use Rattle.goal_terms.specs.declared.terms.AliasTermKind.{AliasTermKind}
use Rattle.goal_terms.specs.declared.terms.AliasTermKind.TheVariants.{ProjectionTy, OpaqueTy}
use Rattle.goal_terms.specs.PredicateTrees.{tree_of_kind}
use Rattle.goal_tables.specs.Faults.{IsChecked}
use Rattle.goal_tables.specs.Rows.{impl_of, item_of, opaque_of}
use Rattle.goal_tables.specs.declared.rows.ConstBounds.{ConstBounds}
use Rattle.goal_tables.specs.declared.rows.ImplRow.{ImplRow}
use Rattle.goal_tables.specs.declared.rows.ItemRow.{ItemRow}
use Rattle.goal_tables.specs.declared.rows.OpaqueRow.{OpaqueRow}
use Rattle.goal_tables.specs.declared.rows.Tables.{Tables}
use Rattle.goal_lists.specs.Candidates.{Candidate, assumption, implied_bound, by_impl, built_in, error, bounds_under, const_bounds_under, item_bounds, opaque_bounds, bounds_of, bounds_of_alias, all_but_last, last_of, projects, object_bound, object_bounds_among, object_bounds, impls_for, environment, alias_bounds, rest, class_of, second_group}
use Rattle.goal_lists.specs.Fitting.{fitting, may_fit, About, passes, class_fitting}
use Rattle.goal_lists.specs.Interned.{candidate_at}
use Rattle.goal_lists.specs.NamedRows.{CandidateIsOf}
use Rattle.goal_lists.specs.Premises.{predicate_under, trait_under, traits_under}
use Rattle.goal_lists.specs.Settings.{Setting}
use Rattle.goal_lists.specs.Words.{Each}
use Rattle.goal_lists.specs.declared.candidates.interned.InternedCandidate.{InternedCandidate}
use Rattle.goal_lists.specs.declared.candidates.interned.InternedCandidate.TheVariants as candidates
use Rattle.goal_lists.proofs.FilteredWords.{each-kept}
use Rattle.goal_lists.proofs.FoundImplLemmas.{impl-found}
use Rattle.goal_eval.specs.SpecialImpls.{IsOfRows}

-- the impl of a candidate is the one of its id
abbrev pub IsOwn : Tables → Candidate → Type 0
IsOwn t (by_impl r) = impl_of t r.id ≡ Some r
IsOwn t _ = Unit {0}

-- of candidates in a row
own-append : (t : Tables) (xs ys : List Candidate) → Each (IsOwn t) xs → Each (IsOwn t) ys → Each (IsOwn t) (xs ++ ys)
unfolding Each
own-append t [] ys h k = k
own-append t (x ∷ xs) ys h k = (h.0, own-append t xs ys h.1 k)

own-mapped : {A : Type 0} (t : Tables) (f : A → Candidate) → ((x : A) → IsOwn t (f x)) → (xs : List A) → Each (IsOwn t) (map f xs)
unfolding Each
own-mapped t f h [] = tt
own-mapped t f h (x ∷ xs) = (h x, own-mapped t f h xs)

own-environment : (S : Setting) → Each (IsOwn S.tables) (environment S)
own-environment S = own-mapped S.tables assumption (λ p. tt) S.env

own-const_bounds : (t : Tables) (s : List Tree) (b : Option ConstBounds) → Each (IsOwn t) (const_bounds_under s b)
unfolding Each
own-const_bounds t s None = tt
own-const_bounds t s (Some b) = own-mapped t (λ r. implied_bound (trait_under s r) (traits_under s b.conditions.items)) (λ r. tt) b.implied.items

own-bounds : (t : Tables) (s : List Tree) (cs : List Clause) (b : Option ConstBounds) → Each (IsOwn t) (bounds_under s cs ++ const_bounds_under s b)
own-bounds t s cs b =
    own-append t (bounds_under s cs) (const_bounds_under s b) (own-mapped t (λ c. assumption (predicate_under s (tree_of_kind c.kind))) (λ c. tt) cs) (own-const_bounds t s b)

own-item : (t : Tables) (s : List Tree) (o : Option ItemRow) → Each (IsOwn t) (item_bounds s o)
unfolding Each
own-item t s None = tt
own-item t s (Some r) = own-bounds t s r.bounds.items r.const_bounds

own-opaque : (t : Tables) (s : List Tree) (o : Option OpaqueRow) → Each (IsOwn t) (opaque_bounds s o)
unfolding Each
own-opaque t s None = tt
own-opaque t s (Some r) = own-bounds t s r.bounds.items r.const_bounds

own-alias : (t : Tables) (k : AliasTermKind) (args : List Tree) (self : Tree) → Each (IsOwn t) (bounds_of_alias t k args self)
unfolding Each bounds_of_alias
own-alias t (ProjectionTy i) args self = own-item t (args ++ self ∷ []) (item_of t i)
own-alias t (OpaqueTy i) args self = own-opaque t (args ++ self ∷ []) (opaque_of t i)
own-alias t k args self = tt

own-alias_bounds : (t : Tables) (s : Tree) → Each (IsOwn t) (bounds_of t s)
unfolding Each bounds_of
own-alias_bounds t (node h ts) = tt
own-alias_bounds t (alias k ts) = own-alias t k (list_of ts) (alias k ts)
own-alias_bounds t (variable v) = tt

own-projects : (t : Tables) (a : Tree) (o : Option Tree) → Each (IsOwn t) (projects a o)
unfolding Each
own-projects t a None = tt
own-projects t a (Some u) = (tt, tt)

own-object_bound : (t : Tables) (self u : Tree) → Each (IsOwn t) (object_bound self u)
unfolding Each
own-object_bound t self (node (DynTrait i n) ts) = (tt, tt)
own-object_bound t self (node (DynProjection i n) ts) =
    own-projects t (alias (ProjectionTy i) (forest (self ∷ all_but_last (list_of ts)))) (last_of (list_of ts))
own-object_bound t self u = tt

own-among : (t : Tables) (self : Tree) (ts : List Tree) → Each (IsOwn t) (object_bounds_among self ts)
unfolding Each object_bounds_among
own-among t self [] = tt
own-among t self (u ∷ ts) = own-append t (object_bound self u) (object_bounds_among self ts) (own-object_bound t self u) (own-among t self ts)

own-objects : (t : Tables) (s : Tree) → Each (IsOwn t) (object_bounds s)
unfolding Each object_bounds
own-objects t (node (Dynamic n r) ts) = own-among t (node (Dynamic n r) ts) (list_of ts)
own-objects t s = tt

-- the impls of a trait are rows, each at its place
own-row : (t : Tables) (r : ImplRow) (kept : List ImplRow) (b : Bool) → impl_of t r.id ≡ Some r → Each (IsOwn t) (map by_impl kept) → Each (IsOwn t) (map by_impl (cond b (r ∷ kept) kept))
unfolding Each
own-row t r kept true p h = (p, h)
own-row t r kept false p h = h

own-rows : (t : Tables) (i : TraitId) (rows : List ImplRow) → All (λ r. impl_of t r.id ≡ Some r) rows → Each (IsOwn t) (map by_impl (filter (λ r. r.trait_id.0 == i.0) rows))
unfolding Each
own-rows t i [] h = tt
own-rows t i (r ∷ rows) h =
    own-row t r (filter (λ q. q.trait_id.0 == i.0) rows) (r.trait_id.0 == i.0) (All-head (λ q. impl_of t q.id ≡ Some q) r rows h)
    (own-rows t i rows (All-tail (λ q. impl_of t q.id ≡ Some q) r rows h))

same-there : (rows : List ImplRow) (k : ℕ) (d : ImplRow) → k < length rows → get_or rows k d ≡ get_or rows k (get_or rows k d)
same-there [] k d l = absurd (omega arith)
same-there (r ∷ rows) zero d l = refl
same-there (r ∷ rows) (suc k) d l = same-there rows k d (omega arith)

own-impls : (t : Tables) → IsChecked t → (i : TraitId) → Each (IsOwn t) (map by_impl (impls_for t i))
own-impls t checked i = own-rows t i t.impls.items (λ k d l. impl-found t checked k (get_or t.impls.items k d) l (same-there t.impls.items k d l))

own-rest : (S : Setting) → IsChecked S.tables → (i : TraitId) (s : Tree) → Each (IsOwn S.tables) (rest S i s)
unfolding Each
own-rest S checked i s =
    own-append S.tables (map by_impl (impls_for S.tables i) ++ built_in ∷ object_bounds s) (error ∷ [])
    (own-append S.tables (map by_impl (impls_for S.tables i)) (built_in ∷ object_bounds s) (own-impls S.tables checked i) (tt, own-objects S.tables s)) (tt, tt)

own-class : (S : Setting) → IsChecked S.tables → (i : TraitId) (s : Tree) (v : TraitGoalProvenVia) → Each (IsOwn S.tables) (class_of S i s v)
unfolding class_of
own-class S checked i s class.ParamEnv = own-environment S
own-class S checked i s class.AliasBound = own-alias_bounds S.tables s
own-class S checked i s class.Misc = own-rest S checked i s

own-second : (S : Setting) → IsChecked S.tables → (i : TraitId) (s : Tree) (v : TraitGoalProvenVia) → Each (IsOwn S.tables) (second_group S i s v)
unfolding second_group
own-second S checked i s class.ParamEnv = own-alias_bounds S.tables s
own-second S checked i s class.AliasBound = own-alias_bounds S.tables s
own-second S checked i s class.Misc = own-append S.tables (alias_bounds S s) (rest S i s) (own-alias_bounds S.tables s) (own-rest S checked i s)

-- so it is of candidates over numbers
own-at : (t : Tables) (T : List Tree) (x : InternedCandidate) → IsOwn t (candidate_at T x) → CandidateIsOf t x
own-at t T (candidates.Assumption p) h = tt
own-at t T (candidates.ImpliedBound b cs) h = tt
own-at t T (candidates.Impl r) h = h
own-at t T candidates.BuiltIn h = tt
own-at t T candidates.Error h = tt

own-first : (t : Tables) (y : Candidate) (ys : List Candidate) → Each (IsOwn t) (y ∷ ys) → IsOwn t y
unfolding Each
own-first t y ys h = h.0

own-later : (t : Tables) (y : Candidate) (ys : List Candidate) → Each (IsOwn t) (y ∷ ys) → Each (IsOwn t) ys
unfolding Each
own-later t y ys h = h.1

own-all : (t : Tables) (T : List Tree) (xs : List InternedCandidate) → (IsChecked t → Each (IsOwn t) (map (candidate_at T) xs)) → All (IsOfRows t) xs
own-all t T [] h = All-nil (IsOfRows t)
own-all t T (x ∷ xs) h =
    All-cons (IsOfRows t) x xs (λ checked. own-at t T x (own-first t (candidate_at T x) (map (candidate_at T) xs) (h checked)))
    (own-all t T xs (λ checked. own-later t (candidate_at T x) (map (candidate_at T) xs) (h checked)))

-- the candidates of a class, and of a second group, as far as they may fit
pub class-rows : (S : Setting) (T : List Tree) (s : Tree) (a : About) (v : TraitGoalProvenVia) (xs : List InternedCandidate) →
    map (candidate_at T) xs ≡ class_fitting S s a v → All (IsOfRows S.tables) xs
class-rows S T s a v xs e =
    own-all S.tables T xs (λ checked. subst (Each (IsOwn S.tables)) (sym e) (each-kept (IsOwn S.tables) (passes v a) (class_of S a.trait_id s v) (own-class S checked a.trait_id s v)))

pub second-rows : (S : Setting) (T : List Tree) (args : List Tree) (i : TraitId) (s : Tree) (v : TraitGoalProvenVia) (xs : List InternedCandidate) →
    map (candidate_at T) xs ≡ fitting args (second_group S i s v) → All (IsOfRows S.tables) xs
second-rows S T args i s v xs e =
    own-all S.tables T xs (λ checked. subst (Each (IsOwn S.tables)) (sym e) (each-kept (IsOwn S.tables) (may_fit args) (second_group S i s v) (own-second S checked i s v)))
