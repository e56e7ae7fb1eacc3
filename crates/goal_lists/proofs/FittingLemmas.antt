-- The candidates that may fit: those of each class, and that the others are refuted.
use Rattle.std.proofs.Common.{◌≡◌, ◌≢◌, ◌⊎◌, ◌&&◌, ◌<◌, ◌≤◌, ◌+◌, ℕ, zero, suc, true, false, cond, List, [], ◌∷◌, ◌++◌, length, map, get_or, take, Option, Some, None, refl, sym, ap, ap₂, ◌∙◌, subst, inl, inr, arith, true≢false, eq-eqb}
use Rattle.std.specs.Prelude.{slice_get}
use Rattle.std.proofs.lemmas.List.Elements.{All-weaker, All-head, All-tail, filter-append}
use Rattle.goal_terms.specs.Erased.{erased}
use Rattle.goal_interner.specs.TableMeaning.{tree_at, AreBelow}
use Rattle.goal_terms.specs.Tree.{Tree, node, alias, variable, list_of, forest}
use Rattle.goal_terms.specs.TreeOf.{trees_of}
use Rattle.goal_terms.specs.PredicateTrees.{PredicateTree, holds, equals, holds_const, tree_of_kind}
use Rattle.goal_terms.specs.declared.answers.TraitGoalProvenVia.{TraitGoalProvenVia}
use Rattle.goal_terms.specs.declared.answers.TraitGoalProvenVia.TheVariants as class
use Rattle.goal_terms.specs.declared.heads.Head.TheVariants.{Dynamic, DynTrait, DynProjection}
use Rattle.goal_terms.specs.declared.ids.ItemId.{ItemId}
use Rattle.goal_terms.specs.declared.ids.TraitId.{TraitId}
use Rattle.goal_terms.specs.declared.predicates.BoundConstness.{BoundConstness}
use Rattle.goal_terms.specs.declared.predicates.Clause.{Clause}
use Rattle.goal_interner.specs.declared.term_nodes.TermId.{TermId}
use Rattle.goal_terms.specs.declared.terms.AliasTermKind.{AliasTermKind}
use Rattle.goal_terms.specs.declared.terms.AliasTermKind.TheVariants.{ProjectionTy, OpaqueTy}
use Rattle.goal_tables.specs.Rows.{item_of, opaque_of}
use Rattle.goal_tables.specs.declared.rows.ConstBounds.{ConstBounds}
use Rattle.goal_tables.specs.declared.rows.ImplRow.{ImplRow}
use Rattle.goal_tables.specs.declared.rows.ItemRow.{ItemRow}
use Rattle.goal_tables.specs.declared.rows.OpaqueRow.{OpaqueRow}
use Rattle.goal_tables.specs.declared.rows.Tables.{Tables}
use Rattle.goal_lists.specs.Candidates.{Candidate, assumption, implied_bound, by_impl, built_in, error, bounds_under, const_bounds_under, item_bounds, opaque_bounds, bounds_of, bounds_of_alias, all_but_last, last_of, projects, object_bound, object_bounds_among, object_bounds, impls_for, alias_bounds, rest}
use Rattle.goal_lists.specs.ConstGoals.{ConstAssumptionRefuted, ConstImplRefuted, ConstCandidateRefuted}
use Rattle.goal_lists.specs.FastReject.{heads_agree}
use Rattle.goal_lists.specs.Fitting.{trees_at, may_fit, fitting, About, about_trait, is_item, alias_may_fit, clause_may_fit, near, passes}
use Rattle.goal_lists.specs.Headers.{Known, Clashes}
use Rattle.goal_lists.specs.ImplTerms.{Projection, trait_args, ImplTermRefuted}
use Rattle.goal_lists.specs.Interned.{IsIn, AreIn, erased_at, erased_all}
use Rattle.goal_lists.specs.Level.{nothing}
use Rattle.goal_lists.specs.Levels.{level}
use Rattle.goal_lists.specs.Premises.{predicate_under, trait_under, traits_under}
use Rattle.goal_lists.specs.Projections.{projected_item, EquationRefuted, AssumptionTermRefuted, TermRefuted}
use Rattle.goal_lists.specs.Settings.{Setting}
use Rattle.goal_lists.specs.TraitGoals.{header_of, AssumptionRefuted, ImplRefuted, CandidateRefuted}
use Rattle.goal_lists.specs.TraitLists.{is_trait}
use Rattle.goal_lists.specs.Words.{SomePair}
use Rattle.goal_lists.specs.declared.fast_reject.Parameters.TheVariants.{Rigid, Inferred}
use Rattle.goal_lists.proofs.GrowingLists.{one-passing, all-passing}
use Rattle.goal_lists.proofs.ListWords.{test-fails, trait-tested}
use Rattle.goal_lists.proofs.OtherHeadLemmas.{one_fails, lists_clash, list_unequal, heads_agree-erased}
use Rattle.goal_lists.proofs.RowTermLemmas.{erased-list}
use Rattle.goal_lists.proofs.PlaceLists.{places-length, at-place}

-- numbers of arguments are numbers of the table, and so are those of their parts
pub are_below : (T : List Tree) (ids : List TermId) → AreIn T ids → AreBelow (length T) ids
are_below T ids h = All-weaker (IsIn T) (λ id. id.0 < length T) (λ id k. k.0) ids h

pub parts_below : (T : List Tree) (n : ℕ) (ids : List TermId) → n < length T → AreBelow n ids → AreBelow (length T) ids
parts_below T n ids l h = All-weaker (λ id. id.0 < n) (λ id. id.0 < length T) (λ id k. omega arith) ids h

-- the number at a place, and its term
pub below-at : (n : ℕ) (ids : List TermId) (i : ℕ) (d : TermId) → AreBelow n ids → i < length ids → (get_or ids i d).0 < n
below-at n [] i d h l = absurd (omega arith)
below-at n (x ∷ ids) zero d h l = All-head (λ j. j.0 < n) x ids h
below-at n (x ∷ ids) (suc i) d h l = below-at n ids i d (All-tail (λ j. j.0 < n) x ids h) (omega arith)

pub tree-among : (T : List Tree) (ids : List TermId) (i : ℕ) (d : TermId) → i < length ids → slice_get (trees_at T ids) i ≡ Some (tree_at T (get_or ids i d))
tree-among T [] i d l = absurd (omega arith)
tree-among T (x ∷ ids) zero d l = refl
tree-among T (x ∷ ids) (suc i) d l = tree-among T ids i d (omega arith)

-- terms without lifetimes
pub trees-erased : (T : List Tree) (ids : List TermId) → map erased (trees_at T ids) ≡ erased_all T ids
trees-erased T [] = refl
trees-erased T (id ∷ ids) = ap (λ ts. erased_at T id ∷ ts) (trees-erased T ids)

-- the impl at the next of some places
pub next-fitting : (rows impls : List ImplRow) (args : List Tree) (places : List ℕ) (front so_far all : List Candidate) (r : ImplRow) (n : ℕ) →
    map (slice_get rows) places ≡ map Some impls → n < length places → slice_get rows (get_or places n 0) ≡ Some r →
    so_far ≡ front ++ fitting args (map by_impl (take n impls)) → all ≡ so_far ++ fitting args (by_impl r ∷ []) →
    all ≡ front ++ fitting args (map by_impl (take (n + 1) impls))
next-fitting rows impls args places front so_far all r n h l here so e =
    one-passing by_impl (may_fit args) front so_far all impls r n (omega (arith, places-length rows places impls h)) (at-place rows places impls n r h l here) so e

-- all impls at the places
pub all-fitting : (rows impls : List ImplRow) (args : List Tree) (places : List ℕ) (front all : List Candidate) (n : ℕ) →
    map (slice_get rows) places ≡ map Some impls → length places ≤ n →
    all ≡ front ++ fitting args (map by_impl (take n impls)) → all ≡ front ++ fitting args (map by_impl impls)
all-fitting rows impls args places front all n h l so =
    all-passing by_impl (may_fit args) front all impls n (omega (arith, places-length rows places impls h)) so

-- lists of which all may fit, put together
both-fit : (args : List Tree) (xs ys : List Candidate) → fitting args xs ≡ xs → fitting args ys ≡ ys → fitting args (xs ++ ys) ≡ xs ++ ys
both-fit args xs ys e f = filter-append (may_fit args) xs ys ∙ ap₂ (λ us vs. us ++ vs) e f

fitting-mapped : {X : Type 0} (args : List Tree) (f : X → Candidate) → ((x : X) → may_fit args (f x) ≡ true) → (xs : List X) → fitting args (map f xs) ≡ map f xs
fitting-mapped args f h [] = refl
fitting-mapped args f h (x ∷ xs) =
    ap (λ b. cond b (f x ∷ fitting args (map f xs)) (fitting args (map f xs))) (h x) ∙ ap (λ ys. f x ∷ ys) (fitting-mapped args f h xs)

-- all bounds may fit
fitting-bounds_under : (args s : List Tree) (cs : List Clause) → fitting args (bounds_under s cs) ≡ bounds_under s cs
fitting-bounds_under args s cs = fitting-mapped args (λ c. assumption (predicate_under s (tree_of_kind c.kind))) (λ c. refl) cs

fitting-const_bounds : (args s : List Tree) (o : Option ConstBounds) → fitting args (const_bounds_under s o) ≡ const_bounds_under s o
fitting-const_bounds args s None = refl
fitting-const_bounds args s (Some b) = fitting-mapped args (λ r. implied_bound (trait_under s r) (traits_under s b.conditions.items)) (λ r. refl) b.implied.items

fitting-item_bounds : (args s : List Tree) (o : Option ItemRow) → fitting args (item_bounds s o) ≡ item_bounds s o
fitting-item_bounds args s None = refl
fitting-item_bounds args s (Some r) =
    both-fit args (bounds_under s r.bounds.items) (const_bounds_under s r.const_bounds) (fitting-bounds_under args s r.bounds.items) (fitting-const_bounds args s r.const_bounds)

fitting-opaque_bounds : (args s : List Tree) (o : Option OpaqueRow) → fitting args (opaque_bounds s o) ≡ opaque_bounds s o
fitting-opaque_bounds args s None = refl
fitting-opaque_bounds args s (Some r) =
    both-fit args (bounds_under s r.bounds.items) (const_bounds_under s r.const_bounds) (fitting-bounds_under args s r.bounds.items) (fitting-const_bounds args s r.const_bounds)

fitting-alias : (args : List Tree) (t : Tables) (k : AliasTermKind) (ts : List Tree) (self : Tree) → fitting args (bounds_of_alias t k ts self) ≡ bounds_of_alias t k ts self
unfolding bounds_of_alias
fitting-alias args t (ProjectionTy i) ts self = fitting-item_bounds args (ts ++ self ∷ []) (item_of t i)
fitting-alias args t (OpaqueTy i) ts self = fitting-opaque_bounds args (ts ++ self ∷ []) (opaque_of t i)
fitting-alias args t k ts self = refl

pub fitting-bounds : (args : List Tree) (S : Setting) (s : Tree) → fitting args (alias_bounds S s) ≡ alias_bounds S s
unfolding bounds_of
fitting-bounds args S (node h ts) = refl
fitting-bounds args S (alias k ts) = fitting-alias args S.tables k (list_of ts) (alias k ts)
fitting-bounds args S (variable v) = refl

-- and what a `dyn` self type says
fitting-projects : (args : List Tree) (a : Tree) (o : Option Tree) → fitting args (projects a o) ≡ projects a o
fitting-projects args a None = refl
fitting-projects args a (Some u) = refl

fitting-object : (args : List Tree) (self t : Tree) → fitting args (object_bound self t) ≡ object_bound self t
fitting-object args self (node (DynTrait i n) ts) = refl
fitting-object args self (node (DynProjection i n) ts) =
    fitting-projects args (alias (ProjectionTy i) (forest (self ∷ all_but_last (list_of ts)))) (last_of (list_of ts))
fitting-object args self t = refl

fitting-among : (args : List Tree) (self : Tree) (ts : List Tree) → fitting args (object_bounds_among self ts) ≡ object_bounds_among self ts
unfolding object_bounds_among
fitting-among args self [] = refl
fitting-among args self (t ∷ ts) = both-fit args (object_bound self t) (object_bounds_among self ts) (fitting-object args self t) (fitting-among args self ts)

fitting-objects : (args : List Tree) (s : Tree) → fitting args (object_bounds s) ≡ object_bounds s
unfolding object_bounds
fitting-objects args (node (Dynamic n r) ts) = fitting-among args (node (Dynamic n r) ts) (list_of ts)
fitting-objects args s = refl

-- the rest: the impls that may fit, and all others
pub fitting-rest : (args : List Tree) (S : Setting) (i : TraitId) (s : Tree) →
    fitting args (rest S i s) ≡ fitting args (map by_impl (impls_for S.tables i)) ++ built_in ∷ object_bounds s ++ error ∷ []
fitting-rest args S i s =
    let is : List Candidate = map by_impl (impls_for S.tables i) in
    filter-append (may_fit args) (is ++ built_in ∷ object_bounds s) (error ∷ [])
    ∙ ap (λ xs. xs ++ error ∷ [])
    (filter-append (may_fit args) is (built_in ∷ object_bounds s) ∙ ap (λ xs. fitting args is ++ built_in ∷ xs) (fitting-objects args s))

-- a clause that can't be about what is looked for says nothing of it, whatever the height
level-unequal : (S : Setting) (n : ℕ) (gs us : List Tree) → heads_agree Rigid gs us ≡ false → SomePair (level S n).unequal us (map erased gs)
unfolding level
level-unequal S zero gs us e = list_unequal nothing gs us e
level-unequal S (suc n) gs us e = list_unequal (level S n) gs us e

other_trait : (S : Setting) (n : ℕ) (i j : TraitId) (args bs : List Tree) → is_trait j i && heads_agree Rigid args bs ≡ false →
    (j ≢ i) ⊎ SomePair (level S n).unequal bs (map erased args)
other_trait S n i j args bs e =
    elim (one_fails (is_trait j i) (heads_agree Rigid args bs) e) [ inl f ↦ inl ((test-fails (is_trait j i) (trait-tested j i)).0 f) | inr f ↦ inr (level-unequal S n args bs f) ]

clause_refuted : (S : Setting) (n : ℕ) (i : TraitId) (args : List Tree) (p : PredicateTree) → clause_may_fit (about_trait i args) p ≡ false →
    AssumptionRefuted (level S n) i (map erased args) p
unfolding AssumptionRefuted
clause_refuted S n i args (holds j bs) e = other_trait S n i j args bs e
clause_refuted S n i args (holds_const c j bs) e = tt
clause_refuted S n i args (equals a t) e = tt

const_clause_refuted : (S : Setting) (n : ℕ) (c : BoundConstness) (i : TraitId) (args : List Tree) (p : PredicateTree) → clause_may_fit (about_trait i args) p ≡ false →
    ConstAssumptionRefuted (level S n) c i (map erased args) p
unfolding ConstAssumptionRefuted
const_clause_refuted S n c i args (holds j bs) e = tt
const_clause_refuted S n c i args (holds_const b j bs) e = elim (other_trait S n i j args bs e) [ inl f ↦ inl f | inr h ↦ inr (inr h) ]
const_clause_refuted S n c i args (equals a t) e = tt

-- an item that isn't this one
other_item : (q : ItemId) (o : Option ItemId) → is_item q o ≡ false → o ≢ Some q
other_item q None e f = cc
other_item q (Some i) e f =
    let same : i ≡ q = cc in
    true≢false (sym (eq-eqb i.0 q.0 (ap (λ k. k.0) same)) ∙ e)

equation_refuted : (S : Setting) (n : ℕ) (p : Projection) (args : List Tree) → map erased args ≡ p.args → (a v : Tree) → alias_may_fit p.item.id args a ≡ false → EquationRefuted (level S n) p a v
unfolding EquationRefuted
equation_refuted S n p args same (alias k bs) v e =
    elim (one_fails (is_item p.item.id (projected_item k)) (heads_agree Rigid args (list_of bs)) e)
    [ inl f ↦ inl (other_item p.item.id (projected_item k) f) | inr f ↦ inr (inl (subst (SomePair (level S n).unequal (list_of bs)) same (level-unequal S n args (list_of bs) f))) ]
equation_refuted S n p args same (node h bs) v e = tt
equation_refuted S n p args same (variable x) v e = tt

-- what is looked for of a projection
abbrev pub about_projection : TraitId → Projection → List Tree → About
about_projection i p args = record { trait_id = i; item = Some p.item.id; args = args }

term_clause_refuted : (S : Setting) (n : ℕ) (i : TraitId) (p : Projection) (args : List Tree) → map erased args ≡ p.args → (q : PredicateTree) → clause_may_fit (about_projection i p args) q ≡ false →
    AssumptionTermRefuted (level S n) p q
unfolding AssumptionTermRefuted
term_clause_refuted S n i p args same (holds j bs) e = tt
term_clause_refuted S n i p args same (holds_const c j bs) e = tt
term_clause_refuted S n i p args same (equals a v) e = equation_refuted S n p args same a v e

-- so its candidate is refuted for a trait, also as a const trait, and for a projection's term
near_refuted : (S : Setting) (n : ℕ) (i : TraitId) (args : List Tree) (x : Candidate) → near (about_trait i args) x ≡ false → CandidateRefuted S (level S n) i (map erased args) x
unfolding CandidateRefuted
near_refuted S n i args (assumption p) e = clause_refuted S n i args p e
near_refuted S n i args (implied_bound b cs) e = absurd (true≢false e)
near_refuted S n i args (by_impl r) e = absurd (true≢false e)
near_refuted S n i args built_in e = absurd (true≢false e)
near_refuted S n i args error e = absurd (true≢false e)

near_const_refuted : (S : Setting) (n : ℕ) (c : BoundConstness) (i : TraitId) (args : List Tree) (x : Candidate) → near (about_trait i args) x ≡ false →
    ConstCandidateRefuted S (level S n) c i (map erased args) x
unfolding ConstCandidateRefuted
near_const_refuted S n c i args (assumption p) e = const_clause_refuted S n c i args p e
near_const_refuted S n c i args (implied_bound b cs) e = absurd (true≢false e)
near_const_refuted S n c i args (by_impl r) e = absurd (true≢false e)
near_const_refuted S n c i args built_in e = absurd (true≢false e)
near_const_refuted S n c i args error e = absurd (true≢false e)

pub near_term_refuted : (S : Setting) (n : ℕ) (i : TraitId) (p : Projection) (args : List Tree) → map erased args ≡ p.args → (x : Candidate) → near (about_projection i p args) x ≡ false →
    TermRefuted S (level S n) p x
unfolding TermRefuted
near_term_refuted S n i p args same (assumption q) e = term_clause_refuted S n i p args same q e
near_term_refuted S n i p args same (implied_bound b cs) e = absurd (true≢false e)
near_term_refuted S n i p args same (by_impl r) e = absurd (true≢false e)
near_term_refuted S n i p args same built_in e = absurd (true≢false e)
near_term_refuted S n i p args same error e = absurd (true≢false e)

-- an impl whose header has another head is refuted, whatever the height
level-clash : (S : Setting) (n : ℕ) (K : ℕ → Tree → Type 0) (gs hs : List Tree) → heads_agree Inferred gs hs ≡ false →
    SomePair ((level S n).clash K) (map erased hs) (map erased gs)
unfolding level
level-clash S zero K gs hs e = lists_clash nothing K gs hs e
level-clash S (suc n) K gs hs e = lists_clash (level S n) K gs hs e

pub impl_refuted : (S : Setting) (n : ℕ) (args : List Tree) (r : ImplRow) → may_fit args (by_impl r) ≡ false → ImplRefuted S.mode (level S n) (map erased args) r
unfolding ImplRefuted Clashes
impl_refuted S n args r e = inr (inl (level-clash S n (Known (level S n) r.params.items (header_of r) (map erased args)) args (trees_of r.trait_args.items) e))

-- so are its candidate for a trait, also as a const trait, and for a projection's term
pub candidate_refuted : (S : Setting) (n : ℕ) (i : TraitId) (args : List Tree) (x : Candidate) → may_fit args x ≡ false → CandidateRefuted S (level S n) i (map erased args) x
unfolding CandidateRefuted
candidate_refuted S n i args (by_impl r) e = impl_refuted S n args r e
candidate_refuted S n i args (assumption p) e = absurd (true≢false e)
candidate_refuted S n i args (implied_bound b cs) e = absurd (true≢false e)
candidate_refuted S n i args built_in e = absurd (true≢false e)
candidate_refuted S n i args error e = absurd (true≢false e)

pub const_candidate_refuted : (S : Setting) (n : ℕ) (c : BoundConstness) (i : TraitId) (args : List Tree) (x : Candidate) → may_fit args x ≡ false →
    ConstCandidateRefuted S (level S n) c i (map erased args) x
unfolding ConstCandidateRefuted ConstImplRefuted
const_candidate_refuted S n c i args (by_impl r) e = inr (inl (impl_refuted S n args r e))
const_candidate_refuted S n c i args (assumption p) e = absurd (true≢false e)
const_candidate_refuted S n c i args (implied_bound b cs) e = absurd (true≢false e)
const_candidate_refuted S n c i args built_in e = absurd (true≢false e)
const_candidate_refuted S n c i args error e = absurd (true≢false e)

pub term_refuted : (S : Setting) (n : ℕ) (p : Projection) (args : List Tree) → map erased args ≡ trait_args p → (x : Candidate) → may_fit args x ≡ false → TermRefuted S (level S n) p x
unfolding TermRefuted ImplTermRefuted
term_refuted S n p args same (by_impl r) e = inl (subst (λ ts. ImplRefuted S.mode (level S n) ts r) same (impl_refuted S n args r e))
term_refuted S n p args same (assumption q) e = absurd (true≢false e)
term_refuted S n p args same (implied_bound b cs) e = absurd (true≢false e)
term_refuted S n p args same built_in e = absurd (true≢false e)
term_refuted S n p args same error e = absurd (true≢false e)

-- what isn't looked at of a class is refuted
pub passed_refuted : (S : Setting) (n : ℕ) (c : TraitGoalProvenVia) (i : TraitId) (args : List Tree) (x : Candidate) → passes c (about_trait i args) x ≡ false →
    CandidateRefuted S (level S n) i (map erased args) x
passed_refuted S n class.ParamEnv i args x = near_refuted S n i args x
passed_refuted S n class.AliasBound i args x = candidate_refuted S n i args x
passed_refuted S n class.Misc i args x = candidate_refuted S n i args x

pub passed_const_refuted : (S : Setting) (n : ℕ) (c : TraitGoalProvenVia) (k : BoundConstness) (i : TraitId) (args : List Tree) (x : Candidate) → passes c (about_trait i args) x ≡ false →
    ConstCandidateRefuted S (level S n) k i (map erased args) x
passed_const_refuted S n class.ParamEnv k i args x = near_const_refuted S n k i args x
passed_const_refuted S n class.AliasBound k i args x = const_candidate_refuted S n k i args x
passed_const_refuted S n class.Misc k i args x = const_candidate_refuted S n k i args x

-- lifetimes say nothing of whether an alias may be an item's
pub alias_may_fit-erased : (q : ItemId) (args : List Tree) (t : Tree) → alias_may_fit q args (erased t) ≡ alias_may_fit q args t
unfolding erased
alias_may_fit-erased q args (alias k bs) =
    ap (λ b. is_item q (projected_item k) && b) (ap (heads_agree Rigid args) (erased-list bs) ∙ heads_agree-erased args (list_of bs))
alias_may_fit-erased q args (node h bs) = refl
alias_may_fit-erased q args (variable v) = refl
