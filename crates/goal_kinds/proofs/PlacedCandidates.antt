-- The terms that candidates for a goal give are of the sorts of their items, over accepted tables and an environment without faults of kinds.
use Rattle.std.proofs.Common.{◌≡◌, Bool, true, false, ◌==◌, cond, List, [], ◌∷◌, ◌++◌, map, filter, Option, Some, None, refl, sym, ap, ◌∙◌, subst}
use Rattle.std.specs.List.{list_any}
use Rattle.std.specs.Option.{option_map}
use Rattle.goal_terms.specs.Erased.{erased}
use Rattle.goal_terms.specs.Folding.{folded}
use Rattle.goal_terms.specs.Kinds.{same_kind, kind_of, kind_of_alias}
use Rattle.goal_terms.specs.PredicateTrees.{PredicateTree, holds, equals, holds_const, tree_of_kind}
use Rattle.goal_terms.specs.Sorts.{is_argument_sort}
use Rattle.goal_terms.specs.Tree.{Tree, Trees, node, alias, variable, none, more, node_of, list_of, forest}
use Rattle.goal_terms.specs.TreeOf.{tree_of_arg, tree_of_alias, tree_of_term}
use Rattle.goal_terms.specs.declared.answers.ParamKind.{ParamKind}
use Rattle.goal_terms.specs.declared.answers.TraitGoalProvenVia.{TraitGoalProvenVia}
use Rattle.goal_terms.specs.declared.answers.TraitGoalProvenVia.TheVariants as class
use Rattle.goal_terms.specs.declared.heads.Head.TheVariants.{Dynamic, DynTrait, DynProjection}
use Rattle.goal_terms.specs.declared.ids.ItemId.{ItemId}
use Rattle.goal_terms.specs.declared.ids.OpaqueId.{OpaqueId}
use Rattle.goal_terms.specs.declared.ids.TraitId.{TraitId}
use Rattle.goal_terms.specs.declared.modes.TypingMode.{TypingMode}
use Rattle.goal_terms.specs.declared.predicates.Clause.{Clause}
use Rattle.goal_terms.specs.declared.predicates.ClauseKind.{ClauseKind}
use Rattle.goal_terms.specs.declared.predicates.ClauseKind.TheVariants as clause
use Rattle.goal_terms.specs.declared.predicates.TraitRef.{TraitRef}
use Rattle.goal_terms.specs.declared.sorts.Sort.{Sort}
use Rattle.goal_terms.specs.declared.terms.AliasTerm.{AliasTerm}
use Rattle.goal_terms.specs.declared.terms.AliasTermKind.{AliasTermKind}
use Rattle.goal_terms.specs.declared.terms.AliasTermKind.TheVariants.{ProjectionTy, ProjectionConst, InherentTy, InherentConst, OpaqueTy, FreeTy, FreeConst, UnevaluatedConst}
use Rattle.goal_terms.specs.declared.terms.Term.{Term}
use Rattle.goal_terms.proofs.TreeLemmas.{tree_of_alias-record}
use Rattle.goal_tables.specs.Clauses.{kinds_differ, lies_in_equation, lies_in_clause_kind, lies_in_clauses}
use Rattle.goal_tables.specs.Faults.{IsChecked}
use Rattle.goal_tables.specs.RowFaults.{lies_in_impl}
use Rattle.goal_tables.specs.Rows.{item_of, opaque_of}
use Rattle.goal_tables.specs.Sites.{kind_of_value, kind_of_row, is_of_other_kind, lies_in}
use Rattle.goal_tables.specs.declared.rows.ConstBounds.{ConstBounds}
use Rattle.goal_tables.specs.declared.rows.ImplRow.{ImplRow}
use Rattle.goal_tables.specs.declared.rows.ItemRow.{ItemRow}
use Rattle.goal_tables.specs.declared.rows.OpaqueRow.{OpaqueRow}
use Rattle.goal_tables.specs.declared.rows.Tables.{Tables}
use Rattle.goal_tables.specs.declared.faults.TermFault.{TermFault}
use Rattle.goal_tables.specs.declared.faults.TermFault.TheVariants.{UnknownItem, WrongArgumentCount, WrongArgumentKind}
use Rattle.goal_lists.specs.Answers.{erased_predicate, environment_of, setting_of}
use Rattle.goal_lists.specs.Candidates.{Candidate, assumption, implied_bound, by_impl, built_in, error, bounds_under, const_bounds_under, item_bounds, opaque_bounds, bounds_of_alias, bounds_of, all_but_last, last_of, projects, object_bound, object_bounds_among, object_bounds, impls_for, environment, alias_bounds, rest, second_group}
use Rattle.goal_lists.specs.Headers.{under}
use Rattle.goal_lists.specs.Premises.{TraitTree, predicate_under, trait_under, traits_under}
use Rattle.goal_lists.specs.Projections.{projected_item}
use Rattle.goal_lists.specs.Settings.{Setting}
use Rattle.goal_lists.specs.TraitGoals.{header_of}
use Rattle.goal_lists.specs.Words.{Each}
use Rattle.goal_lists.proofs.AcceptedLemmas.{traits_of_items}
use Rattle.goal_kinds.proofs.ClosedCandidates.{each-append}
use Rattle.goal_kinds.proofs.FaultlessRows.{three_fail, impls_fail, bounds_of_item_fail, bounds_of_opaque_fail}
use Rattle.goal_lists.proofs.KindOfTermLemmas.{kind_of_term, same_kind-true}
use Rattle.goal_kinds.proofs.PlacedRows.{placed-accepted, placed-header, sort-by_value, term-argument}
use Rattle.goal_kinds.proofs.PlacedTerms.{sort_at, sort_of_value, is_clause_sort, takes, EndsAs, EndsAsSaid, AliasIsPlaced, IsPlaced, IsPlacedIn, IsPlacedAs, IsPlacedArgument, ArePlaced, Holds, placed-list, placed-append, placed-last, argument-alias, sort-erased, placed-erased, placed-under}
use Rattle.goal_lists.proofs.PublicTermLemmas.{alias_through, term_through}
use Rattle.goal_lists.proofs.TableKindLemmas.{both_fail, not_false, HasTraitsOfItems}

-- a term is of the sort of the item that an alias projects
abbrev pub IsOfItem : Tables → AliasTermKind → Tree → Type 0
IsOfItem t k u = (i : ItemId) (r : ItemRow) → projected_item k ≡ Some i → item_of t i ≡ Some r → sort_at u ≡ sort_of_value r.is_const

-- the term that a clause says an alias to have is of its sort
abbrev pub SaysOf : Tables → Tree → Tree → Type 0
SaysOf t (node h ts) u = Unit {0}
SaysOf t (alias k ts) u = IsOfItem t k u
SaysOf t (variable v) u = Unit {0}

abbrev pub SaysPlaced : Tables → PredicateTree → Type 0
SaysPlaced t (holds i ts) = Unit {0}
SaysPlaced t (equals a u) = SaysOf t a u × IsPlaced t u
SaysPlaced t (holds_const c i ts) = Unit {0}

-- so is what a candidate gives a term by
abbrev pub IsPlacedCandidate : Tables → Candidate → Type 0
IsPlacedCandidate t (assumption p) = SaysPlaced t p
IsPlacedCandidate t (implied_bound b cs) = Unit {0}
IsPlacedCandidate t (by_impl r) = ArePlaced t (header_of r)
IsPlacedCandidate t built_in = Unit {0}
IsPlacedCandidate t error = Unit {0}

-- accepted tables, and an environment whose clauses say terms of their aliases' sorts
pub record IsPlacedSetting (S : Setting) : Type 0 where
  pub checked : IsChecked S.tables
  pub env : Each (SaysPlaced S.tables) S.env

-- an alias of its row's kind that projects an item is of that item's kind
pub kind-of_row : {A : Type 0} (f : A → Bool) (o : Option A) (r : A) (k : ParamKind) → o ≡ Some r → is_of_other_kind (option_map (λ q. kind_of_value (f q)) o) k ≡ false →
    k ≡ kind_of_value (f r)
kind-of_row f None r k e x = absurd (cc)
kind-of_row f (Some q) r k e x =
    let same : q ≡ r = cc in
    sym (same_kind-true (kind_of_value (f q)) k (not_false (same_kind (kind_of_value (f q)) k) x)) ∙ ap (λ y. kind_of_value (f y)) same

some-item : (t : Tables) (j i : ItemId) (r : ItemRow) → Some j ≡ Some i → item_of t i ≡ Some r → item_of t j ≡ Some r
some-item t j i r e f = let same : j ≡ i = cc in ap (item_of t) same ∙ f

pub projected-kind : (t : Tables) (k : AliasTermKind) → AliasIsPlaced t k → (i : ItemId) (r : ItemRow) → projected_item k ≡ Some i → item_of t i ≡ Some r →
    kind_of_alias k ≡ kind_of_value r.is_const
unfolding kind_of_row
projected-kind t (ProjectionTy j) own i r e f = kind-of_row (λ q. q.is_const) (item_of t j) r (kind_of_alias (ProjectionTy j)) (some-item t j i r e f) own
projected-kind t (ProjectionConst j) own i r e f = kind-of_row (λ q. q.is_const) (item_of t j) r (kind_of_alias (ProjectionConst j)) (some-item t j i r e f) own
projected-kind t (InherentTy j) own i r e f = absurd (cc)
projected-kind t (InherentConst j) own i r e f = absurd (cc)
projected-kind t (OpaqueTy j) own i r e f = absurd (cc)
projected-kind t (FreeTy j) own i r e f = absurd (cc)
projected-kind t (FreeConst j) own i r e f = absurd (cc)
projected-kind t (UnevaluatedConst n) own i r e f = absurd (cc)

-- what a clause without faults of kinds says
abbrev ClauseSays : Tables → ClauseKind → Type 0
ClauseSays t (clause.Trait q) = Unit {0}
ClauseSays t (clause.Projection q) = IsOfItem t q.projection_term.kind (tree_of_term q.term) × IsPlaced t (tree_of_term q.term)
ClauseSays t (clause.HostEffect q) = Unit {0}

-- no fault of kinds lies in a clause, and in some clauses
abbrev NoClauseFault : Tables → List ParamKind → ClauseKind → Type 0
NoClauseFault t ps c = (lies_in_clause_kind t ps UnknownItem c ≡ false) × (lies_in_clause_kind t ps WrongArgumentCount c ≡ false) × (lies_in_clause_kind t ps WrongArgumentKind c ≡ false)

abbrev pub NoFaultInClauses : Tables → List ParamKind → List Clause → Type 0
NoFaultInClauses t ps cs = (lies_in_clauses t ps UnknownItem cs ≡ false) × (lies_in_clauses t ps WrongArgumentCount cs ≡ false) × (lies_in_clauses t ps WrongArgumentKind cs ≡ false)

pub alias-placed : (t : Tables) (a : AliasTerm) → IsPlaced t (tree_of_alias a) → AliasIsPlaced t a.kind
unfolding IsPlaced
alias-placed t a e = (subst (IsPlaced t) (tree_of_alias-record a) e).0

equation-parts : (t : Tables) (ps : List ParamKind) (f : TermFault) (a : AliasTerm) (v : Term) → lies_in_equation t ps f a v ≡ false →
    (lies_in t ps f (tree_of_alias a) ≡ false) × (lies_in t ps f (tree_of_term v) ≡ false) × (kinds_differ f a v ≡ false)
equation-parts t ps f a v e = three_fail (lies_in t ps f (tree_of_alias a)) (lies_in t ps f (tree_of_term v)) (kinds_differ f a v) e

equation-says : (t : Tables) (ps : List ParamKind) → HasTraitsOfItems t → (a : AliasTerm) (v : Term) → lies_in_equation t ps UnknownItem a v ≡ false →
    lies_in_equation t ps WrongArgumentCount a v ≡ false → lies_in_equation t ps WrongArgumentKind a v ≡ false → IsOfItem t a.kind (tree_of_term v) × IsPlaced t (tree_of_term v)
unfolding kinds_differ
equation-says t ps traits a v x y z =
    let known : (lies_in t ps UnknownItem (tree_of_alias a) ≡ false) × (lies_in t ps UnknownItem (tree_of_term v) ≡ false) × (kinds_differ UnknownItem a v ≡ false) = equation-parts t ps UnknownItem a v x in
    let count : (lies_in t ps WrongArgumentCount (tree_of_alias a) ≡ false) × (lies_in t ps WrongArgumentCount (tree_of_term v) ≡ false) × (kinds_differ WrongArgumentCount a v ≡ false) = equation-parts t ps WrongArgumentCount a v y in
    let kinds : (lies_in t ps WrongArgumentKind (tree_of_alias a) ≡ false) × (lies_in t ps WrongArgumentKind (tree_of_term v) ≡ false) × (kinds_differ WrongArgumentKind a v ≡ false) = equation-parts t ps WrongArgumentKind a v z in
    let own : AliasIsPlaced t a.kind = alias-placed t a (placed-accepted t ps traits (tree_of_alias a) (alias_through a) (known.0, count.0, kinds.0)) in
    let same : kind_of_alias a.kind ≡ kind_of_term (tree_of_term v) =
    same_kind-true (kind_of_alias a.kind) (kind_of (node_of (tree_of_term v))) (not_false (same_kind (kind_of_alias a.kind) (kind_of (node_of (tree_of_term v)))) kinds.2) in (
      λ i r e f. sort-by_value (tree_of_term v) r.is_const (term-argument v) (sym same ∙ projected-kind t a.kind own i r e f),
      placed-accepted t ps traits (tree_of_term v) (term_through v) (known.1, count.1, kinds.1),
    )

clause-says : (t : Tables) (ps : List ParamKind) → HasTraitsOfItems t → (c : ClauseKind) → NoClauseFault t ps c → ClauseSays t c
unfolding lies_in_clause_kind
clause-says t ps traits (clause.Trait q) e = tt
clause-says t ps traits (clause.Projection q) e = equation-says t ps traits q.projection_term q.term e.0 e.1 e.2
clause-says t ps traits (clause.HostEffect q) e = tt

-- a rewriting of an alias projects the same
says-under : (t : Tables) (s : List Tree) (x : Tree) (k : AliasTermKind) (ts : Trees) (u : Tree) → x ≡ alias k ts → IsOfItem t k u → SaysOf t (under s x) u
unfolding folded erased
says-under t s x k ts u e f = subst (λ y. SaysOf t (under s y) u) (sym e) f

says-erased : (t : Tables) (x : Tree) (k : AliasTermKind) (ts : Trees) (u : Tree) → x ≡ alias k ts → IsOfItem t k u → SaysOf t (erased x) u
unfolding erased
says-erased t x k ts u e f = subst (λ y. SaysOf t (erased y) u) (sym e) f

same-sort : (t : Tables) (k : AliasTermKind) (u v : Tree) → sort_at v ≡ sort_at u → IsOfItem t k u → IsOfItem t k v
same-sort t k u v same f = λ i r e g. same ∙ f i r e g

-- a clause of a row under arguments
placed-kind_under : (t : Tables) (s : List Tree) → ArePlaced t s → (c : ClauseKind) → ClauseSays t c → SaysPlaced t (predicate_under s (tree_of_kind c))
placed-kind_under t s all (clause.Trait q) e = tt
placed-kind_under t s all (clause.Projection q) e =
    let term : IsPlacedAs t (sort_at (tree_of_term q.term)) (under s (tree_of_term q.term)) = placed-under t s all (tree_of_term q.term) e.1 in (
      says-under t s (tree_of_alias q.projection_term) q.projection_term.kind (forest (map tree_of_arg q.projection_term.args.items)) (under s (tree_of_term q.term))
          (tree_of_alias-record q.projection_term) (same-sort t q.projection_term.kind (tree_of_term q.term) (under s (tree_of_term q.term)) term.0 e.0),
      term.1,
    )
placed-kind_under t s all (clause.HostEffect q) e = tt

-- the bounds of a row under arguments
clauses-each : (t : Tables) (ps : List ParamKind) (f : TermFault) (c : Clause) (cs : List Clause) → lies_in_clauses t ps f (c ∷ cs) ≡ false →
    (lies_in_clause_kind t ps f c.kind ≡ false) × (lies_in_clauses t ps f cs ≡ false)
clauses-each t ps f c cs e = both_fail (lies_in_clause_kind t ps f c.kind) (lies_in_clauses t ps f cs) e

placed-bounds_under : (t : Tables) (ps : List ParamKind) → HasTraitsOfItems t → (s : List Tree) → ArePlaced t s → (cs : List Clause) →
    NoFaultInClauses t ps cs → Each (IsPlacedCandidate t) (bounds_under s cs)
unfolding Each
placed-bounds_under t ps traits s all [] e = tt
placed-bounds_under t ps traits s all (c ∷ cs) e =
    let x : (lies_in_clause_kind t ps UnknownItem c.kind ≡ false) × (lies_in_clauses t ps UnknownItem cs ≡ false) = clauses-each t ps UnknownItem c cs e.0 in
    let y : (lies_in_clause_kind t ps WrongArgumentCount c.kind ≡ false) × (lies_in_clauses t ps WrongArgumentCount cs ≡ false) = clauses-each t ps WrongArgumentCount c cs e.1 in
    let z : (lies_in_clause_kind t ps WrongArgumentKind c.kind ≡ false) × (lies_in_clauses t ps WrongArgumentKind cs ≡ false) = clauses-each t ps WrongArgumentKind c cs e.2 in
    (placed-kind_under t s all c.kind (clause-says t ps traits c.kind (x.0, y.0, z.0)), placed-bounds_under t ps traits s all cs (x.1, y.1, z.1))

-- const bounds give no term
placed-implied : (t : Tables) (s : List Tree) (conditions : List TraitTree) (rs : List TraitRef) → Each (IsPlacedCandidate t) (map (λ r. implied_bound (trait_under s r) conditions) rs)
unfolding Each
placed-implied t s conditions [] = tt
placed-implied t s conditions (r ∷ rs) = (tt, placed-implied t s conditions rs)

placed-const_bounds : (t : Tables) (s : List Tree) (o : Option ConstBounds) → Each (IsPlacedCandidate t) (const_bounds_under s o)
unfolding Each
placed-const_bounds t s None = tt
placed-const_bounds t s (Some b) = placed-implied t s (traits_under s b.conditions.items) b.implied.items

-- the bounds of an alias
placed-item_bounds : (t : Tables) → IsChecked t → (i : ItemId) (s : List Tree) → ArePlaced t s → (o : Option ItemRow) → item_of t i ≡ o →
    Each (IsPlacedCandidate t) (item_bounds s o)
unfolding Each
placed-item_bounds t ok i s all None e = tt
placed-item_bounds t ok i s all (Some r) e =
    each-append (IsPlacedCandidate t) (bounds_under s r.bounds.items) (const_bounds_under s r.const_bounds)
    (placed-bounds_under t _ (traits_of_items t ok) s all r.bounds.items
    (bounds_of_item_fail t ok UnknownItem i r e, bounds_of_item_fail t ok WrongArgumentCount i r e, bounds_of_item_fail t ok WrongArgumentKind i r e))
    (placed-const_bounds t s r.const_bounds)

placed-opaque_bounds : (t : Tables) → IsChecked t → (i : OpaqueId) (s : List Tree) → ArePlaced t s → (o : Option OpaqueRow) → opaque_of t i ≡ o →
    Each (IsPlacedCandidate t) (opaque_bounds s o)
unfolding Each
placed-opaque_bounds t ok i s all None e = tt
placed-opaque_bounds t ok i s all (Some r) e =
    each-append (IsPlacedCandidate t) (bounds_under s r.bounds.items) (const_bounds_under s r.const_bounds)
    (placed-bounds_under t _ (traits_of_items t ok) s all r.bounds.items
    (bounds_of_opaque_fail t ok UnknownItem i r e, bounds_of_opaque_fail t ok WrongArgumentCount i r e, bounds_of_opaque_fail t ok WrongArgumentKind i r e))
    (placed-const_bounds t s r.const_bounds)

placed-bounds_of_alias : (t : Tables) → IsChecked t → (k : AliasTermKind) (args : List Tree) (self : Tree) → ArePlaced t (args ++ self ∷ []) →
    Each (IsPlacedCandidate t) (bounds_of_alias t k args self)
unfolding bounds_of_alias Each
placed-bounds_of_alias t ok (ProjectionTy i) args self all = placed-item_bounds t ok i (args ++ self ∷ []) all (item_of t i) refl
placed-bounds_of_alias t ok (OpaqueTy i) args self all = placed-opaque_bounds t ok i (args ++ self ∷ []) all (opaque_of t i) refl
placed-bounds_of_alias t ok k args self all = tt

placed-bounds_of : (t : Tables) → IsChecked t → (s : Tree) → IsPlaced t s → Each (IsPlacedCandidate t) (bounds_of t s)
unfolding bounds_of IsPlaced Each
placed-bounds_of t ok (node h ts) e = tt
placed-bounds_of t ok (alias k ts) e =
    placed-bounds_of_alias t ok k (list_of ts) (alias k ts)
    (placed-append t (list_of ts) (alias k ts ∷ []) (placed-list t is_argument_sort ts e.1) ((argument-alias k, e), tt))
placed-bounds_of t ok (variable v) e = tt

-- what a clause of a `dyn` type says
ends-last : (s : Sort) (ts : Trees) → EndsAs s ts → Holds (λ u. sort_at u ≡ s) (last_of (list_of ts))
unfolding EndsAs last_of
ends-last s none e = tt
ends-last s (more u none) e = e
ends-last s (more u (more v vs)) e = ends-last s (more v vs) e

placed-projects : (t : Tables) (i : ItemId) (ts : Trees) (o : Option Tree) → ((r : ItemRow) → item_of t i ≡ Some r → Holds (λ u. sort_at u ≡ sort_of_value r.is_const) o) →
    Holds (IsPlacedArgument t) o → Each (IsPlacedCandidate t) (projects (alias (ProjectionTy i) ts) o)
unfolding Each
placed-projects t i ts None ends e = tt
placed-projects t i ts (Some u) ends e = ((λ j r x f. ends r (some-item t i j r x f), e.1), tt)

placed-object_bound : (t : Tables) (self u : Tree) → IsPlaced t u → Each (IsPlacedCandidate t) (object_bound self u)
unfolding IsPlaced EndsAsSaid takes Each
placed-object_bound t self (node (DynTrait i n) ts) e = (tt, tt)
placed-object_bound t self (node (DynProjection i n) ts) e =
    placed-projects t i (forest (self ∷ all_but_last (list_of ts))) (last_of (list_of ts)) (λ r f. ends-last (sort_of_value r.is_const) ts (e.0 r f))
    (placed-last (IsPlacedArgument t) (list_of ts) (placed-list t is_argument_sort ts e.1))
placed-object_bound t self u e = tt

placed-object_bounds_among : (t : Tables) (self : Tree) (ts : List Tree) → Each (IsPlacedIn t is_clause_sort) ts → Each (IsPlacedCandidate t) (object_bounds_among self ts)
unfolding object_bounds_among Each
placed-object_bounds_among t self [] all = tt
placed-object_bounds_among t self (u ∷ ts) all =
    each-append (IsPlacedCandidate t) (object_bound self u) (object_bounds_among self ts) (placed-object_bound t self u all.0.1) (placed-object_bounds_among t self ts all.1)

placed-object_bounds : (t : Tables) (s : Tree) → IsPlaced t s → Each (IsPlacedCandidate t) (object_bounds s)
unfolding object_bounds IsPlaced takes Each
placed-object_bounds t (node (Dynamic n r) ts) e = placed-object_bounds_among t (node (Dynamic n r) ts) (list_of ts) (placed-list t is_clause_sort ts e.1)
placed-object_bounds t u e = tt

-- the impls of a trait
placed-kept_impl : (t : Tables) (b : Bool) (r : ImplRow) (rs : List ImplRow) → ArePlaced t (header_of r) → Each (IsPlacedCandidate t) (map by_impl rs) →
    Each (IsPlacedCandidate t) (map by_impl (cond b (r ∷ rs) rs))
unfolding Each
placed-kept_impl t true r rs e all = (e, all)
placed-kept_impl t false r rs e all = all

placed-filtered : (t : Tables) → IsChecked t → (test : ImplRow → Bool) (rs : List ImplRow) → ((f : TermFault) → list_any (λ q. lies_in_impl t f q) rs ≡ false) →
    Each (IsPlacedCandidate t) (map by_impl (filter test rs))
unfolding Each
placed-filtered t ok test [] e = tt
placed-filtered t ok test (r ∷ rs) e =
    placed-kept_impl t (test r) r (filter test rs)
    (placed-header t ok r (λ f. (both_fail (lies_in_impl t f r) (list_any (λ q. lies_in_impl t f q) rs) (e f)).0))
    (placed-filtered t ok test rs (λ f. (both_fail (lies_in_impl t f r) (list_any (λ q. lies_in_impl t f q) rs) (e f)).1))

placed-rest : (S : Setting) → IsPlacedSetting S → (i : TraitId) (s : Tree) → IsPlaced S.tables s → Each (IsPlacedCandidate S.tables) (rest S i s)
unfolding Each
placed-rest S c i s e =
    each-append (IsPlacedCandidate S.tables) (map by_impl (impls_for S.tables i) ++ built_in ∷ object_bounds s) (error ∷ [])
    (each-append (IsPlacedCandidate S.tables) (map by_impl (impls_for S.tables i)) (built_in ∷ object_bounds s)
    (placed-filtered S.tables c.checked (λ r. r.trait_id.0 == i.0) S.tables.impls.items (λ f. impls_fail S.tables c.checked f)) (tt, placed-object_bounds S.tables s e))
    (tt, tt)

-- the candidates of the environment
placed-assumptions : (t : Tables) (ps : List PredicateTree) → Each (SaysPlaced t) ps → Each (IsPlacedCandidate t) (map assumption ps)
unfolding Each
placed-assumptions t [] all = tt
placed-assumptions t (p ∷ ps) all = (all.0, placed-assumptions t ps all.1)

pub placed-environment : (S : Setting) → IsPlacedSetting S → Each (IsPlacedCandidate S.tables) (environment S)
placed-environment S c = placed-assumptions S.tables S.env c.env

-- those after the environment
pub placed-second_group : (S : Setting) → IsPlacedSetting S → (i : TraitId) (s : Tree) → IsPlaced S.tables s → (v : TraitGoalProvenVia) →
    Each (IsPlacedCandidate S.tables) (second_group S i s v)
unfolding second_group
placed-second_group S c i s e class.ParamEnv = placed-bounds_of S.tables c.checked s e
placed-second_group S c i s e class.AliasBound = placed-bounds_of S.tables c.checked s e
placed-second_group S c i s e class.Misc =
    each-append (IsPlacedCandidate S.tables) (alias_bounds S s) (rest S i s) (placed-bounds_of S.tables c.checked s e) (placed-rest S c i s e)

-- a clause without lifetimes
placed-erased_kind : (t : Tables) (c : ClauseKind) → ClauseSays t c → SaysPlaced t (erased_predicate (tree_of_kind c))
placed-erased_kind t (clause.Trait q) e = tt
placed-erased_kind t (clause.Projection q) e = (
  says-erased t (tree_of_alias q.projection_term) q.projection_term.kind (forest (map tree_of_arg q.projection_term.args.items)) (erased (tree_of_term q.term))
      (tree_of_alias-record q.projection_term)
      (same-sort t q.projection_term.kind (tree_of_term q.term) (erased (tree_of_term q.term)) (sort-erased (tree_of_term q.term)) e.0),
  placed-erased t (tree_of_term q.term) e.1,
)
placed-erased_kind t (clause.HostEffect q) e = tt

placed-clauses : (t : Tables) (ps : List ParamKind) → HasTraitsOfItems t → (cs : List Clause) → NoFaultInClauses t ps cs → Each (SaysPlaced t) (environment_of cs)
unfolding Each
placed-clauses t ps traits [] e = tt
placed-clauses t ps traits (c ∷ cs) e =
    let x : (lies_in_clause_kind t ps UnknownItem c.kind ≡ false) × (lies_in_clauses t ps UnknownItem cs ≡ false) = clauses-each t ps UnknownItem c cs e.0 in
    let y : (lies_in_clause_kind t ps WrongArgumentCount c.kind ≡ false) × (lies_in_clauses t ps WrongArgumentCount cs ≡ false) = clauses-each t ps WrongArgumentCount c cs e.1 in
    let z : (lies_in_clause_kind t ps WrongArgumentKind c.kind ≡ false) × (lies_in_clauses t ps WrongArgumentKind cs ≡ false) = clauses-each t ps WrongArgumentKind c cs e.2 in
    (placed-erased_kind t c.kind (clause-says t ps traits c.kind (x.0, y.0, z.0)), placed-clauses t ps traits cs (x.1, y.1, z.1))

-- the setting of accepted tables and an environment in which no fault of kinds lies
pub placed-setting : (t : Tables) (m : TypingMode) (cs : List Clause) → IsChecked t → NoFaultInClauses t [] cs → IsPlacedSetting (setting_of t m cs)
placed-setting t m cs ok e = record { checked = ok; env = placed-clauses t [] (traits_of_items t ok) cs e }
