-- The laws of candidates for projections: more height keeps them, and a clause that is rejected is refuted with no height.
use Rattle.std.proofs.Common.{◌≡◌, ◌≢◌, ◌≤◌, ◌==◌, ◌&&◌, ◌||◌, ℕ, Bool, true, false, cond, List, [], ◌∷◌, map, take, Option, Some, None, find, IfSome, inl, inr, refl, sym, ◌∙◌, ap, subst, eq-eqb}
use Rattle.std.proofs.lemmas.Bool.{false≢true, true≢false, eqb-true}
use Rattle.std.specs.Option.{option_map, option_and_then}
use Rattle.goal_terms.specs.Erased.{erased, erased_row}
use Rattle.goal_terms.specs.Kinds.{same_kind, kind_of_alias}
use Rattle.goal_terms.specs.Tree.{Tree, Trees, alias, forest, list_of}
use Rattle.goal_terms.specs.TreeOf.{trees_of, tree_of_alias, tree_of_term}
use Rattle.goal_terms.specs.declared.answers.ParamKind.{ParamKind}
use Rattle.goal_terms.specs.declared.answers.ParamKind.TheVariants as kind
use Rattle.goal_terms.specs.declared.ids.ItemId.{ItemId}
use Rattle.goal_terms.specs.declared.predicates.ClauseKind.{ClauseKind}
use Rattle.goal_terms.specs.declared.predicates.ClauseKind.TheVariants as clause
use Rattle.goal_terms.specs.declared.terms.AliasTerm.{AliasTerm}
use Rattle.goal_terms.specs.declared.terms.AliasTermKind.{AliasTermKind}
use Rattle.goal_terms.specs.declared.terms.AliasTermKind.TheVariants.{ProjectionTy, ProjectionConst}
use Rattle.goal_terms.specs.declared.terms.GenericArg.{GenericArg}
use Rattle.goal_terms.specs.declared.terms.Term.{Term}
use Rattle.goal_terms.proofs.TreeLemmas.{list_of-forest, tree_of_alias-record}
use Rattle.goal_tables.specs.Clauses.{kinds_differ, lies_in_equation, lies_in_clause_kind}
use Rattle.goal_tables.specs.Faults.{IsChecked}
use Rattle.goal_tables.specs.Rows.{item_of, trait_of}
use Rattle.goal_tables.specs.Sites.{kind_of_value, kind_of_row, is_of_other_kind, is_misplaced, lies_in, lies_in_row, lies_here}
use Rattle.goal_tables.specs.declared.rows.ImplRow.{ImplRow}
use Rattle.goal_tables.specs.declared.rows.ItemRow.{ItemRow}
use Rattle.goal_tables.specs.declared.rows.Tables.{Tables}
use Rattle.goal_tables.specs.declared.faults.TermFault.{TermFault}
use Rattle.goal_tables.specs.declared.faults.TermFault.TheVariants.{UnknownItem, WrongArgumentCount, WrongArgumentKind}
use Rattle.goal_kinds.specs.CandidateRules.{HasNoKindFault, IsAcceptedClause, said_by}
use Rattle.goal_lists.specs.Candidates.{Candidate, by_impl}
use Rattle.goal_lists.specs.FastReject.{lists_may_unify, heads_agree}
use Rattle.goal_lists.specs.Fitting.{may_fit}
use Rattle.goal_lists.specs.ImplTerms.{Projection, trait_args}
use Rattle.goal_lists.specs.KindedTerms.{NoKindFault}
use Rattle.goal_lists.specs.Level.{nothing}
use Rattle.goal_lists.specs.Levels.{level}
use Rattle.goal_lists.specs.Premises.{TraitTree}
use Rattle.goal_kinds.specs.ProjectionKind.{ProjectionCandidateGives, ProjectionCandidateRefuted, projected_trait, same_kind_of_alias, may_match_term}
use Rattle.goal_lists.specs.Projections.{projected_item, EquationRefuted, AssumptionTermRefuted, TermRefuted, asked}
use Rattle.goal_kinds.specs.RuleWords.{projection_in, asked_by}
use Rattle.goal_kinds.specs.declared.rules.assoc_items.AssocItem.{AssocItem}
use Rattle.goal_lists.specs.RowWords.{given}
use Rattle.goal_lists.specs.Settings.{Setting}
use Rattle.goal_lists.specs.Words.{SomePair}
use Rattle.goal_lists.specs.declared.fast_reject.Parameters.TheVariants.{Rigid}
use Rattle.goal_kinds.proofs.AcceptedAliases.{accepted_projection-heads}
use Rattle.goal_lists.proofs.CandidateTerms.{list-erased}
use Rattle.goal_lists.proofs.EntryLemmas.{given-take}
use Rattle.goal_lists.proofs.FittingLemmas.{term_refuted}
use Rattle.goal_lists.proofs.OtherHeadLemmas.{lists_unequal}
use Rattle.goal_lists.proofs.TableKindLemmas.{both_fail, not_false}
use Rattle.goal_lists.proofs.WithinLevels.{within-level, alike-itself}
use Rattle.goal_lists.proofs.WithinProjections.{within-candidate_gives, within-term_refuted}
use Rattle.goal_lists.proofs.WithinWords.{of_row-map}

-- what is said of a row, if there is one, by what implies it
if_some-map : {A : Type 0} {P Q : A → Type 0} (o : Option A) → ((x : A) → P x → Q x) → IfSome o P → IfSome o Q
if_some-map None f h = h
if_some-map (Some x) f h = f x h

-- a candidate gives its term at a greater height, too
pub projection-higher : (a : AliasTerm) (S : Setting) (n m : ℕ) (c : Candidate) (t : Tree) → n ≤ m →
    ProjectionCandidateGives a S n c t → ProjectionCandidateGives a S m c t
projection-higher a S n m c t le h =
    of_row-map (projection_in S.tables a) (λ p. within-candidate_gives (within-level S n m le) (alike-itself S) p (alias a.kind (forest (given a.args))) t c) h

pub projection-higher_refuted : (a : AliasTerm) (S : Setting) (n m : ℕ) (c : Candidate) → n ≤ m →
    ProjectionCandidateRefuted a S n c → ProjectionCandidateRefuted a S m c
projection-higher_refuted a S n m c le h =
    if_some-map (projection_in S.tables a) (λ p. within-term_refuted (within-level S n m le) (alike-itself S) p c) h

-- what a look-up finds passes its test
passes-step : {A : Type 0} (test : A → Bool) (b : Bool) (o : Option A) (x y : A) → test y ≡ b → cond b (Some y) o ≡ Some x → (o ≡ Some x → test x ≡ true) → test x ≡ true
passes-step test true o x y e f g = let same : y ≡ x = cc in ap test (sym same) ∙ e
passes-step test false o x y e f g = g f

found-passes : {A : Type 0} (test : A → Bool) (xs : List A) (x : A) → find test xs ≡ Some x → test x ≡ true
found-passes test [] x e = absurd (cc)
found-passes test (y ∷ ys) x e = passes-step test (test y) (find test ys) x y refl e (found-passes test ys x)

pub found-item : (t : Tables) (i : ItemId) (q : ItemRow) → item_of t i ≡ Some q → q.id ≡ i
found-item t i q e = ap (λ n. record { 0 = n }) (eqb-true q.id.0 i.0 (found-passes (λ r. r.id.0 == i.0) t.items.items q e))

-- the kind that the row of a projection's item says
row-kind : (t : Tables) (k : AliasTermKind) (i : ItemId) (q : ItemRow) → projected_item k ≡ Some i → item_of t i ≡ Some q → kind_of_row t k ≡ Some (kind_of_value q.is_const)
unfolding kind_of_row
row-kind t (ProjectionTy j) i q e found = let same : j ≡ i = cc in ap (λ x. option_map (λ r. kind_of_value r.is_const) (item_of t x)) same ∙ ap (option_map (λ r. kind_of_value r.is_const)) found
row-kind t (ProjectionConst j) i q e found = let same : j ≡ i = cc in ap (λ x. option_map (λ r. kind_of_value r.is_const) (item_of t x)) same ∙ ap (option_map (λ r. kind_of_value r.is_const)) found
row-kind t k i q e found = absurd (cc)

-- an accepted projection is of the kind that its item's row says
kind-of-item : (t : Tables) (ps : List ParamKind) (k : AliasTermKind) (i : ItemId) (q : ItemRow) (row : Trees) → projected_item k ≡ Some i → item_of t i ≡ Some q →
    lies_in t ps WrongArgumentKind (alias k row) ≡ false → same_kind (kind_of_value q.is_const) (kind_of_alias k) ≡ true
unfolding lies_in lies_here is_misplaced
kind-of-item t ps k i q row e found ok =
    let here = both_fail _ (lies_in_row t ps WrongArgumentKind row) ok in
    let placed = both_fail _ (is_of_other_kind (kind_of_row t k) (kind_of_alias k)) here.0 in
    not_false (same_kind (kind_of_value q.is_const) (kind_of_alias k)) (subst (λ o. is_of_other_kind o (kind_of_alias k) ≡ false) (row-kind t k i q e found) placed.1)

-- no kind is both a type's and a constant's
no_both : (b : Bool) → same_kind (kind_of_value b) kind.Ty ≡ true → same_kind (kind_of_value b) kind.Const ≡ true → ⊥
no_both true x y = absurd (cc)
no_both false x y = absurd (cc)

-- so projections of one item that agree with its row are of one kind
kinds-agree : (b : Bool) (i : ItemId) (k j : AliasTermKind) → projected_item k ≡ Some i → projected_item j ≡ Some i →
    same_kind (kind_of_value b) (kind_of_alias k) ≡ true → same_kind (kind_of_value b) (kind_of_alias j) ≡ true → same_kind_of_alias k j ≡ true
kinds-agree b i (ProjectionTy m) (ProjectionTy n) d e x y = let first : m ≡ i = cc in let second : n ≡ i = cc in eq-eqb m.0 n.0 (ap (λ z. z.0) (first ∙ sym second))
kinds-agree b i (ProjectionTy m) (ProjectionConst n) d e x y = absurd (no_both b x y)
kinds-agree b i (ProjectionConst m) (ProjectionTy n) d e x y = absurd (no_both b y x)
kinds-agree b i (ProjectionConst m) (ProjectionConst n) d e x y = let first : m ≡ i = cc in let second : n ≡ i = cc in eq-eqb m.0 n.0 (ap (λ z. z.0) (first ∙ sym second))
kinds-agree b i (ProjectionTy m) j d e x y = absurd (cc)
kinds-agree b i (ProjectionConst m) j d e x y = absurd (cc)
kinds-agree b i k j d e x y = absurd (cc)

-- what was found, where what it leads to was
pub then-found : {A B : Type 0} (f : A → Option B) (o : Option A) (y : B) → option_and_then f o ≡ Some y → (x : A) × (o ≡ Some x) × (f x ≡ Some y)
then-found f None y e = absurd (cc)
then-found f (Some x) y e = (x, refl, e)

pub map-found : {A B : Type 0} (f : A → B) (o : Option A) (y : B) → option_map f o ≡ Some y → (x : A) × (o ≡ Some x) × (f x ≡ y)
map-found f None y e = absurd (cc)
map-found f (Some x) y e = (x, refl, cc)

pub if_some-found : {A : Type 0} {P : A → Type 0} (o : Option A) → ((x : A) → o ≡ Some x → P x) → IfSome o P
if_some-found None f = tt
if_some-found (Some x) f = f x refl

-- the item, its row and the arguments of a projection that is asked
pub asked-of : (t : Tables) (a : AliasTerm) (p : Projection) → projection_in t a ≡ Some p →
    (i : ItemId) × (projected_item a.kind ≡ Some i) × (item_of t i ≡ Some p.item) × (p.args ≡ given a.args)
asked-of t a p e =
    let x = then-found (λ i. option_and_then (λ q. option_map (λ r. asked q r (given a.args)) (trait_of t q.trait_id)) (item_of t i)) (projected_item a.kind) p e in
    let y = then-found (λ q. option_map (λ r. asked q r (given a.args)) (trait_of t q.trait_id)) (item_of t x.0) p x.2 in
    let z = map-found (λ r. asked y.0 r (given a.args)) (trait_of t y.0.trait_id) p y.2 in
    (x.0, x.1, y.1 ∙ ap (λ v. Some v.item) z.2, sym (ap (λ v. v.args) z.2))

-- whether an alias is a projection of an item
abbrev is_of_item : Option ItemId → ItemId → Bool
is_of_item None i = false
is_of_item (Some j) i = j.0 == i.0

of_item : (o : Option ItemId) (i : ItemId) → is_of_item o i ≡ true → o ≡ Some i
of_item None i e = absurd (cc)
of_item (Some j) i e = ap (λ n. Some (record { 0 = n })) (eqb-true j.0 i.0 e)

not_of_item : (o : Option ItemId) (i : ItemId) → is_of_item o i ≡ false → o ≢ Some i
not_of_item None i e same = absurd (cc)
not_of_item (Some j) i e same = let x : j ≡ i = cc in false≢true (sym e ∙ eq-eqb j.0 i.0 (ap (λ z. z.0) x))

-- two lists of public terms that are apart, one of them below an alias without lifetimes
apart : (S : Setting) (xs ys : List Tree) (args : List Tree) → args ≡ map erased ys → heads_agree Rigid xs ys ≡ false →
    SomePair (level S 0).unequal (list_of (erased_row (forest xs))) args
unfolding level
apart S xs ys args e r =
    subst (λ us. SomePair (level S 0).unequal us args) (sym (list-erased (forest xs) ∙ ap (map erased) (list_of-forest xs)))
    (subst (λ us. SomePair (level S 0).unequal (map erased xs) us) (sym e) (lists_unequal nothing xs ys r))

-- a rejected equation of an alias, by whether it is of the item, and whether the arguments may become the same
rejected-by : (S : Setting) (a q : AliasTerm) (p : Projection) (v : Tree) (i : ItemId) → projected_item a.kind ≡ Some i → item_of S.tables i ≡ Some p.item → p.args ≡ given a.args →
    IsChecked S.tables → NoKindFault S.tables [] (alias a.kind (forest (trees_of a.args.items))) → NoKindFault S.tables [] (alias q.kind (forest (trees_of q.args.items))) →
    (b c : Bool) → is_of_item (projected_item q.kind) i ≡ b → lists_may_unify Rigid (trees_of q.args.items) (trees_of a.args.items) ≡ c →
    same_kind_of_alias q.kind a.kind && c ≡ false →
    EquationRefuted (level S 0) p (alias q.kind (erased_row (forest (trees_of q.args.items)))) v
unfolding EquationRefuted
rejected-by S a q p v i d found args ok x y false c e f r = inl (λ same. not_of_item (projected_item q.kind) i e (same ∙ ap Some (found-item S.tables i p.item found)))
rejected-by S a q p v i d found args ok x y true false e f r =
    inr (inl (apart S (trees_of q.args.items) (trees_of a.args.items) p.args args
    (sym (accepted_projection-heads S.tables i q.kind a.kind [] [] Rigid q.args.items a.args.items (of_item (projected_item q.kind) i e) d ok y x) ∙ f)))
rejected-by S a q p v i d found args ok x y true true e f r =
    let its : projected_item q.kind ≡ Some i = of_item (projected_item q.kind) i e in
    let same : same_kind_of_alias q.kind a.kind ≡ true =
    kinds-agree p.item.is_const i q.kind a.kind its d
    (kind-of-item S.tables [] q.kind i p.item (forest (trees_of q.args.items)) its found y.2)
    (kind-of-item S.tables [] a.kind i p.item (forest (trees_of a.args.items)) d found x.2) in
    absurd (true≢false (sym (ap (λ z. z && true) same) ∙ r))

-- what an equation without faults says of its alias
pub equation-accepted : (t : Tables) (a : AliasTerm) (e : Term) → HasNoKindFault (λ f. lies_in_equation t [] f a e) → NoKindFault t [] (alias a.kind (forest (trees_of a.args.items)))
equation-accepted t a e ok = (part UnknownItem ok.0, part WrongArgumentCount ok.1, part WrongArgumentKind ok.2) where
  part : (f : TermFault) → lies_in_equation t [] f a e ≡ false → lies_in t [] f (alias a.kind (forest (trees_of a.args.items))) ≡ false
  part f h = subst (λ u. lies_in t [] f u ≡ false) (tree_of_alias-record a) (both_fail (lies_in t [] f (tree_of_alias a)) (lies_in t [] f (tree_of_term e)) (both_fail (lies_in t [] f (tree_of_alias a) || lies_in t [] f (tree_of_term e)) (kinds_differ f a e) h).0).0

-- a rejected clause gives no term, with no height
pub rejected-projection : (S : Setting) (a : AliasTerm) (e : Term) (k : ClauseKind) → IsChecked S.tables → HasNoKindFault (λ f. lies_in_equation S.tables [] f a e) →
    IsAcceptedClause S.tables k → may_match_term a k ≡ false → ProjectionCandidateRefuted a S 0 (said_by k)
unfolding TermRefuted AssumptionTermRefuted lies_in_clause_kind erased
rejected-projection S a e (clause.Projection q) ok x y r =
    if_some-found (projection_in S.tables a) (λ p found.
    let its = asked-of S.tables a p found in
    subst (λ u. EquationRefuted (level S 0) p (erased u) (erased (tree_of_term q.term))) (sym (tree_of_alias-record q.projection_term))
    (rejected-by S a q.projection_term p (erased (tree_of_term q.term)) its.0 its.1 its.2 its.3 ok (equation-accepted S.tables a e x) (equation-accepted S.tables q.projection_term q.term y)
    (is_of_item (projected_item q.projection_term.kind) its.0) (lists_may_unify Rigid (trees_of q.projection_term.args.items) (trees_of a.args.items)) refl refl r))
rejected-projection S a e (clause.Trait q) ok x y r = if_some-found (projection_in S.tables a) (λ p found. tt)
rejected-projection S a e (clause.HostEffect q) ok x y r = if_some-found (projection_in S.tables a) (λ p found. tt)

-- an impl whose header has another head gives no term, with no height
pub other-head : (S : Setting) (args : List Tree) (r : ImplRow) (q : TraitTree) (a : AliasTerm) → projected_trait S.tables a ≡ Some q → q.args ≡ map erased args →
    may_fit args (by_impl r) ≡ false → ProjectionCandidateRefuted a S 0 (by_impl r)
other-head S args r q a sought same other =
    if_some-found (projection_in S.tables a) (λ p found.
    let found_trait : Some (record { def_id = p.item.trait_id; args = trait_args p }) ≡ Some q =
    sym (ap (option_map (λ p. record { def_id = p.item.trait_id; args = trait_args p })) found) ∙ sought in
    let its : trait_args p ≡ q.args = cc in
    term_refuted S 0 p args (sym (its ∙ same)) (by_impl r) other)

-- the trait of a projection, as it is seen in the alias
pub seen-projected : (t : Tables) (a : AliasTerm) (x : AssocItem) (args : List GenericArg) → projection_in t a ≡ Some (asked_by x a) → args ≡ take x.trait_params a.args.items →
    Some (record { def_id = x.row.now.trait_id; args = map erased (trees_of args) }) ≡ projected_trait t a
seen-projected t a x args found e =
    ap (λ xs. Some (record { def_id = x.row.now.trait_id; args = xs })) (ap (λ xs. map erased (trees_of xs)) e ∙ given-take x.trait_params a.args)
    ∙ sym (ap (option_map (λ p. record { def_id = p.item.trait_id; args = trait_args p })) found)
