-- What the worked examples share.
use Rattle.std.proofs.Common.{◌≡◌, ◌≢◌, ◌⊎◌, inl, inr, ℕ, false, List, [], ◌∷◌, Option, Some, None, refl, sym, ap, subst, ◌∙◌, zero, suc, T, not, eqb, eq-eqb, is_some}
use Rattle.goal_terms.proofs.TreeLemmas.{tree_of_arg-Ty, tree_of_ty-Adt, tree_of_ty-Str}
use Rattle.goal_terms.specs.Tree.{Tree, Trees, node, none, node_of}
use Rattle.goal_terms.specs.declared.heads.Head.{Head}
use Rattle.goal_terms.specs.declared.heads.Head.TheVariants as head
use Rattle.goal_terms.specs.declared.heads.Node.{Node}
use Rattle.goal_terms.specs.declared.heads.Node.TheVariants as nodes
use Rattle.goal_terms.specs.declared.ids.ItemId.{ItemId}
use Rattle.goal_terms.specs.declared.ids.TraitId.{TraitId}
use Rattle.goal_terms.specs.declared.predicates.BoundConstness.{BoundConstness}
use Rattle.goal_terms.specs.declared.scalars.UintTy.{UintTy}
use Rattle.goal_terms.specs.declared.scalars.UintTy.TheVariants as unsigned
use Rattle.goal_terms.specs.declared.terms.AliasTermKind.{AliasTermKind}
use Rattle.goal_terms.specs.declared.terms.AliasTermKind.TheVariants.{ProjectionTy}
use Rattle.goal_tables.specs.Rows.{item_of, trait_of}
use Rattle.goal_tables.specs.declared.rows.ImplRow.{ImplRow}
use Rattle.goal_tables.specs.declared.rows.ItemRow.{ItemRow}
use Rattle.goal_tables.specs.declared.rows.TraitRow.{TraitRow}
use Rattle.goal_kinds.specs.ExampleRows.{not_tr_for_y, tr_for_z, tr_for_w, tr_for_str}
use Rattle.goal_kinds.specs.ExampleTerms.{adt, trait, y_ty, z_ty, w_ty, str_ty}
use Rattle.goal_lists.specs.Settings.{Setting}
use Rattle.goal_terms.specs.Folding.{folded, folded_node, depth_below, argument_of}
use Rattle.goal_terms.specs.Kinds.{kind_of, kind_of_head}
use Rattle.goal_terms.specs.Erased.{erased}
use Rattle.goal_terms.specs.NodeTests.{some_node, some_node_outside_aliases}
use Rattle.goal_terms.specs.Occurrences.{has_error}
use Rattle.goal_lists.specs.Aliases.{InherentGives, InherentRefuted, InherentAliasGives, InherentAliasRefuted, ValueGives, ValueRefuted, FreeGives, FreeRefuted, OpaqueGives, OpaqueRefuted, AliasGives, AliasRefuted}
use Rattle.goal_lists.specs.Builtins.{sized_of_head, copied_parts_of_head, signature_of_head, call_rule, lang_rule, trait_rule, metadata_of_head, discriminant_of_head, lang_term, term_rule}
use Rattle.goal_lists.specs.Candidates.{Candidate, bounds_of_alias, bounds_of, all_but_last, last_of, object_bounds_among, object_bounds, class_of, classes_before, all_candidates, second_group}
use Rattle.goal_lists.specs.ConstGoals.{ConstAssumptionHolds, ConstAssumptionRefuted, ConstImplHolds, ConstImplRefuted, ConstRuleHolds, ConstRuleRefuted, ConstCandidateHolds, ConstCandidateRefuted, ConstHolds, ConstRefuted}
use Rattle.goal_lists.specs.ConstRules.{const_rule, lang_const_rule}
use Rattle.goal_lists.specs.Equality.{SameForm, OtherForm, EqualByForm, UnequalByForm, Equal, Unequal}
use Rattle.goal_lists.specs.Headers.{is_parameter, has_place, mentions, StepInto, Part, AllAreKnown, InstanceUnequal, StepClashes, Clash, RowClash, parameter_of, PartAmong, Known, PartsFrom, AllKnown, Fits, Clashes}
use Rattle.goal_lists.specs.ImplTerms.{said, taken, Translated, KnownTranslated, TranslationRefuted, OtherImplHolds, OtherImplKnown, OtherImplRefuted, SaidGives, SaidRefuted, ImplGives, ImplTermRefuted}
use Rattle.goal_lists.specs.Level.{Level, nothing, HasHeadForm, HeadFormRefuted}
use Rattle.goal_lists.specs.Levels.{level}
use Rattle.goal_lists.specs.Premises.{ClauseHolds, ClauseRefuted, PremiseHolds, PremiseRefuted, PremisesHold, PremisesRefuted}
use Rattle.goal_lists.specs.Projections.{EquationGives, EquationRefuted, AssumptionGives, AssumptionTermRefuted, ListedGives, ListedRefuted, CandidateGives, TermRefuted, GroupGives, GroupRefuted, OwnFormed, OwnUnformed, GroupsGive, GroupsRefuted, ItemGives, ItemRefuted, ProjectionGives, ProjectionRefuted}
use Rattle.goal_lists.specs.TraitGoals.{header_of, AssumptionHolds, AssumptionRefuted, ImplHoldsUnder, ImplHolds, ImplRefuted, TraitRuleHolds, TraitRuleRefuted, CandidateHolds, CandidateRefuted, PassedOver, Decides, TraitHolds, TraitRefuted}
use Rattle.goal_lists.specs.Words.{Each, Exists, Pairs, SomePair, OfRow, Either}
use Rattle.goal_lists.proofs.SpecializedLemmas.{listed_in, decides-none, passed_over-none}

-- opens all definitions
unfoldable pub opened : Unit {0}
unfolding folded folded_node depth_below argument_of kind_of kind_of_head erased some_node some_node_outside_aliases has_error
    InherentGives InherentRefuted InherentAliasGives InherentAliasRefuted ValueGives ValueRefuted FreeGives FreeRefuted OpaqueGives OpaqueRefuted AliasGives AliasRefuted
    sized_of_head copied_parts_of_head signature_of_head call_rule lang_rule trait_rule metadata_of_head discriminant_of_head lang_term term_rule
    bounds_of_alias bounds_of all_but_last last_of object_bounds_among object_bounds class_of classes_before all_candidates second_group
    ConstAssumptionHolds ConstAssumptionRefuted ConstImplHolds ConstImplRefuted
    ConstRuleHolds ConstRuleRefuted ConstCandidateHolds ConstCandidateRefuted ConstHolds ConstRefuted
    const_rule lang_const_rule SameForm OtherForm EqualByForm UnequalByForm Equal Unequal
    is_parameter has_place mentions StepInto Part AllAreKnown InstanceUnequal StepClashes Clash PartAmong Known PartsFrom AllKnown Fits Clashes
    said taken Translated KnownTranslated TranslationRefuted OtherImplHolds OtherImplKnown OtherImplRefuted SaidGives SaidRefuted ImplGives ImplTermRefuted
    HasHeadForm HeadFormRefuted level ClauseHolds ClauseRefuted PremiseHolds PremiseRefuted PremisesHold PremisesRefuted
    EquationGives EquationRefuted AssumptionGives AssumptionTermRefuted ListedGives ListedRefuted CandidateGives TermRefuted GroupGives GroupRefuted OwnFormed OwnUnformed
    GroupsGive GroupsRefuted ItemGives ItemRefuted ProjectionGives ProjectionRefuted
    AssumptionHolds AssumptionRefuted ImplHoldsUnder ImplHolds ImplRefuted TraitRuleHolds TraitRuleRefuted CandidateHolds CandidateRefuted TraitHolds TraitRefuted
    Each Exists Pairs SomePair OfRow Either
opened = tt

-- a candidate that lists no more special impls decides, and is ruled out only where it is refuted
pub alone : (S : Setting) (L : Level) (args : List Tree) (x : Candidate) → listed_in x ≡ [] → Decides S L args x
alone S L args x e = decides-none S L args x e

pub only_refuted : (S : Setting) (L : Level) (args : List Tree) (x : Candidate) → listed_in x ≡ [] → {A : Type 0} → A ⊎ PassedOver S L args x → A
only_refuted S L args x e (inl h) = h
only_refuted S L args x e (inr h) = absurd (passed_over-none S L args x e h)

-- at height 1 no projection has a term, nor is it refuted to have one
no_item_at_one : (S : Setting) (k : AliasTermKind) (args : List Tree) (u : Tree) (q : ItemRow) (r : TraitRow) → ItemGives S (level S 0) k args u q r → ⊥
unfolding opened
no_item_at_one S k [] u q r h = h
no_item_at_one S k (self ∷ args) u q r h = h.2

no_item_refuted_at_one : (S : Setting) (k : AliasTermKind) (args : List Tree) (q : ItemRow) (r : TraitRow) → ItemRefuted S (level S 0) k args q r → ⊥
unfolding opened
no_item_refuted_at_one S k [] q r h = h
no_item_refuted_at_one S k (self ∷ args) q r (inl h) = h
no_item_refuted_at_one S k (self ∷ args) q r (inr h) = h.2

-- what no row has, no row that may be missing has
no_row : {A : Type 0} (o : Option A) (P : A → Type 0) → ((r : A) → P r → ⊥) → OfRow o P → ⊥
unfolding OfRow
no_row None P f h = h
no_row (Some r) P f h = f r h

pub no_projection_at_one : (S : Setting) (i : ItemId) (args : List Tree) (u : Tree) → (level S 1).gives (ProjectionTy i) args u → ⊥
unfolding level AliasGives ProjectionGives
no_projection_at_one S i args u h =
    no_row (item_of S.tables i) (λ q. OfRow (trait_of S.tables q.trait_id) (ItemGives S (level S 0) (ProjectionTy i) args u q))
    (λ q. no_row (trait_of S.tables q.trait_id) (ItemGives S (level S 0) (ProjectionTy i) args u q) (no_item_at_one S (ProjectionTy i) args u q)) h

pub no_projection_refuted_at_one : (S : Setting) (i : ItemId) (args : List Tree) → (level S 1).gives_refuted (ProjectionTy i) args → ⊥
unfolding level AliasRefuted ProjectionRefuted
no_projection_refuted_at_one S i args h =
    no_row (item_of S.tables i) (λ q. OfRow (trait_of S.tables q.trait_id) (ItemRefuted S (level S 0) (ProjectionTy i) args q))
    (λ q. no_row (trait_of S.tables q.trait_id) (ItemRefuted S (level S 0) (ProjectionTy i) args q) (no_item_refuted_at_one S (ProjectionTy i) args q)) h

-- at height 1 no trait holds as a const trait, nor is it refuted to
pub no_const_at_one : (S : Setting) (c : BoundConstness) (i : TraitId) (args : List Tree) → (level S 1).const_holds c i args → ⊥
unfolding level ConstHolds
no_const_at_one S c i [] h = h
no_const_at_one S c i (self ∷ args) h = h.2

pub no_const_refuted_at_one : (S : Setting) (c : BoundConstness) (i : TraitId) (args : List Tree) → (level S 1).const_refuted c i args → ⊥
unfolding level ConstRefuted
no_const_refuted_at_one S c i [] h = h
no_const_refuted_at_one S c i (self ∷ args) (inl h) = h
no_const_refuted_at_one S c i (self ∷ args) (inr h) = h.2

-- numbers that a test tells apart
pub differs : {m n : ℕ} → T (not (eqb m n)) → m ≢ n
differs {m} {n} t e = subst (λ b. T (not b)) (eq-eqb m n e) t

-- traits of two numbers
pub other_trait : (m n : ℕ) → T (not (eqb m n)) → trait m ≢ trait n
other_trait m n t e = differs t (ap (λ i. i.0) e)

-- constructors of the examples, by numbers
abbrev pub number_of_unsigned : UintTy → ℕ
number_of_unsigned unsigned.U8 = 110
number_of_unsigned unsigned.U16 = 111
number_of_unsigned unsigned.U32 = 112
number_of_unsigned unsigned.U64 = 113
number_of_unsigned _ = 119

abbrev pub number_of : Head → ℕ
number_of (head.Adt a n) = a.0
number_of head.Str = 100
number_of head.Bool = 101
number_of (head.Uint u) = number_of_unsigned u
number_of (head.TyError n) = 130
number_of (head.TyParam n) = 140
number_of _ = 150

pub apart : (h k : Head) → number_of h ≢ number_of k → h ≢ k
apart h k f e = f (ap number_of e)

-- tops of trees, by numbers
abbrev pub number_of_node : Node → ℕ
number_of_node (nodes.Head h) = number_of h
number_of_node (nodes.Alias k) = 200
number_of_node (nodes.Variable v) = 201

pub other_tree : (t u : Tree) → number_of_node (node_of t) ≢ number_of_node (node_of u) → t ≢ u
other_tree t u f e = f (ap (λ x. number_of_node (node_of x)) e)

pub other_node : (m n : Node) → number_of_node m ≢ number_of_node n → m ≢ n
other_node m n f e = f (ap number_of_node e)

-- a header that is a constructor clashes with another constructor
at_head : (L : Level) (K : ℕ → Tree → Type 0) (h k : Head) (us ts : Trees) → is_some (parameter_of h) ≡ false → h ≢ k → Clash L K (node h us) (node k ts)
unfolding Clash StepClashes Either
at_head L K h k us ts e f = subst (λ b. Either b (InstanceUnequal L K (node h us) (node k ts)) ((h ≢ k) ⊎ RowClash L K us ts)) (sym e) (inl f)

pub header_clashes :
    (S : Setting) (n : ℕ) (r : ImplRow) (h k : Head) (us ts : Trees)
    → header_of r ≡ node h us ∷ [] → is_some (parameter_of h) ≡ false → h ≢ k → ImplRefuted S.mode (level S n) (node k ts ∷ []) r
unfolding level Clashes SomePair ImplRefuted
header_clashes S zero r h k us ts e p f =
    inr (inl (subst (λ hs. Clashes (level S zero) r.params.items hs (node k ts ∷ [])) (sym e) (inl (at_head nothing _ h k us ts p f))))
header_clashes S (suc n) r h k us ts e p f =
    inr (inl (subst (λ hs. Clashes (level S (suc n)) r.params.items hs (node k ts ∷ [])) (sym e) (inl (at_head (level S n) _ h k us ts p f))))

-- the headers of the impls of `Tr`
pub header-y : header_of not_tr_for_y ≡ y_ty ∷ []
unfolding erased
header-y = ap (λ t. erased t ∷ []) (tree_of_arg-Ty _ ∙ tree_of_ty-Adt _ _)

pub header-z : header_of tr_for_z ≡ z_ty ∷ []
unfolding erased
header-z = ap (λ t. erased t ∷ []) (tree_of_arg-Ty _ ∙ tree_of_ty-Adt _ _)

pub header-w : header_of tr_for_w ≡ w_ty ∷ []
unfolding erased
header-w = ap (λ t. erased t ∷ []) (tree_of_arg-Ty _ ∙ tree_of_ty-Adt _ _)

pub header-str : header_of tr_for_str ≡ str_ty ∷ []
unfolding erased
header-str = ap (λ t. erased t ∷ []) (tree_of_arg-Ty _ ∙ tree_of_ty-Str)

-- they clash with other types
pub not_y : (S : Setting) (n : ℕ) (k : Head) (ts : Trees) → T (not (eqb 4 (number_of k))) → ImplRefuted S.mode (level S n) (node k ts ∷ []) not_tr_for_y
not_y S n k ts t = header_clashes S n not_tr_for_y (head.Adt (adt 4) 0) k none ts header-y refl (apart _ k (differs t))

pub not_z : (S : Setting) (n : ℕ) (k : Head) (ts : Trees) → T (not (eqb 5 (number_of k))) → ImplRefuted S.mode (level S n) (node k ts ∷ []) tr_for_z
not_z S n k ts t = header_clashes S n tr_for_z (head.Adt (adt 5) 0) k none ts header-z refl (apart _ k (differs t))

pub not_w : (S : Setting) (n : ℕ) (k : Head) (ts : Trees) → T (not (eqb 7 (number_of k))) → ImplRefuted S.mode (level S n) (node k ts ∷ []) tr_for_w
not_w S n k ts t = header_clashes S n tr_for_w (head.Adt (adt 7) 0) k none ts header-w refl (apart _ k (differs t))

pub not_str : (S : Setting) (n : ℕ) (k : Head) (ts : Trees) → T (not (eqb 100 (number_of k))) → ImplRefuted S.mode (level S n) (node k ts ∷ []) tr_for_str
not_str S n k ts t = header_clashes S n tr_for_str head.Str k none ts header-str refl (apart _ k (differs t))
