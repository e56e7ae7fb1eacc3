-- What is found of a projection through a class, and what that says one height above.
use Rattle.std.proofs.Common.{◌≡◌, inl, inr, ℕ, suc, true, List, [], ◌∷◌, length, take, Option, Some, None, sym, subst, subst₂, ◌∙◌, Result, Ok, Err, ⊎_elim}
use Rattle.std.specs.Prelude.{IfOk}
use Rattle.goal_terms.specs.Tree.{Tree, alias, forest}
use Rattle.goal_terms.specs.declared.answers.TraitGoalProvenVia.{TraitGoalProvenVia}
use Rattle.goal_terms.specs.declared.answers.Certainty.{Certainty}
use Rattle.goal_terms.specs.declared.answers.Certainty.TheVariants as certainty
use Rattle.goal_terms.specs.declared.answers.Response.{Response}
use Rattle.goal_terms.specs.declared.ids.ItemId.{ItemId}
use Rattle.goal_terms.specs.declared.modes.TypingMode.{TypingMode}
use Rattle.goal_terms.specs.declared.predicates.Clause.{Clause}
use Rattle.goal_terms.specs.declared.predicates.NormalizesTo.{NormalizesTo}
use Rattle.goal_terms.specs.declared.terms.AliasTermKind.{AliasTermKind}
use Rattle.goal_terms.specs.declared.terms.AliasTermKind.TheVariants.{ProjectionTy, ProjectionConst}
use Rattle.goal_terms.specs.declared.terms.Term.{Term}
use Rattle.goal_tables.specs.Rows.{item_of, trait_of}
use Rattle.goal_tables.specs.declared.rows.ItemRow.{ItemRow}
use Rattle.goal_tables.specs.declared.rows.TraitRow.{TraitRow}
use Rattle.goal_lists.specs.Aliases.{AliasGives, AliasRefuted}
use Rattle.goal_lists.specs.Answers.{setting_of}
use Rattle.goal_lists.specs.Candidates.{Candidate, environment, second_group}
use Rattle.goal_lists.specs.ImplTerms.{Projection, own_args}
use Rattle.goal_lists.specs.Laws.{IsConsistent}
use Rattle.goal_lists.specs.Level.{Level}
use Rattle.goal_lists.specs.Levels.{level}
use Rattle.goal_lists.specs.Projections.{projected_item, OwnFormed, OwnUnformed, GroupsGive, GroupsRefuted, ItemGives, ItemRefuted, ProjectionGives, ProjectionRefuted}
use Rattle.goal_lists.specs.Settings.{Setting}
use Rattle.goal_lists.specs.Words.{OfRow}
use Rattle.goal_kinds.specs.declared.faults.Fault.{Fault}
use Rattle.goal_kinds.specs.declared.faults.Fault.TheVariants as fault
use Rattle.goal_lists.proofs.ConsistentLemmas.{each_level_is_consistent}
use Rattle.goal_lists.proofs.ContraryWords.{Exists-Each, OfRow-twice}
use Rattle.goal_lists.proofs.EqualLemmas.{one_head_form, no_head_form_refuted}
use Rattle.goal_lists.proofs.ProjectionLemmas.{one_group_term, no_group_refuted}
use Rattle.goal_eval.specs.ErasedArgs.{erased_args}
use Rattle.goal_solver.specs.ThroughClasses.{SoundThrough, DecidesThrough}
use Rattle.goal_solver.specs.Answers.{IsOwed, level_over, is_closed_alias, expected_variable, IsMaybe, IsAliasResponse, IsAliasAnswer, IsAliasOpen}
use Rattle.goal_solver.specs.Assembled.{level_above, OfItem, HoldsThrough, level_through}
use Rattle.goal_eval.specs.Outcomes.{SaysWhich}
use Rattle.goal_eval.specs.ProjectionParts.{ThroughGives, ThroughRefuted, replaced, ReplacedGives, ReplacedRefuted}
use Rattle.goal_solver.specs.State.{State}
use Rattle.goal_eval.specs.declared.eval.outcomes.Found as founds
use Rattle.goal_eval.proofs.MergingLemmas.{which-map}
use Rattle.goal_lists.proofs.ResultLemmas.{ok-map}

-- an alias that projects no item, or whose item or trait has no row, says nothing
pub item-missing : (S : Setting) (k : AliasTermKind) (P : ItemRow → TraitRow → Type 0) → None ≡ projected_item k → OfItem S k P → ⊥
unfolding OfRow
item-missing S k P e h = subst (λ (o : Option ItemId). OfRow o (λ i. OfRow (item_of S.tables i) (λ q. OfRow (trait_of S.tables q.trait_id) (P q)))) (sym e) h

pub item-rowless : (S : Setting) (k : AliasTermKind) (P : ItemRow → TraitRow → Type 0) (i : ItemId) → Some i ≡ projected_item k → None ≡ item_of S.tables i → OfItem S k P → ⊥
unfolding OfRow
item-rowless S k P i e f h =
    subst (λ (o : Option ItemRow). OfRow o (λ q. OfRow (trait_of S.tables q.trait_id) (P q))) (sym f)
    (subst (λ (o : Option ItemId). OfRow o (λ j. OfRow (item_of S.tables j) (λ q. OfRow (trait_of S.tables q.trait_id) (P q)))) (sym e) h)

pub item-traitless : (S : Setting) (k : AliasTermKind) (P : ItemRow → TraitRow → Type 0) (i : ItemId) (q : ItemRow) → Some i ≡ projected_item k → Some q ≡ item_of S.tables i →
    None ≡ trait_of S.tables q.trait_id → OfItem S k P → ⊥
unfolding OfRow
item-traitless S k P i q e f g h =
    subst (λ (o : Option TraitRow). OfRow o (P q)) (sym g)
    (subst (λ (o : Option ItemRow). OfRow o (λ x. OfRow (trait_of S.tables x.trait_id) (P x))) (sym f)
    (subst (λ (o : Option ItemId). OfRow o (λ j. OfRow (item_of S.tables j) (λ x. OfRow (trait_of S.tables x.trait_id) (P x)))) (sym e) h))

pub nothing-said : (S : Setting) (L : Level) (c : TraitGoalProvenVia) (k : AliasTermKind) (ts : List Tree) → ((P : ItemRow → TraitRow → Type 0) → OfItem S k P → ⊥) →
    ((u : Tree) → (level_through S L c).gives k ts u → ⊥) × ((level_through S L c).gives_refuted k ts → ⊥)
nothing-said S L c k ts none = (
  λ u h. none (λ q r. ThroughGives S L k q (length r.params.items) c ts u) h,
  λ h. none (λ q r. ThroughRefuted S L k q (length r.params.items) c ts) h,
)

-- with both rows it says what they do
rows-say : (S : Setting) (k : AliasTermKind) (P : ItemRow → TraitRow → Type 0) (i : ItemId) (q : ItemRow) (r : TraitRow) → Some i ≡ projected_item k → Some q ≡ item_of S.tables i →
    Some r ≡ trait_of S.tables q.trait_id → P q r → OfItem S k P
unfolding OfRow
rows-say S k P i q r e f g h =
    subst (λ (o : Option ItemId). OfRow o (λ j. OfRow (item_of S.tables j) (λ x. OfRow (trait_of S.tables x.trait_id) (P x)))) e
    (subst (λ (o : Option ItemRow). OfRow o (λ x. OfRow (trait_of S.tables x.trait_id) (P x))) f
    (subst (λ (o : Option TraitRow). OfRow o (P q)) g h))

rows-said : (S : Setting) (k : AliasTermKind) (P : ItemRow → TraitRow → Type 0) (i : ItemId) (q : ItemRow) (r : TraitRow) → Some i ≡ projected_item k → Some q ≡ item_of S.tables i →
    Some r ≡ trait_of S.tables q.trait_id → OfItem S k P → P q r
unfolding OfRow
rows-said S k P i q r e f g h =
    subst (λ (o : Option TraitRow). OfRow o (P q)) (sym g)
    (subst (λ (o : Option ItemRow). OfRow o (λ x. OfRow (trait_of S.tables x.trait_id) (P x))) (sym f)
    (subst (λ (o : Option ItemId). OfRow o (λ j. OfRow (item_of S.tables j) (λ x. OfRow (trait_of S.tables x.trait_id) (P x)))) (sym e) h))

-- what is found by the rows is found of the alias
pub class-says : {E : Type 0} (S : Setting) (L : Level) (c : TraitGoalProvenVia) (k : AliasTermKind) (i : ItemId) (q : ItemRow) (r : TraitRow) → Some i ≡ projected_item k → Some q ≡ item_of S.tables i →
    Some r ≡ trait_of S.tables q.trait_id → (n : ℕ) → n ≡ length r.params.items → (us ts V : List Tree) → us ≡ ts → (x : Result founds.Found E) →
    IfOk x (SaysWhich (ThroughGives S L k q n c us) (ThroughRefuted S L k q n c us) V) →
    IfOk x (SaysWhich ((level_through S L c).gives k ts) ((level_through S L c).gives_refuted k ts) V)
class-says S L c k i q r e f g n o us ts V p x h =
    ok-map (SaysWhich (ThroughGives S L k q (length r.params.items) c ts) (ThroughRefuted S L k q (length r.params.items) c ts) V)
    (SaysWhich ((level_through S L c).gives k ts) ((level_through S L c).gives_refuted k ts) V) x
    (which-map (ThroughGives S L k q (length r.params.items) c ts) ((level_through S L c).gives k ts)
    (ThroughRefuted S L k q (length r.params.items) c ts) ((level_through S L c).gives_refuted k ts) V
    (λ u. rows-say S k (λ y z. ThroughGives S L k y (length z.params.items) c ts u) i q r e f g)
    (λ u. rows-said S k (λ y z. ThroughGives S L k y (length z.params.items) c ts u) i q r e f g)
    (rows-say S k (λ y z. ThroughRefuted S L k y (length z.params.items) c ts) i q r e f g)
    (rows-said S k (λ y z. ThroughRefuted S L k y (length z.params.items) c ts) i q r e f g))
    (subst (λ ws. IfOk x (SaysWhich (ThroughGives S L k q (length r.params.items) c ws) (ThroughRefuted S L k q (length r.params.items) c ws) V)) p
    (subst (λ m. IfOk x (SaysWhich (ThroughGives S L k q m c us) (ThroughRefuted S L k q m c us) V)) o h))

-- the groups of candidates give one term, and then they aren't refuted
own-formed : (L : Level) → IsConsistent L → (p : Projection) → OwnFormed L p → OwnUnformed L p → ⊥
unfolding OwnFormed OwnUnformed
own-formed L laws p h k = Exists-Each _ _ (λ a x y. no_head_form_refuted L laws.no_term_refuted a y.0 y.1 x) (own_args p) k h

groups-one : (S : Setting) (L : Level) → IsConsistent L → (c : TraitGoalProvenVia) (p : Projection) (rigid_alias given : Tree) (xs : List Candidate) (t u : Tree) →
    GroupsGive S L c p rigid_alias given xs t → GroupsGive S L c p rigid_alias given xs u → t ≡ u
unfolding GroupsGive
groups-one S L laws c p rigid_alias given xs t u (inl x) (inl y) = one_group_term S L laws p rigid_alias (environment S) t u x.0 y.0
groups-one S L laws c p rigid_alias given xs t u (inl x) (inr (inl y)) = absurd (no_group_refuted S L laws p rigid_alias (environment S) t x.0 y.0)
groups-one S L laws c p rigid_alias given xs t u (inl x) (inr (inr y)) = absurd (no_group_refuted S L laws p rigid_alias (environment S) t x.0 y.0)
groups-one S L laws c p rigid_alias given xs t u (inr (inl x)) (inl y) = absurd (no_group_refuted S L laws p rigid_alias (environment S) u y.0 x.0)
groups-one S L laws c p rigid_alias given xs t u (inr (inl x)) (inr (inl y)) = one_group_term S L laws p rigid_alias xs t u x.1 y.1
groups-one S L laws c p rigid_alias given xs t u (inr (inl x)) (inr (inr y)) = absurd (no_group_refuted S L laws p rigid_alias xs t x.1 y.1)
groups-one S L laws c p rigid_alias given xs t u (inr (inr x)) (inl y) = absurd (no_group_refuted S L laws p rigid_alias (environment S) u y.0 x.0)
groups-one S L laws c p rigid_alias given xs t u (inr (inr x)) (inr (inl y)) = absurd (no_group_refuted S L laws p rigid_alias xs u y.1 x.1)
groups-one S L laws c p rigid_alias given xs t u (inr (inr x)) (inr (inr y)) = x.3 ∙ sym y.3

groups-given : (S : Setting) (L : Level) → IsConsistent L → (c : TraitGoalProvenVia) (p : Projection) (rigid_alias given : Tree) (xs : List Candidate) (t : Tree) →
    GroupsGive S L c p rigid_alias given xs t → GroupsRefuted S L c p rigid_alias xs → ⊥
unfolding GroupsGive GroupsRefuted
groups-given S L laws c p rigid_alias given xs t (inl x) (inl y) = no_group_refuted S L laws p rigid_alias (environment S) t x.0 y.0
groups-given S L laws c p rigid_alias given xs t (inl x) (inr (inl y)) = own-formed L laws p x.1 y.1
groups-given S L laws c p rigid_alias given xs t (inl x) (inr (inr y)) = no_group_refuted S L laws p rigid_alias (environment S) t x.0 y.0
groups-given S L laws c p rigid_alias given xs t (inr (inl x)) (inl y) = no_group_refuted S L laws p rigid_alias xs t x.1 y.1
groups-given S L laws c p rigid_alias given xs t (inr (inl x)) (inr (inl y)) = no_group_refuted S L laws p rigid_alias (environment S) y.0.0 y.0.1 x.0
groups-given S L laws c p rigid_alias given xs t (inr (inl x)) (inr (inr y)) = ⊎_elim (λ m. y.2 m) (λ o. own-formed L laws p o y.3) x.2
groups-given S L laws c p rigid_alias given xs t (inr (inr x)) (inl y) = x.2 y.2
groups-given S L laws c p rigid_alias given xs t (inr (inr x)) (inr (inl y)) = no_group_refuted S L laws p rigid_alias (environment S) y.0.0 y.0.1 x.0
groups-given S L laws c p rigid_alias given xs t (inr (inr x)) (inr (inr y)) = no_group_refuted S L laws p rigid_alias xs y.1.0 y.1.1 x.1

-- so a projection has one term through a class, and then isn't refuted through it
through-one : (S : Setting) (L : Level) → IsConsistent L → (k : AliasTermKind) (q : ItemRow) (n : ℕ) (c : TraitGoalProvenVia) (ts : List Tree) (t u : Tree) →
    ThroughGives S L k q n c ts t → ThroughGives S L k q n c ts u → t ≡ u
through-one S L laws k q n c [] t u x y = absurd x
through-one S L laws k q n c (self ∷ args) t u x y =
    groups-one S L laws c (replaced q n x.0 (self ∷ args)) (alias k (forest (x.0 ∷ args))) (alias k (forest (self ∷ args))) (second_group S q.trait_id x.0 c) t u x.2
    (subst (λ s. ReplacedGives S L k q n c (self ∷ args) s u) (one_head_form L laws.one_term self y.0 x.0 y.1 x.1) y.2)

through-given : (S : Setting) (L : Level) → IsConsistent L → (k : AliasTermKind) (q : ItemRow) (n : ℕ) (c : TraitGoalProvenVia) (ts : List Tree) (t : Tree) →
    ThroughGives S L k q n c ts t → ThroughRefuted S L k q n c ts → ⊥
through-given S L laws k q n c [] t x y = x
through-given S L laws k q n c (self ∷ args) t x y =
    groups-given S L laws c (replaced q n x.0 (self ∷ args)) (alias k (forest (x.0 ∷ args))) (alias k (forest (self ∷ args))) (second_group S q.trait_id x.0 c) t x.2
    (subst (λ s. ReplacedRefuted S L k q n c (self ∷ args) s) (one_head_form L laws.one_term self y.0 x.0 y.1 x.1) y.2)

pub class-one : (S : Setting) (L : Level) → IsConsistent L → (c : TraitGoalProvenVia) (k : AliasTermKind) (ts : List Tree) (t u : Tree) →
    (level_through S L c).gives k ts t → (level_through S L c).gives k ts u → t ≡ u
class-one S L laws c k ts t u x y =
    OfRow-twice _ _ (λ i v w. OfRow-twice _ _ (λ q v w. OfRow-twice _ _ (λ r. through-one S L laws k q (length r.params.items) c ts t u) (trait_of S.tables q.trait_id) v w) (item_of S.tables i) v w) (projected_item k) x y

pub class-given : (S : Setting) (L : Level) → IsConsistent L → (c : TraitGoalProvenVia) (k : AliasTermKind) (ts : List Tree) (t : Tree) →
    (level_through S L c).gives k ts t → (level_through S L c).gives_refuted k ts → ⊥
class-given S L laws c k ts t x y =
    OfRow-twice _ _ (λ i v w. OfRow-twice _ _ (λ q v w. OfRow-twice _ _ (λ r. through-given S L laws k q (length r.params.items) c ts t) (trait_of S.tables q.trait_id) v w) (item_of S.tables i) v w) (projected_item k) x y

-- two questions of terms mean the same: what each gives the other gives, and what is refuted of one is refuted of the other
abbrev pub MeansSame : (Tree → Type 0) → (Tree → Type 0) → Type 0 → Type 0 → Type 0
MeansSame P Q R Z = ((u : Tree) → P u → Q u) × ((u : Tree) → Q u → P u) × (R → Z) × (Z → R)

-- where the trait goal holds through a class, that class decides
item-same : (S : Setting) (L : Level) → IsConsistent L → (k : AliasTermKind) (ts : List Tree) (c : TraitGoalProvenVia) (q : ItemRow) (r : TraitRow) →
    L.through c q.trait_id (take (length r.params.items) ts) →
    MeansSame (ThroughGives S L k q (length r.params.items) c ts) (λ u. ItemGives S L k ts u q r) (ThroughRefuted S L k q (length r.params.items) c ts) (ItemRefuted S L k ts q r)
unfolding ItemGives ItemRefuted
item-same S L laws k [] c q r h = (λ u x. x, λ u x. x, λ x. x, λ x. x)
item-same S L laws k (self ∷ rest) c q r h =
    let one : (d : TraitGoalProvenVia) → L.through d q.trait_id (take (length r.params.items) (self ∷ rest)) → d ≡ c =
    λ d x. laws.one_class d c q.trait_id (take (length r.params.items) (self ∷ rest)) x h in (
      λ u x. (c, x.0, h, x.1, x.2),
      λ u x. subst (λ d. ThroughGives S L k q (length r.params.items) d (self ∷ rest) u) (one x.0 x.2) (x.1, x.3, x.4),
      λ x. inr (c, x.0, h, x.1, x.2),
      λ x.
          ⊎_elim (λ y. absurd (laws.no_trait_refuted c q.trait_id (take (length r.params.items) (self ∷ rest)) h y))
          (λ y. subst (λ d. ThroughRefuted S L k q (length r.params.items) d (self ∷ rest)) (one y.0 y.2) (y.1, y.3, y.4)) x,
    )

row-same : {A : Type 0} (H : A → Type 0) (P Q : A → Tree → Type 0) (R Z : A → Type 0) → ((x : A) → H x → MeansSame (P x) (Q x) (R x) (Z x)) → (o : Option A) → OfRow o H →
    MeansSame (λ u. OfRow o (λ x. P x u)) (λ u. OfRow o (λ x. Q x u)) (OfRow o R) (OfRow o Z)
unfolding OfRow
row-same H P Q R Z f None h = absurd h
row-same H P Q R Z f (Some x) h = f x h

projection-same : (S : Setting) (L : Level) → IsConsistent L → (k : AliasTermKind) (ts : List Tree) (c : TraitGoalProvenVia) (i : ItemId) →
    OfRow (item_of S.tables i) (λ q. OfRow (trait_of S.tables q.trait_id) (λ r. L.through c q.trait_id (take (length r.params.items) ts))) →
    MeansSame (λ u. OfRow (item_of S.tables i) (λ q. OfRow (trait_of S.tables q.trait_id) (λ r. ThroughGives S L k q (length r.params.items) c ts u))) (ProjectionGives S L k i ts)
    (OfRow (item_of S.tables i) (λ q. OfRow (trait_of S.tables q.trait_id) (λ r. ThroughRefuted S L k q (length r.params.items) c ts))) (ProjectionRefuted S L k i ts)
unfolding ProjectionGives ProjectionRefuted
projection-same S L laws k ts c i h =
    row-same (λ q. OfRow (trait_of S.tables q.trait_id) (λ r. L.through c q.trait_id (take (length r.params.items) ts)))
    (λ q u. OfRow (trait_of S.tables q.trait_id) (λ r. ThroughGives S L k q (length r.params.items) c ts u)) (λ q u. OfRow (trait_of S.tables q.trait_id) (ItemGives S L k ts u q))
    (λ q. OfRow (trait_of S.tables q.trait_id) (λ r. ThroughRefuted S L k q (length r.params.items) c ts)) (λ q. OfRow (trait_of S.tables q.trait_id) (ItemRefuted S L k ts q))
    (λ q.
    row-same (λ r. L.through c q.trait_id (take (length r.params.items) ts)) (λ r u. ThroughGives S L k q (length r.params.items) c ts u) (λ r u. ItemGives S L k ts u q r)
    (λ r. ThroughRefuted S L k q (length r.params.items) c ts) (λ r. ItemRefuted S L k ts q r) (item-same S L laws k ts c q) (trait_of S.tables q.trait_id))
    (item_of S.tables i) h

-- so the alias has the same terms one height above
pub above-same : (S : Setting) (n : ℕ) (k : AliasTermKind) (ts : List Tree) (c : TraitGoalProvenVia) → HoldsThrough S (level S n) c k ts →
    MeansSame ((level_through S (level S n) c).gives k ts) ((level S (suc n)).gives k ts) ((level_through S (level S n) c).gives_refuted k ts) ((level S (suc n)).gives_refuted k ts)
unfolding level OfRow AliasGives AliasRefuted
above-same S n (ProjectionTy i) ts c h = projection-same S (level S n) (each_level_is_consistent S n) (ProjectionTy i) ts c i h
above-same S n (ProjectionConst i) ts c h = projection-same S (level S n) (each_level_is_consistent S n) (ProjectionConst i) ts c i h
above-same S n k ts c h = absurd h

-- an answer through the class is one above
response-map : (L M : Level) (k : AliasTermKind) (ts : List Tree) (e : Term) → ((u : Tree) → L.gives k ts u → M.gives k ts u) → (x : Response) (y : Certainty) →
    IsAliasResponse L k ts e y x → IsAliasResponse M k ts e y x
response-map L M k ts e f x certainty.Yes h = (h.0, f h.0 h.1, h.2)
response-map L M k ts e f x certainty.Maybe h = tt

answer-map : (L M : Level) (k : AliasTermKind) (ts : List Tree) (e : Term) → ((u : Tree) → L.gives k ts u → M.gives k ts u) → (L.gives_refuted k ts → M.gives_refuted k ts) →
    (r : Result Response Fault) → IsAliasAnswer L k ts e r → IsAliasAnswer M k ts e r
answer-map L M k ts e f g (Ok x) h = response-map L M k ts e f x x.certainty h
answer-map L M k ts e f g (Err fault.NoSolution) h = g h
answer-map L M k ts e f g (Err x) h = tt

pub answer-above : (S : Setting) (n : ℕ) (k : AliasTermKind) (ts : List Tree) (c : TraitGoalProvenVia) (e : Term) (r : Result Response Fault) → HoldsThrough S (level S n) c k ts →
    IsAliasAnswer (level_through S (level S n) c) k ts e r → IsAliasAnswer (level S (suc n)) k ts e r
answer-above S n k ts c e r h a =
    let same = above-same S n k ts c h in
    answer-map (level_through S (level S n) c) (level S (suc n)) k ts e same.0 same.2 r a

-- and what is undecided through it is undecided above
pub open-above : (S : Setting) (n : ℕ) (k : AliasTermKind) (ts : List Tree) (c : TraitGoalProvenVia) → HoldsThrough S (level S n) c k ts →
    IsAliasOpen (level_through S (level S n) c) k ts → IsAliasOpen (level S (suc n)) k ts
open-above S n k ts c h a =
    let same = above-same S n k ts c h in
    (λ t y z. a.0 t y (same.1 t z), λ z. a.1 (same.3 z))

-- that is the alias's answer one above, where its trait goal holds through the class
abbrev HoldsAt : State → TypingMode → TraitGoalProvenVia → NormalizesTo → List Clause → Type 0
HoldsAt a m c q env = HoldsThrough (setting_of a.tables m env) (level_over a m env) c q.alias.kind (erased_args q.alias.args.items)

pub answers-above : (a z : State) (c : TraitGoalProvenVia) (p q : NormalizesTo) (es env : List Clause) (r : Result Response Fault) → Some p ≡ Some q → es ≡ env → SoundThrough a z c p es r →
    (m : TypingMode) → IsOwed z m → HoldsAt a m c q env → IsAliasAnswer (level_above a m env) q.alias.kind (erased_args q.alias.args.items) q.term r
answers-above a z c p q es env r e f h m owed holds =
    let same : p ≡ q = cc in
    answer-above (setting_of a.tables m env) a.remaining_depth q.alias.kind (erased_args q.alias.args.items) c q.term r holds
    (subst₂ (λ x y. SoundThrough a z c x y r) same f h m owed)

pub decides-above : (a z : State) (c : TraitGoalProvenVia) (p q : NormalizesTo) (es env : List Clause) (r : Result Response Fault) → Some p ≡ Some q → es ≡ env → DecidesThrough a z c p es r →
    (m : TypingMode) (n : ℕ) → IsOwed z m → HoldsAt a m c q env → is_closed_alias q.alias env ≡ true → expected_variable q.term ≡ Some n → IsMaybe r →
    IsAliasOpen (level_above a m env) q.alias.kind (erased_args q.alias.args.items)
decides-above a z c p q es env r e f h m n owed holds closed expected undecided =
    let same : p ≡ q = cc in
    open-above (setting_of a.tables m env) a.remaining_depth q.alias.kind (erased_args q.alias.args.items) c holds
    (subst₂ (λ x y. DecidesThrough a z c x y r) same f h m n owed closed expected undecided)
