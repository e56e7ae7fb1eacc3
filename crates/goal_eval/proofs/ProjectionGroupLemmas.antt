-- What is found of the groups of candidates, and what that says of the projection.
use Rattle.std.proofs.Common.{◌≡◌, ◌≢◌, inl, inr, ℕ, ◌<◌, Bool, true, false, List, [], ◌∷◌, length, filter, get_or, take, Some, None, refl, sym, subst, ap, ◌∙◌, arith, ⊎_elim, Result}
use Rattle.std.specs.Prelude.{IfOk, Option, ◌==◌}
use Rattle.std.proofs.Math.Dec.{eqb-suc-zero}
use Rattle.std.proofs.lemmas.Bool.{false≢true}
use Rattle.std.proofs.lemmas.List.{take-map}
use Rattle.std.proofs.lemmas.List.Elements.{All-cons, All-tail}
use Rattle.goal_interner.specs.TableMeaning.{Keeps}
use Rattle.goal_terms.specs.Tree.{Tree, alias, forest}
use Rattle.goal_terms.specs.declared.answers.TraitGoalProvenVia.{TraitGoalProvenVia}
use Rattle.goal_terms.specs.declared.answers.TraitGoalProvenVia.TheVariants as class
use Rattle.goal_terms.specs.declared.ids.ItemId.{ItemId}
use Rattle.goal_terms.specs.declared.ids.TraitId.{TraitId}
use Rattle.goal_interner.specs.declared.term_nodes.TermId.{TermId}
use Rattle.goal_terms.specs.declared.terms.AliasTermKind.{AliasTermKind}
use Rattle.goal_tables.specs.Rows.{trait_of, item_of}
use Rattle.goal_tables.specs.declared.rows.ItemRow.{ItemRow}
use Rattle.goal_tables.specs.declared.rows.TraitRow.{TraitRow}
use Rattle.goal_lists.specs.Candidates.{Candidate, environment, second_group, class_of}
use Rattle.goal_lists.specs.Fitting.{About, near, class_fitting}
use Rattle.goal_lists.specs.ImplTerms.{Projection}
use Rattle.goal_lists.specs.Interned.{IsIn, AreIn, erased_at, erased_all}
use Rattle.goal_lists.specs.Laws.{IsConsistent}
use Rattle.goal_lists.specs.Level.{Level, HasHeadForm, HeadFormRefuted}
use Rattle.goal_lists.specs.Projections.{GroupGives, GroupRefuted, GroupsGive, GroupsRefuted, OwnUnformed, ItemGives, ItemRefuted, ProjectionGives, ProjectionRefuted}
use Rattle.goal_lists.specs.Settings.{Setting}
use Rattle.goal_lists.specs.Words.{OfRow}
use Rattle.goal_lists.proofs.EqualLemmas.{one_head_form, no_head_form_refuted}
use Rattle.goal_lists.proofs.InternedLemmas.{same-grown, are_in-grown, all_same-grown}
use Rattle.goal_lists.proofs.ProjectionLemmas.{one_group_term, no_group_refuted}
use Rattle.goal_eval.specs.Outcomes.{SaysWhich, ProjectionIn, projection_at}
use Rattle.goal_eval.specs.ProjectionParts.{rest_of, FormedGives, LaterGives, LaterRefuted, replaced, ReplacedGives, ReplacedRefuted, ThroughGives, ThroughRefuted}
use Rattle.goal_eval.specs.declared.eval.outcomes.Found as founds
use Rattle.goal_eval.specs.declared.eval.outcomes.Projection as projections
use Rattle.goal_eval.proofs.MergingLemmas.{which-map}
use Rattle.goal_lists.proofs.ResultLemmas.{ok-map}
use Rattle.goal_eval.proofs.ProjectionArgLemmas.{rest-erased}
use Rattle.goal_eval.proofs.ProjectionTermLemmas.{projection_same-grown}

-- the environment is the first class
pub class-near : (S : Setting) (s : Tree) (a : About) → class_fitting S s a class.ParamEnv ≡ filter (near a) (environment S)
unfolding class_of
class-near S s a = refl

-- where the environment's term is undecided, all is
pub groups-undecided : (S : Setting) (L : Level) (c : TraitGoalProvenVia) (p : Projection) (rigid_alias given : Tree) (second : List Candidate) →
    ((u : Tree) → GroupGives S L p rigid_alias (environment S) u → ⊥) × (GroupRefuted S L p (environment S) → ⊥) →
    ((u : Tree) → GroupsGive S L c p rigid_alias given second u → ⊥) × (GroupsRefuted S L c p rigid_alias second → ⊥)
unfolding GroupsGive GroupsRefuted
groups-undecided S L c p rigid_alias given second h = (
  λ u x. ⊎_elim (λ y. h.0 u y.0) (λ z. ⊎_elim (λ y. h.1 y.0) (λ y. h.1 y.0) z) x,
  λ x. ⊎_elim (λ y. h.1 y.0) (λ z. ⊎_elim (λ y. h.0 y.0.0 y.0.1) (λ y. h.1 y.0) z) x,
)

-- where the environment gives a term
groups-formed : (S : Setting) (L : Level) → IsConsistent L → (c : TraitGoalProvenVia) (p : Projection) (rigid_alias given : Tree) (second : List Candidate) (t : Tree) →
    GroupGives S L p rigid_alias (environment S) t → (T : List Tree) (f : founds.Found) → SaysWhich (FormedGives L p t) (OwnUnformed L p) T f →
    SaysWhich (GroupsGive S L c p rigid_alias given second) (GroupsRefuted S L c p rigid_alias second) T f
unfolding GroupsGive GroupsRefuted
groups-formed S L k c p rigid_alias given second t g T f w =
    which-map (FormedGives L p t) (GroupsGive S L c p rigid_alias given second) (OwnUnformed L p) (GroupsRefuted S L c p rigid_alias second) T
    (λ u x. inl (subst (GroupGives S L p rigid_alias (environment S)) (sym x.0) g, x.1))
    (λ u x.
    ⊎_elim (λ y. (one_group_term S L k p rigid_alias (environment S) u t y.0 g, y.1))
    (λ z. ⊎_elim (λ y. absurd (no_group_refuted S L k p rigid_alias (environment S) t g y.0)) (λ y. absurd (no_group_refuted S L k p rigid_alias (environment S) t g y.0)) z) x)
    (λ x. inr (inl ((t, g), x)))
    (λ x.
    ⊎_elim (λ y. absurd (no_group_refuted S L k p rigid_alias (environment S) t g y.0))
    (λ z. ⊎_elim (λ y. y.1) (λ y. absurd (no_group_refuted S L k p rigid_alias (environment S) t g y.0)) z) x)
    f w

-- where it gives none
groups-later : (S : Setting) (L : Level) → IsConsistent L → (c : TraitGoalProvenVia) (p : Projection) (rigid_alias given : Tree) (second : List Candidate) →
    GroupRefuted S L p (environment S) → (T : List Tree) (f : founds.Found) → SaysWhich (LaterGives S L c p rigid_alias given second) (LaterRefuted S L c p rigid_alias second) T f →
    SaysWhich (GroupsGive S L c p rigid_alias given second) (GroupsRefuted S L c p rigid_alias second) T f
unfolding GroupsGive GroupsRefuted
groups-later S L k c p rigid_alias given second r T f w =
    which-map (LaterGives S L c p rigid_alias given second) (GroupsGive S L c p rigid_alias given second) (LaterRefuted S L c p rigid_alias second) (GroupsRefuted S L c p rigid_alias second) T
    (λ u x. inr (⊎_elim (λ y. inl (r, y.0, y.1)) (λ y. inr (r, y.0, y.1, y.2)) x))
    (λ u x.
    ⊎_elim (λ y. absurd (no_group_refuted S L k p rigid_alias (environment S) u y.0 r))
    (λ z. ⊎_elim (λ y. inl (y.1, y.2)) (λ y. inr (y.1, y.2, y.3)) z) x)
    (λ x. ⊎_elim (λ y. inl (r, y.0, y.1)) (λ y. inr (inr (r, y.0, y.1, y.2))) x)
    (λ x.
    ⊎_elim (λ y. inl (y.1, y.2))
    (λ z. ⊎_elim (λ y. absurd (no_group_refuted S L k p rigid_alias (environment S) y.0.0 y.0.1 r)) (λ y. inr (y.1, y.2, y.3)) z) x)
    f w

-- where the candidates after the environment give a term, and these are the bounds alone
later-formed : (S : Setting) (L : Level) → IsConsistent L → (c : TraitGoalProvenVia) (p : Projection) (rigid_alias given : Tree) (second : List Candidate) (t : Tree) →
    c ≢ class.Misc → GroupGives S L p rigid_alias second t → (T : List Tree) (f : founds.Found) → SaysWhich (FormedGives L p t) (OwnUnformed L p) T f →
    SaysWhich (LaterGives S L c p rigid_alias given second) (LaterRefuted S L c p rigid_alias second) T f
later-formed S L k c p rigid_alias given second t n g T f w =
    which-map (FormedGives L p t) (LaterGives S L c p rigid_alias given second) (OwnUnformed L p) (LaterRefuted S L c p rigid_alias second) T
    (λ u x. inl (subst (GroupGives S L p rigid_alias second) (sym x.0) g, inr x.1))
    (λ u x.
    ⊎_elim (λ y. (one_group_term S L k p rigid_alias second u t y.0 g, ⊎_elim (λ m. absurd (n m)) (λ o. o) y.1))
    (λ y. absurd (no_group_refuted S L k p rigid_alias second t g y.0)) x)
    (λ x. inr ((t, g), n, x))
    (λ x. ⊎_elim (λ y. absurd (no_group_refuted S L k p rigid_alias second t g y.0)) (λ y. y.2) x)
    f w

-- the own arguments, from an earlier table
formed-back : (L : Level) (T U V : List Tree) → Keeps T U → (p : projections.Projection) → ProjectionIn T p → (t : Tree) (f : founds.Found) →
    SaysWhich (FormedGives L (projection_at U p) t) (OwnUnformed L (projection_at U p)) V f → SaysWhich (FormedGives L (projection_at T p) t) (OwnUnformed L (projection_at T p)) V f
formed-back L T U V k p i t f w = subst (λ q. SaysWhich (FormedGives L q t) (OwnUnformed L q) V f) (projection_same-grown T U k p i) w

pub groups-by_environment : {E : Type 0} (S : Setting) (L : Level) → IsConsistent L → (c : TraitGoalProvenVia) (T U V : List Tree) → Keeps T U → (p : projections.Projection) → ProjectionIn T p →
    (given : Tree) (second : List Candidate) (t : Tree) → GroupGives S L (projection_at T p) (erased_at T p.rigid_alias) (environment S) t → (r : Result founds.Found E) →
    IfOk r (SaysWhich (FormedGives L (projection_at U p) t) (OwnUnformed L (projection_at U p)) V) →
    IfOk r (SaysWhich (GroupsGive S L c (projection_at T p) (erased_at T p.rigid_alias) given second) (GroupsRefuted S L c (projection_at T p) (erased_at T p.rigid_alias) second) V)
groups-by_environment S L k c T U V l p i given second t g r h =
    ok-map (SaysWhich (FormedGives L (projection_at U p) t) (OwnUnformed L (projection_at U p)) V)
    (SaysWhich (GroupsGive S L c (projection_at T p) (erased_at T p.rigid_alias) given second) (GroupsRefuted S L c (projection_at T p) (erased_at T p.rigid_alias) second) V) r
    (λ f w. groups-formed S L k c (projection_at T p) (erased_at T p.rigid_alias) given second t g V f (formed-back L T U V l p i t f w)) h

pub later-by_second : {E : Type 0} (S : Setting) (L : Level) → IsConsistent L → (c : TraitGoalProvenVia) (T U V : List Tree) → Keeps T U → (p : projections.Projection) → ProjectionIn T p →
    (given : Tree) (second : List Candidate) (t : Tree) → c ≢ class.Misc → GroupGives S L (projection_at T p) (erased_at T p.rigid_alias) second t → (r : Result founds.Found E) →
    IfOk r (SaysWhich (FormedGives L (projection_at U p) t) (OwnUnformed L (projection_at U p)) V) →
    IfOk r (SaysWhich (LaterGives S L c (projection_at T p) (erased_at T p.rigid_alias) given second) (LaterRefuted S L c (projection_at T p) (erased_at T p.rigid_alias) second) V)
later-by_second S L k c T U V l p i given second t n g r h =
    ok-map (SaysWhich (FormedGives L (projection_at U p) t) (OwnUnformed L (projection_at U p)) V)
    (SaysWhich (LaterGives S L c (projection_at T p) (erased_at T p.rigid_alias) given second) (LaterRefuted S L c (projection_at T p) (erased_at T p.rigid_alias) second) V) r
    (λ f w. later-formed S L k c (projection_at T p) (erased_at T p.rigid_alias) given second t n g V f (formed-back L T U V l p i t f w)) h

-- what the later candidates say, over trees
abbrev SaysLater : Setting → Level → TraitGoalProvenVia → TraitId → List Tree → Projection → Tree → Tree → Tree → founds.Found → Type 0
SaysLater S L c i V p rigid_alias given self f =
    SaysWhich (LaterGives S L c p rigid_alias given (second_group S i self c)) (LaterRefuted S L c p rigid_alias (second_group S i self c)) V f

later-back : (S : Setting) (L : Level) (c : TraitGoalProvenVia) (i : TraitId) (T U V : List Tree) → Keeps T U → (p : projections.Projection) → ProjectionIn T p →
    (given self : TermId) → IsIn T given → IsIn T self → (f : founds.Found) →
    SaysLater S L c i V (projection_at U p) (erased_at U p.rigid_alias) (erased_at U given) (erased_at U self) f →
    SaysLater S L c i V (projection_at T p) (erased_at T p.rigid_alias) (erased_at T given) (erased_at T self) f
later-back S L c i T U V l p j given self g s f w =
    subst (λ q. SaysLater S L c i V q (erased_at T p.rigid_alias) (erased_at T given) (erased_at T self) f) (projection_same-grown T U l p j)
    (subst (λ t. SaysLater S L c i V (projection_at U p) t (erased_at T given) (erased_at T self) f) (same-grown T U l p.rigid_alias j.1)
    (subst (λ t. SaysLater S L c i V (projection_at U p) (erased_at U p.rigid_alias) t (erased_at T self) f) (same-grown T U l given g)
    (subst (λ t. SaysLater S L c i V (projection_at U p) (erased_at U p.rigid_alias) (erased_at U given) t f) (same-grown T U l self s) w)))

pub groups-by_later : {E : Type 0} (S : Setting) (L : Level) → IsConsistent L → (c : TraitGoalProvenVia) (i : TraitId) (T U V : List Tree) → Keeps T U → (p : projections.Projection) → ProjectionIn T p →
    (given self : TermId) → IsIn T given → IsIn T self → GroupRefuted S L (projection_at T p) (environment S) → (r : Result founds.Found E) →
    IfOk r (SaysWhich (LaterGives S L c (projection_at U p) (erased_at U p.rigid_alias) (erased_at U given) (second_group S i (erased_at U self) c)) (LaterRefuted S L c (projection_at U p) (erased_at U p.rigid_alias) (second_group S i (erased_at U self) c)) V) →
    IfOk r (SaysWhich (GroupsGive S L c (projection_at T p) (erased_at T p.rigid_alias) (erased_at T given) (second_group S i (erased_at T self) c)) (GroupsRefuted S L c (projection_at T p) (erased_at T p.rigid_alias) (second_group S i (erased_at T self) c)) V)
groups-by_later S L k c i T U V l p j given self g s n r h =
    ok-map (SaysLater S L c i V (projection_at U p) (erased_at U p.rigid_alias) (erased_at U given) (erased_at U self))
    (SaysWhich (GroupsGive S L c (projection_at T p) (erased_at T p.rigid_alias) (erased_at T given) (second_group S i (erased_at T self) c)) (GroupsRefuted S L c (projection_at T p) (erased_at T p.rigid_alias) (second_group S i (erased_at T self) c)) V) r
    (λ f w. groups-later S L k c (projection_at T p) (erased_at T p.rigid_alias) (erased_at T given) (second_group S i (erased_at T self) c) n V f (later-back S L c i T U V l p j given self g s f w)) h

-- the arguments with the head form of the self type are in the table
pub self_args_in : (T : List Tree) (self : TermId) (ids : List TermId) → IsIn T self → AreIn T ids → AreIn T (self ∷ rest_of ids)
self_args_in T self [] i h = All-cons (IsIn T) self [] i h
self_args_in T self (x ∷ ids) i h = All-cons (IsIn T) self ids i (All-tail (IsIn T) x ids h)

-- and what they stand for
self_args-same : (T U : List Tree) → Keeps T U → (self : TermId) (ids others : List TermId) → IsIn T self → AreIn T ids → others ≡ self ∷ rest_of ids →
    erased_all U others ≡ erased_at T self ∷ rest_of (erased_all T ids)
self_args-same T U k self ids others i h e =
    ap (erased_all U) e ∙ all_same-grown T U k (self ∷ rest_of ids) (self_args_in T self ids i h) ∙ ap (λ ts. erased_at T self ∷ ts) (rest-erased T ids)

-- they stay in a table that grows
pub self_args-grown : (T U : List Tree) → Keeps T U → (self : TermId) (ids others : List TermId) → IsIn T self → AreIn T ids → others ≡ self ∷ rest_of ids → AreIn U others
self_args-grown T U k self ids others i h e = subst (AreIn U) (sym e) (are_in-grown T U k (self ∷ rest_of ids) (self_args_in T self ids i h))

-- what the groups say, over trees
abbrev SaysGroups : Setting → Level → TraitGoalProvenVia → TraitId → List Tree → Projection → Tree → Tree → Tree → founds.Found → Type 0
SaysGroups S L c i V p rigid_alias given self f =
    SaysWhich (GroupsGive S L c p rigid_alias given (second_group S i self c)) (GroupsRefuted S L c p rigid_alias (second_group S i self c)) V f

-- the term of a projection, for the head form of its self type
replaced-by : (S : Setting) (L : Level) (c : TraitGoalProvenVia) (i : TraitId) (W : List Tree) (p q : Projection) (rigid_alias t given g self s : Tree) → p ≡ q → rigid_alias ≡ t → given ≡ g → self ≡ s →
    (f : founds.Found) → SaysGroups S L c i W p rigid_alias given self f → SaysGroups S L c i W q t g s f
replaced-by S L c i W p q rigid_alias t given g self s a b d e f w =
    subst (λ x. SaysGroups S L c i W x t g s f) a
    (subst (λ x. SaysGroups S L c i W p x g s f) b
    (subst (λ x. SaysGroups S L c i W p rigid_alias x s f) d (subst (λ x. SaysGroups S L c i W p rigid_alias given x f) e w)))

pub replaced-says : {E : Type 0} (S : Setting) (L : Level) (k : AliasTermKind) (c : TraitGoalProvenVia) (T U V W : List Tree) → Keeps T U → Keeps U V → Keeps T V → (p : projections.Projection)
    (args others : List TermId) (given self : TermId) → AreIn T args → IsIn T self → IsIn U given → p.args.now ≡ self ∷ rest_of args → others ≡ self ∷ rest_of args →
    erased_at U given ≡ alias k (forest (erased_all T args)) → erased_at V p.rigid_alias ≡ alias k (forest (erased_all U others)) → (r : Result founds.Found E) →
    IfOk r (SaysWhich (GroupsGive S L c (projection_at V p) (erased_at V p.rigid_alias) (erased_at V given) (second_group S p.item.now.trait_id (erased_at V self) c)) (GroupsRefuted S L c (projection_at V p) (erased_at V p.rigid_alias) (second_group S p.item.now.trait_id (erased_at V self) c)) W) →
    IfOk r (SaysWhich (ReplacedGives S L k p.item.now p.trait_params c (erased_all T args) (erased_at T self)) (ReplacedRefuted S L k p.item.now p.trait_params c (erased_all T args) (erased_at T self)) W)
replaced-says S L k c T U V W l m n p args others given self i s g e o a b r h =
    ok-map (SaysGroups S L c p.item.now.trait_id W (projection_at V p) (erased_at V p.rigid_alias) (erased_at V given) (erased_at V self))
    (SaysWhich (ReplacedGives S L k p.item.now p.trait_params c (erased_all T args) (erased_at T self)) (ReplacedRefuted S L k p.item.now p.trait_params c (erased_all T args) (erased_at T self)) W) r
    (λ f w.
    replaced-by S L c p.item.now.trait_id W (projection_at V p) (replaced p.item.now p.trait_params (erased_at T self) (erased_all T args))
    (erased_at V p.rigid_alias) (alias k (forest (erased_at T self ∷ rest_of (erased_all T args)))) (erased_at V given) (alias k (forest (erased_all T args))) (erased_at V self) (erased_at T self)
    (ap (λ ts. record { item = p.item.now; trait_params = p.trait_params; args = ts }) (self_args-same T V n self args p.args.now s i e))
    (b ∙ ap (λ ts. alias k (forest ts)) (self_args-same T U l self args others s i o)) (same-grown U V m given g ∙ a) (same-grown T V n self s) f w)
    h

-- a projection whose trait goal holds, by the head form of its self type
through-trees : (S : Setting) (L : Level) → IsConsistent L → (k : AliasTermKind) (q : ItemRow) (n : ℕ) (c : TraitGoalProvenVia) (self s : Tree) (rest V : List Tree) → HasHeadForm L self s → (f : founds.Found) →
    SaysWhich (ReplacedGives S L k q n c (self ∷ rest) s) (ReplacedRefuted S L k q n c (self ∷ rest) s) V f →
    SaysWhich (ThroughGives S L k q n c (self ∷ rest)) (ThroughRefuted S L k q n c (self ∷ rest)) V f
through-trees S L laws k q n c self s rest V h f w =
    which-map (ReplacedGives S L k q n c (self ∷ rest) s) (ThroughGives S L k q n c (self ∷ rest)) (ReplacedRefuted S L k q n c (self ∷ rest) s) (ThroughRefuted S L k q n c (self ∷ rest)) V
    (λ u x. (s, h, x)) (λ u x. subst (λ z. ReplacedGives S L k q n c (self ∷ rest) z u) (one_head_form L laws.one_term self x.0 s x.1 h) x.2)
    (λ x. (s, h, x)) (λ x. subst (λ z. ReplacedRefuted S L k q n c (self ∷ rest) z) (one_head_form L laws.one_term self x.0 s x.1 h) x.2) f w

through-first : (S : Setting) (L : Level) → IsConsistent L → (k : AliasTermKind) (q : ItemRow) (n : ℕ) (c : TraitGoalProvenVia) (T V : List Tree) (args : List TermId) (a : TermId) (s : Tree) →
    0 < length args → a ≡ get_or args 0 a → HasHeadForm L (erased_at T a) s → (f : founds.Found) →
    SaysWhich (ReplacedGives S L k q n c (erased_all T args) s) (ReplacedRefuted S L k q n c (erased_all T args) s) V f →
    SaysWhich (ThroughGives S L k q n c (erased_all T args)) (ThroughRefuted S L k q n c (erased_all T args)) V f
through-first S L laws k q n c T V [] a s l e h f w = absurd (omega arith)
through-first S L laws k q n c T V (x ∷ xs) a s l e h f w =
    through-trees S L laws k q n c (erased_at T x) s (erased_all T xs) V (subst (λ y. HasHeadForm L (erased_at T y) s) e h) f w

pub through-says : {E : Type 0} (S : Setting) (L : Level) → IsConsistent L → (k : AliasTermKind) (q : ItemRow) (n : ℕ) (c : TraitGoalProvenVia) (T U V : List Tree) → Keeps T U →
    (args : List TermId) → AreIn T args → (a : TermId) (s : Tree) → 0 < length args → a ≡ get_or args 0 a → HasHeadForm L (erased_at T a) s → (r : Result founds.Found E) →
    IfOk r (SaysWhich (ReplacedGives S L k q n c (erased_all U args) s) (ReplacedRefuted S L k q n c (erased_all U args) s) V) →
    IfOk r (SaysWhich (ThroughGives S L k q n c (erased_all T args)) (ThroughRefuted S L k q n c (erased_all T args)) V)
through-says S L laws k q n c T U V m args i a s l e h r w =
    ok-map (SaysWhich (ReplacedGives S L k q n c (erased_all U args) s) (ReplacedRefuted S L k q n c (erased_all U args) s) V)
    (SaysWhich (ThroughGives S L k q n c (erased_all T args)) (ThroughRefuted S L k q n c (erased_all T args)) V) r
    (λ f x.
    through-first S L laws k q n c T V args a s l e h f
    (subst (λ ts. SaysWhich (ReplacedGives S L k q n c ts s) (ReplacedRefuted S L k q n c ts s) V f) (all_same-grown T U m args i) x))
    w

-- a self type of which no head form is found
pub through-unformed : (S : Setting) (L : Level) (k : AliasTermKind) (q : ItemRow) (n : ℕ) (c : TraitGoalProvenVia) (T : List Tree) (args : List TermId) (a : TermId) →
    a ≡ get_or args 0 a → ((s : Tree) → HasHeadForm L (erased_at T a) s → ⊥) →
    ((u : Tree) → ThroughGives S L k q n c (erased_all T args) u → ⊥) × (ThroughRefuted S L k q n c (erased_all T args) → ⊥)
through-unformed S L k q n c T [] a e h = (λ u x. x, λ x. x)
through-unformed S L k q n c T (y ∷ ys) a e h =
    (λ u x. h x.0 (subst (λ z. HasHeadForm L (erased_at T z) x.0) (sym e) x.1), λ x. h x.0 (subst (λ z. HasHeadForm L (erased_at T z) x.0) (sym e) x.1))

pub refuted-unformed : (L : Level) → IsConsistent L → (t : Tree) → HeadFormRefuted L t → (s : Tree) → HasHeadForm L t s → ⊥
refuted-unformed L c t h s x = no_head_form_refuted L c.no_term_refuted t s x h

-- no arguments
pub item-none : (S : Setting) (L : Level) (k : AliasTermKind) (q : ItemRow) (r : TraitRow) (T : List Tree) (args : List TermId) → length args ≡ 0 →
    ((u : Tree) → ItemGives S L k (erased_all T args) u q r → ⊥) × (ItemRefuted S L k (erased_all T args) q r → ⊥)
unfolding ItemGives ItemRefuted
item-none S L k q r T [] e = (λ u x. x, λ x. x)
item-none S L k q r T (y ∷ ys) e = absurd (omega (arith, e))

-- by whether the trait goal holds, over trees
item-trees : (S : Setting) (L : Level) → IsConsistent L → (k : AliasTermKind) (q : ItemRow) (r : TraitRow) (c : TraitGoalProvenVia) (ts V : List Tree) →
    L.through c q.trait_id (take (length r.params.items) ts) → (f : founds.Found) →
    SaysWhich (ThroughGives S L k q (length r.params.items) c ts) (ThroughRefuted S L k q (length r.params.items) c ts) V f →
    SaysWhich (λ u. ItemGives S L k ts u q r) (ItemRefuted S L k ts q r) V f
unfolding ItemGives ItemRefuted
item-trees S L laws k q r c [] V h f w = w
item-trees S L laws k q r c (self ∷ rest) V h f w =
    let one : (d : TraitGoalProvenVia) → L.through d q.trait_id (take (length r.params.items) (self ∷ rest)) → d ≡ c =
    λ d x. laws.one_class d c q.trait_id (take (length r.params.items) (self ∷ rest)) x h in
    which-map (ThroughGives S L k q (length r.params.items) c (self ∷ rest)) (λ u. ItemGives S L k (self ∷ rest) u q r)
    (ThroughRefuted S L k q (length r.params.items) c (self ∷ rest)) (ItemRefuted S L k (self ∷ rest) q r) V
    (λ u x. (c, x.0, h, x.1, x.2))
    (λ u x. subst (λ d. ThroughGives S L k q (length r.params.items) d (self ∷ rest) u) (one x.0 x.2) (x.1, x.3, x.4))
    (λ x. inr (c, x.0, h, x.1, x.2))
    (λ x.
    ⊎_elim (λ y. absurd (laws.no_trait_refuted c q.trait_id (take (length r.params.items) (self ∷ rest)) h y))
    (λ y. subst (λ d. ThroughRefuted S L k q (length r.params.items) d (self ∷ rest)) (one y.0 y.2) (y.1, y.3, y.4)) x)
    f w

-- the trait's arguments
pub trait_args-same : (T : List Tree) (n : ℕ) (args first : List TermId) → first ≡ take n args → erased_all T first ≡ take n (erased_all T args)
trait_args-same T n args first e = ap (erased_all T) e ∙ sym (take-map (erased_at T) n args)

-- whether there are arguments
pub no_args : {A : Type 0} (xs : List A) (b : Bool) → b ≡ (length xs == 0) → b ≡ true → length xs ≡ 0
no_args [] b e h = refl
no_args (x ∷ xs) b e h = absurd (false≢true (sym (eqb-suc-zero (length xs)) ∙ sym e ∙ h))

pub some_args : {A : Type 0} (xs : List A) (b : Bool) → b ≡ (length xs == 0) → b ≡ false → 0 < length xs
some_args [] b e h = absurd (cc)
some_args (x ∷ xs) b e h = omega arith

pub item-says : {E : Type 0} (S : Setting) (L : Level) → IsConsistent L → (k : AliasTermKind) (q : ItemRow) (r : TraitRow) (c : TraitGoalProvenVia) (T U V : List Tree) → Keeps T U →
    (args first : List TermId) → AreIn T args → (n : ℕ) → n ≡ length r.params.items → first ≡ take n args → L.through c q.trait_id (erased_all T first) → (x : Result founds.Found E) →
    IfOk x (SaysWhich (ThroughGives S L k q n c (erased_all U args)) (ThroughRefuted S L k q n c (erased_all U args)) V) →
    IfOk x (SaysWhich (λ u. ItemGives S L k (erased_all T args) u q r) (ItemRefuted S L k (erased_all T args) q r) V)
item-says S L laws k q r c T U V m args first i n o e h x w =
    ok-map (SaysWhich (ThroughGives S L k q n c (erased_all U args)) (ThroughRefuted S L k q n c (erased_all U args)) V)
    (SaysWhich (λ u. ItemGives S L k (erased_all T args) u q r) (ItemRefuted S L k (erased_all T args) q r) V) x
    (λ f y.
    item-trees S L laws k q r c (erased_all T args) V (subst (L.through c q.trait_id) (trait_args-same T n args first e ∙ ap (λ j. take j (erased_all T args)) o) h) f
    (subst (λ j. SaysWhich (ThroughGives S L k q j c (erased_all T args)) (ThroughRefuted S L k q j c (erased_all T args)) V f) o
    (subst (λ ts. SaysWhich (ThroughGives S L k q n c ts) (ThroughRefuted S L k q n c ts) V f) (all_same-grown T U m args i) y)))
    w

item-refuted-trees : (S : Setting) (L : Level) (k : AliasTermKind) (q : ItemRow) (r : TraitRow) (ts : List Tree) → 0 < length ts →
    L.trait_refuted q.trait_id (take (length r.params.items) ts) → ItemRefuted S L k ts q r
unfolding ItemRefuted
item-refuted-trees S L k q r [] l h = absurd (omega arith)
item-refuted-trees S L k q r (self ∷ rest) l h = inl h

count-erased : (T : List Tree) (args : List TermId) → 0 < length args → 0 < length (erased_all T args)
count-erased T [] l = absurd (omega arith)
count-erased T (x ∷ xs) l = omega arith

pub item-refuted : (S : Setting) (L : Level) (k : AliasTermKind) (q : ItemRow) (r : TraitRow) (T : List Tree) (args first : List TermId) → 0 < length args →
    (n : ℕ) → n ≡ length r.params.items → first ≡ take n args → L.trait_refuted q.trait_id (erased_all T first) → ItemRefuted S L k (erased_all T args) q r
item-refuted S L k q r T args first l n o e h =
    item-refuted-trees S L k q r (erased_all T args) (count-erased T args l)
    (subst (L.trait_refuted q.trait_id) (trait_args-same T n args first e ∙ ap (λ j. take j (erased_all T args)) o) h)

item-undecided-trees : (S : Setting) (L : Level) (k : AliasTermKind) (q : ItemRow) (r : TraitRow) (ts : List Tree) →
    ((c : TraitGoalProvenVia) → L.through c q.trait_id (take (length r.params.items) ts) → ⊥) → (L.trait_refuted q.trait_id (take (length r.params.items) ts) → ⊥) →
    ((u : Tree) → ItemGives S L k ts u q r → ⊥) × (ItemRefuted S L k ts q r → ⊥)
unfolding ItemGives ItemRefuted
item-undecided-trees S L k q r [] g h = (λ u x. x, λ x. x)
item-undecided-trees S L k q r (self ∷ rest) g h = (λ u x. g x.0 x.2, λ x. ⊎_elim h (λ y. g y.0 y.2) x)

pub item-undecided : (S : Setting) (L : Level) (k : AliasTermKind) (q : ItemRow) (r : TraitRow) (T : List Tree) (args first : List TermId) →
    (n : ℕ) → n ≡ length r.params.items → first ≡ take n args →
    ((c : TraitGoalProvenVia) → L.through c q.trait_id (erased_all T first) → ⊥) × (L.trait_refuted q.trait_id (erased_all T first) → ⊥) →
    ((u : Tree) → ItemGives S L k (erased_all T args) u q r → ⊥) × (ItemRefuted S L k (erased_all T args) q r → ⊥)
item-undecided S L k q r T args first n o e h =
    let same : erased_all T first ≡ take (length r.params.items) (erased_all T args) = trait_args-same T n args first e ∙ ap (λ j. take j (erased_all T args)) o in
    item-undecided-trees S L k q r (erased_all T args) (λ c x. h.0 c (subst (L.through c q.trait_id) (sym same) x)) (λ x. h.1 (subst (L.trait_refuted q.trait_id) (sym same) x))

-- by the rows
pub projection-says : {E : Type 0} (S : Setting) (L : Level) (k : AliasTermKind) (i : ItemId) (ts V : List Tree) (q : ItemRow) (r : TraitRow) → Some q ≡ item_of S.tables i → Some r ≡ trait_of S.tables q.trait_id →
    (x : Result founds.Found E) → IfOk x (SaysWhich (λ u. ItemGives S L k ts u q r) (ItemRefuted S L k ts q r) V) →
    IfOk x (SaysWhich (ProjectionGives S L k i ts) (ProjectionRefuted S L k i ts) V)
unfolding ProjectionGives ProjectionRefuted OfRow
projection-says S L k i ts V q r e g x h =
    subst (λ (o : Option ItemRow). IfOk x (SaysWhich (λ u. OfRow o (λ p. OfRow (trait_of S.tables p.trait_id) (ItemGives S L k ts u p))) (OfRow o (λ p. OfRow (trait_of S.tables p.trait_id) (ItemRefuted S L k ts p))) V)) e
    (subst (λ (o : Option TraitRow). IfOk x (SaysWhich (λ u. OfRow o (ItemGives S L k ts u q)) (OfRow o (ItemRefuted S L k ts q)) V)) g h)

-- without a row nothing is said
pub projection-without_item : (S : Setting) (L : Level) (k : AliasTermKind) (i : ItemId) (ts : List Tree) → None ≡ item_of S.tables i →
    ((u : Tree) → ProjectionGives S L k i ts u → ⊥) × (ProjectionRefuted S L k i ts → ⊥)
unfolding ProjectionGives ProjectionRefuted OfRow
projection-without_item S L k i ts e =
    subst (λ (o : Option ItemRow). ((u : Tree) → OfRow o (λ p. OfRow (trait_of S.tables p.trait_id) (ItemGives S L k ts u p)) → ⊥) × (OfRow o (λ p. OfRow (trait_of S.tables p.trait_id) (ItemRefuted S L k ts p)) → ⊥)) e
    (λ u x. x, λ x. x)

pub projection-without_trait : (S : Setting) (L : Level) (k : AliasTermKind) (i : ItemId) (ts : List Tree) (q : ItemRow) → Some q ≡ item_of S.tables i → None ≡ trait_of S.tables q.trait_id →
    ((u : Tree) → ProjectionGives S L k i ts u → ⊥) × (ProjectionRefuted S L k i ts → ⊥)
unfolding ProjectionGives ProjectionRefuted OfRow
projection-without_trait S L k i ts q e g =
    subst (λ (o : Option ItemRow). ((u : Tree) → OfRow o (λ p. OfRow (trait_of S.tables p.trait_id) (ItemGives S L k ts u p)) → ⊥) × (OfRow o (λ p. OfRow (trait_of S.tables p.trait_id) (ItemRefuted S L k ts p)) → ⊥)) e
    (subst (λ (o : Option TraitRow). ((u : Tree) → OfRow o (ItemGives S L k ts u q) → ⊥) × (OfRow o (ItemRefuted S L k ts q) → ⊥)) g (λ u x. x, λ x. x))
