-- The terms of a header's parameters, below aliases of the given arguments.
use Rattle.std.proofs.Common.{◌≡◌, ◌≢◌, ℕ, zero, suc, ◌+◌, ◌<◌, false, List, [], ◌∷◌, ◌++◌, length, map, take, get_or, Option, Some, None, refl, sym, ap, ◌∙◌, subst, add-one, arith}
use Rattle.std.specs.Prelude.{◌↔◌, Result, Ok, Err, IfOk}
use Rattle.std.specs.Option.{option_map}
use Rattle.goal_terms.specs.Erased.{erased, erased_head, compared_node}
use Rattle.goal_interner.specs.TableMeaning.{tree_at, Keeps}
use Rattle.goal_terms.specs.Tree.{Tree, node, alias, variable, node_of}
use Rattle.goal_terms.specs.TreeOf.{trees_of}
use Rattle.goal_terms.specs.View.{tree_of_ref}
use Rattle.goal_terms.specs.declared.answers.ParamKind.{ParamKind}
use Rattle.goal_terms.specs.declared.compare.Regions.TheVariants.{Forgotten}
use Rattle.goal_terms.specs.declared.heads.Head.{Head}
use Rattle.goal_terms.specs.declared.heads.Node.TheVariants as nodes
use Rattle.goal_terms.specs.declared.modes.TypingMode.{TypingMode}
use Rattle.goal_interner.specs.declared.term_nodes.TermId.{TermId}
use Rattle.goal_terms.specs.declared.terms.AliasTermKind.{AliasTermKind}
use Rattle.goal_terms.specs.declared.terms.GenericArg.{GenericArg}
use Rattle.goal_terms.specs.declared.view.TermRef.{TermRef}
use Rattle.goal_terms.proofs.WalkLemmas.{node_of-compared}
use Rattle.goal_lists.specs.Headers.{StepInto, PartAmong}
use Rattle.goal_lists.specs.Interned.{erased_at, erased_all}
use Rattle.goal_lists.specs.Level.{Level, nothing, HasHeadForm, HeadFormRefuted}
use Rattle.goal_lists.specs.Levels.{level}
use Rattle.goal_lists.specs.Settings.{Setting}
use Rattle.goal_lists.proofs.ConsistentLemmas.{each_level_is_consistent}
use Rattle.goal_lists.proofs.EqualLemmas.{one_head_form, no_head_form_refuted}
use Rattle.goal_eval.specs.HeaderWords.{erased_ref, is_this, IsBehind, GivesPart, SaysPart, SaysKnown, KnownFrom, KnownIn, known_trees, PartOutcome, KnownOutcome}
use Rattle.goal_eval.specs.declared.eval.outcomes.Found.{Found}
use Rattle.goal_eval.specs.declared.eval.outcomes.Found.TheVariants as found
use Rattle.goal_eval.specs.Outcomes.{RunsFor, SaysWhich, setting_in, level_in, header_terms}
use Rattle.goal_eval.specs.declared.relate.header_places.Place.{Place}
use Rattle.goal_eval.specs.declared.eval.outcomes.Setting as over
use Rattle.goal_eval.specs.declared.eval.outcomes.Stop.{Stop}
use Rattle.goal_eval.proofs.HeaderPlaceLemmas.{IsAbove, level-above, part-step, number_erased, both_ways}
use Rattle.goal_eval.proofs.HeaderArgLemmas.{known_same-grown, map_push}

-- the level at a depth is over that below
pub above-lower : (S : Setting) (n d : ℕ) → n ≡ suc d → IsAbove (level S n) (level S d)
above-lower S n d e = rw e (level-above S (suc d))

-- an alias against a constructor has a part where its head form has that constructor
unfoldable pub StepsTo : Level → ℕ → Tree → Tree → Head → Tree → Type 0
StepsTo B n t u h p = (f : Tree) × HasHeadForm B (erased u) f × (node_of f ≡ nodes.Head (erased_head h)) × B.part n (erased t) f p

part-through : (M B : Level) → IsAbove M B → (n : ℕ) (t u p : Tree) (h : Head) (k : AliasTermKind) → node_of t ≡ nodes.Head h → is_this n h ≡ false →
    node_of u ≡ nodes.Alias k → M.part n (erased t) (erased u) p ↔ StepsTo B n t u h p
unfolding erased StepInto HasHeadForm StepsTo
part-through M B above n (node i ts) (alias j us) p h k e f a =
    let same : h ≡ i = cc in
    rw same (part-step M B above n i ts (erased (alias j us)) p (number_erased n i h false e f))
part-through M B above n (node i ts) (node j us) p h k e f a = absurd (cc)
part-through M B above n (node i ts) (variable w) p h k e f a = absurd (cc)
part-through M B above n (alias i ts) u p h k e f a = absurd (cc)
part-through M B above n (variable w) u p h k e f a = absurd (cc)

-- nothing has a head form below the lowest level but what is no alias
no_form-nothing : (u f : Tree) (k : AliasTermKind) → node_of u ≡ nodes.Alias k → HasHeadForm nothing (erased u) f → ⊥
unfolding HasHeadForm erased
no_form-nothing (node i us) f k e x = absurd (cc)
no_form-nothing (alias j us) f k e x = x
no_form-nothing (variable v) f k e x = absurd (cc)

-- what two nodes say of their terms without lifetimes
pub node-erased : (t f : Tree) (h : Head) → node_of t ≡ nodes.Head h → compared_node Forgotten (node_of t) ≡ compared_node Forgotten (node_of f) → node_of (erased f) ≡ nodes.Head (erased_head h)
node-erased t f h e d = node_of-compared Forgotten f ∙ sym d ∙ ap (compared_node Forgotten) e

pub node-other : (t f : Tree) (h : Head) → node_of t ≡ nodes.Head h → compared_node Forgotten (node_of t) ≢ compared_node Forgotten (node_of f) → node_of (erased f) ≢ nodes.Head (erased_head h)
node-other t f h e d same = d (ap (compared_node Forgotten) e ∙ sym same ∙ node_of-compared Forgotten f)

-- a claim about parts for another
says_part-same : (P Q : Tree → Type 0) (o : Option Tree) → ((p : Tree) → Q p ↔ P p) → SaysPart P o → SaysPart Q o
says_part-same P Q None f h = λ p q. h p ((f p).0 q)
says_part-same P Q (Some u) f h = (f u).1 h

-- at depth 0 there is no part behind an alias
pub behind-zero : (c : over.Setting) (T U : List Tree) (n depth : ℕ) (h : TermRef) (g : TermId) → IsBehind T (is_this n) h g → depth ≡ 0 →
    PartOutcome c depth (λ L. L.part n (erased_ref h) (erased_at T g)) U None
unfolding StepsTo
behind-zero c T U n depth h g b e m s p x =
    let y : (level_in c m 0).part n (erased_ref h) (erased_at T g) p = subst (λ j. (level_in c m j).part n (erased_ref h) (erased_at T g) p) e x in
    let z : StepsTo nothing n (tree_of_ref h) (tree_at T g) b.head p =
    (part-through (level_in c m 0) nothing (level-above (setting_in c m) 0) n (tree_of_ref h) (tree_at T g) p b.head b.kind b.top b.other b.alias).0 y in
    no_form-nothing (tree_at T g) z.0 b.kind b.alias z.1

-- a part behind an alias is one of its head form
steps : (c : over.Setting) (m : TypingMode) (T : List Tree) (n depth d : ℕ) (h : TermRef) (g : TermId) (b : IsBehind T (is_this n) h g) → depth ≡ suc d → (p : Tree) →
    (level_in c m depth).part n (erased_ref h) (erased_at T g) p ↔ StepsTo (level_in c m d) n (tree_of_ref h) (tree_at T g) b.head p
steps c m T n depth d h g b e p =
    part-through (level_in c m depth) (level_in c m d) (above-lower (setting_in c m) depth d e) n (tree_of_ref h) (tree_at T g) p b.head b.kind b.top b.other b.alias

-- there is none where the alias has no head form
pub behind-refuted : (c : over.Setting) (T U : List Tree) (n depth d : ℕ) (h : TermRef) (g : TermId) → IsBehind T (is_this n) h g → depth ≡ suc d →
    ((m : TypingMode) → RunsFor c m → HeadFormRefuted (level_in c m d) (erased_at T g)) →
    PartOutcome c depth (λ L. L.part n (erased_ref h) (erased_at T g)) U None
unfolding StepsTo
behind-refuted c T U n depth d h g b e r m s p x =
    let z : StepsTo (level_in c m d) n (tree_of_ref h) (tree_at T g) b.head p = (steps c m T n depth d h g b e p).0 x in
    no_head_form_refuted (level_in c m d) (each_level_is_consistent (setting_in c m) d).no_term_refuted (erased_at T g) z.0 z.1 (r m s)

-- nor where that is undecided
pub behind-undecided : (c : over.Setting) (T U : List Tree) (n depth d : ℕ) (h : TermRef) (g : TermId) → IsBehind T (is_this n) h g → depth ≡ suc d →
    ((m : TypingMode) → RunsFor c m → ((f : Tree) → HasHeadForm (level_in c m d) (erased_at T g) f → ⊥) × (HeadFormRefuted (level_in c m d) (erased_at T g) → ⊥)) →
    PartOutcome c depth (λ L. L.part n (erased_ref h) (erased_at T g)) U None
unfolding StepsTo
behind-undecided c T U n depth d h g b e r m s p x =
    let z : StepsTo (level_in c m d) n (tree_of_ref h) (tree_at T g) b.head p = (steps c m T n depth d h g b e p).0 x in
    (r m s).0 z.0 z.1

-- nor where its head form has another constructor
pub behind-other : (c : over.Setting) (T V U : List Tree) (n depth d : ℕ) (h : TermRef) (g form : TermId) → IsBehind T (is_this n) h g → depth ≡ suc d →
    ((m : TypingMode) → RunsFor c m → HasHeadForm (level_in c m d) (erased_at T g) (erased_at V form)) →
    compared_node Forgotten (node_of (tree_of_ref h)) ≢ compared_node Forgotten (node_of (tree_at V form)) →
    PartOutcome c depth (λ L. L.part n (erased_ref h) (erased_at T g)) U None
unfolding StepsTo
behind-other c T V U n depth d h g form b e r other m s p x =
    let z : StepsTo (level_in c m d) n (tree_of_ref h) (tree_at T g) b.head p = (steps c m T n depth d h g b e p).0 x in
    let same : z.0 ≡ erased_at V form = one_head_form (level_in c m d) (each_level_is_consistent (setting_in c m) d).one_term (erased_at T g) z.0 (erased_at V form) z.1 (r m s) in
    node-other (tree_of_ref h) (tree_at V form) b.head b.top other (ap node_of (sym same) ∙ z.2)

-- one with the same constructor has the part
through_form : (c : over.Setting) (m : TypingMode) (T V : List Tree) (n depth d : ℕ) (h : TermRef) (g form : TermId) → IsBehind T (is_this n) h g → depth ≡ suc d →
    HasHeadForm (level_in c m d) (erased_at T g) (erased_at V form) →
    compared_node Forgotten (node_of (tree_of_ref h)) ≡ compared_node Forgotten (node_of (tree_at V form)) → (p : Tree) →
    (level_in c m depth).part n (erased_ref h) (erased_at T g) p ↔ (level_in c m d).part n (erased_ref h) (erased_at V form) p
unfolding StepsTo
through_form c m T V n depth d h g form b e r same p =
    let st : (level_in c m depth).part n (erased_ref h) (erased_at T g) p ↔ StepsTo (level_in c m d) n (tree_of_ref h) (tree_at T g) b.head p = steps c m T n depth d h g b e p in (
      λ x. let z : StepsTo (level_in c m d) n (tree_of_ref h) (tree_at T g) b.head p = st.0 x in
          let one : z.0 ≡ erased_at V form = one_head_form (level_in c m d) (each_level_is_consistent (setting_in c m) d).one_term (erased_at T g) z.0 (erased_at V form) z.1 r in
          subst (λ f. (level_in c m d).part n (erased_ref h) f p) one z.3,
      λ y. st.1 (erased_at V form, r, node-erased (tree_of_ref h) (tree_at V form) b.head b.top same, y),
    )

pub behind-form : (c : over.Setting) (T V U : List Tree) (n depth d : ℕ) (h : TermRef) (g form : TermId) (place : Place) (r : Result (Option TermId) Stop) →
    IsBehind T (is_this n) h g → depth ≡ suc d →
    ((m : TypingMode) → RunsFor c m → HasHeadForm (level_in c m d) (erased_at T g) (erased_at V form)) →
    compared_node Forgotten (node_of (tree_of_ref h)) ≡ compared_node Forgotten (node_of (tree_at V form)) →
    ((S : Setting) (k : ℕ) (p : Tree) → (level S k).part n (erased_ref h) (erased_at V form) p ↔ GivesPart (level S k) n V place p) →
    IfOk r (PartOutcome c d (λ L. GivesPart L n V place) U) →
    IfOk r (PartOutcome c depth (λ L. L.part n (erased_ref h) (erased_at T g)) U)
behind-form c T V U n depth d h g form place (Ok o) b e f same leads says =
    λ m s. says_part-same (GivesPart (level_in c m d) n V place) ((level_in c m depth).part n (erased_ref h) (erased_at T g)) (option_map (erased_at U) o)
    (λ p. both_ways (through_form c m T V n depth d h g form b e (f m s) same p) (leads (setting_in c m) d p)) (says m s)
behind-form c T V U n depth d h g form place (Err s) b e f same leads says = says

-- the terms of some numbers, without lifetimes
pub erased_all-map : (T : List Tree) (ids : List TermId) → erased_all T ids ≡ map erased (map (tree_at T) ids)
erased_all-map T [] = refl
erased_all-map T (id ∷ ids) = ap (λ ts. erased_at T id ∷ ts) (erased_all-map T ids)

-- a parameter's term is the part at its first place
pub among-known : (c : over.Setting) (T U : List Tree) (n depth : ℕ) (header : List GenericArg) (given : List TermId) (place : Place) (r : Result (Option TermId) Stop) →
    ((S : Setting) (k : ℕ) (p : Tree) → PartAmong (level S k) n (map erased (trees_of header)) (map erased (map (tree_at T) given)) p ↔ GivesPart (level S k) n T place p) →
    IfOk r (PartOutcome c depth (λ L. GivesPart L n T place) U) →
    IfOk r (PartOutcome c depth (λ L. PartAmong L n (header_terms header) (erased_all T given)) U)
among-known c T U n depth header given place (Ok o) leads says =
    λ m s. says_part-same (GivesPart (level_in c m depth) n T place) (PartAmong (level_in c m depth) n (header_terms header) (erased_all T given)) (option_map (erased_at U) o)
    (λ p. subst (λ gs. PartAmong (level_in c m depth) n (header_terms header) gs p ↔ GivesPart (level_in c m depth) n T place p) (sym (erased_all-map T given)) (leads (setting_in c m) depth p))
    (says m s)
among-known c T U n depth header given place (Err s) leads says = says

-- one parameter more
known-suc : (L : Level) (hs gs : List Tree) (n i j : ℕ) (ps : List ParamKind) (os : List (Option Tree)) (d : ParamKind) (o : Option Tree) → i < length ps → n + i ≡ j →
    KnownFrom L hs gs n (take i ps) os → SaysKnown L hs gs (get_or ps i d) j o → KnownFrom L hs gs n (take (suc i) ps) (os ++ o ∷ [])
unfolding KnownFrom
known-suc L hs gs n i j [] os d o l e k x = absurd (omega arith)
known-suc L hs gs n zero j (p ∷ ps) [] d o l e k x = let same : j ≡ n = omega (arith, e) in (subst (λ i. SaysKnown L hs gs p i o) same x, tt)
known-suc L hs gs n zero j (p ∷ ps) (q ∷ os) d o l e k x = absurd k
known-suc L hs gs n (suc i) j (p ∷ ps) [] d o l e k x = absurd k
known-suc L hs gs n (suc i) j (p ∷ ps) (q ∷ os) d o l e k x = (k.0, known-suc L hs gs (suc n) i j ps os d o (omega arith) (omega (arith, e)) k.1 x)

known_none : (L : Level) (hs gs : List Tree) (os : List (Option Tree)) → os ≡ [] → KnownFrom L hs gs 0 [] os
unfolding KnownFrom
known_none L hs gs [] e = tt
known_none L hs gs (o ∷ os) e = absurd (cc)

pub known-start : (c : over.Setting) (depth : ℕ) (hs gs T : List Tree) (known : List (Option TermId)) → known ≡ [] → KnownOutcome c depth hs gs [] (known_trees T known)
known-start c depth hs gs T known e m s = known_none (level_in c m depth) hs gs (known_trees T known) (ap (known_trees T) e)

pub known-more : (c : over.Setting) (depth : ℕ) (hs gs T U : List Tree) (params : List ParamKind) (known new : List (Option TermId)) (next : Option TermId) (i : ℕ) (d : ParamKind) →
    i < length params → Keeps T U → KnownIn T known → new ≡ known ++ next ∷ [] →
    KnownOutcome c depth hs gs (take i params) (known_trees T known) →
    ((m : TypingMode) → RunsFor c m → SaysKnown (level_in c m depth) hs gs (get_or params i d) i (option_map (erased_at U) next)) →
    KnownOutcome c depth hs gs (take (i + 1) params) (known_trees U new)
known-more c depth hs gs T U params known new next i d l keeps all e so_far here m s =
    let trees : known_trees U new ≡ known_trees T known ++ option_map (erased_at U) next ∷ [] =
    ap (known_trees U) e ∙ map_push (option_map (erased_at U)) known next ∙ ap (λ ks. ks ++ option_map (erased_at U) next ∷ []) (known_same-grown T U keeps known all) in
    rw (add-one, trees) (known-suc (level_in c m depth) hs gs 0 i i params (known_trees T known) d (option_map (erased_at U) next) l (omega arith) (so_far m s) (here m s))

pub known-all : (c : over.Setting) (depth : ℕ) (hs gs : List Tree) (params : List ParamKind) (ks : List (Option Tree)) (i : ℕ) → take i params ≡ params →
    KnownOutcome c depth hs gs (take i params) ks → KnownOutcome c depth hs gs params ks
known-all c depth hs gs params ks i e h m s = subst (λ ps. KnownFrom (level_in c m depth) hs gs 0 ps ks) e (h m s)

-- what is said of a head form that was found
pub found-is : (c : over.Setting) (d : ℕ) (T V : List Tree) (g form : TermId) (x : Found) →
    ((m : TypingMode) → RunsFor c m → SaysWhich (HasHeadForm (level_in c m d) (erased_at T g)) (HeadFormRefuted (level_in c m d) (erased_at T g)) V x) → x ≡ found.Is form →
    (m : TypingMode) → RunsFor c m → HasHeadForm (level_in c m d) (erased_at T g) (erased_at V form)
found-is c d T V g form x says e m s = subst (SaysWhich (HasHeadForm (level_in c m d) (erased_at T g)) (HeadFormRefuted (level_in c m d) (erased_at T g)) V) e (says m s)

pub found-refuted : (c : over.Setting) (d : ℕ) (T V : List Tree) (g : TermId) (x : Found) →
    ((m : TypingMode) → RunsFor c m → SaysWhich (HasHeadForm (level_in c m d) (erased_at T g)) (HeadFormRefuted (level_in c m d) (erased_at T g)) V x) → x ≡ found.Refuted →
    (m : TypingMode) → RunsFor c m → HeadFormRefuted (level_in c m d) (erased_at T g)
found-refuted c d T V g x says e m s = subst (SaysWhich (HasHeadForm (level_in c m d) (erased_at T g)) (HeadFormRefuted (level_in c m d) (erased_at T g)) V) e (says m s)

pub found-undecided : (c : over.Setting) (d : ℕ) (T V : List Tree) (g : TermId) (x : Found) →
    ((m : TypingMode) → RunsFor c m → SaysWhich (HasHeadForm (level_in c m d) (erased_at T g)) (HeadFormRefuted (level_in c m d) (erased_at T g)) V x) → x ≡ found.Undecided →
    (m : TypingMode) → RunsFor c m → ((f : Tree) → HasHeadForm (level_in c m d) (erased_at T g) f → ⊥) × (HeadFormRefuted (level_in c m d) (erased_at T g) → ⊥)
found-undecided c d T V g x says e m s = subst (SaysWhich (HasHeadForm (level_in c m d) (erased_at T g)) (HeadFormRefuted (level_in c m d) (erased_at T g)) V) e (says m s)

-- what is known among given arguments that are the same
pub known-same_given : (c : over.Setting) (depth : ℕ) (hs gs gs' : List Tree) (k : ParamKind) (n : ℕ) (o : Option Tree) → gs' ≡ gs →
    ((m : TypingMode) → RunsFor c m → SaysKnown (level_in c m depth) hs gs' k n o) →
    (m : TypingMode) → RunsFor c m → SaysKnown (level_in c m depth) hs gs k n o
known-same_given c depth hs gs gs' k n o e says m s = subst (λ xs. SaysKnown (level_in c m depth) hs xs k n o) e (says m s)
