-- Whether a header clashes, below aliases of given arguments and by its instances.
use Rattle.std.proofs.Common.{◌≡◌, ◌≢◌, ◌⊎◌, inl, inr, ℕ, zero, suc, ◌+◌, ◌<◌, Bool, true, false, ◌||◌, List, [], ◌∷◌, length, take, get_or, Option, Some, None, refl, sym, ap, ◌∙◌, subst, add-one, arith, eq-eqb}
use Rattle.std.specs.Prelude.{◌↔◌, Result, Ok, Err, IfOk, slice_get}
use Rattle.std.specs.List.{All}
use Rattle.std.specs.Option.{option_map}
use Rattle.std.proofs.lemmas.Bool.{false≢true}
use Rattle.std.proofs.lemmas.Bool.Decides.{Decides-eqb}
use Rattle.std.proofs.lemmas.Option.{slice_get-map}
use Rattle.goal_terms.specs.Erased.{erased, erased_head, compared_node}
use Rattle.goal_terms.specs.NodeTests.{some_node, some_in_row}
use Rattle.goal_interner.specs.TableMeaning.{tree_at, Keeps}
use Rattle.goal_terms.specs.Tree.{Tree, Trees, node, alias, variable, none, more, node_of}
use Rattle.goal_terms.specs.View.{tree_of_ref}
use Rattle.goal_terms.specs.declared.compare.Regions.TheVariants.{Forgotten}
use Rattle.goal_terms.specs.declared.heads.Head.{Head}
use Rattle.goal_terms.specs.declared.heads.Node.{Node}
use Rattle.goal_terms.specs.declared.heads.Node.TheVariants as nodes
use Rattle.goal_terms.specs.declared.modes.TypingMode.{TypingMode}
use Rattle.goal_interner.specs.declared.term_nodes.TermId.{TermId}
use Rattle.goal_terms.specs.declared.terms.AliasTermKind.{AliasTermKind}
use Rattle.goal_terms.specs.declared.view.TermRef.{TermRef}
use Rattle.goal_terms.proofs.NodeTestLemmas.{some_node-erased}
use Rattle.goal_lists.specs.Equality.{Unequal}
use Rattle.goal_lists.specs.Headers.{under, is_number, is_parameter, mentions, AllAreKnown, InstanceUnequal, StepClashes}
use Rattle.goal_lists.specs.Interned.{erased_at, erased_all, IsIn}
use Rattle.goal_lists.specs.Level.{Level, nothing, HasHeadForm, HeadFormRefuted}
use Rattle.goal_lists.specs.Words.{Exists}
use Rattle.goal_lists.proofs.ConsistentLemmas.{each_level_is_consistent}
use Rattle.goal_lists.proofs.EqualLemmas.{one_head_form, no_head_form_refuted}
use Rattle.goal_lists.proofs.InstanceLemmas.{under_the_same}
use Rattle.goal_lists.proofs.InternedLemmas.{same-grown}
use Rattle.goal_eval.specs.HeaderWords.{erased_ref, is_any, is_whole, parameter_at, IsBehind, IsKnown, KnownIn, known_trees, is_unfilled, is_missing, is_unknown, Fills, ClashAt, QuestionIn, Answers, TestOutcome}
use Rattle.goal_eval.specs.Outcomes.{RunsFor, Says, setting_in, level_in}
use Rattle.goal_eval.specs.declared.relate.header_questions.Question.{Question}
use Rattle.goal_eval.specs.declared.relate.header_questions.Question.TheVariants as question
use Rattle.goal_lists.specs.declared.outcomes.Outcome.{Outcome}
use Rattle.goal_lists.specs.declared.outcomes.Outcome.TheVariants as outcome
use Rattle.goal_eval.specs.declared.eval.outcomes.Setting as over
use Rattle.goal_eval.specs.declared.eval.outcomes.Stop.{Stop}
use Rattle.goal_eval.proofs.HeaderPlaceLemmas.{IsAbove, below, level-above, parameter-erased}
use Rattle.goal_eval.proofs.HeaderClashLemmas.{clash-whole, clash-step, exists-push}
use Rattle.goal_eval.proofs.HeaderArgLemmas.{known_same-grown, take_one}
use Rattle.goal_eval.proofs.HeaderPartLemmas.{above-lower, node-erased, node-other}

-- what a test says of a claim it says of one that is the same
pub answers-same : (P Q : Type 0) (b : Bool) → P ↔ Q → Answers P b → Answers Q b
answers-same P Q true f h = f.0 h
answers-same P Q false f h = λ q. h (f.1 q)

-- a number that a test of parameters finds is that of the parameter
number_found : (n : ℕ) (o : Option ℕ) → is_number n o ≡ true → o ≡ Some n
number_found n None e = absurd (false≢true e)
number_found n (Some m) e = ap Some ((Decides-eqb m n).0 e)

found_number : (n : ℕ) (o : Option ℕ) → o ≡ Some n → is_number n o ≡ true
found_number n o e = ap (is_number n) e ∙ eq-eqb n n refl

number_in : (n : ℕ) (m : Node) → is_parameter n m ≡ is_number n (parameter_at m)
unfolding is_parameter
number_in n (nodes.Head h) = refl
number_in n (nodes.Alias k) = refl
number_in n (nodes.Variable v) = refl

-- a parameter that isn't known, and that a term mentions
unfoldable MentionsOne : {A : Type 0} → List (Option A) → (ℕ → Bool) → Type 0
MentionsOne ks p = (n : ℕ) × (p n ≡ true) × (is_unfilled (slice_get ks n) ≡ true)

one-left : {A : Type 0} (ks : List (Option A)) (p q : ℕ → Bool) → MentionsOne ks p → MentionsOne ks (λ n. p n || q n)
unfolding MentionsOne
one-left ks p q h = (h.0, ap (λ b. b || q h.0) h.1, h.2)

or_true : (b : Bool) → b || true ≡ true
or_true true = refl
or_true false = refl

one-right : {A : Type 0} (ks : List (Option A)) (p q : ℕ → Bool) → MentionsOne ks q → MentionsOne ks (λ n. p n || q n)
unfolding MentionsOne
one-right ks p q h = (h.0, ap (λ b. p h.0 || b) h.1 ∙ or_true (p h.0), h.2)

either_or : (a b : Bool) → a || b ≡ true → (a ≡ true) ⊎ (b ≡ true)
either_or true b e = inl refl
either_or false b e = inr e

one_of : {A : Type 0} (ks : List (Option A)) (m : Node) (o : Option ℕ) → parameter_at m ≡ o → is_missing ks o ≡ true → MentionsOne ks (λ n. is_parameter n m)
unfolding MentionsOne
one_of ks m None e w = absurd (false≢true w)
one_of ks m (Some n) e w = (n, number_in n m ∙ found_number n (parameter_at m) e, w)

one-here : {A : Type 0} (ks : List (Option A)) (m : Node) → is_unknown ks m ≡ true → MentionsOne ks (λ n. is_parameter n m)
one-here ks m e = one_of ks m (parameter_at m) refl e

mutual
  unfolding some_node

  -- a term with a parameter that isn't known mentions one
  one-mentioned : {A : Type 0} (ks : List (Option A)) (t : Tree) → some_node (is_unknown ks) t ≡ true → MentionsOne ks (λ n. some_node (is_parameter n) t)
  one-mentioned ks (node h ts) e =
      elim (either_or (is_unknown ks (nodes.Head h)) (some_in_row (is_unknown ks) ts) e) [
        | inl p ↦ one-left ks (λ n. is_parameter n (nodes.Head h)) (λ n. some_in_row (is_parameter n) ts) (one-here ks (nodes.Head h) p)
        | inr q ↦ one-right ks (λ n. is_parameter n (nodes.Head h)) (λ n. some_in_row (is_parameter n) ts) (one-in_row ks ts q)
      ]
  one-mentioned ks (alias k ts) e = one-right ks (λ n. is_parameter n (nodes.Alias k)) (λ n. some_in_row (is_parameter n) ts) (one-in_row ks ts e)
  one-mentioned ks (variable v) e = absurd (false≢true e)

  one-in_row : {A : Type 0} (ks : List (Option A)) (ts : Trees) → some_in_row (is_unknown ks) ts ≡ true → MentionsOne ks (λ n. some_in_row (is_parameter n) ts)
  one-in_row ks none e = absurd (false≢true e)
  one-in_row ks (more t ts) e =
      elim (either_or (some_node (is_unknown ks) t) (some_in_row (is_unknown ks) ts) e) [
        | inl p ↦ one-left ks (λ n. some_node (is_parameter n) t) (λ n. some_in_row (is_parameter n) ts) (one-mentioned ks t p)
        | inr q ↦ one-right ks (λ n. some_node (is_parameter n) t) (λ n. some_in_row (is_parameter n) ts) (one-in_row ks ts q)
      ]

both_false : (a b : Bool) → a || b ≡ false → (a ≡ false) × (b ≡ false)
both_false true b e = absurd (false≢true (sym e))
both_false false b e = (refl, e)

filled-here : {A : Type 0} (ks : List (Option A)) (m : Node) (n : ℕ) → is_unknown ks m ≡ false → is_parameter n m ≡ true → is_unfilled (slice_get ks n) ≡ false
filled-here ks m n w e =
    let at : parameter_at m ≡ Some n = number_found n (parameter_at m) (sym (number_in n m) ∙ e) in
    ap (is_missing ks) (sym at) ∙ w

mutual
  unfolding some_node

  -- a parameter that a term mentions is known, where none is that isn't
  filled-mentioned : {A : Type 0} (ks : List (Option A)) (t : Tree) (n : ℕ) → some_node (is_unknown ks) t ≡ false → some_node (is_parameter n) t ≡ true → is_unfilled (slice_get ks n) ≡ false
  filled-mentioned ks (node h ts) n w e =
      let no : (is_unknown ks (nodes.Head h) ≡ false) × (some_in_row (is_unknown ks) ts ≡ false) = both_false (is_unknown ks (nodes.Head h)) (some_in_row (is_unknown ks) ts) w in
      elim (either_or (is_parameter n (nodes.Head h)) (some_in_row (is_parameter n) ts) e) [
        | inl p ↦ filled-here ks (nodes.Head h) n no.0 p
        | inr q ↦ filled-in_row ks ts n no.1 q
      ]
  filled-mentioned ks (alias k ts) n w e =
      elim (either_or (is_parameter n (nodes.Alias k)) (some_in_row (is_parameter n) ts) e) [
        | inl p ↦ filled-here ks (nodes.Alias k) n refl p
        | inr q ↦ filled-in_row ks ts n w q
      ]
  filled-mentioned ks (variable v) n w e = filled-here ks (nodes.Variable v) n refl e

  filled-in_row : {A : Type 0} (ks : List (Option A)) (ts : Trees) (n : ℕ) → some_in_row (is_unknown ks) ts ≡ false → some_in_row (is_parameter n) ts ≡ true → is_unfilled (slice_get ks n) ≡ false
  filled-in_row ks none n w e = absurd (false≢true e)
  filled-in_row ks (more t ts) n w e =
      let no : (some_node (is_unknown ks) t ≡ false) × (some_in_row (is_unknown ks) ts ≡ false) = both_false (some_node (is_unknown ks) t) (some_in_row (is_unknown ks) ts) w in
      elim (either_or (some_node (is_parameter n) t) (some_in_row (is_parameter n) ts) e) [
        | inl p ↦ filled-mentioned ks t n no.0 p
        | inr q ↦ filled-in_row ks ts n no.1 q
      ]

-- what a term mentions it mentions without lifetimes
parameter_head : (n : ℕ) (h : Head) → is_parameter n (nodes.Head (erased_head h)) ≡ is_parameter n (nodes.Head h)
unfolding is_parameter
parameter_head n h = ap (is_number n) (parameter-erased h)

mentions-erased : (n : ℕ) (t : Tree) → mentions n (erased t) ≡ mentions n t
unfolding mentions
mentions-erased n t = some_node-erased (is_parameter n) (parameter_head n) t

-- a place that is filled has a number, and its term
filled_id : (o : Option (Option TermId)) → is_unfilled o ≡ false → (id : TermId) × (o ≡ Some (Some id))
filled_id None e = absurd (false≢true (sym e))
filled_id (Some None) e = absurd (false≢true (sym e))
filled_id (Some (Some id)) e = (id, refl)

known_at : (T : List Tree) (known : List (Option TermId)) (n : ℕ) (id : TermId) → slice_get known n ≡ Some (Some id) → slice_get (known_trees T known) n ≡ Some (Some (erased_at T id))
known_at T known n id e = slice_get-map (option_map (erased_at T)) known n ∙ ap (option_map (option_map (erased_at T))) e

unfilled_tree : (T : List Tree) (o : Option (Option TermId)) → is_unfilled (option_map (option_map (erased_at T)) o) ≡ is_unfilled o
unfilled_tree T None = refl
unfilled_tree T (Some None) = refl
unfilled_tree T (Some (Some id)) = refl

-- where a term mentions a parameter that isn't known, no list has the known terms of all that it mentions
not_all_known : (T : List Tree) (known : List (Option TermId)) (t : Tree) (s : List Tree) → some_node (is_unknown known) t ≡ true →
    AllAreKnown (IsKnown (known_trees T known)) s (erased t) → ⊥
unfolding AllAreKnown MentionsOne mentions
not_all_known T known t s w all =
    let one : MentionsOne known (λ n. some_node (is_parameter n) t) = one-mentioned known t w in
    let there : (u : Tree) × (slice_get s one.0 ≡ Some u) × IsKnown (known_trees T known) one.0 u = all one.0 (mentions-erased one.0 t ∙ one.1) in
    false≢true (sym (ap is_unfilled there.2) ∙ ap is_unfilled (slice_get-map (option_map (erased_at T)) known one.0) ∙ unfilled_tree T (slice_get known one.0) ∙ one.2)

-- else the filled list does
all_known : (T : List Tree) (known : List (Option TermId)) (args : List TermId) (t : Tree) → Fills known args → some_node (is_unknown known) t ≡ false →
    AllAreKnown (IsKnown (known_trees T known)) (erased_all T args) (erased t)
unfolding AllAreKnown mentions
all_known T known args t fills w n e =
    let at : (id : TermId) × (slice_get known n ≡ Some (Some id)) = filled_id (slice_get known n) (filled-mentioned known t n w (sym (mentions-erased n t) ∙ e)) in
    (erased_at T at.0, slice_get-map (erased_at T) args n ∙ ap (option_map (erased_at T)) (fills n at.0 at.1), known_at T known n at.0 at.1)

-- lists of known terms make the same instance
same_instance : (ks : List (Option Tree)) (s r t : _) → AllAreKnown (IsKnown ks) s t → AllAreKnown (IsKnown ks) r t → under s t ≡ under r t
unfolding AllAreKnown
same_instance ks s r t a b =
    under_the_same s r t (λ n m.
    let p : Some (Some (a n m).0) ≡ Some (Some (b n m).0) = sym (a n m).2 ∙ (b n m).2 in
    let same : (a n m).0 ≡ (b n m).0 = cc in
    (a n m).1 ∙ ap Some same ∙ sym (b n m).1)

-- a parameter or an alias with known parameters clashes where its instance is unequal
instance_clash : (M B : Level) → IsAbove M B → (ks : List (Option Tree)) (s : List Tree) (t g : Tree) → is_whole (node_of t) ≡ true → AllAreKnown (IsKnown ks) s (erased t) →
    M.clash (IsKnown ks) (erased t) g ↔ M.unequal (under s (erased t)) g
unfolding InstanceUnequal
instance_clash M B above ks s t g w all =
    let whole : M.clash (IsKnown ks) (erased t) g ↔ InstanceUnequal B (IsKnown ks) (erased t) g = clash-whole M B above (IsKnown ks) t g w in
    let other : M.unequal (under s (erased t)) g ↔ Unequal B (under s (erased t)) g = above.unequal (under s (erased t)) g in (
      λ x. let y : InstanceUnequal B (IsKnown ks) (erased t) g = whole.0 x in
          other.1 (subst (λ u. Unequal B u g) (same_instance ks y.0 s (erased t) y.1 all) y.2),
      λ x. whole.1 (s, all, other.0 x),
    )

-- no clash of what mentions a parameter that isn't known
pub instance-unknown : (c : over.Setting) (depth : ℕ) (T : List Tree) (known : List (Option TermId)) (h : TermRef) (g : TermId) (b : Bool) →
    is_whole (node_of (tree_of_ref h)) ≡ true → b ≡ some_node (is_unknown known) (tree_of_ref h) → b ≡ true →
    TestOutcome c depth (λ L. L.clash (IsKnown (known_trees T known)) (erased_ref h) (erased_at T g)) false
unfolding InstanceUnequal
instance-unknown c depth T known h g b w e f m s x =
    let y : InstanceUnequal (below (setting_in c m) depth) (IsKnown (known_trees T known)) (erased_ref h) (erased_at T g) =
    (clash-whole (level_in c m depth) (below (setting_in c m) depth) (level-above (setting_in c m) depth) (IsKnown (known_trees T known)) (tree_of_ref h) (erased_at T g) w).0 x in
    not_all_known T known (tree_of_ref h) y.0 (sym e ∙ f) y.1

-- whether an outcome refutes
abbrev pub is_refuted : Outcome → Bool
is_refuted outcome.Holds = false
is_refuted outcome.Refuted = true
is_refuted outcome.Undecided = false

refuted_only : (P R : Type 0) (o : Outcome) → (P → R → ⊥) → Says P R o → Answers R (is_refuted o)
refuted_only P R outcome.Holds f h = λ r. f h r
refuted_only P R outcome.Refuted f h = h
refuted_only P R outcome.Undecided f h = h.1

-- a comparison of the instance answers whether there is a clash
pub instance-says : (c : over.Setting) (depth : ℕ) (T V : List Tree) (known : List (Option TermId)) (args : List TermId) (h : TermRef) (g inst : TermId) (b : Bool) (o x : Outcome) →
    is_whole (node_of (tree_of_ref h)) ≡ true → Fills known args → b ≡ some_node (is_unknown known) (tree_of_ref h) → b ≡ false →
    erased_at V inst ≡ under (erased_all T args) (erased_ref h) → erased_at V g ≡ erased_at T g →
    ((m : TypingMode) → RunsFor c m → Says ((level_in c m depth).equal (erased_at V inst) (erased_at V g)) ((level_in c m depth).unequal (erased_at V inst) (erased_at V g)) o) → o ≡ x →
    TestOutcome c depth (λ L. L.clash (IsKnown (known_trees T known)) (erased_ref h) (erased_at T g)) (is_refuted x)
instance-says c depth T V known args h g inst b o x w fills e f tree given says is m s =
    let clash : (level_in c m depth).clash (IsKnown (known_trees T known)) (erased_ref h) (erased_at T g) ↔ (level_in c m depth).unequal (under (erased_all T args) (erased_ref h)) (erased_at T g) =
    instance_clash (level_in c m depth) (below (setting_in c m) depth) (level-above (setting_in c m) depth) (known_trees T known) (erased_all T args) (tree_of_ref h) (erased_at T g) w
    (all_known T known args (tree_of_ref h) fills (sym e ∙ f)) in
    subst (λ y. Answers ((level_in c m depth).clash (IsKnown (known_trees T known)) (erased_ref h) (erased_at T g)) (is_refuted y)) is
    (answers-same ((level_in c m depth).unequal (erased_at V inst) (erased_at V g)) ((level_in c m depth).clash (IsKnown (known_trees T known)) (erased_ref h) (erased_at T g)) (is_refuted o)
    (rw (tree, given) (clash.1, clash.0))
    (refuted_only _ _ o ((each_level_is_consistent (setting_in c m) depth).no_equal_unequal (erased_at V inst) (erased_at V g)) (says m s)))

-- a constructor clashes with an alias that has no head form, or one that clashes
unfoldable pub ClashesBehind : Level → (ℕ → Tree → Type 0) → Tree → Tree → Head → Type 0
ClashesBehind B K t u h =
    HeadFormRefuted B (erased u) ⊎ ((f : Tree) × HasHeadForm B (erased u) f × ((node_of f ≢ nodes.Head (erased_head h)) ⊎ B.clash K (erased t) f))

clash-through : (M B : Level) → IsAbove M B → (K : ℕ → Tree → Type 0) (t u : Tree) (h : Head) (k : AliasTermKind) → node_of t ≡ nodes.Head h → is_any h ≡ false →
    node_of u ≡ nodes.Alias k → M.clash K (erased t) (erased u) ↔ ClashesBehind B K t u h
unfolding erased StepClashes HasHeadForm HeadFormRefuted ClashesBehind
clash-through M B above K (node i ts) (alias j us) h k e f a =
    let same : h ≡ i = cc in
    rw same (clash-step M B above K i ts (erased (alias j us)) (ap is_any (sym same) ∙ f))
clash-through M B above K (node i ts) (node j us) h k e f a = absurd (cc)
clash-through M B above K (node i ts) (variable w) h k e f a = absurd (cc)
clash-through M B above K (alias i ts) u h k e f a = absurd (cc)
clash-through M B above K (variable w) u h k e f a = absurd (cc)

no_clash-nothing : (K : ℕ → Tree → Type 0) (t u : Tree) (h : Head) (k : AliasTermKind) → node_of u ≡ nodes.Alias k → ClashesBehind nothing K t u h → ⊥
unfolding ClashesBehind HasHeadForm HeadFormRefuted erased
no_clash-nothing K t (node i us) h k e x = absurd (cc)
no_clash-nothing K t (alias j us) h k e x = elim x [ inl r ↦ r | inr y ↦ y.1 ]
no_clash-nothing K t (variable v) h k e x = absurd (cc)

-- at depth 0 no clash is known behind an alias
pub behind_clash-zero : (c : over.Setting) (depth : ℕ) (T : List Tree) (ks : List (Option Tree)) (h : TermRef) (g : TermId) → IsBehind T is_any h g → depth ≡ 0 →
    TestOutcome c depth (λ L. L.clash (IsKnown ks) (erased_ref h) (erased_at T g)) false
behind_clash-zero c depth T ks h g b e m s x =
    let y : (level_in c m 0).clash (IsKnown ks) (erased_ref h) (erased_at T g) = subst (λ j. (level_in c m j).clash (IsKnown ks) (erased_ref h) (erased_at T g)) e x in
    no_clash-nothing (IsKnown ks) (tree_of_ref h) (tree_at T g) b.head b.kind b.alias
    ((clash-through (level_in c m 0) nothing (level-above (setting_in c m) 0) (IsKnown ks) (tree_of_ref h) (tree_at T g) b.head b.kind b.top b.other b.alias).0 y)

behinds : (c : over.Setting) (m : TypingMode) (depth d : ℕ) (T : List Tree) (ks : List (Option Tree)) (h : TermRef) (g : TermId) (b : IsBehind T is_any h g) → depth ≡ suc d →
    (level_in c m depth).clash (IsKnown ks) (erased_ref h) (erased_at T g) ↔ ClashesBehind (level_in c m d) (IsKnown ks) (tree_of_ref h) (tree_at T g) b.head
behinds c m depth d T ks h g b e =
    clash-through (level_in c m depth) (level_in c m d) (above-lower (setting_in c m) depth d e) (IsKnown ks) (tree_of_ref h) (tree_at T g) b.head b.kind b.top b.other b.alias

-- an alias without a head form clashes
pub behind_clash-refuted : (c : over.Setting) (depth d : ℕ) (T : List Tree) (ks : List (Option Tree)) (h : TermRef) (g : TermId) → IsBehind T is_any h g → depth ≡ suc d →
    ((m : TypingMode) → RunsFor c m → HeadFormRefuted (level_in c m d) (erased_at T g)) →
    TestOutcome c depth (λ L. L.clash (IsKnown ks) (erased_ref h) (erased_at T g)) true
unfolding ClashesBehind
behind_clash-refuted c depth d T ks h g b e r m s = (behinds c m depth d T ks h g b e).1 (inl (r m s))

-- one of which that is undecided isn't known to
pub behind_clash-undecided : (c : over.Setting) (depth d : ℕ) (T : List Tree) (ks : List (Option Tree)) (h : TermRef) (g : TermId) → IsBehind T is_any h g → depth ≡ suc d →
    ((m : TypingMode) → RunsFor c m → ((f : Tree) → HasHeadForm (level_in c m d) (erased_at T g) f → ⊥) × (HeadFormRefuted (level_in c m d) (erased_at T g) → ⊥)) →
    TestOutcome c depth (λ L. L.clash (IsKnown ks) (erased_ref h) (erased_at T g)) false
unfolding ClashesBehind
behind_clash-undecided c depth d T ks h g b e r m s x =
    elim ((behinds c m depth d T ks h g b e).0 x) [ inl y ↦ (r m s).1 y | inr z ↦ (r m s).0 z.0 z.1 ]

-- one whose head form has another constructor clashes
pub behind_clash-other : (c : over.Setting) (depth d : ℕ) (T V : List Tree) (ks : List (Option Tree)) (h : TermRef) (g form : TermId) → IsBehind T is_any h g → depth ≡ suc d →
    ((m : TypingMode) → RunsFor c m → HasHeadForm (level_in c m d) (erased_at T g) (erased_at V form)) →
    compared_node Forgotten (node_of (tree_of_ref h)) ≢ compared_node Forgotten (node_of (tree_at V form)) →
    TestOutcome c depth (λ L. L.clash (IsKnown ks) (erased_ref h) (erased_at T g)) true
unfolding ClashesBehind
behind_clash-other c depth d T V ks h g form b e r other m s =
    (behinds c m depth d T ks h g b e).1 (inr (erased_at V form, r m s, inl (node-other (tree_of_ref h) (tree_at V form) b.head b.top other)))

-- one with the same clashes where that does
through_clash : (c : over.Setting) (m : TypingMode) (depth d : ℕ) (T V : List Tree) (ks : List (Option Tree)) (h : TermRef) (g form : TermId) → IsBehind T is_any h g → depth ≡ suc d →
    HasHeadForm (level_in c m d) (erased_at T g) (erased_at V form) →
    compared_node Forgotten (node_of (tree_of_ref h)) ≡ compared_node Forgotten (node_of (tree_at V form)) →
    (level_in c m d).clash (IsKnown ks) (erased_ref h) (erased_at V form) ↔ (level_in c m depth).clash (IsKnown ks) (erased_ref h) (erased_at T g)
unfolding ClashesBehind
through_clash c m depth d T V ks h g form b e r same =
    let st : (level_in c m depth).clash (IsKnown ks) (erased_ref h) (erased_at T g) ↔ ClashesBehind (level_in c m d) (IsKnown ks) (tree_of_ref h) (tree_at T g) b.head = behinds c m depth d T ks h g b e in
    let top : node_of (erased_at V form) ≡ nodes.Head (erased_head b.head) = node-erased (tree_of_ref h) (tree_at V form) b.head b.top same in (
      λ y. st.1 (inr (erased_at V form, r, inr y)),
      λ x. elim (st.0 x) [
        | inl z ↦ absurd (no_head_form_refuted (level_in c m d) (each_level_is_consistent (setting_in c m) d).no_term_refuted (erased_at T g) (erased_at V form) r z)
        | inr z ↦
            let one : z.0 ≡ erased_at V form = one_head_form (level_in c m d) (each_level_is_consistent (setting_in c m) d).one_term (erased_at T g) z.0 (erased_at V form) z.1 r in
            elim z.2 [
              | inl n ↦ absurd (n (ap node_of one ∙ top))
              | inr y ↦ subst (λ f. (level_in c m d).clash (IsKnown ks) (erased_ref h) f) one y
            ]
      ],
    )

pub behind_clash-form : (c : over.Setting) (depth d : ℕ) (T V : List Tree) (known : List (Option TermId)) (h : TermRef) (g form : TermId) (r : Result Bool Stop) →
    IsBehind T is_any h g → depth ≡ suc d → Keeps T V → KnownIn T known →
    ((m : TypingMode) → RunsFor c m → HasHeadForm (level_in c m d) (erased_at T g) (erased_at V form)) →
    compared_node Forgotten (node_of (tree_of_ref h)) ≡ compared_node Forgotten (node_of (tree_at V form)) →
    IfOk r (TestOutcome c d (λ L. L.clash (IsKnown (known_trees V known)) (erased_ref h) (erased_at V form))) →
    IfOk r (TestOutcome c depth (λ L. L.clash (IsKnown (known_trees T known)) (erased_ref h) (erased_at T g)))
behind_clash-form c depth d T V known h g form (Ok b) behind e keeps all f same says =
    λ m s. answers-same _ _ b (through_clash c m depth d T V (known_trees T known) h g form behind e (f m s) same)
    (subst (λ ks. Answers ((level_in c m d).clash (IsKnown ks) (erased_ref h) (erased_at V form)) b) (known_same-grown T V keeps known all) (says m s))
behind_clash-form c depth d T V known h g form (Err x) behind e keeps all f same says = says

-- a question in a table that has grown
clash_grown : (L : Level) (T U : List Tree) → Keeps T U → (known : List (Option TermId)) (h : TermRef) (g : TermId) → KnownIn T known → IsIn T g →
    L.clash (IsKnown (known_trees U known)) (erased_ref h) (erased_at U g) ↔ L.clash (IsKnown (known_trees T known)) (erased_ref h) (erased_at T g)
clash_grown L T U keeps known h g all within = rw (known_same-grown T U keeps known all, same-grown T U keeps g within) (λ x. x, λ x. x)

pub clash_at-grown : (L : Level) (T U : List Tree) → Keeps T U → (known : List (Option TermId)) (q : Question) → KnownIn T known → QuestionIn T q →
    ClashAt L (known_trees U known) U q ↔ ClashAt L (known_trees T known) T q
clash_at-grown L T U keeps known question.Differs all h = (λ x. x, λ x. x)
clash_at-grown L T U keeps known (question.Instance x g) all h = clash_grown L T U keeps known x g all h.0
clash_at-grown L T U keeps known (question.Behind x g) all h = clash_grown L T U keeps known x g all h.within

exists-at : {A : Type 0} (P : A → Type 0) (xs : List A) (i : ℕ) (x : A) → i < length xs → x ≡ get_or xs i x → P x → Exists P xs
unfolding Exists
exists-at P [] i x l e p = absurd (omega arith)
exists-at P (y ∷ ys) zero x l e p = inl (subst P e p)
exists-at P (y ∷ ys) (suc i) x l e p = inr (exists-at P ys i x (omega arith) e p)

-- some question has that answer
pub any-found : (c : over.Setting) (depth : ℕ) (T U : List Tree) (known : List (Option TermId)) (questions : List Question) (i : ℕ) (q : Question) (b : Bool) →
    i < length questions → q ≡ get_or questions i q → Keeps T U → KnownIn T known → All (QuestionIn T) questions →
    TestOutcome c depth (λ L. ClashAt L (known_trees U known) U q) b → b ≡ true →
    TestOutcome c depth (λ L. Exists (ClashAt L (known_trees T known) T) questions) true
any-found c depth T U known questions i q b l e keeps all within says w m s =
    exists-at (ClashAt (level_in c m depth) (known_trees T known) T) questions i q l e
    ((clash_at-grown (level_in c m depth) T U keeps known q all (subst (QuestionIn T) (sym e) (within i q l))).0 (subst (Answers (ClashAt (level_in c m depth) (known_trees U known) U q)) w (says m s)))

-- no question so far has
pub any-more : (c : over.Setting) (depth : ℕ) (T U : List Tree) (known : List (Option TermId)) (questions : List Question) (i : ℕ) (q : Question) (b : Bool) →
    i < length questions → q ≡ get_or questions i q → Keeps T U → KnownIn T known → All (QuestionIn T) questions →
    TestOutcome c depth (λ L. ClashAt L (known_trees U known) U q) b → b ≡ false →
    ((m : TypingMode) → RunsFor c m → Exists (ClashAt (level_in c m depth) (known_trees T known) T) (take i questions) → ⊥) →
    (m : TypingMode) → RunsFor c m → Exists (ClashAt (level_in c m depth) (known_trees T known) T) (take (i + 1) questions) → ⊥
any-more c depth T U known questions i q b l e keeps all within says w before m s x =
    let split : Exists (ClashAt (level_in c m depth) (known_trees T known) T) (take i questions) ⊎ ClashAt (level_in c m depth) (known_trees T known) T q =
    (exists-push (ClashAt (level_in c m depth) (known_trees T known) T) (take i questions) q).0
    (subst (Exists (ClashAt (level_in c m depth) (known_trees T known) T)) (rw add-one (take_one questions i q l e)) x) in
    elim split [
      | inl y ↦ before m s y
      | inr y ↦ subst (Answers (ClashAt (level_in c m depth) (known_trees U known) U q)) w (says m s) ((clash_at-grown (level_in c m depth) T U keeps known q all (subst (QuestionIn T) (sym e) (within i q l))).1 y)
    ]

pub any-none : {A : Type 0} (P : A → Type 0) → Exists P [] → ⊥
unfolding Exists
any-none P x = x

pub any-end : (c : over.Setting) (depth : ℕ) (T : List Tree) (ks : List (Option Tree)) (questions : List Question) (i : ℕ) → take i questions ≡ questions →
    ((m : TypingMode) → RunsFor c m → Exists (ClashAt (level_in c m depth) ks T) (take i questions) → ⊥) →
    TestOutcome c depth (λ L. Exists (ClashAt L ks T) questions) false
any-end c depth T ks questions i e before m s x = before m s (subst (Exists (ClashAt (level_in c m depth) ks T)) (sym e) x)

-- what questions come to
pub asked-of : (c : over.Setting) (depth : ℕ) (T : List Tree) (ks : List (Option Tree)) (questions items : List Question) (P : Level → Type 0) (r : Result Bool Stop) → questions ≡ items →
    ((m : TypingMode) → Exists (ClashAt (level_in c m depth) ks T) items ↔ P (level_in c m depth)) →
    IfOk r (TestOutcome c depth (λ L. Exists (ClashAt L ks T) questions)) → IfOk r (TestOutcome c depth P)
asked-of c depth T ks questions items P (Ok b) e f says =
    λ m s. answers-same (Exists (ClashAt (level_in c m depth) ks T) items) (P (level_in c m depth)) b (f m)
    (subst (λ qs. Answers (Exists (ClashAt (level_in c m depth) ks T) qs) b) e (says m s))
asked-of c depth T ks questions items P (Err x) e f says = says

-- nothing asked before
pub nothing-asked : {A : Type 0} (P : A → Type 0) (old : List A) (E C : Type 0) → old ≡ [] → E ↔ (Exists P old ⊎ C) → E ↔ C
nothing-asked P [] E C e f = (λ x. elim (f.0 x) [ inl p ↦ absurd (any-none P p) | inr q ↦ q ], λ y. f.1 (inr y))
nothing-asked P (x ∷ xs) E C e f = absurd (cc)
