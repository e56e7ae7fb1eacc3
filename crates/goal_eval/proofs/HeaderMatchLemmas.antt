-- What a header comes to, by what is known of its parameters and by its instances.
use Rattle.std.proofs.Common.{◌≡◌, ℕ, zero, suc, ◌+◌, Bool, true, false, ◌&&◌, List, [], ◌∷◌, map, Option, Some, None, refl, sym, ap, ◌∙◌, subst, arith}
use Rattle.std.specs.Prelude.{◌↔◌, Result, Ok, Err, IfOk, slice_get, Vec}
use Rattle.std.specs.Global.{Global}
use Rattle.std.proofs.lemmas.Bool.{false≢true}
use Rattle.std.proofs.lemmas.Option.{same_Some}
use Rattle.goal_interner.specs.TableMeaning.{Keeps}
use Rattle.goal_terms.specs.Tree.{Tree}
use Rattle.goal_terms.specs.declared.answers.ParamKind.{ParamKind}
use Rattle.goal_terms.specs.declared.answers.ParamKind.TheVariants as kind
use Rattle.goal_terms.specs.declared.modes.TypingMode.{TypingMode}
use Rattle.goal_interner.specs.declared.term_nodes.TermId.{TermId}
use Rattle.goal_lists.specs.Headers.{under, PartAmong, is_term_kind, Known, PartsFrom, AllKnown, Fits, Clashes}
use Rattle.goal_lists.specs.Interned.{erased_at, erased_all, AreIn}
use Rattle.goal_lists.specs.Laws.{IsConsistent}
use Rattle.goal_lists.specs.Level.{Level}
use Rattle.goal_lists.specs.Levels.{level}
use Rattle.goal_lists.specs.Settings.{Setting}
use Rattle.goal_lists.specs.Words.{Pairs, SomePair}
use Rattle.goal_lists.proofs.ConsistentLemmas.{each_level_is_consistent}
use Rattle.goal_lists.proofs.EqualLemmas.{no_pair_apart}
use Rattle.goal_lists.proofs.InternedLemmas.{all_same-grown}
use Rattle.goal_lists.proofs.SubstitutionLemmas.{one_part_among}
use Rattle.goal_lists.proofs.WithinLevels.{within-level_itself}
use Rattle.goal_lists.proofs.WithinWords.{some_pair-map}
use Rattle.goal_eval.specs.HeaderWords.{IsKnown, known_trees, KnownIn, IsFilled, AreFilled, Fills, is_complete, SaysPart, KnownFrom, Answers, TestOutcome, KnownOutcome, MatchOutcome}
use Rattle.goal_eval.specs.Outcomes.{RunsFor, Says, SaysMatch, setting_in, level_in}
use Rattle.goal_eval.specs.declared.eval.outcomes.HeaderMatch.{HeaderMatch}
use Rattle.goal_eval.specs.declared.eval.outcomes.HeaderMatch.TheVariants as match
use Rattle.goal_lists.specs.declared.outcomes.Outcome.{Outcome}
use Rattle.goal_lists.specs.declared.outcomes.Outcome.TheVariants as outcome
use Rattle.goal_eval.specs.declared.eval.outcomes.Setting as over
use Rattle.goal_eval.specs.declared.eval.outcomes.Stop.{Stop}
use Rattle.goal_eval.proofs.HeaderArgLemmas.{known_same-grown}

-- a filled list has the known terms at their places
filled_at : (T : List Tree) (o : Option TermId) (x id : TermId) → IsFilled T o x → Some o ≡ Some (Some id) → Some x ≡ Some id
filled_at T None x id f e = let none : None ≡ Some id = same_Some None (Some id) e in absurd (cc)
filled_at T (Some y) x id f e = ap Some f ∙ same_Some (Some y) (Some id) e

pub filled-fills : (T : List Tree) (known : List (Option TermId)) (args : List TermId) → AreFilled T known args → Fills known args
filled-fills T [] [] f n id e = absurd (cc)
filled-fills T [] (x ∷ args) f n id e = absurd f
filled-fills T (o ∷ known) [] f n id e = absurd f
filled-fills T (o ∷ known) (x ∷ args) f zero id e = filled_at T o x id f.0 e
filled-fills T (o ∷ known) (x ∷ args) f (suc n) id e = filled-fills T known args f.1 n id e

both_true : (a b : Bool) → a && b ≡ true → (a ≡ true) × (b ≡ true)
both_true true b e = (refl, e)
both_true false b e = absurd (false≢true e)

-- where all parameters are known, the filled list has their terms
parts-complete : (L : Level) (hs gs T : List Tree) (n : ℕ) (params : List ParamKind) (known : List (Option TermId)) (args : List TermId) → AreFilled T known args →
    is_complete params known ≡ true → KnownFrom L hs gs n params (known_trees T known) → PartsFrom L hs gs n params (erased_all T args)
unfolding KnownFrom PartsFrom is_complete
parts-complete L hs gs T n [] [] [] f w k = tt
parts-complete L hs gs T n [] [] (x ∷ xs) f w k = absurd f
parts-complete L hs gs T n [] (o ∷ os) xs f w k = absurd k
parts-complete L hs gs T n (p ∷ ps) [] xs f w k = absurd k
parts-complete L hs gs T n (p ∷ ps) (o ∷ os) [] f w k = absurd f
parts-complete L hs gs T n (kind.Lifetime ∷ ps) (None ∷ os) (x ∷ xs) f w k = (f.0, parts-complete L hs gs T (suc n) ps os xs f.1 w k.1)
parts-complete L hs gs T n (kind.Lifetime ∷ ps) (Some id ∷ os) (x ∷ xs) f w k = let impossible : Some (erased_at T id) ≡ None = k.0 in absurd (cc)
parts-complete L hs gs T n (kind.Ty ∷ ps) (None ∷ os) (x ∷ xs) f w k = absurd (false≢true w)
parts-complete L hs gs T n (kind.Ty ∷ ps) (Some id ∷ os) (x ∷ xs) f w k =
    (subst (PartAmong L n hs gs) (sym (ap (erased_at T) f.0)) k.0, parts-complete L hs gs T (suc n) ps os xs f.1 w k.1)
parts-complete L hs gs T n (kind.Const ∷ ps) (None ∷ os) (x ∷ xs) f w k = absurd (false≢true w)
parts-complete L hs gs T n (kind.Const ∷ ps) (Some id ∷ os) (x ∷ xs) f w k =
    (subst (PartAmong L n hs gs) (sym (ap (erased_at T) f.0)) k.0, parts-complete L hs gs T (suc n) ps os xs f.1 w k.1)

-- else no list has
parts-incomplete : (L : Level) (hs gs T : List Tree) (n : ℕ) (params : List ParamKind) (known : List (Option TermId)) (s : List Tree) →
    is_complete params known ≡ false → KnownFrom L hs gs n params (known_trees T known) → PartsFrom L hs gs n params s → ⊥
unfolding KnownFrom PartsFrom is_complete
parts-incomplete L hs gs T n [] os s w k x = false≢true (sym w)
parts-incomplete L hs gs T n (p ∷ ps) [] s w k x = k
parts-incomplete L hs gs T n (p ∷ ps) (o ∷ os) [] w k x = x
parts-incomplete L hs gs T n (kind.Lifetime ∷ ps) (o ∷ os) (a ∷ s) w k x = parts-incomplete L hs gs T (suc n) ps os s w k.1 x.1
parts-incomplete L hs gs T n (kind.Ty ∷ ps) (None ∷ os) (a ∷ s) w k x = k.0 a x.0
parts-incomplete L hs gs T n (kind.Ty ∷ ps) (Some id ∷ os) (a ∷ s) w k x = parts-incomplete L hs gs T (suc n) ps os s w k.1 x.1
parts-incomplete L hs gs T n (kind.Const ∷ ps) (None ∷ os) (a ∷ s) w k x = k.0 a x.0
parts-incomplete L hs gs T n (kind.Const ∷ ps) (Some id ∷ os) (a ∷ s) w k x = parts-incomplete L hs gs T (suc n) ps os s w k.1 x.1

-- what is said of a part is its one term
one_known : (L : Level) → IsConsistent L → (hs gs : List Tree) (j : ℕ) (o : Option Tree) (u : Tree) → SaysPart (PartAmong L j hs gs) o → PartAmong L j hs gs u → o ≡ Some u
one_known L laws hs gs j None u k p = absurd (k u p)
one_known L laws hs gs j (Some v) u k p = ap Some (one_part_among L laws j hs gs v u k p)

some_known : (L : Level) (hs gs : List Tree) (j : ℕ) (o : Option Tree) (u : Tree) → SaysPart (PartAmong L j hs gs) o → o ≡ Some u → PartAmong L j hs gs u
some_known L hs gs j None u k e = absurd (cc)
some_known L hs gs j (Some v) u k e = let same : v ≡ u = cc in subst (PartAmong L j hs gs) same k

-- a known parameter's term is in the list
known-is : (L : Level) → IsConsistent L → (hs gs : List Tree) (m : ℕ) (params : List ParamKind) (ks : List (Option Tree)) → KnownFrom L hs gs m params ks →
    (n j : ℕ) (u : Tree) → m + n ≡ j → is_term_kind (slice_get params n) ≡ true → PartAmong L j hs gs u → IsKnown ks n u
unfolding KnownFrom
known-is L laws hs gs m [] [] k n j u e w p = absurd (false≢true w)
known-is L laws hs gs m [] (o ∷ os) k n j u e w p = absurd k
known-is L laws hs gs m (x ∷ ps) [] k n j u e w p = absurd k
known-is L laws hs gs m (kind.Lifetime ∷ ps) (o ∷ os) k zero j u e w p = absurd (false≢true w)
known-is L laws hs gs m (kind.Ty ∷ ps) (o ∷ os) k zero j u e w p =
    let here : j ≡ m = omega (arith, e) in ap Some (one_known L laws hs gs m o u k.0 (subst (λ i. PartAmong L i hs gs u) here p))
known-is L laws hs gs m (kind.Const ∷ ps) (o ∷ os) k zero j u e w p =
    let here : j ≡ m = omega (arith, e) in ap Some (one_known L laws hs gs m o u k.0 (subst (λ i. PartAmong L i hs gs u) here p))
known-is L laws hs gs m (x ∷ ps) (o ∷ os) k (suc n) j u e w p = known-is L laws hs gs (suc m) ps os k.1 n j u (omega (arith, e)) w p

-- and a term of the list is that of a known parameter
is-known : (L : Level) (hs gs : List Tree) (m : ℕ) (params : List ParamKind) (ks : List (Option Tree)) → KnownFrom L hs gs m params ks →
    (n j : ℕ) (u : Tree) → m + n ≡ j → IsKnown ks n u → (is_term_kind (slice_get params n) ≡ true) × PartAmong L j hs gs u
unfolding KnownFrom
is-known L hs gs m [] [] k n j u e w = absurd (cc)
is-known L hs gs m [] (o ∷ os) k n j u e w = absurd k
is-known L hs gs m (x ∷ ps) [] k n j u e w = absurd k
is-known L hs gs m (kind.Lifetime ∷ ps) (o ∷ os) k zero j u e w = let p : o ≡ None = k.0 in absurd (cc)
is-known L hs gs m (kind.Ty ∷ ps) (o ∷ os) k zero j u e w =
    let here : m ≡ j = omega (arith, e) in let same : o ≡ Some u = cc in (refl, subst (λ i. PartAmong L i hs gs u) here (some_known L hs gs m o u k.0 same))
is-known L hs gs m (kind.Const ∷ ps) (o ∷ os) k zero j u e w =
    let here : m ≡ j = omega (arith, e) in let same : o ≡ Some u = cc in (refl, subst (λ i. PartAmong L i hs gs u) here (some_known L hs gs m o u k.0 same))
is-known L hs gs m (x ∷ ps) (o ∷ os) k (suc n) j u e w = is-known L hs gs (suc m) ps os k.1 n j u (omega (arith, e)) w

-- a header clashes where it does by the list of what is known
clashes-same : (S : Setting) (d : ℕ) (hs gs : List Tree) (params : List ParamKind) (ks : List (Option Tree)) → KnownFrom (level S d) hs gs 0 params ks →
    SomePair ((level S d).clash (IsKnown ks)) hs gs ↔ Clashes (level S d) params hs gs
unfolding Clashes Known
clashes-same S d hs gs params ks k = (
  some_pair-map ((within-level_itself S d).clash (IsKnown ks) (Known (level S d) params hs gs) (λ n u e. is-known (level S d) hs gs 0 params ks k n n u (omega arith) e)) hs gs,
  some_pair-map ((within-level_itself S d).clash (Known (level S d) params hs gs) (IsKnown ks)
      (λ n u x. known-is (level S d) (each_level_is_consistent S d) hs gs 0 params ks k n n u (omega arith) x.0 x.1)) hs gs,
)

-- whether an outcome says that something holds
abbrev pub is_held : Outcome → Bool
is_held outcome.Holds = true
is_held outcome.Refuted = false
is_held outcome.Undecided = false

held_only : (P R : Type 0) (o : Outcome) → (P → R → ⊥) → Says P R o → Answers P (is_held o)
held_only P R outcome.Holds f h = h
held_only P R outcome.Refuted f h = λ p. f p h
held_only P R outcome.Undecided f h = h.0

-- a comparison of lists answers whether all pairs are equal
pub fit-says : (c : over.Setting) (depth : ℕ) (T V : List Tree) (ids given : List TermId) (ts : List Tree) (ids' : List TermId) (o x : Outcome) →
    ids' ≡ ids → erased_all V ids ≡ ts → erased_all V given ≡ erased_all T given →
    ((m : TypingMode) → RunsFor c m → Says (Pairs (level_in c m depth).equal (erased_all V ids') (erased_all V given)) (SomePair (level_in c m depth).unequal (erased_all V ids') (erased_all V given)) o) →
    o ≡ x → TestOutcome c depth (λ L. Pairs L.equal ts (erased_all T given)) (is_held x)
fit-says c depth T V ids given ts ids' o x same trees here says is m s =
    let held : Answers (Pairs (level_in c m depth).equal (erased_all V ids') (erased_all V given)) (is_held o) =
    held_only _ _ o (no_pair_apart (level_in c m depth).equal (level_in c m depth).unequal (each_level_is_consistent (setting_in c m) depth).no_equal_unequal (erased_all V ids') (erased_all V given)) (says m s) in
    let first : Answers (Pairs (level_in c m depth).equal ts (erased_all V given)) (is_held o) =
    subst (λ us. Answers (Pairs (level_in c m depth).equal us (erased_all V given)) (is_held o)) (ap (erased_all V) same ∙ trees) held in
    subst (λ y. Answers (Pairs (level_in c m depth).equal ts (erased_all T given)) (is_held y)) is
    (subst (λ us. Answers (Pairs (level_in c m depth).equal ts us) (is_held o)) here first)

-- all parameters are known, and the filled list has their terms
all_known_by : (c : over.Setting) (depth : ℕ) (T U : List Tree) (params : List ParamKind) (hs gs : List Tree) (known : List (Option TermId)) (args : List TermId) → Keeps T U → AreIn T args →
    AreFilled T known args → is_complete params known ≡ true → (m : TypingMode) → KnownFrom (level_in c m depth) hs gs 0 params (known_trees T known) →
    AllKnown (level_in c m depth) params hs gs (erased_all U args)
unfolding AllKnown
all_known_by c depth T U params hs gs known args keeps within f w m k =
    subst (PartsFrom (level_in c m depth) hs gs 0 params) (sym (all_same-grown T U keeps args within))
    (parts-complete (level_in c m depth) hs gs T 0 params known args f w k)

-- the header fits
pub match-fits : (c : over.Setting) (depth : ℕ) (T U : List Tree) (params : List ParamKind) (hs gs : List Tree) (known : List (Option TermId)) (v : Vec TermId Global) (args : List TermId) (b : Bool) → Keeps T U → AreIn T v.items →
    AreFilled T known v.items → is_complete params known ≡ true → KnownOutcome c depth hs gs params (known_trees T known) → args ≡ v.items →
    TestOutcome c depth (λ L. Pairs L.equal (map (under (erased_all T args)) hs) gs) b → b ≡ true →
    MatchOutcome c depth params hs gs U (match.Fits v)
unfolding Fits
match-fits c depth T U params hs gs known v args b keeps within f w k same says e m s = (
  all_known_by c depth T U params hs gs known v.items keeps within f w m (k m s),
  subst (λ ts. Pairs (level_in c m depth).equal (map (under ts) hs) gs) (ap (erased_all T) same ∙ sym (all_same-grown T U keeps v.items within))
      (subst (Answers (Pairs (level_in c m depth).equal (map (under (erased_all T args)) hs) gs)) e (says m s)),
)

-- what is said of a clash in a table that has grown
clash_in : (c : over.Setting) (depth : ℕ) (T V : List Tree) (hs : List Tree) (given : List TermId) (known : List (Option TermId)) (b x : Bool) → Keeps T V → AreIn T given → KnownIn T known →
    TestOutcome c depth (λ L. SomePair (L.clash (IsKnown (known_trees V known))) hs (erased_all V given)) b → b ≡ x →
    TestOutcome c depth (λ L. SomePair (L.clash (IsKnown (known_trees T known))) hs (erased_all T given)) x
clash_in c depth T V hs given known b x keeps within all says e m s =
    subst (Answers (SomePair ((level_in c m depth).clash (IsKnown (known_trees T known))) hs (erased_all T given))) e
    (subst (λ ks. Answers (SomePair ((level_in c m depth).clash (IsKnown ks)) hs (erased_all T given)) b) (known_same-grown T V keeps known all)
    (subst (λ gs. Answers (SomePair ((level_in c m depth).clash (IsKnown (known_trees V known))) hs gs) b) (all_same-grown T V keeps given within) (says m s)))

-- the header clashes
pub match-clashes : (c : over.Setting) (depth : ℕ) (T V U : List Tree) (params : List ParamKind) (hs : List Tree) (given : List TermId) (known : List (Option TermId)) (b : Bool) → Keeps T V → AreIn T given → KnownIn T known →
    KnownOutcome c depth hs (erased_all T given) params (known_trees T known) →
    TestOutcome c depth (λ L. SomePair (L.clash (IsKnown (known_trees V known))) hs (erased_all V given)) b → b ≡ true →
    MatchOutcome c depth params hs (erased_all T given) U match.Clashes
match-clashes c depth T V U params hs given known b keeps within all k says e m s =
    (clashes-same (setting_in c m) depth hs (erased_all T given) params (known_trees T known) (k m s)).0
    (clash_in c depth T V hs given known b true keeps within all says e m s)

no_clashes : (c : over.Setting) (depth : ℕ) (T V : List Tree) (params : List ParamKind) (hs : List Tree) (given : List TermId) (known : List (Option TermId)) (b : Bool) → Keeps T V → AreIn T given → KnownIn T known →
    KnownOutcome c depth hs (erased_all T given) params (known_trees T known) →
    TestOutcome c depth (λ L. SomePair (L.clash (IsKnown (known_trees V known))) hs (erased_all V given)) b → b ≡ false →
    (m : TypingMode) → RunsFor c m → Clashes (level_in c m depth) params hs (erased_all T given) → ⊥
no_clashes c depth T V params hs given known b keeps within all k says e m s x =
    clash_in c depth T V hs given known b false keeps within all says e m s
    ((clashes-same (setting_in c m) depth hs (erased_all T given) params (known_trees T known) (k m s)).1 x)

-- all parameters are known, and neither is known
pub match-known : (c : over.Setting) (depth : ℕ) (T V U : List Tree) (params : List ParamKind) (hs : List Tree) (given : List TermId) (known : List (Option TermId)) (v : Vec TermId Global) (list : List TermId) (fit clash : Bool) →
    Keeps T V → Keeps T U → AreIn T given → KnownIn T known → AreIn T v.items →
    AreFilled T known v.items → is_complete params known ≡ true → KnownOutcome c depth hs (erased_all T given) params (known_trees T known) → list ≡ v.items →
    TestOutcome c depth (λ L. Pairs L.equal (map (under (erased_all T list)) hs) (erased_all T given)) fit → fit ≡ false →
    TestOutcome c depth (λ L. SomePair (L.clash (IsKnown (known_trees V known))) hs (erased_all V given)) clash → clash ≡ false →
    MatchOutcome c depth params hs (erased_all T given) U (match.Known v)
unfolding Fits
match-known c depth T V U params hs given known v list fit clash keeps later within all args f w k same fits e clashes d m s = (
  all_known_by c depth T U params hs (erased_all T given) known v.items later args f w m (k m s),
  λ x. subst (Answers (Pairs (level_in c m depth).equal (map (under (erased_all T list)) hs) (erased_all T given))) e (fits m s)
      (subst (λ ts. Pairs (level_in c m depth).equal (map (under ts) hs) (erased_all T given)) (all_same-grown T U later v.items args ∙ ap (erased_all T) (sym same)) x.1),
  no_clashes c depth T V params hs given known clash keeps within all k clashes d m s,
)

-- some parameter isn't known, nor a clash
pub match-unknown : (c : over.Setting) (depth : ℕ) (T U : List Tree) (params : List ParamKind) (hs : List Tree) (given : List TermId) (known : List (Option TermId)) (b : Bool) → Keeps T T → AreIn T given → KnownIn T known →
    is_complete params known ≡ false → KnownOutcome c depth hs (erased_all T given) params (known_trees T known) →
    TestOutcome c depth (λ L. SomePair (L.clash (IsKnown (known_trees T known))) hs (erased_all T given)) b → b ≡ false →
    MatchOutcome c depth params hs (erased_all T given) U match.Unknown
unfolding AllKnown
match-unknown c depth T U params hs given known b keeps within all w k says e m s = (
  λ z x. parts-incomplete (level_in c m depth) hs (erased_all T given) T 0 params known z w (k m s) x,
  no_clashes c depth T T params hs given known b keeps within all k says e m s,
)

-- what is known, in a table that has grown
pub known-outcome-grown : (c : over.Setting) (depth : ℕ) (T U : List Tree) (hs : List Tree) (params : List ParamKind) (given : List TermId) (known : List (Option TermId)) → Keeps T U → AreIn T given → KnownIn T known →
    KnownOutcome c depth hs (erased_all T given) params (known_trees T known) → KnownOutcome c depth hs (erased_all U given) params (known_trees U known)
known-outcome-grown c depth T U hs params given known keeps within all k m s =
    subst (λ ks. KnownFrom (level_in c m depth) hs (erased_all U given) 0 params ks) (sym (known_same-grown T U keeps known all))
    (subst (λ gs. KnownFrom (level_in c m depth) hs gs 0 params (known_trees T known)) (sym (all_same-grown T U keeps given within)) (k m s))

-- what is known of given terms that are the same
pub known-outcome-given : (c : over.Setting) (depth : ℕ) (hs gs gs' : List Tree) (params : List ParamKind) (ks ks' : List (Option Tree)) → gs ≡ gs' → ks ≡ ks' →
    KnownOutcome c depth hs gs params ks → KnownOutcome c depth hs gs' params ks'
known-outcome-given c depth hs gs gs' params ks ks' e f k m s =
    subst (λ os. KnownFrom (level_in c m depth) hs gs' 0 params os) f (subst (λ xs. KnownFrom (level_in c m depth) hs xs 0 params ks) e (k m s))

-- what a header comes to for given terms that are the same
pub match-given : (c : over.Setting) (depth : ℕ) (params : List ParamKind) (hs gs gs' U : List Tree) (r : Result HeaderMatch Stop) → gs' ≡ gs →
    IfOk r (MatchOutcome c depth params hs gs' U) → IfOk r (MatchOutcome c depth params hs gs U)
match-given c depth params hs gs gs' U (Ok x) e says = λ m s. subst (λ xs. SaysMatch (level_in c m depth) params hs xs U x) e (says m s)
match-given c depth params hs gs gs' U (Err x) e says = says

-- in each mode
pub match-says : (c : over.Setting) (depth : ℕ) (params : List ParamKind) (hs gs U : List Tree) (r : Result HeaderMatch Stop) → IfOk r (MatchOutcome c depth params hs gs U) →
    (m : TypingMode) → RunsFor c m → IfOk r (SaysMatch (level_in c m depth) params hs gs U)
match-says c depth params hs gs U (Ok x) says m s = says m s
match-says c depth params hs gs U (Err x) says m s = says
