-- What an evaluation keeps stays right when the table of terms grows and when an answer is kept, and what is known of a goal is so.
use Rattle.std.proofs.Common.{◌≡◌, ◌<◌, ◌≤◌, ◌==◌, ◌∙◌, ℕ, Bool, true, false, List, [], length, Option, Some, None, refl, sym, ap, subst, ⊎_elim, arith}
use Rattle.std.specs.Prelude.{IfSome}
use Rattle.std.proofs.lemmas.Bool.{false≢true}
use Rattle.std.specs.HashMap.{get, HashMap}
use Rattle.std.specs.Map.{lookup}
use Rattle.std.proofs.lemmas.List.Elements.{All-nil, All-same}
use Rattle.goal_terms.specs.Erased.{erased}
use Rattle.goal_interner.specs.TableMeaning.{Keeps}
use Rattle.goal_terms.specs.Tree.{Tree, Trees, node, alias, variable, forest, list_of}
use Rattle.goal_terms.specs.declared.heads.Head.TheVariants as head
use Rattle.goal_terms.specs.declared.ids.TraitId.{TraitId}
use Rattle.goal_terms.specs.declared.modes.TypingMode.{TypingMode}
use Rattle.goal_terms.specs.declared.predicates.BoundConstness.{BoundConstness}
use Rattle.goal_terms.specs.declared.predicates.BoundConstness.TheVariants as constness
use Rattle.goal_interner.specs.declared.term_nodes.TermId.{TermId}
use Rattle.goal_terms.specs.declared.terms.AliasTermKind.{AliasTermKind}
use Rattle.goal_terms.proofs.TreeLemmas.{list_of-forest}
use Rattle.goal_lists.specs.Causes.{IsCaused, IsFaultCaused}
use Rattle.goal_lists.specs.Interned.{erased_at}
use Rattle.goal_lists.specs.Laws.{IsWithin}
use Rattle.goal_lists.specs.Level.{Level}
use Rattle.goal_lists.specs.Levels.{level}
use Rattle.goal_lists.specs.Settings.{Setting}
use Rattle.goal_lists.proofs.InternedLemmas.{same-grown, in-grown}
use Rattle.goal_lists.proofs.WithinLevels.{within-level}
use Rattle.goal_eval.specs.CacheEntries.{IsKnownAt, entry_of, kept, Enters, trait_decided, outcome_decided, found_decided}
use Rattle.goal_eval.specs.Effects.{AreSound, AreNone, KeepsButRegions, Soundness}
use Rattle.goal_eval.specs.EvaluationCache.{SaysTraitAt, SaysConstAt, SaysAliasAt, IsRight, AreRight, IsValidCache, IsEmptyCache, consts_of, KeepsButConsts}
use Rattle.goal_eval.specs.Outcomes.{RunsFor, setting_in, level_in, Says, SaysThrough, SaysWhich, FoundIn}
use Rattle.goal_eval.specs.declared.eval.effects.Effects.{Effects}
use Rattle.goal_eval.specs.declared.eval.evaluation_cache.CacheEntry.{CacheEntry}
use Rattle.goal_eval.specs.declared.eval.evaluation_cache.EvaluationCache.{EvaluationCache as Cache}
use Rattle.goal_eval.specs.declared.eval.outcomes.Setting as over
use Rattle.goal_lists.specs.declared.outcomes.Outcome.{Outcome}
use Rattle.goal_lists.specs.declared.outcomes.Outcome.TheVariants as outcome
use Rattle.goal_lists.specs.declared.outcomes.TraitOutcome.{TraitOutcome}
use Rattle.goal_lists.specs.declared.outcomes.TraitOutcome.TheVariants as trait_outcome
use Rattle.goal_eval.specs.declared.eval.outcomes.Found.{Found}
use Rattle.goal_eval.specs.declared.eval.outcomes.Found.TheVariants as found

-- what is said of a goal by depth: more depth keeps what is decided, less decides no more, and none decides nothing
record IsSteady {A : Type 0} (Claim : ℕ → A → Type 0) (u : A) : Type 0 where
  later : (n k : ℕ) (a : A) → n ≤ k → (a ≡ u → ⊥) → Claim n a → Claim k a
  earlier : (n k : ℕ) → n ≤ k → Claim k u → Claim n u
  ground : Claim 0 u

-- what an entry says is so
known-says : {A : Type 0} (Claim : ℕ → A → Type 0) (u : A) (e : CacheEntry A) (d : ℕ) (a : A) → IsSteady Claim u → IsRight Claim u e → IsKnownAt e d u a → Claim d a
known-says Claim u e d a s r k =
    ⊎_elim (λ h. s.later h.0 d a h.2 ((r.decided h.0 a h.1).1) ((r.decided h.0 a h.1).0)) (λ h. subst (Claim d) (sym h.1) (s.earlier d e.undecided h.0 r.undecided)) k

-- an entry that isn't there is right
entry-right : {A : Type 0} (Claim : ℕ → A → Type 0) (u : A) (o : Option (CacheEntry A)) → IsSteady Claim u → ((e : CacheEntry A) → o ≡ Some e → IsRight Claim u e) → IsRight Claim u (entry_of o)
entry-right Claim u None s h = record { decided = λ n a e. absurd (cc); undecided = s.ground }
entry-right Claim u (Some e) s h = h e refl

-- an entry with one more answer is right
kept-right : {A : Type 0} (Claim : ℕ → A → Type 0) (u : A) (e : CacheEntry A) (d : ℕ) (a : A) (b : Bool) →
    IsRight Claim u e → Claim d a → (b ≡ true → a ≡ u → ⊥) → (b ≡ false → a ≡ u) → IsRight Claim u (kept e d a b)
kept-right Claim u e d a true r h when_true when_false = record {
  decided = λ n x q. subst (λ o. IfSome o (λ p. Claim p.0 p.1 × (p.1 ≡ u → ⊥))) q (h, when_true refl);
  undecided = r.undecided;
}
kept-right Claim u e d a false r h when_true when_false = record { decided = r.decided; undecided = subst (Claim d) (when_false refl) h }

-- what an answer of the entries is in
kept-in : {A : Type 0} (In : A → Type 0) (e : CacheEntry A) (d : ℕ) (a : A) (b : Bool) → ((n : ℕ) (x : A) → e.decided ≡ Some (n, x) → In x) → In a →
    (n : ℕ) (x : A) → (kept e d a b).decided ≡ Some (n, x) → In x
kept-in In e d a true h i n x q = subst (λ o. IfSome o (λ p. In p.1)) q i
kept-in In e d a false h i n x q = h n x q

entry-in : {A : Type 0} (In : A → Type 0) (o : Option (CacheEntry A)) → ((e : CacheEntry A) → o ≡ Some e → (n : ℕ) (x : A) → e.decided ≡ Some (n, x) → In x) →
    (n : ℕ) (x : A) → (entry_of o).decided ≡ Some (n, x) → In x
entry-in In None h n x q = absurd (cc)
entry-in In (Some e) h n x q = h e refl n x q

-- no entries
none-right : {A S : Type 0} (c : over.Setting) (T : List Tree) (In : A → Type 0) (Claim : Level → Tree → A → Type 0) (u : A) (m : HashMap ℕ (CacheEntry A) S) →
    m.entries ≡ [] → AreRight c T In Claim u m
none-right c T In Claim u m e =
    let empty : (n : ℕ) → get ◌==◌ m n ≡ None = λ n. ap (lookup (◌==◌ n)) e in record {
      within = λ n x h. absurd (let both : Some x ≡ None = sym h ∙ empty n in cc);
      answers = λ n x h. absurd (let both : Some x ≡ None = sym h ∙ empty n in cc);
      right = λ n x h. absurd (let both : Some x ≡ None = sym h ∙ empty n in cc);
    }

-- entries after the table has grown
grown-right : {A S : Type 0} (c : over.Setting) (T U : List Tree) (In Within : A → Type 0) (Claim Claimed : Level → Tree → A → Type 0) (u : A) (m : HashMap ℕ (CacheEntry A) S) →
    Keeps T U → ((a : A) → In a → Within a) → ((L : Level) (t : Tree) (a : A) → In a → Claim L t a → Claimed L t a) → In u → AreRight c T In Claim u m → AreRight c U Within Claimed u m
grown-right c T U In Within Claim Claimed u m k f g i r = record {
  within = λ n e h. omega (arith, k.longer, r.within n e h);
  answers = λ n e h d a q. f a (r.answers n e h d a q);
  right = λ n e h w s.
      let same : erased_at T (record { 0 = n }) ≡ erased_at U (record { 0 = n }) = sym (ap erased (k.same (record { 0 = n }) (r.within n e h))) in
      let before : IsRight (λ d. Claim (level_in c w d) (erased_at T (record { 0 = n }))) u e = r.right n e h w s in record {
        decided = λ d a q. (
          subst (λ t. Claimed (level_in c w d) t a) same (g (level_in c w d) (erased_at T (record { 0 = n })) a (r.answers n e h d a q) ((before.decided d a q).0)),
          (before.decided d a q).1,
        );
        undecided = subst (λ t. Claimed (level_in c w e.undecided) t u) same (g (level_in c w e.undecided) (erased_at T (record { 0 = n })) u i before.undecided);
      };
}

-- entries after an answer of one goal is kept
kept-all : {A S : Type 0} (c : over.Setting) (T : List Tree) (In : A → Type 0) (Claim : Level → Tree → A → Type 0) (u : A) (before after : HashMap ℕ (CacheEntry A) S) (k d : ℕ) (a : A) (b : Bool) →
    AreRight c T In Claim u before → Enters before after k (kept (entry_of (get ◌==◌ before k)) d a b) → k < length T → In a →
    ((m : TypingMode) → RunsFor c m → IsSteady (λ n. Claim (level_in c m n) (erased_at T (record { 0 = k }))) u) →
    ((m : TypingMode) → RunsFor c m → Claim (level_in c m d) (erased_at T (record { 0 = k })) a) →
    (b ≡ true → a ≡ u → ⊥) → (b ≡ false → a ≡ u) → AreRight c T In Claim u after
kept-all c T In Claim u before after k d a b r enters l i steady says when_true when_false =
    let entry : CacheEntry _ = kept (entry_of (get ◌==◌ before k)) d a b in record {
      within = λ n e h. ⊎_elim (λ same. r.within n e (sym same ∙ h)) (λ new. subst (λ j. j < length T) (sym new.0) l) (enters n);
      answers = λ n e h. ⊎_elim (λ same. r.answers n e (sym same ∙ h))
          (λ new. subst (λ o. IfSome o (λ x. (m : ℕ) (y : _) → x.decided ≡ Some (m, y) → In y)) (sym new.1 ∙ h)
          (kept-in In (entry_of (get ◌==◌ before k)) d a b (entry-in In (get ◌==◌ before k) (r.answers k)) i)) (enters n);
      right = λ n e h m s. ⊎_elim (λ same. r.right n e (sym same ∙ h) m s)
          (λ new. subst (λ o. IfSome o (IsRight (λ j. Claim (level_in c m j) (erased_at T (record { 0 = n }))) u)) (sym new.1 ∙ h)
          (subst (λ j. IsRight (λ q. Claim (level_in c m q) (erased_at T (record { 0 = j }))) u entry) (sym new.0)
          (kept-right (λ q. Claim (level_in c m q) (erased_at T (record { 0 = k }))) u (entry_of (get ◌==◌ before k)) d a b
          (entry-right (λ q. Claim (level_in c m q) (erased_at T (record { 0 = k }))) u (get ◌==◌ before k) (steady m s) (λ x g. r.right k x g m s))
          (says m s) when_true when_false))) (enters n);
    }

-- what is said of a trait goal, a const trait goal and an alias, at a level that proves more
trait-later : {L M : Level} (i : TraitId) (xs : List Tree) → IsWithin L M → (o : TraitOutcome) → (o ≡ trait_outcome.Undecided → ⊥) →
    SaysThrough (λ c. L.through c i xs) (L.trait_refuted i xs) o → SaysThrough (λ c. M.through c i xs) (M.trait_refuted i xs) o
trait-later i xs w (trait_outcome.Holds c) other h = w.through c i xs h
trait-later i xs w trait_outcome.Refuted other h = w.trait_refuted i xs h
trait-later i xs w trait_outcome.Undecided other h = absurd (other refl)

const-later : {L M : Level} (c : BoundConstness) (i : TraitId) (xs : List Tree) → IsWithin L M → (o : Outcome) → (o ≡ outcome.Undecided → ⊥) →
    Says (L.const_holds c i xs) (L.const_refuted c i xs) o → Says (M.const_holds c i xs) (M.const_refuted c i xs) o
const-later c i xs w outcome.Holds other h = w.const_holds c i xs h
const-later c i xs w outcome.Refuted other h = w.const_refuted c i xs h
const-later c i xs w outcome.Undecided other h = absurd (other refl)

alias-later : {L M : Level} (T : List Tree) (k : AliasTermKind) (xs : List Tree) → IsWithin L M → (o : Found) → (o ≡ found.Undecided → ⊥) →
    SaysWhich (L.gives k xs) (L.gives_refuted k xs) T o → SaysWhich (M.gives k xs) (M.gives_refuted k xs) T o
alias-later T k xs w (found.Is id) other h = w.gives k xs (erased_at T id) h
alias-later T k xs w found.Refuted other h = w.gives_refuted k xs h
alias-later T k xs w found.Undecided other h = absurd (other refl)

-- so they are by depth
steady-trait : (S : Setting) (i : TraitId) (n : ℕ) (ts : Trees) → IsSteady (λ d. SaysTraitAt (level S d) (node (head.DynTrait i n) ts)) trait_outcome.Undecided
unfolding SaysTraitAt level
steady-trait S i n ts = record {
  later = λ j k a l other h. trait-later i (list_of ts) (within-level S j k l) a other h;
  earlier = λ j k l h. (λ c p. h.0 c ((within-level S j k l).through c i (list_of ts) p), λ p. h.1 ((within-level S j k l).trait_refuted i (list_of ts) p));
  ground = (λ c p. p, λ p. p);
}

steady-const : (S : Setting) (c : BoundConstness) (i : TraitId) (n : ℕ) (ts : Trees) → IsSteady (λ d. SaysConstAt c (level S d) (node (head.DynTrait i n) ts)) outcome.Undecided
unfolding SaysConstAt level
steady-const S c i n ts = record {
  later = λ j k a l other h. const-later c i (list_of ts) (within-level S j k l) a other h;
  earlier = λ j k l h. (λ p. h.0 ((within-level S j k l).const_holds c i (list_of ts) p), λ p. h.1 ((within-level S j k l).const_refuted c i (list_of ts) p));
  ground = (λ p. p, λ p. p);
}

steady-alias : (S : Setting) (T : List Tree) (k : AliasTermKind) (ts : Trees) → IsSteady (λ d. SaysAliasAt T (level S d) (alias k ts)) found.Undecided
unfolding SaysAliasAt level
steady-alias S T k ts = record {
  later = λ j n a l other h. alias-later T k (list_of ts) (within-level S j n l) a other h;
  earlier = λ j n l h. (λ u p. h.0 u ((within-level S j n l).gives k (list_of ts) u p), λ p. h.1 ((within-level S j n l).gives_refuted k (list_of ts) p));
  ground = (λ u p. p, λ p. p);
}

-- what is decided
trait-yes : (o : TraitOutcome) → trait_decided o ≡ true → o ≡ trait_outcome.Undecided → ⊥
trait-yes (trait_outcome.Holds c) d e = absurd (cc)
trait-yes trait_outcome.Refuted d e = absurd (cc)
trait-yes trait_outcome.Undecided d e = false≢true d

trait-no : (o : TraitOutcome) → trait_decided o ≡ false → o ≡ trait_outcome.Undecided
trait-no (trait_outcome.Holds c) d = absurd (cc)
trait-no trait_outcome.Refuted d = absurd (cc)
trait-no trait_outcome.Undecided d = refl

const-yes : (o : Outcome) → outcome_decided o ≡ true → o ≡ outcome.Undecided → ⊥
const-yes outcome.Holds d e = absurd (cc)
const-yes outcome.Refuted d e = absurd (cc)
const-yes outcome.Undecided d e = false≢true d

const-no : (o : Outcome) → outcome_decided o ≡ false → o ≡ outcome.Undecided
const-no outcome.Holds d = absurd (cc)
const-no outcome.Refuted d = absurd (cc)
const-no outcome.Undecided d = refl

alias-yes : (o : Found) → found_decided o ≡ true → o ≡ found.Undecided → ⊥
alias-yes (found.Is id) d e = absurd (cc)
alias-yes found.Refuted d e = absurd (cc)
alias-yes found.Undecided d e = false≢true d

alias-no : (o : Found) → found_decided o ≡ false → o ≡ found.Undecided
alias-no (found.Is id) d = absurd (cc)
alias-no found.Refuted d = absurd (cc)
alias-no found.Undecided d = refl

-- what was found for an alias, in a table that has grown
alias-grown : (T U : List Tree) → Keeps T U → (L : Level) (t : Tree) (o : Found) → FoundIn T o → SaysAliasAt T L t o → SaysAliasAt U L t o
unfolding SaysAliasAt
alias-grown T U k L (alias a ts) (found.Is id) i h = subst (L.gives a (list_of ts)) (sym (same-grown T U k id i)) h
alias-grown T U k L (alias a ts) found.Refuted i h = h
alias-grown T U k L (alias a ts) found.Undecided i h = h
alias-grown T U k L (node j ts) o i h = h
alias-grown T U k L (variable v) o i h = h

found_in-later : (T U : List Tree) → Keeps T U → (o : Found) → FoundIn T o → FoundIn U o
found_in-later T U k (found.Is id) i = in-grown T U k id i
found_in-later T U k found.Refuted i = tt
found_in-later T U k found.Undecided i = tt

-- an evaluation begins with nothing
pub cache-new : (c : over.Setting) (T : List Tree) (k : Cache) → IsEmptyCache k → IsValidCache c T k
cache-new c T k e = record {
  traits = none-right c T (λ o. Unit {0}) SaysTraitAt trait_outcome.Undecided k.traits.entries e.traits;
  consts = none-right c T (λ o. Unit {0}) (SaysConstAt constness.Const) outcome.Undecided k.consts.entries e.consts;
  maybe_consts = none-right c T (λ o. Unit {0}) (SaysConstAt constness.Maybe) outcome.Undecided k.maybe_consts.entries e.maybe_consts;
  aliases = none-right c T (FoundIn T) (SaysAliasAt T) found.Undecided k.aliases.entries e.aliases;
}

-- what is kept stays right when the table grows
pub cache-grown : (c : over.Setting) (T U : List Tree) (k : Cache) → Keeps T U → IsValidCache c T k → IsValidCache c U k
cache-grown c T U k keeps v = record {
  traits = grown-right c T U (λ o. Unit {0}) (λ o. Unit {0}) SaysTraitAt SaysTraitAt trait_outcome.Undecided k.traits.entries keeps (λ a i. i) (λ L t a i h. h) tt v.traits;
  consts = grown-right c T U (λ o. Unit {0}) (λ o. Unit {0}) (SaysConstAt constness.Const) (SaysConstAt constness.Const) outcome.Undecided k.consts.entries keeps (λ a i. i) (λ L t a i h. h) tt v.consts;
  maybe_consts = grown-right c T U (λ o. Unit {0}) (λ o. Unit {0}) (SaysConstAt constness.Maybe) (SaysConstAt constness.Maybe) outcome.Undecided k.maybe_consts.entries keeps (λ a i. i) (λ L t a i h. h) tt v.maybe_consts;
  aliases = grown-right c T U (FoundIn T) (FoundIn U) (SaysAliasAt T) (SaysAliasAt U) found.Undecided k.aliases.entries keeps (found_in-later T U keeps) (alias-grown T U keeps) tt v.aliases;
}

-- what is so of an evaluation's effects, taken apart and put together
pub sound-parts : (c : over.Setting) (T : List Tree) (e : Effects) → AreSound c T e → Soundness c T e
unfolding AreSound
sound-parts c T e s = s

pub sound-of : (c : over.Setting) (T : List Tree) (e : Effects) → Soundness c T e → AreSound c T e
unfolding AreSound
sound-of c T e s = s

-- an evaluation's effects stay sound, and it begins with none
pub sound-grown : (c : over.Setting) (T U : List Tree) (e : Effects) → Keeps T U → AreSound c T e → AreSound c U e
unfolding AreSound
sound-grown c T U e keeps s = record { answers = cache-grown c T U e.cache keeps s.answers; causes = s.causes; faults = s.faults }

pub sound-new : (c : over.Setting) (T : List Tree) (e : Effects) → AreNone e → AreSound c T e
unfolding AreSound
sound-new c T e none = record {
  answers = cache-new c T e.cache none.answers;
  causes = All-same (IsCaused c.rows.now) e.accesses.items [] none.accesses (All-nil (IsCaused c.rows.now));
  faults = All-same (IsFaultCaused c.rows.now) e.delayed_faults.items [] none.delayed_faults (All-nil (IsFaultCaused c.rows.now));
}

-- what is listed of lifetimes says nothing of them
pub sound-aside : (c : over.Setting) (T : List Tree) (e n : Effects) → KeepsButRegions e n → AreSound c T e → AreSound c T n
unfolding AreSound KeepsButRegions
sound-aside c T e n k s = subst (λ (x : Effects). Soundness c T x) (sym k) (record { answers = s.answers; causes = s.causes; faults = s.faults })

pub aside-refl : (e : Effects) → KeepsButRegions e e
unfolding KeepsButRegions
aside-refl e = refl

pub aside-chain : (e f n : Effects) → KeepsButRegions e f → KeepsButRegions f n → KeepsButRegions e n
unfolding KeepsButRegions
aside-chain e f n k l = l ∙ ap (λ (x : Effects). record x { regions = n.regions }) k

pub ruleset caching = (sound-grown, sound-aside, cache-grown)

-- what is known of a trait goal is so
pub known-trait : (c : over.Setting) (T : List Tree) (k : Cache) (id : TermId) (i : TraitId) (n : ℕ) (xs : List Tree) (d : ℕ) (o : TraitOutcome) →
    IsValidCache c T k → erased_at T id ≡ node (head.DynTrait i n) (forest xs) →
    (e : CacheEntry TraitOutcome) × (get ◌==◌ k.traits.entries id.0 ≡ Some e) × IsKnownAt e d trait_outcome.Undecided o →
    (m : TypingMode) → RunsFor c m → SaysThrough (λ x. (level_in c m d).through x i xs) ((level_in c m d).trait_refuted i xs) o
unfolding SaysTraitAt
known-trait c T k id i n xs d o v shape known m s =
    let steady : IsSteady (λ q. SaysTraitAt (level_in c m q) (erased_at T id)) trait_outcome.Undecided =
    subst (λ t. IsSteady (λ q. SaysTraitAt (level_in c m q) t) trait_outcome.Undecided) (sym shape) (steady-trait (setting_in c m) i n (forest xs)) in
    subst (λ ys. SaysThrough (λ x. (level_in c m d).through x i ys) ((level_in c m d).trait_refuted i ys) o) (list_of-forest xs)
    (subst (λ t. SaysTraitAt (level_in c m d) t o) shape
    (known-says (λ q. SaysTraitAt (level_in c m q) (erased_at T id)) trait_outcome.Undecided known.0 d o steady (v.traits.right id.0 known.0 known.1 m s) known.2))

-- and an answer to it is kept
pub keep-trait : (c : over.Setting) (T : List Tree) (k new : Cache) (id : TermId) (i : TraitId) (n : ℕ) (xs : List Tree) (d : ℕ) (o : TraitOutcome) →
    IsValidCache c T k → erased_at T id ≡ node (head.DynTrait i n) (forest xs) → id.0 < length T →
    ((m : TypingMode) → RunsFor c m → SaysThrough (λ x. (level_in c m d).through x i xs) ((level_in c m d).trait_refuted i xs) o) →
    Enters k.traits.entries new.traits.entries id.0 (kept (entry_of (get ◌==◌ k.traits.entries id.0)) d o (trait_decided o)) →
    new ≡ record k { traits = new.traits } → IsValidCache c T new
unfolding SaysTraitAt
keep-trait c T k new id i n xs d o v shape l says enters same =
    subst (IsValidCache c T) (sym same) (record {
      traits = kept-all c T (λ x. Unit {0}) SaysTraitAt trait_outcome.Undecided k.traits.entries new.traits.entries id.0 d o (trait_decided o) v.traits enters l tt
          (λ m s. subst (λ t. IsSteady (λ q. SaysTraitAt (level_in c m q) t) trait_outcome.Undecided) (sym shape) (steady-trait (setting_in c m) i n (forest xs)))
          (λ m s. subst (λ t. SaysTraitAt (level_in c m d) t o) (sym shape)
          (subst (λ ys. SaysThrough (λ x. (level_in c m d).through x i ys) ((level_in c m d).trait_refuted i ys) o) (sym (list_of-forest xs)) (says m s)))
          (trait-yes o) (trait-no o);
      consts = v.consts;
      maybe_consts = v.maybe_consts;
      aliases = v.aliases;
    })

-- the entries of const trait goals by constness
entries-right : (c : over.Setting) (T : List Tree) (k : Cache) (b : BoundConstness) → IsValidCache c T k →
    AreRight c T (λ o. Unit {0}) (SaysConstAt b) outcome.Undecided (consts_of k b).entries
entries-right c T k constness.Const v = v.consts
entries-right c T k constness.Maybe v = v.maybe_consts

-- what is known of a const trait goal is so
pub known-const : (c : over.Setting) (T : List Tree) (k : Cache) (id : TermId) (b : BoundConstness) (i : TraitId) (n : ℕ) (xs : List Tree) (d : ℕ) (o : Outcome) →
    IsValidCache c T k → erased_at T id ≡ node (head.DynTrait i n) (forest xs) →
    (e : CacheEntry Outcome) × (get ◌==◌ (consts_of k b).entries id.0 ≡ Some e) × IsKnownAt e d outcome.Undecided o →
    (m : TypingMode) → RunsFor c m → Says ((level_in c m d).const_holds b i xs) ((level_in c m d).const_refuted b i xs) o
unfolding SaysConstAt
known-const c T k id b i n xs d o v shape known m s =
    let steady : IsSteady (λ q. SaysConstAt b (level_in c m q) (erased_at T id)) outcome.Undecided =
    subst (λ t. IsSteady (λ q. SaysConstAt b (level_in c m q) t) outcome.Undecided) (sym shape) (steady-const (setting_in c m) b i n (forest xs)) in
    subst (λ ys. Says ((level_in c m d).const_holds b i ys) ((level_in c m d).const_refuted b i ys) o) (list_of-forest xs)
    (subst (λ t. SaysConstAt b (level_in c m d) t o) shape
    (known-says (λ q. SaysConstAt b (level_in c m q) (erased_at T id)) outcome.Undecided known.0 d o steady ((entries-right c T k b v).right id.0 known.0 known.1 m s) known.2))

-- a cache with other entries of const trait goals
const-entries : (c : over.Setting) (T : List Tree) (k new : Cache) (b : BoundConstness) → IsValidCache c T k →
    AreRight c T (λ o. Unit {0}) (SaysConstAt b) outcome.Undecided (consts_of new b).entries → KeepsButConsts b k new → IsValidCache c T new
const-entries c T k new constness.Const v r same = subst (IsValidCache c T) (sym same) (record { traits = v.traits; consts = r; maybe_consts = v.maybe_consts; aliases = v.aliases })
const-entries c T k new constness.Maybe v r same = subst (IsValidCache c T) (sym same) (record { traits = v.traits; consts = v.consts; maybe_consts = r; aliases = v.aliases })

-- and an answer to it is kept
pub keep-const : (c : over.Setting) (T : List Tree) (k new : Cache) (id : TermId) (b : BoundConstness) (i : TraitId) (n : ℕ) (xs : List Tree) (d : ℕ) (o : Outcome) →
    IsValidCache c T k → erased_at T id ≡ node (head.DynTrait i n) (forest xs) → id.0 < length T →
    ((m : TypingMode) → RunsFor c m → Says ((level_in c m d).const_holds b i xs) ((level_in c m d).const_refuted b i xs) o) →
    Enters (consts_of k b).entries (consts_of new b).entries id.0 (kept (entry_of (get ◌==◌ (consts_of k b).entries id.0)) d o (outcome_decided o)) →
    KeepsButConsts b k new → IsValidCache c T new
unfolding SaysConstAt
keep-const c T k new id b i n xs d o v shape l says enters same =
    const-entries c T k new b v
    (kept-all c T (λ x. Unit {0}) (SaysConstAt b) outcome.Undecided (consts_of k b).entries (consts_of new b).entries id.0 d o (outcome_decided o) (entries-right c T k b v) enters l tt
    (λ m s. subst (λ t. IsSteady (λ q. SaysConstAt b (level_in c m q) t) outcome.Undecided) (sym shape) (steady-const (setting_in c m) b i n (forest xs)))
    (λ m s. subst (λ t. SaysConstAt b (level_in c m d) t o) (sym shape)
    (subst (λ ys. Says ((level_in c m d).const_holds b i ys) ((level_in c m d).const_refuted b i ys) o) (sym (list_of-forest xs)) (says m s)))
    (const-yes o) (const-no o)) same

-- an answer that is known of an alias is in the table
pub known-within : (c : over.Setting) (T : List Tree) (k : Cache) (id : TermId) (d : ℕ) (o : Found) → IsValidCache c T k →
    (e : CacheEntry Found) × (get ◌==◌ k.aliases.entries id.0 ≡ Some e) × IsKnownAt e d found.Undecided o → FoundIn T o
known-within c T k id d o v known = ⊎_elim (λ h. v.aliases.answers id.0 known.0 known.1 h.0 o h.1) (λ h. subst (FoundIn T) (sym h.1) tt) known.2

-- what is known of an alias is so
pub known-alias : (c : over.Setting) (T : List Tree) (k : Cache) (id : TermId) (a : AliasTermKind) (xs : List Tree) (d : ℕ) (o : Found) →
    IsValidCache c T k → erased_at T id ≡ alias a (forest xs) →
    (e : CacheEntry Found) × (get ◌==◌ k.aliases.entries id.0 ≡ Some e) × IsKnownAt e d found.Undecided o →
    (m : TypingMode) → RunsFor c m → SaysWhich ((level_in c m d).gives a xs) ((level_in c m d).gives_refuted a xs) T o
unfolding SaysAliasAt
known-alias c T k id a xs d o v shape known m s =
    let steady : IsSteady (λ q. SaysAliasAt T (level_in c m q) (erased_at T id)) found.Undecided =
    subst (λ t. IsSteady (λ q. SaysAliasAt T (level_in c m q) t) found.Undecided) (sym shape) (steady-alias (setting_in c m) T a (forest xs)) in
    subst (λ ys. SaysWhich ((level_in c m d).gives a ys) ((level_in c m d).gives_refuted a ys) T o) (list_of-forest xs)
    (subst (λ t. SaysAliasAt T (level_in c m d) t o) shape
    (known-says (λ q. SaysAliasAt T (level_in c m q) (erased_at T id)) found.Undecided known.0 d o steady (v.aliases.right id.0 known.0 known.1 m s) known.2))

-- and an answer to it is kept
pub keep-alias : (c : over.Setting) (T : List Tree) (k new : Cache) (id : TermId) (a : AliasTermKind) (xs : List Tree) (d : ℕ) (o : Found) →
    IsValidCache c T k → erased_at T id ≡ alias a (forest xs) → id.0 < length T → FoundIn T o →
    ((m : TypingMode) → RunsFor c m → SaysWhich ((level_in c m d).gives a xs) ((level_in c m d).gives_refuted a xs) T o) →
    Enters k.aliases.entries new.aliases.entries id.0 (kept (entry_of (get ◌==◌ k.aliases.entries id.0)) d o (found_decided o)) →
    new ≡ record k { aliases = new.aliases } → IsValidCache c T new
unfolding SaysAliasAt
keep-alias c T k new id a xs d o v shape l i says enters same =
    subst (IsValidCache c T) (sym same) (record {
      traits = v.traits;
      consts = v.consts;
      maybe_consts = v.maybe_consts;
      aliases = kept-all c T (FoundIn T) (SaysAliasAt T) found.Undecided k.aliases.entries new.aliases.entries id.0 d o (found_decided o) v.aliases enters l i
          (λ m s. subst (λ t. IsSteady (λ q. SaysAliasAt T (level_in c m q) t) found.Undecided) (sym shape) (steady-alias (setting_in c m) T a (forest xs)))
          (λ m s. subst (λ t. SaysAliasAt T (level_in c m d) t o) (sym shape)
          (subst (λ ys. SaysWhich ((level_in c m d).gives a ys) ((level_in c m d).gives_refuted a ys) T o) (sym (list_of-forest xs)) (says m s)))
          (alias-yes o) (alias-no o);
    })
