-- Terms that are made the same part by part.
use Rattle.std.proofs.Common.{◌≡◌, ◌≢◌, ℕ, zero, suc, ◌+◌, ◌*◌, ◌<◌, List, [], ◌∷◌, length, map, get_or, refl, sym, ap, ◌∙◌, subst, arith, below_more}
use Rattle.std.proofs.lemmas.List.{length-map}
use Rattle.goal_terms.specs.Tree.{Tree, node, alias, variable, node_of, parts_of}
use Rattle.goal_terms.specs.SameHead.{top_of}
use Rattle.goal_interner.specs.TableMeaning.{tree_at}
use Rattle.goal_terms.specs.TreeWith.{tree_with}
use Rattle.goal_terms.proofs.TreeLemmas.{list_of-forest}
use Rattle.goal_terms.specs.declared.heads.Node.{Node}
use Rattle.goal_terms.specs.declared.heads.Node.TheVariants as nodes
use Rattle.goal_terms.specs.declared.heads.Variable.{Variable}
use Rattle.goal_interner.specs.declared.term_nodes.TermId.{TermId}
use Rattle.goal_infer.specs.Inference.{Inference}
use Rattle.goal_infer.specs.Replacement.{replaced}
use Rattle.goal_infer.specs.Resolution.{unbound_count, resolved, Agrees, IsSolved}
use Rattle.goal_infer.specs.Unification.{MakesSame, IsUnified, Advances, IsHead, HaveOneHead}
use Rattle.goal_infer.specs.declared.unify.Unified.{Unified}
use Rattle.goal_infer.specs.declared.unify.Unified.TheVariants.{Yes, Undecided, No}
use Rattle.goal_infer.proofs.PartLemmas.{is_above, standing, standing-parts, height-part}
use Rattle.goal_infer.proofs.UnifyLemmas.{answer-as, agrees-resolved, yes-same}
use Rattle.goal_infer.proofs.WorkLemmas.{work, ceiling, work-falls}
use Rattle.goal_infer.proofs.ReplacementLemmas.{height}

-- a replacement makes the terms of two lists the same, below a place
abbrev pub SameBelow : List Tree → List TermId → List TermId → ℕ → (Variable → Tree) → Type 0
SameBelow T ls rs i ρ = (k : ℕ) → k < i → MakesSame T (get_or ls k (record { 0 = 0 })) (get_or rs k (record { 0 = 0 })) ρ

-- what was reached by an answer that isn't no
reached : (T : List Tree) (s z : Inference) (P : (Variable → Tree) → Type 0) (u : Unified) → u ≢ No → IsUnified T s z P u →
    (ρ : Variable → Tree) → Agrees T s ρ → P ρ → Agrees T z ρ
unfolding IsUnified
reached T s z P Yes going h ρ a p = (h ρ).1 (a, p)
reached T s z P Undecided going h ρ a p = h ρ a p
reached T s z P No going h ρ a p = absurd (going refl)

below-first : (T : List Tree) (ls rs : List TermId) (i : ℕ) (ρ : Variable → Tree) → SameBelow T ls rs (i + 1) ρ → SameBelow T ls rs i ρ
below-first T ls rs i ρ b k l = b k (omega arith)

below-last : (T : List Tree) (ls rs : List TermId) (i : ℕ) (ρ : Variable → Tree) → SameBelow T ls rs (i + 1) ρ →
    MakesSame T (get_or ls i (record { 0 = 0 })) (get_or rs i (record { 0 = 0 })) ρ
below-last T ls rs i ρ b = b i (omega arith)

below-both : (T : List Tree) (ls rs : List TermId) (i : ℕ) (ρ : Variable → Tree) → SameBelow T ls rs i ρ →
    MakesSame T (get_or ls i (record { 0 = 0 })) (get_or rs i (record { 0 = 0 })) ρ → SameBelow T ls rs (i + 1) ρ
below-both T ls rs i ρ b h = below_more (λ k. MakesSame T (get_or ls k (record { 0 = 0 })) (get_or rs k (record { 0 = 0 })) ρ) i b h

pub said-first : (T : List Tree) (s z : Inference) (ls rs : List TermId) → z ≡ s → IsUnified T s z (SameBelow T ls rs 0) Yes
said-first T s z ls rs e =
    subst (λ w. IsUnified T s w (SameBelow T ls rs 0) Yes) (sym e) (yes-same T s (SameBelow T ls rs 0) (λ ρ k l. absurd (omega arith)))

-- one more pair
pub said-yes : (T : List Tree) (s y z : Inference) (ls rs : List TermId) (i : ℕ) (u : Unified) → u ≢ No → IsUnified T s y (SameBelow T ls rs i) u →
    IsUnified T y z (MakesSame T (get_or ls i (record { 0 = 0 })) (get_or rs i (record { 0 = 0 }))) Yes → IsUnified T s z (SameBelow T ls rs (i + 1)) u
unfolding IsUnified
said-yes T s y z ls rs i Yes going h n = λ ρ. (
  λ a. let p : Agrees T y ρ × MakesSame T (get_or ls i (record { 0 = 0 })) (get_or rs i (record { 0 = 0 })) ρ = (n ρ).0 a in
      let q : Agrees T s ρ × SameBelow T ls rs i ρ = (h ρ).0 p.0 in (q.0, below-both T ls rs i ρ q.1 p.1),
  λ q. (n ρ).1 ((h ρ).1 (q.0, below-first T ls rs i ρ q.1), below-last T ls rs i ρ q.1),
)
said-yes T s y z ls rs i Undecided going h n = λ ρ a b. (n ρ).1 (h ρ a (below-first T ls rs i ρ b), below-last T ls rs i ρ b)
said-yes T s y z ls rs i No going h n = absurd (going refl)

pub said-undecided : (T : List Tree) (s y z : Inference) (ls rs : List TermId) (i : ℕ) (u : Unified) → u ≢ No → IsUnified T s y (SameBelow T ls rs i) u →
    IsUnified T y z (MakesSame T (get_or ls i (record { 0 = 0 })) (get_or rs i (record { 0 = 0 }))) Undecided → IsUnified T s z (SameBelow T ls rs (i + 1)) Undecided
unfolding IsUnified
said-undecided T s y z ls rs i u going h n ρ a b =
    n ρ (reached T s y (SameBelow T ls rs i) u going h ρ a (below-first T ls rs i ρ b)) (below-last T ls rs i ρ b)

pub said-no : (T : List Tree) (s y z : Inference) (ls rs : List TermId) (i n : ℕ) (u : Unified) → i < n → u ≢ No → IsUnified T s y (SameBelow T ls rs i) u →
    IsUnified T y z (MakesSame T (get_or ls i (record { 0 = 0 })) (get_or rs i (record { 0 = 0 }))) No → IsUnified T s z (SameBelow T ls rs n) No
unfolding IsUnified
said-no T s y z ls rs i n u l going h m ρ kinds a b =
    m ρ kinds (reached T s y (SameBelow T ls rs i) u going h ρ a (λ k j. b k (omega arith))) (b i l)

-- lists of terms that are the same
module _ (f : TermId → Tree) (d : TermId) where
  pub maps-at : (ls rs : List TermId) → map f ls ≡ map f rs → (k : ℕ) → k < length ls → f (get_or ls k d) ≡ f (get_or rs k d)
  maps-at [] rs e k l = absurd (omega arith)
  maps-at (x ∷ ls) [] e k l = absurd (cc)
  maps-at (x ∷ ls) (y ∷ rs) e zero l = cc
  maps-at (x ∷ ls) (y ∷ rs) e (suc k) l = let p : map f ls ≡ map f rs = cc in maps-at ls rs p k (omega arith)

  pub maps-same : (ls rs : List TermId) → length rs ≡ length ls → ((k : ℕ) → k < length ls → f (get_or ls k d) ≡ f (get_or rs k d)) → map f ls ≡ map f rs
  maps-same [] [] e h = refl
  maps-same [] (y ∷ rs) e h = absurd (omega arith)
  maps-same (x ∷ ls) [] e h = absurd (omega arith)
  maps-same (x ∷ ls) (y ∷ rs) e h =
      ap (λ t. t ∷ map f ls) (h 0 (omega arith)) ∙ ap (λ ts. f y ∷ ts) (maps-same ls rs (omega arith) (λ k l. h (suc k) (omega arith)))

pub head-above : (n : Node) → IsHead n → is_above n
head-above (nodes.Head h) p = tt
head-above (nodes.Alias k) p = absurd p
head-above (nodes.Variable v) p = absurd p

pub head-other : (t u : Tree) → IsHead (node_of t) → top_of t ≡ top_of u → IsHead (node_of u)
head-other (node h ts) (node k us) p e = tt
head-other (node h ts) (alias k us) p e = absurd (cc)
head-other (node h ts) (variable v) p e = absurd (cc)
head-other (alias k ts) u p e = absurd p
head-other (variable v) u p e = absurd p

parts_with : (t : Tree) (us : List Tree) → IsHead (node_of t) → parts_of (tree_with (top_of t) us) ≡ us
parts_with (node h ts) us p = list_of-forest us
parts_with (alias k ts) us p = absurd p
parts_with (variable v) us p = absurd p

-- two terms with one constructor, by their parts
module _ (T : List Tree) (s : Inference) (z : Inference) (l r : TermId) (one : HaveOneHead T s z l r) (ls rs : List TermId)
    (lp : map (tree_at T) ls ≡ parts_of (tree_at T l)) (rp : map (tree_at T) rs ≡ parts_of (tree_at T r)) where
  pub left-is : (ρ : Variable → Tree) → standing T ρ l ≡ tree_with (top_of (tree_at T l)) (map (standing T ρ) ls)
  left-is ρ = standing-parts T ρ l ls lp (head-above (node_of (tree_at T l)) one.head)

  pub right-is : (ρ : Variable → Tree) → standing T ρ r ≡ tree_with (top_of (tree_at T r)) (map (standing T ρ) rs)
  right-is ρ = standing-parts T ρ r rs rp (head-above (node_of (tree_at T r)) (head-other (tree_at T l) (tree_at T r) one.head one.same))

  maps-if : (ρ : Variable → Tree) → MakesSame T l r ρ → map (standing T ρ) ls ≡ map (standing T ρ) rs
  unfolding MakesSame
  maps-if ρ e =
      sym (parts_with (tree_at T l) (map (standing T ρ) ls) one.head)
      ∙ ap parts_of (sym (left-is ρ) ∙ e ∙ right-is ρ)
      ∙ parts_with (tree_at T r) (map (standing T ρ) rs) (head-other (tree_at T l) (tree_at T r) one.head one.same)

  pub count-if : (ρ : Variable → Tree) → MakesSame T l r ρ → length rs ≡ length ls
  count-if ρ e = sym (length-map rs (standing T ρ)) ∙ ap length (sym (maps-if ρ e)) ∙ length-map ls (standing T ρ)

  pub parts-if : (ρ : Variable → Tree) → MakesSame T l r ρ → SameBelow T ls rs (length ls) ρ
  unfolding MakesSame
  parts-if ρ e k h = maps-at (standing T ρ) (record { 0 = 0 }) ls rs (maps-if ρ e) k h

  pub whole-if : length rs ≡ length ls → (ρ : Variable → Tree) → SameBelow T ls rs (length ls) ρ → MakesSame T l r ρ
  unfolding MakesSame
  whole-if count ρ b =
      left-is ρ ∙ ap (tree_with (top_of (tree_at T l))) (maps-same (standing T ρ) (record { 0 = 0 }) ls rs count b)
      ∙ ap (λ n. tree_with n (map (standing T ρ) rs)) one.same ∙ sym (right-is ρ)

  pub no-count : length rs ≢ length ls → (y : Inference) → IsUnified T s y (MakesSame T l r) No
  unfolding IsUnified
  no-count differ y ρ kinds a e = differ (count-if ρ e)

  pub said-whole : length rs ≡ length ls → (i : ℕ) → i ≡ length ls → (y : Inference) (u : Unified) → IsUnified T s y (SameBelow T ls rs i) u → IsUnified T s y (MakesSame T l r) u
  said-whole count i e y u h =
      answer-as T s y (SameBelow T ls rs (length ls)) (MakesSame T l r) (λ ρ a b. whole-if count ρ b) (λ ρ a b. parts-if ρ b) u
      (subst (λ n. IsUnified T s y (SameBelow T ls rs n) u) e h)

-- resolved terms in place of those that were given
makes-same : (T : List Tree) (s : Inference) → IsSolved T s → (a b c d : TermId) → resolved T s a ≡ resolved T s c → resolved T s b ≡ resolved T s d →
    (ρ : Variable → Tree) → Agrees T s ρ → MakesSame T a b ρ → MakesSame T c d ρ
unfolding MakesSame
makes-same T s solved a b c d e f ρ agrees h =
    sym (agrees-resolved T s solved ρ agrees c) ∙ ap (replaced ρ) (sym e) ∙ agrees-resolved T s solved ρ agrees a
    ∙ h
    ∙ sym (agrees-resolved T s solved ρ agrees b) ∙ ap (replaced ρ) f ∙ agrees-resolved T s solved ρ agrees d

pub said-given : (T : List Tree) (s z : Inference) → IsSolved T s → (a b c d : TermId) → resolved T s a ≡ resolved T s c → resolved T s b ≡ resolved T s d →
    (u : Unified) → IsUnified T s z (MakesSame T a b) u → IsUnified T s z (MakesSame T c d) u
said-given T s z solved a b c d e f u h =
    answer-as T s z (MakesSame T a b) (MakesSame T c d) (makes-same T s solved a b c d e f) (makes-same T s solved c d a b (sym e) (sym f)) u h

-- the work falls
pub less-work : (T : List Tree) (s z : Inference) → Advances T s z → (given whole : TermId) → resolved T s whole ≡ resolved T s given → (ids : List TermId) (i : ℕ) →
    map (tree_at T) ids ≡ parts_of (tree_at T whole) → IsHead (node_of (tree_at T whole)) → i < length ids →
    work T z (get_or ids i (record { 0 = 0 })) < work T s given
unfolding work
less-work T s z advances given whole same ids i parts head l =
    subst (λ n. unbound_count z.variables * suc (ceiling T (length z.variables)) + height (resolved T z (get_or ids i (record { 0 = 0 })))
    < unbound_count s.variables * suc (ceiling T (length s.variables)) + n) (ap height same)
    (work-falls T s z advances.solved advances.later
    (sym (length-map z.variables (λ x. x.kind)) ∙ ap length advances.kinds ∙ length-map s.variables (λ x. x.kind))
    whole (get_or ids i (record { 0 = 0 }))
    (height-part T s whole ids i (record { 0 = 0 }) parts (head-above (node_of (tree_at T whole)) head) l))
