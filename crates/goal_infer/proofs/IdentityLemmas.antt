-- Terms that are identical already.
use Rattle.std.proofs.Common.{◌≡◌, ◌≢◌, ℕ, zero, suc, ◌<◌, List, [], ◌∷◌, length, map, get_or, None, refl, sym, ap, ◌∙◌, subst, arith}
use Rattle.goal_terms.specs.Tree.{Tree, node, alias, variable, node_of, parts_of}
use Rattle.goal_terms.specs.SameHead.{top_of}
use Rattle.goal_interner.specs.TableMeaning.{tree_at}
use Rattle.goal_terms.specs.declared.heads.Node.TheVariants as nodes
use Rattle.goal_terms.specs.declared.heads.Variable.{Variable}
use Rattle.goal_interner.specs.declared.term_nodes.TermId.{TermId}
use Rattle.goal_interner.proofs.SameTermLemmas.{same-count}
use Rattle.goal_infer.specs.Inference.{Inference}
use Rattle.goal_infer.specs.Replacement.{replaced}
use Rattle.goal_infer.specs.Resolution.{binding_at, resolved, IsSolved}
use Rattle.goal_infer.specs.Unification.{IsOther, MakesSame, sides, IsUnified, IsIdentified}
use Rattle.goal_infer.specs.declared.unify.Unified.{Unified}
use Rattle.goal_infer.specs.declared.unify.Unified.TheVariants.{Yes}
use Rattle.goal_infer.proofs.PartLemmas.{resolved-variable}
use Rattle.goal_infer.proofs.ResolveLemmas.{term_at-variable}
use Rattle.goal_infer.proofs.SameLemmas.{settled, settled-is, settled-top, tops-if, parts-if}
use Rattle.goal_infer.proofs.UnifyLemmas.{agrees-resolved}

pub yes-resolved : (T : List Tree) (s : Inference) → IsSolved T s → (l r : TermId) → resolved T s l ≡ resolved T s r → IsUnified T s s (MakesSame T l r) Yes
unfolding IsUnified MakesSame
yes-resolved T s solved l r e ρ = (
  λ a. (a, sym (agrees-resolved T s solved ρ a l) ∙ ap (replaced ρ) e ∙ agrees-resolved T s solved ρ a r),
  λ q. q.0,
)

pub identified-yes : (T : List Tree) (s z : Inference) (l r : TermId) → z ≡ s → IsIdentified T s z (sides l r) Yes
unfolding IsIdentified
identified-yes T s z l r e same = (refl, e)

pub identified-never : (T : List Tree) (s z : Inference) (l r : TermId) (u : Unified) → resolved T s l ≢ resolved T s r → IsIdentified T s z (sides l r) u
unfolding IsIdentified
identified-never T s z l r u differ same = absurd (differ same)

-- an unbound variable and another term
top-variable : (t : Tree) (v : Variable) → top_of t ≡ nodes.Variable v → node_of t ≡ nodes.Variable v
top-variable (node h ts) v e = absurd (cc)
top-variable (alias k ts) v e = absurd (cc)
top-variable (variable w) v e = e

pub other-resolved : (T : List Tree) (s : Inference) → IsSolved T s → (v : Variable) (l r : TermId) → node_of (tree_at T l) ≡ nodes.Variable v →
    binding_at s (node_of (tree_at T l)) ≡ None → binding_at s (node_of (tree_at T r)) ≡ None → IsOther T v r → resolved T s l ≢ resolved T s r
other-resolved T s solved v l r e le re other same =
    other (term_at-variable T r v (top-variable (tree_at T r) v
    (sym (settled-top T s solved (tree_at T r) re) ∙ ap node_of (settled-is T s r ∙ sym same ∙ resolved-variable T s solved l v e le))))

-- other tops
pub tops-resolved : (T : List Tree) (s : Inference) → IsSolved T s → (l r : TermId) → binding_at s (node_of (tree_at T l)) ≡ None →
    binding_at s (node_of (tree_at T r)) ≡ None → top_of (tree_at T l) ≢ top_of (tree_at T r) → resolved T s l ≢ resolved T s r
tops-resolved T s solved l r le re differ same =
    differ (tops-if T s solved (tree_at T l) (tree_at T r) le re (settled-is T s l ∙ same ∙ sym (settled-is T s r)))

-- terms that were given, by resolved ones
pub identified-given : (T : List Tree) (s z : Inference) (a b c d : TermId) → resolved T s a ≡ resolved T s c → resolved T s b ≡ resolved T s d → (u : Unified) →
    IsIdentified T s z (sides a b) u → IsIdentified T s z (sides c d) u
unfolding IsIdentified
identified-given T s z a b c d e f u h same = h (e ∙ same ∙ sym f)

-- the parts of identical terms are identical
maps-at : (f : TermId → Tree) (d : TermId) (ls rs : List TermId) → map f ls ≡ map f rs → (k : ℕ) → k < length ls → f (get_or ls k d) ≡ f (get_or rs k d)
maps-at f d [] rs e k l = absurd (omega arith)
maps-at f d (x ∷ ls) [] e k l = absurd (cc)
maps-at f d (x ∷ ls) (y ∷ rs) e zero l = cc
maps-at f d (x ∷ ls) (y ∷ rs) e (suc k) l = let p : map f ls ≡ map f rs = cc in maps-at f d ls rs p k (omega arith)

maps-settled : (T : List Tree) (s : Inference) (ids : List TermId) → map (settled T s) (map (tree_at T) ids) ≡ map (resolved T s) ids
maps-settled T s [] = refl
maps-settled T s (id ∷ ids) = ap (λ t. t ∷ map (settled T s) (map (tree_at T) ids)) (settled-is T s id) ∙ ap (λ ts. resolved T s id ∷ ts) (maps-settled T s ids)

-- two terms whose parts are walked, over the state before
pub record IsWalked (T : List Tree) (s : Inference) (l r l' r' : TermId) (ls rs : List TermId) : Type 0 where
  pub solved : IsSolved T s
  pub left : resolved T s l' ≡ resolved T s l
  pub right : resolved T s r' ≡ resolved T s r
  pub left_ended : binding_at s (node_of (tree_at T l')) ≡ None
  pub right_ended : binding_at s (node_of (tree_at T r')) ≡ None
  pub left_parts : map (tree_at T) ls ≡ parts_of (tree_at T l')
  pub right_parts : map (tree_at T) rs ≡ parts_of (tree_at T r')

module _ (T : List Tree) (s : Inference) (l r l' r' : TermId) (ls rs : List TermId) (w : IsWalked T s l r l' r' ls rs) where
  settled-maps : resolved T s l ≡ resolved T s r → map (settled T s) (map (tree_at T) ls) ≡ map (settled T s) (map (tree_at T) rs)
  settled-maps e =
      ap (map (settled T s)) w.left_parts
      ∙ parts-if T s w.solved (tree_at T l') (tree_at T r') w.left_ended w.right_ended (settled-is T s l' ∙ w.left ∙ e ∙ sym w.right ∙ sym (settled-is T s r'))
      ∙ ap (map (settled T s)) (sym w.right_parts)

  pub identified-count : (z : Inference) (u : Unified) → length rs ≢ length ls → IsIdentified T s z (sides l r) u
  unfolding IsIdentified
  identified-count z u differ e = absurd (differ (sym (same-count (settled T s) T ls rs (settled-maps e))))

  pub identified-more : (y z : Inference) (i : ℕ) → i < length ls → (a u b : Unified) → IsIdentified T s y (sides l r) a →
      IsIdentified T y z (sides (get_or ls i (record { 0 = 0 })) (get_or rs i (record { 0 = 0 }))) u → (a ≡ Yes → u ≡ Yes → b ≡ Yes) → IsIdentified T s z (sides l r) b
  unfolding IsIdentified
  identified-more y z i f a u b before here after e =
      let old : (a ≡ Yes) × (y ≡ s) = before e in
      let pair : resolved T s (get_or ls i (record { 0 = 0 })) ≡ resolved T s (get_or rs i (record { 0 = 0 })) =
      maps-at (resolved T s) (record { 0 = 0 }) ls rs (sym (maps-settled T s ls) ∙ settled-maps e ∙ maps-settled T s rs) i f in
      let new : (u ≡ Yes) × (z ≡ y) =
      here (subst (λ x. resolved T x (get_or ls i (record { 0 = 0 })) ≡ resolved T x (get_or rs i (record { 0 = 0 }))) (sym old.1) pair) in
      (after old.0 new.0, new.1 ∙ old.1)
