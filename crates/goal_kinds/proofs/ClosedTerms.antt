-- Terms without inference variables: their parts, and what rewriting makes of them.
use Rattle.std.proofs.Common.{◌≡◌, ℕ, zero, suc, Bool, true, false, ◌||◌, List, [], ◌∷◌, ◌++◌, take, drop, Option, Some, None, refl, sym, ◌∙◌}
use Rattle.std.specs.Prelude.{slice_get, if◌then◌else◌}
use Rattle.std.specs.Option.{option_map, option_and_then, unwrap_or}
use Rattle.std.proofs.lemmas.Bool.{false≢true}
use Rattle.goal_terms.specs.Erased.{erased}
use Rattle.goal_terms.specs.Folding.{Folding, depth_below, folded_node, folded, folded_row, shifting, shifted, argument_of, instance_of, instance, instantiating}
use Rattle.goal_terms.specs.Kinds.{same_kind, kind_of}
use Rattle.goal_terms.specs.NodeTests.{is_any_infer, some_node, some_in_row}
use Rattle.goal_terms.specs.Tree.{Tree, Trees, node, alias, variable, none, more, node_of, forest, list_of}
use Rattle.goal_terms.specs.TreeOf.{leaf}
use Rattle.goal_terms.specs.declared.answers.ParamKind.{ParamKind}
use Rattle.goal_terms.specs.declared.answers.ParamKind.TheVariants as kind
use Rattle.goal_terms.specs.declared.heads.Head.{Head}
use Rattle.goal_terms.specs.declared.heads.Head.TheVariants.{TyParam, ConstParam}
use Rattle.goal_terms.specs.declared.terms.AliasTermKind.{AliasTermKind}
use Rattle.goal_terms.proofs.NodeTestLemmas.{some_node-erased}
use Rattle.goal_lists.specs.Candidates.{last_of}
use Rattle.goal_lists.specs.Headers.{under}
use Rattle.goal_lists.specs.Words.{Each}
use Rattle.goal_lists.proofs.TableKindLemmas.{both_fail}

-- a term, a row and a list of terms without inference variables
abbrev pub IsClosedTree : Tree → Type 0
IsClosedTree t = some_node is_any_infer t ≡ false

abbrev pub IsClosedRow : Trees → Type 0
IsClosedRow ts = some_in_row is_any_infer ts ≡ false

abbrev pub AreClosedTrees : List Tree → Type 0
AreClosedTrees ts = Each IsClosedTree ts

-- a term that may be there has none
abbrev pub HoldsClosedTree : Option Tree → Type 0
HoldsClosedTree None = Unit {0}
HoldsClosedTree (Some t) = IsClosedTree t

-- tests of which neither passes
neither : (a b : Bool) → a ≡ false → b ≡ false → a || b ≡ false
neither true b e f = absurd (false≢true (sym e))
neither false b e f = f

-- the first term of a row, and the others
pub closed-first : (t : Tree) (ts : Trees) → IsClosedRow (more t ts) → IsClosedTree t
unfolding some_node
closed-first t ts e = (both_fail (some_node is_any_infer t) (some_in_row is_any_infer ts) e).0

pub closed-others : (t : Tree) (ts : Trees) → IsClosedRow (more t ts) → IsClosedRow ts
unfolding some_node
closed-others t ts e = (both_fail (some_node is_any_infer t) (some_in_row is_any_infer ts) e).1

pub closed-more : (t : Tree) (ts : Trees) → IsClosedTree t → IsClosedRow ts → IsClosedRow (more t ts)
unfolding some_node
closed-more t ts e f = neither (some_node is_any_infer t) (some_in_row is_any_infer ts) e f

-- a row, as a list, and a list, as a row
pub closed-list : (ts : Trees) → IsClosedRow ts → AreClosedTrees (list_of ts)
unfolding Each
closed-list none e = tt
closed-list (more t ts) e = (closed-first t ts e, closed-list ts (closed-others t ts e))

pub closed-forest : (ts : List Tree) → AreClosedTrees ts → IsClosedRow (forest ts)
unfolding some_node Each
closed-forest [] all = refl
closed-forest (t ∷ ts) all = closed-more t (forest ts) all.0 (closed-forest ts all.1)

-- what an alias holds stands in its arguments
pub closed-arguments : (k : AliasTermKind) (ts : List Tree) → IsClosedTree (alias k (forest ts)) → AreClosedTrees ts
unfolding some_node Each
closed-arguments k [] e = tt
closed-arguments k (t ∷ ts) e = (closed-first t (forest ts) e, closed-arguments k ts (closed-others t (forest ts) e))

pub closed-alias : (k : AliasTermKind) (ts : List Tree) → AreClosedTrees ts → IsClosedTree (alias k (forest ts))
unfolding some_node
closed-alias k ts all = closed-forest ts all

-- lists in a row, and parts of a list
pub closed-append : (ts us : List Tree) → AreClosedTrees ts → AreClosedTrees us → AreClosedTrees (ts ++ us)
unfolding Each
closed-append [] us all others = others
closed-append (t ∷ ts) us all others = (all.0, closed-append ts us all.1 others)

pub closed-take : (n : ℕ) (ts : List Tree) → AreClosedTrees ts → AreClosedTrees (take n ts)
unfolding Each
closed-take zero ts all = tt
closed-take (suc n) [] all = tt
closed-take (suc n) (t ∷ ts) all = (all.0, closed-take n ts all.1)

pub closed-drop : (n : ℕ) (ts : List Tree) → AreClosedTrees ts → AreClosedTrees (drop n ts)
unfolding Each
closed-drop zero ts all = all
closed-drop (suc n) [] all = tt
closed-drop (suc n) (t ∷ ts) all = closed-drop n ts all.1

pub closed-last : (ts : List Tree) → AreClosedTrees ts → HoldsClosedTree (last_of ts)
unfolding Each last_of
closed-last [] all = tt
closed-last (t ∷ []) all = all.0
closed-last (t ∷ u ∷ us) all = closed-last (u ∷ us) all.1

closed-got : (ts : List Tree) (n : ℕ) → AreClosedTrees ts → HoldsClosedTree (slice_get ts n)
unfolding Each
closed-got [] n all = tt
closed-got (t ∷ ts) zero all = all.0
closed-got (t ∷ ts) (suc n) all = closed-got ts n all.1

-- what is found, and what is made of it
pub closed-map : {A : Type 0} (f : A → Tree) (o : Option A) → ((x : A) → o ≡ Some x → IsClosedTree (f x)) → HoldsClosedTree (option_map f o)
closed-map f None each = tt
closed-map f (Some x) each = each x refl

pub closed-and_then : {A : Type 0} (f : A → Option Tree) (o : Option A) → ((x : A) → o ≡ Some x → HoldsClosedTree (f x)) → HoldsClosedTree (option_and_then f o)
closed-and_then f None each = tt
closed-and_then f (Some x) each = each x refl

-- a term without its lifetimes
pub closed-erased : (t : Tree) → IsClosedTree t → IsClosedTree (erased t)
closed-erased t e = some_node-erased is_any_infer (λ h. refl) t ∙ e

-- a rewriting puts terms without inference variables in place of parameters
abbrev PutsClosedTrees : Folding → Type 0
PutsClosedTrees f = (d n : ℕ) → IsClosedTree (f.ty_param d n) × IsClosedTree (f.const_param d n)

closed-folded_node : (f : Folding) → PutsClosedTrees f → (d : ℕ) (h : Head) (ts : Trees) → IsClosedRow ts → IsClosedTree (folded_node f d h ts)
unfolding folded_node some_node
closed-folded_node f puts d (TyParam n) ts e = (puts d n).0
closed-folded_node f puts d (ConstParam n) ts e = (puts d n).1
closed-folded_node f puts d h ts e = e

mutual
  unfolding folded some_node

  -- a rewritten term
  closed-folded : (f : Folding) → PutsClosedTrees f → (d : ℕ) (t : Tree) → IsClosedTree t → IsClosedTree (folded f d t)
  closed-folded f puts d (node h ts) e =
      closed-folded_node f puts d h (folded_row f (depth_below h d) ts) (closed-folded_row f puts (depth_below h d) ts e)
  closed-folded f puts d (alias k ts) e = closed-folded_row f puts d ts e
  closed-folded f puts d (variable v) e = e

  closed-folded_row : (f : Folding) → PutsClosedTrees f → (d : ℕ) (ts : Trees) → IsClosedRow ts → IsClosedRow (folded_row f d ts)
  closed-folded_row f puts d none e = e
  closed-folded_row f puts d (more t ts) e =
      closed-more (folded f d t) (folded_row f d ts) (closed-folded f puts d t (closed-first t ts e)) (closed-folded_row f puts d ts (closed-others t ts e))

-- a term whose lifetimes are moved
closed-shifted : (b d : ℕ) (t : Tree) → IsClosedTree t → IsClosedTree (shifted b d t)
unfolding some_node
closed-shifted b d t e = closed-folded (shifting b) (λ i n. (refl, refl)) d t e

-- what stands for a parameter
pub closed-kept : (b : Bool) (t : Tree) → IsClosedTree t → HoldsClosedTree (if b then Some t else None)
closed-kept true t e = e
closed-kept false t e = tt

closed-of_kind : (o : Option Tree) (k : ParamKind) → HoldsClosedTree o →
    HoldsClosedTree (option_and_then (λ t. if same_kind (kind_of (node_of t)) k then Some t else None) o)
closed-of_kind None k e = tt
closed-of_kind (Some t) k e = closed-kept (same_kind (kind_of (node_of t)) k) t e

closed-standing : (o : Option Tree) (h : Head) (d : ℕ) → HoldsClosedTree o → IsClosedTree (unwrap_or (option_map (shifted d 0) o) (leaf h))
unfolding some_node
closed-standing None h d e = refl
closed-standing (Some t) h d e = closed-shifted d 0 t e

closed-instance_of : (args : List Tree) → AreClosedTrees args → (k : ParamKind) (h : Head) (d n : ℕ) → IsClosedTree (instance_of args k h d n)
unfolding argument_of
closed-instance_of args all k h d n =
    closed-standing (option_and_then (λ t. if same_kind (kind_of (node_of t)) k then Some t else None) (slice_get args n)) h d
    (closed-of_kind (slice_get args n) k (closed-got args n all))

-- a row's term under arguments
pub closed-under : (args : List Tree) → AreClosedTrees args → (t : Tree) → IsClosedTree t → IsClosedTree (under args t)
closed-under args all t e =
    closed-erased (instance args t)
    (closed-folded (instantiating args)
    (λ d n. (closed-instance_of args all kind.Ty (TyParam n) d n, closed-instance_of args all kind.Const (ConstParam n) d n)) 0 t e)
