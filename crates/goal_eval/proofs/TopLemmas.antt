-- What the tops of two terms say of whether these are equal.
use Rattle.std.proofs.Common.{◌≡◌, ◌≢◌, ◌||◌, ℕ, zero, suc, Bool, true, false, List, refl, sym, ap, ◌∙◌, subst, inl, inr}
use Rattle.goal_terms.specs.Erased.{erased, compared_node}
use Rattle.goal_terms.specs.SameHead.{top_of}
use Rattle.goal_terms.specs.Tree.{Tree, Trees, node, alias, variable, none, more, list_of, node_of, parts_of}
use Rattle.goal_interner.specs.TableMeaning.{tree_at}
use Rattle.goal_terms.specs.declared.compare.Regions.TheVariants.{Forgotten}
use Rattle.goal_terms.specs.declared.heads.Node.{Node}
use Rattle.goal_terms.specs.declared.heads.Node.TheVariants as nodes
use Rattle.goal_interner.specs.declared.term_nodes.TermId.{TermId}
use Rattle.goal_terms.proofs.WalkLemmas.{node_of-compared}
use Rattle.goal_lists.specs.Equality.{Equal, RowEqual, Unequal, RowUnequal}
use Rattle.goal_lists.specs.Interned.{erased_at}
use Rattle.goal_lists.specs.Level.{Level, nothing}
use Rattle.goal_lists.specs.Levels.{level}
use Rattle.goal_lists.specs.Settings.{Setting}
use Rattle.goal_lists.specs.Words.{Pairs, SomePair}
use Rattle.goal_lists.proofs.ConsistentLemmas.{each_level_is_consistent}
use Rattle.goal_lists.proofs.EqualLemmas.{equal_itself}
use Rattle.goal_eval.specs.Pending.{is_alias, is_variable, HaveOneHead}

-- neither term is an alias, one is a variable, and they aren't the same
abbrev pub IsLoose : Tree → Tree → Type 0
IsLoose t u = (is_alias (node_of t) || is_alias (node_of u) ≡ false) × (is_variable (node_of t) || is_variable (node_of u) ≡ true) × (t ≢ u)

-- the terms have two constructors
abbrev pub HaveTwoHeads : Tree → Tree → Type 0
HaveTwoHeads t u =
    (is_alias (node_of t) || is_alias (node_of u) ≡ false) × (is_variable (node_of t) || is_variable (node_of u) ≡ false) × (node_of t ≢ node_of u)

-- what holds of equal and unequal terms
pub record Compares (E U : Tree → Tree → Type 0) : Type 0 where
  pub itself : (t : Tree) → E t t
  pub apart : (t u : Tree) → E t u → U t u → ⊥
  pub equal_by_parts : (t u : Tree) → HaveOneHead t u → Pairs E (parts_of t) (parts_of u) → E t u
  pub parts_equal : (t u : Tree) → HaveOneHead t u → E t u → Pairs E (parts_of t) (parts_of u)
  pub unequal_by_parts : (t u : Tree) → HaveOneHead t u → SomePair U (parts_of t) (parts_of u) → U t u
  pub parts_unequal : (t u : Tree) → HaveOneHead t u → U t u → SomePair U (parts_of t) (parts_of u)
  pub differ : (t u : Tree) → HaveTwoHeads t u → U t u
  pub not_equal : (t u : Tree) → IsLoose t u → E t u → ⊥
  pub not_unequal : (t u : Tree) → IsLoose t u → U t u → ⊥

-- rows of terms, as lists
module _ (L : Level) where
  row-pairs : (ts us : Trees) → RowEqual L ts us → Pairs (Equal L) (list_of ts) (list_of us)
  unfolding Equal Pairs
  row-pairs none none x = tt
  row-pairs none (more u us) x = x
  row-pairs (more t ts) none x = x
  row-pairs (more t ts) (more u us) x = (x.0, row-pairs ts us x.1)

  pairs-row : (ts us : Trees) → Pairs (Equal L) (list_of ts) (list_of us) → RowEqual L ts us
  unfolding Equal Pairs
  pairs-row none none x = tt
  pairs-row none (more u us) x = x
  pairs-row (more t ts) none x = x
  pairs-row (more t ts) (more u us) x = (x.0, pairs-row ts us x.1)

  row-some : (ts us : Trees) → RowUnequal L ts us → SomePair (Unequal L) (list_of ts) (list_of us)
  unfolding Unequal SomePair
  row-some none none x = x
  row-some none (more u us) x = tt
  row-some (more t ts) none x = tt
  row-some (more t ts) (more u us) (inl x) = inl x
  row-some (more t ts) (more u us) (inr x) = inr (row-some ts us x)

  some-row : (ts us : Trees) → SomePair (Unequal L) (list_of ts) (list_of us) → RowUnequal L ts us
  unfolding Unequal SomePair
  some-row none none x = x
  some-row none (more u us) x = tt
  some-row (more t ts) none x = tt
  some-row (more t ts) (more u us) (inl x) = inl x
  some-row (more t ts) (more u us) (inr x) = inr (some-row ts us x)

  by-parts : (t u : Tree) → HaveOneHead t u → Pairs (Equal L) (parts_of t) (parts_of u) → Equal L t u
  unfolding Equal
  by-parts (node h ts) (node k us) one x = (cc, pairs-row ts us x)
  by-parts (node h ts) (alias k us) one x = absurd (cc)
  by-parts (node h ts) (variable w) one x = absurd (cc)
  by-parts (alias h ts) u one x = absurd (cc)
  by-parts (variable v) u one x = absurd (cc)

  to-parts : (t u : Tree) → HaveOneHead t u → Equal L t u → Pairs (Equal L) (parts_of t) (parts_of u)
  unfolding Equal
  to-parts (node h ts) (node k us) one x = row-pairs ts us x.1
  to-parts (node h ts) (alias k us) one x = absurd (cc)
  to-parts (node h ts) (variable w) one x = absurd (cc)
  to-parts (alias h ts) u one x = absurd (cc)
  to-parts (variable v) u one x = absurd (cc)

  by-some : (t u : Tree) → HaveOneHead t u → SomePair (Unequal L) (parts_of t) (parts_of u) → Unequal L t u
  unfolding Unequal
  by-some (node h ts) (node k us) one x = inr (some-row ts us x)
  by-some (node h ts) (alias k us) one x = absurd (cc)
  by-some (node h ts) (variable w) one x = absurd (cc)
  by-some (alias h ts) u one x = absurd (cc)
  by-some (variable v) u one x = absurd (cc)

  to-some : (t u : Tree) → HaveOneHead t u → Unequal L t u → SomePair (Unequal L) (parts_of t) (parts_of u)
  unfolding Unequal
  to-some (node h ts) (node k us) one (inl n) = absurd (let e : h ≡ k = cc in n e)
  to-some (node h ts) (node k us) one (inr x) = row-some ts us x
  to-some (node h ts) (alias k us) one x = absurd (cc)
  to-some (node h ts) (variable w) one x = absurd (cc)
  to-some (alias h ts) u one x = absurd (cc)
  to-some (variable v) u one x = absurd (cc)

  two-heads : (t u : Tree) → HaveTwoHeads t u → Unequal L t u
  unfolding Unequal
  two-heads (node h ts) (node k us) x = inl (λ e. x.2 (ap nodes.Head e))
  two-heads (node h ts) (alias k us) x = absurd (cc)
  two-heads (node h ts) (variable w) x = absurd (cc)
  two-heads (alias h ts) u x = absurd (cc)
  two-heads (variable v) u x = absurd (cc)

  loose-equal : (t u : Tree) → IsLoose t u → Equal L t u → ⊥
  unfolding Equal
  loose-equal (node h ts) (node k us) x y = absurd (cc)
  loose-equal (node h ts) (alias k us) x y = absurd (cc)
  loose-equal (node h ts) (variable w) x y = y
  loose-equal (alias h ts) u x y = absurd (cc)
  loose-equal (variable v) (node k us) x y = y
  loose-equal (variable v) (alias k us) x y = absurd (cc)
  loose-equal (variable v) (variable w) x y = x.2 (ap variable y)

  loose-unequal : (t u : Tree) → IsLoose t u → Unequal L t u → ⊥
  unfolding Unequal
  loose-unequal (node h ts) (node k us) x y = absurd (cc)
  loose-unequal (node h ts) (alias k us) x y = absurd (cc)
  loose-unequal (node h ts) (variable w) x y = y
  loose-unequal (alias h ts) u x y = absurd (cc)
  loose-unequal (variable v) (node k us) x y = y
  loose-unequal (variable v) (alias k us) x y = absurd (cc)
  loose-unequal (variable v) (variable w) x y = y

  above-level : ((t u : Tree) → Equal L t u → Unequal L t u → ⊥) → Compares (Equal L) (Unequal L)
  above-level apart = record {
    itself = equal_itself L;
    apart = apart;
    equal_by_parts = by-parts;
    parts_equal = to-parts;
    unequal_by_parts = by-some;
    parts_unequal = to-some;
    differ = two-heads;
    not_equal = loose-equal;
    not_unequal = loose-unequal;
  }

-- all this holds at each level
pub compares : (S : Setting) (n : ℕ) → Compares (level S n).equal (level S n).unequal
unfolding level
compares S zero = above-level nothing (each_level_is_consistent S zero).no_equal_unequal
compares S (suc n) = above-level (level S n) (each_level_is_consistent S (suc n)).no_equal_unequal

-- what stands at the top of a term without lifetimes
pub top-erased : (t : Tree) (n : Node) → n ≡ node_of t → node_of (erased t) ≡ compared_node Forgotten n
top-erased t n e = node_of-compared Forgotten t ∙ ap (compared_node Forgotten) (sym e)

alias-same : (n : Node) → is_alias (compared_node Forgotten n) ≡ is_alias n
alias-same (nodes.Head h) = refl
alias-same (nodes.Alias k) = refl
alias-same (nodes.Variable v) = refl

variable-same : (n : Node) → is_variable (compared_node Forgotten n) ≡ is_variable n
variable-same (nodes.Head h) = refl
variable-same (nodes.Alias k) = refl
variable-same (nodes.Variable v) = refl

pub alias-erased : (t : Tree) (n : Node) → n ≡ node_of t → is_alias (node_of (erased t)) ≡ is_alias n
alias-erased t n e = ap is_alias (top-erased t n e) ∙ alias-same n

pub variable-erased : (t : Tree) (n : Node) → n ≡ node_of t → is_variable (node_of (erased t)) ≡ is_variable n
variable-erased t n e = ap is_variable (top-erased t n e) ∙ variable-same n

-- tests of two tops
pub aliases-erased : (t u : Tree) (n m : Node) → n ≡ node_of t → m ≡ node_of u → (b : Bool) → is_alias n || is_alias m ≡ b →
    is_alias (node_of (erased t)) || is_alias (node_of (erased u)) ≡ b
aliases-erased t u n m e f b h = ap (λ x. x || is_alias (node_of (erased u))) (alias-erased t n e) ∙ ap (λ x. is_alias n || x) (alias-erased u m f) ∙ h

pub variables-erased : (t u : Tree) (n m : Node) → n ≡ node_of t → m ≡ node_of u → (b : Bool) → is_variable n || is_variable m ≡ b →
    is_variable (node_of (erased t)) || is_variable (node_of (erased u)) ≡ b
variables-erased t u n m e f b h =
    ap (λ x. x || is_variable (node_of (erased u))) (variable-erased t n e) ∙ ap (λ x. is_variable n || x) (variable-erased u m f) ∙ h

-- a variable has no lifetimes
pub variables-differ : (t u : Tree) → is_variable (node_of t) || is_variable (node_of u) ≡ true → t ≢ u → erased t ≢ erased u
unfolding erased
variables-differ (node h ts) (node k us) v n e = absurd (cc)
variables-differ (node h ts) (alias k us) v n e = absurd (cc)
variables-differ (node h ts) (variable w) v n e = absurd (cc)
variables-differ (alias h ts) (node k us) v n e = absurd (cc)
variables-differ (alias h ts) (alias k us) v n e = absurd (cc)
variables-differ (alias h ts) (variable w) v n e = absurd (cc)
variables-differ (variable v) (node k us) w n e = absurd (cc)
variables-differ (variable v) (alias k us) w n e = absurd (cc)
variables-differ (variable v) (variable w) x n e = n e

-- where the tops are the same, and neither an alias nor a variable, they are one constructor
pub one-head : (t u : Tree) → is_alias (node_of t) || is_alias (node_of u) ≡ false → is_variable (node_of t) || is_variable (node_of u) ≡ false →
    node_of t ≡ node_of u → HaveOneHead t u
one-head (node h ts) u a v e = (h, refl, sym e)
one-head (alias k ts) u a v e = absurd (cc)
one-head (variable w) u a v e = absurd (cc)

-- what is settled at the tops, at each level: terms that are the same are equal
pub same-settled : (t u : Tree) → t ≡ u → (S : Setting) (n : ℕ) → (level S n).equal t u
same-settled t u e S n = subst (λ x. (level S n).equal t x) e ((compares S n).itself t)

-- two constructors are unequal
pub differ-settled : (t u : Tree) → HaveTwoHeads t u → (S : Setting) (n : ℕ) → (level S n).unequal t u
differ-settled t u x S n = (compares S n).differ t u x

-- a variable and something else are neither
pub loose-settled : (T : List Tree) (l r : TermId) (n m : Node) → n ≡ node_of (tree_at T l) → m ≡ node_of (tree_at T r) →
    is_alias n || is_alias m ≡ false → is_variable n || is_variable m ≡ true → tree_at T l ≢ tree_at T r →
    (S : Setting) (i : ℕ) → ((level S i).equal (erased_at T l) (erased_at T r) → ⊥) × ((level S i).unequal (erased_at T l) (erased_at T r) → ⊥)
loose-settled T l r n m e f a v differ S i =
    let loose : IsLoose (erased_at T l) (erased_at T r) = (
      aliases-erased (tree_at T l) (tree_at T r) n m e f false a,
      variables-erased (tree_at T l) (tree_at T r) n m e f true v,
      variables-differ (tree_at T l) (tree_at T r)
          (ap (λ x. is_variable x || is_variable (node_of (tree_at T r))) (sym e) ∙ ap (λ x. is_variable n || is_variable x) (sym f) ∙ v) differ,
    ) in ((compares S i).not_equal (erased_at T l) (erased_at T r) loose, (compares S i).not_unequal (erased_at T l) (erased_at T r) loose)

-- nodes without lifetimes, from tops
pub nodes-same : (t u : Tree) → top_of t ≡ top_of u → node_of (erased t) ≡ node_of (erased u)
nodes-same t u e = node_of-compared Forgotten t ∙ e ∙ sym (node_of-compared Forgotten u)

pub nodes-differ : (t u : Tree) → top_of t ≢ top_of u → node_of (erased t) ≢ node_of (erased u)
nodes-differ t u differ e = differ (sym (node_of-compared Forgotten t) ∙ e ∙ node_of-compared Forgotten u)
