-- Terms that do not agree stay unequal, whatever comes to stand at their open places.
use Rattle.std.proofs.Common.{◌≡◌, ℕ, zero, suc, Bool, true, false, ◌&&◌, List, [], ◌∷◌, map, refl, sym, ap, ◌∙◌, subst}
use Rattle.std.specs.Prelude.{if◌then◌else◌}
use Rattle.goal_terms.specs.Erased.{erased, erased_row, erased_head, compared_node}
use Rattle.goal_terms.specs.Folding.{folded, folded_node, folded_row, depth_below, instantiating, instance_of}
use Rattle.goal_terms.specs.Kinds.{kind_of, kind_of_head}
use Rattle.goal_terms.specs.SameLaws.{same_node-refl}
use Rattle.goal_terms.specs.SameTree.{same_node}
use Rattle.goal_terms.specs.Tree.{Tree, Trees, node, alias, variable, none, more, list_of, node_of}
use Rattle.goal_terms.specs.declared.answers.ParamKind.TheVariants as kind
use Rattle.goal_terms.specs.declared.compare.Regions.TheVariants.{Forgotten}
use Rattle.goal_terms.specs.declared.heads.Head.{Head}
use Rattle.goal_terms.specs.declared.heads.Head.TheVariants.{TyParam, ConstParam}
use Rattle.goal_terms.specs.declared.heads.Node.{Node}
use Rattle.goal_terms.specs.declared.heads.Node.TheVariants as nodes
use Rattle.goal_terms.specs.declared.heads.Variable.{Variable}
use Rattle.goal_terms.specs.declared.terms.AliasTermKind.{AliasTermKind}
use Rattle.goal_lists.specs.Equality.{Equal, RowEqual}
use Rattle.goal_lists.specs.FastReject.{is_open, agree, row_agrees, lists_agree, have_same_kind}
use Rattle.goal_lists.specs.Level.{Level, nothing}
use Rattle.goal_lists.specs.Levels.{level}
use Rattle.goal_lists.specs.Settings.{Setting}
use Rattle.goal_lists.specs.Replacement.{replaced, replaced_row, with_values, with_arguments, AreOfTheirKinds}
use Rattle.goal_lists.specs.Words.{Either, Pairs}
use Rattle.goal_lists.specs.declared.fast_reject.Parameters.{Parameters}
use Rattle.goal_lists.specs.declared.fast_reject.Parameters.TheVariants.{Rigid, Inferred}
use Rattle.goal_lists.proofs.KindOfTermLemmas.{kind_of_term, GivesOwnKinds, same_kind-refl, kind-erased, kind-replaced, kind-instance_of, equal_kind}

-- what a term may become without its lifetimes: its open places take what a claim allows there, and the rest stays
unfoldable mutual
  pub Becomes : (Node → Tree → Type 0) → Parameters → Tree → Tree → Type 0
  Becomes P p (node h ts) r =
      Either (is_open p (nodes.Head h)) (P (nodes.Head h) r) ((rs : Trees) × (r ≡ node (erased_head h) rs) × RowBecomes P p ts rs)
  Becomes P p (alias k ts) r = P (nodes.Alias k) r
  Becomes P p (variable v) r = P (nodes.Variable v) r

  pub RowBecomes : (Node → Tree → Type 0) → Parameters → Trees → Trees → Type 0
  RowBecomes P p none none = Unit {0}
  RowBecomes P p none (more r rs) = ⊥
  RowBecomes P p (more t ts) none = ⊥
  RowBecomes P p (more t ts) (more r rs) = Becomes P p t r × RowBecomes P p ts rs

-- terms that may become equal pass the test at their tops
abbrev pub TopsPass : Level → (Node → Node → Bool) → (Node → Tree → Type 0) → Parameters → Type 0
TopsPass L test P p = (t u r q : Tree) → Becomes P Rigid t r → Becomes P p u q → Equal L r q → test (node_of t) (node_of u) ≡ true

both_pass : (a b : Bool) → a ≡ true → b ≡ true → a && b ≡ true
both_pass a b e f = ap (λ x. x && b) e ∙ f

-- one of two tests passes, by a third
one_passes : (b c d : Bool) (A B : Type 0) → c ≡ true → (B → d ≡ true) → Either b A B → (if b then c else d) ≡ true
unfolding Either
one_passes true c d A B e f x = e
one_passes false c d A B e f x = f x

-- constructors that are equal without lifetimes are the same nodes
heads_same : (h k : Head) → erased_head h ≡ erased_head k → same_node (compared_node Forgotten (nodes.Head h)) (compared_node Forgotten (nodes.Head k)) ≡ true
heads_same h k e = ap (λ j. same_node (nodes.Head j) (nodes.Head (erased_head k))) e ∙ same_node-refl (nodes.Head (erased_head k))

-- equal terms of known constructors have the same ones, and equal rows of parts
equal_nodes : (L : Level) (h k : Head) (rs qs : Trees) (r q : Tree) → r ≡ node h rs → q ≡ node k qs → Equal L r q → (h ≡ k) × RowEqual L rs qs
unfolding Equal
equal_nodes L h k rs qs r q e f x = subst (λ z. Equal L (node h rs) z) f (subst (λ z. Equal L z q) e x)

mutual
  unfolding agree is_open Becomes Either Equal

  -- terms that may become equal agree
  pub equal_agree : (L : Level) (test : Node → Node → Bool) (P : Node → Tree → Type 0) (p : Parameters) → TopsPass L test P p →
      (t u r q : Tree) → Becomes P Rigid t r → Becomes P p u q → Equal L r q → agree test p t u ≡ true
  equal_agree L test P p pass (node h ts) (node k us) r q x y e =
      one_passes (is_open p (nodes.Head k)) (test (nodes.Head h) (nodes.Head k))
      (same_node (compared_node Forgotten (nodes.Head h)) (compared_node Forgotten (nodes.Head k)) && row_agrees test p ts (list_of us))
      (P (nodes.Head k) q) ((qs : Trees) × (q ≡ node (erased_head k) qs) × RowBecomes P p us qs)
      (pass (node h ts) (node k us) r q x y e)
      (λ z. let parts : (erased_head h ≡ erased_head k) × RowEqual L x.0 z.0 = equal_nodes L (erased_head h) (erased_head k) x.0 z.0 r q x.1 z.1 e in
      both_pass (same_node (compared_node Forgotten (nodes.Head h)) (compared_node Forgotten (nodes.Head k))) (row_agrees test p ts (list_of us))
      (heads_same h k parts.0) (row_equal_agree L test P p pass ts us x.0 z.0 x.2 z.2 parts.1))
      y
  equal_agree L test P p pass (node h ts) (alias k us) r q x y e = pass (node h ts) (alias k us) r q x y e
  equal_agree L test P p pass (node h ts) (variable w) r q x y e = pass (node h ts) (variable w) r q x y e
  equal_agree L test P p pass (alias k ts) u r q x y e = pass (alias k ts) u r q x y e
  equal_agree L test P p pass (variable v) u r q x y e = pass (variable v) u r q x y e

  -- and so do rows
  row_equal_agree : (L : Level) (test : Node → Node → Bool) (P : Node → Tree → Type 0) (p : Parameters) → TopsPass L test P p →
      (ts us rs qs : Trees) → RowBecomes P Rigid ts rs → RowBecomes P p us qs → RowEqual L rs qs → row_agrees test p ts (list_of us) ≡ true
  row_equal_agree L test P p pass none none none none x y e = refl
  row_equal_agree L test P p pass none none (more r rs) qs x y e = absurd x
  row_equal_agree L test P p pass none none none (more q qs) x y e = absurd y
  row_equal_agree L test P p pass none (more u us) none none x y e = absurd y
  row_equal_agree L test P p pass none (more u us) none (more q qs) x y e = absurd e
  row_equal_agree L test P p pass none (more u us) (more r rs) qs x y e = absurd x
  row_equal_agree L test P p pass (more t ts) us none qs x y e = absurd x
  row_equal_agree L test P p pass (more t ts) none (more r rs) none x y e = absurd e
  row_equal_agree L test P p pass (more t ts) none (more r rs) (more q qs) x y e = absurd y
  row_equal_agree L test P p pass (more t ts) (more u us) (more r rs) none x y e = absurd y
  row_equal_agree L test P p pass (more t ts) (more u us) (more r rs) (more q qs) x y e =
      both_pass (agree test p t u) (row_agrees test p ts (list_of us))
      (equal_agree L test P p pass t u r q x.0 y.0 e.0) (row_equal_agree L test P p pass ts us rs qs x.1 y.1 e.1)

-- what a claim must allow at open places, where terms stand in place of variables
pub record Allows (P : Node → Tree → Type 0) (values : Variable → Tree) : Type 0 where
  pub at_variable : (v : Variable) → P (nodes.Variable v) (erased (values v))
  pub at_alias : (k : AliasTermKind) (ts : Trees) → P (nodes.Alias k) (alias k ts)
  pub at_type : (args : List Tree) (d n : ℕ) → P (nodes.Head (TyParam n)) (with_values values (instance_of args kind.Ty (TyParam n) d n))
  pub at_const : (args : List Tree) (d n : ℕ) → P (nodes.Head (ConstParam n)) (with_values values (instance_of args kind.Const (ConstParam n) d n))

mutual
  unfolding Becomes is_open Either replaced erased

  -- a term becomes itself with terms in place of its variables
  pub becomes-values : (P : Node → Tree → Type 0) (values : Variable → Tree) → Allows P values → (t : Tree) → Becomes P Rigid t (with_values values t)
  becomes-values P values allowed (node h ts) = (erased_row (replaced_row values ts), refl, row_becomes-values P values allowed ts)
  becomes-values P values allowed (alias k ts) = allowed.at_alias k (erased_row (replaced_row values ts))
  becomes-values P values allowed (variable v) = allowed.at_variable v

  row_becomes-values : (P : Node → Tree → Type 0) (values : Variable → Tree) → Allows P values → (ts : Trees) →
      RowBecomes P Rigid ts (erased_row (replaced_row values ts))
  row_becomes-values P values allowed none = tt
  row_becomes-values P values allowed (more t ts) = (becomes-values P values allowed t, row_becomes-values P values allowed ts)

-- a constructor, where its parameters are to be inferred, becomes the one with arguments
becomes-node : (P : Node → Tree → Type 0) (values : Variable → Tree) → Allows P values → (args : List Tree) (d : ℕ) (h : Head) (ts rs : Trees) →
    RowBecomes P Inferred ts (erased_row (replaced_row values rs)) →
    Becomes P Inferred (node h ts) (with_values values (folded_node (instantiating args) d h rs))
unfolding Becomes is_open Either replaced erased folded_node
becomes-node P values allowed args d (TyParam n) ts rs x = allowed.at_type args d n
becomes-node P values allowed args d (ConstParam n) ts rs x = allowed.at_const args d n
becomes-node P values allowed args d h ts rs x = (erased_row (replaced_row values rs), refl, x)

mutual
  unfolding Becomes is_open Either replaced erased folded

  -- a term whose parameters are to be inferred becomes each of its instances
  pub becomes-arguments : (P : Node → Tree → Type 0) (values : Variable → Tree) → Allows P values → (args : List Tree) (d : ℕ) (t : Tree) →
      Becomes P Inferred t (with_values values (folded (instantiating args) d t))
  becomes-arguments P values allowed args d (node h ts) =
      becomes-node P values allowed args d h ts (folded_row (instantiating args) (depth_below h d) ts)
      (row_becomes-arguments P values allowed args (depth_below h d) ts)
  becomes-arguments P values allowed args d (alias k ts) = allowed.at_alias k (erased_row (replaced_row values (folded_row (instantiating args) d ts)))
  becomes-arguments P values allowed args d (variable v) = allowed.at_variable v

  row_becomes-arguments : (P : Node → Tree → Type 0) (values : Variable → Tree) → Allows P values → (args : List Tree) (d : ℕ) (ts : Trees) →
      RowBecomes P Inferred ts (erased_row (replaced_row values (folded_row (instantiating args) d ts)))
  row_becomes-arguments P values allowed args d none = tt
  row_becomes-arguments P values allowed args d (more t ts) =
      (becomes-arguments P values allowed args d t, row_becomes-arguments P values allowed args d ts)

-- lists of equal terms agree, if equal terms do
pub pairs_agree : (R : Tree → Tree → Type 0) (test : Node → Node → Bool) (p : Parameters) (f g : Tree → Tree) →
    ((t u : Tree) → R (f t) (g u) → agree test p t u ≡ true) → (ts us : List Tree) → Pairs R (map f ts) (map g us) → lists_agree test p ts us ≡ true
unfolding Pairs lists_agree
pairs_agree R test p f g each [] [] x = refl
pairs_agree R test p f g each [] (u ∷ us) x = absurd x
pairs_agree R test p f g each (t ∷ ts) [] x = absurd x
pairs_agree R test p f g each (t ∷ ts) (u ∷ us) x = both_pass (agree test p t u) (lists_agree test p ts us) (each t u x.0) (pairs_agree R test p f g each ts us x.1)

-- the claim that a term is of a node's kind
abbrev pub IsOfKind : Node → Tree → Type 0
IsOfKind n r = kind_of_term r ≡ kind_of n

-- the claim that allows all
abbrev pub IsAny : Node → Tree → Type 0
IsAny n r = Unit {0}

kind-values : (values : Variable → Tree) → AreOfTheirKinds values → (t : Tree) → kind_of_term (with_values values t) ≡ kind_of_term t
kind-values values own t = kind-erased (replaced values t) ∙ kind-replaced values own t

pub allows-kinds : (values : Variable → Tree) → AreOfTheirKinds values → Allows IsOfKind values
unfolding kind_of kind_of_head
allows-kinds values own = record {
  at_variable = λ v. kind-erased (values v) ∙ own v;
  at_alias = λ k ts. refl;
  at_type = λ args d n. kind-values values own (instance_of args kind.Ty (TyParam n) d n) ∙ kind-instance_of args kind.Ty (TyParam n) d n refl;
  at_const = λ args d n. kind-values values own (instance_of args kind.Const (ConstParam n) d n) ∙ kind-instance_of args kind.Const (ConstParam n) d n refl;
}

pub allows-any : (values : Variable → Tree) → Allows IsAny values
allows-any values = record { at_variable = λ v. tt; at_alias = λ k ts. tt; at_type = λ args d n. tt; at_const = λ args d n. tt }

-- a constructor without its lifetimes is of its kind, with any parts
kind_of_node-erased : (h : Head) (rs ts : Trees) → kind_of_term (node (erased_head h) rs) ≡ kind_of_term (node h ts)
unfolding erased
kind_of_node-erased h rs ts = kind-erased (node h ts)

-- what follows from each of two claims
either_kind : (b : Bool) (A : Type 0) (B : Type 0) (k : Type 0) → (A → k) → (B → k) → Either b A B → k
unfolding Either
either_kind true A B k f g x = f x
either_kind false A B k f g x = g x

-- what a term becomes by kinds is of its kind
becomes-kind : (p : Parameters) (t r : Tree) → Becomes IsOfKind p t r → kind_of_term r ≡ kind_of_term t
unfolding Becomes
becomes-kind p (node h ts) r x =
    either_kind (is_open p (nodes.Head h)) (IsOfKind (nodes.Head h) r) ((rs : Trees) × (r ≡ node (erased_head h) rs) × RowBecomes IsOfKind p ts rs)
    (kind_of_term r ≡ kind_of (nodes.Head h)) (λ y. y)
    (λ y. ap kind_of_term y.1 ∙ kind_of_node-erased h y.0 ts)
    x
becomes-kind p (alias k ts) r x = x
becomes-kind p (variable v) r x = x

-- terms that become equal by kinds are of one kind
pub tops_pass-kinds : (L : Level) → GivesOwnKinds L → (p : Parameters) → TopsPass L have_same_kind IsOfKind p
tops_pass-kinds L own p t u r q x y e =
    same_kind-refl (kind_of_term t) (kind_of_term u)
    (sym (becomes-kind Rigid t r x) ∙ equal_kind L own r q e ∙ becomes-kind p u q y)

-- a test that holds of equal terms above each level
abbrev PassesAbove : (Node → Node → Bool) → Parameters → (Tree → Tree) → (Tree → Tree) → Level → Type 0
PassesAbove test p f g L = (t u : Tree) → Equal L (f t) (g u) → agree test p t u ≡ true

-- it holds of equal terms of each height, if it does above the empty level and above each height
at_each_height : (S : Setting) (test : Node → Node → Bool) (p : Parameters) (f g : Tree → Tree) →
    PassesAbove test p f g nothing → ((n : ℕ) → PassesAbove test p f g (level S n)) →
    (n : ℕ) (t u : Tree) → (level S n).equal (f t) (g u) → agree test p t u ≡ true
unfolding level
at_each_height S test p f g lowest above zero t u e = lowest t u e
at_each_height S test p f g lowest above (suc n) t u e = above n t u e

-- lists that are equal under values at some height may become the same
pub lists-equal : (S : Setting) (test : Node → Node → Bool) (P : Node → Tree → Type 0) → TopsPass nothing test P Rigid →
    ((n : ℕ) → TopsPass (level S n) test P Rigid) → (values : Variable → Tree) → Allows P values →
    (n : ℕ) (ts us : List Tree) → Pairs (level S n).equal (map (with_values values) ts) (map (with_values values) us) → lists_agree test Rigid ts us ≡ true
lists-equal S test P lowest above values allowed n ts us =
    pairs_agree (level S n).equal test Rigid (with_values values) (with_values values)
    (at_each_height S test Rigid (with_values values) (with_values values)
    (λ t u e. equal_agree nothing test P Rigid lowest t u (with_values values t) (with_values values u) (becomes-values P values allowed t) (becomes-values P values allowed u) e)
    (λ m t u e. equal_agree (level S m) test P Rigid (above m) t u (with_values values t) (with_values values u) (becomes-values P values allowed t) (becomes-values P values allowed u) e)
    n) ts us

-- likewise where the second list's parameters have arguments
pub lists-equal_arguments : (S : Setting) (test : Node → Node → Bool) (P : Node → Tree → Type 0) → TopsPass nothing test P Inferred →
    ((n : ℕ) → TopsPass (level S n) test P Inferred) → (values : Variable → Tree) → Allows P values → (args : List Tree) →
    (n : ℕ) (ts us : List Tree) → Pairs (level S n).equal (map (with_values values) ts) (map (with_arguments values args) us) → lists_agree test Inferred ts us ≡ true
lists-equal_arguments S test P lowest above values allowed args n ts us =
    pairs_agree (level S n).equal test Inferred (with_values values) (with_arguments values args)
    (at_each_height S test Inferred (with_values values) (with_arguments values args)
    (λ t u e. equal_agree nothing test P Inferred lowest t u (with_values values t) (with_arguments values args u) (becomes-values P values allowed t) (becomes-arguments P values allowed args 0 u) e)
    (λ m t u e. equal_agree (level S m) test P Inferred (above m) t u (with_values values t) (with_arguments values args u) (becomes-values P values allowed t) (becomes-arguments P values allowed args 0 u) e)
    n) ts us

-- below all heights no alias has a term
pub gives_own_kinds-nothing : GivesOwnKinds nothing
gives_own_kinds-nothing k ts t x = absurd x
