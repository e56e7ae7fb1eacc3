-- The test of identity decides it.
use Rattle.std.proofs.Common.{◌≡◌, Bool, true, false, ◌&&◌, refl, sym, ap, ◌∙◌, rules}
use Rattle.std.specs.Prelude.{IsTrue}
use Rattle.std.specs.Cmp.{IsEquivalence}
use Rattle.std.proofs.lemmas.Bool.{false≢true}
use Rattle.goal_terms.specs.Tree.{Tree, Trees, node, alias, variable, none, more, list_of}
use Rattle.goal_terms.specs.Writes.{tree_writes}
use Rattle.goal_terms.specs.SameTree.{same_node, same_tree, same_row}
use Rattle.goal_terms.specs.declared.heads.Head.{Head}
use Rattle.goal_terms.specs.declared.heads.Head.TheVariants as head
use Rattle.goal_terms.specs.declared.heads.Node.{Node}
use Rattle.goal_terms.specs.declared.heads.Node.TheVariants as nodes
use Rattle.goal_terms.specs.contracts.heads.HeadPartialEq.TheImpl as derived

abbrev same_head : Head → Head → Bool
same_head h k = (derived.ghosts).eq h k

pub same_head-true : (h k : Head) → same_head h k ≡ true → h ≡ k
same_head-true head.Bool head.Bool e = refl
same_head-true head.Char head.Char e = refl
same_head-true (head.Int a) (head.Int x) e = search rules
same_head-true (head.Uint a) (head.Uint x) e = search rules
same_head-true (head.Float a) (head.Float x) e = search rules
same_head-true head.Str head.Str e = refl
same_head-true head.Never head.Never e = refl
same_head-true (head.Adt a b) (head.Adt x y) e = search rules
same_head-true (head.Foreign a) (head.Foreign x) e = search rules
same_head-true head.Array head.Array e = refl
same_head-true head.Slice head.Slice e = refl
same_head-true (head.RawPtr a) (head.RawPtr x) e = search rules
same_head-true (head.Ref a b) (head.Ref x y) e = search rules
same_head-true (head.FnDef a b) (head.FnDef x y) e = search rules
same_head-true (head.FnPtr a b c) (head.FnPtr x y z) e = search rules
same_head-true (head.Closure a b) (head.Closure x y) e = search rules
same_head-true (head.Dynamic a b) (head.Dynamic x y) e = search rules
same_head-true (head.Tuple a) (head.Tuple x) e = search rules
same_head-true (head.TyParam a) (head.TyParam x) e = search rules
same_head-true (head.TyPlaceholder a) (head.TyPlaceholder x) e = search rules
same_head-true (head.TyError a) (head.TyError x) e = search rules
same_head-true (head.Value a) (head.Value x) e = search rules
same_head-true (head.ConstParam a) (head.ConstParam x) e = search rules
same_head-true (head.ConstPlaceholder a) (head.ConstPlaceholder x) e = search rules
same_head-true (head.ConstError a) (head.ConstError x) e = search rules
same_head-true (head.Lifetime a) (head.Lifetime x) e = search rules
same_head-true (head.DynTrait a b) (head.DynTrait x y) e = search rules
same_head-true (head.DynProjection a b) (head.DynProjection x y) e = search rules
same_head-true (head.Misplaced a) (head.Misplaced x) e = search rules
same_head-true _ _ e = absurd (false≢true e)

pub same_head-refl : (h : Head) → same_head h h ≡ true
same_head-refl head.Bool = refl
same_head-refl head.Char = refl
same_head-refl (head.Int a) = search rules
same_head-refl (head.Uint a) = search rules
same_head-refl (head.Float a) = search rules
same_head-refl head.Str = refl
same_head-refl head.Never = refl
same_head-refl (head.Adt a b) = search rules
same_head-refl (head.Foreign a) = search rules
same_head-refl head.Array = refl
same_head-refl head.Slice = refl
same_head-refl (head.RawPtr a) = search rules
same_head-refl (head.Ref a b) = search rules
same_head-refl (head.FnDef a b) = search rules
same_head-refl (head.FnPtr a b c) = search rules
same_head-refl (head.Closure a b) = search rules
same_head-refl (head.Dynamic a b) = search rules
same_head-refl (head.Tuple a) = search rules
same_head-refl (head.TyParam a) = search rules
same_head-refl (head.TyPlaceholder a) = search rules
same_head-refl (head.TyError a) = search rules
same_head-refl (head.Value a) = search rules
same_head-refl (head.ConstParam a) = search rules
same_head-refl (head.ConstPlaceholder a) = search rules
same_head-refl (head.ConstError a) = search rules
same_head-refl (head.Lifetime a) = search rules
same_head-refl (head.DynTrait a b) = search rules
same_head-refl (head.DynProjection a b) = search rules
same_head-refl (head.Misplaced a) = search rules

pub same_node-true : (n m : Node) → same_node n m ≡ true → n ≡ m
unfolding same_node
same_node-true (nodes.Head h) (nodes.Head k) e = ap nodes.Head (same_head-true h k e)
same_node-true (nodes.Alias h) (nodes.Alias k) e = search rules
same_node-true (nodes.Variable h) (nodes.Variable k) e = search rules
same_node-true _ _ e = absurd (false≢true e)

pub same_node-refl : (n : Node) → same_node n n ≡ true
unfolding same_node
same_node-refl (nodes.Head h) = same_head-refl h
same_node-refl (nodes.Alias h) = search rules
same_node-refl (nodes.Variable h) = search rules

pub ruleset same_nodes = (same_node-true, same_node-refl)

both_true : (a b : Bool) → a && b ≡ true → (a ≡ true) × (b ≡ true)
both_true true b e = (refl, e)
both_true false b e = absurd (false≢true e)

mutual
  unfolding same_tree same_node

  pub same_tree-true : (t u : Tree) → same_tree t u ≡ true → t ≡ u
  same_tree-true (node h ts) (node k us) e =
      let both : (same_node (nodes.Head h) (nodes.Head k) ≡ true) × (same_row ts (list_of us) ≡ true) = both_true (same_node (nodes.Head h) (nodes.Head k)) (same_row ts (list_of us)) e in
      ap (λ x. node x ts) (same_head-true h k both.0) ∙ ap (λ x. node k x) (same_row-true ts us both.1)
  same_tree-true (node h ts) (alias k us) e = absurd (false≢true e)
  same_tree-true (node h ts) (variable v) e = absurd (false≢true e)
  same_tree-true (alias h ts) (node k us) e = absurd (false≢true e)
  same_tree-true (alias h ts) (alias k us) e =
      let both : (same_node (nodes.Alias h) (nodes.Alias k) ≡ true) × (same_row ts (list_of us) ≡ true) = both_true (same_node (nodes.Alias h) (nodes.Alias k)) (same_row ts (list_of us)) e in
      let p : nodes.Alias h ≡ nodes.Alias k = same_node-true (nodes.Alias h) (nodes.Alias k) both.0 in
      let q : h ≡ k = cc in
      ap (λ x. alias x ts) q ∙ ap (λ x. alias k x) (same_row-true ts us both.1)
  same_tree-true (alias h ts) (variable v) e = absurd (false≢true e)
  same_tree-true (variable v) (node k us) e = absurd (false≢true e)
  same_tree-true (variable v) (alias k us) e = absurd (false≢true e)
  same_tree-true (variable v) (variable w) e =
      let p : nodes.Variable v ≡ nodes.Variable w = same_node-true (nodes.Variable v) (nodes.Variable w) e in
      let q : v ≡ w = cc in ap (λ x. variable x) q

  pub same_row-true : (ts us : Trees) → same_row ts (list_of us) ≡ true → ts ≡ us
  same_row-true none none e = refl
  same_row-true none (more u us) e = absurd (false≢true e)
  same_row-true (more t ts) none e = absurd (false≢true e)
  same_row-true (more t ts) (more u us) e =
      let both : (same_tree t u ≡ true) × (same_row ts (list_of us) ≡ true) = both_true (same_tree t u) (same_row ts (list_of us)) e in
      ap (λ x. more x ts) (same_tree-true t u both.0) ∙ ap (λ x. more u x) (same_row-true ts us both.1)

both_hold : (a b : Bool) → a ≡ true → b ≡ true → a && b ≡ true
both_hold a b p q = ap (λ x. x && b) p ∙ q

mutual
  unfolding same_tree

  pub same_tree-refl : (t : Tree) → same_tree t t ≡ true
  same_tree-refl (node h ts) = both_hold (same_node (nodes.Head h) (nodes.Head h)) (same_row ts (list_of ts)) (same_node-refl (nodes.Head h)) (same_row-refl ts)
  same_tree-refl (alias k ts) = both_hold (same_node (nodes.Alias k) (nodes.Alias k)) (same_row ts (list_of ts)) (same_node-refl (nodes.Alias k)) (same_row-refl ts)
  same_tree-refl (variable v) = same_node-refl (nodes.Variable v)

  pub same_row-refl : (ts : Trees) → same_row ts (list_of ts) ≡ true
  same_row-refl none = refl
  same_row-refl (more t ts) = both_hold (same_tree t t) (same_row ts (list_of ts)) (same_tree-refl t) (same_row-refl ts)

as_facts : (a b : Bool) → (a ≡ true → b ≡ true) → (b ≡ true → a ≡ true) → a ≡ b
as_facts true b f g = sym (f refl)
as_facts false true f g = g refl
as_facts false false f g = refl

same_tree-symm : (t u : Tree) → same_tree t u ≡ same_tree u t
same_tree-symm t u =
    as_facts (same_tree t u) (same_tree u t)
    (λ e. ap (λ x. same_tree u x) (same_tree-true t u e) ∙ same_tree-refl u)
    (λ e. ap (λ x. same_tree t x) (same_tree-true u t e) ∙ same_tree-refl t)

-- the test of identity is an equivalence
pub same_tree_laws : IsEquivalence same_tree
same_tree_laws = record {
  refl = same_tree-refl;
  symm = same_tree-symm;
  congr = λ t u w e. ap (λ x. same_tree x w) (same_tree-true t u e);
}

-- what it says, both ways
pub same_tree-is : (t u : Tree) (b : Bool) → b ≡ same_tree t u → (IsTrue b → t ≡ u) × (t ≡ u → IsTrue b)
same_tree-is t u b e = (λ h. same_tree-true t u (sym e ∙ h), λ h. e ∙ ap (λ x. same_tree t x) (sym h) ∙ same_tree-refl t)

pub ruleset deciding = (same_tree-true, same_tree-refl, same_tree-is)

-- identical terms write the same
pub same_writes : (t u : Tree) → IsTrue (same_tree t u) → tree_writes t ≡ tree_writes u
same_writes t u e = ap tree_writes (same_tree-true t u e)
