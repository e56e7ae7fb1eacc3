-- Instances without lifetimes: only the terms of the parameters that a term mentions matter.
use Rattle.std.proofs.Common.{◌≡◌, ℕ, Bool, true, false, ◌==◌, ◌||◌, List, Option, Some, None, refl, ap, ◌∙◌, eq-eqb}
use Rattle.std.specs.Prelude.{slice_get, if◌then◌else◌}
use Rattle.std.specs.Option.{option_map, option_and_then, unwrap_or}
use Rattle.goal_terms.specs.Erased.{erased, erased_row, erased_head}
use Rattle.goal_terms.specs.Folding.{Folding, depth_below, folded_node, folded, folded_row, shifting, shifted, argument_of, instance_of, instantiating}
use Rattle.goal_terms.specs.Kinds.{same_kind, kind_of}
use Rattle.goal_terms.specs.NodeTests.{some_node, some_in_row}
use Rattle.goal_terms.specs.Tree.{Tree, Trees, node, alias, variable, none, more, node_of}
use Rattle.goal_terms.specs.TreeOf.{leaf}
use Rattle.goal_terms.specs.declared.answers.ParamKind.{ParamKind}
use Rattle.goal_terms.specs.declared.answers.ParamKind.TheVariants as kind
use Rattle.goal_terms.specs.declared.heads.Head.{Head}
use Rattle.goal_terms.specs.declared.heads.Head.TheVariants.{TyParam, ConstParam}
use Rattle.goal_terms.specs.declared.heads.Node.TheVariants as nodes
use Rattle.goal_lists.specs.Headers.{under, is_parameter, mentions}

-- two rewritings put the same in place of a parameter, without lifetimes, below any numbers of binders
abbrev pub PutTheSame : Folding → Folding → ℕ → Type 0
PutTheSame f g n = (d e : ℕ) → (erased (f.ty_param d n) ≡ erased (g.ty_param e n)) × (erased (f.const_param d n) ≡ erased (g.const_param e n))

-- a test that passes, or another
or_left : (a b : Bool) → a ≡ true → a || b ≡ true
or_left true b e = refl
or_left false b e = absurd (cc)

-- a test, or another that passes
or_right : (a b : Bool) → b ≡ true → a || b ≡ true
or_right true b e = refl
or_right false b e = e

-- a number is itself
is_itself : (n : ℕ) → n == n ≡ true
is_itself n = eq-eqb n n refl

-- a rewritten node, where two rewritings put the same in place of the parameter that it may be
folded_node-erased : (f g : Folding) (d e : ℕ) (h : Head) (ts us : Trees) → ((n : ℕ) → is_parameter n (nodes.Head h) ≡ true → PutTheSame f g n) →
    erased_row ts ≡ erased_row us → erased (folded_node f d h ts) ≡ erased (folded_node g e h us)
unfolding folded_node erased is_parameter
folded_node-erased f g d e (TyParam n) ts us same rows = (same n (is_itself n) d e).0
folded_node-erased f g d e (ConstParam n) ts us same rows = (same n (is_itself n) d e).1
folded_node-erased f g d e h ts us same rows = ap (λ r. node (erased_head h) r) rows

mutual
  unfolding folded erased mentions some_node

  -- two rewritings that put the same in place of each parameter that a term mentions rewrite it alike, without lifetimes
  pub folded-erased : (f g : Folding) (d e : ℕ) (t : Tree) → ((n : ℕ) → mentions n t ≡ true → PutTheSame f g n) → erased (folded f d t) ≡ erased (folded g e t)
  folded-erased f g d e (node h ts) same =
      folded_node-erased f g d e h (folded_row f (depth_below h d) ts) (folded_row g (depth_below h e) ts)
      (λ n p. same n (or_left (is_parameter n (nodes.Head h)) (some_in_row (is_parameter n) ts) p))
      (folded_row-erased f g (depth_below h d) (depth_below h e) ts (λ n p. same n (or_right (is_parameter n (nodes.Head h)) (some_in_row (is_parameter n) ts) p)))
  folded-erased f g d e (alias k ts) same =
      ap (λ r. alias k r) (folded_row-erased f g d e ts (λ n p. same n (or_right (is_parameter n (nodes.Alias k)) (some_in_row (is_parameter n) ts) p)))
  folded-erased f g d e (variable v) same = refl

  -- and each row whose parameters they treat so
  folded_row-erased : (f g : Folding) (d e : ℕ) (ts : Trees) → ((n : ℕ) → some_in_row (is_parameter n) ts ≡ true → PutTheSame f g n) →
      erased_row (folded_row f d ts) ≡ erased_row (folded_row g e ts)
  folded_row-erased f g d e none same = refl
  folded_row-erased f g d e (more t ts) same =
      ap (λ u. more u (erased_row (folded_row f d ts))) (folded-erased f g d e t (λ n p. same n (or_left (mentions n t) (some_in_row (is_parameter n) ts) p)))
      ∙ ap (λ r. more (erased (folded g e t)) r) (folded_row-erased f g d e ts (λ n p. same n (or_right (mentions n t) (some_in_row (is_parameter n) ts) p)))

-- moving of lifetimes changes nothing else
pub shifted-erased : (b c d e : ℕ) (t : Tree) → erased (shifted b d t) ≡ erased (shifted c e t)
shifted-erased b c d e t = folded-erased (shifting b) (shifting c) d e t (λ n p i j. (refl, refl))

-- what stands for a parameter, below any number of binders
instance_of-erased : (o : Option Tree) (h : Head) (d e : ℕ) →
    erased (unwrap_or (option_map (shifted d 0) o) (leaf h)) ≡ erased (unwrap_or (option_map (shifted e 0) o) (leaf h))
instance_of-erased None h d e = refl
instance_of-erased (Some t) h d e = shifted-erased d e 0 0 t

-- lists that have the same at a place have the same argument of a kind there
argument_the_same : (s r : List Tree) (k : ParamKind) (n : ℕ) → slice_get s n ≡ slice_get r n → argument_of s k n ≡ argument_of r k n
unfolding argument_of
argument_the_same s r k n same = ap (λ o. option_and_then (λ t. if same_kind (kind_of (node_of t)) k then Some t else None) o) same

-- what stands for a parameter under lists that have the same at its place
instance_of_the_same : (s r : List Tree) (k : ParamKind) (h : Head) (n : ℕ) → slice_get s n ≡ slice_get r n →
    (d e : ℕ) → erased (instance_of s k h d n) ≡ erased (instance_of r k h e n)
instance_of_the_same s r k h n same d e =
    ap (λ o. erased (unwrap_or (option_map (shifted d 0) o) (leaf h))) (argument_the_same s r k n same)
    ∙ instance_of-erased (argument_of r k n) h d e

-- lists that have the same at a place put the same in place of its parameter
pub instantiating_the_same : (s r : List Tree) (n : ℕ) → slice_get s n ≡ slice_get r n → PutTheSame (instantiating s) (instantiating r) n
instantiating_the_same s r n same d e =
    (instance_of_the_same s r kind.Ty (TyParam n) n same d e, instance_of_the_same s r kind.Const (ConstParam n) n same d e)

-- an instance does not depend on the number of binders, up to lifetimes
pub instance-depth : (s : List Tree) (d e : ℕ) (t : Tree) → erased (folded (instantiating s) d t) ≡ erased (folded (instantiating s) e t)
instance-depth s d e t = folded-erased (instantiating s) (instantiating s) d e t (λ n p. instantiating_the_same s s n refl)

-- lists that agree on the parameters that a term mentions make the same instance of it
pub under_the_same : (s r : List Tree) (t : Tree) → ((n : ℕ) → mentions n t ≡ true → slice_get s n ≡ slice_get r n) → under s t ≡ under r t
under_the_same s r t same = folded-erased (instantiating s) (instantiating r) 0 0 t (λ n p. instantiating_the_same s r n (same n p))
