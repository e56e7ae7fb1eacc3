-- Instances and lifetimes: those of a row's term and of its arguments say nothing about the instance without lifetimes.
use Rattle.std.proofs.Common.{◌≡◌, ℕ, Bool, true, false, List, [], ◌∷◌, length, map, Option, Some, None, refl, ap, ap₂, ◌∙◌}
use Rattle.std.specs.Prelude.{slice_get, if◌then◌else◌}
use Rattle.std.specs.List.{All}
use Rattle.std.specs.Option.{option_map, option_and_then, unwrap_or}
use Rattle.std.proofs.lemmas.Option.{slice_get-map}
use Rattle.std.proofs.lemmas.List.Elements.{All-head, All-tail, All-cons, All-nil}
use Rattle.goal_terms.specs.Erased.{erased, erased_row, erased_head}
use Rattle.goal_terms.specs.Folding.{Folding, depth_below, folded_node, folded, folded_row, shifting, shifted, argument_of, instance_of, instance, instantiating}
use Rattle.goal_terms.specs.Kinds.{same_kind, kind_of, kind_of_head}
use Rattle.goal_terms.specs.Sorts.{is_argument_sort, IsArgument}
use Rattle.goal_interner.specs.TableMeaning.{tree_at, AreBelow}
use Rattle.goal_terms.specs.Tree.{Tree, Trees, node, alias, variable, none, more, node_of}
use Rattle.goal_terms.specs.TreeOf.{leaf}
use Rattle.goal_terms.specs.declared.answers.ParamKind.{ParamKind}
use Rattle.goal_terms.specs.declared.answers.ParamKind.TheVariants as kind
use Rattle.goal_terms.specs.declared.heads.Head.{Head}
use Rattle.goal_terms.specs.declared.heads.Head.TheVariants.{Ref, FnPtr, Dynamic, Lifetime, TyParam, ConstParam}
use Rattle.goal_interner.specs.declared.term_nodes.TermId.{TermId}
use Rattle.goal_interner.proofs.UnderLemmas.{instantiating-sorts}
use Rattle.goal_lists.specs.Headers.{under}
use Rattle.goal_lists.specs.Interned.{erased_at, erased_all, IsIn, AreIn}
use Rattle.goal_lists.proofs.InstanceLemmas.{PutTheSame, folded-erased, instantiating_the_same}

-- an erased constructor that is no parameter, rewritten, is the rewritten one up to lifetimes
folded_node-of_erased : (f : Folding) (d e : ℕ) (h : Head) (ts us : Trees) → ((n : ℕ) → PutTheSame f f n) →
    erased_row ts ≡ erased_row us → erased (folded_node f d (erased_head h) ts) ≡ erased (folded_node f e h us)
unfolding folded_node erased
folded_node-of_erased f d e (TyParam n) ts us same rows = (same n d e).0
folded_node-of_erased f d e (ConstParam n) ts us same rows = (same n d e).1
folded_node-of_erased f d e (Ref r m) ts us same rows = ap (λ vs. node (erased_head (Ref r m)) vs) rows
folded_node-of_erased f d e h ts us same rows = ap (λ r. node (erased_head h) r) rows

mutual
  unfolding folded erased

  -- a rewriting that puts the same in place of a parameter everywhere makes the same of a term without its lifetimes
  folded-of_erased : (f : Folding) → ((n : ℕ) → PutTheSame f f n) → (d e : ℕ) (t : Tree) → erased (folded f d (erased t)) ≡ erased (folded f e t)
  folded-of_erased f same d e (node h ts) =
      folded_node-of_erased f d e h (folded_row f (depth_below (erased_head h) d) (erased_row ts)) (folded_row f (depth_below h e) ts) same
      (folded_row-of_erased f same (depth_below (erased_head h) d) (depth_below h e) ts)
  folded-of_erased f same d e (alias k ts) = ap (λ r. alias k r) (folded_row-of_erased f same d e ts)
  folded-of_erased f same d e (variable v) = refl

  -- and of a row
  folded_row-of_erased : (f : Folding) → ((n : ℕ) → PutTheSame f f n) → (d e : ℕ) (ts : Trees) →
      erased_row (folded_row f d (erased_row ts)) ≡ erased_row (folded_row f e ts)
  folded_row-of_erased f same d e none = refl
  folded_row-of_erased f same d e (more t ts) = ap₂ (λ u r. more u r) (folded-of_erased f same d e t) (folded_row-of_erased f same d e ts)

-- a constructor's kind says nothing of lifetimes
head_kind-erased : (h : Head) → kind_of_head (erased_head h) ≡ kind_of_head h
unfolding kind_of_head
head_kind-erased (Ref r m) = refl
head_kind-erased (FnPtr bound inputs fn_traits) = refl
head_kind-erased (Dynamic count r) = refl
head_kind-erased (Lifetime r) = refl
head_kind-erased h = refl

-- nor does a term's
kind-erased : (t : Tree) → kind_of (node_of (erased t)) ≡ kind_of (node_of t)
unfolding kind_of erased
kind-erased (node h ts) = head_kind-erased h
kind-erased (alias k ts) = refl
kind-erased (variable v) = refl

-- an argument that is erased and then moved
chosen-erased : (a b : Bool) (t : Tree) (h : Head) (d e : ℕ) → a ≡ b →
    erased (unwrap_or (option_map (shifted d 0) (if a then Some (erased t) else None)) (leaf h))
    ≡ erased (unwrap_or (option_map (shifted e 0) (if b then Some t else None)) (leaf h))
chosen-erased true true t h d e same = folded-of_erased (shifting d) (λ n i j. (refl, refl)) 0 0 t ∙ folded-erased (shifting d) (shifting e) 0 0 t (λ n p i j. (refl, refl))
chosen-erased false false t h d e same = refl
chosen-erased true false t h d e same = absurd (cc)
chosen-erased false true t h d e same = absurd (cc)

-- what stands for a parameter, if there is an argument at its place
place-erased : (o : Option Tree) (k : ParamKind) (h : Head) (d e : ℕ) →
    erased (unwrap_or (option_map (shifted d 0) (option_and_then (λ t. if same_kind (kind_of (node_of t)) k then Some t else None) (option_map erased o))) (leaf h))
    ≡ erased (unwrap_or (option_map (shifted e 0) (option_and_then (λ t. if same_kind (kind_of (node_of t)) k then Some t else None) o)) (leaf h))
place-erased None k h d e = refl
place-erased (Some t) k h d e =
    chosen-erased (same_kind (kind_of (node_of (erased t))) k) (same_kind (kind_of (node_of t)) k) t h d e (ap (λ j. same_kind j k) (kind-erased t))

-- what stands for a parameter under erased arguments
instance_of-args : (s : List Tree) (k : ParamKind) (h : Head) (n d e : ℕ) → erased (instance_of (map erased s) k h d n) ≡ erased (instance_of s k h e n)
unfolding argument_of
instance_of-args s k h n d e =
    ap (λ o. erased (unwrap_or (option_map (shifted d 0) (option_and_then (λ t. if same_kind (kind_of (node_of t)) k then Some t else None) o)) (leaf h)))
    (slice_get-map erased s n)
    ∙ place-erased (slice_get s n) k h d e

-- the lifetimes of arguments say nothing
pub under-erased_args : (s : List Tree) (t : Tree) → under (map erased s) t ≡ under s t
under-erased_args s t =
    folded-erased (instantiating (map erased s)) (instantiating s) 0 0 t
    (λ n p d e. (instance_of-args s kind.Ty (TyParam n) n d e, instance_of-args s kind.Const (ConstParam n) n d e))

-- the lifetimes of a row's term say nothing
pub under-erased_term : (s : List Tree) (t : Tree) → under s (erased t) ≡ under s t
under-erased_term s t = folded-of_erased (instantiating s) (λ n. instantiating_the_same s s n refl) 0 0 t

-- the terms of some numbers, without lifetimes
erased_all-map : (T : List Tree) (ids : List TermId) → erased_all T ids ≡ map erased (map (tree_at T) ids)
erased_all-map T [] = refl
erased_all-map T (id ∷ ids) = ap (λ ts. erased_at T id ∷ ts) (erased_all-map T ids)

-- an instance under numbers
pub under-at : (T : List Tree) (ids : List TermId) (t : Tree) → under (erased_all T ids) t ≡ erased (instance (map (tree_at T) ids) t)
under-at T ids t = ap (λ s. under s t) (erased_all-map T ids) ∙ under-erased_args (map (tree_at T) ids) t

-- an instance of an argument is an argument
pub instance-argument : (args : List Tree) → All IsArgument args → (t : Tree) → IsArgument t → IsArgument (instance args t)
instance-argument args all t argument = ap is_argument_sort (instantiating-sorts args all 0 t) ∙ argument

-- numbers of arguments have trees
pub are_in-below : (T : List Tree) (ids : List TermId) → AreIn T ids → AreBelow (length T) ids
are_in-below T ids h k d below = (h k d below).0

-- and these are arguments
pub are_in-arguments : (T : List Tree) (ids : List TermId) → AreIn T ids → All IsArgument (map (tree_at T) ids)
are_in-arguments T [] h = All-nil IsArgument
are_in-arguments T (id ∷ ids) h =
    All-cons IsArgument (tree_at T id) (map (tree_at T) ids) (All-head (IsIn T) id ids h).1 (are_in-arguments T ids (All-tail (IsIn T) id ids h))
