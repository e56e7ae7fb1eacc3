-- Lists in which two heads differ are unequal, and a header clashes, without any height.
use Rattle.std.proofs.Common.{◌≡◌, ◌≢◌, ◌⊎◌, ℕ, Bool, true, false, ◌&&◌, List, [], ◌∷◌, map, refl, sym, ap, ap₂, ◌∙◌, subst, inl, inr}
use Rattle.std.specs.Prelude.{is_some, if◌then◌else◌}
use Rattle.std.proofs.lemmas.Bool.{false≢true}
use Rattle.goal_terms.specs.Erased.{erased, erased_row, erased_head, compared_node}
use Rattle.goal_terms.specs.SameLaws.{same_node-refl}
use Rattle.goal_terms.specs.SameTree.{same_node}
use Rattle.goal_terms.specs.Tree.{Tree, Trees, node, alias, variable, none, more, list_of}
use Rattle.goal_terms.specs.declared.compare.Regions.TheVariants.{Forgotten}
use Rattle.goal_terms.specs.declared.heads.Head.{Head}
use Rattle.goal_terms.specs.declared.heads.Head.TheVariants.{Ref, FnPtr, Dynamic, Lifetime}
use Rattle.goal_terms.specs.declared.heads.Node.{Node}
use Rattle.goal_terms.specs.declared.heads.Node.TheVariants as nodes
use Rattle.goal_lists.specs.Equality.{Unequal, RowUnequal}
use Rattle.goal_lists.specs.FastReject.{is_open, agree, row_agrees, lists_agree, heads_agree}
use Rattle.goal_lists.specs.Headers.{parameter_of, InstanceUnequal, StepClashes, Clash, RowClash}
use Rattle.goal_lists.specs.Level.{Level}
use Rattle.goal_lists.specs.Words.{Either, SomePair}
use Rattle.goal_lists.specs.declared.fast_reject.Parameters.TheVariants.{Rigid, Inferred}

-- the test that passes any two nodes
abbrev pub any_two : Node → Node → Bool
any_two n m = true

-- of two tests that don't both pass one fails
pub one_fails : (a b : Bool) → a && b ≡ false → (a ≡ false) ⊎ (b ≡ false)
one_fails true b e = inr e
one_fails false b e = inl refl

-- nodes that are not the same have other heads
heads_other : (h k : Head) → same_node (compared_node Forgotten (nodes.Head h)) (compared_node Forgotten (nodes.Head k)) ≡ false → erased_head h ≢ erased_head k
heads_other h k e f =
    false≢true (sym e ∙ ap (λ j. same_node (nodes.Head j) (nodes.Head (erased_head k))) f ∙ same_node-refl (nodes.Head (erased_head k)))

mutual
  unfolding agree is_open Unequal erased

  -- terms in which two heads differ are unequal above any level
  heads_unequal : (L : Level) (t u : Tree) → agree any_two Rigid t u ≡ false → Unequal L (erased t) (erased u)
  heads_unequal L (node h ts) (node k us) e =
      elim (one_fails (same_node (compared_node Forgotten (nodes.Head h)) (compared_node Forgotten (nodes.Head k))) (row_agrees any_two Rigid ts (list_of us)) e)
      [ inl f ↦ inl (heads_other h k f) | inr f ↦ inr (row_heads_unequal L ts us f) ]
  heads_unequal L (node h ts) (alias k us) e = absurd (false≢true (sym e))
  heads_unequal L (node h ts) (variable w) e = absurd (false≢true (sym e))
  heads_unequal L (alias k ts) u e = absurd (false≢true (sym e))
  heads_unequal L (variable v) u e = absurd (false≢true (sym e))

  row_heads_unequal : (L : Level) (ts us : Trees) → row_agrees any_two Rigid ts (list_of us) ≡ false → RowUnequal L (erased_row ts) (erased_row us)
  row_heads_unequal L none none e = absurd (false≢true (sym e))
  row_heads_unequal L none (more u us) e = tt
  row_heads_unequal L (more t ts) none e = tt
  row_heads_unequal L (more t ts) (more u us) e =
      elim (one_fails (agree any_two Rigid t u) (row_agrees any_two Rigid ts (list_of us)) e)
      [ inl f ↦ inl (heads_unequal L t u f) | inr f ↦ inr (row_heads_unequal L ts us f) ]

-- lists in which two heads differ, or of other lengths, have an unequal pair or other lengths
pub lists_unequal : (L : Level) (ts us : List Tree) → heads_agree Rigid ts us ≡ false → SomePair (Unequal L) (map erased ts) (map erased us)
unfolding lists_agree SomePair
lists_unequal L [] [] e = false≢true (sym e)
lists_unequal L [] (u ∷ us) e = tt
lists_unequal L (t ∷ ts) [] e = tt
lists_unequal L (t ∷ ts) (u ∷ us) e =
    elim (one_fails (agree any_two Rigid t u) (heads_agree Rigid ts us) e) [ inl f ↦ inl (heads_unequal L t u f) | inr f ↦ inr (lists_unequal L ts us f) ]

-- a constructor without lifetimes has none that could go
erased_head-again : (h : Head) → erased_head (erased_head h) ≡ erased_head h
erased_head-again (Ref r m) = refl
erased_head-again (FnPtr bound inputs fn_traits) = refl
erased_head-again (Dynamic count r) = refl
erased_head-again (Lifetime r) = refl
erased_head-again h = refl

-- nodes that are not the same have other heads, also where one side's lifetimes are gone
heads_other-erased : (h k : Head) → same_node (compared_node Forgotten (nodes.Head h)) (compared_node Forgotten (nodes.Head k)) ≡ false → k ≢ erased_head h
heads_other-erased h k e f = heads_other h k e (sym (ap erased_head f ∙ erased_head-again h))

mutual
  unfolding agree is_open Unequal erased

  -- a term is unequal above any level to one in which another head stands
  head_unequal : (L : Level) (g u : Tree) → agree any_two Rigid g u ≡ false → Unequal L u (erased g)
  head_unequal L (node h ts) (node k us) e =
      elim (one_fails (same_node (compared_node Forgotten (nodes.Head h)) (compared_node Forgotten (nodes.Head k))) (row_agrees any_two Rigid ts (list_of us)) e)
      [ inl f ↦ inl (heads_other-erased h k f) | inr f ↦ inr (row_head_unequal L ts us f) ]
  head_unequal L (node h ts) (alias k us) e = absurd (false≢true (sym e))
  head_unequal L (node h ts) (variable w) e = absurd (false≢true (sym e))
  head_unequal L (alias k ts) u e = absurd (false≢true (sym e))
  head_unequal L (variable v) u e = absurd (false≢true (sym e))

  row_head_unequal : (L : Level) (ts us : Trees) → row_agrees any_two Rigid ts (list_of us) ≡ false → RowUnequal L us (erased_row ts)
  row_head_unequal L none none e = absurd (false≢true (sym e))
  row_head_unequal L none (more u us) e = tt
  row_head_unequal L (more t ts) none e = tt
  row_head_unequal L (more t ts) (more u us) e =
      elim (one_fails (agree any_two Rigid t u) (row_agrees any_two Rigid ts (list_of us)) e)
      [ inl f ↦ inl (head_unequal L t u f) | inr f ↦ inr (row_head_unequal L ts us f) ]

-- so are the terms of a list, beside given ones
pub list_unequal : (L : Level) (gs us : List Tree) → heads_agree Rigid gs us ≡ false → SomePair (Unequal L) us (map erased gs)
unfolding lists_agree SomePair
list_unequal L [] [] e = false≢true (sym e)
list_unequal L [] (u ∷ us) e = tt
list_unequal L (g ∷ gs) [] e = tt
list_unequal L (g ∷ gs) (u ∷ us) e =
    elim (one_fails (agree any_two Rigid g u) (heads_agree Rigid gs us) e) [ inl f ↦ inl (head_unequal L g u f) | inr f ↦ inr (list_unequal L gs us f) ]

mutual
  unfolding agree is_open erased

  -- lifetimes say nothing of whether heads agree
  agree-erased : (g u : Tree) → agree any_two Rigid g (erased u) ≡ agree any_two Rigid g u
  agree-erased (node h ts) (node k us) =
      ap₂ (λ j b. same_node (compared_node Forgotten (nodes.Head h)) (nodes.Head j) && b) (erased_head-again k) (row_agrees-erased ts us)
  agree-erased (node h ts) (alias k us) = refl
  agree-erased (node h ts) (variable w) = refl
  agree-erased (alias k ts) u = refl
  agree-erased (variable v) u = refl

  row_agrees-erased : (ts us : Trees) → row_agrees any_two Rigid ts (list_of (erased_row us)) ≡ row_agrees any_two Rigid ts (list_of us)
  row_agrees-erased none none = refl
  row_agrees-erased none (more u us) = refl
  row_agrees-erased (more t ts) none = refl
  row_agrees-erased (more t ts) (more u us) = ap₂ (λ a b. a && b) (agree-erased t u) (row_agrees-erased ts us)

pub heads_agree-erased : (gs us : List Tree) → heads_agree Rigid gs (map erased us) ≡ heads_agree Rigid gs us
unfolding lists_agree
heads_agree-erased [] [] = refl
heads_agree-erased [] (u ∷ us) = refl
heads_agree-erased (g ∷ gs) [] = refl
heads_agree-erased (g ∷ gs) (u ∷ us) = ap₂ (λ a b. a && b) (agree-erased g u) (heads_agree-erased gs us)

-- a constructor without lifetimes is the same parameter
parameter_of-erased : (h : Head) → parameter_of (erased_head h) ≡ parameter_of h
parameter_of-erased (Ref r m) = refl
parameter_of-erased (FnPtr bound inputs fn_traits) = refl
parameter_of-erased (Dynamic count r) = refl
parameter_of-erased (Lifetime r) = refl
parameter_of-erased h = refl

-- the other of two claims follows where the test for it and what then is tested fail
other_claim : (b d : Bool) (A B : Type 0) → (if b then true else d) ≡ false → (d ≡ false → B) → Either b A B
unfolding Either
other_claim true d A B e f = absurd (false≢true (sym e))
other_claim false d A B e f = f e

mutual
  unfolding agree is_open Clash StepClashes erased

  -- a header in which a head differs from that of a given term clashes with it above any level
  heads_clash : (L : Level) (K : ℕ → Tree → Type 0) (g h : Tree) → agree any_two Inferred g h ≡ false → Clash L K (erased h) (erased g)
  heads_clash L K (node j gs) (node k hs) e =
      subst
      (λ o. Either (is_some o) (InstanceUnequal L K (erased (node k hs)) (erased (node j gs)))
      (StepClashes L (erased_head k) (λ us. RowClash L K (erased_row hs) us) (λ f. L.clash K (erased (node k hs)) f) (erased (node j gs))))
      (sym (parameter_of-erased k))
      (other_claim (is_some (parameter_of k))
      (same_node (compared_node Forgotten (nodes.Head j)) (compared_node Forgotten (nodes.Head k)) && row_agrees any_two Inferred gs (list_of hs))
      (InstanceUnequal L K (erased (node k hs)) (erased (node j gs)))
      (StepClashes L (erased_head k) (λ us. RowClash L K (erased_row hs) us) (λ f. L.clash K (erased (node k hs)) f) (erased (node j gs)))
      e
      (λ f. elim (one_fails (same_node (compared_node Forgotten (nodes.Head j)) (compared_node Forgotten (nodes.Head k))) (row_agrees any_two Inferred gs (list_of hs)) f)
      [ inl o ↦ inl (λ same. heads_other j k o (sym same)) | inr o ↦ inr (row_heads_clash L K gs hs o) ]))
  heads_clash L K (node j gs) (alias k hs) e = absurd (false≢true (sym e))
  heads_clash L K (node j gs) (variable w) e = absurd (false≢true (sym e))
  heads_clash L K (alias k gs) h e = absurd (false≢true (sym e))
  heads_clash L K (variable v) h e = absurd (false≢true (sym e))

  row_heads_clash : (L : Level) (K : ℕ → Tree → Type 0) (gs hs : Trees) → row_agrees any_two Inferred gs (list_of hs) ≡ false →
      RowClash L K (erased_row hs) (erased_row gs)
  row_heads_clash L K none none e = absurd (false≢true (sym e))
  row_heads_clash L K none (more h hs) e = tt
  row_heads_clash L K (more g gs) none e = tt
  row_heads_clash L K (more g gs) (more h hs) e =
      elim (one_fails (agree any_two Inferred g h) (row_agrees any_two Inferred gs (list_of hs)) e)
      [ inl f ↦ inl (heads_clash L K g h f) | inr f ↦ inr (row_heads_clash L K gs hs f) ]

-- and so do the arguments of a header with given ones
pub lists_clash : (L : Level) (K : ℕ → Tree → Type 0) (gs hs : List Tree) → heads_agree Inferred gs hs ≡ false →
    SomePair (Clash L K) (map erased hs) (map erased gs)
unfolding lists_agree SomePair
lists_clash L K [] [] e = false≢true (sym e)
lists_clash L K [] (h ∷ hs) e = tt
lists_clash L K (g ∷ gs) [] e = tt
lists_clash L K (g ∷ gs) (h ∷ hs) e =
    elim (one_fails (agree any_two Inferred g h) (heads_agree Inferred gs hs) e) [ inl f ↦ inl (heads_clash L K g h f) | inr f ↦ inr (lists_clash L K gs hs f) ]
