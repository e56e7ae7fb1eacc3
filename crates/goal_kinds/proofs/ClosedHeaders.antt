-- The terms of a header's parameters hold no inference variable, if the given arguments hold none.
use Rattle.std.proofs.Common.{ℕ, suc, Bool, true, false, List, [], ◌∷◌, ap, ◌∙◌}
use Rattle.goal_terms.specs.NodeTests.{is_any_infer, some_node}
use Rattle.goal_terms.specs.Tree.{Tree, Trees, node, alias, variable, none, more, list_of}
use Rattle.goal_terms.specs.declared.answers.ParamKind.{ParamKind}
use Rattle.goal_terms.specs.declared.answers.ParamKind.TheVariants as kind
use Rattle.goal_terms.specs.declared.heads.Head.{Head}
use Rattle.goal_terms.specs.declared.terms.AliasTermKind.{AliasTermKind}
use Rattle.goal_lists.specs.Headers.{parameter_of, is_number, has_place, StepInto, Part, RowPart, PartAmong, PartsFrom, AllKnown}
use Rattle.goal_lists.specs.Level.{Level, HasHeadForm}
use Rattle.goal_lists.specs.Words.{Each, Either}
use Rattle.goal_kinds.proofs.ClosedTerms.{IsClosedTree, IsClosedRow, AreClosedTrees, closed-list, closed-first, closed-others}

-- at a level what an alias without inference variables gives has none, and neither has a part of a given term without any
pub record KeepsClosed (L : Level) : Type 0 where
  pub gives : (k : AliasTermKind) (ts : List Tree) (u : Tree) → AreClosedTrees ts → L.gives k ts u → IsClosedTree u
  pub part : (n : ℕ) (h g p : Tree) → IsClosedTree g → L.part n h g p → IsClosedTree p

-- the head form of a term
pub closed-head_form : {L : Level} → KeepsClosed L → (t f : Tree) → IsClosedTree t → HasHeadForm L t f → IsClosedTree f
unfolding HasHeadForm some_node
closed-head_form w (node h ts) f e x = ap (some_node is_any_infer) x ∙ e
closed-head_form w (alias k ts) f e x = w.gives k (list_of ts) f (closed-list ts e) x
closed-head_form w (variable v) f e x = ap (some_node is_any_infer) x ∙ e

-- what follows from each of two claims, one of which holds by a test
pub either-out : (b : Bool) {A B C : Type 0} → (A → C) → (B → C) → Either b A B → C
unfolding Either
either-out true f g h = f h
either-out false f g h = g h

-- what a step into a given part leads to
closed-step_into : {L : Level} → KeepsClosed L → (h : Head) {A : Trees → Type 0} {B : Tree → Type 0} {C : Type 0} →
    ((us : Trees) → IsClosedRow us → A us → C) → ((f : Tree) → IsClosedTree f → B f → C) → (g : Tree) → IsClosedTree g → StepInto L h A B g → C
unfolding StepInto some_node
closed-step_into w h here below (node k us) e p = here us e p.1
closed-step_into w h here below (alias k us) e p = below p.0 (w.gives k (list_of us) p.0 (closed-list us e) p.1) p.3
closed-step_into w h here below (variable v) e p = absurd p

mutual
  unfolding Part

  -- the part at the first place of a parameter
  pub closed-part : {L : Level} → KeepsClosed L → (n : ℕ) (t g p : Tree) → IsClosedTree g → Part L n t g p → IsClosedTree p
  closed-part w n (node h ts) g p e q =
      either-out (is_number n (parameter_of h)) (λ x. ap (some_node is_any_infer) x ∙ e)
      (closed-step_into w h (λ us c. closed-row_part w n ts us p c) (λ f c. w.part n (node h ts) f p c) g e) q
  closed-part w n (alias k ts) g p e q = absurd q
  closed-part w n (variable v) g p e q = absurd q

  closed-row_part : {L : Level} → KeepsClosed L → (n : ℕ) (ts gs : Trees) (p : Tree) → IsClosedRow gs → RowPart L n ts gs p → IsClosedTree p
  closed-row_part w n none gs p e q = absurd q
  closed-row_part w n (more t ts) none p e q = absurd q
  closed-row_part w n (more t ts) (more g gs) p e q =
      either-out (has_place n t) (closed-part w n t g p (closed-first g gs e)) (closed-row_part w n ts gs p (closed-others g gs e)) q

-- the part at the first place of a parameter among arguments
closed-part_among : {L : Level} → KeepsClosed L → (n : ℕ) (hs gs : List Tree) (p : Tree) → AreClosedTrees gs → PartAmong L n hs gs p → IsClosedTree p
unfolding PartAmong Each
closed-part_among w n [] gs p all q = absurd q
closed-part_among w n (h ∷ hs) [] p all q = absurd q
closed-part_among w n (h ∷ hs) (g ∷ gs) p all q = either-out (has_place n h) (w.part n h g p all.0) (closed-part_among w n hs gs p all.1) q

closed-parts_from : {L : Level} → KeepsClosed L → (hs gs : List Tree) → AreClosedTrees gs → (n : ℕ) (params : List ParamKind) (s : List Tree) →
    PartsFrom L hs gs n params s → AreClosedTrees s
unfolding PartsFrom Each some_node
closed-parts_from w hs gs all n [] [] p = tt
closed-parts_from w hs gs all n [] (a ∷ s) p = absurd p
closed-parts_from w hs gs all n (k ∷ ks) [] p = tt
closed-parts_from w hs gs all n (kind.Lifetime ∷ ks) (a ∷ s) p = (ap (some_node is_any_infer) p.0, closed-parts_from w hs gs all (suc n) ks s p.1)
closed-parts_from w hs gs all n (kind.Ty ∷ ks) (a ∷ s) p = (closed-part_among w n hs gs a all p.0, closed-parts_from w hs gs all (suc n) ks s p.1)
closed-parts_from w hs gs all n (kind.Const ∷ ks) (a ∷ s) p = (closed-part_among w n hs gs a all p.0, closed-parts_from w hs gs all (suc n) ks s p.1)

-- the terms of all parameters
pub closed-all_known : {L : Level} → KeepsClosed L → (params : List ParamKind) (hs gs s : List Tree) → AreClosedTrees gs → AllKnown L params hs gs s → AreClosedTrees s
unfolding AllKnown
closed-all_known w params hs gs s all p = closed-parts_from w hs gs all 0 params s p
