-- Headers of impls that fit or clash at one level do so at another, if all goals of the one are of the other.
use Rattle.std.proofs.Common.{inl, inr, ℕ, suc, List, [], ◌∷◌, map, is_some}
use Rattle.goal_terms.specs.Tree.{Tree, Trees, node, alias, variable, none, more, list_of}
use Rattle.goal_terms.specs.declared.answers.ParamKind.{ParamKind}
use Rattle.goal_terms.specs.declared.answers.ParamKind.TheVariants as kind
use Rattle.goal_terms.specs.declared.heads.Head.{Head}
use Rattle.goal_lists.specs.Headers.{under, parameter_of, is_number, has_place, StepInto, Part, RowPart, AllAreKnown, InstanceUnequal, StepClashes, Clash, RowClash, PartAmong, Known, PartsFrom, AllKnown, Fits, Clashes}
use Rattle.goal_lists.specs.Laws.{IsWithin}
use Rattle.goal_lists.specs.Level.{Level}
use Rattle.goal_lists.proofs.WithinTerms.{within-unequal, within-pairs}
use Rattle.goal_lists.proofs.WithinWords.{some_pair-map, either-map, sum-map}

-- a step into a given part
within-step_into : {L M : Level} → IsWithin L M → (h : Head) {A B : Trees → Type 0} {C D : Tree → Type 0} →
    ((us : Trees) → A us → B us) → ((f : Tree) → C f → D f) → (g : Tree) → StepInto L h A C g → StepInto M h B D g
unfolding StepInto
within-step_into w h here below (node k us) p = (p.0, here us p.1)
within-step_into w h here below (alias k us) p = (p.0, w.gives k (list_of us) p.0 p.1, p.2, below p.0 p.3)
within-step_into w h here below (variable v) p = p

-- the part at the first place of a parameter
mutual
  unfolding Part

  pub within-part : {L M : Level} → IsWithin L M → (n : ℕ) (t g p : Tree) → Part L n t g p → Part M n t g p
  within-part w n (node h ts) g p q =
      either-map (is_number n (parameter_of h)) (λ e. e)
      (within-step_into w h (λ us. within-row_part w n ts us p) (λ f. w.part n (node h ts) f p) g) q
  within-part w n (alias k ts) g p q = q
  within-part w n (variable v) g p q = q

  pub within-row_part : {L M : Level} → IsWithin L M → (n : ℕ) (ts gs : Trees) (p : Tree) → RowPart L n ts gs p → RowPart M n ts gs p
  within-row_part w n none gs p q = q
  within-row_part w n (more t ts) none p q = q
  within-row_part w n (more t ts) (more g gs) p q = either-map (has_place n t) (within-part w n t g p) (within-row_part w n ts gs p) q

-- a list of all known terms stays one
within-all_are_known : {K N : ℕ → Tree → Type 0} → ((n : ℕ) (u : Tree) → K n u → N n u) → (s : List Tree) (t : Tree) → AllAreKnown K s t → AllAreKnown N s t
unfolding AllAreKnown
within-all_are_known k s t p = λ n e. ((p n e).0, (p n e).1, k n (p n e).0 (p n e).2)

within-instance_unequal : {L M : Level} → IsWithin L M → {K N : ℕ → Tree → Type 0} → ((n : ℕ) (u : Tree) → K n u → N n u) →
    (h g : Tree) → InstanceUnequal L K h g → InstanceUnequal M N h g
unfolding InstanceUnequal
within-instance_unequal w k h g p = (p.0, within-all_are_known k p.0 h p.1, within-unequal w (under p.0 h) g p.2)

-- a given part that differs below a constructor
within-step_clashes : {L M : Level} → IsWithin L M → (h : Head) {A B : Trees → Type 0} {C D : Tree → Type 0} →
    ((us : Trees) → A us → B us) → ((f : Tree) → C f → D f) → (g : Tree) → StepClashes L h A C g → StepClashes M h B D g
unfolding StepClashes
within-step_clashes w h here below (node k us) p = sum-map (λ e. e) (here us) p
within-step_clashes w h here below (alias k us) (inl p) = inl (w.gives_refuted k (list_of us) p)
within-step_clashes w h here below (alias k us) (inr p) = inr (p.0, w.gives k (list_of us) p.0 p.1, sum-map (λ e. e) (below p.0) p.2)
within-step_clashes w h here below (variable v) p = p

-- a header that cannot fit a given term
mutual
  unfolding Clash

  pub within-clash : {L M : Level} → IsWithin L M → (K N : ℕ → Tree → Type 0) → ((n : ℕ) (u : Tree) → K n u → N n u) →
      (h g : Tree) → Clash L K h g → Clash M N h g
  within-clash w K N k (node h ts) g p =
      either-map (is_some (parameter_of h)) (within-instance_unequal w k (node h ts) g)
      (within-step_clashes w h (λ us. within-row_clash w K N k ts us) (λ f. w.clash K N k (node h ts) f) g) p
  within-clash w K N k (alias h ts) g p = within-instance_unequal w k (alias h ts) g p
  within-clash w K N k (variable v) g p = p

  pub within-row_clash : {L M : Level} → IsWithin L M → (K N : ℕ → Tree → Type 0) → ((n : ℕ) (u : Tree) → K n u → N n u) →
      (ts gs : Trees) → RowClash L K ts gs → RowClash M N ts gs
  within-row_clash w K N k none none p = p
  within-row_clash w K N k none (more g gs) p = p
  within-row_clash w K N k (more t ts) none p = p
  within-row_clash w K N k (more t ts) (more g gs) (inl p) = inl (within-clash w K N k t g p)
  within-row_clash w K N k (more t ts) (more g gs) (inr p) = inr (within-row_clash w K N k ts gs p)

-- the part at the first place of a parameter among arguments
pub within-part_among : {L M : Level} → IsWithin L M → (n : ℕ) (hs gs : List Tree) (p : Tree) → PartAmong L n hs gs p → PartAmong M n hs gs p
unfolding PartAmong
within-part_among w n [] gs p q = q
within-part_among w n (h ∷ hs) [] p q = q
within-part_among w n (h ∷ hs) (g ∷ gs) p q = either-map (has_place n h) (w.part n h g p) (within-part_among w n hs gs p) q

-- a known parameter stays known
pub within-known : {L M : Level} → IsWithin L M → (params : List ParamKind) (hs gs : List Tree) (n : ℕ) (u : Tree) →
    Known L params hs gs n u → Known M params hs gs n u
unfolding Known
within-known w params hs gs n u p = (p.0, within-part_among w n hs gs u p.1)

within-parts_from : {L M : Level} → IsWithin L M → (hs gs : List Tree) (n : ℕ) (params : List ParamKind) (s : List Tree) →
    PartsFrom L hs gs n params s → PartsFrom M hs gs n params s
unfolding PartsFrom
within-parts_from w hs gs n [] [] p = p
within-parts_from w hs gs n [] (a ∷ s) p = p
within-parts_from w hs gs n (k ∷ ks) [] p = p
within-parts_from w hs gs n (kind.Lifetime ∷ ks) (a ∷ s) p = (p.0, within-parts_from w hs gs (suc n) ks s p.1)
within-parts_from w hs gs n (kind.Ty ∷ ks) (a ∷ s) p = (within-part_among w n hs gs a p.0, within-parts_from w hs gs (suc n) ks s p.1)
within-parts_from w hs gs n (kind.Const ∷ ks) (a ∷ s) p = (within-part_among w n hs gs a p.0, within-parts_from w hs gs (suc n) ks s p.1)

-- all parameters stay known
pub within-all_known : {L M : Level} → IsWithin L M → (params : List ParamKind) (hs gs s : List Tree) → AllKnown L params hs gs s → AllKnown M params hs gs s
unfolding AllKnown
within-all_known w params hs gs s p = within-parts_from w hs gs 0 params s p

-- a header that fits given arguments
pub within-fits : {L M : Level} → IsWithin L M → (params : List ParamKind) (hs gs s : List Tree) → Fits L params hs gs s → Fits M params hs gs s
unfolding Fits
within-fits w params hs gs s p = (within-all_known w params hs gs s p.0, within-pairs w (map (under s) hs) gs p.1)

-- a header that cannot fit given arguments
pub within-clashes : {L M : Level} → IsWithin L M → (params : List ParamKind) (hs gs : List Tree) → Clashes L params hs gs → Clashes M params hs gs
unfolding Clashes
within-clashes {L} {M} w params hs gs p =
    some_pair-map (w.clash (Known L params hs gs) (Known M params hs gs) (within-known w params hs gs)) hs gs p
