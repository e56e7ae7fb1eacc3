-- Bounds of rows under arguments, in a table that grows.
use Rattle.std.proofs.Common.{◌≡◌, List, ◌++◌, map, ap, ap₂, ◌∙◌, append_assoc}
use Rattle.goal_interner.specs.TableMeaning.{Keeps}
use Rattle.goal_terms.specs.Tree.{Tree}
use Rattle.goal_terms.specs.declared.predicates.Clause.{Clause}
use Rattle.goal_terms.specs.declared.predicates.TraitRef.{TraitRef}
use Rattle.goal_interner.specs.declared.term_nodes.TermId.{TermId}
use Rattle.goal_lists.specs.Candidates.{Candidate, implied_bound, bounds_under}
use Rattle.goal_lists.specs.Interned.{AreIn, erased_all, trait_at, TraitIn}
use Rattle.goal_lists.specs.Premises.{trait_under, traits_under}
use Rattle.goal_lists.specs.declared.candidates.interned.InternedTrait.{InternedTrait}
use Rattle.goal_lists.proofs.InternedLemmas.{all_same-grown, trait_same-grown}

-- an implied bound and then its conditions
pub implied-under : (T M U : List Tree) (args : List TermId) → AreIn T args → Keeps T M → Keeps M U → (b : InternedTrait) (us : List InternedTrait) (r : TraitRef) (cs : List TraitRef) →
    TraitIn M b → trait_at M b ≡ trait_under (erased_all T args) r → map (trait_at U) us ≡ traits_under (erased_all M args) cs →
    implied_bound (trait_at U b) (map (trait_at U) us) ≡ implied_bound (trait_under (erased_all T args) r) (traits_under (erased_all T args) cs)
implied-under T M U args known before after b us r cs here first second =
    ap₂ implied_bound (trait_same-grown M U after b here ∙ first) (second ∙ ap (λ s. traits_under s cs) (all_same-grown T M before args known))

-- the bounds of a row and then its const bounds
pub both-bounds : (T M : List Tree) (args : List TermId) → AreIn T args → Keeps T M → (front mid all : List Candidate) (bounds : List Clause) →
    (more : List Tree → List Candidate) → mid ≡ front ++ bounds_under (erased_all T args) bounds → all ≡ mid ++ more (erased_all M args) →
    all ≡ front ++ (bounds_under (erased_all T args) bounds ++ more (erased_all T args))
both-bounds T M args known before front mid all bounds more first second =
    second ∙ ap₂ (λ cs s. cs ++ more s) first (all_same-grown T M before args known)
    ∙ append_assoc front (bounds_under (erased_all T args) bounds) (more (erased_all T args))
