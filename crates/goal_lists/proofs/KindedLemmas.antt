-- In terms whose constructors have parts of their kinds, only heads can differ.
use Rattle.std.proofs.Common.{◌≡◌, Bool, true, false, ◌&&◌, List, [], ◌∷◌, refl, sym, ap, ◌∙◌}
use Rattle.std.specs.Prelude.{if◌then◌else◌}
use Rattle.goal_terms.specs.Erased.{erased_head, compared_node}
use Rattle.goal_terms.specs.SameLaws.{same_node-true}
use Rattle.goal_terms.specs.SameTree.{same_node}
use Rattle.goal_terms.specs.Tree.{Tree, Trees, node, alias, variable, none, more, list_of}
use Rattle.goal_terms.specs.declared.answers.ParamKind.{ParamKind}
use Rattle.goal_terms.specs.declared.compare.Regions.TheVariants.{Forgotten}
use Rattle.goal_terms.specs.declared.heads.Head.{Head}
use Rattle.goal_terms.specs.declared.heads.Node.TheVariants as nodes
use Rattle.goal_lists.specs.FastReject.{is_open, agree, row_agrees, lists_agree, have_same_kind, lists_may_unify, heads_agree}
use Rattle.goal_lists.specs.KindedTerms.{kinds_of_terms, IsKinded, RowIsKinded}
use Rattle.goal_lists.specs.Words.{Each}
use Rattle.goal_lists.specs.declared.fast_reject.Parameters.{Parameters}
use Rattle.goal_lists.proofs.KindOfTermLemmas.{kind_of_term, same_kind-refl}
use Rattle.goal_lists.proofs.OtherHeadLemmas.{any_two}

-- two tests are the same after one that they follow
same_after : (s a b : Bool) → (s ≡ true → a ≡ b) → s && a ≡ s && b
same_after true a b f = f refl
same_after false a b f = refl

-- and beside one that passes
same_beside : (o c a b : Bool) → c ≡ true → a ≡ b → (if o then c else a) ≡ (if o then true else b)
same_beside true c a b e f = e
same_beside false c a b e f = f

same_both : (a b c d : Bool) → a ≡ c → b ≡ d → a && b ≡ c && d
same_both a b c d e f = ap (λ x. x && b) e ∙ ap (λ x. c && x) f

-- constructors that are the same nodes take parts of the same kinds
same_kinds : (kinds : Head → List ParamKind) (h k : Head) (ts us : Trees) →
    kinds_of_terms (list_of ts) ≡ kinds (erased_head h) → kinds_of_terms (list_of us) ≡ kinds (erased_head k) →
    same_node (compared_node Forgotten (nodes.Head h)) (compared_node Forgotten (nodes.Head k)) ≡ true →
    kinds_of_terms (list_of ts) ≡ kinds_of_terms (list_of us)
same_kinds kinds h k ts us e f s =
    let same : nodes.Head (erased_head h) ≡ nodes.Head (erased_head k) = same_node-true (nodes.Head (erased_head h)) (nodes.Head (erased_head k)) s in
    let heads : erased_head h ≡ erased_head k = cc in
    e ∙ ap kinds heads ∙ sym f

mutual
  unfolding agree is_open IsKinded

  -- terms of one kind whose parts are of their kinds agree, if their heads do
  kinded_agree : (kinds : Head → List ParamKind) (p : Parameters) (t u : Tree) → IsKinded kinds t → IsKinded kinds u → kind_of_term t ≡ kind_of_term u →
      agree have_same_kind p t u ≡ agree any_two p t u
  kinded_agree kinds p (node h ts) (node k us) x y e =
      same_beside (is_open p (nodes.Head k)) (have_same_kind (nodes.Head h) (nodes.Head k))
      (same_node (compared_node Forgotten (nodes.Head h)) (compared_node Forgotten (nodes.Head k)) && row_agrees have_same_kind p ts (list_of us))
      (same_node (compared_node Forgotten (nodes.Head h)) (compared_node Forgotten (nodes.Head k)) && row_agrees any_two p ts (list_of us))
      (same_kind-refl (kind_of_term (node h ts)) (kind_of_term (node k us)) e)
      (same_after (same_node (compared_node Forgotten (nodes.Head h)) (compared_node Forgotten (nodes.Head k)))
      (row_agrees have_same_kind p ts (list_of us)) (row_agrees any_two p ts (list_of us))
      (λ s. row_kinded_agree kinds p ts us x.1 y.1 (same_kinds kinds h k ts us x.0 y.0 s)))
  kinded_agree kinds p (node h ts) (alias k us) x y e = same_kind-refl (kind_of_term (node h ts)) (kind_of_term (alias k us)) e
  kinded_agree kinds p (node h ts) (variable w) x y e = same_kind-refl (kind_of_term (node h ts)) (kind_of_term (variable w)) e
  kinded_agree kinds p (alias k ts) u x y e = same_kind-refl (kind_of_term (alias k ts)) (kind_of_term u) e
  kinded_agree kinds p (variable v) u x y e = same_kind-refl (kind_of_term (variable v)) (kind_of_term u) e

  row_kinded_agree : (kinds : Head → List ParamKind) (p : Parameters) (ts us : Trees) → RowIsKinded kinds ts → RowIsKinded kinds us →
      kinds_of_terms (list_of ts) ≡ kinds_of_terms (list_of us) → row_agrees have_same_kind p ts (list_of us) ≡ row_agrees any_two p ts (list_of us)
  row_kinded_agree kinds p none none x y e = refl
  row_kinded_agree kinds p none (more u us) x y e = refl
  row_kinded_agree kinds p (more t ts) none x y e = refl
  row_kinded_agree kinds p (more t ts) (more u us) x y e =
      let first : kind_of_term t ≡ kind_of_term u = cc in
      let rest : kinds_of_terms (list_of ts) ≡ kinds_of_terms (list_of us) = cc in
      same_both (agree have_same_kind p t u) (row_agrees have_same_kind p ts (list_of us)) (agree any_two p t u) (row_agrees any_two p ts (list_of us))
      (kinded_agree kinds p t u x.0 y.0 first) (row_kinded_agree kinds p ts us x.1 y.1 rest)

-- lists of such terms, of the same kinds, may become the same where no two heads differ
pub lists-kinded : (kinds : Head → List ParamKind) (p : Parameters) (ts us : List Tree) → Each (IsKinded kinds) ts → Each (IsKinded kinds) us →
    kinds_of_terms ts ≡ kinds_of_terms us → lists_may_unify p ts us ≡ heads_agree p ts us
unfolding lists_agree Each
lists-kinded kinds p [] [] x y e = refl
lists-kinded kinds p [] (u ∷ us) x y e = refl
lists-kinded kinds p (t ∷ ts) [] x y e = refl
lists-kinded kinds p (t ∷ ts) (u ∷ us) x y e =
    let first : kind_of_term t ≡ kind_of_term u = cc in
    let rest : kinds_of_terms ts ≡ kinds_of_terms us = cc in
    same_both (agree have_same_kind p t u) (lists_may_unify p ts us) (agree any_two p t u) (heads_agree p ts us)
    (kinded_agree kinds p t u x.0 y.0 first) (lists-kinded kinds p ts us x.1 y.1 rest)
