-- What an opaque type that is being defined stands for, at two levels, and over a consistent one.
use Rattle.std.proofs.Common.{◌≡◌, List, [], ◌∷◌, ◌++◌, ⊎_elim}
use Rattle.goal_terms.specs.Tree.{Tree}
use Rattle.goal_terms.specs.declared.predicates.Clause.{Clause}
use Rattle.goal_lists.specs.Headers.{under}
use Rattle.goal_lists.specs.HiddenTypes.{HaveForms, SomeLacksForm, HiddenGives, HiddenRefuted}
use Rattle.goal_lists.specs.Laws.{IsWithin, IsConsistent}
use Rattle.goal_lists.specs.Level.{Level, HasHeadForm}
use Rattle.goal_lists.specs.Premises.{clauses_under}
use Rattle.goal_lists.specs.declared.lists.FirstUse.{FirstUse}
use Rattle.goal_lists.specs.declared.lists.FirstUse.TheVariants as first
use Rattle.goal_lists.proofs.ContraryWords.{Exists-Each}
use Rattle.goal_lists.proofs.EqualLemmas.{one_head_form, no_head_form_refuted}
use Rattle.goal_lists.proofs.PremiseLemmas.{no_premises_refuted}
use Rattle.goal_lists.proofs.WithinPremises.{within-premises_hold, within-premises_refuted}
use Rattle.goal_lists.proofs.WithinTerms.{within-has_head_form, within-head_form_refuted}
use Rattle.goal_lists.proofs.WithinWords.{each-map, exists-map, sum-map}

-- what one level proves of it, a level proves that proves more
within-forms : {L M : Level} → IsWithin L M → (ts : List Tree) → HaveForms L ts → HaveForms M ts
within-forms {L} {M} w ts h =
    each-map {P = λ t. (f : Tree) × HasHeadForm L t f} {Q = λ t. (f : Tree) × HasHeadForm M t f} (λ t x. (x.0, within-has_head_form w t x.0 x.1)) ts h

pub within-hidden_gives : {L M : Level} → IsWithin L M → (f : FirstUse) (args : List Tree) (t : Tree) (bs : List Clause) (u : Tree) → HiddenGives L f args t bs u → HiddenGives M f args t bs u
unfolding HiddenGives
within-hidden_gives w first.Expected args t bs u h = h
within-hidden_gives w first.TypeChecked args t bs u h =
    (within-forms w args h.0, within-premises_hold w (clauses_under (args ++ under args t ∷ []) bs) h.1, within-has_head_form w (under args t) u h.2)

pub within-hidden_refuted : {L M : Level} → IsWithin L M → (f : FirstUse) (args : List Tree) (t : Tree) (bs : List Clause) → HiddenRefuted L f args t bs → HiddenRefuted M f args t bs
unfolding HiddenRefuted
within-hidden_refuted w first.Expected args t bs h = h
within-hidden_refuted w first.TypeChecked args t bs h =
    sum-map (exists-map (within-head_form_refuted w) args)
    (λ x. (within-forms w args x.0, sum-map (within-premises_refuted w (clauses_under (args ++ under args t ∷ []) bs)) (within-head_form_refuted w (under args t)) x.1)) h

-- it is one term
pub one_hidden_term : (L : Level) → IsConsistent L → (f : FirstUse) (args : List Tree) (t : Tree) (bs : List Clause) (u v : Tree) →
    HiddenGives L f args t bs u → HiddenGives L f args t bs v → u ≡ v
unfolding HiddenGives
one_hidden_term L c first.Expected args t bs u v h k = absurd h
one_hidden_term L c first.TypeChecked args t bs u v h k = one_head_form L c.one_term (under args t) u v h.2 k.2

-- and isn't refuted then
pub forms-not_lacked : (L : Level) → IsConsistent L → (ts : List Tree) → HaveForms L ts → SomeLacksForm L ts → ⊥
forms-not_lacked L c ts h k = Exists-Each _ _ (λ t x y. no_head_form_refuted L c.no_term_refuted t y.0 y.1 x) ts k h

pub no_hidden_refuted : (L : Level) → IsConsistent L → (f : FirstUse) (args : List Tree) (t : Tree) (bs : List Clause) (u : Tree) →
    HiddenGives L f args t bs u → HiddenRefuted L f args t bs → ⊥
unfolding HiddenGives HiddenRefuted
no_hidden_refuted L c first.Expected args t bs u h k = h
no_hidden_refuted L c first.TypeChecked args t bs u h k =
    ⊎_elim (λ x. forms-not_lacked L c args h.0 x)
    (λ x. ⊎_elim (λ y. no_premises_refuted L c (clauses_under (args ++ under args t ∷ []) bs) h.1 y) (λ y. no_head_form_refuted L c.no_term_refuted (under args t) u h.2 y) x.1) k
