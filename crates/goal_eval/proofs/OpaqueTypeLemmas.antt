-- What an opaque type that is being defined comes to, by its bounds and the head form of the type that type checking found.
use Rattle.std.proofs.Common.{◌≡◌, ◌++◌, ◌∷◌, [], List, inl, inr, sym, ap, ap₂, ◌∙◌, subst, ⊎_elim}
use Rattle.std.proofs.lemmas.List.{map-append}
use Rattle.std.proofs.lemmas.List.Elements.{All-append, All-nil, All-cons}
use Rattle.goal_interner.specs.TableMeaning.{Keeps}
use Rattle.goal_terms.specs.Tree.{Tree}
use Rattle.goal_terms.specs.TreeOf.{tree_of_ty}
use Rattle.goal_terms.specs.declared.predicates.Clause.{Clause}
use Rattle.goal_interner.specs.declared.term_nodes.TermId.{TermId}
use Rattle.goal_tables.specs.declared.rows.OpaqueRow.{OpaqueRow}
use Rattle.goal_lists.specs.Headers.{under}
use Rattle.goal_lists.specs.Aliases.{CheckedRefuted}
use Rattle.goal_lists.specs.HiddenTypes.{HaveForms, SomeLacksForm, HiddenGives, HiddenRefuted}
use Rattle.goal_lists.specs.Interned.{IsIn, AreIn, erased_at, erased_all}
use Rattle.goal_lists.specs.Laws.{IsConsistent}
use Rattle.goal_lists.specs.Level.{Level, HeadFormRefuted}
use Rattle.goal_lists.specs.Premises.{PremisesRefuted, clauses_under}
use Rattle.goal_lists.specs.declared.outcomes.Outcome.{Outcome}
use Rattle.goal_lists.specs.declared.outcomes.Outcome.TheVariants as outcome
use Rattle.goal_lists.proofs.EqualLemmas.{no_head_form_refuted}
use Rattle.goal_lists.proofs.HiddenLemmas.{forms-not_lacked}
use Rattle.goal_lists.proofs.InternedLemmas.{are_in-grown, all_same-grown}
use Rattle.goal_lists.proofs.PremiseLemmas.{no_premises_refuted}
use Rattle.goal_eval.specs.OpaqueTypes.{found_where, SaysChecked}
use Rattle.goal_eval.specs.Outcomes.{FoundIn, Says, SaysForm, SaysPremises}
use Rattle.goal_eval.specs.declared.eval.outcomes.Found.{Found}
use Rattle.goal_eval.specs.declared.eval.outcomes.Found.TheVariants as found

-- where its arguments don't all have head forms it is as undecided or refuted as they are
pub args-unformed : (L : Level) (args : List Tree) (r : OpaqueRow) (T : List Tree) → Says (HaveForms L args) (SomeLacksForm L args) outcome.Refuted → SaysChecked L args r T found.Refuted
unfolding HiddenRefuted
args-unformed L args r T h = inl h

pub args-undecided : (L : Level) (args : List Tree) (r : OpaqueRow) (T : List Tree) → Says (HaveForms L args) (SomeLacksForm L args) outcome.Undecided → SaysChecked L args r T found.Undecided
unfolding HiddenGives HiddenRefuted
args-undecided L args r T h = ((λ u x. h.0 x.0), (λ x. ⊎_elim (λ y. h.1 y) (λ y. h.0 y.0) x))

-- else it is what its bounds and the type come to
pub bounds-refuted : (L : Level) (args : List Tree) (r : OpaqueRow) (T : List Tree) → HaveForms L args →
    SaysPremises L (clauses_under (args ++ under args (tree_of_ty r.typeck_hidden) ∷ []) r.bounds.items) outcome.Refuted → SaysChecked L args r T found.Refuted
unfolding HiddenRefuted
bounds-refuted L args r T forms h = inr (forms, inl h)

not-refuted : (L : Level) → IsConsistent L → (args : List Tree) (r : OpaqueRow) → HaveForms L args →
    (PremisesRefuted L (clauses_under (args ++ under args (tree_of_ty r.typeck_hidden) ∷ []) r.bounds.items) → ⊥) → (HeadFormRefuted L (under args (tree_of_ty r.typeck_hidden)) → ⊥) →
    CheckedRefuted L args r → ⊥
unfolding HiddenRefuted
not-refuted L c args r forms b t x = ⊎_elim (λ y. forms-not_lacked L c args forms y) (λ y. ⊎_elim b t y.1) x

pub checked-says : (L : Level) → IsConsistent L → (args : List Tree) (r : OpaqueRow) (T : List Tree) (o : Outcome) (f : Found) → HaveForms L args →
    SaysPremises L (clauses_under (args ++ under args (tree_of_ty r.typeck_hidden) ∷ []) r.bounds.items) o → SaysForm L (under args (tree_of_ty r.typeck_hidden)) T f →
    SaysChecked L args r T (found_where o f)
unfolding HiddenGives HiddenRefuted
checked-says L c args r T outcome.Holds (found.Is id) forms h k = (forms, h, k)
checked-says L c args r T outcome.Holds found.Refuted forms h k = inr (forms, inr k)
checked-says L c args r T outcome.Holds found.Undecided forms h k = (
  (λ u x. k.0 u x.2),
  not-refuted L c args r forms (λ y. no_premises_refuted L c (clauses_under (args ++ under args (tree_of_ty r.typeck_hidden) ∷ []) r.bounds.items) h y) (λ y. k.1 y),
)
checked-says L c args r T outcome.Refuted f forms h k = inr (forms, inl h)
checked-says L c args r T outcome.Undecided (found.Is id) forms h k =
    ((λ u x. h.0 x.1), not-refuted L c args r forms (λ y. h.1 y) (λ y. no_head_form_refuted L c.no_term_refuted (under args (tree_of_ty r.typeck_hidden)) (erased_at T id) k y))
checked-says L c args r T outcome.Undecided found.Refuted forms h k = inr (forms, inr k)
checked-says L c args r T outcome.Undecided found.Undecided forms h k = ((λ u x. h.0 x.1), not-refuted L c args r forms (λ y. h.1 y) (λ y. k.1 y))

-- the bounds are asked under the arguments with the type behind them, in a table that has grown
behind-trees : (T U : List Tree) → Keeps T U → (ids all : List TermId) (id : TermId) (t : Tree) → AreIn T ids → all ≡ ids ++ id ∷ [] → erased_at U id ≡ t →
    erased_all U all ≡ erased_all T ids ++ t ∷ []
behind-trees T U k ids all id t within made is =
    ap (erased_all U) made ∙ map-append (erased_at U) ids (id ∷ []) ∙ ap₂ (λ xs x. xs ++ x ∷ []) (all_same-grown T U k ids within) is

pub bounds-say : (L : Level) (T U : List Tree) → Keeps T U → (args all : List TermId) (id : TermId) (r : OpaqueRow) (bs : List Clause) (o : Outcome) → AreIn T args → all ≡ args ++ id ∷ [] →
    erased_at U id ≡ under (erased_all T args) (tree_of_ty r.typeck_hidden) → bs ≡ r.bounds.items → SaysPremises L (clauses_under (erased_all U all) bs) o →
    SaysPremises L (clauses_under (erased_all T args ++ under (erased_all T args) (tree_of_ty r.typeck_hidden) ∷ []) r.bounds.items) o
bounds-say L T U k args all id r bs o within made is same h =
    subst (λ xs. SaysPremises L (clauses_under (erased_all T args ++ under (erased_all T args) (tree_of_ty r.typeck_hidden) ∷ []) xs) o) same
    (subst (λ ts. SaysPremises L (clauses_under ts bs) o) (behind-trees T U k args all id (under (erased_all T args) (tree_of_ty r.typeck_hidden)) within made is) h)

pub behind-in : (T U : List Tree) → Keeps T U → (args all : List TermId) (id : TermId) → AreIn T args → all ≡ args ++ id ∷ [] → IsIn U id → AreIn U all
behind-in T U k args all id within made here =
    subst (AreIn U) (sym made) (All-append (IsIn U) args (id ∷ []) (are_in-grown T U k args within) (All-cons (IsIn U) id [] here (All-nil (IsIn U))))

pub found_where-in : (T : List Tree) (o : Outcome) (f : Found) → FoundIn T f → FoundIn T (found_where o f)
found_where-in T outcome.Holds f h = h
found_where-in T outcome.Refuted f h = tt
found_where-in T outcome.Undecided (found.Is id) h = tt
found_where-in T outcome.Undecided found.Refuted h = tt
found_where-in T outcome.Undecided found.Undecided h = tt
