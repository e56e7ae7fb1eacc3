-- The head form of a term in a context: what is found, and what is answered.
use Rattle.std.proofs.Common.{◌≡◌, ◌<◌, Bool, true, false, List, length, None, Result, Ok, refl, sym, ap, ◌∙◌, subst}
use Rattle.std.proofs.lemmas.Bool.{false≢true}
use Rattle.std.specs.Prelude.{◌||◌, Option, IfOk, IfErr}
use Rattle.goal_terms.specs.Erased.{erased}
use Rattle.goal_terms.specs.NodeTests.{is_any_infer, some_node}
use Rattle.goal_terms.specs.Sorts.{IsTerm, is_term_sort}
use Rattle.goal_interner.specs.TableMeaning.{tree_at, HasTerm}
use Rattle.goal_terms.specs.Tree.{Tree, node, alias, variable, node_of}
use Rattle.goal_terms.specs.declared.predicates.Clause.{Clause}
use Rattle.goal_interner.specs.declared.term_nodes.TermId.{TermId}
use Rattle.goal_terms.specs.declared.terms.Term.{Term}
use Rattle.goal_tables.specs.Predicates.{some_in_env}
use Rattle.goal_infer.specs.Following.{sort_at}
use Rattle.goal_infer.specs.Unification.{is_alias}
use Rattle.goal_lists.specs.Interned.{erased_at}
use Rattle.goal_lists.specs.Laws.{IsConsistent}
use Rattle.goal_lists.specs.Level.{Level, HasHeadForm}
use Rattle.goal_kinds.specs.declared.faults.Fault.{Fault}
use Rattle.goal_kinds.specs.declared.faults.Fault.TheVariants as fault
use Rattle.goal_lists.proofs.EqualLemmas.{one_head_form, no_head_form_refuted}
use Rattle.goal_solver.specs.HeadForms.{IsClosedForm, IsFormOpen, IsAnswered, IsFormUnfound}
use Rattle.goal_eval.specs.declared.eval.outcomes.Found.TheVariants as found
use Rattle.goal_solver.proofs.FoundAnswers.{is_term, sort-erased}
use Rattle.goal_solver.proofs.SettledLemmas.{closed-erased}

-- a term that is no alias is its own head form
pub form-itself : (L : Level) (t : Tree) → is_alias (node_of t) ≡ false → HasHeadForm L t t
unfolding HasHeadForm
form-itself L (node h ts) e = refl
form-itself L (alias k ts) e = absurd (cc)
form-itself L (variable v) e = refl

-- a tree is an alias where it is one without its lifetimes
pub alias-erased : (t : Tree) → is_alias (node_of (erased t)) ≡ is_alias (node_of t)
unfolding erased
alias-erased (node h ts) = refl
alias-erased (alias k ts) = refl
alias-erased (variable v) = refl

pub ruleset forms = (alias-erased, closed-erased)

-- a term with its bindings followed is a term
pub followed-term : (T U : List Tree) (id r : TermId) → r.0 < length U → sort_at U r ≡ sort_at T id → IsTerm (tree_at T id) → HasTerm U r
followed-term T U id r l e h = (l, ap is_term_sort e ∙ h)

-- where a term is found that is no alias, it is its own head form
pub found-itself : (L : Level) (t : Tree) (T : List Tree) (id : TermId) → erased_at T id ≡ t → is_alias (node_of (erased_at T id)) ≡ false → HasHeadForm L t (erased_at T id)
found-itself L t T id e f = subst (HasHeadForm L t) (sym e) (form-itself L t (ap (λ x. is_alias (node_of x)) (sym e) ∙ f))

-- what is closed isn't passed by as open
pub open-unfound : (L : Level) (t : Tree) (T : List Tree) (id : TermId) (env : List Clause) (b : Bool) → erased_at T id ≡ t → b ≡ (some_node is_any_infer (erased_at T id) || some_in_env is_any_infer env) → b ≡ true →
    IsClosedForm t env → IsFormUnfound L t found.Undecided
open-unfound L t T id env b e f g h = absurd (false≢true (sym h ∙ ap (λ x. some_node is_any_infer x || some_in_env is_any_infer env) (sym e) ∙ sym f ∙ g))

-- what is answered of the term of a number
abbrev pub AnswersAt : List Tree → TermId → Result (Option Term) Fault → Type 0
AnswersAt T id r =
    (HasTerm T id → IfOk r (IsAnswered (erased_at T id)))
    × ((HasTerm T id → ⊥) → IfOk r (λ o. o ≡ None))
    × IfErr r (λ f. f ≡ fault.OutOfMemory)

-- it is left open only where no type or constant is the head form
open-by : (L : Level) → IsConsistent L → (t : Tree) (T : List Tree) (id : TermId) → id.0 < length T → HasHeadForm L t (erased_at T id) → (r : Result (Option Term) Fault) → AnswersAt T id r →
    r ≡ Ok None → (b : Bool) → is_term (tree_at T id) ≡ b → IsFormOpen L t
unfolding is_term
open-by L consistent t T id l h r a e true i = absurd (subst (λ x. IfOk x (IsAnswered (erased_at T id))) e (a.0 (l, i)))
open-by L consistent t T id l h r a e false i = (
  (λ u n g.
      let same : u ≡ erased_at T id = one_head_form L consistent.one_term t u (erased_at T id) g h in
      false≢true (sym i ∙ sym (ap is_term_sort (sort-erased (tree_at T id))) ∙ subst IsTerm same n)),
  (λ g. no_head_form_refuted L consistent.no_term_refuted t (erased_at T id) h g),
)

pub found-left_open : (L : Level) → IsConsistent L → (t : Tree) (T : List Tree) (id : TermId) → id.0 < length T → HasHeadForm L t (erased_at T id) → (r : Result (Option Term) Fault) → AnswersAt T id r →
    r ≡ Ok None → IsFormOpen L t
found-left_open L consistent t T id l h r a e = open-by L consistent t T id l h r a e (is_term (tree_at T id)) refl

-- where nothing is found, no type and no constant is
pub unfound-open : (L : Level) (t : Tree) → IsFormUnfound L t found.Undecided → IsFormOpen L t
unfound-open L t h = ((λ u n g. h.0 u g), h.1)
