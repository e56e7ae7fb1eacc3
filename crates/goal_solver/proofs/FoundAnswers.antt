-- What is found of an alias answers the goal that normalizes it.
use Rattle.std.proofs.Common.{◌≡◌, ◌<◌, ℕ, Bool, true, false, List, length, Some, Result, Ok, Err, refl, sym, ap, ◌∙◌, subst}
use Rattle.std.proofs.lemmas.Bool.{false≢true}
use Rattle.std.specs.Prelude.{IfOk, IsOkUnless}
use Rattle.goal_terms.specs.Erased.{erased, erased_head}
use Rattle.goal_terms.specs.Sorts.{IsTerm, is_term_sort, sort_of, sort_of_head}
use Rattle.goal_interner.specs.TableMeaning.{tree_at, HasTerm}
use Rattle.goal_terms.specs.Tree.{Tree, node, alias, variable, node_of}
use Rattle.goal_terms.specs.declared.answers.Certainty.TheVariants as certainty
use Rattle.goal_terms.specs.declared.answers.Response.{Response}
use Rattle.goal_terms.specs.declared.heads.Head.{Head}
use Rattle.goal_terms.specs.declared.heads.Head.TheVariants.{Ref, FnPtr, Dynamic, Lifetime}
use Rattle.goal_interner.specs.declared.term_nodes.TermId.{TermId}
use Rattle.goal_terms.specs.declared.terms.AliasTermKind.{AliasTermKind}
use Rattle.goal_terms.specs.declared.terms.Term.{Term}
use Rattle.goal_lists.specs.Interned.{erased_at}
use Rattle.goal_lists.specs.Laws.{IsConsistent}
use Rattle.goal_lists.specs.Level.{Level}
use Rattle.goal_solver.specs.Answers.{GivesTo, expected_variable, IsAliasResponse, IsAliasAnswer, IsAliasOpen, IsMaybe}
use Rattle.goal_kinds.specs.declared.faults.Fault.{Fault}
use Rattle.goal_kinds.specs.declared.faults.Fault.TheVariants as fault

-- a term's sort doesn't depend on its lifetimes
head_sort-erased : (h : Head) → sort_of_head (erased_head h) ≡ sort_of_head h
head_sort-erased (Ref r m) = refl
head_sort-erased (FnPtr b n q) = refl
head_sort-erased (Dynamic n r) = refl
head_sort-erased (Lifetime r) = refl
head_sort-erased h = refl

pub sort-erased : (t : Tree) → sort_of (node_of (erased t)) ≡ sort_of (node_of t)
unfolding erased
sort-erased (node h ts) = head_sort-erased h
sort-erased (alias k ts) = refl
sort-erased (variable v) = refl

-- whether a term is a type or a constant
unfoldable pub is_term : Tree → Bool
is_term t = is_term_sort (sort_of (node_of t))

-- what the answer says where what is found is a type or a constant, and where it isn't
abbrev pub AnswersFound : List Tree → TermId → ℕ → Result Response Fault → Type 0
AnswersFound T id n r =
    (HasTerm T id → IfOk r (λ x. (x.certainty ≡ certainty.Yes) × GivesTo n (erased_at T id) x))
    × ((HasTerm T id → ⊥) → IfOk r (λ x. x.certainty ≡ certainty.Maybe))
    × IsOkUnless r fault.OutOfMemory

-- the answer is justified
sound-by : (L : Level) (k : AliasTermKind) (ts : List Tree) (e : Term) (T : List Tree) (id : TermId) (n : ℕ) → expected_variable e ≡ Some n → id.0 < length T →
    L.gives k ts (erased_at T id) → (r : Result Response Fault) → AnswersFound T id n r → (b : Bool) → is_term (tree_at T id) ≡ b → IsAliasAnswer L k ts e r
unfolding is_term
sound-by L k ts e T id n expected l given (Ok x) a true i =
    let yes : (x.certainty ≡ certainty.Yes) × GivesTo n (erased_at T id) x = a.0 (l, i) in
    subst (λ c. IsAliasResponse L k ts e c x) (sym yes.0) (erased_at T id, given, (n, expected, yes.1))
sound-by L k ts e T id n expected l given (Ok x) a false i =
    subst (λ c. IsAliasResponse L k ts e c x) (sym (a.1 (λ h. false≢true (sym i ∙ h.1)))) tt
sound-by L k ts e T id n expected l given (Err f) a b i = subst (λ g. IsAliasAnswer L k ts e (Err g)) (sym a.2) tt

pub found-sound : (L : Level) (k : AliasTermKind) (ts : List Tree) (e : Term) (T : List Tree) (id : TermId) (n : ℕ) → expected_variable e ≡ Some n → id.0 < length T →
    L.gives k ts (erased_at T id) → (r : Result Response Fault) → AnswersFound T id n r → IsAliasAnswer L k ts e r
found-sound L k ts e T id n expected l given r a = sound-by L k ts e T id n expected l given r a (is_term (tree_at T id)) refl

-- it is undecided only where no type or constant is the alias's term
not_maybe : certainty.Yes ≡ certainty.Maybe → ⊥
not_maybe e = absurd (cc)

open-by : (L : Level) (k : AliasTermKind) (ts : List Tree) → ((t u : Tree) → L.gives k ts t → L.gives k ts u → t ≡ u) → ((t : Tree) → L.gives k ts t → L.gives_refuted k ts → ⊥) →
    (T : List Tree) (id : TermId) (n : ℕ) → id.0 < length T →
    L.gives k ts (erased_at T id) → (r : Result Response Fault) → AnswersFound T id n r → IsMaybe r → (b : Bool) → is_term (tree_at T id) ≡ b → IsAliasOpen L k ts
unfolding is_term
open-by L k ts one no_refuted T id n l given (Ok x) a undecided true i = absurd (not_maybe (sym (a.0 (l, i)).0 ∙ undecided))
open-by L k ts one no_refuted T id n l given (Ok x) a undecided false i = (
  (λ t h g.
      let same : t ≡ erased_at T id = one t (erased_at T id) g given in
      false≢true (sym i ∙ sym (ap is_term_sort (sort-erased (tree_at T id))) ∙ subst IsTerm same h)),
  (λ g. no_refuted (erased_at T id) given g),
)
open-by L k ts one no_refuted T id n l given (Err f) a undecided b i = absurd undecided

-- so it is where an alias has one term, and isn't refuted then
pub found-open_of_one : (L : Level) (k : AliasTermKind) (ts : List Tree) → ((t u : Tree) → L.gives k ts t → L.gives k ts u → t ≡ u) →
    ((t : Tree) → L.gives k ts t → L.gives_refuted k ts → ⊥) → (T : List Tree) (id : TermId) (n : ℕ) → id.0 < length T →
    L.gives k ts (erased_at T id) → (r : Result Response Fault) → AnswersFound T id n r → IsMaybe r → IsAliasOpen L k ts
found-open_of_one L k ts one no_refuted T id n l given r a undecided = open-by L k ts one no_refuted T id n l given r a undecided (is_term (tree_at T id)) refl

pub found-open : (L : Level) → IsConsistent L → (k : AliasTermKind) (ts : List Tree) (T : List Tree) (id : TermId) (n : ℕ) → id.0 < length T →
    L.gives k ts (erased_at T id) → (r : Result Response Fault) → AnswersFound T id n r → IsMaybe r → IsAliasOpen L k ts
found-open L consistent k ts = found-open_of_one L k ts (consistent.one_term k ts) (consistent.no_term_refuted k ts)
