-- The numbers of a goal's terms.
use Rattle.std.proofs.Common.{◌≡◌, ◌≤◌, ◌<◌, ◌+◌, ℕ, List, [], ◌∷◌, ◌++◌, length, map, take, Some, refl, ap, ◌∙◌, sym, subst}
use Rattle.std.proofs.lemmas.List.{take_all}
use Rattle.std.proofs.lemmas.List.Elements.{All-push}
use Rattle.std.proofs.lemmas.Option.{slice_get-map}
use Rattle.std.specs.Option.{option_map}
use Rattle.std.specs.Prelude.{slice_get, Bool, true, false, IsTrue, if◌then◌else◌}
use Rattle.goal_terms.specs.Erased.{erased}
use Rattle.goal_terms.specs.Sorts.{IsArgument, is_term_sort, is_argument_sort, sort_of}
use Rattle.goal_interner.specs.TableMeaning.{tree_at, Keeps}
use Rattle.goal_terms.specs.Tree.{Tree, node_of}
use Rattle.goal_terms.specs.TreeOf.{is_type_kind, tree_of_arg, tree_of_alias, tree_of_term, trees_of}
use Rattle.goal_terms.specs.declared.sorts.Sort.{Sort}
use Rattle.goal_terms.specs.declared.sorts.Sort.TheVariants as sorts
use Rattle.goal_interner.specs.declared.term_nodes.TermId.{TermId}
use Rattle.goal_terms.specs.declared.terms.AliasTerm.{AliasTerm}
use Rattle.goal_terms.specs.declared.terms.GenericArg.{GenericArg}
use Rattle.goal_terms.specs.declared.terms.Term.{Term}
use Rattle.goal_interner.proofs.InternLemmas.{trees-pushed, keeps-chain}
use Rattle.goal_terms.proofs.TreeLemmas.{tree_of_alias-record}
use Rattle.goal_terms.proofs.SortLemmas.{arg_sort, term_sort}
use Rattle.goal_lists.specs.Interned.{erased_at, erased_all, IsIn, AreIn}
use Rattle.goal_lists.proofs.InternedLemmas.{are_in-grown, in-grown}
use Rattle.goal_lists.proofs.UnderLemmas.{are_in-below}
use Rattle.goal_eval.specs.ErasedArgs.{erased_args}

-- the arguments so far have their numbers
abbrev pub AreInterned : List Tree → List Tree → List TermId → List GenericArg → ℕ → Type 0
AreInterned T U ids args i = Keeps T U × AreIn U ids × (map (tree_at U) ids ≡ take i (trees_of args))

-- so has one more
pub interned-next : (T U V : List Tree) (ids after : List TermId) (id : TermId) (args : List GenericArg) (i : ℕ) (a : GenericArg) → AreInterned T U ids args i → Keeps U V →
    id.0 < length V → tree_at V id ≡ tree_of_arg a → slice_get args i ≡ Some a → after ≡ ids ++ id ∷ [] → AreInterned T V after args (i + 1)
interned-next T U V ids after id args i a so_far k l e at f =
    let here : IsIn V id = (l, subst IsArgument (sym e) (arg_sort a)) in
    let place : slice_get (trees_of args) i ≡ Some (tree_of_arg a) = slice_get-map tree_of_arg args i ∙ ap (option_map tree_of_arg) at in
    subst (λ (xs : List TermId). AreInterned T V xs args (i + 1)) (sym f) (
      keeps-chain T U V so_far.0 k,
      All-push (IsIn V) ids id (are_in-grown U V k ids so_far.1) here,
      trees-pushed U V ids id (trees_of args) i (tree_of_arg a) k (are_in-below U ids so_far.1) so_far.2 e place,
    )

-- the numbers' terms without lifetimes
erased_all-map : (T : List Tree) (ids : List TermId) → erased_all T ids ≡ map erased (map (tree_at T) ids)
erased_all-map T [] = refl
erased_all-map T (id ∷ ids) = ap (λ ts. erased_at T id ∷ ts) (erased_all-map T ids)

-- all arguments have their numbers
pub interned-all : (T U : List Tree) (ids : List TermId) (args : List GenericArg) (i : ℕ) → AreInterned T U ids args i → length (trees_of args) ≤ i → erased_all U ids ≡ erased_args args
interned-all T U ids args i so_far l = erased_all-map U ids ∙ ap (map erased) (so_far.2 ∙ take_all i (trees_of args) l)

-- a term that makes an argument
pub is_argument-term : (s : Sort) → IsTrue (is_term_sort s) → IsTrue (is_argument_sort s)
is_argument-term sorts.Ty h = refl
is_argument-term sorts.Const h = refl
is_argument-term sorts.Lifetime h = absurd (cc)
is_argument-term sorts.Clause h = absurd (cc)

-- an alias makes an argument
kind_is_argument : (b : Bool) → IsTrue (is_argument_sort (if b then sorts.Ty else sorts.Const))
kind_is_argument true = refl
kind_is_argument false = refl

alias_is_argument : (a : AliasTerm) → IsArgument (tree_of_alias a)
alias_is_argument a = subst IsArgument (sym (tree_of_alias-record a)) (kind_is_argument (is_type_kind a.kind))

-- an alias, and after it a term, have their numbers
pub equation-interned : (U V : List Tree) (a b : TermId) (x : AliasTerm) (y : Term) → a.0 < length U → tree_at U a ≡ tree_of_alias x → Keeps U V → b.0 < length V →
    tree_at V b ≡ tree_of_term y → IsIn V a × IsIn V b
equation-interned U V a b x y l e k m f =
    let first : IsIn U a = (l, subst IsArgument (sym e) (alias_is_argument x)) in
    (in-grown U V k a first, (m, subst IsArgument (sym f) (is_argument-term (sort_of (node_of (tree_of_term y))) (term_sort y))))

-- two terms, one after the other, have their numbers
pub pair-interned : (U V : List Tree) (a b : TermId) (x y : Term) → a.0 < length U → tree_at U a ≡ tree_of_term x → Keeps U V → b.0 < length V →
    tree_at V b ≡ tree_of_term y → (IsIn V a × IsIn V b) × (tree_at V a ≡ tree_of_term x)
pair-interned U V a b x y l e k m f =
    let term : (t : Term) → IsArgument (tree_of_term t) = λ t. is_argument-term (sort_of (node_of (tree_of_term t))) (term_sort t) in
    let first : IsIn U a = (l, subst IsArgument (sym e) (term x)) in
    ((in-grown U V k a first, (m, subst IsArgument (sym f) (term y))), k.same a l ∙ e)
