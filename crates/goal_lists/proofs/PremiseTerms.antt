-- Terms of rows under arguments, in a table.
use Rattle.std.proofs.Common.{◌≡◌, ◌<◌, Bool, true, false, List, length, map, refl, ap, ap₂, ◌∙◌, sym, subst}
use Rattle.std.specs.Prelude.{Result, IfOk, if◌then◌else◌}
use Rattle.std.proofs.lemmas.Result.{IfOk-weaker}
use Rattle.goal_terms.specs.Erased.{erased}
use Rattle.goal_terms.specs.Folding.{instance}
use Rattle.goal_terms.specs.Sorts.{IsArgument, sort_of, is_term_sort, is_argument_sort}
use Rattle.goal_interner.specs.TableMeaning.{tree_at, Keeps}
use Rattle.goal_terms.specs.Tree.{Tree, node_of}
use Rattle.goal_terms.specs.TreeOf.{tree_of_alias, tree_of_term, is_type_kind}
use Rattle.goal_terms.specs.declared.sorts.Sort.{Sort}
use Rattle.goal_terms.specs.declared.sorts.Sort.TheVariants as sorts
use Rattle.goal_interner.specs.declared.term_nodes.OutOfMemory.{OutOfMemory}
use Rattle.goal_interner.specs.declared.term_nodes.TermId.{TermId}
use Rattle.goal_terms.specs.declared.terms.AliasTerm.{AliasTerm}
use Rattle.goal_terms.specs.declared.terms.Term.{Term}
use Rattle.goal_terms.specs.PredicateTrees.{equals}
use Rattle.goal_terms.proofs.SortLemmas.{term_sort}
use Rattle.goal_terms.proofs.TreeLemmas.{tree_of_alias-record}
use Rattle.goal_lists.specs.Headers.{under}
use Rattle.goal_lists.specs.Interned.{erased_at, erased_all, IsIn, AreIn}
use Rattle.goal_lists.proofs.GrowingLists.{if_ok-both}
use Rattle.goal_lists.proofs.InternedLemmas.{same-grown, all_same-grown}
use Rattle.goal_lists.proofs.UnderLemmas.{under-at, instance-argument, are_in-arguments}

-- the number of an instance of an argument is one of an argument
pub instance-in : (T U : List Tree) (args : List TermId) (t : Tree) → AreIn T args → IsArgument t → (r : Result TermId OutOfMemory) →
    IfOk r (λ id. id.0 < length U) → IfOk r (λ id. tree_at U id ≡ instance (map (tree_at T) args) t) → IfOk r (IsIn U)
instance-in T U args t known argument r within tree =
    if_ok-both (λ id. id.0 < length U) (λ id. tree_at U id ≡ instance (map (tree_at T) args) t) (IsIn U)
    (λ id below same. (below, subst IsArgument (sym same) (instance-argument (map (tree_at T) args) (are_in-arguments T args known) t argument)))
    r within tree

-- its tree without lifetimes
pub instance-erased : (T U : List Tree) (args : List TermId) (t : Tree) (r : Result TermId OutOfMemory) →
    IfOk r (λ id. tree_at U id ≡ instance (map (tree_at T) args) t) → IfOk r (λ id. erased_at U id ≡ under (erased_all T args) t)
instance-erased T U args t r tree =
    IfOk-weaker r (λ id. tree_at U id ≡ instance (map (tree_at T) args) t) (λ id. erased_at U id ≡ under (erased_all T args) t)
    (λ id same. ap erased same ∙ sym (under-at T args t)) tree

-- a type or a constant is an argument
term_sort-argument : (s : Sort) → is_term_sort s ≡ true → is_argument_sort s ≡ true
term_sort-argument sorts.Ty e = refl
term_sort-argument sorts.Const e = refl
term_sort-argument sorts.Lifetime e = absurd (cc)
term_sort-argument sorts.Clause e = absurd (cc)

pub term-argument : (t : Term) → IsArgument (tree_of_term t)
term-argument t = term_sort-argument (sort_of (node_of (tree_of_term t))) (term_sort t)

-- so is an alias
either_sort-argument : (b : Bool) → is_argument_sort (if b then sorts.Ty else sorts.Const) ≡ true
either_sort-argument true = refl
either_sort-argument false = refl

pub alias-argument : (a : AliasTerm) → IsArgument (tree_of_alias a)
alias-argument a = ap (λ t. is_argument_sort (sort_of (node_of t))) (tree_of_alias-record a) ∙ either_sort-argument (is_type_kind a.kind)

-- an alias and then a term, each under arguments
pub both-under : (I T U : List Tree) (args : List TermId) → AreIn I args → Keeps I T → Keeps T U → (a b : TermId) (t u v : Tree) → IsIn T a →
    erased_at T a ≡ under (erased_all I args) t → u ≡ v → erased_at U b ≡ under (erased_all T args) u →
    equals (erased_at U a) (erased_at U b) ≡ equals (under (erased_all I args) t) (under (erased_all I args) v)
both-under I T U args known before after a b t u v here first same second =
    ap₂ equals (same-grown T U after a here ∙ first) (second ∙ ap₂ under (all_same-grown I T before args known) same)
