-- The head forms of terms with numbers.
use Rattle.std.proofs.Common.{◌≡◌, ◌<◌, ℕ, List, [], ◌∷◌, map, length, IfOk, Result, refl, sym, ap, ◌∙◌, subst, arith}
use Rattle.std.specs.List.{All}
use Rattle.std.proofs.lemmas.List.Elements.{All-head, All-tail, All-cons, All-nil}
use Rattle.goal_terms.specs.Erased.{erased, erased_row}
use Rattle.goal_terms.specs.Sorts.{IsArgument, Fits}
use Rattle.goal_interner.specs.TableMeaning.{tree_at, AreBelow}
use Rattle.goal_terms.specs.Tree.{Tree, Trees, none, more, node, alias, variable, node_of, parts_of, list_of}
use Rattle.goal_terms.specs.declared.heads.Node.{Node}
use Rattle.goal_terms.specs.declared.heads.Node.TheVariants as nodes
use Rattle.goal_interner.specs.declared.term_nodes.TermId.{TermId}
use Rattle.goal_terms.specs.declared.terms.AliasTermKind.{AliasTermKind}
use Rattle.goal_lists.specs.Interned.{erased_at, erased_all, IsIn, AreIn}
use Rattle.goal_lists.specs.Level.{Level, HasHeadForm, HeadFormRefuted}
use Rattle.goal_eval.specs.Outcomes.{SaysWhich}
use Rattle.goal_eval.specs.declared.eval.outcomes.Found.{Found}
use Rattle.goal_eval.specs.declared.eval.outcomes.Stop.{Stop}

-- the parts of a term without lifetimes
list_of-erased : (ts : Trees) → list_of (erased_row ts) ≡ map erased (list_of ts)
unfolding erased_row
list_of-erased none = refl
list_of-erased (more t ts) = ap (λ us. erased t ∷ us) (list_of-erased ts)

-- the terms of some numbers, without lifetimes
pub erased_all-trees : (T : List Tree) (ids : List TermId) → erased_all T ids ≡ map erased (map (tree_at T) ids)
erased_all-trees T [] = refl
erased_all-trees T (id ∷ ids) = ap (λ us. erased_at T id ∷ us) (erased_all-trees T ids)

-- each term that isn't an alias is its own head form
pub own_form : (L : Level) (t : Tree) → ((k : AliasTermKind) → node_of t ≡ nodes.Alias k → ⊥) → HasHeadForm L (erased t) (erased t)
unfolding HasHeadForm erased
own_form L (node h ts) other = refl
own_form L (alias k ts) other = absurd (other k refl)
own_form L (variable v) other = refl

-- what is found of an alias, its arguments being numbers
pub alias_found : (L : Level) (k : AliasTermKind) (t : Tree) (T U : List Tree) (ids parts : List TermId) (r : Result Found Stop) →
    node_of t ≡ nodes.Alias k → map (tree_at T) parts ≡ parts_of t → ids ≡ parts →
    IfOk r (SaysWhich (L.gives k (erased_all T ids)) (L.gives_refuted k (erased_all T ids)) U) →
    IfOk r (SaysWhich (HasHeadForm L (erased t)) (HeadFormRefuted L (erased t)) U)
unfolding HasHeadForm HeadFormRefuted erased
alias_found L k (node w ts) T U ids parts r e trees same h = absurd (cc)
alias_found L k (alias j ts) T U ids parts r e trees same h =
    let args : erased_all T ids ≡ list_of (erased_row ts) =
    erased_all-trees T ids ∙ ap (λ xs. map erased (map (tree_at T) xs)) same ∙ ap (map erased) trees ∙ sym (list_of-erased ts) in
    let one : k ≡ j = cc in
    let moved : IfOk r (SaysWhich (L.gives k (list_of (erased_row ts))) (L.gives_refuted k (list_of (erased_row ts))) U) =
    subst (λ us. IfOk r (SaysWhich (L.gives k us) (L.gives_refuted k us) U)) args h in
    subst (λ i. IfOk r (SaysWhich (L.gives i (list_of (erased_row ts))) (L.gives_refuted i (list_of (erased_row ts))) U)) one moved
alias_found L k (variable v) T U ids parts r e trees same h = absurd (cc)

-- numbers of arguments are in the table
all_in : (T : List Tree) (n : ℕ) → n < length T → (ids : List TermId) → AreBelow n ids → All IsArgument (map (tree_at T) ids) → AreIn T ids
all_in T n below [] earlier all = All-nil (IsIn T)
all_in T n below (id ∷ ids) earlier all =
    All-cons (IsIn T) id ids
    (omega (arith, All-head (λ x. x.0 < n) id ids earlier, below), All-head IsArgument (tree_at T id) (map (tree_at T) ids) all)
    (all_in T n below ids (All-tail (λ x. x.0 < n) id ids earlier) (All-tail IsArgument (tree_at T id) (map (tree_at T) ids) all))

-- the arguments of an alias are in the table
pub parts_in : (T : List Tree) (ids parts : List TermId) (k : AliasTermKind) (n : ℕ) (t : Tree) (x : Node) → n < length T → AreBelow n parts →
    x ≡ nodes.Alias k → Fits x (parts_of t) → map (tree_at T) parts ≡ parts_of t → ids ≡ parts → AreIn T ids
parts_in T ids parts k n t x below earlier is fits trees same =
    let all : All IsArgument (parts_of t) = subst (λ y. Fits y (parts_of t)) is fits in
    subst (AreIn T) (sym same) (all_in T n below parts earlier (subst (All IsArgument) (sym trees) all))
