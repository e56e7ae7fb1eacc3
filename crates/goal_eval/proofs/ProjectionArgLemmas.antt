-- The arguments of projections in a table of terms.
use Rattle.std.proofs.Common.{◌≡◌, ℕ, List, [], ◌∷◌, map, refl, sym, ap, ◌∙◌, subst}
use Rattle.std.specs.List.{All}
use Rattle.std.proofs.lemmas.List.Elements.{All-map}
use Rattle.goal_terms.specs.Erased.{erased, erased_row}
use Rattle.goal_terms.specs.Sorts.{IsArgument}
use Rattle.goal_interner.specs.TableMeaning.{tree_at}
use Rattle.goal_terms.specs.Tree.{Tree, Trees, node, alias, none, more, forest, list_of}
use Rattle.goal_terms.specs.declared.heads.Head.TheVariants as head
use Rattle.goal_terms.specs.declared.ids.TraitId.{TraitId}
use Rattle.goal_interner.specs.declared.term_nodes.TermId.{TermId}
use Rattle.goal_terms.specs.declared.terms.AliasTermKind.{AliasTermKind}
use Rattle.goal_lists.specs.Interned.{erased_at, erased_all, AreIn}
use Rattle.goal_eval.specs.ProjectionParts.{rest_of}

-- the parts of a term without lifetimes
list_of-erased : (ts : Trees) → list_of (erased_row ts) ≡ map erased (list_of ts)
unfolding erased
list_of-erased none = refl
list_of-erased (more t ts) = ap (λ xs. erased t ∷ xs) (list_of-erased ts)

forest-erased : (ts : List Tree) → erased_row (forest ts) ≡ forest (map erased ts)
unfolding erased
forest-erased [] = refl
forest-erased (t ∷ ts) = ap (more (erased t)) (forest-erased ts)

-- two maps one after the other
map-map : {A B C : Type 0} (f : A → B) (g : B → C) (xs : List A) → map g (map f xs) ≡ map (λ x. g (f x)) xs
map-map f g [] = refl
map-map f g (x ∷ xs) = ap (λ ys. g (f x) ∷ ys) (map-map f g xs)

-- an alias with arguments of a table
pub alias-erased : (T U : List Tree) (id : TermId) (k : AliasTermKind) (ids others : List TermId) → others ≡ ids →
    tree_at U id ≡ alias k (forest (map (tree_at T) others)) → erased_at U id ≡ alias k (forest (erased_all T ids))
unfolding erased
alias-erased T U id k ids others o e =
    ap erased e ∙ ap (alias k) (forest-erased (map (tree_at T) others) ∙ ap forest (map-map (tree_at T) erased others ∙ ap (erased_all T) o))

-- the clause of a trait with arguments of a table
pub clause-erased : (T U : List Tree) (id : TermId) (i : TraitId) (n : ℕ) (ids others : List TermId) → others ≡ ids →
    tree_at U id ≡ node (head.DynTrait i n) (forest (map (tree_at T) others)) → erased_at U id ≡ node (head.DynTrait i n) (forest (erased_all T ids))
unfolding erased
clause-erased T U id i n ids others o e =
    ap erased e ∙ ap (node (head.DynTrait i n)) (forest-erased (map (tree_at T) others) ∙ ap forest (map-map (tree_at T) erased others ∙ ap (erased_all T) o))

-- so they fit an alias
pub args_fit : (T : List Tree) (ids others : List TermId) → others ≡ ids → AreIn T ids → All IsArgument (map (tree_at T) others)
args_fit T ids others o h = All-map IsArgument (tree_at T) others (subst (All (λ x. IsArgument (tree_at T x))) (sym o) (λ k d l. (h k d l).1))

-- the arguments but the first
pub rest-erased : (T : List Tree) (ids : List TermId) → erased_all T (rest_of ids) ≡ rest_of (erased_all T ids)
rest-erased T [] = refl
rest-erased T (id ∷ ids) = refl
