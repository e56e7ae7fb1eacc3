-- What the views of terms stand for.
use Rattle.std.specs.Prelude.{List, [], ◌∷◌, ◌++◌, map}
use Rattle.goal_terms.specs.Tree.{Tree}
use Rattle.goal_terms.specs.TreeOf.{leaf, tree_of_ty, tree_of_const, tree_of_arg, tree_of_term, tree_of_clause, tree_of_alias, tree_of_sig}
use Rattle.goal_terms.specs.declared.heads.Head.TheVariants as head
use Rattle.goal_terms.specs.declared.view.TermRef.{TermRef}
use Rattle.goal_terms.specs.declared.view.TermRef.TheVariants as view
use Rattle.goal_terms.specs.declared.view.Parts.{Parts}
use Rattle.goal_terms.specs.declared.view.Parts.TheVariants as parts

-- the tree of a part of a term
abbrev pub tree_of_ref : TermRef → Tree
tree_of_ref (view.Ty t) = tree_of_ty t.now
tree_of_ref (view.Const c) = tree_of_const c.now
tree_of_ref (view.Lifetime r) = leaf (head.Lifetime r)
tree_of_ref (view.Clause c) = tree_of_clause c.now
tree_of_ref (view.Alias a) = tree_of_alias a.now
tree_of_ref (view.Signature s) = tree_of_sig s.now

-- the trees of the parts of a term
abbrev pub trees_seen : Parts → List Tree
trees_seen parts.None = []
trees_seen (parts.One t) = tree_of_ty t.now ∷ []
trees_seen (parts.Array t c) = tree_of_ty t.now ∷ tree_of_const c.now ∷ []
trees_seen (parts.Args args) = map tree_of_arg args.now
trees_seen (parts.Tys tys) = map tree_of_ty tys.now
trees_seen (parts.Signature inputs output) = map tree_of_ty inputs.now ++ tree_of_ty output.now ∷ []
trees_seen (parts.Clauses clauses) = map tree_of_clause clauses.now
trees_seen (parts.Projection args t) = map tree_of_arg args.now ++ tree_of_term t.now ∷ []
