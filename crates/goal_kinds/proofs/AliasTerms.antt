-- An alias that a table has as it stands, with its arguments.
use Rattle.std.proofs.Common.{◌≡◌, ◌<◌, List, [], ◌∷◌, length, map, ap, ◌∙◌, sym, subst, arith}
use Rattle.std.specs.List.{All}
use Rattle.std.proofs.lemmas.List.Elements.{All-cons, All-nil}
use Rattle.goal_terms.specs.Erased.{erased}
use Rattle.goal_terms.specs.Sorts.{IsArgument}
use Rattle.goal_interner.specs.TableMeaning.{tree_at, AreBelow}
use Rattle.goal_terms.specs.Tree.{Tree, alias, forest, parts_of}
use Rattle.goal_terms.specs.TreeOf.{tree_of_alias, tree_of_arg, trees_of}
use Rattle.goal_interner.specs.declared.term_nodes.TermId.{TermId}
use Rattle.goal_terms.specs.declared.terms.AliasTerm.{AliasTerm}
use Rattle.goal_terms.specs.declared.terms.GenericArg.{GenericArg}
use Rattle.goal_terms.proofs.SortLemmas.{arg_sort}
use Rattle.goal_terms.proofs.TreeLemmas.{list_of-forest, tree_of_alias-record}
use Rattle.goal_lists.specs.Interned.{erased_at, erased_all, IsIn, AreIn}
use Rattle.goal_lists.specs.RowWords.{given}
use Rattle.goal_lists.proofs.ClauseListLemmas.{all-unmapped}
use Rattle.goal_lists.proofs.EachRuleLemmas.{mapped-twice}
use Rattle.goal_kinds.proofs.ImplTermKindLemmas.{alias-erased}
use Rattle.goal_lists.proofs.PremiseTerms.{alias-argument}

-- public arguments are arguments
args-arguments : (args : List GenericArg) → All IsArgument (trees_of args)
args-arguments [] = All-nil IsArgument
args-arguments (a ∷ args) = All-cons IsArgument (tree_of_arg a) (trees_of args) (arg_sort a) (args-arguments args)

module _ (T : List Tree) (a : AliasTerm) (id : TermId) (there : tree_at T id ≡ tree_of_alias a) where
  pub alias-in : id.0 < length T → IsIn T id
  alias-in within = (within, subst IsArgument (sym there) (alias-argument a))

  pub alias-itself : erased_at T id ≡ alias a.kind (forest (given a.args))
  alias-itself = ap erased there ∙ alias-erased a

  -- the numbers of its parts are those of its arguments
  module _ (parts ids : List TermId) (trees : map (tree_at T) parts ≡ parts_of (tree_at T id)) (made : ids ≡ parts) where
    pub alias-exact : map (tree_at T) ids ≡ trees_of a.args.items
    alias-exact = ap (map (tree_at T)) made ∙ trees ∙ ap parts_of (there ∙ tree_of_alias-record a) ∙ list_of-forest (trees_of a.args.items)

    pub alias-given : erased_all T ids ≡ given a.args
    alias-given = mapped-twice (tree_at T) erased ids ∙ ap (map erased) alias-exact

    pub alias-args : AreBelow id.0 parts → id.0 < length T → AreIn T ids
    alias-args below within =
        let all : All (λ x. IsArgument (tree_at T x)) ids = all-unmapped IsArgument (tree_at T) ids (subst (All IsArgument) (sym alias-exact) (args-arguments a.args.items)) in
        let before : AreBelow id.0 ids = subst (AreBelow id.0) (sym made) below in
        λ j d l. (omega (arith, before j d l), all j d l)
